use Rattle.std.proofs.Common.{◌≡◌, map, drop}
use Rattle.c_syntax.specs.Programs.{plain_func}
use Rattle.c_model.specs.UnitTyping.{main_fault}
use Rattle.c_typing.proofs.program.main_fault.Given as goal

abbrev pub invariant-loop-f : goal.invariant-loop-f
invariant-loop-f l = main_fault l.names (map plain_func (drop l.f-index l.funcs)) ≡ main_fault l.names (map plain_func l.funcs)
