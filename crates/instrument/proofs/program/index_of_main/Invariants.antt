use Rattle.std.proofs.Common.{◌≡◌, ◌+◌, ◌≤◌, drop, map}
use Rattle.c_syntax.specs.Programs.{plain_func}
use Rattle.instrument.specs.Translation.{index_of_main}
use Rattle.instrument.proofs.program.index_of_main.Given as goal

abbrev pub invariant-funcs : goal.invariant-funcs
invariant-funcs l = (l.index + index_of_main l.texts (map plain_func (drop l.f-index l.funcs)) ≡ index_of_main l.texts (map plain_func l.funcs)) × (l.index ≤ l.f-index)
