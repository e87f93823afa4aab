use Rattle.std.proofs.Common.{◌≡◌, ◌++◌, length, drop, map}
use Rattle.c_syntax.specs.Statements.{plain_decl}
use Rattle.mon_syntax.specs.Trees.{plain_register}
use Rattle.instrument.specs.Translation.{arguments_from}
use Rattle.instrument.proofs.parameter.arguments.Given as goal

abbrev pub invariant-params : goal.invariant-params
invariant-params l =
    map plain_register l.all.items ++ arguments_from l.texts (length l.all.items) (map plain_decl (drop l.d-index l.params)) ≡ arguments_from l.texts 0 (map plain_decl l.params)
