use Rattle.std.proofs.Common.{◌≡◌, ◌<◌, ◌++◌, length, drop, map}
use Rattle.c_syntax.specs.Programs.{plain_func, plain_program}
use Rattle.mon_syntax.specs.Trees.{plain_func as plain_monitored_func}
use Rattle.c_initialisers.specs.Letters.{InitialsHaveLetters}
use Rattle.instrument.specs.Limits.{FunctionsHaveNumbers}
use Rattle.instrument.specs.Translation.{functions_from}
use Rattle.instrument.proofs.program.functions.Given as goal

abbrev pub invariant-funcs : goal.invariant-funcs
invariant-funcs l = record {
  code : map plain_monitored_func l.functions.items ++ functions_from (plain_program l.p) l.main (length l.functions.items) (map plain_func (drop l.f-index l.f-items)) ≡
      functions_from (plain_program l.p) l.main 0 (map plain_func l.f-items);
  program : l.names.program ≡ l.p;
  numbers : FunctionsHaveNumbers (plain_program l.p) l.main (length l.functions.items) (map plain_func (drop l.f-index l.f-items)) → FunctionsHaveNumbers (plain_program l.p) l.main 0 (map plain_func l.f-items);
  letters : l.main < length l.functions.items → InitialsHaveLetters (plain_program l.p).globals;
}
