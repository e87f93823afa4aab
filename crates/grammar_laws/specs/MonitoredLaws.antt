-- That what is parsed of monitored C at each depth is what its production says, and that one deeper passes the limit.
use Rattle.std.specs.Prelude.{ℕ, zero, suc, Bool, []}
use Rattle.grammar.specs.Syntax.{none, deep}
use Rattle.grammar.specs.Exact.{Same}
use Rattle.c_model.specs.Punctuators.{left_paren}
use Rattle.c_model.specs.Terminals.{expression_limit, nesting_limit}
use Rattle.mon_syntax.specs.declared.tree.MonType.{MonType}
use Rattle.mon_syntax.specs.Parsed.{NameUse, ParsedStatement}
use Rattle.mon_syntax.specs.Grammar.{store_mark, Vocabulary, mark, opened, expression_in, statement_in}
use Rattle.grammar_laws.specs.MonitoredProductions as production

abbrev pub ExpressionsAreProductions : Type 0
ExpressionsAreProductions = (ws : Vocabulary) (n : ℕ) → Same (expression_in ws (suc n)) (production.expr ws (opened ws n) (expression_in ws n))

abbrev pub DeeperExpressionsAreLate : Type 0
DeeperExpressionsAreLate = (ws : Vocabulary) → Same (expression_in ws zero) (production.least_expr ws (deep expression_limit (λ _. 0) [] (mark ws left_paren)))

abbrev pub StatementsAreProductions : Type 0
StatementsAreProductions = (ws : Vocabulary) (n : ℕ) (b : Bool) → Same (statement_in ws (suc n) b) (production.statement ws (statement_in ws n) b)

abbrev pub DeeperStatementsAreLate : Type 0
DeeperStatementsAreLate = (ws : Vocabulary) (b : Bool) → Same (statement_in ws zero b) (deep nesting_limit (λ _. 0) [] (production.statement ws (λ _. none) b))

abbrev pub MarksAreProductions : Type 0
MarksAreProductions = (ws : Vocabulary) (t : MonType) (x : NameUse) (a : ParsedStatement) → Same (store_mark ws t x a) (production.store_mark ws t x a)
