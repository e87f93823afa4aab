-- That what is parsed at each depth is what its production says, and that one deeper passes the limit.
use Rattle.std.specs.Prelude.{ℕ, zero, suc, List, []}
use Rattle.grammar.specs.Syntax.{none, deep}
use Rattle.grammar.specs.Exact.{Same}
use Rattle.c_syntax.specs.Programs.{StructMember}
use Rattle.c_model.specs.declared.declarations.AnnotationState.{AnnotationState}
use Rattle.c_model.specs.Terminals.{nesting_limit}
use Rattle.c_model.specs.Vocabulary.{Vocabulary}
use Rattle.c_model.specs.DeclarationGrammar.{Definitions, TagHead, braces_in, list_in}
use Rattle.c_model.specs.DeclarationGrammar as parsed
use Rattle.c_model.specs.ClauseGrammar.{ReadAnnotation}
use Rattle.c_model.specs.ProgramGrammar.{behind_in, branch_in, inside_in, item, statement_in}
use Rattle.grammar_laws.specs.DeclarationProductions as production
use Rattle.grammar_laws.specs.StatementProductions as written

-- ---- lists and braces

abbrev pub ListsAreProductions : Type 0
ListsAreProductions = (ws : Vocabulary) (n : ℕ) → Same (list_in ws (suc n)) (production.list ws (list_in ws n))

abbrev pub DeeperListsAreLate : Type 0
DeeperListsAreLate = (ws : Vocabulary) → Same (list_in ws zero) (deep nesting_limit (λ _. 0) [] (production.list ws none))

abbrev pub TypesAreProductions : Type 0
TypesAreProductions = (ws : Vocabulary) (n : ℕ) (d : Definitions) → Same (parsed.braced ws (braces_in ws n) d) (production.braced ws (braces_in ws n) d)

abbrev pub BracesAreProductions : Type 0
BracesAreProductions =
    (ws : Vocabulary) (n : ℕ) (h : TagHead) (d : Definitions) → Same (braces_in ws (suc n) h d) (production.braces ws (braces_in ws n) h d)

abbrev pub DeeperBracesAreLate : Type 0
DeeperBracesAreLate =
    (ws : Vocabulary) (h : TagHead) (d : Definitions) → Same (braces_in ws zero h d) (deep nesting_limit (λ _. 0) [] (production.braces ws (λ _ _. none) h d))

abbrev pub MembersAreProductions : Type 0
MembersAreProductions =
    (ws : Vocabulary) (n : ℕ) (x : List StructMember × Definitions) → Same (parsed.member ws (braces_in ws n) x) (production.member ws (braces_in ws n) x)

-- ---- statements

abbrev pub StatementsAreProductions : Type 0
StatementsAreProductions =
    (ws : Vocabulary) (n : ℕ) (s : AnnotationState) → Same (statement_in ws (suc n) s) (written.stmt ws (statement_in ws n) (inside_in ws n) (branch_in ws n) s)

abbrev pub ItemsAreProductions : Type 0
ItemsAreProductions =
    (ws : Vocabulary) (n : ℕ) (s : AnnotationState)
    → Same (item ws (statement_in ws n) (inside_in ws n) s) (written.item ws (statement_in ws n) (inside_in ws n) s)

abbrev pub BranchesAreProductions : Type 0
BranchesAreProductions =
    (ws : Vocabulary) (n : ℕ) (s : AnnotationState) → Same (branch_in ws (suc n) s) (written.branch ws (statement_in ws (suc n)) (behind_in ws n) s)

abbrev pub DeeperStatementsAreLate : Type 0
DeeperStatementsAreLate =
    (ws : Vocabulary) (s : AnnotationState)
    → Same (statement_in ws zero s) (deep nesting_limit (λ _. 0) [] (written.stmt ws (λ _. none) (λ _ _. none) (λ _. none) s))

-- what stands behind an annotation, where statements stand so deep; T and U stand for those that begin with no annotation, U being no loop
abbrev pub InsideIsProduction : Type 0
InsideIsProduction =
    (ws : Vocabulary) (n : ℕ) (x : ReadAnnotation × ℕ) (s : AnnotationState)
    → Same (behind_in ws (suc n) x s)
    (written.inside ws (written.loop ws (branch_in ws n)) (statement_in ws (suc n)) (written.unlooped ws (statement_in ws n) (inside_in ws n) (branch_in ws n))
    (behind_in ws n) x s)

-- it is what stands inside a statement that is one deeper
abbrev pub InsideIsBehind : Type 0
InsideIsBehind = (ws : Vocabulary) (n : ℕ) (x : ReadAnnotation × ℕ) (s : AnnotationState) → Same (inside_in ws (suc n) x s) (behind_in ws n x s)
