-- What begins a declaration or a statement.
use Rattle.std.proofs.Common.{◌≡◌, ℕ, Bool, true, false, ◌||◌, ◌++◌, ap, ◌∙◌}
use Rattle.grammar.specs.Syntax.{among}
use Rattle.c_model.specs.ExpressionGrammar.{first_type}
use Rattle.c_model.specs.ProgramGrammar.{first_statement}
use Rattle.c_expr_parser.proofs.Words.{among_joined}

pub type_first : (k : ℕ) → true ≡ among k first_type → true ≡ among k (first_type ++ first_statement)
type_first k e = ap (λ (b : Bool). b || among k first_statement) e ∙ among_joined k first_type first_statement

pub behind_type : (k : ℕ) (b : Bool) → false ≡ among k first_type → b ≡ among k first_statement → b ≡ among k (first_type ++ first_statement)
behind_type k b e f = f ∙ ap (λ (c : Bool). c || among k first_statement) e ∙ among_joined k first_type first_statement
