-- Ours, in words of the grammar of C99 6.5 that stands in c_model/specs/ExpressionGrammar.
-- What is read at a place: the loosest operator, and the names that are types.
use Rattle.std.specs.Prelude.{ℕ, List, [], ◌∷◌, slice_set}
use Rattle.grammar.specs.Syntax.{Syntax}
use Rattle.c_syntax.specs.Expressions.{Expression}
use Rattle.c_syntax.specs.Tokens.{PlainToken}
use Rattle.c_model.specs.declared.operands.Level.TheVariants.{Assignment, Conditional}
use Rattle.c_model.specs.Vocabulary.{Vocabulary, word_at, declared_word}
use Rattle.c_model.specs.ExpressionGrammar.{full_expression, full_expression_at}
use Rattle.c_expr_parser.specs.declared.level.Level.{Level}
use Rattle.c_expr_parser.specs.declared.level.Level.TheVariants.{Comma, Assign, Cond}

-- what the words are where earlier typedefs declare these names (C99 6.7.7)
abbrev pub with_types : Vocabulary → List ℕ → Vocabulary
with_types ws [] = ws
with_types ws (n ∷ ns) = with_types (slice_set ws n (declared_word (word_at ws n))) ns

-- an expression that stands in no other, in which this is the loosest operator
abbrev pub leveled : Vocabulary → Level → Syntax PlainToken Expression
leveled ws Comma = full_expression ws
leveled ws Assign = full_expression_at ws Assignment
leveled ws Cond = full_expression_at ws Conditional
