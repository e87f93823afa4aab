-- Ours: productions of C99 6.5 and 6.7.2 (c_model/specs/ExpressionGrammar), cut as the code reads them.
-- Faults within the limit of an expression, the plain forms of what is read in parts, and repetitions.
use Rattle.std.specs.Prelude.{◌≡◌, ◌≤◌, ◌+◌, ℕ, zero, suc, List, [], ◌∷◌, map}
use Rattle.grammar.specs.Syntax.{Syntax, ◌then◌, many}
use Rattle.c_syntax.specs.Tokens.{PlainToken}
use Rattle.c_syntax.specs.Ctypes.{PlainType, Void, Int, Struct, Named, StructTag, EnumTag, PlainLength, plain_length}
use Rattle.c_syntax.specs.Expressions.{Expression, plain_expr}
use Rattle.c_model.specs.declared.vocabulary.IntegerWords.{IntegerWords}
use Rattle.c_model.specs.declared.operands.Stars.{Stars}
use Rattle.c_model.specs.declared.operands.Level.TheVariants.{Assignment}
use Rattle.c_model.specs.declared.operands.TypeUse.TheVariants.{Casts}
use Rattle.c_model.specs.Vocabulary.{Vocabulary}
use Rattle.c_model.specs.Punctuators.{comma, times, left_bracket}
use Rattle.c_model.specs.ExpressionGrammar.{TypeStart, ConstStart, VoidStart, StructStart, EnumStart, NameStart, IntegerStart, ReadOperand, kind, mark_kind}
use Rattle.c_model.specs.ExpressionGrammar.{kinds_of, operators_at}
use Rattle.c_model.specs.ExpressionGrammar.{words_behind, integer_word, next_star, next_bracket, operand, behind_operand, joined_once, expression_at}
use Rattle.c_model.specs.ExpressionGrammar.{expression}
use Rattle.c_model.specs.ExpressionGrammar.{next_argument, next_part}
use Rattle.c_expr_parser.specs.declared.parts.ReadOperand as code_operand
use Rattle.c_expr_parser.specs.declared.types.BaseType.{BaseType}
use Rattle.c_expr_parser.specs.declared.types.BaseType.TheVariants as words
use Rattle.c_expr_parser.specs.declared.declarator.Bracket.{Bracket}
use Rattle.c_expr_parser.specs.declared.type_start.TypeStart as code_start
use Rattle.c_expr_parser.specs.declared.type_start.TypeStart.TheVariants as start
use Rattle.c_syntax.specs.declared.fault.Limit.TheVariants as limits
use Rattle.c_syntax.specs.declared.fault.ReadFault.{ReadFault}
use Rattle.c_syntax.specs.declared.fault.ReadFault.TheVariants as fault

-- so many tokens are left at most
abbrev pub LeftWithin : ReadFault → ℕ → Type 0
LeftWithin (fault.At n) most = n ≤ most
LeftWithin (fault.Over limit n) most = n ≤ most
LeftWithin fault.Memory most = Unit {0}

-- the fault of a text of which so many tokens stand after those that were read, one more than an expression may have
abbrev pub Resumed : ReadFault → ℕ → ReadFault → Type 0
Resumed (fault.At zero) far r = r ≡ fault.Over limits.Expression (far + 1)
Resumed (fault.At (suc n)) far r = r ≡ fault.At (suc n + far)
Resumed (fault.Over limit n) far r = r ≡ fault.Over limit (n + far)
Resumed fault.Memory far r = r ≡ fault.Memory

abbrev pub plain_operand : code_operand.ReadOperand → ReadOperand
plain_operand x = record { expression = plain_expr x.expression; form = x.form; first = x.first }

-- the type that words name
abbrev pub plain_base : BaseType → PlainType
plain_base words.Void = Void
plain_base (words.Int k) = Int k
plain_base (words.Struct n) = Struct n
plain_base (words.Named x) = Named x
plain_base (words.StructTag x at) = StructTag x at
plain_base (words.EnumTag x at) = EnumTag x at

abbrev pub plain_brackets : List Bracket → List PlainLength
plain_brackets bs = map (λ (b : Bracket). plain_length b.length) bs

-- how a type begins, and the same with the number of its first word
abbrev pub plain_start : code_start.TypeStart → TypeStart
plain_start start.Const = ConstStart
plain_start start.Void = VoidStart
plain_start start.Struct = StructStart
plain_start start.Enum = EnumStart
plain_start (start.Name t) = NameStart (plain_base t)
plain_start (start.Integer x) = IntegerStart x

abbrev pub plain_started : code_start.TypeStart × ℕ → TypeStart × ℕ
plain_started x = (plain_start x.0, x.1)

-- ---- repetitions, after what is read

module _ (ws : Vocabulary) where
  unfoldable pub more_words : IntegerWords → Syntax PlainToken IntegerWords
  more_words x = many (kind ws) words_behind (integer_word ws) x

  unfoldable pub more_stars : Stars → Syntax PlainToken Stars
  more_stars s = many (kind ws) (λ _. mark_kind times ∷ []) (next_star ws) s

  unfoldable pub more_brackets : Syntax PlainToken PlainLength → List PlainLength → Syntax PlainToken (List PlainLength)
  more_brackets L ns = many (kind ws) (λ _. mark_kind left_bracket ∷ []) (next_bracket ws L) ns

  -- the right operand of an operator of the level
  unfoldable pub right_operand : ℕ → Syntax PlainToken Expression
  right_operand l =
      operand ws (expression ws) (expression_at ws Assignment) Casts then λ z. behind_operand ws (expression ws) (expression_at ws Assignment) l z.expression

  unfoldable pub more_joined : ℕ → Expression → Syntax PlainToken Expression
  more_joined l x = many (kind ws) (λ _. kinds_of (operators_at l)) (joined_once ws l (right_operand l)) x

  unfoldable pub more_arguments : List Expression → Syntax PlainToken (List Expression)
  more_arguments es = many (kind ws) (λ _. mark_kind comma ∷ []) (next_argument ws (expression_at ws Assignment)) es

  -- the parts of a comma after the left side
  unfoldable pub more_parts : Expression → Syntax PlainToken Expression
  more_parts x = many (kind ws) (λ _. mark_kind comma ∷ []) (next_part ws (expression_at ws Assignment)) x
