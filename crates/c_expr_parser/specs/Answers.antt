-- Ours, in words of the grammar of C99 6.5 that stands in c_model/specs/ExpressionGrammar.
-- What the answers on the tokens of a text mean.
use Rattle.std.specs.Prelude.{◌≡◌, ◌≤◌, ◌<◌, ℕ, List, length, drop, Result, Ok, Err}
use Rattle.grammar.specs.Syntax.{Syntax, ParseFault, At, Over}
use Rattle.grammar.specs.Exact.{Found, Unread, RefusedOver}
use Rattle.c_syntax.specs.Expressions.{Expression}
use Rattle.c_syntax.specs.Tokens.{PlainToken, PlainTokens}
use Rattle.c_syntax.specs.Programs.{PlainRefusal, plain_refusal}
use Rattle.c_syntax.specs.declared.refusal.FrontFault.{FrontFault}
use Rattle.c_syntax.specs.declared.refusal.FrontFault.TheVariants as front
use Rattle.c_model.specs.Vocabulary.{Vocabulary}
use Rattle.c_model.specs.Phases.{vocabulary}
use Rattle.c_model.specs.TokenWords.{syntax_refusal}
use Rattle.c_expr_parser.specs.declared.level.Level.{Level}
use Rattle.c_expr_parser.specs.Levels.{leveled, with_types}

-- ---- the expression at a place of the tokens

-- the words of the tokens, where earlier typedefs declare these names
abbrev pub words_of : PlainTokens → List ℕ → Vocabulary
words_of ts types = with_types (vocabulary ts) types

-- the tokens from the place on, read as an expression that stands in no other
abbrev pub read_from : PlainTokens → ℕ → Level → List ℕ → Result (Expression × List PlainToken) ParseFault
read_from ts at level types = (leveled (words_of ts types) level).parse (drop at ts.list)

-- The tokens between the places are read as the expression: they are the longest run from there on that begins one, and no
-- token passes a limit.
pub record IsReadAt (ts : PlainTokens) (at : ℕ) (level : Level) (types : List ℕ) (e : Expression) (behind : ℕ) : Type 0 where
  pub forth : at < behind
  pub within : behind ≤ length ts.list
  pub parsed : read_from ts at level types ≡ Ok (e, drop behind ts.list)
  pub found : Found (leveled (words_of ts types) level) (drop at ts.list) e (drop behind ts.list)

-- the refused token can't follow those before it, which are no reading, or it is the first that passes a limit
abbrev pub NotRead : {A : Type 0} → Syntax PlainToken A → List PlainToken → ParseFault → Type 0
NotRead G text (At n) = Unread G text n
NotRead G text (Over i n) = RefusedOver G text i n

-- No expression is read there: the tokens before the refused one begin an expression and are none, and with it they don't
-- begin one (E4), or it is the first that passes the limit (E11).
pub record IsRefusedAt (ts : PlainTokens) (at : ℕ) (level : Level) (types : List ℕ) (r : PlainRefusal) : Type 0 where
  pub fault : ParseFault
  pub parsed : read_from ts at level types ≡ Err fault
  pub refused : NotRead (leveled (words_of ts types) level) (drop at ts.list) fault
  pub is : r ≡ syntax_refusal ts fault

-- nothing is said when memory ran out
abbrev pub RefusesAt : PlainTokens → ℕ → Level → List ℕ → FrontFault → Type 0
RefusesAt ts at level types front.Memory = Unit {0}
RefusesAt ts at level types (front.Refused r) = IsRefusedAt ts at level types (plain_refusal r)
