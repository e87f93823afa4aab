-- Ours, in words of the grammar of ACSL 2.2 to 2.4 that stands in c_model/specs/ClauseGrammar.
-- What the answers on the tokens of a text mean.
use Rattle.std.specs.Prelude.{◌≡◌, ◌≤◌, ◌<◌, ℕ, List, [], length, drop, Option, Some, None, Result, Ok, Err}
use Rattle.grammar.specs.Syntax.{ParseFault}
use Rattle.grammar.specs.Exact.{Found}
use Rattle.c_syntax.specs.Logic.{Annotation}
use Rattle.c_syntax.specs.Tokens.{PlainToken, PlainTokens}
use Rattle.c_syntax.specs.Programs.{FunctionContract, PlainRefusal, plain_refusal}
use Rattle.c_syntax.specs.declared.refusal.FrontFault.{FrontFault}
use Rattle.c_syntax.specs.declared.refusal.FrontFault.TheVariants as front
use Rattle.c_model.specs.TokenWords.{syntax_refusal}
use Rattle.c_model.specs.ClauseGrammar.{ReadAnnotation, Assertions, Contracted, Looped, annotations}
use Rattle.c_expr_parser.specs.Answers.{NotRead, words_of}

-- ---- the annotation at a place of the tokens, whose clauses take the numbers from `first` on

-- the tokens from the place on, read as an annotation; with its clauses comes the number of the next one
abbrev pub annotation_at : PlainTokens → List ℕ → ℕ → ℕ → Result ((ReadAnnotation × ℕ) × List PlainToken) ParseFault
annotation_at ts types at first = (annotations (words_of ts types) first).parse (drop at ts.list)

-- the clauses of asserts or of a loop, and the contract
abbrev pub clauses_of : ReadAnnotation → List Annotation
clauses_of (Assertions clauses) = clauses
clauses_of (Contracted c) = []
clauses_of (Looped l) = l.clauses

abbrev pub contract_of : ReadAnnotation → Option FunctionContract
contract_of (Assertions clauses) = None
contract_of (Contracted c) = Some c
contract_of (Looped l) = None

-- The tokens between the places are read as the annotation: they are the longest run from there on that begins one, and no token passes a limit.
pub record IsReadAt (ts : PlainTokens) (types : List ℕ) (at first : ℕ) (all : List Annotation) (contract : Option FunctionContract) (behind : ℕ) : Type 0 where
  pub forth : at < behind
  pub within : behind ≤ length ts.list
  pub read : ReadAnnotation
  pub clauses : all ≡ clauses_of read
  pub is_contract : contract ≡ contract_of read
  -- the number of the next clause
  pub next : ℕ
  pub parsed : annotation_at ts types at first ≡ Ok ((read, next), drop behind ts.list)
  pub found : Found (annotations (words_of ts types) first) (drop at ts.list) (read, next) (drop behind ts.list)

-- No annotation is read there: the tokens before the refused one begin an annotation and are none, and with it they don't begin one (E4), or it is the
-- first that passes the limit (E11).
pub record IsRefusedAt (ts : PlainTokens) (types : List ℕ) (at first : ℕ) (r : PlainRefusal) : Type 0 where
  pub fault : ParseFault
  pub parsed : annotation_at ts types at first ≡ Err fault
  pub refused : NotRead (annotations (words_of ts types) first) (drop at ts.list) fault
  pub is : r ≡ syntax_refusal ts fault

-- nothing is said when memory ran out
abbrev pub RefusesAt : PlainTokens → List ℕ → ℕ → ℕ → FrontFault → Type 0
RefusesAt ts types at first front.Memory = Unit {0}
RefusesAt ts types at first (front.Refused r) = IsRefusedAt ts types at first (plain_refusal r)
