-- Ours, in words of the grammar of monitored C that stands in mon_syntax/specs/Grammar.
-- What the answers on the tokens of a text mean.
use Rattle.std.specs.Prelude.{◌≡◌}
use Rattle.grammar.specs.Syntax.{ParseFault}
use Rattle.grammar.specs.Exact.{Refused}
use Rattle.c_syntax.specs.Tokens.{PlainTokens}
use Rattle.c_syntax.specs.Programs.{PlainRefusal, plain_refusal}
use Rattle.c_syntax.specs.declared.refusal.FrontFault.{FrontFault}
use Rattle.c_syntax.specs.declared.refusal.FrontFault.TheVariants as front
use Rattle.c_model.specs.TokenWords.{syntax_refusal}
use Rattle.mon_syntax.specs.Parsed.{ParsedProgram}
use Rattle.mon_syntax.specs.Grammar.{text}
use Rattle.mon_syntax.specs.Spelled.{vocabulary, IsRead}

-- The tokens are refused by the grammar: they are no reading, and the refusal names the first token that can't follow
-- those before it (E4) or that passes a limit (E11).
pub record IsGrammarRefusal (ts : PlainTokens) (r : PlainRefusal) : Type 0 where
  pub fault : ParseFault
  pub refused : Refused (text (vocabulary ts)) ts.list fault
  pub unread : (p : ParsedProgram) → IsRead ts p → ⊥
  pub is : r ≡ syntax_refusal ts fault

-- nothing is said when memory ran out
abbrev pub Refuses : FrontFault → PlainTokens → Type 0
Refuses front.Memory ts = Unit {0}
Refuses (front.Refused r) ts = IsGrammarRefusal ts (plain_refusal r)
