-- Ours, in words of the grammar of C99 6.7 to 6.9 that stands in c_model/specs/ProgramGrammar.
-- What the answers on the tokens of a text mean.
use Rattle.std.specs.Prelude.{◌≡◌, ◌⊎◌}
use Rattle.grammar.specs.Syntax.{ParseFault}
use Rattle.c_syntax.specs.Tokens.{PlainTokens}
use Rattle.c_syntax.specs.Programs.{TranslationUnit, PlainRefusal, plain_refusal}
use Rattle.c_syntax.specs.declared.refusal.FrontFault.{FrontFault}
use Rattle.c_syntax.specs.declared.refusal.FrontFault.TheVariants as front
use Rattle.c_parser.specs.declared.fault.PlaceFault.{PlaceFault}
use Rattle.c_model.specs.Checked.{Fault}
use Rattle.c_model.specs.Phases.{IsSyntaxFault, IsMisplaced}
use Rattle.c_model.specs.TokenWords.{syntax_refusal, refused_at_place}

abbrev pub plain_fault : PlaceFault → Fault
plain_fault f = record { code = f.code; place = f.place }

-- The tokens are refused by the grammar: they are no program, and the refusal names the first token that can't follow
-- those before it (E4) or that passes a limit (E11).
pub record IsGrammarRefusal (ts : PlainTokens) (r : PlainRefusal) : Type 0 where
  pub fault : ParseFault
  pub found : IsSyntaxFault ts fault
  pub is : r ≡ syntax_refusal ts fault

-- The tokens are a program, in which an annotation stands where none of its kind may, or a variant behind another one of its loop, or a quantifier
-- without a guard; the refusal names the first word of the annotation or of the variant (E7), or the quantifier (E8), whichever stands first.
pub record IsPlaceRefusal (ts : PlainTokens) (r : PlainRefusal) : Type 0 where
  pub tree : TranslationUnit
  pub fault : Fault
  pub found : IsMisplaced ts tree fault
  pub is : r ≡ refused_at_place ts fault.code fault.place

-- nothing is said when memory ran out
abbrev pub Refuses : FrontFault → PlainTokens → Type 0
Refuses front.Memory ts = Unit {0}
Refuses (front.Refused r) ts = IsGrammarRefusal ts (plain_refusal r) ⊎ IsPlaceRefusal ts (plain_refusal r)
