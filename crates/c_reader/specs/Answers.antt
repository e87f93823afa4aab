-- Ours, in words of the phases of c_model/specs/Phases.
-- What the answers on a C text mean.
use Rattle.std.specs.Prelude.{◌≡◌, ℕ, List, Ok}
use Rattle.c_syntax.specs.declared.refusal.FrontFault.{FrontFault}
use Rattle.c_syntax.specs.declared.refusal.FrontFault.TheVariants as front
use Rattle.c_syntax.specs.Tokens.{PlainTokens}
use Rattle.c_syntax.specs.Programs.{TranslationUnit, PlainRefusal, plain_refusal}
use Rattle.c_model.specs.CTokens.{tokens_of}
use Rattle.c_model.specs.Checked.{Good}
use Rattle.c_model.specs.AnnotationTyping.{noted_unit}
use Rattle.c_model.specs.AnnotationRanges.{ranged_unit}
use Rattle.c_model.specs.Phases.{IsRead, RefusedText}
use Rattle.c_phases.specs.Answers.{IsFaultRefusal}
use Rattle.c_typing.specs.Answers.{IsTypedAs, IsTypingRefusal}

-- a refusal is the text's; nothing is said when memory ran out
abbrev pub Refuses : FrontFault → List ℕ → Type 0
Refuses front.Memory text = Unit {0}
Refuses (front.Refused r) text = RefusedText text (plain_refusal r)

-- the text has these tokens, and they are read as this tree
pub record HasTree (text : List ℕ) (ts : PlainTokens) (tree : TranslationUnit) : Type 0 where
  pub has : tokens_of text ≡ Ok ts
  pub read : IsRead ts tree

-- what typing, the typing of annotations and their ranges make of a tree
pub record IsRangedAs (tree p : TranslationUnit) : Type 0 where
  pub typed : TranslationUnit
  pub is_typed : IsTypedAs tree typed
  pub noted : TranslationUnit
  pub is_noted : noted_unit typed ≡ Good noted
  pub ranged : ranged_unit noted ≡ Good p

-- why they make nothing of it
pub data IsCheckRefusal (ts : PlainTokens) (tree : TranslationUnit) (r : PlainRefusal) : Type 0 where
  OfTyping : IsTypingRefusal ts tree r → IsCheckRefusal ts tree r
  OfAnnotations : (typed : TranslationUnit) → IsTypedAs tree typed → IsFaultRefusal ts (noted_unit typed) r → IsCheckRefusal ts tree r
  OfRanges : (typed noted : TranslationUnit) → IsTypedAs tree typed → noted_unit typed ≡ Good noted → IsFaultRefusal ts (ranged_unit noted) r
      → IsCheckRefusal ts tree r

abbrev pub HasFault : FrontFault → PlainTokens → TranslationUnit → Type 0
HasFault front.Memory ts tree = Unit {0}
HasFault (front.Refused r) ts tree = IsCheckRefusal ts tree (plain_refusal r)
