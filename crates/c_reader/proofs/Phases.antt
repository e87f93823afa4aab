-- From what a phase gave to what the text is.
use Rattle.std.proofs.Common.{◌≡◌, ℕ, ◌<◌, List, length, Result, Ok, Err, inl, inr}
use Rattle.std.specs.Prelude.{MatchResult}
use Rattle.c_syntax.specs.declared.refusal.FrontFault.{FrontFault}
use Rattle.c_syntax.specs.declared.refusal.FrontFault.TheVariants as front
use Rattle.c_syntax.specs.Tokens.{PlainTokens}
use Rattle.c_syntax.specs.Programs.{TranslationUnit, PlainRefusal, plain_program}
use Rattle.c_model.specs.CTokens.{tokens_of}
use Rattle.c_model.specs.Checked.{Good}
use Rattle.c_model.specs.AnnotationTyping.{noted_unit}
use Rattle.c_model.specs.AnnotationRanges.{ranged_unit}
use Rattle.c_model.specs.ReadTree.{AreBytes}
use Rattle.c_model.specs.Phases.{IsRead, IsTyped, AcceptedText, RefusedText, ByGrammar, ByPlaces, ByNamesAndTypes, ForRoom, ForMain, ByAnnotations, ByRanges}
use Rattle.c_model.specs.UnitTyping.{typed_unit}
use Rattle.c_parser.specs.Answers as parser
use Rattle.c_phases.specs.declared.noted.Ranged.{Ranged}
use Rattle.c_phases.specs.Facts.{IsParsedTree}
use Rattle.c_phases.specs.Answers.{RefusedBy, IsFaultRefusal}
use Rattle.c_typing.specs.Answers.{IsTypedAs, IsTypingRefusal, OfTypes, OfRoom, OfMain}
use Rattle.c_reader.specs.Answers.{Refuses, HasTree, IsRangedAs, OfTyping, OfAnnotations, OfRanges, HasFault}
use Rattle.c_reader.proofs.ReadTrees.{tree_is_read}

-- ---- names, types and ranges

module _ (ts : PlainTokens) (tree : TranslationUnit) where
  pub typing_fails : (e : FrontFault) → RefusedBy (IsTypingRefusal ts tree) e → HasFault e ts tree
  typing_fails front.Memory h = tt
  typing_fails (front.Refused x) h = OfTyping h

  module _ (typed : TranslationUnit) (is_typed : IsTypedAs tree typed) where
    pub annotations_fail : (e : FrontFault) → RefusedBy (IsFaultRefusal ts (noted_unit typed)) e → HasFault e ts tree
    annotations_fail front.Memory h = tt
    annotations_fail (front.Refused x) h = OfAnnotations typed is_typed h

    module _ (noted : TranslationUnit) (is_noted : noted_unit typed ≡ Good noted) where
      ranges_fail : (e : FrontFault) → RefusedBy (IsFaultRefusal ts (ranged_unit noted)) e → HasFault e ts tree
      ranges_fail front.Memory h = tt
      ranges_fail (front.Refused x) h = OfRanges typed noted is_typed is_noted h

      ranged_as : (p : TranslationUnit) → ranged_unit noted ≡ Good p → IsRangedAs tree p
      ranged_as p h = record { typed = typed; is_typed = is_typed; noted = noted; is_noted = is_noted; ranged = h }

      pub ranges_answer : (r : Result Ranged FrontFault) → MatchResult r (λ x. ranged_unit noted ≡ Good (plain_program x.program)) (λ e. RefusedBy (IsFaultRefusal ts (ranged_unit noted)) e)
          → MatchResult r (λ x. IsRangedAs tree (plain_program x.program)) (λ e. HasFault e ts tree)
      ranges_answer (Ok x) h = ranged_as (plain_program x.program) h
      ranges_answer (Err e) h = ranges_fail e h

-- ---- the text

pub keeps_tree : (text : List ℕ) (ts : PlainTokens) (tree : TranslationUnit) → AreBytes text → length text < 4294967295 → HasTree text ts tree → ∥ IsParsedTree ts tree ∥₁
keeps_tree text ts tree bytes few h = ∣ (record { read = h.read; order = (tree_is_read text ts tree bytes few h.has h.read).order }) ∣₁

module _ (text : List ℕ) (ts : PlainTokens) (has : tokens_of text ≡ Ok ts) where
  pub refused_by_grammar : (e : FrontFault) → parser.Refuses e ts → Refuses e text
  refused_by_grammar front.Memory g = tt
  refused_by_grammar (front.Refused x) (inl g) = ByGrammar ts g.fault has g.found g.is
  refused_by_grammar (front.Refused x) (inr g) = ByPlaces ts g.tree g.fault has g.found g.is

  module _ (tree : TranslationUnit) (read : IsRead ts tree) where
    is_typed : (typed : TranslationUnit) → typed_unit tree ≡ Good typed → IsTyped text ts tree typed
    is_typed typed h = record { tokens = has; read = read; is = h }

    refused_by_typing : (r : PlainRefusal) → IsTypingRefusal ts tree r → RefusedText text r
    refused_by_typing r (OfTypes f h k) = ByNamesAndTypes ts tree f has read h k
    refused_by_typing r (OfRoom f h k) = ForRoom ts tree h.typed f (is_typed h.typed h.is) h.room k
    refused_by_typing r (OfMain f h k) = ForMain ts tree h.typed f (is_typed h.typed h.is) h.room h.main k

    pub refused_by_check : (e : FrontFault) → HasFault e ts tree → Refuses e text
    refused_by_check front.Memory g = tt
    refused_by_check (front.Refused x) (OfTyping h) = refused_by_typing _ h
    refused_by_check (front.Refused x) (OfAnnotations typed t h) = ByAnnotations ts tree typed h.fault (is_typed typed t.typed) t.room t.main h.found h.is
    refused_by_check (front.Refused x) (OfRanges typed noted t n h) = ByRanges ts tree typed noted h.fault (is_typed typed t.typed) t.room t.main n h.found h.is

    pub accepted_as : AreBytes text → length text < 4294967295 → (p : TranslationUnit) → IsRangedAs tree p → AcceptedText text p
    accepted_as bytes few p r = record {
      bytes = bytes;
      few = few;
      tokens = ts;
      tree = tree;
      typed = r.typed;
      is_typed = is_typed r.typed r.is_typed.typed;
      room = r.is_typed.room;
      main = r.is_typed.main;
      noted = r.noted;
      is_noted = r.is_noted;
      ranged = r.ranged;
    }
