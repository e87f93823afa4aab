-- The order of the phases is ours: C99 5.1.1.2 has no refusals and no annotations.
-- Which texts are accepted, with which program, and which are refused, why: by tokens, by grammar, by places of annotations and guards of quantifiers, by names
-- and types, for want of room for globals and literals, for want of `main`, by the names and types of annotations, and for want of a range
-- of a term, in this order.
use Rattle.std.specs.Prelude.{◌≡◌, ℕ, ◌<◌, List, length, map, Option, Some, None, option_map, Ok, Err, codes, if◌then◌else◌, nat_eq}
use Rattle.grammar.specs.Syntax as grammar
use Rattle.grammar.specs.Exact.{Accepts, Refused}
use Rattle.c_syntax.specs.RefusalCodes.{limit_code, misplaced_code, guard_code}
use Rattle.c_syntax.specs.declared.place.Place.{Place}
use Rattle.c_syntax.specs.Tokens.{PlainTokens}
use Rattle.c_syntax.specs.Programs.{TranslationUnit, PlainRefusal}
use Rattle.c_model.specs.CTokens.{tokens_of}
use Rattle.c_model.specs.Vocabulary.{Vocabulary, word_of}
use Rattle.c_model.specs.ProgramGrammar.{texts_of, unit}
use Rattle.c_model.specs.Checked.{Fault, lesser, Good, refusing}
use Rattle.c_model.specs.UnguardedPrograms.{unguarded_in_unit}
use Rattle.c_model.specs.UnitTyping.{typed_unit, room_fault, main_fault}
use Rattle.c_model.specs.AnnotationRanges.{ranged_unit}
use Rattle.c_model.specs.AnnotationTyping.{noted_unit}
use Rattle.c_model.specs.ReadTree.{AreBytes}
use Rattle.c_model.specs.TokenWords.{refused_at_place, syntax_refusal}

abbrev pub vocabulary : PlainTokens → Vocabulary
vocabulary ts = map word_of ts.names

-- E7, and E8
abbrev pub misplaced_fault : Place → Fault
misplaced_fault at = record { code = misplaced_code; place = at }

abbrev pub unguarded_fault : Place → Fault
unguarded_fault at = record { code = guard_code; place = at }

abbrev pub first_of : Option Fault → Option Fault → Option Fault
first_of None g = g
first_of (Some f) None = Some f
first_of (Some f) (Some g) = Some (lesser f g)

-- what is read of annotations where it may not stand, or without the guard that it needs: the first in the text
abbrev pub place_fault : TranslationUnit × Option Place → Option Fault
place_fault x = first_of (option_map misplaced_fault x.1) (option_map unguarded_fault (unguarded_in_unit x.0))

-- the tokens are read as this tree, all of its annotations stand where they may, and each of its quantifiers has a guard
pub record IsRead (ts : PlainTokens) (p : TranslationUnit) : Type 0 where
  pub reading : Accepts (unit (vocabulary ts) ts.names (texts_of ts.list)) ts.list (p, None)
  pub guarded : unguarded_in_unit p ≡ None

-- the tokens are read as this tree, and this is the first fault of its annotations' places and its quantifiers' guards
pub record IsMisplaced (ts : PlainTokens) (p : TranslationUnit) (f : Fault) : Type 0 where
  pub at : Option Place
  pub reading : Accepts (unit (vocabulary ts) ts.names (texts_of ts.list)) ts.list (p, at)
  pub is : place_fault (p, at) ≡ Some f

-- The tokens are no program: the fault's token can't follow those before it, or it is the first that passes a limit.
pub record IsSyntaxFault (ts : PlainTokens) (f : grammar.ParseFault) : Type 0 where
  pub refused : Refused (unit (vocabulary ts) ts.names (texts_of ts.list)) ts.list f
  pub unread : (x : TranslationUnit × Option Place) → Accepts (unit (vocabulary ts) ts.names (texts_of ts.list)) ts.list x → ⊥

-- E11
abbrev pub type_refusal : Fault → PlainRefusal
type_refusal f = record { code = f.code; place = f.place; construct = codes "type" }

-- a fault of names, types or room, at its token, a literal being a `string`; or a type past a limit
abbrev pub checked_refusal : PlainTokens → Fault → PlainRefusal
checked_refusal ts f = if nat_eq f.code limit_code then type_refusal f else refused_at_place ts f.code f.place

-- E13
abbrev pub main_refusal : Fault → PlainRefusal
main_refusal f = record { code = f.code; place = f.place; construct = codes "main" }

-- what is read of a text, and found to have names and types
pub record IsTyped (text : List ℕ) (ts : PlainTokens) (tree typed : TranslationUnit) : Type 0 where
  pub tokens : tokens_of text ≡ Ok ts
  pub read : IsRead ts tree
  pub is : typed_unit tree ≡ Good typed

-- the text is accepted, and p is its typed program; a text is bytes, and they are so few that their numbers are 32 bits long
pub record AcceptedText (text : List ℕ) (p : TranslationUnit) : Type 0 where
  pub bytes : AreBytes text
  pub few : length text < 4294967295
  pub tokens : PlainTokens
  pub tree : TranslationUnit
  pub typed : TranslationUnit
  pub is_typed : IsTyped text tokens tree typed
  pub room : room_fault typed ≡ None
  pub main : main_fault typed.names typed.funcs ≡ None
  pub noted : TranslationUnit
  pub is_noted : noted_unit typed ≡ Good noted
  pub ranged : ranged_unit noted ≡ Good p

-- the text is refused with r, by the first phase that finds a fault
pub data RefusedText (text : List ℕ) (r : PlainRefusal) : Type 0 where
  ByTokens : tokens_of text ≡ Err r → RefusedText text r
  ByGrammar : (ts : PlainTokens) (f : grammar.ParseFault) → tokens_of text ≡ Ok ts → IsSyntaxFault ts f → r ≡ syntax_refusal ts f → RefusedText text r
  ByPlaces : (ts : PlainTokens) (tree : TranslationUnit) (f : Fault) → tokens_of text ≡ Ok ts → IsMisplaced ts tree f
      → r ≡ refused_at_place ts f.code f.place → RefusedText text r
  ByNamesAndTypes : (ts : PlainTokens) (tree : TranslationUnit) (f : Fault) → tokens_of text ≡ Ok ts → IsRead ts tree → refusing (typed_unit tree) ≡ Some f
      → r ≡ checked_refusal ts f → RefusedText text r
  ForRoom : (ts : PlainTokens) (tree typed : TranslationUnit) (f : Fault) → IsTyped text ts tree typed → room_fault typed ≡ Some f
      → r ≡ checked_refusal ts f → RefusedText text r
  ForMain : (ts : PlainTokens) (tree typed : TranslationUnit) (f : Fault) → IsTyped text ts tree typed → room_fault typed ≡ None
      → main_fault typed.names typed.funcs ≡ Some f → r ≡ main_refusal f → RefusedText text r
  ByAnnotations : (ts : PlainTokens) (tree typed : TranslationUnit) (f : Fault) → IsTyped text ts tree typed → room_fault typed ≡ None
      → main_fault typed.names typed.funcs ≡ None → refusing (noted_unit typed) ≡ Some f → r ≡ checked_refusal ts f → RefusedText text r
  ByRanges : (ts : PlainTokens) (tree typed noted : TranslationUnit) (f : Fault) → IsTyped text ts tree typed → room_fault typed ≡ None
      → main_fault typed.names typed.funcs ≡ None → noted_unit typed ≡ Good noted → refusing (ranged_unit noted) ≡ Some f
      → r ≡ checked_refusal ts f → RefusedText text r
