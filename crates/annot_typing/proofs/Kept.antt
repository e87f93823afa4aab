-- A term keeps its place and its type.
use Rattle.std.proofs.Common.{◌≡◌, refl, ap, Option, option_map}
use Rattle.c_syntax.specs.declared.place.Place.{Place}
use Rattle.c_syntax.specs.declared.annotation.Range.{Range}
use Rattle.c_syntax.specs.declared.logic.Term.{Term}
use Rattle.c_syntax.specs.declared.logic.TermKind.{TermKind}
use Rattle.c_syntax.specs.declared.logic.TermKind as term
use Rattle.c_syntax.specs.declared.logic.Pred.{Pred}
use Rattle.c_syntax.specs.declared.logic.PredKind.{PredKind}
use Rattle.c_syntax.specs.declared.logic.PredKind as pred
use Rattle.c_syntax.specs.Ctypes.{PlainType, plain_type}
use Rattle.c_syntax.specs.Logic.{NonZero, plain_term_kind, plain_term, plain_pred, plain_pred_kind}
use Rattle.c_model.specs.PredicateTyping.{place_of_predicate, place_of_term, type_of_term}

place_is : (at : Place) (k : TermKind) (t : Option PlainType) (r : Range) → place_of_term (plain_term_kind at k t r) ≡ at
place_is at (term.Number n) t r = refl
place_is at (term.Letter n) t r = refl
place_is at (term.Variable x) t r = refl
place_is at (term.Unary' op pa p a ta ra) t r = refl
place_is at (term.Binary' op pa p a ta ra pb q b tb rb) t r = refl
place_is at (term.Cast' to pa p a ta ra) t r = refl
place_is at (term.Choice' pc o c pa p a ta ra pb q b tb rb) t r = refl
place_is at term.Null t r = refl
place_is at (term.Deref' pa p a ta ra) t r = refl
place_is at (term.Member' d pa p a ta ra) t r = refl
place_is at (term.Address' pa p a ta ra) t r = refl
place_is at (term.Moved' op n pa p a ta ra pb q b tb rb) t r = refl
place_is at (term.Difference' n pa p a ta ra pb q b tb rb) t r = refl
place_is at (term.Told' f pa p a ta ra) t r = refl
place_is at (term.Named x) t r = refl
place_is at (term.At' l pa p a ta ra) t r = refl

type_is : (at : Place) (k : TermKind) (t : Option PlainType) (r : Range) → type_of_term (plain_term_kind at k t r) ≡ t
type_is at (term.Number n) t r = refl
type_is at (term.Letter n) t r = refl
type_is at (term.Variable x) t r = refl
type_is at (term.Unary' op pa p a ta ra) t r = refl
type_is at (term.Binary' op pa p a ta ra pb q b tb rb) t r = refl
type_is at (term.Cast' to pa p a ta ra) t r = refl
type_is at (term.Choice' pc o c pa p a ta ra pb q b tb rb) t r = refl
type_is at term.Null t r = refl
type_is at (term.Deref' pa p a ta ra) t r = refl
type_is at (term.Member' d pa p a ta ra) t r = refl
type_is at (term.Address' pa p a ta ra) t r = refl
type_is at (term.Moved' op n pa p a ta ra pb q b tb rb) t r = refl
type_is at (term.Difference' n pa p a ta ra pb q b tb rb) t r = refl
type_is at (term.Told' f pa p a ta ra) t r = refl
type_is at (term.Named x) t r = refl
type_is at (term.At' l pa p a ta ra) t r = refl

pub place_kept : (t : Term) → place_of_term (plain_term t) ≡ t.place
place_kept t = place_is t.place t.kind.value (option_map plain_type t.ctype) t.range

pub type_kept : (t : Term) → type_of_term (plain_term t) ≡ option_map plain_type t.ctype
type_kept t = type_is t.place t.kind.value (option_map plain_type t.ctype) t.range

-- a term as a predicate
pub non_zero : (t : Term) → NonZero (place_of_term (plain_term t)) (plain_term t) ≡ plain_pred_kind t.place (pred.NonZero t)
non_zero t = ap (λ at. NonZero at (plain_term t)) (place_kept t)

-- a predicate keeps its place
pred_place_is : (at : Place) (k : PredKind) → place_of_predicate (plain_pred_kind at k) ≡ at
pred_place_is at (pred.Truth b) = refl
pred_place_is at (pred.NonZero' pa p a ta ra) = refl
pred_place_is at (pred.Chain' pa p a ta ra ls) = refl
pred_place_is at (pred.Not' pa p a) = refl
pred_place_is at (pred.Connected' c pa p a pb q b) = refl
pred_place_is at (pred.Choice' pc o c pa p a pb q b) = refl
pred_place_is at (pred.Quantified' q gs pa p a) = refl
pred_place_is at (pred.Asks' f pz n m p z) = refl
pred_place_is at (pred.Separated zs) = refl

pub predicate_place_kept : (p : Pred) → place_of_predicate (plain_pred p) ≡ p.place
predicate_place_kept p = pred_place_is p.place p.kind.value
