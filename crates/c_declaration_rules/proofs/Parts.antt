-- Parts that are joined in this order, and the types of objects and of parameters.
use Rattle.std.proofs.Common.{◌≡◌, refl, sym, ap, ◌∙◌, subst, false, Option, Result, Ok, Err}
use Rattle.c_syntax.specs.declared.place.Place.{Place}
use Rattle.c_syntax.specs.Ctypes.{PlainType, Ptr, Array, PlainLength, Left, Written, Count}
use Rattle.c_syntax.specs.Statements.{Initialiser}
use Rattle.c_model.specs.Library.{is_there}
use Rattle.c_model.specs.Checked.{Checked, Good, both_parts, one_part}
use Rattle.c_model.specs.ExpressionTyping.{Sight, typed_length}
use Rattle.c_model.specs.DeclarationTyping.{typed_outer, typed_parameter_type}
use Rattle.c_scopes.specs.declared.fault.TypeFault.{TypeFault}
use Rattle.c_scopes.specs.declared.fault.TypeFault.TheVariants.{Refused, Memory}
use Rattle.c_scopes.specs.Answers.{Answers, both, lesser_of}
use Rattle.c_scopes.proofs.Least.{both_made, both_refused, one_refused}
use Rattle.c_declaration_rules.specs.Objects.{both_after, is_left, sized_object, typed_pointed}

-- a refusal says nothing of the tree
pub other_tree : {A T S : Type 0} (p : T → A) (q : S → A) (n : Checked A) (g : TypeFault) → Answers p n (Err g) → Answers q n (Err g)
other_tree p q n (Refused g) h = h
other_tree p q n Memory h = tt

module _ {A B T : Type 0} (d : A) (f : A → B) (q : T → A) (m : Checked (Unit {0})) (n : Checked A)
  where
    abbrev whole : Checked B
    whole = both_parts m n (λ u t. Good (f t))

    abbrev made : T → B
    made x = f (q x)

    refused : (a b : Result (Unit {0}) TypeFault) (h : TypeFault) → Answers (λ u. u) m a → Answers (λ (u : Unit {0}). d) n b → both a b ≡ Err h → Answers made whole (Err h)
    refused a b h ha hb j = both_refused (λ u t. Good (f t)) (λ (u : Unit {0}). u) (λ u. d) made m n a b h ha hb j

    -- a part with a fault behind the other, which has one or hasn't
    pub behind_made : (a : Result (Unit {0}) TypeFault) (b r : Result T TypeFault) → Answers (λ u. u) m a → Answers q n b → r ≡ both_after a b → Answers made whole r
    behind_made a b r ha hb e = subst (Answers made whole) (sym e) (by a b ha hb)
      where
        by : (a : Result (Unit {0}) TypeFault) (b : Result T TypeFault) → Answers (λ u. u) m a → Answers q n b → Answers made whole (both_after a b)
        by (Ok u) (Ok x) ha hb = ap (λ c. both_parts c n (λ u t. Good (f t))) ha ∙ ap (λ c. both_parts (Good u) c (λ u t. Good (f t))) hb
        by (Ok u) (Err g) ha hb = refused (Ok u) (Err g) g ha (other_tree q (λ (u : Unit {0}). d) n g hb) refl
        by (Err g) (Ok x) ha hb = both_refused (λ u t. Good (f t)) (λ (u : Unit {0}). u) (λ u. q x) made m n (Err g) (Ok tt) g ha hb refl
        by (Err f) (Err g) ha hb = refused (Err f) (Err g) (lesser_of f g) ha (other_tree q (λ (u : Unit {0}). d) n g hb) refl

-- what is made of one part
pub one_made : {A B T : Type 0} (f : A → B) (p : T → A) (m : Checked A) (r : Result T TypeFault) → Answers p m r → Answers (λ x. f (p x)) (one_part m (λ a. Good (f a))) r
one_made f p m (Ok x) h = ap (λ c. one_part c (λ a. Good (f a))) h
one_made f p m (Err g) h = one_refused (λ a. Good (f a)) p (λ x. f (p x)) m g h

module _ (s : Sight) (at : Place) (t : PlainType) (i : Option (Place × Initialiser))
  where
    pub object_refused : {S T : Type 0} (p : S → PlainType) (q : T → PlainType) (h : TypeFault) → Answers p (typed_outer (is_there i) s at t) (Err h) → Answers q (sized_object s at t i) (Err h)
    object_refused p q h x = one_refused _ p q (typed_outer (is_there i) s at t) h x

pub array_made : (s : Sight) (at : Place) (t t' : PlainType) (n n' : PlainLength) (a b r : Result (Unit {0}) TypeFault) → is_left n ≡ false → Answers (λ (u : Unit {0}). Ptr t') (typed_pointed s at t) a
    → Answers (λ (u : Unit {0}). n') (typed_length s at n) b → r ≡ both a b → Answers (λ (u : Unit {0}). Ptr t') (typed_parameter_type s at (Array t n)) r
array_made s at t t' Left n' a b r l ha hb j = absurd cc
array_made s at t t' (Written e) n' a b r l ha hb j = both_made (λ u (m : PlainLength). u) (λ (u : Unit {0}). Ptr t') (λ u. n') (typed_pointed s at t) (typed_length s at (Written e)) a b r ha hb (sym j)
array_made s at t t' (Count k) n' a b r l ha hb j = both_made (λ u (m : PlainLength). u) (λ (u : Unit {0}). Ptr t') (λ u. n') (typed_pointed s at t) (typed_length s at (Count k)) a b r ha hb (sym j)
