-- What holds of a checked part, where there is no fault.
use Rattle.std.proofs.Common.{◌≡◌, Bool, true, false, ◌&&◌, cond, Ok, Err, refl, subst}
use Rattle.c_syntax.specs.declared.place.Place.{Place}
use Rattle.mon_syntax.specs.Checking.{Checked, ◌>>=◌, ◌>>◌, demanded, name_fault}

abbrev pub Holds : {A : Type 0} → (A → Type 0) → Checked A → Type 0
Holds P (Ok a) = P a
Holds P (Err e) = Unit {0}

pub holds_behind : {A B : Type 0} (P : A → Type 0) (Q : B → Type 0) (c : Checked A) (f : A → Checked B) → Holds P c → ((a : A) → P a → Holds Q (f a)) → Holds Q (c >>= f)
holds_behind P Q (Ok a) f p h = h a p
holds_behind P Q (Err e) f p h = tt

pub holds_where : {B : Type 0} (Q : B → Type 0) (b : Bool) (at : Place) (c : Checked B) → (b ≡ true → Holds Q c) → Holds Q (demanded b at >> c)
holds_where Q true at c h = h refl
holds_where Q false at c h = tt

-- a part that is demanded after another, on which nothing else hangs
pub holds_if : {A B : Type 0} (P : A → Type 0) (Q : B → Type 0) (b : Bool) (at : Place) (c : Checked A) (k : A → B) → (b ≡ true → Holds P c) → (b ≡ true → (a : A) → P a → Q (k a))
    → Holds Q (c >>= λ x. cond b (Ok tt) (name_fault {A = Unit {0}} at) >> Ok (k x))
holds_if P Q true at c k p h = holds_behind P Q c (λ x. Ok (k x)) (p refl) (h refl)
holds_if P Q false at (Ok a) k p h = tt
holds_if P Q false at (Err e) k p h = tt

pub holds_all : {A : Type 0} (c : Checked A) → Holds (λ a. Unit {0}) c
holds_all (Ok a) = tt
holds_all (Err e) = tt

pub holds_at : {A : Type 0} (P : A → Type 0) (c : Checked A) (a : A) → c ≡ Ok a → Holds P c → P a
holds_at P c a e h = subst (Holds P) e h

pub first_true : (a b : Bool) → (a && b) ≡ true → a ≡ true
first_true true b h = refl
first_true false b h = h

pub second_true : (a b : Bool) → (a && b) ≡ true → b ≡ true
second_true true b h = h
second_true false b h = absurd cc
