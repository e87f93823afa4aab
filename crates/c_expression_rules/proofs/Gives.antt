-- What holds of a checked value.
use Rattle.std.proofs.Common.{◌≡◌, refl, subst, Option, Some, None, Bool, true, false}
use Rattle.c_model.specs.Checked.{Fault, Checked, Good, Bad, one_part, both_parts, given, where_so}

-- what holds of the value, where there is one
abbrev pub Gives : {A : Type 0} → (A → Type 0) → Checked A → Type 0
Gives P (Good a) = P a
Gives P (Bad f fs) = Unit {0}

pub gives_of : {A : Type 0} (P : A → Type 0) (c : Checked A) (a : A) → Gives P c → c ≡ Good a → P a
gives_of P c a g is = subst (Gives P) is g

pub gives_one : {A B : Type 0} (P : A → Type 0) (R : B → Type 0) (m : Checked A) (k : A → Checked B) → Gives P m → ((a : A) → P a → Gives R (k a)) → Gives R (one_part m k)
gives_one P R (Good a) k p h = h a p
gives_one P R (Bad f fs) k p h = tt

pub gives_both : {A B C : Type 0} (P : A → Type 0) (Q : B → Type 0) (R : C → Type 0) (m : Checked A) (n : Checked B) (k : A → B → Checked C) → Gives P m → Gives Q n → ((a : A) (b : B) → P a → Q b → Gives R (k a b)) → Gives R (both_parts m n k)
gives_both P Q R (Good a) (Good b) k p q h = h a b p q
gives_both P Q R (Good a) (Bad g gs) k p q h = tt
gives_both P Q R (Bad f fs) (Good b) k p q h = tt
gives_both P Q R (Bad f fs) (Bad g gs) k p q h = tt

pub gives_given : {A B : Type 0} (R : B → Type 0) (o : Option A) (f : Fault) (k : A → Checked B) → ((a : A) → o ≡ Some a → Gives R (k a)) → Gives R (given o f k)
gives_given R None f k h = tt
gives_given R (Some a) f k h = h a refl

pub gives_where : {B : Type 0} (R : B → Type 0) (t : Bool) (f : Fault) (c : Checked B) → (t ≡ true → Gives R c) → Gives R (where_so t f c)
gives_where R true f c h = h refl
gives_where R false f c h = tt
