-- What holds of a checked value, and what tests of types tell.
use Rattle.std.proofs.Common.{◌≡◌, ℕ, refl, ap, ◌∙◌, subst, Option, Some, None, Bool, true, false, ◌&&◌, nat_eq, arith}
use Rattle.std.proofs.lemmas.Bool.Decides.{nat_tests}
use Rattle.c_syntax.specs.declared.place.Place.{Place}
use Rattle.c_syntax.specs.declared.types.CInt.{CInt}
use Rattle.c_syntax.specs.declared.types.CInt.TheVariants.{I8, U8, I16, U16, I32, U32, I64, U64}
use Rattle.c_syntax.specs.Ctypes.{PlainType, Void, Int, Ptr, Array, Struct, PlainLength, Count}
use Rattle.c_syntax.specs.Expressions.{Expression, place_of}
use Rattle.c_syntax.specs.Statements.{Initialiser, One, Many}
use Rattle.c_syntax.specs.Layouts.{IntegerType, PointerType}
use Rattle.c_model.specs.Integers.{integer_type}
use Rattle.c_model.specs.Library.{is_there}
use Rattle.c_model.specs.Meaning.{is_pointer}
use Rattle.c_model.specs.Checked.{Fault, Checked, Good, Bad, faulty, one_part, both_parts, given, where_so}
use Rattle.c_model.specs.ExpressionTyping.{no_name, no_type, Sight, same_int, same_length, same_type, is_void, is_scalar, pointed, Sized, HasSize, HasNoSize, NotYet, sized, where_sized}
use Rattle.c_model.specs.ExpressionTyping.{where_elements}
use Rattle.c_model.specs.ExpressionTyping.{typed}
use Rattle.c_model.specs.DeclarationTyping.{too_many}
use Rattle.c_model.specs.TypedTrees.{IsScalar, IsInteger, IsPointer}

-- what holds of the value, where there is one
abbrev pub Gives : {A : Type 0} → (A → Type 0) → Checked A → Type 0
Gives P (Good a) = P a
Gives P (Bad f fs) = Unit {0}

pub gives_of : {A : Type 0} (P : A → Type 0) (c : Checked A) (a : A) → Gives P c → c ≡ Good a → P a
gives_of P c a g is = subst (Gives P) is g

pub gives_one : {A B : Type 0} (P : A → Type 0) (R : B → Type 0) (m : Checked A) (k : A → Checked B) → Gives P m → ((a : A) → P a → Gives R (k a)) → Gives R (one_part m k)
gives_one P R (Good a) k p h = h a p
gives_one P R (Bad f fs) k p h = tt

-- what follows of the value
pub gives_more : {A : Type 0} (P R : A → Type 0) (c : Checked A) → Gives P c → ((a : A) → P a → R a) → Gives R c
gives_more P R (Good a) p h = h a p
gives_more P R (Bad f fs) p h = tt

pub gives_both : {A B C : Type 0} (P : A → Type 0) (Q : B → Type 0) (R : C → Type 0) (m : Checked A) (n : Checked B) (k : A → B → Checked C) → Gives P m → Gives Q n
    → ((a : A) (b : B) → P a → Q b → Gives R (k a b)) → Gives R (both_parts m n k)
gives_both P Q R (Good a) (Good b) k p q h = h a b p q
gives_both P Q R (Good a) (Bad g gs) k p q h = tt
gives_both P Q R (Bad f fs) (Good b) k p q h = tt
gives_both P Q R (Bad f fs) (Bad g gs) k p q h = tt

pub gives_given : {A B : Type 0} (R : B → Type 0) (o : Option A) (f : Fault) (k : A → Checked B) → ((a : A) → o ≡ Some a → Gives R (k a)) → Gives R (given o f k)
gives_given R None f k h = tt
gives_given R (Some a) f k h = h a refl

pub gives_where : {B : Type 0} (R : B → Type 0) (t : Bool) (f : Fault) (c : Checked B) → (t ≡ true → Gives R c) → Gives R (where_so t f c)
gives_where R true f c h = h refl
gives_where R false f c h = tt

pub gives_too_many : {A : Type 0} (R : A → Type 0) (s : Sight) (i : Initialiser) → Gives R (too_many {A = A} s i)
gives_too_many R s (One e) = by (typed s e)
  where
    by : (c : Checked Expression) → Gives R (one_part c (λ x. faulty (no_type (place_of e))))
    by (Good x) = tt
    by (Bad f fs) = tt
gives_too_many R s (Many at is) = tt

-- the same under a hypothesis
pub gives_if : {A : Type 0} (H : Type 0) (P : A → Type 0) (c : Checked A) → (H → Gives P c) → Gives (λ a. H → P a) c
gives_if H P (Good a) h = h
gives_if H P (Bad f fs) h = tt

-- two facts of one value
pub gives_and : {A : Type 0} (P Q : A → Type 0) (c : Checked A) → Gives P c → Gives Q c → Gives (λ a. P a × Q a) c
gives_and P Q (Good a) g h = (g, h)
gives_and P Q (Bad f fs) g h = tt

-- the value itself
pub gives_self : {A : Type 0} (P : A → Type 0) (c : Checked A) → Gives P c → Gives (λ a. P a × (c ≡ Good a)) c
gives_self P (Good a) g = (g, refl)
gives_self P (Bad f fs) g = tt

pub gives_sized : {B : Type 0} (R : B → Type 0) (s : Sight) (at : Place) (t : PlainType) (c : Checked B) → (sized s.structs t ≡ HasSize → Gives R c) → Gives R (where_sized s at t c)
gives_sized R s at t c h = by (sized s.structs t) refl
  where
    by : (z : Sized) → sized s.structs t ≡ z → Gives R (elim z [ HasSize ↦ c | HasNoSize ↦ faulty (no_type at) | NotYet ↦ faulty (no_name at) ])
    by HasSize e = h e
    by HasNoSize e = tt
    by NotYet e = tt

pub gives_elements : {B : Type 0} (R : B → Type 0) (s : Sight) (at : Place) (t : PlainType) (c : Checked B) → (sized s.structs t ≡ HasSize → Gives R c) → Gives R (where_elements s at t c)
gives_elements R s at t c h = gives_where R _ _ _ (λ v. gives_sized R s at t c h)

-- ---- types

pub and_true : (a b : Bool) → (a && b) ≡ true → (a ≡ true) × (b ≡ true)
and_true true b e = (refl, e)
and_true false b e = absurd cc

same_int_is : (k l : CInt) → same_int k l ≡ true → k ≡ l
same_int_is I8 I8 e = refl
same_int_is U8 U8 e = refl
same_int_is I16 I16 e = refl
same_int_is U16 U16 e = refl
same_int_is I32 I32 e = refl
same_int_is U32 U32 e = refl
same_int_is I64 I64 e = refl
same_int_is U64 U64 e = refl
same_int_is _ _ e = absurd cc

number_is : (n m : ℕ) → nat_eq n m ≡ true → n ≡ m
number_is n m e = grind (arith, nat_tests)

same_length_is : (n m : PlainLength) → same_length n m ≡ true → n ≡ m
same_length_is (Count n) (Count m) e = ap Count (number_is n m e)
same_length_is _ _ e = absurd cc

pub same_type_is : (t u : PlainType) → same_type t u ≡ true → t ≡ u
same_type_is Void Void e = refl
same_type_is (Int k) (Int l) e = ap Int (same_int_is k l e)
same_type_is (Ptr t) (Ptr u) e = ap Ptr (same_type_is t u e)
same_type_is (Array t n) (Array u m) e =
    let p = and_true (same_length n m) (same_type t u) e in
    ap (λ x. Array x n) (same_type_is t u p.1) ∙ ap (Array u) (same_length_is n m p.0)
same_type_is (Struct n) (Struct m) e = ap Struct (number_is n m e)
same_type_is _ _ e = absurd cc

pub integer_is : (t : PlainType) (k : CInt) → integer_type t ≡ Some k → t ≡ Int k
integer_is (Int l) k e = let same : l ≡ k = cc in ap Int same
integer_is _ k e = absurd cc

pub pointed_is : (t u : PlainType) → pointed t ≡ Some u → t ≡ Ptr u
pointed_is (Ptr v) u e = let same : v ≡ u = cc in ap Ptr same
pointed_is _ u e = absurd cc

pub scalar_is : (t : PlainType) → is_scalar t ≡ true → IsScalar t
scalar_is (Int k) e = record { scalar = IntegerType k; is = refl }
scalar_is (Ptr t) e = record { scalar = PointerType; is = refl }
scalar_is _ e = absurd cc

pub there_is : (t : PlainType) → is_there (integer_type t) ≡ true → IsInteger t
there_is (Int l) e = record { int = l; is = refl }
there_is _ e = absurd cc

pub pointer_is : (t : PlainType) → is_pointer t ≡ true → IsPointer t
pointer_is (Ptr t) e = record { target = t; is = refl }
pointer_is _ e = absurd cc

pub void_is : (t : PlainType) → is_void t ≡ true → t ≡ Void
void_is Void e = refl
void_is _ e = absurd cc
