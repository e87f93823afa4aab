-- What is known of the terms and predicates that typing makes of forms of annotations, by what is known of their parts.
use Rattle.std.proofs.Common.{◌≡◌, ℕ, ◌⊎◌, ◌&&◌, ◌||◌, ℤ, pos, refl, sym, ap, subst, arith, inl, inr, [], ◌∷◌, Option, Some, None, Bool, true, false, cond, not}
use Rattle.std.specs.Prelude.{option_map}
use Rattle.std.proofs.lemmas.Bool.{leb-true}
use Rattle.std.proofs.lemmas.Bool.Decides.{Decides-int_eq, nat_tests}
use Rattle.std.specs.Ordering.{int_eq}
use Rattle.std.specs.Prelude.{nat_le, nat_eq}
use Rattle.c_syntax.specs.declared.place.Place.{Place}
use Rattle.c_syntax.specs.declared.types.CInt.{CInt}
use Rattle.c_syntax.specs.declared.expression.UnOp.{UnOp}
use Rattle.c_syntax.specs.declared.expression.UnOp.TheVariants as unary
use Rattle.c_syntax.specs.declared.expression.BinOp.{BinOp}
use Rattle.c_syntax.specs.declared.expression.BinOp.TheVariants as operator
use Rattle.c_syntax.specs.declared.logic.Connective.{Connective}
use Rattle.c_syntax.specs.declared.logic.Label.{Label}
use Rattle.c_syntax.specs.declared.logic.Label.TheVariants as label
use Rattle.c_syntax.specs.declared.logic.MemoryQuestion.{MemoryQuestion}
use Rattle.c_syntax.specs.declared.logic.MemoryQuestion.TheVariants.{Valid, ValidRead, Initialized}
use Rattle.c_syntax.specs.Ctypes.{PlainType, Void, Int, Ptr, Array, Struct, StructTag, EnumTag}
use Rattle.c_syntax.specs.Ctypes as ctype
use Rattle.c_syntax.specs.Formulas as read
use Rattle.c_syntax.specs.Formulas.{CastType, OfC, Form}
use Rattle.c_syntax.specs.Logic.{Truth, NonZero, Not, Connected, Branch, Quantified, Asks, Separated, LogicTerm, Number, Chain, Deref, Links, NoLink, Linked, Predicate}
use Rattle.c_syntax.specs.Layouts.{size_of, align_of, member_among, members_of}
use Rattle.c_model.specs.Integers.{integer_type}
use Rattle.c_model.specs.Library.{library_constant, is_there}
use Rattle.c_model.specs.Checked.{Fault, Checked, Good, Bad, faulty, given, where_so, one_part, pair_of}
use Rattle.c_model.specs.ExpressionTyping as c
use Rattle.c_model.specs.ExpressionTyping.{no_name, no_type, use_as, is_among, Entity, AnObject, AnEnumerator, Sight, name_at, entity_named, is_null_word, is_void, is_struct, is_scalar, besides, is_within_limits, most_bytes, too_large, limited}
use Rattle.c_model.specs.PredicateTyping.{range_to_infer, place_of_term, Sorted, ATerm, APredicate, APlace, ValueSort, AnInteger, APointer, NoValue, type_of_term, sort_of_term, is_integer, pointee, as_value, value_in, as_term, as_integer, as_pointer}
use Rattle.c_model.specs.PredicateTyping.{integer_holds, as_predicate, variable, formal_value, object_place, result_use, result_in, no_label, at_label, labelled, number, null, library_term, term_named, on_integer, on_integers}
use Rattle.c_model.specs.PredicateTyping.{deref, address, address_at, member_at, member_of, dot, arrow, are_known, with_terms}
use Rattle.c_model.specs.PredicateTyping.{sum_of, difference_of, element_of, sum, difference, index, unary_on, binary_on, cast_integer, cast_pointer, cast, connected, choice_target, pointer_choice, choice_of_terms, branch, choice_between}
use Rattle.c_model.specs.PredicateTyping.{chosen, Side, AnySide, IntegerSide, ZeroSide, PointerSide, OtherSide, side_of_sort, side_of_sorted, side_of, are_related, right_side, related, where_asked, object_zone, elements_zone}
use Rattle.c_model.specs.PredicateTyping.{is_alignment, is_measured, where_measured, typed_form}
use Rattle.c_model.specs.TypedPredicates.{IsIntegerTerm, IsPointerTerm, PointsTo, IsPlace, IsZeroTerm, AreRelated, IsOnInteger, IsCastType, OfInteger, OfPointer, BetweenIntegers, BetweenPointers, TermTyped, LinksTyped, ZoneTyped}
use Rattle.c_model.specs.AnnotationSights.{ClauseSight, InBody, AtEntry, AtEnd, UnderLabel, AnnotationSight, formals_in, under_label, beginning, sight_at, is_past}
use Rattle.c_model.specs.TypedPredicates.{TermDenotes, IsResult, IsSize, IsAlignment, PredicateTyped}
use Rattle.c_model.specs.QuietPredicates.{IsQuiet}
use Rattle.c_model.specs.AnnotationSights.{binder_named}
use Rattle.c_model.specs.PredicateTyping.{named_in_c, bound, quantifier_in, where_quiet}
use Rattle.c_model.specs.TypedPredicates.{IsBound}
use Rattle.c_model.proofs.GuardTrees.{Names}
use Rattle.c_model.proofs.TypedParts.{Gives, gives_of, gives_one, gives_both, gives_given, gives_where, gives_sized, and_true, there_is}

-- what is known of a form by its sort
abbrev pub SortedTyped : AnnotationSight → Sorted → Type 0
SortedTyped s (ATerm t) = TermTyped s t
SortedTyped s (APredicate p) = PredicateTyped s p
SortedTyped s (APlace t) = IsPlace t × TermTyped s t

abbrev pub IntegerTyped : AnnotationSight → LogicTerm → Type 0
IntegerTyped s t = IsIntegerTerm t × TermTyped s t

abbrev pub PointerTyped : AnnotationSight → PlainType × LogicTerm → Type 0
PointerTyped s p = PointsTo p.0 p.1 × TermTyped s p.1

-- ---- tests of sorts

pub integer_is : (k : ValueSort) → is_integer k ≡ true → k ≡ AnInteger
integer_is AnInteger e = refl
integer_is (APointer t) e = absurd cc
integer_is NoValue e = absurd cc

pub pointee_is : (k : ValueSort) (u : PlainType) → pointee k ≡ Some u → k ≡ APointer u
pointee_is AnInteger u e = absurd cc
pointee_is (APointer t) u e = let f : t ≡ u = cc in ap APointer f
pointee_is NoValue u e = absurd cc

pub struct_is : (u : PlainType) → is_struct u ≡ true → (n : ℕ) × (u ≡ Struct n)
struct_is (Struct n) e = (n, refl)
struct_is Void e = absurd cc
struct_is (Int k) e = absurd cc
struct_is (Ptr t) e = absurd cc
struct_is (Array t n) e = absurd cc
struct_is (ctype.Named x) e = absurd cc
struct_is (StructTag x tag) e = absurd cc
struct_is (EnumTag x at) e = absurd cc

-- ---- what forms demand of their parts

pub value_well : (s : AnnotationSight) (a : Sorted) → SortedTyped s a → Gives (SortedTyped s) (as_value a)
value_well s (ATerm t) w = w
value_well s (APredicate p) w = w
value_well s (APlace t) w = by (sort_of_term t)
  where
    by : (k : ValueSort) → Gives (SortedTyped s) (elim k [ AnInteger ↦ Good (ATerm t) | APointer u ↦ Good (ATerm t) | NoValue ↦ faulty (no_type (place_of_term t)) ])
    by AnInteger = w.1
    by (APointer u) = w.1
    by NoValue = tt

pub values_well : (s : AnnotationSight) (k : Checked Sorted) → Gives (SortedTyped s) k → Gives (SortedTyped s) (value_in k)
values_well s k w = gives_one (SortedTyped s) (SortedTyped s) k as_value w (value_well s)

pub term_well : (s : AnnotationSight) (at : Place) (a : Sorted) → SortedTyped s a → Gives (TermTyped s) (as_term at a)
term_well s at (ATerm t) w = w
term_well s at (APredicate p) w = tt
term_well s at (APlace t) w = w.1

pub integer_well : (s : AnnotationSight) (at : Place) (a : Sorted) → SortedTyped s a → Gives (IntegerTyped s) (as_integer at a)
integer_well s at a w =
    gives_one (TermTyped s) (IntegerTyped s) (as_term at a) _ (term_well s at a w) (λ t v. gives_where (IntegerTyped s) (is_integer (sort_of_term t)) (no_type at) (Good t) (λ e. (integer_is (sort_of_term t) e, v)))

pub pointer_well : (s : AnnotationSight) (at : Place) (a : Sorted) → SortedTyped s a → Gives (PointerTyped s) (as_pointer at a)
pointer_well s at a w =
    gives_one (TermTyped s) (PointerTyped s) (as_term at a) _ (term_well s at a w) (λ t v. gives_given (PointerTyped s) (pointee (sort_of_term t)) (no_type at) (λ u. Good (u, t)) (λ u e. (pointee_is (sort_of_term t) u e, v)))

pub holds_well : (s : AnnotationSight) (at : Place) (t : LogicTerm) → TermTyped s t → Gives (PredicateTyped s) (integer_holds at t)
holds_well s at t w = gives_where (PredicateTyped s) (is_integer (sort_of_term t)) (no_type at) _ (λ e. (integer_is (sort_of_term t) e, w))

pub predicate_well : (s : AnnotationSight) (at : Place) (a : Sorted) → SortedTyped s a → Gives (PredicateTyped s) (as_predicate at a)
predicate_well s at (ATerm t) w = holds_well s at t w
predicate_well s at (APredicate p) w = w
predicate_well s at (APlace t) w = holds_well s at t w.1

-- ---- sizes that trees keep

pub either_true : (a b : Bool) → (a || b) ≡ true → (a ≡ true) ⊎ (b ≡ true)
either_true true b e = inl refl
either_true false b e = inr e

pub equal_is : (n m : ℕ) → nat_eq n m ≡ true → n ≡ m
equal_is n m e = grind (arith, nat_tests)

pub alignment_is : (n : ℕ) → is_alignment n ≡ true → IsAlignment n
alignment_is n e = elim (either_true (nat_eq n 1 || nat_eq n 2 || nat_eq n 4) (nat_eq n 8) e) [
  | inr d ↦ inr (inr (inr (equal_is n 8 d)))
  | inl d ↦ elim (either_true (nat_eq n 1 || nat_eq n 2) (nat_eq n 4) d) [
    | inr c ↦ inr (inr (inl (equal_is n 4 c)))
    | inl c ↦ elim (either_true (nat_eq n 1) (nat_eq n 2) c) [ inr b ↦ inr (inl (equal_is n 2 b)) | inl b ↦ inl (equal_is n 1 b) ]
  ]
]

abbrev pub Measured : Sight → PlainType → Type 0
Measured s u = IsSize (size_of s.structs u) × IsAlignment (align_of s.structs u)

pub measured_is : (n m : ℕ) → (nat_le 1 n && nat_le n most_bytes && is_alignment m) ≡ true → IsSize n × IsAlignment m
measured_is n m e =
    let both = and_true (nat_le 1 n && nat_le n most_bytes) (is_alignment m) e in
    let size = and_true (nat_le 1 n) (nat_le n most_bytes) both.0 in
    ((leb-true 1 n size.0, leb-true n most_bytes size.1), alignment_is m both.1)

pub gives_measured : {B : Type 0} (R : B → Type 0) (s : Sight) (at : Place) (u : PlainType) (c : Checked B) → (Measured s u → Gives R c) → Gives R (where_measured s at u c)
gives_measured R s at u c h =
    gives_sized R s at u (where_so (is_measured s u) (too_large at) c) (λ e.
    gives_where R (is_measured s u) (too_large at) c (λ m. h (measured_is (size_of s.structs u) (align_of s.structs u) m)))

-- ---- names

pub null_well : (s : AnnotationSight) (at : Place) (b : Bool) → Gives (SortedTyped s) (cond b (Good (null at)) (faulty (no_name at)))
null_well s at true = refl
null_well s at false = tt

pub library_well : (s : AnnotationSight) (at : Place) (x : ℕ) → Gives (SortedTyped s) (library_term s.here at x)
library_well s at x = by (library_constant (name_at s.here.names x))
  where
    by : (o : Option (CInt × ℤ)) → Gives (SortedTyped s) (elim o [ Some k ↦ Good (number at k.1) | None ↦ cond (is_null_word s.here x) (Good (null at)) (faulty (no_name at)) ])
    by (Some k) = refl
    by None = null_well s at (is_null_word s.here x)

-- a parameter in an `ensures` is read where the call begins
pub formal_well : (s : AnnotationSight) (k : ClauseSight) → s.clause ≡ k → (at : Place) (x : ℕ) (b : c.Object) → entity_named x s.here.entities ≡ Some (AnObject b) → TermTyped s (formal_value k (variable at x b))
formal_well s k is at x b e = by k is
  where
    denoted : TermDenotes s.here (Some b.ctype) (use_as x b.decl)
    denoted = record { ctype = b.ctype; is = refl; denotes = record { object = b; found = e; decl = refl; ctype = refl } }

    by : (k : ClauseSight) → s.clause ≡ k → TermTyped s (formal_value k (variable at x b))
    by (InBody v) is = denoted
    by AtEntry is = denoted
    by (AtEnd formals t) is = (under_label s s.here, ap (λ j. option_map (under_label s) (beginning s.here j)) is, refl, denoted)
    by (UnderLabel formals) is = denoted

pub entity_well : (s : AnnotationSight) (at : Place) (x : ℕ) (b : c.Object) → entity_named x s.here.entities ≡ Some (AnObject b) → SortedTyped s (object_place s.clause at x b)
entity_well s at x b e = by (is_among b.decl (formals_in s.clause))
  where
    by : (f : Bool) → SortedTyped s (cond f (ATerm (formal_value s.clause (variable at x b))) (APlace (variable at x b)))
    by true = formal_well s s.clause refl at x b e
    by false = (tt, record { ctype = b.ctype; is = refl; denotes = record { object = b; found = e; decl = refl; ctype = refl } })

pub named_in_c_well : (s : AnnotationSight) (at : Place) (x : ℕ) → Gives (SortedTyped s) (named_in_c s at x)
named_in_c_well s at x = by (entity_named x s.here.entities) refl
  where
    by : (o : Option Entity) → entity_named x s.here.entities ≡ o → Gives (SortedTyped s) (elim o [
      | Some e ↦ elim e [ AnObject b ↦ Good (object_place s.clause at x b) | AnEnumerator k ↦ Good (number at k.value) ]
      | None ↦ library_term s.here at x
    ])
    by (Some (AnObject b)) e = entity_well s at x b e
    by (Some (AnEnumerator k)) e = refl
    by None e = library_well s at x

-- a binder of a name that is in sight
pub bound_is : (x : ℕ) (bs : Names) (place : Place) → binder_named x bs ≡ Some place → IsBound bs place.offset
bound_is x [] place e = absurd cc
bound_is x (b ∷ bs) place e = by (binder_named x bs) (bound_is x bs) e
  where
    own : (c : Bool) → cond c (Some b.0) None ≡ Some place → IsBound (b ∷ bs) place.offset
    own true e = let same : b.0 ≡ place = cc in inl (ap (λ (at : Place). at.offset) (sym same))
    own false e = absurd cc

    by : (o : Option Place) → ((at : Place) → o ≡ Some at → IsBound bs at.offset) → c.or_else o (cond (nat_eq x b.1) (Some b.0) None) ≡ Some place → IsBound (b ∷ bs) place.offset
    by (Some at) h e = let same : at ≡ place = cc in inr (subst (λ (at : Place). IsBound bs at.offset) same (h at refl))
    by None h e = own (nat_eq x b.1) e

pub named_well : (s : AnnotationSight) (at : Place) (x : ℕ) → Gives (SortedTyped s) (term_named s at x)
named_well s at x = by (binder_named x s.binders) refl
  where
    by : (o : Option Place) → binder_named x s.binders ≡ o → Gives (SortedTyped s) (elim o [ Some place ↦ Good (bound at x place) | None ↦ named_in_c s at x ])
    by (Some place) e = inr (refl, bound_is x s.binders place e)
    by None e = named_in_c_well s at x

-- ---- results, and terms at labels

pub not_true : (b : Bool) → not b ≡ true → b ≡ false
not_true true e = absurd cc
not_true false e = refl

pub result_well : (s : AnnotationSight) (k : ClauseSight) → s.clause ≡ k → (at : Place) → Gives (SortedTyped s) (result_in k at)
result_well s (InBody v) is at = tt
result_well s AtEntry is at = tt
result_well s (AtEnd formals t) is at =
    gives_where (SortedTyped s) (not (is_void t)) (no_type at) _ (λ e. inl (subst (λ (k : ClauseSight). IsResult k (Some t) result_use) (sym is) (refl, refl, not_true (is_void t) e)))
result_well s (UnderLabel formals) is at = tt

pub labelled_well : (s : AnnotationSight) (at place : Place) (refused : Bool → Bool) (k : AnnotationSight → Checked Sorted) → ((l : Label) (u : AnnotationSight) → sight_at s l ≡ Some u → Gives (SortedTyped u) (k u)) → (l : Option Label)
    → Gives (SortedTyped s) (labelled s at place l refused k)
labelled_well s at place refused k h None =
    gives_where (SortedTyped s) (not (refused true)) (no_label at) _ (λ e. gives_one (SortedTyped s) (SortedTyped s) (value_in (k s)) _ (values_well s (k s) (h label.Here s refl)) (λ a v. tt))
labelled_well s at place refused k h (Some l) =
    gives_where (SortedTyped s) (not (refused (is_past l))) (no_label at) _ (λ e. gives_given (SortedTyped s) (sight_at s l) (no_label at) _ (λ u f.
    gives_one (SortedTyped u) (SortedTyped s) (value_in (k u)) (at_label at l) (values_well u (k u) (h l u f)) (λ a v.
    gives_one (TermTyped u) (SortedTyped s) (as_term at a) _ (term_well u at a v) (λ t x. (u, f, refl, x)))))

-- ---- operators

pub on_integer_well : (s : AnnotationSight) (at : Place) (op : UnOp) → IsOnInteger op → (a : Sorted) → SortedTyped s a → Gives (SortedTyped s) (on_integer at op a)
on_integer_well s at op is a w = gives_one (IntegerTyped s) (SortedTyped s) (as_integer at a) _ (integer_well s at a w) (λ t v. (refl, is, v.0, v.1))

pub on_integers_well : (s : AnnotationSight) (at : Place) (op : BinOp) (a b : Sorted) → SortedTyped s a → SortedTyped s b → Gives (SortedTyped s) (on_integers at op a b)
on_integers_well s at op a b v w =
    gives_one (IntegerTyped s) (SortedTyped s) (as_integer at a) _ (integer_well s at a v) (λ t x.
    gives_one (IntegerTyped s) (SortedTyped s) (as_integer at b) _ (integer_well s at b w) (λ u y. (refl, x.0, y.0, x.1, y.1)))

pub deref_well : (s : AnnotationSight) (at : Place) (a : Sorted) → SortedTyped s a → Gives (SortedTyped s) (deref at a)
deref_well s at a w =
    gives_one (PointerTyped s) (SortedTyped s) (as_pointer at a) _ (pointer_well s at a w) (λ p v. gives_where (SortedTyped s) (not (is_void p.0)) (no_type at) _ (λ e. (tt, (p.0, refl, v.0, v.1))))

pub address_well : (s : AnnotationSight) (at : Place) (a : Sorted) → SortedTyped s a → Gives (SortedTyped s) (address at a)
address_well s at (ATerm t) w = tt
address_well s at (APredicate p) w = tt
address_well s at (APlace t) w = gives_given (SortedTyped s) (type_of_term t) (no_type at) (address_at at t) (λ u e. (u, refl, e, w.0, w.1))

pub member_well : (s : AnnotationSight) (at : Place) (m : ℕ) (t : LogicTerm) (u : PlainType) → type_of_term t ≡ Some u → IsPlace t → TermTyped s t → Gives (SortedTyped s) (member_of s.here at m t u)
member_well s at m t u e p w =
    gives_where (SortedTyped s) (is_struct u) (no_type at) _ (λ h.
    gives_sized (SortedTyped s) s.here at u _ (λ k.
    gives_given (SortedTyped s) (member_among m (members_of s.here.structs u)) (no_name at) (member_at at t) (λ f g.
    gives_where (SortedTyped s) (nat_le f.offset most_bytes) (too_large at) _ (λ j.
    let is = struct_is u h in
    (tt, (f.ctype, refl, is.0, subst (λ (v : PlainType). type_of_term t ≡ Some v) is.1 e, p, w, leb-true f.offset most_bytes j))))))

pub dot_well : (s : AnnotationSight) (at : Place) (m : ℕ) (a : Sorted) → SortedTyped s a → Gives (SortedTyped s) (dot s.here at m a)
dot_well s at m (ATerm t) w = tt
dot_well s at m (APredicate p) w = tt
dot_well s at m (APlace t) w = gives_given (SortedTyped s) (type_of_term t) (no_type at) (member_of s.here at m t) (λ u e. member_well s at m t u e w.0 w.1)

pub arrow_well : (s : AnnotationSight) (at : Place) (m : ℕ) (a : Sorted) → SortedTyped s a → Gives (SortedTyped s) (arrow s.here at m a)
arrow_well s at m a w =
    gives_one (PointerTyped s) (SortedTyped s) (as_pointer at a) _ (pointer_well s at a w) (λ p v. member_well s at m (Deref at (Some p.0) range_to_infer p.1) p.0 refl tt (p.0, refl, v.0, v.1))

-- ---- pointers and integers

-- goes on with two terms where what they point to is known
pub known_well : (s : AnnotationSight) (at : Place) (a b : Sorted) (k : LogicTerm → LogicTerm → Checked Sorted) → SortedTyped s a → SortedTyped s b
    → ((t u : LogicTerm) → TermTyped s t → TermTyped s u → Gives (SortedTyped s) (k t u))
    → Gives (SortedTyped s) (with_terms s.here at a b k)
known_well s at a b k v w h =
    gives_where (SortedTyped s) (are_known s.here a b) (no_name at) (one_part (as_term at a) (λ t. one_part (as_term at b) (k t))) (λ e.
    gives_one (TermTyped s) (SortedTyped s) (as_term at a) (λ t. one_part (as_term at b) (k t)) (term_well s at a v) (λ t x.
    gives_one (TermTyped s) (SortedTyped s) (as_term at b) (k t) (term_well s at b w) (λ u y. h t u x y)))

module _ (s : AnnotationSight) (at : Place) (t u : LogicTerm) (v : TermTyped s t) (w : TermTyped s u) where
  sum_by : (k l : ValueSort) → sort_of_term t ≡ k → sort_of_term u ≡ l → Gives (SortedTyped s) (sum_of s.here at t u k l)
  sum_by AnInteger AnInteger e f = (refl, e, f, v, w)
  sum_by (APointer x) AnInteger e f = gives_measured (SortedTyped s) s.here at x _ (λ h. (x, refl, e, f, v, w, h.0))
  sum_by AnInteger (APointer x) e f = gives_measured (SortedTyped s) s.here at x _ (λ h. (x, refl, f, e, w, v, h.0))
  sum_by (APointer x) (APointer y) e f = tt
  sum_by NoValue l e f = tt
  sum_by AnInteger NoValue e f = tt
  sum_by (APointer x) NoValue e f = tt

  difference_by : (k l : ValueSort) → sort_of_term t ≡ k → sort_of_term u ≡ l → Gives (SortedTyped s) (difference_of s.here at t u k l)
  difference_by AnInteger AnInteger e f = (refl, e, f, v, w)
  difference_by (APointer x) AnInteger e f = gives_measured (SortedTyped s) s.here at x _ (λ h. (x, refl, e, f, v, w, h.0))
  difference_by (APointer x) (APointer y) e f = gives_where (SortedTyped s) (c.same_type x y) (no_type at) _ (λ g. gives_measured (SortedTyped s) s.here at x _ (λ h. (refl, (x, e), (y, f), v, w, h.0)))
  difference_by AnInteger (APointer x) e f = tt
  difference_by NoValue l e f = tt
  difference_by AnInteger NoValue e f = tt
  difference_by (APointer x) NoValue e f = tt

  element_by : (k l : ValueSort) → sort_of_term t ≡ k → sort_of_term u ≡ l → Gives (SortedTyped s) (element_of s.here at t u k l)
  element_by AnInteger AnInteger e f = tt
  element_by (APointer x) AnInteger e f = gives_measured (SortedTyped s) s.here at x _ (λ h. (tt, (x, refl, refl, (x, refl, e, f, v, w, h.0))))
  element_by AnInteger (APointer x) e f = gives_measured (SortedTyped s) s.here at x _ (λ h. (tt, (x, refl, refl, (x, refl, f, e, w, v, h.0))))
  element_by (APointer x) (APointer y) e f = tt
  element_by NoValue l e f = tt
  element_by AnInteger NoValue e f = tt
  element_by (APointer x) NoValue e f = tt

  choice_by : (p : Predicate) → IsQuiet p → PredicateTyped s p → (k l : ValueSort) → sort_of_term t ≡ k → sort_of_term u ≡ l → Gives (SortedTyped s) (choice_of_terms at p t u k l)
  choice_by p quiet z AnInteger AnInteger e f = (BetweenIntegers refl e f, quiet, z, v, w)
  choice_by p quiet z (APointer x) (APointer y) e f = gives_given (SortedTyped s) (choice_target x y) (no_type at) (λ a. Good (pointer_choice at p t u a)) (λ a g. (BetweenPointers a x y refl e f, quiet, z, v, w))
  choice_by p quiet z AnInteger (APointer x) e f = tt
  choice_by p quiet z (APointer x) AnInteger e f = tt
  choice_by p quiet z NoValue l e f = tt
  choice_by p quiet z AnInteger NoValue e f = tt
  choice_by p quiet z (APointer x) NoValue e f = tt

pub sum_well : (s : AnnotationSight) (at : Place) (a b : Sorted) → SortedTyped s a → SortedTyped s b → Gives (SortedTyped s) (sum s.here at a b)
sum_well s at a b v w = known_well s at a b _ v w (λ t u x y. sum_by s at t u x y (sort_of_term t) (sort_of_term u) refl refl)

pub difference_well : (s : AnnotationSight) (at : Place) (a b : Sorted) → SortedTyped s a → SortedTyped s b → Gives (SortedTyped s) (difference s.here at a b)
difference_well s at a b v w = known_well s at a b _ v w (λ t u x y. difference_by s at t u x y (sort_of_term t) (sort_of_term u) refl refl)

pub index_well : (s : AnnotationSight) (at : Place) (a b : Sorted) → SortedTyped s a → SortedTyped s b → Gives (SortedTyped s) (index s.here at a b)
index_well s at a b v w = known_well s at a b _ v w (λ t u x y. element_by s at t u x y (sort_of_term t) (sort_of_term u) refl refl)

pub binary_well : (s : AnnotationSight) (at : Place) (op : BinOp) (a b : Sorted) → SortedTyped s a → SortedTyped s b → Gives (SortedTyped s) (binary_on s.here at op a b)
binary_well s at operator.Add a b v w = sum_well s at a b v w
binary_well s at operator.Sub a b v w = difference_well s at a b v w
binary_well s at operator.Mul a b v w = on_integers_well s at operator.Mul a b v w
binary_well s at operator.Div a b v w = on_integers_well s at operator.Div a b v w
binary_well s at operator.Rem a b v w = on_integers_well s at operator.Rem a b v w
binary_well s at operator.Shl a b v w = on_integers_well s at operator.Shl a b v w
binary_well s at operator.Shr a b v w = on_integers_well s at operator.Shr a b v w
binary_well s at operator.BitAnd a b v w = on_integers_well s at operator.BitAnd a b v w
binary_well s at operator.BitOr a b v w = on_integers_well s at operator.BitOr a b v w
binary_well s at operator.BitXor a b v w = on_integers_well s at operator.BitXor a b v w
binary_well s at operator.Eq a b v w = on_integers_well s at operator.Eq a b v w
binary_well s at operator.Ne a b v w = on_integers_well s at operator.Ne a b v w
binary_well s at operator.Lt a b v w = on_integers_well s at operator.Lt a b v w
binary_well s at operator.Le a b v w = on_integers_well s at operator.Le a b v w
binary_well s at operator.Gt a b v w = on_integers_well s at operator.Gt a b v w
binary_well s at operator.Ge a b v w = on_integers_well s at operator.Ge a b v w

pub not_well : (s : AnnotationSight) (at : Place) (a : Sorted) → SortedTyped s a → Gives (SortedTyped s) (unary_on at unary.Not a)
not_well s at a w =
    gives_one (SortedTyped s) (SortedTyped s) (as_value a) _ (value_well s a w) (λ b v. gives_one (PredicateTyped s) (SortedTyped s) (as_predicate at b) _ (predicate_well s at b v) (λ p x. x))

pub unary_well : (s : AnnotationSight) (at : Place) (op : UnOp) (a : Sorted) → SortedTyped s a → Gives (SortedTyped s) (unary_on at op a)
unary_well s at unary.Plus a w = gives_one (SortedTyped s) (SortedTyped s) (as_value a) _ (value_well s a w) (on_integer_well s at unary.Plus tt)
unary_well s at unary.Minus a w = gives_one (SortedTyped s) (SortedTyped s) (as_value a) _ (value_well s a w) (on_integer_well s at unary.Minus tt)
unary_well s at unary.Flip a w = gives_one (SortedTyped s) (SortedTyped s) (as_value a) _ (value_well s a w) (on_integer_well s at unary.Flip tt)
unary_well s at unary.Not a w = not_well s at a w
unary_well s at unary.Deref a w = gives_one (SortedTyped s) (SortedTyped s) (as_value a) _ (value_well s a w) (deref_well s at)
unary_well s at unary.Address a w = address_well s at a w

-- ---- casts

pub cast_integer_well : (s : AnnotationSight) (at : Place) (to : CastType) → IsCastType to → (a : Sorted) → SortedTyped s a → Gives (SortedTyped s) (cast_integer at to a)
cast_integer_well s at to is a w = gives_one (IntegerTyped s) (SortedTyped s) (as_integer at a) _ (integer_well s at a w) (λ t v. (OfInteger refl is v.0, v.1))

pub cast_pointer_well : (s : AnnotationSight) (at : Place) (u : PlainType) (a : Sorted) → SortedTyped s a → Gives (SortedTyped s) (cast_pointer at u a)
cast_pointer_well s at u a w = gives_one (PointerTyped s) (SortedTyped s) (as_pointer at a) _ (pointer_well s at a w) (λ p v. (OfPointer u p.0 refl refl v.0, v.1))

pub cast_well : (s : AnnotationSight) (at : Place) (to : PlainType) (a : Sorted) → SortedTyped s a → Gives (SortedTyped s) (cast at to a)
cast_well s at to a w = by (integer_type to) refl
  where
    by : (o : Option CInt) → integer_type to ≡ o → Gives (SortedTyped s) (elim o [ Some k ↦ cast_integer at (OfC to) a | None ↦ given (c.pointed to) (no_type at) (λ u. cast_pointer at u a) ])
    by (Some k) e = cast_integer_well s at (OfC to) (there_is to (ap is_there e)) a w
    by None e = gives_given (SortedTyped s) (c.pointed to) (no_type at) (λ u. cast_pointer at u a) (λ u g. cast_pointer_well s at u a w)

-- ---- predicates and choices

pub connected_well : (s : AnnotationSight) (at : Place) (k : Connective) (a b : Sorted) → SortedTyped s a → SortedTyped s b → Gives (SortedTyped s) (connected at k a b)
connected_well s at k a b v w =
    gives_one (PredicateTyped s) (SortedTyped s) (as_predicate at a) _ (predicate_well s at a v) (λ p x.
    gives_one (PredicateTyped s) (SortedTyped s) (as_predicate at b) _ (predicate_well s at b w) (λ q y. (x, y)))

pub branch_well : (s : AnnotationSight) (at : Place) (p : Predicate) (a b : Sorted) → PredicateTyped s p → SortedTyped s a → SortedTyped s b → Gives (SortedTyped s) (branch at p a b)
branch_well s at p a b z v w =
    gives_one (PredicateTyped s) (SortedTyped s) (as_predicate at a) _ (predicate_well s at a v) (λ q x.
    gives_one (PredicateTyped s) (SortedTyped s) (as_predicate at b) _ (predicate_well s at b w) (λ r y. (z, x, y)))

pub none_of : (a b : Option Place) → c.or_else a b ≡ None → (a ≡ None) × (b ≡ None)
none_of None b e = (refl, e)
none_of (Some at) b e = absurd cc

pub quiet_is : (p : Predicate) → quantifier_in p ≡ None → IsQuiet p
quiet_is (Truth at b) e = tt
quiet_is (NonZero at t) e = tt
quiet_is (Chain at t links) e = tt
quiet_is (Not at p) e = quiet_is p e
quiet_is (Connected at k p q) e = let both = none_of (quantifier_in p) (quantifier_in q) e in (quiet_is p both.0, quiet_is q both.1)
quiet_is (Branch at k p q) e =
    let first = none_of (quantifier_in k) (c.or_else (quantifier_in p) (quantifier_in q)) e in
    let both = none_of (quantifier_in p) (quantifier_in q) first.1 in
    (quiet_is k first.0, quiet_is p both.0, quiet_is q both.1)
quiet_is (Quantified at q gs p) e = absurd cc
quiet_is (Asks at f z) e = tt
quiet_is (Separated at zs) e = tt

pub gives_quiet : {A : Type 0} (R : A → Type 0) (p : Predicate) (k : Checked A) → (IsQuiet p → Gives R k) → Gives R (where_quiet p k)
gives_quiet R p k h = by (quantifier_in p) refl
  where
    by : (o : Option Place) → quantifier_in p ≡ o → Gives R (elim o [ None ↦ k | Some at ↦ faulty (no_type at) ])
    by None e = h (quiet_is p e)
    by (Some at) e = tt

pub between_well : (s : AnnotationSight) (at : Place) (p : Predicate) (a b : Sorted) → PredicateTyped s p → SortedTyped s a → SortedTyped s b → Gives (SortedTyped s) (choice_between at p a b)
between_well s at p (ATerm t) (ATerm u) z v w =
    gives_quiet (SortedTyped s) p (choice_of_terms at p t u (sort_of_term t) (sort_of_term u)) (λ quiet. choice_by s at t u v w p quiet z (sort_of_term t) (sort_of_term u) refl refl)
between_well s at p (ATerm t) (APredicate q) z v w = branch_well s at p (ATerm t) (APredicate q) z v w
between_well s at p (ATerm t) (APlace u) z v w = branch_well s at p (ATerm t) (APlace u) z v w
between_well s at p (APredicate q) b z v w = branch_well s at p (APredicate q) b z v w
between_well s at p (APlace t) b z v w = branch_well s at p (APlace t) b z v w

pub chosen_well : (s : AnnotationSight) (at : Place) (k a b : Sorted) → SortedTyped s k → SortedTyped s a → SortedTyped s b → Gives (SortedTyped s) (chosen at k a b)
chosen_well s at k a b u v w = gives_one (PredicateTyped s) (SortedTyped s) (as_predicate at k) _ (predicate_well s at k u) (λ p z. between_well s at p a b z v w)

-- ---- sides of relations

abbrev pub SideSays : Side → LogicTerm → Type 0
SideSays AnySide t = ⊥
SideSays IntegerSide t = IsIntegerTerm t
SideSays ZeroSide t = IsZeroTerm t × IsIntegerTerm t
SideSays PointerSide t = IsPointerTerm t
SideSays OtherSide t = Unit {0}

pub related_well : (l r : Side) (a b : LogicTerm) → SideSays l a → SideSays r b → are_related l r ≡ true → AreRelated a b
related_well AnySide r a b h k e = absurd h
related_well OtherSide r a b h k e = absurd cc
related_well IntegerSide AnySide a b h k e = absurd k
related_well IntegerSide IntegerSide a b h k e = inl (h, k)
related_well IntegerSide ZeroSide a b h k e = inl (h, k.1)
related_well IntegerSide PointerSide a b h k e = absurd cc
related_well IntegerSide OtherSide a b h k e = absurd cc
related_well ZeroSide AnySide a b h k e = absurd k
related_well ZeroSide IntegerSide a b h k e = inl (h.1, k)
related_well ZeroSide ZeroSide a b h k e = inl (h.1, k.1)
related_well ZeroSide PointerSide a b h k e = inr (inr (inr (h.0, k)))
related_well ZeroSide OtherSide a b h k e = absurd cc
related_well PointerSide AnySide a b h k e = absurd k
related_well PointerSide IntegerSide a b h k e = absurd cc
related_well PointerSide ZeroSide a b h k e = inr (inr (inl (h, k.0)))
related_well PointerSide PointerSide a b h k e = inr (inl (h, k))
related_well PointerSide OtherSide a b h k e = absurd cc

pub sort_says : (t : LogicTerm) (k : ValueSort) → sort_of_term t ≡ k → SideSays (side_of_sort k) t
sort_says t AnInteger e = e
sort_says t (APointer u) e = (u, e)
sort_says t NoValue e = tt

pub sorted_says : (at : Place) (a : Sorted) (t : LogicTerm) → as_term at a ≡ Good t → SideSays (side_of_sorted a) t
sorted_says at (ATerm u) t e = let f : u ≡ t = cc in subst (λ (x : LogicTerm). SideSays (side_of_sort (sort_of_term u)) x) f (sort_says u (sort_of_term u) refl)
sorted_says at (APredicate p) t e = absurd cc
sorted_says at (APlace u) t e = let f : u ≡ t = cc in subst (λ (x : LogicTerm). SideSays (side_of_sort (sort_of_term u)) x) f (sort_says u (sort_of_term u) refl)

pub zero_is : (z : ℤ) → int_eq z (pos 0) ≡ true → z ≡ pos 0
zero_is z e = (Decides-int_eq z (pos 0)).0 e

pub zero_says : (at : Place) (n : ℤ) (b : Bool) → int_eq n (pos 0) ≡ b → SideSays (cond b ZeroSide IntegerSide) (Number at None range_to_infer n)
zero_says at n true e = (zero_is n e, refl)
zero_says at n false e = refl

-- what typing makes of a form that is a number
abbrev pub MadeOf : Form → Sorted → Type 0
MadeOf (read.Number at n) a = a ≡ number at n
MadeOf _ a = Unit {0}

pub side_says : (f : Form) (at : Place) (a : Sorted) (t : LogicTerm) → MadeOf f a → as_term at a ≡ Good t → SideSays (side_of f (Good a)) t
side_says (read.Number place n) at a t m e =
    let f : as_term at (number place n) ≡ Good t = subst (λ (x : Sorted). as_term at x ≡ Good t) m e in
    let g : Number place None range_to_infer n ≡ t = cc in
    subst (λ (x : LogicTerm). SideSays (side_of (read.Number place n) (Good a)) x) g (subst (λ (x : Sorted). SideSays (side_of (read.Number place n) (Good x)) (Number place None range_to_infer n)) (sym m) (zero_says place n (int_eq n (pos 0)) refl))
side_says (read.Letter place n) at a t m e = sorted_says at a t e
side_says (read.Truth place b) at a t m e = sorted_says at a t e
side_says (read.Name place x) at a t m e = sorted_says at a t e
side_says (read.Unary place op x) at a t m e = sorted_says at a t e
side_says (read.Binary place op x y) at a t m e = sorted_says at a t e
side_says (read.Cast place to x) at a t m e = sorted_says at a t e
side_says (read.SizeOf place u) at a t m e = sorted_says at a t e
side_says (read.Chain place x links) at a t m e = sorted_says at a t e
side_says (read.Connected place k x y) at a t m e = sorted_says at a t e
side_says (read.Choice place k x y) at a t m e = sorted_says at a t e
side_says (read.Null place) at a t m e = sorted_says at a t e
side_says (read.Index place x y) at a t m e = sorted_says at a t e
side_says (read.Dot place x j) at a t m e = sorted_says at a t e
side_says (read.Arrow place x j) at a t m e = sorted_says at a t e
side_says (read.Told place f x) at a t m e = sorted_says at a t e
side_says (read.Asks place q z) at a t m e = sorted_says at a t e
side_says (read.Separated place zs) at a t m e = sorted_says at a t e
side_says (read.Result place) at a t m e = sorted_says at a t e
side_says (read.Old place x) at a t m e = sorted_says at a t e
side_says (read.At place x other l) at a t m e = sorted_says at a t e
side_says (read.Quantified place q to names x) at a t m e = sorted_says at a t e

-- a checked value, and that it is this one
pub known : {A : Type 0} (P : A → Type 0) (k : Checked A) → Gives P k → Gives (λ a. P a × (k ≡ Good a)) k
known P (Good a) w = (w, refl)
known P (Bad f fs) w = tt

-- ---- parts

pub gives_pair : {A B C : Type 0} (P : A → Type 0) (Q : B → Type 0) (R : C → Type 0) (m : Checked A) (n : Checked B) (k : (A × B) → Checked C)
    → Gives P m → Gives Q n → ((a : A) (b : B) → P a → Q b → Gives R (k (a, b))) → Gives R (one_part (pair_of m n) k)
gives_pair P Q R (Good a) (Good b) k p q h = h a b p q
gives_pair P Q R (Good a) (Bad g gs) k p q h = tt
gives_pair P Q R (Bad f fs) (Good b) k p q h = tt
gives_pair P Q R (Bad f fs) (Bad g gs) k p q h = tt

pub gives_besides : {A : Type 0} (P : A → Type 0) (t : Bool) (f : Fault) (c : Checked A) → Gives P c → Gives P (besides t f c)
gives_besides P true f c w = w
gives_besides P false f (Good a) w = tt
gives_besides P false f (Bad g gs) w = tt

pub gives_limited : {A : Type 0} (P : A → Type 0) (s : Sight) (at : Place) (t : PlainType) (c : Checked A) → Gives P c → Gives P (limited s at t c)
gives_limited P s at t c w = gives_besides P (is_within_limits s t) (too_large at) c w

pub anything : {A : Type 0} (c : Checked A) → Gives (λ (a : A). Unit {0}) c
anything (Good a) = tt
anything (Bad f fs) = tt

abbrev pub Any : PlainType → Type 0
Any t = Unit {0}

pub made : (s : AnnotationSight) (f : Form) → Gives (MadeOf f) (value_in (typed_form s f))
made s (read.Number at n) = refl
made s (read.Letter at n) = anything (value_in (typed_form s (read.Letter at n)))
made s (read.Truth at b) = anything (value_in (typed_form s (read.Truth at b)))
made s (read.Name at x) = anything (value_in (typed_form s (read.Name at x)))
made s (read.Unary at op x) = anything (value_in (typed_form s (read.Unary at op x)))
made s (read.Binary at op x y) = anything (value_in (typed_form s (read.Binary at op x y)))
made s (read.Cast at to x) = anything (value_in (typed_form s (read.Cast at to x)))
made s (read.SizeOf at u) = anything (value_in (typed_form s (read.SizeOf at u)))
made s (read.Chain at x links) = anything (value_in (typed_form s (read.Chain at x links)))
made s (read.Connected at k x y) = anything (value_in (typed_form s (read.Connected at k x y)))
made s (read.Choice at k x y) = anything (value_in (typed_form s (read.Choice at k x y)))
made s (read.Null at) = anything (value_in (typed_form s (read.Null at)))
made s (read.Index at x y) = anything (value_in (typed_form s (read.Index at x y)))
made s (read.Dot at x m) = anything (value_in (typed_form s (read.Dot at x m)))
made s (read.Arrow at x m) = anything (value_in (typed_form s (read.Arrow at x m)))
made s (read.Told at f x) = anything (value_in (typed_form s (read.Told at f x)))
made s (read.Asks at q z) = anything (value_in (typed_form s (read.Asks at q z)))
made s (read.Separated at zs) = anything (value_in (typed_form s (read.Separated at zs)))
made s (read.Result at) = anything (value_in (typed_form s (read.Result at)))
made s (read.Old at x) = anything (value_in (typed_form s (read.Old at x)))
made s (read.At at x place l) = anything (value_in (typed_form s (read.At at x place l)))
made s (read.Quantified at q to names x) = anything (value_in (typed_form s (read.Quantified at q to names x)))

-- the right side of a relation
abbrev pub RightTyped : AnnotationSight → Side → Side → LogicTerm → Type 0
RightTyped s left right t = (are_related left right ≡ true) × SideSays right t × TermTyped s t

pub right_well : (s : AnnotationSight) (at : Place) (left : Side) (f : Form) (k : Checked Sorted) → Gives (MadeOf f) k → Gives (SortedTyped s) k → Gives (RightTyped s left (side_of f k)) (one_part k (right_side at left (side_of f k)))
right_well s at left f (Bad x xs) m w = tt
right_well s at left f (Good a) m w =
    gives_where (RightTyped s left (side_of f (Good a))) (are_related left (side_of f (Good a))) (no_type at) (as_term at a) (λ e. by (as_term at a) refl (term_well s at a w) e)
  where
    by : (o : Checked LogicTerm) → as_term at a ≡ o → Gives (TermTyped s) o → are_related left (side_of f (Good a)) ≡ true → Gives (RightTyped s left (side_of f (Good a))) o
    by (Good t) h v e = (e, side_says f at a t m h, v)
    by (Bad x xs) h v e = tt

-- what is known of links behind a side
abbrev pub LinksFit : AnnotationSight → Side → Links → Type 0
LinksFit s left links = (a : LogicTerm) → SideSays left a → LinksTyped s a links

pub chain_well : (s : AnnotationSight) (at : Place) (f : Form) (k : Checked Sorted) (a : Sorted) (links : Links) → Gives (MadeOf f) k → k ≡ Good a → SortedTyped s a → LinksFit s (side_of f k) links → Gives (SortedTyped s) (related at a links)
chain_well s at f k a NoLink m e v w = tt
chain_well s at f k a (Linked place r b rest) m e v w = by (as_term at a) refl (term_well s at a v)
  where
    by : (o : Checked LogicTerm) → as_term at a ≡ o → Gives (TermTyped s) o → Gives (SortedTyped s) (one_part o (λ t. Good (APredicate (Chain at t (Linked place r b rest)))))
    by (Good t) h x = (x, w t (subst (λ (j : Checked Sorted). SideSays (side_of f j) t) (sym e) (side_says f at a t (gives_of (MadeOf f) k a m e) h)), tt)
    by (Bad x xs) h y = tt

-- ---- zones

pub asked_well : {A : Type 0} (P : A → Type 0) (s : Sight) (at : Place) (q : MemoryQuestion) (u : PlainType) (k : Checked A) → (Measured s u → Gives P k) → Gives P (where_asked s at q u k)
asked_well P s at Valid u k w = gives_measured P s at u k w
asked_well P s at ValidRead u k w = gives_measured P s at u k w
asked_well P s at Initialized u k w = gives_where P (is_scalar u) (no_type at) (where_measured s at u k) (λ e. gives_measured P s at u k w)

pub object_well : (s : AnnotationSight) (q : MemoryQuestion) (at : Place) (a : Sorted) → SortedTyped s a → Gives (ZoneTyped s) (object_zone s.here q at a)
object_well s q at a w = gives_one (PointerTyped s) (ZoneTyped s) (as_pointer at a) _ (pointer_well s at a w) (λ p v. asked_well (ZoneTyped s) s.here at q p.0 _ (λ g. ((p.0, v.0), v.1, g.0, g.1)))

pub elements_well : (s : AnnotationSight) (q : MemoryQuestion) (at : Place) (a lo hi : Sorted) → SortedTyped s a → SortedTyped s lo → SortedTyped s hi → Gives (ZoneTyped s) (elements_zone s.here q at a lo hi)
elements_well s q at a lo hi u v w =
    gives_one (PointerTyped s) (ZoneTyped s) (as_pointer at a) _ (pointer_well s at a u) (λ p x. asked_well (ZoneTyped s) s.here at q p.0 _ (λ g.
    gives_one (IntegerTyped s) (ZoneTyped s) (as_integer at lo) _ (integer_well s at lo v) (λ l y.
    gives_one (IntegerTyped s) (ZoneTyped s) (as_integer at hi) _ (integer_well s at hi w) (λ h z. ((p.0, x.0), y.0, z.0, x.1, y.1, z.1, g.0, g.1)))))

-- parts that are values, from what is known of the parts
pub value_of_form : (s : AnnotationSight) (f : Form) → Gives (SortedTyped s) (typed_form s f) → Gives (SortedTyped s) (value_in (typed_form s f))
value_of_form s f w = values_well s (typed_form s f) w

pub one_well : (s : AnnotationSight) (a : Form) (k : Sorted → Checked Sorted) → Gives (SortedTyped s) (typed_form s a) → ((x : Sorted) → SortedTyped s x → Gives (SortedTyped s) (k x)) → Gives (SortedTyped s) (one_part (value_in (typed_form s a)) k)
one_well s a k v h = gives_one (SortedTyped s) (SortedTyped s) (value_in (typed_form s a)) k (value_of_form s a v) h

pub two_well : (s : AnnotationSight) (a b : Form) (k : Sorted × Sorted → Checked Sorted) → Gives (SortedTyped s) (typed_form s a) → Gives (SortedTyped s) (typed_form s b)
    → ((x y : Sorted) → SortedTyped s x → SortedTyped s y → Gives (SortedTyped s) (k (x, y)))
    → Gives (SortedTyped s) (one_part (pair_of (value_in (typed_form s a)) (value_in (typed_form s b))) k)
two_well s a b k v w h = gives_pair (SortedTyped s) (SortedTyped s) (SortedTyped s) (value_in (typed_form s a)) (value_in (typed_form s b)) k (value_of_form s a v) (value_of_form s b w) h

pub pair_well : (s : AnnotationSight) (a b : Form) → Gives (SortedTyped s) (typed_form s a) → Gives (SortedTyped s) (typed_form s b)
    → Gives (λ (p : Sorted × Sorted). SortedTyped s p.0 × SortedTyped s p.1) (pair_of (value_in (typed_form s a)) (value_in (typed_form s b)))
pair_well s a b v w =
    gives_both (SortedTyped s) (SortedTyped s) (λ (p : Sorted × Sorted). SortedTyped s p.0 × SortedTyped s p.1) (value_in (typed_form s a)) (value_in (typed_form s b)) (λ a b. Good (a, b)) (value_of_form s a v) (value_of_form s b w)
    (λ a b v w. (v, w))
