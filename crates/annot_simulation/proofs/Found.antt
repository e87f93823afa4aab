-- What a typed predicate reads is in sight, and its terms are of the sorts that the code wants.
use Rattle.std.proofs.Common.{◌≡◌, ℕ, Bool, true, false, cond, nat_eq, List, [], ◌∷◌, ◌++◌, Option, Some, None, option_map, refl, sym, ap, ◌∙◌, subst, ◌⊎◌, inl, inr}
use Rattle.std.proofs.lemmas.Bool.{eq-eqb}
use Rattle.c_syntax.specs.declared.expression.Use.{Use}
use Rattle.c_syntax.specs.declared.place.Place.{Place}
use Rattle.c_syntax.specs.declared.logic.BlockFact.{BlockFact}
use Rattle.c_syntax.specs.declared.logic.BlockFact.TheVariants.{BaseAddr, BlockLength, Offset}
use Rattle.c_syntax.specs.declared.logic.Label.{Label}
use Rattle.c_syntax.specs.declared.logic.Label.TheVariants.{Here, Pre, Marked}
use Rattle.c_syntax.specs.Ctypes.{PlainType, Int, Ptr, Array, Struct, Void, StructTag, EnumTag}
use Rattle.c_syntax.specs.Ctypes as ctype
use Rattle.c_syntax.specs.Formulas.{CastType}
use Rattle.c_syntax.specs.Logic.{LogicTerm, Number, Letter, Variable, Unary, Binary, Cast, Choice, Named, At, Null, Deref, Member, Address, Moved, Difference}
use Rattle.c_syntax.specs.Logic.{Told, Links, NoLink, Linked, Zone, Object, Elements, Zones, NoZone, Another, Predicate, Truth, NonZero, Chain, Not}
use Rattle.c_syntax.specs.Logic.{Connected, Branch, Quantified, Asks, Separated, Binder, Guards, NoGuard, Guarded}
use Rattle.c_model.specs.AnnotationSights.{AnnotationSight, ClauseSight, InBody, AtEntry, AtEnd, UnderLabel, beginning, marked, sight_at, under_label, with_binders}
use Rattle.c_model.specs.ExpressionTyping.{Entity, AnObject, AnEnumerator, Object as CObject, Sight, entity_named, has_name, or_else}
use Rattle.c_model.specs.PredicateTyping.{ValueSort, AnInteger, APointer, sort_of, sort_of_type, sort_of_term, told_type}
use Rattle.c_model.specs.State.{Scope, find}
use Rattle.c_model.specs.TypedPredicates.{IsAlignment, IsIntegerTerm, PointsTo, IsPointerTerm, IsPlace, IsZeroTerm, AreRelated, IsCast, IsCastType, OfInteger, OfPointer}
use Rattle.c_model.specs.TypedPredicates.{AreBinders, GuardsTyped, IsBinder, IsChoice, BetweenIntegers, BetweenPointers, IsResult, TermTyped, LinksTyped, ZoneTyped, ZonesTyped, PredicateTyped}
use Rattle.c_model.specs.TypedTrees.{Denotes}
use Rattle.mon_syntax.specs.Arithmetic.{access_bytes}
use Rattle.mem_preds.specs.Questions.{size_of}
use Rattle.c_simulation.specs.Keeping.{Kept, is_pointer_sort, is_pointer_term}
use Rattle.annot_simulation.specs.Beside.{AreApart, ArePlanned, BindersApart, BindersSorted, GuardsApart, NoNames, ResultSorted}
use Rattle.annot_simulation.specs.Held.{Sorted, sort_held, sorts_within}
use Rattle.annot_simulation.specs.Plan.{Entry, IsIn, in_guards, in_links, in_predicate, in_term, in_zone, in_zones}
use Rattle.annot_simulation.specs.Does.{HasIntegers, HasPointers, GivesPointers, IsNumberFact, IsPointerFact, IsZero, AreSides, found_by, SideFound}
use Rattle.annot_simulation.specs.Does.{Planned, TermFound, PointerFound, PlaceFound, ZoneFound, ZonesFound, LinksFound, PredicateFound, GuardsFound}
use Rattle.annot_simulation.proofs.BinderNames.{bound_within, part, quiet_apart, result_apart}

-- ---- types by their sorts

typed_integer : (t : PlainType) → sort_of_type t ≡ AnInteger → HasIntegers (Some t)
typed_integer (Int k) e = (k, refl)
typed_integer (Ptr t) e = absurd cc
typed_integer (Array t n) e = absurd cc
typed_integer (Struct n) e = absurd cc
typed_integer Void e = absurd cc
typed_integer (ctype.Named x) e = absurd cc
typed_integer (StructTag x tag) e = absurd cc
typed_integer (EnumTag x at) e = absurd cc

typed_pointer : (t u : PlainType) → sort_of_type t ≡ APointer u → HasPointers (Some t)
typed_pointer (Int k) u e = absurd cc
typed_pointer (Ptr t) u e = tt
typed_pointer (Array t n) u e = tt
typed_pointer (Struct n) u e = absurd cc
typed_pointer Void u e = absurd cc
typed_pointer (ctype.Named x) u e = absurd cc
typed_pointer (StructTag x tag) u e = absurd cc
typed_pointer (EnumTag x at) u e = absurd cc

-- of a type that is given
pub given_integer : (t : Option PlainType) (u : PlainType) → t ≡ Some u → sort_of t ≡ AnInteger → HasIntegers t
given_integer None u is e = absurd cc
given_integer (Some t) u is e = typed_integer t e

given_pointer : (t : Option PlainType) (u v : PlainType) → t ≡ Some u → sort_of t ≡ APointer v → HasPointers t
given_pointer None u v is e = absurd cc
given_pointer (Some t) u v is e = typed_pointer t v e

-- a type of pointers is none of integers, and a term without a type is none of pointers
pub no_integer : (t : Option PlainType) (u : PlainType) → t ≡ Some (Ptr u) → sort_of t ≡ AnInteger → ⊥
no_integer t u is e = let i : APointer u ≡ AnInteger = sym (ap sort_of is) ∙ e in absurd cc

pub no_pointer : (t : Option PlainType) (u : PlainType) → t ≡ None → sort_of t ≡ APointer u → ⊥
no_pointer t u is e = let i : AnInteger ≡ APointer u = sym (ap sort_of is) ∙ e in absurd cc

pub told_number : (t : Option PlainType) (f : BlockFact) → t ≡ told_type f → sort_of t ≡ AnInteger → IsNumberFact f
told_number t BaseAddr is e = absurd (no_integer t _ is e)
told_number t BlockLength is e = tt
told_number t Offset is e = tt

told_pointer : (t : Option PlainType) (f : BlockFact) (u : PlainType) → t ≡ told_type f → sort_of t ≡ APointer u → IsPointerFact f
told_pointer t BaseAddr u is e = tt
told_pointer t BlockLength u is e = absurd (no_pointer t u is e)
told_pointer t Offset u is e = absurd (no_pointer t u is e)

-- ---- sides

-- a side is a number or a pointer
abbrev pub IsSide : LogicTerm → Type 0
IsSide t = IsIntegerTerm t ⊎ IsPointerTerm t

pub integer_false : (t : LogicTerm) → IsIntegerTerm t → is_pointer_term t ≡ false
integer_false t i = ap is_pointer_sort i

pub pointer_true : (t : LogicTerm) → IsPointerTerm t → is_pointer_term t ≡ true
pointer_true t i = ap is_pointer_sort i.1

module _ (s : AnnotationSight) where
  -- the number 0 has no type
  zero_integer : (t : LogicTerm) → TermTyped s t → IsZeroTerm t → IsIntegerTerm t × IsZero t
  zero_integer (Number at t r n) q z = (ap sort_of q, z)
  zero_integer _ q z = absurd z

  pub related_sides : (a b : LogicTerm) → TermTyped s a → TermTyped s b → AreRelated a b
      → IsSide a × IsSide b × AreSides (is_pointer_term a) (is_pointer_term b) a b
  related_sides a b ta tb (inl (i, j)) =
      (inl i, inl j, subst (λ m. AreSides m (is_pointer_term b) a b) (sym (integer_false a i)) (subst (λ n. AreSides false n a b) (sym (integer_false b j)) tt))
  related_sides a b ta tb (inr (inl (i, j))) =
      (inr i, inr j, subst (λ m. AreSides m (is_pointer_term b) a b) (sym (pointer_true a i)) (subst (λ n. AreSides true n a b) (sym (pointer_true b j)) tt))
  related_sides a b ta tb (inr (inr (inl (i, z)))) =
      let j = zero_integer b tb z in (
        inr i,
        inl j.0,
        subst (λ m. AreSides m (is_pointer_term b) a b) (sym (pointer_true a i)) (subst (λ n. AreSides true n a b) (sym (integer_false b j.0)) j.1),
      )
  related_sides a b ta tb (inr (inr (inr (z, i)))) =
      let j = zero_integer a ta z in (
        inl j.0,
        inr i,
        subst (λ m. AreSides m (is_pointer_term b) a b) (sym (integer_false a j.0)) (subst (λ n. AreSides false n a b) (sym (pointer_true b i)) j.1),
      )

pub of_sort : (P N : Type 0) (t : LogicTerm) → (IsIntegerTerm t → N) → ((u : PlainType) → PointsTo u t → P) → IsSide t → found_by (is_pointer_term t) P N
of_sort P N t f g (inl i) = subst (λ m. found_by m P N) (sym (integer_false t i)) (f i)
of_sort P N t f g (inr i) = subst (λ m. found_by m P N) (sym (pointer_true t i)) (g i.0 i.1)

side_by_sort : (ks : List Kept) (scope : Scope) (ns : Sorted) (t : LogicTerm) → (IsIntegerTerm t → TermFound ks scope ns t) → ((u : PlainType) → PointsTo u t → PointerFound ks scope ns t) → IsSide t
    → SideFound ks scope ns t
side_by_sort ks scope ns t f g i = of_sort (PointerFound ks scope ns t) (TermFound ks scope ns t) t f g i

-- ---- casts and choices

pub cast_integer : (t : Option PlainType) (to : CastType) (k : ValueSort) → IsCast t to k → sort_of t ≡ AnInteger → IsCastType to × (k ≡ AnInteger)
cast_integer t to k (OfInteger e i j) s = (i, j)
cast_integer t to k (OfPointer u v e i j) s = absurd (no_integer t u e s)

pub cast_pointer : (t : Option PlainType) (to : CastType) (k : ValueSort) (w : PlainType) → IsCast t to k → sort_of t ≡ APointer w
    → GivesPointers to × (v : PlainType) × (k ≡ APointer v)
cast_pointer t to k w (OfInteger e i j) s = absurd (no_pointer t w e s)
cast_pointer t to k w (OfPointer u v e i j) s = (subst GivesPointers (sym i) (u, refl), v, j)

pub choice_integer : (t : Option PlainType) (k l : ValueSort) → IsChoice t k l → sort_of t ≡ AnInteger → (k ≡ AnInteger) × (l ≡ AnInteger)
choice_integer t k l (BetweenIntegers e i j) s = (i, j)
choice_integer t k l (BetweenPointers u v w e i j) s = absurd (no_integer t u e s)

pub choice_pointer : (t : Option PlainType) (k l : ValueSort) (x : PlainType) → IsChoice t k l → sort_of t ≡ APointer x
    → ((v : PlainType) × (k ≡ APointer v)) × ((w : PlainType) × (l ≡ APointer w))
choice_pointer t k l x (BetweenIntegers e i j) s = absurd (no_pointer t x e s)
choice_pointer t k l x (BetweenPointers u v w e i j) s = ((v, i), (w, j))

-- ---- terms and predicates

-- an alignment of C is one that questions have
alignment_is : (m : ℕ) → IsAlignment m → access_bytes (size_of m) ≡ m
alignment_is m (inl e) = subst (λ n. access_bytes (size_of n) ≡ n) (sym e) refl
alignment_is m (inr (inl e)) = subst (λ n. access_bytes (size_of n) ≡ n) (sym e) refl
alignment_is m (inr (inr (inl e))) = subst (λ n. access_bytes (size_of n) ≡ n) (sym e) refl
alignment_is m (inr (inr (inr e))) = subst (λ n. access_bytes (size_of n) ≡ n) (sym e) refl

-- a label that is past
abbrev pub past_label : Option ℕ → Label
past_label None = Pre
past_label (Some l) = Marked l

-- ---- what stands in parts

abbrev pub EachOf : (Entry → Type 0) → List Entry → Type 0
EachOf P xs = (x : Entry) → IsIn x xs → P x

in_left : (x : Entry) (a b : List Entry) → IsIn x a → IsIn x (a ++ b)
in_left x [] b i = absurd i
in_left x (y ∷ a) b (inl e) = inl e
in_left x (y ∷ a) b (inr i) = inr (in_left x a b i)

in_right : (x : Entry) (a b : List Entry) → IsIn x b → IsIn x (a ++ b)
in_right x [] b i = i
in_right x (y ∷ a) b i = inr (in_right x a b i)

left : (P : Entry → Type 0) (a b : List Entry) → EachOf P (a ++ b) → EachOf P a
left P a b h x i = h x (in_left x a b i)

right : (P : Entry → Type 0) (a b : List Entry) → EachOf P (a ++ b) → EachOf P b
right P a b h x i = h x (in_right x a b i)

right2 : (P : Entry → Type 0) (a b c : List Entry) → EachOf P (a ++ (b ++ c)) → EachOf P b
right2 P a b c h = left P b c (right P a (b ++ c) h)

right3 : (P : Entry → Type 0) (a b c : List Entry) → EachOf P (a ++ (b ++ c)) → EachOf P c
right3 P a b c h = right P b c (right P a (b ++ c) h)

-- where an annotation stands: its objects are in sight, its names are held by their sorts, and what is wanted of terms at labels makes them found
pub record Stand (s : AnnotationSight) (scope : Scope) (ks : List Kept) (ns : Sorted) (P : Entry → Type 0) : Type 0 where
  pub denoted : (x : Use) (t : PlainType) → Denotes s.here x t → (number : ℕ) × (find x.decl scope ≡ Some number)
  pub named : (t : Option PlainType) (x : Use) → IsResult s.clause t x → sort_held x.decl ns ≡ Some (is_pointer_sort (sort_of t))
  pub binder : BindersSorted s.binders ns
  pub number_kept : (l : Option ℕ) (a : LogicTerm) (u : AnnotationSight) → sight_at s (past_label l) ≡ Some u → TermTyped u a → IsIntegerTerm a → P (l, a)
      → Planned ks l a × (there : Scope) × TermFound [] there [] a
  pub pointer_kept : (l : Option ℕ) (a : LogicTerm) (u : AnnotationSight) → sight_at s (past_label l) ≡ Some u → TermTyped u a → (v : PlainType) → PointsTo v a → P (l, a)
      → Planned ks l a × (is_pointer_term a ≡ true) × (there : Scope) × PointerFound [] there [] a

-- `\result`, or a binder, which is a number
name_sorted : (s : AnnotationSight) (scope : Scope) (ks : List Kept) (ns : Sorted) (P : Entry → Type 0) → Stand s scope ks ns P → (t : Option PlainType) (x : Use) → IsResult s.clause t x ⊎ IsBinder s.binders t x
    → sort_held x.decl ns ≡ Some (is_pointer_sort (sort_of t))
name_sorted s scope ks ns P stand t x (inl i) = stand.named t x i
name_sorted s scope ks ns P stand t x (inr b) = stand.binder x.decl b.1 ∙ ap (λ t. Some (is_pointer_sort (sort_of t))) (sym b.0)

-- what stands within binders
within_stands : (s : AnnotationSight) (scope : Scope) (ks : List Kept) (ns : Sorted) (P : Entry → Type 0) (ys : List Binder) (bs : List (Place × ℕ)) → AreBinders ys bs → NoNames s.clause ⊎ AreApart ys → Stand s scope ks ns P
    → Stand (with_binders s bs) scope ks (sorts_within ys ns) P
within_stands s scope ks ns P ys bs are apart stand = record {
  denoted = stand.denoted;
  named = λ t x i. held_so apart t x i;
  binder = λ x i. bound_within ns ys bs s.binders x are stand.binder i;
  number_kept = λ l a u e q i p. number l a u e q i p;
  pointer_kept = λ l a u e q v i p. pointer l a u e q v i p;
}
  where
    held_so : NoNames s.clause ⊎ AreApart ys → (t : Option PlainType) (x : Use) → IsResult s.clause t x → sort_held x.decl (sorts_within ys ns) ≡ Some (is_pointer_sort (sort_of t))
    held_so (inl none) t x i = absurd (none t x i)
    held_so (inr far) t x i = by_clause s.clause i
      where
        by_clause : (c : ClauseSight) → IsResult c t x → sort_held x.decl (sorts_within ys ns) ≡ Some (is_pointer_sort (sort_of t))
        by_clause (AtEnd formals u) j = ap (λ n. sort_held n (sorts_within ys ns)) j.0 ∙ result_apart ys ns far ∙ ap (λ n. sort_held n ns) (sym j.0) ∙ stand.named t x i
        by_clause (InBody v) j = absurd j
        by_clause AtEntry j = absurd j
        by_clause (UnderLabel formals) j = absurd j

    number : (l : Option ℕ) (a : LogicTerm) (u : AnnotationSight) → sight_at (with_binders s bs) (past_label l) ≡ Some u → TermTyped u a → IsIntegerTerm a → P (l, a) → Planned ks l a × (there : Scope) × TermFound [] there [] a
    number None a u e q i p = stand.number_kept None a u e q i p
    number (Some l) a u e q i p = stand.number_kept (Some l) a u e q i p

    pointer : (l : Option ℕ) (a : LogicTerm) (u : AnnotationSight) → sight_at (with_binders s bs) (past_label l) ≡ Some u → TermTyped u a → (v : PlainType) → PointsTo v a → P (l, a)
        → Planned ks l a × (is_pointer_term a ≡ true) × (there : Scope) × PointerFound [] there [] a
    pointer None a u e q v i p = stand.pointer_kept None a u e q v i p
    pointer (Some l) a u e q v i p = stand.pointer_kept (Some l) a u e q v i p

module _ (scope : Scope) (ks : List Kept) (P : Entry → Type 0) where
  -- the same place
  here_typed : (s : AnnotationSight) (a : LogicTerm) (u : AnnotationSight) → Some s ≡ Some u → TermTyped u a → TermTyped s a
  here_typed s a u e q = let same : s ≡ u = cc in subst (λ v. TermTyped v a) (sym same) q

  mutual
    pub term_found : (ns : Sorted) (s : AnnotationSight) (stand : Stand s scope ks ns P) → (t : LogicTerm) → TermTyped s t → EachOf P (in_term t) → IsIntegerTerm t → TermFound ks scope ns t
    term_found ns s stand (Number at c r z) q h i = tt
    term_found ns s stand (Letter at c r z) q h i = tt
    term_found ns s stand (Variable at c r x) q h i = let d = stand.denoted x q.ctype q.denotes in (given_integer c q.ctype q.is i, d.0, d.1)
    term_found ns s stand (Unary at c r op a) q h i = term_found ns s stand a q.3 h q.2
    term_found ns s stand (Binary at c r op a b) q h i = (term_found ns s stand a q.3 (left P (in_term a) (in_term b) h) q.1, term_found ns s stand b q.4 (right P (in_term a) (in_term b) h) q.2)
    term_found ns s stand (Cast at c r to a) q h i =
        let k = cast_integer c to (sort_of_term a) q.0 i in
        (k.0, term_found ns s stand a q.1 h k.1)
    term_found ns s stand (Choice at c r p a b) q h i =
        let k = choice_integer c (sort_of_term a) (sort_of_term b) q.0 i in (
          q.1,
          predicate_found ns s stand p q.2 (inr (quiet_apart p q.1)) (left P (in_predicate p) (in_term a ++ in_term b) h),
          term_found ns s stand a q.3 (right2 P (in_predicate p) (in_term a) (in_term b) h) k.0,
          term_found ns s stand b q.4
              (right3 P (in_predicate p) (in_term a) (in_term b) h) k.1,
        )
    term_found ns s stand (Named at c r x) q h i = name_sorted s scope ks ns P stand c x q ∙ ap (λ k. Some (is_pointer_sort k)) i
    term_found ns s stand (At at c r Here a) q h i = term_found ns s stand a (here_typed s a q.0 q.1 q.3) h (sym (ap sort_of q.2) ∙ i)
    term_found ns s stand (At at c r Pre a) q h i = stand.number_kept None a q.0 q.1 q.3 (sym (ap sort_of q.2) ∙ i) (h (None, a) (inl refl))
    term_found ns s stand (At at c r (Marked l) a) q h i = stand.number_kept (Some l) a q.0 q.1 q.3 (sym (ap sort_of q.2) ∙ i) (h (Some l, a) (inl refl))
    term_found ns s stand (Null at c r) q h i = absurd (no_integer c Void q i)
    term_found ns s stand (Deref at c r a) q h i = (given_integer c q.0 q.1 i, pointer_found ns s stand a q.3 h q.0 q.2)
    term_found ns s stand (Member at c r d a) q h i = (given_integer c q.0 q.1 i, place_found ns s stand a q.5 h q.4)
    term_found ns s stand (Address at c r a) q h i = absurd (no_integer c q.0 q.1 i)
    term_found ns s stand (Moved at c r op m a b) q h i = absurd (no_integer c q.0 q.1 i)
    term_found ns s stand (Difference at c r m a b) q h i = (q.5.0, pointer_found ns s stand a q.3 (left P (in_term a) (in_term b) h) q.1.0 q.1.1, pointer_found ns s stand b q.4 (right P (in_term a) (in_term b) h) q.2.0 q.2.1)
    term_found ns s stand (Told at c r f a) q h i = (told_number c f q.0 i, pointer_found ns s stand a q.2 h q.1.0 q.1.1)

    pub pointer_found : (ns : Sorted) (s : AnnotationSight) (stand : Stand s scope ks ns P) → (t : LogicTerm) → TermTyped s t → EachOf P (in_term t) → (u : PlainType) → PointsTo u t → PointerFound ks scope ns t
    pointer_found ns s stand (Number at c r z) q h u i = absurd (no_pointer c u q i)
    pointer_found ns s stand (Letter at c r z) q h u i = absurd (no_pointer c u q i)
    pointer_found ns s stand (Variable at c r x) q h u i = let d = stand.denoted x q.ctype q.denotes in (given_pointer c q.ctype u q.is i, d.0, d.1)
    pointer_found ns s stand (Unary at c r op a) q h u i = absurd (no_pointer c u q.0 i)
    pointer_found ns s stand (Binary at c r op a b) q h u i = absurd (no_pointer c u q.0 i)
    pointer_found ns s stand (Cast at c r to a) q h u i =
        let k = cast_pointer c to (sort_of_term a) u q.0 i in
        (k.0, pointer_found ns s stand a q.1 h k.1 k.2)
    pointer_found ns s stand (Choice at c r p a b) q h u i =
        let k = choice_pointer c (sort_of_term a) (sort_of_term b) u q.0 i in (
          q.1,
          predicate_found ns s stand p q.2 (inr (quiet_apart p q.1)) (left P (in_predicate p) (in_term a ++ in_term b) h),
          pointer_found ns s stand a q.3 (right2 P (in_predicate p) (in_term a) (in_term b) h) k.0.0 k.0.1,
          pointer_found ns s stand b q.4
              (right3 P (in_predicate p) (in_term a) (in_term b) h) k.1.0 k.1.1,
        )
    pointer_found ns s stand (Named at c r x) q h u i = name_sorted s scope ks ns P stand c x q ∙ ap (λ k. Some (is_pointer_sort k)) i
    pointer_found ns s stand (At at c r Here a) q h u i = pointer_found ns s stand a (here_typed s a q.0 q.1 q.3) h u (sym (ap sort_of q.2) ∙ i)
    pointer_found ns s stand (At at c r Pre a) q h u i = stand.pointer_kept None a q.0 q.1 q.3 u (sym (ap sort_of q.2) ∙ i) (h (None, a) (inl refl))
    pointer_found ns s stand (At at c r (Marked l) a) q h u i = stand.pointer_kept (Some l) a q.0 q.1 q.3 u (sym (ap sort_of q.2) ∙ i) (h (Some l, a) (inl refl))
    pointer_found ns s stand (Null at c r) q h u i = tt
    pointer_found ns s stand (Deref at c r a) q h u i = (given_pointer c q.0 u q.1 i, pointer_found ns s stand a q.3 h q.0 q.2)
    pointer_found ns s stand (Member at c r d a) q h u i = (given_pointer c q.0 u q.1 i, place_found ns s stand a q.5 h q.4)
    pointer_found ns s stand (Address at c r a) q h u i = place_found ns s stand a q.4 h q.3
    pointer_found ns s stand (Moved at c r op m a b) q h u i = (pointer_found ns s stand a q.4 (left P (in_term a) (in_term b) h) q.0 q.2, term_found ns s stand b q.5 (right P (in_term a) (in_term b) h) q.3)
    pointer_found ns s stand (Difference at c r m a b) q h u i = absurd (no_pointer c u q.0 i)
    pointer_found ns s stand (Told at c r f a) q h u i = (told_pointer c f u q.0 i, pointer_found ns s stand a q.2 h q.1.0 q.1.1)

    place_found : (ns : Sorted) (s : AnnotationSight) (stand : Stand s scope ks ns P) → (t : LogicTerm) → TermTyped s t → EachOf P (in_term t) → IsPlace t → PlaceFound ks scope ns t
    place_found ns s stand (Variable at c r x) q h i = stand.denoted x q.ctype q.denotes
    place_found ns s stand (Deref at c r a) q h i = pointer_found ns s stand a q.3 h q.0 q.2
    place_found ns s stand (Member at c r d a) q h i = place_found ns s stand a q.5 h q.4
    place_found ns s stand _ q h i = absurd i

    zone_found : (ns : Sorted) (s : AnnotationSight) (stand : Stand s scope ks ns P) → (z : Zone) → ZoneTyped s z → EachOf P (in_zone z) → ZoneFound ks scope ns z
    zone_found ns s stand (Object at m a t) q h = (alignment_is a q.3, pointer_found ns s stand t q.1 h q.0.0 q.0.1)
    zone_found ns s stand (Elements at m a t lo hi) q h = (
      alignment_is a q.7,
      pointer_found ns s stand t q.3 (left P (in_term t) (in_term lo ++ in_term hi) h) q.0.0 q.0.1,
      term_found ns s stand lo q.4 (right2 P (in_term t) (in_term lo) (in_term hi) h) q.1,
      term_found ns s stand hi q.5 (right3 P (in_term t) (in_term lo) (in_term hi) h) q.2,
    )

    zones_found : (ns : Sorted) (s : AnnotationSight) (stand : Stand s scope ks ns P) → (zs : Zones) → ZonesTyped s zs → EachOf P (in_zones zs) → ZonesFound ks scope ns zs
    zones_found ns s stand NoZone q h = tt
    zones_found ns s stand (Another z rest) q h = (zone_found ns s stand z q.0 (left P (in_zone z) (in_zones rest) h), zones_found ns s stand rest q.1 (right P (in_zone z) (in_zones rest) h))

    links_found : (ns : Sorted) (s : AnnotationSight) (stand : Stand s scope ks ns P) → (t : LogicTerm) → TermTyped s t → (l : Links) → LinksTyped s t l → EachOf P (in_links l) → LinksFound ks scope ns t l
    links_found ns s stand t tq NoLink q h = tt
    links_found ns s stand t tq (Linked at r u rest) q h =
        let k = related_sides s t u tq q.1 q.0 in
        let hu = left P (in_term u) (in_links rest) h in
        (k.2, side_by_sort ks scope ns u (term_found ns s stand u q.1 hu) (pointer_found ns s stand u q.1 hu) k.1, links_found ns s stand u q.1 rest q.2 (right P (in_term u) (in_links rest) h))

    pub predicate_found : (ns : Sorted) (s : AnnotationSight) (stand : Stand s scope ks ns P) → (p : Predicate) → PredicateTyped s p → NoNames s.clause ⊎ BindersApart p → EachOf P (in_predicate p) → PredicateFound ks scope ns p
    predicate_found ns s stand (Truth at b) q apart h = tt
    predicate_found ns s stand (NonZero at t) q apart h = term_found ns s stand t q.1 h q.0
    predicate_found ns s stand (Chain at t NoLink) q apart h = absurd q.2
    predicate_found ns s stand (Chain at t (Linked at2 r u rest)) q apart h =
        let k = related_sides s t u q.0 q.1.1 q.1.0 in
        let ht = left P (in_term t) (in_term u ++ in_links rest) h in
        let hu = right2 P (in_term t) (in_term u) (in_links rest) h in (
          side_by_sort ks scope ns t (term_found ns s stand t q.0 ht) (pointer_found ns s stand t q.0 ht) k.0,
          (
            k.2,
            side_by_sort ks scope ns u (term_found ns s stand u q.1.1 hu) (pointer_found ns s stand u q.1.1 hu) k.1,
            links_found ns s stand u q.1.1 rest q.1.2 (right3 P (in_term t) (in_term u) (in_links rest) h),
          ),
        )
    predicate_found ns s stand (Not at p) q apart h = predicate_found ns s stand p q apart h
    predicate_found ns s stand (Connected at c a b) q apart h = (
      predicate_found ns s stand a q.0 (part (λ h. h.0) apart) (left P (in_predicate a) (in_predicate b) h),
      predicate_found ns s stand b q.1 (part (λ h. h.1) apart)
          (right P (in_predicate a) (in_predicate b) h),
    )
    predicate_found ns s stand (Branch at c a b) q apart h = (
      predicate_found ns s stand c q.0 (part (λ h. h.0) apart) (left P (in_predicate c) (in_predicate a ++ in_predicate b) h),
      predicate_found ns s stand a q.1 (part (λ h. h.1) apart) (right2 P (in_predicate c) (in_predicate a) (in_predicate b) h),
      predicate_found ns s stand b q.2 (part (λ h. h.2) apart) (right3 P (in_predicate c) (in_predicate a) (in_predicate b) h),
    )
    predicate_found ns s stand (Quantified at k gs p) q apart h =
        let inside = λ (ns : Sorted) (s : AnnotationSight) (stand : Stand s scope ks ns P) (q : PredicateTyped s p) (apart : NoNames s.clause ⊎ BindersApart p). predicate_found ns s stand p q apart (right P (in_guards gs) (in_predicate p) h) in
        guards_found ns s stand gs p q apart (left P (in_guards gs) (in_predicate p) h) inside
    predicate_found ns s stand (Asks at f z) q apart h = zone_found ns s stand z q h
    predicate_found ns s stand (Separated at zs) q apart h = zones_found ns s stand zs q h

    guards_found : (ns : Sorted) (s : AnnotationSight) (stand : Stand s scope ks ns P) → (gs : Guards) (p : Predicate) → GuardsTyped s gs (λ u. PredicateTyped u p) → NoNames s.clause ⊎ (GuardsApart gs × BindersApart p) → EachOf P (in_guards gs)
        → ((ns : Sorted) (s : AnnotationSight) → Stand s scope ks ns P → PredicateTyped s p → NoNames s.clause ⊎ BindersApart p → PredicateFound ks scope ns p) → GuardsFound ks scope ns gs (λ ns. PredicateFound ks scope ns p)
    guards_found ns s stand NoGuard p q apart h inside = inside ns s stand q (part (λ h. h.1) apart)
    guards_found ns s stand (Guarded a y ys below b rest) p q apart h inside = (
      term_found ns s stand a q.2 (left P (in_term a) (in_term b ++ in_guards rest) h) q.0,
      term_found ns s stand b q.3 (right2 P (in_term a) (in_term b) (in_guards rest) h) q.1,
      guards_found (sorts_within (y ∷ ys) ns) (with_binders s q.4) (within_stands s scope ks ns P (y ∷ ys) q.4 q.5 (part (λ h. h.0.0) apart) stand) rest p q.6 (part (λ h. (h.0.1, h.1)) apart)
          (right3 P (in_term a) (in_term b) (in_guards rest) h) inside,
    )

-- ---- what stands under a label

-- a scope in which each object has a block
abbrev everything : List Entity → Scope
everything [] = []
everything (AnObject b ∷ es) = (b.decl, 0) ∷ everything es
everything (AnEnumerator c ∷ es) = everything es

found_further : (x y n : ℕ) (scope : Scope) → (number : ℕ) × (find x scope ≡ Some number) → (number : ℕ) × (find x ((y, n) ∷ scope) ≡ Some number)
found_further x y n scope f = by (nat_eq y x)
  where
    by : (t : Bool) → (number : ℕ) × (cond t (Some n) (find x scope) ≡ Some number)
    by true = (n, refl)
    by false = f

named_everywhere : (x : ℕ) (es : List Entity) (b : CObject) → entity_named x es ≡ Some (AnObject b) → (number : ℕ) × (find b.decl (everything es) ≡ Some number)
named_everywhere x [] b e = absurd cc
named_everywhere x (o ∷ es) b e = by o (entity_named x es) (λ f. named_everywhere x es b f) (has_name x o) e
  where
    first : (d : ℕ) (scope : Scope) → (number : ℕ) × (find d ((d, 0) ∷ scope) ≡ Some number)
    first d scope = (0, ap (λ t. cond t (Some 0) (find d scope)) (eq-eqb d d refl))

    by : (o : Entity) (r : Option Entity) → (r ≡ Some (AnObject b) → (number : ℕ) × (find b.decl (everything es) ≡ Some number)) → (t : Bool) → or_else r (cond t (Some o) None) ≡ Some (AnObject b)
        → (number : ℕ) × (find b.decl (everything (o ∷ es)) ≡ Some number)
    by (AnObject c) (Some d) go t f = found_further b.decl c.decl 0 (everything es) (go f)
    by (AnEnumerator c) (Some d) go t f = go f
    by (AnObject c) None go true f = let same : c ≡ b = cc in subst (λ d. (number : ℕ) × (find b.decl ((d.decl, 0) ∷ everything es) ≡ Some number)) (sym same) (first b.decl (everything es))
    by (AnObject c) None go false f = absurd cc
    by (AnEnumerator c) None go true f = absurd cc
    by (AnEnumerator c) None go false f = absurd cc

-- what is in sight under a label: no name, and no label that is past
under_stands : (s : AnnotationSight) (v : Sight) (scope : Scope) → ((x : Use) (t : PlainType) → Denotes v x t → (number : ℕ) × (find x.decl scope ≡ Some number)) → Stand (under_label s v) scope [] [] (λ x. Unit {0})
under_stands s v scope denoted = record {
  denoted = denoted;
  named = λ t x i. absurd i;
  binder = λ x i. absurd i;
  number_kept = λ l a u e q i p. absurd (no_past l u e);
  pointer_kept = λ l a u e q w i p. absurd (no_past l u e);
}
  where
    no_past : (l : Option ℕ) (u : AnnotationSight) → sight_at (under_label s v) (past_label l) ≡ Some u → ⊥
    no_past None u e = cc
    no_past (Some l) u e = cc

denoted_everywhere : (v : Sight) (x : Use) (t : PlainType) → Denotes v x t → (number : ℕ) × (find x.decl (everything v.entities) ≡ Some number)
denoted_everywhere v x t d = subst (λ y. (number : ℕ) × (find y (everything v.entities) ≡ Some number)) (sym d.decl) (named_everywhere x.name v.entities d.object d.found)

-- a term under a label is found where its objects are
pub under_found : (s : AnnotationSight) (v : Sight) (scope : Scope) → ((x : Use) (t : PlainType) → Denotes v x t → (number : ℕ) × (find x.decl scope ≡ Some number)) → (a : LogicTerm) → TermTyped (under_label s v) a → IsSide a
    → SideFound [] scope [] a
under_found s v scope denoted a q i =
    let w = under_label s v in
    let stand = under_stands s v scope denoted in
    side_by_sort [] scope [] a (term_found scope [] (λ x. Unit {0}) [] w stand a q (λ x i. tt)) (pointer_found scope [] (λ x. Unit {0}) [] w stand a q (λ x i. tt)) i

-- what a term under a label sees
under_is : (s : AnnotationSight) (l : Option ℕ) (u : AnnotationSight) → sight_at s (past_label l) ≡ Some u → (v : Sight) × (u ≡ under_label s v)
under_is s None u e = by (beginning s.here s.clause) e
  where
    by : (o : Option Sight) → option_map (under_label s) o ≡ Some u → (v : Sight) × (u ≡ under_label s v)
    by None e = absurd cc
    by (Some v) e = let same : under_label s v ≡ u = cc in (v, sym same)
under_is s (Some l) u e = by (marked l s.labels) e
  where
    by : (o : Option Sight) → option_map (under_label s) o ≡ Some u → (v : Sight) × (u ≡ under_label s v)
    by None e = absurd cc
    by (Some v) e = let same : under_label s v ≡ u = cc in (v, sym same)

-- what was wanted of each term at a label makes it found
pub kept_number : (ks : List Kept) (s : AnnotationSight) (l : Option ℕ) (a : LogicTerm) (u : AnnotationSight) → sight_at s (past_label l) ≡ Some u → TermTyped u a → IsIntegerTerm a → Planned ks l a
    → Planned ks l a × (there : Scope) × TermFound [] there [] a
kept_number ks s l a u e q i p =
    let v = under_is s l u e in
    let w = under_label s v.0 in
    (p, everything v.0.entities, term_found (everything v.0.entities) [] (λ x. Unit {0}) [] w (under_stands s v.0 (everything v.0.entities) (denoted_everywhere v.0)) a (subst (λ u. TermTyped u a) v.1 q) (λ x i. tt) i)

pub kept_pointer : (ks : List Kept) (s : AnnotationSight) (l : Option ℕ) (a : LogicTerm) (u : AnnotationSight) → sight_at s (past_label l) ≡ Some u → TermTyped u a → (v : PlainType) → PointsTo v a → Planned ks l a
    → Planned ks l a × (is_pointer_term a ≡ true) × (there : Scope) × PointerFound [] there [] a
kept_pointer ks s l a u e q x i p =
    let v = under_is s l u e in
    let w = under_label s v.0 in
    (p, ap is_pointer_sort i, everything v.0.entities, pointer_found (everything v.0.entities) [] (λ x. Unit {0}) [] w (under_stands s v.0 (everything v.0.entities) (denoted_everywhere v.0)) a (subst (λ u. TermTyped u a) v.1 q) (λ x i. tt) x i)

-- where objects have blocks, names are held and terms at labels are planned
planned_stand : (s : AnnotationSight) (scope : Scope) (ks : List Kept) (ns : Sorted) → ((x : Use) (t : PlainType) → Denotes s.here x t → (number : ℕ) × (find x.decl scope ≡ Some number)) → ResultSorted s.clause ns → BindersSorted s.binders ns
    → Stand s scope ks ns (λ x. Planned ks x.0 x.1)
planned_stand s scope ks ns denoted result bound = record {
  denoted = denoted;
  named = λ t x i. by s.clause result t x i;
  binder = bound;
  number_kept = λ l a u e q i p. kept_number ks s l a u e q i p;
  pointer_kept = λ l a u e q v i p. kept_pointer ks s l a u e q v i p;
}
  where
    by : (c : ClauseSight) → ResultSorted c ns → (t : Option PlainType) (x : Use) → IsResult c t x → sort_held x.decl ns ≡ Some (is_pointer_sort (sort_of t))
    by (AtEnd formals u) result t x i = ap (λ y. sort_held y ns) i.0 ∙ result i.2 ∙ ap (λ t. Some (is_pointer_sort (sort_of t))) (sym i.1)
    by (InBody v) result t x i = absurd i
    by AtEntry result t x i = absurd i
    by (UnderLabel formals) result t x i = absurd i

pub typed_found : (s : AnnotationSight) (scope : Scope) (ks : List Kept) (ns : Sorted) → ((x : Use) (t : PlainType) → Denotes s.here x t → (number : ℕ) × (find x.decl scope ≡ Some number)) → ResultSorted s.clause ns → BindersSorted s.binders ns
    → (p : Predicate) → NoNames s.clause ⊎ BindersApart p → ArePlanned ks (in_predicate p) → PredicateTyped s p → PredicateFound ks scope ns p
typed_found s scope ks ns denoted result bound p apart planned q = predicate_found scope ks (λ x. Planned ks x.0 x.1) ns s (planned_stand s scope ks ns denoted result bound) p q apart planned

pub typed_term_found : (s : AnnotationSight) (scope : Scope) (ks : List Kept) (ns : Sorted) → ((x : Use) (t : PlainType) → Denotes s.here x t → (number : ℕ) × (find x.decl scope ≡ Some number)) → ResultSorted s.clause ns → BindersSorted s.binders ns
    → (t : LogicTerm) → ArePlanned ks (in_term t) → IsIntegerTerm t → TermTyped s t → TermFound ks scope ns t
typed_term_found s scope ks ns denoted result bound t planned int q = term_found scope ks (λ x. Planned ks x.0 x.1) ns s (planned_stand s scope ks ns denoted result bound) t q planned int
