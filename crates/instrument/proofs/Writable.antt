-- Typed terms and predicates can be written, where pointers to the blocks of objects in sight, names, and terms at labels have registers.
use Rattle.std.proofs.Common.{◌≡◌, ◌⊎◌, inl, inr, ℕ, ℤ, pos, negsuc, true, false, List, [], ◌∷◌, ◌++◌, Option, Some, None, refl, sym, ap, ◌∙◌, subst, arith}
use Rattle.std.proofs.lemmas.Bool.Decides.{nat_tests}
use Rattle.std.proofs.lemmas.Int.{ints}
use Rattle.std.specs.Ordering.{int_eq}
use Rattle.c_syntax.specs.declared.expression.Use.{Use}
use Rattle.c_syntax.specs.declared.logic.Label.TheVariants.{Here, Pre, Marked}
use Rattle.c_syntax.specs.declared.place.Place.{Place}
use Rattle.c_syntax.specs.Ctypes.{PlainType, Void}
use Rattle.c_syntax.specs.Logic.{LogicTerm, Number, Letter, Variable, Unary, Binary, Cast, Choice, Named, At, Null, Deref, Member, Address, Moved, Difference, Told, Links, NoLink, Linked}
use Rattle.c_syntax.specs.Logic.{Zone, Object, Elements, Zones, NoZone, Another, Predicate, Truth, NonZero, Chain, Not, Connected, Branch, Quantified, Asks, Separated, Binder, Guards, NoGuard, Guarded}
use Rattle.c_syntax.specs.Programs.{TranslationUnit}
use Rattle.c_model.specs.AnnotationSights.{AnnotationSight, ClauseSight, InBody, AtEntry, AtEnd, UnderLabel, sight_at, under_label, with_binders}
use Rattle.c_model.specs.ExpressionTyping.{Sight}
use Rattle.c_model.specs.Formed.{IsLogicNumber, TermNumbered, ZoneNumbered, ZonesNumbered, LinksNumbered, PredicateNumbered, GuardsNumbered}
use Rattle.c_model.specs.PredicateTyping.{sort_of, sort_of_term}
use Rattle.c_model.specs.Ranges.{least_i128}
use Rattle.c_model.specs.TypedPredicates.{IsIntegerTerm, IsPointerTerm, PointsTo, IsPlace, IsResult, IsBinder, AreBinders, GuardsTyped, TermTyped, ZoneTyped, ZonesTyped, LinksTyped, PredicateTyped}
use Rattle.c_model.specs.TypedTrees.{Denotes}
use Rattle.mon_syntax.specs.declared.tree.MonType.TheVariants.{Ptr}
use Rattle.mon_syntax.specs.Registers.{Bindings}
use Rattle.mon_syntax.specs.Valid.{Types, HasType}
use Rattle.c_effects.specs.Expressions.{pointer_to}
use Rattle.c_simulation.specs.Keeping.{Kept, is_pointer_sort, is_pointer_term}
use Rattle.annot_simulation.specs.Beside.{AreApart, BindersApart, BindersSorted, GuardsApart, NoNames}
use Rattle.annot_simulation.specs.Does.{found_by}
use Rattle.annot_simulation.specs.Held.{Sorted, sort_held, sorts_within}
use Rattle.annot_simulation.specs.Plan.{Entry, IsIn, in_guards, in_links, in_predicate, in_term, in_zone, in_zones, value_types}
use Rattle.annot_simulation.specs.Validity.{HasRegisters, TermWritable, PointerWritable, PlaceWritable, ZoneWritable, ZonesWritable, LinksWritable, PredicateWritable, GuardsWritable}
use Rattle.annot_simulation.proofs.Found.{EachOf, given_integer, integer_false, no_integer, no_pointer, past_label, pointer_true, told_number, of_sort, related_sides, cast_integer, cast_pointer, choice_integer, choice_pointer}
use Rattle.annot_simulation.proofs.BinderNames.{bound_within, part, quiet_apart, result_apart}

number_writable : (z : ℤ) → IsLogicNumber z → int_eq z least_i128 ≡ false
number_writable (pos n) h = refl
number_writable (negsuc n) h = let a = h.low in grind (arith, nat_tests, ints)

-- ---- what stands in parts

in_left : (x : Entry) (a b : List Entry) → IsIn x a → IsIn x (a ++ b)
in_left x [] b i = absurd i
in_left x (y ∷ a) b (inl e) = inl e
in_left x (y ∷ a) b (inr i) = inr (in_left x a b i)

in_right : (x : Entry) (a b : List Entry) → IsIn x b → IsIn x (a ++ b)
in_right x [] b i = i
in_right x (y ∷ a) b i = inr (in_right x a b i)

pub left : (P : Entry → Type 0) (a b : List Entry) → EachOf P (a ++ b) → EachOf P a
left P a b h x i = h x (in_left x a b i)

pub right : (P : Entry → Type 0) (a b : List Entry) → EachOf P (a ++ b) → EachOf P b
right P a b h x i = h x (in_right x a b i)

right2 : (P : Entry → Type 0) (a b c : List Entry) → EachOf P (a ++ (b ++ c)) → EachOf P b
right2 P a b c h = left P b c (right P a (b ++ c) h)

right3 : (P : Entry → Type 0) (a b c : List Entry) → EachOf P (a ++ (b ++ c)) → EachOf P c
right3 P a b c h = right P b c (right P a (b ++ c) h)

-- a binder that is typed hasn't the number of `\result`
binders_apart : (ys : List Binder) (bs : List (Place × ℕ)) → AreBinders ys bs → AreApart ys
binders_apart [] bs are = tt
binders_apart (y ∷ ys) [] are = absurd are
binders_apart (y ∷ ys) (b ∷ bs) are = (are.1, binders_apart ys bs are.3)

guards_apart : (s : AnnotationSight) (gs : Guards) (Typed : AnnotationSight → Type 0) (Apart : Type 0) → GuardsTyped s gs Typed → ((u : AnnotationSight) → Typed u → Apart) → GuardsApart gs × Apart
guards_apart s NoGuard Typed Apart q inside = (tt, inside s q)
guards_apart s (Guarded a y ys below b rest) Typed Apart q inside =
    let others = guards_apart (with_binders s q.4) rest Typed Apart q.6 inside in
    ((binders_apart (y ∷ ys) q.4 q.5, others.0), others.1)

pub typed_apart : (s : AnnotationSight) (x : Predicate) → PredicateTyped s x → BindersApart x
typed_apart s (Truth at b) q = tt
typed_apart s (NonZero at t) q = tt
typed_apart s (Chain at t l) q = tt
typed_apart s (Not at a) q = typed_apart s a q
typed_apart s (Connected at c a b) q = (typed_apart s a q.0, typed_apart s b q.1)
typed_apart s (Branch at c a b) q = (typed_apart s c q.0, typed_apart s a q.1, typed_apart s b q.2)
typed_apart s (Quantified at k gs a) q = guards_apart s gs (λ u. PredicateTyped u a) (BindersApart a) q (λ u t. typed_apart u a t)
typed_apart s (Asks at f z) q = tt
typed_apart s (Separated at zs) q = tt

module _ (unit : TranslationUnit) (bound : Bindings) (plan : List Kept) (globals : ℕ) (ts : Types) where
  -- a kept term has registers of its types
  abbrev pub IsKeptTerm : Entry → Type 0
  IsKeptTerm x = HasRegisters plan ts x.1 (value_types (is_pointer_term x.1) x.1)

  -- where an annotation stands: its objects have blocks, its names are of these sorts, and what is wanted of terms at labels gives them registers
  pub record CanStand (ns : Sorted) (s : AnnotationSight) (P : Entry → Type 0) : Type 0 where
    pub object : (x : Use) (t : PlainType) → Denotes s.here x t → HasType globals ts (pointer_to unit bound x.decl) Ptr
    pub name : (t : Option PlainType) (x : Use) → IsResult s.clause t x → sort_held x.decl ns ≡ Some (is_pointer_sort (sort_of t))
    pub binder : BindersSorted s.binders ns
    pub kept : (l : Option ℕ) (a : LogicTerm) (u : AnnotationSight) → sight_at s (past_label l) ≡ Some u → P (l, a) → IsKeptTerm (l, a)

  -- `\result`, or a binder, which is an integer
  name_sorted : (ns : Sorted) (s : AnnotationSight) (P : Entry → Type 0) → CanStand ns s P → (t : Option PlainType) (x : Use) → IsResult s.clause t x ⊎ IsBinder s.binders t x → sort_held x.decl ns ≡ Some (is_pointer_sort (sort_of t))
  name_sorted ns s P stand t x (inl i) = stand.name t x i
  name_sorted ns s P stand t x (inr b) = stand.binder x.decl b.1 ∙ ap (λ t. Some (is_pointer_sort (sort_of t))) (sym b.0)

  -- what stands within binders
  binders_can : (ns : Sorted) (s : AnnotationSight) (P : Entry → Type 0) (ys : List Binder) (bs : List (Place × ℕ)) → AreBinders ys bs → NoNames s.clause ⊎ AreApart ys → CanStand ns s P → CanStand (sorts_within ys ns) (with_binders s bs) P
  binders_can ns s P ys bs are apart stand = record {
    object = stand.object;
    name = λ t x i. named apart t x i;
    binder = λ x i. bound_within ns ys bs s.binders x are stand.binder i;
    kept = by;
  }
    where
      named : NoNames s.clause ⊎ AreApart ys → (t : Option PlainType) (x : Use) → IsResult s.clause t x → sort_held x.decl (sorts_within ys ns) ≡ Some (is_pointer_sort (sort_of t))
      named (inl none) t x i = absurd (none t x i)
      named (inr far) t x i = by_clause s.clause i
        where
          by_clause : (c : ClauseSight) → IsResult c t x → sort_held x.decl (sorts_within ys ns) ≡ Some (is_pointer_sort (sort_of t))
          by_clause (AtEnd formals u) j = ap (λ n. sort_held n (sorts_within ys ns)) j.0 ∙ result_apart ys ns far ∙ ap (λ n. sort_held n ns) (sym j.0) ∙ stand.name t x i
          by_clause (InBody v) j = absurd j
          by_clause AtEntry j = absurd j
          by_clause (UnderLabel formals) j = absurd j

      by : (l : Option ℕ) (a : LogicTerm) (u : AnnotationSight) → sight_at (with_binders s bs) (past_label l) ≡ Some u → P (l, a) → IsKeptTerm (l, a)
      by None a u e h = stand.kept None a u e h
      by (Some l) a u e h = stand.kept (Some l) a u e h

  module _ (P : Entry → Type 0) where
    -- the same place
    here_typed : (s : AnnotationSight) (a : LogicTerm) (u : AnnotationSight) → Some s ≡ Some u → TermTyped u a → TermTyped s a
    here_typed s a u e q = let same : s ≡ u = cc in subst (λ v. TermTyped v a) (sym same) q

    kept_number : (ns : Sorted) (s : AnnotationSight) (stand : CanStand ns s P) (l : Option ℕ) (a : LogicTerm) (u : AnnotationSight) → sight_at s (past_label l) ≡ Some u → P (l, a) → IsIntegerTerm a → HasRegisters plan ts a (value_types false a)
    kept_number ns s stand l a u e h i = subst (λ b. HasRegisters plan ts a (value_types b a)) (integer_false a i) (stand.kept l a u e h)

    kept_pointer : (ns : Sorted) (s : AnnotationSight) (stand : CanStand ns s P) (l : Option ℕ) (a : LogicTerm) (u : AnnotationSight) → sight_at s (past_label l) ≡ Some u → P (l, a) → IsPointerTerm a → HasRegisters plan ts a (value_types true a)
    kept_pointer ns s stand l a u e h i = subst (λ b. HasRegisters plan ts a (value_types b a)) (pointer_true a i) (stand.kept l a u e h)

    mutual
      pub term_writable : (ns : Sorted) (s : AnnotationSight) (stand : CanStand ns s P) (t : LogicTerm) → TermNumbered t → TermTyped s t → EachOf P (in_term t) → IsIntegerTerm t → TermWritable unit bound plan globals ts ns t
      term_writable ns s stand (Number at c r z) p q h i = number_writable z p
      term_writable ns s stand (Letter at c r z) p q h i = number_writable z p
      term_writable ns s stand (Variable at c r x) p q h i = (given_integer c q.ctype q.is i, stand.object x q.ctype q.denotes)
      term_writable ns s stand (Unary at c r op a) p q h i = term_writable ns s stand a p q.3 h q.2
      term_writable ns s stand (Binary at c r op a b) p q h i = (term_writable ns s stand a p.0 q.3 (left P (in_term a) (in_term b) h) q.1, term_writable ns s stand b p.1 q.4 (right P (in_term a) (in_term b) h) q.2)
      term_writable ns s stand (Cast at c r to a) p q h i =
          let k = cast_integer c to (sort_of_term a) q.0 i in
          (k.0, term_writable ns s stand a p q.1 h k.1)
      term_writable ns s stand (Choice at c r x a b) p q h i =
          let k = choice_integer c (sort_of_term a) (sort_of_term b) q.0 i in (
            predicate_writable ns s stand x p.0 q.2 (inr (quiet_apart x q.1)) (left P (in_predicate x) (in_term a ++ in_term b) h),
            term_writable ns s stand a p.1 q.3 (right2 P (in_predicate x) (in_term a) (in_term b) h) k.0,
            term_writable ns s stand b p.2 q.4 (right3 P (in_predicate x) (in_term a) (in_term b) h) k.1,
          )
      term_writable ns s stand (Named at c r x) p q h i = name_sorted ns s P stand c x q ∙ ap (λ k. Some (is_pointer_sort k)) i
      term_writable ns s stand (At at c r Here a) p q h i = term_writable ns s stand a p (here_typed s a q.0 q.1 q.3) h (sym (ap sort_of q.2) ∙ i)
      term_writable ns s stand (At at c r Pre a) p q h i = kept_number ns s stand None a q.0 q.1 (h (None, a) (inl refl)) (sym (ap sort_of q.2) ∙ i)
      term_writable ns s stand (At at c r (Marked l) a) p q h i = kept_number ns s stand (Some l) a q.0 q.1 (h (Some l, a) (inl refl)) (sym (ap sort_of q.2) ∙ i)
      term_writable ns s stand (Null at c r) p q h i = absurd (no_integer c Void q i)
      term_writable ns s stand (Deref at c r a) p q h i = (given_integer c q.0 q.1 i, pointer_writable ns s stand a p q.3 h q.0 q.2)
      term_writable ns s stand (Member at c r d a) p q h i = (given_integer c q.0 q.1 i, q.6, place_writable ns s stand a p q.5 h q.4)
      term_writable ns s stand (Address at c r a) p q h i = absurd (no_integer c q.0 q.1 i)
      term_writable ns s stand (Moved at c r op m a b) p q h i = absurd (no_integer c q.0 q.1 i)
      term_writable ns s stand (Difference at c r m a b) p q h i =
          (q.5.1, pointer_writable ns s stand a p.0 q.3 (left P (in_term a) (in_term b) h) q.1.0 q.1.1, pointer_writable ns s stand b p.1 q.4 (right P (in_term a) (in_term b) h) q.2.0 q.2.1)
      term_writable ns s stand (Told at c r f a) p q h i = (told_number c f q.0 i, pointer_writable ns s stand a p q.2 h q.1.0 q.1.1)

      pub pointer_writable : (ns : Sorted) (s : AnnotationSight) (stand : CanStand ns s P) (t : LogicTerm) → TermNumbered t → TermTyped s t → EachOf P (in_term t) → (u : PlainType) → PointsTo u t → PointerWritable unit bound plan globals ts ns t
      pointer_writable ns s stand (Number at c r z) p q h u i = absurd (no_pointer c u q i)
      pointer_writable ns s stand (Letter at c r z) p q h u i = absurd (no_pointer c u q i)
      pointer_writable ns s stand (Variable at c r x) p q h u i = stand.object x q.ctype q.denotes
      pointer_writable ns s stand (Unary at c r op a) p q h u i = absurd (no_pointer c u q.0 i)
      pointer_writable ns s stand (Binary at c r op a b) p q h u i = absurd (no_pointer c u q.0 i)
      pointer_writable ns s stand (Cast at c r to a) p q h u i =
          let k = cast_pointer c to (sort_of_term a) u q.0 i in
          pointer_writable ns s stand a p q.1 h k.1 k.2
      pointer_writable ns s stand (Choice at c r x a b) p q h u i =
          let k = choice_pointer c (sort_of_term a) (sort_of_term b) u q.0 i in (
            predicate_writable ns s stand x p.0 q.2 (inr (quiet_apart x q.1)) (left P (in_predicate x) (in_term a ++ in_term b) h),
            pointer_writable ns s stand a p.1 q.3 (right2 P (in_predicate x) (in_term a) (in_term b) h) k.0.0 k.0.1,
            pointer_writable ns s stand b p.2 q.4 (right3 P (in_predicate x) (in_term a) (in_term b) h) k.1.0 k.1.1,
          )
      pointer_writable ns s stand (Named at c r x) p q h u i = name_sorted ns s P stand c x q ∙ ap (λ k. Some (is_pointer_sort k)) i
      pointer_writable ns s stand (At at c r Here a) p q h u i = pointer_writable ns s stand a p (here_typed s a q.0 q.1 q.3) h u (sym (ap sort_of q.2) ∙ i)
      pointer_writable ns s stand (At at c r Pre a) p q h u i = kept_pointer ns s stand None a q.0 q.1 (h (None, a) (inl refl)) (u, sym (ap sort_of q.2) ∙ i)
      pointer_writable ns s stand (At at c r (Marked l) a) p q h u i = kept_pointer ns s stand (Some l) a q.0 q.1 (h (Some l, a) (inl refl)) (u, sym (ap sort_of q.2) ∙ i)
      pointer_writable ns s stand (Null at c r) p q h u i = tt
      pointer_writable ns s stand (Deref at c r a) p q h u i = pointer_writable ns s stand a p q.3 h q.0 q.2
      pointer_writable ns s stand (Member at c r d a) p q h u i = (q.6, place_writable ns s stand a p q.5 h q.4)
      pointer_writable ns s stand (Address at c r a) p q h u i = place_writable ns s stand a p q.4 h q.3
      pointer_writable ns s stand (Moved at c r op m a b) p q h u i = (q.6.1, pointer_writable ns s stand a p.0 q.4 (left P (in_term a) (in_term b) h) q.0 q.2, term_writable ns s stand b p.1 q.5 (right P (in_term a) (in_term b) h) q.3)
      pointer_writable ns s stand (Difference at c r m a b) p q h u i = absurd (no_pointer c u q.0 i)
      pointer_writable ns s stand (Told at c r f a) p q h u i = pointer_writable ns s stand a p q.2 h q.1.0 q.1.1

      place_writable : (ns : Sorted) (s : AnnotationSight) (stand : CanStand ns s P) (t : LogicTerm) → TermNumbered t → TermTyped s t → EachOf P (in_term t) → IsPlace t → PlaceWritable unit bound plan globals ts ns t
      place_writable ns s stand (Variable at c r x) p q h i = stand.object x q.ctype q.denotes
      place_writable ns s stand (Deref at c r a) p q h i = pointer_writable ns s stand a p q.3 h q.0 q.2
      place_writable ns s stand (Member at c r d a) p q h i = (q.6, place_writable ns s stand a p q.5 h q.4)
      place_writable ns s stand _ p q h i = absurd i

      zone_writable : (ns : Sorted) (s : AnnotationSight) (stand : CanStand ns s P) (z : Zone) → ZoneNumbered z → ZoneTyped s z → EachOf P (in_zone z) → ZoneWritable unit bound plan globals ts ns z
      zone_writable ns s stand (Object at m a t) p q h = (q.2.1, pointer_writable ns s stand t p q.1 h q.0.0 q.0.1)
      zone_writable ns s stand (Elements at m a t lo hi) p q h = (
        q.6.1,
        pointer_writable ns s stand t p.0 q.3 (left P (in_term t) (in_term lo ++ in_term hi) h) q.0.0 q.0.1,
        term_writable ns s stand lo p.1 q.4 (right2 P (in_term t) (in_term lo) (in_term hi) h) q.1,
        term_writable ns s stand hi p.2 q.5 (right3 P (in_term t) (in_term lo) (in_term hi) h) q.2,
      )

      zones_writable : (ns : Sorted) (s : AnnotationSight) (stand : CanStand ns s P) (zs : Zones) → ZonesNumbered zs → ZonesTyped s zs → EachOf P (in_zones zs) → ZonesWritable unit bound plan globals ts ns zs
      zones_writable ns s stand NoZone p q h = tt
      zones_writable ns s stand (Another z rest) p q h = (zone_writable ns s stand z p.0 q.0 (left P (in_zone z) (in_zones rest) h), zones_writable ns s stand rest p.1 q.1 (right P (in_zone z) (in_zones rest) h))

      links_writable : (ns : Sorted) (s : AnnotationSight) (stand : CanStand ns s P) (t : LogicTerm) → TermTyped s t → (l : Links) → LinksNumbered l → LinksTyped s t l → EachOf P (in_links l) → LinksWritable unit bound plan globals ts ns l
      links_writable ns s stand t tq NoLink p q h = tt
      links_writable ns s stand t tq (Linked at r u rest) p q h =
          let k = related_sides s t u tq q.1 q.0 in
          let mine = left P (in_term u) (in_links rest) h in (
            of_sort (PointerWritable unit bound plan globals ts ns u) (TermWritable unit bound plan globals ts ns u) u (term_writable ns s stand u p.0 q.1 mine) (pointer_writable ns s stand u p.0 q.1 mine) k.1,
            links_writable ns s stand u q.1 rest p.1 q.2
                (right P (in_term u) (in_links rest) h),
          )

      pub predicate_writable : (ns : Sorted) (s : AnnotationSight) (stand : CanStand ns s P) (x : Predicate) → PredicateNumbered x → PredicateTyped s x → NoNames s.clause ⊎ BindersApart x → EachOf P (in_predicate x)
          → PredicateWritable unit bound plan globals ts ns x
      predicate_writable ns s stand (Truth at b) p q apart h = tt
      predicate_writable ns s stand (NonZero at t) p q apart h = term_writable ns s stand t p q.1 h q.0
      predicate_writable ns s stand (Chain at t NoLink) p q apart h = absurd q.2
      predicate_writable ns s stand (Chain at t (Linked at2 r u rest)) p q apart h =
          let k = related_sides s t u q.0 q.1.1 q.1.0 in
          let first = left P (in_term t) (in_term u ++ in_links rest) h in
          let second = right2 P (in_term t) (in_term u) (in_links rest) h in (
            of_sort (PointerWritable unit bound plan globals ts ns t) (TermWritable unit bound plan globals ts ns t) t (term_writable ns s stand t p.0 q.0 first) (pointer_writable ns s stand t p.0 q.0 first) k.0,
            (
              of_sort (PointerWritable unit bound plan globals ts ns u) (TermWritable unit bound plan globals ts ns u) u (term_writable ns s stand u p.1.0 q.1.1 second) (pointer_writable ns s stand u p.1.0 q.1.1 second) k.1,
              links_writable ns s stand u q.1.1 rest p.1.1 q.1.2 (right3 P (in_term t) (in_term u) (in_links rest) h),
            ),
          )
      predicate_writable ns s stand (Not at x) p q apart h = predicate_writable ns s stand x p q apart h
      predicate_writable ns s stand (Connected at c a b) p q apart h = (
        predicate_writable ns s stand a p.0 q.0 (part (λ h. h.0) apart) (left P (in_predicate a) (in_predicate b) h),
        predicate_writable ns s stand b p.1 q.1 (part (λ h. h.1) apart) (right P (in_predicate a) (in_predicate b) h),
      )
      predicate_writable ns s stand (Branch at c a b) p q apart h = (
        predicate_writable ns s stand c p.0 q.0 (part (λ h. h.0) apart) (left P (in_predicate c) (in_predicate a ++ in_predicate b) h),
        predicate_writable ns s stand a p.1 q.1 (part (λ h. h.1) apart) (right2 P (in_predicate c) (in_predicate a) (in_predicate b) h),
        predicate_writable ns s stand b p.2 q.2 (part (λ h. h.2) apart) (right3 P (in_predicate c) (in_predicate a) (in_predicate b) h),
      )
      predicate_writable ns s stand (Quantified at k gs x) p q apart h =
          let within = right P (in_guards gs) (in_predicate x) h in
          guards_writable ns s stand gs x p.0 q apart (left P (in_guards gs) (in_predicate x) h)
          (λ ns s stand q apart. predicate_writable ns s stand x p.1 q apart within)
      predicate_writable ns s stand (Asks at f z) p q apart h = zone_writable ns s stand z p q h
      predicate_writable ns s stand (Separated at zs) p q apart h = zones_writable ns s stand zs p q h

      -- what stands within is written where it is typed with the binders
      guards_writable : (ns : Sorted) (s : AnnotationSight) (stand : CanStand ns s P) (gs : Guards) (x : Predicate) → GuardsNumbered gs → GuardsTyped s gs (λ u. PredicateTyped u x) → NoNames s.clause ⊎ (GuardsApart gs × BindersApart x)
          → EachOf P (in_guards gs) → ((ns : Sorted) (s : AnnotationSight) → CanStand ns s P → PredicateTyped s x → NoNames s.clause ⊎ BindersApart x → PredicateWritable unit bound plan globals ts ns x)
          → GuardsWritable unit bound plan globals ts ns gs (λ ns. PredicateWritable unit bound plan globals ts ns x)
      guards_writable ns s stand NoGuard x p q apart h inside = inside ns s stand q (part (λ h. h.1) apart)
      guards_writable ns s stand (Guarded a y ys below b rest) x p q apart h inside = (
        term_writable ns s stand a p.0 q.2 (left P (in_term a) (in_term b ++ in_guards rest) h) q.0,
        term_writable ns s stand b p.1 q.3 (right2 P (in_term a) (in_term b) (in_guards rest) h) q.1,
        guards_writable (sorts_within (y ∷ ys) ns) (with_binders s q.4) (binders_can ns s P (y ∷ ys) q.4 q.5 (part (λ h. h.0.0) apart) stand) rest x p.2 q.6 (part (λ h. (h.0.1, h.1)) apart)
            (right3 P (in_term a) (in_term b) (in_guards rest) h) inside,
      )

-- a term under a label can be written where what is in sight there has blocks: no name, and no label that is past stands in it
pub under_writable : (unit : TranslationUnit) (bound : Bindings) (globals : ℕ) (ts : Types) (s : AnnotationSight) (v : Sight) → ((x : Use) (t : PlainType) → Denotes v x t → HasType globals ts (pointer_to unit bound x.decl) Ptr)
    → (a : LogicTerm) → TermNumbered a → TermTyped (under_label s v) a → IsIntegerTerm a ⊎ IsPointerTerm a → found_by (is_pointer_term a) (PointerWritable unit bound [] globals ts [] a) (TermWritable unit bound [] globals ts [] a)
under_writable unit bound globals ts s v objects a numbered q i =
    let Any : Entry → Type 0 = λ x. Unit {0} in
    of_sort (PointerWritable unit bound [] globals ts [] a) (TermWritable unit bound [] globals ts [] a) a (term_writable unit bound [] globals ts Any [] (under_label s v) stand a numbered q (λ x i. tt))
    (pointer_writable unit bound [] globals ts Any [] (under_label s v) stand a numbered q (λ x i. tt)) i
  where
    no_past : (l : Option ℕ) (u : AnnotationSight) → sight_at (under_label s v) (past_label l) ≡ Some u → ⊥
    no_past None u e = cc
    no_past (Some l) u e = cc

    stand : CanStand unit bound [] globals ts [] (under_label s v) (λ x. Unit {0})
    stand = record { object = objects; name = λ t x i. absurd i; binder = λ x i. absurd i; kept = λ l b u e p. absurd (no_past l u e) }
