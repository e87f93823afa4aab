-- Each term at a label of a predicate that is typed and keeps its ranges is so under its label.
use Rattle.std.proofs.Common.{◌≡◌, ◌⊎◌, inl, inr, ℕ, ℤ, true, cond, nat_eq, append_assoc, List, [], ◌∷◌, ◌++◌, Option, Some, None, option_map, refl, sym, ap, ◌∙◌, subst}
use Rattle.std.proofs.lemmas.List.{append-nil}
use Rattle.c_syntax.specs.declared.annotation.Range.{Range}
use Rattle.c_syntax.specs.declared.expression.Use.{Use}
use Rattle.c_syntax.specs.declared.place.Place.{Place}
use Rattle.c_syntax.specs.declared.logic.Label.{Label}
use Rattle.c_syntax.specs.declared.logic.Label.TheVariants.{Here, Pre, Marked}
use Rattle.c_syntax.specs.Ctypes.{PlainType}
use Rattle.c_syntax.specs.Formulas.{CastType}
use Rattle.c_syntax.specs.Logic.{LogicTerm, Number, Letter, Variable, Unary, Binary, Cast, Choice, Named, At, Null, Deref, Member, Address, Moved, Difference, Told}
use Rattle.c_syntax.specs.Logic.{Links, NoLink, Linked, Zone, Object, Elements, Zones, NoZone, Another, Predicate, Truth, NonZero, Chain, Not, Connected, Branch, Quantified, Asks, Separated, Binder, Guards, NoGuard, Guarded, range_of}
use Rattle.c_model.specs.AnnotationSights.{AnnotationSight, ClauseSight, beginning, marked, sight_at, under_label, with_binders}
use Rattle.c_model.specs.ExpressionTyping.{Sight}
use Rattle.c_model.specs.PredicateTyping.{sort_of, sort_of_term, type_of_term}
use Rattle.c_model.specs.TermRanges.{Seen, TermRanged, LinksRanged, ZoneRanged, ZonesRanged, PredicateRanged, GuardsRanged, lowered, raised, range_seen, seen_binders, tried_range}
use Rattle.c_model.specs.TypedPredicates.{IsIntegerTerm, IsPointerTerm, IsPlace, IsResult, IsZeroTerm, AreRelated, IsCast, OfInteger, OfPointer, IsChoice, BetweenIntegers, BetweenPointers}
use Rattle.c_model.specs.TypedPredicates.{TermTyped, LinksTyped, ZoneTyped, ZonesTyped, PredicateTyped, GuardsTyped, AreBinders, IsBound}
use Rattle.annot_simulation.proofs.BinderNames.{bound_split, nat_same}
pub use Rattle.annot_simulation.specs.Beside.{NoNames}
use Rattle.annot_simulation.specs.Plan.{Entry, IsIn, in_guards, in_term, in_links, in_zone, in_zones, in_predicate}

-- what is in sight at a label, or where the call begins
abbrev pub sight_of : AnnotationSight → Option ℕ → Option Sight
sight_of s None = beginning s.here s.clause
sight_of s (Some l) = marked l s.labels

-- the term of an entry is typed with what is in sight at its label, has a value of some sort, and keeps its ranges
pub record EntryStands (s : AnnotationSight) (seen : Seen) (x : Entry) : Type 0 where
  pub sight : Sight
  pub there : sight_of s x.0 ≡ Some sight
  pub typed : TermTyped (under_label s sight) x.1
  pub side : IsIntegerTerm x.1 ⊎ IsPointerTerm x.1
  pub ranged : TermRanged seen x.1

-- a side of an operator, a place, or the number 0
data Operand (t : LogicTerm) : Type 0 where
  OfSort : IsIntegerTerm t ⊎ IsPointerTerm t → Operand t
  AsPlace : IsPlace t → Operand t
  AsZero : IsZeroTerm t → Operand t

cast_operand : (t : Option PlainType) (to : CastType) (a : LogicTerm) → IsCast t to (sort_of_term a) → Operand a
cast_operand t to a (OfInteger e i k) = OfSort (inl k)
cast_operand t to a (OfPointer u v e i k) = OfSort (inr (v, k))

choice_operands : (t : Option PlainType) (a b : LogicTerm) → IsChoice t (sort_of_term a) (sort_of_term b) → Operand a × Operand b
choice_operands t a b (BetweenIntegers e k l) = (OfSort (inl k), OfSort (inl l))
choice_operands t a b (BetweenPointers u v w e k l) = (OfSort (inr (v, k)), OfSort (inr (w, l)))

related_operands : (a b : LogicTerm) → AreRelated a b → Operand a × Operand b
related_operands a b (inl (i, j)) = (OfSort (inl i), OfSort (inl j))
related_operands a b (inr (inl (i, j))) = (OfSort (inr i), OfSort (inr j))
related_operands a b (inr (inr (inl (i, z)))) = (OfSort (inr i), AsZero z)
related_operands a b (inr (inr (inr (z, i)))) = (AsZero z, OfSort (inr i))

-- a term has the sort of one with its type
same_side : (a b : LogicTerm) → type_of_term a ≡ type_of_term b → IsIntegerTerm a ⊎ IsPointerTerm a → IsIntegerTerm b ⊎ IsPointerTerm b
same_side a b e (inl i) = inl (sym (ap sort_of e) ∙ i)
same_side a b e (inr (u, i)) = inr (u, sym (ap sort_of e) ∙ i)

-- ---- ranges where no name stands

-- no binder is in sight
abbrev pub NoBinders : AnnotationSight → Type 0
NoBinders view = (x : ℕ) → IsBound view.binders x → ⊥

-- names of both keep the same ranges for what is in sight
pub record Alike (view : AnnotationSight) (seen to : Seen) : Type 0 where
  pub nameless : NoNames view.clause
  pub bound : (x : ℕ) → IsBound view.binders x → range_seen x seen ≡ range_seen x to

under_alike : (view : AnnotationSight) (v : Sight) (seen to : Seen) → Alike (under_label view v) seen to
under_alike view v seen to = record { nameless = λ t x i. i; bound = λ x i. absurd i }

-- so it is under a label
alike_at : (view u : AnnotationSight) (l : Label) (seen to : Seen) → sight_at view l ≡ Some u → Alike view seen to → Alike u seen to
alike_at view u Here seen to e h = let same : view ≡ u = cc in subst (λ (u : AnnotationSight). Alike u seen to) same h
alike_at view u Pre seen to e h = by (beginning view.here view.clause) e
  where
    by : (o : Option Sight) → option_map (under_label view) o ≡ Some u → Alike u seen to
    by None e = absurd cc
    by (Some v) e = let same : under_label view v ≡ u = cc in subst (λ (u : AnnotationSight). Alike u seen to) same (under_alike view v seen to)
alike_at view u (Marked l) seen to e h = by (marked l view.labels) e
  where
    by : (o : Option Sight) → option_map (under_label view) o ≡ Some u → Alike u seen to
    by None e = absurd cc
    by (Some v) e = let same : under_label view v ≡ u = cc in subst (λ (u : AnnotationSight). Alike u seen to) same (under_alike view v seen to)

-- and within binders
bound_alike : (ys : List Binder) (bs front : List (Place × ℕ)) (l h : ℤ) (seen to : Seen) → AreBinders ys bs → ((x : ℕ) → IsBound front x → range_seen x seen ≡ range_seen x to)
    → (x : ℕ) → IsBound (front ++ bs) x → range_seen x (seen_binders l ys h seen) ≡ range_seen x (seen_binders l ys h to)
bound_alike [] [] front l h seen to are known x i = known x (subst (λ k. IsBound k x) (append-nil front) i)
bound_alike [] (b ∷ bs) front l h seen to are known x i = absurd are
bound_alike (y ∷ ys) [] front l h seen to are known x i = absurd are
bound_alike (y ∷ ys) (b ∷ bs) front l h seen to are known x i =
    bound_alike ys bs (front ++ b ∷ []) range.lo h ((y.place.offset, range) ∷ seen) ((y.place.offset, range) ∷ to) are.3 (λ n j. by n (bound_split front (b ∷ []) n j)) x (subst (λ k. IsBound k x) (sym (append_assoc front (b ∷ []) bs)) i)
  where
    range : Range
    range = tried_range y.kind (raised y.above l) h

    by : (n : ℕ) → IsBound front n ⊎ IsBound (b ∷ []) n → cond (nat_eq y.place.offset n) (Some range) (range_seen n seen) ≡ cond (nat_eq y.place.offset n) (Some range) (range_seen n to)
    by n (inl j) = ap (λ o. cond (nat_eq y.place.offset n) (Some range) o) (known n j)
    by n (inr (inl e)) =
        let same : y.place.offset ≡ n = ap (λ (p : Place). p.offset) are.0 ∙ sym e in
        let yes : nat_eq y.place.offset n ≡ true = subst (λ m. nat_eq y.place.offset m ≡ true) same (nat_same y.place.offset) in
        ap (λ c. cond c (Some range) (range_seen n seen)) yes ∙ sym (ap (λ c. cond c (Some range) (range_seen n to)) yes)
    by n (inr (inr j)) = absurd j

alike_within : (view : AnnotationSight) (ys : List Binder) (bs : List (Place × ℕ)) (l h : ℤ) (seen to : Seen) → AreBinders ys bs → Alike view seen to → Alike (with_binders view bs) (seen_binders l ys h seen) (seen_binders l ys h to)
alike_within view ys bs l h seen to are same = record { nameless = same.nameless; bound = λ x i. bound_alike ys bs view.binders l h seen to are same.bound x i }

-- so ranges are the same
mutual
  pub term_alike : (view : AnnotationSight) (seen to : Seen) → Alike view seen to → (t : LogicTerm) → TermTyped view t → TermRanged seen t → TermRanged to t
  term_alike view seen to h (Number at t r n) q g = g
  term_alike view seen to h (Letter at t r n) q g = g
  term_alike view seen to h (Variable at t r x) q g = g
  term_alike view seen to h (Unary at t r op a) q g = (g.0, term_alike view seen to h a q.3 g.1)
  term_alike view seen to h (Binary at t r op a b) q g = (g.0, term_alike view seen to h a q.3 g.1, term_alike view seen to h b q.4 g.2)
  term_alike view seen to h (Cast at t r kind a) q g = (g.0, term_alike view seen to h a q.1 g.1)
  term_alike view seen to h (Choice at t r c a b) q g = (g.0, predicate_alike view seen to h c q.2 g.1, term_alike view seen to h a q.3 g.2, term_alike view seen to h b q.4 g.3)
  term_alike view seen to h (Named at t r x) (inl i) g = absurd (h.nameless t x i)
  term_alike view seen to h (Named at t r x) (inr b) g = sym (h.bound x.decl b.1) ∙ g
  term_alike view seen to h (At at t r l a) q g = (g.0, term_alike q.0 seen to (alike_at view q.0 l seen to q.1 h) a q.3 g.1)
  term_alike view seen to h (Null at t r) q g = g
  term_alike view seen to h (Deref at t r a) q g = (g.0, term_alike view seen to h a q.3 g.1)
  term_alike view seen to h (Member at t r d a) q g = (g.0, term_alike view seen to h a q.5 g.1)
  term_alike view seen to h (Address at t r a) q g = (g.0, term_alike view seen to h a q.4 g.1)
  term_alike view seen to h (Moved at t r op n a b) q g = (g.0, term_alike view seen to h a q.4 g.1, term_alike view seen to h b q.5 g.2)
  term_alike view seen to h (Difference at t r n a b) q g = (g.0, term_alike view seen to h a q.3 g.1, term_alike view seen to h b q.4 g.2)
  term_alike view seen to h (Told at t r f a) q g = (g.0, term_alike view seen to h a q.2 g.1)

  links_alike : (view : AnnotationSight) (seen to : Seen) → Alike view seen to → (a : LogicTerm) (links : Links) → LinksTyped view a links → LinksRanged seen links → LinksRanged to links
  links_alike view seen to h a NoLink q g = g
  links_alike view seen to h a (Linked at r t rest) q g = (term_alike view seen to h t q.1 g.0, links_alike view seen to h t rest q.2 g.1)

  zone_alike : (view : AnnotationSight) (seen to : Seen) → Alike view seen to → (z : Zone) → ZoneTyped view z → ZoneRanged seen z → ZoneRanged to z
  zone_alike view seen to h (Object at n m a) q g = term_alike view seen to h a q.1 g
  zone_alike view seen to h (Elements at n m a lo hi) q g = (g.0, term_alike view seen to h a q.3 g.1, term_alike view seen to h lo q.4 g.2, term_alike view seen to h hi q.5 g.3)

  zones_alike : (view : AnnotationSight) (seen to : Seen) → Alike view seen to → (zs : Zones) → ZonesTyped view zs → ZonesRanged seen zs → ZonesRanged to zs
  zones_alike view seen to h NoZone q g = g
  zones_alike view seen to h (Another z rest) q g = (zone_alike view seen to h z q.0 g.0, zones_alike view seen to h rest q.1 g.1)

  pub predicate_alike : (view : AnnotationSight) (seen to : Seen) → Alike view seen to → (p : Predicate) → PredicateTyped view p → PredicateRanged seen p → PredicateRanged to p
  predicate_alike view seen to h (Truth at b) q g = g
  predicate_alike view seen to h (NonZero at t) q g = term_alike view seen to h t q.1 g
  predicate_alike view seen to h (Chain at t links) q g = (term_alike view seen to h t q.0 g.0, links_alike view seen to h t links q.1 g.1)
  predicate_alike view seen to h (Not at p) q g = predicate_alike view seen to h p q g
  predicate_alike view seen to h (Connected at c p r) q g = (predicate_alike view seen to h p q.0 g.0, predicate_alike view seen to h r q.1 g.1)
  predicate_alike view seen to h (Branch at c p r) q g = (predicate_alike view seen to h c q.0 g.0, predicate_alike view seen to h p q.1 g.1, predicate_alike view seen to h r q.2 g.2)
  predicate_alike view seen to h (Quantified at k gs p) q g = guards_alike view seen to h gs p q g (λ view seen to h q g. predicate_alike view seen to h p q g)
  predicate_alike view seen to h (Asks at f z) q g = zone_alike view seen to h z q g
  predicate_alike view seen to h (Separated at zs) q g = zones_alike view seen to h zs q g

  guards_alike : (view : AnnotationSight) (seen to : Seen) → Alike view seen to → (gs : Guards) (p : Predicate) → GuardsTyped view gs (λ u. PredicateTyped u p) → GuardsRanged seen gs (λ m. PredicateRanged m p)
      → ((view : AnnotationSight) (seen to : Seen) → Alike view seen to → PredicateTyped view p → PredicateRanged seen p → PredicateRanged to p) → GuardsRanged to gs (λ m. PredicateRanged m p)
  guards_alike view seen to h NoGuard p q g inside = inside view seen to h q g
  guards_alike view seen to h (Guarded a y ys below b rest) p q g inside = (
    term_alike view seen to h a q.2 g.0,
    term_alike view seen to h b q.3 g.1,
    g.2,
    guards_alike (with_binders view q.4) (seen_binders (range_of a).lo (y ∷ ys) (lowered below (range_of b).hi) seen) (seen_binders (range_of a).lo (y ∷ ys) (lowered below (range_of b).hi) to)
        (alike_within view (y ∷ ys) q.4 (range_of a).lo (lowered below (range_of b).hi) seen to q.5 h) rest p q.6 g.3 inside,
  )

none_alike : (view : AnnotationSight) (seen : Seen) → NoNames view.clause → NoBinders view → Alike view seen []
none_alike view seen names binders = record { nameless = names; bound = λ x i. absurd (binders x i) }

pub term_alone : (seen : Seen) (view : AnnotationSight) → NoNames view.clause → NoBinders view → (t : LogicTerm) → TermTyped view t → TermRanged seen t → TermRanged [] t
term_alone seen view names binders t q g = term_alike view seen [] (none_alike view seen names binders) t q g

pub predicate_alone : (seen : Seen) (view : AnnotationSight) → NoNames view.clause → NoBinders view → (p : Predicate) → PredicateTyped view p → PredicateRanged seen p → PredicateRanged [] p
predicate_alone seen view names binders p q g = predicate_alike view seen [] (none_alike view seen names binders) p q g

-- ---- terms at labels

module _ (s : AnnotationSight) (seen : Seen) where
  abbrev pub AllStand : List Entry → Type 0
  AllStand xs = (x : Entry) → IsIn x xs → EntryStands s seen x

  none : AllStand []
  none x i = absurd i

  both : (xs ys : List Entry) → AllStand xs → AllStand ys → AllStand (xs ++ ys)
  both [] ys f g x i = g x i
  both (y ∷ xs) ys f g x (inl e) = f x (inl e)
  both (y ∷ xs) ys f g x (inr i) = both xs ys (λ x i. f x (inr i)) g x i

  -- a place with the same labels in sight
  record Beside (view : AnnotationSight) : Type 0 where
    sights : (l : Option ℕ) → sight_of view l ≡ sight_of s l
    under : (v : Sight) → under_label view v ≡ under_label s v

  binders_beside : (view : AnnotationSight) (bs : List (Place × ℕ)) → Beside view → Beside (with_binders view bs)
  binders_beside view bs b = record { sights = by; under = b.under }
    where
      by : (l : Option ℕ) → sight_of (with_binders view bs) l ≡ sight_of s l
      by None = b.sights None
      by (Some l) = b.sights (Some l)

  -- one term at a label
  entry : (view : AnnotationSight) (inner : Seen) → Beside view → (l : Option ℕ) (a : LogicTerm) (u : AnnotationSight) → option_map (under_label view) (sight_of view l) ≡ Some u → TermTyped u a → IsIntegerTerm a ⊎ IsPointerTerm a → TermRanged inner a
      → AllStand ((l, a) ∷ [])
  entry view inner beside l a u e typed side ranged x (inl same) = subst (EntryStands s seen) same (by (sight_of view l) refl e)
    where
      by : (o : Option Sight) → sight_of view l ≡ o → option_map (under_label view) o ≡ Some u → EntryStands s seen (l, a)
      by None there e = absurd cc
      by (Some v) there e =
          let is : u ≡ under_label view v = cc in
          let typed_there : TermTyped (under_label view v) a = subst (λ u. TermTyped u a) is typed in record {
            sight = v;
            there = sym (beside.sights l) ∙ there;
            typed = subst (λ u. TermTyped u a) (beside.under v) typed_there;
            side = side;
            ranged = term_alike (under_label view v) inner seen (under_alike view v inner seen) a typed_there ranged;
          }
  entry view inner beside l a u e typed side ranged x (inr i) = absurd i

  mutual
    term_stands : (view : AnnotationSight) (inner : Seen) → Beside view → (t : LogicTerm) → Operand t → TermTyped view t → TermRanged inner t → AllStand (in_term t)
    term_stands view inner beside (Number at t r n) o q g = none
    term_stands view inner beside (Letter at t r n) o q g = none
    term_stands view inner beside (Variable at t r x) o q g = none
    term_stands view inner beside (Unary at t r op a) o q g = term_stands view inner beside a (OfSort (inl q.2)) q.3 g.1
    term_stands view inner beside (Binary at t r op a b) o q g = both (in_term a) (in_term b) (term_stands view inner beside a (OfSort (inl q.1)) q.3 g.1) (term_stands view inner beside b (OfSort (inl q.2)) q.4 g.2)
    term_stands view inner beside (Cast at t r to a) o q g = term_stands view inner beside a (cast_operand t to a q.0) q.1 g.1
    term_stands view inner beside (Choice at t r c a b) o q g =
        let sides = choice_operands t a b q.0 in
        both (in_predicate c) (in_term a ++ in_term b) (predicate_here view inner beside c q.2 g.1) (both (in_term a) (in_term b) (term_stands view inner beside a sides.0 q.3 g.2) (term_stands view inner beside b sides.1 q.4 g.3))
    term_stands view inner beside (Named at t r x) o q g = none
    term_stands view inner beside (At at t r Here a) (OfSort side) q g =
        let here : Some view ≡ Some q.0 = q.1 in
        let is : q.0 ≡ view = cc in
        term_stands view inner beside a (OfSort (same_side (At at t r Here a) a q.2 side)) (subst (λ u. TermTyped u a) is q.3) g.1
    term_stands view inner beside (At at t r Pre a) (OfSort side) q g = entry view inner beside None a q.0 q.1 q.3 (same_side (At at t r Pre a) a q.2 side) g.1
    term_stands view inner beside (At at t r (Marked l) a) (OfSort side) q g = entry view inner beside (Some l) a q.0 q.1 q.3 (same_side (At at t r (Marked l) a) a q.2 side) g.1
    term_stands view inner beside (At at t r l a) (AsPlace p) q g = absurd p
    term_stands view inner beside (At at t r l a) (AsZero z) q g = absurd z
    term_stands view inner beside (Null at t r) o q g = none
    term_stands view inner beside (Deref at t r a) o q g = term_stands view inner beside a (OfSort (inr (q.0, q.2))) q.3 g.1
    term_stands view inner beside (Member at t r d a) o q g = term_stands view inner beside a (AsPlace q.4) q.5 g.1
    term_stands view inner beside (Address at t r a) o q g = term_stands view inner beside a (AsPlace q.3) q.4 g.1
    term_stands view inner beside (Moved at t r op n a b) o q g = both (in_term a) (in_term b) (term_stands view inner beside a (OfSort (inr (q.0, q.2))) q.4 g.1) (term_stands view inner beside b (OfSort (inl q.3)) q.5 g.2)
    term_stands view inner beside (Difference at t r n a b) o q g = both (in_term a) (in_term b) (term_stands view inner beside a (OfSort (inr q.1)) q.3 g.1) (term_stands view inner beside b (OfSort (inr q.2)) q.4 g.2)
    term_stands view inner beside (Told at t r f a) o q g = term_stands view inner beside a (OfSort (inr q.1)) q.2 g.1

    links_stand : (view : AnnotationSight) (inner : Seen) → Beside view → (a : LogicTerm) (links : Links) → LinksTyped view a links → LinksRanged inner links → AllStand (in_links links)
    links_stand view inner beside a NoLink q g = none
    links_stand view inner beside a (Linked at r t rest) q g =
        both (in_term t) (in_links rest) (term_stands view inner beside t (related_operands a t q.0).1 q.1 g.0) (links_stand view inner beside t rest q.2 g.1)

    zone_stands : (view : AnnotationSight) (inner : Seen) → Beside view → (z : Zone) → ZoneTyped view z → ZoneRanged inner z → AllStand (in_zone z)
    zone_stands view inner beside (Object at n m a) q g = term_stands view inner beside a (OfSort (inr q.0)) q.1 g
    zone_stands view inner beside (Elements at n m a lo hi) q g =
        both (in_term a) (in_term lo ++ in_term hi) (term_stands view inner beside a (OfSort (inr q.0)) q.3 g.1)
        (both (in_term lo) (in_term hi) (term_stands view inner beside lo (OfSort (inl q.1)) q.4 g.2) (term_stands view inner beside hi (OfSort (inl q.2)) q.5 g.3))

    zones_stand : (view : AnnotationSight) (inner : Seen) → Beside view → (zs : Zones) → ZonesTyped view zs → ZonesRanged inner zs → AllStand (in_zones zs)
    zones_stand view inner beside NoZone q g = none
    zones_stand view inner beside (Another z rest) q g = both (in_zone z) (in_zones rest) (zone_stands view inner beside z q.0 g.0) (zones_stand view inner beside rest q.1 g.1)

    predicate_here : (view : AnnotationSight) (inner : Seen) → Beside view → (p : Predicate) → PredicateTyped view p → PredicateRanged inner p → AllStand (in_predicate p)
    predicate_here view inner beside (Truth at b) q g = none
    predicate_here view inner beside (NonZero at t) q g = term_stands view inner beside t (OfSort (inl q.0)) q.1 g
    predicate_here view inner beside (Chain at t NoLink) q g = absurd q.2
    predicate_here view inner beside (Chain at t (Linked r k u rest)) q g =
        both (in_term t) (in_term u ++ in_links rest) (term_stands view inner beside t (related_operands t u q.1.0).0 q.0 g.0) (links_stand view inner beside t (Linked r k u rest) q.1 g.1)
    predicate_here view inner beside (Not at p) q g = predicate_here view inner beside p q g
    predicate_here view inner beside (Connected at c p r) q g = both (in_predicate p) (in_predicate r) (predicate_here view inner beside p q.0 g.0) (predicate_here view inner beside r q.1 g.1)
    predicate_here view inner beside (Branch at c p r) q g =
        both (in_predicate c) (in_predicate p ++ in_predicate r) (predicate_here view inner beside c q.0 g.0) (both (in_predicate p) (in_predicate r) (predicate_here view inner beside p q.1 g.1) (predicate_here view inner beside r q.2 g.2))
    predicate_here view inner beside (Quantified at k gs p) q g = guards_stand view inner beside gs p q g (λ view inner beside q g. predicate_here view inner beside p q g)
    predicate_here view inner beside (Asks at f z) q g = zone_stands view inner beside z q g
    predicate_here view inner beside (Separated at zs) q g = zones_stand view inner beside zs q g

    guards_stand : (view : AnnotationSight) (inner : Seen) → Beside view → (gs : Guards) (p : Predicate) → GuardsTyped view gs (λ u. PredicateTyped u p) → GuardsRanged inner gs (λ m. PredicateRanged m p)
        → ((view : AnnotationSight) (inner : Seen) → Beside view → PredicateTyped view p → PredicateRanged inner p → AllStand (in_predicate p)) → AllStand (in_guards gs ++ in_predicate p)
    guards_stand view inner beside NoGuard p q g inside = inside view inner beside q g
    guards_stand view inner beside (Guarded a y ys below b rest) p q g inside =
        let others = guards_stand (with_binders view q.4) (seen_binders (range_of a).lo (y ∷ ys) (lowered below (range_of b).hi) inner) (binders_beside view q.4 beside) rest p q.6 g.3 inside in
        subst AllStand (sym (append_assoc (in_term a) (in_term b ++ in_guards rest) (in_predicate p)))
        (both (in_term a) ((in_term b ++ in_guards rest) ++ in_predicate p) (term_stands view inner beside a (OfSort (inl q.0)) q.2 g.0)
        (subst AllStand (sym (append_assoc (in_term b) (in_guards rest) (in_predicate p))) (both (in_term b) (in_guards rest ++ in_predicate p) (term_stands view inner beside b (OfSort (inl q.1)) q.3 g.1) others)))

  here_beside : Beside s
  here_beside = record { sights = λ l. refl; under = λ v. refl }

  pub predicate_stands : (p : Predicate) → PredicateTyped s p → PredicateRanged seen p → AllStand (in_predicate p)
  predicate_stands p q g = predicate_here s seen here_beside p q g

  pub value_stands : (t : LogicTerm) → IsIntegerTerm t → TermTyped s t → TermRanged seen t → AllStand (in_term t)
  value_stands t i q g = term_stands s seen here_beside t (OfSort (inl i)) q g
