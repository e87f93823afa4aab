-- Of an annotation that is typed the terms that are kept at labels stand at places of what was read, each at one of its own.
use Rattle.std.proofs.Common.{◌≡◌, ℕ, ◌+◌, ◌≤◌, ap, arith, List, [], ◌∷◌, ◌++◌, Option, Some, None}
use Rattle.c_syntax.specs.declared.annotation.Kind.{Kind}
use Rattle.c_syntax.specs.declared.annotation.Kind.TheVariants.{Assert, Requires, Assumes, Ensures, Complete, Disjoint, Invariant, Variant, Rte}
use Rattle.c_syntax.specs.declared.annotation.Relation.{Relation}
use Rattle.c_syntax.specs.declared.place.Place.{Place}
use Rattle.c_syntax.specs.declared.logic.Connective.{Connective}
use Rattle.c_syntax.specs.declared.logic.Connective.TheVariants.{And, Xor, Or, Implies, Iff}
use Rattle.c_syntax.specs.declared.logic.Quantifier.{Quantifier}
use Rattle.c_syntax.specs.declared.logic.Quantifier.TheVariants.{ForAll, Exists}
use Rattle.c_syntax.specs.declared.logic.Label.TheVariants as label
use Rattle.c_syntax.specs.declared.logic.MemoryQuestion.{MemoryQuestion}
use Rattle.c_syntax.specs.declared.logic.MemoryQuestion.TheVariants.{ValidRead}
use Rattle.c_syntax.specs.Formulas as read
use Rattle.c_syntax.specs.Formulas.{CastType, Integers, OfC, Form, FormLinks, FormZone, FormZones}
use Rattle.c_syntax.specs.Logic.{LogicTerm, Links, NoLink, Linked, Predicate, Zone, Zones, Another, ClauseBody, Raw, Holds, Value, Annotation, Behaviors}
use Rattle.c_model.specs.Checked.{Checked, Good, Bad, one_part, pair_of}
use Rattle.c_model.specs.ExpressionTyping.{no_type, Sight}
use Rattle.c_model.specs.ExpressionTyping.{typed_type, known_type}
use Rattle.c_model.specs.PredicateTyping.{place_of_term, Sorted, ATerm, APredicate, APlace, sort_of_term, is_integer, value_in, as_term, as_integer, as_pointer}
use Rattle.c_model.specs.PredicateTyping.{as_predicate, no_label, has_old}
use Rattle.c_model.specs.PredicateTyping.{dot, arrow}
use Rattle.c_model.specs.PredicateTyping.{index, unary_on, binary_on, cast_integer, cast, size_in, connected}
use Rattle.c_model.specs.PredicateTyping.{chosen, Side, side_of, are_related, right_side, related, told, object_zone, elements_zone}
use Rattle.c_model.specs.PredicateTyping.{typed_form, typed_links, typed_zone, typed_zones, clause_holds, typed_clause, typed_annotations}
use Rattle.c_model.specs.AnnotationSights.{AnnotationSight, label_named}
use Rattle.c_model.specs.KeptTerms.{in_guards, Entry, entries_at, in_term, in_links, in_zone, in_zones, in_predicate, in_clause, in_annotations}
use Rattle.c_model.specs.PlacedForms.{stands_at, nodes_at, links_at, zone_at, zones_at, clause_at, annotations_at}
use Rattle.c_model.specs.TypedPredicates.{IsRead, AreRead}
use Rattle.c_model.proofs.TypedParts.{Gives, gives_one, gives_more, gives_both, gives_given, gives_where}
use Rattle.c_model.specs.AnnotationSights.{with_binders}
use Rattle.c_model.specs.QuantifierGuards.{is_guarded, left_behind, guarded_by}
use Rattle.c_model.specs.QuantifierTyping.{no_guard, binder_type, GuardChain, guards_of, Conjuncts, both_of, conjunction, another_conjunct, other_conjunct, bound_at, chain_over, chain_conjunct, implied, universal, existential, quantified}
use Rattle.c_model.specs.QuantifierTyping as guard
use Rattle.c_model.specs.PredicateTyping.{is_refused, typed_quantified, typed_conjuncts, typed_upper, variant_value, said}
use Rattle.c_model.proofs.SortedTrees.{gives_pair, gives_limited, anything, Any}
use Rattle.c_model.proofs.PlacedSorts.{joined, Count, Most, TermPlaced, Placed, Covers, both, none, most_both, most_more, placed_more, bare, bare_own, values_placed, term_placed, integer_placed, pointer_placed, holds_placed, predicate_placed}
use Rattle.c_model.proofs.PlacedSorts.{PairPlaced, PredicateMost, asked_placed, number_placed, named_placed, result_placed, size_placed, labelled_placed, dot_placed, arrow_placed, unary_placed, cast_integer_placed, cast_placed, told_placed}
use Rattle.c_model.proofs.PlacedSorts.{index_placed, binary_placed, connected_placed, chosen_placed, elements_placed}

-- ---- relations

abbrev LinksMost : Count → Links → Type 0
LinksMost n ls = Most n (in_links ls)

abbrev ZoneMost : Count → Zone → Type 0
ZoneMost n z = Most n (in_zone z)

abbrev ZonesMost : Count → Zones → Type 0
ZonesMost n zs = Most n (in_zones zs)

right_placed : (n : Count) (at : Place) (left right : Side) (k : Checked Sorted) → Gives (Placed n) k → Gives (TermPlaced n) (one_part k (right_side at left right))
right_placed n at left right (Bad x xs) w = tt
right_placed n at left right (Good a) w = gives_where (TermPlaced n) (are_related left right) (no_type at) (as_term at a) (λ e. term_placed n at a w)

related_placed : (n m k : Count) (at : Place) (a : Sorted) (ls : Links) → ((o : ℕ) → m o + k o ≤ n o) → Placed m a → LinksMost k ls → Gives (Placed n) (related at a ls)
related_placed n m k at a NoLink h v w = tt
related_placed n m k at a (Linked place r b rest) h v w =
    gives_one (TermPlaced m) (Placed n) (as_term at a) _ (term_placed m at a v) (λ t x. most_both m k n (in_term t) (in_term b ++ in_links rest) x.most w h)

object_placed_zone : (n : Count) (s : Sight) (q : MemoryQuestion) (at : Place) (a : Sorted) → Placed n a → Gives (ZoneMost n) (object_zone s q at a)
object_placed_zone n s q at a w = gives_one (PairPlaced n) (ZoneMost n) (as_pointer at a) _ (pointer_placed n at a w) (λ p v. asked_placed (ZoneMost n) s at q p.0 _ v.most)

-- ---- forms

-- the places of a form
abbrev of_form : Form → Count
of_form f o = nodes_at o f

abbrev FormPlaced : AnnotationSight → Form → Type 0
FormPlaced s f = Gives (Placed (of_form f)) (typed_form s f)

module _ (s : AnnotationSight) where
  value_of : (f : Form) → FormPlaced s f → Gives (Placed (of_form f)) (value_in (typed_form s f))
  value_of f w = values_placed (of_form f) (typed_form s f) w

  one_placed : (n : Count) (a : Form) (k : Sorted → Checked Sorted) → FormPlaced s a → ((x : Sorted) → Placed (of_form a) x → Gives (Placed n) (k x)) → Gives (Placed n) (one_part (value_in (typed_form s a)) k)
  one_placed n a k v h = gives_one (Placed (of_form a)) (Placed n) (value_in (typed_form s a)) k (value_of a v) h

  two_placed : (n : Count) (a b : Form) (k : Sorted × Sorted → Checked Sorted) → FormPlaced s a → FormPlaced s b → ((x y : Sorted) → Placed (of_form a) x → Placed (of_form b) y → Gives (Placed n) (k (x, y)))
      → Gives (Placed n) (one_part (pair_of (value_in (typed_form s a)) (value_in (typed_form s b))) k)
  two_placed n a b k v w h = gives_pair (Placed (of_form a)) (Placed (of_form b)) (Placed n) (value_in (typed_form s a)) (value_in (typed_form s b)) k (value_of a v) (value_of b w) h

  abbrev Both : Form → Form → Sorted × Sorted → Type 0
  Both a b p = Placed (of_form a) p.0 × Placed (of_form b) p.1

  pair_placed : (a b : Form) → FormPlaced s a → FormPlaced s b → Gives (Both a b) (pair_of (value_in (typed_form s a)) (value_in (typed_form s b)))
  pair_placed a b v w =
      gives_both (Placed (of_form a)) (Placed (of_form b)) (Both a b) (value_in (typed_form s a)) (value_in (typed_form s b)) (λ a b. Good (a, b)) (value_of a v) (value_of b w) (λ a b v w. (v, w))

-- a form covers its own place and its parts
just : (at : Place) → Covers (λ o. stands_at o at) at none
just at o = omega arith

covers_itself : (at : Place) (m : Count) → Covers (λ o. stands_at o at + m o) at m
covers_itself at m o = omega arith

-- ---- quantifiers

abbrev in_others : Option Predicate → List Entry
in_others None = []
in_others (Some p) = in_predicate p

-- in the chains of a guard, and behind it
record ConjunctsPlaced (n : Count) (c : Conjuncts) : Type 0 where
  most : (o : ℕ) → entries_at o (in_guards (guards_of c.chains)) + entries_at o (in_others c.others) ≤ n o

guards_all : (o : ℕ) (cs ds : List GuardChain) → entries_at o (in_guards (guards_of (cs ++ ds))) ≡ entries_at o (in_guards (guards_of cs)) + entries_at o (in_guards (guards_of ds))
guards_all o [] ds = omega arith
guards_all o (c ∷ cs) ds =
    let rest = guards_all o cs ds in
    let all : List Entry = in_guards (guards_of (cs ++ ds)) in
    let first : List Entry = in_guards (guards_of cs) in
    let d = joined o (in_term c.lower) (in_term c.upper ++ all) in
    let e = joined o (in_term c.upper) all in
    let f = joined o (in_term c.lower) (in_term c.upper ++ first) in
    let g = joined o (in_term c.upper) first in
    omega (arith, rest, d, e, f, g)

others_all : (o : ℕ) (at : Place) (p q : Option Predicate) → entries_at o (in_others (both_of at p q)) ≡ entries_at o (in_others p) + entries_at o (in_others q)
others_all o at None q = omega arith
others_all o at (Some p) None = omega arith
others_all o at (Some p) (Some q) = joined o (in_predicate p) (in_predicate q)

conjunction_placed : (n m k : Count) (at : Place) (a b : Checked Conjuncts) → ((o : ℕ) → m o + k o ≤ n o) → Gives (ConjunctsPlaced m) a → Gives (ConjunctsPlaced k) b → Gives (ConjunctsPlaced n) (conjunction at a b)
conjunction_placed n m k at a b h v w =
    gives_pair (ConjunctsPlaced m) (ConjunctsPlaced k) (ConjunctsPlaced n) a b (λ p. Good (guard.joined at p.0 p.1)) v w (λ c d x y. record {
      most = λ o. (
          let e = guards_all o c.chains d.chains in
          let f = others_all o at c.others d.others in
          let i = x.most o in
          let j = y.most o in
          let k = h o in
          omega (arith, e, f, i, j, k)
          );
    })

another_placed : (n : Count) (at : Place) (a : Checked Sorted) → Gives (Placed n) a → Gives (ConjunctsPlaced n) (another_conjunct at a)
another_placed n at a w =
    gives_one (Placed n) (ConjunctsPlaced n) (value_in a) _ (values_placed n a w) (λ v x. gives_one (PredicateMost n) (ConjunctsPlaced n) (as_predicate at v) _ (predicate_placed n at v x)
    (λ p y. record { most = λ o. (let i = y o in omega (arith, i)) }))

other_placed : (n : Count) (at place : Place) (bs : List (Place × ℕ)) (a : Checked Sorted) → Gives (Placed n) a → Gives (ConjunctsPlaced n) (other_conjunct at bs place a)
other_placed n at place [] a w = another_placed n place a w
other_placed n at place (b ∷ bs) a w = tt

bound_placed : (n : Count) (at : Place) (a : Checked Sorted) → Gives (Placed n) a → Gives (TermPlaced n) (bound_at at a)
bound_placed n at a w = gives_one (Placed n) (TermPlaced n) (value_in a) (as_integer at) (values_placed n a w) (integer_placed n at)

abbrev UpperPlaced : Count → LogicTerm → Type 0
UpperPlaced n t = Most n (in_term t)

over_placed : (n m k : Count) (j : CastType) (b : Place × ℕ) (bs : List (Place × ℕ)) (r : Relation) (rest : FormLinks) → ((o : ℕ) → m o + k o ≤ n o) → (t u : LogicTerm) → TermPlaced m t → UpperPlaced k u
    → ConjunctsPlaced n (chain_over j b bs r rest t u)
over_placed n m k j b bs r rest h t u v w = record {
  most = λ o. (
      let d = joined o (in_term t) (in_term u ++ []) in
      let e = joined o (in_term u) [] in
      let i = v.most o in
      let l = w o in
      let g = h o in
      omega (arith, d, e, i, l, g)
      );
}

chain_placed : (n m k : Count) (at : Place) (j : CastType) (bs : List (Place × ℕ)) (place : Place) (links : FormLinks) (lower upper : Checked LogicTerm) (a : Checked Sorted) → ((o : ℕ) → m o + k o ≤ n o) → Gives (TermPlaced m) lower
    → Gives (UpperPlaced k) upper → Gives (Placed n) a → Gives (ConjunctsPlaced n) (chain_conjunct at j bs place links lower upper a)
chain_placed n m k at j [] place links lower upper a h v w z = another_placed n place a z
chain_placed n m k at j (b ∷ bs) place read.NoLink lower upper a h v w z = tt
chain_placed n m k at j (b ∷ bs) place (read.Linked l r c read.NoLink) lower upper a h v w z = tt
chain_placed n m k at j (b ∷ bs) place (read.Linked l r c (read.Linked x s d rest)) lower upper a h v w z =
    gives_pair (TermPlaced m) (UpperPlaced k) (ConjunctsPlaced n) lower upper (λ p. Good (chain_over j b bs r (read.Linked x s d rest) p.0 p.1)) v w (over_placed n m k j b bs r (read.Linked x s d rest) h)

exists_placed : (n : Count) (at : Place) (c : Conjuncts) → ConjunctsPlaced n c → Gives (Placed n) (existential at c)
exists_placed n at c v = gives_given (Placed n) c.others (no_guard at) _ (λ p e o. (
    let f : entries_at o (in_others c.others) ≡ entries_at o (in_predicate p) = ap (λ q. entries_at o (in_others q)) e in
    let i = v.most o in
    let j = joined o (in_guards (guards_of c.chains)) (in_predicate p) in
    omega (arith, f, i, j)
    ))

implied_placed : (o : ℕ) (at : Place) (h : Option Predicate) (p : Predicate) → entries_at o (in_predicate (implied at h p)) ≡ entries_at o (in_others h) + entries_at o (in_predicate p)
implied_placed o at None p = omega arith
implied_placed o at (Some h) p = joined o (in_predicate h) (in_predicate p)

for_all_placed : (n m k : Count) (at place : Place) (c : Conjuncts) (a : Sorted) → ((o : ℕ) → m o + k o ≤ n o) → ConjunctsPlaced m c → Placed k a → Gives (Placed n) (universal at place c a)
for_all_placed n m k at place c a h v w =
    gives_one (PredicateMost k) (Placed n) (as_predicate place a) _ (predicate_placed k place a w) (λ p x o. (
    let i = v.most o in
    let j = x o in
    let l = joined o (in_guards (guards_of c.chains)) (in_predicate (implied place c.others p)) in
    let e = implied_placed o place c.others p in
    let g = h o in
    omega (arith, i, j, l, e, g)
    ))

quantified_placed : (n m k : Count) (at place : Place) (q : Quantifier) (j : Connective) (a b : Checked Conjuncts) (x : Checked Sorted) → ((o : ℕ) → m o + k o ≤ n o) → Gives (ConjunctsPlaced m) a → Gives (ConjunctsPlaced k) b
    → Gives (Placed k) x → Gives (Placed n) (quantified at place q j a b x)
quantified_placed n m k at place ForAll Implies a b x h v w z =
    gives_pair (ConjunctsPlaced m) (Placed k) (Placed n) a x (λ p. universal at place p.0 p.1) v z (λ c d y u. for_all_placed n m k at place c d h y u)
quantified_placed n m k at place Exists And a b x h v w z = gives_one (ConjunctsPlaced n) (Placed n) (conjunction place a b) (existential at) (conjunction_placed n m k place a b h v w) (exists_placed n at)
quantified_placed n m k at place ForAll And a b x h v w z = tt
quantified_placed n m k at place ForAll Xor a b x h v w z = tt
quantified_placed n m k at place ForAll Or a b x h v w z = tt
quantified_placed n m k at place ForAll Iff a b x h v w z = tt
quantified_placed n m k at place Exists Xor a b x h v w z = tt
quantified_placed n m k at place Exists Or a b x h v w z = tt
quantified_placed n m k at place Exists Implies a b x h v w z = tt
quantified_placed n m k at place Exists Iff a b x h v w z = tt

mutual
  form_placed : (s : AnnotationSight) (f : Form) → FormPlaced s f
  form_placed s (read.Number at z) = number_placed (of_form (read.Number at z)) at (just at) z
  form_placed s (read.Letter at z) = record { most = bare (of_form (read.Letter at z)) at (just at); own = bare_own (of_form (read.Letter at z)) at (just at) }
  form_placed s (read.Truth at b) = bare (of_form (read.Truth at b)) at (just at)
  form_placed s (read.Name at x) = named_placed (of_form (read.Name at x)) at (just at) s x.name
  form_placed s (read.Unary at op a) =
      gives_one (Placed (of_form a)) (Placed (of_form (read.Unary at op a))) (typed_form s a) (unary_on at op) (form_placed s a) (unary_placed (of_form (read.Unary at op a)) at (of_form a) (covers_itself at (of_form a)) op)
  form_placed s (read.Binary at op a b) =
      two_placed s (of_form (read.Binary at op a b)) a b (λ p. binary_on s.here at op p.0 p.1) (form_placed s a) (form_placed s b)
      (binary_placed (of_form (read.Binary at op a b)) at (of_form a) (of_form b) (covers_itself at (both (of_form a) (of_form b))) s.here op)
  form_placed s (read.Cast at Integers a) =
      one_placed s (of_form (read.Cast at Integers a)) a (cast_integer at Integers) (form_placed s a) (cast_integer_placed (of_form (read.Cast at Integers a)) at (of_form a) (covers_itself at (of_form a)) Integers)
  form_placed s (read.Cast at (OfC to) a) =
      let n = of_form (read.Cast at (OfC to) a) in
      gives_limited (Placed n) s.here at (known_type s.here to) _ (gives_pair Any (Placed (of_form a)) (Placed n) (typed_type s.here at to) (value_in (typed_form s a)) (λ p. cast at p.0 p.1) (anything (typed_type s.here at to))
      (value_of s a (form_placed s a)) (λ t x v w. cast_placed n at (of_form a) (covers_itself at (of_form a)) t x w))
  form_placed s (read.SizeOf at u) =
      let n = of_form (read.SizeOf at u) in
      gives_limited (Placed n) s.here at (known_type s.here u) _
      (gives_one Any (Placed n) (typed_type s.here at u) (size_in s.here at) (anything (typed_type s.here at u)) (λ t v. size_placed n at (just at) s.here t))
  form_placed s (read.Chain at a links) =
      let n = of_form (read.Chain at a links) in
      let side = side_of a (value_in (typed_form s a)) in
      gives_pair (Placed (of_form a)) (LinksMost (λ o. links_at o links)) (Placed n) (value_in (typed_form s a)) (typed_links s side links) (λ p. related at p.0 p.1)
      (value_of s a (form_placed s a)) (links_placed s side links) (λ x ls v w. related_placed n (of_form a) (λ o. links_at o links) at x ls (λ o. omega arith) v w)
  form_placed s (read.Connected at k a b) =
      two_placed s (of_form (read.Connected at k a b)) a b (λ p. connected at k p.0 p.1) (form_placed s a) (form_placed s b)
      (connected_placed (of_form (read.Connected at k a b)) at (of_form a) (of_form b) (covers_itself at (both (of_form a) (of_form b))) k)
  form_placed s (read.Choice at k a b) =
      let n = of_form (read.Choice at k a b) in
      gives_pair (Placed (of_form k)) (Both s a b) (Placed n) (value_in (typed_form s k)) (pair_of (value_in (typed_form s a)) (value_in (typed_form s b))) (λ p. chosen at p.0 (p.1).0 (p.1).1)
      (value_of s k (form_placed s k)) (pair_placed s a b (form_placed s a) (form_placed s b))
      (λ x p u w. chosen_placed n at (of_form k) (of_form a) (of_form b) (covers_itself at (both (of_form k) (both (of_form a) (of_form b)))) x p.0 p.1 u w.0 w.1)
  form_placed s (read.Null at) = record { most = bare (of_form (read.Null at)) at (just at); own = bare_own (of_form (read.Null at)) at (just at) }
  form_placed s (read.Index at a b) =
      two_placed s (of_form (read.Index at a b)) a b (λ p. index s.here at p.0 p.1) (form_placed s a) (form_placed s b)
      (index_placed (of_form (read.Index at a b)) at (of_form a) (of_form b) (covers_itself at (both (of_form a) (of_form b))) s.here)
  form_placed s (read.Dot at a m) =
      gives_one (Placed (of_form a)) (Placed (of_form (read.Dot at a m))) (typed_form s a) (dot s.here at m) (form_placed s a) (dot_placed (of_form (read.Dot at a m)) at (of_form a) (covers_itself at (of_form a)) s.here m)
  form_placed s (read.Arrow at a m) =
      one_placed s (of_form (read.Arrow at a m)) a (arrow s.here at m) (form_placed s a) (arrow_placed (of_form (read.Arrow at a m)) at (of_form a) (covers_itself at (of_form a)) s.here m)
  form_placed s (read.Told at f a) =
      one_placed s (of_form (read.Told at f a)) a (told at f) (form_placed s a) (told_placed (of_form (read.Told at f a)) at (of_form a) (covers_itself at (of_form a)) f)
  form_placed s (read.Asks at q z) =
      let n = of_form (read.Asks at q z) in
      gives_one (ZoneMost (λ o. zone_at o z)) (Placed n) (typed_zone s q at z) _ (zone_placed s q at z) (λ y w. most_more (λ o. zone_at o z) n (in_zone y) w (λ o. omega arith))
  form_placed s (read.Separated at zs) =
      let n = of_form (read.Separated at zs) in
      gives_one (ZonesMost (λ o. zones_at o zs)) (Placed n) (typed_zones s at zs) _ (zones_placed s at zs) (λ ys w. most_more (λ o. zones_at o zs) n (in_zones ys) w (λ o. omega arith))
  form_placed s (read.Result at) = result_placed (of_form (read.Result at)) at (just at) s.clause
  form_placed s (read.Old at a) =
      gives_where (Placed (of_form (read.Old at a))) (has_old s.clause) (no_label at) _ (λ e.
      labelled_placed (of_form (read.Old at a)) at (of_form a) (covers_itself at (of_form a)) s at (is_refused s a) (λ u. typed_form u a) (λ u. form_placed u a) (Some label.Pre))
  form_placed s (read.At at a place l) =
      labelled_placed (of_form (read.At at a place l)) at (of_form a) (covers_itself at (of_form a)) s place (is_refused s a) (λ u. typed_form u a) (λ u. form_placed u a) (label_named s l)
  form_placed s (read.Quantified at q to names a) =
      let n = of_form (read.Quantified at q to names a) in
      gives_where (Placed n) (is_guarded q names a) (no_guard at) _ (λ e.
      gives_one (λ (k : CastType). Unit {0}) (Placed n) (binder_type s.here at to) (λ k. typed_quantified s at q k names a) (anything (binder_type s.here at to)) (λ k u.
      gives_more (Placed (of_form a)) (Placed n) (typed_quantified s at q k names a) (quantifier_placed s at q k names a) (placed_more (of_form a) n (λ o. omega arith))))

  quantifier_placed : (s : AnnotationSight) (at : Place) (q : Quantifier) (k : CastType) (bs : List (Place × ℕ)) (f : Form) → Gives (Placed (of_form f)) (typed_quantified s at q k bs f)
  quantifier_placed s at q k bs (read.Connected place j a b) =
      let u = with_binders s (guarded_by bs a) in
      quantified_placed (of_form (read.Connected place j a b)) (of_form a) (of_form b) at place q j (typed_conjuncts s at k bs place a (typed_form s a)) (typed_conjuncts u at k (left_behind bs a) place b (typed_form u b))
      (value_in (typed_form (with_binders s bs) b)) (λ o. omega arith) (conjuncts_placed s at k bs place a (form_placed s a)) (conjuncts_placed u at k (left_behind bs a) place b (form_placed u b))
      (value_of (with_binders s bs) b (form_placed (with_binders s bs) b))
  quantifier_placed s here q k bs (read.Number at n) = tt
  quantifier_placed s here q k bs (read.Letter at n) = tt
  quantifier_placed s here q k bs (read.Truth at v) = tt
  quantifier_placed s here q k bs (read.Name at x) = tt
  quantifier_placed s here q k bs (read.Unary at op a) = tt
  quantifier_placed s here q k bs (read.Binary at op a b) = tt
  quantifier_placed s here q k bs (read.Cast at to a) = tt
  quantifier_placed s here q k bs (read.SizeOf at u) = tt
  quantifier_placed s here q k bs (read.Choice at j a b) = tt
  quantifier_placed s here q k bs (read.Null at) = tt
  quantifier_placed s here q k bs (read.Index at a b) = tt
  quantifier_placed s here q k bs (read.Dot at a m) = tt
  quantifier_placed s here q k bs (read.Arrow at a m) = tt
  quantifier_placed s here q k bs (read.Told at f a) = tt
  quantifier_placed s here q k bs (read.Asks at p z) = tt
  quantifier_placed s here q k bs (read.Separated at zs) = tt
  quantifier_placed s here q k bs (read.Result at) = tt
  quantifier_placed s here q k bs (read.Old at a) = tt
  quantifier_placed s here q k bs (read.At at a place l) = tt
  quantifier_placed s here q k bs (read.Quantified at p to names a) = tt
  quantifier_placed s here q k bs (read.Chain at a links) = tt

  conjuncts_placed : (s : AnnotationSight) (at : Place) (k : CastType) (bs : List (Place × ℕ)) (place : Place) (f : Form) → FormPlaced s f → Gives (ConjunctsPlaced (of_form f)) (typed_conjuncts s at k bs place f (typed_form s f))
  conjuncts_placed s at k bs place (read.Connected here And a b) w =
      let u = with_binders s (guarded_by bs a) in
      conjunction_placed (of_form (read.Connected here And a b)) (of_form a) (of_form b) here (typed_conjuncts s at k bs here a (typed_form s a)) (typed_conjuncts u at k (left_behind bs a) here b (typed_form u b)) (λ o. omega arith)
      (conjuncts_placed s at k bs here a (form_placed s a)) (conjuncts_placed u at k (left_behind bs a) here b (form_placed u b))
  conjuncts_placed s at k bs place (read.Chain here a links) w =
      chain_placed (of_form (read.Chain here a links)) (of_form a) (λ o. links_at o links) at k bs place links (bound_at here (typed_form s a)) (typed_upper s at links) (typed_form s (read.Chain here a links)) (λ o. omega arith)
      (bound_placed (of_form a) here (typed_form s a) (form_placed s a)) (upper_placed s at links) w
  conjuncts_placed s here k bs there (read.Number at n) w = other_placed (of_form (read.Number at n)) here there bs (typed_form s (read.Number at n)) w
  conjuncts_placed s here k bs there (read.Letter at n) w = other_placed (of_form (read.Letter at n)) here there bs (typed_form s (read.Letter at n)) w
  conjuncts_placed s here k bs there (read.Truth at v) w = other_placed (of_form (read.Truth at v)) here there bs (typed_form s (read.Truth at v)) w
  conjuncts_placed s here k bs there (read.Name at x) w = other_placed (of_form (read.Name at x)) here there bs (typed_form s (read.Name at x)) w
  conjuncts_placed s here k bs there (read.Unary at op a) w = other_placed (of_form (read.Unary at op a)) here there bs (typed_form s (read.Unary at op a)) w
  conjuncts_placed s here k bs there (read.Binary at op a b) w = other_placed (of_form (read.Binary at op a b)) here there bs (typed_form s (read.Binary at op a b)) w
  conjuncts_placed s here k bs there (read.Cast at to a) w = other_placed (of_form (read.Cast at to a)) here there bs (typed_form s (read.Cast at to a)) w
  conjuncts_placed s here k bs there (read.SizeOf at u) w = other_placed (of_form (read.SizeOf at u)) here there bs (typed_form s (read.SizeOf at u)) w
  conjuncts_placed s here k bs there (read.Choice at j a b) w = other_placed (of_form (read.Choice at j a b)) here there bs (typed_form s (read.Choice at j a b)) w
  conjuncts_placed s here k bs there (read.Null at) w = other_placed (of_form (read.Null at)) here there bs (typed_form s (read.Null at)) w
  conjuncts_placed s here k bs there (read.Index at a b) w = other_placed (of_form (read.Index at a b)) here there bs (typed_form s (read.Index at a b)) w
  conjuncts_placed s here k bs there (read.Dot at a m) w = other_placed (of_form (read.Dot at a m)) here there bs (typed_form s (read.Dot at a m)) w
  conjuncts_placed s here k bs there (read.Arrow at a m) w = other_placed (of_form (read.Arrow at a m)) here there bs (typed_form s (read.Arrow at a m)) w
  conjuncts_placed s here k bs there (read.Told at f a) w = other_placed (of_form (read.Told at f a)) here there bs (typed_form s (read.Told at f a)) w
  conjuncts_placed s here k bs there (read.Asks at p z) w = other_placed (of_form (read.Asks at p z)) here there bs (typed_form s (read.Asks at p z)) w
  conjuncts_placed s here k bs there (read.Separated at zs) w = other_placed (of_form (read.Separated at zs)) here there bs (typed_form s (read.Separated at zs)) w
  conjuncts_placed s here k bs there (read.Result at) w = other_placed (of_form (read.Result at)) here there bs (typed_form s (read.Result at)) w
  conjuncts_placed s here k bs there (read.Old at a) w = other_placed (of_form (read.Old at a)) here there bs (typed_form s (read.Old at a)) w
  conjuncts_placed s here k bs there (read.At at a place l) w = other_placed (of_form (read.At at a place l)) here there bs (typed_form s (read.At at a place l)) w
  conjuncts_placed s here k bs there (read.Quantified at p to names a) w = other_placed (of_form (read.Quantified at p to names a)) here there bs (typed_form s (read.Quantified at p to names a)) w
  conjuncts_placed s here k bs there (read.Connected at Xor a b) w = other_placed (of_form (read.Connected at Xor a b)) here there bs (typed_form s (read.Connected at Xor a b)) w
  conjuncts_placed s here k bs there (read.Connected at Or a b) w = other_placed (of_form (read.Connected at Or a b)) here there bs (typed_form s (read.Connected at Or a b)) w
  conjuncts_placed s here k bs there (read.Connected at Implies a b) w = other_placed (of_form (read.Connected at Implies a b)) here there bs (typed_form s (read.Connected at Implies a b)) w
  conjuncts_placed s here k bs there (read.Connected at Iff a b) w = other_placed (of_form (read.Connected at Iff a b)) here there bs (typed_form s (read.Connected at Iff a b)) w

  upper_placed : (s : AnnotationSight) (at : Place) (links : FormLinks) → Gives (UpperPlaced (λ o. links_at o links)) (typed_upper s at links)
  upper_placed s at read.NoLink = tt
  upper_placed s at (read.Linked place r a read.NoLink) =
      gives_more (TermPlaced (of_form a)) (UpperPlaced (λ o. links_at o (read.Linked place r a read.NoLink))) (bound_at place (typed_form s a)) (bound_placed (of_form a) place (typed_form s a) (form_placed s a))
      (λ t v. most_more (of_form a) (λ o. links_at o (read.Linked place r a read.NoLink)) (in_term t) v.most (λ o. omega arith))
  upper_placed s at (read.Linked place r a (read.Linked l u c rest)) =
      gives_more (UpperPlaced (λ o. links_at o (read.Linked l u c rest))) (UpperPlaced (λ o. links_at o (read.Linked place r a (read.Linked l u c rest)))) (typed_upper s at (read.Linked l u c rest)) (upper_placed s at (read.Linked l u c rest))
      (λ t v. most_more (λ o. links_at o (read.Linked l u c rest)) (λ o. links_at o (read.Linked place r a (read.Linked l u c rest))) (in_term t) v (λ o. omega arith))

  links_placed : (s : AnnotationSight) (left : Side) (links : FormLinks) → Gives (LinksMost (λ o. links_at o links)) (typed_links s left links)
  links_placed s left read.NoLink = λ o. omega arith
  links_placed s left (read.Linked at r b rest) =
      let n : Count = λ o. links_at o (read.Linked at r b rest) in
      let side = side_of b (value_in (typed_form s b)) in
      gives_pair (TermPlaced (of_form b)) (LinksMost (λ o. links_at o rest)) (LinksMost n) (one_part (value_in (typed_form s b)) (right_side at left side)) (typed_links s side rest) (λ p. Good (Linked at r p.0 p.1))
      (right_placed (of_form b) at left side (value_in (typed_form s b)) (value_of s b (form_placed s b))) (links_placed s side rest)
      (λ t ls v w. most_both (of_form b) (λ o. links_at o rest) n (in_term t) (in_links ls) v.most w (λ o. omega arith))

  zone_placed : (s : AnnotationSight) (q : MemoryQuestion) (at : Place) (z : FormZone) → Gives (ZoneMost (λ o. zone_at o z)) (typed_zone s q at z)
  zone_placed s q at (read.Object a) =
      gives_one (Placed (of_form a)) (ZoneMost (of_form a)) (value_in (typed_form s a)) (object_zone s.here q at) (value_of s a (form_placed s a)) (object_placed_zone (of_form a) s.here q at)
  zone_placed s q at (read.Elements plus a lo hi) =
      let n : Count = λ o. zone_at o (read.Elements plus a lo hi) in
      gives_pair (Placed (of_form a)) (Both s lo hi) (ZoneMost n) (value_in (typed_form s a)) (pair_of (value_in (typed_form s lo)) (value_in (typed_form s hi)))
      (λ p. elements_zone s.here q plus p.0 (p.1).0 (p.1).1) (value_of s a (form_placed s a)) (pair_placed s lo hi (form_placed s lo) (form_placed s hi))
      (λ x p u w. elements_placed n plus (of_form a) (of_form lo) (of_form hi) (covers_itself plus (both (of_form a) (both (of_form lo) (of_form hi)))) s.here q x p.0 p.1 u w.0 w.1)

  zones_placed : (s : AnnotationSight) (at : Place) (zs : FormZones) → Gives (ZonesMost (λ o. zones_at o zs)) (typed_zones s at zs)
  zones_placed s at read.NoZone = λ o. omega arith
  zones_placed s at (read.Another z rest) =
      gives_pair (ZoneMost (λ o. zone_at o z)) (ZonesMost (λ o. zones_at o rest)) (ZonesMost (λ o. zones_at o (read.Another z rest))) (typed_zone s ValidRead at z) (typed_zones s at rest) (λ p. Good (Another p.0 p.1))
      (zone_placed s ValidRead at z) (zones_placed s at rest)
      (λ y ys v w. most_both (λ o. zone_at o z) (λ o. zones_at o rest) (λ o. zones_at o (read.Another z rest)) (in_zone y) (in_zones ys) v w (λ o. omega arith))

-- ---- clauses

clause_holds_placed : (n : Count) (a : Sorted) → Placed n a → Gives (PredicateMost n) (clause_holds a)
clause_holds_placed n (ATerm t) w = holds_placed n (place_of_term t) t w
clause_holds_placed n (APredicate p) w = w
clause_holds_placed n (APlace t) w = holds_placed n (place_of_term t) t w

-- no more terms than the places of what was read
abbrev pub ClausePlaced : ClauseBody → ClauseBody → Type 0
ClausePlaced b d = (o : ℕ) → entries_at o (in_clause d) ≤ clause_at o b

variant_placed : (n : Count) (a : Sorted) → Placed n a → Gives (UpperPlaced n) (variant_value a)
variant_placed n (ATerm t) w = gives_where (UpperPlaced n) (is_integer (sort_of_term t)) (no_type (place_of_term t)) (Good t) (λ e. w.most)
variant_placed n (APredicate p) w = tt
variant_placed n (APlace t) w = gives_where (UpperPlaced n) (is_integer (sort_of_term t)) (no_type (place_of_term t)) (Good t) (λ e. w.most)

abbrev SaidPlaced : Count → ClauseBody → Type 0
SaidPlaced n b = Most n (in_clause b)

predicate_said : (n : Count) (a : Sorted) → Placed n a → Gives (SaidPlaced n) (one_part (clause_holds a) (λ p. Good (Holds p)))
predicate_said n a w = gives_one (PredicateMost n) (SaidPlaced n) (clause_holds a) (λ p. Good (Holds p)) (clause_holds_placed n a w) (λ p v. v)

said_placed : (n : Count) (k : Kind) (a : Sorted) → Placed n a → Gives (SaidPlaced n) (said k a)
said_placed n Variant a w = gives_one (UpperPlaced n) (SaidPlaced n) (variant_value a) (λ t. Good (Value t)) (variant_placed n a w) (λ t v. v)
said_placed n Assert a w = predicate_said n a w
said_placed n Requires a w = predicate_said n a w
said_placed n Assumes a w = predicate_said n a w
said_placed n Ensures a w = predicate_said n a w
said_placed n Complete a w = predicate_said n a w
said_placed n Disjoint a w = predicate_said n a w
said_placed n Invariant a w = predicate_said n a w
said_placed n Rte a w = predicate_said n a w

pub clause_placed : (s : AnnotationSight) (k : Kind) (b : ClauseBody) → IsRead b → Gives (ClausePlaced b) (typed_clause s k b)
clause_placed s k (Raw f) r = gives_one (Placed (of_form f)) (ClausePlaced (Raw f)) (value_in (typed_form s f)) (said k) (value_of s f (form_placed s f)) (said_placed (of_form f) k)
clause_placed s k (Holds p) r = absurd r
clause_placed s k (Value t) r = absurd r
clause_placed s k (Behaviors names) r = absurd r

abbrev pub AnnotationsPlaced : List Annotation → List Annotation → Type 0
AnnotationsPlaced a b = (o : ℕ) → entries_at o (in_annotations b) ≤ annotations_at o a

pub annotations_placed : (s : AnnotationSight) (annots : List Annotation) → AreRead annots → Gives (AnnotationsPlaced annots) (typed_annotations s annots)
annotations_placed s [] r = λ o. omega arith
annotations_placed s (a ∷ rest) r =
    gives_one (ClausePlaced a.body) (AnnotationsPlaced (a ∷ rest)) (typed_clause s a.kind a.body) (λ b. one_part (typed_annotations s rest) (λ rest. Good (record a { body = b } ∷ rest))) (clause_placed s a.kind a.body r.0) (λ b v.
    gives_one (AnnotationsPlaced rest) (AnnotationsPlaced (a ∷ rest)) (typed_annotations s rest) (λ rest. Good (record a { body = b } ∷ rest)) (annotations_placed s rest r.1)
    (λ more w. most_both (λ o. clause_at o a.body) (λ o. annotations_at o rest) (λ o. annotations_at o (a ∷ rest)) (in_clause b) (in_annotations more) v w (λ o. omega arith)))
