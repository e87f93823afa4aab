-- Each term at a label has no more tokens than the predicate in which it stands, and its numbers can be written as those can.
use Rattle.std.proofs.Common.{inl, inr, ◌≤◌, List, [], ◌∷◌, ◌++◌, arith, subst}
use Rattle.c_syntax.specs.declared.logic.Label.TheVariants.{Here, Pre, Marked}
use Rattle.c_syntax.specs.Logic.{LogicTerm, Number, Letter, Variable, Unary, Binary, Cast, Choice, Named, At, Null, Deref, Member, Address, Moved, Difference, Told}
use Rattle.c_syntax.specs.Logic.{Links, NoLink, Linked, Zone, Object, Elements, Zones, NoZone, Another, Predicate, Truth, NonZero, Chain, Not, Connected, Branch, Quantified, Asks, Separated}
use Rattle.c_syntax.specs.Logic.{Guards, NoGuard, Guarded}
use Rattle.c_model.specs.Formed.{TermNumbered, LinksNumbered, ZoneNumbered, ZonesNumbered, PredicateNumbered, GuardsNumbered, tokens_of_term, tokens_of_links, tokens_of_zone, tokens_of_zones, tokens_of_predicate, tokens_of_guards}
use Rattle.annot_simulation.specs.Plan.{Entry, IsIn, in_term, in_links, in_zone, in_zones, in_predicate, in_guards}

-- within the limit of a clause
pub record IsShortEntry (x : Entry) : Type 0 where
  pub numbered : TermNumbered x.1
  pub few : tokens_of_term x.1 ≤ 400

abbrev AllShort : List Entry → Type 0
AllShort xs = (x : Entry) → IsIn x xs → IsShortEntry x

none : AllShort []
none x i = absurd i

both : (xs ys : List Entry) → AllShort xs → AllShort ys → AllShort (xs ++ ys)
both [] ys f g x i = g x i
both (y ∷ xs) ys f g x (inl e) = f x (inl e)
both (y ∷ xs) ys f g x (inr i) = both xs ys (λ x i. f x (inr i)) g x i

three : (xs ys zs : List Entry) → AllShort xs → AllShort ys → AllShort zs → AllShort (xs ++ (ys ++ zs))
three xs ys zs f g h = both xs (ys ++ zs) f (both ys zs g h)

entry : (x : Entry) → TermNumbered x.1 → tokens_of_term x.1 ≤ 400 → AllShort (x ∷ [])
entry x n few y (inl e) = subst IsShortEntry e (record { numbered = n; few = few })
entry x n few y (inr i) = absurd i

mutual
  pub term_short : (t : LogicTerm) → TermNumbered t → tokens_of_term t ≤ 400 → AllShort (in_term t)
  term_short (Number at t r n) q few = none
  term_short (Letter at t r n) q few = none
  term_short (Variable at t r x) q few = none
  term_short (Unary at t r op a) q few = term_short a q (omega (arith, few))
  term_short (Binary at t r op a b) q few = both (in_term a) (in_term b) (term_short a q.0 (omega (arith, few))) (term_short b q.1 (omega (arith, few)))
  term_short (Cast at t r to a) q few = term_short a q (omega (arith, few))
  term_short (Choice at t r c a b) q few =
      three (in_predicate c) (in_term a) (in_term b) (predicate_short c q.0 (omega (arith, few))) (term_short a q.1 (omega (arith, few))) (term_short b q.2 (omega (arith, few)))
  term_short (Named at t r x) q few = none
  term_short (At at t r Here a) q few = term_short a q few
  term_short (At at t r Pre a) q few = entry _ q few
  term_short (At at t r (Marked l) a) q few = entry _ q few
  term_short (Null at t r) q few = none
  term_short (Deref at t r a) q few = term_short a q (omega (arith, few))
  term_short (Member at t r d a) q few = term_short a q (omega (arith, few))
  term_short (Address at t r a) q few = term_short a q (omega (arith, few))
  term_short (Moved at t r op n a b) q few = both (in_term a) (in_term b) (term_short a q.0 (omega (arith, few))) (term_short b q.1 (omega (arith, few)))
  term_short (Difference at t r n a b) q few = both (in_term a) (in_term b) (term_short a q.0 (omega (arith, few))) (term_short b q.1 (omega (arith, few)))
  term_short (Told at t r f a) q few = term_short a q (omega (arith, few))

  links_short : (l : Links) → LinksNumbered l → tokens_of_links l ≤ 400 → AllShort (in_links l)
  links_short NoLink q few = none
  links_short (Linked at r t rest) q few = both (in_term t) (in_links rest) (term_short t q.0 (omega (arith, few))) (links_short rest q.1 (omega (arith, few)))

  zone_short : (z : Zone) → ZoneNumbered z → tokens_of_zone z ≤ 400 → AllShort (in_zone z)
  zone_short (Object at n m a) q few = term_short a q few
  zone_short (Elements at n m a lo hi) q few =
      three (in_term a) (in_term lo) (in_term hi) (term_short a q.0 (omega (arith, few))) (term_short lo q.1 (omega (arith, few))) (term_short hi q.2 (omega (arith, few)))

  zones_short : (zs : Zones) → ZonesNumbered zs → tokens_of_zones zs ≤ 400 → AllShort (in_zones zs)
  zones_short NoZone q few = none
  zones_short (Another z rest) q few = both (in_zone z) (in_zones rest) (zone_short z q.0 (omega (arith, few))) (zones_short rest q.1 (omega (arith, few)))

  pub predicate_short : (p : Predicate) → PredicateNumbered p → tokens_of_predicate p ≤ 400 → AllShort (in_predicate p)
  predicate_short (Truth at b) q few = none
  predicate_short (NonZero at t) q few = term_short t q few
  predicate_short (Chain at t links) q few = both (in_term t) (in_links links) (term_short t q.0 (omega (arith, few))) (links_short links q.1 (omega (arith, few)))
  predicate_short (Not at p) q few = predicate_short p q (omega (arith, few))
  predicate_short (Connected at c p r) q few = both (in_predicate p) (in_predicate r) (predicate_short p q.0 (omega (arith, few))) (predicate_short r q.1 (omega (arith, few)))
  predicate_short (Branch at c p r) q few =
      three (in_predicate c) (in_predicate p) (in_predicate r) (predicate_short c q.0 (omega (arith, few))) (predicate_short p q.1 (omega (arith, few))) (predicate_short r q.2 (omega (arith, few)))
  predicate_short (Quantified at k gs p) q few = both (in_guards gs) (in_predicate p) (guards_short gs q.0 (omega (arith, few))) (predicate_short p q.1 (omega (arith, few)))
  predicate_short (Asks at f z) q few = zone_short z q (omega (arith, few))
  predicate_short (Separated at zs) q few = zones_short zs q (omega (arith, few))

  guards_short : (gs : Guards) → GuardsNumbered gs → tokens_of_guards gs ≤ 400 → AllShort (in_guards gs)
  guards_short NoGuard q few = none
  guards_short (Guarded a y ys below b rest) q few =
      three (in_term a) (in_term b) (in_guards rest) (term_short a q.0 (omega (arith, few))) (term_short b q.1 (omega (arith, few))) (guards_short rest q.2 (omega (arith, few)))
