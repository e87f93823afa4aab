-- What is known of annotations doesn't look at their ranges: it is the same without them.
use Rattle.std.proofs.Common.{◌≡◌, ℕ, suc, ◌+◌, ◌≤◌, ℤ, List, [], ◌∷◌, length, Option, Some, None, refl, ap, ◌∙◌, ◌⊎◌, sym, subst}
use Rattle.std.specs.Prelude.{true, false, ◌*◌}
use mathlib.Core.Path.{fun_ext}
use Rattle.c_syntax.specs.Ctypes.{PlainType, Ptr, Struct}
use Rattle.c_syntax.specs.Logic.{LogicTerm, Number, Letter, Variable, Unary, Binary, Cast, Choice, Named, Links, NoLink, Linked, Predicate, Truth, NonZero}
use Rattle.c_syntax.specs.Logic.{Chain, Not, Connected, Branch, Quantified, Guards, NoGuard, Guarded, ClauseBody, Raw, Holds, Value, Annotation, At}
use Rattle.c_syntax.specs.Logic.{Behaviors, Null, Deref, Member, Address, Moved, Difference, Told, Asks, Separated, Zone, Object, Elements, Zones, NoZone}
use Rattle.c_syntax.specs.Logic.{Another}
use Rattle.c_model.specs.State.{State, Evaluation, ◌>>=◌, ◌>>◌}
use Rattle.c_model.specs.Logic.{TermValue, Mathematical, Environment, Answer, Says, SaysNothing, OutOfSteps, judged, Addressed}
use Rattle.c_model.specs.Predicates.{term, clause, check_in, checks_in, checks, invariant, invariants, variant, variant_in, valued, value_of, is_smaller}
use Rattle.c_model.specs.Predicates.{compared}
use Rattle.c_model.specs.Meaning.{after_body, turn_with}
use Rattle.c_model.specs.AnnotationSights.{AnnotationSight, sight_at}
use Rattle.c_model.specs.PredicateTyping.{AnInteger, APointer, sort_of, type_of_term, told_type}
use Rattle.c_model.specs.TypedPredicates.{IsSize, IsExtent, IsAlignment, HasLink, IsOnInteger, IsCast, IsChoice, IsIntegerTerm, IsPointerTerm, IsPlace, IsZeroTerm, AreRelated, TermTyped, LinksTyped}
use Rattle.c_model.specs.TypedPredicates.{ZoneTyped, ZonesTyped, PredicateTyped, ClauseTyped, AnnotationsTyped}
use Rattle.c_model.specs.Formed.{level_of, parentheses_around, operator_of_term, tokens_of_term, tokens_of_links, tokens_of_predicate, tokens_of_guards, TermNumbered, LinksNumbered, PredicateNumbered}
use Rattle.c_model.specs.Formed.{GuardsNumbered, IsShortPredicate, IsShortClause, IsAssert, AreAsserts, tokens_of_zone, tokens_of_zones, ZoneNumbered}
use Rattle.c_model.specs.Formed.{ZonesNumbered}
use Rattle.c_syntax.specs.declared.place.Place.{Place}
use Rattle.c_syntax.specs.declared.annotation.Kind.{Kind}
use Rattle.c_model.specs.QuietPredicates.{IsQuiet}
use Rattle.c_model.specs.AnnotationSights.{with_binders}
use Rattle.c_model.specs.TypedPredicates.{AreBinders, GuardsTyped}
use Rattle.c_model.specs.Formed.{IsLoopKind, IsLoopClause, AreLoopClauses}
use Rattle.c_model.specs.Unranged.{unranged_term, unranged_links, unranged_pred, unranged_guards, unranged_clause, unranged_annotations, unranged_zone}
use Rattle.c_model.specs.Unranged.{unranged_zones}
use Rattle.c_model.proofs.RangedTrees.{value_kept, answer_kept}

-- ---- types that have the same values

pub record Alike (A B : Type 0) : Type 0 where
  pub to : A → B
  pub from : B → A

pub alike : {A B : Type 0} → A ≡ B → Alike A B
alike e = record { to = subst (λ (X : Type 0). X) e; from = subst (λ (X : Type 0). X) (sym e) }

pub itself : {A : Type 0} → Alike A A
itself = record { to = λ h. h; from = λ h. h }

pub beside : {A B C D : Type 0} → Alike A B → Alike C D → Alike (A × C) (B × D)
beside h k = record { to = λ x. (h.to x.0, k.to x.1); from = λ x. (h.from x.0, k.from x.1) }

-- ---- typing

type_kept : (t : LogicTerm) → type_of_term (unranged_term t) ≡ type_of_term t
type_kept (Number at c r n) = refl
type_kept (Letter at c r n) = refl
type_kept (Variable at c r x) = refl
type_kept (Unary at c r op a) = refl
type_kept (Binary at c r op a b) = refl
type_kept (Cast at c r to a) = refl
type_kept (Choice at c r p a b) = refl
type_kept (Named at c r x) = refl
type_kept (At at c r l a) = refl
type_kept (Null at c r) = refl
type_kept (Deref at c r a) = refl
type_kept (Member at c r d a) = refl
type_kept (Address at c r a) = refl
type_kept (Moved at c r op n a b) = refl
type_kept (Difference at c r n a b) = refl
type_kept (Told at c r f a) = refl

place_kept : (t : LogicTerm) → IsPlace (unranged_term t) ≡ IsPlace t
place_kept (Number at c r n) = refl
place_kept (Letter at c r n) = refl
place_kept (Variable at c r x) = refl
place_kept (Unary at c r op a) = refl
place_kept (Binary at c r op a b) = refl
place_kept (Cast at c r to a) = refl
place_kept (Choice at c r p a b) = refl
place_kept (Named at c r x) = refl
place_kept (At at c r l a) = refl
place_kept (Null at c r) = refl
place_kept (Deref at c r a) = refl
place_kept (Member at c r d a) = refl
place_kept (Address at c r a) = refl
place_kept (Moved at c r op n a b) = refl
place_kept (Difference at c r n a b) = refl
place_kept (Told at c r f a) = refl

zero_kept : (t : LogicTerm) → IsZeroTerm (unranged_term t) ≡ IsZeroTerm t
zero_kept (Number at c r n) = refl
zero_kept (Letter at c r n) = refl
zero_kept (Variable at c r x) = refl
zero_kept (Unary at c r op a) = refl
zero_kept (Binary at c r op a b) = refl
zero_kept (Cast at c r to a) = refl
zero_kept (Choice at c r p a b) = refl
zero_kept (Named at c r x) = refl
zero_kept (At at c r l a) = refl
zero_kept (Null at c r) = refl
zero_kept (Deref at c r a) = refl
zero_kept (Member at c r d a) = refl
zero_kept (Address at c r a) = refl
zero_kept (Moved at c r op n a b) = refl
zero_kept (Difference at c r n a b) = refl
zero_kept (Told at c r f a) = refl

integer_kept : (t : LogicTerm) → IsIntegerTerm (unranged_term t) ≡ IsIntegerTerm t
integer_kept t i = sort_of (type_kept t i) ≡ AnInteger

pointer_kept : (t : LogicTerm) → IsPointerTerm (unranged_term t) ≡ IsPointerTerm t
pointer_kept t i = (u : PlainType) × (sort_of (type_kept t i) ≡ APointer u)

link_kept : (links : Links) → HasLink (unranged_links links) ≡ HasLink links
link_kept NoLink = refl
link_kept (Linked at r t rest) = refl

related_kept : (a b : LogicTerm) → AreRelated (unranged_term a) (unranged_term b) ≡ AreRelated a b
related_kept a b i =
    (integer_kept a i × integer_kept b i) ⊎ (pointer_kept a i × pointer_kept b i) ⊎ (pointer_kept a i × zero_kept b i) ⊎ (zero_kept a i × pointer_kept b i)

quiet_kept : (p : Predicate) → IsQuiet (unranged_pred p) ≡ IsQuiet p
quiet_kept (Truth at b) = refl
quiet_kept (NonZero at t) = refl
quiet_kept (Chain at t links) = refl
quiet_kept (Not at p) = quiet_kept p
quiet_kept (Connected at c p q) = λ i. quiet_kept p i × quiet_kept q i
quiet_kept (Branch at c p q) = λ i. quiet_kept c i × quiet_kept p i × quiet_kept q i
quiet_kept (Quantified at q gs p) = refl
quiet_kept (Asks at f z) = refl
quiet_kept (Separated at zs) = refl

mutual
  term_typed : (s : AnnotationSight) (t : LogicTerm) → TermTyped s (unranged_term t) ≡ TermTyped s t
  term_typed s (Number at c r n) = refl
  term_typed s (Letter at c r n) = refl
  term_typed s (Variable at c r x) = refl
  term_typed s (Unary at c r op a) = λ i. (c ≡ None) × IsOnInteger op × integer_kept a i × term_typed s a i
  term_typed s (Binary at c r op a b) = λ i. (c ≡ None) × integer_kept a i × integer_kept b i × term_typed s a i × term_typed s b i
  term_typed s (Cast at c r to a) = λ i. IsCast c to (sort_of (type_kept a i)) × term_typed s a i
  term_typed s (Choice at c r p a b) = λ i. IsChoice c (sort_of (type_kept a i)) (sort_of (type_kept b i)) × quiet_kept p i × predicate_typed s p i × term_typed s a i × term_typed s b i
  term_typed s (Named at c r x) = refl
  term_typed s (At at c r l a) = λ i. (u : AnnotationSight) × (sight_at s l ≡ Some u) × (c ≡ type_kept a i) × term_typed u a i
  term_typed s (Null at c r) = refl
  term_typed s (Deref at c r a) = λ i. (u : PlainType) × (c ≡ Some u) × (sort_of (type_kept a i) ≡ APointer u) × term_typed s a i
  term_typed s (Member at c r d a) = λ i. (u : PlainType) × (c ≡ Some u) × (n : ℕ) × (type_kept a i ≡ Some (Struct n)) × place_kept a i × term_typed s a i × IsExtent d
  term_typed s (Address at c r a) = λ i. (u : PlainType) × (c ≡ Some (Ptr u)) × (type_kept a i ≡ Some u) × place_kept a i × term_typed s a i
  term_typed s (Moved at c r op n a b) = λ i. (u : PlainType) × (c ≡ Some (Ptr u)) × (sort_of (type_kept a i) ≡ APointer u) × integer_kept b i × term_typed s a i × term_typed s b i × IsSize n
  term_typed s (Difference at c r n a b) = λ i. (c ≡ None) × pointer_kept a i × pointer_kept b i × term_typed s a i × term_typed s b i × IsSize n
  term_typed s (Told at c r f a) = λ i. (c ≡ told_type f) × pointer_kept a i × term_typed s a i

  links_typed : (s : AnnotationSight) (a : LogicTerm) (l : Links) → LinksTyped s (unranged_term a) (unranged_links l) ≡ LinksTyped s a l
  links_typed s a NoLink = refl
  links_typed s a (Linked at r t rest) = λ i. related_kept a t i × term_typed s t i × links_typed s t rest i

  zone_typed : (s : AnnotationSight) (z : Zone) → ZoneTyped s (unranged_zone z) ≡ ZoneTyped s z
  zone_typed s (Object at n m a) = λ i. pointer_kept a i × term_typed s a i × IsSize n × IsAlignment m
  zone_typed s (Elements at n m a lo hi) = λ i. pointer_kept a i × integer_kept lo i × integer_kept hi i × term_typed s a i × term_typed s lo i × term_typed s hi i × IsSize n × IsAlignment m

  zones_typed : (s : AnnotationSight) (zs : Zones) → ZonesTyped s (unranged_zones zs) ≡ ZonesTyped s zs
  zones_typed s NoZone = refl
  zones_typed s (Another z rest) = λ i. zone_typed s z i × zones_typed s rest i

  predicate_typed : (s : AnnotationSight) (p : Predicate) → PredicateTyped s (unranged_pred p) ≡ PredicateTyped s p
  predicate_typed s (Truth at b) = refl
  predicate_typed s (NonZero at t) = λ i. integer_kept t i × term_typed s t i
  predicate_typed s (Chain at t links) = λ i. term_typed s t i × links_typed s t links i × link_kept links i
  predicate_typed s (Not at p) = predicate_typed s p
  predicate_typed s (Connected at c p q) = λ i. predicate_typed s p i × predicate_typed s q i
  predicate_typed s (Branch at c p q) = λ i. predicate_typed s c i × predicate_typed s p i × predicate_typed s q i
  predicate_typed s (Quantified at q gs p) = guards_typed s gs (λ u. PredicateTyped u (unranged_pred p)) (λ u. PredicateTyped u p) (λ u. predicate_typed u p)
  predicate_typed s (Asks at f z) = zone_typed s z
  predicate_typed s (Separated at zs) = zones_typed s zs

  guards_typed : (s : AnnotationSight) (gs : Guards) (P Q : AnnotationSight → Type 0) → ((u : AnnotationSight) → P u ≡ Q u) → GuardsTyped s (unranged_guards gs) P ≡ GuardsTyped s gs Q
  guards_typed s NoGuard P Q same = same s
  guards_typed s (Guarded a y ys below b rest) P Q same = λ i.
      integer_kept a i × integer_kept b i × term_typed s a i × term_typed s b i
      × (bs : List (Place × ℕ)) × AreBinders (y ∷ ys) bs × guards_typed (with_binders s bs) rest P Q same i

pub clause_typed : (s : AnnotationSight) (b : ClauseBody) → ClauseTyped s (unranged_clause b) ≡ ClauseTyped s b
clause_typed s (Raw f) = refl
clause_typed s (Holds p) = predicate_typed s p
clause_typed s (Value t) = λ i. integer_kept t i × term_typed s t i
clause_typed s (Behaviors names) = refl

pub annotations_typed : (s : AnnotationSight) (xs : List Annotation) → AnnotationsTyped s (unranged_annotations xs) ≡ AnnotationsTyped s xs
annotations_typed s [] = refl
annotations_typed s (a ∷ rest) = λ i. clause_typed s a.body i × annotations_typed s rest i

-- ---- sizes and numbers

term_operator : (t : LogicTerm) → operator_of_term (unranged_term t) ≡ operator_of_term t
term_operator (Number at c r n) = refl
term_operator (Letter at c r n) = refl
term_operator (Variable at c r x) = refl
term_operator (Unary at c r op a) = refl
term_operator (Binary at c r op a b) = refl
term_operator (Cast at c r to a) = refl
term_operator (Choice at c r p a b) = refl
term_operator (Named at c r x) = refl
term_operator (At at c r l a) = refl
term_operator (Null at c r) = refl
term_operator (Deref at c r a) = refl
term_operator (Member at c r d a) = refl
term_operator (Address at c r a) = refl
term_operator (Moved at c r op n a b) = refl
term_operator (Difference at c r n a b) = refl
term_operator (Told at c r f a) = refl

mutual
  term_tokens : (t : LogicTerm) → tokens_of_term (unranged_term t) ≡ tokens_of_term t
  term_tokens (Number at c r n) = refl
  term_tokens (Letter at c r n) = refl
  term_tokens (Variable at c r x) = refl
  term_tokens (Unary at c r op a) = ap suc (term_tokens a)
  term_tokens (Binary at c r op a b) = λ i. suc (term_tokens a i + term_tokens b i + parentheses_around (level_of op) (term_operator b i))
  term_tokens (Cast at c r to a) = ap suc (term_tokens a)
  term_tokens (Choice at c r p a b) = λ i. suc (predicate_tokens p i + term_tokens a i + term_tokens b i)
  term_tokens (Named at c r x) = refl
  term_tokens (At at c r l a) = term_tokens a
  term_tokens (Null at c r) = refl
  term_tokens (Deref at c r a) = ap suc (term_tokens a)
  term_tokens (Member at c r d a) = ap suc (term_tokens a)
  term_tokens (Address at c r a) = ap suc (term_tokens a)
  term_tokens (Moved at c r op n a b) = λ i. suc (term_tokens a i + term_tokens b i)
  term_tokens (Difference at c r n a b) = λ i. suc (term_tokens a i + term_tokens b i)
  term_tokens (Told at c r f a) = ap suc (term_tokens a)

  zone_tokens : (z : Zone) → tokens_of_zone (unranged_zone z) ≡ tokens_of_zone z
  zone_tokens (Object at n m a) = term_tokens a
  zone_tokens (Elements at n m a lo hi) = λ i. suc (term_tokens a i + term_tokens lo i + term_tokens hi i)

  zones_tokens : (zs : Zones) → tokens_of_zones (unranged_zones zs) ≡ tokens_of_zones zs
  zones_tokens NoZone = refl
  zones_tokens (Another z rest) = λ i. suc (zone_tokens z i + zones_tokens rest i)

  links_tokens : (l : Links) → tokens_of_links (unranged_links l) ≡ tokens_of_links l
  links_tokens NoLink = refl
  links_tokens (Linked at r t rest) = λ i. suc (term_tokens t i + links_tokens rest i)

  predicate_tokens : (p : Predicate) → tokens_of_predicate (unranged_pred p) ≡ tokens_of_predicate p
  predicate_tokens (Truth at b) = refl
  predicate_tokens (NonZero at t) = term_tokens t
  predicate_tokens (Chain at t links) = λ i. term_tokens t i + links_tokens links i
  predicate_tokens (Not at p) = ap suc (predicate_tokens p)
  predicate_tokens (Connected at c p q) = λ i. suc (predicate_tokens p i + predicate_tokens q i)
  predicate_tokens (Branch at c p q) = λ i. suc (predicate_tokens c i + predicate_tokens p i + predicate_tokens q i)
  predicate_tokens (Quantified at q gs p) = λ i. suc (guards_tokens gs i + predicate_tokens p i)
  predicate_tokens (Asks at f z) = ap suc (zone_tokens z)
  predicate_tokens (Separated at zs) = ap suc (zones_tokens zs)

  guards_tokens : (gs : Guards) → tokens_of_guards (unranged_guards gs) ≡ tokens_of_guards gs
  guards_tokens NoGuard = refl
  guards_tokens (Guarded a y ys below b rest) = λ i. 2 * length (y ∷ ys) + term_tokens a i + term_tokens b i + guards_tokens rest i

mutual
  term_numbered : (t : LogicTerm) → TermNumbered (unranged_term t) ≡ TermNumbered t
  term_numbered (Number at c r n) = refl
  term_numbered (Letter at c r n) = refl
  term_numbered (Variable at c r x) = refl
  term_numbered (Unary at c r op a) = term_numbered a
  term_numbered (Binary at c r op a b) = λ i. term_numbered a i × term_numbered b i
  term_numbered (Cast at c r to a) = term_numbered a
  term_numbered (Choice at c r p a b) = λ i. predicate_numbered p i × term_numbered a i × term_numbered b i
  term_numbered (Named at c r x) = refl
  term_numbered (At at c r l a) = term_numbered a
  term_numbered (Null at c r) = refl
  term_numbered (Deref at c r a) = term_numbered a
  term_numbered (Member at c r d a) = term_numbered a
  term_numbered (Address at c r a) = term_numbered a
  term_numbered (Moved at c r op n a b) = λ i. term_numbered a i × term_numbered b i
  term_numbered (Difference at c r n a b) = λ i. term_numbered a i × term_numbered b i
  term_numbered (Told at c r f a) = term_numbered a

  zone_numbered : (z : Zone) → ZoneNumbered (unranged_zone z) ≡ ZoneNumbered z
  zone_numbered (Object at n m a) = term_numbered a
  zone_numbered (Elements at n m a lo hi) = λ i. term_numbered a i × term_numbered lo i × term_numbered hi i

  zones_numbered : (zs : Zones) → ZonesNumbered (unranged_zones zs) ≡ ZonesNumbered zs
  zones_numbered NoZone = refl
  zones_numbered (Another z rest) = λ i. zone_numbered z i × zones_numbered rest i

  links_numbered : (l : Links) → LinksNumbered (unranged_links l) ≡ LinksNumbered l
  links_numbered NoLink = refl
  links_numbered (Linked at r t rest) = λ i. term_numbered t i × links_numbered rest i

  predicate_numbered : (p : Predicate) → PredicateNumbered (unranged_pred p) ≡ PredicateNumbered p
  predicate_numbered (Truth at b) = refl
  predicate_numbered (NonZero at t) = term_numbered t
  predicate_numbered (Chain at t links) = λ i. term_numbered t i × links_numbered links i
  predicate_numbered (Not at p) = predicate_numbered p
  predicate_numbered (Connected at c p q) = λ i. predicate_numbered p i × predicate_numbered q i
  predicate_numbered (Branch at c p q) = λ i. predicate_numbered c i × predicate_numbered p i × predicate_numbered q i
  predicate_numbered (Quantified at q gs p) = λ i. guards_numbered gs i × predicate_numbered p i
  predicate_numbered (Asks at f z) = zone_numbered z
  predicate_numbered (Separated at zs) = zones_numbered zs

  guards_numbered : (gs : Guards) → GuardsNumbered (unranged_guards gs) ≡ GuardsNumbered gs
  guards_numbered NoGuard = refl
  guards_numbered (Guarded a y ys below b rest) = λ i. term_numbered a i × term_numbered b i × guards_numbered rest i

predicate_short : (p : Predicate) → Alike (IsShortPredicate (unranged_pred p)) (IsShortPredicate p)
predicate_short p = record {
  to = λ h. record { numbered = (alike (predicate_numbered p)).to h.numbered; short = subst (λ n. n ≤ 400) (predicate_tokens p) h.short };
  from = λ h. record { numbered = (alike (predicate_numbered p)).from h.numbered; short = subst (λ n. n ≤ 400) (sym (predicate_tokens p)) h.short };
}

pub clause_short : (b : ClauseBody) → Alike (IsShortClause (unranged_clause b)) (IsShortClause b)
clause_short (Raw f) = itself
clause_short (Holds p) = predicate_short p
clause_short (Value t) = record {
  to = λ h. ((alike (term_numbered t)).to h.0, subst (λ n. n ≤ 400) (term_tokens t) h.1);
  from = λ h. ((alike (term_numbered t)).from h.0, subst (λ n. n ≤ 400) (sym (term_tokens t)) h.1);
}
clause_short (Behaviors names) = itself

is_assert : (a : Annotation) → Alike (IsAssert (record a { body = unranged_clause a.body })) (IsAssert a)
is_assert a = record {
  to = λ h. record { kind = h.kind; body = (clause_short a.body).to h.body };
  from = λ h. record { kind = h.kind; body = (clause_short a.body).from h.body };
}

pub are_asserts : (xs : List Annotation) → Alike (AreAsserts (unranged_annotations xs)) (AreAsserts xs)
are_asserts [] = itself
are_asserts (a ∷ rest) = beside (is_assert a) (are_asserts rest)

loop_kind : (b : ClauseBody) (k : Kind) → Alike (IsLoopKind (unranged_clause b) k) (IsLoopKind b k)
loop_kind (Raw f) k = itself
loop_kind (Holds p) k = itself
loop_kind (Value t) k = itself
loop_kind (Behaviors names) k = itself

is_loop : (a : Annotation) → Alike (IsLoopClause (record a { body = unranged_clause a.body })) (IsLoopClause a)
is_loop a = record {
  to = λ h. record { kind = (loop_kind a.body a.kind).to h.kind; body = (clause_short a.body).to h.body };
  from = λ h. record { kind = (loop_kind a.body a.kind).from h.kind; body = (clause_short a.body).from h.body };
}

pub are_loops : (xs : List Annotation) → Alike (AreLoopClauses (unranged_annotations xs)) (AreLoopClauses xs)
are_loops [] = itself
are_loops (a ∷ rest) = beside (is_loop a) (are_loops rest)

-- ---- meaning

pub same_judged : (a : Annotation) (b : ClauseBody) (x : Answer) (s : State) → judged (record a { body = b }) x s ≡ judged a x s
same_judged a b (Says true n) s = refl
same_judged a b (Says false n) s = refl
same_judged a b (SaysNothing n) s = refl
same_judged a b OutOfSteps s = refl

pub same_clause : (b : ClauseBody) (s : State) (e : Environment) (n : ℕ) → clause (unranged_clause b) s e n ≡ clause b s e n
same_clause (Raw f) s e n = refl
same_clause (Holds p) s e n = answer_kept p s e n
same_clause (Value t) s e n = refl
same_clause (Behaviors names) s e n = refl

pub same_check : (e : Environment) (a : Annotation) (s : State) → check_in e (record a { body = unranged_clause a.body }) s ≡ check_in e a s
same_check e a s = same_judged a (unranged_clause a.body) (clause (unranged_clause a.body) s e s.steps) s ∙ ap (λ x. judged a x s) (same_clause a.body s e s.steps)

pub same_checks_in : (e : Environment) (xs : List Annotation) → checks_in e (unranged_annotations xs) ≡ checks_in e xs
same_checks_in e [] = refl
same_checks_in e (a ∷ rest) = λ i. fun_ext (same_check e a) i >> same_checks_in e rest i

pub same_checks : (xs : List Annotation) → checks (unranged_annotations xs) ≡ checks xs
same_checks = same_checks_in []

-- ---- annotations of loops

same_invariant : (a : Annotation) (b : ClauseBody) → invariant (record a { body = unranged_clause a.body }) (unranged_clause b) ≡ invariant a b
same_invariant a (Raw f) = fun_ext (same_check [] a)
same_invariant a (Holds p) = fun_ext (same_check [] a)
same_invariant a (Value t) = refl
same_invariant a (Behaviors names) = fun_ext (same_check [] a)

pub same_invariants : (xs : List Annotation) → invariants (unranged_annotations xs) ≡ invariants xs
same_invariants [] = refl
same_invariants (a ∷ rest) = λ i. same_invariant a a.body i >> same_invariants rest i

same_valued : (a : Annotation) (b : ClauseBody) (o : Option TermValue) (s : State) → valued (record a { body = b }) o s ≡ valued a o s
same_valued a b None s = refl
same_valued a b (Some (Addressed x)) s = refl
same_valued a b (Some (Mathematical z)) s = refl

same_value : (a : Annotation) (b : ClauseBody) (t : LogicTerm) (s : State) → value_of (record a { body = b }) (unranged_term t) s ≡ value_of a t s
same_value a b t s = same_valued a b (term (unranged_term t) s []) s ∙ ap (λ o. valued a o s) (value_kept t s [])

same_compared : (a : Annotation) (b : ClauseBody) (old new : ℤ) (s : State) → compared (record a { body = b }) old new s ≡ compared a old new s
same_compared a b old new s = same_judged a b (Says (is_smaller old new) s.steps) s

pub same_turn : (xs : List Annotation) (body behind again : Evaluation (Unit {0})) → turn_with (variant (unranged_annotations xs)) body behind again ≡ turn_with (variant xs) body behind again
same_turn [] body behind again = refl
same_turn (a ∷ rest) body behind again = by a.body (same_turn rest body behind again)
  where
    by : (b : ClauseBody) → turn_with (variant (unranged_annotations rest)) body behind again ≡ turn_with (variant rest) body behind again
        → turn_with (variant_in (record a { body = unranged_clause a.body }) (unranged_clause b) (variant (unranged_annotations rest))) body behind again ≡ turn_with (variant_in a b (variant rest)) body behind again
    by (Raw f) h = h
    by (Holds p) h = h
    by (Behaviors names) h = h
    by (Value t) h = λ i.
        let value = fun_ext (same_value a (unranged_clause a.body) t) i in
        value >>= λ old. λ s. after_body (body s) (behind >> (value >>= λ new. fun_ext (same_compared a (unranged_clause a.body) old new) i) >> again)
