-- Ours: the inference of ranges changes nothing but ranges.
-- Terms and predicates of annotations (ACSL 2.2) without the ranges that they keep.
use Rattle.std.specs.Prelude.{◌≡◌, ℕ, pos, List, [], ◌∷◌}
use Rattle.c_syntax.specs.declared.annotation.Range.{Range}
use Rattle.c_syntax.specs.Logic.{LogicTerm, Number, Letter, Variable, Unary, Binary, Cast, Choice, Named, Links, NoLink, Linked, Predicate, Truth, NonZero}
use Rattle.c_syntax.specs.Logic.{Chain, Not, Connected, Branch, Quantified, Guards, NoGuard, Guarded, ClauseBody, Raw, Holds, Value, Annotation, At}
use Rattle.c_syntax.specs.Logic.{Behaviors, Null, Deref, Member, Address, Moved, Difference, Told, Asks, Separated, Zone, Object, Elements, Zones, NoZone}
use Rattle.c_syntax.specs.Logic.{Another}
use Rattle.c_model.specs.Checked.{Good}
use Rattle.c_model.specs.Ranges.{from_to}
use Rattle.c_model.specs.State.{State}
use Rattle.c_model.specs.Logic.{Environment}
use Rattle.c_model.specs.Predicates.{term, pred}
use Rattle.c_model.specs.TermRanges.{Seen, ranged_term, ranged_pred, ranged_annotations, TermRanged, LinksRanged, PredicateRanged, ZoneRanged, ZonesRanged}

-- the range of a term before the inference
abbrev pub unknown_range : Range
unknown_range = from_to (pos 0) (pos 0)

abbrev mutual
  pub unranged_term : LogicTerm → LogicTerm
  unranged_term (Number at t r n) = Number at t unknown_range n
  unranged_term (Letter at t r n) = Letter at t unknown_range n
  unranged_term (Variable at t r x) = Variable at t unknown_range x
  unranged_term (Unary at t r op a) = Unary at t unknown_range op (unranged_term a)
  unranged_term (Binary at t r op a b) = Binary at t unknown_range op (unranged_term a) (unranged_term b)
  unranged_term (Cast at t r to a) = Cast at t unknown_range to (unranged_term a)
  unranged_term (Choice at t r c a b) = Choice at t unknown_range (unranged_pred c) (unranged_term a) (unranged_term b)
  unranged_term (Named at t r x) = Named at t unknown_range x
  unranged_term (At at t r l a) = At at t unknown_range l (unranged_term a)
  unranged_term (Null at t r) = Null at t unknown_range
  unranged_term (Deref at t r a) = Deref at t unknown_range (unranged_term a)
  unranged_term (Member at t r d a) = Member at t unknown_range d (unranged_term a)
  unranged_term (Address at t r a) = Address at t unknown_range (unranged_term a)
  unranged_term (Moved at t r op n a b) = Moved at t unknown_range op n (unranged_term a) (unranged_term b)
  unranged_term (Difference at t r n a b) = Difference at t unknown_range n (unranged_term a) (unranged_term b)
  unranged_term (Told at t r f a) = Told at t unknown_range f (unranged_term a)

  pub unranged_zone : Zone → Zone
  unranged_zone (Object at n m a) = Object at n m (unranged_term a)
  unranged_zone (Elements at n m a lo hi) = Elements at n m (unranged_term a) (unranged_term lo) (unranged_term hi)

  pub unranged_zones : Zones → Zones
  unranged_zones NoZone = NoZone
  unranged_zones (Another z rest) = Another (unranged_zone z) (unranged_zones rest)

  pub unranged_links : Links → Links
  unranged_links NoLink = NoLink
  unranged_links (Linked at r t rest) = Linked at r (unranged_term t) (unranged_links rest)

  pub unranged_pred : Predicate → Predicate
  unranged_pred (Truth at b) = Truth at b
  unranged_pred (NonZero at t) = NonZero at (unranged_term t)
  unranged_pred (Chain at t links) = Chain at (unranged_term t) (unranged_links links)
  unranged_pred (Not at p) = Not at (unranged_pred p)
  unranged_pred (Connected at c p q) = Connected at c (unranged_pred p) (unranged_pred q)
  unranged_pred (Branch at c p q) = Branch at (unranged_pred c) (unranged_pred p) (unranged_pred q)
  unranged_pred (Quantified at q gs p) = Quantified at q (unranged_guards gs) (unranged_pred p)
  unranged_pred (Asks at f z) = Asks at f (unranged_zone z)
  unranged_pred (Separated at zs) = Separated at (unranged_zones zs)

  pub unranged_guards : Guards → Guards
  unranged_guards NoGuard = NoGuard
  unranged_guards (Guarded a y ys below b rest) = Guarded (unranged_term a) y ys below (unranged_term b) (unranged_guards rest)

abbrev pub unranged_clause : ClauseBody → ClauseBody
unranged_clause (Raw f) = Raw f
unranged_clause (Holds p) = Holds (unranged_pred p)
unranged_clause (Value t) = Value (unranged_term t)
unranged_clause (Behaviors names) = Behaviors names

abbrev pub unranged_annotations : List Annotation → List Annotation
unranged_annotations [] = []
unranged_annotations (a ∷ rest) = record a { body = unranged_clause a.body } ∷ unranged_annotations rest

-- each clause that is a predicate keeps the range of each of its terms, with these names in sight
abbrev pub ClauseRanged : Seen → ClauseBody → Type 0
ClauseRanged seen (Raw f) = Unit {0}
ClauseRanged seen (Holds p) = PredicateRanged seen p
ClauseRanged seen (Value t) = TermRanged seen t
ClauseRanged seen (Behaviors names) = Unit {0}

abbrev pub AnnotationsRanged : Seen → List Annotation → Type 0
AnnotationsRanged seen [] = Unit {0}
AnnotationsRanged seen (a ∷ rest) = ClauseRanged seen a.body × AnnotationsRanged seen rest

-- the second tree is the first one with ranges, each of which is right
pub record IsRangedTerm (n : Seen) (t u : LogicTerm) : Type 0 where
  pub ranged : TermRanged n u
  pub same : unranged_term u ≡ unranged_term t

pub record AreRangedLinks (n : Seen) (l m : Links) : Type 0 where
  pub ranged : LinksRanged n m
  pub same : unranged_links m ≡ unranged_links l

pub record IsRangedZone (seen : Seen) (y z : Zone) : Type 0 where
  pub ranged : ZoneRanged seen z
  pub same : unranged_zone z ≡ unranged_zone y

pub record AreRangedZones (seen : Seen) (ys zs : Zones) : Type 0 where
  pub ranged : ZonesRanged seen zs
  pub same : unranged_zones zs ≡ unranged_zones ys

pub record IsRangedPredicate (n : Seen) (p q : Predicate) : Type 0 where
  pub ranged : PredicateRanged n q
  pub same : unranged_pred q ≡ unranged_pred p

pub record IsRangedClause (seen : Seen) (b c : ClauseBody) : Type 0 where
  pub ranged : ClauseRanged seen c
  pub same : unranged_clause c ≡ unranged_clause b

pub record AreRangedAnnotations (seen : Seen) (xs ys : List Annotation) : Type 0 where
  pub ranged : AnnotationsRanged seen ys
  pub same : unranged_annotations ys ≡ unranged_annotations xs

-- ---- the laws

abbrev pub RangingKeepsTerms : Type 0
RangingKeepsTerms = (n : Seen) (t u : LogicTerm) → ranged_term n t ≡ Good u → IsRangedTerm n t u

abbrev pub RangingKeepsPredicates : Type 0
RangingKeepsPredicates = (n : Seen) (p q : Predicate) → ranged_pred n p ≡ Good q → IsRangedPredicate n p q

abbrev pub RangingKeepsAnnotations : Type 0
RangingKeepsAnnotations = (seen : Seen) (xs ys : List Annotation) → ranged_annotations seen xs ≡ Good ys → AreRangedAnnotations seen xs ys

abbrev pub RangesKeepValues : Type 0
RangesKeepValues = (t : LogicTerm) (s : State) (e : Environment) → term (unranged_term t) s e ≡ term t s e

abbrev pub RangesKeepAnswers : Type 0
RangesKeepAnswers = (p : Predicate) (s : State) (e : Environment) (n : ℕ) → pred (unranged_pred p) s e n ≡ pred p s e n
