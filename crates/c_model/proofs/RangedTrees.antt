-- A tree with ranges is the same tree but for its ranges, each of which is right.
use Rattle.std.proofs.Common.{◌≡◌, ℕ, List, [], ◌∷◌, Option, Some, refl, ap, ◌∙◌}
use Rattle.std.specs.Prelude.{pos, true, false, option_map}
use mathlib.Core.Path.{fun_ext}
use Rattle.c_syntax.specs.declared.place.Place.{Place}
use Rattle.c_syntax.specs.declared.annotation.Range.{Range}
use Rattle.c_syntax.specs.declared.annotation.Relation.{Relation}
use Rattle.c_syntax.specs.declared.annotation.Relation.TheVariants.{Ne}
use Rattle.c_syntax.specs.declared.expression.BinOp.{BinOp}
use Rattle.c_syntax.specs.declared.expression.UnOp.{UnOp}
use Rattle.c_syntax.specs.declared.logic.Connective.{Connective}
use Rattle.c_syntax.specs.declared.logic.PointerOp.{PointerOp}
use Rattle.c_syntax.specs.Ctypes.{PlainType}
use Rattle.c_syntax.specs.Formulas.{CastType}
use Rattle.c_syntax.specs.declared.logic.Quantifier.{Quantifier}
use Rattle.c_syntax.specs.Logic.{LogicTerm, Number, Letter, Variable, Unary, Binary, Cast, Choice, Named, Links, NoLink, Linked, range_of, Predicate, Truth}
use Rattle.c_syntax.specs.Logic.{NonZero, Chain, Not, Connected, Branch, Quantified, Guards, NoGuard, Guarded, ClauseBody, Raw, Holds, Value}
use Rattle.c_syntax.specs.Logic.{Annotation, At, Behaviors, Null, Deref, Member, Address, Moved, Difference, Told, Asks, Separated, Zone, Object, Elements}
use Rattle.c_syntax.specs.Logic.{Zones, NoZone, Another}
use Rattle.c_model.specs.Checked.{Good, one_part, pair_of, given, where_so}
use Rattle.c_model.specs.Ranges.{from_to, bounded}
use Rattle.c_model.specs.State.{State}
use Rattle.c_model.specs.Logic.{TermValue, Mathematical, Environment, Answer, Says, both, compute, lazily, denied, related, at_label, valued_at, as_address}
use Rattle.c_model.specs.Logic.{addressed, held_at, moved, difference, told, object_extent, elements_extent, asks, all_apart, said}
use Rattle.c_model.specs.Quantifiers.{over, between}
use Rattle.c_model.specs.Predicates.{compute_one, converted, chosen, connected, term, chain, pred, guarded, place, zone, zones, with_extent}
use Rattle.c_model.specs.TermRanges.{Seen, range_seen, lowered, seen_binders, are_bounded, ranged_guards, PredicateRanged, GuardsRanged, place_range}
use Rattle.c_model.specs.TermRanges.{unary_range, binary_range, cast_range, hull, no_range, ranged_term, ranged_links, ranged_pred, ranged_clause}
use Rattle.c_model.specs.TermRanges.{ranged_annotations, held_range, member_range, moved_range, distance_range, told_range, address_range, has_extent}
use Rattle.c_model.specs.TermRanges.{ranged_zone, ranged_zones}
use Rattle.c_model.specs.Unranged.{unknown_range, unranged_term, unranged_links, unranged_pred, unranged_guards, unranged_clause, unranged_annotations}
use Rattle.c_model.specs.Unranged.{IsRangedTerm, AreRangedLinks, IsRangedPredicate, IsRangedClause, AreRangedAnnotations, unranged_zone, unranged_zones}
use Rattle.c_model.specs.Unranged.{IsRangedZone, AreRangedZones}
use Rattle.c_model.specs.MemoryQuestions.{address_farther}
use Rattle.c_model.specs.Unranged.{RangingKeepsTerms, RangingKeepsPredicates, RangingKeepsAnnotations, RangesKeepValues, RangesKeepAnswers}
use Rattle.c_model.proofs.TypedParts.{Gives, gives_of, gives_one, gives_both, gives_given, gives_where}

-- ---- a form from its parts

-- guards and what stands behind them, with their ranges
record AreRangedGuards (seen : Seen) (gs : Guards) (p : Predicate) (gp : Guards × Predicate) : Type 0 where
  ranged : GuardsRanged seen gp.0 (λ m. PredicateRanged m gp.1)
  guards : unranged_guards gp.0 ≡ unranged_guards gs
  same : unranged_pred gp.1 ≡ unranged_pred p

unary_ranged : (seen : Seen) (at : Place) (t : Option PlainType) (r s : Range) (op : UnOp) (a b : LogicTerm) → IsRangedTerm seen a b → unary_range op (range_of b) ≡ Some s → IsRangedTerm seen (Unary at t r op a) (Unary at t s op b)
unary_ranged seen at t r s op a b h e = record { ranged = (e, h.ranged); same = ap (Unary at t unknown_range op) h.same }

cast_ranged : (seen : Seen) (at : Place) (t : Option PlainType) (r s : Range) (to : CastType) (a b : LogicTerm) → IsRangedTerm seen a b → cast_range to (range_of b) ≡ Some s → IsRangedTerm seen (Cast at t r to a) (Cast at t s to b)
cast_ranged seen at t r s to a b h e = record { ranged = (e, h.ranged); same = ap (Cast at t unknown_range to) h.same }

binary_ranged : (seen : Seen) (at : Place) (t : Option PlainType) (r s : Range) (op : BinOp) (a b c d : LogicTerm) → IsRangedTerm seen a b → IsRangedTerm seen c d → binary_range op (range_of b) (range_of d) ≡ Some s
    → IsRangedTerm seen (Binary at t r op a c) (Binary at t s op b d)
binary_ranged seen at t r s op a b c d h k e =
    record { ranged = (e, h.ranged, k.ranged); same = ap (λ x. Binary at t unknown_range op x (unranged_term d)) h.same ∙ ap (Binary at t unknown_range op (unranged_term a)) k.same }

choice_ranged : (seen : Seen) (at : Place) (t : Option PlainType) (r : Range) (p q : Predicate) (a b c d : LogicTerm) → IsRangedPredicate seen p q → IsRangedTerm seen a b → IsRangedTerm seen c d
    → IsRangedTerm seen (Choice at t r p a c) (Choice at t (hull (range_of b) (range_of d)) q b d)
choice_ranged seen at t r p q a b c d g h k =
    record {
      ranged = (refl, g.ranged, h.ranged, k.ranged);
      same = ap (λ x. Choice at t unknown_range x (unranged_term b) (unranged_term d)) g.same ∙ ap (λ x. Choice at t unknown_range (unranged_pred p) x (unranged_term d)) h.same
          ∙ ap (Choice at t unknown_range (unranged_pred p) (unranged_term a)) k.same;
    }

linked_ranged : (seen : Seen) (at : Place) (r : Relation) (a b : LogicTerm) (l m : Links) → IsRangedTerm seen a b → AreRangedLinks seen l m → AreRangedLinks seen (Linked at r a l) (Linked at r b m)
linked_ranged seen at r a b l m h k = record { ranged = (h.ranged, k.ranged); same = ap (λ x. Linked at r x (unranged_links m)) h.same ∙ ap (Linked at r (unranged_term a)) k.same }

chain_ranged : (seen : Seen) (at : Place) (a b : LogicTerm) (l m : Links) → IsRangedTerm seen a b → AreRangedLinks seen l m → IsRangedPredicate seen (Chain at a l) (Chain at b m)
chain_ranged seen at a b l m h k = record { ranged = (h.ranged, k.ranged); same = ap (λ x. Chain at x (unranged_links m)) h.same ∙ ap (Chain at (unranged_term a)) k.same }

connected_ranged : (seen : Seen) (at : Place) (c : Connective) (p q v w : Predicate) → IsRangedPredicate seen p q → IsRangedPredicate seen v w → IsRangedPredicate seen (Connected at c p v) (Connected at c q w)
connected_ranged seen at c p q v w h k = record { ranged = (h.ranged, k.ranged); same = ap (λ x. Connected at c x (unranged_pred w)) h.same ∙ ap (Connected at c (unranged_pred p)) k.same }

branch_ranged : (seen : Seen) (at : Place) (c d p q v w : Predicate) → IsRangedPredicate seen c d → IsRangedPredicate seen p q → IsRangedPredicate seen v w → IsRangedPredicate seen (Branch at c p v) (Branch at d q w)
branch_ranged seen at c d p q v w g h k =
    record {
      ranged = (g.ranged, h.ranged, k.ranged);
      same = ap (λ x. Branch at x (unranged_pred q) (unranged_pred w)) g.same ∙ ap (λ x. Branch at (unranged_pred c) x (unranged_pred w)) h.same ∙ ap (Branch at (unranged_pred c) (unranged_pred p)) k.same;
    }

deref_ranged : (seen : Seen) (at : Place) (t : Option PlainType) (r s : Range) (a b : LogicTerm) → IsRangedTerm seen a b → held_range t (Some (range_of b)) ≡ Some s → IsRangedTerm seen (Deref at t r a) (Deref at t s b)
deref_ranged seen at t r s a b h e = record { ranged = (e, h.ranged); same = ap (Deref at t unknown_range) h.same }

member_ranged : (seen : Seen) (at : Place) (t : Option PlainType) (r s : Range) (d : ℕ) (a b : LogicTerm) → IsRangedTerm seen a b → held_range t (member_range d (address_range b)) ≡ Some s
    → IsRangedTerm seen (Member at t r d a) (Member at t s d b)
member_ranged seen at t r s d a b h e = record { ranged = (e, h.ranged); same = ap (Member at t unknown_range d) h.same }

address_ranged : (seen : Seen) (at : Place) (t : Option PlainType) (r s : Range) (a b : LogicTerm) → IsRangedTerm seen a b → address_range b ≡ Some s → IsRangedTerm seen (Address at t r a) (Address at t s b)
address_ranged seen at t r s a b h e = record { ranged = (e, h.ranged); same = ap (Address at t unknown_range) h.same }

moved_ranged : (seen : Seen) (at : Place) (t : Option PlainType) (r s : Range) (op : PointerOp) (n : ℕ) (a b c d : LogicTerm) → IsRangedTerm seen a b → IsRangedTerm seen c d → moved_range op n (range_of b) (range_of d) ≡ Some s
    → IsRangedTerm seen (Moved at t r op n a c) (Moved at t s op n b d)
moved_ranged seen at t r s op n a b c d h k e = record { ranged = (e, h.ranged, k.ranged); same = λ i. Moved at t unknown_range op n (h.same i) (k.same i) }

elements_ranged : (seen : Seen) (at : Place) (n m : ℕ) (a b lo l hi h : LogicTerm) → has_extent n (range_of b) (range_of l) (range_of h) ≡ true → IsRangedTerm seen a b → IsRangedTerm seen lo l → IsRangedTerm seen hi h
    → IsRangedZone seen (Elements at n m a lo hi) (Elements at n m b l h)
elements_ranged seen at n m a b lo l hi h e x y z = record { ranged = (e, x.ranged, y.ranged, z.ranged); same = λ i. Elements at n m (x.same i) (y.same i) (z.same i) }

-- ---- trees

mutual
  pub term_ranged : (seen : Seen) (t : LogicTerm) → Gives (IsRangedTerm seen t) (ranged_term seen t)
  term_ranged seen (Number at t r n) = gives_given (IsRangedTerm seen (Number at t r n)) (bounded (from_to n n)) (no_range at) (λ s. Good (Number at t s n)) (λ s e. record { ranged = e; same = refl })
  term_ranged seen (Letter at t r n) = gives_given (IsRangedTerm seen (Letter at t r n)) (bounded (from_to n n)) (no_range at) (λ s. Good (Letter at t s n)) (λ s e. record { ranged = e; same = refl })
  term_ranged seen (Variable at t r x) = gives_given (IsRangedTerm seen (Variable at t r x)) (place_range t) (no_range at) (λ s. Good (Variable at t s x)) (λ s e. record { ranged = e; same = refl })
  term_ranged seen (Unary at t r op a) =
      gives_one (IsRangedTerm seen a) (IsRangedTerm seen (Unary at t r op a)) (ranged_term seen a) (λ b. given (unary_range op (range_of b)) (no_range at) (λ s. Good (Unary at t s op b))) (term_ranged seen a) (λ b h.
      gives_given (IsRangedTerm seen (Unary at t r op a)) (unary_range op (range_of b)) (no_range at) (λ s. Good (Unary at t s op b)) (λ s e. unary_ranged seen at t r s op a b h e))
  term_ranged seen (Binary at t r op a c) =
      gives_both (IsRangedTerm seen a) (IsRangedTerm seen c) (IsRangedTerm seen (Binary at t r op a c)) (ranged_term seen a) (ranged_term seen c)
      (λ b d. given (binary_range op (range_of b) (range_of d)) (no_range at) (λ s. Good (Binary at t s op b d)))
      (term_ranged seen a) (term_ranged seen c) (λ b d h k.
      gives_given (IsRangedTerm seen (Binary at t r op a c)) (binary_range op (range_of b) (range_of d)) (no_range at) (λ s. Good (Binary at t s op b d)) (λ s e. binary_ranged seen at t r s op a b c d h k e))
  term_ranged seen (Cast at t r to a) =
      gives_one (IsRangedTerm seen a) (IsRangedTerm seen (Cast at t r to a)) (ranged_term seen a) (λ b. given (cast_range to (range_of b)) (no_range at) (λ s. Good (Cast at t s to b))) (term_ranged seen a) (λ b h.
      gives_given (IsRangedTerm seen (Cast at t r to a)) (cast_range to (range_of b)) (no_range at) (λ s. Good (Cast at t s to b)) (λ s e. cast_ranged seen at t r s to a b h e))
  term_ranged seen (Choice at t r p a c) =
      gives_both (IsRangedPredicate seen p) (λ (x : LogicTerm × LogicTerm). IsRangedTerm seen a x.0 × IsRangedTerm seen c x.1) (IsRangedTerm seen (Choice at t r p a c)) (ranged_pred seen p) (pair_of (ranged_term seen a) (ranged_term seen c))
      (λ q ab. Good (Choice at t (hull (range_of ab.0) (range_of ab.1)) q ab.0 ab.1)) (pred_ranged seen p)
      (gives_both (IsRangedTerm seen a) (IsRangedTerm seen c) (λ (x : LogicTerm × LogicTerm). IsRangedTerm seen a x.0 × IsRangedTerm seen c x.1) (ranged_term seen a) (ranged_term seen c) (λ b d. Good (b, d)) (term_ranged seen a)
      (term_ranged seen c) (λ b d h k. (h, k)))
      (λ q bd g h. choice_ranged seen at t r p q a bd.0 c bd.1 g h.0 h.1)
  term_ranged seen (Named at t r x) = gives_given (IsRangedTerm seen (Named at t r x)) (range_seen x.decl seen) (no_range at) (λ s. Good (Named at t s x)) (λ s e. record { ranged = e; same = refl })
  term_ranged seen (At at t r l a) =
      gives_one (IsRangedTerm seen a) (IsRangedTerm seen (At at t r l a)) (ranged_term seen a) (λ b. Good (At at t (range_of b) l b)) (term_ranged seen a) (λ b h. record { ranged = (refl, h.ranged); same = ap (At at t unknown_range l) h.same })
  term_ranged seen (Null at t r) = record { ranged = refl; same = refl }
  term_ranged seen (Deref at t r a) =
      gives_one (IsRangedTerm seen a) (IsRangedTerm seen (Deref at t r a)) (ranged_term seen a) (λ b. given (held_range t (Some (range_of b))) (no_range at) (λ s. Good (Deref at t s b))) (term_ranged seen a) (λ b h.
      gives_given (IsRangedTerm seen (Deref at t r a)) (held_range t (Some (range_of b))) (no_range at) (λ s. Good (Deref at t s b)) (λ s e. deref_ranged seen at t r s a b h e))
  term_ranged seen (Member at t r d a) =
      gives_one (IsRangedTerm seen a) (IsRangedTerm seen (Member at t r d a)) (ranged_term seen a) (λ b. given (held_range t (member_range d (address_range b))) (no_range at) (λ s. Good (Member at t s d b))) (term_ranged seen a) (λ b h.
      gives_given (IsRangedTerm seen (Member at t r d a)) (held_range t (member_range d (address_range b))) (no_range at) (λ s. Good (Member at t s d b)) (λ s e. member_ranged seen at t r s d a b h e))
  term_ranged seen (Address at t r a) =
      gives_one (IsRangedTerm seen a) (IsRangedTerm seen (Address at t r a)) (ranged_term seen a) (λ b. given (address_range b) (no_range at) (λ s. Good (Address at t s b))) (term_ranged seen a) (λ b h.
      gives_given (IsRangedTerm seen (Address at t r a)) (address_range b) (no_range at) (λ s. Good (Address at t s b)) (λ s e. address_ranged seen at t r s a b h e))
  term_ranged seen (Moved at t r op n a c) =
      gives_both (IsRangedTerm seen a) (IsRangedTerm seen c) (IsRangedTerm seen (Moved at t r op n a c)) (ranged_term seen a) (ranged_term seen c)
      (λ b d. given (moved_range op n (range_of b) (range_of d)) (no_range at) (λ s. Good (Moved at t s op n b d))) (term_ranged seen a) (term_ranged seen c) (λ b d h k.
      gives_given (IsRangedTerm seen (Moved at t r op n a c)) (moved_range op n (range_of b) (range_of d)) (no_range at) (λ s. Good (Moved at t s op n b d)) (λ s e. moved_ranged seen at t r s op n a b c d h k e))
  term_ranged seen (Difference at t r n a c) =
      gives_both (IsRangedTerm seen a) (IsRangedTerm seen c) (IsRangedTerm seen (Difference at t r n a c)) (ranged_term seen a) (ranged_term seen c) (λ b d. Good (Difference at t distance_range n b d)) (term_ranged seen a) (term_ranged seen c)
      (λ b d h k. record { ranged = (refl, h.ranged, k.ranged); same = λ i. Difference at t unknown_range n (h.same i) (k.same i) })
  term_ranged seen (Told at t r f a) =
      gives_one (IsRangedTerm seen a) (IsRangedTerm seen (Told at t r f a)) (ranged_term seen a) (λ b. Good (Told at t (told_range f) f b)) (term_ranged seen a)
      (λ b h. record { ranged = (refl, h.ranged); same = ap (Told at t unknown_range f) h.same })

  pub zone_ranged : (seen : Seen) (z : Zone) → Gives (IsRangedZone seen z) (ranged_zone seen z)
  zone_ranged seen (Object at n m a) =
      gives_one (IsRangedTerm seen a) (IsRangedZone seen (Object at n m a)) (ranged_term seen a) (λ b. Good (Object at n m b)) (term_ranged seen a) (λ b h. record { ranged = h.ranged; same = ap (Object at n m) h.same })
  zone_ranged seen (Elements at n m a lo hi) =
      gives_both (IsRangedTerm seen a) (λ (x : LogicTerm × LogicTerm). IsRangedTerm seen lo x.0 × IsRangedTerm seen hi x.1) (IsRangedZone seen (Elements at n m a lo hi)) (ranged_term seen a) (pair_of (ranged_term seen lo) (ranged_term seen hi))
      (λ b lh. where_so (has_extent n (range_of b) (range_of lh.0) (range_of lh.1)) (no_range at) (Good (Elements at n m b lh.0 lh.1))) (term_ranged seen a)
      (gives_both (IsRangedTerm seen lo) (IsRangedTerm seen hi) (λ (x : LogicTerm × LogicTerm). IsRangedTerm seen lo x.0 × IsRangedTerm seen hi x.1) (ranged_term seen lo) (ranged_term seen hi) (λ b d. Good (b, d)) (term_ranged seen lo)
      (term_ranged seen hi) (λ b d h k. (h, k)))
      (λ b lh h k. gives_where (IsRangedZone seen (Elements at n m a lo hi)) (has_extent n (range_of b) (range_of lh.0) (range_of lh.1)) (no_range at) (Good (Elements at n m b lh.0 lh.1))
      (λ e. elements_ranged seen at n m a b lo lh.0 hi lh.1 e h k.0 k.1))

  pub zones_ranged : (seen : Seen) (zs : Zones) → Gives (AreRangedZones seen zs) (ranged_zones seen zs)
  zones_ranged seen NoZone = record { ranged = tt; same = refl }
  zones_ranged seen (Another z rest) =
      gives_both (IsRangedZone seen z) (AreRangedZones seen rest) (AreRangedZones seen (Another z rest)) (ranged_zone seen z) (ranged_zones seen rest) (λ y more. Good (Another y more)) (zone_ranged seen z) (zones_ranged seen rest)
      (λ y more h k. record { ranged = (h.ranged, k.ranged); same = λ i. Another (h.same i) (k.same i) })

  pub links_ranged : (seen : Seen) (l : Links) → Gives (AreRangedLinks seen l) (ranged_links seen l)
  links_ranged seen NoLink = record { ranged = tt; same = refl }
  links_ranged seen (Linked at r a l) =
      gives_both (IsRangedTerm seen a) (AreRangedLinks seen l) (AreRangedLinks seen (Linked at r a l)) (ranged_term seen a) (ranged_links seen l) (λ b m. Good (Linked at r b m)) (term_ranged seen a) (links_ranged seen l)
      (λ b m h k. linked_ranged seen at r a b l m h k)

  pub pred_ranged : (seen : Seen) (p : Predicate) → Gives (IsRangedPredicate seen p) (ranged_pred seen p)
  pred_ranged seen (Truth at b) = record { ranged = tt; same = refl }
  pred_ranged seen (NonZero at a) =
      gives_one (IsRangedTerm seen a) (IsRangedPredicate seen (NonZero at a)) (ranged_term seen a) (λ b. Good (NonZero at b)) (term_ranged seen a) (λ b h. record { ranged = h.ranged; same = ap (NonZero at) h.same })
  pred_ranged seen (Chain at a l) =
      gives_both (IsRangedTerm seen a) (AreRangedLinks seen l) (IsRangedPredicate seen (Chain at a l)) (ranged_term seen a) (ranged_links seen l) (λ b m. Good (Chain at b m)) (term_ranged seen a) (links_ranged seen l)
      (λ b m h k. chain_ranged seen at a b l m h k)
  pred_ranged seen (Not at p) =
      gives_one (IsRangedPredicate seen p) (IsRangedPredicate seen (Not at p)) (ranged_pred seen p) (λ q. Good (Not at q)) (pred_ranged seen p) (λ q h. record { ranged = h.ranged; same = ap (Not at) h.same })
  pred_ranged seen (Connected at c p v) =
      gives_both (IsRangedPredicate seen p) (IsRangedPredicate seen v) (IsRangedPredicate seen (Connected at c p v)) (ranged_pred seen p) (ranged_pred seen v) (λ q w. Good (Connected at c q w)) (pred_ranged seen p) (pred_ranged seen v) (λ q w h k.
      connected_ranged seen at c p q v w h k)
  pred_ranged seen (Branch at c p v) =
      gives_both (IsRangedPredicate seen c) (λ (x : Predicate × Predicate). IsRangedPredicate seen p x.0 × IsRangedPredicate seen v x.1) (IsRangedPredicate seen (Branch at c p v)) (ranged_pred seen c)
      (pair_of (ranged_pred seen p) (ranged_pred seen v))
      (λ d qw. Good (Branch at d qw.0 qw.1)) (pred_ranged seen c)
      (gives_both (IsRangedPredicate seen p) (IsRangedPredicate seen v) (λ (x : Predicate × Predicate). IsRangedPredicate seen p x.0 × IsRangedPredicate seen v x.1) (ranged_pred seen p) (ranged_pred seen v) (λ q w. Good (q, w))
      (pred_ranged seen p) (pred_ranged seen v) (λ q w h k. (h, k)))
      (λ d qw g h. branch_ranged seen at c d p qw.0 v qw.1 g h.0 h.1)
  pred_ranged seen (Quantified at q gs p) =
      gives_one (AreRangedGuards seen gs p) (IsRangedPredicate seen (Quantified at q gs p)) (ranged_guards seen at gs (λ m. ranged_pred m p)) (λ gp. Good (Quantified at q gp.0 gp.1)) (guards_ranged seen at gs p (λ m. pred_ranged m p)) (λ gp h.
      record { ranged = h.ranged; same = ap (λ g. Quantified at q g (unranged_pred gp.1)) h.guards ∙ ap (Quantified at q (unranged_guards gs)) h.same })
  pred_ranged seen (Asks at f z) =
      gives_one (IsRangedZone seen z) (IsRangedPredicate seen (Asks at f z)) (ranged_zone seen z) (λ y. Good (Asks at f y)) (zone_ranged seen z) (λ y h. record { ranged = h.ranged; same = ap (Asks at f) h.same })
  pred_ranged seen (Separated at zs) =
      gives_one (AreRangedZones seen zs) (IsRangedPredicate seen (Separated at zs)) (ranged_zones seen zs) (λ ys. Good (Separated at ys)) (zones_ranged seen zs) (λ ys h. record { ranged = h.ranged; same = ap (Separated at) h.same })

  guards_ranged : (seen : Seen) (at : Place) (gs : Guards) (p : Predicate) → ((m : Seen) → Gives (IsRangedPredicate m p) (ranged_pred m p)) → Gives (AreRangedGuards seen gs p) (ranged_guards seen at gs (λ m. ranged_pred m p))
  guards_ranged seen at NoGuard p w =
      gives_one (IsRangedPredicate seen p) (AreRangedGuards seen NoGuard p) (ranged_pred seen p) (λ q. Good (NoGuard, q)) (w seen) (λ q h. record { ranged = h.ranged; guards = refl; same = h.same })
  guards_ranged seen at (Guarded a y ys below c rest) p w =
      gives_both (IsRangedTerm seen a) (IsRangedTerm seen c) (AreRangedGuards seen (Guarded a y ys below c rest) p) (ranged_term seen a) (ranged_term seen c)
      (λ b d. where_so (are_bounded (range_of b).lo (y ∷ ys) (lowered below (range_of d).hi)) (no_range at)
      (one_part (ranged_guards (seen_binders (range_of b).lo (y ∷ ys) (lowered below (range_of d).hi) seen) at rest (λ m. ranged_pred m p)) (λ gp. Good (Guarded b y ys below d gp.0, gp.1)))) (term_ranged seen a) (term_ranged seen c) (λ b d h k.
      let more = seen_binders (range_of b).lo (y ∷ ys) (lowered below (range_of d).hi) seen in
      gives_where (AreRangedGuards seen (Guarded a y ys below c rest) p) (are_bounded (range_of b).lo (y ∷ ys) (lowered below (range_of d).hi)) (no_range at) _ (λ e.
      gives_one (AreRangedGuards more rest p) (AreRangedGuards seen (Guarded a y ys below c rest) p) (ranged_guards more at rest (λ m. ranged_pred m p)) (λ gp. Good (Guarded b y ys below d gp.0, gp.1)) (guards_ranged more at rest p w) (λ gp g.
      record {
        ranged = (h.ranged, k.ranged, e, g.ranged);
        guards = ap (λ x. Guarded x y ys below (unranged_term d) (unranged_guards gp.0)) h.same ∙ ap (λ x. Guarded (unranged_term a) y ys below x (unranged_guards gp.0)) k.same ∙ ap (Guarded (unranged_term a) y ys below (unranged_term c)) g.guards;
        same = g.same;
      })))

clause_ranged : (seen : Seen) (b : ClauseBody) → Gives (IsRangedClause seen b) (ranged_clause seen b)
clause_ranged seen (Raw f) = record { ranged = tt; same = refl }
clause_ranged seen (Holds p) =
    gives_one (IsRangedPredicate seen p) (IsRangedClause seen (Holds p)) (ranged_pred seen p) (λ q. Good (Holds q)) (pred_ranged seen p) (λ q h. record { ranged = h.ranged; same = ap Holds h.same })
clause_ranged seen (Value t) =
    gives_one (IsRangedTerm seen t) (IsRangedClause seen (Value t)) (ranged_term seen t) (λ u. Good (Value u)) (term_ranged seen t) (λ u h. record { ranged = h.ranged; same = ap Value h.same })
clause_ranged seen (Behaviors names) = record { ranged = tt; same = refl }

clause_and_rest : (seen : Seen) (a : Annotation) (c : ClauseBody) (xs ys : List Annotation) → IsRangedClause seen a.body c → AreRangedAnnotations seen xs ys → AreRangedAnnotations seen (a ∷ xs) (record a { body = c } ∷ ys)
clause_and_rest seen a c xs ys h k =
    record {
      ranged = (h.ranged, k.ranged);
      same = ap (λ b. record a { body = b } ∷ unranged_annotations ys) h.same ∙ ap (λ zs. record a { body = unranged_clause a.body } ∷ zs) k.same;
    }

pub annotations_ranged : (seen : Seen) (xs : List Annotation) → Gives (AreRangedAnnotations seen xs) (ranged_annotations seen xs)
annotations_ranged seen [] = record { ranged = tt; same = refl }
annotations_ranged seen (a ∷ xs) =
    gives_both (IsRangedClause seen a.body) (AreRangedAnnotations seen xs) (AreRangedAnnotations seen (a ∷ xs)) (ranged_clause seen a.body) (ranged_annotations seen xs) (λ c ys. Good (record a { body = c } ∷ ys)) (clause_ranged seen a.body)
    (annotations_ranged seen xs)
    (λ c ys h k. clause_and_rest seen a c xs ys h k)

-- ---- the laws

pub ranging_keeps_terms : RangingKeepsTerms
ranging_keeps_terms seen t u e = gives_of (IsRangedTerm seen t) (ranged_term seen t) u (term_ranged seen t) e

pub ranging_keeps_predicates : RangingKeepsPredicates
ranging_keeps_predicates seen p q e = gives_of (IsRangedPredicate seen p) (ranged_pred seen p) q (pred_ranged seen p) e

pub ranging_keeps_annotations : RangingKeepsAnnotations
ranging_keeps_annotations seen xs ys e = gives_of (AreRangedAnnotations seen xs) (ranged_annotations seen xs) ys (annotations_ranged seen xs) e

-- ---- what they mean

mutual
  pub place_kept : (t : LogicTerm) (s : State) (e : Environment) → place (unranged_term t) s e ≡ place t s e
  place_kept (Number at t r n) s e = refl
  place_kept (Letter at t r n) s e = refl
  place_kept (Variable at t r x) s e = refl
  place_kept (Unary at t r op a) s e = refl
  place_kept (Binary at t r op a b) s e = refl
  place_kept (Cast at t r to a) s e = refl
  place_kept (Choice at t r c a b) s e = refl
  place_kept (Named at t r x) s e = refl
  place_kept (At at t r l a) s e = refl
  place_kept (Null at t r) s e = refl
  place_kept (Deref at t r a) s e = ap as_address (value_kept a s e)
  place_kept (Member at t r d a) s e = ap (option_map (λ x. address_farther x (pos d))) (place_kept a s e)
  place_kept (Address at t r a) s e = refl
  place_kept (Moved at t r op n a b) s e = refl
  place_kept (Difference at t r n a b) s e = refl
  place_kept (Told at t r f a) s e = refl

  pub value_kept : (t : LogicTerm) (s : State) (e : Environment) → term (unranged_term t) s e ≡ term t s e
  value_kept (Number at t r n) s e = refl
  value_kept (Letter at t r n) s e = refl
  value_kept (Variable at t r x) s e = refl
  value_kept (Unary at t r op a) s e = ap (compute_one op) (value_kept a s e)
  value_kept (Binary at t r op a b) s e = λ i. both (value_kept a s e i) (value_kept b s e i) (compute op)
  value_kept (Cast at t r to a) s e = ap (converted to) (value_kept a s e)
  value_kept (Choice at t r c a b) s e = λ i. chosen (answer_kept c s e 0 i) (value_kept a s e i) (value_kept b s e i)
  value_kept (Named at t r x) s e = refl
  value_kept (At at t r l a) s e = ap (valued_at (at_label l s)) (fun_ext (λ u. value_kept a u e))
  value_kept (Null at t r) s e = refl
  value_kept (Deref at t r a) s e = ap (λ x. held_at s.store t (as_address x)) (value_kept a s e)
  value_kept (Member at t r d a) s e = ap (λ x. held_at s.store t (option_map (λ y. address_farther y (pos d)) x)) (place_kept a s e)
  value_kept (Address at t r a) s e = ap addressed (place_kept a s e)
  value_kept (Moved at t r op n a b) s e = λ i. moved op n (value_kept a s e i) (value_kept b s e i)
  value_kept (Difference at t r n a b) s e = λ i. difference s.store n (as_address (value_kept a s e i)) (as_address (value_kept b s e i))
  value_kept (Told at t r f a) s e = ap (λ x. told s.store f (as_address x)) (value_kept a s e)

  extent_kept : (z : Zone) (s : State) (e : Environment) → zone (unranged_zone z) s e ≡ zone z s e
  extent_kept (Object at n m a) s e = ap (λ x. object_extent n (as_address x)) (value_kept a s e)
  extent_kept (Elements at n m a lo hi) s e = λ i. elements_extent n (value_kept a s e i) (value_kept lo s e i) (value_kept hi s e i)

  extents_kept : (zs : Zones) (s : State) (e : Environment) → zones (unranged_zones zs) s e ≡ zones zs s e
  extents_kept NoZone s e = refl
  extents_kept (Another z rest) s e = λ i. with_extent (extent_kept z s e i) (extents_kept rest s e i)

  chain_kept : (l : Links) (x : Option TermValue) (s : State) (e : Environment) (n : ℕ) → chain x (unranged_links l) s e n ≡ chain x l s e n
  chain_kept NoLink x s e n = refl
  chain_kept (Linked at r t rest) x s e n =
      ap (λ y. lazily (related s.store r x y n) (chain y (unranged_links rest) s e) (Says false)) (value_kept t s e)
      ∙ ap (λ f. lazily (related s.store r x (term t s e) n) f (Says false)) (fun_ext (chain_kept rest (term t s e) s e))

  pub answer_kept : (p : Predicate) (s : State) (e : Environment) (n : ℕ) → pred (unranged_pred p) s e n ≡ pred p s e n
  answer_kept (Truth at b) s e n = refl
  answer_kept (NonZero at t) s e n = ap (λ x. related s.store Ne x (Some (Mathematical (pos 0))) n) (value_kept t s e)
  answer_kept (Chain at t l) s e n = ap (λ x. chain x (unranged_links l) s e n) (value_kept t s e) ∙ chain_kept l (term t s e) s e n
  answer_kept (Not at p) s e n = ap denied (answer_kept p s e n)
  answer_kept (Connected at c p q) s e n = λ i. connected c (answer_kept p s e n i) (fun_ext (answer_kept q s e) i)
  answer_kept (Branch at c p q) s e n = λ i. lazily (answer_kept c s e n i) (fun_ext (answer_kept p s e) i) (fun_ext (answer_kept q s e) i)
  answer_kept (Quantified at q gs p) s e n =
      guards_kept q gs (pred (unranged_pred p) s) s e n ∙ ap (λ f. guarded q gs f s e n) (fun_ext (λ m. fun_ext (answer_kept p s m)))
  answer_kept (Asks at f (Object p m k a)) s e n = ap (λ x. said (option_map (asks f s.store k) x) n) (extent_kept (Object p m k a) s e)
  answer_kept (Asks at f (Elements p m k a lo hi)) s e n = ap (λ x. said (option_map (asks f s.store k) x) n) (extent_kept (Elements p m k a lo hi) s e)
  answer_kept (Separated at zs) s e n = ap (λ x. said (option_map all_apart x) n) (extents_kept zs s e)

  guards_kept : (q : Quantifier) (gs : Guards) (p : Environment → ℕ → Answer) (s : State) (e : Environment) (n : ℕ) → guarded q (unranged_guards gs) p s e n ≡ guarded q gs p s e n
  guards_kept q NoGuard p s e n = refl
  guards_kept q (Guarded a y ys below b rest) p s e n = λ i.
      between (value_kept a s e i) (value_kept b s e i) (λ l h. over q l (y ∷ ys) (lowered below h) (fun_ext (λ m. fun_ext (guards_kept q rest p s m)) i) e) n

pub ranges_keep_values : RangesKeepValues
ranges_keep_values = value_kept

pub ranges_keep_answers : RangesKeepAnswers
ranges_keep_answers = answer_kept
