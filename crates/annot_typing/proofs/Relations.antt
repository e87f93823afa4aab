-- The sides of the relations of a chain.
use Rattle.std.proofs.Common.{◌≡◌, pos, refl, sym, ap, subst, cond, Result, Ok, Err}
use Rattle.std.specs.Ordering.{int_eq}
use Rattle.c_syntax.specs.declared.place.Place.{Place}
use Rattle.c_syntax.specs.declared.logic.Term.{Term}
use Rattle.c_syntax.specs.Formulas.{Form, Number, Letter, Truth, Name, Unary, Binary, Cast, SizeOf, Chain, Connected, Choice, Null, Index, Dot, Arrow, Told, Asks, Separated, Result as ResultOf, Old, At, Quantified}
use Rattle.c_syntax.specs.Logic.{LogicTerm, plain_term}
use Rattle.c_model.specs.Checked.{Checked, Good, Bad, one_part, pair_of}
use Rattle.c_model.specs.PredicateTyping as typing
use Rattle.c_model.specs.PredicateTyping.{Side, ZeroSide}
use Rattle.c_scopes.specs.declared.fault.TypeFault.{TypeFault}
use Rattle.c_scopes.specs.declared.fault.TypeFault.TheVariants.{Refused, Memory}
use Rattle.c_scopes.specs.Answers.{Answers}
use Rattle.annot_typing.specs.declared.sorted.Sorted.{Sorted}
use Rattle.annot_typing.specs.Joined.{both_answered}
use Rattle.annot_typing.specs.Sorts.{plain_sorted}
use Rattle.annot_typing.specs.Relations.{side_of_answer, side_in}
use Rattle.annot_typing.proofs.Parts.{joined_answers, no_memory}

-- what a side is, where memory was not wanting
module _ (c : Checked typing.Sorted) (r : Result Sorted TypeFault) (h : Answers plain_sorted c r) (m : r ≡ Err Memory → ⊥)
  where
    value_known : typing.side_of_value c ≡ side_of_answer r
    value_known = by c r h m
      where
        by : (c : Checked typing.Sorted) (r : Result Sorted TypeFault) → Answers plain_sorted c r → (r ≡ Err Memory → ⊥) → typing.side_of_value c ≡ side_of_answer r
        by c (Ok a) h m = ap typing.side_of_value h
        by (Good a) (Err (Refused f)) h m = absurd cc
        by (Bad g gs) (Err (Refused f)) h m = refl
        by c (Err Memory) h m = absurd (m refl)

    side_known : (f : Form) → typing.side_of f c ≡ side_in f r
    side_known (Number at n) = ap (cond (int_eq n (pos 0)) ZeroSide) value_known
    side_known (Letter at n) = value_known
    side_known (Truth at b) = value_known
    side_known (Name at x) = value_known
    side_known (Unary at op a) = value_known
    side_known (Binary at op a b) = value_known
    side_known (Cast at to a) = value_known
    side_known (SizeOf at t) = value_known
    side_known (Chain at a links) = value_known
    side_known (Connected at k a b) = value_known
    side_known (Choice at k a b) = value_known
    side_known (Null at) = value_known
    side_known (Index at a b) = value_known
    side_known (Dot at a x) = value_known
    side_known (Arrow at a x) = value_known
    side_known (Told at k a) = value_known
    side_known (Asks at k z) = value_known
    side_known (Separated at zs) = value_known
    side_known (ResultOf at) = value_known
    side_known (Old at a) = value_known
    side_known (At at a l name) = value_known
    side_known (Quantified at q to names a) = value_known

module _ {B U : Type 0} (q : U → B) (k : Side → Checked B) (f : Form) (c : Checked typing.Sorted) (b : Result U TypeFault)
  where
    rest_known : (r : Result Sorted TypeFault) → Answers plain_sorted c r → (r ≡ Err Memory → ⊥) → Answers q (k (side_in f r)) b → Answers q (k (typing.side_of f c)) b
    rest_known r h m hb = subst (λ z. Answers q (k z) b) (sym (side_known c r h m f)) hb

    -- the first side of a chain, and its relations
    pub chain_answers : (r : Result Sorted TypeFault) → Answers plain_sorted c r → Answers q (k (side_in f r)) b
        → Answers (λ (x : Sorted × U). (plain_sorted x.0, q x.1)) (pair_of c (k (typing.side_of f c))) (both_answered r b)
    chain_answers (Ok a) h hb = joined_answers plain_sorted q c (k (typing.side_of f c)) (Ok a) b h (rest_known (Ok a) h (λ m. cc) hb)
    chain_answers (Err (Refused g)) h hb = joined_answers plain_sorted q c (k (typing.side_of f c)) (Err (Refused g)) b h (rest_known (Err (Refused g)) h (λ m. cc) hb)
    chain_answers (Err Memory) h hb = no_memory (λ (x : Sorted × U). (plain_sorted x.0, q x.1)) (pair_of c (k (typing.side_of f c))) b

    module _ (at : Place) (left : Side) (x : Result Term TypeFault)
      where
        abbrev right : Side → Checked LogicTerm
        right side = one_part c (typing.right_side at left side)

        told : (r : Result Sorted TypeFault) → Answers plain_sorted c r → (r ≡ Err Memory → ⊥) → Answers plain_term (right (side_in f r)) x → Answers q (k (side_in f r)) b
            → Answers (λ (p : Term × U). (plain_term p.0, q p.1)) (pair_of (right (typing.side_of f c)) (k (typing.side_of f c))) (both_answered x b)
        told r h m t hb = joined_answers plain_term q (right (typing.side_of f c)) (k (typing.side_of f c)) x b
            (subst (λ z. Answers plain_term (right z) x) (sym (side_known c r h m f)) t) (rest_known r h m hb)

        -- the right side of a relation, and the relations behind it
        pub link_answers : (r : Result Sorted TypeFault) → Answers plain_sorted c r → (r ≡ Err Memory → x ≡ Err Memory) → Answers plain_term (right (side_in f r)) x → Answers q (k (side_in f r)) b
            → Answers (λ (p : Term × U). (plain_term p.0, q p.1)) (pair_of (right (typing.side_of f c)) (k (typing.side_of f c))) (both_answered x b)
        link_answers (Ok a) h m t hb = told (Ok a) h (λ e. cc) t hb
        link_answers (Err (Refused g)) h m t hb = told (Err (Refused g)) h (λ e. cc) t hb
        link_answers (Err Memory) h m t hb = subst (λ x. Answers (λ (p : Term × U). (plain_term p.0, q p.1)) (pair_of (right (typing.side_of f c)) (k (typing.side_of f c))) (both_answered x b)) (sym (m refl))
            (no_memory (λ (p : Term × U). (plain_term p.0, q p.1)) (pair_of (right (typing.side_of f c)) (k (typing.side_of f c))) b)
