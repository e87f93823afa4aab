-- The registers of a plan stand in order, and its entries are found.
use Rattle.std.proofs.Common.{◌≡◌, suc, ◌+◌, ◌⊎◌, inl, inr, Bool, true, false, cond, nat_eq, [], ◌∷◌, length, length-append, Some, refl, ap, subst, arith}
use Rattle.std.proofs.lemmas.Bool.Decides.{nat_tests}
use Rattle.c_syntax.specs.Logic.{LogicTerm}
use Rattle.c_simulation.specs.Keeping.{Kept, is_pointer_term, registers_by, registers_of}
use Rattle.annot_simulation.specs.Held.{kept_at}
use Rattle.annot_simulation.specs.Snapshots.{Ascend}
use Rattle.annot_simulation.specs.Plan.{Entry, kept_from, kept_types, IsIn, offset_of, value_types, PlansAscend, EntriesAreFound}

types_long : (b : Bool) (t : LogicTerm) → suc (length (value_types b t)) ≡ registers_by b
types_long true t = refl
types_long false t = refl

pub plans_ascend : PlansAscend
plans_ascend n [] = omega arith
plans_ascend n (x ∷ xs) =
    let rest = plans_ascend (n + registers_of x.1) xs in
    let long = types_long (is_pointer_term x.1) x.1 in
    let more = length-append (value_types (is_pointer_term x.1) x.1) (kept_types xs) in
    let same : (n + registers_of x.1) + length (kept_types xs) ≡ n + length (kept_types (x ∷ xs)) = omega (arith, long, more) in
    (omega arith, subst (Ascend (n + registers_of x.1) (kept_from (n + registers_of x.1) xs)) same rest)

pub entries_are_found : EntriesAreFound
entries_are_found n [] x i only = absurd i
entries_are_found n (y ∷ ys) x i only =
    by (nat_eq (offset_of y) (offset_of x)) refl i (λ j. entries_are_found (n + registers_of y.1) ys x j (λ z k e. only z (inr k) e))
  where
    by : (t : Bool) → nat_eq (offset_of y) (offset_of x) ≡ t → (y ≡ x) ⊎ IsIn x ys → (IsIn x ys → (k : Kept) × (kept_at (offset_of x) (kept_from (n + registers_of y.1) ys) ≡ Some k) × (k.label ≡ x.0) × (k.term ≡ x.1))
        → (k : Kept) × (cond t (Some (record { label = y.0; term = y.1; register = n })) (kept_at (offset_of x) (kept_from (n + registers_of y.1) ys)) ≡ Some k) × (k.label ≡ x.0) × (k.term ≡ x.1)
    by true p j rest =
        let at : offset_of y ≡ offset_of x = grind (arith, nat_tests) in
        let same : y ≡ x = only y (inl refl) at in
        (record { label = y.0; term = y.1; register = n }, refl, ap (λ (e : Entry). e.0) same, ap (λ (e : Entry). e.1) same)
    by false p (inl e) rest = let no : nat_eq (offset_of y) (offset_of x) ≡ true = grind (arith, nat_tests, ap offset_of e) in absurd cc
    by false p (inr j) rest = rest j
