-- Steps back from a pointer, and differences of pointers in elements: they are values of i64, as the target computes them.
use Rattle.std.proofs.Common.{◌≡◌, ℕ, zero, suc, ◌+◌, ◌*◌, ◌/◌, ◌^◌, ◌≤◌, ℤ, pos, negsuc, neg_ℤ, ◌+ℤ◌, ◌-ℤ◌, ◌*ℤ◌, int_div, Bool, true, false, if◌then◌else◌, Some, None, refl, sym, ap, ◌∙◌, subst, arith}
use Rattle.std.proofs.lemmas.Int.{ints}
use Rattle.std.proofs.Math.IntN.{neg_ℤ-neg_ℤ}
use Rattle.std.specs.Ordering.{int_eq}
use Rattle.c_syntax.specs.declared.types.CInt.TheVariants.{I64}
use Rattle.c_model.specs.Integers.{fits, convert}
use Rattle.c_model.specs.Operators.{quotient}
use Rattle.c_model.specs.Memory.{Pointer, Into, Store, moved}
use Rattle.mon_syntax.specs.declared.tree.MonType.TheVariants as kind
use Rattle.mon_syntax.specs.declared.tree.MonOp.TheVariants as mon
use Rattle.mon_syntax.specs.Arithmetic.{wrap, operate}
use Rattle.c_simulation.proofs.Integers.{wrap_is}
use Rattle.c_simulation.proofs.Pointers.{AreSmall, landed, within_i64, positive_fits, negative_fits}

opposite_fits : (a : ℕ) → a ≤ 2 ^ 32 → fits I64 (neg_ℤ (pos a)) ≡ true
opposite_fits zero le = refl
opposite_fits (suc a) le = negative_fits a (omega (arith, le))

-- the opposite of a number of elements has the opposite number of bytes
pub opposite_product : (z : ℤ) (unit : ℕ) → (pos 0 -ℤ z) *ℤ pos unit ≡ neg_ℤ (z *ℤ pos unit)
opposite_product (pos zero) unit = let none : 0 * unit ≡ 0 = omega arith in ap pos none ∙ sym (ap (λ n. neg_ℤ (pos n)) none)
opposite_product (pos (suc a)) unit = let minus : pos 0 -ℤ pos (suc a) ≡ negsuc a = omega (arith, ints) in ap (λ z. z *ℤ pos unit) minus
opposite_product (negsuc a) unit = let plus : pos 0 -ℤ negsuc a ≡ pos (suc a) = omega (arith, ints) in ap (λ z. z *ℤ pos unit) plus ∙ sym (neg_ℤ-neg_ℤ (pos (suc a * unit)))

-- a step back from i to j is one from j to i
back_sum : (i j : ℕ) (d : ℤ) → pos i +ℤ neg_ℤ d ≡ pos j → pos j +ℤ d ≡ pos i
back_sum i j d e = omega (arith, ints, e)

back_fits : (i j : ℕ) (d : ℤ) → i ≤ 2 ^ 32 → j ≤ 2 ^ 32 → pos j +ℤ d ≡ pos i → fits I64 (neg_ℤ d) ≡ true
back_fits i j (pos a) li lj e = let sum : j + a ≡ i = cc in opposite_fits a (omega (arith, sum, li))
back_fits i j (negsuc a) li lj e = positive_fits (suc a) (omega (arith, ints, e, lj))

pub steps_back_fit : (store : Store) (n i unit : ℕ) (z : ℤ) (q : Pointer) → AreSmall store → i ≤ 2 ^ 32 → moved store (Into n i) ((pos 0 -ℤ z) *ℤ pos unit) ≡ Some q
    → wrap kind.I64 (neg_ℤ (convert I64 (convert I64 z *ℤ pos unit))) ≡ (pos 0 -ℤ z) *ℤ pos unit
steps_back_fit store n i unit z q small li e =
    let l = landed store n i ((pos 0 -ℤ z) *ℤ pos unit) q small e in
    let sum = back_sum i l.to (z *ℤ pos unit) (ap (λ d. pos i +ℤ d) (sym (opposite_product z unit)) ∙ l.sum) in
    ap (λ d. wrap kind.I64 (neg_ℤ d)) (within_i64 l.to unit i z l.small li sum)
    ∙ wrap_is I64 (neg_ℤ (z *ℤ pos unit)) (back_fits i l.to (z *ℤ pos unit) li l.small sum)
    ∙ sym (opposite_product z unit)

-- ---- differences

quotient_fits : (d : ℤ) (u : ℕ) → ((a : ℕ) → d ≡ pos a → a ≤ 2 ^ 32) → ((a : ℕ) → d ≡ negsuc a → suc a ≤ 2 ^ 32) → fits I64 (int_div d (pos (suc u))) ≡ true
quotient_fits (pos a) u h g = positive_fits (a / suc u) (omega (arith, h a refl))
quotient_fits (negsuc a) u h g = opposite_fits (suc a / suc u) (omega (arith, g a refl))

quotient_is : (d v : ℤ) (u : ℕ) → quotient d (pos (suc u)) ≡ Some v → fits I64 (int_div d (pos (suc u))) ≡ true → (operate mon.Div kind.I64 d (pos (suc u)) ≡ Some v) × (fits I64 v ≡ true)
quotient_is d v u e fit = by (int_eq (pos (suc u)) (pos 0)) e
  where
    by : (t : Bool) → (if t then None else Some (int_div d (pos (suc u)))) ≡ Some v → ((if t then None else Some (wrap kind.I64 (int_div d (pos (suc u))))) ≡ Some v) × (fits I64 v ≡ true)
    by true f = absurd cc
    by false f =
        let is : int_div d (pos (suc u)) ≡ v = cc in
        (ap Some (wrap_is I64 (int_div d (pos (suc u))) fit ∙ is), subst (λ v. fits I64 v ≡ true) is fit)

pub difference_fits : (i j unit : ℕ) (v : ℤ) → i ≤ 2 ^ 32 → j ≤ 2 ^ 32 → quotient (pos i -ℤ pos j) (pos unit) ≡ Some v → (operate mon.Div kind.I64 (pos i -ℤ pos j) (pos unit) ≡ Some v) × (fits I64 v ≡ true)
difference_fits i j zero v li lj e = absurd cc
difference_fits i j (suc u) v li lj e =
    quotient_is (pos i -ℤ pos j) v u e (quotient_fits (pos i -ℤ pos j) u (λ a f. omega (arith, ints, f, li)) (λ a f. omega (arith, ints, f, lj)))
