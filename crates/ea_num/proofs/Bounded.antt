-- Where a range lies within signed 128 bits, and where it does not.
use Rattle.std.proofs.Common.{◌≡◌, ℕ, ◌<◌, ◌^◌, ℤ, Bool, true, false, cond, ◌&&◌, Some, None, FitsSigned, to_z, of_z, refl, subst}
use Rattle.std.specs.Int.{w128}
use Rattle.std.specs.Int.Signed.{mag}
use Rattle.std.proofs.lemmas.Int.{to_z-of_z}
use Rattle.std.proofs.lemmas.Bool.{ltb-true, lt-ltb}
use Rattle.c_syntax.specs.declared.annotation.Range.{Range}
use Rattle.c_model.specs.Ranges.{from_to, LiesIn, IsWithin128, is_in_bits, range_in_bits, bounded}

-- ---- the test of both bounds

pub is_in_bits-true : (h : ℕ) (z : ℤ) → mag z < 2 ^ h → is_in_bits h z ≡ true
is_in_bits-true h z l = lt-ltb _ _ l

pub is_in_bits-false : (h : ℕ) (z : ℤ) → (mag z < 2 ^ h → ⊥) → is_in_bits h z ≡ false
is_in_bits-false h z out = by (is_in_bits h z) refl
  where
    by : (t : Bool) → is_in_bits h z ≡ t → is_in_bits h z ≡ false
    by true e = absurd (out (ltb-true _ _ e))
    by false e = e

pub record InBits (h : ℕ) (r : Range) : Type 0 where
  pub lo_in : mag r.lo < 2 ^ h
  pub hi_in : mag r.hi < 2 ^ h

pub in_bits_from_test : (h : ℕ) (r : Range) → range_in_bits h r ≡ true → InBits h r
in_bits_from_test h r e = by (is_in_bits h r.lo) (is_in_bits h r.hi) refl refl e
  where
    by : (s t : Bool) → is_in_bits h r.lo ≡ s → is_in_bits h r.hi ≡ t → (s && t) ≡ true → InBits h r
    by true true p q f = record { lo_in = ltb-true _ _ p; hi_in = ltb-true _ _ q }
    by true false p q f = absurd cc
    by false t p q f = absurd cc

pub range_in_bits-true : (h : ℕ) (r : Range) → InBits h r → range_in_bits h r ≡ true
range_in_bits-true h r p = rw (is_in_bits-true h r.lo p.lo_in, is_in_bits-true h r.hi p.hi_in) refl

-- ---- bounded ranges

pub bounded-within : (r : Range) → FitsSigned w128 r.lo → FitsSigned w128 r.hi → bounded r ≡ Some r
bounded-within r p q = rw (is_in_bits-true 127 r.lo p.sfits, is_in_bits-true 127 r.hi q.sfits) refl

pub bounded-low : (r : Range) → (FitsSigned w128 r.lo → ⊥) → bounded r ≡ None
bounded-low r out = rw (is_in_bits-false 127 r.lo (λ p. out (record { sfits = p }))) refl

pub bounded-high : (r : Range) → (FitsSigned w128 r.hi → ⊥) → bounded r ≡ None
bounded-high r out = by (is_in_bits 127 r.lo) refl
  where
    hi_out : is_in_bits 127 r.hi ≡ false
    hi_out = is_in_bits-false 127 r.hi (λ p. out (record { sfits = p }))

    by : (t : Bool) → is_in_bits 127 r.lo ≡ t → bounded r ≡ None
    by true e = rw (e, hi_out) refl
    by false e = rw e refl

pub record IsBounded (r s : Range) : Type 0 where
  pub same : r ≡ s
  pub within : IsWithin128 s

-- a bounded range is the range, and lies within signed 128 bits
pub bounded_some : (r s : Range) → bounded r ≡ Some s → IsBounded r s
bounded_some r s e = by (range_in_bits 127 r) refl e
  where
    by : (t : Bool) → range_in_bits 127 r ≡ t → cond t (Some r) None ≡ Some s → IsBounded r s
    by true p f =
        let q : r ≡ s = cc in
        let i = in_bits_from_test 127 r p in
        record { same = q; within = subst IsWithin128 q (record { lo_fits = record { sfits = i.lo_in }; hi_fits = record { sfits = i.hi_in } }) }
    by false p f = absurd cc

-- what lies in the range lies in the bounded one
pub lies_in_bounded : (r s : Range) (z : ℤ) → bounded r ≡ Some s → LiesIn r z → LiesIn s z
lies_in_bounded r s z e h = subst (λ q. LiesIn q z) (bounded_some r s e).same h

pub ruleset bounds = (bounded-within, bounded-low, bounded-high)

-- what the code gives where both bounds are computed
pub bounded_of_some : (lo hi x y : ℤ) → FitsSigned w128 lo × (x ≡ lo) → FitsSigned w128 hi × (y ≡ hi) → Some (from_to (to_z w128 (of_z w128 x)) (to_z w128 (of_z w128 y))) ≡ bounded (from_to lo hi)
bounded_of_some lo hi x y e f =
    let p : FitsSigned w128 x = rw e.1 e.0 in
    let q : FitsSigned w128 y = rw f.1 f.0 in
    rw (to_z-of_z w128 x p, to_z-of_z w128 y q, e.1, f.1, bounded-within (from_to lo hi) e.0 f.0) refl
