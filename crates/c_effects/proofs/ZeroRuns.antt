-- Zeros in bytes in a row: each store is as wide as it may be there, and rows go on from part to part.
use Rattle.std.proofs.Common.{◌≡◌, ℕ, zero, suc, ◌+◌, ◌-◌, ◌%◌, ◌<◌, ◌≤◌, pos, Bool, true, false, if◌then◌else◌, nat_eq, nat_le, List, [], ◌∷◌, ◌++◌, refl, sym, ap, ◌∙◌, arith}
use Rattle.std.proofs.lemmas.Bool.{eqb-true, leb-true}
use Rattle.c_syntax.specs.declared.types.CInt.{CInt}
use Rattle.c_syntax.specs.declared.types.CInt.TheVariants.{I8, I16, I32, I64}
use Rattle.c_syntax.specs.Layouts.{Scalar, int_size, scalar_size}
use Rattle.c_model.proofs.TypedParts.{and_true}
use Rattle.mon_syntax.specs.declared.tree.MonType.{MonType}
use Rattle.mon_syntax.specs.Trees.{MonStatements, NoStatement, Constant}
use Rattle.c_effects.specs.declared.slot.Slot.{Slot}
use Rattle.c_effects.specs.declared.zeros.Row.{Row}
use Rattle.c_effects.specs.Expressions.{before, register_type}
use Rattle.c_effects.specs.Effects.{may_stand, moved, stored_at, widest, zeros_at, zeros_from}
use Rattle.c_effects.specs.Scalars.{row_after, rows_stored}
use Rattle.c_effects.specs.Zeros.{goes_on}
use Rattle.c_effects.proofs.Sequences.{before_assoc, more}

-- ---- one store

-- an integer type that may be stored at an offset, where so many bytes are left
pub record IsWide (d n : ℕ) (k : CInt) : Type 0 where
  pub some : 0 < int_size k
  pub fits : int_size k ≤ n
  pub aligned : d % int_size k ≡ 0

stands : (d n width : ℕ) → may_stand d n width ≡ true → (d % width ≡ 0) × (width ≤ n)
stands d n width e = let both = and_true (nat_eq (d % width) 0) (nat_le width n) e in (eqb-true (d % width) 0 both.0, leb-true width n both.1)

pub widest_is : (d n : ℕ) → 0 < n → IsWide d n (widest d n)
widest_is d n lt = eight (may_stand d n 8) refl
  where
    one : IsWide d n I8
    one = record { some = omega arith; fits = omega (arith, lt); aligned = omega arith }

    two : (x : Bool) → may_stand d n 2 ≡ x → IsWide d n (if x then I16 else I8)
    two true e = let h = stands d n 2 e in record { some = omega arith; fits = h.1; aligned = h.0 }
    two false e = one

    four : (x : Bool) → may_stand d n 4 ≡ x → IsWide d n (if x then I32 else (if may_stand d n 2 then I16 else I8))
    four true e = let h = stands d n 4 e in record { some = omega arith; fits = h.1; aligned = h.0 }
    four false e = two (may_stand d n 2) refl

    eight : (x : Bool) → may_stand d n 8 ≡ x → IsWide d n (if x then I64 else (if may_stand d n 4 then I32 else (if may_stand d n 2 then I16 else I8)))
    eight true e = let h = stands d n 8 e in record { some = omega arith; fits = h.1; aligned = h.0 }
    eight false e = four (may_stand d n 4) refl

pub width_fits : (d n : ℕ) → 0 < n → (0 < int_size (widest d n)) × (int_size (widest d n) ≤ n)
width_fits d n lt = let h = widest_is d n lt in (h.some, h.fits)

-- ---- stores in a row

abbrev pub zero_at : ℕ → ℕ → ℕ → MonType → MonStatements
zero_at r k d t = stored_at r k d t (Constant t (pos 0))

zeros_behind : (r k d stored n : ℕ) → stored ≤ n → zeros_from r k d stored n ≡ zeros_from r k (d + stored) 0 (n - stored)
zeros_behind r k d zero n le =
    let here : d ≡ d + 0 = omega arith in
    let all : n ≡ n - 0 = omega arith in
    λ i. zeros_from r k (here i) 0 (all i)
zeros_behind r k d (suc stored) zero le = absurd (omega (arith, le))
zeros_behind r k d (suc stored) (suc n) le =
    let there : suc d + stored ≡ d + suc stored = omega arith in
    let left : n - stored ≡ suc n - suc stored = omega arith in
    zeros_behind r k (suc d) stored n (omega (arith, le)) ∙ (λ i. zeros_from r k (there i) 0 (left i))

-- the first store, and those after it
zeros_more : (r k d n : ℕ) → 0 < n
    → zeros_from r k d 0 n ≡ before (zero_at r k d (register_type (widest d n))) (zeros_from r k (d + int_size (widest d n)) 0 (n - int_size (widest d n)))
zeros_more r k d zero lt = absurd (omega (arith, lt))
zeros_more r k d (suc n) lt =
    let h = widest_is d (suc n) lt in
    let width = int_size (widest d (suc n)) in
    let some = h.some in
    let fits = h.fits in
    let there : suc d + (width - 1) ≡ d + width = omega (arith, some) in
    let left : n - (width - 1) ≡ suc n - width = omega (arith, some) in
    ap (before (zero_at r k d (register_type (widest d (suc n)))))
    (zeros_behind r k (suc d) (width - 1) n (omega (arith, some, fits)) ∙ (λ i. zeros_from r k (there i) 0 (left i)))

-- a turn of the loop over them
pub zero_turn : {all : MonStatements} (r k d n : ℕ) (t : MonType) (width d1 n1 : ℕ) (t0 t1 : MonStatements) → 0 < n → t ≡ register_type (widest d n) → width ≡ int_size (widest d n) → d1 ≡ d + width → n1 ≡ n - width
    → t1 ≡ before t0 (zero_at r k d t) → before t0 (zeros_from r k d 0 n) ≡ all → before t1 (zeros_from r k d1 0 n1) ≡ all
zero_turn r k d n t width d1 n1 t0 t1 lt type_is width_is there left put kept =
    (λ i. before t1 (zeros_from r k ((there ∙ ap (λ w. d + w) width_is) i) 0 ((left ∙ ap (λ w. n - w) width_is) i)))
    ∙ more t0 (zero_at r k d (register_type (widest d n))) (zeros_from r k (d + int_size (widest d n)) 0 (n - int_size (widest d n))) (zeros_more r k d n lt) (put ∙ ap (λ u. before t0 (zero_at r k d u)) type_is) kept

pub no_zero : (r k d n : ℕ) → n ≤ 0 → zeros_from r k d 0 n ≡ NoStatement
no_zero r k d zero le = refl
no_zero r k d (suc n) le = absurd (omega (arith, le))

-- ---- rows

-- zeros in the scalars of one part, and in those after it
pub rows_more : (s : Slot) (row : Row) (xs ys : List (ℕ × Scalar)) → zeros_at s.object s.pointer row.start row.count (moved s.offset xs ++ ys)
    ≡ before (rows_stored s row xs) (zeros_at s.object s.pointer (row_after s row xs).start (row_after s row xs).count ys)
rows_more s row [] ys = refl
rows_more s row (x ∷ xs) ys = by (rows_more s longer xs ys) (rows_more s other xs ys) (goes_on row d)
  where
    d : ℕ
    d = s.offset + x.0

    size : ℕ
    size = scalar_size x.1

    longer : Row
    longer = record { start = row.start; count = row.count + size }

    other : Row
    other = record { start = d; count = size }

    stored : MonStatements
    stored = zeros_from s.object s.pointer row.start 0 row.count

    behind : Row → MonStatements
    behind after = zeros_at s.object s.pointer (row_after s after xs).start (row_after s after xs).count ys

    Goes : Row → Type 0
    Goes after = zeros_at s.object s.pointer after.start after.count (moved s.offset xs ++ ys) ≡ before (rows_stored s after xs) (behind after)

    by : Goes longer → Goes other → (on : Bool) → (if on then zeros_at s.object s.pointer row.start (row.count + size) (moved s.offset xs ++ ys) else before stored (zeros_at s.object s.pointer d size (moved s.offset xs ++ ys)))
        ≡ before (before (if on then NoStatement else stored) (rows_stored s (if on then longer else other) xs)) (behind (if on then longer else other))
    by on_it begun true = on_it
    by on_it begun false = ap (before stored) begun ∙ sym (before_assoc stored (rows_stored s other xs) (behind other))
