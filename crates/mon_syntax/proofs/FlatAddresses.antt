-- The number that stands for a pointer: it has 64 bits, and is one number. Pointers into one block have one place.
use Rattle.std.proofs.Common.{◌≡◌, ◌≢◌, ℕ, suc, ◌+◌, ◌*◌, ◌^◌, ◌<◌, pos, Some, slice_get, sym, ap, ◌∙◌, arith}
use Rattle.std.proofs.Math.Nat.{mod-eq_of_lt}
use Rattle.std.proofs.lemmas.Option.{same_Some}
use Rattle.c_model.specs.Memory.{Pointer, Null, Into}
use Rattle.mon_syntax.specs.Flat.{start_of}
use Rattle.mon_syntax.specs.FlatMemory.{pointer_in}
use Rattle.mon_syntax.proofs.FlatPointers.{address_fits}
use Rattle.mon_syntax.specs.FlatRelation.{most_bytes, Place, World, PointsTo, SamePointer}

-- it is a number of 64 bits
pub pointer_below : (w : World) (p : Pointer) (x : ℕ) → SamePointer w p x → x < 18446744073709551616
pointer_below w Null x q = omega (arith, q)
pointer_below w (Into number offset) x q =
    let within : 16 * q.place.unit + offset < most_bytes q.place.name = let a = q.inside in let b = q.within in omega (arith, a, b) in
    let low = address_fits q.place.name (16 * q.place.unit + offset) within in
    let high = q.small in
    let is = q.is in
    omega (arith, low, high, is)

pub pointer_is : (w : World) (p : Pointer) (x : ℕ) → SamePointer w p x → pointer_in (pos x) ≡ x
pointer_is w p x q = mod-eq_of_lt (pointer_below w p x q)

-- two pointers into one block
pub one_place : (w : World) (number i j x y : ℕ) (p : PointsTo w number i x) (q : PointsTo w number j y) → p.place ≡ q.place
one_place w number i j x y p q =
    let a = p.is_number in
    let b = q.is_number in
    let same : p.index ≡ q.index = omega (arith, a, b) in
    same_Some p.place q.place (sym p.there ∙ ap (slice_get w) same ∙ q.there)

-- one number stands for a pointer
pub one_number : (w : World) (p : Pointer) (x y : ℕ) → SamePointer w p x → SamePointer w p y → x ≡ y
one_number w Null x y p q = p ∙ sym q
one_number w (Into number offset) x y p q =
    p.is ∙ ap (λ (z : Place). number * 2 ^ 32 + (start_of z.name + (16 * z.unit + offset))) (one_place w number offset offset x y p q) ∙ sym q.is

-- a pointer into a block isn't null
pub into_is_some : (w : World) (number offset x : ℕ) → PointsTo w number offset x → x ≢ 0
into_is_some w number offset x q = λ e. let a = q.is_number in let is = q.is in omega (arith, a, is, e)

-- the block with this index, and its place
pub index_is : (w : World) (index offset x : ℕ) (q : PointsTo w (suc index) offset x) → q.index ≡ index
index_is w index offset x q = let a = q.is_number in omega (arith, a)

pub lies : (w : World) (index offset x : ℕ) (q : PointsTo w (suc index) offset x) → slice_get w index ≡ Some q.place
lies w index offset x q = ap (slice_get w) (sym (index_is w index offset x q)) ∙ q.there
