-- Strings over blocks and over flat memory: as far as a block's bytes are numbers, the region has the same.
use Rattle.std.proofs.Common.{◌≡◌, ℕ, zero, suc, ◌+◌, ◌*◌, ◌%◌, ◌≤◌, Bool, true, false, ◌&&◌, if◌then◌else◌, nat_eq, nat_le, List, [], length, take, drop, Option, Some, None, slice_get}
use Rattle.std.proofs.Common.{refl, sym, ap, ◌∙◌, subst, arith}
use Rattle.std.proofs.lemmas.Bool.{lt-leb}
use Rattle.c_model.specs.Memory.{Pointer, Null, Into, Integer, Points, NoValue, Byte, Block, bytes_in, is_accessible, number_of, ◌>>=◌}
use Rattle.raw_seg.specs.Bytes as raw
use Rattle.mon_syntax.specs.declared.spot.Spot.{Spot}
use Rattle.mon_syntax.specs.declared.spot.Spot.TheVariants.{Nowhere, In}
use Rattle.mon_syntax.specs.Regions.{Region, region_load}
use Rattle.mon_syntax.specs.Flat.{Flat, region, ask, spot_of, flat_byte, region_length, flat_string}
use Rattle.mon_syntax.specs.FlatMemory.{pointer_in}
use Rattle.mon_syntax.specs.BlockMemory.{Blocks, byte_after, size_in, size_around}
use Rattle.mon_syntax.specs.Strings.{GoesWith}
use Rattle.mon_syntax.specs.Laws.{BlockStrings, FlatStrings}
use Rattle.mon_syntax.specs.FlatLaws.{StringsKeep}
use Rattle.mon_syntax.specs.Following.{Kept}
use Rattle.mon_syntax.specs.FlatRelation as relation
use Rattle.mon_syntax.specs.FlatRelation.{World, PointsTo, SamePointer, Holds}
use Rattle.mon_syntax.proofs.FlatPointers.{spot_of_pointer}
use Rattle.mon_syntax.proofs.FlatAddresses.{lies, pointer_is}
use Rattle.mon_syntax.proofs.FlatAccesses.{IsWide, Accessed, accessed}
use Rattle.mon_syntax.proofs.FlatLoads.{ReadBytes, held_bytes, SameNumber, number_read}
use Rattle.mon_syntax.proofs.Strings.{is_string, goes_with}

-- ---- no byte lies from the bound on

accessible_none : (b : Block) (off n : ℕ) → b.size ≤ off → is_accessible b off (suc n) ≡ false
accessible_none b off n le = by b.live (lt-leb (off + suc n) b.size (omega (arith, le)))
  where
    by : (l : Bool) → nat_le (off + suc n) b.size ≡ false → (l && (nat_le (off + suc n) b.size && nat_eq (off % suc n) 0)) ≡ false
    by false e = refl
    by true e = ap (λ t. t && nat_eq (off % suc n) 0) e

none_in_block : (b : Blocks) (p : Pointer) (i : ℕ) → size_around b.store p ≤ i → byte_after b.store p i ≡ None
none_in_block b Null i le = refl
none_in_block b (Into zero off) i le = refl
none_in_block b (Into (suc index) off) i le = by (slice_get b.store index) le
  where
    by : (o : Option Block) → size_in o ≤ i → (bytes_in o (off + i) 1 >>= number_of) ≡ None
    by None le = refl
    by (Some k) le = ap (λ t. (if t then Some (take 1 (drop (off + i) k.bytes)) else None) >>= number_of) (accessible_none k (off + i) 0 (omega (arith, le)))

none_in_region : (r : Region) (at i : ℕ) → length r.bytes ≤ i → region_load r (at + i) 1 ≡ None
none_in_region r at i le =
    ap (λ t. if nat_eq ((at + i) % 1) 0 && t then Some (raw.number_of (raw.bytes_at r.bytes (at + i) 1)) else None) (lt-leb (at + i + 1) (length r.bytes) (omega (arith, le)))
    ∙ by (nat_eq ((at + i) % 1) 0)
  where
    by : (t : Bool) → (if t && false then Some (raw.number_of (raw.bytes_at r.bytes (at + i) 1)) else None) ≡ None
    by true = refl
    by false = refl

none_at : (f : Flat) (s : Spot) (i : ℕ) → ask f s 0 (λ r at. length r.bytes) ≤ i → ask f s None (λ r at. region_load r (at + i) 1) ≡ None
none_at f Nowhere i le = refl
none_at f (In name at) i le = none_in_region (region f name) at i le

-- ---- so a string is one whatever the bound

pub block_strings : BlockStrings
block_strings p b = is_string (byte_after b.store p) (size_around b.store p) (none_in_block b p)

pub flat_strings : FlatStrings
flat_strings f p = is_string (flat_byte f p) (region_length f p) (none_at f (spot_of p))

-- ---- bytes of both

same_number : (n : ℕ) (o : Option ℕ) (v : ℕ) → Kept (SameNumber n) o (Some v) → Kept (λ a b. a ≡ b) o (Some v)
same_number n None v k = tt
same_number n (Some i) v k = k.0

one_read : (w : World) (n : ℕ) (ys : List Byte) (v : ℕ) → ReadBytes w n ys v → Kept (λ a b. a ≡ b) (number_of ys) (Some v)
one_read w n ys v r =
    subst (λ z. Kept (λ a b. a ≡ b) (number_of ys) (Some z)) (sym r.is) (same_number (length ys) (number_of ys) (raw.number_of r.bytes) (number_read w ys r.bytes r.all))

byte_wide : IsWide 1
byte_wide u off e = omega arith

module _ (w : World) (m : Blocks) (f : Flat) (h : Holds w m f) (index off x i : ℕ) (q : PointsTo w (suc index) off x) where
  by_test : (b : Block) → slice_get m.store index ≡ Some b → (t : Bool) → is_accessible b (off + i) 1 ≡ t
      → Kept (λ a c. a ≡ c) ((if t then Some (take 1 (drop (off + i) b.bytes)) else None) >>= number_of) (flat_byte f x i)
  by_test b at false e = tt
  by_test b at true e =
      let pl = lies w index off x q in
      let a : Accessed f b q.place (off + i) 1 = accessed w m f index (off + i) 1 b q.place h byte_wide at pl e in
      let ys = take 1 (drop (off + i) b.bytes) in
      let place : 16 * q.place.unit + (off + i) ≡ 16 * q.place.unit + off + i = omega arith in
      let v = raw.number_of (raw.bytes_at (relation.bytes_in f q.place.name) (16 * q.place.unit + (off + i)) 1) in
      subst (λ z. Kept (λ a c. a ≡ c) (number_of ys) (ask f z None (λ r at. region_load r (at + i) 1))) (sym (spot_of_pointer w (suc index) off x q))
      (subst (λ z. Kept (λ a c. a ≡ c) (number_of ys) (region_load (region f q.place.name) z 1)) place
      (subst (λ z. Kept (λ a c. a ≡ c) (number_of ys) (if z then Some v else None)) (sym a.fits)
      (one_read w 1 ys v (held_bytes w f b q.place (off + i) 1 (h.held index b q.place at pl a.live) a))))

  by_block : (o : Option Block) → slice_get m.store index ≡ o → Kept (λ a c. a ≡ c) (bytes_in o (off + i) 1 >>= number_of) (flat_byte f x i)
  by_block None at = tt
  by_block (Some b) at = by_test b at (is_accessible b (off + i) 1) refl

-- where a block has a number in a byte, its region has the same
byte_alike : (w : World) (m : Blocks) (f : Flat) (p : Pointer) (x : ℕ) → Holds w m f → SamePointer w p x → (i : ℕ) → Kept (λ a b. a ≡ b) (byte_after m.store p i) (flat_byte f x i)
byte_alike w m f Null x h q i = tt
byte_alike w m f (Into zero off) x h q i = tt
byte_alike w m f (Into (suc index) off) x h q i = by_block w m f h index off x i q (slice_get m.store index) refl

-- ---- the field `string`

none_goes : (other : List ℕ × Bool) → GoesWith false [] other
none_goes other = record { rest = other.0; is = refl }

pub string_alike : StringsKeep
string_alike w (Integer z) b m f s h = none_goes (flat_string f (pointer_in b))
string_alike w NoValue b m f s h = none_goes (flat_string f (pointer_in b))
string_alike w (Points p) b m f s h =
    let x = pointer_in b in
    let is : x ≡ s.0 = ap pointer_in s.1 ∙ pointer_is w p s.0 s.2 in
    let same : SamePointer w p x = subst (SamePointer w p) (sym is) s.2 in
    goes_with (byte_after m.store p) (flat_byte f x) (byte_alike w m f p x h same) (region_length f x) (none_at f (spot_of x))
    (size_around m.store p) (region_length f x) 0 (omega arith)
