-- What can be accessed in a block can be in its region: inside it, and aligned.
use Rattle.std.proofs.Common.{◌≡◌, ℕ, ◌+◌, ◌*◌, ◌%◌, ◌≤◌, true, ◌&&◌, nat_eq, nat_le, length, Some, slice_get, arith}
use Rattle.std.proofs.lemmas.Bool.{and_parts, and_from, eqb-true, leb-true, eq-eqb, le-leb}
use Rattle.c_model.specs.Memory.{Block, is_accessible}
use Rattle.mon_syntax.specs.declared.tree.MonType.{MonType}
use Rattle.mon_syntax.specs.declared.tree.MonType.TheVariants.{I8, U8, I16, U16, I32, U32, I64, U64, I128, Ptr}
use Rattle.mon_syntax.specs.Arithmetic.{byte_count}
use Rattle.mon_syntax.specs.Regions.{fits_at}
use Rattle.mon_syntax.specs.Flat.{Flat, region}
use Rattle.mon_syntax.specs.BlockMemory.{Blocks}
use Rattle.mon_syntax.specs.FlatRelation.{Place, World, head_of, bytes_in, marks_in, Lain, Holds}
use Rattle.mon_syntax.proofs.FlatLists.{head_at}

-- a width of accesses: units are aligned to it
abbrev pub IsWide : ℕ → Type 0
IsWide n = (u off : ℕ) → off % n ≡ 0 → (16 * u + off) % n ≡ 0

pub type_wide : (t : MonType) → IsWide (byte_count t)
type_wide I8 u off e = omega arith
type_wide U8 u off e = omega arith
type_wide I16 u off e = omega (arith, e)
type_wide U16 u off e = omega (arith, e)
type_wide I32 u off e = omega (arith, e)
type_wide U32 u off e = omega (arith, e)
type_wide I64 u off e = omega (arith, e)
type_wide U64 u off e = omega (arith, e)
type_wide I128 u off e = omega (arith, e)
type_wide Ptr u off e = omega (arith, e)

-- so many bytes from an offset on of a live block, and of its region
pub record Accessed (f : Flat) (b : Block) (p : Place) (off n : ℕ) : Type 0 where
  pub live : b.live ≡ true
  pub room : off + n ≤ b.size
  pub aligned : off % n ≡ 0
  pub in_bytes : 16 * p.unit + off + n ≤ length (bytes_in f p.name)
  pub in_marks : 16 * p.unit + off + n ≤ length (marks_in f p.name)
  pub fits : fits_at (region f p.name) (16 * p.unit + off) n ≡ true

pub accessed : (w : World) (m : Blocks) (f : Flat) (index off n : ℕ) (b : Block) (p : Place) → Holds w m f → IsWide n → slice_get m.store index ≡ Some b → slice_get w index ≡ Some p
    → is_accessible b off n ≡ true → Accessed f b p off n
accessed w m f index off n b p h wide at pl e =
    let first = and_parts b.live (nat_le (off + n) b.size && nat_eq (off % n) 0) e in
    let second = and_parts (nat_le (off + n) b.size) (nat_eq (off % n) 0) first.1 in
    let o : Lain p (head_of b) f = h.laid.lain index (head_of b) p (head_at m.store index b at) pl first.0 in
    let room : off + n ≤ b.size = leb-true _ _ second.0 in
    let aligned : off % n ≡ 0 = eqb-true _ _ second.1 in
    let sized = h.laid.sized p.name in
    let marked = h.laid.marked p.name in
    let size = o.size in
    let inside = o.inside in
    let in_bytes : 16 * p.unit + off + n ≤ length (bytes_in f p.name) = omega (arith, sized, size, inside, room) in
    record {
      live = first.0;
      room = room;
      aligned = aligned;
      in_bytes = in_bytes;
      in_marks = omega (arith, marked, size, inside, room);
      fits = and_from (nat_eq ((16 * p.unit + off) % n) 0) (nat_le (16 * p.unit + off + n) (length (bytes_in f p.name))) (eq-eqb _ _ (wide p.unit off aligned)) (le-leb _ _ in_bytes);
    }
