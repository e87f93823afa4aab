-- Loads over blocks and over flat memory.
use Rattle.std.proofs.Common.{◌≡◌, ℕ, zero, suc, ◌+◌, ◌*◌, ◌^◌, ◌<◌, ◌≤◌, Bool, true, false, if◌then◌else◌, List, [], ◌∷◌, length, take, drop, Option, Some, None, get_or, slice_get}
use Rattle.std.proofs.Common.{refl, sym, ap, ◌∙◌, subst, arith, pow-suc}
use Rattle.std.proofs.lemmas.List.{length-take-le, length-drop, get_or-take, get_or-drop}
use Rattle.c_model.specs.Memory.{Pointer, Null, Into, Byte, Unwritten, Number, Piece, LoosePiece, Block, bytes_in, load_bytes, is_accessible, number_of, with_low_byte}
use Rattle.shadow_segments.specs.Shadow as shadow
use Rattle.shadow_segments.specs.Shadow.{Mark}
use Rattle.raw_seg.specs.Bytes as raw
use Rattle.mon_syntax.specs.Flat.{Flat, load_spot, flat_load}
use Rattle.mon_syntax.specs.BlockMemory.{Blocks}
use Rattle.mon_syntax.specs.Following.{Kept, AllKept}
use Rattle.mon_syntax.specs.FlatRelation as relation
use Rattle.mon_syntax.specs.FlatRelation.{Place, World, PointsTo, SamePointer, SameByte, marks_in, Held, Holds}
use Rattle.mon_syntax.proofs.FlatPointers.{spot_of_pointer}
use Rattle.mon_syntax.proofs.FlatAddresses.{lies}
use Rattle.mon_syntax.proofs.FlatAccesses.{IsWide, Accessed, accessed}

-- ---- bytes that are read

-- a byte of a block, and a byte of a region under some mark
abbrev pub ReadByte : World → Byte → ℕ → Type 0
ReadByte w y x = (mark : Mark) × SameByte w y mark x

-- so many bytes of a block, and the number that as many of a region hold
pub record ReadBytes (w : World) (n : ℕ) (ys : List Byte) (v : ℕ) : Type 0 where
  pub bytes : List ℕ
  pub is : v ≡ raw.number_of bytes
  pub long : length ys ≡ n
  pub all : AllKept (ReadByte w) ys bytes

all_read : (w : World) (ys : List Byte) (xs : List ℕ) → length ys ≡ length xs → ((i : ℕ) → i < length ys → ReadByte w (get_or ys i Unwritten) (get_or xs i 0)) → AllKept (ReadByte w) ys xs
all_read w [] [] e each = tt
all_read w [] (x ∷ xs) e each = absurd (omega (arith, e))
all_read w (y ∷ ys) [] e each = absurd (omega (arith, e))
all_read w (y ∷ ys) (x ∷ xs) e each = (each 0 (omega arith), all_read w ys xs (omega (arith, e)) (λ i lt. each (suc i) (omega (arith, lt))))

-- a part of a list
pub length-part : {A : Type 0} (xs : List A) (at n : ℕ) → at + n ≤ length xs → length (take n (drop at xs)) ≡ n
length-part xs at n le = length-take-le n (drop at xs) (omega (arith, length-drop at xs, le))

pub part_at : {A : Type 0} (xs : List A) (at n i : ℕ) (d : A) → i < n → get_or (take n (drop at xs)) i d ≡ get_or xs (at + i) d
part_at xs at n i d lt = get_or-take n (drop at xs) i d lt ∙ get_or-drop at xs i d

-- those of a live block
pub held_bytes : (w : World) (f : Flat) (b : Block) (p : Place) (off n : ℕ) → Held w p b f → Accessed f b p off n
    → ReadBytes w n (take n (drop off b.bytes)) (raw.number_of (raw.bytes_at (relation.bytes_in f p.name) (16 * p.unit + off) n))
held_bytes w f b p off n h a =
    let room = a.room in
    let size = h.size in
    let mine : off + n ≤ length b.bytes = omega (arith, room, size) in
    let theirs = a.in_bytes in
    let first = length-part b.bytes off n mine in
    let second = length-part (relation.bytes_in f p.name) (16 * p.unit + off) n theirs in
    record {
      bytes = raw.bytes_at (relation.bytes_in f p.name) (16 * p.unit + off) n;
      is = refl;
      long = first;
      all = all_read w (take n (drop off b.bytes)) (raw.bytes_at (relation.bytes_in f p.name) (16 * p.unit + off) n) (first ∙ sym second) (λ i lt.
          let below : i < n = omega (arith, lt, first) in
          let place : 16 * p.unit + (off + i) ≡ 16 * p.unit + off + i = omega arith in (
            get_or (marks_in f p.name) (16 * p.unit + (off + i)) shadow.Unwritten,
            subst (λ z. SameByte w z (get_or (marks_in f p.name) (16 * p.unit + (off + i)) shadow.Unwritten) (get_or (raw.bytes_at (relation.bytes_in f p.name) (16 * p.unit + off) n) i 0)) (sym (part_at b.bytes off n i Unwritten below))
                (subst (SameByte w (get_or b.bytes (off + i) Unwritten) (get_or (marks_in f p.name) (16 * p.unit + (off + i)) shadow.Unwritten))
                (ap (λ z. get_or (relation.bytes_in f p.name) z 0) place ∙ sym (part_at (relation.bytes_in f p.name) (16 * p.unit + off) n i 0 below))
                (h.bytes (off + i) (omega (arith, below, room)))),
          ));
    }

-- ---- a load of bytes

module _ (w : World) (m : Blocks) (f : Flat) (h : Holds w m f) (index off x n : ℕ) (q : PointsTo w (suc index) off x) (wide : IsWide n) where
  by_test : (b : Block) → slice_get m.store index ≡ Some b → (t : Bool) → is_accessible b off n ≡ t
      → Kept (ReadBytes w n) (if t then Some (take n (drop off b.bytes)) else None) (flat_load f x n)
  by_test b at false e = tt
  by_test b at true e =
      let pl = lies w index off x q in
      let a : Accessed f b q.place off n = accessed w m f index off n b q.place h wide at pl e in
      let ys = take n (drop off b.bytes) in
      subst (λ z. Kept (ReadBytes w n) (Some ys) (load_spot f z n)) (sym (spot_of_pointer w (suc index) off x q))
      (subst (λ z. Kept (ReadBytes w n) (Some ys) (if z then Some (raw.number_of (raw.bytes_at (relation.bytes_in f q.place.name) (16 * q.place.unit + off) n)) else None)) (sym a.fits)
      (held_bytes w f b q.place off n (h.held index b q.place at pl a.live) a))

  by_block : (o : Option Block) → slice_get m.store index ≡ o → Kept (ReadBytes w n) (bytes_in o off n) (flat_load f x n)
  by_block None at = tt
  by_block (Some b) at = by_test b at (is_accessible b off n) refl

  pub read_inside : Kept (ReadBytes w n) (load_bytes m.store (Into (suc index) off) n) (flat_load f x n)
  read_inside = by_block (slice_get m.store index) refl

-- where so many bytes of a block can be read, as many of flat memory can
pub read_alike : (w : World) (m : Blocks) (f : Flat) (p : Pointer) (x n : ℕ) → Holds w m f → SamePointer w p x → IsWide n
    → Kept (ReadBytes w n) (load_bytes m.store p n) (flat_load f x n)
read_alike w m f Null x n h q wide = tt
read_alike w m f (Into zero off) x n h q wide = tt
read_alike w m f (Into (suc index) off) x n h q wide = read_inside w m f h index off x n q wide

-- ---- numbers

-- one number, with so many bytes
abbrev pub SameNumber : ℕ → ℕ → ℕ → Type 0
SameNumber n i j = (i ≡ j) × (i < 256 ^ n)

low_byte : (n b x v : ℕ) (o : Option ℕ) → x ≡ b → b < 256 → Kept (SameNumber n) o (Some v) → Kept (SameNumber (suc n)) (with_low_byte b o) (Some (x + 256 * v))
low_byte n b x v None e lt k = tt
low_byte n b x v (Some i) e lt k =
    let same = k.0 in
    let below = k.1 in
    (omega (arith, e, same), let power = pow-suc 256 n in omega (arith, lt, below, power))

-- where bytes of a block are a number, those of the region are the same one
pub number_read : (w : World) (ys : List Byte) (xs : List ℕ) → AllKept (ReadByte w) ys xs → Kept (SameNumber (length ys)) (number_of ys) (Some (raw.number_of xs))
number_read w [] [] k = (refl, omega arith)
number_read w [] (x ∷ xs) k = absurd k
number_read w (y ∷ ys) [] k = absurd k
number_read w (Unwritten ∷ ys) (x ∷ xs) k = tt
number_read w (Number b ∷ ys) (x ∷ xs) k = low_byte (length ys) b x (raw.number_of xs) (number_of ys) k.0.1.1 k.0.1.2 (number_read w ys xs k.1)
number_read w (Piece p i ∷ ys) (x ∷ xs) k = tt
number_read w (LoosePiece ∷ ys) (x ∷ xs) k = tt
