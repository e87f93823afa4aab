-- Questions about memory are answered alike over blocks and over flat memory, for live and for dead pointers and for null.
use Rattle.std.proofs.Common.{◌≡◌, ◌≢◌, ℕ, zero, suc, ◌+◌, ◌-◌, ◌*◌, ◌%◌, ◌^◌, ◌≤◌, ℤ, pos, negsuc, ◌+ℤ◌, Bool, true, false, not, ◌&&◌, if◌then◌else◌, nat_eq, nat_le, nat_lt, int_lt}
use Rattle.std.proofs.Common.{List, [], ◌∷◌, take, drop, Option, Some, None, slice_get, refl, sym, ap, ap₂, ◌∙◌, arith, subst}
use Rattle.std.proofs.lemmas.Bool.{and_from, le-leb, eq-eqb, eqb-true, ne_eqb}
use Rattle.std.proofs.lemmas.Int.{ints}
use Rattle.c_model.specs.Memory.{Pointer, Null, Into, Byte, Unwritten, Number, Piece, LoosePiece, Block, Store, is_literal, number_of, with_low_byte, is_accessible}
use Rattle.raw_seg.specs.Bytes as raw
use Rattle.shadow_segments.specs.declared.BlockNote.{BlockNote}
use Rattle.shadow_segments.specs.Shadow.{is_number, is_piece, is_written}
use Rattle.mon_syntax.specs.BlockMemory.{Blocks}
use Rattle.mon_syntax.specs.BlockMemory as blocks
use Rattle.c_model.specs.MemoryQuestions.{address_of, address_farther, part_in, part_at, answered, all_bytes, is_number_byte, is_piece_byte}
use Rattle.c_model.specs.MemoryQuestions.{is_written_byte, part_bytes, is_number_zero, is_valid, is_readable, is_initialized, has_number, has_pointer, is_inside}
use Rattle.c_model.specs.MemoryQuestions.{meet, are_separated, base_of, length_of, offset_in_block, inside, base_pointer, length_in, offset_in}
use Rattle.mon_syntax.specs.Regions.{Region}
use Rattle.mon_syntax.specs.Flat.{Flat, region, ask, number_in, spot_of, pointer_to, flat_valid, flat_valid_read, flat_initialized, flat_number, flat_pointer, flat_inside}
use Rattle.mon_syntax.specs.Flat as flat
use Rattle.mon_syntax.specs.Flat.{start_of, flat_base_addr, flat_block_length, flat_offset, flat_separated, ranges_meet}
use Rattle.mon_syntax.specs.Questions.{plus, minus, moved, range_by, live_at, if_writable, asked_at, pointer_at, is_some, if_inside, offset_by, offset_from}
use Rattle.mon_syntax.specs.Questions.{region_valid, region_valid_read, region_initialized, region_number, region_pointer, region_inside, region_offset}
use Rattle.mon_syntax.specs.Following.{Kept}
use Rattle.mon_syntax.specs.declared.tree.MonType.TheVariants.{Ptr}
use Rattle.mon_syntax.specs.FlatRelation.{Place, World, PointsTo, SamePointer, head_of, note_of, marks_in, bytes_in, Held, Holds}
use Rattle.mon_syntax.proofs.FlatPointers.{spot_of_pointer, number_is, address_is}
use Rattle.mon_syntax.proofs.FlatAddresses.{lies, one_place}
use Rattle.mon_syntax.proofs.FlatAccesses.{type_wide, accessed}
use Rattle.mon_syntax.proofs.FlatLoads.{SameNumber, held_bytes}
use Rattle.mon_syntax.proofs.FlatValues.{number_of_read}
use Rattle.mon_syntax.proofs.FlatRanges.{start_moved, Both, Neither, Together, both, number_alike, piece_alike, written_alike, range_tested}

-- a range of blocks, at an offset from a pointer
part_is : (store : Store) (index off n a : ℕ) (o : ℤ) → part_at store (address_farther (address_of (Into (suc index) off)) o) n a ≡ part_in (slice_get store index) (moved off o) n a
part_is store index off n a o = ap (λ i. part_in (slice_get store index) i n a) (start_moved off o)

-- what isn't found has no range that may be written
unwritable : (at n a : ℕ) (o : ℤ) (z : Option BlockNote) → range_by at o n a z ≡ None → range_by at o n a (if_writable z) ≡ None
unwritable at n a o None e = refl
unwritable at n a o (Some k) e = by (is_literal k.kind) refl
  where
    by : (t : Bool) → is_literal k.kind ≡ t → range_by at o n a (if t then None else Some k) ≡ None
    by true l = refl
    by false l = e

not_inside : (at : ℕ) (o : ℤ) (z : Option BlockNote) → range_by at o 0 1 z ≡ None → if_inside at o z ≡ None
not_inside at o None e = refl
not_inside at o (Some k) e = ap (λ t. if is_some t then Some k else None) e

no_offset : (at : ℕ) (o : ℤ) (z : Option BlockNote) → range_by at o 0 1 z ≡ None → offset_by at o z ≡ 0
no_offset at o None e = refl
no_offset at o (Some k) e = ap (offset_from k.base) e

-- a question about some bytes asks
some_bytes : (n : ℕ) (t : Bool) → (if nat_eq (suc n) 0 then true else t) ≡ t
some_bytes n t =
    let some : suc n ≢ 0 = λ e. absurd (omega (arith, e)) in
    ap (λ e. if e then true else t) (ne_eqb (suc n) 0 some)

-- ---- bytes that hold the number 0

low_is_some : (b : ℕ) (o : Option ℕ) → blocks.is_some (with_low_byte b o) ≡ blocks.is_some o
low_is_some b None = refl
low_is_some b (Some n) = refl

some_number : (ys : List Byte) → blocks.is_some (number_of ys) ≡ all_bytes is_number_byte ys
some_number [] = refl
some_number (Unwritten ∷ ys) = refl
some_number (Number b ∷ ys) = low_is_some b (number_of ys) ∙ some_number ys
some_number (Piece p k ∷ ys) = refl
some_number (LoosePiece ∷ ys) = refl

zero_alike : (n v : ℕ) (o : Option ℕ) → Kept (SameNumber n) o (Some v) → is_number_zero o ≡ (blocks.is_some o && nat_eq v 0)
zero_alike n v None k = refl
zero_alike n v (Some i) k = ap (λ z. nat_eq z 0) k.0

-- ---- a pointer into a block

module _ (w : World) (m : Blocks) (f : Flat) (index off x : ℕ) (o : ℤ) (h : Holds w m f) (q : PointsTo w (suc index) off x) where
  -- the region is asked at the pointer's place for its number
  asks : {A : Type 0} (none : A) (question : Region → ℕ → ℕ → A)
      → ask f (spot_of x) none (λ r i. question r i (number_in x)) ≡ question (region f q.place.name) (16 * q.place.unit + off) (suc index)
  asks none question =
      ap (λ z. ask f z none (λ r i. question r i (number_in x))) (spot_of_pointer w (suc index) off x q)
      ∙ ap (question (region f q.place.name) (16 * q.place.unit + off)) (number_is w (suc index) off x q)

  readable_range : (n a : ℕ) → answered (part_in (slice_get m.store index) (moved off o) n a) (λ p. true)
      ≡ region_valid_read (region f q.place.name) (16 * q.place.unit + off) (suc index) o n a
  readable_range n a = by (both w m f index off n a x o h q)
    where
      by : Both w m f index off n a o q.place → answered (part_in (slice_get m.store index) (moved off o) n a) (λ p. true)
          ≡ region_valid_read (region f q.place.name) (16 * q.place.unit + off) (suc index) o n a
      by (Neither e g) = ap (λ z. answered z (λ p. true)) e ∙ sym (ap is_some g)
      by (Together b j at live room aligned size held note e g) =
          ap (λ z. answered z (λ p. true)) e ∙ sym (ap (λ z. is_some (range_by (16 * q.place.unit + off) o n a z)) note ∙ ap is_some g)

  valid_range : (n a : ℕ) → answered (part_in (slice_get m.store index) (moved off o) n a) (λ p. not (is_literal p.block.kind))
      ≡ region_valid (region f q.place.name) (16 * q.place.unit + off) (suc index) o n a
  valid_range n a = by (both w m f index off n a x o h q)
    where
      by : Both w m f index off n a o q.place → answered (part_in (slice_get m.store index) (moved off o) n a) (λ p. not (is_literal p.block.kind))
          ≡ region_valid (region f q.place.name) (16 * q.place.unit + off) (suc index) o n a
      by (Neither e g) =
          ap (λ z. answered z (λ p. not (is_literal p.block.kind))) e
          ∙ sym (ap is_some (unwritable (16 * q.place.unit + off) n a o (live_at (region f q.place.name) (16 * q.place.unit + off) (suc index)) g))
      by (Together b j at live room aligned size held note e g) =
          ap (λ z. answered z (λ p. not (is_literal p.block.kind))) e ∙ kind (is_literal b.kind) refl
          ∙ sym (ap (λ z. is_some (range_by (16 * q.place.unit + off) o n a (if_writable z))) note)
        where
          kind : (t : Bool) → is_literal b.kind ≡ t
              → not t ≡ is_some (range_by (16 * q.place.unit + off) o n a (if t then None else Some (note_of index (head_of b) q.place)))
          kind true l = refl
          kind false l = sym (ap is_some g)

  initialized_range : (n a : ℕ) → answered (part_in (slice_get m.store index) (moved off o) n a) (λ p. all_bytes is_written_byte (part_bytes p n))
      ≡ region_initialized (region f q.place.name) (16 * q.place.unit + off) (suc index) o n a
  initialized_range n a = by (both w m f index off n a x o h q)
    where
      by : Both w m f index off n a o q.place → answered (part_in (slice_get m.store index) (moved off o) n a) (λ p. all_bytes is_written_byte (part_bytes p n))
          ≡ region_initialized (region f q.place.name) (16 * q.place.unit + off) (suc index) o n a
      by (Neither e g) = ap (λ z. answered z (λ p. all_bytes is_written_byte (part_bytes p n))) e ∙ sym (ap (asked_at is_written (marks_in f q.place.name) n) g)
      by (Together b j at live room aligned size held note e g) =
          ap (λ z. answered z (λ p. all_bytes is_written_byte (part_bytes p n))) e
          ∙ range_tested is_written_byte is_written written_alike w q.place b f j n held room
          ∙ sym (ap (λ z. asked_at is_written (marks_in f q.place.name) n (range_by (16 * q.place.unit + off) o n a z)) note ∙ ap (asked_at is_written (marks_in f q.place.name) n) g)

  number_range : (n : ℕ) → answered (part_in (slice_get m.store index) (moved off o) n n) (λ p. all_bytes is_number_byte (part_bytes p n))
      ≡ region_number (region f q.place.name) (16 * q.place.unit + off) (suc index) o n
  number_range n = by (both w m f index off n n x o h q)
    where
      by : Both w m f index off n n o q.place → answered (part_in (slice_get m.store index) (moved off o) n n) (λ p. all_bytes is_number_byte (part_bytes p n))
          ≡ region_number (region f q.place.name) (16 * q.place.unit + off) (suc index) o n
      by (Neither e g) = ap (λ z. answered z (λ p. all_bytes is_number_byte (part_bytes p n))) e ∙ sym (ap (asked_at is_number (marks_in f q.place.name) n) g)
      by (Together b j at live room aligned size held note e g) =
          ap (λ z. answered z (λ p. all_bytes is_number_byte (part_bytes p n))) e
          ∙ range_tested is_number_byte is_number number_alike w q.place b f j n held room
          ∙ sym (ap (λ z. asked_at is_number (marks_in f q.place.name) n (range_by (16 * q.place.unit + off) o n n z)) note ∙ ap (asked_at is_number (marks_in f q.place.name) n) g)

  -- eight bytes of a live block
  pointer_bytes : (b : Block) (j : ℕ) → slice_get m.store index ≡ Some b → b.live ≡ true → j + 8 ≤ b.size → j % 8 ≡ 0 → Held w q.place b f
      → (if all_bytes is_piece_byte (take 8 (drop j b.bytes)) then true else is_number_zero (number_of (take 8 (drop j b.bytes))))
      ≡ pointer_at (region f q.place.name) (Some (16 * q.place.unit + j))
  pointer_bytes b j at live room aligned held =
      let ys = take 8 (drop j b.bytes) in
      let access : is_accessible b j 8 ≡ true =
      and_from b.live (nat_le (j + 8) b.size && nat_eq (j % 8) 0) live (and_from (nat_le (j + 8) b.size) (nat_eq (j % 8) 0) (le-leb _ _ room) (eq-eqb _ _ aligned)) in
      let read = held_bytes w f b q.place j 8 held (accessed w m f index j 8 b q.place h (type_wide Ptr) at (lies w index off x q) access) in
      let v : ℕ = raw.number_of (raw.bytes_at (bytes_in f q.place.name) (16 * q.place.unit + j) 8) in
      ap₂ (λ s t. if s then true else t) (range_tested is_piece_byte is_piece piece_alike w q.place b f j 8 held room)
      (zero_alike 8 v (number_of ys) (number_of_read w 8 ys v read)
      ∙ ap (λ t. t && nat_eq v 0) (some_number ys ∙ range_tested is_number_byte is_number number_alike w q.place b f j 8 held room))

  pointer_range : answered (part_in (slice_get m.store index) (moved off o) 8 8) (λ p. if all_bytes is_piece_byte (part_bytes p 8) then true else is_number_zero (number_of (part_bytes p 8)))
      ≡ region_pointer (region f q.place.name) (16 * q.place.unit + off) (suc index) o
  pointer_range = by (both w m f index off 8 8 x o h q)
    where
      by : Both w m f index off 8 8 o q.place
          → answered (part_in (slice_get m.store index) (moved off o) 8 8) (λ p. if all_bytes is_piece_byte (part_bytes p 8) then true else is_number_zero (number_of (part_bytes p 8)))
          ≡ region_pointer (region f q.place.name) (16 * q.place.unit + off) (suc index) o
      by (Neither e g) =
          ap (λ z. answered z (λ p. if all_bytes is_piece_byte (part_bytes p 8) then true else is_number_zero (number_of (part_bytes p 8)))) e
          ∙ sym (ap (pointer_at (region f q.place.name)) g)
      by (Together b j at live room aligned size held note e g) =
          ap (λ z. answered z (λ p. if all_bytes is_piece_byte (part_bytes p 8) then true else is_number_zero (number_of (part_bytes p 8)))) e
          ∙ pointer_bytes b j at live room aligned held
          ∙ sym (ap (λ z. pointer_at (region f q.place.name) (range_by (16 * q.place.unit + off) o 8 8 z)) note ∙ ap (pointer_at (region f q.place.name)) g)

  -- the record of the block, if the pointer is inside it
  inside_there : flat_inside f x o ≡ region_inside (region f q.place.name) (16 * q.place.unit + off) (suc index) o
  inside_there = asks None (λ r i number. region_inside r i number o)

  inside_record : (b : Block) (j : ℕ) → live_at (region f q.place.name) (16 * q.place.unit + off) (suc index) ≡ Some (note_of index (head_of b) q.place)
      → range_by (16 * q.place.unit + off) o 0 1 (Some (note_of index (head_of b) q.place)) ≡ Some (16 * q.place.unit + j)
      → flat_inside f x o ≡ Some (note_of index (head_of b) q.place)
  inside_record b j note g =
      inside_there ∙ ap (if_inside (16 * q.place.unit + off) o) note ∙ ap (λ t. if is_some t then Some (note_of index (head_of b) q.place) else None) g

  inside_nothing : range_by (16 * q.place.unit + off) o 0 1 (live_at (region f q.place.name) (16 * q.place.unit + off) (suc index)) ≡ None → flat_inside f x o ≡ None
  inside_nothing g = inside_there ∙ not_inside (16 * q.place.unit + off) o (live_at (region f q.place.name) (16 * q.place.unit + off) (suc index)) g

  inside_range : answered (part_in (slice_get m.store index) (moved off o) 0 1) (λ p. true) ≡ is_some (flat_inside f x o)
  inside_range = by (both w m f index off 0 1 x o h q)
    where
      by : Both w m f index off 0 1 o q.place → answered (part_in (slice_get m.store index) (moved off o) 0 1) (λ p. true) ≡ is_some (flat_inside f x o)
      by (Neither e g) = ap (λ z. answered z (λ p. true)) e ∙ sym (ap is_some (inside_nothing g))
      by (Together b j at live room aligned size held note e g) = ap (λ z. answered z (λ p. true)) e ∙ sym (ap is_some (inside_record b j note g))

  length_range : length_in (part_in (slice_get m.store index) (moved off o) 0 1) ≡ flat_block_length f x o
  length_range = by (both w m f index off 0 1 x o h q)
    where
      by : Both w m f index off 0 1 o q.place → length_in (part_in (slice_get m.store index) (moved off o) 0 1) ≡ flat_block_length f x o
      by (Neither e g) = ap length_in e ∙ sym (ap flat.length_of (inside_nothing g))
      by (Together b j at live room aligned size held note e g) = ap length_in e ∙ sym size ∙ sym (ap flat.length_of (inside_record b j note g))

  offset_range : offset_in (part_in (slice_get m.store index) (moved off o) 0 1) ≡ region_offset (region f q.place.name) (16 * q.place.unit + off) (suc index) o
  offset_range = by (both w m f index off 0 1 x o h q)
    where
      by : Both w m f index off 0 1 o q.place → offset_in (part_in (slice_get m.store index) (moved off o) 0 1) ≡ region_offset (region f q.place.name) (16 * q.place.unit + off) (suc index) o
      by (Neither e g) = ap offset_in e ∙ sym (no_offset (16 * q.place.unit + off) o (live_at (region f q.place.name) (16 * q.place.unit + off) (suc index)) g)
      by (Together b j at live room aligned size held note e g) =
          let back : 16 * q.place.unit + j - 16 * q.place.unit ≡ j = omega arith in
          ap offset_in e ∙ sym (ap (offset_by (16 * q.place.unit + off) o) note ∙ ap (offset_from (16 * q.place.unit)) g ∙ back)

  -- the start of the block stands for its start
  base_range : SamePointer w (base_pointer (suc index) (part_in (slice_get m.store index) (moved off o) 0 1)) (flat_base_addr f x o)
  base_range = by (both w m f index off 0 1 x o h q)
    where
      at_start : PointsTo w (suc index) 0 (pointer_to (suc index) q.place.name (16 * q.place.unit))
      at_start = record {
        index = q.index;
        place = q.place;
        is_number = q.is_number;
        there = q.there;
        small = q.small;
        inside = omega arith;
        within = q.within;
        is = omega arith;
      }

      by : Both w m f index off 0 1 o q.place → SamePointer w (base_pointer (suc index) (part_in (slice_get m.store index) (moved off o) 0 1)) (flat_base_addr f x o)
      by (Neither e g) = subst (λ z. SamePointer w (base_pointer (suc index) z) (flat_base_addr f x o)) (sym e) (ap (flat.base_pointer (number_in x) (spot_of x)) (inside_nothing g))
      by (Together b j at live room aligned size held note e g) =
          subst (λ z. SamePointer w (base_pointer (suc index) z) (flat_base_addr f x o)) (sym e)
          (subst (PointsTo w (suc index) 0) (sym (ap (flat.base_pointer (number_in x) (spot_of x)) (inside_record b j note g)
          ∙ ap₂ (λ n s. flat.base_pointer n s (Some (note_of index (head_of b) q.place))) (number_is w (suc index) off x q) (spot_of_pointer w (suc index) off x q))) at_start)

  -- ---- the answers of both memories

  valid_into : (n : ℤ) (a : ℕ) → is_valid m.store (address_farther (address_of (Into (suc index) off)) o) n a ≡ flat_valid f x o n a
  valid_into (pos zero) a = refl
  valid_into (negsuc n) a = refl
  valid_into (pos (suc n)) a =
      ap (λ z. answered z (λ p. not (is_literal p.block.kind))) (part_is m.store index off (suc n) a o) ∙ valid_range (suc n) a
      ∙ sym (some_bytes n _ ∙ asks false (λ r i number. region_valid r i number o (suc n) a))

  readable_into : (n : ℤ) (a : ℕ) → is_readable m.store (address_farther (address_of (Into (suc index) off)) o) n a ≡ flat_valid_read f x o n a
  readable_into (pos zero) a = refl
  readable_into (negsuc n) a = refl
  readable_into (pos (suc n)) a =
      ap (λ z. answered z (λ p. true)) (part_is m.store index off (suc n) a o) ∙ readable_range (suc n) a
      ∙ sym (some_bytes n _ ∙ asks false (λ r i number. region_valid_read r i number o (suc n) a))

  initialized_into : (n : ℤ) (a : ℕ) → is_initialized m.store (address_farther (address_of (Into (suc index) off)) o) n a ≡ flat_initialized f x o n a
  initialized_into (pos zero) a = refl
  initialized_into (negsuc n) a = refl
  initialized_into (pos (suc n)) a =
      ap (λ z. answered z (λ p. all_bytes is_written_byte (part_bytes p (suc n)))) (part_is m.store index off (suc n) a o) ∙ initialized_range (suc n) a
      ∙ sym (some_bytes n _ ∙ asks false (λ r i number. region_initialized r i number o (suc n) a))

  number_into : (n : ℕ) → has_number m.store (address_farther (address_of (Into (suc index) off)) o) n ≡ flat_number f x o n
  number_into n =
      ap (λ z. answered z (λ p. all_bytes is_number_byte (part_bytes p n))) (part_is m.store index off n n o) ∙ number_range n
      ∙ sym (asks false (λ r i number. region_number r i number o n))

  pointer_into : has_pointer m.store (address_farther (address_of (Into (suc index) off)) o) ≡ flat_pointer f x o
  pointer_into =
      ap (λ z. answered z (λ p. if all_bytes is_piece_byte (part_bytes p 8) then true else is_number_zero (number_of (part_bytes p 8)))) (part_is m.store index off 8 8 o)
      ∙ pointer_range ∙ sym (asks false (λ r i number. region_pointer r i number o))

  inside_into : is_inside m.store (address_farther (address_of (Into (suc index) off)) o) ≡ is_some (flat_inside f x o)
  inside_into = ap (λ z. answered z (λ p. true)) (part_is m.store index off 0 1 o) ∙ inside_range

  base_into : SamePointer w (base_of m.store (address_farther (address_of (Into (suc index) off)) o)) (flat_base_addr f x o)
  base_into = subst (λ z. SamePointer w (base_pointer (suc index) z) (flat_base_addr f x o)) (sym (part_is m.store index off 0 1 o)) base_range

  length_into : length_of m.store (address_farther (address_of (Into (suc index) off)) o) ≡ flat_block_length f x o
  length_into = ap length_in (part_is m.store index off 0 1 o) ∙ length_range

  offset_into : offset_in_block m.store (address_farther (address_of (Into (suc index) off)) o) ≡ flat_offset f x o
  offset_into = ap offset_in (part_is m.store index off 0 1 o) ∙ offset_range ∙ sym (asks 0 (λ r i number. region_offset r i number o))

-- ---- any pointer

module _ (w : World) (m : Blocks) (f : Flat) (o : ℤ) (h : Holds w m f) where
  null_valid : (n : ℤ) (a : ℕ) → is_valid m.store (address_farther (address_of Null) o) n a ≡ flat_valid f 0 o n a
  null_valid (pos zero) a = refl
  null_valid (negsuc n) a = refl
  null_valid (pos (suc n)) a = sym (some_bytes n false)

  null_readable : (n : ℤ) (a : ℕ) → is_readable m.store (address_farther (address_of Null) o) n a ≡ flat_valid_read f 0 o n a
  null_readable (pos zero) a = refl
  null_readable (negsuc n) a = refl
  null_readable (pos (suc n)) a = sym (some_bytes n false)

  null_initialized : (n : ℤ) (a : ℕ) → is_initialized m.store (address_farther (address_of Null) o) n a ≡ flat_initialized f 0 o n a
  null_initialized (pos zero) a = refl
  null_initialized (negsuc n) a = refl
  null_initialized (pos (suc n)) a = sym (some_bytes n false)

  pub valid_alike : (p : Pointer) (x : ℕ) → SamePointer w p x → (n : ℤ) (a : ℕ) → is_valid m.store (address_farther (address_of p) o) n a ≡ flat_valid f x o n a
  valid_alike Null x q n a = null_valid n a ∙ sym (ap (λ z. flat_valid f z o n a) q)
  valid_alike (Into zero off) x q n a = let e = q.is_number in absurd (omega (arith, e))
  valid_alike (Into (suc index) off) x q n a = valid_into w m f index off x o h q n a

  pub readable_alike : (p : Pointer) (x : ℕ) → SamePointer w p x → (n : ℤ) (a : ℕ) → is_readable m.store (address_farther (address_of p) o) n a ≡ flat_valid_read f x o n a
  readable_alike Null x q n a = null_readable n a ∙ sym (ap (λ z. flat_valid_read f z o n a) q)
  readable_alike (Into zero off) x q n a = let e = q.is_number in absurd (omega (arith, e))
  readable_alike (Into (suc index) off) x q n a = readable_into w m f index off x o h q n a

  pub initialized_alike : (p : Pointer) (x : ℕ) → SamePointer w p x → (n : ℤ) (a : ℕ) → is_initialized m.store (address_farther (address_of p) o) n a ≡ flat_initialized f x o n a
  initialized_alike Null x q n a = null_initialized n a ∙ sym (ap (λ z. flat_initialized f z o n a) q)
  initialized_alike (Into zero off) x q n a = let e = q.is_number in absurd (omega (arith, e))
  initialized_alike (Into (suc index) off) x q n a = initialized_into w m f index off x o h q n a

  pub number_alike_at : (p : Pointer) (x : ℕ) → SamePointer w p x → (n : ℕ) → has_number m.store (address_farther (address_of p) o) n ≡ flat_number f x o n
  number_alike_at Null x q n = sym (ap (λ z. flat_number f z o n) q)
  number_alike_at (Into zero off) x q n = let e = q.is_number in absurd (omega (arith, e))
  number_alike_at (Into (suc index) off) x q n = number_into w m f index off x o h q n

  pub pointer_alike : (p : Pointer) (x : ℕ) → SamePointer w p x → has_pointer m.store (address_farther (address_of p) o) ≡ flat_pointer f x o
  pointer_alike Null x q = sym (ap (λ z. flat_pointer f z o) q)
  pointer_alike (Into zero off) x q = let e = q.is_number in absurd (omega (arith, e))
  pointer_alike (Into (suc index) off) x q = pointer_into w m f index off x o h q

  pub inside_alike : (p : Pointer) (x : ℕ) → SamePointer w p x → is_inside m.store (address_farther (address_of p) o) ≡ is_some (flat_inside f x o)
  inside_alike Null x q = sym (ap (λ z. is_some (flat_inside f z o)) q)
  inside_alike (Into zero off) x q = let e = q.is_number in absurd (omega (arith, e))
  inside_alike (Into (suc index) off) x q = inside_into w m f index off x o h q

  pub base_alike : (p : Pointer) (x : ℕ) → SamePointer w p x → SamePointer w (base_of m.store (address_farther (address_of p) o)) (flat_base_addr f x o)
  base_alike Null x q = ap (λ z. flat_base_addr f z o) q
  base_alike (Into zero off) x q = let e = q.is_number in absurd (omega (arith, e))
  base_alike (Into (suc index) off) x q = base_into w m f index off x o h q

  pub length_alike : (p : Pointer) (x : ℕ) → SamePointer w p x → length_of m.store (address_farther (address_of p) o) ≡ flat_block_length f x o
  length_alike Null x q = sym (ap (λ z. flat_block_length f z o) q)
  length_alike (Into zero off) x q = let e = q.is_number in absurd (omega (arith, e))
  length_alike (Into (suc index) off) x q = length_into w m f index off x o h q

  pub offset_alike : (p : Pointer) (x : ℕ) → SamePointer w p x → offset_in_block m.store (address_farther (address_of p) o) ≡ flat_offset f x o
  offset_alike Null x q = sym (ap (λ z. flat_offset f z o) q)
  offset_alike (Into zero off) x q = let e = q.is_number in absurd (omega (arith, e))
  offset_alike (Into (suc index) off) x q = offset_into w m f index off x o h q

-- ---- ranges that share no byte

has_bytes : (n : ℤ) → int_lt (pos 0) n ≡ nat_lt 0 (plus n)
has_bytes (pos n) = refl
has_bytes (negsuc n) = refl

-- offsets in one block, which begins at an address
module _ (base i j k : ℕ) where
  before : (o u : ℤ) → int_lt (pos j +ℤ u) (pos i +ℤ o +ℤ pos k) ≡ nat_lt (base + j + plus u + minus o) (base + i + plus o + minus u + k)
  before (pos o) (pos u) = grind (arith, ints)
  before (pos o) (negsuc u) = grind (arith, ints)
  before (negsuc o) (pos u) = grind (arith, ints)
  before (negsuc o) (negsuc u) = grind (arith, ints)

-- the block of a pointer is the number in its upper half
block_is : (w : World) (p : Pointer) (x : ℕ) → SamePointer w p x → (address_of p).block ≡ number_in x
block_is w Null x q = sym (ap number_in q)
block_is w (Into n i) x q = sym (number_is w n i x q)

-- where the block of a pointer begins, if there is one
data Begun (p : Pointer) (x base : ℕ) : Type 0 where
  Starts : (i : ℕ) → (address_of p).offset ≡ pos i → x % 2 ^ 32 ≡ base + i → Begun p x base

begun : (w : World) (p : Pointer) (x : ℕ) → SamePointer w p x → (base : ℕ) × Begun p x base
begun w Null x q = (0, Starts 0 refl (ap (λ z. z % 2 ^ 32) q))
begun w (Into n i) x q =
    let at = address_is w n i x q in
    (start_of q.place.name + 16 * q.place.unit, Starts i refl (omega (arith, at)))

-- two pointers with one number begin at one address
begun_there : (w : World) (p q : Pointer) (x y : ℕ) → (s : SamePointer w p x) → SamePointer w q y → (address_of p).block ≡ (address_of q).block → Begun q y (begun w p x s).0
unfolding begun
begun_there w Null Null x y s t e = Starts 0 refl (ap (λ z. z % 2 ^ 32) t)
begun_there w Null (Into m j) x y s t e = let k = t.is_number in absurd (omega (arith, e, k))
begun_there w (Into n i) Null x y s t e = let k = s.is_number in absurd (omega (arith, e, k))
begun_there w (Into n i) (Into m j) x y s t e =
    let there : PointsTo w n j y = subst (λ z. PointsTo w z j y) (sym e) t in
    let place : s.place ≡ there.place = one_place w n i j x y s there in
    let at = address_is w n j y there in
    let first : y % 2 ^ 32 ≡ start_of s.place.name + (16 * s.place.unit + j) = at ∙ ap (λ (z : Place). start_of z.name + (16 * z.unit + j)) (sym place) in
    Starts j refl (omega (arith, first))

-- ranges of some bytes of one block
meet_alike : (p q : Pointer) (x y base : ℕ) (o u : ℤ) (k l : ℕ) → Begun p x base → Begun q y base
    → meet (address_farther (address_of p) o) (pos k) (address_farther (address_of q) u) (pos l) ≡ ranges_meet (x % 2 ^ 32) o (pos k) (y % 2 ^ 32) u (pos l)
meet_alike p q x y base o u k l (Starts i pi xi) (Starts j qj yj) =
    ap₂ (λ a b. int_lt (b +ℤ u) (a +ℤ o +ℤ pos k) && int_lt (a +ℤ o) (b +ℤ u +ℤ pos l)) pi qj
    ∙ ap₂ (λ s t. s && t) (before base i j k o u) (before base j i l u o)
    ∙ sym (ap₂ (λ a b. ranges_meet a o (pos k) b u (pos l)) xi yj)

numbered : (w : World) (p q : Pointer) (x y : ℕ) (o u : ℤ) (k l : ℕ) → SamePointer w p x → SamePointer w q y
    → (nat_eq (address_of p).block (address_of q).block && meet (address_farther (address_of p) o) (pos k) (address_farther (address_of q) u) (pos l))
    ≡ (nat_eq (number_in x) (number_in y) && ranges_meet (x % 2 ^ 32) o (pos k) (y % 2 ^ 32) u (pos l))
numbered w p q x y o u k l s t = by (nat_eq (address_of p).block (address_of q).block) refl
  where
    same : nat_eq (address_of p).block (address_of q).block ≡ nat_eq (number_in x) (number_in y)
    same = ap₂ nat_eq (block_is w p x s) (block_is w q y t)

    by : (e : Bool) → nat_eq (address_of p).block (address_of q).block ≡ e
        → (nat_eq (address_of p).block (address_of q).block && meet (address_farther (address_of p) o) (pos k) (address_farther (address_of q) u) (pos l))
        ≡ (nat_eq (number_in x) (number_in y) && ranges_meet (x % 2 ^ 32) o (pos k) (y % 2 ^ 32) u (pos l))
    by false e =
        ap (λ b. b && meet (address_farther (address_of p) o) (pos k) (address_farther (address_of q) u) (pos l)) e
        ∙ sym (ap (λ b. b && ranges_meet (x % 2 ^ 32) o (pos k) (y % 2 ^ 32) u (pos l)) (sym same ∙ e))
    by true e =
        ap₂ (λ b c. b && c) same (meet_alike p q x y (begun w p x s).0 o u k l (begun w p x s).1 (begun_there w p q x y s t (eqb-true _ _ e)))

pub separated_alike : (w : World) (p q : Pointer) (x y : ℕ) (o u : ℤ) → SamePointer w p x → SamePointer w q y → (n m : ℤ)
    → are_separated (address_farther (address_of p) o) n (address_farther (address_of q) u) m ≡ flat_separated x o n y u m
separated_alike w p q x y o u s t (negsuc n) m = refl
separated_alike w p q x y o u s t (pos n) (negsuc m) = refl
separated_alike w p q x y o u s t (pos n) (pos m) = ap (λ b. not (nat_lt 0 n && (nat_lt 0 m && b))) (numbered w p q x y o u n m s t)
