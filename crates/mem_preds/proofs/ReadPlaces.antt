-- A place that is asked about first is read only where it can be.
use Rattle.std.proofs.Common.{◌≡◌, ℕ, ◌+◌, ◌%◌, ◌^◌, ◌≤◌, ℤ, pos, negsuc, ◌+ℤ◌, Bool, true, false, ◌&&◌, if◌then◌else◌, nat_eq, nat_le, int_le, List, [], ◌∷◌, take, drop, Option, Some, None, option_map}
use Rattle.std.proofs.Common.{refl, sym, ap, ap₂, ◌∙◌, arith}
use Rattle.std.specs.Prelude.{is_some}
use Rattle.std.proofs.lemmas.Bool.{and_parts, and_from, leb-true, le-leb}
use Rattle.std.proofs.lemmas.Int.{ints}
use Rattle.c_syntax.specs.declared.types.CInt.{CInt}
use Rattle.c_syntax.specs.Layouts.{Scalar, IntegerType, PointerType, int_size}
use Rattle.c_model.specs.Integers.{value_of_bits}
use Rattle.c_model.specs.Memory.{Pointer, Null, Into, Value, Integer, Points, Byte, Block, Store, block_at, is_accessible, bytes_in, load, value_from, number_of, with_low_byte, moved, offset_in, live_size, Unwritten, Number, Piece, LoosePiece}
use Rattle.c_model.specs.Memory as memory
use Rattle.c_model.specs.MemoryQuestions.{Part, part, part_in, part_at, from_start, address_farther, address_of, answered, all_bytes, is_number_byte, is_piece_byte, is_number_zero, part_bytes, has_number, has_pointer}
use Rattle.c_model.specs.Logic.{load_from, pointer_at}
use Rattle.c_model.specs.Together.{AllTogether}
use Rattle.c_model.specs.Library.{is_there}
use Rattle.c_model.proofs.Together.{pointers_load}
use Rattle.mon_syntax.specs.declared.tree.MonType.{MonType}
use Rattle.mon_syntax.specs.declared.tree.MonType.TheVariants.{I64, Ptr}
use Rattle.mon_syntax.specs.Arithmetic.{fits, wrap, least, greatest}
use Rattle.mon_syntax.specs.BlockMemory.{Blocks, over_blocks, scalar_type, load_scalar}
use Rattle.mon_syntax.specs.BlockMemory as blocks
use Rattle.mon_syntax.specs.Meaning.{eval, ◌>>=◌}
use Rattle.mon_syntax.specs.Trees.{MonExpression}
use Rattle.mon_syntax.proofs.Wrapping.{wrap-fitting}
use Rattle.mem_preds.specs.Questions.{read_at}
use Rattle.mem_preds.specs.Reads.{AreSmall, NumbersAreRead, PointersAreRead}

abbrev is_pointer_part : Part → Bool
is_pointer_part p = if all_bytes is_piece_byte (part_bytes p 8) then true else is_number_zero (number_of (part_bytes p 8))

-- ---- where a range is, C's pointer so many bytes farther is that place

-- a range at an offset from a pointer into a block: where it begins, inside the block
record Reached (store : Store) (n i : ℕ) (d : ℤ) : Type 0 where
  to : ℕ
  sum : pos i +ℤ d ≡ pos to
  size : ℕ
  live : live_size (block_at store n) ≡ Some size
  below : to ≤ size
  small : size ≤ 2 ^ 62

reached : (store : Store) (n i w a : ℕ) (d : ℤ) (p : Part) → AreSmall store → part_at store (address_farther (address_of (Into n i)) d) w a ≡ Some p → Reached store n i d
reached store n i w a d p small e = by (block_at store n) (pos i +ℤ d) refl refl e
  where
    by : (o : Option Block) (z : ℤ) → block_at store n ≡ o → pos i +ℤ d ≡ z → part_in o (from_start z) w a ≡ Some p → Reached store n i d
    by None z at is e = absurd cc
    by (Some b) (negsuc j) at is e = absurd cc
    by (Some b) (pos j) at is e = test (b.live && (nat_le (j + w) b.size && nat_eq (j % a) 0)) refl e
      where
        test : (t : Bool) → (b.live && (nat_le (j + w) b.size && nat_eq (j % a) 0)) ≡ t → (if t then Some (part b j) else None) ≡ Some p → Reached store n i d
        test false t e = absurd cc
        test true t e =
            let parts = and_parts b.live (nat_le (j + w) b.size && nat_eq (j % a) 0) t in
            let room : j + w ≤ b.size = leb-true _ _ (and_parts (nat_le (j + w) b.size) (nat_eq (j % a) 0) parts.1).0 in
            record { to = j; sum = is; size = b.size; live = ap live_size at ∙ ap (λ l. if l then Some b.size else None) parts.0; below = omega (arith, room); small = small n b at }

in_64_bits : (i j : ℕ) (d : ℤ) → i ≤ 2 ^ 62 → j ≤ 2 ^ 62 → pos i +ℤ d ≡ pos j → fits I64 d ≡ true
in_64_bits i j d li lj e =
    let low : int_le (least I64) d ≡ true = grind (arith, ints, li, lj, e) in
    let high : int_le d (greatest I64) ≡ true = grind (arith, ints, li, lj, e) in
    and_from (int_le (least I64) d) (int_le d (greatest I64)) low high

-- the pointer is moved to that place
module _ (store : Store) (n i : ℕ) (d : ℤ) (small : i ≤ 2 ^ 62) (r : Reached store n i d) where
  moved_there : moved store (Into n i) (wrap I64 d) ≡ Some (Into n r.to)
  moved_there =
      ap (moved store (Into n i)) (wrap-fitting I64 d (in_64_bits i r.to d small (omega (arith, r.below, r.small)) r.sum))
      ∙ ap₂ (offset_in n) r.sum r.live ∙ ap (λ t. if t then Some (Into n r.to) else None) (le-leb _ _ r.below)

  place_is : pointer_at (address_farther (address_of (Into n i)) d) ≡ Some (Into n r.to)
  place_is = ap (λ z. option_map (Into n) (from_start z)) r.sum

-- an answer about a range that is yes has one
some_part : (o : Option Part) (test : Part → Bool) → answered o test ≡ true → (p : Part) × (o ≡ Some p)
some_part None test e = absurd cc
some_part (Some p) test e = (p, refl)

load_is : (t : MonType) (k : Scalar) (store : Store) (p : Pointer) → scalar_type t ≡ Some k → load_scalar (scalar_type t) store p ≡ load store p k
load_is t k store p e = ap (λ s. load_scalar s store p) e

-- the load, where a range is there
load_there : (gs regs : List Value) (b : Blocks) (t : MonType) (k : Scalar) (p o : MonExpression) (n i w a : ℕ) (d : ℤ) (q : Part) → scalar_type t ≡ Some k → AreSmall b.store → i ≤ 2 ^ 62
    → eval over_blocks gs p regs b ≡ Some (Points (Into n i)) → eval over_blocks gs o regs b ≡ Some (Integer d) → part_at b.store (address_farther (address_of (Into n i)) d) w a ≡ Some q
    → eval over_blocks gs (read_at t p o) regs b ≡ load_from b.store k (pointer_at (address_farther (address_of (Into n i)) d))
load_there gs regs b t k p o n i w a d q is small li hp ho e =
    let r = reached b.store n i w a d q small e in
    rw (hp, ho) (ap (λ z. option_map Points z >>= λ v. blocks.load_block t v b) (moved_there b.store n i d li r) ∙ load_is t k b.store (Into n r.to) is ∙ sym (ap (load_from b.store k) (place_is b.store n i d li r)))

-- ---- numbers

low_is_some : (b : ℕ) (o : Option ℕ) → is_some (with_low_byte b o) ≡ is_some o
low_is_some b None = refl
low_is_some b (Some n) = refl

number_bytes : (ys : List Byte) → is_some (number_of ys) ≡ all_bytes is_number_byte ys
number_bytes [] = refl
number_bytes (Unwritten ∷ ys) = refl
number_bytes (Number b ∷ ys) = low_is_some b (number_of ys) ∙ number_bytes ys
number_bytes (Piece p k ∷ ys) = refl
number_bytes (LoosePiece ∷ ys) = refl

-- a number is there just where it can be loaded
value_there : (k : CInt) (ys : List Byte) → is_some (value_from (IntegerType k) ys) ≡ is_some (number_of ys)
value_there k ys = by (number_of ys)
  where
    by : (o : Option ℕ) → is_some (option_map (λ n. Integer (value_of_bits k n)) o) ≡ is_some o
    by None = refl
    by (Some n) = refl

nowhere : (o : Option Block) (w a : ℕ) (test : Part → Bool) → answered (part_in o None w a) test ≡ false
nowhere None w a test = refl
nowhere (Some b) w a test = refl

number_tells : (store : Store) (k : CInt) (n : ℕ) (z : ℤ)
    → has_number store (record { block = n; offset = z }) (int_size k) ≡ is_some (load_from store (IntegerType k) (option_map (Into n) (from_start z)))
number_tells store k n (negsuc j) = nowhere (block_at store n) (int_size k) (int_size k) (λ p. all_bytes is_number_byte (part_bytes p (int_size k)))
number_tells store k n (pos j) = by (block_at store n)
  where
    by_test : (b : Block) (t : Bool) → answered (if t then Some (part b j) else None) (λ p. all_bytes is_number_byte (part_bytes p (int_size k)))
        ≡ is_some (memory.◌>>=◌ (if t then Some (take (int_size k) (drop j b.bytes)) else None) (value_from (IntegerType k)))
    by_test b false = refl
    by_test b true = sym (value_there k (take (int_size k) (drop j b.bytes)) ∙ number_bytes (take (int_size k) (drop j b.bytes)))

    by : (o : Option Block) → answered (part_in o (Some j) (int_size k) (int_size k)) (λ p. all_bytes is_number_byte (part_bytes p (int_size k)))
        ≡ is_some (memory.◌>>=◌ (bytes_in o j (int_size k)) (value_from (IntegerType k)))
    by None = refl
    by (Some b) = by_test b (is_accessible b j (int_size k))

pub numbers_are_read : NumbersAreRead
numbers_are_read gs regs b t k p o Null d is small li hp ho = (number_tells b.store k 0 (pos 0 +ℤ d), λ e. absurd (none e))
  where
    none : has_number b.store (address_farther (address_of Null) d) (int_size k) ≡ true → ⊥
    none e = let q = some_part (part_in None (from_start (pos 0 +ℤ d)) (int_size k) (int_size k)) (λ p. all_bytes is_number_byte (part_bytes p (int_size k))) e in absurd (cc q.1)
numbers_are_read gs regs b t k p o (Into n i) d is small li hp ho = (
  number_tells b.store k n (pos i +ℤ d),
  λ e.
      let q = some_part (part_at b.store (address_farther (address_of (Into n i)) d) (int_size k) (int_size k)) (λ p. all_bytes is_number_byte (part_bytes p (int_size k))) e in
      load_there gs regs b t (IntegerType k) p o n i (int_size k) (int_size k) d q.0 is small li hp ho q.1,
)

-- ---- pointers

there_is_some : (o : Option Value) → is_there o ≡ is_some o
there_is_some None = refl
there_is_some (Some v) = refl

pointer_tells : (store : Store) (n : ℕ) (z : ℤ) → AllTogether store → has_pointer store (record { block = n; offset = z }) ≡ is_some (load_from store PointerType (option_map (Into n) (from_start z)))
pointer_tells store n (negsuc j) all = nowhere (block_at store n) 8 8 is_pointer_part
pointer_tells store n (pos j) all = pointers_load store (Into n j) all ∙ there_is_some (load store (Into n j) PointerType)

pub pointers_are_read : PointersAreRead
pointers_are_read gs regs b p o Null d all small li hp ho = (pointer_tells b.store 0 (pos 0 +ℤ d) all, λ e. absurd (none e))
  where
    none : has_pointer b.store (address_farther (address_of Null) d) ≡ true → ⊥
    none e = let q = some_part (part_in None (from_start (pos 0 +ℤ d)) 8 8) is_pointer_part e in absurd (cc q.1)
pointers_are_read gs regs b p o (Into n i) d all small li hp ho = (
  pointer_tells b.store n (pos i +ℤ d) all,
  λ e.
      let q = some_part (part_at b.store (address_farther (address_of (Into n i)) d) 8 8) is_pointer_part e in
      load_there gs regs b Ptr PointerType p o n i 8 8 d q.0 refl small li hp ho q.1,
)
