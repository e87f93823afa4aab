-- What a bounded store gives: values of the types that are read. It stays bounded where values are saved.
use Rattle.std.proofs.Common.{◌≡◌, ℕ, zero, suc, ◌+◌, ◌*◌, ◌/◌, ◌%◌, ◌<◌, ◌≤◌, ◌^◌, pos, Bool, true, false, ◌&&◌, not, if◌then◌else◌, nat_eq, nat_le, nat_lt, List, [], ◌∷◌, ◌++◌, map, length, length-set}
use Rattle.std.proofs.Common.{take, drop, replicate, Option, Some, None, option_map, refl, sym, ap, ◌∙◌, subst, arith}
use Rattle.std.proofs.lemmas.Bool.{and_parts, eqb-true}
use Rattle.std.proofs.lemmas.List.{length-drop, length-take-le, length-replicate}
use Rattle.std.proofs.Math.Nat.{mod-eq_of_lt, pow-suc}
use Rattle.std.specs.Prelude.{get_or, slice_get, slice_set}
use Rattle.c_syntax.specs.declared.types.CInt.{CInt}
use Rattle.c_syntax.specs.Layouts.{int_size, Scalar, IntegerType, PointerType, scalar_size}
use Rattle.c_model.specs.Integers.{fits, bits_of, value_of_bits}
use Rattle.c_model.specs.Memory.{Pointer, Null, Into, Value, Integer, Points, NoValue, Byte, Unwritten, Number, Piece, LoosePiece, Block, Store, with_low_byte, number_of, bytes_of, pieces, are_pieces, null_of, pointer_of, value_from, bytes_from}
use Rattle.c_model.specs.Memory.{is_accessible, is_literal, bytes_in, load_bytes, load, with_bytes, saved_block, with_block, save_bytes, save, loosened, shifted, copied, copy, copy_all}
use Rattle.c_model.specs.Memory.{◌>>=◌ as bind}
use Rattle.c_model.specs.SoundStates.{AreScalarSizes}
use Rattle.c_model.specs.Together.{AreTogether, FitAt}
use Rattle.c_model.proofs.Blocks.{within_block, length-with_bytes, length-copied}
use Rattle.c_model.proofs.Cells.{length-bytes_from}
use Rattle.c_model.proofs.Conversions.{fits-convert}
use Rattle.c_model.proofs.SoundStores.{none_together}
use Rattle.c_model.proofs.StructCopies.{copied_parts, first_copy}
use Rattle.c_model.proofs.Together.{together_written, no_pieces_fit, numbers_have_none, pieces_fit, copy_fits}
use Rattle.mon_syntax.specs.LiveBlocks.{LiveBlock, live_from, live_in}
use Rattle.c_simulation.specs.Standing.{IsSmall, IsOf, IsByte, AreBytes, IsBounded, Bounded}

-- ---- bytes

bytes_drop : (n : ℕ) (bs : List Byte) → AreBytes bs → AreBytes (drop n bs)
bytes_drop zero bs a = a
bytes_drop (suc n) [] a = tt
bytes_drop (suc n) (b ∷ bs) a = bytes_drop n bs a.1

bytes_take : (n : ℕ) (bs : List Byte) → AreBytes bs → AreBytes (take n bs)
bytes_take zero bs a = tt
bytes_take (suc n) [] a = tt
bytes_take (suc n) (b ∷ bs) a = (a.0, bytes_take n bs a.1)

bytes_append : (a b : List Byte) → AreBytes a → AreBytes b → AreBytes (a ++ b)
bytes_append [] b h g = g
bytes_append (x ∷ a) b h g = (h.0, bytes_append a b h.1 g)

number_bytes : (w n : ℕ) → AreBytes (bytes_of w n)
number_bytes zero n = tt
number_bytes (suc w) n = (omega arith, number_bytes w (n / 256))

piece_bytes : (p : Pointer) (k n : ℕ) → IsSmall p → AreBytes (pieces p k n)
piece_bytes p k zero h = tt
piece_bytes p k (suc n) h = (h, piece_bytes p (suc k) n h)

pub replicated_bytes : (n : ℕ) (b : Byte) → IsByte b → AreBytes (replicate n b)
replicated_bytes zero b h = tt
replicated_bytes (suc n) b h = (h, replicated_bytes n b h)

-- those of a value of the type
pub value_bytes : (k : Scalar) (v : Value) → IsOf k v → AreBytes (bytes_from k v)
value_bytes (IntegerType k) v h = subst (λ v. AreBytes (bytes_from (IntegerType k) v)) (sym h.1) (number_bytes (int_size k) (bits_of k h.0))
value_bytes PointerType v h = subst (λ v. AreBytes (bytes_from PointerType v)) (sym h.1) (piece_bytes h.0 0 8 h.2)

-- those of a copy
loosened_byte : (b : Byte) → IsByte b → IsByte (loosened b)
loosened_byte Unwritten h = tt
loosened_byte (Number n) h = h
loosened_byte (Piece p k) h = tt
loosened_byte LoosePiece h = tt

loosened_bytes : (bs : List Byte) → AreBytes bs → AreBytes (map loosened bs)
loosened_bytes [] h = tt
loosened_bytes (b ∷ bs) h = (loosened_byte b h.0, loosened_bytes bs h.1)

copied_bytes : (bs : List Byte) → AreBytes bs → AreBytes (copied bs)
copied_bytes bs h = by (nat_lt (length bs) 8)
  where
    by : (t : Bool) → AreBytes (if t then map loosened bs else bs)
    by true = loosened_bytes bs h
    by false = h

-- ---- blocks

pub bounded_at : (store : Store) (k : ℕ) (b : Block) → Bounded store → slice_get store k ≡ Some b → IsBounded b
bounded_at [] k b h e = absurd cc
bounded_at (c ∷ cs) zero b h e = let same : c ≡ b = cc in subst IsBounded same h.0
bounded_at (c ∷ cs) (suc k) b h e = bounded_at cs k b h.1 e

pub bounded_set : (store : Store) (k : ℕ) (b : Block) → Bounded store → IsBounded b → Bounded (slice_set store k b)
bounded_set [] k b h i = tt
bounded_set (c ∷ cs) zero b h i = (i, h.1)
bounded_set (c ∷ cs) (suc k) b h i = (h.0, bounded_set cs k b h.1 i)

pub bounded_append : (store : Store) (b : Block) → Bounded store → IsBounded b → Bounded (store ++ b ∷ [])
bounded_append [] b h i = (i, tt)
bounded_append (c ∷ cs) b h i = (h.0, bounded_append cs b h.1 i)

-- another block with the same bytes
pub bounded_as : (b c : Block) → c.bytes ≡ b.bytes → c.size ≡ b.size → IsBounded b → IsBounded c
bounded_as b c bytes size i = record {
  small = subst (λ n. n ≤ 2 ^ 32) (sym size) i.small;
  long = ap length bytes ∙ i.long ∙ sym size;
  bytes = subst AreBytes (sym bytes) i.bytes;
  together = subst AreTogether (sym bytes) i.together;
}

-- bytes without pieces of pointers
abbrev pub HaveNone : List Byte → Type 0
HaveNone bs = (i k : ℕ) (p : Pointer) → get_or bs i Unwritten ≡ Piece p k → ⊥

pub replicated_none : (n : ℕ) (b : Byte) → ((k : ℕ) (p : Pointer) → b ≡ Piece p k → ⊥) → HaveNone (replicate n b)
replicated_none zero b h i k p e = absurd cc
replicated_none (suc n) b h zero k p e = h k p e
replicated_none (suc n) b h (suc i) k p e = replicated_none n b h i k p e

-- a block full of one byte
pub bounded_filled : (c : Block) (n : ℕ) (b : Byte) → c.bytes ≡ replicate n b → c.size ≡ n → n ≤ 2 ^ 32 → IsByte b → ((k : ℕ) (p : Pointer) → b ≡ Piece p k → ⊥) → IsBounded c
bounded_filled c n b bytes size le is none = record {
  small = subst (λ n. n ≤ 2 ^ 32) (sym size) le;
  long = ap length bytes ∙ length-replicate n b ∙ sym size;
  bytes = subst AreBytes (sym bytes) (replicated_bytes n b is);
  together = subst AreTogether (sym bytes) (none_together (replicate n b) (replicated_none n b none));
}

-- ---- loads

block_bytes : (o : Option Block) (i n : ℕ) (bytes : List Byte) → ((b : Block) → o ≡ Some b → AreBytes b.bytes) → bytes_in o i n ≡ Some bytes → (all : List Byte) × AreBytes all × (bytes ≡ take n all)
block_bytes None i n bytes h e = absurd cc
block_bytes (Some b) i n bytes h e = by (is_accessible b i n) e
  where
    by : (t : Bool) → (if t then Some (take n (drop i b.bytes)) else None) ≡ Some bytes → (all : List Byte) × AreBytes all × (bytes ≡ take n all)
    by true g = (drop i b.bytes, bytes_drop i b.bytes (h b refl), cc)
    by false g = absurd cc

-- bytes that are loaded are so many at most
loaded_bytes : (store : Store) (p : Pointer) (n : ℕ) (bytes : List Byte) → Bounded store → load_bytes store p n ≡ Some bytes → (all : List Byte) × AreBytes all × (bytes ≡ take n all)
loaded_bytes store Null n bytes h e = absurd cc
loaded_bytes store (Into zero i) n bytes h e = absurd cc
loaded_bytes store (Into (suc k) i) n bytes h e = block_bytes (slice_get store k) i n bytes (λ b f. (bounded_at store k b h f).bytes) e

-- a number in so many bytes
none_taken : (w : ℕ) → number_of (take w []) ≡ Some 0
none_taken zero = refl
none_taken (suc w) = refl

one_byte_more : (b n w : ℕ) (o : Option ℕ) → b < 256 → ((m : ℕ) → o ≡ Some m → m < 256 ^ w) → with_low_byte b o ≡ Some n → n < 256 ^ suc w
one_byte_more b n w None byte below g = absurd cc
one_byte_more b n w (Some m) byte below g =
    let is : b + 256 * m ≡ n = cc in
    omega (arith, is, byte, below m refl, pow-suc 256 w)

number_below : (w : ℕ) (bs : List Byte) (n : ℕ) → AreBytes bs → number_of (take w bs) ≡ Some n → n < 256 ^ w
number_below zero bs n a e = let none : 0 ≡ n = cc in omega (arith, none)
number_below (suc w) [] n a e = let none : 0 ≡ n = cc in omega (arith, none, pow-suc 256 w, number_below w [] 0 tt (none_taken w))
number_below (suc w) (Unwritten ∷ bs) n a e = absurd cc
number_below (suc w) (Piece p k ∷ bs) n a e = absurd cc
number_below (suc w) (LoosePiece ∷ bs) n a e = absurd cc
number_below (suc w) (Number b ∷ bs) n a e = one_byte_more b n w (number_of (take w bs)) a.0 (λ m f. number_below w bs m a.1 f) e

bits_fit : (k : CInt) (n : ℕ) → n < 256 ^ int_size k → fits k (value_of_bits k n) ≡ true
bits_fit k n lt = subst (λ m. fits k (value_of_bits k m) ≡ true) (mod-eq_of_lt lt) (fits-convert k (pos n))

loaded_integer : (k : CInt) (o : Option ℕ) (v : Value) → ((n : ℕ) → o ≡ Some n → n < 256 ^ int_size k) → option_map (λ n. Integer (value_of_bits k n)) o ≡ Some v → IsOf (IntegerType k) v
loaded_integer k None v h e = absurd cc
loaded_integer k (Some n) v h e = (value_of_bits k n, cc, bits_fit k n (h n refl))

null_small : (o : Option ℕ) (p : Pointer) → null_of o ≡ Some p → IsSmall p
null_small None p e = absurd cc
null_small (Some zero) p e = let same : Null ≡ p = cc in subst IsSmall same tt
null_small (Some (suc n)) p e = absurd cc

pointer_small : (bytes : List Byte) (p : Pointer) → AreBytes bytes → pointer_of bytes ≡ Some p → IsSmall p
pointer_small [] p a e = absurd cc
pointer_small (Unwritten ∷ bs) p a e = absurd cc
pointer_small (Number b ∷ bs) p a e = null_small (number_of (Number b ∷ bs)) p e
pointer_small (Piece q k ∷ bs) p a e = by (are_pieces q 0 (Piece q k ∷ bs)) e
  where
    by : (t : Bool) → (if t then Some q else None) ≡ Some p → IsSmall p
    by true g = let same : q ≡ p = cc in subst IsSmall same a.0
    by false g = absurd cc
pointer_small (LoosePiece ∷ bs) p a e = absurd cc

loaded_pointer : (o : Option Pointer) (v : Value) → ((p : Pointer) → o ≡ Some p → IsSmall p) → option_map Points o ≡ Some v → IsOf PointerType v
loaded_pointer None v h e = absurd cc
loaded_pointer (Some p) v h e = (p, cc, h p refl)

value_is_of : (k : Scalar) (all : List Byte) (v : Value) → AreBytes all → value_from k (take (scalar_size k) all) ≡ Some v → IsOf k v
value_is_of (IntegerType k) all v a e = loaded_integer k (number_of (take (int_size k) all)) v (λ n f. number_below (int_size k) all n a f) e
value_is_of PointerType all v a e = loaded_pointer (pointer_of (take 8 all)) v (λ p f. pointer_small (take 8 all) p (bytes_take 8 all a) f) e

-- what is loaded is a value of the type
pub loaded_is_of : (store : Store) (p : Pointer) (k : Scalar) (v : Value) → Bounded store → load store p k ≡ Some v → IsOf k v
loaded_is_of store p k v h e = by (load_bytes store p (scalar_size k)) refl e
  where
    by : (o : Option (List Byte)) → load_bytes store p (scalar_size k) ≡ o → bind o (value_from k) ≡ Some v → IsOf k v
    by None f g = absurd cc
    by (Some bytes) f g =
        let b = loaded_bytes store p (scalar_size k) bytes h f in
        value_is_of k b.0 v b.1 (ap (value_from k) (sym b.2) ∙ g)

-- ---- saves

live_set : (store : Store) (j k offset : ℕ) (b : Block) (bytes : List Byte) (found : List LiveBlock) → slice_get store j ≡ Some b → live_from k (slice_set store j (with_bytes b offset bytes)) found ≡ live_from k store found
live_set [] j k offset b bytes found e = absurd cc
live_set (c ∷ cs) zero k offset b bytes found e =
    let same : c ≡ b = cc in
    subst (λ c. live_from k (slice_set (c ∷ cs) zero (with_bytes b offset bytes)) found ≡ live_from k (c ∷ cs) found) (sym same) refl
live_set (c ∷ cs) (suc j) k offset b bytes found e = live_set cs j (suc k) offset b bytes _ e

-- what a save leaves
pub record Saved (store saved : Store) : Type 0 where
  pub bounded : Bounded saved
  pub live : live_in saved ≡ live_in store
  pub long : length saved ≡ length store

pub aligned_at : (b : Block) (i n : ℕ) → is_accessible b i n ≡ true → i % n ≡ 0
aligned_at b i n e = eqb-true _ _ (and_parts (nat_le (i + n) b.size) (nat_eq (i % n) 0) (and_parts b.live (nat_le (i + n) b.size && nat_eq (i % n) 0) e).1).1

pub saved_bytes : (store saved : Store) (p : Pointer) (n : ℕ) (bytes : List Byte) → Bounded store → AreBytes bytes → length bytes ≤ n → ((i : ℕ) → i % n ≡ 0 → FitAt i bytes)
    → save_bytes store p n bytes ≡ Some saved → Saved store saved
saved_bytes store saved Null n bytes h a few fit e = absurd cc
saved_bytes store saved (Into zero i) n bytes h a few fit e = absurd cc
saved_bytes store saved (Into (suc j) i) n bytes h a few fit e = of_block (slice_get store j) refl e
  where
    of_block : (o : Option Block) → slice_get store j ≡ o → with_block store j (saved_block o i n bytes) ≡ Some saved → Saved store saved
    of_block None found f = absurd cc
    of_block (Some b) found f = by (is_accessible b i n && not (is_literal b.kind)) refl f
      where
        by : (t : Bool) → (is_accessible b i n && not (is_literal b.kind)) ≡ t → with_block store j (if t then Some (with_bytes b i bytes) else None) ≡ Some saved → Saved store saved
        by true can g =
            let is : slice_set store j (with_bytes b i bytes) ≡ saved = cc in
            let old = bounded_at store j b h found in
            let access = (and_parts (is_accessible b i n) (not (is_literal b.kind)) can).0 in
            let room = within_block b i n access in
            let long = old.long in
            let le : i + length bytes ≤ length b.bytes = omega (arith, few, room, long) in
            subst (Saved store) is (record {
              bounded = bounded_set store j (with_bytes b i bytes) h (record {
                small = old.small;
                long = length-with_bytes b i bytes le ∙ old.long;
                bytes = bytes_append (take i b.bytes) _ (bytes_take i b.bytes old.bytes) (bytes_append bytes _ a (bytes_drop (i + length bytes) b.bytes old.bytes));
                together = together_written b.bytes bytes i old.together (fit i (aligned_at b i n access)) le;
              });
              live = live_set store j 0 i b bytes [] found;
              long = length-set store j _;
            })
        by false can g = absurd cc

nothing_fits : (i : ℕ) → FitAt i []
nothing_fits i = no_pieces_fit [] i (λ i k p e. absurd cc)

value_fits : (k : Scalar) (v : Value) (i : ℕ) → i % scalar_size k ≡ 0 → FitAt i (bytes_from k v)
value_fits (IntegerType k) (Integer z) i aligned = no_pieces_fit (bytes_of (int_size k) (bits_of k z)) i (numbers_have_none (int_size k) (bits_of k z))
value_fits (IntegerType k) (Points p) i aligned = nothing_fits i
value_fits (IntegerType k) NoValue i aligned = nothing_fits i
value_fits PointerType (Integer z) i aligned = nothing_fits i
value_fits PointerType (Points p) i aligned = pieces_fit p i aligned
value_fits PointerType NoValue i aligned = nothing_fits i

pub saved_value : (store saved : Store) (p : Pointer) (k : Scalar) (v : Value) → Bounded store → IsOf k v → save store p k v ≡ Some saved → Saved store saved
saved_value store saved p k v h f e = saved_bytes store saved p (scalar_size k) (bytes_from k v) h (value_bytes k v f) (length-bytes_from k v) (value_fits k v) e

-- ---- copies

-- what is loaded: so many bytes of a bounded block
record Taken (n : ℕ) (bytes : List Byte) : Type 0 where
  b : Block
  from : ℕ
  bounded : IsBounded b
  room : from + n ≤ length b.bytes
  aligned : from % n ≡ 0
  is : bytes ≡ take n (drop from b.bytes)

taken_at : (store : Store) (q : Pointer) (n : ℕ) (bytes : List Byte) → Bounded store → load_bytes store q n ≡ Some bytes → Taken n bytes
taken_at store Null n bytes h e = absurd cc
taken_at store (Into zero i) n bytes h e = absurd cc
taken_at store (Into (suc k) i) n bytes h e = by (slice_get store k) refl e
  where
    test : (b : Block) → slice_get store k ≡ Some b → (t : Bool) → is_accessible b i n ≡ t → (if t then Some (take n (drop i b.bytes)) else None) ≡ Some bytes → Taken n bytes
    test b at true a f =
        let s = bounded_at store k b h at in
        let long = s.long in
        let room = within_block b i n a in
        let is : take n (drop i b.bytes) ≡ bytes = cc in
        record { b = b; from = i; bounded = s; room = omega (arith, long, room); aligned = aligned_at b i n a; is = sym is }
    test b at false a f = absurd cc

    by : (o : Option Block) → slice_get store k ≡ o → bytes_in o i n ≡ Some bytes → Taken n bytes
    by None at f = absurd cc
    by (Some b) at f = test b at (is_accessible b i n) refl f

pub copied_saved : (store saved : Store) (p q : Pointer) (n : ℕ) → Bounded store → n ≤ 8 → copy store p q n ≡ Some saved → Saved store saved
copied_saved store saved p q n h few e =
    let c = copied_parts store saved p q n e in
    let t = taken_at store q n c.bytes h c.loaded in
    let room = t.room in
    let long : length (take n (drop t.from t.b.bytes)) ≡ n = length-take-le n (drop t.from t.b.bytes) (let x = length-drop t.from t.b.bytes in omega (arith, room, x)) in
    let few_bytes : length (copied c.bytes) ≤ n = let y = length-copied c.bytes in let z = ap length t.is in omega (arith, y, z, long) in
    saved_bytes store saved p n (copied c.bytes) h (copied_bytes c.bytes (subst AreBytes (sym t.is) (bytes_take n (drop t.from t.b.bytes) (bytes_drop t.from t.b.bytes t.bounded.bytes)))) few_bytes
    (λ i aligned. subst (λ x. FitAt i (copied x)) (sym t.is) (copy_fits t.b.bytes t.from i n t.bounded.together t.room few t.aligned aligned)) c.saved_as

pub copied_all_saved : (store saved : Store) (p q : Pointer) (cs : List (ℕ × ℕ)) → Bounded store → AreScalarSizes cs → copy_all store p q cs ≡ Some saved → Saved store saved
copied_all_saved store saved p q [] h few e = let same : store ≡ saved = cc in subst (Saved store) same (record { bounded = h; live = refl; long = refl })
copied_all_saved store saved p q (c ∷ cs) h few e =
    let f = first_copy store saved p q c cs e in
    let first = copied_saved store f.next (shifted p c.0) (shifted q c.0) c.1 h few.0 f.is in
    let rest = copied_all_saved f.next saved p q cs first.bounded few.1 f.rest in
    record { bounded = rest.bounded; live = rest.live ∙ first.live; long = rest.long ∙ first.long }
