-- What is read of a sound store is a value of the type, and a pointer into a block that was born.
use Rattle.std.proofs.Common.{◌≡◌, ℕ, zero, suc, ◌+◌, ◌*◌, ◌^◌, ◌<◌, ℤ, pos, Bool, true, false, if◌then◌else◌, List, [], ◌∷◌, length, Option, Some, None, option_map, slice_get, refl, subst, arith}
use Rattle.std.proofs.Math.Nat.{mod-eq_of_lt, pow-suc}
use Rattle.c_syntax.specs.declared.types.CInt.{CInt}
use Rattle.c_syntax.specs.Layouts.{int_size, IntegerType, PointerType}
use Rattle.c_model.specs.Integers.{fits, value_of_bits}
use Rattle.c_model.specs.Memory.{Pointer, Null, Into, Integer, Points, Byte, Unwritten, Number, Piece, LoosePiece, Block, Store, with_low_byte, number_of, null_of, are_pieces, pointer_of, value_from, load_bytes, ◌>>=◌}
use Rattle.c_model.specs.Laws.{AreWhole}
use Rattle.c_model.specs.SoundStates.{IsPlaced, AreSoundBytes, SoundStoresRead, SoundStoresAreWhole, PlacedAreNear}
use Rattle.c_model.proofs.Conversions.{fits-convert}
use Rattle.c_model.proofs.SoundStores.{taken_bytes}

one_byte_more : (b n w : ℕ) (o : Option ℕ) → b < 256 → ((m : ℕ) → o ≡ Some m → m < 256 ^ w) → with_low_byte b o ≡ Some n → n < 256 ^ suc w
one_byte_more b n w None byte below g = absurd cc
one_byte_more b n w (Some m) byte below g =
    let is : b + 256 * m ≡ n = cc in
    omega (arith, is, byte, below m refl, pow-suc 256 w)

number_below : (store : Store) (w : ℕ) (bs : List Byte) (n : ℕ) → length bs ≡ w → AreSoundBytes store bs → number_of bs ≡ Some n → n < 256 ^ w
number_below store zero [] n l a e = let none : 0 ≡ n = cc in omega (arith, none)
number_below store (suc w) [] n l a e = absurd (omega (arith, l))
number_below store zero (b ∷ bs) n l a e = absurd (omega (arith, l))
number_below store (suc w) (Unwritten ∷ bs) n l a e = absurd cc
number_below store (suc w) (Piece p k ∷ bs) n l a e = absurd cc
number_below store (suc w) (LoosePiece ∷ bs) n l a e = absurd cc
number_below store (suc w) (Number b ∷ bs) n l a e =
    one_byte_more b n w (number_of bs) (a 0) (λ m f. number_below store w bs m (omega (arith, l)) (λ i. a (suc i)) f) e

bits_fit : (k : CInt) (n : ℕ) → n < 256 ^ int_size k → fits k (value_of_bits k n) ≡ true
bits_fit k n lt = subst (λ m. fits k (value_of_bits k m) ≡ true) (mod-eq_of_lt lt) (fits-convert k (pos n))

read_number : (store : Store) (k : CInt) (o : Option (List Byte)) (z : ℤ) → ((bytes : List Byte) → o ≡ Some bytes → (length bytes ≡ int_size k) × AreSoundBytes store bytes)
    → (o >>= value_from (IntegerType k)) ≡ Some (Integer z) → fits k z ≡ true
read_number store k None z h e = absurd cc
read_number store k (Some bytes) z h e = by (number_of bytes) refl e
  where
    by : (o : Option ℕ) → number_of bytes ≡ o → option_map (λ n. Integer (value_of_bits k n)) o ≡ Some (Integer z) → fits k z ≡ true
    by None at e = absurd cc
    by (Some n) at e =
        let is : value_of_bits k n ≡ z = cc in
        let parts = h bytes refl in
        subst (λ y. fits k y ≡ true) is (bits_fit k n (number_below store (int_size k) bytes n parts.0 parts.1 at))

null_placed : (store : Store) (o : Option ℕ) (q : Pointer) → null_of o ≡ Some q → IsPlaced store q
null_placed store None q e = absurd cc
null_placed store (Some zero) q e = let same : Null ≡ q = cc in subst (IsPlaced store) same tt
null_placed store (Some (suc n)) q e = absurd cc

pointer_placed : (store : Store) (bytes : List Byte) (q : Pointer) → AreSoundBytes store bytes → pointer_of bytes ≡ Some q → IsPlaced store q
pointer_placed store [] q a e = absurd cc
pointer_placed store (Unwritten ∷ bs) q a e = absurd cc
pointer_placed store (Number b ∷ bs) q a e = null_placed store (number_of (Number b ∷ bs)) q e
pointer_placed store (Piece p k ∷ bs) q a e = by (are_pieces p 0 (Piece p k ∷ bs)) e
  where
    by : (t : Bool) → (if t then Some p else None) ≡ Some q → IsPlaced store q
    by true g = let same : p ≡ q = cc in subst (IsPlaced store) same (a 0)
    by false g = absurd cc
pointer_placed store (LoosePiece ∷ bs) q a e = absurd cc

read_pointer : (store : Store) (o : Option (List Byte)) (q : Pointer) → ((bytes : List Byte) → o ≡ Some bytes → AreSoundBytes store bytes)
    → (o >>= value_from PointerType) ≡ Some (Points q) → IsPlaced store q
read_pointer store None q h e = absurd cc
read_pointer store (Some bytes) q h e = by (pointer_of bytes) refl e
  where
    by : (o : Option Pointer) → pointer_of bytes ≡ o → option_map Points o ≡ Some (Points q) → IsPlaced store q
    by None at e = absurd cc
    by (Some p) at e = let same : p ≡ q = cc in subst (IsPlaced store) same (pointer_placed store bytes p (h bytes refl) at)

pub sound_stores_read : SoundStoresRead
sound_stores_read store h = record {
  value = λ p k z e. read_number store k (load_bytes store p (int_size k)) z (λ bytes f. taken_bytes store p (int_size k) bytes h f) e;
  offset = λ p q e. read_pointer store (load_bytes store p 8) q (λ bytes f. (taken_bytes store p 8 bytes h f).1) e;
}

pub placed_are_near : PlacedAreNear
placed_are_near store Null h placed = tt
placed_are_near store (Into zero i) h b = let none = b.1 in absurd cc
placed_are_near store (Into (suc n) i) h b = let s = (h n b.0 b.1).small in let le = b.2 in omega (arith, s, le)

all_whole : (bs : Store) → ((k : ℕ) (b : Block) → slice_get bs k ≡ Some b → length b.bytes ≡ b.size) → AreWhole bs
all_whole [] h = tt
all_whole (b ∷ bs) h = (h 0 b refl, all_whole bs (λ k c e. h (suc k) c e))

pub sound_stores_are_whole : SoundStoresAreWhole
sound_stores_are_whole store h = (all_whole store (λ k b e. (h k b e).long), λ k b e. ((h k b e).long, (h k b e).together))
