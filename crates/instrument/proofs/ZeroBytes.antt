-- Zero bytes in a row of a block: they are the same, whether they are saved a few at a time or at once.
use Rattle.std.proofs.Common.{◌≡◌, ℕ, zero, suc, ◌+◌, ◌%◌, ◌<◌, ◌≤◌, pos, Bool, true, false, ◌&&◌, not, if◌then◌else◌, nat_eq, nat_le, List, [], ◌∷◌, ◌++◌, length, take, drop, Option, Some, None, refl, sym, ap, ◌∙◌, arith}
use Rattle.std.proofs.Common.{length-append, append_assoc}
use Rattle.std.proofs.lemmas.Bool.{eq-eqb, le-leb, leb-false, leb-true}
use Rattle.std.proofs.lemmas.List.{append-nil, drop-drop, drop_all, drop_at, length-replicate, length-take-le, replicate-append-replicate, take_all, take_at}
use Rattle.std.specs.Prelude.{slice_get, slice_set}
use Rattle.c_syntax.specs.declared.types.CInt.{CInt}
use Rattle.c_syntax.specs.declared.types.CInt.TheVariants.{I8, U8, I16, U16, I32, U32, I64, U64}
use Rattle.c_syntax.specs.Layouts.{IntegerType, int_size}
use Rattle.c_model.specs.Memory.{Pointer, Null, Into, Integer, Byte, Block, Store, is_accessible, is_literal, with_bytes, saved_block, with_block, save_bytes, bytes_from, shifted}
use Rattle.c_model.specs.Meaning.{zeros}
use Rattle.c_model.proofs.Blocks.{slice_get-slice_set_same}
use Rattle.c_model.proofs.TypedParts.{and_true}
use Rattle.c_effects.proofs.ZeroRuns.{IsWide}

-- ---- lists

-- with bytes in place of those from an offset on
abbrev put : ℕ → List Byte → List Byte → List Byte
put o xs bs = take o bs ++ (xs ++ drop (o + length xs) bs)

put_inside : (o : ℕ) (xs ys bs : List Byte) → o ≤ length bs → put (o + length xs) ys (put o xs bs) ≡ put o (xs ++ ys) bs
put_inside o xs ys bs le =
    let front = take o bs in
    let behind = drop (o + length xs) bs in
    let long : length (front ++ xs) ≡ o + length xs = length-append front xs ∙ ap (λ n. n + length xs) (length-take-le o bs le) in
    let whole : put o xs bs ≡ (front ++ xs) ++ behind = sym (append_assoc front xs behind) in
    let end : o + length xs + length ys ≡ o + length (xs ++ ys) = omega (arith, length-append xs ys) in
    let first : take (o + length xs) (put o xs bs) ≡ front ++ xs = ap (take (o + length xs)) whole ∙ take_at (front ++ xs) behind (o + length xs) long in
    let rest : drop (o + length xs + length ys) (put o xs bs) ≡ drop (o + length (xs ++ ys)) bs =
    sym (drop-drop (length ys) (o + length xs) (put o xs bs))
    ∙ ap (drop (length ys)) (ap (drop (o + length xs)) whole ∙ drop_at (front ++ xs) behind (o + length xs) long)
    ∙ drop-drop (length ys) (o + length xs) bs ∙ ap (λ n. drop n bs) end in
    (λ i. first i ++ (ys ++ rest i))
    ∙ append_assoc front xs (ys ++ drop (o + length (xs ++ ys)) bs)
    ∙ ap (λ l. front ++ l) (sym (append_assoc xs ys (drop (o + length (xs ++ ys)) bs)))

put_outside : (o : ℕ) (xs ys bs : List Byte) → length bs < o → put (o + length xs) ys (put o xs bs) ≡ put o (xs ++ ys) bs
put_outside o xs ys bs lt =
    let some : (zs : List Byte) → put o zs bs ≡ bs ++ zs =
    λ zs. (λ i. take_all o bs (omega (arith, lt)) i ++ (zs ++ drop_all (o + length zs) bs (omega (arith, lt)) i)) ∙ ap (λ l. bs ++ l) (append-nil zs) in
    let long = length-append bs xs in
    ap (put (o + length xs) ys) (some xs)
    ∙ (λ i. take_all (o + length xs) (bs ++ xs) (omega (arith, lt, long)) i ++ (ys ++ drop_all (o + length xs + length ys) (bs ++ xs) (omega (arith, lt, long)) i))
    ∙ ap (λ l. (bs ++ xs) ++ l) (append-nil ys) ∙ append_assoc bs xs ys ∙ sym (some (xs ++ ys))

put_twice : (o : ℕ) (xs ys bs : List Byte) → put (o + length xs) ys (put o xs bs) ≡ put o (xs ++ ys) bs
put_twice o xs ys bs = by (nat_le o (length bs)) refl
  where
    by : (t : Bool) → nat_le o (length bs) ≡ t → put (o + length xs) ys (put o xs bs) ≡ put o (xs ++ ys) bs
    by true e = put_inside o xs ys bs (leb-true o (length bs) e)
    by false e = put_outside o xs ys bs (leb-false o (length bs) e)

set_twice : {A : Type 0} (l : List A) (k : ℕ) (x y : A) → slice_set (slice_set l k x) k y ≡ slice_set l k y
set_twice [] k x y = refl
set_twice (a ∷ l) zero x y = refl
set_twice (a ∷ l) (suc k) x y = ap (λ m. a ∷ m) (set_twice l k x y)

-- ---- blocks

abbrev pub with_zeros : Block → ℕ → ℕ → Block
with_zeros b o n = with_bytes b o (zeros n)

zeros_twice : (b : Block) (o m n : ℕ) → with_zeros (with_zeros b o m) (o + m) n ≡ with_zeros b o (m + n)
zeros_twice b o m n =
    let long : length (zeros m) ≡ m = length-replicate m _ in
    let joined : zeros m ++ zeros n ≡ zeros (m + n) = replicate-append-replicate m n _ in
    ap (λ (l : List Byte). record b { bytes = l })
    ((λ i. put (o + sym long i) (zeros n) (put o (zeros m) b.bytes)) ∙ put_twice o (zeros m) (zeros n) b.bytes ∙ ap (λ z. put o z b.bytes) joined)

-- ---- stores

-- so many zero bytes at a pointer, by whatever saves
pub record AreZeroed (store saved : Store) (p : Pointer) (n : ℕ) : Type 0 where
  pub index : ℕ
  pub offset : ℕ
  pub block : Block
  pub is : p ≡ Into (suc index) offset
  pub found : slice_get store index ≡ Some block
  pub live : block.live ≡ true
  pub variable : not (is_literal block.kind) ≡ true
  pub some : 0 < n
  pub within : offset + n ≤ block.size
  pub saved_is : saved ≡ slice_set store index (with_zeros block offset n)

-- a save of zeros
pub saved_zeros : (store saved : Store) (p : Pointer) (n : ℕ) → 0 < n → save_bytes store p n (zeros n) ≡ Some saved → AreZeroed store saved p n
saved_zeros store saved Null n lt e = absurd cc
saved_zeros store saved (Into zero o) n lt e = absurd cc
saved_zeros store saved (Into (suc k) o) n lt e = of_block (slice_get store k) refl e
  where
    of_block : (b : Option Block) → slice_get store k ≡ b → with_block store k (saved_block b o n (zeros n)) ≡ Some saved → AreZeroed store saved (Into (suc k) o) n
    of_block None found f = absurd cc
    of_block (Some b) found f = by (is_accessible b o n && not (is_literal b.kind)) refl f
      where
        by : (t : Bool) → (is_accessible b o n && not (is_literal b.kind)) ≡ t → with_block store k (if t then Some (with_bytes b o (zeros n)) else None) ≡ Some saved → AreZeroed store saved (Into (suc k) o) n
        by true a g =
            let both = and_true (is_accessible b o n) (not (is_literal b.kind)) a in
            let parts = and_true b.live (nat_le (o + n) b.size && nat_eq (o % n) 0) both.0 in
            let inside = and_true (nat_le (o + n) b.size) (nat_eq (o % n) 0) parts.1 in
            let same : slice_set store k (with_bytes b o (zeros n)) ≡ saved = cc in
            record {
              index = k;
              offset = o;
              block = b;
              is = refl;
              found = found;
              live = parts.0;
              variable = both.1;
              some = lt;
              within = leb-true (o + n) b.size inside.0;
              saved_is = sym same;
            }
        by false a g = absurd cc

-- what zeros are where these are a save of their own
pub zeros_saved : (store saved : Store) (k o n : ℕ) (z : AreZeroed store saved (Into k o) n) → o % n ≡ 0 → save_bytes store (Into k o) n (zeros n) ≡ Some saved
zeros_saved store saved k o n z aligned =
    let at : Into k o ≡ Into (suc z.index) z.offset = z.is in
    let number : k ≡ suc z.index = cc in
    let place : o ≡ z.offset = cc in
    let there : o + n ≤ z.block.size = omega (arith, z.within, place) in
    let accessible : is_accessible z.block o n ≡ true = rw z.live (rw (le-leb (o + n) z.block.size there) (eq-eqb (o % n) 0 aligned)) in
    ap (λ j. save_bytes store (Into j o) n (zeros n)) number
    ∙ ap (λ b. with_block store z.index (saved_block b o n (zeros n))) z.found
    ∙ ap (λ t. with_block store z.index (if t && not (is_literal z.block.kind) then Some (with_bytes z.block o (zeros n)) else None)) accessible
    ∙ ap (λ t. with_block store z.index (if t then Some (with_bytes z.block o (zeros n)) else None)) z.variable
    ∙ ap Some (ap (λ d. slice_set store z.index (with_zeros z.block d n)) place ∙ sym z.saved_is)

-- zeros behind zeros
pub zeros_join : (store mid saved : Store) (p : Pointer) (m n : ℕ) → AreZeroed store mid p m → AreZeroed mid saved (shifted p m) n → AreZeroed store saved p (m + n)
zeros_join store mid saved p m n a z =
    let at : Into (suc a.index) (a.offset + m) ≡ Into (suc z.index) z.offset = sym (ap (λ q. shifted q m) a.is) ∙ z.is in
    let same : a.index ≡ z.index = cc in
    let place : a.offset + m ≡ z.offset = cc in
    let there : slice_get mid a.index ≡ Some (with_zeros a.block a.offset m) = ap (λ s. slice_get s a.index) a.saved_is ∙ slice_get-slice_set_same store a.index a.block (with_zeros a.block a.offset m) a.found in
    let found : Some (with_zeros a.block a.offset m) ≡ Some z.block = sym there ∙ ap (slice_get mid) same ∙ z.found in
    let block : with_zeros a.block a.offset m ≡ z.block = cc in
    let size : a.block.size ≡ z.block.size = ap (λ (b : Block). b.size) block in
    record {
      index = a.index;
      offset = a.offset;
      block = a.block;
      is = a.is;
      found = a.found;
      live = a.live;
      variable = a.variable;
      some = omega (arith, a.some);
      within = omega (arith, z.within, place, size);
      saved_is =
          z.saved_is
          ∙ (λ i. slice_set (a.saved_is i) (sym same i) (with_zeros (sym block i) (sym place i) n))
          ∙ set_twice store a.index (with_zeros a.block a.offset m) (with_zeros (with_zeros a.block a.offset m) (a.offset + m) n)
          ∙ ap (slice_set store a.index) (zeros_twice a.block a.offset m n);
    }

-- the store after the first of them
abbrev pub midway : (store saved : Store) (p : Pointer) (n : ℕ) → AreZeroed store saved p n → ℕ → Store
midway store saved p n z m = slice_set store z.index (with_zeros z.block z.offset m)

pub zeros_first : (store saved : Store) (p : Pointer) (n m : ℕ) (z : AreZeroed store saved p n) → 0 < m → m ≤ n → AreZeroed store (midway store saved p n z m) p m
zeros_first store saved p n m z lt le = record {
  index = z.index;
  offset = z.offset;
  block = z.block;
  is = z.is;
  found = z.found;
  live = z.live;
  variable = z.variable;
  some = lt;
  within = omega (arith, z.within, le);
  saved_is = refl;
}

pub zeros_rest : (store saved : Store) (p : Pointer) (n m k : ℕ) (z : AreZeroed store saved p n) → 0 < k → m + k ≡ n → AreZeroed (midway store saved p n z m) saved (shifted p m) k
zeros_rest store saved p n m k z lt e =
    let all : z.offset + n ≤ z.block.size = z.within in
    record {
      index = z.index;
      offset = z.offset + m;
      block = with_zeros z.block z.offset m;
      is = ap (λ q. shifted q m) z.is;
      found = slice_get-slice_set_same store z.index z.block (with_zeros z.block z.offset m) z.found;
      live = z.live;
      variable = z.variable;
      some = lt;
      within = omega (arith, all, e);
      saved_is =
          z.saved_is ∙ ap (λ j. slice_set store z.index (with_zeros z.block z.offset j)) (sym e)
          ∙ ap (slice_set store z.index) (sym (zeros_twice z.block z.offset m k))
          ∙ sym (set_twice store z.index (with_zeros z.block z.offset m) (with_zeros (with_zeros z.block z.offset m) (z.offset + m) k));
    }

pub zeros_all : (store saved : Store) (p : Pointer) (n m : ℕ) (z : AreZeroed store saved p n) → m ≡ n → midway store saved p n z m ≡ saved
zeros_all store saved p n m z e = ap (λ j. slice_set store z.index (with_zeros z.block z.offset j)) e ∙ sym z.saved_is

-- ---- zeros as numbers

pub zero_bytes : (k : CInt) → bytes_from (IntegerType k) (Integer (pos 0)) ≡ zeros (int_size k)
zero_bytes I8 = refl
zero_bytes U8 = refl
zero_bytes I16 = refl
zero_bytes U16 = refl
zero_bytes I32 = refl
zero_bytes U32 = refl
zero_bytes I64 = refl
zero_bytes U64 = refl

-- an object stands where the widest type may
abbrev pub IsAligned : Pointer → Type 0
IsAligned Null = Unit {0}
IsAligned (Into n i) = i % 8 ≡ 0

wide_aligned : (i d : ℕ) (k : CInt) → i % 8 ≡ 0 → d % int_size k ≡ 0 → (i + d) % int_size k ≡ 0
wide_aligned i d I8 h e = omega arith
wide_aligned i d U8 h e = omega arith
wide_aligned i d I16 h e = omega (arith, h, e)
wide_aligned i d U16 h e = omega (arith, h, e)
wide_aligned i d I32 h e = omega (arith, h, e)
wide_aligned i d U32 h e = omega (arith, h, e)
wide_aligned i d I64 h e = omega (arith, h, e)
wide_aligned i d U64 h e = omega (arith, h, e)

-- a wide zero at an offset from there
pub wide_saved : (store saved : Store) (p : Pointer) (d n : ℕ) (k : CInt) → IsAligned p → IsWide d n k → AreZeroed store saved (shifted p d) (int_size k)
    → save_bytes store (shifted p d) (int_size k) (bytes_from (IntegerType k) (Integer (pos 0))) ≡ Some saved
wide_saved store saved Null d n k aligned wide z = let no : Null ≡ Into (suc z.index) z.offset = z.is in absurd cc
wide_saved store saved (Into b i) d n k aligned wide z =
    ap (save_bytes store (Into b (i + d)) (int_size k)) (zero_bytes k) ∙ zeros_saved store saved b (i + d) (int_size k) z (wide_aligned i d k aligned wide.aligned)
