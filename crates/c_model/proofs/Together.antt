-- Pieces of pointers stand together, and stores and copies leave them so.
use Rattle.std.proofs.Common.{◌≡◌, ◌≢◌, ℕ, zero, suc, ◌+◌, ◌-◌, ◌/◌, ◌%◌, ◌<◌, ◌≤◌, ◌⊎◌, inl, inr, Bool, true, false, ◌&&◌, if◌then◌else◌, nat_eq, nat_le}
use Rattle.std.proofs.Common.{List, [], ◌∷◌, ◌++◌, length, take, drop, map, Option, Some, None, option_map, get_or, slice_get, refl, sym, ap, ◌∙◌, subst, arith}
use Rattle.std.proofs.lemmas.Bool.{ne_eqb, cases_lt, and_parts, and_from, leb-true, eqb-true, eq-eqb, lt-ltb, le-ltb}
use Rattle.std.proofs.lemmas.List.{length-drop, length-take-le, get_or_append_left, get_or-append_right, get_or-take, get_or-drop}
use Rattle.c_syntax.specs.Layouts.{PointerType}
use Rattle.c_model.specs.Memory.{Pointer, Null, Into, Byte, Unwritten, Number, Piece, LoosePiece, Block, Store, Points, bytes_of, pieces, are_pieces, same_pointer, loosened, copied}
use Rattle.c_model.specs.Memory.{number_of, null_of, pointer_of, is_accessible, load, bytes_in, value_from, ◌>>=◌}
use Rattle.c_model.specs.MemoryQuestions.{Part, part, part_in, answered, all_bytes, is_piece_byte, is_number_zero, part_bytes, has_pointer, address_of}
use Rattle.c_model.specs.Together.{AreTogether, AllTogether, FitAt, PointersLoad}
use Rattle.c_model.specs.Library.{is_there}
use Rattle.c_model.proofs.Cells.{same_pointer-refl}

-- ---- bytes of a block in which some are written

pub data Read (bs ys : List Byte) (off i : ℕ) : Type 0 where
  Inside : (j : ℕ) → i ≡ off + j → j < length ys → get_or (take off bs ++ (ys ++ drop (off + length ys) bs)) i Unwritten ≡ get_or ys j Unwritten → Read bs ys off i
  Outside : (i < off) ⊎ (off + length ys ≤ i) → get_or (take off bs ++ (ys ++ drop (off + length ys) bs)) i Unwritten ≡ get_or bs i Unwritten → Read bs ys off i

pub read_at : (bs ys : List Byte) (off i : ℕ) → off + length ys ≤ length bs → Read bs ys off i
read_at bs ys off i room = by (cases_lt i off)
  where
    front : length (take off bs) ≡ off
    front = length-take-le off bs (omega (arith, room))

    behind : off ≤ i → (i - off < length ys) ⊎ (length ys ≤ i - off) → Read bs ys off i
    behind le (inl lt) =
        let is : i ≡ off + (i - off) = omega (arith, le) in
        Inside (i - off) is lt
        (get_or-append_right (take off bs) (ys ++ drop (off + length ys) bs) off i Unwritten front le ∙ get_or_append_left ys (drop (off + length ys) bs) Unwritten (i - off) lt)
    behind le (inr ge) =
        let is : off + length ys + (i - off - length ys) ≡ i = omega (arith, le, ge) in
        Outside (inr (omega (arith, le, ge)))
        (get_or-append_right (take off bs) (ys ++ drop (off + length ys) bs) off i Unwritten front le
        ∙ get_or-append_right ys (drop (off + length ys) bs) (length ys) (i - off) Unwritten refl ge
        ∙ get_or-drop (off + length ys) bs (i - off - length ys) Unwritten ∙ ap (λ z. get_or bs z Unwritten) is)

    by : (i < off) ⊎ (off ≤ i) → Read bs ys off i
    by (inl lt) =
        Outside (inl lt) (get_or_append_left (take off bs) (ys ++ drop (off + length ys) bs) Unwritten i (omega (arith, lt, front)) ∙ get_or-take off bs i Unwritten lt)
    by (inr le) = behind le (cases_lt (i - off) (length ys))

-- what is written where it fits leaves pieces together
pub together_written : (bs ys : List Byte) (off : ℕ) → AreTogether bs → FitAt off ys → off + length ys ≤ length bs → AreTogether (take off bs ++ (ys ++ drop (off + length ys) bs))
together_written bs ys off t f room = record { own = λ i k p e. own i k p e (read_at bs ys off i room); one = λ i j k l p q g e d. one i j k l p q g e d (read_at bs ys off i room) (read_at bs ys off j room) }
  where
    own : (i k : ℕ) (p : Pointer) → get_or (take off bs ++ (ys ++ drop (off + length ys) bs)) i Unwritten ≡ Piece p k → Read bs ys off i → k ≡ i % 8
    own i k p e (Inside j is lt there) = f.own j k p (sym there ∙ e) ∙ ap (λ z. z % 8) (sym is)
    own i k p e (Outside side there) = t.own i k p (sym there ∙ e)

    apart : (i j k : ℕ) (p : Pointer) → i / 8 ≡ j / 8 → (a : ℕ) → i ≡ off + a → a < length ys → get_or ys a Unwritten ≡ Piece p k → (j < off) ⊎ (off + length ys ≤ j) → ⊥
    apart i j k p g a is lt e (inl less) =
        let whole = f.whole a k p e in
        let begun = whole.0 in
        let long = whole.1 in
        omega (arith, g, is, lt, less, begun, long)
    apart i j k p g a is lt e (inr more) =
        let whole = f.whole a k p e in
        let begun = whole.0 in
        let long = whole.1 in
        omega (arith, g, is, lt, more, begun, long)

    one : (i j k l : ℕ) (p q : Pointer) → i / 8 ≡ j / 8 → get_or (take off bs ++ (ys ++ drop (off + length ys) bs)) i Unwritten ≡ Piece p k → get_or (take off bs ++ (ys ++ drop (off + length ys) bs)) j Unwritten ≡ Piece q l → Read bs ys off i
        → Read bs ys off j → p ≡ q
    one i j k l p q g e d (Inside a is lt there) (Inside b js mt here) = f.one a b k l p q (sym there ∙ e) (sym here ∙ d)
    one i j k l p q g e d (Outside side there) (Outside other here) = t.one i j k l p q g (sym there ∙ e) (sym here ∙ d)
    one i j k l p q g e d (Inside a is lt there) (Outside other here) = absurd (apart i j k p g a is lt (sym there ∙ e) other)
    one i j k l p q g e d (Outside side there) (Inside b js mt here) = absurd (apart j i l q (sym g) b js mt (sym here ∙ d) side)

-- ---- bytes that are written

pub no_pieces_fit : (ys : List Byte) (off : ℕ) → ((i k : ℕ) (p : Pointer) → get_or ys i Unwritten ≡ Piece p k → ⊥) → FitAt off ys
no_pieces_fit ys off none = record { own = λ i k p e. absurd (none i k p e); one = λ i j k l p q e d. absurd (none i k p e); whole = λ i k p e. absurd (none i k p e) }

pub numbers_have_none : (w n i k : ℕ) (p : Pointer) → get_or (bytes_of w n) i Unwritten ≡ Piece p k → ⊥
numbers_have_none zero n i k p e = absurd cc
numbers_have_none (suc w) n zero k p e = absurd cc
numbers_have_none (suc w) n (suc i) k p e = numbers_have_none w (n / 256) i k p e

pub loosened_have_none : (bs : List Byte) (i k : ℕ) (p : Pointer) → get_or (map loosened bs) i Unwritten ≡ Piece p k → ⊥
loosened_have_none [] i k p e = absurd cc
loosened_have_none (Unwritten ∷ bs) zero k p e = absurd cc
loosened_have_none (Number b ∷ bs) zero k p e = absurd cc
loosened_have_none (Piece q l ∷ bs) zero k p e = absurd cc
loosened_have_none (LoosePiece ∷ bs) zero k p e = absurd cc
loosened_have_none (b ∷ bs) (suc i) k p e = loosened_have_none bs i k p e

record OwnPiece (q p : Pointer) (from n i k : ℕ) : Type 0 where
  pub pointer : p ≡ q
  pub place : k ≡ from + i
  pub below : i < n

own_piece : (q p : Pointer) (from n i k : ℕ) → get_or (pieces q from n) i Unwritten ≡ Piece p k → OwnPiece q p from n i k
own_piece q p from zero i k e = absurd cc
own_piece q p from (suc n) zero k e =
    let same : p ≡ q = cc in
    let place : from ≡ k = cc in
    record { pointer = same; place = omega (arith, place); below = omega arith }
own_piece q p from (suc n) (suc i) k e =
    let rest = own_piece q p (suc from) n i k e in
    let place = rest.place in
    let below = rest.below in
    record { pointer = rest.pointer; place = omega (arith, place); below = omega (arith, below) }

-- the bytes of a pointer
pub pieces_fit : (q : Pointer) (off : ℕ) → off % 8 ≡ 0 → FitAt off (pieces q 0 8)
pieces_fit q off aligned = record {
  own = λ i k p e. let o = own_piece q p 0 8 i k e in let place = o.place in let below = o.below in omega (arith, aligned, place, below);
  one = λ i j k l p r e d. (own_piece q p 0 8 i k e).pointer ∙ sym (own_piece q r 0 8 j l d).pointer;
  whole = λ i k p e. (aligned, refl);
}

-- a copy of eight bytes at a multiple of eight, or of fewer
pub copy_fits : (bs : List Byte) (from off n : ℕ) → AreTogether bs → from + n ≤ length bs → n ≤ 8 → from % n ≡ 0 → off % n ≡ 0 → FitAt off (copied (take n (drop from bs)))
copy_fits bs from off n t room few aligned begun = by (cases_lt n 8)
  where
    long : length (take n (drop from bs)) ≡ n
    long = length-take-le n (drop from bs) (let d = length-drop from bs in omega (arith, room, d))

    whole_part : n ≡ 8 → FitAt off (take n (drop from bs))
    whole_part eight =
        let at_from : from % 8 ≡ 0 = subst (λ z. from % z ≡ 0) eight aligned in
        let at_off : off % 8 ≡ 0 = subst (λ z. off % z ≡ 0) eight begun in
        record {
          own = λ i k p e. own at_from at_off i k p e (cases_lt i n);
          one = λ i j k l p q e d. one at_from i j k l p q e d (cases_lt i n) (cases_lt j n);
          whole = λ i k p e. (at_off, long ∙ eight);
        }
      where
        inside : (i : ℕ) → i < n → get_or (take n (drop from bs)) i Unwritten ≡ get_or bs (from + i) Unwritten
        inside i lt = get_or-take n (drop from bs) i Unwritten lt ∙ get_or-drop from bs i Unwritten

        past : (ys : List Byte) (i k : ℕ) (p : Pointer) → length ys ≤ i → get_or ys i Unwritten ≡ Piece p k → ⊥
        past [] i k p le e = absurd cc
        past (y ∷ ys) zero k p le e = absurd (omega (arith, le))
        past (y ∷ ys) (suc i) k p le e = past ys i k p (omega (arith, le)) e

        own : from % 8 ≡ 0 → off % 8 ≡ 0 → (i k : ℕ) (p : Pointer) → get_or (take n (drop from bs)) i Unwritten ≡ Piece p k → (i < n) ⊎ (n ≤ i) → k ≡ (off + i) % 8
        own at_from at_off i k p e (inl lt) = let k_is = t.own (from + i) k p (sym (inside i lt) ∙ e) in omega (arith, k_is, at_from, at_off)
        own at_from at_off i k p e (inr le) = absurd (past (take n (drop from bs)) i k p (omega (arith, le, long)) e)

        one : from % 8 ≡ 0 → (i j k l : ℕ) (p q : Pointer) → get_or (take n (drop from bs)) i Unwritten ≡ Piece p k → get_or (take n (drop from bs)) j Unwritten ≡ Piece q l → (i < n) ⊎ (n ≤ i) → (j < n) ⊎ (n ≤ j) → p ≡ q
        one at_from i j k l p q e d (inl lt) (inl mt) =
            t.one (from + i) (from + j) k l p q (omega (arith, at_from, lt, mt, eight)) (sym (inside i lt) ∙ e) (sym (inside j mt) ∙ d)
        one at_from i j k l p q e d (inr le) b = absurd (past (take n (drop from bs)) i k p (omega (arith, le, long)) e)
        one at_from i j k l p q e d (inl lt) (inr le) = absurd (past (take n (drop from bs)) j l q (omega (arith, le, long)) d)

    by : (n < 8) ⊎ (8 ≤ n) → FitAt off (copied (take n (drop from bs)))
    by (inl lt) =
        subst (FitAt off) (sym (ap (λ z. if z then map loosened (take n (drop from bs)) else (take n (drop from bs))) (lt-ltb _ _ (omega (arith, lt, long)))))
        (no_pieces_fit (map loosened (take n (drop from bs))) off (loosened_have_none (take n (drop from bs))))
    by (inr ge) =
        let eight : n ≡ 8 = omega (arith, ge, few) in
        subst (FitAt off) (sym (ap (λ z. if z then map loosened (take n (drop from bs)) else (take n (drop from bs))) (le-ltb _ _ (omega (arith, ge, long))))) (whole_part eight)

-- ---- a pointer that can be read

-- eight pieces that are those of one pointer, each at its place
all_its : (p : Pointer) (k : ℕ) (ys : List Byte) → all_bytes is_piece_byte ys ≡ true → ((j l : ℕ) (q : Pointer) → get_or ys j Unwritten ≡ Piece q l → (p ≡ q) × (l ≡ k + j)) → are_pieces p k ys ≡ true
all_its p k [] a each = refl
all_its p k (Unwritten ∷ ys) a each = absurd cc
all_its p k (Number b ∷ ys) a each = absurd cc
all_its p k (LoosePiece ∷ ys) a each = absurd cc
all_its p k (Piece q l ∷ ys) a each =
    let here = each 0 l q refl in
    let place : l ≡ k = let is = here.1 in omega (arith, is) in
    and_from (same_pointer p q && nat_eq l k) (are_pieces p (suc k) ys)
    (and_from (same_pointer p q) (nat_eq l k) (subst (λ z. same_pointer p z ≡ true) here.0 (same_pointer-refl p)) (eq-eqb l k place))
    (all_its p (suc k) ys a (λ j m r e. let there = each (suc j) m r e in (there.0, let is = there.1 in omega (arith, is))))

its_are_pieces : (p : Pointer) (k : ℕ) (ys : List Byte) → are_pieces p k ys ≡ true → all_bytes is_piece_byte ys ≡ true
its_are_pieces p k [] e = refl
its_are_pieces p k (Unwritten ∷ ys) e = absurd cc
its_are_pieces p k (Number b ∷ ys) e = absurd cc
its_are_pieces p k (LoosePiece ∷ ys) e = absurd cc
its_are_pieces p k (Piece q l ∷ ys) e = its_are_pieces p (suc k) ys (and_parts (same_pointer p q && nat_eq l k) (are_pieces p (suc k) ys) e).1

abbrev is_found : Option Pointer → Bool
is_found None = false
is_found (Some p) = true

null_found : (o : Option ℕ) → is_number_zero o ≡ is_found (null_of o)
null_found None = refl
null_found (Some zero) = refl
null_found (Some (suc n)) =
    let some : suc n ≢ 0 = λ e. absurd (omega (arith, e)) in
    ne_eqb (suc n) 0 some

-- bytes of which pieces stand together, from the first byte of a group on
bytes_load : (ys : List Byte) → length ys ≡ 8 → ((j l : ℕ) (p q : Pointer) (k : ℕ) → get_or ys 0 Unwritten ≡ Piece p k → get_or ys j Unwritten ≡ Piece q l → (p ≡ q) × (l ≡ j))
    → (if all_bytes is_piece_byte ys then true else is_number_zero (number_of ys)) ≡ is_found (pointer_of ys)
bytes_load [] e each = absurd (omega (arith, e))
bytes_load (Unwritten ∷ ys) e each = refl
bytes_load (LoosePiece ∷ ys) e each = refl
bytes_load (Number b ∷ ys) e each = null_found (number_of (Number b ∷ ys))
bytes_load (Piece p k ∷ ys) e each = by (all_bytes is_piece_byte ys) refl
  where
    by : (t : Bool) → all_bytes is_piece_byte ys ≡ t → (if all_bytes is_piece_byte ys then true else false) ≡ is_found (if are_pieces p 0 (Piece p k ∷ ys) then Some p else None)
    by true t =
        let pieces_are : are_pieces p 0 (Piece p k ∷ ys) ≡ true = all_its p 0 (Piece p k ∷ ys) t (λ j l q d. let there = each j l p q k refl d in (there.0, let is = there.1 in omega (arith, is))) in
        ap (λ z. if z then true else false) t ∙ sym (ap (λ z. is_found (if z then Some p else None)) pieces_are)
    by false t = ap (λ z. if z then true else false) t ∙ sym (none (are_pieces p 0 (Piece p k ∷ ys)) refl)
      where
        none : (z : Bool) → are_pieces p 0 (Piece p k ∷ ys) ≡ z → is_found (if z then Some p else None) ≡ false
        none true z = let all : true ≡ false = sym (its_are_pieces p 0 (Piece p k ∷ ys) z) ∙ t in absurd (cc all)
        none false z = refl

found_there : (o : Option Pointer) → is_found o ≡ is_there (option_map Points o)
found_there None = refl
found_there (Some p) = refl

past_end : (ys : List Byte) (i k : ℕ) (p : Pointer) → length ys ≤ i → get_or ys i Unwritten ≡ Piece p k → ⊥
past_end [] i k p le e = absurd cc
past_end (y ∷ ys) zero k p le e = absurd (omega (arith, le))
past_end (y ∷ ys) (suc i) k p le e = past_end ys i k p (omega (arith, le)) e

-- eight bytes of a block, at a multiple of eight
group_loads : (b : Block) (i : ℕ) → length b.bytes ≡ b.size → AreTogether b.bytes → i + 8 ≤ b.size → i % 8 ≡ 0
    → (if all_bytes is_piece_byte (take 8 (drop i b.bytes)) then true else is_number_zero (number_of (take 8 (drop i b.bytes)))) ≡ is_found (pointer_of (take 8 (drop i b.bytes)))
group_loads b i whole t room aligned = bytes_load (take 8 (drop i b.bytes)) long each
  where
    long : length (take 8 (drop i b.bytes)) ≡ 8
    long = length-take-le 8 (drop i b.bytes) (let d = length-drop i b.bytes in omega (arith, room, whole, d))

    inside : (j : ℕ) → j < 8 → get_or (take 8 (drop i b.bytes)) j Unwritten ≡ get_or b.bytes (i + j) Unwritten
    inside j lt = get_or-take 8 (drop i b.bytes) j Unwritten lt ∙ get_or-drop i b.bytes j Unwritten

    by : (j l : ℕ) (p q : Pointer) (k : ℕ) → get_or (take 8 (drop i b.bytes)) 0 Unwritten ≡ Piece p k → get_or (take 8 (drop i b.bytes)) j Unwritten ≡ Piece q l → (j < 8) ⊎ (8 ≤ j) → (p ≡ q) × (l ≡ j)
    by j l p q k e d (inr le) = absurd (past_end (take 8 (drop i b.bytes)) j l q (omega (arith, le, long)) d)
    by j l p q k e d (inl lt) =
        let first = sym (inside 0 (omega arith)) ∙ e in
        let other = sym (inside j lt) ∙ d in
        let own = t.own (i + j) l q other in
        (t.one (i + 0) (i + j) k l p q (omega (arith, aligned, lt)) first other, omega (arith, own, aligned, lt))

    each : (j l : ℕ) (p q : Pointer) (k : ℕ) → get_or (take 8 (drop i b.bytes)) 0 Unwritten ≡ Piece p k → get_or (take 8 (drop i b.bytes)) j Unwritten ≡ Piece q l → (p ≡ q) × (l ≡ j)
    each j l p q k e d = by j l p q k e d (cases_lt j 8)

abbrev is_pointer_part : Part → Bool
is_pointer_part p = if all_bytes is_piece_byte (part_bytes p 8) then true else is_number_zero (number_of (part_bytes p 8))

abbrev loaded : Option (List Byte) → Bool
loaded o = is_there (o >>= value_from PointerType)

into_loads : (store : Store) (n i : ℕ) → AllTogether store → has_pointer store (address_of (Into (suc n) i)) ≡ is_there (load store (Into (suc n) i) PointerType)
into_loads store n i all = by (slice_get store n) refl
  where
    by_test : (b : Block) → slice_get store n ≡ Some b → (t : Bool) → is_accessible b i 8 ≡ t
        → answered (if t then Some (part b i) else None) is_pointer_part ≡ loaded (if t then Some (take 8 (drop i b.bytes)) else None)
    by_test b at false t = refl
    by_test b at true t =
        let inner = (and_parts b.live (nat_le (i + 8) b.size && nat_eq (i % 8) 0) t).1 in
        let parts = and_parts (nat_le (i + 8) b.size) (nat_eq (i % 8) 0) inner in
        let known = all n b at in
        group_loads b i known.0 known.1 (leb-true _ _ parts.0) (eqb-true _ _ parts.1) ∙ found_there (pointer_of (take 8 (drop i b.bytes)))

    by : (o : Option Block) → slice_get store n ≡ o → answered (part_in o (Some i) 8 8) is_pointer_part ≡ loaded (bytes_in o i 8)
    by None at = refl
    by (Some b) at = by_test b at (is_accessible b i 8) refl

pub pointers_load : PointersLoad
pointers_load store Null all = refl
pointers_load store (Into zero i) all = refl
pointers_load store (Into (suc n) i) all = into_loads store n i all
