-- What is done to a store leaves it sound: saves of values, copies, births, deaths.
use Rattle.std.proofs.Common.{◌≡◌, ℕ, zero, suc, ◌+◌, ◌/◌, ◌%◌, ◌^◌, ◌<◌, ◌≤◌, ◌⊎◌, inl, inr, Bool, true, false, not, ◌&&◌, if◌then◌else◌, nat_eq, nat_le, nat_lt}
use Rattle.std.proofs.Common.{List, [], ◌∷◌, ◌++◌, length, take, drop, map, replicate, Option, Some, None, get_or, slice_get, slice_set, refl, sym, ap, ◌∙◌, subst, arith}
use Rattle.std.proofs.lemmas.Bool.{cases_lt, and_parts, eqb-true}
use Rattle.std.proofs.lemmas.List.{length-drop, length-take-le, length-replicate, get_or-take, get_or-drop}
use Rattle.c_syntax.specs.Layouts.{int_size, Scalar, IntegerType, PointerType, scalar_size}
use Rattle.c_model.specs.Integers.{bits_of}
use Rattle.c_model.specs.Memory.{Pointer, Null, Into, Value, Integer, Points, NoValue, Byte, Unwritten, Number, Piece, LoosePiece, Block, Store, bytes_of, pieces, bytes_from, loosened, copied}
use Rattle.c_model.specs.Memory.{is_accessible, bytes_in, load_bytes, with_bytes, save_bytes, save, shifted, copy_all, is_stack, kill_from, freed}
use Rattle.c_model.specs.HeapLaws.{BlocksStay}
use Rattle.c_model.specs.Together.{AreTogether, FitAt}
use Rattle.c_model.specs.SoundStates.{IsPlaced, IsPlacedValue, IsSoundByte, AreSoundBytes, IsSoundBlock, IsSound, AreScalarSizes}
use Rattle.c_model.proofs.Blocks.{saved_parts, within_block, length-with_bytes, length-copied, freed_parts}
use Rattle.c_model.proofs.Cells.{length-bytes_from}
use Rattle.c_model.proofs.StructCopies.{copied_parts, first_copy}
use Rattle.c_model.proofs.Together.{Read, Inside, Outside, read_at, together_written, no_pieces_fit, numbers_have_none, pieces_fit, copy_fits}
use Rattle.c_model.proofs.BlocksLast.{stay_saved, stay_born, stay_freed, stay_killed}

-- ---- what stays as it is

pub placed_onward : (store after : Store) (p : Pointer) → BlocksStay store after → IsPlaced store p → IsPlaced after p
placed_onward store after Null stay h = tt
placed_onward store after (Into n i) stay h =
    let later = stay n h.0 h.1 in
    (later.0, later.1, subst (λ z. i ≤ z) (sym later.2.size) h.2)

pub value_onward : (store after : Store) (v : Value) → BlocksStay store after → IsPlacedValue store v → IsPlacedValue after v
value_onward store after (Integer z) stay h = tt
value_onward store after (Points p) stay h = placed_onward store after p stay h
value_onward store after NoValue stay h = tt

pub byte_onward : (store after : Store) (b : Byte) → BlocksStay store after → IsSoundByte store b → IsSoundByte after b
byte_onward store after Unwritten stay h = tt
byte_onward store after (Number n) stay h = h
byte_onward store after (Piece p k) stay h = placed_onward store after p stay h
byte_onward store after LoosePiece stay h = tt

-- where a block of the later store comes from: one with the same bytes, or it is sound by itself
data Came (store after : Store) (k : ℕ) (d : Block) : Type 0 where
  Old : (b : Block) → slice_get store k ≡ Some b → d.bytes ≡ b.bytes → d.size ≡ b.size → Came store after k d
  New : IsSoundBlock after d → Came store after k d

sound_old : (store after : Store) (b d : Block) → BlocksStay store after → IsSoundBlock store b → d.bytes ≡ b.bytes → d.size ≡ b.size → IsSoundBlock after d
sound_old store after b d stay h same size = record {
  long = ap length same ∙ h.long ∙ sym size;
  small = subst (λ z. z ≤ 2 ^ 32) (sym size) h.small;
  bytes = λ i. subst (λ bs. IsSoundByte after (get_or bs i Unwritten)) (sym same) (byte_onward store after (get_or b.bytes i Unwritten) stay (h.bytes i));
  together = subst AreTogether (sym same) h.together;
}

sound_later : (store after : Store) → BlocksStay store after → IsSound store → ((k : ℕ) (d : Block) → slice_get after k ≡ Some d → Came store after k d) → IsSound after
sound_later store after stay h came k d found = by (came k d found)
  where
    by : Came store after k d → IsSoundBlock after d
    by (Old b at same size) = sound_old store after b d stay (h k b at) same size
    by (New s) = s

-- ---- saves

set_came : (store after : Store) (k : ℕ) (c : Block) → ((d : Block) → d ≡ c → IsSoundBlock after d) → (j : ℕ) (d : Block) → slice_get (slice_set store k c) j ≡ Some d → Came store after j d
set_came [] after k c new j d found = absurd cc
set_came (x ∷ xs) after zero c new zero d found = let same : c ≡ d = cc in New (new d (sym same))
set_came (x ∷ xs) after zero c new (suc j) d found = Old d found refl refl
set_came (x ∷ xs) after (suc k) c new zero d found = Old d found refl refl
set_came (x ∷ xs) after (suc k) c new (suc j) d found = by (set_came xs after k c new j d found)
  where
    by : Came xs after j d → Came (x ∷ xs) after (suc j) d
    by (Old b at same size) = Old b at same size
    by (New s) = New s

-- bytes that fit, of which each is sound, leave the store sound
pub sound_saved : (store saved : Store) (p : Pointer) (n : ℕ) (ys : List Byte) → IsSound store → length ys ≤ n → AreSoundBytes store ys
    → ((k off : ℕ) → p ≡ Into (suc k) off → (b : Block) → is_accessible b off n ≡ true → FitAt off ys) → save_bytes store p n ys ≡ Some saved → IsSound saved
sound_saved store saved Null n ys h few sound fit e = absurd cc
sound_saved store saved (Into zero off) n ys h few sound fit e = absurd cc
sound_saved store saved (Into (suc k) off) n ys h few sound fit e =
    let s = saved_parts store saved k off n ys e in
    let stay = stay_saved store saved (Into (suc k) off) n ys e in
    let old = h k s.b s.found in
    let room = within_block s.b off n s.accessible in
    let long = old.long in
    let le : off + length ys ≤ length s.b.bytes = omega (arith, few, room, long) in
    sound_later store saved stay h (λ j d found.
    set_came store saved k (with_bytes s.b off ys) (λ d is. subst (IsSoundBlock saved) (sym is) (record {
      long = length-with_bytes s.b off ys le ∙ old.long;
      small = old.small;
      bytes = λ i. byte stay s.b i (read_at s.b.bytes ys off i le) (old.bytes i);
      together = together_written s.b.bytes ys off old.together (fit k off refl s.b s.accessible) le;
    })) j d (subst (λ x. slice_get x j ≡ Some d) s.is found))
  where
    byte : BlocksStay store saved → (b : Block) (i : ℕ) → Read b.bytes ys off i → IsSoundByte store (get_or b.bytes i Unwritten)
        → IsSoundByte saved (get_or (take off b.bytes ++ (ys ++ drop (off + length ys) b.bytes)) i Unwritten)
    byte stay b i (Inside j is lt there) s = subst (IsSoundByte saved) (sym there) (byte_onward store saved (get_or ys j Unwritten) stay (sound j))
    byte stay b i (Outside side there) s = subst (IsSoundByte saved) (sym there) (byte_onward store saved (get_or b.bytes i Unwritten) stay s)

-- ---- values

number_bytes : (store : Store) (w n : ℕ) → AreSoundBytes store (bytes_of w n)
number_bytes store zero n i = tt
number_bytes store (suc w) n zero = omega arith
number_bytes store (suc w) n (suc i) = number_bytes store w (n / 256) i

piece_bytes : (store : Store) (p : Pointer) (k n : ℕ) → IsPlaced store p → AreSoundBytes store (pieces p k n)
piece_bytes store p k zero h i = tt
piece_bytes store p k (suc n) h zero = h
piece_bytes store p k (suc n) h (suc i) = piece_bytes store p (suc k) n h i

value_bytes : (store : Store) (k : Scalar) (v : Value) → IsPlacedValue store v → AreSoundBytes store (bytes_from k v)
value_bytes store (IntegerType k) (Integer z) h = number_bytes store (int_size k) (bits_of k z)
value_bytes store (IntegerType k) (Points p) h = λ i. tt
value_bytes store (IntegerType k) NoValue h = λ i. tt
value_bytes store PointerType (Integer z) h = λ i. tt
value_bytes store PointerType (Points p) h = piece_bytes store p 0 8 h
value_bytes store PointerType NoValue h = λ i. tt

nothing_fits : (off : ℕ) → FitAt off []
nothing_fits off = no_pieces_fit [] off (λ i k p e. absurd cc)

value_fits : (off : ℕ) (k : Scalar) (v : Value) → off % scalar_size k ≡ 0 → FitAt off (bytes_from k v)
value_fits off (IntegerType k) (Integer z) aligned = no_pieces_fit (bytes_of (int_size k) (bits_of k z)) off (numbers_have_none (int_size k) (bits_of k z))
value_fits off (IntegerType k) (Points p) aligned = nothing_fits off
value_fits off (IntegerType k) NoValue aligned = nothing_fits off
value_fits off PointerType (Integer z) aligned = nothing_fits off
value_fits off PointerType (Points p) aligned = pieces_fit p off aligned
value_fits off PointerType NoValue aligned = nothing_fits off

aligned_at : (b : Block) (off n : ℕ) → is_accessible b off n ≡ true → off % n ≡ 0
aligned_at b off n e = eqb-true _ _ (and_parts (nat_le (off + n) b.size) (nat_eq (off % n) 0) (and_parts b.live (nat_le (off + n) b.size && nat_eq (off % n) 0) e).1).1

-- a value that points into blocks is saved
pub value_saved : (store saved : Store) (p : Pointer) (k : Scalar) (v : Value) → IsSound store → IsPlacedValue store v → save store p k v ≡ Some saved → IsSound saved
value_saved store saved p k v h placed e =
    sound_saved store saved p (scalar_size k) (bytes_from k v) h (length-bytes_from k v) (value_bytes store k v placed)
    (λ j off is b a. value_fits off k v (aligned_at b off (scalar_size k) a)) e

-- bytes without pieces are saved
pub plain_saved : (store saved : Store) (p : Pointer) (n : ℕ) (ys : List Byte) → IsSound store → length ys ≤ n → AreSoundBytes store ys
    → ((i k : ℕ) (q : Pointer) → get_or ys i Unwritten ≡ Piece q k → ⊥) → save_bytes store p n ys ≡ Some saved → IsSound saved
plain_saved store saved p n ys h few sound none e = sound_saved store saved p n ys h few sound (λ k off is b a. no_pieces_fit ys off none) e

-- ---- copies

loosened_sound : (store : Store) (bs : List Byte) → AreSoundBytes store bs → AreSoundBytes store (map loosened bs)
loosened_sound store [] h i = tt
loosened_sound store (Unwritten ∷ bs) h zero = tt
loosened_sound store (Number n ∷ bs) h zero = h 0
loosened_sound store (Piece p k ∷ bs) h zero = tt
loosened_sound store (LoosePiece ∷ bs) h zero = tt
loosened_sound store (b ∷ bs) h (suc i) = loosened_sound store bs (λ j. h (suc j)) i

copied_sound : (store : Store) (bs : List Byte) → AreSoundBytes store bs → AreSoundBytes store (copied bs)
copied_sound store bs h = by (nat_lt (length bs) 8)
  where
    by : (t : Bool) → AreSoundBytes store (if t then map loosened bs else bs)
    by true = loosened_sound store bs h
    by false = h

-- what is loaded: so many bytes of a sound block
pub record Taken (store : Store) (n : ℕ) (bytes : List Byte) : Type 0 where
  pub b : Block
  pub from : ℕ
  pub sound : IsSoundBlock store b
  pub room : from + n ≤ length b.bytes
  pub aligned : from % n ≡ 0
  pub is : bytes ≡ take n (drop from b.bytes)

pub taken_at : (store : Store) (q : Pointer) (n : ℕ) (bytes : List Byte) → IsSound store → load_bytes store q n ≡ Some bytes → Taken store n bytes
taken_at store Null n bytes h e = absurd cc
taken_at store (Into zero i) n bytes h e = absurd cc
taken_at store (Into (suc k) i) n bytes h e = by (slice_get store k) refl e
  where
    test : (b : Block) → slice_get store k ≡ Some b → (t : Bool) → is_accessible b i n ≡ t → (if t then Some (take n (drop i b.bytes)) else None) ≡ Some bytes → Taken store n bytes
    test b at true a f =
        let s = h k b at in
        let long = s.long in
        let room = within_block b i n a in
        let is : take n (drop i b.bytes) ≡ bytes = cc in
        record { b = b; from = i; sound = s; room = omega (arith, long, room); aligned = aligned_at b i n a; is = sym is }
    test b at false a f = absurd cc

    by : (o : Option Block) → slice_get store k ≡ o → bytes_in o i n ≡ Some bytes → Taken store n bytes
    by None at f = absurd cc
    by (Some b) at f = test b at (is_accessible b i n) refl f

taken_sound : (store : Store) (bs : List Byte) (from n : ℕ) → from + n ≤ length bs → AreSoundBytes store bs → AreSoundBytes store (take n (drop from bs))
taken_sound store bs from n room h i = by (cases_lt i n)
  where
    long : length (take n (drop from bs)) ≡ n
    long = length-take-le n (drop from bs) (let d = length-drop from bs in omega (arith, room, d))

    past : (ys : List Byte) (j : ℕ) → length ys ≤ j → get_or ys j Unwritten ≡ Unwritten
    past [] j le = refl
    past (y ∷ ys) zero le = absurd (omega (arith, le))
    past (y ∷ ys) (suc j) le = past ys j (omega (arith, le))

    by : (i < n) ⊎ (n ≤ i) → IsSoundByte store (get_or (take n (drop from bs)) i Unwritten)
    by (inl lt) = subst (IsSoundByte store) (sym (get_or-take n (drop from bs) i Unwritten lt ∙ get_or-drop from bs i Unwritten)) (h (from + i))
    by (inr le) = subst (IsSoundByte store) (sym (past (take n (drop from bs)) i (omega (arith, le, long)))) tt

-- so many of them, each sound
pub taken_bytes : (store : Store) (q : Pointer) (n : ℕ) (bytes : List Byte) → IsSound store → load_bytes store q n ≡ Some bytes → (length bytes ≡ n) × AreSoundBytes store bytes
taken_bytes store q n bytes h e =
    let t = taken_at store q n bytes h e in
    let room = t.room in
    let long : length (take n (drop t.from t.b.bytes)) ≡ n = length-take-le n (drop t.from t.b.bytes) (let x = length-drop t.from t.b.bytes in omega (arith, room, x)) in
    (ap length t.is ∙ long, subst (AreSoundBytes store) (sym t.is) (taken_sound store t.b.bytes t.from n t.room t.sound.bytes))

pub all_copied : (store saved : Store) (p q : Pointer) (cs : List (ℕ × ℕ)) → IsSound store → AreScalarSizes cs → copy_all store p q cs ≡ Some saved → IsSound saved
all_copied store saved p q [] h few e = let same : store ≡ saved = cc in subst IsSound same h
all_copied store saved p q (c ∷ cs) h few e =
    let f = first_copy store saved p q c cs e in
    let d = copied_parts store f.next (shifted p c.0) (shifted q c.0) c.1 f.is in
    let t = taken_at store (shifted q c.0) c.1 d.bytes h d.loaded in
    let room = t.room in
    let long : length (take c.1 (drop t.from t.b.bytes)) ≡ c.1 = length-take-le c.1 (drop t.from t.b.bytes) (let x = length-drop t.from t.b.bytes in omega (arith, room, x)) in
    let few_bytes : length (copied d.bytes) ≤ c.1 = let y = length-copied d.bytes in let z = ap length t.is in omega (arith, y, z, long) in
    let bytes : AreSoundBytes store (copied d.bytes) = copied_sound store d.bytes (subst (AreSoundBytes store) (sym t.is) (taken_sound store t.b.bytes t.from c.1 t.room t.sound.bytes)) in
    let next : IsSound f.next = sound_saved store f.next (shifted p c.0) c.1 (copied d.bytes) h few_bytes bytes
    (λ k off is b a. subst (λ x. FitAt off (copied x)) (sym t.is) (copy_fits t.b.bytes t.from off c.1 t.sound.together t.room few.0 t.aligned (aligned_at b off c.1 a))) d.saved_as in
    all_copied f.next saved p q cs next few.1 f.rest

-- ---- births and deaths

born_came : (store after : Store) (c : Block) → ((d : Block) → d ≡ c → IsSoundBlock after d) → (j : ℕ) (d : Block) → slice_get (store ++ c ∷ []) j ≡ Some d → Came store after j d
born_came [] after c new zero d found = let same : c ≡ d = cc in New (new d (sym same))
born_came [] after c new (suc j) d found = absurd cc
born_came (x ∷ xs) after c new zero d found = Old d found refl refl
born_came (x ∷ xs) after c new (suc j) d found = by (born_came xs after c new j d found)
  where
    by : Came xs after j d → Came (x ∷ xs) after (suc j) d
    by (Old b at same size) = Old b at same size
    by (New s) = New s

-- a byte that a new block is filled with
abbrev pub IsPlain : Byte → Type 0
IsPlain Unwritten = Unit {0}
IsPlain (Number n) = n < 256
IsPlain (Piece p k) = ⊥
IsPlain LoosePiece = Unit {0}

plain_sound : (store : Store) (b : Byte) → IsPlain b → IsSoundByte store b
plain_sound store Unwritten h = tt
plain_sound store (Number n) h = h
plain_sound store (Piece p k) h = absurd h
plain_sound store LoosePiece h = tt

filled_sound : (store : Store) (n : ℕ) (b : Byte) → IsPlain b → AreSoundBytes store (replicate n b)
filled_sound store zero b h i = tt
filled_sound store (suc n) b h zero = plain_sound store b h
filled_sound store (suc n) b h (suc i) = filled_sound store n b h i

plain_none : (b : Byte) (p : Pointer) (k : ℕ) → IsPlain b → b ≡ Piece p k → ⊥
plain_none Unwritten p k h e = absurd cc
plain_none (Number n) p k h e = absurd cc
plain_none (Piece q j) p k h e = h
plain_none LoosePiece p k h e = absurd cc

filled_none : (n : ℕ) (b : Byte) → IsPlain b → (i k : ℕ) (p : Pointer) → get_or (replicate n b) i Unwritten ≡ Piece p k → ⊥
filled_none zero b h i k p e = absurd cc
filled_none (suc n) b h zero k p e = plain_none b p k h e
filled_none (suc n) b h (suc i) k p e = filled_none n b h i k p e

pub none_together : (bs : List Byte) → ((i k : ℕ) (p : Pointer) → get_or bs i Unwritten ≡ Piece p k → ⊥) → AreTogether bs
none_together bs none = record { own = λ i k p e. absurd (none i k p e); one = λ i j k l p q g e d. absurd (none i k p e) }

-- a block that is born full of one byte
pub filled_born : (store : Store) (c : Block) (n : ℕ) (b : Byte) → IsSound store → IsPlain b → c.bytes ≡ replicate n b → c.size ≡ n → n ≤ 2 ^ 32 → IsSound (store ++ c ∷ [])
filled_born store c n b h plain bytes size le =
    sound_later store (store ++ c ∷ []) (stay_born store c) h (born_came store (store ++ c ∷ []) c (λ d is. subst (IsSoundBlock (store ++ c ∷ [])) (sym is) (record {
      long = ap length bytes ∙ length-replicate n b ∙ sym size;
      small = subst (λ z. z ≤ 2 ^ 32) (sym size) le;
      bytes = subst (AreSoundBytes (store ++ c ∷ [])) (sym bytes) (filled_sound (store ++ c ∷ []) n b plain);
      together = subst AreTogether (sym bytes) (none_together (replicate n b) (filled_none n b plain));
    })))

killed_came : (n : ℕ) (store after : Store) (j : ℕ) (d : Block) → slice_get (kill_from n store) j ≡ Some d → Came store after j d
killed_came n [] after j d found = absurd cc
killed_came zero (b ∷ bs) after zero d found =
    let same : (record b { live = b.live && not (is_stack b.kind) }) ≡ d = cc in
    Old b refl (ap (λ x. x.bytes) (sym same)) (ap (λ x. x.size) (sym same))
killed_came zero (b ∷ bs) after (suc j) d found = by (killed_came zero bs after j d found)
  where
    by : Came bs after j d → Came (b ∷ bs) after (suc j) d
    by (Old c at same size) = Old c at same size
    by (New s) = New s
killed_came (suc n) (b ∷ bs) after zero d found = Old d found refl refl
killed_came (suc n) (b ∷ bs) after (suc j) d found = by (killed_came n bs after j d found)
  where
    by : Came bs after j d → Came (b ∷ bs) after (suc j) d
    by (Old c at same size) = Old c at same size
    by (New s) = New s

-- what dies leaves the store sound
pub sound_killed : (n : ℕ) (store : Store) → IsSound store → IsSound (kill_from n store)
sound_killed n store h = sound_later store (kill_from n store) (stay_killed n store) h (killed_came n store (kill_from n store))

freed_came : (store after : Store) (k : ℕ) (b c : Block) → slice_get store k ≡ Some b → c.bytes ≡ b.bytes → c.size ≡ b.size → (j : ℕ) (d : Block) → slice_get (slice_set store k c) j ≡ Some d → Came store after j d
freed_came [] after k b c at same size j d found = absurd cc
freed_came (x ∷ xs) after zero b c at same size zero d found = let is : c ≡ d = cc in Old b at (ap (λ x. x.bytes) (sym is) ∙ same) (ap (λ x. x.size) (sym is) ∙ size)
freed_came (x ∷ xs) after zero b c at same size (suc j) d found = Old d found refl refl
freed_came (x ∷ xs) after (suc k) b c at same size zero d found = Old d found refl refl
freed_came (x ∷ xs) after (suc k) b c at same size (suc j) d found = by (freed_came xs after k b c at same size j d found)
  where
    by : Came xs after j d → Came (x ∷ xs) after (suc j) d
    by (Old e f g h) = Old e f g h
    by (New s) = New s

pub sound_freed : (store after : Store) (p : Pointer) → IsSound store → freed store p ≡ Some after → IsSound after
sound_freed store after Null h e = let same : store ≡ after = cc in subst IsSound same h
sound_freed store after (Into zero off) h e = absurd cc
sound_freed store after (Into (suc k) (suc off)) h e = absurd cc
sound_freed store after (Into (suc k) zero) h e =
    let f = freed_parts store after k e in
    sound_later store after (stay_freed store after (Into (suc k) 0) e) h
    (λ j d found. freed_came store after k f.b (record f.b { live = false }) f.found refl refl j d (subst (λ x. slice_get x j ≡ Some d) f.is found))
