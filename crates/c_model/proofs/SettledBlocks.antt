-- Along a run the live blocks of the heap end within it and have no unit in common.
use Rattle.std.proofs.Common.{◌≡◌, ℕ, zero, suc, ◌+◌, ◌/◌, ◌≤◌, ◌≢◌, Bool, true, false, not, ◌&&◌, nat_eq, List, [], ◌∷◌, ◌++◌, length, replicate, Some, slice_get, slice_set, refl, sym, ap, ◌∙◌, subst, arith}
use Rattle.std.proofs.lemmas.List.{length-replicate}
use Rattle.c_syntax.specs.declared.types.BlockKind.TheVariants.{Stack, Heap}
use Rattle.c_syntax.specs.Statements.{Statement}
use Rattle.c_syntax.specs.Programs.{TranslationUnit}
use Rattle.c_model.specs.Limits.{heap_bytes}
use Rattle.c_model.specs.Memory.{Pointer, Null, Into, Byte, Block, Store, block_at, new_block, with_bytes, save_bytes, shifted, copy_all, is_stack, kill_from, standard_sizes, units, At, heap_room, heap_block, freed}
use Rattle.c_model.specs.State.{State, Outcome, Normal, Stop}
use Rattle.c_model.specs.Meaning.{exec, call_of, tables_of}
use Rattle.c_model.specs.Laws.{store_after}
use Rattle.c_model.specs.HeapLaws.{AreApart, Before, Behind, IsPlace, AreSettled}
use Rattle.c_model.proofs.Blocks.{saved_parts, freed_parts}
use Rattle.c_model.proofs.GrownStructs.{same_number, other_number}
use Rattle.c_model.proofs.HeapPlaces.{heap_places_fit}
use Rattle.c_model.proofs.HeapBlocks.{block_at-youngest, block_at-others}
use Rattle.c_model.proofs.StructCopies.{copied_parts, first_copy}
use Rattle.c_model.proofs.Along.{Lasts, state_after, along_exec, along_call_of}

-- a live block of the heap as it was before
record WasLive (store : Store) (k : ℕ) (later : Block) : Type 0 where
  b : Block
  found : slice_get store k ≡ Some b
  live : b.live ≡ true
  kind : b.kind ≡ Heap
  place : b.place ≡ later.place
  size : b.size ≡ later.size

-- all of them were there before
abbrev NoneBorn : Store → Store → Type 0
NoneBorn store after = (k : ℕ) (later : Block) → slice_get after k ≡ Some later → later.live ≡ true → later.kind ≡ Heap → WasLive store k later

apart_as : (a m b n a' m' b' n' : ℕ) → a ≡ a' → m ≡ m' → b ≡ b' → n ≡ n' → AreApart a m b n → AreApart a' m' b' n'
apart_as a m b n a' m' b' n' p q r s (Before l) = Before (omega (arith, p, q, r, s, l))
apart_as a m b n a' m' b' n' p q r s (Behind l) = Behind (omega (arith, p, q, r, s, l))

turned : (a m b n : ℕ) → AreApart a m b n → AreApart b n a m
turned a m b n (Before l) = Behind l
turned a m b n (Behind l) = Before l

kept : (store after : Store) → NoneBorn store after → AreSettled store → AreSettled after
kept store after h s = record {
  inside = inside;
  apart = apart;
}
  where
    inside : (n : ℕ) (b : Block) → block_at after n ≡ Some b → b.live ≡ true → b.kind ≡ Heap → b.place + units b.size ≤ heap_bytes / 16
    inside zero b found live heap = absurd cc
    inside (suc k) b found live heap =
        let w = h k b found live heap in
        subst (λ x. x + units b.size ≤ heap_bytes / 16) w.place (subst (λ x. w.b.place + units x ≤ heap_bytes / 16) w.size (s.inside (suc k) w.b w.found w.live w.kind))

    apart : (n m : ℕ) (b c : Block) → n ≢ m → block_at after n ≡ Some b → b.live ≡ true → b.kind ≡ Heap → block_at after m ≡ Some c → c.live ≡ true → c.kind ≡ Heap → AreApart b.place (units b.size) c.place (units c.size)
    apart zero m b c d found live heap found' live' heap' = absurd cc
    apart (suc k) zero b c d found live heap found' live' heap' = absurd cc
    apart (suc k) (suc j) b c d found live heap found' live' heap' =
        let w = h k b found live heap in
        let v = h j c found' live' heap' in
        apart_as _ _ _ _ _ _ _ _ w.place (ap units w.size) v.place (ap units v.size) (s.apart (suc k) (suc j) w.b v.b d w.found w.live w.kind v.found v.live v.kind)

as_it_was : (store : Store) (k : ℕ) (b : Block) → slice_get store k ≡ Some b → b.live ≡ true → b.kind ≡ Heap → WasLive store k b
as_it_was store k b found live heap = record { b = b; found = found; live = live; kind = heap; place = refl; size = refl }

-- a block that is no more than another one was
record IsNoMore (b c : Block) : Type 0 where
  kind : c.kind ≡ b.kind
  size : b.size ≡ c.size
  place : b.place ≡ c.place
  live : c.live ≡ true → b.live ≡ true

was_live : (store : Store) (k : ℕ) (b c later : Block) → slice_get store k ≡ Some b → IsNoMore b c → c ≡ later → later.live ≡ true → later.kind ≡ Heap → WasLive store k later
was_live store k b c later found h same live heap =
    subst (WasLive store k) same (record {
      b = b;
      found = found;
      live = h.live (ap (λ (x : Block). x.live) same ∙ live);
      kind = sym h.kind ∙ ap (λ (x : Block). x.kind) same ∙ heap;
      place = h.place;
      size = h.size;
    })

farther : (x : Block) (xs : Store) (k : ℕ) (later : Block) → WasLive xs k later → WasLive (x ∷ xs) (suc k) later
farther x xs k later w = record { b = w.b; found = w.found; live = w.live; kind = w.kind; place = w.place; size = w.size }

none_born-set : (store : Store) (k : ℕ) (b c : Block) → slice_get store k ≡ Some b → IsNoMore b c → NoneBorn store (slice_set store k c)
none_born-set [] k b c e h m later found live heap = absurd cc
none_born-set (x ∷ xs) zero b c e h zero later found live heap = let same : c ≡ later = cc in was_live (x ∷ xs) 0 b c later e h same live heap
none_born-set (x ∷ xs) zero b c e h (suc m) later found live heap = as_it_was (x ∷ xs) (suc m) later found live heap
none_born-set (x ∷ xs) (suc k) b c e h zero later found live heap = as_it_was (x ∷ xs) 0 later found live heap
none_born-set (x ∷ xs) (suc k) b c e h (suc m) later found live heap = farther x xs m later (none_born-set xs k b c e h m later found live heap)

settled-saved : (store saved : Store) (p : Pointer) (n : ℕ) (bytes : List Byte) → save_bytes store p n bytes ≡ Some saved → AreSettled store → AreSettled saved
settled-saved store saved Null n bytes e s = absurd cc
settled-saved store saved (Into zero offset) n bytes e s = absurd cc
settled-saved store saved (Into (suc k) offset) n bytes e s =
    let p = saved_parts store saved k offset n bytes e in
    subst AreSettled (sym p.is) (kept store _ (none_born-set store k p.b (with_bytes p.b offset bytes) p.found (record { kind = refl; size = refl; place = refl; live = λ l. l })) s)

settled-copied : (store saved : Store) (p q : Pointer) (cs : List (ℕ × ℕ)) → copy_all store p q cs ≡ Some saved → AreSettled store → AreSettled saved
settled-copied store saved p q [] e s = let same : store ≡ saved = cc in subst AreSettled same s
settled-copied store saved p q (c ∷ cs) e s =
    let f = first_copy store saved p q c cs e in
    let d = copied_parts store f.next (shifted p c.0) (shifted q c.0) c.1 f.is in
    settled-copied f.next saved p q cs f.rest (settled-saved store f.next (shifted p c.0) c.1 _ d.saved_as s)

settled-freed : (store after : Store) (p : Pointer) → freed store p ≡ Some after → AreSettled store → AreSettled after
settled-freed store after Null e s = let same : store ≡ after = cc in subst AreSettled same s
settled-freed store after (Into zero offset) e s = absurd cc
settled-freed store after (Into (suc k) (suc offset)) e s = absurd cc
settled-freed store after (Into (suc k) zero) e s =
    let f = freed_parts store after k e in
    subst AreSettled (sym f.is) (kept store _ (none_born-set store k f.b (record f.b { live = false }) f.found (record { kind = refl; size = refl; place = refl; live = λ l. absurd cc })) s)

lives : (x y : Bool) → (x && y) ≡ true → x ≡ true
lives true y e = refl
lives false y e = absurd cc

none_born-killed : (n : ℕ) (store : Store) → NoneBorn store (kill_from n store)
none_born-killed n [] k later found live heap = absurd cc
none_born-killed zero (b ∷ bs) zero later found live heap =
    let same : record b { live = b.live && not (is_stack b.kind) } ≡ later = cc in
    was_live (b ∷ bs) 0 b (record b { live = b.live && not (is_stack b.kind) }) later refl (record { kind = refl; size = refl; place = refl; live = lives b.live (not (is_stack b.kind)) }) same live heap
none_born-killed zero (b ∷ bs) (suc k) later found live heap = farther b bs k later (none_born-killed zero bs k later found live heap)
none_born-killed (suc n) (b ∷ bs) zero later found live heap = as_it_was (b ∷ bs) 0 later found live heap
none_born-killed (suc n) (b ∷ bs) (suc k) later found live heap = farther b bs k later (none_born-killed n bs k later found live heap)

none_born-stack : (store : Store) (size : ℕ) → NoneBorn store (store ++ new_block Stack size ∷ [])
none_born-stack [] size zero later found live heap = let same : new_block Stack size ≡ later = cc in absurd (stack_or_heap (ap (λ (x : Block). x.kind) same ∙ heap))
  where
    stack_or_heap : Stack ≡ Heap → ⊥
    stack_or_heap e = absurd cc
none_born-stack [] size (suc k) later found live heap = absurd cc
none_born-stack (b ∷ bs) size zero later found live heap = as_it_was (b ∷ bs) 0 later found live heap
none_born-stack (b ∷ bs) size (suc k) later found live heap = farther b bs k later (none_born-stack bs size k later found live heap)

-- a new block stands at a place
settled-born : (store : Store) (place n : ℕ) (byte : Byte) → heap_room standard_sizes store n ≡ At place → AreSettled store → AreSettled (store ++ heap_block place (replicate n byte) ∷ [])
settled-born store place n byte e s = record {
  inside = λ m b found live heap. inside m b (nat_eq m (length store + 1)) refl found live heap;
  apart = λ m l b c d found live heap found' live' heap'. apart m l b c d (nat_eq m (length store + 1)) refl (nat_eq l (length store + 1)) refl found live heap found' live' heap';
}
  where
    block : Block
    block = heap_block place (replicate n byte)

    after : Store
    after = store ++ block ∷ []

    is_place : IsPlace (heap_bytes / 16) store block.size block.place
    is_place = subst (λ x. IsPlace (heap_bytes / 16) store x place) (sym (length-replicate n byte)) (heap_places_fit standard_sizes store n place e)

    youngest : (m : ℕ) (b : Block) → nat_eq m (length store + 1) ≡ true → block_at after m ≡ Some b → block ≡ b
    youngest m b f found = let one : Some block ≡ Some b = sym (block_at-youngest store block) ∙ ap (block_at after) (sym (same_number m (length store + 1) f)) ∙ found in cc

    older : (m : ℕ) (b : Block) → nat_eq m (length store + 1) ≡ false → block_at after m ≡ Some b → block_at store m ≡ Some b
    older m b f found = sym (block_at-others store block m (other_number m (length store + 1) f)) ∙ found

    inside : (m : ℕ) (b : Block) (t : Bool) → nat_eq m (length store + 1) ≡ t → block_at after m ≡ Some b → b.live ≡ true → b.kind ≡ Heap → b.place + units b.size ≤ heap_bytes / 16
    inside m b true f found live heap = subst (λ (x : Block). x.place + units x.size ≤ heap_bytes / 16) (youngest m b f found) is_place.inside
    inside m b false f found live heap = s.inside m b (older m b f found) live heap

    apart : (m l : ℕ) (b c : Block) → m ≢ l → (t : Bool) → nat_eq m (length store + 1) ≡ t → (u : Bool) → nat_eq l (length store + 1) ≡ u → block_at after m ≡ Some b → b.live ≡ true → b.kind ≡ Heap
        → block_at after l ≡ Some c → c.live ≡ true → c.kind ≡ Heap → AreApart b.place (units b.size) c.place (units c.size)
    apart m l b c d true f true g found live heap found' live' heap' = absurd (d (same_number m (length store + 1) f ∙ sym (same_number l (length store + 1) g)))
    apart m l b c d true f false g found live heap found' live' heap' =
        subst (λ (x : Block). AreApart x.place (units x.size) c.place (units c.size)) (youngest m b f found) (is_place.apart l c (older l c g found') live' heap')
    apart m l b c d false f true g found live heap found' live' heap' =
        subst (λ (x : Block). AreApart b.place (units b.size) x.place (units x.size)) (youngest l c g found') (turned _ _ _ _ (is_place.apart m b (older m b f found) live heap))
    apart m l b c d false f false g found live heap found' live' heap' = s.apart m l b c d (older m b f found) live heap (older l c g found') live' heap'

pub settled_last : Lasts (λ s t. AreSettled s.store → AreSettled t.store)
settled_last = record {
  same = λ s h. h;
  onward = λ s t u a b h. b (a h);
  saved = λ s p n bytes store l e. settled-saved s.store store p n bytes e;
  copied = λ s p q cs store e. settled-copied s.store store p q cs e;
  born = λ s x size. kept s.store _ (none_born-stack s.store size);
  allocated = λ s place n b e. settled-born s.store place n b e;
  released = λ s p store e. settled-freed s.store store p e;
  fewer = λ s n l h. h;
  printed = λ s byte h. h;
  took = λ s input h. h;
  inside = λ s scope marks calls h. h;
  back = λ old s g h. kept s.store _ (none_born-killed (length old.store) s.store) (g h);
}

pub statements_keep_places : (p : TranslationUnit) (a : Statement) (n : ℕ) (s : State) → AreSettled s.store → AreSettled (store_after (exec p n a s))
statements_keep_places p a n s = at (exec p n a s) ((along_exec _ settled_last (tables_of p) (call_of p n) (along_call_of _ settled_last p n) a n).at s)
  where
    at : (r : Outcome (Unit {0})) → (AreSettled s.store → AreSettled (state_after r).store) → AreSettled s.store → AreSettled (store_after r)
    at (Normal u t) h = h
    at (Stop e t) h = h
