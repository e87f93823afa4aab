-- Along a run each block keeps its number, kind, size and place, and a dead one stays dead.
use Rattle.std.proofs.Common.{◌≡◌, ℕ, zero, suc, false, not, ◌&&◌, List, [], ◌∷◌, ◌++◌, length, Some, slice_get, slice_set, refl, sym, ◌∙◌, subst}
use Rattle.c_syntax.specs.Statements.{Statement}
use Rattle.c_syntax.specs.Programs.{TranslationUnit}
use Rattle.c_model.specs.Memory.{Pointer, Null, Into, Byte, Block, Store, with_bytes, save_bytes, shifted, copy_all, is_stack, kill_from, freed}
use Rattle.c_model.specs.State.{State, Outcome, Normal, Stop}
use Rattle.c_model.specs.Meaning.{exec, call_of, tables_of}
use Rattle.c_model.specs.Laws.{store_after}
use Rattle.c_model.specs.HeapLaws.{StaysItself, BlocksStay}
use Rattle.c_model.proofs.Blocks.{saved_parts, freed_parts}
use Rattle.c_model.proofs.HeapBlocks.{get_before}
use Rattle.c_model.proofs.StructCopies.{copied_parts, first_copy}
use Rattle.c_model.proofs.Along.{Lasts, state_after, along_exec, along_call_of}

itself : (b : Block) → StaysItself b b
itself b = record { kind = refl; size = refl; place = refl; dead = λ d. d }

in_turn : (b c d : Block) → StaysItself b c → StaysItself c d → StaysItself b d
in_turn b c d f g = record { kind = g.kind ∙ f.kind; size = g.size ∙ f.size; place = g.place ∙ f.place; dead = λ e. g.dead (f.dead e) }

-- the blocks at an index
abbrev Stays : Store → Store → Type 0
Stays store after = (k : ℕ) (b : Block) → slice_get store k ≡ Some b → (later : Block) × (slice_get after k ≡ Some later) × StaysItself b later

by_number : (store after : Store) → Stays store after → BlocksStay store after
by_number store after h zero b found = absurd cc
by_number store after h (suc k) b found = h k b found

pub stay_same : (store : Store) → BlocksStay store store
stay_same store number b found = (b, found, itself b)

pub stay_onward : (a b c : Store) → BlocksStay a b → BlocksStay b c → BlocksStay a c
stay_onward a b c f g number x found =
    let y = f number x found in
    let z = g number y.0 y.1 in
    (z.0, z.1, in_turn x y.0 z.0 y.2 z.2)

stays_set : (store : Store) (k : ℕ) (b c : Block) → slice_get store k ≡ Some b → StaysItself b c → Stays store (slice_set store k c)
stays_set [] k b c e h m d found = absurd cc
stays_set (x ∷ xs) zero b c e h zero d found = let same : b ≡ d = cc in (c, refl, subst (λ y. StaysItself y c) same h)
stays_set (x ∷ xs) zero b c e h (suc m) d found = (d, found, itself d)
stays_set (x ∷ xs) (suc k) b c e h zero d found = (d, found, itself d)
stays_set (x ∷ xs) (suc k) b c e h (suc m) d found = stays_set xs k b c e h m d found

pub stay_saved : (store saved : Store) (p : Pointer) (n : ℕ) (bytes : List Byte) → save_bytes store p n bytes ≡ Some saved → BlocksStay store saved
stay_saved store saved Null n bytes e = absurd cc
stay_saved store saved (Into zero offset) n bytes e = absurd cc
stay_saved store saved (Into (suc k) offset) n bytes e =
    let s = saved_parts store saved k offset n bytes e in
    subst (BlocksStay store) (sym s.is) (by_number store _ (stays_set store k s.b (with_bytes s.b offset bytes) s.found (record { kind = refl; size = refl; place = refl; dead = λ d. d })))

pub stay_copied : (store saved : Store) (p q : Pointer) (cs : List (ℕ × ℕ)) → copy_all store p q cs ≡ Some saved → BlocksStay store saved
stay_copied store saved p q [] e = let same : store ≡ saved = cc in subst (BlocksStay store) same (stay_same store)
stay_copied store saved p q (c ∷ cs) e =
    let f = first_copy store saved p q c cs e in
    let d = copied_parts store f.next (shifted p c.0) (shifted q c.0) c.1 f.is in
    stay_onward store f.next saved (stay_saved store f.next (shifted p c.0) c.1 _ d.saved_as) (stay_copied f.next saved p q cs f.rest)

pub stay_born : (store : Store) (b : Block) → BlocksStay store (store ++ b ∷ [])
stay_born store b = by_number store _ (λ k c found. (c, get_before store b c k found, itself c))

pub stay_freed : (store after : Store) (p : Pointer) → freed store p ≡ Some after → BlocksStay store after
stay_freed store after Null e = let same : store ≡ after = cc in subst (BlocksStay store) same (stay_same store)
stay_freed store after (Into zero offset) e = absurd cc
stay_freed store after (Into (suc k) (suc offset)) e = absurd cc
stay_freed store after (Into (suc k) zero) e =
    let f = freed_parts store after k e in
    subst (BlocksStay store) (sym f.is) (by_number store _ (stays_set store k f.b (record f.b { live = false }) f.found (record { kind = refl; size = refl; place = refl; dead = λ d. refl })))

killed : (b : Block) → StaysItself b (record b { live = b.live && not (is_stack b.kind) })
killed b = record { kind = refl; size = refl; place = refl; dead = λ d. rw d refl }

stays_killed : (n : ℕ) (store : Store) → Stays store (kill_from n store)
stays_killed n [] k d found = absurd cc
stays_killed zero (b ∷ bs) zero d found = let same : b ≡ d = cc in (_, refl, subst (λ x. StaysItself x (record b { live = b.live && not (is_stack b.kind) })) same (killed b))
stays_killed zero (b ∷ bs) (suc k) d found = stays_killed zero bs k d found
stays_killed (suc n) (b ∷ bs) zero d found = (d, found, itself d)
stays_killed (suc n) (b ∷ bs) (suc k) d found = stays_killed n bs k d found

pub stay_killed : (n : ℕ) (store : Store) → BlocksStay store (kill_from n store)
stay_killed n store = by_number store _ (stays_killed n store)

pub blocks_last : Lasts (λ s t. BlocksStay s.store t.store)
blocks_last = record {
  same = λ s. stay_same s.store;
  onward = λ s t u a b. stay_onward s.store t.store u.store a b;
  saved = λ s p n bytes store l e. stay_saved s.store store p n bytes e;
  copied = λ s p q cs store e. stay_copied s.store store p q cs e;
  born = λ s x size. stay_born s.store _;
  allocated = λ s place n b e. stay_born s.store _;
  released = λ s p store e. stay_freed s.store store p e;
  fewer = λ s n l. stay_same s.store;
  printed = λ s byte. stay_same s.store;
  took = λ s input. stay_same s.store;
  inside = λ s scope marks calls. stay_same s.store;
  back = λ old s g. stay_onward old.store s.store _ g (stay_killed (length old.store) s.store);
}

pub statements_keep_blocks : (p : TranslationUnit) (a : Statement) (n : ℕ) (s : State) → BlocksStay s.store (store_after (exec p n a s))
statements_keep_blocks p a n s = at (exec p n a s) ((along_exec _ blocks_last (tables_of p) (call_of p n) (along_call_of _ blocks_last p n) a n).at s)
  where
    at : (r : Outcome (Unit {0})) → BlocksStay s.store (state_after r).store → BlocksStay s.store (store_after r)
    at (Normal u t) h = h
    at (Stop e t) h = h
