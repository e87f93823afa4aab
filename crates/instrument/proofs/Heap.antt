-- Births and deaths on the heap leave the variables that live as they are, and a bounded store stays bounded.
use Rattle.std.proofs.Common.{◌≡◌, ℕ, zero, suc, ◌+◌, ◌≤◌, ◌^◌, Bool, true, false, ◌&&◌, List, [], ◌∷◌, ◌++◌, length, length-set, Some, refl, sym, subst, arith}
use Rattle.c_syntax.specs.declared.types.BlockKind.{BlockKind}
use Rattle.c_syntax.specs.declared.types.BlockKind.TheVariants.{Global, Literal, Stack, Heap}
use Rattle.c_model.specs.Memory.{Pointer, Null, Into, Byte, Block, Store, is_stack, is_heap, freed, units, At, heap_room, heap_block, standard_sizes}
use Rattle.c_model.specs.Together.{AreTogether}
use Rattle.mon_syntax.specs.LiveBlocks.{live_in}
use Rattle.mon_syntax.proofs.FlatBlocks.{live-beside, live-set}
use Rattle.c_model.proofs.Blocks.{freed_parts}
use Rattle.c_model.proofs.HeapPlaces.{heap_places_fit}
use Rattle.c_simulation.specs.Standing.{AreBytes, Bounded}
use Rattle.c_simulation.proofs.Bounds.{bounded_as, bounded_at, bounded_set, bounded_append, Saved}

-- ---- births

pub live_with_heap : (store : Store) (place : ℕ) (bytes : List Byte) → live_in (store ++ heap_block place bytes ∷ []) ≡ live_in store
live_with_heap store place bytes = live-beside store (heap_block place bytes) refl

pub bounded_with_heap : (store : Store) (place : ℕ) (bytes : List Byte) → Bounded store → length bytes ≤ 2 ^ 32 → AreBytes bytes → AreTogether bytes → Bounded (store ++ heap_block place bytes ∷ [])
bounded_with_heap store place bytes h le a t = bounded_append store (heap_block place bytes) h (record { small = le; long = refl; bytes = a; together = t })

-- a heap block ends in its segment
pub room_small : (store : Store) (size place : ℕ) → heap_room standard_sizes store size ≡ At place → size ≤ 2 ^ 32
room_small store size place e = let ends : place + units size ≤ 1048576 = (heap_places_fit standard_sizes store size place e).inside in omega (arith, ends)

-- ---- deaths

no_variable : (live : Bool) (kind : BlockKind) → is_heap kind ≡ true → (live && is_stack kind) ≡ false
no_variable false kind e = refl
no_variable true Global e = refl
no_variable true Literal e = refl
no_variable true Heap e = refl
no_variable true Stack e = absurd cc

pub freed_saved : (store saved : Store) (p : Pointer) → Bounded store → freed store p ≡ Some saved → Saved store saved
freed_saved store saved Null h e = let same : store ≡ saved = cc in subst (Saved store) same (record { bounded = h; live = refl; long = refl })
freed_saved store saved (Into zero i) h e = absurd cc
freed_saved store saved (Into (suc j) (suc i)) h e = absurd cc
freed_saved store saved (Into (suc j) zero) h e =
    let f = freed_parts store saved j e in
    let dead : Block = record f.b { live = false } in
    let old = bounded_at store j f.b h f.found in
    subst (Saved store) (sym f.is) (record {
      bounded = bounded_set store j dead h (bounded_as f.b dead refl refl old);
      live = live-set store j f.b dead f.found (no_variable f.b.live f.b.kind f.heap) refl;
      long = length-set store j _;
    })
