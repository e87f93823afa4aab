-- The blocks of a bounded store are as the code of annotations asks, and as the ranges of terms ask.
use Rattle.std.proofs.Common.{◌≡◌, ℕ, zero, suc, ◌≤◌, ◌^◌, ℤ, pos, true, Option, Some, None, sym, ap, subst, arith}
use Rattle.c_syntax.specs.declared.types.CInt.{CInt}
use Rattle.c_syntax.specs.Layouts.{IntegerType, PointerType}
use Rattle.c_model.specs.Integers.{fits}
use Rattle.c_model.specs.Logic.{load_from, pointer_at}
use Rattle.c_model.specs.Memory.{Pointer, Null, Into, Value, Integer, Points, Block, Store, block_at, load}
use Rattle.c_model.specs.SoundStates.{IsNear}
use Rattle.mem_preds.specs.Reads.{IsSmall}
use Rattle.c_simulation.specs.Standing as call
use Rattle.c_simulation.specs.Standing.{IsBounded, Bounded}
use Rattle.c_simulation.proofs.Bounds.{bounded_at, loaded_is_of}
use Rattle.annot_simulation.specs.Does.{IsSound}

block_bounded : (store : Store) (n : ℕ) (b : Block) → Bounded store → block_at store n ≡ Some b → IsBounded b
block_bounded store zero b h e = absurd cc
block_bounded store (suc k) b h e = bounded_at store k b h e

near_small : (p : Pointer) → call.IsSmall p → IsSmall p
near_small Null h = tt
near_small (Into n i) h = omega (arith, h)

small_near : (p : Pointer) → call.IsSmall p → IsNear p
small_near Null h = tt
small_near (Into n i) h = h

loaded_small : (store : Store) (q p : Pointer) → Bounded store → load store q PointerType ≡ Some (Points p) → call.IsSmall p
loaded_small store q p h e =
    let i = loaded_is_of store q PointerType (Points p) h e in
    let same : i.0 ≡ p = let points = i.1 in cc in
    subst call.IsSmall same i.2

held_small : (store : Store) → Bounded store → (o : Option Pointer) (p : Pointer) → load_from store PointerType o ≡ Some (Points p) → IsSmall p
held_small store h None p e = absurd cc
held_small store h (Some q) p e = near_small p (loaded_small store q p h e)

pub bounded_sound : (store : Store) → Bounded store → IsSound store
bounded_sound store h = record {
  small = λ n b e. let s = (block_bounded store n b h e).small in omega (arith, s);
  together = λ k b e. let i = bounded_at store k b h e in (i.long, i.together);
  bounded = λ x p e. held_small store h (pointer_at x) p e;
}

abbrev number_in : Value → ℤ
number_in (Integer z) = z
number_in _ = pos 0

-- numbers that are loaded fit their types, pointers are near the starts of their blocks, and blocks are small
pub record Fits (store : Store) : Type 0 where
  pub value : (p : Pointer) (k : CInt) (z : ℤ) → load store p (IntegerType k) ≡ Some (Integer z) → fits k z ≡ true
  pub offset : (p q : Pointer) → load store p PointerType ≡ Some (Points q) → IsNear q
  pub small : (n : ℕ) (b : Block) → block_at store n ≡ Some b → b.size ≤ 2 ^ 32

pub bounded_fits : (store : Store) → Bounded store → Fits store
bounded_fits store h = record {
  value = λ p k z loads.
      let i = loaded_is_of store p (IntegerType k) (Integer z) h loads in
      subst (λ y. fits k y ≡ true) (sym (ap number_in i.1)) i.2;
  offset = λ p q e. small_near q (loaded_small store p q h e);
  small = λ n b e. (block_bounded store n b h e).small;
}
