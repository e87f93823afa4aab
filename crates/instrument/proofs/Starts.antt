-- How a run begins: both sides have the blocks of globals and literals, to which the target has pointers.
use Rattle.std.proofs.Common.{◌≡◌, ℕ, zero, suc, ◌+◌, ◌-◌, ◌<◌, List, [], ◌∷◌, ◌++◌, length, map, replicate, Option, Some, None, slice_get, refl, sym, ap, ◌∙◌, arith}
use Rattle.c_syntax.specs.declared.types.BlockKind.TheVariants as block
use Rattle.c_syntax.specs.Programs.{StringLiteral, TranslationUnit}
use Rattle.c_syntax.specs.Layouts.{size_of}
use Rattle.c_model.specs.Memory.{Null, Into, Value, Points, block_of}
use Rattle.c_model.specs.Memory.{Number as NumberByte}
use Rattle.c_model.specs.StaticObjects.{StaticObject, OfGlobal, OfLiteral, static_objects}
use Rattle.c_model.specs.Meaning.{block_of_object, global_scope, literal, tables_of}
use Rattle.mon_syntax.specs.BlockMemory.{block_of_global, pointers_from}
use Rattle.mon_syntax.specs.Trees.{MonitoredGlobal}
use Rattle.c_effects.specs.Expressions.{object_of_global, object_of_literal}
use Rattle.instrument.specs.Translation.{monitored_global, globals_with, literals_with, monitored_from, monitored_globals}
use Rattle.c_simulation.specs.Standing.{Setting, AtGlobal, Anchored}
use Rattle.instrument.proofs.Own.{AreOwn}
use Rattle.instrument.proofs.Objects.{global_found, global_inside, literal_is}
use Rattle.c_simulation.proofs.Registers.{get-below}

-- ---- blocks

module _ (p : TranslationUnit) where
  block_is : (k n : ℕ) (o : StaticObject) → block_of_global (monitored_global p k n o) ≡ block_of_object p.structs o
  block_is k n (OfGlobal d) = let same : size_of p.structs d.ctype - 0 ≡ size_of p.structs d.ctype = omega arith in ap (λ n. block_of block.Global (replicate n (NumberByte 0))) same
  block_is k n (OfLiteral x) =
      let one : (length x.bytes + 1) - length x.bytes ≡ 1 = omega arith in
      ap (λ n. block_of block.Literal (map NumberByte x.bytes ++ replicate n (NumberByte 0))) one

  blocks_are : (k n : ℕ) (os : List StaticObject) → map block_of_global (monitored_from p k n os) ≡ map (block_of_object p.structs) os
  blocks_are k n [] = refl
  blocks_are k n (o ∷ os) = λ i. block_is k n o i ∷ blocks_are (globals_with k o) (literals_with n o) os i

  pub start_blocks : map block_of_global (monitored_globals p) ≡ map (block_of_object p.structs) (static_objects p)
  start_blocks = blocks_are 0 0 (static_objects p)

-- ---- pointers

pointer_at : (k : ℕ) (gs : List MonitoredGlobal) (i : ℕ) → i < length gs → slice_get (pointers_from k gs) i ≡ Some (Points (Into (k + i) 0))
pointer_at k [] i lt = absurd (omega (arith, lt))
pointer_at k (g ∷ gs) zero lt = let same : k ≡ k + 0 = omega arith in ap (λ n. Some (Points (Into n 0))) same
pointer_at k (g ∷ gs) (suc i) lt = let same : suc k + i ≡ k + suc i = omega arith in pointer_at (suc k) gs i (omega (arith, lt)) ∙ ap (λ n. Some (Points (Into n 0))) same

all_long : (p : TranslationUnit) (k n : ℕ) (os : List StaticObject) → length (monitored_from p k n os) ≡ length os
all_long p k n [] = refl
all_long p k n (o ∷ os) = ap suc (all_long p (globals_with k o) (literals_with n o) os)

pub monitored_long : (p : TranslationUnit) → length (monitored_globals p) ≡ length (static_objects p)
monitored_long p = all_long p 0 0 (static_objects p)

abbrev pub pointers : TranslationUnit → List Value
pointers p = pointers_from 1 (monitored_globals p)

-- the pointer to a literal
pub literal_points : (p : TranslationUnit) (n : ℕ) (x : StringLiteral) → slice_get p.texts n ≡ Some x
    → slice_get (pointers_from 1 (monitored_globals p)) (object_of_literal n (static_objects p)) ≡ Some (Points (literal (tables_of p) n))
literal_points p n x e =
    let at = literal_is p n (get-below p.texts n x e) in
    pointer_at 1 (monitored_globals p) (object_of_literal n (static_objects p)) (omega (arith, monitored_long p, at.below))
    ∙ ap (λ (o : Option ℕ). Some (Points (elim o [ None ↦ Null | Some k ↦ Into k 0 ]))) (sym at.number)

-- ---- names

-- at the beginning of a run the names in sight are those of globals
pub anchored_at_start : (w : Setting) (low : ℕ) (regs : List Value) → w.globals ≡ pointers_from 1 (monitored_globals w.unit) → AreOwn w.unit.globals → Anchored w low [] regs (global_scope w.unit)
anchored_at_start w low regs pointers own x number e =
    let f = global_found w.unit x number own e in
    let inside = global_inside w.unit x f.below in
    let there = pointer_at 1 (monitored_globals w.unit) (object_of_global x (static_objects w.unit)) (omega (arith, monitored_long w.unit, inside)) in
    record { own = f.own; anchor = AtGlobal refl f.below (ap (λ l. slice_get l (object_of_global x (static_objects w.unit))) pointers ∙ there ∙ ap (λ n. Some (Points (Into n 0))) (sym f.index)) }
