-- Names in sight, to whose blocks registers point, or the pointers of globals.
use Rattle.std.proofs.Common.{◌≡◌, ℕ, ◌<◌, ◌≤◌, List, length, Some, ap, ◌∙◌, arith}
use Rattle.std.specs.Prelude.{slice_get}
use Rattle.c_model.specs.Memory.{Into, Value, Points}
use Rattle.c_model.specs.State.{Scope, find}
use Rattle.mon_syntax.specs.Registers.{Bindings}
use Rattle.mon_syntax.specs.Meaning.{eval}
use Rattle.mon_syntax.specs.BlockMemory.{Blocks, over_blocks}
use Rattle.c_effects.specs.Expressions.{global_index, pointer_of, pointer_to, object_of_global}
use Rattle.c_effects.specs.Effects.{block_register, block_of}
use Rattle.c_simulation.specs.SameRegisters.{Same}
use Rattle.c_simulation.specs.Standing.{Setting, Has, IsAnchored, InRegister, AtGlobal, Anchored}
use Rattle.c_model.specs.StaticObjects.{static_objects}

-- the pointer to a block
pub pointer_has : (w : Setting) (low n : ℕ) (bound : Bindings) (regs later : List Value) (mem : Blocks) (scope : Scope) (x number : ℕ) → low ≤ n → Same n regs later → Anchored w low bound regs scope → find x scope ≡ Some number
    → Has w (pointer_to w.unit bound x) later mem (Points (Into number 0))
pointer_has w low n bound regs later mem scope x number le same h e = of_anchor (h x number e).anchor
  where
    of_anchor : IsAnchored w low bound regs x number → Has w (pointer_to w.unit bound x) later mem (Points (Into number 0))
    of_anchor (InRegister r is_bound below behind points) =
        ap (λ o. eval over_blocks w.globals (pointer_of o (object_of_global x (static_objects w.unit))) later mem) is_bound
        ∙ same.below r (omega (arith, below, le))
        ∙ points
    of_anchor (AtGlobal free is_global points) = ap (λ o. eval over_blocks w.globals (pointer_of o (object_of_global x (static_objects w.unit))) later mem) free ∙ points

-- the register that points to the block of a declaration that is no global's
pub block_has : (w : Setting) (low n : ℕ) (bound : Bindings) (regs later : List Value) (scope : Scope) (x number : ℕ) → low ≤ n → Same n regs later → Anchored w low bound regs scope → find x scope ≡ Some number
    → length w.unit.globals ≤ global_index x w.unit.globals → slice_get later (block_of bound x) ≡ Some (Points (Into number 0))
block_has w low n bound regs later scope x number le same h e local = of_anchor (h x number e).anchor
  where
    of_anchor : IsAnchored w low bound regs x number → slice_get later (block_of bound x) ≡ Some (Points (Into number 0))
    of_anchor (InRegister r is_bound below behind points) =
        ap (λ o. slice_get later (block_register o)) is_bound
        ∙ same.below r (omega (arith, below, le))
        ∙ points
    of_anchor (AtGlobal free is_global points) = absurd (omega (arith, local, is_global))

pub block_below : (w : Setting) (low : ℕ) (bound : Bindings) (regs : List Value) (scope : Scope) (x number : ℕ) → Anchored w low bound regs scope → find x scope ≡ Some number → length w.unit.globals ≤ global_index x w.unit.globals
    → block_of bound x < low
block_below w low bound regs scope x number h e local = of_anchor (h x number e).anchor
  where
    of_anchor : IsAnchored w low bound regs x number → block_of bound x < low
    of_anchor (InRegister r is_bound below behind points) = let same : block_of bound x ≡ r = ap block_register is_bound in omega (arith, same, below)
    of_anchor (AtGlobal free is_global points) = absurd (omega (arith, local, is_global))
