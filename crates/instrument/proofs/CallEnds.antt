-- The end of a call: what is known then of the state of its caller.
use Rattle.std.proofs.Common.{◌≡◌, ℕ, ◌+◌, ◌-◌, ◌≤◌, false, List, [], ◌++◌, length, refl, ap, ◌∙◌, subst, arith}
use Rattle.std.proofs.lemmas.List.{append-nil}
use Rattle.c_syntax.specs.Ctypes.{PlainType}
use Rattle.c_syntax.specs.Programs.{Function}
use Rattle.c_model.specs.Memory.{Value, kill_from}
use Rattle.c_model.specs.State.{State, back_from_call}
use Rattle.mon_syntax.specs.Registers.{Bindings}
use Rattle.mon_syntax.specs.Meaning.{left_frame, zero_result}
use Rattle.mon_syntax.specs.BlockMemory.{over_blocks}
use Rattle.mon_syntax.specs.LiveBlocks.{LiveBlock, live_in}
use Rattle.track_scopes.specs.Lives.{AreFrom}
use Rattle.instrument.specs.Translation.{Spot, result_of}
use Rattle.c_simulation.specs.Standing.{Target, Setting, Here, Beside}
use Rattle.c_simulation.specs.Following.{Later, Passes}
use Rattle.c_simulation.proofs.Calls.{Even}
use Rattle.instrument.proofs.Blocks.{Meets}
use Rattle.instrument.proofs.Deaths.{bounded_killed, all_before, live_killed}
use Rattle.instrument.proofs.Lives.{length-killed}

-- what a call gives where the body comes to its end
abbrev pub zero_of : Function → Value
zero_of f = zero_result over_blocks (result_of f.result)

-- outside all loops of a function, whose call began where so many blocks were born, and whose parameters have these
abbrev pub at_body : ℕ → List LiveBlock → PlainType → Here
at_body base blocks result = record {
  inner = blocks;
  between = [];
  outer = [];
  left = base;
  loop = base;
  breaks = false;
  looped = false;
  levels = 0;
  innermost = 0;
  result = result;
}

-- where a call begins, with a frame, and where its parameters live in blocks
module _ (w : Setting) (s from : State) (base : w.base ≡ length s.store) (around : w.around ≡ live_in s.store) (active : w.active ≡ s.calls + 1) (f : Function) (blocks : List LiveBlock) (low : ℕ) (regs : List Value) (t0 : Target) (spot : Spot)
    (bound : Bindings) (living : List ℕ) (m0 : Meets w (at_body w.base blocks f.result) spot low bound living regs from t0) (longer : length s.store ≤ length from.store) (spent : from.steps ≤ s.steps) (output : from.output ≡ s.output) where
  are_new : AreFrom (length s.store) blocks
  are_new = subst (λ n. AreFrom n blocks) base (subst (AreFrom w.base) (append-nil blocks) m0.standing.since_call)

  module _ (to : State) (o : List ℕ) (l : Passes from to o) where
    live_is : live_in to.store ≡ blocks ++ live_in s.store
    live_is = l.live ∙ m0.standing.live ∙ ap (λ bs. blocks ++ bs) around

    pub came_back : Later s (back_from_call s to) o
    came_back = record {
      scope = refl;
      calls = refl;
      live = live_killed (length s.store) to.store blocks (live_in s.store) live_is are_new (all_before s.store);
      longer = omega (arith, longer, l.longer, length-killed (length s.store) to.store);
      bounded = bounded_killed (length s.store) to.store l.bounded;
      spent = omega (arith, spent, l.spent);
      output = l.output ∙ ap (λ x. x ++ o) output;
      marks = refl;
    }

    pub even_there : (u : Target) → Beside w (kill_from w.base to.store) to u → Even (back_from_call s to) (left_frame over_blocks u)
    even_there u b = record {
      store_is = b.store_is ∙ ap (λ i. kill_from i to.store) base;
      frames = ap (λ k. k - 1) (b.frames ∙ active) ∙ omega arith;
      steps = b.steps;
      input = b.input;
    }
