-- Expressions where statements stand, with effects and calls anywhere in them: what the laws of `c_simulation` say of them.
use Rattle.std.proofs.Common.{◌≡◌, ℕ, ◌≤◌, List, ◌++◌, length, Some}
use Rattle.c_syntax.specs.Expressions.{Expression, type_of}
use Rattle.c_syntax.specs.Layouts.{Scalar, scalar_of}
use Rattle.c_model.specs.Memory.{Value}
use Rattle.c_model.specs.State.{State}
use Rattle.c_model.specs.Meaning.{Tables, tables_of, condition_of, eval_with}
use Rattle.c_model.specs.ExpressionTyping.{Sight}
use Rattle.c_model.specs.TypedTrees.{WellTyped}
use Rattle.mon_syntax.specs.declared.tree.MonType.{MonType}
use Rattle.mon_syntax.specs.Registers.{Bindings}
use Rattle.c_effects.specs.Full.{act, act_takes, condition_result, prepare, result, takes}
use Rattle.c_effects.specs.Letters.{ActHasLetters, ValueHasLetters}
use Rattle.c_simulation.specs.Standing.{Setting, Target, Here, runs, Standing, Beside}
use Rattle.c_simulation.specs.Reaching.{Reaches, Anything, Tested, Valued}
use Rattle.c_simulation.specs.Calls.{Scene}
use Rattle.c_simulation.specs.EffectLaws.{IsSet}
use Rattle.c_simulation.proofs.EffectLaws.{conditions_reach, effects_reach, values_reach}
use Rattle.c_simulation.proofs.Reaching.{reached_lower}

module _ (w : Setting) (n : ℕ) (h : Here) (sight : Sight) (scene : Scene w n sight) (low : ℕ) (bound : Bindings) (s : State) (t : Target) (le : s.steps ≤ n) (rs : List MonType) (behind : low ≤ length rs)
    (regs : List Value) (m : Standing w h low bound regs s) (b : Beside w s.store s t) where
  abbrev T : Tables
  T = tables_of w.unit

  set_for : (more : List MonType) (e : Expression) → WellTyped sight e → length (rs ++ more) ≤ w.registers → IsSet w n h sight low bound rs more e s t regs
  set_for more e q enough = record { scene = scene; typed = q; taken = behind; few = le; standing = m; beside = b; enough = enough }

  pub value_reached : (e : Expression) (k : Scalar) → scalar_of (type_of e) ≡ Some k → WellTyped sight e → ValueHasLetters e → length (rs ++ takes w.unit e) ≤ w.registers
      → Reaches w (Valued w k (length (rs ++ takes w.unit e)) (result w.unit bound rs e)) low regs s (eval_with T e w.call s) (runs w n t (prepare w.unit bound rs e) regs)
  value_reached e k is q l enough =
      reached_lower w (Valued w k (length (rs ++ takes w.unit e)) (result w.unit bound rs e)) low (length rs) regs s (eval_with T e w.call s) (runs w n t (prepare w.unit bound rs e) regs) behind
      (values_reach w n h sight low bound rs e k s t regs is l (set_for (takes w.unit e) e q enough))

  -- as a condition
  pub condition_reached : (e : Expression) (k : Scalar) → scalar_of (type_of e) ≡ Some k → WellTyped sight e → ValueHasLetters e → length (rs ++ takes w.unit e) ≤ w.registers
      → Reaches w (Tested w (length (rs ++ takes w.unit e)) (condition_result w.unit bound rs e)) low regs s (condition_of T e w.call s) (runs w n t (prepare w.unit bound rs e) regs)
  condition_reached e k is q l enough =
      reached_lower w (Tested w (length (rs ++ takes w.unit e)) (condition_result w.unit bound rs e)) low (length rs) regs s (condition_of T e w.call s) (runs w n t (prepare w.unit bound rs e) regs) behind
      (conditions_reach w n h sight low bound rs e k s t regs is l (set_for (takes w.unit e) e q enough))

  -- for its effects alone
  pub act_reached : (e : Expression) → WellTyped sight e → ActHasLetters e → length (rs ++ act_takes w.unit e) ≤ w.registers
      → Reaches w Anything low regs s (eval_with T e w.call s) (runs w n t (act w.unit bound rs e) regs)
  act_reached e q l enough =
      reached_lower w Anything low (length rs) regs s (eval_with T e w.call s) (runs w n t (act w.unit bound rs e) regs) behind
      (effects_reach w n h sight low bound rs e s t regs l (set_for (act_takes w.unit e) e q enough))
