-- What the translation of an expression without effects does, over the blocks of the source's store.
use Rattle.std.specs.Prelude.{◌≡◌, ℕ, ◌≤◌, List, ◌++◌, length, true, Some}
use Rattle.c_syntax.specs.Expressions.{Expression, type_of}
use Rattle.c_syntax.specs.Layouts.{Scalar, scalar_of}
use Rattle.c_model.specs.ExpressionTyping.{Sight, has_object}
use Rattle.c_model.specs.Meaning.{eval_with, is_member, place_with, tables_of}
use Rattle.c_model.specs.Meaning as source
use Rattle.c_model.specs.Memory.{Value}
use Rattle.c_model.specs.Pure.{IsPure}
use Rattle.c_model.specs.State.{State}
use Rattle.c_model.specs.TypedTrees.{WellTyped}
use Rattle.mon_syntax.specs.declared.tree.MonType.{MonType}
use Rattle.mon_syntax.specs.Registers.{Bindings}
use Rattle.c_effects.specs.Letters.{HasLetters}
use Rattle.c_effects.specs.Expressions.{condition_of, place, setup, temporaries, value}
use Rattle.c_simulation.specs.Standing.{Target, Setting, runs, Bounded, Anchored, Knows, Beside}
use Rattle.c_simulation.specs.Following.{Evaluates, Places, Tests}
use Rattle.c_simulation.specs.Reaching.{Reaches, Valued, Placed, Tested}

-- a typed expression without effects, and registers of these types, of which those below `low` are bound to the names in sight
pub record IsReady (w : Setting) (sight : Sight) (bound : Bindings) (now : State) (target : Target) (low : ℕ) (e : Expression) (rs : List MonType)
    (regs : List Value) : Type 0 where
  pub knows : Knows w sight
  pub store_is : target.mem.store ≡ now.store
  pub bounded : Bounded now.store
  pub pure : IsPure e
  pub typed : WellTyped sight e
  pub letters : HasLetters e
  pub taken : low ≤ length rs
  pub anchored : Anchored w low bound regs now.scope
  pub enough : length (rs ++ temporaries e) ≤ length regs

-- it has the source's value after the statements before it, which change further registers alone, wherever that is defined
abbrev pub ValuesFollow : Type 0
ValuesFollow =
    (w : Setting) (n : ℕ) (sight : Sight) (bound : Bindings) (now : State) (target : Target) (low : ℕ) (e : Expression) (k : Scalar) (rs : List MonType)
    (regs : List Value) → scalar_of (type_of e) ≡ Some k → IsReady w sight bound now target low e rs regs
    → Evaluates w k now target (eval_with (tables_of w.unit) e w.call now) regs (length rs) (length (rs ++ temporaries e))
    (runs w n target (setup w.unit bound rs e) regs) (value w.unit bound rs e)

-- the pointer to the object that it designates is the source's
abbrev pub PlacesFollow : Type 0
PlacesFollow =
    (w : Setting) (n : ℕ) (sight : Sight) (bound : Bindings) (now : State) (target : Target) (low : ℕ) (e : Expression) (rs : List MonType)
    (regs : List Value) → has_object e ≡ true → IsReady w sight bound now target low e rs regs
    → Places w (is_member e) now target (place_with (tables_of w.unit) e w.call now) regs (length rs) (length (rs ++ temporaries e))
    (runs w n target (setup w.unit bound rs e) regs) (place w.unit bound rs e)

-- as a condition it is 0 where the source's is
abbrev pub ConditionsFollow : Type 0
ConditionsFollow =
    (w : Setting) (n : ℕ) (sight : Sight) (bound : Bindings) (now : State) (target : Target) (low : ℕ) (e : Expression) (k : Scalar) (rs : List MonType)
    (regs : List Value) → scalar_of (type_of e) ≡ Some k → IsReady w sight bound now target low e rs regs
    → Tests w now target (source.condition_of (tables_of w.unit) e w.call now) regs (length rs) (length (rs ++ temporaries e))
    (runs w n target (setup w.unit bound rs e) regs) (condition_of w.unit bound rs e)

-- ---- the same by what they reach, beside the source, where states go on

abbrev pub ValuesReach : Type 0
ValuesReach =
    (w : Setting) (n : ℕ) (sight : Sight) (bound : Bindings) (now : State) (target : Target) (low : ℕ) (e : Expression) (k : Scalar) (rs : List MonType)
    (regs : List Value) → scalar_of (type_of e) ≡ Some k → IsReady w sight bound now target low e rs regs → Beside w now.store now target
    → Reaches w (Valued w k (length (rs ++ temporaries e)) (value w.unit bound rs e)) (length rs) regs now (eval_with (tables_of w.unit) e w.call now)
    (runs w n target (setup w.unit bound rs e) regs)

abbrev pub PlacesReach : Type 0
PlacesReach =
    (w : Setting) (n : ℕ) (sight : Sight) (bound : Bindings) (now : State) (target : Target) (low : ℕ) (e : Expression) (rs : List MonType)
    (regs : List Value) → has_object e ≡ true → IsReady w sight bound now target low e rs regs → Beside w now.store now target
    → Reaches w (Placed w (is_member e) (length (rs ++ temporaries e)) (place w.unit bound rs e)) (length rs) regs now
    (place_with (tables_of w.unit) e w.call now) (runs w n target (setup w.unit bound rs e) regs)

abbrev pub ConditionsReach : Type 0
ConditionsReach =
    (w : Setting) (n : ℕ) (sight : Sight) (bound : Bindings) (now : State) (target : Target) (low : ℕ) (e : Expression) (k : Scalar) (rs : List MonType)
    (regs : List Value) → scalar_of (type_of e) ≡ Some k → IsReady w sight bound now target low e rs regs → Beside w now.store now target
    → Reaches w (Tested w (length (rs ++ temporaries e)) (condition_of w.unit bound rs e)) (length rs) regs now
    (source.condition_of (tables_of w.unit) e w.call now) (runs w n target (setup w.unit bound rs e) regs)
