-- What the translation of expressions with effects anywhere does, over the blocks of the source's store, where the functions that are called do what
-- the source's calls do.
use Rattle.std.specs.Prelude.{◌≡◌, ℕ, ◌≤◌, true, false, if◌then◌else◌, List, ◌++◌, length, Some}
use Rattle.c_syntax.specs.Expressions.{Expression, type_of}
use Rattle.c_syntax.specs.Layouts.{Scalar, scalar_of}
use Rattle.c_model.specs.ExpressionTyping.{Sight, has_object}
use Rattle.c_model.specs.Meaning.{condition_of, eval_with, place_with, tables_of}
use Rattle.c_model.specs.Memory.{Pointer, Points, Value, shifted}
use Rattle.c_model.specs.LetterValues.{LettersFit}
use Rattle.c_model.specs.State.{State}
use Rattle.c_model.specs.TypedTrees.{WellTyped}
use Rattle.c_syntax.specs.Programs.{StructType}
use Rattle.mon_syntax.specs.Trees.{MonExpression}
use Rattle.c_simulation.specs.SameRegisters.{Same}
use Rattle.mon_syntax.specs.declared.tree.MonType.{MonType}
use Rattle.mon_syntax.specs.Registers.{Bindings}
use Rattle.c_effects.specs.Full.{act, act_takes, condition_result, inner_offset, is_inner, location, origin, prepare, result, takes}
use Rattle.c_simulation.specs.Standing.{Target, Setting, Here, Has, IsSmall, runs, Standing, Beside}
use Rattle.c_simulation.specs.Reaching.{Reaches, Anything, Valued, Placed, Tested}
use Rattle.c_simulation.specs.Calls.{Scene}
use Rattle.c_effects.specs.Letters.{ActHasLetters, ValueHasLetters}

-- a typed expression where the call stands, with few enough steps left, and registers of these types and of those that the expression takes
pub record IsSet (w : Setting) (n : ℕ) (h : Here) (sight : Sight) (low : ℕ) (bound : Bindings) (rs more : List MonType) (e : Expression) (now : State)
    (target : Target) (regs : List Value) : Type 0 where
  pub scene : Scene w n sight
  pub typed : WellTyped sight e
  pub taken : low ≤ length rs
  pub few : now.steps ≤ n
  pub standing : Standing w h low bound regs now
  pub beside : Beside w now.store now target
  pub enough : length (rs ++ more) ≤ w.registers

-- from the object in which an expression's object is a member, or from that object itself
abbrev pub inner_from : List StructType → Expression → Pointer → Pointer
inner_from structs a b = if is_inner a then shifted b (inner_offset structs a) else b

-- an object, of which the target has the pointer to that in which it is a member, or to itself; this stays while registers below `high` do
abbrev pub Based : Setting → Expression → ℕ → MonExpression → Pointer → List Value → State → Target → Type 0
Based w a high e p after s t =
    (to : Pointer) × (p ≡ inner_from w.unit.structs a to) × ((later : List Value) → Same high after later → Has w e later t.mem (Points to))
    × (is_inner a ≡ false → IsSmall p)

-- after the statements before it, it has the source's value, which stays while registers below those that it took do
abbrev pub EffectValuesReach : Type 0
EffectValuesReach =
    (w : Setting) (n : ℕ) (h : Here) (sight : Sight) (low : ℕ) (bound : Bindings) (rs : List MonType) (e : Expression) (k : Scalar) (now : State)
    (target : Target) (regs : List Value) → scalar_of (type_of e) ≡ Some k → ValueHasLetters e
    → IsSet w n h sight low bound rs (takes w.unit e) e now target regs
    → Reaches w (Valued w k (length (rs ++ takes w.unit e)) (result w.unit bound rs e)) (length rs) regs now (eval_with (tables_of w.unit) e w.call now)
    (runs w n target (prepare w.unit bound rs e) regs)

-- as a condition it is 0 where the source's is
abbrev pub EffectConditionsReach : Type 0
EffectConditionsReach =
    (w : Setting) (n : ℕ) (h : Here) (sight : Sight) (low : ℕ) (bound : Bindings) (rs : List MonType) (e : Expression) (k : Scalar) (now : State)
    (target : Target) (regs : List Value) → scalar_of (type_of e) ≡ Some k → ValueHasLetters e
    → IsSet w n h sight low bound rs (takes w.unit e) e now target regs
    → Reaches w (Tested w (length (rs ++ takes w.unit e)) (condition_result w.unit bound rs e)) (length rs) regs now
    (condition_of (tables_of w.unit) e w.call now) (runs w n target (prepare w.unit bound rs e) regs)

-- the pointer to the object that it designates is the source's
abbrev pub EffectPlacesReach : Type 0
EffectPlacesReach =
    (w : Setting) (n : ℕ) (h : Here) (sight : Sight) (low : ℕ) (bound : Bindings) (rs : List MonType) (e : Expression) (now : State)
    (target : Target) (regs : List Value) → has_object e ≡ true → ValueHasLetters e → IsSet w n h sight low bound rs (takes w.unit e) e now target regs
    → Reaches w (Placed w (is_inner e) (length (rs ++ takes w.unit e)) (location w.unit bound rs e)) (length rs) regs now
    (place_with (tables_of w.unit) e w.call now) (runs w n target (prepare w.unit bound rs e) regs)

-- and so is that to the object in which it is a member, or to that object itself: nothing is asked of where the member stands in it
abbrev pub EffectOriginsReach : Type 0
EffectOriginsReach =
    (w : Setting) (n : ℕ) (h : Here) (sight : Sight) (low : ℕ) (bound : Bindings) (rs : List MonType) (e : Expression) (now : State)
    (target : Target) (regs : List Value) → has_object e ≡ true → ValueHasLetters e → IsSet w n h sight low bound rs (takes w.unit e) e now target regs
    → Reaches w (Based w e (length (rs ++ takes w.unit e)) (origin w.unit bound rs e)) (length rs) regs now
    (place_with (tables_of w.unit) e w.call now) (runs w n target (prepare w.unit bound rs e) regs)

-- for its effects alone, whatever its type
abbrev pub EffectsReach : Type 0
EffectsReach =
    (w : Setting) (n : ℕ) (h : Here) (sight : Sight) (low : ℕ) (bound : Bindings) (rs : List MonType) (e : Expression) (now : State)
    (target : Target) (regs : List Value) → ActHasLetters e → IsSet w n h sight low bound rs (act_takes w.unit e) e now target regs
    → Reaches w Anything (length rs) regs now (eval_with (tables_of w.unit) e w.call now) (runs w n target (act w.unit bound rs e) regs)

-- ---- letters

-- where the letters of an expression are values of `char`, as in the program of an accepted text, those of what is evaluated of it are so
abbrev pub LettersOfValues : Type 0
LettersOfValues = (e : Expression) → LettersFit e → ValueHasLetters e

abbrev pub LettersOfActs : Type 0
LettersOfActs = (e : Expression) → LettersFit e → ActHasLetters e
