-- Globals are initialised at the beginning of a run.
use Rattle.std.proofs.Common.{◌≡◌, ℕ, ◌≤◌, List, [], ◌∷◌, ◌++◌, length, None, refl, ◌∙◌, arith, append_assoc}
use Rattle.c_syntax.specs.Statements.{Declaration}
use Rattle.c_model.specs.Memory.{Value}
use Rattle.c_model.specs.State.{Input}
use Rattle.c_model.specs.Meaning.{tables_of, initialise_all, start}
use Rattle.c_model.specs.UnitTyping.{room_fault}
use Rattle.mon_syntax.specs.BlockMemory.{pointers_from}
use Rattle.mon_syntax.specs.declared.tree.MonType.{MonType}
use Rattle.mon_syntax.specs.Meaning.{Next}
use Rattle.c_model.specs.AcceptedPrograms.{AreConstant}
use Rattle.instrument.proofs.Sights.{GlobalsInPlace}
use Rattle.c_initialisers.specs.Letters.{InitialsHaveLetters}
use Rattle.instrument.specs.Translation.{monitored_globals, all_global_temporaries, initialise_globals}
use Rattle.c_simulation.specs.Standing.{Setting, Target, runs, Here, IsKept, Beside}
use Rattle.c_simulation.specs.Following.{Follows}
use Rattle.c_simulation.specs.Reaching.{Anything}
use Rattle.c_simulation.proofs.Reaching.{reached_follows}
use Rattle.instrument.proofs.Starts.{anchored_at_start}
use Rattle.instrument.proofs.FileScope.{AreTexts, knows_at, bounded_at_start}
use Rattle.instrument.proofs.InitialisedVariables.{AreGlobals, globals_reach}
use Rattle.instrument.proofs.Own.{AreOwn}

-- ---- all globals

-- what is known of the globals of a program, each of which has a number of its own
pub record HasGlobals (w : Setting) : Type 0 where
  pub places : GlobalsInPlace w.unit
  pub constant : AreConstant w.unit.globals
  pub letters : InitialsHaveLetters w.unit.globals
  pub texts : AreTexts w.unit.texts
  pub room : room_fault w.unit ≡ None
  pub own : AreOwn w.unit.globals
  pub pointers : w.globals ≡ pointers_from 1 (monitored_globals w.unit)

module _ (w : Setting) (has : HasGlobals w) where
  all_known : (front ds : List Declaration) → front ++ ds ≡ w.unit.globals → AreConstant ds → InitialsHaveLetters ds → AreGlobals w ds
  all_known front [] is pure letters = tt
  all_known front (d ∷ ds) is pure letters =
      let t = has.places front ds d is in (
        record {
          sight = t.sight;
          knows = knows_at w t.sight t.place.structs t.place.texts has.pointers has.texts;
          declared = t.declared;
          pure = pure.0;
          letters = letters.0;
        },
        all_known (front ++ d ∷ []) ds (append_assoc front (d ∷ []) ds ∙ is) pure.1 letters.1,
      )

  -- the globals of a program take their initialisers, or keep the zeros in which they are born, before anything else is done
  pub globals_at_start : (n : ℕ) (h : Here) (rs : List MonType) (regs : List Value) (input : Input) (steps : ℕ) (t : Target) → length (rs ++ all_global_temporaries w.unit w.unit.globals) ≤ w.registers → length regs ≡ w.registers
      → IsKept w (length rs) [] regs → Beside w (start w.unit input steps).store (start w.unit input steps) t
      → Follows w h (length rs) regs Next (start w.unit input steps) (initialise_all (tables_of w.unit) w.unit.globals w.call (start w.unit input steps)) (runs w n t (initialise_globals w.unit rs w.unit.globals) regs)
  globals_at_start n h rs regs input steps t room long kept beside =
      reached_follows w h Anything (length rs) regs (start w.unit input steps) _ _ kept
      (globals_reach w n (length rs) w.unit.globals (all_known [] w.unit.globals refl has.constant has.letters) rs (omega arith) room regs (start w.unit input steps) t long
      (anchored_at_start w (length rs) regs has.pointers has.own) (bounded_at_start w.unit has.room has.texts) beside)
