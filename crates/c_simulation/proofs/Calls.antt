-- Between calls and statements.
use Rattle.std.proofs.Common.{◌≡◌, sym, ◌∙◌}
use Rattle.c_model.specs.State.{State}
pub use Rattle.c_simulation.specs.Calls.{Even, value_of, Alike, Called, Gives, EndsRun, HasNoMeaning, AreOf, HaveAll, Begin, takes, CallDoes, DoesCall, CallsNothing, AllDo, IsCalled}
use Rattle.c_simulation.specs.Standing.{Target, Setting, Beside}

pub even : (w : Setting) (s : State) (t : Target) → s.calls ≡ w.active → Beside w s.store s t → Even s t
even w s t active b = record { store_is = b.store_is; frames = b.frames ∙ sym active; steps = b.steps; input = b.input }

pub beside_even : (w : Setting) (s : State) (t : Target) → s.calls ≡ w.active → Even s t → Beside w s.store s t
beside_even w s t active e = record { store_is = e.store_is; frames = e.frames ∙ active; steps = e.steps; input = e.input }
