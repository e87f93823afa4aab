-- A source and a folder that aren't asked.
use Rattle.std.proofs.Common.{◌≡◌, ℕ, List, Option, Some, None, refl, subst}
use Rattle.c_model.specs.declared.job.Job.{Job}
use Rattle.c_machine.specs.Inputs.{Taking, taking, Untouched}
use Rattle.eacsl_cli.specs.Complete.{LeavesSource}

pub unasked : {left : Option (List ℕ)} {faults : ℕ} → Untouched (taking left left faults faults)
unasked = record { left = refl; faults = refl }

-- no job asks more of it
pub unasked_leaves : (job : Option Job) (left : Option (List ℕ)) (faults : ℕ) → LeavesSource job (taking left left faults faults)
unasked_leaves job left faults = record { unread = λ _. unasked }

pub leaves_by : {job job' : Option Job} {source : Taking} → job ≡ job' → LeavesSource job source → LeavesSource job' source
leaves_by {source = source} e l = subst (λ j. LeavesSource j source) e l

-- words with a job aren't words without one
pub has_job : {A : Type 0} {job : Job} {o : Option Job} → Some job ≡ o → o ≡ None → A
has_job e n = absurd cc
