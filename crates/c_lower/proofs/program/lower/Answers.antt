use Rattle.std.proofs.Common.{◌≡◌, ◌≤◌, List, map, Option, refl, sym, ap, ◌∙◌, subst}
use Rattle.std.specs.Prelude.{codes}
use Rattle.mon_syntax.specs.FlatMemory.{over_flat}
use Rattle.c_model.specs.Limits.{globals_bytes}
use Rattle.mon_syntax.specs.Globals.{globals_taken}
use Rattle.mon_syntax.specs.Trees.{plain_global, plain_program}
use Rattle.c_lower.specs.declared.code.Entry.{Entry}
use Rattle.c_lower.specs.declared.code.Instr.{Instr}
use Rattle.c_lower.specs.Lowered.{RunsAs}
use Rattle.c_lower.specs.Sound.{IsSound}
use Rattle.c_lower.proofs.Jumps.{is_sound}
use Rattle.c_lower.proofs.Correct.{lowered}
use Rattle.c_lower.proofs.program.lower.Goals as goal

-- what holds of a program's parts holds of what is equal to them
by_parts : (P : List Entry → Option Entry → List Instr → Type 0) (es es' : List Entry) (main main' : Option Entry) (code code' : List Instr) → es ≡ es'
    → main ≡ main' → code ≡ code' → P es' main' code' → P es main code
by_parts P es es' main main' code code' e f g h = rw (e, f, g) h

pub invariant_of-result-clause-sound : goal.invariant_of-result-clause-sound
invariant_of-result-clause-sound c =
    let parts = c.in_ok-instrs.ensures in
    let sound = is_sound (codes "main") (plain_program c.args.m.now).functions in
    ∣ by_parts (λ es main code. IsSound code es main) _ _ _ _ _ _ parts.entries parts.main parts.code sound ∣₁

pub invariant_of-result-clause-room : goal.invariant_of-result-clause-room
invariant_of-result-clause-room c =
    let same = c.in_ok-globals.ensures ∙ ap (map plain_global) c.deref.ensures.value in
    subst (λ gs. globals_taken gs ≤ globals_bytes) (sym same) c.requires.room

pub returns-clause-runs : goal.returns-clause-runs
returns-clause-runs c =
    let m = plain_program c.args.m.now in
    let parts = c.in_ok-instrs.ensures in
    by_parts (RunsAs over_flat m) _ _ _ _ _ _ parts.entries parts.main parts.code (lowered over_flat (record { numbers = λ z. refl; zero = refl }) m)
