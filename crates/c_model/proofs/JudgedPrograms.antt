-- Each state in which a run of a program of an accepted text judges an annotation is sound, and what functions give is of their types.
use Rattle.std.proofs.Common.{◌≡◌, suc, Some, codes, sym, ◌∙◌, subst}
use Rattle.c_syntax.specs.Ctypes.{int_type}
use Rattle.c_syntax.specs.Programs.{Function, TranslationUnit}
use Rattle.c_model.specs.AcceptedPrograms.{IsProgram}
use Rattle.c_model.specs.Meaning.{function_named, start}
use Rattle.c_model.specs.TypedTrees.{IsInteger}
use Rattle.c_model.proofs.NeverStuck.{main_is}
use Rattle.c_model.proofs.SoundPrograms.{programs_are_direct}
use Rattle.c_model.proofs.SoundStarts.{starts_are_sound}
use Rattle.c_model.specs.SoundJudgements.{JudgedStatesAreSound, HasResults, GivenResultsFit}
use Rattle.c_model.proofs.FittingResults.{results_fit}
use Rattle.c_model.proofs.SoundJudgements.{judgements_sound}

main_integer : (p : TranslationUnit) → IsProgram p → (f : Function) → function_named p (codes "main") p.funcs ≡ Some f → IsInteger f.result
main_integer p q f e =
    let m = main_is p p.funcs q.main in
    let same : m.function ≡ f = by (sym m.found ∙ e) in
    record { int = _; is = subst (λ (g : Function). g.result ≡ int_type) same m.result }
  where
    by : {a b : Function} → Some a ≡ Some b → a ≡ b
    by e = cc

has_results : (p : TranslationUnit) → IsProgram p → HasResults p
has_results p q = record { gives = λ i f c e is. results_fit p q i f e; main = λ f c e is. main_integer p q f e }

pub judged_states_are_sound : JudgedStatesAreSound
judged_states_are_sound p q input n = judgements_sound p (programs_are_direct p q) (has_results p q) (suc n) (start p input n) (starts_are_sound p q input n)

pub results_are_fit : GivenResultsFit
results_are_fit p q i f e = results_fit p q i f e
