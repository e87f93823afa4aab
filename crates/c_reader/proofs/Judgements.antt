-- Asserts stand in typed trees where they stood; what the functions of the program of an accepted text give are values of their types, and each judgement of
-- each run is sound, and in sight.
use Rattle.std.proofs.Common.{◌≡◌, ℕ, List, Some, sym, ◌∙◌, subst}
use Rattle.std.specs.Prelude.{codes}
use Rattle.c_syntax.specs.Ctypes.{int_type}
use Rattle.c_syntax.specs.Programs.{Function, TranslationUnit}
use Rattle.c_model.specs.AcceptedPrograms.{IsProgram}
use Rattle.c_model.specs.Formed.{AreReadAsserts, AreReadLoopClauses}
use Rattle.c_model.specs.Meaning.{function_named}
use Rattle.c_model.specs.Phases.{AcceptedText}
use Rattle.c_model.specs.ReadTree.{FunctionsRead}
use Rattle.c_model.specs.SoundJudgements.{HasResults}
use Rattle.c_model.specs.TypedTrees.{IsInteger}
use Rattle.c_model.proofs.JudgedPrograms.{judged_states_are_sound, results_are_fit}
use Rattle.c_model.proofs.KeptForms.{forms_kept}
use Rattle.c_model.proofs.NeverStuck.{main_is}
use Rattle.c_model.proofs.SoundJudgements.{judgements_are_sound}
use Rattle.c_model.proofs.SoundPrograms.{programs_are_direct}
use Rattle.c_model.proofs.TypedNumbers.{typed_in_order}
use Rattle.interval_infer.proofs.InSight.{judged_in_sight}
use Rattle.c_reader.specs.Programs.{TypedTreesKeepAsserts, LettersAreCharacters, ResultsFit, RunsJudgeSoundly, JudgementsAreSound}
use Rattle.c_reader.specs.Programs.{JudgementsAreInSight}
use Rattle.c_reader.proofs.AcceptedTexts.{accepted_program}

pub typed_trees_keep_asserts : TypedTreesKeepAsserts
typed_trees_keep_asserts tree typed t is = subst (FunctionsRead AreReadAsserts AreReadLoopClauses) (sym (typed_in_order tree typed t.order is).functions) (forms_kept tree typed t is)

pub letters_are_characters : LettersAreCharacters
letters_are_characters text p a = (accepted_program text p a).characters

pub results_fit : ResultsFit
results_fit text p a i f e = results_are_fit p (accepted_program text p a) i f e

pub runs_judge_soundly : RunsJudgeSoundly
runs_judge_soundly text p a input n = judged_states_are_sound p (accepted_program text p a) input n

-- `main` gives an `int` (C99 5.1.2.2.1 p1)
main_integer : (p : TranslationUnit) → IsProgram p → (f : Function) → function_named p (codes "main") p.funcs ≡ Some f → IsInteger f.result
main_integer p q f e =
    let m = main_is p p.funcs q.main in
    let same : m.function ≡ f = by (sym m.found ∙ e) in
    record { int = _; is = subst (λ (g : Function). g.result ≡ int_type) same m.result }
  where
    by : {a b : Function} → Some a ≡ Some b → a ≡ b
    by e = cc

has_results : (text : List ℕ) (p : TranslationUnit) → AcceptedText text p → HasResults p
has_results text p a = record {
  gives = λ i f c e is. results_fit text p a i f e;
  main = λ f c e is. main_integer p (accepted_program text p a) f e;
}

pub judgements_sound : JudgementsAreSound
judgements_sound text p a n s sound = judgements_are_sound p (programs_are_direct p (accepted_program text p a)) (has_results text p a) n s sound

pub judgements_in_sight : JudgementsAreInSight
judgements_in_sight text p a input n = judged_in_sight p (accepted_program text p a) input n
