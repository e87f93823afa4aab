-- Where an annotation is judged each value of a term lies in its range.
use Rattle.std.proofs.Common.{List, [], ◌∷◌, Option, Some, None, refl}
use Rattle.std.specs.List.{AllByRecursion}
use Rattle.c_syntax.specs.Ctypes.{PlainType, Void, Int, Ptr, Array, Struct, Named, StructTag, EnumTag}
use Rattle.c_model.specs.ContractChecks.{result_is}
use Rattle.c_model.specs.JudgedStates.{Judgement, Result, judged, names_with}
use Rattle.c_model.specs.Memory.{Value}
use Rattle.c_model.specs.SoundJudgements.{IsValueIn, IsSoundJudgement}
use Rattle.c_model.specs.SoundStates.{IsSound}
use Rattle.c_model.specs.State.{State}
use Rattle.c_model.specs.TypedTrees.{WhereAny}
use Rattle.interval_infer.specs.Judged.{seen_in, seen_with, SoundJudgementsFit, TermsLieThere, JudgedTermsLieInRanges}
use Rattle.interval_infer.specs.Terms.{NamesFit}
use Rattle.c_model.proofs.JudgedPrograms.{judged_states_are_sound}
use Rattle.c_model.proofs.SoundLoads.{placed_are_near}
use Rattle.interval_infer.proofs.Terms.{sound_states_fit, returned_values_fit, terms_lie_in_ranges}

-- there is no name
no_names : (s : State) (e : _) → NamesFit [] s e
no_names s e = record { within = λ x r f. absurd cc; lies = λ l u x r w at f g. absurd cc }

result_fits : (t : PlainType) (v : Value) (s : State) → IsSound s.store → IsValueIn s.store t v → NamesFit (seen_in t) s (result_is v)
result_fits (Int k) v s st h = returned_values_fit (Int k) _ v s refl h
result_fits (Ptr t) v s st h = returned_values_fit (Ptr t) _ v s refl (h.0, h.1, placed_are_near s.store h.0 st h.2)
result_fits Void v s st h = no_names s (result_is v)
result_fits (Array t n) v s st h = no_names s (result_is v)
result_fits (Struct n) v s st h = no_names s (result_is v)
result_fits (Named x) v s st h = no_names s (result_is v)
result_fits (StructTag x tag) v s st h = no_names s (result_is v)
result_fits (EnumTag x at) v s st h = no_names s (result_is v)

pub sound_judgements_fit : SoundJudgementsFit
sound_judgements_fit p j h = record { state = sound_states_fit p j.state h.sound; names = by j.result h.result }
  where
    by : (o : Option Result) → WhereAny (λ (r : Result). IsValueIn j.state.store r.ctype r.value) o → NamesFit (seen_with o) j.state (names_with o)
    by None g = no_names j.state []
    by (Some r) g = result_fits r.ctype r.value j.state h.sound.now.blocks g

each : (p : _) (js : List Judgement) → AllByRecursion (IsSoundJudgement p) js → AllByRecursion TermsLieThere js
each p [] h = tt
each p (j ∷ js) h = let f = sound_judgements_fit p j h.0 in ((λ t v r e. terms_lie_in_ranges (seen_with j.result) t j.state (names_with j.result) v f.state f.names r e), each p js h.1)

pub judged_terms_lie_in_ranges : JudgedTermsLieInRanges
judged_terms_lie_in_ranges p q input n = each p (judged p input n) (judged_states_are_sound p q input n)
