-- Beside a state of the source the code of a predicate stands as it asks; terms have values of their ranges; and what a typed predicate reads is in sight.
use Rattle.std.proofs.Common.{◌≡◌, ℕ, ◌+◌, ◌≤◌, Bool, true, false, cond, nat_eq, List, [], ◌∷◌, Option, Some, None, refl, sym, subst, arith}
use Rattle.c_syntax.specs.declared.annotation.Range.{Range}
use Rattle.c_syntax.specs.declared.expression.Use.{Use}
use Rattle.c_syntax.specs.Ctypes.{PlainType, Int, Ptr, Array, Struct, Void, StructTag, EnumTag}
use Rattle.c_syntax.specs.Ctypes as ctype
use Rattle.c_syntax.specs.Layouts.{Scalar, scalar_of}
use Rattle.c_model.specs.ContractChecks.{result_is, result_number}
use Rattle.c_model.specs.ExpressionTyping.{Sight, Entity, AnObject, has_name, or_else, entity_named}
use Rattle.c_model.specs.JudgedStates.{Result, names_with}
use Rattle.c_model.specs.Logic.{Environment, Mathematical}
use Rattle.c_model.specs.Memory.{Value, Store}
use Rattle.c_model.specs.PredicateTyping.{place_of_term}
use Rattle.c_model.specs.State.{State, Scope, Mark, mark_of, same_label}
use Rattle.c_model.specs.TermRanges.{Seen, offset_range, place_range, type_range}
use Rattle.c_model.specs.Ranges.{IsWithin128}
use Rattle.c_model.specs.TypedTrees.{Denotes}
use Rattle.mon_syntax.specs.Registers.{Bindings}
use Rattle.interval_infer.specs.InSight.{IsFound, EntityFound, AreFound, NamesFound}
use Rattle.interval_infer.specs.Judged.{seen_as, seen_in, seen_with}
use Rattle.interval_infer.specs.Laws.{AreSeen}
use Rattle.interval_infer.specs.Terms.{EachSeen, IsReturned, NamesFit, StateFits, StoreFits}
use Rattle.interval_infer.proofs.InSight.{names_in_sight, predicate_in_sight}
use Rattle.interval_infer.proofs.Judged.{sound_judgements_fit}
use Rattle.interval_infer.proofs.Sound.{ranges_are_within_128}
use Rattle.interval_infer.proofs.Terms.{returned_values_fit, terms_lie_in_ranges}
use Rattle.c_simulation.specs.Standing as call
use Rattle.c_simulation.specs.Keeping.{Kept, GivesTerm, GiveTerms, StandBelow, kept_value, registers_of}
use Rattle.c_simulation.specs.Standing.{Anchored, AreBounded, Bounded, IsKept}
use Rattle.c_simulation.proofs.Anchors.{pointer_has}
use Rattle.annot_simulation.specs.Beside.{AreHeld, judging, StandingStands, BoundedStatesKeepRanges, ResultsKeepRanges, StandingKeepsRanges, SoundJudgementsKeepRanges, TypedPredicatesAreFound, TypedTermsAreFound, TermsUnderLabelsAreFound}
use Rattle.annot_simulation.specs.Beside.{JudgedPredicatesAreFound}
use Rattle.annot_simulation.specs.Does.{Stands, Target}
use Rattle.annot_simulation.specs.Held.{Held, kept_at}
use Rattle.annot_simulation.proofs.Found.{typed_found, typed_term_found, under_found}
use Rattle.annot_simulation.proofs.SoundStores.{bounded_fits, bounded_sound}

-- ---- registers and blocks

-- a kept term that is found stands where the plan does, and has what the marks say
pub kept_found : (at m : ℕ) (ks : List Kept) (k : Kept) (marks : List Mark) (regs : List Value) → kept_at at ks ≡ Some k → StandBelow m ks → GiveTerms ks marks regs
    → (k.register + registers_of k.term ≤ m) × GivesTerm k.term (kept_value k marks) k.register regs
kept_found at m [] k marks regs e s g = absurd cc
kept_found at m (o ∷ ks) k marks regs e s g = by (nat_eq (place_of_term o.term).offset at) e (λ f. kept_found at m ks k marks regs f s.1 g.1)
  where
    by : (t : Bool) → cond t (Some o) (kept_at at ks) ≡ Some k → (kept_at at ks ≡ Some k → (k.register + registers_of k.term ≤ m) × GivesTerm k.term (kept_value k marks) k.register regs)
        → (k.register + registers_of k.term ≤ m) × GivesTerm k.term (kept_value k marks) k.register regs
    by true e go =
        let same : o ≡ k = cc in
        subst (λ (k : Kept). (k.register + registers_of k.term ≤ m) × GivesTerm k.term (kept_value k marks) k.register regs) same (s.0, g.0)
    by false e go = go e

-- where registers or globals point to the blocks of the names in sight
pub stands_anchored : (w : call.Setting) (turns low : ℕ) (bound : Bindings) (names : Environment) (held : List Held) (seen : Seen) (now : State) (target : Target) (regs : List Value) → target.mem.store ≡ now.store → Bounded now.store
    → Anchored w low bound regs now.scope → IsKept w low now.marks regs → AreHeld (judging w turns low bound names held seen now target regs) → Stands (judging w turns low bound names held seen now target regs)
stands_anchored w turns low bound names held seen now target regs store_is bounded anchored kept are_held = record {
  store_is = store_is;
  sound = bounded_sound now.store bounded;
  points = λ x number found later same. pointer_has w low low bound regs later target.mem now.scope x number (omega arith) same anchored found;
  held = are_held;
  keeps = λ at k e.
      let f = kept_found at w.plan_to w.plan k now.marks regs e kept.planned kept.keeps.terms in
      let b = kept.below in
      record { below = omega (arith, f.0, b); gives = f.1 };
}

pub standing_stands : StandingStands
standing_stands w h turns low bound names held seen now target regs m b are_held =
    stands_anchored w turns low bound names held seen now target regs b.store_is m.bounded m.anchored m.kept are_held

-- ---- values

store_fits : (store : Store) → Bounded store → StoreFits store
store_fits store bounded = let f = bounded_fits store bounded in record { value = f.value; offset = f.offset; small = f.small }

mark_bounded : (l : Option ℕ) (ms : List Mark) (m : Mark) → AreBounded ms → mark_of l ms ≡ Some m → Bounded m.store
mark_bounded l [] m h e = absurd cc
mark_bounded l (o ∷ ms) m h e = by (same_label l o.label) e (λ f. mark_bounded l ms m h.1 f)
  where
    by : (t : Bool) → cond t (Some o) (mark_of l ms) ≡ Some m → (mark_of l ms ≡ Some m → Bounded m.store) → Bounded m.store
    by true e go = let same : o ≡ m = cc in subst (λ (m : Mark). Bounded m.store) same h.0
    by false e go = go e

pub state_fits : (s : State) → Bounded s.store → AreBounded s.marks → StateFits s
state_fits s bounded past = record { now = store_fits s.store bounded; past = λ l m e. store_fits m.store (mark_bounded l s.marks m past e) }

-- no name is in sight
pub ranges_hold : BoundedStatesKeepRanges
ranges_hold s bounded past = record {
  state = state_fits s bounded past;
  names = record { within = λ x r f. absurd cc; lies = λ l u x r w at f g. absurd cc };
}

pub standing_keeps_ranges : StandingKeepsRanges
standing_keeps_ranges w h low bound now regs m = ranges_hold now m.bounded m.kept.keeps.past

-- ---- judged states

pub sound_judgements_keep_ranges : SoundJudgementsKeepRanges
sound_judgements_keep_ranges p j sound = let fit = sound_judgements_fit p j sound in record { state = fit.state; names = fit.names }

-- a value that a function returns is of a scalar type
returned_fits : (t : PlainType) (v : Value) (s : State) → IsReturned t v → NamesFit (seen_in t) s (result_is v)
returned_fits (Int k) v s h = returned_values_fit (Int k) (type_range k) v s refl h
returned_fits (Ptr u) v s h = returned_values_fit (Ptr u) offset_range v s refl h
returned_fits (Array u n) v s h = absurd h
returned_fits (Struct n) v s h = absurd h
returned_fits Void v s h = absurd h
returned_fits (ctype.Named x) v s h = absurd h
returned_fits (StructTag x tag) v s h = absurd h
returned_fits (EnumTag x at) v s h = absurd h

pub results_keep_ranges : ResultsKeepRanges
results_keep_ranges s t v bounded past returned = record { state = state_fits s bounded past; names = returned_fits t v s returned }

-- ---- variables

pub found_named : (x : ℕ) (entities : List Entity) (b : Entity) (scope : Scope) → AreFound entities scope → entity_named x entities ≡ Some b → EntityFound scope b
found_named x [] b scope h e = absurd cc
found_named x (o ∷ entities) b scope h e = by (entity_named x entities) (λ f. found_named x entities b scope h.1 f) (has_name x o) e
  where
    by : (r : Option Entity) → (r ≡ Some b → EntityFound scope b) → (t : Bool) → or_else r (cond t (Some o) None) ≡ Some b → EntityFound scope b
    by (Some c) go t f = go f
    by None go true f = let same : o ≡ b = cc in subst (EntityFound scope) same h.0
    by None go false f = absurd cc

-- a name that is denoted
denoted_found : (s : Sight) (scope : Scope) (x : Use) (t : PlainType) → AreFound s.entities scope → Denotes s x t → IsFound scope x.decl
denoted_found s scope x t h d = subst (IsFound scope) (sym d.decl) (found_named x.name s.entities (AnObject d.object) scope h d.found)

-- each name stands for what has a block
named_found : (s : Sight) (scope : Scope) (x : Use) (t : PlainType) → NamesFound s scope → Denotes s x t → IsFound scope x.decl
named_found s scope x t h d = subst (IsFound scope) (sym d.decl) (h x.name d.object d.found)

pub typed_predicates_are_found : TypedPredicatesAreFound
typed_predicates_are_found s scope ks ns found result bound p apart planned q = typed_found s scope ks ns (λ x t d. denoted_found s.here scope x t found d) result bound p apart planned q

pub typed_terms_are_found : TypedTermsAreFound
typed_terms_are_found s scope ks ns found result bound t planned int q = typed_term_found s scope ks ns (λ x t d. denoted_found s.here scope x t found d) result bound t planned int q

pub terms_under_labels_are_found : TermsUnderLabelsAreFound
terms_under_labels_are_found s v scope found a q i = under_found s v scope (λ x t d. denoted_found v scope x t found d) a q i

pub judged_predicates_are_found : JudgedPredicatesAreFound
judged_predicates_are_found j p ks ns h result bound apart planned e =
    typed_found h.sight j.state.scope ks ns (λ x t d. named_found h.sight.here j.state.scope x t (names_in_sight j h) d) result bound p apart planned (predicate_in_sight j p h e)
