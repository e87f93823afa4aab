-- Ours: what the code of a predicate asks for (`Does`) holds where monitored C stands beside a state of the source, as it does all along a translation.
use Rattle.std.specs.Prelude.{◌≡◌, ◌⊎◌, ◌∷◌, ℕ, false, nat_eq, List, [], Option, Some}
use Rattle.c_syntax.specs.declared.expression.Use.{Use}
use Rattle.c_syntax.specs.declared.place.Place.{Place}
use Rattle.c_syntax.specs.Ctypes.{PlainType}
use Rattle.c_syntax.specs.Logic.{LogicTerm, Predicate, Not, Connected, Branch, Quantified, Binder, Guards, NoGuard, Guarded, Holds}
use Rattle.c_syntax.specs.Programs.{TranslationUnit}
use Rattle.c_model.specs.AnnotationSights.{AnnotationSight, ClauseSight, AtEnd, under_label}
use Rattle.c_model.specs.ContractChecks.{result_is, result_number}
use Rattle.c_model.specs.ExpressionTyping.{Sight, is_void}
use Rattle.c_model.specs.JudgedStates.{Judgement, names_with}
use Rattle.c_model.specs.Logic.{Environment}
use Rattle.c_model.specs.Memory.{Value}
use Rattle.c_model.specs.PredicateTyping.{sort_of_type}
use Rattle.c_model.specs.SoundJudgements.{IsSoundJudgement}
use Rattle.c_model.specs.State.{Scope, State}
use Rattle.c_model.specs.TermRanges.{Seen}
use Rattle.c_model.specs.TypedPredicates.{IsBound, IsIntegerTerm, IsPointerTerm, IsResult, PredicateTyped, TermTyped}
use Rattle.mon_syntax.specs.Registers.{Bindings}
use Rattle.interval_infer.specs.InSight.{AreFound, IsInSight}
use Rattle.interval_infer.specs.Judged.{seen_in, seen_with}
use Rattle.interval_infer.specs.Terms.{IsReturned}
use Rattle.c_simulation.specs.Standing as call
use Rattle.c_simulation.specs.Standing.{AreBounded, Beside, Bounded, Here, Standing}
use Rattle.c_simulation.specs.Keeping.{Kept, is_pointer_sort}
use Rattle.annot_simulation.specs.Does.{IsHeld, Planned, PredicateFound, RangesHold, Setting, SideFound, Stands, Target, TermFound}
use Rattle.annot_simulation.specs.Held.{Held, Sorted, held_by, sort_held}
use Rattle.annot_simulation.specs.Plan.{Entry, IsIn, in_predicate, in_term}

-- where code judges in a call: in this state of the source and of monitored C, with what names of annotations stand for, where they are held and the ranges
-- that they keep
abbrev pub judging : call.Setting → ℕ → ℕ → Bindings → Environment → List Held → Seen → State → Target → List Value → Setting
judging w turns low bound names held seen now target regs = record {
  unit = w.unit;
  bound = bound;
  plan = w.plan;
  low = low;
  globals = w.globals;
  calls = w.calls;
  turns = turns;
  now = now;
  names = names;
  held = held;
  seen = seen;
  target = target;
  regs = regs;
}

-- registers hold what the names stand for
abbrev pub AreHeld : Setting → Type 0
AreHeld w = (x : ℕ) (h : Held) → held_by x w.held ≡ Some h → IsHeld w x h

-- monitored C stands there as the code asks
abbrev pub StandingStands : Type 0
StandingStands =
    (w : call.Setting) (h : Here) (turns low : ℕ) (bound : Bindings) (names : Environment) (held : List Held) (seen : Seen) (now : State) (target : Target)
    (regs : List Value) → Standing w h low bound regs now → Beside w now.store now target → AreHeld (judging w turns low bound names held seen now target regs)
    → Stands (judging w turns low bound names held seen now target regs)

-- ---- values

-- terms have values of their ranges where the stores are bounded, without names of annotations
abbrev pub BoundedStatesKeepRanges : Type 0
BoundedStatesKeepRanges = (s : State) → Bounded s.store → AreBounded s.marks → RangesHold [] s []

-- and with `\result`, which is a value of its type
abbrev pub ResultsKeepRanges : Type 0
ResultsKeepRanges = (s : State) (t : PlainType) (v : Value) → Bounded s.store → AreBounded s.marks → IsReturned t v
    → RangesHold (seen_in t) s (result_is v)

-- so it is in a call
abbrev pub StandingKeepsRanges : Type 0
StandingKeepsRanges = (w : call.Setting) (h : Here) (low : ℕ) (bound : Bindings) (now : State) (regs : List Value) → Standing w h low bound regs now
    → RangesHold [] now []

-- and wherever an annotation is judged soundly, with `\result` where there is one: in each run of a program of an accepted text
abbrev pub SoundJudgementsKeepRanges : Type 0
SoundJudgementsKeepRanges = (p : TranslationUnit) (j : Judgement) → IsSoundJudgement p j
    → RangesHold (seen_with j.result) j.state (names_with j.result)

-- ---- what is in sight

-- `\result` is held by its sort, where a clause may name it
abbrev pub ResultSorted : ClauseSight → Sorted → Type 0
ResultSorted (AtEnd formals t) ns = is_void t ≡ false → sort_held result_number ns ≡ Some (is_pointer_sort (sort_of_type t))
ResultSorted _ ns = Unit {0}

-- a clause that names no `\result`
abbrev pub NoNames : ClauseSight → Type 0
NoNames c = (t : Option PlainType) (x : Use) → IsResult c t x → ⊥

-- no binder has the number of `\result`
abbrev pub AreApart : List Binder → Type 0
AreApart [] = Unit {0}
AreApart (b ∷ bs) = (nat_eq b.place.offset result_number ≡ false) × AreApart bs

abbrev pub GuardsApart : Guards → Type 0
GuardsApart NoGuard = Unit {0}
GuardsApart (Guarded a y ys below b rest) = AreApart (y ∷ ys) × GuardsApart rest

-- nor has one of a predicate, whose terms have no quantifiers in them
abbrev pub BindersApart : Predicate → Type 0
BindersApart (Not at a) = BindersApart a
BindersApart (Connected at c a b) = BindersApart a × BindersApart b
BindersApart (Branch at c a b) = BindersApart c × BindersApart a × BindersApart b
BindersApart (Quantified at q gs a) = GuardsApart gs × BindersApart a
BindersApart _ = Unit {0}

-- each of these terms at labels is in the plan
abbrev pub ArePlanned : List Kept → List Entry → Type 0
ArePlanned ks xs = (x : Entry) → IsIn x xs → Planned ks x.0 x.1

-- binders in sight are held as numbers
abbrev pub BindersSorted : List (Place × ℕ) → Sorted → Type 0
BindersSorted bs ns = (x : ℕ) → IsBound bs x → sort_held x ns ≡ Some false

-- a predicate that is typed where each object in sight has a block reads variables that have one and names that are held, its terms at labels are kept, and
-- its terms are of the sorts that the code wants
abbrev pub TypedPredicatesAreFound : Type 0
TypedPredicatesAreFound = (s : AnnotationSight) (scope : Scope) (ks : List Kept) (ns : Sorted) → AreFound s.here.entities scope → ResultSorted s.clause ns
    → BindersSorted s.binders ns → (p : Predicate) → NoNames s.clause ⊎ BindersApart p → ArePlanned ks (in_predicate p) → PredicateTyped s p
    → PredicateFound ks scope ns p

-- a typed term too, which has no quantifier in it
abbrev pub TypedTermsAreFound : Type 0
TypedTermsAreFound = (s : AnnotationSight) (scope : Scope) (ks : List Kept) (ns : Sorted) → AreFound s.here.entities scope → ResultSorted s.clause ns
    → BindersSorted s.binders ns → (t : LogicTerm) → ArePlanned ks (in_term t) → IsIntegerTerm t → TermTyped s t → TermFound ks scope ns t

-- and a term that is typed under a label has its sort, and reads variables that have a block where each object in sight at the label has one
abbrev pub TermsUnderLabelsAreFound : Type 0
TermsUnderLabelsAreFound = (s : AnnotationSight) (v : Sight) (scope : Scope) → AreFound v.entities scope → (a : LogicTerm) → TermTyped (under_label s v) a
    → IsIntegerTerm a ⊎ IsPointerTerm a → SideFound [] scope [] a

-- so does the predicate of each annotation that is judged where this is so: in each run of a program of an accepted text
abbrev pub JudgedPredicatesAreFound : Type 0
JudgedPredicatesAreFound = (j : Judgement) (p : Predicate) (ks : List Kept) (ns : Sorted) → (h : IsInSight j) → ResultSorted h.sight.clause ns
    → BindersSorted h.sight.binders ns → NoNames h.sight.clause ⊎ BindersApart p → ArePlanned ks (in_predicate p) → j.annotation.body ≡ Holds p
    → PredicateFound ks j.state.scope ns p
