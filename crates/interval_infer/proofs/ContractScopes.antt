-- What contracts ask leaves the scope as it is.
use Rattle.std.proofs.Common.{◌≡◌, ℕ, Bool, true, false, List, [], ◌∷◌, Option, Some, None, refl}
use Rattle.c_syntax.specs.declared.place.Place.{Place}
use Rattle.c_syntax.specs.Logic.{Annotation, ClauseBody, Raw, Holds, Behaviors}
use Rattle.c_syntax.specs.Logic as logic
use Rattle.c_syntax.specs.Layouts.{Scalar, scalar_of}
use Rattle.c_syntax.specs.Programs.{NamedBehavior, FunctionContract, Function}
use Rattle.c_model.specs.ContractChecks.{Check, is_assumes, all_hold, covered, holds_at, named_holds, entry_checks, assumed, assumption, demand, of_behavior, checked, all_checked, entry}
use Rattle.c_model.specs.Logic.{Environment, Answer, Says, SaysNothing, OutOfSteps}
use Rattle.c_model.specs.Meaning.{Callee, Tables, returned_by, body_with}
use Rattle.c_model.specs.Predicates.{clause}
use Rattle.c_model.specs.Memory.{NoValue, Value}
use Rattle.c_syntax.specs.declared.expression.Use.{Use}
use Rattle.c_syntax.specs.Statements.{Statement}
use Rattle.c_model.specs.State.{State, Breaks, Continues, Returns, Leaves, Over, Stuck, Undefined, Outcome, Normal, Stop, Evaluation, ◌>>◌, give, stop}
use Rattle.interval_infer.proofs.Scopes.{Stays, scope_after, judged_stays, stays_bind, stays_check, stays_cond, stays_exec, stays_give, stays_then}

assumed_stays : (a : Annotation) (k : ℕ) (hs : List Bool) (answer : Answer) (s : State) → scope_after (assumed a k hs answer s) ≡ s.scope
assumed_stays a k hs (Says true n) s = refl
assumed_stays a k hs (Says false n) s = refl
assumed_stays a k hs (SaysNothing n) s = refl
assumed_stays a k hs OutOfSteps s = refl

stays_assumption : (a : Annotation) (k : ℕ) (hs : List Bool) → Stays (assumption a k hs)
stays_assumption a k hs = record { at = λ s. assumed_stays a k hs (clause a.body s [] s.steps) s }

stays_demand : (bs : List NamedBehavior) (e : Environment) (a : Annotation) (b : ClauseBody) (hs : List Bool) → Stays (demand bs e a b hs)
stays_demand bs e a (Raw f) hs = stays_check e a
stays_demand bs e a (Holds p) hs = stays_check e a
stays_demand bs e a (logic.Value t) hs = stays_check e a
stays_demand bs e a (Behaviors names) hs = record { at = λ s. judged_stays a (Says (covered a.kind (named_holds names bs hs)) s.steps) s }

stays_demanded : (bs : List NamedBehavior) (e : Environment) (a : Annotation) (hs : List Bool) → Stays (demand bs e a a.body hs >> give hs)
stays_demanded bs e a hs = stays_then _ _ (stays_demand bs e a a.body hs) (stays_give hs)

stays_of_behavior : (bs : List NamedBehavior) (e : Environment) (a : Annotation) (k : ℕ) (hs : List Bool) (t : Bool) → Stays (of_behavior bs e a k hs t)
stays_of_behavior bs e a k hs true = stays_assumption a k hs
stays_of_behavior bs e a k hs false = stays_demanded bs e a hs

pub stays_checked : (bs : List NamedBehavior) (e : Environment) (a : Annotation) (b : Option ℕ) (hs : List Bool) → Stays (checked bs e a b hs)
stays_checked bs e a None hs = stays_demanded bs e a hs
stays_checked bs e a (Some k) hs = stays_cond (holds_at k hs) _ _ (stays_of_behavior bs e a k hs (is_assumes a.kind)) (stays_give hs)

stays_all_checked : (bs : List NamedBehavior) (e : Environment) (cs : List Check) (hs : List Bool) → Stays (all_checked bs e cs hs)
stays_all_checked bs e [] hs = stays_give hs
stays_all_checked bs e (c ∷ cs) hs = stays_bind _ _ (stays_checked bs e c.annotation c.behavior hs) (λ hs. stays_all_checked bs e cs hs)

pub stays_entry : (c : Option FunctionContract) → Stays (entry c)
stays_entry None = stays_give []
stays_entry (Some c) = stays_all_checked c.behaviors [] (entry_checks c) (all_hold c.behaviors)

-- ---- the body of a function

pub body_stays : (T : Tables) (call : Callee) → ((at : Place) (f : Use) (vs : List Value) → Stays (call at f vs)) → (b : Option Statement) (n : ℕ) (s : State) → scope_after (body_with T b call n s) ≡ s.scope
body_stays T call stays None n s = refl
body_stays T call stays (Some a) n s = (stays_exec T call stays a n).at s

pub returned_stays : (f : Function) (o : Outcome (Unit {0})) (s : State) → scope_after o ≡ s.scope → scope_after (returned_by f o) ≡ s.scope
returned_stays f (Normal u t) s e = by (scalar_of f.result)
  where
    by : (o : Option Scalar) → scope_after ((elim o as (λ p. Evaluation Value) [ None ↦ give NoValue | Some k ↦ stop (Over (Undefined f.close)) ]) t) ≡ s.scope
    by None = e
    by (Some k) = e
returned_stays f (Stop (Leaves Breaks) t) s e = e
returned_stays f (Stop (Leaves Continues) t) s e = e
returned_stays f (Stop (Leaves (Returns None)) t) s e = e
returned_stays f (Stop (Leaves (Returns (Some v))) t) s e = e
returned_stays f (Stop (Over x) t) s e = e
returned_stays f (Stop Stuck t) s e = e
