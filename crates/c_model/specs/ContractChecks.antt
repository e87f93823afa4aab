-- What the contract of a function asks at the beginning and at the end of a call (ACSL 2.3.2, 2.3.3), in its order.
use Rattle.std.specs.Prelude.{ℕ, zero, suc, Bool, true, false, cond, not, nat_eq, List, [], ◌∷◌, ◌++◌, map, Option, Some, None}
use Rattle.std.specs.List.{list_any}
use Rattle.c_syntax.specs.declared.place.Place.{Place}
use Rattle.c_syntax.specs.declared.types.How.TheVariants as how
use Rattle.c_syntax.specs.declared.annotation.Kind.{Kind}
use Rattle.c_syntax.specs.declared.annotation.Kind.TheVariants.{Requires, Assumes, Ensures, Complete, Disjoint}
use Rattle.c_syntax.specs.Logic as logic
use Rattle.c_syntax.specs.Logic.{ClauseBody, Raw, Holds, Behaviors, Annotation}
use Rattle.c_syntax.specs.Programs.{NamedBehavior, FunctionContract}
use Rattle.c_model.specs.Memory.{Value}
use Rattle.c_model.specs.State.{Broken, Spent, Over, Normal, Stop, Evaluation, ◌>>=◌, ◌>>◌, give, done}
use Rattle.c_model.specs.Logic.{Environment, of_value, Answer, Says, SaysNothing, OutOfSteps, judged}
use Rattle.c_model.specs.Predicates.{clause, check_in}

-- ---- the order

-- an annotation that is checked, and the index of the behavior that it is of
pub record Check : Type 0 where
  pub annotation : Annotation
  pub behavior : Option ℕ

abbrev pub is_requires : Kind → Bool
is_requires Requires = true
is_requires _ = false

abbrev pub is_assumes : Kind → Bool
is_assumes Assumes = true
is_assumes _ = false

abbrev pub is_ensures : Kind → Bool
is_ensures Ensures = true
is_ensures _ = false

abbrev pub is_complete : Kind → Bool
is_complete Complete = true
is_complete _ = false

abbrev pub is_disjoint : Kind → Bool
is_disjoint Disjoint = true
is_disjoint _ = false

-- the annotations of a kind among these, in their order
abbrev pub of_kind : (Kind → Bool) → Option ℕ → List Annotation → List Check
of_kind is b [] = []
of_kind is b (a ∷ rest) = cond (is a.kind) (record { annotation = a; behavior = b } ∷ of_kind is b rest) (of_kind is b rest)

-- those of behaviors, which have the indices from k on
abbrev pub of_behaviors : (Kind → Bool) → ℕ → List NamedBehavior → List Check
of_behaviors is k [] = []
of_behaviors is k (b ∷ bs) = of_kind is (Some k) b.clauses ++ of_behaviors is (suc k) bs

-- at the beginning of a call: the contract's own `requires`, all `assumes`, the `requires` of behaviors, `complete` and then `disjoint`
abbrev pub entry_checks : FunctionContract → List Check
entry_checks c =
    of_kind is_requires None c.clauses
    ++ (of_behaviors is_assumes 0 c.behaviors
    ++ (of_behaviors is_requires 0 c.behaviors ++ (of_kind is_complete None c.covers ++ of_kind is_disjoint None c.covers)))

-- at its end: the contract's own `ensures`, and those of behaviors
abbrev pub leave_checks : FunctionContract → List Check
leave_checks c = of_kind is_ensures None c.clauses ++ of_behaviors is_ensures 0 c.behaviors

-- ---- which behaviors hold

-- none was denied yet
abbrev pub all_hold : List NamedBehavior → List Bool
all_hold bs = map (λ (b : NamedBehavior). true) bs

abbrev pub holds_at : ℕ → List Bool → Bool
holds_at k [] = false
holds_at zero (h ∷ hs) = h
holds_at (suc k) (h ∷ hs) = holds_at k hs

-- one of them doesn't hold
abbrev pub without : ℕ → List Bool → List Bool
without k [] = []
without zero (h ∷ hs) = false ∷ hs
without (suc k) (h ∷ hs) = h ∷ without k hs

-- whether the first behavior of a name holds
abbrev pub holds_named : ℕ → List NamedBehavior → List Bool → Bool
holds_named x [] hs = false
holds_named x (b ∷ bs) [] = false
holds_named x (b ∷ bs) (h ∷ hs) = cond (nat_eq x b.name) h (holds_named x bs hs)

-- of the behaviors that a clause names; no names are all behaviors
abbrev pub named_holds : List (Place × ℕ) → List NamedBehavior → List Bool → List Bool
named_holds [] bs hs = hs
named_holds (x ∷ xs) bs hs = map (λ (n : Place × ℕ). holds_named n.1 bs hs) (x ∷ xs)

abbrev pub at_most_one : List Bool → Bool
at_most_one [] = true
at_most_one (h ∷ hs) = cond h (not (list_any (λ (b : Bool). b) hs)) (at_most_one hs)

-- `complete`: at least one holds; `disjoint`: no two do (ACSL 2.3.3)
abbrev pub covered : Kind → List Bool → Bool
covered Disjoint hs = at_most_one hs
covered _ hs = list_any (λ (b : Bool). b) hs

-- ---- a check

-- an `assumes` is no demand: one that is false ends its behavior for this call, and one that says nothing is broken
abbrev pub assumed : Annotation → ℕ → List Bool → Answer → Evaluation (List Bool)
assumed a k hs (Says true n) s = Normal hs (record s { steps = n })
assumed a k hs (Says false n) s = Normal (without k hs) (record s { steps = n })
assumed a k hs (SaysNothing n) s = Stop (Over (Broken a.number a.place.line a.kind how.Undefined)) (record s { steps = n })
assumed a k hs OutOfSteps s = Stop (Over Spent) (record s { steps = 0 })

abbrev pub assumption : Annotation → ℕ → List Bool → Evaluation (List Bool)
assumption a k hs = λ s. assumed a k hs (clause a.body s [] s.steps) s

-- a clause that names behaviors is judged by which of them hold
abbrev pub demand : List NamedBehavior → Environment → Annotation → ClauseBody → List Bool → Evaluation (Unit {0})
demand bs e a (Raw f) hs = check_in e a
demand bs e a (Holds p) hs = check_in e a
demand bs e a (logic.Value t) hs = check_in e a
demand bs e a (Behaviors names) hs = λ s. judged a (Says (covered a.kind (named_holds names bs hs)) s.steps) s

-- one of a behavior that holds so far
abbrev pub of_behavior : List NamedBehavior → Environment → Annotation → ℕ → List Bool → Bool → Evaluation (List Bool)
of_behavior bs e a k hs true = assumption a k hs
of_behavior bs e a k hs false = demand bs e a a.body hs >> give hs

-- one of a behavior is made only where its behavior holds so far, which makes the `assumes` of one behavior a lazy conjunction
abbrev pub checked : List NamedBehavior → Environment → Annotation → Option ℕ → List Bool → Evaluation (List Bool)
checked bs e a None hs = demand bs e a a.body hs >> give hs
checked bs e a (Some k) hs = cond (holds_at k hs) (of_behavior bs e a k hs (is_assumes a.kind)) (give hs)

-- checks in their order, from the behaviors that hold so far to those that hold then
abbrev pub all_checked : List NamedBehavior → Environment → List Check → List Bool → Evaluation (List Bool)
all_checked bs e [] hs = give hs
all_checked bs e (c ∷ cs) hs = checked bs e c.annotation c.behavior hs >>= all_checked bs e cs

-- ---- a call

-- the number of `\result`, which is no declaration's
abbrev pub result_number : ℕ
result_number = 4294967294

-- `\result` is the value that the call gives
abbrev pub result_is : Value → Environment
result_is v = (result_number, λ s. of_value (Some v)) ∷ []

-- which behaviors hold in this call; a function without a contract has none
abbrev pub entry : Option FunctionContract → Evaluation (List Bool)
entry None = give []
entry (Some c) = all_checked c.behaviors [] (entry_checks c) (all_hold c.behaviors)

-- the demands on what a call gives, where these behaviors hold
abbrev pub ending : Option FunctionContract → List Bool → Value → Evaluation (Unit {0})
ending None hs v = done
ending (Some c) hs v = all_checked c.behaviors (result_is v) (leave_checks c) hs >> done
