-- What is known of contracts, and what they ask at a call, doesn't look at the ranges of their clauses: it is the same without them.
use Rattle.std.proofs.Common.{◌≡◌, ℕ, suc, Bool, true, false, cond, nat_eq, List, [], ◌∷◌, ◌++◌, map, Option, Some, None, option_map, pos, refl, sym, ap, ◌∙◌, subst}
use mathlib.Core.Path.{fun_ext}
use Rattle.std.specs.List.{AllByRecursion}
use Rattle.c_syntax.specs.declared.place.Place.{Place}
use Rattle.c_syntax.specs.declared.annotation.Kind.{Kind}
use Rattle.c_syntax.specs.declared.annotation.Kind.TheVariants as kind
use Rattle.c_syntax.specs.Logic as logic
use Rattle.c_syntax.specs.Logic.{ClauseBody, Raw, Holds, Behaviors, Annotation}
use Rattle.c_syntax.specs.Programs.{NamedBehavior, FunctionContract, Function, TranslationUnit}
use Rattle.c_model.specs.Memory.{Value, Integer, NoValue}
use Rattle.c_model.specs.State.{State, Outcome, Normal, Stop, Leaves, Breaks, Continues, Returns, Over, Stuck, Evaluation, ◌>>=◌, ◌>>◌, stop, give, done}
use Rattle.c_model.specs.Logic.{Environment, Answer, Says, SaysNothing, OutOfSteps, judged}
use Rattle.c_model.specs.Predicates.{clause}
use Rattle.c_model.specs.ContractChecks.{Check, is_requires, is_assumes, is_ensures, is_complete, is_disjoint, of_kind, of_behaviors, entry_checks, leave_checks}
use Rattle.c_model.specs.ContractChecks.{all_hold, holds_at, holds_named, named_holds, covered, assumed, assumption, demand, of_behavior, checked, all_checked, result_is, entry, ending}
use Rattle.c_model.specs.Meaning.{after_main}
use Rattle.c_model.specs.Formed.{IsShortClause}
use Rattle.c_model.specs.FormedContracts.{NamesBehaviors, IsClauseOf, AreClausesOf, BehaviorsFormed, ContractFormed, MaybeFormed, ContractsFormed}
use Rattle.c_model.specs.Unranged.{unranged_clause, unranged_annotations}
use Rattle.c_model.specs.ExpressionTyping.{Object, Sight}
use Rattle.c_model.specs.AnnotationSights.{AnnotationSight}
use Rattle.c_model.specs.AnnotationTyping.{numbers_of_parameters}
use Rattle.c_model.specs.ContractTyping.{sight_of_clause, names_of_behaviors, named_behaviors}
use Rattle.c_model.specs.TypedAnnotations.{IsSaidBy, ClausesTyped, BehaviorsTyped, AreAmong, CoversTyped, ContractTyped, IsOwn, OfFunction, OfFile, ContractStands, ContractNoted, ContractsNoted}
use Rattle.c_model.specs.UnrangedPrograms.{unranged_behavior, unranged_contract, unranged_function, unranged_unit}
use Rattle.c_model.proofs.UnrangedTerms.{Alike, itself, beside, clause_short, clause_typed, same_judged, same_clause, same_check}

abbrev without_ranges : Annotation → Annotation
without_ranges a = record a { body = unranged_clause a.body }

abbrev unranged_check : Check → Check
unranged_check c = record { annotation = without_ranges c.annotation; behavior = c.behavior }

-- ---- the checks in their order

both_mapped : (xs ys : List Check) → map unranged_check xs ++ map unranged_check ys ≡ map unranged_check (xs ++ ys)
both_mapped [] ys = refl
both_mapped (x ∷ xs) ys = ap (λ l. unranged_check x ∷ l) (both_mapped xs ys)

same_of_kind : (is : Kind → Bool) (b : Option ℕ) (xs : List Annotation) → of_kind is b (unranged_annotations xs) ≡ map unranged_check (of_kind is b xs)
same_of_kind is b [] = refl
same_of_kind is b (a ∷ rest) = by (is a.kind) (same_of_kind is b rest)
  where
    by : (t : Bool) → of_kind is b (unranged_annotations rest) ≡ map unranged_check (of_kind is b rest)
        → cond t (record { annotation = without_ranges a; behavior = b } ∷ of_kind is b (unranged_annotations rest)) (of_kind is b (unranged_annotations rest))
        ≡ map unranged_check (cond t (record { annotation = a; behavior = b } ∷ of_kind is b rest) (of_kind is b rest))
    by true e = ap (λ l. record { annotation = without_ranges a; behavior = b } ∷ l) e
    by false e = e

same_of_behaviors : (is : Kind → Bool) (k : ℕ) (bs : List NamedBehavior) → of_behaviors is k (map unranged_behavior bs) ≡ map unranged_check (of_behaviors is k bs)
same_of_behaviors is k [] = refl
same_of_behaviors is k (b ∷ bs) = (λ i. same_of_kind is (Some k) b.clauses i ++ same_of_behaviors is (suc k) bs i) ∙ both_mapped (of_kind is (Some k) b.clauses) (of_behaviors is (suc k) bs)

five_mapped : (a b c d e : List Check) → map unranged_check a ++ (map unranged_check b ++ (map unranged_check c ++ (map unranged_check d ++ map unranged_check e))) ≡ map unranged_check (a ++ (b ++ (c ++ (d ++ e))))
five_mapped a b c d e =
    ap (λ l. map unranged_check a ++ (map unranged_check b ++ (map unranged_check c ++ l))) (both_mapped d e)
    ∙ ap (λ l. map unranged_check a ++ (map unranged_check b ++ l)) (both_mapped c (d ++ e))
    ∙ ap (λ l. map unranged_check a ++ l) (both_mapped b (c ++ (d ++ e)))
    ∙ both_mapped a (b ++ (c ++ (d ++ e)))

same_entry_checks : (c : FunctionContract) → entry_checks (unranged_contract c) ≡ map unranged_check (entry_checks c)
same_entry_checks c =
    (λ i. same_of_kind is_requires None c.clauses i ++ (same_of_behaviors is_assumes 0 c.behaviors i
    ++ (same_of_behaviors is_requires 0 c.behaviors i ++ (same_of_kind is_complete None c.covers i ++ same_of_kind is_disjoint None c.covers i))))
    ∙ five_mapped (of_kind is_requires None c.clauses) (of_behaviors is_assumes 0 c.behaviors) (of_behaviors is_requires 0 c.behaviors) (of_kind is_complete None c.covers) (of_kind is_disjoint None c.covers)

same_leave_checks : (c : FunctionContract) → leave_checks (unranged_contract c) ≡ map unranged_check (leave_checks c)
same_leave_checks c =
    (λ i. same_of_kind is_ensures None c.clauses i ++ same_of_behaviors is_ensures 0 c.behaviors i) ∙ both_mapped (of_kind is_ensures None c.clauses) (of_behaviors is_ensures 0 c.behaviors)

-- ---- behaviors

same_all_hold : (bs : List NamedBehavior) → all_hold (map unranged_behavior bs) ≡ all_hold bs
same_all_hold [] = refl
same_all_hold (b ∷ bs) = ap (λ l. true ∷ l) (same_all_hold bs)

same_named : (x : ℕ) (bs : List NamedBehavior) (hs : List Bool) → holds_named x (map unranged_behavior bs) hs ≡ holds_named x bs hs
same_named x [] hs = refl
same_named x (b ∷ bs) [] = refl
same_named x (b ∷ bs) (h ∷ hs) = ap (cond (nat_eq x b.name) h) (same_named x bs hs)

same_named_holds : (names : List (Place × ℕ)) (bs : List NamedBehavior) (hs : List Bool) → named_holds names (map unranged_behavior bs) hs ≡ named_holds names bs hs
same_named_holds [] bs hs = refl
same_named_holds (x ∷ xs) bs hs = λ i. map (λ (n : Place × ℕ). same_named n.1 bs hs i) (x ∷ xs)

-- ---- checks

module _ (bs : List NamedBehavior) (e : Environment) where
  same_demand : (a : Annotation) (b : ClauseBody) (hs : List Bool) → demand (map unranged_behavior bs) e (without_ranges a) (unranged_clause b) hs ≡ demand bs e a b hs
  same_demand a (Raw f) hs = fun_ext (same_check e a)
  same_demand a (Holds p) hs = fun_ext (same_check e a)
  same_demand a (logic.Value t) hs = fun_ext (same_check e a)
  same_demand a (Behaviors names) hs = fun_ext (λ s.
      same_judged a (unranged_clause a.body) (Says (covered a.kind (named_holds names (map unranged_behavior bs) hs)) s.steps) s ∙ ap (λ l. judged a (Says (covered a.kind l) s.steps) s) (same_named_holds names bs hs))

  same_assumed : (a : Annotation) (b : ClauseBody) (k : ℕ) (hs : List Bool) (x : Answer) (s : State) → assumed (record a { body = b }) k hs x s ≡ assumed a k hs x s
  same_assumed a b k hs (Says true n) s = refl
  same_assumed a b k hs (Says false n) s = refl
  same_assumed a b k hs (SaysNothing n) s = refl
  same_assumed a b k hs OutOfSteps s = refl

  same_assumption : (a : Annotation) (k : ℕ) (hs : List Bool) → assumption (without_ranges a) k hs ≡ assumption a k hs
  same_assumption a k hs = fun_ext (λ s.
      same_assumed a (unranged_clause a.body) k hs (clause (unranged_clause a.body) s [] s.steps) s ∙ ap (λ x. assumed a k hs x s) (same_clause a.body s [] s.steps))

  same_of_behavior : (a : Annotation) (k : ℕ) (hs : List Bool) (t : Bool) → of_behavior (map unranged_behavior bs) e (without_ranges a) k hs t ≡ of_behavior bs e a k hs t
  same_of_behavior a k hs true = same_assumption a k hs
  same_of_behavior a k hs false = λ i. same_demand a a.body hs i >> give hs

  same_checked : (a : Annotation) (k : Option ℕ) (hs : List Bool) → checked (map unranged_behavior bs) e (without_ranges a) k hs ≡ checked bs e a k hs
  same_checked a None hs = λ i. same_demand a a.body hs i >> give hs
  same_checked a (Some k) hs = ap (λ m. cond (holds_at k hs) m (give hs)) (same_of_behavior a k hs (is_assumes a.kind))

  same_all_checked : (cs : List Check) (hs : List Bool) → all_checked (map unranged_behavior bs) e (map unranged_check cs) hs ≡ all_checked bs e cs hs
  same_all_checked [] hs = refl
  same_all_checked (c ∷ cs) hs = λ i. same_checked c.annotation c.behavior hs i >>= fun_ext (same_all_checked cs) i

-- ---- calls

pub same_entry : (c : Option FunctionContract) → entry (option_map unranged_contract c) ≡ entry c
same_entry None = refl
same_entry (Some c) =
    (λ i. all_checked (map unranged_behavior c.behaviors) [] (same_entry_checks c i) (same_all_hold c.behaviors i)) ∙ same_all_checked c.behaviors [] (entry_checks c) (all_hold c.behaviors)

pub same_ending : (c : Option FunctionContract) (hs : List Bool) (v : Value) → ending (option_map unranged_contract c) hs v ≡ ending c hs v
same_ending None hs v = refl
same_ending (Some c) hs v =
    ap (λ m. m >> done) (ap (λ l. all_checked (map unranged_behavior c.behaviors) (result_is v) l hs) (same_leave_checks c) ∙ same_all_checked c.behaviors (result_is v) (leave_checks c) hs)

pub same_after_main : (c : Option FunctionContract) (hs : List Bool) (o : Outcome (Unit {0})) → after_main (option_map unranged_contract c) hs o ≡ after_main c hs o
same_after_main c hs (Normal u s) = ap (λ m. m s) (same_ending c hs (Integer (pos 0)))
same_after_main c hs (Stop (Leaves Breaks) s) = refl
same_after_main c hs (Stop (Leaves Continues) s) = refl
same_after_main c hs (Stop (Leaves (Returns None)) s) = ap (λ (m : Evaluation (Unit {0})). (m >> stop (Leaves (Returns None))) s) (same_ending c hs NoValue)
same_after_main c hs (Stop (Leaves (Returns (Some v))) s) = ap (λ (m : Evaluation (Unit {0})). (m >> stop (Leaves (Returns (Some v)))) s) (same_ending c hs v)
same_after_main c hs (Stop (Over x) s) = refl
same_after_main c hs (Stop Stuck s) = refl

-- ---- forms

clause_of_kind : (IsKind : Kind → Type 0) (a : Annotation) → Alike (IsClauseOf IsKind IsShortClause (without_ranges a)) (IsClauseOf IsKind IsShortClause a)
clause_of_kind IsKind a = record {
  to = λ h. record { kind = h.kind; body = (clause_short a.body).to h.body };
  from = λ h. record { kind = h.kind; body = (clause_short a.body).from h.body };
}

clauses_of_kind : (IsKind : Kind → Type 0) (xs : List Annotation) → Alike (AreClausesOf IsKind IsShortClause (unranged_annotations xs)) (AreClausesOf IsKind IsShortClause xs)
clauses_of_kind IsKind [] = itself
clauses_of_kind IsKind (a ∷ rest) = beside (clause_of_kind IsKind a) (clauses_of_kind IsKind rest)

names_alike : (b : ClauseBody) → Alike (NamesBehaviors (unranged_clause b)) (NamesBehaviors b)
names_alike (Raw f) = itself
names_alike (Holds p) = itself
names_alike (logic.Value t) = itself
names_alike (Behaviors names) = itself

cover_of_kind : (IsKind : Kind → Type 0) (a : Annotation) → Alike (IsClauseOf IsKind NamesBehaviors (without_ranges a)) (IsClauseOf IsKind NamesBehaviors a)
cover_of_kind IsKind a = record {
  to = λ h. record { kind = h.kind; body = (names_alike a.body).to h.body };
  from = λ h. record { kind = h.kind; body = (names_alike a.body).from h.body };
}

covers_of_kind : (IsKind : Kind → Type 0) (xs : List Annotation) → Alike (AreClausesOf IsKind NamesBehaviors (unranged_annotations xs)) (AreClausesOf IsKind NamesBehaviors xs)
covers_of_kind IsKind [] = itself
covers_of_kind IsKind (a ∷ rest) = beside (cover_of_kind IsKind a) (covers_of_kind IsKind rest)

behaviors_formed : (bs : List NamedBehavior) → Alike (BehaviorsFormed IsShortClause (map unranged_behavior bs)) (BehaviorsFormed IsShortClause bs)
behaviors_formed [] = itself
behaviors_formed (b ∷ bs) = beside (clauses_of_kind _ b.clauses) (behaviors_formed bs)

contract_formed : (c : FunctionContract) → Alike (ContractFormed IsShortClause (unranged_contract c)) (ContractFormed IsShortClause c)
contract_formed c = record {
  to = λ h. record { clauses = (clauses_of_kind _ c.clauses).to h.clauses; behaviors = (behaviors_formed c.behaviors).to h.behaviors; covers = (covers_of_kind _ c.covers).to h.covers };
  from = λ h. record { clauses = (clauses_of_kind _ c.clauses).from h.clauses; behaviors = (behaviors_formed c.behaviors).from h.behaviors; covers = (covers_of_kind _ c.covers).from h.covers };
}

maybe_formed : (c : Option FunctionContract) → Alike (MaybeFormed IsShortClause (option_map unranged_contract c)) (MaybeFormed IsShortClause c)
maybe_formed None = itself
maybe_formed (Some c) = contract_formed c

pub contracts_formed : (fs : List Function) → Alike (ContractsFormed IsShortClause (map unranged_function fs)) (ContractsFormed IsShortClause fs)
contracts_formed [] = itself
contracts_formed (f ∷ fs) = beside (maybe_formed f.contract) (contracts_formed fs)

-- ---- typing

said_kept : (k : Kind) (b : ClauseBody) → IsSaidBy k (unranged_clause b) ≡ IsSaidBy k b
said_kept kind.Assert (Raw f) = refl
said_kept kind.Assert (Holds p) = refl
said_kept kind.Assert (logic.Value t) = refl
said_kept kind.Assert (Behaviors names) = refl
said_kept kind.Requires (Raw f) = refl
said_kept kind.Requires (Holds p) = refl
said_kept kind.Requires (logic.Value t) = refl
said_kept kind.Requires (Behaviors names) = refl
said_kept kind.Assumes (Raw f) = refl
said_kept kind.Assumes (Holds p) = refl
said_kept kind.Assumes (logic.Value t) = refl
said_kept kind.Assumes (Behaviors names) = refl
said_kept kind.Ensures (Raw f) = refl
said_kept kind.Ensures (Holds p) = refl
said_kept kind.Ensures (logic.Value t) = refl
said_kept kind.Ensures (Behaviors names) = refl
said_kept kind.Complete (Raw f) = refl
said_kept kind.Complete (Holds p) = refl
said_kept kind.Complete (logic.Value t) = refl
said_kept kind.Complete (Behaviors names) = refl
said_kept kind.Disjoint (Raw f) = refl
said_kept kind.Disjoint (Holds p) = refl
said_kept kind.Disjoint (logic.Value t) = refl
said_kept kind.Disjoint (Behaviors names) = refl
said_kept kind.Invariant (Raw f) = refl
said_kept kind.Invariant (Holds p) = refl
said_kept kind.Invariant (logic.Value t) = refl
said_kept kind.Invariant (Behaviors names) = refl
said_kept kind.Variant (Raw f) = refl
said_kept kind.Variant (Holds p) = refl
said_kept kind.Variant (logic.Value t) = refl
said_kept kind.Variant (Behaviors names) = refl
said_kept kind.Rte (Raw f) = refl
said_kept kind.Rte (Holds p) = refl
said_kept kind.Rte (logic.Value t) = refl
said_kept kind.Rte (Behaviors names) = refl

clauses_typed : (seen : Kind → AnnotationSight) (xs : List Annotation) → ClausesTyped seen (unranged_annotations xs) ≡ ClausesTyped seen xs
clauses_typed seen [] = refl
clauses_typed seen (a ∷ rest) = λ i. clause_typed (seen a.kind) a.body i × said_kept a.kind a.body i × clauses_typed seen rest i

behaviors_typed : (seen : Kind → AnnotationSight) (bs : List NamedBehavior) → BehaviorsTyped seen (map unranged_behavior bs) ≡ BehaviorsTyped seen bs
behaviors_typed seen [] = refl
behaviors_typed seen (b ∷ bs) = λ i. clauses_typed seen b.clauses i × behaviors_typed seen bs i

same_names : (bs : List NamedBehavior) → names_of_behaviors (map unranged_behavior bs) ≡ names_of_behaviors bs
same_names [] = refl
same_names (b ∷ bs) = ap (λ ns. b.name ∷ ns) (same_names bs)

same_named_behaviors : (b : ClauseBody) → named_behaviors (unranged_clause b) ≡ named_behaviors b
same_named_behaviors (Raw f) = refl
same_named_behaviors (Holds p) = refl
same_named_behaviors (logic.Value t) = refl
same_named_behaviors (Behaviors names) = refl

covers_typed : (names : List ℕ) (xs : List Annotation) → CoversTyped names (unranged_annotations xs) ≡ CoversTyped names xs
covers_typed names [] = refl
covers_typed names (a ∷ rest) = λ i. AreAmong names (same_named_behaviors a.body i) × covers_typed names rest i

contract_typed : (seen : Kind → AnnotationSight) (c : FunctionContract) → Alike (ContractTyped seen (unranged_contract c)) (ContractTyped seen c)
contract_typed seen c = record {
  to = λ h. record {
    clauses = subst (λ T. T) (clauses_typed seen c.clauses) h.clauses;
    behaviors = subst (λ T. T) (behaviors_typed seen c.behaviors) h.behaviors;
    covers = subst (λ T. T) covers h.covers;
  };
  from = λ h. record {
    clauses = subst (λ T. T) (sym (clauses_typed seen c.clauses)) h.clauses;
    behaviors = subst (λ T. T) (sym (behaviors_typed seen c.behaviors)) h.behaviors;
    covers = subst (λ T. T) (sym covers) h.covers;
  };
}
  where
    covers : CoversTyped (names_of_behaviors (map unranged_behavior c.behaviors)) (unranged_annotations c.covers) ≡ CoversTyped (names_of_behaviors c.behaviors) c.covers
    covers = ap (λ ns. CoversTyped ns (unranged_annotations c.covers)) (same_names c.behaviors) ∙ covers_typed (names_of_behaviors c.behaviors) c.covers

own_alike : (p : TranslationUnit) (f : Function) (b : Object) → Alike (IsOwn (unranged_unit p) (unranged_function f) b) (IsOwn p f b)
own_alike p f b = record { to = to; from = from }
  where
    to : IsOwn (unranged_unit p) (unranged_function f) b → IsOwn p f b
    to (OfFunction n d e i t) = OfFunction n d e i t
    to (OfFile n d e i t) = OfFile n d e i t

    from : IsOwn p f b → IsOwn (unranged_unit p) (unranged_function f) b
    from (OfFunction n d e i t) = OfFunction n d e i t
    from (OfFile n d e i t) = OfFile n d e i t

contract_stands : (p : TranslationUnit) (f : Function) (c : FunctionContract) → Alike (ContractStands (unranged_unit p) (unranged_function f) (unranged_contract c)) (ContractStands p f c)
contract_stands p f c = record {
  to = λ h. record { seen = h.seen; owned = λ x b e. (own_alike p f b).to (h.owned x b e); typed = (contract_typed (clause_sight h.seen) c).to h.typed };
  from = λ h. record { seen = h.seen; owned = λ x b e. (own_alike p f b).from (h.owned x b e); typed = (contract_typed (clause_sight h.seen) c).from h.typed };
}
  where
    clause_sight : Sight → Kind → AnnotationSight
    clause_sight s = sight_of_clause s (numbers_of_parameters f.params) f.result

contract_noted : (p : TranslationUnit) (f : Function) → Alike (ContractNoted (unranged_unit p) (unranged_function f)) (ContractNoted p f)
contract_noted p f = record { to = λ h c e. (contract_stands p f c).to (h (unranged_contract c) (ap (option_map unranged_contract) e)); from = λ h c e. from h c f.contract refl e }
  where
    from : ContractNoted p f → (c : FunctionContract) (o : Option FunctionContract) → f.contract ≡ o → option_map unranged_contract o ≡ Some c → ContractStands (unranged_unit p) (unranged_function f) c
    from h c None k e = absurd cc
    from h c (Some d) k e = let same : unranged_contract d ≡ c = cc in subst (ContractStands (unranged_unit p) (unranged_function f)) same ((contract_stands p f d).from (h d k))

each_noted : (p : TranslationUnit) (fs : List Function) → Alike (AllByRecursion (ContractNoted (unranged_unit p)) (map unranged_function fs)) (AllByRecursion (ContractNoted p) fs)
each_noted p [] = itself
each_noted p (f ∷ fs) = beside (contract_noted p f) (each_noted p fs)

pub all_contracts_noted : (p : TranslationUnit) → Alike (ContractsNoted (unranged_unit p)) (ContractsNoted p)
all_contracts_noted p = each_noted p p.funcs
