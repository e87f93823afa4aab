-- Wherever a run of a program of an accepted text judges an annotation, each object that is in sight there has a block.
use Rattle.std.proofs.Common.{◌≡◌, ℕ, zero, suc, Bool, true, false, cond, if◌then◌else◌, ◌&&◌, nat_eq, List, [], ◌∷◌, ◌++◌, map, Option, Some, None, slice_get, codes, refl, sym, ◌∙◌, subst, append_assoc}
use Rattle.std.specs.List.{AllByRecursion}
use Rattle.c_syntax.specs.declared.place.Place.{Place}
use Rattle.c_syntax.specs.declared.expression.Use.{Use}
use Rattle.c_syntax.specs.declared.expression.UnOp.TheVariants as unary
use Rattle.c_syntax.specs.declared.types.Segment.{Segment}
use Rattle.c_syntax.specs.Ctypes.{PlainType}
use Rattle.c_syntax.specs.Layouts.{Scalar, scalar_of, size_of}
use Rattle.c_syntax.specs.declared.annotation.Kind.{Kind}
use Rattle.c_syntax.specs.declared.annotation.Kind.TheVariants as kind
use Rattle.c_syntax.specs.Logic as logic
use Rattle.c_syntax.specs.Logic.{Annotation, ClauseBody, LogicTerm, Raw, Holds, Behaviors}
use Rattle.c_syntax.specs.Expressions.{Expression, Node, Number, Letter, Text, Variable, Unary, Binary, Both, Either, Choice, Assign, Bump, Call, Cast, SizeOfType}
use Rattle.c_syntax.specs.Expressions.{SizeOfExpr, Index, Dot, Arrow, Comma, Expressions, NoExpression, Following, type_of}
use Rattle.c_syntax.specs.Statements.{Initialiser, One, Many, Initialisers, NoInitialiser, Listed, Declaration, Statement, Empty, Eval, Block, If, While, Do}
use Rattle.c_syntax.specs.Statements.{For, Break, Continue, Return, Labelled, ElsePart, NoElse, Else, ForFirst, NoFirst, First, Declare, Specify, Run}
use Rattle.c_syntax.specs.Statements.{BlockItem, Asserts, BlockItems, NoItem, Then, Switch, Cases, NoCase, AnotherCase}
use Rattle.c_syntax.specs.Programs.{StructType, NamedBehavior, FunctionContract, Function, TranslationUnit}
use Rattle.c_model.specs.AcceptedPrograms.{IsProgram}
use Rattle.c_model.specs.AnnotationSights.{AnnotationSight}
use Rattle.c_model.specs.AnnotationTyping.{inside_block, inside_for, with_label, behind_labels, labels_behind, behind_noted, behind_case, in_body as in_body_sight, numbers_of_parameters}
use Rattle.c_model.specs.ContractChecks.{Check, is_requires, is_assumes, is_ensures, is_complete, is_disjoint, of_kind, of_behaviors, entry_checks, leave_checks, all_hold, holds_at, checked, entry}
use Rattle.c_model.specs.ContractTyping.{sight_of_clause}
use Rattle.c_model.specs.EffectPlaces.{FirstPlaced, StatementPlaced, ElsePlaced, ItemsPlaced, CasesPlaced, DeclareNothing}
use Rattle.c_model.specs.ExpressionTyping.{Object, Sight, Entity, AnObject, inner, with_objects}
use Rattle.c_model.specs.Formed.{IsAssert, AreAsserts, IsLoopClause, AreLoopClauses, IsShortClause, number_of}
use Rattle.c_model.specs.FormedContracts.{IsOwnKind, IsBehaviorKind, IsCoverKind, NamesBehaviors, AreClausesOf, BehaviorsFormed, ContractFormed, MaybeFormed, ContractsFormed}
use Rattle.c_model.specs.JudgedStates.{Judgement, Result, Judges, InCalls, none, names_with, judged_behind, judged_then, judged_check, judged_checks, judged_invariant, judged_invariants, judged_of, judged_all, judged_entry, judged_ending}
use Rattle.c_model.specs.JudgedStates.{judged_assigned}
use Rattle.c_model.specs.JudgedStates.{judged_eval, judged_place, judged_evals, judged_any, judged_one, judged_fill, judged_parts, judged_initialise, judged_initialise_all}
use Rattle.c_model.specs.JudgedStates.{judged_on, judged_round, judged_turn, judged_turns, judged_do_turns, judged_exec, judged_cases, judged_else, judged_first, judged_items, judged_body}
use Rattle.c_model.specs.JudgedStates.{judged_result, judged_call, judged_behind_main, judged_main, judged_calls, judged_whole}
use Rattle.c_model.specs.Meaning.{Tables, Callee, is_zero, is_array, is_of_library, is_definition, has_name, condition_of, condition_with, effect_with, declared_in, declared_first}
use Rattle.c_model.specs.Meaning.{chosen_case, eval_with, items_with, string_in, fill, parts_or_itself, parameters, exec_with, first_with, body_with, returned_by, definition_at, function_named, call_of, tables_of}
use Rattle.c_model.specs.Meaning.{global_scope, initialise, initialise_all}
use Rattle.c_model.specs.Memory.{Pointer, Value, full_at_stack_birth, standard_sizes, shifted}
use Rattle.c_model.specs.Predicates.{check, compared, invariant, invariants, value_of, variant, variant_in}
use Rattle.c_model.specs.ReadTree.{BodyRead, FunctionRead, FunctionsRead}
use Rattle.c_model.specs.State.{Scope, State, Breaks, Continues, Returns, Leaves, Over, Stuck, Outcome, Normal, Stop, Evaluation, on_outcome, ◌>>=◌, ◌>>◌, done, step, object, as_scalar}
use Rattle.c_model.specs.State.{write_youngest, birth_of, birth, births, alone, frame, mark}
use Rattle.c_model.specs.StatementTyping.{behind_first}
use Rattle.c_model.specs.TypedAnnotations.{StatementNoted, CasesNoted, ElseNoted, ItemsNoted, BodyNoted, ClausesTyped, BehaviorsTyped, IsOwn, OfFunction, OfFile, ContractStands, ContractNoted}
use Rattle.c_model.specs.TypedPredicates.{AnnotationsTyped, ClauseTyped}
use Rattle.c_model.specs.TypedTrees.{WhereAny}
use Rattle.c_model.specs.UnitTyping.{with_parameters}
use Rattle.interval_infer.specs.InSight.{IsFound, AreFound, NamesFound, TypedBy, FoundBy, IsInSight, JudgedInSight}
pub use Rattle.interval_infer.proofs.JudgedKinds.{names_in_sight, predicate_in_sight}
use Rattle.interval_infer.proofs.JudgedKinds.{IsClauseKind, clause_found, clause_typed, cover_typed, loop_kind, of_loop, own_kind}
use Rattle.interval_infer.proofs.ContractScopes.{stays_checked, stays_entry, body_stays, returned_stays}
use Rattle.interval_infer.proofs.Scopes.{stays_bind, stays_compared, stays_invariant, stays_invariants, stays_value}
use Rattle.interval_infer.proofs.Scopes.{scope_after, Stays, stays_then, stays_give, stays_step, stays_mark, stays_frame, stays_as_scalar, stays_write_youngest, stays_check, stays_eval, stays_tested}
use Rattle.interval_infer.proofs.Scopes.{stays_condition, stays_effect, stays_initialise_all, stays_exec, stays_item, stays_items, stays_first, stays_call}
use Rattle.interval_infer.proofs.Sights.{DeclarationsFound, FunctionSeen, found_with_all, found_parameters, declarations_found-append, entities_found_more, newest_found, function_seen, globals_in_scope}

abbrev AllInSight : List Judgement → Type 0
AllInSight js = AllByRecursion IsInSight js

both_in_sight : (js ks : List Judgement) → AllInSight js → AllInSight ks → AllInSight (js ++ ks)
both_in_sight [] ks h g = g
both_in_sight (j ∷ js) ks h g = (h.0, both_in_sight js ks h.1 g)

-- ---- what judges so in each state

record Always (j : Judges) : Type 0 where
  at : (s : State) → AllInSight (j s)

always_none : Always none
always_none = record { at = λ s. tt }

always_then : {A : Type 0} (j : Judges) (m : Evaluation A) (k : A → Judges) → Always j → ((a : A) → Always (k a)) → Always (judged_then j m k)
always_then {A = A} j m k h f = record { at = λ s. both_in_sight (j s) (judged_behind (m s) k) (h.at s) (by (m s)) }
  where
    by : (o : Outcome A) → AllInSight (judged_behind o k)
    by (Normal a t) = (f a).at t
    by (Stop e t) = tt

always_cond : (b : Bool) (j k : Judges) → Always j → Always k → Always (cond b j k)
always_cond true j k h g = h
always_cond false j k h g = g

always_assigned : (o : Option Scalar) (j k : Judges) → Always j → Always k → Always (judged_assigned o j k)
always_assigned (Some x) j k h g = h
always_assigned None j k h g = g

-- ---- what judges so wherever the scope is so

record In (S : Scope → Type 0) (j : Judges) : Type 0 where
  at : (s : State) → S s.scope → AllInSight (j s)

abbrev Sees : Sight → Scope → Type 0
Sees s scope = AreFound s.entities scope

abbrev SeesWith : Sight → List Declaration → Scope → Type 0
SeesWith s ds scope = AreFound s.entities scope × DeclarationsFound ds scope

in_always : (S : Scope → Type 0) (j : Judges) → Always j → In S j
in_always S j h = record { at = λ s q. h.at s }

in_wider : (S R : Scope → Type 0) (j : Judges) → ((scope : Scope) → S scope → R scope) → In R j → In S j
in_wider S R j f h = record { at = λ s q. h.at s (f s.scope q) }

in_then : {A : Type 0} (S : Scope → Type 0) (j : Judges) (m : Evaluation A) (k : A → Judges) → In S j → Stays m → ((a : A) → In S (k a)) → In S (judged_then j m k)
in_then {A = A} S j m k h g f = record { at = λ s q. both_in_sight (j s) (judged_behind (m s) k) (h.at s q) (by s q (m s) (g.at s)) }
  where
    by : (s : State) → S s.scope → (o : Outcome A) → scope_after o ≡ s.scope → AllInSight (judged_behind o k)
    by s q (Normal a t) e = (f a).at t (subst S (sym e) q)
    by s q (Stop x t) e = tt

in_before : {A : Type 0} (S : Scope → Type 0) (j : Judges) (m : Evaluation A) (k : A → Judges) → In S j → ((a : A) → Always (k a)) → In S (judged_then j m k)
in_before {A = A} S j m k h f = record { at = λ s q. both_in_sight (j s) (judged_behind (m s) k) (h.at s q) (by (m s)) }
  where
    by : (o : Outcome A) → AllInSight (judged_behind o k)
    by (Normal a t) = (f a).at t
    by (Stop e t) = tt

in_cond : (S : Scope → Type 0) (b : Bool) (j k : Judges) → In S j → In S k → In S (cond b j k)
in_cond S true j k h g = h
in_cond S false j k h g = g

assert_in_sight : (s : AnnotationSight) (a : Annotation) (t : State) → IsAssert a → ClauseTyped s a.body → AreFound s.here.entities t.scope → IsInSight (record { annotation = a; result = None; state = t })
assert_in_sight s a t is h q =
    record { sight = s; typed = subst (λ k. TypedBy k s a.body) (sym is.kind) h; found = subst (λ k. FoundBy k s.here t.scope) (sym is.kind) q }

in_checks : (s : AnnotationSight) (annots : List Annotation) → AreAsserts annots → AnnotationsTyped s annots → In (Sees s.here) (judged_checks annots)
in_checks s [] are h = in_always (Sees s.here) none always_none
in_checks s (a ∷ rest) are h =
    in_then (Sees s.here) (judged_check None a) (check a) (λ _. judged_checks rest) (record { at = λ t q. (assert_in_sight s a t are.0 h.0 q, tt) })
    (stays_check [] a) (λ _. in_checks s rest are.1 h.1)

-- ---- clauses of loops

in_clause : (s : AnnotationSight) (a : Annotation) → IsLoopClause a → ClauseTyped s a.body → In (Sees s.here) (judged_check None a)
in_clause s a is h = record { at = λ t q. let o = of_loop a.kind s a.body t.scope (loop_kind a.body a.kind is.kind) h q in (record { sight = s; typed = o.0; found = o.1 }, tt) }

in_invariants : (s : AnnotationSight) (annots : List Annotation) → AreLoopClauses annots → AnnotationsTyped s annots → In (Sees s.here) (judged_invariants annots)
in_invariants s [] are h = in_always (Sees s.here) none always_none
in_invariants s (a ∷ rest) are h =
    in_then (Sees s.here) (judged_invariant a a.body) (invariant a a.body) (λ _. judged_invariants rest) (by a.body) (stays_invariant a a.body) (λ _. in_invariants s rest are.1 h.1)
  where
    by : (c : ClauseBody) → In (Sees s.here) (judged_invariant a c)
    by (Raw f) = in_clause s a are.0 h.0
    by (Holds p) = in_clause s a are.0 h.0
    by (logic.Value t) = in_always (Sees s.here) none always_none
    by (Behaviors names) = in_clause s a are.0 h.0

in_variant : (s : AnnotationSight) (annots : List Annotation) (v : Annotation × LogicTerm) → variant annots ≡ Some v → AreLoopClauses annots → AnnotationsTyped s annots → In (Sees s.here) (judged_check None v.0)
in_variant s [] v e are h = absurd cc
in_variant s (a ∷ rest) v e are h = by (λ f. in_variant s rest v f are.1 h.1) a.body e
  where
    by : (variant rest ≡ Some v → In (Sees s.here) (judged_check None v.0)) → (c : ClauseBody) → variant_in a c (variant rest) ≡ Some v → In (Sees s.here) (judged_check None v.0)
    by others (Raw f) e = others e
    by others (Holds p) e = others e
    by others (logic.Value t) e = let same : (a, t) ≡ v = cc in subst (λ (v : Annotation × LogicTerm). In (Sees s.here) (judged_check None v.0)) same (in_clause s a are.0 h.0)
    by others (Behaviors names) e = others e

-- ---- loops

in_on : (S : Scope → Type 0) (s : State) (o : Outcome (Unit {0})) (again : Judges) → S s.scope → scope_after o ≡ s.scope → In S again → AllInSight (judged_on o again)
in_on S s (Normal u t) again q e k = k.at t (subst S (sym e) q)
in_on S s (Stop (Leaves Continues) t) again q e k = k.at t (subst S (sym e) q)
in_on S s (Stop (Leaves Breaks) t) again q e k = tt
in_on S s (Stop (Leaves (Returns v)) t) again q e k = tt
in_on S s (Stop (Over x) t) again q e k = tt
in_on S s (Stop Stuck t) again q e k = tt

in_round : (S : Scope → Type 0) (j : Judges) (body : Evaluation (Unit {0})) (again : Judges) → In S j → Stays body → In S again → In S (judged_round j body again)
in_round S j body again h g k = record { at = λ s q. both_in_sight (j s) (judged_on (body s) again) (h.at s q) (in_on S s (body s) again q (g.at s) k) }

-- a variant is judged before the body and behind it
in_turn : (S : Scope → Type 0) (v : Option (Annotation × LogicTerm)) (j : Judges) (body : Evaluation (Unit {0})) (i : Judges) (behind : Evaluation (Unit {0})) (again : Judges)
    → ((x : Annotation × LogicTerm) → v ≡ Some x → In S (judged_check None x.0)) → In S j → Stays body → In S i → Stays behind → In S again → In S (judged_turn j body i behind v again)
in_turn S None j body i behind again asked h g f e k = in_round S j body (judged_then i behind (λ _. again)) h g (in_then S i behind (λ _. again) f e (λ _. k))
in_turn S (Some x) j body i behind again asked h g f e k =
    in_then S (judged_check None x.0) (value_of x.0 x.1) _ (asked x refl) (stays_value x.0 x.1) (λ old.
    in_round S j body _ h g (in_then S i behind _ f e (λ _.
    in_then S (judged_check None x.0) (value_of x.0 x.1 >>= compared x.0 old) (λ _. again) (asked x refl)
    (stays_bind (value_of x.0 x.1) (compared x.0 old) (stays_value x.0 x.1) (λ new. stays_compared x.0 old new)) (λ _. k))))

in_turns : (S : Scope → Type 0) (n : ℕ) (j : Judges) (test : Evaluation Value) (turn : Judges → Judges) → In S j → Stays test → ((again : Judges) → In S again → In S (turn again))
    → In S (judged_turns n j test turn)
in_turns S zero j test turn h g k = in_always S none always_none
in_turns S (suc n) j test turn h g k =
    let rest = judged_turns n j test turn in
    let next : In S (judged_then none step (λ _. turn rest)) = in_then S none step (λ _. turn rest) (in_always S none always_none) stays_step (λ _. k rest (in_turns S n j test turn h g k)) in
    in_then S j test (λ v. cond (is_zero v) none (judged_then none step (λ _. turn rest))) h g (λ v. in_cond S (is_zero v) none _ (in_always S none always_none) next)

in_do_turns : (S : Scope → Type 0) (n : ℕ) (j : Judges) (test : Evaluation Value) (i : Judges) (body : Evaluation (Unit {0})) → In S j → Stays test → In S i → Stays body
    → In S (judged_do_turns n j test i body)
in_do_turns S zero j test i body h g f e = in_always S none always_none
in_do_turns S (suc n) j test i body h g f e =
    let rest = judged_do_turns n j test i body in
    let next : In S (judged_then j test (λ v. cond (is_zero v) none rest)) =
    in_then S j test (λ v. cond (is_zero v) none rest) h g (λ v. in_cond S (is_zero v) none rest (in_always S none always_none) (in_do_turns S n j test i body h g f e)) in
    in_then S none step (λ _. judged_round i body (judged_then j test (λ v. cond (is_zero v) none rest))) (in_always S none always_none) stays_step (λ _. in_round S i body _ f e next)

-- ---- what is born has blocks

-- the scope after what comes to its end
abbrev Leads : {A : Type 0} → (Scope → Type 0) → Outcome A → Type 0
Leads S (Normal a t) = S t.scope
Leads S (Stop e t) = Unit {0}

leads_to : {A : Type 0} (S R : Scope → Type 0) (o : Outcome A) → Leads S o → ((scope : Scope) → S scope → R scope) → Leads R o
leads_to S R (Normal a t) h f = f t.scope h
leads_to S R (Stop e t) h f = tt

leads_bind : {A B : Type 0} (S R : Scope → Type 0) (o : Outcome A) (k : A → Evaluation B) → Leads S o → ((a : A) (t : State) → S t.scope → Leads R (k a t)) → Leads R (on_outcome o k)
leads_bind S R (Normal a t) k h f = f a t h
leads_bind S R (Stop e t) k h f = tt

leads_same : {A : Type 0} (S : Scope → Type 0) (m : Evaluation A) → Stays m → (s : State) → S s.scope → Leads S (m s)
leads_same {A = A} S m h s q = by (m s) (h.at s)
  where
    by : (o : Outcome A) → scope_after o ≡ s.scope → Leads S o
    by (Normal a t) e = subst S (sym e) q
    by (Stop x t) e = tt

-- what follows judges so there
judged_led : {A : Type 0} (S : Scope → Type 0) (o : Outcome A) (k : A → Judges) → Leads S o → ((a : A) → In S (k a)) → AllInSight (judged_behind o k)
judged_led S (Normal a t) k h f = (f a).at t h
judged_led S (Stop e t) k h f = tt

abbrev object_of : Declaration → Entity
object_of d = AnObject (record { name = d.name; decl = number_of d; ctype = d.ctype })

module _ (structs : List StructType) where
  leads_birth : (d : Declaration) (es : List Entity) (s : State) → AreFound es s.scope → Leads (AreFound (object_of d ∷ es)) (birth structs d s)
  leads_birth d es s h = by (full_at_stack_birth standard_sizes s.store (size_of structs d.ctype))
    where
      by : (o : Option Segment) → Leads (AreFound (object_of d ∷ es)) (birth_of o (number_of d) (size_of structs d.ctype) s)
      by (Some full) = tt
      by None = (newest_found (number_of d) _ s.scope, entities_found_more es (number_of d) _ s.scope h)

  -- one more, and those behind it
  one_more : {A : Type 0} (d : Declaration) (ds : List Declaration) (es : List Entity) (o : Outcome A)
      → Leads (λ scope. AreFound (object_of d ∷ es) scope × DeclarationsFound ds scope) o → Leads (λ scope. AreFound es scope × DeclarationsFound (d ∷ ds) scope) o
  one_more d ds es o h = leads_to _ _ o h (λ scope q. (q.0.1, (q.0.0, q.1)))

  leads_births : (ds : List Declaration) (es : List Entity) (s : State) → AreFound es s.scope → Leads (λ scope. AreFound es scope × DeclarationsFound ds scope) (births structs ds s)
  leads_births [] es s h = (h, tt)
  leads_births (d ∷ ds) es s h =
      leads_bind (AreFound (object_of d ∷ es)) _ (birth structs d s) (λ _. births structs ds) (leads_birth d es s h) (λ u t q. one_more d ds es (births structs ds t) (leads_births ds (object_of d ∷ es) t q))

module _ (T : Tables) where
  leads_parameters : (at : Place) (ds : List Declaration) (vs : List Value) (es : List Entity) (s : State) → AreFound es s.scope
      → Leads (λ scope. AreFound es scope × DeclarationsFound ds scope) (parameters T at ds vs s)
  leads_parameters at [] [] es s h = (h, tt)
  leads_parameters at [] (v ∷ vs) es s h = tt
  leads_parameters at (d ∷ ds) [] es s h = tt
  leads_parameters at (d ∷ ds) (v ∷ vs) es s h =
      let written = as_scalar (scalar_of d.ctype) (λ k. write_youngest at k v) in
      leads_bind (AreFound (object_of d ∷ es)) _ ((birth T.structs d >> written) s) (λ _. parameters T at ds vs)
      (leads_bind (AreFound (object_of d ∷ es)) (AreFound (object_of d ∷ es)) (birth T.structs d s) (λ _. written) (leads_birth T.structs d es s h)
      (λ u t q. leads_same (AreFound (object_of d ∷ es)) written (stays_as_scalar (scalar_of d.ctype) _ (λ k. stays_write_youngest at k v)) t q))
      (λ u t q. one_more T.structs d ds es (parameters T at ds vs t) (leads_parameters at ds vs (object_of d ∷ es) t q))

-- ---- expressions and statements, where calls judge so

module _ (T : Tables) (call : Callee) (stays : (at : Place) (f : Use) (vs : List Value) → Stays (call at f vs)) (calls : InCalls) (c : (at : Place) (f : Use) (vs : List Value) → Always (calls at f vs)) where
  mutual
    always_eval : (e : Expression) → Always (judged_eval T call calls e)
    always_eval (Node at t (Number n k)) = always_none
    always_eval (Node at t (Letter n)) = always_none
    always_eval (Node at t (Text n)) = always_none
    always_eval (Node at t (Variable x)) = always_none
    always_eval (Node at t (Unary unary.Address a)) = always_place a
    always_eval (Node at t (Unary unary.Deref a)) = always_eval a
    always_eval (Node at t (Unary unary.Not a)) = always_eval a
    always_eval (Node at t (Unary unary.Plus a)) = always_eval a
    always_eval (Node at t (Unary unary.Minus a)) = always_eval a
    always_eval (Node at t (Unary unary.Flip a)) = always_eval a
    always_eval (Node at t (Binary op a b)) = always_then _ _ _ (always_eval a) (λ _. always_eval b)
    always_eval (Node at t (Both a b)) = always_then _ (condition_of T a call) _ (always_eval a) (λ x. always_cond (is_zero x) _ _ always_none (always_eval b))
    always_eval (Node at t (Either a b)) = always_then _ (condition_of T a call) _ (always_eval a) (λ x. always_cond (is_zero x) _ _ (always_eval b) always_none)
    always_eval (Node at t (Choice a b d)) = always_then _ (condition_of T a call) _ (always_eval a) (λ x. always_cond (is_zero x) _ _ (always_eval d) (always_eval b))
    always_eval (Node at t (Assign None a b)) = always_then _ _ _ (always_place a) (λ _. always_assigned (scalar_of t) _ _ (always_eval b) (always_place b))
    always_eval (Node at t (Assign (Some op) a b)) = always_then _ _ _ (always_place a) (λ _. always_eval b)
    always_eval (Node at t (Bump op a)) = always_place a
    always_eval (Node at t (Call f args)) = always_then _ _ _ (always_evals args) (λ vs. c at f vs)
    always_eval (Node at t (Cast to a)) = always_cond (is_array (type_of a)) _ _ (always_place a) (always_eval a)
    always_eval (Node at t (SizeOfType u)) = always_none
    always_eval (Node at t (SizeOfExpr a)) = always_none
    always_eval (Node at t (Index a b)) = always_then _ _ _ (always_eval a) (λ _. always_eval b)
    always_eval (Node at t (Dot a m)) = always_place a
    always_eval (Node at t (Arrow a m)) = always_eval a
    always_eval (Node at t (Comma a b)) = always_then _ _ _ (always_eval a) (λ _. always_eval b)

    always_place : (e : Expression) → Always (judged_place T call calls e)
    always_place (Node at t (Variable x)) = always_none
    always_place (Node at t (Text n)) = always_none
    always_place (Node at t (Unary unary.Deref a)) = always_eval a
    always_place (Node at t (Index a b)) = always_then _ _ _ (always_eval a) (λ _. always_eval b)
    always_place (Node at t (Dot a m)) = always_place a
    always_place (Node at t (Arrow a m)) = always_eval a
    always_place (Node at t (Assign None a b)) = always_then _ _ _ (always_place a) (λ _. always_assigned (scalar_of t) _ _ (always_eval b) (always_place b))
    always_place (Node at t (Comma a b)) = always_then _ _ _ (always_eval a) (λ _. always_place b)
    always_place (Node at t _) = record { at = λ s. tt }

    always_evals : (es : Expressions) → Always (judged_evals T call calls es)
    always_evals NoExpression = always_none
    always_evals (Following e es) = always_then _ _ _ (always_eval e) (λ _. always_evals es)

  always_any : (e : Option Expression) → Always (judged_any T call calls e)
  always_any None = always_none
  always_any (Some e) = always_eval e

  always_one : (o : Option ℕ) (e : Expression) → Always (judged_one T call calls o e)
  always_one None e = always_eval e
  always_one (Some n) e = always_none

  mutual
    always_fill : (at : Place) (t : PlainType) (p : Pointer) (i : Initialiser) → Always (judged_fill T call calls at t p i)
    always_fill at t p (One e) = always_one (string_in e) e
    always_fill at t p (Many brace is) = always_parts at (parts_or_itself T t) p is

    always_parts : (at : Place) (cs : List (ℕ × PlainType)) (p : Pointer) (is : Initialisers) → Always (judged_parts T call calls at cs p is)
    always_parts at cs p NoInitialiser = always_none
    always_parts at [] p (Listed i is) = always_none
    always_parts at (d ∷ cs) p (Listed i is) = always_then _ (fill T at d.1 (shifted p d.0) i call) _ (always_fill at d.1 (shifted p d.0) i) (λ _. always_parts at cs p is)

  always_initialise : (d : Declaration) (i : Option (Place × Initialiser)) → Always (judged_initialise T call calls d i)
  always_initialise d None = always_none
  always_initialise d (Some (at, i)) = always_then none (object at d.place.offset) _ always_none (λ p. always_fill at d.ctype p i)

  always_initialise_all : (ds : List Declaration) → Always (judged_initialise_all T call calls ds)
  always_initialise_all [] = always_none
  always_initialise_all (d ∷ ds) = always_then _ (initialise T d d.init call) _ (always_initialise d d.init) (λ _. always_initialise_all ds)

  -- ---- statements

  stays_test : (e : Expression) → Stays (condition_of T e call)
  stays_test e = stays_tested T call stays e (stays_eval T call stays e)

  in_born : (s : Sight) (ds : List Declaration) (k : Judges) → In (SeesWith s ds) k → In (Sees s) (judged_then none (births T.structs ds) (λ _. k))
  in_born s ds k h = record { at = λ t q. judged_led (SeesWith s ds) (births T.structs ds t) (λ _. k) (leads_births T.structs ds s.entities t q) (λ _. h) }

  always_first : (first : ForFirst) (n : ℕ) → FirstPlaced first → Always (judged_first T call calls first n)
  always_first NoFirst n h = always_none
  always_first (First (Declare ds)) n h = always_initialise_all ds
  always_first (First (Specify at t)) n h = always_none
  always_first (First (Run (Eval at e))) n h = always_eval e
  always_first (First _) n h = absurd h

  none_declared : (items : BlockItems) (scope : Scope) → DeclareNothing items → DeclarationsFound (declared_in items) scope
  none_declared NoItem scope h = tt
  none_declared (Then (Run a) rest) scope h = none_declared rest scope h.1
  none_declared (Then (Asserts annots) rest) scope h = none_declared rest scope h.1
  none_declared (Then (Declare ds) rest) scope h = absurd h.0
  none_declared (Then (Specify at t) rest) scope h = absurd h.0

  sees_first : (s : Sight) (first : ForFirst) (scope : Scope) → SeesWith s (declared_first first) scope → Sees (behind_first (inner s) first) scope
  sees_first s NoFirst scope q = q.0
  sees_first s (First (Declare ds)) scope q = found_with_all (inner s) ds scope q.0 q.1
  sees_first s (First (Specify at t)) scope q = q.0
  sees_first s (First (Run a)) scope q = q.0
  sees_first s (First (Asserts annots)) scope q = q.0

  -- labels bring no names in sight
  labels_here : (s : AnnotationSight) (a : Statement) → (behind_labels s a).here ≡ s.here
  labels_here s (Labelled at l a) = labels_here (with_label s l) a
  labels_here s (Empty at) = refl
  labels_here s (Eval at e) = refl
  labels_here s (Block at items) = refl
  labels_here s (If at e a b) = refl
  labels_here s (While at annots e a) = refl
  labels_here s (Do at a e) = refl
  labels_here s (For at annots first e behind a) = refl
  labels_here s (Break at) = refl
  labels_here s (Continue at) = refl
  labels_here s (Return at e) = refl
  labels_here s (Switch at e cases) = refl

  item_here : (s : AnnotationSight) (i : BlockItem) → (labels_behind s i).here ≡ s.here
  item_here s (Run a) = labels_here s a
  item_here s (Declare ds) = refl
  item_here s (Specify at t) = refl
  item_here s (Asserts annots) = refl

  case_here : (s : AnnotationSight) (items : BlockItems) → (behind_case s items).here ≡ s.here
  case_here s NoItem = refl
  case_here s (Then i rest) = case_here (labels_behind s i) rest ∙ item_here s i

  mutual
    in_exec : (s : AnnotationSight) (a : Statement) → StatementPlaced AreAsserts AreLoopClauses a → StatementNoted s a → (n : ℕ) → In (Sees s.here) (judged_exec T call calls a n)
    in_exec s (Empty at) h q n = in_always (Sees s.here) none always_none
    in_exec s (Eval at e) h q n = in_always (Sees s.here) _ (always_eval e)
    in_exec s (Block at items) h q n = in_born s.here (declared_in items) _ (in_items (inside_block s) items h q n)
    in_exec s (If at e a b) h q n =
        in_then (Sees s.here) _ (condition_of T e call) _ (in_always (Sees s.here) _ (always_eval e)) (stays_test e) (λ v. in_cond (Sees s.here) (is_zero v) _ _ (in_else s b h.1 q.1 n) (in_exec s a h.0 q.0 n))
    in_exec s (While at annots e a) h q n =
        in_turns (Sees s.here) n _ (invariants annots >> condition_of T e call) _
        (in_then (Sees s.here) (judged_invariants annots) (invariants annots) _ (in_invariants s annots h.0 q.0) (stays_invariants annots) (λ _. in_always (Sees s.here) _ (always_eval e)))
        (stays_then (invariants annots) (condition_of T e call) (stays_invariants annots) (stays_test e))
        (λ again k. in_turn (Sees s.here) (variant annots) _ (exec_with T a call n) none done again (λ v e. in_variant s annots v e h.0 q.0) (in_exec s a h.1 q.1 n) (stays_exec T call stays a n)
        (in_always (Sees s.here) none always_none) (stays_give tt) k)
    in_exec s (Do at a e) h q n =
        in_do_turns (Sees s.here) n _ (condition_of T e call) _ (exec_with T a call n) (in_always (Sees s.here) _ (always_eval e)) (stays_test e) (in_exec s a h q n) (stays_exec T call stays a n)
    in_exec s (For at annots first e behind a) h q n =
        let inside = inside_for s first in
        let S = Sees inside.here in
        in_born s.here (declared_first first) _ (in_then (SeesWith s.here (declared_first first)) _ (first_with T first call n) _ (in_always (SeesWith s.here (declared_first first)) _ (always_first first n h.1))
        (stays_first T call stays first n) (λ _. in_wider (SeesWith s.here (declared_first first)) S _ (sees_first s.here first)
        (in_turns S n _ (invariants annots >> condition_with T e call) _
        (in_then S (judged_invariants annots) (invariants annots) _ (in_invariants inside annots h.0 q.0) (stays_invariants annots) (λ _. in_always S _ (always_any e)))
        (stays_then (invariants annots) (condition_with T e call) (stays_invariants annots) (stays_condition T call stays e))
        (λ again k. in_turn S (variant annots) _ (exec_with T a call n) _ (effect_with T behind call) again (λ v e. in_variant inside annots v e h.0 q.0) (in_exec inside a h.2 q.1 n) (stays_exec T call stays a n)
        (in_always S _ (always_any behind)) (stays_effect T call stays behind) k))))
    in_exec s (Break at) h q n = in_always (Sees s.here) none always_none
    in_exec s (Continue at) h q n = in_always (Sees s.here) none always_none
    in_exec s (Return at e) h q n = in_always (Sees s.here) _ (always_any e)
    in_exec s (Labelled at l a) h q n =
        in_then (Sees s.here) none (mark (Some l)) _ (in_always (Sees s.here) none always_none) (stays_mark (Some l)) (λ _. in_exec (with_label s l) a h q n)
    in_exec s (Switch at e cases) h q n =
        in_then (Sees s.here) _ (eval_with T e call) _ (in_always (Sees s.here) _ (always_eval e)) (stays_eval T call stays e) (λ v. in_cases s cases h q n (chosen_case v cases))

    -- nothing is declared directly among the items of a case
    in_cases : (s : AnnotationSight) (cases : Cases) → CasesPlaced AreAsserts AreLoopClauses cases → CasesNoted s cases → (n k : ℕ) → In (Sees s.here) (judged_cases T call calls cases n k)
    in_cases s NoCase h q n k = in_always (Sees s.here) none always_none
    in_cases s (AnotherCase at v items rest) h q n zero =
        in_then (Sees s.here) _ (items_with T items call n) _ (in_wider (Sees s.here) (SeesWith s.here (declared_in items)) _ (λ scope r. (r, none_declared items scope h.0)) (in_items s items h.1 q.0 n))
        (stays_items T call stays items n) (λ _. subst (λ u. In (Sees u) (judged_cases T call calls rest n zero)) (case_here s items) (in_cases (behind_case s items) rest h.2 q.1 n zero))
    in_cases s (AnotherCase at v items rest) h q n (suc k) = subst (λ u. In (Sees u) (judged_cases T call calls rest n k)) (case_here s items) (in_cases (behind_case s items) rest h.2 q.1 n k)

    in_else : (s : AnnotationSight) (b : ElsePart) → ElsePlaced AreAsserts AreLoopClauses b → ElseNoted s b → (n : ℕ) → In (Sees s.here) (judged_else T call calls b n)
    in_else s NoElse h q n = in_always (Sees s.here) none always_none
    in_else s (Else a) h q n = in_exec s a h q n

    -- all that is declared directly among them has blocks
    in_items : (s : AnnotationSight) (items : BlockItems) → ItemsPlaced AreAsserts AreLoopClauses items → ItemsNoted s items → (n : ℕ) → In (SeesWith s.here (declared_in items)) (judged_items T call calls items n)
    in_items s NoItem h q n = in_always (SeesWith s.here []) none always_none
    in_items s (Then (Declare ds) rest) h q n =
        let S = SeesWith s.here (ds ++ declared_in rest) in
        in_then S _ (initialise_all T ds call) _ (in_always S _ (always_initialise_all ds)) (stays_initialise_all T call stays ds)
        (λ _. in_wider S (SeesWith (with_objects s.here ds) (declared_in rest)) _
        (λ scope r. let d = declarations_found-append ds (declared_in rest) scope r.1 in (found_with_all s.here ds scope r.0 d.0, d.1)) (in_items (behind_noted s (Declare ds)) rest h.1 q.1 n))
    in_items s (Then (Specify at t) rest) h q n =
        let S = SeesWith s.here (declared_in rest) in
        in_then S none done _ (in_always S none always_none) (stays_give tt) (λ _. in_items (behind_noted s (Specify at t)) rest h.1 q.1 n)
    in_items s (Then (Run a) rest) h q n =
        let S = SeesWith s.here (declared_in rest) in
        in_then S _ (exec_with T a call n) _ (in_wider S (Sees s.here) _ (λ scope r. r.0) (in_exec s a h.0 q.0 n)) (stays_exec T call stays a n) (λ _. in_items (behind_noted s (Run a)) rest h.1 q.1 n)
    in_items s (Then (Asserts annots) rest) h q n =
        let S = SeesWith s.here (declared_in rest) in
        in_then S _ _ _ (in_wider S (Sees s.here) _ (λ scope r. r.0) (in_checks s annots h.0 q.0)) (stays_item T call stays (Asserts annots) n) (λ _. in_items (behind_noted s (Asserts annots)) rest h.1 q.1 n)

  -- a body is a block, whose scope is that of the parameters
  in_body : (s : AnnotationSight) (body : Option Statement) → BodyRead AreAsserts AreLoopClauses body → BodyNoted s body → (n : ℕ) → In (Sees s.here) (judged_body T call calls body n)
  in_body s None h q n = in_always (Sees s.here) none always_none
  in_body s (Some (Block at items)) h q n = in_born s.here (declared_in items) _ (in_items s items h.0 q n)
  in_body s (Some _) h q n = absurd h

-- ---- calls

-- objects have blocks as a list of declarations and as what is in sight
objects_found : (ds : List Declaration) (scope : Scope) → DeclarationsFound ds scope → AreFound (map object_of ds) scope
objects_found [] scope h = tt
objects_found (d ∷ ds) scope h = (h.0, objects_found ds scope h.1)

declared_found : (ds : List Declaration) (scope : Scope) → AreFound (map object_of ds) scope → DeclarationsFound ds scope
declared_found [] scope h = tt
declared_found (d ∷ ds) scope h = (h.0, declared_found ds scope h.1)

found_together : (a b : List Entity) (scope : Scope) → AreFound a scope → AreFound b scope → AreFound (a ++ b) scope
found_together [] b scope h g = g
found_together (e ∷ a) b scope h g = (h.0, found_together a b scope h.1 g)

found_apart : (a b : List Entity) (scope : Scope) → AreFound (a ++ b) scope → AreFound a scope × AreFound b scope
found_apart [] b scope h = (tt, h)
found_apart (e ∷ a) b scope h = let rest = found_apart a b scope h.1 in ((h.0, rest.0), rest.1)

record Known (p : TranslationUnit) (f : Function) : Type 0 where
  seen : FunctionSeen p f
  read : FunctionRead AreAsserts AreLoopClauses f
  contract : ContractNoted p f
  formed : MaybeFormed IsShortClause f.contract

all_known : (p : TranslationUnit) → IsProgram p → (front fs : List Function) → front ++ fs ≡ p.funcs → FunctionsRead AreAsserts AreLoopClauses fs → AllByRecursion (ContractNoted p) fs → ContractsFormed IsShortClause fs
    → AllByRecursion (Known p) fs
all_known p q front [] is h c g = tt
all_known p q front (f ∷ fs) is h c g =
    (record { seen = function_seen p q front fs f is; read = h.0; contract = c.0; formed = g.0 }, all_known p q (front ++ f ∷ []) fs (append_assoc front (f ∷ []) fs ∙ is) h.1 c.1 g.1)

either : (P : Function → Type 0) (t : Bool) (f g : Option Function) → WhereAny P f → WhereAny P g → WhereAny P (if t then f else g)
either P true f g h k = h
either P false f g h k = k

known_at : (p : TranslationUnit) (n : ℕ) (fs : List Function) → AllByRecursion (Known p) fs → WhereAny (Known p) (definition_at n fs)
known_at p n [] h = tt
known_at p n (f ∷ fs) h = either (Known p) (is_definition f && nat_eq f.place.offset n) (Some f) (definition_at n fs) h.0 (known_at p n fs h.1)

known_named : (p : TranslationUnit) (name : List ℕ) (fs : List Function) → AllByRecursion (Known p) fs → WhereAny (Known p) (function_named p name fs)
known_named p name [] h = tt
known_named p name (f ∷ fs) h = either (Known p) (is_definition f && has_name (slice_get p.names f.name) name) (Some f) (function_named p name fs) h.0 (known_named p name fs h.1)

-- ---- contracts, where parameters and globals have blocks

abbrev Owns : TranslationUnit → Function → Scope → Type 0
Owns p f scope = DeclarationsFound f.params scope × DeclarationsFound p.globals scope

declared_at : (ds : List Declaration) (n : ℕ) (d : Declaration) (scope : Scope) → DeclarationsFound ds scope → slice_get ds n ≡ Some d → IsFound scope (number_of d)
declared_at [] n d scope h e = absurd cc
declared_at (c ∷ ds) zero d scope h e = let same : c ≡ d = cc in subst (λ d. IsFound scope (number_of d)) same h.0
declared_at (c ∷ ds) (suc n) d scope h e = declared_at ds n d scope h.1 e

own_found : (p : TranslationUnit) (f : Function) (b : Object) (scope : Scope) → IsOwn p f b → Owns p f scope → IsFound scope b.decl
own_found p f b scope (OfFunction n d at decl ctype) h = subst (IsFound scope) (sym decl) (declared_at f.params n d scope h.0 at)
own_found p f b scope (OfFile n d at decl ctype) h = subst (IsFound scope) (sym decl) (declared_at p.globals n d scope h.1 at)

clause_here : (s : Sight) (formals : List ℕ) (t : PlainType) (k : Kind) → (sight_of_clause s formals t k).here ≡ s
clause_here s formals t kind.Assert = refl
clause_here s formals t kind.Requires = refl
clause_here s formals t kind.Assumes = refl
clause_here s formals t kind.Ensures = refl
clause_here s formals t kind.Complete = refl
clause_here s formals t kind.Disjoint = refl
clause_here s formals t kind.Invariant = refl
clause_here s formals t kind.Variant = refl
clause_here s formals t kind.Rte = refl

module _ (p : TranslationUnit) (f : Function) (c : FunctionContract) (stands : ContractStands p f c) where
  abbrev own_sight : Kind → AnnotationSight
  own_sight = sight_of_clause stands.seen (numbers_of_parameters f.params) f.result

  -- a check of a clause of a contract, typed with what that sees
  abbrev IsSeen : Check → Type 0
  IsSeen c = TypedBy c.annotation.kind (own_sight c.annotation.kind) c.annotation.body × IsClauseKind c.annotation.kind

  own_names : (k : Kind) (scope : Scope) → Owns p f scope → NamesFound (own_sight k).here scope
  own_names k scope q =
      subst (λ u. NamesFound u scope) (sym (clause_here stands.seen (numbers_of_parameters f.params) f.result k)) (λ x b is. own_found p f b scope (stands.owned x b is) q)

  in_own : (r : Option Result) (k : Check) → IsSeen k → In (Owns p f) (judged_check r k.annotation)
  in_own r k h = record {
    at = λ s q.
        let kind = k.annotation.kind in
        (record { sight = own_sight kind; typed = h.0; found = clause_found kind (own_sight kind).here s.scope h.1 (own_names kind s.scope q) }, tt);
  }

  in_of : (b : Option ℕ) (hs : List Bool) (j : Judges) → In (Owns p f) j → In (Owns p f) (judged_of b hs j)
  in_of None hs j h = h
  in_of (Some k) hs j h = in_cond (Owns p f) (holds_at k hs) j none h (in_always (Owns p f) none always_none)

  in_all : (bs : List NamedBehavior) (r : Option Result) (cs : List Check) (hs : List Bool) → AllByRecursion IsSeen cs → In (Owns p f) (judged_all bs r cs hs)
  in_all bs r [] hs h = in_always (Owns p f) none always_none
  in_all bs r (k ∷ cs) hs h =
      in_then (Owns p f) _ (checked bs (names_with r) k.annotation k.behavior hs) _ (in_of k.behavior hs _ (in_own r k h.0)) (stays_checked bs (names_with r) k.annotation k.behavior hs)
      (λ hs. in_all bs r cs hs h.1)

  -- the checks of a contract
  all_append : (a b : List Check) → AllByRecursion IsSeen a → AllByRecursion IsSeen b → AllByRecursion IsSeen (a ++ b)
  all_append [] b h g = g
  all_append (k ∷ a) b h g = (h.0, all_append a b h.1 g)

  some_of : (t : Bool) (k : Check) (cs : List Check) → IsSeen k → AllByRecursion IsSeen cs → AllByRecursion IsSeen (cond t (k ∷ cs) cs)
  some_of true k cs h g = (h, g)
  some_of false k cs h g = g

  -- clauses of these kinds
  module _ (IsKind : Kind → Type 0) (among : (k : Kind) → IsKind k → IsBehaviorKind k) where
    seen_clauses : (is : Kind → Bool) (b : Option ℕ) (annots : List Annotation) → AreClausesOf IsKind IsShortClause annots → ClausesTyped own_sight annots → AllByRecursion IsSeen (of_kind is b annots)
    seen_clauses is b [] g h = tt
    seen_clauses is b (a ∷ rest) g h =
        some_of (is a.kind) (record { annotation = a; behavior = b }) (of_kind is b rest) (clause_typed a.kind (own_sight a.kind) a.body (among a.kind g.0.kind) h.0) (seen_clauses is b rest g.1 h.2)

  seen_own : (is : Kind → Bool) (annots : List Annotation) → AreClausesOf IsOwnKind IsShortClause annots → ClausesTyped own_sight annots → AllByRecursion IsSeen (of_kind is None annots)
  seen_own is annots g h = seen_clauses IsOwnKind own_kind is None annots g h

  seen_behaviors : (is : Kind → Bool) (k : ℕ) (bs : List NamedBehavior) → BehaviorsFormed IsShortClause bs → BehaviorsTyped own_sight bs → AllByRecursion IsSeen (of_behaviors is k bs)
  seen_behaviors is k [] g h = tt
  seen_behaviors is k (b ∷ bs) g h =
      all_append (of_kind is (Some k) b.clauses) (of_behaviors is (suc k) bs) (seen_clauses IsBehaviorKind (λ k i. i) is (Some k) b.clauses g.0 h.0) (seen_behaviors is (suc k) bs g.1 h.1)

  seen_covers : (is : Kind → Bool) (annots : List Annotation) → AreClausesOf IsCoverKind NamesBehaviors annots → AllByRecursion IsSeen (of_kind is None annots)
  seen_covers is [] g = tt
  seen_covers is (a ∷ rest) g =
      some_of (is a.kind) (record { annotation = a; behavior = None }) (of_kind is None rest) (cover_typed a.kind (own_sight a.kind) a.body g.0.kind g.0.body) (seen_covers is rest g.1)

  in_entry_of : ContractFormed IsShortClause c → In (Owns p f) (judged_entry (Some c))
  in_entry_of formed =
      let own = of_kind is_requires None c.clauses in
      let assumes = of_behaviors is_assumes 0 c.behaviors in
      let requires = of_behaviors is_requires 0 c.behaviors in
      let complete = of_kind is_complete None c.covers in
      let disjoint = of_kind is_disjoint None c.covers in
      in_all c.behaviors None (entry_checks c) (all_hold c.behaviors)
      (all_append own (assumes ++ (requires ++ (complete ++ disjoint))) (seen_own is_requires c.clauses formed.clauses stands.typed.clauses)
      (all_append assumes (requires ++ (complete ++ disjoint)) (seen_behaviors is_assumes 0 c.behaviors formed.behaviors stands.typed.behaviors)
      (all_append requires (complete ++ disjoint) (seen_behaviors is_requires 0 c.behaviors formed.behaviors stands.typed.behaviors)
      (all_append complete disjoint (seen_covers is_complete c.covers formed.covers) (seen_covers is_disjoint c.covers formed.covers)))))

  in_ending_of : ContractFormed IsShortClause c → (hs : List Bool) (r : Result) → In (Owns p f) (judged_ending (Some c) hs r)
  in_ending_of formed hs r =
      in_all c.behaviors (Some r) (leave_checks c) hs
      (all_append (of_kind is_ensures None c.clauses) (of_behaviors is_ensures 0 c.behaviors) (seen_own is_ensures c.clauses formed.clauses stands.typed.clauses) (seen_behaviors is_ensures 0 c.behaviors formed.behaviors stands.typed.behaviors))

module _ (p : TranslationUnit) (f : Function) where
  in_entry : (c : Option FunctionContract) → ((d : FunctionContract) → c ≡ Some d → ContractStands p f d) → MaybeFormed IsShortClause c → In (Owns p f) (judged_entry c)
  in_entry None stands formed = in_always (Owns p f) none always_none
  in_entry (Some c) stands formed = in_entry_of p f c (stands c refl) formed

  in_ending : (c : Option FunctionContract) → ((d : FunctionContract) → c ≡ Some d → ContractStands p f d) → MaybeFormed IsShortClause c → (hs : List Bool) (r : Result) → In (Owns p f) (judged_ending c hs r)
  in_ending None stands formed hs r = in_always (Owns p f) none always_none
  in_ending (Some c) stands formed hs r = in_ending_of p f c (stands c refl) formed hs r

module _ (p : TranslationUnit) (call : Callee) (stays : (at : Place) (f : Use) (vs : List Value) → Stays (call at f vs)) (calls : InCalls) (c : (at : Place) (f : Use) (vs : List Value) → Always (calls at f vs)) where
  abbrev T : Tables
  T = tables_of p

  -- what is in sight in a function's body, behind its parameters
  abbrev BodySight : {f : Function} → Known p f → Sight
  BodySight {f = f} k = with_parameters (inner k.seen.sight) f.params

  -- where a call has begun
  abbrev Begun : {f : Function} → Known p f → Scope → Type 0
  Begun {f = f} k scope = Sees (BodySight k) scope × Owns p f scope

  -- what is in sight before it, and all globals
  abbrev all_around : {f : Function} → Known p f → List Entity
  all_around k = k.seen.sight.entities ++ map object_of p.globals

  around_found : {f : Function} (k : Known p f) → AreFound (all_around k) (global_scope p)
  around_found k = found_together k.seen.sight.entities (map object_of p.globals) (global_scope p) k.seen.found (objects_found p.globals (global_scope p) (globals_in_scope p))

  begun_with : {f : Function} (k : Known p f) (scope : Scope) → AreFound (all_around k) scope × DeclarationsFound f.params scope → Begun k scope
  begun_with {f = f} k scope h =
      let apart = found_apart k.seen.sight.entities (map object_of p.globals) scope h.0 in
      (found_parameters (inner k.seen.sight) f.params scope apart.0 h.1, (h.1, declared_found p.globals scope apart.1))

  in_own_body : (f : Function) (k : Known p f) (n : ℕ) → In (Begun k) (judged_body T call calls f.body n)
  in_own_body f k n = in_wider (Begun k) (Sees (BodySight k)) _ (λ scope q. q.0) (in_body T call stays calls c (in_body_sight (BodySight k)) f.body k.read.body k.seen.noted n)

  in_own_entry : (f : Function) (k : Known p f) → In (Begun k) (judged_entry f.contract)
  in_own_entry f k = in_wider (Begun k) (Owns p f) _ (λ scope q. q.1) (in_entry p f f.contract k.contract k.formed)

  in_own_ending : (f : Function) (k : Known p f) (hs : List Bool) (r : Result) → In (Begun k) (judged_ending f.contract hs r)
  in_own_ending f k hs r = in_wider (Begun k) (Owns p f) _ (λ scope q. q.1) (in_ending p f f.contract k.contract k.formed hs r)

  in_begun : (f : Function) (k : Known p f) (n : ℕ) → In (Begun k) (judged_then (judged_entry f.contract) (entry f.contract) (λ hs. judged_result T call calls f hs n))
  in_begun f k n =
      in_then (Begun k) (judged_entry f.contract) (entry f.contract) _ (in_own_entry f k) (stays_entry f.contract)
      (λ hs. in_then (Begun k) (judged_body T call calls f.body n) (λ s. returned_by f (body_with T f.body call n s)) _ (in_own_body f k n)
      (record { at = λ s. returned_stays f (body_with T f.body call n s) s (body_stays T call stays f.body n s) }) (λ v. in_own_ending f k hs (record { ctype = f.result; value = v })))

  always_call : (f : Option Function) → WhereAny (Known p) f → (n : ℕ) (at : Place) (vs : List Value) → Always (judged_call T call calls (global_scope p) f n at vs)
  always_call None k n at vs = always_none
  always_call (Some f) k n at vs = record { at = λ s. judged_led (Begun k) (begin s) _ (begun s) (λ _. in_begun f k n) }
    where
      begin : Evaluation (Unit {0})
      begin = step >> (frame >> alone (global_scope p) >> parameters T at f.params vs >> mark None)

      inside : Evaluation (Unit {0})
      inside = frame >> alone (global_scope p) >> parameters T at f.params vs

      seen : (t : State) → Leads (Begun k) (inside t)
      seen t =
          let S : Scope → Type 0 = λ scope. scope ≡ global_scope p in
          leads_bind S (Begun k) ((frame >> alone (global_scope p)) t) (λ _. parameters T at f.params vs)
          (leads_bind (λ scope. Unit {0}) S (frame t) (λ _. alone (global_scope p)) (leads_same (λ scope. Unit {0}) frame stays_frame t tt) (λ u v q. refl))
          (λ u v q. leads_to _ (Begun k) (parameters T at f.params vs v)
          (leads_parameters T at f.params vs (all_around k) v (subst (AreFound (all_around k)) (sym q) (around_found k)))
          (begun_with k))

      begun : (s : State) → Leads (Begun k) (begin s)
      begun s =
          leads_bind (λ scope. Unit {0}) (Begun k) (step s) (λ _. inside >> mark None) (leads_same (λ scope. Unit {0}) step stays_step s tt)
          (λ u t q. leads_bind (Begun k) (Begun k) (inside t) (λ _. mark None) (seen t)
          (λ u v r. leads_same (Begun k) (mark None) (stays_mark None) v r))

  main_over : (f : Function) (k : Known p f) (hs : List Bool) (s : State) (o : Outcome (Unit {0})) → Begun k s.scope → scope_after o ≡ s.scope → AllInSight (judged_behind_main f hs o)
  main_over f k hs s (Normal u t) q e = (in_own_ending f k hs _).at t (subst (Begun k) (sym e) q)
  main_over f k hs s (Stop (Leaves Breaks) t) q e = tt
  main_over f k hs s (Stop (Leaves Continues) t) q e = tt
  main_over f k hs s (Stop (Leaves (Returns None)) t) q e = (in_own_ending f k hs _).at t (subst (Begun k) (sym e) q)
  main_over f k hs s (Stop (Leaves (Returns (Some v))) t) q e = (in_own_ending f k hs _).at t (subst (Begun k) (sym e) q)
  main_over f k hs s (Stop (Over x) t) q e = tt
  main_over f k hs s (Stop Stuck t) q e = tt

  in_main : (f : Option Function) → WhereAny (Known p) f → (n : ℕ) → In (λ scope. scope ≡ global_scope p) (judged_main T call calls f n)
  in_main None k n = in_always _ none always_none
  in_main (Some f) k n = record {
    at = λ s q. judged_led (Begun k) (begin s) _ (begun s q) (λ _. in_then (Begun k) (judged_entry f.contract) (entry f.contract) _
        (in_own_entry f k) (stays_entry f.contract) (λ hs. whole hs));
  }
    where
      begin : Evaluation (Unit {0})
      begin = frame >> births T.structs f.params >> mark None

      begun : (s : State) → s.scope ≡ global_scope p → Leads (Begun k) (begin s)
      begun s q =
          let S : Scope → Type 0 = λ scope. scope ≡ global_scope p in
          leads_bind (Begun k) (Begun k) ((frame >> births T.structs f.params) s) (λ _. mark None)
          (leads_bind S (Begun k) (frame s) (λ _. births T.structs f.params) (leads_same S frame stays_frame s q)
          (λ u t r. leads_to _ (Begun k) (births T.structs f.params t)
          (leads_births T.structs f.params (all_around k) t (subst (AreFound (all_around k)) (sym r) (around_found k)))
          (begun_with k)))
          (λ u t r. leads_same (Begun k) (mark None) (stays_mark None) t r)

      whole : (hs : List Bool) → In (Begun k) (λ s. judged_body T call calls f.body n s ++ judged_behind_main f hs (body_with T f.body call n s))
      whole hs = record {
        at = λ s q. both_in_sight (judged_body T call calls f.body n s) (judged_behind_main f hs (body_with T f.body call n s)) ((in_own_body f k n).at s q)
            (main_over f k hs s (body_with T f.body call n s) q (body_stays T call stays f.body n s));
      }

-- ---- whole runs

module _ (p : TranslationUnit) (known : AllByRecursion (Known p) p.funcs) where
  always_calls : (n : ℕ) (at : Place) (f : Use) (vs : List Value) → Always (judged_calls p n at f vs)
  always_calls zero at f vs = always_none
  always_calls (suc n) at f vs = by (always_calls n) (is_of_library f)
    where
      by : ((at : Place) (f : Use) (vs : List Value) → Always (judged_calls p n at f vs)) → (t : Bool)
          → Always (if t then none else judged_call (tables_of p) (call_of p n) (judged_calls p n) (global_scope p) (definition_at f.decl p.funcs) n at vs)
      by below true = always_none
      by below false = always_call p (call_of p n) (stays_call p n) (judged_calls p n) below (definition_at f.decl p.funcs) (known_at p f.decl p.funcs known) n at vs

  in_whole : (n : ℕ) → In (λ scope. scope ≡ global_scope p) (judged_whole p n)
  in_whole n =
      in_then (λ scope. scope ≡ global_scope p) (judged_initialise_all (tables_of p) (call_of p n) (judged_calls p n) p.globals) (initialise_all (tables_of p) p.globals (call_of p n)) _
      (in_always _ _ (always_initialise_all (tables_of p) (call_of p n) (stays_call p n) (judged_calls p n) (always_calls n) p.globals))
      (stays_initialise_all (tables_of p) (call_of p n) (stays_call p n) p.globals)
      (λ u. in_main p (call_of p n) (stays_call p n) (judged_calls p n) (always_calls n) (function_named p (codes "main") p.funcs) (known_named p (codes "main") p.funcs known) n)

pub judged_in_sight : JudgedInSight
judged_in_sight p q input n = (in_whole p (all_known p q [] p.funcs refl q.effects q.contracts_noted q.contracts) (suc n)).at _ refl
