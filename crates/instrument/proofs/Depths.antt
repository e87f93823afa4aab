-- How deep translated statements stand in one another, and that no step stands in them outside their loops.
use Rattle.std.proofs.Common.{◌≡◌, ℕ, zero, suc, pos, ◌+◌, ◌*◌, ◌≤◌, Bool, true, false, if◌then◌else◌, List, [], ◌∷◌, ◌++◌, length, Option, Some, None, max, refl, subst, arith}
use Rattle.std.proofs.Math.Nat.{max-le, le-max_left, le-max_right}
use Rattle.c_syntax.specs.Expressions.{Expression, Node, Number, type_of}
use Rattle.c_syntax.specs.Statements.{Declaration, Statement, Empty, Eval, Block, If, While, Do, For, Break, Continue, Return, ElsePart, NoElse, Else, ForFirst, NoFirst, First, BlockItem, Declare, Specify, Run, Asserts, BlockItems, NoItem, Then}
use Rattle.c_syntax.specs.Statements.{Labelled, Switch, Cases, NoCase, AnotherCase}
use Rattle.c_syntax.specs.Logic.{LogicTerm, ClauseBody, Raw, Holds, Value, Behaviors, Annotation}
use Rattle.c_syntax.specs.Programs.{TranslationUnit}
use Rattle.c_syntax.specs.Layouts.{size_of}
use Rattle.c_model.specs.Formed as form
use Rattle.c_model.specs.Formed.{AreLoopClauses, number_of}
use Rattle.c_model.specs.Predicates.{variant, variant_in}
use Rattle.c_model.specs.TypedTrees.{WhereAny}
use Rattle.instrument.proofs.RangedTrees.{AreRangedClauses}
use Rattle.instrument.proofs.FormedTrees.{IsFull, AreInitialised, FirstFormed, StatementFormed, CasesFormed, ElseFormed, ItemFormed, ItemsFormed}
use Rattle.c_model.specs.Sizes.{forms_of, most_forms}
use Rattle.c_model.specs.Meaning.{declared_in, declared_first, default_of}
use Rattle.mon_syntax.specs.declared.tree.MonType.{MonType}
use Rattle.mon_syntax.specs.declared.tree.MonType.TheVariants.{I32, U64}
use Rattle.mon_syntax.specs.Registers.{Bindings, RegisterTable, with_kinds, next_register}
use Rattle.mon_syntax.specs.Trees.{MonExpression, MonStatements, NoStatement}
use Rattle.mon_syntax.specs.Trees as tree
use Rattle.mon_syntax.specs.Valid.{Types, has_no_step, depth_of_all}
use Rattle.track_scopes.specs.Blocks.{entered, deaths}
use Rattle.c_effects.specs.Expressions.{value_type, before, one, set}
use Rattle.c_initialisers.specs.Translation.{initialise, initialise_all, initialise_local, may_be_born, initial_temporaries}
use Rattle.c_effects.specs.Effects.{block_of, any_temporaries}
use Rattle.c_effects.specs.Full.{act_takes, condition_result, prepare, result, takes}
use Rattle.instrument.specs.LoopClauses.{behind_invariant, behind_invariants, invariant_code, invariants_code, smaller, variant_compared, variant_kept, variant_value, wanted}
use Rattle.instrument.specs.Translation.{all_live, Spot, in_loop, in_switch, with_variables, leave_where_zero, test, test_if_any, act_if_any, loop, before_body, front_of, kept_of, compared_of, turns_of, returned, returned_temporaries}
use Rattle.instrument.specs.Translation.{switch_temporaries, after_statement, after_first}
use Rattle.instrument.specs.Translation.{after_item, after_items, given_register, leaving, passed_label, way_out}
use Rattle.instrument.specs.Translation.{case_label, test_case, tests_of_cases, search, where_reached, others_in_block, statement, next_cases, blocks_of_cases, else_part, first_part, item, items}
use Rattle.c_simulation.specs.Keeping.{Kept}
use Rattle.c_simulation.specs.Labels.{end_label, next_label, leave_label}
use Rattle.instrument.proofs.FullDepths.{no_step_before, no_step_act, no_step_prepare, deep_act, deep_behind, deep_one, deep_prepare, deep_set}
use Rattle.annot_simulation.specs.Snapshots.{snapshot}
use Rattle.annot_simulation.specs.Code.{valuation}
use Rattle.annot_simulation.specs.Code.{type_of as code_type}
use Rattle.annot_simulation.proofs.Asserted.{assertion_deep, assertions_deep, no_step_assertion, no_step_valuation, valuation_deep}
use Rattle.annot_simulation.proofs.Depths.{deep_before}
use Rattle.annot_simulation.proofs.SnapshotDepths.{AreShort, snapshot_deep}
use Rattle.instrument.proofs.ValidInitialisers.{deep_initialise}
use Rattle.instrument.proofs.ValidBlocks.{deep_deaths, deep_alive}

-- ---- no step

module _ (p : TranslationUnit) (bound : Bindings) (rs : Types) where
  pub no_step_test : (loops : ℕ) (e : Expression) → has_no_step (test p bound rs loops e) ≡ true
  no_step_test loops e = no_step_before (prepare p bound rs e) (leave_where_zero loops (condition_result p bound rs e)) (no_step_prepare p bound rs e) refl

  pub no_step_test_if_any : (loops : ℕ) (e : Option Expression) → has_no_step (test_if_any p bound rs loops e) ≡ true
  no_step_test_if_any loops None = refl
  no_step_test_if_any loops (Some e) = no_step_test loops e

  pub no_step_act_if_any : (e : Option Expression) → has_no_step (act_if_any p bound rs e) ≡ true
  no_step_act_if_any None = refl
  no_step_act_if_any (Some e) = no_step_act p bound rs e

-- in front of the step of a loop, and after its body
pub no_step_invariants : (p : TranslationUnit) (bound : Bindings) (plan : List Kept) (rs : Types) (annots : List Annotation) → has_no_step (invariants_code p bound plan rs annots) ≡ true
no_step_invariants p bound plan rs [] = refl
no_step_invariants p bound plan rs (a ∷ annots) =
    no_step_before (invariant_code p bound plan rs a a.body) (invariants_code p bound plan (behind_invariant p bound plan rs a a.body) annots) (by a.body)
    (no_step_invariants p bound plan (behind_invariant p bound plan rs a a.body) annots)
  where
    by : (c : ClauseBody) → has_no_step (invariant_code p bound plan rs a c) ≡ true
    by (Raw f) = no_step_assertion p bound plan [] rs a
    by (Holds q) = no_step_assertion p bound plan [] rs a
    by (Value t) = refl
    by (Behaviors names) = no_step_assertion p bound plan [] rs a

no_step_wanted : (a : Annotation) (p : TranslationUnit) (bound : Bindings) (plan : List Kept) (rs : Types) (t : LogicTerm) → has_no_step (wanted a (valuation p bound plan [] t rs)) ≡ true
no_step_wanted a p bound plan rs t =
    let c = valuation p bound plan [] t rs in
    no_step_before c.stmts (one (tree.Assert (tree.Register c.flag) (tree.Constant I32 (pos 1)) a.number a.place.line a.kind)) (no_step_valuation p bound plan [] t rs) refl

pub no_step_kept : (p : TranslationUnit) (bound : Bindings) (plan : List Kept) (rs : Types) (o : Option (Annotation × LogicTerm)) → has_no_step (variant_kept p bound plan rs o) ≡ true
no_step_kept p bound plan rs None = refl
no_step_kept p bound plan rs (Some v) = no_step_wanted v.0 p bound plan rs v.1

pub no_step_compared : (p : TranslationUnit) (bound later : Bindings) (plan : List Kept) (rs behind : Types) (o : Option (Annotation × LogicTerm)) → has_no_step (variant_compared p bound later plan rs behind o) ≡ true
no_step_compared p bound later plan rs behind None = refl
no_step_compared p bound later plan rs behind (Some v) =
    no_step_before (wanted v.0 (variant_value p later plan behind v))
    (one (tree.Assert (tree.Constant I32 (pos 1)) (smaller (code_type v.1) (variant_value p bound plan rs v).value (variant_value p later plan behind v).value) v.0.number v.0.place.line v.0.kind))
    (no_step_wanted v.0 p later plan behind v.1) refl

-- ---- how deep

-- what stands in no other statement is at most so deep
abbrev pub most_deep : ℕ
most_deep = 1000

-- a jump after deaths
deep_jump : (live : List ℕ) (l : List ℕ) (n : ℕ) → 1 ≤ n → depth_of_all (before (deaths live) (one (tree.Goto l))) ≤ n
deep_jump live l n le = let d = deep_deaths live in deep_before (deaths live) (one (tree.Goto l)) n (omega (arith, d, le)) (deep_one (tree.Goto l) n le)

-- the way out of a function after deaths
deep_leaving : (out : Option ℕ) (live : List ℕ) (e : Option MonExpression) (n : ℕ) → 1 ≤ n → depth_of_all (leaving out live e) ≤ n
deep_leaving out live e n le = let d = deep_deaths live in deep_before (deaths live) (one (way_out out e)) n (omega (arith, d, le)) (by out)
  where
    by : (o : Option ℕ) → depth_of_all (one (way_out o e)) ≤ n
    by None = deep_one (tree.Return e) n le
    by (Some r) = deep_one (tree.Goto leave_label) n le

-- a loop whose body is n deep
deep_loop : (loops : ℕ) (front kept body behind : MonStatements) (n : ℕ) → depth_of_all front ≤ suc n → depth_of_all kept ≤ suc n → depth_of_all body ≤ n → depth_of_all behind ≤ suc n
    → depth_of_all (one (loop loops front kept body behind)) ≤ n + 3
deep_loop loops front kept body behind n f k b h =
    let rest = tree.Then (tree.Labelled body (next_label loops)) behind in
    let round : depth_of_all (before kept rest) ≤ suc n = deep_before kept rest (suc n) k (max-le (omega (arith, b)) h) in
    let both : max (depth_of_all front) (depth_of_all (before kept rest)) ≤ suc n = max-le f round in
    let whole : max 1 (max (depth_of_all front) (depth_of_all (before kept rest))) ≤ suc n = max-le (omega arith) both in
    let turns : max (suc (max 1 (max (depth_of_all front) (depth_of_all (before kept rest))))) 0 ≤ n + 2 = max-le (omega (arith, whole)) (omega arith) in
    max-le (omega (arith, turns)) (omega arith)

-- what is done behind a test of the index
deep_reached : (j i : ℕ) (a rest : MonStatements) (n : ℕ) → depth_of_all a ≤ n → depth_of_all rest ≤ n + 1 → depth_of_all (tree.Then (where_reached j i a) rest) ≤ n + 1
deep_reached j i a rest n le h = let inner : max (depth_of_all a) 0 ≤ n = max-le le (omega arith) in max-le (omega (arith, inner)) h

deep_test_case : (levels : ℕ) (t : MonType) (v j i : ℕ) (value : Option Expression) → depth_of_all (test_case levels t v j i value) ≤ 2
deep_test_case levels t v j i (Some (Node at u (Number n k))) = omega arith
deep_test_case levels t v j i _ = omega arith

deep_tests : (levels : ℕ) (t : MonType) (v j i : ℕ) (cs : Cases) → depth_of_all (tests_of_cases levels t v j i cs) ≤ 2
deep_tests levels t v j i NoCase = omega arith
deep_tests levels t v j i (AnotherCase at value body rest) =
    deep_before (test_case levels t v j i value) (tests_of_cases levels t v j (suc i) rest) 2 (deep_test_case levels t v j i value) (deep_tests levels t v j (suc i) rest)

deep_search : (levels : ℕ) (t : MonType) (v j : ℕ) (cs : Cases) (n : ℕ) → 3 ≤ n → depth_of_all (search levels t v j cs) ≤ n
deep_search levels t v j cs n le =
    let d = deep_tests levels t v j 0 cs in
    let first = tree.Constant U64 (pos (default_of cs)) in
    let whole = tree.Labelled (tests_of_cases levels t v j 0 cs) (case_label levels) in
    deep_before (set j first) (one whole) n (deep_set j first n (omega (arith, le))) (deep_one whole n (omega (arith, d, le)))

module _ (p : TranslationUnit) where
  deep_test : (bound : Bindings) (rs : Types) (loops : ℕ) (e : Expression) → forms_of e ≤ most_forms → depth_of_all (test p bound rs loops e) ≤ most_deep
  deep_test bound rs loops e few =
      let d = deep_prepare p bound rs e in
      deep_before (prepare p bound rs e) (leave_where_zero loops (condition_result p bound rs e)) most_deep (omega (arith, d, few)) (omega arith)

  deep_test_if_any : (bound : Bindings) (rs : Types) (loops : ℕ) (e : Option Expression) → WhereAny (IsFull p.structs) e → depth_of_all (test_if_any p bound rs loops e) ≤ most_deep
  deep_test_if_any bound rs loops None f = omega arith
  deep_test_if_any bound rs loops (Some e) f = deep_test bound rs loops e f.small.few

  deep_act_if_any : (bound : Bindings) (rs : Types) (e : Option Expression) → WhereAny (IsFull p.structs) e → depth_of_all (act_if_any p bound rs e) ≤ most_deep
  deep_act_if_any bound rs None f = omega arith
  deep_act_if_any bound rs (Some e) f = let d = deep_act p bound rs e in let s = f.small.few in omega (arith, d, s)

  deep_initials : (bound : Bindings) (rs : Types) (ds : List Declaration) → AreInitialised p.structs ds → depth_of_all (initialise_all p bound rs ds) ≤ most_deep
  deep_initials bound rs [] f = omega arith
  deep_initials bound rs (d ∷ ds) f =
      deep_before (initialise_local p bound rs d) (initialise_all p bound (rs ++ initial_temporaries p d.init) ds) most_deep (by (may_be_born (size_of p.structs d.ctype)))
      (deep_initials bound (rs ++ initial_temporaries p d.init) ds f.1)
    where
      by : (t : Bool) → depth_of_all (if t then initialise p bound rs (block_of bound (number_of d)) d.ctype d.init else NoStatement) ≤ most_deep
      by true = let x = deep_initialise p bound rs (block_of bound (number_of d)) d.ctype d.init f.0 in omega (arith, x)
      by false = omega arith

-- ---- annotations of loops

invariants_deep : (p : TranslationUnit) (bound : Bindings) (plan : List Kept) (rs : Types) (annots : List Annotation) → AreLoopClauses annots → depth_of_all (invariants_code p bound plan rs annots) ≤ most_deep
invariants_deep p bound plan rs [] h = omega arith
invariants_deep p bound plan rs (a ∷ annots) h =
    deep_before (invariant_code p bound plan rs a a.body) (invariants_code p bound plan (behind_invariant p bound plan rs a a.body) annots) most_deep (by a.body)
    (invariants_deep p bound plan (behind_invariant p bound plan rs a a.body) annots h.1)
  where
    by : (c : ClauseBody) → depth_of_all (invariant_code p bound plan rs a c) ≤ most_deep
    by (Raw f) = let d = assertion_deep p bound plan [] rs a h.0.body in omega (arith, d)
    by (Holds q) = let d = assertion_deep p bound plan [] rs a h.0.body in omega (arith, d)
    by (Value t) = omega arith
    by (Behaviors names) = let d = assertion_deep p bound plan [] rs a h.0.body in omega (arith, d)

-- a variant has few tokens
pub variant_few : (annots : List Annotation) (v : Annotation × LogicTerm) → variant annots ≡ Some v → AreLoopClauses annots → form.tokens_of_term v.1 ≤ 400
variant_few [] v e h = absurd cc
variant_few (a ∷ rest) v e h = by (λ f. variant_few rest v f h.1) a.body e h.0.body
  where
    by : (variant rest ≡ Some v → form.tokens_of_term v.1 ≤ 400) → (c : ClauseBody) → variant_in a c (variant rest) ≡ Some v → form.IsShortClause c → form.tokens_of_term v.1 ≤ 400
    by others (Raw f) e r = absurd r
    by others (Holds p) e r = others e
    by others (Value t) e r = let same : t ≡ v.1 = cc in subst (λ t. form.tokens_of_term t ≤ 400) same r.1
    by others (Behaviors names) e r = absurd r

wanted_deep : (a : Annotation) (p : TranslationUnit) (bound : Bindings) (plan : List Kept) (rs : Types) (t : LogicTerm) → form.tokens_of_term t ≤ 400 → depth_of_all (wanted a (valuation p bound plan [] t rs)) ≤ most_deep
wanted_deep a p bound plan rs t few =
    let c = valuation p bound plan [] t rs in
    deep_before c.stmts (one (tree.Assert (tree.Register c.flag) (tree.Constant I32 (pos 1)) a.number a.place.line a.kind)) most_deep (let d = valuation_deep p bound plan [] t rs few in omega (arith, d)) (omega arith)

kept_deep : (p : TranslationUnit) (bound : Bindings) (plan : List Kept) (rs : Types) (o : Option (Annotation × LogicTerm)) → ((v : Annotation × LogicTerm) → o ≡ Some v → form.tokens_of_term v.1 ≤ 400)
    → depth_of_all (variant_kept p bound plan rs o) ≤ most_deep
kept_deep p bound plan rs None few = omega arith
kept_deep p bound plan rs (Some v) few = wanted_deep v.0 p bound plan rs v.1 (few v refl)

compared_deep : (p : TranslationUnit) (bound later : Bindings) (plan : List Kept) (rs behind : Types) (o : Option (Annotation × LogicTerm)) → ((v : Annotation × LogicTerm) → o ≡ Some v → form.tokens_of_term v.1 ≤ 400)
    → depth_of_all (variant_compared p bound later plan rs behind o) ≤ most_deep
compared_deep p bound later plan rs behind None few = omega arith
compared_deep p bound later plan rs behind (Some v) few =
    deep_before (wanted v.0 (variant_value p later plan behind v))
    (one (tree.Assert (tree.Constant I32 (pos 1)) (smaller (code_type v.1) (variant_value p bound plan rs v).value (variant_value p later plan behind v).value) v.0.number v.0.place.line v.0.kind)) most_deep
    (wanted_deep v.0 p later plan behind v.1 (few v refl)) (omega arith)

module _ (p : TranslationUnit) (plan : List Kept) (short : AreShort plan) where
  deep_returned : (spot : Spot) (r : RegisterTable) (e : Option Expression) → WhereAny (IsFull p.structs) e → depth_of_all (returned p plan spot r e) ≤ most_deep
  deep_returned spot r None f = deep_leaving spot.result (all_live spot) None most_deep (omega arith)
  deep_returned spot r (Some e) f =
      let live = all_live spot in
      let last = given_register spot.result (length (r.kinds ++ takes p e)) in
      let value = result p r.bound r.kinds e in
      let leaves = leaving spot.result live (Some (tree.Register last)) in
      let x = deep_prepare p r.bound r.kinds e in
      let s = f.small.few in
      deep_before (prepare p r.bound r.kinds e) (before (set last value) leaves) most_deep (omega (arith, x, s))
      (deep_before (set last value) leaves most_deep (deep_set last value most_deep (omega arith)) (deep_leaving spot.result live (Some (tree.Register last)) most_deep (omega arith)))

  deep_first : (spot : Spot) (r : RegisterTable) (first : ForFirst) → FirstFormed p.structs first → depth_of_all (first_part p plan spot r first) ≤ most_deep
  deep_first spot r NoFirst f = omega arith
  deep_first spot r (First (Run (Eval at e))) f = let d = deep_act p r.bound r.kinds e in let s = f.small.few in omega (arith, d, s)
  deep_first spot r (First (Declare ds)) f = deep_initials p r.bound r.kinds ds f
  deep_first spot r (First (Specify at t)) f = omega arith
  deep_first spot r _ f = absurd f

  -- the turns of a loop, with its annotations
  deep_turns : (annots : List Annotation) → AreRangedClauses annots → (spot : Spot) (r after : RegisterTable) (e step : Option Expression) → WhereAny (IsFull p.structs) e → WhereAny (IsFull p.structs) step → (body : MonStatements) (n : ℕ)
      → most_deep ≤ n → depth_of_all body ≤ n → depth_of_all (turns_of p plan annots (spot.levels + 1) r after e step body) ≤ n + 3
  deep_turns annots h spot r after e step f g body n le deep_body =
      let loops = spot.levels + 1 in
      let tests = test_if_any p r.bound (behind_invariants p r.bound plan r.kinds annots) loops e in
      let act = act_if_any p after.bound after.kinds step in
      let x = deep_test_if_any p r.bound (behind_invariants p r.bound plan r.kinds annots) loops e f in
      let y = deep_act_if_any p after.bound after.kinds step g in
      let front = deep_before (invariants_code p r.bound plan r.kinds annots) tests most_deep (invariants_deep p r.bound plan r.kinds annots h.are) x in
      let few = λ (v : Annotation × LogicTerm) (is : variant annots ≡ Some v). variant_few annots v is h.are in
      let kept = kept_deep p r.bound plan (behind_invariants p r.bound plan r.kinds annots ++ any_temporaries (takes p) e) (variant annots) few in
      let compared = compared_deep p r.bound after.bound plan (behind_invariants p r.bound plan r.kinds annots ++ any_temporaries (takes p) e) (after.kinds ++ any_temporaries (act_takes p) step) (variant annots) few in
      let behind = deep_before act (compared_of p plan annots r e after step) most_deep y compared in
      deep_loop loops (front_of p plan annots loops r e) (kept_of p plan annots r e) body (before act (compared_of p plan annots r e after step)) n (omega (arith, front, le)) (omega (arith, kept, le)) deep_body (omega (arith, behind, le))

  mutual
    pub deep : (spot : Spot) (r : RegisterTable) (a : Statement) → StatementFormed p.structs a → depth_of_all (statement p plan spot r a) ≤ 4 * form.depth a + most_deep
    deep spot r (Empty at) f = omega arith
    deep spot r (Eval at e) f = let d = deep_act p r.bound r.kinds e in let s = f.small.few in omega (arith, d, s)
    deep spot r (Block at body) f =
        let own = declared_in body in
        let inside = with_variables (next_register r) own spot in
        let d = deep_items inside (entered own r) body f in
        deep_alive p (next_register r) own (items p plan inside (entered own r) body) (4 * (1 + form.depth_of_items body) + most_deep) (omega (arith, d)) (omega arith)
    deep spot r (If at e a b) f =
        let first = with_kinds (takes p e) r in
        let second = after_statement p plan a first in
        let x = deep spot first a f.1 in
        let y = deep_else spot second b f.2 in
        let left = le-max_left (form.depth a) (form.depth_of_else b) in
        let right = le-max_right (form.depth a) (form.depth_of_else b) in
        let n = 4 * max (form.depth a) (form.depth_of_else b) + most_deep in
        let m : max (depth_of_all (statement p plan spot first a)) (depth_of_all (else_part p plan spot second b)) ≤ n = max-le (omega (arith, x, left)) (omega (arith, y, right)) in
        let s = f.0.small.few in
        deep_behind p r.bound r.kinds e (tree.If (condition_result p r.bound r.kinds e) (statement p plan spot first a) (else_part p plan spot second b))
        (4 * (1 + max (form.depth a) (form.depth_of_else b)) + most_deep) (omega (arith, s)) (omega (arith, m))
    deep spot r (While at annots e a) f =
        let inside = before_body p plan annots (Some e) r in
        let x = deep (in_loop spot) inside a f.2 in
        let d = deep_turns annots f.0 spot r (after_statement p plan a inside) (Some e) None f.1 tt (statement p plan (in_loop spot) inside a) (4 * form.depth a + most_deep) (omega arith) x in
        omega (arith, d)
    deep spot r (Do at a e) f =
        let loops = spot.levels + 1 in
        let after = after_statement p plan a r in
        let x = deep (in_loop spot) r a f.0 in
        let y = deep_test p after.bound after.kinds loops e f.1.small.few in
        let d = deep_loop loops NoStatement NoStatement (statement p plan (in_loop spot) r a) (test p after.bound after.kinds loops e) (4 * form.depth a + most_deep) (omega arith) (omega arith) x (omega (arith, y)) in
        omega (arith, d)
    deep spot r (For at annots first e step a) f =
        let own = declared_first first in
        let inside = with_variables (next_register r) own spot in
        let born = entered own r in
        let begun = after_first p plan first born in
        let tested = before_body p plan annots e begun in
        let after = after_statement p plan a tested in
        let x = deep (in_loop inside) tested a f.4 in
        let g = deep_first inside born first f.1 in
        let body = statement p plan (in_loop inside) tested a in
        let whole = turns_of p plan annots (spot.levels + 1) begun after e step body in
        let d = deep_turns annots f.0 inside begun after e step f.2 f.3 body (4 * form.depth a + most_deep) (omega arith) x in
        let n = 4 * (1 + form.depth a) + most_deep in
        deep_alive p (next_register r) own (before (first_part p plan inside born first) whole) n (deep_before (first_part p plan inside born first) whole n (omega (arith, g)) (omega (arith, d))) (omega arith)
    deep spot r (Break at) f = deep_jump spot.inside (end_label spot.levels) (4 * 1 + most_deep) (omega arith)
    deep spot r (Continue at) f = deep_jump (spot.inside ++ spot.between) (next_label spot.innermost) (4 * 1 + most_deep) (omega arith)
    deep spot r (Return at e) f = let d = deep_returned spot r e f in omega (arith, d)
    deep spot r (Labelled at l a) f =
        let later = passed_label p plan (Some l) r in
        let x = snapshot_deep p r.bound (Some l) plan short r.kinds in
        let y = deep spot later a f in
        deep_before (snapshot p r.bound (Some l) r.kinds plan) (statement p plan spot later a) (4 * (1 + form.depth a) + most_deep) (omega (arith, x)) (omega (arith, y))
    deep spot r (Switch at e cases) f =
        let v = length (r.kinds ++ takes p e) in
        let j = length (r.kinds ++ returned_temporaries p e) in
        let levels = spot.levels + 1 in
        let x = deep_prepare p r.bound r.kinds e in
        let s = f.0.small.few in
        let n = 4 * (1 + form.depth_of_cases cases) + most_deep in
        let inside = deep_blocks (in_switch spot) (with_kinds (switch_temporaries p e) r) j 0 0 cases f.1 in
        let whole = tree.Labelled (blocks_of_cases p plan (in_switch spot) (with_kinds (switch_temporaries p e) r) j 0 0 cases) (end_label levels) in
        deep_before (prepare p r.bound r.kinds e) (before (set v (result p r.bound r.kinds e)) (before (search levels (value_type (type_of e)) v j cases) (one whole))) n (omega (arith, x, s))
        (deep_before (set v (result p r.bound r.kinds e)) (before (search levels (value_type (type_of e)) v j cases) (one whole)) n (deep_set v (result p r.bound r.kinds e) n (omega arith))
        (deep_before (search levels (value_type (type_of e)) v j cases) (one whole) n (deep_search levels (value_type (type_of e)) v j cases n (omega arith)) (deep_one whole n (omega (arith, inside)))))

    -- the items of cases stand in one test, and in blocks in two
    deep_next : (spot : Spot) (r : RegisterTable) (j i k : ℕ) (cs : Cases) → CasesFormed p.structs cs → depth_of_all (next_cases p plan spot r j i k cs) ≤ 4 * form.depth_of_cases cs + most_deep + 1
    deep_next spot r j i k NoCase f = omega arith
    deep_next spot r j i zero (AnotherCase at v body rest) f = omega arith
    deep_next spot r j i (suc k) (AnotherCase at v body rest) f =
        let x = deep_items spot r body f.1 in
        let y = deep_next spot (after_items p plan body r) j (suc i) k rest f.2 in
        let left = le-max_left (form.depth_of_items body) (form.depth_of_cases rest) in
        let right = le-max_right (form.depth_of_items body) (form.depth_of_cases rest) in
        deep_reached j i (items p plan spot r body) (next_cases p plan spot (after_items p plan body r) j (suc i) k rest) (4 * max (form.depth_of_items body) (form.depth_of_cases rest) + most_deep) (omega (arith, x, left)) (omega (arith, y, right))

    deep_blocks : (spot : Spot) (r : RegisterTable) (j i k : ℕ) (cs : Cases) → CasesFormed p.structs cs → depth_of_all (blocks_of_cases p plan spot r j i k cs) ≤ 4 * form.depth_of_cases cs + most_deep + 2
    deep_blocks spot r j i k NoCase f = omega arith
    deep_blocks spot r j i zero (AnotherCase at v body rest) f =
        let later = after_items p plan body r in
        let x = deep_items spot r body f.1 in
        let y = deep_next spot later j (suc i) others_in_block rest f.2 in
        let z = deep_blocks spot later j (suc i) others_in_block rest f.2 in
        let left = le-max_left (form.depth_of_items body) (form.depth_of_cases rest) in
        let right = le-max_right (form.depth_of_items body) (form.depth_of_cases rest) in
        let n = 4 * max (form.depth_of_items body) (form.depth_of_cases rest) + most_deep in
        let block = tree.Then (where_reached j i (items p plan spot r body)) (next_cases p plan spot later j (suc i) others_in_block rest) in
        let whole =
        deep_reached j (i + others_in_block) block (blocks_of_cases p plan spot later j (suc i) others_in_block rest) (n + 1)
        (deep_reached j i (items p plan spot r body) (next_cases p plan spot later j (suc i) others_in_block rest) n (omega (arith, x, left)) (omega (arith, y, right))) (omega (arith, z, right)) in
        omega (arith, whole)
    deep_blocks spot r j i (suc k) (AnotherCase at v body rest) f =
        let z = deep_blocks spot (after_items p plan body r) j (suc i) k rest f.2 in
        let right = le-max_right (form.depth_of_items body) (form.depth_of_cases rest) in
        omega (arith, z, right)

    deep_else : (spot : Spot) (r : RegisterTable) (b : ElsePart) → ElseFormed p.structs b → depth_of_all (else_part p plan spot r b) ≤ 4 * form.depth_of_else b + most_deep
    deep_else spot r NoElse f = omega arith
    deep_else spot r (Else a) f = deep spot r a f

    deep_item : (spot : Spot) (r : RegisterTable) (i : BlockItem) → ItemFormed p.structs i → depth_of_all (item p plan spot r i) ≤ 4 * form.depth_of_item i + most_deep
    deep_item spot r (Declare ds) f = let d = deep_initials p r.bound r.kinds ds f in omega (arith, d)
    deep_item spot r (Specify at t) f = omega arith
    deep_item spot r (Run a) f = deep spot r a f
    deep_item spot r (Asserts annots) f = let d = assertions_deep p r.bound plan [] r.kinds annots f.are in omega (arith, d)

    deep_items : (spot : Spot) (r : RegisterTable) (is : BlockItems) → ItemsFormed p.structs is → depth_of_all (items p plan spot r is) ≤ 4 * form.depth_of_items is + most_deep
    deep_items spot r NoItem f = omega arith
    deep_items spot r (Then i rest) f =
        let x = deep_item spot r i f.0 in
        let y = deep_items spot (after_item p plan i r) rest f.1 in
        let left = le-max_left (form.depth_of_item i) (form.depth_of_items rest) in
        let right = le-max_right (form.depth_of_item i) (form.depth_of_items rest) in
        deep_before (item p plan spot r i) (items p plan spot (after_item p plan i r) rest) (4 * max (form.depth_of_item i) (form.depth_of_items rest) + most_deep) (omega (arith, x, left)) (omega (arith, y, right))
