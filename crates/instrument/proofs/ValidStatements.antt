-- Translated statements are valid: their labels, their loops, and the types of what stands in them.
use Rattle.instrument.proofs.Own.{AreOwn, CasesOwn, ElseOwn, ItemsOwn, StatementOwn}
use Rattle.std.proofs.Common.{◌≡◌, ℕ, zero, suc, ◌+◌, ◌^◌, ◌<◌, ◌≤◌, pos, Bool, true, false, if◌then◌else◌, ◌||◌, List, [], ◌∷◌, ◌++◌, length, Option, Some, None, slice_get, refl, sym, ap, ◌∙◌, subst, arith}
use Rattle.std.proofs.Math.Nat.{le-max_left, le-max_right}
use Rattle.std.specs.Prelude.{bytes_eq}
use Rattle.c_syntax.specs.declared.types.CInt.{CInt}
use Rattle.c_syntax.specs.declared.types.CInt.TheVariants as c
use Rattle.c_syntax.specs.Ctypes.{PlainType, Int}
use Rattle.c_syntax.specs.Expressions.{Expression, Node, Number, type_of}
use Rattle.c_syntax.specs.Statements.{Declaration, Statement, Empty, Eval, Block, If, While, Do, For, Break, Continue, Return, ElsePart, NoElse, Else, ForFirst, NoFirst, First, Declare, Specify, Run, Asserts, BlockItems, NoItem, Then}
use Rattle.c_syntax.specs.Statements.{Labelled, Switch, Cases, NoCase, AnotherCase}
use Rattle.c_syntax.specs.Programs.{TranslationUnit}
use Rattle.c_syntax.specs.Layouts.{IntegerType, scalar_of, size_of}
use Rattle.c_model.specs.Conversions.{promoted}
use Rattle.c_model.specs.Formed as form
use Rattle.c_model.specs.Formed.{number_of}
use Rattle.c_model.specs.Meaning.{declared_in, declared_first, default_of}
use Rattle.c_model.specs.ExpressionTyping.{Signature as Known, Sight, inner, with_object, with_objects}
use Rattle.c_model.specs.StatementTyping.{Around, in_loop, in_switch, behind_first}
use Rattle.mon_syntax.specs.Registers.{Bindings, RegisterTable, with_kinds, next_register}
use Rattle.mon_syntax.specs.Trees.{MonStatements, NoStatement}
use Rattle.mon_syntax.specs.Trees as tree
use Rattle.mon_syntax.specs.declared.tree.MonOp.TheVariants.{Eq}
use Rattle.mon_syntax.specs.declared.tree.MonType.TheVariants.{U64}
use Rattle.mon_syntax.specs.Valid.{Types, Labels, Signature, IsExpression, IsStatement, AreStatements, ReturnsResult, has_constant, has_operator, second_type, has_label, has_no_step}
use Rattle.instrument.proofs.FormedTrees.{IsFull, AreInitialised, FirstFormed, StatementFormed, CasesFormed, ElseFormed, ItemsFormed}
use Rattle.c_model.specs.TypedTrees.{WhereAny, IsScalar, WellTyped, IsCondition, AreDeclared, Returned, StatementTyped, CasesTyped, ElseTyped, ItemsTyped, FirstTyped, IsCaseValue, Denotes}
use Rattle.track_scopes.specs.Blocks.{entered, deaths}
use Rattle.c_initialisers.specs.Letters.{InitialsHaveLetters}
use Rattle.c_effects.specs.Letters.{Any, ActHasLetters, ValueHasLetters}
use Rattle.instrument.specs.Limits.{HasNumbers, CasesHaveNumbers, ElseHasNumbers, FirstHasNumbers, HaveNumbers}
use Rattle.c_effects.specs.Expressions.{register_type, value_type, before, one, set}
use Rattle.annot_simulation.specs.Code.{assertions}
use Rattle.annot_simulation.specs.Numbered.{AreNumbered}
use Rattle.c_syntax.specs.Logic.{LogicTerm, Annotation}
use Rattle.c_model.specs.Predicates.{variant}
use Rattle.quantifier_loops.specs.Upward.{tried_label}
use Rattle.annot_simulation.specs.Snapshots.{snapshot}
use Rattle.c_initialisers.specs.Translation.{initial_temporaries, declaration_temporaries, initialise, initialise_all, initialise_local, may_be_born}
use Rattle.c_effects.specs.Effects.{block_of, any_temporaries}
use Rattle.c_effects.specs.Full.{act, act_takes, condition_result, prepare, takes}
use Rattle.c_effects.specs.Full as full
use Rattle.instrument.specs.Translation.{given_register, leaving, passed_label, way_out}
use Rattle.instrument.specs.Translation.{Spot, leave_where_zero, returned_temporaries, switch_temporaries, returned, loop, with_variables, after_statement, after_cases, after_else, after_first, after_item, after_items, statement}
use Rattle.instrument.specs.LoopClauses.{behind_invariants, behind_variant, invariants_code, variant_compared, variant_kept, variant_value}
use Rattle.instrument.specs.Translation.{after_invariants, before_body, after_turn, front_of, kept_of, compared_of, turns_of}
use Rattle.instrument.specs.Translation.{act_if_any, test, test_if_any, case_label, test_case, tests_of_cases, search, where_reached, others_in_block, next_cases, blocks_of_cases}
use Rattle.c_simulation.specs.Keeping.{Kept}
use Rattle.c_simulation.specs.Labels.{end_label, next_label, leave_label}
use Rattle.instrument.specs.Translation.{else_part, first_part, items, result_of}
use Rattle.instrument.specs.Translation as target
use Rattle.instrument.proofs.Names.{IsNumber, end_is_free, next_is_free, case_is_free, ends_differ, nexts_differ, same_bytes}
use Rattle.instrument.proofs.Typed.{Knows, small_constant, index_constant, begins_left, begins_right, begins_front, register_at, count_of_globals, block_points, known_small}
use Rattle.instrument.proofs.RangedTrees.{AreRangedClauses}
use Rattle.instrument.proofs.ValidClauses.{compared_valid, invariants_valid, is_variant, value_valid, wanted_valid}
use Rattle.instrument.proofs.Tables.{body_begins, condition_first, invariants_first, step_first, turn_begins, begins_then, statement_begins, cases_begin, else_begins, first_begins, items_begin, HavePointers, pointers_front, pointers_back}
use Rattle.instrument.proofs.Tables.{pointers_kept, entered_keep, entered_have, statement_keeps, items_keep}
use Rattle.instrument.proofs.Tables.{first_keeps, AllPoint, point_both}
use Rattle.instrument.proofs.Tables.{entered_from, point_born}
use Rattle.instrument.proofs.ValidAsserts.{assertions_valid, pointer_has}
use Rattle.instrument.proofs.ValidContracts.{are_keepable}
use Rattle.instrument.proofs.Keepable.{AssertsWritable, LabelKeepable}
use Rattle.instrument.proofs.KeptRegisters.{PlanTyped, kept_registers}
use Rattle.instrument.proofs.Throughout.{Throughout, ThroughoutCases, ThroughoutElse, ThroughoutItems}
use Rattle.instrument.proofs.FullValid.{CallsValid, HasValue, act_valid, condition_valid, full_valid, prepare_valid, result_scalar}
use Rattle.instrument.proofs.Parts.{StructsFit}
use Rattle.c_model.specs.ReadTree.{TextsAreBytes}
use Rattle.annot_simulation.proofs.ContractValid.{snapshots_are_valid}
use Rattle.annot_simulation.proofs.ValidParts.{before_valid}
use Rattle.annot_simulation.specs.Validity.{Begins}
use Rattle.instrument.proofs.ValidInitialisers.{initialise_valid, initial_letters}
use Rattle.instrument.proofs.ValidBlocks.{Sees, AreSmall, sees_inner, sees_one, sees_behind, sees_later, deaths_valid, alive_valid}
use Rattle.instrument.proofs.Depths.{no_step_test, no_step_test_if_any, no_step_act_if_any, no_step_invariants, no_step_kept, no_step_compared}
use Rattle.instrument.proofs.FullDepths.{no_step_before}
use Rattle.instrument.proofs.Numbers.{structs_behind}

-- ---- labels

neither : (a b : Bool) → a ≡ false → b ≡ false → (a || b) ≡ false
neither a b h k = ap (λ x. x || b) h ∙ k

-- The labels of the bodies around a statement, as many loops and switches stand around it, of which the innermost loop has this number: those farther
-- inside have others, and a `break` and a `continue` find theirs, where they may stand.
pub record AreAround (out : Option ℕ) (ls : Labels) (levels innermost : ℕ) (breaks loops : Bool) : Type 0 where
  pub new_end : (m : ℕ) → levels < m → IsNumber m → has_label ls (end_label m) ≡ false
  pub new_next : (m : ℕ) → levels < m → IsNumber m → has_label ls (next_label m) ≡ false
  pub no_case : (m : ℕ) → has_label ls (case_label m) ≡ false
  pub no_tried : (m : ℕ) → has_label ls (tried_label m) ≡ false
  pub end_among : breaks ≡ true → has_label ls (end_label levels) ≡ true
  pub next_among : loops ≡ true → has_label ls (next_label innermost) ≡ true
  pub out_among : (r : ℕ) → out ≡ Some r → has_label ls leave_label ≡ true

pub outside_all : (innermost : ℕ) → AreAround None [] 0 innermost false false
outside_all innermost = record {
  new_end = λ m lt le. refl;
  new_next = λ m lt le. refl;
  no_case = λ m. refl;
  no_tried = λ m. refl;
  end_among = λ e. absurd cc;
  next_among = λ e. absurd cc;
  out_among = λ r e. absurd cc;
}

-- in front of the end of a body behind which a contract is checked
pub inside_contract : (r innermost : ℕ) → AreAround (Some r) (leave_label ∷ []) 0 innermost false false
inside_contract r innermost = record {
  new_end = λ m lt le. refl;
  new_next = λ m lt le. refl;
  no_case = λ m. refl;
  no_tried = λ m. refl;
  end_among = λ e. absurd cc;
  next_among = λ e. absurd cc;
  out_among = λ r e. refl;
}

module _ (out : Option ℕ) (ls : Labels) (levels innermost : ℕ) (breaks loops : Bool) (h : AreAround out ls levels innermost breaks loops) where
  abbrev inner_level : ℕ
  inner_level = levels + 1

  -- behind the step of a loop, and in a switch
  abbrev pub ended : Labels
  ended = end_label inner_level ∷ ls

  -- in its body
  abbrev pub in_body : Labels
  in_body = next_label inner_level ∷ ended

  own_end : has_label ended (end_label inner_level) ≡ true
  own_end = ap (λ b. b || has_label ls (end_label inner_level)) (same_bytes (end_label inner_level))

  later_end : (m : ℕ) → inner_level < m → IsNumber m → has_label ended (end_label m) ≡ false
  later_end m lt le = neither (bytes_eq (end_label m) (end_label inner_level)) (has_label ls (end_label m)) (ends_differ m inner_level le (omega (arith, lt, le)) (λ e. omega (arith, e, lt))) (h.new_end m (omega (arith, lt)) le)

  around_body : AreAround out in_body inner_level inner_level true true
  around_body = record {
    new_end = later_end;
    new_next = λ m lt le.
        neither (bytes_eq (next_label m) (next_label inner_level)) (has_label ended (next_label m)) (nexts_differ m inner_level le (omega (arith, lt, le)) (λ e. omega (arith, e, lt))) (h.new_next m (omega (arith, lt)) le);
    no_case = h.no_case;
    no_tried = h.no_tried;
    end_among = λ t. own_end;
    next_among = λ t. ap (λ b. b || has_label ended (next_label inner_level)) (same_bytes (next_label inner_level));
    out_among = h.out_among;
  }

  around_items : AreAround out ended inner_level innermost true loops
  around_items = record { new_end = later_end; new_next = λ m lt le. h.new_next m (omega (arith, lt)) le; no_case = h.no_case; no_tried = h.no_tried; end_among = λ t. own_end; next_among = h.next_among; out_among = h.out_among }

-- ---- statements

-- the blocks of the variables that live, and where a `return` goes
pub record Points (ts : Types) (out : Option ℕ) (spot : Spot) : Type 0 where
  pub inside : AllPoint ts spot.inside
  pub between : AllPoint ts spot.between
  pub outside : AllPoint ts spot.outside
  pub result_is : spot.result ≡ out

module _ (p : TranslationUnit) (plan : List Kept) (gs : List Signature) (ts : Types) (result : PlainType) (out : Option ℕ) (functions : List Known)
    (calls : (s : Sight) → s.names ≡ p.names → s.texts ≡ p.texts → s.functions ≡ functions → CallsValid p gs ts s)
    (fits : StructsFit p.structs) (texts : TextsAreBytes p.texts) (planned : PlanTyped ts plan) (many : IsNumber (length ts)) (given_there : (r : ℕ) → out ≡ Some r → slice_get ts r ≡ Some (value_type result)) where
  abbrev Are : Labels → MonStatements → Type 0
  Are ls a = AreStatements (count_of_globals p) gs ts (result_of result) ls a

  abbrev See : RegisterTable → Sight → Type 0
  See r s = Sees p ts r.bound functions s

  abbrev Have : RegisterTable → List Declaration → Type 0
  Have r ds = HavePointers ts r.bound ds

  -- the registers after a part are among those of the function
  abbrev Within : RegisterTable → Type 0
  Within r = Begins r.kinds ts

  and_then : (ls : Labels) (a b : MonStatements) → Are ls a → Are ls b → Are ls (before a b)
  and_then ls a b h k = before_valid (count_of_globals p) gs ts (result_of result) ls a b h k

  effect_at : (s : Sight) (r : RegisterTable) (v : See r s) (ls : Labels) (e : Expression) → IsFull p.structs e → WellTyped s e → ActHasLetters e → Begins (r.kinds ++ act_takes p e) ts → Are ls (act p r.bound r.kinds e)
  effect_at s r v ls e f q l b = act_valid p gs ts (result_of result) r.bound s v.knows (calls s v.names_are v.knows.texts_are v.functions_are) ls e q f.types l f.small.light r.kinds b

  effect_if_any_at : (s : Sight) (r : RegisterTable) (v : See r s) (ls : Labels) (e : Option Expression) → WhereAny (IsFull p.structs) e → WhereAny (WellTyped s) e → Any ActHasLetters e
      → Begins (r.kinds ++ any_temporaries (act_takes p) e) ts → Are ls (act_if_any p r.bound r.kinds e)
  effect_if_any_at s r v ls None f q l b = tt
  effect_if_any_at s r v ls (Some e) f q l b = effect_at s r v ls e f q l b

  test_at : (s : Sight) (r : RegisterTable) (v : See r s) (ls : Labels) (loops : ℕ) (e : Expression) → has_label ls (end_label loops) ≡ true → IsFull p.structs e → IsCondition s e → ValueHasLetters e → Begins (r.kinds ++ takes p e) ts
      → Are ls (test p r.bound r.kinds loops e)
  test_at s r v ls loops e jump f q l b =
      let known = calls s v.names_are v.knows.texts_are v.functions_are in
      and_then ls (prepare p r.bound r.kinds e) (leave_where_zero loops (condition_result p r.bound r.kinds e))
      (prepare_valid p gs ts (result_of result) r.bound s v.knows known ls e q.typed f.types l f.small.light r.kinds (HasValue q.scalar) b)
      ((condition_valid p gs ts (result_of result) r.bound s v.knows known ls e r.kinds q.scalar q.typed f.types l f.small.light b, tt, (jump, tt)), tt)

  test_if_any_at : (s : Sight) (r : RegisterTable) (v : See r s) (ls : Labels) (loops : ℕ) (e : Option Expression) → has_label ls (end_label loops) ≡ true → WhereAny (IsFull p.structs) e → WhereAny (IsCondition s) e → Any ValueHasLetters e
      → Begins (r.kinds ++ any_temporaries (takes p) e) ts → Are ls (test_if_any p r.bound r.kinds loops e)
  test_if_any_at s r v ls loops None jump f q l b = tt
  test_if_any_at s r v ls loops (Some e) jump f q l b = test_at s r v ls loops e jump f q l b

  -- declarations, of which each sees those in front
  small_both : (a b : List Declaration) → AreSmall p.structs a → AreSmall p.structs b → AreSmall p.structs (a ++ b)
  small_both [] b h k = k
  small_both (d ∷ a) b h k = (h.0, small_both a b h.1 k)

  pub declared_small : (s : Sight) (ds : List Declaration) → s.structs ≡ p.structs → AreDeclared s ds → AreSmall p.structs ds
  declared_small s [] e q = tt
  declared_small s (d ∷ ds) e q = (known_small p.structs s d.ctype e q.0.size, declared_small (with_object s d) ds e q.1)

  where_born : (ls : Labels) (t : Bool) (a : MonStatements) → Are ls a → Are ls (if t then a else NoStatement)
  where_born ls true a h = h
  where_born ls false a h = tt

  initials_valid : (ds : List Declaration) (s : Sight) (bound : Bindings) (v : Sees p ts bound functions s) (ls : Labels) (rs : Types) → HavePointers ts bound ds → AreOwn ds → AreInitialised p.structs ds → AreDeclared s ds → InitialsHaveLetters ds
      → Begins (rs ++ declaration_temporaries p ds) ts → Are ls (initialise_all p bound rs ds)
  initials_valid [] s bound v ls rs h own f q l b = tt
  initials_valid (d ∷ ds) s bound v ls rs h own f q l b =
      let here = initial_temporaries p d.init in
      let w = sees_one p ts functions bound s d own.0 h.0 v in
      and_then ls (initialise_local p bound rs d) (initialise_all p bound (rs ++ here) ds)
      (where_born ls (may_be_born (size_of p.structs d.ctype)) (initialise p bound rs (block_of bound (number_of d)) d.ctype d.init)
      (initialise_valid p gs ts (result_of result) bound (with_object s d) w.knows (calls (with_object s d) w.names_are w.knows.texts_are w.functions_are) ls fits texts rs
      (block_of bound (number_of d)) d.ctype d.init
      (block_points ts bound (number_of d) h.0) (declared_small s (d ∷ ds) v.knows.structs_are q).0 q.0.init f.0 (initial_letters d.init l.0) (begins_left rs here (declaration_temporaries p ds) ts b)))
      (initials_valid ds (with_object s d) bound w ls (rs ++ here) h.1 own.1 f.1 q.1 l.1 (begins_right rs here (declaration_temporaries p ds) ts b))

  -- ---- loops

  module _ (ls : Labels) (levels innermost : ℕ) (breaks loops : Bool) (h : AreAround out ls levels innermost breaks loops) where
    loop_valid : (front kept body behind : MonStatements) → IsNumber (levels + 1) → has_no_step front ≡ true → has_no_step kept ≡ true → has_no_step behind ≡ true → Are (ended out ls levels innermost breaks loops h) front
        → Are (ended out ls levels innermost breaks loops h) kept → Are (in_body out ls levels innermost breaks loops h) body → Are (ended out ls levels innermost breaks loops h) behind → Are ls (one (loop (levels + 1) front kept body behind))
    loop_valid front kept body behind le f k g front_valid kept_valid body_valid behind_valid = (
      (
        end_is_free (levels + 1) le,
        h.new_end (levels + 1) (omega arith) le,
        (
          (
            f,
            no_step_before kept (tree.Then (tree.Labelled body (next_label (levels + 1))) behind) k g,
            front_valid,
            and_then (ended out ls levels innermost breaks loops h) kept (tree.Then (tree.Labelled body (next_label (levels + 1))) behind) kept_valid
                ((next_is_free (levels + 1) le, h.new_next (levels + 1) (omega arith) le, body_valid), behind_valid),
          ),
          tt,
        ),
      ),
      tt,
    )

  -- ---- the annotations of loops

  -- the variant is kept where the registers are typed that its code takes, and compared after them
  kept_valid : (ls : Labels) (outside : (i : ℕ) → has_label ls (tried_label i) ≡ false) (s : Sight) (r : RegisterTable) (v : See r s) (annots : List Annotation) → AssertsWritable plan s annots → AreRangedClauses annots → AreNumbered annots
      → (rs : Types) (o : Option (Annotation × LogicTerm)) → variant annots ≡ o → Begins (behind_variant p r.bound plan rs o) ts → Are ls (variant_kept p r.bound plan rs o)
  kept_valid ls outside s r v annots w c n rs None e b = tt
  kept_valid ls outside s r v annots w c n rs (Some x) e b =
      let knows = subst (Knows p ts r.bound) (sym w.here) v.knows in
      let is = is_variant p plan (count_of_globals p) ts w.view r.bound annots x e c w.typed (λ x i. kept_registers ts plan planned x (w.planned x i)) n in
      wanted_valid (count_of_globals p) gs ts (result_of result) ls x.0 x.1 (variant_value p r.bound plan rs x) is.numbered
      (value_valid p ts r.bound plan w.view knows w.alone w.unbound many gs (result_of result) ls outside rs x.1 is.term is.few is.integer is.typed is.kept is.ranged b)

  compared_is_valid : (ls : Labels) (outside : (i : ℕ) → has_label ls (tried_label i) ≡ false) (s : Sight) (r after : RegisterTable) (v : See r s) (u : See after s) (annots : List Annotation) → AssertsWritable plan s annots
      → AreRangedClauses annots → AreNumbered annots → (rs js : Types) (o : Option (Annotation × LogicTerm)) → variant annots ≡ o → Begins (behind_variant p r.bound plan rs o) ts → Begins (behind_variant p after.bound plan js o) ts
      → Are ls (variant_compared p r.bound after.bound plan rs js o)
  compared_is_valid ls outside s r after v u annots w c n rs js None e b d = tt
  compared_is_valid ls outside s r after v u annots w c n rs js (Some x) e b d =
      let before_knows = subst (Knows p ts r.bound) (sym w.here) v.knows in
      let after_knows = subst (Knows p ts after.bound) (sym w.here) u.knows in
      let first = is_variant p plan (count_of_globals p) ts w.view r.bound annots x e c w.typed (λ x i. kept_registers ts plan planned x (w.planned x i)) n in
      let is = is_variant p plan (count_of_globals p) ts w.view after.bound annots x e c w.typed (λ x i. kept_registers ts plan planned x (w.planned x i)) n in
      let old = value_valid p ts r.bound plan w.view before_knows w.alone w.unbound many gs (result_of result) ls outside rs x.1 first.term first.few first.integer first.typed first.kept first.ranged b in
      compared_valid (count_of_globals p) gs ts (result_of result) ls x.0 x.1 (variant_value p r.bound plan rs x).value (variant_value p after.bound plan js x) is.numbered old.value_type
      (value_valid p ts after.bound plan w.view after_knows w.alone w.unbound many gs (result_of result) ls outside js x.1 is.term is.few is.integer is.typed is.kept is.ranged d)

  -- the turns of a `while` or a `for`
  module _ (ls : Labels) (levels innermost : ℕ) (breaks loops : Bool) (h : AreAround out ls levels innermost breaks loops) (s : Sight) (annots : List Annotation) (w : AssertsWritable plan s annots) (c : AreRangedClauses annots)
      (n : AreNumbered annots) where
    abbrev around_test : Labels
    around_test = ended out ls levels innermost breaks loops h

    outside_tries : (i : ℕ) → has_label around_test (tried_label i) ≡ false
    outside_tries = h.no_tried

    turns_valid : (r after : RegisterTable) (v : See r s) (u : See after s) (e step : Option Expression) (body : MonStatements) → IsNumber (levels + 1) → WhereAny (IsFull p.structs) e → WhereAny (IsCondition s) e → Any ValueHasLetters e
        → WhereAny (IsFull p.structs) step → WhereAny (WellTyped s) step → Any ActHasLetters step → Within (before_body p plan annots e r) → Within (after_turn p plan annots step after)
        → Are (in_body out ls levels innermost breaks loops h) body → Are ls (turns_of p plan annots (levels + 1) r after e step body)
    turns_valid r after v u e step body le ef eq el sf sq sl b d body_valid =
        let tested = after_invariants p plan annots r in
        let rs = behind_invariants p r.bound plan r.kinds annots ++ any_temporaries (takes p) e in
        let js = after.kinds ++ any_temporaries (act_takes p) step in
        let tests = test_if_any p r.bound tested.kinds (levels + 1) e in
        let act_code = act_if_any p after.bound after.kinds step in
        let knows = subst (Knows p ts r.bound) (sym w.here) v.knows in
        let with_condition : Begins rs ts = begins_then rs (before_body p plan annots e r).kinds ts (condition_first p plan annots e r) b in
        let with_invariants : Begins tested.kinds ts = begins_then tested.kinds (before_body p plan annots e r).kinds ts (invariants_first p plan annots e r) b in
        let with_step : Begins js ts = begins_then js (after_turn p plan annots step after).kinds ts (step_first p plan annots step after) d in
        loop_valid ls levels innermost breaks loops h (front_of p plan annots (levels + 1) r e) (kept_of p plan annots r e) body (before act_code (compared_of p plan annots r e after step)) le
        (no_step_before (invariants_code p r.bound plan r.kinds annots) tests (no_step_invariants p r.bound plan r.kinds annots) (no_step_test_if_any p r.bound tested.kinds (levels + 1) e))
        (no_step_kept p r.bound plan rs (variant annots))
        (no_step_before act_code (compared_of p plan annots r e after step) (no_step_act_if_any p after.bound after.kinds step) (no_step_compared p r.bound after.bound plan rs js (variant annots)))
        (and_then around_test (invariants_code p r.bound plan r.kinds annots) tests
        (invariants_valid p ts r.bound plan w.view knows w.alone w.unbound many gs (result_of result) around_test outside_tries r.kinds annots c w.typed (λ x i. kept_registers ts plan planned x (w.planned x i)) n with_invariants)
        (test_if_any_at s tested v around_test (levels + 1) e (own_end out ls levels innermost breaks loops h) ef eq el with_condition))
        (kept_valid around_test outside_tries s r v annots w c n rs (variant annots) refl b)
        body_valid
        (and_then around_test act_code (compared_of p plan annots r e after step) (effect_if_any_at s after u around_test step sf sq sl with_step)
        (compared_is_valid around_test outside_tries s r after v u annots w c n rs js (variant annots) refl b d))

  -- ---- what stands in which variables' lives

  points_with : (spot : Spot) (r : RegisterTable) (ds : List Declaration) → Within (entered ds r) → Points ts out spot → Points ts out (with_variables (next_register r) ds spot)
  points_with spot r ds b k = record { inside = point_born ts (next_register r) ds spot.inside (entered_from ts ds r b) k.inside; between = k.between; outside = k.outside; result_is = k.result_is }

  points_living : (spot : Spot) → Points ts out spot → AllPoint ts (target.all_live spot)
  points_living spot k = point_both ts spot.inside (spot.between ++ spot.outside) k.inside (point_both ts spot.between spot.outside k.between k.outside)

  points_loop : (spot : Spot) → Points ts out spot → Points ts out (target.in_loop spot)
  points_loop spot k = record { inside = tt; between = tt; outside = points_living spot k; result_is = k.result_is }

  jump_valid : (live : List ℕ) (ls : Labels) (l : List ℕ) → AllPoint ts live → has_label ls l ≡ true → Are ls (before (deaths live) (one (tree.Goto l)))
  jump_valid live ls l point among = and_then ls (deaths live) (one (tree.Goto l)) (deaths_valid (count_of_globals p) gs ts (result_of result) ls live point) (among, tt)

  -- a register that holds the result of a function that isn't void
  returns_register : (r : ℕ) (t : PlainType) → IsScalar t → slice_get ts r ≡ Some (value_type t) → ReturnsResult (count_of_globals p) ts (result_of t) (Some (tree.Register r))
  returns_register r t h points =
      let e : IsExpression (count_of_globals p) ts (tree.Register r) (value_type t) = record { typed = points; within = omega arith } in
      subst (λ t. ReturnsResult (count_of_globals p) ts t (Some (tree.Register r))) (sym (result_scalar t h)) e

  -- the way out, where this is given
  way_out_valid : (spot : Spot) (ls : Labels) (e : Option tree.MonExpression) → Points ts out spot → ((r : ℕ) → out ≡ Some r → has_label ls leave_label ≡ true) → ReturnsResult (count_of_globals p) ts (result_of result) e
      → Are ls (leaving spot.result (target.all_live spot) e)
  way_out_valid spot ls e k among h =
      let live = target.all_live spot in
      and_then ls (deaths live) (one (way_out spot.result e)) (deaths_valid (count_of_globals p) gs ts (result_of result) ls live (points_living spot k)) (by spot.result k.result_is, tt)
    where
      by : (o : Option ℕ) → o ≡ out → IsStatement (count_of_globals p) gs ts (result_of result) ls (way_out o e)
      by None same = h
      by (Some r) same = among r (sym same)

  -- the register into which a value goes
  given_valid : (spot : Spot) (own : ℕ) → Points ts out spot → slice_get ts own ≡ Some (value_type result) → slice_get ts (given_register spot.result own) ≡ Some (value_type result)
  given_valid spot own k h = by spot.result k.result_is
    where
      by : (o : Option ℕ) → o ≡ out → slice_get ts (given_register o own) ≡ Some (value_type result)
      by None same = h
      by (Some r) same = given_there r (sym same)

  returned_valid : (spot : Spot) (s : Sight) (r : RegisterTable) (v : See r s) (ls : Labels) (e : Option Expression) → Points ts out spot → ((r : ℕ) → out ≡ Some r → has_label ls leave_label ≡ true) → WhereAny (IsFull p.structs) e
      → Returned s result e → Any ValueHasLetters e → Begins (r.kinds ++ any_temporaries (returned_temporaries p) e) ts → Are ls (returned p plan spot r e)
  returned_valid spot s r v ls None k among f q l b = way_out_valid spot ls None k among (subst (λ t. ReturnsResult (count_of_globals p) ts (result_of t) None) (sym q) tt)
  returned_valid spot s r v ls (Some e) k among f q l b =
      let live = target.all_live spot in
      let te = takes p e in
      let own = length (r.kinds ++ te) in
      let last = given_register spot.result own in
      let x = full_valid p gs ts (result_of result) r.bound s v.knows (calls s v.names_are v.knows.texts_are v.functions_are) ls e r.kinds (subst IsScalar (sym q.ctype) q.scalar) q.typed f.types l f.small.light
      (begins_left r.kinds te (value_type (type_of e) ∷ []) ts b) in
      let mine : slice_get ts own ≡ Some (value_type (type_of e)) = register_at (r.kinds ++ te) ts (value_type (type_of e)) (begins_right r.kinds te (value_type (type_of e) ∷ []) ts b) in
      let there : slice_get ts last ≡ Some (value_type result) = given_valid spot own k (mine ∙ ap (λ t. Some (value_type t)) q.ctype) in
      let given : slice_get ts last ≡ Some (value_type (type_of e)) = there ∙ ap (λ t. Some (value_type t)) (sym q.ctype) in
      let leaves = leaving spot.result live (Some (tree.Register last)) in
      and_then ls (prepare p r.bound r.kinds e) (before (set last (full.result p r.bound r.kinds e)) leaves) x.setup
      (and_then ls (set last (full.result p r.bound r.kinds e)) leaves ((value_type (type_of e), given, x.value), tt)
      (way_out_valid spot ls (Some (tree.Register last)) k among (returns_register last result q.scalar there)))

  first_valid : (first : ForFirst) (s : Sight) (r : RegisterTable) (v : See r s) (around : Around) (spot : Spot) (ls : Labels) → Have r (declared_first first) → AreOwn (declared_first first) → FirstFormed p.structs first
      → FirstTyped s around first → FirstHasNumbers first
      → Within (after_first p plan first r) → Are ls (first_part p plan spot r first)
  first_valid NoFirst s r v around spot ls h own f q l b = tt
  first_valid (First (Run (Eval at e))) s r v around spot ls h own f q l b = effect_at s r v ls e f q l b
  first_valid (First (Declare ds)) s r v around spot ls h own f q l b = initials_valid ds s r.bound v ls r.kinds h own f q l b
  first_valid (First (Specify at t)) s r v around spot ls h own f q l b = tt
  first_valid _ s r v around spot ls h own f q l b = absurd f

  sees_first : (first : ForFirst) (s : Sight) (r : RegisterTable) (v : See r s) (around : Around) → Have r (declared_first first) → AreOwn (declared_first first)
      → FirstFormed p.structs first → FirstTyped s around first → See r (behind_first s first)
  sees_first NoFirst s r v around h own f q = v
  sees_first (First (Run a)) s r v around h own f q = v
  sees_first (First (Specify at t)) s r v around h own f q = v
  sees_first (First (Declare ds)) s r v around h own f q = sees_behind p ts functions r.bound s ds own h v
  sees_first (First (Asserts annots)) s r v around h own f q = v

  -- ---- `switch`

  points_switch : (spot : Spot) → Points ts out spot → Points ts out (target.in_switch spot)
  points_switch spot k = record { inside = tt; between = point_both ts spot.inside spot.between k.inside k.between; outside = k.outside; result_is = k.result_is }

  -- what is behind the word, in a register
  pub record IsSwitchValue (ls : Labels) (r : RegisterTable) (e : Expression) : Type 0 where
    pub setup : Are ls (prepare p r.bound r.kinds e)
    pub set : Are ls (set (length (r.kinds ++ takes p e)) (full.result p r.bound r.kinds e))
    pub register : slice_get ts (length (r.kinds ++ takes p e)) ≡ Some (value_type (type_of e))

  switch_value_valid : (s : Sight) (r : RegisterTable) (v : See r s) (ls : Labels) (e : Expression) (k : CInt) → IsFull p.structs e → WellTyped s e → type_of e ≡ Int k → ValueHasLetters e → Begins (r.kinds ++ returned_temporaries p e) ts
      → IsSwitchValue ls r e
  switch_value_valid s r v ls e k f q type l b =
      let te = takes p e in
      let t = value_type (type_of e) in
      let scalar : IsScalar (type_of e) = record { scalar = IntegerType k; is = ap scalar_of type } in
      let x = full_valid p gs ts (result_of result) r.bound s v.knows (calls s v.names_are v.knows.texts_are v.functions_are) ls e r.kinds scalar q f.types l f.small.light (begins_left r.kinds te (t ∷ []) ts b) in
      let register : slice_get ts (length (r.kinds ++ te)) ≡ Some t = register_at (r.kinds ++ te) ts t (begins_right r.kinds te (t ∷ []) ts b) in
      record { setup = x.setup; set = ((t, register, x.value), tt); register = register }

  index_small : (i : ℕ) (cs : Cases) → CasesHaveNumbers i cs → i < 2 ^ 63
  index_small i NoCase l = l
  index_small i (AnotherCase at v body rest) l = let small = index_small (suc i) rest l.1 in omega (arith, small)

  default_small : (i : ℕ) (cs : Cases) → CasesHaveNumbers i cs → i + default_of cs < 2 ^ 63
  default_small i NoCase l = omega (arith, l)
  default_small i (AnotherCase at None body rest) l = let small = index_small (suc i) rest l.1 in omega (arith, small)
  default_small i (AnotherCase at (Some e) body rest) l = let small = default_small (suc i) rest l.1 in omega (arith, small)

  index_valid : (i : ℕ) → i < 2 ^ 63 + 16 → IsExpression (count_of_globals p) ts (tree.Constant U64 (pos i)) U64
  index_valid i small = record { typed = (refl, index_constant i small); within = omega arith }

  where_valid : (ls : Labels) (j : ℕ) → slice_get ts j ≡ Some U64 → (i : ℕ) → i < 2 ^ 63 + 16 → (a : MonStatements) → Are ls a → IsStatement (count_of_globals p) gs ts (result_of result) ls (where_reached j i a)
  where_valid ls j has i small a h = (record { typed = (refl, refl, has, (refl, index_constant i small)); within = omega arith }, h, tt)

  -- values of a promoted type are compared in it
  compared_in : (k : CInt) → has_operator Eq (register_type (promoted k)) ≡ true
  compared_in c.I8 = refl
  compared_in c.U8 = refl
  compared_in c.I16 = refl
  compared_in c.U16 = refl
  compared_in c.I32 = refl
  compared_in c.U32 = refl
  compared_in c.I64 = refl
  compared_in c.U64 = refl

  same_second : (k : CInt) → second_type Eq (register_type k) ≡ register_type k
  same_second c.I8 = refl
  same_second c.U8 = refl
  same_second c.I16 = refl
  same_second c.U16 = refl
  same_second c.I32 = refl
  same_second c.U32 = refl
  same_second c.I64 = refl
  same_second c.U64 = refl

  module _ (levels v j : ℕ) (k : CInt) (value_there : slice_get ts v ≡ Some (register_type (promoted k))) (index_there : slice_get ts j ≡ Some U64) where
    found_valid : (ls : Labels) (i : ℕ) → i < 2 ^ 63 → has_label ls (case_label levels) ≡ true → Are ls (before (set j (tree.Constant U64 (pos i))) (one (tree.Goto (case_label levels))))
    found_valid ls i small among = ((U64, index_there, index_valid i (omega (arith, small))), (among, tt))

    test_case_valid : (ls : Labels) (i : ℕ) → i < 2 ^ 63 → has_label ls (case_label levels) ≡ true → (x : Option Expression) → WhereAny (IsCaseValue (promoted k)) x → Are ls (test_case levels (register_type (promoted k)) v j i x)
    test_case_valid ls i small among (Some (Node at u (Number z (Some l)))) q =
        let t = register_type (promoted k) in
        let constant : has_constant t z ≡ true = small_constant (promoted k) z q.2 in (
          (
            record { typed = (refl, compared_in k, value_there, (sym (same_second (promoted k)), constant)); within = omega arith },
            found_valid ls i small among,
            tt,
          ),
          tt,
        )
    test_case_valid ls i small among (Some (Node at u (Number z None))) q = absurd q
    test_case_valid ls i small among _ q = tt

    tests_valid : (ls : Labels) (i : ℕ) (cs : Cases) (s : Sight) (around : Around) → has_label ls (case_label levels) ≡ true → CasesTyped s around (promoted k) cs → CasesHaveNumbers i cs
        → Are ls (tests_of_cases levels (register_type (promoted k)) v j i cs)
    tests_valid ls i NoCase s around among q l = tt
    tests_valid ls i (AnotherCase at x body rest) s around among q l =
        let small = index_small (suc i) rest l.1 in
        and_then ls (test_case levels (register_type (promoted k)) v j i x) (tests_of_cases levels (register_type (promoted k)) v j (suc i) rest)
        (test_case_valid ls i (omega (arith, small)) among x q.0) (tests_valid ls (suc i) rest s around among q.2 l.1)

    search_valid : (cs : Cases) (s : Sight) (around : Around) (ls : Labels) → IsNumber levels → has_label ls (case_label levels) ≡ false → CasesTyped s around (promoted k) cs → CasesHaveNumbers 0 cs
        → Are ls (search levels (register_type (promoted k)) v j cs)
    search_valid cs s around ls le fresh q l =
        let small = default_small 0 cs l in
        let among : has_label (case_label levels ∷ ls) (case_label levels) ≡ true = ap (λ b. b || has_label ls (case_label levels)) (same_bytes (case_label levels)) in
        ((U64, index_there, index_valid (default_of cs) (omega (arith, small))), ((case_is_free levels le, fresh, tests_valid (case_label levels ∷ ls) 0 cs s around among q l), tt))

  -- ---- all statements

  -- the declarations of a block are of limited sizes
  pub items_small : (is : BlockItems) (s : Sight) (around : Around) → s.structs ≡ p.structs → ItemsTyped s around is → AreSmall p.structs (declared_in is)
  items_small NoItem s around e q = tt
  items_small (Then (Declare ds) rest) s around e q = small_both ds (declared_in rest) (declared_small s ds e q.0) (items_small rest (with_objects s ds) around (structs_behind s ds ∙ e) q.1)
  items_small (Then (Specify at t) rest) s around e q = items_small rest s around e q.1
  items_small (Then (Run a) rest) s around e q = items_small rest s around e q.1
  items_small (Then (Asserts annots) rest) s around e q = items_small rest s around e q.1

  first_small : (first : ForFirst) (s : Sight) (around : Around) → s.structs ≡ p.structs → FirstTyped s around first → AreSmall p.structs (declared_first first)
  first_small NoFirst s around e q = tt
  first_small (First (Declare ds)) s around e q = declared_small s ds e q
  first_small (First (Specify at t)) s around e q = tt
  first_small (First (Run a)) s around e q = tt
  first_small (First (Asserts annots)) s around e q = tt

  mutual
    statement_valid : (a : Statement) (s : Sight) (around : Around) (ls : Labels) (spot : Spot) (k : Points ts out spot) (r : RegisterTable) (v : See r s) → around.result ≡ result
        → AreAround out ls spot.levels spot.innermost around.breaks around.loops → StatementFormed p.structs a
        → StatementTyped s around a → Throughout (LabelKeepable plan) (AssertsWritable plan) s a → StatementOwn a → HasNumbers a → spot.levels + form.depth a ≤ 1000 → Within (after_statement p plan a r) → Are ls (statement p plan spot r a)
    statement_valid (Empty at) s around ls spot k r v same o f q m w l d b = tt
    statement_valid (Eval at e) s around ls spot k r v same o f q m w l d b = effect_at s r v ls e f q l b
    statement_valid (Block at body) s around ls spot k r v same o f q m w l d b =
        let own = declared_in body in
        let inside = entered own r in
        let born = begins_then inside.kinds (after_items p plan body inside).kinds ts (items_begin p plan body inside) b in
        let z2 = sees_later p ts functions r inside s (λ x g h. entered_keep ts x g own r born h) v in
        alive_valid (count_of_globals p) gs ts (result_of result) ls p (next_register r) own (items p plan (with_variables (next_register r) own spot) inside body) (items_small body (inner s) around v.knows.structs_are q)
        (entered_from ts own r born)
        (items_valid body (inner s) around ls (with_variables (next_register r) own spot) (points_with spot r own born k) inside (sees_inner p ts functions inside.bound s z2) same o (entered_have ts own r born) f q m w l (omega (arith, d)) b)
    statement_valid (If at e x y) s around ls spot k r v same o f q m w l d b =
        let z = with_kinds (takes p e) r in
        let z2 = after_statement p plan x z in
        let second = begins_then z2.kinds (after_else p plan y z2).kinds ts (else_begins p plan y z2) b in
        let first = begins_then z.kinds z2.kinds ts (statement_begins p plan x z) second in
        let left = le-max_left (form.depth x) (form.depth_of_else y) in
        let right = le-max_right (form.depth x) (form.depth_of_else y) in
        let known = calls s v.names_are v.knows.texts_are v.functions_are in
        and_then ls (prepare p r.bound r.kinds e) (one (tree.If (condition_result p r.bound r.kinds e) (statement p plan spot z x) (else_part p plan spot z2 y)))
        (prepare_valid p gs ts (result_of result) r.bound s v.knows known ls e q.0.typed f.0.types l.0 f.0.small.light r.kinds (HasValue q.0.scalar) first) (
          (
            condition_valid p gs ts (result_of result) r.bound s v.knows known ls e r.kinds q.0.scalar q.0.typed f.0.types l.0 f.0.small.light first,
            statement_valid x s around ls spot k z v same o f.1 q.1 m.0 w.0 l.1 (omega (arith, d, left)) second,
            else_valid y s around ls spot k z2 (sees_later p ts functions z z2 s (statement_keeps ts p plan x z second) v) same o f.2 q.2 m.1 w.1 l.2 (omega (arith, d, right)) b,
          ),
          tt,
        )
    statement_valid (While at annots e a) s around ls spot k r v same o f q m w l d b =
        let z = before_body p plan annots (Some e) r in
        let z2 = after_statement p plan a z in
        let last = begins_then z2.kinds (after_turn p plan annots None z2).kinds ts (turn_begins p plan annots None z2) b in
        let first = begins_then z.kinds z2.kinds ts (statement_begins p plan a z) last in
        turns_valid ls spot.levels spot.innermost around.breaks around.loops o s annots m.0 f.0 l.2 r z2 v (sees_later p ts functions z z2 s (statement_keeps ts p plan a z last) v) (Some e) None
        (statement p plan (target.in_loop spot) z a) (omega (arith, d)) f.1 q.0 l.0 tt tt tt first b
        (statement_valid a s (in_loop around) (in_body out ls spot.levels spot.innermost around.breaks around.loops o)
        (target.in_loop spot) (points_loop spot k) z v same (around_body out ls spot.levels spot.innermost around.breaks around.loops o) f.2 q.1 m.1 w l.1 (omega (arith, d)) last)
    statement_valid (Do at a e) s around ls spot k r v same o f q m w l d b =
        let loops = spot.levels + 1 in
        let z = after_statement p plan a r in
        let first = begins_front z.kinds (takes p e) ts b in
        loop_valid ls spot.levels spot.innermost around.breaks around.loops o NoStatement NoStatement (statement p plan (target.in_loop spot) r a) (test p z.bound z.kinds loops e) (omega (arith, d)) refl refl
        (no_step_test p z.bound z.kinds loops e) tt tt
        (statement_valid a s (in_loop around) (in_body out ls spot.levels spot.innermost around.breaks around.loops o)
        (target.in_loop spot) (points_loop spot k) r v same (around_body out ls spot.levels spot.innermost around.breaks around.loops o) f.0 q.0 m w l.0 (omega (arith, d)) first)
        (test_at s z (sees_later p ts functions r z s (statement_keeps ts p plan a r first) v) (ended out ls spot.levels spot.innermost around.breaks around.loops o) loops e
        (own_end out ls spot.levels spot.innermost around.breaks around.loops o) f.1 q.1 l.1 b)
    statement_valid (For at annots first e step a) s around ls spot k r v same o f q m w l d b =
        let own = declared_first first in
        let inside = with_variables (next_register r) own spot in
        let y = entered own r in
        let z = after_first p plan first y in
        let u = before_body p plan annots e z in
        let z2 = after_statement p plan a u in
        let fourth = begins_then z2.kinds (after_turn p plan annots step z2).kinds ts (turn_begins p plan annots step z2) b in
        let third = begins_then u.kinds z2.kinds ts (statement_begins p plan a u) fourth in
        let second = begins_then z.kinds u.kinds ts (body_begins p plan annots e z) third in
        let born = begins_then y.kinds z.kinds ts (first_begins p plan first y) second in
        let t = inner s in
        let have = entered_have ts own r born in
        let in_born = sees_inner p ts functions y.bound s (sees_later p ts functions r y s (λ x g h. entered_keep ts x g own r born h) v) in
        let after = behind_first t first in
        let in_turns = sees_later p ts functions y z after (first_keeps ts p plan first y second) (sees_first first t y in_born around have w.0 f.1 q.0) in
        let behind = sees_later p ts functions u z2 after (statement_keeps ts p plan a u fourth) in_turns in
        let points = points_with spot r own born k in
        let front = first_part p plan inside y first in
        let body = statement p plan (target.in_loop inside) u a in
        let whole = turns_of p plan annots (spot.levels + 1) z z2 e step body in
        alive_valid (count_of_globals p) gs ts (result_of result) ls p (next_register r) own (before front whole) (first_small first t around v.knows.structs_are q.0) (entered_from ts own r born)
        (and_then ls front whole
        (first_valid first t y in_born around inside ls have w.0 f.1 q.0 l.0 second)
        (turns_valid ls spot.levels spot.innermost around.breaks around.loops o after annots m.0 f.0 l.4 z z2 in_turns behind e step body (omega (arith, d)) f.2 q.1 l.1 f.3 q.2 l.3 third b
        (statement_valid a after (in_loop around) (in_body out ls spot.levels spot.innermost around.breaks around.loops o)
        (target.in_loop inside) (points_loop inside points) u in_turns same (around_body out ls spot.levels spot.innermost around.breaks around.loops o) f.4 q.3 m.1 w.1 l.2 (omega (arith, d)) fourth)))
    statement_valid (Break at) s around ls spot k r v same o f q m w l d b = jump_valid spot.inside ls (end_label spot.levels) k.inside (o.end_among q)
    statement_valid (Continue at) s around ls spot k r v same o f q m w l d b =
        jump_valid (spot.inside ++ spot.between) ls (next_label spot.innermost) (point_both ts spot.inside spot.between k.inside k.between) (o.next_among q)
    statement_valid (Return at e) s around ls spot k r v same o f q m w l d b = returned_valid spot s r v ls e k o.out_among f (subst (λ t. Returned s t e) same q) l b
    statement_valid (Labelled at x a) s around ls spot k r v same o f q m w l d b =
        let later = passed_label p plan (Some x) r in
        let first = begins_then later.kinds (after_statement p plan a later).kinds ts (statement_begins p plan a later) b in
        let fine = are_keepable p r.bound (count_of_globals p) ts (λ u. u ≡ s) (λ u e y t h. pointer_has p ts r.bound s v.knows y t (subst (λ u. Denotes u y t) e h)) (Some x) plan m.0 planned in
        and_then ls (snapshot p r.bound (Some x) r.kinds plan) (statement p plan spot later a) (snapshots_are_valid p r.bound (count_of_globals p) gs ts (result_of result) ls (Some x) plan r.kinds fine many (λ i le is. o.no_tried i) first).statements
        (statement_valid a s around ls spot k later v same o f q m.1 w l (omega (arith, d)) b)
    statement_valid (Switch at e cases) s around ls spot k r v same o f q m w l d b =
        let levels = spot.levels + 1 in
        let taken = returned_temporaries p e in
        let z = with_kinds (switch_temporaries p e) r in
        let first = begins_then z.kinds (after_cases p plan cases z).kinds ts (cases_begin p plan cases z) b in
        let chosen : slice_get ts (length (r.kinds ++ taken)) ≡ Some U64 = register_at (r.kinds ++ taken) ts U64 (begins_right r.kinds taken (U64 ∷ []) ts first) in
        let is = (switch_value_valid s r v ls e (promoted q.0) f.0 q.1 q.2 l.0 (begins_left r.kinds taken (U64 ∷ []) ts first)) in
        let search_code = search levels (value_type (type_of e)) (length (r.kinds ++ takes p e)) (length (r.kinds ++ taken)) cases in
        let items_code = blocks_of_cases p plan (target.in_switch spot) z (length (r.kinds ++ taken)) 0 0 cases in
        and_then ls (prepare p r.bound r.kinds e) (before (set (length (r.kinds ++ takes p e)) (full.result p r.bound r.kinds e)) (before search_code (one (tree.Labelled items_code (end_label levels))))) is.setup
        (and_then ls (set (length (r.kinds ++ takes p e)) (full.result p r.bound r.kinds e)) (before search_code (one (tree.Labelled items_code (end_label levels)))) is.set
        (and_then ls search_code (one (tree.Labelled items_code (end_label levels)))
        (subst (λ t. Are ls (search levels (value_type t) (length (r.kinds ++ takes p e)) (length (r.kinds ++ taken)) cases)) (sym q.2)
        (search_valid levels (length (r.kinds ++ takes p e)) (length (r.kinds ++ taken)) q.0 (subst (λ t. slice_get ts (length (r.kinds ++ takes p e)) ≡ Some (value_type t)) q.2 is.register) chosen
        cases s (in_switch around) ls (omega (arith, d)) (o.no_case levels) q.3 l.1)) (
          (
            end_is_free levels (omega (arith, d)),
            o.new_end levels (omega arith) (omega (arith, d)),
            blocks_valid cases s (in_switch around) (promoted q.0) (ended out ls spot.levels spot.innermost around.breaks around.loops o) (target.in_switch spot) (points_switch spot k) (length (r.kinds ++ taken)) chosen 0 0 z v same
                (around_items out ls spot.levels spot.innermost around.breaks around.loops o) f.1 q.3 m w l.1 (omega (arith, d)) b,
          ),
          tt,
        )))

    -- the items of the next cases, and those of all others
    next_valid : (cs : Cases) (s : Sight) (around : Around) (c : CInt) (ls : Labels) (spot : Spot) (k : Points ts out spot) (j : ℕ) (has : slice_get ts j ≡ Some U64) (i n : ℕ) (r : RegisterTable) (v : See r s) → around.result ≡ result
        → AreAround out ls spot.levels spot.innermost around.breaks around.loops → CasesFormed p.structs cs → CasesTyped s around c cs
        → ThroughoutCases (LabelKeepable plan) (AssertsWritable plan) s cs → CasesOwn cs → CasesHaveNumbers i cs → spot.levels + form.depth_of_cases cs ≤ 1000 → Within (after_cases p plan cs r) → Are ls (next_cases p plan spot r j i n cs)
    next_valid NoCase s around c ls spot k j has i n r v same o f q m w l d b = tt
    next_valid (AnotherCase at x body rest) s around c ls spot k j has i zero r v same o f q m w l d b = tt
    next_valid (AnotherCase at x body rest) s around c ls spot k j has i (suc n) r v same o f q m w l d b =
        let z = after_items p plan body r in
        let first = begins_then z.kinds (after_cases p plan rest z).kinds ts (cases_begin p plan rest z) b in
        let left = le-max_left (form.depth_of_items body) (form.depth_of_cases rest) in
        let right = le-max_right (form.depth_of_items body) (form.depth_of_cases rest) in
        let small = index_small (suc i) rest l.1 in (
          where_valid ls j has i (omega (arith, small)) (items p plan spot r body) (items_valid body s around ls spot k r v same o (subst (HavePointers ts r.bound) (sym f.0) tt) f.1 q.1 m.0 w.0 l.0 (omega (arith, d, left)) first),
          next_valid rest s around c ls spot k j has (suc i) n z (sees_later p ts functions r z s (items_keep ts p plan body r first) v) same o f.2 q.2 m.1 w.1 l.1 (omega (arith, d, right)) b,
        )

    blocks_valid : (cs : Cases) (s : Sight) (around : Around) (c : CInt) (ls : Labels) (spot : Spot) (k : Points ts out spot) (j : ℕ) (has : slice_get ts j ≡ Some U64) (i n : ℕ) (r : RegisterTable) (v : See r s) → around.result ≡ result
        → AreAround out ls spot.levels spot.innermost around.breaks around.loops → CasesFormed p.structs cs → CasesTyped s around c cs
        → ThroughoutCases (LabelKeepable plan) (AssertsWritable plan) s cs → CasesOwn cs → CasesHaveNumbers i cs → spot.levels + form.depth_of_cases cs ≤ 1000 → Within (after_cases p plan cs r) → Are ls (blocks_of_cases p plan spot r j i n cs)
    blocks_valid NoCase s around c ls spot k j has i n r v same o f q m w l d b = tt
    blocks_valid (AnotherCase at x body rest) s around c ls spot k j has i zero r v same o f q m w l d b =
        let z = after_items p plan body r in
        let first = begins_then z.kinds (after_cases p plan rest z).kinds ts (cases_begin p plan rest z) b in
        let later = sees_later p ts functions r z s (items_keep ts p plan body r first) v in
        let left = le-max_left (form.depth_of_items body) (form.depth_of_cases rest) in
        let right = le-max_right (form.depth_of_items body) (form.depth_of_cases rest) in
        let small = index_small (suc i) rest l.1 in (
          where_valid ls j has (i + others_in_block) (omega (arith, small)) (tree.Then (where_reached j i (items p plan spot r body)) (next_cases p plan spot z j (suc i) others_in_block rest)) (
            where_valid ls j has i (omega (arith, small)) (items p plan spot r body) (items_valid body s around ls spot k r v same o (subst (HavePointers ts r.bound) (sym f.0) tt) f.1 q.1 m.0 w.0 l.0 (omega (arith, d, left)) first),
            next_valid rest s around c ls spot k j has (suc i) others_in_block z later same o f.2 q.2 m.1 w.1 l.1 (omega (arith, d, right)) b,
          ),
          blocks_valid rest s around c ls spot k j has (suc i) others_in_block z later same o f.2 q.2 m.1 w.1 l.1 (omega (arith, d, right)) b,
        )
    blocks_valid (AnotherCase at x body rest) s around c ls spot k j has i (suc n) r v same o f q m w l d b =
        let z = after_items p plan body r in
        let first = begins_then z.kinds (after_cases p plan rest z).kinds ts (cases_begin p plan rest z) b in
        let right = le-max_right (form.depth_of_items body) (form.depth_of_cases rest) in
        blocks_valid rest s around c ls spot k j has (suc i) n z (sees_later p ts functions r z s (items_keep ts p plan body r first) v) same o f.2 q.2 m.1 w.1 l.1 (omega (arith, d, right)) b

    else_valid : (y : ElsePart) (s : Sight) (around : Around) (ls : Labels) (spot : Spot) (k : Points ts out spot) (r : RegisterTable) (v : See r s) → around.result ≡ result
        → AreAround out ls spot.levels spot.innermost around.breaks around.loops → ElseFormed p.structs y → ElseTyped s around y
        → ThroughoutElse (LabelKeepable plan) (AssertsWritable plan) s y → ElseOwn y → ElseHasNumbers y → spot.levels + form.depth_of_else y ≤ 1000 → Within (after_else p plan y r) → Are ls (else_part p plan spot r y)
    else_valid NoElse s around ls spot k r v same o f q m w l d b = tt
    else_valid (Else a) s around ls spot k r v same o f q m w l d b = statement_valid a s around ls spot k r v same o f q m w l d b

    pub items_valid : (is : BlockItems) (s : Sight) (around : Around) (ls : Labels) (spot : Spot) (k : Points ts out spot) (r : RegisterTable) (v : See r s) → around.result ≡ result
        → AreAround out ls spot.levels spot.innermost around.breaks around.loops → Have r (declared_in is)
        → ItemsFormed p.structs is → ItemsTyped s around is → ThroughoutItems (LabelKeepable plan) (AssertsWritable plan) s is → ItemsOwn is → HaveNumbers is
        → spot.levels + form.depth_of_items is ≤ 1000 → Within (after_items p plan is r) → Are ls (items p plan spot r is)
    items_valid NoItem s around ls spot k r v same o h f q m w l d b = tt
    items_valid (Then (Declare ds) rest) s around ls spot k r v same o h f q m w l d b =
        let z = with_kinds (declaration_temporaries p ds) r in
        let first = begins_then z.kinds (after_items p plan rest z).kinds ts (items_begin p plan rest z) b in
        let own = pointers_front ts r.bound ds (declared_in rest) h in
        let right = le-max_right 0 (form.depth_of_items rest) in
        and_then ls (initialise_all p r.bound r.kinds ds) (items p plan spot z rest)
        (initials_valid ds s r.bound v ls r.kinds own w.0 f.0 q.0 l.0 first)
        (items_valid rest (with_objects s ds) around ls spot k z (sees_behind p ts functions r.bound s ds w.0 own v) same o (pointers_back ts r.bound ds (declared_in rest) h) f.1 q.1 m.1 w.1 l.1 (omega (arith, d, right)) b)
    items_valid (Then (Specify at t) rest) s around ls spot k r v same o h f q m w l d b =
        let right = le-max_right 0 (form.depth_of_items rest) in items_valid rest s around ls spot k r v same o h f.1 q.1 m.1 w.1 l.1 (omega (arith, d, right)) b
    items_valid (Then (Run a) rest) s around ls spot k r v same o h f q m w l d b =
        let z = after_statement p plan a r in
        let first = begins_then z.kinds (after_items p plan rest z).kinds ts (items_begin p plan rest z) b in
        let keeps = statement_keeps ts p plan a r first in
        let left = le-max_left (form.depth a) (form.depth_of_items rest) in
        let right = le-max_right (form.depth a) (form.depth_of_items rest) in
        and_then ls (statement p plan spot r a) (items p plan spot z rest)
        (statement_valid a s around ls spot k r v same o f.0 q.0 m.0 w.0 l.0 (omega (arith, d, left)) first)
        (items_valid rest s around ls spot k z (sees_later p ts functions r z s keeps v) same o (pointers_kept ts r z (declared_in rest) keeps h) f.1 q.1 m.1 w.1 l.1 (omega (arith, d, right)) b)
    items_valid (Then (Asserts annots) rest) s around ls spot k r v same o h f q m w l d b =
        let z = after_item p plan (Asserts annots) r in
        let first = begins_then z.kinds (after_items p plan rest z).kinds ts (items_begin p plan rest z) b in
        let right = le-max_right 0 (form.depth_of_items rest) in
        let said = m.0 in
        let knows = subst (Knows p ts r.bound) (sym said.here) v.knows in
        and_then ls (assertions p r.bound plan [] r.kinds annots) (items p plan spot z rest)
        (assertions_valid p ts r.bound plan said.view knows said.alone said.unbound many gs (result_of result) ls o.no_tried r.kinds annots f.0 said.typed (λ x i. kept_registers ts plan planned x (said.planned x i)) l.0 first)
        (items_valid rest s around ls spot k z v same o h f.1 q.1 m.1 w.1 l.1 (omega (arith, d, right)) b)
