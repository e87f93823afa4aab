-- Statements: the target does what the source does.
use Rattle.std.proofs.Common.{◌≡◌, ℕ, zero, suc, ◌+◌, ◌<◌, ◌≤◌, true, List, [], ◌∷◌, ◌++◌, length, Option, Some, None, slice_get, slice_set, refl, sym, ap, ◌∙◌, subst, arith, append_assoc}
use Rattle.std.proofs.lemmas.List.{length-append}
use Rattle.c_syntax.specs.declared.place.Place.{Place}
use Rattle.c_syntax.specs.declared.types.CInt.{CInt}
use Rattle.c_syntax.specs.Ctypes.{Int}
use Rattle.c_syntax.specs.Expressions.{Expression, type_of}
use Rattle.c_syntax.specs.Statements.{Declaration, Statement, Empty, Eval, Block, If, While, Do, For, Break, Continue, Return, ElsePart, NoElse, Else, ForFirst, NoFirst, First, Declare, Specify, Run, Asserts, BlockItems, NoItem, Then}
use Rattle.c_syntax.specs.Statements.{Labelled, Switch, Cases, NoCase, AnotherCase}
use Rattle.c_syntax.specs.Logic.{Annotation, LogicTerm}
use Rattle.c_syntax.specs.Programs.{TranslationUnit}
use Rattle.c_syntax.specs.Layouts.{Scalar, IntegerType, scalar_of}
use Rattle.c_model.specs.Conversions.{promoted}
use Rattle.c_model.specs.Memory.{Value, kill_from}
use Rattle.c_model.specs.State.{State, Scope, Leaves, Returns, Stop, Evaluation, on_outcome, ◌>>◌, stop, births, mark, within, restored}
use Rattle.c_model.specs.State as state
use Rattle.c_model.specs.Meaning.{Tables, tables_of, eval_with, exec_with, cases_with, else_with, first_with, items_with, condition_with, effect_with, initialise_all, declared_in, declared_first, turns, turn_with}
use Rattle.c_model.specs.Meaning as source
use Rattle.c_model.specs.Predicates.{checks, invariants, variant}
use Rattle.c_model.specs.TermRanges.{TermRanged}
use Rattle.c_model.specs.ExpressionTyping.{Sight, inner, with_objects}
use Rattle.c_model.specs.StatementTyping.{Around, in_loop, in_switch, behind_first}
use Rattle.c_model.specs.TypedTrees.{WellTyped, IsCondition, WhereAny, Returned, StatementTyped, CasesTyped, ElseTyped, FirstTyped, ItemsTyped}
use Rattle.c_model.specs.Formed.{declared_within}
use Rattle.mon_syntax.specs.declared.tree.MonType.{MonType}
use Rattle.mon_syntax.specs.declared.tree.MonType.TheVariants.{U64}
use Rattle.mon_syntax.specs.Registers.{Bindings, RegisterTable, with_kinds, next_register}
use Rattle.mon_syntax.specs.Meaning.{Next, Goes, Done, then_do, at_next, with_value, exec_all}
use Rattle.mon_syntax.specs.Meaning as monitored
use Rattle.mon_syntax.specs.BlockMemory.{over_blocks}
use Rattle.mon_syntax.specs.LiveBlocks.{live_in}
use Rattle.mon_syntax.specs.Trees.{MonExpression, MonStatement, MonStatements, NoStatement}
use Rattle.mon_syntax.specs.Trees as tree
use Rattle.c_effects.specs.Letters.{Any, ValueHasLetters, ActHasLetters}
use Rattle.c_model.specs.EffectPlaces.{FirstPlaced, StatementPlaced, CasesPlaced, ElsePlaced, ItemsPlaced}
use Rattle.instrument.proofs.RangedTrees.{AreRangedAsserts, AreRangedClauses, nothing_declared}
use Rattle.instrument.specs.Limits.{HasNumbers, CasesHaveNumbers, ElseHasNumbers, FirstHasNumbers, HaveNumbers}
use Rattle.c_effects.specs.Expressions.{value_type, before, one, set}
use Rattle.c_effects.proofs.Sequences.{before_none}
use Rattle.annot_simulation.specs.Code.{assertions, valuation, width_of}
use Rattle.annot_simulation.specs.Code.{type_of as code_type}
use Rattle.annot_simulation.specs.Does.{TermFound}
use Rattle.annot_simulation.proofs.Asserted.{behind_grows}
use Rattle.annot_simulation.proofs.Exact.{is_number}
use Rattle.c_initialisers.specs.Translation.{declaration_temporaries}
use Rattle.c_initialisers.specs.Translation as initialisers
use Rattle.c_effects.specs.Effects.{any_temporaries}
use Rattle.c_effects.specs.Full.{act, act_takes, condition_result, prepare, result, takes}
use Rattle.track_scopes.specs.Blocks.{entered, deaths, with_born}
use Rattle.track_scopes.specs.Lives.{with_store}
use Rattle.instrument.specs.Translation.{Spot, passed_label, returned_temporaries, switch_temporaries, after_invariants, before_body, after_turn, after_statement, after_cases, after_else, after_first, after_item, after_items, with_variables}
use Rattle.instrument.specs.Translation.{search, others_in_block, statement}
use Rattle.instrument.specs.Translation.{front_of, kept_of, compared_of, turns_of}
use Rattle.instrument.specs.LoopClauses.{behind_variant, invariants_code, variant_kept, variant_compared}
use Rattle.instrument.specs.LoopClauses as variants
use Rattle.instrument.specs.Translation.{test, test_if_any, act_if_any, next_cases, blocks_of_cases, else_part, first_part, items, loop}
use Rattle.c_simulation.specs.Labels.{end_label, next_label, leave_label}
use Rattle.instrument.specs.Translation as target
use Rattle.annot_simulation.specs.Snapshots.{Ascend, snapshot}
use Rattle.instrument.proofs.Passages.{AnnotationsFound, KeptIn, CasesKept, ElseKept, ItemsKept, snapshot_grows, passage_follows}
use Rattle.c_simulation.specs.Keeping.{StandsBehind}
use Rattle.instrument.proofs.DeclarationCode.{next-entered}
use Rattle.c_simulation.specs.Standing.{Target, Setting, runs, Has, Keeps, Here, Beside}
use Rattle.track_scopes.proofs.Births.{births_enter}
use Rattle.track_scopes.proofs.Deaths.{deaths_end}
use Rattle.c_simulation.proofs.Results.{writes_none, one_is, before_is}
use Rattle.c_simulation.proofs.Registers.{get-set_same, same_all, same_set, longer, keeps_set, stays_same, stays_set}
use Rattle.c_simulation.specs.Reaching.{Reaches, Anything, Tested, Valued}
use Rattle.c_simulation.proofs.Following.{later_same, onward, passes_later, stays, follows_choice, follows_then}
use Rattle.c_simulation.proofs.Evaluating.{behind_setup, set_runs}
use Rattle.c_simulation.proofs.Reaching.{follows_before, follows_behind, reached_done, reached_follows, reached_here, test_runs}
use Rattle.c_simulation.specs.Following.{Passes, IsResult, IsResultOf, HoldsResult, left_by, Follows, Breaks, Continues, IsLeft}
use Rattle.instrument.proofs.Births.{names_of, with_numbers, pointed_point, pointed_append, all_apart, behind_births}
use Rattle.instrument.proofs.Blocks.{Meets, meets_after, meets_later, block_follows}
use Rattle.instrument.proofs.Loops as loops
use Rattle.instrument.proofs.Switches as switches
use Rattle.instrument.proofs.Declared.{AreBorn, CanDeclare, CasesCanDeclare, ElseCanDeclare, ItemsCanDeclare, AreAbsent, meets_behind, meets_behind_items, more_kinds, variant_grows, body_behind, turn_grows, statement_grows, cases_grow, else_grows}
use Rattle.instrument.proofs.Declared.{first_grows, items_grow}
use Rattle.c_simulation.proofs.Expressions.{handed_on}
use Rattle.c_simulation.specs.SameRegisters.{Same, Stays}
use Rattle.instrument.proofs.InitialisedVariables.{initials_reach}
use Rattle.instrument.proofs.Scenes.{Scene, scene_inner, scene_with_all, scene_behind_first}
use Rattle.interval_infer.specs.InSight.{AreFound}
use Rattle.interval_infer.proofs.Sights.{DeclarationsFound, found_with_all, declarations_found-append}
use Rattle.instrument.proofs.Sight.{scope_for, sees_found, sees_born, declared_born}
use Rattle.instrument.proofs.Evaluations.{act_reached, condition_reached, value_reached}
use Rattle.instrument.proofs.Asserts.{assertions_follow, invariants_follow, invariants_grow, valuation_grows, value_behind}
use Rattle.instrument.proofs.Variants.{variant_found, variant_ranged, kept_reaches, compared_reaches}
use Rattle.instrument.proofs.Own.{AllCanBeBorn, AreThere, are_there}

there_front : (p : TranslationUnit) (a b : List Declaration) → AreThere p (a ++ b) → AreThere p a
there_front p [] b h = tt
there_front p (d ∷ a) b h = (h.0, there_front p a b h.1)

there_back : (p : TranslationUnit) (a b : List Declaration) → AreThere p (a ++ b) → AreThere p b
there_back p [] b h = h
there_back p (d ∷ a) b h = there_back p a b h.1

-- ---- jumps: the blocks of the variables that are left die in front

module _ (w : Setting) (n : ℕ) (h : Here) (spot : Spot) (low : ℕ) (bound : Bindings) (living : List ℕ) (s : State) (regs : List Value) (t : Target)
    (m : Meets w h spot low bound living regs s t) where
  -- the target with these blocks dead
  abbrev dead : ℕ → Target
  dead base = with_store (kill_from base t.mem.store) t

  beside_dead : (base : ℕ) → Beside w (kill_from base s.store) s (dead base)
  beside_dead base = record { store_is = ap (kill_from base) m.beside.store_is; frames = m.beside.frames; steps = m.beside.steps; input = m.beside.input }

  live_is : live_in t.mem.store ≡ h.inner ++ (h.between ++ (h.outer ++ w.around))
  live_is = ap live_in m.beside.store_is ∙ m.standing.live

  -- those born inside what a `break` leaves
  left_dead : runs w n t (deaths spot.inside) regs ≡ Done (Next regs) (dead h.left) []
  left_dead =
      deaths_end spot.inside w.globals w.calls n h.left regs t h.inner (h.between ++ (h.outer ++ w.around)) live_is m.standing.since_left m.standing.before_left
      (pointed_point w.plan_to low regs spot.inside h.inner m.inside)

  -- those born inside the loop
  loop_dead : runs w n t (deaths (spot.inside ++ spot.between)) regs ≡ Done (Next regs) (dead h.loop) []
  loop_dead =
      deaths_end (spot.inside ++ spot.between) w.globals w.calls n h.loop regs t (h.inner ++ h.between) (h.outer ++ w.around) (live_is ∙ sym (append_assoc h.inner h.between (h.outer ++ w.around))) m.standing.since_loop
      m.standing.before_loop (pointed_point w.plan_to low regs (spot.inside ++ spot.between) (h.inner ++ h.between) (pointed_append w.plan_to low regs spot.inside spot.between h.inner h.between m.inside m.between))

  -- all of the call
  call_dead : runs w n t (deaths (target.all_live spot)) regs ≡ Done (Next regs) (dead w.base) []
  call_dead =
      deaths_end (target.all_live spot) w.globals w.calls n w.base regs t (h.inner ++ (h.between ++ h.outer)) w.around (live_is ∙ sym (all_apart h.inner h.between h.outer w.around)) m.standing.since_call m.standing.before_call
      (pointed_point w.plan_to low regs (target.all_live spot) (h.inner ++ (h.between ++ h.outer))
      (pointed_append w.plan_to low regs spot.inside (spot.between ++ spot.outside) h.inner (h.between ++ h.outer) m.inside (pointed_append w.plan_to low regs spot.between spot.outside h.between h.outer m.between m.outside)))

  -- what stands after deaths
  behind_deaths : (base : ℕ) (d a : MonStatements) → runs w n t d regs ≡ Done (Next regs) (dead base) [] → runs w n t (before d a) regs ≡ runs w n (dead base) a regs
  behind_deaths base d a e =
      before_is w.globals d a w.calls n regs t
      ∙ ap (λ q. then_do q (at_next (exec_all over_blocks w.globals a w.calls n))) e
      ∙ writes_none (runs w n (dead base) a regs)

  goto_is : (base : ℕ) (d : MonStatements) (l k : List ℕ) → runs w n t d regs ≡ Done (Next regs) (dead base) [] → k ≡ l → runs w n t (before d (one (tree.Goto k))) regs ≡ Done (Goes l regs) (dead base) []
  goto_is base d l k x e = behind_deaths base d (one (tree.Goto k)) x ∙ one_is w.globals (tree.Goto k) w.calls n regs (dead base) ∙ ap (λ i. Done (Goes i regs) (dead base) []) e

  still : Stays w.plan_from w.plan_to low regs regs
  still = stays_same w.plan_from w.plan_to low regs regs (same_all low regs)

  pub break_follows : spot.levels ≡ h.levels → h.breaks ≡ true → Follows w h low regs Next s (Stop (Leaves state.Breaks) s) (runs w n t (before (deaths spot.inside) (one (tree.Goto (end_label spot.levels)))) regs)
  break_follows at breaks =
      Breaks s regs (dead h.left) [] breaks still m.standing.kept.keeps (passes_later s s [] (later_same s m.standing.bounded)) (beside_dead h.left) refl
      (goto_is h.left (deaths spot.inside) (end_label h.levels) (end_label spot.levels) left_dead (ap end_label at))

  pub continue_follows : spot.innermost ≡ h.innermost → h.looped ≡ true
      → Follows w h low regs Next s (Stop (Leaves state.Continues) s) (runs w n t (before (deaths (spot.inside ++ spot.between)) (one (tree.Goto (next_label spot.innermost)))) regs)
  continue_follows at looped =
      Continues s regs (dead h.loop) [] looped still m.standing.kept.keeps (passes_later s s [] (later_same s m.standing.bounded)) (beside_dead h.loop) refl
      (goto_is h.loop (deaths (spot.inside ++ spot.between)) (next_label h.innermost) (next_label spot.innermost) loop_dead (ap next_label at))

  pub leave_follows : (v : Option Value) (way : MonStatement) → IsResult h.result v → HoldsResult w.result v regs → ((u : Target) → runs w n u (one way) regs ≡ Done (left_by w.result v regs) u [])
      → Follows w h low regs Next s (Stop (Leaves (Returns v)) s) (runs w n t (before (deaths (target.all_live spot)) (one way)) regs)
  leave_follows v way i holds run =
      IsLeft v s regs (dead w.base) [] i still m.standing.kept.keeps holds (passes_later s s [] (later_same s m.standing.bounded)) (beside_dead w.base) refl
      (behind_deaths w.base (deaths (target.all_live spot)) (one way) call_dead ∙ run (dead w.base))

-- ---- statements

module _ (w : Setting) (n : ℕ) (ordered : Ascend w.plan_from w.plan w.plan_to) where
  abbrev T : Tables
  T = tables_of w.unit

  -- what a part of the source does, and a part of the target, from all states that meet
  abbrev pub DoSame : Here → Spot → ℕ → Bindings → List ℕ → Evaluation (Unit {0}) → MonStatements → Type 0
  DoSame h spot low bound living x a = (regs : List Value) (from : State) (t : Target) → Meets w h spot low bound living regs from t → from.steps ≤ n → Follows w h low regs Next from (x from) (runs w n t a regs)

  -- one part after another, which knows the names in sight by other registers perhaps
  in_order : (h : Here) (spot : Spot) (low : ℕ) (bound later : Bindings) (living : List ℕ) (x y : Evaluation (Unit {0})) (a b : MonStatements) → DoSame h spot low bound living x a
      → ((regs : List Value) (s : State) (t : Target) → Meets w h spot low bound living regs s t → Meets w h spot low later living regs s t) → DoSame h spot low later living y b → DoSame h spot low bound living (x >> y) (before a b)
  in_order h spot low bound later living x y a b f again g = λ regs from t m le.
      subst (λ q. Follows w h low regs Next from ((x >> y) from) q) (sym (before_is w.globals a b w.calls n regs t))
      (follows_then w h low regs Next from _ _ y (exec_all over_blocks w.globals b w.calls n) (f regs from t m le)
      (λ to after u o same keeps l be. g after to u (again after to u (meets_after w h spot low bound living regs after from to t u o same keeps l be m)) (omega (arith, le, l.spent))))

  -- the same registers
  in_order_same : (h : Here) (spot : Spot) (low : ℕ) (bound : Bindings) (living : List ℕ) (x y : Evaluation (Unit {0})) (a b : MonStatements) → DoSame h spot low bound living x a → DoSame h spot low bound living y b
      → DoSame h spot low bound living (x >> y) (before a b)
  in_order_same h spot low bound living x y a b f g = in_order h spot low bound bound living x y a b f (λ regs s t m. m) g

  nothing_does : (h : Here) (spot : Spot) (low : ℕ) (bound : Bindings) (living : List ℕ) → DoSame h spot low bound living state.done NoStatement
  nothing_does h spot low bound living = λ regs from t m le. stays w h low regs from t m.standing.bounded m.standing.kept.keeps m.beside

  -- what a part of the source comes to, and a part of the target
  abbrev pub ReachSame : Here → Spot → ℕ → Bindings → List ℕ → Evaluation (Unit {0}) → MonStatements → Type 0
  ReachSame h spot low bound living x a = (regs : List Value) (from : State) (t : Target) → Meets w h spot low bound living regs from t → from.steps ≤ n → Reaches w Anything low regs from (x from) (runs w n t a regs)

  nothing_reached : (h : Here) (spot : Spot) (low : ℕ) (bound : Bindings) (living : List ℕ) → ReachSame h spot low bound living state.done NoStatement
  nothing_reached h spot low bound living = λ regs from t m le. reached_here w low regs from t m.standing.bounded m.beside

  effect_reached : (h : Here) (spot : Spot) (low : ℕ) (bound : Bindings) (living : List ℕ) (s : Sight) (g : Scene w n s) (rs : List MonType) (e : Expression) → WellTyped s e → ActHasLetters e → low ≤ length rs
      → length (rs ++ act_takes w.unit e) ≤ w.registers → ReachSame h spot low bound living (effect_with T (Some e) w.call) (act w.unit bound rs e)
  effect_reached h spot low bound living s g rs e q l behind enough = λ regs from t m le.
      reached_done w Anything low regs from (eval_with T e w.call from) (runs w n t (act w.unit bound rs e) regs)
      (act_reached w n h s g low bound from t le rs behind regs m.standing m.beside e q l enough)

  effect_does : (h : Here) (spot : Spot) (low : ℕ) (bound : Bindings) (living : List ℕ) (s : Sight) (g : Scene w n s) (rs : List MonType) (e : Expression) → WellTyped s e → ActHasLetters e → low ≤ length rs
      → length (rs ++ act_takes w.unit e) ≤ w.registers → DoSame h spot low bound living (effect_with T (Some e) w.call) (act w.unit bound rs e)
  effect_does h spot low bound living s g rs e q l behind enough = λ regs from t m le.
      reached_follows w h Anything low regs from (effect_with T (Some e) w.call from) (runs w n t (act w.unit bound rs e) regs) m.standing.kept
      (effect_reached h spot low bound living s g rs e q l behind enough regs from t m le)

  effect_if_any_reached : (h : Here) (spot : Spot) (low : ℕ) (bound : Bindings) (living : List ℕ) (s : Sight) (g : Scene w n s) (rs : List MonType) (e : Option Expression) → WhereAny (WellTyped s) e
      → Any ActHasLetters e → low ≤ length rs → length (rs ++ any_temporaries (act_takes w.unit) e) ≤ w.registers → ReachSame h spot low bound living (effect_with T e w.call) (act_if_any w.unit bound rs e)
  effect_if_any_reached h spot low bound living s g rs None q l behind enough = nothing_reached h spot low bound living
  effect_if_any_reached h spot low bound living s g rs (Some e) q l behind enough = effect_reached h spot low bound living s g rs e q l behind enough

  -- ---- conditions

  condition_tested : (h : Here) (spot : Spot) (low : ℕ) (bound : Bindings) (living : List ℕ) (s : Sight) (g : Scene w n s) (rs : List MonType) (e : Expression) → IsCondition s e → ValueHasLetters e → low ≤ length rs
      → length (rs ++ takes w.unit e) ≤ w.registers → (regs : List Value) (from : State) (t : Target) → Meets w h spot low bound living regs from t → from.steps ≤ n
      → Reaches w (Tested w (length (rs ++ takes w.unit e)) (condition_result w.unit bound rs e)) low regs from (source.condition_of T e w.call from) (runs w n t (prepare w.unit bound rs e) regs)
  condition_tested h spot low bound living s g rs e q l behind enough regs from t m le =
      condition_reached w n h s g low bound from t le rs behind regs m.standing m.beside e q.scalar.scalar q.scalar.is q.typed l enough

  -- `if`
  choice_does : (h : Here) (spot : Spot) (low : ℕ) (bound : Bindings) (living : List ℕ) (s : Sight) (g : Scene w n s) (rs : List MonType) (e : Expression) (x y : Evaluation (Unit {0})) (a b : MonStatements)
      → IsCondition s e → ValueHasLetters e
      → low ≤ length rs → length (rs ++ takes w.unit e) ≤ w.registers → DoSame h spot low bound living x a → DoSame h spot low bound living y b
      → DoSame h spot low bound living (λ s. on_outcome (source.condition_of T e w.call s) (λ v. source.choose v x y)) (before (prepare w.unit bound rs e) (one (tree.If (condition_result w.unit bound rs e) a b)))
  choice_does h spot low bound living s g rs e x y a b q l behind enough f k = λ regs from t m le.
      let high = length (rs ++ takes w.unit e) in
      let c = condition_result w.unit bound rs e in
      follows_before w n h (Tested w high c) low regs Next from t (source.condition_of T e w.call from) (prepare w.unit bound rs e) (one (tree.If c a b)) (λ v. source.choose v x y)
      (condition_tested h spot low bound living s g rs e q l behind enough regs from t m le)
      (λ v to after u o same later be test.
      let is = test_runs w n high c a b v after to u test in
      let m2 = meets_later w h spot low bound living regs after from to t u o same later be m in
      let less : to.steps ≤ n = omega (arith, le, later.spent) in
      subst (λ q. Follows w h low after Next to (source.choose v x y to) q) (sym is.2)
      (follows_choice w h low after Next to to v is.0 x y _ _ is.1 (f after to u m2 less) (k after to u m2 less)))

  -- ---- `return`

  -- nothing is given
  nothing_given : (h : Here) (spot : Spot) (low : ℕ) (bound : Bindings) (living : List ℕ) → IsResult h.result None
      → DoSame h spot low bound living (stop (Leaves (Returns None))) (target.leaving spot.result (target.all_live spot) None)
  nothing_given h spot low bound living is = λ regs from t m le.
      leave_follows w n h spot low bound living from regs t m None (target.way_out spot.result None) is (held w.result regs)
      (λ u. one_is w.globals (target.way_out spot.result None) w.calls n regs u ∙ ap (λ o. monitored.exec over_blocks w.globals (target.way_out o None) w.calls n regs u) m.result ∙ way w.result regs u)
    where
      held : (o : Option ℕ) (regs : List Value) → HoldsResult o None regs
      held None regs = tt
      held (Some k) regs = tt

      way : (o : Option ℕ) (regs : List Value) (u : Target) → monitored.exec over_blocks w.globals (target.way_out o None) w.calls n regs u ≡ Done (left_by o None regs) u []
      way None regs u = refl
      way (Some k) regs u = refl

  -- a value, which the code has: it goes into a register of its own, or into that of the result
  value_given : (h : Here) (spot : Spot) (low : ℕ) (bound : Bindings) (living : List ℕ) (own : ℕ) (code : MonExpression) (v : Value) (regs : List Value) (from : State) (t : Target) → low ≤ own → own < w.registers
      → Meets w h spot low bound living regs from t → IsResult h.result (Some v) → Has w code regs t.mem v → (o : Option ℕ) → w.result ≡ o
      → Follows w h low regs Next from (Stop (Leaves (Returns (Some v))) from) (runs w n t (target.giving o (target.all_live spot) own code) regs)
  value_given h spot low bound living own code v regs from t behind room m is has None none =
      let taken = slice_set regs own v in
      let changed : Same low regs taken = same_set low own regs v behind in
      let there : slice_get taken own ≡ Some v = get-set_same regs own v (omega (arith, m.standing.registers, room)) in
      follows_behind w n h low regs taken Next from t (Stop (Leaves (Returns (Some v))) from) (set own code) (target.leaving None (target.all_live spot) (Some (tree.Register own))) m.standing.bounded changed
      (set_runs w n t own code regs v has)
      (leave_follows w n h spot low bound living from taken t (meets_later w h spot low bound living regs taken from from t t [] changed (later_same from m.standing.bounded) m.beside m) (Some v)
      (tree.Return (Some (tree.Register own))) is (subst (λ o. HoldsResult o (Some v) taken) (sym none) tt)
      (λ x. one_is w.globals (tree.Return (Some (tree.Register own))) w.calls n taken x ∙ ap (λ y. with_value y x.steps (λ z. Done (monitored.Returns (Some z)) x [])) there
      ∙ ap (λ o. Done (left_by o (Some v) taken) x []) (sym none)))
  value_given h spot low bound living own code v regs from t behind room m is has (Some k) some =
      let taken = slice_set regs k v in
      let stands : StandsBehind w.plan_from w.plan_to w.plan (Some k) = subst (StandsBehind w.plan_from w.plan_to w.plan) some m.standing.kept.given in
      let there : slice_get taken k ≡ Some v = get-set_same regs k v (omega (arith, m.standing.registers, stands.2, m.standing.kept.below, behind, room)) in
      let stay : Stays w.plan_from w.plan_to low regs taken = stays_set w.plan_from w.plan_to low k regs v stands.1 stands.2 in
      let keeps : Keeps w.plan from.marks taken = keeps_set k w.plan from.marks regs v stands.0 m.standing.kept.keeps in
      let here : Passes from from [] = passes_later from from [] (later_same from m.standing.bounded) in
      subst (λ q. Follows w h low regs Next from (Stop (Leaves (Returns (Some v))) from) q)
      (writes_none (runs w n t (target.leaving (Some k) (target.all_live spot) (Some (tree.Register k))) taken)
      ∙ sym (behind_setup w n t (set k code) (target.leaving (Some k) (target.all_live spot) (Some (tree.Register k))) regs taken (set_runs w n t k code regs v has)))
      (onward w h low regs taken Next from from [] (Stop (Leaves (Returns (Some v))) from) (runs w n t (target.leaving (Some k) (target.all_live spot) (Some (tree.Register k))) taken) stay here
      (leave_follows w n h spot low bound living from taken t (meets_after w h spot low bound living regs taken from from t t [] stay keeps here m.beside m) (Some v) (tree.Goto leave_label) is
      (subst (λ o. HoldsResult o (Some v) taken) (sym some) there)
      (λ x. one_is w.globals (tree.Goto leave_label) w.calls n taken x ∙ ap (λ o. Done (left_by o (Some v) taken) x []) (sym some))))

  returned_does : (h : Here) (spot : Spot) (low : ℕ) (living : List ℕ) (s : Sight) (g : Scene w n s) (r : RegisterTable) (e : Option Expression) → Returned s h.result e → Any ValueHasLetters e → low ≤ next_register r
      → next_register (with_kinds (any_temporaries (returned_temporaries w.unit) e) r) ≤ w.registers → (at_place : Place) → DoSame h spot low r.bound living (exec_with T (Return at_place e) w.call (suc n)) (target.returned w.unit w.plan spot r e)
  returned_does h spot low living s g r None q l behind enough place = nothing_given h spot low r.bound living (subst (λ k. IsResult k None) (sym q) tt)
  returned_does h spot low living s g r (Some e) q l behind enough place = λ regs from t m le.
      follows_before w n h (Valued w k last v_code) low regs Next from t (eval_with T e w.call from) (prepare w.unit r.bound r.kinds e) (target.giving spot.result (target.all_live spot) last v_code)
      (λ v. stop (Leaves (Returns (Some v))))
      (value_reached w n h s g low r.bound from t le r.kinds behind regs m.standing m.beside e k (ap scalar_of q.ctype ∙ q.scalar.is) q.typed l (omega (arith, enough, long)))
      (λ v to after u o same later be has.
      value_given h spot low r.bound living last v_code v after to u (omega (arith, behind, longer r.kinds (takes w.unit e))) (omega (arith, enough, long))
      (meets_later w h spot low r.bound living regs after from to t u o same later be m) (subst (λ o. IsResultOf o (Some v)) (sym q.scalar.is) has.0) (has.1 after (same_all last after)) spot.result (sym m.result))
    where
      k : Scalar
      k = q.scalar.scalar

      last : ℕ
      last = length (r.kinds ++ takes w.unit e)

      long : length (r.kinds ++ (takes w.unit e ++ value_type (type_of e) ∷ [])) ≡ suc last
      long = omega (arith, length-append r.kinds (takes w.unit e ++ value_type (type_of e) ∷ []), length-append (takes w.unit e) (value_type (type_of e) ∷ []), length-append r.kinds (takes w.unit e))

      v_code : MonExpression
      v_code = result w.unit r.bound r.kinds e

  -- ---- `switch`

  -- what is behind the word is computed, the case is searched, and the items are done by this code
  switch_does : (h : Here) (spot : Spot) (low : ℕ) (living : List ℕ) (s : Sight) (g : Scene w n s) (r : RegisterTable) (e : Expression) (cs : Cases) (k : CInt) → WellTyped s e → type_of e ≡ Int k → ValueHasLetters e
      → low ≤ next_register r → length (r.kinds ++ returned_temporaries w.unit e) ≡ suc (length (r.kinds ++ takes w.unit e)) → suc (suc (length (r.kinds ++ takes w.unit e))) ≤ w.registers → (a : MonStatements)
      → ((base c : ℕ) → switches.CasesDo w n (switches.in_items w h base (spot.levels + 1)) (target.in_switch spot) (suc (suc (length (r.kinds ++ takes w.unit e)))) living (length (r.kinds ++ returned_temporaries w.unit e)) c r.bound
      (cases_with T cs w.call (suc n) c) a)
      → (at_place : Place) → DoSame h spot low r.bound living (exec_with T (Switch at_place e cs) w.call (suc n))
      (before (prepare w.unit r.bound r.kinds e) (before (set (length (r.kinds ++ takes w.unit e)) (result w.unit r.bound r.kinds e))
      (before (search (spot.levels + 1) (value_type (type_of e)) (length (r.kinds ++ takes w.unit e)) (length (r.kinds ++ returned_temporaries w.unit e)) cs) (one (tree.Labelled a (end_label (spot.levels + 1)))))))
  switch_does h spot low living s g r e cs k q type l behind long enough a does place =
      let v = length (r.kinds ++ takes w.unit e) in
      let setup_code = prepare w.unit r.bound r.kinds e in
      let code = result w.unit r.bound r.kinds e in
      let levels = spot.levels + 1 in
      let f2 = longer r.kinds (takes w.unit e) in
      subst (λ j. ((base c : ℕ) → switches.CasesDo w n (switches.in_items w h base levels) (target.in_switch spot) (suc (suc v)) living j c r.bound (cases_with T cs w.call (suc n) c) a)
      → DoSame h spot low r.bound living (exec_with T (Switch place e cs) w.call (suc n)) (before setup_code (before (set v code) (before (search levels (value_type (type_of e)) v j cs) (one (tree.Labelled a (end_label levels)))))))
      (sym long)
      (subst (λ t. ((base c : ℕ) → switches.CasesDo w n (switches.in_items w h base levels) (target.in_switch spot) (suc (suc v)) living (suc v) c r.bound (cases_with T cs w.call (suc n) c) a)
      → DoSame h spot low r.bound living (exec_with T (Switch place e cs) w.call (suc n)) (before setup_code (before (set v code) (before (search levels (value_type t) v (suc v) cs) (one (tree.Labelled a (end_label levels)))))))
      (sym type)
      (switches.switch_follows w n h spot low r.bound living k (eval_with T e w.call) setup_code code v
      (λ regs from t m le. value_reached w n h s g low r.bound from t le r.kinds behind regs m.standing m.beside e (IntegerType k) (ap scalar_of type) q l (omega (arith, enough, m.standing.registers)))
      cs (cases_with T cs w.call (suc n)) a (omega (arith, behind, f2)) enough))
      does

  -- ---- blocks

  -- variables are born, and live while this is done
  pub block_does : (h : Here) (spot : Spot) (low : ℕ) (r : RegisterTable) (living : List ℕ) (ds : List Declaration) (x : Evaluation (Unit {0})) (a : MonStatements) → low ≤ next_register r → next_register r + length ds ≤ w.registers
      → AreBorn w.unit ds → ((old : State) → AllCanBeBorn w.unit ds → DoSame (behind_births w.unit.structs h old ds) (with_variables (next_register r) ds spot) (next_register r + length ds) (entered ds r).bound (with_numbers ds living) x a)
      → DoSame h spot low r.bound living (within (births w.unit.structs ds >> x)) (target.alive w.unit (next_register r) ds a)
  block_does h spot low r living ds x a le room born f = λ regs from t m ln.
      block_follows w h spot low r living ds le regs from t m born.own n x a room (births_enter w.unit.structs (next_register r) ds born.small) (deaths_end (with_born (next_register r) ds []))
      (λ room after to u less m2. f from room after to u m2 (omega (arith, ln, less)))

  -- ---- the turns of a `while` or a `for`

  test_if_any_does : (h : Here) (base : ℕ) (spot : Spot) (low : ℕ) (living : List ℕ) (s : Sight) (g : Scene w n s) (r : RegisterTable) (e : Option Expression) → WhereAny (IsCondition s) e → Any ValueHasLetters e
      → low ≤ next_register r → next_register (with_kinds (any_temporaries (takes w.unit) e) r) ≤ w.registers
      → loops.Tests w h base spot low r.bound living n (condition_with T e w.call) (test_if_any w.unit r.bound r.kinds (spot.levels + 1) e)
  test_if_any_does h base spot low living s g r None q l behind enough = loops.no_test w h base spot low r.bound living n
  test_if_any_does h base spot low living s g r (Some e) q l behind enough =
      loops.tests w h base spot low r.bound living n (source.condition_of T e w.call) (prepare w.unit r.bound r.kinds e) (condition_result w.unit r.bound r.kinds e) (length (r.kinds ++ takes w.unit e))
      (λ regs from t m le. condition_tested (loops.in_turn w h base spot low r.bound living n) (target.in_loop spot) low r.bound living s g r.kinds e q l behind enough regs from t m le)

  -- the body of a loop does the same over registers that stay up to any number in front of its own
  abbrev pub BodyDoes : Here → Spot → ℕ → RegisterTable → List ℕ → Statement → Type 0
  BodyDoes h spot low r living a =
      (base high : ℕ) → low ≤ high → high ≤ next_register r
      → DoSame (loops.in_body w h base spot low r.bound living n) (target.in_loop spot) high r.bound living (exec_with T a w.call (suc n)) (statement w.unit w.plan (target.in_loop spot) r a)

  -- a turn with this variant, where code of these parts does the same
  rounds_of : (h : Here) (base : ℕ) (spot : Spot) (low : ℕ) (bound later : Bindings) (living : List ℕ) (ks js : List MonType) (o : Option (Annotation × LogicTerm)) (x y : Evaluation (Unit {0})) (code b : MonStatements)
      → ((v : Annotation × LogicTerm) → o ≡ Some v → TermRanged [] v.1) → ((v : Annotation × LogicTerm) (scope : Scope) → o ≡ Some v → names_of scope ≡ living → TermFound w.plan scope [] v.1)
      → low ≤ length ks → length (behind_variant w.unit bound w.plan ks o) ≤ length js → length (behind_variant w.unit later w.plan js o) ≤ w.registers
      → ((high : ℕ) → low ≤ high → high ≤ length (behind_variant w.unit bound w.plan ks o) → DoSame (loops.in_body w h base spot low bound living n) (target.in_loop spot) high bound living x code)
      → ((high : ℕ) → high ≤ length (behind_variant w.unit bound w.plan ks o) → ReachSame (loops.in_turn w h base spot low bound living n) (target.in_loop spot) high bound living y b)
      → ((high : ℕ) (regs : List Value) (s : State) (t : Target) → Meets w (loops.in_turn w h base spot low bound living n) (target.in_loop spot) high bound living regs s t
      → Meets w (loops.in_turn w h base spot low bound living n) (target.in_loop spot) high later living regs s t)
      → loops.Rounds w h base spot low bound living n (turn_with o x y)
      (before (variant_kept w.unit bound w.plan ks o) (tree.Then (tree.Labelled code (next_label (spot.levels + 1))) (before b (variant_compared w.unit bound later w.plan ks js o))))
  rounds_of h base spot low bound later living ks js None x y code b ranged found behind fits room body step names =
      subst (λ c. loops.Rounds w h base spot low bound living n (turn_with None x y) (tree.Then (tree.Labelled code (next_label (spot.levels + 1))) c)) (sym (before_none b))
      (loops.plain_rounds w h base spot low bound living n low (omega arith) x code (body low (omega arith) behind) y b (step low behind))
  rounds_of h base spot low bound later living ks js (Some v) x y code b ranged found behind fits room body step names =
      let k = valuation w.unit bound w.plan [] v.1 ks in
      let here = loops.in_turn w h base spot low bound living n in
      let place = value_behind w.unit bound w.plan [] v.1 ks in
      loops.variant_rounds w h base spot low bound living n (length k.used) (omega (arith, behind, place.0, place.1)) x code (body (length k.used) (omega (arith, behind, place.0, place.1)) (omega arith)) y b (step (length k.used) (omega arith))
      v (variants.wanted v.0 k) (variant_compared w.unit bound later w.plan ks js (Some v)) k.value (omega (arith, behind, place.0)) (omega (arith, place.1))
      (λ regs s t m le.
      kept_reaches w n here low bound v.0 v.1 (ranged v refl) ks behind regs s t le (found v s.scope refl m.names) (omega (arith, m.standing.registers, fits, room, valuation_grows w.unit later w.plan [] v.1 js)) m.standing m.beside)
      (λ old regs s t m has le.
      let m2 = names (length k.used) regs s t m in
      compared_reaches w n here (length k.used) later v.0 v.1 (ranged v refl) js fits regs s t le (found v s.scope refl m.names) (omega (arith, m.standing.registers, room)) m2.standing m2.beside
      (code_type v.1) (is_number (width_of v.1)) k.value old (omega (arith, place.1, fits)) has)

  turns_do : (h : Here) (spot : Spot) (low : ℕ) (living : List ℕ) (s : Sight) (g : Scene w n s) (r : RegisterTable) (annots : List Annotation) (e step : Option Expression) (a : Statement)
      → AreRangedClauses annots → ((scope : Scope) → names_of scope ≡ living → AnnotationsFound w.plan scope annots) → WhereAny (IsCondition s) e → Any ValueHasLetters e
      → WhereAny (WellTyped s) step → Any ActHasLetters step → AreAbsent living (declared_within a) → low ≤ next_register r
      → next_register (after_turn w.unit w.plan annots step (after_statement w.unit w.plan a (before_body w.unit w.plan annots e r))) ≤ w.registers
      → BodyDoes h spot low (before_body w.unit w.plan annots e r) living a
      → DoSame h spot low r.bound living (turns (suc n) (invariants annots >> condition_with T e w.call) (turn_with (variant annots) (exec_with T a w.call (suc n)) (effect_with T step w.call)))
      (turns_of w.unit w.plan annots (spot.levels + 1) r (after_statement w.unit w.plan a (before_body w.unit w.plan annots e r)) e step
      (statement w.unit w.plan (target.in_loop spot) (before_body w.unit w.plan annots e r) a))
  turns_do h spot low living s g r annots e step a clauses found e_typed e_letters step_typed step_letters absent behind enough body = λ regs from t m le.
      let r1 = after_invariants w.unit w.plan annots r in
      let r2 = with_kinds (any_temporaries (takes w.unit) e) r1 in
      let r3 = before_body w.unit w.plan annots e r in
      let r4 = after_statement w.unit w.plan a r3 in
      let r5 = with_kinds (any_temporaries (act_takes w.unit) step) r4 in
      let base = length from.store in
      let f1 = invariants_grow w.unit r.bound w.plan r.kinds annots in
      let f2 = more_kinds (any_temporaries (takes w.unit) e) r1 in
      let f3 = variant_grows w.unit r.bound w.plan r2.kinds (variant annots) in
      let f4 = statement_grows w.unit w.plan a r3 in
      let f5 = more_kinds (any_temporaries (act_takes w.unit) step) r4 in
      let f6 = variant_grows w.unit r4.bound w.plan r5.kinds (variant annots) in
      let here = loops.in_turn w h base spot low r.bound living n in
      let x = exec_with T a w.call (suc n) in
      let y = effect_with T step w.call in
      let code = statement w.unit w.plan (target.in_loop spot) r3 a in
      let act = act_if_any w.unit r4.bound r4.kinds step in
      let behind_all = before act (compared_of w.unit w.plan annots r e r4 step) in
      loops.loop_follows w h base spot low r.bound living n from _ regs t (front_of w.unit w.plan annots (spot.levels + 1) r e) (kept_of w.unit w.plan annots r e) code behind_all
      (loops.turns_follow w h base spot low r.bound living n (invariants annots >> condition_with T e w.call) (front_of w.unit w.plan annots (spot.levels + 1) r e)
      (loops.part_tests w h base spot low r.bound living n (invariants annots) (invariants_code w.unit r.bound w.plan r.kinds annots) (condition_with T e w.call) (test_if_any w.unit r.bound r1.kinds (spot.levels + 1) e)
      (λ regs s t m le. invariants_follow w n here low r.bound annots clauses r.kinds behind (omega (arith, f2, f3, f4, f5, f6, enough)) regs s t le (found s.scope m.names) m.standing m.beside)
      (test_if_any_does h base spot low living s g r1 e e_typed e_letters (omega (arith, behind, f1)) (omega (arith, f3, f4, f5, f6, enough))))
      (turn_with (variant annots) x y) (before (kept_of w.unit w.plan annots r e) (tree.Then (tree.Labelled code (next_label (spot.levels + 1))) behind_all))
      (rounds_of h base spot low r.bound r4.bound living r2.kinds r5.kinds (variant annots) x y code act
      (λ v is. variant_ranged annots v is clauses.ranged) (λ v scope is names. variant_found annots v w.plan scope is (found scope names))
      (omega (arith, behind, f1, f2)) (omega (arith, f4, f5)) enough
      (λ high wide fits. body base high wide fits)
      (λ high fits regs u t m le. effect_if_any_reached here (target.in_loop spot) high r4.bound living s g r4.kinds step step_typed step_letters (omega (arith, fits, f4)) (omega (arith, f6, enough)) regs u t
      (meets_behind w here (target.in_loop spot) high a r3 living regs u t absent m) le)
      (λ high regs u t m. meets_behind w here (target.in_loop spot) high a r3 living regs u t absent m))
      n regs from t (loops.meets_turn w h base spot low r.bound living n regs from t refl m) le le)

  -- what stands first, and then the loop
  first_then : (first : ForFirst) → AreThere w.unit (declared_first first)
      → (h : Here) (spot : Spot) (low : ℕ) (living : List ℕ) (s : Sight) (g : Scene w n s) (around : Around) (r : RegisterTable) (x : Evaluation (Unit {0})) (code : MonStatements) → FirstPlaced first
      → FirstTyped s around first → FirstHasNumbers first → low ≤ next_register r → next_register (after_first w.unit w.plan first r) ≤ w.registers → DoSame h spot low (after_first w.unit w.plan first r).bound living x code
      → DoSame h spot low r.bound living (first_with T first w.call (suc n) >> x) (before (first_part w.unit w.plan spot r first) code)
  first_then NoFirst local h spot low living s g around r x code f q l behind enough go = go
  first_then (First (Run (Eval at e))) local h spot low living s g around r x code f q l behind enough go =
      in_order_same h spot low r.bound living (effect_with T (Some e) w.call) x (act w.unit r.bound r.kinds e) code (effect_does h spot low r.bound living s g r.kinds e q l behind enough) go
  first_then (First (Declare ds)) local h spot low living s g around r x code f q l behind enough go =
      in_order_same h spot low r.bound living (initialise_all T ds w.call) x (initialisers.initialise_all w.unit r.bound r.kinds ds) code
      (λ regs from t m le. reached_follows w h Anything low regs from (initialise_all T ds w.call from) (runs w n t (initialisers.initialise_all w.unit r.bound r.kinds ds) regs) m.standing.kept
      (initials_reach w n h low r.bound ds s g local q l r.kinds behind enough regs from t le m.standing m.beside)) go
  first_then (First (Specify at t)) local h spot low living s g around r x code f q l behind enough go = go
  first_then _ local h spot low living s g around r x code f q l behind enough go = absurd f

  for_follows : (at : Place) (annots : List Annotation) (first : ForFirst) (s : Sight) (g : Scene w n s) (around : Around) (h : Here) (spot : Spot) (low : ℕ) (r : RegisterTable) (living : List ℕ) (e step : Option Expression) (a : Statement)
      → AreBorn w.unit (declared_first first) → AreAbsent (with_numbers (declared_first first) living) (declared_within a) → AreRangedClauses annots
      → ((scope : Scope) → names_of scope ≡ with_numbers (declared_first first) living → AnnotationsFound w.plan scope annots)
      → FirstPlaced first → FirstTyped (inner s) around first → FirstHasNumbers first
      → WhereAny (IsCondition (behind_first (inner s) first)) e → Any ValueHasLetters e → WhereAny (WellTyped (behind_first (inner s) first)) step → Any ActHasLetters step
      → low ≤ next_register r → next_register (after_statement w.unit w.plan (For at annots first e step a) r) ≤ w.registers
      → ((old : State) → BodyDoes (behind_births w.unit.structs h old (declared_first first)) (with_variables (next_register r) (declared_first first) spot) (next_register r + length (declared_first first))
      (before_body w.unit w.plan annots e (after_first w.unit w.plan first (entered (declared_first first) r))) (with_numbers (declared_first first) living) a)
      → DoSame h spot low r.bound living (exec_with T (For at annots first e step a) w.call (suc n)) (statement w.unit w.plan spot r (For at annots first e step a))
  for_follows at annots first s g around h spot low r living e step a born absent clauses found f_formed f_typed f_letters e_typed e_letters step_typed step_letters behind enough body = λ regs from t m le.
      let ds = declared_first first in
      let r1 = entered ds r in
      let r2 = after_first w.unit w.plan first r1 in
      let r3 = before_body w.unit w.plan annots e r2 in
      let r4 = after_statement w.unit w.plan a r3 in
      let spot2 = with_variables (next_register r) ds spot in
      let low2 = next_register r + length ds in
      let f0 = next-entered ds r in
      let f1 = first_grows w.unit w.plan first r1 in
      let f2 = body_behind w.unit w.plan annots e r2 in
      let f3 = statement_grows w.unit w.plan a r3 in
      let f4 = turn_grows w.unit w.plan annots step r4 in
      let all_turns = turns (suc n) (invariants annots >> condition_with T e w.call) (turn_with (variant annots) (exec_with T a w.call (suc n)) (effect_with T step w.call)) in
      let code = turns_of w.unit w.plan annots (spot.levels + 1) r2 r4 e step (statement w.unit w.plan (target.in_loop spot2) r3 a) in
      subst (λ x. Follows w h low regs Next from (restored from x) (runs w n t (target.alive w.unit (next_register r) ds (before (first_part w.unit w.plan spot2 r1 first) code)) regs))
      (handed_on (births w.unit.structs ds from) (λ _. first_with T first w.call (suc n)) (λ _. all_turns))
      (block_does h spot low r living ds (first_with T first w.call (suc n) >> all_turns) (before (first_part w.unit w.plan spot2 r1 first) code) behind (omega (arith, enough, f0, f1, f2, f3, f4)) born
      (λ old room. first_then first (are_there w.unit ds born.local room) (behind_births w.unit.structs h old ds) spot2 low2 (with_numbers ds living) (inner s) (scene_inner w n s g) around r1 all_turns code f_formed f_typed f_letters
      (omega (arith, f0)) (omega (arith, enough, f2, f3, f4))
      (turns_do (behind_births w.unit.structs h old ds) spot2 low2 (with_numbers ds living) (behind_first (inner s) first) (scene_behind_first w n (inner s) first (scene_inner w n s g)) r2 annots e step a clauses found
      e_typed e_letters step_typed step_letters absent (omega (arith, f0, f1)) enough (body old)))
      regs from t m le)

  -- a part that stands after a statement in the code, though not in a run
  behind_first_part : (a : Statement) (h : Here) (spot : Spot) (low : ℕ) (r : RegisterTable) (living : List ℕ) (x : Evaluation (Unit {0})) (code : MonStatements) → AreAbsent living (declared_within a)
      → DoSame h spot low (after_statement w.unit w.plan a r).bound living x code → DoSame h spot low r.bound living x code
  behind_first_part a h spot low r living x code absent f = λ regs from t m le. f regs from t (meets_behind w h spot low a r living regs from t absent m) le

  -- after what stands first in a `for`
  sees_first : (first : ForFirst) (s : Sight) (living : List ℕ) → AreFound s.entities (scope_for living) → AreFound (behind_first (inner s) first).entities (scope_for (with_numbers (declared_first first) living))
  sees_first NoFirst s living sees = sees
  sees_first (First (Declare ds)) s living sees = found_with_all (inner s) ds (scope_for (with_numbers ds living)) (sees_born s.entities ds living sees) (declared_born ds living)
  sees_first (First (Specify at t)) s living sees = sees
  sees_first (First (Run a)) s living sees = sees
  sees_first (First (Asserts annots)) s living sees = sees

  -- ---- all statements

  mutual
    pub statement_follows : (a : Statement) (s : Sight) (around : Around) (h : Here) (spot : Spot) (low : ℕ) (r : RegisterTable) (living : List ℕ)
        → (spot.levels ≡ h.levels) × (spot.innermost ≡ h.innermost) → Scene w n s → AreFound s.entities (scope_for living)
        → around.result ≡ h.result → (around.loops ≡ h.looped) × (around.breaks ≡ h.breaks)
        → CanDeclare w.unit living a → StatementPlaced AreRangedAsserts AreRangedClauses a → StatementTyped s around a → KeptIn w.plan s a → HasNumbers a → low ≤ next_register r → next_register (after_statement w.unit w.plan a r) ≤ w.registers
        → DoSame h spot low r.bound living (exec_with T a w.call (suc n)) (statement w.unit w.plan spot r a)
    statement_follows (Empty at) s around h spot low r living stands g sees result looped c f q kp l behind enough = nothing_does h spot low r.bound living
    statement_follows (Eval at e) s around h spot low r living stands g sees result looped c f q kp l behind enough = effect_does h spot low r.bound living s g r.kinds e q l behind enough
    statement_follows (Block at body) s around h spot low r living stands g sees result looped c f q kp l behind enough =
        let ds = declared_in body in
        let f0 = next-entered ds r in
        let f1 = items_grow w.unit w.plan body (entered ds r) in
        block_does h spot low r living ds (items_with T body w.call (suc n)) (items w.unit w.plan (with_variables (next_register r) ds spot) (entered ds r) body) behind (omega (arith, enough, f0, f1)) c.0
        (λ old room. items_follow body (inner s) around (behind_births w.unit.structs h old ds) (with_variables (next_register r) ds spot) (next_register r + length ds) (entered ds r) (with_numbers ds living)
        stands (scene_inner w n s g) (sees_born s.entities ds living sees) (declared_born ds living) (are_there w.unit ds c.0.local room) result looped
        c.1 f q kp l (omega (arith, f0)) enough)
    statement_follows (If at e a b) s around h spot low r living stands g sees result looped c f q kp l behind enough =
        let r1 = with_kinds (takes w.unit e) r in
        let r2 = after_statement w.unit w.plan a r1 in
        let f1 = more_kinds (takes w.unit e) r in
        let f2 = statement_grows w.unit w.plan a r1 in
        let f3 = else_grows w.unit w.plan b r2 in
        choice_does h spot low r.bound living s g r.kinds e (exec_with T a w.call (suc n)) (else_with T b w.call (suc n)) (statement w.unit w.plan spot r1 a) (else_part w.unit w.plan spot r2 b) q.0 l.0 behind (omega (arith, enough, f2, f3))
        (statement_follows a s around h spot low r1 living stands g sees result looped c.1 f.0 q.1 kp.0 l.1 (omega (arith, behind, f1)) (omega (arith, enough, f3)))
        (behind_first_part a h spot low r1 living (else_with T b w.call (suc n)) (else_part w.unit w.plan spot r2 b) c.0
        (else_follows b s around h spot low r2 living stands g sees result looped c.2 f.1 q.2 kp.1 l.2 (omega (arith, behind, f1, f2)) enough))
    statement_follows (While at annots e a) s around h spot low r living stands g sees result looped c f q kp l behind enough =
        let r1 = before_body w.unit w.plan annots (Some e) r in
        let f1 = turn_grows w.unit w.plan annots None (after_statement w.unit w.plan a r1) in
        turns_do h spot low living s g r annots (Some e) None a f.0 (λ scope names. kp.0 scope (sees_found s.entities living scope names sees)) q.0 l.0 tt tt c.0 behind enough
        (λ base high wide fits. statement_follows a s (in_loop around) (loops.in_body w h base spot low r1.bound living n) (target.in_loop spot) high r1 living (refl, refl) g sees result (refl, refl) c.1 f.1 q.1 kp.1 l.1 fits
        (omega (arith, enough, f1)))
    statement_follows (Do at a e) s around h spot low r living stands g sees result looped c f q kp l behind enough = λ regs from t x le.
        let r1 = after_statement w.unit w.plan a r in
        let k = spot.levels + 1 in
        let base = length from.store in
        let here = loops.in_body w h base spot low r.bound living n in
        let there = loops.in_turn w h base spot low r.bound living n in
        loops.loop_follows w h base spot low r.bound living n from _ regs t NoStatement NoStatement (statement w.unit w.plan (target.in_loop spot) r a) (test w.unit r1.bound r1.kinds k e)
        (loops.do_turns_follow w h base spot low r.bound living n low (omega arith) (exec_with T a w.call (suc n)) (statement w.unit w.plan (target.in_loop spot) r a)
        (statement_follows a s (in_loop around) here (target.in_loop spot) low r living (refl, refl) g sees result (refl, refl) c.1 f q.0 kp l.0 behind (omega (arith, enough, more_kinds (takes w.unit e) r1)))
        (source.condition_of T e w.call) (test w.unit r1.bound r1.kinds k e)
        (loops.tests w h base spot low r.bound living n (source.condition_of T e w.call) (prepare w.unit r1.bound r1.kinds e) (condition_result w.unit r1.bound r1.kinds e) (length (r1.kinds ++ takes w.unit e))
        (λ regs from t m le. condition_tested there (target.in_loop spot) low r1.bound living s g r1.kinds e q.1 l.1 (omega (arith, behind, statement_grows w.unit w.plan a r)) enough regs from t
        (meets_behind w there (target.in_loop spot) low a r living regs from t c.0 m) le))
        n regs from t (loops.meets_turn w h base spot low r.bound living n regs from t refl x) le le)
    statement_follows (For at annots first e step a) s around h spot low r living stands g sees result looped c f q kp l behind enough =
        let ds = declared_first first in
        let r1 = entered ds r in
        let r2 = after_first w.unit w.plan first r1 in
        let r3 = before_body w.unit w.plan annots e r2 in
        let f4 = turn_grows w.unit w.plan annots step (after_statement w.unit w.plan a r3) in
        let spot2 = with_variables (next_register r) ds spot in
        let low2 = next_register r + length ds in
        let there = sees_first first s living sees in
        for_follows at annots first s g around h spot low r living e step a c.0 c.1 f.0 (λ scope names. kp.0 scope (sees_found (behind_first (inner s) first).entities (with_numbers ds living) scope names there))
        f.1 q.0 l.0 q.1 l.1 q.2 l.3 behind enough
        (λ old base high wide fits.
        statement_follows a (behind_first (inner s) first) (in_loop around) (loops.in_body w (behind_births w.unit.structs h old ds) base spot2 low2 r3.bound (with_numbers ds living) n) (target.in_loop spot2) high r3 (with_numbers ds living)
        (refl, refl) (scene_behind_first w n (inner s) first (scene_inner w n s g)) there result (refl, refl) c.2 f.2 q.3 kp.1 l.2 fits (omega (arith, enough, f4)))
    statement_follows (Break at) s around h spot low r living stands g sees result looped c f q kp l behind enough = λ regs from t x le. break_follows w n h spot low r.bound living from regs t x stands.0 (sym looped.1 ∙ q)
    statement_follows (Continue at) s around h spot low r living stands g sees result looped c f q kp l behind enough = λ regs from t x le. continue_follows w n h spot low r.bound living from regs t x stands.1 (sym looped.0 ∙ q)
    statement_follows (Return at e) s around h spot low r living stands g sees result looped c f q kp l behind enough = returned_does h spot low living s g r e (subst (λ k. Returned s k e) result q) l behind enough at
    statement_follows (Labelled at x a) s around h spot low r living stands g sees result looped c f q kp l behind enough =
        let r1 = passed_label w.unit w.plan (Some x) r in
        let f1 = snapshot_grows w.unit r.bound (Some x) w.plan r.kinds in
        let f2 = statement_grows w.unit w.plan a r1 in
        in_order_same h spot low r.bound living (mark (Some x)) (exec_with T a w.call (suc n)) (snapshot w.unit r.bound (Some x) r.kinds w.plan) (statement w.unit w.plan spot r1 a)
        (λ regs from t y le. passage_follows w n ordered h (AreFound s.entities) low r.bound (Some x) kp.0 r.kinds behind (omega (arith, enough, f2)) regs from t le (sees_found s.entities living from.scope y.names sees) y.standing y.beside)
        (statement_follows a s around h spot low r1 living stands g sees result looped c f q kp.1 l (omega (arith, behind, f1)) enough)
    statement_follows (Switch at e cases) s around h spot low r living stands g sees result looped c f q kp l behind enough =
        let taken = with_kinds (switch_temporaries w.unit e) r in
        let v = length (r.kinds ++ takes w.unit e) in
        let f1 = cases_grow w.unit w.plan cases taken in
        let long1 = length-append (r.kinds ++ takes w.unit e) (value_type (type_of e) ∷ []) in
        let long2 = length-append (r.kinds ++ returned_temporaries w.unit e) (U64 ∷ []) in
        let long3 : length (r.kinds ++ returned_temporaries w.unit e) ≡ suc v = ap length (sym (append_assoc r.kinds (takes w.unit e) (value_type (type_of e) ∷ []))) ∙ long1 ∙ omega arith in
        let long4 : next_register taken ≡ suc (suc v) = ap length (sym (append_assoc r.kinds (returned_temporaries w.unit e) (U64 ∷ []))) ∙ long2 ∙ omega (arith, long3) in
        let f2 = longer r.kinds (takes w.unit e) in
        switch_does h spot low living s g r e cases (promoted q.0) q.1 q.2 l.0 behind long3 (omega (arith, enough, long4, f1))
        (blocks_of_cases w.unit w.plan (target.in_switch spot) taken (length (r.kinds ++ returned_temporaries w.unit e)) 0 0 cases)
        (λ base chosen.
        let inside = switches.in_items w h base (spot.levels + 1) in
        let j = length (r.kinds ++ returned_temporaries w.unit e) in
        subst (λ b. switches.CasesDo w n inside (target.in_switch spot) (suc (suc v)) living j chosen r.bound (cases_with T cases w.call (suc n) chosen) (before b (blocks_of_cases w.unit w.plan (target.in_switch spot) taken j 0 0 cases)))
        (switches.none_begun w.unit w.plan (target.in_switch spot) taken j 0 cases)
        (cases_follow cases s (in_switch around) inside (target.in_switch spot) (suc (suc v)) taken living j chosen (omega (arith, long3)) (promoted q.0) 0 0 chosen
        (switches.all_left chosen) (refl, stands.1) g sees result (looped.0, refl) c f q.3 kp l.1 (omega (arith, long4)) enough))
        at

    -- the cases of a switch from the index i on, of which the first k2 stand in a block that was begun; the first m2 are in front of the chosen one
    cases_follow : (cs : Cases) (s : Sight) (around : Around) (h : Here) (spot : Spot) (low : ℕ) (r : RegisterTable) (living : List ℕ) (j chosen : ℕ) → j < low → (k : CInt) (i k2 m2 : ℕ) → switches.Left chosen i m2
        → (spot.levels ≡ h.levels) × (spot.innermost ≡ h.innermost) → Scene w n s → AreFound s.entities (scope_for living)
        → around.result ≡ h.result → (around.loops ≡ h.looped) × (around.breaks ≡ h.breaks)
        → CasesCanDeclare w.unit living cs → CasesPlaced AreRangedAsserts AreRangedClauses cs → CasesTyped s around k cs → CasesKept w.plan s cs → CasesHaveNumbers i cs
        → low ≤ next_register r → next_register (after_cases w.unit w.plan cs r) ≤ w.registers
        → switches.CasesDo w n h spot low living j chosen r.bound (cases_with T cs w.call (suc n) m2) (before (next_cases w.unit w.plan spot r j i k2 cs) (blocks_of_cases w.unit w.plan spot r j i k2 cs))
    cases_follow NoCase s around h spot low r living j chosen lt k i k2 m2 left stands g sees result looped c f q kp l behind enough = λ regs from t x le has plan. nothing_does h spot low r.bound living regs from t x le
    cases_follow (AnotherCase at value body rest) s around h spot low r living j chosen lt k i zero m2 left stands g sees result looped c f q kp l behind enough = λ regs from t x le has plan.
        let later = after_items w.unit w.plan body r in
        let f1 = items_grow w.unit w.plan body r in
        let f2 = cases_grow w.unit w.plan rest later in
        let code = items w.unit w.plan spot r body in
        let others = blocks_of_cases w.unit w.plan spot later j (suc i) others_in_block rest in
        let in_block = before (next_cases w.unit w.plan spot later j (suc i) others_in_block rest) others in
        subst (λ a. Follows w h low regs Next from (cases_with T (AnotherCase at value body rest) w.call (suc n) m2 from) a) (sym (switches.block_is w n t j chosen regs has spot r later i code others rest))
        (switches.case_follows w n h spot low living j chosen lt r.bound later.bound i (cases_with T (AnotherCase at value body rest) w.call (suc n))
        (items_with T body w.call (suc n)) (cases_with T rest w.call (suc n)) code in_block refl (λ m3. refl)
        (items_follow body s around h spot low r living stands g sees
        (subst (λ ds. DeclarationsFound ds (scope_for living)) (sym (nothing_declared body f.0)) tt) (subst (AreThere w.unit) (sym (nothing_declared body f.0)) tt) result looped c.1 f.1 q.1 kp.0 l.0 behind (omega (arith, enough, f2)))
        (λ regs2 s2 t2 x2. meets_behind_items w h spot low body r living regs2 s2 t2 c.0 x2)
        (λ m3 left3. cases_follow rest s around h spot low later living j chosen lt k (suc i) others_in_block m3 left3 stands g sees result looped c.2 f.2 q.2 kp.1 l.1 (omega (arith, behind, f1)) enough)
        m2 left regs from t x le has plan)
    cases_follow (AnotherCase at value body rest) s around h spot low r living j chosen lt k i (suc k2) m2 left stands g sees result looped c f q kp l behind enough =
        let later = after_items w.unit w.plan body r in
        let f1 = items_grow w.unit w.plan body r in
        let f2 = cases_grow w.unit w.plan rest later in
        let others = before (next_cases w.unit w.plan spot later j (suc i) k2 rest) (blocks_of_cases w.unit w.plan spot later j (suc i) k2 rest) in
        switches.case_follows w n h spot low living j chosen lt r.bound later.bound i (cases_with T (AnotherCase at value body rest) w.call (suc n))
        (items_with T body w.call (suc n)) (cases_with T rest w.call (suc n)) (items w.unit w.plan spot r body) others refl (λ m3. refl)
        (items_follow body s around h spot low r living stands g sees
        (subst (λ ds. DeclarationsFound ds (scope_for living)) (sym (nothing_declared body f.0)) tt) (subst (AreThere w.unit) (sym (nothing_declared body f.0)) tt) result looped c.1 f.1 q.1 kp.0 l.0 behind (omega (arith, enough, f2)))
        (λ regs2 s2 t2 x2. meets_behind_items w h spot low body r living regs2 s2 t2 c.0 x2)
        (λ m3 left3. cases_follow rest s around h spot low later living j chosen lt k (suc i) k2 m3 left3 stands g sees result looped c.2 f.2 q.2 kp.1 l.1 (omega (arith, behind, f1)) enough)
        m2 left

    pub else_follows : (b : ElsePart) (s : Sight) (around : Around) (h : Here) (spot : Spot) (low : ℕ) (r : RegisterTable) (living : List ℕ)
        → (spot.levels ≡ h.levels) × (spot.innermost ≡ h.innermost) → Scene w n s → AreFound s.entities (scope_for living)
        → around.result ≡ h.result → (around.loops ≡ h.looped) × (around.breaks ≡ h.breaks)
        → ElseCanDeclare w.unit living b → ElsePlaced AreRangedAsserts AreRangedClauses b → ElseTyped s around b → ElseKept w.plan s b → ElseHasNumbers b → low ≤ next_register r → next_register (after_else w.unit w.plan b r) ≤ w.registers
        → DoSame h spot low r.bound living (else_with T b w.call (suc n)) (else_part w.unit w.plan spot r b)
    else_follows NoElse s around h spot low r living stands g sees result looped c f q kp l behind enough = nothing_does h spot low r.bound living
    else_follows (Else a) s around h spot low r living stands g sees result looped c f q kp l behind enough = statement_follows a s around h spot low r living stands g sees result looped c f q kp l behind enough

    pub items_follow : (is : BlockItems) (s : Sight) (around : Around) (h : Here) (spot : Spot) (low : ℕ) (r : RegisterTable) (living : List ℕ)
        → (spot.levels ≡ h.levels) × (spot.innermost ≡ h.innermost) → Scene w n s → AreFound s.entities (scope_for living)
        → DeclarationsFound (declared_in is) (scope_for living) → AreThere w.unit (declared_in is) → around.result ≡ h.result → (around.loops ≡ h.looped) × (around.breaks ≡ h.breaks)
        → ItemsCanDeclare w.unit living is → ItemsPlaced AreRangedAsserts AreRangedClauses is → ItemsTyped s around is → ItemsKept w.plan s is → HaveNumbers is → low ≤ next_register r → next_register (after_items w.unit w.plan is r) ≤ w.registers
        → DoSame h spot low r.bound living (items_with T is w.call (suc n)) (items w.unit w.plan spot r is)
    items_follow NoItem s around h spot low r living stands g sees have local result looped c f q kp l behind enough = nothing_does h spot low r.bound living
    items_follow (Then (Declare ds) rest) s around h spot low r living stands g sees have local result looped c f q kp l behind enough =
        let r1 = with_kinds (declaration_temporaries w.unit ds) r in
        let f1 = more_kinds (declaration_temporaries w.unit ds) r in
        let f2 = items_grow w.unit w.plan rest r1 in
        in_order_same h spot low r.bound living (initialise_all T ds w.call) (items_with T rest w.call (suc n)) (initialisers.initialise_all w.unit r.bound r.kinds ds) (items w.unit w.plan spot r1 rest)
        (λ regs from t x le. reached_follows w h Anything low regs from (initialise_all T ds w.call from) (runs w n t (initialisers.initialise_all w.unit r.bound r.kinds ds) regs) x.standing.kept
        (initials_reach w n h low r.bound ds s g (there_front w.unit ds (declared_in rest) local) q.0 l.0 r.kinds behind (omega (arith, enough, f2)) regs from t le x.standing x.beside))
        (items_follow rest (with_objects s ds) around h spot low r1 living stands (scene_with_all w n s ds g) (found_with_all s ds (scope_for living) sees (declarations_found-append ds (declared_in rest) (scope_for living) have).0)
        (declarations_found-append ds (declared_in rest) (scope_for living) have).1 (there_back w.unit ds (declared_in rest) local) result looped c.1 f.1 q.1 kp.1 l.1 (omega (arith, behind, f1)) enough)
    items_follow (Then (Specify at t) rest) s around h spot low r living stands g sees have local result looped c f q kp l behind enough =
        items_follow rest s around h spot low r living stands g sees have local result looped c.1 f.1 q.1 kp.1 l.1 behind enough
    items_follow (Then (Run a) rest) s around h spot low r living stands g sees have local result looped c f q kp l behind enough =
        let r1 = after_statement w.unit w.plan a r in
        let f1 = statement_grows w.unit w.plan a r in
        let f2 = items_grow w.unit w.plan rest r1 in
        in_order h spot low r.bound r1.bound living (exec_with T a w.call (suc n)) (items_with T rest w.call (suc n)) (statement w.unit w.plan spot r a) (items w.unit w.plan spot r1 rest)
        (statement_follows a s around h spot low r living stands g sees result looped c.0.1 f.0 q.0 kp.0 l.0 behind (omega (arith, enough, f2)))
        (λ regs from t x. meets_behind w h spot low a r living regs from t c.0.0 x)
        (items_follow rest s around h spot low r1 living stands g sees have local result looped c.1 f.1 q.1 kp.1 l.1 (omega (arith, behind, f1)) enough)
    items_follow (Then (Asserts annots) rest) s around h spot low r living stands g sees have local result looped c f q kp l behind enough =
        let r1 = after_item w.unit w.plan (Asserts annots) r in
        let f1 = behind_grows w.unit r.bound w.plan [] r.kinds annots in
        let f2 = items_grow w.unit w.plan rest r1 in
        in_order_same h spot low r.bound living (checks annots) (items_with T rest w.call (suc n)) (assertions w.unit r.bound w.plan [] r.kinds annots) (items w.unit w.plan spot r1 rest)
        (λ regs from t x le. assertions_follow w n h low r.bound annots f.0 r.kinds behind (omega (arith, enough, f2)) regs from t le (kp.0 from.scope (sees_found s.entities living from.scope x.names sees)) x.standing x.beside)
        (items_follow rest s around h spot low r1 living stands g sees have local result looped c.1 f.1 q.1 kp.1 l.1 (omega (arith, behind, f1)) enough)
