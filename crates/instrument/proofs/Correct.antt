-- Runs: the translation of a program ends, prints and spends steps as the program does, up to an undefined operation.
use Rattle.std.proofs.Common.{◌≡◌, ℕ, suc, ◌+◌, ◌≤◌, ℤ, pos, Bool, true, false, cond, ◌&&◌, if◌then◌else◌, nat_eq, nat_lt, List, [], ◌∷◌, ◌++◌, length, Option, Some, None, refl, sym, ap, ◌∙◌, subst, arith, length-append, ◌<◌, ◌⊎◌, inl, inr}
use Rattle.std.proofs.lemmas.List.{append-nil}
use Rattle.std.proofs.lemmas.Bool.{eq-eqb}
use Rattle.std.proofs.lemmas.Bool.Decides.{nat_tests}
use Rattle.std.specs.Prelude.{slice_get, map, bytes_eq, codes}
use Rattle.c_syntax.specs.declared.types.CInt.TheVariants.{I32}
use Rattle.c_syntax.specs.declared.types.Segment.TheVariants.{Frames}
use Rattle.c_syntax.specs.declared.expression.Use.{Use}
use Rattle.c_syntax.specs.Ctypes.{PlainType, int_type}
use Rattle.c_syntax.specs.Expressions.{Expressions}
use Rattle.c_syntax.specs.Statements.{Declaration}
use Rattle.c_syntax.specs.Programs.{FunctionContract, Function, TranslationUnit}
use Rattle.c_model.specs.Integers.{fits}
use Rattle.c_model.specs.Limits.{most_frames}
use Rattle.c_model.specs.Memory.{Value, Integer, Store}
use Rattle.c_model.specs.State.{State, Input, Outcome, Normal, on_outcome, ◌>>=◌, ◌>>◌, frame, births, mark, called, answered}
use Rattle.c_model.specs.State as source
use Rattle.c_model.specs.ContractChecks.{entry}
use Rattle.c_model.specs.Meaning.{Callee, Tables, tables_of, global_scope, initialise_all, is_definition, body_with, call_of, has_name, function_named, after_main, main_with, start, ran_to, ran, run}
use Rattle.c_model.specs.MonitoredRuns.{machine_end}
use Rattle.c_model.specs.MonitoredRuns as machine
use Rattle.c_model.specs.Reports.{Extends, agrees_at, Agrees}
use Rattle.c_model.specs.ExpressionTyping.{Sight, inner, name_at, same_type}
use Rattle.c_model.specs.UnitTyping.{room_fault, main_fault, has_no_parameters, no_main, with_parameters}
use Rattle.c_model.specs.TypedTrees.{Calls}
use Rattle.c_model.proofs.Agreement.{extends_trans}
use Rattle.c_model.proofs.TypedParts.{same_type_is}
use Rattle.mon_syntax.specs.declared.tree.MonType.{MonType}
use Rattle.mon_syntax.specs.Registers.{no_registers, with_kinds}
use Rattle.mon_syntax.specs.Meaning.{Result, Done, Stops, Next, writes, then_do, at_next, at_label, at_return, exec_all, exit_of, registers, level, body_runs, zero_result}
use Rattle.mon_syntax.specs.Meaning as monitored
use Rattle.mon_syntax.specs.BlockMemory.{over_blocks, block_run, block_of_global}
use Rattle.mon_syntax.specs.LiveBlocks.{LiveBlock, live_in}
use Rattle.mon_syntax.specs.Trees.{MonFunction, MonStatements, Then, Labelled, Return, Register}
use Rattle.c_effects.specs.Expressions.{before, one}
use Rattle.track_scopes.specs.Blocks.{entered as entered_with, deaths, with_born}
use Rattle.c_effects.proofs.Sequences.{before_none}
use Rattle.instrument.specs.Translation.{at_leave, at_start, behind_own, behind_pre, body_code, body_part, contract_types, first_flag, first_own, first_pointer, held_of, last_return, own_types, plan_of, result_register}
use Rattle.instrument.specs.Translation.{outermost, monitored_globals, all_global_temporaries, initialise_globals, front, front_temporaries, code_of, parameters, function_of}
use Rattle.instrument.specs.Translation as target
use Rattle.instrument.specs.Translation.{functions_from, function_name, translated, result_of, value_types, index_of_main}
use Rattle.c_simulation.specs.Keeping.{GiveTerms, StandBelow}
use Rattle.c_simulation.specs.Labels.{leave_label}
use Rattle.c_simulation.specs.Standing.{Target, Did, Setting, Here, Keeps, Beside, Bounded, runs, Anchored}
use Rattle.c_simulation.proofs.Results.{writes_none, written_then, before_is}
use Rattle.c_simulation.specs.Following.{written}
use Rattle.c_simulation.proofs.Following.{onward_same}
use Rattle.c_simulation.specs.Following.{Passes, IsResult, left_by, Follows, GoesOn, Breaks, Continues, IsLeft, IsOver, IsUndefined}
use Rattle.instrument.proofs.Births.{names_of, with_numbers}
use Rattle.instrument.proofs.Blocks.{Meets, meets_after}
use Rattle.instrument.proofs.CallEnds.{at_body, zero_of}
use Rattle.instrument.proofs.CheckedCalls.{CallLaws, own_long, own_low}
use Rattle.instrument.proofs.ContractCalls.{inside, here_inside}
use Rattle.instrument.proofs.Functions.{setting, of_function, how_many, MeetsBody, registers_full}
use Rattle.instrument.proofs.KeptPlans.{plan_stands, registers_keep}
use Rattle.instrument.proofs.Passages.{IsPassed, ItemsKept}
use Rattle.annot_simulation.specs.Plan.{planned}
use Rattle.annot_simulation.specs.Snapshots.{snapshot}
use Rattle.annot_simulation.specs.ContractCode.{entry_code, leave_code}
use Rattle.instrument.proofs.Programs.{Parts, picked, index_by, IsPicked, is_picked, has_bytes, main_index_is, index_below, no_parameters}
use Rattle.instrument.proofs.Bodies.{LiteralsStand, HasBody, has_body, has_room, body_follows, inside_follows, plan_fits}
use Rattle.instrument.proofs.MainCalls.{ran_output, brace, BodyAnswers, MainAnswers, main_answers, main_follows}
use Rattle.instrument.proofs.FileScope.{AreTexts, text_octets}
use Rattle.c_model.specs.AcceptedPrograms.{AreConstant}
use Rattle.instrument.proofs.Sights.{GlobalsInPlace}
use Rattle.instrument.proofs.Globals.{HasGlobals, globals_at_start}
use Rattle.instrument.proofs.Starts.{pointers, literal_points, anchored_at_start, start_blocks}
use Rattle.c_simulation.proofs.Registers.{same_all}
use Rattle.c_initialisers.specs.Letters.{InitialsHaveLetters}
use Rattle.c_simulation.specs.SameRegisters.{Stays}
use Rattle.instrument.proofs.Deaths.{all_before}
use Rattle.c_simulation.proofs.Calls.{IsCalled}
use Rattle.instrument.proofs.Callees.{AnnotationsStand, main, functions, calls_at}
use Rattle.instrument.proofs.Own.{AreOwn}
use Rattle.instrument.proofs.Numbers.{numbers_in}
use Rattle.instrument.proofs.Objects.{names_at_start}

-- ---- main

-- the definition of main, which takes nothing and gives an `int`
pub record IsMain (names : List (List ℕ)) (fs : List Function) : Type 0 where
  pub function : Function
  pub first : picked (has_bytes names (codes "main")) fs ≡ Some function
  pub result : function.result ≡ int_type
  pub params : function.params ≡ []

pub is_main : (names : List (List ℕ)) (fs : List Function) → main_fault names fs ≡ None → IsMain names fs
is_main names [] e = absurd cc
is_main names (f ∷ fs) e = by (λ h. is_main names fs h) (is_definition f && bytes_eq (name_at names f.name) (codes "main")) refl e
  where
    typed : (a b : Bool) → same_type f.result int_type ≡ a → has_no_parameters f.params ≡ b → cond (a && b) None (Some (no_main f.place)) ≡ None → (f.result ≡ int_type) × (f.params ≡ [])
    typed true true x y h = (same_type_is f.result int_type x, no_parameters f.params y)
    typed true false x y h = absurd cc
    typed false b x y h = absurd cc

    by : (main_fault names fs ≡ None → IsMain names fs) → (t : Bool) → (is_definition f && bytes_eq (name_at names f.name) (codes "main")) ≡ t
        → cond t (cond (same_type f.result int_type && has_no_parameters f.params) None (Some (no_main f.place))) (main_fault names fs) ≡ None → IsMain names (f ∷ fs)
    by rest true x h =
        let y = typed (same_type f.result int_type) (has_no_parameters f.params) refl refl h in
        record { function = f; first = ap (λ t. if t then Some f else picked (has_bytes names (codes "main")) fs) x; result = y.0; params = y.1 }
    by rest false x h =
        let i = rest h in
        record { function = i.function; first = ap (λ t. if t then Some f else picked (has_bytes names (codes "main")) fs) x ∙ i.first; result = i.result; params = i.params }

-- it is among the functions that are translated
pub main_below : (p : TranslationUnit) → main_fault p.names p.funcs ≡ None → index_of_main p.names p.funcs < length (translated p).functions
main_below p e =
    let f = is_main p.names p.funcs e in
    let index = index_of_main p.names p.funcs in
    subst (λ i. i < length (functions_from p index 0 p.funcs)) (sym (main_index_is p.names p.funcs)) (index_below p (has_bytes p.names (codes "main")) index 0 p.funcs f.function f.first)

-- the source finds it
has_bytes_is : (names : List (List ℕ)) (x : ℕ) → has_name (slice_get names x) (codes "main") ≡ bytes_eq (name_at names x) (codes "main")
has_bytes_is names x = by (slice_get names x)
  where
    by : (o : Option (List ℕ)) → has_name o (codes "main") ≡ bytes_eq (elim o [ None ↦ [] | Some w ↦ w ]) (codes "main")
    by None = refl
    by (Some w) = refl

source_finds : (p : TranslationUnit) (fs : List Function) → function_named p (codes "main") fs ≡ picked (has_bytes p.names (codes "main")) fs
source_finds p [] = refl
source_finds p (f ∷ fs) =
    ap (λ t. if is_definition f && t then Some f else function_named p (codes "main") fs) (has_bytes_is p.names f.name)
    ∙ ap (λ r. if is_definition f && bytes_eq (name_at p.names f.name) (codes "main") then Some f else r) (source_finds p fs)

-- and so does the target, by its name
module _ (p : TranslationUnit) (m : ℕ) where
  abbrev test : Function → Bool
  test = has_bytes p.names (codes "main")

  named_main : (k : ℕ) (f : Function) → m ≡ k → (function_of p m k f).name ≡ codes "main"
  named_main k f e = ap (λ t. if t then codes "main" else function_name k (name_at p.names f.name)) (eq-eqb k m (sym e))

  named_other : (k i : ℕ) (f : Function) → m ≡ k + suc i → (function_of p m k f).name ≡ function_name k (name_at p.names f.name)
  named_other k i f e = let differs : nat_eq k m ≡ false = grind (arith, nat_tests) in ap (λ t. if t then codes "main" else function_name k (name_at p.names f.name)) differs

  target_finds : (k : ℕ) (fs : List Function) (f : Function) → m ≡ k + index_by test fs → picked test fs ≡ Some f → monitored.function_named (codes "main") (functions_from p m k fs) ≡ Some (function_of p m m f)
  target_finds k [] f e h = absurd cc
  target_finds k (g ∷ fs) f e h = by (λ j x y. target_finds j fs f x y) (is_definition g) (test g) refl refl e h
    where
      by : ((j : ℕ) → m ≡ j + index_by test fs → picked test fs ≡ Some f → monitored.function_named (codes "main") (functions_from p m j fs) ≡ Some (function_of p m m f)) → (a b : Bool) → is_definition g ≡ a → test g ≡ b
          → m ≡ k + (if a then (if b then 0 else suc (index_by test fs)) else index_by test fs) → (if a && b then Some g else picked test fs) ≡ Some f
          → monitored.function_named (codes "main") (functions_from p m k (g ∷ fs)) ≡ Some (function_of p m m f)
      by rest true true x y i j =
          let same : g ≡ f = cc in
          let here : m ≡ k = omega (arith, i) in
          ap (λ a. monitored.function_named (codes "main") (if a then function_of p m k g ∷ functions_from p m (suc k) fs else functions_from p m k fs)) x
          ∙ ap (λ w. if bytes_eq w (codes "main") then Some (function_of p m k g) else monitored.function_named (codes "main") (functions_from p m (suc k) fs)) (named_main k g here)
          ∙ ap (λ n. Some (function_of p m n g)) (sym here) ∙ ap (λ c. Some (function_of p m m c)) same
      by rest true false x y i j =
          ap (λ a. monitored.function_named (codes "main") (if a then function_of p m k g ∷ functions_from p m (suc k) fs else functions_from p m k fs)) x
          ∙ ap (λ w. if bytes_eq w (codes "main") then Some (function_of p m k g) else monitored.function_named (codes "main") (functions_from p m (suc k) fs)) (named_other k (index_by test fs) g i)
          ∙ rest (suc k) (omega (arith, i)) j
      by rest false b x y i j =
          ap (λ a. monitored.function_named (codes "main") (if a then function_of p m k g ∷ functions_from p m (suc k) fs else functions_from p m k fs)) x
          ∙ rest k i j

-- ---- the ends

abbrev ran_with : machine.Final → List ℕ → ℕ → machine.Ran
ran_with e o n = record { final = e; output = o; left = n }

-- the same end
ends_alike : (e : source.Final) (z : machine.Final) (s : State) (b : machine.Ran) → machine_end e ≡ Some z → b ≡ ran_with z s.output s.steps → Agrees (ran_to e s) b
ends_alike e z s b same h = subst (λ f. agrees_at f s.output s.steps b) (sym same) h

-- what main's body does, and the call's end
module _ (w : Setting) (base : ℕ) (blocks : List LiveBlock) (low : ℕ) (regs : List Value) (s0 from : State) (empty : from.output ≡ []) (unchecked : w.result ≡ None) where
  abbrev ended : Did → machine.Ran
  ended q = monitored.ran over_blocks (then_do q (at_return over_blocks (Integer (pos 0))))

  ends_agree : (r : Outcome (Unit {0})) (q : Did) → Follows w (at_body base blocks int_type) low regs Next from r q → Agrees (ran (answered s0 r)) (ended q)
  ends_agree r q (GoesOn s after t o same keeps l b e e') =
      subst (λ r. Agrees (ran (answered s0 r)) (ended q)) (sym e)
      (ap ended e' ∙ ap (λ x. ran_with (machine.Exits (pos 0)) x t.steps) (append-nil o ∙ sym (l.output ∙ ap (λ x. x ++ o) empty)) ∙ ap (ran_with (machine.Exits (pos 0)) s.output) b.steps)
  ends_agree r q (Breaks s after t o i m g2 l b e e') = absurd cc
  ends_agree r q (Continues s after t o i m g2 l b e e') = absurd cc
  ends_agree r q (IsLeft None s after t o i same keeps holds l b e e') = absurd i
  ends_agree r q (IsLeft (Some v) s after t o i same keeps holds l b e e') =
      let is : (z : ℤ) × (v ≡ Integer z) × (fits I32 z ≡ true) = i in
      let returns : r ≡ source.Stop (source.Leaves (source.Returns (Some (Integer is.0)))) s = e ∙ ap (λ v. source.Stop (source.Leaves (source.Returns (Some v))) s) is.1 in
      let given : q ≡ Done (monitored.Returns (Some (Integer is.0))) t o = e' ∙ ap (λ u. Done (left_by u (Some v) after) t o) unchecked ∙ ap (λ v. Done (monitored.Returns (Some v)) t o) is.1 in
      subst (λ r. Agrees (ran (answered s0 r)) (ended q)) (sym returns)
      (ap ended given ∙ ap (λ x. ran_with (machine.Exits is.0) x t.steps) (append-nil o ∙ sym (l.output ∙ ap (λ x. x ++ o) empty)) ∙ ap (ran_with (machine.Exits is.0) s.output) b.steps)
  ends_agree r q (IsOver y z s o d e l e') =
      subst (λ r. Agrees (ran (answered s0 r)) (ended q)) (sym e)
      (ends_alike y z s (ended q) d (ap ended e' ∙ ap (λ x. ran_with z x s.steps) (sym (l ∙ ap (λ x. x ++ o) empty))))
  ends_agree r q (IsUndefined at s o e l ext) =
      let end = then_do q (at_return over_blocks (Integer (pos 0))) in
      let far : Extends o (written end) = extends_trans o (written q) (written end) ext (written_then q (at_return over_blocks (Integer (pos 0)))) in
      subst (λ r. Agrees (ran (answered s0 r)) (ended q)) (sym e)
      (record { rest = far.rest; is = ran_output end ∙ far.is ∙ ap (λ x. x ++ far.rest) (sym (l ∙ ap (λ x. x ++ o) empty)) })

-- without a contract nothing is asked of what main's body gives
not_demanded : (r : Outcome (Unit {0})) → after_main None [] r ≡ r
not_demanded (Normal u s) = refl
not_demanded (source.Stop (source.Leaves source.Breaks) s) = refl
not_demanded (source.Stop (source.Leaves source.Continues) s) = refl
not_demanded (source.Stop (source.Leaves (source.Returns None)) s) = refl
not_demanded (source.Stop (source.Leaves (source.Returns (Some v))) s) = refl
not_demanded (source.Stop (source.Over e) s) = refl
not_demanded (source.Stop source.Stuck s) = refl

-- ---- the globals

-- what is known of the globals and literals of a program
pub record GlobalsKnown (p : TranslationUnit) : Type 0 where
  pub places : GlobalsInPlace p
  pub constant : AreConstant p.globals
  pub letters : InitialsHaveLetters p.globals
  pub texts : AreTexts p.texts
  pub room : room_fault p ≡ None
  pub own : AreOwn p.globals

has_globals : (w : Setting) → GlobalsKnown w.unit → w.globals ≡ pointers w.unit → HasGlobals w
has_globals w k e = record { places = k.places; constant = k.constant; letters = k.letters; texts = k.texts; room = k.room; own = k.own; pointers = e }

-- what stands in front of main's body, and then main
module _ (w : Setting) (low : ℕ) (regs : List Value) (from : State) (empty : from.output ≡ []) (unchecked : w.result ≡ None) (x : State → Outcome (Unit {0})) (g : List Value → Target → Did) (z : Value) where
  abbrev goes_on : Did → machine.Ran
  goes_on q = monitored.ran over_blocks (then_do (then_do q (at_next g)) (at_return over_blocks z))

  front_agrees : (r : Outcome (Unit {0})) (q : Did)
      → ((s : State) (after : List Value) (t : Target) (o : List ℕ) → Stays w.plan_from w.plan_to low regs after → Keeps w.plan s.marks after → Passes from s o → Beside w s.store s t
      → Agrees (ran (x s)) (monitored.ran over_blocks (then_do (writes o (g after t)) (at_return over_blocks z))))
      → Follows w (at_body 0 [] int_type) low regs Next from r q → Agrees (ran (on_outcome r (λ _. x))) (goes_on q)
  front_agrees r q go (GoesOn s after t o same keeps l b e e') =
      subst (λ r. Agrees (ran (on_outcome r (λ _. x))) (goes_on q)) (sym e) (subst (λ q. Agrees (ran (x s)) (goes_on q)) (sym e') (go s after t o same keeps l b))
  front_agrees r q go (Breaks s after t o i m g2 l b e e') = absurd cc
  front_agrees r q go (Continues s after t o i m g2 l b e e') = absurd cc
  front_agrees r q go (IsLeft None s after t o i same keeps holds l b e e') = absurd i
  front_agrees r q go (IsLeft (Some v) s after t o i same keeps holds l b e e') =
      let is : (z : ℤ) × (v ≡ Integer z) × (fits I32 z ≡ true) = i in
      let returns : r ≡ source.Stop (source.Leaves (source.Returns (Some (Integer is.0)))) s = e ∙ ap (λ v. source.Stop (source.Leaves (source.Returns (Some v))) s) is.1 in
      let given : q ≡ Done (monitored.Returns (Some (Integer is.0))) t o = e' ∙ ap (λ u. Done (left_by u (Some v) after) t o) unchecked ∙ ap (λ v. Done (monitored.Returns (Some v)) t o) is.1 in
      subst (λ r. Agrees (ran (on_outcome r (λ _. x))) (goes_on q)) (sym returns)
      (ap goes_on given ∙ ap (λ x. ran_with (machine.Exits is.0) x t.steps) (append-nil (o ++ []) ∙ append-nil o ∙ sym (l.output ∙ ap (λ x. x ++ o) empty)) ∙ ap (ran_with (machine.Exits is.0) s.output) b.steps)
  front_agrees r q go (IsOver y v s o d e l e') =
      subst (λ r. Agrees (ran (on_outcome r (λ _. x))) (goes_on q)) (sym e)
      (ends_alike y v s (goes_on q) d (ap goes_on e' ∙ ap (λ x. ran_with v x s.steps) (sym (l ∙ ap (λ x. x ++ o) empty))))
  front_agrees r q go (IsUndefined at s o e l ext) =
      let mid = then_do q (at_next g) in
      let end = then_do mid (at_return over_blocks z) in
      let far : Extends o (written end) = extends_trans o (written mid) (written end) (extends_trans o (written q) (written mid) ext (written_then q (at_next g))) (written_then mid (at_return over_blocks z)) in
      subst (λ r. Agrees (ran (on_outcome r (λ _. x))) (goes_on q)) (sym e)
      (record { rest = far.rest; is = ran_output end ∙ far.is ∙ ap (λ x. x ++ far.rest) (sym (l ∙ ap (λ x. x ++ o) empty)) })

-- ---- the whole run

module _ (p : TranslationUnit) (parts : Parts p p.funcs) (main_is : main_fault p.names p.funcs ≡ None) (known : GlobalsKnown p) (stands : AnnotationsStand p (pointers p)) (input : Input) (n : ℕ) where
  abbrev T : Tables
  T = tables_of p

  abbrev gs : List Value
  gs = pointers p

  anchored : (w : Setting) → w.unit ≡ p → w.globals ≡ gs → (low : ℕ) (regs : List Value) → Anchored w low [] regs (global_scope p)
  anchored w e f low regs =
      subst (λ (u : TranslationUnit). Anchored w low [] regs (global_scope u)) e
      (anchored_at_start w low regs (f ∙ ap pointers (sym e)) (subst (λ (u : TranslationUnit). AreOwn u.globals) (sym e) known.own))

  literals : LiteralsStand p gs
  literals = record { points = λ m x e. literal_points p m x e; octets = λ m. text_octets p.texts m known.texts }

  abbrev found : IsMain p.names p.funcs
  found = is_main p.names p.funcs main_is

  abbrev f : Function
  f = found.function

  abbrev m : ℕ
  m = main p parts gs anchored literals stands

  abbrev fs : List MonFunction
  fs = functions p parts gs anchored literals stands

  main_picked : IsPicked p (has_bytes p.names (codes "main")) m 0 p.funcs f
  main_picked = is_picked p (has_bytes p.names (codes "main")) m p.funcs f parts found.first 0

  abbrev call : Callee
  call = call_of p (suc n)

  abbrev calls : monitored.Calls over_blocks
  calls = level over_blocks gs fs n

  abbrev w : Store → Setting
  w store = setting p gs m m f call calls n store (0 + 1)

  abbrev g : MonFunction
  g = function_of p m m f

  abbrev opens : List Value
  opens = registers over_blocks (g.parameters ++ g.registers) []

  abbrev mine : List MonType
  mine = front_temporaries p (nat_eq m m)

  -- the registers in front of those that the globals' initialisers take
  abbrev in_front : List MonType
  in_front = value_types f.params ++ own_types f

  abbrev entered_target : Target
  entered_target = record { mem = record { store = map block_of_global (monitored_globals p); frames = 0 + 1 }; steps = n; input = input }

  opens_long : length opens ≡ how_many p gs m m f call calls n
  opens_long = registers_full (g.parameters ++ g.registers) [] (omega arith) ∙ length-append g.parameters g.registers

  its_own : nat_eq m m ≡ true
  its_own = eq-eqb m m refl

  body_of_main : HasBody p f main_picked.part
  body_of_main = has_body p f main_picked.part main_picked.definition

  abbrev calls_below : (base : ℕ) (around : List LiveBlock) (active to : ℕ) (result : Option ℕ) (s : Sight) → s.names ≡ main_picked.part.sight.names → s.texts ≡ main_picked.part.sight.texts
      → s.functions ≡ main_picked.part.sight.functions → (u : Use) (t : PlainType) (es : Expressions) → Calls s u t es → IsCalled (of_function p gs m m f call calls n base around active to result) n u t es
  calls_below = λ base around active to result s names texts signatures u t es c.
      calls_at p parts gs anchored literals stands n (of_function p gs m m f call calls n base around active to result) f main_picked.part s names texts signatures u t es c

  kept : ItemsKept (plan_of f) (with_parameters (inner main_picked.part.sight) f.params) body_of_main.items
  kept = stands.kept f main_picked.part body_of_main

  laws : CallLaws p gs m m f call calls n
  laws = stands.laws m f main_picked.part body_of_main call calls n

  no_arguments : length (value_types f.params) ≡ 0
  no_arguments = ap (λ ds. length (value_types ds)) found.params

  -- how many registers there are, in front and with those that the globals' initialisers take
  fits_in : behind_own f ≤ length (own_types f ++ mine) + 0
  fits_in = let a = length-append (value_types f.params) (own_types f) in let b = length-append (own_types f) mine in omega (arith, a, b, no_arguments)

  room : length (in_front ++ all_global_temporaries p p.globals) ≤ how_many p gs m m f call calls n
  room =
      let a = has_room p gs m m f main_picked.part body_of_main call calls n literals calls_below kept in
      let b : length mine ≡ length (all_global_temporaries p p.globals) = ap (λ t. length (front_temporaries p t)) its_own in
      let c = length-append (value_types f.params) (own_types f ++ mine) in
      let d = length-append (own_types f) mine in
      let e = length-append (value_types f.params) (own_types f) in
      let h = length-append in_front (all_global_temporaries p p.globals) in
      omega (arith, a, b, c, d, e, h)

  plan_below : StandBelow (behind_own f) (plan_of f)
  plan_below = plan_stands (planned f) (first_own f) (behind_own f) (plan_fits f)

  keeps_nothing : GiveTerms (plan_of f) [] opens
  keeps_nothing = registers_keep (value_types f.params) (planned f) (contract_types f.result f.contract) (g.parameters ++ g.registers) [] (omega arith) laws.types_are

  -- ---- after the initialisers of globals

  module _ (s : State) (after : List Value) (t : Target) (store_is : t.mem.store ≡ s.store) (frames : t.mem.frames ≡ 1)
      (steps : t.steps ≡ s.steps) (input_is : t.input ≡ s.input) (long : length after ≡ length opens) (keeps : Keeps (plan_of f) s.marks after)
      (bounded : Bounded s.store) (scope : s.scope ≡ global_scope p) (no_calls : s.calls ≡ 0) (le : s.steps ≤ n) (o : List ℕ) (written_is : s.output ≡ o) where
    abbrev entered : State
    entered = record s { calls = s.calls + 1 }

    -- where the label `Pre` was passed
    abbrev marked : State
    marked = record entered { marks = record { label = None; scope = s.scope; store = s.store } ∷ s.marks }

    abbrev here : Here
    here = at_body (length s.store) [] f.result

    abbrev living : List ℕ
    living = with_numbers f.params (numbers_in p.globals)

    -- what meets where there are these parameters
    abbrev MeetsWith : List Declaration → Type 0
    MeetsWith ds =
        Meets (w s.store) here (outermost None (with_born (length (value_types ds ++ (own_types f ++ mine))) ds [])) (length (value_types ds ++ (own_types f ++ mine)) + length ds)
        (entered_with ds (with_kinds (own_types f ++ mine) (with_kinds (value_types ds) no_registers))).bound (with_numbers ds (numbers_in p.globals)) after entered t

    meets_none : MeetsWith []
    meets_none = record {
      standing = record {
        anchored = subst (Anchored (w s.store) (length (own_types f ++ mine) + 0) [] after) (sym scope) (anchored (w s.store) refl refl (length (own_types f ++ mine) + 0) after);
        active = ap (λ k. k + 1) no_calls;
        live = refl;
        since_left = tt;
        before_left = all_before s.store;
        since_loop = tt;
        before_loop = all_before s.store;
        since_call = tt;
        before_call = all_before s.store;
        nested = omega arith;
        deeper = omega arith;
        longer = omega arith;
        bounded = bounded;
        registers = long ∙ opens_long;
        kept = record { below = fits_in; planned = plan_below; given = tt; keeps = keeps };
      };
      beside = record { store_is = store_is; frames = frames; steps = steps; input = input_is };
      inside = tt;
      between = tt;
      outside = tt;
      names = ap names_of scope ∙ names_at_start p;
      result = refl;
    }

    meets_first : MeetsBody p gs m m f call calls n s.store (0 + 1) [] after entered t
    meets_first = subst MeetsWith (sym found.params) meets_none

    abbrev low : ℕ
    low = first_pointer p mine f + length f.params

    abbrev pre_code : MonStatements
    pre_code = snapshot p (at_start p mine f).bound None (at_start p mine f).kinds (plan_of f)

    passed : IsPassed (w s.store) low after None entered t (runs (w s.store) n t pre_code after)
    passed = laws.pre s.store (0 + 1) [] after entered t meets_first le

    meets_marked : MeetsBody p gs m m f call calls n s.store (0 + 1) [] passed.after marked t
    meets_marked =
        meets_after (w s.store) here (outermost None (target.pointers p mine f)) low (at_start p mine f).bound living after passed.after entered marked t t [] passed.stays passed.keeps
        (record { scope = refl; calls = refl; live = refl; longer = omega arith; bounded = bounded; spent = omega arith; output = sym (append-nil s.output); marks = refl })
        (record { store_is = store_is; frames = frames; steps = steps; input = input_is }) meets_first

    abbrev body : State → Outcome (Unit {0})
    body u = body_with T f.body call (suc n) u

    -- the source's main
    abbrev behind : Option FunctionContract → Outcome (Unit {0})
    behind c = (entry c >>= λ hs u. after_main c hs (body u)) marked

    abbrev framed_by : Bool → Outcome (Unit {0})
    framed_by b = cond b (Normal tt (record s { calls = s.calls + 1 })) (source.Stop (source.Over (source.Full Frames)) s)

    abbrev main_framed : Bool → Outcome (Unit {0})
    main_framed b = answered s (on_outcome (on_outcome (on_outcome (framed_by b) (λ _. births T.structs [])) (λ _. mark None)) (λ _. entry f.contract >>= λ hs u. after_main f.contract hs (body u)))

    source_main : main_with T (function_named p (codes "main") p.funcs) call (suc n) s ≡ answered s (behind f.contract)
    source_main =
        ap (λ o. main_with T o call (suc n) s) (source_finds p p.funcs ∙ found.first)
        ∙ ap (λ ds. called (frame >> births T.structs ds >> mark None >> (entry f.contract >>= λ hs u. after_main f.contract hs (body u))) s) found.params
        ∙ framed (nat_lt s.calls most_frames) (ap (λ k. nat_lt k most_frames) no_calls)
      where
        framed : (b : Bool) → b ≡ true → main_framed b ≡ answered s (behind f.contract)
        framed true e = refl
        framed false e = absurd cc

    -- the target's
    abbrev ends : Value → Did → Result Target Value
    ends z q = then_do (writes o q) (at_return over_blocks z)

    abbrev rest : Bool → MonStatements
    rest b = body_code p mine f b f.contract

    pre_is : runs (w s.store) n t (before pre_code (rest true)) after ≡ runs (w s.store) n t (rest true) passed.after
    pre_is =
        before_is gs pre_code (rest true) calls n after t ∙ ap (λ q. then_do q (at_next (exec_all over_blocks gs (rest true) calls n))) passed.is ∙ writes_none (runs (w s.store) n t (rest true) passed.after)

    target_main : ends (zero_of f) (runs (w s.store) n t (code_of p mine f (nat_eq m m)) after) ≡ ends (Integer (pos 0)) (runs (w s.store) n t (rest true) passed.after)
    target_main =
        ap (λ ds. ends (zero_of f) (runs (w s.store) n t (before (parameters p (first_pointer p mine f) 0 ds) (before pre_code (rest (nat_eq m m)))) after)) found.params
        ∙ ap (λ b. ends (zero_of f) (runs (w s.store) n t (before pre_code (rest b)) after)) its_own
        ∙ ap (ends (zero_of f)) pre_is
        ∙ ap (λ k. ends (zero_result over_blocks (result_of k)) (runs (w s.store) n t (rest true) passed.after)) found.result

    -- ---- without a contract

    abbrev plain_code : MonStatements
    plain_code = body_part p (plan_of f) None (target.pointers p mine f) (behind_pre p mine f) f.body

    abbrev did : Did
    did = runs (w s.store) n t plain_code passed.after

    -- what the globals' initialisers wrote is in front
    abbrev silent : State
    silent = record marked { output = [] }

    module _ (none : f.contract ≡ None) where
      body_does : Follows (w s.store) (at_body (length s.store) [] int_type) low passed.after Next marked (body marked) did
      body_does =
          subst (λ k. Follows (w s.store) (at_body (length s.store) [] k) low passed.after Next marked (body marked) did) found.result
          (body_follows p gs m m f main_picked.part body_of_main call calls n literals calls_below kept none s.store (0 + 1) [] passed.after marked t meets_marked le)

      from_silent : Follows (w s.store) (at_body (length s.store) [] int_type) low passed.after Next silent (body marked) (writes o did)
      from_silent =
          onward_same (w s.store) (at_body (length s.store) [] int_type) low passed.after passed.after Next silent marked o (body marked) did (same_all low passed.after)
          (record { scope = refl; calls = refl; live = refl; longer = omega arith; bounded = bounded; spent = omega arith; output = written_is; marks = refl }) body_does

      no_deaths : before plain_code (deaths (target.pointers p mine f)) ≡ plain_code
      no_deaths = ap (λ ds. before plain_code (deaths (with_born (first_pointer p mine f) ds []))) found.params ∙ before_none plain_code

      plain_agrees : Agrees (ran (answered s (behind None))) (monitored.ran over_blocks (ends (Integer (pos 0)) (runs (w s.store) n t (body_code p mine f true None) passed.after)))
      plain_agrees =
          subst (λ r. Agrees (ran (answered s r)) (monitored.ran over_blocks (ends (Integer (pos 0)) (runs (w s.store) n t (body_code p mine f true None) passed.after)))) (sym (not_demanded (body marked)))
          (subst (λ a. Agrees (ran (answered s (body marked))) (monitored.ran over_blocks (ends (Integer (pos 0)) (runs (w s.store) n t a passed.after)))) (sym no_deaths)
          (ends_agree (w s.store) (length s.store) [] low passed.after s silent refl refl (body marked) (writes o did) from_silent))

    -- ---- with a contract

    -- where the call begins, as far as its own setting tells
    abbrev called_at : State
    called_at = record s { calls = 0 }

    module _ (c : FunctionContract) (is : f.contract ≡ Some c) where
      abbrev r : ℕ
      r = result_register f

      abbrev h : ℕ
      h = first_flag f

      abbrev last_flag : ℕ
      last_flag = h + length c.behaviors

      its_plan : StandBelow r (plan_of f)
      its_plan = plan_stands (planned f) (first_own f) r (omega arith)

      own_fits : last_flag ≤ behind_own f
      own_fits = own_long p gs m m f call calls n c is

      own_before : behind_own f ≤ low
      own_before = own_low p gs m m f call calls n c is

      abbrev code : MonStatements
      code = body_part p (plan_of f) (Some r) [] (target.at_body p mine f c) f.body

      abbrev entry_part : MonStatements
      entry_part = entry_code p (behind_pre p mine f).bound h (behind_pre p mine f).kinds c

      abbrev leave_part : MonStatements
      leave_part = leave_code p (behind_pre p mine f).bound (plan_of f) (held_of f) h (at_leave p mine f c) c

      -- nothing dies behind it, and it gives its number
      abbrev whole : MonStatements → MonStatements
      whole last = before entry_part (Then (Labelled (before code (brace r)) leave_label) (before leave_part last))

      last_is : before (deaths (target.pointers p mine f)) (last_return r (result_of f.result)) ≡ one (Return (Some (Register r)))
      last_is =
          ap (λ ds. before (deaths (with_born (first_pointer p mine f) ds [])) (last_return r (result_of f.result))) found.params
          ∙ ap (λ k. last_return r (result_of k)) found.result

      meets_int : Meets (w s.store) (at_body (length s.store) [] int_type) (outermost None (target.pointers p mine f)) low (at_start p mine f).bound living passed.after marked t
      meets_int = subst (λ k. Meets (w s.store) (at_body (length s.store) [] k) (outermost None (target.pointers p mine f)) low (at_start p mine f).bound living passed.after marked t) found.result meets_marked

      answers : BodyAnswers (w s.store) s marked n low passed.after t (outermost None (target.pointers p mine f)) (at_start p mine f).bound living meets_int o written_is r h last_flag its_plan (omega arith) (omega arith) (omega arith) own_fits
          (omega (arith, own_fits, own_before)) c leave_part (before code (brace r)) body entry_part
      answers regs2 begins t2 m2 fewer same =
          let follows = inside_follows p gs m m f main_picked.part body_of_main call calls n literals calls_below kept c is (length begins.store) (live_in begins.store) (0 + 1) [] regs2 begins t2
          (subst (λ k. Meets (inside (w s.store) r h begins) (here_inside begins k) (outermost (Some r) []) low (at_start p mine f).bound living regs2 begins t2) (sym found.result) m2) (omega (arith, fewer, le)) in
          let a = has_room p gs m m f main_picked.part body_of_main call calls n literals calls_below kept in
          subst (λ q. MainAnswers (w s.store) r h low begins regs2 (body begins) (then_do q (at_label leave_label))) (sym (before_is gs code (brace r) calls n regs2 t2))
          (main_answers (w s.store) r h low its_plan (omega arith) (omega arith) (omega (arith, own_fits)) n f found.result begins regs2 (omega (arith, own_fits, own_before, a, same, passed.stays.long, long, opens_long)) (body begins)
          (runs (w s.store) n t2 code regs2) follows)

      apart : (regs2 after2 : List Value) → Stays h last_flag low passed.after regs2 → Stays (first_own f) h low regs2 after2 → Stays (first_own f) (behind_own f) low passed.after after2
      apart regs2 after2 st su = record { long = su.long ∙ st.long; kept = λ j below out. su.kept j below (by j out) ∙ st.kept j below (out_of j out) }
        where
          by : (j : ℕ) → (j < first_own f) ⊎ (behind_own f ≤ j) → (j < first_own f) ⊎ (h ≤ j)
          by j (inl before) = inl before
          by j (inr later) = inr (omega (arith, later, own_fits))

          out_of : (j : ℕ) → (j < first_own f) ⊎ (behind_own f ≤ j) → (j < h) ⊎ (last_flag ≤ j)
          out_of j (inl before) = inl (omega (arith, before))
          out_of j (inr later) = inr (omega (arith, later, own_fits))

      contract_agrees : Agrees (ran (answered s (behind (Some c)))) (monitored.ran over_blocks (ends (Integer (pos 0)) (runs (w s.store) n t (body_code p mine f true (Some c)) passed.after)))
      contract_agrees =
          subst (λ a. Agrees (ran (answered s (behind (Some c)))) (monitored.ran over_blocks (ends (Integer (pos 0)) (runs (w s.store) n t (whole a) passed.after)))) (sym last_is)
          (main_follows (w s.store) s marked n low passed.after t (outermost None (target.pointers p mine f)) (at_start p mine f).bound living meets_int o written_is r h last_flag its_plan (omega arith) (omega arith) (omega arith) own_fits
          (omega (arith, own_fits, own_before)) c leave_part (before code (brace r)) body entry_part (laws.entry c is called_at [] passed.after marked t meets_marked le) answers
          (λ hs i begins to regs2 after2 t2 o2 many fit holds keeps2 flagged su st l b.
          laws.leave c is called_at [] passed.after marked t meets_marked le hs (Some (Integer i)) to after2 t2 o2 many (subst (λ k. IsResult k (Some (Integer i))) (sym found.result) (i, refl, fit)) holds keeps2 flagged
          (apart regs2 after2 st su) l b))

    main_agrees : Agrees (ran (main_with T (function_named p (codes "main") p.funcs) call (suc n) s)) (monitored.ran over_blocks (ends (zero_of f) (runs (w s.store) n t (code_of p mine f (nat_eq m m)) after)))
    main_agrees =
        subst (λ a. Agrees (ran a) (monitored.ran over_blocks (ends (zero_of f) (runs (w s.store) n t (code_of p mine f (nat_eq m m)) after)))) (sym source_main)
        (subst (λ b. Agrees (ran (answered s (behind f.contract))) (monitored.ran over_blocks b)) (sym target_main) (by f.contract refl))
      where
        by : (c : Option FunctionContract) → f.contract ≡ c → Agrees (ran (answered s (behind f.contract))) (monitored.ran over_blocks (ends (Integer (pos 0)) (runs (w s.store) n t (body_code p mine f true f.contract) passed.after)))
        by None e = subst (λ c. Agrees (ran (answered s (behind c))) (monitored.ran over_blocks (ends (Integer (pos 0)) (runs (w s.store) n t (body_code p mine f true c) passed.after)))) (sym e) (plain_agrees e)
        by (Some c) e = subst (λ c. Agrees (ran (answered s (behind c))) (monitored.ran over_blocks (ends (Integer (pos 0)) (runs (w s.store) n t (body_code p mine f true c) passed.after)))) (sym e) (contract_agrees c e)

  index_is : m ≡ 0 + index_by (has_bytes p.names (codes "main")) p.funcs
  index_is = main_index_is p.names p.funcs ∙ omega arith

  -- the target's run: the front, and then the rest
  abbrev main_code : MonStatements
  main_code = code_of p mine f (nat_eq m m)

  abbrev fronts : Did
  fronts = exec_all over_blocks gs (initialise_globals p in_front p.globals) calls n opens entered_target

  abbrev ends_with : Did → Result Target Value
  ends_with q = then_do (then_do q (at_next (exec_all over_blocks gs main_code calls n))) (at_return over_blocks (zero_of f))

  front_is : front p (nat_eq m m) f ≡ initialise_globals p in_front p.globals
  front_is = ap (λ b. front p b f) its_own

  target_is : block_run (translated p) input n ≡ monitored.ran over_blocks (ends_with fronts)
  target_is =
      let t0 : Target = record { mem = record { store = map block_of_global (monitored_globals p); frames = 0 }; steps = n; input = input } in
      ap (λ o. monitored.ran over_blocks (body_runs over_blocks gs o calls n [] t0)) (target_finds p m 0 p.funcs f index_is found.first)
      ∙ ap (λ x. monitored.ran over_blocks x) (writes_none (then_do (exec_all over_blocks gs g.body calls n opens entered_target) (at_return over_blocks (zero_of f))))
      ∙ ap (λ q. monitored.ran over_blocks (then_do q (at_return over_blocks (zero_of f)))) (before_is gs (front p (nat_eq m m) f) main_code calls n opens entered_target)
      ∙ ap (λ a. monitored.ran over_blocks (ends_with (exec_all over_blocks gs a calls n opens entered_target))) front_is

  abbrev first_setting : Setting
  first_setting = w (start p input n).store

  globals_do : Follows first_setting (at_body 0 [] int_type) (behind_own f) opens Next (start p input n) (initialise_all T p.globals call (start p input n)) fronts
  globals_do =
      globals_at_start first_setting (has_globals first_setting known refl) n (at_body 0 [] int_type) in_front opens input n entered_target room opens_long
      (record { below = omega arith; planned = plan_below; given = tt; keeps = record { terms = keeps_nothing; past = tt } })
      (record { store_is = start_blocks p; frames = refl; steps = refl; input = refl })

  -- the translation keeps the meaning
  pub translated_agrees : Agrees (run p input n) (block_run (translated p) input n)
  translated_agrees =
      subst (λ b. Agrees (run p input n) b) (sym target_is)
      (front_agrees first_setting (behind_own f) opens (start p input n) refl refl (main_with T (function_named p (codes "main") p.funcs) call (suc n)) (exec_all over_blocks gs main_code calls n) (zero_of f)
      (initialise_all T p.globals call (start p input n)) fronts
      (λ s after t o same keeps l b. main_agrees s after t b.store_is b.frames b.steps b.input same.long keeps l.bounded l.scope l.calls l.spent o l.output)
      globals_do)
