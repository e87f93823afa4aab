-- A call of a function: a step, a frame, the parameters, the body, and what the call gives.
use Rattle.std.proofs.Common.{◌≡◌, inr, ℕ, zero, suc, ◌+◌, ◌≤◌, pos, Bool, true, false, cond, if◌then◌else◌, nat_eq, nat_lt, List, [], ◌∷◌, ◌++◌, length, length-append, append_assoc, Option, Some, None, refl, sym, ap, ◌∙◌, subst}
use Rattle.std.proofs.Common.{arith, drop, length-drop}
use Rattle.std.proofs.lemmas.List.{append-nil, length-map}
use Rattle.c_syntax.specs.declared.place.Place.{Place}
use Rattle.c_syntax.specs.declared.types.Segment.TheVariants as segment
use Rattle.c_syntax.specs.Ctypes.{PlainType, Int, Ptr}
use Rattle.c_syntax.specs.Programs.{FunctionContract, Function, TranslationUnit}
use Rattle.c_syntax.specs.Statements.{Declaration}
use Rattle.c_model.specs.Limits.{most_frames}
use Rattle.c_model.specs.Memory.{Value, Store, kill_from}
use Rattle.c_model.specs.ContractChecks.{entry, ending}
use Rattle.c_model.specs.State.{State, Spent, Full, Over, Outcome, Normal, Stop, Evaluation, on_outcome, ◌>>=◌, ◌>>◌, done, give, step_from, frame, alone, mark, called, answered, back_from_call}
use Rattle.c_model.specs.Meaning.{Callee, Tables, tables_of, global_scope, parameters, body_with, returned_by, at_close, call_with}
use Rattle.c_model.specs.MonitoredRuns as machine
use Rattle.c_model.specs.UnitTyping.{types_of}
use Rattle.mon_syntax.specs.Valid as valid
use Rattle.c_model.proofs.Agreement.{extends_trans}
use Rattle.mon_syntax.specs.Registers.{Bindings, RegisterTable, no_registers, with_kinds}
use Rattle.mon_syntax.specs.Meaning.{Result, Done, Stops, Next, then_do, at_next, at_return, body_runs, left_frame, registers, writes, replied, zeros, zero_result, exec_all}
use Rattle.mon_syntax.specs.Meaning as monitored
use Rattle.mon_syntax.specs.Memory.{Gives, IsFull}
use Rattle.mon_syntax.specs.BlockMemory.{over_blocks}
use Rattle.mon_syntax.specs.LiveBlocks.{LiveBlock, live_in}
use Rattle.mon_syntax.specs.Trees.{MonFunction, MonStatements, MonRegister}
use Rattle.c_effects.specs.Expressions.{before}
use Rattle.track_scopes.specs.Blocks.{deaths}
use Rattle.track_scopes.specs.Lives as lives
use Rattle.track_scopes.specs.Lives.{AreFrom, with_store}
use Rattle.instrument.specs.Translation.{Spot, at_start, behind_pre, body_code, body_part, code_of, contract_types, behind_own, first_own, first_pointer}
use Rattle.instrument.specs.Translation.{outermost, own_types, plan_of, pointers, front, front_temporaries, function_of, value_types, result_of}
use Rattle.annot_simulation.specs.Plan.{planned, kept_types}
use Rattle.annot_simulation.specs.Snapshots.{snapshot}
use Rattle.annot_simulation.specs.Validity.{Begins}
use Rattle.c_simulation.specs.Keeping.{GiveTerms, StandBelow}
use Rattle.instrument.proofs.KeptPlans.{plan_stands, registers_keep}
use Rattle.instrument.proofs.Passages.{IsPassed}
use Rattle.mon_syntax.specs.declared.tree.MonType.{MonType}
use Rattle.instrument.specs.Translation as target
use Rattle.c_simulation.specs.Standing.{Target, Did, Setting, runs, Bounded, Beside, Anchored}
use Rattle.track_scopes.proofs.Deaths.{deaths_end}
use Rattle.c_simulation.proofs.Results.{writes_none, written_then, before_is}
use Rattle.c_simulation.specs.Following.{written, left_by}
use Rattle.c_simulation.proofs.Registers.{get-end}
use Rattle.instrument.proofs.Deaths.{all_before}
use Rattle.c_simulation.specs.Following.{Later, Passes, Follows, GoesOn, Breaks, Continues, IsLeft, IsOver, IsUndefined}
use Rattle.instrument.proofs.Births.{with_numbers, pointed_point, pointed_same}
use Rattle.instrument.proofs.Blocks.{Meets, meets_after}
pub use Rattle.instrument.proofs.CallEnds.{at_body, zero_of}
use Rattle.instrument.proofs.CallEnds as call_ends
use Rattle.instrument.proofs.Parameters.{AreScalars, HoldInOrder, BearsAll, AllBorn, SomeFull, SomeUndefined, parameters_follow}
use Rattle.c_simulation.proofs.Calls.{Even, Called, EndsRun, HasNoMeaning, AreOf}
use Rattle.c_simulation.proofs.Calls as calls
use Rattle.instrument.proofs.Own.{AreOwn}
use Rattle.instrument.proofs.Numbers.{numbers_in}
use Rattle.instrument.proofs.Objects.{names_at_start}

-- ---- the end of a body

-- where a call begins, with a frame, and where its body does
module _ (w : Setting) (s from : State) (base : w.base ≡ length s.store) (around : w.around ≡ live_in s.store) (active : w.active ≡ s.calls + 1) (f : Function) (ps : List ℕ) (blocks : List LiveBlock) (n : ℕ) (leave : lives.EndLives ps (deaths ps))
    (low : ℕ) (regs : List Value) (t0 : Target) (spot : Spot) (here : spot.inside ≡ ps) (bound : Bindings) (living : List ℕ) (m0 : Meets w (at_body w.base blocks f.result) spot low bound living regs from t0)
    (longer : length s.store ≤ length from.store)
    (spent : from.steps ≤ s.steps) (output : from.output ≡ s.output) (unchecked : w.result ≡ None) where
  abbrev ended : Did → Result Target Value
  ended q = then_do (then_do q (at_next (exec_all over_blocks w.globals (deaths ps) w.calls n))) (at_return over_blocks (zero_of f))

  came_back : (to : State) (o : List ℕ) → Passes from to o → Later s (back_from_call s to) o
  came_back to o l = call_ends.came_back w s from base around active f blocks low regs t0 spot bound living m0 longer spent output to o l

  even_there : (to : State) (o : List ℕ) → Passes from to o → (u : Target) → Beside w (kill_from w.base to.store) to u → Even (back_from_call s to) (left_frame over_blocks u)
  even_there to o l u b = call_ends.even_there w s from base around active f blocks low regs t0 spot bound living m0 longer spent output to o l u b

  pub function_ends : (r : Outcome (Unit {0})) (q : Did) → Follows w (at_body w.base blocks f.result) low regs Next from r q → Called s f.result (answered s (returned_by f r)) (ended q)
  function_ends r q (GoesOn to after t o same keeps l b e g) =
      subst (λ x. Called s f.result (answered s (returned_by f x)) (ended q)) (sym e) (by f.result)
    where
      dead : Target
      dead = with_store (kill_from w.base t.mem.store) t

      beside_dead : Beside w (kill_from w.base to.store) to dead
      beside_dead = record { store_is = ap (kill_from w.base) b.store_is; frames = b.frames; steps = b.steps; input = b.input }

      dies : exec_all over_blocks w.globals (deaths ps) w.calls n after t ≡ Done (Next after) dead []
      dies =
          leave w.globals w.calls n w.base after t blocks w.around (ap live_in b.store_is ∙ l.live ∙ m0.standing.live) (subst (AreFrom w.base) (append-nil blocks) m0.standing.since_call) m0.standing.before_call
          (subst (λ xs. lives.Point after xs blocks) here (pointed_point w.plan_to low after spot.inside blocks (pointed_same w.plan_to low low regs after spot.inside blocks (omega arith) (λ j lt more. same.kept j lt (inr more)) m0.inside)))

      target_is : ended q ≡ Done (zero_of f) (left_frame over_blocks dead) o
      target_is =
          ap ended g
          ∙ ap (λ d. then_do (writes o d) (at_return over_blocks (zero_of f))) dies
          ∙ ap (Done (zero_of f) (left_frame over_blocks dead)) (append-nil (o ++ []) ∙ append-nil o)

      by : (k : PlainType) → Called s k (answered s (at_close f.close k to)) (ended q)
      by (Int k) = HasNoMeaning f.close (back_from_call s to) o refl (l.output ∙ ap (λ x. x ++ o) output) (record { rest = []; is = ap written target_is ∙ sym (append-nil o) })
      by (Ptr t) = HasNoMeaning f.close (back_from_call s to) o refl (l.output ∙ ap (λ x. x ++ o) output) (record { rest = []; is = ap written target_is ∙ sym (append-nil o) })
      by _ = calls.Gives None (zero_of f) (back_from_call s to) (left_frame over_blocks dead) o tt tt (came_back to o l) (even_there to o l dead beside_dead) refl target_is
  function_ends r q (Breaks to after t o i m keeps l b e g) = absurd cc
  function_ends r q (Continues to after t o i m keeps l b e g) = absurd cc
  function_ends r q (IsLeft None to after t o i same keeps holds l b e g) =
      calls.Gives None (zero_of f) (back_from_call s to) (left_frame over_blocks t) o i tt (came_back to o l) (even_there to o l t b)
      (ap (λ x. answered s (returned_by f x)) e)
      (ap ended (g ∙ ap (λ u. Done (left_by u None after) t o) unchecked) ∙ ap (Done (zero_of f) (left_frame over_blocks t)) (append-nil (o ++ []) ∙ append-nil o))
  function_ends r q (IsLeft (Some v) to after t o i same keeps holds l b e g) =
      calls.Gives (Some v) v (back_from_call s to) (left_frame over_blocks t) o i refl (came_back to o l) (even_there to o l t b)
      (ap (λ x. answered s (returned_by f x)) e)
      (ap ended (g ∙ ap (λ u. Done (left_by u (Some v) after) t o) unchecked) ∙ ap (Done v (left_frame over_blocks t)) (append-nil (o ++ []) ∙ append-nil o))
  function_ends r q (IsOver x z to o d e l g) =
      EndsRun x z (back_from_call s to) o d (ap (λ r. answered s (returned_by f r)) e) (l ∙ ap (λ x. x ++ o) output) (ap ended g)
  function_ends r q (IsUndefined at to o e l ext) =
      HasNoMeaning at (back_from_call s to) o (ap (λ r. answered s (returned_by f r)) e) (l ∙ ap (λ x. x ++ o) output)
      (extends_trans o (written q) (written (ended q)) ext
      (extends_trans (written q) (written (then_do q (at_next (exec_all over_blocks w.globals (deaths ps) w.calls n)))) (written (ended q))
      (written_then q (at_next (exec_all over_blocks w.globals (deaths ps) w.calls n)))
      (written_then (then_do q (at_next (exec_all over_blocks w.globals (deaths ps) w.calls n))) (at_return over_blocks (zero_of f)))))

-- ---- the registers in which a call begins

-- each register has a value
pub registers_full : (rs : List MonRegister) (args : List Value) → length args ≤ length rs → length (registers over_blocks rs args) ≡ length rs
registers_full rs args le =
    let first = zeros over_blocks rs in
    let a = length-append args (drop (length args) first) in
    let b = length-drop (length args) first in
    let c : length first ≡ length rs = length-map rs _ in
    omega (arith, a, b, c, le)

-- the first registers hold the arguments
arguments_held : (front rest : List Value) (ds : List Declaration) (vs : List Value) → AreOf (types_of ds) vs → HoldInOrder (front ++ (vs ++ rest)) (length front) ds vs
arguments_held front rest [] [] h = tt
arguments_held front rest [] (v ∷ vs) h = absurd h
arguments_held front rest (d ∷ ds) [] h = absurd h
arguments_held front rest (d ∷ ds) (v ∷ vs) h =
    let more = front ++ v ∷ [] in
    let long : length more ≡ suc (length front) = length-append front (v ∷ []) ∙ omega arith in (
      h.0,
      get-end front (vs ++ rest) v,
      subst (λ i. HoldInOrder (front ++ (v ∷ (vs ++ rest))) i ds vs) long
          (subst (λ l. HoldInOrder l (length more) ds vs) (append_assoc front (v ∷ []) (vs ++ rest)) (arguments_held more rest ds vs h.1)),
    )

pub of_long : (ds : List Declaration) (vs : List Value) → AreOf (types_of ds) vs → length vs ≡ length ds
of_long [] [] h = refl
of_long [] (v ∷ vs) h = absurd h
of_long (d ∷ ds) [] h = absurd h
of_long (d ∷ ds) (v ∷ vs) h = ap suc (of_long ds vs h.1)

-- ---- a call

-- one more call is active, or there are too many
abbrev framed_by : Bool → State → Outcome (Unit {0})
framed_by b s = cond b (Normal tt (record s { calls = s.calls + 1 })) (Stop (Over (Full segment.Frames)) s)

-- what a definition of the program becomes, and its calls
module _ (p : TranslationUnit) (globals : List Value) (main index : ℕ) (f : Function) (call : Callee) (calls_below : monitored.Calls over_blocks) (n : ℕ) where
  abbrev T : Tables
  T = tables_of p

  abbrev pub function : MonFunction
  function = function_of p main index f

  abbrev pub how_many : ℕ
  how_many = length function.parameters + length function.registers

  -- where the body stands, with so many parameters, whose blocks are these
  abbrev pub count : ℕ
  count = length f.params

  -- the registers that stand behind its own, and the first of those that point to parameters' blocks
  abbrev pub own : List MonType
  own = front_temporaries p (nat_eq index main)

  abbrev pub first : ℕ
  first = first_pointer p own f

  abbrev pub in_front : List MonType
  in_front = value_types f.params ++ own_types f

  abbrev pub names_around : List ℕ
  names_around = numbers_in p.globals

  -- a call of it, or its body: how many blocks were born when it began, which of them lived, how many calls are active, up to where the registers stand that
  -- are its own, and where what it gives goes, if its contract is checked behind its body
  abbrev pub of_function : ℕ → List LiveBlock → ℕ → ℕ → Option ℕ → Setting
  of_function base around active to result = record {
    unit = p;
    call = call;
    calls = calls_below;
    globals = globals;
    registers = how_many;
    base = base;
    around = around;
    active = active;
    plan = plan_of f;
    plan_from = first_own f;
    plan_to = to;
    result = result;
  }

  abbrev pub setting : Store → ℕ → Setting
  setting store active = of_function (length store) (live_in store) active (behind_own f) None

  -- a body of it does the same on both sides, where what it gives goes there, these registers point to the blocks that live with it, and after these registers
  abbrev pub BodyFollows : ℕ → List LiveBlock → ℕ → ℕ → Option ℕ → List ℕ → RegisterTable → Type 0
  BodyFollows base around active to result live r =
      (blocks : List LiveBlock) (regs : List Value) (s : State) (t : Target)
      → Meets (of_function base around active to result) (at_body base blocks f.result) (outermost result live) (first + count) (at_start p own f).bound (with_numbers f.params names_around) regs s t → s.steps ≤ n
      → Follows (of_function base around active to result) (at_body base blocks f.result) (first + count) regs Next s (body_with T f.body call (suc n) s)
      (runs (of_function base around active to result) n t (body_part p (plan_of f) result live r f.body) regs)

  abbrev pub spot_of_body : Spot
  spot_of_body = outermost None (pointers p own f)

  abbrev pub MeetsBody : Store → ℕ → List LiveBlock → List Value → State → Target → Type 0
  MeetsBody store active blocks regs s t =
      Meets (setting store active) (at_body (length store) blocks f.result) spot_of_body (first + count) (at_start p own f).bound (with_numbers f.params names_around) regs s t

  -- the label `Pre` is passed, where the parameters live
  abbrev pub PreFollows : Type 0
  PreFollows =
      (store : Store) (active : ℕ) (blocks : List LiveBlock) (regs : List Value) (s : State) (t : Target) → MeetsBody store active blocks regs s t → s.steps ≤ n
      → IsPassed (setting store active) (first + count) regs None s t (runs (setting store active) n t (snapshot p (at_start p own f).bound None (at_start p own f).kinds (plan_of f)) regs)

  -- what a call gives from there on: the body, and what the contract asks
  abbrev pub gives : Option FunctionContract → Evaluation Value
  gives c = entry c >>= λ hs. (λ s. returned_by f (body_with T f.body call (suc n) s)) >>= λ v. ending c hs v >> give v

  abbrev pub GivesSame : Type 0
  GivesSame =
      (s : State) (blocks : List LiveBlock) (regs : List Value) (from : State) (t : Target) → MeetsBody s.store (s.calls + 1) blocks regs from t → from.steps ≤ n → length s.store ≤ length from.store → from.steps ≤ s.steps → from.output ≡ s.output
      → Called s f.result (answered s (gives f.contract from)) (then_do (runs (setting s.store (s.calls + 1)) n t (body_code p own f false f.contract) regs) (at_return over_blocks (zero_of f)))

  module _
      (not_main : nat_eq index main ≡ false) (anchored_globals : (store : Store) (active : ℕ) (regs : List Value) → Anchored (setting store active) first [] regs (global_scope p)) (enough : first + count ≤ how_many)
      (objects : AreScalars f.params) (own_params : AreOwn f.params) (types_are : Begins in_front (valid.types_of (function.parameters ++ function.registers))) (pre : PreFollows) (same : GivesSame)
      (vs : List Value) (types : AreOf (types_of f.params) vs) (at : Place) where
    abbrev opens : List Value
    opens = registers over_blocks (function.parameters ++ function.registers) vs

    -- how many registers stand in front
    long_before : first ≡ length f.params + length (own_types f ++ own)
    long_before =
        let b = length-append (value_types f.params) (own_types f ++ own) in
        let c : length (value_types f.params) ≡ length f.params = length-map f.params _ in
        omega (arith, b, c)

    opens_long : length opens ≡ how_many
    opens_long =
        let a = length-append function.parameters function.registers in
        registers_full (function.parameters ++ function.registers) vs (omega (arith, a, long_before, of_long f.params vs types, enough)) ∙ a

    holds : HoldInOrder opens 0 f.params vs
    holds = arguments_held [] (drop (length vs) (zeros over_blocks (function.parameters ++ function.registers))) f.params vs types

    -- its own stand in front of those
    own_before : behind_own f ≤ first
    own_before =
        let a = length-append (value_types f.params) (own_types f) in
        let b = length-append (value_types f.params) (own_types f ++ own) in
        let c = length-append (own_types f) own in
        omega (arith, a, b, c)

    plan_below : StandBelow (behind_own f) (plan_of f)
    plan_below =
        let a = length-append (value_types f.params) (own_types f) in
        let c = length-append (kept_types (planned f)) (contract_types f.result f.contract) in
        plan_stands (planned f) (first_own f) (behind_own f) (omega (arith, a, c))

    keeps_nothing : GiveTerms (plan_of f) [] opens
    keeps_nothing =
        let c : length (value_types f.params) ≡ length f.params = length-map f.params _ in
        registers_keep (value_types f.params) (planned f) (contract_types f.result f.contract) (function.parameters ++ function.registers) vs (omega (arith, c, of_long f.params vs types)) types_are

    -- the source's call with its step and its frame after it, and the target's
    abbrev inside_source : Evaluation Value
    inside_source = frame >> alone (global_scope p) >> parameters T at f.params vs >> mark None >> gives f.contract

    abbrev inside_target : Target → Result Target Value
    inside_target t = body_runs over_blocks globals (Some function) calls_below n vs t

    abbrev first_table : RegisterTable
    first_table = with_kinds (own_types f ++ own) (with_kinds (value_types f.params) no_registers)

    count_fits : 0 + count ≤ first
    count_fits = omega (arith, long_before)

    body_is : function.body ≡ code_of p own f false
    body_is = ap (λ b. before (front p b f) (code_of p own f b)) not_main

    module _ (s : State) (t : Target) (even : Even s t) (bounded : Bounded s.store) (le : s.steps ≤ n) where
      abbrev w : Setting
      w = setting s.store (s.calls + 1)

      abbrev entered_source : State
      entered_source = record s { calls = s.calls + 1; scope = global_scope p; marks = [] }

      abbrev entered_target : Target
      entered_target = record t { mem = record t.mem { frames = t.mem.frames + 1 } }

      abbrev first_spot : Spot
      first_spot = outermost None []

      meets_first : Meets w (at_body (length s.store) [] f.result) first_spot first first_table.bound names_around opens entered_source entered_target
      meets_first = record {
        standing = record {
          anchored = anchored_globals s.store (s.calls + 1) opens;
          active = refl;
          live = refl;
          since_left = tt;
          before_left = all_before s.store;
          since_loop = tt;
          before_loop = all_before s.store;
          since_call = tt;
          before_call = all_before s.store;
          nested = omega arith;
          deeper = omega arith;
          longer = omega arith;
          bounded = bounded;
          registers = opens_long;
          kept = record { below = own_before; planned = plan_below; given = tt; keeps = record { terms = keeps_nothing; past = tt } };
        };
        beside = record { store_is = even.store_is; frames = ap (λ k. k + 1) even.frames; steps = even.steps; input = even.input };
        inside = tt;
        between = tt;
        outside = tt;
        names = names_at_start p;
        result = refl;
      }

      abbrev behind_pre_code : MonStatements
      behind_pre_code = body_code p own f false f.contract

      abbrev pre_code : MonStatements
      pre_code = snapshot p (at_start p own f).bound None (at_start p own f).kinds (plan_of f)

      abbrev finish : Outcome (Unit {0}) → Outcome Value
      finish r = answered s (on_outcome (on_outcome r (λ _. mark None)) (λ _. gives f.contract))

      abbrev tail : Did → Result Target Value
      tail q = then_do (then_do q (at_next (exec_all over_blocks globals (before pre_code behind_pre_code) calls_below n))) (at_return over_blocks (zero_of f))

      -- after the frame
      framed : BearsAll w (at_body (length s.store) [] f.result) first_spot first first_table names_around at f.params vs entered_source (runs w n entered_target (target.parameters p first 0 f.params) opens)
          → Called s f.result (finish (parameters T at f.params vs entered_source)) (tail (runs w n entered_target (target.parameters p first 0 f.params) opens))
      framed (SomeFull g to e o x) =
          EndsRun (Full g) (machine.Full g) (back_from_call s to) [] refl (ap finish e) (o ∙ sym (append-nil s.output)) (ap tail x)
      framed (SomeUndefined x to e o) =
          HasNoMeaning x (back_from_call s to) [] (ap finish e) (o ∙ sym (append-nil s.output)) (record { rest = written (tail (runs w n entered_target (target.parameters p first 0 f.params) opens)); is = refl })
      framed (AllBorn to regs u blocks e x m l) =
          let passed = pre s.store (s.calls + 1) blocks regs to u m (omega (arith, le, l.spent)) in
          let there : State = record to { marks = record { label = None; scope = to.scope; store = to.store } ∷ to.marks } in
          let passes : Passes to there [] =
          record { scope = refl; calls = refl; live = refl; longer = omega arith; bounded = m.standing.bounded; spent = omega arith; output = sym (append-nil to.output); marks = refl } in
          let beside : Beside w there.store there u = record { store_is = m.beside.store_is; frames = m.beside.frames; steps = m.beside.steps; input = m.beside.input } in
          let m2 = meets_after w (at_body (length s.store) blocks f.result) spot_of_body (first + count) (at_start p own f).bound (with_numbers f.params names_around) regs passed.after to there u u [] passed.stays passed.keeps passes beside m in
          let code_is : runs w n u (before pre_code behind_pre_code) regs ≡ runs w n u behind_pre_code passed.after =
          before_is globals pre_code behind_pre_code calls_below n regs u ∙ ap (λ q. then_do q (at_next (exec_all over_blocks globals behind_pre_code calls_below n))) passed.is ∙ writes_none (runs w n u behind_pre_code passed.after) in
          subst (λ r. Called s f.result r (tail (runs w n entered_target (target.parameters p first 0 f.params) opens))) (sym (ap finish e))
          (subst (λ q. Called s f.result (finish (Normal tt to)) q) (sym (ap tail x))
          (subst (λ q. Called s f.result (finish (Normal tt to)) (then_do q (at_return over_blocks (zero_of f)))) (sym (writes_none (runs w n u (before pre_code behind_pre_code) regs)))
          (subst (λ q. Called s f.result (finish (Normal tt to)) (then_do q (at_return over_blocks (zero_of f)))) (sym code_is)
          (same s blocks passed.after there u m2 (omega (arith, le, l.spent)) l.longer l.spent l.output))))

      code_runs : runs w n entered_target function.body opens ≡ then_do (runs w n entered_target (target.parameters p first 0 f.params) opens) (at_next (exec_all over_blocks globals (before pre_code behind_pre_code) calls_below n))
      code_runs =
          ap (λ a. runs w n entered_target a opens) body_is
          ∙ before_is globals (target.parameters p first 0 f.params) (before pre_code behind_pre_code) calls_below n opens entered_target

      -- the frame is there on both sides, or on none
      abbrev source_with : Bool → Outcome Value
      source_with b =
          answered s (on_outcome (on_outcome (on_outcome (on_outcome (framed_by b s) (λ _. alone (global_scope p))) (λ _. parameters T at f.params vs)) (λ _. mark None)) (λ _. gives f.contract))

      abbrev target_with : Bool → Result Target Value
      target_with b = then_do (replied over_blocks (if b then Gives (over_blocks.number (pos 0)) (record t.mem { frames = t.mem.frames + 1 }) else IsFull segment.Frames) t)
          (λ v u. then_do (exec_all over_blocks globals function.body calls_below n opens u)
          (at_return over_blocks (zero_of f)))

      both : (b : Bool) → Called s f.result (source_with b) (target_with b)
      both true =
          subst (λ q. Called s f.result (source_with true) q) (sym (writes_none (then_do (exec_all over_blocks globals function.body calls_below n opens entered_target) (at_return over_blocks (zero_of f)))))
          (subst (λ q. Called s f.result (source_with true) (then_do q (at_return over_blocks (zero_of f)))) (sym code_runs)
          (framed (parameters_follow w n at f.params vs (at_body (length s.store) [] f.result) first_spot first 0 first_table names_around opens entered_source entered_target refl meets_first objects own_params holds count_fits
          enough)))
      both false = EndsRun (Full segment.Frames) (machine.Full segment.Frames) (back_from_call s s) [] refl refl (sym (append-nil s.output)) (ap (λ k. Stops (machine.Full segment.Frames) k []) even.steps)

      pub called_inside : Called s f.result (called inside_source s) (inside_target t)
      called_inside = subst (λ b. Called s f.result (called inside_source s) (target_with b)) (ap (λ k. nat_lt k most_frames) (sym even.frames)) (both (nat_lt s.calls 65536))

    -- with its step; what comes after a step has one less
    abbrev with_step : State → ℕ → State
    with_step s k = record s { steps = k }

    stepped : (s : State) (k : ℕ) (r : Outcome Value) (q : Result Target Value) → s.steps ≡ suc k → Called (with_step s k) f.result r q → Called s f.result r q
    stepped s k r q e (calls.Gives z v to u o i x c d a b) =
        calls.Gives z v to u o i x (record { scope = c.scope; calls = c.calls; live = c.live; longer = c.longer; bounded = c.bounded; spent = omega (arith, e, c.spent); output = c.output; marks = c.marks }) d a b
    stepped s k r q e (EndsRun x z to o d a l b) = EndsRun x z to o d a l b
    stepped s k r q e (HasNoMeaning x to o a l b) = HasNoMeaning x to o a l b

    pub call_follows : (s : State) (t : Target) → Even s t → Bounded s.store → s.steps ≤ suc n
        → Called s f.result (call_with T (global_scope p) (Some f) call (suc n) at vs s) (monitored.step_from t.steps (λ k. inside_target (record t { steps = k })))
    call_follows s t even bounded le =
        subst (λ m. Called s f.result (on_outcome (step_from s.steps s) (λ _. called inside_source)) (monitored.step_from m (λ k. inside_target (record t { steps = k })))) (sym even.steps) (by s.steps refl)
      where
        by : (m : ℕ) → s.steps ≡ m → Called s f.result (on_outcome (step_from m s) (λ _. called inside_source)) (monitored.step_from m (λ k. inside_target (record t { steps = k })))
        by zero e = EndsRun Spent machine.Spent s [] refl refl (sym (append-nil s.output)) (ap (λ k. Stops machine.Spent k []) (sym e))
        by (suc k) e =
            stepped s k _ _ e
            (called_inside (with_step s k) (record t { steps = k }) (record { store_is = even.store_is; frames = even.frames; steps = refl; input = even.input }) bounded (omega (arith, e, le)))

  -- ---- what it gives behind its parameters

  -- without a contract it is the value of its body
  given : (r : Outcome Value) → on_outcome r (λ v. done >> give v) ≡ r
  given (Normal v s) = refl
  given (Stop e s) = refl

  pub plain_gives : f.contract ≡ None → ((store : Store) (active : ℕ) → BodyFollows (length store) (live_in store) active (behind_own f) None (pointers p own f) (behind_pre p own f)) → GivesSame
  plain_gives none body s blocks regs from t m le longer spent output =
      let w = setting s.store (s.calls + 1) in
      let code = body_part p (plan_of f) None (pointers p own f) (behind_pre p own f) f.body in
      let did = runs w n t code regs in
      subst (λ c. Called s f.result (answered s (gives c from)) (then_do (runs w n t (body_code p own f false c) regs) (at_return over_blocks (zero_of f)))) (sym none)
      (subst (λ r. Called s f.result (answered s r) (then_do (runs w n t (before code (deaths (pointers p own f))) regs) (at_return over_blocks (zero_of f)))) (sym (given (returned_by f (body_with T f.body call (suc n) from))))
      (subst (λ q. Called s f.result (answered s (returned_by f (body_with T f.body call (suc n) from))) (then_do q (at_return over_blocks (zero_of f)))) (sym (before_is globals code (deaths (pointers p own f)) calls_below n regs t))
      (function_ends w s from refl refl refl f (pointers p own f) blocks n (deaths_end (pointers p own f)) (first + count) regs t spot_of_body refl (at_start p own f).bound (with_numbers f.params names_around) m longer spent output refl
      (body_with T f.body call (suc n) from) did (body s.store (s.calls + 1) blocks regs from t m le))))
