-- A call of a function with a contract gives the same on both sides, where the code of its checks and its body do the same.
use Rattle.std.proofs.Common.{◌≡◌, ℕ, suc, ◌+◌, ◌≤◌, Bool, false, List, [], ◌++◌, length, length-append, Option, Some, None, refl, sym, ap, ◌∙◌, subst, arith}
use Rattle.std.proofs.lemmas.List.{length-map}
use Rattle.c_syntax.specs.Programs.{FunctionContract, Function, TranslationUnit}
use Rattle.c_model.specs.ContractChecks.{all_checked, all_hold, entry_checks, leave_checks, result_is}
use Rattle.c_model.specs.Meaning.{Callee, tables_of, body_with, returned_by}
use Rattle.c_model.specs.Memory.{Value, Store}
use Rattle.c_model.specs.State.{State, answered}
use Rattle.mon_syntax.specs.declared.tree.MonType.{MonType}
use Rattle.mon_syntax.specs.Meaning.{Result, then_do, at_label, at_return}
use Rattle.mon_syntax.specs.Meaning as monitored
use Rattle.mon_syntax.specs.BlockMemory.{over_blocks}
use Rattle.mon_syntax.specs.LiveBlocks.{LiveBlock, live_in}
use Rattle.mon_syntax.specs.Trees.{MonStatements, NoStatement}
use Rattle.c_effects.specs.Expressions.{before}
use Rattle.c_effects.proofs.Sequences.{before_none}
use Rattle.track_scopes.proofs.Deaths.{deaths_end}
use Rattle.annot_simulation.specs.ContractCode.{entry_code, leave_code}
use Rattle.annot_simulation.specs.Plan.{planned, kept_types}
use Rattle.instrument.specs.Translation.{at_leave, behind_own, behind_pre, body_code, body_part, contract_types, first_flag, first_own, held_of, own_types, plan_of, pointers, at_start, result_register, value_types}
use Rattle.instrument.specs.Translation as target
use Rattle.c_simulation.specs.Labels.{leave_label}
use Rattle.c_simulation.specs.SameRegisters.{Stays}
use Rattle.c_simulation.specs.Standing.{Target, Setting, runs, Keeps, Beside}
use Rattle.c_simulation.specs.Following.{Passes, IsResult, HoldsResult}
use Rattle.c_simulation.proofs.Calls.{Called, value_of}
use Rattle.instrument.proofs.Births.{with_numbers}
use Rattle.instrument.proofs.CallEnds.{zero_of}
use Rattle.instrument.proofs.ContractCalls.{Flagged, ChecksDo, Answers, body_answers, contract_follows}
use Rattle.instrument.proofs.Functions.{function, own, first, count, in_front, names_around, setting, BodyFollows, MeetsBody, PreFollows, GivesSame, gives, plain_gives, spot_of_body}
use Rattle.annot_simulation.specs.Validity.{Begins}
use Rattle.mon_syntax.specs.Valid.{types_of}
use Rattle.instrument.proofs.KeptPlans.{plan_stands}

module _ (p : TranslationUnit) (globals : List Value) (main index : ℕ) (f : Function) (call : Callee) (calls_below : monitored.Calls over_blocks) (n : ℕ) (c : FunctionContract) (is : f.contract ≡ Some c) where
  abbrev mine : List MonType
  mine = own p globals main index f call calls_below n

  -- the register of what it gives, and where the flags of behaviors begin and end
  abbrev r : ℕ
  r = result_register f

  abbrev h : ℕ
  h = first_flag f

  abbrev m : ℕ
  m = h + length c.behaviors

  abbrev low : ℕ
  low = first p globals main index f call calls_below n + count p globals main index f call calls_below n

  abbrev w : State → Setting
  w s = setting p globals main index f call calls_below n s.store (s.calls + 1)

  abbrev meets : State → List LiveBlock → List Value → State → Target → Type 0
  meets s blocks regs from t = MeetsBody p globals main index f call calls_below n s.store (s.calls + 1) blocks regs from t

  abbrev entry : MonStatements
  entry = entry_code p (behind_pre p mine f).bound h (behind_pre p mine f).kinds c

  abbrev leave : MonStatements
  leave = leave_code p (behind_pre p mine f).bound (plan_of f) (held_of f) h (at_leave p mine f c) c

  -- what the contract asks at the beginning
  abbrev pub EntryChecks : Type 0
  EntryChecks =
      (s : State) (blocks : List LiveBlock) (regs : List Value) (from : State) (t : Target) → meets s blocks regs from t → from.steps ≤ n
      → ChecksDo h m low regs from t (all_checked c.behaviors [] (entry_checks c) (all_hold c.behaviors) from) (runs (w s) n t entry regs)

  -- and at the end, of what is given
  abbrev pub LeaveChecks : Type 0
  LeaveChecks =
      (s : State) (blocks : List LiveBlock) (regs : List Value) (from : State) (t0 : Target) → meets s blocks regs from t0 → from.steps ≤ n
      → (hs : List Bool) (z : Option Value) (to : State) (after : List Value) (t : Target) (o : List ℕ) → h + length hs ≡ m → IsResult f.result z → HoldsResult (Some r) z after
      → Keeps (plan_of f) to.marks after → Flagged h hs after → Stays (first_own f) (behind_own f) low regs after → Passes from to o → Beside (w s) to.store to t
      → ChecksDo h m low after to t (all_checked c.behaviors (result_is (value_of z)) (leave_checks c) hs to) (runs (w s) n t leave after)

  -- the body
  abbrev pub BodyInside : Type 0
  BodyInside = (base : ℕ) (around : List LiveBlock) (active : ℕ) → BodyFollows p globals main index f call calls_below n base around active h (Some r) [] (target.at_body p mine f c)

  pub own_long : m ≤ behind_own f
  own_long =
      let a = length-append (value_types f.params) (own_types f) in
      let d = length-append (kept_types (planned f)) (contract_types f.result f.contract) in
      let g : length (contract_types f.result f.contract) ≡ suc (length c.behaviors) = ap (λ o. length (contract_types f.result o)) is ∙ ap suc (length-map c.behaviors _) in
      omega (arith, a, d, g)

  pub own_low : behind_own f ≤ low
  own_low =
      let a = length-append (value_types f.params) (own_types f) in
      let b = length-append (value_types f.params) (own_types f ++ mine) in
      let d = length-append (own_types f) mine in
      omega (arith, a, b, d)

  abbrev code : MonStatements
  code = body_part p (plan_of f) (Some r) [] (target.at_body p mine f c) f.body

  pub contract_gives : EntryChecks → BodyInside → LeaveChecks → GivesSame p globals main index f call calls_below n
  contract_gives entry_does body leave_does s blocks regs from t meet le longer spent output =
      subst (λ o. Called s f.result (answered s (gives p globals main index f call calls_below n o from)) (then_do (runs (w s) n t (body_code p mine f false o) regs) (at_return over_blocks (zero_of f)))) (sym is)
      (contract_follows (w s) s from refl refl refl f (pointers p mine f) blocks n (deaths_end (pointers p mine f)) low regs t (spot_of_body p globals main index f call calls_below n) refl (at_start p mine f).bound
      (with_numbers f.params (names_around p globals main index f call calls_below n)) meet longer spent output r h m
      (plan_stands (planned f) (first_own f) r (omega arith)) (omega arith) (omega arith) (omega arith) own_long (omega (arith, own_long, own_low))
      c leave (before code NoStatement) (λ s. returned_by f (body_with (tables_of p) f.body call (suc n) s)) entry (entry_does s blocks regs from t meet le)
      (λ regs2 begins t2 m2 fewer.
      subst (λ a. Answers (w s) r h low f begins regs2 (returned_by f (body_with (tables_of p) f.body call (suc n) begins)) (then_do (runs (w s) n t2 a regs2) (at_label leave_label))) (sym (before_none code))
      (body_answers (w s) r h low (plan_stands (planned f) (first_own f) r (omega arith)) (omega arith) (omega arith) (omega (arith, own_long)) f begins regs2 (body_with (tables_of p) f.body call (suc n) begins) (runs (w s) n t2 code regs2)
      (body (length begins.store) (live_in begins.store) (s.calls + 1) [] regs2 begins t2 m2 (omega (arith, fewer, le)))))
      (leave_does s blocks regs from t meet le))

-- ---- what a call needs

-- the types of a function's registers, what the label `Pre` keeps where it is passed, and the checks of its contract
pub record CallLaws (p : TranslationUnit) (globals : List Value) (main index : ℕ) (f : Function) (call : Callee) (calls_below : monitored.Calls over_blocks) (n : ℕ) : Type 0 where
  pub types_are : Begins (in_front p globals main index f call calls_below n) (types_of ((function p globals main index f call calls_below n).parameters ++ (function p globals main index f call calls_below n).registers))
  pub pre : PreFollows p globals main index f call calls_below n
  pub entry : (c : FunctionContract) (is : f.contract ≡ Some c) → EntryChecks p globals main index f call calls_below n c is
  pub leave : (c : FunctionContract) (is : f.contract ≡ Some c) → LeaveChecks p globals main index f call calls_below n c is

module _ (p : TranslationUnit) (globals : List Value) (main index : ℕ) (f : Function) (call : Callee) (calls_below : monitored.Calls over_blocks) (n : ℕ) where
  abbrev its_own : List MonType
  its_own = own p globals main index f call calls_below n

  -- a body without a contract
  abbrev pub BodyPlain : Type 0
  BodyPlain =
      (store : Store) (active : ℕ)
      → BodyFollows p globals main index f call calls_below n (length store) (live_in store) active (behind_own f) None (pointers p its_own f) (behind_pre p its_own f)

  pub call_gives : CallLaws p globals main index f call calls_below n → (f.contract ≡ None → BodyPlain) → ((c : FunctionContract) (is : f.contract ≡ Some c) → BodyInside p globals main index f call calls_below n c is)
      → GivesSame p globals main index f call calls_below n
  call_gives laws plain inside = by f.contract refl
    where
      by : (o : Option FunctionContract) → f.contract ≡ o → GivesSame p globals main index f call calls_below n
      by None e = plain_gives p globals main index f call calls_below n e (plain e)
      by (Some c) e = contract_gives p globals main index f call calls_below n c e (laws.entry c e) (inside c e) (laws.leave c e)
