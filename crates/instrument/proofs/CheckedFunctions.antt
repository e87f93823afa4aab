-- What a call of a function of the program needs (`CallLaws`) holds from what its text tells: the terms that it keeps at labels are in sight there and keep
-- their ranges, and so do the clauses of its contract.
use Rattle.std.proofs.Common.{◌≡◌, ℕ, ◌+◌, ◌≤◌, nat_eq, List, [], ◌++◌, length, Some, None, refl, sym, ap, subst, arith}
use Rattle.std.proofs.lemmas.List.{length-map}
use Rattle.c_syntax.specs.Programs.{FunctionContract, Function, TranslationUnit}
use Rattle.c_model.specs.ContractChecks.{entry_checks, leave_checks, result_is}
use Rattle.c_model.specs.ExpressionTyping.{inner}
use Rattle.c_model.specs.Meaning.{Callee}
use Rattle.c_model.specs.Memory.{Value}
use Rattle.c_model.specs.State.{State, Scope}
use Rattle.c_model.specs.UnitTyping.{with_parameters}
use Rattle.mon_syntax.specs.declared.tree.MonType.{MonType}
use Rattle.mon_syntax.specs.Registers.{next_register}
use Rattle.mon_syntax.specs.Valid.{types_of}
use Rattle.mon_syntax.specs.Meaning as monitored
use Rattle.mon_syntax.specs.BlockMemory.{over_blocks}
use Rattle.annot_simulation.specs.Beside.{judging}
use Rattle.annot_simulation.specs.ContractDoes.{AreGood}
use Rattle.annot_simulation.specs.Does as code
use Rattle.annot_simulation.specs.Plan.{kept_types, planned}
use Rattle.annot_simulation.specs.Validity.{Begins}
use Rattle.annot_simulation.proofs.Plans.{plans_ascend}
use Rattle.interval_infer.specs.Judged.{seen_in}
use Rattle.c_simulation.specs.Calls.{value_of}
use Rattle.c_simulation.specs.Standing.{Setting}
use Rattle.instrument.specs.Translation.{all_kinds, at_leave, at_start, behind_own, behind_pre, first_flag, first_own, first_pointer, front_temporaries, held_of, index_of_main, outermost, own_types, plan_of, pointers, result_register, value_types}
use Rattle.instrument.specs.Translation as target
use Rattle.instrument.proofs.Births.{names_of, with_numbers}
use Rattle.instrument.proofs.Blocks.{meets_after}
use Rattle.instrument.proofs.Bodies.{HasBody, ascend_more, body_grows, entered_grows, left_grows, plan_fits, pre_fits, pre_grows, registers_long, start_registers}
use Rattle.instrument.proofs.CallEnds.{at_body}
use Rattle.instrument.proofs.Callees.{AnnotationsStand}
use Rattle.instrument.proofs.CheckedCalls.{CallLaws, EntryChecks, LeaveChecks, own_long}
use Rattle.instrument.proofs.ContractAsserts.{entry_do, leave_do}
use Rattle.instrument.proofs.Functions.{PreFollows, function, how_many, own, setting}
use Rattle.instrument.proofs.KeptPlans.{plan_stands}
use Rattle.instrument.proofs.Numbers.{numbers_in}
use Rattle.instrument.proofs.Passages.{ItemsKept, KeptAt, label_passes}
use Rattle.instrument.proofs.Programs.{Part}
use Rattle.instrument.proofs.ValidRegisters.{own_types_are}

-- where a body begins, parameters and globals are in sight
abbrev pub AtBeginning : TranslationUnit → Function → Scope → Type 0
AtBeginning p f scope = names_of scope ≡ with_numbers f.params (numbers_in p.globals)

-- its clauses are typed and keep their ranges, where parameters and globals are in sight
pub record ClausesStand (p : TranslationUnit) (f : Function) : Type 0 where
  pub entry : (c : FunctionContract) → f.contract ≡ Some c → (v : code.Setting) → v.plan ≡ [] → v.held ≡ [] → v.seen ≡ [] → v.names ≡ [] → AtBeginning p f v.now.scope
      → AreGood v c.behaviors (first_flag f) (length c.behaviors) (entry_checks c)
  pub leave : (c : FunctionContract) → f.contract ≡ Some c → (v : code.Setting) → v.plan ≡ plan_of f → v.held ≡ held_of f → v.seen ≡ seen_in f.result → AtBeginning p f v.now.scope
      → AreGood v c.behaviors (first_flag f) (length c.behaviors) (leave_checks c)

module _ (p : TranslationUnit) (globals : List Value) (main index : ℕ) (f : Function) (part : Part p f) (body : HasBody p f part) (call : Callee) (calls : monitored.Calls over_blocks) (n : ℕ) where
  abbrev mine : List MonType
  mine = own p globals main index f call calls n

  abbrev names : List ℕ
  names = numbers_in p.globals

  abbrev low : ℕ
  low = first_pointer p mine f + length f.params

  -- how many registers there are
  abbrev count : ℕ
  count = how_many p globals main index f call calls n

  -- where the label `Pre` is passed
  pub pre_stands : KeptAt (plan_of f) (AtBeginning p f) None → PreFollows p globals main index f call calls n
  pre_stands kept store active blocks regs s t m le =
      let w = setting p globals main index f call calls n store active in
      let ordered = ascend_more (plan_of f) (first_own f) (first_own f + length (kept_types (planned f))) (behind_own f) (plan_fits f) (plans_ascend (first_own f) (planned f)) in
      label_passes w n ordered (at_body (length store) blocks f.result) (AtBeginning p f) low (at_start p mine f).bound None kept (at_start p mine f).kinds (omega (arith, start_registers p mine f))
      (omega (arith, registers_long p globals main index f call calls n, pre_fits p mine f f.contract)) regs s t le m.names m.standing m.beside

  module _ (c : FunctionContract) (is : f.contract ≡ Some c) (clauses : ClausesStand p f) where
    abbrev h : ℕ
    h = first_flag f

    abbrev last : ℕ
    last = h + length c.behaviors

    fits : last ≤ behind_own f
    fits = own_long p globals main index f call calls n c is

    all_fit : length (all_kinds p mine f (Some c)) ≤ count
    all_fit = omega (arith, registers_long p globals main index f call calls n, ap (λ o. length (all_kinds p mine f o)) is)

    entered_fit : next_register (target.at_body p mine f c) ≤ length (all_kinds p mine f (Some c))
    entered_fit = omega (arith, body_grows p (plan_of f) f.body (target.at_body p mine f c), left_grows p mine f c)

    abbrev w : State → Setting
    w s = setting p globals main index f call calls n s.store (s.calls + 1)

    pub entry_stands : EntryChecks p globals main index f call calls n c is
    entry_stands s blocks regs from t m le =
        let asking : code.Setting = record (judging (w s) n low (at_start p mine f).bound [] [] [] from t regs) { plan = [] } in
        entry_do (w s) n (at_body (length s.store) blocks f.result) low (at_start p mine f).bound c h last (omega arith) refl fits (behind_pre p mine f).kinds (omega (arith, start_registers p mine f, pre_grows p mine f))
        (omega (arith, all_fit, entered_fit)) regs from t le m.standing m.beside
        (subst (λ k. AreGood asking c.behaviors h k (entry_checks c)) (sym (length-map c.behaviors _)) (clauses.entry c is asking refl refl refl refl m.names))

    pub leave_stands : LeaveChecks p globals main index f call calls n c is
    leave_stands s blocks regs from t0 m le hs z to after t o many given holds keeps flagged same passes beside =
        let here = at_body (length s.store) blocks f.result in
        let m2 = meets_after (w s) here (outermost None (pointers p mine f)) low (at_start p mine f).bound (with_numbers f.params names) regs after from to t0 t o same keeps passes beside m in
        let judged : code.Setting = judging (w s) n low (at_start p mine f).bound (result_is (value_of z)) (held_of f) (seen_in f.result) to t after in
        leave_do (w s) n here low (at_start p mine f).bound f c (result_register f) h last (plan_stands (planned f) (first_own f) h (omega arith)) (omega arith) (omega arith) refl fits (at_leave p mine f c)
        (omega (arith, start_registers p mine f, entered_grows p mine f c, body_grows p (plan_of f) f.body (target.at_body p mine f c))) all_fit z given after holds to t (omega (arith, le, passes.spent)) m2.standing m2.beside hs many flagged
        (subst (λ k. AreGood judged c.behaviors h k (leave_checks c)) (omega (arith, many)) (clauses.leave c is judged refl refl refl m2.names))

  -- all that a call needs, where the function's registers begin with those that are its own
  pub laws_stand : Begins (value_types f.params ++ own_types f) (types_of ((function p globals main index f call calls n).parameters ++ (function p globals main index f call calls n).registers))
      → KeptAt (plan_of f) (AtBeginning p f) None → ClausesStand p f → CallLaws p globals main index f call calls n
  laws_stand types kept clauses = record {
    types_are = types;
    pre = pre_stands kept;
    entry = λ c is. entry_stands c is clauses;
    leave = λ c is. leave_stands c is clauses;
  }

-- ---- all functions

-- what is known of the annotations of a function by its text
pub record FunctionStands (p : TranslationUnit) (f : Function) (part : Part p f) (body : HasBody p f part) : Type 0 where
  pub items : ItemsKept (plan_of f) (with_parameters (inner part.sight) f.params) body.items
  pub begins : KeptAt (plan_of f) (AtBeginning p f) None
  pub clauses : ClausesStand p f

pub annotations_stand : (p : TranslationUnit) (globals : List Value) → ((f : Function) (part : Part p f) (body : HasBody p f part) → FunctionStands p f part body) → AnnotationsStand p globals
annotations_stand p globals functions = record {
  kept = λ f part body. (functions f part body).items;
  laws = λ index f part body call calls n.
      let stands = functions f part body in
      let main = index_of_main p.names p.funcs in
      laws_stand p globals main index f part body call calls n (own_types_are p (front_temporaries p (nat_eq index main)) f) stands.begins stands.clauses;
}
