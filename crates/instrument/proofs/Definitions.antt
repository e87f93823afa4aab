-- The functions of a program one after another, and the body of one.
use Rattle.std.proofs.Common.{◌≡◌, ℕ, suc, ◌+◌, ◌<◌, Bool, true, false, if◌then◌else◌, List, [], ◌∷◌, ◌++◌, length, drop, map, get_or, Option, Some, None, option_map, refl, sym, ap, ◌∙◌, arith, append_assoc, subst}
use Rattle.std.proofs.lemmas.List.{length-append, length-map}
use Rattle.c_syntax.specs.declared.program.Func.{Func}
use Rattle.c_syntax.specs.declared.statement.Stmt.{Stmt}
use Rattle.c_syntax.specs.Programs.{FunctionContract, Function, TranslationUnit, plain_func}
use Rattle.c_syntax.specs.Statements.{Declaration, Statement, plain_stmt}
use Rattle.c_model.specs.Meaning.{is_definition}
use Rattle.c_model.specs.Library.{is_there}
use Rattle.mon_syntax.specs.declared.tree.MonFunc.{MonFunc}
use Rattle.mon_syntax.specs.declared.tree.MonType.{MonType}
use Rattle.mon_syntax.specs.declared.tree.MonType.TheVariants.{Ptr}
use Rattle.mon_syntax.specs.Registers.{Bindings, Names, RegisterTable, next_register, no_registers, with_kinds, with_table}
use Rattle.mon_syntax.specs.Trees.{MonFunction, MonStatements, NoStatement, Then, Labelled, plain_func as plain_monitored_func}
use Rattle.track_scopes.specs.Blocks.{deaths, entered, with_pointer}
use Rattle.c_effects.specs.Expressions.{before}
use Rattle.c_effects.specs.Named.{unit_of, with_registers}
use Rattle.c_effects.proofs.Sequences.{left_at}
use Rattle.c_simulation.specs.Keeping.{Kept}
use Rattle.c_simulation.specs.Labels.{leave_label}
use Rattle.annot_code.specs.Checks.{names_behind_entry}
use Rattle.annot_simulation.specs.ContractCode.{entry_code, behind_leave, leave_code}
use Rattle.annot_simulation.specs.Plan.{kept_from, kept_types, planned}
use Rattle.annot_simulation.specs.Snapshots.{snapshot}
use Rattle.instrument.specs.Limits.{ContractHasNumbers}
use Rattle.instrument.specs.Options.{behind_contracted, behind_whole, body_by, bound_from, contracted_by, entering, globals_initialised, own_code, passed, whole_code}
use Rattle.instrument.specs.Translation.{outermost, all_kinds, at_brace, at_leave, at_start, behind_pre, body_code, body_part, code_of, first_flag, first_pointer, front, front_temporaries, function_of, functions_from, held_of, last_return}
use Rattle.instrument.specs.Translation.{own_types, parameters, plan_of, pointers, result_of, result_register, value_types}
use Rattle.instrument.proofs.GlobalCode.{globals_are}

pub body_is : (ks : List Kept) (n : Names) (result : Option ℕ) (live : List ℕ) (a : Option Statement) → body_by ks n (outermost result live) a ≡ body_part (unit_of n) ks result live n.table a
body_is ks n result live None = refl
body_is ks n result live (Some a) = refl

-- ---- the scope of parameters

pub entered_bound : (ds : List Declaration) (r : RegisterTable) → (entered ds r).bound ≡ bound_from (next_register r) ds r.bound
entered_bound [] r = refl
entered_bound (d ∷ ds) r =
    let next : next_register (with_pointer d r) ≡ suc (next_register r) = (let e = length-append r.kinds (Ptr ∷ []) in omega (arith, e)) in
    entered_bound ds (with_pointer d r) ∙ ap (λ k. bound_from k ds (with_pointer d r).bound) next

-- ---- the code of a function from its parts

module _ (n : Names) (is_main : Bool) (f : Function) where
  abbrev p : TranslationUnit
  p = unit_of n

  -- those that stand between what the function keeps and pointers to parameters
  abbrev between : List MonType
  between = front_temporaries p is_main

  -- where the function's arguments have registers, and what it keeps
  abbrev argued : Names
  argued = with_table (with_kinds (value_types f.params) no_registers) n

  abbrev kept : Names
  kept = with_registers (own_types f) argued

  -- where its parameters are born
  abbrev begun : Names
  begun = with_table (record { kinds = value_types f.params ++ (own_types f ++ between); bound = [] }) n

  begun_is : with_registers between kept ≡ begun
  begun_is = ap (λ ts. with_table (record { kinds = ts; bound = [] }) n) (append_assoc (value_types f.params) (own_types f) between)

  front_is : (if is_main then globals_initialised kept (unit_of kept).globals else NoStatement) ≡ front p is_main f
  front_is = ap (λ a. if is_main then a else NoStatement) (globals_are kept p.globals refl)

  -- where the label `Pre` was passed
  abbrev passed_pre : Names
  passed_pre = passed (plan_of f) None (entering f.params begun)

  abbrev bound : Bindings
  bound = (behind_pre p between f).bound

  bound_is : bound_from (first_pointer p between f) f.params [] ≡ bound
  bound_is = sym (entered_bound f.params (with_kinds (own_types f ++ between) (with_kinds (value_types f.params) no_registers)))

  contracted_is : (o : Option FunctionContract) → contracted_by (plan_of f) (result_register f) (first_pointer p between f) (pointers p between f) f is_main passed_pre o ≡ body_code p between f is_main o
  contracted_is None = ap (λ a. before a (deaths (pointers p between f))) (body_is (plan_of f) passed_pre None (pointers p between f) f.body)
  contracted_is (Some c) = λ i.
      before (entry_code p bound (first_flag f) (behind_pre p between f).kinds c)
      (Then (Labelled (before (body_is (plan_of f) (names_behind_entry (first_flag f) c passed_pre) (Some (result_register f)) [] f.body i) (at_brace p between f is_main)) leave_label)
      (before (leave_code p (bound_is i) (plan_of f) (held_of f) (first_flag f) (at_leave p between f c) c)
      (before (deaths (pointers p between f)) (last_return (result_register f) (result_of f.result)))))

  own_is : own_code (plan_of f) (result_register f) f is_main begun ≡ code_of p between f is_main
  own_is = ap (λ a. before (parameters p (first_pointer p between f) 0 f.params) (before (snapshot p (at_start p between f).bound None (at_start p between f).kinds (plan_of f)) a)) (contracted_is f.contract)

  kinds_are : (o : Option FunctionContract)
      → (behind_contracted (plan_of f) (result_register f) (first_pointer p between f) (pointers p between f) f o passed_pre).table.kinds ≡ all_kinds p between f o
  kinds_are None = refl
  kinds_are (Some c) = ap (λ b. behind_leave p b (plan_of f) (held_of f) (first_flag f) (at_leave p between f c) c) bound_is

  program_is : (o : Option FunctionContract) → (behind_contracted (plan_of f) (result_register f) (first_pointer p between f) (pointers p between f) f o passed_pre).program ≡ n.program
  program_is None = refl
  program_is (Some c) = refl

  -- from the names and the code of its parts
  module _ (n0 n1 n2 n3 : Names) (ks : List Kept) (given : ℕ) (names0 : n0 ≡ argued) (kept_are : ks ≡ kept_from (next_register n0.table) (planned f))
      (given_is : given ≡ next_register n0.table + length (kept_types (planned f))) (names1 : n1 ≡ with_registers (own_types f) n0)
      (names2 : n2 ≡ with_registers (front_temporaries (unit_of n1) is_main) n1) where
    plan_is : ks ≡ plan_of f
    plan_is = kept_are ∙ ap (λ (m : Names). kept_from (next_register m.table) (planned f)) names0

    register_is : given ≡ result_register f
    register_is = given_is ∙ ap (λ (m : Names). next_register m.table + length (kept_types (planned f))) names0

    second : n1 ≡ kept
    second = names1 ∙ ap (with_registers (own_types f)) names0

    third : n2 ≡ begun
    third = names2 ∙ ap (λ m. with_registers (front_temporaries (unit_of m) is_main) m) second ∙ begun_is

    pub code_is : (t0 t1 t2 : MonStatements) → t0 ≡ NoStatement → t1 ≡ before t0 (if is_main then globals_initialised n1 (unit_of n1).globals else NoStatement) → t2 ≡ before t1 (own_code ks given f is_main n2)
        → t2 ≡ whole_code p is_main f
    code_is t0 t1 t2 none first last =
        let start : t1 ≡ front p is_main f = first ∙ (λ i. before (none i) (if is_main then globals_initialised (second i) (unit_of (second i)).globals else NoStatement)) ∙ front_is in
        last ∙ (λ i. before (start i) (own_code (plan_is i) (register_is i) f is_main (third i))) ∙ ap (before (front p is_main f)) own_is

    names_are : n3 ≡ behind_whole ks given f n2 → n3 ≡ behind_whole (plan_of f) (result_register f) f begun
    names_are last = last ∙ (λ i. behind_whole (plan_is i) (register_is i) f (third i))

    pub code_kinds : n3 ≡ behind_whole ks given f n2 → n3.table.kinds ≡ all_kinds p between f f.contract
    code_kinds last = ap (λ (m : Names). m.table.kinds) (names_are last) ∙ kinds_are f.contract

    pub code_program : n3 ≡ behind_whole ks given f n2 → n3.program ≡ n.program
    code_program last = ap (λ (m : Names). m.program) (names_are last) ∙ program_is f.contract

    pub code_numbers : ContractHasNumbers (suc given) f.contract → ContractHasNumbers (first_flag f) f.contract
    code_numbers = subst (λ r. ContractHasNumbers (suc r) f.contract) register_is

-- ---- functions

pub no_definition : (f : Func) → f.body ≡ None → is_definition (plain_func f) ≡ false
no_definition f is = ap (λ (o : Option Stmt). is_there (option_map plain_stmt o)) is

module _ (p : TranslationUnit) (main : ℕ) where
  pub from_none : (k : ℕ) (f : Function) → is_definition f ≡ false → [] ≡ functions_from p main k (f ∷ [])
  from_none k f none = sym (ap (λ b. if b then function_of p main k f ∷ [] else []) none)

  from_first : (k : ℕ) (f : Function) (fs : List Function) → functions_from p main k (f ∷ fs) ≡ functions_from p main k (f ∷ []) ++ functions_from p main (k + length (functions_from p main k (f ∷ []))) fs
  from_first k f fs = by (is_definition f)
    where
      by : (b : Bool) → (if b then function_of p main k f ∷ functions_from p main (suc k) fs else functions_from p main k fs) ≡ (if b then function_of p main k f ∷ [] else []) ++ functions_from p main
          (k + length (if b then function_of p main k f ∷ [] else [])) fs
      by true = let e : suc k ≡ k + 1 = omega arith in ap (λ j. function_of p main k f ∷ functions_from p main j fs) e
      by false = let e : k ≡ k + 0 = omega arith in ap (λ j. functions_from p main j fs) e

  -- the index of the next definition
  pub index_after : (k : ℕ) (f : Function) → k + length (functions_from p main k (f ∷ [])) ≡ (if is_definition f then suc k else k)
  index_after k f = by (is_definition f)
    where
      by : (b : Bool) → k + length (if b then function_of p main k f ∷ [] else []) ≡ (if b then suc k else k)
      by true = omega arith
      by false = omega arith

  pub count_after : (f : Func) (old new : List MonFunc) → map plain_monitored_func new ≡ map plain_monitored_func old ++ functions_from p main (length old) (plain_func f ∷ [])
      → length new ≡ (if is_definition (plain_func f) then suc (length old) else length old)
  count_after f old new put =
      sym (length-map new plain_monitored_func) ∙ ap length put ∙ length-append (map plain_monitored_func old) (functions_from p main (length old) (plain_func f ∷ []))
      ∙ ap (λ n. n + length (functions_from p main (length old) (plain_func f ∷ []))) (length-map old plain_monitored_func) ∙ index_after (length old) (plain_func f)

  -- one more function of a list
  pub more_functions : (fs : List Func) (i : ℕ) (f : Func) (old new : List MonFunc) {all : List MonFunction} → i < length fs → f ≡ get_or fs i f
      → map plain_monitored_func new ≡ map plain_monitored_func old ++ functions_from p main (length old) (plain_func f ∷ []) → map plain_monitored_func old ++ functions_from p main (length old) (map plain_func (drop i fs)) ≡ all
      → map plain_monitored_func new ++ functions_from p main (length new) (map plain_func (drop (i + 1) fs)) ≡ all
  more_functions fs i f old new lt is put kept =
      let here = functions_from p main (length old) (plain_func f ∷ []) in
      let rest = map plain_func (drop (i + 1) fs) in
      let count : length old + length here ≡ length new =
      sym (sym (length-map new plain_monitored_func) ∙ ap length put ∙ length-append (map plain_monitored_func old) here ∙ ap (λ n. n + length here) (length-map old plain_monitored_func)) in
      let first : functions_from p main (length old) (map plain_func (drop i fs)) ≡ here ++ functions_from p main (length new) rest =
      left_at (λ l. functions_from p main (length old) (map plain_func l)) fs i f f lt is refl ∙ from_first (length old) (plain_func f) rest ∙ ap (λ n. here ++ functions_from p main n rest) count in
      ap (λ l. l ++ functions_from p main (length new) rest) put ∙ append_assoc (map plain_monitored_func old) here (functions_from p main (length new) rest)
      ∙ ap (λ l. map plain_monitored_func old ++ l) (sym first) ∙ kept
