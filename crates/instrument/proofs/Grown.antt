-- Registers are only added where what a contract asks and a body are translated.
use Rattle.std.proofs.Common.{◌≡◌, ◌∙◌, ℕ, ◌+◌, ◌≤◌, List, [], length, Option, Some, None, ap, arith}
use Rattle.std.proofs.lemmas.List.{length-append}
use Rattle.c_syntax.specs.Statements.{Declaration, Statement}
use Rattle.c_syntax.specs.Programs.{FunctionContract, TranslationUnit}
use Rattle.c_model.specs.ContractChecks.{entry_checks}
use Rattle.mon_syntax.specs.Registers.{Names, RegisterTable, next_register}
use Rattle.mon_syntax.specs.Valid.{Types}
use Rattle.c_effects.specs.Named.{unit_of}
use Rattle.c_simulation.specs.Keeping.{Kept}
use Rattle.annot_code.specs.Checks.{names_behind_entry}
use Rattle.annot_simulation.specs.ContractCode.{behind_entry}
use Rattle.annot_simulation.specs.Validity.{Begins}
use Rattle.annot_simulation.proofs.CheckPrefixes.{checks_begin}
use Rattle.instrument.specs.Options.{behind_body, entering, passed}
use Rattle.instrument.specs.Translation.{after_body}
use Rattle.instrument.proofs.DeclarationCode.{next-entered}
use Rattle.instrument.proofs.Tables.{begins_itself, label_begins, statement_begins}

longer : (rs ts : Types) → Begins rs ts → length rs ≤ length ts
longer rs ts b = let e = ap length b.is in let f = length-append rs b.rest in omega (arith, e, f)

body_begins : (p : TranslationUnit) (plan : List Kept) (body : Option Statement) (r : RegisterTable) → Begins r.kinds (after_body p plan body r).kinds
body_begins p plan None r = begins_itself r.kinds
body_begins p plan (Some a) r = statement_begins p plan a r

-- behind what a contract asks where a body begins, and behind the body
pub body_grows : (plan : List Kept) (h k : ℕ) (c : FunctionContract) (body : Option Statement) (n n1 n2 : Names) → k ≤ next_register n.table → n1 ≡ names_behind_entry h c n → n2 ≡ behind_body plan body n1 → k ≤ next_register n2.table
body_grows plan h k c body n n1 n2 le first second =
    let p = unit_of n in
    let all = behind_entry p n.table.bound h n.table.kinds c in
    let inside = names_behind_entry h c n in
    let a = longer n.table.kinds all (checks_begin all p n.table.bound [] [] c.behaviors h (entry_checks c) None n.table.kinds (begins_itself all)) in
    let b = longer inside.table.kinds (after_body p plan body inside.table).kinds (body_begins p plan body inside.table) in
    let d = ap (λ (m : Names). next_register m.table) (second ∙ ap (behind_body plan body) first) in
    omega (arith, le, a, b, d)

-- where parameters are born, and the label `Pre` is passed
pub passage_grows : (plan : List Kept) (l : Option ℕ) (ds : List Declaration) (n n1 n2 : Names) → n1 ≡ entering ds n → n2 ≡ passed plan l n1 → next_register n.table + length ds ≤ next_register n2.table
passage_grows plan l ds n n1 n2 first second =
    let inside = entering ds n in
    let a = next-entered ds n.table in
    let b = longer inside.table.kinds (passed plan l inside).table.kinds (label_begins (unit_of n) plan l inside.table) in
    let d = ap (λ (m : Names). next_register m.table) (second ∙ ap (passed plan l) first) in
    omega (arith, a, b, d)
