use Rattle.std.proofs.Common.{◌∙◌, ap, map, rules}
use Rattle.c_syntax.specs.Ctypes.{plain_type}
use Rattle.c_syntax.specs.Statements.{plain_decl}
use Rattle.c_syntax.specs.Programs.{plain_contract}
use Rattle.c_scopes.specs.Sights.{plain_sight}
use Rattle.c_typing.proofs.KnownLabels.{numbered_left}
use Rattle.c_typing.proofs.NotedContracts.{within_noted}
use Rattle.c_typing.proofs.contract.note_within.Goals as goal

pub returns-clause-same : goal.returns-clause-same
returns-clause-same c =
    let t = plain_sight c.enter-mark.new.sight in
    numbered_left (plain_sight c.args.sight.now) t (plain_sight c.type_contract.new.sight) (plain_sight c.leave.new.sight) c.enter-mark.result.count c.enter-mark.result.innermost
    (map plain_decl c.args.params.now) c.args.numbers.now c.enter-mark.ensures.inner (ap (λ m. m.count) c.enter-mark.ensures.mark) (ap (λ m. m.innermost) c.enter-mark.ensures.mark) c.leave.ensures
    (ap plain_sight c.type_contract.ensures.same ∙ c.in_ok-formals.ensures.seen)

pub returns-clause-noted : goal.returns-clause-noted
returns-clause-noted c =
    let whole = within_noted (plain_sight c.args.sight.now) (plain_sight c.enter-mark.new.sight) (plain_sight c.see_numbered.new.sight) c.args.numbers.now c.in_ok-formals.formals.list.items (map plain_decl c.args.params.now)
    (plain_type c.args.ctype.now) (plain_contract c.args.c.now) (plain_contract c.type_contract.new.contract) c.type_contract.result c.enter-mark.ensures.inner c.in_ok-formals.ensures.seen c.in_ok-formals.ensures.numbers (search rules) in
    search (rules, whole)

pub returns-in_err-type_contract-clause-noted : goal.returns-in_err-type_contract-clause-noted
returns-in_err-type_contract-clause-noted c =
    let whole = within_noted (plain_sight c.args.sight.now) (plain_sight c.enter-mark.new.sight) (plain_sight c.see_numbered.new.sight) c.args.numbers.now c.in_ok-formals.formals.list.items (map plain_decl c.args.params.now)
    (plain_type c.args.ctype.now) (plain_contract c.args.c.now) (plain_contract c.type_contract.new.contract) c.type_contract.result c.enter-mark.ensures.inner c.in_ok-formals.ensures.seen c.in_ok-formals.ensures.numbers (search rules) in
    search (rules, whole)
