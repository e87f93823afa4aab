use Rattle.std.proofs.Common.{rules, ◌≡◌, map, Err}
use Rattle.mon_typing.specs.Headers.{plain_header}
use Rattle.mon_typing.proofs.Programs.{one_fails, one_checked}
use Rattle.mon_typing.proofs.function.checked_functions.Goals as goal

pub returns-in_err-next_function : goal.returns-in_err-next_function
returns-in_err-next_function c =
    let gs = map plain_header c.args.functions.now.headers.items in
    let e : c.from_residual.result ≡ Err c.in_err-next_function.field-0.0 = search rules in
    rw e (one_fails c.args.names.now c.args.words.now gs c.args.globals.now.numbers.keys c.args.list.now c.each.index c.index-list-index.result
    c.each.all.items c.in_err-next_function.field-0.0 _ c.requires (search rules) c.index-list-index.is c.in_err-next_function.ensures
    c.each.invariant)

pub each-preserved : goal.each-preserved
each-preserved c =
    let gs = map plain_header c.args.functions.now.headers.items in
    one_checked c.args.names.now c.args.words.now gs c.args.globals.now.numbers.keys c.args.list.now c.each.index c.index-list-index.result
    c.each.all.items c.push.new.self.items c.in_ok-next_function.field-0 _ c.requires (search rules) c.index-list-index.is
    c.in_ok-next_function.ensures c.in_ok-push.ensures.items c.each.invariant
