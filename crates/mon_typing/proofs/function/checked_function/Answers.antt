use Rattle.std.proofs.Common.{rules, ◌≡◌, map, Ok, Err, sym, ap, ◌∙◌}
use Rattle.mon_syntax.specs.Trees.{plain_stmts}
use Rattle.mon_parser.specs.ParsedTrees.{plain_func}
use Rattle.mon_typing.specs.Headers.{plain_header}
use Rattle.mon_typing.proofs.Functions.{body_fails, function_checked}
use Rattle.mon_typing.proofs.function.checked_function.Goals as goal

pub returns-in_err-body : goal.returns-in_err-body
returns-in_err-body c =
    let e : c.from_residual.result ≡ Err c.in_err-body.field-0.0 = search rules in
    rw e (body_fails c.args.names.now c.args.words.now (map plain_header c.args.functions.now.headers.items) c.args.globals.now.numbers.keys (plain_func c.args.f.now) c.in_err-body.field-0.0 c.in_err-body.ensures)

pub returns : goal.returns
returns c =
    function_checked c.args.names.now c.args.words.now (map plain_header c.args.functions.now.headers.items) c.args.globals.now.numbers.keys (plain_func c.args.f.now) (plain_stmts c.in_ok-body.body.items) c.in_ok-body.ensures
    ∙ ap Ok (sym c.in_ok-named_function.ensures)
