use Rattle.std.proofs.Common.{rules, ◌≡◌, map, Ok, Err, sym, ap, ◌∙◌}
use Rattle.c_syntax.specs.declared.annotation.Kind.{Kind}
use Rattle.mon_syntax.specs.Trees as tree
use Rattle.mon_syntax.specs.Trees.{plain_expr}
use Rattle.mon_syntax.specs.Checking.{Checked, ◌>>=◌, kind_named}
use Rattle.mon_parser.specs.ParsedTrees.{plain_arg}
use Rattle.mon_typing.specs.Arguments.{only_kind}
use Rattle.mon_typing.specs.Scopes.{plain_scope}
use Rattle.mon_typing.proofs.Parts.{fails_after, fails_along}
use Rattle.mon_typing.proofs.Calls.{made_of_only}
use Rattle.mon_typing.proofs.call.assert_kind.Goals as goal

pub returns-in_err-kind : goal.returns-in_err-kind
returns-in_err-kind c =
    let s = plain_scope c.args.scope.now in
    let xs = map plain_arg c.args.arguments.now in
    let e : c.from_residual.result ≡ Err c.in_err-kind.field-0.0 = search rules in
    rw e (fails_along c.in_err-kind.field-0.0 _ _
    (made_of_only s c.args.place (kind_named s) xs (λ (k : Kind). tree.Assert (plain_expr c.args.truth.defined) (plain_expr c.args.truth.holds) c.args.number c.args.line k))
    (fails_after c.in_err-kind.field-0.0 (only_kind s c.args.place xs) (λ (k : Kind). Ok (tree.Assert (plain_expr c.args.truth.defined) (plain_expr c.args.truth.holds) c.args.number c.args.line k)) c.in_err-kind.ensures))

pub returns : goal.returns
returns c =
    let s = plain_scope c.args.scope.now in
    let xs = map plain_arg c.args.arguments.now in
    made_of_only s c.args.place (kind_named s) xs (λ (k : Kind). tree.Assert (plain_expr c.args.truth.defined) (plain_expr c.args.truth.holds) c.args.number c.args.line k)
    ∙ ap (λ (m : Checked Kind). m >>= λ (k : Kind). Ok (tree.Assert (plain_expr c.args.truth.defined) (plain_expr c.args.truth.holds) c.args.number c.args.line k)) c.in_ok-kind.ensures
    ∙ ap Ok (sym c.in_ok-new.ensures)
