use Rattle.std.proofs.Common.{rules, ◌≡◌, List, map, ◌∷◌, [], Err, ap, subst, ◌∙◌}
use Rattle.std.proofs.lemmas.List.{map-append}
use Rattle.std.specs.Prelude.{Vec}
use Rattle.std.specs.declared.alloc.Global.{Global}
use Rattle.mon_syntax.specs.declared.tree.MonExpr.{MonExpr}
use Rattle.mon_syntax.specs.Trees.{MonExpression, plain_expr}
use Rattle.mon_syntax.specs.Checking.{Checked}
use Rattle.mon_parser.specs.ParsedTrees.{plain_arg}
use Rattle.mon_typing.specs.Answers.{Gives}
use Rattle.mon_typing.specs.Scopes.{plain_scope}
use Rattle.mon_typing.proofs.Values.{no_type, next_value, value_fails, all_taken}
use Rattle.mon_typing.proofs.argument.values_of.Goals as goal

pub returns-in_err-value : goal.returns-in_err-value
returns-in_err-value c =
    let e : c.from_residual.result ≡ Err c.in_err-value.field-0.0 = search rules in
    rw e (value_fails (plain_scope c.args.scope.now) c.args.place c.args.kinds.now c.each.kind-index no_type (map plain_arg c.each.rest.now) (map plain_expr c.each.values.items) c.in_err-value.field-0.0 _ c.each-test.true c.in_err-value.ensures
    c.each.invariant)

pub each-preserved : goal.each-preserved
each-preserved c =
    next_value (plain_scope c.args.scope.now) c.args.place c.args.kinds.now c.each.kind-index no_type (map plain_arg c.each.rest.now) (map plain_arg c.in_ok-value.more.now) (map plain_expr c.each.values.items) (map plain_expr c.push.new.self.items)
    (plain_expr c.in_ok-value.value) _
    c.each-test.true c.in_ok-value.ensures (ap (map plain_expr) c.in_ok-push.ensures.items ∙ map-append plain_expr c.each.values.items (c.in_ok-value.value ∷ [])) c.each.invariant

pub returns : goal.returns
returns c =
    subst (λ (x : Checked (List MonExpression)). Gives (λ (v : Vec MonExpr Global). map plain_expr v.items) c.all_values.result x)
    (all_taken (plain_scope c.args.scope.now) c.args.place c.args.kinds.now c.each.kind-index (map plain_arg c.each.rest.now) (map plain_expr c.each.values.items) _ c.each-test.false c.each.invariant)
    c.all_values.ensures
