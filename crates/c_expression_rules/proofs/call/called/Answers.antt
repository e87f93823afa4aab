use Rattle.std.proofs.Common.{◌≡◌, ◌∙◌, ap, sym, length, nat_eq, true, false, rules}
use Rattle.c_model.specs.Checked.{Good}
use Rattle.c_syntax.specs.Expressions.{Node, Call, plain_exprs}
use Rattle.c_model.specs.ExpressionTyping.{use_as}
use Rattle.c_expression_rules.proofs.Calls.{as_many, another_number}
use Rattle.c_expression_rules.proofs.call.called.Goals as goal

pub returns-in_ok-ctype : goal.returns-in_ok-ctype
returns-in_ok-ctype c =
    let same : nat_eq (length c.args.arguments.now) (length c.args.f.now.params.items) ≡ true = search rules in
    as_many c.args.place c.args.f.now c.args.arguments.now same ∙ ap (λ t. Good (Node c.args.place t (Call (use_as c.args.f.now.name c.args.f.now.decl) (plain_exprs c.args.arguments.now)))) (sym c.in_ok-ctype.ensures)

pub returns-else-arguments-len : goal.returns-else-arguments-len
returns-else-arguments-len c =
    let other : nat_eq (length c.args.arguments.now) (length c.args.f.now.params.items) ≡ false = search rules in
    rw c.no_type.ensures (another_number c.args.place c.args.f.now c.args.arguments.now other)
