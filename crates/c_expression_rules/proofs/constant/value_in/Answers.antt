use Rattle.std.proofs.Common.{rules, ◌≡◌, ap, sym, ◌∙◌, map, true}
use Rattle.c_syntax.specs.Expressions.{plain_expr}
use Rattle.c_syntax.specs.Programs.{plain_layout}
use Rattle.c_model.specs.ExpressionTyping.{is_constant, tables_in}
use Rattle.c_scopes.specs.Sights.{plain_sight}
use Rattle.c_expression_rules.specs.Constants.{folded, has_small_sizes}
use Rattle.c_expression_rules.proofs.Folding.{value_by_forms}
use Rattle.c_expression_rules.proofs.constant.value_in.Goals as goal

pub returns : goal.returns
returns c =
    let T = tables_in (plain_sight c.args.sight.now) in
    let e = plain_expr c.args.e.now in
    let is : is_constant T true e ≡ true = search rules in
    let small : has_small_sizes T.structs e ≡ true = search rules in
    c.value_of.ensures ∙ ap (λ l. folded (map plain_layout l) e) c.deref.ensures.value ∙ sym (value_by_forms T e is small)
