use Rattle.std.proofs.Common.{◌∙◌, ap, sym, map}
use Rattle.c_syntax.specs.Expressions.{plain_expr}
use Rattle.c_syntax.specs.Programs.{plain_layout}
use Rattle.c_expression_rules.specs.Constants.{has_small_sizes}
use Rattle.c_declaration_rules.proofs.constant.number.Goals as goal

pub constant-requires : goal.constant-requires
constant-requires c =
    sym (c.has_small_sizes.ensures ∙ ap (λ l. has_small_sizes (map plain_layout l) (plain_expr c.args.e.now)) c.deref.ensures.value) ∙ c.if-has_small_sizes.true
