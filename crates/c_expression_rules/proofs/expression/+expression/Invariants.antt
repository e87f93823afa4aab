use Rattle.std.proofs.Common.{◌≡◌, ◌+◌, ◌*◌, ◌≤◌, map, take, length}
use Rattle.std.specs.Prelude.{max}
use Rattle.c_syntax.specs.declared.expression.Expr.{size-Expr}
use Rattle.c_syntax.specs.declared.expression.ExprKind.{size-ExprKind}
use Rattle.c_syntax.specs.declared.types.CType.{size-CType}
use Rattle.c_syntax.specs.declared.types.Length.{size-Length}
use Rattle.c_syntax.specs.Ctypes.{plain_type}
use Rattle.c_syntax.specs.Expressions.{plain_exprs}
use Rattle.c_model.specs.ExpressionTyping.{typed_arguments}
use Rattle.c_scopes.specs.Answers.{Answers}
use Rattle.c_scopes.specs.Sights.{plain_sight}
use Rattle.c_expression_rules.proofs.Expressions.{params_behind}
use Rattle.c_expression_rules.proofs.expression.+expression.Given as goal

abbrev pub invariant-type_arguments-loop-i : goal.invariant-type_arguments-loop-i
invariant-type_arguments-loop-i l = record {
  unvisited : goal.unvisited-type_arguments-loop-i l;
  within : l.i ≤ length l.arguments.items;
  rest : map plain_type l.rest ≡ params_behind (take l.i l.initial.arguments.items) (map plain_type l.fn.params);
  done : Answers (λ u. plain_exprs (take l.i l.arguments.items)) (typed_arguments (plain_sight l.sight) l.printed (map plain_type l.fn.params) (plain_exprs (take l.i l.initial.arguments.items))) l.done;
}

abbrev pub decreases-type_expr : goal.decreases-type_expr
decreases-type_expr l = 8 * size-Expr l.e.now

abbrev pub decreases-type_kind : goal.decreases-type_kind
decreases-type_kind l = 8 * size-ExprKind l.kind.now + 1

abbrev pub decreases-type_one : goal.decreases-type_one
decreases-type_one l = 8 * size-ExprKind l.kind.now

abbrev pub decreases-type_two : goal.decreases-type_two
decreases-type_two l = 8 * size-ExprKind l.kind.now

abbrev pub decreases-type_after_place : goal.decreases-type_after_place
decreases-type_after_place l = 8 * size-ExprKind l.kind.now

abbrev pub decreases-type_value : goal.decreases-type_value
decreases-type_value l = 8 * size-Expr l.e.now + 1

abbrev pub decreases-type_values : goal.decreases-type_values
decreases-type_values l = 8 * max (size-Expr l.a.now) (size-Expr l.b.now) + 2

abbrev pub decreases-type_place_and_value : goal.decreases-type_place_and_value
decreases-type_place_and_value l = 8 * max (size-Expr l.a.now) (size-Expr l.b.now) + 2

abbrev pub decreases-type_three : goal.decreases-type_three
decreases-type_three l = 8 * max (size-Expr l.a.now) (max (size-Expr l.b.now) (size-Expr l.c.now)) + 3

abbrev pub decreases-type_cast : goal.decreases-type_cast
decreases-type_cast l = 8 * max (size-CType l.to.now) (size-Expr l.a.now) + 3

abbrev pub decreases-type_cast_parts : goal.decreases-type_cast_parts
decreases-type_cast_parts l = 8 * max (size-CType l.to.now) (size-Expr l.a.now) + 2

abbrev pub decreases-type_size_of_type : goal.decreases-type_size_of_type
decreases-type_size_of_type l = 8 * size-CType l.u.now + 2

abbrev pub decreases-type_sized_type : goal.decreases-type_sized_type
decreases-type_sized_type l = 8 * size-CType l.u.now + 1

abbrev pub decreases-type_size_of_expr : goal.decreases-type_size_of_expr
decreases-type_size_of_expr l = 8 * size-Expr l.a.now + 1

abbrev pub decreases-type_call : goal.decreases-type_call
decreases-type_call l = 8 * goal.size-type_call l + 5

abbrev pub decreases-type_call_parts : goal.decreases-type_call_parts
decreases-type_call_parts l = 8 * goal.size-type_call_parts l + 4

abbrev pub decreases-type_arguments : goal.decreases-type_arguments
decreases-type_arguments l = 8 * goal.size-type_arguments l + 3

abbrev pub decreases-type_argument : goal.decreases-type_argument
decreases-type_argument l = 8 * size-Expr l.e.now + 2

abbrev pub decreases-type_written : goal.decreases-type_written
decreases-type_written l = 8 * size-CType l.t.now

abbrev pub decreases-type_array : goal.decreases-type_array
decreases-type_array l = 8 * max (size-CType l.u.now) (size-Length l.n.now) + 2

abbrev pub decreases-type_elements : goal.decreases-type_elements
decreases-type_elements l = 8 * size-CType l.u.now + 1

abbrev pub decreases-type_length : goal.decreases-type_length
decreases-type_length l = 8 * size-Length l.n.now

abbrev pub decreases-type_count : goal.decreases-type_count
decreases-type_count l = 8 * size-Expr l.e.now + 1
