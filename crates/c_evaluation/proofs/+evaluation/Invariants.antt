use Rattle.std.proofs.Common.{◌≡◌, ◌+◌, ◌*◌, ◌≤◌, ◌++◌, drop, length, map}
use Rattle.std.specs.Prelude.{max}
use Rattle.c_syntax.specs.declared.expression.Expr.{size-Expr}
use Rattle.c_syntax.specs.Expressions.{plain_exprs}
use Rattle.mon_syntax.specs.Trees.{plain_expr as plain_monitored, plain_stmts}
use Rattle.c_effects.specs.Expressions.{before}
use Rattle.c_effects.specs.Full.{all_takes}
use Rattle.c_effects.specs.Named.{unit_of, with_registers}
use Rattle.c_effects.specs.Letters.{ValuesHaveLetters}
use Rattle.c_evaluation.specs.Evaluated.{all_results_by, prepare_all_by}
use Rattle.c_evaluation.proofs.+evaluation.Given as goal
use denote.Param.Weighed.{most}

abbrev pub decreases-evaluation::value : goal.decreases-evaluation::value
decreases-evaluation::value l = 16 * size-Expr l.e.now

abbrev pub decreases-evaluation::location : goal.decreases-evaluation::location
decreases-evaluation::location l = 16 * size-Expr l.e.now + 2

abbrev pub decreases-evaluation::origin : goal.decreases-evaluation::origin
decreases-evaluation::origin l = 16 * size-Expr l.e.now + 3

abbrev pub decreases-evaluation::prefixed : goal.decreases-evaluation::prefixed
decreases-evaluation::prefixed l = 16 * size-Expr l.a.now + 3

abbrev pub decreases-evaluation::pointed_to : goal.decreases-evaluation::pointed_to
decreases-evaluation::pointed_to l = 16 * size-Expr l.a.now + 1

abbrev pub decreases-evaluation::cast : goal.decreases-evaluation::cast
decreases-evaluation::cast l = 16 * size-Expr l.a.now + 3

abbrev pub decreases-evaluation::operand : goal.decreases-evaluation::operand
decreases-evaluation::operand l = 16 * size-Expr l.e.now + 1

abbrev pub decreases-evaluation::binary : goal.decreases-evaluation::binary
decreases-evaluation::binary l = 16 * max (size-Expr l.operands.0.now) (size-Expr l.operands.1.now) + 2

abbrev pub decreases-evaluation::element : goal.decreases-evaluation::element
decreases-evaluation::element l = 16 * max (size-Expr l.operands.0.now) (size-Expr l.operands.1.now) + 2

abbrev pub decreases-evaluation::member : goal.decreases-evaluation::member
decreases-evaluation::member l = 16 * size-Expr l.a.now + 3

abbrev pub decreases-evaluation::member_behind : goal.decreases-evaluation::member_behind
decreases-evaluation::member_behind l = 16 * size-Expr l.a.now + 1

abbrev pub decreases-evaluation::and : goal.decreases-evaluation::and
decreases-evaluation::and l = 16 * max (size-Expr l.a.now) (size-Expr l.b.now) + 4

abbrev pub decreases-evaluation::or : goal.decreases-evaluation::or
decreases-evaluation::or l = 16 * max (size-Expr l.a.now) (size-Expr l.b.now) + 4

abbrev pub decreases-evaluation::choice : goal.decreases-evaluation::choice
decreases-evaluation::choice l = 16 * max (size-Expr l.a.now) (max (size-Expr l.values.0.now) (size-Expr l.values.1.now)) + 2

abbrev pub decreases-evaluation::condition_of : goal.decreases-evaluation::condition_of
decreases-evaluation::condition_of l = 16 * size-Expr l.e.now + 1

abbrev pub decreases-evaluation::apart : goal.decreases-evaluation::apart
decreases-evaluation::apart l = 16 * size-Expr l.e.now + 1

abbrev pub decreases-evaluation::truth_set : goal.decreases-evaluation::truth_set
decreases-evaluation::truth_set l = 16 * size-Expr l.e.now + 2

abbrev pub decreases-assignment::pointing : goal.decreases-assignment::pointing
decreases-assignment::pointing l = 16 * size-Expr l.e.now + 4

abbrev pub decreases-assignment::object : goal.decreases-assignment::object
decreases-assignment::object l = 16 * size-Expr l.e.now + 5

abbrev pub decreases-assignment::right_ready : goal.decreases-assignment::right_ready
decreases-assignment::right_ready l = 16 * max (size-Expr l.left.now) (size-Expr l.e.now) + 6

abbrev pub decreases-assignment::old_ready : goal.decreases-assignment::old_ready
decreases-assignment::old_ready l = 16 * size-Expr l.left.0.now + 6

abbrev pub decreases-assignment::change_ready : goal.decreases-assignment::change_ready
decreases-assignment::change_ready l = 16 * max (size-Expr l.left.0.now) (size-Expr l.e.now) + 8

abbrev pub decreases-assignment::read_after : goal.decreases-assignment::read_after
decreases-assignment::read_after l = 16 * max (size-Expr l.left.0.now) (size-Expr l.e.now) + 7

abbrev pub decreases-assignment::read_before : goal.decreases-assignment::read_before
decreases-assignment::read_before l = 16 * max (size-Expr l.left.0.now) (size-Expr l.e.now) + 7

abbrev pub decreases-assignment::bump_ready : goal.decreases-assignment::bump_ready
decreases-assignment::bump_ready l = 16 * size-Expr l.left.0.now + 6

abbrev pub decreases-assignment::assign_object : goal.decreases-assignment::assign_object
decreases-assignment::assign_object l = 16 * max (size-Expr l.left.0.now) (size-Expr l.e.now) + 6

abbrev pub decreases-assignment::assigned : goal.decreases-assignment::assigned
decreases-assignment::assigned l = 16 * max (size-Expr l.left.0.now) (size-Expr l.e.now) + 10

abbrev pub decreases-assignment::assign : goal.decreases-assignment::assign
decreases-assignment::assign l = 16 * max (size-Expr l.left.0.now) (size-Expr l.e.now) + 7

abbrev pub decreases-assignment::change : goal.decreases-assignment::change
decreases-assignment::change l = 16 * max (size-Expr l.left.0.now) (size-Expr l.e.now) + 9

abbrev pub decreases-assignment::assign_alone : goal.decreases-assignment::assign_alone
decreases-assignment::assign_alone l = 16 * max (size-Expr l.left.0.now) (size-Expr l.e.now) + 10

abbrev pub decreases-assignment::assign_only : goal.decreases-assignment::assign_only
decreases-assignment::assign_only l = 16 * max (size-Expr l.left.0.now) (size-Expr l.e.now) + 7

abbrev pub decreases-assignment::bumped : goal.decreases-assignment::bumped
decreases-assignment::bumped l = 16 * size-Expr l.left.0.now + 7

abbrev pub decreases-assignment::bump_alone : goal.decreases-assignment::bump_alone
decreases-assignment::bump_alone l = 16 * size-Expr l.left.0.now + 7

abbrev pub decreases-act::arguments : goal.decreases-act::arguments
decreases-act::arguments l = 16 * most size-Expr l.args.now + 2

abbrev pub decreases-act::called : goal.decreases-act::called
decreases-act::called l = 16 * most size-Expr l.args.now + 3

abbrev pub decreases-act::call_alone : goal.decreases-act::call_alone
decreases-act::call_alone l = 16 * most size-Expr l.args.now + 3

abbrev pub decreases-act::act : goal.decreases-act::act
decreases-act::act l = 16 * size-Expr l.e.now

abbrev pub decreases-act::act_both_sides : goal.decreases-act::act_both_sides
decreases-act::act_both_sides l = 16 * max (size-Expr l.a.now) (size-Expr l.b.now) + 1

abbrev pub decreases-act::acted : goal.decreases-act::acted
decreases-act::acted l = 16 * size-Expr l.e.now + 1

abbrev pub decreases-act::act_both : goal.decreases-act::act_both
decreases-act::act_both l = 16 * max (size-Expr l.a.now) (size-Expr l.b.now) + 2

abbrev pub decreases-act::act_either : goal.decreases-act::act_either
decreases-act::act_either l = 16 * max (size-Expr l.a.now) (size-Expr l.b.now) + 2

abbrev pub decreases-act::act_choice : goal.decreases-act::act_choice
decreases-act::act_choice l = 16 * max (size-Expr l.a.now) (max (size-Expr l.values.0.now) (size-Expr l.values.1.now)) + 2

abbrev pub decreases-assignment::change_only : goal.decreases-assignment::change_only
decreases-assignment::change_only l = 16 * max (size-Expr l.left.0.now) (size-Expr l.e.now) + 9

abbrev pub decreases-evaluation::second_value : goal.decreases-evaluation::second_value
decreases-evaluation::second_value l = 16 * max (size-Expr l.a.now) (size-Expr l.b.now) + 1

abbrev pub decreases-evaluation::second_location : goal.decreases-evaluation::second_location
decreases-evaluation::second_location l = 16 * max (size-Expr l.a.now) (size-Expr l.b.now) + 3

abbrev pub decreases-evaluation::second_origin : goal.decreases-evaluation::second_origin
decreases-evaluation::second_origin l = 16 * max (size-Expr l.a.now) (size-Expr l.b.now) + 4

abbrev pub decreases-evaluation::nowhere : goal.decreases-evaluation::nowhere
decreases-evaluation::nowhere l = 16 * size-Expr l.e.now + 1

abbrev pub decreases-evaluation::element_value : goal.decreases-evaluation::element_value
decreases-evaluation::element_value l = 16 * max (size-Expr l.operands.0.now) (size-Expr l.operands.1.now) + 3

abbrev pub decreases-evaluation::member_value : goal.decreases-evaluation::member_value
decreases-evaluation::member_value l = 16 * size-Expr l.a.now + 4

abbrev pub decreases-evaluation::member_behind_value : goal.decreases-evaluation::member_behind_value
decreases-evaluation::member_behind_value l = 16 * size-Expr l.a.now + 2

abbrev pub decreases-assignment::assigned_value : goal.decreases-assignment::assigned_value
decreases-assignment::assigned_value l = 16 * max (size-Expr l.left.0.now) (size-Expr l.e.now) + 11

abbrev pub decreases-assignment::assigned_location : goal.decreases-assignment::assigned_location
decreases-assignment::assigned_location l = 16 * max (size-Expr l.left.0.now) (size-Expr l.e.now) + 11

abbrev pub decreases-assignment::assigned_origin : goal.decreases-assignment::assigned_origin
decreases-assignment::assigned_origin l = 16 * max (size-Expr l.left.0.now) (size-Expr l.e.now) + 11

-- the arguments from here on are evaluated
abbrev pub invariant-act::arguments-expressions : goal.invariant-act::arguments-expressions
invariant-act::arguments-expressions l = record {
  within : l.i ≤ length l.args;
  values : map plain_monitored l.values.items ++ all_results_by l.names (plain_exprs (drop l.i l.args)) ≡ all_results_by l.initial.names (plain_exprs l.args);
  setup : before (plain_stmts l.to.items) (prepare_all_by l.names (plain_exprs (drop l.i l.args))) ≡ before (plain_stmts l.initial.to.items) (prepare_all_by l.initial.names (plain_exprs l.args));
  names : with_registers (all_takes (unit_of l.names) (plain_exprs (drop l.i l.args))) l.names ≡ with_registers (all_takes (unit_of l.initial.names) (plain_exprs l.args)) l.initial.names;
  letters : ValuesHaveLetters (plain_exprs (drop l.i l.args)) → ValuesHaveLetters (plain_exprs l.args);
}
