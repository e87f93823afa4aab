-- Ours: plain forms.
-- What expressions with effects become where a function's names are these, and from their parts.
use Rattle.std.specs.Prelude.{ℕ, pos, Bool, List, ◌++◌, length, Option, Some, None}
use Rattle.c_syntax.specs.declared.expression.Expr.{Expr}
use Rattle.c_syntax.specs.declared.expression.Use.{Use}
use Rattle.c_syntax.specs.Ctypes.{plain_type}
use Rattle.c_syntax.specs.Expressions as source
use Rattle.c_syntax.specs.Expressions.{Expression, Node, Expressions, plain_expr, type_of}
use Rattle.c_syntax.specs.Programs.{TranslationUnit}
use Rattle.mon_syntax.specs.declared.tree.MonType.{MonType}
use Rattle.mon_syntax.specs.declared.tree.MonType.TheVariants.{I32}
use Rattle.mon_syntax.specs.Registers.{Names}
use Rattle.mon_syntax.specs.Trees.{MonExpression, MonStatements, NoStatement, If, Constant}
use Rattle.c_effects.specs.Expressions.{before, one, set, value_type}
use Rattle.c_effects.specs.Effects.{call, is_direct}
use Rattle.c_effects.specs.Named.{unit_of}
use Rattle.c_effects.specs.Full.{act, all_results, all_takes, condition_result, kept_setup, kept_types, kept_value, location, object_of}
use Rattle.c_effects.specs.Full.{object_setup, origin, prepare, prepare_all, result, takes, truth_result}

-- ---- by names

abbrev pub takes_by : Names → Expression → List MonType
takes_by n e = takes (unit_of n) e

abbrev pub result_by : Names → Expression → MonExpression
result_by n e = result (unit_of n) n.table.bound n.table.kinds e

abbrev pub location_by : Names → Expression → MonExpression
location_by n e = location (unit_of n) n.table.bound n.table.kinds e

abbrev pub origin_by : Names → Expression → MonExpression
origin_by n e = origin (unit_of n) n.table.bound n.table.kinds e

abbrev pub condition_result_by : Names → Expression → MonExpression
condition_result_by n e = condition_result (unit_of n) n.table.bound n.table.kinds e

abbrev pub prepare_by : Names → Expression → MonStatements
prepare_by n e = prepare (unit_of n) n.table.bound n.table.kinds e

abbrev pub act_by : Names → Expression → MonStatements
act_by n e = act (unit_of n) n.table.bound n.table.kinds e

abbrev pub all_results_by : Names → Expressions → List MonExpression
all_results_by n es = all_results (unit_of n) n.table.bound n.table.kinds es

abbrev pub prepare_all_by : Names → Expressions → MonStatements
prepare_all_by n es = prepare_all (unit_of n) n.table.bound n.table.kinds es

-- ---- an operand that may be kept

abbrev pub operand_by : Names → Bool → Expression → MonExpression
operand_by n keep e = kept_value keep (length (n.table.kinds ++ takes_by n e)) (result_by n e)

abbrev pub operand_setup_by : Names → Bool → Expression → MonStatements
operand_setup_by n keep e = kept_setup keep (length (n.table.kinds ++ takes_by n e)) (prepare_by n e) (result_by n e)

abbrev pub operand_takes : TranslationUnit → Bool → Expression → List MonType
operand_takes p keep e = kept_types keep (takes p e) (value_type (type_of e))

-- ---- the object that is assigned to

abbrev pub object_by : Names → Expression → ℕ
object_by n e = object_of (unit_of n) n.table.bound n.table.kinds e

abbrev pub object_setup_by : Names → Expression → MonStatements
object_setup_by n e = object_setup (is_direct (unit_of n) e) (length (n.table.kinds ++ takes_by n e)) (prepare_by n e) (origin_by n e)

-- ---- the right side of `&&` and `||`

abbrev pub truth_code_by : Names → Expression → MonStatements
truth_code_by n e =
    before (prepare_by n e) (set (length (n.table.kinds ++ takes_by n e)) (truth_result (unit_of n) n.table.bound n.table.kinds e))

abbrev pub both_code_by : Names → MonExpression → Expression → MonStatements
both_code_by n test e = one (If test (truth_code_by n e) (set (length (n.table.kinds ++ takes_by n e)) (Constant I32 (pos 0))))

abbrev pub either_code_by : Names → MonExpression → Expression → MonStatements
either_code_by n test e = one (If test (set (length (n.table.kinds ++ takes_by n e)) (Constant I32 (pos 1))) (truth_code_by n e))

-- ---- calls, and what stands for its effects

abbrev pub called_value_by : Names → Use → Expressions → MonStatements
called_value_by n f es =
    before (prepare_all_by n es) (call (unit_of n) (Some (length (n.table.kinds ++ all_takes (unit_of n) es))) f es (all_results_by n es))

abbrev pub called_alone_by : Names → Use → Expressions → MonStatements
called_alone_by n f es = before (prepare_all_by n es) (call (unit_of n) None f es (all_results_by n es))

abbrev pub act_if_any_by : Names → Option Expression → MonStatements
act_if_any_by n None = NoStatement
act_if_any_by n (Some e) = act_by n e

-- two expressions, one after the other, of which the second one has the value
abbrev pub comma_of : Expr → Expr → Expression
comma_of a b = Node a.place (plain_type b.ctype) (source.Comma (plain_expr a) (plain_expr b))
