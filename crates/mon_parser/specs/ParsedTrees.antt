-- Ours: plain forms.
-- The plain form of the tree of a monitored text: without boxes and vectors.
use Rattle.std.specs.Prelude.{ℤ, pos, neg_ℤ, ◌^◌, List, [], ◌∷◌, map, option_map, if◌then◌else◌}
use Rattle.mon_syntax.specs.Parsed.{NameUse, ParsedExpression, Name, Constant, Binary, Minus, Flip, Cast, Load, ParsedArgument, Value, Number, Text, ParsedCall}
use Rattle.mon_syntax.specs.Parsed.{ParsedStatement, Set, Store, Take, Call, If, Loop, Labelled, Goto, Return, ParsedStatements, NoStatement, Then}
use Rattle.mon_syntax.specs.Parsed.{ParsedRegister, ParsedFunction, ParsedGlobal, ParsedProgram}
use Rattle.mon_parser.specs.declared.parsed.NameUse as code_name
use Rattle.mon_parser.specs.declared.parsed.Literal as code_literal
use Rattle.mon_parser.specs.declared.parsed.ParsedExpr.{ParsedExpr}
use Rattle.mon_parser.specs.declared.parsed.ParsedExprKind.{ParsedExprKind}
use Rattle.mon_parser.specs.declared.parsed.ParsedExprKind as expr
use Rattle.mon_parser.specs.declared.parsed.ParsedArg.{ParsedArg}
use Rattle.mon_parser.specs.declared.parsed.ParsedArg.TheVariants as arg
use Rattle.mon_parser.specs.declared.parsed.ParsedCall as code_call
use Rattle.mon_parser.specs.declared.parsed.ParsedStmt.{ParsedStmt}
use Rattle.mon_parser.specs.declared.parsed.ParsedStmtKind.{ParsedStmtKind, Row_of-ParsedStmt, end_of-ParsedStmt, more_of-ParsedStmt}
use Rattle.mon_parser.specs.declared.parsed.ParsedStmtKind as stmt
use Rattle.mon_parser.specs.declared.parsed.ParsedRegister as code_register
use Rattle.mon_parser.specs.declared.parsed.ParsedFunc.{ParsedFunc}
use Rattle.mon_parser.specs.declared.parsed.ParsedGlobal as code_global
use Rattle.mon_parser.specs.declared.parsed.ParsedProgram as code_program

abbrev pub plain_name : code_name.NameUse → NameUse
plain_name x = record { place = x.place; number = x.number }

abbrev pub plain_literal : code_literal.Literal → ℤ
plain_literal l = if l.negative then neg_ℤ l.number else l.number

-- the least number that is too great for an i128
abbrev pub past_i128 : ℤ
past_i128 = pos (2 ^ 127)

abbrev pub plain_expr_kind : ParsedExprKind → ParsedExpression
plain_expr_kind (expr.Name x) = Name (plain_name x)
plain_expr_kind (expr.Constant at t l) = Constant at t (plain_literal l)
plain_expr_kind (expr.Binary' at op p a q b) = Binary at op (plain_expr_kind a) (plain_expr_kind b)
plain_expr_kind (expr.Minus' at p a) = Minus at (plain_expr_kind a)
plain_expr_kind (expr.Flip' at p a) = Flip at (plain_expr_kind a)
plain_expr_kind (expr.Cast' at t p a) = Cast at t (plain_expr_kind a)
plain_expr_kind (expr.Load' at t p a) = Load at t (plain_expr_kind a)

abbrev pub plain_expr : ParsedExpr → ParsedExpression
plain_expr e = plain_expr_kind e.kind.value

abbrev pub plain_arg : ParsedArg → ParsedArgument
plain_arg (arg.Value e) = Value (plain_expr e)
plain_arg (arg.Number at z) = Number at z
plain_arg (arg.Text at bytes) = Text at bytes

abbrev pub plain_call : code_call.ParsedCall → ParsedCall
plain_call c = record { callee = plain_name c.callee; place = c.place; arguments = map plain_arg c.arguments.items }

abbrev mutual
  pub plain_stmt_kind : ParsedStmtKind → ParsedStatement
  plain_stmt_kind (stmt.Set x at e) = Set (plain_name x) at (plain_expr e)
  plain_stmt_kind (stmt.Store t x at e) = Store t (plain_name x) at (plain_expr e)
  plain_stmt_kind (stmt.Take x at c) = Take (plain_name x) at (plain_call c)
  plain_stmt_kind (stmt.Call c) = Call (plain_call c)
  plain_stmt_kind (stmt.If' e p a q b) = If (plain_expr e) (plain_stmt_row a) (plain_stmt_row b)
  plain_stmt_kind (stmt.Loop' p a q b) = Loop (plain_stmt_row a) (plain_stmt_row b)
  plain_stmt_kind (stmt.Labelled' p a l) = Labelled (plain_stmt_row a) (plain_name l)
  plain_stmt_kind (stmt.Goto l) = Goto (plain_name l)
  plain_stmt_kind (stmt.Return at e) = Return at (option_map plain_expr e)

  pub plain_stmt_row : {m : _} → Row_of-ParsedStmt m → ParsedStatements
  plain_stmt_row end_of-ParsedStmt = NoStatement
  plain_stmt_row (more_of-ParsedStmt p a rest) = Then (plain_stmt_kind a) (plain_stmt_row rest)

abbrev pub plain_stmt : ParsedStmt → ParsedStatement
plain_stmt s = plain_stmt_kind s.kind.value

abbrev pub plain_stmts : List ParsedStmt → ParsedStatements
plain_stmts [] = NoStatement
plain_stmts (a ∷ rest) = Then (plain_stmt a) (plain_stmts rest)

abbrev pub plain_register : code_register.ParsedRegister → ParsedRegister
plain_register r = record { kind = r.kind; name = plain_name r.name }

abbrev pub plain_func : ParsedFunc → ParsedFunction
plain_func f = record {
  result = f.result;
  name = plain_name f.name;
  parameters = map plain_register f.parameters.items;
  registers = map plain_register f.registers.items;
  body = plain_stmts f.body.items;
}

abbrev pub plain_global : code_global.ParsedGlobal → ParsedGlobal
plain_global g = record { name = plain_name g.name; place = g.place; size = g.size; literal = g.literal }

abbrev pub plain_program : code_program.ParsedProgram → ParsedProgram
plain_program p = record { globals = map plain_global p.globals.items; functions = map plain_func p.functions.items }
