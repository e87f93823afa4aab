-- Ours: the trees of monitored C.
-- The plain form of programs in monitored C: without boxes and vectors.
use Rattle.std.specs.Prelude.{ℕ, ℤ, List, [], ◌∷◌, map, Option, option_map}
use Rattle.c_syntax.specs.declared.annotation.Kind.{Kind}
use Rattle.mon_syntax.specs.declared.tree.MonType.{MonType}
use Rattle.mon_syntax.specs.declared.tree.MonOp.{MonOp}
use Rattle.mon_syntax.specs.declared.tree.MemoryCall.{MemoryCall}
use Rattle.mon_syntax.specs.declared.tree.MonExpr.{MonExpr}
use Rattle.mon_syntax.specs.declared.tree.MonExprKind.{MonExprKind}
use Rattle.mon_syntax.specs.declared.tree.MonExprKind as code
use Rattle.mon_syntax.specs.declared.tree.MonStmt.{MonStmt}
use Rattle.mon_syntax.specs.declared.tree.MonStmtKind.{MonStmtKind, Row_of-MonStmt, end_of-MonStmt, more_of-MonStmt}
use Rattle.mon_syntax.specs.declared.tree.MonStmtKind as stmt
use Rattle.mon_syntax.specs.declared.tree.Register as code_register
use Rattle.mon_syntax.specs.declared.tree.MonFunc.{MonFunc}
use Rattle.mon_syntax.specs.declared.tree.GlobalContent.{GlobalContent}
use Rattle.mon_syntax.specs.declared.tree.GlobalContent.TheVariants as content
use Rattle.mon_syntax.specs.declared.tree.MonGlobal.{MonGlobal}
use Rattle.mon_syntax.specs.declared.tree.MonProgram.{MonProgram}

pub data MonExpression : Type 0 where
  Register : ℕ → MonExpression
  Global : ℕ → MonExpression
  Constant : MonType → ℤ → MonExpression
  Binary : MonOp → MonType → MonExpression → MonExpression → MonExpression
  Minus : MonType → MonExpression → MonExpression
  Flip : MonType → MonExpression → MonExpression
  Cast : MonType → MonExpression → MonExpression
  Load : MonType → MonExpression → MonExpression

mutual
  pub data MonStatement : Type 0 where
    Set : ℕ → MonExpression → MonStatement
    -- a store with its mark, at the pointer that a register holds
    Store : ℕ → MonType → MonExpression → MonStatement
    Step : MonStatement
    -- whether the annotation is defined, whether it is true, its number, its line and its kind
    Assert : MonExpression → MonExpression → ℕ → ℕ → Kind → MonStatement
    PutChar : Option ℕ → MonExpression → MonStatement
    GetChar : Option ℕ → MonStatement
    Exit : MonExpression → MonStatement
    PrintText : List ℕ → MonStatement
    PrintSigned : MonExpression → MonStatement
    PrintUnsigned : MonExpression → MonStatement
    PrintString : MonExpression → MonStatement
    -- a call of the runtime on the memory, and the register that takes its value
    Act : Option ℕ → MemoryCall → List MonExpression → MonStatement
    -- a call of the function with this number
    Call : Option ℕ → ℕ → List MonExpression → MonStatement
    If : MonExpression → MonStatements → MonStatements → MonStatement
    -- what stands before the loop's step, and what after it
    Loop : MonStatements → MonStatements → MonStatement
    Labelled : MonStatements → List ℕ → MonStatement
    Goto : List ℕ → MonStatement
    Return : Option MonExpression → MonStatement

  pub data MonStatements : Type 0 where
    NoStatement : MonStatements
    Then : MonStatement → MonStatements → MonStatements

pub record MonRegister : Type 0 where
  pub kind : MonType
  pub name : List ℕ

pub record MonFunction : Type 0 where
  -- none for `void`
  pub result : Option MonType
  pub name : List ℕ
  pub parameters : List MonRegister
  pub registers : List MonRegister
  pub body : MonStatements

-- the bytes with which a global begins: so many zeros, or those of a literal, to which a 0 is added
pub data PlainContent : Type 0 where
  Zeros : ℕ → PlainContent
  Literal : List ℕ → PlainContent

pub record MonitoredGlobal : Type 0 where
  pub name : List ℕ
  pub content : PlainContent

pub record MonitoredProgram : Type 0 where
  pub globals : List MonitoredGlobal
  pub functions : List MonFunction

abbrev pub plain_expr_kind : MonExprKind → MonExpression
plain_expr_kind (code.Register r) = Register r
plain_expr_kind (code.Global g) = Global g
plain_expr_kind (code.Constant t z) = Constant t z
plain_expr_kind (code.Binary' op t p a q b) = Binary op t (plain_expr_kind a) (plain_expr_kind b)
plain_expr_kind (code.Minus' t p a) = Minus t (plain_expr_kind a)
plain_expr_kind (code.Flip' t p a) = Flip t (plain_expr_kind a)
plain_expr_kind (code.Cast' t p a) = Cast t (plain_expr_kind a)
plain_expr_kind (code.Load' t p a) = Load t (plain_expr_kind a)

abbrev pub plain_expr : MonExpr → MonExpression
plain_expr e = plain_expr_kind e.kind.value

abbrev mutual
  pub plain_stmt_kind : MonStmtKind → MonStatement
  plain_stmt_kind (stmt.Set r e) = Set r (plain_expr e)
  plain_stmt_kind (stmt.Store r t e) = Store r t (plain_expr e)
  plain_stmt_kind stmt.Step = Step
  plain_stmt_kind (stmt.Assert d v number line kind) = Assert (plain_expr d) (plain_expr v) number line kind
  plain_stmt_kind (stmt.PutChar r e) = PutChar r (plain_expr e)
  plain_stmt_kind (stmt.GetChar r) = GetChar r
  plain_stmt_kind (stmt.Exit e) = Exit (plain_expr e)
  plain_stmt_kind (stmt.PrintText bytes) = PrintText bytes
  plain_stmt_kind (stmt.PrintSigned e) = PrintSigned (plain_expr e)
  plain_stmt_kind (stmt.PrintUnsigned e) = PrintUnsigned (plain_expr e)
  plain_stmt_kind (stmt.PrintString e) = PrintString (plain_expr e)
  plain_stmt_kind (stmt.Act r f args) = Act r f (map plain_expr args.items)
  plain_stmt_kind (stmt.Call r f args) = Call r f (map plain_expr args.items)
  plain_stmt_kind (stmt.If' e p a q b) = If (plain_expr e) (plain_stmt_row a) (plain_stmt_row b)
  plain_stmt_kind (stmt.Loop' p a q b) = Loop (plain_stmt_row a) (plain_stmt_row b)
  plain_stmt_kind (stmt.Labelled' p a label) = Labelled (plain_stmt_row a) label
  plain_stmt_kind (stmt.Goto label) = Goto label
  plain_stmt_kind (stmt.Return e) = Return (option_map plain_expr e)

  pub plain_stmt_row : {m : _} → Row_of-MonStmt m → MonStatements
  plain_stmt_row end_of-MonStmt = NoStatement
  plain_stmt_row (more_of-MonStmt p a rest) = Then (plain_stmt_kind a) (plain_stmt_row rest)

abbrev pub plain_stmt : MonStmt → MonStatement
plain_stmt s = plain_stmt_kind s.kind.value

abbrev pub plain_stmts : List MonStmt → MonStatements
plain_stmts [] = NoStatement
plain_stmts (a ∷ rest) = Then (plain_stmt a) (plain_stmts rest)

abbrev pub plain_register : code_register.Register → MonRegister
plain_register r = record { kind = r.kind; name = r.name }

abbrev pub plain_func : MonFunc → MonFunction
plain_func f = record {
  result = f.result;
  name = f.name;
  parameters = map plain_register f.parameters.items;
  registers = map plain_register f.registers.items;
  body = plain_stmts f.body.items;
}

abbrev pub plain_content : GlobalContent → PlainContent
plain_content (content.Zeros n) = Zeros n
plain_content (content.Literal bytes) = Literal bytes

abbrev pub plain_global : MonGlobal → MonitoredGlobal
plain_global g = record { name = g.name; content = plain_content g.content }

abbrev pub plain_program : MonProgram → MonitoredProgram
plain_program m = record { globals = map plain_global m.globals.items; functions = map plain_func m.functions.items }
