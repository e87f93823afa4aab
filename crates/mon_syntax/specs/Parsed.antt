-- Ours: the trees of monitored texts.
-- The tree of a monitored text as it is read, with its places; a name is given by its number among the text's names.
use Rattle.std.specs.Prelude.{ℕ, ℤ, List, Option}
use Rattle.c_syntax.specs.declared.place.Place.{Place}
use Rattle.mon_syntax.specs.declared.tree.MonType.{MonType}
use Rattle.mon_syntax.specs.declared.tree.MonOp.{MonOp}

-- a name where it stands
pub record NameUse : Type 0 where
  pub place : Place
  pub number : ℕ

-- The place of an expression is its operator's token for a binary one, the token after its first parenthesis for a unary
-- operator, a cast and a load, and else its first token.
pub data ParsedExpression : Type 0 where
  Name : NameUse → ParsedExpression
  Constant : Place → MonType → ℤ → ParsedExpression
  Binary : Place → MonOp → ParsedExpression → ParsedExpression → ParsedExpression
  Minus : Place → ParsedExpression → ParsedExpression
  Flip : Place → ParsedExpression → ParsedExpression
  Cast : Place → MonType → ParsedExpression → ParsedExpression
  Load : Place → MonType → ParsedExpression → ParsedExpression

pub data ParsedArgument : Type 0 where
  Value : ParsedExpression → ParsedArgument
  Number : Place → ℤ → ParsedArgument
  Text : Place → List ℕ → ParsedArgument

pub record ParsedCall : Type 0 where
  pub callee : NameUse
  -- the place of its `(`
  pub place : Place
  pub arguments : List ParsedArgument

mutual
  pub data ParsedStatement : Type 0 where
    -- R = e; with the place of its `=`
    Set : NameUse → Place → ParsedExpression → ParsedStatement
    -- *(t *)R = e; with its mark, and the place of its `=`
    Store : MonType → NameUse → Place → ParsedExpression → ParsedStatement
    -- R = f(..);
    Take : NameUse → Place → ParsedCall → ParsedStatement
    Call : ParsedCall → ParsedStatement
    If : ParsedExpression → ParsedStatements → ParsedStatements → ParsedStatement
    -- what stands before the loop's step, and what after it
    Loop : ParsedStatements → ParsedStatements → ParsedStatement
    Labelled : ParsedStatements → NameUse → ParsedStatement
    Goto : NameUse → ParsedStatement
    Return : Place → Option ParsedExpression → ParsedStatement

  pub data ParsedStatements : Type 0 where
    NoStatement : ParsedStatements
    Then : ParsedStatement → ParsedStatements → ParsedStatements

pub record ParsedRegister : Type 0 where
  pub kind : MonType
  pub name : NameUse

pub record ParsedFunction : Type 0 where
  pub result : Option MonType
  pub name : NameUse
  pub parameters : List ParsedRegister
  pub registers : List ParsedRegister
  pub body : ParsedStatements

-- static char NAME[n]; or static const char NAME[n] = "..";
pub record ParsedGlobal : Type 0 where
  pub name : NameUse
  -- the place of the number
  pub place : Place
  pub size : ℤ
  pub literal : Option (List ℕ)

pub record ParsedProgram : Type 0 where
  pub globals : List ParsedGlobal
  pub functions : List ParsedFunction
