-- Ours: a choice of code; what it has to do is C99 6.5, by the theorem of the translation.
-- Expressions in monitored C: each variable is read from its block, to which a register points. What an expression evaluates only at times, as
-- the right side of `&&`, stands before it, in an `if` that sets a temporary register.
use Rattle.std.specs.Prelude.{ℕ, pos, List, [], ◌∷◌, ◌++◌, length, Option, Some, None, if◌then◌else◌}
use Rattle.c_syntax.specs.declared.types.CInt.{CInt}
use Rattle.c_syntax.specs.declared.types.CInt.TheVariants as c
use Rattle.c_syntax.specs.declared.expression.UnOp.{UnOp}
use Rattle.c_syntax.specs.declared.expression.UnOp.TheVariants as prefix
use Rattle.c_syntax.specs.declared.expression.BinOp.{BinOp}
use Rattle.c_syntax.specs.declared.expression.BinOp.TheVariants as operator
use Rattle.c_syntax.specs.Ctypes as source_type
use Rattle.c_syntax.specs.Ctypes.{PlainType, Int}
use Rattle.c_syntax.specs.Expressions as source
use Rattle.c_syntax.specs.Expressions.{Expression, Node, type_of}
use Rattle.c_syntax.specs.Programs.{StructType, TranslationUnit}
use Rattle.c_syntax.specs.Layouts.{scalar_of, size_of, offset_of, target_of}
use Rattle.c_model.specs.StaticObjects.{static_objects}
use Rattle.c_model.specs.Meaning.{is_array, is_of_library, unit_of}
use Rattle.c_model.specs.Conversions.{operation_type}
use Rattle.mon_syntax.specs.declared.tree.MonOp.{MonOp}
use Rattle.mon_syntax.specs.declared.tree.MonOp.TheVariants.{Add, Sub, Mul, Div, Rem, Shl, Shr, And, Or, Xor, Eq, Ne, Lt, Le, Gt, Ge}
use Rattle.mon_syntax.specs.declared.tree.MonType.{MonType}
use Rattle.mon_syntax.specs.declared.tree.MonType.TheVariants.{I8, U8, I16, U16, I32, U32, I64, U64, I128, Ptr}
use Rattle.mon_syntax.specs.Arithmetic.{is_pointer}
use Rattle.mon_syntax.specs.Trees.{MonExpression, Register, Global, Constant, Binary, Minus, Flip, Cast, Load, MonStatement, Set, If}
use Rattle.mon_syntax.specs.Trees.{MonStatements, NoStatement, Then}
use Rattle.mon_syntax.specs.Registers.{Bindings, register_of}
use Rattle.mon_syntax.specs.Checking.{same_type}
pub use Rattle.mon_syntax.specs.ObjectIndices.{global_index, object_of_global, object_of_literal}
use Rattle.mon_syntax.specs.Valid.{result_type}

-- ---- types and operators

abbrev pub register_type : CInt → MonType
register_type c.I8 = I8
register_type c.U8 = U8
register_type c.I16 = I16
register_type c.U16 = U16
register_type c.I32 = I32
register_type c.U32 = U32
register_type c.I64 = I64
register_type c.U64 = U64

-- the type of a value: of an integer or a pointer; no other type has values
abbrev pub value_type : PlainType → MonType
value_type (Int k) = register_type k
value_type (source_type.Ptr t) = Ptr
value_type _ = I32

-- the type in which operators take a value of the type
abbrev pub operand_type : MonType → MonType
operand_type I8 = I32
operand_type U8 = I32
operand_type I16 = I32
operand_type U16 = I32
operand_type I32 = I32
operand_type U32 = U32
operand_type I64 = I64
operand_type U64 = U64
operand_type I128 = I128
-- a pointer is compared as it is
operand_type Ptr = Ptr

abbrev pub operator_of : BinOp → MonOp
operator_of operator.Add = Add
operator_of operator.Sub = Sub
operator_of operator.Mul = Mul
operator_of operator.Div = Div
operator_of operator.Rem = Rem
operator_of operator.Shl = Shl
operator_of operator.Shr = Shr
operator_of operator.BitAnd = And
operator_of operator.BitOr = Or
operator_of operator.BitXor = Xor
operator_of operator.Eq = Eq
operator_of operator.Ne = Ne
operator_of operator.Lt = Lt
operator_of operator.Le = Le
operator_of operator.Gt = Gt
operator_of operator.Ge = Ge

-- a value of the first type in the second
abbrev pub in_type : MonType → MonType → MonExpression → MonExpression
in_type from to e = if same_type from to then e else Cast to e

-- a value of the type compared with 0
abbrev pub compared : MonOp → MonType → MonExpression → MonExpression
compared op t e = Binary op (operand_type t) (in_type t (operand_type t) e) (Constant (operand_type t) (pos 0))

-- 1 where a value of the type isn't 0, else 0
abbrev pub truth : MonType → MonExpression → MonExpression
truth t e = compared Ne t e

-- the same as a condition, for which any number but 0 will do
abbrev pub condition : MonType → MonExpression → MonExpression
condition t e = if same_type t I32 then e else truth t e

abbrev pub unary : UnOp → MonType → MonExpression → MonExpression
unary prefix.Plus t e = e
unary prefix.Minus t e = Minus t e
unary prefix.Not t e = compared Eq t e
unary prefix.Flip t e = Flip t e
-- these are places
unary prefix.Deref t e = e
unary prefix.Address t e = e

-- an operator on values of two types, which differ in shifts alone: there the count takes the type of the left side
abbrev pub binary : BinOp → MonType → MonType → MonExpression → MonExpression → MonExpression
binary op t u a b = Binary (operator_of op) t a (in_type u t b)

-- `left op right` in the type of the left side (C99 6.5.16.2 p3)
abbrev pub compound_in : BinOp → MonType → MonType → MonType → MonExpression → MonExpression → MonExpression
compound_in op m t u a b = in_type (result_type (operator_of op) m) t (Binary (operator_of op) m (in_type t m a) (in_type u m b))

-- ---- pointers

-- a number of elements of so many bytes, in bytes
abbrev pub scaled : ℕ → MonType → MonExpression → MonExpression
scaled unit t i = Binary Mul I64 (in_type t I64 i) (Constant I64 (pos unit))

-- a pointer so many bytes farther
abbrev pub farther : MonExpression → ℕ → MonExpression
farther p d = Binary Add Ptr p (Constant I64 (pos d))

-- a pointer so many elements farther, or back (C99 6.5.6 p8)
abbrev pub element : ℕ → MonExpression → MonType → MonExpression → MonExpression
element unit p t i = Binary Add Ptr p (scaled unit t i)

abbrev pub element_back : ℕ → MonExpression → MonType → MonExpression → MonExpression
element_back unit p t i = Binary Add Ptr p (Minus I64 (scaled unit t i))

abbrev pub pointer_and_integer : BinOp → ℕ → MonExpression → MonType → MonExpression → MonExpression
pointer_and_integer operator.Sub unit p t i = element_back unit p t i
pointer_and_integer _ unit p t i = element unit p t i

-- the difference of two pointers in elements (C99 6.5.6 p9), and their relations (C99 6.5.8, 6.5.9)
abbrev pub two_pointers : BinOp → ℕ → MonExpression → MonExpression → MonExpression
two_pointers operator.Sub unit a b = Binary Div I64 (Binary Sub Ptr a b) (Constant I64 (pos unit))
two_pointers op unit a b = Binary (operator_of op) Ptr a b

-- an operator on values of two types of annotated C
abbrev pub operated : List StructType → BinOp → PlainType → PlainType → MonExpression → MonExpression → MonExpression
operated structs op t u a b =
    if is_pointer (value_type t) then
    (if is_pointer (value_type u) then two_pointers op (unit_of structs t u) a b else pointer_and_integer op (unit_of structs t u) a (value_type u) b)
    else (if is_pointer (value_type u) then element (unit_of structs t u) b (value_type t) a else binary op (value_type t) (value_type u) a b)

-- `a[b]`, of which one is a pointer (C99 6.5.2.1 p2)
abbrev pub indexed : List StructType → PlainType → PlainType → MonExpression → MonExpression → MonExpression
indexed structs t u a b =
    if is_pointer (value_type t) then element (unit_of structs t u) a (value_type u) b else element (unit_of structs t u) b (value_type t) a

-- a value of the first type converted to the second: an integer that becomes a pointer is the null constant, and what becomes `void` has no value
abbrev pub converted : PlainType → PlainType → MonExpression → MonExpression
converted (Int k) (Int l) e = in_type (register_type k) (register_type l) e
converted (Int k) (source_type.Ptr u) e = Constant Ptr (pos 0)
converted t (source_type.Ptr u) e = e
converted t u e = Constant I32 (pos 0)

-- `left op right`, as what stands on the left has it (C99 6.5.16.2 p3)
abbrev pub compound : List StructType → BinOp → PlainType → PlainType → MonExpression → MonExpression → MonExpression
compound structs op (Int k) (Int l) a b = compound_in op (register_type (operation_type op k l)) (register_type k) (register_type l) a b
compound structs op (source_type.Ptr t) u a b = pointer_and_integer op (size_of structs t) a (value_type u) b
-- no other type has operators
compound structs op t u a b = Constant I32 (pos 0)

-- ---- expressions without effects

-- the types of the temporary registers that an expression takes, in order
abbrev pub temporaries : Expression → List MonType
temporaries (Node at t (source.Number n k)) = []
temporaries (Node at t (source.Letter n)) = []
temporaries (Node at t (source.Variable x)) = []
temporaries (Node at t (source.Unary op a)) = temporaries a
temporaries (Node at t (source.Binary op a b)) = temporaries a ++ temporaries b
temporaries (Node at t (source.Both a b)) = temporaries a ++ temporaries b ++ I32 ∷ []
temporaries (Node at t (source.Either a b)) = temporaries a ++ temporaries b ++ I32 ∷ []
temporaries (Node at t (source.Choice a b c)) = temporaries a ++ temporaries b ++ temporaries c ++ value_type (type_of b) ∷ []
temporaries (Node at t (source.Cast to a)) = temporaries a
temporaries (Node at t (source.SizeOfType u)) = []
temporaries (Node at t (source.SizeOfExpr a)) = []
-- these stand in no other expression
temporaries (Node at t (source.Assign op a b)) = []
temporaries (Node at t (source.Bump op a)) = []
temporaries (Node at t (source.Call f args)) = []
temporaries (Node at t (source.Text n)) = []
temporaries (Node at t (source.Index a b)) = temporaries a ++ temporaries b
temporaries (Node at t (source.Dot a m)) = temporaries a
temporaries (Node at t (source.Arrow a m)) = temporaries a
-- nothing is left of what has no effect, in front of a comma
temporaries (Node at t (source.Comma a b)) = temporaries b

-- the pointer to the block of a declaration: in the register that is bound to it, or else that of a global
abbrev pub pointer_of : Option ℕ → ℕ → MonExpression
pointer_of (Some r) g = Register r
pointer_of None g = Global g

abbrev pub pointer_to : TranslationUnit → Bindings → ℕ → MonExpression
pointer_to p bound x = pointer_of (register_of bound x) (object_of_global x (static_objects p))

abbrev pub literal : TranslationUnit → ℕ → MonExpression
literal p n = Global (object_of_literal n (static_objects p))

-- what stands at a place: a value, or an object of a type that has none
abbrev pub loaded : PlainType → MonExpression → MonExpression
loaded t e = elim (scalar_of t) [ None ↦ e | Some k ↦ Load (value_type t) e ]

-- the value of an expression, where these registers are bound to variables, after registers of these types; and the pointer to the object that
-- an expression designates (C99 6.3.2.1)
abbrev mutual
  pub value : TranslationUnit → Bindings → List MonType → Expression → MonExpression
  value p bound rs (Node at t (source.Number n k)) = Constant (value_type t) n
  value p bound rs (Node at t (source.Letter n)) = Constant (value_type t) n
  value p bound rs (Node at t (source.Text n)) = literal p n
  -- the one pointer of the library is `NULL`
  value p bound rs (Node at t (source.Variable x)) = if is_of_library x then Constant Ptr (pos 0) else loaded t (pointer_to p bound x.decl)
  value p bound rs (Node at t (source.Unary prefix.Deref a)) = loaded t (value p bound rs a)
  value p bound rs (Node at t (source.Unary prefix.Address a)) = place p bound rs a
  value p bound rs (Node at t (source.Unary prefix.Plus a)) = unary prefix.Plus (value_type (type_of a)) (value p bound rs a)
  value p bound rs (Node at t (source.Unary prefix.Minus a)) = unary prefix.Minus (value_type (type_of a)) (value p bound rs a)
  value p bound rs (Node at t (source.Unary prefix.Not a)) = unary prefix.Not (value_type (type_of a)) (value p bound rs a)
  value p bound rs (Node at t (source.Unary prefix.Flip a)) = unary prefix.Flip (value_type (type_of a)) (value p bound rs a)
  value p bound rs (Node at t (source.Binary op a b)) =
      operated p.structs op (type_of a) (type_of b) (value p bound rs a) (value p bound (rs ++ temporaries a) b)
  value p bound rs (Node at t (source.Both a b)) = Register (length (rs ++ temporaries a ++ temporaries b))
  value p bound rs (Node at t (source.Either a b)) = Register (length (rs ++ temporaries a ++ temporaries b))
  value p bound rs (Node at t (source.Choice a b c)) = Register (length (rs ++ temporaries a ++ temporaries b ++ temporaries c))
  -- a cast of an array is the address of its first element (C99 6.3.2.1 p3)
  value p bound rs (Node at t (source.Cast to a)) =
      if is_array (type_of a) then place p bound rs a else converted (type_of a) to (value p bound rs a)
  value p bound rs (Node at t (source.SizeOfType u)) = Constant U64 (pos (size_of p.structs u))
  value p bound rs (Node at t (source.SizeOfExpr a)) = Constant U64 (pos (size_of p.structs (type_of a)))
  value p bound rs (Node at t (source.Index a b)) =
      loaded t (indexed p.structs (type_of a) (type_of b) (value p bound rs a) (value p bound (rs ++ temporaries a) b))
  value p bound rs (Node at t (source.Dot a m)) = loaded t (farther (place p bound rs a) (offset_of p.structs (type_of a) m))
  value p bound rs (Node at t (source.Arrow a m)) = loaded t (farther (value p bound rs a) (offset_of p.structs (target_of (type_of a)) m))
  -- these stand in no other expression
  value p bound rs (Node at t (source.Assign op a b)) = Constant I32 (pos 0)
  value p bound rs (Node at t (source.Bump op a)) = Constant I32 (pos 0)
  value p bound rs (Node at t (source.Call f args)) = Constant I32 (pos 0)
  -- nothing is left of what has no effect, in front of a comma
  value p bound rs (Node at t (source.Comma a b)) = value p bound rs b

  pub place : TranslationUnit → Bindings → List MonType → Expression → MonExpression
  place p bound rs (Node at t (source.Variable x)) = pointer_to p bound x.decl
  place p bound rs (Node at t (source.Text n)) = literal p n
  place p bound rs (Node at t (source.Unary prefix.Deref a)) = value p bound rs a
  place p bound rs (Node at t (source.Index a b)) =
      indexed p.structs (type_of a) (type_of b) (value p bound rs a) (value p bound (rs ++ temporaries a) b)
  place p bound rs (Node at t (source.Dot a m)) = farther (place p bound rs a) (offset_of p.structs (type_of a) m)
  place p bound rs (Node at t (source.Arrow a m)) = farther (value p bound rs a) (offset_of p.structs (target_of (type_of a)) m)
  place p bound rs (Node at t (source.Comma a b)) = place p bound rs b
  -- no other expression designates an object
  place p bound rs (Node at t _) = Constant Ptr (pos 0)

abbrev pub before : MonStatements → MonStatements → MonStatements
before NoStatement b = b
before (Then a rest) b = Then a (before rest b)

abbrev pub one : MonStatement → MonStatements
one a = Then a NoStatement

abbrev pub set : ℕ → MonExpression → MonStatements
set r e = one (Set r e)

-- whether an expression isn't 0, and the same as a condition
abbrev pub truth_of : TranslationUnit → Bindings → List MonType → Expression → MonExpression
truth_of p bound rs e = truth (value_type (type_of e)) (value p bound rs e)

abbrev pub condition_of : TranslationUnit → Bindings → List MonType → Expression → MonExpression
condition_of p bound rs e = condition (value_type (type_of e)) (value p bound rs e)

-- what stands before the value of an expression
abbrev pub setup : TranslationUnit → Bindings → List MonType → Expression → MonStatements
setup p bound rs (Node at t (source.Number n k)) = NoStatement
setup p bound rs (Node at t (source.Letter n)) = NoStatement
setup p bound rs (Node at t (source.Variable x)) = NoStatement
setup p bound rs (Node at t (source.Unary op a)) = setup p bound rs a
setup p bound rs (Node at t (source.Binary op a b)) = before (setup p bound rs a) (setup p bound (rs ++ temporaries a) b)
setup p bound rs (Node at t (source.Both a b)) =
    before (setup p bound rs a) (one (If (condition_of p bound rs a)
    (before (setup p bound (rs ++ temporaries a) b) (set (length (rs ++ temporaries a ++ temporaries b)) (truth_of p bound (rs ++ temporaries a) b)))
    (set (length (rs ++ temporaries a ++ temporaries b)) (Constant I32 (pos 0)))))
setup p bound rs (Node at t (source.Either a b)) =
    before (setup p bound rs a) (one (If (condition_of p bound rs a)
    (set (length (rs ++ temporaries a ++ temporaries b)) (Constant I32 (pos 1)))
    (before (setup p bound (rs ++ temporaries a) b) (set (length (rs ++ temporaries a ++ temporaries b)) (truth_of p bound (rs ++ temporaries a) b)))))
setup p bound rs (Node at t (source.Choice a b c)) =
    before (setup p bound rs a) (one (If (condition_of p bound rs a)
    (before (setup p bound (rs ++ temporaries a) b) (set (length (rs ++ temporaries a ++ temporaries b ++ temporaries c))
    (value p bound (rs ++ temporaries a) b)))
    (before (setup p bound (rs ++ temporaries a ++ temporaries b) c) (set (length (rs ++ temporaries a ++ temporaries b ++ temporaries c))
    (value p bound (rs ++ temporaries a ++ temporaries b) c)))))
setup p bound rs (Node at t (source.Cast to a)) = setup p bound rs a
setup p bound rs (Node at t (source.SizeOfType u)) = NoStatement
setup p bound rs (Node at t (source.SizeOfExpr a)) = NoStatement
-- these stand in no other expression
setup p bound rs (Node at t (source.Assign op a b)) = NoStatement
setup p bound rs (Node at t (source.Bump op a)) = NoStatement
setup p bound rs (Node at t (source.Call f args)) = NoStatement
setup p bound rs (Node at t (source.Text n)) = NoStatement
setup p bound rs (Node at t (source.Index a b)) = before (setup p bound rs a) (setup p bound (rs ++ temporaries a) b)
setup p bound rs (Node at t (source.Dot a m)) = setup p bound rs a
setup p bound rs (Node at t (source.Arrow a m)) = setup p bound rs a
-- nothing is left of what has no effect, in front of a comma
setup p bound rs (Node at t (source.Comma a b)) = setup p bound rs b
