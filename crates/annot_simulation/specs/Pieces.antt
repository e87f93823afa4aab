-- Ours: a choice of code; what it has to do is ACSL 2.2, by the theorem of this crate.
-- Pieces of code: statements, a flag and a value. Each operator is done in the narrowest of 32, 64 and 128 bits that holds its operands and its result, so
-- that nothing wraps.
use Rattle.std.specs.Prelude.{ℕ, suc, pos, int_lt, int_le, Bool, true, false, ◌||◌, if◌then◌else◌, List, [], ◌∷◌, ◌++◌, length, Option, Some, None}
use Rattle.c_syntax.specs.declared.annotation.Range.{Range}
use Rattle.c_syntax.specs.declared.annotation.Relation.{Relation}
use Rattle.c_syntax.specs.declared.annotation.Relation.TheVariants as relation
use Rattle.c_syntax.specs.declared.expression.BinOp.{BinOp}
use Rattle.c_syntax.specs.declared.expression.BinOp.TheVariants as operator
use Rattle.c_syntax.specs.declared.expression.UnOp.{UnOp}
use Rattle.c_syntax.specs.declared.logic.Connective.{Connective}
use Rattle.c_syntax.specs.declared.logic.Connective.TheVariants as connective
use Rattle.c_syntax.specs.declared.types.CInt.{CInt}
use Rattle.c_syntax.specs.declared.types.Width.{Width}
use Rattle.c_syntax.specs.declared.types.Width.TheVariants.{W32, W64, W128}
use Rattle.c_syntax.specs.Ctypes.{PlainType}
use Rattle.c_syntax.specs.Formulas.{CastType, Integers, OfC}
use Rattle.c_syntax.specs.Logic.{LogicTerm, range_of}
use Rattle.c_model.specs.Integers.{integer_type, truth}
use Rattle.c_model.specs.Ranges.{is_nonnegative, width_of_range}
use Rattle.c_model.specs.TermRanges.{type_range, is_inside}
use Rattle.mon_syntax.specs.declared.tree.AccessSize.{AccessSize}
use Rattle.mon_syntax.specs.declared.tree.AccessSize.TheVariants.{One, Two, Four, Eight, Sixteen}
use Rattle.mon_syntax.specs.declared.tree.MonOp.{MonOp}
use Rattle.mon_syntax.specs.declared.tree.MonOp.TheVariants.{And, Or, Eq, Ne, Lt, Le, Gt, Ge}
use Rattle.mon_syntax.specs.declared.tree.MonType.{MonType}
use Rattle.mon_syntax.specs.declared.tree.MonType.TheVariants.{I8, U8, I16, U16, I32, U32, I64, U64, I128, Ptr}
use Rattle.mon_syntax.specs.Trees.{MonExpression, Register, Constant, Binary, Minus, Cast, Set, If, MonStatements, NoStatement, Then}
use Rattle.term_guards.specs.Guards.{guard}
use Rattle.c_effects.specs.Expressions.{before, one, set, in_type, unary, operator_of, register_type, value_type}
pub use Rattle.quantifier_loops.specs.Tries.{guarded}

-- ---- types of values

-- the type of the value of an object, as a term has it
abbrev pub term_type : Option PlainType → MonType
term_type None = I32
term_type (Some t) = value_type t

-- how many bytes a value of the type has, which an i128 is not read from
abbrev pub access_of : MonType → AccessSize
access_of I8 = One
access_of U8 = One
access_of I16 = Two
access_of U16 = Two
access_of I32 = Four
access_of U32 = Four
access_of I64 = Eight
access_of U64 = Eight
access_of I128 = Sixteen
access_of Ptr = Eight

abbrev pub relation_operator : Relation → MonOp
relation_operator relation.Eq = Eq
relation_operator relation.Ne = Ne
relation_operator relation.Lt = Lt
relation_operator relation.Le = Le
relation_operator relation.Gt = Gt
relation_operator relation.Ge = Ge

-- ---- what the code of a part is

-- the statements that run first, after registers of the types given before; then the flag, which is 1 where the part has a value and 0 elsewhere, none
-- where it always has one; the value, which may be asked for only where the part has one; and the types of all registers that are taken then
pub record Code : Type 0 where
  pub stmts : MonStatements
  pub flag : Option MonExpression
  pub value : MonExpression
  pub used : List MonType

-- the code of a part whose value needs no statement and always exists
abbrev pub sure_code : MonExpression → List MonType → Code
sure_code e rs = record { stmts = NoStatement; flag = None; value = e; used = rs }

-- what has no code
abbrev pub no_code : List MonType → Code
no_code rs = record { stmts = NoStatement; flag = Some (Constant I32 (pos 0)); value = Constant I32 (pos 0); used = rs }

abbrev pub with_value : MonExpression → Code → Code
with_value e c = record c { value = e }

-- both flags
abbrev pub conjunction : Option MonExpression → Option MonExpression → Option MonExpression
conjunction None b = b
conjunction (Some a) None = Some a
conjunction (Some a) (Some b) = Some (Binary And I32 a b)

-- two parts, one after the other, and a value that is made of theirs
abbrev pub two_code : Code → Code → MonExpression → Code
two_code a b e = record { stmts = before a.stmts b.stmts; flag = conjunction a.flag b.flag; value = e; used = b.used }

-- a register becomes the flag, and the next one the value where there is one
abbrev pub take : Option MonExpression → MonExpression → ℕ → MonStatements
take None e r = Then (Set r (Constant I32 (pos 1))) (set (suc r) e)
take (Some f) e r = Then (Set r f) (one (If (Register r) (set (suc r) e) NoStatement))

-- no value
abbrev pub take_none : ℕ → MonStatements
take_none r = set r (Constant I32 (pos 0))

-- a flag and a value in the two registers after those taken
abbrev pub taken : MonStatements → MonType → List MonType → Code
taken a t rs = record { stmts = a; flag = Some (Register (length rs)); value = Register (suc (length rs)); used = rs ++ I32 ∷ t ∷ [] }

-- the value of the second part where the first one's is 1, and of the third where it is 0; only one of the two runs
abbrev pub branch : MonType → Code → Code → Code → Code
branch t c a b =
    let r = length b.used in
    taken (before c.stmts (guarded c.flag (one (If c.value (before a.stmts (take a.flag a.value r)) (before b.stmts (take b.flag b.value r)))) (take_none r)))
    t b.used

-- a value in a register, where it opens no parenthesis
abbrev pub settled : MonType → Code → Code
settled t c = taken (before c.stmts (take c.flag c.value (length c.used))) t c.used

-- ---- widths

abbrev pub type_of_width : Width → MonType
type_of_width W32 = I32
type_of_width W64 = I64
type_of_width W128 = I128

abbrev pub wider : Width → Width → Width
wider W32 b = b
wider W64 W32 = W64
wider W64 W64 = W64
wider W64 W128 = W128
wider W128 b = W128

abbrev pub width_of : LogicTerm → Width
width_of t = width_of_range (range_of t)

-- the type in which the value of a term stands
abbrev pub type_of : LogicTerm → MonType
type_of t = type_of_width (width_of t)

abbrev pub is_shift : BinOp → Bool
is_shift operator.Shl = true
is_shift operator.Shr = true
is_shift op = false

-- the width in which an operator is computed, by those of its result and its operands; a shift, whose count is below the width, in 128 bits
abbrev pub working : BinOp → Width → Width → Width → Width
working op w a b = if is_shift op then W128 else wider w (wider a b)

-- ---- operators

-- whether an operator is defined for all second operands of a range
abbrev pub is_total : BinOp → Range → Bool
is_total operator.Div b = int_lt (pos 0) b.lo || int_lt b.hi (pos 0)
is_total operator.Rem b = int_lt (pos 0) b.lo || int_lt b.hi (pos 0)
is_total operator.Shl b = is_nonnegative b
is_total operator.Shr b = is_nonnegative b
is_total op b = true

-- a count of a shift to the right, where it may be above 127: then all bits are 1, which counts as 127, by which every bit is shifted out
abbrev pub count_in : Range → MonExpression → MonExpression
count_in b e = if int_le b.hi (pos 127) then e else Binary Or I128 e (Minus I128 (Cast I128 (Binary Lt I128 (Constant I128 (pos 127)) e)))

abbrev pub second_operand : BinOp → Range → MonExpression → MonExpression
second_operand operator.Shr b e = count_in b e
second_operand op b e = e

-- an operator in the type k on operands in their types, where the second one lies in a range, and its result in the type w
abbrev pub binary_value : BinOp → (w k ta tb : MonType) → Range → MonExpression → MonExpression → MonExpression
binary_value op w k ta tb r x y = in_type k w (Binary (operator_of op) k (in_type ta k x) (second_operand op r (in_type tb k y)))

-- two parts, and an operator that may be undefined
abbrev pub partial_code : BinOp → (w k tb : MonType) → Code → Code → MonExpression → Code
partial_code op w k tb a b e =
    let r = length b.used in
    taken (before (before a.stmts b.stmts) (guarded (conjunction a.flag b.flag) (take (Some (guard k op (in_type tb k b.value))) e r) (take_none r))) w b.used

abbrev pub operated : Bool → BinOp → (w k tb : MonType) → Code → Code → MonExpression → Code
operated true op w k tb a b e = two_code a b e
operated false op w k tb a b e = partial_code op w k tb a b e

abbrev pub unary_value : UnOp → (w k ta : MonType) → MonExpression → MonExpression
unary_value op w k ta x = in_type k w (unary op k (in_type ta k x))

abbrev pub relation_value : Relation → (k ta tb : MonType) → MonExpression → MonExpression → MonExpression
relation_value r k ta tb x y = Binary (relation_operator r) k (in_type ta k x) (in_type tb k y)

-- a value converted to a type that needn't have it
abbrev pub converted_to : Option CInt → Range → (w ta : MonType) → MonExpression → MonExpression
converted_to None a w ta x = x
converted_to (Some k) a w ta x = if is_inside a (type_range k) then x else in_type (register_type k) w (Cast (register_type k) x)

abbrev pub cast_value : CastType → Range → (w ta : MonType) → MonExpression → MonExpression
cast_value Integers a w ta x = x
cast_value (OfC t) a w ta x = converted_to (integer_type t) a w ta x

-- ---- connectives

abbrev pub truth_code : Bool → List MonType → Code
truth_code b rs = sure_code (Constant I32 (truth b)) rs

abbrev pub has_none : MonStatements → Option MonExpression → Bool
has_none NoStatement None = true
has_none _ _ = false

abbrev pub is_sure : Code → Bool
is_sure c = has_none c.stmts c.flag

-- the operator on truths that a connective is, where both sides may be asked
abbrev pub connective_operator : Connective → MonOp
connective_operator connective.And = And
connective_operator connective.Or = Or
connective_operator connective.Implies = Le
connective_operator connective.Iff = Eq
connective_operator connective.Xor = Ne

abbrev pub both_asked : Connective → Code → Code → Code
both_asked c p q = two_code p q (Binary (connective_operator c) I32 p.value q.value)

-- the right side of `&&`, `||` and `==>` runs only where the left one doesn't decide
abbrev pub left_first : Connective → Code → Code → Code
left_first connective.And p q = branch I32 p q (truth_code false q.used)
left_first connective.Or p q = branch I32 p (truth_code true q.used) q
left_first connective.Implies p q = branch I32 p q (truth_code true q.used)
left_first connective.Iff p q = both_asked connective.Iff p q
left_first connective.Xor p q = both_asked connective.Xor p q

-- where the right side needs no statement and always has a value, nothing is seen of its being asked
abbrev pub connected : Connective → Code → Code → Code
connected c p q = if is_sure q then both_asked c p q else left_first c p q

-- a relation of two terms
abbrev pub relation_code : Relation → LogicTerm → LogicTerm → Code → Code → Code
relation_code r t u x y =
    two_code x y (relation_value r (type_of_width (wider (width_of t) (width_of u))) (type_of t) (type_of u) x.value y.value)
