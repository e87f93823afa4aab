-- The types that operands are converted to (C99 6.3.1.1, 6.3.1.8, 6.5.7, 6.5.16.2).
use Rattle.std.specs.Prelude.{Bool, true, false, if◌then◌else◌, nat_lt}
use Rattle.c_syntax.specs.declared.types.CInt.{CInt}
use Rattle.c_syntax.specs.declared.types.CInt.TheVariants.{I8, U8, I16, U16, I32, U32, I64, U64}
use Rattle.c_syntax.specs.declared.expression.BinOp.{BinOp}
use Rattle.c_syntax.specs.declared.expression.BinOp.TheVariants.{Shl, Shr, Eq, Ne, Lt, Le, Gt, Ge}
use Rattle.c_model.specs.Integers.{width, is_signed}

-- the integer promotions (C99 6.3.1.1 p2): `int` holds each narrower type
abbrev pub promoted : CInt → CInt
promoted I8 = I32
promoted U8 = I32
promoted I16 = I32
promoted U16 = I32
promoted I32 = I32
promoted U32 = U32
promoted I64 = I64
promoted U64 = U64

-- of two promoted types (C99 6.3.1.8): the wider one, which holds the other; of two with one width the unsigned one
abbrev pub wider : CInt → CInt → CInt
wider k l = if nat_lt (width k) (width l) then l else (if nat_lt (width l) (width k) then k else (if is_signed k then l else k))

-- the usual arithmetic conversions (C99 6.3.1.8)
abbrev pub common : CInt → CInt → CInt
common k l = wider (promoted k) (promoted l)

abbrev pub is_shift : BinOp → Bool
is_shift Shl = true
is_shift Shr = true
is_shift _ = false

-- `<`, `==` and the like, whose result is an `int` (C99 6.5.8, 6.5.9)
abbrev pub is_relation : BinOp → Bool
is_relation Eq = true
is_relation Ne = true
is_relation Lt = true
is_relation Le = true
is_relation Gt = true
is_relation Ge = true
is_relation _ = false

-- the type in which an operator computes: a shift in that of its left operand (C99 6.5.7 p3), another in the common type
abbrev pub operation_type : BinOp → CInt → CInt → CInt
operation_type op k l = if is_shift op then promoted k else common k l

-- the type of the result
abbrev pub result_type : BinOp → CInt → CInt → CInt
result_type op k l = if is_relation op then I32 else operation_type op k l
