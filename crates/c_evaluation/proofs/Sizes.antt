-- An expression is deeper than those that stand in it.
use Rattle.std.proofs.Common.{◌≡◌, ◌<◌, ap, arith}
use Rattle.std.specs.Prelude.{max, Option}
use denote.Hole.Carrier.{fold}
use denote.Hole.Rolled.{depth}
use Rattle.c_syntax.specs.declared.expression.BinOp.{BinOp}
use Rattle.c_syntax.specs.declared.expression.Expr.{Expr, size-Expr}
use Rattle.c_syntax.specs.declared.expression.ExprKind.{size-ExprKind}
use Rattle.c_syntax.specs.declared.expression.ExprKind as code
use Rattle.c_syntax.specs.declared.expression.ExprKind.TheBlock.{the_depth}

kind_size : (e : Expr) → size-ExprKind e.kind.value < size-Expr e
unfolding the_depth depth fold
kind_size e = omega arith

binary_a : (op : BinOp) (a b : Expr) → size-Expr a < size-ExprKind (code.Binary op a b)
unfolding the_depth depth fold
binary_a op a b = omega arith

binary_b : (op : BinOp) (a b : Expr) → size-Expr b < size-ExprKind (code.Binary op a b)
unfolding the_depth depth fold
binary_b op a b = omega arith

both_a : (a b : Expr) → size-Expr a < size-ExprKind (code.Both a b)
unfolding the_depth depth fold
both_a a b = omega arith

both_b : (a b : Expr) → size-Expr b < size-ExprKind (code.Both a b)
unfolding the_depth depth fold
both_b a b = omega arith

either_a : (a b : Expr) → size-Expr a < size-ExprKind (code.Either a b)
unfolding the_depth depth fold
either_a a b = omega arith

either_b : (a b : Expr) → size-Expr b < size-ExprKind (code.Either a b)
unfolding the_depth depth fold
either_b a b = omega arith

choice_a : (a b c : Expr) → size-Expr a < size-ExprKind (code.Choice a b c)
unfolding the_depth depth fold
choice_a a b c = omega arith

choice_b : (a b c : Expr) → size-Expr b < size-ExprKind (code.Choice a b c)
unfolding the_depth depth fold
choice_b a b c = omega arith

choice_c : (a b c : Expr) → size-Expr c < size-ExprKind (code.Choice a b c)
unfolding the_depth depth fold
choice_c a b c = omega arith

assign_a : (op : Option BinOp) (a b : Expr) → size-Expr a < size-ExprKind (code.Assign op a b)
unfolding the_depth depth fold
assign_a op a b = omega arith

assign_b : (op : Option BinOp) (a b : Expr) → size-Expr b < size-ExprKind (code.Assign op a b)
unfolding the_depth depth fold
assign_b op a b = omega arith

index_a : (a b : Expr) → size-Expr a < size-ExprKind (code.Index a b)
unfolding the_depth depth fold
index_a a b = omega arith

index_b : (a b : Expr) → size-Expr b < size-ExprKind (code.Index a b)
unfolding the_depth depth fold
index_b a b = omega arith

comma_a : (a b : Expr) → size-Expr a < size-ExprKind (code.Comma a b)
unfolding the_depth depth fold
comma_a a b = omega arith

comma_b : (a b : Expr) → size-Expr b < size-ExprKind (code.Comma a b)
unfolding the_depth depth fold
comma_b a b = omega arith

pub binary_size : (e : Expr) (op : BinOp) (a b : Expr) → e.kind.value ≡ code.Binary op a b → max (size-Expr a) (size-Expr b) < size-Expr e
binary_size e op a b is = omega (arith, ap size-ExprKind is, kind_size e, binary_a op a b, binary_b op a b)

pub both_size : (e a b : Expr) → e.kind.value ≡ code.Both a b → max (size-Expr a) (size-Expr b) < size-Expr e
both_size e a b is = omega (arith, ap size-ExprKind is, kind_size e, both_a a b, both_b a b)

pub either_size : (e a b : Expr) → e.kind.value ≡ code.Either a b → max (size-Expr a) (size-Expr b) < size-Expr e
either_size e a b is = omega (arith, ap size-ExprKind is, kind_size e, either_a a b, either_b a b)

pub choice_size : (e a b c : Expr) → e.kind.value ≡ code.Choice a b c → max (size-Expr a) (max (size-Expr b) (size-Expr c)) < size-Expr e
choice_size e a b c is = omega (arith, ap size-ExprKind is, kind_size e, choice_a a b c, choice_b a b c, choice_c a b c)

pub assign_size : (e : Expr) (op : Option BinOp) (a b : Expr) → e.kind.value ≡ code.Assign op a b → max (size-Expr a) (size-Expr b) < size-Expr e
assign_size e op a b is = omega (arith, ap size-ExprKind is, kind_size e, assign_a op a b, assign_b op a b)

pub index_size : (e a b : Expr) → e.kind.value ≡ code.Index a b → max (size-Expr a) (size-Expr b) < size-Expr e
index_size e a b is = omega (arith, ap size-ExprKind is, kind_size e, index_a a b, index_b a b)

pub comma_size : (e a b : Expr) → e.kind.value ≡ code.Comma a b → max (size-Expr a) (size-Expr b) < size-Expr e
comma_size e a b is = omega (arith, ap size-ExprKind is, kind_size e, comma_a a b, comma_b a b)
