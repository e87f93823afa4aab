-- What follows from results, and a call by the list of its arguments.
use Rattle.std.proofs.Common.{◌≡◌, List, ap, sym, ◌∙◌}
use Rattle.std.specs.Prelude.{Vec, Result, Ok, Err, IfOk, OnOk}
use Rattle.std.specs.declared.alloc.Global.{Global}
use Rattle.c_syntax.specs.declared.expression.Use.{Use}
use Rattle.c_syntax.specs.declared.expression.Expr.{Expr}
use Rattle.c_syntax.specs.declared.expression.ExprKind as code
use Rattle.c_syntax.specs.Ctypes.{plain_type}
use Rattle.c_syntax.specs.Expressions.{Node, Call, plain_expr, plain_exprs, plain_kind}
use Rattle.c_syntax.proofs.Rows.{call_is}

pub on_ok : {A E P : Type 0} (r : Result A E) → P → OnOk r P
on_ok (Ok a) p = p
on_ok (Err e) p = tt

-- what follows from a result
pub on_ok_then : {A E P Q : Type 0} (r : Result A E) → (P → Q) → OnOk r P → OnOk r Q
on_ok_then (Ok a) f p = f p
on_ok_then (Err e) f p = tt

pub if_ok_then : {A E : Type 0} {P Q : A → Type 0} (r : Result A E) → ((a : A) → P a → Q a) → IfOk r P → IfOk r Q
if_ok_then (Ok a) f p = f a p
if_ok_then (Err e) f p = tt

-- a call by its arguments' list
pub call_expr : (e : Expr) (f : Use) (args : Vec Expr Global) (l : List Expr) → e.kind.value ≡ code.Call f args → l ≡ args.items → Node e.place (plain_type e.ctype) (Call f (plain_exprs l)) ≡ plain_expr e
call_expr e f args l is same =
    ap (λ z. Node e.place (plain_type e.ctype) (Call f (plain_exprs z))) same
    ∙ sym (ap (λ k. Node e.place (plain_type e.ctype) (plain_kind k)) is ∙ call_is e.place (plain_type e.ctype) f args)
