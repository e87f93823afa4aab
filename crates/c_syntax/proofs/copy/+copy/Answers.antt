use Rattle.std.proofs.Common.{◌≡◌, ◌∙◌, ◌++◌, [], drop, map, ap, sym}
use Rattle.std.proofs.lemmas.List.{append-nil, drop_all}
use Rattle.c_syntax.specs.Expressions.{plain_expr, plain_exprs}
use Rattle.c_syntax.proofs.Rows.{call_copied, exprs_alike}
use Rattle.c_syntax.proofs.copy.+copy.Goals as goal

pub copy_all-returns : goal.copy_all-returns
copy_all-returns t c =
    let none : drop c.list.e-index c.args.list.now ≡ [] = drop_all c.list.e-index c.args.list.now c.list-test.false in
    exprs_alike c.list.copies.items c.args.list.now
    (sym (append-nil (map plain_expr c.list.copies.items)) ∙ ap (λ l. map plain_expr c.list.copies.items ++ map plain_expr l) (sym none) ∙ c.list.invariant)

pub copy_kind-returns-in_ok-args-in-Call : goal.copy_kind-returns-in_ok-args-in-Call
copy_kind-returns-in_ok-args-in-Call t c =
    call_copied c.boxed-in-Call.result (λ b. b.value) c.in-Call.f c.in-Call.args c.in_ok-args-in-Call.args c.args.kind.now c.boxed-in-Call.ensures (c.in_ok-args-in-Call.ensures ∙ ap plain_exprs c.deref.ensures.value) c.in-Call.is
