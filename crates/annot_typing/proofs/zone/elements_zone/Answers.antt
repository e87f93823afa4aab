use Rattle.std.proofs.Common.{rules, ◌≡◌, Err, sym, subst}
use Rattle.c_syntax.specs.Ctypes.{PlainType, plain_type}
use Rattle.c_syntax.specs.Logic.{LogicTerm, plain_term}
use Rattle.c_model.specs.PredicateTyping.{as_pointer, where_asked}
use Rattle.c_scopes.specs.Answers.{Answers}
use Rattle.c_scopes.specs.Sights.{plain_sight}
use Rattle.c_scopes.proofs.Least.{one_then}
use Rattle.annot_typing.specs.Sorts.{plain_pointer, plain_sorted}
use Rattle.annot_typing.specs.Zones.{elements_between, plain_zone}
use Rattle.annot_typing.proofs.Zones.{asked_good, asked_refused}
use Rattle.annot_typing.proofs.zone.elements_zone.Goals as goal

pub returns : goal.returns
returns c =
    let s = plain_sight c.args.sight.now in
    let at = c.args.place in
    let u = c.in_ok-u.u in
    let p = c.in_ok-u.p in
    let between = λ (x : PlainType × LogicTerm). elements_between s at x.0 x.1 (plain_sorted c.args.lo) (plain_sorted c.args.hi) in
    one_then (λ x. where_asked s at c.args.question x.0 (between x)) plain_pointer plain_zone (as_pointer at (plain_sorted c.args.a)) (u, p) c.elements_between.result c.in_ok-u.ensures
    (subst (λ m. Answers plain_zone m c.elements_between.result) (sym (asked_good s at (plain_type u) (between (plain_type u, plain_term p)) c.args.question c.in_ok-where_asked.ensures)) c.elements_between.ensures)

pub returns-in_err-where_asked : goal.returns-in_err-where_asked
returns-in_err-where_asked c =
    let s = plain_sight c.args.sight.now in
    let at = c.args.place in
    let u = c.in_ok-u.u in
    let p = c.in_ok-u.p in
    let h = c.in_err-where_asked.field-0.0 in
    let between = λ (x : PlainType × LogicTerm). elements_between s at x.0 x.1 (plain_sorted c.args.lo) (plain_sorted c.args.hi) in
    let e : c.from_residual-in_err-where_asked.result ≡ Err h = search rules in
    rw e (one_then (λ x. where_asked s at c.args.question x.0 (between x)) plain_pointer plain_zone (as_pointer at (plain_sorted c.args.a)) (u, p) (Err h) c.in_ok-u.ensures
    (asked_refused s at (plain_type u) (between (plain_type u, plain_term p)) plain_zone c.args.question h c.in_err-where_asked.ensures))
