use Rattle.std.proofs.Common.{◌≡◌, rules, Err}
use Rattle.c_syntax.specs.Ctypes.{plain_type}
use Rattle.c_model.specs.Library.{is_there}
use Rattle.c_model.specs.DeclarationTyping.{typed_outer}
use Rattle.c_scopes.specs.Answers.{Answers}
use Rattle.c_scopes.specs.Sights.{plain_sight}
use Rattle.c_declaration_rules.specs.Objects.{plain_maybe_init}
use Rattle.c_declaration_rules.proofs.Parts.{object_refused}
use Rattle.c_declaration_rules.proofs.object.type_sized_object.Goals as goal

pub returns-in_err-written-clause-typed : goal.returns-in_err-written-clause-typed
returns-in_err-written-clause-typed c =
    let s = plain_sight c.args.sight.now in
    let e : c.from_residual-in_err-written.result ≡ Err c.in_err-written.field-0.0 = search rules in
    let i = plain_maybe_init c.args.init.now in
    let t = plain_type c.args.t.now in
    let u = plain_type c.type_outer-written.new.t in
    let v = plain_type c.complete.new.t in
    let bad : Answers (λ (w : Unit {0}). u) (typed_outer (is_there i) s c.args.place t) (Err c.in_err-written.field-0.0) = search rules in
    let whole = object_refused s c.args.place t i {T = Unit {0}} (λ (w : Unit {0}). u) (λ w. v) c.in_err-written.field-0.0 bad in
    search (rules, e, whole)
