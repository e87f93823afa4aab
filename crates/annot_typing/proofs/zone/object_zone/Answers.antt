use Rattle.std.proofs.Common.{sym, subst}
use Rattle.c_syntax.specs.Ctypes.{PlainType, plain_type}
use Rattle.c_syntax.specs.Layouts.{align_of, size_of}
use Rattle.c_syntax.specs.Logic.{LogicTerm, Object, Zone, plain_term}
use Rattle.c_model.specs.Checked.{Checked, Good}
use Rattle.c_model.specs.PredicateTyping.{as_pointer, place_of_term, where_asked}
use Rattle.c_scopes.specs.Answers.{Answers}
use Rattle.c_scopes.specs.Sights.{plain_sight}
use Rattle.c_scopes.proofs.Least.{one_then}
use Rattle.annot_typing.specs.Sorts.{plain_pointer, plain_sorted}
use Rattle.annot_typing.specs.Zones.{plain_zone}
use Rattle.annot_typing.proofs.Kept.{place_kept}
use Rattle.annot_typing.proofs.Zones.{asked_good}
use Rattle.annot_typing.proofs.zone.object_zone.Goals as goal

pub returns : goal.returns
returns c =
    let s = plain_sight c.args.sight.now in
    let u = c.in_ok-u.u in
    let p = c.in_ok-u.p in
    let behind : PlainType × LogicTerm → Checked Zone = λ x. Good (Object (place_of_term x.1) (size_of s.structs x.0) (align_of s.structs x.0) x.1) in
    let here = subst (λ at. Answers plain_zone (Good (Object at (size_of s.structs (plain_type u)) (align_of s.structs (plain_type u)) (plain_term p))) c.zone_of.result) (sym (place_kept p)) c.zone_of.ensures in
    one_then (λ x. where_asked s c.args.place c.args.question x.0 (behind x)) plain_pointer plain_zone (as_pointer c.args.place (plain_sorted c.args.a)) (u, p) c.zone_of.result c.in_ok-u.ensures
    (subst (λ m. Answers plain_zone m c.zone_of.result) (sym (asked_good s c.args.place (plain_type u) (behind (plain_type u, plain_term p)) c.args.question c.in_ok-where_asked.ensures)) here)
