use Rattle.std.proofs.Common.{◌≡◌, ◌∙◌, refl, sym, subst, ap, rules, arith, slice_get, Some, Err}
use Rattle.c_syntax.specs.Ctypes.{plain_type}
use Rattle.c_syntax.specs.Programs.{plain_layout, plain_member}
use Rattle.c_model.specs.Checked.{Good}
use Rattle.c_model.specs.ExpressionTyping.{HasSize, Sight, sized}
use Rattle.c_scopes.specs.Answers.{Answers}
use Rattle.c_scopes.specs.Sights.{plain_sight}
use Rattle.c_declaration_rules.specs.declared.layout.Grown.{Grown}
use Rattle.c_declaration_rules.specs.Members.{GrowsTo, checked_member, ended, with_grown, with_last_member}
use Rattle.c_declaration_rules.specs.OpenStructs.{IsOpen, IsOpenAt}
use Rattle.c_declaration_rules.proofs.Members.{at_place, member_made, member_refused}
use Rattle.c_declaration_rules.proofs.OpenStructs.{open_more, others_open}
use Rattle.c_declaration_rules.proofs.member.type_next_member.Goals as goal

pub type_new_member-requires-clause-laid : goal.type_new_member-requires-clause-laid
type_new_member-requires-clause-laid c =
    let l = c.index.result.now in
    (c.requires.begun (plain_layout l) (at_place c.args.sight.now.structs.items c.args.k l (search (rules, arith)) (search rules))).0

pub type_new_member-requires-clause-named : goal.type_new_member-requires-clause-named
type_new_member-requires-clause-named c =
    let l = c.index.result.now in
    (c.requires.begun (plain_layout l) (at_place c.args.sight.now.structs.items c.args.k l (search (rules, arith)) (search rules))).1

pub returns-clause-typed : goal.returns-clause-typed
returns-clause-typed c =
    let s = plain_sight c.args.sight.now in
    let l = c.index.result.now in
    let struct = plain_layout l in
    let m = plain_member c.args.m.now in
    let m' = c.type_new_member.new.m in
    let t = plain_type m'.ctype in
    let g = c.in_ok-grown.grown in
    let there : slice_get s.structs c.args.k ≡ Some struct = at_place c.args.sight.now.structs.items c.args.k l (search (rules, arith)) (search rules) in
    let typed : checked_member s struct m ≡ Good t = search rules in
    let grows : GrowsTo s struct t g = search rules in
    let kept : plain_member m' ≡ record m { ctype = t } = search rules in
    let new : plain_sight c.see_member.new.sight ≡ with_grown s c.args.k struct (record m { ctype = t }) g c.args.ends = c.in_ok-see_member.ensures struct there ∙ ap (λ z. with_grown s c.args.k struct z g c.args.ends) kept in
    let whole = member_made s c.args.k struct m c.args.ends there t g (plain_sight c.see_member.new.sight) typed grows new in
    search (rules, whole)

pub returns-clause-begun : goal.returns-clause-begun
returns-clause-begun c = λ goes.
    let s = plain_sight c.args.sight.now in
    let l = c.index.result.now in
    let struct = plain_layout l in
    let m' = plain_member c.type_new_member.new.m in
    let g = c.in_ok-grown.grown in
    let there : slice_get s.structs c.args.k ≡ Some struct = at_place c.args.sight.now.structs.items c.args.k l (search (rules, arith)) (search rules) in
    let before = c.requires.begun struct there in
    let grows : GrowsTo s struct m'.ctype g = search rules in
    let size : sized s.structs m'.ctype ≡ HasSize = search rules in
    let new = c.in_ok-see_member.ensures struct there ∙ ap (with_grown s c.args.k struct m' g) goes in
    subst (λ (z : Sight). IsOpenAt z.structs c.args.k c.insert.new.self) (sym new)
    (open_more s.structs c.args.k struct m' g c.args.names.now c.insert.new.self c.type_new_member.new.m.name there before.0 before.1 size grows c.in_ok-insert.ensures.updates.0 refl)

pub returns-clause-others : goal.returns-clause-others
returns-clause-others c = λ begun none opened.
    let s = plain_sight c.args.sight.now in
    let l = c.index.result.now in
    let struct = plain_layout l in
    let m' = plain_member c.type_new_member.new.m in
    let there : slice_get s.structs c.args.k ≡ Some struct = at_place c.args.sight.now.structs.items c.args.k l (search (rules, arith)) (search rules) in
    let laid = (c.requires.begun struct there).0 in
    let z = ended c.args.ends (with_last_member struct m' c.in_ok-grown.grown) in
    subst (λ (t : Sight). IsOpen t.structs begun) (sym (c.in_ok-see_member.ensures struct there)) (others_open s.structs c.args.k z struct begun.names there laid.unsized none opened)

pub returns-in_err-grown-clause-typed : goal.returns-in_err-grown-clause-typed
returns-in_err-grown-clause-typed c =
    let s = plain_sight c.args.sight.now in
    let l = c.index.result.now in
    let struct = plain_layout l in
    let m = plain_member c.args.m.now in
    let t = plain_type c.type_new_member.new.m.ctype in
    let e : c.from_residual.result ≡ Err c.in_err-grown.field-0.0 = search rules in
    let there : slice_get s.structs c.args.k ≡ Some struct = at_place c.args.sight.now.structs.items c.args.k l (search (rules, arith)) (search rules) in
    let bad : Answers (λ (w : Grown). t) (checked_member s struct m) (Err c.in_err-grown.field-0.0) = search rules in
    let whole = member_refused s c.args.k struct m c.args.ends there {T = Unit {0}} (λ (w : Grown). t) (λ u. s) c.in_err-grown.field-0.0 bad in
    search (rules, e, whole)
