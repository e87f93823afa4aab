use Rattle.std.proofs.Common.{◌≡◌, rules}
use Rattle.c_syntax.specs.Ctypes.{plain_type}
use Rattle.c_syntax.specs.Programs.{plain_layout, plain_member}
use Rattle.c_model.specs.Checked.{Good}
use Rattle.c_scopes.specs.Answers.{Answers}
use Rattle.c_scopes.specs.Sights.{plain_sight}
use Rattle.c_declaration_rules.specs.declared.layout.Grown.{Grown}
use Rattle.c_declaration_rules.specs.Members.{GrowsTo, object_member, small_layout}
use Rattle.c_declaration_rules.proofs.Members.{sized_member}
use Rattle.c_declaration_rules.proofs.member.type_member_type.Goals as goal

pub returns-clause-typed : goal.returns-clause-typed
returns-clause-typed c =
    let s = plain_sight c.args.sight.now in
    let struct = plain_layout c.args.layout.now in
    let m = plain_member c.args.m.now in
    let t = plain_type c.type_object_member.new.t in
    let typed : object_member s m.place m.ctype ≡ Good t = search rules in
    let grows : GrowsTo s struct t c.in_ok-grown.grown = search rules in
    let checked : Answers (λ (g : Grown). g) (small_layout m.place c.in_ok-grown.grown) c.small_layout.result = search rules in
    let whole = sized_member s struct m t c.in_ok-grown.grown grows c.small_layout.result typed checked in
    search (rules, whole)
