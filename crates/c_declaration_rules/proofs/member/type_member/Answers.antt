use Rattle.std.proofs.Common.{sym, subst, rules, arith}
use Rattle.c_syntax.specs.Programs.{plain_member}
use Rattle.c_scopes.specs.Sights.{plain_sight}
use Rattle.c_declaration_rules.specs.OpenStructs.{IsOpen}
use Rattle.c_declaration_rules.proofs.Members.{no_member, no_struct}
use Rattle.c_declaration_rules.proofs.OpenStructs.{kept_open}
use Rattle.c_declaration_rules.proofs.member.type_member.Goals as goal

pub type_begun_member-typed-requires-clause-begun : goal.type_begun_member-typed-requires-clause-begun
type_begun_member-typed-requires-clause-begun c = subst (IsOpen (plain_sight c.args.sight.now).structs) (sym c.replace-all.ensures.value) c.requires

pub returns-then-k-len-clause-begun : goal.returns-then-k-len-clause-begun
returns-then-k-len-clause-begun c =
    let structs = (plain_sight c.type_begun_member-typed.new.sight).structs in
    kept_open c.keep.result c.type_begun_member-typed.result structs c.keep.new.begun c.replace-all.new.dest c.type_begun_member-typed.new.begun c.keep.ensures.same c.type_begun_member-typed.ensures.begun
    c.keep.ensures.kept c.keep.ensures.refused (subst (IsOpen structs) (sym c.replace-all.ensures.after) (c.new.ensures structs))

pub returns-else-k-len-clause-typed : goal.returns-else-k-len-clause-typed
returns-else-k-len-clause-typed c =
    no_member (plain_sight c.args.sight.now) c.args.k (plain_member c.args.m.now) c.args.ends (no_struct c.args.sight.now.structs.items c.args.k (search (rules, arith)))
