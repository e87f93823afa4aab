use Rattle.std.proofs.Common.{◌≡◌, ◌∙◌, ap, rules, slice_set, suc}
use Rattle.c_syntax.specs.Programs.{plain_layout, plain_member}
use Rattle.c_model.specs.ExpressionTyping.{levels_of, number_at}
use Rattle.c_model.specs.DeclarationTyping.{greater}
use Rattle.c_scopes.specs.Sights.{plain_sight}
use Rattle.c_declaration_rules.specs.Members.{ended, with_last_member}
use Rattle.c_declaration_rules.proofs.Members.{seen_member}
use Rattle.c_declaration_rules.proofs.member.see_member.Goals as goal

pub returns : goal.returns
returns c = λ struct there.
    let s = plain_sight c.args.sight.now in
    let m = plain_member c.args.m.now in
    let grows : plain_layout c.add.new.layout ≡ ended c.args.ends (with_last_member (plain_layout c.index_mut.result.now) m c.args.grown) = search rules in
    let level : c.greater-level.result ≡ greater (number_at s.levels c.args.k) (suc (levels_of s.levels m.ctype)) = search rules in
    let levels : c.set_level.new.levels.items ≡ slice_set s.levels c.args.k (greater (number_at s.levels c.args.k) (suc (levels_of s.levels m.ctype))) = c.set_level.ensures ∙ ap (slice_set s.levels c.args.k) level in
    seen_member s c.args.k struct m c.args.grown c.args.ends c.args.sight.now.structs.items c.index_mut.result.now c.add.new.layout c.set_level.new.levels.items c.requires.within c.index_mut.ensures.value there grows levels
