use Rattle.std.proofs.Common.{◌≡◌, ◌∙◌, is_some, nat_eq, rules}
use Rattle.indexmap.specs.IndexMap.{get}
use Rattle.c_syntax.specs.Programs.{plain_program}
use Rattle.mon_syntax.proofs.ObjectIndices.{told_which}
use Rattle.mon_syntax.proofs.definition.Definitions.is_global.Goals as goal

pub returns : goal.returns
returns c =
    let self = c.args.self.now in
    let there : c.contains_key.result ≡ is_some (get nat_eq self.objects.globals c.args.number) = search rules in
    there ∙ told_which (plain_program self.program.now) (get nat_eq self.objects.globals) c.args.number self.which
