use Rattle.std.proofs.Common.{rules}
use Rattle.c_syntax.specs.Programs.{plain_program}
use Rattle.c_model.specs.StaticObjects.{static_objects}
use Rattle.mon_syntax.proofs.ObjectIndices.{told_literal, told_past}
use Rattle.mon_syntax.proofs.definition.Definitions.object_of_literal.Goals as goal

pub returns-in-Some : goal.returns-in-Some
returns-in-Some c =
    let self = c.args.self.now in
    told_literal self.objects.literals.items self.objects.count c.args.n c.in-Some.index (static_objects (plain_program self.program.now)) self.literals (search rules)

pub returns-in-None : goal.returns-in-None
returns-in-None c =
    let self = c.args.self.now in
    told_past self.objects.literals.items self.objects.count c.args.n (static_objects (plain_program self.program.now)) self.literals (search rules)
