use Rattle.std.proofs.Common.{rules, ◌<◌, ◌∙◌, subst, FitsSigned}
use Rattle.ea_ports.specs.Port.{TakesFirst}
use Rattle.std.specs.Int.{w128}
use Rattle.std.proofs.lemmas.Int.{to_z-of_z}
use Rattle.c_machine.proofs.Taken.{got_byte, got_end}
use Rattle.c_machine.proofs.reading.Reader.next.Goals as goal

pub returns-in-Ok-Some : goal.returns-in-Ok-Some
returns-in-Ok-Some g c =
    let f : FitsSigned w128 c.from.result = search rules in
    let small : c.in-Ok-Some.byte < 256 = search rules in
    got_byte (g.I.Source.left c.args.input.now) (g.I.Source.left c.next.new.self) (g.I.Source.faults c.args.input.now) (g.I.Source.faults c.next.new.self) c.in-Ok-Some.byte c.args.self.now.ended _
    c.if-self.false (to_z-of_z w128 c.from.result f ∙ c.from.ensures) (subst (TakesFirst (g.I.Source.left c.args.input.now) (g.I.Source.left c.next.new.self)) c.in-Ok-Some.field-0-is c.in-Ok-Some.ensures.bytes) c.in-Ok-Some.ensures.count small

pub returns-in-Ok-None : goal.returns-in-Ok-None
returns-in-Ok-None g c =
    got_end (g.I.Source.left c.args.input.now) (g.I.Source.left c.next.new.self) (g.I.Source.faults c.args.input.now) (g.I.Source.faults c.next.new.self) c.args.self.now.ended
    c.if-self.false (subst (TakesFirst (g.I.Source.left c.args.input.now) (g.I.Source.left c.next.new.self)) c.in-Ok-None.field-0-is c.in-Ok-None.ensures.bytes) c.in-Ok-None.ensures.count
