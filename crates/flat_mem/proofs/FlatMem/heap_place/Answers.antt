use Rattle.std.proofs.Common.{◌+◌, ◌<◌, arith}
use Rattle.c_syntax.specs.declared.types.BlockKind.TheVariants as kind
use Rattle.c_model.specs.Memory.{greatest_number}
use Rattle.flat_mem.proofs.HeapBlocks.{block_found, block_full, placed_block}
use Rattle.flat_mem.proofs.FlatMem.heap_place.Goals as goal

pub invariant_of-self : goal.invariant_of-self
invariant_of-self c = (
  c.self.invariant.0,
  c.self.invariant.1,
  placed_block c.self.inside.places c.take.new.self c.self.inside.heap c.birth.new.self
      (record { base = c.in-Some.at; length = c.args.n; number = c.self.inside.births + 1; kind = kind.Heap }) c.self.invariant.2 (omega arith) c.in-Some.ensures.least c.in-Some.ensures.taken c.take.ensures.apart c.birth.ensures,
)

pub returns-in-Some-clause-answer : goal.returns-in-Some-clause-answer
returns-in-Some-clause-answer c =
    let lt : c.self.inside.births < greatest_number = grind (arith, c.if-self.false, c.self.ranges) in
    block_found _ _ c.self.inside.places c.args.n c.in-Some.at c.birth.new.self c.self.view_is c.self.invariant.2 lt c.in-Some.ensures.least c.birth.ensures

pub returns-in-None-clause-answer : goal.returns-in-None-clause-answer
returns-in-None-clause-answer c =
    let lt : c.self.inside.births < greatest_number = grind (arith, c.if-self.false, c.self.ranges) in
    (block_full _ _ c.self.inside.places c.args.n c.self.view_is c.self.invariant.2 lt c.in-None.ensures.least, c.self.view_is)
