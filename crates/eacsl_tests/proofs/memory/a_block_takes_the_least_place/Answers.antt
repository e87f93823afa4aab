use Rattle.seg_heap.proofs.Members.{start_kept, start_taken}
use Rattle.eacsl_tests.proofs.memory.a_block_takes_the_least_place.Goals as goal

pub give-requires : goal.give-requires
give-requires g c =
    let one = start_taken _ c.take.new.self 15 c.place_of-first.result (rw c.place_of-first.ensures at c.take.ensures.taken) in
    let two = start_kept c.take.new.self c.take-2.new.self 16 c.take-2.result c.take-2.ensures.taken c.take-2.ensures.full c.place_of-first.result one in
    start_kept c.take-2.new.self c.take-3.new.self 16 c.take-3.result c.take-3.ensures.taken c.take-3.ensures.full c.place_of-first.result two
