use Rattle.seg_heap.proofs.Members.{start_kept, start_taken}
use Rattle.eacsl_tests.proofs.memory.gaps_are_filled.Goals as goal

pub give-requires : goal.give-requires
give-requires g c =
    let second = start_taken c.take.new.self c.take-2.new.self 31 c.place_of-second.result (rw c.place_of-second.ensures at c.take-2.ensures.taken) in
    let third = start_kept c.take-2.new.self c.take-3.new.self 15 c.take-3.result c.take-3.ensures.taken c.take-3.ensures.full c.place_of-second.result second in
    start_kept c.take-3.new.self c.take-4.new.self 16 c.take-4.result c.take-4.ensures.taken c.take-4.ensures.full c.place_of-second.result third
