use Rattle.std.proofs.Common.{refl}
use Rattle.c_model.proofs.HeapPlaces.{heap_places_fit, heap_places_are_least, full_heaps_have_no_place, heaps_with_no_place_are_full, numbers_come_first}
use Rattle.c_model.proofs.HeapBlocks.{allocated_blocks_are_new, no_bytes_give_null, freed_blocks_die, live_blocks_can_be_freed, dead_blocks_have_no_use}
use Rattle.c_model.proofs.BlocksLast.{statements_keep_blocks}
use Rattle.c_model.proofs.SettledBlocks.{statements_keep_places}
use Rattle.c_model.proofs.laws.heap.Goals as goal

pub returns-clause-fit : goal.returns-clause-fit
returns-clause-fit c = heap_places_fit

pub returns-clause-least : goal.returns-clause-least
returns-clause-least c = heap_places_are_least

pub returns-clause-full : goal.returns-clause-full
returns-clause-full c = full_heaps_have_no_place

pub returns-clause-only : goal.returns-clause-only
returns-clause-only c = heaps_with_no_place_are_full

pub returns-clause-numbers : goal.returns-clause-numbers
returns-clause-numbers c = numbers_come_first

pub returns-clause-new : goal.returns-clause-new
returns-clause-new c = allocated_blocks_are_new

pub returns-clause-null : goal.returns-clause-null
returns-clause-null c = no_bytes_give_null

pub returns-clause-freed : goal.returns-clause-freed
returns-clause-freed c = freed_blocks_die

pub returns-clause-freeable : goal.returns-clause-freeable
returns-clause-freeable c = live_blocks_can_be_freed

pub returns-clause-let_be : goal.returns-clause-let_be
returns-clause-let_be c = λ store. refl

pub returns-clause-dead : goal.returns-clause-dead
returns-clause-dead c = dead_blocks_have_no_use

pub returns-clause-kept : goal.returns-clause-kept
returns-clause-kept c = statements_keep_blocks

pub returns-clause-places : goal.returns-clause-places
returns-clause-places c = statements_keep_places
