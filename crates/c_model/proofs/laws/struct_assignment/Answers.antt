use Rattle.c_model.proofs.ScalarOrder.{scalars_in_order}
use Rattle.c_model.proofs.StructCopies.{assigned_structs_are_copies, assigned_structs_keep_the_rest}
use Rattle.c_model.proofs.laws.struct_assignment.Goals as goal

pub returns-clause-order : goal.returns-clause-order
returns-clause-order c = scalars_in_order

pub returns-clause-copies : goal.returns-clause-copies
returns-clause-copies c = assigned_structs_are_copies

pub returns-clause-rest : goal.returns-clause-rest
returns-clause-rest c = assigned_structs_keep_the_rest
