use Rattle.c_model.proofs.Blocks.{load-saved, load_pointer-saved, other_blocks-saved, other_bytes-saved, whole-saved}
use Rattle.c_model.proofs.Cells.{length-bytes_from}
use Rattle.c_model.proofs.Along.{statements_keep_whole}
use Rattle.c_model.proofs.Together.{pointers_load}
use Rattle.c_model.proofs.laws.memory.Goals as goal

pub returns-clause-loads : goal.returns-clause-loads
returns-clause-loads c = load-saved

pub returns-clause-pointers : goal.returns-clause-pointers
returns-clause-pointers c = load_pointer-saved

pub returns-clause-asked : goal.returns-clause-asked
returns-clause-asked c = pointers_load

pub returns-clause-blocks : goal.returns-clause-blocks
returns-clause-blocks c = λ store saved n offset k v e. other_blocks-saved store saved n offset _ _ e

pub returns-clause-bytes : goal.returns-clause-bytes
returns-clause-bytes c = λ store saved n offset k v w e. other_bytes-saved store saved n offset _ _ w (length-bytes_from k v) e

pub returns-clause-whole : goal.returns-clause-whole
returns-clause-whole c = whole-saved

pub returns-clause-statements : goal.returns-clause-statements
returns-clause-statements c = statements_keep_whole
