-- Flat memory stands for numbered blocks, so that what agrees with a run over blocks is translated.
use Rattle.std.proofs.Common.{ℕ, ℤ, pos, List, refl, ap}
use Rattle.c_syntax.specs.Programs.{TranslationUnit}
use Rattle.c_model.specs.Memory.{Value}
use Rattle.c_model.specs.State.{Input}
use Rattle.c_model.specs.Meaning as source
use Rattle.c_model.specs.Reports.{Agrees, AgreesToFault}
use Rattle.c_model.proofs.Agreement.{Agrees-trans}
use Rattle.mon_syntax.specs.declared.tree.MemoryCall.{MemoryCall}
use Rattle.mon_syntax.specs.declared.tree.MemoryCall.TheVariants as call
use Rattle.mon_syntax.specs.Trees.{MonitoredProgram}
use Rattle.mon_syntax.specs.Flat.{Flat}
use Rattle.mon_syntax.specs.BlockMemory.{Blocks, act_on_blocks, over_blocks, block_run, blocks_start}
use Rattle.mon_syntax.specs.FlatMemory.{act_on_flat, over_flat, flat_run, flat_start}
use Rattle.mon_syntax.specs.Valid.{IsValid}
use Rattle.mon_syntax.specs.Following.{AllKept, Follows}
use Rattle.mon_syntax.specs.Translates.{Translates}
use Rattle.mon_syntax.proofs.Agreement.{runs_agree}
use Rattle.mon_syntax.specs.FlatRelation.{World, Later, Same, Holds}
use Rattle.mon_syntax.proofs.FlatWorlds.{later_refl, later_trans, same_later, same_number, same_null}
use Rattle.mon_syntax.proofs.FlatValues.{load_alike}
use Rattle.mon_syntax.proofs.FlatStores.{store_alike}
use Rattle.mon_syntax.proofs.FlatOperators.{pointed_alike}
use Rattle.c_model.specs.Integers.{truth}
use Rattle.mon_syntax.specs.BlockMemory as blocks
use Rattle.mon_syntax.specs.FlatMemory as flat
use Rattle.c_model.specs.MemoryQuestions.{is_valid, is_readable, is_initialized}
use Rattle.mon_syntax.specs.Flat.{flat_valid, flat_valid_read, flat_initialized, flat_base_addr}
use Rattle.mon_syntax.proofs.FlatQuestions.{valid_alike, readable_alike, initialized_alike, pointer_alike, inside_alike, base_alike, length_alike, offset_alike}
use Rattle.mon_syntax.proofs.FlatAnswers.{range_question_alike, place_question_alike, separated_question_alike}
use Rattle.mon_syntax.proofs.FlatNumbers.{number_alike}
use Rattle.mon_syntax.proofs.FlatFrames.{Answers, enter_alike, leave_alike}
use Rattle.mon_syntax.proofs.FlatStack.{store_block_alike, delete_block_alike}
use Rattle.mon_syntax.proofs.FlatHeap.{malloc_alike, calloc_alike, free_alike}
use Rattle.mon_syntax.proofs.FlatCopies.{copy_alike}
use Rattle.mon_syntax.proofs.FlatStart.{both_start}
use Rattle.mon_syntax.proofs.FlatStrings.{string_alike}

pub act_alike : (w : World) (f : MemoryCall) (xs : List Value) (ys : List ℤ) (m : Blocks) (n : Flat) → AllKept (Same w) xs ys → Holds w m n
    → Answers w (act_on_blocks f xs m) (act_on_flat f ys n)
act_alike w call.StoreBlock xs ys m n k h = store_block_alike w xs ys m n k h
act_alike w call.DeleteBlock xs ys m n k h = delete_block_alike w xs ys m n k h
act_alike w (call.Copy a) xs ys m n k h = copy_alike w a xs ys m n k h
act_alike w (call.Number a) xs ys m n k h = number_alike w a xs ys m n k h
act_alike w (call.Valid a) xs ys m n k h = range_question_alike w is_valid flat_valid (λ m f o h p x s. valid_alike w m f o h p x s) a xs ys m n k h
act_alike w (call.ValidRead a) xs ys m n k h = range_question_alike w is_readable flat_valid_read (λ m f o h p x s. readable_alike w m f o h p x s) a xs ys m n k h
act_alike w (call.Initialized a) xs ys m n k h = range_question_alike w is_initialized flat_initialized (λ m f o h p x s. initialized_alike w m f o h p x s) a xs ys m n k h
act_alike w call.Pointer xs ys m n k h = place_question_alike w blocks.told_pointer flat.told_pointer (λ m f o h p x s. ap truth (pointer_alike w m f o h p x s)) xs ys m n k h
act_alike w call.Inside xs ys m n k h = place_question_alike w blocks.told_inside flat.told_inside (λ m f o h p x s. ap truth (inside_alike w m f o h p x s)) xs ys m n k h
act_alike w call.BaseAddr xs ys m n k h = place_question_alike w blocks.told_base flat.told_base (λ m f o h p x s. (flat_base_addr f x o, refl, base_alike w m f o h p x s)) xs ys m n k h
act_alike w call.BlockLength xs ys m n k h = place_question_alike w blocks.told_length flat.told_length (λ m f o h p x s. ap pos (length_alike w m f o h p x s)) xs ys m n k h
act_alike w call.Offset xs ys m n k h = place_question_alike w blocks.told_offset flat.told_offset (λ m f o h p x s. ap pos (offset_alike w m f o h p x s)) xs ys m n k h
act_alike w call.Separated xs ys m n k h = separated_question_alike w xs ys m n k h
act_alike w call.Malloc xs ys m n k h = malloc_alike w xs ys m n k h
act_alike w call.Calloc xs ys m n k h = calloc_alike w xs ys m n k h
act_alike w call.Free xs ys m n k h = free_alike w xs ys m n k h

pub flat_follows_blocks : Follows over_blocks over_flat
flat_follows_blocks = record {
  World = World;
  Later = Later;
  later_refl = later_refl;
  later_trans = later_trans;
  Same = Same;
  same_later = same_later;
  Holds = Holds;
  number = λ w z. refl;
  number_of = same_number;
  null = same_null;
  load = load_alike;
  store = store_alike;
  pointed = pointed_alike;
  act = act_alike;
  string = string_alike;
  enter = enter_alike;
  leave = leave_alike;
}

pub blocks_agree_with_flat : (m : MonitoredProgram) → IsValid m → (input : Input) (n : ℕ) → AgreesToFault (block_run m input n) (flat_run m input n)
unfolding flat_follows_blocks
blocks_agree_with_flat m valid input n =
    let start = both_start m.globals valid.globals valid.room in
    runs_agree over_blocks over_flat flat_follows_blocks m start.world (blocks_start m.globals) (flat_start m.globals) input n start.starts start.holds

pub agreement_translates : (p : TranslationUnit) (m : MonitoredProgram) → IsValid m → ((input : Input) (n : ℕ) → Agrees (source.run p input n) (block_run m input n)) → Translates p m
agreement_translates p m valid h = record {
  valid = valid;
  agrees = λ input n. Agrees-trans (source.run p input n) (block_run m input n) (flat_run m input n) (h input n) (blocks_agree_with_flat m valid input n);
}
