use Rattle.c_reader.proofs.Judgements.{typed_trees_keep_asserts, letters_are_characters, results_fit, runs_judge_soundly, judgements_sound}
use Rattle.c_reader.proofs.Judgements.{judgements_in_sight}
use Rattle.c_reader.proofs.ReadTrees.{tree_is_read}
use Rattle.c_reader.proofs.read.about_programs.Goals as goal

pub returns : goal.returns
returns c = record {
  trees = tree_is_read;
  asserts = typed_trees_keep_asserts;
  letters = letters_are_characters;
  results = results_fit;
  judged = runs_judge_soundly;
  judgements = judgements_sound;
  seen = judgements_in_sight;
}
