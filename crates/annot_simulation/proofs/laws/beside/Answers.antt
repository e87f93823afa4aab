use Rattle.annot_simulation.proofs.Beside.{standing_stands, standing_keeps_ranges, sound_judgements_keep_ranges, typed_predicates_are_found}
use Rattle.annot_simulation.proofs.Beside.{judged_predicates_are_found, ranges_hold, results_keep_ranges, terms_under_labels_are_found, typed_terms_are_found}
use Rattle.annot_simulation.proofs.laws.beside.Goals as goal

pub returns : goal.returns
returns c = record {
  stands = standing_stands;
  ranges = standing_keeps_ranges;
  bounded = ranges_hold;
  results = results_keep_ranges;
  judged = sound_judgements_keep_ranges;
  found = typed_predicates_are_found;
  terms = typed_terms_are_found;
  under = terms_under_labels_are_found;
  asked = judged_predicates_are_found;
}
