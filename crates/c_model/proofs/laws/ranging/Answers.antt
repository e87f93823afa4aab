use Rattle.c_model.proofs.RangedTrees.{ranging_keeps_terms, ranging_keeps_predicates, ranging_keeps_annotations, ranges_keep_values, ranges_keep_answers}
use Rattle.c_model.proofs.laws.ranging.Goals as goal

pub returns-clause-terms : goal.returns-clause-terms
returns-clause-terms c = ranging_keeps_terms

pub returns-clause-predicates : goal.returns-clause-predicates
returns-clause-predicates c = ranging_keeps_predicates

pub returns-clause-annotations : goal.returns-clause-annotations
returns-clause-annotations c = ranging_keeps_annotations

pub returns-clause-values : goal.returns-clause-values
returns-clause-values c = ranges_keep_values

pub returns-clause-answers : goal.returns-clause-answers
returns-clause-answers c = ranges_keep_answers
