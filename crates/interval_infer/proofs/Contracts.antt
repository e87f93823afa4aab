-- Behaviors one after another.
use Rattle.std.proofs.Common.{◌≡◌, List, [], ◌∷◌, ◌++◌, ap, map}
use Rattle.c_syntax.specs.declared.program.Behavior.{Behavior}
use Rattle.c_syntax.specs.Logic.{Annotation, plain_annot}
use Rattle.c_syntax.specs.Programs.{NamedBehavior, plain_behavior}
use Rattle.c_model.specs.Checked.{Good}
use Rattle.c_model.specs.AnnotationRanges.{ranged_behaviors}
use Rattle.c_model.specs.TermRanges.{Seen, ranged_annotations}
use Rattle.c_scopes.proofs.Lists.{behind_parts, list_more}

-- one more behavior has its ranges
pub behaviors_more : (seen : Seen) (all : List NamedBehavior) (list done done' : List Behavior) (a b : Behavior) (rest : List Behavior)
    → ranged_behaviors seen all ≡ behind_parts (map plain_behavior done) (ranged_behaviors seen (map plain_behavior list)) → list ≡ a ∷ rest
    → ranged_annotations seen (map plain_annot a.clauses.items) ≡ Good (map plain_annot b.clauses.items) → record (plain_behavior a) { clauses = map plain_annot b.clauses.items } ≡ plain_behavior b
    → done' ≡ done ++ b ∷ [] → ranged_behaviors seen all ≡ behind_parts (map plain_behavior done') (ranged_behaviors seen (map plain_behavior rest))
behaviors_more seen all list done done' a b rest before is good same more =
    list_more plain_behavior (λ (cs : List Annotation). record (plain_behavior a) { clauses = cs }) (ranged_behaviors seen all) (ranged_behaviors seen (map plain_behavior list)) done done' b
    (ranged_annotations seen (map plain_annot a.clauses.items)) (λ (cs : List Annotation). ranged_behaviors seen (map plain_behavior rest)) (map plain_annot b.clauses.items) before
    (ap (λ l. ranged_behaviors seen (map plain_behavior l)) is) good same more
