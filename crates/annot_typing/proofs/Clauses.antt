-- Annotations one after another.
use Rattle.std.proofs.Common.{◌≡◌, List, [], ◌∷◌, ◌++◌, refl, sym, ap, ◌∙◌, subst, map, Err}
use Rattle.c_syntax.specs.declared.logic.Annot.{Annot}
use Rattle.c_syntax.specs.declared.logic.Body.{Body}
use Rattle.c_syntax.specs.Logic.{Annotation, ClauseBody, plain_body, plain_annot}
use Rattle.c_model.specs.Checked.{Good}
use Rattle.c_model.specs.AnnotationSights.{AnnotationSight}
use Rattle.c_model.specs.PredicateTyping.{typed_annotations, typed_clause}
use Rattle.c_scopes.specs.Answers.{Answers}
use Rattle.c_scopes.specs.declared.fault.TypeFault.{TypeFault}
use Rattle.c_scopes.proofs.Lists.{behind_parts, list_more, part_refused}

-- one more annotation is typed
pub annotations_more : (s : AnnotationSight) (all : List Annotation) (list done done' : List Annot) (a : Annot) (body : Body) (rest : List Annot)
    → typed_annotations s all ≡ behind_parts (map plain_annot done) (typed_annotations s (map plain_annot list)) → list ≡ a ∷ rest → typed_clause s a.kind (plain_body a.body) ≡ Good (plain_body body)
    → done' ≡ done ++ record a { body = body } ∷ [] → typed_annotations s all ≡ behind_parts (map plain_annot done') (typed_annotations s (map plain_annot rest))
annotations_more s all list done done' a body rest before is good more =
    list_more plain_annot (λ b. record (plain_annot a) { body = b }) (typed_annotations s all) (typed_annotations s (map plain_annot list)) done done' (record a { body = body })
    (typed_clause s a.kind (plain_body a.body)) (λ b. typed_annotations s (map plain_annot rest)) (plain_body body) before (ap (λ l. typed_annotations s (map plain_annot l)) is) good refl more

-- an annotation is refused
pub annotation_refused : {S T : Type 0} (p : T → ClauseBody) (q : S → List Annotation) (s : AnnotationSight) (all done : List Annotation) (list : List Annot) (a : Annot) (rest : List Annot) (h : TypeFault)
    → typed_annotations s all ≡ behind_parts done (typed_annotations s (map plain_annot list)) → list ≡ a ∷ rest → Answers p (typed_clause s a.kind (plain_body a.body)) (Err h) → Answers q (typed_annotations s all) (Err h)
annotation_refused p q s all done list a rest h before is refused =
    let view = λ (b : ClauseBody). record (plain_annot a) { body = b } in
    let behind = λ (b : ClauseBody). typed_annotations s (map plain_annot rest) in
    subst (λ m. Answers q m (Err h)) (sym (before ∙ ap (behind_parts done) (ap (λ l. typed_annotations s (map plain_annot l)) is)))
    (part_refused done (typed_clause s a.kind (plain_body a.body)) view behind p q h refused)
