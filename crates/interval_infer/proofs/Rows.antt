-- Annotations one after another.
use Rattle.std.proofs.Common.{◌≡◌, List, [], ◌∷◌, ◌++◌, refl, sym, ap, ◌∙◌, subst, append_assoc, map, Result}
use Rattle.c_syntax.specs.declared.logic.Annot.{Annot}
use Rattle.c_syntax.specs.declared.logic.Body.{Body}
use Rattle.c_syntax.specs.Logic.{ClauseBody, Annotation, plain_body, plain_annot}
use Rattle.c_model.specs.Checked.{Checked, Good, Bad, both_parts}
use Rattle.c_model.specs.TermRanges.{Seen, ranged_clause, ranged_annotations}
use Rattle.c_scopes.specs.declared.fault.TypeFault.{TypeFault}
use Rattle.c_scopes.specs.Answers.{Answers, both}
use Rattle.c_scopes.proofs.Least.{both_made}

-- one more annotation after others
abbrev then_annotation : Annotation → List Annotation → ClauseBody → List Annotation
then_annotation a xs b = xs ++ record a { body = b } ∷ []

first_row : (a : Annotation) (d : Checked ClauseBody) → both_parts d (Good []) (λ b rest. Good (record a { body = b } ∷ rest)) ≡ both_parts (Good []) d (λ xs b. Good (then_annotation a xs b))
first_row a (Good b) = refl
first_row a (Bad f fs) = refl

in_turn : (x a : Annotation) (c : Checked ClauseBody) (d : Checked (List Annotation)) (e : Checked ClauseBody)
    → both_parts c (both_parts d e (λ xs b. Good (then_annotation a xs b))) (λ b rest. Good (record x { body = b } ∷ rest))
    ≡ both_parts (both_parts c d (λ b rest. Good (record x { body = b } ∷ rest))) e (λ xs b. Good (then_annotation a xs b))
in_turn x a (Good c) (Good d) (Good e) = refl
in_turn x a (Good c) (Good d) (Bad g gs) = refl
in_turn x a (Good c) (Bad f fs) (Good e) = refl
in_turn x a (Good c) (Bad f fs) (Bad g gs) = refl
in_turn x a (Bad h hs) (Good d) (Good e) = refl
in_turn x a (Bad h hs) (Good d) (Bad g gs) = refl
in_turn x a (Bad h hs) (Bad f fs) (Good e) = refl
in_turn x a (Bad h hs) (Bad f fs) (Bad g gs) = ap (Bad h) (sym (append_assoc hs (f ∷ fs) (g ∷ gs)))

plain_snoc : (xs : List Annot) (x : Annot) → map plain_annot (xs ++ x ∷ []) ≡ map plain_annot xs ++ plain_annot x ∷ []
plain_snoc [] x = refl
plain_snoc (y ∷ ys) x = ap (λ l. plain_annot y ∷ l) (plain_snoc ys x)

-- where these names of annotations are in sight
module _ (seen : Seen)
  where
    ranged_snoc : (xs : List Annotation) (a : Annotation) → ranged_annotations seen (xs ++ a ∷ []) ≡ both_parts (ranged_annotations seen xs) (ranged_clause seen a.body) (λ ys b. Good (then_annotation a ys b))
    ranged_snoc [] a = first_row a (ranged_clause seen a.body)
    ranged_snoc (x ∷ xs) a =
        ap (λ c. both_parts (ranged_clause seen x.body) c (λ b rest. Good (record x { body = b } ∷ rest))) (ranged_snoc xs a)
        ∙ in_turn x a (ranged_clause seen x.body) (ranged_annotations seen xs) (ranged_clause seen a.body)

    rows_more : (xs ys : List Annot) (x : Annot) (b : Body) (d r : Result (Unit {0}) TypeFault) → Answers (λ (u : Unit {0}). map plain_annot ys) (ranged_annotations seen (map plain_annot xs)) d
        → Answers (λ (u : Unit {0}). plain_body b) (ranged_clause seen (plain_body x.body)) r → Answers (λ (u : Unit {0}). map plain_annot (ys ++ record x { body = b } ∷ [])) (ranged_annotations seen (map plain_annot (xs ++ x ∷ []))) (both d r)
    rows_more xs ys x b d r hd hr =
        subst (λ zs. Answers (λ (u : Unit {0}). zs) (ranged_annotations seen (map plain_annot (xs ++ x ∷ []))) (both d r)) (sym (plain_snoc ys (record x { body = b })))
        (subst (λ zs. Answers (λ (u : Unit {0}). map plain_annot ys ++ plain_annot (record x { body = b }) ∷ []) (ranged_annotations seen zs) (both d r)) (sym (plain_snoc xs x))
        (subst (λ c. Answers (λ (u : Unit {0}). map plain_annot ys ++ plain_annot (record x { body = b }) ∷ []) c (both d r)) (sym (ranged_snoc (map plain_annot xs) (plain_annot x)))
        (both_made (then_annotation (plain_annot x)) (λ (u : Unit {0}). map plain_annot ys) (λ (u : Unit {0}). plain_body b) (ranged_annotations seen (map plain_annot xs)) (ranged_clause seen (plain_body x.body)) d r (both d r) hd hr refl)))

    -- one more annotation has its ranges
    pub rows_step : (xs xs' ys ys' : List Annot) (x : Annot) (b : Body) (d r : Result (Unit {0}) TypeFault) → xs' ≡ xs ++ x ∷ [] → ys' ≡ ys ++ record x { body = b } ∷ []
        → Answers (λ (u : Unit {0}). map plain_annot ys) (ranged_annotations seen (map plain_annot xs)) d → Answers (λ (u : Unit {0}). plain_body b) (ranged_clause seen (plain_body x.body)) r
        → Answers (λ (u : Unit {0}). map plain_annot ys') (ranged_annotations seen (map plain_annot xs')) (both d r)
    rows_step xs xs' ys ys' x b d r ex ey hd hr =
        subst (λ zs. Answers (λ (u : Unit {0}). map plain_annot zs) (ranged_annotations seen (map plain_annot xs')) (both d r)) (sym ey)
        (subst (λ zs. Answers (λ (u : Unit {0}). map plain_annot (ys ++ record x { body = b } ∷ [])) (ranged_annotations seen (map plain_annot zs)) (both d r)) (sym ex) (rows_more xs ys x b d r hd hr))
