-- Declarations, one after another.
use Rattle.std.proofs.Common.{◌≡◌, List, [], ◌∷◌, ◌++◌, refl, sym, ap, ◌∙◌, subst, map, Err}
use Rattle.std.proofs.lemmas.List.{map-append}
use Rattle.c_syntax.specs.declared.statement.Decl.{Decl}
use Rattle.c_syntax.specs.Statements.{Declaration, plain_decl}
use Rattle.c_model.specs.Checked.{Good}
use Rattle.c_model.specs.ExpressionTyping.{Sight, with_object, with_objects}
use Rattle.c_model.specs.DeclarationTyping.{typed_variable}
use Rattle.c_model.specs.StatementTyping.{typed_declarations}
use Rattle.c_scopes.specs.declared.fault.TypeFault.{TypeFault}
use Rattle.c_scopes.specs.Answers.{Answers}
use Rattle.c_scopes.proofs.Lists.{behind_parts, part_refused, list_more}

with_objects_snoc : (s : Sight) (ds : List Declaration) (d : Declaration) → with_objects s (ds ++ d ∷ []) ≡ with_object (with_objects s ds) d
with_objects_snoc s [] d = refl
with_objects_snoc s (x ∷ xs) d = with_objects_snoc (with_object s x) xs d

-- a declaration that is refused
pub declarations_refused : {S T : Type 0} (p : T → Declaration) (q : S → List Declaration) (s t : Sight) (done : List Decl) (all : List Declaration) (list : List Decl) (d : Decl) (rest : List Decl) (h : TypeFault)
    → typed_declarations s all ≡ behind_parts (map plain_decl done) (typed_declarations t (map plain_decl list)) → list ≡ d ∷ rest → Answers p (typed_variable t (plain_decl d)) (Err h) → Answers q (typed_declarations s all) (Err h)
declarations_refused p q s t done all list d rest h before is bad =
    subst (λ c. Answers q c (Err h)) (sym (before ∙ ap (λ l. behind_parts (map plain_decl done) (typed_declarations t (map plain_decl l))) is))
    (part_refused (map plain_decl done) (typed_variable t (plain_decl d)) (λ y. y) (λ y. typed_declarations (with_object t y) (map plain_decl rest)) p q h bad)

module _ (s t t' : Sight) (done done' : List Decl) (x : Decl) (now : t' ≡ with_object t (plain_decl x)) (more : done' ≡ done ++ x ∷ [])
  where
    -- one more declaration is typed
    pub declarations_more : (all : List Declaration) (list : List Decl) (d : Decl) (rest : List Decl)
        → typed_declarations s all ≡ behind_parts (map plain_decl done) (typed_declarations t (map plain_decl list)) → list ≡ d ∷ rest → typed_variable t (plain_decl d) ≡ Good (plain_decl x)
        → typed_declarations s all ≡ behind_parts (map plain_decl done') (typed_declarations t' (map plain_decl rest))
    declarations_more all list d rest before is good =
        list_more plain_decl (λ y. y) (typed_declarations s all) (typed_declarations t (map plain_decl list)) done done' x (typed_variable t (plain_decl d))
        (λ y. typed_declarations (with_object t y) (map plain_decl rest)) (plain_decl x) before (ap (λ ds. typed_declarations t (map plain_decl ds)) is) good refl more
        ∙ ap (λ u. behind_parts (map plain_decl done') (typed_declarations u (map plain_decl rest))) (sym now)

    pub objects_more : t ≡ with_objects s (map plain_decl done) → t' ≡ with_objects s (map plain_decl done')
    objects_more before =
        now ∙ ap (λ u. with_object u (plain_decl x)) before ∙ sym (with_objects_snoc s (map plain_decl done) (plain_decl x))
        ∙ ap (with_objects s) (sym (ap (map plain_decl) more ∙ map-append plain_decl done (x ∷ [])))
