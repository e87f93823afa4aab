-- Parameters, one after another.
use Rattle.std.proofs.Common.{◌≡◌, List, [], ◌∷◌, ◌++◌, refl, sym, ap, ◌∙◌, subst, map, Bool, Err}
use Rattle.std.proofs.lemmas.List.{map-append}
use Rattle.c_syntax.specs.declared.statement.Decl.{Decl}
use Rattle.c_syntax.specs.Statements.{Declaration, plain_decl}
use Rattle.c_model.specs.Checked.{Good}
use Rattle.c_model.specs.ExpressionTyping.{Sight}
use Rattle.c_model.specs.DeclarationTyping.{typed_parameter}
use Rattle.c_model.specs.UnitTyping.{typed_parameters, with_parameter, with_parameters}
use Rattle.c_scopes.specs.declared.fault.TypeFault.{TypeFault}
use Rattle.c_scopes.specs.Answers.{Answers}
use Rattle.c_scopes.proofs.Lists.{behind_parts, part_refused, list_more}

with_parameters_snoc : (s : Sight) (ds : List Declaration) (d : Declaration) → with_parameters s (ds ++ d ∷ []) ≡ with_parameter (with_parameters s ds) d
with_parameters_snoc s [] d = refl
with_parameters_snoc s (x ∷ xs) d = with_parameters_snoc (with_parameter s x) xs d

-- a parameter that is refused
pub parameters_refused : {S T : Type 0} (p : T → Declaration) (q : S → List Declaration) (defined : Bool) (s t : Sight) (done : List Decl) (all : List Declaration) (list : List Decl) (d : Decl) (rest : List Decl) (h : TypeFault)
    → typed_parameters s defined all ≡ behind_parts (map plain_decl done) (typed_parameters t defined (map plain_decl list)) → list ≡ d ∷ rest → Answers p (typed_parameter t defined (plain_decl d)) (Err h)
    → Answers q (typed_parameters s defined all) (Err h)
parameters_refused p q defined s t done all list d rest h before is bad =
    subst (λ c. Answers q c (Err h)) (sym (before ∙ ap (λ l. behind_parts (map plain_decl done) (typed_parameters t defined (map plain_decl l))) is))
    (part_refused (map plain_decl done) (typed_parameter t defined (plain_decl d)) (λ y. y) (λ y. typed_parameters (with_parameter t y) defined (map plain_decl rest)) p q h bad)

module _ (s t t' : Sight) (defined : Bool) (done done' : List Decl) (x : Decl) (now : t' ≡ with_parameter t (plain_decl x)) (more : done' ≡ done ++ x ∷ [])
  where
    -- one more parameter is typed
    pub parameters_more : (all : List Declaration) (list : List Decl) (d : Decl) (rest : List Decl)
        → typed_parameters s defined all ≡ behind_parts (map plain_decl done) (typed_parameters t defined (map plain_decl list)) → list ≡ d ∷ rest → typed_parameter t defined (plain_decl d) ≡ Good (plain_decl x)
        → typed_parameters s defined all ≡ behind_parts (map plain_decl done') (typed_parameters t' defined (map plain_decl rest))
    parameters_more all list d rest before is good =
        list_more plain_decl (λ y. y) (typed_parameters s defined all) (typed_parameters t defined (map plain_decl list)) done done' x (typed_parameter t defined (plain_decl d))
        (λ y. typed_parameters (with_parameter t y) defined (map plain_decl rest)) (plain_decl x) before (ap (λ ds. typed_parameters t defined (map plain_decl ds)) is) good refl more
        ∙ ap (λ u. behind_parts (map plain_decl done') (typed_parameters u defined (map plain_decl rest))) (sym now)

    pub parameters_seen : t ≡ with_parameters s (map plain_decl done) → t' ≡ with_parameters s (map plain_decl done')
    parameters_seen before =
        now ∙ ap (λ u. with_parameter u (plain_decl x)) before ∙ sym (with_parameters_snoc s (map plain_decl done) (plain_decl x))
        ∙ ap (with_parameters s) (sym (ap (map plain_decl) more ∙ map-append plain_decl done (x ∷ [])))
