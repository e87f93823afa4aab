-- Enumerators, one after another.
use Rattle.std.proofs.Common.{◌≡◌, ℤ, pos, ◌+ℤ◌, List, [], ◌∷◌, ◌++◌, refl, sym, ap, ◌∙◌, subst, map, append_assoc, Option, Err}
use Rattle.std.proofs.lemmas.List.{map-append}
use Rattle.c_syntax.specs.declared.program.Enumerator.{Enumerator}
use Rattle.c_syntax.specs.Expressions.{Expression}
use Rattle.c_syntax.specs.Programs.{EnumConstant, plain_enumerator}
use Rattle.c_model.specs.Checked.{Checked, Good, Bad, both_parts, one_part}
use Rattle.c_model.specs.ExpressionTyping.{Sight}
use Rattle.c_model.specs.DeclarationTyping.{is_declared_in_file, own_name, typed_enumerators, typed_value, with_enumerator}
use Rattle.c_scopes.specs.declared.fault.TypeFault.{TypeFault}
use Rattle.c_scopes.specs.Answers.{Answers}
use Rattle.c_scopes.proofs.Least.{one_refused}
use Rattle.c_declaration_rules.specs.Enumerators.{behind_enumerators, enumerator_typed}

-- the enumerators behind the first
abbrev more : Sight → EnumConstant → List EnumConstant → ℤ × EnumConstant → Checked (Sight × List EnumConstant)
more s e es w = one_part (typed_enumerators (with_enumerator s e.name w.0) (w.0 +ℤ pos 1) es) (λ p. Good (p.0, w.1 ∷ p.1))

first_is : (s : Sight) (next : ℤ) (e : EnumConstant) (es : List EnumConstant) → typed_enumerators s next (e ∷ es) ≡ one_part (enumerator_typed s next e) (more s e es)
first_is s next e es = by (own_name s (is_declared_in_file s e.name) e.place e.name) (typed_value s e.place next e.value)
  where
    by : (m : Checked (Unit {0})) (n : Checked (ℤ × Option Expression))
        → one_part (both_parts m n (λ n v. Good v)) (λ v. one_part (typed_enumerators (with_enumerator s e.name v.0) (v.0 +ℤ pos 1) es) (λ p. Good (p.0, record e { value = v.1 } ∷ p.1)))
        ≡ one_part (both_parts m n (λ n v. Good (v.0, record e { value = v.1 }))) (more s e es)
    by (Good u) (Good v) = refl
    by (Good u) (Bad g gs) = refl
    by (Bad f fs) (Good v) = refl
    by (Bad f fs) (Bad g gs) = refl

one_more : (done : List EnumConstant) (x : EnumConstant) (c : Checked (Sight × List EnumConstant)) → behind_enumerators done (one_part c (λ p. Good (p.0, x ∷ p.1))) ≡ behind_enumerators (done ++ x ∷ []) c
one_more done x (Good p) = ap (λ l. Good (p.0, l)) (sym (append_assoc done (x ∷ []) p.1))
one_more done x (Bad f fs) = refl

module _ (s t : Sight) (next : ℤ) (all : List EnumConstant) (done : List Enumerator) (list : List Enumerator) (e : Enumerator) (rest : List Enumerator)
    (before : typed_enumerators s (pos 0) all ≡ behind_enumerators (map plain_enumerator done) (typed_enumerators t next (map plain_enumerator list))) (is : list ≡ e ∷ rest)
  where
    now : typed_enumerators s (pos 0) all ≡ behind_enumerators (map plain_enumerator done) (one_part (enumerator_typed t next (plain_enumerator e)) (more t (plain_enumerator e) (map plain_enumerator rest)))
    now = before ∙ ap (λ l. behind_enumerators (map plain_enumerator done) (typed_enumerators t next (map plain_enumerator l))) is
        ∙ ap (behind_enumerators (map plain_enumerator done)) (first_is t next (plain_enumerator e) (map plain_enumerator rest))

    -- one more enumerator is typed
    pub enumerators_more : (x : Enumerator) (z next' : ℤ) (t' : Sight) (done' : List Enumerator) → enumerator_typed t next (plain_enumerator e) ≡ Good (z, plain_enumerator x) → t' ≡ with_enumerator t e.name z
        → next' ≡ z +ℤ pos 1 → done' ≡ done ++ x ∷ []
        → typed_enumerators s (pos 0) all ≡ behind_enumerators (map plain_enumerator done') (typed_enumerators t' next' (map plain_enumerator rest))
    enumerators_more x z next' t' done' good sight number made =
        now ∙ ap (λ c. behind_enumerators (map plain_enumerator done) (one_part c (more t (plain_enumerator e) (map plain_enumerator rest)))) good
        ∙ one_more (map plain_enumerator done) (plain_enumerator x) (typed_enumerators (with_enumerator t e.name z) (z +ℤ pos 1) (map plain_enumerator rest))
        ∙ ap (λ l. behind_enumerators l (typed_enumerators (with_enumerator t e.name z) (z +ℤ pos 1) (map plain_enumerator rest))) (sym (ap (map plain_enumerator) made ∙ map-append plain_enumerator done (x ∷ [])))
        ∙ ap (λ u. behind_enumerators (map plain_enumerator done') (typed_enumerators u (z +ℤ pos 1) (map plain_enumerator rest))) (sym sight)
        ∙ ap (λ n. behind_enumerators (map plain_enumerator done') (typed_enumerators t' n (map plain_enumerator rest))) (sym number)

    -- an enumerator that is refused
    pub enumerators_refused : {S T : Type 0} (p : T → ℤ × EnumConstant) (q : S → Sight × List EnumConstant) (h : TypeFault) → Answers p (enumerator_typed t next (plain_enumerator e)) (Err h) → Answers q (typed_enumerators s (pos 0) all) (Err h)
    enumerators_refused p q h bad =
        subst (λ c. Answers q c (Err h)) (sym now)
        (one_refused (λ (r : Sight × List EnumConstant). Good (r.0, map plain_enumerator done ++ r.1)) q q (one_part (enumerator_typed t next (plain_enumerator e)) (more t (plain_enumerator e) (map plain_enumerator rest))) h
        (one_refused (more t (plain_enumerator e) (map plain_enumerator rest)) p q (enumerator_typed t next (plain_enumerator e)) h bad))
