-- Cases of a `switch`, whose values a test tells.
use Rattle.std.proofs.Common.{◌≡◌, ℤ, List, [], ◌∷◌, ◌++◌, Bool, true, false, not, ◌||◌, Option, Some, None, option_map, refl, sym, ap, ◌∙◌, subst, Err}
use Rattle.c_syntax.specs.declared.types.CInt.{CInt}
use Rattle.c_syntax.specs.declared.statement.Case.{Case}
use Rattle.c_syntax.specs.Expressions.{Expression, place_of, plain_expr}
use Rattle.c_syntax.specs.Statements.{BlockItems, Cases, NoCase, AnotherCase, plain_cases, plain_items}
use Rattle.c_model.specs.Checked.{Checked, Good, Bad, one_part, given, where_so}
use Rattle.c_model.specs.Integers.{convert}
use Rattle.c_model.specs.ExpressionTyping.{Sight, no_type, constant, decayed_of, typed}
use Rattle.c_model.specs.StatementTyping.{Around, case_number, is_used, typed_cases, typed_items}
use Rattle.c_scopes.specs.declared.fault.TypeFault.{TypeFault}
use Rattle.c_scopes.specs.Answers.{Answers}
use Rattle.c_scopes.proofs.Least.{one_refused}
use Rattle.c_scopes.proofs.CaseLists.{append_cases, behind_cases, cases_in_front, plain_case_snoc}
use Rattle.c_function_rules.specs.Cases.{case_value_by, is_default, new_value, typed_case, typed_cases_by, with_label}

-- ---- the values of cases as a test

module _ (number : ℤ → Expression) (t : Checked BlockItems) (F : Option Expression × BlockItems → Checked Cases) (G : ℤ → BlockItems → Checked Cases) (same : (z : ℤ) (js : BlockItems) → F (Some (number z), js) ≡ G z js)
  where
    valued : (m : Checked ℤ)
        → one_part {A = Option Expression × BlockItems} (one_part {A = Option Expression} (one_part {A = ℤ × Expression} (one_part m (λ z. Good (z, number z))) (λ x. Good (Some x.1))) (λ v. one_part t (λ items. Good (v, items)))) F
        ≡ one_part m (λ z. one_part t (λ items. G z items))
    valued (Good z) = by t
      where
        by : (t : Checked BlockItems) → one_part {A = Option Expression × BlockItems} (one_part t (λ items. Good (Some (number z), items))) F ≡ one_part t (λ items. G z items)
        by (Good js) = same z js
        by (Bad f fs) = refl
    valued (Bad f fs) = refl

    typed_value : (c : Checked Expression) (m : Expression → Checked ℤ)
        → one_part {A = Option Expression × BlockItems} (one_part {A = Option Expression} (one_part {A = ℤ × Expression} (one_part c (λ x. one_part (m x) (λ z. Good (z, number z)))) (λ x. Good (Some x.1))) (λ v.
        one_part t (λ items. Good (v, items)))) F
        ≡ one_part (one_part c m) (λ z. one_part t (λ items. G z items))
    typed_value (Good x) m = valued (m x)
    typed_value (Bad f fs) m = refl

behind_none : (c : Checked Cases) → c ≡ behind_cases NoCase c
behind_none (Good cs) = refl
behind_none (Bad f fs) = refl

module _ (s : Sight) (k : CInt) (has : ℤ → Bool) (e x : Expression) (good : decayed_of (typed s e) ≡ Good x)
  where
    -- a constant that a case may not have refuses its value
    pub value_refused : {S : Type 0} (q : S → ℤ × Expression) (h : TypeFault) → Answers (λ (z : ℤ). z) (new_value k has (place_of e) (constant s x)) (Err h) → Answers q (case_value_by s k has e) (Err h)
    value_refused q h bad =
        subst (λ m. Answers q (one_part m (λ x. one_part (new_value k has (place_of e) (constant s x)) (λ z. Good (z, case_number k (place_of e) z)))) (Err h)) (sym good)
        (one_refused (λ z. Good (z, case_number k (place_of e) z)) (λ (z : ℤ). z) q (new_value k has (place_of e) (constant s x)) h bad)

module _ (s : Sight) (r : Around) (k : CInt)
  where
    cases_same : (used : List ℤ) (d : Bool) (cases : Cases) → typed_cases_by s r k (λ z. is_used z used) d cases ≡ typed_cases s r k used d cases
    cases_same used d NoCase = refl
    cases_same used true (AnotherCase at None items rest) = refl
    cases_same used false (AnotherCase at None items rest) = by (typed_items s r items) (cases_same used true rest)
      where
        by : (t : Checked BlockItems) → typed_cases_by s r k (λ z. is_used z used) true rest ≡ typed_cases s r k used true rest
            → one_part {A = Option Expression × BlockItems} (one_part t (λ items. Good (None, items)))
            (λ x. one_part (typed_cases_by s r k (with_label x.0 (λ z. is_used z used)) (is_default x.0 || false) rest) (λ rest. Good (AnotherCase at x.0 x.1 rest)))
            ≡ one_part t (λ items. one_part (typed_cases s r k used true rest) (λ rest. Good (AnotherCase at None items rest)))
        by (Good js) same = ap (λ c. one_part c (λ rest. Good (AnotherCase at None js rest))) same
        by (Bad f fs) same = refl
    cases_same used d (AnotherCase at (Some e) items rest) =
        typed_value (case_number k (place_of e)) (typed_items s r items)
        (λ x. one_part (typed_cases_by s r k (with_label x.0 (λ z. is_used z used)) (is_default x.0 || d) rest) (λ rest. Good (AnotherCase at x.0 x.1 rest)))
        (λ z items. one_part (typed_cases s r k (z ∷ used) d rest) (λ rest. Good (AnotherCase at (Some (case_number k (place_of e) z)) items rest)))
        (λ z js. ap (λ c. one_part c (λ rest. Good (AnotherCase at (Some (case_number k (place_of e) z)) js rest))) (cases_same (z ∷ used) d rest))
        (decayed_of (typed s e))
        (λ x. given (constant s x) (no_type (place_of e)) (λ z. where_so (not (is_used (convert k z) used)) (no_type (place_of e)) (Good (convert k z))))

    -- cases by a test that tells the values before them
    pub cases_by : (has : ℤ → Bool) (used : List ℤ) (d : Bool) (cases : Cases) → ((z : ℤ) → has z ≡ is_used z used) → typed_cases_by s r k has d cases ≡ typed_cases s r k used d cases
    cases_by has used d cases h = (λ i. typed_cases_by s r k (λ z. h z i) d cases) ∙ cases_same used d cases

    -- before the first case
    pub cases_start : (has : ℤ → Bool) (d : Bool) (cases : Cases) → ((z : ℤ) → has z ≡ false) → d ≡ false → typed_cases s r k [] false cases ≡ behind_cases NoCase (typed_cases_by s r k has d cases)
    cases_start has d cases h e = sym (cases_by has [] false cases h) ∙ ap (λ d. typed_cases_by s r k has d cases) (sym e) ∙ behind_none (typed_cases_by s r k has d cases)

    -- ---- one more case is typed

    module _ (whole : Checked Cases) (has new : ℤ → Bool) (d e : Bool) (done more list rest : List Case) (c x : Case)
      where
        abbrev value : Option Expression
        value = option_map plain_expr x.value

        abbrev items : BlockItems
        items = plain_items x.items.items

        pub case_more : whole ≡ behind_cases (plain_cases done) (typed_cases_by s r k has d (plain_cases list)) → list ≡ c ∷ rest → x.place ≡ c.place
            → typed_case s r k has d c.place (option_map plain_expr c.value) (plain_items c.items.items) ≡ Good (value, items) → ((z : ℤ) → new z ≡ with_label value has z) → e ≡ (is_default value || d) → more ≡ done ++ x ∷ []
            → whole ≡ behind_cases (plain_cases more) (typed_cases_by s r k new e (plain_cases rest))
        case_more before is at good values default seen =
            let later : Option Expression × BlockItems → Checked Cases = λ y. one_part (typed_cases_by s r k (with_label y.0 has) (is_default y.0 || d) (plain_cases rest)) (λ cs. Good (AnotherCase c.place y.0 y.1 cs)) in
            before ∙ ap (λ l. behind_cases (plain_cases done) (typed_cases_by s r k has d (plain_cases l))) is
            ∙ ap (λ m. behind_cases (plain_cases done) (one_part m later)) good
            ∙ cases_in_front (plain_cases done) c.place value items (typed_cases_by s r k (with_label value has) (is_default value || d) (plain_cases rest))
            ∙ ap (λ p. behind_cases (append_cases (plain_cases done) (AnotherCase p value items NoCase)) (typed_cases_by s r k (with_label value has) (is_default value || d) (plain_cases rest))) (sym at)
            ∙ ap (λ cs. behind_cases cs (typed_cases_by s r k (with_label value has) (is_default value || d) (plain_cases rest))) (sym (ap plain_cases seen ∙ plain_case_snoc done x))
            ∙ (λ i. behind_cases (plain_cases more) (typed_cases_by s r k (λ z. sym (values z) i) (sym default i) (plain_cases rest)))

        -- the next case is refused
        pub case_refused : {S T : Type 0} (p : T → Option Expression × BlockItems) (q : S → Cases) (h : TypeFault) → whole ≡ behind_cases (plain_cases done) (typed_cases_by s r k has d (plain_cases list)) → list ≡ c ∷ rest
            → Answers p (typed_case s r k has d c.place (option_map plain_expr c.value) (plain_items c.items.items)) (Err h) → Answers q whole (Err h)
        case_refused p q h before is bad =
            let later : Option Expression × BlockItems → Checked Cases = λ y. one_part (typed_cases_by s r k (with_label y.0 has) (is_default y.0 || d) (plain_cases rest)) (λ cs. Good (AnotherCase c.place y.0 y.1 cs)) in
            let m = typed_case s r k has d c.place (option_map plain_expr c.value) (plain_items c.items.items) in
            subst (λ w. Answers q w (Err h)) (sym (before ∙ ap (λ l. behind_cases (plain_cases done) (typed_cases_by s r k has d (plain_cases l))) is))
            (one_refused (λ cs. Good (append_cases (plain_cases done) cs)) q q (one_part m later) h (one_refused later p q m h bad))
