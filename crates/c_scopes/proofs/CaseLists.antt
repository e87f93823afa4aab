-- The cases of a `switch`, one after another.
use Rattle.std.proofs.Common.{◌≡◌, List, [], ◌∷◌, ◌++◌, Option, option_map, refl, sym, ap, ◌∙◌}
use Rattle.c_syntax.specs.declared.place.Place.{Place}
use Rattle.c_syntax.specs.declared.statement.Case.{Case}
use Rattle.c_syntax.specs.Expressions.{Expression, plain_expr}
use Rattle.c_syntax.specs.Statements.{BlockItems, Cases, NoCase, AnotherCase, plain_cases, plain_items}
use Rattle.c_model.specs.Checked.{Checked, Good, Bad, one_part}

abbrev pub append_cases : Cases → Cases → Cases
append_cases NoCase cs = cs
append_cases (AnotherCase at v items rest) cs = AnotherCase at v items (append_cases rest cs)

append_no_case : (cs : Cases) → append_cases cs NoCase ≡ cs
append_no_case NoCase = refl
append_no_case (AnotherCase at v items rest) = ap (AnotherCase at v items) (append_no_case rest)

append_in_turn : (front bs cs : Cases) → append_cases (append_cases front bs) cs ≡ append_cases front (append_cases bs cs)
append_in_turn NoCase bs cs = refl
append_in_turn (AnotherCase at v items rest) bs cs = ap (AnotherCase at v items) (append_in_turn rest bs cs)

-- cases before those that are checked
abbrev pub behind_cases : Cases → Checked Cases → Checked Cases
behind_cases done c = one_part c (λ rest. Good (append_cases done rest))

pub all_cases : (done : Cases) → behind_cases done (Good NoCase) ≡ Good done
all_cases done = ap Good (append_no_case done)

pub plain_case_snoc : (xs : List Case) (x : Case) → plain_cases (xs ++ x ∷ []) ≡ append_cases (plain_cases xs) (AnotherCase x.place (option_map plain_expr x.value) (plain_items x.items.items) NoCase)
plain_case_snoc [] x = refl
plain_case_snoc (y ∷ ys) x = ap (AnotherCase y.place (option_map plain_expr y.value) (plain_items y.items.items)) (plain_case_snoc ys x)

pub cases_in_front : (done : Cases) (at : Place) (v : Option Expression) (items : BlockItems) (c : Checked Cases)
    → behind_cases done (one_part c (λ rest. Good (AnotherCase at v items rest))) ≡ behind_cases (append_cases done (AnotherCase at v items NoCase)) c
cases_in_front done at v items (Good rest) = ap Good (sym (append_in_turn done (AnotherCase at v items NoCase) rest))
cases_in_front done at v items (Bad f fs) = refl

-- one more case is there, of which only the items were checked
pub cases_more : (whole c : Checked Cases) (done more : List Case) (x : Case) (at : Place) (v : Option Expression) (m : Checked BlockItems) (rest : Checked Cases) → whole ≡ behind_cases (plain_cases done) c
    → c ≡ one_part m (λ items. one_part rest (λ cs. Good (AnotherCase at v items cs))) → m ≡ Good (plain_items x.items.items) → x.place ≡ at → option_map plain_expr x.value ≡ v → more ≡ done ++ x ∷ [] → whole ≡ behind_cases (plain_cases more) rest
cases_more whole c done more x at v m rest before is good same value seen =
    before ∙ ap (behind_cases (plain_cases done)) is
    ∙ ap (λ n. behind_cases (plain_cases done) (one_part n (λ items. one_part rest (λ cs. Good (AnotherCase at v items cs))))) good
    ∙ cases_in_front (plain_cases done) at v (plain_items x.items.items) rest
    ∙ (λ i. behind_cases (append_cases (plain_cases done) (AnotherCase (sym same i) (sym value i) (plain_items x.items.items) NoCase)) rest)
    ∙ ap (λ cs. behind_cases cs rest) (sym (ap plain_cases seen ∙ plain_case_snoc done x))

-- the last one is there
pub cases_done : (whole : Checked Cases) (done : Cases) (c : Checked Cases) → whole ≡ behind_cases done c → c ≡ Good NoCase → whole ≡ Good done
cases_done whole done c before none = before ∙ ap (behind_cases done) none ∙ all_cases done
