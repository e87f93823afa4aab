-- Ours: the typing of cases (C99 6.8.4.2) where a test tells the values of those before, in place of their list.
use Rattle.std.specs.Prelude.{ℤ, Bool, true, false, not, ◌||◌, Option, Some, None}
use Rattle.std.specs.Ordering.{int_eq}
use Rattle.c_syntax.specs.declared.place.Place.{Place}
use Rattle.c_syntax.specs.declared.types.CInt.{CInt}
use Rattle.c_syntax.specs.Expressions.{Expression, Node, Number, place_of}
use Rattle.c_syntax.specs.Statements.{BlockItems, Cases, NoCase, AnotherCase}
use Rattle.c_model.specs.Checked.{Checked, Good, one_part, given, where_so}
use Rattle.c_model.specs.Integers.{convert}
use Rattle.c_model.specs.ExpressionTyping.{Sight, no_type, constant, decayed_of, typed}
use Rattle.c_model.specs.StatementTyping.{Around, case_number, typed_items}

abbrev pub with_value : ℤ → (ℤ → Bool) → ℤ → Bool
with_value z has x = int_eq x z || has x

-- a constant, converted to the type, which no case before has
abbrev pub new_value : CInt → (ℤ → Bool) → Place → Option ℤ → Checked ℤ
new_value k has at value = given value (no_type at) (λ z. where_so (not (has (convert k z))) (no_type at) (Good (convert k z)))

-- the value of a case, and the number that takes its place
abbrev pub case_value_by : Sight → CInt → (ℤ → Bool) → Expression → Checked (ℤ × Expression)
case_value_by s k has e =
    one_part (decayed_of (typed s e)) (λ x. one_part (new_value k has (place_of e) (constant s x)) (λ z. Good (z, case_number k (place_of e) z)))

abbrev pub only_default : Bool → Place → Checked (Unit {0})
only_default has_default at = where_so (not has_default) (no_type at) (Good tt)

-- what stands behind the word of a case
abbrev pub typed_label : Sight → CInt → (ℤ → Bool) → Bool → Place → Option Expression → Checked (Option Expression)
typed_label s k has has_default at None = one_part (only_default has_default at) (λ _. Good None)
typed_label s k has has_default at (Some e) = one_part (case_value_by s k has e) (λ x. Good (Some x.1))

-- the values of the cases up to one, by what stands behind its word
abbrev pub with_label : Option Expression → (ℤ → Bool) → ℤ → Bool
with_label (Some (Node at t (Number z k))) has = with_value z has
with_label _ has = has

abbrev pub is_default : Option Expression → Bool
is_default None = true
is_default (Some e) = false

-- a case after those of these values and perhaps a `default`
abbrev pub typed_case : Sight → Around → CInt → (ℤ → Bool) → Bool → Place → Option Expression → BlockItems → Checked (Option Expression × BlockItems)
typed_case s r k has has_default at v items =
    one_part (typed_label s k has has_default at v) (λ v. one_part (typed_items s r items) (λ items. Good (v, items)))

-- cases in their order
abbrev pub typed_cases_by : Sight → Around → CInt → (ℤ → Bool) → Bool → Cases → Checked Cases
typed_cases_by s r k has has_default NoCase = Good NoCase
typed_cases_by s r k has has_default (AnotherCase at v items rest) =
    one_part (typed_case s r k has has_default at v items) (λ x.
    one_part (typed_cases_by s r k (with_label x.0 has) (is_default x.0 || has_default) rest) (λ rest. Good (AnotherCase at x.0 x.1 rest)))
