-- What typing makes of asserts in files with pointers, arrays, structs and enums, by computation: the tree, or the fault that refuses.
use Rattle.std.proofs.Common.{◌≡◌, ℕ, true, List, [], ◌∷◌, Some, None, codes, refl}
use Rattle.c_syntax.specs.declared.types.CInt.TheVariants.{I8}
use Rattle.c_syntax.specs.declared.annotation.Relation.TheVariants as relation
use Rattle.c_syntax.specs.Ctypes.{PlainType, Int, Ptr, Array, Struct, Count, int_type}
use Rattle.c_syntax.specs.Logic.{LogicTerm, Variable, ClauseBody, Raw, Holds}
use Rattle.c_syntax.specs.Statements.{Declaration, BlockItem, Declare, Asserts}
use Rattle.c_syntax.specs.Programs.{StructType, TranslationUnit}
use Rattle.c_model.specs.Library.{library_constant}
use Rattle.c_model.specs.Checked.{Good, refusing}
use Rattle.c_model.specs.AnnotationTyping.{noted_unit}
use Rattle.worked_rows.proofs.WorkedTrees.{place, no_range, literal, literal_term, variable_term, related_terms, literal_form, name_form, related_forms, asserted, definition}
use Rattle.worked_rows.proofs.WorkedDeclarationTyping.{file}

abbrev variable_of : PlainType → ℕ → ℕ → ℕ → ℕ → Declaration
variable_of t name line column offset = record { place = place line column offset; name = name; named = true; ctype = t; init = None }

abbrev a_struct : StructType
a_struct = record {
  place = place 1 8 7;
  tag = Some 7;
  members = record { place = place 1 16 15; name = 6; ctype = int_type; offset = 0 } ∷ [];
  size = 4;
  align = 4;
}

-- what is typed of this file, with an assert behind some declarations:
--
--     struct s { int m; };
--     enum { N = 3 };
--     int *p;
--     int n;
--     int a[2];
--     struct s v;
--     char c;
--     int main(void) {
--       //@ assert X == 1;
--     }
--     int late;
abbrev asserts : List BlockItem → ClauseBody → TranslationUnit
asserts items clause = file
    (codes "N" ∷ codes "p" ∷ codes "n" ∷ codes "a" ∷ codes "v" ∷ codes "main" ∷ codes "m" ∷ codes "s" ∷ codes "INT_MAX" ∷ codes "late" ∷ codes "c" ∷ codes "NULL" ∷ [])
    [] (a_struct ∷ [])
    (record { place = place 2 1 21; tag = None; items = record { place = place 2 8 28; name = 0; value = Some (literal (place 2 12 32) 3) } ∷ [] } ∷ [])
    [] (variable_of (Ptr int_type) 1 3 6 42 ∷ variable_of int_type 2 4 5 49 ∷ variable_of (Array int_type (Count 2)) 3 5 5 56 ∷ variable_of (Struct 0) 4 6 10 71
    ∷ variable_of (Int I8) 10 7 6 79 ∷ variable_of int_type 9 11 5 126 ∷ [])
    (definition int_type (place 8 5 86) 5 [] (place 8 16 97) (place 10 1 120) (behind items) ∷ [])
  where
    behind : List BlockItem → List BlockItem
    behind [] = Asserts (asserted 1 (place 9 7 105) clause ∷ []) ∷ []
    behind (i ∷ is) = i ∷ behind is

-- `X == 1` with this name as it is read, and with this term
abbrev name_read : ℕ → ClauseBody
name_read name = Raw (related_forms (place 9 16 114) relation.Eq (name_form (place 9 14 112) name) (literal_form (place 9 19 117) 1))

abbrev term_typed : LogicTerm → ClauseBody
term_typed t = Holds (related_terms (place 9 16 114) relation.Eq t (literal_term (place 9 19 117) 1))

abbrev asserts_of : ℕ → TranslationUnit
asserts_of name = asserts [] (name_read name)

-- an object
noted_unit-asserts_of_n : noted_unit (asserts_of 2) ≡ Good (asserts [] (term_typed (variable_term (place 9 14 112) 2 49)))
noted_unit-asserts_of_n = refl

noted_unit-asserts_of_c : noted_unit (asserts_of 10) ≡ Good (asserts [] (term_typed (Variable (place 9 14 112) (Some (Int I8)) no_range (record { name = 10; decl = 79 }))))
noted_unit-asserts_of_c = refl

-- an enumerator, in whose place its value stands
noted_unit-asserts_of_an_enumerator : noted_unit (asserts_of 0) ≡ Good (asserts [] (term_typed (literal_term (place 9 14 112) 3)))
noted_unit-asserts_of_an_enumerator = refl

-- a constant of the library
noted_unit-asserts_of_a_constant : noted_unit (asserts_of 8) ≡ Good (asserts [] (term_typed (literal_term (place 9 14 112) 2147483647)))
unfolding library_constant
noted_unit-asserts_of_a_constant = refl

-- `int N;` behind the `{` hides the enumerator; the other places are kept
noted_unit-asserts_of_a_hiding : noted_unit (asserts (Declare (variable_of int_type 0 8 22 103 ∷ []) ∷ []) (name_read 0))
    ≡ Good (asserts (Declare (variable_of int_type 0 8 22 103 ∷ []) ∷ []) (term_typed (variable_term (place 9 14 112) 0 103)))
noted_unit-asserts_of_a_hiding = refl

-- ---- refused

-- a pointer and an array beside 1, at the relation, and a struct at its own place
noted_unit-asserts_of_a_pointer : refusing (noted_unit (asserts_of 1)) ≡ Some (record { code = 6; place = place 9 16 114 })
noted_unit-asserts_of_a_pointer = refl

noted_unit-asserts_of_an_array : refusing (noted_unit (asserts_of 3)) ≡ Some (record { code = 6; place = place 9 16 114 })
noted_unit-asserts_of_an_array = refl

noted_unit-asserts_of_a_struct : refusing (noted_unit (asserts_of 4)) ≡ Some (record { code = 6; place = place 9 14 112 })
noted_unit-asserts_of_a_struct = refl

-- `NULL` beside 1
noted_unit-asserts_of_null : refusing (noted_unit (asserts_of 11)) ≡ Some (record { code = 6; place = place 9 16 114 })
unfolding library_constant
noted_unit-asserts_of_null = refl

-- a function, a member, and an object that is declared behind the assert
noted_unit-asserts_of_a_function : refusing (noted_unit (asserts_of 5)) ≡ Some (record { code = 5; place = place 9 14 112 })
unfolding library_constant
noted_unit-asserts_of_a_function = refl

noted_unit-asserts_of_a_member : refusing (noted_unit (asserts_of 6)) ≡ Some (record { code = 5; place = place 9 14 112 })
unfolding library_constant
noted_unit-asserts_of_a_member = refl

noted_unit-asserts_of_a_later_one : refusing (noted_unit (asserts_of 9)) ≡ Some (record { code = 5; place = place 9 14 112 })
unfolding library_constant
noted_unit-asserts_of_a_later_one = refl
