-- What typing makes of the types in asserts, by computation: what is in front of an assert is in sight there, and what is behind it isn't.
use Rattle.std.proofs.Common.{◌≡◌, ℕ, List, [], ◌∷◌, Some, None, codes, refl}
use Rattle.c_syntax.specs.declared.place.Place.{Place}
use Rattle.c_syntax.specs.declared.annotation.Relation.TheVariants as relation
use Rattle.c_syntax.specs.declared.types.CInt.TheVariants.{I8}
use Rattle.c_syntax.specs.Ctypes.{PlainType, Int, Ptr, Array, StructTag, EnumTag, Written, int_type}
use Rattle.c_syntax.specs.Expressions.{Node, SizeOfType}
use Rattle.c_syntax.specs.Formulas as formula
use Rattle.c_syntax.specs.Formulas.{OfC, Form}
use Rattle.c_syntax.specs.Logic as logic
use Rattle.c_syntax.specs.Logic.{LogicTerm, ClauseBody, Raw, Holds}
use Rattle.c_syntax.specs.Statements.{Asserts}
use Rattle.c_syntax.specs.Programs.{StructMember, StructType, EnumType, TranslationUnit}
use Rattle.c_model.specs.Checked.{Good, refusing}
use Rattle.c_model.specs.AnnotationTyping.{noted_unit}
use Rattle.worked_rows.proofs.WorkedTrees.{place, no_range, literal, literal_term, related_terms, literal_form, related_forms, asserted, definition}
use Rattle.worked_rows.proofs.WorkedDeclarationTyping.{file}

abbrev an_int : Place → ℕ → ℕ → StructMember
an_int at name offset = record { place = at; name = name; ctype = int_type; offset = offset }

abbrev the_structs : List StructType
the_structs =
    record { place = place 1 8 7; tag = Some 0; members = an_int (place 1 20 19) 1 0 ∷ []; size = 4; align = 4 }
    ∷ record { place = place 6 8 113; tag = Some 5; members = an_int (place 6 19 124) 1 0 ∷ an_int (place 6 26 131) 6 4 ∷ []; size = 8; align = 4 }
    ∷ []

abbrev the_enums : List EnumType
the_enums =
    record { place = place 2 6 30; tag = Some 2; items = record { place = place 2 14 38; name = 3; value = Some (literal (place 2 20 44) 1) } ∷ [] }
    ∷ record { place = place 7 6 142; tag = Some 7; items = record { place = place 7 14 150; name = 8; value = None } ∷ [] }
    ∷ []

-- what is typed of this file, where X is a term:
--
--     struct early { int m; };
--     enum color { RED = 1 };
--     int main(void) {
--       //@ assert X == 4;
--     }
--     struct late { int m; int n; };
--     enum shade { PALE };
abbrev asserting : ClauseBody → TranslationUnit
asserting clause = file
    (codes "early" ∷ codes "m" ∷ codes "color" ∷ codes "RED" ∷ codes "main" ∷ codes "late" ∷ codes "n" ∷ codes "shade" ∷ codes "PALE" ∷ [])
    [] the_structs the_enums [] []
    (definition int_type (place 3 5 53) 4 [] (place 3 16 64) (place 5 1 104) (Asserts (asserted 1 (place 4 7 72) clause ∷ []) ∷ []) ∷ [])

abbrev with_form : Form → TranslationUnit
with_form x = asserting (Raw (related_forms (place 4 33 98) relation.Eq x (literal_form (place 4 36 101) 4)))

abbrev with_term : LogicTerm → TranslationUnit
with_term t = asserting (Holds (related_terms (place 4 33 98) relation.Eq t (literal_term (place 4 36 101) 4)))

-- `sizeof(T)`, and `(T)4`
abbrev sizes : PlainType → TranslationUnit
sizes t = with_form (formula.SizeOf (place 4 14 79) t)

abbrev casts : PlainType → TranslationUnit
casts t = with_form (formula.Cast (place 4 14 79) (OfC t) (literal_form (place 4 25 90) 4))

-- ---- enums

noted_unit-sizes_of_an_enum : noted_unit (sizes (EnumTag 2 (place 4 26 91))) ≡ Good (with_term (literal_term (place 4 14 79) 4))
noted_unit-sizes_of_an_enum = refl

noted_unit-casts_to_an_enum : noted_unit (casts (EnumTag 2 (place 4 26 91)))
    ≡ Good (with_term (logic.Cast (place 4 14 79) None no_range (OfC int_type) (literal_term (place 4 25 90) 4)))
noted_unit-casts_to_an_enum = refl

-- one that is defined behind the assert
noted_unit-sizes_of_a_later_enum : refusing (noted_unit (sizes (EnumTag 7 (place 4 26 91)))) ≡ Some (record { code = 5; place = place 4 26 91 })
noted_unit-sizes_of_a_later_enum = refl

-- ---- structs

noted_unit-sizes_of_a_struct : noted_unit (sizes (StructTag 0 (place 4 28 93))) ≡ Good (with_term (literal_term (place 4 14 79) 4))
noted_unit-sizes_of_a_struct = refl

noted_unit-sizes_of_a_pointer_to_a_later_struct : noted_unit (sizes (Ptr (StructTag 5 (place 4 28 93)))) ≡ Good (with_term (literal_term (place 4 14 79) 8))
noted_unit-sizes_of_a_pointer_to_a_later_struct = refl

-- an enum's tag
noted_unit-sizes_of_an_enum_as_a_struct : refusing (noted_unit (sizes (StructTag 2 (place 4 28 93)))) ≡ Some (record { code = 5; place = place 4 28 93 })
noted_unit-sizes_of_an_enum_as_a_struct = refl

-- one that is defined behind the assert, an array of it behind a pointer, and its size as a length
noted_unit-sizes_of_a_later_struct : refusing (noted_unit (sizes (StructTag 5 (place 4 28 93)))) ≡ Some (record { code = 5; place = place 4 14 79 })
noted_unit-sizes_of_a_later_struct = refl

noted_unit-sizes_of_a_pointer_to_an_array : refusing (noted_unit (sizes (Ptr (Array (StructTag 5 (place 4 28 93)) (Written (literal (place 4 40 105) 2)))))) ≡ Some (record { code = 5; place = place 4 14 79 })
noted_unit-sizes_of_a_pointer_to_an_array = refl

noted_unit-sizes_of_as_many_bytes : refusing (noted_unit (sizes (Array (Int I8) (Written (Node (place 4 26 91) int_type (SizeOfType (StructTag 5 (place 4 40 105)))))))) ≡ Some (record { code = 5; place = place 4 26 91 })
noted_unit-sizes_of_as_many_bytes = refl
