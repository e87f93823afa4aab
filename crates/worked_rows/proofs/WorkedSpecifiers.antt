-- Declarations without declarators (C99 6.7 p2, 6.7.2.3), by computation: they stay as they are typed, or the code and the place of the fault.
use Rattle.std.proofs.Common.{◌≡◌, ℕ, suc, List, [], ◌∷◌, Some, None, codes, refl}
use Rattle.c_syntax.specs.declared.place.Place.{Place}
use Rattle.c_syntax.specs.Ctypes.{PlainType, Struct, StructTag, EnumTag, int_type}
use Rattle.c_syntax.specs.Statements.{BlockItem, Specify, Run, First, For, Empty}
use Rattle.c_syntax.specs.Programs.{StructType, EnumType, TranslationUnit}
use Rattle.c_model.specs.Library.{library_constant, is_library_name}
use Rattle.c_model.specs.Checked.{Good, refusing}
use Rattle.c_model.specs.DeclarationGrammar.{nameless}
use Rattle.c_model.specs.UnitTyping.{typed_unit}
use Rattle.worked_rows.proofs.WorkedTrees.{place, definition}
use Rattle.worked_rows.proofs.WorkedDeclarationTyping.{file}

abbrev at : ℕ → Place
at offset = place 1 (suc offset) offset

-- ---- at file scope

-- the first name is a tag; a struct of one member n, and an enum of one enumerator A
abbrev declares : List StructType → List EnumType → PlainType → ℕ → TranslationUnit
declares structs enums t offset = file (codes "u" ∷ codes "n" ∷ codes "A" ∷ []) [] structs enums (nameless t (at offset) ∷ []) [] []

abbrev a_struct : ℕ → ℕ → StructType
a_struct tag member = record { place = at tag; tag = Some 0; members = record { place = at member; name = 1; ctype = int_type; offset = 0 } ∷ []; size = 4; align = 4 }

abbrev an_enum : ℕ → ℕ → EnumType
an_enum tag item = record { place = at tag; tag = Some 0; items = record { place = at item; name = 2; value = None } ∷ [] }

--     struct u;
typed_unit-struct_of_no_definition : typed_unit (declares [] [] (StructTag 0 (at 7)) 8) ≡ Good (declares [] [] (Struct 0) 8)
typed_unit-struct_of_no_definition = refl

--     struct u; struct u { int n; };
typed_unit-struct_before_its_definition : typed_unit (declares (a_struct 17 25 ∷ []) [] (StructTag 0 (at 7)) 8) ≡ Good (declares (a_struct 17 25 ∷ []) [] (Struct 0) 8)
unfolding library_constant is_library_name
typed_unit-struct_before_its_definition = refl

--     struct u; enum u { A };
typed_unit-struct_of_an_enum : refusing (typed_unit (declares [] (an_enum 15 19 ∷ []) (StructTag 0 (at 7)) 8)) ≡ Some (record { code = 5; place = at 7 })
unfolding library_constant is_library_name
typed_unit-struct_of_an_enum = refl

--     struct u { int n; }; enum u;
typed_unit-enum_of_a_struct : refusing (typed_unit (declares (a_struct 7 15 ∷ []) [] (EnumTag 0 (at 26)) 27)) ≡ Some (record { code = 5; place = at 26 })
unfolding library_constant is_library_name
typed_unit-enum_of_a_struct = refl

--     enum u;
typed_unit-enum_of_no_definition : refusing (typed_unit (declares [] [] (EnumTag 0 (at 5)) 6)) ≡ Some (record { code = 5; place = at 5 })
typed_unit-enum_of_no_definition = refl

--     enum u; enum u { A };
typed_unit-enum_before_its_definition : refusing (typed_unit (declares [] (an_enum 13 17 ∷ []) (EnumTag 0 (at 5)) 6)) ≡ Some (record { code = 5; place = at 5 })
unfolding library_constant is_library_name
typed_unit-enum_before_its_definition = refl

--     enum u { A }; enum u;
typed_unit-enum_behind_its_definition : typed_unit (declares [] (an_enum 5 9 ∷ []) (EnumTag 0 (at 19)) 20) ≡ Good (declares [] (an_enum 5 9 ∷ []) int_type 20)
unfolding library_constant is_library_name
typed_unit-enum_behind_its_definition = refl

-- ---- in a block, and in the header of a `for`

abbrev runs : BlockItem → TranslationUnit
runs i = file (codes "main" ∷ codes "u" ∷ []) [] [] [] [] [] (definition int_type (at 4) 0 [] (at 15) (at 40) (i ∷ []) ∷ [])

abbrev loops : BlockItem → TranslationUnit
loops i = runs (Run (For (at 17) [] (First i) None None (Empty (at 37))))

--     int main(void) { struct u; }
typed_unit-struct_in_a_block : typed_unit (runs (Specify (at 25) (StructTag 1 (at 24)))) ≡ Good (runs (Specify (at 25) (Struct 1)))
unfolding library_constant is_library_name
typed_unit-struct_in_a_block = refl

--     int main(void) { enum u; }
typed_unit-enum_in_a_block : refusing (typed_unit (runs (Specify (at 23) (EnumTag 1 (at 22))))) ≡ Some (record { code = 5; place = at 22 })
unfolding library_constant is_library_name
typed_unit-enum_in_a_block = refl

--     int main(void) { for (struct u;;) ; }
typed_unit-struct_in_a_header : typed_unit (loops (Specify (at 30) (StructTag 1 (at 29)))) ≡ Good (loops (Specify (at 30) (Struct 1)))
unfolding library_constant is_library_name
typed_unit-struct_in_a_header = refl

--     int main(void) { for (enum u;;) ; }
typed_unit-enum_in_a_header : refusing (typed_unit (loops (Specify (at 28) (EnumTag 1 (at 27))))) ≡ Some (record { code = 5; place = at 27 })
unfolding library_constant is_library_name
typed_unit-enum_in_a_header = refl
