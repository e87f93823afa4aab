-- Names that a file declares (C99 6.2.1, 6.2.3, 6.7 p3, 6.7.2.3, 7.1.3), by computation: each once among its kind, and none of the library's, or the code
-- and the place of the fault. Declarations stand at 10, 20, .., in the order of the text.
use Rattle.std.proofs.Common.{◌≡◌, ℕ, suc, true, List, [], ◌∷◌, map, Option, Some, None, codes, refl, replicate}
use Rattle.c_syntax.specs.Ctypes.{PlainType, Void, Ptr, Array, Struct, StructTag, Left, Count}
use Rattle.c_syntax.specs.Statements.{Declaration}
use Rattle.c_syntax.specs.Programs.{StructType, EnumConstant, EnumType, Function, TranslationUnit}
use Rattle.c_model.specs.Checked.{Fault, refusing}
use Rattle.c_model.specs.Library.{library_constant, is_library_name}
use Rattle.c_model.specs.UnitTyping.{typed_unit}
use Rattle.worked_rows.proofs.WorkedTrees.{prototype, unit_of}
use Rattle.worked_rows.proofs.WorkedSight.{at, int, char}

-- n, o, t, EOF, putchar, size_t
abbrev declares : List StructType → List EnumType → List Declaration → List Declaration → List Function → TranslationUnit
declares structs enums typedefs globals fs = record (unit_of (codes "n" ∷ codes "o" ∷ codes "t" ∷ codes "EOF" ∷ codes "putchar" ∷ codes "size_t" ∷ []) fs) {
  structs = structs;
  enums = enums;
  typedefs = typedefs;
  globals = globals;
}

abbrev refused : TranslationUnit → Option Fault
refused p = refusing (typed_unit p)

abbrev refused_at : ℕ → Option Fault
refused_at o = Some (record { code = 5; place = at o })

abbrev object : ℕ → ℕ → PlainType → Declaration
object o x t = record { place = at o; name = x; named = true; ctype = t; init = None }

abbrev enumerator : ℕ → ℕ → EnumConstant
enumerator o x = record { place = at o; name = x; value = None }

abbrev enum : ℕ → Option ℕ → List EnumConstant → EnumType
enum o tag items = record { place = at o; tag = tag; items = items }

-- a struct with this tag and one member, some places behind it
abbrev struct : ℕ → ℕ → ℕ → StructType
struct o tag x = record { place = at o; tag = Some tag; members = record { place = at (suc (suc o)); name = x; ctype = int; offset = 0 } ∷ []; size = 0; align = 1 }

abbrev function : ℕ → ℕ → Function
function o x = prototype int (at o) x [] (at (suc o))

-- ---- objects, functions, enumerators and types share one kind of names

-- int n; int n;
two_objects : refused (declares [] [] [] (object 10 0 int ∷ object 20 0 int ∷ []) []) ≡ refused_at 20
unfolding library_constant is_library_name
two_objects = refl

-- int n; int n(void);  and the other way round
an_object_and_a_function : refused (declares [] [] [] (object 10 0 int ∷ []) (function 20 0 ∷ [])) ≡ refused_at 20
unfolding library_constant is_library_name
an_object_and_a_function = refl

a_function_and_an_object : refused (declares [] [] [] (object 20 0 int ∷ []) (function 10 0 ∷ [])) ≡ refused_at 20
unfolding library_constant is_library_name
a_function_and_an_object = refl

-- int n; typedef char n;
an_object_and_a_type : refused (declares [] [] (object 20 0 char ∷ []) (object 10 0 int ∷ []) []) ≡ refused_at 20
unfolding library_constant is_library_name
an_object_and_a_type = refl

a_function_and_a_type : refused (declares [] [] (object 20 0 char ∷ []) [] (function 10 0 ∷ [])) ≡ refused_at 20
unfolding library_constant is_library_name
a_function_and_a_type = refl

-- typedef char n; int n;  typedef char n; int n(void);  typedef char n; enum { n };
a_type_and_an_object : refused (declares [] [] (object 10 0 char ∷ []) (object 20 0 int ∷ []) []) ≡ refused_at 20
unfolding library_constant is_library_name
a_type_and_an_object = refl

a_type_and_a_function : refused (declares [] [] (object 10 0 char ∷ []) [] (function 20 0 ∷ [])) ≡ refused_at 20
unfolding library_constant is_library_name
a_type_and_a_function = refl

a_type_and_an_enumerator : refused (declares [] (enum 20 None (enumerator 22 0 ∷ []) ∷ []) (object 10 0 char ∷ []) [] []) ≡ refused_at 22
unfolding library_constant is_library_name
a_type_and_an_enumerator = refl

-- enum { n, n };  enum { n }; int n;  int n; enum { o, n };  enum { n }; enum { n };
two_enumerators : refused (declares [] (enum 10 None (enumerator 12 0 ∷ enumerator 15 0 ∷ []) ∷ []) [] [] []) ≡ refused_at 15
unfolding library_constant is_library_name
two_enumerators = refl

an_enumerator_and_an_object : refused (declares [] (enum 10 None (enumerator 12 0 ∷ []) ∷ []) [] (object 20 0 int ∷ []) []) ≡ refused_at 20
unfolding library_constant is_library_name
an_enumerator_and_an_object = refl

an_object_and_an_enumerator : refused (declares [] (enum 20 None (enumerator 22 1 ∷ enumerator 25 0 ∷ []) ∷ []) [] (object 10 0 int ∷ []) []) ≡ refused_at 25
unfolding library_constant is_library_name
an_object_and_an_enumerator = refl

enumerators_of_two_enums : refused (declares [] (enum 10 None (enumerator 12 0 ∷ []) ∷ enum 20 None (enumerator 22 0 ∷ []) ∷ []) [] [] []) ≡ refused_at 22
unfolding library_constant is_library_name
enumerators_of_two_enums = refl

-- ---- tags are names of their own, of structs and enums together, and so are the members of each struct

-- struct t { int n; }; struct t { int o; };
two_structs : refused (declares (struct 10 2 0 ∷ struct 20 2 1 ∷ []) [] [] [] []) ≡ refused_at 20
unfolding library_constant is_library_name
two_structs = refl

two_enums : refused (declares [] (enum 10 (Some 2) (enumerator 12 0 ∷ []) ∷ enum 20 (Some 2) (enumerator 22 1 ∷ []) ∷ []) [] [] []) ≡ refused_at 20
unfolding library_constant is_library_name
two_enums = refl

an_enum_and_a_struct : refused (declares (struct 20 2 1 ∷ []) (enum 10 (Some 2) (enumerator 12 0 ∷ []) ∷ []) [] [] []) ≡ refused_at 20
unfolding library_constant is_library_name
an_enum_and_a_struct = refl

-- struct n { int n; } n; struct t { int n; };
one_name_of_each_kind : refused (declares (struct 10 0 0 ∷ struct 30 2 0 ∷ []) [] [] (object 20 0 (Struct 0) ∷ []) []) ≡ None
unfolding library_constant is_library_name
one_name_of_each_kind = refl

-- ---- names of the library

no_object : refused (declares [] [] [] (object 10 3 int ∷ []) []) ≡ refused_at 10
unfolding library_constant is_library_name
no_object = refl

no_function : refused (declares [] [] [] [] (function 10 4 ∷ [])) ≡ refused_at 10
unfolding library_constant is_library_name
no_function = refl

no_type : refused (declares [] [] (object 10 4 int ∷ []) [] []) ≡ refused_at 10
unfolding library_constant is_library_name
no_type = refl

no_enumerator : refused (declares [] (enum 10 None (enumerator 12 3 ∷ []) ∷ []) [] [] []) ≡ refused_at 12
unfolding library_constant is_library_name
no_enumerator = refl

-- struct putchar { int EOF; };
but_tags_and_members : refused (declares (struct 10 4 3 ∷ []) [] [] [] []) ≡ None
unfolding library_constant is_library_name
but_tags_and_members = refl

-- ---- a name is in sight behind its own declarator alone

-- struct t n; struct t { int o; };  and with a pointer
a_struct_that_comes_later : refused (declares (struct 20 2 1 ∷ []) [] [] (object 10 0 (Struct 0) ∷ []) []) ≡ refused_at 10
unfolding library_constant is_library_name
a_struct_that_comes_later = refl

a_pointer_to_it : refused (declares (struct 20 2 1 ∷ []) [] [] (object 10 0 (Ptr (Struct 0)) ∷ []) []) ≡ None
unfolding library_constant is_library_name
a_pointer_to_it = refl

-- ---- members are objects, whose types have a size where they stand

-- struct t { T n; };
abbrev of_member : PlainType → Option Fault
of_member t = refused (declares (record { place = at 10; tag = Some 2; members = record { place = at 12; name = 0; ctype = t; offset = 0 } ∷ []; size = 0; align = 1 } ∷ []) [] [] [] [])

members_with_a_size : map of_member (char ∷ Ptr Void ∷ Array int (Count 3) ∷ Ptr (Struct 0) ∷ Ptr (StructTag 1 (at 11)) ∷ []) ≡ replicate 5 None
unfolding library_constant is_library_name
members_with_a_size = refl

no_member_is_void : of_member Void ≡ Some (record { code = 6; place = at 12 })
unfolding library_constant is_library_name
no_member_is_void = refl

no_length_of_a_member_is_left_out : of_member (Array int Left) ≡ Some (record { code = 6; place = at 12 })
unfolding library_constant is_library_name
no_length_of_a_member_is_left_out = refl

no_struct_is_its_own_member : of_member (Struct 0) ≡ refused_at 12
unfolding library_constant is_library_name
no_struct_is_its_own_member = refl

-- struct t { int n; T o; }; and struct t { int n; T n; };
abbrev behind_a_member : ℕ → PlainType → Option Fault
behind_a_member x t = refused (declares (record {
  place = at 10;
  tag = Some 2;
  members = record { place = at 12; name = 0; ctype = int; offset = 0 } ∷ record { place = at 15; name = x; ctype = t; offset = 0 } ∷ [];
  size = 0;
  align = 1;
} ∷ []) [] [] [] [])

nor_behind_another_member : map (behind_a_member 1) (Struct 0 ∷ Ptr (Struct 0) ∷ char ∷ []) ≡ refused_at 15 ∷ None ∷ None ∷ []
unfolding library_constant is_library_name
nor_behind_another_member = refl

two_members_of_one_name : behind_a_member 0 char ≡ refused_at 15
unfolding library_constant is_library_name
two_members_of_one_name = refl

no_member_of_an_unknown_struct : of_member (Array (StructTag 1 (at 11)) (Count 2)) ≡ refused_at 12
unfolding library_constant is_library_name
no_member_of_an_unknown_struct = refl
