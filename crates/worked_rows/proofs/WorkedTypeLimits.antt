-- Limits on types, by computation. They are ours, since C99 5.2.4.1 leaves them to the implementation: 100 levels of pointers, arrays and structs, and
-- 2,147,483,647 bytes of a type and of each type in it, told at a declared name, at a cast and at `sizeof`; and 1,048,576 bytes of globals and literals.
use Rattle.std.proofs.Common.{◌≡◌, ℕ, zero, suc, true, false, List, [], ◌∷◌, ◌++◌, map, Option, Some, None, codes, refl}
use Rattle.c_syntax.specs.declared.annotation.Relation.TheVariants as relation
use Rattle.c_syntax.specs.declared.expression.BinOp.TheVariants.{Eq}
use Rattle.c_syntax.specs.Ctypes.{PlainType, Void, Ptr, Array, Struct, StructTag, Written, Count}
use Rattle.c_syntax.specs.Formulas as formula
use Rattle.c_syntax.specs.Formulas.{Form, OfC}
use Rattle.c_syntax.specs.Logic.{Raw}
use Rattle.c_syntax.specs.Statements.{Declaration, Asserts}
use Rattle.c_syntax.specs.Programs.{StructMember, StructType, TranslationUnit}
use Rattle.c_model.specs.Checked.{Fault, refusing}
use Rattle.c_model.specs.Library.{library_constant, is_library_name}
use Rattle.c_model.specs.ExpressionTyping.{Sight, AnObject, typed}
use Rattle.c_model.specs.DeclarationTyping.{typed_variable, typed_global, typed_typedef, typed_parameter, typed_result}
use Rattle.c_model.specs.UnitTyping.{typed_unit, room_fault}
use Rattle.c_model.specs.AnnotationTyping.{noted_unit}
use Rattle.worked_rows.proofs.WorkedTrees.{definition, unit_of, literal_form, related_forms, asserted}
use Rattle.worked_rows.proofs.WorkedSight.{at, fault, int, char, struct_s, struct_u, sight, unknown, name, address, binary, cast, size_of, size_of_type, i}
use Rattle.worked_rows.proofs.WorkedSight as in_sight

-- so many pointers to a type, and arrays of one element in one another
abbrev stars : ℕ → PlainType → PlainType
stars zero t = t
stars (suc n) t = Ptr (stars n t)

abbrev arrays : ℕ → PlainType → PlainType
arrays zero t = t
arrays (suc n) t = Array (arrays n t) (Count 1)

abbrev declared_as : PlainType → Declaration
declared_as t = record { place = at 0; name = 38; named = true; ctype = t; init = None }

-- how `T new` is refused
abbrev declaring : PlainType → Option Fault
declaring t = refusing (typed_variable sight (declared_as t))

abbrev too_large : ℕ → Option Fault
too_large o = Some (record { code = 11; place = at o })

-- ---- levels

a_hundred_pointers : declaring (stars 100 int) ≡ None
unfolding library_constant is_library_name
a_hundred_pointers = refl

one_pointer_more : declaring (stars 101 int) ≡ too_large 0
unfolding library_constant is_library_name
one_pointer_more = refl

a_hundred_arrays : declaring (arrays 100 int) ≡ None
unfolding library_constant is_library_name
a_hundred_arrays = refl

one_array_more : declaring (arrays 101 int) ≡ too_large 0
unfolding library_constant is_library_name
one_array_more = refl

arrays_of_pointers : map declaring (arrays 40 (stars 60 int) ∷ arrays 41 (stars 60 int) ∷ arrays 40 (stars 61 int) ∷ []) ≡ None ∷ too_large 0 ∷ too_large 0 ∷ []
unfolding library_constant is_library_name
arrays_of_pointers = refl

-- a struct s has 2 levels, one more than its members of one, and a struct other has 1
arrays_of_structs : map declaring (arrays 98 struct_s ∷ arrays 99 struct_s ∷ arrays 99 in_sight.struct_other ∷ arrays 100 in_sight.struct_other ∷ []) ≡ None ∷ too_large 0 ∷ None ∷ too_large 0 ∷ []
unfolding library_constant is_library_name
arrays_of_structs = refl

-- behind a pointer it has none
pointers_to_structs : map declaring (stars 100 struct_s ∷ stars 101 struct_s ∷ arrays 99 (stars 1 struct_s) ∷ arrays 100 (stars 1 struct_s) ∷ []) ≡ None ∷ too_large 0 ∷ None ∷ too_large 0 ∷ []
unfolding library_constant is_library_name
pointers_to_structs = refl

-- an array behind a pointer is a level as any
pointers_to_arrays : map declaring (Ptr (arrays 99 int) ∷ Ptr (arrays 100 int) ∷ []) ≡ None ∷ too_large 0 ∷ []
unfolding library_constant is_library_name
pointers_to_arrays = refl

-- ---- bytes

bytes : map declaring (Array char (Count 2147483647) ∷ Array (Array char (Count 1073741824)) (Count 2) ∷ Array int (Count 536870911) ∷ Array int (Count 536870912) ∷ []) ≡ None ∷ too_large 0 ∷ None ∷ too_large 0 ∷ []
unfolding library_constant is_library_name
bytes = refl

-- of 16 bytes each
bytes_of_structs : map declaring (Array struct_s (Count 134217727) ∷ Array struct_s (Count 134217728) ∷ []) ≡ None ∷ too_large 0 ∷ []
unfolding library_constant is_library_name
bytes_of_structs = refl

-- behind a pointer too, and behind an array of pointers
bytes_of_what_is_pointed_to : map declaring (Ptr (Array char (Count 2147483647)) ∷ Ptr (Array (Array char (Count 1073741824)) (Count 2)) ∷ Array (Ptr (Array (Array char (Count 1073741824)) (Count 2))) (Count 1) ∷ [])
    ≡ None ∷ too_large 0 ∷ too_large 0 ∷ []
unfolding library_constant is_library_name
bytes_of_what_is_pointed_to = refl

-- ---- which names, and where else

at_file_scope : refusing (typed_global sight (declared_as (stars 101 int))) ≡ too_large 0
unfolding library_constant is_library_name
at_file_scope = refl

the_name_of_a_type : refusing (typed_typedef sight (declared_as (stars 101 int))) ≡ too_large 0
unfolding library_constant is_library_name
the_name_of_a_type = refl

a_parameter : refusing (typed_parameter sight false (declared_as (stars 101 int))) ≡ too_large 0
unfolding library_constant is_library_name
a_parameter = refl

-- an array that is a pointer has as many levels
a_parameter_of_array_type : map (λ (t : PlainType). refusing (typed_parameter sight false (declared_as t))) (Array (stars 99 int) (Count 3) ∷ Array (stars 100 int) (Count 3) ∷ []) ≡ None ∷ too_large 0 ∷ []
unfolding library_constant is_library_name
a_parameter_of_array_type = refl

a_result : refusing (typed_result sight false (at 0) (stars 101 int)) ≡ too_large 0
a_result = refl

-- (T)0 and sizeof(T)
a_cast : map (λ (t : PlainType). refusing (typed sight (cast 0 t (in_sight.zero 9)))) (stars 100 int ∷ stars 101 int ∷ []) ≡ None ∷ too_large 0 ∷ []
a_cast = refl

a_size : map (λ (t : PlainType). refusing (typed sight (size_of_type 0 t))) (stars 100 int ∷ stars 101 int ∷ Array (Array char (Count 65536)) (Count 65536) ∷ []) ≡ None ∷ too_large 0 ∷ too_large 0 ∷ []
a_size = refl

-- `new` with 100 levels: &new has one more, which is told of its size alone
abbrev deep : Sight
deep = record sight { entities = sight.entities ++ AnObject (record { name = 38; decl = 138; ctype = stars 100 int }) ∷ [] }

no_name_has_too_many_levels : refusing (typed deep (binary Eq 5 (address 0 (name 38 1)) (in_sight.zero 8))) ≡ None
no_name_has_too_many_levels = refl

a_size_of_an_expression : refusing (typed deep (size_of 0 (address 7 (name 38 8)))) ≡ too_large 0
a_size_of_an_expression = refl

-- ---- among other faults

-- a second declaration of c: both are at the name
a_name_comes_first : refusing (typed_variable sight (record { place = at 0; name = 0; named = true; ctype = stars 101 int; init = None })) ≡ Some (record { code = 5; place = at 0 })
unfolding library_constant is_library_name
a_name_comes_first = refl

-- (T)unknown, of which the `(` comes first; (T)i, which is no cast of pointers: both are there
before_a_part : refusing (typed sight (cast 0 (stars 101 int) (unknown 110))) ≡ too_large 0
unfolding library_constant
before_a_part = refl

behind_a_type : refusing (typed sight (cast 0 (stars 101 int) (i 110))) ≡ Some (record { code = 6; place = at 0 })
behind_a_type = refl

-- ---- members: one more level than the deepest, and the struct has few enough bytes with each

abbrev member_of : ℕ → ℕ → PlainType → StructMember
member_of x o t = record { place = at o; name = x; ctype = t; offset = 0 }

-- a file of a struct of these members, and an object of so many of them at 50
abbrev of_members : List StructMember → ℕ → TranslationUnit
of_members ms n = record (unit_of (codes "s" ∷ codes "m" ∷ codes "n" ∷ codes "new" ∷ codes "main" ∷ []) []) {
  structs = record { place = at 7; tag = Some 0; members = ms; size = 0; align = 1 } ∷ [];
  globals = record { place = at 50; name = 3; named = true; ctype = arrays n (StructTag 0 (at 48)); init = None } ∷ [];
}

abbrev struct_refused : List StructMember → ℕ → Option Fault
struct_refused ms n = refusing (typed_unit (of_members ms n))

a_struct_of_a_hundred_levels : struct_refused (member_of 1 15 (stars 99 int) ∷ member_of 2 25 int ∷ []) 0 ≡ None
unfolding library_constant is_library_name
a_struct_of_a_hundred_levels = refl

an_array_of_it : struct_refused (member_of 1 15 (stars 99 int) ∷ member_of 2 25 int ∷ []) 1 ≡ too_large 50
unfolding library_constant is_library_name
an_array_of_it = refl

a_struct_of_one_level_more : struct_refused (member_of 1 15 int ∷ member_of 2 25 (stars 100 int) ∷ []) 0 ≡ too_large 50
unfolding library_constant is_library_name
a_struct_of_one_level_more = refl

a_member_of_too_many_levels : struct_refused (member_of 1 15 int ∷ member_of 2 25 (stars 101 int) ∷ []) 0 ≡ too_large 25
unfolding library_constant is_library_name
a_member_of_too_many_levels = refl

a_struct_of_most_bytes : struct_refused (member_of 1 15 (Array char (Count 2147483646)) ∷ member_of 2 25 char ∷ []) 0 ≡ None
unfolding library_constant is_library_name
a_struct_of_most_bytes = refl

the_member_that_is_too_many : struct_refused (member_of 1 15 (Array char (Count 2147483647)) ∷ member_of 2 25 char ∷ []) 0 ≡ too_large 25
unfolding library_constant is_library_name
the_member_that_is_too_many = refl

-- with the padding at its end
padding_counts : struct_refused (member_of 1 15 int ∷ member_of 2 25 (Array char (Count 2147483641)) ∷ []) 0 ≡ too_large 25
unfolding library_constant is_library_name
padding_counts = refl

-- ---- in annotations a struct has its levels too

-- what is noted of this file, where T is a type and the members of the structs have types of so many levels:
--
--     struct s { .. m; };
--     struct other { struct s n; };
--     int main(void) { /*@ assert sizeof(T) == 8; */ }
abbrev asserting : List StructType → Form → TranslationUnit
asserting structs x = record (unit_of (codes "s" ∷ codes "m" ∷ codes "n" ∷ codes "other" ∷ codes "main" ∷ [])
    (definition int (at 50) 4 [] (at 60) (at 90) (Asserts (asserted 1 (at 65) (Raw (related_forms (at 80) relation.Eq x (literal_form (at 83) 8))) ∷ []) ∷ []) ∷ [])) {
      structs = structs;
    }

abbrev inner : ℕ → StructType
inner levels = record { place = at 7; tag = Some 0; members = member_of 1 15 (stars levels int) ∷ []; size = 8; align = 8 }

abbrev outer : StructType
outer = record { place = at 27; tag = Some 3; members = member_of 2 35 (Struct 0) ∷ []; size = 8; align = 8 }

abbrev asserted_size : List StructType → PlainType → Option Fault
asserted_size structs t = refusing (noted_unit (asserting structs (formula.SizeOf (at 72) t)))

the_struct : asserted_size (inner 99 ∷ []) (StructTag 0 (at 79)) ≡ None
the_struct = refl

an_array_of_the_struct : asserted_size (inner 99 ∷ []) (arrays 1 (StructTag 0 (at 79))) ≡ too_large 72
an_array_of_the_struct = refl

an_array_of_pointers_to_it : asserted_size (inner 99 ∷ []) (arrays 1 (Ptr (StructTag 0 (at 79)))) ≡ None
an_array_of_pointers_to_it = refl

the_struct_around_it : asserted_size (inner 98 ∷ outer ∷ []) (StructTag 3 (at 79)) ≡ None
the_struct_around_it = refl

an_array_of_the_one_around : asserted_size (inner 98 ∷ outer ∷ []) (arrays 1 (StructTag 3 (at 79))) ≡ too_large 72
an_array_of_the_one_around = refl

an_array_of_the_one_inside : asserted_size (inner 98 ∷ outer ∷ []) (arrays 1 (StructTag 0 (at 79))) ≡ None
an_array_of_the_one_inside = refl

-- (T)8, where T is a pointer of 101 levels: of both faults the one of least code
a_cast_in_an_annotation : refusing (noted_unit (asserting [] (formula.Cast (at 72) (OfC (stars 101 int)) (literal_form (at 79) 8)))) ≡ Some (record { code = 6; place = at 72 })
a_cast_in_an_annotation = refl

-- ---- a type with a fault: its limits and the sizes of its elements are told all the same

-- an array whose length has no declaration, at 110
abbrev unknown_length : PlainType → PlainType
unknown_length t = Array t (Written (unknown 110))

abbrev refused_as : ℕ → ℕ → Option Fault
refused_as code o = Some (record { code = code; place = at o })

-- int <101 *>new[x];  int <99 *>new[x];  int new[x][2147483647];  int new[x][536870911];
levels_and_bytes_that_are_known : map declaring (unknown_length (stars 101 int) ∷ unknown_length (stars 99 int) ∷ unknown_length (Array int (Count 2147483647)) ∷ unknown_length (Array int (Count 536870911)) ∷ [])
    ≡ too_large 0 ∷ refused_as 5 110 ∷ too_large 0 ∷ refused_as 5 110 ∷ []
unfolding library_constant is_library_name
levels_and_bytes_that_are_known = refl

-- int new[2147483647][x];  int new[536870911][x]: no length is less than 1
the_least_length : map declaring (Array (unknown_length int) (Count 2147483647) ∷ Array (unknown_length int) (Count 536870911) ∷ []) ≡ too_large 0 ∷ refused_as 5 110 ∷ []
unfolding library_constant is_library_name
the_least_length = refl

-- struct u new[x];  void new[x];  void new[i];
elements_without_a_size : map declaring (unknown_length struct_u ∷ unknown_length Void ∷ Array Void (Written (i 110)) ∷ []) ≡ refused_as 5 0 ∷ refused_as 6 0 ∷ refused_as 6 0 ∷ []
unfolding library_constant is_library_name
elements_without_a_size = refl

-- typedef int <101 *>new[x];  a parameter int <100 *>new[x], which is a pointer of 101 levels; void new[x]
a_name_of_a_type_with_a_fault : refusing (typed_typedef sight (declared_as (unknown_length (stars 101 int)))) ≡ too_large 0
unfolding library_constant is_library_name
a_name_of_a_type_with_a_fault = refl

parameters_with_a_fault : map (λ (t : PlainType). refusing (typed_parameter sight false (declared_as t))) (unknown_length (stars 100 int) ∷ unknown_length (stars 99 int) ∷ unknown_length Void ∷ [])
    ≡ too_large 0 ∷ refused_as 5 110 ∷ refused_as 6 0 ∷ []
unfolding library_constant is_library_name
parameters_with_a_fault = refl

-- (T)0 and sizeof(T)
a_cast_with_a_fault : map (λ (t : PlainType). refusing (typed sight (cast 0 t (in_sight.zero 120)))) (Ptr (unknown_length (stars 99 int)) ∷ Ptr (unknown_length (stars 98 int)) ∷ []) ≡ too_large 0 ∷ refused_as 5 110 ∷ []
unfolding library_constant
a_cast_with_a_fault = refl

a_size_with_a_fault : map (λ (t : PlainType). refusing (typed sight (size_of_type 0 t))) (unknown_length (stars 101 int) ∷ unknown_length Void ∷ unknown_length int ∷ []) ≡ too_large 0 ∷ refused_as 6 0 ∷ refused_as 5 110 ∷ []
unfolding library_constant
a_size_with_a_fault = refl

-- in an annotation the name isn't there either
an_asserted_size_with_a_fault : map (asserted_size (inner 99 ∷ [])) (Array (StructTag 0 (at 79)) (Written (name 2 110)) ∷ Array Void (Written (name 2 110)) ∷ Array int (Written (name 2 110)) ∷ [])
    ≡ too_large 72 ∷ refused_as 6 72 ∷ refused_as 5 110 ∷ []
unfolding library_constant
an_asserted_size_with_a_fault = refl

-- ---- the room of globals and literals, each up to the next multiple of 16 above its bytes, in the order of the text

-- arrays of so many chars, each at its place, and literals of three letters
abbrev filled : List (ℕ × ℕ) → List ℕ → Option Fault
filled arrays texts = room_fault (record (unit_of [] []) {
  globals = map (λ (a : ℕ × ℕ). record (declared_as (Array char (Count a.1))) { place = at a.0 }) arrays;
  texts = map (λ (o : ℕ). record { place = at o; bytes = codes "hey" }) texts;
})

abbrev no_room_left_at : ℕ → Option Fault
no_room_left_at o = Some (record { code = 12; place = at o })

all_the_room : map (λ (n : ℕ). filled ((5, n) ∷ []) []) (1048560 ∷ 1048575 ∷ 1048576 ∷ []) ≡ None ∷ None ∷ no_room_left_at 5 ∷ []
all_the_room = refl

one_char_more : filled ((5, 1048560) ∷ (25, 1) ∷ []) [] ≡ no_room_left_at 25
one_char_more = refl

a_literal_more : filled ((5, 1048560) ∷ []) (30 ∷ []) ≡ no_room_left_at 30
a_literal_more = refl

a_literal_before : filled ((5, 1) ∷ (40, 1048560) ∷ []) (30 ∷ []) ≡ no_room_left_at 40
a_literal_before = refl

two_literals_beside : filled ((5, 1048528) ∷ []) (30 ∷ 40 ∷ []) ≡ None
two_literals_beside = refl

and_a_third : filled ((5, 1048528) ∷ []) (30 ∷ 40 ∷ 50 ∷ []) ≡ no_room_left_at 50
and_a_third = refl
