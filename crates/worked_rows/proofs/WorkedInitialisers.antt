-- Declared objects and their initialisers (C99 6.7, 6.7.8), by computation: the type, or the code and the place of the fault. In `T new = I` the name
-- stands at 0 and the `=` at 1.
use Rattle.std.proofs.Common.{◌≡◌, ℕ, true, List, [], ◌∷◌, map, Option, Some, None, refl, replicate}
use Rattle.c_syntax.specs.declared.types.CInt.TheVariants.{U8}
use Rattle.c_syntax.specs.declared.expression.BinOp.TheVariants.{Add}
use Rattle.c_syntax.specs.declared.expression.UnOp.TheVariants.{Minus}
use Rattle.c_syntax.specs.Ctypes.{PlainType, Void, Int, Ptr, Array, Named, StructTag, EnumTag, Left, Count}
use Rattle.c_syntax.specs.Expressions.{Expression}
use Rattle.c_syntax.specs.Statements.{Initialiser, One, Many, Initialisers, NoInitialiser, Listed, Declaration}
use Rattle.c_model.specs.Checked.{Checked, Good, one_part, refusing}
use Rattle.c_model.specs.Library.{library_constant, is_library_name}
use Rattle.c_model.specs.DeclarationTyping.{typed_variable, typed_global}
use Rattle.worked_rows.proofs.WorkedSight.{at, fault, int, char, long, struct_s, struct_u, struct_other, sight, c, i, p, q, v, a, r, x, unknown, number, one, zero, text}
use Rattle.worked_rows.proofs.WorkedSight.{name, unary, address, binary, size_of, index, nothing, converted, object}

abbrev declared_as : ℕ → PlainType → Option Initialiser → Declaration
declared_as x t init = record {
  place = at 0;
  name = x;
  named = true;
  ctype = t;
  init = elim init [ None ↦ None | Some i ↦ Some (at 1, i) ];
}

-- the type that `T new = I` gets, and that of `T new`
abbrev type_with : PlainType → Initialiser → Checked PlainType
type_with t init = one_part (typed_variable sight (declared_as 38 t (Some init))) (λ d. Good d.ctype)

abbrev type_without : PlainType → Checked PlainType
type_without t = one_part (typed_variable sight (declared_as 38 t None)) (λ d. Good d.ctype)

abbrev listed : List Initialiser → Initialisers
listed [] = NoInitialiser
listed (i ∷ is) = Listed i (listed is)

-- a list in braces, at its `{`
abbrev many : ℕ → List Initialiser → Initialiser
many o is = Many (at o) (listed is)

abbrev many_of : ℕ → List Expression → Initialiser
many_of o es = many o (map (λ (e : Expression). One e) es)

abbrev ints : ℕ → PlainType
ints n = Array int (Count n)

abbrev chars : ℕ → PlainType
chars n = Array char (Count n)

-- ---- declared objects

objects_have_a_size : map type_without (char ∷ Ptr Void ∷ Ptr struct_u ∷ struct_s ∷ Array struct_s (Count 3) ∷ []) ≡ Good char ∷ Good (Ptr Void) ∷ Good (Ptr struct_u) ∷ Good struct_s ∷ Good (Array struct_s (Count 3)) ∷ []
unfolding library_constant is_library_name
objects_have_a_size = refl

no_object_is_void : type_without Void ≡ fault 6 0
unfolding library_constant is_library_name
no_object_is_void = refl

no_array_of_void : type_without (Array Void (Count 2)) ≡ fault 6 0
unfolding library_constant is_library_name
no_array_of_void = refl

no_object_of_an_unknown_struct : type_without struct_u ≡ fault 5 0
unfolding library_constant is_library_name
no_object_of_an_unknown_struct = refl

no_array_of_an_unknown_struct : type_without (Array struct_u (Count 2)) ≡ fault 5 0
unfolding library_constant is_library_name
no_array_of_an_unknown_struct = refl

no_length_is_left_out : type_without (Array int Left) ≡ fault 6 0
unfolding library_constant is_library_name
no_length_is_left_out = refl

-- int new[2][] = {{1}}
no_second_length_is_left_out : type_with (Array (Array int Left) (Count 2)) (many 2 (many_of 3 (one 4 ∷ []) ∷ [])) ≡ fault 6 0
unfolding library_constant is_library_name
no_second_length_is_left_out = refl

-- tags and names of types: struct s, struct unknown, enum unknown, unknown
a_struct_by_its_tag : type_without (StructTag 34 (at 7)) ≡ Good struct_s
unfolding library_constant is_library_name
a_struct_by_its_tag = refl

no_struct_of_an_unknown_tag : type_without (StructTag 37 (at 7)) ≡ fault 5 0
unfolding library_constant is_library_name
no_struct_of_an_unknown_tag = refl

no_enum_of_an_unknown_tag : type_without (EnumTag 37 (at 5)) ≡ fault 5 5
unfolding library_constant is_library_name
no_enum_of_an_unknown_tag = refl

no_type_of_an_unknown_name : type_without (Named 37) ≡ fault 5 0
unfolding library_constant is_library_name
no_type_of_an_unknown_name = refl

-- `int c`, where the scope has a c; `int putchar`, `int NULL`; inside a function `int f` hides a function, and at file scope it is its second declaration
declared_a_second_time : typed_variable sight (declared_as 0 int None) ≡ fault 5 0
unfolding library_constant is_library_name
declared_a_second_time = refl

names_of_the_library : map (λ (x : ℕ). typed_variable sight (declared_as x int None)) (25 ∷ 26 ∷ 28 ∷ []) ≡ fault 5 0 ∷ fault 5 0 ∷ fault 5 0 ∷ []
unfolding library_constant is_library_name
names_of_the_library = refl

a_function_is_hidden : typed_variable sight (declared_as 21 int None) ≡ Good (declared_as 21 int None)
unfolding library_constant is_library_name
a_function_is_hidden = refl

a_function_is_no_object : typed_global sight (declared_as 21 int None) ≡ fault 5 0
unfolding library_constant is_library_name
a_function_is_no_object = refl

-- of two faults at the name the one of least code: `void c`
the_name_comes_first : refusing (typed_variable sight (declared_as 0 Void None)) ≡ Some (record { code = 5; place = at 0 })
unfolding library_constant is_library_name
the_name_comes_first = refl

-- ---- one expression is assigned, and its fault is at the `=`

-- int new = c
a_value_is_converted : typed_variable sight (declared_as 38 int (Some (One (c 3)))) ≡ Good (declared_as 38 int (Some (One (converted int (object 0 char 3)))))
unfolding library_constant is_library_name
a_value_is_converted = refl

values_of_pointers : map (type_with (Ptr int)) (One (p 3) ∷ One (a 3) ∷ One (v 3) ∷ One (zero 3) ∷ []) ≡ replicate 4 (Good (Ptr int))
unfolding library_constant is_library_name
values_of_pointers = refl

no_values_of_pointers : map (type_with (Ptr int)) (One (q 3) ∷ One (one 3) ∷ One (i 3) ∷ One (text 4) ∷ []) ≡ replicate 4 (fault 6 1)
unfolding library_constant is_library_name
no_values_of_pointers = refl

no_values_of_integers : map (type_with int) (One (p 3) ∷ One (r 3) ∷ One (nothing 4) ∷ []) ≡ replicate 3 (fault 6 1)
unfolding library_constant is_library_name
no_values_of_integers = refl

-- struct s new = r: a struct goes to a struct in an assignment alone
no_struct_by_a_struct : type_with struct_s (One (r 3)) ≡ fault 6 1
unfolding library_constant is_library_name
no_struct_by_a_struct = refl

no_array_by_an_array : type_with (ints 4) (One (a 3)) ≡ fault 6 1
unfolding library_constant is_library_name
no_array_by_an_array = refl

no_array_by_a_number : type_with (ints 4) (One (one 3)) ≡ fault 6 1
unfolding library_constant is_library_name
no_array_by_a_number = refl

a_fault_inside : type_with int (One (unary Minus 3 (unknown 4))) ≡ fault 5 4
unfolding library_constant is_library_name
a_fault_inside = refl

-- ---- strings: without the 0 where there is no room for it

strings : map (λ (t : PlainType). type_with t (One (text 4))) (chars 9 ∷ chars 4 ∷ chars 3 ∷ Array (Int U8) (Count 3) ∷ Ptr char ∷ [])
    ≡ Good (chars 9) ∷ Good (chars 4) ∷ Good (chars 3) ∷ Good (Array (Int U8) (Count 3)) ∷ Good (Ptr char) ∷ []
unfolding library_constant is_library_name
strings = refl

no_room_for_a_string : type_with (chars 2) (One (text 4)) ≡ fault 6 1
unfolding library_constant is_library_name
no_room_for_a_string = refl

no_string_for_ints : type_with (ints 4) (One (text 4)) ≡ fault 6 1
unfolding library_constant is_library_name
no_string_for_ints = refl

no_string_for_rows : type_with (Array (chars 4) (Count 2)) (One (text 4)) ≡ fault 6 1
unfolding library_constant is_library_name
no_string_for_rows = refl

a_string_in_braces : type_with (chars 4) (many_of 3 (text 4 ∷ [])) ≡ Good (chars 4)
unfolding library_constant is_library_name
a_string_in_braces = refl

no_room_for_it_in_braces : type_with (chars 2) (many_of 3 (text 4 ∷ [])) ≡ fault 6 4
unfolding library_constant is_library_name
no_room_for_it_in_braces = refl

-- char new[4] = {"hey", 0}
a_string_among_others : type_with (chars 4) (many_of 3 (text 4 ∷ zero 11 ∷ [])) ≡ fault 6 4
unfolding library_constant is_library_name
a_string_among_others = refl

-- ---- lists: at most as many items as elements or members, each at its item

one_item_for_a_scalar : type_with int (many_of 3 (i 4 ∷ [])) ≡ Good int
unfolding library_constant is_library_name
one_item_for_a_scalar = refl

two_items_for_a_scalar : type_with int (many_of 3 (i 4 ∷ one 7 ∷ [])) ≡ fault 6 7
unfolding library_constant is_library_name
two_items_for_a_scalar = refl

braces_in_braces_for_a_scalar : type_with int (many 3 (many_of 4 (i 5 ∷ []) ∷ [])) ≡ fault 6 4
unfolding library_constant is_library_name
braces_in_braces_for_a_scalar = refl

an_item_of_another_type : type_with int (many_of 3 (p 4 ∷ [])) ≡ fault 6 4
unfolding library_constant is_library_name
an_item_of_another_type = refl

-- int new[2] = {{i}, 1}, char new[2][4] = {"hey", {"hey"}}
braces_around_one_of_two : type_with (ints 2) (many 3 (many_of 4 (i 5 ∷ []) ∷ One (one 9) ∷ [])) ≡ Good (ints 2)
unfolding library_constant is_library_name
braces_around_one_of_two = refl

strings_for_rows : type_with (Array (chars 4) (Count 2)) (many 3 (One (text 4) ∷ many_of 11 (text 4 ∷ []) ∷ [])) ≡ Good (Array (chars 4) (Count 2))
unfolding library_constant is_library_name
strings_for_rows = refl

fewer_items_than_elements : type_with (ints 4) (many_of 3 (c 4 ∷ one 7 ∷ [])) ≡ Good (ints 4)
unfolding library_constant is_library_name
fewer_items_than_elements = refl

the_first_item_too_many : type_with (ints 2) (many_of 3 (one 4 ∷ one 7 ∷ one 10 ∷ one 13 ∷ [])) ≡ fault 6 10
unfolding library_constant is_library_name
the_first_item_too_many = refl

each_item_is_a_part : refusing (type_with (ints 2) (many_of 3 (one 4 ∷ p 7 ∷ q 10 ∷ []))) ≡ Some (record { code = 6; place = at 7 })
unfolding library_constant is_library_name
each_item_is_a_part = refl

-- int new[2][3] = {{1, 1, 1}, {1}}, {1, 1}, {{1, 1, 1, 1}}, {{1}, {1}, {1}}
rows : type_with (Array (ints 3) (Count 2)) (many 3 (many_of 4 (one 5 ∷ one 8 ∷ one 11 ∷ []) ∷ many_of 15 (one 16 ∷ []) ∷ [])) ≡ Good (Array (ints 3) (Count 2))
unfolding library_constant is_library_name
rows = refl

rows_have_their_own_braces : refusing (type_with (Array (ints 3) (Count 2)) (many_of 3 (one 4 ∷ one 7 ∷ []))) ≡ Some (record { code = 6; place = at 4 })
unfolding library_constant is_library_name
rows_have_their_own_braces = refl

one_too_many_in_a_row : type_with (Array (ints 3) (Count 2)) (many 3 (many_of 4 (one 5 ∷ one 8 ∷ one 11 ∷ one 14 ∷ []) ∷ [])) ≡ fault 6 14
unfolding library_constant is_library_name
one_too_many_in_a_row = refl

one_row_too_many : type_with (Array (ints 3) (Count 2)) (many 3 (many_of 4 (one 5 ∷ []) ∷ many_of 9 (one 10 ∷ []) ∷ many_of 14 (one 15 ∷ []) ∷ [])) ≡ fault 6 14
unfolding library_constant is_library_name
one_row_too_many = refl

-- struct s new = {c, "hey", x}, {1, {c}}, {1, 2}, {1, {0}, p}, {1, {0}, 0, 4}
members : type_with struct_s (many 2 (One (c 3) ∷ One (text 4) ∷ One (x 11) ∷ [])) ≡ Good struct_s
unfolding library_constant is_library_name
members = refl

fewer_items_than_members : type_with struct_s (many 2 (One (one 3) ∷ many_of 6 (c 7 ∷ []) ∷ [])) ≡ Good struct_s
unfolding library_constant is_library_name
fewer_items_than_members = refl

no_member_that_is_an_array_by_a_number : type_with struct_s (many_of 2 (one 3 ∷ one 6 ∷ [])) ≡ fault 6 6
unfolding library_constant is_library_name
no_member_that_is_an_array_by_a_number = refl

a_member_by_a_value_of_another_type : type_with struct_s (many 2 (One (one 3) ∷ many_of 6 (zero 7 ∷ []) ∷ One (p 11) ∷ [])) ≡ fault 6 11
unfolding library_constant is_library_name
a_member_by_a_value_of_another_type = refl

one_item_more_than_members : type_with struct_s (many 2 (One (one 3) ∷ many_of 6 (zero 7 ∷ []) ∷ One (zero 11) ∷ One (number 4 14) ∷ [])) ≡ fault 6 14
unfolding library_constant is_library_name
one_item_more_than_members = refl

-- ---- an item too many is typed before it is told to be one too many

an_unknown_item_too_many : type_with (ints 1) (many_of 3 (one 4 ∷ unknown 7 ∷ [])) ≡ fault 5 7
unfolding library_constant is_library_name
an_unknown_item_too_many = refl

an_unknown_part_of_it : type_with (ints 1) (many_of 3 (one 4 ∷ unary Minus 7 (unknown 8) ∷ [])) ≡ fault 5 8
unfolding library_constant is_library_name
an_unknown_part_of_it = refl

a_faulty_item_too_many : type_with (ints 1) (many_of 3 (one 4 ∷ unary Minus 7 (p 8) ∷ [])) ≡ fault 6 7
unfolding library_constant is_library_name
a_faulty_item_too_many = refl

behind_the_first_too_many : refusing (type_with (ints 1) (many_of 3 (one 4 ∷ one 7 ∷ unknown 10 ∷ []))) ≡ Some (record { code = 6; place = at 7 })
unfolding library_constant is_library_name
behind_the_first_too_many = refl

for_a_scalar : type_with int (many_of 3 (one 4 ∷ unknown 7 ∷ [])) ≡ fault 5 7
unfolding library_constant is_library_name
for_a_scalar = refl

for_a_scalar_a_part_of_it : type_with int (many_of 3 (one 4 ∷ unary Minus 7 (unknown 8) ∷ [])) ≡ fault 5 8
unfolding library_constant is_library_name
for_a_scalar_a_part_of_it = refl

for_a_struct : type_with struct_other (many_of 2 (one 3 ∷ unknown 6 ∷ [])) ≡ fault 5 6
unfolding library_constant is_library_name
for_a_struct = refl

-- one in braces has no object by which it could be typed
in_braces : type_with (ints 1) (many 3 (One (one 4) ∷ many_of 7 (unknown 8 ∷ []) ∷ [])) ≡ fault 6 7
unfolding library_constant is_library_name
in_braces = refl

-- ---- a length that is left out is that of the initialiser

lengths_of_lists : map (type_with (Array int Left)) (many_of 3 (one 4 ∷ []) ∷ many_of 3 (one 4 ∷ one 7 ∷ one 10 ∷ []) ∷ []) ≡ Good (ints 1) ∷ Good (ints 3) ∷ []
unfolding library_constant is_library_name
lengths_of_lists = refl

lengths_of_strings : map (type_with (Array char Left)) (One (text 4) ∷ many_of 3 (text 4 ∷ []) ∷ []) ≡ Good (chars 4) ∷ Good (chars 4) ∷ []
unfolding library_constant is_library_name
lengths_of_strings = refl

lengths_of_rows : type_with (Array (ints 3) Left) (many 3 (many_of 4 (one 5 ∷ []) ∷ many_of 9 (one 10 ∷ one 13 ∷ []) ∷ [])) ≡ Good (Array (ints 3) (Count 2))
unfolding library_constant is_library_name
lengths_of_rows = refl

no_length_of_a_number : type_with (Array int Left) (One (one 3)) ≡ fault 6 1
unfolding library_constant is_library_name
no_length_of_a_number = refl

no_length_of_a_string : type_with (Array int Left) (One (text 4)) ≡ fault 6 1
unfolding library_constant is_library_name
no_length_of_a_string = refl

-- ---- a name is in sight in its own initialiser, with the length that it gives: int new = new + 1, void *new = &new, long new[] = {sizeof new, new[0]}

its_own_value : type_with int (One (binary Add 7 (name 38 3) (one 9))) ≡ Good int
unfolding library_constant is_library_name
its_own_value = refl

its_own_address : type_with (Ptr Void) (One (address 3 (name 38 4))) ≡ Good (Ptr Void)
unfolding library_constant is_library_name
its_own_address = refl

its_own_size : type_with (Array long Left) (many_of 3 (size_of 4 (name 38 11) ∷ index 19 (name 38 16) (zero 20) ∷ [])) ≡ Good (Array long (Count 2))
unfolding library_constant is_library_name
its_own_size = refl

-- int new = &new: its own type
its_own_type : type_with int (One (address 3 (name 38 4))) ≡ fault 6 1
unfolding library_constant is_library_name
its_own_type = refl
