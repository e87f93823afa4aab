-- Parameters, results and declarations of functions (C99 6.7.5.3, 6.9.1), and what statements demand (C99 6.8), by computation: the type, or the code and
-- the place of the fault.
use Rattle.std.proofs.Common.{◌≡◌, ℕ, zero, suc, Bool, true, false, List, [], ◌∷◌, map, Option, Some, None, codes, refl}
use Rattle.c_syntax.specs.Ctypes.{PlainType, Void, Ptr, Array, StructTag, Left, Written, Count}
use Rattle.c_syntax.specs.Expressions.{Expression}
use Rattle.c_syntax.specs.Statements.{Declaration, Statement, Empty, If, While, Do, For, Return, NoElse, NoFirst}
use Rattle.c_syntax.specs.Programs.{StructType, Function, TranslationUnit}
use Rattle.c_model.specs.Checked.{Fault, Checked, Good, one_part, refusing}
use Rattle.c_model.specs.Library.{library_constant, is_library_name}
use Rattle.c_model.specs.DeclarationTyping.{typed_parameter, typed_result}
use Rattle.c_model.specs.StatementTyping.{typed_statement}
use Rattle.c_model.specs.UnitTyping.{typed_unit, typed_parameters}
use Rattle.worked_rows.proofs.WorkedTrees.{definition, prototype, unit_of}
use Rattle.worked_rows.proofs.WorkedSight.{at, fault, int, char, long, struct_s, struct_u, sight, i, p, q, v, a, r, unknown, number, one, nothing, binary, deref, every}
use Rattle.worked_rows.proofs.WorkedSight as in_sight

-- ---- a parameter is a scalar; an array is a pointer to its elements

-- `T new` at 0 in the heading of a definition, and in a prototype
abbrev parameter_named : ℕ → PlainType → Declaration
parameter_named x t = record { place = at 0; name = x; named = true; ctype = t; init = None }

abbrev type_of_parameter : Bool → PlainType → Checked PlainType
type_of_parameter defined t = one_part (typed_parameter sight defined (parameter_named 38 t)) (λ d. Good d.ctype)

abbrev array_of : Expression → PlainType
array_of e = Array int (Written e)

scalar_parameters : map (type_of_parameter true) (char ∷ long ∷ Ptr Void ∷ Ptr struct_u ∷ []) ≡ Good char ∷ Good long ∷ Good (Ptr Void) ∷ Good (Ptr struct_u) ∷ []
unfolding library_constant is_library_name
scalar_parameters = refl

-- int new[], int new[1], int new[][3]
array_parameters : map (type_of_parameter true) (Array int Left ∷ array_of (one 4) ∷ Array (Array int (Count 3)) Left ∷ []) ≡ Good (Ptr int) ∷ Good (Ptr int) ∷ Good (Ptr (Array int (Count 3))) ∷ []
unfolding library_constant is_library_name
array_parameters = refl

an_array_of_an_unknown_struct : type_of_parameter true (Array struct_u Left) ≡ Good (Ptr struct_u)
unfolding library_constant is_library_name
an_array_of_an_unknown_struct = refl

no_parameter_is_void : type_of_parameter false Void ≡ fault 6 0
unfolding library_constant is_library_name
no_parameter_is_void = refl

no_parameter_is_an_array_of_void : type_of_parameter false (Array Void Left) ≡ fault 6 0
unfolding library_constant is_library_name
no_parameter_is_an_array_of_void = refl

no_parameter_is_a_struct : type_of_parameter true struct_s ≡ fault 6 0
unfolding library_constant is_library_name
no_parameter_is_a_struct = refl

an_unknown_struct_in_a_prototype : type_of_parameter false struct_u ≡ fault 6 0
unfolding library_constant is_library_name
an_unknown_struct_in_a_prototype = refl

an_unknown_struct_in_a_definition : type_of_parameter true struct_u ≡ fault 5 0
unfolding library_constant is_library_name
an_unknown_struct_in_a_definition = refl

-- int new[0], int new[i], int new[2][]
no_length_of_zero : type_of_parameter true (array_of (in_sight.zero 4)) ≡ fault 6 4
unfolding library_constant is_library_name
no_length_of_zero = refl

no_variable_length : type_of_parameter true (array_of (i 4)) ≡ fault 6 4
unfolding library_constant is_library_name
no_variable_length = refl

no_second_length_is_left_out : type_of_parameter true (Array (Array int Left) (Written (one 4))) ≡ fault 6 0
unfolding library_constant is_library_name
no_second_length_is_left_out = refl

-- `int putchar`, and `struct s` without a name, which is told at its first token
no_name_of_the_library : typed_parameter sight false (parameter_named 28 int) ≡ fault 5 0
unfolding library_constant is_library_name
no_name_of_the_library = refl

no_struct_without_a_name : typed_parameter sight false (record { place = at 6; name = 34; named = false; ctype = StructTag 34 (at 13); init = None }) ≡ fault 6 6
unfolding library_constant is_library_name
no_struct_without_a_name = refl

-- int new, char new, at 0 and 9
two_parameters_of_one_name : refusing (typed_parameters sight false (parameter_named 38 int ∷ record { place = at 9; name = 38; named = true; ctype = char; init = None } ∷ [])) ≡ Some (record { code = 5; place = at 9 })
unfolding library_constant is_library_name
two_parameters_of_one_name = refl

-- ---- a function gives void or a scalar

results : map (typed_result sight true (at 0)) (Void ∷ char ∷ Ptr struct_u ∷ []) ≡ Good Void ∷ Good char ∷ Good (Ptr struct_u) ∷ []
results = refl

no_result_is_a_struct : typed_result sight true (at 0) struct_s ≡ fault 6 0
no_result_is_a_struct = refl

no_result_is_an_array : typed_result sight true (at 0) (Array int (Count 4)) ≡ fault 6 0
no_result_is_an_array = refl

no_result_is_an_unknown_struct : typed_result sight true (at 0) struct_u ≡ fault 5 0
no_result_is_an_unknown_struct = refl

an_unknown_result_in_a_prototype : typed_result sight false (at 0) struct_u ≡ fault 6 0
an_unknown_result_in_a_prototype = refl

-- ---- declarations of one name have one type, and one of them is a definition

-- a file of these declarations of f, with the struct s, which has a member m, in front
abbrev a_struct : StructType
a_struct = record { place = at 1; tag = Some 3; members = record { place = at 2; name = 4; ctype = int; offset = 0 } ∷ []; size = 0; align = 1 }

abbrev declares : List Function → TranslationUnit
declares fs = record (unit_of (codes "f" ∷ codes "o" ∷ codes "b" ∷ codes "s" ∷ codes "m" ∷ codes "putchar" ∷ []) fs) { structs = a_struct ∷ [] }

abbrev parameter : ℕ → ℕ → PlainType → Declaration
parameter x o t = record { place = at o; name = x; named = true; ctype = t; init = None }

-- a prototype of f at 10, 20, .., and its definition
abbrev f_at : ℕ → PlainType → List Declaration → Function
f_at o t params = prototype t (at o) 0 params (at (suc o))

abbrev f_defined_at : ℕ → PlainType → List Declaration → Function
f_defined_at o t params = definition t (at o) 0 params (at (suc o)) (at (suc (suc o))) []

abbrev refused : List Function → Option Fault
refused fs = refusing (typed_unit (declares fs))

abbrev refused_at : ℕ → ℕ → Option Fault
refused_at code o = Some (record { code = code; place = at o })

abbrev stars : ℕ → PlainType → PlainType
stars zero t = t
stars (suc n) t = Ptr (stars n t)

-- the names of parameters don't matter, and an array is a pointer
equal_prototypes : refused (f_at 10 int (parameter 1 12 (Ptr int) ∷ []) ∷ f_at 20 int (parameter 2 22 (Array int Left) ∷ []) ∷ []) ≡ None
unfolding library_constant is_library_name
equal_prototypes = refl

a_definition_between_prototypes : refused (f_at 10 Void [] ∷ f_defined_at 20 Void [] ∷ f_at 30 Void [] ∷ []) ≡ None
unfolding library_constant is_library_name
a_definition_between_prototypes = refl

two_definitions : refused (f_defined_at 10 Void [] ∷ f_defined_at 20 Void [] ∷ []) ≡ refused_at 5 20
unfolding library_constant is_library_name
two_definitions = refl

another_result : refused (f_at 10 int [] ∷ f_at 20 long [] ∷ []) ≡ refused_at 5 20
unfolding library_constant is_library_name
another_result = refl

another_parameter : refused (f_at 10 int (parameter 1 12 int ∷ []) ∷ f_at 20 int (parameter 1 22 char ∷ []) ∷ []) ≡ refused_at 5 20
unfolding library_constant is_library_name
another_parameter = refl

one_parameter_more : refused (f_at 10 int [] ∷ f_at 20 int (parameter 1 22 int ∷ []) ∷ []) ≡ refused_at 5 20
unfolding library_constant is_library_name
one_parameter_more = refl

one_parameter_less : refused (f_at 10 int (parameter 1 12 int ∷ []) ∷ f_at 20 int [] ∷ []) ≡ refused_at 5 20
unfolding library_constant is_library_name
one_parameter_less = refl

-- struct s f(void), alone and behind int f(void)
a_struct_is_no_result : refused (f_at 20 (StructTag 3 (at 18)) [] ∷ []) ≡ refused_at 6 20
unfolding library_constant is_library_name
a_struct_is_no_result = refl

another_type_before_a_struct_as_result : refused (f_at 10 int [] ∷ f_at 20 (StructTag 3 (at 18)) [] ∷ []) ≡ refused_at 5 20
unfolding library_constant is_library_name
another_type_before_a_struct_as_result = refl

-- struct s f(void) twice: the first of the two
the_first_struct_as_result : refused (f_at 10 (StructTag 3 (at 8)) [] ∷ f_at 20 (StructTag 3 (at 18)) [] ∷ []) ≡ refused_at 6 10
unfolding library_constant is_library_name
the_first_struct_as_result = refl

-- int <101 *>f(void), alone and behind int f(void)
a_result_of_too_many_levels : refused (f_at 20 (stars 101 int) [] ∷ []) ≡ refused_at 11 20
unfolding library_constant is_library_name
a_result_of_too_many_levels = refl

another_type_before_too_many_levels : refused (f_at 10 int [] ∷ f_at 20 (stars 101 int) [] ∷ []) ≡ refused_at 5 20
unfolding library_constant is_library_name
another_type_before_too_many_levels = refl

-- int f(void); int f(int o, void b): a declaration with a faulty parameter is compared with no other
a_faulty_parameter_silences : refused (f_at 10 int [] ∷ f_at 20 int (parameter 1 22 int ∷ parameter 2 24 Void ∷ []) ∷ []) ≡ refused_at 6 24
unfolding library_constant is_library_name
a_faulty_parameter_silences = refl

-- int f(void); struct s f(int o, void b)
and_the_result_is_told : refused (f_at 10 int [] ∷ f_at 20 (StructTag 3 (at 18)) (parameter 1 22 int ∷ parameter 2 24 Void ∷ []) ∷ []) ≡ refused_at 6 20
unfolding library_constant is_library_name
and_the_result_is_told = refl

a_function_of_the_library : refused (prototype int (at 10) 5 (parameter 1 12 int ∷ []) (at 14) ∷ []) ≡ refused_at 5 10
unfolding library_constant is_library_name
a_function_of_the_library = refl

-- ---- `return` has an expression exactly in a function that isn't void; its fault is at the word

abbrev returning : PlainType → Option Expression → Option Fault
returning t e = refusing (typed_statement sight (record { result = t; breaks = false; loops = false }) (Return (at 0) e))

returned_values : returning int (Some (i 7)) ≡ None
returned_values = refl

returned_pointers : map (returning (Ptr int)) (Some (p 7) ∷ Some (a 7) ∷ Some (v 7) ∷ Some (in_sight.zero 7) ∷ []) ≡ None ∷ None ∷ None ∷ None ∷ []
returned_pointers = refl

no_other_pointers : map (returning (Ptr int)) (Some (q 7) ∷ Some (one 7) ∷ Some (i 7) ∷ []) ≡ refused_at 6 0 ∷ refused_at 6 0 ∷ refused_at 6 0 ∷ []
no_other_pointers = refl

no_pointer_for_an_integer : returning int (Some (p 7)) ≡ refused_at 6 0
no_pointer_for_an_integer = refl

nothing_for_an_integer : returning int None ≡ refused_at 6 0
nothing_for_an_integer = refl

nothing_of_a_call : returning int (Some (nothing 8)) ≡ refused_at 6 0
nothing_of_a_call = refl

nothing_of_void : returning Void None ≡ None
nothing_of_void = refl

no_value_of_void : map (returning Void) (Some (i 7) ∷ Some (nothing 8) ∷ []) ≡ refused_at 6 0 ∷ refused_at 6 0 ∷ []
no_value_of_void = refl

a_fault_inside_what_is_returned : returning int (Some (unknown 7)) ≡ refused_at 5 7
unfolding library_constant
a_fault_inside_what_is_returned = refl

-- ---- a condition is a scalar, and its fault is at the expression

-- if (E) ;  while (E) ;  do ; while (E);  for (; E; ) ;
abbrev conditions : Expression → List (Option Fault)
conditions e = map (λ (a : Statement). refusing (typed_statement sight (record { result = int; breaks = false; loops = false }) a))
    (If (at 0) e (Empty (at 30)) NoElse ∷ While (at 0) [] e (Empty (at 30)) ∷ Do (at 0) (Empty (at 3)) e ∷ For (at 0) [] NoFirst (Some e) None (Empty (at 30)) ∷ [])

abbrev four : Option Fault → List (Option Fault)
four r = r ∷ r ∷ r ∷ r ∷ []

a_pointer_is_a_condition : conditions (p 10) ≡ four None
a_pointer_is_a_condition = refl

an_array_is_a_condition : conditions (a 10) ≡ four None
an_array_is_a_condition = refl

a_struct_is_no_condition : conditions (r 10) ≡ four (refused_at 6 10)
a_struct_is_no_condition = refl

nothing_is_no_condition : conditions (nothing 11) ≡ four (refused_at 6 11)
nothing_is_no_condition = refl
