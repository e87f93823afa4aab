-- What operators on places, casts, sizes, calls and members demand and the types that they give, by computation (C99 6.5.2 to 6.5.4, 6.5.16):
-- the type, or the code and the place of the fault.
use Rattle.std.proofs.Common.{◌≡◌, ℕ, false, List, [], ◌∷◌, ◌++◌, map, None, Some, refl, replicate}
use Rattle.std.specs.Prelude.{codes}
use Rattle.c_syntax.specs.declared.types.CInt.TheVariants.{I32}
use Rattle.c_syntax.specs.declared.expression.BinOp.{BinOp}
use Rattle.c_syntax.specs.declared.expression.BinOp.TheVariants.{Add, Sub, Mul, Div, Rem, Shl, Shr, BitAnd, BitOr, BitXor}
use Rattle.c_syntax.specs.declared.expression.BumpOp.{BumpOp}
use Rattle.c_syntax.specs.declared.expression.BumpOp.TheVariants.{PreUp, PreDown, PostUp, PostDown}
use Rattle.c_syntax.specs.Ctypes.{PlainType, Void, Ptr, Array, Count}
use Rattle.c_syntax.specs.Expressions.{Expression, Node, Variable, Unary, Assign, SizeOfExpr, Index, Arrow}
use Rattle.c_syntax.specs.declared.expression.UnOp.TheVariants.{Deref}
use Rattle.c_syntax.specs.Expressions as expression
use Rattle.c_model.specs.Checked.{Checked, Good, Bad, one_part}
use Rattle.c_model.specs.Library.{library_constant}
use Rattle.c_model.specs.ExpressionTyping.{Sight, typed}
use Rattle.worked_rows.proofs.WorkedTrees.{call as called, library_call}
use Rattle.worked_rows.proofs.WorkedSight.{at, fault, int, char, unsigned, long, unsigned_long, struct_s, struct_u, sight, name, c, i, j, l, m, p, q, z, v, a, t, r, x, y, w, structs}
use Rattle.worked_rows.proofs.WorkedSight.{three, nought, null, unknown, one, zero, text, deref, address, binary, choice, comma, assign, compound, bump, index}
use Rattle.worked_rows.proofs.WorkedSight.{n, d, next, dot, arrow, cast, size_of_type, size_of, call, f, g, late, nothing, object, converted, type_of, every, are}

-- ---- `A = B`, at 0, 2 and 4, takes a place that isn't an array, and what becomes a value of its type

abbrev assigned : (ℕ → Expression) → (ℕ → Expression) → Checked PlainType
assigned a b = type_of (assign 2 (a 0) (b 4))

-- c = j
an_integer_is_converted : typed sight (assign 2 (c 0) (j 4)) ≡ Good (Node (at 2) char (Assign None (object 0 char 0) (converted char (object 5 unsigned 4))))
an_integer_is_converted = refl

a_pointer_of_one_type : assigned p a ≡ Good (Ptr int)
a_pointer_of_one_type = refl

a_pointer_to_void : assigned p v ≡ Good (Ptr int)
a_pointer_to_void = refl

to_a_pointer_to_void : assigned v q ≡ Good (Ptr Void)
to_a_pointer_to_void = refl

a_string : assigned z text ≡ Good (Ptr char)
a_string = refl

the_number_zero : assigned p zero ≡ Good (Ptr int)
the_number_zero = refl

an_enumerator_of_value_zero : assigned p nought ≡ Good (Ptr int)
an_enumerator_of_value_zero = refl

null_itself : assigned p null ≡ Good (Ptr int)
unfolding library_constant
null_itself = refl

-- q = (void *)0, and q = (int *)0 and q = (int *)NULL: what is cast is no null constant
void_by_a_cast : type_of (assign 2 (q 0) (cast 4 (Ptr Void) (zero 12))) ≡ Good (Ptr long)
void_by_a_cast = refl

no_null_constant_by_a_cast : type_of (assign 2 (q 0) (cast 4 (Ptr int) (zero 11))) ≡ fault 6 2
no_null_constant_by_a_cast = refl

no_null_that_is_cast : type_of (assign 2 (q 0) (cast 4 (Ptr int) (null 11))) ≡ fault 6 2
unfolding library_constant
no_null_that_is_cast = refl

a_struct : assigned r r ≡ Good struct_s
a_struct = refl

-- *p = i, p[1] = i, r.n = i, x->n = i
assigned_places : map (λ (a : Expression). type_of (assign 6 a (i 8))) (deref 0 (p 1) ∷ index 1 (p 0) (one 2) ∷ dot 1 (r 0) n ∷ arrow 1 (x 0) n ∷ []) ≡ are (I32 ∷ I32 ∷ I32 ∷ I32 ∷ [])
assigned_places = refl

no_pointer_to_another_type : assigned p q ≡ fault 6 2
no_pointer_to_another_type = refl

no_number_but_zero : assigned p one ≡ fault 6 2
no_number_but_zero = refl

no_integer_object : assigned p i ≡ fault 6 2
no_integer_object = refl

no_pointer_to_an_integer : assigned i p ≡ fault 6 2
no_pointer_to_an_integer = refl

no_null_to_an_integer : assigned i null ≡ fault 6 2
unfolding library_constant
no_null_to_an_integer = refl

no_array_is_assigned : assigned a p ≡ fault 6 2
no_array_is_assigned = refl

no_array_of_a_struct : type_of (assign 4 (dot 1 (r 0) d) (z 6)) ≡ fault 6 4
no_array_of_a_struct = refl

no_other_struct : assigned r y ≡ fault 6 2
no_other_struct = refl

no_integer_to_a_struct : assigned r i ≡ fault 6 2
no_integer_to_a_struct = refl

no_struct_to_an_integer : assigned i r ≡ fault 6 2
no_struct_to_an_integer = refl

no_pointer_to_a_struct : assigned r x ≡ fault 6 2
no_pointer_to_a_struct = refl

no_value_of_void : assigned i nothing ≡ fault 6 2
no_value_of_void = refl

a_number_is_no_place : assigned one i ≡ fault 6 2
a_number_is_no_place = refl

an_enumerator_is_no_place : assigned three i ≡ fault 6 2
an_enumerator_is_no_place = refl

null_is_no_place : assigned null p ≡ fault 6 2
unfolding library_constant
null_is_no_place = refl

-- (p + 1) = p, (c = i) = i, (i, c) = i, (i ? c : c) = i
no_places : map (λ (a : Expression). type_of (assign 9 a (i 11))) (binary Add 3 (c 1) (one 5) ∷ assign 3 (c 1) (i 5) ∷ comma 2 (i 1) (c 4) ∷ choice 3 (i 1) (c 5) (c 7) ∷ [])
    ≡ fault 6 9 ∷ fault 6 9 ∷ fault 6 9 ∷ fault 6 9 ∷ []
no_places = refl

-- (r = r).n = i
no_place_in_what_was_assigned : type_of (assign 10 (dot 7 (assign 3 (r 1) (r 5)) n) (i 12)) ≡ fault 6 10
no_place_in_what_was_assigned = refl

-- (i, r) = r, (r = r) = r
no_places_of_structs : map (λ (a : Expression). type_of (assign 9 a (r 11))) (comma 2 (i 1) (r 4) ∷ assign 3 (r 1) (r 5) ∷ []) ≡ fault 6 9 ∷ fault 6 9 ∷ []
no_places_of_structs = refl

-- ---- `A op= B` takes a scalar place and what the operator takes, and gives the left type

abbrev all : List BinOp
all = Add ∷ Sub ∷ Mul ∷ Div ∷ Rem ∷ Shl ∷ Shr ∷ BitAnd ∷ BitOr ∷ BitXor ∷ []

abbrev without_steps : List BinOp
without_steps = Mul ∷ Div ∷ Rem ∷ Shl ∷ Shr ∷ BitAnd ∷ BitOr ∷ BitXor ∷ []

abbrev steps : List BinOp
steps = Add ∷ Sub ∷ []

abbrev compounded : List BinOp → (ℕ → Expression) → (ℕ → Expression) → List (Checked PlainType)
compounded ops a b = map (λ (op : BinOp). type_of (compound op 2 (a 0) (b 5))) ops

-- c += l: no operand is converted in the tree
integers_give_the_left_type : typed sight (compound Add 2 (c 0) (l 5)) ≡ Good (Node (at 2) char (Assign (Some Add) (object 0 char 0) (object 6 long 5)))
integers_give_the_left_type = refl

with_each_operator : compounded all c l ≡ every all (Good char)
with_each_operator = refl

a_pointer_goes_on_and_back : compounded steps p l ≡ every steps (Good (Ptr int))
a_pointer_goes_on_and_back = refl

no_pointer_with_another_operator : compounded without_steps p i ≡ every without_steps (fault 6 2)
no_pointer_with_another_operator = refl

no_pointer_by_a_pointer : compounded steps p p ≡ every steps (fault 6 2)
no_pointer_by_a_pointer = refl

no_integer_by_a_pointer : compounded all i p ≡ every all (fault 6 2)
no_integer_by_a_pointer = refl

no_pointer_to_void_goes_on : compounded steps v one ≡ every steps (fault 6 2)
no_pointer_to_void_goes_on = refl

no_array_goes_on : compounded all a one ≡ every all (fault 6 2)
no_array_goes_on = refl

no_struct_goes_on : compounded all r one ≡ every all (fault 6 2)
no_struct_goes_on = refl

no_integer_by_nothing : compounded all i nothing ≡ every all (fault 6 2)
no_integer_by_nothing = refl

no_integer_by_a_struct : compounded all i r ≡ every all (fault 6 2)
no_integer_by_a_struct = refl

no_number_goes_on : compounded all one one ≡ every all (fault 6 2)
no_number_goes_on = refl

-- ---- `++` and `--`

abbrev bumps : List BumpOp
bumps = PreUp ∷ PreDown ∷ PostUp ∷ PostDown ∷ []

abbrev bumped : Expression → List (Checked PlainType)
bumped a = map (λ (op : BumpOp). type_of (bump op 4 a)) bumps

a_char_stays_a_char : bumped (c 0) ≡ every bumps (Good char)
a_char_stays_a_char = refl

a_pointer_stays_one : bumped (p 0) ≡ every bumps (Good (Ptr int))
a_pointer_stays_one = refl

a_member_goes_on : bumped (arrow 1 (x 0) next) ≡ every bumps (Good (Ptr struct_s))
a_member_goes_on = refl

a_pointer_to_void_doesnt : bumped (v 0) ≡ every bumps (fault 6 4)
a_pointer_to_void_doesnt = refl

an_array_doesnt : bumped (a 0) ≡ every bumps (fault 6 4)
an_array_doesnt = refl

a_struct_doesnt : bumped (r 0) ≡ every bumps (fault 6 4)
a_struct_doesnt = refl

a_value_doesnt : bumped (one 0) ≡ every bumps (fault 6 4)
a_value_doesnt = refl

-- ---- `*` and `[]` take a pointer to a type that isn't void

-- *a
what_an_array_points_to : typed sight (deref 0 (a 1)) ≡ Good (Node (at 0) int (Unary Deref (converted (Ptr int) (object 12 (Array int (Count 4)) 1))))
what_an_array_points_to = refl

what_a_pointer_points_to : type_of (deref 0 (p 1)) ≡ Good int
what_a_pointer_points_to = refl

what_a_table_points_to : type_of (deref 0 (t 1)) ≡ Good (Array int (Count 3))
what_a_table_points_to = refl

what_a_string_points_to : type_of (deref 0 (text 4)) ≡ Good char
what_a_string_points_to = refl

void_isnt_followed : type_of (deref 0 (v 1)) ≡ fault 6 0
void_isnt_followed = refl

an_integer_isnt_followed : type_of (deref 0 (i 1)) ≡ fault 6 0
an_integer_isnt_followed = refl

zero_isnt_followed : type_of (deref 0 (zero 1)) ≡ fault 6 0
zero_isnt_followed = refl

a_struct_isnt_followed : type_of (deref 0 (r 1)) ≡ fault 6 0
a_struct_isnt_followed = refl

-- p[c], c[p]: nothing is converted
an_element : typed sight (index 1 (p 0) (c 2)) ≡ Good (Node (at 1) int (Index (object 8 (Ptr int) 0) (object 0 char 2)))
an_element = refl

an_element_the_other_way_round : typed sight (index 1 (c 0) (p 2)) ≡ Good (Node (at 1) int (Index (object 0 char 0) (object 8 (Ptr int) 2)))
an_element_the_other_way_round = refl

an_element_of_an_array_the_other_way_round : type_of (index 1 (one 0) (a 2)) ≡ Good int
an_element_of_an_array_the_other_way_round = refl

a_row : type_of (index 1 (t 0) (one 2)) ≡ Good (Array int (Count 3))
a_row = refl

a_cell : type_of (index 4 (index 1 (t 0) (one 2)) (one 5)) ≡ Good int
a_cell = refl

no_two_pointers : type_of (index 1 (p 0) (p 2)) ≡ fault 6 1
no_two_pointers = refl

no_two_integers : type_of (index 1 (i 0) (i 2)) ≡ fault 6 1
no_two_integers = refl

no_element_of_void : type_of (index 1 (v 0) (zero 2)) ≡ fault 6 1
no_element_of_void = refl

no_element_of_a_struct : type_of (index 1 (r 0) (zero 2)) ≡ fault 6 1
no_element_of_a_struct = refl

no_struct_is_an_index : type_of (index 1 (p 0) (r 2)) ≡ fault 6 1
no_struct_is_an_index = refl

-- ---- `&` takes a place, which is no pointer to its first element there

-- &i, &a, &t[1], &*p, &r.d, &x->n, &"hey"
addresses : map (λ (a : Expression). type_of (address 0 a)) (i 1 ∷ a 1 ∷ index 2 (t 1) (one 3) ∷ deref 1 (p 2) ∷ dot 2 (r 1) d ∷ arrow 2 (x 1) n ∷ text 4 ∷ [])
    ≡ Good (Ptr int) ∷ Good (Ptr (Array int (Count 4))) ∷ Good (Ptr (Array int (Count 3))) ∷ Good (Ptr int) ∷ Good (Ptr (Array char (Count 3))) ∷ Good (Ptr int) ∷ Good (Ptr (Array char (Count 4))) ∷ []
addresses = refl

-- &1, &N, &(p + 1), &f(), &(r = r).n
no_addresses : map (λ (a : Expression). type_of (address 0 a)) (one 1 ∷ three 1 ∷ binary Add 4 (p 2) (one 6) ∷ nothing 2 ∷ dot 8 (assign 4 (r 2) (r 6)) n ∷ []) ≡ replicate 5 (fault 6 0)
no_addresses = refl

no_address_of_null : type_of (address 0 (null 1)) ≡ fault 6 0
unfolding library_constant
no_address_of_null = refl

no_address_of_a_function : type_of (address 0 (name f 1)) ≡ fault 6 1
no_address_of_a_function = refl

-- ---- casts: integer to integer, pointer to pointer, the null constant, anything to void

abbrev cast_to : PlainType → List Expression → List (Checked PlainType)
cast_to t es = map (λ (a : Expression). type_of (cast 0 t a)) es

casts_of_integers : cast_to long (c 6 ∷ l 6 ∷ three 6 ∷ []) ≡ replicate 3 (Good long)
casts_of_integers = refl

casts_of_pointers : cast_to (Ptr char) (p 8 ∷ v 8 ∷ a 8 ∷ w 8 ∷ zero 8 ∷ nought 8 ∷ []) ≡ replicate 6 (Good (Ptr char))
casts_of_pointers = refl

a_cast_of_null : type_of (cast 0 (Ptr int) (null 7)) ≡ Good (Ptr int)
unfolding library_constant
a_cast_of_null = refl

casts_to_void : cast_to Void (i 6 ∷ p 6 ∷ r 6 ∷ a 6 ∷ nothing 7 ∷ []) ≡ replicate 5 (Good Void)
casts_to_void = refl

no_casts_to_an_integer : cast_to int (p 5 ∷ a 5 ∷ r 5 ∷ nothing 6 ∷ []) ≡ replicate 4 (fault 6 0)
no_casts_to_an_integer = refl

no_casts_to_a_pointer : cast_to (Ptr int) (i 7 ∷ one 7 ∷ r 7 ∷ nothing 8 ∷ []) ≡ replicate 4 (fault 6 0)
no_casts_to_a_pointer = refl

no_casts_to_a_struct : cast_to struct_s (r 10 ∷ i 10 ∷ []) ≡ replicate 2 (fault 6 0)
no_casts_to_a_struct = refl

no_casts_to_an_array : cast_to (Array int (Count 4)) (a 9 ∷ p 9 ∷ []) ≡ replicate 2 (fault 6 0)
no_casts_to_an_array = refl

-- ---- `sizeof` takes a type that has a size, and reads no array as a pointer

-- sizeof a
an_array_keeps_its_type : typed sight (size_of 0 (a 7)) ≡ Good (Node (at 0) unsigned_long (SizeOfExpr (object 12 (Array int (Count 4)) 7)))
an_array_keeps_its_type = refl

sizes_of_types : map (λ (t : PlainType). type_of (size_of_type 0 t)) (char ∷ Ptr Void ∷ struct_s ∷ Array struct_s (Count 2) ∷ Ptr struct_u ∷ []) ≡ replicate 5 (Good unsigned_long)
sizes_of_types = refl

no_size_of_void : type_of (size_of_type 0 Void) ≡ fault 6 0
no_size_of_void = refl

no_size_of_nothing : type_of (size_of 0 (nothing 8)) ≡ fault 6 0
no_size_of_nothing = refl

no_size_of_a_function : type_of (size_of 0 (name f 7)) ≡ fault 6 7
no_size_of_a_function = refl

no_size_of_an_unknown_struct : type_of (size_of_type 0 struct_u) ≡ fault 5 0
no_size_of_an_unknown_struct = refl

-- ---- calls take a function of the file that isn't `main`, and as many arguments as it has parameters

-- g(c, NULL): each argument in the type of its parameter
arguments_are_converted : typed sight (call g 1 (c 2 ∷ null 5 ∷ []))
    ≡ Good (called int (at 1) g 502 (converted int (object 0 char 2) ∷ converted (Ptr int) (Node (at 5) (Ptr Void) (Variable (record { name = 25; decl = 4294967295 }))) ∷ []))
unfolding library_constant
arguments_are_converted = refl

a_call_may_give_nothing : typed sight (nothing 1) ≡ Good (called Void (at 1) f 501 [])
a_call_may_give_nothing = refl

-- putchar(c)
a_call_of_the_library : typed sight (call 28 7 (c 8 ∷ [])) ≡ Good (library_call int (at 7) 28 (converted int (object 0 char 8) ∷ []))
unfolding library_constant
a_call_of_the_library = refl

too_few_arguments : type_of (call g 1 (i 2 ∷ [])) ≡ fault 6 1
too_few_arguments = refl

too_many_arguments : type_of (call f 1 (i 2 ∷ [])) ≡ fault 6 1
too_many_arguments = refl

no_pointer_for_an_integer : type_of (call g 1 (p 2 ∷ p 5 ∷ [])) ≡ fault 6 2
no_pointer_for_an_integer = refl

no_number_for_a_pointer : type_of (call g 1 (i 2 ∷ one 5 ∷ [])) ≡ fault 6 5
no_number_for_a_pointer = refl

-- g(p), whose argument is told and not their number; g(p, unknown), of which both are told
an_argument_before_their_number : type_of (call g 1 (p 2 ∷ [])) ≡ fault 6 2
an_argument_before_their_number = refl

each_argument_is_a_part : type_of (call g 1 (p 2 ∷ unknown 5 ∷ [])) ≡ Bad (record { code = 6; place = at 2 }) (record { code = 5; place = at 5 } ∷ [])
unfolding library_constant
each_argument_is_a_part = refl

-- f(unknown)
an_argument_without_a_parameter_is_a_part : type_of (call f 1 (unknown 2 ∷ [])) ≡ fault 5 2
unfolding library_constant
an_argument_without_a_parameter_is_a_part = refl

no_call_of_an_object : type_of (call 8 1 []) ≡ fault 6 1
no_call_of_an_object = refl

no_call_of_a_constant : type_of (call 26 3 []) ≡ fault 6 3
unfolding library_constant
no_call_of_a_constant = refl

no_call_of_main : type_of (call 24 4 []) ≡ fault 6 4
no_call_of_main = refl

-- an enumerator, and `NULL`
no_call_of_an_enumerator : type_of (call 19 1 []) ≡ fault 6 1
no_call_of_an_enumerator = refl

no_call_of_null : type_of (call 25 4 []) ≡ fault 6 4
unfolding library_constant
no_call_of_null = refl

-- a `main` without a definition has both faults at the `(`
the_definition_comes_first : typed (record sight { functions = record { name = 24; decl = 0; defined = false; params = []; result = int } ∷ [] }) (call 24 4 []) ≡ fault 5 4
the_definition_comes_first = refl

no_call_of_an_unknown_name : type_of (call 37 7 []) ≡ fault 5 7
unfolding library_constant
no_call_of_an_unknown_name = refl

no_call_without_a_definition : type_of (call late 4 []) ≡ fault 5 4
no_call_without_a_definition = refl

-- ---- calls of the library (C99 7.19.7.6, 7.19.7.9, 7.20.3, 7.20.4.3)

abbrev with_more : Sight
with_more = record sight { names = sight.names ++ codes "getchar" ∷ codes "exit" ∷ codes "calloc" ∷ [] }

-- its `(` at 1
abbrev of_library : ℕ → List Expression → Checked PlainType
of_library x es = one_part (typed with_more (call x 1 es)) (λ (e : Expression). Good (expression.type_of e))

abbrev putchar : ℕ
putchar = 28

abbrev malloc : ℕ
malloc = 29

abbrev free : ℕ
free = 30

abbrev getchar : ℕ
getchar = 40

abbrev exit : ℕ
exit = 41

abbrev calloc : ℕ
calloc = 42

results_of_the_library :
    of_library putchar (c 2 ∷ []) ∷ of_library getchar [] ∷ of_library exit (l 2 ∷ []) ∷ of_library malloc (i 2 ∷ []) ∷ of_library calloc (i 2 ∷ m 5 ∷ []) ∷ of_library free (p 2 ∷ []) ∷ []
    ≡ Good int ∷ Good int ∷ Good Void ∷ Good (Ptr Void) ∷ Good (Ptr Void) ∷ Good Void ∷ []
unfolding library_constant
results_of_the_library = refl

-- putchar(), getchar(i), exit(), exit(i, i), malloc(), calloc(i), free()
numbers_of_their_arguments :
    of_library putchar [] ∷ of_library getchar (i 2 ∷ []) ∷ of_library exit [] ∷ of_library exit (i 2 ∷ i 5 ∷ []) ∷ of_library malloc [] ∷ of_library calloc (i 2 ∷ []) ∷ of_library free [] ∷ []
    ≡ replicate 7 (fault 6 1)
unfolding library_constant
numbers_of_their_arguments = refl

-- putchar(p), exit(p), malloc(p), calloc(p, i), free(i), exit(r)
types_of_their_arguments :
    of_library putchar (p 2 ∷ []) ∷ of_library exit (p 2 ∷ []) ∷ of_library malloc (p 2 ∷ []) ∷ of_library calloc (p 2 ∷ i 5 ∷ []) ∷ of_library free (i 2 ∷ []) ∷ of_library exit (r 2 ∷ []) ∷ []
    ≡ replicate 6 (fault 6 2)
unfolding library_constant
types_of_their_arguments = refl

-- free(0), free(NULL), free(a)
null_and_arrays_are_freed : of_library free (zero 2 ∷ []) ∷ of_library free (null 2 ∷ []) ∷ of_library free (a 2 ∷ []) ∷ [] ≡ replicate 3 (Good Void)
unfolding library_constant
null_and_arrays_are_freed = refl

-- i + exit(i)
no_value_of_exit : one_part (typed with_more (binary Add 2 (i 0) (call exit 8 (i 9 ∷ [])))) (λ (e : Expression). Good (expression.type_of e)) ≡ fault 6 2
unfolding library_constant
no_value_of_exit = refl

-- ---- `.` takes a struct, and `->` a pointer to one

a_member : type_of (dot 1 (r 0) n) ≡ Good int
a_member = refl

a_member_that_is_an_array : type_of (dot 1 (r 0) d) ≡ Good (Array char (Count 3))
a_member_that_is_an_array = refl

a_member_of_what_was_assigned : type_of (dot 7 (assign 3 (r 1) (r 5)) n) ≡ Good int
a_member_of_what_was_assigned = refl

a_member_behind_a_pointer : typed sight (arrow 1 (x 0) n) ≡ Good (Node (at 1) int (Arrow (object 15 (Ptr struct_s) 0) n))
a_member_behind_a_pointer = refl

-- o->n
a_member_behind_an_array : typed sight (arrow 1 (structs 0) n) ≡ Good (Node (at 1) int (Arrow (converted (Ptr struct_s) (object 39 (Array struct_s (Count 2)) 0)) n))
a_member_behind_an_array = refl

no_member_of_an_array : type_of (dot 1 (structs 0) n) ≡ fault 6 1
no_member_of_an_array = refl

a_member_behind_two : type_of (arrow 7 (arrow 1 (x 0) next) d) ≡ Good (Array char (Count 3))
a_member_behind_two = refl

no_member_of_an_integer : type_of (dot 1 (i 0) n) ≡ fault 6 1
no_member_of_an_integer = refl

no_member_of_a_pointer : type_of (dot 1 (x 0) n) ≡ fault 6 1
no_member_of_a_pointer = refl

no_arrow_behind_a_struct : type_of (arrow 1 (r 0) n) ≡ fault 6 1
no_arrow_behind_a_struct = refl

no_arrow_behind_another_pointer : type_of (arrow 1 (p 0) n) ≡ fault 6 1
no_arrow_behind_another_pointer = refl

no_such_member : type_of (dot 1 (y 0) next) ≡ fault 5 1
no_such_member = refl

no_such_member_behind_a_pointer : type_of (arrow 1 (x 0) 35) ≡ fault 5 1
no_such_member_behind_a_pointer = refl
