-- What operators on values demand and the types that they give, by computation (C99 6.3.1, 6.5.3.3, 6.5.5 to 6.5.15): the type, or the code and
-- the place of the fault. `A op B` stands at 0, 2 and 4.
use Rattle.std.proofs.Common.{◌≡◌, ℕ, pos, List, [], ◌∷◌, map, refl}
use Rattle.c_syntax.specs.declared.types.CInt.TheVariants.{I32, U32, I64, U64}
use Rattle.c_syntax.specs.declared.expression.UnOp.{UnOp}
use Rattle.c_syntax.specs.declared.expression.UnOp.TheVariants.{Plus, Minus, Flip}
use Rattle.c_syntax.specs.declared.expression.BinOp.{BinOp}
use Rattle.c_syntax.specs.declared.expression.BinOp.TheVariants.{Add, Sub, Mul, Div, Rem, Shl, Shr, BitAnd, BitOr, BitXor, Eq, Ne, Lt, Le, Gt, Ge}
use Rattle.c_syntax.specs.Ctypes.{PlainType, Void, Ptr, Array, Count}
use Rattle.c_syntax.specs.Expressions.{Expression, Node, Unary, Binary, Both, Choice}
use Rattle.c_model.specs.Checked.{Checked, Good}
use Rattle.c_model.specs.Library.{library_constant}
use Rattle.c_model.specs.ExpressionTyping.{typed}
use Rattle.worked_rows.proofs.WorkedSight.{at, fault, int, char, unsigned, long, unsigned_long, struct_s, sight, c, i, j, l, m, p, q, v, a, t, r, x}
use Rattle.worked_rows.proofs.WorkedSight.{nought, null, cast, integers, one, zero, text, unary, address, no, binary, both, either, choice, comma, nothing}
use Rattle.worked_rows.proofs.WorkedSight.{object, constant, converted, type_of, each, with_each, every, are}

-- ---- `* / % & ^ |` take integers, both in their common type

abbrev whole : List BinOp
whole = Mul ∷ Div ∷ Rem ∷ BitAnd ∷ BitXor ∷ BitOr ∷ []

chars_are_promoted : each whole c c ≡ every whole (Good int)
chars_are_promoted = refl

unsigned_takes_the_int : each whole i j ≡ every whole (Good unsigned)
unsigned_takes_the_int = refl

long_takes_the_unsigned : each whole j l ≡ every whole (Good long)
long_takes_the_unsigned = refl

unsigned_long_takes_the_long : each whole m l ≡ every whole (Good unsigned_long)
unsigned_long_takes_the_long = refl

-- c * j
both_in_the_common_type : typed sight (binary Mul 2 (c 0) (j 4)) ≡ Good (Node (at 2) unsigned (Binary Mul (converted unsigned (object 0 char 0)) (object 5 unsigned 4)))
both_in_the_common_type = refl

no_pointer_on_the_left : each whole p i ≡ every whole (fault 6 2)
no_pointer_on_the_left = refl

no_pointer_on_the_right : each whole i p ≡ every whole (fault 6 2)
no_pointer_on_the_right = refl

no_two_pointers : each whole p p ≡ every whole (fault 6 2)
no_two_pointers = refl

no_array : each whole a i ≡ every whole (fault 6 2)
no_array = refl

no_struct : each whole i r ≡ every whole (fault 6 2)
no_struct = refl

no_value_of_void : each whole nothing i ≡ every whole (fault 6 2)
no_value_of_void = refl

-- ---- `<< >>` take integers, each promoted by itself, in the type of the left one

abbrev shifts : List BinOp
shifts = Shl ∷ Shr ∷ []

shifted_integers : with_each integers Shl l ≡ are (I32 ∷ I32 ∷ I32 ∷ I32 ∷ I32 ∷ U32 ∷ I64 ∷ U64 ∷ [])
shifted_integers = refl

-- j << c
each_promoted_by_itself : typed sight (binary Shl 2 (j 0) (c 4)) ≡ Good (Node (at 2) unsigned (Binary Shl (object 5 unsigned 0) (converted int (object 0 char 4))))
each_promoted_by_itself = refl

no_pointer_is_shifted : each shifts p i ≡ every shifts (fault 6 2)
no_pointer_is_shifted = refl

no_count_is_a_pointer : each shifts i p ≡ every shifts (fault 6 2)
no_count_is_a_pointer = refl

no_struct_is_shifted : each shifts r i ≡ every shifts (fault 6 2)
no_struct_is_shifted = refl

-- ---- `+ - ~` in front take an integer, which is promoted

abbrev signs : List UnOp
signs = Plus ∷ Minus ∷ Flip ∷ []

abbrev behind_each : List UnOp → (ℕ → Expression) → List (Checked PlainType)
behind_each ops e = map (λ (op : UnOp). type_of (unary op 0 (e 1))) ops

signs_promote : map (λ (e : ℕ → Expression). type_of (unary Flip 0 (e 1))) integers ≡ are (I32 ∷ I32 ∷ I32 ∷ I32 ∷ I32 ∷ U32 ∷ I64 ∷ U64 ∷ [])
signs_promote = refl

-- -c
the_operand_is_converted : typed sight (unary Minus 0 (c 1)) ≡ Good (Node (at 0) int (Unary Minus (converted int (object 0 char 1))))
the_operand_is_converted = refl

no_sign_of_a_pointer : behind_each signs p ≡ every signs (fault 6 0)
no_sign_of_a_pointer = refl

no_sign_of_an_array : behind_each signs a ≡ every signs (fault 6 0)
no_sign_of_an_array = refl

no_sign_of_a_struct : behind_each signs r ≡ every signs (fault 6 0)
no_sign_of_a_struct = refl

-- ---- `+`

sums_with_an_int : with_each integers Add i ≡ are (I32 ∷ I32 ∷ I32 ∷ I32 ∷ I32 ∷ U32 ∷ I64 ∷ U64 ∷ [])
sums_with_an_int = refl

sums_with_an_unsigned : with_each integers Add j ≡ are (U32 ∷ U32 ∷ U32 ∷ U32 ∷ U32 ∷ U32 ∷ I64 ∷ U64 ∷ [])
sums_with_an_unsigned = refl

sums_with_a_long : with_each integers Add l ≡ are (I64 ∷ I64 ∷ I64 ∷ I64 ∷ I64 ∷ I64 ∷ I64 ∷ U64 ∷ [])
sums_with_a_long = refl

sums_with_an_unsigned_long : with_each integers Add m ≡ are (U64 ∷ U64 ∷ U64 ∷ U64 ∷ U64 ∷ U64 ∷ U64 ∷ U64 ∷ [])
sums_with_an_unsigned_long = refl

-- an integer beside a pointer isn't converted: p + c, c + p
a_pointer_and_an_integer : typed sight (binary Add 2 (p 0) (c 4)) ≡ Good (Node (at 2) (Ptr int) (Binary Add (object 8 (Ptr int) 0) (object 0 char 4)))
a_pointer_and_an_integer = refl

an_integer_and_a_pointer : typed sight (binary Add 2 (c 0) (p 4)) ≡ Good (Node (at 2) (Ptr int) (Binary Add (object 0 char 0) (object 8 (Ptr int) 4)))
an_integer_and_a_pointer = refl

-- a + i
an_array_and_an_integer : typed sight (binary Add 2 (a 0) (i 4))
    ≡ Good (Node (at 2) (Ptr int) (Binary Add (converted (Ptr int) (object 12 (Array int (Count 4)) 0)) (object 4 int 4)))
an_array_and_an_integer = refl

-- t + 1, a pointer to the second row
a_table_and_an_integer : type_of (binary Add 2 (t 0) (one 4)) ≡ Good (Ptr (Array int (Count 3)))
a_table_and_an_integer = refl

-- "hey" + 1
a_string_and_an_integer : type_of (binary Add 2 (text 0) (one 4)) ≡ Good (Ptr char)
a_string_and_an_integer = refl

no_sum_of_pointers : type_of (binary Add 2 (p 0) (p 4)) ≡ fault 6 2
no_sum_of_pointers = refl

no_sum_of_pointers_of_two_types : type_of (binary Add 2 (p 0) (q 4)) ≡ fault 6 2
no_sum_of_pointers_of_two_types = refl

void_has_no_elements : type_of (binary Add 2 (v 0) (one 4)) ≡ fault 6 2
void_has_no_elements = refl

void_has_no_elements_on_the_right : type_of (binary Add 2 (one 0) (v 4)) ≡ fault 6 2
void_has_no_elements_on_the_right = refl

no_sum_with_a_struct : type_of (binary Add 2 (r 0) (one 4)) ≡ fault 6 2
no_sum_with_a_struct = refl

no_sum_of_a_pointer_and_a_struct : type_of (binary Add 2 (p 0) (r 4)) ≡ fault 6 2
no_sum_of_a_pointer_and_a_struct = refl

-- of a whole with a faulty part nothing is told but the part: p + (v + 1)
the_part_is_told : type_of (binary Add 2 (p 0) (binary Add 6 (v 4) (one 8))) ≡ fault 6 6
the_part_is_told = refl

-- ---- `-`

a_pointer_minus_an_integer : type_of (binary Sub 2 (p 0) (l 4)) ≡ Good (Ptr int)
a_pointer_minus_an_integer = refl

-- p - a
two_pointers_give_a_long : typed sight (binary Sub 2 (p 0) (a 4))
    ≡ Good (Node (at 2) long (Binary Sub (object 8 (Ptr int) 0) (converted (Ptr int) (object 12 (Array int (Count 4)) 4))))
two_pointers_give_a_long = refl

pointers_to_structs_give_a_long : type_of (binary Sub 2 (x 0) (x 4)) ≡ Good long
pointers_to_structs_give_a_long = refl

no_integer_minus_a_pointer : type_of (binary Sub 2 (i 0) (p 4)) ≡ fault 6 2
no_integer_minus_a_pointer = refl

no_difference_of_two_types : type_of (binary Sub 2 (p 0) (q 4)) ≡ fault 6 2
no_difference_of_two_types = refl

no_difference_of_a_table_and_a_row : type_of (binary Sub 2 (t 0) (a 4)) ≡ fault 6 2
no_difference_of_a_table_and_a_row = refl

-- t - &a, of rows of three and of four
no_difference_of_arrays_of_two_lengths : type_of (binary Sub 2 (t 0) (address 4 (a 5))) ≡ fault 6 2
no_difference_of_arrays_of_two_lengths = refl

no_difference_of_pointers_to_void : type_of (binary Sub 2 (v 0) (v 4)) ≡ fault 6 2
no_difference_of_pointers_to_void = refl

no_integer_from_a_pointer_to_void : type_of (binary Sub 2 (v 0) (one 4)) ≡ fault 6 2
no_integer_from_a_pointer_to_void = refl

-- ---- `< > <= >=` take integers, or pointers of one type

abbrev orders : List BinOp
orders = Lt ∷ Gt ∷ Le ∷ Ge ∷ []

an_order_gives_an_int : each orders l m ≡ every orders (Good int)
an_order_gives_an_int = refl

-- i < j
an_order_is_asked_in_the_common_type : typed sight (binary Lt 2 (i 0) (j 4)) ≡ Good (Node (at 2) int (Binary Lt (converted unsigned (object 4 int 0)) (object 5 unsigned 4)))
an_order_is_asked_in_the_common_type = refl

an_order_of_pointers : each orders p a ≡ every orders (Good int)
an_order_of_pointers = refl

an_order_of_pointers_to_void : each orders v v ≡ every orders (Good int)
an_order_of_pointers_to_void = refl

no_order_of_two_types : each orders p q ≡ every orders (fault 6 2)
no_order_of_two_types = refl

no_order_with_a_pointer_to_void : each orders p v ≡ every orders (fault 6 2)
no_order_with_a_pointer_to_void = refl

no_order_with_the_null_constant : each orders p zero ≡ every orders (fault 6 2)
no_order_with_the_null_constant = refl

no_order_of_an_integer_and_a_pointer : each orders zero p ≡ every orders (fault 6 2)
no_order_of_an_integer_and_a_pointer = refl

no_order_of_structs : each orders r r ≡ every orders (fault 6 2)
no_order_of_structs = refl

-- ---- `== !=` take integers, and pointers of one type, or one of them to void, or with the null constant

abbrev equalities : List BinOp
equalities = Eq ∷ Ne ∷ []

an_equality_gives_an_int : each equalities l m ≡ every equalities (Good int)
an_equality_gives_an_int = refl

equality_of_pointers : each equalities p a ≡ every equalities (Good int)
equality_of_pointers = refl

equality_with_a_pointer_to_void : each equalities p v ≡ every equalities (Good int)
equality_with_a_pointer_to_void = refl

equality_of_a_pointer_to_void : each equalities v q ≡ every equalities (Good int)
equality_of_a_pointer_to_void = refl

-- p == 0, 0 == p
the_null_constant_is_a_pointer_there : typed sight (binary Eq 2 (p 0) (zero 4)) ≡ Good (Node (at 2) int (Binary Eq (object 8 (Ptr int) 0) (converted (Ptr int) (constant I32 (pos 0) 4))))
the_null_constant_is_a_pointer_there = refl

on_the_left_too : typed sight (binary Eq 2 (zero 0) (p 4)) ≡ Good (Node (at 2) int (Binary Eq (converted (Ptr int) (constant I32 (pos 0) 0)) (object 8 (Ptr int) 4)))
on_the_left_too = refl

no_equality_of_two_types : each equalities p q ≡ every equalities (fault 6 2)
no_equality_of_two_types = refl

no_equality_with_a_number : each equalities p one ≡ every equalities (fault 6 2)
no_equality_with_a_number = refl

no_equality_with_an_integer : each equalities i p ≡ every equalities (fault 6 2)
no_equality_with_an_integer = refl

no_equality_of_structs : each equalities r r ≡ every equalities (fault 6 2)
no_equality_of_structs = refl

-- NULL == 0, NULL == NULL; NULL < NULL, of one type
null_is_equal_to_itself : each equalities null zero ≡ every equalities (Good int)
unfolding library_constant
null_is_equal_to_itself = refl

null_has_an_order : each orders null null ≡ every orders (Good int)
unfolding library_constant
null_has_an_order = refl

-- ---- `&& || !` take scalars

-- p && c: nothing is converted
scalars_give_an_int : typed sight (both 2 (p 0) (c 4)) ≡ Good (Node (at 2) int (Both (object 8 (Ptr int) 0) (object 0 char 4)))
scalars_give_an_int = refl

an_array_is_a_scalar_there : type_of (either 2 (a 0) (zero 4)) ≡ Good int
an_array_is_a_scalar_there = refl

no_struct_on_the_left : type_of (both 2 (r 0) (i 4)) ≡ fault 6 2
no_struct_on_the_left = refl

no_struct_on_the_right : type_of (either 2 (i 0) (r 4)) ≡ fault 6 2
no_struct_on_the_right = refl

nothing_is_no_scalar : type_of (both 4 (nothing 1) (i 7)) ≡ fault 6 4
nothing_is_no_scalar = refl

denied_scalars : map (λ (e : ℕ → Expression). type_of (no 0 (e 1))) (c ∷ l ∷ p ∷ v ∷ a ∷ []) ≡ are (I32 ∷ I32 ∷ I32 ∷ I32 ∷ I32 ∷ [])
denied_scalars = refl

no_struct_is_denied : type_of (no 0 (r 1)) ≡ fault 6 0
no_struct_is_denied = refl

nothing_is_denied : type_of (no 0 (nothing 2)) ≡ fault 6 0
nothing_is_denied = refl

-- ---- `A ? B : C` takes a scalar, and two integers, two pointers as for `==`, or two of void; at 0, 4 and 8, the `?` at 2

abbrev chosen : (ℕ → Expression) → (ℕ → Expression) → Checked PlainType
chosen b c = type_of (choice 2 (i 0) (b 4) (c 8))

-- i ? c : j
integers_in_their_common_type : typed sight (choice 2 (i 0) (c 4) (j 8))
    ≡ Good (Node (at 2) unsigned (Choice (object 4 int 0) (converted unsigned (object 0 char 4)) (object 5 unsigned 8)))
integers_in_their_common_type = refl

two_chars_are_an_int : chosen c c ≡ Good int
two_chars_are_an_int = refl

pointers_of_one_type : chosen p a ≡ Good (Ptr int)
pointers_of_one_type = refl

a_pointer_or_one_to_void : chosen p v ≡ Good (Ptr Void)
a_pointer_or_one_to_void = refl

one_to_void_or_a_pointer : chosen v p ≡ Good (Ptr Void)
one_to_void_or_a_pointer = refl

a_pointer_or_zero : chosen p zero ≡ Good (Ptr int)
a_pointer_or_zero = refl

zero_or_a_pointer : chosen nought p ≡ Good (Ptr int)
zero_or_a_pointer = refl

two_of_void : chosen nothing nothing ≡ Good Void
two_of_void = refl

a_pointer_is_a_condition : type_of (choice 2 (p 0) (one 4) (zero 8)) ≡ Good int
a_pointer_is_a_condition = refl

null_or_a_pointer : chosen null p ≡ Good (Ptr int)
unfolding library_constant
null_or_a_pointer = refl

-- i ? (void *)0 : p, where what is cast is no null constant
void_by_a_cast_or_a_pointer : type_of (choice 2 (i 0) (cast 4 (Ptr Void) (zero 12)) (p 16)) ≡ Good (Ptr Void)
void_by_a_cast_or_a_pointer = refl

no_choice_between_two_pointers : chosen p q ≡ fault 6 2
no_choice_between_two_pointers = refl

no_choice_between_pointer_and_number : chosen p one ≡ fault 6 2
no_choice_between_pointer_and_number = refl

no_choice_between_pointer_and_integer : chosen i p ≡ fault 6 2
no_choice_between_pointer_and_integer = refl

no_choice_between_structs : chosen r r ≡ fault 6 2
no_choice_between_structs = refl

no_choice_between_void_and_integer : chosen nothing i ≡ fault 6 2
no_choice_between_void_and_integer = refl

no_struct_is_a_condition : type_of (choice 2 (r 0) (one 4) (zero 8)) ≡ fault 6 2
no_struct_is_a_condition = refl

-- ---- `A, B`, the `,` at 1, takes anything on its left, and gives the value on its right (C99 6.5.17)

the_value_on_the_right : map (λ (e : ℕ → Expression). type_of (comma 1 (p 0) (e 3))) (c ∷ a ∷ r ∷ nothing ∷ []) ≡ Good char ∷ Good (Ptr int) ∷ Good struct_s ∷ Good Void ∷ []
the_value_on_the_right = refl

anything_on_the_left : map (λ (e : ℕ → Expression). type_of (comma 1 (e 0) (c 3))) (c ∷ a ∷ r ∷ nothing ∷ []) ≡ Good char ∷ Good char ∷ Good char ∷ Good char ∷ []
anything_on_the_left = refl
