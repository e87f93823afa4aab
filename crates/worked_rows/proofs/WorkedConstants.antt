-- Constant expressions (C99 6.6), by computation: which are null constants (6.3.2.3), which give an array its length (6.7.5.2) and an enumerator its
-- value (6.7.2.2), or the code and the place of the fault.
use Rattle.std.proofs.Common.{length, drop, ◌≡◌, ℕ, ℤ, pos, negsuc, [], ◌∷◌, map, Option, Some, None, refl, replicate}
use Rattle.c_syntax.specs.declared.types.CInt.TheVariants.{U32, I64, U64}
use Rattle.c_syntax.specs.declared.expression.UnOp.TheVariants.{Minus, Flip}
use Rattle.c_syntax.specs.declared.expression.BinOp.TheVariants.{Add, Sub, Mul, Div, Rem, Shl, Eq, Lt}
use Rattle.c_syntax.specs.Ctypes.{PlainType, Void, Ptr, Array, Written, Count}
use Rattle.c_syntax.specs.Expressions.{Expression}
use Rattle.c_model.specs.Checked.{Checked, Good, one_part, refusing}
use Rattle.c_model.specs.Library.{library_constant, is_library_name}
use Rattle.c_model.specs.ExpressionTyping.{AnEnumerator, typed_type}
use Rattle.c_model.specs.DeclarationTyping.{typed_value, typed_enumerators}
use Rattle.worked_rows.proofs.WorkedSight.{at, fault, int, char, sight, name, c, i, p, a, three, nought, null, unknown, number_of, number, one, zero, letter, text}
use Rattle.worked_rows.proofs.WorkedSight.{unary, no, binary, both, either, choice, comma, assign, index, n, cast, size_of_type, size_of, nothing, type_of}

-- ---- null constants: NULL, and each integer constant expression of value 0

-- p == E, where E is 0L, '\0', Z, 3 - N, (char)256, 0 ? 1 : 0, sizeof(int) - 4, !1, 0 && 1 / 0
null_constants : map (λ (e : Expression). type_of (binary Eq 2 (p 0) e))
    (number_of I64 (pos 0) 5 ∷ letter (pos 0) 5 ∷ nought 5 ∷ binary Sub 7 (number 3 5) (three 9) ∷ cast 5 char (number 256 11) ∷ choice 7 (zero 5) (one 9) (zero 13)
    ∷ binary Sub 17 (size_of_type 5 int) (number 4 19) ∷ no 5 (one 6) ∷ both 7 (zero 5) (binary Div 12 (one 10) (zero 14)) ∷ [])
    ≡ replicate 9 (Good int)
null_constants = refl

-- 1, i - i, (0, 0), c, 0 / 0, a[0], (i = 0)
other_expressions : map (λ (e : Expression). type_of (binary Eq 2 (p 0) e))
    (one 5 ∷ binary Sub 7 (i 5) (i 9) ∷ comma 7 (zero 6) (zero 9) ∷ c 5 ∷ binary Div 7 (zero 5) (zero 9) ∷ index 6 (a 5) (zero 7) ∷ assign 8 (i 6) (zero 10) ∷ [])
    ≡ replicate 7 (fault 6 2)
other_expressions = refl

-- ---- the length of an array is one of value 1 to 2^31 - 1, or told at the expression

-- `int` and this in brackets
abbrev array : Expression → Checked PlainType
array e = typed_type sight (at 0) (Array int (Written e))

abbrev of : ℕ → Checked PlainType
of n = Good (Array int (Count n))

the_least_length : array (one 5) ≡ of 1
the_least_length = refl

the_greatest_length : array (number 2147483647 5) ≡ of 2147483647
the_greatest_length = refl

an_enumerator : array (three 5) ≡ of 3
an_enumerator = refl

a_constant_of_the_library : array (binary Sub 10 (name 27 1) (number_of U32 (pos 4294967290) 12)) ≡ of 5
unfolding library_constant
a_constant_of_the_library = refl

a_letter : array (letter (pos 65) 5) ≡ of 65
a_letter = refl

a_size : array (size_of 5 (a 12)) ≡ of 16
a_size = refl

-- sizeof(i = 3), which isn't evaluated
a_size_of_what_isnt_constant : array (size_of 5 (assign 13 (i 11) (three 15))) ≡ of 4
a_size_of_what_isnt_constant = refl

-- 2 + 3 * 4, 7 % 4, 1 << 4, ~-9, (char)300, 2 < 3, 0 || N
values_of_operators : map array (binary Add 7 (number 2 5) (binary Mul 11 (number 3 9) (number 4 13)) ∷ binary Rem 7 (number 7 5) (number 4 9) ∷ binary Shl 7 (one 5) (number 4 10)
    ∷ unary Flip 5 (unary Minus 6 (number 9 7)) ∷ cast 5 char (number 300 11) ∷ binary Lt 7 (number 2 5) (three 9) ∷ either 7 (zero 5) (three 10) ∷ [])
    ≡ of 14 ∷ of 3 ∷ of 16 ∷ of 8 ∷ of 44 ∷ of 1 ∷ of 1 ∷ []
values_of_operators = refl

no_length_of_zero : array (zero 5) ≡ fault 6 5
no_length_of_zero = refl

no_negative_length : array (unary Minus 5 (one 6)) ≡ fault 6 5
no_negative_length = refl

one_too_many : array (number_of I64 (pos 2147483648) 5) ≡ fault 6 5
one_too_many = refl

no_variable_length : array (i 5) ≡ fault 6 5
no_variable_length = refl

no_pointer : array (p 5) ≡ fault 6 5
no_pointer = refl

no_null_pointer : array (null 5) ≡ fault 6 5
unfolding library_constant
no_null_pointer = refl

no_string : array (text 4) ≡ fault 6 4
no_string = refl

no_call : array (nothing 6) ≡ fault 6 6
no_call = refl

no_assignment : array (assign 7 (i 5) (one 9)) ≡ fault 6 7
no_assignment = refl

no_comma : array (comma 6 (one 5) (one 8)) ≡ fault 6 6
no_comma = refl

-- 1 ? 2 : i, where what isn't evaluated has to be of constants too; (int *)0 == 0
no_variable_beside_it : array (choice 7 (one 5) (number 2 9) (i 13)) ≡ fault 6 7
no_variable_beside_it = refl

no_cast_to_a_pointer : array (binary Eq 13 (cast 5 (Ptr int) (zero 12)) (zero 16)) ≡ fault 6 13
no_cast_to_a_pointer = refl

-- 1 / 0, 2147483647 + 1, 1 << 32: no value
no_value : map array (binary Div 7 (one 5) (zero 9) ∷ binary Add 16 (number 2147483647 5) (one 18) ∷ binary Shl 7 (one 5) (number 32 10) ∷ []) ≡ fault 6 7 ∷ fault 6 16 ∷ fault 6 7 ∷ []
no_value = refl

-- 1 ? 2 : 1 / 0, 1 || 1 / 0: none is asked for
not_evaluated : map array (choice 7 (one 5) (number 2 9) (binary Div 15 (one 13) (zero 17)) ∷ either 7 (one 5) (binary Div 12 (one 10) (zero 14)) ∷ []) ≡ of 2 ∷ of 1 ∷ []
not_evaluated = refl

-- 0 && (1, 2), 1 || (1, 2), N ? 5 : (1, 2): a comma may stand there
a_comma_that_isnt_evaluated : map array (binary Add 7 (one 5) (both 12 (zero 10) (comma 18 (one 17) (number 2 20))) ∷ either 7 (one 5) (comma 12 (one 11) (number 2 14)) ∷ choice 7 (three 5) (number 5 9) (comma 15 (one 14) (number 2 17)) ∷ [])
    ≡ of 1 ∷ of 1 ∷ of 5 ∷ []
a_comma_that_isnt_evaluated = refl

-- 1 && (1, 2): but not here
a_comma_that_is_evaluated : array (both 7 (one 5) (comma 12 (one 11) (number 2 14))) ≡ fault 6 7
a_comma_that_is_evaluated = refl

a_fault_inside : array (binary Add 7 (unknown 5) (one 9)) ≡ fault 5 5
unfolding library_constant
a_fault_inside = refl

-- of two lengths the first in the text: int [0][0]
the_first_of_two : refusing (typed_type sight (at 0) (Array (Array int (Written (zero 8))) (Written (zero 5)))) ≡ Some (record { code = 6; place = at 5 })
the_first_of_two = refl

no_array_of_void : typed_type sight (at 0) (Array Void (Written (one 6))) ≡ fault 6 0
no_array_of_void = refl

-- ---- the value of an enumerator is one that an `int` holds, or told at the expression; without one it is the next, or told at the name

-- the value of the enumerator at 0 behind one that has the number before this, from 4 on
abbrev enumerator : ℤ → Option Expression → Checked ℤ
enumerator next e = one_part (typed_value sight (at 0) next e) (λ v. Good v.0)

-- enum { new, s, u = s + 6, d } behind what is in sight
one_behind_the_other : one_part (typed_enumerators sight (pos 0) (record { place = at 4; name = 38; value = None } ∷ record { place = at 9; name = 34; value = None }
    ∷ record { place = at 12; name = 36; value = Some (binary Add 18 (name 34 16) (number 6 20)) } ∷ record { place = at 23; name = 32; value = None } ∷ []))
    (λ x. Good (drop (length sight.entities) (x.0).entities))
    ≡ Good (AnEnumerator (record { name = 38; value = pos 0 }) ∷ AnEnumerator (record { name = 34; value = pos 1 }) ∷ AnEnumerator (record { name = 36; value = pos 7 }) ∷ AnEnumerator (record { name = 32; value = pos 8 }) ∷ [])
unfolding library_constant is_library_name
one_behind_the_other = refl

its_own_value : enumerator (pos 0) (Some (unary Minus 4 (number 7 5))) ≡ Good (negsuc 6)
its_own_value = refl

the_next_value : enumerator (pos 4) None ≡ Good (pos 4)
the_next_value = refl

the_greatest_value : enumerator (pos 0) (Some (number 2147483647 4)) ≡ Good (pos 2147483647)
the_greatest_value = refl

the_least_value : enumerator (pos 0) (Some (binary Sub 16 (unary Minus 4 (number 2147483647 5)) (one 18))) ≡ Good (negsuc 2147483647)
the_least_value = refl

of_another_type : enumerator (pos 0) (Some (number_of U64 (pos 5) 4)) ≡ Good (pos 5)
of_another_type = refl

no_value_past_int : enumerator (pos 0) (Some (number_of I64 (pos 2147483648) 4)) ≡ fault 6 4
no_value_past_int = refl

no_next_value_past_int : enumerator (pos 2147483648) None ≡ fault 6 0
no_next_value_past_int = refl

no_variable_value : enumerator (pos 0) (Some (i 4)) ≡ fault 6 4
no_variable_value = refl

no_quotient_by_zero : enumerator (pos 0) (Some (binary Div 6 (one 4) (zero 8))) ≡ fault 6 6
no_quotient_by_zero = refl

no_pointer_value : enumerator (pos 0) (Some (text 4)) ≡ fault 6 4
no_pointer_value = refl
