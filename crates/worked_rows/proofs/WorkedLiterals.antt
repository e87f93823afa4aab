-- The types of literals and names, by computation (C99 6.4.4, 6.4.5, 6.5.1, 6.7.2.2, 5.2.4.2.1, 7.17, 7.19, 7.20).
use Rattle.std.proofs.Common.{◌≡◌, ℕ, pos, negsuc, List, [], ◌∷◌, map, Some, None, codes, refl}
use Rattle.c_syntax.specs.declared.types.CInt.TheVariants.{I8, U8, I16, U16, I32, U32, I64, U64}
use Rattle.c_syntax.specs.Ctypes.{Void, Ptr, Array, Count}
use Rattle.c_syntax.specs.Expressions.{Expression, Node, Number, Letter, Text}
use Rattle.c_model.specs.Checked.{Good}
use Rattle.c_model.specs.Library.{library_constant}
use Rattle.c_model.specs.Literals.{digits_at, suffix_of, body_of, literal_of}
use Rattle.c_model.specs.ExpressionTyping.{typed}
use Rattle.worked_rows.proofs.WorkedSight.{at, fault, int, char, struct_s, sight, read, name, integers, p, a, r, three, null, unknown, number_of, letter, text, f, g, late}
use Rattle.worked_rows.proofs.WorkedSight.{object, constant, type_of, every, are}

-- ---- an integer literal has the first type of its list that holds it (C99 6.4.4.1 p5)

decimal_literals :
    (literal_of (codes "2147483647") ≡ Some (2147483647, Some I32)) ×
    (literal_of (codes "2147483648") ≡ Some (2147483648, Some I64)) ×
    (literal_of (codes "4294967295") ≡ Some (4294967295, Some I64)) ×
    (literal_of (codes "9223372036854775807") ≡ Some (9223372036854775807, Some I64)) ×
    (literal_of (codes "9223372036854775808") ≡ Some (9223372036854775808, None)) ×
    (literal_of (codes "7L") ≡ Some (7, Some I64)) ×
    (literal_of (codes "7ll") ≡ Some (7, Some I64)) ×
    (literal_of (codes "4294967295u") ≡ Some (4294967295, Some U32)) ×
    (literal_of (codes "4294967296u") ≡ Some (4294967296, Some U64)) ×
    (literal_of (codes "18446744073709551615u") ≡ Some (18446744073709551615, Some U64)) ×
    (literal_of (codes "18446744073709551616u") ≡ Some (18446744073709551616, None)) ×
    (literal_of (codes "7lu") ≡ Some (7, Some U64))
unfolding digits_at suffix_of body_of literal_of
decimal_literals = (refl, refl, refl, refl, refl, refl, refl, refl, refl, refl, refl, refl)

other_literals :
    (literal_of (codes "0x7fffffff") ≡ Some (2147483647, Some I32)) ×
    (literal_of (codes "0x80000000") ≡ Some (2147483648, Some U32)) ×
    (literal_of (codes "0x100000000") ≡ Some (4294967296, Some I64)) ×
    (literal_of (codes "0x8000000000000000") ≡ Some (9223372036854775808, Some U64)) ×
    (literal_of (codes "0x10000000000000000") ≡ Some (18446744073709551616, None)) ×
    (literal_of (codes "017777777777") ≡ Some (2147483647, Some I32)) ×
    (literal_of (codes "037777777777") ≡ Some (4294967295, Some U32)) ×
    (literal_of (codes "0x80000000l") ≡ Some (2147483648, Some I64)) ×
    (literal_of (codes "0x8000000000000000l") ≡ Some (9223372036854775808, Some U64))
unfolding digits_at suffix_of body_of literal_of
other_literals = (refl, refl, refl, refl, refl, refl, refl, refl, refl)

a_literal_keeps_its_type : typed sight (number_of U32 (pos 4294967295) 0) ≡ Good (constant U32 (pos 4294967295) 0)
a_literal_keeps_its_type = refl

a_literal_of_no_type : typed sight (read 0 (Number (pos 9223372036854775808) None)) ≡ fault 6 0
a_literal_of_no_type = refl

a_literal_of_a_type_that_doesnt_hold_it : typed sight (number_of I32 (pos 2147483648) 0) ≡ fault 6 0
a_literal_of_a_type_that_doesnt_hold_it = refl

-- `'A'` and `'\377'`
a_character_is_an_int : typed sight (letter (pos 65) 0) ≡ Good (Node (at 0) int (Letter (pos 65)))
a_character_is_an_int = refl

a_negative_character_is_one_too : type_of (letter (negsuc 0) 0) ≡ Good int
a_negative_character_is_one_too = refl

-- `"hey"`, the second string of the text, with the 0 behind its bytes
a_string_is_an_array : typed sight (text 4) ≡ Good (Node (at 4) (Array char (Count 4)) (Text 1))
a_string_is_an_array = refl

-- ---- names

-- c, b, h, k, i, j, l, m
integers_have_their_types : map (λ (e : ℕ → Expression). type_of (e 0)) integers ≡ are (I8 ∷ U8 ∷ I16 ∷ U16 ∷ I32 ∷ U32 ∷ I64 ∷ U64 ∷ [])
integers_have_their_types = refl

an_object_is_a_use_of_its_declaration : typed sight (p 0) ≡ Good (object 8 (Ptr int) 0)
an_object_is_a_use_of_its_declaration = refl

an_array_is_itself : typed sight (a 0) ≡ Good (object 12 (Array int (Count 4)) 0)
an_array_is_itself = refl

a_struct_is_itself : typed sight (r 0) ≡ Good (object 14 struct_s 0)
a_struct_is_itself = refl

-- N, which is 3
an_enumerator_is_an_int : typed sight (three 0) ≡ Good (constant I32 (pos 3) 0)
an_enumerator_is_an_int = refl

null_points_to_void : type_of (null 0) ≡ Good (Ptr Void)
unfolding library_constant
null_points_to_void = refl

end_of_file_is_an_int : typed sight (name 26 0) ≡ Good (constant I32 (negsuc 0) 0)
unfolding library_constant
end_of_file_is_an_int = refl

the_greatest_unsigned_is_unsigned : typed sight (name 27 0) ≡ Good (constant U32 (pos 4294967295) 0)
unfolding library_constant
the_greatest_unsigned_is_unsigned = refl

-- each constant of the library: the bounds of a type are of its promoted type
constants_of_the_library :
    (library_constant (codes "EOF") ≡ Some (I32, negsuc 0)) ×
    (library_constant (codes "EXIT_SUCCESS") ≡ Some (I32, pos 0)) ×
    (library_constant (codes "EXIT_FAILURE") ≡ Some (I32, pos 1)) ×
    (library_constant (codes "CHAR_BIT") ≡ Some (I32, pos 8)) ×
    (library_constant (codes "CHAR_MIN") ≡ Some (I32, negsuc 127)) ×
    (library_constant (codes "CHAR_MAX") ≡ Some (I32, pos 127)) ×
    (library_constant (codes "SCHAR_MIN") ≡ Some (I32, negsuc 127)) ×
    (library_constant (codes "SCHAR_MAX") ≡ Some (I32, pos 127)) ×
    (library_constant (codes "UCHAR_MAX") ≡ Some (I32, pos 255)) ×
    (library_constant (codes "SHRT_MIN") ≡ Some (I32, negsuc 32767)) ×
    (library_constant (codes "SHRT_MAX") ≡ Some (I32, pos 32767)) ×
    (library_constant (codes "USHRT_MAX") ≡ Some (I32, pos 65535)) ×
    (library_constant (codes "INT_MIN") ≡ Some (I32, negsuc 2147483647)) ×
    (library_constant (codes "INT_MAX") ≡ Some (I32, pos 2147483647)) ×
    (library_constant (codes "UINT_MAX") ≡ Some (U32, pos 4294967295)) ×
    (library_constant (codes "LONG_MIN") ≡ Some (I64, negsuc 9223372036854775807)) ×
    (library_constant (codes "LONG_MAX") ≡ Some (I64, pos 9223372036854775807)) ×
    (library_constant (codes "ULONG_MAX") ≡ Some (U64, pos 18446744073709551615)) ×
    (library_constant (codes "LLONG_MIN") ≡ Some (I64, negsuc 9223372036854775807)) ×
    (library_constant (codes "LLONG_MAX") ≡ Some (I64, pos 9223372036854775807)) ×
    (library_constant (codes "ULLONG_MAX") ≡ Some (U64, pos 18446744073709551615)) ×
    (library_constant (codes "NULL") ≡ None)
unfolding library_constant
constants_of_the_library = (refl, refl, refl, refl, refl, refl, refl, refl, refl, refl, refl, refl, refl, refl, refl, refl, refl, refl, refl, refl, refl, refl)

a_name_without_a_declaration : typed sight (unknown 0) ≡ fault 5 0
unfolding library_constant
a_name_without_a_declaration = refl

-- a member's name and a tag, which are no names of values: n, s
a_member_without_its_struct : typed sight (name 31 0) ≡ fault 5 0
unfolding library_constant
a_member_without_its_struct = refl

a_tag_alone : typed sight (name 34 0) ≡ fault 5 0
unfolding library_constant
a_tag_alone = refl

-- f, g, a function without a definition, main, putchar, malloc: none stands where it isn't called
abbrev functions : List ℕ
functions = f ∷ g ∷ late ∷ 24 ∷ 28 ∷ 29 ∷ []

functions_stand_where_they_are_called : map (λ (x : ℕ). type_of (name x 0)) functions ≡ every functions (fault 6 0)
unfolding library_constant
functions_stand_where_they_are_called = refl
