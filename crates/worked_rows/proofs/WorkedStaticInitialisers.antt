-- The initialisers of objects at file scope (C99 6.6 p7 to p9, 6.7.8 p4), by computation: constants, null, strings, and addresses of such objects plus a
-- constant, without a value that is read. In `T new = I` the name stands at 0 and the `=` at 1.
use Rattle.std.proofs.Common.{◌≡◌, ℕ, pos, true, List, [], ◌∷◌, map, Some, refl, replicate}
use Rattle.c_syntax.specs.declared.expression.BinOp.TheVariants.{Add, Sub, Mul, Div}
use Rattle.c_syntax.specs.Ctypes.{PlainType, Void, Ptr, Array, Count}
use Rattle.c_syntax.specs.Expressions.{Expression}
use Rattle.c_syntax.specs.Statements.{Initialiser, One, Many, Initialisers, NoInitialiser, Listed}
use Rattle.c_model.specs.Checked.{Checked, Good, one_part}
use Rattle.c_model.specs.Library.{library_constant, is_library_name}
use Rattle.c_model.specs.DeclarationTyping.{typed_global}
use Rattle.worked_rows.proofs.WorkedSight.{at, fault, int, char, long, struct_s, sight, name, c, i, p, z, a, t, r, x, three, nought, null, number, one, zero, letter, text}
use Rattle.worked_rows.proofs.WorkedSight.{deref, address, binary, choice, comma, assign, index, n, d, dot, arrow, cast, size_of, call, g}

abbrev type_with : PlainType → Initialiser → Checked PlainType
type_with t init = one_part (typed_global sight (record { place = at 0; name = 38; named = true; ctype = t; init = Some (at 1, init) })) (λ d. Good d.ctype)

abbrev by : PlainType → List Expression → List (Checked PlainType)
by t es = map (λ (e : Expression). type_with t (One e)) es

abbrev listed : List Initialiser → Initialisers
listed [] = NoInitialiser
listed (i ∷ is) = Listed i (listed is)

abbrev many : ℕ → List Initialiser → Initialiser
many o is = Many (at o) (listed is)

-- ---- integers

-- 3 * N, 'A', sizeof a, (char)300, 1 ? 2 : 1 / 0
constants : by int (binary Mul 5 (number 3 3) (three 7) ∷ letter (pos 65) 3 ∷ size_of 3 (a 10) ∷ cast 3 char (number 300 9) ∷ choice 5 (one 3) (number 2 7) (binary Div 13 (one 11) (zero 15)) ∷ [])
    ≡ replicate 5 (Good int)
unfolding library_constant is_library_name
constants = refl

-- i, i - i, a[0], *p, g(1, p), 1 / 0, (1, 2), i = 1
no_constants : by int (i 3 ∷ binary Sub 5 (i 3) (i 7) ∷ index 4 (a 3) (zero 5) ∷ deref 3 (p 4) ∷ call g 4 (one 5 ∷ p 8 ∷ []) ∷ binary Div 5 (one 3) (zero 7) ∷ comma 5 (one 4) (number 2 7) ∷ assign 5 (i 3) (one 7) ∷ [])
    ≡ replicate 8 (fault 6 1)
unfolding library_constant is_library_name
no_constants = refl

-- long new = &a[1] - a
no_difference_of_addresses : by long (binary Sub 9 (address 3 (index 5 (a 4) (one 6))) (a 11) ∷ []) ≡ fault 6 1 ∷ []
unfolding library_constant is_library_name
no_difference_of_addresses = refl

-- ---- null and strings

-- 0, Z, NULL, (int *)0
null_pointers : by (Ptr int) (zero 3 ∷ nought 3 ∷ null 3 ∷ cast 3 (Ptr int) (zero 10) ∷ []) ≡ replicate 4 (Good (Ptr int))
unfolding library_constant is_library_name
null_pointers = refl

a_string : by (Ptr char) (text 4 ∷ []) ≡ Good (Ptr char) ∷ []
unfolding library_constant is_library_name
a_string = refl

-- "hey" + 1, (char *)"hey", &"hey"[1]: the string alone
no_part_of_a_string : by (Ptr char) (binary Add 10 (text 4) (one 12) ∷ cast 3 (Ptr char) (text 4) ∷ address 3 (index 9 (text 4) (one 10)) ∷ []) ≡ replicate 3 (fault 6 1)
unfolding library_constant is_library_name
no_part_of_a_string = refl

-- ---- addresses

-- a, &a[3], a + 4, 4 + a, a + 4 - 1, &*a, &i, &r.n, *t, t[1], &t[1][2], (int *)r.d, (int *)(void *)&c
addresses : by (Ptr int) (a 3 ∷ address 3 (index 5 (a 4) (three 6)) ∷ binary Add 5 (a 3) (number 4 7) ∷ binary Add 5 (number 4 3) (a 7) ∷ binary Sub 9 (binary Add 5 (a 3) (number 4 7)) (one 11)
    ∷ address 3 (deref 4 (a 5)) ∷ address 3 (i 4) ∷ address 3 (dot 5 (r 4) n) ∷ deref 3 (t 4) ∷ index 4 (t 3) (one 5) ∷ address 3 (index 8 (index 5 (t 4) (one 6)) (number 2 9))
    ∷ cast 3 (Ptr int) (dot 11 (r 10) d) ∷ cast 3 (Ptr int) (cast 10 (Ptr Void) (address 18 (c 19))) ∷ [])
    ≡ replicate 13 (Good (Ptr int))
unfolding library_constant is_library_name
addresses = refl

-- p, p + 1, &*p, &p[1], &x->n, (int *)z: a pointer that is read
no_pointer_is_read : by (Ptr int) (p 3 ∷ binary Add 5 (p 3) (one 7) ∷ address 3 (deref 4 (p 5)) ∷ address 3 (index 5 (p 4) (one 6)) ∷ address 3 (arrow 5 (x 4) n) ∷ cast 3 (Ptr int) (z 10) ∷ [])
    ≡ replicate 6 (fault 6 1)
unfolding library_constant is_library_name
no_pointer_is_read = refl

-- a + i, &a[i], 1 ? a : a, (0, a)
no_other_forms : by (Ptr int) (binary Add 5 (a 3) (i 7) ∷ address 3 (index 5 (a 4) (i 6)) ∷ choice 5 (one 3) (a 7) (a 11) ∷ comma 5 (zero 4) (a 7) ∷ []) ≡ replicate 4 (fault 6 1)
unfolding library_constant is_library_name
no_other_forms = refl

-- &i + 1, (int *)((char *)&i + 4), to the end of the object
up_to_the_end : by (Ptr int) (binary Add 6 (address 3 (i 4)) (one 8) ∷ cast 3 (Ptr int) (binary Add 21 (cast 11 (Ptr char) (address 19 (i 20))) (number 4 23)) ∷ []) ≡ replicate 2 (Good (Ptr int))
unfolding library_constant is_library_name
up_to_the_end = refl

past_the_end : by (Ptr int) (binary Add 6 (address 3 (i 4)) (number 2 8) ∷ cast 3 (Ptr int) (binary Add 21 (cast 11 (Ptr char) (address 19 (i 20))) (number 5 23)) ∷ []) ≡ replicate 2 (fault 6 1)
unfolding library_constant is_library_name
past_the_end = refl

-- &a[5], a + 5, a - 1, &t[2][1], &((struct s *)0)->n: no value
no_value : by (Ptr int) (address 3 (index 5 (a 4) (number 5 6)) ∷ binary Add 5 (a 3) (number 5 7) ∷ binary Sub 5 (a 3) (one 7) ∷ address 3 (index 8 (index 5 (t 4) (number 2 6)) (one 9))
    ∷ address 3 (arrow 20 (cast 5 (Ptr struct_s) (zero 17)) n) ∷ [])
    ≡ replicate 5 (fault 6 1)
unfolding library_constant is_library_name
no_value = refl

-- void *new = &new
its_own_address : by (Ptr Void) (address 3 (name 38 4) ∷ []) ≡ Good (Ptr Void) ∷ []
unfolding library_constant is_library_name
its_own_address = refl

-- int new = new
its_own_value_isnt_there : by int (name 38 3 ∷ []) ≡ fault 6 1 ∷ []
unfolding library_constant is_library_name
its_own_value_isnt_there = refl

-- ---- in lists each item is one, and its fault is there

-- int new[3] = {1, N, 1 / 0}
an_item_without_a_value : type_with (Array int (Count 3)) (many 3 (One (one 4) ∷ One (three 7) ∷ One (binary Div 12 (one 10) (zero 14)) ∷ [])) ≡ fault 6 12
unfolding library_constant is_library_name
an_item_without_a_value = refl

-- struct s new = {1, "hey", &r}, {i}, {1, "hey", x}
a_struct_of_constants : type_with struct_s (many 2 (One (one 3) ∷ One (text 4) ∷ One (address 11 (r 12)) ∷ [])) ≡ Good struct_s
unfolding library_constant is_library_name
a_struct_of_constants = refl

a_member_that_is_read : type_with struct_s (many 2 (One (i 3) ∷ [])) ≡ fault 6 3
unfolding library_constant is_library_name
a_member_that_is_read = refl

a_pointer_that_is_read : type_with struct_s (many 2 (One (one 3) ∷ One (text 4) ∷ One (x 11) ∷ [])) ≡ fault 6 11
unfolding library_constant is_library_name
a_pointer_that_is_read = refl
