-- Effects anywhere in expressions (C99 6.5), by computation: what an operator gives, in which order its operands are evaluated, and where it is undefined.
use Rattle.std.proofs.Common.{◌≡◌, ℕ, pos, negsuc, true, List, [], ◌∷◌, replicate, Option, None, Some, codes, refl}
use Rattle.c_syntax.specs.declared.expression.BinOp.{BinOp}
use Rattle.c_syntax.specs.declared.expression.BinOp.TheVariants.{Add, Sub, Mul, Div}
use Rattle.c_syntax.specs.declared.expression.BumpOp.{BumpOp}
use Rattle.c_syntax.specs.declared.expression.BumpOp.TheVariants.{PreUp, PreDown, PostUp, PostDown}
use Rattle.c_syntax.specs.declared.expression.UnOp.TheVariants as unary
use Rattle.c_syntax.specs.declared.types.CInt.{CInt}
use Rattle.c_syntax.specs.declared.types.CInt.TheVariants.{I8, U8, I32, U64}
use Rattle.c_syntax.specs.Ctypes.{PlainType, Void, Int, Ptr, Array, Struct, Count, int_type}
use Rattle.c_syntax.specs.Expressions.{Expression, Node, Variable, Unary, Binary, Both, Either, Choice, Assign, Bump, Cast, SizeOfExpr, Index, Dot, Comma}
use Rattle.c_syntax.specs.Statements.{BlockItem, Declaration, Declare, One, Many, Listed, NoInitialiser}
use Rattle.c_syntax.specs.Programs.{Function, TranslationUnit}
use Rattle.c_syntax.specs.declared.place.Place.{Place}
use Rattle.c_syntax.specs.declared.types.BlockKind.TheVariants as block
use Rattle.c_model.specs.Memory.{Value, Points, Into, Unwritten, pieces, block_of, heap_block}
use Rattle.c_model.specs.State.{State, Exits, Undefined, Outcome, Normal, Stop, Over}
use Rattle.c_model.specs.Meaning.{Ran, eval}
use Rattle.worked_rows.proofs.WorkedTrees.{cast, definition, int_parameter, library_call, no_input}
use Rattle.worked_rows.proofs.WorkedClauses.{at, lit, var, set_to, operated, call_of, put_of, does, sets, exits_with, returns, int_of, global_of, function_of, main_of, program, runs, ends, exits}

-- ---- expressions over int x = 1, which has the number 50, and int y = 2, which has the number 60

abbrev x : Expression
x = var 50

abbrev y : Expression
y = var 60

abbrev gives : Expression → Ran
gives e = runs (program [] (main_of (int_of 50 (lit 1) ∷ int_of 60 (lit 2) ∷ returns e ∷ []) ∷ []))

abbrev in_type : PlainType → Expression → Expression → Expression
in_type t a b = Node (at 3 3) t (Assign None a b)

abbrev adds : Expression → Expression → Expression
adds = operated Add

abbrev bumped : BumpOp → Expression → Expression
bumped op e = Node (at 2 2) int_type (Bump op e)

abbrev and : Expression → Expression → Expression
and a b = Node (at 1 1) int_type (Both a b)

abbrev or : Expression → Expression → Expression
or a b = Node (at 1 1) int_type (Either a b)

abbrev choice : Expression → Expression → Expression → Expression
choice c a b = Node (at 1 1) int_type (Choice c a b)

abbrev comma : Expression → Expression → Expression
comma a b = Node (at 1 1) int_type (Comma a b)

abbrev compound : BinOp → Expression → Expression → Expression
compound op a b = Node (at 2 2) int_type (Assign (Some op) a b)

-- ---- what assignments give

-- (x = y = 5) + x + y
assignments_from_the_right : gives (adds (adds (set_to 50 (set_to 60 (lit 5))) x) y) ≡ exits (pos 15) 9
assignments_from_the_right = refl

-- char c; (c = 300) is 44
abbrev of_type : CInt → ℕ → Expression
of_type k decl = Node (at 1 1) (Int k) (Variable (record { name = 0; decl = decl }))

abbrev char_gives : CInt → ℕ → (Expression → Expression) → Ran
char_gives k n f = runs (program [] (main_of (Declare (record { place = at 1 70; name = 0; named = true; ctype = Int k; init = Some (at 1 1, One (cast k (lit n))) } ∷ []) ∷ returns (cast I32 (f (of_type k 70))) ∷ []) ∷ []))

the_value_that_was_written : char_gives I8 0 (λ c. Node (at 1 1) (Int I8) (Assign None c (cast I8 (lit 300)))) ≡ exits (pos 44) 9
the_value_that_was_written = refl

a_sum_in_the_left_type : char_gives U8 250 (λ c. Node (at 1 1) (Int U8) (Assign (Some Add) c (lit 10))) ≡ exits (pos 4) 9
a_sum_in_the_left_type = refl

-- (x *= 13) + x
a_compound_gives_its_new_value : gives (adds (compound Mul x (lit 13)) x) ≡ exits (pos 26) 9
a_compound_gives_its_new_value = refl

-- ---- `++` and `--`

-- x++ + x, ++x + x, x-- + x, --x + x, where x is 1
the_old_value_going_up : gives (adds (bumped PostUp x) x) ≡ exits (pos 3) 9
the_old_value_going_up = refl

the_new_value_going_up : gives (adds (bumped PreUp x) x) ≡ exits (pos 4) 9
the_new_value_going_up = refl

the_old_value_going_down : gives (adds (bumped PostDown x) x) ≡ exits (pos 1) 9
the_old_value_going_down = refl

the_new_value_going_down : gives (adds (bumped PreDown x) x) ≡ exits (pos 0) 9
the_new_value_going_down = refl

abbrev char_bumped : BumpOp → Expression → Expression
char_bumped op c = Node (at 1 1) (Int I8) (Bump op c)

abbrev byte_bumped : BumpOp → Expression → Expression
byte_bumped op c = Node (at 1 1) (Int U8) (Bump op c)

a_char_wraps_going_up : char_gives I8 127 (char_bumped PreUp) ≡ exits (negsuc 127) 9
a_char_wraps_going_up = refl

a_char_gives_what_it_was : char_gives I8 127 (char_bumped PostUp) ≡ exits (pos 127) 9
a_char_gives_what_it_was = refl

a_byte_wraps_going_down : char_gives U8 0 (byte_bumped PreDown) ≡ exits (pos 255) 9
a_byte_wraps_going_down = refl

an_int_doesnt_wrap : gives (comma (set_to 50 (lit 2147483647)) (bumped PostUp x)) ≡ ends (Undefined (at 2 2)) [] 9
an_int_doesnt_wrap = refl

-- ---- lazy operators

-- x = 0: x && (y = 9), and then y
the_right_of_and_isnt_evaluated : gives (comma (and (set_to 50 (lit 0)) (set_to 60 (lit 9))) y) ≡ exits (pos 2) 9
the_right_of_and_isnt_evaluated = refl

the_right_of_and_is_evaluated : gives (adds (and x (set_to 60 (lit 9))) y) ≡ exits (pos 10) 9
the_right_of_and_is_evaluated = refl

the_right_of_or_isnt_evaluated : gives (adds (or x (set_to 60 (lit 9))) y) ≡ exits (pos 3) 9
the_right_of_or_isnt_evaluated = refl

the_right_of_or_is_evaluated : gives (adds (or (operated Sub x (lit 1)) (set_to 60 (lit 9))) y) ≡ exits (pos 10) 9
the_right_of_or_is_evaluated = refl

-- x++ ? (y = 9) : 1 / 0
one_branch_alone : gives (adds (choice (bumped PostUp x) (set_to 60 (lit 9)) (operated Div (lit 1) (lit 0))) (adds x y)) ≡ exits (pos 20) 9
one_branch_alone = refl

-- (x = 0, y)
the_right_of_a_comma : gives (adds (comma (set_to 50 (lit 0)) y) x) ≡ exits (pos 2) 9
the_right_of_a_comma = refl

-- 1 / 0, y: the left operand is read
the_left_of_a_comma_may_be_undefined : gives (comma (Node (at 2 2) int_type (Binary Div (lit 1) (lit 0))) y) ≡ ends (Undefined (at 2 2)) [] 9
the_left_of_a_comma_may_be_undefined = refl

-- sizeof(x++) + x
the_operand_of_sizeof_isnt_evaluated : gives (adds (cast I32 (Node (at 1 1) (Int U64) (SizeOfExpr (bumped PostUp x)))) x) ≡ exits (pos 5) 9
the_operand_of_sizeof_isnt_evaluated = refl

-- ---- order

-- x + (x = 10) + x
operands_from_the_left : gives (adds (adds x (set_to 50 (lit 10))) x) ≡ exits (pos 21) 9
operands_from_the_left = refl

-- x -= x++: the current value, then the right side, and then the write: 1 - 1
a_compound_takes_the_current_value_first : gives (comma (compound Sub x (bumped PostUp x)) x) ≡ exits (pos 0) 9
a_compound_takes_the_current_value_first = refl

-- int a[3]; a[i] = .. where the element is that of the index before
abbrev a : Expression
a = Node (at 1 1) (Array int_type (Count 3)) (Variable (record { name = 0; decl = 80 }))

abbrev element : Expression → Expression
element i = Node (at 4 4) int_type (Index (Node (at 1 1) (Ptr int_type) (Cast (Ptr int_type) a)) i)

-- int a[3] = {5, 6, 7}, *q;
abbrev with_array : Expression → Ran
with_array e = runs (program [] (main_of (int_of 50 (lit 1) ∷ Declare (record {
  place = at 1 80;
  name = 0;
  named = true;
  ctype = Array int_type (Count 3);
  init = Some (at 1 1, Many (at 1 1) (Listed (One (lit 5)) (Listed (One (lit 6)) (Listed (One (lit 7)) NoInitialiser))));
} ∷ record { place = at 1 90; name = 0; named = true; ctype = Ptr int_type; init = None } ∷ []) ∷ returns e ∷ []) ∷ []))

-- a[x] = x = 2, and then a[1] * 10 + a[2]
the_place_comes_first : with_array (comma (in_type int_type (element x) (set_to 50 (lit 2))) (adds (operated Mul (element (lit 1)) (lit 10)) (element (lit 2)))) ≡ exits (pos 27) 9
the_place_comes_first = refl

-- a[x++] += 10, and then a[1] * 10 + x
the_place_is_evaluated_once : with_array (comma (compound Add (element (bumped PostUp x)) (lit 10)) (adds (operated Mul (element (lit 1)) (lit 10)) x)) ≡ exits (pos 162) 9
the_place_is_evaluated_once = refl

-- a[4] = (x = 2): `[]` is judged before the right side; a[3] = .. at the write
an_element_outside_comes_before_the_value : with_array (in_type int_type (element (lit 4)) (put_of (lit 65))) ≡ ends (Undefined (at 4 4)) [] 9
an_element_outside_comes_before_the_value = refl

one_past_comes_after_the_value : with_array (in_type int_type (element (lit 3)) (put_of (lit 65))) ≡ ends (Undefined (at 3 3)) (codes "A") 9
one_past_comes_after_the_value = refl

reading_one_past : with_array (element (lit 3)) ≡ ends (Undefined (at 4 4)) [] 9
reading_one_past = refl

-- ---- calls in expressions: int f(int n) { g = 60; putchar(n); return n; }, where g is 1

abbrev f : Function
f = function_of int_type 10 (sets 5 (lit 60) ∷ does (put_of (var 20)) ∷ returns (var 20) ∷ [])

abbrev g : Expression
g = var 5

abbrev f_of : ℕ → Expression
f_of n = call_of 10 (lit n ∷ [])

abbrev calling : Expression → Ran
calling e = runs (program (global_of (lit 1) ∷ []) (f ∷ main_of (returns e ∷ []) ∷ []))

calls_from_the_left : calling (operated Sub (f_of 67) (f_of 66)) ≡ ends (Exits (pos 1)) (codes "CB") 7
calls_from_the_left = refl

a_read_before_a_call : calling (adds (adds g (f_of 65)) g) ≡ ends (Exits (pos 126)) (codes "A") 8
a_read_before_a_call = refl

a_read_after_a_call : calling (adds (f_of 65) g) ≡ ends (Exits (pos 125)) (codes "A") 8
a_read_after_a_call = refl

-- g += f(65), and then g
the_current_value_before_a_call : calling (comma (compound Add g (f_of 65)) g) ≡ ends (Exits (pos 66)) (codes "A") 8
the_current_value_before_a_call = refl

-- f(f(65) + 1)
the_inner_call_first : calling (call_of 10 (adds (f_of 65) (lit 1) ∷ [])) ≡ ends (Exits (pos 66)) (codes "AB") 7
the_inner_call_first = refl

-- f(65) && f(66) || f(67)
calls_of_lazy_operators : calling (or (and (f_of 65) (f_of 66)) (f_of 67)) ≡ ends (Exits (pos 1)) (codes "AB") 7
calls_of_lazy_operators = refl

-- putchar(putchar(65) + 1)
what_putchar_gives : calling (put_of (adds (put_of (lit 65)) (lit 1))) ≡ ends (Exits (pos 66)) (codes "AB") 9
what_putchar_gives = refl

-- int h(int m, int n) { return m * 10 + n; }  h(x, x++) * 100 + h(x++, x): 11 and 23
abbrev h : Function
h = definition int_type (at 1 11) 1 (int_parameter (at 1 21) 0 ∷ int_parameter (at 1 22) 0 ∷ []) (at 1 2) (at 9 9) (returns (adds (operated Mul (var 21) (lit 10)) (var 22)) ∷ [])

arguments_from_the_left : runs (program [] (h ∷ main_of (int_of 50 (lit 1) ∷ returns (adds (operated Mul (call_of 11 (x ∷ bumped PostUp x ∷ [])) (lit 100)) (call_of 11 (bumped PostUp x ∷ x ∷ []))) ∷ []) ∷ []))
    ≡ exits (pos 1123) 7
arguments_from_the_left = refl

-- ---- places through pointers: int *p, which has the number 6 and is null; int f(int n) { exit(3); return 0; }

abbrev p : Expression
p = Node (at 1 1) (Ptr int_type) (Variable (record { name = 0; decl = 6 }))

abbrev points : Declaration
points = record { place = at 1 6; name = 0; named = true; ctype = Ptr int_type; init = None }

-- *p = f(0): null is written after the call, which doesn't come back
null_is_written_after_the_value : runs (program (points ∷ []) (function_of int_type 10 (exits_with (lit 3) ∷ returns (lit 0) ∷ []) ∷ main_of (does (in_type int_type (Node (at 2 2) int_type (Unary unary.Deref p)) (f_of 0)) ∷ []) ∷ []))
    ≡ exits (pos 3) 8
null_is_written_after_the_value = refl

null_is_written : runs (program (points ∷ []) (main_of (does (in_type int_type (Node (at 2 2) int_type (Unary unary.Deref p)) (put_of (lit 65))) ∷ []) ∷ [])) ≡ ends (Undefined (at 3 3)) (codes "A") 9
null_is_written = refl

-- *p += putchar(65): the current value is read first, by the compound itself
null_is_read_by_a_compound : runs (program (points ∷ []) (main_of (does (compound Add (Node (at 4 4) int_type (Unary unary.Deref p)) (put_of (lit 65))) ∷ []) ∷ [])) ≡ ends (Undefined (at 2 2)) [] 9
null_is_read_by_a_compound = refl

-- !p + (p ? 9 : 4)
null_is_tested : runs (program (points ∷ []) (main_of (returns (adds (Node (at 1 1) int_type (Unary unary.Not p)) (choice p (lit 9) (lit 4))) ∷ []) ∷ [])) ≡ exits (pos 5) 9
null_is_tested = refl

-- ---- pointers: int a[3] = {5, 6, 7}; int *q = a; which has the number 90

abbrev q : Expression
q = Node (at 1 1) (Ptr int_type) (Variable (record { name = 0; decl = 90 }))

abbrev start : Expression
start = Node (at 1 1) (Ptr int_type) (Cast (Ptr int_type) a)

abbrev with_pointer : Expression → Ran
with_pointer e = with_array (comma (Node (at 1 1) int_type (Comma (in_type (Ptr int_type) q start) (lit 0))) e)

abbrev pointer_bumped : BumpOp → Expression
pointer_bumped op = Node (at 2 2) (Ptr int_type) (Bump op q)

abbrev pointer_moved : BinOp → Expression → Expression
pointer_moved op e = Node (at 2 2) (Ptr int_type) (Assign (Some op) q e)

abbrev star : Expression → Expression
star e = Node (at 4 4) int_type (Unary unary.Deref e)

-- *q++ * 10 + *q
the_old_pointer : with_pointer (adds (operated Mul (star (pointer_bumped PostUp)) (lit 10)) (star q)) ≡ exits (pos 56) 9
the_old_pointer = refl

-- *++q * 10 + (q - a)
the_new_pointer : with_pointer (adds (operated Mul (star (pointer_bumped PreUp)) (lit 10)) (Node (at 1 1) int_type (Binary Sub q start))) ≡ exits (pos 61) 9
the_new_pointer = refl

-- *(q += 2)
a_compound_gives_a_pointer : with_pointer (star (pointer_moved Add (lit 2))) ≡ exits (pos 7) 9
a_compound_gives_a_pointer = refl

-- (q += 3) - a, *(q += 3) and q += 4
one_past_may_be_pointed_to : with_pointer (Node (at 1 1) int_type (Binary Sub (pointer_moved Add (lit 3)) start)) ≡ exits (pos 3) 9
one_past_may_be_pointed_to = refl

but_not_read : with_pointer (star (pointer_moved Add (lit 3))) ≡ ends (Undefined (at 4 4)) [] 9
but_not_read = refl

farther_may_not : with_pointer (star (pointer_moved Add (lit 4))) ≡ ends (Undefined (at 2 2)) [] 9
farther_may_not = refl

before_the_start_may_not : with_pointer (star (pointer_bumped PostDown)) ≡ ends (Undefined (at 2 2)) [] 9
before_the_start_may_not = refl

-- *q++ = *q + 1, and then a[0]: the right side reads from the new q
a_place_that_moves : with_pointer (comma (in_type int_type (star (pointer_bumped PostUp)) (adds (star q) (lit 1))) (element (lit 0))) ≡ exits (pos 7) 9
a_place_that_moves = refl

-- ---- int *p, to eight bytes of the heap; int f(int n) { free(p); return n; }

abbrev frees : TranslationUnit
frees = program (points ∷ []) (function_of int_type 10 (does (library_call Void (at 1 1) 5 (p ∷ [])) ∷ returns (var 20) ∷ []) ∷ [])

abbrev on_the_heap : State
on_the_heap = record {
  store = block_of block.Global (pieces (Into 2 0) 0 8) ∷ heap_block 0 (replicate 8 Unwritten) ∷ [];
  scope = (6, 1) ∷ [];
  marks = [];
  calls = 1;
  steps = 9;
  input = no_input;
  output = [];
}

abbrev value_in : Outcome Value → Option Value
value_in (Normal v s) = Some v
value_in (Stop e s) = None

abbrev undefined_in : Outcome Value → Option (Place × ℕ)
undefined_in (Stop (Over (Undefined at)) s) = Some (at, s.steps)
undefined_in _ = None

-- p += f(1): there is no place one element farther once the block is dead
judged_after_the_right_side : undefined_in (eval frees 9 (Node (at 7 7) (Ptr int_type) (Assign (Some Add) p (f_of 1))) on_the_heap) ≡ Some (at 7 7, 8)
judged_after_the_right_side = refl

-- *p = f(1): the block is dead when it is written
written_after_the_right_side : undefined_in (eval frees 9 (in_type int_type (star p) (f_of 1)) on_the_heap) ≡ Some (at 3 3, 8)
written_after_the_right_side = refl

-- p + f(1)
moved_after_both_sides : undefined_in (eval frees 9 (Node (at 8 8) (Ptr int_type) (Binary Add p (f_of 1))) on_the_heap) ≡ Some (at 8 8, 8)
moved_after_both_sides = refl

-- f(1), p = p
a_dead_pointer_is_copied : value_in (eval frees 9 (Node (at 1 1) (Ptr int_type) (Comma (f_of 1) (in_type (Ptr int_type) p p))) on_the_heap) ≡ Some (Points (Into 2 0))
a_dead_pointer_is_copied = refl

-- f(1), p ? 1 : 2
a_dead_pointer_isnt_tested : undefined_in (eval frees 9 (comma (f_of 1) (choice (Node (at 6 6) (Ptr int_type) (Variable (record { name = 0; decl = 6 }))) (lit 1) (lit 2))) on_the_heap) ≡ Some (at 6 6, 8)
a_dead_pointer_isnt_tested = refl

-- ---- structs: struct { int m; int n; } s, t, u; which have the numbers 91, 92 and 93, members 8 and 9

abbrev struct : ℕ → Expression
struct decl = Node (at 1 1) (Struct 0) (Variable (record { name = 0; decl = decl }))

abbrev dot : Expression → ℕ → Expression
dot e m = Node (at 5 5) int_type (Dot e m)

abbrev copy_of : Expression → Expression → Expression
copy_of e d = Node (at 3 3) (Struct 0) (Assign None e d)

abbrev unwritten : ℕ → Declaration
unwritten decl = record { place = at 1 decl; name = 0; named = true; ctype = Struct 0; init = None }

abbrev with_structs : List BlockItem → Ran
with_structs items = runs (record (program [] (main_of (Declare (unwritten 91 ∷ unwritten 92 ∷ unwritten 93 ∷ []) ∷ items) ∷ [])) {
  structs = record {
    place = at 1 1;
    tag = None;
    members = record { place = at 1 1; name = 8; ctype = int_type; offset = 0 } ∷ record { place = at 1 1; name = 9; ctype = int_type; offset = 4 } ∷ [];
    size = 8;
    align = 4;
  } ∷ [];
})

-- u.m = 5; u.n = 6; s = t = u; return s.m * 10 + t.n;
structs_from_the_right : with_structs (does (in_type int_type (dot (struct 93) 8) (lit 5)) ∷ does (in_type int_type (dot (struct 93) 9) (lit 6)) ∷ does (copy_of (struct 91) (copy_of (struct 92) (struct 93)))
    ∷ returns (adds (operated Mul (dot (struct 91) 8) (lit 10)) (dot (struct 92) 9)) ∷ []) ≡ exits (pos 56) 9
structs_from_the_right = refl

-- u.n = 6; return (s = u).n + s.n;
a_member_of_an_assignment : with_structs (does (in_type int_type (dot (struct 93) 9) (lit 6)) ∷ returns (adds (dot (copy_of (struct 91) (struct 93)) 9) (dot (struct 91) 9)) ∷ []) ≡ exits (pos 12) 9
a_member_of_an_assignment = refl

-- u.n = 6; s.m = 1; s = u; return s.m;  u.m isn't written, and then s.m isn't
an_unwritten_member_is_copied : with_structs (does (in_type int_type (dot (struct 93) 9) (lit 6)) ∷ does (in_type int_type (dot (struct 91) 8) (lit 1)) ∷ does (copy_of (struct 91) (struct 93))
    ∷ returns (dot (struct 91) 8) ∷ []) ≡ ends (Undefined (at 5 5)) [] 9
an_unwritten_member_is_copied = refl
