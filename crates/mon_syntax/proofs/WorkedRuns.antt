-- Small programs in monitored C, by computation: their text, how they end, what they print and the steps left.
use Rattle.std.proofs.Common.{◌≡◌, ℕ, ℤ, pos, negsuc, neg_ℤ, ◌^◌, List, [], ◌∷◌, ◌++◌, map, Some, None, codes, refl, arith}
use Rattle.std.specs.Fmt.{digits}
use Rattle.c_syntax.specs.declared.annotation.Kind.TheVariants as kind
use Rattle.c_syntax.specs.declared.types.How.TheVariants as how
use Rattle.c_syntax.specs.declared.types.Segment.TheVariants.{Frames}
use Rattle.c_model.specs.State.{Input, EndOfInput}
use Rattle.c_model.specs.MonitoredRuns.{Final, Exits, Broken, Fault, Spent, Full, Ran}
use Rattle.mon_syntax.specs.declared.tree.MonType.TheVariants.{I8, U8, I32, U32, I64, U64, I128}
use Rattle.mon_syntax.specs.declared.tree.MonOp.TheVariants.{Add, Sub, Mul, Div, Rem, Shl, Shr, And, Or, Xor, Eq, Gt}
use Rattle.mon_syntax.specs.Trees.{MonExpression, Register, Constant, Binary, Minus, Flip, Cast, MonStatement, Set, Step, Assert, PutChar, Exit, PrintText, PrintSigned, PrintUnsigned, If, Loop, Labelled, Goto, Return, MonStatements, NoStatement}
use Rattle.mon_syntax.specs.Trees.{Then, MonRegister, MonitoredProgram}
use Rattle.mon_syntax.specs.Arithmetic.{least, wrap, operate, minus, flipped}
use Rattle.mon_syntax.specs.Meaning.{run}
use Rattle.mon_syntax.specs.BlockMemory.{block_run}
use Rattle.mon_syntax.specs.FlatMemory.{over_flat, flat_nothing, flat_run}
use Rattle.mon_syntax.specs.Names.{IsFreeName, reserved_words}
use Rattle.mon_syntax.specs.Text.{text_of}
use Rattle.mon_syntax.specs.Valid.{Signature, IsStatement, IsValid}

-- ---- arithmetic

wrap-i32 : wrap I32 (pos 2147483648) ≡ negsuc 2147483647
wrap-i32 = refl

wrap-i32-below : wrap I32 (negsuc 2147483648) ≡ pos 2147483647
wrap-i32-below = refl

wrap-i32-same : wrap I32 (negsuc 6) ≡ negsuc 6
wrap-i32-same = refl

wrap-i32-far : wrap I32 (pos 21474836485) ≡ pos 5
wrap-i32-far = refl

wrap-i32-far-below : wrap I32 (negsuc 21474836484) ≡ negsuc 4
wrap-i32-far-below = refl

wrap-u8 : wrap U8 (pos 256) ≡ pos 0
wrap-u8 = refl

wrap-u8-below : wrap U8 (negsuc 0) ≡ pos 255
wrap-u8-below = refl

wrap-u8-far-below : wrap U8 (negsuc 999) ≡ pos 24
wrap-u8-far-below = refl

wrap-i8 : wrap I8 (pos 200) ≡ negsuc 55
wrap-i8 = refl

wrap-i128 : wrap I128 (pos (2 ^ 127)) ≡ neg_ℤ (pos (2 ^ 127))
wrap-i128 = refl

add-i32 : operate Add I32 (pos 2147483647) (pos 1) ≡ Some (negsuc 2147483647)
add-i32 = refl

sub-u32 : operate Sub U32 (pos 0) (pos 1) ≡ Some (pos 4294967295)
sub-u32 = refl

mul-i32 : operate Mul I32 (pos 65536) (pos 65537) ≡ Some (pos 65536)
mul-i32 = refl

mul-i64 : operate Mul I64 (pos 9223372036854775807) (pos 2) ≡ Some (negsuc 1)
mul-i64 = refl

-- a shift by 33 bits of 32 is one by 1, and a shift by -1 is one by 31
shl-over : operate Shl I32 (pos 5) (pos 33) ≡ Some (pos 10)
shl-over = refl

shl-under : operate Shl I32 (pos 1) (negsuc 0) ≡ Some (negsuc 2147483647)
shl-under = refl

shr-over : operate Shr I32 (negsuc 7) (pos 33) ≡ Some (negsuc 3)
shr-over = refl

shr-under : operate Shr I32 (negsuc 7) (negsuc 0) ≡ Some (negsuc 0)
shr-under = refl

shr-u32 : operate Shr U32 (pos 4294967295) (pos 33) ≡ Some (pos 2147483647)
shr-u32 = refl

shl-i64 : operate Shl I64 (pos 1) (pos 33) ≡ Some (pos 8589934592)
shl-i64 = refl

-- quotients are rounded toward zero
div-i32 : operate Div I32 (negsuc 6) (pos 2) ≡ Some (negsuc 2)
div-i32 = refl

rem-i32 : operate Rem I32 (negsuc 6) (pos 2) ≡ Some (negsuc 0)
rem-i32 = refl

div-least-i32 : operate Div I32 (least I32) (negsuc 0) ≡ Some (least I32)
div-least-i32 = refl

rem-least-i32 : operate Rem I32 (least I32) (negsuc 0) ≡ Some (pos 0)
rem-least-i32 = refl

div-least-i128 : operate Div I128 (least I128) (negsuc 0) ≡ Some (least I128)
div-least-i128 = refl

div-zero : operate Div I64 (pos 1) (pos 0) ≡ None
div-zero = refl

rem-zero : operate Rem U64 (pos 1) (pos 0) ≡ None
rem-zero = refl

and-i32 : operate And I32 (negsuc 0) (pos 255) ≡ Some (pos 255)
and-i32 = refl

or-i32 : operate Or I32 (negsuc 255) (pos 1) ≡ Some (negsuc 254)
or-i32 = refl

xor-i32 : operate Xor I32 (negsuc 0) (pos 1) ≡ Some (negsuc 1)
xor-i32 = refl

gt-i32 : operate Gt I32 (pos 0) (negsuc 0) ≡ Some (pos 1)
gt-i32 = refl

minus-least : minus I32 (least I32) ≡ least I32
minus-least = refl

minus-u32 : minus U32 (pos 1) ≡ pos 4294967295
minus-u32 = refl

flipped-i32 : flipped I32 (pos 0) ≡ negsuc 0
flipped-i32 = refl

flipped-u32 : flipped U32 (pos 0) ≡ pos 4294967295
flipped-u32 = refl

-- ---- trees

abbrev pub i32 : ℤ → MonExpression
i32 z = Constant I32 z

abbrev pub statements : List MonStatement → MonStatements
statements [] = NoStatement
statements (a ∷ rest) = Then a (statements rest)

abbrev pub register : List ℕ → MonRegister
register name = record { kind = I32; name = name }

-- `i32 main(void)` alone, with i32 registers of these names
abbrev main_alone : List (List ℕ) → List MonStatement → MonitoredProgram
main_alone names body = record {
  globals = [];
  functions = record {
    result = Some I32;
    name = codes "main";
    parameters = [];
    registers = map register names;
    body = statements body;
  } ∷ [];
}

abbrev pub no_input : Input
no_input = record { bytes = []; tail = EndOfInput }

abbrev pub ends : Final → List ℕ → ℕ → Ran
ends e output left = record { final = e; output = output; left = left }

abbrev pub line : List ℕ → List ℕ
line bytes = bytes ++ 10 ∷ []

-- ---- a loop

abbrev counts : MonitoredProgram
counts = main_alone (codes "x" ∷ []) (
    Set 0 (i32 (pos 65)) ∷
    Loop NoStatement (statements (
    PutChar None (Register 0) ∷
    Set 0 (Binary Add I32 (Register 0) (i32 (pos 1))) ∷
    If (Binary Gt I32 (Register 0) (i32 (pos 66))) (statements (Return (Some (i32 (pos 0))) ∷ [])) NoStatement ∷
    [])) ∷
    [])

text-counts : text_of counts ≡
    line (codes "#include <e_acsl.h>")
    ++ (line (codes "i32 main(void) {")
    ++ (line (codes "  i32 x;")
    ++ (line (codes "  x = I32(65);")
    ++ (line (codes "  while (1) {")
    ++ (line (codes "    __e_acsl_step();")
    ++ (line (codes "    putchar(x);")
    ++ (line (codes "    x = (x + I32(1));")
    ++ (line (codes "    if ((x > I32(66))) {")
    ++ (line (codes "      return I32(0);")
    ++ (line (codes "    } else { }")
    ++ (line (codes "  }")
    ++ line (codes "}"))))))))))))
unfolding digits
text-counts = refl

flat_run-counts : flat_run counts no_input 10000000 ≡ ends (Exits (pos 0)) (codes "AB") 9999998
flat_run-counts = refl

block_run-counts : block_run counts no_input 10000000 ≡ ends (Exits (pos 0)) (codes "AB") 9999998
block_run-counts = refl

flat_run-counts-two : flat_run counts no_input 2 ≡ ends (Exits (pos 0)) (codes "AB") 0
flat_run-counts-two = refl

flat_run-counts-one : flat_run counts no_input 1 ≡ ends Spent (codes "A") 0
flat_run-counts-one = refl

flat_run-counts-none : flat_run counts no_input 0 ≡ ends Spent [] 0
flat_run-counts-none = refl

-- ---- faults, assertions and exits

-- return (I32(1) / I32(0));
abbrev divides : MonitoredProgram
divides = main_alone [] (PutChar None (i32 (pos 65)) ∷ Return (Some (Binary Div I32 (i32 (pos 1)) (i32 (pos 0)))) ∷ [])

flat_run-divides : flat_run divides no_input 5 ≡ ends Fault (codes "A") 5
flat_run-divides = refl

block_run-divides : block_run divides no_input 5 ≡ ends Fault (codes "A") 5
block_run-divides = refl

-- __e_acsl_assert(d, v, 3, 7, "assert"); return I32(-1);
abbrev asserts : ℕ → ℕ → MonitoredProgram
asserts d v = main_alone [] (Assert (i32 (pos d)) (i32 (pos v)) 3 7 kind.Assert ∷ Return (Some (i32 (negsuc 0))) ∷ [])

flat_run-undefined : flat_run (asserts 0 1) no_input 5 ≡ ends (Broken 3 7 kind.Assert how.Undefined) [] 5
flat_run-undefined = refl

flat_run-undefined-false : flat_run (asserts 0 0) no_input 5 ≡ ends (Broken 3 7 kind.Assert how.Undefined) [] 5
flat_run-undefined-false = refl

flat_run-false : flat_run (asserts 1 0) no_input 5 ≡ ends (Broken 3 7 kind.Assert how.False) [] 5
flat_run-false = refl

flat_run-holds : flat_run (asserts 1 1) no_input 5 ≡ ends (Exits (negsuc 0)) [] 5
flat_run-holds = refl

text-asserts : text_of (asserts 1 0) ≡
    line (codes "#include <e_acsl.h>")
    ++ (line (codes "i32 main(void) {")
    ++ (line (codes "  __e_acsl_assert(I32(1), I32(0), 3, 7, \"assert\");")
    ++ (line (codes "  return I32(-1);")
    ++ line (codes "}"))))
unfolding digits
text-asserts = refl

-- a body that comes to its end returns 0
flat_run-empty : flat_run (main_alone [] []) no_input 5 ≡ ends (Exits (pos 0)) [] 5
flat_run-empty = refl

text-empty : text_of (main_alone [] []) ≡ line (codes "#include <e_acsl.h>") ++ (line (codes "i32 main(void) {") ++ line (codes "}"))
text-empty = refl

-- without `main` there is nothing to run
flat_run-no_main : flat_run (record { globals = []; functions = [] }) no_input 5 ≡ ends Fault [] 5
flat_run-no_main = refl

-- a call more than there is room for
flat_run-frames : run over_flat counts (record flat_nothing { frames = 65536 }) no_input 5 ≡ ends (Full Frames) [] 5
flat_run-frames = refl

-- putchar gives the byte that it wrote, and exit ends the run
--     x = putchar(I32(-191)); __e_acsl_step(); exit((x - I32(66))); putchar(x);
abbrev exits : MonitoredProgram
exits = main_alone (codes "x" ∷ []) (
    PutChar (Some 0) (i32 (negsuc 190)) ∷
    Step ∷
    Exit (Binary Sub I32 (Register 0) (i32 (pos 66))) ∷
    PutChar None (Register 0) ∷
    [])

flat_run-exits : flat_run exits no_input 5 ≡ ends (Exits (negsuc 0)) (codes "A") 4
flat_run-exits = refl

-- ---- printing and labels

-- a jump out of a loop to the end of the body around it
abbrev leaves : MonitoredProgram
leaves = main_alone (codes "x" ∷ codes "y" ∷ []) (
    Labelled (statements (
    Loop (statements (
    PrintText (codes "x = " ++ 10 ∷ 34 ∷ []) ∷
    If (Binary Eq I32 (Register 0) (i32 (pos 1))) (statements (Goto (codes "end") ∷ [])) (statements (Set 1 (Minus I32 (Register 0)) ∷ [])) ∷
    [])) (statements (
    PrintSigned (Cast I64 (Flip I32 (Register 0))) ∷
    Set 0 (i32 (pos 1)) ∷
    [])) ∷
    PrintText (codes "not here") ∷
    [])) (codes "end") ∷
    PrintUnsigned (Cast U64 (Cast U8 (i32 (negsuc 0)))) ∷
    [])

flat_run-leaves : flat_run leaves no_input 5 ≡ ends (Exits (pos 0)) ((codes "x = " ++ 10 ∷ 34 ∷ []) ++ (codes "-1" ++ ((codes "x = " ++ 10 ∷ 34 ∷ []) ++ codes "255"))) 4
unfolding digits
flat_run-leaves = refl

text-leaves : text_of leaves ≡
    line (codes "#include <e_acsl.h>")
    ++ (line (codes "i32 main(void) {")
    ++ (line (codes "  i32 x;")
    ++ (line (codes "  i32 y;")
    ++ (line (codes "  {")
    ++ (line (codes "    while (1) {")
    ++ (line (codes "      __e_acsl_print_text(\"x = \\012\\042\");")
    ++ (line (codes "      if ((x == I32(1))) {")
    ++ (line (codes "        goto end;")
    ++ (line (codes "      } else {")
    ++ (line (codes "        y = (-x);")
    ++ (line (codes "      }")
    ++ (line (codes "      __e_acsl_step();")
    ++ (line (codes "      __e_acsl_print_i64(((i64)(~x)));")
    ++ (line (codes "      x = I32(1);")
    ++ (line (codes "    }")
    ++ (line (codes "    __e_acsl_print_text(\"not here\");")
    ++ (line (codes "  } end: ;")
    ++ (line (codes "  __e_acsl_print_u64(((u64)((u8)I32(-1))));")
    ++ line (codes "}")))))))))))))))))))
unfolding digits
text-leaves = refl

-- ---- validity

pub free-x : IsFreeName (codes "x")
unfolding reserved_words
free-x = record { begins = refl; parts = (refl, tt); short = omega arith; free = refl }

pub free-main : IsFreeName (codes "main")
unfolding reserved_words
free-main = record { begins = refl; parts = (refl, (refl, (refl, (refl, tt)))); short = omega arith; free = refl }

abbrev pub main_only : List Signature
main_only = record { name = codes "main"; parameters = []; result = Some I32 } ∷ []

-- each expression of `counts` has few parentheses, and its statements are 4 deep
valid-counts : IsValid counts
valid-counts = record {
  globals = tt;
  room = omega arith;
  functions = (
    record {
      name = free-main;
      registers = (free-x, refl, tt);
      body = (set, ((refl, refl, tt, (put, (add, (leave, tt)))), tt));
      within = omega arith;
    },
    refl,
    tt,
  );
  number = 0;
  main = _;
  has = refl;
  is_main = record { name = refl; result = refl; no_parameters = refl };
}
  where
    set : IsStatement 0 main_only (I32 ∷ []) (Some I32) [] (Set 0 (i32 (pos 65)))
    set = (I32, refl, record { typed = (refl, refl); within = omega arith })

    put : IsStatement 0 main_only (I32 ∷ []) (Some I32) [] (PutChar None (Register 0))
    put = (tt, record { typed = refl; within = omega arith })

    add : IsStatement 0 main_only (I32 ∷ []) (Some I32) [] (Set 0 (Binary Add I32 (Register 0) (i32 (pos 1))))
    add = (I32, refl, record { typed = (refl, refl, refl, (refl, refl)); within = omega arith })

    leave : IsStatement 0 main_only (I32 ∷ []) (Some I32) [] (If (Binary Gt I32 (Register 0) (i32 (pos 66))) (statements (Return (Some (i32 (pos 0))) ∷ [])) NoStatement)
    leave =
        (record { typed = (refl, refl, refl, (refl, refl)); within = omega arith }, (record { typed = (refl, refl); within = omega arith }, tt), tt)
