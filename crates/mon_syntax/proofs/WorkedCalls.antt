-- Small programs with functions, calls, input and blocks, by computation: their text, how they end, what they print and the steps left.
use Rattle.std.proofs.Common.{◌≡◌, ℕ, ◌+◌, ◌*◌, ◌^◌, pos, negsuc, List, [], ◌∷◌, ◌++◌, map, Option, Some, None, codes, refl, arith}
use Rattle.std.specs.Fmt.{digits}
use Rattle.c_syntax.specs.declared.types.Segment.TheVariants.{Frames, Stack, Numbers}
use Rattle.c_model.specs.State.{Input, InputTail, EndOfInput, InputFault}
use Rattle.c_model.specs.MonitoredRuns.{Exits, Fault, Spent, Full, ReadFault, Ran}
use Rattle.mon_syntax.specs.declared.tree.MonType.{MonType}
use Rattle.mon_syntax.specs.declared.tree.MonType.TheVariants.{I32, U64, Ptr}
use Rattle.mon_syntax.specs.declared.tree.MonOp.TheVariants.{Add, Sub, Gt}
use Rattle.mon_syntax.specs.declared.tree.MemoryCall.TheVariants.{StoreBlock, DeleteBlock}
use Rattle.mon_syntax.specs.Trees.{Register, Constant, Binary, MonStatement, PutChar, GetChar, Act, Call, If, Return, NoStatement, MonRegister, MonFunction, MonitoredProgram}
use Rattle.mon_syntax.specs.Memory.{Reply, Gives, IsFull, Faults}
use Rattle.mon_syntax.specs.Meaning.{run}
use Rattle.mon_syntax.specs.BlockMemory.{block_run}
use Rattle.mon_syntax.specs.Flat.{Flat, flat_empty, flat_store_block}
use Rattle.mon_syntax.specs.FlatMemory.{over_flat, begun, flat_nothing, flat_run}
use Rattle.mon_syntax.specs.Names.{IsFreeName, reserved_words}
use Rattle.mon_syntax.specs.Text.{text_of}
use Rattle.mon_syntax.specs.Valid.{Signature, IsStatement, IsValid}
use Rattle.mon_syntax.proofs.WorkedRuns.{i32, statements, register, no_input, ends, line, free-x, free-main}

-- a function with i32 parameters and registers of these names
abbrev function : Option MonType → List ℕ → List (List ℕ) → List (List ℕ) → List MonStatement → MonFunction
function result name parameters registers body = record {
  result = result;
  name = name;
  parameters = map register parameters;
  registers = map register registers;
  body = statements body;
}

abbrev program : List MonFunction → MonitoredProgram
program fs = record { globals = []; functions = fs }

abbrev input_of : List ℕ → InputTail → Input
input_of bytes tail = record { bytes = bytes; tail = tail }

-- ---- arguments and results

abbrev subtracts : MonitoredProgram
subtracts = program (
    function (Some I32) (codes "less") (codes "x" ∷ codes "y" ∷ []) [] (Return (Some (Binary Sub I32 (Register 0) (Register 1))) ∷ []) ∷
    function (Some I32) (codes "main") [] (codes "z" ∷ []) (
    Call (Some 0) 0 (i32 (pos 70) ∷ i32 (pos 4) ∷ []) ∷
    PutChar None (Register 0) ∷
    Return (Some (Register 0)) ∷
    []) ∷
    [])

text-subtracts : text_of subtracts ≡
    line (codes "#include <e_acsl.h>")
    ++ (line (codes "i32 less(i32 x, i32 y) {")
    ++ (line (codes "  return (x - y);")
    ++ (line (codes "}")
    ++ (line (codes "i32 main(void) {")
    ++ (line (codes "  i32 z;")
    ++ (line (codes "  z = less(I32(70), I32(4));")
    ++ (line (codes "  putchar(z);")
    ++ (line (codes "  return z;")
    ++ line (codes "}")))))))))
unfolding digits
text-subtracts = refl

block_run-subtracts : block_run subtracts no_input 5 ≡ ends (Exits (pos 66)) (codes "B") 4
block_run-subtracts = refl

flat_run-subtracts : flat_run subtracts no_input 5 ≡ ends (Exits (pos 66)) (codes "B") 4
flat_run-subtracts = refl

-- a call takes a step, and `main` none
flat_run-no_step : flat_run subtracts no_input 0 ≡ ends Spent [] 0
flat_run-no_step = refl

-- ---- a function that calls itself, and stands after its first call

abbrev counts_down : MonitoredProgram
counts_down = program (
    function (Some I32) (codes "main") [] [] (Call None 1 (i32 (pos 3) ∷ []) ∷ []) ∷
    function None (codes "down") (codes "n" ∷ []) [] (
    PutChar None (Binary Add I32 (Register 0) (i32 (pos 48))) ∷
    If (Binary Gt I32 (Register 0) (i32 (pos 0))) (statements (Call None 1 (Binary Sub I32 (Register 0) (i32 (pos 1)) ∷ []) ∷ [])) NoStatement ∷
    PutChar None (Binary Add I32 (Register 0) (i32 (pos 65))) ∷
    []) ∷
    [])

text-counts_down : text_of counts_down ≡
    line (codes "#include <e_acsl.h>")
    ++ (line (codes "i32 main(void) {")
    ++ (line (codes "  down(I32(3));")
    ++ (line (codes "}")
    ++ (line (codes "void down(i32 n) {")
    ++ (line (codes "  putchar((n + I32(48)));")
    ++ (line (codes "  if ((n > I32(0))) {")
    ++ (line (codes "    down((n - I32(1)));")
    ++ (line (codes "  } else { }")
    ++ (line (codes "  putchar((n + I32(65)));")
    ++ line (codes "}"))))))))))
unfolding digits
text-counts_down = refl

block_run-counts_down : block_run counts_down no_input 10 ≡ ends (Exits (pos 0)) (codes "3210ABCD") 6
block_run-counts_down = refl

flat_run-counts_down : flat_run counts_down no_input 10 ≡ ends (Exits (pos 0)) (codes "3210ABCD") 6
flat_run-counts_down = refl

flat_run-counts_three : flat_run counts_down no_input 3 ≡ ends Spent (codes "321") 0
flat_run-counts_three = refl

-- where there is room for two more calls
flat_run-two_frames : run over_flat counts_down (record flat_nothing { frames = 65533 }) no_input 10 ≡ ends (Full Frames) (codes "32") 7
flat_run-two_frames = refl

-- ---- input

abbrev gets : MonitoredProgram
gets = program (
    function (Some I32) (codes "main") [] (codes "x" ∷ []) (
    GetChar (Some 0) ∷
    PutChar None (Register 0) ∷
    GetChar (Some 0) ∷
    PutChar None (Register 0) ∷
    GetChar None ∷
    GetChar (Some 0) ∷
    Return (Some (Register 0)) ∷
    []) ∷
    [])

text-gets : text_of gets ≡
    line (codes "#include <e_acsl.h>")
    ++ (line (codes "i32 main(void) {")
    ++ (line (codes "  i32 x;")
    ++ (line (codes "  x = getchar();")
    ++ (line (codes "  putchar(x);")
    ++ (line (codes "  x = getchar();")
    ++ (line (codes "  putchar(x);")
    ++ (line (codes "  getchar();")
    ++ (line (codes "  x = getchar();")
    ++ (line (codes "  return x;")
    ++ line (codes "}"))))))))))
text-gets = refl

-- after the last byte it gives -1, again and again
block_run-gets : block_run gets (input_of (codes "hi") EndOfInput) 5 ≡ ends (Exits (negsuc 0)) (codes "hi") 5
block_run-gets = refl

flat_run-gets : flat_run gets (input_of (codes "hi") EndOfInput) 5 ≡ ends (Exits (negsuc 0)) (codes "hi") 5
flat_run-gets = refl

flat_run-gets_four : flat_run gets (input_of (codes "hill") EndOfInput) 5 ≡ ends (Exits (pos 108)) (codes "hi") 5
flat_run-gets_four = refl

-- at a fault of the input the run ends
flat_run-read_fault : flat_run gets (input_of (codes "hi") InputFault) 5 ≡ ends ReadFault (codes "hi") 5
flat_run-read_fault = refl

-- ---- blocks

-- flat memory with a few units in each region, and room for ten calls
abbrev pub small : Flat
small = flat_empty 64 64 64 10

-- a run over it
abbrev pub small_run : MonitoredProgram → Input → ℕ → Ran
small_run m input n = run over_flat m (begun small m.globals) input n

abbrev pub pointer : List ℕ → MonRegister
pointer name = record { kind = Ptr; name = name }

abbrev pub born : ℕ → ℕ → MonStatement
born r size = Act (Some r) StoreBlock (Constant U64 (pos size) ∷ [])

abbrev pub dies : ℕ → MonStatement
dies r = Act None DeleteBlock (Register r ∷ [])

abbrev with_blocks : List MonStatement → MonitoredProgram
with_blocks body = program (record {
  result = Some I32;
  name = codes "main";
  parameters = [];
  registers = pointer (codes "p") ∷ pointer (codes "q") ∷ [];
  body = statements body;
} ∷ [])

abbrev pair : MonitoredProgram
pair = with_blocks (born 0 24 ∷ born 1 0 ∷ dies 1 ∷ dies 0 ∷ PutChar None (i32 (pos 65)) ∷ [])

text-pair : text_of pair ≡
    line (codes "#include <e_acsl.h>")
    ++ (line (codes "i32 main(void) {")
    ++ (line (codes "  ptr p;")
    ++ (line (codes "  ptr q;")
    ++ (line (codes "  p = __e_acsl_store_block(U64(24));")
    ++ (line (codes "  q = __e_acsl_store_block(U64(0));")
    ++ (line (codes "  __e_acsl_delete_block(q);")
    ++ (line (codes "  __e_acsl_delete_block(p);")
    ++ (line (codes "  putchar(I32(65));")
    ++ line (codes "}")))))))))
unfolding digits
text-pair = refl

block_run-pair : block_run pair no_input 5 ≡ ends (Exits (pos 0)) (codes "A") 5
block_run-pair = refl

small_run-pair : small_run pair no_input 5 ≡ ends (Exits (pos 0)) (codes "A") 5
small_run-pair = refl

-- a block that isn't the youngest, one that is dead, and what is no pointer
abbrev older_dies : MonitoredProgram
older_dies = with_blocks (born 0 24 ∷ born 1 0 ∷ PutChar None (i32 (pos 65)) ∷ dies 0 ∷ [])

block_run-older : block_run older_dies no_input 5 ≡ ends Fault (codes "A") 5
block_run-older = refl

small_run-older : small_run older_dies no_input 5 ≡ ends Fault (codes "A") 5
small_run-older = refl

abbrev dies_twice : MonitoredProgram
dies_twice = with_blocks (born 0 24 ∷ born 1 0 ∷ dies 1 ∷ dies 1 ∷ [])

block_run-twice : block_run dies_twice no_input 5 ≡ ends Fault [] 5
block_run-twice = refl

small_run-twice : small_run dies_twice no_input 5 ≡ ends Fault [] 5
small_run-twice = refl

block_run-no_pointer : block_run (with_blocks (born 0 24 ∷ dies 1 ∷ [])) no_input 5 ≡ ends Fault [] 5
block_run-no_pointer = refl

small_run-no_pointer : small_run (with_blocks (born 0 24 ∷ dies 1 ∷ [])) no_input 5 ≡ ends Fault [] 5
small_run-no_pointer = refl

-- the pointer to a birth's block, and the bytes of the stack that are taken then
abbrev born_at : Reply Flat ℕ → Option (ℕ × ℕ)
born_at (Gives p f) = Some (p, f.top)
born_at (IsFull g) = None
born_at Faults = None

-- the first block stands at the start of the stack, and another after its 24 bytes and the byte after them, in units of 16
first_birth : born_at (flat_store_block small 24) ≡ Some (1 * 2 ^ 32 + 1073741824, 32)
first_birth = refl

second_birth : born_at (flat_store_block (record small { births = 1; top = 32 }) 0) ≡ Some (2 * 2 ^ 32 + 1073741856, 48)
second_birth = refl

-- the greatest block that fits into the stack has 1,048,575 bytes, and 63 into one of 64
block_run-full : block_run (with_blocks (born 0 1048576 ∷ [])) no_input 5 ≡ ends (Full Stack) [] 5
block_run-full = refl

small_run-full : small_run (with_blocks (born 0 64 ∷ [])) no_input 5 ≡ ends (Full Stack) [] 5
small_run-full = refl

small_run-fits : small_run (with_blocks (born 0 63 ∷ [])) no_input 5 ≡ ends (Exits (pos 0)) [] 5
small_run-fits = refl

small_run-full_behind : small_run (with_blocks (born 0 0 ∷ born 1 63 ∷ [])) no_input 5 ≡ ends (Full Stack) [] 5
small_run-full_behind = refl

-- a dead block's room is taken again
small_run-again : small_run (with_blocks (born 0 0 ∷ dies 0 ∷ born 1 63 ∷ [])) no_input 5 ≡ ends (Exits (pos 0)) [] 5
small_run-again = refl

-- where the last number is used, that is said first
flat_run-numbers : run over_flat (with_blocks (born 0 1048576 ∷ [])) (record flat_nothing { births = 4294967295 }) no_input 5 ≡ ends (Full Numbers) [] 5
flat_run-numbers = refl

-- ---- validity

free-less : IsFreeName (codes "less")
unfolding reserved_words
free-less = record { begins = refl; parts = (refl, (refl, (refl, (refl, tt)))); short = omega arith; free = refl }

free-y : IsFreeName (codes "y")
unfolding reserved_words
free-y = record { begins = refl; parts = (refl, tt); short = omega arith; free = refl }

free-z : IsFreeName (codes "z")
unfolding reserved_words
free-z = record { begins = refl; parts = (refl, tt); short = omega arith; free = refl }

abbrev signatures : List Signature
signatures =
    record { name = codes "less"; parameters = I32 ∷ I32 ∷ []; result = Some I32 } ∷ record { name = codes "main"; parameters = []; result = Some I32 } ∷ []

valid-subtracts : IsValid subtracts
valid-subtracts = record {
  globals = tt;
  room = omega arith;
  functions = (
    record { name = free-less; registers = (free-x, refl, (free-y, refl, tt)); body = (back, tt); within = omega arith },
    refl,
    (record { name = free-main; registers = (free-z, refl, tt); body = (call, (put, (give, tt))); within = omega arith }, refl, tt),
  );
  number = 1;
  main = _;
  has = refl;
  is_main = record { name = refl; result = refl; no_parameters = refl };
}
  where
    back : IsStatement 0 signatures (I32 ∷ I32 ∷ []) (Some I32) [] (Return (Some (Binary Sub I32 (Register 0) (Register 1))))
    back = record { typed = (refl, refl, refl, refl); within = omega arith }

    call : IsStatement 0 signatures (I32 ∷ []) (Some I32) [] (Call (Some 0) 0 (i32 (pos 70) ∷ i32 (pos 4) ∷ []))
    call = record {
      callee = record { name = codes "less"; parameters = I32 ∷ I32 ∷ []; result = Some I32 };
      has = refl;
      not_main = refl;
      arguments = (record { typed = (refl, refl); within = omega arith }, (record { typed = (refl, refl); within = omega arith }, tt));
      takes = refl;
    }

    put : IsStatement 0 signatures (I32 ∷ []) (Some I32) [] (PutChar None (Register 0))
    put = (tt, record { typed = refl; within = omega arith })

    give : IsStatement 0 signatures (I32 ∷ []) (Some I32) [] (Return (Some (Register 0)))
    give = record { typed = refl; within = omega arith }
