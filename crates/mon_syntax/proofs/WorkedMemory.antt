-- Small programs with loads, stores, pointers, globals and literals, by computation: their text, how they end, what they print and the steps left.
use Rattle.std.proofs.Common.{◌≡◌, ℕ, ◌^◌, ℤ, pos, negsuc, neg_ℤ, List, [], ◌∷◌, ◌++◌, Some, None, codes, refl, arith}
use Rattle.std.specs.Fmt.{digits}
use Rattle.c_syntax.specs.declared.annotation.Kind.TheVariants as kind
use Rattle.c_syntax.specs.declared.types.How.TheVariants as how
use Rattle.c_model.specs.MonitoredRuns.{Exits, Broken, Fault}
use Rattle.mon_syntax.specs.declared.tree.MonType.{MonType}
use Rattle.mon_syntax.specs.declared.tree.MonType.TheVariants.{I8, U8, I16, I32, I64, I128, Ptr}
use Rattle.mon_syntax.specs.declared.tree.MonOp.TheVariants.{Add, Sub, Shr, Eq, Ne, Lt, Ge}
use Rattle.mon_syntax.specs.declared.tree.AccessSize.{AccessSize}
use Rattle.mon_syntax.specs.declared.tree.AccessSize.TheVariants.{One, Two, Four, Eight, Sixteen}
use Rattle.mon_syntax.specs.declared.tree.MemoryCall.TheVariants.{Number}
use Rattle.mon_syntax.specs.Trees.{MonExpression, Register, Global, Constant, Binary, Cast, Load, MonStatement, Set, Store, Assert, PutChar, PrintSigned, PrintString, Act, Call, Return, Zeros, Literal, MonRegister, MonitoredGlobal, MonitoredProgram}
use Rattle.mon_syntax.specs.BlockMemory.{block_run}
use Rattle.mon_syntax.specs.Names.{IsFreeName, reserved_words}
use Rattle.mon_syntax.specs.Text.{text_of}
use Rattle.mon_syntax.specs.Valid.{IsStatement, IsValid}
use Rattle.mon_syntax.proofs.WorkedRuns.{i32, statements, register, no_input, ends, line, free-x, free-main, main_only}
use Rattle.mon_syntax.proofs.WorkedCalls.{pointer, born, dies, small_run}

-- ---- programs

-- `i32 main(void)` alone, with these globals and registers
abbrev program : List MonitoredGlobal → List MonRegister → List MonStatement → MonitoredProgram
program globals registers body = record {
  globals = globals;
  functions = record { result = Some I32; name = codes "main"; parameters = []; registers = registers; body = statements body } ∷ [];
}

-- with the registers `ptr p`, `ptr q` and `i32 c`
abbrev pub with_globals : List MonitoredGlobal → List MonStatement → MonitoredProgram
with_globals globals body = program globals (pointer (codes "p") ∷ pointer (codes "q") ∷ register (codes "c") ∷ []) body

abbrev pub with_memory : List MonStatement → MonitoredProgram
with_memory body = with_globals [] body

abbrev pub p : MonExpression
p = Register 0

abbrev pub q : MonExpression
q = Register 1

-- register c takes the answer to __e_acsl_number(r, o, a)
abbrev asks : ℕ → ℕ → ℤ → AccessSize → MonStatement
asks c r o a = Act (Some c) (Number a) (Register r ∷ Constant I128 o ∷ [])

-- a digit is printed
abbrev pub shows : MonExpression → MonStatement
shows e = PutChar None (Binary Add I32 e (i32 (pos 48)))

-- whether so many bytes at the pointer of a register hold a number
abbrev pub shows_number : ℕ → AccessSize → List MonStatement
shows_number r a = asks 2 r (pos 0) a ∷ shows (Register 2) ∷ []

-- a pointer so many bytes farther
abbrev pub farther : MonExpression → ℤ → MonExpression
farther e d = Binary Add Ptr e (Constant I64 d)

abbrev pub null : MonExpression
null = Constant Ptr (pos 0)

-- ---- an annotation about memory

abbrev breaks : MonitoredProgram
breaks = program [] (pointer (codes "x") ∷ register (codes "c") ∷ []) (
    born 0 4 ∷
    Store 0 I32 (i32 (pos 65)) ∷
    asks 1 0 (pos 0) Four ∷
    Assert (Register 1) (i32 (pos 1)) 1 7 kind.Assert ∷
    PutChar None (Load I32 (Register 0)) ∷
    Assert (i32 (pos 1)) (i32 (pos 0)) 4 9 kind.Ensures ∷
    dies 0 ∷
    Return (Some (i32 (pos 0))) ∷
    [])

text-breaks : text_of breaks ≡
    line (codes "#include <e_acsl.h>")
    ++ (line (codes "i32 main(void) {")
    ++ (line (codes "  ptr x;")
    ++ (line (codes "  i32 c;")
    ++ (line (codes "  x = __e_acsl_store_block(U64(4));")
    ++ (line (codes "  *(i32 *)x = I32(65);")
    ++ (line (codes "  __e_acsl_initialize(x, 4);")
    ++ (line (codes "  c = __e_acsl_number(x, I128(0), 4);")
    ++ (line (codes "  __e_acsl_assert(c, I32(1), 1, 7, \"assert\");")
    ++ (line (codes "  putchar((*(i32 *)x));")
    ++ (line (codes "  __e_acsl_assert(I32(1), I32(0), 4, 9, \"ensures\");")
    ++ (line (codes "  __e_acsl_delete_block(x);")
    ++ (line (codes "  return I32(0);")
    ++ line (codes "}")))))))))))))
unfolding digits
text-breaks = refl

block_run-breaks : block_run breaks no_input 5 ≡ ends (Broken 4 9 kind.Ensures how.False) (codes "A") 5
block_run-breaks = refl

small_run-breaks : small_run breaks no_input 5 ≡ ends (Broken 4 9 kind.Ensures how.False) (codes "A") 5
small_run-breaks = refl

-- before the store the question is answered by 0, so that the first annotation is undefined
abbrev asks_early : MonitoredProgram
asks_early = with_memory (born 0 4 ∷ asks 2 0 (pos 0) Four ∷ Assert (Register 2) (i32 (pos 1)) 1 7 kind.Assert ∷ [])

block_run-asks_early : block_run asks_early no_input 5 ≡ ends (Broken 1 7 kind.Assert how.Undefined) [] 5
block_run-asks_early = refl

small_run-asks_early : small_run asks_early no_input 5 ≡ ends (Broken 1 7 kind.Assert how.Undefined) [] 5
small_run-asks_early = refl

-- ---- stores and loads

-- what a load of the second type gives where a number was stored by the first
abbrev loads : MonType → MonType → ℤ → MonitoredProgram
loads t u z = with_memory (born 0 16 ∷ Store 0 t (Constant t z) ∷ Return (Some (Cast I32 (Load u p))) ∷ [])

block_run-i32 : block_run (loads I32 I32 (negsuc 2147483647)) no_input 5 ≡ ends (Exits (negsuc 2147483647)) [] 5
block_run-i32 = refl

small_run-i32 : small_run (loads I32 I32 (negsuc 2147483647)) no_input 5 ≡ ends (Exits (negsuc 2147483647)) [] 5
small_run-i32 = refl

-- a sign comes back
block_run-i8 : block_run (loads I8 I8 (negsuc 55)) no_input 5 ≡ ends (Exits (negsuc 55)) [] 5
block_run-i8 = refl

small_run-i8 : small_run (loads I8 I8 (negsuc 55)) no_input 5 ≡ ends (Exits (negsuc 55)) [] 5
small_run-i8 = refl

block_run-u8 : block_run (loads I8 U8 (negsuc 55)) no_input 5 ≡ ends (Exits (pos 200)) [] 5
block_run-u8 = refl

small_run-u8 : small_run (loads I8 U8 (negsuc 55)) no_input 5 ≡ ends (Exits (pos 200)) [] 5
small_run-u8 = refl

-- the lowest byte stands first
block_run-lowest : block_run (loads I32 U8 (pos 16909060)) no_input 5 ≡ ends (Exits (pos 4)) [] 5
block_run-lowest = refl

small_run-lowest : small_run (loads I32 U8 (pos 16909060)) no_input 5 ≡ ends (Exits (pos 4)) [] 5
small_run-lowest = refl

block_run-lower : block_run (loads I32 I16 (pos 16909060)) no_input 5 ≡ ends (Exits (pos 772)) [] 5
block_run-lower = refl

small_run-lower : small_run (loads I32 I16 (pos 16909060)) no_input 5 ≡ ends (Exits (pos 772)) [] 5
small_run-lower = refl

-- ((*(i128 *)p) >> I128(98))
abbrev loads_wide : ℤ → MonitoredProgram
loads_wide z =
    with_memory (born 0 16 ∷ Store 0 I128 (Constant I128 z) ∷ Return (Some (Cast I32 (Binary Shr I128 (Load I128 p) (Constant I128 (pos 98))))) ∷ [])

block_run-wide : block_run (loads_wide (pos (2 ^ 100))) no_input 5 ≡ ends (Exits (pos 4)) [] 5
block_run-wide = refl

small_run-wide : small_run (loads_wide (pos (2 ^ 100))) no_input 5 ≡ ends (Exits (pos 4)) [] 5
small_run-wide = refl

block_run-wide_below : block_run (loads_wide (neg_ℤ (pos (2 ^ 100)))) no_input 5 ≡ ends (Exits (negsuc 3)) [] 5
block_run-wide_below = refl

small_run-wide_below : small_run (loads_wide (neg_ℤ (pos (2 ^ 100)))) no_input 5 ≡ ends (Exits (negsuc 3)) [] 5
small_run-wide_below = refl

text-loads_wide : text_of (loads_wide (pos 1)) ≡
    line (codes "#include <e_acsl.h>")
    ++ (line (codes "i32 main(void) {")
    ++ (line (codes "  ptr p;")
    ++ (line (codes "  ptr q;")
    ++ (line (codes "  i32 c;")
    ++ (line (codes "  p = __e_acsl_store_block(U64(16));")
    ++ (line (codes "  *(i128 *)p = I128(1);")
    ++ (line (codes "  __e_acsl_initialize(p, 16);")
    ++ (line (codes "  return ((i32)((*(i128 *)p) >> I128(98)));")
    ++ line (codes "}")))))))))
unfolding digits
text-loads_wide = refl

-- a store replaces its own bytes alone, here the second of four
abbrev stores_within : MonitoredProgram
stores_within = with_memory (
    born 0 4 ∷
    Store 0 I32 (i32 (pos 16909060)) ∷
    Set 1 (farther p (pos 1)) ∷
    Store 1 I8 (Constant I8 (pos 0)) ∷
    Return (Some (Load I32 p)) ∷
    [])

block_run-within : block_run stores_within no_input 5 ≡ ends (Exits (pos 16908292)) [] 5
block_run-within = refl

small_run-within : small_run stores_within no_input 5 ≡ ends (Exits (pos 16908292)) [] 5
small_run-within = refl

-- a load of bytes that nothing wrote, behind its block, off its alignment, and at null
abbrev loads_at : MonExpression → MonitoredProgram
loads_at e = with_memory (born 0 8 ∷ Store 0 I32 (i32 (pos 7)) ∷ Return (Some (Load I32 e)) ∷ [])

block_run-unwritten : block_run (loads_at (farther p (pos 4))) no_input 5 ≡ ends Fault [] 5
block_run-unwritten = refl

small_run-unwritten : small_run (loads_at (farther p (pos 4))) no_input 5 ≡ ends (Exits (pos 0)) [] 5
small_run-unwritten = refl

block_run-behind : block_run (loads_at (farther p (pos 8))) no_input 5 ≡ ends Fault [] 5
block_run-behind = refl

small_run-behind : small_run (loads_at (farther p (pos 8))) no_input 5 ≡ ends (Exits (pos 0)) [] 5
small_run-behind = refl

block_run-misaligned : block_run (loads_at (farther p (pos 2))) no_input 5 ≡ ends Fault [] 5
block_run-misaligned = refl

small_run-misaligned : small_run (loads_at (farther p (pos 2))) no_input 5 ≡ ends Fault [] 5
small_run-misaligned = refl

block_run-at_null : block_run (loads_at null) no_input 5 ≡ ends Fault [] 5
block_run-at_null = refl

small_run-at_null : small_run (loads_at null) no_input 5 ≡ ends Fault [] 5
small_run-at_null = refl

-- a store behind a block: flat memory has room there
abbrev stores_behind : MonitoredProgram
stores_behind = with_memory (born 0 8 ∷ Set 1 (farther p (pos 8)) ∷ Store 1 I32 (i32 (pos 7)) ∷ Return (Some (Load I32 q)) ∷ [])

block_run-stores_behind : block_run stores_behind no_input 5 ≡ ends Fault [] 5
block_run-stores_behind = refl

small_run-stores_behind : small_run stores_behind no_input 5 ≡ ends (Exits (pos 7)) [] 5
small_run-stores_behind = refl

-- a store through null
abbrev stores_null : MonitoredProgram
stores_null = with_memory (Store 1 I32 (i32 (pos 7)) ∷ [])

block_run-stores_null : block_run stores_null no_input 5 ≡ ends Fault [] 5
block_run-stores_null = refl

small_run-stores_null : small_run stores_null no_input 5 ≡ ends Fault [] 5
small_run-stores_null = refl

-- ---- pointers in memory

-- a pointer comes back, and its bytes hold no number
abbrev holds_pointer : MonitoredProgram
holds_pointer = with_memory (
    (born 0 8 ∷ born 1 4 ∷ Store 0 Ptr q ∷ shows (Binary Eq Ptr (Load Ptr p) q) ∷ shows (Binary Ne Ptr (Load Ptr p) p) ∷ [])
    ++ (shows_number 0 Eight ++ shows_number 0 One))

text-holds_pointer : text_of holds_pointer ≡
    line (codes "#include <e_acsl.h>")
    ++ (line (codes "i32 main(void) {")
    ++ (line (codes "  ptr p;")
    ++ (line (codes "  ptr q;")
    ++ (line (codes "  i32 c;")
    ++ (line (codes "  p = __e_acsl_store_block(U64(8));")
    ++ (line (codes "  q = __e_acsl_store_block(U64(4));")
    ++ (line (codes "  *(ptr *)p = q;")
    ++ (line (codes "  __e_acsl_initialize_ptr(p);")
    ++ (line (codes "  putchar((((*(ptr *)p) == q) + I32(48)));")
    ++ (line (codes "  putchar((((*(ptr *)p) != p) + I32(48)));")
    ++ (line (codes "  c = __e_acsl_number(p, I128(0), 8);")
    ++ (line (codes "  putchar((c + I32(48)));")
    ++ (line (codes "  c = __e_acsl_number(p, I128(0), 1);")
    ++ (line (codes "  putchar((c + I32(48)));")
    ++ line (codes "}")))))))))))))))
unfolding digits
text-holds_pointer = refl

block_run-holds_pointer : block_run holds_pointer no_input 5 ≡ ends (Exits (pos 0)) (codes "1100") 5
block_run-holds_pointer = refl

small_run-holds_pointer : small_run holds_pointer no_input 5 ≡ ends (Exits (pos 0)) (codes "1100") 5
small_run-holds_pointer = refl

-- a number over a piece is a number, and the pointer is lost
abbrev number_over : List MonStatement → MonitoredProgram
number_over rest = with_memory ((born 0 8 ∷ Store 0 Ptr p ∷ Store 0 U8 (Constant U8 (pos 0)) ∷ []) ++ (shows_number 0 One ++ (shows_number 0 Eight ++ rest)))

block_run-number_over : block_run (number_over []) no_input 5 ≡ ends (Exits (pos 0)) (codes "10") 5
block_run-number_over = refl

small_run-number_over : small_run (number_over []) no_input 5 ≡ ends (Exits (pos 0)) (codes "10") 5
small_run-number_over = refl

block_run-lost : block_run (number_over (Set 1 (Load Ptr p) ∷ [])) no_input 5 ≡ ends Fault (codes "10") 5
block_run-lost = refl

small_run-lost : small_run (number_over (Set 1 (Load Ptr p) ∷ [])) no_input 5 ≡ ends (Exits (pos 0)) (codes "10") 5
small_run-lost = refl

-- the number 0 in eight bytes is the null pointer, and a pointer's bytes are no number
block_run-null_back : block_run (with_memory (born 0 8 ∷ Store 0 I64 (Constant I64 (pos 0)) ∷ shows (Binary Eq Ptr (Load Ptr p) null) ∷ [])) no_input 5 ≡ ends (Exits (pos 0)) (codes "1") 5
block_run-null_back = refl

small_run-null_back : small_run (with_memory (born 0 8 ∷ Store 0 I64 (Constant I64 (pos 0)) ∷ shows (Binary Eq Ptr (Load Ptr p) null) ∷ [])) no_input 5 ≡ ends (Exits (pos 0)) (codes "1") 5
small_run-null_back = refl

block_run-no_number : block_run (with_memory (born 0 8 ∷ Store 0 Ptr p ∷ PrintSigned (Load I64 p) ∷ [])) no_input 5 ≡ ends Fault [] 5
block_run-no_number = refl

small_run-no_number : small_run (with_memory (born 0 8 ∷ Store 0 Ptr p ∷ PrintSigned (Load I64 p) ∷ [])) no_input 5 ≡ ends (Exits (pos 0)) (codes "5368709120") 5
unfolding digits
small_run-no_number = refl

-- ---- questions

-- before a store and after it, farther by an offset, at another size, and at null
abbrev asks_number : MonitoredProgram
asks_number = with_memory ((born 0 8 ∷ []) ++ (shows_number 0 Four ++ (Store 0 I32 (i32 (pos 7)) ∷ (shows_number 0 Four
    ++ (asks 2 0 (pos 4) Four ∷ shows (Register 2) ∷ (asks 2 0 (pos 2) Two ∷ shows (Register 2) ∷ (asks 2 0 (pos 2) Four ∷ shows (Register 2) ∷ (shows_number 0 Sixteen ++ shows_number 1 One))))))))

block_run-asks_number : block_run asks_number no_input 5 ≡ ends (Exits (pos 0)) (codes "0101000") 5
block_run-asks_number = refl

small_run-asks_number : small_run asks_number no_input 5 ≡ ends (Exits (pos 0)) (codes "0101000") 5
small_run-asks_number = refl

-- from a pointer inside the block, and from its end
abbrev asks_back : MonitoredProgram
asks_back = with_memory (
    born 0 4 ∷ Store 0 I32 (i32 (pos 7)) ∷ Set 1 (farther p (pos 4)) ∷ asks 2 1 (negsuc 3) Four ∷ shows (Register 2) ∷ asks 2 1 (negsuc 7) Four ∷ shows (Register 2) ∷ [])

block_run-asks_back : block_run asks_back no_input 5 ≡ ends (Exits (pos 0)) (codes "10") 5
block_run-asks_back = refl

small_run-asks_back : small_run asks_back no_input 5 ≡ ends (Exits (pos 0)) (codes "10") 5
small_run-asks_back = refl

-- a dead block holds no number, also where another one has its units
abbrev asks_dead : List MonStatement → MonitoredProgram
asks_dead rest = with_memory ((born 0 4 ∷ Store 0 I32 (i32 (pos 65)) ∷ dies 0 ∷ []) ++ (shows_number 0 Four ++ ((born 1 4 ∷ Store 1 I32 (i32 (pos 66)) ∷ [])
    ++ (shows_number 0 Four ++ (shows_number 1 Four ++ rest)))))

block_run-asks_dead : block_run (asks_dead []) no_input 5 ≡ ends (Exits (pos 0)) (codes "001") 5
block_run-asks_dead = refl

small_run-asks_dead : small_run (asks_dead []) no_input 5 ≡ ends (Exits (pos 0)) (codes "001") 5
small_run-asks_dead = refl

block_run-loads_dead : block_run (asks_dead (Return (Some (Load I32 p)) ∷ [])) no_input 5 ≡ ends Fault (codes "001") 5
block_run-loads_dead = refl

small_run-loads_dead : small_run (asks_dead (Return (Some (Load I32 p)) ∷ [])) no_input 5 ≡ ends (Exits (pos 66)) (codes "001") 5
small_run-loads_dead = refl

block_run-compares_dead : block_run (asks_dead (shows (Binary Eq Ptr p q) ∷ [])) no_input 5 ≡ ends Fault (codes "001") 5
block_run-compares_dead = refl

small_run-compares_dead : small_run (asks_dead (shows (Binary Eq Ptr p q) ∷ [])) no_input 5 ≡ ends (Exits (pos 0)) (codes "0010") 5
small_run-compares_dead = refl

-- ---- operators on pointers

-- two pointers into a block, the second one 4 bytes behind
abbrev with_two : List MonStatement → MonitoredProgram
with_two rest = with_memory (born 0 8 ∷ Set 1 (farther p (pos 4)) ∷ rest)

block_run-sum : block_run (with_two (Store 1 I32 (i32 (pos 66)) ∷ Return (Some (Load I32 (farther p (pos 4)))) ∷ [])) no_input 5 ≡ ends (Exits (pos 66)) [] 5
block_run-sum = refl

small_run-sum : small_run (with_two (Store 1 I32 (i32 (pos 66)) ∷ Return (Some (Load I32 (farther p (pos 4)))) ∷ [])) no_input 5 ≡ ends (Exits (pos 66)) [] 5
small_run-sum = refl

block_run-difference : block_run (with_two (PrintSigned (Binary Sub Ptr q p) ∷ PrintSigned (Binary Sub Ptr p q) ∷ [])) no_input 5 ≡ ends (Exits (pos 0)) (codes "4-4") 5
unfolding digits
block_run-difference = refl

small_run-difference : small_run (with_two (PrintSigned (Binary Sub Ptr q p) ∷ PrintSigned (Binary Sub Ptr p q) ∷ [])) no_input 5 ≡ ends (Exits (pos 0)) (codes "4-4") 5
unfolding digits
small_run-difference = refl

-- == with a pointer that went there and back, == and < of the two, >= of one with itself
abbrev compares : List MonStatement
compares =
    shows (Binary Eq Ptr p (farther q (negsuc 3))) ∷ shows (Binary Eq Ptr p q) ∷ shows (Binary Lt Ptr p q) ∷ shows (Binary Lt Ptr q p) ∷ shows (Binary Ge Ptr p p) ∷ []

block_run-compares : block_run (with_two compares) no_input 5 ≡ ends (Exits (pos 0)) (codes "10101") 5
block_run-compares = refl

small_run-compares : small_run (with_two compares) no_input 5 ≡ ends (Exits (pos 0)) (codes "10101") 5
small_run-compares = refl

-- one behind the end is as far as a pointer goes
block_run-to_end : block_run (with_two (PrintSigned (Binary Sub Ptr (farther p (pos 8)) p) ∷ [])) no_input 5 ≡ ends (Exits (pos 0)) (codes "8") 5
unfolding digits
block_run-to_end = refl

small_run-to_end : small_run (with_two (PrintSigned (Binary Sub Ptr (farther p (pos 8)) p) ∷ [])) no_input 5 ≡ ends (Exits (pos 0)) (codes "8") 5
unfolding digits
small_run-to_end = refl

block_run-too_far : block_run (with_two (PrintSigned (Binary Sub Ptr (farther p (pos 9)) p) ∷ [])) no_input 5 ≡ ends Fault [] 5
block_run-too_far = refl

small_run-too_far : small_run (with_two (PrintSigned (Binary Sub Ptr (farther p (pos 9)) p) ∷ [])) no_input 5 ≡ ends (Exits (pos 0)) (codes "9") 5
unfolding digits
small_run-too_far = refl

block_run-too_low : block_run (with_two (PrintSigned (Binary Sub Ptr (farther p (negsuc 0)) p) ∷ [])) no_input 5 ≡ ends Fault [] 5
block_run-too_low = refl

small_run-too_low : small_run (with_two (PrintSigned (Binary Sub Ptr (farther p (negsuc 0)) p) ∷ [])) no_input 5 ≡ ends (Exits (pos 0)) (codes "-1") 5
unfolding digits
small_run-too_low = refl

-- pointers into two blocks have no distance over blocks; below null the address wraps
block_run-far_apart : block_run (with_memory (born 0 8 ∷ born 1 8 ∷ PrintSigned (Binary Sub Ptr q p) ∷ [])) no_input 5 ≡ ends Fault [] 5
block_run-far_apart = refl

small_run-far_apart : small_run (with_memory (born 0 8 ∷ born 1 8 ∷ PrintSigned (Binary Sub Ptr q p) ∷ [])) no_input 5 ≡ ends (Exits (pos 0)) (codes "16") 5
unfolding digits
small_run-far_apart = refl

block_run-below_null : block_run (with_memory (shows (Binary Lt Ptr p (farther p (negsuc 0))) ∷ [])) no_input 5 ≡ ends Fault [] 5
block_run-below_null = refl

small_run-below_null : small_run (with_memory (shows (Binary Lt Ptr p (farther p (negsuc 0))) ∷ [])) no_input 5 ≡ ends (Exits (pos 0)) (codes "1") 5
small_run-below_null = refl

-- a register begins as null, and so does the value of a body that comes to its end
abbrev gives_null : MonitoredProgram
gives_null = record {
  globals = [];
  functions = record { result = Some Ptr; name = codes "none"; parameters = []; registers = []; body = statements [] } ∷ record {
    result = Some I32;
    name = codes "main";
    parameters = [];
    registers = pointer (codes "p") ∷ pointer (codes "q") ∷ [];
    body = statements (shows (Binary Eq Ptr p null) ∷ born 0 8 ∷ Call (Some 0) 0 [] ∷ shows (Binary Eq Ptr p null) ∷ []);
  } ∷ [];
}

block_run-gives_null : block_run gives_null no_input 5 ≡ ends (Exits (pos 0)) (codes "11") 4
block_run-gives_null = refl

small_run-gives_null : small_run gives_null no_input 5 ≡ ends (Exits (pos 0)) (codes "11") 4
small_run-gives_null = refl

-- ---- globals and literals

abbrev pub two_globals : List MonitoredGlobal
two_globals = record { name = codes "g"; content = Zeros 4 } ∷ record { name = codes "h"; content = Literal (codes "hi") } ∷ []

-- the bytes of the literal with the 0 behind them, zeros, and a store into them
abbrev reads_globals : MonitoredProgram
reads_globals = with_globals two_globals (
    PutChar None (Cast I32 (Load U8 (Global 1))) ∷
    PutChar None (Cast I32 (Load I8 (farther (Global 1) (pos 1)))) ∷
    shows (Cast I32 (Load I8 (farther (Global 1) (pos 2)))) ∷
    shows (Load I32 (Global 0)) ∷
    Set 0 (Global 0) ∷
    Store 0 I32 (i32 (pos 9)) ∷
    shows (Load I32 (Global 0)) ∷
    [])

text-reads_globals : text_of reads_globals ≡
    line (codes "#include <e_acsl.h>")
    ++ (line (codes "static char g[4];")
    ++ (line (codes "static const char h[3] = \"hi\";")
    ++ (line (codes "i32 main(void) {")
    ++ (line (codes "  ptr p;")
    ++ (line (codes "  ptr q;")
    ++ (line (codes "  i32 c;")
    ++ (line (codes "  putchar(((i32)(*(u8 *)h)));")
    ++ (line (codes "  putchar(((i32)(*(i8 *)(h + I64(1)))));")
    ++ (line (codes "  putchar((((i32)(*(i8 *)(h + I64(2)))) + I32(48)));")
    ++ (line (codes "  putchar(((*(i32 *)g) + I32(48)));")
    ++ (line (codes "  p = g;")
    ++ (line (codes "  *(i32 *)p = I32(9);")
    ++ (line (codes "  __e_acsl_initialize(p, 4);")
    ++ (line (codes "  putchar(((*(i32 *)g) + I32(48)));")
    ++ line (codes "}")))))))))))))))
unfolding digits
text-reads_globals = refl

block_run-reads_globals : block_run reads_globals no_input 5 ≡ ends (Exits (pos 0)) (codes "hi009") 5
block_run-reads_globals = refl

small_run-reads_globals : small_run reads_globals no_input 5 ≡ ends (Exits (pos 0)) (codes "hi009") 5
small_run-reads_globals = refl

-- all of their bytes are written
abbrev asks_globals : MonitoredProgram
asks_globals = with_globals two_globals ((Set 0 (Global 0) ∷ Set 1 (Global 1) ∷ []) ++ (shows_number 0 Four ++ (shows_number 1 Two ++ (asks 2 1 (pos 2) One ∷ shows (Register 2) ∷ (shows_number 1 Four)))))

block_run-asks_globals : block_run asks_globals no_input 5 ≡ ends (Exits (pos 0)) (codes "1110") 5
block_run-asks_globals = refl

small_run-asks_globals : small_run asks_globals no_input 5 ≡ ends (Exits (pos 0)) (codes "1110") 5
small_run-asks_globals = refl

-- a literal is not written over blocks, and flat memory lets it be
abbrev writes_literal : MonitoredProgram
writes_literal = with_globals two_globals (Set 0 (Global 1) ∷ Store 0 U8 (Constant U8 (pos 72)) ∷ PutChar None (Cast I32 (Load U8 (Global 1))) ∷ [])

block_run-writes_literal : block_run writes_literal no_input 5 ≡ ends Fault [] 5
block_run-writes_literal = refl

small_run-writes_literal : small_run writes_literal no_input 5 ≡ ends (Exits (pos 0)) (codes "H") 5
small_run-writes_literal = refl

-- the first block after the globals has the next number
block_run-number_after : block_run (with_globals two_globals (born 0 8 ∷ Store 0 Ptr p ∷ PrintSigned (Load I64 p) ∷ [])) no_input 5 ≡ ends Fault [] 5
block_run-number_after = refl

small_run-number_after : small_run (with_globals two_globals (born 0 8 ∷ Store 0 Ptr p ∷ PrintSigned (Load I64 p) ∷ [])) no_input 5 ≡ ends (Exits (pos 0)) (codes "13958643712") 5
unfolding digits
small_run-number_after = refl

-- ---- strings

-- a literal is written up to its 0
abbrev writes_strings : MonitoredProgram
writes_strings = with_globals two_globals (PrintString (Global 1) ∷ PrintString (farther (Global 1) (pos 1)) ∷ PrintString (farther (Global 1) (pos 2)) ∷ PrintString (Global 0) ∷ [])

block_run-writes_strings : block_run writes_strings no_input 5 ≡ ends (Exits (pos 0)) (codes "hii") 5
block_run-writes_strings = refl

small_run-writes_strings : small_run writes_strings no_input 5 ≡ ends (Exits (pos 0)) (codes "hii") 5
small_run-writes_strings = refl

-- a string without a 0 breaks off over blocks at an unwritten byte and at the block's end, and flat memory goes on
abbrev writes_part : ℕ → MonitoredProgram
writes_part size = with_memory (born 0 size ∷ Store 0 U8 (Constant U8 (pos 72)) ∷ PrintString p ∷ [])

block_run-unwritten_string : block_run (writes_part 2) no_input 5 ≡ ends Fault (codes "H") 5
block_run-unwritten_string = refl

small_run-unwritten_string : small_run (writes_part 2) no_input 5 ≡ ends (Exits (pos 0)) (codes "H") 5
small_run-unwritten_string = refl

block_run-unended_string : block_run (writes_part 1) no_input 5 ≡ ends Fault (codes "H") 5
block_run-unended_string = refl

small_run-unended_string : small_run (writes_part 1) no_input 5 ≡ ends (Exits (pos 0)) (codes "H") 5
small_run-unended_string = refl

-- there is none at null
block_run-no_string : block_run (with_memory (PrintString null ∷ [])) no_input 5 ≡ ends Fault [] 5
block_run-no_string = refl

small_run-no_string : small_run (with_memory (PrintString null ∷ [])) no_input 5 ≡ ends Fault [] 5
small_run-no_string = refl

-- ---- validity

free-c : IsFreeName (codes "c")
unfolding reserved_words
free-c = record { begins = refl; parts = (refl, tt); short = omega arith; free = refl }

free-g : IsFreeName (codes "g")
unfolding reserved_words
free-g = record { begins = refl; parts = (refl, tt); short = omega arith; free = refl }

free-h : IsFreeName (codes "h")
unfolding reserved_words
free-h = record { begins = refl; parts = (refl, tt); short = omega arith; free = refl }

free-p : IsFreeName (codes "p")
unfolding reserved_words
free-p = record { begins = refl; parts = (refl, tt); short = omega arith; free = refl }

free-q : IsFreeName (codes "q")
unfolding reserved_words
free-q = record { begins = refl; parts = (refl, tt); short = omega arith; free = refl }

valid-breaks : IsValid breaks
valid-breaks = record {
  globals = tt;
  room = omega arith;
  functions = (
    record {
      name = free-main;
      registers = (free-x, refl, (free-c, refl, tt));
      body = (birth, (store, (ask, (first, (put, (second, (death, (back, tt))))))));
      within = omega arith;
    },
    refl,
    tt,
  );
  number = 0;
  main = _;
  has = refl;
  is_main = record { name = refl; result = refl; no_parameters = refl };
}
  where
    Fits : MonStatement → Type 0
    Fits a = IsStatement 0 main_only (Ptr ∷ I32 ∷ []) (Some I32) [] a

    birth : Fits (born 0 4)
    birth = ((record { typed = (refl, refl); within = omega arith }, tt), refl)

    store : Fits (Store 0 I32 (i32 (pos 65)))
    store = (refl, record { typed = (refl, refl); within = omega arith })

    ask : Fits (asks 1 0 (pos 0) Four)
    ask = ((record { typed = refl; within = omega arith }, (record { typed = (refl, refl); within = omega arith }, tt)), refl)

    first : Fits (Assert (Register 1) (i32 (pos 1)) 1 7 kind.Assert)
    first = (record { typed = refl; within = omega arith }, record { typed = (refl, refl); within = omega arith }, omega arith, omega arith)

    put : Fits (PutChar None (Load I32 (Register 0)))
    put = (tt, record { typed = (refl, refl); within = omega arith })

    second : Fits (Assert (i32 (pos 1)) (i32 (pos 0)) 4 9 kind.Ensures)
    second = (record { typed = (refl, refl); within = omega arith }, record { typed = (refl, refl); within = omega arith }, omega arith, omega arith)

    death : Fits (dies 0)
    death = ((record { typed = refl; within = omega arith }, tt), tt)

    back : Fits (Return (Some (i32 (pos 0))))
    back = record { typed = (refl, refl); within = omega arith }

-- a store into a literal is valid, and faults over blocks
valid-writes_literal : IsValid writes_literal
valid-writes_literal = record {
  globals = (free-g, refl, tt, (free-h, refl, (omega arith, (omega arith, tt)), tt));
  room = omega arith;
  functions = (
    record {
      name = free-main;
      registers = (free-p, refl, (free-q, refl, (free-c, refl, tt)));
      body = (set, (store, (put, tt)));
      within = omega arith;
    },
    refl,
    tt,
  );
  number = 0;
  main = _;
  has = refl;
  is_main = record { name = refl; result = refl; no_parameters = refl };
}
  where
    Fits : MonStatement → Type 0
    Fits a = IsStatement 2 main_only (Ptr ∷ Ptr ∷ I32 ∷ []) (Some I32) [] a

    set : Fits (Set 0 (Global 1))
    set = (Ptr, refl, record { typed = (refl, omega arith); within = omega arith })

    store : Fits (Store 0 U8 (Constant U8 (pos 72)))
    store = (refl, record { typed = (refl, refl); within = omega arith })

    put : Fits (PutChar None (Cast I32 (Load U8 (Global 1))))
    put = (tt, record { typed = (refl, refl, (U8, refl, (refl, (refl, omega arith)))); within = omega arith })
