-- Formats of printf and their pieces, what typing makes of its calls, and what they print, by computation.
use Rattle.std.proofs.Common.{◌≡◌, ℕ, ℤ, pos, negsuc, List, [], ◌∷◌, ◌++◌, Some, None, true, codes, refl, ap}
use Rattle.c_syntax.specs.declared.types.CInt.{CInt}
use Rattle.c_syntax.specs.declared.types.CInt.TheVariants.{I8, I32, U32, I64, U64}
use Rattle.c_syntax.specs.Ctypes.{PlainType, Void, Int, Ptr, Array, Count, int_type}
use Rattle.c_syntax.specs.Expressions.{Expression, Node, Text, Number, Letter, Index, Assign, Cast}
use Rattle.c_syntax.specs.Expressions as expression
use Rattle.c_syntax.specs.Statements.{BlockItem, Declare, Run, Eval, Return}
use Rattle.c_syntax.specs.Programs.{StringLiteral, TranslationUnit}
use Rattle.c_model.specs.Formats.{Bytes, Number as NumberPiece, Character, String, pieces_of, types_of}
use Rattle.c_model.specs.Library.{library_constant}
use Rattle.c_model.specs.Checked.{Checked, Good, one_part}
use Rattle.c_model.specs.ExpressionTyping.{Sight, typed}
use Rattle.c_model.specs.Memory.{Integer, NoValue}
use Rattle.c_model.specs.State.{State, Normal, Exits, Undefined, on_outcome, give}
use Rattle.c_model.specs.Printing.{print_pieces}
use Rattle.c_model.proofs.Printing.{bytes_are_printed}
use Rattle.std.specs.Fmt.{signed_decimal}
use Rattle.c_model.specs.Meaning.{Ran, run}
use Rattle.worked_rows.proofs.WorkedTrees.{library_call, definition, no_input}
use Rattle.worked_rows.proofs.WorkedSight.{at, fault, sight, read, name, call, c, i, j, l, m, p, v, z, object, converted}

-- ---- formats

all_directives : pieces_of (codes "%d %u %c %ld %lu %s%%.") ≡ Some (NumberPiece I32 ∷ Bytes (codes " ") ∷ NumberPiece U32 ∷ Bytes (codes " ") ∷ Character
    ∷ Bytes (codes " ") ∷ NumberPiece I64 ∷ Bytes (codes " ") ∷ NumberPiece U64 ∷ Bytes (codes " ") ∷ String ∷ Bytes (codes "%.") ∷ [])
all_directives = refl

its_first_zero_ends_a_format : pieces_of (codes "a" ++ 0 ∷ codes "b%d") ≡ Some (Bytes (codes "a") ∷ [])
its_first_zero_ends_a_format = refl

an_empty_format : pieces_of [] ≡ Some []
an_empty_format = refl

a_percent_at_the_end : pieces_of (codes "a%") ≡ None
a_percent_at_the_end = refl

a_percent_before_a_zero : pieces_of (codes "a%" ++ 0 ∷ codes "d") ≡ None
a_percent_before_a_zero = refl

no_width : pieces_of (codes "%5d") ≡ None
no_width = refl

no_hexadecimal : pieces_of (codes "%x") ≡ None
no_hexadecimal = refl

no_long_character : pieces_of (codes "%lc") ≡ None
no_long_character = refl

no_long_long : pieces_of (codes "%lld") ≡ None
no_long_long = refl

types_of_all : types_of (NumberPiece I32 ∷ Bytes (codes " ") ∷ NumberPiece U64 ∷ Character ∷ String ∷ []) ≡ int_type ∷ Int U64 ∷ int_type ∷ Ptr (Int I8) ∷ []
types_of_all = refl

-- ---- typing (C99 7.19.6.1 p7 to p9)

-- string literals by their offsets
abbrev literal : ℕ → List ℕ → StringLiteral
literal offset bytes = record { place = at offset; bytes = bytes }

abbrev with_formats : Sight
with_formats = record sight {
  names = sight.names ++ codes "printf" ∷ [];
  texts =
      literal 10 (codes "%d") ∷ literal 20 (codes "%u") ∷ literal 30 (codes "%c") ∷ literal 40 (codes "%ld") ∷ literal 50 (codes "%lu") ∷ literal 60 (codes "%s")
      ∷ literal 70 (codes "hey") ∷ literal 80 (codes "%x") ∷ literal 90 (codes "%") ∷ literal 100 (codes "a" ++ 0 ∷ codes "%d") ∷ [];
}

abbrev text : ℕ → Expression
text offset = read offset (Text offset)

-- a call of printf with its `(` at 1, which is typed: its type or its faults
abbrev prints : List Expression → Checked PlainType
prints es = one_part (typed with_formats (call 40 1 es)) (λ (e : Expression). Good (expression.type_of e))

-- printf("%d", c): the format is a pointer to its first byte, and the argument is promoted
arguments_are_converted : typed with_formats (call 40 1 (text 10 ∷ c 12 ∷ []))
    ≡ Good (library_call Void (at 1) 40 (Node (at 10) (Ptr (Int I8)) (Cast (Ptr (Int I8)) (Node (at 10) (Array (Int I8) (Count 3)) (Text 0))) ∷ converted int_type (object 0 (Int I8) 12) ∷ []))
unfolding library_constant
arguments_are_converted = refl

-- each directive with what is as wide as its type, whatever its sign
arguments_of_all :
    prints (text 10 ∷ j 2 ∷ []) ∷ prints (text 20 ∷ i 2 ∷ []) ∷ prints (text 30 ∷ c 2 ∷ []) ∷ prints (text 40 ∷ m 2 ∷ []) ∷ prints (text 50 ∷ l 2 ∷ []) ∷ prints (text 60 ∷ z 2 ∷ [])
    ∷ prints (text 60 ∷ text 70 ∷ []) ∷ prints (text 70 ∷ []) ∷ prints (text 100 ∷ []) ∷ []
    ≡ Good Void ∷ Good Void ∷ Good Void ∷ Good Void ∷ Good Void ∷ Good Void ∷ Good Void ∷ Good Void ∷ Good Void ∷ []
unfolding library_constant
arguments_of_all = refl

-- printf("%d", l), printf("%ld", i), printf("%s", i), printf("%s", v), printf("%d", p)
arguments_of_other_types :
    prints (text 10 ∷ l 2 ∷ []) ∷ prints (text 40 ∷ i 2 ∷ []) ∷ prints (text 60 ∷ i 2 ∷ []) ∷ prints (text 60 ∷ v 2 ∷ []) ∷ prints (text 10 ∷ p 2 ∷ []) ∷ []
    ≡ fault 6 2 ∷ fault 6 2 ∷ fault 6 2 ∷ fault 6 2 ∷ fault 6 2 ∷ []
unfolding library_constant
arguments_of_other_types = refl

-- printf(), printf("%d"), printf("hey", i)
numbers_of_arguments : prints [] ∷ prints (text 10 ∷ []) ∷ prints (text 70 ∷ i 2 ∷ []) ∷ [] ≡ fault 6 1 ∷ fault 6 1 ∷ fault 6 1 ∷ []
unfolding library_constant
numbers_of_arguments = refl

-- printf("%x", i), printf("%"), printf(z), printf(i): whatever follows
what_is_no_format : prints (text 80 ∷ i 2 ∷ []) ∷ prints (text 90 ∷ []) ∷ prints (z 2 ∷ i 5 ∷ []) ∷ prints (i 2 ∷ []) ∷ [] ≡ fault 6 80 ∷ fault 6 90 ∷ fault 6 2 ∷ fault 6 2 ∷ []
unfolding library_constant
what_is_no_format = refl

-- printf alone
no_value_of_its_own : typed with_formats (name 40 3) ≡ fault 6 3
unfolding library_constant
no_value_of_its_own = refl

-- ---- what is printed

-- names: main, printf, c
abbrev program_of : List StringLiteral → List BlockItem → TranslationUnit
program_of texts items = record {
  names = codes "main" ∷ codes "printf" ∷ codes "c" ∷ [];
  texts = texts;
  structs = [];
  enums = [];
  typedefs = [];
  globals = [];
  strays = [];
  funcs = definition int_type (at 4) 0 [] (at 14) (at 99) items ∷ [];
}

abbrev number : CInt → ℤ → Expression
number k n = Node (at 40) (Int k) (expression.Number n (Some k))

-- the address of the first byte of a literal
abbrev string : ℕ → ℕ → Expression
string n count = Node (at 30) (Ptr (Int I8)) (Cast (Ptr (Int I8)) (Node (at 30) (Array (Int I8) (Count count)) (Text n)))

abbrev prints_of : List Expression → BlockItem
prints_of es = Run (Eval (at 20) (library_call Void (at 26) 1 es))

abbrev returns : BlockItem
returns = Run (Return (at 90) (Some (number I32 (pos 0))))

abbrev out : List ℕ → Ran
out bytes = record { final = Exits (pos 0); output = bytes; left = 10 }

--     int main(void) { printf("%c %s%%", 65, "abc"); return 0; }
prints_text : run (program_of (literal 30 (codes "%c %s%%") ∷ literal 60 (codes "abc") ∷ []) (prints_of (string 0 7 ∷ number I32 (pos 65) ∷ string 1 4 ∷ []) ∷ returns ∷ [])) no_input 10
    ≡ out (codes "A abc%")
prints_text = refl

--     int main(void) { printf("a\0b%d"); printf("%c", 321); return 0; }
prints_in_order : run (program_of (literal 30 (codes "a" ++ 0 ∷ codes "b%d") ∷ literal 70 (codes "%c") ∷ [])
    (prints_of (string 0 6 ∷ []) ∷ prints_of (string 1 3 ∷ number I32 (pos 321) ∷ []) ∷ returns ∷ [])) no_input 10
    ≡ out (codes "aA")
prints_in_order = refl

-- a number is written in decimal: here -1 as an `int`, behind what was printed before
a_number_is_printed : (s : State) → print_pieces (at 26) (NumberPiece I32 ∷ []) (Integer (negsuc 0) ∷ []) s ≡ Normal NoValue (record s { output = s.output ++ signed_decimal (negsuc 0) })
a_number_is_printed s = ap (λ o. on_outcome o (λ _. give NoValue)) (bytes_are_printed (signed_decimal (negsuc 0)) s)

-- `char c[2]; c[0] = 'o';`
abbrev characters : PlainType
characters = Array (Int I8) (Count 2)

abbrev array : Expression
array = Node (at 44) characters (expression.Variable (record { name = 2; decl = 22 }))

abbrev first_byte : Expression
first_byte = Node (at 44) (Ptr (Int I8)) (Cast (Ptr (Int I8)) array)

--     int main(void) { char c[2]; c[0] = 'o'; printf("<%s>", c); return 0; }
what_was_read_is_printed : run (program_of (literal 30 (codes "<%s>") ∷ []) (Declare (record { place = at 22; name = 2; named = true; ctype = characters; init = None } ∷ [])
    ∷ Run (Eval (at 24) (Node (at 28) (Int I8) (Assign None (Node (at 25) (Int I8) (Index first_byte (number I32 (pos 0)))) (Node (at 29) (Int I8) (Cast (Int I8) (Node (at 29) int_type (Letter (pos 111))))))))
    ∷ prints_of (string 0 5 ∷ first_byte ∷ []) ∷ returns ∷ [])) no_input 10
    ≡ record { final = Undefined (at 26); output = codes "<o"; left = 10 }
what_was_read_is_printed = refl
