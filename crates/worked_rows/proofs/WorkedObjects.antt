-- Globals and string literals in the order of the text, by computation: their blocks, and their room.
use Rattle.std.proofs.Common.{◌≡◌, ℕ, ◌+◌, pos, true, List, [], ◌∷◌, replicate, Some, None, codes, refl}
use Rattle.c_syntax.specs.declared.place.Place.{Place}
use Rattle.c_syntax.specs.declared.types.CInt.TheVariants.{I8, I32}
use Rattle.c_syntax.specs.declared.types.BlockKind.TheVariants as block
use Rattle.c_syntax.specs.Ctypes.{Int, Ptr, Array, Count, int_type}
use Rattle.c_syntax.specs.Expressions.{Expression, Node, Text, Variable, Index, Cast}
use Rattle.c_syntax.specs.Statements.{Statement, Eval, Run, Return}
use Rattle.c_syntax.specs.Programs.{StringLiteral, TranslationUnit}
use Rattle.c_model.specs.Memory.{Null, Into, block_of, Number}
use Rattle.c_model.specs.State.{Exits}
use Rattle.c_model.specs.StaticObjects.{OfGlobal, OfLiteral, static_objects}
use Rattle.c_model.specs.Meaning.{global_scope, literal, tables_of, start, run}
use Rattle.c_model.specs.UnitTyping.{room_fault}
use Rattle.worked_rows.proofs.WorkedTrees.{place, cast, object_of, unwritten_int, putchar_call, definition, unit_of, no_input}
use Rattle.worked_rows.proofs.WorkedTrees.{literal as number}

-- a place on the first line
abbrev at : ℕ → Place
at offset = place 1 (offset + 1) offset

abbrev string : ℕ → List ℕ → StringLiteral
string offset bytes = record { place = at offset; bytes = bytes }

-- a literal where it stands, with its index and its length
abbrev text : ℕ → ℕ → ℕ → Expression
text offset n size = Node (at offset) (Array (Int I8) (Count size)) (Text n)

-- a literal as a pointer
abbrev pointer : ℕ → ℕ → ℕ → Expression
pointer offset n size = Node (at offset) (Ptr (Int I8)) (Cast (Ptr (Int I8)) (text offset n size))

abbrev prints : ℕ → Expression → ℕ → Statement
prints offset e i = Eval (at offset) (putchar_call (at (offset + 7)) 4 (cast I32 (Node (at (offset + 9)) (Int I8) (Index e (number (at (offset + 10)) i)))))

-- enum { A = sizeof "a" }; int x; char *p = "bc"; int y; int main(void) { putchar(p[1]); putchar("d"[0]); return 0; }
abbrev a_literal_first : TranslationUnit
a_literal_first = record (unit_of (codes "x" ∷ codes "p" ∷ codes "y" ∷ codes "main" ∷ codes "putchar" ∷ []) (definition int_type (at 59) 3 [] (at 70) (at 113) (
    Run (prints 72 (Node (at 80) (Ptr (Int I8)) (Variable (record { name = 1; decl = 38 }))) 1) ∷
    Run (prints 87 (pointer 95 2 2) 0) ∷
    Run (Return (at 103) (Some (number (at 110) 0))) ∷ []) ∷ [])) {
      texts = string 18 (codes "a") ∷ string 42 (codes "bc") ∷ string 95 (codes "d") ∷ [];
      globals = unwritten_int (at 29) 0 ∷ object_of (Ptr (Int I8)) (at 38) 1 (at 40) (pointer 42 1 3) ∷ unwritten_int (at 52) 2 ∷ [];
    }

-- one before all globals, one between two, and one after all
static_objects-a_literal_first : static_objects a_literal_first ≡
    OfLiteral (string 18 (codes "a")) ∷ OfGlobal (unwritten_int (at 29) 0) ∷ OfGlobal (object_of (Ptr (Int I8)) (at 38) 1 (at 40) (pointer 42 1 3))
    ∷ OfLiteral (string 42 (codes "bc")) ∷ OfGlobal (unwritten_int (at 52) 2) ∷ OfLiteral (string 95 (codes "d")) ∷ []
static_objects-a_literal_first = refl

global_scope-a_literal_first : global_scope a_literal_first ≡ (29, 2) ∷ (38, 3) ∷ (52, 5) ∷ []
global_scope-a_literal_first = refl

literal-first : literal (tables_of a_literal_first) 0 ≡ Into 1 0
literal-first = refl

literal-between : literal (tables_of a_literal_first) 1 ≡ Into 4 0
literal-between = refl

literal-last : literal (tables_of a_literal_first) 2 ≡ Into 6 0
literal-last = refl

-- there is no fourth
literal-none : literal (tables_of a_literal_first) 3 ≡ Null
literal-none = refl

start-a_literal_first : (start a_literal_first no_input 9).store ≡
    block_of block.Literal (Number 97 ∷ Number 0 ∷ []) ∷ block_of block.Global (replicate 4 (Number 0)) ∷ block_of block.Global (replicate 8 (Number 0))
    ∷ block_of block.Literal (Number 98 ∷ Number 99 ∷ Number 0 ∷ []) ∷ block_of block.Global (replicate 4 (Number 0))
    ∷ block_of block.Literal (Number 100 ∷ Number 0 ∷ []) ∷ []
start-a_literal_first = refl

run-a_literal_first : run a_literal_first no_input 9 ≡ record { final = Exits (pos 0); output = codes "cd"; left = 9 }
run-a_literal_first = refl

-- char a[1048559]; char *p = "bc"; int y;
abbrev a_literal_too_many : TranslationUnit
a_literal_too_many = record (unit_of [] []) {
  texts = string 27 (codes "bc") ∷ [];
  globals =
      record { place = at 5; name = 0; named = true; ctype = Array (Int I8) (Count 1048559); init = None }
      ∷ object_of (Ptr (Int I8)) (at 23) 1 (at 25) (pointer 27 0 3) ∷ unwritten_int (at 36) 2 ∷ [];
}

-- the literal is the first without room, and not the global behind it
room_fault-a_literal_too_many : room_fault a_literal_too_many ≡ Some (record { code = 12; place = at 27 })
room_fault-a_literal_too_many = refl

-- a text without it has its fault at that global
room_fault-without_it : room_fault (record a_literal_too_many { texts = [] }) ≡ Some (record { code = 12; place = at 36 })
room_fault-without_it = refl

-- char a[1048543]; char *p = "bc"; int y;
room_fault-room_for_all_but_one : room_fault (record a_literal_too_many {
  globals =
      record { place = at 5; name = 0; named = true; ctype = Array (Int I8) (Count 1048543); init = None }
      ∷ object_of (Ptr (Int I8)) (at 23) 1 (at 25) (pointer 27 0 3) ∷ unwritten_int (at 36) 2 ∷ [];
}) ≡ Some (record { code = 12; place = at 36 })
room_fault-room_for_all_but_one = refl
