-- Typings of struct assignments, and of calls of `malloc`, `calloc` and `free`, by computation.
use Rattle.std.proofs.Common.{◌≡◌, ℕ, pos, List, [], ◌∷◌, Some, None, codes, refl}
use Rattle.c_syntax.specs.declared.place.Place.{Place}
use Rattle.c_syntax.specs.declared.types.CInt.TheVariants.{I8, I32, U64}
use Rattle.c_syntax.specs.declared.expression.BinOp.TheVariants.{Add}
use Rattle.c_syntax.specs.declared.expression.UnOp.TheVariants.{Deref}
use Rattle.c_syntax.specs.Ctypes.{Void, Int, Ptr, Struct, int_type}
use Rattle.c_syntax.specs.Expressions.{Expression, Node, Number, Text, Variable, Unary, Assign, Cast, SizeOfType, Dot, Comma}
use Rattle.c_model.specs.Library.{library_constant, is_library_name}
use Rattle.c_model.specs.Checked.{Good, Bad, faulty}
use Rattle.c_model.specs.ExpressionTyping.{no_type, no_name, Sight, AnObject, typed}
use Rattle.c_model.specs.StatementTyping.{typed_declarations}
use Rattle.worked_rows.proofs.WorkedTrees.{place, literal, call, library_call, object_of}

-- struct s { char c; int n; } x, y; struct v { int n; } z; struct u *q; char *w; int k;
abbrev sight : Sight
sight = record {
  names =
      codes "x" ∷ codes "y" ∷ codes "z" ∷ codes "q" ∷ codes "w" ∷ codes "k" ∷ codes "malloc" ∷ codes "calloc" ∷ codes "free" ∷
      codes "c" ∷ codes "n" ∷ codes "s" ∷ codes "v" ∷ codes "u" ∷ codes "m" ∷ [];
  texts = record { place = place 1 9 9; bytes = codes "x" } ∷ [];
  functions = [];
  entities =
      AnObject (record { name = 0; decl = 10; ctype = Struct 0 }) ∷
      AnObject (record { name = 1; decl = 20; ctype = Struct 0 }) ∷
      AnObject (record { name = 2; decl = 30; ctype = Struct 1 }) ∷
      AnObject (record { name = 3; decl = 40; ctype = Ptr (Struct 2) }) ∷
      AnObject (record { name = 4; decl = 50; ctype = Ptr (Int I8) }) ∷
      AnObject (record { name = 5; decl = 60; ctype = int_type }) ∷ [];
  innermost = 0;
  types = [];
  structs =
      record { place = place 1 1 1; tag = Some 11; members = record { place = place 1 2 2; name = 9; ctype = Int I8; offset = 0 } ∷ record { place = place 1 3 3; name = 10; ctype = int_type; offset = 4 } ∷ []; size = 8; align = 4 } ∷
      record { place = place 1 4 4; tag = Some 12; members = record { place = place 1 5 5; name = 10; ctype = int_type; offset = 0 } ∷ []; size = 4; align = 4 } ∷
      record { place = place 1 6 6; tag = Some 13; members = []; size = 0; align = 1 } ∷ [];
  levels = 1 ∷ 1 ∷ 0 ∷ [];
  enum_tags = [];
  enums = [];
}

abbrev at : Place
at = place 1 1 0

-- as the parser leaves it: no types and no declarations
abbrev name : ℕ → Expression
name x = Node at Void (Variable (record { name = x; decl = 0 }))

abbrev number : ℕ → Expression
number n = Node (place 1 8 8) Void (Number (pos n) (Some I32))

abbrev read_call : ℕ → List Expression → Expression
read_call x es = call Void (place 1 7 7) x 0 es

-- at this place an expression is assigned to another
abbrev equals : Place
equals = place 1 2 2

abbrev read_assignment : Expression → Expression → Expression
read_assignment a b = Node equals Void (Assign None a b)

abbrev struct_object : ℕ → ℕ → Expression
struct_object x decl = Node at (Struct 0) (Variable (record { name = x; decl = decl }))

abbrev x_typed : Expression
x_typed = struct_object 0 10

abbrev y_typed : Expression
y_typed = struct_object 1 20

-- a literal as the operand of a size
abbrev size : ℕ → Expression
size n = Node (place 1 8 8) (Int U64) (Cast (Int U64) (literal (place 1 8 8) n))

abbrev pointer_to_char : Expression → Expression
pointer_to_char e = Node (place 1 7 7) (Ptr (Int I8)) (Cast (Ptr (Int I8)) e)

-- ---- structs

-- x = y
typed-struct_assigned : typed sight (read_assignment (name 0) (name 1)) ≡ Good (Node equals (Struct 0) (Assign None x_typed y_typed))
typed-struct_assigned = refl

-- x = y = x, and (x = y).n: what was assigned is the object
typed-structs_assigned : typed sight (read_assignment (name 0) (read_assignment (name 1) (name 0)))
    ≡ Good (Node equals (Struct 0) (Assign None x_typed (Node equals (Struct 0) (Assign None y_typed x_typed))))
typed-structs_assigned = refl

typed-member_assigned : typed sight (Node (place 1 4 4) Void (Dot (read_assignment (name 0) (name 1)) 10))
    ≡ Good (Node (place 1 4 4) int_type (Dot (Node equals (Struct 0) (Assign None x_typed y_typed)) 10))
typed-member_assigned = refl

-- x = z and z = x: two structs
typed-other_struct : typed sight (read_assignment (name 0) (name 2)) ≡ faulty (no_type equals)
typed-other_struct = refl

typed-another_struct : typed sight (read_assignment (name 2) (name 0)) ≡ faulty (no_type equals)
typed-another_struct = refl

-- x = k and k = x
typed-struct_of_number : typed sight (read_assignment (name 0) (name 5)) ≡ faulty (no_type equals)
typed-struct_of_number = refl

typed-number_of_struct : typed sight (read_assignment (name 5) (name 0)) ≡ faulty (no_type equals)
typed-number_of_struct = refl

-- *q = *q, of a struct whose members aren't known
typed-unknown_struct : typed sight (read_assignment (Node (place 1 3 3) Void (Unary Deref (name 3))) (Node (place 1 4 4) Void (Unary Deref (name 3)))) ≡ faulty (no_name equals)
typed-unknown_struct = refl

-- x += y and (k, x) = y
typed-struct_added : typed sight (Node equals Void (Assign (Some Add) (name 0) (name 1))) ≡ faulty (no_type equals)
typed-struct_added = refl

typed-no_struct_place : typed sight (read_assignment (Node (place 1 3 3) Void (Comma (name 5) (name 0))) (name 1)) ≡ faulty (no_type equals)
typed-no_struct_place = refl

-- struct s m = x;
typed-struct_initialised : typed_declarations sight (object_of (Struct 0) (place 1 6 6) 14 equals (name 0) ∷ []) ≡ faulty (no_type equals)
unfolding library_constant is_library_name
typed-struct_initialised = refl

-- ---- the heap

-- w = malloc(8)
typed-block_assigned : typed sight (read_assignment (name 4) (read_call 6 (number 8 ∷ [])))
    ≡ Good (Node equals (Ptr (Int I8)) (Assign None (Node at (Ptr (Int I8)) (Variable (record { name = 4; decl = 50 }))) (pointer_to_char (library_call (Ptr Void) (place 1 7 7) 6 (size 8 ∷ [])))))
typed-block_assigned = refl

-- char *m = malloc(8); and int m = malloc(8);
typed-block_initialised : typed_declarations sight (object_of (Ptr (Int I8)) (place 1 6 6) 14 equals (read_call 6 (number 8 ∷ [])) ∷ [])
    ≡ Good (object_of (Ptr (Int I8)) (place 1 6 6) 14 equals (pointer_to_char (library_call (Ptr Void) (place 1 7 7) 6 (size 8 ∷ []))) ∷ [])
unfolding library_constant is_library_name
typed-block_initialised = refl

typed-block_no_number : typed_declarations sight (object_of int_type (place 1 6 6) 14 equals (read_call 6 (number 8 ∷ [])) ∷ []) ≡ faulty (no_type equals)
unfolding library_constant is_library_name
typed-block_no_number = refl

-- calloc(k, sizeof(struct s))
typed-calloc : typed sight (read_call 7 (name 5 ∷ Node (place 1 9 9) Void (SizeOfType (Struct 0)) ∷ []))
    ≡ Good (library_call (Ptr Void) (place 1 7 7) 7 (Node at (Int U64) (Cast (Int U64) (Node at int_type (Variable (record { name = 5; decl = 60 })))) ∷ Node (place 1 9 9) (Int U64) (SizeOfType (Struct 0)) ∷ []))
typed-calloc = refl

-- malloc("x"), malloc(), malloc(8, 8) and calloc(8)
typed-text_size : typed sight (read_call 6 (Node (place 1 9 9) Void (Text 9) ∷ [])) ≡ faulty (no_type (place 1 9 9))
typed-text_size = refl

typed-no_size : typed sight (read_call 6 []) ≡ faulty (no_type (place 1 7 7))
typed-no_size = refl

typed-two_sizes : typed sight (read_call 6 (number 8 ∷ number 8 ∷ [])) ≡ faulty (no_type (place 1 7 7))
typed-two_sizes = refl

typed-no_count : typed sight (read_call 7 (number 8 ∷ [])) ≡ faulty (no_type (place 1 7 7))
typed-no_count = refl

-- free(w), free(0) and free(1)
typed-free : typed sight (read_call 8 (name 4 ∷ []))
    ≡ Good (library_call Void (place 1 7 7) 8 (Node at (Ptr Void) (Cast (Ptr Void) (Node at (Ptr (Int I8)) (Variable (record { name = 4; decl = 50 })))) ∷ []))
typed-free = refl

typed-free_null : typed sight (read_call 8 (number 0 ∷ [])) ≡ Good (library_call Void (place 1 7 7) 8 (Node (place 1 8 8) (Ptr Void) (Cast (Ptr Void) (literal (place 1 8 8) 0)) ∷ []))
typed-free_null = refl

typed-free_number : typed sight (read_call 8 (number 1 ∷ [])) ≡ faulty (no_type (place 1 8 8))
typed-free_number = refl

-- w = free(w): no value
typed-free_value : typed sight (read_assignment (name 4) (read_call 8 (name 4 ∷ []))) ≡ faulty (no_type equals)
typed-free_value = refl

-- malloc = w: a function's name stands only where it is called
typed-malloc_assigned : typed sight (read_assignment (name 6) (name 4)) ≡ Bad (no_type at) []
unfolding library_constant
typed-malloc_assigned = refl
