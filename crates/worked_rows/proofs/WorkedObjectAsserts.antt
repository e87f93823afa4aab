-- Asserts of objects in whole runs (ACSL 2.7), by computation: after what the program did to them.
use Rattle.std.proofs.Common.{◌≡◌, ℕ, pos, true, [], ◌∷◌, None, Some, refl}
use Rattle.c_syntax.specs.declared.annotation.Kind.TheVariants.{Assert}
use Rattle.c_syntax.specs.declared.expression.BinOp.TheVariants as operator
use Rattle.c_syntax.specs.declared.expression.UnOp.TheVariants as unary
use Rattle.c_syntax.specs.declared.logic.Connective.TheVariants.{And}
use Rattle.c_syntax.specs.declared.logic.MemoryQuestion.TheVariants.{Valid, Initialized}
use Rattle.c_syntax.specs.Ctypes.{PlainType, Ptr, Array, Struct, Count, int_type}
use Rattle.c_syntax.specs.Expressions.{Expression, Node, Variable, Unary, Binary, Assign, Cast, Dot}
use Rattle.c_syntax.specs.Logic.{LogicTerm, Predicate, Not, Object}
use Rattle.c_syntax.specs.Statements.{BlockItem, Declaration, Declare, One, Run}
use Rattle.worked_rows.proofs.WorkedTerms.{here, int, char, number, variable, deref, member, at_address, minus, as_pointer, same, other, connected_by, asked, object}
use Rattle.worked_rows.proofs.WorkedClauses.{at, lit, var, does, sets, int_of, asserted, block_of, main_of, program, runs, exits, false_at, undefined_at, clause}

abbrev unwritten : PlainType → ℕ → Declaration
unwritten t decl = record { place = at 1 decl; name = 0; named = true; ctype = t; init = None }

abbrev set_at_first : PlainType → ℕ → Expression → BlockItem
set_at_first t decl e = Declare (record { place = at 1 decl; name = 0; named = true; ctype = t; init = Some (at 1 1, One e) } ∷ [])

abbrev typed : PlainType → ℕ → Expression
typed t decl = Node (at 1 1) t (Variable (record { name = 0; decl = decl }))

abbrev address_of : ℕ → Expression
address_of decl = Node (at 1 1) (Ptr int_type) (Unary unary.Address (var decl))

abbrev asserts : ℕ → Predicate → BlockItem
asserts k f = asserted (clause Assert k f)

-- int a[4]; int b[4]; int main(void) { int *p = a + 4; //@ assert \valid(p - 1);  assert !\valid(p);  assert \valid(p);  }
abbrev p : LogicTerm
p = variable (Ptr int) 50

behind_an_array : runs (program (unwritten (Array int_type (Count 4)) 10 ∷ unwritten (Array int_type (Count 4)) 11 ∷ [])
    (main_of (set_at_first (Ptr int_type) 50 (Node (at 1 1) (Ptr int_type) (Binary operator.Add (Node (at 1 1) (Ptr int_type) (Cast (Ptr int_type) (typed (Array int_type (Count 4)) 10))) (lit 4)))
    ∷ asserts 1 (asked Valid (object (minus p (pos 1)))) ∷ asserts 2 (Not here (asked Valid (object p))) ∷ asserts 3 (asked Valid (object p)) ∷ []) ∷ [])) ≡ false_at 3 Assert 9
behind_an_array = refl

-- int x; //@ assert !\initialized(&x);  assert x == 0;
not_written_yet : runs (program [] (main_of (Declare (unwritten int_type 50 ∷ []) ∷ asserts 1 (Not here (asked Initialized (object (at_address (variable int 50))))) ∷ asserts 2 (same (variable int 50) (number (pos 0))) ∷ []) ∷ []))
    ≡ undefined_at 2 Assert 9
not_written_yet = refl

-- int x; x = 0; //@ assert \initialized(&x) && x == 0;
written_by_then : runs (program [] (main_of (Declare (unwritten int_type 50 ∷ []) ∷ sets 50 (lit 0) ∷ asserts 1 (connected_by And (asked Initialized (object (at_address (variable int 50)))) (same (variable int 50) (number (pos 0)))) ∷ []) ∷ []))
    ≡ exits (pos 0) 9
written_by_then = refl

-- int x = 0; int *p = &x; //@ assert *p == 0 && p == &x;  assert *(int *)&p == 0;
pieces_arent_read : runs (program [] (main_of (int_of 60 (lit 0) ∷ set_at_first (Ptr int_type) 50 (address_of 60)
    ∷ asserts 1 (connected_by And (same (deref int p) (number (pos 0))) (same p (at_address (variable int 60)))) ∷ asserts 2 (same (deref int (as_pointer int (at_address p))) (number (pos 0))) ∷ []) ∷ []))
    ≡ undefined_at 2 Assert 9
pieces_arent_read = refl

-- int *p; { int x = 1; p = &x; //@ assert \valid(p);  } //@ assert !\valid(p);  assert p != \null;
dead_behind_its_block : runs (program [] (main_of (Declare (unwritten (Ptr int_type) 50 ∷ []) ∷ Run (block_of (int_of 60 (lit 1) ∷ does (Node (at 1 1) (Ptr int_type) (Assign None (typed (Ptr int_type) 50) (address_of 60)))
    ∷ asserts 1 (asked Valid (object p)) ∷ [])) ∷ asserts 2 (Not here (asked Valid (object p))) ∷ asserts 3 (other p (number (pos 0))) ∷ []) ∷ [])) ≡ undefined_at 3 Assert 9
dead_behind_its_block = refl

-- struct s { char c; int n; } a, b; a.n = 7; b = a; //@ assert b.n == 7 && !\initialized(&b.c);  assert b.c == 0;
abbrev member_c : LogicTerm
member_c = member char 0 (variable (Struct 0) 60)

an_unwritten_member_is_copied : runs (record (program [] (main_of (Declare (unwritten (Struct 0) 50 ∷ unwritten (Struct 0) 60 ∷ [])
    ∷ does (Node (at 1 1) int_type (Assign None (Node (at 1 1) int_type (Dot (typed (Struct 0) 50) 9)) (lit 7))) ∷ does (Node (at 1 1) (Struct 0) (Assign None (typed (Struct 0) 60) (typed (Struct 0) 50)))
    ∷ asserts 1 (connected_by And (same (member int 4 (variable (Struct 0) 60)) (number (pos 7))) (Not here (asked Initialized (Object here 1 1 (at_address member_c)))))
    ∷ asserts 2 (same member_c (number (pos 0))) ∷ []) ∷ [])) {
      structs = record {
        place = at 1 1;
        tag = None;
        members = record { place = at 1 1; name = 8; ctype = char; offset = 0 } ∷ record { place = at 1 1; name = 9; ctype = int_type; offset = 4 } ∷ [];
        size = 8;
        align = 4;
      } ∷ [];
    }) ≡ undefined_at 2 Assert 9
an_unwritten_member_is_copied = refl
