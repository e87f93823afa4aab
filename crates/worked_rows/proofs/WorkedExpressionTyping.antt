-- Typings of expressions with pointers, arrays and structs, by computation.
use Rattle.std.proofs.Common.{◌≡◌, ℕ, pos, [], ◌∷◌, Some, None, codes, refl}
use Rattle.c_syntax.specs.declared.place.Place.{Place}
use Rattle.c_syntax.specs.declared.types.CInt.TheVariants.{I8, I32, U64}
use Rattle.c_syntax.specs.declared.expression.BinOp.TheVariants.{Add, Sub, Mul, Div, Eq}
use Rattle.c_syntax.specs.Ctypes.{Void, Int, Ptr, Array, Struct, Written, Count, int_type}
use Rattle.c_syntax.specs.Expressions.{Expression, Node, Number, Text, Variable, Binary, Both, Either, Choice, Comma, Assign, Cast, SizeOfType, Index, Arrow}
use Rattle.c_model.specs.Library.{library_constant}
use Rattle.c_model.specs.Checked.{Good, Bad}
use Rattle.c_model.specs.ExpressionTyping.{Sight, AnObject, AnEnumerator, typed}
use Rattle.worked_rows.proofs.WorkedTrees.{place, literal}

-- struct s { char c; int n; }; int t[2][3]; struct s *p; struct u *r; enum { N = 3 }; char *w;
abbrev sight : Sight
sight = record {
  names = codes "s" ∷ codes "c" ∷ codes "n" ∷ codes "t" ∷ codes "p" ∷ codes "u" ∷ codes "r" ∷ codes "N" ∷ codes "NULL" ∷ codes "w" ∷ [];
  texts = record { place = place 1 9 9; bytes = codes "hey" } ∷ [];
  functions = [];
  entities =
      AnObject (record { name = 3; decl = 10; ctype = Array (Array int_type (Count 3)) (Count 2) }) ∷
      AnObject (record { name = 4; decl = 20; ctype = Ptr (Struct 0) }) ∷
      AnObject (record { name = 6; decl = 30; ctype = Ptr (Struct 1) }) ∷
      AnEnumerator (record { name = 7; value = pos 3 }) ∷
      AnObject (record { name = 9; decl = 40; ctype = Ptr (Int I8) }) ∷ [];
  innermost = 0;
  types = [];
  structs =
      record { place = place 1 1 1; tag = Some 0; members = record { place = place 1 2 2; name = 1; ctype = Int I8; offset = 0 } ∷ record { place = place 1 3 3; name = 2; ctype = int_type; offset = 4 } ∷ []; size = 8; align = 4 } ∷
      record { place = place 1 4 4; tag = Some 5; members = []; size = 0; align = 1 } ∷ [];
  levels = 1 ∷ 0 ∷ [];
  enum_tags = [];
  enums = [];
}

abbrev at : Place
at = place 1 1 0

-- as the parser leaves it: no types and no declarations
abbrev name : ℕ → Expression
name x = Node at Void (Variable (record { name = x; decl = 0 }))

abbrev zero : Expression
zero = Node at Void (Number (pos 0) (Some I32))

-- t[1][0]
pub typed-index_typed : typed sight (Node (place 1 5 5) Void (Index (Node (place 1 4 4) Void (Index (name 3) zero)) zero))
    ≡ Good (Node (place 1 5 5) int_type (Index
    (Node (place 1 4 4) (Ptr int_type) (Cast (Ptr int_type) (Node (place 1 4 4) (Array int_type (Count 3)) (Index
    (Node at (Ptr (Array int_type (Count 3))) (Cast (Ptr (Array int_type (Count 3))) (Node at (Array (Array int_type (Count 3)) (Count 2)) (Variable (record { name = 3; decl = 10 })))))
    (literal at 0)))))
    (literal at 0)))
typed-index_typed = refl

-- w = "hey"
pub typed-text_typed : typed sight (Node (place 1 2 2) Void (Assign None (name 9) (Node (place 1 9 9) Void (Text 9))))
    ≡ Good (Node (place 1 2 2) (Ptr (Int I8)) (Assign None (Node at (Ptr (Int I8)) (Variable (record { name = 9; decl = 40 }))) (Node (place 1 9 9) (Ptr (Int I8)) (Cast (Ptr (Int I8)) (Node (place 1 9 9) (Array (Int I8) (Count 4)) (Text 0))))))
typed-text_typed = refl

-- sizeof(int [N])
pub typed-size_typed : typed sight (Node at Void (SizeOfType (Array int_type (Written (name 7))))) ≡ Good (Node at (Int U64) (SizeOfType (Array int_type (Count 3))))
typed-size_typed = refl

-- sizeof(int [0 / 0]): no constant
pub typed-size_faulty : typed sight (Node at Void (SizeOfType (Array int_type (Written (Node (place 1 7 7) Void (Binary Mul zero zero)))))) ≡ Bad (record { code = 6; place = place 1 7 7 }) []
typed-size_faulty = refl

-- w = 0
pub typed-null_typed : typed sight (Node (place 1 2 2) Void (Assign None (name 9) zero))
    ≡ Good (Node (place 1 2 2) (Ptr (Int I8)) (Assign None (Node at (Ptr (Int I8)) (Variable (record { name = 9; decl = 40 }))) (Node at (Ptr (Int I8)) (Cast (Ptr (Int I8)) (literal at 0)))))
typed-null_typed = refl

-- r->n: the members of struct u aren't known, E5 at `->`; p->s: no such member
pub typed-arrow_faulty : typed sight (Node (place 1 2 2) Void (Arrow (name 6) 2)) ≡ Bad (record { code = 5; place = place 1 2 2 }) []
typed-arrow_faulty = refl

pub typed-member_faulty : typed sight (Node (place 1 2 2) Void (Arrow (name 4) 0)) ≡ Bad (record { code = 5; place = place 1 2 2 }) []
typed-member_faulty = refl

-- p + p, and two faults at once: t * 0 and a member that isn't there
pub typed-sum_faulty : typed sight (Node (place 1 2 2) Void (Binary Add (name 4) (name 4))) ≡ Bad (record { code = 6; place = place 1 2 2 }) []
typed-sum_faulty = refl

pub typed-parts_faulty : typed sight (Node (place 1 2 2) Void (Binary Add (Node (place 1 1 1) Void (Binary Mul (name 3) zero)) (Node (place 1 3 3) Void (Arrow (name 4) 0))))
    ≡ Bad (record { code = 6; place = place 1 1 1 }) (record { code = 5; place = place 1 3 3 } ∷ [])
typed-parts_faulty = refl

-- w = 1
pub typed-null_faulty : typed sight (Node (place 1 2 2) Void (Assign None (name 9) (Node at Void (Number (pos 1) (Some I32))))) ≡ Bad (record { code = 6; place = place 1 2 2 }) []
typed-null_faulty = refl

-- w = NULL
pub typed-null_name : typed sight (Node (place 1 2 2) Void (Assign None (name 9) (name 8)))
    ≡ Good (Node (place 1 2 2) (Ptr (Int I8)) (Assign None (Node at (Ptr (Int I8)) (Variable (record { name = 9; decl = 40 })))
    (Node at (Ptr (Int I8)) (Cast (Ptr (Int I8)) (Node at (Ptr Void) (Variable (record { name = 8; decl = 4294967295 })))))))
unfolding library_constant
typed-null_name = refl

-- p == NULL ? w : 0, of which the type is that of w
pub typed-choice_typed : typed sight (Node (place 1 3 3) Void (Choice (Node (place 1 2 2) Void (Binary Eq (name 4) zero)) (name 9) zero))
    ≡ Good (Node (place 1 3 3) (Ptr (Int I8)) (Choice
    (Node (place 1 2 2) int_type (Binary Eq (Node at (Ptr (Struct 0)) (Variable (record { name = 4; decl = 20 }))) (Node at (Ptr (Struct 0)) (Cast (Ptr (Struct 0)) (literal at 0)))))
    (Node at (Ptr (Int I8)) (Variable (record { name = 9; decl = 40 })))
    (Node at (Ptr (Int I8)) (Cast (Ptr (Int I8)) (literal at 0)))))
typed-choice_typed = refl

-- 2 + p goes on by structs, and r - 2 by structs that aren't known
pub typed-step_typed : typed sight (Node (place 1 2 2) Void (Binary Add zero (name 4)))
    ≡ Good (Node (place 1 2 2) (Ptr (Struct 0)) (Binary Add (literal at 0) (Node at (Ptr (Struct 0)) (Variable (record { name = 4; decl = 20 })))))
typed-step_typed = refl

pub typed-step_faulty : typed sight (Node (place 1 2 2) Void (Binary Sub (name 6) zero)) ≡ Bad (record { code = 5; place = place 1 2 2 }) []
typed-step_faulty = refl

-- 1 - p
pub typed-difference_faulty : typed sight (Node (place 1 2 2) Void (Binary Sub zero (name 4))) ≡ Bad (record { code = 6; place = place 1 2 2 }) []
typed-difference_faulty = refl

-- sizeof(int [0 && 1 / 0 ? 1 : N]): what isn't evaluated may have no value
pub typed-lazy_typed : typed sight (Node at Void (SizeOfType (Array int_type (Written
    (Node (place 1 6 6) Void (Choice (Node (place 1 5 5) Void (Both zero (Node (place 1 7 7) Void (Binary Div zero zero)))) zero (name 7)))))))
    ≡ Good (Node at (Int U64) (SizeOfType (Array int_type (Count 3))))
typed-lazy_typed = refl

-- (1, 2) as a length, and 0 && (1, 2) as one: a comma is evaluated in no constant
pub typed-comma_faulty : typed sight (Node at Void (SizeOfType (Array int_type (Written (Node (place 1 7 7) Void (Comma zero (name 7)))))))
    ≡ Bad (record { code = 6; place = place 1 7 7 }) []
typed-comma_faulty = refl

pub typed-comma_typed : typed sight (Node at Void (SizeOfType (Array int_type (Written (Node (place 1 6 6) Void (Either (name 7) (Node (place 1 7 7) Void (Comma zero (name 7)))))))))
    ≡ Good (Node at (Int U64) (SizeOfType (Array int_type (Count 1))))
typed-comma_typed = refl
