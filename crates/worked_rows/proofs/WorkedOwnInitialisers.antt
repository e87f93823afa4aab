-- Arrays in sight in their own initialisers, with the length that these give (C99 6.2.1 p7, 6.7.8 p22), by computation.
use Rattle.std.proofs.Common.{◌≡◌, ℕ, suc, true, [], ◌∷◌, Some, codes, refl}
use Rattle.c_syntax.specs.declared.place.Place.{Place}
use Rattle.c_syntax.specs.declared.types.CInt.TheVariants.{U64}
use Rattle.c_syntax.specs.declared.expression.BinOp.TheVariants as operator
use Rattle.c_syntax.specs.declared.expression.UnOp.TheVariants as unary
use Rattle.c_syntax.specs.Ctypes.{PlainType, Void, Int, Ptr, Array, PlainLength, Left, Count, int_type}
use Rattle.c_syntax.specs.Expressions.{Expression, Node, Variable, Unary, Binary, Cast, SizeOfExpr}
use Rattle.c_syntax.specs.Statements.{One, Many, NoInitialiser, Listed, Declaration, Declare}
use Rattle.c_syntax.specs.Programs.{TranslationUnit}
use Rattle.c_model.specs.Library.{library_constant, is_library_name}
use Rattle.c_model.specs.Checked.{Good}
use Rattle.c_model.specs.UnitTyping.{typed_unit}
use Rattle.worked_rows.proofs.WorkedTrees.{place, definition}
use Rattle.worked_rows.proofs.WorkedDeclarationTyping.{file}

abbrev at : ℕ → Place
at offset = place 1 (suc offset) offset

-- an array of this name with one item in braces
abbrev array : ℕ → ℕ → PlainType → PlainLength → ℕ → ℕ → Expression → Declaration
array name offset t n equals brace e = record {
  place = at offset;
  name = name;
  named = true;
  ctype = Array t n;
  init = Some (at equals, Many (at brace) (Listed (One e) NoInitialiser));
}

-- the address of the variable of this name, which stands behind `&`, by the types of both
abbrev address : ℕ → ℕ → PlainType → PlainType → ℕ → Expression
address name decl array pointer offset = Node (at offset) pointer (Unary unary.Address (Node (at (suc offset)) array (Variable (record { name = name; decl = decl }))))

-- ---- a global

--     void *b[] = {&b};
abbrev global_with : PlainLength → Expression → TranslationUnit
global_with n e = file (codes "b" ∷ []) [] [] [] [] (array 0 6 (Ptr Void) n 10 12 e ∷ []) []

abbrev pointers : PlainType
pointers = Array (Ptr Void) (Count 1)

typed_unit-has_its_own_address : typed_unit (global_with Left (address 0 0 Void Void 13))
    ≡ Good (global_with (Count 1) (Node (at 13) (Ptr Void) (Cast (Ptr Void) (address 0 6 pointers (Ptr pointers) 13))))
unfolding library_constant is_library_name
typed_unit-has_its_own_address = refl

-- ---- in a block

--     int main(void) { int a[] = {&a == &a}; }
abbrev block_with : PlainLength → Expression → TranslationUnit
block_with n e = file (codes "main" ∷ codes "a" ∷ []) [] [] [] [] [] (definition int_type (at 4) 0 [] (at 15) (at 39) (Declare (array 1 21 int_type n 25 27 e ∷ []) ∷ []) ∷ [])

abbrev integers : PlainType
integers = Array int_type (Count 1)

typed_unit-compares_its_own_address : typed_unit (block_with Left (Node (at 31) Void (Binary operator.Eq (address 1 0 Void Void 28) (address 1 0 Void Void 34))))
    ≡ Good (block_with (Count 1) (Node (at 31) int_type (Binary operator.Eq (address 1 21 integers (Ptr integers) 28) (address 1 21 integers (Ptr integers) 34))))
unfolding library_constant is_library_name
typed_unit-compares_its_own_address = refl

--     int main(void) { int a[] = {sizeof a}; }
typed_unit-has_its_own_size : typed_unit (block_with Left (Node (at 28) Void (SizeOfExpr (Node (at 35) Void (Variable (record { name = 1; decl = 0 }))))))
    ≡ Good (block_with (Count 1) (Node (at 28) int_type (Cast int_type (Node (at 28) (Int U64) (SizeOfExpr (Node (at 35) integers (Variable (record { name = 1; decl = 21 }))))))))
unfolding library_constant is_library_name
typed_unit-has_its_own_size = refl
