-- The laws of typing above expressions: declarations, statements and functions that are typed are well typed, and say what was read; so
-- does a file, item by item; and its asserts are well typed.
use Rattle.std.specs.Prelude.{◌≡◌, ℕ, Bool, true, false, List, [], ◌∷◌, Some, slice_get}
use Rattle.c_syntax.specs.Ctypes.{PlainType, Int, Ptr, Array, Struct, Count}
use Rattle.c_syntax.specs.Statements.{Declaration, Statement}
use Rattle.c_syntax.specs.Programs.{StructMember, StructType, Function, TranslationUnit}
use Rattle.c_model.specs.Checked.{Good}
use Rattle.c_model.specs.ExpressionTyping.{Sight}
use Rattle.c_model.specs.DeclarationTyping.{typed_variable, typed_global}
use Rattle.c_model.specs.StatementTyping.{Around, typed_statement}
use Rattle.c_model.specs.UnitTyping.{with_function, sight_with, items_of_file, typed_function, typed_unit}
use Rattle.c_model.specs.AnnotationTyping.{noted_unit}
use Rattle.c_model.specs.TypedTrees.{IsDeclared, StatementTyped, FunctionTyped, IsSight}
use Rattle.c_model.specs.TypedReadings.{DeclarationTypedAs, StatementTypedAs, FunctionTypedAs}
use Rattle.c_model.specs.TypedAnnotations.{FunctionsNoted}
use Rattle.c_model.specs.PlacedTrees.{IsOffset, StatementAtOffsets, FunctionAtOffsets, FileAtOffsets}
use Rattle.c_model.specs.TypedFiles.{UnitStands}
use Rattle.c_model.specs.Formed.{AreReadAsserts, AreReadLoopClauses}
use Rattle.c_model.specs.ReadTree.{FunctionsRead, functions_among}

-- a type that has a size where its structs have one
abbrev pub is_whole : PlainType → Bool
is_whole (Int k) = true
is_whole (Ptr t) = true
is_whole (Array t (Count n)) = is_whole t
is_whole (Struct n) = true
is_whole _ = false

abbrev pub AreWhole : List StructMember → Type 0
AreWhole [] = Unit {0}
AreWhole (m ∷ ms) = (is_whole m.ctype ≡ true) × AreWhole ms

-- what is known of what is in sight, with the members of structs
pub record IsWholeSight (s : Sight) : Type 0 where
  pub known : IsSight s
  pub members : (n : ℕ) (struct : StructType) → slice_get s.structs n ≡ Some struct → AreWhole struct.members

-- the laws of typing above expressions
pub record TextTypingLaws : Type 0 where
  pub variable_is_known : (s : Sight) (d e : Declaration) → IsWholeSight s → IsOffset d.place.offset → typed_variable s d ≡ Good e → IsDeclared s e
  pub variable_is_read : (s : Sight) (d e : Declaration) → typed_variable s d ≡ Good e → DeclarationTypedAs d e
  pub global_is_known : (s : Sight) (d e : Declaration) → IsWholeSight s → IsOffset d.place.offset → typed_global s d ≡ Good e → IsDeclared s e
  pub global_is_read : (s : Sight) (d e : Declaration) → typed_global s d ≡ Good e → DeclarationTypedAs d e
  pub statement_is_known : (s : Sight) (r : Around) (a b : Statement) → IsWholeSight s → StatementAtOffsets a → typed_statement s r a ≡ Good b
      → StatementTyped s r b
  pub statement_is_read : (s : Sight) (r : Around) (a b : Statement) → typed_statement s r a ≡ Good b → StatementTypedAs a b
  pub function_is_known : (p : TranslationUnit) (s : Sight) (before : List Function) (f g : Function) → IsWholeSight s → FunctionAtOffsets f
      → typed_function p s before f ≡ Good g → FunctionTyped (with_function p s g) g
  pub function_is_read : (p : TranslationUnit) (s : Sight) (before : List Function) (f g : Function) → typed_function p s before f ≡ Good g
      → FunctionTypedAs f g
  pub file_is_known : (p q : TranslationUnit) → FileAtOffsets (items_of_file p) → typed_unit p ≡ Good q → UnitStands p q
  pub asserts_are_known : (p q : TranslationUnit) → FunctionsRead AreReadAsserts AreReadLoopClauses (functions_among (items_of_file p)) → noted_unit p ≡ Good q
      → FunctionsNoted p (sight_with p p.structs) (items_of_file p) q.funcs
