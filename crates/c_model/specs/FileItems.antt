-- What is called in a typed file, and its annotations: each item with what is in sight where it stands.
use Rattle.std.specs.Prelude.{◌≡◌, ℕ, ℤ, pos, ◌+ℤ◌, true, List, [], ◌∷◌, Some}
use Rattle.c_syntax.specs.declared.types.CInt.TheVariants.{I32}
use Rattle.c_syntax.specs.Ctypes.{PlainType}
use Rattle.c_syntax.specs.Programs.{EnumConstant, Function, TranslationUnit}
use Rattle.c_model.specs.Meaning.{definition_at}
use Rattle.c_model.specs.Integers.{fits}
use Rattle.c_model.specs.ExpressionTyping.{Signature, Enumerator, AnEnumerator, Sight, entity_named, function_called}
use Rattle.c_model.specs.DeclarationTyping.{with_enumerator}
use Rattle.c_model.specs.UnitTyping.{FileItem, AnEnum, AGlobal, AFunction, with_function, behind_item, types_of, value_typed}
use Rattle.c_model.specs.TypedTrees.{IsScalar, WellTyped, WhereAny}
use Rattle.c_model.specs.TypedAnnotations.{FunctionNoted}
use Rattle.c_model.specs.PlacedTrees.{IsOffset}

-- ---- annotations and calls

-- a function's annotations are typed where they stand
abbrev pub ItemNoted : TranslationUnit → Sight → FileItem → Type 0
ItemNoted p s (AFunction f) = FunctionNoted (with_function p s f) f
ItemNoted p s _ = Unit {0}

abbrev pub FileNoted : TranslationUnit → Sight → List FileItem → Type 0
FileNoted p s [] = Unit {0}
FileNoted p s (i ∷ is) = ItemNoted p s i × FileNoted p (behind_item p s i) is

abbrev pub AreScalar : List PlainType → Type 0
AreScalar [] = Unit {0}
AreScalar (t ∷ ts) = IsScalar t × AreScalar ts

-- the function of a name x that the file defines, which a declaration in sight tells of
pub record IsDefined (p : TranslationUnit) (x : ℕ) (g : Signature) : Type 0 where
  pub function : Function
  pub at : definition_at g.decl p.funcs ≡ Some function
  pub own : IsOffset g.decl
  pub name : function.name ≡ x
  pub params : g.params ≡ types_of function.params
  pub scalar : AreScalar g.params
  pub result : g.result ≡ function.result

abbrev pub AreDefined : TranslationUnit → List Signature → Type 0
AreDefined p fs = (x : ℕ) (g : Signature) → function_called x fs ≡ Some g → g.defined ≡ true → IsDefined p x g

-- of functions in sight in initialisers and in bodies
abbrev pub ItemResolved : TranslationUnit → Sight → FileItem → Type 0
ItemResolved p s (AGlobal d) = AreDefined p s.functions
ItemResolved p s (AFunction f) = AreDefined p (with_function p s f).functions
ItemResolved p s _ = Unit {0}

abbrev pub FileResolved : TranslationUnit → Sight → List FileItem → Type 0
FileResolved p s [] = Unit {0}
FileResolved p s (i ∷ is) = ItemResolved p s i × FileResolved p (behind_item p s i) is

-- ---- enumerators

-- those in sight are values of `int` (C99 6.7.2.2 p2)
abbrev pub SeesValues : Sight → Type 0
SeesValues s = (x : ℕ) (c : Enumerator) → entity_named x s.entities ≡ Some (AnEnumerator c) → fits I32 c.value ≡ true

abbrev pub FileSeesValues : TranslationUnit → Sight → List FileItem → Type 0
FileSeesValues p s [] = Unit {0}
FileSeesValues p s (i ∷ is) = SeesValues s × FileSeesValues p (behind_item p s i) is

-- the value of each is typed, and an `int` holds it
abbrev pub EnumeratorsTyped : Sight → ℤ → List EnumConstant → Type 0
EnumeratorsTyped s next [] = Unit {0}
EnumeratorsTyped s next (e ∷ es) =
    WhereAny (WellTyped s) e.value × (fits I32 (value_typed s next e.value) ≡ true)
    × EnumeratorsTyped (with_enumerator s e.name (value_typed s next e.value)) (value_typed s next e.value +ℤ pos 1) es

abbrev pub ItemEnumerators : Sight → FileItem → Type 0
ItemEnumerators s (AnEnum e) = EnumeratorsTyped s (pos 0) e.items
ItemEnumerators s _ = Unit {0}

abbrev pub FileEnumerators : TranslationUnit → Sight → List FileItem → Type 0
FileEnumerators p s [] = Unit {0}
FileEnumerators p s (i ∷ is) = ItemEnumerators s i × FileEnumerators p (behind_item p s i) is
