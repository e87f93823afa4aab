-- What is known of a typed file (C99 6.7.2.1, 6.9): its structs are laid out, its objects are declared, and its functions are typed, each
-- with what is in sight where it stands.
use Rattle.std.specs.Prelude.{◌≡◌, true, nat_le, List, [], ◌∷◌}
use Rattle.c_syntax.specs.Programs.{StructType, TranslationUnit}
use Rattle.c_model.specs.ExpressionTyping.{Sight, most_bytes}
use Rattle.c_model.specs.DeclarationTyping.{laid_out}
use Rattle.c_model.specs.UnitTyping.{FileItem, StructHead, Member, AnEnum, ATypedef, AGlobal, AFunction, items_of_file, sight_with, with_function, behind_item}
use Rattle.c_model.specs.TypedTrees.{IsDeclared, FunctionTyped}

-- a struct stands as its layout says, and has few enough bytes
pub record IsLaidOut (structs : List StructType) (s : StructType) : Type 0 where
  pub is : s ≡ laid_out structs s
  pub small : nat_le s.size most_bytes ≡ true

abbrev pub AreLaidOut : List StructType → List StructType → Type 0
AreLaidOut structs [] = Unit {0}
AreLaidOut structs (s ∷ ss) = IsLaidOut structs s × AreLaidOut structs ss

abbrev pub ItemTyped : TranslationUnit → Sight → FileItem → Type 0
ItemTyped p s (StructHead k struct) = Unit {0}
ItemTyped p s (Member k m ends) = Unit {0}
ItemTyped p s (AnEnum e) = Unit {0}
ItemTyped p s (ATypedef d) = Unit {0}
ItemTyped p s (AGlobal d) = IsDeclared s d
ItemTyped p s (AFunction f) = FunctionTyped (with_function p s f) f

abbrev pub ItemsTyped : TranslationUnit → Sight → List FileItem → Type 0
ItemsTyped p s [] = Unit {0}
ItemsTyped p s (i ∷ is) = ItemTyped p s i × ItemsTyped p (behind_item p s i) is

-- a program whose C is typed
pub record ProgramTyped (p : TranslationUnit) : Type 0 where
  pub structs : AreLaidOut p.structs p.structs
  pub items : ItemsTyped p (sight_with p p.structs) (items_of_file p)
