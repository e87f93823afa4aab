-- Ours: the asserts of a file (ACSL 2.2; c_model/specs/AnnotationTyping) item by item, and what is asked of the typed file for it.
use Rattle.std.specs.Prelude.{◌≡◌, ℕ, ℤ, pos, ◌+ℤ◌, List, [], ◌∷◌, Option, Some, None, Bool, true, false}
use Rattle.c_syntax.specs.declared.types.CInt.TheVariants.{I32}
use Rattle.c_syntax.specs.Expressions.{Expression}
use Rattle.c_syntax.specs.Programs.{EnumConstant, TranslationUnit}
use Rattle.c_model.specs.Integers.{fits}
use Rattle.c_model.specs.Checked.{Checked, Good, one_part}
use Rattle.c_model.specs.ExpressionTyping.{Sight, with_object}
use Rattle.c_model.specs.DeclarationTyping.{with_enumerator}
use Rattle.c_model.specs.TextOrder.{functions_among}
use Rattle.c_model.specs.UnitTyping.{FileItem, StructHead, Member, AnEnum, ATypedef, AGlobal, AFunction, items_of_file, sight_with, with_type, value_typed}
use Rattle.c_model.specs.UnitTyping.{behind_enum, behind_item}
use Rattle.c_model.specs.AnnotationTyping.{noted_functions}
use Rattle.c_expression_rules.specs.Constants.{has_small_sizes}
use Rattle.c_function_rules.specs.declared.heading.Callee.{Callee}
use Rattle.c_function_rules.specs.Functions.{with_function_by}
use Rattle.c_typing.specs.Files.{among, enum_of, typedef_of, global_of}
use Rattle.c_typing.specs.NotedContracts.{IsDefinedOnce, function_by}

-- ---- what is asked of a typed file

abbrev pub IsSmallValue : Sight → Option Expression → Type 0
IsSmallValue s None = Unit {0}
IsSmallValue s (Some x) = has_small_sizes s.structs x ≡ true

-- an `int` holds each enumerator's value, and the sizes in it are small
abbrev pub ValuesKnown : Sight → ℤ → List EnumConstant → Type 0
ValuesKnown s next [] = Unit {0}
ValuesKnown s next (e ∷ es) =
    IsSmallValue s e.value × (fits I32 (value_typed s next e.value) ≡ true)
    × ValuesKnown (with_enumerator s e.name (value_typed s next e.value)) (value_typed s next e.value +ℤ pos 1) es

abbrev pub ItemKnown : Sight → FileItem → Type 0
ItemKnown s (StructHead k struct) = Unit {0}
ItemKnown s (Member k m ends) = Unit {0}
ItemKnown s (AnEnum e) = ValuesKnown s (pos 0) e.items
ItemKnown s (ATypedef d) = Unit {0}
ItemKnown s (AGlobal d) = Unit {0}
ItemKnown s (AFunction f) = Unit {0}

abbrev pub EnumsKnown : TranslationUnit → Sight → List FileItem → Type 0
EnumsKnown p s [] = Unit {0}
EnumsKnown p s (i ∷ is) = ItemKnown s i × EnumsKnown p (behind_item p s i) is

-- a typed file, whose enums are those of its typing, and whose declarations of each kind stand in the order of the text
pub record IsOrdered (p : TranslationUnit) : Type 0 where
  pub known : EnumsKnown p (sight_with p p.structs) (items_of_file p)
  pub enums : among enum_of (items_of_file p) ≡ p.enums
  pub typedefs : among typedef_of (items_of_file p) ≡ p.typedefs
  pub globals : among global_of (items_of_file p) ≡ p.globals
  -- no name is defined twice
  pub once : IsDefinedOnce (functions_among (items_of_file p))

-- ---- items in turn

-- what structs add nothing to
abbrev pub is_ordinary : FileItem → Bool
is_ordinary (StructHead k s) = false
is_ordinary (Member k m ends) = false
is_ordinary (AnEnum e) = true
is_ordinary (ATypedef d) = true
is_ordinary (AGlobal d) = true
is_ordinary (AFunction f) = true

-- what is in sight behind an item, by what each name of a function denotes
abbrev pub behind_in_turn : (ℕ → Option Callee) → Sight → FileItem → Sight
behind_in_turn numbers s (StructHead k struct) = s
behind_in_turn numbers s (Member k m ends) = s
behind_in_turn numbers s (AnEnum e) = behind_enum s e
behind_in_turn numbers s (ATypedef d) = with_type s d
behind_in_turn numbers s (AGlobal d) = with_object s d
behind_in_turn numbers s (AFunction f) = with_function_by numbers s f

abbrev pub all_behind : (ℕ → Option Callee) → Sight → List FileItem → Sight
all_behind numbers s [] = s
all_behind numbers s (i ∷ is) = all_behind numbers (behind_in_turn numbers s i) is

abbrev pub known_in_turn : (ℕ → Option Callee) → Sight → List FileItem → Type 0
known_in_turn numbers s [] = Unit {0}
known_in_turn numbers s (i ∷ is) = ItemKnown s i × known_in_turn numbers (behind_in_turn numbers s i) is

-- by what each name of a function denotes, and by the numbers of the parameters of definitions
abbrev pub note_in_turn : (ℕ → Option Callee) → (ℕ → Option (List ℕ)) → Sight → FileItem → Checked FileItem
note_in_turn numbers definitions s (AFunction f) = one_part (function_by definitions (with_function_by numbers s f) f) (λ g. Good (AFunction g))
note_in_turn numbers definitions s (StructHead k struct) = Good (StructHead k struct)
note_in_turn numbers definitions s (Member k m ends) = Good (Member k m ends)
note_in_turn numbers definitions s (AnEnum e) = Good (AnEnum e)
note_in_turn numbers definitions s (ATypedef d) = Good (ATypedef d)
note_in_turn numbers definitions s (AGlobal d) = Good (AGlobal d)

abbrev pub notes_in_turn : (ℕ → Option Callee) → (ℕ → Option (List ℕ)) → Sight → List FileItem → Checked (List FileItem)
notes_in_turn numbers definitions s [] = Good []
notes_in_turn numbers definitions s (i ∷ is) = one_part (note_in_turn numbers definitions s i) (λ j.
    one_part (notes_in_turn numbers definitions (behind_in_turn numbers s i) is) (λ js. Good (j ∷ js)))

-- the annotations of a file, where each contract stands as it is written
abbrev pub standing_unit : TranslationUnit → Checked TranslationUnit
standing_unit p = one_part (noted_functions p (sight_with p p.structs) (items_of_file p)) (λ fs. Good (record p { funcs = fs }))
