-- The places of a tree that is read of a text: what a file declares stands in the order of the text, and so do the parts of each declaration.
use Rattle.std.specs.Prelude.{◌≡◌, ℕ, suc, ◌<◌, ◌≤◌, nat_eq, if◌then◌else◌, List, [], ◌∷◌, ◌++◌, length, map, Some, slice_get}
use Rattle.std.specs.List.{AllByRecursion}
use Rattle.c_syntax.specs.Statements.{Declaration}
use Rattle.c_syntax.specs.Programs.{StructType, EnumConstant, EnumType, Function, TranslationUnit}
use Rattle.c_model.specs.UnitTyping.{FileItem, StructHead, Member, AnEnum, ATypedef, AGlobal, AFunction, member_items, items_of_file}
use Rattle.c_model.specs.Formed.{numbers_of}
use Rattle.c_model.specs.PlacedTrees.{FileAtOffsets, MembersInOrder}

-- ---- places

-- numbers that ascend from the least one up to below the end
abbrev pub Between : ℕ → List ℕ → ℕ → Type 0
Between l [] n = l ≤ n
Between l (i ∷ is) n = (l ≤ i) × Between (suc i) is n

abbrev pub offset_of_constant : EnumConstant → ℕ
offset_of_constant e = e.place.offset

-- the numbers of what a file declares, and of all that is declared in it, in text order
abbrev pub numbers_of_item : FileItem → List ℕ
numbers_of_item (StructHead k s) = s.place.offset ∷ []
numbers_of_item (Member k m ends) = m.place.offset ∷ []
numbers_of_item (AnEnum e) = e.place.offset ∷ map offset_of_constant e.items
numbers_of_item (ATypedef d) = d.place.offset ∷ []
numbers_of_item (AGlobal d) = d.place.offset ∷ []
numbers_of_item (AFunction f) = numbers_of f

abbrev pub numbers_of_items : List FileItem → List ℕ
numbers_of_items [] = []
numbers_of_items (i ∷ is) = numbers_of_item i ++ numbers_of_items is

-- the items of one kind, in the order in which they stand
abbrev pub enums_among : List FileItem → List EnumType
enums_among [] = []
enums_among (AnEnum e ∷ is) = e ∷ enums_among is
enums_among (i ∷ is) = enums_among is

abbrev pub typedefs_among : List FileItem → List Declaration
typedefs_among [] = []
typedefs_among (ATypedef d ∷ is) = d ∷ typedefs_among is
typedefs_among (i ∷ is) = typedefs_among is

abbrev pub globals_among : List FileItem → List Declaration
globals_among [] = []
globals_among (AGlobal d ∷ is) = d ∷ globals_among is
globals_among (i ∷ is) = globals_among is

abbrev pub functions_among : List FileItem → List Function
functions_among [] = []
functions_among (AFunction f ∷ is) = f ∷ functions_among is
functions_among (i ∷ is) = functions_among is

-- the head and the members of the struct with this index
abbrev pub struct_among : ℕ → List FileItem → List FileItem
struct_among n [] = []
struct_among n (StructHead k s ∷ is) = if nat_eq n k then StructHead k s ∷ struct_among n is else struct_among n is
struct_among n (Member k m ends ∷ is) = if nat_eq n k then Member k m ends ∷ struct_among n is else struct_among n is
struct_among n (i ∷ is) = struct_among n is

abbrev pub HasMembers : StructType → Type 0
HasMembers s = 0 < length s.members

-- a file's items are apart, each with all that is declared in it, and in order; so are those of each kind
pub record InTextOrder (p : TranslationUnit) : Type 0 where
  pub numbers : Between 0 (numbers_of_items (items_of_file p)) 4294967295
  pub enums : enums_among (items_of_file p) ≡ p.enums
  pub typedefs : typedefs_among (items_of_file p) ≡ p.typedefs
  pub globals : globals_among (items_of_file p) ≡ p.globals
  pub functions : functions_among (items_of_file p) ≡ p.funcs
  -- a struct's head stands before its members, and these stand in order
  pub structs : (n : ℕ) (s : StructType) → slice_get p.structs n ≡ Some s → struct_among n (items_of_file p) ≡ StructHead n s ∷ member_items n s.members
  pub members : MembersInOrder [] (items_of_file p)
  pub filled : AllByRecursion HasMembers p.structs
  pub placed : FileAtOffsets (items_of_file p)
