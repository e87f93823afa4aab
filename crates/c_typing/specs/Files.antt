-- Ours: the typing of a file (C99 6.9; c_model/specs/UnitTyping) item by item, in words of what the code keeps of the items before.
use Rattle.std.specs.Prelude.{◌≡◌, Result, Ok, Err, ℕ, nat_eq, pos, List, [], ◌∷◌, ◌++◌, map, Option, None}
use Rattle.indexmap.specs.IndexMap.{get}
use Rattle.c_syntax.specs.declared.place.Place.{Place}
use Rattle.c_syntax.specs.Statements.{Declaration, plain_decl}
use Rattle.c_syntax.specs.Programs.{EnumType, Function, TranslationUnit, plain_enum, plain_func, plain_member}
use Rattle.c_model.specs.Checked.{Checked, Good, one_part}
use Rattle.c_model.specs.ExpressionTyping.{Sight, with_object}
use Rattle.c_model.specs.DeclarationTyping.{typed_global, typed_typedef, typed_enumerators}
use Rattle.c_model.specs.UnitTyping.{FileItem, StructHead, Member, AnEnum, ATypedef, AGlobal, AFunction, new_tag, with_tag, with_type, unknown, sight_with}
use Rattle.c_declaration_rules.specs.Members.{member_typed}
use Rattle.c_scopes.specs.declared.fault.TypeFault.{TypeFault}
use Rattle.c_scopes.specs.declared.fault.TypeFault.TheVariants.{Memory}
use Rattle.c_scopes.specs.Sights.{plain_sight}
use Rattle.c_function_rules.specs.declared.heading.Callee.{Callee}
use Rattle.c_function_rules.specs.declared.heading.Noted.{Noted}
use Rattle.c_typing.specs.declared.item.FileItem as code
use Rattle.c_typing.specs.declared.item.FileItem.TheVariants as item
use Rattle.c_typing.specs.declared.item.Course as code_course
use Rattle.c_function_rules.specs.Functions.{function_in_turn, names_behind, with_function_by}

-- ---- items, without what the head of a struct holds besides its place and its tag

abbrev pub head_at : Place → Option ℕ → FileItem
head_at at tag = StructHead 0 (record { place = at; tag = tag; members = []; size = 0; align = 1 })

abbrev pub bare : FileItem → FileItem
bare (StructHead k s) = head_at s.place s.tag
bare (Member k m ends) = Member k m ends
bare (AnEnum e) = AnEnum e
bare (ATypedef d) = ATypedef d
bare (AGlobal d) = AGlobal d
bare (AFunction f) = AFunction f

abbrev pub plain_file_item : code.FileItem → FileItem
plain_file_item (item.Head at tag) = head_at at tag
plain_file_item (item.Inside k m ends) = Member k (plain_member m) ends
plain_file_item (item.Enum e) = AnEnum (plain_enum e)
plain_file_item (item.Typedef d) = ATypedef (plain_decl d)
plain_file_item (item.Global d) = AGlobal (plain_decl d)
plain_file_item (item.Function f) = AFunction (plain_func f)

-- the file that is left where all its items are taken
abbrev pub emptied : TranslationUnit → TranslationUnit
emptied p = record p { structs = map unknown p.structs; enums = []; typedefs = []; globals = []; funcs = [] }

-- what items give, one after another
abbrev pub among : {A : Type 0} → (FileItem → List A) → List FileItem → List A
among f [] = []
among f (i ∷ is) = f i ++ among f is

abbrev pub enum_of : FileItem → List EnumType
enum_of (AnEnum e) = e ∷ []
enum_of _ = []

abbrev pub typedef_of : FileItem → List Declaration
typedef_of (ATypedef d) = d ∷ []
typedef_of _ = []

abbrev pub global_of : FileItem → List Declaration
global_of (AGlobal d) = d ∷ []
global_of _ = []

abbrev pub function_of : FileItem → List Function
function_of (AFunction f) = f ∷ []
function_of _ = []

abbrev pub with_items : TranslationUnit → List FileItem → TranslationUnit
with_items p is = record p {
  enums = p.enums ++ among enum_of is;
  typedefs = p.typedefs ++ among typedef_of is;
  globals = p.globals ++ among global_of is;
  funcs = p.funcs ++ among function_of is;
}

-- ---- what is known behind items

pub record Course : Type 0 where
  pub sight : Sight
  pub tags : List ℕ
  pub names : ℕ → Option Noted

abbrev pub plain_course : code_course.Course → Course
plain_course c = record { sight = plain_sight c.sight; tags = c.tags.list.items; names = get nat_eq c.names }

-- what is known before the first item
abbrev pub course_at : Sight → Course
course_at s = record { sight = s; tags = []; names = λ x. None }

-- ---- items in turn

abbrev pub head_in_turn : Course → Place → Option ℕ → Checked Course
head_in_turn c at tag = one_part (new_tag c.tags at tag) (λ n. Good (record c { tags = with_tag c.tags tag }))

abbrev pub enum_in_turn : Course → EnumType → Checked (Course × EnumType)
enum_in_turn c e =
    one_part (new_tag c.tags e.place e.tag) (λ n. one_part (typed_enumerators c.sight (pos 0) e.items) (λ x.
    Good (record c { sight = record x.0 { enums = with_tag x.0.enums e.tag }; tags = with_tag c.tags e.tag }, record e { items = x.1 })))

abbrev pub typedef_in_turn : Course → Declaration → Checked (Course × Declaration)
typedef_in_turn c d = one_part (typed_typedef c.sight d) (λ d. Good (record c { sight = with_type c.sight d }, d))

abbrev pub global_in_turn : Course → Declaration → Checked (Course × Declaration)
global_in_turn c d = one_part (typed_global c.sight d) (λ d. Good (record c { sight = with_object c.sight d }, d))

abbrev pub defined_in_turn : (ℕ → Option Callee) → Course → Function → Checked (Course × Function)
defined_in_turn numbers c f =
    one_part (function_in_turn numbers c.sight c.names f) (λ f.
    Good (record c { sight = with_function_by numbers c.sight f; names = names_behind c.sight c.names f }, f))

-- what is kept of a typed item
abbrev pub kept : FileItem → List FileItem
kept (StructHead k s) = []
kept (Member k m ends) = []
kept (AnEnum e) = AnEnum e ∷ []
kept (ATypedef d) = ATypedef d ∷ []
kept (AGlobal d) = AGlobal d ∷ []
kept (AFunction f) = AFunction f ∷ []

abbrev pub all_kept : List FileItem → List FileItem
all_kept is = among kept is

abbrev pub item_in_turn : (ℕ → Option Callee) → Course → FileItem → Checked (Course × List FileItem)
item_in_turn numbers c (StructHead k s) = one_part (head_in_turn c s.place s.tag) (λ c. Good (c, []))
item_in_turn numbers c (Member k m ends) = one_part (member_typed c.sight k m ends) (λ s. Good (record c { sight = s }, []))
item_in_turn numbers c (AnEnum e) = one_part (enum_in_turn c e) (λ x. Good (x.0, AnEnum x.1 ∷ []))
item_in_turn numbers c (ATypedef d) = one_part (typedef_in_turn c d) (λ x. Good (x.0, ATypedef x.1 ∷ []))
item_in_turn numbers c (AGlobal d) = one_part (global_in_turn c d) (λ x. Good (x.0, AGlobal x.1 ∷ []))
item_in_turn numbers c (AFunction f) = one_part (defined_in_turn numbers c f) (λ x. Good (x.0, AFunction x.1 ∷ []))

abbrev pub items_in_turn : (ℕ → Option Callee) → Course → List FileItem → Checked (Course × List FileItem)
items_in_turn numbers c [] = Good (c, [])
items_in_turn numbers c (i ∷ is) =
    one_part (item_in_turn numbers c i) (λ x. one_part (items_in_turn numbers x.0 is) (λ y. Good (y.0, x.1 ++ y.1)))

-- ---- files

-- what is in sight where a file begins, with these tags of enums
abbrev pub first_in : TranslationUnit → List ℕ → Sight
first_in p tags = record (sight_with p p.structs) { enum_tags = tags }

abbrev pub without_sight : TranslationUnit → TranslationUnit
without_sight p = record p { names = []; texts = []; structs = [] }

abbrev pub with_sight : TranslationUnit → Sight → TranslationUnit
with_sight p s = record p { names = s.names; texts = s.texts; structs = s.structs }

-- what a file is given, by what is found of its items
abbrev pub Finished : Result (Unit {0}) TypeFault → TranslationUnit → Sight → List FileItem → TranslationUnit → Result (Unit {0}) TypeFault → Type 0
Finished (Err e) p s is q r = r ≡ Err e
Finished (Ok u) p s is q (Ok v) = q ≡ with_items (with_sight p s) is
Finished (Ok u) p s is q (Err e) = e ≡ Memory

-- what a file declares besides structs, kind by kind, and the file without it
abbrev pub kinds : TranslationUnit → List FileItem
kinds p = map AnEnum p.enums ++ (map ATypedef p.typedefs ++ (map AGlobal p.globals ++ map AFunction p.funcs))

abbrev pub without_kinds : TranslationUnit → TranslationUnit
without_kinds p = record p { enums = []; typedefs = []; globals = []; funcs = [] }
