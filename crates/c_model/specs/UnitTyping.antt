-- The typing of a whole file (C99 6.2.1, 6.2.3, 6.7.2.3, 6.9): its declarations in the order of the text, each with what is in sight where
-- it stands; then the room of its globals and literals, and `main`.
use Rattle.std.specs.Prelude.{ℕ, suc, ◌+◌, ℤ, pos, ◌+ℤ◌, List, [], ◌∷◌, ◌++◌, map, Option, Some, None, Bool, true, false, not}
use Rattle.std.specs.Prelude.{◌&&◌, ◌||◌, cond, if◌then◌else◌, nat_eq, nat_lt, slice_get, codes, bytes_eq}
use Rattle.c_syntax.specs.RefusalCodes.{globals_code, main_code}
use Rattle.c_syntax.specs.declared.place.Place.{Place}
use Rattle.c_syntax.specs.Ctypes.{PlainType, int_type}
use Rattle.c_syntax.specs.Expressions.{Expression}
use Rattle.c_syntax.specs.Statements.{Declaration, Statement, Block}
use Rattle.c_syntax.specs.Programs.{StructMember, StructType, EnumConstant, EnumType, Function, TranslationUnit}
use Rattle.c_model.specs.Limits.{globals_bytes}
use Rattle.c_model.specs.Memory.{rounded}
use Rattle.c_model.specs.StaticObjects.{StaticObject, place_of_object, size_of_object, static_objects}
use Rattle.c_model.specs.Places.{first_place}
use Rattle.c_model.specs.Meaning.{is_definition}
use Rattle.c_model.specs.Library.{is_there}
use Rattle.c_model.specs.Checked.{Fault, Checked, Good, one_part, both_parts, where_so}
use Rattle.c_model.specs.ExpressionTyping.{no_name, Signature, Sight, name_at, is_among, same_type, with_object, declared_here, type_named, inner}
use Rattle.c_model.specs.ExpressionTyping.{constant, levels_of, typed_type}
use Rattle.c_model.specs.DeclarationTyping.{greater, own_name, typed_result, typed_global, typed_typedef, typed_parameter, typed_member, with_enumerator}
use Rattle.c_model.specs.DeclarationTyping.{typed_enumerators}
use Rattle.c_model.specs.StatementTyping.{typed_items, typed_labels}

-- ---- what a file declares, in the order of the text (C99 6.2.1 p7)

pub data FileItem : Type 0 where
  -- the struct with this index, at its tag, or at the word where it has no tag
  StructHead : ℕ → StructType → FileItem
  -- a member of it, and whether it is the last one
  Member : ℕ → StructMember → Bool → FileItem
  AnEnum : EnumType → FileItem
  ATypedef : Declaration → FileItem
  AGlobal : Declaration → FileItem
  AFunction : Function → FileItem

abbrev pub offset_of_item : FileItem → ℕ
offset_of_item (StructHead k s) = s.place.offset
offset_of_item (Member k m ends) = m.place.offset
offset_of_item (AnEnum e) = e.place.offset
offset_of_item (ATypedef d) = d.place.offset
offset_of_item (AGlobal d) = d.place.offset
offset_of_item (AFunction f) = f.place.offset

abbrev pub member_items : ℕ → List StructMember → List FileItem
member_items k [] = []
member_items k (m ∷ []) = Member k m true ∷ []
member_items k (m ∷ n ∷ ms) = Member k m false ∷ member_items k (n ∷ ms)

-- the structs from the index k on
abbrev pub struct_items : ℕ → List StructType → List FileItem
struct_items k [] = []
struct_items k (s ∷ ss) = StructHead k s ∷ (member_items k s.members ++ struct_items (suc k) ss)

-- an item among others in ascending order
abbrev pub inserted : FileItem → List FileItem → List FileItem
inserted i [] = i ∷ []
inserted i (j ∷ js) = if nat_lt (offset_of_item j) (offset_of_item i) then j ∷ inserted i js else i ∷ j ∷ js

abbrev pub in_order : List FileItem → List FileItem
in_order [] = []
in_order (i ∷ is) = inserted i (in_order is)

abbrev pub items_of_file : TranslationUnit → List FileItem
items_of_file p =
    in_order (struct_items 0 p.structs ++ (map AnEnum p.enums ++ (map ATypedef p.typedefs ++ (map AGlobal p.globals ++ map AFunction p.funcs))))

-- ---- what is in sight

-- a struct of which nothing is known yet
abbrev pub unknown : StructType → StructType
unknown s = record s { members = []; size = 0; align = 1 }

abbrev pub tags_of : List EnumType → List ℕ
tags_of [] = []
tags_of (e ∷ es) = elim e.tag [ None ↦ tags_of es | Some x ↦ x ∷ tags_of es ]

-- the levels of a struct with so many and of further members, among structs of so many: one more than those of the deepest member
abbrev pub levels_with : List ℕ → ℕ → List StructMember → ℕ
levels_with levels n [] = n
levels_with levels n (m ∷ ms) = levels_with levels (greater n (suc (levels_of levels m.ctype))) ms

-- the levels of structs behind others; a struct is defined behind those that its members are of (C99 6.7.2.1 p2)
abbrev pub levels_from : List ℕ → List StructType → List ℕ
levels_from levels [] = levels
levels_from levels (s ∷ ss) = levels_from (levels ++ levels_with levels 0 s.members ∷ []) ss

abbrev pub sight_with : TranslationUnit → List StructType → Sight
sight_with p structs = record {
  names = p.names;
  texts = p.texts;
  functions = [];
  entities = [];
  innermost = 0;
  types = [];
  structs = structs;
  levels = levels_from [] structs;
  enum_tags = tags_of p.enums;
  enums = [];
}

-- where a file begins
abbrev pub first_sight : TranslationUnit → Sight
first_sight p = sight_with p (map unknown p.structs)

-- what is in sight after a name of a type; a declaration without declarators has none
abbrev pub with_type : Sight → Declaration → Sight
with_type s d = record s { types = cond d.named (s.types ++ record { name = d.name; ctype = d.ctype } ∷ []) s.types }

abbrev pub with_tag : List ℕ → Option ℕ → List ℕ
with_tag tags None = tags
with_tag tags (Some x) = tags ++ x ∷ []

-- what is in sight after the tag of an enum
abbrev pub with_enum_tag : Sight → Option ℕ → Sight
with_enum_tag s tag = record s { enums = with_tag s.enums tag }

-- the number of the definition of a name, where the file has one
abbrev pub definition_of : ℕ → List Function → Option ℕ
definition_of x [] = None
definition_of x (f ∷ fs) = cond (is_definition f && nat_eq f.name x) (Some f.place.offset) (definition_of x fs)

-- the first declaration of a name
abbrev pub first_declaration : ℕ → List Function → ℕ
first_declaration x [] = 0
first_declaration x (f ∷ fs) = cond (nat_eq f.name x) f.place.offset (first_declaration x fs)

abbrev pub number_or : Option ℕ → ℕ → ℕ
number_or (Some n) d = n
number_or None d = d

abbrev pub types_of : List Declaration → List PlainType
types_of ds = map (λ (d : Declaration). d.ctype) ds

-- what a typed declaration tells its callers, among all functions of the file
abbrev pub signature : List Function → Function → Signature
signature all f = record {
  name = f.name;
  decl = number_or (definition_of f.name all) (first_declaration f.name all);
  defined = is_there (definition_of f.name all);
  params = types_of f.params;
  result = f.result;
}

abbrev pub with_function : TranslationUnit → Sight → Function → Sight
with_function p s f = record s { functions = s.functions ++ signature p.funcs f ∷ [] }

-- what is in sight after a parameter, which may have no name
abbrev pub with_parameter : Sight → Declaration → Sight
with_parameter s d = cond d.named (with_object s d) s

abbrev pub with_parameters : Sight → List Declaration → Sight
with_parameters s [] = s
with_parameters s (d ∷ ds) = with_parameters (with_parameter s d) ds

-- ---- functions (C99 6.7.5.3, 6.9.1)

abbrev pub same_types : List PlainType → List PlainType → Bool
same_types [] [] = true
same_types (t ∷ ts) (u ∷ us) = same_type t u && same_types ts us
same_types _ _ = false

-- whether two declarations give one type (C99 6.7.5.3 p15)
abbrev pub same_signature : Function → Function → Bool
same_signature f g = same_type f.result g.result && same_types (types_of f.params) (types_of g.params)

-- whether a declaration may stand after another of its name: of the same type, and one of the two no definition (C99 6.7 p4, 6.9 p5)
abbrev pub is_compatible : Function → Function → Bool
is_compatible f g = cond (nat_eq f.name g.name) (same_signature f g && not (is_definition f && is_definition g)) true

abbrev pub is_compatible_with_all : List Function → Function → Bool
is_compatible_with_all [] g = true
is_compatible_with_all (f ∷ fs) g = is_compatible f g && is_compatible_with_all fs g

-- a function's name: none of the library's, of an object, an enumerator or a type
abbrev pub function_name : Sight → Function → Checked (Unit {0})
function_name s f = own_name s (is_there (declared_here s f.name) || is_there (type_named f.name s.types)) f.place f.name

abbrev pub typed_parameters : Sight → Bool → List Declaration → Checked (List Declaration)
typed_parameters s defined [] = Good []
typed_parameters s defined (d ∷ ds) =
    one_part (typed_parameter s defined d) (λ d. one_part (typed_parameters (with_parameter s d) defined ds) (λ ds. Good (d ∷ ds)))

-- a function whose types, as they are written, fit the declarations before it
abbrev pub fitting_type : Sight → List Function → Function → Checked Function
fitting_type s before f =
    both_parts (typed_type s f.place f.result) (typed_parameters (inner s) (is_definition f) f.params) (λ t ds.
    let g = record f { result = t; params = ds } in where_so (is_compatible_with_all before g) (no_name f.place) (Good g))

-- its result is one that a function may have; whether its type fits is told besides
abbrev pub typed_type_of_function : Sight → List Function → Function → Checked Function
typed_type_of_function s before f =
    both_parts (typed_result s (is_definition f) f.place f.result) (fitting_type s before f) (λ t g. Good (record g { result = t }))

-- a function's name and type
abbrev pub typed_heading : Sight → List Function → Function → Checked Function
typed_heading s before f = both_parts (function_name s f) (typed_type_of_function s before f) (λ n g. Good g)

-- a body is a block, whose scope is that of the parameters (C99 6.2.1 p4)
abbrev pub typed_body : Sight → PlainType → Option Statement → Checked (Option Statement)
typed_body s t (Some (Block at items)) = one_part (typed_items s (record { result = t; breaks = false; loops = false }) items)
    (λ items. Good (Some (Block at items)))
typed_body s t b = Good b

-- a function but for its labels; it is in sight in its own body
abbrev pub typed_parts : TranslationUnit → Sight → List Function → Function → Checked Function
typed_parts p s before f =
    one_part (typed_heading s before f) (λ f.
    one_part (typed_body (with_parameters (inner (with_function p s f)) f.params) f.result f.body) (λ b. Good (record f { body = b })))

abbrev pub typed_function : TranslationUnit → Sight → List Function → Function → Checked Function
typed_function p s before f = both_parts (typed_labels f.body) (typed_parts p s before f) (λ u g. Good g)

-- ---- files

-- what is typed of a file so far: what is in sight behind it, and the tags that are defined
pub record Progress : Type 0 where
  pub sight : Sight
  pub tags : List ℕ
  pub enums : List EnumType
  pub typedefs : List Declaration
  pub globals : List Declaration
  pub funcs : List Function

-- a tag is defined once in a file, as a struct or as an enum (C99 6.7.2.3 p1, p2)
abbrev pub new_tag : List ℕ → Place → Option ℕ → Checked (Unit {0})
new_tag tags at None = Good tt
new_tag tags at (Some x) = where_so (not (is_among x tags)) (no_name at) (Good tt)

abbrev pub struct_at : Sight → ℕ → StructType → StructType
struct_at s k other = elim (slice_get s.structs k) [ None ↦ other | Some struct ↦ struct ]

-- the tag of an enum is in sight behind its enumerators, which are objects of the file's scope (C99 6.2.1 p7)
abbrev pub typed_enum : Progress → EnumType → Checked Progress
typed_enum r e =
    one_part (new_tag r.tags e.place e.tag) (λ n. one_part (typed_enumerators r.sight (pos 0) e.items) (λ x.
    Good (record r {
      sight = with_enum_tag x.0 e.tag;
      tags = with_tag r.tags e.tag;
      enums = r.enums ++ record e { items = x.1 } ∷ [];
    })))

abbrev pub typed_item_of_file : TranslationUnit → Progress → FileItem → Checked Progress
typed_item_of_file p r (StructHead k s) = one_part (new_tag r.tags s.place s.tag) (λ n. Good (record r { tags = with_tag r.tags s.tag }))
typed_item_of_file p r (Member k m ends) = elim (slice_get r.sight.structs k) [
  | None ↦ Good r
  | Some struct ↦ one_part (typed_member r.sight k struct m ends) (λ s. Good (record r { sight = s }))
]
typed_item_of_file p r (AnEnum e) = typed_enum r e
typed_item_of_file p r (ATypedef d) =
    one_part (typed_typedef r.sight d) (λ d. Good (record r { sight = with_type r.sight d; typedefs = r.typedefs ++ d ∷ [] }))
typed_item_of_file p r (AGlobal d) =
    one_part (typed_global r.sight d) (λ d. Good (record r { sight = with_object r.sight d; globals = r.globals ++ d ∷ [] }))
typed_item_of_file p r (AFunction f) =
    one_part (typed_function p r.sight r.funcs f) (λ f. Good (record r { sight = with_function p r.sight f; funcs = r.funcs ++ f ∷ [] }))

abbrev pub typed_items_of_file : TranslationUnit → Progress → List FileItem → Checked Progress
typed_items_of_file p r [] = Good r
typed_items_of_file p r (i ∷ is) = one_part (typed_item_of_file p r i) (λ r. typed_items_of_file p r is)

abbrev pub at_start : TranslationUnit → Progress
at_start p = record { sight = first_sight p; tags = []; enums = []; typedefs = []; globals = []; funcs = [] }

abbrev pub with_progress : TranslationUnit → Progress → TranslationUnit
with_progress p r = record p { structs = r.sight.structs; enums = r.enums; typedefs = r.typedefs; globals = r.globals; funcs = r.funcs }

-- names and types of a text
abbrev pub typed_unit : TranslationUnit → Checked TranslationUnit
typed_unit p = one_part (typed_items_of_file p (at_start p) (items_of_file p)) (λ r. Good (with_progress p r))

-- ---- the room of globals and literals (C99 5.2.4.1 leaves it to the implementation)

-- what is taken with one more object
abbrev pub room_with : List StructType → ℕ → StaticObject → ℕ
room_with structs taken o = taken + rounded (size_of_object structs o)

-- the first object that takes the sum past the segment
abbrev pub room_fault_from : List StructType → ℕ → List StaticObject → Option Fault
room_fault_from structs taken [] = None
room_fault_from structs taken (o ∷ os) =
    if nat_lt globals_bytes (room_with structs taken o) then Some (record { code = globals_code; place = place_of_object o })
    else room_fault_from structs (room_with structs taken o) os

-- globals and literals take room before a run, in the order of the text
abbrev pub room_fault : TranslationUnit → Option Fault
room_fault p = room_fault_from p.structs 0 (static_objects p)

-- ---- `main`

abbrev pub no_main : Place → Fault
no_main at = record { code = main_code; place = at }

abbrev pub has_no_parameters : List Declaration → Bool
has_no_parameters [] = true
has_no_parameters (d ∷ ds) = false

-- the definition of `main`, whose type is `int main(void)` (C99 5.1.2.2.1)
abbrev pub main_fault : List (List ℕ) → List Function → Option Fault
main_fault names [] = Some (no_main first_place)
main_fault names (f ∷ fs) =
    cond (is_definition f && bytes_eq (name_at names f.name) (codes "main"))
    (cond (same_type f.result int_type && has_no_parameters f.params) None (Some (no_main f.place)))
    (main_fault names fs)

-- ---- a typed file, read again from its beginning

-- the value of an enumerator that is typed: a constant, or one more than the value before
abbrev pub value_typed : Sight → ℤ → Option Expression → ℤ
value_typed s next None = next
value_typed s next (Some x) = elim (constant s x) [ None ↦ next | Some z ↦ z ]

abbrev pub with_enumerators : Sight → ℤ → List EnumConstant → Sight
with_enumerators s next [] = s
with_enumerators s next (e ∷ es) = with_enumerators (with_enumerator s e.name (value_typed s next e.value)) (value_typed s next e.value +ℤ pos 1) es

-- what is in sight behind a typed enum: its enumerators and its tag
abbrev pub behind_enum : Sight → EnumType → Sight
behind_enum s e = with_enum_tag (with_enumerators s (pos 0) e.items) e.tag

-- what is in sight after a typed item, where the structs of the whole file are known
abbrev pub behind_item : TranslationUnit → Sight → FileItem → Sight
behind_item p s (StructHead k struct) = s
behind_item p s (Member k m ends) = s
behind_item p s (AnEnum e) = behind_enum s e
behind_item p s (ATypedef d) = with_type s d
behind_item p s (AGlobal d) = with_object s d
behind_item p s (AFunction f) = with_function p s f
