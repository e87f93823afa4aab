-- Typing keeps the full expressions of a whole file small.
use Rattle.std.proofs.Common.{ℕ, suc, pos, Bool, true, false, nat_lt, if◌then◌else◌, List, [], ◌∷◌, ◌++◌, map, Option, Some, None, slice_get}
use Rattle.c_syntax.specs.Ctypes.{PlainType}
use Rattle.c_syntax.specs.Statements.{Declaration, Statement, Empty, Eval, Block, If, While, Do, For, Break, Continue, Return, Labelled, Switch}
use Rattle.c_syntax.specs.Programs.{StructMember, StructType, EnumConstant, EnumType, Function, TranslationUnit}
use Rattle.c_model.specs.Meaning.{is_definition}
use Rattle.c_model.specs.Checked.{Good, one_part}
use Rattle.c_model.specs.ExpressionTyping.{Sight, with_object, inner}
use Rattle.c_model.specs.DeclarationTyping.{typed_global, typed_typedef, typed_result, typed_member, typed_enumerators}
use Rattle.c_model.specs.StatementTyping.{typed_items}
use Rattle.c_model.specs.UnitTyping.{FileItem, StructHead, Member, AnEnum, ATypedef, AGlobal, AFunction, offset_of_item, member_items, struct_items, inserted, in_order, items_of_file, with_type, with_tag, with_function}
use Rattle.c_model.specs.UnitTyping.{with_parameters, function_name, typed_parameters, typed_heading, typed_body, typed_parts, typed_function, Progress, new_tag, typed_enum, typed_item_of_file}
use Rattle.c_model.specs.UnitTyping.{typed_items_of_file, at_start, with_progress, typed_unit}
use Rattle.c_model.specs.FullExpressions.{EachInDeclaration, EachDeclared, EachInItems, EachInBody, EachInFunctions}
use Rattle.c_model.specs.Sizes.{IsSmall}
use Rattle.c_model.proofs.LabelledFunctions.{gives_function}
use Rattle.c_model.proofs.TypedParts.{Gives, gives_one}
use Rattle.c_model.proofs.TypedDeclarations.{anything}
use Rattle.c_model.proofs.TypedHeadings.{gives_heading}
use Rattle.c_model.proofs.SmallStatements.{IsShort, global_small, items_small}

-- ---- functions (C99 6.9.1)

body_small : (s : Sight) (t : PlainType) (b : Option Statement) → EachInBody IsShort b → Gives (EachInBody IsSmall) (typed_body s t b)
body_small s t (Some (Block at items)) h =
    gives_one (EachInItems IsSmall) (EachInBody IsSmall) (typed_items s (record { result = t; breaks = false; loops = false }) items) (λ items. Good (Some (Block at items)))
    (items_small s (record { result = t; breaks = false; loops = false }) items h) (λ x f. f)
body_small s t None h = tt
body_small s t (Some (Empty at)) h = tt
body_small s t (Some (Eval at e)) h = tt
body_small s t (Some (If at e a b)) h = tt
body_small s t (Some (While at annots e a)) h = tt
body_small s t (Some (Do at a e)) h = tt
body_small s t (Some (For at annots first e step a)) h = tt
body_small s t (Some (Break at)) h = tt
body_small s t (Some (Continue at)) h = tt
body_small s t (Some (Return at e)) h = tt
body_small s t (Some (Labelled at l a)) h = tt
body_small s t (Some (Switch at e cases)) h = tt

abbrev HasShort : Function → Type 0
HasShort f = EachInBody IsShort f.body

abbrev HasSmall : Function → Type 0
HasSmall f = EachInBody IsSmall f.body

-- the body is as it is read
heading_short : (s : Sight) (before : List Function) (f : Function) → HasShort f → Gives HasShort (typed_heading s before f)
heading_short s before f h =
    gives_heading (λ n. Unit {0}) (λ t. Unit {0}) (λ ds. Unit {0}) HasShort s before f (anything (function_name s f)) (anything (typed_result s (is_definition f) f.place f.result))
    (anything (typed_parameters (inner s) (is_definition f) f.params)) (λ n t ds u v w. h)

parts_small : (p : TranslationUnit) (s : Sight) (before : List Function) (f : Function) → HasShort f → Gives HasSmall (typed_parts p s before f)
parts_small p s before f h =
    gives_one HasShort HasSmall (typed_heading s before f) (λ f. one_part (typed_body (with_parameters (inner (with_function p s f)) f.params) f.result f.body) (λ b. Good (record f { body = b }))) (heading_short s before f h) (λ g k.
    gives_one (EachInBody IsSmall) HasSmall (typed_body (with_parameters (inner (with_function p s g)) g.params) g.result g.body) (λ b. Good (record g { body = b }))
    (body_small (with_parameters (inner (with_function p s g)) g.params) g.result g.body k) (λ b l. l))

function_small : (p : TranslationUnit) (s : Sight) (before : List Function) (f : Function) → HasShort f → Gives HasSmall (typed_function p s before f)
function_small p s before f h = gives_function HasSmall p s before f (parts_small p s before f h)

-- ---- what a file declares

abbrev IsShortItem : FileItem → Type 0
IsShortItem (StructHead k s) = Unit {0}
IsShortItem (Member k m ends) = Unit {0}
IsShortItem (AnEnum e) = Unit {0}
IsShortItem (ATypedef d) = Unit {0}
IsShortItem (AGlobal d) = EachInDeclaration IsShort d
IsShortItem (AFunction f) = HasShort f

abbrev AreShortItems : List FileItem → Type 0
AreShortItems [] = Unit {0}
AreShortItems (i ∷ is) = IsShortItem i × AreShortItems is

both_short : (a b : List FileItem) → AreShortItems a → AreShortItems b → AreShortItems (a ++ b)
both_short [] b h k = k
both_short (i ∷ a) b h k = (h.0, both_short a b h.1 k)

members_short : (k : ℕ) (ms : List StructMember) → AreShortItems (member_items k ms)
members_short k [] = tt
members_short k (m ∷ []) = (tt, tt)
members_short k (m ∷ n ∷ ms) = (tt, members_short k (n ∷ ms))

structs_short : (k : ℕ) (ss : List StructType) → AreShortItems (struct_items k ss)
structs_short k [] = tt
structs_short k (s ∷ ss) = (tt, both_short (member_items k s.members) (struct_items (suc k) ss) (members_short k s.members) (structs_short (suc k) ss))

enums_short : (es : List EnumType) → AreShortItems (map AnEnum es)
enums_short [] = tt
enums_short (e ∷ es) = (tt, enums_short es)

typedefs_short : (ds : List Declaration) → AreShortItems (map ATypedef ds)
typedefs_short [] = tt
typedefs_short (d ∷ ds) = (tt, typedefs_short ds)

globals_short : (ds : List Declaration) → EachDeclared IsShort ds → AreShortItems (map AGlobal ds)
globals_short [] h = tt
globals_short (d ∷ ds) h = (h.0, globals_short ds h.1)

functions_short : (fs : List Function) → EachInFunctions IsShort fs → AreShortItems (map AFunction fs)
functions_short [] h = tt
functions_short (f ∷ fs) h = (h.0, functions_short fs h.1)

inserted_short : (i : FileItem) (is : List FileItem) → IsShortItem i → AreShortItems is → AreShortItems (inserted i is)
inserted_short i [] h k = (h, tt)
inserted_short i (j ∷ js) h k = by (nat_lt (offset_of_item j) (offset_of_item i)) (inserted_short i js h k.1)
  where
    by : (b : Bool) → AreShortItems (inserted i js) → AreShortItems (if b then j ∷ inserted i js else i ∷ j ∷ js)
    by true l = (k.0, l)
    by false l = (h, k)

ordered_short : (is : List FileItem) → AreShortItems is → AreShortItems (in_order is)
ordered_short [] h = tt
ordered_short (i ∷ is) h = inserted_short i (in_order is) h.0 (ordered_short is h.1)

file_short : (p : TranslationUnit) → EachDeclared IsShort p.globals → EachInFunctions IsShort p.funcs → AreShortItems (items_of_file p)
file_short p h k =
    let rest = map ATypedef p.typedefs ++ (map AGlobal p.globals ++ map AFunction p.funcs) in
    ordered_short (struct_items 0 p.structs ++ (map AnEnum p.enums ++ rest)) (both_short (struct_items 0 p.structs) (map AnEnum p.enums ++ rest) (structs_short 0 p.structs) (both_short (map AnEnum p.enums) rest (enums_short p.enums)
    (both_short (map ATypedef p.typedefs) (map AGlobal p.globals ++ map AFunction p.funcs) (typedefs_short p.typedefs) (both_short (map AGlobal p.globals) (map AFunction p.funcs) (globals_short p.globals h) (functions_short p.funcs k)))))

-- ---- files

pub record IsSmallSoFar (r : Progress) : Type 0 where
  pub globals : EachDeclared IsSmall r.globals
  pub funcs : EachInFunctions IsSmall r.funcs

one_more_global : (ds : List Declaration) (d : Declaration) → EachDeclared IsSmall ds → EachInDeclaration IsSmall d → EachDeclared IsSmall (ds ++ d ∷ [])
one_more_global [] d h k = (k, tt)
one_more_global (c ∷ ds) d h k = (h.0, one_more_global ds d h.1 k)

one_more_function : (fs : List Function) (f : Function) → EachInFunctions IsSmall fs → HasSmall f → EachInFunctions IsSmall (fs ++ f ∷ [])
one_more_function [] f h k = (k, tt)
one_more_function (g ∷ fs) f h k = (h.0, one_more_function fs f h.1 k)

member_small : (r : Progress) (k : ℕ) (m : StructMember) (ends : Bool) → IsSmallSoFar r
    → Gives IsSmallSoFar (elim (slice_get r.sight.structs k) [ None ↦ Good r | Some struct ↦ one_part (typed_member r.sight k struct m ends) (λ s. Good (record r { sight = s })) ])
member_small r k m ends h = by (slice_get r.sight.structs k)
  where
    by : (o : Option StructType) → Gives IsSmallSoFar (elim o [ None ↦ Good r | Some struct ↦ one_part (typed_member r.sight k struct m ends) (λ s. Good (record r { sight = s })) ])
    by None = h
    by (Some struct) =
        gives_one (λ s. Unit {0}) IsSmallSoFar (typed_member r.sight k struct m ends) (λ s. Good (record r { sight = s })) (anything (typed_member r.sight k struct m ends)) (λ s u. record { globals = h.globals; funcs = h.funcs })

enum_small : (r : Progress) (e : EnumType) → IsSmallSoFar r → Gives IsSmallSoFar (typed_enum r e)
enum_small r e h =
    gives_one (λ n. Unit {0}) IsSmallSoFar (new_tag r.tags e.place e.tag) (λ n. one_part (typed_enumerators r.sight (pos 0) e.items) (λ x. Good (with_enum r e x))) (anything (new_tag r.tags e.place e.tag)) (λ n u.
    gives_one (λ x. Unit {0}) IsSmallSoFar (typed_enumerators r.sight (pos 0) e.items) (λ x. Good (with_enum r e x)) (anything (typed_enumerators r.sight (pos 0) e.items)) (λ x v. record { globals = h.globals; funcs = h.funcs }))
  where
    with_enum : Progress → EnumType → Sight × List EnumConstant → Progress
    with_enum r e x = record r {
      sight = record x.0 { enums = with_tag x.0.enums e.tag };
      tags = with_tag r.tags e.tag;
      enums = r.enums ++ record e { items = x.1 } ∷ [];
    }

item_small : (p : TranslationUnit) (r : Progress) (i : FileItem) → IsShortItem i → IsSmallSoFar r → Gives IsSmallSoFar (typed_item_of_file p r i)
item_small p r (StructHead k s) i h =
    gives_one (λ n. Unit {0}) IsSmallSoFar (new_tag r.tags s.place s.tag) (λ n. Good (record r { tags = with_tag r.tags s.tag })) (anything (new_tag r.tags s.place s.tag)) (λ n u. record { globals = h.globals; funcs = h.funcs })
item_small p r (Member k m ends) i h = member_small r k m ends h
item_small p r (AnEnum e) i h = enum_small r e h
item_small p r (ATypedef d) i h =
    gives_one (λ d. Unit {0}) IsSmallSoFar (typed_typedef r.sight d) (λ d. Good (record r { sight = with_type r.sight d; typedefs = r.typedefs ++ d ∷ [] })) (anything (typed_typedef r.sight d)) (λ d u.
    record { globals = h.globals; funcs = h.funcs })
item_small p r (AGlobal d) i h =
    gives_one (EachInDeclaration IsSmall) IsSmallSoFar (typed_global r.sight d) (λ d. Good (record r { sight = with_object r.sight d; globals = r.globals ++ d ∷ [] })) (global_small r.sight d i) (λ d k.
    record { globals = one_more_global r.globals d h.globals k; funcs = h.funcs })
item_small p r (AFunction f) i h =
    gives_one HasSmall IsSmallSoFar (typed_function p r.sight r.funcs f) (λ f. Good (record r { sight = with_function p r.sight f; funcs = r.funcs ++ f ∷ [] })) (function_small p r.sight r.funcs f i) (λ f k.
    record { globals = h.globals; funcs = one_more_function r.funcs f h.funcs k })

items_of_file_small : (p : TranslationUnit) (r : Progress) (is : List FileItem) → AreShortItems is → IsSmallSoFar r → Gives IsSmallSoFar (typed_items_of_file p r is)
items_of_file_small p r [] i h = h
items_of_file_small p r (j ∷ is) i h =
    gives_one IsSmallSoFar IsSmallSoFar (typed_item_of_file p r j) (λ r. typed_items_of_file p r is) (item_small p r j i.0 h) (λ x k. items_of_file_small p x is i.1 k)

-- the full expressions of a typed file
pub record HasSmallExpressions (p : TranslationUnit) : Type 0 where
  pub globals : EachDeclared IsSmall p.globals
  pub funcs : EachInFunctions IsSmall p.funcs

pub unit_small : (p : TranslationUnit) → EachDeclared IsShort p.globals → EachInFunctions IsShort p.funcs → Gives HasSmallExpressions (typed_unit p)
unit_small p h k =
    gives_one IsSmallSoFar HasSmallExpressions (typed_items_of_file p (at_start p) (items_of_file p)) (λ r. Good (with_progress p r))
    (items_of_file_small p (at_start p) (items_of_file p) (file_short p h k) (record { globals = tt; funcs = tt })) (λ r f. record { globals = f.globals; funcs = f.funcs })
