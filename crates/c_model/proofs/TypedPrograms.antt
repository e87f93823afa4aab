-- A file that typing accepts is a typed program, and it is the read one but for types, casts and constants.
use Rattle.std.proofs.Common.{◌≡◌, ℕ, ◌<◌, sym, ap, ◌∙◌, subst, List, [], ◌∷◌, ◌++◌, Option, Some, None, cond, ◌&&◌, nat_eq}
use Rattle.c_syntax.specs.Statements.{Statement, Empty, Eval, Block, If, While, Do, For, Break, Continue, Return, Labelled, Switch}
use Rattle.c_syntax.specs.Programs.{Function, TranslationUnit}
use Rattle.c_model.specs.Library.{is_there}
use Rattle.c_model.specs.Checked.{Good}
use Rattle.c_model.specs.ExpressionTyping.{Sight}
use Rattle.c_model.specs.UnitTyping.{FileItem, StructHead, Member, AnEnum, ATypedef, AGlobal, AFunction, offset_of_item, with_function, definition_of, first_declaration, number_or, types_of, signature, items_of_file, sight_with}
use Rattle.c_model.specs.UnitTyping.{behind_item, typed_unit}
use Rattle.c_model.specs.TextOrder.{enums_among, typedefs_among, globals_among, functions_among, InTextOrder}
use Rattle.c_model.specs.TypedTrees.{FunctionTyped}
use Rattle.c_model.specs.TypedPrograms.{ItemsTyped, ProgramTyped}
use Rattle.c_model.specs.FileItems.{SeesValues, FileSeesValues, FileEnumerators}
use Rattle.c_model.specs.TypedReadings.{DeclarationsTypedAs, SameDeclarations, BodyTypedAs}
use Rattle.c_model.specs.TypedFileItems.{FileItemTypedAs, FileItemsTypedAs, ordinary, StructsTypedAs, EnumsTypedAs, FunctionsTypedAs, FileTypedAs}
use Rattle.c_model.proofs.FileOrder.{Above, Ascends, ascends, items_are, HasItems}
use Rattle.c_model.proofs.TypedLayouts.{structs_laid_out}
use Rattle.c_model.proofs.TypedStructs.{structs_as}
use Rattle.c_model.proofs.TypedFileItems.{SeesToEnd, HasTypedItems, has_typed_items}

-- ---- places

same_offset : (i k : FileItem) → FileItemTypedAs i k → offset_of_item k ≡ offset_of_item i
same_offset (StructHead n s) k h = ap offset_of_item h
same_offset (Member n m ends) k h = ap offset_of_item h
same_offset (AnEnum e) k h = ap offset_of_item h.1 ∙ ap (λ p. p.offset) h.2.place
same_offset (ATypedef d) k h = ap offset_of_item h.1 ∙ ap (λ p. p.offset) h.2.place
same_offset (AGlobal d) k h = ap offset_of_item h.1 ∙ ap (λ p. p.offset) h.2.place
same_offset (AFunction f) k h = ap offset_of_item h.1 ∙ ap (λ p. p.offset) h.2.place

typed_above : (n : ℕ) (is js : List FileItem) → FileItemsTypedAs is js → Above n is → Above n js
typed_above n [] js h a = subst (Above n) (sym h) tt
typed_above n (i ∷ is) js h a = subst (Above n) (sym h.2) (subst (λ m. n < m) (sym (same_offset i h.0 h.3)) a.0, typed_above n is h.1 h.4 a.1)

typed_ascends : (is js : List FileItem) → FileItemsTypedAs is js → Ascends is → Ascends js
typed_ascends [] js h a = subst Ascends (sym h) tt
typed_ascends (i ∷ is) js h a = subst Ascends (sym h.2) (
  typed_above (offset_of_item h.0) is h.1 h.4 (subst (λ m. Above m is) (sym (same_offset i h.0 h.3)) a.0),
  typed_ascends is h.1 h.4 a.1,
)

-- ---- the declarations of each kind

enums_as : (is js : List FileItem) → FileItemsTypedAs is js → EnumsTypedAs (enums_among is) (enums_among js)
enums_as [] js h = ap enums_among h
enums_as (AnEnum e ∷ is) js h =
    (h.3.0, enums_among h.1, ap enums_among h.2 ∙ ap (λ k. enums_among (k ∷ h.1)) h.3.1, h.3.2, enums_as is h.1 h.4)
enums_as (StructHead n s ∷ is) js h = subst (EnumsTypedAs (enums_among is)) (sym (ap enums_among h.2 ∙ ap (λ k. enums_among (k ∷ h.1)) h.3)) (enums_as is h.1 h.4)
enums_as (Member n m ends ∷ is) js h = subst (EnumsTypedAs (enums_among is)) (sym (ap enums_among h.2 ∙ ap (λ k. enums_among (k ∷ h.1)) h.3)) (enums_as is h.1 h.4)
enums_as (ATypedef d ∷ is) js h = subst (EnumsTypedAs (enums_among is)) (sym (ap enums_among h.2 ∙ ap (λ k. enums_among (k ∷ h.1)) h.3.1)) (enums_as is h.1 h.4)
enums_as (AGlobal d ∷ is) js h = subst (EnumsTypedAs (enums_among is)) (sym (ap enums_among h.2 ∙ ap (λ k. enums_among (k ∷ h.1)) h.3.1)) (enums_as is h.1 h.4)
enums_as (AFunction f ∷ is) js h = subst (EnumsTypedAs (enums_among is)) (sym (ap enums_among h.2 ∙ ap (λ k. enums_among (k ∷ h.1)) h.3.1)) (enums_as is h.1 h.4)

typedefs_as : (is js : List FileItem) → FileItemsTypedAs is js → SameDeclarations (typedefs_among is) (typedefs_among js)
typedefs_as [] js h = ap typedefs_among h
typedefs_as (ATypedef d ∷ is) js h =
    (h.3.0, typedefs_among h.1, ap typedefs_among h.2 ∙ ap (λ k. typedefs_among (k ∷ h.1)) h.3.1, h.3.2, typedefs_as is h.1 h.4)
typedefs_as (StructHead n s ∷ is) js h = subst (SameDeclarations (typedefs_among is)) (sym (ap typedefs_among h.2 ∙ ap (λ k. typedefs_among (k ∷ h.1)) h.3)) (typedefs_as is h.1 h.4)
typedefs_as (Member n m ends ∷ is) js h = subst (SameDeclarations (typedefs_among is)) (sym (ap typedefs_among h.2 ∙ ap (λ k. typedefs_among (k ∷ h.1)) h.3)) (typedefs_as is h.1 h.4)
typedefs_as (AnEnum e ∷ is) js h = subst (SameDeclarations (typedefs_among is)) (sym (ap typedefs_among h.2 ∙ ap (λ k. typedefs_among (k ∷ h.1)) h.3.1)) (typedefs_as is h.1 h.4)
typedefs_as (AGlobal d ∷ is) js h = subst (SameDeclarations (typedefs_among is)) (sym (ap typedefs_among h.2 ∙ ap (λ k. typedefs_among (k ∷ h.1)) h.3.1)) (typedefs_as is h.1 h.4)
typedefs_as (AFunction f ∷ is) js h = subst (SameDeclarations (typedefs_among is)) (sym (ap typedefs_among h.2 ∙ ap (λ k. typedefs_among (k ∷ h.1)) h.3.1)) (typedefs_as is h.1 h.4)

globals_as : (is js : List FileItem) → FileItemsTypedAs is js → DeclarationsTypedAs (globals_among is) (globals_among js)
globals_as [] js h = ap globals_among h
globals_as (AGlobal d ∷ is) js h =
    (h.3.0, globals_among h.1, ap globals_among h.2 ∙ ap (λ k. globals_among (k ∷ h.1)) h.3.1, h.3.2, globals_as is h.1 h.4)
globals_as (StructHead n s ∷ is) js h = subst (DeclarationsTypedAs (globals_among is)) (sym (ap globals_among h.2 ∙ ap (λ k. globals_among (k ∷ h.1)) h.3)) (globals_as is h.1 h.4)
globals_as (Member n m ends ∷ is) js h = subst (DeclarationsTypedAs (globals_among is)) (sym (ap globals_among h.2 ∙ ap (λ k. globals_among (k ∷ h.1)) h.3)) (globals_as is h.1 h.4)
globals_as (AnEnum e ∷ is) js h = subst (DeclarationsTypedAs (globals_among is)) (sym (ap globals_among h.2 ∙ ap (λ k. globals_among (k ∷ h.1)) h.3.1)) (globals_as is h.1 h.4)
globals_as (ATypedef d ∷ is) js h = subst (DeclarationsTypedAs (globals_among is)) (sym (ap globals_among h.2 ∙ ap (λ k. globals_among (k ∷ h.1)) h.3.1)) (globals_as is h.1 h.4)
globals_as (AFunction f ∷ is) js h = subst (DeclarationsTypedAs (globals_among is)) (sym (ap globals_among h.2 ∙ ap (λ k. globals_among (k ∷ h.1)) h.3.1)) (globals_as is h.1 h.4)

functions_as : (is js : List FileItem) → FileItemsTypedAs is js → FunctionsTypedAs (functions_among is) (functions_among js)
functions_as [] js h = ap functions_among h
functions_as (AFunction f ∷ is) js h =
    (h.3.0, functions_among h.1, ap functions_among h.2 ∙ ap (λ k. functions_among (k ∷ h.1)) h.3.1, h.3.2, functions_as is h.1 h.4)
functions_as (StructHead n s ∷ is) js h = subst (FunctionsTypedAs (functions_among is)) (sym (ap functions_among h.2 ∙ ap (λ k. functions_among (k ∷ h.1)) h.3)) (functions_as is h.1 h.4)
functions_as (Member n m ends ∷ is) js h = subst (FunctionsTypedAs (functions_among is)) (sym (ap functions_among h.2 ∙ ap (λ k. functions_among (k ∷ h.1)) h.3)) (functions_as is h.1 h.4)
functions_as (AnEnum e ∷ is) js h = subst (FunctionsTypedAs (functions_among is)) (sym (ap functions_among h.2 ∙ ap (λ k. functions_among (k ∷ h.1)) h.3.1)) (functions_as is h.1 h.4)
functions_as (ATypedef d ∷ is) js h = subst (FunctionsTypedAs (functions_among is)) (sym (ap functions_among h.2 ∙ ap (λ k. functions_among (k ∷ h.1)) h.3.1)) (functions_as is h.1 h.4)
functions_as (AGlobal d ∷ is) js h = subst (FunctionsTypedAs (functions_among is)) (sym (ap functions_among h.2 ∙ ap (λ k. functions_among (k ∷ h.1)) h.3.1)) (functions_as is h.1 h.4)

file_as : (p q : TranslationUnit) → InTextOrder p → StructsTypedAs p.structs q.structs → HasTypedItems p q → FileTypedAs p q
file_as p q o ss t = record {
  names = t.names;
  texts = t.texts;
  strays = t.strays;
  structs = ss;
  enums = subst (λ l. EnumsTypedAs l q.enums) o.enums (subst (EnumsTypedAs (enums_among (items_of_file p))) t.enums (enums_as (items_of_file p) t.items t.read));
  typedefs = subst (λ l. SameDeclarations l q.typedefs) o.typedefs (subst (SameDeclarations (typedefs_among (items_of_file p))) t.typedefs (typedefs_as (items_of_file p) t.items t.read));
  globals = subst (λ l. DeclarationsTypedAs l q.globals) o.globals (subst (DeclarationsTypedAs (globals_among (items_of_file p))) t.globals (globals_as (items_of_file p) t.items t.read));
  functions = subst (λ l. FunctionsTypedAs l q.funcs) o.functions (subst (FunctionsTypedAs (functions_among (items_of_file p))) t.functions (functions_as (items_of_file p) t.items t.read));
}

-- ---- numbers of functions

definition_kept : (a b : Option Statement) → BodyTypedAs a b → is_there b ≡ is_there a
definition_kept None b h = ap is_there h
definition_kept (Some (Block at items)) b h = ap is_there h.1
definition_kept (Some (Empty at)) b h = ap is_there h
definition_kept (Some (Eval at e)) b h = ap is_there h
definition_kept (Some (If at e a c)) b h = ap is_there h
definition_kept (Some (While at annots e a)) b h = ap is_there h
definition_kept (Some (Do at a e)) b h = ap is_there h
definition_kept (Some (For at annots first e step a)) b h = ap is_there h
definition_kept (Some (Break at)) b h = ap is_there h
definition_kept (Some (Continue at)) b h = ap is_there h
definition_kept (Some (Return at e)) b h = ap is_there h
definition_kept (Some (Labelled at l a)) b h = ap is_there h
definition_kept (Some (Switch at e cases)) b h = ap is_there h

definition_number : (x : ℕ) (fs gs : List Function) → FunctionsTypedAs fs gs → definition_of x gs ≡ definition_of x fs
definition_number x [] gs h = ap (definition_of x) h
definition_number x (f ∷ fs) gs h =
    let body = definition_kept f.body h.0.body h.3.body in
    let rest = definition_number x fs h.1 h.4 in
    ap (definition_of x) h.2 ∙ (λ i. cond (body i && nat_eq (h.3.name i) x) (Some (h.3.place i).offset) (rest i))

first_number : (x : ℕ) (fs gs : List Function) → FunctionsTypedAs fs gs → first_declaration x gs ≡ first_declaration x fs
first_number x [] gs h = ap (first_declaration x) h
first_number x (f ∷ fs) gs h = let rest = first_number x fs h.1 h.4 in ap (first_declaration x) h.2 ∙ (λ i. cond (nat_eq (h.3.name i) x) (h.3.place i).offset (rest i))

-- a function has one signature among those that are read and those that are typed
same_signature : (fs gs : List Function) → FunctionsTypedAs fs gs → (f : Function) → signature fs f ≡ signature gs f
same_signature fs gs h f =
    let d = sym (definition_number f.name fs gs h) in
    let n = sym (first_number f.name fs gs h) in
    (λ i. record { name = f.name; decl = number_or (d i) (n i); defined = is_there (d i); params = types_of f.params; result = f.result })

pub same_functions : (p q : TranslationUnit) → FunctionsTypedAs p.funcs q.funcs → (s : Sight) (f : Function) → with_function p s f ≡ with_function q s f
same_functions p q h s f = ap (λ g. record s { functions = s.functions ++ g ∷ [] }) (same_signature p.funcs q.funcs h f)

items_among : (p q : TranslationUnit) → ((s : Sight) (f : Function) → with_function p s f ≡ with_function q s f) → (s : Sight) (is : List FileItem) → ItemsTyped p s is → ItemsTyped q s is
items_among p q e s [] h = tt
items_among p q e s (StructHead k x ∷ is) h = (tt, items_among p q e s is h.1)
items_among p q e s (Member k m ends ∷ is) h = (tt, items_among p q e s is h.1)
items_among p q e s (AnEnum x ∷ is) h = (tt, items_among p q e (behind_item p s (AnEnum x)) is h.1)
items_among p q e s (ATypedef d ∷ is) h = (tt, items_among p q e (behind_item p s (ATypedef d)) is h.1)
items_among p q e s (AGlobal d ∷ is) h = (h.0, items_among p q e (behind_item p s (AGlobal d)) is h.1)
items_among p q e s (AFunction f ∷ is) h = (
  subst (λ s. FunctionTyped s f) (e s f) h.0,
  subst (λ s. ItemsTyped q s is) (e s f) (items_among p q e (with_function p s f) is h.1),
)

-- ---- structs aside

pub to_ordinary : (q : TranslationUnit) (s : Sight) (is : List FileItem) → ItemsTyped q s is → ItemsTyped q s (ordinary is)
to_ordinary q s [] h = tt
to_ordinary q s (StructHead k x ∷ is) h = to_ordinary q s is h.1
to_ordinary q s (Member k m ends ∷ is) h = to_ordinary q s is h.1
to_ordinary q s (AnEnum x ∷ is) h = (h.0, to_ordinary q (behind_item q s (AnEnum x)) is h.1)
to_ordinary q s (ATypedef d ∷ is) h = (h.0, to_ordinary q (behind_item q s (ATypedef d)) is h.1)
to_ordinary q s (AGlobal d ∷ is) h = (h.0, to_ordinary q (behind_item q s (AGlobal d)) is h.1)
to_ordinary q s (AFunction f ∷ is) h = (h.0, to_ordinary q (behind_item q s (AFunction f)) is h.1)

pub from_ordinary : (q : TranslationUnit) (s : Sight) (is : List FileItem) → ItemsTyped q s (ordinary is) → ItemsTyped q s is
from_ordinary q s [] h = tt
from_ordinary q s (StructHead k x ∷ is) h = (tt, from_ordinary q s is h)
from_ordinary q s (Member k m ends ∷ is) h = (tt, from_ordinary q s is h)
from_ordinary q s (AnEnum x ∷ is) h = (h.0, from_ordinary q (behind_item q s (AnEnum x)) is h.1)
from_ordinary q s (ATypedef d ∷ is) h = (h.0, from_ordinary q (behind_item q s (ATypedef d)) is h.1)
from_ordinary q s (AGlobal d ∷ is) h = (h.0, from_ordinary q (behind_item q s (AGlobal d)) is h.1)
from_ordinary q s (AFunction f ∷ is) h = (h.0, from_ordinary q (behind_item q s (AFunction f)) is h.1)

-- ---- enumerators in sight

values_among : (p q : TranslationUnit) → ((s : Sight) (f : Function) → with_function p s f ≡ with_function q s f) → (s : Sight) (is : List FileItem) → SeesToEnd p s is → SeesToEnd q s is
values_among p q e s [] h = h
values_among p q e s (StructHead k x ∷ is) h = (h.0, values_among p q e s is h.1)
values_among p q e s (Member k m ends ∷ is) h = (h.0, values_among p q e s is h.1)
values_among p q e s (AnEnum x ∷ is) h = (h.0, values_among p q e (behind_item p s (AnEnum x)) is h.1)
values_among p q e s (ATypedef d ∷ is) h = (h.0, values_among p q e (behind_item p s (ATypedef d)) is h.1)
values_among p q e s (AGlobal d ∷ is) h = (h.0, values_among p q e (behind_item p s (AGlobal d)) is h.1)
values_among p q e s (AFunction f ∷ is) h = (h.0, subst (λ s. SeesToEnd q s is) (e s f) (values_among p q e (with_function p s f) is h.1))

sees_first : (q : TranslationUnit) (s : Sight) (is : List FileItem) → SeesToEnd q s is → SeesValues s
sees_first q s [] h = h
sees_first q s (i ∷ is) h = h.0.0

values_to_ordinary : (q : TranslationUnit) (s : Sight) (is : List FileItem) → SeesToEnd q s is → SeesToEnd q s (ordinary is)
values_to_ordinary q s [] h = h
values_to_ordinary q s (StructHead k x ∷ is) h = values_to_ordinary q s is h.1
values_to_ordinary q s (Member k m ends ∷ is) h = values_to_ordinary q s is h.1
values_to_ordinary q s (AnEnum x ∷ is) h = (h.0, values_to_ordinary q (behind_item q s (AnEnum x)) is h.1)
values_to_ordinary q s (ATypedef d ∷ is) h = (h.0, values_to_ordinary q (behind_item q s (ATypedef d)) is h.1)
values_to_ordinary q s (AGlobal d ∷ is) h = (h.0, values_to_ordinary q (behind_item q s (AGlobal d)) is h.1)
values_to_ordinary q s (AFunction f ∷ is) h = (h.0, values_to_ordinary q (behind_item q s (AFunction f)) is h.1)

values_from_ordinary : (q : TranslationUnit) (s : Sight) (is : List FileItem) → SeesToEnd q s (ordinary is) → FileSeesValues q s is
values_from_ordinary q s [] h = tt
values_from_ordinary q s (StructHead k x ∷ is) h = (sees_first q s (ordinary is) h, values_from_ordinary q s is h)
values_from_ordinary q s (Member k m ends ∷ is) h = (sees_first q s (ordinary is) h, values_from_ordinary q s is h)
values_from_ordinary q s (AnEnum x ∷ is) h = (h.0.0, values_from_ordinary q (behind_item q s (AnEnum x)) is h.1)
values_from_ordinary q s (ATypedef d ∷ is) h = (h.0.0, values_from_ordinary q (behind_item q s (ATypedef d)) is h.1)
values_from_ordinary q s (AGlobal d ∷ is) h = (h.0.0, values_from_ordinary q (behind_item q s (AGlobal d)) is h.1)
values_from_ordinary q s (AFunction f ∷ is) h = (h.0.0, values_from_ordinary q (behind_item q s (AFunction f)) is h.1)

enumerators_from_ordinary : (q : TranslationUnit) (s : Sight) (is : List FileItem) → SeesToEnd q s (ordinary is) → FileEnumerators q s is
enumerators_from_ordinary q s [] h = tt
enumerators_from_ordinary q s (StructHead k x ∷ is) h = (tt, enumerators_from_ordinary q s is h)
enumerators_from_ordinary q s (Member k m ends ∷ is) h = (tt, enumerators_from_ordinary q s is h)
enumerators_from_ordinary q s (AnEnum x ∷ is) h = (h.0.1, enumerators_from_ordinary q (behind_item q s (AnEnum x)) is h.1)
enumerators_from_ordinary q s (ATypedef d ∷ is) h = (tt, enumerators_from_ordinary q (behind_item q s (ATypedef d)) is h.1)
enumerators_from_ordinary q s (AGlobal d ∷ is) h = (tt, enumerators_from_ordinary q (behind_item q s (AGlobal d)) is h.1)
enumerators_from_ordinary q s (AFunction f ∷ is) h = (tt, enumerators_from_ordinary q (behind_item q s (AFunction f)) is h.1)

-- ---- files

-- a file as typing makes it
pub record TypedFile (p q : TranslationUnit) : Type 0 where
  pub read : FileTypedAs p q
  pub program : ProgramTyped q
  -- enumerators in sight are values of `int`
  pub values : FileSeesValues q (sight_with q q.structs) (items_of_file q)
  -- and so are those that its items declare, whose constants are typed
  pub enumerators : FileEnumerators q (sight_with q q.structs) (items_of_file q)
  -- its items, typed one by one in the order of the text
  pub items : List FileItem
  pub items_read : FileItemsTypedAs (items_of_file p) items
  pub has : HasItems q items
  pub ordinary_items : ordinary (items_of_file q) ≡ ordinary items

pub typed_file : (p q : TranslationUnit) → InTextOrder p → typed_unit p ≡ Good q → TypedFile p q
typed_file p q o is = record {
  read = read;
  program = record { structs = structs_laid_out p q o is; items = from_ordinary q (sight_with q q.structs) (items_of_file q) (subst (ItemsTyped q (sight_with q q.structs)) (sym same) typed) };
  values = values_from_ordinary q (sight_with q q.structs) (items_of_file q) (subst (SeesToEnd q (sight_with q q.structs)) (sym same) values);
  enumerators = enumerators_from_ordinary q (sight_with q q.structs) (items_of_file q) (subst (SeesToEnd q (sight_with q q.structs)) (sym same) values);
  items = t.items;
  items_read = t.read;
  has = has;
  ordinary_items = same;
}
  where
    t : HasTypedItems p q
    t = has_typed_items p q o is

    read : FileTypedAs p q
    read = file_as p q o (structs_as p q o is) t

    has : HasItems q t.items
    has = record { enums = t.enums; typedefs = t.typedefs; globals = t.globals; functions = t.functions }

    same : ordinary (items_of_file q) ≡ ordinary t.items
    same = items_are q t.items (typed_ascends (items_of_file p) t.items t.read (ascends 0 (items_of_file p) 4294967295 o.numbers)) has

    typed : ItemsTyped q (sight_with q q.structs) (ordinary t.items)
    typed = to_ordinary q (sight_with q q.structs) t.items (items_among p q (same_functions p q read.functions) (sight_with q q.structs) t.items t.typed)

    values : SeesToEnd q (sight_with q q.structs) (ordinary t.items)
    values = values_to_ordinary q (sight_with q q.structs) t.items (values_among p q (same_functions p q read.functions) (sight_with q q.structs) t.items t.values)
