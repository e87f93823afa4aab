-- A typed file of a text has what is asked of it where its annotations are typed: its enumerators are known, and its declarations stand in order.
-- Declarations of one kind that ascend are found among all items in the order in which they stand.
use Rattle.std.proofs.Common.{◌≡◌, ℕ, suc, ◌≤◌, refl, sym, ap, ◌∙◌, subst, arith, Bool, true, false, cond, List, [], ◌∷◌, ◌++◌, map, append-nil}
use Rattle.std.specs.List.{filter}
use Rattle.c_syntax.specs.Statements.{Declaration}
use Rattle.c_syntax.specs.Programs.{StructMember, StructType, EnumType, TranslationUnit}
use Rattle.c_model.specs.Checked.{Good}
use Rattle.c_model.specs.Formed.{Ascend, number_of, declared_in_body}
use Rattle.c_model.specs.TextOrder.{Between, offset_of_constant, numbers_of_items, enums_among, typedefs_among, InTextOrder}
use Rattle.c_model.specs.UnitTyping.{FileItem, StructHead, Member, AnEnum, ATypedef, AGlobal, AFunction, offset_of_item, member_items, struct_items, in_order, items_of_file, typed_unit}
use Rattle.c_model.proofs.FileOrder.{further}
use Rattle.c_model.proofs.TypedNumbers.{TypedInOrder, typed_in_order}
use Rattle.c_typing.specs.Files.{among, enum_of, typedef_of, global_of, kinds}
use Rattle.c_typing.specs.NotedFiles.{IsOrdered}
use Rattle.c_typing.specs.NotedContracts.{IsDefinedOnce}
use Rattle.c_typing.proofs.DefinedOnce.{defined_once}
use Rattle.c_typing.specs.Standing.{offset_of_enum, KindsAscend, Stands}
use Rattle.c_typing.proofs.NotedFiles.{in_order_is}
use Rattle.c_typing.proofs.Ordered.{ordered}
use Rattle.c_typing.proofs.Orders.{From, Up, from_lower, by_insertion, tested_insertion, up_stays}

-- ---- items that pass a test

module _ (test : FileItem → Bool) where
  abbrev tested : List FileItem → List FileItem
  tested is = filter test is

  tested_append : (xs ys : List FileItem) → tested (xs ++ ys) ≡ tested xs ++ tested ys
  tested_append [] ys = refl
  tested_append (x ∷ xs) ys = ap (λ l. cond (test x) (x ∷ l) l) (tested_append xs ys) ∙ by (test x)
    where
      by : (b : Bool) → cond b (x ∷ (tested xs ++ tested ys)) (tested xs ++ tested ys) ≡ cond b (x ∷ tested xs) (tested xs) ++ tested ys
      by true = refl
      by false = refl

  all_pass : {A : Type 0} (C : A → FileItem) → ((a : A) → test (C a) ≡ true) → (xs : List A) → tested (map C xs) ≡ map C xs
  all_pass C so [] = refl
  all_pass C so (x ∷ xs) = λ i. cond (so x i) (C x ∷ all_pass C so xs i) (all_pass C so xs i)

  none_pass : {A : Type 0} (C : A → FileItem) → ((a : A) → test (C a) ≡ false) → (xs : List A) → tested (map C xs) ≡ []
  none_pass C so [] = refl
  none_pass C so (x ∷ xs) = λ i. cond (so x i) (C x ∷ none_pass C so xs i) (none_pass C so xs i)

  module _ (heads : (k : ℕ) (s : StructType) → test (StructHead k s) ≡ false) (members : (k : ℕ) (m : StructMember) (ends : Bool) → test (Member k m ends) ≡ false) where
    no_members : (k : ℕ) (ms : List StructMember) → tested (member_items k ms) ≡ []
    no_members k [] = refl
    no_members k (m ∷ []) = λ i. cond (members k m true i) (Member k m true ∷ []) []
    no_members k (m ∷ n ∷ ms) = λ i. cond (members k m false i) (Member k m false ∷ no_members k (n ∷ ms) i) (no_members k (n ∷ ms) i)

    no_structs : (k : ℕ) (ss : List StructType) → tested (struct_items k ss) ≡ []
    no_structs k [] = refl
    no_structs k (s ∷ ss) =
        ap (λ b. cond b (StructHead k s ∷ tested (member_items k s.members ++ struct_items (suc k) ss)) (tested (member_items k s.members ++ struct_items (suc k) ss))) (heads k s)
        ∙ tested_append (member_items k s.members) (struct_items (suc k) ss) ∙ (λ i. no_members k s.members i ++ no_structs (suc k) ss i)

    no_struct_of : (p : TranslationUnit) → tested (struct_items 0 p.structs ++ kinds p) ≡ tested (kinds p)
    no_struct_of p = tested_append (struct_items 0 p.structs) (kinds p) ∙ ap (λ l. l ++ tested (kinds p)) (no_structs 0 p.structs)

-- ---- items of one kind, whose places ascend, stay in their order

module _ {A : Type 0} (C : A → FileItem) (offset : A → ℕ) (same : (a : A) → offset_of_item (C a) ≡ offset a) where
  ascending_from : (least : ℕ) (xs : List A) → Ascend least (map offset xs) → From offset_of_item least (map C xs)
  ascending_from least [] h = tt
  ascending_from least (x ∷ xs) h =
      let e = same x in
      (omega (arith, e, h.0), from_lower offset_of_item least (suc (offset x)) (omega (arith, h.0)) (map C xs) (ascending_from (suc (offset x)) xs h.1))

  ascending_up : (least : ℕ) (xs : List A) → Ascend least (map offset xs) → Up offset_of_item (map C xs)
  ascending_up least [] h = tt
  ascending_up least (x ∷ xs) h =
      let e = same x in
      (from_lower offset_of_item (offset_of_item (C x)) (suc (offset x)) (omega (arith, e)) (map C xs) (ascending_from (suc (offset x)) xs h.1), ascending_up (suc (offset x)) xs h.1)

-- those that a file's items give of one kind
module _ {A : Type 0} (C : A → FileItem) (offset : A → ℕ) (same : (a : A) → offset_of_item (C a) ≡ offset a) (test : FileItem → Bool) (part : FileItem → List A) where
  found_there : (xs : List A) (is : List FileItem) → ((js : List FileItem) → among part js ≡ among part (tested test js)) → ((ys : List A) → among part (map C ys) ≡ ys) → tested test is ≡ map C xs → Ascend 0 (map offset xs)
      → among part (in_order is) ≡ xs
  found_there xs is skips gives alone up =
      skips (in_order is) ∙ ap (λ js. among part (tested test js)) (sym (in_order_is is)) ∙ ap (among part) (tested_insertion offset_of_item test is) ∙ ap (λ js. among part (by_insertion offset_of_item js)) alone
      ∙ ap (among part) (up_stays offset_of_item (map C xs) (ascending_up C offset same 0 xs up)) ∙ gives xs

-- ---- the kinds

abbrev is_enum : FileItem → Bool
is_enum (StructHead k s) = false
is_enum (Member k m ends) = false
is_enum (AnEnum e) = true
is_enum (ATypedef d) = false
is_enum (AGlobal d) = false
is_enum (AFunction f) = false

abbrev is_typedef : FileItem → Bool
is_typedef (StructHead k s) = false
is_typedef (Member k m ends) = false
is_typedef (AnEnum e) = false
is_typedef (ATypedef d) = true
is_typedef (AGlobal d) = false
is_typedef (AFunction f) = false

abbrev is_global : FileItem → Bool
is_global (StructHead k s) = false
is_global (Member k m ends) = false
is_global (AnEnum e) = false
is_global (ATypedef d) = false
is_global (AGlobal d) = true
is_global (AFunction f) = false

enums_there : (is : List FileItem) → among enum_of is ≡ among enum_of (tested is_enum is)
enums_there [] = refl
enums_there (StructHead k s ∷ is) = enums_there is
enums_there (Member k m ends ∷ is) = enums_there is
enums_there (AnEnum e ∷ is) = ap (λ l. e ∷ l) (enums_there is)
enums_there (ATypedef d ∷ is) = enums_there is
enums_there (AGlobal d ∷ is) = enums_there is
enums_there (AFunction f ∷ is) = enums_there is

typedefs_there : (is : List FileItem) → among typedef_of is ≡ among typedef_of (tested is_typedef is)
typedefs_there [] = refl
typedefs_there (StructHead k s ∷ is) = typedefs_there is
typedefs_there (Member k m ends ∷ is) = typedefs_there is
typedefs_there (AnEnum e ∷ is) = typedefs_there is
typedefs_there (ATypedef d ∷ is) = ap (λ l. d ∷ l) (typedefs_there is)
typedefs_there (AGlobal d ∷ is) = typedefs_there is
typedefs_there (AFunction f ∷ is) = typedefs_there is

globals_there : (is : List FileItem) → among global_of is ≡ among global_of (tested is_global is)
globals_there [] = refl
globals_there (StructHead k s ∷ is) = globals_there is
globals_there (Member k m ends ∷ is) = globals_there is
globals_there (AnEnum e ∷ is) = globals_there is
globals_there (ATypedef d ∷ is) = globals_there is
globals_there (AGlobal d ∷ is) = ap (λ l. d ∷ l) (globals_there is)
globals_there (AFunction f ∷ is) = globals_there is

these_enums : (es : List EnumType) → among enum_of (map AnEnum es) ≡ es
these_enums [] = refl
these_enums (e ∷ es) = ap (λ l. e ∷ l) (these_enums es)

these_typedefs : (ds : List Declaration) → among typedef_of (map ATypedef ds) ≡ ds
these_typedefs [] = refl
these_typedefs (d ∷ ds) = ap (λ l. d ∷ l) (these_typedefs ds)

these_globals : (ds : List Declaration) → among global_of (map AGlobal ds) ≡ ds
these_globals [] = refl
these_globals (d ∷ ds) = ap (λ l. d ∷ l) (these_globals ds)

module _ (p : TranslationUnit) where
  abbrev listed : List FileItem
  listed = struct_items 0 p.structs ++ kinds p

  kinds_tested : (test : FileItem → Bool) → tested test (kinds p)
      ≡ tested test (map AnEnum p.enums) ++ (tested test (map ATypedef p.typedefs) ++ (tested test (map AGlobal p.globals) ++ tested test (map AFunction p.funcs)))
  kinds_tested test =
      tested_append test (map AnEnum p.enums) (map ATypedef p.typedefs ++ (map AGlobal p.globals ++ map AFunction p.funcs))
      ∙ ap (λ l. tested test (map AnEnum p.enums) ++ l) (tested_append test (map ATypedef p.typedefs) (map AGlobal p.globals ++ map AFunction p.funcs)
      ∙ ap (λ l. tested test (map ATypedef p.typedefs) ++ l) (tested_append test (map AGlobal p.globals) (map AFunction p.funcs)))

  enums_alone : tested is_enum listed ≡ map AnEnum p.enums
  enums_alone =
      no_struct_of is_enum (λ k s. refl) (λ k m e. refl) p ∙ kinds_tested is_enum
      ∙ (λ i. all_pass is_enum AnEnum (λ e. refl) p.enums i ++ (none_pass is_enum ATypedef (λ e. refl) p.typedefs i ++ (none_pass is_enum AGlobal (λ e. refl) p.globals i ++ none_pass is_enum AFunction (λ e. refl) p.funcs i)))
      ∙ append-nil (map AnEnum p.enums)

  typedefs_alone : tested is_typedef listed ≡ map ATypedef p.typedefs
  typedefs_alone =
      no_struct_of is_typedef (λ k s. refl) (λ k m e. refl) p ∙ kinds_tested is_typedef
      ∙ (λ i. none_pass is_typedef AnEnum (λ e. refl) p.enums i ++ (all_pass is_typedef ATypedef (λ e. refl) p.typedefs i ++ (none_pass is_typedef AGlobal (λ e. refl) p.globals i ++ none_pass is_typedef AFunction (λ e. refl) p.funcs i)))
      ∙ append-nil (map ATypedef p.typedefs)

  globals_alone : tested is_global listed ≡ map AGlobal p.globals
  globals_alone =
      no_struct_of is_global (λ k s. refl) (λ k m e. refl) p ∙ kinds_tested is_global
      ∙ (λ i. none_pass is_global AnEnum (λ e. refl) p.enums i ++ (none_pass is_global ATypedef (λ e. refl) p.typedefs i ++ (all_pass is_global AGlobal (λ e. refl) p.globals i ++ none_pass is_global AFunction (λ e. refl) p.funcs i)))
      ∙ append-nil (map AGlobal p.globals)

  -- so annotations can be typed
  pub ordered_of : Stands p → IsOrdered p
  ordered_of h = record {
    known = h.0;
    enums = found_there AnEnum offset_of_enum (λ e. refl) is_enum enum_of p.enums listed enums_there these_enums enums_alone h.1.0;
    typedefs = found_there ATypedef number_of (λ e. refl) is_typedef typedef_of p.typedefs listed typedefs_there these_typedefs typedefs_alone h.1.1;
    globals = found_there AGlobal number_of (λ e. refl) is_global global_of p.globals listed globals_there these_globals globals_alone h.1.2;
    once = h.2;
  }

-- ---- what typing makes of a file that stands in the order of the text

enums_from : (low : ℕ) (is : List FileItem) (high : ℕ) → Between low (numbers_of_items is) high → (least : ℕ) → least ≤ low → Ascend least (map offset_of_enum (enums_among is))
enums_from low [] high b least l = tt
enums_from low (StructHead k s ∷ is) high b least l = enums_from (suc s.place.offset) is high b.1 least (omega (arith, l, b.0))
enums_from low (Member k m ends ∷ is) high b least l = enums_from (suc m.place.offset) is high b.1 least (omega (arith, l, b.0))
enums_from low (AnEnum e ∷ is) high b least l =
    let h = further (suc e.place.offset) (map offset_of_constant e.items) (numbers_of_items is) high b.1 in
    (omega (arith, l, b.0), enums_from h.from is high h.between (suc e.place.offset) h.more)
enums_from low (ATypedef d ∷ is) high b least l = enums_from (suc d.place.offset) is high b.1 least (omega (arith, l, b.0))
enums_from low (AGlobal d ∷ is) high b least l = enums_from (suc d.place.offset) is high b.1 least (omega (arith, l, b.0))
enums_from low (AFunction f ∷ is) high b least l =
    let h = further (suc f.place.offset) (map number_of (f.params ++ declared_in_body f.body)) (numbers_of_items is) high b.1 in
    enums_from h.from is high h.between least (omega (arith, l, b.0, h.more))

typedefs_from : (low : ℕ) (is : List FileItem) (high : ℕ) → Between low (numbers_of_items is) high → (least : ℕ) → least ≤ low → Ascend least (map number_of (typedefs_among is))
typedefs_from low [] high b least l = tt
typedefs_from low (StructHead k s ∷ is) high b least l = typedefs_from (suc s.place.offset) is high b.1 least (omega (arith, l, b.0))
typedefs_from low (Member k m ends ∷ is) high b least l = typedefs_from (suc m.place.offset) is high b.1 least (omega (arith, l, b.0))
typedefs_from low (AnEnum e ∷ is) high b least l =
    let h = further (suc e.place.offset) (map offset_of_constant e.items) (numbers_of_items is) high b.1 in
    typedefs_from h.from is high h.between least (omega (arith, l, b.0, h.more))
typedefs_from low (ATypedef d ∷ is) high b least l = (omega (arith, l, b.0), typedefs_from (suc d.place.offset) is high b.1 (suc d.place.offset) (omega arith))
typedefs_from low (AGlobal d ∷ is) high b least l = typedefs_from (suc d.place.offset) is high b.1 least (omega (arith, l, b.0))
typedefs_from low (AFunction f ∷ is) high b least l =
    let h = further (suc f.place.offset) (map number_of (f.params ++ declared_in_body f.body)) (numbers_of_items is) high b.1 in
    typedefs_from h.from is high h.between least (omega (arith, l, b.0, h.more))

pub stands : (p q : TranslationUnit) → InTextOrder p → typed_unit p ≡ Good q → Stands q
stands p q o is = ((ordered p q o is).known, ascend, subst IsDefinedOnce (sym order.functions) (defined_once p q is))
  where
    order : TypedInOrder q
    order = typed_in_order p q o is

    ascend : KindsAscend q
    ascend = (
      subst (λ l. Ascend 0 (map offset_of_enum l)) order.enums (enums_from 0 (items_of_file q) 4294967295 order.numbers 0 (omega arith)),
      subst (λ l. Ascend 0 (map number_of l)) order.typedefs (typedefs_from 0 (items_of_file q) 4294967295 order.numbers 0 (omega arith)),
      order.globals_ascend,
    )
