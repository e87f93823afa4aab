-- What a file declares that is read stands in the order of the text.
use Rattle.std.proofs.Common.{◌≡◌, ℕ, zero, suc, ◌+◌, ◌<◌, ◌≤◌, List, [], ◌∷◌, ◌++◌, map, Option, Some, None, refl, sym, ap, subst, arith}
use Rattle.std.specs.Prelude.{slice_get}
use Rattle.std.specs.List.{AllByRecursion}
use Rattle.c_syntax.specs.Statements.{Declaration}
use Rattle.c_syntax.specs.Programs.{StructMember, StructType, EnumType, Function, StringLiteral}
use Rattle.c_model.specs.Vocabulary.{Vocabulary}
use Rattle.c_model.specs.ProgramGrammar.{FileParts, unit_with}
use Rattle.c_model.specs.UnitTyping.{FileItem, AnEnum, ATypedef, AGlobal, AFunction, member_items, struct_items, in_order}
use Rattle.c_model.specs.Formed.{number_of, numbers_of}
use Rattle.c_model.specs.PlacedTrees.{FileAtOffsets}
use Rattle.c_model.specs.ReadTree.{Between, HasMembers, struct_among, InTextOrder}
use Rattle.c_reader.proofs.PlacedReadings.{between_higher}
use Rattle.c_reader.proofs.Covers.{held}
use Rattle.c_reader.proofs.ItemOrder.{between_on, end_of_item, IsWhole, covered, between_in_order, placed_in_order, Sorted}
use Rattle.c_reader.proofs.DeclarationForms.{all_joined}
use Rattle.c_reader.proofs.StructForms.{offset_of_member, members_cover, structs_cover, enums_cover, IsStruct, IsEnum}
use Rattle.c_reader.proofs.FileForms.{declared_cover, functions_cover, parts_cover, IsFunction, IsFile}
use Rattle.c_reader.proofs.KindsInOrder.{listed, enums_in_order, typedefs_in_order, globals_in_order, functions_in_order, items_of_struct, struct_in_order, struct_sorted}
use Rattle.c_reader.proofs.MembersLast.{EndsLast, members_end_last, members_in_order}
use Rattle.c_reader.proofs.PlacedDeclarations.{is_offset, between_below, function_placed}

-- ---- how many items stand over an offset

covered_joined : (o : ℕ) (is js : List FileItem) → covered o (is ++ js) ≡ covered o is + covered o js
covered_joined o [] js = omega arith
covered_joined o (i ∷ is) js = let e = covered_joined o is js in omega (arith, e)

covered_members : (o k : ℕ) (ms : List StructMember) → covered o (member_items k ms) ≡ members_cover o ms
covered_members o k [] = refl
covered_members o k (m ∷ []) = refl
covered_members o k (m ∷ n ∷ ms) = ap (λ c. held o m.place.offset (suc m.place.offset) + c) (covered_members o k (n ∷ ms))

covered_structs : (o k : ℕ) (ss : List StructType) → covered o (struct_items k ss) ≡ structs_cover o ss
covered_structs o k [] = refl
covered_structs o k (s ∷ ss) =
    let members = covered_members o k s.members in
    let rest = covered_structs o (suc k) ss in
    let both = covered_joined o (member_items k s.members) (struct_items (suc k) ss) in
    omega (arith, members, rest, both)

covered_enums : (o : ℕ) (es : List EnumType) → covered o (map AnEnum es) ≡ enums_cover o es
covered_enums o [] = refl
covered_enums o (e ∷ es) = ap (λ c. held o e.place.offset (end_of_item (AnEnum e)) + c) (covered_enums o es)

covered_typedefs : (o : ℕ) (ds : List Declaration) → covered o (map ATypedef ds) ≡ declared_cover o ds
covered_typedefs o [] = refl
covered_typedefs o (d ∷ ds) = ap (λ c. held o d.place.offset (suc d.place.offset) + c) (covered_typedefs o ds)

covered_globals : (o : ℕ) (ds : List Declaration) → covered o (map AGlobal ds) ≡ declared_cover o ds
covered_globals o [] = refl
covered_globals o (d ∷ ds) = ap (λ c. held o d.place.offset (suc d.place.offset) + c) (covered_globals o ds)

covered_functions : (o : ℕ) (fs : List Function) → covered o (map AFunction fs) ≡ functions_cover o fs
covered_functions o [] = refl
covered_functions o (f ∷ fs) = ap (λ c. held o f.place.offset (end_of_item (AFunction f)) + c) (covered_functions o fs)

abbrev items_of : FileParts → List FileItem
items_of x = listed x.definitions.structs x.definitions.enums x.typedefs x.globals x.functions

covered_parts : (o : ℕ) (x : FileParts) → covered o (items_of x) ≡ parts_cover x o
covered_parts o x =
    let functions = map AFunction x.functions in
    let globals = map AGlobal x.globals ++ functions in
    let typedefs = map ATypedef x.typedefs ++ globals in
    let enums = map AnEnum x.definitions.enums ++ typedefs in
    let a = covered_joined o (struct_items 0 x.definitions.structs) enums in
    let b = covered_joined o (map AnEnum x.definitions.enums) typedefs in
    let c = covered_joined o (map ATypedef x.typedefs) globals in
    let d = covered_joined o (map AGlobal x.globals) functions in
    let s = covered_structs o 0 x.definitions.structs in
    let e = covered_enums o x.definitions.enums in
    let t = covered_typedefs o x.typedefs in
    let g = covered_globals o x.globals in
    let f = covered_functions o x.functions in
    omega (arith, a, b, c, d, s, e, t, g, f)

-- ---- items are whole, and their places are offsets

members_whole : (k l n : ℕ) (ms : List StructMember) → Between l (map offset_of_member ms) n → AllByRecursion (IsWhole n) (member_items k ms)
members_whole k l n [] h = tt
members_whole k l n (m ∷ []) h = (record { numbers = (omega arith, h.1) }, tt)
members_whole k l n (m ∷ o ∷ ms) h =
    let on = between_on (suc m.place.offset) n (map offset_of_member (o ∷ ms)) h.1 in
    (record { numbers = (omega arith, on) }, members_whole k (suc m.place.offset) n (o ∷ ms) h.1)

structs_whole : (k n : ℕ) (ss : List StructType) → AllByRecursion (IsStruct n) ss → AllByRecursion (IsWhole n) (struct_items k ss)
structs_whole k n [] h = tt
structs_whole k n (s ∷ ss) h =
    let on = between_on (suc s.place.offset) n (map offset_of_member s.members) h.0.numbers in (
      record { numbers = (omega arith, on) },
      all_joined (IsWhole n) (member_items k s.members) (struct_items (suc k) ss) (members_whole k (suc s.place.offset) n s.members h.0.numbers) (structs_whole (suc k) n ss h.1),
    )

enums_whole : (n : ℕ) (es : List EnumType) → AllByRecursion (IsEnum n) es → AllByRecursion (IsWhole n) (map AnEnum es)
enums_whole n [] h = tt
enums_whole n (e ∷ es) h = (record { numbers = h.0.numbers }, enums_whole n es h.1)

typedefs_whole : (l n : ℕ) (ds : List Declaration) → Between l (map number_of ds) n → AllByRecursion (IsWhole n) (map ATypedef ds)
typedefs_whole l n [] h = tt
typedefs_whole l n (d ∷ ds) h =
    let on = between_on (suc d.place.offset) n (map number_of ds) h.1 in
    (record { numbers = (omega arith, on) }, typedefs_whole (suc d.place.offset) n ds h.1)

globals_whole : (l n : ℕ) (ds : List Declaration) → Between l (map number_of ds) n → AllByRecursion (IsWhole n) (map AGlobal ds)
globals_whole l n [] h = tt
globals_whole l n (d ∷ ds) h =
    let on = between_on (suc d.place.offset) n (map number_of ds) h.1 in
    (record { numbers = (omega arith, on) }, globals_whole (suc d.place.offset) n ds h.1)

placed_joined : (is js : List FileItem) → FileAtOffsets is → FileAtOffsets js → FileAtOffsets (is ++ js)
placed_joined [] js h g = g
placed_joined (i ∷ is) js h g = (h.0, placed_joined is js h.1 g)

members_placed : (k : ℕ) (ms : List StructMember) → FileAtOffsets (member_items k ms)
members_placed k [] = tt
members_placed k (m ∷ []) = (tt, tt)
members_placed k (m ∷ n ∷ ms) = (tt, members_placed k (n ∷ ms))

structs_placed : (k : ℕ) (ss : List StructType) → FileAtOffsets (struct_items k ss)
structs_placed k [] = tt
structs_placed k (s ∷ ss) = (tt, placed_joined (member_items k s.members) (struct_items (suc k) ss) (members_placed k s.members) (structs_placed (suc k) ss))

enums_placed : (es : List EnumType) → FileAtOffsets (map AnEnum es)
enums_placed [] = tt
enums_placed (e ∷ es) = (tt, enums_placed es)

typedefs_placed : (ds : List Declaration) → FileAtOffsets (map ATypedef ds)
typedefs_placed [] = tt
typedefs_placed (d ∷ ds) = (tt, typedefs_placed ds)

globals_placed : (ds : List Declaration) → AllByRecursion (λ (d : Declaration). number_of d < 4294967295) ds → FileAtOffsets (map AGlobal ds)
globals_placed [] h = tt
globals_placed (d ∷ ds) h = (is_offset (number_of d) h.0, globals_placed ds h.1)

-- ---- structs, one by one

record IsStructAt (n m : ℕ) (o : Option StructType) : Type 0 where
  sorted : Sorted (items_of_struct n o)

find_struct : (n m i : ℕ) (ss : List StructType) → AllByRecursion (IsStruct m) ss → IsStructAt n m (slice_get ss i)
find_struct n m i [] h = record { sorted = tt }
find_struct n m zero (s ∷ ss) h = record { sorted = struct_sorted n m s h.0.numbers }
find_struct n m (suc i) (s ∷ ss) h = find_struct n m i ss h.1

ends_last : (n : ℕ) (o : Option StructType) → EndsLast (items_of_struct n o)
ends_last n None = tt
ends_last n (Some s) = members_end_last n s.members

all_filled : (n : ℕ) (ss : List StructType) → AllByRecursion (IsStruct n) ss → AllByRecursion HasMembers ss
all_filled n [] h = tt
all_filled n (s ∷ ss) h = (h.0.filled, all_filled n ss h.1)

-- ---- files

module _ (size : ℕ) (old : Vocabulary) where
  functions_whole : (n : ℕ) (fs : List Function) → AllByRecursion (IsFunction size old n) fs → AllByRecursion (IsWhole n) (map AFunction fs)
  functions_whole n [] h = tt
  functions_whole n (f ∷ fs) h = (record { numbers = h.0.numbers }, functions_whole n fs h.1)

  functions_placed : (n : ℕ) (fs : List Function) → n ≤ 4294967295 → AllByRecursion (IsFunction size old n) fs → FileAtOffsets (map AFunction fs)
  functions_placed n [] le h = tt
  functions_placed n (f ∷ fs) le h = (function_placed f (between_higher f.place.offset n 4294967295 (numbers_of f) le h.0.numbers) h.0.bare, functions_placed n fs le h.1)

  module _ (n : ℕ) (x : FileParts) (h : IsFile size old n x) where
    all_whole : AllByRecursion (IsWhole n) (items_of x)
    all_whole =
        all_joined (IsWhole n) (struct_items 0 x.definitions.structs) _ (structs_whole 0 n x.definitions.structs h.definitions.structs)
        (all_joined (IsWhole n) (map AnEnum x.definitions.enums) _ (enums_whole n x.definitions.enums h.definitions.enums)
        (all_joined (IsWhole n) (map ATypedef x.typedefs) _ (typedefs_whole 0 n x.typedefs h.typedefs)
        (all_joined (IsWhole n) (map AGlobal x.globals) _ (globals_whole 0 n x.globals h.globals.declares.numbers) (functions_whole n x.functions h.functions))))

    all_placed : n ≤ 4294967295 → FileAtOffsets (items_of x)
    all_placed le =
        placed_joined (struct_items 0 x.definitions.structs) _ (structs_placed 0 x.definitions.structs)
        (placed_joined (map AnEnum x.definitions.enums) _ (enums_placed x.definitions.enums)
        (placed_joined (map ATypedef x.typedefs) _ (typedefs_placed x.typedefs)
        (placed_joined (map AGlobal x.globals) _ (globals_placed x.globals (between_below 0 x.globals (between_higher 0 n 4294967295 (map number_of x.globals) le h.globals.declares.numbers))) (functions_placed n x.functions le h.functions))))

    one_struct : (k : ℕ) (o : Option StructType) → slice_get x.definitions.structs k ≡ o → struct_among k (in_order (items_of x)) ≡ items_of_struct k o
    one_struct k o at =
        struct_in_order x.definitions.structs x.definitions.enums x.typedefs x.globals x.functions k o at
        (subst (λ (s : Option StructType). Sorted (items_of_struct k s)) at (find_struct k n k x.definitions.structs h.definitions.structs).sorted)

    pub file_in_order : (names : List (List ℕ)) (texts : List StringLiteral) → n ≤ 4294967295 → InTextOrder (unit_with names texts x)
    file_in_order names texts le =
        let ss = x.definitions.structs in
        let es = x.definitions.enums in
        record {
          numbers = between_higher 0 n 4294967295 _ le (between_in_order n (items_of x) all_whole (λ o. (let e = covered_parts o x in let once = h.apart.once o in omega (arith, e, once))));
          enums = enums_in_order ss es x.typedefs x.globals x.functions n h.definitions.ascend;
          typedefs = typedefs_in_order ss es x.typedefs x.globals x.functions n h.typedefs;
          globals = globals_in_order ss es x.typedefs x.globals x.functions n h.globals.declares.numbers;
          functions = functions_in_order ss es x.typedefs x.globals x.functions n h.ascend;
          structs = λ k s at. one_struct k (Some s) at;
          members = members_in_order (in_order (items_of x)) (λ k. subst EndsLast (sym (one_struct k (slice_get ss k) refl)) (ends_last k (slice_get ss k)));
          filled = all_filled n ss h.definitions.structs;
          placed = placed_in_order (items_of x) (all_placed le);
        }
