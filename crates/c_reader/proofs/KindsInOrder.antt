-- The items of one kind of a file: they stand in the order of the text as they stand in their list.
use Rattle.std.proofs.Common.{◌≡◌, ℕ, zero, suc, ◌+◌, ◌<◌, ◌≤◌, Bool, true, false, nat_eq, if◌then◌else◌, List, [], ◌∷◌, ◌++◌, map, Option, Some, None, refl, sym, ap, ◌∙◌, append-nil, arith}
use Rattle.std.specs.Prelude.{slice_get}
use Rattle.std.proofs.lemmas.Bool.{eq-eqb, ne_eqb}
use Rattle.std.specs.List.{AllByRecursion}
use Rattle.c_syntax.specs.Statements.{Declaration}
use Rattle.c_syntax.specs.Programs.{StructMember, StructType, EnumType, Function}
use Rattle.c_model.specs.UnitTyping.{FileItem, StructHead, Member, AnEnum, ATypedef, AGlobal, AFunction, offset_of_item, member_items, struct_items, in_order}
use Rattle.c_model.specs.Formed.{number_of}
use Rattle.c_model.specs.ReadTree.{Between, enums_among, typedefs_among, globals_among, functions_among, struct_among}
use Rattle.c_reader.proofs.ItemOrder.{kept, kept_joined, kept_as_they_are, IsLeast, Sorted, least_lower}
use Rattle.c_reader.proofs.StructForms.{offset_of_member, offset_of_enum}
use Rattle.c_reader.proofs.FileForms.{offset_of_function}

-- ---- lists of which all items pass a test, or none

module _ (test : FileItem → Bool) where
  abbrev AllPass : List FileItem → Type 0
  AllPass is = AllByRecursion (λ i. test i ≡ true) is

  abbrev pub AllFail : List FileItem → Type 0
  AllFail is = AllByRecursion (λ i. test i ≡ false) is

  kept_all : (is : List FileItem) → AllPass is → kept test is ≡ is
  kept_all [] h = refl
  kept_all (i ∷ is) h = ap (λ b. if b then i ∷ kept test is else kept test is) h.0 ∙ ap (λ l. i ∷ l) (kept_all is h.1)

  pub kept_none : (is : List FileItem) → AllFail is → kept test is ≡ []
  kept_none [] h = refl
  kept_none (i ∷ is) h = ap (λ b. if b then i ∷ kept test is else kept test is) h.0 ∙ kept_none is h.1

  pub kept_behind : (is js : List FileItem) → AllFail is → kept test (is ++ js) ≡ kept test js
  kept_behind is js h = kept_joined test is js ∙ ap (λ l. l ++ kept test js) (kept_none is h)

  pub kept_front : (is js : List FileItem) → AllPass is → AllFail js → kept test (is ++ js) ≡ is
  kept_front is js h g = kept_joined test is js ∙ ap (λ l. l ++ kept test js) (kept_all is h) ∙ ap (λ l. is ++ l) (kept_none js g) ∙ append-nil is

  pub fail_joined : (is js : List FileItem) → AllFail is → AllFail js → AllFail (is ++ js)
  fail_joined [] js h g = g
  fail_joined (i ∷ is) js h g = (h.0, fail_joined is js h.1 g)

  module _ {A : Type 0} (C : A → FileItem) where
    pub map_pass : ((a : A) → test (C a) ≡ true) → (xs : List A) → AllPass (map C xs)
    map_pass h [] = tt
    map_pass h (x ∷ xs) = (h x, map_pass h xs)

    pub map_fail : ((a : A) → test (C a) ≡ false) → (xs : List A) → AllFail (map C xs)
    map_fail h [] = tt
    map_fail h (x ∷ xs) = (h x, map_fail h xs)

  members_fail : (k : ℕ) → ((m : StructMember) (ends : Bool) → test (Member k m ends) ≡ false) → (ms : List StructMember) → AllFail (member_items k ms)
  members_fail k h [] = tt
  members_fail k h (m ∷ []) = (h m true, tt)
  members_fail k h (m ∷ n ∷ ms) = (h m false, members_fail k h (n ∷ ms))

  members_pass : (k : ℕ) → ((m : StructMember) (ends : Bool) → test (Member k m ends) ≡ true) → (ms : List StructMember) → AllPass (member_items k ms)
  members_pass k h [] = tt
  members_pass k h (m ∷ []) = (h m true, tt)
  members_pass k h (m ∷ n ∷ ms) = (h m false, members_pass k h (n ∷ ms))

  -- the structs from the index l on
  pub structs_fail : (l : ℕ) → ((k : ℕ) (s : StructType) → l ≤ k → test (StructHead k s) ≡ false) → ((k : ℕ) (m : StructMember) (ends : Bool) → l ≤ k → test (Member k m ends) ≡ false)
      → (j : ℕ) → l ≤ j → (ss : List StructType) → AllFail (struct_items j ss)
  structs_fail l h g j le [] = tt
  structs_fail l h g j le (s ∷ ss) =
      (h j s le, fail_joined (member_items j s.members) (struct_items (suc j) ss) (members_fail j (λ m ends. g j m ends le) s.members) (structs_fail l h g (suc j) (omega (arith, le)) ss))

  pub struct_kept : (k : ℕ) (s : StructType) (rest : List FileItem) → test (StructHead k s) ≡ true → ((m : StructMember) (ends : Bool) → test (Member k m ends) ≡ true) → AllFail rest
      → kept test (StructHead k s ∷ (member_items k s.members ++ rest)) ≡ StructHead k s ∷ member_items k s.members
  struct_kept k s rest h g no_more =
      ap (λ b. if b then StructHead k s ∷ kept test (member_items k s.members ++ rest) else kept test (member_items k s.members ++ rest)) h
      ∙ ap (λ l. StructHead k s ∷ l) (kept_front (member_items k s.members) rest (members_pass k g s.members) no_more)

  pub struct_skipped : (k : ℕ) (s : StructType) (rest : List FileItem) → test (StructHead k s) ≡ false → ((m : StructMember) (ends : Bool) → test (Member k m ends) ≡ false)
      → kept test (StructHead k s ∷ (member_items k s.members ++ rest)) ≡ kept test rest
  struct_skipped k s rest h g =
      ap (λ b. if b then StructHead k s ∷ kept test (member_items k s.members ++ rest) else kept test (member_items k s.members ++ rest)) h
      ∙ kept_behind (member_items k s.members) rest (members_fail k g s.members)

-- ---- what ascends is in order

record IsSorted (l : ℕ) (is : List FileItem) : Type 0 where
  least : IsLeast l is
  sorted : Sorted is

sorted_map : {A : Type 0} (C : A → FileItem) (offset : A → ℕ) → ((a : A) → offset_of_item (C a) ≡ offset a) → (l n : ℕ) (xs : List A) → Between l (map offset xs) n → IsSorted l (map C xs)
sorted_map C offset same l n [] h = record { least = tt; sorted = tt }
sorted_map C offset same l n (a ∷ xs) h =
    let rest = sorted_map C offset same (suc (offset a)) n xs h.1 in
    let e = same a in
    record {
      least = (omega (arith, e, h.0), least_lower l (suc (offset a)) (map C xs) (omega (arith, h.0)) rest.least);
      sorted = (least_lower (offset_of_item (C a)) (suc (offset a)) (map C xs) (omega (arith, e)) rest.least, rest.sorted);
    }

sorted_members : (k l n : ℕ) (ms : List StructMember) → Between l (map offset_of_member ms) n → IsSorted l (member_items k ms)
sorted_members k l n [] h = record { least = tt; sorted = tt }
sorted_members k l n (m ∷ []) h = record { least = (h.0, tt); sorted = (tt, tt) }
sorted_members k l n (m ∷ o ∷ ms) h =
    let at = m.place.offset in
    let rest = sorted_members k (suc at) n (o ∷ ms) h.1 in
    record {
      least = (h.0, least_lower l (suc at) (member_items k (o ∷ ms)) (omega (arith, h.0)) rest.least);
      sorted = (least_lower at (suc at) (member_items k (o ∷ ms)) (omega arith) rest.least, rest.sorted);
    }

-- ---- tests of kinds

abbrev is_enum : FileItem → Bool
is_enum (AnEnum e) = true
is_enum (StructHead k s) = false
is_enum (Member k m ends) = false
is_enum (ATypedef d) = false
is_enum (AGlobal d) = false
is_enum (AFunction f) = false

abbrev is_typedef : FileItem → Bool
is_typedef (ATypedef d) = true
is_typedef (StructHead k s) = false
is_typedef (Member k m ends) = false
is_typedef (AnEnum e) = false
is_typedef (AGlobal d) = false
is_typedef (AFunction f) = false

abbrev is_global : FileItem → Bool
is_global (AGlobal d) = true
is_global (StructHead k s) = false
is_global (Member k m ends) = false
is_global (AnEnum e) = false
is_global (ATypedef d) = false
is_global (AFunction f) = false

abbrev is_function : FileItem → Bool
is_function (AFunction f) = true
is_function (StructHead k s) = false
is_function (Member k m ends) = false
is_function (AnEnum e) = false
is_function (ATypedef d) = false
is_function (AGlobal d) = false

abbrev is_of_struct : ℕ → FileItem → Bool
is_of_struct n (StructHead k s) = nat_eq n k
is_of_struct n (Member k m ends) = nat_eq n k
is_of_struct n (AnEnum e) = false
is_of_struct n (ATypedef d) = false
is_of_struct n (AGlobal d) = false
is_of_struct n (AFunction f) = false

enums_kept : (is : List FileItem) → enums_among is ≡ enums_among (kept is_enum is)
enums_kept [] = refl
enums_kept (AnEnum e ∷ is) = ap (λ l. e ∷ l) (enums_kept is)
enums_kept (StructHead k s ∷ is) = enums_kept is
enums_kept (Member k m ends ∷ is) = enums_kept is
enums_kept (ATypedef d ∷ is) = enums_kept is
enums_kept (AGlobal d ∷ is) = enums_kept is
enums_kept (AFunction f ∷ is) = enums_kept is

typedefs_kept : (is : List FileItem) → typedefs_among is ≡ typedefs_among (kept is_typedef is)
typedefs_kept [] = refl
typedefs_kept (ATypedef d ∷ is) = ap (λ l. d ∷ l) (typedefs_kept is)
typedefs_kept (StructHead k s ∷ is) = typedefs_kept is
typedefs_kept (Member k m ends ∷ is) = typedefs_kept is
typedefs_kept (AnEnum e ∷ is) = typedefs_kept is
typedefs_kept (AGlobal d ∷ is) = typedefs_kept is
typedefs_kept (AFunction f ∷ is) = typedefs_kept is

globals_kept : (is : List FileItem) → globals_among is ≡ globals_among (kept is_global is)
globals_kept [] = refl
globals_kept (AGlobal d ∷ is) = ap (λ l. d ∷ l) (globals_kept is)
globals_kept (StructHead k s ∷ is) = globals_kept is
globals_kept (Member k m ends ∷ is) = globals_kept is
globals_kept (AnEnum e ∷ is) = globals_kept is
globals_kept (ATypedef d ∷ is) = globals_kept is
globals_kept (AFunction f ∷ is) = globals_kept is

functions_kept : (is : List FileItem) → functions_among is ≡ functions_among (kept is_function is)
functions_kept [] = refl
functions_kept (AFunction f ∷ is) = ap (λ l. f ∷ l) (functions_kept is)
functions_kept (StructHead k s ∷ is) = functions_kept is
functions_kept (Member k m ends ∷ is) = functions_kept is
functions_kept (AnEnum e ∷ is) = functions_kept is
functions_kept (ATypedef d ∷ is) = functions_kept is
functions_kept (AGlobal d ∷ is) = functions_kept is

struct_is_kept : (n : ℕ) (is : List FileItem) → struct_among n is ≡ kept (is_of_struct n) is
struct_is_kept n [] = refl
struct_is_kept n (StructHead k s ∷ is) = ap (λ l. if nat_eq n k then StructHead k s ∷ l else l) (struct_is_kept n is)
struct_is_kept n (Member k m ends ∷ is) = ap (λ l. if nat_eq n k then Member k m ends ∷ l else l) (struct_is_kept n is)
struct_is_kept n (AnEnum e ∷ is) = struct_is_kept n is
struct_is_kept n (ATypedef d ∷ is) = struct_is_kept n is
struct_is_kept n (AGlobal d ∷ is) = struct_is_kept n is
struct_is_kept n (AFunction f ∷ is) = struct_is_kept n is

enums_mapped : (es : List EnumType) → enums_among (map AnEnum es) ≡ es
enums_mapped [] = refl
enums_mapped (e ∷ es) = ap (λ l. e ∷ l) (enums_mapped es)

typedefs_mapped : (ds : List Declaration) → typedefs_among (map ATypedef ds) ≡ ds
typedefs_mapped [] = refl
typedefs_mapped (d ∷ ds) = ap (λ l. d ∷ l) (typedefs_mapped ds)

globals_mapped : (ds : List Declaration) → globals_among (map AGlobal ds) ≡ ds
globals_mapped [] = refl
globals_mapped (d ∷ ds) = ap (λ l. d ∷ l) (globals_mapped ds)

functions_mapped : (fs : List Function) → functions_among (map AFunction fs) ≡ fs
functions_mapped [] = refl
functions_mapped (f ∷ fs) = ap (λ l. f ∷ l) (functions_mapped fs)

-- ---- the items of a file, list by list

module _ (ss : List StructType) (es : List EnumType) (ts gs : List Declaration) (fs : List Function) where
  abbrev pub listed : List FileItem
  listed = struct_items 0 ss ++ (map AnEnum es ++ (map ATypedef ts ++ (map AGlobal gs ++ map AFunction fs)))

  pub enums_in_order : (n : ℕ) → Between 0 (map offset_of_enum es) n → enums_among (in_order listed) ≡ es
  enums_in_order n h =
      let rest = map ATypedef ts ++ (map AGlobal gs ++ map AFunction fs) in
      let fail = fail_joined is_enum (map ATypedef ts) (map AGlobal gs ++ map AFunction fs) (map_fail is_enum ATypedef (λ d. refl) ts)
      (fail_joined is_enum (map AGlobal gs) (map AFunction fs) (map_fail is_enum AGlobal (λ d. refl) gs) (map_fail is_enum AFunction (λ f. refl) fs)) in
      let alone = kept_behind is_enum (struct_items 0 ss) (map AnEnum es ++ rest) (structs_fail is_enum 0 (λ k s le. refl) (λ k m ends le. refl) 0 (omega arith) ss)
      ∙ kept_front is_enum (map AnEnum es) rest (map_pass is_enum AnEnum (λ e. refl) es) fail in
      let sorted = (sorted_map AnEnum offset_of_enum (λ e. refl) 0 n es h).sorted in
      enums_kept (in_order listed) ∙ ap enums_among (kept_as_they_are is_enum listed (map AnEnum es) alone sorted) ∙ enums_mapped es

  pub typedefs_in_order : (n : ℕ) → Between 0 (map number_of ts) n → typedefs_among (in_order listed) ≡ ts
  typedefs_in_order n h =
      let rest = map AGlobal gs ++ map AFunction fs in
      let fail = fail_joined is_typedef (map AGlobal gs) (map AFunction fs) (map_fail is_typedef AGlobal (λ d. refl) gs) (map_fail is_typedef AFunction (λ f. refl) fs) in
      let alone = kept_behind is_typedef (struct_items 0 ss) (map AnEnum es ++ (map ATypedef ts ++ rest)) (structs_fail is_typedef 0 (λ k s le. refl) (λ k m ends le. refl) 0 (omega arith) ss)
      ∙ kept_behind is_typedef (map AnEnum es) (map ATypedef ts ++ rest) (map_fail is_typedef AnEnum (λ e. refl) es)
      ∙ kept_front is_typedef (map ATypedef ts) rest (map_pass is_typedef ATypedef (λ d. refl) ts) fail in
      let sorted = (sorted_map ATypedef number_of (λ d. refl) 0 n ts h).sorted in
      typedefs_kept (in_order listed) ∙ ap typedefs_among (kept_as_they_are is_typedef listed (map ATypedef ts) alone sorted) ∙ typedefs_mapped ts

  pub globals_in_order : (n : ℕ) → Between 0 (map number_of gs) n → globals_among (in_order listed) ≡ gs
  globals_in_order n h =
      let rest = map AFunction fs in
      let alone = kept_behind is_global (struct_items 0 ss) (map AnEnum es ++ (map ATypedef ts ++ (map AGlobal gs ++ rest))) (structs_fail is_global 0 (λ k s le. refl) (λ k m ends le. refl) 0 (omega arith) ss)
      ∙ kept_behind is_global (map AnEnum es) (map ATypedef ts ++ (map AGlobal gs ++ rest)) (map_fail is_global AnEnum (λ e. refl) es)
      ∙ kept_behind is_global (map ATypedef ts) (map AGlobal gs ++ rest) (map_fail is_global ATypedef (λ d. refl) ts)
      ∙ kept_front is_global (map AGlobal gs) rest (map_pass is_global AGlobal (λ d. refl) gs) (map_fail is_global AFunction (λ f. refl) fs) in
      let sorted = (sorted_map AGlobal number_of (λ d. refl) 0 n gs h).sorted in
      globals_kept (in_order listed) ∙ ap globals_among (kept_as_they_are is_global listed (map AGlobal gs) alone sorted) ∙ globals_mapped gs

  pub functions_in_order : (n : ℕ) → Between 0 (map offset_of_function fs) n → functions_among (in_order listed) ≡ fs
  functions_in_order n h =
      let alone = kept_behind is_function (struct_items 0 ss) (map AnEnum es ++ (map ATypedef ts ++ (map AGlobal gs ++ map AFunction fs))) (structs_fail is_function 0 (λ k s le. refl) (λ k m ends le. refl) 0 (omega arith) ss)
      ∙ kept_behind is_function (map AnEnum es) (map ATypedef ts ++ (map AGlobal gs ++ map AFunction fs)) (map_fail is_function AnEnum (λ e. refl) es)
      ∙ kept_behind is_function (map ATypedef ts) (map AGlobal gs ++ map AFunction fs) (map_fail is_function ATypedef (λ d. refl) ts)
      ∙ kept_behind is_function (map AGlobal gs) (map AFunction fs) (map_fail is_function AGlobal (λ d. refl) gs)
      ∙ kept_all is_function (map AFunction fs) (map_pass is_function AFunction (λ f. refl) fs) in
      let sorted = (sorted_map AFunction offset_of_function (λ f. refl) 0 n fs h).sorted in
      functions_kept (in_order listed) ∙ ap functions_among (kept_as_they_are is_function listed (map AFunction fs) alone sorted) ∙ functions_mapped fs

-- ---- one struct

-- what stands of the struct with this index, where there is one
abbrev pub items_of_struct : ℕ → Option StructType → List FileItem
items_of_struct n None = []
items_of_struct n (Some s) = StructHead n s ∷ member_items n s.members

not_same : (n k : ℕ) → n < k → nat_eq n k ≡ false
not_same n k lt = ne_eqb n k (λ e. omega (arith, lt, e))

not_same_behind : (n k : ℕ) → k < n → nat_eq n k ≡ false
not_same_behind n k lt = ne_eqb n k (λ e. omega (arith, lt, e))

one_struct_kept : (k i : ℕ) (n : ℕ) (ss : List StructType) → n ≡ k + i → kept (is_of_struct n) (struct_items k ss) ≡ items_of_struct n (slice_get ss i)
one_struct_kept k i n [] e = refl
one_struct_kept k zero n (s ∷ ss) e =
    let same : n ≡ k = omega (arith, e) in
    let yes : nat_eq n k ≡ true = eq-eqb n k same in
    let behind = structs_fail (is_of_struct n) (suc n) (λ j t le. not_same n j (omega (arith, le))) (λ j m ends le. not_same n j (omega (arith, le))) (suc k) (omega (arith, same)) ss in
    struct_kept (is_of_struct n) k s (struct_items (suc k) ss) yes (λ m ends. yes) behind
    ∙ ap (λ j. StructHead j s ∷ member_items j s.members) (sym same)
one_struct_kept k (suc i) n (s ∷ ss) e =
    let other : nat_eq n k ≡ false = not_same_behind n k (omega (arith, e)) in
    struct_skipped (is_of_struct n) k s (struct_items (suc k) ss) other (λ m ends. other)
    ∙ one_struct_kept (suc k) i n ss (omega (arith, e))

module _ (ss : List StructType) (es : List EnumType) (ts gs : List Declaration) (fs : List Function) where
  pub struct_in_order : (n : ℕ) (s : Option StructType) → slice_get ss n ≡ s → Sorted (items_of_struct n s) → struct_among n (in_order (listed ss es ts gs fs)) ≡ items_of_struct n s
  struct_in_order n s at sorted =
      let test = is_of_struct n in
      let rest = map AnEnum es ++ (map ATypedef ts ++ (map AGlobal gs ++ map AFunction fs)) in
      let fail = fail_joined test (map AnEnum es) (map ATypedef ts ++ (map AGlobal gs ++ map AFunction fs)) (map_fail test AnEnum (λ e. refl) es)
      (fail_joined test (map ATypedef ts) (map AGlobal gs ++ map AFunction fs) (map_fail test ATypedef (λ d. refl) ts)
      (fail_joined test (map AGlobal gs) (map AFunction fs) (map_fail test AGlobal (λ d. refl) gs) (map_fail test AFunction (λ f. refl) fs))) in
      let alone = kept_joined test (struct_items 0 ss) rest ∙ ap (λ l. kept test (struct_items 0 ss) ++ l) (kept_none test rest fail) ∙ append-nil (kept test (struct_items 0 ss))
      ∙ one_struct_kept 0 n n ss (omega arith) ∙ ap (items_of_struct n) at in
      struct_is_kept n (in_order (listed ss es ts gs fs)) ∙ kept_as_they_are test (listed ss es ts gs fs) (items_of_struct n s) alone sorted

pub struct_sorted : (k n : ℕ) (s : StructType) → Between (suc s.place.offset) (map offset_of_member s.members) n → Sorted (StructHead k s ∷ member_items k s.members)
struct_sorted k n s h =
    let rest = sorted_members k (suc s.place.offset) n s.members h in
    (least_lower s.place.offset (suc s.place.offset) (member_items k s.members) (omega arith) rest.least, rest.sorted)
