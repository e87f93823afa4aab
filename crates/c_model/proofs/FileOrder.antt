-- Items of a file whose places ascend are sorted in one way alone.
use Rattle.std.proofs.Common.{◌≡◌, ℕ, suc, ◌<◌, ◌≤◌, refl, sym, ap, ◌∙◌, List, [], ◌∷◌, ◌++◌, map, Bool, true, false, if◌then◌else◌, nat_lt, append_assoc, arith}
use Rattle.std.proofs.lemmas.Bool.Decides.{nat_tests}
use Rattle.c_syntax.specs.Programs.{StructMember, StructType, TranslationUnit}
use Rattle.c_model.specs.UnitTyping.{FileItem, StructHead, Member, AnEnum, ATypedef, AGlobal, AFunction, offset_of_item, member_items, struct_items, inserted, in_order, items_of_file}
use Rattle.c_model.specs.TextOrder.{Between, numbers_of_item, numbers_of_items, enums_among, typedefs_among, globals_among, functions_among}
use Rattle.c_model.specs.TypedFileItems.{ordinary}

-- ---- items at ascending places

abbrev pub Above : ℕ → List FileItem → Type 0
Above n [] = Unit {0}
Above n (i ∷ is) = (n < offset_of_item i) × Above n is

abbrev pub Ascends : List FileItem → Type 0
Ascends [] = Unit {0}
Ascends (i ∷ is) = Above (offset_of_item i) is × Ascends is

pub record IsFurther (low : ℕ) (numbers : List ℕ) (high : ℕ) : Type 0 where
  pub from : ℕ
  pub more : low ≤ from
  pub between : Between from numbers high

pub further : (low : ℕ) (ns ms : List ℕ) (high : ℕ) → Between low (ns ++ ms) high → IsFurther low ms high
further low [] ms high b = record { from = low; more = omega arith; between = b }
further low (n ∷ ns) ms high b = let h = further (suc n) ns ms high b.1 in record { from = h.from; more = omega (arith, b.0, h.more); between = h.between }

-- the numbers of an item begin with its own
record IsFirst (low : ℕ) (i : FileItem) (numbers : List ℕ) (high : ℕ) : Type 0 where
  first : low ≤ offset_of_item i
  rest : IsFurther (suc (offset_of_item i)) numbers high

first_number : (low : ℕ) (i : FileItem) (ms : List ℕ) (high : ℕ) → Between low (numbers_of_item i ++ ms) high → IsFirst low i ms high
first_number low (StructHead k s) ms high b = record { first = b.0; rest = further (suc s.place.offset) [] ms high b.1 }
first_number low (Member k m ends) ms high b = record { first = b.0; rest = further (suc m.place.offset) [] ms high b.1 }
first_number low (AnEnum e) ms high b = record { first = b.0; rest = further (suc e.place.offset) _ ms high b.1 }
first_number low (ATypedef d) ms high b = record { first = b.0; rest = further (suc d.place.offset) [] ms high b.1 }
first_number low (AGlobal d) ms high b = record { first = b.0; rest = further (suc d.place.offset) [] ms high b.1 }
first_number low (AFunction f) ms high b = record { first = b.0; rest = further (suc f.place.offset) _ ms high b.1 }

above_all : (n low : ℕ) (is : List FileItem) (high : ℕ) → n < low → Between low (numbers_of_items is) high → Above n is
above_all n low [] high l b = tt
above_all n low (i ∷ is) high l b =
    let h = first_number low i (numbers_of_items is) high b in
    (omega (arith, l, h.first), above_all n h.rest.from is high (omega (arith, l, h.first, h.rest.more)) h.rest.between)

pub ascends : (low : ℕ) (is : List FileItem) (high : ℕ) → Between low (numbers_of_items is) high → Ascends is
ascends low [] high b = tt
ascends low (i ∷ is) high b =
    let h = first_number low i (numbers_of_items is) high b in
    (above_all (offset_of_item i) h.rest.from is high (omega (arith, h.rest.more)) h.rest.between, ascends h.rest.from is high h.rest.between)

-- ---- sorting

above_append : (n : ℕ) (is js : List FileItem) → Above n is → Above n js → Above n (is ++ js)
above_append n [] js a b = b
above_append n (i ∷ is) js a b = (a.0, above_append n is js a.1 b)

above_inserted : (n : ℕ) (i : FileItem) (is : List FileItem) → n < offset_of_item i → Above n is → Above n (inserted i is)
above_inserted n i [] l a = (l, tt)
above_inserted n i (j ∷ js) l a = by (nat_lt (offset_of_item j) (offset_of_item i)) (above_inserted n i js l a.1)
  where
    by : (b : Bool) → Above n (inserted i js) → Above n (if b then j ∷ inserted i js else i ∷ j ∷ js)
    by true h = (a.0, h)
    by false h = (l, a)

above_sorted : (n : ℕ) (is : List FileItem) → Above n is → Above n (in_order is)
above_sorted n [] a = tt
above_sorted n (i ∷ is) a = above_inserted n i (in_order is) a.0 (above_sorted n is a.1)

-- an item below the others comes first
inserted_first : (i : FileItem) (is : List FileItem) → Above (offset_of_item i) is → inserted i is ≡ i ∷ is
inserted_first i [] a = refl
inserted_first i (j ∷ js) a =
    let e : nat_lt (offset_of_item j) (offset_of_item i) ≡ false = grind (arith, nat_tests, a.0) in ap (λ b. if b then j ∷ inserted i js else i ∷ j ∷ js) e

first_out : (i : FileItem) (is js : List FileItem) → Above (offset_of_item i) is → Above (offset_of_item i) js → in_order (is ++ (i ∷ js)) ≡ i ∷ in_order (is ++ js)
first_out i [] js a b = inserted_first i (in_order js) (above_sorted (offset_of_item i) js b)
first_out i (j ∷ is) js a b =
    let e : nat_lt (offset_of_item i) (offset_of_item j) ≡ true = grind (arith, nat_tests, a.0) in
    ap (inserted j) (first_out i is js a.1 b) ∙ ap (λ c. if c then i ∷ inserted j (in_order (is ++ js)) else j ∷ i ∷ in_order (is ++ js)) e

-- ---- the items of each kind

abbrev enum_items : List FileItem → List FileItem
enum_items is = map AnEnum (enums_among is)

abbrev typedef_items : List FileItem → List FileItem
typedef_items is = map ATypedef (typedefs_among is)

abbrev global_items : List FileItem → List FileItem
global_items is = map AGlobal (globals_among is)

abbrev function_items : List FileItem → List FileItem
function_items is = map AFunction (functions_among is)

enums_above : (n : ℕ) (is : List FileItem) → Above n is → Above n (enum_items is)
enums_above n [] a = tt
enums_above n (AnEnum e ∷ is) a = (a.0, enums_above n is a.1)
enums_above n (StructHead k s ∷ is) a = enums_above n is a.1
enums_above n (Member k m ends ∷ is) a = enums_above n is a.1
enums_above n (ATypedef d ∷ is) a = enums_above n is a.1
enums_above n (AGlobal d ∷ is) a = enums_above n is a.1
enums_above n (AFunction f ∷ is) a = enums_above n is a.1

typedefs_above : (n : ℕ) (is : List FileItem) → Above n is → Above n (typedef_items is)
typedefs_above n [] a = tt
typedefs_above n (ATypedef d ∷ is) a = (a.0, typedefs_above n is a.1)
typedefs_above n (StructHead k s ∷ is) a = typedefs_above n is a.1
typedefs_above n (Member k m ends ∷ is) a = typedefs_above n is a.1
typedefs_above n (AnEnum e ∷ is) a = typedefs_above n is a.1
typedefs_above n (AGlobal d ∷ is) a = typedefs_above n is a.1
typedefs_above n (AFunction f ∷ is) a = typedefs_above n is a.1

globals_above : (n : ℕ) (is : List FileItem) → Above n is → Above n (global_items is)
globals_above n [] a = tt
globals_above n (AGlobal d ∷ is) a = (a.0, globals_above n is a.1)
globals_above n (StructHead k s ∷ is) a = globals_above n is a.1
globals_above n (Member k m ends ∷ is) a = globals_above n is a.1
globals_above n (AnEnum e ∷ is) a = globals_above n is a.1
globals_above n (ATypedef d ∷ is) a = globals_above n is a.1
globals_above n (AFunction f ∷ is) a = globals_above n is a.1

functions_above : (n : ℕ) (is : List FileItem) → Above n is → Above n (function_items is)
functions_above n [] a = tt
functions_above n (AFunction f ∷ is) a = (a.0, functions_above n is a.1)
functions_above n (StructHead k s ∷ is) a = functions_above n is a.1
functions_above n (Member k m ends ∷ is) a = functions_above n is a.1
functions_above n (AnEnum e ∷ is) a = functions_above n is a.1
functions_above n (ATypedef d ∷ is) a = functions_above n is a.1
functions_above n (AGlobal d ∷ is) a = functions_above n is a.1

abbrev gathered : List FileItem → List FileItem
gathered is = enum_items is ++ (typedef_items is ++ (global_items is ++ function_items is))

abbrev tail_gathered : List FileItem → List FileItem
tail_gathered is = global_items is ++ function_items is

tail_above : (n : ℕ) (is : List FileItem) → Above n is → Above n (tail_gathered is)
tail_above n is a = above_append n (global_items is) (function_items is) (globals_above n is a) (functions_above n is a)

-- items that ascend are what their kinds are sorted to
sorted_again : (is : List FileItem) → Ascends is → in_order (gathered is) ≡ ordinary is
sorted_again [] a = refl
sorted_again (StructHead k s ∷ is) a = sorted_again is a.1
sorted_again (Member k m ends ∷ is) a = sorted_again is a.1
sorted_again (AnEnum e ∷ is) a =
    let n = e.place.offset in
    first_out (AnEnum e) [] (gathered is) tt
    (above_append n (enum_items is) _ (enums_above n is a.0) (above_append n (typedef_items is) _ (typedefs_above n is a.0) (tail_above n is a.0)))
    ∙ ap (λ l. AnEnum e ∷ l) (sorted_again is a.1)
sorted_again (ATypedef d ∷ is) a =
    let n = d.place.offset in
    first_out (ATypedef d) (enum_items is) (typedef_items is ++ tail_gathered is) (enums_above n is a.0)
    (above_append n (typedef_items is) (tail_gathered is) (typedefs_above n is a.0) (tail_above n is a.0))
    ∙ ap (λ l. ATypedef d ∷ l) (sorted_again is a.1)
sorted_again (AGlobal d ∷ is) a =
    let n = d.place.offset in
    ap in_order (sym (append_assoc (enum_items is) (typedef_items is) (AGlobal d ∷ tail_gathered is)))
    ∙ first_out (AGlobal d) (enum_items is ++ typedef_items is) (tail_gathered is)
    (above_append n (enum_items is) (typedef_items is) (enums_above n is a.0) (typedefs_above n is a.0)) (tail_above n is a.0)
    ∙ ap (λ l. AGlobal d ∷ in_order l) (append_assoc (enum_items is) (typedef_items is) (tail_gathered is))
    ∙ ap (λ l. AGlobal d ∷ l) (sorted_again is a.1)
sorted_again (AFunction f ∷ is) a =
    let n = f.place.offset in
    ap (λ l. in_order (enum_items is ++ l)) (sym (append_assoc (typedef_items is) (global_items is) (AFunction f ∷ function_items is)))
    ∙ ap in_order (sym (append_assoc (enum_items is) (typedef_items is ++ global_items is) (AFunction f ∷ function_items is)))
    ∙ first_out (AFunction f) (enum_items is ++ (typedef_items is ++ global_items is)) (function_items is)
    (above_append n (enum_items is) (typedef_items is ++ global_items is) (enums_above n is a.0)
    (above_append n (typedef_items is) (global_items is) (typedefs_above n is a.0) (globals_above n is a.0)))
    (functions_above n is a.0)
    ∙ ap (λ l. AFunction f ∷ in_order l) (append_assoc (enum_items is) (typedef_items is ++ global_items is) (function_items is))
    ∙ ap (λ l. AFunction f ∷ in_order (enum_items is ++ l)) (append_assoc (typedef_items is) (global_items is) (function_items is))
    ∙ ap (λ l. AFunction f ∷ l) (sorted_again is a.1)

-- ---- structs are sorted among the others, and change nothing of their order

ordinary_inserted : (i : FileItem) → ordinary (i ∷ []) ≡ [] → (is : List FileItem) → ordinary (inserted i is) ≡ ordinary is
ordinary_inserted i e [] = e
ordinary_inserted i e (j ∷ js) = by (nat_lt (offset_of_item j) (offset_of_item i)) (ordinary_inserted i e js)
  where
    without : (i : FileItem) → ordinary (i ∷ []) ≡ [] → (is : List FileItem) → ordinary (i ∷ is) ≡ ordinary is
    without (StructHead k s) e is = refl
    without (Member k m ends) e is = refl
    without (AnEnum f) e is = absurd cc
    without (ATypedef d) e is = absurd cc
    without (AGlobal d) e is = absurd cc
    without (AFunction f) e is = absurd cc

    before : (j : FileItem) (is ks : List FileItem) → ordinary is ≡ ordinary ks → ordinary (j ∷ is) ≡ ordinary (j ∷ ks)
    before (StructHead k s) is ks h = h
    before (Member k m ends) is ks h = h
    before (AnEnum f) is ks h = ap (λ l. AnEnum f ∷ l) h
    before (ATypedef d) is ks h = ap (λ l. ATypedef d ∷ l) h
    before (AGlobal d) is ks h = ap (λ l. AGlobal d ∷ l) h
    before (AFunction f) is ks h = ap (λ l. AFunction f ∷ l) h

    by : (b : Bool) → ordinary (inserted i js) ≡ ordinary js → ordinary (if b then j ∷ inserted i js else i ∷ j ∷ js) ≡ ordinary (j ∷ js)
    by true h = before j (inserted i js) js h
    by false h = without i e (j ∷ js)

members_apart : (k : ℕ) (ms : List StructMember) (is : List FileItem) → ordinary (in_order (member_items k ms ++ is)) ≡ ordinary (in_order is)
members_apart k [] is = refl
members_apart k (m ∷ []) is = ordinary_inserted (Member k m true) refl (in_order is)
members_apart k (m ∷ n ∷ ms) is = ordinary_inserted (Member k m false) refl (in_order (member_items k (n ∷ ms) ++ is)) ∙ members_apart k (n ∷ ms) is

structs_apart : (k : ℕ) (ss : List StructType) (is : List FileItem) → ordinary (in_order (struct_items k ss ++ is)) ≡ ordinary (in_order is)
structs_apart k [] is = refl
structs_apart k (s ∷ ss) is =
    ordinary_inserted (StructHead k s) refl (in_order ((member_items k s.members ++ struct_items (suc k) ss) ++ is))
    ∙ ap (λ l. ordinary (in_order l)) (append_assoc (member_items k s.members) (struct_items (suc k) ss) is)
    ∙ members_apart k s.members (struct_items (suc k) ss ++ is) ∙ structs_apart (suc k) ss is

ordinary_twice : (is : List FileItem) → ordinary (ordinary is) ≡ ordinary is
ordinary_twice [] = refl
ordinary_twice (StructHead k s ∷ is) = ordinary_twice is
ordinary_twice (Member k m ends ∷ is) = ordinary_twice is
ordinary_twice (AnEnum e ∷ is) = ap (λ l. AnEnum e ∷ l) (ordinary_twice is)
ordinary_twice (ATypedef d ∷ is) = ap (λ l. ATypedef d ∷ l) (ordinary_twice is)
ordinary_twice (AGlobal d ∷ is) = ap (λ l. AGlobal d ∷ l) (ordinary_twice is)
ordinary_twice (AFunction f ∷ is) = ap (λ l. AFunction f ∷ l) (ordinary_twice is)

-- the items of a file are those that ascend and have its declarations, but for its structs
pub record HasItems (q : TranslationUnit) (is : List FileItem) : Type 0 where
  pub enums : enums_among is ≡ q.enums
  pub typedefs : typedefs_among is ≡ q.typedefs
  pub globals : globals_among is ≡ q.globals
  pub functions : functions_among is ≡ q.funcs

pub items_are : (q : TranslationUnit) (is : List FileItem) → Ascends is → HasItems q is → ordinary (items_of_file q) ≡ ordinary is
items_are q is a h =
    structs_apart 0 q.structs (map AnEnum q.enums ++ (map ATypedef q.typedefs ++ (map AGlobal q.globals ++ map AFunction q.funcs)))
    ∙ (λ i. ordinary (in_order (map AnEnum (sym h.enums i) ++ (map ATypedef (sym h.typedefs i) ++ (map AGlobal (sym h.globals i) ++ map AFunction (sym h.functions i))))))
    ∙ ap ordinary (sorted_again is a) ∙ ordinary_twice is
