-- The items of a file in the order of the text: things that are apart stay whole there, and those of one kind keep their order.
use Rattle.std.proofs.Common.{◌≡◌, ℕ, suc, ◌+◌, ◌<◌, ◌≤◌, Bool, true, false, if◌then◌else◌, ltb, List, [], ◌∷◌, ◌++◌, map, refl, sym, ap, subst, ◌∙◌, arith}
use Rattle.std.specs.Prelude.{nat_lt}
use Rattle.std.proofs.lemmas.Bool.{ltb-true, ltb-false}
use Rattle.std.specs.List.{AllByRecursion}
use Rattle.c_model.specs.UnitTyping.{FileItem, StructHead, Member, AnEnum, ATypedef, AGlobal, AFunction, offset_of_item, inserted, in_order}
use Rattle.c_model.specs.PlacedTrees.{FileItemAtOffsets, FileAtOffsets}
use Rattle.c_model.specs.Formed.{number_of, declared_in_body}
use Rattle.c_model.specs.ReadTree.{Between, offset_of_constant, numbers_of_item, numbers_of_items}
use Rattle.c_reader.proofs.PlacedReadings.{between_lower, between_higher, between_joined}
use Rattle.c_reader.proofs.Covers.{held, held_within}

-- ---- the numbers of an item

-- the offset after the last of the numbers
abbrev pub behind_numbers : ℕ → List ℕ → ℕ
behind_numbers l [] = l
behind_numbers l (n ∷ ns) = behind_numbers (suc n) ns

pub behind_between : (l n : ℕ) (ns : List ℕ) → Between l ns n → Between l ns (behind_numbers l ns) × (behind_numbers l ns ≤ n)
behind_between l n [] h = (omega arith, h)
behind_between l n (i ∷ ns) h = let rest = behind_between (suc i) n ns h.1 in ((h.0, rest.0), rest.1)

pub between_on : (l n : ℕ) (ns : List ℕ) → Between l ns n → l ≤ n
between_on l n [] h = h
between_on l n (i ∷ ns) h = let le = between_on (suc i) n ns h.1 in omega (arith, h.0, le)

-- the offset after an item
abbrev pub end_of_item : FileItem → ℕ
end_of_item i = behind_numbers (offset_of_item i) (numbers_of_item i)

-- an item whose numbers ascend, before the offset n
pub record IsWhole (n : ℕ) (i : FileItem) : Type 0 where
  pub numbers : Between (offset_of_item i) (numbers_of_item i) n

first_number : (l m n : ℕ) (i : FileItem) (ns : List ℕ) → Between l (numbers_of_item i ++ ns) n → (l ≤ offset_of_item i) × (m ≤ offset_of_item i → Between m (numbers_of_item i ++ ns) n)
first_number l m n (StructHead k s) ns h = (h.0, λ le. (le, h.1))
first_number l m n (Member k x ends) ns h = (h.0, λ le. (le, h.1))
first_number l m n (AnEnum e) ns h = (h.0, λ le. (le, h.1))
first_number l m n (ATypedef d) ns h = (h.0, λ le. (le, h.1))
first_number l m n (AGlobal d) ns h = (h.0, λ le. (le, h.1))
first_number l m n (AFunction f) ns h = (h.0, λ le. (le, h.1))

is_some : (i : FileItem) (n : ℕ) → Between (offset_of_item i) (numbers_of_item i) n → offset_of_item i < n
is_some (StructHead k s) n h = omega (arith, h.1)
is_some (Member k x ends) n h = omega (arith, h.1)
is_some (AnEnum e) n h = let le = between_on (suc e.place.offset) n (map offset_of_constant e.items) h.1 in omega (arith, le)
is_some (ATypedef d) n h = omega (arith, h.1)
is_some (AGlobal d) n h = omega (arith, h.1)
is_some (AFunction f) n h = let le = between_on (suc f.place.offset) n (map number_of (f.params ++ declared_in_body f.body)) h.1 in omega (arith, le)

-- the numbers of two lists, one after the other
record ArePlacedApart (l : ℕ) (ns ms : List ℕ) (n : ℕ) : Type 0 where
  front : Between l ns (behind_numbers l ns)
  back : Between (behind_numbers l ns) ms n

in_parts : (l n : ℕ) (ns ms : List ℕ) → Between l (ns ++ ms) n → ArePlacedApart l ns ms n
in_parts l n [] ms h = record { front = omega arith; back = h }
in_parts l n (i ∷ ns) ms h = let rest = in_parts (suc i) n ns ms h.1 in record { front = (h.0, rest.front); back = rest.back }

-- ---- how many items stand over an offset

abbrev pub covered : ℕ → List FileItem → ℕ
covered o [] = 0
covered o (i ∷ is) = held o (offset_of_item i) (end_of_item i) + covered o is

covered_inserted : (o : ℕ) (i : FileItem) (is : List FileItem) → covered o (inserted i is) ≡ held o (offset_of_item i) (end_of_item i) + covered o is
covered_inserted o i [] = refl
covered_inserted o i (j ∷ is) = by (nat_lt (offset_of_item j) (offset_of_item i)) (covered_inserted o i is)
  where
    by : (b : Bool) → covered o (inserted i is) ≡ held o (offset_of_item i) (end_of_item i) + covered o is
        → covered o (if b then j ∷ inserted i is else i ∷ j ∷ is) ≡ held o (offset_of_item i) (end_of_item i) + (held o (offset_of_item j) (end_of_item j) + covered o is)
    by true e = omega (arith, e)
    by false e = refl

covered_in_order : (o : ℕ) (is : List FileItem) → covered o (in_order is) ≡ covered o is
covered_in_order o [] = refl
covered_in_order o (i ∷ is) = covered_inserted o i (in_order is) ∙ ap (λ n. held o (offset_of_item i) (end_of_item i) + n) (covered_in_order o is)

-- of two items that are apart, the one that begins first ends first
ends_before : (i j : FileItem) (n : ℕ) (is : List FileItem) → IsWhole n i → IsWhole n j → ((o : ℕ) → held o (offset_of_item i) (end_of_item i) + (held o (offset_of_item j) (end_of_item j) + covered o is) ≤ 1) → offset_of_item i ≤ offset_of_item j
    → end_of_item i ≤ offset_of_item j
ends_before i j n is hi hj once le = by (ltb (offset_of_item j) (end_of_item i)) refl
  where
    by : (b : Bool) → ltb (offset_of_item j) (end_of_item i) ≡ b → end_of_item i ≤ offset_of_item j
    by false e = ltb-false (offset_of_item j) (end_of_item i) e
    by true e =
        let lt = ltb-true (offset_of_item j) (end_of_item i) e in
        let a = held_within (offset_of_item j) (offset_of_item i) (end_of_item i) le lt in
        let some = is_some j (end_of_item j) (behind_between (offset_of_item j) n (numbers_of_item j) hj.numbers).0 in
        let b = held_within (offset_of_item j) (offset_of_item j) (end_of_item j) (omega arith) some in
        let most = once (offset_of_item j) in
        absurd (omega (arith, a, b, most))

-- ---- numbers of items in order

whole_first : (l n : ℕ) (i : FileItem) (is : List FileItem) → Between l (numbers_of_items (i ∷ is)) n → IsWhole n i
whole_first l n i is h =
    let p = in_parts l n (numbers_of_item i) (numbers_of_items is) h in
    let le = between_on (behind_numbers l (numbers_of_item i)) n (numbers_of_items is) p.back in
    record { numbers = by i (between_higher l (behind_numbers l (numbers_of_item i)) n (numbers_of_item i) le p.front) }
  where
    by : (j : FileItem) → Between l (numbers_of_item j) n → Between (offset_of_item j) (numbers_of_item j) n
    by (StructHead k s) g = (omega arith, g.1)
    by (Member k x ends) g = (omega arith, g.1)
    by (AnEnum e) g = (omega arith, g.1)
    by (ATypedef d) g = (omega arith, g.1)
    by (AGlobal d) g = (omega arith, g.1)
    by (AFunction f) g = (omega arith, g.1)

-- where an item begins has no part in where it ends
same_end : (l : ℕ) (i : FileItem) → behind_numbers l (numbers_of_item i) ≡ end_of_item i
same_end l (StructHead k s) = refl
same_end l (Member k x ends) = refl
same_end l (AnEnum e) = refl
same_end l (ATypedef d) = refl
same_end l (AGlobal d) = refl
same_end l (AFunction f) = refl

between_inserted : (l n : ℕ) (i : FileItem) (is : List FileItem) → l ≤ offset_of_item i → IsWhole n i → ((o : ℕ) → held o (offset_of_item i) (end_of_item i) + covered o is ≤ 1) → Between l (numbers_of_items is) n
    → Between l (numbers_of_items (inserted i is)) n
between_inserted l n i [] le whole once h =
    let p = behind_between (offset_of_item i) n (numbers_of_item i) whole.numbers in
    between_joined l (end_of_item i) n (numbers_of_item i) [] (between_lower l (offset_of_item i) (numbers_of_item i) (end_of_item i) le p.0) p.1
between_inserted l n i (j ∷ is) le whole once h = by (λ m lm back. between_inserted m n i is lm whole (λ o. (let x = once o in omega (arith, x))) back) (nat_lt (offset_of_item j) (offset_of_item i)) refl
  where
    other : IsWhole n j
    other = whole_first l n j is h

    by : ((m : ℕ) → m ≤ offset_of_item i → Between m (numbers_of_items is) n → Between m (numbers_of_items (inserted i is)) n)
        → (b : Bool) → nat_lt (offset_of_item j) (offset_of_item i) ≡ b → Between l (numbers_of_items (if b then j ∷ inserted i is else i ∷ j ∷ is)) n
    by rest true e =
        let lt = ltb-true (offset_of_item j) (offset_of_item i) e in
        let p = in_parts l n (numbers_of_item j) (numbers_of_items is) h in
        let apart = ends_before j i n is other whole (λ o. (let x = once o in omega (arith, x))) (omega (arith, lt)) in
        let end : behind_numbers l (numbers_of_item j) ≤ offset_of_item i = subst (λ m. m ≤ offset_of_item i) (sym (same_end l j)) apart in
        between_joined l (behind_numbers l (numbers_of_item j)) n (numbers_of_item j) (numbers_of_items (inserted i is)) p.front
        (rest (behind_numbers l (numbers_of_item j)) end p.back)
    by rest false e =
        let ge = ltb-false (offset_of_item j) (offset_of_item i) e in
        let p = behind_between (offset_of_item i) n (numbers_of_item i) whole.numbers in
        let apart = ends_before i j n is whole other once ge in
        between_joined l (end_of_item i) n (numbers_of_item i) (numbers_of_items (j ∷ is)) (between_lower l (offset_of_item i) (numbers_of_item i) (end_of_item i) le p.0)
        ((first_number l (end_of_item i) n j (numbers_of_items is) h).1 apart)

pub between_in_order : (n : ℕ) (is : List FileItem) → AllByRecursion (IsWhole n) is → ((o : ℕ) → covered o is ≤ 1) → Between 0 (numbers_of_items (in_order is)) n
between_in_order n [] whole once = omega arith
between_in_order n (i ∷ is) whole once =
    between_inserted 0 n i (in_order is) (omega arith) whole.0 (λ o. (let e = covered_in_order o is in let x = once o in omega (arith, e, x)))
    (between_in_order n is whole.1 (λ o. (let x = once o in omega (arith, x))))

-- ---- what is true of each item

placed_inserted : (i : FileItem) (is : List FileItem) → FileItemAtOffsets i → FileAtOffsets is → FileAtOffsets (inserted i is)
placed_inserted i [] p h = (p, tt)
placed_inserted i (j ∷ is) p h = by (placed_inserted i is p h.1) (nat_lt (offset_of_item j) (offset_of_item i))
  where
    by : FileAtOffsets (inserted i is) → (b : Bool) → FileAtOffsets (if b then j ∷ inserted i is else i ∷ j ∷ is)
    by rest true = (h.0, rest)
    by rest false = (p, (h.0, h.1))

pub placed_in_order : (is : List FileItem) → FileAtOffsets is → FileAtOffsets (in_order is)
placed_in_order [] h = tt
placed_in_order (i ∷ is) h = placed_inserted i (in_order is) h.0 (placed_in_order is h.1)

-- ---- items of one kind

abbrev pub kept : (FileItem → Bool) → List FileItem → List FileItem
kept test [] = []
kept test (i ∷ is) = if test i then i ∷ kept test is else kept test is

abbrev pub IsLeast : ℕ → List FileItem → Type 0
IsLeast m is = AllByRecursion (λ i. m ≤ offset_of_item i) is

abbrev pub Sorted : List FileItem → Type 0
Sorted [] = Unit {0}
Sorted (i ∷ is) = IsLeast (offset_of_item i) is × Sorted is

pub least_lower : (m k : ℕ) (is : List FileItem) → m ≤ k → IsLeast k is → IsLeast m is
least_lower m k [] le h = tt
least_lower m k (i ∷ is) le h = (omega (arith, le, h.0), least_lower m k is le h.1)

least_inserted : (m : ℕ) (i : FileItem) (is : List FileItem) → m ≤ offset_of_item i → IsLeast m is → IsLeast m (inserted i is)
least_inserted m i [] le h = (le, tt)
least_inserted m i (j ∷ is) le h = by (least_inserted m i is le h.1) (nat_lt (offset_of_item j) (offset_of_item i))
  where
    by : IsLeast m (inserted i is) → (b : Bool) → IsLeast m (if b then j ∷ inserted i is else i ∷ j ∷ is)
    by rest true = (h.0, rest)
    by rest false = (le, (h.0, h.1))

sorted_inserted : (i : FileItem) (is : List FileItem) → Sorted is → Sorted (inserted i is)
sorted_inserted i [] h = (tt, tt)
sorted_inserted i (j ∷ is) h = by (sorted_inserted i is h.1) (nat_lt (offset_of_item j) (offset_of_item i)) refl
  where
    by : Sorted (inserted i is) → (b : Bool) → nat_lt (offset_of_item j) (offset_of_item i) ≡ b → Sorted (if b then j ∷ inserted i is else i ∷ j ∷ is)
    by rest true e = let lt = ltb-true (offset_of_item j) (offset_of_item i) e in (least_inserted (offset_of_item j) i is (omega (arith, lt)) h.0, rest)
    by rest false e = let ge = ltb-false (offset_of_item j) (offset_of_item i) e in ((ge, least_lower (offset_of_item i) (offset_of_item j) is ge h.0), (h.0, h.1))

sorted_in_order : (is : List FileItem) → Sorted (in_order is)
sorted_in_order [] = tt
sorted_in_order (i ∷ is) = sorted_inserted i (in_order is) (sorted_in_order is)

inserted_first : (i : FileItem) (is : List FileItem) → IsLeast (offset_of_item i) is → inserted i is ≡ i ∷ is
inserted_first i [] h = refl
inserted_first i (j ∷ is) h = by (nat_lt (offset_of_item j) (offset_of_item i)) refl
  where
    by : (b : Bool) → nat_lt (offset_of_item j) (offset_of_item i) ≡ b → (if b then j ∷ inserted i is else i ∷ j ∷ is) ≡ i ∷ j ∷ is
    by true e = let lt = ltb-true (offset_of_item j) (offset_of_item i) e in absurd (omega (arith, lt, h.0))
    by false e = refl

-- what is in order stays as it is
already_in_order : (is : List FileItem) → Sorted is → in_order is ≡ is
already_in_order [] h = refl
already_in_order (i ∷ is) h = ap (inserted i) (already_in_order is h.1) ∙ inserted_first i is h.0

module _ (test : FileItem → Bool) where
  least_kept : (m : ℕ) (is : List FileItem) → IsLeast m is → IsLeast m (kept test is)
  least_kept m [] h = tt
  least_kept m (i ∷ is) h = by (least_kept m is h.1) (test i)
    where
      by : IsLeast m (kept test is) → (b : Bool) → IsLeast m (if b then i ∷ kept test is else kept test is)
      by rest true = (h.0, rest)
      by rest false = rest

  kept_other : (i : FileItem) (is : List FileItem) → test i ≡ false → kept test (inserted i is) ≡ kept test is
  kept_other i [] fails = ap (λ b. if b then i ∷ [] else []) fails
  kept_other i (j ∷ is) fails = by (kept_other i is fails) (nat_lt (offset_of_item j) (offset_of_item i))
    where
      by : kept test (inserted i is) ≡ kept test is → (b : Bool) → kept test (if b then j ∷ inserted i is else i ∷ j ∷ is) ≡ kept test (j ∷ is)
      by rest true = ap (λ (l : List FileItem). if test j then j ∷ l else l) rest
      by rest false = ap (λ b. if b then i ∷ kept test (j ∷ is) else kept test (j ∷ is)) fails

  kept_inserted : (i : FileItem) (is : List FileItem) → test i ≡ true → Sorted is → kept test (inserted i is) ≡ inserted i (kept test is)
  kept_inserted i [] passes h = ap (λ b. if b then i ∷ [] else []) passes
  kept_inserted i (j ∷ is) passes h = by (kept_inserted i is passes h.1) (nat_lt (offset_of_item j) (offset_of_item i)) refl
    where
      behind : kept test (inserted i is) ≡ inserted i (kept test is)
          → (b : Bool) → nat_lt (offset_of_item j) (offset_of_item i) ≡ true → (if b then j ∷ kept test (inserted i is) else kept test (inserted i is)) ≡ inserted i (if b then j ∷ kept test is else kept test is)
      behind rest true e = ap (λ l. j ∷ l) rest ∙ sym (ap (λ c. if c then j ∷ inserted i (kept test is) else i ∷ j ∷ kept test is) e)
      behind rest false e = rest

      by : kept test (inserted i is) ≡ inserted i (kept test is) → (b : Bool) → nat_lt (offset_of_item j) (offset_of_item i) ≡ b → kept test (if b then j ∷ inserted i is else i ∷ j ∷ is) ≡ inserted i (kept test (j ∷ is))
      by rest true e = behind rest (test j) e
      by rest false e =
          let ge = ltb-false (offset_of_item j) (offset_of_item i) e in
          let least = least_kept (offset_of_item i) (j ∷ is) (ge, least_lower (offset_of_item i) (offset_of_item j) is ge h.0) in
          ap (λ b. if b then i ∷ kept test (j ∷ is) else kept test (j ∷ is)) passes ∙ sym (inserted_first i (kept test (j ∷ is)) least)

  -- those that pass a test, where all are in order
  kept_in_order : (is : List FileItem) → kept test (in_order is) ≡ in_order (kept test is)
  kept_in_order [] = refl
  kept_in_order (i ∷ is) = by (kept_in_order is) (test i) refl
    where
      by : kept test (in_order is) ≡ in_order (kept test is) → (b : Bool) → test i ≡ b → kept test (inserted i (in_order is)) ≡ in_order (if b then i ∷ kept test is else kept test is)
      by rest true e = kept_inserted i (in_order is) e (sorted_in_order is) ∙ ap (inserted i) rest
      by rest false e = kept_other i (in_order is) e ∙ rest

  pub kept_as_they_are : (is js : List FileItem) → kept test is ≡ js → Sorted js → kept test (in_order is) ≡ js
  kept_as_they_are is js same h = kept_in_order is ∙ ap in_order same ∙ already_in_order js h

  pub kept_joined : (is js : List FileItem) → kept test (is ++ js) ≡ kept test is ++ kept test js
  kept_joined [] js = refl
  kept_joined (i ∷ is) js = by (kept_joined is js) (test i)
    where
      by : kept test (is ++ js) ≡ kept test is ++ kept test js → (b : Bool) → (if b then i ∷ kept test (is ++ js) else kept test (is ++ js)) ≡ (if b then i ∷ kept test is else kept test is) ++ kept test js
      by rest true = ap (λ l. i ∷ l) rest
      by rest false = rest
