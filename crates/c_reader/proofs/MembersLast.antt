-- No member of a struct stands behind its last one, where the items of each struct stand in order.
use Rattle.std.proofs.Common.{◌≡◌, ℕ, Bool, true, false, ◌||◌, nat_eq, if◌then◌else◌, List, [], ◌∷◌, refl, sym, ap, subst, ◌∙◌}
use Rattle.std.proofs.lemmas.Bool.{eq-eqb}
use Rattle.c_syntax.specs.Programs.{StructMember, StructType}
use Rattle.c_model.specs.ExpressionTyping.{is_among}
use Rattle.c_model.specs.UnitTyping.{FileItem, StructHead, Member, AnEnum, ATypedef, AGlobal, AFunction, member_items}
use Rattle.c_model.specs.PlacedTrees.{MembersInOrder}
use Rattle.c_model.specs.ReadTree.{struct_among}

-- nothing stands behind the last member
abbrev pub EndsLast : List FileItem → Type 0
EndsLast [] = Unit {0}
EndsLast (Member k m true ∷ is) = is ≡ []
EndsLast (Member k m false ∷ is) = EndsLast is
EndsLast (StructHead k s ∷ is) = EndsLast is
EndsLast (AnEnum e ∷ is) = EndsLast is
EndsLast (ATypedef d ∷ is) = EndsLast is
EndsLast (AGlobal d ∷ is) = EndsLast is
EndsLast (AFunction f ∷ is) = EndsLast is

pub members_end_last : (k : ℕ) (ms : List StructMember) → EndsLast (member_items k ms)
members_end_last k [] = tt
members_end_last k (m ∷ []) = refl
members_end_last k (m ∷ n ∷ ms) = members_end_last k (n ∷ ms)

-- of each struct: what stands behind, and whether its last member stood before
record IsSplit (ended : List ℕ) (is : List FileItem) : Type 0 where
  none_left : (n : ℕ) → is_among n ended ≡ true → struct_among n is ≡ []
  last : (n : ℕ) → EndsLast (struct_among n is)

some_are : (i : FileItem) (is : List FileItem) → i ∷ is ≡ [] → ⊥
some_are i is e = cc

-- the items of a struct after one of them
behind_item : (n k : ℕ) (i : FileItem) (is : List FileItem) → (if nat_eq n k then i ∷ is else is) ≡ [] → is ≡ []
behind_item n k i is e = by (nat_eq n k) e
  where
    by : (b : Bool) → (if b then i ∷ is else is) ≡ [] → is ≡ []
    by true h = absurd (some_are i is h)
    by false h = h

last_behind : (n k : ℕ) (i : FileItem) (is : List FileItem) → (EndsLast (i ∷ is) → EndsLast is) → EndsLast (if nat_eq n k then i ∷ is else is) → EndsLast is
last_behind n k i is h e = by (nat_eq n k) e
  where
    by : (b : Bool) → EndsLast (if b then i ∷ is else is) → EndsLast is
    by true g = h g
    by false g = g

last_of_end : (k : ℕ) (m : StructMember) (is : List FileItem) → EndsLast (Member k m true ∷ is) → EndsLast is
last_of_end k m is h = subst EndsLast (sym h) tt

not_among : (k : ℕ) (ended : List ℕ) (m : StructMember) (ends : Bool) (is : List FileItem) → IsSplit ended (Member k m ends ∷ is) → is_among k ended ≡ false
not_among k ended m ends is h = by (is_among k ended) refl
  where
    by : (b : Bool) → is_among k ended ≡ b → is_among k ended ≡ false
    by true e =
        let same = ap (λ b. if b then Member k m ends ∷ struct_among k is else struct_among k is) (eq-eqb k k refl) in
        absurd (some_are (Member k m ends) (struct_among k is) (sym same ∙ h.none_left k e))
    by false e = e

split_behind : (ended : List ℕ) (k : ℕ) (m : StructMember) (is : List FileItem) → IsSplit ended (Member k m false ∷ is) → IsSplit ended is
split_behind ended k m is h = record {
  none_left = λ n e. behind_item n k (Member k m false) (struct_among n is) (h.none_left n e);
  last = λ n. last_behind n k (Member k m false) (struct_among n is) (λ g. g) (h.last n);
}

split_at_end : (ended : List ℕ) (k : ℕ) (m : StructMember) (is : List FileItem) → IsSplit ended (Member k m true ∷ is) → IsSplit (k ∷ ended) is
split_at_end ended k m is h = record {
  none_left = λ n e. (by n (nat_eq n k) refl e);
  last = λ n. last_behind n k (Member k m true) (struct_among n is) (last_of_end k m (struct_among n is)) (h.last n);
}
  where
    by : (n : ℕ) (b : Bool) → nat_eq n k ≡ b → is_among n (k ∷ ended) ≡ true → struct_among n is ≡ []
    by n true same e = subst EndsLast (ap (λ b. if b then Member k m true ∷ struct_among n is else struct_among n is) same) (h.last n)
    by n false other e = behind_item n k (Member k m true) (struct_among n is) (h.none_left n (subst (λ b. (b || is_among n ended) ≡ true) other e))

split_head : (ended : List ℕ) (k : ℕ) (s : StructType) (is : List FileItem) → IsSplit ended (StructHead k s ∷ is) → IsSplit ended is
split_head ended k s is h = record {
  none_left = λ n e. behind_item n k (StructHead k s) (struct_among n is) (h.none_left n e);
  last = λ n. last_behind n k (StructHead k s) (struct_among n is) (λ g. g) (h.last n);
}

members_in_order_from : (ended : List ℕ) (is : List FileItem) → IsSplit ended is → MembersInOrder ended is
members_in_order_from ended [] h = tt
members_in_order_from ended (Member k m true ∷ is) h = (not_among k ended m true is h, members_in_order_from (k ∷ ended) is (split_at_end ended k m is h))
members_in_order_from ended (Member k m false ∷ is) h = (not_among k ended m false is h, members_in_order_from ended is (split_behind ended k m is h))
members_in_order_from ended (StructHead k s ∷ is) h = members_in_order_from ended is (split_head ended k s is h)
members_in_order_from ended (AnEnum e ∷ is) h = members_in_order_from ended is (record { none_left = h.none_left; last = h.last })
members_in_order_from ended (ATypedef d ∷ is) h = members_in_order_from ended is (record { none_left = h.none_left; last = h.last })
members_in_order_from ended (AGlobal d ∷ is) h = members_in_order_from ended is (record { none_left = h.none_left; last = h.last })
members_in_order_from ended (AFunction f ∷ is) h = members_in_order_from ended is (record { none_left = h.none_left; last = h.last })

pub members_in_order : (is : List FileItem) → ((n : ℕ) → EndsLast (struct_among n is)) → MembersInOrder [] is
members_in_order is h = members_in_order_from [] is (record { none_left = λ n e. absurd cc; last = h })
