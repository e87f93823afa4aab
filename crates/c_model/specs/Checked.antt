-- Ours: no standard says which of several faults is reported.
-- The faults of a tree's parts, and the one that refuses it.
use Rattle.std.specs.Prelude.{ℕ, ◌+◌, ◌*◌, List, [], ◌∷◌, ◌++◌, Option, Some, None, Bool, true, false, cond, nat_lt}
use Rattle.c_syntax.specs.declared.place.Place.{Place}

-- a fault of a text: the number of its code, and its place
pub record Fault : Type 0 where
  pub code : ℕ
  pub place : Place

-- faults in their order: by offset, and at one offset by code, which is below 16
abbrev pub rank : Fault → ℕ
rank f = 16 * f.place.offset + f.code

abbrev pub lesser : Fault → Fault → Fault
lesser f g = cond (nat_lt (rank g) (rank f)) g f

-- the least of faults
abbrev pub least_fault : Fault → List Fault → Fault
least_fault f [] = f
least_fault f (g ∷ gs) = lesser f (least_fault g gs)

-- what a tree is checked to be, or all faults of its smallest faulty parts
pub data Checked (A : Type 0) : Type 0 where
  Good : A → Checked A
  Bad : Fault → List Fault → Checked A

abbrev pub faulty : {A : Type 0} → Fault → Checked A
faulty f = Bad f []

-- from one part: the whole is only checked where the part has no fault
abbrev pub one_part : {A B : Type 0} → Checked A → (A → Checked B) → Checked B
one_part (Good a) k = k a
one_part (Bad f fs) k = Bad f fs

-- from two parts: the faults of both, and of the whole only where neither has one
abbrev pub both_parts : {A B C : Type 0} → Checked A → Checked B → (A → B → Checked C) → Checked C
both_parts (Good a) (Good b) k = k a b
both_parts (Good a) (Bad g gs) k = Bad g gs
both_parts (Bad f fs) (Good b) k = Bad f fs
both_parts (Bad f fs) (Bad g gs) k = Bad f (fs ++ g ∷ gs)

-- two parts as one
abbrev pub pair_of : {A B : Type 0} → Checked A → Checked B → Checked (A × B)
pair_of a b = both_parts a b (λ a b. Good (a, b))

-- a demand that has to give a value
abbrev pub given : {A B : Type 0} → Option A → Fault → (A → Checked B) → Checked B
given None f k = faulty f
given (Some a) f k = k a

-- a demand that has to hold
abbrev pub where_so : {A : Type 0} → Bool → Fault → Checked A → Checked A
where_so true f c = c
where_so false f c = faulty f

-- the fault that refuses: the least of all
abbrev pub refusing : {A : Type 0} → Checked A → Option Fault
refusing (Good a) = None
refusing (Bad f fs) = Some (least_fault f fs)
