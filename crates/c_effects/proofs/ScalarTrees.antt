-- What is done to the scalars of an object, element by element and member by member.
use Rattle.std.proofs.Common.{◌≡◌, ℕ, zero, suc, ◌+◌, ◌-◌, ◌<◌, ◌≤◌, List, [], ◌∷◌, ◌++◌, slice_get, Option, refl, sym, ap, ◌∙◌, arith}
use Rattle.c_syntax.specs.Ctypes.{PlainType, Struct}
use Rattle.c_syntax.specs.Programs.{StructType, StructMember}
use Rattle.c_syntax.specs.Layouts.{Scalar, scalar_size, in_each, in_members, members_of_struct, scalars_from}
use Rattle.mon_syntax.specs.Trees.{MonStatements, NoStatement}
use Rattle.c_effects.specs.declared.slot.Slot.{Slot}
use Rattle.c_effects.specs.declared.zeros.Row.{Row}
use Rattle.c_effects.specs.Expressions.{before}
use Rattle.c_effects.specs.Effects.{copies_at}
use Rattle.c_effects.specs.Scalars.{done_to, row_after, rows_stored, task_after}
use Rattle.c_effects.specs.Zeros.{row_stored, row_with}
use Rattle.c_effects.specs.declared.scalars.Task.{Task}
use Rattle.c_effects.specs.declared.scalars.Task.TheVariants.{Zero, Copy}
use Rattle.c_effects.proofs.Sequences.{before_assoc, before_none}

rows_behind : (s : Slot) (row : Row) (xs ys : List (ℕ × Scalar)) → rows_stored s row (xs ++ ys) ≡ before (rows_stored s row xs) (rows_stored s (row_after s row xs) ys)
rows_behind s row [] ys = refl
rows_behind s row (x ∷ xs) ys =
    let after = row_with row (s.offset + x.0) (scalar_size x.1) in
    ap (before (row_stored s row (s.offset + x.0))) (rows_behind s after xs ys) ∙ sym (before_assoc (row_stored s row (s.offset + x.0)) (rows_stored s after xs) (rows_stored s (row_after s after xs) ys))

row_behind : (s : Slot) (row : Row) (xs ys : List (ℕ × Scalar)) → row_after s row (xs ++ ys) ≡ row_after s (row_after s row xs) ys
row_behind s row [] ys = refl
row_behind s row (x ∷ xs) ys = row_behind s (row_with row (s.offset + x.0) (scalar_size x.1)) xs ys

copies_behind : (r d q e : ℕ) (xs ys : List (ℕ × Scalar)) → copies_at r d q e (xs ++ ys) ≡ before (copies_at r d q e xs) (copies_at r d q e ys)
copies_behind r d q e [] ys = refl
copies_behind r d q e (x ∷ xs) ys = ap (before (copies_at r d q e (x ∷ []))) (copies_behind r d q e xs ys)

done_behind : (t : Task) (xs ys : List (ℕ × Scalar)) → done_to t (xs ++ ys) ≡ before (done_to t xs) (done_to (task_after t xs) ys)
done_behind (Zero s row) xs ys = rows_behind s row xs ys
done_behind (Copy a b) xs ys = copies_behind a.object a.offset b.object b.offset xs ys

task_behind : (t : Task) (xs ys : List (ℕ × Scalar)) → task_after t (xs ++ ys) ≡ task_after (task_after t xs) ys
task_behind (Zero s row) xs ys = ap (Zero s) (row_behind s row xs ys)
task_behind (Copy a b) xs ys = refl

-- nothing is done to no scalar
pub done_none : (t : Task) → done_to t [] ≡ NoStatement
done_none (Zero s row) = refl
done_none (Copy a b) = refl

pub before_no_scalar : (t : Task) (a : MonStatements) → before a (done_to t []) ≡ a
before_no_scalar t a = ap (before a) (done_none t) ∙ before_none a

pub after_none : (t : Task) → task_after t [] ≡ t
after_none (Zero s row) = refl
after_none (Copy a b) = refl

-- one more element, and one more member
pub each_more : (t : Task) (at size left : ℕ) (inside : ℕ → List (ℕ × Scalar)) → 0 < left
    → done_to t (in_each at size left inside) ≡ before (done_to t (inside at)) (done_to (task_after t (inside at)) (in_each (at + size) size (left - 1) inside))
each_more t at size zero inside lt = absurd (omega arith)
each_more t at size (suc left) inside lt =
    let less : left ≡ suc left - 1 = omega arith in
    done_behind t (inside at) (in_each (at + size) size left inside) ∙ ap (λ n. before (done_to t (inside at)) (done_to (task_after t (inside at)) (in_each (at + size) size n inside))) less

pub each_after : (t : Task) (at size left : ℕ) (inside : ℕ → List (ℕ × Scalar)) → 0 < left
    → task_after t (in_each at size left inside) ≡ task_after (task_after t (inside at)) (in_each (at + size) size (left - 1) inside)
each_after t at size zero inside lt = absurd (omega arith)
each_after t at size (suc left) inside lt =
    let less : left ≡ suc left - 1 = omega arith in
    task_behind t (inside at) (in_each (at + size) size left inside) ∙ ap (λ n. task_after (task_after t (inside at)) (in_each (at + size) size n inside)) less

pub members_more : (t : Task) (offset : ℕ) (m : StructMember) (ms : List StructMember) (inside : PlainType → ℕ → List (ℕ × Scalar))
    → done_to t (in_members (m ∷ ms) offset inside) ≡ before (done_to t (inside m.ctype (offset + m.offset))) (done_to (task_after t (inside m.ctype (offset + m.offset))) (in_members ms offset inside))
members_more t offset m ms inside = done_behind t (inside m.ctype (offset + m.offset)) (in_members ms offset inside)

pub members_after : (t : Task) (offset : ℕ) (m : StructMember) (ms : List StructMember) (inside : PlainType → ℕ → List (ℕ × Scalar))
    → task_after t (in_members (m ∷ ms) offset inside) ≡ task_after (task_after t (inside m.ctype (offset + m.offset))) (in_members ms offset inside)
members_after t offset m ms inside = task_behind t (inside m.ctype (offset + m.offset)) (in_members ms offset inside)

pub no_element : (at size left : ℕ) (inside : ℕ → List (ℕ × Scalar)) → left ≤ 0 → in_each at size left inside ≡ []
no_element at size zero inside le = refl
no_element at size (suc left) inside le = absurd (omega arith)

-- a turn of a loop over elements or members: what is done in it, and the task that is left
pub task_more : {left all : Task} (t1 : Task) (xs ys : List (ℕ × Scalar)) (t : Task) → left ≡ task_after (task_after t xs) ys → t1 ≡ task_after t xs → left ≡ all → task_after t1 ys ≡ all
task_more t1 xs ys t is after kept = ap (λ u. task_after u ys) after ∙ sym is ∙ kept

-- the scalars of a struct
pub struct_scalars : (structs : List StructType) (deep n offset : ℕ) (o : Option StructType) → 0 < deep → o ≡ slice_get structs n
    → in_members (members_of_struct o) offset (scalars_from structs (deep - 1)) ≡ scalars_from structs deep (Struct n) offset
struct_scalars structs zero n offset o lt is = absurd (omega arith)
struct_scalars structs (suc deep) n offset o lt is =
    let less : suc deep - 1 ≡ deep = omega arith in
    λ i. in_members (members_of_struct (is i)) offset (scalars_from structs (less i))

-- no struct may stand in it
pub no_scalars : (structs : List StructType) (deep n offset : ℕ) → deep ≡ 0 → [] ≡ scalars_from structs deep (Struct n) offset
no_scalars structs zero n offset e = refl
no_scalars structs (suc deep) n offset e = absurd (omega arith)
