-- The indices of globals and of string literals among those of monitored C, which stand in the order of the text (C99 6.2.4 p3, 6.4.5 p5); and ours, how
-- they are kept.
use Rattle.std.specs.Prelude.{◌≡◌, ℕ, zero, suc, ◌+◌, Bool, false, ◌||◌, if◌then◌else◌, nat_eq, is_some, List, [], ◌∷◌, ◌++◌, Option, Some, None}
use Rattle.c_syntax.specs.Statements.{Declaration}
use Rattle.c_model.specs.Formed.{number_of}
use Rattle.c_model.specs.StaticObjects.{StaticObject, OfGlobal, OfLiteral}
use Rattle.mon_syntax.specs.Indices.{index_from, with_index}

-- the index, among the globals, of the one with this number
abbrev pub global_index : ℕ → List Declaration → ℕ
global_index x [] = 0
global_index x (d ∷ ds) = if nat_eq (number_of d) x then 0 else suc (global_index x ds)

-- whether an object is the global with this number
abbrev pub is_global : ℕ → StaticObject → Bool
is_global x (OfGlobal d) = nat_eq (number_of d) x
is_global x (OfLiteral l) = false

-- the index, among globals and literals in the order of the text, of the global with this number
abbrev pub object_of_global : ℕ → List StaticObject → ℕ
object_of_global x [] = 0
object_of_global x (o ∷ os) = if is_global x o then 0 else suc (object_of_global x os)

-- how many literals stand between an object and a literal, none where it is that literal itself
abbrev pub literals_behind : ℕ → StaticObject → Option ℕ
literals_behind n (OfGlobal d) = Some n
literals_behind zero (OfLiteral l) = None
literals_behind (suc n) (OfLiteral l) = Some n

-- the index of a literal among them
abbrev pub object_of_literal : ℕ → List StaticObject → ℕ
object_of_literal n [] = 0
object_of_literal n (o ∷ os) = elim (literals_behind n o) [ None ↦ 0 | Some m ↦ suc (object_of_literal m os) ]

-- ---- how they are kept

-- whether one of these is the global with this number
abbrev pub has_global : ℕ → List StaticObject → Bool
has_global x [] = false
has_global x (o ∷ os) = is_global x o || has_global x os

-- where these indices of globals are found, and so many objects were passed, the index of each global is told by them and by the objects that are left
abbrev pub TellGlobals : (ℕ → Option ℕ) → ℕ → List StaticObject → List StaticObject → Type 0
TellGlobals found count left all = (x : ℕ) → index_from (found x) count (object_of_global x left) ≡ object_of_global x all

-- and so is whether there is such a global
abbrev pub TellWhich : (ℕ → Option ℕ) → List StaticObject → List StaticObject → Type 0
TellWhich found left all = (x : ℕ) → (is_some (found x) || has_global x left) ≡ has_global x all

-- the index of a literal, where those of the first ones are these
abbrev pub literal_from : List ℕ → ℕ → ℕ → List StaticObject → ℕ
literal_from [] count n left = count + object_of_literal n left
literal_from (i ∷ is) count zero left = i
literal_from (i ∷ is) count (suc n) left = literal_from is count n left

-- and that of each literal
abbrev pub TellLiterals : List ℕ → ℕ → List StaticObject → List StaticObject → Type 0
TellLiterals indices count left all = (n : ℕ) → literal_from indices count n left ≡ object_of_literal n all

-- one more object, which has this index: the indices of globals that are found then
abbrev pub with_object : (ℕ → Option ℕ) → StaticObject → ℕ → ℕ → Option ℕ
with_object found (OfGlobal d) index = with_index found (number_of d) index
with_object found (OfLiteral l) index = found

-- and those of literals
abbrev pub with_literal : List ℕ → StaticObject → ℕ → List ℕ
with_literal indices (OfGlobal d) index = indices
with_literal indices (OfLiteral l) index = indices ++ index ∷ []
