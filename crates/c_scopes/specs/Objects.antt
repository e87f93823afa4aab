-- Ours: how objects are found by the numbers of their declarations (C99 6.2.1).
-- The first object with such a number, and its own number among the objects and enumerators.
use Rattle.std.specs.Prelude.{◌≡◌, ℕ, suc, List, [], ◌∷◌, ◌++◌, length, nat_eq, cond, Option, Some, None, option_map}
use Rattle.std.specs.Map.{lookup}
use Rattle.c_model.specs.ExpressionTyping as plain
use Rattle.c_model.specs.ExpressionTyping.{AnObject, AnEnumerator}

abbrev pub object_in : plain.Entity → Option plain.Object
object_in (AnObject b) = Some b
object_in (AnEnumerator c) = None

abbrev pub decl_in : plain.Entity → Option ℕ
decl_in (AnObject b) = Some b.decl
decl_in (AnEnumerator c) = None

-- the first object with the number of a declaration
abbrev pub object_with : ℕ → List plain.Entity → Option plain.Object
object_with x [] = None
object_with x (AnObject b ∷ es) = cond (nat_eq b.decl x) (Some b) (object_with x es)
object_with x (AnEnumerator c ∷ es) = object_with x es

-- how many objects and enumerators stand before it
abbrev pub object_number : ℕ → List plain.Entity → Option ℕ
object_number x [] = None
object_number x (AnObject b ∷ es) = cond (nat_eq b.decl x) (Some 0) (option_map suc (object_number x es))
object_number x (AnEnumerator c ∷ es) = option_map suc (object_number x es)

-- of each declaration, the number of the first object with it
abbrev pub AreFirstObjects : List plain.Entity → List (ℕ × ℕ) → Type 0
AreFirstObjects es firsts = (x : ℕ) → lookup (nat_eq x) firsts ≡ object_number x es

-- a further one of this declaration, which has this number, was noted
abbrev pub NotesObject : List (ℕ × ℕ) → Option ℕ → ℕ → List (ℕ × ℕ) → Type 0
NotesObject firsts decl n more =
    (es : List plain.Entity) (e : plain.Entity) → decl ≡ decl_in e → n ≡ length es → AreFirstObjects es firsts → AreFirstObjects (es ++ e ∷ []) more

-- and is forgotten again
abbrev pub ForgetsObject : List (ℕ × ℕ) → Option ℕ → ℕ → List (ℕ × ℕ) → Type 0
ForgetsObject more decl n firsts =
    (es : List plain.Entity) (e : plain.Entity) → decl ≡ decl_in e → n ≡ length es → AreFirstObjects (es ++ e ∷ []) more → AreFirstObjects es firsts
