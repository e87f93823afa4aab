-- The functions of the library, by their names.
use Rattle.std.proofs.Common.{◌≡◌, ℕ, Bool, true, false, if◌then◌else◌, List, [], ◌∷◌, Option, Some, None, refl, sym, ap, subst}
use Rattle.std.proofs.lemmas.Slice.Eq.{bytes_eq-Decides}
use Rattle.std.specs.Prelude.{slice_get, bytes_eq, codes}
use Rattle.c_syntax.specs.declared.types.CInt.TheVariants.{I8, U64}
use Rattle.c_syntax.specs.Ctypes.{Void, Int, Ptr, int_type}
use Rattle.c_model.specs.ExpressionTyping.{Signature, name_at, library_function, of_library}

-- a function of the library: its name, and its signature where it is called by the name x
pub data IsLibrary (x : ℕ) (w : List ℕ) (g : Signature) : Type 0 where
  IsPutChar : w ≡ codes "putchar" → g ≡ of_library x (int_type ∷ []) int_type → IsLibrary x w g
  IsGetChar : w ≡ codes "getchar" → g ≡ of_library x [] int_type → IsLibrary x w g
  IsExit : w ≡ codes "exit" → g ≡ of_library x (int_type ∷ []) Void → IsLibrary x w g
  IsMalloc : w ≡ codes "malloc" → g ≡ of_library x (Int U64 ∷ []) (Ptr Void) → IsLibrary x w g
  IsCalloc : w ≡ codes "calloc" → g ≡ of_library x (Int U64 ∷ Int U64 ∷ []) (Ptr Void) → IsLibrary x w g
  IsFree : w ≡ codes "free" → g ≡ of_library x (Ptr Void ∷ []) Void → IsLibrary x w g
  IsPrintf : w ≡ codes "printf" → g ≡ of_library x (Ptr (Int I8) ∷ []) Void → IsLibrary x w g

-- the function with the first of the names, or one of the others
first_or : (x : ℕ) (w n : List ℕ) (g h : Signature) (others : Option Signature) → (w ≡ n → g ≡ h → IsLibrary x w g) → (others ≡ Some g → IsLibrary x w g) → (if bytes_eq w n then Some h else others) ≡ Some g → IsLibrary x w g
first_or x w n g h others is rest e = by (bytes_eq w n) refl e
  where
    by : (b : Bool) → bytes_eq w n ≡ b → (if b then Some h else others) ≡ Some g → IsLibrary x w g
    by true named f = let same : h ≡ g = cc in is ((bytes_eq-Decides w n).0 named) (sym same)
    by false named f = rest f

pub library_is : (x : ℕ) (w : List ℕ) (g : Signature) → library_function x w ≡ Some g → IsLibrary x w g
library_is x w g =
    first_or x w (codes "putchar") g _ _ IsPutChar (
    first_or x w (codes "getchar") g _ _ IsGetChar (
    first_or x w (codes "exit") g _ _ IsExit (
    first_or x w (codes "malloc") g _ _ IsMalloc (
    first_or x w (codes "calloc") g _ _ IsCalloc (
    first_or x w (codes "free") g _ _ IsFree (
    first_or x w (codes "printf") g _ _ IsPrintf (λ e. absurd cc)))))))

-- a name that is not empty stands in the table
pub name_there : (names : List (List ℕ)) (x : ℕ) (w : List ℕ) → bytes_eq w [] ≡ false → name_at names x ≡ w → slice_get names x ≡ Some w
name_there names x w some e = by (slice_get names x) e
  where
    by : (o : Option (List ℕ)) → elim o as (λ _. List ℕ) [ None ↦ [] | Some y ↦ y ] ≡ w → o ≡ Some w
    by None f = absurd (empty f)
      where
        empty : [] ≡ w → ⊥
        empty f = let no : bytes_eq w [] ≡ true = subst (λ y. bytes_eq y [] ≡ true) f refl in absurd cc
    by (Some y) f = ap Some f
