-- What holds of each function of the library holds of whichever has a name.
use Rattle.std.proofs.Common.{◌≡◌, ℕ, List, [], ◌∷◌, Option, Some, Bool, true, false, if◌then◌else◌, subst, codes, bytes_eq}
use Rattle.c_syntax.specs.declared.types.CInt.TheVariants.{I8, U64}
use Rattle.c_syntax.specs.Ctypes.{Void, Int, Ptr, int_type}
use Rattle.c_model.specs.ExpressionTyping.{Signature, of_library, library_function}

module _ (P : Signature → Type 0) (f : Signature) where
  -- the first of these, or what is in the rest
  first_or : (b : Bool) (g : Signature) (o : Option Signature) → P g → (o ≡ Some f → P f) → (if b then Some g else o) ≡ Some f → P f
  first_or true g o p rest e = let same : g ≡ f = cc in subst P same p
  first_or false g o p rest e = rest e

  pub each_of_library : (x : ℕ) (w : List ℕ) → P (of_library x (int_type ∷ []) int_type) → P (of_library x [] int_type) → P (of_library x (int_type ∷ []) Void)
      → P (of_library x (Int U64 ∷ []) (Ptr Void)) → P (of_library x (Int U64 ∷ Int U64 ∷ []) (Ptr Void)) → P (of_library x (Ptr Void ∷ []) Void) → P (of_library x (Ptr (Int I8) ∷ []) Void)
      → library_function x w ≡ Some f → P f
  each_of_library x w put got ended one_born many_born dead printed =
      first_or (bytes_eq w (codes "putchar")) _ _ put (
      first_or (bytes_eq w (codes "getchar")) _ _ got (
      first_or (bytes_eq w (codes "exit")) _ _ ended (
      first_or (bytes_eq w (codes "malloc")) _ _ one_born (
      first_or (bytes_eq w (codes "calloc")) _ _ many_born (
      first_or (bytes_eq w (codes "free")) _ _ dead (
      first_or (bytes_eq w (codes "printf")) _ _ printed (λ e. absurd cc)))))))
