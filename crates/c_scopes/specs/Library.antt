-- The functions are those of C99 7.19.6.3, 7.19.7.6, 7.19.7.9, 7.20.3 and 7.20.4.3; the plain forms are ours.
-- Tables of names, by their bytes, and the functions of the library that are built.
use Rattle.std.specs.Prelude.{ℕ, ℤ, List, [], ◌∷◌, map}
use Rattle.std.specs.Borrow.{Bor}
use Rattle.c_syntax.specs.declared.types.CInt.{CInt}
use Rattle.c_syntax.specs.declared.types.CInt.TheVariants.{I8, U64}
use Rattle.c_syntax.specs.Ctypes.{Int, Ptr, Void, int_type}
use Rattle.c_model.specs.Library.{Constants}
use Rattle.c_model.specs.ExpressionTyping.{Signature, of_library}
use Rattle.c_scopes.specs.declared.library.LibraryFunction.{LibraryFunction}
use Rattle.c_scopes.specs.declared.library.LibraryFunction.TheVariants.{Putchar, Getchar, Exit, Malloc, Calloc, Free, Printf}

abbrev pub plain_constants : List (Bor (List ℕ) × (CInt × ℤ)) → Constants
plain_constants table = map (λ x. (x.0.now, x.1)) table

abbrev pub plain_bytes : List (Bor (List ℕ)) → List (List ℕ)
plain_bytes list = map (λ x. x.now) list

-- what a built function tells its callers, by its name
abbrev pub signature_of : ℕ → LibraryFunction → Signature
signature_of x Putchar = of_library x (int_type ∷ []) int_type
signature_of x Getchar = of_library x [] int_type
signature_of x Exit = of_library x (int_type ∷ []) Void
signature_of x Malloc = of_library x (Int U64 ∷ []) (Ptr Void)
signature_of x Calloc = of_library x (Int U64 ∷ Int U64 ∷ []) (Ptr Void)
signature_of x Free = of_library x (Ptr Void ∷ []) Void
signature_of x Printf = of_library x (Ptr (Int I8) ∷ []) Void
