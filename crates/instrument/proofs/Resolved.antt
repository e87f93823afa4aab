-- What a call calls: a definition of the program, or a function of the library.
use Rattle.std.proofs.Common.{◌≡◌, ℕ, true, false, nat_eq, List, [], ◌∷◌, Option, Some, None, refl, sym, ap, ◌∙◌}
use Rattle.c_syntax.specs.declared.expression.Use.{Use}
use Rattle.c_syntax.specs.declared.types.CInt.TheVariants.{I8, U64}
use Rattle.c_syntax.specs.Ctypes.{PlainType, Void, Int, Ptr, int_type}
use Rattle.c_syntax.specs.Expressions.{Expressions}
use Rattle.c_syntax.specs.Programs.{Function, TranslationUnit}
use Rattle.c_model.specs.Meaning.{is_of_library, definition_at}
use Rattle.c_model.specs.ExpressionTyping.{Sight, Signature, name_at, or_else, function_called, library_function, of_library}
use Rattle.c_model.specs.UnitTyping.{types_of}
use Rattle.c_model.specs.TypedTrees.{Calls}
use Rattle.c_model.specs.AcceptedPrograms.{AreDefined}
use Rattle.c_model.proofs.TypedSoundness.{called_name, named_of_library}
use Rattle.instrument.proofs.Formats.{Asks, asks}
use Rattle.instrument.proofs.LibraryNames.{IsLibrary, IsPutChar, IsGetChar, IsExit, IsMalloc, IsCalloc, IsFree, IsPrintf, library_is}

-- the function that a call calls, by its signature: a definition, or a function of the library
pub data IsResolved (p : TranslationUnit) (f : Use) (t : PlainType) (callee : Signature) : Type 0 where
  IsFunction : (g : Function) → is_of_library f ≡ false → definition_at f.decl p.funcs ≡ Some g → g.name ≡ f.name → callee.params ≡ types_of g.params → t ≡ g.result → IsResolved p f t callee
  IsOfLibrary : is_of_library f ≡ true → library_function f.name (name_at p.names f.name) ≡ Some callee → t ≡ callee.result → IsResolved p f t callee

-- functions of the library have its number
pub library_number : (x : ℕ) (w : List ℕ) (g : Signature) → library_function x w ≡ Some g → nat_eq g.decl 4294967295 ≡ true
library_number x w g e = by (library_is x w g e)
  where
    number : (h : Signature) → nat_eq h.decl 4294967295 ≡ true → g ≡ h → nat_eq g.decl 4294967295 ≡ true
    number h is same = ap (λ (i : Signature). nat_eq i.decl 4294967295) same ∙ is

    by : IsLibrary x w g → nat_eq g.decl 4294967295 ≡ true
    by (IsPutChar named same) = number (of_library x (int_type ∷ []) int_type) refl same
    by (IsGetChar named same) = number (of_library x [] int_type) refl same
    by (IsExit named same) = number (of_library x (int_type ∷ []) Void) refl same
    by (IsMalloc named same) = number (of_library x (Int U64 ∷ []) (Ptr Void)) refl same
    by (IsCalloc named same) = number (of_library x (Int U64 ∷ Int U64 ∷ []) (Ptr Void)) refl same
    by (IsFree named same) = number (of_library x (Ptr Void ∷ []) Void) refl same
    by (IsPrintf named same) = number (of_library x (Ptr (Int I8) ∷ []) Void) refl same

-- a call is resolved where functions are in sight that are defined so
pub resolved : (p : TranslationUnit) (s : Sight) → s.names ≡ p.names → AreDefined p s.functions → (u : Use) (t : PlainType) (es : Expressions) (c : Calls s u t es) → IsResolved p u t c.callee
resolved p s names known u t es c = by (function_called u.name s.functions) refl c.found
  where
    by : (o : Option Signature) → function_called u.name s.functions ≡ o → or_else o (library_function u.name (name_at s.names u.name)) ≡ Some c.callee → IsResolved p u t c.callee
    by (Some g) e found =
        let same : g ≡ c.callee = cc in
        let d = known u.name c.callee (e ∙ ap Some same) c.defined in
        IsFunction d.function (ap (λ n. nat_eq n 4294967295) c.decl ∙ d.own) (ap (λ n. definition_at n p.funcs) c.decl ∙ d.at) d.name d.params (c.result ∙ d.result)
    by None e found =
        let here : library_function u.name (name_at p.names u.name) ≡ Some c.callee = ap (λ l. library_function u.name (name_at l u.name)) (sym names) ∙ found in
        IsOfLibrary (ap (λ n. nat_eq n 4294967295) c.decl ∙ library_number u.name (name_at p.names u.name) c.callee here) here c.result

-- what it asks for
pub resolved_asks : (p : TranslationUnit) (s : Sight) → s.names ≡ p.names → s.texts ≡ p.texts → (u : Use) (t : PlainType) (es : Expressions) (c : Calls s u t es) → Asks p (name_at p.names u.name) es c.callee.params c.params
resolved_asks p s names texts u t es c = asks p s names texts u.name c.callee (by (function_called u.name s.functions) refl c.found) es c.params c.asked
  where
    by : (o : Option Signature) → function_called u.name s.functions ≡ o → or_else o (library_function u.name (name_at s.names u.name)) ≡ Some c.callee → u.name ≡ c.callee.name
    by (Some g) e found = let same : g ≡ c.callee = cc in called_name u.name s.functions c.callee (e ∙ ap Some same)
    by None e found = (named_of_library u.name (name_at s.names u.name) c.callee found).name
