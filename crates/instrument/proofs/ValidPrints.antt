-- The statements of a call of printf are valid: its text is bytes, and each value has the type that its piece asks for.
use Rattle.std.proofs.Common.{◌≡◌, ◌≤◌, ◌<◌, max, Bool, true, false, if◌then◌else◌, List, [], ◌∷◌, map, Option, refl, sym, subst, arith}
use Rattle.std.proofs.Math.Nat.{max-le}
use Rattle.c_syntax.specs.declared.types.CInt.{CInt}
use Rattle.c_syntax.specs.Ctypes.{PlainType}
use Rattle.c_syntax.specs.Expressions.{Expressions}
use Rattle.c_syntax.specs.Programs.{TranslationUnit}
use Rattle.c_model.specs.Integers.{is_signed}
use Rattle.c_model.specs.Formats.{Piece, Bytes, Number, Character, String, types_of}
use Rattle.c_model.specs.ReadTree.{TextsAreBytes}
use Rattle.mon_syntax.specs.declared.tree.MonType.{MonType}
use Rattle.mon_syntax.specs.declared.tree.MonType.TheVariants.{I64, U64}
use Rattle.mon_syntax.specs.Trees.{MonExpression, PrintSigned, PrintUnsigned}
use Rattle.mon_syntax.specs.Valid.{Types, Labels, Signature, AreArguments, IsExpression, IsStatement, AreStatements, is_whole, open_parens}
use Rattle.c_effects.specs.Expressions.{in_type, register_type, value_type}
use Rattle.c_effects.specs.Printing.{print_call, print_number, prints}
use Rattle.instrument.proofs.Formats.{AreOfBytes, HasFormat, format_of_bytes, format_pieces_are}
use Rattle.instrument.proofs.FullParentheses.{AreShallow}
use Rattle.instrument.proofs.Parentheses.{parens_in_type}
use Rattle.instrument.proofs.Typed.{count_of_globals, in_typed, register_whole}

module _ (p : TranslationUnit) (gs : List Signature) (ts : Types) (result : Option MonType) (ls : Labels) where
  number_valid : (k : CInt) (e : MonExpression) → IsExpression (count_of_globals p) ts e (register_type k) → open_parens e < 2000 → IsStatement (count_of_globals p) gs ts result ls (print_number k e)
  number_valid k e h few = by (is_signed k)
    where
      widened : (to : MonType) → is_whole to ≡ true → IsExpression (count_of_globals p) ts (in_type (register_type k) to e) to
      widened to whole =
          let q = parens_in_type (register_type k) to e in
          let m : max 1 (open_parens e) ≤ 1999 = max-le (omega arith) (omega (arith, few)) in
          record { typed = in_typed (count_of_globals p) ts (register_type k) to e (register_whole k) whole h.typed; within = omega (arith, q, m) }

      by : (b : Bool) → IsStatement (count_of_globals p) gs ts result ls (if b then PrintSigned (in_type (register_type k) I64 e) else PrintUnsigned (in_type (register_type k) U64 e))
      by true = widened I64 refl
      by false = widened U64 refl

  prints_valid : (ps : List Piece) (args : List MonExpression) → AreOfBytes ps → AreArguments (count_of_globals p) ts args (map value_type (types_of ps)) → AreShallow args → AreStatements (count_of_globals p) gs ts result ls (prints ps args)
  prints_valid [] args b h few = tt
  prints_valid (Bytes bs ∷ ps) args b h few = (b.0, prints_valid ps args b.1 h few)
  prints_valid (Number k ∷ ps) [] b h few = absurd h
  prints_valid (Number k ∷ ps) (e ∷ args) b h few = (number_valid k e h.0 few.0, prints_valid ps args b h.1 few.1)
  prints_valid (Character ∷ ps) [] b h few = absurd h
  prints_valid (Character ∷ ps) (e ∷ args) b h few = ((tt, h.0), prints_valid ps args b h.1 few.1)
  prints_valid (String ∷ ps) [] b h few = absurd h
  prints_valid (String ∷ ps) (e ∷ args) b h few = (h.0, prints_valid ps args b h.1 few.1)

  -- a call of printf, of whose values the first is the format's address
  pub printf_valid : (es : Expressions) (params : List PlainType) (args : List MonExpression) → HasFormat p.texts es params → TextsAreBytes p.texts → AreArguments (count_of_globals p) ts args (map value_type params) → AreShallow args
      → AreStatements (count_of_globals p) gs ts result ls (print_call p es args)
  printf_valid es params [] f texts h few = absurd (subst (λ us. AreArguments (count_of_globals p) ts [] (map value_type us)) f.types h)
  printf_valid es params (e ∷ args) f texts h few =
      let given = subst (λ us. AreArguments (count_of_globals p) ts (e ∷ args) (map value_type us)) f.types h in
      subst (λ ps. AreStatements (count_of_globals p) gs ts result ls (prints ps args)) (sym (format_pieces_are p es params f))
      (prints_valid f.pieces args (format_of_bytes p es params f texts) given.1 few.1)
