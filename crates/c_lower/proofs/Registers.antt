-- Memories with one zero: the values and the registers that are 0 are those of the number 0.
use Rattle.std.proofs.Common.{◌≡◌, ◌+◌, ◌-◌, ℤ, pos, List, [], ◌∷◌, ◌++◌, length, drop, Option, Some, None, Bool, true, false, refl, sym, ap, ◌∙◌, arith, length-append}
use Rattle.std.specs.Prelude.{replicate, ◌&&◌, if◌then◌else◌}
use Rattle.std.specs.Ordering.{int_eq}
use Rattle.std.proofs.lemmas.Bool.Decides.{Decides-int_eq}
use Rattle.std.proofs.lemmas.List.{drop-replicate}
use Rattle.mon_syntax.specs.declared.tree.MonType.{MonType}
use Rattle.mon_syntax.specs.Arithmetic.{is_pointer}
use Rattle.mon_syntax.specs.Trees.{MonRegister, MonFunction}
use Rattle.mon_syntax.specs.Memory.{Memory}
use Rattle.mon_syntax.specs.Meaning.{constant, zeros, zero_result}
use Rattle.mon_syntax.specs.Meaning as meaning
use Rattle.c_lower.specs.declared.code.Entry.{Entry}
use Rattle.c_lower.specs.Machine.{registers}
use Rattle.c_lower.specs.Lowered.{KeepsNumbers}

module _ (M : Memory) (keeps : KeepsNumbers M) where
  pub constant_is : (t : MonType) (z : ℤ) → constant M t z ≡ M.number z
  constant_is t z = by (is_pointer t) (int_eq z (pos 0)) refl
    where
      by : (p e : Bool) → int_eq z (pos 0) ≡ e → (if p && e then M.null else M.number z) ≡ M.number z
      by true true h = keeps.zero ∙ ap M.number (sym ((Decides-int_eq z (pos 0)).0 h))
      by true false h = refl
      by false e h = refl

  pub zero_result_is : (r : Option MonType) → zero_result M r ≡ M.number (pos 0)
  zero_result_is None = refl
  zero_result_is (Some t) = constant_is t (pos 0)

  zeros_are : (rs : List MonRegister) → zeros M rs ≡ replicate (length rs) (M.number (pos 0))
  zeros_are [] = refl
  zeros_are (r ∷ rs) = (λ i. constant_is r.kind (pos 0) i ∷ zeros_are rs i)

  -- the registers of a call, by their count
  pub registers_are : (f : MonFunction) (e : Entry) (args : List M.Val) → e.registers ≡ length f.parameters + length f.registers
      → registers (M.number (pos 0)) e.registers args ≡ meaning.registers M (f.parameters ++ f.registers) args
  registers_are f e args er =
      let rs = f.parameters ++ f.registers in
      let n : e.registers ≡ length rs = omega (arith, er, length-append f.parameters f.registers) in
      ap (λ k. args ++ replicate (k - length args) (M.number (pos 0))) n
      ∙ ap (λ l. args ++ l) (sym (ap (drop (length args)) (zeros_are rs) ∙ drop-replicate (length args) (length rs) (M.number (pos 0))))
