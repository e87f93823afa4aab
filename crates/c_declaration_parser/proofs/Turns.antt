-- A turn of a repetition that fails, and none, where the kinds depend on what is read.
use Rattle.std.proofs.Common.{◌≡◌, ℕ, true, false, List, Ok, refl, ◌∙◌}
use Rattle.grammar.specs.Syntax.{Syntax, sees, many}
use Rattle.grammar.specs.Exact.{IsExact}
use Rattle.grammar.proofs.Bounds.{LoopFits, many_is}
use Rattle.c_syntax.specs.Tokens.{PlainToken}
use Rattle.c_syntax.specs.declared.fault.ReadFault.{ReadFault}
use Rattle.token_reader.specs.Reading.{Fails}
use Rattle.token_reader.proofs.Faults.{again}

module _ {A : Type 0} {K : PlainToken → ℕ} (ks : A → List ℕ) {f : A → List ℕ} {m : A → A → List ℕ} {more : A → List ℕ} (step : A → Syntax PlainToken A) (g : (x : A) → IsExact K (step x) false (f x) (m x)) (fit : LoopFits A ks f m more) where
  pub turn_to_fails : (x : A) (ts : List PlainToken) (e : ReadFault) → sees K (ks x) ts ≡ true → Fails e ((step x).parse ts) → Fails e ((many K ks step x).parse ts)
  turn_to_fails x ts e s = again e (λ d h. many_is K ks f m more fit step g x ts ∙ rw (s, h) refl)

  pub turn_to_ends : (x : A) (ts : List PlainToken) → sees K (ks x) ts ≡ false → (many K ks step x).parse ts ≡ Ok (x, ts)
  turn_to_ends x ts s = many_is K ks f m more fit step g x ts ∙ rw s refl
