-- Writing over one instruction of code that grows at its front.
use Rattle.std.proofs.Common.{◌≡◌, ℕ, List, [], ◌∷◌, ◌++◌, length, reverse, sym, ap, ◌∙◌, append_assoc}
use Rattle.std.specs.Prelude.{slice_set}
use Rattle.std.proofs.Math.Seq.{set-append_seam}
use Rattle.std.proofs.lemmas.List.{reverse-reverse, reverse-append, length-reverse}
use Rattle.c_lower.specs.declared.code.Instr.{Instr}

turned : (a b : List Instr) (x : Instr) → reverse (a ++ x ∷ b) ≡ reverse b ++ x ∷ reverse a
turned a b x =
    reverse-append a (x ∷ b)
    ∙ ap (λ l. l ++ reverse a) (reverse-append (x ∷ []) b)
    ∙ append_assoc (reverse b) (x ∷ []) (reverse a)

pub patched : (items front back : List Instr) (x i : Instr) (n : ℕ) → reverse items ≡ front ++ x ∷ back → n ≡ length back
    → reverse (slice_set items n i) ≡ front ++ i ∷ back
patched items front back x i n e m =
    let was : items ≡ reverse back ++ x ∷ reverse front = sym (reverse-reverse items) ∙ ap reverse e ∙ turned front back x in
    let at : n ≡ length (reverse back) = m ∙ sym (length-reverse back) in
    ap (λ l. reverse (slice_set l n i)) was
    ∙ ap (λ k. reverse (slice_set (reverse back ++ x ∷ reverse front) k i)) at
    ∙ ap reverse (set-append_seam (reverse back) x (reverse front) i)
    ∙ turned (reverse back) (reverse front) i
    ∙ ap (λ l. l ++ i ∷ reverse (reverse back)) (reverse-reverse front)
    ∙ ap (λ l. front ++ i ∷ l) (reverse-reverse back)
