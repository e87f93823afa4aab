-- The bytes of a string, one after another.
use Rattle.std.proofs.Common.{◌≡◌, ℕ, List, [], ◌∷◌, ◌++◌, Option, Some, None, refl, sym, ap, ◌∙◌, append_assoc}
use Rattle.c_model.specs.MonitoredTokens.{chars_of, in_front}

-- the bytes vs before those that are left
abbrev pub behind_chars : List ℕ → Option (List ℕ) → Option (List ℕ)
behind_chars vs None = None
behind_chars vs (Some cs) = Some (vs ++ cs)

behind_one : (vs : List ℕ) (c : ℕ) (o : Option (List ℕ)) → behind_chars (vs ++ c ∷ []) o ≡ behind_chars vs (in_front (Some c) o)
behind_one vs c None = refl
behind_one vs c (Some cs) = ap Some (append_assoc vs (c ∷ []) cs)

pub values_turn : (vs ws : List ℕ) (c : ℕ) (bs rest after : List ℕ) (total : Option (List ℕ)) → ws ≡ vs ++ c ∷ [] → chars_of bs ≡ in_front (Some c) (chars_of rest) → after ≡ rest
    → behind_chars vs (chars_of bs) ≡ total → behind_chars ws (chars_of after) ≡ total
values_turn vs ws c bs rest after total w one e so_far =
    (λ i. behind_chars (w i) (chars_of (e i))) ∙ behind_one vs c (chars_of rest) ∙ ap (behind_chars vs) (sym one) ∙ so_far
