-- Ours: the words in which a grammar is written down. No kind of a token decides here, for what is said of such a production
-- is what it reads, what begins it and where it passes a limit, and never how it is read.
use Rattle.std.specs.Prelude.{◌≡◌, Bool, cond, List, [], ◌∷◌, length, Option, Some, None, Ok, Err}
use Rattle.grammar.specs.Syntax.{Syntax, none, choice, many, At, ◌>>=◌}

module _ {T A : Type 0} where
  -- G | H
  infixr 9 ◌or◌
  abbrev pub ◌or◌ : Syntax T A → Syntax T A → Syntax T A
  G or H = choice (λ _. 0) [] G H

  -- { step }, each turn with the value of those before it, of which the first is x
  abbrev pub repeated : (A → Syntax T A) → A → Syntax T A
  repeated step x = many (λ _. 0) (λ _. []) step x

-- G where the condition holds
abbrev pub only : {T A : Type 0} → Bool → Syntax T A → Syntax T A
only b G = cond b G none

-- what G reads and F doesn't
infixr 8 ◌but◌
abbrev pub ◌but◌ : {T A B : Type 0} → Syntax T A → Syntax T B → Syntax T A
G but F = record {
  reads = λ a x. G.reads a x × ((y : _) → F.reads a y → ⊥);
  begun = G.begun;
  late = G.late;
  parse = G.parse;
}

-- what f says of the first token
abbrev pub of_first : {T B : Type 0} → (T → Option B) → List T → Option B
of_first f [] = None
of_first f (t ∷ ts) = f t

-- what G reads, with what f says of its first token
abbrev pub with_first : {T A B : Type 0} → (T → Option B) → Syntax T A → Syntax T (A × B)
with_first f G = record {
  reads = λ a x. G.reads a x.0 × (of_first f a ≡ Some x.1);
  begun = G.begun;
  late = G.late;
  parse = λ ts. G.parse ts >>= λ x. elim (of_first f ts) [ Some y ↦ Ok ((x.0, y), x.1) | None ↦ Err (At (length ts)) ];
}
