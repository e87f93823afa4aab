-- An expression that a statement is begins with a name, behind which the rest of it stands, or with no name.
use Rattle.std.proofs.Common.{◌≡◌, ℕ, suc, ◌≤◌, ◌-◌, List, [], ◌∷◌, ◌++◌, length, Option, refl, sym, ap, subst, ◌∙◌, inl, inr, arith}
use Rattle.grammar.specs.Syntax.{Syntax, one, ◌then◌, choice, at_most}
use Rattle.grammar.proofs.Forms.{to_left}
use Rattle.grammar_laws.proofs.Inclusions.{Within, forth, back, itself, ◌so◌, either, first, second, each, in_turn, either_before, capped_within}
use Rattle.grammar_laws.proofs.ExpressionKnots.{operand_knot}
use Rattle.c_syntax.specs.declared.place.Place.{Place}
use Rattle.c_syntax.specs.Expressions.{Expression}
use Rattle.c_syntax.specs.Tokens.{PlainToken}
use Rattle.c_model.specs.declared.operands.Level.TheVariants.{Assignment}
use Rattle.c_model.specs.declared.operands.TypeUse.TheVariants.{Casts}
use Rattle.c_model.specs.Terminals.{placed, expression_limit}
use Rattle.c_model.specs.Vocabulary.{Vocabulary}
use Rattle.c_model.specs.ExpressionGrammar.{ReadOperand, kind, name_kind, most_in_expression, name_of, name, behind_variable, operand_of, expression_at, expression, placed_rest, placed_expression}
use Rattle.c_model.specs.ExpressionGrammar.{nameless_expression, expression_behind, full_placed_expression, full_nameless_expression, full_expression_behind}

-- ---- at most so many tokens, of which the first is one of the kind

module _ {T A B : Type 0} (label n : ℕ) (f : T → Option A) (H : A → Syntax T B) where
  abbrev counted : Syntax T B
  counted = at_most label (suc n) (one f then H)

  abbrev behind_one : Syntax T B
  behind_one = one f then λ x. at_most label n (H x)

  -- the tokens behind the first
  shorter : (a c : List T) (t : T) → a ≡ (t ∷ []) ++ c → length a ≤ suc n → length c ≤ n
  shorter a c t e l = let k = ap length e in omega (arith, l, k)

  longer : (a c : List T) (t : T) → a ≡ (t ∷ []) ++ c → length c ≤ n → length a ≤ suc n
  longer a c t e l = let k = ap length e in omega (arith, l, k)

  same_long : (a c : List T) (t : T) → a ≡ (t ∷ []) ++ c → length c ≡ n → length a ≡ suc n
  same_long a c t e l = let k = ap length e in omega (arith, l, k)

  one_read : (b : List T) (t : T) (a c : List T) → b ≡ t ∷ [] → a ≡ b ++ c → a ≡ (t ∷ []) ++ c
  one_read b t a c e d = subst (λ (w : List T). a ≡ w ++ c) e d

  pub behind_one_back : Within behind_one counted
  behind_one_back = record { reads = by_reads; begun = by_begun; late = by_late }
    where
      by_reads : (a : List T) (y : B) → behind_one.reads a y → counted.reads a y
      by_reads a y (b, c, x, e, (t, d, v), s) = ((b, c, x, e, (t, d, v), s.0), longer a c t (one_read b t a c d e) s.1)

      by_begun : (a : List T) → behind_one.begun a → counted.begun a
      by_begun a r = r

      by_late : (i : ℕ) (a : List T) (t : T) → behind_one.late i a t → counted.late i a t
      by_late i a t (inl l) = absurd l
      by_late i a t (inr (b, c, x, e, (u, d, v), inl s)) = inl (inr (b, c, x, e, (u, d, v), s))
      by_late i a t (inr (b, c, x, e, (u, d, v), inr (k, l, s))) =
          inr (k, same_long a c u (one_read b u a c d e) l, inr (b, c ++ t ∷ [], x, ap (λ (w : List T). w ++ t ∷ []) e ∙ joined b c (t ∷ []), (u, d, v), s))
        where
          joined : (p q r : List T) → (p ++ q) ++ r ≡ p ++ (q ++ r)
          joined [] q r = refl
          joined (z ∷ p) q r = ap (λ (w : List T). z ∷ w) (joined p q r)

  -- a token more, behind one that was read
  split : (a b c : List T) (t u : T) → length a ≡ suc n → a ++ t ∷ [] ≡ b ++ c → b ≡ u ∷ [] → (d : List T) × (a ≡ b ++ d) × (c ≡ d ++ t ∷ []) × (length d ≡ n)
  split [] b c t u l e is = absurd (omega (arith, l))
  split (z ∷ a) b c t u l e is = by (subst (λ (w : List T). (z ∷ a) ++ t ∷ [] ≡ w ++ c) is e)
    where
      heads : (p q : T) (ps qs : List T) → p ∷ ps ≡ q ∷ qs → p ≡ q
      heads p q ps qs e = cc

      tails : (p q : T) (ps qs : List T) → p ∷ ps ≡ q ∷ qs → ps ≡ qs
      tails p q ps qs e = cc

      by : z ∷ (a ++ t ∷ []) ≡ u ∷ c → (d : List T) × (z ∷ a ≡ b ++ d) × (c ≡ d ++ t ∷ []) × (length d ≡ n)
      by e = (a, rw (is, heads z u (a ++ t ∷ []) c e) refl, sym (tails z u (a ++ t ∷ []) c e), omega (arith, l))

  pub behind_one_forth : Within counted behind_one
  behind_one_forth = record { reads = by_reads; begun = by_begun; late = by_late }
    where
      by_reads : (a : List T) (y : B) → counted.reads a y → behind_one.reads a y
      by_reads a y ((b, c, x, e, (t, d, v), s), l) = (b, c, x, e, (t, d, v), (s, shorter a c t (one_read b t a c d e) l))

      by_begun : (a : List T) → counted.begun a → behind_one.begun a
      by_begun a r = r

      over : (i : ℕ) (a : List T) (t : T) → i ≡ label → length a ≡ suc n → (one f then H).begun (a ++ t ∷ []) → behind_one.late i a t
      over i [] t k l s = absurd (omega (arith, l))
      over i (z ∷ a) t k l (inl (inl e)) = absurd cc
      over i (z ∷ []) t k l (inl (inr (u, x, e, v))) = absurd cc
      over i (z ∷ (w ∷ a)) t k l (inl (inr (u, x, e, v))) = absurd cc
      over i (z ∷ a) t k l (inr (b, c, x, e, (u, d, v), s)) =
          let p = split (z ∷ a) b c t u l e d in
          inr (b, p.0, x, p.1, (u, d, v), inr (k, p.3, subst (λ (w : List T). (H x).begun w) p.2 s))

      by_late : (i : ℕ) (a : List T) (t : T) → counted.late i a t → behind_one.late i a t
      by_late i a t (inl (inl l)) = absurd l
      by_late i a t (inl (inr (b, c, x, e, r, s))) = inr (b, c, x, e, r, inl s)
      by_late i a t (inr (k, l, s)) = over i a t k l s

-- alternatives within a limit
module _ {T A : Type 0} (label most : ℕ) (K : T → ℕ) (ks : List ℕ) (L : T → ℕ) (ls : List ℕ) (G H : Syntax T A) where
  pub counted_each : Within (at_most label most (choice K ks G H)) (choice L ls (at_most label most G) (at_most label most H))
  counted_each = record { reads = by_reads; begun = λ a b. b; late = by_late }
    where
      by_reads : (a : List T) (x : A) → (at_most label most (choice K ks G H)).reads a x → (choice L ls (at_most label most G) (at_most label most H)).reads a x
      by_reads a x (inl r, l) = inl (r, l)
      by_reads a x (inr r, l) = inr (r, l)

      by_late : (i : ℕ) (a : List T) (t : T) → (at_most label most (choice K ks G H)).late i a t → (choice L ls (at_most label most G) (at_most label most H)).late i a t
      by_late i a t (inl (inl l)) = inl (inl l)
      by_late i a t (inl (inr l)) = inr (inl l)
      by_late i a t (inr (k, l, inl s)) = inl (inr (k, l, s))
      by_late i a t (inr (k, l, inr s)) = inr (inr (k, l, s))

  pub counted_each_back : Within (choice L ls (at_most label most G) (at_most label most H)) (at_most label most (choice K ks G H))
  counted_each_back = record { reads = by_reads; begun = λ a b. b; late = by_late }
    where
      by_reads : (a : List T) (x : A) → (choice L ls (at_most label most G) (at_most label most H)).reads a x → (at_most label most (choice K ks G H)).reads a x
      by_reads a x (inl (r, l)) = (inl r, l)
      by_reads a x (inr (r, l)) = (inr r, l)

      by_late : (i : ℕ) (a : List T) (t : T) → (choice L ls (at_most label most G) (at_most label most H)).late i a t → (at_most label most (choice K ks G H)).late i a t
      by_late i a t (inl (inl l)) = inl (inl l)
      by_late i a t (inr (inl l)) = inl (inr l)
      by_late i a t (inl (inr (k, l, s))) = inr (k, l, inl s)
      by_late i a t (inr (inr (k, l, s))) = inr (k, l, inr s)

-- ---- expressions

module _ (ws : Vocabulary) where
  abbrev E : Syntax PlainToken Expression
  E = expression ws

  abbrev A : Syntax PlainToken Expression
  A = expression_at ws Assignment

  abbrev Rest : ReadOperand → Syntax PlainToken (Expression × Place)
  Rest x = placed_rest ws x

  abbrev Named : Syntax PlainToken (Expression × Place)
  Named = name ws then λ x. expression_behind ws x

  abbrev Nameless : Syntax PlainToken (Expression × Place)
  Nameless = nameless_expression ws

  abbrev ByName : Syntax PlainToken (Expression × Place)
  ByName = choice (kind ws) (name_kind ∷ []) Named Nameless

  placed_forth : Within (placed_expression ws) ByName
  unfolding placed_expression expression_behind nameless_expression operand_of
  placed_forth =
      in_turn (forth (operand_knot ws E A Casts)) (λ x. itself (Rest x))
      so either_before (kind ws) (name_kind ∷ []) Rest
      (back (to_left (name ws) (behind_variable ws E A) Rest) so first (kind ws) (name_kind ∷ []) Nameless (itself Named))
      (second (kind ws) (name_kind ∷ []) Named (itself Nameless))

  placed_back : Within ByName (placed_expression ws)
  unfolding placed_expression expression_behind nameless_expression operand_of
  placed_back =
      either (kind ws) (name_kind ∷ [])
      (forth (to_left (name ws) (behind_variable ws E A) Rest) so in_turn (first (kind ws) (name_kind ∷ []) _ (itself _) so back (operand_knot ws E A Casts)) (λ x. itself (Rest x)))
      (in_turn (second (kind ws) (name_kind ∷ []) _ (itself _) so back (operand_knot ws E A Casts)) (λ x. itself (Rest x)))

  -- the same within the limit of its tokens, of which the name is one
  abbrev FullNamed : Syntax PlainToken (Expression × Place)
  FullNamed = name ws then λ x. full_expression_behind ws x

  pub full_forth : Within (full_placed_expression ws) (choice (kind ws) (name_kind ∷ []) FullNamed (full_nameless_expression ws))
  unfolding full_placed_expression full_nameless_expression full_expression_behind
  full_forth =
      capped_within expression_limit most_in_expression placed_forth
      so counted_each expression_limit most_in_expression (kind ws) (name_kind ∷ []) (kind ws) (name_kind ∷ []) Named Nameless
      so each (kind ws) (name_kind ∷ []) (kind ws) (name_kind ∷ []) (behind_one_forth expression_limit (most_in_expression - 1) (placed (name_of ws)) (λ x. expression_behind ws x)) (itself _)

  pub full_back : Within (choice (kind ws) (name_kind ∷ []) FullNamed (full_nameless_expression ws)) (full_placed_expression ws)
  unfolding full_placed_expression full_nameless_expression full_expression_behind
  full_back =
      each (kind ws) (name_kind ∷ []) (kind ws) (name_kind ∷ []) (behind_one_back expression_limit (most_in_expression - 1) (placed (name_of ws)) (λ x. expression_behind ws x)) (itself _)
      so counted_each_back expression_limit most_in_expression (kind ws) (name_kind ∷ []) (kind ws) (name_kind ∷ []) Named Nameless
      so capped_within expression_limit most_in_expression placed_back
