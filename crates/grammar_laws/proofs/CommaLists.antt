-- Items with commas between them and perhaps one after the last, up to a brace.
use Rattle.std.proofs.Common.{ℕ, zero, suc, Bool, true, false, cond, List, [], ◌∷◌, ◌++◌, refl, inl, inr}
use Rattle.grammar.specs.Syntax.{Syntax, none, gives, ◌then◌, loop, many}
use Rattle.grammar.specs.Exact.{Same}
use Rattle.grammar.proofs.Forms.{to_left, many_form}
use Rattle.grammar_laws.specs.Plain.{◌or◌, repeated}
use Rattle.grammar_laws.proofs.Inclusions.{Within, both, forth, back, itself, ◌so◌, first, second, on, in_turn, either_before, handed, handed_back}
use Rattle.grammar_laws.proofs.Inclusions.{given_first, given_back, after_either, apart_before, ended_none, limited, limited_after}
use Rattle.c_syntax.specs.declared.place.Place.{Place}
use Rattle.c_syntax.specs.Tokens.{PlainToken}
use Rattle.c_model.specs.Vocabulary.{Vocabulary}
use Rattle.c_model.specs.Punctuators.{comma, right_brace}
use Rattle.c_model.specs.ExpressionGrammar.{kind, mark_kind, mark}
use Rattle.c_model.specs.DeclarationGrammar.{maybe_comma, next_item, item_once, more_items, listed}
use Rattle.grammar_laws.specs.DeclarationProductions.{comma_list}

abbrev no : PlainToken → ℕ
no t = 0

module _ (ws : Vocabulary) {A B : Type 0} (kinds : List ℕ) (I : Syntax PlainToken A) (U : List A → Syntax PlainToken B) (empty : (xs : List A) → (U xs).begun []) where
  abbrev Comma : Syntax PlainToken Place
  Comma = mark ws comma

  abbrev end : List A → Syntax PlainToken B
  end xs = mark ws right_brace then λ _. U xs

  abbrev ks : List A × Bool → List ℕ
  ks y = cond y.1 kinds []

  -- what the parser reads after items, of which a comma may stand after the last
  abbrev Turns : List A × Bool → Syntax PlainToken (List A × Bool)
  Turns x = many (kind ws) ks (item_once ws I) x

  abbrev ended_at : List A × Bool → Syntax PlainToken B
  ended_at y = end y.0

  abbrev L : List A × Bool → Syntax PlainToken B
  L x = Turns x then ended_at

  abbrev Lk : ℕ → List A × Bool → Syntax PlainToken B
  Lk n x = loop (kind ws) n ks (item_once ws I) x then ended_at

  -- what the production reads
  abbrev step : List A → Syntax PlainToken (List A)
  step xs = Comma then λ _. I then λ j. gives (xs ++ j ∷ [])

  abbrev maybe : List A → Syntax PlainToken (List A)
  maybe xs = (Comma then λ _. gives xs) or gives xs

  abbrev trailing : List A → Syntax PlainToken B
  trailing xs = maybe xs then end

  abbrev R : List A → Syntax PlainToken B
  R xs = repeated step xs then trailing

  abbrev Rk : ℕ → List A → Syntax PlainToken B
  Rk n xs = loop no n (λ _. []) step xs then trailing

  -- ---- what nothing yet begins

  trailing_empty : (xs : List A) → (trailing xs).begun []
  trailing_empty xs = inl (inr refl)

  Lk_empty : (n : ℕ) (x : List A × Bool) → (Lk n x).begun []
  Lk_empty zero x = inl (inr refl)
  Lk_empty (suc n) x = inl (inr refl)

  Rk_empty : (n : ℕ) (xs : List A) → (Rk n xs).begun []
  Rk_empty zero xs = inl (inr refl)
  Rk_empty (suc n) xs = inl (inr refl)

  -- ---- a production's turns

  R_stops : (xs : List A) → Within (trailing xs) (R xs)
  R_stops xs = given_back xs trailing so in_turn (second no [] _ (itself (gives xs)) so back (many_form no (λ _. []) step xs)) (λ y. itself (trailing y))

  R_turns : (xs : List A) → Within (Comma then λ _. I then λ j. R (xs ++ j ∷ [])) (R xs)
  R_turns xs =
      on Comma (λ _. handed I (λ j. xs ++ j ∷ []) R) so forth (to_left Comma (λ _. I then λ j. gives (xs ++ j ∷ [])) R)
      so forth (to_left (step xs) (λ y. repeated step y) trailing)
      so in_turn (first no [] (gives xs) (itself _) so back (many_form no (λ _. []) step xs)) (λ y. itself (trailing y))

  end_stops : (xs : List A) → Within (end xs) (R xs)
  end_stops xs = given_back xs end so in_turn (second no [] _ (itself (gives xs))) (λ y. itself (end y)) so R_stops xs

  comma_stops : (xs : List A) → Within (Comma then λ _. end xs) (R xs)
  comma_stops xs = handed Comma (λ _. xs) end so in_turn (first no [] (gives xs) (itself _)) (λ y. itself (end y)) so R_stops xs

  -- ---- what the parser reads is the production's

  stopped : (x : List A × Bool) → Within (gives x then ended_at) (end x.0)
  stopped x = given_first x ended_at (inl (inl refl))

  not_turned : (x : List A × Bool) → Within (Lk zero x) (end x.0)
  not_turned x = either_before (kind ws) (ks x) ended_at (ended_none ended_at (end x.0) (inl (inl refl))) (stopped x)

  no_item : (n : ℕ) (xs : List A) → Within (Lk (suc n) (xs, false)) (end xs)
  unfolding item_once
  no_item n xs =
      either_before (kind ws) (ks (xs, false)) ended_at
      (in_turn (ended_none (λ y. loop (kind ws) n ks (item_once ws I) y) none refl) (λ y. itself (ended_at y)) so ended_none ended_at (end xs) (inl (inl refl))) (stopped (xs, false))

  one_item : (n : ℕ) (xs : List A) → Within ((item_once ws I (xs, true) then λ y. loop (kind ws) n ks (item_once ws I) y) then ended_at) (I then λ j. maybe_comma ws (xs ++ j ∷ []) then Lk n)
  unfolding item_once next_item
  one_item n xs =
      back (to_left (I then λ j. maybe_comma ws (xs ++ j ∷ [])) (λ y. loop (kind ws) n ks (item_once ws I) y) ended_at)
      so back (to_left I (λ j. maybe_comma ws (xs ++ j ∷ [])) (Lk n))

  after_comma : (n : ℕ) (xs : List A) → ((j : A) → Within (maybe_comma ws (xs ++ j ∷ []) then Lk n) (R (xs ++ j ∷ []))) → Within (Comma then λ _. Lk (suc n) (xs, true)) (R xs)
  after_comma n xs more =
      on Comma (λ _. apart_before (kind ws) (ks (xs, true)) (item_once ws I (xs, true) then λ y. loop (kind ws) n ks (item_once ws I) y) (gives (xs, true)) ended_at)
      so after_either (kind ws) (ks (xs, true)) Comma _ _
      (on Comma (λ _. one_item n xs so on I more) so R_turns xs)
      (on Comma (λ _. stopped (xs, true)) so comma_stops xs)

  comma_forth : (n : ℕ) (xs : List A) → Within (maybe_comma ws xs then Lk n) (R xs)
  unfolding maybe_comma
  comma_forth zero xs =
      either_before (kind ws) (mark_kind comma ∷ []) (Lk zero)
      (handed_back Comma (λ _. (xs, true)) (Lk zero) (λ _. Lk_empty zero (xs, true)) so on Comma (λ _. not_turned (xs, true)) so comma_stops xs)
      (given_first (xs, false) (Lk zero) (Lk_empty zero (xs, false)) so not_turned (xs, false) so end_stops xs)
  comma_forth (suc n) xs =
      either_before (kind ws) (mark_kind comma ∷ []) (Lk (suc n))
      (handed_back Comma (λ _. (xs, true)) (Lk (suc n)) (λ _. Lk_empty (suc n) (xs, true)) so after_comma n xs (λ j. comma_forth n (xs ++ j ∷ [])))
      (given_first (xs, false) (Lk (suc n)) (Lk_empty (suc n) (xs, false)) so no_item n xs so end_stops xs)

  -- ---- and back

  L_stops : (x : List A × Bool) → Within (end x.0) (L x)
  L_stops x = given_back x ended_at so in_turn (second (kind ws) (ks x) _ (itself (gives x)) so back (many_form (kind ws) ks (item_once ws I) x)) (λ y. itself (ended_at y))

  L_turns : (xs : List A) → Within (I then λ j. maybe_comma ws (xs ++ j ∷ []) then L) (L (xs, true))
  unfolding item_once next_item
  L_turns xs =
      forth (to_left I (λ j. maybe_comma ws (xs ++ j ∷ [])) L)
      so forth (to_left (I then λ j. maybe_comma ws (xs ++ j ∷ [])) Turns ended_at)
      so in_turn (first (kind ws) (ks (xs, true)) (gives (xs, true)) (itself _) so back (many_form (kind ws) ks (item_once ws I) (xs, true))) (λ y. itself (ended_at y))

  to_comma : (xs : List A) → Within (Comma then λ _. L (xs, true)) (maybe_comma ws xs then L)
  unfolding maybe_comma
  to_comma xs = handed Comma (λ _. (xs, true)) L so in_turn (first (kind ws) (mark_kind comma ∷ []) _ (itself _)) (λ y. itself (L y))

  to_end : (xs : List A) → Within (L (xs, false)) (maybe_comma ws xs then L)
  unfolding maybe_comma
  to_end xs = given_back (xs, false) L so in_turn (second (kind ws) (mark_kind comma ∷ []) _ (itself (gives (xs, false)))) (λ y. itself (L y))

  trailing_back : (xs : List A) → Within (trailing xs) (maybe_comma ws xs then L)
  trailing_back xs =
      either_before no [] end
      (handed_back Comma (λ _. xs) end (λ _. inl (inl refl)) so on Comma (λ _. L_stops (xs, true)) so to_comma xs)
      (given_first xs end (inl (inl refl)) so L_stops (xs, false) so to_end xs)

  stopped_back : (xs : List A) → Within (gives xs then trailing) (maybe_comma ws xs then L)
  stopped_back xs = given_first xs trailing (trailing_empty xs) so trailing_back xs

  comma_empty : (xs : List A) → (maybe_comma ws xs then L).begun []
  unfolding maybe_comma
  comma_empty xs = inl (inr refl)

  comma_back : (n : ℕ) (xs : List A) → Within (Rk n xs) (maybe_comma ws xs then L)
  comma_back zero xs = either_before no [] trailing (ended_none trailing (maybe_comma ws xs then L) (comma_empty xs)) (stopped_back xs)
  comma_back (suc n) xs =
      either_before no [] trailing
      (back (to_left (step xs) (λ y. loop no n (λ _. []) step y) trailing)
      so back (to_left Comma (λ _. I then λ j. gives (xs ++ j ∷ [])) (Rk n))
      so on Comma (λ _. handed_back I (λ j. xs ++ j ∷ []) (Rk n) (λ j. Rk_empty n (xs ++ j ∷ [])) so on I (λ j. comma_back n (xs ++ j ∷ [])) so L_turns xs)
      so to_comma xs)
      (stopped_back xs)

  -- ---- lists

  list_forth : Within (listed ws kinds I then U) (comma_list ws I then end)
  unfolding listed next_item more_items
  list_forth =
      back (to_left (I then λ i. maybe_comma ws (i ∷ [])) (λ x. Turns x then λ y. mark ws right_brace then λ _. gives y.0) U)
      so on (I then λ i. maybe_comma ws (i ∷ [])) (λ x. back (to_left (Turns x) (λ y. mark ws right_brace then λ _. gives y.0) U) so on (Turns x) (λ y. handed_back (mark ws right_brace) (λ _. y.0) U (λ _. empty y.0)))
      so back (to_left I (λ i. maybe_comma ws (i ∷ [])) L)
      so on I (λ i. limited_after (maybe_comma ws (i ∷ [])) (λ n x. loop (kind ws) n ks (item_once ws I) x) ended_at (λ n. comma_forth n (i ∷ [])))
      so on I (λ i. forth (to_left (repeated step (i ∷ [])) maybe end))
      so forth (to_left I (λ i. repeated step (i ∷ []) then maybe) end)

  list_back : Within (comma_list ws I then end) (listed ws kinds I then U)
  unfolding listed next_item more_items
  list_back =
      back (to_left I (λ i. repeated step (i ∷ []) then maybe) end)
      so on I (λ i. back (to_left (repeated step (i ∷ [])) maybe end) so limited (λ n. loop no n (λ _. []) step (i ∷ [])) trailing (λ n. comma_back n (i ∷ [])))
      so forth (to_left I (λ i. maybe_comma ws (i ∷ [])) L)
      so on (I then λ i. maybe_comma ws (i ∷ [])) (λ x. on (Turns x) (λ y. handed (mark ws right_brace) (λ _. y.0) U) so forth (to_left (Turns x) (λ y. mark ws right_brace then λ _. gives y.0) U))
      so forth (to_left (I then λ i. maybe_comma ws (i ∷ [])) (λ x. Turns x then λ y. mark ws right_brace then λ _. gives y.0) U)

  pub comma_list_line : Same (listed ws kinds I then U) (comma_list ws I then λ xs. mark ws right_brace then λ _. U xs)
  comma_list_line = both list_forth list_back
