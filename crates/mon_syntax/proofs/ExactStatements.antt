-- Statements are read exactly.
use Rattle.std.proofs.Common.{◌≡◌, ℕ, zero, suc, Bool, true, false, cond, eqb, ◌&&◌, List, [], ◌∷◌, refl, inl, inr}
use Rattle.std.proofs.Common.{arith}
use Rattle.std.proofs.lemmas.Bool.{eqb-true}
use Rattle.grammar.specs.Syntax.{among, none, gives, one, ◌then◌}
use Rattle.grammar.proofs.Productions.{seq, either, again_and_again, declared, given, too_deep}
use Rattle.c_syntax.specs.declared.place.Place.{Place}
use Rattle.c_syntax.specs.Tokens as tokens
use Rattle.c_syntax.specs.Tokens.{PlainTokenKind, PlainToken}
use Rattle.c_model.specs.Punctuators.{assign, times, comma, colon, semicolon, left_paren, right_paren, left_brace, right_brace}
use Rattle.c_model.specs.Terminals.{placed, nesting_limit}
use Rattle.mon_syntax.specs.declared.tree.MonType.{MonType}
use Rattle.mon_syntax.specs.Arithmetic.{byte_count, is_pointer}
use Rattle.mon_syntax.specs.Parsed.{NameUse, ParsedStatement, Store, Loop}
use Rattle.mon_syntax.specs.Grammar.{Vocabulary, name_kind, if_kind, else_kind, while_kind, goto_kind, return_kind, initialize_kind, initialize_pointer_kind, mark_kind, word_at, kind, first_expression}
use Rattle.mon_syntax.specs.Grammar.{first_statement, parsed_list, LoopRead, has_step, behind_step, is_step_word, fixed, mark, name_of, name, InBody, ended, set_to_call, set_to_name, set_to, behind_name, one_more, statements, body, selection}
use Rattle.mon_syntax.specs.Grammar.{marked_name, mark_end, number_mark, pointer_mark, store_mark, stored, store}
use Rattle.mon_syntax.specs.Grammar.{one_more_in_loop, loop_end, iteration, labelled, jump, returned, return_statement, statement_with, statement_in}
use Rattle.mon_syntax.proofs.ExactTokens.{IsRead, fixed_good, this_number_good, same_name_good}
use Rattle.mon_syntax.proofs.ExactExpressions.{paren, none_good, named_good, pointed_good, expression_good, but_name_good, call_good}

module _ (ws : Vocabulary) where
  pub ended_good : (a : ParsedStatement) → IsRead ws (ended ws a) false (mark_kind semicolon ∷ []) []
  unfolding ended
  ended_good a = seq (fixed_good ws (mark_kind semicolon)) (λ _. given a) refl

  set_to_call_good : (x : NameUse) (at : Place) (f : NameUse) → IsRead ws (set_to_call ws x at f) false paren []
  unfolding set_to_call
  set_to_call_good x at f = seq (call_good ws false f) (λ c. ended_good _) refl

  set_to_name_good : (x : NameUse) (at : Place) (y : NameUse) → IsRead ws (set_to_name ws x at y) false (mark_kind left_paren ∷ mark_kind semicolon ∷ []) []
  unfolding set_to_name
  set_to_name_good x at y = either paren (set_to_call_good x at y) (ended_good _) refl

  set_to_good : (x : NameUse) (at : Place) → IsRead ws (set_to ws x at) false first_expression []
  unfolding set_to
  set_to_good x at = declared (either (name_kind ∷ []) (seq (named_good ws) (λ y. set_to_name_good x at y) refl) (seq (but_name_good ws) (λ e. ended_good _) refl) refl) refl

  behind_name_good : (no_step : Bool) (x : NameUse) → IsRead ws (behind_name ws no_step x) false (mark_kind assign ∷ paren) []
  unfolding behind_name
  behind_name_good no_step x =
      either (mark_kind assign ∷ []) (seq (fixed_good ws (mark_kind assign)) (λ at. set_to_good x at) refl) (seq (call_good ws (no_step && is_step_word (word_at ws x.number)) x) (λ c. ended_good _) refl) refl

  marked_name_good : (x : NameUse) → IsRead ws (marked_name ws x) false paren []
  unfolding marked_name
  marked_name_good x = seq (fixed_good ws (mark_kind left_paren)) (λ _. seq (same_name_good ws x.number) (λ t. given _) refl) refl

  mark_end_good : (a : ParsedStatement) → IsRead ws (mark_end ws a) false (mark_kind right_paren ∷ []) []
  unfolding mark_end
  mark_end_good a = seq (fixed_good ws (mark_kind right_paren)) (λ _. ended_good a) refl

  number_mark_good : (size : ℕ) (x : NameUse) (a : ParsedStatement) → IsRead ws (number_mark ws size x a) false (initialize_kind ∷ []) []
  unfolding number_mark
  number_mark_good size x a =
      seq (fixed_good ws initialize_kind) (λ _. seq (marked_name_good x) (λ _. seq (fixed_good ws (mark_kind comma)) (λ _. seq (this_number_good ws size) (λ _. mark_end_good a) refl) refl) refl) refl

  pointer_mark_good : (x : NameUse) (a : ParsedStatement) → IsRead ws (pointer_mark ws x a) false (initialize_pointer_kind ∷ []) []
  unfolding pointer_mark
  pointer_mark_good x a = seq (fixed_good ws initialize_pointer_kind) (λ _. seq (marked_name_good x) (λ _. mark_end_good a) refl) refl

  store_mark_good : (t : MonType) (x : NameUse) (a : ParsedStatement) → IsRead ws (store_mark ws t x a) false (initialize_kind ∷ initialize_pointer_kind ∷ []) []
  unfolding store_mark
  store_mark_good t x a = tested (is_pointer t)
    where
      tested : (b : Bool) → IsRead ws (cond b (pointer_mark ws x a) (number_mark ws (byte_count t) x a)) false (initialize_kind ∷ initialize_pointer_kind ∷ []) []
      tested true = declared (pointer_mark_good x a) refl
      tested false = declared (number_mark_good (byte_count t) x a) refl

  stored_good : (t : MonType) (x : NameUse) → IsRead ws (stored ws t x) false (mark_kind assign ∷ []) []
  unfolding stored
  stored_good t x =
      seq (fixed_good ws (mark_kind assign)) (λ at. seq (expression_good ws) (λ e. seq (fixed_good ws (mark_kind semicolon)) (λ _. store_mark_good t x (Store t x at e)) refl) refl) refl

  store_good : IsRead ws (store ws) false (mark_kind times ∷ []) []
  unfolding store
  store_good =
      seq (fixed_good ws (mark_kind times)) (λ _. seq (fixed_good ws (mark_kind left_paren)) (λ _. seq (pointed_good ws) (λ t. seq (named_good ws) (λ x. stored_good t x) refl) refl) refl) refl

  jump_good : IsRead ws (jump ws) false (goto_kind ∷ []) []
  unfolding jump
  jump_good = seq (fixed_good ws goto_kind) (λ _. seq (named_good ws) (λ l. ended_good _) refl) refl

  returned_good : (at : Place) → IsRead ws (returned ws at) false (mark_kind semicolon ∷ first_expression) []
  unfolding returned
  returned_good at = declared (either first_expression (seq (expression_good ws) (λ e. ended_good _) refl) (ended_good _) refl) refl

  return_good : IsRead ws (return_statement ws) false (return_kind ∷ []) []
  unfolding return_statement
  return_good = seq (fixed_good ws return_kind) (λ at. returned_good at) refl

  loop_end_good : (x : LoopRead) → IsRead ws (loop_end ws x) false (mark_kind right_brace ∷ []) []
  unfolding loop_end
  loop_end_good x = tested (has_step x)
    where
      tested : (b : Bool) → IsRead ws (cond b (mark ws right_brace then λ _. gives (Loop (parsed_list x.before) (parsed_list (behind_step x)))) none) false (mark_kind right_brace ∷ []) []
      tested true = seq (fixed_good ws (mark_kind right_brace)) (λ _. given _) refl
      tested false = none_good ws ParsedStatement false (mark_kind right_brace ∷ [])

  module _ {S : InBody ws} (s : (no_step : Bool) → IsRead ws (S no_step) false first_statement []) where
    pub one_more_good : (xs : List ParsedStatement) → IsRead ws (one_more ws S xs) false first_statement []
    unfolding one_more
    one_more_good xs = declared (seq (s false) (λ a. given _) refl) refl

    pub statements_good : IsRead ws (statements ws S) true first_statement first_statement
    unfolding statements
    statements_good = declared (again_and_again first_statement one_more_good refl []) refl

    body_good : IsRead ws (body ws S) false (mark_kind left_brace ∷ []) []
    unfolding body
    body_good = seq (fixed_good ws (mark_kind left_brace)) (λ _. seq statements_good (λ xs. seq (fixed_good ws (mark_kind right_brace)) (λ _. given _) refl) refl) refl

    selection_good : IsRead ws (selection ws S) false (if_kind ∷ []) []
    unfolding selection
    selection_good =
        seq (fixed_good ws if_kind) (λ _. seq (fixed_good ws (mark_kind left_paren)) (λ _. seq (expression_good ws) (λ e. seq (fixed_good ws (mark_kind right_paren)) (λ _.
        seq body_good (λ a. seq (fixed_good ws else_kind) (λ _. seq body_good (λ b. given _) refl) refl) refl) refl) refl) refl) refl

    pub one_more_in_loop_good : (x : LoopRead) → IsRead ws (one_more_in_loop ws S x) false first_statement []
    unfolding one_more_in_loop
    one_more_in_loop_good x = declared (seq (s (has_step x)) (λ a. given _) refl) refl

    iteration_good : IsRead ws (iteration ws S) false (while_kind ∷ []) []
    unfolding iteration
    iteration_good =
        seq (fixed_good ws while_kind) (λ _. seq (fixed_good ws (mark_kind left_paren)) (λ _. seq (this_number_good ws 1) (λ _. seq (fixed_good ws (mark_kind right_paren)) (λ _.
        seq (fixed_good ws (mark_kind left_brace)) (λ _. seq (again_and_again first_statement one_more_in_loop_good refl _) (λ x. loop_end_good x) refl) refl) refl) refl) refl) refl

    labelled_good : IsRead ws (labelled ws S) false (mark_kind left_brace ∷ []) []
    unfolding labelled
    labelled_good = seq body_good (λ a. seq (named_good ws) (λ l. seq (fixed_good ws (mark_kind colon)) (λ _. ended_good _) refl) refl) refl

    pub statement_with_good : (no_step : Bool) → IsRead ws (statement_with ws S no_step) false first_statement []
    unfolding statement_with
    statement_with_good no_step =
        declared (either (name_kind ∷ []) (seq (named_good ws) (λ x. behind_name_good no_step x) refl)
        (either (mark_kind times ∷ []) store_good
        (either (mark_kind left_brace ∷ []) labelled_good
        (either (if_kind ∷ []) selection_good
        (either (while_kind ∷ []) iteration_good
        (either (goto_kind ∷ []) (jump_good) return_good refl) refl) refl) refl) refl) refl) refl

  -- ---- each token that can begin a statement does

  fixed_begins : (k : ℕ) (t : PlainToken) → eqb (kind ws t) k ≡ true → (fixed ws k).begun (t ∷ [])
  fixed_begins k t h = inr (t, t.place, refl, rw h refl)

  placed_begins : (t : PlainToken) → eqb (kind ws t) name_kind ≡ true → (one (placed (name_of ws))).begun (t ∷ [])
  placed_begins t h = by t.kind t.place h
    where
      by : (k : PlainTokenKind) (at : Place) → eqb (kind ws (record { place = at; kind = k })) name_kind ≡ true → (one (placed (name_of ws))).begun (record { place = at; kind = k } ∷ [])
      by (tokens.Word n) at h = inr (record { place = at; kind = tokens.Word n }, (n, at), refl, rw (h, placed) refl)
      by (tokens.Number z c) at h = absurd cc
      by (tokens.Chars b) at h = absurd cc
      by (tokens.Mark m) at h = absurd (let e = eqb-true (mark_kind m) name_kind h in omega (arith, e))
      by (tokens.Head k n) at h = absurd cc
      by (tokens.Letter v) at h = absurd cc
      by tokens.AnnotOpen at h = absurd cc
      by tokens.AnnotClose at h = absurd cc

  first_or : (P : Type 0) (K k : ℕ) (b : Bool) → (eqb K k ≡ true → P) → (b ≡ true → P) → cond (eqb K k) true b ≡ true → P
  first_or P K k b here there h = tested (eqb K k) refl h
    where
      tested : (c : Bool) → eqb K k ≡ c → cond c true b ≡ true → P
      tested true is h = here is
      tested false is h = there h

  none_left : (P : Type 0) → false ≡ true → P
  none_left P h = absurd cc

  opens : (S : InBody ws) (no_step : Bool) (t : PlainToken) → among (kind ws t) first_statement ≡ true → (statement_with ws S no_step).begun (t ∷ [])
  unfolding statement_with name store labelled body selection iteration jump return_statement
  opens S no_step t =
      first_or _ (kind ws t) name_kind _ (λ h. inl (inl (inl (placed_begins t h))))
      (first_or _ (kind ws t) (mark_kind times) _ (λ h. inr (inl (inl (fixed_begins (mark_kind times) t h))))
      (first_or _ (kind ws t) (mark_kind left_brace) _ (λ h. inr (inr (inl (inl (inl (fixed_begins (mark_kind left_brace) t h))))))
      (first_or _ (kind ws t) if_kind _ (λ h. inr (inr (inr (inl (inl (fixed_begins if_kind t h))))))
      (first_or _ (kind ws t) while_kind _ (λ h. inr (inr (inr (inr (inl (inl (fixed_begins while_kind t h)))))))
      (first_or _ (kind ws t) goto_kind _ (λ h. inr (inr (inr (inr (inr (inl (inl (fixed_begins goto_kind t h))))))))
      (first_or _ (kind ws t) return_kind _ (λ h. inr (inr (inr (inr (inr (inr (inl (fixed_begins return_kind t h))))))))
      (none_left _)))))))

  pub statement_good : (n : ℕ) (no_step : Bool) → IsRead ws (statement_in ws n no_step) false first_statement []
  unfolding statement_in
  statement_good zero no_step = too_deep nesting_limit first_statement (statement_with_good (λ _. none_good ws ParsedStatement false first_statement) no_step).here (opens (λ _. none) no_step)
  statement_good (suc n) no_step = statement_with_good (statement_good n) no_step
