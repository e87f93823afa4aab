-- Statements that are read stand no deeper in one another than the limit, and no step stands directly in a loop's parts.
use Rattle.std.proofs.Common.{◌≡◌, ℕ, zero, suc, ◌<◌, ◌≤◌, max, Bool, true, false, not, ◌&&◌, cond, eqb, List, [], ◌∷◌, ◌++◌, Option, Some, None, if◌then◌else◌, refl, sym, subst, le_trans, arith}
use Rattle.std.proofs.Math.Nat.{max-le, le-max_left, le-max_right}
use Rattle.grammar.specs.Syntax.{one}
use Rattle.grammar.proofs.Readings.{within_more, within_none, within_gives, within_one, within_then, within_choice, within_many, within_deep}
use Rattle.c_syntax.specs.declared.place.Place.{Place}
use Rattle.c_syntax.specs.Tokens as token
use Rattle.c_syntax.specs.Tokens.{PlainTokenKind}
use Rattle.c_model.specs.Punctuators.{semicolon, right_brace, right_paren, colon, comma, times, assign, left_paren, left_brace}
use Rattle.c_model.specs.Terminals.{placed, nesting_limit}
use Rattle.mon_syntax.specs.declared.tree.MonType.{MonType}
use Rattle.mon_syntax.specs.Arithmetic.{byte_count, is_pointer}
use Rattle.mon_syntax.specs.Parsed.{NameUse, ParsedCall, ParsedStatement, Call, ParsedStatements}
use Rattle.mon_syntax.specs.Grammar.{return_kind, else_kind, initialize_kind, initialize_pointer_kind, fixed, mark, is_number}
use Rattle.mon_syntax.specs.Grammar.{Vocabulary, name_kind, if_kind, while_kind, goto_kind, mark_kind, word_kind, word_at, kind, first_expression, first_statement}
use Rattle.mon_syntax.specs.Grammar.{parsed_list, LoopRead, nothing_read, has_step, with_statement, is_step, is_step_word, has_no_argument, name_of, name, InBody, ended, set_to_call, set_to_name, set_to}
use Rattle.mon_syntax.specs.Grammar.{pointed_type, marked_name, mark_end, number_mark, pointer_mark, store_mark, stored, store}
use Rattle.mon_syntax.specs.Grammar.{behind_name, one_more, statements, body, selection, one_more_in_loop, loop_end, iteration, labelled, jump, returned, return_statement, statement_with, statement_in}
use Rattle.mon_syntax.proofs.ExactExpressions.{none_good}
use Rattle.mon_syntax.proofs.ExactStatements.{statement_with_good}
use Rattle.mon_typing.specs.Within.{depth, depth_of_all, has_no_step, IsWithin, AreWithin}
use Rattle.mon_reader.proofs.Lexed.{IsLexedKind}
use Rattle.mon_reader.proofs.WithinExpressions.{placed_is, Each, after, expression_each, but_name_each, IsCall, call_each}

-- what is no step by its word is none, and neither is what has an argument
no_step_call : (no_step word empty : Bool) → no_step ≡ true → (no_step && word ≡ true → empty ≡ false) → word && empty ≡ false
no_step_call true true empty e h = h refl
no_step_call true false empty e h = refl
no_step_call false word empty e h = absurd cc

and_later : (a b c : Bool) → (b ≡ true → c ≡ true) → a && b ≡ true → a && c ≡ true
and_later true b c f h = f h
and_later false b c f h = h

module _ (size : ℕ) (ws : Vocabulary) where
  -- ---- names

  name_below : (t : PlainTokenKind) (n : ℕ) → IsLexedKind size t → name_of ws t ≡ Some n → n < size
  name_below (token.Word m) n h e = by (eqb (word_kind (word_at ws m)) name_kind) e
    where
      by : (b : Bool) → cond b (Some m) None ≡ Some n → n < size
      by true e = let same : m ≡ n = cc in subst (λ k. k < size) same h
      by false e = absurd cc
  name_below _ n h e = absurd cc

  pub name_each : Each size ws (name ws) (λ x. x.number < size)
  unfolding name
  name_each = within_then (within_one {P = λ (x : ℕ × Place). x.0 < size} (placed (name_of ws)) (λ t x h e. name_below t.kind x.0 h (placed_is (name_of ws) t x e))) (λ x h. within_gives _ h)

  -- ---- statements without bodies

  record IsSimple (no_step : Bool) (a : ParsedStatement) : Type 0 where
    within : IsWithin ws size a
    flat : depth a ≡ 1
    plain : no_step ≡ true → is_step ws a ≡ false

  ended_each : {P : ParsedStatement → Type 0} (a : ParsedStatement) → P a → Each size ws (ended ws a) P
  unfolding ended
  ended_each a p = after size ws (mark ws semicolon) (λ _. within_gives a p)

  call_to_each : (s : Bool) (x : NameUse) (at : Place) (f : NameUse) → Each size ws (set_to_call ws x at f) (IsSimple s)
  unfolding set_to_call
  call_to_each s x at f = within_then (call_each size ws false f) (λ c h. ended_each _ (record { within = h.arguments; flat = refl; plain = λ _. refl }))

  name_to_each : (s : Bool) (x : NameUse) (at : Place) (y : NameUse) → Each size ws (set_to_name ws x at y) (IsSimple s)
  unfolding set_to_name
  name_to_each s x at y = within_choice (kind ws) (mark_kind left_paren ∷ []) (call_to_each s x at y) (ended_each _ (record { within = omega arith; flat = refl; plain = λ _. refl }))

  set_each : (s : Bool) (x : NameUse) (at : Place) → Each size ws (set_to ws x at) (IsSimple s)
  unfolding set_to
  set_each s x at =
      within_choice (kind ws) (name_kind ∷ []) (after size ws (name ws) (λ y. name_to_each s x at y))
      (within_then (but_name_each size ws) (λ e h. ended_each _ (record { within = h; flat = refl; plain = λ _. refl })))

  call_is_simple : (s : Bool) (x : NameUse) (c : ParsedCall) → IsCall (s && is_step_word (word_at ws x.number)) x c → IsSimple s (Call c)
  call_is_simple s x c h = record {
    within = h.arguments;
    flat = refl;
    plain = λ e. subst (λ (f : NameUse). is_step_word (word_at ws f.number) && has_no_argument c.arguments ≡ false) (sym h.callee) (no_step_call s (is_step_word (word_at ws x.number)) (has_no_argument c.arguments) e h.any);
  }

  named_each : (s : Bool) (x : NameUse) → Each size ws (behind_name ws s x) (IsSimple s)
  unfolding behind_name
  named_each s x =
      within_choice (kind ws) (mark_kind assign ∷ []) (after size ws (mark ws assign) (λ at. set_each s x at))
      (within_then (call_each size ws (s && is_step_word (word_at ws x.number)) x) (λ c h. ended_each _ (call_is_simple s x c h)))

  end_of_mark_each : (s : Bool) (a : ParsedStatement) → IsSimple s a → Each size ws (mark_end ws a) (IsSimple s)
  unfolding mark_end
  end_of_mark_each s a h = after size ws (mark ws right_paren) (λ _. ended_each a h)

  number_mark_each : (s : Bool) (n : ℕ) (x : NameUse) (a : ParsedStatement) → IsSimple s a → Each size ws (number_mark ws n x a) (IsSimple s)
  unfolding number_mark
  number_mark_each s n x a h =
      after size ws (fixed ws initialize_kind) (λ _. after size ws (marked_name ws x) (λ _. after size ws (mark ws comma) (λ _.
      after size ws (one (placed (is_number n))) (λ _. end_of_mark_each s a h))))

  pointer_mark_each : (s : Bool) (x : NameUse) (a : ParsedStatement) → IsSimple s a → Each size ws (pointer_mark ws x a) (IsSimple s)
  unfolding pointer_mark
  pointer_mark_each s x a h = after size ws (fixed ws initialize_pointer_kind) (λ _. after size ws (marked_name ws x) (λ _. end_of_mark_each s a h))

  mark_each : (s : Bool) (t : MonType) (x : NameUse) (a : ParsedStatement) → IsSimple s a → Each size ws (store_mark ws t x a) (IsSimple s)
  unfolding store_mark
  mark_each s t x a h = by (is_pointer t)
    where
      by : (b : Bool) → Each size ws (cond b (pointer_mark ws x a) (number_mark ws (byte_count t) x a)) (IsSimple s)
      by true = pointer_mark_each s x a h
      by false = number_mark_each s (byte_count t) x a h

  stored_each : (s : Bool) (t : MonType) (x : NameUse) → Each size ws (stored ws t x) (IsSimple s)
  unfolding stored
  stored_each s t x =
      after size ws (mark ws assign) (λ at. within_then (expression_each size ws) (λ e h. after size ws (mark ws semicolon)
      (λ _. mark_each s t x _ (record { within = h; flat = refl; plain = λ _. refl }))))

  store_each : (s : Bool) → Each size ws (store ws) (IsSimple s)
  unfolding store
  store_each s =
      after size ws (mark ws times) (λ _. after size ws (mark ws left_paren) (λ _. after size ws (pointed_type ws) (λ t.
      after size ws (name ws) (λ x. stored_each s t x))))

  jump_each : (s : Bool) → Each size ws (jump ws) (IsSimple s)
  unfolding jump
  jump_each s = after size ws (fixed ws goto_kind) (λ _. after size ws (name ws) (λ l. ended_each _ (record { within = tt; flat = refl; plain = λ _. refl })))

  returned_each : (s : Bool) (at : Place) → Each size ws (returned ws at) (IsSimple s)
  unfolding returned
  returned_each s at =
      within_choice (kind ws) first_expression (within_then (expression_each size ws) (λ e h. ended_each _ (record { within = h; flat = refl; plain = λ _. refl })))
      (ended_each _ (record { within = tt; flat = refl; plain = λ _. refl }))

  return_each : (s : Bool) → Each size ws (return_statement ws) (IsSimple s)
  unfolding return_statement
  return_each s = after size ws (fixed ws return_kind) (λ at. returned_each s at)

  -- ---- statements in which statements stand at most n deep, themselves included

  pub record IsNested (n : ℕ) (no_step : Bool) (a : ParsedStatement) : Type 0 where
    pub within : IsWithin ws size a
    pub deep : depth a ≤ n
    pub plain : no_step ≡ true → is_step ws a ≡ false
    pub room : 0 < n

  pub record AreNested (n : ℕ) (xs : ParsedStatements) : Type 0 where
    pub within : AreWithin ws size xs
    pub deep : depth_of_all xs ≤ n

  one_more_nested : (n : ℕ) (s : Bool) (xs : List ParsedStatement) (a : ParsedStatement) → AreNested n (parsed_list xs) → IsNested n s a → AreNested n (parsed_list (xs ++ a ∷ []))
  one_more_nested n s [] a h p = record { within = (p.within, tt); deep = max-le p.deep (omega arith) }
  one_more_nested n s (x ∷ xs) a h p =
      let first : max (depth x) (depth_of_all (parsed_list xs)) ≤ n = h.deep in
      let rest = one_more_nested n s xs a (record { within = h.within.1; deep = later (depth x) (depth_of_all (parsed_list xs)) n first }) p in
      record { within = (h.within.0, rest.within); deep = max-le (sooner (depth x) (depth_of_all (parsed_list xs)) n first) rest.deep }
    where
      later : (a b n : ℕ) → max a b ≤ n → b ≤ n
      later a b n h = le_trans (le-max_right a b) h

      sooner : (a b n : ℕ) → max a b ≤ n → a ≤ n
      sooner a b n h = le_trans (le-max_left a b) h

  one_more_plain : (xs : List ParsedStatement) (a : ParsedStatement) → has_no_step ws (parsed_list xs) ≡ true → is_step ws a ≡ false → has_no_step ws (parsed_list (xs ++ a ∷ [])) ≡ true
  one_more_plain [] a h e = rw e refl
  one_more_plain (x ∷ xs) a h e = and_later (not (is_step ws x)) _ _ (λ g. one_more_plain xs a g e) h

  -- one of a loop's parts
  record IsPart (n : ℕ) (xs : List ParsedStatement) : Type 0 where
    nested : AreNested n (parsed_list xs)
    plain : has_no_step ws (parsed_list xs) ≡ true

  one_more_in_part : (n : ℕ) (s : Bool) (xs : List ParsedStatement) (a : ParsedStatement) → IsPart n xs → IsNested n s a → is_step ws a ≡ false → IsPart n (xs ++ a ∷ [])
  one_more_in_part n s xs a h p e = record { nested = one_more_nested n s xs a h.nested p; plain = one_more_plain xs a h.plain e }

  no_part : (n : ℕ) → IsPart n []
  no_part n = record { nested = record { within = tt; deep = omega arith }; plain = refl }

  -- what stands after the step, which is itself a statement of the body
  abbrev IsBehind : ℕ → Option (List ParsedStatement) → Type 0
  IsBehind n None = Unit {0}
  IsBehind n (Some xs) = IsPart n xs × (0 < n)

  record IsLoop (n : ℕ) (x : LoopRead) : Type 0 where
    before : IsPart n x.before
    behind : IsBehind n x.behind

  loop_with : (n : ℕ) (before : List ParsedStatement) (behind : Option (List ParsedStatement)) (a : ParsedStatement) → IsPart n before → IsBehind n behind → IsNested n (has_step (record { before = before; behind = behind })) a
      → IsLoop n (with_statement ws (record { before = before; behind = behind }) a)
  loop_with n before None a h g p = by (is_step ws a) refl
    where
      by : (b : Bool) → is_step ws a ≡ b → IsLoop n (if b then record { before = before; behind = Some [] } else record { before = before ++ a ∷ []; behind = None })
      by true e = record { before = h; behind = (no_part n, p.room) }
      by false e = record { before = one_more_in_part n false before a h p e; behind = tt }
  loop_with n before (Some xs) a h g p = record { before = h; behind = (one_more_in_part n true xs a g.0 p (p.plain refl), g.1) }

  module _ (n : ℕ) {S : InBody ws} (s : (no_step : Bool) → Each size ws (S no_step) (IsNested n no_step)) where
    one_more_each : (xs : List ParsedStatement) → AreNested n (parsed_list xs) → Each size ws (one_more ws S xs) (λ ys. AreNested n (parsed_list ys))
    unfolding one_more
    one_more_each xs h = within_then (s false) (λ a p. within_gives _ (one_more_nested n false xs a h p))

    pub statements_each : Each size ws (statements ws S) (λ xs. AreNested n (parsed_list xs))
    unfolding statements
    statements_each = within_many (kind ws) (λ _. first_statement) {P = λ xs. AreNested n (parsed_list xs)} one_more_each [] (record { within = tt; deep = omega arith })

    body_each : Each size ws (body ws S) (AreNested n)
    unfolding body
    body_each = after size ws (mark ws left_brace) (λ _. within_then statements_each (λ xs h. after size ws (mark ws right_brace) (λ _. within_gives _ h)))

    selection_each : (no_step : Bool) → Each size ws (selection ws S) (IsNested (suc n) no_step)
    unfolding selection
    selection_each no_step =
        after size ws (fixed ws if_kind) (λ _. after size ws (mark ws left_paren) (λ _. within_then (expression_each size ws)
        (λ e h. after size ws (mark ws right_paren) (λ _. within_then body_each (λ a p. after size ws (fixed ws else_kind) (λ _. within_then body_each (λ b q. within_gives _ (
        let m : max (depth_of_all a) (depth_of_all b) ≤ n = max-le p.deep q.deep in
        record { within = (h, p.within, q.within); deep = omega (arith, m); plain = λ _. refl; room = omega arith }))))))))

    turn_each : (x : LoopRead) → IsLoop n x → Each size ws (one_more_in_loop ws S x) (IsLoop n)
    unfolding one_more_in_loop
    turn_each x h = within_then (s (has_step x)) (λ a p. within_gives _ (loop_with n x.before x.behind a h.before h.behind p))

    end_each : (no_step : Bool) (before : List ParsedStatement) (behind : Option (List ParsedStatement)) → IsPart n before → IsBehind n behind → Each size ws (loop_end ws (record { before = before; behind = behind })) (IsNested (suc n) no_step)
    unfolding loop_end
    end_each no_step before None h g = within_none
    end_each no_step before (Some xs) h g = after size ws (mark ws right_brace) (λ _. within_gives _ (
        let m : max 1 (max (depth_of_all (parsed_list before)) (depth_of_all (parsed_list xs))) ≤ n = max-le (omega (arith, g.1)) (max-le h.nested.deep g.0.nested.deep) in
        record { within = (h.plain, g.0.plain, h.nested.within, g.0.nested.within); deep = omega (arith, m); plain = λ _. refl; room = omega arith }))

    iteration_each : (no_step : Bool) → Each size ws (iteration ws S) (IsNested (suc n) no_step)
    unfolding iteration
    iteration_each no_step =
        after size ws (fixed ws while_kind) (λ _. after size ws (mark ws left_paren) (λ _. after size ws (one (placed (is_number 1))) (λ _. after size ws (mark ws right_paren) (λ _. after size ws (mark ws left_brace) (λ _.
        within_then (within_many (kind ws) (λ _. first_statement) {P = IsLoop n} turn_each nothing_read (record { before = no_part n; behind = tt })) (λ x h. end_each no_step x.before x.behind h.before h.behind))))))

    labelled_each : (no_step : Bool) → Each size ws (labelled ws S) (IsNested (suc n) no_step)
    unfolding labelled
    labelled_each no_step =
        within_then body_each (λ a p. within_then name_each (λ l h. after size ws (mark ws colon) (λ _. ended_each _ (record { within = (h, p.within); deep = let d = p.deep in omega (arith, d); plain = λ _. refl; room = omega arith }))))

    simple : (no_step : Bool) (a : ParsedStatement) → IsSimple no_step a → IsNested (suc n) no_step a
    simple no_step a h = record { within = h.within; deep = let f = h.flat in omega (arith, f); plain = h.plain; room = omega arith }

    with_each : (no_step : Bool) → Each size ws (statement_with ws S no_step) (IsNested (suc n) no_step)
    unfolding statement_with
    with_each no_step =
        within_choice (kind ws) (name_kind ∷ []) (within_more (simple no_step) (after size ws (name ws) (λ x. named_each no_step x)))
        (within_choice (kind ws) (mark_kind times ∷ []) (within_more (simple no_step) (store_each no_step))
        (within_choice (kind ws) (mark_kind left_brace ∷ []) (labelled_each no_step)
        (within_choice (kind ws) (if_kind ∷ []) (selection_each no_step)
        (within_choice (kind ws) (while_kind ∷ []) (iteration_each no_step)
        (within_choice (kind ws) (goto_kind ∷ []) (within_more (simple no_step) (jump_each no_step)) (within_more (simple no_step) (return_each no_step)))))))

  pub statement_each : (n : ℕ) (no_step : Bool) → Each size ws (statement_in ws n no_step) (IsNested n no_step)
  unfolding statement_in
  statement_each zero no_step = within_deep nesting_limit first_statement (statement_with_good ws (λ _. none_good ws ParsedStatement false first_statement) no_step).here
  statement_each (suc n) no_step = with_each n (statement_each n) no_step
