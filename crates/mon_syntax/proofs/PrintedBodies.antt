-- What the productions of statements with bodies, and of lists of statements, read, given what their parts read.
use Rattle.std.proofs.Common.{◌≡◌, ℕ, Bool, true, false, ◌&&◌, List, [], ◌∷◌, ◌++◌, Some, None, Ok, pos, refl, sym, ap, ◌∙◌, append_assoc}
use Rattle.std.proofs.lemmas.List.{append-nil}
use Rattle.grammar.specs.Syntax.{Syntax, sees, many}
use Rattle.grammar.proofs.Productions.{turn, turn_ends}
use Rattle.c_syntax.specs.declared.place.Place.{Place}
use Rattle.c_syntax.specs.Tokens as token
use Rattle.c_syntax.specs.Tokens.{PlainToken}
use Rattle.c_model.specs.MonitoredTokens as made
use Rattle.c_model.specs.Punctuators.{colon, semicolon, times, left_paren, right_paren, left_brace, right_brace}
use Rattle.mon_syntax.specs.Parsed.{ParsedExpression, ParsedStatement, If, Loop, Labelled, Goto, Return}
use Rattle.mon_syntax.specs.Grammar.{Vocabulary, InBody, LoopRead, nothing_read, is_step, parsed_list, name_kind, if_kind, else_kind, while_kind, goto_kind, return_kind, mark_kind}
use Rattle.mon_syntax.specs.Grammar.{word_kind, word_at, kind, is_number, first_expression, first_statement, expression_in, expression, one_more, statements, body, selection, one_more_in_loop, loop_end, iteration, labelled, jump, returned}
use Rattle.mon_syntax.specs.Grammar.{return_statement, statement_with, statement_in}
use Rattle.mon_syntax.proofs.ExactStatements.{one_more_good, one_more_in_loop_good, statement_good}
use Rattle.mon_syntax.proofs.PrintedSteps.{mark_read, fixed_read, placed_read, name_read, sees_mark, sees_word}
use Rattle.mon_syntax.proofs.PrintedExpressions.{Begins}
use Rattle.mon_syntax.proofs.PrintedCalls.{ended_read}

-- ---- statements that follow one another

-- the tokens are read as these statements, one after the other, each with at most so many in one another
abbrev pub AreRead : Vocabulary → ℕ → List ParsedStatement → List PlainToken → List PlainToken → Type 0
AreRead ws n [] ts rest = ts ≡ rest
AreRead ws n (x ∷ xs) ts rest =
    (mid : List PlainToken) × (sees (kind ws) first_statement ts ≡ true) × ((no_step : Bool) → no_step && is_step ws x ≡ false → (statement_in ws n no_step).parse ts ≡ Ok (x, mid)) × AreRead ws n xs mid rest

-- none is a step
abbrev pub AreNoSteps : Vocabulary → List ParsedStatement → Type 0
AreNoSteps ws [] = Unit {0}
AreNoSteps ws (x ∷ xs) = (is_step ws x ≡ false) × AreNoSteps ws xs

module _ (ws : Vocabulary) (n : ℕ) where
  abbrev pub S : InBody ws
  S = statement_in ws n

  abbrev pub more_statements : List ParsedStatement → Syntax PlainToken (List ParsedStatement)
  more_statements = many (kind ws) (λ _. first_statement) (one_more ws S)

  abbrev pub more_in_loop : LoopRead → Syntax PlainToken LoopRead
  more_in_loop = many (kind ws) (λ _. first_statement) (one_more_in_loop ws S)

  one_read : (xs : List ParsedStatement) (ts : List PlainToken) {x : ParsedStatement} {mid : List PlainToken} → (S false).parse ts ≡ Ok (x, mid) → (one_more ws S xs).parse ts ≡ Ok (xs ++ (x ∷ []), mid)
  unfolding one_more
  one_read xs ts e = rw e refl

  statements_turn : (xs : List ParsedStatement) (x : ParsedStatement) (ts mid : List PlainToken) → sees (kind ws) first_statement ts ≡ true → (S false).parse ts ≡ Ok (x, mid)
      → (more_statements xs).parse ts ≡ (more_statements (xs ++ (x ∷ []))).parse mid
  statements_turn xs x ts mid s e = turn first_statement (one_more ws S) (λ z. (one_more_good ws (statement_good ws n) z).here) refl xs (xs ++ (x ∷ [])) ts mid s (one_read xs ts e)

  statements_end : (xs : List ParsedStatement) (ts : List PlainToken) → sees (kind ws) first_statement ts ≡ false → (more_statements xs).parse ts ≡ Ok (xs, ts)
  statements_end xs ts s = turn_ends first_statement (one_more ws S) (λ z. (one_more_good ws (statement_good ws n) z).here) refl xs ts s

  loop_turn : (x y : LoopRead) (ts mid : List PlainToken) → sees (kind ws) first_statement ts ≡ true → (one_more_in_loop ws S x).parse ts ≡ Ok (y, mid) → (more_in_loop x).parse ts ≡ (more_in_loop y).parse mid
  loop_turn x y ts mid s e = turn first_statement (one_more_in_loop ws S) (λ z. (one_more_in_loop_good ws (statement_good ws n) z).here) refl x y ts mid s e

  loop_stops : (x : LoopRead) (ts : List PlainToken) → sees (kind ws) first_statement ts ≡ false → (more_in_loop x).parse ts ≡ Ok (x, ts)
  loop_stops x ts s = turn_ends first_statement (one_more_in_loop ws S) (λ z. (one_more_in_loop_good ws (statement_good ws n) z).here) refl x ts s

  statements_read : (ys xs : List ParsedStatement) (ts rest : List PlainToken) → AreRead ws n ys ts rest → sees (kind ws) first_statement rest ≡ false → (more_statements xs).parse ts ≡ Ok (xs ++ ys, rest)
  statements_read [] xs ts rest h s = ap (more_statements xs).parse h ∙ statements_end xs rest s ∙ ap (λ (l : List ParsedStatement). Ok (l, rest)) (sym (append-nil xs))
  statements_read (y ∷ ys) xs ts rest h s =
      statements_turn xs y ts h.0 h.1 (h.2 false refl) ∙ statements_read ys (xs ++ (y ∷ [])) h.0 rest h.3 s ∙ ap (λ (l : List ParsedStatement). Ok (l, rest)) (append_assoc xs (y ∷ []) ys)

  -- the statements of a loop before its step, and after it
  abbrev pub before_step : List ParsedStatement → LoopRead
  before_step xs = record { before = xs; behind = None }

  abbrev pub behind_step : List ParsedStatement → List ParsedStatement → LoopRead
  behind_step before xs = record { before = before; behind = Some xs }

  one_before : (xs : List ParsedStatement) (x : ParsedStatement) (ts : List PlainToken) {mid : List PlainToken} → is_step ws x ≡ false → (S false).parse ts ≡ Ok (x, mid)
      → (one_more_in_loop ws S (before_step xs)).parse ts ≡ Ok (before_step (xs ++ (x ∷ [])), mid)
  unfolding one_more_in_loop
  one_before xs x ts h e = rw (e, h) refl

  the_step : (xs : List ParsedStatement) (x : ParsedStatement) (ts : List PlainToken) {mid : List PlainToken} → is_step ws x ≡ true → (S false).parse ts ≡ Ok (x, mid) → (one_more_in_loop ws S (before_step xs)).parse ts ≡ Ok (behind_step xs [], mid)
  unfolding one_more_in_loop
  the_step xs x ts h e = rw (e, h) refl

  one_behind : (before xs : List ParsedStatement) (x : ParsedStatement) (ts : List PlainToken) {mid : List PlainToken} → (S true).parse ts ≡ Ok (x, mid)
      → (one_more_in_loop ws S (behind_step before xs)).parse ts ≡ Ok (behind_step before (xs ++ (x ∷ [])), mid)
  unfolding one_more_in_loop
  one_behind before xs x ts e = rw e refl

  loop_before : (ys xs : List ParsedStatement) (ts rest : List PlainToken) → AreNoSteps ws ys → AreRead ws n ys ts rest → (more_in_loop (before_step xs)).parse ts ≡ (more_in_loop (before_step (xs ++ ys))).parse rest
  loop_before [] xs ts rest free h = ap (more_in_loop (before_step xs)).parse h ∙ ap (λ (l : List ParsedStatement). (more_in_loop (before_step l)).parse rest) (sym (append-nil xs))
  loop_before (y ∷ ys) xs ts rest free h =
      loop_turn (before_step xs) (before_step (xs ++ (y ∷ []))) ts h.0 h.1 (one_before xs y ts free.0 (h.2 false refl)) ∙ loop_before ys (xs ++ (y ∷ [])) h.0 rest free.1 h.3
      ∙ ap (λ (l : List ParsedStatement). (more_in_loop (before_step l)).parse rest) (append_assoc xs (y ∷ []) ys)

  loop_behind : (before ys xs : List ParsedStatement) (ts rest : List PlainToken) → AreNoSteps ws ys → AreRead ws n ys ts rest → sees (kind ws) first_statement rest ≡ false
      → (more_in_loop (behind_step before xs)).parse ts ≡ Ok (behind_step before (xs ++ ys), rest)
  loop_behind before [] xs ts rest free h s = ap (more_in_loop (behind_step before xs)).parse h ∙ loop_stops (behind_step before xs) rest s ∙ ap (λ (l : List ParsedStatement). Ok (behind_step before l, rest)) (sym (append-nil xs))
  loop_behind before (y ∷ ys) xs ts rest free h s =
      loop_turn (behind_step before xs) (behind_step before (xs ++ (y ∷ []))) ts h.0 h.1 (one_behind before xs y ts (h.2 true free.0)) ∙ loop_behind before ys (xs ++ (y ∷ [])) h.0 rest free.1 h.3 s
      ∙ ap (λ (l : List ParsedStatement). Ok (behind_step before l, rest)) (append_assoc xs (y ∷ []) ys)

  loop_read : (xs ys : List ParsedStatement) (x : ParsedStatement) (ts us : List PlainToken) {vs rest : List PlainToken} → AreNoSteps ws xs → AreRead ws n xs ts us → sees (kind ws) first_statement us ≡ true → is_step ws x ≡ true
      → (S false).parse us ≡ Ok (x, vs) → AreNoSteps ws ys → AreRead ws n ys vs rest → sees (kind ws) first_statement rest ≡ false → (more_in_loop nothing_read).parse ts ≡ Ok (behind_step xs ys, rest)
  loop_read xs ys x ts us {vs} {rest} before front s step e after back stop = loop_before xs [] ts us before front ∙ loop_turn (before_step xs) (behind_step xs []) us vs s (the_step xs x us step e) ∙ loop_behind xs ys [] vs rest after back stop

  -- ---- bodies

  pub list_read : (xs : List ParsedStatement) (ts : List PlainToken) {rest : List PlainToken} → AreRead ws n xs ts rest → sees (kind ws) first_statement rest ≡ false → (statements ws S).parse ts ≡ Ok (xs, rest)
  unfolding statements
  list_read xs ts {rest} h s = statements_read xs [] ts rest h s

  pub body_read : (xs : List ParsedStatement) {at end : Place} {ts us r rest : List PlainToken} → ts ≡ made.token at (token.Mark left_brace) ∷ us → AreRead ws n xs us r → r ≡ made.token end (token.Mark right_brace) ∷ rest
      → (body ws S).parse ts ≡ Ok (parsed_list xs, rest)
  unfolding body
  body_read xs {us = us} t h c = rw (mark_read ws left_brace t, list_read xs us h (sees_mark ws right_brace c first_statement false refl), mark_read ws right_brace c) refl

  -- ---- statements with bodies

  pub selection_read : (k m : ℕ) (a b : List ParsedStatement) {at opening closing a_at a_end other b_at b_end : Place} {ts t1 t2 t3 t4 t5 t6 t7 t8 t9 r rest : List PlainToken} {e : ParsedExpression}
      → ts ≡ made.token at (token.Word k) ∷ t1 → word_kind (word_at ws k) ≡ if_kind → t1 ≡ made.token opening (token.Mark left_paren) ∷ t2 → (expression_in ws 2000).parse t2 ≡ Ok (e, t3) → t3 ≡ made.token closing (token.Mark right_paren) ∷ t4
      → t4 ≡ made.token a_at (token.Mark left_brace) ∷ t5 → AreRead ws n a t5 t6 → t6 ≡ made.token a_end (token.Mark right_brace) ∷ t7
      → t7 ≡ made.token other (token.Word m) ∷ t8 → word_kind (word_at ws m) ≡ else_kind
      → t8 ≡ made.token b_at (token.Mark left_brace) ∷ t9 → AreRead ws n b t9 r → r ≡ made.token b_end (token.Mark right_brace) ∷ rest
      → (no_step : Bool) → (statement_with ws S no_step).parse ts ≡ Ok (If e (parsed_list a) (parsed_list b), rest)
  unfolding statement_with selection expression
  selection_read k m a b t w t1 e t3 t4 h t6 t7 v t8 g r no_step =
      let kind_is = sees_word ws k if_kind t w in
      rw (
        kind_is (name_kind ∷ []) false refl,
        kind_is (mark_kind times ∷ []) false refl,
        kind_is (mark_kind left_brace ∷ []) false refl,
        kind_is (if_kind ∷ []) true refl,
        fixed_read ws if_kind k t w,
        mark_read ws left_paren t1,
        e,
        mark_read ws right_paren t3,
        body_read a t4 h t6,
        fixed_read ws else_kind m t7 v,
        body_read b t8 g r,
      ) refl

  pub iteration_read : (k : ℕ) (xs ys : List ParsedStatement) (x : ParsedStatement) (t6 : List PlainToken) {at opening one closing start end : Place} {ts t1 t2 t3 t4 t5 t7 r rest : List PlainToken}
      → ts ≡ made.token at (token.Word k) ∷ t1 → word_kind (word_at ws k) ≡ while_kind → t1 ≡ made.token opening (token.Mark left_paren) ∷ t2 → t2 ≡ made.token one (token.Number (pos 1) None) ∷ t3
      → t3 ≡ made.token closing (token.Mark right_paren) ∷ t4
      → t4 ≡ made.token start (token.Mark left_brace) ∷ t5 → AreNoSteps ws xs → AreRead ws n xs t5 t6 → sees (kind ws) first_statement t6 ≡ true → is_step ws x ≡ true → (S false).parse t6 ≡ Ok (x, t7)
      → AreNoSteps ws ys → AreRead ws n ys t7 r → r ≡ made.token end (token.Mark right_brace) ∷ rest
      → (no_step : Bool) → (statement_with ws S no_step).parse ts ≡ Ok (Loop (parsed_list xs) (parsed_list ys), rest)
  unfolding statement_with iteration loop_end
  iteration_read k xs ys x t6 {t5 = t5} t w t1 t2 t3 t4 before front s step e after back r no_step =
      let kind_is = sees_word ws k while_kind t w in
      rw (
        kind_is (name_kind ∷ []) false refl,
        kind_is (mark_kind times ∷ []) false refl,
        kind_is (mark_kind left_brace ∷ []) false refl,
        kind_is (if_kind ∷ []) false refl,
        kind_is (while_kind ∷ []) true refl,
        fixed_read ws while_kind k t w,
        mark_read ws left_paren t1,
        placed_read ws (is_number 1) (token.Number (pos 1) None) tt t2 refl,
        mark_read ws right_paren t3,
        mark_read ws left_brace t4,
        loop_read xs ys x t5 t6 before front s step e after back (sees_mark ws right_brace r first_statement false refl),
        mark_read ws right_brace r,
      ) refl

  pub labelled_read : (k : ℕ) (a : List ParsedStatement) {at end label colon_at semicolon_at : Place} {ts t1 t2 t3 t4 t5 rest : List PlainToken}
      → ts ≡ made.token at (token.Mark left_brace) ∷ t1 → AreRead ws n a t1 t2 → t2 ≡ made.token end (token.Mark right_brace) ∷ t3 → t3 ≡ made.token label (token.Word k) ∷ t4 → word_kind (word_at ws k) ≡ name_kind
      → t4 ≡ made.token colon_at (token.Mark colon) ∷ t5 → t5 ≡ made.token semicolon_at (token.Mark semicolon) ∷ rest
      → (no_step : Bool) → (statement_with ws S no_step).parse ts ≡ Ok (Labelled (parsed_list a) (record { place = label; number = k }), rest)
  unfolding statement_with labelled
  labelled_read k a {label = label} t h t2 t3 w t4 t5 no_step =
      rw (
        sees_mark ws left_brace t (name_kind ∷ []) false refl,
        sees_mark ws left_brace t (mark_kind times ∷ []) false refl,
        sees_mark ws left_brace t (mark_kind left_brace ∷ []) true refl,
        body_read a t h t2,
        name_read ws k t3 w,
        mark_read ws colon t4,
        ended_read ws (Labelled (parsed_list a) (record { place = label; number = k })) t5,
      ) refl

  -- ---- jumps

  pub jump_read : (k m : ℕ) {at label end : Place} {ts t1 t2 rest : List PlainToken} → ts ≡ made.token at (token.Word k) ∷ t1 → word_kind (word_at ws k) ≡ goto_kind → t1 ≡ made.token label (token.Word m) ∷ t2 → word_kind (word_at ws m) ≡ name_kind
      → t2 ≡ made.token end (token.Mark semicolon) ∷ rest
      → (no_step : Bool) → (statement_with ws S no_step).parse ts ≡ Ok (Goto (record { place = label; number = m }), rest)
  unfolding statement_with jump
  jump_read k m {label = label} t w t1 v t2 no_step =
      let kind_is = sees_word ws k goto_kind t w in
      rw (
        kind_is (name_kind ∷ []) false refl,
        kind_is (mark_kind times ∷ []) false refl,
        kind_is (mark_kind left_brace ∷ []) false refl,
        kind_is (if_kind ∷ []) false refl,
        kind_is (while_kind ∷ []) false refl,
        kind_is (goto_kind ∷ []) true refl,
        fixed_read ws goto_kind k t w,
        name_read ws m t1 v,
        ended_read ws (Goto (record { place = label; number = m })) t2,
      ) refl

  module _ (k : ℕ) {at : Place} {ts us : List PlainToken} (t : ts ≡ made.token at (token.Word k) ∷ us) (w : word_kind (word_at ws k) ≡ return_kind) where
    return_is : (no_step : Bool) → (statement_with ws S no_step).parse ts ≡ (returned ws at).parse us
    unfolding statement_with return_statement
    return_is no_step =
        let kind_is = sees_word ws k return_kind t w in
        rw (
          kind_is (name_kind ∷ []) false refl,
          kind_is (mark_kind times ∷ []) false refl,
          kind_is (mark_kind left_brace ∷ []) false refl,
          kind_is (if_kind ∷ []) false refl,
          kind_is (while_kind ∷ []) false refl,
          kind_is (goto_kind ∷ []) false refl,
          fixed_read ws return_kind k t w,
        ) refl

    pub return_read : {end : Place} {rest : List PlainToken} → us ≡ made.token end (token.Mark semicolon) ∷ rest → (no_step : Bool) → (statement_with ws S no_step).parse ts ≡ Ok (Return at None, rest)
    unfolding returned
    return_read u no_step = rw (return_is no_step, sees_mark ws semicolon u first_expression false refl, ended_read ws (Return at None) u) refl

    pub return_value_read : {end : Place} {r rest : List PlainToken} {e : ParsedExpression} → Begins ws us → (expression_in ws 2000).parse us ≡ Ok (e, r) → r ≡ made.token end (token.Mark semicolon) ∷ rest → (no_step : Bool)
        → (statement_with ws S no_step).parse ts ≡ Ok (Return at (Some e), rest)
    unfolding returned expression
    return_value_read {e = e} b p r no_step = rw (return_is no_step, b first_expression true refl refl refl, p, ended_read ws (Return at (Some e)) r) refl
