-- What the productions of calls, assignments and stores read, given what their parts read.
use Rattle.std.proofs.Common.{◌≡◌, ℕ, Bool, true, false, cond, ◌&&◌, List, [], ◌∷◌, ◌++◌, Some, None, Ok, pos, refl, ap, eq-eqb, arith}
use Rattle.std.specs.Ordering.{int_eq}
use Rattle.std.proofs.lemmas.Int.{ints}
use Rattle.grammar.specs.Syntax.{Syntax, sees, many}
use Rattle.grammar.proofs.Productions.{turn, turn_ends}
use Rattle.c_syntax.specs.declared.place.Place.{Place}
use Rattle.c_syntax.specs.Tokens as token
use Rattle.c_syntax.specs.Tokens.{PlainToken}
use Rattle.c_model.specs.MonitoredTokens as made
use Rattle.c_model.specs.Punctuators.{assign, semicolon, comma, times, left_paren, right_paren}
use Rattle.mon_syntax.specs.Parsed.{NameUse, ParsedExpression, Name, ParsedArgument, Value, Number, Text, ParsedCall, ParsedStatement, Set, Store, Take, Call}
use Rattle.mon_syntax.specs.declared.tree.MonType.{MonType}
use Rattle.mon_syntax.specs.Grammar.{Vocabulary, InBody, is_step_word, name_kind, number_kind, text_kind, mark_kind, word_kind, word_at, kind, number_of, text_of, is_number, is_same_name, initialize_kind, initialize_pointer_kind, first_argument}
use Rattle.mon_syntax.specs.Grammar.{expression_in}
use Rattle.mon_syntax.specs.Grammar.{expression, expression_but_name, opened, behind_opened, other_expression, argument, next_argument, some_arguments, arguments, call_of, ended, set_to_call, set_to_name, set_to, behind_name, marked_name, mark_end}
use Rattle.mon_syntax.specs.Grammar.{number_mark, pointer_mark, store_mark, stored, store, statement_with}
use Rattle.mon_syntax.specs.Grammar as form
use Rattle.mon_syntax.proofs.ExactExpressions.{next_argument_good}
use Rattle.mon_syntax.proofs.PrintedSteps.{mark_read, fixed_read, placed_read, name_read, sees_mark, sees_word}
use Rattle.mon_syntax.proofs.PrintedExpressions.{Begins}

same_number : (n : ℕ) → int_eq (pos n) (pos n) ≡ true
same_number n = grind (arith, ints)

module _ (ws : Vocabulary) where
  -- ---- arguments and calls

  pub value_read : (ts : List PlainToken) {rest : List PlainToken} {x : ParsedExpression} → Begins ws ts → (expression_in ws 2000).parse ts ≡ Ok (x, rest) → (argument ws).parse ts ≡ Ok (Value x, rest)
  unfolding argument expression
  value_read ts b e = rw (b (number_kind ∷ []) false refl refl refl, b (text_kind ∷ []) false refl refl refl, e) refl

  pub number_read : (n : ℕ) {at : Place} {ts more : List PlainToken} → ts ≡ made.token at (token.Number (pos n) None) ∷ more → (argument ws).parse ts ≡ Ok (Number at (pos n), more)
  unfolding argument
  number_read n {at} {ts} {more} t =
      let is : sees (kind ws) (number_kind ∷ []) ts ≡ true = ap (sees (kind ws) (number_kind ∷ [])) t in
      rw (is, placed_read ws number_of (token.Number (pos n) None) (pos n) t refl) refl

  pub text_read : (bytes : List ℕ) {at : Place} {ts more : List PlainToken} → ts ≡ made.token at (token.Chars bytes) ∷ more → (argument ws).parse ts ≡ Ok (Text at bytes, more)
  unfolding argument
  text_read bytes {at} {ts} {more} t =
      let no : sees (kind ws) (number_kind ∷ []) ts ≡ false = ap (sees (kind ws) (number_kind ∷ [])) t in
      let is : sees (kind ws) (text_kind ∷ []) ts ≡ true = ap (sees (kind ws) (text_kind ∷ [])) t in
      rw (no, is, placed_read ws text_of (token.Chars bytes) bytes t refl) refl

  -- arguments after those that are read
  abbrev pub more_arguments : List ParsedArgument → Syntax PlainToken (List ParsedArgument)
  more_arguments = many (kind ws) (λ _. mark_kind comma ∷ []) (next_argument ws)

  comma_read : (xs : List ParsedArgument) {at : Place} {ts more rest : List PlainToken} {x : ParsedArgument} → ts ≡ made.token at (token.Mark comma) ∷ more → (argument ws).parse more ≡ Ok (x, rest)
      → (next_argument ws xs).parse ts ≡ Ok (xs ++ (x ∷ []), rest)
  unfolding next_argument
  comma_read xs t e = rw (mark_read ws comma t, e) refl

  pub next_read : (xs : List ParsedArgument) {at : Place} {ts more rest : List PlainToken} {x : ParsedArgument} → ts ≡ made.token at (token.Mark comma) ∷ more → (argument ws).parse more ≡ Ok (x, rest)
      → (more_arguments xs).parse ts ≡ (more_arguments (xs ++ (x ∷ []))).parse rest
  next_read xs {at} {ts} {more} {rest} {x} t e = turn (mark_kind comma ∷ []) (next_argument ws) (λ z. (next_argument_good ws z).here) refl xs (xs ++ (x ∷ [])) ts rest (sees_mark ws comma t (mark_kind comma ∷ []) true refl) (comma_read xs t e)

  pub no_more_read : (xs : List ParsedArgument) {at : Place} {ts rest : List PlainToken} → ts ≡ made.token at (token.Mark right_paren) ∷ rest → (more_arguments xs).parse ts ≡ Ok (xs, ts)
  no_more_read xs {at} {ts} {rest} t = turn_ends (mark_kind comma ∷ []) (next_argument ws) (λ z. (next_argument_good ws z).here) refl xs ts (sees_mark ws right_paren t (mark_kind comma ∷ []) false refl)

  pub arguments_read : (ts : List PlainToken) {r rest : List PlainToken} {x : ParsedArgument} {xs : List ParsedArgument} → sees (kind ws) first_argument ts ≡ true → (argument ws).parse ts ≡ Ok (x, r)
      → (more_arguments (x ∷ [])).parse r ≡ Ok (xs, rest) → (arguments ws false).parse ts ≡ Ok (xs, rest)
  unfolding arguments some_arguments
  arguments_read ts s e m = rw (s, e, m) refl

  pub no_argument_read : {at : Place} {ts rest : List PlainToken} → ts ≡ made.token at (token.Mark right_paren) ∷ rest → (arguments ws false).parse ts ≡ Ok ([], ts)
  unfolding arguments
  no_argument_read t = rw (sees_mark ws right_paren t first_argument false refl) refl

  pub call_read : (f : NameUse) {at end : Place} {ts us r rest : List PlainToken} {xs : List ParsedArgument} → ts ≡ made.token at (token.Mark left_paren) ∷ us → (arguments ws false).parse us ≡ Ok (xs, r)
      → r ≡ made.token end (token.Mark right_paren) ∷ rest → (call_of ws false f).parse ts ≡ Ok (record { callee = f; place = at; arguments = xs }, rest)
  unfolding call_of
  call_read f t e c = rw (mark_read ws left_paren t, e, mark_read ws right_paren c) refl

  pub ended_read : (a : ParsedStatement) {at : Place} {ts rest : List PlainToken} → ts ≡ made.token at (token.Mark semicolon) ∷ rest → (ended ws a).parse ts ≡ Ok (a, rest)
  unfolding ended
  ended_read a t = rw (mark_read ws semicolon t) refl

  -- ---- statements that begin with a name

  module _ (S : InBody ws) (no_step : Bool) where
    pub name_statement : (n : ℕ) {at : Place} {ts us rest : List PlainToken} {a : ParsedStatement} → ts ≡ made.token at (token.Word n) ∷ us → word_kind (word_at ws n) ≡ name_kind
        → (behind_name ws no_step (record { place = at; number = n })).parse us ≡ Ok (a, rest) → (statement_with ws S no_step).parse ts ≡ Ok (a, rest)
    unfolding statement_with
    name_statement n t w e = rw (sees_word ws n name_kind t w (name_kind ∷ []) true refl, name_read ws n t w, e) refl

    -- NAME(..);
    pub call_behind : (x : NameUse) {opening end : Place} {ts us r rest : List PlainToken} {c : ParsedCall} → no_step && is_step_word (word_at ws x.number) ≡ false → ts ≡ made.token opening (token.Mark left_paren) ∷ us
        → (call_of ws false x).parse ts ≡ Ok (c, r) → r ≡ made.token end (token.Mark semicolon) ∷ rest → (behind_name ws no_step x).parse ts ≡ Ok (Call c, rest)
    unfolding behind_name
    call_behind x {c = c} flag t e s = rw (sees_mark ws left_paren t (mark_kind assign ∷ []) false refl, flag, e, ended_read (Call c) s) refl

    -- = NAME(..);
    pub take_behind : (x : NameUse) (n : ℕ) {at to opening end : Place} {ts us vs zs r rest : List PlainToken} {c : ParsedCall} → ts ≡ made.token at (token.Mark assign) ∷ us → us ≡ made.token to (token.Word n) ∷ vs
        → word_kind (word_at ws n) ≡ name_kind → vs ≡ made.token opening (token.Mark left_paren) ∷ zs → (call_of ws false (record { place = to; number = n })).parse vs ≡ Ok (c, r) → r ≡ made.token end (token.Mark semicolon) ∷ rest
        → (behind_name ws no_step x).parse ts ≡ Ok (Take x at c, rest)
    unfolding behind_name set_to set_to_name set_to_call
    take_behind x n {at} {c = c} t u w v e s =
        rw (
          sees_mark ws assign t (mark_kind assign ∷ []) true refl,
          mark_read ws assign t,
          sees_word ws n name_kind u w (name_kind ∷ []) true refl,
          name_read ws n u w,
          sees_mark ws left_paren v (mark_kind left_paren ∷ []) true refl,
          e,
          ended_read (Take x at c) s,
        ) refl

    -- = NAME;
    pub set_name_behind : (x : NameUse) (n : ℕ) {at to end : Place} {ts us vs rest : List PlainToken} → ts ≡ made.token at (token.Mark assign) ∷ us → us ≡ made.token to (token.Word n) ∷ vs → word_kind (word_at ws n) ≡ name_kind
        → vs ≡ made.token end (token.Mark semicolon) ∷ rest → (behind_name ws no_step x).parse ts ≡ Ok (Set x at (Name (record { place = to; number = n })), rest)
    unfolding behind_name set_to set_to_name
    set_name_behind x n {at} {to} t u w s =
        rw (
          sees_mark ws assign t (mark_kind assign ∷ []) true refl,
          mark_read ws assign t,
          sees_word ws n name_kind u w (name_kind ∷ []) true refl,
          name_read ws n u w,
          sees_mark ws semicolon s (mark_kind left_paren ∷ []) false refl,
          ended_read (Set x at (Name (record { place = to; number = n }))) s,
        ) refl

    -- = EXPRESSION;
    pub set_behind : (x : NameUse) {at end : Place} {ts us r rest : List PlainToken} {e : ParsedExpression} → ts ≡ made.token at (token.Mark assign) ∷ us → sees (kind ws) (name_kind ∷ []) us ≡ false
        → (other_expression ws (opened ws 2000) (behind_opened ws 2000)).parse us ≡ Ok (e, r) → r ≡ made.token end (token.Mark semicolon) ∷ rest → (behind_name ws no_step x).parse ts ≡ Ok (Set x at e, rest)
    unfolding behind_name set_to expression_but_name
    set_behind x {at} {e = e} t u p s = rw (sees_mark ws assign t (mark_kind assign ∷ []) true refl, mark_read ws assign t, u, p, ended_read (Set x at e) s) refl

  -- ---- stores and their marks

  marked_read : (n : ℕ) (place : Place) {opening at : Place} {ts us rest : List PlainToken} → ts ≡ made.token opening (token.Mark left_paren) ∷ us → us ≡ made.token at (token.Word n) ∷ rest
      → (marked_name ws (record { place = place; number = n })).parse ts ≡ Ok (at, rest)
  unfolding marked_name
  marked_read n place t u =
      let same : is_same_name n (token.Word n) ≡ Some tt = ap (λ (b : Bool). cond b (Some tt) None) (eq-eqb n n refl) in
      rw (mark_read ws left_paren t, placed_read ws (is_same_name n) (token.Word n) tt u same) refl

  mark_ends : (a : ParsedStatement) {closing end : Place} {ts us rest : List PlainToken} → ts ≡ made.token closing (token.Mark right_paren) ∷ us → us ≡ made.token end (token.Mark semicolon) ∷ rest
      → (mark_end ws a).parse ts ≡ Ok (a, rest)
  unfolding mark_end
  mark_ends a t u = rw (mark_read ws right_paren t, ended_read a u) refl

  number_is : (n : ℕ) → is_number n (token.Number (pos n) None) ≡ Some tt
  number_is n = ap (λ (b : Bool). cond b (Some tt) None) (same_number n)

  pub number_mark_read : (size k n : ℕ) (place : Place) (a : ParsedStatement) {at opening to second bytes closing end : Place} {ts t1 t2 t3 t4 t5 t6 rest : List PlainToken} → ts ≡ made.token at (token.Word k) ∷ t1
      → word_kind (word_at ws k) ≡ initialize_kind → t1 ≡ made.token opening (token.Mark left_paren) ∷ t2 → t2 ≡ made.token to (token.Word n) ∷ t3 → t3 ≡ made.token second (token.Mark comma) ∷ t4
      → t4 ≡ made.token bytes (token.Number (pos size) None) ∷ t5 → t5 ≡ made.token closing (token.Mark right_paren) ∷ t6 → t6 ≡ made.token end (token.Mark semicolon) ∷ rest
      → (number_mark ws size (record { place = place; number = n }) a).parse ts ≡ Ok (a, rest)
  unfolding number_mark
  number_mark_read size k n place a t w t1 t2 t3 t4 t5 t6 =
      rw (
        fixed_read ws initialize_kind k t w,
        marked_read n place t1 t2,
        mark_read ws comma t3,
        placed_read ws (is_number size) (token.Number (pos size) None) tt t4 (number_is size),
        mark_ends a t5 t6,
      ) refl

  pub pointer_mark_read : (k n : ℕ) (place : Place) (a : ParsedStatement) {at opening to closing end : Place} {ts t1 t2 t3 t4 rest : List PlainToken} → ts ≡ made.token at (token.Word k) ∷ t1
      → word_kind (word_at ws k) ≡ initialize_pointer_kind → t1 ≡ made.token opening (token.Mark left_paren) ∷ t2 → t2 ≡ made.token to (token.Word n) ∷ t3 → t3 ≡ made.token closing (token.Mark right_paren) ∷ t4
      → t4 ≡ made.token end (token.Mark semicolon) ∷ rest → (pointer_mark ws (record { place = place; number = n }) a).parse ts ≡ Ok (a, rest)
  unfolding pointer_mark
  pointer_mark_read k n place a t w t1 t2 t3 t4 = rw (fixed_read ws initialize_pointer_kind k t w, marked_read n place t1 t2, mark_ends a t3 t4) refl

  stored_read : (k : MonType) (x : NameUse) {at end : Place} {ts us r vs rest : List PlainToken} {e : ParsedExpression} → ts ≡ made.token at (token.Mark assign) ∷ us → (expression_in ws 2000).parse us ≡ Ok (e, r)
      → r ≡ made.token end (token.Mark semicolon) ∷ vs → (store_mark ws k x (Store k x at e)).parse vs ≡ Ok (Store k x at e, rest) → (stored ws k x).parse ts ≡ Ok (Store k x at e, rest)
  unfolding stored expression
  stored_read k x t e s m = rw (mark_read ws assign t, e, mark_read ws semicolon s, m) refl

  pub store_read : (S : InBody ws) (no_step : Bool) (k : MonType) (n : ℕ) {start opening name_at at end : Place} {ts t1 t2 t3 t4 us r vs rest : List PlainToken} {e : ParsedExpression} → ts ≡ made.token start (token.Mark times) ∷ t1
      → t1 ≡ made.token opening (token.Mark left_paren) ∷ t2 → (form.pointed_type ws).parse t2 ≡ Ok (k, t3) → t3 ≡ made.token name_at (token.Word n) ∷ t4 → word_kind (word_at ws n) ≡ name_kind
      → t4 ≡ made.token at (token.Mark assign) ∷ us → (expression_in ws 2000).parse us ≡ Ok (e, r) → r ≡ made.token end (token.Mark semicolon) ∷ vs
      → ((a : ParsedStatement) → (store_mark ws k (record { place = name_at; number = n }) a).parse vs ≡ Ok (a, rest))
      → (statement_with ws S no_step).parse ts ≡ Ok (Store k (record { place = name_at; number = n }) at e, rest)
  unfolding statement_with store
  store_read S no_step k n {name_at = name_at} {at = at} {e = e} t t1 p t3 w t4 x s m =
      rw (
        sees_mark ws times t (name_kind ∷ []) false refl,
        sees_mark ws times t (mark_kind times ∷ []) true refl,
        mark_read ws times t,
        mark_read ws left_paren t1,
        p,
        name_read ws n t3 w,
        stored_read k (record { place = name_at; number = n }) t4 x s (m (Store k (record { place = name_at; number = n }) at e)),
      ) refl
