-- Expressions and calls that are read open no more parentheses than the limit, and their strings have bytes.
use Rattle.std.proofs.Common.{◌≡◌, ℕ, zero, suc, ◌<◌, ◌≤◌, max, Bool, true, false, List, [], ◌∷◌, ◌++◌, Option, Some, None, refl, ap, subst, ◌∙◌, arith}
use Rattle.std.proofs.Math.Nat.{max-le}
use Rattle.std.specs.List.{AllByRecursion}
use Rattle.grammar.specs.Syntax.{Syntax, ◌then◌, one}
use Rattle.grammar.proofs.Readings.{EachWithin, within_any, within_more, within_none, within_gives, within_one, within_then, within_choice, within_many, within_deep}
use Rattle.c_syntax.specs.declared.place.Place.{Place}
use Rattle.c_syntax.specs.Tokens as token
use Rattle.c_syntax.specs.Tokens.{PlainTokenKind, PlainToken}
use Rattle.c_model.specs.Punctuators.{right_paren, minus, tilde, times, comma, left_paren}
use Rattle.c_model.specs.Terminals.{expression_limit, placed}
use Rattle.mon_syntax.specs.Parsed.{NameUse, ParsedExpression, ParsedArgument, ParsedCall}
use Rattle.mon_syntax.specs.Grammar.{constant_of, signed_number, name, operator_of, type_of, number_of}
use Rattle.mon_syntax.specs.Grammar.{Vocabulary, name_kind, type_kind, constant_kind, number_kind, text_kind, mark_kind, kind, first_argument}
use Rattle.mon_syntax.specs.Grammar.{text_of, mark, constant, other_expression, expression_with, second_operand, negation, complement, cast, behind_two, plain_operand, pointed_type, load}
use Rattle.mon_syntax.specs.Grammar.{behind_paren, opened, behind_opened, expression_in, expression, expression_but_name, argument, next_argument, some_arguments, arguments, call_of, has_no_argument}
use Rattle.mon_syntax.proofs.ExactTokens.{fixed_good}
use Rattle.mon_typing.specs.Within.{open_parens, HasFewParens, IsArgumentWithin}
use Rattle.mon_reader.proofs.Lexed.{AreBytes, IsLexedKind, IsLexed}

pub all_joined : {A : Type 0} (P : A → Type 0) (xs : List A) (x : A) → AllByRecursion P xs → P x → AllByRecursion P (xs ++ x ∷ [])
all_joined P [] x h p = (p, tt)
all_joined P (y ∷ xs) x h p = (h.0, all_joined P xs x h.1 p)

pub placed_is : {A : Type 0} (f : PlainTokenKind → Option A) (t : PlainToken) (y : A × Place) → placed f t ≡ Some y → f t.kind ≡ Some y.0
placed_is {A} f t y e = by (f t.kind) refl e
  where
    by : (o : Option A) → f t.kind ≡ o → elim o [ Some x ↦ Some (x, t.place) | None ↦ None ] ≡ Some y → f t.kind ≡ Some y.0
    by (Some x) is e = let same : (x, t.place) ≡ y = cc in is ∙ ap (λ (w : A × Place). Some w.0) same
    by None is e = absurd cc

-- at most n parentheses are open at once
abbrev Few : ℕ → ParsedExpression → Type 0
Few n e = open_parens e ≤ n

-- arguments, at least one where it is asked for
record AreArguments (some : Bool) (xs : List ParsedArgument) : Type 0 where
  within : AllByRecursion IsArgumentWithin xs
  any : some ≡ true → has_no_argument xs ≡ false

-- a call of f, with an argument where it is asked for
pub record IsCall (some : Bool) (f : NameUse) (c : ParsedCall) : Type 0 where
  pub callee : c.callee ≡ f
  pub arguments : AllByRecursion IsArgumentWithin c.arguments
  pub any : some ≡ true → has_no_argument c.arguments ≡ false

module _ (size : ℕ) (ws : Vocabulary) where
  abbrev pub Each : {A : Type 0} → Syntax PlainToken A → (A → Type 0) → Type 0
  Each G P = EachWithin (IsLexed size) G P

  -- a part of which nothing is known, and another after it
  pub after : {A B : Type 0} (G : Syntax PlainToken A) {H : A → Syntax PlainToken B} {Q : B → Type 0} → ((x : A) → Each (H x) Q) → Each (G then H) Q
  after G h = within_then within_any (λ x _. h x)

  -- ---- expressions

  -- a parenthesis is opened only where it may be
  opened_each : (n : ℕ) → Each (opened ws n) (λ at. 0 < n)
  unfolding opened
  opened_each zero = within_deep expression_limit (mark_kind left_paren ∷ []) (fixed_good ws (mark_kind left_paren)).here
  opened_each (suc n) = within_more (λ at _. omega arith) within_any

  constant_each : (n : ℕ) → Each (constant ws (opened ws n)) (Few n)
  unfolding constant
  constant_each n = after (one (placed (constant_of ws))) (λ t. within_then (opened_each n) (λ _ le. after (signed_number ws) (λ z. after (mark ws right_paren) (λ _. within_gives _ (omega (arith, le))))))

  plain_each : (n : ℕ) → Each (plain_operand ws (opened ws n)) (Few n)
  unfolding plain_operand
  plain_each n = within_choice (kind ws) (name_kind ∷ []) (after (name ws) (λ x. within_gives _ (omega arith))) (constant_each n)

  module _ (n : ℕ) {B : Syntax PlainToken ParsedExpression} (b : Each B (Few n)) where
    other_each : Each (other_expression ws (opened ws n) B) (Few n)
    unfolding other_expression
    other_each = within_choice (kind ws) (constant_kind ∷ []) (constant_each n) (after (opened ws n) (λ _. b))

    with_each : Each (expression_with ws (opened ws n) B) (Few n)
    unfolding expression_with
    with_each = within_choice (kind ws) (name_kind ∷ []) (after (name ws) (λ x. within_gives _ (omega arith))) other_each

  module _ (n : ℕ) {E : Syntax PlainToken ParsedExpression} (e : Each E (Few n)) where
    second_each : (left : ParsedExpression) → Few n left → Each (second_operand ws E left) (Few (suc n))
    unfolding second_operand
    second_each left l = after (one (placed operator_of)) (λ op. within_then e (λ right r. after (mark ws right_paren) (λ _. within_gives _ (let m : max (open_parens left) (open_parens right) ≤ n = max-le l r in omega (arith, m)))))

    negation_each : Each (negation ws E) (Few (suc n))
    unfolding negation
    negation_each = after (mark ws minus) (λ at. within_then e (λ x p. after (mark ws right_paren) (λ _. within_gives _ (omega (arith, p)))))

    complement_each : Each (complement ws E) (Few (suc n))
    unfolding complement
    complement_each = after (mark ws tilde) (λ at. within_then e (λ x p. after (mark ws right_paren) (λ _. within_gives _ (omega (arith, p)))))

    cast_each : 0 < n → (at : Place) → Each (cast ws E at) (Few (suc n))
    unfolding cast
    cast_each le at = after (one (placed (type_of ws))) (λ t. after (mark ws right_paren) (λ _. within_then e
        (λ x p. after (mark ws right_paren) (λ _. within_gives _ (let m : max 1 (open_parens x) ≤ n = max-le (omega (arith, le)) p in omega (arith, m))))))

    load_each : {O : Syntax PlainToken Place} → Each O (λ at. 0 < n) → Each (load ws O E) (Few (suc n))
    unfolding load
    load_each o = after (mark ws times) (λ at. within_then o (λ _ le. after (pointed_type ws) (λ t. within_then e
        (λ x p. after (mark ws right_paren) (λ _. within_gives _ (let m : max 1 (open_parens x) ≤ n = max-le (omega (arith, le)) p in omega (arith, m)))))))

    two_each : {B : Syntax PlainToken ParsedExpression} → Each B (Few n) → 0 < n → (at : Place) → Each (behind_two ws E B at) (Few (suc n))
    unfolding behind_two
    two_each b le at = within_choice (kind ws) (type_kind ∷ []) (cast_each le at) (within_then b (λ left l. second_each left l))

  paren_each : (n : ℕ) {B : Syntax PlainToken ParsedExpression} → Each B (Few n) → Each (behind_paren ws (opened ws n) B) (Few (suc n))
  unfolding behind_paren
  paren_each n b =
      within_choice (kind ws) (mark_kind minus ∷ []) (negation_each n (with_each n b))
      (within_choice (kind ws) (mark_kind tilde ∷ []) (complement_each n (with_each n b))
      (within_choice (kind ws) (mark_kind times ∷ []) (load_each n (with_each n b) (opened_each n))
      (within_choice (kind ws) (mark_kind left_paren ∷ []) (within_then (opened_each n) (λ at le. two_each n (with_each n b) b le at))
      (within_then (plain_each n) (λ left l. second_each n (with_each n b) left l)))))

  opened_behind_each : (n : ℕ) → Each (behind_opened ws n) (Few n)
  unfolding behind_opened
  opened_behind_each zero = within_none
  opened_behind_each (suc n) = paren_each n (opened_behind_each n)

  pub expression_each : Each (expression ws) HasFewParens
  unfolding expression expression_in
  expression_each = with_each 2000 (opened_behind_each 2000)

  pub but_name_each : Each (expression_but_name ws) HasFewParens
  unfolding expression_but_name
  but_name_each = other_each 2000 (opened_behind_each 2000)

  -- ---- calls

  text_bytes : (t : PlainTokenKind) (bytes : List ℕ) → IsLexedKind size t → text_of t ≡ Some bytes → AreBytes bytes
  text_bytes (token.Chars b) bytes h e = let same : b ≡ bytes = cc in subst AreBytes same h
  text_bytes (token.Word n) bytes h e = absurd cc
  text_bytes (token.Number z c) bytes h e = absurd cc
  text_bytes (token.Letter v) bytes h e = absurd cc
  text_bytes (token.Mark m) bytes h e = absurd cc
  text_bytes token.AnnotOpen bytes h e = absurd cc
  text_bytes token.AnnotClose bytes h e = absurd cc
  text_bytes (token.Head k n) bytes h e = absurd cc

  pub string_each : Each (one (placed text_of)) (λ s. AreBytes s.0)
  string_each = within_one (placed text_of) (λ t s h e. text_bytes t.kind s.0 h (placed_is text_of t s e))

  argument_each : Each (argument ws) IsArgumentWithin
  unfolding argument
  argument_each =
      within_choice (kind ws) (number_kind ∷ []) (after (one (placed number_of)) (λ z. within_gives _ tt))
      (within_choice (kind ws) (text_kind ∷ []) (within_then string_each (λ s h. within_gives _ h)) (within_then expression_each (λ e h. within_gives _ h)))

  one_more : (xs : List ParsedArgument) (x : ParsedArgument) → has_no_argument (xs ++ x ∷ []) ≡ false
  one_more [] x = refl
  one_more (y ∷ xs) x = refl

  next_each : (xs : List ParsedArgument) → AreArguments true xs → Each (next_argument ws xs) (AreArguments true)
  unfolding next_argument
  next_each xs h = after (mark ws comma) (λ _. within_then argument_each (λ x p. within_gives _ (record { within = all_joined IsArgumentWithin xs x h.within p; any = λ _. one_more xs x })))

  some_each : Each (some_arguments ws) (AreArguments true)
  unfolding some_arguments
  some_each = within_then argument_each (λ x p. within_many (kind ws) (λ _. mark_kind comma ∷ []) next_each (x ∷ []) (record { within = (p, tt); any = λ _. refl }))

  arguments_each : (some : Bool) → Each (arguments ws some) (AreArguments some)
  unfolding arguments
  arguments_each true = some_each
  arguments_each false = within_choice (kind ws) first_argument (within_more (λ xs h. record { within = h.within; any = λ e. absurd cc }) some_each) (within_gives [] (record { within = tt; any = λ e. absurd cc }))

  pub call_each : (some : Bool) (f : NameUse) → Each (call_of ws some f) (IsCall some f)
  unfolding call_of
  call_each some f = after (mark ws left_paren) (λ at. within_then (arguments_each some) (λ xs h. after (mark ws right_paren) (λ _. within_gives _ (record { callee = refl; arguments = h.within; any = h.any }))))
