-- Expressions and calls are read exactly.
use Rattle.std.proofs.Common.{◌≡◌, ℕ, zero, suc, Bool, true, false, cond, eqb, List, [], ◌∷◌, refl, inr}
use Rattle.grammar.specs.Syntax.{Syntax, among, none}
use Rattle.grammar.proofs.Parts.{none_exact, widen}
use Rattle.grammar.proofs.Productions.{seq, either, again_and_again, declared, given, same, too_deep}
use Rattle.c_syntax.specs.declared.place.Place.{Place}
use Rattle.c_syntax.specs.Tokens.{PlainToken}
use Rattle.c_model.specs.Punctuators.{minus, tilde, times, comma, left_paren, right_paren}
use Rattle.c_model.specs.Terminals.{expression_limit}
use Rattle.mon_syntax.specs.Parsed.{NameUse, ParsedExpression, ParsedArgument}
use Rattle.mon_syntax.specs.Grammar.{Vocabulary, name_kind, type_kind, constant_kind, number_kind, text_kind, mark_kind, kind, first_operator, first_expression, first_argument, mark, name, signed_number}
use Rattle.mon_syntax.specs.Grammar.{constant, other_expression, expression_with, second_operand, negation, complement, cast, pointed_type, load, behind_two, plain_operand, behind_paren, opened, behind_opened, expression_in, expression}
use Rattle.mon_syntax.specs.Grammar.{expression_but_name, argument, next_argument, some_arguments, arguments, call_of}
use Rattle.mon_syntax.proofs.ExactTokens.{IsRead, fixed_good, name_good, number_good, text_good, type_good, constant_word_good, operator_good}

-- what begins a parenthesis
abbrev pub paren : List ℕ
paren = mark_kind left_paren ∷ []

-- what can stand after one
abbrev pub first_behind : List ℕ
first_behind = mark_kind minus ∷ mark_kind tilde ∷ mark_kind times ∷ first_expression

module _ (ws : Vocabulary) where
  -- where nothing is read
  pub none_good : (A : Type 0) (null : Bool) (first : List ℕ) → IsRead ws (none {T = PlainToken} {A = A}) null first []
  none_good A null first = same (widen (kind ws) none false [] (λ _. []) null first (λ _. []) (none_exact (kind ws)) (λ e. absurd cc) refl (λ _. refl))

  pub named_good : IsRead ws (name ws) false (name_kind ∷ []) []
  unfolding name
  named_good = seq (name_good ws) (λ x. given _) refl

  signed_good : IsRead ws (signed_number ws) false (mark_kind minus ∷ number_kind ∷ []) []
  unfolding signed_number
  signed_good = declared (either (mark_kind minus ∷ []) (seq (fixed_good ws (mark_kind minus)) (λ _. seq (number_good ws) (λ z. given _) refl) refl) (seq (number_good ws) (λ z. given _) refl) refl) refl

  pub pointed_good : IsRead ws (pointed_type ws) false (type_kind ∷ []) []
  unfolding pointed_type
  pointed_good = seq (type_good ws) (λ t. seq (fixed_good ws (mark_kind times)) (λ _. seq (fixed_good ws (mark_kind right_paren)) (λ _. given _) refl) refl) refl

  module _ {O : Syntax PlainToken Place} (o : IsRead ws O false paren []) where
    constant_good : IsRead ws (constant ws O) false (constant_kind ∷ []) []
    unfolding constant
    constant_good = seq (constant_word_good ws) (λ t. seq o (λ _. seq signed_good (λ z. seq (fixed_good ws (mark_kind right_paren)) (λ _. given _) refl) refl) refl) refl

    plain_operand_good : IsRead ws (plain_operand ws O) false (name_kind ∷ constant_kind ∷ []) []
    unfolding plain_operand
    plain_operand_good = declared (either (name_kind ∷ []) (seq named_good (λ x. given _) refl) constant_good refl) refl

    module _ {B : Syntax PlainToken ParsedExpression} (b : IsRead ws B false first_behind []) where
      other_good : IsRead ws (other_expression ws O B) false (constant_kind ∷ paren) []
      unfolding other_expression
      other_good = declared (either (constant_kind ∷ []) constant_good (seq o (λ _. b) refl) refl) refl

      with_good : IsRead ws (expression_with ws O B) false first_expression []
      unfolding expression_with
      with_good = declared (either (name_kind ∷ []) (seq named_good (λ x. given _) refl) other_good refl) refl

  module _ {E : Syntax PlainToken ParsedExpression} (e : IsRead ws E false first_expression []) where
    second_good : (left : ParsedExpression) → IsRead ws (second_operand ws E left) false first_operator []
    unfolding second_operand
    second_good left = seq (operator_good ws) (λ op. seq e (λ right. seq (fixed_good ws (mark_kind right_paren)) (λ _. given _) refl) refl) refl

    negation_good : IsRead ws (negation ws E) false (mark_kind minus ∷ []) []
    unfolding negation
    negation_good = seq (fixed_good ws (mark_kind minus)) (λ at. seq e (λ x. seq (fixed_good ws (mark_kind right_paren)) (λ _. given _) refl) refl) refl

    complement_good : IsRead ws (complement ws E) false (mark_kind tilde ∷ []) []
    unfolding complement
    complement_good = seq (fixed_good ws (mark_kind tilde)) (λ at. seq e (λ x. seq (fixed_good ws (mark_kind right_paren)) (λ _. given _) refl) refl) refl

    cast_good : (at : Place) → IsRead ws (cast ws E at) false (type_kind ∷ []) []
    unfolding cast
    cast_good at = seq (type_good ws) (λ t. seq (fixed_good ws (mark_kind right_paren)) (λ _. seq e (λ x. seq (fixed_good ws (mark_kind right_paren)) (λ _. given _) refl) refl) refl) refl

    load_good : {O : Syntax PlainToken Place} → IsRead ws O false paren [] → IsRead ws (load ws O E) false (mark_kind times ∷ []) []
    unfolding load
    load_good o =
        seq (fixed_good ws (mark_kind times)) (λ at. seq o (λ _. seq pointed_good (λ t. seq e (λ x. seq (fixed_good ws (mark_kind right_paren)) (λ _. given _) refl) refl) refl) refl) refl

    behind_two_good : {B : Syntax PlainToken ParsedExpression} → IsRead ws B false first_behind [] → (at : Place) → IsRead ws (behind_two ws E B at) false (type_kind ∷ first_behind) []
    unfolding behind_two
    behind_two_good b at = declared (either (type_kind ∷ []) (cast_good at) (seq b (λ left. second_good left) refl) refl) refl

  behind_paren_good : {O : Syntax PlainToken Place} {B : Syntax PlainToken ParsedExpression} → IsRead ws O false paren [] → IsRead ws B false first_behind [] → IsRead ws (behind_paren ws O B) false first_behind []
  unfolding behind_paren
  behind_paren_good o b =
      declared (either (mark_kind minus ∷ []) (negation_good (with_good o b))
      (either (mark_kind tilde ∷ []) (complement_good (with_good o b))
      (either (mark_kind times ∷ []) (load_good (with_good o b) o)
      (either paren (seq o (λ at. behind_two_good (with_good o b) b at) refl)
      (seq (plain_operand_good o) (λ left. second_good (with_good o b) left) refl) refl) refl) refl) refl) refl

  -- each token that is a parenthesis begins one
  opens : (t : PlainToken) → among (kind ws t) paren ≡ true → (mark ws left_paren).begun (t ∷ [])
  opens t h = tested (eqb (kind ws t) (mark_kind left_paren)) refl h
    where
      tested : (c : Bool) → eqb (kind ws t) (mark_kind left_paren) ≡ c → cond c true false ≡ true → (mark ws left_paren).begun (t ∷ [])
      tested true is h = inr (t, t.place, refl, rw is refl)
      tested false is h = absurd cc

  pub opened_good : (n : ℕ) → IsRead ws (opened ws n) false paren []
  unfolding opened
  opened_good zero = too_deep expression_limit paren (fixed_good ws (mark_kind left_paren)).here opens
  opened_good (suc n) = fixed_good ws (mark_kind left_paren)

  pub behind_opened_good : (n : ℕ) → IsRead ws (behind_opened ws n) false first_behind []
  unfolding behind_opened
  behind_opened_good zero = none_good ParsedExpression false first_behind
  behind_opened_good (suc n) = behind_paren_good (opened_good n) (behind_opened_good n)

  pub expression_good : IsRead ws (expression ws) false first_expression []
  unfolding expression expression_in
  expression_good = with_good (opened_good 2000) (behind_opened_good 2000)

  pub but_name_good : IsRead ws (expression_but_name ws) false (constant_kind ∷ paren) []
  unfolding expression_but_name
  but_name_good = other_good (opened_good 2000) (behind_opened_good 2000)

  -- ---- calls

  pub argument_good : IsRead ws (argument ws) false first_argument []
  unfolding argument
  argument_good =
      declared (either (number_kind ∷ []) (seq (number_good ws) (λ z. given _) refl) (either (text_kind ∷ []) (seq (text_good ws) (λ s. given _) refl) (seq expression_good (λ e. given _) refl) refl) refl) refl

  pub next_argument_good : (xs : List ParsedArgument) → IsRead ws (next_argument ws xs) false (mark_kind comma ∷ []) []
  unfolding next_argument
  next_argument_good xs = seq (fixed_good ws (mark_kind comma)) (λ _. seq argument_good (λ x. given _) refl) refl

  pub some_arguments_good : IsRead ws (some_arguments ws) false first_argument (mark_kind comma ∷ [])
  unfolding some_arguments
  some_arguments_good = declared (seq argument_good (λ x. again_and_again (mark_kind comma ∷ []) next_argument_good refl (x ∷ [])) refl) refl

  arguments_good : (some : Bool) → IsRead ws (arguments ws some) true first_argument (mark_kind comma ∷ first_argument)
  unfolding arguments
  arguments_good true = declared some_arguments_good refl
  arguments_good false = declared (either first_argument some_arguments_good (given []) refl) refl

  pub call_good : (some : Bool) (f : NameUse) → IsRead ws (call_of ws some f) false paren []
  unfolding call_of
  call_good some f = declared (seq (fixed_good ws (mark_kind left_paren)) (λ at. seq (arguments_good some) (λ xs. seq (fixed_good ws (mark_kind right_paren)) (λ _. given _) refl) refl) refl) refl
