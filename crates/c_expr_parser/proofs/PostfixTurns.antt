-- Postfix operators one by one.
use Rattle.std.proofs.Common.{◌≡◌, true, false, List, [], Ok, Err, refl}
use Rattle.grammar.specs.Syntax.{ParseFault, sees}
use Rattle.grammar.proofs.Productions.{turn, turn_fails, turn_ends}
use Rattle.c_syntax.specs.declared.place.Place.{Place}
use Rattle.c_syntax.specs.declared.fault.ReadFault.{ReadFault}
use Rattle.c_syntax.specs.Expressions.{Expression}
use Rattle.c_syntax.specs.Tokens.{PlainToken}
use Rattle.c_model.specs.declared.operands.Form.TheVariants as form
use Rattle.c_model.specs.Vocabulary.{Vocabulary}
use Rattle.c_model.specs.ExpressionGrammar.{kind, expression, first_postfix, postfix_once, postfixes, postfix_rest, read_operand}
use Rattle.token_reader.specs.Reading.{Fails}
use Rattle.token_reader.proofs.Faults.{again}
use Rattle.c_expr_parser.proofs.ExactTokens.{IsRead}
use Rattle.c_expr_parser.proofs.ExactExpressions.{postfix_once_good, expression_good}

module _ (ws : Vocabulary) where
  once_good : (x : Expression) → IsRead ws (postfix_once ws (expression ws) x) false first_postfix []
  once_good x = postfix_once_good ws (expression_good ws) x

  turns : (x y : Expression) (ts rest : List PlainToken) → sees (kind ws) first_postfix ts ≡ true → (postfix_once ws (expression ws) x).parse ts ≡ Ok (y, rest)
      → (postfixes ws (expression ws) x).parse ts ≡ (postfixes ws (expression ws) y).parse rest
  unfolding postfixes
  turns x y ts rest s e = turn first_postfix (postfix_once ws (expression ws)) (λ z. (once_good z).here) refl x y ts rest s e

  pub postfix_turn : (at : Place) (x y : Expression) (ts rest : List PlainToken) → sees (kind ws) first_postfix ts ≡ true → (postfix_once ws (expression ws) x).parse ts ≡ Ok (y, rest)
      → (postfix_rest ws (expression ws) at x).parse ts ≡ (postfix_rest ws (expression ws) at y).parse rest
  unfolding postfix_rest
  postfix_turn at x y ts rest s e = rw (turns x y ts rest s e) refl

  fails : (at : Place) (x : Expression) (ts : List PlainToken) (d : ParseFault) → (postfixes ws (expression ws) x).parse ts ≡ Err d → (postfix_rest ws (expression ws) at x).parse ts ≡ Err d
  unfolding postfix_rest
  fails at x ts d e = rw e refl

  once_fails : (x : Expression) (ts : List PlainToken) (d : ParseFault) → sees (kind ws) first_postfix ts ≡ true → (postfix_once ws (expression ws) x).parse ts ≡ Err d → (postfixes ws (expression ws) x).parse ts ≡ Err d
  unfolding postfixes
  once_fails x ts d s e = turn_fails first_postfix (postfix_once ws (expression ws)) (λ z. (once_good z).here) refl x ts d s e

  pub postfix_fails : (at : Place) (x : Expression) (ts : List PlainToken) (e : ReadFault) → sees (kind ws) first_postfix ts ≡ true → Fails e ((postfix_once ws (expression ws) x).parse ts) → Fails e ((postfix_rest ws (expression ws) at x).parse ts)
  postfix_fails at x ts e s = again e (λ d h. fails at x ts d (once_fails x ts d s h))

  pub postfix_ends : (at : Place) (x : Expression) (ts : List PlainToken) → sees (kind ws) first_postfix ts ≡ false → (postfix_rest ws (expression ws) at x).parse ts ≡ Ok (read_operand x form.Postfix at, ts)
  unfolding postfix_rest postfixes
  postfix_ends at x ts s = rw (turn_ends first_postfix (postfix_once ws (expression ws)) (λ z. (once_good z).here) refl x ts s) refl

pub ruleset postfix_rules = (postfix_turn, postfix_fails, postfix_ends)
