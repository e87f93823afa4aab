-- Operators level by level: one turn of a repetition, and one level.
use Rattle.std.proofs.Common.{◌≡◌, ℕ, zero, suc, ◌-◌, ◌<◌, true, false, List, Ok, Err, refl, subst, arith}
use Rattle.grammar.specs.Syntax.{sees}
use Rattle.grammar.proofs.Sets.{within, apart, within_self}
use Rattle.grammar.proofs.Productions.{and, one_lower, turn, turn_fails, turn_ends}
use Rattle.c_syntax.specs.Expressions.{Expression}
use Rattle.c_syntax.specs.Tokens.{PlainToken}
use Rattle.c_model.specs.declared.operands.Level.TheVariants.{Assignment}
use Rattle.c_model.specs.Vocabulary.{Vocabulary}
use Rattle.c_model.specs.ExpressionGrammar.{kind, kinds_of, operators_at, joined_once, behind_operand, expression_at, expression}
use Rattle.c_syntax.specs.declared.fault.ReadFault.{ReadFault}
use Rattle.c_expr_parser.specs.Reading.{right_operand, more_joined}
use Rattle.token_reader.specs.Reading.{Fails}
use Rattle.token_reader.proofs.Faults.{again}
use Rattle.c_expr_parser.proofs.ExactTokens.{IsRead}
use Rattle.c_expr_parser.proofs.ExactExpressions.{more_below, AreApart, postfix_apart, both_true, joined_good, behind_good, levels_good, expression_good}

-- an operator stands in one level alone
level_apart : (l : ℕ) → apart (kinds_of (operators_at l)) (more_below l) ≡ true
level_apart zero = refl
level_apart (suc zero) = refl
level_apart (suc (suc zero)) = refl
level_apart (suc (suc (suc zero))) = refl
level_apart (suc (suc (suc (suc zero)))) = refl
level_apart (suc (suc (suc (suc (suc zero))))) = refl
level_apart (suc (suc (suc (suc (suc (suc zero)))))) = refl
level_apart (suc (suc (suc (suc (suc (suc (suc zero))))))) = refl
level_apart (suc (suc (suc (suc (suc (suc (suc (suc zero)))))))) = refl
level_apart (suc (suc (suc (suc (suc (suc (suc (suc (suc zero))))))))) = refl
level_apart (suc (suc (suc (suc (suc (suc (suc (suc (suc (suc l)))))))))) = refl

all_apart : (l : ℕ) → AreApart l
all_apart zero = tt
all_apart (suc l) = (all_apart l, level_apart l)

once_fits : (l : ℕ) → and (apart (kinds_of (operators_at l)) (more_below l)) (within (kinds_of (operators_at l)) (kinds_of (operators_at l))) ≡ true
once_fits l = both_true (apart (kinds_of (operators_at l)) (more_below l)) (within (kinds_of (operators_at l)) (kinds_of (operators_at l))) (level_apart l) (within_self (kinds_of (operators_at l)))

module _ (ws : Vocabulary) where
  once_good : (l : ℕ) (x : Expression) → IsRead ws (joined_once ws l (right_operand ws l) x) false (kinds_of (operators_at l)) (more_below l)
  unfolding right_operand
  once_good l x = one_lower (joined_good ws (expression_good ws) (levels_good ws Assignment) l (postfix_apart l (all_apart l)) (behind_good ws (expression_good ws) (levels_good ws Assignment) l (all_apart l)) x)

  pub behind_none : (l : ℕ) (x : Expression) (ts : List PlainToken) → l ≡ 0 → (behind_operand ws (expression ws) (expression_at ws Assignment) l x).parse ts ≡ Ok (x, ts)
  unfolding behind_operand
  behind_none zero x ts h = refl
  behind_none (suc l) x ts h = absurd (omega arith)

  pub behind_level : (l : ℕ) (x y : Expression) (ts rest : List PlainToken) → 0 < l → (behind_operand ws (expression ws) (expression_at ws Assignment) (l - 1) x).parse ts ≡ Ok (y, rest)
      → (behind_operand ws (expression ws) (expression_at ws Assignment) l x).parse ts ≡ (more_joined ws (l - 1) y).parse rest
  unfolding behind_operand more_joined right_operand
  behind_level zero x y ts rest h e = absurd (omega arith)
  behind_level (suc l) x y ts rest h e =
      let is : suc l - 1 ≡ l = omega arith in
      let e' = subst (λ (m : ℕ). (behind_operand ws (expression ws) (expression_at ws Assignment) m x).parse ts ≡ Ok (y, rest)) is e in
      rw (is, e') refl

  pub behind_fails : (l : ℕ) (x : Expression) (ts : List PlainToken) (e : ReadFault) → 0 < l → Fails e ((behind_operand ws (expression ws) (expression_at ws Assignment) (l - 1) x).parse ts)
      → Fails e ((behind_operand ws (expression ws) (expression_at ws Assignment) l x).parse ts)
  unfolding behind_operand
  behind_fails zero x ts e h f = absurd (omega arith)
  behind_fails (suc l) x ts e h f = again e (λ d k. let is : suc l - 1 ≡ l = omega arith in let k' = subst (λ (m : ℕ). (behind_operand ws (expression ws) (expression_at ws Assignment) m x).parse ts ≡ Err d) is k in rw k' refl) f

  pub joined_turn : (l : ℕ) (x y : Expression) (ts rest : List PlainToken) → sees (kind ws) (kinds_of (operators_at l)) ts ≡ true → (joined_once ws l (right_operand ws l) x).parse ts ≡ Ok (y, rest)
      → (more_joined ws l x).parse ts ≡ (more_joined ws l y).parse rest
  unfolding more_joined
  joined_turn l x y ts rest s e = turn (kinds_of (operators_at l)) (joined_once ws l (right_operand ws l)) (λ z. (once_good l z).here) (once_fits l) x y ts rest s e

  pub joined_fails : (l : ℕ) (x : Expression) (ts : List PlainToken) (e : ReadFault) → sees (kind ws) (kinds_of (operators_at l)) ts ≡ true → Fails e ((joined_once ws l (right_operand ws l) x).parse ts) → Fails e ((more_joined ws l x).parse ts)
  unfolding more_joined
  joined_fails l x ts e s = again e (λ d. turn_fails (kinds_of (operators_at l)) (joined_once ws l (right_operand ws l)) (λ z. (once_good l z).here) (once_fits l) x ts d s)

  pub joined_ends : (l : ℕ) (x : Expression) (ts : List PlainToken) → sees (kind ws) (kinds_of (operators_at l)) ts ≡ false → (more_joined ws l x).parse ts ≡ Ok (x, ts)
  unfolding more_joined
  joined_ends l x ts s = turn_ends (kinds_of (operators_at l)) (joined_once ws l (right_operand ws l)) (λ z. (once_good l z).here) (once_fits l) x ts s
