-- Brackets one by one.
use Rattle.std.proofs.Common.{◌≡◌, ℕ, true, false, List, [], ◌∷◌, ◌++◌, Ok, Err, refl}
use Rattle.grammar.specs.Syntax.{Syntax, ParseFault, sees}
use Rattle.grammar.proofs.Productions.{turn, turn_fails, turn_ends}
use Rattle.c_syntax.specs.Ctypes.{PlainLength}
use Rattle.c_syntax.specs.Tokens.{PlainToken}
use Rattle.c_syntax.specs.declared.fault.ReadFault.{ReadFault}
use Rattle.c_model.specs.Vocabulary.{Vocabulary}
use Rattle.c_model.specs.Punctuators.{left_bracket}
use Rattle.c_model.specs.ExpressionGrammar.{mark_kind, kind, expression, written_length, length_or_none, bracket, next_bracket, brackets}
use Rattle.token_reader.specs.Reading.{Fails}
use Rattle.token_reader.proofs.Faults.{again}
use Rattle.c_expr_parser.specs.Reading.{more_brackets}
use Rattle.c_expr_parser.proofs.ExactTokens.{IsRead}
use Rattle.c_expr_parser.proofs.ExactExpressions.{next_bracket_good, written_good, length_good, expression_good}

abbrev bracket_kinds : List ℕ
bracket_kinds = mark_kind left_bracket ∷ []

module _ (ws : Vocabulary) where
  module _ (L : Syntax PlainToken PlainLength) (l : (ns : List PlainLength) → IsRead ws (next_bracket ws L ns) false bracket_kinds []) where
    next_ok : (ns : List PlainLength) (n : PlainLength) (ts rest : List PlainToken) → (bracket ws L).parse ts ≡ Ok (n, rest) → (next_bracket ws L ns).parse ts ≡ Ok (ns ++ n ∷ [], rest)
    unfolding next_bracket
    next_ok ns n ts rest e = rw e refl

    next_err : (ns : List PlainLength) (ts : List PlainToken) (d : ParseFault) → (bracket ws L).parse ts ≡ Err d → (next_bracket ws L ns).parse ts ≡ Err d
    unfolding next_bracket
    next_err ns ts d e = rw e refl

    turns : (ns : List PlainLength) (n : PlainLength) (ts rest : List PlainToken) → sees (kind ws) bracket_kinds ts ≡ true → (bracket ws L).parse ts ≡ Ok (n, rest) → (more_brackets ws L ns).parse ts ≡ (more_brackets ws L (ns ++ n ∷ [])).parse rest
    unfolding more_brackets
    turns ns n ts rest s e = turn bracket_kinds (next_bracket ws L) (λ z. (l z).here) refl ns (ns ++ n ∷ []) ts rest s (next_ok ns n ts rest e)

    fails : (ns : List PlainLength) (ts : List PlainToken) (e : ReadFault) → sees (kind ws) bracket_kinds ts ≡ true → Fails e ((bracket ws L).parse ts) → Fails e ((more_brackets ws L ns).parse ts)
    unfolding more_brackets
    fails ns ts e s = again e (λ d h. turn_fails bracket_kinds (next_bracket ws L) (λ z. (l z).here) refl ns ts d s (next_err ns ts d h))

    ends : (ns : List PlainLength) (ts : List PlainToken) → sees (kind ws) bracket_kinds ts ≡ false → (more_brackets ws L ns).parse ts ≡ Ok (ns, ts)
    unfolding more_brackets
    ends ns ts s = turn_ends bracket_kinds (next_bracket ws L) (λ z. (l z).here) refl ns ts s

  pub brackets_begin : (L : Syntax PlainToken PlainLength) (ts : List PlainToken) → (more_brackets ws L []).parse ts ≡ (brackets ws L).parse ts
  unfolding more_brackets brackets
  brackets_begin L ts = refl

  -- ---- each with an expression

  abbrev written : Syntax PlainToken PlainLength
  written = written_length ws (expression ws)

  written_exact : (ns : List PlainLength) → IsRead ws (next_bracket ws written ns) false bracket_kinds []
  written_exact ns = next_bracket_good ws false (written_good ws (expression_good ws)) ns

  pub written_turn : (ns : List PlainLength) (n : PlainLength) (ts rest : List PlainToken) → sees (kind ws) bracket_kinds ts ≡ true → (bracket ws written).parse ts ≡ Ok (n, rest)
      → (more_brackets ws written ns).parse ts ≡ (more_brackets ws written (ns ++ n ∷ [])).parse rest
  written_turn ns n ts rest s e = turns written written_exact ns n ts rest s e

  pub written_fails : (ns : List PlainLength) (ts : List PlainToken) (e : ReadFault) → sees (kind ws) bracket_kinds ts ≡ true → Fails e ((bracket ws written).parse ts) → Fails e ((more_brackets ws written ns).parse ts)
  written_fails ns ts e s f = fails written written_exact ns ts e s f

  pub written_ends : (ns : List PlainLength) (ts : List PlainToken) → sees (kind ws) bracket_kinds ts ≡ false → (more_brackets ws written ns).parse ts ≡ Ok (ns, ts)
  written_ends ns ts s = ends written written_exact ns ts s

  -- ---- with or without one

  abbrev any_length : Syntax PlainToken PlainLength
  any_length = length_or_none ws (expression ws)

  any_length_exact : (ns : List PlainLength) → IsRead ws (next_bracket ws any_length ns) false bracket_kinds []
  any_length_exact ns = next_bracket_good ws true (length_good ws (expression_good ws)) ns

  pub brackets_turn : (ns : List PlainLength) (n : PlainLength) (ts rest : List PlainToken) → sees (kind ws) bracket_kinds ts ≡ true → (bracket ws any_length).parse ts ≡ Ok (n, rest)
      → (more_brackets ws any_length ns).parse ts ≡ (more_brackets ws any_length (ns ++ n ∷ [])).parse rest
  brackets_turn ns n ts rest s e = turns any_length any_length_exact ns n ts rest s e

  pub brackets_fails : (ns : List PlainLength) (ts : List PlainToken) (e : ReadFault) → sees (kind ws) bracket_kinds ts ≡ true → Fails e ((bracket ws any_length).parse ts) → Fails e ((more_brackets ws any_length ns).parse ts)
  brackets_fails ns ts e s f = fails any_length any_length_exact ns ts e s f

  pub brackets_ends : (ns : List PlainLength) (ts : List PlainToken) → sees (kind ws) bracket_kinds ts ≡ false → (more_brackets ws any_length ns).parse ts ≡ Ok (ns, ts)
  brackets_ends ns ts s = ends any_length any_length_exact ns ts s

pub ruleset written_rules = (brackets_begin, written_turn, written_fails, written_ends)

pub ruleset brackets_rules = (brackets_begin, brackets_turn, brackets_fails, brackets_ends)
