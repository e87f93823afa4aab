-- From what the production gave to what the answer means.
use Rattle.std.proofs.Common.{◌≡◌, ℕ, zero, suc, ◌+◌, ◌-◌, ◌<◌, ◌≤◌, false, List, [], ◌∷◌, length, drop, Result, Ok, Err, refl, sym, ap, subst, ◌∙◌, arith}
use Rattle.std.proofs.lemmas.List.{length-map}
use Rattle.std.proofs.Math.Seq.{drop-nil}
use Rattle.grammar.specs.Syntax.{Syntax, ParseFault, At, Over}
use Rattle.grammar.specs.Exact.{Found, IsExact, Unread, AtMostOne, ReadingsBegin, FrontsBegin}
use Rattle.grammar.proofs.Parts.{widen}
use Rattle.grammar.proofs.Bounds.{rest_below}
use Rattle.grammar.proofs.Theorem.{found, refused_over, rest_is, rest_within_text, at_most_one, readings_begin, fronts_begin}
use Rattle.c_syntax.specs.declared.token.Token.{Token}
use Rattle.c_syntax.specs.Expressions.{Expression}
use Rattle.c_syntax.specs.Tokens.{PlainToken, PlainTokens, plain_token}
use Rattle.c_syntax.specs.declared.refusal.FrontFault.{FrontFault}
use Rattle.c_syntax.specs.declared.refusal.FrontFault.TheVariants as front
use Rattle.c_syntax.specs.declared.fault.ReadFault.{ReadFault}
use Rattle.c_syntax.specs.declared.fault.ReadFault.TheVariants as fault
use Rattle.c_model.specs.Vocabulary.{Vocabulary}
use Rattle.c_model.specs.TokenWords.{syntax_refusal}
use Rattle.c_model.specs.declared.operands.Level.TheVariants.{Assignment, Conditional}
use Rattle.c_model.specs.ExpressionGrammar.{kind, first_expression, full_expression_at}
use Rattle.c_expr_parser.specs.declared.level.Level.{Level}
use Rattle.c_expr_parser.specs.declared.level.Level.TheVariants.{Comma, Assign, Cond}
use Rattle.c_expr_parser.specs.Levels.{leveled}
use Rattle.token_reader.specs.Reading.{plain_list, label, Fails}
use Rattle.c_expr_parser.specs.Answers.{NotRead, words_of, read_from, IsReadAt, RefusesAt}
use Rattle.token_reader.specs.Answers.{RefusesWith, RefusesFault}
use Rattle.c_expr_parser.proofs.ExactExpressions.{more_expression, more_commas, full_expression_good, full_level_good}
use Rattle.c_expr_parser.proofs.SolidExpressions.{full_unread, full_level_unread}
use Rattle.c_expr_parser.proofs.Windows.{map_drop, drop_long}

exact : (ws : Vocabulary) (l : Level) → IsExact (kind ws) (leveled ws l) false first_expression (λ _. more_commas)
exact ws Comma = (full_expression_good ws).here
exact ws Assign = widen (kind ws) (full_expression_at ws Assignment) false first_expression (λ _. more_expression) false first_expression (λ _. more_commas) (full_level_good ws Assignment).here (λ h. h) refl (λ x. refl)
exact ws Cond = widen (kind ws) (full_expression_at ws Conditional) false first_expression (λ _. more_expression) false first_expression (λ _. more_commas) (full_level_good ws Conditional).here (λ h. h) refl (λ x. refl)

no_reading : (ws : Vocabulary) (l : Level) (ts : List PlainToken) (n : ℕ) → (leveled ws l).parse ts ≡ Err (At n) → Unread (leveled ws l) ts n
no_reading ws Comma ts n e = full_unread ws ts n e
no_reading ws Assign ts n e = full_level_unread ws Assignment ts n e
no_reading ws Cond ts n e = full_level_unread ws Conditional ts n e

pub one : (ws : Vocabulary) (l : Level) → AtMostOne (leveled ws l)
one ws l = at_most_one (leveled ws l) false first_expression (λ _. more_commas) (exact ws l)

pub begun : (ws : Vocabulary) (l : Level) → ReadingsBegin (leveled ws l)
begun ws l = readings_begin (leveled ws l) false first_expression (λ _. more_commas) (exact ws l)

pub fronts : (ws : Vocabulary) (l : Level) → FrontsBegin (leveled ws l)
fronts ws l = fronts_begin (leveled ws l) false first_expression (λ _. more_commas) (exact ws l)

drop_drop : {T : Type 0} (m n : ℕ) (ts : List T) → drop m (drop n ts) ≡ drop (n + m) ts
drop_drop m zero ts = let e : 0 + m ≡ m = omega arith in rw e refl
drop_drop m (suc n) [] = drop-nil m ∙ sym (drop-nil (suc n + m))
drop_drop m (suc n) (t ∷ ts) = let e : suc n + m ≡ suc (n + m) = omega arith in rw e (drop_drop m n ts)

module _ (ts : PlainTokens) (at : ℕ) (l : Level) (types : List ℕ) (start : at ≤ length ts.list) where
  abbrev G : Syntax PlainToken Expression
  G = leveled (words_of ts types) l

  -- what is left is what stands after a place
  behind_is : (e : Expression) (rest : List PlainToken) (k : ℕ) → read_from ts at l types ≡ Ok (e, rest) → k + length rest ≡ length ts.list → rest ≡ drop k ts.list
  behind_is e rest k h long =
      let shorter = rest_within_text G false first_expression (λ _. more_commas) (exact (words_of ts types) l) (drop at ts.list) e rest h in
      let dropped = drop_long at ts.list in
      let n : at + (length (drop at ts.list) - length rest) ≡ k = omega (arith, shorter, dropped, long, start) in
      rest_is G false first_expression (λ _. more_commas) (exact (words_of ts types) l) (drop at ts.list) e rest h
      ∙ drop_drop (length (drop at ts.list) - length rest) at ts.list ∙ ap (λ (m : ℕ). drop m ts.list) n

  found_at : (e : Expression) (rest : List PlainToken) → read_from ts at l types ≡ Ok (e, rest) → Found G (drop at ts.list) e rest
  found_at e rest h = found G false first_expression (λ _. more_commas) (exact (words_of ts types) l) (drop at ts.list) e rest h

  go_on : (e : Expression) (rest : List PlainToken) → Found G (drop at ts.list) e rest → length rest < length (drop at ts.list)
  go_on e rest f = rest_below (kind (words_of ts types)) G first_expression (λ _. more_commas) (exact (words_of ts types) l) (drop at ts.list) e f.front rest f.longest.parts f.reading

  read_at : (e : Expression) (rest : List PlainToken) (k : ℕ) → read_from ts at l types ≡ Ok (e, rest) → k + length rest ≡ length ts.list → IsReadAt ts at l types e k
  read_at e rest k h long =
      let same : rest ≡ drop k ts.list = behind_is e rest k h long in
      let q : read_from ts at l types ≡ Ok (e, drop k ts.list) = h ∙ ap (λ (r : List PlainToken). Ok (e, r)) same in
      let less = go_on e rest (found_at e rest h) in
      let dropped = drop_long at ts.list in
      record { forth = omega (arith, less, dropped, long, start); within = omega (arith, long); parsed = q; found = found_at e (drop k ts.list) q }

  not_read : (f : ParseFault) → read_from ts at l types ≡ Err f → NotRead G (drop at ts.list) f
  not_read (At n) h = no_reading (words_of ts types) l (drop at ts.list) n h
  not_read (Over i n) h = refused_over G false first_expression (λ _. more_commas) (exact (words_of ts types) l) (drop at ts.list) i n h

  refused_with : (f : ParseFault) → read_from ts at l types ≡ Err f → (e : FrontFault) → RefusesWith (syntax_refusal ts f) e → RefusesAt ts at l types e
  refused_with f h front.Memory g = tt
  refused_with f h (front.Refused r) g = record { fault = f; parsed = h; refused = not_read f h; is = g }

  refused_at : (r : ReadFault) (e : FrontFault) → Fails r (read_from ts at l types) → RefusesFault ts r e → RefusesAt ts at l types e
  refused_at (fault.At n) e h g = refused_with (At n) h e g
  refused_at (fault.Over limit n) e h g = refused_with (Over (label limit) n) h e g
  refused_at fault.Memory e h g = subst (λ (x : FrontFault). RefusesAt ts at l types x) (sym g) tt

-- ---- the same of the slices that were read

abbrev Parsed : Vocabulary → Level → List PlainToken → Result (Expression × List PlainToken) ParseFault
Parsed ws l list = (leveled ws l).parse list

module _ (ts : PlainTokens) (at : ℕ) (l : Level) (types : List ℕ) (ws : Vocabulary) (list rest : List Token) (same_words : ws ≡ words_of ts types) (same_list : plain_list list ≡ ts.list) (same_rest : rest ≡ drop at list)
    (start : at ≤ length list) where
  same : Parsed ws l (plain_list rest) ≡ read_from ts at l types
  same =
      let r : plain_list rest ≡ drop at ts.list = ap plain_list same_rest ∙ map_drop plain_token at list ∙ ap (λ (x : List PlainToken). drop at x) same_list in
      λ i. Parsed (same_words i) l (r i)

  starts : at ≤ length ts.list
  starts = omega (arith, start, length-map list plain_token, ap length same_list)

  pub expression_read : (e : Expression) (behind : List Token) (k : ℕ) → Parsed ws l (plain_list rest) ≡ Ok (e, plain_list behind) → k + length behind ≡ length list → IsReadAt ts at l types e k
  expression_read e behind k h long =
      read_at ts at l types starts e (plain_list behind) k (sym same ∙ h) (omega (arith, long, length-map behind plain_token, length-map list plain_token, ap length same_list))

  pub expression_refused : (r : ReadFault) (e : FrontFault) → Fails r (Parsed ws l (plain_list rest)) → RefusesFault ts r e → RefusesAt ts at l types e
  expression_refused r e h g = refused_at ts at l types starts r e (subst (λ (x : Result (Expression × List PlainToken) ParseFault). Fails r x) same h) g
