-- From what the productions gave to what the answers mean.
use Rattle.std.proofs.Common.{◌≡◌, ℕ, suc, false, List, [], ◌∷◌, length, Result, Ok, Err, refl, sym, ap, subst, ◌∙◌}
use Rattle.grammar.specs.Syntax.{ParseFault, At, Over}
use Rattle.grammar.specs.Exact.{Refused, AtMostOne, FrontsBegin, ReadingsBegin, OneLimit}
use Rattle.grammar.proofs.Parts.{ok_is}
use Rattle.grammar.proofs.Theorem.{found, refused, accepts, accepts_back, at_most_one}
use Rattle.c_syntax.specs.declared.token.Token.{Token}
use Rattle.c_syntax.specs.Tokens.{PlainToken, PlainTokens, plain_token}
use Rattle.c_syntax.specs.declared.refusal.FrontFault.{FrontFault}
use Rattle.c_syntax.specs.declared.refusal.FrontFault.TheVariants as front
use Rattle.c_model.specs.TokenWords.{syntax_refusal}
use Rattle.mon_syntax.specs.Parsed.{ParsedProgram}
use Rattle.mon_syntax.specs.Grammar.{Vocabulary, static_kind, head_kind, first_function, text}
use Rattle.mon_syntax.specs.Spelled.{vocabulary, IsRead}
use Rattle.c_syntax.specs.declared.fault.ReadFault.{ReadFault}
use Rattle.c_syntax.specs.declared.fault.ReadFault.TheVariants as fault
use Rattle.token_reader.specs.Reading.{plain_list, label, Fails}
use Rattle.mon_parser.specs.Answers.{Refuses}
use Rattle.token_reader.specs.Answers.{RefusesWith, RefusesFault}
use Rattle.mon_syntax.proofs.ExactTexts.{text_exact}

pub one : (ws : Vocabulary) → AtMostOne (text ws)
one ws = at_most_one (text ws) false (head_kind ∷ []) (λ _. static_kind ∷ first_function) (text_exact ws)

pub begun : (ws : Vocabulary) → ReadingsBegin (text ws)
begun ws = (text_exact ws).begins

pub fronts : (ws : Vocabulary) → FrontsBegin (text ws)
fronts ws = (text_exact ws).fronts

pub limits : (ws : Vocabulary) → OneLimit (text ws)
limits ws = (text_exact ws).one_limit

module _ (ts : PlainTokens) where
  abbrev parsed : Result (ParsedProgram × List PlainToken) ParseFault
  parsed = (text (vocabulary ts)).parse ts.list

  accepted_is : (p : ParsedProgram) → IsRead ts p → parsed ≡ Ok (p, [])
  accepted_is p a = accepts (text (vocabulary ts)) false (head_kind ∷ []) (λ _. static_kind ∷ first_function) (text_exact (vocabulary ts)) ts.list p a

  -- read to the end
  whole : (p : ParsedProgram) → parsed ≡ Ok (p, []) → IsRead ts p
  whole p e = accepts_back (text (vocabulary ts)) false (head_kind ∷ []) (λ _. static_kind ∷ first_function) (text_exact (vocabulary ts)) ts.list p e

  not_read : (r : Result (ParsedProgram × List PlainToken) ParseFault) → parsed ≡ r → ((p : ParsedProgram) → r ≡ Ok (p, []) → ⊥) → (p : ParsedProgram) → IsRead ts p → ⊥
  not_read r e h p a = h p (sym e ∙ accepted_is p a)

  grammar_refused : (f : ParseFault) → Refused (text (vocabulary ts)) ts.list f → ((p : ParsedProgram) → IsRead ts p → ⊥) → (e : FrontFault) → RefusesWith (syntax_refusal ts f) e → Refuses e ts
  grammar_refused f h n front.Memory g = tt
  grammar_refused f h n (front.Refused x) g = record { fault = f; refused = h; unread = n; is = g }

  fault_given : (f : ParseFault) → parsed ≡ Err f → (e : FrontFault) → RefusesWith (syntax_refusal ts f) e → Refuses e ts
  fault_given f k = grammar_refused f (refused (text (vocabulary ts)) false (head_kind ∷ []) (λ _. static_kind ∷ first_function) (text_exact (vocabulary ts)) ts.list f k) (not_read (Err f) k (λ p q. cc))

  -- a fault was given
  faulty : (r : ReadFault) (e : FrontFault) → Fails r parsed → RefusesFault ts r e → Refuses e ts
  faulty (fault.At n) e k g = fault_given (At n) k e g
  faulty (fault.Over limit n) e k g = fault_given (Over (label limit) n) k e g
  faulty fault.Memory e k g = subst (λ (x : FrontFault). Refuses x ts) (sym g) tt

  -- tokens are left over: the first of them can't follow
  left_over : (p : ParsedProgram) (t : PlainToken) (rest : List PlainToken) (e : FrontFault) → parsed ≡ Ok (p, t ∷ rest) → RefusesFault ts (fault.At (suc (length rest))) e → Refuses e ts
  left_over p t rest e k g =
      let f = found (text (vocabulary ts)) false (head_kind ∷ []) (λ _. static_kind ∷ first_function) (text_exact (vocabulary ts)) ts.list p (t ∷ rest) k in
      grammar_refused (At (length (t ∷ rest))) (record { front = f.front; rest = t ∷ rest; longest = f.longest; place = refl; within = f.within })
      (not_read (Ok (p, t ∷ rest)) k (λ q same. let none : t ∷ rest ≡ [] = ap (λ (x : ParsedProgram × List PlainToken). x.1) (ok_is (p, t ∷ rest) (q, []) same) in cc)) e g

-- ---- the same of the slices that were read

abbrev Parsed : Vocabulary → List PlainToken → Result (ParsedProgram × List PlainToken) ParseFault
Parsed ws list = (text ws).parse list

module _ (ts : PlainTokens) (ws : Vocabulary) (list : List PlainToken) (same_words : ws ≡ vocabulary ts) (same_list : list ≡ ts.list) where
  same : Parsed ws list ≡ parsed ts
  same = λ i. Parsed (same_words i) (same_list i)

  pub read_whole : (p : ParsedProgram) (rest : List Token) → Parsed ws list ≡ Ok (p, plain_list rest) → length rest ≡ 0 → IsRead ts p
  read_whole p [] e z = whole ts p (sym same ∙ e)
  read_whole p (t ∷ rest) e z = absurd cc

  pub read_part : (p : ParsedProgram) (rest : List Token) (n : ℕ) (e : FrontFault) → Parsed ws list ≡ Ok (p, plain_list rest) → (length rest ≡ 0 → ⊥) → n ≡ length (plain_list rest) → RefusesFault ts (fault.At n) e → Refuses e ts
  read_part p [] n e k z is g = absurd (z refl)
  read_part p (t ∷ rest) n e k z is g = left_over ts p (plain_token t) (plain_list rest) e (sym same ∙ k) (subst (λ (m : ℕ). RefusesFault ts (fault.At m) e) is g)

  pub read_fault : (r : ReadFault) (e : FrontFault) → Fails r (Parsed ws list) → RefusesFault ts r e → Refuses e ts
  read_fault r e k = faulty ts r e (subst (λ (x : Result (ParsedProgram × List PlainToken) ParseFault). Fails r x) same k)
