-- From what the productions gave to what the answers mean.
use Rattle.std.proofs.Common.{◌≡◌, ℕ, suc, true, List, [], ◌∷◌, length, Result, Ok, Err, Option, Some, None, inl, inr, refl, sym, ap, subst, ◌∙◌}
use Rattle.grammar.specs.Syntax.{ParseFault, At, Over}
use Rattle.grammar.specs.Exact.{Accepts, AtMostOne, ReadingsBegin, FrontsBegin, OneLimit, IsExact}
use Rattle.grammar.proofs.Parts.{ok_is}
use Rattle.grammar.proofs.Theorem.{found, refused, accepts, accepts_back, readings_begin, fronts_begin, one_limit}
use Rattle.c_syntax.specs.declared.place.Place.{Place}
use Rattle.c_syntax.specs.declared.token.Token.{Token}
use Rattle.c_syntax.specs.Tokens.{PlainToken, PlainTokens, plain_token}
use Rattle.c_syntax.specs.Programs.{StringLiteral, TranslationUnit}
use Rattle.c_syntax.specs.declared.refusal.FrontFault.{FrontFault}
use Rattle.c_syntax.specs.declared.refusal.FrontFault.TheVariants as front
use Rattle.c_syntax.specs.declared.fault.ReadFault.{ReadFault}
use Rattle.c_syntax.specs.declared.fault.ReadFault.TheVariants as fault
use Rattle.c_model.specs.Vocabulary.{Vocabulary}
use Rattle.c_model.specs.ProgramGrammar.{FileParts, no_parts, texts_of, unit_with, any_kind, more_external, unit}
use Rattle.c_model.specs.Checked.{Fault}
use Rattle.c_model.specs.Phases.{vocabulary, IsRead, IsSyntaxFault, place_fault}
use Rattle.c_parser.proofs.PlaceFaults.{no_fault}
use Rattle.c_model.specs.TokenWords.{syntax_refusal, refused_at_place}
use Rattle.token_reader.specs.Reading.{plain_list, label, Fails}
use Rattle.token_reader.specs.Answers.{RefusesWith, RefusesFault}
use Rattle.token_reader.proofs.Faults.{again}
use Rattle.c_parser.specs.Answers.{Refuses}
use Rattle.c_parser.proofs.ExactPrograms.{any, unit_good, one_unit}

pub one : (ws : Vocabulary) (names : List (List ℕ)) (texts : List StringLiteral) → AtMostOne (unit ws names texts)
one ws names texts = one_unit ws names texts

unit_exact : (ws : Vocabulary) (names : List (List ℕ)) (texts : List StringLiteral) → IsExact any_kind (unit ws names texts) true any (λ _. any)
unit_exact ws names texts = (unit_good ws names texts).here

pub begun : (ws : Vocabulary) (names : List (List ℕ)) (texts : List StringLiteral) → ReadingsBegin (unit ws names texts)
begun ws names texts = readings_begin (unit ws names texts) true any (λ _. any) (unit_exact ws names texts)

pub fronts : (ws : Vocabulary) (names : List (List ℕ)) (texts : List StringLiteral) → FrontsBegin (unit ws names texts)
fronts ws names texts = fronts_begin (unit ws names texts) true any (λ _. any) (unit_exact ws names texts)

pub limits : (ws : Vocabulary) (names : List (List ℕ)) (texts : List StringLiteral) → OneLimit (unit ws names texts)
limits ws names texts = one_limit (unit ws names texts) true any (λ _. any) (unit_exact ws names texts)

module _ (ts : PlainTokens) where
  abbrev Placed : Type 0
  Placed = TranslationUnit × Option Place

  abbrev parsed : Result (Placed × List PlainToken) ParseFault
  parsed = (unit (vocabulary ts) ts.names (texts_of ts.list)).parse ts.list

  abbrev IsAccepted : Placed → Type 0
  IsAccepted p = Accepts (unit (vocabulary ts) ts.names (texts_of ts.list)) ts.list p

  accepted_is : (p : Placed) → IsAccepted p → parsed ≡ Ok (p, [])
  accepted_is p a = accepts (unit (vocabulary ts) ts.names (texts_of ts.list)) true any (λ _. any) (unit_exact (vocabulary ts) ts.names (texts_of ts.list)) ts.list p a

  -- read to the end
  whole : (p : Placed) → parsed ≡ Ok (p, []) → IsAccepted p
  whole p e = accepts_back (unit (vocabulary ts) ts.names (texts_of ts.list)) true any (λ _. any) (unit_exact (vocabulary ts) ts.names (texts_of ts.list)) ts.list p e

  not_read : (r : Result (Placed × List PlainToken) ParseFault) → parsed ≡ r → ((p : Placed) → r ≡ Ok (p, []) → ⊥) → (p : Placed) → IsAccepted p → ⊥
  not_read r e h p a = h p (sym e ∙ accepted_is p a)

  grammar_refused : (f : ParseFault) → IsSyntaxFault ts f → (e : FrontFault) → RefusesWith (syntax_refusal ts f) e → Refuses e ts
  grammar_refused f h front.Memory g = tt
  grammar_refused f h (front.Refused x) g = inl (record { fault = f; found = h; is = g })

  fault_given : (f : ParseFault) → parsed ≡ Err f → (e : FrontFault) → RefusesWith (syntax_refusal ts f) e → Refuses e ts
  fault_given f k = grammar_refused f (record {
    refused = refused (unit (vocabulary ts) ts.names (texts_of ts.list)) true any (λ _. any) (unit_exact (vocabulary ts) ts.names (texts_of ts.list)) ts.list f k;
    unread = not_read (Err f) k (λ p q. cc);
  })

  -- a fault was given
  faulty : (r : ReadFault) (e : FrontFault) → Fails r parsed → RefusesFault ts r e → Refuses e ts
  faulty (fault.At n) e k g = fault_given (At n) k e g
  faulty (fault.Over limit n) e k g = fault_given (Over (label limit) n) k e g
  faulty fault.Memory e k g = subst (λ (x : FrontFault). Refuses x ts) (sym g) tt

  -- tokens are left over: the first of them can't follow
  left_over : (p : Placed) (t : PlainToken) (rest : List PlainToken) (e : FrontFault) → parsed ≡ Ok (p, t ∷ rest) → RefusesFault ts (fault.At (suc (length rest))) e → Refuses e ts
  left_over p t rest e k g =
      let f = found (unit (vocabulary ts) ts.names (texts_of ts.list)) true any (λ _. any) (unit_exact (vocabulary ts) ts.names (texts_of ts.list)) ts.list p (t ∷ rest) k in
      grammar_refused (At (length (t ∷ rest))) (record {
        refused = record { front = f.front; rest = t ∷ rest; longest = f.longest; place = refl; within = f.within };
        unread = not_read (Ok (p, t ∷ rest)) k (λ q same. let none : t ∷ rest ≡ [] = ap (λ (x : Placed × List PlainToken). x.1) (ok_is (p, t ∷ rest) (q, []) same) in cc);
      }) e g

-- ---- the same of the slices that were read

abbrev Parsed : Vocabulary → List (List ℕ) → List StringLiteral → List PlainToken → Result ((TranslationUnit × Option Place) × List PlainToken) ParseFault
Parsed ws names texts list = (unit ws names texts).parse list

module _ (ts : PlainTokens) (ws : Vocabulary) (names : List (List ℕ)) (texts : List StringLiteral) (list : List PlainToken) (same_words : ws ≡ vocabulary ts) (same_names : names ≡ ts.names) (same_texts : texts ≡ texts_of ts.list)
    (same_list : list ≡ ts.list) where
  same : Parsed ws names texts list ≡ parsed ts
  same = λ i. Parsed (same_words i) (same_names i) (same_texts i) (same_list i)

  -- a text is read as what it declares is
  of_parts : (x : FileParts) (rest : List PlainToken) → (more_external (no_parts ws)).parse list ≡ Ok (x, rest) → Parsed ws names texts list ≡ Ok ((unit_with names texts x, x.annotations.misplaced), rest)
  unfolding unit
  of_parts x rest e = rw e refl

  pub read_whole : (x : FileParts) (rest : List Token) → (more_external (no_parts ws)).parse list ≡ Ok (x, plain_list rest) → length rest ≡ 0
      → Accepts (unit (vocabulary ts) ts.names (texts_of ts.list)) ts.list (unit_with names texts x, x.annotations.misplaced)
  read_whole x [] e z = whole ts (unit_with names texts x, x.annotations.misplaced) (sym same ∙ of_parts x [] e)
  read_whole x (t ∷ rest) e z = absurd cc

  pub read_placed : (x : FileParts) (rest : List Token) → (more_external (no_parts ws)).parse list ≡ Ok (x, plain_list rest) → length rest ≡ 0 → place_fault (unit_with names texts x, x.annotations.misplaced) ≡ None
      → IsRead ts (unit_with names texts x)
  read_placed x rest e z m =
      let none = no_fault (unit_with names texts x) x.annotations.misplaced m in
      record {
        reading = subst (λ (o : Option Place). Accepts (unit (vocabulary ts) ts.names (texts_of ts.list)) ts.list (unit_with names texts x, o)) none.0 (read_whole x rest e z);
        guarded = none.1;
      }

  pub read_misplaced : (x : FileParts) (rest : List Token) (f : Fault) (e : FrontFault) → (more_external (no_parts ws)).parse list ≡ Ok (x, plain_list rest) → length rest ≡ 0 → place_fault (unit_with names texts x, x.annotations.misplaced) ≡ Some f
      → RefusesWith (refused_at_place ts f.code f.place) e → Refuses e ts
  read_misplaced x rest f front.Memory k z m g = tt
  read_misplaced x rest f (front.Refused r) k z m g = inr (record {
    tree = unit_with names texts x;
    fault = f;
    found = record { at = x.annotations.misplaced; reading = read_whole x rest k z; is = m };
    is = g;
  })

  pub read_part : (x : FileParts) (rest : List Token) (n : ℕ) (e : FrontFault) → (more_external (no_parts ws)).parse list ≡ Ok (x, plain_list rest) → (length rest ≡ 0 → ⊥) → n ≡ length (plain_list rest) → RefusesFault ts (fault.At n) e → Refuses e ts
  read_part x [] n e k z is g = absurd (z refl)
  read_part x (t ∷ rest) n e k z is g = left_over ts (unit_with names texts x, x.annotations.misplaced) (plain_token t) (plain_list rest) e (sym same ∙ of_parts x (plain_list (t ∷ rest)) k) (subst (λ (m : ℕ). RefusesFault ts (fault.At m) e) is g)

  failed : (d : ParseFault) → (more_external (no_parts ws)).parse list ≡ Err d → Parsed ws names texts list ≡ Err d
  unfolding unit
  failed d e = rw e refl

  pub read_fault : (r : ReadFault) (e : FrontFault) → Fails r ((more_external (no_parts ws)).parse list) → RefusesFault ts r e → Refuses e ts
  read_fault r e k = faulty ts r e (subst (λ (x : Result ((TranslationUnit × Option Place) × List PlainToken) ParseFault). Fails r x) same (again r failed k))
