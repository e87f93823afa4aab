-- From what the production gave to what the answer means.
use Rattle.std.proofs.Common.{◌≡◌, ℕ, zero, suc, ◌+◌, ◌-◌, ◌<◌, ◌≤◌, ◌⊎◌, inl, inr, false, List, [], ◌∷◌, ◌++◌, length, drop, Option, Result, Ok, Err, refl, sym, ap, subst, ◌∙◌, arith}
use Rattle.std.proofs.lemmas.List.{length-map}
use Rattle.std.proofs.Math.Seq.{drop-nil}
use Rattle.grammar.specs.Syntax.{ParseFault, At, Over, sees}
use Rattle.grammar.specs.Exact.{Found, RefusedAt, Unread, IsExact, Late, AtMostOne, ReadingsBegin, FrontsBegin, OneLimit}
use Rattle.grammar.proofs.Bounds.{rest_below}
use Rattle.grammar.proofs.Theorem.{found, refused_at, refused_over, rest_is, rest_within_text, at_most_one, readings_begin, fronts_begin, one_limit}
use Rattle.c_syntax.specs.declared.token.Token.{Token}
use Rattle.c_syntax.specs.Logic.{Annotation}
use Rattle.c_syntax.specs.Programs.{FunctionContract}
use Rattle.c_syntax.specs.Tokens.{PlainToken, PlainTokens, plain_token}
use Rattle.c_syntax.specs.declared.refusal.FrontFault.{FrontFault}
use Rattle.c_syntax.specs.declared.refusal.FrontFault.TheVariants as front
use Rattle.c_syntax.specs.declared.fault.ReadFault.{ReadFault}
use Rattle.c_syntax.specs.declared.fault.ReadFault.TheVariants as fault
use Rattle.c_model.specs.Vocabulary.{Vocabulary}
use Rattle.c_model.specs.TokenWords.{syntax_refusal}
use Rattle.c_model.specs.ExpressionGrammar.{kind, annot_open_kind}
use Rattle.c_model.specs.ClauseGrammar.{ReadAnnotation, annotations}
use Rattle.token_reader.specs.Reading.{plain_list, label, Fails}
use Rattle.token_reader.specs.Answers.{RefusesWith, RefusesFault}
use Rattle.c_expr_parser.specs.Answers.{NotRead, words_of}
use Rattle.c_expr_parser.proofs.Windows.{map_drop, drop_long}
use Rattle.acsl_parser.specs.Answers.{clauses_of, contract_of, annotation_at, IsReadAt, RefusesAt}
use Rattle.acsl_parser.proofs.ExactAnnotations.{annotations_good}

abbrev Numbered : Type 0
Numbered = ReadAnnotation × ℕ

abbrev Reading : Type 0
Reading = Result (Numbered × List PlainToken) ParseFault

abbrev read : Numbered → List PlainToken → Reading
read x rest = Ok (x, rest)

abbrev refused : ParseFault → Reading
refused f = Err f

-- ---- no token can go on with a whole annotation

nothing_goes_on : (ws : Vocabulary) (ts : List PlainToken) → sees (kind ws) [] ts ≡ false
nothing_goes_on ws [] = refl
nothing_goes_on ws (t ∷ ts) = refl

read_or_late : (r : Reading) (x : Numbered) (rest : List PlainToken) (m n : ℕ) → (r ≡ Ok (x, rest)) ⊎ Late r m → r ≡ Err (At n) → ⊥
read_or_late r x rest m n (inl e) h = let q : read x rest ≡ refused (At n) = sym e ∙ h in cc
read_or_late r x rest m n (inr l) h = let q : refused (Over l.label l.left) ≡ refused (At n) = sym l.is ∙ h in cc

module _ (ws : Vocabulary) (first : ℕ) where
  exact : IsExact (kind ws) (annotations ws first) false (annot_open_kind ∷ []) (λ _. [])
  exact = (annotations_good ws first).here

  pub one : AtMostOne (annotations ws first)
  one = at_most_one (annotations ws first) false (annot_open_kind ∷ []) (λ _. []) exact

  pub begun : ReadingsBegin (annotations ws first)
  begun = readings_begin (annotations ws first) false (annot_open_kind ∷ []) (λ _. []) exact

  pub fronts : FrontsBegin (annotations ws first)
  fronts = fronts_begin (annotations ws first) false (annot_open_kind ∷ []) (λ _. []) exact

  pub limits : OneLimit (annotations ws first)
  limits = one_limit (annotations ws first) false (annot_open_kind ∷ []) (λ _. []) exact

  -- the tokens before a refused one are no annotation
  unread : (text : List PlainToken) (n : ℕ) → (annotations ws first).parse text ≡ Err (At n) → Unread (annotations ws first) text n
  unread text n e = record { refused = r; unread = none }
    where
      r : RefusedAt (annotations ws first) text n
      r = refused_at (annotations ws first) false (annot_open_kind ∷ []) (λ _. []) exact text n e

      none : (x : Numbered) → (annotations ws first).reads r.front x → ⊥
      none x reads =
          let stops : (annotations ws first).parse (r.front ++ r.rest) ≡ Err (At n) = ap (annotations ws first).parse (sym r.longest.parts) ∙ e in
          read_or_late ((annotations ws first).parse (r.front ++ r.rest)) x r.rest (suc (length r.rest)) n (exact.again r.front x r.rest reads (nothing_goes_on ws r.rest)) stops

-- what is left of tokens is no more than they were
pub left_within : (ws : Vocabulary) (first : ℕ) (tokens left : List Token) (x : Numbered) → (annotations ws first).parse (plain_list tokens) ≡ Ok (x, plain_list left) → length left ≤ length tokens
left_within ws first tokens left x h =
    let le = rest_within_text (annotations ws first) false (annot_open_kind ∷ []) (λ _. []) (exact ws first) (plain_list tokens) x (plain_list left) h in
    omega (arith, le, length-map tokens plain_token, length-map left plain_token)

-- ---- places

drop_drop : {T : Type 0} (m n : ℕ) (ts : List T) → drop m (drop n ts) ≡ drop (n + m) ts
drop_drop m zero ts = let e : 0 + m ≡ m = omega arith in rw e refl
drop_drop m (suc n) [] = drop-nil m ∙ sym (drop-nil (suc n + m))
drop_drop m (suc n) (t ∷ ts) = let e : suc n + m ≡ suc (n + m) = omega arith in rw e (drop_drop m n ts)

module _ (ts : PlainTokens) (types : List ℕ) (at first : ℕ) (start : at ≤ length ts.list) where
  -- what is left is what stands after a place
  behind_is : (x : Numbered) (rest : List PlainToken) (k : ℕ) → annotation_at ts types at first ≡ Ok (x, rest) → k + length rest ≡ length ts.list → rest ≡ drop k ts.list
  behind_is x rest k h l =
      let shorter = rest_within_text (annotations (words_of ts types) first) false (annot_open_kind ∷ []) (λ _. []) (exact (words_of ts types) first) (drop at ts.list) x rest h in
      let long = drop_long at ts.list in
      let n : at + (length (drop at ts.list) - length rest) ≡ k = omega (arith, shorter, long, l, start) in
      rest_is (annotations (words_of ts types) first) false (annot_open_kind ∷ []) (λ _. []) (exact (words_of ts types) first) (drop at ts.list) x rest h
      ∙ drop_drop (length (drop at ts.list) - length rest) at ts.list ∙ ap (λ (m : ℕ). drop m ts.list) n

  found_at : (x : Numbered) (rest : List PlainToken) → annotation_at ts types at first ≡ Ok (x, rest) → Found (annotations (words_of ts types) first) (drop at ts.list) x rest
  found_at x rest h = found (annotations (words_of ts types) first) false (annot_open_kind ∷ []) (λ _. []) (exact (words_of ts types) first) (drop at ts.list) x rest h

  go_on : (x : Numbered) (rest : List PlainToken) → Found (annotations (words_of ts types) first) (drop at ts.list) x rest → length rest < length (drop at ts.list)
  go_on x rest f = rest_below (kind (words_of ts types)) (annotations (words_of ts types) first) (annot_open_kind ∷ []) (λ _. []) (exact (words_of ts types) first) (drop at ts.list) x f.front rest f.longest.parts f.reading

  read_at : (read : ReadAnnotation) (all : List Annotation) (contract : Option FunctionContract) (next : ℕ) (rest : List PlainToken) (k : ℕ) → annotation_at ts types at first ≡ Ok ((read, next), rest) → all ≡ clauses_of read
      → contract ≡ contract_of read → k + length rest ≡ length ts.list → IsReadAt ts types at first all contract k
  read_at read all contract next rest k h clauses is_contract l =
      let x : Numbered = (read, next) in
      let same : rest ≡ drop k ts.list = behind_is x rest k h l in
      let q : annotation_at ts types at first ≡ Ok (x, drop k ts.list) = h ∙ ap (λ (r : List PlainToken). Ok (x, r)) same in
      let less = go_on x rest (found_at x rest h) in
      let long = drop_long at ts.list in
      record {
        forth = omega (arith, less, long, l, start);
        within = omega (arith, l);
        read = read;
        clauses = clauses;
        is_contract = is_contract;
        next = next;
        parsed = q;
        found = found_at x (drop k ts.list) q;
      }

  not_read : (f : ParseFault) → annotation_at ts types at first ≡ Err f → NotRead (annotations (words_of ts types) first) (drop at ts.list) f
  not_read (At n) h = unread (words_of ts types) first (drop at ts.list) n h
  not_read (Over i n) h = refused_over (annotations (words_of ts types) first) false (annot_open_kind ∷ []) (λ _. []) (exact (words_of ts types) first) (drop at ts.list) i n h

  refused_with : (f : ParseFault) → annotation_at ts types at first ≡ Err f → (e : FrontFault) → RefusesWith (syntax_refusal ts f) e → RefusesAt ts types at first e
  refused_with f h front.Memory g = tt
  refused_with f h (front.Refused r) g = record { fault = f; parsed = h; refused = not_read f h; is = g }

  fault_at : (r : ReadFault) (e : FrontFault) → Fails r (annotation_at ts types at first) → RefusesFault ts r e → RefusesAt ts types at first e
  fault_at (fault.At n) e h g = refused_with (At n) h e g
  fault_at (fault.Over limit n) e h g = refused_with (Over (label limit) n) h e g
  fault_at fault.Memory e h g = subst (λ (x : FrontFault). RefusesAt ts types at first x) (sym g) tt

-- ---- the same of the slices that were read

abbrev Parsed : Vocabulary → ℕ → List PlainToken → Reading
Parsed ws first list = (annotations ws first).parse list

module _ (ts : PlainTokens) (types : List ℕ) (at first : ℕ) (ws : Vocabulary) (list rest : List Token) (same_words : ws ≡ words_of ts types) (same_list : plain_list list ≡ ts.list) (same_rest : rest ≡ drop at list) (start : at ≤ length list) where
  same : Parsed ws first (plain_list rest) ≡ annotation_at ts types at first
  same =
      let r : plain_list rest ≡ drop at ts.list = ap plain_list same_rest ∙ map_drop plain_token at list ∙ ap (λ (l : List PlainToken). drop at l) same_list in
      λ i. Parsed (same_words i) first (r i)

  starts : at ≤ length ts.list
  starts = omega (arith, start, length-map list plain_token, ap length same_list)

  pub annotation_read : (read : ReadAnnotation) (all : List Annotation) (contract : Option FunctionContract) (next : ℕ) (left : List Token) (k : ℕ) → Parsed ws first (plain_list rest) ≡ Ok ((read, next), plain_list left) → all ≡ clauses_of read
      → contract ≡ contract_of read → k + length left ≡ length list → IsReadAt ts types at first all contract k
  annotation_read read all contract next left k h clauses is_contract l =
      read_at ts types at first starts read all contract next (plain_list left) k (sym same ∙ h) clauses is_contract (omega (arith, l, length-map left plain_token, length-map list plain_token, ap length same_list))

  pub annotation_refused : (r : ReadFault) (e : FrontFault) → Fails r (Parsed ws first (plain_list rest)) → RefusesFault ts r e → RefusesAt ts types at first e
  annotation_refused r e h g = fault_at ts types at first starts r e (subst (λ (x : Reading). Fails r x) same h) g
