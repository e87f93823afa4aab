-- The parameters and registers of a printed function are read, and found by their names.
use Rattle.std.proofs.Common.{◌≡◌, ℕ, zero, suc, ◌+◌, Bool, true, false, ◌||◌, List, [], ◌∷◌, ◌++◌, map, slice_get, codes, Option, Some, None, Ok, refl, sym, ap, subst, ◌∙◌, arith, append_assoc, eq-eqb, true≢false}
use Rattle.std.specs.Prelude.{bytes_eq, nat_eq}
use Rattle.std.specs.List.{list_any, AllByRecursion}
use Rattle.std.proofs.lemmas.Bool.{eqb-true}
use Rattle.std.proofs.lemmas.List.{append-nil}
use Rattle.grammar.specs.Syntax.{Syntax, sees, many}
use Rattle.grammar.proofs.Productions.{turn, turn_ends}
use Rattle.c_syntax.specs.declared.place.Place.{Place}
use Rattle.c_syntax.specs.Tokens as token
use Rattle.c_syntax.specs.Tokens.{PlainToken}
use Rattle.c_model.specs.Names.{name_number}
use Rattle.c_model.specs.MonitoredTokens as made
use Rattle.c_model.specs.Punctuators.{comma, semicolon, right_paren}
use Rattle.mon_syntax.specs.declared.tree.MonType.{MonType}
use Rattle.mon_syntax.specs.declared.word.Word.TheVariants as word
use Rattle.mon_syntax.specs.Words.{word_of}
use Rattle.mon_syntax.specs.Trees.{MonRegister}
use Rattle.mon_syntax.specs.Text as text
use Rattle.mon_syntax.specs.Text.{Registers, name_or_none, registers_pieces, parameters_pieces}
use Rattle.mon_syntax.specs.Valid.{has_label, AreRegisters, types_of}
use Rattle.mon_syntax.specs.Parsed.{ParsedRegister}
use Rattle.mon_syntax.specs.Grammar.{Vocabulary, name_kind, type_kind, void_kind, mark_kind, word_kind, word_at, kind, type_of_word, type_of, register, registers, parameter, next_parameter, some_parameters, parameters}
use Rattle.mon_syntax.specs.Checking.{find_register, checked_registers, named_register, kinds_of, word_bytes}
use Rattle.mon_syntax.proofs.ExactTexts.{register_good, next_parameter_good}
use Rattle.mon_syntax.proofs.PrintedPieces.{AreTokens, is_same}
use Rattle.mon_syntax.proofs.PrintedForms.{Pieces}
use Rattle.mon_syntax.proofs.PrintedAlone.{same_bytes}
use Rattle.mon_syntax.proofs.PrintedSteps.{free_is_name, type_word_is, mark_read, fixed_read, placed_read, name_read, sees_mark, sees_word}
use Rattle.mon_syntax.proofs.PrintedExpressions.{AreWords}

void_word : word_of (codes "void") ≡ word.Void
unfolding word_of
void_word = refl

pub both_false : (a b : Bool) → a || b ≡ false → (a ≡ false) × (b ≡ false)
both_false true b h = absurd cc
both_false false b h = (refl, h)

pub or_last : (a b : Bool) → b ≡ true → a || b ≡ true
or_last true b h = refl
or_last false b h = h

module _ (names : List (List ℕ)) where
  abbrev pub number : List ℕ → ℕ
  number = name_number names

  abbrev pub IsKnown : List ℕ → Type 0
  IsKnown w = slice_get names (number w) ≡ Some w

  abbrev pub AreKnown : Registers → Type 0
  AreKnown rs = AllByRecursion (λ (r : MonRegister). IsKnown r.name) rs

  -- a register by its name's number
  abbrev pub entry : MonRegister → ℕ × MonType
  entry r = (number r.name, r.kind)

  -- different words have different numbers
  pub numbers_differ : (v w : List ℕ) → IsKnown v → IsKnown w → bytes_eq w v ≡ false → nat_eq (number v) (number w) ≡ false
  numbers_differ v w h g differ = by (nat_eq (number v) (number w)) refl
    where
      by : (t : Bool) → nat_eq (number v) (number w) ≡ t → t ≡ false
      by true e =
          let both : Some v ≡ Some w = sym h ∙ ap (slice_get names) (eqb-true (number v) (number w) e) ∙ g in
          let same : v ≡ w = cc in
          absurd (true≢false (sym (is_same w) ∙ ap (bytes_eq w) (sym same) ∙ differ))
      by false e = refl

  -- ---- registers are found by their names

  named : (rs : Registers) (r : ℕ) (t : MonType) → AreKnown rs → slice_get (types_of rs) r ≡ Some t → IsKnown (name_or_none (slice_get rs r))
  named [] r t h e = absurd cc
  named (x ∷ rs) zero t h e = h.0
  named (x ∷ rs) (suc r) t h e = named rs r t h.1 e

  pub free_named : (before : List (List ℕ)) (rs : Registers) (r : ℕ) (t : MonType) → AreRegisters before rs → slice_get (types_of rs) r ≡ Some t → word_of (name_or_none (slice_get rs r)) ≡ word.Name
  free_named before [] r t h e = absurd cc
  free_named before (x ∷ rs) zero t h e = free_is_name x.name h.0
  free_named before (x ∷ rs) (suc r) t h e = free_named (x.name ∷ before) rs r t h.2 e

  -- no register has a name that stands before
  not_before : (before : List (List ℕ)) (rs : Registers) (r : ℕ) (t : MonType) → AreRegisters before rs → slice_get (types_of rs) r ≡ Some t → has_label before (name_or_none (slice_get rs r)) ≡ false
  not_before before [] r t h e = absurd cc
  not_before before (x ∷ rs) zero t h e = h.1
  not_before before (x ∷ rs) (suc r) t h e = (both_false (bytes_eq (name_or_none (slice_get rs r)) x.name) (has_label before (name_or_none (slice_get rs r))) (not_before (x.name ∷ before) rs r t h.2 e)).1

  pub find_is : (before : List (List ℕ)) (rs : Registers) (k r : ℕ) (t : MonType) → AreKnown rs → AreRegisters before rs → slice_get (types_of rs) r ≡ Some t → find_register k (map entry rs) (number (name_or_none (slice_get rs r))) ≡ Some (k + r, t)
  find_is before [] k r t known h e = absurd cc
  find_is before (x ∷ rs) k zero t known h e =
      let same : x.kind ≡ t = cc in
      let here : k ≡ k + 0 = omega arith in
      rw (eq-eqb (number x.name) (number x.name) refl) (λ i. Some (here i, same i))
  find_is before (x ∷ rs) k (suc r) t known h e =
      let other = (both_false (bytes_eq (name_or_none (slice_get rs r)) x.name) (has_label before (name_or_none (slice_get rs r))) (not_before (x.name ∷ before) rs r t h.2 e)).0 in
      let differ = numbers_differ x.name (name_or_none (slice_get rs r)) known.0 (named rs r t known.1 e) other in
      let there : suc k + r ≡ k + suc r = omega arith in
      rw differ (find_is (x.name ∷ before) rs (suc k) r t known.1 h.2 e ∙ ap (λ (n : ℕ). Some (n, t)) there)

  -- a word that stands before is no register's
  pub not_found : (before : List (List ℕ)) (rs : Registers) (k : ℕ) (w : List ℕ) → AreKnown rs → AreRegisters before rs → IsKnown w → has_label before w ≡ true
      → find_register k (map entry rs) (number w) ≡ None
  not_found before [] k w known h there label = refl
  not_found before (x ∷ rs) k w known h there label =
      rw (numbers_differ x.name w known.0 there (by (bytes_eq w x.name) refl))
      (not_found (x.name ∷ before) rs (suc k) w known.1 h.2 there (or_last (bytes_eq w x.name) (has_label before w) label))
    where
      by : (t : Bool) → bytes_eq w x.name ≡ t → t ≡ false
      by true e = absurd (true≢false (sym label ∙ ap (has_label before) (same_bytes w x.name e) ∙ h.1))
      by false e = refl

  -- the registers that are found are those that were printed
  pub registers_back : (rs : Registers) → AreKnown rs → map (named_register names) (map entry rs) ≡ rs
  registers_back [] h = refl
  registers_back (r ∷ rs) h =
      let name : elim (slice_get names (number r.name)) [ None ↦ [] | Some w ↦ w ] ≡ r.name = ap (λ (o : Option (List ℕ)). elim o [ None ↦ [] | Some w ↦ w ]) h.0 in
      λ i. record { kind = r.kind; name = name i } ∷ registers_back rs h.1 i

  pub bytes_are : (w : List ℕ) → IsKnown w → word_bytes names (number w) ≡ w
  bytes_are w h = rw (h, word_bytes) refl

  -- ---- registers are read

  -- the globals are given by their names' numbers
  module _ (ws : Vocabulary) (words : AreWords names ws) (globals : List ℕ) where
    abbrev more_registers : List ParsedRegister → Syntax PlainToken (List ParsedRegister)
    more_registers = many (kind ws) (λ _. type_kind ∷ []) (register ws)

    one_register : (xs : List ParsedRegister) (t : MonType) (n m : ℕ) {at to end : Place} {ts us vs rest : List PlainToken} → ts ≡ made.token at (token.Word n) ∷ us → word_at ws n ≡ word.TypeName t → us ≡ made.token to (token.Word m) ∷ vs
        → word_kind (word_at ws m) ≡ name_kind → vs ≡ made.token end (token.Mark semicolon) ∷ rest
        → (register ws xs).parse ts ≡ Ok (xs ++ (record { kind = t; name = record { place = to; number = m } } ∷ []), rest)
    unfolding register
    one_register xs t n m a w b v c = rw (placed_read ws (type_of ws) (token.Word n) t a (ap type_of_word w), name_read ws m b v, mark_read ws semicolon c) refl

    registers_turn : (xs : List ParsedRegister) (x : ParsedRegister) (ts mid : List PlainToken) → sees (kind ws) (type_kind ∷ []) ts ≡ true → (register ws xs).parse ts ≡ Ok (xs ++ (x ∷ []), mid)
        → (more_registers xs).parse ts ≡ (more_registers (xs ++ (x ∷ []))).parse mid
    registers_turn xs x ts mid s e = turn (type_kind ∷ []) (register ws) (λ z. (register_good ws z).here) refl xs (xs ++ (x ∷ [])) ts mid s e

    registers_end : (xs : List ParsedRegister) (ts : List PlainToken) → sees (kind ws) (type_kind ∷ []) ts ≡ false → (more_registers xs).parse ts ≡ Ok (xs, ts)
    registers_end xs ts s = turn_ends (type_kind ∷ []) (register ws) (λ z. (register_good ws z).here) refl xs ts s

    -- none of the registers that are known has a name that doesn't stand before, and no global
    abbrev pub AreApart : List (List ℕ) → List (ℕ × MonType) → Type 0
    AreApart before known = (w : List ℕ) → IsKnown w → has_label before w ≡ false
        → (list_any (λ (x : ℕ × MonType). nat_eq x.0 (number w)) known ≡ false) × (list_any (nat_eq (number w)) globals ≡ false)

    any_behind : (p : ℕ × MonType → Bool) (xs : List (ℕ × MonType)) (x : ℕ × MonType) → list_any p xs ≡ false → p x ≡ false → list_any p (xs ++ (x ∷ [])) ≡ false
    any_behind p [] x a b = rw b refl
    any_behind p (y ∷ ys) x a b = let h = both_false (p y) (list_any p ys) a in rw (h.0) (any_behind p ys x h.1 b)

    more_apart : (before : List (List ℕ)) (known : List (ℕ × MonType)) (r : MonRegister) → IsKnown r.name → AreApart before known → AreApart (r.name ∷ before) (known ++ (entry r ∷ []))
    more_apart before known r there apart w h e =
        let k = both_false (bytes_eq w r.name) (has_label before w) e in
        let old = apart w h k.1 in
        (any_behind (λ (x : ℕ × MonType). nat_eq x.0 (number w)) known (entry r) old.0 (numbers_differ r.name w there h k.0), old.1)

    pub record AreRegistersAs (rs : Registers) (before : List (List ℕ)) (more : Pieces) (ts : List PlainToken) : Type 0 where
      pub trees : List ParsedRegister
      pub rest : List PlainToken
      pub after : AreTokens names more rest
      pub read : (xs : List ParsedRegister) → (more_registers xs).parse ts ≡ (more_registers (xs ++ trees)).parse rest
      pub known : AreKnown rs
      pub checked : (ks : List (ℕ × MonType)) → AreApart before ks → checked_registers ws globals ks trees ≡ Ok (ks ++ map entry rs)

    one_checked : (ks : List (ℕ × MonType)) (r : MonRegister) (at : Place) (trees : List ParsedRegister) → word_at ws (number r.name) ≡ word.Name
        → (list_any (λ (x : ℕ × MonType). nat_eq x.0 (number r.name)) ks ≡ false) × (list_any (nat_eq (number r.name)) globals ≡ false)
        → checked_registers ws globals ks (record { kind = r.kind; name = record { place = at; number = number r.name } } ∷ trees) ≡ checked_registers ws globals (ks ++ (entry r ∷ [])) trees
    one_checked ks r at trees w f = rw (w, f.1, f.0) refl

    pub registers_as : (rs : Registers) (before : List (List ℕ)) (more : Pieces) (ts : List PlainToken) → AreRegisters before rs
        → AreTokens names (registers_pieces rs ++ more) ts → AreRegistersAs rs before more ts
    registers_as [] before more ts h a = record {
      trees = [];
      rest = ts;
      after = a;
      read = λ xs. ap (λ (l : List ParsedRegister). (more_registers l).parse ts) (sym (append-nil xs));
      known = tt;
      checked = λ ks apart. ap Ok (sym (append-nil ks));
    }
    registers_as (r ∷ rs) before more ts h a =
        let type_is = words _ _ a.0 ∙ type_word_is r.kind in
        let name = a.1.3 in
        let name_is = words _ _ name.0 ∙ free_is_name r.name h.0 in
        let end = name.1.3 in
        let others = registers_as rs (r.name ∷ before) more end.1 h.2 end.3 in
        let tree : ParsedRegister = record { kind = r.kind; name = record { place = name.1.0; number = number r.name } } in
        record {
          trees = tree ∷ others.trees;
          rest = others.rest;
          after = others.after;
          read = λ xs.
              registers_turn xs tree ts end.1 (sees_word ws _ type_kind a.1.2 (ap word_kind type_is) (type_kind ∷ []) true refl) (one_register xs r.kind _ _ a.1.2 type_is name.1.2 (ap word_kind name_is) end.2)
              ∙ others.read (xs ++ (tree ∷ [])) ∙ ap (λ (l : List ParsedRegister). (more_registers l).parse others.rest) (append_assoc xs (tree ∷ []) others.trees);
          known = (name.0, others.known);
          checked = λ ks apart.
              one_checked ks r name.1.0 others.trees name_is (apart r.name name.0 h.1) ∙ others.checked (ks ++ (entry r ∷ [])) (more_apart before ks r name.0 apart)
              ∙ ap Ok (append_assoc ks (entry r ∷ []) (map entry rs));
        }

    pub registers_read : (trees : List ParsedRegister) (ts rest : List PlainToken) → (more_registers []).parse ts ≡ (more_registers trees).parse rest
        → sees (kind ws) (type_kind ∷ []) rest ≡ false → (registers ws).parse ts ≡ Ok (trees, rest)
    unfolding registers
    registers_read trees ts rest e s = e ∙ registers_end trees rest s

    -- ---- parameters are read

    one_parameter : (t : MonType) (n m : ℕ) {at to : Place} {ts us rest : List PlainToken} → ts ≡ made.token at (token.Word n) ∷ us
        → word_at ws n ≡ word.TypeName t → us ≡ made.token to (token.Word m) ∷ rest → word_kind (word_at ws m) ≡ name_kind
        → (parameter ws).parse ts ≡ Ok (record { kind = t; name = record { place = to; number = m } }, rest)
    unfolding parameter
    one_parameter t n m a w b v = rw (placed_read ws (type_of ws) (token.Word n) t a (ap type_of_word w), name_read ws m b v) refl

    abbrev more_parameters : List ParsedRegister → Syntax PlainToken (List ParsedRegister)
    more_parameters = many (kind ws) (λ _. mark_kind comma ∷ []) (next_parameter ws)

    comma_read : (xs : List ParsedRegister) (x : ParsedRegister) {at : Place} {ts us rest : List PlainToken} → ts ≡ made.token at (token.Mark comma) ∷ us
        → (parameter ws).parse us ≡ Ok (x, rest) → (next_parameter ws xs).parse ts ≡ Ok (xs ++ (x ∷ []), rest)
    unfolding next_parameter
    comma_read xs x t e = rw (mark_read ws comma t, e) refl

    parameters_turn : (xs : List ParsedRegister) (x : ParsedRegister) {at : Place} {ts us rest : List PlainToken} → ts ≡ made.token at (token.Mark comma) ∷ us
        → (parameter ws).parse us ≡ Ok (x, rest) → (more_parameters xs).parse ts ≡ (more_parameters (xs ++ (x ∷ []))).parse rest
    parameters_turn xs x {ts = ts} {rest = rest} t e =
        turn (mark_kind comma ∷ []) (next_parameter ws) (λ z. (next_parameter_good ws z).here) refl xs (xs ++ (x ∷ [])) ts rest
        (sees_mark ws comma t (mark_kind comma ∷ []) true refl) (comma_read xs x t e)

    parameters_end : (xs : List ParsedRegister) {at : Place} {ts rest : List PlainToken} → ts ≡ made.token at (token.Mark right_paren) ∷ rest
        → (more_parameters xs).parse ts ≡ Ok (xs, ts)
    parameters_end xs {ts = ts} t =
        turn_ends (mark_kind comma ∷ []) (next_parameter ws) (λ z. (next_parameter_good ws z).here) refl xs ts
        (sees_mark ws right_paren t (mark_kind comma ∷ []) false refl)

    -- parameters that stand before these registers
    pub record AreParametersAs (ps : Registers) (before : List (List ℕ)) (more : Pieces) (Read : List ParsedRegister → List PlainToken → Type 0) : Type 0 where
      pub trees : List ParsedRegister
      pub behind : List PlainToken
      pub read : Read trees behind
      pub end : Place
      pub rest : List PlainToken
      pub ends : behind ≡ made.token end (token.Mark right_paren) ∷ rest
      pub after : AreTokens names more rest
      pub known : AreKnown ps
      pub kinds : kinds_of trees ≡ types_of ps
      pub checked : (ks : List (ℕ × MonType)) → AreApart before ks → checked_registers ws globals ks trees ≡ Ok (ks ++ map entry ps)

    -- the parameter before others is new, and they are checked after it
    parameter_checked : (p : MonRegister) (ps : Registers) (before : List (List ℕ)) (at : Place) (trees : List ParsedRegister)
        → word_at ws (number p.name) ≡ word.Name → IsKnown p.name → has_label before p.name ≡ false
        → ((ks : List (ℕ × MonType)) → AreApart (p.name ∷ before) ks → checked_registers ws globals ks trees ≡ Ok (ks ++ map entry ps))
        → (ks : List (ℕ × MonType)) → AreApart before ks
        → checked_registers ws globals ks (record { kind = p.kind; name = record { place = at; number = number p.name } } ∷ trees) ≡ Ok (ks ++ map entry (p ∷ ps))
    parameter_checked p ps before at trees is there new others ks apart =
        one_checked ks p at trees is (apart p.name there new) ∙ others (ks ++ (entry p ∷ [])) (more_apart before ks p there apart)
        ∙ ap Ok (append_assoc ks (entry p ∷ []) (map entry ps))

    abbrev MoreRead : List PlainToken → List ParsedRegister → List PlainToken → Type 0
    MoreRead ts trees behind = (xs : List ParsedRegister) → (more_parameters xs).parse ts ≡ Ok (xs ++ trees, behind)

    more_as : (ps rest : Registers) (before : List (List ℕ)) (more : Pieces) (ts : List PlainToken) → AreRegisters before (ps ++ rest)
        → AreTokens names (text.more_parameters ps ++ (text.right_paren ∷ more)) ts → AreParametersAs ps before more (MoreRead ts)
    more_as [] rest before more ts h a = record {
      trees = [];
      behind = ts;
      read = λ xs. parameters_end xs a.2 ∙ ap (λ (l : List ParsedRegister). Ok (l, ts)) (sym (append-nil xs));
      end = a.0;
      rest = a.1;
      ends = a.2;
      after = a.3;
      known = tt;
      kinds = refl;
      checked = λ ks apart. ap Ok (sym (append-nil ks));
    }
    more_as (p ∷ ps) rest before more ts h a =
        let kind_there = a.3 in
        let type_is = words _ _ kind_there.0 ∙ type_word_is p.kind in
        let name = kind_there.1.3 in
        let name_is = words _ _ name.0 ∙ free_is_name p.name h.0 in
        let others = more_as ps rest (p.name ∷ before) more name.1.1 h.2 name.1.3 in
        let tree : ParsedRegister = record { kind = p.kind; name = record { place = name.1.0; number = number p.name } } in
        record {
          trees = tree ∷ others.trees;
          behind = others.behind;
          read = λ xs.
              parameters_turn xs tree a.2 (one_parameter p.kind _ _ kind_there.1.2 type_is name.1.2 (ap word_kind name_is)) ∙ others.read (xs ++ (tree ∷ []))
              ∙ ap (λ (l : List ParsedRegister). Ok (l, others.behind)) (append_assoc xs (tree ∷ []) others.trees);
          end = others.end;
          rest = others.rest;
          ends = others.ends;
          after = others.after;
          known = (name.0, others.known);
          kinds = ap (λ (l : List MonType). p.kind ∷ l) others.kinds;
          checked = parameter_checked p ps before name.1.0 others.trees name_is name.0 h.1 others.checked;
        }

    no_parameter : (n : ℕ) {at : Place} {ts rest : List PlainToken} → ts ≡ made.token at (token.Word n) ∷ rest → word_kind (word_at ws n) ≡ void_kind
        → (parameters ws).parse ts ≡ Ok ([], rest)
    unfolding parameters
    no_parameter n t w = rw (sees_word ws n void_kind t w (void_kind ∷ []) true refl, fixed_read ws void_kind n t w) refl

    first_parameter : (n : ℕ) (x : ParsedRegister) {at : Place} {ts us r : List PlainToken} {v : List ParsedRegister × List PlainToken}
        → ts ≡ made.token at (token.Word n) ∷ us → word_kind (word_at ws n) ≡ type_kind → (parameter ws).parse ts ≡ Ok (x, r)
        → (more_parameters (x ∷ [])).parse r ≡ Ok v → (parameters ws).parse ts ≡ Ok v
    unfolding parameters some_parameters
    first_parameter n x t w e m = rw (sees_word ws n type_kind t w (void_kind ∷ []) false refl, e, m) refl

    pub parameters_as : (ps rest : Registers) (more : Pieces) (before : List (List ℕ)) (ts : List PlainToken) → AreRegisters before (ps ++ rest)
        → AreTokens names (parameters_pieces ps ++ (text.right_paren ∷ more)) ts
        → AreParametersAs ps before more (λ trees behind. (parameters ws).parse ts ≡ Ok (trees, behind))
    parameters_as [] rest more before ts h a =
        let end = a.1.3 in
        record {
          trees = [];
          behind = a.1.1;
          read = no_parameter _ a.1.2 (ap word_kind (words _ _ a.0 ∙ void_word));
          end = end.0;
          rest = end.1;
          ends = end.2;
          after = end.3;
          known = tt;
          kinds = refl;
          checked = λ ks apart. ap Ok (sym (append-nil ks));
        }
    parameters_as (p ∷ ps) rest more before ts h a =
        let type_is = words _ _ a.0 ∙ type_word_is p.kind in
        let name = a.1.3 in
        let name_is = words _ _ name.0 ∙ free_is_name p.name h.0 in
        let others = more_as ps rest (p.name ∷ before) more name.1.1 h.2 name.1.3 in
        let tree : ParsedRegister = record { kind = p.kind; name = record { place = name.1.0; number = number p.name } } in
        record {
          trees = tree ∷ others.trees;
          behind = others.behind;
          read = first_parameter _ tree a.1.2 (ap word_kind type_is) (one_parameter p.kind _ _ a.1.2 type_is name.1.2 (ap word_kind name_is))
              (others.read (tree ∷ []));
          end = others.end;
          rest = others.rest;
          ends = others.ends;
          after = others.after;
          known = (name.0, others.known);
          kinds = ap (λ (l : List MonType). p.kind ∷ l) others.kinds;
          checked = parameter_checked p ps before name.1.0 others.trees name_is name.0 h.1 others.checked;
        }

    -- ---- registers after parameters

    pub record AreBehind (rest : Registers) (ks : List (ℕ × MonType)) : Type 0 where
      pub before : List (List ℕ)
      pub are : AreRegisters before rest
      pub apart : AreApart before ks

    behind_all : (ps rest : Registers) (before : List (List ℕ)) (ks : List (ℕ × MonType)) → AreRegisters before (ps ++ rest) → AreKnown ps
        → AreApart before ks → AreBehind rest (ks ++ map entry ps)
    behind_all [] rest before ks h known apart = subst (AreBehind rest) (sym (append-nil ks)) (record { before = before; are = h; apart = apart })
    behind_all (p ∷ ps) rest before ks h known apart =
        subst (AreBehind rest) (append_assoc ks (entry p ∷ []) (map entry ps))
        (behind_all ps rest (p.name ∷ before) (ks ++ (entry p ∷ [])) h.2 known.1 (more_apart before ks p known.0 apart))

    pub behind_parameters : (ps rest : Registers) (before : List (List ℕ)) → AreRegisters before (ps ++ rest) → AreKnown ps → AreApart before []
        → AreBehind rest (map entry ps)
    behind_parameters ps rest before h known apart = behind_all ps rest before [] h known apart

  pub known_join : (ps rs : Registers) → AreKnown ps → AreKnown rs → AreKnown (ps ++ rs)
  known_join [] rs h k = k
  known_join (p ∷ ps) rs h k = (h.0, known_join ps rs h.1 k)
