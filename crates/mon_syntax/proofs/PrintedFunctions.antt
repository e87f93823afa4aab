-- A printed function is read, and checks as the function that was printed.
use Rattle.std.proofs.Common.{◌≡◌, ℕ, zero, suc, ◌+◌, ◌≤◌, Bool, true, false, cond, not, eqb, List, [], ◌∷◌, ◌++◌, map, drop, length, slice_get, codes, Option, Some, None, Ok, refl, sym, ap, subst, ◌∙◌, arith, eq-eqb, true≢false}
use Rattle.std.specs.Prelude.{bytes_eq, nat_eq}
use Rattle.std.proofs.lemmas.Bool.{eqb-true}
use Rattle.std.proofs.lemmas.List.{map-append}
use Rattle.std.proofs.Math.Seq.{drop-append_seam}
use Rattle.grammar.specs.Syntax.{among, sees}
use Rattle.c_syntax.specs.declared.place.Place.{Place}
use Rattle.c_syntax.specs.Tokens as token
use Rattle.c_syntax.specs.Tokens.{PlainToken}
use Rattle.c_model.specs.Names.{name_number}
use Rattle.c_model.specs.MonitoredTokens as made
use Rattle.c_model.specs.Punctuators.{left_paren, right_paren, left_brace, right_brace}
use Rattle.mon_syntax.specs.declared.tree.MonType.{MonType}
use Rattle.mon_syntax.specs.declared.word.Word.{Word}
use Rattle.mon_syntax.specs.declared.word.Word.TheVariants as word
use Rattle.mon_syntax.specs.Words.{word_of}
use Rattle.mon_syntax.specs.Trees.{MonFunction, MonitoredGlobal}
use Rattle.mon_syntax.specs.Text as text
use Rattle.mon_syntax.specs.Text.{InSight, FunctionNames, function_name, function_pieces, result_word}
use Rattle.mon_syntax.specs.Valid.{has_label, Signature, depth_of_all, types_of, signature_of, names_before, IsFunction, AreFunctions, AreGlobals}
use Rattle.mon_syntax.specs.Parsed.{ParsedStatement, ParsedRegister, ParsedFunction}
use Rattle.mon_syntax.specs.Grammar as form
use Rattle.mon_syntax.specs.Grammar.{Vocabulary, name_kind, type_kind, void_kind, word_kind, word_at, kind, type_of_word, type_of, first_function, first_statement, parsed_list, registers}
use Rattle.mon_syntax.specs.Grammar.{parameters, function_body, function}
use Rattle.mon_syntax.specs.Checking.{Header, find_function, scope_of, checked_registers, named_register, checked_statements, kinds_of, word_bytes, function_of, result_of, checked_function}
use Rattle.mon_syntax.proofs.PrintedPieces.{AreTokens, is_same}
use Rattle.mon_syntax.proofs.PrintedForms.{Pieces, function_is}
use Rattle.mon_syntax.proofs.PrintedAlone.{same_bytes}
use Rattle.mon_syntax.proofs.PrintedSteps.{free_is_name, type_word_is, mark_read, fixed_read, placed_read, name_read, sees_mark, sees_word}
use Rattle.mon_syntax.proofs.PrintedExpressions.{AreWords, AreFound}
use Rattle.mon_syntax.proofs.PrintedGlobals.{AreKnownGlobals, global_numbers, all_others, found_are}
use Rattle.mon_syntax.proofs.PrintedBodies.{AreRead, list_read}
use Rattle.mon_syntax.proofs.PrintedStatements.{AreCallees, statements_as}
use Rattle.mon_syntax.proofs.PrintedRegisters.{both_false, number, IsKnown, AreApart, entry, registers_back, bytes_are, known_join, registers_as, registers_read, parameters_as, behind_parameters}

-- ---- functions are found by their names

-- a word whose number is that of a name is this name
same_name : (names : List (List ℕ)) (v w : List ℕ) → slice_get names (name_number names v) ≡ Some w → v ≡ w
same_name [] v w e = absurd cc
same_name (x ∷ xs) v w e = by (bytes_eq v x) refl (same_name xs v w) e
  where
    by : (t : Bool) → bytes_eq v x ≡ t → (slice_get xs (name_number xs v) ≡ Some w → v ≡ w)
        → slice_get (x ∷ xs) (let n : ℕ = cond (not t) (1 + name_number xs v) 0 in n) ≡ Some w → v ≡ w
    by true f go g = let same : x ≡ w = cc in same_bytes v x f ∙ same
    by false f go g = let next : 1 + name_number xs v ≡ suc (name_number xs v) = omega arith in go (ap (slice_get (x ∷ xs)) (sym next) ∙ g)

module _ (names : List (List ℕ)) where
  -- what a function is to its callers, as it is read
  abbrev pub header : MonFunction → Header
  header f = record { name = number names f.name; parameters = types_of f.parameters; result = f.result }

  -- and what it is by its signature
  abbrev header_with : Signature → Header
  header_with g = record { name = number names g.name; parameters = g.parameters; result = g.result }

  -- another word than a name has another number
  pub other_name : (v w : List ℕ) → IsKnown names w → bytes_eq w v ≡ false → nat_eq (number names v) (number names w) ≡ false
  other_name v w known differ = by (nat_eq (number names v) (number names w)) refl
    where
      by : (t : Bool) → nat_eq (number names v) (number names w) ≡ t → t ≡ false
      by true e =
          let same = same_name names v w (ap (slice_get names) (eqb-true (number names v) (number names w) e) ∙ known) in
          absurd (true≢false (sym (is_same w) ∙ ap (bytes_eq w) (sym same) ∙ differ))
      by false e = refl

  -- no function has a name that stands before
  pub not_before : (globals : List MonitoredGlobal) (gs : List Signature) (before : List (List ℕ)) (fs : List MonFunction) (k : ℕ) (g : Signature) → AreFunctions globals gs before fs
      → slice_get (map signature_of fs) k ≡ Some g → has_label before g.name ≡ false
  not_before globals gs before [] k g h e = absurd cc
  not_before globals gs before (f ∷ fs) zero g h e = let same : signature_of f ≡ g = cc in ap (λ (s : Signature). has_label before s.name) (sym same) ∙ h.1
  not_before globals gs before (f ∷ fs) (suc k) g h e = (both_false (bytes_eq g.name f.name) (has_label before g.name) (not_before globals gs (f.name ∷ before) fs k g h.2 e)).1

  find_is : (globals : List MonitoredGlobal) (gs : List Signature) (before : List (List ℕ)) (fs : List MonFunction) (i k : ℕ) (g : Signature) → AreFunctions globals gs before fs
      → slice_get (map signature_of fs) k ≡ Some g → IsKnown names g.name
      → find_function i (map header fs) (number names g.name) ≡ Some (i + k, header_with g)
  find_is globals gs before [] i k g h e known = absurd cc
  find_is globals gs before (f ∷ fs) i zero g h e known =
      let same : signature_of f ≡ g = cc in
      let here : i ≡ i + 0 = omega arith in
      rw (eq-eqb (number names f.name) (number names g.name) (ap (λ (s : Signature). number names s.name) same)) (λ j. Some (here j, header_with (same j)))
  find_is globals gs before (f ∷ fs) i (suc k) g h e known =
      let other = (both_false (bytes_eq g.name f.name) (has_label before g.name) (not_before globals gs (f.name ∷ before) fs k g h.2 e)).0 in
      let there : suc i + k ≡ i + suc k = omega arith in
      rw (other_name f.name g.name known other) (find_is globals gs (f.name ∷ before) fs (suc i) k g h.2 e known ∙ ap (λ (n : ℕ). Some (n, header_with g)) there)

  name_is : (fs : List MonFunction) (k : ℕ) (g : Signature) → slice_get (map signature_of fs) k ≡ Some g
      → function_name (map (λ (f : MonFunction). f.name) fs) k ≡ g.name
  name_is [] k g e = absurd cc
  name_is (f ∷ fs) zero g e = let same : signature_of f ≡ g = cc in ap (λ (s : Signature). s.name) same
  name_is (f ∷ fs) (suc k) g e = name_is fs k g e

  result_is : (fs : List MonFunction) (k : ℕ) (g : Signature) → slice_get (map signature_of fs) k ≡ Some g → result_of (slice_get (map header fs) k) ≡ g.result
  result_is [] k g e = absurd cc
  result_is (f ∷ fs) zero g e = let same : signature_of f ≡ g = cc in ap (λ (s : Signature). s.result) same
  result_is (f ∷ fs) (suc k) g e = result_is fs k g e

  is_name : (globals : List MonitoredGlobal) (gs : List Signature) (before : List (List ℕ)) (fs : List MonFunction) (k : ℕ) (g : Signature) → AreFunctions globals gs before fs
      → slice_get (map signature_of fs) k ≡ Some g → word_of g.name ≡ word.Name
  is_name globals gs before [] k g h e = absurd cc
  is_name globals gs before (f ∷ fs) zero g h e = let same : signature_of f ≡ g = cc in ap (λ (s : Signature). word_of s.name) (sym same) ∙ free_is_name f.name h.0.name
  is_name globals gs before (f ∷ fs) (suc k) g h e = is_name globals gs (f.name ∷ before) fs k g h.2 e

  pub callees_are : (globals : List MonitoredGlobal) (gs : List Signature) (fs : List MonFunction) → AreFunctions globals gs [] fs
      → AreCallees names (map header fs) (map (λ (f : MonFunction). f.name) fs) (map signature_of fs)
  callees_are globals gs fs h k g e = record {
    name = name_is fs k g e;
    is_name = is_name globals gs [] fs k g h e;
    result = result_is fs k g e;
    found = λ known. let first : 0 + k ≡ k = omega arith in find_is globals gs [] fs 0 k g h e known ∙ ap (λ (n : ℕ). Some (n, header_with g)) first;
  }

-- ---- a function is read

-- what the word of a result is
abbrev result_kind : Option MonType → Word
result_kind None = word.Void
result_kind (Some t) = word.TypeName t

result_word_is : (t : Option MonType) → word_of (result_word t) ≡ result_kind t
unfolding word_of
result_word_is None = refl
result_word_is (Some t) = type_word_is t

-- a statement begins with no type
no_type : (k : ℕ) → among k first_statement ≡ true → among k (type_kind ∷ []) ≡ false
no_type k h = by (eqb k type_kind) refl
  where
    by : (t : Bool) → eqb k type_kind ≡ t → cond t true false ≡ false
    by true e = absurd (true≢false (sym h ∙ ap (λ (n : ℕ). among n first_statement) (eqb-true k type_kind e)))
    by false e = refl

module _ (ws : Vocabulary) where
  result_read : (t : Option MonType) (n : ℕ) {at : Place} {ts more : List PlainToken} → ts ≡ made.token at (token.Word n) ∷ more
      → word_at ws n ≡ result_kind t → (form.result ws).parse ts ≡ Ok (t, more)
  unfolding form.result
  result_read None n e w = rw (sees_word ws n void_kind e (ap word_kind w) (type_kind ∷ []) false refl, fixed_read ws void_kind n e (ap word_kind w)) refl
  result_read (Some t) n e w =
      rw (sees_word ws n type_kind e (ap word_kind w) (type_kind ∷ []) true refl, placed_read ws (type_of ws) (token.Word n) t e (ap type_of_word w)) refl

  result_begins : (t : Option MonType) (n : ℕ) {at : Place} {ts more : List PlainToken} → ts ≡ made.token at (token.Word n) ∷ more
      → word_at ws n ≡ result_kind t → sees (kind ws) first_function ts ≡ true
  result_begins None n e w = sees_word ws n void_kind e (ap word_kind w) first_function true refl
  result_begins (Some t) n e w = sees_word ws n type_kind e (ap word_kind w) first_function true refl

  sees_no_type : (ts : List PlainToken) → sees (kind ws) first_statement ts ≡ true → sees (kind ws) (type_kind ∷ []) ts ≡ false
  sees_no_type [] h = refl
  sees_no_type (t ∷ ts) h = no_type (kind ws t) h

  body_begins : (n : ℕ) (trees : List ParsedStatement) {at : Place} (ts : List PlainToken) {r rest : List PlainToken} → AreRead ws n trees ts r → r ≡ made.token at (token.Mark right_brace) ∷ rest → sees (kind ws) (type_kind ∷ []) ts ≡ false
  body_begins n [] ts h e = sees_mark ws right_brace (h ∙ e) (type_kind ∷ []) false refl
  body_begins n (x ∷ xs) ts h e = sees_no_type ts h.1

  function_read : (r : Option MonType) (k : ℕ) (ps rs : List ParsedRegister) (xs : List ParsedStatement) (ts t3 : List PlainToken) {to opening closing start end : Place} {t1 t2 t4 t5 t6 : List PlainToken}
      (t7 : List PlainToken) {t8 rest : List PlainToken}
      → (form.result ws).parse ts ≡ Ok (r, t1) → t1 ≡ made.token to (token.Word k) ∷ t2 → word_kind (word_at ws k) ≡ name_kind
      → t2 ≡ made.token opening (token.Mark left_paren) ∷ t3
      → (parameters ws).parse t3 ≡ Ok (ps, t4) → t4 ≡ made.token closing (token.Mark right_paren) ∷ t5 → t5 ≡ made.token start (token.Mark left_brace) ∷ t6
      → (registers ws).parse t6 ≡ Ok (rs, t7) → AreRead ws 1999 xs t7 t8 → t8 ≡ made.token end (token.Mark right_brace) ∷ rest
      → (function ws).parse ts ≡ Ok (record { result = r; name = record { place = to; number = k }; parameters = ps; registers = rs; body = parsed_list xs }, rest)
  unfolding function function_body
  function_read r k ps rs xs ts t3 t7 result_is t1 name t2 parameters_are t4 t5 registers_are h c =
      rw (
        result_is,
        name_read ws k t1 name,
        mark_read ws left_paren t2,
        parameters_are,
        mark_read ws right_paren t4,
        mark_read ws left_brace t5,
        registers_are,
        list_read ws 1999 xs t7 h (sees_mark ws right_brace c first_statement false refl),
        mark_read ws right_brace c,
      ) refl

module _ (names : List (List ℕ)) (ws : Vocabulary) (words : AreWords names ws) (functions : List Header)
    (globals : List MonitoredGlobal) (known_globals : AreKnownGlobals names globals) (are_globals : AreGlobals [] globals)
    (called : FunctionNames) (gs : List Signature) (callees : AreCallees names functions called gs) where
  abbrev numbers : List ℕ
  numbers = global_numbers names globals

  -- what a function is that was checked so
  function_back : (f : MonFunction) (tree : ParsedFunction) → tree.result ≡ f.result → tree.name.number ≡ number names f.name → IsKnown names f.name
      → map (named_register names) (map (entry names) f.parameters) ≡ f.parameters → map (named_register names) (map (entry names) f.registers) ≡ f.registers
      → function_of names tree (map (entry names) f.parameters) (map (entry names) f.parameters ++ map (entry names) f.registers) f.body ≡ f
  function_back f tree result name known ps rs =
      let P = map (entry names) f.parameters in
      let R = map (entry names) f.registers in
      let bytes : word_bytes names tree.name.number ≡ f.name = ap (word_bytes names) name ∙ bytes_are names f.name known in
      let behind : map (named_register names) (drop (length P) (P ++ R)) ≡ f.registers = ap (map (named_register names)) (drop-append_seam P R) ∙ rs in
      λ i. record { result = result i; name = bytes i; parameters = ps i; registers = behind i; body = f.body }

  function_checked : (f : MonFunction) (tree : ParsedFunction) → tree.result ≡ f.result → tree.name.number ≡ number names f.name → IsKnown names f.name
      → map (named_register names) (map (entry names) f.parameters) ≡ f.parameters → map (named_register names) (map (entry names) f.registers) ≡ f.registers
      → checked_registers ws numbers [] tree.parameters ≡ Ok (map (entry names) f.parameters)
      → checked_registers ws numbers (map (entry names) f.parameters) tree.registers ≡ Ok (map (entry names) f.parameters ++ map (entry names) f.registers)
      → checked_statements (scope_of names ws functions numbers (map (entry names) f.parameters ++ map (entry names) f.registers)) tree.result [] tree.body ≡ Ok f.body
      → checked_function names ws functions numbers tree ≡ Ok f
  function_checked f tree result name known ps rs parameters_are registers_are body_is =
      rw (parameters_are, registers_are, body_is) (ap Ok (function_back f tree result name known ps rs))

  -- the tokens are read as the function, up to those of the pieces after it
  pub record IsFunctionAs (f : MonFunction) (more : Pieces) (ts : List PlainToken) : Type 0 where
    pub tree : ParsedFunction
    pub rest : List PlainToken
    pub after : AreTokens names more rest
    pub begins : sees (kind ws) first_function ts ≡ true
    pub read : (function ws).parse ts ≡ Ok (tree, rest)
    pub known : IsKnown names f.name
    pub name : tree.name.number ≡ number names f.name
    pub result : tree.result ≡ f.result
    pub kinds : kinds_of tree.parameters ≡ types_of f.parameters
    pub checked : checked_function names ws functions numbers tree ≡ Ok f

  pub function_as : (f : MonFunction) (more : Pieces) (ts : List PlainToken) → IsFunction globals gs f → AreTokens names (function_pieces called globals f ++ more) ts
      → IsFunctionAs f more ts
  function_as f more ts h a0 =
      let P = map (entry names) f.parameters in
      let R = map (entry names) f.registers in
      let all = f.parameters ++ f.registers in
      let rs_all : InSight = record { registers = all; globals = globals } in
      let outer = names_before [] globals in
      let a = subst (λ (l : Pieces). AreTokens names l ts) (function_is called globals f more) a0 in
      let result_is = words _ _ a.0 ∙ result_word_is f.result in
      let name = a.1.3 in
      let name_is = words _ _ name.0 ∙ free_is_name f.name h.name in
      let opening = name.1.3 in
      let ps = parameters_as names ws words numbers f.parameters f.registers _ outer opening.1 h.registers opening.3 in
      let start = ps.after in
      let apart : AreApart names ws words numbers outer [] = λ w there new. (refl, all_others names [] globals known_globals w there new) in
      let behind = behind_parameters names ws words numbers f.parameters f.registers outer h.registers ps.known apart in
      let rs = registers_as names ws words numbers f.registers behind.before _ start.1 behind.are start.3 in
      let found = subst (AreFound names (types_of all) rs_all numbers) (map-append (entry names) f.parameters f.registers)
      (found_are names globals all known_globals are_globals (known_join names f.parameters f.registers ps.known rs.known) h.registers) in
      let deep : depth_of_all f.body ≤ 1999 = omega (arith, h.within) in
      let end : Pieces = text.new_line 0 ∷ text.Mark (codes "}") ∷ text.new_line 0 ∷ more in
      let x = statements_as names ws words functions numbers called gs callees (types_of all) rs_all (P ++ R) found f.result f.body 1999 1 [] end rs.rest deep (λ w e. absurd cc) h.body rs.after in
      let tree : ParsedFunction = record { result = f.result; name = record { place = name.1.0; number = number names f.name }; parameters = ps.trees; registers = rs.trees; body = parsed_list x.trees } in
      record {
        tree = tree;
        rest = x.after.1;
        after = x.after.3;
        begins = result_begins ws f.result _ a.1.2 result_is;
        read =
            function_read ws f.result _ ps.trees rs.trees x.trees ts opening.1 rs.rest (result_read ws f.result _ a.1.2 result_is) name.1.2
            (ap word_kind name_is) opening.2 ps.read ps.ends start.2
            (registers_read names ws words numbers rs.trees start.1 rs.rest (rs.read []) (body_begins ws 1999 x.trees rs.rest x.read x.after.2)) x.read x.after.2;
        known = name.0;
        name = refl;
        result = refl;
        kinds = ps.kinds;
        checked =
            function_checked f tree refl refl name.0 (registers_back names f.parameters ps.known) (registers_back names f.registers rs.known)
            (ps.checked [] apart) (rs.checked P behind.apart) x.checked;
      }
