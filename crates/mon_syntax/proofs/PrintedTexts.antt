-- The text of a valid program is read, and checks as that program.
use Rattle.std.proofs.Common.{◌≡◌, ℕ, zero, suc, ◌+◌, ◌≤◌, Bool, true, false, cond, eqb, List, [], ◌∷◌, ◌++◌, map, slice_get, codes, Some, None, Ok, refl, sym, ap, subst, ◌∙◌, append_assoc, arith, true≢false}
use Rattle.std.specs.Prelude.{bytes_eq, nat_eq}
use Rattle.std.specs.List.{list_any}
use Rattle.std.proofs.lemmas.Bool.{eqb-true}
use Rattle.std.proofs.lemmas.List.{append-nil}
use Rattle.grammar.specs.Syntax.{Syntax, among, sees, many}
use Rattle.grammar.proofs.Productions.{turn, turn_ends}
use Rattle.grammar.proofs.Theorem.{accepts_back}
use Rattle.c_syntax.specs.Tokens as token
use Rattle.c_syntax.specs.Tokens.{PlainToken}
use Rattle.c_model.specs.Limits.{globals_bytes}
use Rattle.c_model.specs.Places.{first_place}
use Rattle.c_model.specs.MonitoredTokens as made
use Rattle.mon_syntax.specs.declared.word.Word.TheVariants as word
use Rattle.mon_syntax.specs.Words.{word_of}
use Rattle.mon_syntax.specs.Trees.{MonFunction, MonitoredGlobal, MonitoredProgram}
use Rattle.mon_syntax.specs.Globals.{globals_taken}
use Rattle.mon_syntax.specs.Text.{FunctionNames, globals_pieces, functions_pieces, text_of}
use Rattle.mon_syntax.specs.Valid as valid
use Rattle.mon_syntax.specs.Valid.{Signature, signature_of, types_of, AreFunctions, AreGlobals, IsMain, IsValid}
use Rattle.mon_syntax.specs.Parsed.{ParsedRegister, ParsedFunction, ParsedGlobal, ParsedProgram}
use Rattle.mon_syntax.specs.Grammar as form
use Rattle.mon_syntax.specs.Grammar.{Vocabulary, head_kind, static_kind, word_at, kind, first_function, function, one_more_function}
use Rattle.mon_syntax.specs.Checking.{Header, kinds_of, word_bytes, header_of, checked_function, checked_functions, checked_globals, numbers_of, checked_program}
use Rattle.mon_syntax.specs.Spelled.{has_none, first_too_large, main_in, is_main, last_refusal, Spells}
use Rattle.mon_syntax.proofs.ExactTexts.{one_more_function_good, text_exact}
use Rattle.mon_syntax.proofs.PrintedPieces.{AreTokens, is_same, text_is_read}
use Rattle.mon_syntax.proofs.PrintedAlone.{same_bytes, program_alone}
use Rattle.mon_syntax.proofs.PrintedSteps.{free_is_name, word_there}
use Rattle.mon_syntax.proofs.PrintedExpressions.{AreWords}
use Rattle.mon_syntax.proofs.PrintedStatements.{AreCallees}
use Rattle.mon_syntax.proofs.PrintedRegisters.{both_false, number, IsKnown, bytes_are}
use Rattle.mon_syntax.proofs.PrintedGlobals.{AreKnownGlobals, global_numbers, AreOthers, more_others, globals_as, globals_read}
use Rattle.mon_syntax.proofs.PrintedFunctions.{header, not_before, callees_are, function_as}

not_same : (a b : List ℕ) → bytes_eq b a ≡ false → bytes_eq a b ≡ false
not_same a b e = by (bytes_eq a b) refl
  where
    by : (t : Bool) → bytes_eq a b ≡ t → t ≡ false
    by true f = absurd (true≢false (sym (is_same b) ∙ ap (bytes_eq b) (sym (same_bytes a b f)) ∙ e))
    by false f = refl

none_left : (xs : List ParsedRegister) → kinds_of xs ≡ [] → has_none xs ≡ true
none_left [] e = refl
none_left (x ∷ xs) e = absurd cc

signature_there : (fs : List MonFunction) (i : ℕ) (m : MonFunction) → slice_get fs i ≡ Some m → slice_get (map signature_of fs) i ≡ Some (signature_of m)
signature_there [] i m e = absurd cc
signature_there (f ∷ fs) zero m e = let same : f ≡ m = cc in ap (λ (g : MonFunction). Some (signature_of g)) same
signature_there (f ∷ fs) (suc i) m e = signature_there fs i m e

-- a function doesn't begin as a global
no_static : (k : ℕ) → among k first_function ≡ true → among k (static_kind ∷ []) ≡ false
no_static k h = by (eqb k static_kind) refl
  where
    by : (t : Bool) → eqb k static_kind ≡ t → cond t true false ≡ false
    by true e = absurd (true≢false (sym h ∙ ap (λ (n : ℕ). among n first_function) (eqb-true k static_kind e)))
    by false e = refl

module _ (names : List (List ℕ)) (ws : Vocabulary) (words : AreWords names ws) (functions : List Header)
    (globals : List MonitoredGlobal) (known_globals : AreKnownGlobals names globals) (are_globals : AreGlobals [] globals)
    (called : FunctionNames) (gs : List Signature) (callees : AreCallees names functions called gs) where
  -- ---- functions that follow one another

  abbrev more_functions : List ParsedFunction → Syntax PlainToken (List ParsedFunction)
  more_functions = many (kind ws) (λ _. first_function) (one_more_function ws)

  one_function : (xs : List ParsedFunction) (x : ParsedFunction) (ts mid : List PlainToken) → (function ws).parse ts ≡ Ok (x, mid)
      → (one_more_function ws xs).parse ts ≡ Ok (xs ++ (x ∷ []), mid)
  unfolding one_more_function
  one_function xs x ts mid e = rw e refl

  functions_turn : (xs : List ParsedFunction) (x : ParsedFunction) (ts mid : List PlainToken) → sees (kind ws) first_function ts ≡ true
      → (function ws).parse ts ≡ Ok (x, mid) → (more_functions xs).parse ts ≡ (more_functions (xs ++ (x ∷ []))).parse mid
  functions_turn xs x ts mid s e =
      turn first_function (one_more_function ws) (λ z. (one_more_function_good ws z).here) refl xs (xs ++ (x ∷ [])) ts mid s (one_function xs x ts mid e)

  functions_end : (xs : List ParsedFunction) → (more_functions xs).parse [] ≡ Ok (xs, [])
  functions_end xs = turn_ends first_function (one_more_function ws) (λ z. (one_more_function_good ws z).here) refl xs [] refl

  abbrev numbers : List ℕ
  numbers = global_numbers names globals

  sees_no_static : (ts : List PlainToken) → sees (kind ws) first_function ts ≡ true → sees (kind ws) (static_kind ∷ []) ts ≡ false
  sees_no_static [] h = refl
  sees_no_static (t ∷ ts) h = no_static (kind ws t) h

  -- `main` is found, and as it should be
  record HasMain (trees : List ParsedFunction) : Type 0 where
    tree : ParsedFunction
    is : main_in names trees ≡ Some tree
    whole : is_main tree ≡ true

  -- the tokens are read as these functions, after functions of those names
  record AreFunctionsAs (before : List (List ℕ)) (fs : List MonFunction) (ts : List PlainToken) : Type 0 where
    trees : List ParsedFunction
    begins : sees (kind ws) (static_kind ∷ []) ts ≡ false
    read : (xs : List ParsedFunction) → (more_functions xs).parse ts ≡ Ok (xs ++ trees, [])
    headers : map header_of trees ≡ map (header names) fs
    checked : (bs : List ℕ) → AreOthers names before bs → checked_functions names ws functions numbers bs trees ≡ Ok fs
    main : (i : ℕ) (m : MonFunction) → slice_get fs i ≡ Some m → IsMain m → HasMain trees

  header_is : (f : MonFunction) (tree : ParsedFunction) → tree.name.number ≡ number names f.name → tree.result ≡ f.result
      → kinds_of tree.parameters ≡ types_of f.parameters → header_of tree ≡ header names f
  header_is f tree name result kinds = λ i. record { name = name i; parameters = kinds i; result = result i }

  functions_checked : (f : MonFunction) (fs : List MonFunction) (tree : ParsedFunction) (trees : List ParsedFunction) (bs : List ℕ)
      → word_at ws tree.name.number ≡ word.Name → list_any (nat_eq tree.name.number) bs ≡ false
      → checked_function names ws functions numbers tree ≡ Ok f → checked_functions names ws functions numbers (tree.name.number ∷ bs) trees ≡ Ok fs
      → checked_functions names ws functions numbers bs (tree ∷ trees) ≡ Ok (f ∷ fs)
  functions_checked f fs tree trees bs w new here others = rw (w, new, here, others) refl

  -- `main` itself
  here_main : (f : MonFunction) (tree : ParsedFunction) (trees : List ParsedFunction) → tree.name.number ≡ number names f.name → IsKnown names f.name
      → tree.result ≡ f.result → kinds_of tree.parameters ≡ types_of f.parameters → IsMain f → HasMain (tree ∷ trees)
  here_main f tree trees name known result kinds main =
      let bytes : word_bytes names tree.name.number ≡ codes "main" = ap (word_bytes names) name ∙ bytes_are names f.name known ∙ main.name in
      let none : has_none tree.parameters ≡ true = none_left tree.parameters (kinds ∙ ap types_of main.no_parameters) in
      record { tree = tree; is = rw bytes refl; whole = rw (result ∙ main.result, none) refl }

  -- a function before `main`
  before_main : (f m : MonFunction) (fs : List MonFunction) (before : List (List ℕ)) (i : ℕ) (tree : ParsedFunction) (trees : List ParsedFunction)
      → tree.name.number ≡ number names f.name → IsKnown names f.name → AreFunctions globals gs (f.name ∷ before) fs → slice_get fs i ≡ Some m → IsMain m
      → HasMain trees → HasMain (tree ∷ trees)
  before_main f m fs before i tree trees name known h has main rest =
      let bytes : word_bytes names tree.name.number ≡ f.name = ap (word_bytes names) name ∙ bytes_are names f.name known in
      let apart = (both_false (bytes_eq m.name f.name) (valid.has_label before m.name) (not_before names globals gs (f.name ∷ before) fs i (signature_of m) h (signature_there fs i m has))).0 in
      let differ : bytes_eq f.name (codes "main") ≡ false = not_same f.name (codes "main") (ap (λ (w : List ℕ). bytes_eq w f.name) (sym main.name) ∙ apart) in
      record { tree = rest.tree; is = rw (bytes, differ) rest.is; whole = rest.whole }

  functions_as : (before : List (List ℕ)) (fs : List MonFunction) (ts : List PlainToken) → AreFunctions globals gs before fs
      → AreTokens names (functions_pieces called globals fs) ts → AreFunctionsAs before fs ts
  functions_as before [] ts h a = record {
    trees = [];
    begins = ap (sees (kind ws) (static_kind ∷ [])) a;
    read = λ xs. ap (more_functions xs).parse a ∙ functions_end xs ∙ ap (λ (l : List ParsedFunction). Ok (l, [])) (sym (append-nil xs));
    headers = refl;
    checked = λ bs others. refl;
    main = λ i m e main. absurd cc;
  }
  functions_as before (f ∷ fs) ts h a =
      let x = function_as names ws words functions globals known_globals are_globals called gs callees f (functions_pieces called globals fs) ts h.0 a in
      let y = functions_as (f.name ∷ before) fs x.rest h.2 x.after in
      let w = words _ _ (ap (slice_get names) x.name ∙ x.known) ∙ free_is_name f.name h.0.name in
      record {
        trees = x.tree ∷ y.trees;
        begins = sees_no_static ts x.begins;
        read = λ xs.
            functions_turn xs x.tree ts x.rest x.begins x.read ∙ y.read (xs ++ (x.tree ∷ [])) ∙ ap (λ (l : List ParsedFunction). Ok (l, []))
            (append_assoc xs (x.tree ∷ []) y.trees);
        headers = λ i. header_is f x.tree x.name x.result x.kinds i ∷ y.headers i;
        checked = λ bs others.
            functions_checked f fs x.tree y.trees bs w (ap (λ (n : ℕ). list_any (nat_eq n) bs) x.name ∙ others f.name x.known h.1) x.checked
            (y.checked (x.tree.name.number ∷ bs) (more_others names before bs f.name x.tree.name.number x.name x.known others));
        main = λ i m e main. main_as f m fs before i x.tree y.trees x.name x.known x.result x.kinds h.2 e main y.main;
      }
    where
      main_as : (f m : MonFunction) (fs : List MonFunction) (before : List (List ℕ)) (i : ℕ) (tree : ParsedFunction) (trees : List ParsedFunction)
          → tree.name.number ≡ number names f.name → IsKnown names f.name → tree.result ≡ f.result → kinds_of tree.parameters ≡ types_of f.parameters
          → AreFunctions globals gs (f.name ∷ before) fs → slice_get (f ∷ fs) i ≡ Some m → IsMain m
          → ((k : ℕ) (g : MonFunction) → slice_get fs k ≡ Some g → IsMain g → HasMain trees) → HasMain (tree ∷ trees)
      main_as f m fs before zero tree trees name known result kinds h e main rest =
          let same : m ≡ f = cc in here_main f tree trees name known result kinds (subst IsMain same main)
      main_as f m fs before (suc k) tree trees name known result kinds h e main rest =
          before_main f m fs before k tree trees name known h e main (rest k m e main)

text_read : (ws : Vocabulary) (ts : List PlainToken) {rest : List PlainToken} {gs : List ParsedGlobal} {fs : List ParsedFunction} → (form.globals ws).parse ts ≡ Ok (gs, rest)
    → (form.functions ws).parse rest ≡ Ok (fs, []) → (form.text ws).parse (made.token first_place (token.Head 0 0) ∷ ts) ≡ Ok (record { globals = gs; functions = fs }, [])
unfolding form.text
text_read ws ts g f = rw (g, f) refl

functions_read : (ws : Vocabulary) (ts : List PlainToken) {fs : List ParsedFunction} → (many (kind ws) (λ _. first_function) (one_more_function ws) []).parse ts ≡ Ok (fs, [])
    → (form.functions ws).parse ts ≡ Ok (fs, [])
unfolding form.functions
functions_read ws ts e = e

-- ---- texts

-- the text of a valid program spells it
pub text_spells : (m : MonitoredProgram) → IsValid m → Spells (text_of m) m
text_spells m v =
    let called : FunctionNames = map (λ (f : MonFunction). f.name) m.functions in
    let gs : List Signature = map signature_of m.functions in
    let behind = functions_pieces called m.globals m.functions in
    let r = text_is_read (globals_pieces m.globals ++ behind) (program_alone m v) in
    let ws : Vocabulary = map word_of r.names in
    let words = word_there r.names in
    let functions : List Header = map (header r.names) m.functions in
    let g = globals_as r.names ws words m.globals [] behind r.tokens v.globals r.are in
    let x = functions_as r.names ws words functions m.globals g.known v.globals called gs (callees_are r.names m.globals gs m.functions v.functions) [] m.functions g.rest v.functions g.after in
    let main = x.main v.number v.main v.has v.is_main in
    let room : 0 + globals_taken m.globals ≤ globals_bytes = let fits : globals_taken m.globals ≤ globals_bytes = v.room in omega arith in
    let list : List PlainToken = made.token first_place (token.Head 0 0) ∷ r.tokens in
    let tree : ParsedProgram = record { globals = g.trees; functions = x.trees } in
    record {
      tokens = record { list = list; names = r.names; end = r.end };
      has = r.is;
      tree = tree;
      read = accepts_back (form.text ws) false (head_kind ∷ []) (λ _. static_kind ∷ first_function) (text_exact ws) list tree
          (text_read ws r.tokens (globals_read r.names ws words g.trees r.tokens g.rest (g.read []) x.begins) (functions_read ws g.rest (x.read [])));
      is = program_checked r.names ws m g.trees x.trees functions (global_numbers r.names m.globals) g.numbers x.headers (g.checked [] (λ w _ _. refl)) (x.checked [] (λ w _ _. refl));
      whole = nothing_refused r.names g.trees x.trees main.tree (g.room 0 room) main.is main.whole;
    }
  where
    program_checked : (names : List (List ℕ)) (ws : Vocabulary) (m : MonitoredProgram) (globals : List ParsedGlobal) (trees : List ParsedFunction) (functions : List Header) (ns : List ℕ)
        → numbers_of globals ≡ ns → map header_of trees ≡ functions → checked_globals names ws [] globals ≡ Ok m.globals → checked_functions names ws functions ns [] trees ≡ Ok m.functions
        → checked_program names ws (record { globals = globals; functions = trees }) ≡ Ok m
    program_checked names ws m globals trees functions ns n e g h = rw (g, e, n, h) refl

    nothing_refused : (names : List (List ℕ)) (globals : List ParsedGlobal) (trees : List ParsedFunction) (tree : ParsedFunction) → first_too_large 0 globals ≡ None
        → main_in names trees ≡ Some tree → is_main tree ≡ true → last_refusal names (record { globals = globals; functions = trees }) ≡ None
    nothing_refused names globals trees tree room found main = rw (room, found, main) refl
