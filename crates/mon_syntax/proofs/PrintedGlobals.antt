-- The globals and literals of a printed program are read, and found by their names.
use Rattle.std.proofs.Common.{◌≡◌, ℕ, zero, suc, ◌+◌, ◌<◌, ◌≤◌, Bool, true, false, ◌||◌, List, [], ◌∷◌, ◌++◌, length, map, slice_get, codes, pos, Some, None, Ok, refl, sym, ap, subst, ◌∙◌, arith, append_assoc, eq-eqb, true≢false}
use Rattle.std.specs.Prelude.{bytes_eq, nat_eq, nat_lt}
use Rattle.std.specs.List.{list_any, AllByRecursion}
use Rattle.std.proofs.lemmas.Bool.Decides.{nat_tests}
use Rattle.std.proofs.lemmas.List.{append-nil}
use Rattle.grammar.specs.Syntax.{Syntax, sees, many}
use Rattle.grammar.proofs.Productions.{turn, turn_ends}
use Rattle.c_syntax.specs.declared.place.Place.{Place}
use Rattle.c_syntax.specs.Tokens as token
use Rattle.c_syntax.specs.Tokens.{PlainToken}
use Rattle.c_model.specs.Limits.{globals_bytes}
use Rattle.c_model.specs.Memory.{rounded}
use Rattle.c_model.specs.MonitoredTokens as made
use Rattle.c_model.specs.Punctuators.{assign, semicolon, left_bracket, right_bracket}
use Rattle.mon_syntax.specs.declared.word.Word.TheVariants as word
use Rattle.mon_syntax.specs.Names.{IsFreeName}
use Rattle.mon_syntax.specs.Words.{word_of}
use Rattle.mon_syntax.specs.Trees.{PlainContent, Zeros, Literal, MonitoredGlobal}
use Rattle.mon_syntax.specs.Globals.{size_of_content, globals_taken}
use Rattle.mon_syntax.specs.Text as text
use Rattle.mon_syntax.specs.Text.{Registers, global_or_none, content_pieces, globals_pieces}
use Rattle.mon_syntax.specs.Valid.{has_label, AreRegisters, types_of, names_before, AreGlobals}
use Rattle.mon_syntax.specs.Parsed.{ParsedGlobal}
use Rattle.mon_syntax.specs.Grammar.{Vocabulary, name_kind, static_kind, const_kind, char_kind, word_kind, word_at, kind, number_of, text_of, length_of_global, zeros, literal, global, one_more_global, globals}
use Rattle.mon_syntax.specs.Checking.{find_global, word_bytes, checked_content, checked_globals, numbers_of}
use Rattle.mon_syntax.specs.Spelled.{first_too_large}
use Rattle.mon_syntax.proofs.ExactTexts.{one_more_global_good}
use Rattle.mon_syntax.proofs.PrintedPieces.{AreTokens, is_same}
use Rattle.mon_syntax.proofs.PrintedForms.{Pieces}
use Rattle.mon_syntax.proofs.PrintedAlone.{content_is}
use Rattle.mon_syntax.proofs.PrintedSteps.{free_is_name, mark_read, fixed_read, placed_read, name_read, sees_word}
use Rattle.mon_syntax.proofs.PrintedExpressions.{AreWords, AreFound}
use Rattle.mon_syntax.proofs.PrintedRegisters.{both_false, or_last, number, IsKnown, AreKnown, entry, numbers_differ, free_named, find_is, not_found, bytes_are}

static_word : word_of (codes "static") ≡ word.Static
unfolding word_of
static_word = refl

const_word : word_of (codes "const") ≡ word.Const
unfolding word_of
const_word = refl

char_word : word_of (codes "char") ≡ word.Char
unfolding word_of
char_word = refl

turned : (a b : ℕ) → nat_eq a b ≡ false → nat_eq b a ≡ false
turned a b e = grind (arith, nat_tests)

not_more : (b s : ℕ) → s ≤ b → nat_lt b s ≡ false
not_more b s h = grind (arith, nat_tests)

module _ (names : List (List ℕ)) where
  abbrev pub AreKnownGlobals : List MonitoredGlobal → Type 0
  AreKnownGlobals gs = AllByRecursion (λ (g : MonitoredGlobal). IsKnown names g.name) gs

  -- globals by their names' numbers
  abbrev pub global_numbers : List MonitoredGlobal → List ℕ
  global_numbers gs = map (λ (g : MonitoredGlobal). number names g.name) gs

  -- none of the numbers is of a name that doesn't stand before
  abbrev pub AreOthers : List (List ℕ) → List ℕ → Type 0
  AreOthers before bs = (w : List ℕ) → IsKnown names w → has_label before w ≡ false → list_any (nat_eq (number names w)) bs ≡ false

  pub more_others : (before : List (List ℕ)) (bs : List ℕ) (v : List ℕ) (n : ℕ) → n ≡ number names v → IsKnown names v → AreOthers before bs
      → AreOthers (v ∷ before) (n ∷ bs)
  more_others before bs v n is there others w known h =
      let k = both_false (bytes_eq w v) (has_label before w) h in
      let differ = turned (number names v) (number names w) (numbers_differ names v w there known k.0) in
      ap (λ (m : ℕ). nat_eq (number names w) m || list_any (nat_eq (number names w)) bs) is ∙ ap
      (λ (t : Bool). t || list_any (nat_eq (number names w)) bs) differ ∙ others w known k.1

  -- ---- globals are found by their names

  known_at : (gs : List MonitoredGlobal) (g : ℕ) → AreKnownGlobals gs → g < length gs → IsKnown names (global_or_none (slice_get gs g))
  known_at [] g h l = absurd (omega arith)
  known_at (x ∷ gs) zero h l = h.0
  known_at (x ∷ gs) (suc g) h l = known_at gs g h.1 (omega arith)

  name_at : (before : List (List ℕ)) (gs : List MonitoredGlobal) (g : ℕ) → AreGlobals before gs → g < length gs → word_of (global_or_none (slice_get gs g)) ≡ word.Name
  name_at before [] g h l = absurd (omega arith)
  name_at before (x ∷ gs) zero h l = free_is_name x.name h.0
  name_at before (x ∷ gs) (suc g) h l = name_at (x.name ∷ before) gs g h.3 (omega arith)

  -- no global has a name that stands before
  not_before : (before : List (List ℕ)) (gs : List MonitoredGlobal) (g : ℕ) → AreGlobals before gs → g < length gs → has_label before (global_or_none (slice_get gs g)) ≡ false
  not_before before [] g h l = absurd (omega arith)
  not_before before (x ∷ gs) zero h l = h.1
  not_before before (x ∷ gs) (suc g) h l =
      let w = global_or_none (slice_get gs g) in
      (both_false (bytes_eq w x.name) (has_label before w) (not_before (x.name ∷ before) gs g h.3 (omega arith))).1

  global_is : (before : List (List ℕ)) (gs : List MonitoredGlobal) (k g : ℕ) → AreKnownGlobals gs → AreGlobals before gs → g < length gs
      → find_global k (global_numbers gs) (number names (global_or_none (slice_get gs g))) ≡ Some (k + g)
  global_is before [] k g known h l = absurd (omega arith)
  global_is before (x ∷ gs) k zero known h l =
      let here : k ≡ k + 0 = omega arith in
      rw (eq-eqb (number names x.name) (number names x.name) refl) (ap Some here)
  global_is before (x ∷ gs) k (suc g) known h l =
      let inner : g < length gs = omega arith in
      let w = global_or_none (slice_get gs g) in
      let other = (both_false (bytes_eq w x.name) (has_label before w) (not_before (x.name ∷ before) gs g h.3 inner)).0 in
      let there : suc k + g ≡ k + suc g = omega arith in
      rw (numbers_differ names x.name w known.0 (known_at gs g known.1 inner) other) (global_is (x.name ∷ before) gs (suc k) g known.1 h.3 inner ∙ ap Some there)

  -- what stands before goes on to do so
  stays : (before : List (List ℕ)) (gs : List MonitoredGlobal) (w : List ℕ) → has_label before w ≡ true → has_label (names_before before gs) w ≡ true
  stays before [] w h = h
  stays before (x ∷ gs) w h = stays (x.name ∷ before) gs w (or_last (bytes_eq w x.name) (has_label before w) h)

  is_before : (before : List (List ℕ)) (gs : List MonitoredGlobal) (g : ℕ) → g < length gs → has_label (names_before before gs) (global_or_none (slice_get gs g)) ≡ true
  is_before before [] g l = absurd (omega arith)
  is_before before (x ∷ gs) zero l = stays (x.name ∷ before) gs x.name (ap (λ (b : Bool). b || has_label before x.name) (is_same x.name))
  is_before before (x ∷ gs) (suc g) l = is_before (x.name ∷ before) gs g (omega arith)

  -- another name than a global's has another number
  pub all_others : (before : List (List ℕ)) (gs : List MonitoredGlobal) → AreKnownGlobals gs → AreOthers (names_before before gs) (global_numbers gs)
  all_others before [] known w there h = refl
  all_others before (x ∷ gs) known w there h =
      ap (λ (t : Bool). t || list_any (nat_eq (number names w)) (global_numbers gs))
      (turned (number names x.name) (number names w) (numbers_differ names x.name w known.0 there (by (bytes_eq w x.name) refl)))
      ∙ all_others (x.name ∷ before) gs known.1 w there h
    where
      by : (t : Bool) → bytes_eq w x.name ≡ t → t ≡ false
      by true e = absurd (true≢false (sym (stays (x.name ∷ before) gs w (ap (λ (b : Bool). b || has_label before w) e)) ∙ h))
      by false e = refl

  pub found_are : (gs : List MonitoredGlobal) (rs : Registers) → AreKnownGlobals gs → AreGlobals [] gs → AreKnown names rs → AreRegisters (names_before [] gs) rs
      → AreFound names (types_of rs) (record { registers = rs; globals = gs }) (global_numbers gs) (map (entry names) rs)
  found_are gs rs known_gs are known h =
      let before = names_before [] gs in
      record {
        register = λ r t e.
            let first : 0 + r ≡ r = omega arith in
            find_is names before rs 0 r t known h e ∙ ap (λ (n : ℕ). Some (n, t)) first;
        register_name = λ r t e. free_named names before rs r t h e;
        no_register = λ g l there. not_found names before rs 0 (global_or_none (slice_get gs g)) known h there (is_before [] gs g l);
        global = λ g l. let first : 0 + g ≡ g = omega arith in global_is [] gs 0 g known_gs are l ∙ ap Some first;
        global_name = λ g l. name_at [] gs g are l;
      }

  -- ---- globals are read

  module _ (ws : Vocabulary) (words : AreWords names ws) where
    length_read : (size : ℕ) {at size_at end : Place} {ts t1 t2 rest : List PlainToken} → ts ≡ made.token at (token.Mark left_bracket) ∷ t1 → t1 ≡ made.token size_at (token.Number (pos size) None) ∷ t2
        → t2 ≡ made.token end (token.Mark right_bracket) ∷ rest → (length_of_global ws).parse ts ≡ Ok ((pos size, size_at), rest)
    unfolding length_of_global
    length_read size t t1 t2 = rw (mark_read ws left_bracket t, placed_read ws number_of (token.Number (pos size) None) (pos size) t1 refl, mark_read ws right_bracket t2) refl

    zeros_read : (first k n size : ℕ) {start at name_at opening size_at closing end : Place} {ts t0 t1 t2 t3 t4 t5 rest : List PlainToken} → ts ≡ made.token start (token.Word first) ∷ t0
        → word_kind (word_at ws first) ≡ static_kind → t0 ≡ made.token at (token.Word k) ∷ t1
        → word_kind (word_at ws k) ≡ char_kind → t1 ≡ made.token name_at (token.Word n) ∷ t2 → word_kind (word_at ws n) ≡ name_kind
        → t2 ≡ made.token opening (token.Mark left_bracket) ∷ t3 → t3 ≡ made.token size_at (token.Number (pos size) None) ∷ t4
        → t4 ≡ made.token closing (token.Mark right_bracket) ∷ t5 → t5 ≡ made.token end (token.Mark semicolon) ∷ rest
        → (global ws).parse ts ≡ Ok (record { name = record { place = name_at; number = n }; place = size_at; size = pos size; literal = None }, rest)
    unfolding global zeros
    zeros_read first k n size t v t0 w t1 x t2 t3 t4 t5 =
        rw (
          fixed_read ws static_kind first t v,
          sees_word ws k char_kind t0 w (char_kind ∷ []) true refl,
          fixed_read ws char_kind k t0 w,
          name_read ws n t1 x,
          length_read size t2 t3 t4,
          mark_read ws semicolon t5,
        ) refl

    literal_read : (first c k n size : ℕ) (bytes : List ℕ) {start at to name_at opening size_at closing is_at bytes_at end : Place} {ts t0 t1 t2 t3 t4 t5 t6 t7 t8 rest : List PlainToken}
        → ts ≡ made.token start (token.Word first) ∷ t0 → word_kind (word_at ws first) ≡ static_kind
        → t0 ≡ made.token at (token.Word c) ∷ t1 → word_kind (word_at ws c) ≡ const_kind → t1 ≡ made.token to (token.Word k) ∷ t2 → word_kind (word_at ws k) ≡ char_kind
        → t2 ≡ made.token name_at (token.Word n) ∷ t3 → word_kind (word_at ws n) ≡ name_kind
        → t3 ≡ made.token opening (token.Mark left_bracket) ∷ t4 → t4 ≡ made.token size_at (token.Number (pos size) None) ∷ t5
        → t5 ≡ made.token closing (token.Mark right_bracket) ∷ t6 → t6 ≡ made.token is_at (token.Mark assign) ∷ t7 → t7 ≡ made.token bytes_at (token.Chars bytes) ∷ t8
        → t8 ≡ made.token end (token.Mark semicolon) ∷ rest
        → (global ws).parse ts ≡ Ok (record { name = record { place = name_at; number = n }; place = size_at; size = pos size; literal = Some bytes }, rest)
    unfolding global literal
    literal_read first c k n size bytes t v t0 u t1 w t2 x t3 t4 t5 t6 t7 t8 =
        rw (
          fixed_read ws static_kind first t v,
          sees_word ws c const_kind t0 u (char_kind ∷ []) false refl,
          fixed_read ws const_kind c t0 u,
          fixed_read ws char_kind k t1 w,
          name_read ws n t2 x,
          length_read size t3 t4 t5,
          mark_read ws assign t6,
          placed_read ws text_of (token.Chars bytes) bytes t7 refl,
          mark_read ws semicolon t8,
        ) refl

    -- the tokens are read as a global of this name and content
    record IsGlobalAs (name : List ℕ) (c : PlainContent) (more : Pieces) (ts : List PlainToken) : Type 0 where
      tree : ParsedGlobal
      rest : List PlainToken
      after : AreTokens names more rest
      begins : sees (kind ws) (static_kind ∷ []) ts ≡ true
      read : (global ws).parse ts ≡ Ok (tree, rest)
      known : IsKnown names name
      number_is : tree.name.number ≡ number names name
      size : tree.size ≡ pos (size_of_content c)
      checked : checked_content tree ≡ Ok c

    global_as : (name : List ℕ) (c : PlainContent) (more : Pieces) (ts : List PlainToken) → IsFreeName name
        → AreTokens names (text.Word (codes "static") ∷ text.blank ∷ (content_pieces name c ++ more)) ts → IsGlobalAs name c more ts
    global_as name (Zeros n) more ts free a =
        let v = ap word_kind (words _ _ a.0 ∙ static_word) in
        let char = a.1.3 in
        let named = char.1.3 in
        let opening = named.1.3 in
        let size = opening.3 in
        let closing = size.3 in
        let end = closing.3 in
        record {
          tree = record { name = record { place = named.1.0; number = number names name }; place = size.0; size = pos n; literal = None };
          rest = end.1;
          after = end.3;
          begins = sees_word ws _ static_kind a.1.2 v (static_kind ∷ []) true refl;
          read = zeros_read _ _ _ n a.1.2 v char.1.2 (ap word_kind (words _ _ char.0 ∙ char_word)) named.1.2 (ap word_kind (words _ _ named.0 ∙ free_is_name name free)) opening.2 size.2 closing.2 end.2;
          known = named.0;
          number_is = refl;
          size = refl;
          checked = refl;
        }
    global_as name (Literal bytes) more ts free a =
        let v = ap word_kind (words _ _ a.0 ∙ static_word) in
        let const = a.1.3 in
        let char = const.1.3 in
        let named = char.1.3 in
        let opening = named.1.3 in
        let size = opening.3 in
        let closing = size.3 in
        let is = closing.3 in
        let held = is.3 in
        let end = held.3 in
        record {
          tree = record { name = record { place = named.1.0; number = number names name }; place = size.0; size = pos (length bytes + 1); literal = Some bytes };
          rest = end.1;
          after = end.3;
          begins = sees_word ws _ static_kind a.1.2 v (static_kind ∷ []) true refl;
          read = literal_read _ _ _ _ (length bytes + 1) bytes a.1.2 v const.1.2 (ap word_kind (words _ _ const.0 ∙ const_word)) char.1.2 (ap word_kind (words _ _ char.0 ∙ char_word))
              named.1.2 (ap word_kind (words _ _ named.0 ∙ free_is_name name free)) opening.2 size.2 closing.2 is.2 held.2 end.2;
          known = named.0;
          number_is = refl;
          size = refl;
          checked = rw (eq-eqb (length bytes + 1) (length bytes + 1) refl) refl;
        }

    -- ---- globals that follow one another

    abbrev more_globals : List ParsedGlobal → Syntax PlainToken (List ParsedGlobal)
    more_globals = many (kind ws) (λ _. static_kind ∷ []) (one_more_global ws)

    one_global : (xs : List ParsedGlobal) (x : ParsedGlobal) (ts mid : List PlainToken) → (global ws).parse ts ≡ Ok (x, mid) → (one_more_global ws xs).parse ts ≡ Ok (xs ++ (x ∷ []), mid)
    unfolding one_more_global
    one_global xs x ts mid e = rw e refl

    globals_turn : (xs : List ParsedGlobal) (x : ParsedGlobal) (ts mid : List PlainToken) → sees (kind ws) (static_kind ∷ []) ts ≡ true → (global ws).parse ts ≡ Ok (x, mid)
        → (more_globals xs).parse ts ≡ (more_globals (xs ++ (x ∷ []))).parse mid
    globals_turn xs x ts mid s e = turn (static_kind ∷ []) (one_more_global ws) (λ z. (one_more_global_good ws z).here) refl xs (xs ++ (x ∷ [])) ts mid s (one_global xs x ts mid e)

    globals_end : (xs : List ParsedGlobal) (ts : List PlainToken) → sees (kind ws) (static_kind ∷ []) ts ≡ false → (more_globals xs).parse ts ≡ Ok (xs, ts)
    globals_end xs ts s = turn_ends (static_kind ∷ []) (one_more_global ws) (λ z. (one_more_global_good ws z).here) refl xs ts s

    pub record AreGlobalsAs (gs : List MonitoredGlobal) (before : List (List ℕ)) (more : Pieces) (ts : List PlainToken) : Type 0 where
      pub trees : List ParsedGlobal
      pub rest : List PlainToken
      pub after : AreTokens names more rest
      pub read : (xs : List ParsedGlobal) → (more_globals xs).parse ts ≡ (more_globals (xs ++ trees)).parse rest
      pub known : AreKnownGlobals gs
      pub numbers : numbers_of trees ≡ global_numbers gs
      pub checked : (bs : List ℕ) → AreOthers before bs → checked_globals names ws bs trees ≡ Ok gs
      pub room : (taken : ℕ) → taken + globals_taken gs ≤ globals_bytes → first_too_large taken trees ≡ None

    one_checked : (g : MonitoredGlobal) (gs : List MonitoredGlobal) (tree : ParsedGlobal) (trees : List ParsedGlobal) (bs : List ℕ) → word_at ws tree.name.number ≡ word.Name
        → list_any (nat_eq tree.name.number) bs ≡ false → checked_content tree ≡ Ok g.content → word_bytes names tree.name.number ≡ g.name
        → checked_globals names ws (tree.name.number ∷ bs) trees ≡ Ok gs → checked_globals names ws bs (tree ∷ trees) ≡ Ok (g ∷ gs)
    one_checked g gs tree trees bs w new content bytes others = rw (w, new, content, others) (ap (λ (b : List ℕ). Ok (record { name = b; content = g.content } ∷ gs)) bytes)

    one_fits : (n taken : ℕ) (tree : ParsedGlobal) (trees : List ParsedGlobal) → tree.size ≡ pos n → taken + rounded n ≤ globals_bytes → first_too_large (taken + rounded n) trees ≡ None
        → first_too_large taken (tree ∷ trees) ≡ None
    one_fits n taken tree trees size small others = rw (size, not_more globals_bytes (taken + rounded n) small) others

    pub globals_as : (gs : List MonitoredGlobal) (before : List (List ℕ)) (more : Pieces) (ts : List PlainToken) → AreGlobals before gs
        → AreTokens names (globals_pieces gs ++ more) ts → AreGlobalsAs gs before more ts
    globals_as [] before more ts h a = record {
      trees = [];
      rest = ts;
      after = a;
      read = λ xs. ap (λ (l : List ParsedGlobal). (more_globals l).parse ts) (sym (append-nil xs));
      known = tt;
      numbers = refl;
      checked = λ bs others. refl;
      room = λ taken fits. refl;
    }
    globals_as (g ∷ gs) before more ts h a0 =
        let a = subst (λ (l : Pieces). AreTokens names (text.Word (codes "static") ∷ text.blank ∷ l) ts) (content_is g.name g.content (globals_pieces gs) more) a0 in
        let x = global_as g.name g.content (text.new_line 0 ∷ (globals_pieces gs ++ more)) ts h.0 a in
        let y = globals_as gs (g.name ∷ before) more x.rest h.3 x.after in
        let w = words _ _ (ap (slice_get names) x.number_is ∙ x.known) ∙ free_is_name g.name h.0 in
        let size = size_of_content g.content in
        record {
          trees = x.tree ∷ y.trees;
          rest = y.rest;
          after = y.after;
          read = λ xs.
              globals_turn xs x.tree ts x.rest x.begins x.read ∙ y.read (xs ++ (x.tree ∷ []))
              ∙ ap (λ (l : List ParsedGlobal). (more_globals l).parse y.rest) (append_assoc xs (x.tree ∷ []) y.trees);
          known = (x.known, y.known);
          numbers = λ i. x.number_is i ∷ y.numbers i;
          checked = λ bs others.
              one_checked g gs x.tree y.trees bs w (ap (λ (n : ℕ). list_any (nat_eq n) bs) x.number_is ∙ others g.name x.known h.1) x.checked
              (ap (word_bytes names) x.number_is ∙ bytes_are names g.name x.known)
              (y.checked (x.tree.name.number ∷ bs) (more_others before bs g.name x.tree.name.number x.number_is x.known others));
          room = λ taken fits. one_fits size taken x.tree y.trees x.size (omega arith) (y.room (taken + rounded size) (omega arith));
        }

    pub globals_read : (trees : List ParsedGlobal) (ts rest : List PlainToken) → (more_globals []).parse ts ≡ (more_globals trees).parse rest
        → sees (kind ws) (static_kind ∷ []) rest ≡ false → (globals ws).parse ts ≡ Ok (trees, rest)
    unfolding globals
    globals_read trees ts rest e s = e ∙ globals_end trees rest s
