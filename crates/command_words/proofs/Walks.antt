-- clap's walk over the words gives what they give.
use Rattle.std.proofs.Common.{◌≡◌, ◌∙◌, ◌⊎◌, inl, inr, ℕ, Bool, cond, true, false, ◌&&◌, ◌||◌, refl, sym, ap, subst, List, [], ◌∷◌, ◌++◌, map, Option, Some, None, option_map, bytes_eq, codes, arith}
use Rattle.std.specs.Prelude.{slice_get}
use Rattle.std.specs.Str.{IsUtf8, chars, is_utf8}
use Rattle.std.proofs.lemmas.Str.{IsUtf8-drop, IsCharBoundary-after_ascii, is_utf8-from_IsUtf8}
use Rattle.std.specs.Prelude.{encode_utf8_all}
use Rattle.std.proofs.Math.Utf8.{scalars}
use Rattle.clap.specs.Kinds.{Kinds, or_else}
use Rattle.clap.specs.declared.error.kind.ErrorKind.TheVariants as kind
use Rattle.clap.specs.Walk.{Held, Row, Rule, Walk, Waiting, idle, option, positional, arg_by_id, arg_by_long, is_pending, settled, settled_rows, walked_from, after_flag, after_step, long_met}
use Rattle.clap.specs.Simple.{Shape}
use Rattle.clap.specs.Faults.{bundle_fault, flags_fault, long_fault, other_fault, settle_fault, step_fault, turn_fault}
use Rattle.command_words.specs.Given.{Text, Named, Form, Given, has, given_after, with_value, operands_after, after_word, dashed, add}
use Rattle.c_model.specs.Words.{◌>>=◌}
use Rattle.clap.specs.Lexer.{name_and_value}
use Rattle.command_words.specs.Given.{Word}
use Rattle.clap.specs.Walk.{Step}
use Rattle.std.proofs.lemmas.Slice.Eq.{bytes_eq-Decides}
use Rattle.command_words.specs.Rules.{built_shape, operand_rule, row, rule_for}
use Rattle.command_words.proofs.Finding.{named, rules, by_long, by_short, by_first, by_second, by_id, by_operand, named_so, same}
use Rattle.command_words.proofs.Spelling.{are_plain, by_name, named_word, plain_more}
use Rattle.command_words.proofs.Sorts.{IsPlain, IsShort, by_sort}
use Rattle.command_words.proofs.Uses.{option_used, operand_used, flag_used, option_fails, operand_fails, flag_fails, option_lacks, repeated}

-- the shape of the built command
abbrev pub shape : Text → Text → List Named → Shape
shape name operand options = built_shape name (record { operand = operand; options = options })

-- what is held after what was given, the last of it perhaps not yet used
abbrev pub held : List Given → Option Given → Held
held given None = record { rows = map row given; pending = None; skip = 0 }
held given (Some g) = record { rows = map row given; pending = Some (g.0, g.1 ∷ []); skip = 0 }

-- an option waits for its value
abbrev pub held_for : List Given → Text → Held
held_for given name = record { rows = map row given; pending = Some (name, []); skip = 0 }

abbrev pub walk_at : Held → Waiting → ℕ → Bool → Walk
walk_at h waiting position is_trailing = record { held = h; waiting = waiting; position = position; is_trailing = is_trailing; stopped = None }

never : (b : Bool) → (b && false) ≡ false
never true = refl
never false = refl

-- the place of the operand, or the one behind it
abbrev pub IsPlace : ℕ → Type 0
IsPlace position = (position ≡ 1) ⊎ (position ≡ 2)

-- the words are texts
abbrev pub AreTexts : List Text → Type 0
AreTexts [] = Unit {0}
AreTexts (word ∷ words) = IsUtf8 word × AreTexts words

-- the first character of a short word
first_char : (first : ℕ) (more : Text) → IsUtf8 (45 ∷ (first ∷ more)) → (x : ℕ) × (slice_get (chars (first ∷ more)) 0 ≡ Some x)
unfolding is_utf8
first_char first more utf8 = go (chars (first ∷ more)) (plain_more (scalars (chars (first ∷ more))) _ (is_utf8-from_IsUtf8 (first ∷ more) rest))
  where
    rest : IsUtf8 (first ∷ more)
    rest = IsUtf8-drop (45 ∷ (first ∷ more)) 1 utf8 (IsCharBoundary-after_ascii (45 ∷ (first ∷ more)) 0 utf8 (omega arith) (omega arith))

    go : (cs : List ℕ) → bytes_eq (encode_utf8_all cs) (first ∷ more) ≡ true → (x : ℕ) × (slice_get cs 0 ≡ Some x)
    go [] e = absurd cc
    go (x ∷ cs) e = (x, refl)

-- nothing failed
abbrev pub passes : Kinds → Bool
passes [] = true
passes (x ∷ k) = false

first_fails : (k more : Kinds) → passes k ≡ false → passes (or_else k more) ≡ false
first_fails [] more full = absurd cc
first_fails (x ∷ k) more full = refl

-- nothing waits, or an option does
abbrev IsOpen : Waiting → Type 0
IsOpen idle = Unit {0}
IsOpen (option n) = Unit {0}
IsOpen positional = ⊥

module _ (name operand : Text) (options : List Named) (free : named operand options ≡ None) (plain : are_plain options ≡ true) where
  abbrev c : List Rule
  c = rules operand options

  abbrev s : Shape
  s = shape name operand options

  -- the rows at the end of the walk, if nothing fails
  abbrev pub end_of : Walk → List Text → Option (List Row)
  end_of w [] = cond (passes (settle_fault c false w.held)) (Some (settled c w.held).rows) None
  end_of w (word ∷ words) = cond (passes (turn_fault s [] w word)) (end_of (walked_from c [] w.stopped w word) words) None

  -- ---- settling

  -- what may be pending: an option with its value, or the operand
  abbrev Known : Text → Type 0
  Known n = (arg_by_id c n ≡ Some (rule_for (n, true))) ⊎ (arg_by_id c n ≡ Some (operand_rule n))

  settle_fails : (given : List Given) (g : Given) → Known g.0 → settle_fault c false (held given (Some g)) ≡ repeated (has given g.0)
  settle_fails given g (inl k) = rw k (option_fails given g.0 g.1)
  settle_fails given g (inr k) = rw k (operand_fails given g.0 g.1)

  settles : (given : List Given) (g : Given) → Known g.0 → has given g.0 ≡ false → settled_rows c (Some (g.0, g.1 ∷ [])) (map row given) ≡ map row (given ++ g ∷ [])
  settles given g (inl k) e = rw k (option_used given g.0 g.1 e)
  settles given g (inr k) e = rw k (operand_used given g.0 g.1 e)

  -- ---- a use that fails fails the walk

  stuck : Walk → Text → List Text → Type 0
  stuck w word words = passes (turn_fault s [] w word) ≡ false

  trailing_fails_behind : (h : Held) (waiting : Waiting) (position : ℕ) (word : Text) → position ≡ 2
      → passes (turn_fault s [] (walk_at h waiting position true) word) ≡ false
  trailing_fails_behind h waiting position word p = rw (p, by_second operand options) refl

  trailing_fails : (h : Held) (waiting : Waiting) (position : ℕ) (k : Kinds) (word : Text) → IsPlace position → settle_fault c false h ≡ k → passes k ≡ false
      → passes (turn_fault s [] (walk_at h waiting position true) word) ≡ false
  trailing_fails h waiting position k word (inl p) e full = rw (p, by_first operand options, never (is_pending (operand_rule operand) h.pending), e) full
  trailing_fails h waiting position k word (inr p) e full = rw (p, by_second operand options) refl

  doomed_trailing : (h : Held) (waiting : Waiting) (position : ℕ) (k : Kinds) (words : List Text) → IsPlace position → settle_fault c false h ≡ k → passes k ≡ false
      → end_of (walk_at h waiting position true) words ≡ None
  doomed_trailing h waiting position k [] place e full = rw (e, full) refl
  doomed_trailing h waiting position k (word ∷ words) place e full = rw (trailing_fails h waiting position k word place e full) refl

  -- an option fails where what is pending does
  pending_fails : (h : Held) (k : Kinds) (o : Option Named) (v : Option Text) → settle_fault c false h ≡ k → passes k ≡ false
      → passes (long_fault c false (option_map rule_for o) v h) ≡ false
  pending_fails h k None v e full = refl
  pending_fails h k (Some (n, true)) (Some t) e full = rw e (first_fails k _ full)
  pending_fails h k (Some (n, true)) None e full = rw e full
  pending_fails h k (Some (n, false)) (Some t) e full = refl
  pending_fails h k (Some (n, false)) None e full = rw e (first_fails k _ full)

  long_word_fails : (h : Held) (x : ℕ) (rest : Text) (k : Kinds) → settle_fault c false h ≡ k → passes k ≡ false
      → passes (long_fault c false (arg_by_long c (name_and_value (x ∷ rest)).0) (name_and_value (x ∷ rest)).1 h) ≡ false
  long_word_fails h x rest k e full =
      ap (λ f. passes (long_fault c false f (name_and_value (x ∷ rest)).1 h)) (by_long operand (name_and_value (x ∷ rest)).0 options)
      ∙ pending_fails h k (named (name_and_value (x ∷ rest)).0 options) (name_and_value (x ∷ rest)).1 e full

  long_fails : (h : Held) (waiting : Waiting) (position x : ℕ) (rest : Text) (k : Kinds) → IsOpen waiting → settle_fault c false h ≡ k → passes k ≡ false
      → passes (turn_fault s [] (walk_at h waiting position false) (dashed (x ∷ rest))) ≡ false
  long_fails h idle position x rest k wait e full = first_fails _ _ (long_word_fails h x rest k e full)
  long_fails h (option n) position x rest k wait e full = first_fails _ _ (long_word_fails h x rest k e full)
  long_fails h positional position x rest k wait e full = absurd wait

  -- a short word names nothing
  bundle_fails : (first : ℕ) (more : Text) (h : Held) → h.skip ≡ 0 → IsUtf8 (45 ∷ (first ∷ more)) → passes (bundle_fault c false (first ∷ more) h) ≡ false
  unfolding flags_fault
  bundle_fails first more h none utf8 = let x = first_char first more utf8 in rw (none, x.1, by_short operand x.0 options) refl

  short_word_fails : (h : Held) (word : Text) → h.skip ≡ 0 → IsShort word → IsUtf8 word → passes (other_fault s None word h) ≡ false
  short_word_fails h word none short utf8 = rw (short.dashes, short.long, short.short) (bundle_fails short.first short.more h none (subst IsUtf8 short.split utf8))

  short_fails : (h : Held) (waiting : Waiting) (position : ℕ) (word : Text) → h.skip ≡ 0 → IsOpen waiting → IsShort word → IsUtf8 word
      → passes (turn_fault s [] (walk_at h waiting position false) word) ≡ false
  short_fails h idle position word none wait short utf8 = first_fails _ _ (short_word_fails h word none short utf8)
  short_fails h (option n) position word none wait short utf8 = first_fails _ _ (short_word_fails h word none short utf8)
  short_fails h positional position word none wait short utf8 = absurd wait

  -- a plain word that an operand would be
  plain_fails : (h : Held) (position : ℕ) (k : Kinds) (word : Text) → IsPlace position → IsPlain word → settle_fault c false h ≡ k → passes k ≡ false
      → passes (turn_fault s [] (walk_at h idle position false) word) ≡ false
  plain_fails h position k word (inl p) is e full =
      rw (is.dashes, is.long, is.short, p, by_first operand options, never (is_pending (operand_rule operand) h.pending), e) full
  plain_fails h position k word (inr p) is e full = rw (is.dashes, is.long, is.short, p, by_second operand options) refl

  -- what is pending can't be used: the walk fails
  pub doomed : (h : Held) (position : ℕ) (k : Kinds) (words : List Text) → IsPlace position → h.skip ≡ 0 → settle_fault c false h ≡ k → passes k ≡ false
      → AreTexts words → end_of (walk_at h idle position false) words ≡ None
  doomed h position k [] place none e full texts = rw (e, full) refl
  doomed h position k (word ∷ words) place none e full texts =
      by_sort (λ w. IsUtf8 w → end_of (walk_at h idle position false) (w ∷ words) ≡ None)
      (λ utf8. doomed_trailing h idle position k words place e full)
      (λ x rest utf8. rw (long_fails h idle position x rest k tt e full) refl)
      (λ w short utf8. rw (short_fails h idle position w none tt short utf8) refl)
      (λ w is utf8. rw (plain_fails h position k w place is e full) refl)
      word texts.0

  -- ---- a walk that goes on

  -- all that is given is ready to be used, and what follows starts from it
  pub record IsReady (h : Held) (given : List Given) : Type 0 where
    pub passes : settle_fault c false h ≡ []
    pub rows : settled_rows c h.pending h.rows ≡ map row given
    pub skip : h.skip ≡ 0

  ready : (given : List Given) → IsReady (held given None) given
  ready given = record { passes = refl; rows = refl; skip = refl }

  ready_more : (given : List Given) (g : Given) → Known g.0 → has given g.0 ≡ false → IsReady (held given (Some g)) (given ++ g ∷ [])
  ready_more given g known new = record { passes = settle_fails given g known ∙ ap repeated new; rows = settles given g known new; skip = refl }

  -- where the operand goes
  pub data IsAt (given : List Given) (position : ℕ) : Type 0 where
    open_place : position ≡ 1 → has given operand ≡ false → IsAt given position
    filled_place : position ≡ 2 → has given operand ≡ true → IsAt given position

  place_of : (given : List Given) (position : ℕ) → IsAt given position → IsPlace position
  place_of given position (open_place p e) = inl p
  place_of given position (filled_place p e) = inr p

  has_more : (given : List Given) (g : Given) (name : Text) → has (given ++ g ∷ []) name ≡ (has given name || (bytes_eq g.0 name || false))
  has_more [] g name = refl
  has_more (f ∷ given) g name = go (bytes_eq f.0 name) (has_more given g name)
    where
      go : (b : Bool) → has (given ++ g ∷ []) name ≡ (has given name || (bytes_eq g.0 name || false))
          → (b || has (given ++ g ∷ []) name) ≡ ((b || has given name) || (bytes_eq g.0 name || false))
      go true e = refl
      go false e = e

  others : (a : Bool) → (a || (false || false)) ≡ a
  others true = refl
  others false = refl

  all_there : (a : Bool) → (a || (true || false)) ≡ true
  all_there true = refl
  all_there false = refl

  at_option : (given : List Given) (position : ℕ) (g : Given) → bytes_eq g.0 operand ≡ false → IsAt given position → IsAt (given ++ g ∷ []) position
  at_option given position g other (open_place p e) = open_place p (has_more given g operand ∙ rw other (others (has given operand)) ∙ e)
  at_option given position g other (filled_place p e) = filled_place p (has_more given g operand ∙ rw other (others (has given operand)) ∙ e)

  at_operand : (given : List Given) (word : Text) → IsAt (given ++ (operand, word) ∷ []) 2
  at_operand given word = filled_place refl (has_more given (operand, word) operand ∙ rw (same operand) (all_there (has given operand)))

  abbrev form : Form
  form = record { operand = operand; options = options }

  abbrev rows : Option (List Given) → Option (List Row)
  rows = option_map (map row)

  -- what words give from a walk that is ready, and from one in which an option waits for its value
  record Gives (words : List Text) : Type 0 where
    reading : (h : Held) (given : List Given) (position : ℕ) → IsReady h given → IsAt given position → AreTexts words
        → end_of (walk_at h idle position false) words ≡ rows (given_after form given words)
    awaiting : (given : List Given) (n : Text) (position : ℕ) → arg_by_id c n ≡ Some (rule_for (n, true)) → bytes_eq n operand ≡ false → IsAt given position
        → AreTexts words → end_of (walk_at (held_for given n) (option n) position false) words ≡ rows (with_value form given words n)

  -- after `--`
  trailing_gives : (words : List Text) (h : Held) (waiting : Waiting) (given : List Given) (position : ℕ) → IsReady h given → IsAt given position
      → end_of (walk_at h waiting position true) words ≡ rows (operands_after operand given words)
  trailing_gives [] h waiting given position r place = rw (r.passes, r.rows) refl
  trailing_gives (word ∷ words) h waiting given position r (filled_place p e) = rw (trailing_fails_behind h waiting position word p, e) refl
  trailing_gives (word ∷ words) h waiting given position r (open_place p e) =
      rw (p, by_first operand options, never (is_pending (operand_rule operand) h.pending), r.passes, e, r.rows, r.skip)
      (trailing_gives words (held given (Some (operand, word))) idle (given ++ (operand, word) ∷ []) 2
      (ready_more given (operand, word) (inr (by_operand operand options free)) e) (at_operand given word))

  -- ---- one word

  dashes_give : (words : List Text) (h : Held) (given : List Given) (position : ℕ) → IsReady h given → IsAt given position
      → end_of (walk_at h idle position false) (codes "--" ∷ words) ≡ rows (given_after form given (codes "--" ∷ words))
  dashes_give words h given position r place = trailing_gives words h idle given position r place

  plain_gives : (words : List Text) (h : Held) (given : List Given) (position : ℕ) (word : Text) → Gives words → IsReady h given → IsAt given position → IsPlain word
      → AreTexts words → end_of (walk_at h idle position false) (word ∷ words) ≡ rows (given_after form given (word ∷ words))
  plain_gives words h given position word more r (filled_place p e) is texts =
      rw (is.dashes, is.long, is.short, p, by_second operand options, is.is operand options, e) refl
  plain_gives words h given position word more r (open_place p e) is texts =
      rw (is.dashes, is.long, is.short, p, by_first operand options, never (is_pending (operand_rule operand) h.pending), r.passes, is.is operand options, e, r.rows, r.skip)
      (more.reading (held given (Some (operand, word))) (given ++ (operand, word) ∷ []) 2
      (ready_more given (operand, word) (inr (by_operand operand options free)) e) (at_operand given word) texts)

  short_gives : (words : List Text) (h : Held) (given : List Given) (position : ℕ) (word : Text) → IsReady h given → IsShort word → IsUtf8 word
      → end_of (walk_at h idle position false) (word ∷ words) ≡ rows (given_after form given (word ∷ words))
  short_gives words h given position word r short utf8 =
      rw (short_fails h idle position word r.skip tt short utf8, short.dashes, short.is operand options) refl

  -- an option's name is no operand's
  not_operand : (n : Text) (o : Named) → named n options ≡ Some o → bytes_eq o.0 operand ≡ false
  not_operand n o found = go (bytes_eq o.0 operand) refl
    where
      go : (b : Bool) → bytes_eq o.0 operand ≡ b → b ≡ false
      go true t =
          let is : n ≡ operand = sym (named_so n options o found) ∙ (bytes_eq-Decides o.0 operand).0 t in
          let some : named operand options ≡ Some o = ap (λ m. named m options) (sym is) ∙ found in absurd cc
      go false t = refl

  known_option : (n : Text) (o : Named) → named n options ≡ Some o → arg_by_id c o.0 ≡ Some (rule_for o)
  known_option n o found = ap (arg_by_id c) (named_so n options o found) ∙ by_id operand n options o found

  abbrev met : Held → Text → Option Rule → Option Text → Held × Step
  met h word f v = after_flag c idle word (long_met c f v h).0 (long_met c f v h).1

  abbrev end_long : Held → ℕ → Text → List Text → Option Rule → Option Text → Option (List Row)
  end_long h position word words f v = cond (passes (or_else (long_fault c false f v h) (step_fault s position (met h word f v).0 (met h word f v).1)))
      (end_of (after_step c word (walk_at h idle position false) (met h word f v).0 (met h word f v).1) words) None

  abbrev after : List Given → List Text → Word → Option (List Given)
  after given words = after_word given (λ more. given_after form more words) (with_value form given words)

  module _ (words : List Text) (h : Held) (given : List Given) (position : ℕ) (word : Text) (more : Gives words) (r : IsReady h given) (place : IsAt given position)
      (texts : AreTexts words) (n : Text) where
    option_gives : (m t : Text) → named n options ≡ Some (m, true) → (b : Bool) → has given m ≡ b
        → end_long h position word words (Some (rule_for (m, true))) (Some t) ≡ rows (add (m, t) given >>= λ now. given_after form now words)
    option_gives m t found true e = rw (r.passes, r.rows, option_fails given m t, e) refl
    option_gives m t found false e = rw (r.passes, r.rows, option_fails given m t, e, option_used given m t e, r.skip)
        (more.reading (held (given ++ (m, t) ∷ []) None) (given ++ (m, t) ∷ []) position (ready (given ++ (m, t) ∷ []))
        (at_option given position (m, t) (not_operand n (m, true) found) place) texts)

    flag_gives : (m : Text) → named n options ≡ Some (m, false) → (b : Bool) → has given m ≡ b
        → end_long h position word words (Some (rule_for (m, false))) None ≡ rows (add (m, codes "true") given >>= λ now. given_after form now words)
    flag_gives m found true e = rw (r.passes, r.rows, flag_fails given m, e) refl
    flag_gives m found false e = rw (r.passes, r.rows, flag_fails given m, e, flag_used given m e, r.skip)
        (more.reading (held (given ++ (m, codes "true") ∷ []) None) (given ++ (m, codes "true") ∷ []) position (ready (given ++ (m, codes "true") ∷ []))
        (at_option given position (m, codes "true") (not_operand n (m, false) found) place) texts)

    long_gives : (o : Option Named) (v : Option Text) → named n options ≡ o
        → end_long h position word words (option_map rule_for o) v ≡ rows (after given words (by_name o v))
    long_gives None v found = refl
    long_gives (Some (m, true)) (Some t) found = option_gives m t found (has given m) refl
    long_gives (Some (m, true)) None found = rw (r.passes, r.rows, r.skip)
        (more.awaiting given m position (known_option n (m, true) found) (not_operand n (m, true) found) place texts)
    long_gives (Some (m, false)) (Some t) found = refl
    long_gives (Some (m, false)) None found = flag_gives m found (has given m) refl

  long_word_gives : (words : List Text) (h : Held) (given : List Given) (position x : ℕ) (rest : Text) → Gives words → IsReady h given → IsAt given position → AreTexts words
      → end_of (walk_at h idle position false) (dashed (x ∷ rest) ∷ words) ≡ rows (given_after form given (dashed (x ∷ rest) ∷ words))
  long_word_gives words h given position x rest more r place texts =
      let cut = name_and_value (x ∷ rest) in
      ap (λ f. end_long h position (dashed (x ∷ rest)) words f cut.1) (by_long operand cut.0 options)
      ∙ long_gives words h given position (dashed (x ∷ rest)) more r place texts cut.0 (named cut.0 options) cut.1 refl
      ∙ ap (λ w. rows (after given words w)) (sym (named_word operand options x rest plain))

  -- ---- a word where an option waits for its value

  lacking : (given : List Given) (n : Text) → arg_by_id c n ≡ Some (rule_for (n, true)) → settle_fault c false (held_for given n) ≡ kind.InvalidValue ∷ []
  lacking given n known = rw known (option_lacks (map row given) n)

  value_gives : (words : List Text) (given : List Given) (n : Text) (position : ℕ) (word : Text) → Gives words → arg_by_id c n ≡ Some (rule_for (n, true))
      → bytes_eq n operand ≡ false → IsAt given position → IsPlain word → AreTexts words → (b : Bool) → has given n ≡ b
      → end_of (walk_at (held_for given n) (option n) position false) (word ∷ words) ≡ rows (with_value form given (word ∷ words) n)
  value_gives words given n position word more known other place is texts true e =
      rw (is.dashes, is.long, is.short, known, is.value, e, same n)
      (doomed (held given (Some (n, word))) position (kind.ArgumentConflict ∷ []) words (place_of given position place) refl
      (settle_fails given (n, word) (inl known) ∙ ap repeated e) refl texts)
  value_gives words given n position word more known other place is texts false e =
      rw (is.dashes, is.long, is.short, known, is.value, e, same n)
      (more.reading (held given (Some (n, word))) (given ++ (n, word) ∷ []) position (ready_more given (n, word) (inl known) e)
      (at_option given position (n, word) other place) texts)

  awaiting_gives : (words : List Text) (given : List Given) (n : Text) (position : ℕ) (word : Text) → Gives words → arg_by_id c n ≡ Some (rule_for (n, true))
      → bytes_eq n operand ≡ false → IsAt given position → IsUtf8 word → AreTexts words
      → end_of (walk_at (held_for given n) (option n) position false) (word ∷ words) ≡ rows (with_value form given (word ∷ words) n)
  awaiting_gives words given n position word more known other place utf8 texts =
      by_sort (λ w. IsUtf8 w → end_of (walk_at (held_for given n) (option n) position false) (w ∷ words) ≡ rows (with_value form given (w ∷ words) n))
      (λ utf8. doomed_trailing (held_for given n) (option n) position (kind.InvalidValue ∷ []) words (place_of given position place) (lacking given n known) refl)
      (λ x rest utf8. rw (long_fails (held_for given n) (option n) position x rest (kind.InvalidValue ∷ []) tt (lacking given n known) refl) refl)
      (λ w short utf8. rw (short_fails (held_for given n) (option n) position w refl tt short utf8, short.value) refl)
      (λ w is utf8. value_gives words given n position w more known other place is texts (has given n) refl)
      word utf8

  word_gives : (words : List Text) (h : Held) (given : List Given) (position : ℕ) (word : Text) → Gives words → IsReady h given → IsAt given position → IsUtf8 word
      → AreTexts words → end_of (walk_at h idle position false) (word ∷ words) ≡ rows (given_after form given (word ∷ words))
  word_gives words h given position word more r place utf8 texts =
      by_sort (λ w. IsUtf8 w → end_of (walk_at h idle position false) (w ∷ words) ≡ rows (given_after form given (w ∷ words)))
      (λ utf8. dashes_give words h given position r place)
      (λ x rest utf8. long_word_gives words h given position x rest more r place texts)
      (λ w short utf8. short_gives words h given position w r short utf8)
      (λ w is utf8. plain_gives words h given position w more r place is texts)
      word utf8

  gives : (words : List Text) → Gives words
  gives [] = record {
    reading = λ h given position r place texts. rw (r.passes, r.rows) refl;
    awaiting = λ given n position known other place texts. rw (lacking given n known) refl;
  }
  gives (word ∷ words) = record {
    reading = λ h given position r place texts. word_gives words h given position word (gives words) r place texts.0 texts.1;
    awaiting = λ given n position known other place texts. awaiting_gives words given n position word (gives words) known other place texts.0 texts.1;
  }

  -- clap's walk over all the words
  pub walk_gives : (words : List Text) → AreTexts words → end_of (walk_at (held [] None) idle 1 false) words ≡ rows (given_after form [] words)
  walk_gives words texts = (gives words).reading (held [] None) [] 1 (ready []) (open_place refl refl) texts
