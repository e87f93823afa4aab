-- What is given after a command with the option `--steps` makes the same job as its arguments.
use Rattle.std.proofs.Common.{◌≡◌, ◌∙◌, ℕ, Bool, cond, true, false, ◌||◌, refl, sym, ap, List, [], ◌∷◌, ◌++◌, Option, Some, None, is_some, option_to_list, bytes_eq, nat_eq, codes, append-nil, ap₂, map}
use Rattle.clap.specs.Words.{first_of, first_value, found_of, rows_of}
use Rattle.clap.specs.declared.parser.matches.ArgMatches.{ArgMatches}
use Rattle.clap.proofs.WalkLemmas.{first_value-rows}
use Rattle.command_words.specs.Rules.{row, rows_for}
use Rattle.command_words.proofs.Finding.{first_rows}
use Rattle.std.specs.Prelude.{find, option_map}
use Rattle.std.proofs.lemmas.Slice.Eq.{bytes_eq-Decides}
use Rattle.std.proofs.lemmas.Bool.{eqb-true}
use Rattle.c_model.specs.Words.{Argument, Operand, Steps, arguments, before_dashes, behind_dashes, file_of, operand, operands, step_values, steps_of, timed, with_value as old_value, without_front, ◌>>=◌}
use Rattle.command_words.specs.Given.{Text, Given, Word, add, after_word, refused, whole, given_after, given_by, word_of, has, is_dashed, operands_after, text_of, with_value}
use Rattle.command_words.specs.Commands.{job_from, timed_form}
use Rattle.c_model.specs.declared.job.Job.{Job}

pub has_text : (given : List Given) (name : Text) → has given name ≡ is_some (text_of name given)
has_text [] name = refl
has_text (g ∷ given) name = go (bytes_eq g.0 name) (has_text given name)
  where
    go : (b : Bool) → has given name ≡ is_some (text_of name given)
        → (b || has given name) ≡ is_some (option_map (λ h. h.1) (cond b (Some g) (find (λ h. bytes_eq h.0 name) given)))
    go true e = refl
    go false e = e

pub text_more : (given : List Given) (g : Given) (name : Text) (t : Option Text) → text_of name given ≡ t
    → text_of name (given ++ g ∷ []) ≡ elim t [ Some x ↦ Some x | None ↦ cond (bytes_eq g.0 name) (Some g.1) None ]
text_more [] g name (Some x) e = absurd cc
text_more [] g name None e = go (bytes_eq g.0 name)
  where
    go : (b : Bool) → option_map (λ (h : Given). h.1) (cond b (Some g) None) ≡ cond b (Some g.1) None
    go true = refl
    go false = refl
text_more (f ∷ given) g name t e = go (bytes_eq f.0 name) e (λ h. text_more given g name t h)
  where
    go : (b : Bool) → option_map (λ (h : Given). h.1) (cond b (Some f) (find (λ h. bytes_eq h.0 name) given)) ≡ t
        → (text_of name given ≡ t → text_of name (given ++ g ∷ []) ≡ elim t [ Some x ↦ Some x | None ↦ cond (bytes_eq g.0 name) (Some g.1) None ])
        → option_map (λ (h : Given). h.1) (cond b (Some f) (find (λ h. bytes_eq h.0 name) (given ++ g ∷ []))) ≡ elim t [ Some x ↦ Some x | None ↦ cond (bytes_eq g.0 name) (Some g.1) None ]
    go true e more = rw (← e) refl
    go false e more = more e

-- one argument more
pub one_more : (more : Option (List Argument)) (first : Argument) (k : List Argument → Option Job)
    → ((more >>= λ found. Some (first ∷ found)) >>= k) ≡ (more >>= λ found. k (first ∷ found))
one_more None first k = refl
one_more (Some found) first k = refl

pub nothing_more : (more : Option (List Argument)) (k : List Argument → Option Job) → ((found : List Argument) → k found ≡ None) → (more >>= k) ≡ None
nothing_more None k e = refl
nothing_more (Some found) k e = e found

module _ (job : List ℕ → ℕ → Job) where
  -- the job of what is given
  abbrev pub finish : List Given → Option Job
  finish given = job_from job (text_of (codes "file") given) (text_of (codes "steps") given)

  abbrev ends : List Text → List Text → Option Job
  ends files steps = file_of files >>= λ name. steps_of steps >>= λ n. Some (job name n)

  -- the job of what was given before and of these arguments
  abbrev with_found : List Text → List Text → List Text → List Argument → Option Job
  with_found files steps behind found = ends (files ++ (operands found ++ behind)) (steps ++ step_values found)

  abbrev pub old_after : List Text → List Text → List Text → Option Job
  old_after files steps words = arguments (before_dashes words) >>= with_found files steps (behind_dashes words)

  -- the file and the steps that are given
  record IsHeld (given : List Given) (file steps : Option Text) : Type 0 where
    file_is : text_of (codes "file") given ≡ file
    steps_is : text_of (codes "steps") given ≡ steps

  file_held : (given : List Given) (word : Text) (steps : Option Text) → IsHeld given None steps → IsHeld (given ++ (codes "file", word) ∷ []) (Some word) steps
  file_held given word (Some s) h = record { file_is = text_more given _ _ None h.file_is; steps_is = text_more given _ _ (Some s) h.steps_is }
  file_held given word None h = record { file_is = text_more given _ _ None h.file_is; steps_is = text_more given _ _ None h.steps_is }

  steps_held : (given : List Given) (word : Text) (file : Option Text) → IsHeld given file None → IsHeld (given ++ (codes "steps", word) ∷ []) file (Some word)
  steps_held given word (Some f) h = record { file_is = text_more given _ _ (Some f) h.file_is; steps_is = text_more given _ _ None h.steps_is }
  steps_held given word None h = record { file_is = text_more given _ _ None h.file_is; steps_is = text_more given _ _ None h.steps_is }

  -- behind `--`
  behind_is : (words : List Text) (given : List Given) (file steps : Option Text) → IsHeld given file steps
      → (operands_after (codes "file") given words >>= finish) ≡ ends (option_to_list file ++ words) (option_to_list steps)
  behind_is [] given file steps h = rw (h.file_is, h.steps_is, append-nil (option_to_list file)) refl
  behind_is (word ∷ words) given None steps h = rw (has_text given (codes "file"), h.file_is) (behind_is words _ (Some word) steps (file_held given word steps h))
  behind_is (word ∷ words) given (Some f) steps h = rw (has_text given (codes "file"), h.file_is) refl

  -- ---- the old arguments, part by part

  none_ends : (files : List Text) (steps : Option ℕ) (name : Option (List ℕ)) → name ≡ None → (name >>= λ n. steps >>= λ k. Some (job n k)) ≡ None
  none_ends files steps name e = rw e refl

  none_steps : (name : Option (List ℕ)) → (name >>= λ n. (None >>= λ k. Some (job n k))) ≡ None
  none_steps None = refl
  none_steps (Some n) = refl

  -- a second file, a file `-`, a second number of steps, and one that begins with `-`
  two_files : (f word : Text) (steps behind : List Text) (found : List Argument) → with_found (f ∷ []) steps behind (Operand word ∷ found) ≡ None
  two_files f word steps behind found = refl

  dash_file : (rest steps : List Text) → ends (codes "-" ∷ rest) steps ≡ None
  dash_file [] steps = refl
  dash_file (w ∷ rest) steps = refl

  two_steps : (files : List Text) (s value : Text) (behind : List Text) (found : List Argument) → with_found files (s ∷ []) behind (Steps value ∷ found) ≡ None
  two_steps files s value behind found = none_steps (file_of (files ++ (operands found ++ behind)))

  dashed_steps : (rest : List Text) (c : ℕ) (text : Text) → steps_of ((45 ∷ (c ∷ text)) ∷ rest) ≡ None
  dashed_steps [] c text = refl
  dashed_steps (w ∷ rest) c text = refl

  -- ---- the bridge

  record Bridges (words : List Text) : Type 0 where
    is : (given : List Given) (file steps : Option Text) → IsHeld given file steps
        → (given_after timed_form given words >>= finish) ≡ old_after (option_to_list file) (option_to_list steps) words
    waits : (given : List Given) (file steps : Option Text) → IsHeld given file steps
        → (with_value timed_form given words (codes "steps") >>= finish)
        ≡ (old_value (before_dashes words) >>= with_found (option_to_list file) (option_to_list steps) (behind_dashes words))

  -- a number of steps is given
  steps_given : (words : List Text) (given : List Given) (value : Text) (file steps : Option Text) → Bridges words → IsHeld given file steps
      → ((add (codes "steps", value) given >>= λ more. given_after timed_form more words) >>= finish)
      ≡ (arguments (before_dashes words) >>= λ found. with_found (option_to_list file) (option_to_list steps) (behind_dashes words) (Steps value ∷ found))
  steps_given words given value file (Some s) more h = rw (has_text given (codes "steps"), h.steps_is)
      (sym (nothing_more (arguments (before_dashes words)) _ (λ found. two_steps (option_to_list file) s value (behind_dashes words) found)))
  steps_given words given value file None more h = rw (has_text given (codes "steps"), h.steps_is)
      (more.is (given ++ (codes "steps", value) ∷ []) file (Some value) (steps_held given value file h))

  file_given : (words : List Text) (given : List Given) (word : Text) (file steps : Option Text) → Bridges words → IsHeld given file steps
      → ((add (codes "file", word) given >>= λ more. given_after timed_form more words) >>= finish)
      ≡ (arguments (before_dashes words) >>= λ found. with_found (option_to_list file) (option_to_list steps) (behind_dashes words) (Operand word ∷ found))
  file_given words given word (Some f) steps more h = rw (has_text given (codes "file"), h.file_is)
      (sym (nothing_more (arguments (before_dashes words)) _ (λ found. two_files f word (option_to_list steps) (behind_dashes words) found)))
  file_given words given word None steps more h = rw (has_text given (codes "file"), h.file_is)
      (more.is (given ++ (codes "file", word) ∷ []) (Some word) steps (file_held given word steps h))

  dashed_value : (value : Text) (rest : List Text) → is_dashed value ≡ true → steps_of (value ∷ rest) ≡ None
  dashed_value [] rest e = absurd cc
  dashed_value (b ∷ []) rest e = absurd cc
  dashed_value (b ∷ (c ∷ text)) rest e = ap (λ x. steps_of ((x ∷ (c ∷ text)) ∷ rest)) (eqb-true b 45 e) ∙ dashed_steps rest c text

  no_steps : (files : List Text) (steps : Option Text) (value : Text) (behind : List Text) (found : List Argument) → is_dashed value ≡ true
      → with_found files (option_to_list steps) behind (Steps value ∷ found) ≡ None
  no_steps files (Some s) value behind found e = two_steps files s value behind found
  no_steps files None value behind found e = rw (dashed_value value (step_values found) e) (none_steps (file_of (files ++ (operands found ++ behind))))

  value_bridge : (words : List Text) (value : Text) (given : List Given) (file steps : Option Text) → Bridges words → IsHeld given file steps
      → (with_value timed_form given (value ∷ words) (codes "steps") >>= finish)
      ≡ (old_value (before_dashes (value ∷ words)) >>= with_found (option_to_list file) (option_to_list steps) (behind_dashes (value ∷ words)))
  value_bridge words value given file steps more h = go (bytes_eq value (codes "--")) (is_dashed value) refl refl
    where
      go : (b d : Bool) → bytes_eq value (codes "--") ≡ b → is_dashed value ≡ d
          → (cond d None (add (codes "steps", value) given >>= λ now. given_after timed_form now words) >>= finish)
          ≡ (old_value (cond b [] (value ∷ before_dashes words)) >>= with_found (option_to_list file) (option_to_list steps) (cond b words (behind_dashes words)))
      go true true b_is d_is = refl
      go true false b_is d_is = let bad : true ≡ false = ap is_dashed (sym ((bytes_eq-Decides value (codes "--")).0 b_is)) ∙ d_is in absurd cc
      go false true b_is d_is = sym (one_more (arguments (before_dashes words)) (Steps value) _
          ∙ nothing_more (arguments (before_dashes words)) _ (λ found. no_steps (option_to_list file) steps value (behind_dashes words) found d_is))
      go false false b_is d_is = steps_given words given value file steps more h ∙ sym (one_more (arguments (before_dashes words)) (Steps value) _)

  swap : (a b : Text) → bytes_eq a b ≡ bytes_eq b a
  swap a b = go (bytes_eq a b) (bytes_eq b a) refl refl
    where
      go : (x y : Bool) → bytes_eq a b ≡ x → bytes_eq b a ≡ y → x ≡ y
      go true true x_is y_is = refl
      go false false x_is y_is = refl
      go true false x_is y_is = let bad : bytes_eq b a ≡ true = (bytes_eq-Decides b a).1 (sym ((bytes_eq-Decides a b).0 x_is)) in absurd cc
      go false true x_is y_is = let bad : bytes_eq a b ≡ true = (bytes_eq-Decides a b).1 (sym ((bytes_eq-Decides b a).0 y_is)) in absurd cc

  abbrev pub rest_of : List Text → List Text → List Text → Option (List Argument) → Option Job
  rest_of files steps words found = found >>= with_found files steps (behind_dashes words)

  abbrev new_word : List Given → List Text → Word → Option Job
  new_word given words w = after_word given (λ more. given_after timed_form more words) (with_value timed_form given words) w >>= finish

  -- a word that is no option
  other_word : (words : List Text) (word : Text) (given : List Given) (file steps : Option Text) → Bridges words → IsHeld given file steps
      → new_word given words (cond (is_dashed word) refused (whole (codes "file", word)))
      ≡ rest_of (option_to_list file) (option_to_list steps) words (operand word >>= λ first. arguments (before_dashes words) >>= λ more. Some (first ∷ more))
  other_word words [] given file steps more h = file_given words given [] file steps more h ∙ sym (one_more (arguments (before_dashes words)) (Operand []) _)
  other_word words (b ∷ []) given file steps more h = go (nat_eq b 45) refl
    where
      bad_file : (file : Option Text) (found : List Argument) → b ≡ 45 → with_found (option_to_list file) (option_to_list steps) (behind_dashes words) (Operand (b ∷ []) ∷ found) ≡ None
      bad_file (Some f) found e = refl
      bad_file None found e = ap (λ x. ends ((x ∷ []) ∷ (operands found ++ behind_dashes words)) (option_to_list steps ++ step_values found)) e
          ∙ dash_file (operands found ++ behind_dashes words) (option_to_list steps ++ step_values found)

      go : (d : Bool) → nat_eq b 45 ≡ d → new_word given words (whole (codes "file", b ∷ []))
          ≡ rest_of (option_to_list file) (option_to_list steps) words (elim (cond {A = Option Text} d (Some []) None) [ Some rest ↦ None | None ↦ Some (Operand (b ∷ [])) ]
          >>= λ first. arguments (before_dashes words) >>= λ more. Some (first ∷ more))
      go true e = file_given words given (b ∷ []) file steps more h
          ∙ nothing_more (arguments (before_dashes words)) _ (λ found. bad_file file found (eqb-true b 45 e))
      go false e = file_given words given (b ∷ []) file steps more h ∙ sym (one_more (arguments (before_dashes words)) (Operand (b ∷ [])) _)
  other_word words (b ∷ (c ∷ text)) given file steps more h = go (nat_eq b 45)
    where
      go : (d : Bool) → new_word given words (cond d refused (whole (codes "file", b ∷ (c ∷ text))))
          ≡ rest_of (option_to_list file) (option_to_list steps) words (elim (cond {A = Option Text} d (Some (c ∷ text)) None) [ Some rest ↦ None | None ↦ Some (Operand (b ∷ (c ∷ text))) ]
          >>= λ first. arguments (before_dashes words) >>= λ more. Some (first ∷ more))
      go true = refl
      go false = file_given words given (b ∷ (c ∷ text)) file steps more h ∙ sym (one_more (arguments (before_dashes words)) (Operand (b ∷ (c ∷ text))) _)

  word_bridge : (words : List Text) (word : Text) (given : List Given) (file steps : Option Text) → Bridges words → IsHeld given file steps
      → (given_after timed_form given (word ∷ words) >>= finish) ≡ old_after (option_to_list file) (option_to_list steps) (word ∷ words)
  word_bridge words word given file steps more h = go (bytes_eq word (codes "--")) (bytes_eq word (codes "--steps")) (without_front (codes "--steps=") word) refl refl
    where
      go : (dashes named : Bool) (text : Option Text) → bytes_eq word (codes "--steps") ≡ named → without_front (codes "--steps=") word ≡ text
          → (cond dashes (operands_after (codes "file") given words) (after_word given (λ now. given_after timed_form now words) (with_value timed_form given words)
          (word_of (codes "file") timed_form.options word)) >>= finish)
          ≡ (arguments (cond dashes [] (word ∷ before_dashes words)) >>= with_found (option_to_list file) (option_to_list steps) (cond dashes words (behind_dashes words)))
      go true named text n t = behind_is words given file steps h ∙ ap (ends (option_to_list file ++ words)) (sym (append-nil (option_to_list steps)))
      go false true text n t = rw (swap (codes "--steps") word, n) (more.waits given file steps h)
      go false false (Some v) n t = rw (swap (codes "--steps") word, n, t) (steps_given words given v file steps more h ∙ sym (one_more (arguments (before_dashes words)) (Steps v) _))
      go false false None n t = rw (swap (codes "--steps") word, n, t) (other_word words word given file steps more h)

  bridges : (words : List Text) → Bridges words
  bridges [] = record {
    is = λ given file steps h. rw (h.file_is, h.steps_is, append-nil (option_to_list file), append-nil (option_to_list steps)) refl;
    waits = λ given file steps h. refl;
  }
  bridges (word ∷ words) = record {
    is = λ given file steps h. word_bridge words word given file steps (bridges words) h;
    waits = λ given file steps h. value_bridge words word given file steps (bridges words) h;
  }

  -- what is given makes the job of the arguments
  pub same_job : (words : List Text) → (given_by timed_form words >>= finish) ≡ timed job words
  same_job words = (bridges words).is [] None None (record { file_is = refl; steps_is = refl })

-- what a parse found makes the job of the words
pub found_job : (job : List ℕ → ℕ → Job) (words : List Text) (m : ArgMatches)
    → Some (rows_of (found_of m)) ≡ option_map (rows_for timed_form) (given_by timed_form words)
    → job_from job (first_value (found_of m) (codes "file")) (first_value (found_of m) (codes "steps")) ≡ timed job words
found_job job words m e = go (given_by timed_form words) e ∙ same_job job words
  where
    go : (given : Option (List Given)) → Some (rows_of (found_of m)) ≡ option_map (rows_for timed_form) given
        → job_from job (first_value (found_of m) (codes "file")) (first_value (found_of m) (codes "steps")) ≡ (given >>= finish job)
    go None e = absurd cc
    go (Some g) e =
        let rows : rows_of (found_of m) ≡ map row g = cc in
        let file = first_value-rows (found_of m) (codes "file") ∙ ap (first_of (codes "file")) rows ∙ first_rows (codes "file") g in
        let steps = first_value-rows (found_of m) (codes "steps") ∙ ap (first_of (codes "steps")) rows ∙ first_rows (codes "steps") g in
        ap₂ (job_from job) file steps

pub no_job : (job : List ℕ → ℕ → Job) (words : List Text) → None ≡ option_map (rows_for timed_form) (given_by timed_form words) → None ≡ timed job words
no_job job words e = go (given_by timed_form words) e ∙ same_job job words
  where
    go : (given : Option (List Given)) → None ≡ option_map (rows_for timed_form) given → None ≡ (given >>= finish job)
    go None e = refl
    go (Some g) e = absurd cc
