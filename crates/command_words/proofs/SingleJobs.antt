-- What is given after a command without options makes the same job as its arguments.
use Rattle.std.proofs.Common.{◌≡◌, ◌∙◌, Bool, cond, true, false, refl, sym, ap, map, List, [], ◌∷◌, ◌++◌, Option, Some, None, option_to_list, option_map, bytes_eq, nat_eq, codes, append-nil}
use Rattle.std.proofs.lemmas.Slice.Eq.{bytes_eq-Decides}
use Rattle.std.proofs.lemmas.Bool.{eqb-true}
use Rattle.clap.specs.Words.{first_of, first_value, found_of, rows_of}
use Rattle.clap.specs.declared.parser.matches.ArgMatches.{ArgMatches}
use Rattle.clap.proofs.WalkLemmas.{first_value-rows}
use Rattle.c_model.specs.declared.job.Job.{Job}
use Rattle.c_model.specs.Words.{Argument, Operand, Steps, arguments, before_dashes, behind_dashes, operand, operands, step_values, with_value as old_value, without_front, without_options, ◌>>=◌}
use Rattle.command_words.specs.Given.{Text, Given, Word, add, after_word, given_after, given_by, is_dashed, operands_after, refused, text_of, whole, with_value, word_of}
use Rattle.command_words.specs.Commands.{single_form}
use Rattle.command_words.specs.Rules.{row, rows_for}
use Rattle.command_words.proofs.TimedJobs.{has_text, nothing_more, one_more, text_more}
use Rattle.command_words.proofs.Finding.{first_rows}

no_options : {A : Type 0} (a : Option A) (make : A → Job) (value : Text) (more : List Text) → (a >>= λ x. without_options (value ∷ more) (make x)) ≡ None
no_options None make value more = refl
no_options (Some x) make value more = refl

module _ {A : Type 0} (check : List Text → Option A) (make : A → Job) (two : (a b : Text) (more : List Text) → check (a ∷ (b ∷ more)) ≡ None)
    (dash : check (codes "-" ∷ []) ≡ None) where
  abbrev pub single_job : Option Text → Option Job
  single_job word = check (option_to_list word) >>= λ x. Some (make x)

  abbrev finish : List Given → Option Job
  finish given = single_job (text_of (codes "operand") given)

  abbrev ends : List Text → List Argument → List Text → Option Job
  ends words found behind = check (words ++ (operands found ++ behind)) >>= λ x. without_options (step_values found) (make x)

  abbrev pub old_job : List Text → Option Job
  old_job words = arguments (before_dashes words) >>= λ found. ends [] found (behind_dashes words)

  abbrev old_after : Option Text → List Text → Option Job
  old_after word words = arguments (before_dashes words) >>= λ found. ends (option_to_list word) found (behind_dashes words)

  record Bridges (words : List Text) : Type 0 where
    is : (given : List Given) (word : Option Text) → text_of (codes "operand") given ≡ word → (given_after single_form given words >>= finish) ≡ old_after word words

  behind_is : (words : List Text) (given : List Given) (word : Option Text) → text_of (codes "operand") given ≡ word
      → (operands_after (codes "operand") given words >>= finish) ≡ (check (option_to_list word ++ words) >>= λ x. Some (make x))
  behind_is [] given word h = rw (h, append-nil (option_to_list word)) refl
  behind_is (w ∷ words) given None h = rw (has_text given (codes "operand"), h) (behind_is words _ (Some w) (text_more given _ _ None h))
  behind_is (w ∷ words) given (Some f) h = rw (has_text given (codes "operand"), h, two f w words) refl

  -- an option has no job
  steps_bad : (words : List Text) (word : Option Text) (value : Text) (found : List Argument) (behind : List Text) → ends (option_to_list word) (Steps value ∷ found) behind ≡ None
  steps_bad words word value found behind = no_options (check (option_to_list word ++ (operands found ++ behind))) make value (step_values found)

  old_value_bad : (words : List Text) (word : Option Text) (behind : List Text) → (old_value words >>= λ found. ends (option_to_list word) found behind) ≡ None
  old_value_bad [] word behind = refl
  old_value_bad (v ∷ words) word behind = one_more (arguments words) (Steps v) _ ∙ nothing_more (arguments words) _ (λ found. steps_bad words word v found behind)

  second_bad : (f word : Text) (found : List Argument) (behind : List Text) → ends (f ∷ []) (Operand word ∷ found) behind ≡ None
  second_bad f word found behind = rw (two f word (operands found ++ behind)) refl

  operand_given : (words : List Text) (given : List Given) (w : Text) (word : Option Text) → Bridges words → text_of (codes "operand") given ≡ word
      → ((add (codes "operand", w) given >>= λ more. given_after single_form more words) >>= finish)
      ≡ (arguments (before_dashes words) >>= λ found. ends (option_to_list word) (Operand w ∷ found) (behind_dashes words))
  operand_given words given w (Some f) more h = rw (has_text given (codes "operand"), h)
      (sym (nothing_more (arguments (before_dashes words)) _ (λ found. second_bad f w found (behind_dashes words))))
  operand_given words given w None more h = rw (has_text given (codes "operand"), h)
      (more.is (given ++ (codes "operand", w) ∷ []) (Some w) (text_more given _ _ None h))

  abbrev new_word : List Given → List Text → Word → Option Job
  new_word given words w = after_word given (λ more. given_after single_form more words) (with_value single_form given words) w >>= finish

  abbrev rest_of : Option Text → List Text → Option (List Argument) → Option Job
  rest_of word words found = found >>= λ f. ends (option_to_list word) f (behind_dashes words)

  abbrev more_of : List Text → Option Argument → Option (List Argument)
  more_of words first = first >>= λ f. arguments (before_dashes words) >>= λ more. Some (f ∷ more)

  -- an option's front is dashed
  front_dashed : (word v : Text) → without_front (codes "--steps=") word ≡ Some v → is_dashed word ≡ true
  front_dashed [] v e = absurd cc
  front_dashed (b ∷ []) v e = go (nat_eq b 45) e
    where
      go : (d : Bool) → cond {A = Option Text} d None None ≡ Some v → is_dashed (b ∷ []) ≡ true
      go true e = absurd cc
      go false e = absurd cc
  front_dashed (b ∷ (c ∷ text)) v e = go (nat_eq b 45) refl e
    where
      go : (d : Bool) → nat_eq b 45 ≡ d → cond d (without_front (codes "-steps=") (c ∷ text)) None ≡ Some v → is_dashed (b ∷ (c ∷ text)) ≡ true
      go true d_is e = d_is
      go false d_is e = absurd cc

  other_word : (words : List Text) (word : Text) (given : List Given) (held : Option Text) → Bridges words → text_of (codes "operand") given ≡ held
      → new_word given words (cond (is_dashed word) refused (whole (codes "operand", word))) ≡ rest_of held words (more_of words (operand word))
  other_word words [] given held more h = operand_given words given [] held more h ∙ sym (one_more (arguments (before_dashes words)) (Operand []) _)
  other_word words (b ∷ []) given held more h = go (nat_eq b 45) refl
    where
      bad : (held : Option Text) (found : List Argument) → b ≡ 45 → ends (option_to_list held) (Operand (b ∷ []) ∷ found) (behind_dashes words) ≡ None
      bad (Some f) found e = second_bad f (b ∷ []) found (behind_dashes words)
      bad None found e = ap (λ x. check ((x ∷ []) ∷ (operands found ++ behind_dashes words)) >>= λ y. without_options (step_values found) (make y)) e ∙ lone (operands found ++ behind_dashes words)
        where
          lone : (rest : List Text) → (check (codes "-" ∷ rest) >>= λ y. without_options (step_values found) (make y)) ≡ None
          lone [] = rw dash refl
          lone (w ∷ rest) = rw (two (codes "-") w rest) refl

      go : (d : Bool) → nat_eq b 45 ≡ d → new_word given words (whole (codes "operand", b ∷ []))
          ≡ rest_of held words (more_of words (elim (cond {A = Option Text} d (Some []) None) [ Some rest ↦ None | None ↦ Some (Operand (b ∷ [])) ]))
      go true e = operand_given words given (b ∷ []) held more h ∙ nothing_more (arguments (before_dashes words)) _ (λ found. bad held found (eqb-true b 45 e))
      go false e = operand_given words given (b ∷ []) held more h ∙ sym (one_more (arguments (before_dashes words)) (Operand (b ∷ [])) _)
  other_word words (b ∷ (c ∷ text)) given held more h = go (nat_eq b 45)
    where
      go : (d : Bool) → new_word given words (cond d refused (whole (codes "operand", b ∷ (c ∷ text))))
          ≡ rest_of held words (more_of words (elim (cond {A = Option Text} d (Some (c ∷ text)) None) [ Some rest ↦ None | None ↦ Some (Operand (b ∷ (c ∷ text))) ]))
      go true = refl
      go false = operand_given words given (b ∷ (c ∷ text)) held more h ∙ sym (one_more (arguments (before_dashes words)) (Operand (b ∷ (c ∷ text))) _)

  word_bridge : (words : List Text) (word : Text) (given : List Given) (held : Option Text) → Bridges words → text_of (codes "operand") given ≡ held
      → (given_after single_form given (word ∷ words) >>= finish) ≡ old_after held (word ∷ words)
  word_bridge words word given held more h = go (bytes_eq word (codes "--")) (bytes_eq word (codes "--steps")) (without_front (codes "--steps=") word) refl refl
    where
      go : (dashes named : Bool) (text : Option Text) → bytes_eq word (codes "--steps") ≡ named → without_front (codes "--steps=") word ≡ text
          → (cond dashes (operands_after (codes "operand") given words) (after_word given (λ now. given_after single_form now words) (with_value single_form given words)
          (word_of (codes "operand") [] word)) >>= finish)
          ≡ (arguments (cond dashes [] (word ∷ before_dashes words)) >>= λ found. ends (option_to_list held) found (cond dashes words (behind_dashes words)))
      go true named text n t = behind_is words given held h
      go false true text n t = rw (ap is_dashed ((bytes_eq-Decides word (codes "--steps")).0 n), n) (sym (old_value_bad (before_dashes words) held (behind_dashes words)))
      go false false (Some v) n t = rw (front_dashed word v t, n, t) (sym (one_more (arguments (before_dashes words)) (Steps v) _
          ∙ nothing_more (arguments (before_dashes words)) _ (λ found. steps_bad words held v found (behind_dashes words))))
      go false false None n t = rw (n, t) (other_word words word given held more h)

  bridges : (words : List Text) → Bridges words
  bridges [] = record { is = λ given held h. rw (h, append-nil (option_to_list held)) refl }
  bridges (word ∷ words) = record { is = λ given held h. word_bridge words word given held (bridges words) h }

  -- what is given makes the job of the arguments
  pub same_single : (words : List Text) → (given_by single_form words >>= finish) ≡ old_job words
  same_single words = (bridges words).is [] None refl

  -- what a parse found makes the job of the words
  pub found_single : (words : List Text) (m : ArgMatches) → Some (rows_of (found_of m)) ≡ option_map (rows_for single_form) (given_by single_form words)
      → single_job (first_value (found_of m) (codes "operand")) ≡ old_job words
  found_single words m e = go (given_by single_form words) e ∙ same_single words
    where
      go : (given : Option (List Given)) → Some (rows_of (found_of m)) ≡ option_map (rows_for single_form) given
          → single_job (first_value (found_of m) (codes "operand")) ≡ (given >>= finish)
      go None e = absurd cc
      go (Some g) e =
          let rows : rows_of (found_of m) ≡ map row g = cc in
          ap single_job (first_value-rows (found_of m) (codes "operand") ∙ ap (first_of (codes "operand")) rows ∙ first_rows (codes "operand") g)

  pub no_single : (words : List Text) → None ≡ option_map (rows_for single_form) (given_by single_form words) → None ≡ old_job words
  no_single words e = go (given_by single_form words) e ∙ same_single words
    where
      go : (given : Option (List Given)) → None ≡ option_map (rows_for single_form) given → None ≡ (given >>= finish)
      go None e = refl
      go (Some g) e = absurd cc
