-- The operand of a command without options, as a parse finds it, and the job that it makes.
use Rattle.std.proofs.Common.{◌≡◌, ◌∙◌, false, refl, ap, map, List, ◌∷◌, Option, Some, None, option_to_list, option_map, codes}
use Rattle.clap.specs.Words.{first_of, first_value, found_of, rows_of}
use Rattle.clap.specs.declared.parser.matches.ArgMatches.{ArgMatches}
use Rattle.clap.proofs.WalkLemmas.{first_value-rows}
use Rattle.c_model.specs.declared.job.Job.TheVariants.{Instrument}
use Rattle.c_model.specs.Words.{file_of, instrument_of, ◌>>=◌}
use Rattle.command_words.specs.Given.{Text, Given, given_by, text_of}
use Rattle.command_words.specs.Commands.{operand_of, single_form}
use Rattle.command_words.specs.Rules.{row, rows_for}
use Rattle.command_words.proofs.SingleJobs.{same_single}
use Rattle.command_words.proofs.Finding.{first_rows}

two_files : (a b : Text) (more : List Text) → file_of (a ∷ (b ∷ more)) ≡ None
two_files a b more = refl

pub instrument_is : (words : List Text) → (file_of (option_to_list (operand_of words)) >>= λ file. Some (Instrument file false)) ≡ instrument_of words
instrument_is words = go (given_by single_form words) ∙ same_single file_of (λ file. Instrument file false) two_files refl words
  where
    go : (given : Option (List Given)) → (file_of (option_to_list (given >>= λ g. text_of (codes "operand") g)) >>= λ file. Some (Instrument file false))
        ≡ (given >>= λ g. file_of (option_to_list (text_of (codes "operand") g)) >>= λ file. Some (Instrument file false))
    go None = refl
    go (Some g) = refl

-- the operand that a parse found
pub found_operand : (words : List Text) (m : ArgMatches) → Some (rows_of (found_of m)) ≡ option_map (rows_for single_form) (given_by single_form words)
    → first_value (found_of m) (codes "operand") ≡ operand_of words
found_operand words m e = go (given_by single_form words) e
  where
    go : (given : Option (List Given)) → Some (rows_of (found_of m)) ≡ option_map (rows_for single_form) given
        → first_value (found_of m) (codes "operand") ≡ (given >>= λ g. text_of (codes "operand") g)
    go None e = absurd cc
    go (Some g) e = let rows : rows_of (found_of m) ≡ map row g = cc in first_value-rows (found_of m) (codes "operand") ∙ ap (first_of (codes "operand")) rows ∙ first_rows (codes "operand") g

pub no_operand : (words : List Text) → None ≡ option_map (rows_for single_form) (given_by single_form words) → None ≡ operand_of words
no_operand words e = go (given_by single_form words) e
  where
    go : (given : Option (List Given)) → None ≡ option_map (rows_for single_form) given → None ≡ (given >>= λ g. text_of (codes "operand") g)
    go None e = refl
    go (Some g) e = absurd cc

pub instrument_found : (words : List Text) (word file : Option Text) → word ≡ operand_of words → file ≡ file_of (option_to_list word)
    → (file >>= λ f. Some (Instrument f false)) ≡ instrument_of words
instrument_found words word file w f = ap (λ o. o >>= λ n. Some (Instrument n false)) (f ∙ ap (λ o. file_of (option_to_list o)) w) ∙ instrument_is words
