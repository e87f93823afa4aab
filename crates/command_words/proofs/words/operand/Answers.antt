use Rattle.std.proofs.Common.{map, option_map, string_bytes, ap, sym, ◌∙◌}
use Rattle.clap.specs.Words.{found_of, rows_of}
use Rattle.command_words.specs.Commands.{single_form}
use Rattle.command_words.proofs.Forms.{is_single}
use Rattle.command_words.proofs.FoundOperands.{found_operand, no_operand}
use Rattle.command_words.proofs.words.operand.Goals as goal

pub returns-in-Some : goal.returns-in-Some
returns-in-Some c = c.get_str.ensures ∙ found_operand (map string_bytes c.args.words.now) c.in-Some.found
    (ap (option_map (λ m. rows_of (found_of m))) (sym c.in-Some.is) ∙ c.in_ok-found.ensures single_form c.args.name.now is_single c.in_ok-command.ensures)

pub returns-in-None : goal.returns-in-None
returns-in-None c = no_operand (map string_bytes c.args.words.now)
    (ap (option_map (λ m. rows_of (found_of m))) (sym c.in-None.is) ∙ c.in_ok-found.ensures single_form c.args.name.now is_single c.in_ok-command.ensures)
