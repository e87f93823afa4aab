use Rattle.std.proofs.Common.{map, option_map, string_bytes, ap, sym, ◌∙◌}
use Rattle.clap.specs.Words.{found_of, rows_of}
use Rattle.command_words.specs.Commands.{timed_form}
use Rattle.command_words.proofs.TimedJobs.{found_job, no_job}
use Rattle.command_words.proofs.Forms.{is_timed}
use Rattle.command_words.proofs.words.timed_parts.Goals as goal

pub returns-in-Some : goal.returns-in-Some
returns-in-Some c job = c.found_parts.ensures job ∙ found_job job (map string_bytes c.args.words.now) c.in-Some.found
    (ap (option_map (λ m. rows_of (found_of m))) (sym c.in-Some.is) ∙ c.in_ok-found.ensures timed_form c.args.name.now is_timed c.in_ok-command.ensures)

pub returns-in-None : goal.returns-in-None
returns-in-None c job = no_job job (map string_bytes c.args.words.now)
    (ap (option_map (λ m. rows_of (found_of m))) (sym c.in-None.is) ∙ c.in_ok-found.ensures timed_form c.args.name.now is_timed c.in_ok-command.ensures)
