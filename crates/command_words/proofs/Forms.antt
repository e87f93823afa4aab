-- The forms of the commands are such as clap reads.
use Rattle.std.proofs.Common.{refl}
use Rattle.command_words.specs.Rules.{IsForm}
use Rattle.command_words.specs.Commands.{single_form, timed_form}

pub is_timed : IsForm timed_form
is_timed = record { free = refl; plain = refl; built = λ name. refl; bare = λ name. refl; simple = λ name. refl }

pub is_single : IsForm single_form
is_single = record { free = refl; plain = refl; built = λ name. refl; bare = λ name. refl; simple = λ name. refl }
