use Rattle.std.proofs.Common.{false, map, None, option_map, string_bytes, ap, ◌∙◌, Some}
use Rattle.c_model.specs.declared.job.Job.TheVariants.{Instrument}
use Rattle.command_words.proofs.FoundOperands.{instrument_found}
use Rattle.command_words.proofs.words.read_instrument.Goals as goal

pub returns-in_ok-from_str-in-Some : goal.returns-in_ok-from_str-in-Some
returns-in_ok-from_str-in-Some c = ap (λ name. Some (Instrument name false)) (c.new-file.ensures ∙ c.in_ok-from_str-in-Some.ensures.ok)
    ∙ instrument_found (map string_bytes c.args.words.now) (option_map (λ s. s.now) c.in_ok-operand.field-0) (Some c.in-Some.file.now) c.in_ok-operand.ensures c.in-Some.ensures

pub returns-in-None : goal.returns-in-None
returns-in-None c = instrument_found (map string_bytes c.args.words.now) (option_map (λ s. s.now) c.in_ok-operand.field-0) None c.in_ok-operand.ensures c.in-None.ensures
