use Rattle.std.proofs.Common.{◌∙◌, ap, sym, FitsSigned, rules}
use Rattle.std.specs.Int.{w128}
use Rattle.std.specs.Fmt.{signed_decimal}
use Rattle.std.proofs.lemmas.Int.{to_z-of_z}
use Rattle.c_printer.proofs.Written.{shown}
use Rattle.c_printer.proofs.Texts.{number_text}
use Rattle.c_printer.proofs.strings.signed_number.Goals as goal

pub returns : goal.returns
returns g c =
    let f : FitsSigned w128 c.args.z = search rules in
    let digits = c.as_bytes.ensures.value ∙ c.format.ensures.text ∙ ap signed_decimal (to_z-of_z w128 c.args.z f) in
    shown (number_text c.args.z ∙ sym digits) c.write.ensures
