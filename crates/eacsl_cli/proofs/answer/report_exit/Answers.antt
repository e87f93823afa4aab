use Rattle.std.proofs.Common.{◌≡◌, ◌++◌, codes, refl, ◌∙◌, FitsSigned, rules}
use Rattle.std.specs.Prelude.{string_bytes}
use Rattle.std.specs.Fmt.{signed_decimal}
use Rattle.std.specs.Int.{w128}
use Rattle.std.proofs.lemmas.Int.{to_z-of_z}
use Rattle.c_model.specs.Reports.{line_of}
use Rattle.eacsl_cli.specs.Settled.{Said, Wanting}
use Rattle.eacsl_cli.proofs.answer.report_exit.Goals as goal

pub returns-in-Ok : goal.returns-in-Ok
returns-in-Ok g c =
    let f : FitsSigned w128 c.args.value = search rules in
    let e : string_bytes c.in-Ok.line ≡ line_of (codes "exit " ++ signed_decimal c.args.value) = simp to_z-of_z at c.in-Ok.ensures in
    record { said = record { status = 0; line = line_of (codes "exit " ++ signed_decimal c.args.value) }; is = refl; settled = Said (rw (c.as_bytes.ensures.value ∙ e) at c.say.ensures) }

pub returns-in-Err : goal.returns-in-Err
returns-in-Err g c = record { said = record { status = 0; line = line_of (codes "exit " ++ signed_decimal c.args.value) }; is = refl; settled = Wanting c.out_of_memory.ensures }
