use Rattle.c_syntax.specs.Tokens.{plain_tokens}
use Rattle.c_syntax.specs.Programs.{plain_program}
use Rattle.c_reader.proofs.AcceptedTexts.{accepted_program, accepted_ranges}
use Rattle.c_reader.proofs.Phases.{refused_by_check, accepted_as}
use Rattle.c_reader.proofs.read.read_text.Goals as goal

pub returns-in-Ok-ranged-clause-accepted : goal.returns-in-Ok-ranged-clause-accepted
returns-in-Ok-ranged-clause-accepted c =
    let t = c.in-Ok.ensures.read in
    let p = plain_program c.in-Ok-ranged.ranged.program in
    accepted_as c.args.text.now (plain_tokens c.in-Ok.tree.tokens) t.has (plain_program c.in-Ok.tree.program) t.read c.in-Ok.ensures.bytes c.requires p c.in-Ok-ranged.ensures

pub returns-in-Ok-ranged-clause-program : goal.returns-in-Ok-ranged-clause-program
returns-in-Ok-ranged-clause-program c =
    let t = c.in-Ok.ensures.read in
    let p = plain_program c.in-Ok-ranged.ranged.program in
    let a = accepted_as c.args.text.now (plain_tokens c.in-Ok.tree.tokens) t.has (plain_program c.in-Ok.tree.program) t.read c.in-Ok.ensures.bytes c.requires p c.in-Ok-ranged.ensures in
    accepted_program c.args.text.now p a

pub returns-in-Err-ranged-clause-refused : goal.returns-in-Err-ranged-clause-refused
returns-in-Err-ranged-clause-refused c =
    let t = c.in-Ok.ensures.read in
    refused_by_check c.args.text.now (plain_tokens c.in-Ok.tree.tokens) t.has (plain_program c.in-Ok.tree.program) t.read c.in-Err-ranged.fault c.in-Err-ranged.ensures

pub returns-in-Ok-ranged-clause-ranged : goal.returns-in-Ok-ranged-clause-ranged
returns-in-Ok-ranged-clause-ranged c =
    let t = c.in-Ok.ensures.read in
    let p = plain_program c.in-Ok-ranged.ranged.program in
    let a = accepted_as c.args.text.now (plain_tokens c.in-Ok.tree.tokens) t.has (plain_program c.in-Ok.tree.program) t.read c.in-Ok.ensures.bytes c.requires p c.in-Ok-ranged.ensures in
    accepted_ranges c.args.text.now p a
