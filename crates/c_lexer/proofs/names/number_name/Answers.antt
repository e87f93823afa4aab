use Rattle.std.proofs.Common.{ap, ◌∙◌}
use Rattle.c_lexer.specs.Reading.{spelled, seen}
use Rattle.c_model.specs.Names.{with_name, name_number}
use Rattle.c_lexer.proofs.NameSteps.{number_spelled, keys_spelled, found_name, known_name}
use Rattle.c_lexer.proofs.names.number_name.Goals as goal

pub returns-clause-number : goal.returns-clause-number
returns-clause-number c =
    c.in_ok-n.ensures.index ∙ number_spelled c.in_ok-from_slice.field-0.items c.args.names.now.keys ∙ ap (name_number (seen c.args.names.now)) c.in_ok-from_slice.ensures.items

pub returns-clause-names : goal.returns-clause-names
returns-clause-names c =
    ap spelled c.in_ok-n.ensures.keys ∙ keys_spelled c.in_ok-from_slice.field-0 c.args.names.now.keys ∙ ap (with_name (seen c.args.names.now)) c.in_ok-from_slice.ensures.items

pub returns-in-Some-clause-number : goal.returns-in-Some-clause-number
returns-in-Some-clause-number c = found_name c.args.bytes.now c.args.names.now.keys c.in-Some.n c.in-Some.ensures.index

pub returns-in-Some-clause-names : goal.returns-in-Some-clause-names
returns-in-Some-clause-names c = known_name c.args.bytes.now c.args.names.now.keys c.in-Some.ensures.found
