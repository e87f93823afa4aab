use Rattle.std.proofs.Common.{rules}
use Rattle.c_function_rules.proofs.Labels.{labels_of_block, labels_of_switch}
use Rattle.c_function_rules.proofs.label.+labels.Goals as goal

pub add_of_kind-returns-in-Block : goal.add_of_kind-returns-in-Block
add_of_kind-returns-in-Block t c =
    let same = labels_of_block c.args.place c.args.kind.now c.in-Block.items c.in-Block.is in
    search (rules, same)

pub add_of_kind-returns-in-Switch : goal.add_of_kind-returns-in-Switch
add_of_kind-returns-in-Switch t c =
    let same = labels_of_switch c.args.place c.args.kind.now c.in-Switch._controlling c.in-Switch.cases c.in-Switch.is in
    search (rules, same)
