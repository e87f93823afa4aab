use Rattle.std.proofs.Common.{◌≡◌, ◌∙◌, ◌++◌, [], ap, map, rules}
use Rattle.c_syntax.specs.Programs.{plain_program}
use Rattle.c_model.specs.UnitTyping.{in_order}
use Rattle.c_typing.specs.Files.{plain_file_item}
use Rattle.c_typing.proofs.Items.{by_kind, by_kind_is}
use Rattle.c_typing.proofs.order.take_items.Goals as goal

pub returns-clause-items : goal.returns-clause-items
returns-clause-items c =
    let p = plain_program c.args.program.now in
    let none : c.new-items.result.items ≡ [] = search rules in
    c.in_ok-sort.ensures ∙ ap in_order c.in_ok-take_all.ensures.items ∙ ap (λ xs. in_order (map plain_file_item xs ++ by_kind p)) none ∙ by_kind_is p
