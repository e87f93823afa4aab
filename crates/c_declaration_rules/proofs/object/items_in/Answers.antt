use Rattle.std.proofs.Common.{◌≡◌, ◌∙◌, ap, sym, rules, length}
use Rattle.c_syntax.specs.Statements.{plain_init}
use Rattle.c_syntax.proofs.Rows.{many_is}
use Rattle.c_model.specs.DeclarationTyping.{items_in}
use Rattle.c_declaration_rules.proofs.Lists.{count_is}
use Rattle.c_declaration_rules.proofs.object.items_in.Goals as goal

pub returns-in-Many : goal.returns-in-Many
returns-in-Many c =
    let len : c.len.result ≡ length c.in-Many.items.items = search rules in
    len ∙ sym (ap (λ i. items_in (plain_init i)) c.in-Many.is ∙ ap items_in (many_is c.in-Many.field-0 c.in-Many.items) ∙ count_is c.in-Many.items.items)
