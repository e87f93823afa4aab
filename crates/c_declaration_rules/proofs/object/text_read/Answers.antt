use Rattle.std.proofs.Common.{◌∙◌, ap, sym, length, option_map}
use Rattle.c_syntax.specs.Statements.{plain_init, plain_inits}
use Rattle.c_model.specs.DeclarationTyping.{text_read}
use Rattle.c_scopes.specs.Sights.{plain_sight}
use Rattle.c_declaration_rules.specs.Objects.{bytes_alone}
use Rattle.c_declaration_rules.proofs.Lists.{bytes_many}
use Rattle.c_declaration_rules.proofs.object.text_read.Goals as goal

pub returns-in-Many : goal.returns-in-Many
returns-in-Many c =
    let s = plain_sight c.args.sight.now in
    c.text_alone.ensures ∙ ap (λ l. bytes_alone s (plain_inits l)) c.as_slice.ensures.value ∙ bytes_many s c.in-Many.field-0 c.in-Many.items
    ∙ sym (ap (λ i. option_map length (text_read s (plain_init i))) c.in-Many.is)
