use Rattle.std.proofs.Common.{◌++◌, ◌∷◌, [], map, ap, ◌∙◌}
use Rattle.std.proofs.lemmas.List.{map-append}
use Rattle.mon_syntax.specs.Checking.{Header}
use Rattle.mon_typing.specs.Headers.{plain_header}
use Rattle.mon_typing.proofs.header.note_function.Goals as goal

pub returns-clause-headers : goal.returns-clause-headers
returns-clause-headers c =
    ap (map plain_header) c.in_ok-push.ensures.items ∙ map-append plain_header c.args.headers.now.items (c.in_ok-header_of.field-0 ∷ [])
    ∙ ap (λ (h : Header). map plain_header c.args.headers.now.items ++ h ∷ []) c.in_ok-header_of.ensures
