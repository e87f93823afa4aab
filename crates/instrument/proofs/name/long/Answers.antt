use Rattle.std.proofs.Common.{◌++◌, ◌∙◌, ap, take, codes, append_assoc}
use Rattle.std.specs.Fmt.{decimal}
use Rattle.instrument.proofs.name.long.Goals as goal

pub returns : goal.returns
returns c =
    let word = c.args.word.now in
    let digits = decimal c.args.number in
    let name = c.args.name.now in
    c.new.ensures ∙ c.truncate.ensures.items
    ∙ ap (take 255) (c.in_ok-extend_from_slice.ensures.items ∙ ap (λ l. l ++ name) (c.in_ok-push.ensures.items ∙ ap (λ l. l ++ codes "_") c.in_ok-bytes.ensures) ∙ append_assoc (word ++ digits) (codes "_") name
    ∙ append_assoc word digits (codes "_" ++ name))
