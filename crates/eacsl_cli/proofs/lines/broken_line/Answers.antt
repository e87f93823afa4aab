use Rattle.std.proofs.Common.{◌++◌, ◌∙◌, ap}
use Rattle.eacsl_cli.proofs.Joined.{broken_joined}
use Rattle.eacsl_cli.proofs.lines.broken_line.Goals as goal

pub returns : goal.returns
returns c =
    broken_joined _ _ _ _ c.in_ok-front.ensures.ok c.as_bytes.ensures.value c.in_ok-bytes.ensures.items
    (c.in_ok-extend_from_slice.ensures.items ∙ ap (λ l. c.in_ok-bytes.bytes.items ++ l) (c.as_bytes-2.ensures.value ∙ c.kind_word.ensures))
    c.in_ok-extend_from_slice-2.ensures.items
    (c.in_ok-extend_from_slice-3.ensures.items ∙ ap (λ l. c.extend_from_slice-2.new.self.items ++ l) (c.as_bytes-3.ensures.value ∙ c.how_word.ensures))
    c.in_ok-push.ensures.items
