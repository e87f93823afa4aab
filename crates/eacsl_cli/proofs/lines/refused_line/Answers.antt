use Rattle.std.proofs.Common.{◌++◌, ◌∙◌, ap}
use Rattle.eacsl_cli.proofs.Joined.{refused_joined}
use Rattle.eacsl_cli.proofs.lines.refused_line.Goals as goal

pub returns : goal.returns
returns c =
    refused_joined _ _ _ _ c.in_ok-front.ensures.ok c.as_bytes.ensures.value c.in_ok-bytes.ensures.items (c.in_ok-extend_from_slice.ensures.items ∙ ap (λ l. c.in_ok-bytes.bytes.items ++ l) c.bytes.ensures) c.in_ok-push.ensures.items
