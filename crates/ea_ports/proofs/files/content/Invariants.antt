use Rattle.std.proofs.Common.{◌≡◌, drop}
use Rattle.ea_ports.specs.Files.{content_of, named_contents}
use Rattle.ea_ports.proofs.files.content.Given as goal

abbrev pub invariant-loop-own : goal.invariant-loop-own
invariant-loop-own l = content_of (named_contents l.files) l.name ≡ content_of (named_contents (drop l.own-index l.files)) l.name
