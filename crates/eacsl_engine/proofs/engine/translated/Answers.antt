use Rattle.c_syntax.specs.Programs as source
use Rattle.eacsl_engine.proofs.engine.translated.Goals as goal

pub returns : goal.returns
returns c = record {
  translated = record { program = source.plain_program c.in-Ok.program; accepted = c.in-Ok.ensures.accepted; translates = c.in_ok-made.ensures.translates };
  count = c.in_ok-made.ensures.count;
}
