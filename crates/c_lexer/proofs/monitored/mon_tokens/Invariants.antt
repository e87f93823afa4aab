use Rattle.std.proofs.Common.{◌≡◌, ◌≤◌, ◌+◌, ◌-◌, length, drop}
use Rattle.c_model.specs.MonitoredTokens.{build, cut, monitored_tokens}
use Rattle.c_lexer.specs.Reading.{seen, read_of}
use Rattle.c_lexer.proofs.monitored.mon_tokens.Given as goal

abbrev pub invariant-turn : goal.invariant-turn
invariant-turn l = record {
  same : build (read_of l.reading) (cut 0 l.place l.fresh (drop l.pos l.text)) ≡ monitored_tokens l.text;
  within : l.pos ≤ length l.text;
  offset : l.place.offset ≡ l.pos;
  line : l.place.line ≤ l.pos + 1;
  column : l.place.column ≤ l.pos + 1;
  few : length (seen l.reading.names) ≤ l.pos;
}

abbrev pub decreases-turn : goal.decreases-turn
decreases-turn l = length l.text - l.pos
