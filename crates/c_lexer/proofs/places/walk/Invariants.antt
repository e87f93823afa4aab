use Rattle.std.proofs.Common.{◌≡◌, ◌≤◌, ◌+◌, drop}
use Rattle.c_model.specs.Places.{walk}
use Rattle.c_lexer.proofs.places.walk.Given as goal

abbrev pub invariant-loop-b : goal.invariant-loop-b
invariant-loop-b l = record {
  same : walk l.place (drop l.b-index l.bytes) ≡ walk l.fn.place l.bytes;
  line : l.place.line ≤ l.fn.place.line + l.b-index;
  column : l.place.column ≤ l.fn.place.column + l.b-index;
  offset : l.place.offset ≡ l.fn.place.offset + l.b-index;
}
