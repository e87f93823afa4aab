use Rattle.mon_typing.proofs.Headers.{next_first, next_headers}
use Rattle.mon_typing.proofs.header.Functions.new.Goals as goal

pub each-preserved : goal.each-preserved
each-preserved c = record {
  headers = next_headers c.args.list.now c.each.f-index c.f-item.result c.each.headers.items c.note_function.new.headers.items c.each-test.true c.f-item.is c.in_ok-note_function.ensures.headers c.each.invariant.headers;
  firsts = next_first c.each.headers.items c.note_function.new.headers.items _ c.each.firsts.entries c.note_function.new.firsts.entries c.in_ok-note_function.ensures.headers c.in_ok-note_function.ensures.firsts c.each.invariant.firsts;
}
