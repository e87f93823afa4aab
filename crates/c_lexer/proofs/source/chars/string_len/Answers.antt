use Rattle.std.proofs.Common.{length, sym, ap, arith, length-drop}
use Rattle.c_lexer.proofs.Strings.{len_turn}
use Rattle.c_lexer.proofs.source.chars.string_len.Goals as goal

pub turn-preserved : goal.turn-preserved
turn-preserved c = record {
  so_far = len_turn c.args.mode c.turn.n c.args.bytes.now c.behind-rest.result.now c.in-Some.field-0-0 c.in-Some.more _ c.behind-rest.ensures (sym c.if-begins_with.ensures.value) (sym c.in-Some.ensures.value) c.turn.invariant.so_far;
  within = omega (arith, c.in-Some.ensures.within, ap length c.behind-rest.ensures, length-drop c.turn.n c.args.bytes.now);
}
