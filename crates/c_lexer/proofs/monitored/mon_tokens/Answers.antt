use Rattle.std.proofs.Common.{◌+◌, length, map, drop, sym, ap, ◌∙◌, arith, length-drop, length-take}
use Rattle.c_syntax.specs.Tokens.{plain_token}
use Rattle.c_model.specs.MonitoredTokens.{monitored_tokens, pieces_of, build, cut}
use Rattle.c_lexer.specs.Reading.{spelled, read_of}
use Rattle.c_lexer.proofs.Turns.{goes_on, breaks, ends, gives, refuses}
use Rattle.c_lexer.proofs.monitored.mon_tokens.Goals as goal

pub turn-init : goal.turn-init
unfolding monitored_tokens
turn-init c = record {
  same = λ i. build (record { names = spelled (c.new-2.ensures.empty i); list = map plain_token (c.new.ensures.items i) }) (pieces_of c.args.text.now);
  within = omega arith;
  offset = omega arith;
  line = omega arith;
  column = omega arith;
  few = omega (arith, ap (λ ks. length (spelled ks)) c.new-2.ensures.empty);
}

pub returns-in-Err : goal.returns-in-Err
returns-in-Err c =
    let left = ap length c.behind-rest.ensures in
    let len = length-drop c.turn.pos c.args.text.now in
    record {
      exact = refuses c.refuse.result _ _ c.refuse.ensures (breaks (read_of c.turn.reading) c.turn.place c.turn.fresh c.args.text.now c.behind-rest.result.now c.turn.pos c.in-Err.fault _ c.behind-rest.ensures (omega arith)
          (sym c.in-Err.ensures.value) c.turn.invariant.same);
    }

pub turn-preserved : goal.turn-preserved
turn-preserved c =
    let left = ap length c.behind-rest.ensures in
    let len = length-drop c.turn.pos c.args.text.now in
    let taken = ap length c.front-bytes.ensures in
    let w = c.in-Ok.ensures.within in
    record {
      same =
          (λ i. build (read_of c.add.new.reading) (cut 0 (c.walk-place.ensures.value i) (c.fresh_after-fresh.ensures i) (drop (c.turn.pos + (c.in-Ok.field-0.more + 1)) c.args.text.now)))
          ∙ goes_on (read_of c.turn.reading) (read_of c.add.new.reading) c.turn.place c.turn.fresh c.args.text.now c.behind-rest.result.now c.front-bytes.result.now c.turn.pos c.in-Ok.field-0.more c.in-Ok.field-0.piece _ c.behind-rest.ensures
          c.in-Ok.ensures.within (sym c.in-Ok.ensures.value) c.front-bytes.ensures c.in_ok-add-in-Ok.ensures.ok c.turn.invariant.same;
      within = omega arith;
      offset = omega (arith, length-take (c.in-Ok.field-0.more + 1) c.behind-rest.result.now);
      line = omega (arith, length-take (c.in-Ok.field-0.more + 1) c.behind-rest.result.now);
      column = omega (arith, length-take (c.in-Ok.field-0.more + 1) c.behind-rest.result.now);
      few = omega (arith, c.in_ok-add-in-Ok.ensures.one);
    }

pub returns : goal.returns
returns c = record { exact = gives _ _ c.finish.result (ends (read_of c.turn.reading) c.turn.place c.turn.fresh c.args.text.now c.turn.pos _ (omega (arith, length-drop c.turn.pos c.args.text.now)) c.turn.invariant.same) c.finish.ensures }
