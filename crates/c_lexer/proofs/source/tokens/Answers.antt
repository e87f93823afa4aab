use Rattle.std.proofs.Common.{◌+◌, length, map, drop, sym, ap, ◌∙◌, arith, length-drop, length-take}
use Rattle.std.proofs.lemmas.Bool.{le-ltb, lt-ltb}
use Rattle.std.proofs.lemmas.List.{length-map}
use Rattle.c_syntax.specs.Tokens.{plain_token}
use Rattle.c_model.specs.Pieces.{pieces_of, cut}
use Rattle.c_model.specs.CTokens.{tokens_of, build}
use Rattle.c_lexer.specs.Reading.{spelled, read_of}
use Rattle.c_lexer.proofs.Turns.{gives, refuses}
use Rattle.c_lexer.proofs.CTurns.{goes_on, too_many, breaks, ends}
use Rattle.c_lexer.proofs.source.tokens.Goals as goal

pub turn-init : goal.turn-init
unfolding tokens_of
turn-init c = record {
  same = λ i. build (record { names = spelled (c.new-2.ensures.empty i); list = map plain_token (c.new.ensures.items i) }) (pieces_of c.args.text.now);
  within = omega arith;
  offset = omega arith;
  line = omega arith;
  column = omega arith;
  fewer = omega (arith, c.new.ensures.len, ap (λ ks. length (spelled ks)) c.new-2.ensures.empty);
  room = omega (arith, c.new.ensures.len);
}

pub returns-in-Err : goal.returns-in-Err
returns-in-Err c =
    let left = ap length c.behind-rest.ensures in
    let len = length-drop c.turn.pos c.args.text.now in
    record {
      exact = refuses c.refuse.result _ _ c.refuse.ensures (breaks (read_of c.turn.reading) c.turn.place c.turn.fresh c.turn.mode c.args.text.now c.behind-rest.result.now c.turn.pos c.in-Err.fault _ c.behind-rest.ensures (omega arith)
          (sym c.in-Err.ensures.value) c.turn.invariant.same);
    }

pub returns-then-len-gt-MOST_TOKENS : goal.returns-then-len-gt-MOST_TOKENS
returns-then-len-gt-MOST_TOKENS c = record {
  exact = refuses c.refuse-then-len-gt-MOST_TOKENS.result _ _ c.refuse-then-len-gt-MOST_TOKENS.ensures (too_many (read_of c.turn.reading) (read_of c.add.new.reading) c.turn.place c.turn.fresh c.turn.mode c.args.text.now c.behind-rest.result.now
      c.front-bytes.result.now c.turn.pos c.in-Ok.field-0.more c.in-Ok.field-0.piece _ c.behind-rest.ensures c.in-Ok.ensures.within (sym c.in-Ok.ensures.value) c.front-bytes.ensures c.in_ok-add-in-Ok.ensures.ok
      (lt-ltb _ _ (omega (arith, length-map c.add.new.reading.list.items plain_token, c.len.ensures))) c.turn.invariant.same);
}

pub turn-preserved : goal.turn-preserved
turn-preserved c =
    let left = ap length c.behind-rest.ensures in
    let len = length-drop c.turn.pos c.args.text.now in
    let taken = ap length c.front-bytes.ensures in
    let w = c.in-Ok.ensures.within in
    record {
      same =
          (λ i. build (read_of c.add.new.reading) (cut 0 (c.walk-place.ensures.value i) (c.fresh_after-fresh.ensures i) (c.mode_after-mode.ensures i) (drop (c.turn.pos + (c.in-Ok.field-0.more + 1)) c.args.text.now)))
          ∙ goes_on (read_of c.turn.reading) (read_of c.add.new.reading) c.turn.place c.turn.fresh c.turn.mode c.args.text.now c.behind-rest.result.now c.front-bytes.result.now c.turn.pos c.in-Ok.field-0.more c.in-Ok.field-0.piece _
          c.behind-rest.ensures c.in-Ok.ensures.within (sym c.in-Ok.ensures.value) c.front-bytes.ensures c.in_ok-add-in-Ok.ensures.ok (le-ltb _ _ (omega (arith, length-map c.add.new.reading.list.items plain_token, c.len.ensures)))
          c.turn.invariant.same;
      within = omega arith;
      offset = omega (arith, length-take (c.in-Ok.field-0.more + 1) c.behind-rest.result.now);
      line = omega (arith, length-take (c.in-Ok.field-0.more + 1) c.behind-rest.result.now);
      column = omega (arith, length-take (c.in-Ok.field-0.more + 1) c.behind-rest.result.now);
      fewer = c.in_ok-add-in-Ok.ensures.fewer;
      room = omega (arith, c.len.ensures);
    }

pub returns : goal.returns
returns c = record { exact = gives _ _ c.finish.result (ends (read_of c.turn.reading) c.turn.place c.turn.fresh c.turn.mode c.args.text.now c.turn.pos _ (omega (arith, length-drop c.turn.pos c.args.text.now)) c.turn.invariant.same) c.finish.ensures }
