use Rattle.std.proofs.Common.{◌++◌, ◌+◌, drop, List, ℕ, length, sym, ap, ◌∙◌, arith, length-drop, is_ok}
use Rattle.std.proofs.ResultArms.{chosen}
use Rattle.c_model.specs.Literals.{string_bytes}
use Rattle.c_lexer.proofs.Strings.{bytes_turn}
use Rattle.c_lexer.proofs.source.chars.string_bytes.Goals as goal

pub turn-preserved : goal.turn-preserved
turn-preserved c =
    let pushed = chosen _ _ _ _ c.push.ensures.items (ap is_ok c.in_ok-push.was) in
    record {
      so_far = ap (λ (t : List ℕ). t ++ string_bytes 0 (drop (c.turn.n + (c.in-Some.more + 1)) c.args.bytes.now)) pushed ∙ bytes_turn c.turn.values.items c.turn.n c.args.bytes.now c.behind-rest.result.now c.in-Some.byte c.in-Some.more _
          c.behind-rest.ensures (sym c.if-begins_with.ensures.value) (sym c.in-Some.ensures.value) c.turn.invariant.so_far;
      within = omega (arith, c.in-Some.ensures.within, ap length c.behind-rest.ensures, length-drop c.turn.n c.args.bytes.now);
    }
