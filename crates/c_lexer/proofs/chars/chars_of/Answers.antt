use Rattle.std.proofs.Common.{ap, is_ok}
use Rattle.std.proofs.ResultArms.{chosen}
use Rattle.c_lexer.proofs.Characters.{values_turn}
use Rattle.c_lexer.proofs.chars.chars_of.Goals as goal

pub turn-preserved : goal.turn-preserved
turn-preserved c =
    let pushed = chosen _ _ _ _ c.push.ensures.items (ap is_ok c.in_ok-push.was) in
    values_turn c.turn.values.items c.push.new.self.items c.in-Some.found.0 c.turn.rest.now _ c.behind-rest.result.now _ pushed c.in-Some.ensures.value c.behind-rest.ensures c.turn.invariant
