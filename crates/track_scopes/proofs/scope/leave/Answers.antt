use Rattle.std.proofs.Common.{map, refl, reverse, sym, ap, ◌++◌, ◌-◌, take, ◌∙◌, subst, arith}
use Rattle.mon_syntax.specs.Trees.{plain_stmt}
use Rattle.track_scopes.specs.Blocks.{death}
use Rattle.track_scopes.specs.Lives.{EndLives}
use Rattle.track_scopes.proofs.Sequences.{deaths_are, death_pushed, all_pushed, none_pushed}
use Rattle.track_scopes.proofs.Deaths.{deaths_end}
use Rattle.track_scopes.proofs.scope.leave.Goals as goal

pub returns-clause-deaths : goal.returns-clause-deaths
returns-clause-deaths c =
    deaths_are c.each.code.items (reverse c.args.blocks.now)
    (all_pushed c.each.code.items c.args.blocks.now c.each.left _ (omega (arith, c.each-test.false)) c.each.invariant.pushed)

pub returns-clause-leaves : goal.returns-clause-leaves
returns-clause-leaves c =
    subst (EndLives (reverse c.args.blocks.now)) (sym (returns-clause-deaths c)) (deaths_end (reverse c.args.blocks.now))

pub each-init : goal.each-init
each-init c = record {
  pushed = none_pushed c.in_ok-code.code.items c.args.blocks.now _ c.in_ok-code.ensures.items refl;
  inside = omega arith;
}

pub each-preserved : goal.each-preserved
each-preserved c = record {
  pushed =
      ap (λ l. map plain_stmt l ++ map death (reverse (take (c.each.left - 1) c.args.blocks.now))) c.in_ok-push.ensures.items
      ∙ death_pushed c.each.code.items _ c.args.blocks.now c.each.left 0 _ _ c.each-test.true c.each.invariant.inside refl c.in_ok-death.ensures c.each.invariant.pushed;
  inside = omega (arith, c.each.invariant.inside);
}
