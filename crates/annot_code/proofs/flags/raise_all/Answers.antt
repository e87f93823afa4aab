use Rattle.std.proofs.Common.{◌≡◌, suc, ◌+◌, pos, drop, map, refl, ap, sym, ◌∙◌}
use Rattle.c_syntax.specs.Programs.{plain_behavior}
use Rattle.mon_syntax.specs.declared.tree.MonType.TheVariants.{I32}
use Rattle.mon_syntax.specs.Trees.{Constant, Set, plain_stmts}
use Rattle.c_effects.specs.Expressions.{before, one}
use Rattle.c_effects.proofs.Sequences.{all_there, left_at, more, none_left}
use Rattle.annot_simulation.specs.ContractCode.{all_flagged}
use Rattle.annot_pieces.proofs.Rust.{next_is}
use Rattle.annot_code.proofs.flags.raise_all.Goals as goal

pub returns : goal.returns
returns c = all_there (none_left (λ l. all_flagged c.turn.flag (map plain_behavior l)) c.args.behaviors.now c.turn.index c.turn-test.false) c.turn.invariant

pub turn-preserved : goal.turn-preserved
turn-preserved c =
    let bs = c.args.behaviors.now in
    let flag = c.turn.flag in
    let t = plain_stmts c.turn.to.items in
    let rest = map plain_behavior (drop (c.turn.index + 1) bs) in
    let raised = one (Set flag (Constant I32 (pos 1))) in
    let next : suc flag ≡ c.in_ok-flag.flag = next_is flag ∙ sym c.in_ok-flag.ensures in
    let left = left_at (λ l. all_flagged flag (map plain_behavior l)) bs c.turn.index _ _ c.turn-test.true c.turn-item.is refl in
    more t raised (all_flagged c.in_ok-flag.flag rest) (left ∙ ap (λ k. before raised (all_flagged k rest)) next) (c.in_ok-then.ensures ∙ ap (λ e. before t (one (Set flag e))) c.in_ok-one.ensures)
    c.turn.invariant
