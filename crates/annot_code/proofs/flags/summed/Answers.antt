use Rattle.std.proofs.Common.{◌≡◌, suc, ◌+◌, ◌∷◌, [], drop, get_or, ap, ◌∙◌, arith}
use Rattle.std.proofs.Math.Seq.{drop-cons}
use Rattle.mon_syntax.specs.Trees.{plain_stmts}
use Rattle.c_effects.proofs.Sequences.{all_there, more, none_left}
use Rattle.annot_simulation.specs.ContractCode.{summed}
use Rattle.annot_code.proofs.flags.summed.Goals as goal

pub returns : goal.returns
returns c = all_there (none_left (summed c.args.sum) c.args.flags.now c.turn.flag-index c.turn-test.false) c.turn.invariant

pub turn-preserved : goal.turn-preserved
turn-preserved c =
    let l = c.args.flags.now in
    let i = c.turn.flag-index in
    let next : suc i ≡ i + 1 = omega arith in
    let left = ap (summed c.args.sum) (drop-cons l i 0 c.turn-test.true) ∙ ap (λ j. summed c.args.sum (get_or l i 0 ∷ drop j l)) next in
    more (plain_stmts c.turn.to.items) (summed c.args.sum (get_or l i 0 ∷ [])) (summed c.args.sum (drop (i + 1) l)) left c.in_ok-add_flag.ensures c.turn.invariant
