use Rattle.std.proofs.Common.{◌+◌, drop, nat_eq, refl, ap, sym, ◌∙◌}
use Rattle.indexmap.specs.IndexMap.{get}
use Rattle.annot_simulation.specs.Held.{kept_at}
use Rattle.annot_pieces.specs.Tables.{first_of, plain_plan, register_in}
use Rattle.c_effects.proofs.Sequences.{left_at}
use Rattle.annot_pieces.proofs.Stored.{noted}
use Rattle.annot_pieces.proofs.plan.Plan.new.Goals as goal

pub turn-preserved : goal.turn-preserved
turn-preserved c = λ x.
    let ks = c.args.kept.now in
    let rest = plain_plan (drop (c.turn.entry-index + 1) ks) in
    let left = left_at plain_plan ks c.turn.entry-index _ _ c.turn-test.true c.entry-item.is refl in
    noted x (get nat_eq c.turn.registers) (get nat_eq c.note.new.registers) c.entry-item.result rest (c.in_ok-note.ensures x)
    ∙ ap (λ l. first_of (get nat_eq c.turn.registers x) (register_in (kept_at x l))) (sym left) ∙ c.turn.invariant x
