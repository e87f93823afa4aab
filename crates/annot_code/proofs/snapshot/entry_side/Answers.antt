use Rattle.std.proofs.Common.{◌≡◌, ap, ◌∙◌}
use Rattle.std.proofs.lemmas.Result.{IfOk-weaker}
use Rattle.c_syntax.specs.Logic.{plain_term}
use Rattle.annot_pieces.specs.Plain.{Known, nothing_known, plain_readings, side_by_names, side_of}
use Rattle.annot_pieces.specs.Tables.{plain_helds, plain_plan}
use Rattle.annot_code.proofs.snapshot.entry_side.Goals as goal

pub returns-clause-code : goal.returns-clause-code
returns-clause-code c =
    let n = c.args.names.now in
    let t = plain_term c.args.t.now in
    let plan = c.in_ok-plan.ensures ∙ ap plain_plan (c.deref.ensures.value ∙ c.new-kept.ensures.items) in
    let held = ap plain_helds (c.deref-2.ensures.value ∙ c.new-held.ensures.items) in
    let readings = ap plain_readings (c.deref-3.ensures.value ∙ c.new-readings.ensures.items) in
    let known : Known = record { plan = plain_plan c.in_ok-plan.plan.kept.now; held = plain_helds c.deref-2.result.now; readings = plain_readings c.deref-3.result.now } in
    IfOk-weaker c.side_code.result (λ x. side_of x c.side_code.new.names.table.kinds ≡ side_by_names n t known) (λ x. side_of x c.side_code.new.names.table.kinds ≡ side_by_names n t nothing_known)
    (λ x h. h ∙ (λ i. side_by_names n t (record { plan = plan i; held = held i; readings = readings i }))) c.side_code.ensures.code
