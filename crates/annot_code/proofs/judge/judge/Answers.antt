use Rattle.std.proofs.Common.{ap, ◌∙◌}
use Rattle.c_syntax.specs.Logic.{plain_pred}
use Rattle.annot_pieces.specs.Plain.{plain_readings, plain_stored, stored_with}
use Rattle.annot_code.proofs.Judged.{of_inside, of_judgement, of_judges, of_valid}
use Rattle.annot_code.proofs.judge.judge.Goals as goal

pub returns-clause-judges : goal.returns-clause-judges
returns-clause-judges c =
    let known = ap (stored_with c.args.stored.now) (ap plain_readings (c.deref.ensures.value ∙ c.new-readings.ensures.items)) in
    of_judges c.judged_with.result c.judged_with.new.names.table.kinds c.args.names.now (plain_pred c.args.p.now) (plain_stored c.args.stored.now)
    (of_judgement c.judged_with.result c.judged_with.new.names.table.kinds c.args.names.now (plain_pred c.args.p.now) (plain_stored c.args.stored.now) c.in_ok-c.c
    c.pred_code.new.names.table.kinds (stored_with c.args.stored.now (plain_readings c.deref.result.now)) known
    c.in_ok-c.ensures.code c.judged_with.ensures.code)

pub returns-clause-valid : goal.returns-clause-valid
returns-clause-valid c =
    let known = ap (stored_with c.args.stored.now) (ap plain_readings (c.deref.ensures.value ∙ c.new-readings.ensures.items)) in
    of_valid c.judged_with.result c.judged_with.new.names.table.kinds c.args.names.now (plain_pred c.args.p.now) (plain_stored c.args.stored.now)
    (of_judgement c.judged_with.result c.judged_with.new.names.table.kinds c.args.names.now (plain_pred c.args.p.now) (plain_stored c.args.stored.now) c.in_ok-c.c
    c.pred_code.new.names.table.kinds (stored_with c.args.stored.now (plain_readings c.deref.result.now)) known
    c.in_ok-c.ensures.code c.judged_with.ensures.code)

pub returns-clause-inside : goal.returns-clause-inside
returns-clause-inside c =
    let known = ap (stored_with c.args.stored.now) (ap plain_readings (c.deref.ensures.value ∙ c.new-readings.ensures.items)) in
    of_inside c.judged_with.result c.judged_with.new.names.table.kinds c.args.names.now (plain_pred c.args.p.now) (plain_stored c.args.stored.now)
    (of_judgement c.judged_with.result c.judged_with.new.names.table.kinds c.args.names.now (plain_pred c.args.p.now) (plain_stored c.args.stored.now) c.in_ok-c.c
    c.pred_code.new.names.table.kinds (stored_with c.args.stored.now (plain_readings c.deref.result.now)) known
    c.in_ok-c.ensures.code c.judged_with.ensures.code)
