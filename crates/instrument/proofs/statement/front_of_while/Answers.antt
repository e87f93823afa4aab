use Rattle.std.proofs.Common.{ap, ◌∙◌, map}
use Rattle.c_syntax.specs.Logic.{plain_annot}
use Rattle.c_syntax.specs.Expressions.{plain_expr}
use Rattle.mon_syntax.specs.Trees.{plain_stmts}
use Rattle.c_effects.specs.Expressions.{before}
use Rattle.c_effects.specs.Full.{takes}
use Rattle.c_effects.specs.Named.{unit_of, with_registers}
use Rattle.annot_pieces.specs.Tables.{plain_plan}
use Rattle.instrument.specs.LoopForms.{invariants_by}
use Rattle.instrument.specs.Options.{test_by}
use Rattle.instrument.proofs.statement.front_of_while.Goals as goal

pub returns-clause-code : goal.returns-clause-code
returns-clause-code c =
    let e = plain_expr c.args.e.now in
    let code = invariants_by (plain_plan c.args.plan.now.kept.now) c.args.names.now (map plain_annot c.args.annots.now) in
    let first = c.in_ok-invariants.ensures.code ∙ ap (λ l. before (plain_stmts l) code) c.new-front.ensures.items in
    c.in_ok-leave_unless.ensures.code ∙ ap (λ a. before a (test_by c.invariants.new.names c.args.loops e)) first
    ∙ ap (λ m. before code (test_by m c.args.loops e)) c.in_ok-invariants.ensures.names

pub returns-clause-names : goal.returns-clause-names
returns-clause-names c =
    c.in_ok-leave_unless.ensures.names ∙ ap (λ m. with_registers (takes (unit_of m) (plain_expr c.args.e.now)) m) c.in_ok-invariants.ensures.names
