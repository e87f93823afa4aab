use Rattle.std.proofs.Common.{[]}
use Rattle.c_syntax.specs.Logic.{plain_annot}
use Rattle.mon_syntax.specs.Trees.{plain_expr, plain_stmt_kind, plain_stmts}
use Rattle.c_effects.proofs.Trees.{on_ok_then}
use Rattle.annot_code.specs.Judged.{judgement_of}
use Rattle.annot_code.proofs.Checks.{assumed_is}
use Rattle.annot_code.proofs.contract.assume_judged.Goals as goal

pub returns-clause-code : goal.returns-clause-code
returns-clause-code c =
    on_ok_then c.then-2.result
    (λ last. assumed_is (plain_stmts c.args.to.now.items) (plain_stmts c.then_all.new.to.items) (plain_stmts c.then.new.to.items) (plain_stmts c.then-2.new.to.items) (judgement_of c.args.judged [])
    (plain_annot c.args.annot.now) c.args.flag (plain_expr c.in_ok-says.says) (plain_expr c.in_ok-always.always) (plain_expr c.in_ok-truth.truth) (plain_stmt_kind c.assert_of-kind.result) c.in_ok-then_all.ensures
    c.in_ok-says.ensures c.in_ok-always.ensures c.in_ok-truth.ensures c.assert_of-kind.ensures.code c.in_ok-then.ensures last)
    c.then-2.ensures
