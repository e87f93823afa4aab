use Rattle.std.proofs.Common.{[]}
use Rattle.c_syntax.specs.Logic.{plain_annot}
use Rattle.mon_syntax.specs.Trees.{plain_expr, plain_stmt_kind, plain_stmts}
use Rattle.c_effects.proofs.Trees.{on_ok_then}
use Rattle.annot_code.specs.Judged.{judgement_of}
use Rattle.annot_pieces.proofs.Rust.{asserted_is}
use Rattle.annot_code.proofs.assertion.assert_judged.Goals as goal

pub returns-clause-code : goal.returns-clause-code
returns-clause-code c =
    on_ok_then c.then.result
    (λ last. asserted_is (plain_stmts c.args.to.now.items) (plain_stmts c.then_all.new.to.items) (plain_stmts c.then.new.to.items) (judgement_of c.args.judged []) (plain_annot c.args.annot.now)
    (plain_expr c.in_ok-flag.flag) (plain_expr c.in_ok-truth.truth) (plain_stmt_kind c.assert_of-kind.result) c.in_ok-then_all.ensures c.in_ok-flag.ensures c.in_ok-truth.ensures c.assert_of-kind.ensures.code last)
    c.then.ensures
