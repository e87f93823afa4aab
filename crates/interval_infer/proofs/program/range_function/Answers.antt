use Rattle.interval_infer.proofs.FunctionRows.{function_of}
use Rattle.interval_infer.proofs.program.range_function.Goals as goal

pub returns-clause-ranged : goal.returns-clause-ranged
returns-clause-ranged c =
    function_of c.args.f.now c.range_maybe-contract.new.contract c.range_body-body.new.body c.range_maybe-contract.result c.range_body-body.result c.both.result
    c.range_maybe-contract.ensures.ranged c.range_body-body.ensures.ranged c.both.ensures.is
