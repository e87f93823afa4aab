use Rattle.std.proofs.Common.{rules}
use Rattle.c_function_rules.proofs.function.type_body.Goals as goal

pub returns-in-Some-clause-typed : goal.returns-in-Some-clause-typed
returns-in-Some-clause-typed c =
    let h = c.type_body_kind.ensures.typed c.in-Some.s.place in
    search (rules, h)
