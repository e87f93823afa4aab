use Rattle.std.proofs.Common.{◌<◌, ◌∙◌, length, sym, ap, arith, map}
use Rattle.c_syntax.specs.Programs.{plain_func}
use Rattle.c_typing.specs.NotedContracts.{numbers_in}
use Rattle.c_typing.proofs.NotedContracts.{all_numbers, no_function, numbers_from}
use Rattle.c_typing.proofs.contract.parameter_numbers.Goals as goal

pub returns : goal.returns
returns c = λ x.
    let last : length c.turn.rest.now < 1 = omega (arith, c.in_default.len_below) in
    ap (λ fs. numbers_from (numbers_in c.turn.definitions x) (map plain_func fs) x) (sym (no_function c.turn.rest.now last)) ∙ c.turn.invariant x ∙ all_numbers (map plain_func c.args.funcs.now) x
