use Rattle.std.proofs.Common.{◌≡◌, ◌∙◌, ℕ, ap, map}
use Rattle.c_syntax.specs.Programs.{plain_func}
use Rattle.c_typing.specs.NotedContracts.{contracts_in, defined_numbers, numbers_in}
use Rattle.c_typing.proofs.NotedContracts.{all_given, once_left}
use Rattle.c_typing.proofs.contract.move_contracts.Goals as goal

pub give_contracts-requires : goal.give_contracts-requires
give_contracts-requires c =
    once_left (numbers_in c.in_ok-definitions.definitions) (map plain_func c.args.funcs.now.items) (map plain_func c.take_contracts.new.funcs.items) c.in_ok-contracts.ensures.left c.requires

pub returns : goal.returns
returns c =
    let all = map plain_func c.args.funcs.now.items in
    let told : (x : ℕ) → numbers_in c.in_ok-definitions.definitions x ≡ defined_numbers x all = λ x. c.in_ok-definitions.ensures x ∙ ap (λ fs. defined_numbers x (map plain_func fs)) c.deref.ensures.value in
    all_given (numbers_in c.in_ok-definitions.definitions) (contracts_in c.in_ok-contracts.contracts) all told c.in_ok-contracts.ensures.kept
    (map plain_func c.take_contracts.new.funcs.items) (map plain_func c.give_contracts.new.funcs.items) c.in_ok-contracts.ensures.left c.give_contracts.ensures
