use Rattle.std.proofs.Common.{rules}
use Rattle.std.proofs.lemmas.List.Sorted.{IsNonDecreasingBy-from_sort_by_key, answers_always}
use Rattle.c_typing.proofs.Items.{offset_of, sorted_items}
use Rattle.c_typing.proofs.order.sort.Goals as goal

pub returns : goal.returns
returns c =
    sorted_items _ _ (IsNonDecreasingBy-from_sort_by_key offset_of _ c.in_ok-sort_by_key.ensures.sorted (λ a r q k. search rules))
    (c.sort_by_key.ensures.stable offset_of (answers_always _ _ _ (λ f a r g h. search rules)))
