use Rattle.std.proofs.Common.{[], ap, ◌∙◌, arith}
use Rattle.shadow_segments.specs.Words.{nothing, pair_at, words_by}
use Rattle.shadow_segments.proofs.Pairs.{words_none, at_behind}
use Rattle.std.proofs.lemmas.List.{get_or_past}
use Rattle.shadow_segments.proofs.words.Words.new.Goals as goal

pub returns : goal.returns
returns c =
    ap (λ units. words_by c.args.units (pair_at units 0 0 nothing)) c.in_ok-with_capacity.ensures.items
    ∙ words_none c.args.units (pair_at [] 0 0 nothing) (λ u. at_behind [] 0 0 u nothing (omega arith) ∙ get_or_past [] u nothing (omega arith))
