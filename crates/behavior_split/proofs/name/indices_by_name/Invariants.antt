use Rattle.std.proofs.Common.{◌≡◌, ℕ, map, drop, nat_eq}
use Rattle.indexmap.specs.IndexMap.{get}
use Rattle.c_syntax.specs.Programs.{plain_behavior}
use Rattle.behavior_split.specs.Names.{index_from, index_named, first_of}
use Rattle.behavior_split.proofs.name.indices_by_name.Given as goal

-- with those that are left each name has its index
abbrev pub invariant-loop-index : goal.invariant-loop-index
invariant-loop-index l =
    (x : ℕ) → first_of (get nat_eq l.indices x) (index_from x l.index (map plain_behavior (drop l.index l.behaviors))) ≡ index_named x (map plain_behavior l.behaviors)
