use Rattle.std.proofs.Common.{◌≡◌, ℕ, ◌≤◌, drop, map, nat_eq}
use Rattle.indexmap.specs.IndexMap.{get}
use Rattle.c_syntax.specs.Programs.{plain_func}
use Rattle.mon_syntax.specs.Indices.{index_of}
use Rattle.mon_syntax.specs.Indices.{index_from}
use Rattle.mon_syntax.proofs.definition.Definitions.new.Given as goal

abbrev pub invariant-funcs : goal.invariant-funcs
invariant-funcs l =
    ((n : ℕ) → index_from (get nat_eq l.indices n) l.count (index_of n (map plain_func (drop l.f-index l.f-items))) ≡ index_of n (map plain_func l.f-items))
    × (l.count ≤ l.f-index)
