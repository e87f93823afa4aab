-- Ours: C99 7.20.3 leaves it open how a place is found.
-- The tree over the lengths of a segment's gaps. Its lower part is cut into blocks, each a tree of its own.
use Rattle.std.specs.Prelude.{◌≡◌, ℕ, ◌+◌, ◌*◌, ◌/◌, ◌%◌, ◌^◌, ◌<◌, ◌≤◌, max, List, [], length, get_or, drop, map}
use Rattle.std.specs.List.{range_with_len}

-- Each node has the greater of the two lengths below it. The leaves are the last 2 ^ depth nodes.
pub record IsTree (depth : ℕ) (nodes : List ℕ) : Type 0 where
  pub size : length nodes ≡ 2 * 2 ^ depth
  pub longest : (node : ℕ) → 0 < node → node < 2 ^ depth → get_or nodes node 0 ≡ max (get_or nodes (2 * node) 0) (get_or nodes (2 * node + 1) 0)

-- The leaf of a unit: each block has 1,024 of them.
abbrev pub leaf_at : List (List ℕ) → ℕ → ℕ
leaf_at blocks unit = get_or (get_or blocks (unit / 1024) []) (1024 + unit % 1024) 0

-- The leaves of so many units. A block that isn't there has zeros.
unfoldable pub leaves_of : ℕ → List (List ℕ) → List ℕ
leaves_of n blocks = map (leaf_at blocks) (range_with_len 0 n)

-- Blocks, and a tree over their roots.
pub record AreTrees (depth : ℕ) (top : List ℕ) (blocks : List (List ℕ)) : Type 0 where
  pub small : depth ≤ 14
  pub above : IsTree depth top
  pub each : (block : ℕ) → block < length blocks → IsTree 10 (get_or blocks block [])
  pub roots : (block : ℕ) → get_or (drop (2 ^ depth) top) block 0 ≡ get_or (get_or blocks block []) 1 0
  pub inside : length blocks ≤ 2 ^ depth
