-- The blocks of the tree of gaps.
use Rattle.std.proofs.Common.{◌≡◌, ◌≢◌, ℕ, ◌+◌, ◌-◌, ◌*◌, ◌/◌, ◌%◌, ◌^◌, ◌<◌, ◌≤◌, ◌⊎◌, inl, inr, ⊎_elim, List, [], ◌++◌, max, length, get_or, set, drop, replicate, refl, sym, ap, ◌∙◌, subst, arith}
use Rattle.std.proofs.lemmas.Bool.{cases_lt, cases_eq}
use Rattle.std.proofs.lemmas.Nat.{one_shl}
use Rattle.std.proofs.lemmas.List.{ext_get_or, length-set, get_or-set_same, get_or-set_other, get_or_past, get_or-replicate}
use Rattle.std.proofs.lemmas.List.{length-replicate, get_or_append_left, get_or-append_right, get_or-drop, get_or_default, length-drop, set_past as list_set_past}
use Rattle.std.proofs.lemmas.List.FromFn.{length-map-range_with_len, get_or-map-range_with_len}
use Rattle.seg_heap.specs.Gaps.{IsTree, AreTrees, leaf_at, leaves_of}
use Rattle.seg_heap.proofs.Tree.{below, none_below, empty}

pub length-leaves_of : (n : ℕ) (blocks : List (List ℕ)) → length (leaves_of n blocks) ≡ n
unfolding leaves_of
length-leaves_of n blocks = length-map-range_with_len (leaf_at blocks) 0 n

get_or-leaves_of : (n : ℕ) (blocks : List (List ℕ)) (i : ℕ) → i < n → get_or (leaves_of n blocks) i 0 ≡ leaf_at blocks i
unfolding leaves_of
get_or-leaves_of n blocks i lt = get_or-map-range_with_len (leaf_at blocks) 0 n i i 0 lt (omega arith)

-- lists of leaves are equal if each leaf is
same_leaves : (n : ℕ) (blocks : List (List ℕ)) (leaves : List ℕ) → length leaves ≡ n → ((i : ℕ) → i < n → leaf_at blocks i ≡ get_or leaves i 0) → leaves_of n blocks ≡ leaves
same_leaves n blocks leaves long each =
    let size = length-leaves_of n blocks in
    ext_get_or 0 (leaves_of n blocks) leaves (size ∙ sym long) (λ i lt. let inside : i < n = omega (arith, lt, size) in get_or-leaves_of n blocks i inside ∙ each i inside)

-- a block that isn't there has no leaves
no_leaf : (blocks : List (List ℕ)) (unit : ℕ) → length blocks ≤ unit / 1024 → leaf_at blocks unit ≡ 0
no_leaf blocks unit ge = ap (λ b. get_or b (1024 + unit % 1024) 0) (get_or_past blocks (unit / 1024) [] ge) ∙ get_or_past {X = ℕ} [] (1024 + unit % 1024) 0 (omega arith)

-- a leaf, also one past the end
pub leaf_of : (depth : ℕ) (top : List ℕ) (blocks : List (List ℕ)) → AreTrees depth top blocks → (unit : ℕ) → get_or (leaves_of (1024 * 2 ^ depth) blocks) unit 0 ≡ leaf_at blocks unit
leaf_of depth top blocks trees unit = ⊎_elim
    (λ lt. get_or-leaves_of (1024 * 2 ^ depth) blocks unit lt)
    (λ ge. (let size = length-leaves_of (1024 * 2 ^ depth) blocks in
    get_or_past (leaves_of (1024 * 2 ^ depth) blocks) unit 0 (omega (arith, size, ge)) ∙ sym (no_leaf blocks unit (omega (arith, trees.inside, ge)))))
    (cases_lt unit (1024 * 2 ^ depth))

pub no_leaf_of : (depth : ℕ) (top : List ℕ) (blocks : List (List ℕ)) → AreTrees depth top blocks → (unit : ℕ) → length blocks ≤ unit / 1024 → 0 ≡ get_or (leaves_of (1024 * 2 ^ depth) blocks) unit 0
no_leaf_of depth top blocks trees unit ge = sym (leaf_of depth top blocks trees unit ∙ no_leaf blocks unit ge)

-- a leaf is at most as great as the leaf above its block
below_block : (depth : ℕ) (top : List ℕ) (blocks : List (List ℕ)) → AreTrees depth top blocks → (unit : ℕ) → leaf_at blocks unit ≤ get_or (drop (2 ^ depth) top) (unit / 1024) 0
below_block depth top blocks trees unit = ⊎_elim
    (λ lt. (let tree = trees.each (unit / 1024) lt in
    let one : (1024 + unit % 1024) / 2 ^ 10 ≡ 1 = omega arith in
    let up = below 10 (get_or blocks (unit / 1024) []) tree 10 (1024 + unit % 1024) (omega arith) (omega arith) in
    let root = ap (λ z. get_or (get_or blocks (unit / 1024) []) z 0) one in
    let is = trees.roots (unit / 1024) in
    omega (arith, up, root, is)))
    (λ ge. (let none = no_leaf blocks unit ge in omega (arith, none)))
    (cases_lt (unit / 1024) (length blocks))

-- where the root is less than a number, each leaf is
pub none_of : (depth : ℕ) (top : List ℕ) (blocks : List (List ℕ)) (count : ℕ) → AreTrees depth top blocks → get_or top 1 0 < count → (unit : ℕ) → get_or (leaves_of (1024 * 2 ^ depth) blocks) unit 0 < count
none_of depth top blocks count trees less unit =
    let above = none_below depth top count trees.above less (unit / 1024) in
    let is = leaf_of depth top blocks trees unit in
    let up = below_block depth top blocks trees unit in
    omega (arith, above, is, up)

-- the leaf above a block that isn't there is 0
pub there : (depth : ℕ) (top : List ℕ) (blocks : List (List ℕ)) (block count : ℕ) → AreTrees depth top blocks → 0 < count → count ≤ get_or (drop (2 ^ depth) top) block 0 → block < length blocks
there depth top blocks block count trees some long = ⊎_elim
    (λ lt. lt)
    (λ ge. absurd (let none = trees.roots block ∙ ap (λ b. get_or b 1 0) (get_or_past blocks block [] ge) ∙ get_or_past {X = ℕ} [] 1 0 (omega arith) in omega (arith, none, some, long)))
    (cases_lt block (length blocks))

-- the first leaf that is great enough stands in the first such block
pub first_of : (depth : ℕ) (top : List ℕ) (blocks : List (List ℕ)) (count block unit : ℕ) → AreTrees depth top blocks → unit < 1024 → ((b : ℕ) → b < block → get_or (drop (2 ^ depth) top) b 0 < count)
    → count ≤ get_or (drop 1024 (get_or blocks block [])) unit 0 → ((u : ℕ) → u < unit → get_or (drop 1024 (get_or blocks block [])) u 0 < count)
    → (count ≤ get_or (leaves_of (1024 * 2 ^ depth) blocks) (1024 * block + unit) 0) × ((u : ℕ) → u < 1024 * block + unit → get_or (leaves_of (1024 * 2 ^ depth) blocks) u 0 < count)
first_of depth top blocks count block unit trees inside before long first = (
  (let is = leaf_of depth top blocks trees (1024 * block + unit) in
      let at : (1024 * block + unit) / 1024 ≡ block = omega (arith, inside) in
      let rest : (1024 * block + unit) % 1024 ≡ unit = omega (arith, inside) in
      let same = ap (λ b. get_or (get_or blocks b []) (1024 + (1024 * block + unit) % 1024) 0) at ∙ ap (λ r. get_or (get_or blocks block []) (1024 + r) 0) rest in
      let leaf = get_or-drop 1024 (get_or blocks block []) unit 0 in
      omega (arith, is, same, leaf, long)),
  (λ u lt. ⊎_elim
      (λ earlier. (let up = below_block depth top blocks trees u in
      let less = before (u / 1024) earlier in
      let is = leaf_of depth top blocks trees u in
      omega (arith, up, less, is)))
      (λ last. (let at : u / 1024 ≡ block = omega (arith, lt, last, inside) in
      let less = first (u % 1024) (omega (arith, at, lt)) in
      let leaf = get_or-drop 1024 (get_or blocks block []) (u % 1024) 0 in
      let same = ap (λ b. get_or (get_or blocks b []) (1024 + u % 1024) 0) at in
      let is = leaf_of depth top blocks trees u in
      omega (arith, less, leaf, same, is)))
      (cases_lt (u / 1024) block)),
)

-- blocks of zeros that are written
zeros : ℕ → List ℕ
zeros n = replicate n 0

pub opened : (depth : ℕ) (top : List ℕ) (blocks more : List (List ℕ)) → AreTrees depth top blocks → more ≡ blocks ++ replicate (length more - length blocks) (replicate 2048 0) → length more ≤ 2 ^ depth → AreTrees depth top more
opened depth top blocks more trees is room = record {
  small = trees.small;
  above = trees.above;
  each = λ b lt. ⊎_elim
      (λ old. subst (IsTree 10) (sym (same b old)) (trees.each b old))
      (λ ge. empty 10 (get_or more b []) (fresh b ge lt))
      (cases_lt b (length blocks));
  roots = λ b. trees.roots b ∙ sym (at_root b (cases_lt b (length blocks)) (cases_lt b (length more)));
  inside = room;
}
  where
    same : (b : ℕ) → b < length blocks → get_or more b [] ≡ get_or blocks b []
    same b lt = ap (λ l. get_or l b []) is ∙ get_or_append_left blocks (replicate (length more - length blocks) (replicate 2048 0)) [] b lt

    fresh : (b : ℕ) → length blocks ≤ b → b < length more → get_or more b [] ≡ replicate 2048 0
    fresh b ge lt = ap (λ l. get_or l b []) is ∙ get_or-append_right blocks (replicate (length more - length blocks) (replicate 2048 0)) (length blocks) b [] refl ge
        ∙ get_or-replicate {A = List ℕ} (length more - length blocks) (b - length blocks) (replicate 2048 0) [] (omega (arith, ge, lt))

    at_root : (b : ℕ) → (b < length blocks) ⊎ (length blocks ≤ b) → (b < length more) ⊎ (length more ≤ b) → get_or (get_or more b []) 1 0 ≡ get_or (get_or blocks b []) 1 0
    at_root b (inl old) x = ap (λ l. get_or l 1 0) (same b old)
    at_root b (inr ge) (inl lt) = ap (λ l. get_or l 1 0) (fresh b ge lt) ∙ get_or-replicate {A = ℕ} 2048 1 0 0 (omega arith) ∙ sym (ap (λ l. get_or l 1 0) (get_or_past blocks b [] ge) ∙ get_or_past {X = ℕ} [] 1 0 (omega arith))
    at_root b (inr ge) (inr past) = ap (λ l. get_or l 1 0) (get_or_past more b [] past ∙ sym (get_or_past blocks b [] ge))

pub opened_leaf : (blocks more : List (List ℕ)) → more ≡ blocks ++ replicate (length more - length blocks) (replicate 2048 0) → (unit : ℕ) → leaf_at more unit ≡ leaf_at blocks unit
opened_leaf blocks more is unit = at (cases_lt (unit / 1024) (length blocks)) (cases_lt (unit / 1024) (length more))
  where
    at : (unit / 1024 < length blocks) ⊎ (length blocks ≤ unit / 1024) → (unit / 1024 < length more) ⊎ (length more ≤ unit / 1024) → leaf_at more unit ≡ leaf_at blocks unit
    at (inl old) x = ap (λ b. get_or b (1024 + unit % 1024) 0) (ap (λ l. get_or l (unit / 1024) []) is ∙ get_or_append_left blocks (replicate (length more - length blocks) (replicate 2048 0)) [] (unit / 1024) old)
    at (inr ge) (inl lt) = ap (λ b. get_or b (1024 + unit % 1024) 0) (ap (λ l. get_or l (unit / 1024) []) is ∙ get_or-append_right blocks (replicate (length more - length blocks) (replicate 2048 0)) (length blocks) (unit / 1024) [] refl ge
        ∙ get_or-replicate {A = List ℕ} (length more - length blocks) (unit / 1024 - length blocks) (replicate 2048 0) [] (omega (arith, ge, lt)))
        ∙ get_or-replicate {A = ℕ} 2048 (1024 + unit % 1024) 0 0 (omega arith)
        ∙ sym (no_leaf blocks unit ge)
    at (inr ge) (inr past) = no_leaf more unit past ∙ sym (no_leaf blocks unit ge)

-- a leaf is written, and what is above it
module _ (depth : ℕ) (top top1 : List ℕ) (blocks blocks1 : List (List ℕ)) (block unit units : ℕ) (trees : AreTrees depth top blocks) (lt : block < length blocks) (small : unit < 1024)
    (tree : IsTree 10 (get_or blocks1 block [])) (leaves : drop 1024 (get_or blocks1 block []) ≡ set (drop 1024 (get_or blocks block [])) unit units) (is : blocks1 ≡ set blocks block (get_or blocks1 block []))
    (above : IsTree depth top1) (roots : drop (2 ^ depth) top1 ≡ set (drop (2 ^ depth) top) block (get_or (get_or blocks1 block []) 1 0)) where
  long : length blocks1 ≡ length blocks
  long = ap length is ∙ length-set blocks block (get_or blocks1 block [])

  other : (b : ℕ) → b ≢ block → get_or blocks1 b [] ≡ get_or blocks b []
  other b ne = ap (λ l. get_or l b []) is ∙ get_or-set_other blocks block b (get_or blocks1 block []) [] ne

  pub set_trees : AreTrees depth top1 blocks1
  set_trees = record {
    small = trees.small;
    above = above;
    each = λ b inside. ⊎_elim
        (λ e. subst (λ z. IsTree 10 (get_or blocks1 z [])) (sym e) tree)
        (λ ne. subst (IsTree 10) (sym (other b ne)) (trees.each b (omega (arith, inside, long))))
        (cases_eq b block);
    roots = λ b. ap (λ l. get_or l b 0) roots ∙ ⊎_elim
        (λ e. at b e)
        (λ ne. get_or-set_other (drop (2 ^ depth) top) block b (get_or (get_or blocks1 block []) 1 0) 0 ne ∙ trees.roots b ∙ sym (ap (λ l. get_or l 1 0) (other b ne)))
        (cases_eq b block);
    inside = omega (arith, trees.inside, long);
  }
    where
      room : block < length (drop (2 ^ depth) top)
      room = let size = length-drop (2 ^ depth) top in omega (arith, size, trees.above.size, trees.inside, lt)

      at : (b : ℕ) → b ≡ block → get_or (set (drop (2 ^ depth) top) block (get_or (get_or blocks1 block []) 1 0)) b 0 ≡ get_or (get_or blocks1 b []) 1 0
      at b e = subst (λ z. get_or (set (drop (2 ^ depth) top) block (get_or (get_or blocks1 block []) 1 0)) z 0 ≡ get_or (get_or blocks1 z []) 1 0) (sym e) (get_or-set_same (drop (2 ^ depth) top) block (get_or (get_or blocks1 block []) 1 0) 0 room)

  leaf_in : (r : ℕ) → get_or (get_or blocks1 block []) (1024 + r) 0 ≡ get_or (set (drop 1024 (get_or blocks block [])) unit units) r 0
  leaf_in r = sym (get_or-drop 1024 (get_or blocks1 block []) r 0) ∙ ap (λ l. get_or l r 0) leaves

  pub set_leaf_at : (i : ℕ) → (i ≡ 1024 * block + unit) ⊎ (i ≢ 1024 * block + unit) → leaf_at blocks1 i ≡ get_or (set (leaves_of (1024 * 2 ^ depth) blocks) (1024 * block + unit) units) i 0
  set_leaf_at i (inl e) =
      let at : i / 1024 ≡ block = omega (arith, e, small) in
      let rest : i % 1024 ≡ unit = omega (arith, e, small) in
      let size = length-leaves_of (1024 * 2 ^ depth) blocks in
      let room : 1024 * block + unit < length (leaves_of (1024 * 2 ^ depth) blocks) = omega (arith, size, trees.inside, lt, small) in
      let wide : unit < length (drop 1024 (get_or blocks block [])) = (let n = length-drop 1024 (get_or blocks block []) in let s = (trees.each block lt).size in omega (arith, n, s, small)) in
      ap (λ b. get_or (get_or blocks1 b []) (1024 + i % 1024) 0) at
      ∙ ap (λ r. get_or (get_or blocks1 block []) (1024 + r) 0) rest
      ∙ leaf_in unit
      ∙ get_or-set_same (drop 1024 (get_or blocks block [])) unit units 0 wide
      ∙ sym (ap (λ z. get_or (set (leaves_of (1024 * 2 ^ depth) blocks) (1024 * block + unit) units) z 0) e ∙ get_or-set_same (leaves_of (1024 * 2 ^ depth) blocks) (1024 * block + unit) units 0 room)
  set_leaf_at i (inr ne) =
      within (cases_eq (i / 1024) block)
      ∙ sym (get_or-set_other (leaves_of (1024 * 2 ^ depth) blocks) (1024 * block + unit) i units 0 ne ∙ leaf_of depth top blocks trees i)
    where
      within : (i / 1024 ≡ block) ⊎ (i / 1024 ≢ block) → leaf_at blocks1 i ≡ leaf_at blocks i
      within (inl at) =
          let away : i % 1024 ≢ unit = λ e. ne (omega (arith, at, e)) in
          ap (λ b. get_or (get_or blocks1 b []) (1024 + i % 1024) 0) at
          ∙ leaf_in (i % 1024)
          ∙ get_or-set_other (drop 1024 (get_or blocks block [])) unit (i % 1024) units 0 away
          ∙ get_or-drop 1024 (get_or blocks block []) (i % 1024) 0
          ∙ sym (ap (λ b. get_or (get_or blocks b []) (1024 + i % 1024) 0) at)
      within (inr off) = ap (λ b. get_or b (1024 + i % 1024) 0) (other (i / 1024) off)

  pub set_leaves : leaves_of (1024 * 2 ^ depth) blocks1 ≡ set (leaves_of (1024 * 2 ^ depth) blocks) (1024 * block + unit) units
  set_leaves = same_leaves (1024 * 2 ^ depth) blocks1 (set (leaves_of (1024 * 2 ^ depth) blocks) (1024 * block + unit) units)
      (length-set (leaves_of (1024 * 2 ^ depth) blocks) (1024 * block + unit) units ∙ length-leaves_of (1024 * 2 ^ depth) blocks)
      (λ i lt. set_leaf_at i (cases_eq i (1024 * block + unit)))

pub opened_leaves : (depth : ℕ) (top : List ℕ) (blocks more : List (List ℕ)) → AreTrees depth top blocks → more ≡ blocks ++ replicate (length more - length blocks) (replicate 2048 0)
    → leaves_of (1024 * 2 ^ depth) more ≡ leaves_of (1024 * 2 ^ depth) blocks
opened_leaves depth top blocks more trees is = same_leaves (1024 * 2 ^ depth) more (leaves_of (1024 * 2 ^ depth) blocks) (length-leaves_of (1024 * 2 ^ depth) blocks)
    (λ i lt. opened_leaf blocks more is i ∙ sym (leaf_of depth top blocks trees i))

-- no block
pub fresh_leaves : (n : ℕ) (blocks : List (List ℕ)) → blocks ≡ [] → leaves_of n blocks ≡ replicate n 0
fresh_leaves n blocks is = same_leaves n blocks (replicate n 0) (length-replicate {A = ℕ} n 0)
    (λ i lt. no_leaf blocks i (let e = ap length is in omega (arith, e)) ∙ sym (get_or-replicate {A = ℕ} n i 0 0 lt))

-- nothing is written past the end
pub set_past : (depth unit units : ℕ) (blocks : List (List ℕ)) → 2 ^ depth ≤ unit / 1024 → leaves_of (1024 * 2 ^ depth) blocks ≡ set (leaves_of (1024 * 2 ^ depth) blocks) unit units
set_past depth unit units blocks ge = let size = length-leaves_of (1024 * 2 ^ depth) blocks in sym (list_set_past (leaves_of (1024 * 2 ^ depth) blocks) unit units (omega (arith, size, ge)))

-- what a read of a block gives
pub item : (blocks : List (List ℕ)) (b : ℕ) (x : List ℕ) → x ≡ get_or blocks b x → b < length blocks → x ≡ get_or blocks b []
item blocks b x is lt = is ∙ sym (get_or_default blocks b [] x lt)

pub item_leaf : (blocks : List (List ℕ)) (unit : ℕ) (x : List ℕ) → x ≡ get_or blocks (unit / 1024) x → unit / 1024 < length blocks → get_or x (1024 + unit % 1024) 0 ≡ leaf_at blocks unit
item_leaf blocks unit x is lt = ap (λ b. get_or b (1024 + unit % 1024) 0) (item blocks (unit / 1024) x is lt)

-- what a call finds once its block is there
pub record IsReached (depth : ℕ) (top : List ℕ) (blocks more : List (List ℕ)) (block : ℕ) : Type 0 where
  pub trees : AreTrees depth top more
  pub inside : block < length more
  pub same : leaves_of (1024 * 2 ^ depth) more ≡ leaves_of (1024 * 2 ^ depth) blocks

pub reached : (depth : ℕ) (top : List ℕ) (blocks more : List (List ℕ)) (block before after : ℕ) → AreTrees depth top blocks → before ≡ length blocks → after ≡ length more
    → more ≡ blocks ++ replicate (after - before) (replicate 2048 0) → after ≡ max before (block + 1) → block < 1 * 2 ^ depth % 18446744073709551616 → IsReached depth top blocks more block
reached depth top blocks more block before after trees old new is most lt =
    let small : depth < 64 = omega (arith, trees.small) in
    let power = one_shl depth 64 small in
    let shape : more ≡ blocks ++ replicate (length more - length blocks) (replicate 2048 0) = is ∙ ap (λ n. blocks ++ replicate n (replicate 2048 0)) (omega (arith, old, new)) in
    record {
      trees = opened depth top blocks more trees shape (omega (arith, old, new, most, lt, power, trees.inside));
      inside = omega (arith, new, most);
      same = opened_leaves depth top blocks more trees shape;
    }
