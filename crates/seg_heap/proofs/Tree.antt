-- The tree of gaps: a node is at least as great as each leaf below it.
use Rattle.std.proofs.Common.{◌≡◌, ◌≢◌, ℕ, zero, suc, ◌+◌, ◌-◌, ◌*◌, ◌/◌, ◌^◌, ◌<◌, ◌≤◌, ◌⊎◌, inl, inr, ⊎_elim, max, List, length, get_or, drop, replicate, ap, sym, ◌∙◌, subst, arith}
use Rattle.std.proofs.lemmas.Bool.{cases_lt}
use Rattle.std.proofs.lemmas.Nat.{pow_pos, pow_below, pow-add, shr-shr, shr_le, le-div, div-mul-add}
use Rattle.std.proofs.lemmas.List.{get_or-drop, get_or_past, get_or_default, get_or-replicate, length-replicate, length-drop}
use Rattle.seg_heap.specs.Gaps.{IsTree}

half : (j m : ℕ) → j / 2 ^ (m + 1) ≡ j / 2 ^ m / 2
half j m = sym (shr-shr j m 1)

child : (depth : ℕ) (nodes : List ℕ) → IsTree depth nodes → (q : ℕ) → 1 < q → q < 2 * 2 ^ depth → get_or nodes q 0 ≤ get_or nodes (q / 2) 0
child depth nodes tree q low high =
    let p : ℕ = q / 2 in
    let is = tree.longest (q / 2) (omega arith) (omega arith) in
    ⊎_elim
    (λ even. let e = ap (λ z. get_or nodes z 0) even in omega (arith, is, e))
    (λ odd. let e = ap (λ z. get_or nodes z 0) odd in omega (arith, is, e))
    (parity q)
  where
    parity : (q : ℕ) → (q ≡ 2 * (q / 2)) ⊎ (q ≡ 2 * (q / 2) + 1)
    parity q = ⊎_elim (λ lt. inl (omega (arith, lt))) (λ ge. inr (omega (arith, ge))) (cases_lt (q - 2 * (q / 2)) 1)

pub below : (depth : ℕ) (nodes : List ℕ) → IsTree depth nodes → (m j : ℕ) → 0 < j / 2 ^ m → j < 2 * 2 ^ depth → get_or nodes j 0 ≤ get_or nodes (j / 2 ^ m) 0
below depth nodes tree zero j some high = let e : j / 2 ^ zero ≡ j = omega arith in let f = ap (λ z. get_or nodes z 0) e in omega (arith, f)
below depth nodes tree (suc m) j some high =
    let next : j / 2 ^ suc m ≡ j / 2 ^ m / 2 = ap (λ k. j / 2 ^ k) (next_is m) ∙ half j m in
    let le = shr_le j m in
    let up = below depth nodes tree m j (omega (arith, next, some)) high in
    let more = child depth nodes tree (j / 2 ^ m) (omega (arith, next, some)) (omega (arith, le, high)) in
    let e = ap (λ z. get_or nodes z 0) next in
    omega (arith, up, more, e)
  where
    next_is : (m : ℕ) → suc m ≡ m + 1
    next_is m = omega arith

-- what a read of an index gives, at 0 past the end
pub read : (xs : List ℕ) (i j x : ℕ) → x ≡ get_or xs i x → i ≡ j → i < length xs → get_or xs j 0 ≡ x
read xs i j x is e lt = ap (λ k. get_or xs k 0) (sym e) ∙ get_or_default xs i 0 x lt ∙ sym is

-- a leaf by its place among the leaves
pub leaf : (depth : ℕ) (nodes : List ℕ) (unit : ℕ) → get_or (drop (2 ^ depth) nodes) unit 0 ≡ get_or nodes (2 ^ depth + unit) 0
leaf depth nodes unit = get_or-drop (2 ^ depth) nodes unit 0

-- where the root is less than a number, each leaf is
pub none_below : (depth : ℕ) (nodes : List ℕ) (count : ℕ) → IsTree depth nodes → get_or nodes 1 0 < count → (unit : ℕ) → get_or (drop (2 ^ depth) nodes) unit 0 < count
none_below depth nodes count tree less unit = ⊎_elim inside past (cases_lt unit (2 ^ depth))
  where
    inside : unit < 2 ^ depth → get_or (drop (2 ^ depth) nodes) unit 0 < count
    inside lt =
        let one : (1 * 2 ^ depth + unit) / 2 ^ depth ≡ 1 = div-mul-add 1 (2 ^ depth) unit lt in
        let at : (2 ^ depth + unit) / 2 ^ depth ≡ 1 = ap (λ z. z / 2 ^ depth) (once depth unit) ∙ one in
        let up = below depth nodes tree depth (2 ^ depth + unit) (omega (arith, at)) (omega (arith, lt)) in
        let root = ap (λ z. get_or nodes z 0) at in
        let is = leaf depth nodes unit in
        omega (arith, up, root, is, less)
      where
        once : (depth unit : ℕ) → 2 ^ depth + unit ≡ 1 * 2 ^ depth + unit
        once depth unit = omega arith

    past : 2 ^ depth ≤ unit → get_or (drop (2 ^ depth) nodes) unit 0 < count
    past ge =
        let size = length-drop (2 ^ depth) nodes in
        let is = get_or_past (drop (2 ^ depth) nodes) unit 0 (omega (arith, size, tree.size, ge)) in
        omega (arith, is, less)

-- a walk down the tree, to the first leaf that is a number or more: each leaf before the node is less
pub record IsFirst (depth level node count : ℕ) (nodes : List ℕ) : Type 0 where
  pub low : 2 ^ level ≤ node
  pub high : node < 2 * 2 ^ level
  pub long : count ≤ get_or nodes node 0
  pub before : (j : ℕ) → 2 ^ depth ≤ j → j < 2 * 2 ^ depth → j / 2 ^ (depth - level) < node → get_or nodes j 0 < count

pub starts : (depth count : ℕ) (nodes : List ℕ) → count ≤ get_or nodes 1 0 → IsFirst depth 0 1 count nodes
starts depth count nodes long = record {
  low = omega arith;
  high = omega arith;
  long = long;
  before = λ j low high first. absurd (never j low first);
}
  where
    never : (j : ℕ) → 2 ^ depth ≤ j → j / 2 ^ (depth - 0) < 1 → ⊥
    never j low first =
        let same : j / 2 ^ (depth - 0) ≡ j / 2 ^ depth = ap (λ k. j / 2 ^ k) (whole depth) in
        let some = le-div 1 j (2 ^ depth) (pow_pos depth) (omega (arith, low)) in
        omega (arith, same, first, some)
      where
        whole : (depth : ℕ) → depth - 0 ≡ depth
        whole depth = omega arith

pow_le : (i j : ℕ) → i ≤ j → 2 ^ i ≤ 2 ^ j
pow_le i j le = ⊎_elim (λ lt. let h = pow_below i j lt in omega (arith, h)) (λ ge. let h = ap (λ k. 2 ^ k) (same i j le ge) in omega (arith, h)) (cases_lt i j)
  where
    same : (i j : ℕ) → i ≤ j → j ≤ i → i ≡ j
    same i j le ge = omega (arith, le, ge)

module _ (depth level node count : ℕ) (nodes : List ℕ) (tree : IsTree depth nodes) (lt : level < depth) (at : IsFirst depth level node count nodes) where
  power : 2 ^ (level + 1) ≡ 2 * 2 ^ level
  power = let e = pow-add 2 level 1 in omega (arith, e)

  under : 2 * 2 ^ level ≤ 2 ^ depth
  under = let le = pow_le (level + 1) depth (omega (arith, lt)) in omega (arith, le, power)

  pub room : 2 * node + 1 < 2 * 2 ^ depth
  room = let a = under in let b = at.high in omega (arith, a, b)

  up : (j : ℕ) → j / 2 ^ (depth - level) ≡ j / 2 ^ (depth - (level + 1)) / 2
  up j = ap (λ k. j / 2 ^ k) (steps depth level lt) ∙ half j (depth - (level + 1))
    where
      steps : (depth level : ℕ) → level < depth → depth - level ≡ depth - (level + 1) + 1
      steps depth level lt = omega (arith, lt)

  pub goes_left : count ≤ get_or nodes (2 * node) 0 → IsFirst depth (level + 1) (2 * node) count nodes
  goes_left long = record {
    low = omega (arith, power, at.low);
    high = omega (arith, power, at.high);
    long = long;
    before = λ j low high first. at.before j low high (let e = up j in omega (arith, e, first));
  }

  pub goes_right : get_or nodes (2 * node) 0 < count → IsFirst depth (level + 1) (2 * node + 1) count nodes
  goes_right less = record {
    low = omega (arith, power, at.low);
    high = omega (arith, power, at.high);
    long = (let is = tree.longest node (omega (arith, at.low, pow_pos level)) (omega (arith, at.high, under)) in omega (arith, is, less, at.long));
    before = λ j low high first. ⊎_elim
        (λ earlier. at.before j low high (let e = up j in omega (arith, e, earlier)))
        (λ last. (let same : j / 2 ^ (depth - (level + 1)) ≡ 2 * node = omega (arith, first, last) in
        let most = below depth nodes tree (depth - (level + 1)) j (omega (arith, same, at.low, pow_pos level)) high in
        let e = ap (λ z. get_or nodes z 0) same in
        omega (arith, most, e, less)))
        (cases_lt (j / 2 ^ (depth - (level + 1))) (2 * node));
  }

pub found : (depth node count : ℕ) (nodes : List ℕ) → IsFirst depth depth node count nodes → (unit : ℕ) → unit < node - 2 ^ depth → get_or (drop (2 ^ depth) nodes) unit 0 < count
found depth node count nodes at unit lt =
    let is = leaf depth nodes unit in
    let level : (2 ^ depth + unit) / 2 ^ (depth - depth) ≡ 2 ^ depth + unit = ap (λ k. (2 ^ depth + unit) / 2 ^ k) (none depth) ∙ once (2 ^ depth + unit) in
    let less = at.before (2 ^ depth + unit) (omega arith) (omega (arith, lt, at.high)) (omega (arith, level, lt)) in
    omega (arith, is, less)
  where
    none : (depth : ℕ) → depth - depth ≡ 0
    none depth = omega arith

    once : (j : ℕ) → j / 2 ^ 0 ≡ j
    once j = omega arith

-- a walk up: each node but the parent of this one is as its children say
pub record IsRising (depth node : ℕ) (nodes lengths : List ℕ) : Type 0 where
  pub some : 0 < node
  pub inside : node < 2 * 2 ^ depth
  pub size : length nodes ≡ 2 * 2 ^ depth
  pub others : (j : ℕ) → 0 < j → j < 2 ^ depth → j ≢ node / 2 → get_or nodes j 0 ≡ max (get_or nodes (2 * j) 0) (get_or nodes (2 * j + 1) 0)
  pub leaves : drop (2 ^ depth) nodes ≡ lengths

-- a tree of zeros
pub empty : (depth : ℕ) (nodes : List ℕ) → nodes ≡ replicate (2 * 2 ^ depth) 0 → IsTree depth nodes
empty depth nodes is = subst (IsTree depth) (sym is) (record { size = length-replicate {A = ℕ} (2 * 2 ^ depth) 0; longest = λ j low high. at j low high })
  where
    at : (j : ℕ) → 0 < j → j < 2 ^ depth → get_or (replicate (2 * 2 ^ depth) 0) j 0 ≡ max (get_or (replicate (2 * 2 ^ depth) 0) (2 * j) 0) (get_or (replicate (2 * 2 ^ depth) 0) (2 * j + 1) 0)
    at j low high =
        let a = get_or-replicate {A = ℕ} (2 * 2 ^ depth) j 0 0 (omega (arith, high)) in
        let b = get_or-replicate {A = ℕ} (2 * 2 ^ depth) (2 * j) 0 0 (omega (arith, high)) in
        let c = get_or-replicate {A = ℕ} (2 * 2 ^ depth) (2 * j + 1) 0 0 (omega (arith, high)) in
        omega (arith, a, b, c)
