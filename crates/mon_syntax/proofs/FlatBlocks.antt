-- The blocks that live on the stack, the youngest first: what births and deaths do to their list.
use Rattle.std.proofs.Common.{◌≡◌, ℕ, zero, suc, ◌+◌, ◌<◌, Bool, true, false, if◌then◌else◌, List, [], ◌∷◌, ◌++◌, length, Option, Some, None, slice_get, slice_set, refl, sym, ap, ◌∙◌, arith}
use Rattle.std.proofs.lemmas.Bool.{eqb-true}
use Rattle.std.proofs.lemmas.Option.{none-some, same_Some}
use Rattle.c_syntax.specs.declared.types.BlockKind.TheVariants.{Stack}
use Rattle.c_model.specs.Memory.{Block, Store, new_block}
use Rattle.mon_syntax.specs.BlockMemory.{is_live_on_stack, youngest_from, youngest, is_index, dead_at}
use Rattle.mon_syntax.specs.LiveBlocks.{LiveBlock, noted, live_from, live_in}

-- ---- births

live_from-born : (k : ℕ) (bs : Store) (size : ℕ) (found : List LiveBlock)
    → live_from k (bs ++ new_block Stack size ∷ []) found ≡ record { number = suc (k + length bs); size = size } ∷ live_from k bs found
live_from-born k [] size found = ap (λ i. record { number = suc i; size = size } ∷ found) (omega arith)
live_from-born k (b ∷ bs) size found =
    let more = if is_live_on_stack b then noted (suc k) b ∷ found else found in
    live_from-born (suc k) bs size more ∙ ap (λ i. record { number = suc i; size = size } ∷ live_from (suc k) bs more) (omega arith)

pub live-born : (store : Store) (size : ℕ) → live_in (store ++ new_block Stack size ∷ []) ≡ record { number = length store + 1; size = size } ∷ live_in store
live-born store size = live_from-born 0 store size [] ∙ ap (λ i. record { number = i; size = size } ∷ live_in store) (omega arith)

-- ---- deaths

-- where the youngest one stands before these, none of these lives
youngest_before : (k : ℕ) (bs : Store) (before : Option ℕ) (j : ℕ) → j < k → youngest_from k bs before ≡ Some j → before ≡ Some j
youngest_before k [] before j l e = e
youngest_before k (b ∷ bs) before j l e = by (is_live_on_stack b) (youngest_before (suc k) bs (if is_live_on_stack b then Some k else before) j (omega arith) e)
  where
    by : (t : Bool) → (if t then Some k else before) ≡ Some j → before ≡ Some j
    by true h = let same : k ≡ j = cc in absurd (omega arith)
    by false h = h

none_live : (k : ℕ) (bs : Store) (before : Option ℕ) (j : ℕ) → j < k → youngest_from k bs before ≡ Some j → (found : List LiveBlock)
    → live_from k bs found ≡ found
none_live k [] before j l e found = refl
none_live k (b ∷ bs) before j l e found =
    by (is_live_on_stack b) (youngest_before (suc k) bs (if is_live_on_stack b then Some k else before) j (omega arith) e)
    (none_live (suc k) bs (if is_live_on_stack b then Some k else before) j (omega arith) e)
  where
    by : (t : Bool) → (if t then Some k else before) ≡ Some j → ((more : List LiveBlock) → live_from (suc k) bs more ≡ more)
        → live_from (suc k) bs (if t then noted (suc k) b ∷ found else found) ≡ found
    by true h go = let same : k ≡ j = cc in absurd (omega arith)
    by false h go = go found

-- the death of the block with this index: the others stay
pub record Dies (k i : ℕ) (bs : Store) (found : List LiveBlock) : Type 0 where
  pub size : ℕ
  pub older : List LiveBlock
  pub was : live_from k bs found ≡ record { number = suc (k + i); size = size } ∷ older
  pub is : live_from k (dead_at i (slice_get bs i) bs) found ≡ older

-- what was found stands before the index k
abbrev IsBelow : ℕ → Option ℕ → Type 0
IsBelow k None = Unit {0}
IsBelow k (Some j) = j < k

below_more : (t : Bool) (k : ℕ) (before : Option ℕ) → IsBelow k before → IsBelow (suc k) (if t then Some k else before)
below_more true k before l = omega arith
below_more false k None l = tt
below_more false k (Some j) l = omega arith

not_before : (k i : ℕ) (before : Option ℕ) → IsBelow k before → before ≡ Some (k + i) → ⊥
not_before k i None l e = cc
not_before k i (Some j) l e = let same : j ≡ k + i = cc in omega arith

-- the youngest one is the head of the list
head_is : (t : Bool) (k : ℕ) (b : Block) (bs : Store) (before : Option ℕ) (found : List LiveBlock) → IsBelow k before
    → (if t then Some k else before) ≡ Some (k + 0) → ((more : List LiveBlock) → live_from (suc k) bs more ≡ more)
    → live_from (suc k) bs (if t then noted (suc k) b ∷ found else found) ≡ record { number = suc (k + 0); size = b.size } ∷ found
head_is true k b bs before found l e none = none (noted (suc k) b ∷ found) ∙ ap (λ i. record { number = suc i; size = b.size } ∷ found) (omega arith)
head_is false k b bs before found l e none = absurd (not_before k 0 before l e)

dies_at : (k i : ℕ) (bs : Store) (before : Option ℕ) (found : List LiveBlock) → IsBelow k before → youngest_from k bs before ≡ Some (k + i) → Dies k i bs found
dies_at k i [] before found l e = absurd (not_before k i before l e)
dies_at k zero (b ∷ bs) before found l e =
    let here = if is_live_on_stack b then Some k else before in
    let is = youngest_before (suc k) bs here (k + 0) (omega arith) e in
    let none = none_live (suc k) bs here (k + 0) (omega arith) e in
    record { size = b.size; older = found; was = head_is (is_live_on_stack b) k b bs before found l is none; is = none found }
dies_at k (suc i) (b ∷ bs) before found l e =
    let here = if is_live_on_stack b then Some k else before in
    let more = if is_live_on_stack b then noted (suc k) b ∷ found else found in
    let number : k + suc i ≡ suc k + i = omega arith in
    let later = dies_at (suc k) i bs here more (below_more (is_live_on_stack b) k before l) (e ∙ ap Some number) in
    record {
      size = later.size;
      older = later.older;
      was = later.was ∙ ap (λ n. record { number = suc n; size = later.size } ∷ later.older) (sym number);
      is = front (slice_get bs i) ∙ later.is;
    }
  where
    front : (o : Option Block)
        → live_from k (dead_at (suc i) o (b ∷ bs)) found ≡ live_from (suc k) (dead_at i o bs) (if is_live_on_stack b then noted (suc k) b ∷ found else found)
    front None = refl
    front (Some c) = refl

found_index : (k : ℕ) (o : Option ℕ) → is_index k o ≡ true → o ≡ Some k
found_index k None e = absurd cc
found_index k (Some i) e = ap Some (sym (eqb-true k i e))

-- where the block with the index k is the youngest live one of the stack
pub dies : (store : Store) (k : ℕ) → is_index k (youngest store) ≡ true → Dies 0 k store []
dies store k e = dies_at 0 k store None [] tt (found_index k (youngest store) e ∙ ap Some (omega arith))

-- ---- blocks that don't live on the stack, as those of the heap

live_from-beside : (k : ℕ) (bs : Store) (b : Block) (found : List LiveBlock) → is_live_on_stack b ≡ false → live_from k (bs ++ b ∷ []) found ≡ live_from k bs found
live_from-beside k [] b found off = ap (λ t. if t then noted (suc k) b ∷ found else found) off
live_from-beside k (c ∷ bs) b found off = live_from-beside (suc k) bs b (if is_live_on_stack c then noted (suc k) c ∷ found else found) off

live_from-set : (k i : ℕ) (bs : Store) (b c : Block) (found : List LiveBlock) → slice_get bs i ≡ Some b → is_live_on_stack b ≡ false → is_live_on_stack c ≡ false
    → live_from k (slice_set bs i c) found ≡ live_from k bs found
live_from-set k i [] b c found at off gone = absurd (none-some b at)
live_from-set k zero (x ∷ bs) b c found at off gone =
    let was : is_live_on_stack x ≡ false = ap is_live_on_stack (same_Some x b at) ∙ off in
    ap (λ t. live_from (suc k) bs (if t then noted (suc k) c ∷ found else found)) gone ∙ sym (ap (λ t. live_from (suc k) bs (if t then noted (suc k) x ∷ found else found)) was)
live_from-set k (suc i) (x ∷ bs) b c found at off gone = live_from-set (suc k) i bs b c (if is_live_on_stack x then noted (suc k) x ∷ found else found) at off gone

-- their births and deaths leave the list
pub live-beside : (store : Store) (b : Block) → is_live_on_stack b ≡ false → live_in (store ++ b ∷ []) ≡ live_in store
live-beside store b off = live_from-beside 0 store b [] off

pub live-set : (store : Store) (i : ℕ) (b c : Block) → slice_get store i ≡ Some b → is_live_on_stack b ≡ false → is_live_on_stack c ≡ false → live_in (slice_set store i c) ≡ live_in store
live-set store i b c at off gone = live_from-set 0 i store b c [] at off gone
