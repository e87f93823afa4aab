-- The ways out of scopes: the youngest blocks die, which are those from an index on.
use Rattle.std.proofs.Common.{◌≡◌, ℕ, zero, suc, ◌+◌, ◌<◌, ◌≤◌, pos, Bool, true, false, not, ◌&&◌, if◌then◌else◌, List, [], ◌∷◌, ◌++◌, pred, Option, Some, None, slice_get, slice_set, refl, sym, ap, ◌∙◌, subst, arith}
use Rattle.std.proofs.lemmas.Bool.{eq-eqb}
use Rattle.c_model.specs.Memory.{Block, Store, Into, Value, Integer, Points, is_stack, kill_from}
use Rattle.mon_syntax.specs.declared.tree.MemoryCall.TheVariants.{DeleteBlock}
use Rattle.mon_syntax.specs.Meaning.{Done, Next, then_do, at_next, writes, with_value, replied, exec, exec_all}
use Rattle.mon_syntax.specs.Meaning.{◌>>=◌ as bind}
use Rattle.mon_syntax.specs.Meaning as monitored
use Rattle.mon_syntax.specs.Memory.{Gives, Faults}
use Rattle.mon_syntax.specs.BlockMemory.{over_blocks, act_on_blocks, is_live_on_stack, youngest_from, youngest, is_index, dead_at}
use Rattle.mon_syntax.specs.LiveBlocks.{LiveBlock, noted, live_from, live_in}
use Rattle.mon_syntax.proofs.FlatBlocks.{dies}
use Rattle.track_scopes.specs.Blocks.{death, deaths}
use Rattle.track_scopes.specs.Lives.{MonitoredState, with_store, Point, AreFrom, AreBefore, EndLives}

-- ---- where no block lives from an index on, none dies there

before_more : (m n : ℕ) (bs : List LiveBlock) → m ≤ n → AreBefore m bs → AreBefore n bs
before_more m n [] le h = tt
before_more m n (b ∷ bs) le h = (omega (arith, le, h.0), before_more m n bs le h.1)

-- what was found before is in the list
before_found : (m k : ℕ) (bs : Store) (found : List LiveBlock) → AreBefore m (live_from k bs found) → AreBefore m found
before_found m k [] found h = h
before_found m k (b ∷ bs) found h = by (is_live_on_stack b) (before_found m (suc k) bs (if is_live_on_stack b then noted (suc k) b ∷ found else found) h)
  where
    by : (t : Bool) → AreBefore m (if t then noted (suc k) b ∷ found else found) → AreBefore m found
    by true h = h.1
    by false h = h

-- the block after the end of a scope
abbrev ended : Block → Block
ended b = record b { live = b.live && not (is_stack b.kind) }

ended_other : (b : Block) → is_live_on_stack b ≡ false → ended b ≡ b
ended_other b e = ap (λ l. record b { live = l }) (by b.live (is_stack b.kind) e)
  where
    by : (l k : Bool) → (l && k) ≡ false → (l && not k) ≡ l
    by true true f = absurd cc
    by true false f = refl
    by false k f = refl

ended_dead : (b : Block) → is_live_on_stack b ≡ true → ended (record b { live = false }) ≡ ended b
ended_dead b e = ap (λ l. record b { live = l }) (by b.live (is_stack b.kind) e)
  where
    by : (l k : Bool) → (l && k) ≡ true → false ≡ (l && not k)
    by true true f = refl
    by true false f = absurd cc
    by false k f = absurd cc

none_dies : (k n : ℕ) (bs : Store) (found : List LiveBlock) → AreBefore (k + n) (live_from k bs found) → kill_from n bs ≡ bs
none_dies k n [] found h = refl
none_dies k zero (b ∷ bs) found h = by (is_live_on_stack b) refl h (λ g. none_dies (suc k) zero bs found (before_more (k + 0) (suc k + 0) (live_from (suc k) bs found) (omega arith) g))
  where
    by : (t : Bool) → is_live_on_stack b ≡ t → AreBefore (k + 0) (live_from (suc k) bs (if t then noted (suc k) b ∷ found else found))
        → (AreBefore (k + 0) (live_from (suc k) bs found) → kill_from zero bs ≡ bs) → kill_from zero (b ∷ bs) ≡ b ∷ bs
    by true e g rest = let at = (before_found (k + 0) (suc k) bs (noted (suc k) b ∷ found) g).0 in absurd (omega (arith, at))
    by false e g rest = (λ i. ended_other b e i ∷ rest g i)
none_dies k (suc n) (b ∷ bs) found h =
    ap (λ cs. b ∷ cs) (none_dies (suc k) n bs (if is_live_on_stack b then noted (suc k) b ∷ found else found)
    (before_more (k + suc n) (suc k + n) (live_from k (b ∷ bs) found) (omega arith) h))

-- ---- the youngest block of a store

-- the index of the youngest block
abbrev index_of_head : List LiveBlock → Option ℕ
index_of_head [] = None
index_of_head (b ∷ bs) = Some (pred b.number)

youngest_is : (k : ℕ) (bs : Store) (found : List LiveBlock) → youngest_from k bs (index_of_head found) ≡ index_of_head (live_from k bs found)
youngest_is k [] found = refl
youngest_is k (b ∷ bs) found = by (λ more. youngest_is (suc k) bs more) (is_live_on_stack b)
  where
    by : ((more : List LiveBlock) → youngest_from (suc k) bs (index_of_head more) ≡ index_of_head (live_from (suc k) bs more)) → (t : Bool)
        → youngest_from (suc k) bs (if t then Some k else index_of_head found) ≡ index_of_head (live_from (suc k) bs (if t then noted (suc k) b ∷ found else found))
    by go true = ap (λ i. youngest_from (suc k) bs (Some i)) (omega arith) ∙ go (noted (suc k) b ∷ found)
    by go false = go found

-- the first of the list stands in the store, or was found before
data Head (k : ℕ) (bs : Store) (found : List LiveBlock) (x : LiveBlock) (rest : List LiveBlock) : Type 0 where
  Before : found ≡ x ∷ rest → Head k bs found x rest
  Here : (i : ℕ) (b : Block) → x.number ≡ suc (k + i) → slice_get bs i ≡ Some b → is_live_on_stack b ≡ true → Head k bs found x rest

head_is : (k : ℕ) (bs : Store) (found : List LiveBlock) (x : LiveBlock) (rest : List LiveBlock) → live_from k bs found ≡ x ∷ rest → Head k bs found x rest
head_is k [] found x rest e = Before e
head_is k (b ∷ bs) found x rest e = by (is_live_on_stack b) refl (head_is (suc k) bs (if is_live_on_stack b then noted (suc k) b ∷ found else found) x rest e)
  where
    by : (t : Bool) → is_live_on_stack b ≡ t → Head (suc k) bs (if t then noted (suc k) b ∷ found else found) x rest → Head k (b ∷ bs) found x rest
    by true l (Before f) = let same : noted (suc k) b ≡ x = cc in Here 0 b (sym (ap (λ (y : LiveBlock). y.number) same) ∙ omega arith) refl l
    by true l (Here i c number at live) = Here (suc i) c (omega (arith, number)) at live
    by false l (Before f) = Before f
    by false l (Here i c number at live) = Here (suc i) c (omega (arith, number)) at live

-- ---- the death of the youngest block

-- a block that dies before is dead after the end of a scope too
kill_dead : (n k : ℕ) (store : Store) (b : Block) → n ≤ k → slice_get store k ≡ Some b → is_live_on_stack b ≡ true → kill_from n (slice_set store k (record b { live = false })) ≡ kill_from n store
kill_dead n k [] b le e l = absurd cc
kill_dead zero zero (c ∷ cs) b le e l =
    let same : c ≡ b = cc in
    ap (λ d. d ∷ kill_from zero cs) (ended_dead b l ∙ ap ended (sym same))
kill_dead zero (suc k) (c ∷ cs) b le e l = ap (λ ds. ended c ∷ ds) (kill_dead zero k cs b (omega arith) e l)
kill_dead (suc n) zero (c ∷ cs) b le e l = absurd (omega (arith, le))
kill_dead (suc n) (suc k) (c ∷ cs) b le e l = ap (λ ds. c ∷ ds) (kill_dead n k cs b (omega (arith, le)) e l)

-- the store in which the youngest block, whose index this is, is dead
record IsDeleted (store : Store) (k : ℕ) (b : LiveBlock) (older : List LiveBlock) : Type 0 where
  number : b.number ≡ suc k
  index : is_index k (youngest store) ≡ true
  live : live_in (dead_at k (slice_get store k) store) ≡ older
  killed : (base : ℕ) → base < b.number → kill_from base (dead_at k (slice_get store k) store) ≡ kill_from base store

deleted : (store : Store) (k : ℕ) (c : Block) (b : LiveBlock) (older : List LiveBlock) → live_in store ≡ b ∷ older → b.number ≡ suc (0 + k) → slice_get store k ≡ Some c → is_live_on_stack c ≡ true → IsDeleted store k b older
deleted store k c b older e number at l =
    let young : youngest store ≡ Some k = youngest_is 0 store [] ∙ ap index_of_head e ∙ ap Some (omega (arith, number)) in
    let index : is_index k (youngest store) ≡ true = ap (is_index k) young ∙ eq-eqb k k refl in
    let d = dies store k index in
    let same : record { number = suc (0 + k); size = d.size } ∷ d.older ≡ b ∷ older = sym d.was ∙ e in
    let rest : d.older ≡ older = cc in
    record {
      number = omega (arith, number);
      index = index;
      live = d.is ∙ rest;
      killed = λ base lt. ap (λ o. kill_from base (dead_at k o store)) at ∙ kill_dead base k store c (omega (arith, lt, number)) at l;
    }

youngest_dies : (store : Store) (b : LiveBlock) (older : List LiveBlock) → live_in store ≡ b ∷ older → (k : ℕ) × IsDeleted store k b older
youngest_dies store b older e = by (head_is 0 store [] b older e)
  where
    by : Head 0 store [] b older → (k : ℕ) × IsDeleted store k b older
    by (Before f) = absurd cc
    by (Here k c number at l) = (k, deleted store k c b older e number at l)

-- ---- deaths in order

module _ (gs : List Value) (calls : monitored.Calls over_blocks) (n base : ℕ) (regs : List Value) where
  death_does : (p : ℕ) (b : LiveBlock) (older : List LiveBlock) (t : MonitoredState) (k : ℕ) → slice_get regs p ≡ Some (Points (Into b.number 0)) → IsDeleted t.mem.store k b older
      → exec over_blocks gs (death p) calls n regs t ≡ Done (Next regs) (with_store (dead_at k (slice_get t.mem.store k) t.mem.store) t) []
  death_does p b older t k points x =
      let died = with_store (dead_at k (slice_get t.mem.store k) t.mem.store) t in
      ap (λ o. with_value (bind o (λ a. Some (a ∷ []))) t.steps (λ vs. then_do (replied over_blocks (act_on_blocks DeleteBlock vs t.mem) t) (λ v u. Done (Next regs) u [])))
      (points ∙ ap (λ i. Some (Points (Into i 0))) x.number)
      ∙ ap (λ g. then_do (replied over_blocks (if g then Gives (Integer (pos 0)) died.mem else Faults) t) (λ v u. Done (Next regs) u [])) x.index

  all_die : (ps : List ℕ) (t : MonitoredState) (inside outside : List LiveBlock) → live_in t.mem.store ≡ inside ++ outside → AreFrom base inside → AreBefore base outside → Point regs ps inside
      → exec_all over_blocks gs (deaths ps) calls n regs t ≡ Done (Next regs) (with_store (kill_from base t.mem.store) t) []
  all_die [] t [] outside live from before points =
      ap (λ store. Done (Next regs) (with_store store t) []) (sym (none_dies 0 base t.mem.store [] (subst (λ l. AreBefore (0 + base) l) (sym live) (before_more base (0 + base) outside (omega arith) before))))
  all_die [] t (b ∷ inside) outside live from before points = absurd points
  all_die (p ∷ ps) t [] outside live from before points = absurd points
  all_die (p ∷ ps) t (b ∷ inside) outside live from before points =
      let x = youngest_dies t.mem.store b (inside ++ outside) live in
      let died = with_store (dead_at x.0 (slice_get t.mem.store x.0) t.mem.store) t in
      ap (λ q. then_do q (at_next (exec_all over_blocks gs (deaths ps) calls n))) (death_does p b (inside ++ outside) t x.0 points.0 x.1)
      ∙ ap (writes []) (all_die ps died inside outside x.1.live from.1 before points.1)
      ∙ ap (λ store. Done (Next regs) (with_store store t) []) (x.1.killed base from.0)

-- deaths end the lives of the blocks
pub deaths_end : (ps : List ℕ) → EndLives ps (deaths ps)
deaths_end ps = λ gs calls n base regs t inside outside live from before points. all_die gs calls n base regs ps t inside outside live from before points
