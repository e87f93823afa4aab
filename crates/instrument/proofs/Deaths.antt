-- Deaths of variables from an index on: where none lives there, where some are dead already, and what stays.
use Rattle.std.proofs.Common.{◌≡◌, ℕ, zero, suc, ◌+◌, ◌≤◌, Bool, true, false, ◌&&◌, not, if◌then◌else◌, List, [], ◌∷◌, ◌++◌, length, Some, slice_get, refl, sym, ap, ◌∙◌, subst, arith}
use Rattle.c_model.specs.Memory.{Block, Store, is_stack, kill_from}
use Rattle.mon_syntax.specs.BlockMemory.{is_live_on_stack}
use Rattle.mon_syntax.specs.LiveBlocks.{LiveBlock, noted, live_from, live_in}
use Rattle.track_scopes.specs.Lives.{AreFrom, AreBefore}
use Rattle.c_simulation.specs.Standing.{Bounded}
use Rattle.c_simulation.proofs.Bounds.{bounded_as}
use Rattle.instrument.proofs.Lives.{up_to, AllUpTo, AllAbove, up_to-all, up_to-behind, live-numbered, live-killed}

abbrev pub ended : Block → Block
ended b = record b { live = b.live && not (is_stack b.kind) }

pub ended_other : (b : Block) → is_live_on_stack b ≡ false → ended b ≡ b
ended_other b e = ap (λ l. record b { live = l }) (by b.live (is_stack b.kind) e)
  where
    by : (l k : Bool) → (l && k) ≡ false → (l && not k) ≡ l
    by true true f = absurd cc
    by true false f = refl
    by false k f = refl

-- where no variable lives from there on, nothing dies
none_killed : (n : ℕ) (store : Store) → ((k : ℕ) (b : Block) → n ≤ k → slice_get store k ≡ Some b → is_live_on_stack b ≡ false) → kill_from n store ≡ store
none_killed n [] h = refl
none_killed zero (b ∷ bs) h =
    ap (λ c. c ∷ kill_from zero bs) (ended_other b (h 0 b (omega arith) refl)) ∙ ap (λ cs. b ∷ cs) (none_killed zero bs (λ k c le e. h (suc k) c (omega arith) e))
none_killed (suc n) (b ∷ bs) h = ap (λ cs. b ∷ cs) (none_killed n bs (λ k c le e. h (suc k) c (omega (arith, le)) e))

pub before_found : (n j : ℕ) (bs : Store) (found : List LiveBlock) → AreBefore n (live_from j bs found) → AreBefore n found
before_found n j [] found h = h
before_found n j (b ∷ bs) found h = by (λ more g. before_found n (suc j) bs more g) (is_live_on_stack b) h
  where
    by : ((more : List LiveBlock) → AreBefore n (live_from (suc j) bs more) → AreBefore n more) → (t : Bool) → AreBefore n (live_from (suc j) bs (if t then noted (suc j) b ∷ found else found)) → AreBefore n found
    by go true g = (go (noted (suc j) b ∷ found) g).1
    by go false g = go found g

dead_behind : (n j : ℕ) (bs : Store) (found : List LiveBlock) → AreBefore n (live_from j bs found) → (k : ℕ) (b : Block) → n ≤ j + k → slice_get bs k ≡ Some b → is_live_on_stack b ≡ false
dead_behind n j [] found h k b le e = absurd cc
dead_behind n j (c ∷ bs) found h zero b le e =
    let same : c ≡ b = cc in
    ap is_live_on_stack (sym same) ∙ by (is_live_on_stack c) refl
  where
    by : (t : Bool) → is_live_on_stack c ≡ t → is_live_on_stack c ≡ false
    by true g =
        let first = before_found n (suc j) bs (noted (suc j) c ∷ found) (subst (λ t. AreBefore n (live_from (suc j) bs (if t then noted (suc j) c ∷ found else found))) g h) in
        absurd (omega (arith, first.0, le))
    by false g = g
dead_behind n j (c ∷ bs) found h (suc k) b le e = dead_behind n (suc j) bs (if is_live_on_stack c then noted (suc j) c ∷ found else found) h k b (omega (arith, le)) e

-- where no variable lives from there on, nothing dies
pub kill_none : (n : ℕ) (store : Store) → AreBefore n (live_in store) → kill_from n store ≡ store
kill_none n store h = none_killed n store (λ k b le e. dead_behind n 0 store [] h k b (omega (arith, le)) e)

-- more that dies
pub kill_more : (m n : ℕ) (store : Store) → m ≤ n → kill_from m (kill_from n store) ≡ kill_from m store
kill_more m n [] le = refl
kill_more zero zero (b ∷ bs) le = ap (λ l. record b { live = l } ∷ kill_from zero (kill_from zero bs)) (by b.live (is_stack b.kind)) ∙ ap (λ cs. ended b ∷ cs) (kill_more zero zero bs (omega arith))
  where
    by : (l k : Bool) → ((l && not k) && not k) ≡ (l && not k)
    by true true = refl
    by true false = refl
    by false k = refl
kill_more zero (suc n) (b ∷ bs) le = ap (λ cs. ended b ∷ cs) (kill_more zero n bs (omega arith))
kill_more (suc m) zero (b ∷ bs) le = absurd (omega (arith, le))
kill_more (suc m) (suc n) (b ∷ bs) le = ap (λ cs. b ∷ cs) (kill_more m n bs (omega (arith, le)))

pub bounded_killed : (n : ℕ) (store : Store) → Bounded store → Bounded (kill_from n store)
bounded_killed n [] h = tt
bounded_killed zero (b ∷ bs) h = (bounded_as b (record b { live = b.live && not (is_stack b.kind) }) refl refl h.0, bounded_killed zero bs h.1)
bounded_killed (suc n) (b ∷ bs) h = (h.0, bounded_killed n bs h.1)

-- ---- lists of blocks that live

pub up_to-before : (n : ℕ) (bs : List LiveBlock) → AllUpTo n bs → AreBefore n bs
up_to-before n [] h = tt
up_to-before n (b ∷ bs) h = (h.0, up_to-before n bs h.1)

above-from : (n : ℕ) (bs : List LiveBlock) → AreFrom n bs → AllAbove n bs
above-from n [] h = tt
above-from n (b ∷ bs) h = (h.0, above-from n bs h.1)

before-up_to : (n : ℕ) (bs : List LiveBlock) → AreBefore n bs → AllUpTo n bs
before-up_to n [] h = tt
before-up_to n (b ∷ bs) h = (h.0, before-up_to n bs h.1)

-- all that live were born
pub all_before : (store : Store) → AreBefore (length store) (live_in store)
all_before store = up_to-before (length store) (live_in store) (live-numbered store)

-- what lives where all from an index on are dead
pub live_killed : (n : ℕ) (store : Store) (inside outside : List LiveBlock) → live_in store ≡ inside ++ outside → AreFrom n inside → AreBefore n outside → live_in (kill_from n store) ≡ outside
live_killed n store inside outside e inner outer =
    live-killed n store ∙ ap (up_to n) e ∙ up_to-behind n inside outside (above-from n inside inner) ∙ up_to-all n outside (before-up_to n outside outer)
