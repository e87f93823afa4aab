-- The blocks that live on the stack: what ends of scopes do to their list.
use Rattle.std.proofs.Common.{◌≡◌, ℕ, zero, suc, ◌+◌, ◌<◌, ◌≤◌, Bool, true, false, not, ◌&&◌, if◌then◌else◌, nat_le, List, [], ◌∷◌, ◌++◌, length, refl, sym, ap, ◌∙◌, subst, arith}
use Rattle.std.proofs.lemmas.Bool.{le-leb}
use Rattle.std.proofs.lemmas.Bool.Decides.{nat_tests}
use Rattle.c_syntax.specs.declared.types.BlockKind.{BlockKind}
use Rattle.c_syntax.specs.declared.types.BlockKind.TheVariants.{Global, Literal, Stack, Heap}
use Rattle.c_model.specs.Memory.{Store, is_stack, kill_from}
use Rattle.mon_syntax.specs.BlockMemory.{is_live_on_stack}
use Rattle.mon_syntax.specs.LiveBlocks.{LiveBlock, noted, live_from, live_in}

-- ---- the oldest ones

-- those with no greater number
abbrev pub up_to : ℕ → List LiveBlock → List LiveBlock
up_to n [] = []
up_to n (b ∷ bs) = if nat_le b.number n then b ∷ up_to n bs else up_to n bs

abbrev pub AllUpTo : ℕ → List LiveBlock → Type 0
AllUpTo n [] = Unit {0}
AllUpTo n (b ∷ bs) = (b.number ≤ n) × AllUpTo n bs

abbrev pub AllAbove : ℕ → List LiveBlock → Type 0
AllAbove n [] = Unit {0}
AllAbove n (b ∷ bs) = (n < b.number) × AllAbove n bs

kept : (n : ℕ) (b : LiveBlock) (bs : List LiveBlock) → b.number ≤ n → up_to n (b ∷ bs) ≡ b ∷ up_to n bs
kept n b bs le = ap (λ t. if t then b ∷ up_to n bs else up_to n bs) (le-leb b.number n le)

skipped : (n : ℕ) (b : LiveBlock) (bs : List LiveBlock) → n < b.number → up_to n (b ∷ bs) ≡ up_to n bs
skipped n b bs lt = let e : nat_le b.number n ≡ false = grind (arith, nat_tests) in ap (λ t. if t then b ∷ up_to n bs else up_to n bs) e

pub up_to-all : (n : ℕ) (bs : List LiveBlock) → AllUpTo n bs → up_to n bs ≡ bs
up_to-all n [] h = refl
up_to-all n (b ∷ bs) h = kept n b bs h.0 ∙ ap (λ l. b ∷ l) (up_to-all n bs h.1)

pub up_to-behind : (n : ℕ) (xs bs : List LiveBlock) → AllAbove n xs → up_to n (xs ++ bs) ≡ up_to n bs
up_to-behind n [] bs h = refl
up_to-behind n (x ∷ xs) bs h = skipped n x (xs ++ bs) h.0 ∙ up_to-behind n xs bs h.1

pub all_up_to-more : (m n : ℕ) (bs : List LiveBlock) → m ≤ n → AllUpTo m bs → AllUpTo n bs
all_up_to-more m n [] le h = tt
all_up_to-more m n (b ∷ bs) le h = (omega (arith, le, h.0), all_up_to-more m n bs le h.1)

-- numbers are those of blocks in the store
numbered : (k : ℕ) (bs : Store) (found : List LiveBlock) → AllUpTo k found → AllUpTo (k + length bs) (live_from k bs found)
numbered k [] found h = all_up_to-more k (k + 0) found (omega arith) h
numbered k (b ∷ bs) found h =
    let e : suc k + length bs ≡ k + suc (length bs) = omega arith in
    subst (λ n. AllUpTo n (live_from k (b ∷ bs) found)) e (by (λ more. numbered (suc k) bs more) (is_live_on_stack b))
  where
    by : ((more : List LiveBlock) → AllUpTo (suc k) more → AllUpTo (suc k + length bs) (live_from (suc k) bs more)) → (t : Bool) → AllUpTo (suc k + length bs) (live_from (suc k) bs (if t then noted (suc k) b ∷ found else found))
    by go true = go (noted (suc k) b ∷ found) (omega arith, all_up_to-more k (suc k) found (omega arith) h)
    by go false = go found (all_up_to-more k (suc k) found (omega arith) h)

pub live-numbered : (store : Store) → AllUpTo (length store) (live_in store)
live-numbered store = subst (λ n. AllUpTo n (live_in store)) (omega arith) (numbered 0 store [] tt)

-- ---- the end of all blocks from a number on

-- a block that is killed where it stands on the stack lives there no more
not_live : (live : Bool) (kind : BlockKind) → ((live && not (is_stack kind)) && is_stack kind) ≡ false
not_live true Global = refl
not_live true Literal = refl
not_live true Stack = refl
not_live true Heap = refl
not_live false kind = refl

none_lives : (k : ℕ) (bs : Store) (found : List LiveBlock) → live_from k (kill_from 0 bs) found ≡ found
none_lives k [] found = refl
none_lives k (b ∷ bs) found =
    ap (λ t. live_from (suc k) (kill_from 0 bs) (if t then record { number = suc k; size = b.size } ∷ found else found)) (not_live b.live b.kind)
    ∙ none_lives (suc k) bs found

later_above : (n k : ℕ) (bs : Store) (found : List LiveBlock) → n ≤ k → up_to n (live_from k bs found) ≡ up_to n found
later_above n k [] found le = refl
later_above n k (b ∷ bs) found le = by (λ more. later_above n (suc k) bs more (omega (arith, le))) (is_live_on_stack b)
  where
    by : ((more : List LiveBlock) → up_to n (live_from (suc k) bs more) ≡ up_to n more) → (t : Bool) → up_to n (live_from (suc k) bs (if t then noted (suc k) b ∷ found else found)) ≡ up_to n found
    by go true = go (noted (suc k) b ∷ found) ∙ skipped n (noted (suc k) b) found (omega (arith, le))
    by go false = go found

killed_from : (k n : ℕ) (bs : Store) (found : List LiveBlock) → live_from k (kill_from n bs) (up_to (k + n) found) ≡ up_to (k + n) (live_from k bs found)
killed_from k n [] found = refl
killed_from k zero (b ∷ bs) found = none_lives k (b ∷ bs) (up_to (k + 0) found) ∙ sym (later_above (k + 0) k (b ∷ bs) found (omega arith))
killed_from k (suc n) (b ∷ bs) found =
    let number : k + suc n ≡ suc k + n = omega arith in
    by (λ more. subst (λ m. live_from (suc k) (kill_from n bs) (up_to m more) ≡ up_to m (live_from (suc k) bs more)) (sym number) (killed_from (suc k) n bs more)) (is_live_on_stack b)
  where
    by : ((more : List LiveBlock) → live_from (suc k) (kill_from n bs) (up_to (k + suc n) more) ≡ up_to (k + suc n) (live_from (suc k) bs more)) → (t : Bool)
        → live_from (suc k) (kill_from n bs) (if t then noted (suc k) b ∷ up_to (k + suc n) found else up_to (k + suc n) found) ≡ up_to (k + suc n) (live_from (suc k) bs (if t then noted (suc k) b ∷ found else found))
    by go true = ap (live_from (suc k) (kill_from n bs)) (sym (kept (k + suc n) (noted (suc k) b) found (omega arith))) ∙ go (noted (suc k) b ∷ found)
    by go false = go found

pub live-killed : (n : ℕ) (store : Store) → live_in (kill_from n store) ≡ up_to n (live_in store)
live-killed n store = subst (λ m. live_in (kill_from n store) ≡ up_to m (live_in store)) (omega arith) (killed_from 0 n store [])

pub length-killed : (n : ℕ) (store : Store) → length (kill_from n store) ≡ length store
length-killed n [] = refl
length-killed zero (b ∷ bs) = ap suc (length-killed zero bs)
length-killed (suc n) (b ∷ bs) = ap suc (length-killed n bs)
