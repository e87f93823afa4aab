-- The youngest block that lives on the stack: it is the last one there, and what the others take ends where it stands.
use Rattle.std.proofs.Common.{◌≡◌, ℕ, zero, suc, ◌+◌, ◌*◌, ◌≤◌, ◌⊎◌, inl, inr, Bool, true, false, if◌then◌else◌, List, [], ◌∷◌, Option, Some, None, take, set, slice_get, refl, sym, ap, ◌∙◌, arith}
use Rattle.std.proofs.lemmas.List.{take-set-le}
use Rattle.std.proofs.lemmas.Option.{none-some, same_Some}
use Rattle.std.proofs.lemmas.Bool.{eqb-true, false≢true}
use Rattle.c_model.specs.Memory.{Block, Store, rounded, stack_taken}
use Rattle.shadow_segments.specs.Shadow.{units}
use Rattle.mon_syntax.specs.BlockMemory.{is_live_on_stack, youngest_from, youngest, is_index}
use Rattle.mon_syntax.specs.FlatRelation.{Head, heads, is_on_stack, units_taken}
use Rattle.mon_syntax.proofs.FlatDeaths.{dead_head, StaysTight}

-- ---- which one it is

abbrev NoneLives : Store → Type 0
NoneLives bs = (a : ℕ) (c : Block) → slice_get bs a ≡ Some c → is_live_on_stack c ≡ true → ⊥

-- the block with this index lives on the stack, and none after it does
pub record IsYoungest (bs : Store) (index : ℕ) : Type 0 where
  pub block : Block
  pub there : slice_get bs index ≡ Some block
  pub live : is_live_on_stack block ≡ true
  pub last : (a : ℕ) (c : Block) → slice_get bs a ≡ Some c → is_live_on_stack c ≡ true → a ≤ index

-- what was found is the one found before, where none of these lives, or one of these
abbrev Found : ℕ → Store → Option ℕ → ℕ → Type 0
Found k bs before j = ((before ≡ Some j) × NoneLives bs) ⊎ ((i : ℕ) × (j ≡ k + i) × IsYoungest bs i)

found_from : (k : ℕ) (bs : Store) (before : Option ℕ) (j : ℕ) → youngest_from k bs before ≡ Some j → Found k bs before j
found_from k [] before j e = inl (e, λ a c at live. none-some c at)
found_from k (b ∷ bs) before j e = by (is_live_on_stack b) refl (found_from (suc k) bs (if is_live_on_stack b then Some k else before) j e)
  where
    none_more : NoneLives bs → is_live_on_stack b ≡ false → NoneLives (b ∷ bs)
    none_more none dead zero c at live = false≢true (sym dead ∙ ap is_live_on_stack (same_Some b c at) ∙ live)
    none_more none dead (suc a) c at live = none a c at live

    only_first : NoneLives bs → (a : ℕ) (c : Block) → slice_get (b ∷ bs) a ≡ Some c → is_live_on_stack c ≡ true → a ≤ 0
    only_first none zero c at live = omega arith
    only_first none (suc a) c at live = absurd (none a c at live)

    later : (i : ℕ) → IsYoungest bs i → (a : ℕ) (c : Block) → slice_get (b ∷ bs) a ≡ Some c → is_live_on_stack c ≡ true → a ≤ suc i
    later i y zero c at live = omega arith
    later i y (suc a) c at live = let le = y.last a c at live in omega (arith, le)

    by : (t : Bool) → is_live_on_stack b ≡ t → Found (suc k) bs (if is_live_on_stack b then Some k else before) j → Found k (b ∷ bs) before j
    by t is (inr y) = inr (suc y.0, omega (arith, y.1), record { block = y.2.block; there = y.2.there; live = y.2.live; last = later y.0 y.2 })
    by true is (inl f) =
        let same : k ≡ j = same_Some k j (sym (ap (λ z. if z then Some k else before) is) ∙ f.0) in
        inr (0, omega (arith, same), record { block = b; there = refl; live = is; last = only_first f.1 })
    by false is (inl f) = inl (sym (ap (λ z. if z then Some k else before) is) ∙ f.0, none_more f.1 is)

found_index : (k : ℕ) (o : Option ℕ) → is_index k o ≡ true → o ≡ Some k
found_index k None e = absurd (false≢true e)
found_index k (Some i) e = ap Some (sym (eqb-true k i e))

-- where a block's index is that of the youngest
pub is_youngest : (s : Store) (index : ℕ) → is_index index (youngest s) ≡ true → IsYoungest s index
is_youngest s index e = by (found_from 0 s None index (found_index index (youngest s) e))
  where
    by : Found 0 s None index → IsYoungest s index
    by (inl f) = absurd (none-some index f.0)
    by (inr y) = let same : y.0 ≡ index = omega (arith, y.1) in rw (← same) y.2

-- ---- what is taken

pub taken-heads : (s : Store) → stack_taken s ≡ 16 * units_taken (heads s)
taken-heads [] = refl
taken-heads (b ∷ s) = more (is_live_on_stack b) (taken-heads s)
  where
    more : (t : Bool) → stack_taken s ≡ 16 * units_taken (heads s)
        → (if t then rounded b.size else 0) + stack_taken s ≡ 16 * ((if t then units b.size else 0) + units_taken (heads s))
    more true e = omega (arith, e)
    more false e = omega (arith, e)

-- what a live stack block takes lies under the top
pub taken-under : (hs : List Head) (b : ℕ) (h : Head) → slice_get hs b ≡ Some h → is_on_stack h ≡ true → units_taken (take b hs) + units h.size ≤ units_taken hs
taken-under [] b h at live = absurd (none-some h at)
taken-under (x ∷ hs) zero h at live =
    let e : (if is_on_stack x then units x.size else 0) ≡ units h.size = ap (λ z. if is_on_stack z then units z.size else 0) (same_Some x h at) ∙ ap (λ z. if z then units h.size else 0) live in
    omega (arith, e)
taken-under (x ∷ hs) (suc b) h at live = let r = taken-under hs b h at live in omega (arith, r)

abbrev IsLast : List Head → ℕ → Type 0
IsLast hs b = (a : ℕ) (i : Head) → slice_get hs a ≡ Some i → is_on_stack i ≡ true → a ≤ b

none-taken : (hs : List Head) → ((a : ℕ) (i : Head) → slice_get hs a ≡ Some i → is_on_stack i ≡ true → ⊥) → units_taken hs ≡ 0
none-taken [] none = refl
none-taken (x ∷ hs) none = by (is_on_stack x) refl (none-taken hs (λ a i at live. none (suc a) i at live))
  where
    by : (t : Bool) → is_on_stack x ≡ t → units_taken hs ≡ 0 → (if t then units x.size else 0) + units_taken hs ≡ 0
    by true is rest = absurd (none 0 x refl is)
    by false is rest = omega (arith, rest)

none-behind : (x : Head) (hs : List Head) → IsLast (x ∷ hs) 0 → units_taken hs ≡ 0
none-behind x hs last = none-taken hs (λ a i at live. let le = last (suc a) i at live in omega (arith, le))

last_behind : (x : Head) (hs : List Head) (b : ℕ) → IsLast (x ∷ hs) (suc b) → IsLast hs b
last_behind x hs b last a i at live = let le = last (suc a) i at live in omega (arith, le)

pub taken-youngest : (hs : List Head) (b : ℕ) (h : Head) → slice_get hs b ≡ Some h → is_on_stack h ≡ true → IsLast hs b → units_taken hs ≡ units_taken (take b hs) + units h.size
taken-youngest [] b h at live last = absurd (none-some h at)
taken-youngest (x ∷ hs) zero h at live last =
    let none = none-behind x hs last in
    ap (λ z. (if is_on_stack z then units z.size else 0) + units_taken hs) (same_Some x h at) ∙ ap (λ z. (if z then units h.size else 0) + units_taken hs) live ∙ omega (arith, none)
taken-youngest (x ∷ hs) (suc b) h at live last = let r = taken-youngest hs b h at live (last_behind x hs b last) in omega (arith, r)

taken-dead : (hs : List Head) (b : ℕ) (h : Head) → slice_get hs b ≡ Some h → IsLast hs b → units_taken (set hs b (dead_head h)) ≡ units_taken (take b hs)
taken-dead [] b h at last = absurd (none-some h at)
taken-dead (x ∷ hs) zero h at last = let none = none-behind x hs last in omega (arith, none)
taken-dead (x ∷ hs) (suc b) h at last = ap (λ z. (if is_on_stack x then units x.size else 0) + z) (taken-dead hs b h at (last_behind x hs b last))

-- the death of the youngest one leaves the others as they stand
pub stays_tight : (hs : List Head) (b : ℕ) (h : Head) (top : ℕ) → slice_get hs b ≡ Some h → IsLast hs b → top ≡ 16 * units_taken (take b hs) → StaysTight hs b h top
stays_tight hs b h top at last is = record {
  top_is = is ∙ ap (λ z. 16 * z) (sym (taken-dead hs b h at last));
  before = λ a i there live other. ap units_taken (take-set-le a hs b (dead_head h) (last a i there live));
}

-- ---- the death of a block that isn't on the stack

taken-off : (hs : List Head) (b : ℕ) (h : Head) → slice_get hs b ≡ Some h → is_on_stack h ≡ false → units_taken (set hs b (dead_head h)) ≡ units_taken hs
taken-off [] b h at off = refl
taken-off (x ∷ hs) zero h at off = ap (λ z. (if z then units x.size else 0) + units_taken hs) (sym (ap is_on_stack (same_Some x h at) ∙ off))
taken-off (x ∷ hs) (suc b) h at off = ap (λ z. (if is_on_stack x then units x.size else 0) + z) (taken-off hs b h at off)

front-off : (hs : List Head) (b a : ℕ) (h : Head) → slice_get hs b ≡ Some h → is_on_stack h ≡ false → units_taken (take a (set hs b (dead_head h))) ≡ units_taken (take a hs)
front-off hs b zero h at off = refl
front-off [] b (suc a) h at off = refl
front-off (x ∷ hs) zero (suc a) h at off = ap (λ z. (if z then units x.size else 0) + units_taken (take a hs)) (sym (ap is_on_stack (same_Some x h at) ∙ off))
front-off (x ∷ hs) (suc b) (suc a) h at off = ap (λ z. (if is_on_stack x then units x.size else 0) + z) (front-off hs b a h at off)

-- it leaves all blocks of the stack as they stand
pub off_stays_tight : (hs : List Head) (b : ℕ) (h : Head) (top : ℕ) → slice_get hs b ≡ Some h → is_on_stack h ≡ false → top ≡ 16 * units_taken hs → StaysTight hs b h top
off_stays_tight hs b h top at off is = record {
  top_is = is ∙ ap (λ z. 16 * z) (sym (taken-off hs b h at off));
  before = λ a i there live other. front-off hs b a h at off;
}
