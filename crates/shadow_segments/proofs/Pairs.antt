-- The words of units: those that are written, and those of a run.
use Rattle.std.proofs.Common.{◌≡◌, ◌≢◌, ℕ, ◌+◌, ◌%◌, ◌^◌, ◌<◌, ◌≤◌, ◌⊎◌, inl, inr, ⊎_elim, List, length, get_or, set, replicate, sym, ap, ◌∙◌, arith}
use Rattle.std.specs.Prelude.{nat_lt, if◌then◌else◌}
use Rattle.std.proofs.lemmas.Bool.{cases_lt, cases_eq}
use Rattle.std.proofs.lemmas.Bool.Decides.{nat_tests}
use Rattle.std.proofs.lemmas.List.{ext_get_or, get_or_default, get_or-set_same, get_or-set_other, get_or_past, length-replicate, get_or-replicate}
use Rattle.shadow_segments.specs.declared.words.Pair.{Pair}
use Rattle.shadow_segments.specs.Shadow.{changed, filled}
use Rattle.shadow_segments.specs.Words.{UnitWords, list_by, nothing, low_pair, pair_at, words_by}
use Rattle.shadow_segments.proofs.Entries.{length-list_by, get_or-list_by, one_entry, same_entries}
use Rattle.shadow_segments.proofs.Lists.{filled_entries, changed_entries}

-- ---- the words of so many units

pub count_is : (len : ℕ) (f : ℕ → Pair) (p : UnitWords) → words_by len f ≡ p → (length p.states ≡ len) × (length p.places ≡ len)
count_is len f p is = (
  sym (ap (λ q. length q.states) is) ∙ length-list_by (λ u. (f u).state) len,
  sym (ap (λ q. length q.places) is) ∙ length-list_by (λ u. (f u).place) len,
)

pub state_is : (len : ℕ) (f : ℕ → Pair) (p : UnitWords) (u : ℕ) → words_by len f ≡ p → (len ≤ u → f u ≡ nothing) → (f u).state ≡ get_or p.states u 0
state_is len f p u is none = ⊎_elim
    (λ lt. sym (get_or-list_by (λ k. (f k).state) len u 0 lt) ∙ ap (λ q. get_or q.states u 0) is)
    (λ ge. ap (λ q. q.state) (none ge) ∙ sym (get_or_past p.states u 0 (omega (arith, ge, (count_is len f p is).0))))
    (cases_lt u len)

pub place_is : (len : ℕ) (f : ℕ → Pair) (p : UnitWords) (u : ℕ) → words_by len f ≡ p → (len ≤ u → f u ≡ nothing) → (f u).place ≡ get_or p.places u 0
place_is len f p u is none = ⊎_elim
    (λ lt. sym (get_or-list_by (λ k. (f k).place) len u 0 lt) ∙ ap (λ q. get_or q.places u 0) is)
    (λ ge. ap (λ q. q.place) (none ge) ∙ sym (get_or_past p.places u 0 (omega (arith, ge, (count_is len f p is).1))))
    (cases_lt u len)

pub words_none : (len : ℕ) (f : ℕ → Pair) → ((u : ℕ) → f u ≡ nothing) → words_by len f ≡ record { states = replicate len 0; places = replicate len 0 }
words_none len f none =
    ap (λ s. record { states = s; places = list_by (λ u. (f u).place) len }) (zeros (λ u. (f u).state) (λ u. ap (λ q. q.state) (none u)))
    ∙ ap (λ s. record { states = replicate len 0; places = s }) (zeros (λ u. (f u).place) (λ u. ap (λ q. q.place) (none u)))
  where
    zeros : (g : ℕ → ℕ) → ((u : ℕ) → g u ≡ 0) → list_by g len ≡ replicate len 0
    zeros g each =
        ext_get_or 0 (list_by g len) (replicate len 0) (length-list_by g len ∙ sym (length-replicate {A = ℕ} len 0))
        (λ k lt. let below : k < len = omega (arith, lt, length-list_by g len) in get_or-list_by g len k 0 below ∙ each k ∙ sym (get_or-replicate len k 0 0 below))

pub words_same : (len : ℕ) (f g : ℕ → Pair) → ((u : ℕ) → g u ≡ f u) → words_by len g ≡ words_by len f
words_same len f g same =
    ap (λ s. record { states = s; places = list_by (λ u. (g u).place) len }) (same_entries 0 (λ u. (f u).state) (λ u. (g u).state) len (λ u lt. ap (λ q. q.state) (same u)))
    ∙ ap (λ s. record { states = list_by (λ u. (f u).state) len; places = s }) (same_entries 0 (λ u. (f u).place) (λ u. (g u).place) len (λ u lt. ap (λ q. q.place) (same u)))

module _ (len : ℕ) (f g : ℕ → Pair) (p : UnitWords) (is : words_by len f ≡ p) where
  pub words_put : (u : ℕ) (x : Pair) → u < length p.states → g u ≡ x → ((k : ℕ) → k < len → k ≢ u → g k ≡ f k) → words_by len g ≡ record { states = set p.states u x.state; places = set p.places u x.place }
  words_put u x lt here others =
      let below : u < len = omega (arith, lt, (count_is len f p is).0) in
      ap (λ s. record { states = s; places = list_by (λ k. (g k).place) len })
      (one_entry (λ k. (f k).state) (λ k. (g k).state) len u x.state below (ap (λ q. q.state) here) (λ k kl ne. ap (λ q. q.state) (others k kl ne)) ∙ ap (λ q. set q.states u x.state) is)
      ∙ ap (λ s. record { states = set p.states u x.state; places = s })
      (one_entry (λ k. (f k).place) (λ k. (g k).place) len u x.place below (ap (λ q. q.place) here) (λ k kl ne. ap (λ q. q.place) (others k kl ne)) ∙ ap (λ q. set q.places u x.place) is)

  pub words_put_state : (u v : ℕ) → u < length p.states → g u ≡ record { state = v; place = (f u).place } → ((k : ℕ) → k < len → k ≢ u → g k ≡ f k) → words_by len g ≡ record { states = set p.states u v; places = p.places }
  words_put_state u v lt here others =
      let below : u < len = omega (arith, lt, (count_is len f p is).0) in
      ap (λ s. record { states = s; places = list_by (λ k. (g k).place) len })
      (one_entry (λ k. (f k).state) (λ k. (g k).state) len u v below (ap (λ q. q.state) here) (λ k kl ne. ap (λ q. q.state) (others k kl ne)) ∙ ap (λ q. set q.states u v) is)
      ∙ ap (λ s. record { states = set p.states u v; places = s })
      (same_entries 0 (λ k. (f k).place) (λ k. (g k).place) len (λ k kl. at k kl (cases_eq k u)) ∙ ap (λ q. q.places) is)
    where
      at : (k : ℕ) → k < len → (k ≡ u) ⊎ (k ≢ u) → (g k).place ≡ (f k).place
      at k kl (inl same) = ap (λ j. (g j).place) same ∙ ap (λ q. q.place) here ∙ ap (λ j. (f j).place) (sym same)
      at k kl (inr other) = ap (λ q. q.place) (others k kl other)

  pub words_filled : (u k : ℕ) (x : Pair) → u + k ≤ length p.states → ((i : ℕ) → u ≤ i → i < u + k → g i ≡ x) → ((i : ℕ) → i < len → (i < u) ⊎ (u + k ≤ i) → g i ≡ f i)
      → words_by len g ≡ record { states = filled p.states u k x.state; places = filled p.places u k x.place }
  words_filled u k x le in_ out =
      let room : u + k ≤ len = omega (arith, le, (count_is len f p is).0) in
      ap (λ s. record { states = s; places = list_by (λ k. (g k).place) len })
      (filled_entries (λ k. (f k).state) (λ k. (g k).state) len u k x.state room (λ i lo hi. ap (λ q. q.state) (in_ i lo hi)) (λ i lt o. ap (λ q. q.state) (out i lt o)) ∙ ap (λ q. filled q.states u k x.state) is)
      ∙ ap (λ s. record { states = filled p.states u k x.state; places = s })
      (filled_entries (λ k. (f k).place) (λ k. (g k).place) len u k x.place room (λ i lo hi. ap (λ q. q.place) (in_ i lo hi)) (λ i lt o. ap (λ q. q.place) (out i lt o)) ∙ ap (λ q. filled q.places u k x.place) is)

  pub words_released : (u k : ℕ) → u + k ≤ length p.states → ((i : ℕ) → u ≤ i → i < u + k → g i ≡ low_pair (f i)) → ((i : ℕ) → i < len → (i < u) ⊎ (u + k ≤ i) → g i ≡ f i)
      → words_by len g ≡ record { states = changed 0 (λ s. s % 2 ^ 32) p.states u k; places = p.places }
  words_released u k le in_ out =
      let room : u + k ≤ len = omega (arith, le, (count_is len f p is).0) in
      ap (λ s. record { states = s; places = list_by (λ k. (g k).place) len })
      (changed_entries 0 (λ s. s % 2 ^ 32) (λ k. (f k).state) (λ k. (g k).state) len u k room (λ i lo hi. ap (λ q. q.state) (in_ i lo hi)) (λ i lt o. ap (λ q. q.state) (out i lt o))
      ∙ ap (λ q. changed 0 (λ s. s % 2 ^ 32) q.states u k) is)
      ∙ ap (λ s. record { states = changed 0 (λ s. s % 2 ^ 32) p.states u k; places = s })
      (same_entries 0 (λ k. (f k).place) (λ k. (g k).place) len (λ i il. at i il (cases_lt i u) (cases_lt i (u + k))) ∙ ap (λ q. q.places) is)
    where
      at : (i : ℕ) → i < len → (i < u) ⊎ (u ≤ i) → (i < u + k) ⊎ (u + k ≤ i) → (g i).place ≡ (f i).place
      at i il (inl b) z = ap (λ q. q.place) (out i il (inl b))
      at i il (inr a) (inl b) = ap (λ q. q.place) (in_ i a b)
      at i il (inr a) (inr c) = ap (λ q. q.place) (out i il (inr c))

-- ---- written units, and a run

pub at_written : (ws : List Pair) (from to u : ℕ) (run : Pair) → u < from → pair_at ws from to run u ≡ get_or ws u nothing
at_written ws from to u run lt = grind (arith, nat_tests, lt)

pub at_run : (ws : List Pair) (from to u : ℕ) (run : Pair) → from ≤ u → u < to → pair_at ws from to run u ≡ run
at_run ws from to u run ge lt = grind (arith, nat_tests, ge, lt)

pub at_behind : (ws : List Pair) (from to u : ℕ) (run : Pair) → to ≤ u → pair_at ws from to run u ≡ get_or ws u nothing
at_behind ws from to u run ge = grind (arith, nat_tests, ge)

-- past the end is nothing
pub at_past : (ws : List Pair) (from to u len : ℕ) (run : Pair) → length ws ≤ len → to ≤ len → len ≤ u → pair_at ws from to run u ≡ nothing
at_past ws from to u len run short inside past = at_behind ws from to u run (omega (arith, inside, past)) ∙ get_or_past ws u nothing (omega (arith, short, past))

-- one unit that is written is changed
pub put_here : (ws : List Pair) (from to u : ℕ) (run x : Pair) → u < from → from ≤ length ws → pair_at (set ws u x) from to run u ≡ x
put_here ws from to u run x lt le = at_written (set ws u x) from to u run lt ∙ get_or-set_same ws u x nothing (omega (arith, lt, le))

pub put_there : (ws : List Pair) (from to u k : ℕ) (run x : Pair) → k ≢ u → pair_at (set ws u x) from to run k ≡ pair_at ws from to run k
put_there ws from to u k run x ne = ap (λ y. if nat_lt k from then y else if nat_lt k to then run else y) (get_or-set_other ws u k x nothing ne)

-- some that are written are changed, and others stay
pub kept_outside : (vs ws : List Pair) (from to u : ℕ) (run : Pair) → get_or ws u nothing ≡ get_or vs u nothing → pair_at ws from to run u ≡ pair_at vs from to run u
kept_outside vs ws from to u run same = ap (λ y. if nat_lt u from then y else if nat_lt u to then run else y) same

-- a run takes the place of another, which is written besides
pub begun_inside : (ws : List Pair) (first end u : ℕ) (x : Pair) → first ≤ u → u < end → pair_at ws first end x u ≡ x
begun_inside ws first end u x lo hi = at_run ws first end u x lo hi

pub begun_outside : (ws : List Pair) (first end from to u : ℕ) (x run : Pair) → first ≤ from → (to ≤ end) ⊎ (to ≤ from) → (u < first) ⊎ (end ≤ u) → pair_at ws first end x u ≡ pair_at ws from to run u
begun_outside ws first end from to u x run le besides (inl before) = at_written ws first end u x before ∙ sym (at_written ws from to u run (omega (arith, le, before)))
begun_outside ws first end from to u x run le besides (inr after) = at_behind ws first end u x after ∙ sym (go (cases_lt u from))
  where
    go : (u < from) ⊎ (from ≤ u) → pair_at ws from to run u ≡ get_or ws u nothing
    go (inl lt) = at_written ws from to u run lt
    go (inr ge) = at_behind ws from to u run (⊎_elim (λ a. omega (arith, a, after)) (λ b. omega (arith, b, ge)) besides)

-- ---- what a unit's words are, by where it lies

module _ (len from to : ℕ) (ws : List Pair) (run : Pair) (p : UnitWords) (is : words_by len (pair_at ws from to run) ≡ p) (long : (from ≤ length ws) × (length ws ≤ len) × (to ≤ len)) where
  pub found : (u : ℕ) (x : Pair) → pair_at ws from to run u ≡ x → (x.state ≡ get_or p.states u 0) × (x.place ≡ get_or p.places u 0)
  found u x e =
      let none = at_past ws from to u len run long.1 long.2 in
      (sym (ap (λ q. q.state) e) ∙ state_is len (pair_at ws from to run) p u is none, sym (ap (λ q. q.place) e) ∙ place_is len (pair_at ws from to run) p u is none)

  read : (u : ℕ) (x : Pair) → u < length ws → x ≡ get_or ws u x → get_or ws u nothing ≡ x
  read u x lt e = get_or_default ws u nothing x lt ∙ sym e

  pub found_written : (u : ℕ) (x : Pair) → u < from → x ≡ get_or ws u x → (x.state ≡ get_or p.states u 0) × (x.place ≡ get_or p.places u 0)
  found_written u x lt e = found u x (at_written ws from to u run lt ∙ read u x (omega (arith, lt, long.0)) e)

-- ---- changes of written units, and of the run

module _ (len from to : ℕ) (ws : List Pair) (run : Pair) (p : UnitWords) (is : words_by len (pair_at ws from to run) ≡ p) where
  pub put_both : (u : ℕ) (x : Pair) → u < from → from ≤ length ws → u < length p.states → words_by len (pair_at (set ws u x) from to run) ≡ record { states = set p.states u x.state; places = set p.places u x.place }
  put_both u x lt le inside =
      words_put len (pair_at ws from to run) (pair_at (set ws u x) from to run) p is u x inside (put_here ws from to u run x lt le) (λ k kl ne. put_there ws from to u k run x ne)

  pub put_state : (u v : ℕ) (old : Pair) → u < from → from ≤ length ws → u < length p.states → old ≡ get_or ws u old
      → words_by len (pair_at (set ws u (record { state = v; place = old.place })) from to run) ≡ record { states = set p.states u v; places = p.places }
  put_state u v old lt le inside e =
      let x : Pair = record { state = v; place = old.place } in
      let was : pair_at ws from to run u ≡ old = at_written ws from to u run lt ∙ get_or_default ws u nothing old (omega (arith, lt, le)) ∙ sym e in
      words_put_state len (pair_at ws from to run) (pair_at (set ws u x) from to run) p is u v inside
      (put_here ws from to u run x lt le ∙ ap (λ q. record { state = v; place = q.place }) (sym was))
      (λ k kl ne. put_there ws from to u k run x ne)

  pub filled_each : (vs : List Pair) (first count : ℕ) (x : Pair) → first + count ≤ from → first + count ≤ length p.states → ((u : ℕ) → first ≤ u → u < first + count → get_or vs u nothing ≡ x)
      → ((u : ℕ) → (u < first) ⊎ (first + count ≤ u) → get_or vs u nothing ≡ get_or ws u nothing)
      → words_by len (pair_at vs from to run) ≡ record { states = filled p.states first count x.state; places = filled p.places first count x.place }
  filled_each vs first count x le inside in_ out =
      words_filled len (pair_at ws from to run) (pair_at vs from to run) p is first count x inside
      (λ u lo hi. at_written vs from to u run (omega (arith, hi, le)) ∙ in_ u lo hi)
      (λ u lt o. kept_outside ws vs from to u run (out u o))

  pub filled_run : (first count : ℕ) (x : Pair) → first ≤ from → (to ≤ first + count) ⊎ (to ≤ from) → first + count ≤ length p.states
      → words_by len (pair_at ws first (first + count) x) ≡ record { states = filled p.states first count x.state; places = filled p.places first count x.place }
  filled_run first count x le besides inside =
      words_filled len (pair_at ws from to run) (pair_at ws first (first + count) x) p is first count x inside
      (λ u lo hi. begun_inside ws first (first + count) u x lo hi)
      (λ u lt o. begun_outside ws first (first + count) from to u x run le besides o)

  pub released_each : (vs : List Pair) (first count : ℕ) → first + count ≤ from → first + count ≤ length p.states → ((u : ℕ) → first ≤ u → u < first + count → get_or vs u nothing ≡ low_pair (get_or ws u nothing))
      → ((u : ℕ) → (u < first) ⊎ (first + count ≤ u) → get_or vs u nothing ≡ get_or ws u nothing)
      → words_by len (pair_at vs from to run) ≡ record { states = changed 0 (λ s. s % 2 ^ 32) p.states first count; places = p.places }
  released_each vs first count le inside in_ out =
      words_released len (pair_at ws from to run) (pair_at vs from to run) p is first count inside
      (λ u lo hi. let near : u < from = omega (arith, hi, le) in at_written vs from to u run near ∙ in_ u lo hi ∙ ap low_pair (sym (at_written ws from to u run near)))
      (λ u lt o. kept_outside ws vs from to u run (out u o))

  -- the run is the end of what is released
  pub released_run : (vs : List Pair) (first count : ℕ) → first ≤ from → from ≤ first + count → first + count ≡ to → first + count ≤ length p.states
      → ((u : ℕ) → first ≤ u → u < from → get_or vs u nothing ≡ low_pair (get_or ws u nothing)) → ((u : ℕ) → (u < first) ⊎ (from ≤ u) → get_or vs u nothing ≡ get_or ws u nothing)
      → words_by len (pair_at vs from to (low_pair run)) ≡ record { states = changed 0 (λ s. s % 2 ^ 32) p.states first count; places = p.places }
  released_run vs first count le most ends inside in_ out =
      words_released len (pair_at ws from to run) (pair_at vs from to (low_pair run)) p is first count inside (λ u lo hi. within u lo hi (cases_lt u from)) (λ u lt o. without u o)
    where
      within : (u : ℕ) → first ≤ u → u < first + count → (u < from) ⊎ (from ≤ u) → pair_at vs from to (low_pair run) u ≡ low_pair (pair_at ws from to run u)
      within u lo hi (inl near) = at_written vs from to u (low_pair run) near ∙ in_ u lo near ∙ ap low_pair (sym (at_written ws from to u run near))
      within u lo hi (inr far) = let below : u < to = omega (arith, hi, ends) in at_run vs from to u (low_pair run) far below ∙ ap low_pair (sym (at_run ws from to u run far below))

      without : (u : ℕ) → (u < first) ⊎ (first + count ≤ u) → pair_at vs from to (low_pair run) u ≡ pair_at ws from to run u
      without u (inl before) = let near : u < from = omega (arith, before, le) in at_written vs from to u (low_pair run) near ∙ out u (inl before) ∙ sym (at_written ws from to u run near)
      without u (inr after) =
          let behind : to ≤ u = omega (arith, after, ends) in
          at_behind vs from to u (low_pair run) behind ∙ out u (inr (omega (arith, after, most))) ∙ sym (at_behind ws from to u run behind)
