-- Marks of some bytes, in a word and in the list.
use Rattle.std.proofs.Common.{subst, ◌≡◌, ◌≢◌, ℕ, zero, suc, ◌+◌, ◌-◌, ◌*◌, ◌/◌, ◌%◌, ◌^◌, ◌<◌, ◌≤◌, ◌⊎◌, inl, inr, ⊎_elim, List, length, Some, None, Bool, true, false, ◌&&◌, get_or, set, refl, sym, ap, ◌∙◌, arith}
use Rattle.std.specs.Prelude.{nat_eq, if◌then◌else◌}
use Rattle.std.proofs.lemmas.List.{length-set, get_or-set_same, get_or-set_other}
use Rattle.std.proofs.lemmas.Bool.{cases_eq}
use Rattle.shadow_segments.specs.Shadow.{Mark, Unwritten, Shadowed, filled, all_in, with_marks, AreWhole}
use Rattle.shadow_segments.specs.Words.{UnitWords, list_by, note_by, note_of, mark_at, notes_in, marks_in, shadow_in, all_from, HasMarks}
use Rattle.shadow_segments.proofs.Entries.{length-list_by, get_or-list_by, same_entries}
use Rattle.shadow_segments.proofs.Lists.{filled_entries}
use Rattle.shadow_segments.proofs.Kept.{length-notes}

pub length-marks : (p : UnitWords) → length (marks_in p) ≡ 16 * length p.states
length-marks p = length-list_by (λ i. mark_at (get_or p.states (i / 16) 0) (i % 16)) (16 * length p.states)

pub mark_of_byte : (p : UnitWords) (i : ℕ) → i < 16 * length p.states → get_or (marks_in p) i Unwritten ≡ mark_at (get_or p.states (i / 16) 0) (i % 16)
mark_of_byte p i lt = get_or-list_by (λ i. mark_at (get_or p.states (i / 16) 0) (i % 16)) (16 * length p.states) i Unwritten lt

pub marks_long : (p : UnitWords) (s : Shadowed) → shadow_in p ≡ s → length s.marks ≡ 16 * length p.states
marks_long p s view = sym (ap (λ z. length z.marks) view) ∙ length-marks p

pub unit_within : (p : UnitWords) (s : Shadowed) (u : ℕ) → shadow_in p ≡ s → u < length s.notes → u < length p.states
unit_within p s u view lt = let e = ap (λ z. length z.notes) view in omega (arith, lt, e, length-notes p)

pub unit_inside : (p : UnitWords) (s : Shadowed) (u : ℕ) → shadow_in p ≡ s → u < length p.states → u < length s.notes
unit_inside p s u view lt = let e = ap (λ z. length z.notes) view in omega (arith, lt, e, length-notes p)

-- a word changes at its marks alone, so the records stay
pub notes_stay : (p : UnitWords) (u v : ℕ) → u < length p.states → v / 2 ^ 32 ≡ get_or p.states u 0 / 2 ^ 32
    → list_by (λ k. note_of (get_or (set p.states u v) k 0) (get_or p.places k 0)) (length p.states) ≡ notes_in p
notes_stay p u v within number =
    same_entries None (λ k. note_of (get_or p.states k 0) (get_or p.places k 0)) (λ k. note_of (get_or (set p.states u v) k 0) (get_or p.places k 0)) (length p.states) (λ k lt. at k (cases_eq k u))
  where
    at : (k : ℕ) → (k ≡ u) ⊎ (k ≢ u) → note_of (get_or (set p.states u v) k 0) (get_or p.places k 0) ≡ note_of (get_or p.states k 0) (get_or p.places k 0)
    at k (inl same) =
        ap (λ j. note_of (get_or (set p.states u v) j 0) (get_or p.places k 0)) same
        ∙ ap (λ s. note_of s (get_or p.places k 0)) (get_or-set_same p.states u v 0 within)
        ∙ ap (λ n. if nat_eq n 0 then None else Some (note_by n (get_or p.places k 0))) number
        ∙ ap (λ j. note_of (get_or p.states j 0) (get_or p.places k 0)) (sym same)
    at k (inr other) = ap (λ s. note_of s (get_or p.places k 0)) (get_or-set_other p.states u k v 0 other)

-- what the words keep, by that and by the marks
pub state_view : (p : UnitWords) (u v : ℕ) (ms : List Mark) → u < length p.states → v / 2 ^ 32 ≡ get_or p.states u 0 / 2 ^ 32
    → list_by (λ i. mark_at (get_or (set p.states u v) (i / 16) 0) (i % 16)) (16 * length p.states) ≡ ms
    → shadow_in (record { states = set p.states u v; places = p.places }) ≡ record { notes = notes_in p; marks = ms }
state_view p u v ms within number marks =
    ap (λ l. record {
      notes = list_by (λ k. note_of (get_or (set p.states u v) k 0) (get_or p.places k 0)) l;
      marks = list_by (λ i. mark_at (get_or (set p.states u v) (i / 16) 0) (i % 16)) (16 * l);
    }) (length-set p.states u v)
    ∙ ap (λ l. record { notes = l; marks = list_by (λ i. mark_at (get_or (set p.states u v) (i / 16) 0) (i % 16)) (16 * length p.states) }) (notes_stay p u v within number)
    ∙ ap (λ l. record { notes = notes_in p; marks = l }) marks

-- the marks of some bytes of one unit change
module _ (p : UnitWords) (u v lo hi : ℕ) (x : Mark) (within : u < length p.states) (order : lo ≤ hi) (small : hi ≤ 16) (has : HasMarks (get_or p.states u 0) v lo hi x) where
  abbrev new_states : List ℕ
  new_states = set p.states u v

  marks_change : list_by (λ i. mark_at (get_or new_states (i / 16) 0) (i % 16)) (16 * length p.states) ≡ filled (marks_in p) (16 * u + lo) (hi - lo) x
  marks_change =
      filled_entries (λ i. mark_at (get_or p.states (i / 16) 0) (i % 16)) (λ i. mark_at (get_or new_states (i / 16) 0) (i % 16)) (16 * length p.states) (16 * u + lo) (hi - lo) x (omega (arith, within, order, small))
      (λ i from to.
      let same : i / 16 ≡ u = omega (arith, from, to, small, order) in
      let lower : lo ≤ i % 16 = omega (arith, from, to, small, order) in
      let upper : i % 16 < hi = omega (arith, from, to, small, order) in
      ap (λ j. mark_at (get_or new_states j 0) (i % 16)) same ∙ ap (λ s. mark_at s (i % 16)) (get_or-set_same p.states u v 0 within) ∙ has.here (i % 16) lower upper)
      (λ i lt out. at i out (cases_eq (i / 16) u))
    where
      at : (i : ℕ) → (i < 16 * u + lo) ⊎ (16 * u + lo + (hi - lo) ≤ i) → (i / 16 ≡ u) ⊎ (i / 16 ≢ u) → mark_at (get_or new_states (i / 16) 0) (i % 16) ≡ mark_at (get_or p.states (i / 16) 0) (i % 16)
      at i out (inl same) =
          let away : (i % 16 < lo) ⊎ (hi ≤ i % 16) = ⊎_elim (λ b. inl (omega (arith, b, same))) (λ a. inr (omega (arith, a, same, order))) out in
          ap (λ j. mark_at (get_or new_states j 0) (i % 16)) same
          ∙ ap (λ s. mark_at s (i % 16)) (get_or-set_same p.states u v 0 within)
          ∙ has.others (i % 16) (omega arith) away
          ∙ ap (λ j. mark_at (get_or p.states j 0) (i % 16)) (sym same)
      at i out (inr other) = ap (λ s. mark_at s (i % 16)) (get_or-set_other p.states u (i / 16) v 0 other)

  pub marks_view : shadow_in (record { states = set p.states u v; places = p.places }) ≡ record { notes = notes_in p; marks = filled (marks_in p) (16 * u + lo) (hi - lo) x }
  marks_view = state_view p u v (filled (marks_in p) (16 * u + lo) (hi - lo) x) within has.number marks_change

pub change_view : (p q : UnitWords) (s : Shadowed) (u v lo hi state : ℕ) (x : Mark) → shadow_in p ≡ s → u < length s.notes → lo ≤ hi → hi ≤ 16 → state ≡ get_or p.states u 0 → HasMarks state v lo hi x
    → q ≡ record { states = set p.states u v; places = p.places } → shadow_in q ≡ with_marks s (16 * u + lo) (hi - lo) x
change_view p q s u v lo hi state x view inside order small is has new =
    let within = unit_within p s u view inside in
    ap shadow_in new ∙ marks_view p u v lo hi x within order small (subst (λ z. HasMarks z v lo hi x) is has) ∙ ap (λ z. with_marks z (16 * u + lo) (hi - lo) x) view

pub change_whole : (p q : UnitWords) (s : Shadowed) (ms : List Mark) → shadow_in p ≡ s → AreWhole (notes_in p) → shadow_in q ≡ record { notes = s.notes; marks = ms } → AreWhole (notes_in q)
change_whole p q s ms view whole is = subst (λ z. AreWhole z.notes) (sym is) (subst (λ z. AreWhole z.notes) view whole)

-- a test of some bytes of one unit
pub test_at : (test : Mark → Bool) (p : UnitWords) (u state lo k j : ℕ) → u < length p.states → state ≡ get_or p.states u 0 → lo + k ≤ 16 → j ≡ 16 * u + lo → all_from test state lo k ≡ all_in test (marks_in p) j k
test_at test p u state lo zero j within is small at = refl
test_at test p u state lo (suc k) j within is small at =
    let here : j / 16 ≡ u = omega (arith, small, at) in
    let there : j % 16 ≡ lo = omega (arith, small, at) in
    let inside : j < 16 * length p.states = omega (arith, within, small, at) in
    let mark : mark_at state lo ≡ get_or (marks_in p) j Unwritten =
    ap (λ s. mark_at s lo) is ∙ sym (mark_of_byte p j inside ∙ ap (λ m. mark_at (get_or p.states m 0) (j % 16)) here ∙ ap (mark_at (get_or p.states u 0)) there) in
    ap (λ m. test m && all_from test state (suc lo) k) mark
    ∙ ap (λ b. test (get_or (marks_in p) j Unwritten) && b) (test_at test p u state (suc lo) k (suc j) within is (omega (arith, small)) (omega (arith, at)))

pub test_view : (test : Mark → Bool) (p : UnitWords) (s : Shadowed) (u state lo k : ℕ) → shadow_in p ≡ s → u < length p.states → state ≡ get_or p.states u 0 → lo + k ≤ 16 → all_from test state lo k ≡ all_in test s.marks (16 * u + lo) k
test_view test p s u state lo k view within is small = test_at test p u state lo k (16 * u + lo) within is small refl ∙ ap (λ z. all_in test z.marks (16 * u + lo) k) view

-- a test goes on where one ended
pub all_in_more : (test : Mark → Bool) (ms : List Mark) (from k m j : ℕ) → j ≡ from + k → all_in test ms from k ≡ true → all_in test ms from (k + m) ≡ all_in test ms j m
all_in_more test ms from zero m j at e =
    let none : 0 + m ≡ m = omega arith in
    let same : from ≡ j = omega (arith, at) in
    ap (all_in test ms from) none ∙ ap (λ i. all_in test ms i m) same
all_in_more test ms from (suc k) m j at e =
    let step : suc k + m ≡ suc (k + m) = omega arith in
    ap (all_in test ms from) step ∙ ap (λ b. b && all_in test ms (suc from) (k + m)) (first (test (get_or ms from Unwritten)) e) ∙ all_in_more test ms (suc from) k m j (omega (arith, at)) (rest (test (get_or ms from Unwritten)) e)
  where
    first : (b : Bool) → (b && all_in test ms (suc from) k) ≡ true → b ≡ true
    first true e = refl
    first false e = absurd (cc e)

    rest : (b : Bool) → (b && all_in test ms (suc from) k) ≡ true → all_in test ms (suc from) k ≡ true
    rest true e = e
    rest false e = absurd (cc e)

pub filled_on : {A : Type 0} (xs : List A) (u k m j : ℕ) (y : A) → j ≡ u + k → filled (filled xs u k y) j m y ≡ filled xs u (k + m) y
filled_on xs u zero m j y at =
    let none : 0 + m ≡ m = omega arith in
    let same : j ≡ u = omega (arith, at) in
    ap (λ i. filled xs i m y) same ∙ ap (λ k. filled xs u k y) (sym none)
filled_on xs u (suc k) m j y at =
    let step : suc k + m ≡ suc (k + m) = omega arith in
    filled_on (set xs u y) (suc u) k m j y (omega (arith, at)) ∙ ap (λ i. filled xs u i y) (sym step)

-- how far a walk over the units of a range has come, before a unit
pub walk_on : (s t : Shadowed) (from k m j n : ℕ) (x : Mark) → t ≡ with_marks s from k x → j ≡ from + k → k + m ≡ n → with_marks t j m x ≡ with_marks s from n x
walk_on s t from k m j n x is at sum =
    ap (λ z. with_marks z j m x) is ∙ ap (λ l. record { notes = s.notes; marks = l }) (filled_on s.marks from k m j x at ∙ ap (λ i. filled s.marks from i x) sum)

pub all_on : (test : Mark → Bool) (ms : List Mark) (from k m j n : ℕ) (b : Bool) → all_in test ms from k ≡ true → b ≡ all_in test ms j m → j ≡ from + k → k + m ≡ n → b ≡ true → all_in test ms from n ≡ true
all_on test ms from k m j n b done is at sum e = ap (all_in test ms from) (sym sum) ∙ all_in_more test ms from k m j at done ∙ sym is ∙ e

pub all_in_longer : (test : Mark → Bool) (ms : List Mark) (j m r : ℕ) → all_in test ms j m ≡ false → all_in test ms j (m + r) ≡ false
all_in_longer test ms j zero r e = absurd (cc e)
all_in_longer test ms j (suc m) r e =
    let step : suc m + r ≡ suc (m + r) = omega arith in
    ap (all_in test ms j) step ∙ go (test (get_or ms j Unwritten)) e (all_in_longer test ms (suc j) m r)
  where
    go : (b : Bool) → (b && all_in test ms (suc j) m) ≡ false → (all_in test ms (suc j) m ≡ false → all_in test ms (suc j) (m + r) ≡ false) → (b && all_in test ms (suc j) (m + r)) ≡ false
    go true e rest = rest e
    go false e rest = refl

-- where a part fails the whole does
pub all_fails : (test : Mark → Bool) (ms : List Mark) (from k m j n : ℕ) → all_in test ms from k ≡ true → all_in test ms j m ≡ false → j ≡ from + k → k + m ≤ n → all_in test ms from n ≡ false
all_fails test ms from k m j n done is at le =
    let sum : k + (m + (n - (k + m))) ≡ n = omega (arith, le) in
    ap (all_in test ms from) (sym sum) ∙ all_in_more test ms from k (m + (n - (k + m))) j at done ∙ all_in_longer test ms j m (n - (k + m)) is
