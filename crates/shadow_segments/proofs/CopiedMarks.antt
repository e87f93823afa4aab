-- Copies of marks: part by part, in one word each.
use Rattle.std.proofs.Common.{subst, ◌≡◌, ◌≢◌, ℕ, zero, suc, ◌+◌, ◌-◌, ◌*◌, ◌/◌, ◌%◌, ◌<◌, ◌≤◌, ◌⊎◌, inl, inr, ⊎_elim, List, length, get_or, set, refl, sym, ap, ◌∙◌, arith}
use Rattle.std.proofs.lemmas.List.{ext_get_or, length-set, get_or-set_same, get_or-set_other}
use Rattle.std.proofs.lemmas.Bool.{cases_eq, cases_lt}
use Rattle.shadow_segments.specs.Shadow.{Mark, Unwritten, Shadowed, put_from, taken_from, with_part, with_copied, loosened}
use Rattle.shadow_segments.specs.Words.{UnitWords, list_by, mark_at, notes_in, marks_in, shadow_in, HasCopied}
use Rattle.shadow_segments.proofs.Entries.{length-list_by, get_or-list_by}
use Rattle.shadow_segments.proofs.Marks.{mark_of_byte, state_view, unit_within}

-- ---- entries that are put in a row

pub length-put_from : {A : Type 0} (xs : List A) (at : ℕ) (f : ℕ → A) (k : ℕ) → length (put_from xs at f k) ≡ length xs
length-put_from xs at f zero = refl
length-put_from xs at f (suc k) = length-put_from (set xs at (f 0)) (suc at) (λ i. f (suc i)) k ∙ length-set xs at (f 0)

pub put_outside : {A : Type 0} (xs : List A) (at : ℕ) (f : ℕ → A) (k j : ℕ) (d : A) → (j < at) ⊎ (at + k ≤ j) → get_or (put_from xs at f k) j d ≡ get_or xs j d
put_outside xs at f zero j d out = refl
put_outside xs at f (suc k) j d out =
    let away : (j < suc at) ⊎ (suc at + k ≤ j) = ⊎_elim (λ b. inl (omega (arith, b))) (λ a. inr (omega (arith, a))) out in
    let other : j ≢ at = ⊎_elim (λ b. grind (arith, b)) (λ a. grind (arith, a)) out in
    put_outside (set xs at (f 0)) (suc at) (λ i. f (suc i)) k j d away ∙ get_or-set_other xs at j (f 0) d other

pub put_inside : {A : Type 0} (xs : List A) (at : ℕ) (f : ℕ → A) (k i j : ℕ) (d : A) → at + k ≤ length xs → i < k → j ≡ at + i → get_or (put_from xs at f k) j d ≡ f i
put_inside xs at f zero i j d room lt is = absurd (omega (arith, lt))
put_inside xs at f (suc k) zero j d room lt is =
    let here : at < length xs = omega (arith, room) in
    let same : j ≡ at = omega (arith, is) in
    put_outside (set xs at (f 0)) (suc at) (λ i. f (suc i)) k j d (inl (omega (arith, same))) ∙ ap (λ m. get_or (set xs at (f 0)) m d) same ∙ get_or-set_same xs at (f 0) d here
put_inside xs at f (suc k) (suc i) j d room lt is =
    let long = length-set xs at (f 0) in
    put_inside (set xs at (f 0)) (suc at) (λ m. f (suc m)) k i j d (omega (arith, room, long)) (omega (arith, lt)) (omega (arith, is))

pub put_entries : {A : Type 0} (d : A) (f g h : ℕ → A) (n at k : ℕ) → at + k ≤ n → ((i : ℕ) → i < k → g (at + i) ≡ h i) → ((j : ℕ) → j < n → (j < at) ⊎ (at + k ≤ j) → g j ≡ f j) → list_by g n ≡ put_from (list_by f n) at h k
put_entries d f g h n at k room in_ out =
    ext_get_or d (list_by g n) (put_from (list_by f n) at h k) (length-list_by g n ∙ sym (length-put_from (list_by f n) at h k ∙ length-list_by f n))
    (λ j lt.
    let below : j < n = omega (arith, lt, length-list_by g n) in
    get_or-list_by g n j d below ∙ go j below (cases_lt j at) (cases_lt j (at + k)))
  where
    go : (j : ℕ) → j < n → (j < at) ⊎ (at ≤ j) → (j < at + k) ⊎ (at + k ≤ j) → g j ≡ get_or (put_from (list_by f n) at h k) j d
    go j lt (inl b) x = out j lt (inl b) ∙ sym (put_outside (list_by f n) at h k j d (inl b) ∙ get_or-list_by f n j d lt)
    go j lt (inr a) (inr c) = out j lt (inr c) ∙ sym (put_outside (list_by f n) at h k j d (inr c) ∙ get_or-list_by f n j d lt)
    go j lt (inr a) (inl b) =
        let back : at + (j - at) ≡ j = omega (arith, a) in
        let small : j - at < k = omega (arith, a, b) in
        sym (ap g back) ∙ in_ (j - at) small ∙ sym (put_inside (list_by f n) at h k (j - at) j d (omega (arith, room, length-list_by f n)) small (sym back))

pub put_same : {A : Type 0} (xs : List A) (at : ℕ) (f g : ℕ → A) (k : ℕ) → ((i : ℕ) → i < k → f i ≡ g i) → put_from xs at f k ≡ put_from xs at g k
put_same xs at f g zero same = refl
put_same xs at f g (suc k) same =
    ap (λ y. put_from (set xs at y) (suc at) (λ i. f (suc i)) k) (same 0 (omega arith))
    ∙ put_same (set xs at (g 0)) (suc at) (λ i. f (suc i)) (λ i. g (suc i)) k (λ i lt. same (suc i) (omega (arith, lt)))

-- more are put after those before
pub put_after : {A : Type 0} (xs : List A) (at : ℕ) (f : ℕ → A) (k m j : ℕ) → j ≡ at + k → put_from (put_from xs at f k) j (λ i. f (k + i)) m ≡ put_from xs at f (k + m)
put_after xs at f zero m j is =
    let none : 0 + m ≡ m = omega arith in
    let same : j ≡ at = omega (arith, is) in
    ap (λ a. put_from xs a (λ i. f (0 + i)) m) same ∙ put_same xs at (λ i. f (0 + i)) f m (λ i lt. let z : 0 + i ≡ i = omega arith in ap f z) ∙ ap (put_from xs at f) (sym none)
put_after xs at f (suc k) m j is =
    let step : suc k + m ≡ suc (k + m) = omega arith in
    put_same (put_from (set xs at (f 0)) (suc at) (λ i. f (suc i)) k) j (λ i. f (suc k + i)) (λ i. f (suc (k + i))) m (λ i lt. let z : suc k + i ≡ suc (k + i) = omega arith in ap f z)
    ∙ put_after (set xs at (f 0)) (suc at) (λ i. f (suc i)) k m j (omega (arith, is))
    ∙ ap (put_from xs at f) (sym step)

-- and before those after
pub put_before : {A : Type 0} (d : A) (xs : List A) (at : ℕ) (f : ℕ → A) (m r j : ℕ) → j ≡ at + m → at + (m + r) ≤ length xs → put_from (put_from xs j (λ i. f (m + i)) r) at f m ≡ put_from xs at f (m + r)
put_before d xs at f m r j is room =
    let behind = put_from xs j (λ i. f (m + i)) r in
    let long : length behind ≡ length xs = length-put_from xs j (λ i. f (m + i)) r in
    let whole : length (put_from behind at f m) ≡ length (put_from xs at f (m + r)) = length-put_from behind at f m ∙ long ∙ sym (length-put_from xs at f (m + r)) in
    ext_get_or d (put_from behind at f m) (put_from xs at f (m + r)) whole (λ i lt. go i (cases_lt i at) (cases_lt i j) (cases_lt i (j + r)))
  where
    go : (i : ℕ) → (i < at) ⊎ (at ≤ i) → (i < j) ⊎ (j ≤ i) → (i < j + r) ⊎ (j + r ≤ i) → get_or (put_from (put_from xs j (λ i. f (m + i)) r) at f m) i d ≡ get_or (put_from xs at f (m + r)) i d
    go i (inl b) y z =
        put_outside (put_from xs j (λ i. f (m + i)) r) at f m i d (inl b)
        ∙ put_outside xs j (λ i. f (m + i)) r i d (inl (omega (arith, b, is)))
        ∙ sym (put_outside xs at f (m + r) i d (inl b))
    go i (inr a) (inl b) z =
        put_inside (put_from xs j (λ i. f (m + i)) r) at f m (i - at) i d (omega (arith, room, length-put_from xs j (λ i. f (m + i)) r)) (omega (arith, a, b, is)) (omega (arith, a))
        ∙ sym (put_inside xs at f (m + r) (i - at) i d room (omega (arith, a, b, is)) (omega (arith, a)))
    go i (inr a) (inr c) (inl b) =
        let place : m + (i - j) ≡ i - at = omega (arith, a, c, is) in
        put_outside (put_from xs j (λ i. f (m + i)) r) at f m i d (inr (omega (arith, c, is)))
        ∙ put_inside xs j (λ i. f (m + i)) r (i - j) i d (omega (arith, room, is)) (omega (arith, b, c)) (omega (arith, c))
        ∙ ap f place
        ∙ sym (put_inside xs at f (m + r) (i - at) i d room (omega (arith, a, b, is)) (omega (arith, a)))
    go i (inr a) (inr c) (inr e) =
        put_outside (put_from xs j (λ i. f (m + i)) r) at f m i d (inr (omega (arith, c, is)))
        ∙ put_outside xs j (λ i. f (m + i)) r i d (inr e)
        ∙ sym (put_outside xs at f (m + r) i d (inr (omega (arith, e, is))))

-- ---- a part of a copy, in one word

-- c marks of a word are copied into the word of a unit, of a copy of n bytes
module _ (p q : UnitWords) (u v source from to n c w : ℕ) (within : u < length p.states) (there : w < length q.states) (is : source ≡ get_or q.states w 0)
    (room : to + c ≤ 16) (room_from : from + c ≤ 16) (has : HasCopied source from (get_or p.states u 0) v to n c) where
  abbrev new_states : List ℕ
  new_states = set p.states u v

  source_mark : (i : ℕ) → i < c → mark_at source (from + i) ≡ get_or (marks_in q) (16 * w + from + i) Unwritten
  source_mark i lt =
      let unit : (16 * w + from + i) / 16 ≡ w = omega (arith, lt, room_from) in
      let byte : (16 * w + from + i) % 16 ≡ from + i = omega (arith, lt, room_from) in
      ap (λ s. mark_at s (from + i)) is
      ∙ sym (mark_of_byte q (16 * w + from + i) (omega (arith, there, lt, room_from)) ∙ ap (λ m. mark_at (get_or q.states m 0) ((16 * w + from + i) % 16)) unit ∙ ap (mark_at (get_or q.states w 0)) byte)

  copied_marks : list_by (λ i. mark_at (get_or new_states (i / 16) 0) (i % 16)) (16 * length p.states) ≡ put_from (marks_in p) (16 * u + to) (taken_from (marks_in q) (16 * w + from) n) c
  copied_marks =
      put_entries Unwritten (λ i. mark_at (get_or p.states (i / 16) 0) (i % 16)) (λ i. mark_at (get_or new_states (i / 16) 0) (i % 16)) (taken_from (marks_in q) (16 * w + from) n)
      (16 * length p.states) (16 * u + to) c (omega (arith, within, room))
      (λ i lt.
      let unit : (16 * u + to + i) / 16 ≡ u = omega (arith, lt, room) in
      let byte : (16 * u + to + i) % 16 ≡ to + i = omega (arith, lt, room) in
      ap (λ j. mark_at (get_or new_states j 0) ((16 * u + to + i) % 16)) unit
      ∙ ap (mark_at (get_or new_states u 0)) byte
      ∙ ap (λ s. mark_at s (to + i)) (get_or-set_same p.states u v 0 within)
      ∙ has.here i lt
      ∙ ap (loosened n) (source_mark i lt))
      (λ j lt out. at j out (cases_eq (j / 16) u))
    where
      at : (j : ℕ) → (j < 16 * u + to) ⊎ (16 * u + to + c ≤ j) → (j / 16 ≡ u) ⊎ (j / 16 ≢ u) → mark_at (get_or new_states (j / 16) 0) (j % 16) ≡ mark_at (get_or p.states (j / 16) 0) (j % 16)
      at j out (inl same) =
          let away : (j % 16 < to) ⊎ (to + c ≤ j % 16) = ⊎_elim (λ b. inl (omega (arith, b, same))) (λ a. inr (omega (arith, a, same))) out in
          ap (λ m. mark_at (get_or new_states m 0) (j % 16)) same
          ∙ ap (λ s. mark_at s (j % 16)) (get_or-set_same p.states u v 0 within)
          ∙ has.others (j % 16) (omega arith) away
          ∙ ap (λ m. mark_at (get_or p.states m 0) (j % 16)) (sym same)
      at j out (inr other) = ap (λ s. mark_at s (j % 16)) (get_or-set_other p.states u (j / 16) v 0 other)

  pub copied_view : shadow_in (record { states = set p.states u v; places = p.places }) ≡ record { notes = notes_in p; marks = put_from (marks_in p) (16 * u + to) (taken_from (marks_in q) (16 * w + from) n) c }
  copied_view = state_view p u v (put_from (marks_in p) (16 * u + to) (taken_from (marks_in q) (16 * w + from) n) c) within has.number copied_marks

pub take_view : (p q r : UnitWords) (s t : Shadowed) (u v source target from to n c w : ℕ) → shadow_in p ≡ s → shadow_in q ≡ t → u < length s.notes → w < length t.notes
    → source ≡ get_or q.states w 0 → target ≡ get_or p.states u 0 → to + c ≤ 16 → from + c ≤ 16 → HasCopied source from target v to n c → r ≡ record { states = set p.states u v; places = p.places }
    → shadow_in r ≡ with_part s t.marks (16 * w + from) (16 * u + to) n c
take_view p q r s t u v source target from to n c w view other inside inside_from is target_is room room_from has new =
    let within = unit_within p s u view inside in
    let there = unit_within q t w other inside_from in
    ap shadow_in new
    ∙ copied_view p q u v source from to n c w within there is room room_from (subst (λ z. HasCopied source from z v to n c) target_is has)
    ∙ ap (λ z. with_part z (marks_in q) (16 * w + from) (16 * u + to) n c) view
    ∙ ap (λ z. with_part s z.marks (16 * w + from) (16 * u + to) n c) other

-- ---- a copy, part by part

-- upward: what isn't copied yet stands as at entry, since it lies after what was put
pub part_up : (s t : Shadowed) (from to n k m a b : ℕ) → t ≡ with_part s s.marks from to n k → to ≤ from → a ≡ from + k → b ≡ to + k → with_part t t.marks a b n m ≡ with_part s s.marks from to n (k + m)
part_up s t from to n k m a b is order source target =
    let done = put_from s.marks to (taken_from s.marks from n) k in
    ap (λ z. with_part z z.marks a b n m) is
    ∙ ap (λ l. record { notes = s.notes; marks = l })
    (put_same done b (taken_from done a n) (λ i. taken_from s.marks from n (k + i)) m (λ i lt.
    let place : a + i ≡ from + (k + i) = omega (arith, source) in
    ap (loosened n) (put_outside s.marks to (taken_from s.marks from n) k (a + i) Unwritten (inr (omega (arith, source, order))) ∙ ap (λ j. get_or s.marks j Unwritten) place))
    ∙ put_after s.marks to (taken_from s.marks from n) k m b target)

-- downward: it lies before what was put
abbrev pub with_last : Shadowed → List Mark → ℕ → ℕ → ℕ → ℕ → Shadowed
with_last s ms from to n k = record { notes = s.notes; marks = put_from s.marks (to + k) (λ i. taken_from ms from n (k + i)) (n - k) }

pub part_down : (s t : Shadowed) (from to n k m a b : ℕ) → t ≡ with_last s s.marks from to n (k + m) → from ≤ to → a ≡ from + k → b ≡ to + k → k + m ≤ n → to + n ≤ length s.marks
    → with_part t t.marks a b n m ≡ with_last s s.marks from to n k
part_down s t from to n k m a b is order source target most room =
    let rest : ℕ → Mark = λ i. taken_from s.marks from n (k + m + i) in
    let done = put_from s.marks (to + (k + m)) rest (n - (k + m)) in
    let part : ℕ → Mark = λ i. taken_from s.marks from n (k + i) in
    let sum : m + (n - (k + m)) ≡ n - k = omega (arith, most) in
    ap (λ z. with_part z z.marks a b n m) is
    ∙ ap (λ l. record { notes = s.notes; marks = l })
    (put_same done b (taken_from done a n) part m (λ i lt.
    let place : a + i ≡ from + (k + i) = omega (arith, source) in
    ap (loosened n) (put_outside s.marks (to + (k + m)) rest (n - (k + m)) (a + i) Unwritten (inl (omega (arith, source, order, lt))) ∙ ap (λ j. get_or s.marks j Unwritten) place))
    ∙ ap (λ l. put_from l b part m) (put_same s.marks (to + (k + m)) rest (λ i. part (m + i)) (n - (k + m)) (λ i lt. let same : k + m + i ≡ k + (m + i) = omega arith in ap (taken_from s.marks from n) same))
    ∙ ap (λ j. put_from (put_from s.marks (to + (k + m)) (λ i. part (m + i)) (n - (k + m))) j part m) target
    ∙ put_before Unwritten s.marks (to + k) part m (n - (k + m)) (to + (k + m)) (omega arith) (omega (arith, room, most))
    ∙ ap (put_from s.marks (to + k) part) sum)

-- the last part is the whole copy
pub last_down : (s t : Shadowed) (from to n k : ℕ) → t ≡ with_last s s.marks from to n k → k ≡ 0 → t ≡ with_copied s s.marks from to n
last_down s t from to n k is none =
    is
    ∙ ap (with_last s s.marks from to n) none
    ∙ ap (λ l. record { notes = s.notes; marks = l })
    (let start : to + 0 ≡ to = omega arith in
    let whole : n - 0 ≡ n = omega arith in
    ap (λ j. put_from s.marks j (λ i. taken_from s.marks from n (0 + i)) (n - 0)) start
    ∙ ap (put_from s.marks to (λ i. taken_from s.marks from n (0 + i))) whole
    ∙ put_same s.marks to (λ i. taken_from s.marks from n (0 + i)) (taken_from s.marks from n) n (λ i lt. let z : 0 + i ≡ i = omega arith in ap (taken_from s.marks from n) z))

-- from another shadow, which stays
pub part_taken : (s t : Shadowed) (ms : List Mark) (from to n k m a b : ℕ) → t ≡ with_part s ms from to n k → a ≡ from + k → b ≡ to + k → with_part t ms a b n m ≡ with_part s ms from to n (k + m)
part_taken s t ms from to n k m a b is source target =
    let done = put_from s.marks to (taken_from ms from n) k in
    ap (λ z. with_part z ms a b n m) is
    ∙ ap (λ l. record { notes = s.notes; marks = l })
    (put_same done b (taken_from ms a n) (λ i. taken_from ms from n (k + i)) m (λ i lt.
    let place : a + i ≡ from + (k + i) = omega (arith, source) in
    ap (λ j. loosened n (get_or ms j Unwritten)) place)
    ∙ put_after s.marks to (taken_from ms from n) k m b target)
