-- Records stay whole, and what a change of words is to the records and marks.
use Rattle.std.proofs.Common.{subst, ◌≡◌, ◌≢◌, ℕ, ◌+◌, ◌*◌, ◌/◌, ◌%◌, ◌^◌, ◌<◌, ◌≤◌, ◌⊎◌, inl, inr, ⊎_elim, List, length, Option, Some, None, Bool, true, false, get_or, replicate, refl, sym, ap, ◌∙◌, arith, eqb-true, eq-eqb}
use Rattle.std.specs.Prelude.{nat_eq, if◌then◌else◌}
use Rattle.std.specs.Int.{bit_at}
use Rattle.std.proofs.lemmas.Nat.Bits.{bit_at-zero, bit_at_cat_low}
use Rattle.std.proofs.lemmas.List.{ext_get_or, get_or_past, length-replicate, get_or-replicate}
use Rattle.std.proofs.lemmas.Option.{none-some, same_Some}
use Rattle.std.proofs.lemmas.Bool.{cases_eq, cases_lt}
use Rattle.shadow_segments.specs.declared.BlockNote.{BlockNote}
use Rattle.shadow_segments.specs.Shadow.{Unwritten, Shadowed, units, changed, filled, first_unit, end_unit, IsWhole, AreWhole, IsFree, marked, cleared, cleared_by, cleared_at, IsLiveBase}
use Rattle.shadow_segments.specs.Words.{UnitWords, list_by, note_by, note_of, mark_by, mark_at, notes_in, marks_in, shadow_in}
use Rattle.shadow_segments.proofs.Entries.{length-list_by, get_or-list_by, same_entries}
use Rattle.shadow_segments.proofs.Lists.{length-changed, changed_inside, changed_outside, length-filled, filled_inside, filled_outside, filled_entries}

-- ---- whole records

pub whole_marked : (ns : List (Option BlockNote)) (n : BlockNote) → AreWhole ns → IsFree ns n → AreWhole (filled ns (first_unit n) (units n.length) (Some n))
whole_marked ns n whole free u m at = here (cases_lt u (first_unit n)) (cases_lt u (end_unit n))
  where
    new : List (Option BlockNote)
    new = filled ns (first_unit n) (units n.length) (Some n)

    long : length new ≡ length ns
    long = length-filled ns (first_unit n) (units n.length) (Some n)

    old : (u < first_unit n) ⊎ (end_unit n ≤ u) → IsWhole new u m
    old out =
        let was : get_or ns u None ≡ Some m = sym (filled_outside ns (first_unit n) (units n.length) (Some n) u None out) ∙ at in
        let w = whole u m was in
        record {
          aligned = w.aligned;
          from = w.from;
          below = w.below;
          inside = omega (arith, w.inside, long);
          all = λ v lo hi. stays v (w.all v lo hi) (cases_lt v (first_unit n)) (cases_lt v (end_unit n));
        }
      where
        stays : (v : ℕ) → get_or ns v None ≡ Some m → (v < first_unit n) ⊎ (first_unit n ≤ v) → (v < end_unit n) ⊎ (end_unit n ≤ v) → get_or new v None ≡ Some m
        stays v is (inl b) h = filled_outside ns (first_unit n) (units n.length) (Some n) v None (inl b) ∙ is
        stays v is (inr a) (inr c) = filled_outside ns (first_unit n) (units n.length) (Some n) v None (inr c) ∙ is
        stays v is (inr a) (inl b) = absurd (none-some m (sym (free.free v a b) ∙ is))

    here : (u < first_unit n) ⊎ (first_unit n ≤ u) → (u < end_unit n) ⊎ (end_unit n ≤ u) → IsWhole new u m
    here (inl b) h = old (inl b)
    here (inr a) (inr c) = old (inr c)
    here (inr a) (inl b) =
        let it : n ≡ m = same_Some n m (sym (filled_inside ns (first_unit n) (units n.length) (Some n) u None free.inside a b) ∙ at) in
        subst (λ z. IsWhole new u z) it (record {
          aligned = free.aligned;
          from = a;
          below = b;
          inside = omega (arith, free.inside, long);
          all = λ v lo hi. filled_inside ns (first_unit n) (units n.length) (Some n) v None free.inside lo hi;
        })

pub whole_cleared : (ns : List (Option BlockNote)) (n : BlockNote) (u : ℕ) → AreWhole ns → get_or ns u None ≡ Some n → AreWhole (filled ns (first_unit n) (units n.length) None)
whole_cleared ns n o whole there u m at = here (cases_lt u (first_unit n)) (cases_lt u (end_unit n))
  where
    mine : IsWhole ns o n
    mine = whole o n there

    new : List (Option BlockNote)
    new = filled ns (first_unit n) (units n.length) None

    long : length new ≡ length ns
    long = length-filled ns (first_unit n) (units n.length) None

    old : (u < first_unit n) ⊎ (end_unit n ≤ u) → IsWhole new u m
    old out =
        let was : get_or ns u None ≡ Some m = sym (filled_outside ns (first_unit n) (units n.length) None u None out) ∙ at in
        let w = whole u m was in
        record {
          aligned = w.aligned;
          from = w.from;
          below = w.below;
          inside = omega (arith, w.inside, long);
          all = λ v lo hi. stays w.from w.below v (w.all v lo hi) (cases_lt v (first_unit n)) (cases_lt v (end_unit n));
        }
      where
        stays : first_unit m ≤ u → u < end_unit m → (v : ℕ) → get_or ns v None ≡ Some m → (v < first_unit n) ⊎ (first_unit n ≤ v) → (v < end_unit n) ⊎ (end_unit n ≤ v) → get_or new v None ≡ Some m
        stays f t v is (inl b) h = filled_outside ns (first_unit n) (units n.length) None v None (inl b) ∙ is
        stays f t v is (inr a) (inr c) = filled_outside ns (first_unit n) (units n.length) None v None (inr c) ∙ is
        stays f t v is (inr a) (inl b) =
            let same : n ≡ m = same_Some n m (sym (mine.all v a b) ∙ is) in
            let lo : first_unit n ≤ u = subst (λ z. first_unit z ≤ u) (sym same) f in
            let hi : u < end_unit n = subst (λ z. u < end_unit z) (sym same) t in
            absurd (⊎_elim (λ x. omega (arith, x, lo)) (λ x. omega (arith, x, hi)) out)

    here : (u < first_unit n) ⊎ (first_unit n ≤ u) → (u < end_unit n) ⊎ (end_unit n ≤ u) → IsWhole new u m
    here (inl b) h = old (inl b)
    here (inr a) (inr c) = old (inr c)
    here (inr a) (inl b) = absurd (none-some m (sym (filled_inside ns (first_unit n) (units n.length) None u None mine.inside a b) ∙ at))

-- ---- words, records and marks

pub length-notes : (p : UnitWords) → length (notes_in p) ≡ length p.states
length-notes p = length-list_by (λ u. note_of (get_or p.states u 0) (get_or p.places u 0)) (length p.states)

pub note_at : (p : UnitWords) (u : ℕ) → u < length p.states → get_or (notes_in p) u None ≡ note_of (get_or p.states u 0) (get_or p.places u 0)
note_at p u lt = get_or-list_by (λ u. note_of (get_or p.states u 0) (get_or p.places u 0)) (length p.states) u None lt

pub note_past : (p : UnitWords) (u : ℕ) → length p.states ≤ u → get_or (notes_in p) u None ≡ None
note_past p u le = get_or_past (notes_in p) u None (omega (arith, le, length-notes p))

pub no_note : (state place : ℕ) → state / 2 ^ 32 ≡ 0 → note_of state place ≡ None
no_note state place e = ap (λ b. if b then None else Some (note_by (state / 2 ^ 32) place)) (eq-eqb (state / 2 ^ 32) 0 e)

pub some_note : (state place : ℕ) → 0 < state / 2 ^ 32 → note_of state place ≡ Some (note_by (state / 2 ^ 32) place)
some_note state place lt = go (nat_eq (state / 2 ^ 32) 0) refl
  where
    go : (b : Bool) → nat_eq (state / 2 ^ 32) 0 ≡ b → (if nat_eq (state / 2 ^ 32) 0 then None else Some (note_by (state / 2 ^ 32) place)) ≡ Some (note_by (state / 2 ^ 32) place)
    go true e = let z = eqb-true (state / 2 ^ 32) 0 e in absurd (omega (arith, z, lt))
    go false e = ap (λ b. if b then None else Some (note_by (state / 2 ^ 32) place)) e

-- a record in two words is what they say
pub note_is : (state place : ℕ) (n : BlockNote) → note_of state place ≡ Some n → (0 < state / 2 ^ 32) × (note_by (state / 2 ^ 32) place ≡ n)
note_is state place n is = go (cases_eq (state / 2 ^ 32) 0)
  where
    go : (state / 2 ^ 32 ≡ 0) ⊎ (state / 2 ^ 32 ≢ 0) → (0 < state / 2 ^ 32) × (note_by (state / 2 ^ 32) place ≡ n)
    go (inl e) = absurd (none-some n (sym (no_note state place e) ∙ is))
    go (inr ne) =
        let lt : 0 < state / 2 ^ 32 = grind (arith, ne) in
        (lt, same_Some (note_by (state / 2 ^ 32) place) n (sym (some_note state place lt) ∙ is))

-- the low bits of a word stay where its high half goes or changes
pub bit_at_low : (s i : ℕ) → i < 32 → bit_at (s % 2 ^ 32) i ≡ bit_at s i
bit_at_low s i lt =
    let whole : s ≡ s / 2 ^ 32 * 2 ^ 32 + s % 2 ^ 32 = omega arith in
    sym (ap (λ z. bit_at z i) whole ∙ bit_at_cat_low (s / 2 ^ 32) 32 (s % 2 ^ 32) i lt)

pub mark_at_low : (s i : ℕ) → i < 16 → mark_at (s % 2 ^ 32) i ≡ mark_at s i
mark_at_low s i lt =
    let lo : i < 32 = omega (arith, lt) in
    let hi : 16 + i < 32 = omega (arith, lt) in
    ap (λ b. mark_by b (bit_at (s % 2 ^ 32) (16 + i))) (bit_at_low s i lo) ∙ ap (λ b. mark_by (bit_at s i) b) (bit_at_low s (16 + i) hi)

-- a number above no marks
pub no_mark : (number i : ℕ) → i < 16 → mark_at (number * 2 ^ 32) i ≡ Unwritten
no_mark number i lt =
    let none : number * 2 ^ 32 % 2 ^ 32 ≡ 0 = omega arith in
    sym (mark_at_low (number * 2 ^ 32) i lt) ∙ ap (λ s. mark_at s i) none ∙ ap (λ b. mark_by b (bit_at 0 (16 + i))) (bit_at-zero i) ∙ ap (λ b. mark_by 0 b) (bit_at-zero (16 + i))

-- the two words of a record on so many units
pub filled_words : (p : UnitWords) (u k number place : ℕ) (n : BlockNote) → u + k ≤ length p.states → length p.places ≡ length p.states → 0 < number → note_by number place ≡ n
    → shadow_in (record { states = filled p.states u k (number * 2 ^ 32); places = filled p.places u k place }) ≡ record { notes = filled (notes_in p) u k (Some n); marks = filled (marks_in p) (16 * u) (16 * k) Unwritten }
filled_words p u k number place n room even some is =
    ap (λ l. record { notes = list_by (λ v. note_of (get_or new.states v 0) (get_or new.places v 0)) l; marks = list_by (λ i. mark_at (get_or new.states (i / 16) 0) (i % 16)) (16 * l) }) (length-filled p.states u k (number * 2 ^ 32))
    ∙ ap (λ l. record { notes = l; marks = list_by (λ i. mark_at (get_or new.states (i / 16) 0) (i % 16)) (16 * length p.states) }) notes
    ∙ ap (λ l. record { notes = filled (notes_in p) u k (Some n); marks = l }) marks
  where
    new : UnitWords
    new = record { states = filled p.states u k (number * 2 ^ 32); places = filled p.places u k place }

    it : note_of (number * 2 ^ 32) place ≡ Some n
    it =
        let high : number * 2 ^ 32 / 2 ^ 32 ≡ number = omega arith in
        some_note (number * 2 ^ 32) place (omega (arith, high, some)) ∙ ap (λ z. Some (note_by z place)) high ∙ ap Some is

    notes : list_by (λ v. note_of (get_or new.states v 0) (get_or new.places v 0)) (length p.states) ≡ filled (notes_in p) u k (Some n)
    notes =
        filled_entries (λ v. note_of (get_or p.states v 0) (get_or p.places v 0)) (λ v. note_of (get_or new.states v 0) (get_or new.places v 0)) (length p.states) u k (Some n) room
        (λ v lo hi. ap (λ s. note_of s (get_or new.places v 0)) (filled_inside p.states u k (number * 2 ^ 32) v 0 room lo hi) ∙ ap (note_of (number * 2 ^ 32)) (filled_inside p.places u k place v 0 (omega (arith, room, even)) lo hi) ∙ it)
        (λ v lt out. ap (λ s. note_of s (get_or new.places v 0)) (filled_outside p.states u k (number * 2 ^ 32) v 0 out) ∙ ap (note_of (get_or p.states v 0)) (filled_outside p.places u k place v 0 out))

    marks : list_by (λ i. mark_at (get_or new.states (i / 16) 0) (i % 16)) (16 * length p.states) ≡ filled (marks_in p) (16 * u) (16 * k) Unwritten
    marks =
        filled_entries (λ i. mark_at (get_or p.states (i / 16) 0) (i % 16)) (λ i. mark_at (get_or new.states (i / 16) 0) (i % 16)) (16 * length p.states) (16 * u) (16 * k) Unwritten (omega (arith, room))
        (λ i lo hi. ap (λ s. mark_at s (i % 16)) (filled_inside p.states u k (number * 2 ^ 32) (i / 16) 0 room (omega (arith, lo)) (omega (arith, hi))) ∙ no_mark number (i % 16) (omega arith))
        (λ i lt out. ap (λ s. mark_at s (i % 16)) (filled_outside p.states u k (number * 2 ^ 32) (i / 16) 0 (⊎_elim (λ b. inl (omega (arith, b))) (λ a. inr (omega (arith, a))) out)))

-- the numbers of so many units go
pub released_words : (p : UnitWords) (u k : ℕ) → u + k ≤ length p.states
    → shadow_in (record { states = changed 0 (λ s. s % 2 ^ 32) p.states u k; places = p.places }) ≡ record { notes = filled (notes_in p) u k None; marks = marks_in p }
released_words p u k room =
    ap (λ l. record { notes = list_by (λ v. note_of (get_or states v 0) (get_or p.places v 0)) l; marks = list_by (λ i. mark_at (get_or states (i / 16) 0) (i % 16)) (16 * l) }) (length-changed 0 low p.states u k)
    ∙ ap (λ l. record { notes = l; marks = list_by (λ i. mark_at (get_or states (i / 16) 0) (i % 16)) (16 * length p.states) }) notes
    ∙ ap (λ l. record { notes = filled (notes_in p) u k None; marks = l }) marks
  where
    low : ℕ → ℕ
    low s = s % 2 ^ 32

    states : List ℕ
    states = changed 0 low p.states u k

    notes : list_by (λ v. note_of (get_or states v 0) (get_or p.places v 0)) (length p.states) ≡ filled (notes_in p) u k None
    notes =
        filled_entries (λ v. note_of (get_or p.states v 0) (get_or p.places v 0)) (λ v. note_of (get_or states v 0) (get_or p.places v 0)) (length p.states) u k None room
        (λ v lo hi. ap (λ s. note_of s (get_or p.places v 0)) (changed_inside 0 low p.states u k v 0 room lo hi) ∙ no_note (low (get_or p.states v 0)) (get_or p.places v 0) (omega arith))
        (λ v lt out. ap (λ s. note_of s (get_or p.places v 0)) (changed_outside 0 low p.states u k v 0 out))

    marks : list_by (λ i. mark_at (get_or states (i / 16) 0) (i % 16)) (16 * length p.states) ≡ marks_in p
    marks = same_entries Unwritten (λ i. mark_at (get_or p.states (i / 16) 0) (i % 16)) (λ i. mark_at (get_or states (i / 16) 0) (i % 16)) (16 * length p.states) (λ i lt. same i (cases_lt (i / 16) u) (cases_lt (i / 16) (u + k)))
      where
        same : (i : ℕ) → (i / 16 < u) ⊎ (u ≤ i / 16) → (i / 16 < u + k) ⊎ (u + k ≤ i / 16) → mark_at (get_or states (i / 16) 0) (i % 16) ≡ mark_at (get_or p.states (i / 16) 0) (i % 16)
        same i (inl b) h = ap (λ s. mark_at s (i % 16)) (changed_outside 0 low p.states u k (i / 16) 0 (inl b))
        same i (inr a) (inr c) = ap (λ s. mark_at s (i % 16)) (changed_outside 0 low p.states u k (i / 16) 0 (inr c))
        same i (inr a) (inl b) = ap (λ s. mark_at s (i % 16)) (changed_inside 0 low p.states u k (i / 16) 0 room a b) ∙ mark_at_low (get_or p.states (i / 16) 0) (i % 16) (omega arith)

-- ---- the calls

pub free_in : (p : UnitWords) (s : Shadowed) (n : BlockNote) → shadow_in p ≡ s → IsFree s.notes n → IsFree (notes_in p) n
free_in p s n view free = subst (λ z. IsFree z.notes n) (sym view) free

pub mark_room : (p : UnitWords) (s : Shadowed) (n : BlockNote) → shadow_in p ≡ s → IsFree s.notes n → end_unit n ≤ length p.states
mark_room p s n view free = let inside = (free_in p s n view free).inside in omega (arith, inside, length-notes p)

pub mark_view : (p q : UnitWords) (s : Shadowed) (n : BlockNote) (number place : ℕ) → shadow_in p ≡ s → IsFree s.notes n → length p.places ≡ length p.states → number ≡ n.number → note_by n.number place ≡ n
    → q ≡ record { states = filled p.states (first_unit n) (units n.length) (number * 2 ^ 32); places = filled p.places (first_unit n) (units n.length) place } → shadow_in q ≡ marked s n
mark_view p q s n number place view free even num by is =
    ap shadow_in is
    ∙ filled_words p (first_unit n) (units n.length) number place n (mark_room p s n view free) even (omega (arith, num, free.number)) (ap (λ m. note_by m place) num ∙ by)
    ∙ ap (λ z. marked z n) view

pub mark_whole : (p q : UnitWords) (s : Shadowed) (n : BlockNote) → shadow_in p ≡ s → IsFree s.notes n → AreWhole (notes_in p) → shadow_in q ≡ marked s n → AreWhole (notes_in q)
mark_whole p q s n view free whole is =
    subst (λ z. AreWhole z.notes) (sym is) (whole_marked s.notes n (subst (λ z. AreWhole z.notes) view whole) free)

-- nothing lives in zeros
pub new_view : (p : UnitWords) (len : ℕ) → len % 16 ≡ 0 → p ≡ record { states = replicate (len / 16) 0; places = replicate (len / 16) 0 } → shadow_in p ≡ record { notes = replicate (len / 16) None; marks = replicate len Unwritten }
new_view p len even is =
    ap shadow_in is
    ∙ ap (λ l. record { notes = list_by (λ u. note_of (get_or zeros u 0) (get_or zeros u 0)) l; marks = list_by (λ i. mark_at (get_or zeros (i / 16) 0) (i % 16)) (16 * l) }) (length-replicate (len / 16) 0)
    ∙ ap (λ l. record { notes = list_by (λ u. note_of (get_or zeros u 0) (get_or zeros u 0)) (len / 16); marks = list_by (λ i. mark_at (get_or zeros (i / 16) 0) (i % 16)) l }) whole
    ∙ ap (λ l. record { notes = l; marks = list_by (λ i. mark_at (get_or zeros (i / 16) 0) (i % 16)) len })
    (each (λ u. note_of (get_or zeros u 0) (get_or zeros u 0)) (len / 16) None (λ u lt. ap (λ s. note_of s (get_or zeros u 0)) (zero_at u lt) ∙ no_note 0 (get_or zeros u 0) (omega arith)))
    ∙ ap (λ l. record { notes = replicate (len / 16) None; marks = l })
    (each (λ i. mark_at (get_or zeros (i / 16) 0) (i % 16)) len Unwritten (λ i lt. ap (λ s. mark_at s (i % 16)) (zero_at (i / 16) (omega (arith, lt, even))) ∙ no_mark 0 (i % 16) (omega arith)))
  where
    zeros : List ℕ
    zeros = replicate (len / 16) 0

    whole : 16 * (len / 16) ≡ len
    whole = omega (arith, even)

    zero_at : (u : ℕ) → u < len / 16 → get_or zeros u 0 ≡ 0
    zero_at u lt = get_or-replicate (len / 16) u 0 0 lt

    each : {A : Type 0} (f : ℕ → A) (n : ℕ) (x : A) → ((i : ℕ) → i < n → f i ≡ x) → list_by f n ≡ replicate n x
    each f n x all =
        ext_get_or x (list_by f n) (replicate n x) (length-list_by f n ∙ sym (length-replicate n x))
        (λ i lt. let below : i < n = omega (arith, lt, length-list_by f n) in get_or-list_by f n i x below ∙ all i below ∙ sym (get_or-replicate n i x x below))

pub new_whole : (p : UnitWords) (len : ℕ) → len % 16 ≡ 0 → p ≡ record { states = replicate (len / 16) 0; places = replicate (len / 16) 0 } → AreWhole (notes_in p)
new_whole p len even is u n at = absurd (none-some n (sym (none_of (len / 16) u (cases_lt u (len / 16))) ∙ ap (λ s. get_or s.notes u None) (sym (new_view p len even is)) ∙ at))
  where
    none_of : (m u : ℕ) → (u < m) ⊎ (m ≤ u) → get_or (replicate {A = Option BlockNote} m None) u None ≡ None
    none_of m u (inl b) = get_or-replicate {A = Option BlockNote} m u None None b
    none_of m u (inr a) = get_or_past {X = Option BlockNote} (replicate m None) u None (omega (arith, a, length-replicate {A = Option BlockNote} m None))

-- what a look at the words of a unit finds
pub look_past : (p : UnitWords) (s : Shadowed) (u len : ℕ) → shadow_in p ≡ s → len ≡ length p.states → len ≤ u → None ≡ get_or s.notes u None
look_past p s u len view long le = sym (ap (λ z. get_or z.notes u None) (sym view) ∙ note_past p u (omega (arith, long, le)))

pub look_none : (p : UnitWords) (s : Shadowed) (u state : ℕ) → shadow_in p ≡ s → u < length p.states → state ≡ get_or p.states u 0 → state / 2 ^ 32 ≡ 0 → None ≡ get_or s.notes u None
look_none p s u state view lt is none =
    sym (ap (λ z. get_or z.notes u None) (sym view) ∙ note_at p u lt ∙ ap (λ z. note_of z (get_or p.places u 0)) (sym is) ∙ no_note state (get_or p.places u 0) none)

-- nothing lives where a first word has no number, also past the end
pub look_nothing : (p : UnitWords) (s : Shadowed) (u state : ℕ) → shadow_in p ≡ s → state ≡ get_or p.states u 0 → state / 2 ^ 32 ≡ 0 → None ≡ get_or s.notes u None
look_nothing p s u state view is none = ⊎_elim
    (λ lt. look_none p s u state view lt is none)
    (λ ge. look_past p s u (length p.states) view refl ge)
    (cases_lt u (length p.states))

-- a number stands inside
pub look_inside : (p : UnitWords) (u state : ℕ) → state ≡ get_or p.states u 0 → 0 < state / 2 ^ 32 → u < length p.states
look_inside p u state is some = ⊎_elim
    (λ lt. lt)
    (λ ge. let none : state ≡ 0 = is ∙ get_or_past p.states u 0 ge in absurd (omega (arith, none, some)))
    (cases_lt u (length p.states))

pub look_some : (p : UnitWords) (s : Shadowed) (u state place : ℕ) (n : BlockNote) → shadow_in p ≡ s → u < length p.states → state ≡ get_or p.states u 0 → place ≡ get_or p.places u 0 → 0 < state / 2 ^ 32
    → n ≡ note_by (state / 2 ^ 32) place → Some n ≡ get_or s.notes u None
look_some p s u state place n view lt is place_is some by =
    ap Some by ∙ sym (ap (λ z. get_or z.notes u None) (sym view) ∙ note_at p u lt ∙ ap (λ z. note_of z (get_or p.places u 0)) (sym is) ∙ ap (note_of state) (sym place_is) ∙ some_note state place some)

-- the block of a record whose base is known, by its words
module _ (p : UnitWords) (s : Shadowed) (base : ℕ) (view : shadow_in p ≡ s) (whole : AreWhole (notes_in p)) (live : IsLiveBase s.notes base) where
  there : get_or (notes_in p) (base / 16) None ≡ Some live.note
  there = ap (λ z. get_or z.notes (base / 16) None) view ∙ live.there

  pub clear_at : base / 16 < length p.states
  clear_at = go (cases_lt (base / 16) (length p.states))
    where
      go : (base / 16 < length p.states) ⊎ (length p.states ≤ base / 16) → base / 16 < length p.states
      go (inl lt) = lt
      go (inr le) = absurd (none-some live.note (sym (note_past p (base / 16) le) ∙ there))

  pub clear_length : get_or p.places (base / 16) 0 % 2 ^ 32 ≡ live.note.length
  clear_length = ap (λ n. n.length) (note_is _ (get_or p.places (base / 16) 0) live.note (sym (note_at p (base / 16) clear_at) ∙ there)).1

  pub clear_room : (place : ℕ) → place ≡ get_or p.places (base / 16) 0 → base / 16 + units (place % 2 ^ 32) ≤ length p.states
  clear_room place is =
      let inside = (whole (base / 16) live.note there).inside in
      let long : place % 2 ^ 32 ≡ live.note.length = ap (λ z. z % 2 ^ 32) is ∙ clear_length in
      omega (arith, inside, length-notes p, long, live.base_is)

  pub clear_view : (q : UnitWords) (place : ℕ) → place ≡ get_or p.places (base / 16) 0 → q ≡ record { states = changed 0 (λ z. z % 2 ^ 32) p.states (base / 16) (units (place % 2 ^ 32)); places = p.places } → shadow_in q ≡ cleared_at s base
  clear_view q place is new =
      ap shadow_in new
      ∙ released_words p (base / 16) (units (place % 2 ^ 32)) (clear_room place is)
      ∙ ap (λ n. record { notes = filled (notes_in p) (base / 16) (units n) None; marks = marks_in p }) (ap (λ z. z % 2 ^ 32) is ∙ clear_length)
      ∙ ap (λ b. record { notes = filled (notes_in p) (b / 16) (units live.note.length) None; marks = marks_in p }) (sym live.base_is)
      ∙ ap (λ z. cleared z live.note) view
      ∙ ap (cleared_by s) (sym live.there)

  pub clear_whole : (q : UnitWords) → shadow_in q ≡ cleared_at s base → AreWhole (notes_in q)
  clear_whole q is =
      subst (λ z. AreWhole z.notes) (sym (is ∙ ap (cleared_by s) live.there)) (whole_cleared s.notes live.note (base / 16) (subst (λ z. AreWhole z.notes) view whole) live.there)
