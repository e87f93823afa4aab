-- Each piece of a monitored text is spelled as its kind is.
use Rattle.std.proofs.Common.{◌≡◌, ℕ, suc, ◌+◌, ◌-◌, ◌<◌, ◌≤◌, Bool, true, false, cond, not, ◌&&◌, ◌||◌, eqb, leb, ltb, List, [], ◌∷◌, ◌++◌, length, take, drop, slice_get, is_some, Option, Some, None, Result, Ok, Err, ◌⊎◌, inl, inr, refl, sym, ap}
use Rattle.std.proofs.Common.{subst, ◌∙◌, arith, eq-eqb, true≢false}
use Rattle.std.specs.List.{prefix_len, list_all}
use Rattle.std.specs.Str.Parse.{digits_value}
use Rattle.std.proofs.lemmas.Bool.{eqb-true, leb-true, ltb-false, ltb-true}
use Rattle.std.proofs.lemmas.List.{take-append-drop, length-take}
use Rattle.c_model.specs.declared.monitored_tokens.Piece.TheVariants as piece
use Rattle.c_model.specs.declared.monitored_tokens.Found.{Found}
use Rattle.c_model.specs.declared.monitored_tokens.Fault.{Fault}
use Rattle.c_model.specs.declared.monitored_tokens.Fault.TheVariants as fault
use Rattle.c_model.specs.Characters.{is_blank, is_digit, is_nondigit, is_part, in_literal, begins_with}
use Rattle.c_model.specs.MonitoredTokens.{found, word_at, greatest_literal, literal_of, number_at, in_string, chars_of, string_at, ends_line, head_line, head_at, marks, first_mark, piece_at}
use Rattle.c_model.specs.MonitoredTokenLaws.{starts_line, Stops, IsIn, Spells}

pub chosen : {A : Type 0} (b : Bool) (x y z : A) → cond b x y ≡ z → ((b ≡ true) × (x ≡ z)) ⊎ ((b ≡ false) × (y ≡ z))
chosen true x y z e = inl (refl, e)
chosen false x y z e = inr (refl, e)

pub and_true : (a b : Bool) → a && b ≡ true → (a ≡ true) × (b ≡ true)
and_true true b e = (refl, e)
and_true false b e = absurd cc

pub suc_is : (n : ℕ) → suc n ≡ 1 + n
suc_is n = omega arith

-- what is found, spelled at so many bytes
SpelledAs : List ℕ → List ℕ → Found → Type 0
SpelledAs before bs x = Spells before x.piece (take (suc x.more) bs) (drop (suc x.more) bs)

-- ---- runs

pub run_passes : (p : ℕ → Bool) (bs : List ℕ) → list_all p (take (prefix_len p bs) bs) ≡ true
run_passes p [] = refl
run_passes p (b ∷ bs) = by (p b) refl (run_passes p bs)
  where
    by : (t : Bool) → p b ≡ t → list_all p (take (prefix_len p bs) bs) ≡ true → list_all p (take (cond t (1 + prefix_len p bs) 0) (b ∷ bs)) ≡ true
    by true e rest = rw (← suc_is (prefix_len p bs), e) rest
    by false e rest = refl

pub run_stops : (p : ℕ → Bool) (bs : List ℕ) → Stops p (drop (prefix_len p bs) bs)
run_stops p [] = tt
run_stops p (b ∷ bs) = by (p b) refl (run_stops p bs)
  where
    by : (t : Bool) → p b ≡ t → Stops p (drop (prefix_len p bs) bs) → Stops p (drop (cond t (1 + prefix_len p bs) 0) (b ∷ bs))
    by true e rest = rw (← suc_is (prefix_len p bs)) rest
    by false e rest = e

pub some_run : (p : ℕ → Bool) (b : ℕ) (bs : List ℕ) → p b ≡ true → 0 < prefix_len p (b ∷ bs)
some_run p b bs e = rw e (omega arith)

pub run_within : (p : ℕ → Bool) (bs : List ℕ) → prefix_len p bs ≤ length bs
run_within p [] = omega arith
run_within p (b ∷ bs) = by (p b) (run_within p bs)
  where
    by : (t : Bool) → prefix_len p bs ≤ length bs → cond t (1 + prefix_len p bs) 0 ≤ suc (length bs)
    by true h = omega arith
    by false h = omega arith

-- ---- names and numbers

word_spells : (before : List ℕ) (b : ℕ) (bs : List ℕ) (x : Found) → is_nondigit b ≡ true → word_at (b ∷ bs) ≡ Ok x → SpelledAs before (b ∷ bs) x
unfolding word_at SpelledAs
word_spells before b bs x letter e =
    let n = prefix_len is_part (b ∷ bs) in
    let some : 0 < n = some_run is_part b bs (ap (λ (t : Bool). t || is_digit b) letter) in
    elim (chosen (ltb 255 n) (Err fault.Name) (found piece.Word (n - 1)) (Ok x) e) [
      | inl h ↦ absurd (let f = h.1 in cc)
      | inr h ↦
          let made : Found = record { piece = piece.Word; more = n - 1 } in
          let same : made ≡ x = let f = h.1 in cc in
          let back : suc (n - 1) ≡ n = omega arith in
          subst (λ (y : Found). Spells before y.piece (take (suc y.more) (b ∷ bs)) (drop (suc y.more) (b ∷ bs))) same (record {
            first = b;
            others = take (n - 1) bs;
            joined = refl;
            begins = letter;
            parts = subst (λ (k : ℕ). list_all is_part (take k (b ∷ bs)) ≡ true) (sym back) (run_passes is_part (b ∷ bs));
            ends = subst (λ (k : ℕ). Stops is_part (drop k (b ∷ bs))) (sym back) (run_stops is_part (b ∷ bs));
            short = omega (arith, back, length-take (suc (n - 1)) (b ∷ bs), ltb-false 255 n h.0);
          })
    ]

of_literal : ℕ → Option ℕ → Result Found Fault
of_literal n r = elim r [ None ↦ Err fault.Number | Some v ↦ found (piece.Number v) (n - 1) ]

-- what digits give is their value
pub literal_some : (bs : List ℕ) (v : ℕ) → literal_of bs ≡ Some v → (list_all is_digit bs ≡ true) × (digits_value 10 bs ≡ v) × (v ≤ greatest_literal)
unfolding literal_of
literal_some bs v e = elim (chosen (list_all is_digit bs && leb (digits_value 10 bs) greatest_literal) (Some (digits_value 10 bs)) None (Some v) e) [
  | inl h ↦
      let a = and_true (list_all is_digit bs) (leb (digits_value 10 bs) greatest_literal) h.0 in
      let same : digits_value 10 bs ≡ v = let f = h.1 in cc in
      (a.0, same, subst (λ (n : ℕ). n ≤ greatest_literal) same (leb-true _ _ a.1))
  | inr h ↦ absurd (let f = h.1 in cc)
]

or_last : (a b : Bool) → (a || true) || b ≡ true
or_last true b = refl
or_last false b = refl

pub digit_in : (c : ℕ) → is_digit c ≡ true → in_literal c ≡ true
digit_in c e = rw e (or_last (is_nondigit c) (eqb c 46))

number_spells : (before : List ℕ) (b : ℕ) (bs : List ℕ) (x : Found) → is_digit b ≡ true → number_at (b ∷ bs) ≡ Ok x → SpelledAs before (b ∷ bs) x
unfolding number_at of_literal SpelledAs
number_spells before b bs x digit e = by (literal_of (take (prefix_len in_literal (b ∷ bs)) (b ∷ bs))) refl e
  where
    by : (r : Option ℕ) → literal_of (take (prefix_len in_literal (b ∷ bs)) (b ∷ bs)) ≡ r → of_literal (prefix_len in_literal (b ∷ bs)) r ≡ Ok x → Spells before x.piece (take (suc x.more) (b ∷ bs)) (drop (suc x.more) (b ∷ bs))
    by None l f = absurd cc
    by (Some v) l f =
        let n = prefix_len in_literal (b ∷ bs) in
        let some : 0 < n = some_run in_literal b bs (digit_in b digit) in
        let made : Found = record { piece = piece.Number v; more = n - 1 } in
        let same : made ≡ x = cc in
        let back : suc (n - 1) ≡ n = omega arith in
        let value = literal_some (take n (b ∷ bs)) v l in
        subst (λ (y : Found). Spells before y.piece (take (suc y.more) (b ∷ bs)) (drop (suc y.more) (b ∷ bs))) same (record {
          some = omega (arith, length-take (suc (n - 1)) (b ∷ bs));
          digits = subst (λ (k : ℕ). list_all is_digit (take k (b ∷ bs)) ≡ true) (sym back) value.0;
          value = subst (λ (k : ℕ). digits_value 10 (take k (b ∷ bs)) ≡ v) (sym back) value.1;
          small = value.2;
          ends = subst (λ (k : ℕ). Stops in_literal (drop k (b ∷ bs))) (sym back) (run_stops in_literal (b ∷ bs));
        })

-- ---- strings

-- where a run stops before the end a quote stands
pub run_quote : (bs : List ℕ) → prefix_len in_string bs < length bs → take (suc (prefix_len in_string bs)) bs ≡ take (prefix_len in_string bs) bs ++ 34 ∷ []
run_quote [] h = absurd (omega arith)
run_quote (b ∷ bs) h = by (eqb b 34) refl (run_quote bs) h
  where
    by : (t : Bool) → eqb b 34 ≡ t → (prefix_len in_string bs < length bs → take (suc (prefix_len in_string bs)) bs ≡ take (prefix_len in_string bs) bs ++ 34 ∷ [])
        → cond (not t) (1 + prefix_len in_string bs) 0 < suc (length bs)
        → take (suc (cond (not t) (1 + prefix_len in_string bs) 0)) (b ∷ bs) ≡ take (cond (not t) (1 + prefix_len in_string bs) 0) (b ∷ bs) ++ 34 ∷ []
    by true e rest lt = ap (λ (c : ℕ). c ∷ []) (eqb-true b 34 e)
    by false e rest lt = rw (← suc_is (prefix_len in_string bs)) (ap (λ (l : List ℕ). b ∷ l) (rest (omega arith)))

pub there_is : (o : Option (List ℕ)) → is_some o ≡ true → (cs : List ℕ) × (o ≡ Some cs)
there_is None e = absurd cc
there_is (Some cs) e = (cs, refl)

string_spells : (before : List ℕ) (b : ℕ) (bs : List ℕ) (x : Found) → eqb b 34 ≡ true → string_at bs ≡ Ok x → SpelledAs before (b ∷ bs) x
unfolding string_at SpelledAs
string_spells before b bs x quote e =
    let n = prefix_len in_string bs in
    elim (chosen (ltb n (length bs) && is_some (chars_of (take n bs))) (found piece.Chars (n + 1)) (Err fault.Chars) (Ok x) e) [
      | inl h ↦
          let a = and_true (ltb n (length bs)) (is_some (chars_of (take n bs))) h.0 in
          let chars = there_is (chars_of (take n bs)) a.1 in
          let made : Found = record { piece = piece.Chars; more = n + 1 } in
          let same : made ≡ x = let f = h.1 in cc in
          let next : n + 1 ≡ suc n = omega arith in
          subst (λ (y : Found). Spells before y.piece (take (suc y.more) (b ∷ bs)) (drop (suc y.more) (b ∷ bs))) same (record {
            between = take n bs;
            chars = chars.0;
            quoted = (λ i. eqb-true b 34 quote i ∷ take (next i) bs) ∙ ap (λ (l : List ℕ). 34 ∷ l) (run_quote bs (ltb-true _ _ a.0));
            are = chars.1;
          })
      | inr h ↦ absurd (let f = h.1 in cc)
    ]

-- ---- fronts

-- the front of bs is the word
pub begins_is : (w bs : List ℕ) → begins_with w bs ≡ true → bs ≡ w ++ drop (length w) bs
begins_is [] bs f = refl
begins_is (o ∷ os) [] f = absurd (true≢false (sym f))
begins_is (o ∷ os) (b ∷ bs) f =
    let f2 = and_true (eqb o b) (begins_with os bs) f in
    (λ i. sym (eqb-true o b f2.0) i ∷ begins_is os bs f2.1 i)

pub is_begun : (w rest : List ℕ) → begins_with w (w ++ rest) ≡ true
is_begun [] rest = refl
is_begun (o ∷ os) rest = rw (eq-eqb o o refl) (is_begun os rest)

pub front_is : (w rest : List ℕ) → take (length w) (w ++ rest) ≡ w
front_is [] rest = refl
front_is (o ∷ os) rest = ap (λ (t : List ℕ). o ∷ t) (front_is os rest)

pub begun_front : (w bs : List ℕ) → begins_with w bs ≡ true → take (length w) bs ≡ w
begun_front w bs f = ap (take (length w)) (begins_is w bs f) ∙ front_is w (drop (length w) bs)

-- ---- the directive

head_spells : (before bs : List ℕ) (x : Found) → starts_line before ≡ true → head_at bs ≡ Ok x → SpelledAs before bs x
unfolding head_at head_line SpelledAs
head_spells before bs x fresh e = elim (chosen (begins_with head_line bs && ends_line (drop (length head_line) bs)) (found piece.Head (length head_line - 1)) (Err fault.Directive) (Ok x) e) [
  | inl h ↦
      let a = and_true (begins_with head_line bs) (ends_line (drop (length head_line) bs)) h.0 in
      let made : Found = record { piece = piece.Head; more = length head_line - 1 } in
      let same : made ≡ x = let f = h.1 in cc in
      subst (λ (y : Found). Spells before y.piece (take (suc y.more) bs) (drop (suc y.more) bs)) same (record { first = fresh; line = begun_front head_line bs a.0; last = a.1 })
  | inr h ↦ absurd (let f = h.1 in cc)
]

-- ---- marks

-- where both begin bs and the first doesn't begin the second, the second is no longer
pub both_begin : (m q bs : List ℕ) → begins_with m bs ≡ true → begins_with q bs ≡ true → begins_with m q ≡ false → length q ≤ length m
both_begin [] q bs f g h = absurd (true≢false h)
both_begin (o ∷ os) [] bs f g h = omega arith
both_begin (o ∷ os) (r ∷ rs) [] f g h = absurd (true≢false (sym f))
both_begin (o ∷ os) (r ∷ rs) (b ∷ bs) f g h =
    let f2 = and_true (eqb o b) (begins_with os bs) f in
    let g2 = and_true (eqb r b) (begins_with rs bs) g in
    let same : o ≡ r = eqb-true o b f2.0 ∙ sym (eqb-true r b g2.0) in
    let h2 : begins_with os rs ≡ false = ap (λ (t : Bool). t && begins_with os rs) (sym (eq-eqb o r same)) ∙ h in
    let ih = both_begin os rs bs f2.1 g2.1 h2 in
    omega arith

-- none begins a later one
unfoldable pub none_begun : List ℕ → List (List ℕ) → Bool
none_begun m [] = true
none_begun m (q ∷ qs) = not (begins_with m q) && none_begun m qs

unfoldable pub longest_first : List (List ℕ) → Bool
longest_first [] = true
longest_first (m ∷ ms) = ltb 0 (length m) && (none_begun m ms && longest_first ms)

pub not_true : (b : Bool) → not b ≡ true → b ≡ false
not_true true e = absurd (true≢false (sym e))
not_true false e = refl

pub later : (m : List ℕ) (ms : List (List ℕ)) (q : List ℕ) → none_begun m ms ≡ true → IsIn ms q → begins_with m q ≡ false
unfolding none_begun
later m [] q all h = elim h [ ]
later m (r ∷ rs) q all (inl e) = subst (λ (t : List ℕ). begins_with m t ≡ false) e (not_true (begins_with m r) (and_true (not (begins_with m r)) (none_begun m rs) all).0)
later m (r ∷ rs) q all (inr there) = later m rs q (and_true (not (begins_with m r)) (none_begun m rs) all).1 there

pub record Marked (i : ℕ) (ms : List (List ℕ)) (bs : List ℕ) (x : Found) : Type 0 where
  pub place : ℕ
  pub mark : List ℕ
  pub is : x ≡ record { piece = piece.Mark (place + i); more = length mark - 1 }
  pub at : slice_get ms place ≡ Some mark
  pub begins : begins_with mark bs ≡ true
  pub some : 0 < length mark
  pub longest : (q : List ℕ) → IsIn ms q → begins_with q bs ≡ true → length q ≤ length mark

pub marked : (i : ℕ) (ms : List (List ℕ)) (bs : List ℕ) (x : Found) → longest_first ms ≡ true → first_mark i ms bs ≡ Ok x → Marked i ms bs x
unfolding longest_first
marked i [] bs x first e = absurd cc
marked i (m ∷ ms) bs x first e =
    let a = and_true (ltb 0 (length m)) (none_begun m ms && longest_first ms) first in
    let b = and_true (none_begun m ms) (longest_first ms) a.1 in
    elim (chosen (begins_with m bs) (found (piece.Mark i) (length m - 1)) (first_mark (i + 1) ms bs) (Ok x) e) [
      | inl h ↦
          let made : Found = record { piece = piece.Mark i; more = length m - 1 } in
          let same : made ≡ x = let f = h.1 in cc in
          let zeroed : i ≡ 0 + i = omega arith in
          record {
            place = 0;
            mark = m;
            is = sym same ∙ ap (λ (k : ℕ). record { piece = piece.Mark k; more = length m - 1 }) zeroed;
            at = refl;
            begins = h.0;
            some = ltb-true 0 (length m) a.0;
            longest = λ q there g. elim there [ inl s ↦ omega (arith, ap length s) | inr t ↦ both_begin m q bs h.0 g (later m ms q b.0 t) ];
          }
      | inr h ↦
          let rest = marked (i + 1) ms bs x b.1 h.1 in
          let moved : rest.place + (i + 1) ≡ suc rest.place + i = omega arith in
          record {
            place = suc rest.place;
            mark = rest.mark;
            is = rest.is ∙ ap (λ (k : ℕ). record { piece = piece.Mark k; more = length rest.mark - 1 }) moved;
            at = rest.at;
            begins = rest.begins;
            some = rest.some;
            longest = λ q there g. elim there [ inl s ↦ absurd (true≢false (sym g ∙ sym (ap (λ (t : List ℕ). begins_with t bs) s) ∙ h.0)) | inr t ↦ rest.longest q t g ];
          }
    ]

pub marks_first : longest_first marks ≡ true
unfolding longest_first none_begun marks
marks_first = refl

mark_spells : (before bs : List ℕ) (x : Found) → first_mark 0 marks bs ≡ Ok x → SpelledAs before bs x
unfolding SpelledAs
mark_spells before bs x e =
    let h = marked 0 marks bs x marks_first e in
    let back : suc (length h.mark - 1) ≡ length h.mark = omega (arith, h.some) in
    let front : take (length h.mark) bs ≡ h.mark = begun_front h.mark bs h.begins in
    let place : h.place + 0 ≡ h.place = omega arith in
    subst (λ (y : Found). Spells before y.piece (take (suc y.more) bs) (drop (suc y.more) bs)) (sym h.is)
    (rw (back, place) (record {
      at = h.at ∙ ap Some (sym front);
      longest = λ q rest there g.
          let whole : bs ≡ q ++ rest = sym (take-append-drop (length h.mark) bs) ∙ g in
          let least = h.longest q there (ap (begins_with q) whole ∙ is_begun q rest) in
          omega (arith, ap length front);
    }))

-- ---- pieces

blank_spells : (before : List ℕ) (b : ℕ) (bs : List ℕ) (x : Found) → is_blank b ≡ true → found piece.Blank 0 ≡ Ok x → SpelledAs before (b ∷ bs) x
unfolding SpelledAs
blank_spells before b bs x blank e =
    let made : Found = record { piece = piece.Blank; more = 0 } in
    let same : made ≡ x = cc in
    subst (λ (y : Found). Spells before y.piece (take (suc y.more) (b ∷ bs)) (drop (suc y.more) (b ∷ bs))) same (record { byte = b; alone = refl; blank = blank })

pub piece_spells : (before bs : List ℕ) (x : Found) → piece_at (starts_line before) bs ≡ Ok x → Spells before x.piece (take (suc x.more) bs) (drop (suc x.more) bs)
unfolding piece_at SpelledAs
piece_spells before [] x e = absurd cc
piece_spells before (b ∷ bs) x e = elim (chosen (is_blank b) (found piece.Blank 0) _ (Ok x) e) [
  | inl h ↦ blank_spells before b bs x h.0 h.1
  | inr h1 ↦ elim (chosen (is_nondigit b) (word_at (b ∷ bs)) _ (Ok x) h1.1) [
    | inl h ↦ word_spells before b bs x h.0 h.1
    | inr h2 ↦ elim (chosen (is_digit b) (number_at (b ∷ bs)) _ (Ok x) h2.1) [
      | inl h ↦ number_spells before b bs x h.0 h.1
      | inr h3 ↦ elim (chosen (eqb b 34) (string_at bs) _ (Ok x) h3.1) [
        | inl h ↦ string_spells before b bs x h.0 h.1
        | inr h4 ↦ elim (chosen (starts_line before && eqb b 35) (head_at (b ∷ bs)) (first_mark 0 marks (b ∷ bs)) (Ok x) h4.1) [
          | inl h ↦ head_spells before (b ∷ bs) x (and_true (starts_line before) (eqb b 35) h.0).0 h.1
          | inr h5 ↦ mark_spells before (b ∷ bs) x h5.1
        ]
      ]
    ]
  ]
]
