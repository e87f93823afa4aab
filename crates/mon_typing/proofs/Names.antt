-- The names of a text: free ones, and which are the same.
use Rattle.std.proofs.Common.{◌≡◌, ℕ, zero, suc, ◌<◌, Bool, true, false, ◌||◌, ◌&&◌, cond, List, [], ◌∷◌, ◌++◌, map, length, nat_eq, eqb, refl, sym, ap, subst, ◌∙◌, arith, bytes_eq, true≢false, eq-eqb, eqb-true}
use Rattle.std.specs.List.{list_any, AllByRecursion}
use Rattle.std.proofs.lemmas.List.Folds.{list_any-append}
use Rattle.std.proofs.lemmas.Slice.Eq.{bytes_eq-Decides}
use Rattle.c_model.specs.MonitoredTokenLaws.{AreDistinct}
use Rattle.c_model.specs.Terminals.{found_in}
use Rattle.mon_syntax.specs.declared.word.Word.{Word}
use Rattle.mon_syntax.specs.declared.word.Word.TheVariants.{Name}
use Rattle.mon_syntax.specs.Words.{Words, type_words, constant_words, keywords, runtime_words, word_of}
use Rattle.mon_syntax.specs.Names.{IsFreeName, is_reserved, reserved_words}
use Rattle.mon_syntax.specs.Grammar.{word_at}
use Rattle.mon_syntax.specs.Checking.{is_free, word_bytes}
use Rattle.mon_syntax.specs.Valid.{has_label}
use Rattle.mon_typing.specs.Laws.{IsWord}
use Rattle.mon_typing.proofs.Holds.{first_true, second_true}

pub same_bytes : (a b : List ℕ) → bytes_eq a b ≡ true → a ≡ b
same_bytes a b h = (bytes_eq-Decides a b).0 h

pub bytes_same : (a b : List ℕ) → a ≡ b → bytes_eq a b ≡ true
bytes_same a b e = (bytes_eq-Decides a b).1 e

-- ---- free words are not reserved

-- none of these words is free
abbrev none_free : Words → Bool
none_free [] = true
none_free (x ∷ xs) = cond (is_free x.1) false (none_free xs)

abbrev spelled : Words → List (List ℕ)
spelled [] = []
spelled (x ∷ xs) = x.0 ∷ spelled xs

free_other_at : (x : List ℕ × Word) (xs : Words) (w : List ℕ) (other : Word) (b free : Bool) → is_free x.1 ≡ free → cond free false (none_free xs) ≡ true → is_free (cond b x.1 (found_in xs w other)) ≡ true
    → ((is_free (found_in xs w other) ≡ true) × (none_free xs ≡ true) × (b ≡ false))
free_other_at x xs w other true true e n h = absurd cc
free_other_at x xs w other true false e n h = absurd cc
free_other_at x xs w other false true e n h = absurd cc
free_other_at x xs w other false false e n h = (h, n, refl)

-- a word that is free in spite of these is none of them
free_past : (xs : Words) (w : List ℕ) (other : Word) → none_free xs ≡ true → is_free (found_in xs w other) ≡ true → is_free other ≡ true
free_past [] w other n h = h
free_past (x ∷ xs) w other n h = let p = free_other_at x xs w other (bytes_eq x.0 w) (is_free x.1) refl n h in free_past xs w other p.1 p.0

or_true : (a : Bool) → (a || true) ≡ true
or_true true = refl
or_true false = refl

or_false : (a b : Bool) → a ≡ false → b ≡ false → (a || b) ≡ false
or_false a b h k = ap (λ x. x || b) h ∙ k

flipped_at : (a b : List ℕ) (r : Bool) → bytes_eq a b ≡ false → bytes_eq b a ≡ r → bytes_eq b a ≡ false
flipped_at a b true h e = absurd (true≢false (sym (bytes_same a b (sym (same_bytes b a e))) ∙ h))
flipped_at a b false h e = e

flipped : (a b : List ℕ) → bytes_eq a b ≡ false → bytes_eq b a ≡ false
flipped a b h = flipped_at a b (bytes_eq b a) h refl

none_of : (xs : Words) (w : List ℕ) (other : Word) → none_free xs ≡ true → is_free (found_in xs w other) ≡ true → list_any (bytes_eq w) (spelled xs) ≡ false
none_of [] w other n h = refl
none_of (x ∷ xs) w other n h =
    let p = free_other_at x xs w other (bytes_eq x.0 w) (is_free x.1) refl n h in
    or_false (bytes_eq w x.0) (list_any (bytes_eq w) (spelled xs)) (flipped x.0 w p.2) (none_of xs w other p.1 p.0)

none_of_two : (w : List ℕ) (xs ys : List (List ℕ)) → list_any (bytes_eq w) xs ≡ false → list_any (bytes_eq w) ys ≡ false → list_any (bytes_eq w) (xs ++ ys) ≡ false
none_of_two w xs ys h k = list_any-append (bytes_eq w) xs ys ∙ or_false (list_any (bytes_eq w) xs) (list_any (bytes_eq w) ys) h k

abbrev all_among : List (List ℕ) → List (List ℕ) → Bool
all_among [] ys = true
all_among (x ∷ xs) ys = list_any (bytes_eq x) ys && all_among xs ys

differs : (w x : List ℕ) (ys : List (List ℕ)) (r : Bool) → list_any (bytes_eq x) ys ≡ true → list_any (bytes_eq w) ys ≡ false → bytes_eq w x ≡ r → bytes_eq w x ≡ false
differs w x ys true h k e = absurd (true≢false (sym (subst (λ (v : List ℕ). list_any (bytes_eq v) ys ≡ true) (sym (same_bytes w x e)) h) ∙ k))
differs w x ys false h k e = e

not_among : (w : List ℕ) (xs ys : List (List ℕ)) → all_among xs ys ≡ true → list_any (bytes_eq w) ys ≡ false → list_any (bytes_eq w) xs ≡ false
not_among w [] ys a h = refl
not_among w (x ∷ xs) ys a h =
    or_false (bytes_eq w x) (list_any (bytes_eq w) xs)
    (differs w x ys (bytes_eq w x) (first_true (list_any (bytes_eq x) ys) (all_among xs ys) a) h refl)
    (not_among w xs ys (second_true (list_any (bytes_eq x) ys) (all_among xs ys) a) h)

abbrev words : List (List ℕ)
words = spelled type_words ++ (spelled constant_words ++ (spelled keywords ++ spelled runtime_words))

reserved_are_words : all_among reserved_words words ≡ true
unfolding reserved_words
reserved_are_words = refl

free_is_none : (w : List ℕ) → is_free (word_of w) ≡ true → list_any (bytes_eq w) words ≡ false
unfolding word_of
free_is_none w h =
    let a : Word = found_in runtime_words w Name in
    let b : Word = found_in keywords w a in
    let c : Word = found_in constant_words w b in
    let h1 : is_free c ≡ true = free_past type_words w c refl h in
    let h2 : is_free b ≡ true = free_past constant_words w b refl h1 in
    let h3 : is_free a ≡ true = free_past keywords w a refl h2 in
    none_of_two w (spelled type_words) (spelled constant_words ++ (spelled keywords ++ spelled runtime_words)) (none_of type_words w c refl h)
    (none_of_two w (spelled constant_words) (spelled keywords ++ spelled runtime_words) (none_of constant_words w b refl h1)
    (none_of_two w (spelled keywords) (spelled runtime_words) (none_of keywords w a refl h2) (none_of runtime_words w Name refl h3)))

free_is_unreserved : (w : List ℕ) → is_free (word_of w) ≡ true → is_reserved w ≡ false
free_is_unreserved w h = not_among w reserved_words words reserved_are_words (free_is_none w h)

pub free_name : (names : List (List ℕ)) (n : ℕ) → n < length names → AllByRecursion IsWord names → is_free (word_at (map word_of names) n) ≡ true → IsFreeName (word_bytes names n)
free_name [] n lt all h = absurd (omega arith)
free_name (w ∷ ws) zero lt all h = record { begins = all.0.begins; parts = all.0.parts; short = all.0.short; free = free_is_unreserved w h }
free_name (w ∷ ws) (suc n) lt all h = let le : n < length ws = omega arith in free_name ws n le all.1 h

-- ---- names of different numbers differ

or_first : (a b : Bool) → (a || b) ≡ false → a ≡ false
or_first true b h = h
or_first false b h = refl

or_second : (a b : Bool) → (a || b) ≡ false → b ≡ false
or_second true b h = absurd cc
or_second false b h = h

far : (w : List ℕ) (ws : List (List ℕ)) (j : ℕ) → j < length ws → list_any (bytes_eq w) ws ≡ false → bytes_eq w (word_bytes ws j) ≡ false
far w [] j lt h = absurd (omega arith)
far w (v ∷ vs) zero lt h = or_first (bytes_eq w v) (list_any (bytes_eq w) vs) h
far w (v ∷ vs) (suc j) lt h = let le : j < length vs = omega arith in far w vs j le (or_second (bytes_eq w v) (list_any (bytes_eq w) vs) h)

same_number : (names : List (List ℕ)) (i j : ℕ) → i < length names → j < length names → AreDistinct names → bytes_eq (word_bytes names i) (word_bytes names j) ≡ true → i ≡ j
same_number [] i j lt le d h = absurd (omega arith)
same_number (w ∷ ws) zero zero lt le d h = refl
same_number (w ∷ ws) zero (suc j) lt le d h = let k : j < length ws = omega arith in absurd (true≢false (sym h ∙ far w ws j k d.0))
same_number (w ∷ ws) (suc i) zero lt le d h = let k : i < length ws = omega arith in absurd (true≢false (sym h ∙ flipped w (word_bytes ws i) (far w ws i k d.0)))
same_number (w ∷ ws) (suc i) (suc j) lt le d h = let k : i < length ws = omega arith in let m : j < length ws = omega arith in ap suc (same_number ws i j k m d.1 h)

-- ---- labels by their numbers

around_at : (names : List (List ℕ)) (l x : ℕ) (xs : List (List ℕ)) (r : Bool) → eqb l x ≡ r → (r ≡ false → has_label xs (word_bytes names l) ≡ true) → has_label (word_bytes names x ∷ xs) (word_bytes names l) ≡ true
around_at names l x xs true e h = ap (λ b. b || has_label xs (word_bytes names l)) (bytes_same (word_bytes names l) (word_bytes names x) (ap (word_bytes names) (eqb-true l x e)))
around_at names l x xs false e h = ap (λ b. bytes_eq (word_bytes names l) (word_bytes names x) || b) (h refl) ∙ or_true (bytes_eq (word_bytes names l) (word_bytes names x))

pub is_around : (names : List (List ℕ)) (l : ℕ) (ls : List ℕ) → list_any (nat_eq l) ls ≡ true → has_label (map (word_bytes names) ls) (word_bytes names l) ≡ true
is_around names l [] h = absurd cc
is_around names l (x ∷ xs) h = around_at names l x (map (word_bytes names) xs) (eqb l x) refl (λ e. is_around names l xs (rw e at h))

apart_at : (names : List (List ℕ)) (l x : ℕ) (r : Bool) → l < length names → x < length names → AreDistinct names → eqb l x ≡ false → bytes_eq (word_bytes names l) (word_bytes names x) ≡ r → bytes_eq (word_bytes names l) (word_bytes names x) ≡ false
apart_at names l x true lt le d e h = absurd (true≢false (sym (eq-eqb l x (same_number names l x lt le d h)) ∙ e))
apart_at names l x false lt le d e h = h

pub not_around : (names : List (List ℕ)) (l : ℕ) (ls : List ℕ) → l < length names → AllByRecursion (λ x. x < length names) ls → AreDistinct names → list_any (nat_eq l) ls ≡ false → has_label (map (word_bytes names) ls) (word_bytes names l) ≡ false
not_around names l [] lt all d h = refl
not_around names l (x ∷ xs) lt all d h =
    or_false (bytes_eq (word_bytes names l) (word_bytes names x)) (has_label (map (word_bytes names) xs) (word_bytes names l))
    (apart_at names l x (bytes_eq (word_bytes names l) (word_bytes names x)) lt all.0 d (or_first (eqb l x) (list_any (nat_eq l) xs) h) refl)
    (not_around names l xs lt all.1 d (or_second (eqb l x) (list_any (nat_eq l) xs) h))
