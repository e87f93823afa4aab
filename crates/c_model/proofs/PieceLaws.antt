-- The pieces of a monitored text joined are the text, and each is at its place.
use Rattle.std.proofs.Common.{◌≡◌, ℕ, zero, suc, ◌+◌, Bool, true, false, cond, not, ◌||◌, ◌&&◌, eqb, List, [], ◌∷◌, ◌++◌, length, take, drop, count_by, reverse, Result, Ok, Err, refl, sym, ap, subst, ◌∙◌, arith, append_assoc}
use Rattle.std.specs.List.{prefix_len, list_all}
use Rattle.std.proofs.lemmas.List.{take-append-drop, append-nil, reverse-append, reverse-reverse, length-reverse}
use Rattle.std.proofs.lemmas.List.Sums.{sum_by-cons, sum_by-append}
use Rattle.c_syntax.specs.declared.place.Place.{Place}
use Rattle.c_model.specs.declared.monitored_tokens.Found.{Found}
use Rattle.c_model.specs.declared.monitored_tokens.Fault.{Fault}
use Rattle.c_model.specs.Characters.{is_blank}
use Rattle.c_model.specs.Places.{next, walk, first_place}
use Rattle.c_model.specs.MonitoredTokens.{Pieces, Ended, Broken, Cut, fresh_behind, fresh_after, piece_at, cut, pieces_of}
use Rattle.c_model.specs.MonitoredTokenLaws.{bytes_of, in_line, place_of, starts_line, ArePlaced, Spells, AreSpelled, Breaks, AreBroken}
use Rattle.c_model.proofs.Spelling.{piece_spells}
use Rattle.c_model.proofs.BrokenPieces.{piece_breaks}

pub drop_nil : (k : ℕ) → [] ≡ drop k (let e : List ℕ = [] in e)
drop_nil zero = refl
drop_nil (suc k) = refl

pub take_nil : (k : ℕ) → take k (let e : List ℕ = [] in e) ≡ []
take_nil zero = refl
take_nil (suc k) = refl

cut_joined : (k : ℕ) (at : Place) (fresh : Bool) (bs : List ℕ) → bytes_of (cut k at fresh bs) ≡ drop k bs
unfolding cut
cut_joined k at fresh [] = drop_nil k
cut_joined (suc k) at fresh (b ∷ bs) = cut_joined k (next at b) (fresh_behind fresh b) bs
cut_joined zero at fresh (b ∷ bs) = by (piece_at fresh (b ∷ bs)) refl (λ n. cut_joined n (next at b) (fresh_behind fresh b) bs)
  where
    by : (r : Result Found Fault) → piece_at fresh (b ∷ bs) ≡ r → ((n : ℕ) → bytes_of (cut n (next at b) (fresh_behind fresh b) bs) ≡ drop n bs) → bytes_of (cut 0 at fresh (b ∷ bs)) ≡ b ∷ bs
    by (Err f) e rest = rw (e, cut) refl
    by (Ok x) e rest =
        let one : bytes_of (cut 0 at fresh (b ∷ bs)) ≡ (b ∷ take x.more bs) ++ bytes_of (cut x.more (next at b) (fresh_behind fresh b) bs) = rw (e, cut) refl in
        one ∙ ap (λ (t : List ℕ). (b ∷ take x.more bs) ++ t) (rest x.more) ∙ ap (λ (t : List ℕ). b ∷ t) (take-append-drop x.more bs)

pub pieces_joined : (text : List ℕ) → bytes_of (pieces_of text) ≡ text
pieces_joined text = cut_joined 0 first_place true text

-- ---- places

pub walk-append : (at : Place) (xs ys : List ℕ) → walk at (xs ++ ys) ≡ walk (walk at xs) ys
walk-append at [] ys = refl
walk-append at (x ∷ xs) ys = walk-append (next at x) xs ys

-- the place read from the last byte
read_back : List ℕ → Place
read_back ys = record { line = 1 + count_by (λ b. eqb b 10) ys; column = 1 + prefix_len in_line ys; offset = length ys }

-- one more byte, given what it is
step : (at : Place) (y n c o : ℕ) (b : Bool) → eqb y 10 ≡ b → at ≡ record { line = 1 + n; column = 1 + c; offset = o }
    → next at y ≡ record { line = 1 + (cond b 1 0 + n); column = 1 + cond (not b) (1 + c) 0; offset = suc o }
step at y n c o true e h =
    let l : at.line + 1 ≡ 1 + (1 + n) = omega (arith, ap (λ (p : Place). p.line) h) in
    let f : at.offset + 1 ≡ suc o = omega (arith, ap (λ (p : Place). p.offset) h) in
    rw e (λ i. record { line = l i; column = 1; offset = f i })
step at y n c o false e h =
    let l : at.line ≡ 1 + (0 + n) = omega (arith, ap (λ (p : Place). p.line) h) in
    let k : at.column + 1 ≡ 1 + (1 + c) = omega (arith, ap (λ (p : Place). p.column) h) in
    let f : at.offset + 1 ≡ suc o = omega (arith, ap (λ (p : Place). p.offset) h) in
    rw e (λ i. record { line = l i; column = k i; offset = f i })

walk_is : (ys : List ℕ) → walk first_place (reverse ys) ≡ read_back ys
unfolding read_back
walk_is [] = refl
walk_is (y ∷ ys) =
    let last : walk first_place (reverse (y ∷ ys)) ≡ next (walk first_place (reverse ys)) y = ap (walk first_place) (reverse-append (y ∷ []) ys) ∙ walk-append first_place (reverse ys) (y ∷ []) in
    let one = step (walk first_place (reverse ys)) y (count_by (λ b. eqb b 10) ys) (prefix_len in_line ys) (length ys) (eqb y 10) refl (walk_is ys) in
    last ∙ one ∙ ap (λ (n : ℕ). record { line = 1 + n; column = 1 + cond (not (eqb y 10)) (1 + prefix_len in_line ys) 0; offset = suc (length ys) }) (sym (sum_by-cons (λ b. cond (eqb b 10) 1 0) y ys))

count_back : (xs : List ℕ) → count_by (λ b. eqb b 10) (reverse xs) ≡ count_by (λ b. eqb b 10) xs
count_back [] = refl
count_back (x ∷ xs) =
    let one = ap (count_by (λ b. eqb b 10)) (reverse-append (x ∷ []) xs) in
    let two = sum_by-append (λ b. cond (eqb b 10) 1 0) (reverse xs) (x ∷ []) in
    let three = sum_by-cons (λ b. cond (eqb b 10) 1 0) x xs in
    let four = count_back xs in
    one ∙ two ∙ omega (arith, three, four)

pub walk_place : (xs : List ℕ) → walk first_place xs ≡ place_of xs
unfolding read_back
walk_place xs =
    let one : walk first_place xs ≡ read_back (reverse xs) = ap (λ (l : List ℕ). walk first_place l) (sym (reverse-reverse xs)) ∙ walk_is (reverse xs) in
    one ∙ (λ i. record { line = 1 + count_back xs i; column = 1 + prefix_len in_line (reverse xs); offset = length-reverse xs i })

-- ---- beginnings of lines

pub fresh-append : (fresh : Bool) (xs ys : List ℕ) → fresh_after fresh (xs ++ ys) ≡ fresh_after (fresh_after fresh xs) ys
fresh-append fresh [] ys = refl
fresh-append fresh (x ∷ xs) ys = fresh-append (fresh_behind fresh x) xs ys

-- the same read from the last byte
starts_back : List ℕ → Bool
starts_back ys = list_all is_blank (take (prefix_len in_line ys) ys)

suc_is : (n : ℕ) → suc n ≡ 1 + n
suc_is n = omega arith

swapped : (a b : Bool) → a && b ≡ b && a
swapped true true = refl
swapped true false = refl
swapped false true = refl
swapped false false = refl

starts_more : (y : ℕ) (ys : List ℕ) (b : Bool) → eqb y 10 ≡ b → b || (starts_back ys && is_blank y) ≡ list_all is_blank (take (cond (not b) (1 + prefix_len in_line ys) 0) (y ∷ ys))
unfolding starts_back
starts_more y ys true e = refl
starts_more y ys false e = rw (← suc_is (prefix_len in_line ys)) (swapped (starts_back ys) (is_blank y))

fresh_is : (ys : List ℕ) → fresh_after true (reverse ys) ≡ starts_back ys
unfolding starts_back
fresh_is [] = refl
fresh_is (y ∷ ys) =
    let last : fresh_after true (reverse (y ∷ ys)) ≡ fresh_behind (fresh_after true (reverse ys)) y = ap (fresh_after true) (reverse-append (y ∷ []) ys) ∙ fresh-append true (reverse ys) (y ∷ []) in
    last ∙ ap (λ (f : Bool). fresh_behind f y) (fresh_is ys) ∙ starts_more y ys (eqb y 10) refl

pub fresh_starts : (xs : List ℕ) → fresh_after true xs ≡ starts_line xs
unfolding starts_back
fresh_starts xs = ap (fresh_after true) (sym (reverse-reverse xs)) ∙ fresh_is (reverse xs)

-- ---- each piece

-- each piece is at its place and spelled as its kind is, and what is broken is broken as its fault says
abbrev pub AreSound : List ℕ → Pieces → Type 0
AreSound before (Ended at) = at ≡ place_of before
AreSound before (Broken at f rest) = (at ≡ place_of before) × Breaks before f rest
AreSound before (Cut at p bytes more) = (at ≡ place_of before) × Spells before p bytes (bytes_of more) × AreSound (before ++ bytes) more

cut_sound : (k : ℕ) (before : List ℕ) (bs : List ℕ) → AreSound (before ++ take k bs) (cut k (walk first_place before) (fresh_after true before) bs)
unfolding cut
cut_sound k before [] = rw (take_nil k, append-nil) (walk_place before)
cut_sound (suc k) before (b ∷ bs) =
    let one = cut_sound k (before ++ b ∷ []) bs in
    let two = subst (λ (at : Place). AreSound ((before ++ b ∷ []) ++ take k bs) (cut k at (fresh_after true (before ++ b ∷ [])) bs)) (walk-append first_place before (b ∷ [])) one in
    let three = subst (λ (fresh : Bool). AreSound ((before ++ b ∷ []) ++ take k bs) (cut k (next (walk first_place before) b) fresh bs)) (fresh-append true before (b ∷ [])) two in
    subst (λ (l : List ℕ). AreSound l (cut k (next (walk first_place before) b) (fresh_behind (fresh_after true before) b) bs)) (append_assoc before (b ∷ []) (take k bs)) three
cut_sound zero before (b ∷ bs) = subst (λ (l : List ℕ). AreSound l (cut 0 (walk first_place before) (fresh_after true before) (b ∷ bs))) (sym (append-nil before))
    (by (piece_at (fresh_after true before) (b ∷ bs)) refl (λ n. cut_sound n (before ++ b ∷ []) bs))
  where
    by : (r : Result Found Fault) → piece_at (fresh_after true before) (b ∷ bs) ≡ r → ((n : ℕ) → AreSound ((before ++ b ∷ []) ++ take n bs) (cut n (walk first_place (before ++ b ∷ [])) (fresh_after true (before ++ b ∷ [])) bs))
        → AreSound before (cut 0 (walk first_place before) (fresh_after true before) (b ∷ bs))
    by (Err f) e rest = rw (e, cut) (walk_place before, piece_breaks before b bs f (ap (λ (fresh : Bool). piece_at fresh (b ∷ bs)) (sym (fresh_starts before)) ∙ e))
    by (Ok x) e rest =
        let one = rest x.more in
        let two = subst (λ (at : Place). AreSound ((before ++ b ∷ []) ++ take x.more bs) (cut x.more at (fresh_after true (before ++ b ∷ [])) bs)) (walk-append first_place before (b ∷ [])) one in
        let three = subst (λ (fresh : Bool). AreSound ((before ++ b ∷ []) ++ take x.more bs) (cut x.more (next (walk first_place before) b) fresh bs)) (fresh-append true before (b ∷ [])) two in
        let four = subst (λ (l : List ℕ). AreSound l (cut x.more (next (walk first_place before) b) (fresh_behind (fresh_after true before) b) bs)) (append_assoc before (b ∷ []) (take x.more bs)) three in
        let behind : bytes_of (cut x.more (next (walk first_place before) b) (fresh_behind (fresh_after true before) b) bs) ≡ drop x.more bs = cut_joined x.more (next (walk first_place before) b) (fresh_behind (fresh_after true before) b) bs in
        let spelled = subst (λ (l : List ℕ). Spells before x.piece (b ∷ take x.more bs) l) (sym behind) (piece_spells before (b ∷ bs) x (ap (λ (fresh : Bool). piece_at fresh (b ∷ bs)) (sym (fresh_starts before)) ∙ e)) in
        rw (e, cut) (walk_place before, spelled, four)

pub pieces_sound : (text : List ℕ) → AreSound [] (pieces_of text)
pieces_sound text = cut_sound 0 [] text

sound_placed : (before : List ℕ) (ps : Pieces) → AreSound before ps → ArePlaced before ps
sound_placed before (Ended at) h = h
sound_placed before (Broken at f rest) h = h.0
sound_placed before (Cut at p bytes more) h = (h.0, sound_placed (before ++ bytes) more h.2)

pub pieces_placed : (text : List ℕ) → ArePlaced [] (pieces_of text)
pieces_placed text = sound_placed [] (pieces_of text) (pieces_sound text)

sound_spelled : (before : List ℕ) (ps : Pieces) → AreSound before ps → AreSpelled before ps
sound_spelled before (Ended at) h = tt
sound_spelled before (Broken at f rest) h = tt
sound_spelled before (Cut at p bytes more) h = (h.1, sound_spelled (before ++ bytes) more h.2)

pub pieces_spelled : (text : List ℕ) → AreSpelled [] (pieces_of text)
pieces_spelled text = sound_spelled [] (pieces_of text) (pieces_sound text)

sound_broken : (before : List ℕ) (ps : Pieces) → AreSound before ps → AreBroken before ps
sound_broken before (Ended at) h = tt
sound_broken before (Broken at f rest) h = h.1
sound_broken before (Cut at p bytes more) h = sound_broken (before ++ bytes) more h.2

pub pieces_broken : (text : List ℕ) → AreBroken [] (pieces_of text)
pieces_broken text = sound_broken [] (pieces_of text) (pieces_sound text)
