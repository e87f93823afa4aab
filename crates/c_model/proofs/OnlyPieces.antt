-- The pieces of a monitored text are the only ones that are placed, spelled and broken as the laws say.
use Rattle.std.proofs.Common.{◌≡◌, ℕ, suc, ◌+◌, ◌-◌, ◌<◌, ◌≤◌, Bool, true, false, ◌&&◌, eqb, leb, ltb, List, [], ◌∷◌, ◌++◌, length, take, drop, is_some, Option, Some, None, Result, Ok, Err, refl, sym, ap, subst, ◌∙◌, arith, append_assoc}
use Rattle.std.proofs.Common.{length-append, true≢false}
use Rattle.std.specs.List.{prefix_len}
use Rattle.std.proofs.lemmas.Bool.{leb-true, lt-ltb, le-ltb, ltb-true, or_parts, and_right, not-true}
use Rattle.std.proofs.lemmas.List.{take-append-drop, length-take}
use Rattle.c_syntax.specs.declared.place.Place.{Place}
use Rattle.c_model.specs.declared.monitored_tokens.Piece.{Piece}
use Rattle.c_model.specs.declared.monitored_tokens.Piece.TheVariants as piece
use Rattle.c_model.specs.declared.monitored_tokens.Found.{Found}
use Rattle.c_model.specs.declared.monitored_tokens.Fault.{Fault}
use Rattle.c_model.specs.declared.monitored_tokens.Fault.TheVariants as fault
use Rattle.c_model.specs.declared.c_tokens.Mode.TheVariants.{Code}
use Rattle.c_model.specs.Characters.{is_blank, is_digit, is_nondigit, is_part, in_literal, begins_with}
use Rattle.c_model.specs.Places.{next, walk, first_place}
use Rattle.c_model.specs.MonitoredTokens.{found, word_at, literal_of, number_at, in_string, chars_of, string_at, ends_line, head_line, head_at, marks, first_mark, piece_at, fresh_behind, fresh_after, Pieces, Ended, Broken, Cut, cut, pieces_of}
use Rattle.c_model.specs.MonitoredTokenLaws.{bytes_of, starts_line, ArePlaced, IsName, IsNumber, IsString, IsIn, IsMark, IsHead, Spells, AreSpelled, IsNoNumber, IsNoString, IsOtherLine, Breaks, AreBroken}
use Rattle.c_model.proofs.Spelling.{and_true, run_stops, some_run, digit_in, literal_some, run_quote, there_is, begins_is, is_begun, begun_front, front_is, marked, marks_first}
use Rattle.c_model.proofs.BrokenPieces.{run_is, none_begins, no_mark_fault, behind_is, digits_in, literal_all, of_literal, chars_clear}
use Rattle.c_model.proofs.PieceLaws.{walk-append, walk_place, fresh-append, fresh_starts}
use Rattle.c_model.proofs.COnePiece.{past_blank, nondigit_big, no_letter, taken, is_free, marks_free, marks_once, all_in, get_in, one_place}

-- the piece is found at the front, with so many bytes
record IsFound (fresh : Bool) (p : Piece) (bytes behind : List ℕ) : Type 0 where
  first : ℕ
  others : List ℕ
  joined : bytes ≡ first ∷ others
  is : piece_at fresh (first ∷ (others ++ behind)) ≡ found p (length others)

found_at : (fresh : Bool) (p : Piece) (bytes behind : List ℕ) (b : ℕ) (w : List ℕ) (n : ℕ) → bytes ≡ b ∷ w → piece_at fresh (b ∷ (w ++ behind)) ≡ found p n → n ≡ length w → IsFound fresh p bytes behind
found_at fresh p bytes behind b w n joined e len = record { first = b; others = w; joined = joined; is = e ∙ ap (found p) len }

-- ---- names and numbers

-- a letter is no blank
letter_past : (b : ℕ) → is_nondigit b ≡ true → is_blank b ≡ false
letter_past b letter = past_blank b (omega (arith, nondigit_big b letter))

name_first : (fresh : Bool) (b : ℕ) (bs : List ℕ) → is_nondigit b ≡ true → piece_at fresh (b ∷ bs) ≡ word_at (b ∷ bs)
unfolding piece_at
name_first fresh b bs letter = let blank = letter_past b letter in rw (blank, letter) refl

word_found : (bs : List ℕ) → prefix_len is_part bs ≤ 255 → word_at bs ≡ found piece.Word (prefix_len is_part bs - 1)
unfolding word_at
word_found bs short = let e : ltb 255 (prefix_len is_part bs) ≡ false = le-ltb 255 (prefix_len is_part bs) short in rw e refl

name_found : (fresh : Bool) (bytes behind : List ℕ) → IsName bytes behind → IsFound fresh piece.Word bytes behind
name_found fresh bytes behind h =
    let run : prefix_len is_part (h.first ∷ (h.others ++ behind)) ≡ length bytes = ap (λ (t : List ℕ). prefix_len is_part (t ++ behind)) (sym h.joined) ∙ run_is is_part bytes behind h.parts h.ends in
    let is = name_first fresh h.first (h.others ++ behind) h.begins ∙ word_found (h.first ∷ (h.others ++ behind)) (omega (arith, run, h.short)) in
    found_at fresh piece.Word bytes behind h.first h.others _ h.joined is (omega (arith, run, ap length h.joined))

digit_first : (fresh : Bool) (b : ℕ) (bs : List ℕ) → is_digit b ≡ true → piece_at fresh (b ∷ bs) ≡ number_at (b ∷ bs)
unfolding piece_at
digit_first fresh b bs digit =
    let d = and_true (leb 48 b) (leb b 57) digit in
    let low = leb-true 48 b d.0 in
    let high = leb-true b 57 d.1 in
    let blank = past_blank b (omega arith) in
    let letter = no_letter b (omega arith) in
    rw (blank, letter, digit) refl

number_found : (fresh : Bool) (v : ℕ) (bytes behind : List ℕ) → IsNumber v bytes behind → IsFound fresh (piece.Number v) bytes behind
unfolding number_at of_literal
number_found fresh v [] behind h = absurd (omega (arith, h.some))
number_found fresh v (b ∷ w) behind h =
    let bs : List ℕ = b ∷ (w ++ behind) in
    let run : prefix_len in_literal bs ≡ length (b ∷ w) = run_is in_literal (b ∷ w) behind (digits_in (b ∷ w) h.digits) h.ends in
    let front : take (prefix_len in_literal bs) bs ≡ b ∷ w = ap (λ (n : ℕ). take n bs) run ∙ front_is (b ∷ w) behind in
    let is : number_at bs ≡ found (piece.Number v) (prefix_len in_literal bs - 1) = ap (of_literal (prefix_len in_literal bs)) (ap literal_of front ∙ literal_all (b ∷ w) v h.digits h.value h.small) in
    found_at fresh (piece.Number v) (b ∷ w) behind b w _ refl (digit_first fresh b (w ++ behind) (and_true (is_digit b) _ h.digits).0 ∙ is) (omega (arith, run))

-- ---- strings and the directive

quote_first : (fresh : Bool) (bs : List ℕ) → piece_at fresh (34 ∷ bs) ≡ string_at bs
unfolding piece_at
quote_first fresh bs = refl

string_is : (bs between chars behind : List ℕ) → bs ≡ between ++ 34 ∷ behind → chars_of between ≡ Some chars → string_at bs ≡ found piece.Chars (length between + 1)
unfolding string_at
string_is bs between chars behind split are =
    let run : prefix_len in_string bs ≡ length between = ap (prefix_len in_string) split ∙ run_is in_string between (34 ∷ behind) (chars_clear between chars are) refl in
    let front : take (prefix_len in_string bs) bs ≡ between = (λ i. take (run i) (split i)) ∙ front_is between (34 ∷ behind) in
    let some : is_some (chars_of (take (prefix_len in_string bs) bs)) ≡ true = ap (λ (l : List ℕ). is_some (chars_of l)) front ∙ ap is_some are in
    let closed : ltb (prefix_len in_string bs) (length bs) ≡ true = lt-ltb _ _ (omega (arith, run, ap length split, length-append between (34 ∷ behind))) in
    rw (closed, some) (ap (λ (n : ℕ). found piece.Chars (n + 1)) run)

string_found : (fresh : Bool) (bytes behind : List ℕ) → IsString bytes → IsFound fresh piece.Chars bytes behind
string_found fresh bytes behind h =
    let w : List ℕ = h.between ++ 34 ∷ [] in
    let is = string_is (w ++ behind) h.between h.chars behind (append_assoc h.between (34 ∷ []) behind) h.are in
    found_at fresh piece.Chars bytes behind 34 w (length h.between + 1) h.quoted (quote_first fresh (w ++ behind) ∙ is) (omega (arith, length-append h.between (34 ∷ [])))

hash_first : (bs : List ℕ) → piece_at true (35 ∷ bs) ≡ head_at (35 ∷ bs)
unfolding piece_at
hash_first bs = refl

head_is : (bs : List ℕ) → begins_with head_line bs ≡ true → ends_line (drop (length head_line) bs) ≡ true → head_at bs ≡ found piece.Head (length head_line - 1)
unfolding head_at
head_is bs begins ends = rw (begins, ends) refl

hash_line : head_line ≡ 35 ∷ drop 1 head_line
unfolding head_line
hash_line = refl

head_found : (before bytes behind : List ℕ) → IsHead before bytes behind → IsFound (starts_line before) piece.Head bytes behind
head_found before bytes behind h =
    let w : List ℕ = drop 1 head_line in
    let whole : head_line ++ behind ≡ 35 ∷ (w ++ behind) = ap (λ (t : List ℕ). t ++ behind) hash_line in
    let is : head_at (head_line ++ behind) ≡ found piece.Head (length head_line - 1) = head_is (head_line ++ behind) (is_begun head_line behind) (ap ends_line (behind_is head_line behind) ∙ h.last) in
    let there : piece_at (starts_line before) (35 ∷ (w ++ behind)) ≡ found piece.Head (length head_line - 1) =
    ap (λ (t : Bool). piece_at t (35 ∷ (w ++ behind))) h.first ∙ hash_first (w ++ behind) ∙ ap head_at (sym whole) ∙ is in
    found_at (starts_line before) piece.Head bytes behind 35 w (length head_line - 1) (h.line ∙ hash_line) there (omega (arith, ap length hash_line))

-- ---- punctuators

mark_first : (fresh : Bool) (b : ℕ) (bs : List ℕ) → taken b ≡ false → piece_at fresh (b ∷ bs) ≡ first_mark 0 marks (b ∷ bs)
unfolding piece_at taken
mark_first fresh b bs free =
    let blank = or_parts (is_blank b) _ free in
    let letter = or_parts (is_nondigit b) _ blank.1 in
    let digit = or_parts (is_digit b) _ letter.1 in
    let at = or_parts (eqb b 64) _ digit.1 in
    let back = or_parts (eqb b 92) _ at.1 in
    let quote = or_parts (eqb b 39) _ back.1 in
    let double = or_parts (eqb b 34) (eqb b 35) quote.1 in
    let hash : fresh && eqb b 35 ≡ false = and_right fresh _ double.1 in
    rw (blank.0, letter.0, digit.0, double.0, hash) refl

mark_is : (k : ℕ) (bytes behind : List ℕ) (r : Result Found Fault) → IsMark k bytes behind → first_mark 0 marks (bytes ++ behind) ≡ r → r ≡ found (piece.Mark k) (length bytes - 1)
mark_is k bytes behind (Err f) h e = absurd (true≢false (sym (is_begun bytes behind) ∙ none_begins 0 marks (bytes ++ behind) f e bytes (get_in marks k bytes h.at)))
mark_is k bytes behind (Ok x) h e =
    let bs : List ℕ = bytes ++ behind in
    let g = marked 0 marks bs x marks_first e in
    let most = h.longest g.mark (drop (length g.mark) bs) (get_in marks g.place g.mark g.at) (begins_is g.mark bs g.begins) in
    let least = g.longest bytes (get_in marks k bytes h.at) (is_begun bytes behind) in
    let len : length g.mark ≡ length bytes = omega (arith, most, least) in
    let same : g.mark ≡ bytes = sym (begun_front g.mark bs g.begins) ∙ ap (λ (n : ℕ). take n bs) len ∙ front_is bytes behind in
    let place : g.place + 0 ≡ k = omega (arith, one_place marks (marks_once Code) g.place k bytes (g.at ∙ ap (λ (t : List ℕ). Some t) same) h.at) in
    ap (λ (y : Found). let o : Result Found Fault = Ok y in o) g.is ∙ (λ i. found (piece.Mark (place i)) (length (same i) - 1))

mark_found : (fresh : Bool) (k : ℕ) (bytes behind : List ℕ) → IsMark k bytes behind → IsFound fresh (piece.Mark k) bytes behind
unfolding is_free
mark_found fresh k bytes behind h = by bytes (all_in is_free marks bytes (marks_free Code) (get_in marks k bytes h.at)) h
  where
    by : (w : List ℕ) → is_free w ≡ true → IsMark k w behind → IsFound fresh (piece.Mark k) w behind
    by [] free g = absurd (true≢false (sym free))
    by (b ∷ w) free g =
        let is = mark_first fresh b (w ++ behind) (not-true (taken b) free) ∙ mark_is k (b ∷ w) behind (first_mark 0 marks (b ∷ (w ++ behind))) g refl in
        found_at fresh (piece.Mark k) (b ∷ w) behind b w (length (b ∷ w) - 1) refl is (omega arith)

-- ---- all kinds

blank_first : (fresh : Bool) (b : ℕ) (bs : List ℕ) → is_blank b ≡ true → piece_at fresh (b ∷ bs) ≡ found piece.Blank 0
unfolding piece_at
blank_first fresh b bs blank = rw blank refl

spelled_found : (before : List ℕ) (p : Piece) (bytes behind : List ℕ) → Spells before p bytes behind → IsFound (starts_line before) p bytes behind
spelled_found before piece.Blank bytes behind h = found_at (starts_line before) piece.Blank bytes behind h.byte [] 0 h.alone (blank_first (starts_line before) h.byte behind h.blank) refl
spelled_found before piece.Word bytes behind h = name_found (starts_line before) bytes behind h
spelled_found before (piece.Number v) bytes behind h = number_found (starts_line before) v bytes behind h
spelled_found before piece.Chars bytes behind h = string_found (starts_line before) bytes behind h
spelled_found before (piece.Mark k) bytes behind h = mark_found (starts_line before) k bytes behind h
spelled_found before piece.Head bytes behind h = head_found before bytes behind h

-- ---- faults

-- the text is broken there, and found to be so
record IsFaulty (fresh : Bool) (f : Fault) (bs : List ℕ) : Type 0 where
  first : ℕ
  others : List ℕ
  joined : bs ≡ first ∷ others
  is : piece_at fresh (first ∷ others) ≡ Err f

faulty_at : (fresh : Bool) (f : Fault) (bs : List ℕ) (b : ℕ) (w : List ℕ) → bs ≡ b ∷ w → piece_at fresh (b ∷ w) ≡ Err f → IsFaulty fresh f bs
faulty_at fresh f bs b w joined e = record { first = b; others = w; joined = joined; is = e }

too_long : (bs : List ℕ) → 255 < prefix_len is_part bs → word_at bs ≡ Err fault.Name
unfolding word_at
too_long bs long = let e : ltb 255 (prefix_len is_part bs) ≡ true = lt-ltb 255 (prefix_len is_part bs) long in rw e refl

no_number_at : (bs : List ℕ) → IsNoNumber bs → number_at bs ≡ Err fault.Number
unfolding number_at of_literal
no_number_at bs h = by (literal_of (take (prefix_len in_literal bs) bs)) refl
  where
    some : (b : ℕ) (w : List ℕ) → is_digit b ≡ true → 0 < length (take (prefix_len in_literal (b ∷ w)) (b ∷ w))
    some b w digit = let run = some_run in_literal b w (digit_in b digit) in omega (arith, length-take (prefix_len in_literal (b ∷ w)) (b ∷ w))

    by : (r : Option ℕ) → literal_of (take (prefix_len in_literal bs) bs) ≡ r → of_literal (prefix_len in_literal bs) r ≡ Err fault.Number
    by None e = refl
    by (Some v) e =
        let value = literal_some (take (prefix_len in_literal bs) bs) v e in
        let n = prefix_len in_literal bs in
        absurd (h.none v (take n bs) (drop n bs) (sym (take-append-drop n bs)) (record {
          some = subst (λ (t : List ℕ). 0 < length (take (prefix_len in_literal t) t)) (sym h.joined) (some h.first h.others h.begins);
          digits = value.0;
          value = value.1;
          small = value.2;
          ends = run_stops in_literal bs;
        }))

no_string_at : (bs : List ℕ) (h : IsNoString bs) → string_at h.others ≡ Err fault.Chars
unfolding string_at
no_string_at bs h = by (ltb (prefix_len in_string h.others) (length h.others) && is_some (chars_of (take (prefix_len in_string h.others) h.others))) refl
  where
    whole : prefix_len in_string h.others < length h.others → bs ≡ (34 ∷ take (prefix_len in_string h.others) h.others ++ 34 ∷ []) ++ drop (suc (prefix_len in_string h.others)) h.others
    whole closed =
        let n = prefix_len in_string h.others in
        h.joined ∙ ap (λ (t : List ℕ). 34 ∷ t) (sym (take-append-drop (suc n) h.others) ∙ ap (λ (t : List ℕ). t ++ drop (suc n) h.others) (run_quote h.others closed))

    by : (t : Bool) → ltb (prefix_len in_string h.others) (length h.others) && is_some (chars_of (take (prefix_len in_string h.others) h.others)) ≡ t → string_at h.others ≡ Err fault.Chars
    by false e = rw e refl
    by true e =
        let n = prefix_len in_string h.others in
        let a = and_true (ltb n (length h.others)) (is_some (chars_of (take n h.others))) e in
        let chars = there_is (chars_of (take n h.others)) a.1 in
        absurd (h.none (34 ∷ take n h.others ++ 34 ∷ []) (drop (suc n) h.others) (whole (ltb-true n (length h.others) a.0)) (record { between = take n h.others; chars = chars.0; quoted = refl; are = chars.1 }))

no_head_at : (before bs : List ℕ) → IsOtherLine before bs → head_at bs ≡ Err fault.Directive
unfolding head_at
no_head_at before bs h = by (begins_with head_line bs && ends_line (drop (length head_line) bs)) refl
  where
    by : (t : Bool) → begins_with head_line bs && ends_line (drop (length head_line) bs) ≡ t → head_at bs ≡ Err fault.Directive
    by false e = rw e refl
    by true e =
        let a = and_true (begins_with head_line bs) (ends_line (drop (length head_line) bs)) e in
        absurd (h.none head_line (drop (length head_line) bs) (begins_is head_line bs a.0) (record { first = h.first; line = refl; last = a.1 }))

no_mark_at : (bs : List ℕ) → ((q : List ℕ) → IsIn marks q → begins_with q bs ≡ false) → first_mark 0 marks bs ≡ Err fault.Byte
no_mark_at bs none = by (first_mark 0 marks bs) refl
  where
    by : (r : Result Found Fault) → first_mark 0 marks bs ≡ r → r ≡ Err fault.Byte
    by (Err f) e = ap (λ (g : Fault). let o : Result Found Fault = Err g in o) (no_mark_fault 0 marks bs f e)
    by (Ok x) e = let h = marked 0 marks bs x marks_first e in absurd (true≢false (sym h.begins ∙ none h.mark (get_in marks h.place h.mark h.at)))

nothing_at : (fresh : Bool) (b : ℕ) (bs : List ℕ) → is_blank b ≡ false → is_nondigit b ≡ false → is_digit b ≡ false → eqb b 34 ≡ false → fresh && eqb b 35 ≡ false
    → ((q : List ℕ) → IsIn marks q → begins_with q (b ∷ bs) ≡ false) → piece_at fresh (b ∷ bs) ≡ Err fault.Byte
unfolding piece_at
nothing_at fresh b bs blank letter digit quote hash none = rw (blank, letter, digit, quote, hash) (no_mark_at (b ∷ bs) none)

breaks_found : (before : List ℕ) (f : Fault) (bs : List ℕ) → Breaks before f bs → IsFaulty (starts_line before) f bs
breaks_found before fault.Byte bs h =
    faulty_at (starts_line before) fault.Byte bs h.first h.others h.joined (nothing_at (starts_line before) h.first h.others h.no_blank h.no_name h.no_number h.no_string h.no_line (λ q there. ap (begins_with q) (sym h.joined) ∙ h.no_mark q there))
breaks_found before fault.Name bs h = faulty_at (starts_line before) fault.Name bs h.first h.others h.joined (name_first (starts_line before) h.first h.others h.begins ∙ ap word_at (sym h.joined) ∙ too_long bs h.long)
breaks_found before fault.Number bs h =
    faulty_at (starts_line before) fault.Number bs h.first h.others h.joined (digit_first (starts_line before) h.first h.others h.begins ∙ ap number_at (sym h.joined) ∙ no_number_at bs h)
breaks_found before fault.Chars bs h = faulty_at (starts_line before) fault.Chars bs 34 h.others h.joined (quote_first (starts_line before) h.others ∙ no_string_at bs h)
breaks_found before fault.Directive bs h =
    let there : piece_at (starts_line before) (35 ∷ h.others) ≡ head_at (35 ∷ h.others) = ap (λ (t : Bool). piece_at t (35 ∷ h.others)) h.first ∙ hash_first h.others in
    faulty_at (starts_line before) fault.Directive bs 35 h.others h.joined (there ∙ ap head_at (sym h.joined) ∙ no_head_at before bs h)

-- ---- all pieces

-- the bytes of the piece before are passed over
cut_past : (w r : List ℕ) (at : Place) (fresh : Bool) → cut (length w) at fresh (w ++ r) ≡ cut 0 (walk at w) (fresh_after fresh w) r
unfolding cut
cut_past [] r at fresh = refl
cut_past (b ∷ w) r at fresh = cut_past w r (next at b) (fresh_behind fresh b)

-- the text after these bytes, cut
abbrev cut_behind : List ℕ → List ℕ → Pieces
cut_behind before bs = cut 0 (walk first_place before) (fresh_after true before) bs

only_cut : (before : List ℕ) (ps : Pieces) → ArePlaced before ps → AreSpelled before ps → AreBroken before ps → ps ≡ cut_behind before (bytes_of ps)
unfolding cut
only_cut before (Ended at) placed spelled broken = ap Ended (placed ∙ sym (walk_place before))
only_cut before (Broken at f rest) placed spelled broken =
    let h = breaks_found before f rest broken in
    let there = placed ∙ sym (walk_place before) in
    let is : piece_at (fresh_after true before) (h.first ∷ h.others) ≡ Err f = ap (λ (fresh : Bool). piece_at fresh (h.first ∷ h.others)) (fresh_starts before) ∙ h.is in
    let one : cut_behind before (h.first ∷ h.others) ≡ Broken (walk first_place before) f (h.first ∷ h.others) = rw (is, cut) refl in
    (λ i. Broken (there i) f (h.joined i)) ∙ sym one ∙ ap (cut_behind before) (sym h.joined)
only_cut before (Cut at p bytes more) placed spelled broken =
    let behind = bytes_of more in
    let h = spelled_found before p bytes behind spelled.0 in
    let w : List ℕ = h.first ∷ h.others in
    let there = placed.0 ∙ sym (walk_place before) in
    let is : piece_at (fresh_after true before) (h.first ∷ (h.others ++ behind)) ≡ found p (length h.others) = ap (λ (fresh : Bool). piece_at fresh (h.first ∷ (h.others ++ behind))) (fresh_starts before) ∙ h.is in
    let rest : Pieces = cut (length h.others) (next (walk first_place before) h.first) (fresh_behind (fresh_after true before) h.first) (h.others ++ behind) in
    let one : cut_behind before (h.first ∷ (h.others ++ behind)) ≡ Cut (walk first_place before) p (h.first ∷ take (length h.others) (h.others ++ behind)) rest = rw (is, cut) refl in
    let front : bytes ≡ h.first ∷ take (length h.others) (h.others ++ behind) = h.joined ∙ ap (λ (t : List ℕ). h.first ∷ t) (sym (front_is h.others behind)) in
    let place : walk first_place (before ++ bytes) ≡ walk (walk first_place before) w = ap (λ (t : List ℕ). walk first_place (before ++ t)) h.joined ∙ walk-append first_place before w in
    let line : fresh_after true (before ++ bytes) ≡ fresh_after (fresh_after true before) w = ap (λ (t : List ℕ). fresh_after true (before ++ t)) h.joined ∙ fresh-append true before w in
    let past : cut_behind (before ++ bytes) behind ≡ rest = (λ i. cut 0 (place i) (line i) behind) ∙ sym (cut_past h.others behind (next (walk first_place before) h.first) (fresh_behind (fresh_after true before) h.first)) in
    let same : more ≡ rest = only_cut (before ++ bytes) more placed.1 spelled.1 broken ∙ past in
    (λ i. Cut (there i) p (front i) (same i)) ∙ sym one ∙ ap (λ (t : List ℕ). cut_behind before (t ++ behind)) (sym h.joined)

pub only_pieces : (text : List ℕ) (ps : Pieces) → bytes_of ps ≡ text → ArePlaced [] ps → AreSpelled [] ps → AreBroken [] ps → ps ≡ pieces_of text
only_pieces text ps joined placed spelled broken = only_cut [] ps placed spelled broken ∙ ap (cut 0 first_place true) joined
