-- What is spelled as a piece of a C text is the piece that is found there.
use Rattle.std.proofs.Common.{◌≡◌, ℕ, zero, suc, ◌+◌, ◌-◌, ◌<◌, ◌≤◌, Bool, true, false, not, ◌&&◌, ◌||◌, eqb, leb, ltb, List, [], ◌∷◌, ◌++◌, length, take, drop, slice_get, is_some, Option, Some, None, option_map, Result, Ok, Err, inl, inr, refl, sym}
use Rattle.std.proofs.Common.{ap, subst, ◌∙◌, arith, append_assoc, length-append, eq-eqb, true≢false}
use Rattle.std.specs.Prelude.{bytes_eq}
use Rattle.std.specs.List.{prefix_len, list_all}
use Rattle.std.proofs.lemmas.Bool.{eqb-true, leb-true, ne_eqb, lt-leb, le-ltb, or_cases, or_parts, or_from, and_cases, and_left, and_right, not-true}
use Rattle.std.proofs.lemmas.Bool.Decides.{nat_tests}
use Rattle.c_syntax.specs.declared.types.CInt.{CInt}
use Rattle.c_model.specs.declared.c_tokens.Mode.{Mode}
use Rattle.c_model.specs.declared.c_tokens.Mode.TheVariants.{Code, Block, Line}
use Rattle.c_model.specs.declared.c_tokens.Piece.{Piece}
use Rattle.c_model.specs.declared.c_tokens.Piece.TheVariants as piece
use Rattle.c_model.specs.declared.c_tokens.Found.{Found}
use Rattle.c_model.specs.declared.c_tokens.Fault.{Fault}
use Rattle.c_model.specs.Characters.{is_blank, is_digit, is_nondigit, is_part, begins_with}
use Rattle.c_model.specs.MonitoredTokens.{marks}
use Rattle.c_model.specs.MonitoredTokenLaws.{starts_line, IsIn}
use Rattle.c_model.specs.Comments.{is_code, is_line, is_gap, ends_block, in_line, block_len, comment_len, comment_behind, blank_block, is_blank_line}
use Rattle.c_model.specs.Literals.{is_digit_of, literal_of, letter_of, string_len}
use Rattle.c_model.specs.Pieces.{found, begins_name, word, is_outside, word_at, is_dotted, number_at, letter_at, string_at, annotation_marks, mark_at, comment_at, open_block, open_line, other_at, directive_at, piece_at}
use Rattle.c_model.specs.CTokenLaws.{IsName, IsLiteral, IsLetter, spelling_of, IsString, begins_comment, begins_annotation, ends_annotation, marks_of, IsMark, HaveNoEnd, EndsComment, IsComment, IsLineComment, IsBlankBlock, IsBlankLine, IsDirective}
use Rattle.c_model.specs.CTokenLaws.{IsBlankByte, Spells, HaveBase}
use Rattle.c_model.proofs.Spelling.{chosen, and_true, begins_is, is_begun, begun_front, front_is}
use Rattle.c_model.proofs.BrokenPieces.{run_is}
use Rattle.c_model.proofs.CMarks.{mark_of}
use Rattle.c_model.proofs.CIntegers.{literal_is}
use Rattle.c_model.proofs.CSpelling.{of_literal, of_letter, of_string, of_comment, of_blank_block, of_block, of_directive, some_suc}
use Rattle.c_model.proofs.CBroken.{literal_run, letter_is, units_len, NoMark, no_mark}

-- ---- the tests of a front, in their order

-- where no annotation ends
no_close : (m : Mode) (b : ℕ) (bs : List ℕ) → ends_annotation m (b ∷ bs) ≡ false → (is_line m && eqb b 10 ≡ false) × (ends_block m (b ∷ bs) ≡ false)
no_close Code b bs e = (refl, refl)
no_close Block b bs e = (refl, e)
no_close Line b bs e = (newline_is ∙ e, refl)
  where
    newline_is : eqb b 10 ≡ begins_with (10 ∷ []) (b ∷ bs)
    newline_is = grind (arith, nat_tests)

pub apart : (m : Mode) (b : ℕ) (bs : List ℕ) → (b ≡ 10 → ⊥) → (b ≡ 42 → ⊥) → (is_line m && eqb b 10 ≡ false) × (ends_block m (b ∷ bs) ≡ false)
apart m b bs line star = (and_right (is_line m) _ (ne_eqb b 10 line), no_block m)
  where
    no_block : (m2 : Mode) → ends_block m2 (b ∷ bs) ≡ false
    no_block Code = refl
    no_block Block = and_left (eqb 42 b) _ (ne_eqb 42 b (λ e. star (sym e)))
    no_block Line = refl

pub past_blank : (b : ℕ) → 32 < b → is_blank b ≡ false
past_blank b h = or_from (eqb b 32) _ (ne_eqb b 32 (λ e. omega (arith, e))) (and_right (leb 9 b) (leb b 13) (lt-leb b 13 (omega arith)))

pub no_gap : (m : Mode) (b : ℕ) → is_blank b ≡ false → (b ≡ 64 → ⊥) → is_gap m b ≡ false
no_gap m b blank at = or_from (is_blank b) _ blank (and_right (not (is_code m)) _ (ne_eqb b 64 at))

pub no_name : (m : Mode) (b : ℕ) (bs : List ℕ) → is_nondigit b ≡ false → (b ≡ 92 → ⊥) → begins_name m (b ∷ bs) ≡ false
no_name m b bs letter back = or_from (is_nondigit b) _ letter (and_left _ _ (and_right (not (is_code m)) _ (ne_eqb b 92 back)))

pub nondigit_big : (b : ℕ) → is_nondigit b ≡ true → 65 ≤ b
nondigit_big b h = elim (or_cases _ (eqb b 95) h) [
  | inl e ↦ elim (or_cases (leb 65 b && leb b 90) (leb 97 b && leb b 122) e) [
    | inl f ↦ leb-true 65 b (and_true (leb 65 b) (leb b 90) f).0
    | inr f ↦ omega (arith, leb-true 97 b (and_true (leb 97 b) (leb b 122) f).0)
  ]
  | inr e ↦ omega (arith, eqb-true b 95 e)
]

name_big : (m : Mode) (b : ℕ) (bs : List ℕ) → begins_name m (b ∷ bs) ≡ true → 65 ≤ b
name_big m b bs h = elim (or_cases (is_nondigit b) _ h) [
  | inl e ↦ nondigit_big b e
  | inr e ↦ omega (arith, eqb-true b 92 (and_true (not (is_code m)) (eqb b 92) (and_true (not (is_code m) && eqb b 92) _ e).0).1)
]

pub blank_first : (m : Mode) (fresh : Bool) (b : ℕ) (bs : List ℕ) → ends_annotation m (b ∷ bs) ≡ false → is_gap m b ≡ true → piece_at m fresh (b ∷ bs) ≡ found piece.Blank 0
unfolding piece_at
blank_first m fresh b bs no_end gap = let ends = no_close m b bs no_end in rw (ends.0, ends.1, gap) refl

pub name_first : (m : Mode) (fresh : Bool) (b : ℕ) (bs : List ℕ) → begins_name m (b ∷ bs) ≡ true → piece_at m fresh (b ∷ bs) ≡ word_at m (b ∷ bs)
unfolding piece_at
name_first m fresh b bs begins =
    let big = name_big m b bs begins in
    let ends = apart m b bs (λ e. omega (arith, e)) (λ e. omega (arith, e)) in
    let gap : is_gap m b ≡ false = no_gap m b (past_blank b (omega arith)) (λ e. omega (arith, e)) in
    rw (ends.0, ends.1, gap, begins) refl

pub no_letter : (b : ℕ) → b < 65 → is_nondigit b ≡ false
no_letter b h = or_from _ (eqb b 95) (or_from (leb 65 b && leb b 90) _ (and_left (leb 65 b) _ (lt-leb 65 b h)) (and_left (leb 97 b) _ (lt-leb 97 b (omega arith)))) (ne_eqb b 95 (λ e. omega (arith, e)))

pub digit_first : (m : Mode) (fresh : Bool) (b : ℕ) (bs : List ℕ) → is_digit b ≡ true → piece_at m fresh (b ∷ bs) ≡ number_at m (b ∷ bs)
unfolding piece_at
digit_first m fresh b bs digit =
    let d = and_true (leb 48 b) (leb b 57) digit in
    let low = leb-true 48 b d.0 in
    let high = leb-true b 57 d.1 in
    let ends = apart m b bs (λ e. omega (arith, e)) (λ e. omega (arith, e)) in
    let gap : is_gap m b ≡ false = no_gap m b (past_blank b (omega arith)) (λ e. omega (arith, e)) in
    let name : begins_name m (b ∷ bs) ≡ false = no_name m b bs (no_letter b (omega arith)) (λ e. omega (arith, e)) in
    rw (ends.0, ends.1, gap, name, digit) refl

pub quote_first : (m : Mode) (fresh : Bool) (bs : List ℕ) → piece_at m fresh (39 ∷ bs) ≡ letter_at bs
unfolding piece_at
quote_first Code fresh bs = refl
quote_first Block fresh bs = refl
quote_first Line fresh bs = refl

pub double_quote_first : (m : Mode) (fresh : Bool) (bs : List ℕ) → piece_at m fresh (34 ∷ bs) ≡ string_at m bs
unfolding piece_at
double_quote_first Code fresh bs = refl
double_quote_first Block fresh bs = refl
double_quote_first Line fresh bs = refl

pub hash_first : (bs : List ℕ) → piece_at Code true (35 ∷ bs) ≡ directive_at bs
unfolding piece_at
hash_first bs = refl

pub slash_first : (m : Mode) (fresh : Bool) (bs : List ℕ) → piece_at m fresh (47 ∷ bs) ≡ other_at m (47 ∷ bs)
unfolding piece_at
slash_first Code true bs = refl
slash_first Code false bs = refl
slash_first Block fresh bs = refl
slash_first Line fresh bs = refl

-- ---- what is found

-- the piece is found at the front, with so many bytes
pub record IsFound (m : Mode) (fresh : Bool) (p : Piece) (bytes behind : List ℕ) : Type 0 where
  pub first : ℕ
  pub others : List ℕ
  pub joined : bytes ≡ first ∷ others
  pub is : piece_at m fresh (first ∷ (others ++ behind)) ≡ found p (length others)

found_at : (m : Mode) (fresh : Bool) (p : Piece) (bytes behind : List ℕ) (b : ℕ) (w : List ℕ) (n : ℕ) → bytes ≡ b ∷ w → piece_at m fresh (b ∷ (w ++ behind)) ≡ found p n → n ≡ length w → IsFound m fresh p bytes behind
found_at m fresh p bytes behind b w n joined e len = record { first = b; others = w; joined = joined; is = e ∙ ap (found p) len }

-- ---- names and literals

word_found : (m : Mode) (bs w : List ℕ) → word bs ≡ w → length w ≤ 255 → is_outside m w ≡ false → word_at m bs ≡ found piece.Word (length w - 1)
unfolding word_at
word_found m bs w e short inside =
    let long : ltb 255 (length (word bs)) ≡ false = ap (λ (t : List ℕ). ltb 255 (length t)) e ∙ le-ltb 255 (length w) short in
    let known : is_outside m (word bs) ≡ false = ap (is_outside m) e ∙ inside in
    rw (long, known) (ap (λ (t : List ℕ). found piece.Word (length t - 1)) e)

name_found : (m : Mode) (fresh : Bool) (bytes behind : List ℕ) → IsName m bytes behind → IsFound m fresh piece.Word bytes behind
name_found m fresh bytes behind h =
    let w : List ℕ = h.first ∷ h.others in
    let begins : begins_name m (w ++ behind) ≡ true = ap (λ (t : List ℕ). begins_name m (t ++ behind)) (sym h.joined) ∙ h.begins in
    let run = run_is is_part h.others behind h.parts h.ends in
    let all : take (prefix_len is_part (h.others ++ behind)) (h.others ++ behind) ≡ h.others = ap (λ (n : ℕ). take n (h.others ++ behind)) run ∙ front_is h.others behind in
    let is = word_found m (w ++ behind) w (ap (λ (t : List ℕ). h.first ∷ t) all) (subst (λ (t : List ℕ). length t ≤ 255) h.joined h.short) (ap (is_outside m) (sym h.joined) ∙ h.inside) in
    found_at m fresh piece.Word bytes behind h.first h.others (length w - 1) h.joined (name_first m fresh h.first (h.others ++ behind) begins ∙ is) (omega arith)

-- the first byte of a literal is a digit
record BeginsWithDigit (bytes : List ℕ) : Type 0 where
  first : ℕ
  others : List ℕ
  joined : bytes ≡ first ∷ others
  digit : is_digit first ≡ true

decimal : (b : ℕ) → is_digit_of 10 b ≡ true → is_digit b ≡ true
decimal b h = grind (arith, nat_tests)

begins_digits : (bytes digits suffix : List ℕ) → bytes ≡ digits ++ suffix → 0 < length digits → list_all (is_digit_of 10) digits ≡ true → BeginsWithDigit bytes
begins_digits bytes [] suffix joined some all = absurd (omega arith)
begins_digits bytes (d ∷ ds) suffix joined some all = record { first = d; others = ds ++ suffix; joined = joined; digit = decimal d (and_true (is_digit_of 10 d) _ all).0 }

with_base : (bytes : List ℕ) (base : ℕ) (prefix digits suffix : List ℕ) → bytes ≡ prefix ++ (digits ++ suffix) → HaveBase base prefix digits → 0 < length digits → list_all (is_digit_of base) digits ≡ true → BeginsWithDigit bytes
with_base bytes base prefix digits suffix joined (inl h) some all = elim h.1 [
  | inl p ↦ record { first = 48; others = 120 ∷ (digits ++ suffix); joined = joined ∙ ap (λ (t : List ℕ). t ++ (digits ++ suffix)) p; digit = refl }
  | inr p ↦ record { first = 48; others = 88 ∷ (digits ++ suffix); joined = joined ∙ ap (λ (t : List ℕ). t ++ (digits ++ suffix)) p; digit = refl }
]
with_base bytes base prefix digits suffix joined (inr (inl h)) some all =
    record { first = 48; others = drop 1 digits ++ suffix; joined = joined ∙ (λ i. h.1 i ++ (begins_is (48 ∷ []) digits h.2 i ++ suffix)); digit = refl }
with_base bytes base prefix digits suffix joined (inr (inr h)) some all =
    begins_digits bytes digits suffix (joined ∙ ap (λ (t : List ℕ). t ++ (digits ++ suffix)) h.1) some (subst (λ (n : ℕ). list_all (is_digit_of n) digits ≡ true) h.0 all)

begins_with_digit : (bytes : List ℕ) (v : ℕ) (t : Option CInt) → literal_of bytes ≡ Some (v, t) → BeginsWithDigit bytes
begins_with_digit bytes v t e = let h = literal_is bytes v t e in with_base bytes h.base h.prefix h.digits h.suffix h.joined h.based h.some h.are

number_found : (m : Mode) (bs : List ℕ) (v : ℕ) (t : Option CInt) → is_dotted m (drop (prefix_len is_part bs) bs) ≡ false → literal_of (take (prefix_len is_part bs) bs) ≡ Some (v, t)
    → number_at m bs ≡ found (piece.Number v t) (prefix_len is_part bs - 1)
unfolding number_at of_literal
number_found m bs v t undotted is = rw undotted (ap (of_literal (prefix_len is_part bs)) is)

literal_found : (m : Mode) (fresh : Bool) (v : ℕ) (t : Option CInt) (bytes behind : List ℕ) → IsLiteral m v t bytes behind → IsFound m fresh (piece.Number v t) bytes behind
literal_found m fresh v t bytes behind h =
    let d = begins_with_digit bytes v t h.literal in
    let whole : d.first ∷ (d.others ++ behind) ≡ bytes ++ behind = ap (λ (l : List ℕ). l ++ behind) (sym d.joined) in
    let run = literal_run m (d.first ∷ (d.others ++ behind)) v t bytes behind whole h in
    let many : prefix_len is_part (d.first ∷ (d.others ++ behind)) ≡ length bytes = ap (prefix_len is_part) whole ∙ run_is is_part bytes behind h.parts h.ends in
    let is = digit_first m fresh d.first (d.others ++ behind) d.digit ∙ number_found m (d.first ∷ (d.others ++ behind)) v t run.0 run.1 in
    found_at m fresh (piece.Number v t) bytes behind d.first d.others _ d.joined is (omega (arith, many, ap length d.joined))

letter_found : (m : Mode) (fresh : Bool) (c : ℕ) (bytes behind : List ℕ) → IsLetter c bytes behind → IsFound m fresh (piece.Letter c) bytes behind
unfolding letter_at of_letter
letter_found m fresh c bytes behind h =
    let w : List ℕ = h.unit ++ 39 ∷ [] in
    let split : w ++ behind ≡ h.unit ++ 39 ∷ behind = append_assoc h.unit (39 ∷ []) behind in
    let is : letter_at (w ++ behind) ≡ found (piece.Letter c) (length h.unit + 1) = ap of_letter (ap letter_of split ∙ letter_is c h.unit behind h.other h.one) in
    found_at m fresh (piece.Letter c) bytes behind 39 w (length h.unit + 1) h.quoted (quote_first m fresh (w ++ behind) ∙ is) (omega (arith, length-append h.unit (39 ∷ [])))

string_found : (m : Mode) (fresh : Bool) (bytes behind : List ℕ) → IsString m bytes behind → IsFound m fresh piece.Chars bytes behind
unfolding string_at of_string
string_found m fresh bytes behind h =
    let s : List ℕ = spelling_of h.units in
    let w : List ℕ = s ++ 34 ∷ [] in
    let split : w ++ behind ≡ s ++ 34 ∷ behind = append_assoc s (34 ∷ []) behind in
    let is : string_at m (w ++ behind) ≡ found piece.Chars (length s + 1) = ap of_string (ap (string_len m 0) split ∙ units_len m h.units behind h.are) in
    found_at m fresh piece.Chars bytes behind 34 w (length s + 1) h.quoted (double_quote_first m fresh (w ++ behind) ∙ is) (omega (arith, length-append s (34 ∷ [])))

-- ---- comments and annotations

line_comment_is : (m : Mode) (bs : List ℕ) → begins_annotation m (47 ∷ 47 ∷ bs) ≡ false → other_at m (47 ∷ 47 ∷ bs) ≡ found piece.Blank (comment_len m (47 ∷ 47 ∷ bs) - 1)
unfolding other_at
line_comment_is Code bs plain = let e : begins_with (47 ∷ 47 ∷ 64 ∷ []) (47 ∷ 47 ∷ bs) ≡ false = plain in rw e refl
line_comment_is Block bs plain = refl
line_comment_is Line bs plain = refl

comment_is : (m : Mode) (inside behind : List ℕ) → list_all in_line inside ≡ true → (m ≡ Block → HaveNoEnd inside behind) → EndsComment m behind → comment_len m (inside ++ behind) ≡ length inside
comment_is m [] [] line first ends = refl
comment_is m [] (b ∷ bs) line first ends = rw ends refl
comment_is m (b ∷ bs) behind line first ends =
    let h = and_true (in_line b) (list_all in_line bs) line in
    let e : eqb b 10 || ends_block m (b ∷ (bs ++ behind)) ≡ false = or_from (eqb b 10) _ (not-true (eqb b 10) h.0) (in_block m first) in
    rw e (ap suc (comment_is m bs behind h.1 (λ block. (first block).1) ends))
  where
    in_block : (m2 : Mode) → (m2 ≡ Block → HaveNoEnd (b ∷ bs) behind) → ends_block m2 (b ∷ (bs ++ behind)) ≡ false
    in_block Code none = refl
    in_block Block none = (none refl).0
    in_block Line none = refl

line_comment_found : (m : Mode) (fresh : Bool) (bytes behind : List ℕ) → IsLineComment m bytes behind → IsFound m fresh piece.Blank bytes behind
line_comment_found m fresh bytes behind h =
    let w : List ℕ = 47 ∷ 47 ∷ h.inside in
    let plain : begins_annotation m (w ++ behind) ≡ false = ap (λ (t : List ℕ). begins_annotation m (t ++ behind)) (sym h.joined) ∙ h.no_annotation in
    let line : list_all in_line w ≡ true = ap (list_all in_line) (sym h.joined) ∙ h.line in
    let len : comment_len m (w ++ behind) ≡ length w = comment_is m w behind line (λ block. (refl, (refl, h.first block))) h.ends in
    found_at m fresh piece.Blank bytes behind 47 (47 ∷ h.inside) (comment_len m (w ++ behind) - 1) h.joined (slash_first m fresh _ ∙ line_comment_is m (h.inside ++ behind) plain) (omega (arith, len))

comment_of : (bs : List ℕ) (n : ℕ) → begins_annotation Code (47 ∷ 42 ∷ bs) ≡ false → block_len bs ≡ Some n → other_at Code (47 ∷ 42 ∷ bs) ≡ found piece.Blank (n + 1)
unfolding other_at comment_at of_comment
comment_of bs n plain is =
    let e : begins_with (47 ∷ 42 ∷ 64 ∷ []) (47 ∷ 42 ∷ bs) ≡ false = (or_parts _ _ plain).0 in
    rw e (ap of_comment is)

closed_len : (inside behind : List ℕ) → HaveNoEnd inside (42 ∷ 47 ∷ behind) → block_len (inside ++ (42 ∷ 47 ∷ behind)) ≡ Some (length inside + 2)
closed_len [] behind none = refl
closed_len (b ∷ bs) behind none =
    let count : suc (length bs + 2) ≡ suc (length bs) + 2 = omega arith in
    rw (none.0) (ap (option_map suc) (closed_len bs behind none.1) ∙ ap (λ (n : ℕ). Some n) count)

comment_found : (fresh : Bool) (bytes behind : List ℕ) → IsComment bytes behind → IsFound Code fresh piece.Blank bytes behind
comment_found fresh bytes behind h =
    let w : List ℕ = h.inside ++ 42 ∷ 47 ∷ [] in
    let plain : begins_annotation Code (47 ∷ 42 ∷ (w ++ behind)) ≡ false = ap (λ (t : List ℕ). begins_annotation Code (t ++ behind)) (sym h.joined) ∙ h.no_annotation in
    let len : block_len (w ++ behind) ≡ Some (length h.inside + 2) = ap block_len (append_assoc h.inside (42 ∷ 47 ∷ []) behind) ∙ closed_len h.inside behind h.first in
    found_at Code fresh piece.Blank bytes behind 47 (42 ∷ w) (length h.inside + 2 + 1) h.joined (slash_first Code fresh _ ∙ comment_of (w ++ behind) (length h.inside + 2) plain len) (omega (arith, length-append h.inside (42 ∷ 47 ∷ [])))

pub block_at : (bs : List ℕ) → other_at Code (47 ∷ 42 ∷ 64 ∷ bs) ≡ open_block bs
unfolding other_at
block_at bs = refl

line_at : (bs : List ℕ) → other_at Code (47 ∷ 47 ∷ 64 ∷ bs) ≡ open_line bs
unfolding other_at
line_at bs = refl

-- an annotation without a token is closed
blank_closed : (c : Bool) (bs : List ℕ) (k : ℕ) → blank_block c bs ≡ Some k → block_len bs ≡ Some k
blank_closed c [] k e = absurd cc
blank_closed c (b ∷ bs) k e = elim (chosen (begins_with (42 ∷ 47 ∷ []) (b ∷ bs)) (Some 2) _ (Some k) e) [
  | inl h ↦ rw (h.0) h.1
  | inr h ↦ rw (h.0) (by (comment_behind c (b ∷ bs)) h.1 (λ d j. blank_closed d bs j))
]
  where
    by : (r : Option Bool) → (let o : Option ℕ = elim r [ None ↦ None | Some d ↦ option_map suc (blank_block d bs) ] in o) ≡ Some k
        → ((d : Bool) (j : ℕ) → blank_block d bs ≡ Some j → block_len bs ≡ Some j) → option_map suc (block_len bs) ≡ Some k
    by None f rest = absurd cc
    by (Some d) f rest = let s = some_suc (blank_block d bs) k f in ap (option_map suc) (rest d s.0 s.1) ∙ ap (λ (n : ℕ). Some n) s.2

block_opens : (bs : List ℕ) (r : Option ℕ) (n : ℕ) → block_len bs ≡ Some n → blank_block false bs ≡ r → open_block bs ≡ of_blank_block r
unfolding open_block of_block of_blank_block
block_opens bs r n closed is = ap (of_block bs) closed ∙ ap of_blank_block is

blank_block_found : (fresh : Bool) (bytes behind : List ℕ) → IsBlankBlock bytes behind → IsFound Code fresh piece.Blank bytes behind
unfolding of_blank_block
blank_block_found fresh bytes behind h =
    let k = length h.inside in
    let is = slash_first Code fresh _ ∙ block_at (h.inside ++ behind) ∙ block_opens (h.inside ++ behind) (Some k) k (blank_closed false (h.inside ++ behind) k h.blank) h.blank in
    found_at Code fresh piece.Blank bytes behind 47 (42 ∷ 64 ∷ h.inside) (k + 2) h.joined is (omega arith)

some_is : (o : Option ℕ) → is_some o ≡ true → (n : ℕ) × (o ≡ Some n)
some_is None e = absurd cc
some_is (Some n) e = (n, refl)

open_block_found : (fresh : Bool) (bytes behind : List ℕ) → bytes ≡ 47 ∷ 42 ∷ 64 ∷ [] → is_some (block_len behind) ≡ true → blank_block false behind ≡ None → IsFound Code fresh (piece.Open Block) bytes behind
unfolding of_blank_block
open_block_found fresh bytes behind joined closed token =
    let n = some_is (block_len behind) closed in
    found_at Code fresh (piece.Open Block) bytes behind 47 (42 ∷ 64 ∷ []) 2 joined (slash_first Code fresh _ ∙ block_at behind ∙ block_opens behind None n.0 n.1 token) refl

blank_line_is : (bs : List ℕ) → is_blank_line bs ≡ true → open_line bs ≡ found piece.Blank (prefix_len in_line bs + 2)
unfolding open_line
blank_line_is bs e = rw e refl

line_opens : (bs : List ℕ) → is_blank_line bs ≡ false → open_line bs ≡ found (piece.Open Line) 2
unfolding open_line
line_opens bs e = rw e refl

open_line_found : (fresh : Bool) (bytes behind : List ℕ) → bytes ≡ 47 ∷ 47 ∷ 64 ∷ [] → is_blank_line behind ≡ false → IsFound Code fresh (piece.Open Line) bytes behind
open_line_found fresh bytes behind joined token = found_at Code fresh (piece.Open Line) bytes behind 47 (47 ∷ 64 ∷ []) 2 joined (slash_first Code fresh _ ∙ line_at behind ∙ line_opens behind token) refl

blank_line_found : (fresh : Bool) (bytes behind : List ℕ) → IsBlankLine bytes behind → IsFound Code fresh piece.Blank bytes behind
blank_line_found fresh bytes behind h =
    let run = run_is in_line h.inside behind h.line h.ends in
    found_at Code fresh piece.Blank bytes behind 47 (47 ∷ 64 ∷ h.inside) _ h.joined (slash_first Code fresh _ ∙ line_at (h.inside ++ behind) ∙ blank_line_is (h.inside ++ behind) h.blank) (omega (arith, run))

directive_found : (before bytes behind : List ℕ) → IsDirective before bytes behind → IsFound Code (starts_line before) piece.Blank bytes behind
unfolding directive_at of_directive
directive_found before bytes behind h =
    let run = run_is in_line h.line behind h.alone h.ends in
    let is : directive_at (h.line ++ behind) ≡ found piece.Blank (prefix_len in_line (h.line ++ behind)) = ap (of_directive (prefix_len in_line (h.line ++ behind))) h.sound in
    let there : piece_at Code (starts_line before) (35 ∷ (h.line ++ behind)) ≡ directive_at (h.line ++ behind) = ap (λ (t : Bool). piece_at Code t (35 ∷ (h.line ++ behind))) h.first ∙ hash_first (h.line ++ behind) in
    found_at Code (starts_line before) piece.Blank bytes behind 35 h.line _ h.joined (there ∙ is) run

-- ---- operators

-- bytes with which other pieces begin
unfoldable pub taken : ℕ → Bool
taken b = is_blank b || (is_nondigit b || (is_digit b || (eqb b 64 || (eqb b 92 || (eqb b 39 || (eqb b 34 || eqb b 35))))))

other_first : (m : Mode) (fresh : Bool) (b : ℕ) (bs : List ℕ) → ends_annotation m (b ∷ bs) ≡ false → taken b ≡ false → piece_at m fresh (b ∷ bs) ≡ other_at m (b ∷ bs)
unfolding piece_at taken
other_first m fresh b bs no_end free =
    let ends = no_close m b bs no_end in
    let blank = or_parts (is_blank b) _ free in
    let letter = or_parts (is_nondigit b) _ blank.1 in
    let digit = or_parts (is_digit b) _ letter.1 in
    let at = or_parts (eqb b 64) _ digit.1 in
    let back = or_parts (eqb b 92) _ at.1 in
    let quote = or_parts (eqb b 39) _ back.1 in
    let double = or_parts (eqb b 34) (eqb b 35) quote.1 in
    let gap : is_gap m b ≡ false = or_from (is_blank b) _ blank.0 (and_right (not (is_code m)) _ at.0) in
    let name : begins_name m (b ∷ bs) ≡ false = or_from (is_nondigit b) _ letter.0 (and_left _ _ (and_right (not (is_code m)) _ back.0)) in
    let hash : is_code m && fresh && eqb b 35 ≡ false = and_right (is_code m && fresh) _ double.1 in
    rw (ends.0, ends.1, gap, name, digit.0, quote.0, double.0, hash) refl

-- what doesn't begin with these bytes doesn't begin with more of them
pub longer : (w v bs : List ℕ) → begins_with w bs ≡ false → begins_with (w ++ v) bs ≡ false
longer [] v bs e = absurd (true≢false e)
longer (o ∷ os) v [] e = refl
longer (o ∷ os) v (b ∷ bs) e = elim (and_cases (eqb o b) (begins_with os bs) e) [
  | inl h ↦ and_left (eqb o b) _ h
  | inr h ↦ and_right (eqb o b) _ (longer os v bs h)
]

pub plain_at : (m : Mode) (bs : List ℕ) → begins_comment m bs ≡ false → other_at m bs ≡ mark_at m bs
unfolding other_at
plain_at m bs e =
    let h = or_parts (is_code m && begins_with (47 ∷ 42 ∷ []) bs) (begins_with (47 ∷ 47 ∷ []) bs) e in
    let line : is_code m && begins_with (47 ∷ 47 ∷ 64 ∷ []) bs ≡ false = and_right (is_code m) _ (longer (47 ∷ 47 ∷ []) (64 ∷ []) bs h.1) in
    let block : is_code m && begins_with (47 ∷ 42 ∷ 64 ∷ []) bs ≡ false = elim (and_cases (is_code m) (begins_with (47 ∷ 42 ∷ []) bs) h.0) [
      | inl c ↦ and_left (is_code m) _ c
      | inr c ↦ and_right (is_code m) _ (longer (47 ∷ 42 ∷ []) (64 ∷ []) bs c)
    ] in
    rw (block, line, h.0, h.1) refl

same_some : (v w : List ℕ) → (let o : Option (List ℕ) = Some v in o) ≡ Some w → v ≡ w
same_some v w e = cc

pub get_in : (xs : List (List ℕ)) (k : ℕ) (w : List ℕ) → slice_get xs k ≡ Some w → IsIn xs w
get_in [] k w e = absurd cc
get_in (x ∷ xs) zero w e = inl (same_some x w e)
get_in (x ∷ xs) (suc k) w e = inr (get_in xs k w e)

pub all_in : (p : List ℕ → Bool) (xs : List (List ℕ)) (w : List ℕ) → list_all p xs ≡ true → IsIn xs w → p w ≡ true
all_in p [] w all there = elim there [ ]
all_in p (x ∷ xs) w all (inl e) = ap p (sym e) ∙ (and_true (p x) (list_all p xs) all).0
all_in p (x ∷ xs) w all (inr t) = all_in p xs w (and_true (p x) (list_all p xs) all).1 t

-- no operator stands twice in its list
unfoldable pub each_once : List (List ℕ) → Bool
each_once [] = true
each_once (w ∷ ws) = list_all (λ v. not (bytes_eq w v)) ws && each_once ws

same_bytes : (w : List ℕ) → bytes_eq w w ≡ true
same_bytes [] = refl
same_bytes (b ∷ bs) = rw (eq-eqb b b refl) (same_bytes bs)

not_behind : (x : List ℕ) (xs : List (List ℕ)) (k : ℕ) → list_all (λ v. not (bytes_eq x v)) xs ≡ true → slice_get xs k ≡ Some x → ⊥
not_behind x xs k once e = true≢false (sym (same_bytes x) ∙ not-true (bytes_eq x x) (all_in (λ v. not (bytes_eq x v)) xs x once (get_in xs k x e)))

pub one_place : (xs : List (List ℕ)) → each_once xs ≡ true → (j k : ℕ) (w : List ℕ) → slice_get xs j ≡ Some w → slice_get xs k ≡ Some w → j ≡ k
unfolding each_once
one_place [] once j k w e f = absurd cc
one_place (x ∷ xs) once zero zero w e f = refl
one_place (x ∷ xs) once zero (suc k) w e f = absurd (not_behind x xs k (and_true _ (each_once xs) once).0 (f ∙ sym e))
one_place (x ∷ xs) once (suc j) zero w e f = absurd (not_behind x xs j (and_true _ (each_once xs) once).0 (e ∙ sym f))
one_place (x ∷ xs) once (suc j) (suc k) w e f = ap suc (one_place xs (and_true _ (each_once xs) once).1 j k w e f)

pub marks_once : (m : Mode) → each_once (marks_of m) ≡ true
unfolding each_once marks annotation_marks
marks_once Code = refl
marks_once Block = refl
marks_once Line = refl

-- a byte with which no other piece begins
unfoldable pub is_free : List ℕ → Bool
is_free [] = false
is_free (b ∷ bs) = not (taken b)

pub marks_free : (m : Mode) → list_all is_free (marks_of m) ≡ true
unfolding is_free taken marks annotation_marks
marks_free Code = refl
marks_free Block = refl
marks_free Line = refl

mark_is : (m : Mode) (k : ℕ) (bytes behind : List ℕ) (r : Result Found Fault) → IsMark m k bytes behind → mark_at m (bytes ++ behind) ≡ r → r ≡ found (piece.Mark k) (length bytes - 1)
unfolding NoMark
mark_is m k bytes behind (Err f) h e = absurd (true≢false (sym (is_begun bytes behind) ∙ (no_mark m (bytes ++ behind) f e).0 bytes (get_in (marks_of m) k bytes h.at)))
mark_is m k bytes behind (Ok x) h e =
    let bs : List ℕ = bytes ++ behind in
    let g = mark_of m bs x e in
    let most = h.longest g.mark (drop (length g.mark) bs) (get_in (marks_of m) g.place g.mark g.at) (begins_is g.mark bs g.begins) in
    let least = g.longest bytes (get_in (marks_of m) k bytes h.at) (is_begun bytes behind) in
    let len : length g.mark ≡ length bytes = omega (arith, most, least) in
    let same : g.mark ≡ bytes = sym (begun_front g.mark bs g.begins) ∙ ap (λ (n : ℕ). take n bs) len ∙ front_is bytes behind in
    let place : g.place ≡ k = one_place (marks_of m) (marks_once m) g.place k bytes (g.at ∙ ap (λ (t : List ℕ). Some t) same) h.at in
    ap (λ (y : Found). let o : Result Found Fault = Ok y in o) g.is ∙ (λ i. found (piece.Mark (place i)) (length (same i) - 1))

mark_found : (m : Mode) (fresh : Bool) (k : ℕ) (bytes behind : List ℕ) → IsMark m k bytes behind → IsFound m fresh (piece.Mark k) bytes behind
unfolding is_free
mark_found m fresh k bytes behind h = by bytes (all_in is_free (marks_of m) bytes (marks_free m) (get_in (marks_of m) k bytes h.at)) h
  where
    by : (w : List ℕ) → is_free w ≡ true → IsMark m k w behind → IsFound m fresh (piece.Mark k) w behind
    by [] free g = absurd (true≢false (sym free))
    by (b ∷ w) free g =
        let is = other_first m fresh b (w ++ behind) g.no_end (not-true (taken b) free) ∙ plain_at m (b ∷ (w ++ behind)) g.no_comment ∙ mark_is m k (b ∷ w) behind (mark_at m (b ∷ (w ++ behind))) g refl in
        found_at m fresh (piece.Mark k) (b ∷ w) behind b w (length (b ∷ w) - 1) refl is (omega arith)

-- ---- all kinds

blank_byte_found : (m : Mode) (fresh : Bool) (bytes behind : List ℕ) → IsBlankByte m bytes behind → IsFound m fresh piece.Blank bytes behind
blank_byte_found m fresh bytes behind h =
    let no_end : ends_annotation m (h.byte ∷ behind) ≡ false = ap (λ (t : List ℕ). ends_annotation m (t ++ behind)) (sym h.alone) ∙ h.no_end in
    found_at m fresh piece.Blank bytes behind h.byte [] 0 h.alone (blank_first m fresh h.byte behind no_end h.blank) refl

close_block : (fresh : Bool) (bs : List ℕ) → piece_at Block fresh (42 ∷ 47 ∷ bs) ≡ found piece.Close 1
unfolding piece_at
close_block fresh bs = refl

close_line : (fresh : Bool) (bs : List ℕ) → piece_at Line fresh (10 ∷ bs) ≡ found piece.Close 0
unfolding piece_at
close_line fresh bs = refl

in_code : (fresh : Bool) (p : Piece) (m : Mode) (bytes behind : List ℕ) → m ≡ Code → IsFound Code fresh p bytes behind → IsFound m fresh p bytes behind
in_code fresh p m bytes behind code h = subst (λ (n : Mode). IsFound n fresh p bytes behind) (sym code) h

pub spelled_found : (before : List ℕ) (m : Mode) (p : Piece) (bytes behind : List ℕ) → Spells before m p bytes behind → IsFound m (starts_line before) p bytes behind
spelled_found before m piece.Blank bytes behind (inl h) = blank_byte_found m (starts_line before) bytes behind h
spelled_found before m piece.Blank bytes behind (inr (inl h)) = line_comment_found m (starts_line before) bytes behind h
spelled_found before m piece.Blank bytes behind (inr (inr (code, h))) = in_code (starts_line before) piece.Blank m bytes behind code (elim h [
  | inl c ↦ comment_found (starts_line before) bytes behind c
  | inr (inl b) ↦ blank_block_found (starts_line before) bytes behind b
  | inr (inr (inl l)) ↦ blank_line_found (starts_line before) bytes behind l
  | inr (inr (inr d)) ↦ directive_found before bytes behind d
])
spelled_found before m (piece.Open Code) bytes behind h = elim h [ ]
spelled_found before m (piece.Open Block) bytes behind h = in_code (starts_line before) (piece.Open Block) m bytes behind h.0 (open_block_found (starts_line before) bytes behind h.1 h.2 h.3)
spelled_found before m (piece.Open Line) bytes behind h =
    in_code (starts_line before) (piece.Open Line) m bytes behind h.0 (open_line_found (starts_line before) bytes behind h.1 h.2)
spelled_found before Code piece.Close bytes behind h = elim h [ ]
spelled_found before Block piece.Close bytes behind h = found_at Block (starts_line before) piece.Close bytes behind 42 (47 ∷ []) 1 h (close_block (starts_line before) behind) refl
spelled_found before Line piece.Close bytes behind h = found_at Line (starts_line before) piece.Close bytes behind 10 [] 0 h (close_line (starts_line before) behind) refl
spelled_found before m piece.Word bytes behind h = name_found m (starts_line before) bytes behind h
spelled_found before m (piece.Number v t) bytes behind h = literal_found m (starts_line before) v t bytes behind h
spelled_found before m (piece.Letter c) bytes behind h = letter_found m (starts_line before) c bytes behind h
spelled_found before m piece.Chars bytes behind h = string_found m (starts_line before) bytes behind h
spelled_found before m (piece.Mark k) bytes behind h = mark_found m (starts_line before) k bytes behind h
