-- What is broken in a C text as a fault says is found to be broken so.
use Rattle.std.proofs.Common.{◌≡◌, ℕ, ◌<◌, ◌≤◌, Bool, true, false, ◌&&◌, eqb, ltb, List, [], ◌∷◌, ◌++◌, length, take, drop, Option, Some, None, Result, Ok, Err, refl, sym, ap, subst, ◌∙◌, append_assoc, true≢false}
use Rattle.std.specs.List.{prefix_len}
use Rattle.std.proofs.lemmas.Bool.{ne_eqb, lt-ltb, le-ltb, and_right, or_from}
use Rattle.std.proofs.lemmas.List.{take-append-drop}
use Rattle.c_syntax.specs.declared.types.CInt.{CInt}
use Rattle.c_model.specs.declared.c_tokens.Mode.{Mode}
use Rattle.c_model.specs.declared.c_tokens.Mode.TheVariants.{Code, Block, Line}
use Rattle.c_model.specs.declared.c_tokens.Found.{Found}
use Rattle.c_model.specs.declared.c_tokens.Fault.{Fault}
use Rattle.c_model.specs.declared.c_tokens.Fault.TheVariants as fault
use Rattle.c_model.specs.Characters.{is_digit, is_part, begins_with}
use Rattle.c_model.specs.MonitoredTokens.{marks}
use Rattle.c_model.specs.MonitoredTokenLaws.{starts_line, IsIn}
use Rattle.c_model.specs.Comments.{is_code, is_line, is_gap, ends_block, in_line, block_len}
use Rattle.c_model.specs.Literals.{literal_of, unit_at, letter_of, string_len}
use Rattle.c_model.specs.Pieces.{begins_name, word, is_outside, word_at, is_dotted, number_at, letter_at, string_at, annotation_marks, mark_at, comment_at, open_block, other_at, directive_at, piece_at}
use Rattle.c_model.specs.CTokenLaws.{begins_comment, marks_of, BeginsNone, IsUnclosed, IsNoNumber, IsNoLetter, IsNoString, IsFaultyDirective, Breaks}
use Rattle.c_model.proofs.Spelling.{begins_is, run_passes, run_stops}
use Rattle.c_model.proofs.CMarks.{mark_of}
use Rattle.c_model.proofs.CStrings.{string_is}
use Rattle.c_model.proofs.CSpelling.{of_literal, of_letter, quoted_of, of_string, of_comment, of_blank_block, of_block, closed_of, of_directive}
use Rattle.c_model.proofs.CBroken.{NoMark, no_mark, no_suc}
use Rattle.c_model.proofs.COnePiece.{name_first, digit_first, quote_first, double_quote_first, hash_first, slash_first, longer, plain_at, get_in, block_at}

-- the text is broken there, and found to be so
pub record IsFaulty (m : Mode) (fresh : Bool) (f : Fault) (bs : List ℕ) : Type 0 where
  pub first : ℕ
  pub others : List ℕ
  pub joined : bs ≡ first ∷ others
  pub is : piece_at m fresh (first ∷ others) ≡ Err f

faulty_at : (m : Mode) (fresh : Bool) (f : Fault) (bs : List ℕ) (b : ℕ) (w : List ℕ) → bs ≡ b ∷ w → piece_at m fresh (b ∷ w) ≡ Err f → IsFaulty m fresh f bs
faulty_at m fresh f bs b w joined e = record { first = b; others = w; joined = joined; is = e }

-- ---- names and literals

name_faulty : (m : Mode) (fresh : Bool) (f : Fault) (bs : List ℕ) → begins_name m bs ≡ true → word_at m bs ≡ Err f → IsFaulty m fresh f bs
name_faulty m fresh f [] begins e = absurd (true≢false (sym begins))
name_faulty m fresh f (b ∷ bs) begins e = faulty_at m fresh f (b ∷ bs) b bs refl (name_first m fresh b bs begins ∙ e)

too_long : (m : Mode) (bs : List ℕ) → 255 < length (word bs) → word_at m bs ≡ Err fault.Name
unfolding word_at
too_long m bs long = let e : ltb 255 (length (word bs)) ≡ true = lt-ltb 255 (length (word bs)) long in rw e refl

is_not_taken : (m : Mode) (bs : List ℕ) → length (word bs) ≤ 255 → is_outside m (word bs) ≡ true → word_at m bs ≡ Err fault.OutsideWord
unfolding word_at
is_not_taken m bs short outside = let e : ltb 255 (length (word bs)) ≡ false = le-ltb 255 (length (word bs)) short in rw (e, outside) refl

no_number_at : (m : Mode) (bs : List ℕ) → IsNoNumber m bs → number_at m bs ≡ Err fault.Number
unfolding number_at of_literal
no_number_at m bs h = by (is_dotted m (drop n bs)) refl
  where
    n : ℕ
    n = prefix_len is_part bs

    of : (r : Option (ℕ × Option CInt)) → literal_of (take (prefix_len is_part bs) bs) ≡ r → is_dotted m (drop (prefix_len is_part bs) bs) ≡ false → of_literal (prefix_len is_part bs) r ≡ Err fault.Number
    of None e d = refl
    of (Some v) e d =
        absurd (h.none v.0 v.1 (take (prefix_len is_part bs) bs) (drop (prefix_len is_part bs) bs) (sym (take-append-drop (prefix_len is_part bs) bs)) (record { literal = e; parts = run_passes is_part bs; ends = run_stops is_part bs; undotted = d }))

    by : (t : Bool) → is_dotted m (drop (prefix_len is_part bs) bs) ≡ t → number_at m bs ≡ Err fault.Number
    by true d = rw d refl
    by false d = rw d (of (literal_of (take (prefix_len is_part bs) bs)) refl d)

no_letter_at : (bs : List ℕ) (h : IsNoLetter bs) → letter_at h.others ≡ Err fault.Letter
unfolding letter_at of_letter
no_letter_at bs h = by (letter_of h.others) refl
  where
    by : (r : Option (ℕ × ℕ)) → letter_of h.others ≡ r → of_letter r ≡ Err fault.Letter
    by None e = refl
    by (Some v) e =
        let q = quoted_of h.others v.0 v.1 e in
        let whole : bs ≡ (39 ∷ q.unit ++ 39 ∷ []) ++ q.behind = h.joined ∙ ap (λ (t : List ℕ). 39 ∷ t) (q.split ∙ sym (append_assoc q.unit (39 ∷ []) q.behind)) in
        absurd (h.none v.0 (39 ∷ q.unit ++ 39 ∷ []) q.behind whole (record { unit = q.unit; quoted = refl; other = ap (begins_with (39 ∷ [])) (sym q.split) ∙ q.other; one = ap unit_at (sym q.split) ∙ q.one }))

no_string_at : (m : Mode) (bs : List ℕ) (h : IsNoString m bs) → string_at m h.others ≡ Err fault.Chars
unfolding string_at of_string
no_string_at m bs h = by (string_len m 0 h.others) refl
  where
    by : (r : Option ℕ) → string_len m 0 h.others ≡ r → of_string r ≡ Err fault.Chars
    by None e = refl
    by (Some n) e =
        let q = string_is m h.others n e in
        let whole : bs ≡ (34 ∷ q.spelling ++ 34 ∷ []) ++ q.behind = h.joined ∙ ap (λ (t : List ℕ). 34 ∷ t) (q.split ∙ sym (append_assoc q.spelling (34 ∷ []) q.behind)) in
        absurd (h.none (34 ∷ q.spelling ++ 34 ∷ []) q.behind whole (record { units = q.units; quoted = ap (λ (t : List ℕ). 34 ∷ t ++ 34 ∷ []) q.spells; are = q.are }))

-- ---- comments and directives

not_closed : (bs : List ℕ) → ((front behind : List ℕ) → bs ≡ front ++ (42 ∷ 47 ∷ behind) → ⊥) → block_len bs ≡ None
not_closed bs none = by (block_len bs) refl
  where
    by : (r : Option ℕ) → block_len bs ≡ r → r ≡ None
    by None e = refl
    by (Some n) e = let h = closed_of bs n e in absurd (none h.inside h.behind h.split)

open_comment : (bs : List ℕ) → block_len bs ≡ None → other_at Code (47 ∷ 42 ∷ bs) ≡ Err fault.Comment
unfolding other_at comment_at of_comment open_block of_block of_blank_block
open_comment bs unclosed = by (begins_with (64 ∷ []) bs) refl
  where
    annotation : (r : List ℕ) → bs ≡ 64 ∷ r → other_at Code (47 ∷ 42 ∷ bs) ≡ Err fault.Comment
    annotation r split =
        let rest : block_len r ≡ None = no_suc (block_len r) (ap block_len (sym split) ∙ unclosed) in
        ap (λ (t : List ℕ). other_at Code (47 ∷ 42 ∷ t)) split ∙ block_at r ∙ ap (of_block r) rest

    by : (t : Bool) → begins_with (64 ∷ []) bs ≡ t → other_at Code (47 ∷ 42 ∷ bs) ≡ Err fault.Comment
    by true e = annotation (drop 1 bs) (begins_is (64 ∷ []) bs e)
    by false e = let f : begins_with (47 ∷ 42 ∷ 64 ∷ []) (47 ∷ 42 ∷ bs) ≡ false = e in rw f (ap of_comment unclosed)

unclosed_faulty : (m : Mode) (fresh : Bool) (bs : List ℕ) → IsUnclosed m bs → IsFaulty m fresh fault.Comment bs
unclosed_faulty m fresh bs h =
    let is : piece_at Code fresh (47 ∷ 42 ∷ h.others) ≡ Err fault.Comment = slash_first Code fresh (42 ∷ h.others) ∙ open_comment h.others (not_closed h.others h.none) in
    faulty_at m fresh fault.Comment bs 47 (42 ∷ h.others) h.joined (subst (λ (n : Mode). piece_at n fresh (47 ∷ 42 ∷ h.others) ≡ Err fault.Comment) (sym h.code) is)

directive_faulty : (before : List ℕ) (m : Mode) (f : Fault) (bs : List ℕ) → IsFaultyDirective before m f bs → IsFaulty m (starts_line before) f bs
unfolding directive_at of_directive
directive_faulty before m f bs h =
    let is : directive_at h.others ≡ Err f = ap (of_directive (prefix_len in_line h.others)) h.fault in
    let there : piece_at m (starts_line before) (35 ∷ h.others) ≡ piece_at Code true (35 ∷ h.others) = λ i. piece_at (h.code i) (h.first i) (35 ∷ h.others) in
    faulty_at m (starts_line before) f bs 35 h.others h.joined (there ∙ hash_first h.others ∙ is)

-- ---- bytes with which nothing begins

star_in : (m : Mode) → IsIn (marks_of m) (42 ∷ [])
unfolding marks annotation_marks
star_in Code = get_in (marks_of Code) 23 (42 ∷ []) refl
star_in Block = get_in (marks_of Block) 23 (42 ∷ []) refl
star_in Line = get_in (marks_of Line) 23 (42 ∷ []) refl

slash_in : (m : Mode) → IsIn (marks_of m) (47 ∷ [])
unfolding marks annotation_marks
slash_in Code = get_in (marks_of Code) 24 (47 ∷ []) refl
slash_in Block = get_in (marks_of Block) 24 (47 ∷ []) refl
slash_in Line = get_in (marks_of Line) 24 (47 ∷ []) refl

no_mark_at : (m : Mode) (bs : List ℕ) → ((q : List ℕ) → IsIn (marks_of m) q → begins_with q bs ≡ false) → mark_at m bs ≡ Err fault.Byte
unfolding NoMark
no_mark_at m bs none = by (mark_at m bs) refl
  where
    by : (r : Result Found Fault) → mark_at m bs ≡ r → r ≡ Err fault.Byte
    by (Err f) e = ap (λ (g : Fault). let o : Result Found Fault = Err g in o) (sym (no_mark m bs f e).1)
    by (Ok x) e = let h = mark_of m bs x e in absurd (true≢false (sym h.begins ∙ none h.mark (get_in (marks_of m) h.place h.mark h.at)))

-- no operator `*` or `/`: no end of an annotation, and no comment
no_block : (m : Mode) (bs : List ℕ) → begins_with (42 ∷ []) bs ≡ false → ends_block m bs ≡ false
no_block Code bs star = refl
no_block Block bs star = longer (42 ∷ []) (47 ∷ []) bs star
no_block Line bs star = refl

nothing_at : (m : Mode) (fresh : Bool) (b : ℕ) (bs : List ℕ) → is_gap m b ≡ false → begins_name m (b ∷ bs) ≡ false → is_digit b ≡ false → eqb b 39 ≡ false → eqb b 34 ≡ false → is_code m && fresh && eqb b 35 ≡ false
    → ((q : List ℕ) → IsIn (marks_of m) q → begins_with q (b ∷ bs) ≡ false) → piece_at m fresh (b ∷ bs) ≡ Err fault.Byte
unfolding piece_at
nothing_at m fresh b bs blank name digit quote double hash none =
    let slash = none (47 ∷ []) (slash_in m) in
    let comment : begins_comment m (b ∷ bs) ≡ false = or_from _ _ (and_right (is_code m) _ (longer (47 ∷ []) (42 ∷ []) (b ∷ bs) slash)) (longer (47 ∷ []) (47 ∷ []) (b ∷ bs) slash) in
    let line : is_line m && eqb b 10 ≡ false = and_right (is_line m) _ (ne_eqb b 10 (λ e. true≢false (ap (is_gap m) (sym e) ∙ blank))) in
    let block : ends_block m (b ∷ bs) ≡ false = no_block m (b ∷ bs) (none (42 ∷ []) (star_in m)) in
    rw (line, block, blank, name, digit, quote, double, hash) (plain_at m (b ∷ bs) comment ∙ no_mark_at m (b ∷ bs) none)

byte_faulty : (before : List ℕ) (m : Mode) (bs : List ℕ) → BeginsNone before m bs → IsFaulty m (starts_line before) fault.Byte bs
byte_faulty before m bs h =
    let name : begins_name m (h.first ∷ h.others) ≡ false = ap (begins_name m) (sym h.joined) ∙ h.no_name in
    let is = nothing_at m (starts_line before) h.first h.others h.no_blank name h.no_number h.no_letter h.no_string h.no_directive (λ q there. ap (begins_with q) (sym h.joined) ∙ h.no_mark q there) in
    faulty_at m (starts_line before) fault.Byte bs h.first h.others h.joined is

-- ---- all faults

pub breaks_found : (before : List ℕ) (m : Mode) (f : Fault) (bs : List ℕ) → Breaks before m f bs → IsFaulty m (starts_line before) f bs
breaks_found before m fault.Byte bs h = byte_faulty before m bs h
breaks_found before m fault.Comment bs h = unclosed_faulty m (starts_line before) bs h
breaks_found before m fault.Name bs h = name_faulty m (starts_line before) fault.Name bs h.begins (too_long m bs h.long)
breaks_found before m fault.Number bs h =
    faulty_at m (starts_line before) fault.Number bs h.first h.others h.joined (digit_first m (starts_line before) h.first h.others h.begins ∙ ap (number_at m) (sym h.joined) ∙ no_number_at m bs h)
breaks_found before m fault.Letter bs h = faulty_at m (starts_line before) fault.Letter bs 39 h.others h.joined (quote_first m (starts_line before) h.others ∙ no_letter_at bs h)
breaks_found before m fault.Chars bs h = faulty_at m (starts_line before) fault.Chars bs 34 h.others h.joined (double_quote_first m (starts_line before) h.others ∙ no_string_at m bs h)
breaks_found before m fault.Directive bs h = directive_faulty before m fault.Directive bs h
breaks_found before m fault.OutsideWord bs h = name_faulty m (starts_line before) fault.OutsideWord bs h.begins (is_not_taken m bs h.short h.outside)
breaks_found before m fault.OutsideDirective bs h = directive_faulty before m fault.OutsideDirective bs h
breaks_found before m fault.Limit bs h = elim h [ ]
