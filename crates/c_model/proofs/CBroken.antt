-- Where no piece of a C text begins, it is broken as its fault says.
use Rattle.std.proofs.Common.{◌≡◌, ℕ, suc, ◌+◌, ◌-◌, ◌<◌, Bool, true, false, ◌&&◌, eqb, ltb, List, [], ◌∷◌, ◌++◌, length, take, drop, codes, Option, Some, None, option_map, Result, Ok, Err, inl, inr, refl, sym, ap, subst, ◌∙◌, arith, append_assoc}
use Rattle.std.proofs.Common.{length-append, true≢false}
use Rattle.std.specs.Prelude.{bytes_eq, if◌then◌else◌}
use Rattle.std.specs.List.{prefix_len, list_any}
use Rattle.std.proofs.lemmas.Bool.{eqb-true, ltb-true, ltb-false}
use Rattle.c_syntax.specs.declared.types.CInt.{CInt}
use Rattle.c_model.specs.declared.c_tokens.Mode.{Mode}
use Rattle.c_model.specs.declared.c_tokens.Mode.TheVariants.{Code, Block, Line}
use Rattle.c_model.specs.declared.c_tokens.Piece.TheVariants as piece
use Rattle.c_model.specs.declared.c_tokens.Found.{Found}
use Rattle.c_model.specs.declared.c_tokens.Fault.{Fault}
use Rattle.c_model.specs.declared.c_tokens.Fault.TheVariants as fault
use Rattle.c_model.specs.Characters.{is_digit, is_part, begins_with}
use Rattle.c_model.specs.MonitoredTokens.{marks}
use Rattle.c_model.specs.MonitoredTokenLaws.{starts_line, IsIn}
use Rattle.c_model.specs.Comments.{is_code, is_line, is_gap, ends_block, in_line, block_len, comment_len, blank_block, is_blank_line}
use Rattle.c_model.specs.Literals.{literal_of, unit_at, unit_in, letter_of, string_len}
use Rattle.c_model.specs.Directives.{front_word, past_word, directive_line, is_marker, headers, len_before, is_closed, include_fault, directive_fault}
use Rattle.c_model.specs.Pieces.{found, begins_name, word, is_outside, word_at, is_dotted, number_at, letter_at, string_at, annotation_marks, first_mark, c_mark_at, mark_at, comment_at, open_block, open_line, other_at, directive_at, piece_at}
use Rattle.c_model.specs.CTokenLaws.{IsLiteral, IsLetter, IsString, spelling_of, AreUnits, marks_of, IsFaultyDirective, Breaks}
use Rattle.c_model.proofs.Spelling.{chosen, and_true, begins_is, front_is}
use Rattle.c_model.proofs.BrokenPieces.{run_is}
use Rattle.c_model.proofs.CMarks.{of_mark, none_begins, in_either}
use Rattle.c_model.proofs.CStrings.{len_skip, quote_is}
use Rattle.c_model.proofs.CSpelling.{behind_is, code_is, of_literal, of_letter, of_string, of_comment, of_blank_block, of_block, of_directive}

pub same_fault : (f g : Fault) → (let r : Result Found Fault = Err f in r) ≡ Err g → f ≡ g
same_fault f g e = cc

pub none_is : {A : Type 0} (x : A) → (let o : Option A = None in o) ≡ Some x → ⊥
none_is x e = cc

-- ---- names and numbers

name_breaks : (before : List ℕ) (m : Mode) (bs : List ℕ) (f : Fault) → begins_name m bs ≡ true → word_at m bs ≡ Err f → Breaks before m f bs
unfolding word_at
name_breaks before m bs f begins e = elim (chosen (ltb 255 (length (word bs))) (Err fault.Name) _ (Err f) e) [
  | inl h ↦ subst (λ (g : Fault). Breaks before m g bs) (same_fault fault.Name f h.1) (record { begins = begins; long = ltb-true 255 _ h.0 })
  | inr h ↦ elim (chosen (is_outside m (word bs)) (Err fault.OutsideWord) (found piece.Word (length (word bs) - 1)) (Err f) h.1) [
    | inl g ↦ subst (λ (k : Fault). Breaks before m k bs) (same_fault fault.OutsideWord f g.1) (record { begins = begins; short = ltb-false 255 _ h.0; outside = g.0 })
    | inr g ↦ absurd (let k = g.1 in cc)
  ]
]

-- the literal at a front would be all of the run, with what is after it
pub literal_run : (m : Mode) (bs : List ℕ) (v : ℕ) (t : Option CInt) (bytes behind : List ℕ) → bs ≡ bytes ++ behind → IsLiteral m v t bytes behind
    → (is_dotted m (drop (prefix_len is_part bs) bs) ≡ false) × (literal_of (take (prefix_len is_part bs) bs) ≡ Some (v, t))
literal_run m bs v t bytes behind whole is =
    let run : prefix_len is_part bs ≡ length bytes = ap (prefix_len is_part) whole ∙ run_is is_part bytes behind is.parts is.ends in
    let front : take (prefix_len is_part bs) bs ≡ bytes = (λ i. take (run i) (whole i)) ∙ front_is bytes behind in
    let rest : drop (prefix_len is_part bs) bs ≡ behind = (λ i. drop (run i) (whole i)) ∙ behind_is bytes behind in
    (ap (is_dotted m) rest ∙ is.undotted, ap literal_of front ∙ is.literal)

number_breaks : (before : List ℕ) (m : Mode) (b : ℕ) (bs : List ℕ) (f : Fault) → is_digit b ≡ true → number_at m (b ∷ bs) ≡ Err f → Breaks before m f (b ∷ bs)
unfolding number_at of_literal
number_breaks before m b bs f digit e = elim (chosen (is_dotted m (drop (prefix_len is_part (b ∷ bs)) (b ∷ bs))) (Err fault.Number) _ (Err f) e) [
  | inl h ↦ no_number (λ v t bytes behind whole is. true≢false (sym h.0 ∙ (literal_run m (b ∷ bs) v t bytes behind whole is).0)) (same_fault fault.Number f h.1)
  | inr h ↦ by (literal_of (take (prefix_len is_part (b ∷ bs)) (b ∷ bs))) refl h.1
]
  where
    no_number : ((v : ℕ) (t : Option CInt) (bytes behind : List ℕ) → b ∷ bs ≡ bytes ++ behind → IsLiteral m v t bytes behind → ⊥) → fault.Number ≡ f → Breaks before m f (b ∷ bs)
    no_number none same = subst (λ (g : Fault). Breaks before m g (b ∷ bs)) same (record { first = b; others = bs; joined = refl; begins = digit; none = none })

    lacks : literal_of (take (prefix_len is_part (b ∷ bs)) (b ∷ bs)) ≡ None → (v : ℕ) (t : Option CInt) (bytes behind : List ℕ) → b ∷ bs ≡ bytes ++ behind → IsLiteral m v t bytes behind → ⊥
    lacks l v t bytes behind whole is = none_is (v, t) (sym l ∙ (literal_run m (b ∷ bs) v t bytes behind whole is).1)

    by : (r : Option (ℕ × Option CInt)) → literal_of (take (prefix_len is_part (b ∷ bs)) (b ∷ bs)) ≡ r → of_literal (prefix_len is_part (b ∷ bs)) r ≡ Err f → Breaks before m f (b ∷ bs)
    by None l g = no_number (lacks l) (same_fault fault.Number f g)
    by (Some v) l g = absurd cc

-- ---- characters

pub letter_is : (c : ℕ) (unit behind : List ℕ) → begins_with (39 ∷ []) (unit ++ 39 ∷ behind) ≡ false → unit_at (unit ++ 39 ∷ behind) ≡ Some (c, length unit - 1) → letter_of (unit ++ 39 ∷ behind) ≡ Some (c, length unit + 1)
unfolding letter_of
letter_is c [] behind other one = absurd (true≢false other)
letter_is c (a ∷ as') behind other one =
    let bs : List ℕ = (a ∷ as') ++ 39 ∷ behind in
    let many : (length (a ∷ as') - 1) + 1 ≡ length (a ∷ as') = omega arith in
    let closed : begins_with (39 ∷ []) (drop ((length (a ∷ as') - 1) + 1) bs) ≡ true = (λ i. begins_with (39 ∷ []) (drop (many i) bs)) ∙ ap (begins_with (39 ∷ [])) (behind_is (a ∷ as') (39 ∷ behind)) in
    let is : letter_of bs ≡ Some (c, (length (a ∷ as') - 1) + 2) = rw (other, one, closed) refl in
    is ∙ (let count : (length (a ∷ as') - 1) + 2 ≡ length (a ∷ as') + 1 = omega arith in λ i. Some (c, count i))

letter_breaks : (before : List ℕ) (m : Mode) (b : ℕ) (bs : List ℕ) (f : Fault) → eqb b 39 ≡ true → letter_at bs ≡ Err f → Breaks before m f (b ∷ bs)
unfolding letter_at of_letter
letter_breaks before m b bs f quote e = by (letter_of bs) refl e
  where
    lacks : letter_of bs ≡ None → (c : ℕ) (bytes behind : List ℕ) → b ∷ bs ≡ bytes ++ behind → IsLetter c bytes behind → ⊥
    lacks l c bytes behind whole is =
        let split : bs ≡ is.unit ++ 39 ∷ behind = ap (drop 1) (whole ∙ ap (λ (t : List ℕ). t ++ behind) is.quoted) ∙ append_assoc is.unit (39 ∷ []) behind in
        none_is (c, length is.unit + 1) (sym l ∙ ap letter_of split ∙ letter_is c is.unit behind is.other is.one)

    by : (r : Option (ℕ × ℕ)) → letter_of bs ≡ r → of_letter r ≡ Err f → Breaks before m f (b ∷ bs)
    by None l g = subst (λ (k : Fault). Breaks before m k (b ∷ bs)) (same_fault fault.Letter f g) (record { others = bs; joined = ap (λ (c : ℕ). c ∷ bs) (eqb-true b 39 quote); none = lacks l })
    by (Some v) l g = absurd cc

-- ---- strings

-- bytes and escapes up to a quote are all of a string
pub units_len : (m : Mode) (us : List (List ℕ × ℕ)) (behind : List ℕ) → AreUnits m us (34 ∷ behind) → string_len m 0 (spelling_of us ++ (34 ∷ behind)) ≡ Some (length (spelling_of us) + 1)
units_len m [] behind are = refl
units_len m (u ∷ us) behind are = by u.0 are.0 (ap (λ (o : Option (ℕ × ℕ)). o) are.1) are.2 (units_len m us behind are.3)
  where
    by : (w : List ℕ) → 0 < length w → unit_in m (w ++ (spelling_of us ++ (34 ∷ behind))) ≡ Some (u.1, length w - 1) → begins_with (34 ∷ []) (w ++ (spelling_of us ++ (34 ∷ behind))) ≡ false
        → string_len m 0 (spelling_of us ++ (34 ∷ behind)) ≡ Some (length (spelling_of us) + 1) → string_len m 0 ((w ++ spelling_of us) ++ (34 ∷ behind)) ≡ Some (length (w ++ spelling_of us) + 1)
    by [] some one other more = absurd (omega arith)
    by (c ∷ cs) some one other more =
        let tail : List ℕ = spelling_of us ++ (34 ∷ behind) in
        let k : ℕ = length (c ∷ cs) - 1 in
        let n : ℕ = length (spelling_of us) + 1 in
        let q : eqb c 34 ≡ false = quote_is c (cs ++ tail) ∙ other in
        let step : string_len m 0 (c ∷ (cs ++ tail)) ≡ option_map suc (string_len m k (cs ++ tail)) = rw (q, one) refl in
        let many : k ≡ length cs = omega arith in
        let past : drop k (cs ++ tail) ≡ tail = (λ i. drop (many i) (cs ++ tail)) ∙ behind_is cs tail in
        let skip : string_len m k (cs ++ tail) ≡ option_map (λ j. k + j) (string_len m 0 tail) = len_skip m k (cs ++ tail) ∙ ap (λ (t : List ℕ). option_map (λ j. k + j) (string_len m 0 t)) past in
        let total : string_len m 0 (c ∷ (cs ++ tail)) ≡ Some (suc (k + n)) = step ∙ ap (option_map suc) (skip ∙ ap (option_map (λ j. k + j)) more) in
        let count : suc (k + n) ≡ length ((c ∷ cs) ++ spelling_of us) + 1 = omega (arith, length-append (c ∷ cs) (spelling_of us)) in
        ap (string_len m 0) (append_assoc (c ∷ cs) (spelling_of us) (34 ∷ behind)) ∙ total ∙ ap (λ (j : ℕ). Some j) count

string_breaks : (before : List ℕ) (m : Mode) (b : ℕ) (bs : List ℕ) (f : Fault) → eqb b 34 ≡ true → string_at m bs ≡ Err f → Breaks before m f (b ∷ bs)
unfolding string_at of_string
string_breaks before m b bs f quote e = by (string_len m 0 bs) refl e
  where
    lacks : string_len m 0 bs ≡ None → (bytes behind : List ℕ) → b ∷ bs ≡ bytes ++ behind → IsString m bytes behind → ⊥
    lacks l bytes behind whole is =
        let split : bs ≡ spelling_of is.units ++ (34 ∷ behind) = ap (drop 1) (whole ∙ ap (λ (t : List ℕ). t ++ behind) is.quoted) ∙ append_assoc (spelling_of is.units) (34 ∷ []) behind in
        none_is (length (spelling_of is.units) + 1) (sym l ∙ ap (string_len m 0) split ∙ units_len m is.units behind is.are)

    by : (r : Option ℕ) → string_len m 0 bs ≡ r → of_string r ≡ Err f → Breaks before m f (b ∷ bs)
    by None l g = subst (λ (k : Fault). Breaks before m k (b ∷ bs)) (same_fault fault.Chars f g) (record { others = bs; joined = ap (λ (c : ℕ). c ∷ bs) (eqb-true b 34 quote); none = lacks l })
    by (Some n) l g = absurd cc

-- ---- comments

pub no_suc : (o : Option ℕ) → option_map suc o ≡ None → o ≡ None
no_suc None e = refl
no_suc (Some n) e = absurd cc

no_end : (front behind : List ℕ) → block_len (front ++ (42 ∷ 47 ∷ behind)) ≡ None → ⊥
no_end [] behind e = absurd cc
no_end (c ∷ cs) behind e = elim (chosen (begins_with (42 ∷ 47 ∷ []) (c ∷ (cs ++ (42 ∷ 47 ∷ behind)))) (Some 2) (option_map suc (block_len (cs ++ (42 ∷ 47 ∷ behind)))) None e) [
  | inl h ↦ absurd (let k = h.1 in cc)
  | inr h ↦ no_end cs behind (no_suc _ h.1)
]

unclosed : (before : List ℕ) (m : Mode) (bs others : List ℕ) (f : Fault) → m ≡ Code → bs ≡ 47 ∷ 42 ∷ others → block_len others ≡ None → fault.Comment ≡ f → Breaks before m f bs
unclosed before m bs others f code joined none same =
    subst (λ (g : Fault). Breaks before m g bs) same (record { code = code; others = others; joined = joined; none = λ front behind split. no_end front behind (ap block_len (sym split) ∙ none) })

comment_breaks : (before : List ℕ) (m : Mode) (bs : List ℕ) (f : Fault) → m ≡ Code → begins_with (47 ∷ 42 ∷ []) bs ≡ true → comment_at (drop 2 bs) ≡ Err f → Breaks before m f bs
unfolding comment_at of_comment
comment_breaks before m bs f code begins e = by (block_len (drop 2 bs)) refl e
  where
    by : (r : Option ℕ) → block_len (drop 2 bs) ≡ r → of_comment r ≡ Err f → Breaks before m f bs
    by None l g = unclosed before m bs (drop 2 bs) f code (begins_is (47 ∷ 42 ∷ []) bs begins) l (same_fault fault.Comment f g)
    by (Some n) l g = absurd cc

block_breaks : (before : List ℕ) (m : Mode) (bs : List ℕ) (f : Fault) → m ≡ Code → begins_with (47 ∷ 42 ∷ 64 ∷ []) bs ≡ true → open_block (drop 3 bs) ≡ Err f → Breaks before m f bs
unfolding open_block of_block of_blank_block
block_breaks before m bs f code begins e = by (block_len (drop 3 bs)) refl e
  where
    inner : (r : Option ℕ) → of_blank_block r ≡ Err f → ⊥
    inner None g = cc
    inner (Some k) g = cc

    by : (r : Option ℕ) → block_len (drop 3 bs) ≡ r → of_block (drop 3 bs) r ≡ Err f → Breaks before m f bs
    by None l g = unclosed before m bs (64 ∷ drop 3 bs) f code (begins_is (47 ∷ 42 ∷ 64 ∷ []) bs begins) (ap (option_map suc) l) (same_fault fault.Comment f g)
    by (Some n) l g = absurd (inner (blank_block false (drop 3 bs)) g)

no_line_fault : (bs : List ℕ) (f : Fault) → open_line bs ≡ Err f → ⊥
unfolding open_line
no_line_fault bs f e = elim (chosen (is_blank_line bs) (found piece.Blank (prefix_len in_line bs + 2)) (found (piece.Open Line) 2) (Err f) e) [
  | inl h ↦ let k = h.1 in cc
  | inr h ↦ let k = h.1 in cc
]

-- ---- directives

of_line : Fault → Bool
of_line fault.Directive = true
of_line fault.OutsideDirective = true
of_line _ = false

same_option : (f g : Fault) → (let o : Option Fault = Some f in o) ≡ Some g → f ≡ g
same_option f g e = cc

is_of_line : (f g : Fault) → of_line f ≡ true → (let o : Option Fault = Some f in o) ≡ Some g → of_line g ≡ true
is_of_line f g h e = ap of_line (sym (same_option f g e)) ∙ h

marker_fault : (b : Bool) (g : Fault) → (let o : Option Fault = if b then None else Some fault.Directive in o) ≡ Some g → of_line g ≡ true
unfolding of_line
marker_fault true g e = absurd cc
marker_fault false g e = is_of_line fault.Directive g refl e

include_line : (bs : List ℕ) (g : Fault) → include_fault bs ≡ Some g → of_line g ≡ true
unfolding include_fault of_line
include_line [] g e = is_of_line fault.Directive g refl e
include_line (b ∷ bs) g e = elim (chosen (eqb b 60 && is_closed 62 bs) _ _ (Some g) e) [
  | inl h ↦ elim (chosen (list_any (bytes_eq (take (len_before 62 bs) bs)) headers) None (Some fault.OutsideDirective) (Some g) h.1) [
    | inl k ↦ absurd (let j = k.1 in cc)
    | inr k ↦ is_of_line fault.OutsideDirective g refl k.1
  ]
  | inr h ↦ elim (chosen (eqb b 34 && is_closed 34 bs) (Some fault.OutsideDirective) (Some fault.Directive) (Some g) h.1) [
    | inl k ↦ is_of_line fault.OutsideDirective g refl k.1
    | inr k ↦ is_of_line fault.Directive g refl k.1
  ]
]

directive_faults : (bs : List ℕ) (g : Fault) → directive_fault bs ≡ Some g → of_line g ≡ true
unfolding directive_fault of_line
directive_faults [] g e = absurd cc
directive_faults (b ∷ bs) g e = elim (chosen (is_digit b) _ _ (Some g) e) [
  | inl h ↦ marker_fault (is_marker (b ∷ bs)) g h.1
  | inr h ↦ elim (chosen (bytes_eq (front_word (b ∷ bs)) (codes "line")) _ _ (Some g) h.1) [
    | inl k ↦ marker_fault (is_marker (past_word (b ∷ bs))) g k.1
    | inr k ↦ elim (chosen (bytes_eq (front_word (b ∷ bs)) (codes "include")) (include_fault (past_word (b ∷ bs))) (Some fault.OutsideDirective) (Some g) k.1) [
      | inl j ↦ include_line (past_word (b ∷ bs)) g j.1
      | inr j ↦ is_of_line fault.OutsideDirective g refl j.1
    ]
  ]
]

line_breaks : (before : List ℕ) (m : Mode) (bs : List ℕ) (f : Fault) → of_line f ≡ true → IsFaultyDirective before m f bs → Breaks before m f bs
unfolding of_line
line_breaks before m bs fault.Directive h d = d
line_breaks before m bs fault.OutsideDirective h d = d
line_breaks before m bs _ h d = absurd cc

directive_breaks : (before : List ℕ) (m : Mode) (b : ℕ) (bs : List ℕ) (f : Fault) → m ≡ Code → starts_line before ≡ true → eqb b 35 ≡ true → directive_at bs ≡ Err f → Breaks before m f (b ∷ bs)
unfolding directive_at of_directive
directive_breaks before m b bs f code fresh hash e = by (directive_fault (directive_line bs)) refl e
  where
    by : (r : Option Fault) → directive_fault (directive_line bs) ≡ r → of_directive (prefix_len in_line bs) r ≡ Err f → Breaks before m f (b ∷ bs)
    by None l g = absurd cc
    by (Some k) l g =
        let is : directive_fault (directive_line bs) ≡ Some f = l ∙ ap (λ (j : Fault). Some j) (same_fault k f g) in
        line_breaks before m (b ∷ bs) f (directive_faults (directive_line bs) f is) (record { code = code; first = fresh; others = bs; joined = ap (λ (c : ℕ). c ∷ bs) (eqb-true b 35 hash); fault = is })

-- ---- operators

none_found : (r : Option Found) (f : Fault) → of_mark r ≡ Err f → (r ≡ None) × (fault.Byte ≡ f)
unfolding of_mark
none_found None f e = (refl, same_fault fault.Byte f e)
none_found (Some x) f e = absurd cc

c_none : (bs : List ℕ) (f : Fault) → c_mark_at bs ≡ Err f → (first_mark 0 marks bs ≡ None) × (fault.Byte ≡ f)
unfolding c_mark_at of_mark
c_none bs f e = none_found (first_mark 0 marks bs) f e

unfoldable pub NoMark : Mode → List ℕ → Fault → Type 0
NoMark m bs f = ((q : List ℕ) → IsIn (marks_of m) q → begins_with q bs ≡ false) × (fault.Byte ≡ f)

either_none : (bs : List ℕ) (f : Fault) (r : Option Found) → first_mark 45 annotation_marks bs ≡ r → (let o : Result Found Fault = elim r [ None ↦ c_mark_at bs | Some y ↦ Ok y ] in o) ≡ Err f
    → ((q : List ℕ) → IsIn (marks ++ annotation_marks) q → begins_with q bs ≡ false) × (fault.Byte ≡ f)
either_none bs f (Some y) is e = absurd cc
either_none bs f None is e =
    let c = c_none bs f e in
    (λ q there. elim (in_either marks annotation_marks q there) [ inl l ↦ none_begins 0 marks bs c.0 q l | inr r ↦ none_begins 45 annotation_marks bs is q r ], c.1)

pub no_mark : (m : Mode) (bs : List ℕ) (f : Fault) → mark_at m bs ≡ Err f → NoMark m bs f
unfolding mark_at NoMark
no_mark Code bs f e = let c = c_none bs f e in (none_begins 0 marks bs c.0, c.1)
no_mark Block bs f e = either_none bs f (first_mark 45 annotation_marks bs) refl e
no_mark Line bs f e = either_none bs f (first_mark 45 annotation_marks bs) refl e

-- ---- pieces

other_breaks : (before : List ℕ) (m : Mode) (bs : List ℕ) (f : Fault) → (((q : List ℕ) → IsIn (marks_of m) q → begins_with q bs ≡ false) → Breaks before m fault.Byte bs) → other_at m bs ≡ Err f → Breaks before m f bs
unfolding other_at NoMark
other_breaks before m bs f none e = elim (chosen (is_code m && begins_with (47 ∷ 42 ∷ 64 ∷ []) bs) (open_block (drop 3 bs)) _ (Err f) e) [
  | inl h ↦ let a = and_true (is_code m) _ h.0 in block_breaks before m bs f (code_is m a.0) a.1 h.1
  | inr h1 ↦ elim (chosen (is_code m && begins_with (47 ∷ 47 ∷ 64 ∷ []) bs) (open_line (drop 3 bs)) _ (Err f) h1.1) [
    | inl h ↦ absurd (no_line_fault (drop 3 bs) f h.1)
    | inr h2 ↦ elim (chosen (is_code m && begins_with (47 ∷ 42 ∷ []) bs) (comment_at (drop 2 bs)) _ (Err f) h2.1) [
      | inl h ↦ let a = and_true (is_code m) _ h.0 in comment_breaks before m bs f (code_is m a.0) a.1 h.1
      | inr h3 ↦ elim (chosen (begins_with (47 ∷ 47 ∷ []) bs) (found piece.Blank (comment_len m bs - 1)) (mark_at m bs) (Err f) h3.1) [
        | inl h ↦ absurd (let k = h.1 in cc)
        | inr h4 ↦ let c = no_mark m bs f h4.1 in subst (λ (g : Fault). Breaks before m g bs) c.1 (none c.0)
      ]
    ]
  ]
]

pub piece_breaks : (before : List ℕ) (m : Mode) (b : ℕ) (bs : List ℕ) (f : Fault) → piece_at m (starts_line before) (b ∷ bs) ≡ Err f → Breaks before m f (b ∷ bs)
unfolding piece_at
piece_breaks before m b bs f e = elim (chosen (is_line m && eqb b 10) (found piece.Close 0) _ (Err f) e) [
  | inl h ↦ absurd (let k = h.1 in cc)
  | inr h1 ↦ elim (chosen (ends_block m (b ∷ bs)) (found piece.Close 1) _ (Err f) h1.1) [
    | inl h ↦ absurd (let k = h.1 in cc)
    | inr h2 ↦ elim (chosen (is_gap m b) (found piece.Blank 0) _ (Err f) h2.1) [
      | inl h ↦ absurd (let k = h.1 in cc)
      | inr h3 ↦ elim (chosen (begins_name m (b ∷ bs)) (word_at m (b ∷ bs)) _ (Err f) h3.1) [
        | inl h ↦ name_breaks before m (b ∷ bs) f h.0 h.1
        | inr h4 ↦ elim (chosen (is_digit b) (number_at m (b ∷ bs)) _ (Err f) h4.1) [
          | inl h ↦ number_breaks before m b bs f h.0 h.1
          | inr h5 ↦ elim (chosen (eqb b 39) (letter_at bs) _ (Err f) h5.1) [
            | inl h ↦ letter_breaks before m b bs f h.0 h.1
            | inr h6 ↦ elim (chosen (eqb b 34) (string_at m bs) _ (Err f) h6.1) [
              | inl h ↦ string_breaks before m b bs f h.0 h.1
              | inr h7 ↦ elim (chosen (is_code m && starts_line before && eqb b 35) (directive_at bs) (other_at m (b ∷ bs)) (Err f) h7.1) [
                | inl h ↦
                    let a = and_true (is_code m && starts_line before) (eqb b 35) h.0 in
                    let c = and_true (is_code m) (starts_line before) a.0 in
                    directive_breaks before m b bs f (code_is m c.0) c.1 a.1 h.1
                | inr h8 ↦ other_breaks before m (b ∷ bs) f (λ none. record {
                  first = b;
                  others = bs;
                  joined = refl;
                  no_blank = h3.0;
                  no_name = h4.0;
                  no_number = h5.0;
                  no_letter = h6.0;
                  no_string = h7.0;
                  no_directive = h8.0;
                  no_mark = none;
                }) h8.1
              ]
            ]
          ]
        ]
      ]
    ]
  ]
]
