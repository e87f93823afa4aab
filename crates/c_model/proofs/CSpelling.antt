-- Each piece of a C text is spelled as its kind is.
use Rattle.std.proofs.Common.{◌≡◌, ℕ, zero, suc, ◌+◌, ◌-◌, ◌<◌, ◌≤◌, Bool, true, false, cond, ◌&&◌, ◌||◌, eqb, ltb, List, [], ◌∷◌, ◌++◌, length, take, drop, is_some, Option, Some, None, option_map, Result, Ok, Err, inl, inr, refl, sym, ap, subst}
use Rattle.std.proofs.Common.{◌∙◌, arith, append_assoc, length-append, true≢false}
use Rattle.std.specs.List.{prefix_len, list_all}
use Rattle.std.proofs.lemmas.Bool.{eqb-true, ltb-false, or_from}
use Rattle.std.proofs.lemmas.Bool.Decides.{nat_tests}
use Rattle.std.proofs.lemmas.List.{take-append-drop, length-take}
use Rattle.c_syntax.specs.declared.types.CInt.{CInt}
use Rattle.c_model.specs.declared.c_tokens.Mode.{Mode}
use Rattle.c_model.specs.declared.c_tokens.Mode.TheVariants.{Code, Block, Line}
use Rattle.c_model.specs.declared.c_tokens.Piece.{Piece}
use Rattle.c_model.specs.declared.c_tokens.Piece.TheVariants as piece
use Rattle.c_model.specs.declared.c_tokens.Found.{Found}
use Rattle.c_model.specs.declared.c_tokens.Fault.{Fault}
use Rattle.c_model.specs.declared.c_tokens.Fault.TheVariants as fault
use Rattle.c_model.specs.Characters.{is_digit, is_nondigit, is_part, begins_with}
use Rattle.c_model.specs.MonitoredTokenLaws.{starts_line}
use Rattle.c_model.specs.Comments.{is_code, is_line, is_gap, ends_block, in_line, block_len, comment_len, comment_behind, blank_block, is_blank_line}
use Rattle.c_model.specs.Literals.{literal_of, unit_at, letter_of, string_len}
use Rattle.c_model.specs.Directives.{directive_line, directive_fault}
use Rattle.c_model.specs.Pieces.{found, begins_name, word, is_outside, word_at, is_dotted, number_at, letter_at, string_at, comment_at, open_block, open_line, other_at, directive_at, mark_at, piece_at}
use Rattle.c_model.specs.CTokenLaws.{begins_comment, begins_annotation, ends_annotation, HaveNoEnd, EndsComment, Spells}
use Rattle.c_model.proofs.Spelling.{chosen, and_true, run_passes, run_stops, some_run, run_within, begins_is, is_begun, front_is}
use Rattle.c_model.proofs.CMarks.{mark_of}
use Rattle.c_model.proofs.CStrings.{string_is}

-- what is found, spelled at so many bytes
SpelledAs : List ℕ → Mode → List ℕ → Found → Type 0
SpelledAs before m bs x = Spells before m x.piece (take (suc x.more) bs) (drop (suc x.more) bs)

pub behind_is : (w r : List ℕ) → drop (length w) (w ++ r) ≡ r
behind_is [] r = refl
behind_is (b ∷ w) r = behind_is w r

-- a piece that is found is spelled by the bytes w before r
spelled : (before : List ℕ) (m : Mode) (bs : List ℕ) (p : Piece) (n : ℕ) (x : Found) (w r : List ℕ) → found p n ≡ Ok x → bs ≡ w ++ r → length w ≡ suc n → Spells before m p w r → SpelledAs before m bs x
unfolding SpelledAs
spelled before m bs p n x w r e split len h =
    let made : Found = record { piece = p; more = n } in
    let same : made ≡ x = cc in
    let front : w ≡ take (suc n) bs = sym (front_is w r) ∙ (λ i. take (len i) (sym split i)) in
    let rest : r ≡ drop (suc n) bs = sym (behind_is w r) ∙ (λ i. drop (len i) (sym split i)) in
    subst (λ (y : Found). Spells before m y.piece (take (suc y.more) bs) (drop (suc y.more) bs)) same
    (subst (λ (t : List ℕ). Spells before m p (take (suc n) bs) t) rest (subst (λ (t : List ℕ). Spells before m p t r) front h))

pub code_is : (m : Mode) → is_code m ≡ true → m ≡ Code
code_is Code e = refl
code_is Block e = absurd cc
code_is Line e = absurd cc

-- ---- names and literals

pub take_len : (n : ℕ) (bs : List ℕ) → n ≤ length bs → length (take n bs) ≡ n
take_len n bs h = omega (arith, length-take n bs)

word_spells : (before : List ℕ) (m : Mode) (b : ℕ) (bs : List ℕ) (x : Found) → begins_name m (b ∷ bs) ≡ true → word_at m (b ∷ bs) ≡ Ok x → SpelledAs before m (b ∷ bs) x
unfolding word_at
word_spells before m b bs x begins e =
    let k = prefix_len is_part bs in
    let w : List ℕ = b ∷ take k bs in
    let whole : b ∷ bs ≡ w ++ drop k bs = ap (λ (t : List ℕ). b ∷ t) (sym (take-append-drop k bs)) in
    elim (chosen (ltb 255 (length (word (b ∷ bs)))) (Err fault.Name) _ (Ok x) e) [
      | inl h ↦ absurd (let f = h.1 in cc)
      | inr h ↦ elim (chosen (is_outside m (word (b ∷ bs))) (Err fault.OutsideWord) (found piece.Word (length (word (b ∷ bs)) - 1)) (Ok x) h.1) [
        | inl g ↦ absurd (let f = g.1 in cc)
        | inr g ↦ spelled before m (b ∷ bs) piece.Word (length (word (b ∷ bs)) - 1) x w (drop k bs) g.1 whole (omega arith) (record {
          first = b;
          others = take k bs;
          joined = refl;
          begins = ap (begins_name m) (sym whole) ∙ begins;
          parts = run_passes is_part bs;
          ends = run_stops is_part bs;
          short = ltb-false 255 _ h.0;
          inside = g.0;
        })
      ]
    ]

unfoldable pub of_literal : ℕ → Option (ℕ × Option CInt) → Result Found Fault
of_literal n r = elim r [ None ↦ Err fault.Number | Some x ↦ found (piece.Number x.0 x.1) (n - 1) ]

or_right : (a : Bool) → a || true ≡ true
or_right true = refl
or_right false = refl

digit_part : (b : ℕ) → is_digit b ≡ true → is_part b ≡ true
digit_part b e = rw e (or_right (is_nondigit b))

number_spells : (before : List ℕ) (m : Mode) (b : ℕ) (bs : List ℕ) (x : Found) → is_digit b ≡ true → number_at m (b ∷ bs) ≡ Ok x → SpelledAs before m (b ∷ bs) x
unfolding number_at of_literal
number_spells before m b bs x digit e = elim (chosen (is_dotted m (drop (prefix_len is_part (b ∷ bs)) (b ∷ bs))) (Err fault.Number) _ (Ok x) e) [
  | inl h ↦ absurd (let f = h.1 in cc)
  | inr h ↦ by (literal_of (take (prefix_len is_part (b ∷ bs)) (b ∷ bs))) refl h.0 h.1
]
  where
    by : (r : Option (ℕ × Option CInt)) → literal_of (take (prefix_len is_part (b ∷ bs)) (b ∷ bs)) ≡ r → is_dotted m (drop (prefix_len is_part (b ∷ bs)) (b ∷ bs)) ≡ false → of_literal (prefix_len is_part (b ∷ bs)) r ≡ Ok x
        → SpelledAs before m (b ∷ bs) x
    by None l d f = absurd cc
    by (Some v) l d f =
        let n = prefix_len is_part (b ∷ bs) in
        let some : 0 < n = some_run is_part b bs (digit_part b digit) in
        let len = take_len n (b ∷ bs) (run_within is_part (b ∷ bs)) in
        spelled before m (b ∷ bs) (piece.Number v.0 v.1) (n - 1) x (take n (b ∷ bs)) (drop n (b ∷ bs)) f (sym (take-append-drop n (b ∷ bs))) (omega (arith, len)) (record {
          literal = l;
          parts = run_passes is_part (b ∷ bs);
          ends = run_stops is_part (b ∷ bs);
          undotted = d;
        })

unfoldable pub of_letter : Option (ℕ × ℕ) → Result Found Fault
of_letter r = elim r [ None ↦ Err fault.Letter | Some x ↦ found (piece.Letter x.0) x.1 ]

-- what a character literal is made of
pub record Quoted (bs : List ℕ) (c n : ℕ) : Type 0 where
  pub unit : List ℕ
  pub behind : List ℕ
  pub split : bs ≡ unit ++ (39 ∷ behind)
  pub count : length unit + 1 ≡ n
  pub other : begins_with (39 ∷ []) bs ≡ false
  pub one : unit_at bs ≡ Some (c, length unit - 1)

drop_len : (n : ℕ) (bs : List ℕ) (c : ℕ) (r : List ℕ) → drop n bs ≡ c ∷ r → n < length bs
drop_len zero [] c r e = absurd cc
drop_len zero (b ∷ bs) c r e = omega arith
drop_len (suc n) [] c r e = absurd cc
drop_len (suc n) (b ∷ bs) c r e = omega (arith, drop_len n bs c r e)

some_pair : (a b : ℕ × ℕ) → (let o : Option (ℕ × ℕ) = Some a in o) ≡ Some b → a ≡ b
some_pair a b e = cc

pub quoted_of : (bs : List ℕ) (c n : ℕ) → letter_of bs ≡ Some (c, n) → Quoted bs c n
unfolding letter_of
quoted_of bs c n e = elim (chosen (begins_with (39 ∷ []) bs) None _ (Some (c, n)) e) [
  | inl h ↦ absurd (let f = h.1 in cc)
  | inr h ↦ by (unit_at bs) refl h.0 h.1
]
  where
    made : (u : ℕ × ℕ) → unit_at bs ≡ Some u → begins_with (39 ∷ []) bs ≡ false → begins_with (39 ∷ []) (drop (u.1 + 1) bs) ≡ true → u.0 ≡ c → u.1 + 2 ≡ n → Quoted bs c n
    made u is other closed value total =
        let front : drop (u.1 + 1) bs ≡ 39 ∷ drop 1 (drop (u.1 + 1) bs) = begins_is (39 ∷ []) (drop (u.1 + 1) bs) closed in
        let long = drop_len (u.1 + 1) bs 39 _ front in
        let len : length (take (u.1 + 1) bs) ≡ u.1 + 1 = take_len (u.1 + 1) bs (omega arith) in
        record {
          unit = take (u.1 + 1) bs;
          behind = drop 1 (drop (u.1 + 1) bs);
          split = sym (take-append-drop (u.1 + 1) bs) ∙ ap (λ (t : List ℕ). take (u.1 + 1) bs ++ t) front;
          count = omega (arith, len, total);
          other = other;
          one = is ∙ (let more : u.1 ≡ length (take (u.1 + 1) bs) - 1 = omega (arith, len) in λ i. Some (value i, more i));
        }

    by : (r : Option (ℕ × ℕ)) → unit_at bs ≡ r → begins_with (39 ∷ []) bs ≡ false
        → (let o : Option (ℕ × ℕ) = elim r [ None ↦ None | Some u ↦ cond (begins_with (39 ∷ []) (drop (u.1 + 1) bs)) (Some (u.0, u.1 + 2)) None ] in o) ≡ Some (c, n) → Quoted bs c n
    by None is other f = absurd cc
    by (Some u) is other f = elim (chosen (begins_with (39 ∷ []) (drop (u.1 + 1) bs)) (Some (u.0, u.1 + 2)) None (Some (c, n)) f) [
      | inl h ↦ let same = some_pair (u.0, u.1 + 2) (c, n) h.1 in made u is other h.0 (ap (λ (p : ℕ × ℕ). p.0) same) (ap (λ (p : ℕ × ℕ). p.1) same)
      | inr h ↦ absurd (let g = h.1 in cc)
    ]

letter_spells : (before : List ℕ) (m : Mode) (b : ℕ) (bs : List ℕ) (x : Found) → eqb b 39 ≡ true → letter_at bs ≡ Ok x → SpelledAs before m (b ∷ bs) x
unfolding letter_at of_letter
letter_spells before m b bs x quote e = by (letter_of bs) refl e
  where
    by : (r : Option (ℕ × ℕ)) → letter_of bs ≡ r → of_letter r ≡ Ok x → SpelledAs before m (b ∷ bs) x
    by None l f = absurd cc
    by (Some v) l f =
        let h = quoted_of bs v.0 v.1 l in
        let whole : b ∷ bs ≡ (39 ∷ h.unit ++ 39 ∷ []) ++ h.behind = (λ i. eqb-true b 39 quote i ∷ h.split i) ∙ ap (λ (t : List ℕ). 39 ∷ t) (sym (append_assoc h.unit (39 ∷ []) h.behind)) in
        spelled before m (b ∷ bs) (piece.Letter v.0) v.1 x (39 ∷ h.unit ++ 39 ∷ []) h.behind f whole (omega (arith, length-append h.unit (39 ∷ []), h.count)) (record {
          unit = h.unit;
          quoted = refl;
          other = ap (begins_with (39 ∷ [])) (sym h.split) ∙ h.other;
          one = ap unit_at (sym h.split) ∙ h.one;
        })

unfoldable pub of_string : Option ℕ → Result Found Fault
of_string r = elim r [ None ↦ Err fault.Chars | Some n ↦ found piece.Chars n ]

string_spells : (before : List ℕ) (m : Mode) (b : ℕ) (bs : List ℕ) (x : Found) → eqb b 34 ≡ true → string_at m bs ≡ Ok x → SpelledAs before m (b ∷ bs) x
unfolding string_at of_string
string_spells before m b bs x quote e = by (string_len m 0 bs) refl e
  where
    by : (r : Option ℕ) → string_len m 0 bs ≡ r → of_string r ≡ Ok x → SpelledAs before m (b ∷ bs) x
    by None l f = absurd cc
    by (Some n) l f =
        let h = string_is m bs n l in
        let whole : b ∷ bs ≡ (34 ∷ h.spelling ++ 34 ∷ []) ++ h.behind = (λ i. eqb-true b 34 quote i ∷ h.split i) ∙ ap (λ (t : List ℕ). 34 ∷ t) (sym (append_assoc h.spelling (34 ∷ []) h.behind)) in
        spelled before m (b ∷ bs) piece.Chars n x (34 ∷ h.spelling ++ 34 ∷ []) h.behind f whole (omega (arith, length-append h.spelling (34 ∷ []), h.count)) (record {
          units = h.units;
          quoted = ap (λ (t : List ℕ). 34 ∷ t ++ 34 ∷ []) h.spells;
          are = h.are;
        })

-- ---- comments

-- where a comment ends
pub record Closed (bs : List ℕ) (n : ℕ) : Type 0 where
  pub inside : List ℕ
  pub behind : List ℕ
  pub split : bs ≡ inside ++ (42 ∷ 47 ∷ behind)
  pub count : length inside + 2 ≡ n
  pub first : HaveNoEnd inside (42 ∷ 47 ∷ behind)

pub some_suc : (o : Option ℕ) (n : ℕ) → option_map suc o ≡ Some n → (k : ℕ) × (o ≡ Some k) × (suc k ≡ n)
some_suc None n e = absurd cc
some_suc (Some k) n e = (k, refl, cc)

pub closed_of : (bs : List ℕ) (n : ℕ) → block_len bs ≡ Some n → Closed bs n
closed_of [] n e = absurd cc
closed_of (b ∷ bs) n e = elim (chosen (begins_with (42 ∷ 47 ∷ []) (b ∷ bs)) (Some 2) (option_map suc (block_len bs)) (Some n) e) [
  | inl h ↦ record {
    inside = [];
    behind = drop 2 (b ∷ bs);
    split = begins_is (42 ∷ 47 ∷ []) (b ∷ bs) h.0;
    count = let f = h.1 in cc;
    first = tt;
  }
  | inr h ↦
      let s = some_suc (block_len bs) n h.1 in
      let rest = closed_of bs s.0 s.1 in
      record {
        inside = b ∷ rest.inside;
        behind = rest.behind;
        split = ap (λ (t : List ℕ). b ∷ t) rest.split;
        count = omega (arith, rest.count, s.2);
        first = (ap (λ (t : List ℕ). begins_with (42 ∷ 47 ∷ []) (b ∷ t)) (sym rest.split) ∙ h.0, rest.first);
      }
]

-- what begins neither kind of annotation
no_annotation : (m : Mode) (bs : List ℕ) → is_code m && begins_with (47 ∷ 42 ∷ 64 ∷ []) bs ≡ false → is_code m && begins_with (47 ∷ 47 ∷ 64 ∷ []) bs ≡ false → begins_annotation m bs ≡ false
no_annotation Code bs block line = or_from _ _ block line
no_annotation Block bs block line = refl
no_annotation Line bs block line = refl

unfoldable pub of_comment : Option ℕ → Result Found Fault
of_comment r = elim r [ None ↦ Err fault.Comment | Some n ↦ found piece.Blank (n + 1) ]

comment_spells : (before : List ℕ) (m : Mode) (bs : List ℕ) (x : Found) → m ≡ Code → begins_annotation m bs ≡ false → begins_with (47 ∷ 42 ∷ []) bs ≡ true → comment_at (drop 2 bs) ≡ Ok x → SpelledAs before m bs x
unfolding comment_at of_comment
comment_spells before m bs x code plain begins e = by (block_len (drop 2 bs)) refl e
  where
    by : (r : Option ℕ) → block_len (drop 2 bs) ≡ r → of_comment r ≡ Ok x → SpelledAs before m bs x
    by None l f = absurd cc
    by (Some n) l f =
        let h = closed_of (drop 2 bs) n l in
        let w : List ℕ = 47 ∷ 42 ∷ (h.inside ++ 42 ∷ 47 ∷ []) in
        let whole : bs ≡ w ++ h.behind = begins_is (47 ∷ 42 ∷ []) bs begins ∙ ap (λ (t : List ℕ). 47 ∷ 42 ∷ t) (h.split ∙ sym (append_assoc h.inside (42 ∷ 47 ∷ []) h.behind)) in
        spelled before m bs piece.Blank (n + 1) x w h.behind f whole (omega (arith, length-append h.inside (42 ∷ 47 ∷ []), h.count))
        (inr (inr (code, inl (record { inside = h.inside; joined = refl; first = h.first; no_annotation = (λ i. begins_annotation (sym code i) (sym whole i)) ∙ plain }))))

-- the bytes of a comment with `//`
or_false : (a b : Bool) → a || b ≡ false → (a ≡ false) × (b ≡ false)
or_false true b e = absurd cc
or_false false b e = (refl, e)

comment_within : (m : Mode) (bs : List ℕ) → comment_len m bs ≤ length bs
comment_within m [] = omega arith
comment_within m (b ∷ bs) = by (eqb b 10 || ends_block m (b ∷ bs)) (comment_within m bs)
  where
    by : (t : Bool) → comment_len m bs ≤ length bs → cond t 0 (suc (comment_len m bs)) ≤ suc (length bs)
    by true h = omega arith
    by false h = omega arith

comment_line : (m : Mode) (bs : List ℕ) → list_all in_line (take (comment_len m bs) bs) ≡ true
comment_line m [] = refl
comment_line m (b ∷ bs) = by (eqb b 10 || ends_block m (b ∷ bs)) refl (comment_line m bs)
  where
    by : (t : Bool) → eqb b 10 || ends_block m (b ∷ bs) ≡ t → list_all in_line (take (comment_len m bs) bs) ≡ true → list_all in_line (take (cond t 0 (suc (comment_len m bs))) (b ∷ bs)) ≡ true
    by true e rest = refl
    by false e rest = rw ((or_false (eqb b 10) (ends_block m (b ∷ bs)) e).0) rest

comment_first : (m : Mode) (bs : List ℕ) → m ≡ Block → HaveNoEnd (take (comment_len m bs) bs) (drop (comment_len m bs) bs)
comment_first m [] block = tt
comment_first m (b ∷ bs) block = by (eqb b 10 || ends_block m (b ∷ bs)) refl (comment_first m bs block)
  where
    ends : (m2 : Mode) → m2 ≡ Block → ends_block m2 (b ∷ bs) ≡ false → begins_with (42 ∷ 47 ∷ []) (b ∷ bs) ≡ false
    ends Code is e = absurd cc
    ends Block is e = e
    ends Line is e = absurd cc

    by : (t : Bool) → eqb b 10 || ends_block m (b ∷ bs) ≡ t → HaveNoEnd (take (comment_len m bs) bs) (drop (comment_len m bs) bs)
        → HaveNoEnd (take (cond t 0 (suc (comment_len m bs))) (b ∷ bs)) (drop (cond t 0 (suc (comment_len m bs))) (b ∷ bs))
    by true e rest = tt
    by false e rest =
        let here = ends m block (or_false (eqb b 10) (ends_block m (b ∷ bs)) e).1 in
        (ap (λ (t : List ℕ). begins_with (42 ∷ 47 ∷ []) (b ∷ t)) (take-append-drop (comment_len m bs) bs) ∙ here, rest)

comment_ends : (m : Mode) (bs : List ℕ) → EndsComment m (drop (comment_len m bs) bs)
comment_ends m [] = tt
comment_ends m (b ∷ bs) = by (eqb b 10 || ends_block m (b ∷ bs)) refl (comment_ends m bs)
  where
    by : (t : Bool) → eqb b 10 || ends_block m (b ∷ bs) ≡ t → EndsComment m (drop (comment_len m bs) bs) → EndsComment m (drop (cond t 0 (suc (comment_len m bs))) (b ∷ bs))
    by true e rest = e
    by false e rest = rest

-- a front that no byte of ends a comment belongs to it
front_kept : (m : Mode) (bs : List ℕ) → begins_with (47 ∷ 47 ∷ []) bs ≡ true → (k : ℕ) × (comment_len m bs ≡ suc (suc k))
front_kept m [] e = absurd (true≢false (sym e))
front_kept m (a ∷ []) e = absurd (let h = and_true (eqb 47 a) false e in cc)
front_kept m (a ∷ b ∷ bs) e =
    let one = and_true (eqb 47 a) (eqb 47 b && begins_with [] bs) e in
    let two = and_true (eqb 47 b) (begins_with [] bs) one.1 in
    let none : ends_block m (47 ∷ 47 ∷ bs) ≡ false = no_end m bs in
    (comment_len m bs, (λ i. comment_len m (sym (eqb-true 47 a one.0) i ∷ sym (eqb-true 47 b two.0) i ∷ bs)) ∙ rw none refl)
  where
    no_end : (m : Mode) (cs : List ℕ) → ends_block m (47 ∷ 47 ∷ cs) ≡ false
    no_end Code cs = refl
    no_end Block cs = refl
    no_end Line cs = refl

line_spells : (before : List ℕ) (m : Mode) (bs : List ℕ) (x : Found) → begins_annotation m bs ≡ false → begins_with (47 ∷ 47 ∷ []) bs ≡ true → found piece.Blank (comment_len m bs - 1) ≡ Ok x → SpelledAs before m bs x
line_spells before m bs x plain begins e =
    let n = comment_len m bs in
    let two = front_kept m bs begins in
    let len = take_len n bs (comment_within m bs) in
    let start : take n bs ≡ 47 ∷ 47 ∷ take two.0 (drop 2 bs) = (λ i. take (two.1 i) (begins_is (47 ∷ 47 ∷ []) bs begins i)) in
    spelled before m bs piece.Blank (n - 1) x (take n bs) (drop n bs) e (sym (take-append-drop n bs)) (omega (arith, two.1)) (inr (inl (record {
      inside = take two.0 (drop 2 bs);
      joined = start;
      line = comment_line m bs;
      first = λ block. (subst (λ (t : List ℕ). HaveNoEnd t (drop n bs)) start (comment_first m bs block)).1.1;
      ends = comment_ends m bs;
      no_annotation = ap (begins_annotation m) (take-append-drop n bs) ∙ plain;
    })))

-- ---- annotations and directives

some_within : (w bs : List ℕ) → begins_with w bs ≡ true → length w ≤ length bs
some_within w bs e = omega (arith, ap length (begins_is w bs e), length-append w (drop (length w) bs))

behind_comment : (c : Bool) (bs : List ℕ) (k : ℕ) → blank_block c bs ≡ Some k → k ≤ length bs
behind_comment c [] k e = absurd cc
behind_comment c (b ∷ bs) k e = elim (chosen (begins_with (42 ∷ 47 ∷ []) (b ∷ bs)) (Some 2) _ (Some k) e) [
  | inl h ↦ omega (arith, some_within (42 ∷ 47 ∷ []) (b ∷ bs) h.0, (let f : 2 ≡ k = (let g = h.1 in cc) in f))
  | inr h ↦ by (comment_behind c (b ∷ bs)) h.1 (λ d j. behind_comment d bs j)
]
  where
    by : (r : Option Bool) → (let o : Option ℕ = elim r [ None ↦ None | Some d ↦ option_map suc (blank_block d bs) ] in o) ≡ Some k → ((d : Bool) (j : ℕ) → blank_block d bs ≡ Some j → j ≤ length bs) → k ≤ suc (length bs)
    by None f rest = absurd cc
    by (Some d) f rest = let s = some_suc (blank_block d bs) k f in omega (arith, rest d s.0 s.1, s.2)

unfoldable pub of_blank_block : Option ℕ → Result Found Fault
of_blank_block r = elim r [ None ↦ found (piece.Open Block) 2 | Some k ↦ found piece.Blank (k + 2) ]

unfoldable pub of_block : List ℕ → Option ℕ → Result Found Fault
of_block bs r = elim r [ None ↦ Err fault.Comment | Some n ↦ of_blank_block (blank_block false bs) ]

block_spells : (before : List ℕ) (m : Mode) (bs : List ℕ) (x : Found) → m ≡ Code → begins_with (47 ∷ 42 ∷ 64 ∷ []) bs ≡ true → open_block (drop 3 bs) ≡ Ok x → SpelledAs before m bs x
unfolding open_block of_block of_blank_block
block_spells before m bs x code begins e = by (block_len (drop 3 bs)) refl e
  where
    whole : bs ≡ 47 ∷ 42 ∷ 64 ∷ drop 3 bs
    whole = begins_is (47 ∷ 42 ∷ 64 ∷ []) bs begins

    inner : (n : ℕ) (r : Option ℕ) → block_len (drop 3 bs) ≡ Some n → blank_block false (drop 3 bs) ≡ r → of_blank_block r ≡ Ok x → SpelledAs before m bs x
    inner n None l g f = spelled before m bs (piece.Open Block) 2 x (47 ∷ 42 ∷ 64 ∷ []) (drop 3 bs) f whole refl (code, refl, ap is_some l, g)
    inner n (Some k) l g f =
        let len = take_len k (drop 3 bs) (behind_comment false (drop 3 bs) k g) in
        let back : take k (drop 3 bs) ++ drop k (drop 3 bs) ≡ drop 3 bs = take-append-drop k (drop 3 bs) in
        spelled before m bs piece.Blank (k + 2) x (47 ∷ 42 ∷ 64 ∷ take k (drop 3 bs)) (drop k (drop 3 bs)) f (whole ∙ ap (λ (t : List ℕ). 47 ∷ 42 ∷ 64 ∷ t) (sym back)) (omega (arith, len))
        (inr (inr (code, inr (inl (record { inside = take k (drop 3 bs); joined = refl; blank = ap (blank_block false) back ∙ g ∙ ap (λ (j : ℕ). Some j) (sym len) })))))

    by : (r : Option ℕ) → block_len (drop 3 bs) ≡ r → of_block (drop 3 bs) r ≡ Ok x → SpelledAs before m bs x
    by None l f = absurd cc
    by (Some n) l f = inner n (blank_block false (drop 3 bs)) l refl f

open_line_spells : (before : List ℕ) (m : Mode) (bs : List ℕ) (x : Found) → m ≡ Code → begins_with (47 ∷ 47 ∷ 64 ∷ []) bs ≡ true → open_line (drop 3 bs) ≡ Ok x → SpelledAs before m bs x
unfolding open_line
open_line_spells before m bs x code begins e =
    let rest = drop 3 bs in
    let n = prefix_len in_line rest in
    let whole : bs ≡ 47 ∷ 47 ∷ 64 ∷ rest = begins_is (47 ∷ 47 ∷ 64 ∷ []) bs begins in
    elim (chosen (is_blank_line rest) (found piece.Blank (n + 2)) (found (piece.Open Line) 2) (Ok x) e) [
      | inl h ↦
          let len = take_len n rest (run_within in_line rest) in
          let back : take n rest ++ drop n rest ≡ rest = take-append-drop n rest in
          spelled before m bs piece.Blank (n + 2) x (47 ∷ 47 ∷ 64 ∷ take n rest) (drop n rest) h.1 (whole ∙ ap (λ (t : List ℕ). 47 ∷ 47 ∷ 64 ∷ t) (sym back)) (omega (arith, len))
          (inr (inr (code, inr (inr (inl (record { inside = take n rest; joined = refl; blank = ap is_blank_line back ∙ h.0; line = run_passes in_line rest; ends = run_stops in_line rest }))))))
      | inr h ↦ spelled before m bs (piece.Open Line) 2 x (47 ∷ 47 ∷ 64 ∷ []) rest h.1 whole refl (code, refl, h.0)
    ]

unfoldable pub of_directive : ℕ → Option Fault → Result Found Fault
of_directive n r = elim r [ None ↦ found piece.Blank n | Some f ↦ Err f ]

directive_spells : (before : List ℕ) (m : Mode) (b : ℕ) (bs : List ℕ) (x : Found) → m ≡ Code → starts_line before ≡ true → eqb b 35 ≡ true → directive_at bs ≡ Ok x → SpelledAs before m (b ∷ bs) x
unfolding directive_at of_directive
directive_spells before m b bs x code fresh hash e = by (directive_fault (directive_line bs)) refl e
  where
    by : (r : Option Fault) → directive_fault (directive_line bs) ≡ r → of_directive (prefix_len in_line bs) r ≡ Ok x → SpelledAs before m (b ∷ bs) x
    by (Some f) l g = absurd cc
    by None l g =
        let n = prefix_len in_line bs in
        let back : take n bs ++ drop n bs ≡ bs = take-append-drop n bs in
        spelled before m (b ∷ bs) piece.Blank n x (b ∷ take n bs) (drop n bs) g (ap (λ (t : List ℕ). b ∷ t) (sym back)) (omega (arith, take_len n bs (run_within in_line bs)))
        (inr (inr (
          code,
          inr (inr (inr (record {
            first = fresh;
            line = take n bs;
            joined = ap (λ (c : ℕ). c ∷ take n bs) (eqb-true b 35 hash);
            alone = run_passes in_line bs;
            ends = run_stops in_line bs;
            sound = ap (λ (t : List ℕ). directive_fault (directive_line t)) back ∙ l;
          }))),
        )))

mark_spells : (before : List ℕ) (m : Mode) (bs : List ℕ) (x : Found) → begins_comment m bs ≡ false → ends_annotation m bs ≡ false → mark_at m bs ≡ Ok x → SpelledAs before m bs x
mark_spells before m bs x no_comment no_end e =
    let h = mark_of m bs x e in
    let whole = begins_is h.mark bs h.begins in
    spelled before m bs (piece.Mark h.place) (length h.mark - 1) x h.mark (drop (length h.mark) bs) (ap (λ (y : Found). let r : Result Found Fault = Ok y in r) (sym h.is)) whole (omega (arith, h.some)) (record {
      at = h.at;
      longest = λ q rest there g. h.longest q there (ap (begins_with q) (whole ∙ g) ∙ is_begun q rest);
      no_comment = ap (begins_comment m) (sym whole) ∙ no_comment;
      no_end = ap (ends_annotation m) (sym whole) ∙ no_end;
    })

-- ---- pieces

other_spells : (before : List ℕ) (m : Mode) (bs : List ℕ) (x : Found) → ends_annotation m bs ≡ false → other_at m bs ≡ Ok x → SpelledAs before m bs x
unfolding other_at
other_spells before m bs x no_end e = elim (chosen (is_code m && begins_with (47 ∷ 42 ∷ 64 ∷ []) bs) (open_block (drop 3 bs)) _ (Ok x) e) [
  | inl h ↦ let a = and_true (is_code m) _ h.0 in block_spells before m bs x (code_is m a.0) a.1 h.1
  | inr h1 ↦ elim (chosen (is_code m && begins_with (47 ∷ 47 ∷ 64 ∷ []) bs) (open_line (drop 3 bs)) _ (Ok x) h1.1) [
    | inl h ↦ let a = and_true (is_code m) _ h.0 in open_line_spells before m bs x (code_is m a.0) a.1 h.1
    | inr h2 ↦ elim (chosen (is_code m && begins_with (47 ∷ 42 ∷ []) bs) (comment_at (drop 2 bs)) _ (Ok x) h2.1) [
      | inl h ↦ let a = and_true (is_code m) _ h.0 in comment_spells before m bs x (code_is m a.0) (no_annotation m bs h1.0 h2.0) a.1 h.1
      | inr h3 ↦ elim (chosen (begins_with (47 ∷ 47 ∷ []) bs) (found piece.Blank (comment_len m bs - 1)) (mark_at m bs) (Ok x) h3.1) [
        | inl h ↦ line_spells before m bs x (no_annotation m bs h1.0 h2.0) h.0 h.1
        | inr h4 ↦ mark_spells before m bs x (or_from _ _ h3.0 h4.0) no_end h4.1
      ]
    ]
  ]
]

newline_is : (b : ℕ) (bs : List ℕ) → begins_with (10 ∷ []) (b ∷ bs) ≡ eqb b 10
newline_is b bs = grind (arith, nat_tests)

-- what isn't read as an annotation's end is none
no_end : (m : Mode) (b : ℕ) (bs : List ℕ) → is_line m && eqb b 10 ≡ false → ends_block m (b ∷ bs) ≡ false → ends_annotation m (b ∷ bs) ≡ false
no_end Code b bs line block = refl
no_end Block b bs line block = block
no_end Line b bs line block = newline_is b bs ∙ line

close_line : (before : List ℕ) (m : Mode) (b : ℕ) (bs : List ℕ) (x : Found) → is_line m && eqb b 10 ≡ true → found piece.Close 0 ≡ Ok x → SpelledAs before m (b ∷ bs) x
close_line before Code b bs x h e = absurd (true≢false (sym h))
close_line before Block b bs x h e = absurd (true≢false (sym h))
close_line before Line b bs x h e = spelled before Line (b ∷ bs) piece.Close 0 x (b ∷ []) bs e refl refl (ap (λ (c : ℕ). c ∷ []) (eqb-true b 10 h))

close_block : (before : List ℕ) (m : Mode) (bs : List ℕ) (x : Found) → ends_block m bs ≡ true → found piece.Close 1 ≡ Ok x → SpelledAs before m bs x
close_block before Code bs x h e = absurd (true≢false (sym h))
close_block before Block bs x h e = spelled before Block bs piece.Close 1 x (42 ∷ 47 ∷ []) (drop 2 bs) e (begins_is (42 ∷ 47 ∷ []) bs h) refl refl
close_block before Line bs x h e = absurd (true≢false (sym h))

pub piece_spells : (before : List ℕ) (m : Mode) (bs : List ℕ) (x : Found) → piece_at m (starts_line before) bs ≡ Ok x → Spells before m x.piece (take (suc x.more) bs) (drop (suc x.more) bs)
unfolding piece_at SpelledAs
piece_spells before m [] x e = absurd cc
piece_spells before m (b ∷ bs) x e = elim (chosen (is_line m && eqb b 10) (found piece.Close 0) _ (Ok x) e) [
  | inl h ↦ close_line before m b bs x h.0 h.1
  | inr h1 ↦ elim (chosen (ends_block m (b ∷ bs)) (found piece.Close 1) _ (Ok x) h1.1) [
    | inl h ↦ close_block before m (b ∷ bs) x h.0 h.1
    | inr h2 ↦ elim (chosen (is_gap m b) (found piece.Blank 0) _ (Ok x) h2.1) [
      | inl h ↦ spelled before m (b ∷ bs) piece.Blank 0 x (b ∷ []) bs h.1 refl refl (inl (record { byte = b; alone = refl; blank = h.0; no_end = no_end m b bs h1.0 h2.0 }))
      | inr h3 ↦ elim (chosen (begins_name m (b ∷ bs)) (word_at m (b ∷ bs)) _ (Ok x) h3.1) [
        | inl h ↦ word_spells before m b bs x h.0 h.1
        | inr h4 ↦ elim (chosen (is_digit b) (number_at m (b ∷ bs)) _ (Ok x) h4.1) [
          | inl h ↦ number_spells before m b bs x h.0 h.1
          | inr h5 ↦ elim (chosen (eqb b 39) (letter_at bs) _ (Ok x) h5.1) [
            | inl h ↦ letter_spells before m b bs x h.0 h.1
            | inr h6 ↦ elim (chosen (eqb b 34) (string_at m bs) _ (Ok x) h6.1) [
              | inl h ↦ string_spells before m b bs x h.0 h.1
              | inr h7 ↦ elim (chosen (is_code m && starts_line before && eqb b 35) (directive_at bs) (other_at m (b ∷ bs)) (Ok x) h7.1) [
                | inl h ↦
                    let a = and_true (is_code m && starts_line before) (eqb b 35) h.0 in
                    let c = and_true (is_code m) (starts_line before) a.0 in
                    directive_spells before m b bs x (code_is m c.0) c.1 a.1 h.1
                | inr h8 ↦ other_spells before m (b ∷ bs) x (no_end m b bs h1.0 h2.0) h8.1
              ]
            ]
          ]
        ]
      ]
    ]
  ]
]
