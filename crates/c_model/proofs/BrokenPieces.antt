-- Where no piece of a monitored text begins, it is broken as its fault says.
use Rattle.std.proofs.Common.{◌≡◌, ℕ, ◌+◌, ◌-◌, ◌≤◌, Bool, true, false, cond, ◌&&◌, eqb, leb, ltb, List, [], ◌∷◌, ◌++◌, length, take, drop, is_some, Option, Some, None, Result, Err, inl, inr, refl, sym, ap, subst, ◌∙◌, arith, append_assoc}
use Rattle.std.proofs.Common.{length-append, true≢false}
use Rattle.std.specs.List.{prefix_len, list_all}
use Rattle.std.specs.Str.Parse.{digits_value}
use Rattle.std.proofs.lemmas.Bool.{eqb-true, ltb-true, le-leb, lt-ltb}
use Rattle.std.proofs.lemmas.Bool.Decides.{nat_tests}
use Rattle.c_model.specs.declared.monitored_tokens.Piece.TheVariants as piece
use Rattle.c_model.specs.declared.monitored_tokens.Found.{Found}
use Rattle.c_model.specs.declared.monitored_tokens.Fault.{Fault}
use Rattle.c_model.specs.declared.monitored_tokens.Fault.TheVariants as fault
use Rattle.c_model.specs.Characters.{is_blank, is_digit, is_nondigit, is_part, in_literal, begins_with}
use Rattle.c_model.specs.MonitoredTokens.{found, word_at, greatest_literal, literal_of, number_at, is_plain, is_octal, octal_value, octal_byte, in_front, in_string, chars_of, escape_of, string_at, ends_line, head_line, head_at, marks, first_mark}
use Rattle.c_model.specs.MonitoredTokens.{piece_at}
use Rattle.c_model.specs.MonitoredTokenLaws.{starts_line, Stops, IsNumber, IsString, IsIn, IsHead, Breaks}
use Rattle.c_model.proofs.Spelling.{chosen, and_true, is_begun, front_is, digit_in}

same_fault : (f g : Fault) → (let r : Result Found Fault = Err f in r) ≡ Err g → f ≡ g
same_fault f g e = cc

-- a run of bytes that pass, up to one that doesn't
pub run_is : (p : ℕ → Bool) (bs behind : List ℕ) → list_all p bs ≡ true → Stops p behind → prefix_len p (bs ++ behind) ≡ length bs
run_is p [] [] all stop = refl
run_is p [] (c ∷ cs) all stop = rw stop refl
run_is p (b ∷ bs) behind all stop =
    let h = and_true (p b) (list_all p bs) all in
    let rest = run_is p bs behind h.1 stop in
    ap (λ (t : Bool). cond t (1 + prefix_len p (bs ++ behind)) 0) h.0 ∙ omega arith

-- ---- marks

pub none_begins : (i : ℕ) (ms : List (List ℕ)) (bs : List ℕ) (f : Fault) → first_mark i ms bs ≡ Err f → (m : List ℕ) → IsIn ms m → begins_with m bs ≡ false
none_begins i [] bs f e m there = elim there [ ]
none_begins i (o ∷ os) bs f e m there = elim (chosen (begins_with o bs) (found (piece.Mark i) (length o - 1)) (first_mark (i + 1) os bs) (Err f) e) [
  | inl h ↦ absurd (let k = h.1 in cc)
  | inr h ↦ elim there [ inl s ↦ sym (ap (λ (t : List ℕ). begins_with t bs) s) ∙ h.0 | inr t ↦ none_begins (i + 1) os bs f h.1 m t ]
]

pub no_mark_fault : (i : ℕ) (ms : List (List ℕ)) (bs : List ℕ) (f : Fault) → first_mark i ms bs ≡ Err f → f ≡ fault.Byte
no_mark_fault i [] bs f e = sym (same_fault fault.Byte f e)
no_mark_fault i (o ∷ os) bs f e = elim (chosen (begins_with o bs) (found (piece.Mark i) (length o - 1)) (first_mark (i + 1) os bs) (Err f) e) [
  | inl h ↦ absurd (let k = h.1 in cc)
  | inr h ↦ no_mark_fault (i + 1) os bs f h.1
]

pub behind_is : (w rest : List ℕ) → drop (length w) (w ++ rest) ≡ rest
behind_is [] rest = refl
behind_is (o ∷ os) rest = behind_is os rest

-- ---- names and numbers

name_breaks : (before : List ℕ) (b : ℕ) (bs : List ℕ) (f : Fault) → is_nondigit b ≡ true → word_at (b ∷ bs) ≡ Err f → Breaks before f (b ∷ bs)
unfolding word_at
name_breaks before b bs f letter e =
    let n = prefix_len is_part (b ∷ bs) in
    elim (chosen (ltb 255 n) (Err fault.Name) (found piece.Word (n - 1)) (Err f) e) [
      | inl h ↦ subst (λ (g : Fault). Breaks before g (b ∷ bs)) (same_fault fault.Name f h.1) (record { first = b; others = bs; joined = refl; begins = letter; long = ltb-true 255 n h.0 })
      | inr h ↦ absurd (let k = h.1 in cc)
    ]

pub digits_in : (bs : List ℕ) → list_all is_digit bs ≡ true → list_all in_literal bs ≡ true
digits_in [] all = refl
digits_in (b ∷ bs) all = let h = and_true (is_digit b) (list_all is_digit bs) all in rw (digit_in b h.0) (digits_in bs h.1)

pub literal_all : (bs : List ℕ) (v : ℕ) → list_all is_digit bs ≡ true → digits_value 10 bs ≡ v → v ≤ greatest_literal → literal_of bs ≡ Some v
unfolding literal_of
literal_all bs v all value small =
    let fits : leb (digits_value 10 bs) greatest_literal ≡ true = le-leb _ _ (subst (λ (n : ℕ). n ≤ greatest_literal) (sym value) small) in
    (λ i. let o : Option ℕ = cond (all i && fits i) (Some (digits_value 10 bs)) None in o) ∙ ap Some value

unfoldable pub of_literal : ℕ → Option ℕ → Result Found Fault
of_literal n r = elim r [ None ↦ Err fault.Number | Some v ↦ found (piece.Number v) (n - 1) ]

number_breaks : (before : List ℕ) (b : ℕ) (bs : List ℕ) (f : Fault) → is_digit b ≡ true → number_at (b ∷ bs) ≡ Err f → Breaks before f (b ∷ bs)
unfolding number_at of_literal
number_breaks before b bs f digit e = by (literal_of (take (prefix_len in_literal (b ∷ bs)) (b ∷ bs))) refl e
  where
    lacks : literal_of (take (prefix_len in_literal (b ∷ bs)) (b ∷ bs)) ≡ None → (v : ℕ) (bytes behind : List ℕ) → b ∷ bs ≡ bytes ++ behind → IsNumber v bytes behind → ⊥
    lacks l v bytes behind whole is =
        let run : prefix_len in_literal (b ∷ bs) ≡ length bytes = ap (prefix_len in_literal) whole ∙ run_is in_literal bytes behind (digits_in bytes is.digits) is.ends in
        let front : take (prefix_len in_literal (b ∷ bs)) (b ∷ bs) ≡ bytes = (λ i. take (run i) (whole i)) ∙ front_is bytes behind in
        let both : None ≡ Some v = sym l ∙ ap literal_of front ∙ literal_all bytes v is.digits is.value is.small in
        cc

    by : (r : Option ℕ) → literal_of (take (prefix_len in_literal (b ∷ bs)) (b ∷ bs)) ≡ r → of_literal (prefix_len in_literal (b ∷ bs)) r ≡ Err f → Breaks before f (b ∷ bs)
    by None l g = subst (λ (k : Fault). Breaks before k (b ∷ bs)) (same_fault fault.Number f g) (record { first = b; others = bs; joined = refl; begins = digit; none = lacks l })
    by (Some v) l g = absurd cc

-- ---- strings

plain_in : (b : ℕ) → is_plain b ≡ true → in_string b ≡ true
plain_in b h = grind (arith, nat_tests)

octal_in : (b : ℕ) → is_octal b ≡ true → in_string b ≡ true
octal_in b h = grind (arith, nat_tests)

backslash_in : (b : ℕ) → eqb b 92 ≡ true → in_string b ≡ true
backslash_in b h = grind (arith, nat_tests)

front_some : (c : Option ℕ) (o : Option (List ℕ)) (cs : List ℕ) → in_front c o ≡ Some cs → ((x : ℕ) × (c ≡ Some x)) × ((ds : List ℕ) × (o ≡ Some ds))
front_some None o cs e = absurd cc
front_some (Some x) None cs e = absurd cc
front_some (Some x) (Some ds) cs e = ((x, refl), (ds, refl))

three_true : (p q r s : Bool) → p && q && r && s ≡ true → (p ≡ true) × (q ≡ true) × (r ≡ true)
three_true true true true s e = (refl, refl, refl)
three_true true true false s e = absurd cc
three_true true false r s e = absurd cc
three_true false q r s e = absurd cc

octal_some : (a b c x : ℕ) → octal_byte a b c ≡ Some x → (is_octal a ≡ true) × (is_octal b ≡ true) × (is_octal c ≡ true)
octal_some a b c x e = elim (chosen (is_octal a && is_octal b && is_octal c && leb (octal_value a b c) 255) (Some (octal_value a b c)) None (Some x) e) [
  | inl h ↦ three_true (is_octal a) (is_octal b) (is_octal c) (leb (octal_value a b c) 255) h.0
  | inr h ↦ absurd (let k = h.1 in cc)
]

plain_clear : (b : ℕ) (bs cs : List ℕ) (p q : Bool) → is_plain b ≡ p → eqb b 92 ≡ q → ((ds : List ℕ) → chars_of bs ≡ Some ds → list_all in_string bs ≡ true) → ((ds : List ℕ) → escape_of bs ≡ Some ds → list_all in_string bs ≡ true)
    → (let o : Option (List ℕ) = cond p (in_front (Some b) (chars_of bs)) (cond q (escape_of bs) None) in o) ≡ Some cs → in_string b && list_all in_string bs ≡ true
plain_clear b bs cs true q p1 q1 more escape e = let h = front_some (Some b) (chars_of bs) cs e in rw (plain_in b p1) (more h.1.0 h.1.1)
plain_clear b bs cs false true p1 q1 more escape e = rw (backslash_in b q1) (escape cs e)
plain_clear b bs cs false false p1 q1 more escape e = absurd cc

-- no quote stands among characters and escapes
mutual
  pub chars_clear : (bs cs : List ℕ) → chars_of bs ≡ Some cs → list_all in_string bs ≡ true
  chars_clear [] cs e = refl
  chars_clear (b ∷ bs) cs e = plain_clear b bs cs (is_plain b) (eqb b 92) refl refl (λ ds h. chars_clear bs ds h) (λ ds h. escape_clear bs ds h) e

  escape_clear : (bs cs : List ℕ) → escape_of bs ≡ Some cs → list_all in_string bs ≡ true
  escape_clear [] cs e = absurd cc
  escape_clear (a ∷ []) cs e = absurd cc
  escape_clear (a ∷ b ∷ []) cs e = absurd cc
  escape_clear (a ∷ b ∷ c ∷ bs) cs e =
      let h = front_some (octal_byte a b c) (chars_of bs) cs e in
      let d = octal_some a b c h.0.0 h.0.1 in
      rw (octal_in a d.0, octal_in b d.1, octal_in c d.2) (chars_clear bs h.1.0 h.1.1)

string_breaks : (before : List ℕ) (b : ℕ) (bs : List ℕ) (f : Fault) → eqb b 34 ≡ true → string_at bs ≡ Err f → Breaks before f (b ∷ bs)
unfolding string_at
string_breaks before b bs f quote e =
    let n = prefix_len in_string bs in
    elim (chosen (ltb n (length bs) && is_some (chars_of (take n bs))) (found piece.Chars (n + 1)) (Err fault.Chars) (Err f) e) [
      | inl h ↦ absurd (let k = h.1 in cc)
      | inr h ↦ subst (λ (k : Fault). Breaks before k (b ∷ bs)) (same_fault fault.Chars f h.1) (record { others = bs; joined = ap (λ (c : ℕ). c ∷ bs) (eqb-true b 34 quote); none = lacks h.0 })
    ]
  where
    lacks : ltb (prefix_len in_string bs) (length bs) && is_some (chars_of (take (prefix_len in_string bs) bs)) ≡ false → (bytes behind : List ℕ) → b ∷ bs ≡ bytes ++ behind → IsString bytes → ⊥
    lacks broken bytes behind whole is =
        let split : bs ≡ is.between ++ 34 ∷ behind = ap (drop 1) (whole ∙ ap (λ (l : List ℕ). l ++ behind) is.quoted) ∙ append_assoc is.between (34 ∷ []) behind in
        let run : prefix_len in_string bs ≡ length is.between = ap (prefix_len in_string) split ∙ run_is in_string is.between (34 ∷ behind) (chars_clear is.between is.chars is.are) refl in
        let front : take (prefix_len in_string bs) bs ≡ is.between = (λ i. take (run i) (split i)) ∙ front_is is.between (34 ∷ behind) in
        let some : is_some (chars_of (take (prefix_len in_string bs) bs)) ≡ true = ap (λ (l : List ℕ). is_some (chars_of l)) front ∙ ap is_some is.are in
        let closed : ltb (prefix_len in_string bs) (length bs) ≡ true = lt-ltb _ _ (omega (arith, run, ap length split, length-append is.between (34 ∷ behind))) in
        true≢false ((λ i. sym closed i && sym some i) ∙ broken)

-- ---- the directive

line_breaks : (before : List ℕ) (b : ℕ) (bs : List ℕ) (f : Fault) → starts_line before ≡ true → eqb b 35 ≡ true → head_at (b ∷ bs) ≡ Err f → Breaks before f (b ∷ bs)
unfolding head_at
line_breaks before b bs f fresh hash e = elim (chosen (begins_with head_line (b ∷ bs) && ends_line (drop (length head_line) (b ∷ bs))) (found piece.Head (length head_line - 1)) (Err fault.Directive) (Err f) e) [
  | inl h ↦ absurd (let k = h.1 in cc)
  | inr h ↦ subst (λ (k : Fault). Breaks before k (b ∷ bs)) (same_fault fault.Directive f h.1) (record { others = bs; joined = ap (λ (c : ℕ). c ∷ bs) (eqb-true b 35 hash); first = fresh; none = lacks h.0 })
]
  where
    lacks : begins_with head_line (b ∷ bs) && ends_line (drop (length head_line) (b ∷ bs)) ≡ false → (bytes behind : List ℕ) → b ∷ bs ≡ bytes ++ behind → IsHead before bytes behind → ⊥
    lacks other bytes behind whole is =
        let split : b ∷ bs ≡ head_line ++ behind = whole ∙ ap (λ (l : List ℕ). l ++ behind) is.line in
        let begins : begins_with head_line (b ∷ bs) ≡ true = ap (begins_with head_line) split ∙ is_begun head_line behind in
        let ends : ends_line (drop (length head_line) (b ∷ bs)) ≡ true = ap (λ (l : List ℕ). ends_line (drop (length head_line) l)) split ∙ ap ends_line (behind_is head_line behind) ∙ is.last in
        true≢false ((λ i. sym begins i && sym ends i) ∙ other)

-- ---- pieces

pub piece_breaks : (before : List ℕ) (b : ℕ) (bs : List ℕ) (f : Fault) → piece_at (starts_line before) (b ∷ bs) ≡ Err f → Breaks before f (b ∷ bs)
unfolding piece_at
piece_breaks before b bs f e = elim (chosen (is_blank b) (found piece.Blank 0) _ (Err f) e) [
  | inl h ↦ absurd (let k = h.1 in cc)
  | inr h1 ↦ elim (chosen (is_nondigit b) (word_at (b ∷ bs)) _ (Err f) h1.1) [
    | inl h ↦ name_breaks before b bs f h.0 h.1
    | inr h2 ↦ elim (chosen (is_digit b) (number_at (b ∷ bs)) _ (Err f) h2.1) [
      | inl h ↦ number_breaks before b bs f h.0 h.1
      | inr h3 ↦ elim (chosen (eqb b 34) (string_at bs) _ (Err f) h3.1) [
        | inl h ↦ string_breaks before b bs f h.0 h.1
        | inr h4 ↦ elim (chosen (starts_line before && eqb b 35) (head_at (b ∷ bs)) (first_mark 0 marks (b ∷ bs)) (Err f) h4.1) [
          | inl h ↦ let a = and_true (starts_line before) (eqb b 35) h.0 in line_breaks before b bs f a.0 a.1 h.1
          | inr h5 ↦ subst (λ (k : Fault). Breaks before k (b ∷ bs)) (sym (no_mark_fault 0 marks (b ∷ bs) f h5.1)) (record {
            first = b;
            others = bs;
            joined = refl;
            no_blank = h1.0;
            no_name = h2.0;
            no_number = h3.0;
            no_string = h4.0;
            no_line = h5.0;
            no_mark = none_begins 0 marks (b ∷ bs) f h5.1;
          })
        ]
      ]
    ]
  ]
]
