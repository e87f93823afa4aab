-- The pieces of a text, each alone where it stands, are read as its tokens, in their order.
use Rattle.std.proofs.Common.{◌≡◌, ℕ, suc, ◌+◌, ◌-◌, ◌*◌, ◌/◌, ◌%◌, ◌<◌, ◌≤◌, Bool, true, false, cond, not, ◌&&◌, ◌||◌, leb, ltb, List, [], ◌∷◌, ◌++◌, length, take, slice_get, codes, pos, Option, Some, None, Ok, refl, sym, ap, subst, ◌∙◌, arith}
use Rattle.std.proofs.Common.{append_assoc, length-append, eq-eqb}
use Rattle.std.specs.Prelude.{bytes_eq}
use Rattle.std.specs.Fmt.{decimal}
use Rattle.std.specs.List.{prefix_len, list_all, list_any, AllByRecursion}
use Rattle.std.specs.Str.Parse.{digits_value, AllDigits}
use Rattle.std.proofs.lemmas.Bool.{le-leb, lt-ltb}
use Rattle.std.proofs.lemmas.Bool.Decides.{nat_tests}
use Rattle.std.proofs.lemmas.List.{append-nil}
use Rattle.std.proofs.lemmas.Fmt.{decimal_is_IsNumeral_wide}
use Rattle.std.proofs.lemmas.Str.Parse.{digit_from_value}
use Rattle.c_syntax.specs.declared.place.Place.{Place}
use Rattle.c_syntax.specs.Tokens as token
use Rattle.c_syntax.specs.Tokens.{PlainTokenKind, PlainToken}
use Rattle.c_model.specs.declared.monitored_tokens.Piece.{Piece}
use Rattle.c_model.specs.declared.monitored_tokens.Piece.TheVariants as piece
use Rattle.c_model.specs.Characters.{is_blank, is_digit, is_nondigit, is_part, in_literal}
use Rattle.c_model.specs.Places.{next, walk, first_place}
use Rattle.c_model.specs.Names.{with_name, name_number}
use Rattle.c_model.specs.MonitoredTokens.{found, word_at, greatest_literal, literal_of, number_at, is_plain, is_octal, octal_byte, in_string, chars_of, string_at, head_line, head_at, piece_at, fresh_behind, fresh_after, Cut, cut, Read, token, add}
use Rattle.c_model.specs.MonitoredTokens.{inside, build, nothing_read, monitored_tokens}
use Rattle.c_model.specs.MonitoredTokenLaws.{Stops, with_names}
use Rattle.c_model.proofs.Spelling.{and_true, front_is, digit_in}
use Rattle.c_model.proofs.NameLaws.{number_points}
use Rattle.c_model.specs.Punctuators.{shift_left, shift_right, less_equal, greater_equal, equal, not_equal, plus, minus, times, divide, percent, less, greater, assign, tilde, ampersand, bar, caret, colon, semicolon, comma, left_paren, right_paren}
use Rattle.c_model.specs.Punctuators.{left_brace, right_brace, left_bracket, right_bracket}
use Rattle.mon_syntax.specs.Names.{begins_name}
use Rattle.mon_syntax.specs.Text as text
use Rattle.mon_syntax.specs.Text.{escaped, quoted, spelled, new_line}

-- ---- pieces that stand alone

-- the punctuators that are printed, with their places in the list of all
abbrev pub punctuators : List (List ℕ × ℕ)
punctuators =
    (codes "(", left_paren) ∷ (codes ")", right_paren) ∷ (codes ",", comma) ∷ (codes ";", semicolon) ∷ (codes ":", colon) ∷ (codes "=", assign)
    ∷ (codes "{", left_brace) ∷ (codes "}", right_brace) ∷ (codes "[", left_bracket) ∷ (codes "]", right_bracket) ∷ (codes "~", tilde) ∷ (codes "+", plus) ∷ (codes "-", minus) ∷ (codes "*", times)
    ∷ (codes "/", divide) ∷ (codes "%", percent) ∷ (codes "<<", shift_left) ∷ (codes ">>", shift_right) ∷ (codes "&", ampersand) ∷ (codes "|", bar)
    ∷ (codes "^", caret) ∷ (codes "==", equal) ∷ (codes "!=", not_equal) ∷ (codes "<", less) ∷ (codes "<=", less_equal) ∷ (codes ">", greater)
    ∷ (codes ">=", greater_equal) ∷ []

abbrev pub number_in : List (List ℕ × ℕ) → List ℕ → ℕ
number_in [] m = 0
number_in (x ∷ xs) m = cond (bytes_eq x.0 m) x.1 (number_in xs m)

abbrev pub punctuator : List ℕ → ℕ
punctuator m = number_in punctuators m

abbrev pub is_word : List ℕ → Bool
is_word w = begins_name w && (list_all is_part w && leb (length w) 255)

-- the piece is read as itself before these bytes
abbrev pub IsAlone : text.Piece → List ℕ → Type 0
IsAlone text.Head bs = ⊥
IsAlone (text.Word w) bs = (is_word w ≡ true) × Stops is_part bs
IsAlone (text.Number n) bs = (n ≤ greatest_literal) × Stops in_literal bs
IsAlone (text.Quoted bytes) bs = AllByRecursion (λ b. b < 256) bytes
IsAlone (text.Mark m) bs = (0 < length m) × ((fresh : Bool) → piece_at fresh (m ++ bs) ≡ found (piece.Mark (punctuator m)) (length m - 1))
IsAlone (text.Blanks b) bs = list_all is_blank b ≡ true

abbrev pub AreAlone : List text.Piece → Type 0
AreAlone [] = Unit {0}
AreAlone (p ∷ ps) = IsAlone p (spelled ps) × AreAlone ps

-- ---- their tokens

-- a token of the kind, and then what P says
abbrev pub Next : PlainTokenKind → (List PlainToken → Type 0) → List PlainToken → Type 0
Next k P ts = (at : Place) × (more : List PlainToken) × (ts ≡ token at k ∷ more) × P more

-- a token for each piece that is not blank, in order; a word's number is its place among the names
abbrev pub AreTokens : List (List ℕ) → List text.Piece → List PlainToken → Type 0
AreTokens names [] ts = ts ≡ []
AreTokens names (text.Head ∷ ps) ts = ⊥
AreTokens names (text.Word w ∷ ps) ts = (slice_get names (name_number names w) ≡ Some w) × Next (token.Word (name_number names w)) (λ us. AreTokens names ps us) ts
AreTokens names (text.Number n ∷ ps) ts = Next (token.Number (pos n) None) (λ us. AreTokens names ps us) ts
AreTokens names (text.Quoted bytes ∷ ps) ts = Next (token.Chars bytes) (λ us. AreTokens names ps us) ts
AreTokens names (text.Mark m ∷ ps) ts = Next (token.Mark (punctuator m)) (λ us. AreTokens names ps us) ts
AreTokens names (text.Blanks b ∷ ps) ts = AreTokens names ps ts

-- ---- runs

run_is : (p : ℕ → Bool) (bs behind : List ℕ) → list_all p bs ≡ true → Stops p behind → prefix_len p (bs ++ behind) ≡ length bs
run_is p [] [] all stop = refl
run_is p [] (c ∷ cs) all stop = rw stop refl
run_is p (b ∷ bs) behind all stop =
    let h = and_true (p b) (list_all p bs) all in
    let rest = run_is p bs behind h.1 stop in
    ap (λ (t : Bool). cond t (1 + prefix_len p (bs ++ behind)) 0) h.0 ∙ omega arith

all_join : (p : ℕ → Bool) (xs ys : List ℕ) → list_all p xs ≡ true → list_all p ys ≡ true → list_all p (xs ++ ys) ≡ true
all_join p [] ys a b = b
all_join p (x ∷ xs) ys a b = let h = and_true (p x) (list_all p xs) a in rw h.0 (all_join p xs ys h.1 b)

-- ---- words

letter_no_blank : (c : ℕ) → is_nondigit c ≡ true → is_blank c ≡ false
letter_no_blank c h = grind (arith, nat_tests)

piece_letter : (fresh : Bool) (c : ℕ) (cs : List ℕ) → is_nondigit c ≡ true → piece_at fresh (c ∷ cs) ≡ word_at (c ∷ cs)
unfolding piece_at
piece_letter fresh c cs h = rw (letter_no_blank c h, h) refl

word_at_is : (bs : List ℕ) (n : ℕ) → prefix_len is_part bs ≡ n → n ≤ 255 → word_at bs ≡ found piece.Word (n - 1)
unfolding word_at
word_at_is bs n e h = let short : ltb 255 n ≡ false = grind (arith, nat_tests) in rw (e, short) refl

pub word_found : (fresh : Bool) (w bs : List ℕ) → is_word w ≡ true → Stops is_part bs → piece_at fresh (w ++ bs) ≡ found piece.Word (length w - 1)
word_found fresh [] bs h stop = absurd cc
word_found fresh (c ∷ cs) bs h stop =
    let a = and_true (is_nondigit c) (list_all is_part (c ∷ cs) && leb (length (c ∷ cs)) 255) h in
    let b = and_true (list_all is_part (c ∷ cs)) (leb (length (c ∷ cs)) 255) a.1 in
    let short : length (c ∷ cs) ≤ 255 = let t = b.1 in grind (arith, nat_tests) in
    piece_letter fresh c (cs ++ bs) a.0 ∙ word_at_is (c ∷ (cs ++ bs)) (length (c ∷ cs)) (run_is is_part (c ∷ cs) bs b.0 stop) short

pub word_some : (w : List ℕ) → is_word w ≡ true → 0 < length w
word_some [] h = absurd cc
word_some (c ∷ cs) h = omega arith

-- ---- numbers

digit_no_blank : (c : ℕ) → is_digit c ≡ true → is_blank c ≡ false
digit_no_blank c h = grind (arith, nat_tests)

digit_no_letter : (c : ℕ) → is_digit c ≡ true → is_nondigit c ≡ false
digit_no_letter c h = grind (arith, nat_tests)

piece_digit : (fresh : Bool) (c : ℕ) (cs : List ℕ) → is_digit c ≡ true → piece_at fresh (c ∷ cs) ≡ number_at (c ∷ cs)
unfolding piece_at
piece_digit fresh c cs h = rw (digit_no_blank c h, digit_no_letter c h, h) refl

number_at_is : (bs : List ℕ) (n v : ℕ) → prefix_len in_literal bs ≡ n → literal_of (take n bs) ≡ Some v → number_at bs ≡ found (piece.Number v) (n - 1)
unfolding number_at
number_at_is bs n v e h =
    let there : literal_of (take (prefix_len in_literal bs) bs) ≡ Some v = ap (λ (m : ℕ). literal_of (take m bs)) e ∙ h in
    rw (there, number_at) (ap (λ (m : ℕ). found (piece.Number v) (m - 1)) e)

digits_in : (bs : List ℕ) → list_all is_digit bs ≡ true → list_all in_literal bs ≡ true
digits_in [] all = refl
digits_in (b ∷ bs) all = let h = and_true (is_digit b) (list_all is_digit bs) all in rw (digit_in b h.0) (digits_in bs h.1)

literal_all : (bs : List ℕ) (v : ℕ) → list_all is_digit bs ≡ true → digits_value 10 bs ≡ v → v ≤ greatest_literal → literal_of bs ≡ Some v
unfolding literal_of
literal_all bs v all value small =
    let fits : leb (digits_value 10 bs) greatest_literal ≡ true = le-leb _ _ (subst (λ (n : ℕ). n ≤ greatest_literal) (sym value) small) in
    (λ i. let o : Option ℕ = cond (all i && fits i) (Some (digits_value 10 bs)) None in o) ∙ ap Some value

digits_found : (fresh : Bool) (ds bs : List ℕ) (n : ℕ) → 0 < length ds → list_all is_digit ds ≡ true → digits_value 10 ds ≡ n → n ≤ greatest_literal → Stops in_literal bs → piece_at fresh (ds ++ bs) ≡ found (piece.Number n) (length ds - 1)
digits_found fresh [] bs n some all value small stop = absurd (omega arith)
digits_found fresh (c ∷ cs) bs n some all value small stop =
    let run = run_is in_literal (c ∷ cs) bs (digits_in (c ∷ cs) all) stop in
    let literal : literal_of (take (length (c ∷ cs)) ((c ∷ cs) ++ bs)) ≡ Some n = ap literal_of (front_is (c ∷ cs) bs) ∙ literal_all (c ∷ cs) n all value small in
    piece_digit fresh c (cs ++ bs) (and_true (is_digit c) (list_all is_digit cs) all).0 ∙ number_at_is (c ∷ (cs ++ bs)) (length (c ∷ cs)) n run literal

all_digits : (ds : List ℕ) → AllDigits 10 ds → list_all is_digit ds ≡ true
all_digits [] h = refl
all_digits (c ∷ cs) h = let d : is_digit c ≡ true = let k = digit_from_value c h.0 in grind (arith, nat_tests) in rw d (all_digits cs h.1)

pub number_found : (fresh : Bool) (n : ℕ) (bs : List ℕ) → n ≤ greatest_literal → Stops in_literal bs → piece_at fresh (decimal n ++ bs) ≡ found (piece.Number n) (length (decimal n) - 1)
number_found fresh n bs small stop =
    let d = decimal_is_IsNumeral_wide n (omega arith) in
    digits_found fresh (decimal n) bs n d.0.0 (all_digits (decimal n) d.0.1) d.1 small stop

pub number_some : (n : ℕ) → n ≤ greatest_literal → 0 < length (decimal n)
number_some n small = (decimal_is_IsNumeral_wide n (omega arith)).0.0

-- ---- strings

escapes : List ℕ → List ℕ
escapes [] = []
escapes (b ∷ bs) = escaped b ++ escapes bs

quoted_is : (bytes : List ℕ) → quoted bytes ≡ escapes bytes ++ (34 ∷ [])
unfolding escapes
quoted_is [] = refl
quoted_is (b ∷ bs) = ap (λ (l : List ℕ). escaped b ++ l) (quoted_is bs) ∙ sym (append_assoc (escaped b) (escapes bs) (34 ∷ []))

-- a byte and its three octal digits
octal_digit : (b : ℕ) → b < 256 → (is_octal (48 + b / 64) ≡ true) × (is_octal (48 + b / 8 % 8) ≡ true) × (is_octal (48 + b % 8) ≡ true)
octal_digit b h = (grind (arith, nat_tests), grind (arith, nat_tests), grind (arith, nat_tests))

octal_whole : (b : ℕ) → 64 * (48 + b / 64 - 48) + 8 * (48 + b / 8 % 8 - 48) + (48 + b % 8 - 48) ≡ b
octal_whole b = omega arith

octal_is : (b : ℕ) → b < 256 → octal_byte (48 + b / 64) (48 + b / 8 % 8) (48 + b % 8) ≡ Some b
octal_is b h =
    let d = octal_digit b h in
    let w = octal_whole b in
    let small : leb (64 * (48 + b / 64 - 48) + 8 * (48 + b / 8 % 8 - 48) + (48 + b % 8 - 48)) 255 ≡ true = le-leb _ _ (omega (arith, w)) in
    rw (d.0, d.1, d.2, small) (ap Some w)

plain_in : (b : ℕ) → is_plain b ≡ true → in_string b ≡ true
plain_in b h = grind (arith, nat_tests)

octal_in : (b : ℕ) → is_octal b ≡ true → in_string b ≡ true
octal_in b h = grind (arith, nat_tests)

-- no quote stands among characters and escapes
escaped_clear : (b : ℕ) → b < 256 → list_all in_string (escaped b) ≡ true
escaped_clear b h = by (is_plain b) refl
  where
    by : (t : Bool) → is_plain b ≡ t → list_all in_string (cond t (b ∷ []) (92 ∷ (48 + b / 64) ∷ (48 + b / 8 % 8) ∷ (48 + b % 8) ∷ [])) ≡ true
    by true e = rw (plain_in b e) refl
    by false e = let d = octal_digit b h in rw (octal_in _ d.0, octal_in _ d.1, octal_in _ d.2) refl

escapes_clear : (bytes : List ℕ) → AllByRecursion (λ b. b < 256) bytes → list_all in_string (escapes bytes) ≡ true
unfolding escapes
escapes_clear [] h = refl
escapes_clear (b ∷ bs) h = all_join in_string (escaped b) (escapes bs) (escaped_clear b h.0) (escapes_clear bs h.1)

escaped_chars : (b : ℕ) (bs cs : List ℕ) → b < 256 → chars_of bs ≡ Some cs → chars_of (escaped b ++ bs) ≡ Some (b ∷ cs)
escaped_chars b bs cs h e = by (is_plain b) refl
  where
    by : (t : Bool) → is_plain b ≡ t → chars_of (cond t (b ∷ []) (92 ∷ (48 + b / 64) ∷ (48 + b / 8 % 8) ∷ (48 + b % 8) ∷ []) ++ bs) ≡ Some (b ∷ cs)
    by true p = rw (p, e) refl
    by false p = rw (octal_is b h, e) refl

escapes_chars : (bytes : List ℕ) → AllByRecursion (λ b. b < 256) bytes → chars_of (escapes bytes) ≡ Some bytes
unfolding escapes
escapes_chars [] h = refl
escapes_chars (b ∷ bs) h = escaped_chars b (escapes bs) bs h.0 (escapes_chars bs h.1)

string_at_is : (bs cs : List ℕ) (n : ℕ) → prefix_len in_string bs ≡ n → n < length bs → chars_of (take n bs) ≡ Some cs → string_at bs ≡ found piece.Chars (n + 1)
unfolding string_at
string_at_is bs cs n e h c = let closed : ltb n (length bs) ≡ true = lt-ltb _ _ h in rw (e, closed, c, string_at) refl

piece_quote : (fresh : Bool) (bs : List ℕ) → piece_at fresh (34 ∷ bs) ≡ string_at bs
unfolding piece_at
piece_quote fresh bs = refl

quoted_found : (fresh : Bool) (bytes bs : List ℕ) → AllByRecursion (λ b. b < 256) bytes → piece_at fresh ((34 ∷ quoted bytes) ++ bs) ≡ found piece.Chars (length (34 ∷ quoted bytes) - 1)
quoted_found fresh bytes bs h =
    let split : quoted bytes ++ bs ≡ escapes bytes ++ (34 ∷ bs) = ap (λ (l : List ℕ). l ++ bs) (quoted_is bytes) ∙ append_assoc (escapes bytes) (34 ∷ []) bs in
    let run = run_is in_string (escapes bytes) (34 ∷ bs) (escapes_clear bytes h) refl in
    let short : length (escapes bytes) < length (escapes bytes ++ (34 ∷ bs)) = omega (arith, length-append (escapes bytes) (34 ∷ bs)) in
    let chars : chars_of (take (length (escapes bytes)) (escapes bytes ++ (34 ∷ bs))) ≡ Some bytes = ap chars_of (front_is (escapes bytes) (34 ∷ bs)) ∙ escapes_chars bytes h in
    let long : length (escapes bytes) + 1 ≡ length (34 ∷ quoted bytes) - 1 = omega (arith, ap length (quoted_is bytes), length-append (escapes bytes) (34 ∷ [])) in
    piece_quote fresh (quoted bytes ++ bs) ∙ ap string_at split ∙ string_at_is (escapes bytes ++ (34 ∷ bs)) bytes (length (escapes bytes)) run short chars ∙ ap (λ (n : ℕ). found piece.Chars n) long

inside_is : (bytes : List ℕ) → AllByRecursion (λ b. b < 256) bytes → chars_of (inside (34 ∷ quoted bytes)) ≡ Some bytes
inside_is bytes h =
    let run = run_is in_string (escapes bytes) (34 ∷ []) (escapes_clear bytes h) refl in
    ap (λ (l : List ℕ). chars_of (take (prefix_len in_string l) l)) (quoted_is bytes)
    ∙ ap (λ (n : ℕ). chars_of (take n (escapes bytes ++ (34 ∷ [])))) run
    ∙ ap chars_of (front_is (escapes bytes) (34 ∷ [])) ∙ escapes_chars bytes h

-- ---- numbers of names

pub is_same : (a : List ℕ) → bytes_eq a a ≡ true
is_same [] = refl
is_same (x ∷ xs) = rw (eq-eqb x x refl) (is_same xs)

with_extends : (names : List (List ℕ)) (v : List ℕ) → (ys : List (List ℕ)) × (with_name names v ≡ names ++ ys)
with_extends names v = by (list_any (bytes_eq v) names)
  where
    by : (t : Bool) → (ys : List (List ℕ)) × (cond t names (names ++ (v ∷ [])) ≡ names ++ ys)
    by true = ([], sym (append-nil names))
    by false = (v ∷ [], refl)

all_extend : (names vs : List (List ℕ)) → (ys : List (List ℕ)) × (with_names names vs ≡ names ++ ys)
all_extend names [] = ([], sym (append-nil names))
all_extend names (v ∷ vs) =
    let a = with_extends names v in
    let b = all_extend (with_name names v) vs in
    (a.0 ++ b.0, b.1 ∙ ap (λ (l : List (List ℕ)). l ++ b.0) a.1 ∙ append_assoc names a.0 b.0)

number_there : (names ys : List (List ℕ)) (w : List ℕ) → list_any (bytes_eq w) names ≡ true → name_number (names ++ ys) w ≡ name_number names w
number_there [] ys w h = absurd cc
number_there (v ∷ vs) ys w h = by (bytes_eq w v) h (λ g. number_there vs ys w g)
  where
    by : (t : Bool) → t || list_any (bytes_eq w) vs ≡ true → (list_any (bytes_eq w) vs ≡ true → name_number (vs ++ ys) w ≡ name_number vs w) → (let n : ℕ = cond (not t) (1 + name_number (vs ++ ys) w) 0 in n) ≡ cond (not t) (1 + name_number vs w) 0
    by true g rest = refl
    by false g rest = ap (λ (n : ℕ). 1 + n) (rest g)

number_new : (names ys : List (List ℕ)) (w : List ℕ) → name_number (names ++ (w ∷ ys)) w ≡ name_number names w
number_new [] ys w = rw (is_same w) refl
number_new (v ∷ vs) ys w = ap (λ (n : ℕ). cond (not (bytes_eq w v)) (1 + n) 0) (number_new vs ys w)

-- the number that a word is given stays, whatever names come later
number_stays : (names later : List (List ℕ)) (w : List ℕ) → name_number (with_names (with_name names w) later) w ≡ name_number names w
number_stays names later w = by (list_any (bytes_eq w) names) refl
  where
    by : (t : Bool) → list_any (bytes_eq w) names ≡ t → name_number (with_names (cond t names (names ++ (w ∷ []))) later) w ≡ name_number names w
    by true e = let a = all_extend names later in ap (λ (l : List (List ℕ)). name_number l w) a.1 ∙ number_there names a.0 w e
    by false e =
        let a = all_extend (names ++ (w ∷ [])) later in
        ap (λ (l : List (List ℕ)). name_number l w) (a.1 ∙ append_assoc names (w ∷ []) a.0) ∙ number_new names a.0 w

-- ---- a piece is cut off

skip : (xs bs : List ℕ) (at : Place) (fresh : Bool) → cut (length xs) at fresh (xs ++ bs) ≡ cut 0 (walk at xs) (fresh_after fresh xs) bs
unfolding cut
skip [] bs at fresh = refl
skip (x ∷ xs) bs at fresh = skip xs bs (next at x) (fresh_behind fresh x)

first_cut : (q : Piece) (b : ℕ) (bs : List ℕ) (n : ℕ) (at : Place) (fresh : Bool) → piece_at fresh (b ∷ bs) ≡ found q n → cut 0 at fresh (b ∷ bs) ≡ Cut at q (take (suc n) (b ∷ bs)) (cut n (next at b) (fresh_behind fresh b) bs)
unfolding cut
first_cut q b bs n at fresh e = rw (e, cut) refl

build_cut : (r : Read) (at : Place) (q : Piece) (bytes : List ℕ) (more : _) → build r (Cut at q bytes more) ≡ build (add r at q bytes) more
unfolding build
build_cut r at q bytes more = refl

one_cut : (q : Piece) (xs bs : List ℕ) (r : Read) (at : Place) (fresh : Bool) → 0 < length xs → piece_at fresh (xs ++ bs) ≡ found q (length xs - 1)
    → build r (cut 0 at fresh (xs ++ bs)) ≡ build (add r at q xs) (cut 0 (walk at xs) (fresh_after fresh xs) bs)
one_cut q [] bs r at fresh some e = absurd (omega arith)
one_cut q (x ∷ xs) bs r at fresh some e =
    let back : length (x ∷ xs) - 1 ≡ length xs = omega arith in
    let is : piece_at fresh (x ∷ (xs ++ bs)) ≡ found q (length xs) = e ∙ ap (λ (n : ℕ). found q n) back in
    ap (build r) (first_cut q x (xs ++ bs) (length xs) at fresh is)
    ∙ build_cut r at q (take (length (x ∷ xs)) ((x ∷ xs) ++ bs)) (cut (length xs) (next at x) (fresh_behind fresh x) (xs ++ bs))
    ∙ (λ i. build (add r at q (front_is (x ∷ xs) bs i)) (skip xs bs (next at x) (fresh_behind fresh x) i))

blank_found : (fresh : Bool) (b : ℕ) (bs : List ℕ) → is_blank b ≡ true → piece_at fresh (b ∷ bs) ≡ found piece.Blank 0
unfolding piece_at
blank_found fresh b bs h = rw h refl

add_blank : (r : Read) (at : Place) (bs : List ℕ) → add r at piece.Blank bs ≡ r
unfolding add
add_blank r at bs = refl

pub blanks_cut : (xs bs : List ℕ) (r : Read) (at : Place) (fresh : Bool) → list_all is_blank xs ≡ true → build r (cut 0 at fresh (xs ++ bs)) ≡ build r (cut 0 (walk at xs) (fresh_after fresh xs) bs)
blanks_cut [] bs r at fresh h = refl
blanks_cut (x ∷ xs) bs r at fresh h =
    let a = and_true (is_blank x) (list_all is_blank xs) h in
    one_cut piece.Blank (x ∷ []) (xs ++ bs) r at fresh (omega arith) (blank_found fresh x (xs ++ bs) a.0)
    ∙ ap (λ (s : Read). build s (cut 0 (next at x) (fresh_behind fresh x) (xs ++ bs))) (add_blank r at (x ∷ []))
    ∙ blanks_cut xs bs r (next at x) (fresh_behind fresh x) a.1

-- ---- the pieces of a text

-- the words among the pieces, in order
abbrev words : List text.Piece → List (List ℕ)
words [] = []
words (text.Head ∷ ps) = words ps
words (text.Word w ∷ ps) = w ∷ words ps
words (text.Number n ∷ ps) = words ps
words (text.Quoted bytes ∷ ps) = words ps
words (text.Mark m ∷ ps) = words ps
words (text.Blanks b ∷ ps) = words ps

-- after what is read, the text is read as tokens of the pieces
record AreRead (r : Read) (names : List (List ℕ)) (at : Place) (fresh : Bool) (ps : List text.Piece) : Type 0 where
  tokens : List PlainToken
  end : Place
  is : build r (cut 0 at fresh (spelled ps)) ≡ Ok (record { list = r.list ++ tokens; names = names; end = end })
  are : AreTokens names ps tokens

with_token : Read → Place → PlainTokenKind → List (List ℕ) → Read
with_token r at k names = record { names = names; list = r.list ++ (token at k ∷ []) }

-- after a token
behind_token : (r : Read) (names next_names : List (List ℕ)) (at : Place) (fresh : Bool) (k : PlainTokenKind) (q : Piece) (xs : List ℕ) (ps : List text.Piece)
    → 0 < length xs → piece_at fresh (xs ++ spelled ps) ≡ found q (length xs - 1) → add r at q xs ≡ with_token r at k next_names → (rest : AreRead (with_token r at k next_names) names (walk at xs) (fresh_after fresh xs) ps)
    → build r (cut 0 at fresh (xs ++ spelled ps)) ≡ Ok (record { list = r.list ++ (token at k ∷ rest.tokens); names = names; end = rest.end })
unfolding with_token
behind_token r names next_names at fresh k q xs ps some found_there added rest =
    one_cut q xs (spelled ps) r at fresh some found_there
    ∙ ap (λ (s : Read). build s (cut 0 (walk at xs) (fresh_after fresh xs) (spelled ps))) added
    ∙ rest.is
    ∙ ap (λ (l : List PlainToken). Ok (record { list = l; names = names; end = rest.end })) (append_assoc r.list (token at k ∷ []) rest.tokens)

add_word : (r : Read) (at : Place) (w : List ℕ) (k : ℕ) → name_number r.names w ≡ k → add r at piece.Word w ≡ with_token r at (token.Word k) (with_name r.names w)
unfolding add with_token
add_word r at w k e = ap (λ (n : ℕ). record { names = with_name r.names w; list = r.list ++ (token at (token.Word n) ∷ []) }) e

add_number : (r : Read) (at : Place) (n : ℕ) (bs : List ℕ) → add r at (piece.Number n) bs ≡ with_token r at (token.Number (pos n) None) r.names
unfolding add with_token
add_number r at n bs = refl

add_mark : (r : Read) (at : Place) (m : ℕ) (bs : List ℕ) → add r at (piece.Mark m) bs ≡ with_token r at (token.Mark m) r.names
unfolding add with_token
add_mark r at m bs = refl

add_chars : (r : Read) (at : Place) (bs cs : List ℕ) → chars_of (inside bs) ≡ Some cs → add r at piece.Chars bs ≡ with_token r at (token.Chars cs) r.names
unfolding add with_token
add_chars r at bs cs e = rw e refl

add_head : (r : Read) (at : Place) (bs : List ℕ) → add r at piece.Head bs ≡ with_token r at (token.Head 0 0) r.names
unfolding add with_token
add_head r at bs = refl

-- pieces that stand alone are read as their tokens
read_pieces : (ps : List text.Piece) (r : Read) (names : List (List ℕ)) (at : Place) (fresh : Bool) → AreAlone ps → with_names r.names (words ps) ≡ names → AreRead r names at fresh ps
unfolding with_token cut build
read_pieces [] r names at fresh alone e = record { tokens = []; end = at; is = (λ i. Ok (record { list = sym (append-nil r.list) i; names = e i; end = at })); are = refl }
read_pieces (text.Head ∷ ps) r names at fresh alone e = absurd alone.0
read_pieces (text.Word w ∷ ps) r names at fresh alone e =
    let number : name_number r.names w ≡ name_number names w = sym (number_stays r.names (words ps) w) ∙ ap (λ (l : List (List ℕ)). name_number l w) e in
    let rest = read_pieces ps (with_token r at (token.Word (name_number names w)) (with_name r.names w)) names (walk at w) (fresh_after fresh w) alone.1 e in
    record {
      tokens = token at (token.Word (name_number names w)) ∷ rest.tokens;
      end = rest.end;
      is = behind_token r names (with_name r.names w) at fresh (token.Word (name_number names w)) piece.Word w ps (word_some w alone.0.0) (word_found fresh w (spelled ps) alone.0.0 alone.0.1) (add_word r at w (name_number names w) number) rest;
      are = ((λ i. slice_get (sym e i) (sym number i)) ∙ number_points r.names w (words ps), (at, rest.tokens, refl, rest.are));
    }
read_pieces (text.Number n ∷ ps) r names at fresh alone e =
    let rest = read_pieces ps (with_token r at (token.Number (pos n) None) r.names) names (walk at (decimal n)) (fresh_after fresh (decimal n)) alone.1 e in
    record {
      tokens = token at (token.Number (pos n) None) ∷ rest.tokens;
      end = rest.end;
      is = behind_token r names r.names at fresh (token.Number (pos n) None) (piece.Number n) (decimal n) ps (number_some n alone.0.0) (number_found fresh n (spelled ps) alone.0.0 alone.0.1) (add_number r at n (decimal n)) rest;
      are = (at, rest.tokens, refl, rest.are);
    }
read_pieces (text.Quoted bytes ∷ ps) r names at fresh alone e =
    let xs : List ℕ = 34 ∷ quoted bytes in
    let rest = read_pieces ps (with_token r at (token.Chars bytes) r.names) names (walk at xs) (fresh_after fresh xs) alone.1 e in
    record {
      tokens = token at (token.Chars bytes) ∷ rest.tokens;
      end = rest.end;
      is = behind_token r names r.names at fresh (token.Chars bytes) piece.Chars xs ps (omega arith) (quoted_found fresh bytes (spelled ps) alone.0) (add_chars r at xs bytes (inside_is bytes alone.0)) rest;
      are = (at, rest.tokens, refl, rest.are);
    }
read_pieces (text.Mark m ∷ ps) r names at fresh alone e =
    let rest = read_pieces ps (with_token r at (token.Mark (punctuator m)) r.names) names (walk at m) (fresh_after fresh m) alone.1 e in
    record {
      tokens = token at (token.Mark (punctuator m)) ∷ rest.tokens;
      end = rest.end;
      is = behind_token r names r.names at fresh (token.Mark (punctuator m)) (piece.Mark (punctuator m)) m ps alone.0.0 (alone.0.1 fresh) (add_mark r at (punctuator m) m) rest;
      are = (at, rest.tokens, refl, rest.are);
    }
read_pieces (text.Blanks b ∷ ps) r names at fresh alone e =
    let rest = read_pieces ps r names (walk at b) (fresh_after fresh b) alone.1 e in
    record { tokens = rest.tokens; end = rest.end; is = blanks_cut b (spelled ps) r at fresh alone.0 ∙ rest.is; are = rest.are }

-- ---- a text that begins with the head

head_found : (bs : List ℕ) → piece_at true (codes "#include <e_acsl.h>" ++ (10 ∷ bs)) ≡ found piece.Head (length (codes "#include <e_acsl.h>") - 1)
unfolding piece_at head_at head_line
head_found bs = refl

-- the tokens of a text are the head, on the first line, and those of the pieces
pub record IsTextOf (ps : List text.Piece) : Type 0 where
  pub names : List (List ℕ)
  pub tokens : List PlainToken
  pub end : Place
  pub is : monitored_tokens (spelled (text.Head ∷ new_line 0 ∷ ps)) ≡ Ok (record { list = token first_place (token.Head 0 0) ∷ tokens; names = names; end = end })
  pub are : AreTokens names ps tokens

pub text_is_read : (ps : List text.Piece) → AreAlone ps → IsTextOf ps
unfolding monitored_tokens with_token
text_is_read ps alone =
    let head : List ℕ = codes "#include <e_acsl.h>" in
    let names = with_names [] (words ps) in
    let rest = read_pieces (new_line 0 ∷ ps) (with_token nothing_read first_place (token.Head 0 0) []) names (walk first_place head) (fresh_after true head) (refl, alone) refl in
    record {
      names = names;
      tokens = rest.tokens;
      end = rest.end;
      is = behind_token nothing_read names [] first_place true (token.Head 0 0) piece.Head head (new_line 0 ∷ ps) (omega arith) (head_found (spelled ps)) (add_head nothing_read first_place head) rest;
      are = rest.are;
    }
