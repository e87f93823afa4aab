-- One turn of the loops over the bytes and escapes of a string.
use Rattle.std.proofs.Common.{◌≡◌, ℕ, zero, suc, ◌+◌, true, false, eqb, List, [], ◌∷◌, ◌++◌, drop, Option, Some, None, option_map, refl, sym, ap, ◌∙◌, arith, add-one, append_assoc}
use Rattle.std.proofs.lemmas.List.{drop-drop, append-nil}
use Rattle.c_model.specs.declared.c_tokens.Mode.{Mode}
use Rattle.c_model.specs.declared.c_tokens.Mode.TheVariants.{Code, Block, Line}
use Rattle.c_model.specs.Characters.{begins_with}
use Rattle.c_model.proofs.CStrings.{map_map, map_same, len_skip, quote_is}
use Rattle.c_model.specs.Literals.{unit_at, unit_in, string_len, string_bytes}

-- ---- how long it is

none_in : (m : Mode) → unit_in m [] ≡ None
unfolding unit_at
none_in Code = refl
none_in Block = refl
none_in Line = refl

len_one : (m : Mode) (n : ℕ) (rest : List ℕ) (v k : ℕ) → begins_with (34 ∷ []) rest ≡ false → unit_in m rest ≡ Some (v, k)
    → option_map (λ j. n + j) (string_len m 0 rest) ≡ option_map (λ j. n + (k + 1) + j) (string_len m 0 (drop (k + 1) rest))
len_one m n [] v k q u = let none = none_in m in absurd cc
len_one m n (b ∷ bs) v k q u =
    let q2 : eqb b 34 ≡ false = quote_is b bs ∙ q in
    let one : string_len m 0 (b ∷ bs) ≡ option_map suc (string_len m k bs) = rw (q2, u) refl in
    let two : string_len m 0 (b ∷ bs) ≡ option_map (λ j. suc (k + j)) (string_len m 0 (drop k bs)) = one ∙ ap (option_map suc) (len_skip m k bs) ∙ map_map suc (λ j. k + j) (string_len m 0 (drop k bs)) in
    let three = ap (option_map (λ j. n + j)) two ∙ map_map (λ j. n + j) (λ j. suc (k + j)) (string_len m 0 (drop k bs)) in
    let next : drop (k + 1) (b ∷ bs) ≡ drop k bs = rw add-one refl in
    three ∙ map_same (λ j. n + suc (k + j)) (λ j. n + (k + 1) + j) (string_len m 0 (drop k bs)) (λ j. omega arith) ∙ sym (ap (λ (r : List ℕ). option_map (λ j. n + (k + 1) + j) (string_len m 0 r)) next)

pub len_turn : (m : Mode) (n : ℕ) (bs rest : List ℕ) (v k : ℕ) (total : Option ℕ) → rest ≡ drop n bs → begins_with (34 ∷ []) rest ≡ false → unit_in m rest ≡ Some (v, k)
    → option_map (λ j. n + j) (string_len m 0 (drop n bs)) ≡ total → option_map (λ j. n + (k + 1) + j) (string_len m 0 (drop (n + (k + 1)) bs)) ≡ total
len_turn m n bs rest v k total e q u so_far =
    let one = len_one m n rest v k q u in
    let two : drop (k + 1) rest ≡ drop (n + (k + 1)) bs = ap (drop (k + 1)) e ∙ drop-drop (k + 1) n bs in
    sym (ap (λ (r : List ℕ). option_map (λ j. n + (k + 1) + j) (string_len m 0 r)) two) ∙ sym one ∙ ap (λ (r : List ℕ). option_map (λ j. n + j) (string_len m 0 r)) e ∙ so_far

pub len_stops : (m : Mode) (n : ℕ) (bs rest : List ℕ) (total : Option ℕ) → rest ≡ drop n bs → begins_with (34 ∷ []) rest ≡ true
    → option_map (λ j. n + j) (string_len m 0 (drop n bs)) ≡ total → Some (n + 1) ≡ total
len_stops m n bs rest total e q so_far = ap (option_map (λ j. n + j)) (sym (at_quote rest q) ∙ ap (string_len m 0) e) ∙ so_far
  where
    at_quote : (r : List ℕ) → begins_with (34 ∷ []) r ≡ true → string_len m 0 r ≡ Some 1
    at_quote [] q = absurd cc
    at_quote (b ∷ bs) q = let q2 : eqb b 34 ≡ true = quote_is b bs ∙ q in rw q2 refl

pub len_breaks : (m : Mode) (n : ℕ) (bs rest : List ℕ) (total : Option ℕ) → rest ≡ drop n bs → begins_with (34 ∷ []) rest ≡ false → unit_in m rest ≡ None
    → option_map (λ j. n + j) (string_len m 0 (drop n bs)) ≡ total → None ≡ total
len_breaks m n bs rest total e q u so_far = ap (option_map (λ j. n + j)) (sym (at_none rest q u) ∙ ap (string_len m 0) e) ∙ so_far
  where
    at_none : (r : List ℕ) → begins_with (34 ∷ []) r ≡ false → unit_in m r ≡ None → string_len m 0 r ≡ None
    at_none [] q u = refl
    at_none (b ∷ bs) q u = let q2 : eqb b 34 ≡ false = quote_is b bs ∙ q in rw (q2, u) refl

-- ---- which bytes it stands for

pub bytes_skip : (k : ℕ) (bs : List ℕ) → string_bytes k bs ≡ string_bytes 0 (drop k bs)
bytes_skip zero bs = refl
bytes_skip (suc k) [] = refl
bytes_skip (suc k) (b ∷ bs) = bytes_skip k bs

bytes_one : (rest : List ℕ) (v k : ℕ) → begins_with (34 ∷ []) rest ≡ false → unit_at rest ≡ Some (v, k) → string_bytes 0 rest ≡ v ∷ string_bytes 0 (drop (k + 1) rest)
unfolding unit_at
bytes_one [] v k q u = absurd cc
bytes_one (b ∷ bs) v k q u =
    let q2 : eqb b 34 ≡ false = quote_is b bs ∙ q in
    let one : string_bytes 0 (b ∷ bs) ≡ v ∷ string_bytes k bs = rw (q2, u) refl in
    let next : drop (k + 1) (b ∷ bs) ≡ drop k bs = rw add-one refl in
    one ∙ ap (λ (t : List ℕ). v ∷ t) (bytes_skip k bs ∙ sym (ap (string_bytes 0) next))

pub bytes_turn : (front : List ℕ) (n : ℕ) (bs rest : List ℕ) (v k : ℕ) (total : List ℕ) → rest ≡ drop n bs → begins_with (34 ∷ []) rest ≡ false → unit_at rest ≡ Some (v, k)
    → front ++ string_bytes 0 (drop n bs) ≡ total → (front ++ v ∷ []) ++ string_bytes 0 (drop (n + (k + 1)) bs) ≡ total
bytes_turn front n bs rest v k total e q u so_far =
    let two : drop (k + 1) rest ≡ drop (n + (k + 1)) bs = ap (drop (k + 1)) e ∙ drop-drop (k + 1) n bs in
    append_assoc front (v ∷ []) (string_bytes 0 (drop (n + (k + 1)) bs)) ∙ ap (λ (t : List ℕ). front ++ t) (ap (λ (t : List ℕ). v ∷ string_bytes 0 t) (sym two) ∙ sym (bytes_one rest v k q u) ∙ ap (string_bytes 0) e) ∙ so_far

pub bytes_stop : (front : List ℕ) (n : ℕ) (bs rest : List ℕ) (total : List ℕ) → rest ≡ drop n bs → begins_with (34 ∷ []) rest ≡ true
    → front ++ string_bytes 0 (drop n bs) ≡ total → front ≡ total
bytes_stop front n bs rest total e q so_far = sym (append-nil front) ∙ ap (λ (t : List ℕ). front ++ t) (sym (at_quote rest q) ∙ ap (string_bytes 0) e) ∙ so_far
  where
    at_quote : (r : List ℕ) → begins_with (34 ∷ []) r ≡ true → string_bytes 0 r ≡ []
    at_quote [] q = refl
    at_quote (b ∷ bs) q = let q2 : eqb b 34 ≡ true = quote_is b bs ∙ q in rw q2 refl

pub bytes_break : (front : List ℕ) (n : ℕ) (bs rest : List ℕ) (total : List ℕ) → rest ≡ drop n bs → begins_with (34 ∷ []) rest ≡ false → unit_at rest ≡ None
    → front ++ string_bytes 0 (drop n bs) ≡ total → front ≡ total
bytes_break front n bs rest total e q u so_far = sym (append-nil front) ∙ ap (λ (t : List ℕ). front ++ t) (sym (at_none rest q u) ∙ ap (string_bytes 0) e) ∙ so_far
  where
    at_none : (r : List ℕ) → begins_with (34 ∷ []) r ≡ false → unit_at r ≡ None → string_bytes 0 r ≡ []
    at_none [] q u = refl
    at_none (b ∷ bs) q u = let q2 : eqb b 34 ≡ false = quote_is b bs ∙ q in rw (q2, u) refl
