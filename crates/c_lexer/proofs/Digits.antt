-- The value of decimal digits, one after another.
use Rattle.std.proofs.Common.{◌≡◌, ℕ, ◌+◌, ◌-◌, ◌*◌, ◌<◌, ◌≤◌, Bool, true, false, ◌&&◌, List, [], ◌∷◌, length, get_or, Option, Some, None, nat_le, if◌then◌else◌, refl, sym, ap, ◌∙◌, arith}
use Rattle.std.specs.List.{list_all}
use Rattle.std.specs.Char.{digit_value}
use Rattle.std.specs.Str.Parse.{digits_value_after}
use Rattle.std.proofs.lemmas.Bool.Decides.{nat_tests}
use Rattle.std.proofs.lemmas.Bool.{lt-leb, le-leb}
use Rattle.c_model.specs.Characters.{is_digit}
use Rattle.c_model.specs.MonitoredTokens.{greatest_literal, literal_of}

-- the value of digits after digits of value v
abbrev pub literal_from : ℕ → List ℕ → Option ℕ
literal_from v bs = if list_all is_digit bs && nat_le (digits_value_after 10 v bs) greatest_literal then Some (digits_value_after 10 v bs) else None

pub literal_is : (bs : List ℕ) → literal_of bs ≡ literal_from 0 bs
unfolding literal_of
literal_is bs = refl

digit_is : (b : ℕ) → is_digit b ≡ true → digit_value b ≡ b - 48
digit_is b d = grind (arith, nat_tests)

pub no_digit : (v b : ℕ) (bs : List ℕ) (total : Option ℕ) → is_digit b ≡ false → literal_from v (b ∷ bs) ≡ total → None ≡ total
no_digit v b bs total d so_far = let one : literal_from v (b ∷ bs) ≡ None = rw (d, list_all) refl in sym one ∙ so_far

least : (n : ℕ) (ds : List ℕ) → n ≤ digits_value_after 10 n ds
least n [] = omega arith
least n (c ∷ cs) = omega (arith, least (n * 10 + digit_value c) cs)

never : (a : Bool) (v : ℕ) → (let o : Option ℕ = if a && false then Some v else None in o) ≡ None
never true v = refl
never false v = refl

-- a value that is too great stays so
pub great_digits : (v b : ℕ) (bs : List ℕ) (total : Option ℕ) → is_digit b ≡ true → greatest_literal < 10 * v + (b - 48) → literal_from v (b ∷ bs) ≡ total → None ≡ total
great_digits v b bs total d great so_far =
    let value : ℕ = digits_value_after 10 (v * 10 + digit_value b) bs in
    let past : nat_le value greatest_literal ≡ false = lt-leb _ _ (omega (arith, digit_is b d, least (v * 10 + digit_value b) bs)) in
    let one : literal_from v (b ∷ bs) ≡ None = ap (λ (t : Bool). let o : Option ℕ = if (is_digit b && list_all is_digit bs) && t then Some value else None in o) past ∙ never (is_digit b && list_all is_digit bs) value in
    sym one ∙ so_far

-- digits at their end
pub last_digit : (v : ℕ) (bs : List ℕ) (total : Option ℕ) → v ≤ greatest_literal → length bs ≤ 0 → literal_from v bs ≡ total → Some v ≡ total
last_digit v [] total small z so_far = let one : literal_from v [] ≡ Some v = let e : nat_le v greatest_literal ≡ true = le-leb _ _ small in rw e refl in sym one ∙ so_far
last_digit v (b ∷ bs) total small z so_far = absurd (omega arith)

pub great_front : (v : ℕ) (bs : List ℕ) (total : Option ℕ) → 1 ≤ length bs → is_digit (get_or bs 0 0) ≡ true → greatest_literal < 10 * v + (get_or bs 0 0 - 48) → literal_from v bs ≡ total → None ≡ total
great_front v [] total some d great so_far = absurd (omega arith)
great_front v (b ∷ bs) total some d great so_far = great_digits v b bs total d great so_far

-- ---- what the code of each production cites

pub ruleset digit_rules = (no_digit, great_digits, last_digit)
