-- The number that digits write, one after another.
use Rattle.std.proofs.Common.{◌≡◌, ℕ, ◌+◌, ◌*◌, ◌<◌, ◌≤◌, true, false, List, [], ◌∷◌, length, Some, None, nat_le, refl, sym, arith}
use Rattle.std.specs.Char.{digit_value}
use Rattle.std.specs.Str.Parse.{digits_value, digits_value_after}
use Rattle.std.proofs.lemmas.Bool.{lt-leb, le-leb}
use Rattle.c_model.specs.Literals.{value_within}
use Rattle.c_lexer.specs.declared.source.digits.Base.{Base}
use Rattle.c_lexer.specs.declared.source.digits.Base.TheVariants.{Octal, Decimal, Hexadecimal}
use Rattle.c_lexer.specs.Source.{base_of}

-- more digits make no smaller number
grows : (base : Base) (v : ℕ) (ds : List ℕ) → v ≤ digits_value_after (base_of base) v ds
grows base v [] = omega arith
grows Octal v (d ∷ ds) = omega (arith, grows Octal (v * 8 + digit_value d) ds)
grows Decimal v (d ∷ ds) = omega (arith, grows Decimal (v * 10 + digit_value d) ds)
grows Hexadecimal v (d ∷ ds) = omega (arith, grows Hexadecimal (v * 16 + digit_value d) ds)

-- a number past the most stays there
pub past_the_most : (base : Base) (most v d : ℕ) (ds all : List ℕ) → most < v * base_of base + digit_value d → digits_value_after (base_of base) v (d ∷ ds) ≡ digits_value (base_of base) all
    → None ≡ value_within (base_of base) most all
past_the_most base most v d ds all past so_far =
    let large : nat_le (digits_value (base_of base) all) most ≡ false = lt-leb _ _ (omega (arith, past, sym so_far, grows base (v * base_of base + digit_value d) ds)) in
    rw (large, value_within) refl

pub last_value : (base : Base) (most v : ℕ) (rest all : List ℕ) → v ≤ most → length rest ≤ 0 → digits_value_after (base_of base) v rest ≡ digits_value (base_of base) all
    → Some v ≡ value_within (base_of base) most all
last_value base most v [] all small z so_far =
    let fits : nat_le v most ≡ true = le-leb _ _ small in
    let one : Some v ≡ value_within (base_of base) most all = rw (← so_far, fits, value_within) refl in one
last_value base most v (d ∷ ds) all small z so_far = absurd (omega arith)
