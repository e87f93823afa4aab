-- The label of a loop over values is a free name, and differs from those of other loops.
use Rattle.std.proofs.Common.{◌≡◌, ℕ, ◌+◌, ◌<◌, ◌≤◌, ◌^◌, Bool, true, false, List, [], ◌∷◌, ◌++◌, length, drop, refl, ap, arith}
use Rattle.std.specs.Prelude.{bytes_eq, codes}
use Rattle.std.specs.List.{AllByRecursion}
use Rattle.std.specs.Fmt.{decimal}
use Rattle.std.proofs.lemmas.Fmt.{decimal_injective, length-decimal-le, decimal_by_steps}
use Rattle.std.proofs.lemmas.Bool.Decides.{nat_tests}
use Rattle.std.proofs.lemmas.Nat.{mod_below}
use Rattle.std.proofs.lemmas.Slice.Eq.{bytes_eq-Decides}
use Rattle.c_model.specs.Characters.{is_digit, is_part}
use Rattle.mon_syntax.specs.Names.{IsFreeName}
use Rattle.mon_syntax.specs.Names as words
use Rattle.quantifier_loops.specs.Laws.{IsNumber}
use Rattle.quantifier_loops.specs.Upward.{tried_label}

-- ---- decimal numbers

abbrev pub AllDigits : List ℕ → Type 0
AllDigits ds = AllByRecursion (λ b. is_digit b ≡ true) ds

abbrev pub AllParts : List ℕ → Type 0
AllParts bs = AllByRecursion (λ b. is_part b ≡ true) bs

digits_end : (ds : List ℕ) (b : ℕ) → AllDigits ds → is_digit b ≡ true → AllDigits (ds ++ b ∷ [])
digits_end [] b h d = (d, tt)
digits_end (x ∷ ds) b h d = (h.0, digits_end ds b h.1 d)

digit_is : (n : ℕ) → n < 10 → is_digit (48 + n) ≡ true
digit_is n lt = grind (arith, nat_tests)

pub decimal_digits : (n : ℕ) → IsNumber n → AllDigits (decimal n)
decimal_digits n le = decimal_by_steps (λ k ds. AllDigits ds) (λ k small. (digit_is k small, tt)) (λ k ds ten h. digits_end ds _ h (digit_is _ (mod_below k 10 (omega arith)))) n le

pub decimal_short : (n : ℕ) → IsNumber n → length (decimal n) ≤ 20
decimal_short n le = length-decimal-le 20 n (omega arith) (omega arith) le

part_of_digit : (b : ℕ) → is_digit b ≡ true → is_part b ≡ true
part_of_digit b h = grind (arith, nat_tests)

pub digits_parts : (ds : List ℕ) → AllDigits ds → AllParts ds
digits_parts [] h = tt
digits_parts (b ∷ ds) h = (part_of_digit b h.0, digits_parts ds h.1)

pub unequal : (a b : List ℕ) → (a ≡ b → ⊥) → bytes_eq a b ≡ false
unequal a b differ = go (bytes_eq a b) refl
  where
    go : (r : Bool) → bytes_eq a b ≡ r → bytes_eq a b ≡ false
    go true e = absurd (differ ((bytes_eq-Decides a b).0 e))
    go false e = e

-- ---- labels

pub tried_is_free : (n : ℕ) → IsNumber n → IsFreeName (tried_label n)
unfolding words.reserved_words
tried_is_free n le =
    let short = decimal_short n le in
    record {
      begins = refl;
      parts = (refl, (refl, (refl, (refl, (refl, (refl, digits_parts (decimal n) (decimal_digits n le)))))));
      short = omega (arith, short);
      free = refl;
    }

pub tried_differ : (m n : ℕ) → IsNumber m → IsNumber n → (m ≡ n → ⊥) → bytes_eq (tried_label m) (tried_label n) ≡ false
tried_differ m n lm ln differ = unequal (tried_label m) (tried_label n) (λ e. differ (decimal_injective m n lm ln (ap (drop 6) e)))
