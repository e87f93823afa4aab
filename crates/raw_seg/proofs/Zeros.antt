-- Bytes of which only the first were ever written.
use Rattle.std.proofs.Common.{rules, ◌≡◌, ℕ, zero, suc, ◌+◌, ◌-◌, ◌%◌, ◌<◌, ◌≤◌, ⊎_elim, List, ◌∷◌, length, replicate, refl, sym, ap, ◌∙◌, arith}
use Rattle.std.proofs.lemmas.Bool.Decides.{nat_tests}
use Rattle.std.proofs.lemmas.List.{places, same_lists}
use Rattle.raw_seg.specs.Bytes.{number_of, bytes_of, bytes_at, IsWidth}
use Rattle.raw_seg.specs.Zeros.{zeros_to, IsReach}

-- behind them are zeros
pub zeros_behind : (len : ℕ) (bytes : List ℕ) (at width : ℕ) → length bytes ≤ at → at + width ≤ len → bytes_at (zeros_to len bytes) at width ≡ replicate width 0
zeros_behind len bytes at width ge le = same_lists _ _ (search (rules, places)) (λ k d h. grind (arith, places))

pub number_of-zeros : (width : ℕ) → number_of (replicate width 0) ≡ 0
number_of-zeros zero = refl
number_of-zeros (suc width) = let rest = number_of-zeros width in omega (arith, rest)

pub bytes_of-zero : (width : ℕ) → bytes_of width 0 ≡ replicate width 0
bytes_of-zero zero = refl
bytes_of-zero (suc width) = ap (λ l. 0 ∷ l) (bytes_of-zero width)

pub length-zeros_to : (len : ℕ) (bytes seen : List ℕ) → zeros_to len bytes ≡ seen → length bytes ≤ len → length seen ≡ len
length-zeros_to len bytes seen is le = ap length (sym is) ∙ grind (arith, places)

pub number_behind : (len : ℕ) (bytes seen : List ℕ) (at width : ℕ) → zeros_to len bytes ≡ seen → length bytes ≤ at → at + width ≤ len → 0 ≡ number_of (bytes_at seen at width)
number_behind len bytes seen at width is ge le = sym (ap (λ b. number_of (bytes_at b at width)) (sym is) ∙ ap number_of (zeros_behind len bytes at width ge le) ∙ number_of-zeros width)

pub bytes_behind : (len : ℕ) (bytes seen : List ℕ) (at width : ℕ) → zeros_to len bytes ≡ seen → length bytes ≤ at → at + width ≤ len → bytes_of width 0 ≡ bytes_at seen at width
bytes_behind len bytes seen at width is ge le = bytes_of-zero width ∙ sym (ap (λ b. bytes_at b at width) (sym is) ∙ zeros_behind len bytes at width ge le)

-- what isn't wholly among the first bytes lies behind them
pub is_behind : (len n at width : ℕ) → IsReach len n → IsWidth width → at % width ≡ 0 → at + width ≤ len → n < at + width → n ≤ at
is_behind len n at width reach wide aligned le past = ⊎_elim (λ units. grind (arith, nat_tests, wide, units, aligned, past)) (λ all. absurd (omega (arith, all, le, past))) reach
