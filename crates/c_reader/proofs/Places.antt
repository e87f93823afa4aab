-- How many parts of what is read stand at an offset of the text: what is read from one offset to another stands there, and no two parts at one place.
use Rattle.std.proofs.Common.{◌≡◌, ℕ, ◌+◌, ◌<◌, ◌≤◌, Bool, true, false, cond, nat_eq, inl, inr, refl, ◌∙◌, arith}
use Rattle.std.proofs.lemmas.Bool.{cases_lt}
use Rattle.std.proofs.lemmas.Bool.Decides.{nat_tests}
use Rattle.c_syntax.specs.declared.place.Place.{Place}
use Rattle.c_model.specs.PlacedForms.{stands_at}
use Rattle.c_reader.proofs.PlacedReadings.{IsPlaceWithin}

-- what stands from the offset l on and before the offset n, at one place each
pub record Within (l n : ℕ) (c : ℕ → ℕ) : Type 0 where
  pub on : l ≤ n
  pub before : (o : ℕ) → o < l → c o ≡ 0
  pub once : (o : ℕ) → c o ≤ 1
  pub behind : (o : ℕ) → n ≤ o → c o ≡ 0

pub within_none : (l n : ℕ) → l ≤ n → Within l n (λ o. 0)
within_none l n le = record { on = le; before = λ o lt. refl; once = λ o. omega arith; behind = λ o ge. refl }

abbrev one_where : Bool → ℕ
one_where b = cond b 1 0

pub within_place : (l n : ℕ) (at : Place) → IsPlaceWithin l n at → Within l n (λ o. stands_at o at)
within_place l n at p = record { on = omega (arith, p.from, p.to); before = before; once = once; behind = behind }
  where
    not_there : (o : ℕ) (b : Bool) → nat_eq at.offset o ≡ b → ((at.offset ≡ o) → one_where b ≡ 0) → one_where b ≡ 0
    not_there o true e h = h (grind (arith, nat_tests))
    not_there o false e h = refl

    before : (o : ℕ) → o < l → stands_at o at ≡ 0
    before o lt = not_there o (nat_eq at.offset o) refl (λ e. absurd (omega (arith, e, lt, p.from)))

    behind : (o : ℕ) → n ≤ o → stands_at o at ≡ 0
    behind o ge = not_there o (nat_eq at.offset o) refl (λ e. absurd (omega (arith, e, ge, p.to)))

    once : (o : ℕ) → stands_at o at ≤ 1
    once o = by (nat_eq at.offset o)
      where
        by : (b : Bool) → one_where b ≤ 1
        by true = omega arith
        by false = omega arith

-- one part behind another
pub within_two : (l m n : ℕ) (c d : ℕ → ℕ) → Within l m c → Within m n d → Within l n (λ o. c o + d o)
within_two l m n c d h g = record {
  on = omega (arith, h.on, g.on);
  before = λ o lt. (let x = h.before o lt in let y = g.before o (omega (arith, lt, h.on)) in omega (arith, x, y));
  once = λ o. elim (cases_lt o m) [
    | inl lt ↦ (let x = h.once o in let y = g.before o lt in omega (arith, x, y))
    | inr ge ↦ (let x = h.behind o ge in let y = g.once o in omega (arith, x, y))
  ];
  behind = λ o ge. (let x = h.behind o (omega (arith, ge, g.on)) in let y = g.behind o ge in omega (arith, x, y));
}

pub within_as : {l n : ℕ} {c d : ℕ → ℕ} → Within l n c → ((o : ℕ) → d o ≡ c o) → Within l n d
within_as h same = record {
  on = h.on;
  before = λ o lt. same o ∙ h.before o lt;
  once = λ o. (let x = same o in let y = h.once o in omega (arith, x, y));
  behind = λ o ge. same o ∙ h.behind o ge;
}

-- what is left of it
pub within_fewer : {l n : ℕ} {c d : ℕ → ℕ} → Within l n c → ((o : ℕ) → d o ≤ c o) → Within l n d
within_fewer h fewer = record {
  on = h.on;
  before = λ o lt. (let x = fewer o in let y = h.before o lt in omega (arith, x, y));
  once = λ o. (let x = fewer o in let y = h.once o in omega (arith, x, y));
  behind = λ o ge. (let x = fewer o in let y = h.behind o ge in omega (arith, x, y));
}

pub within_wider : {l n : ℕ} {c : ℕ → ℕ} (k m : ℕ) → k ≤ l → n ≤ m → Within l n c → Within k m c
within_wider k m le lf h = record {
  on = omega (arith, le, lf, h.on);
  before = λ o lt. h.before o (omega (arith, lt, le));
  once = h.once;
  behind = λ o ge. h.behind o (omega (arith, ge, lf));
}

-- a part behind a token, with tokens after each
pub token_then : {l m i j : ℕ} {c : ℕ → ℕ} (n : ℕ) (at : Place) → IsPlaceWithin l m at → m ≤ i → Within i j c → j ≤ n → Within l n (λ o. stands_at o at + c o)
token_then {l} {m} {i} {j} {c} n at p le h lf = within_two l i n (λ o. stands_at o at) c (within_wider l i (omega arith) le (within_place l m at p)) (within_wider i n (omega arith) lf h)

-- and with a part before it
pub between_two : {l m i j k : ℕ} {c d : ℕ → ℕ} (n : ℕ) (at : Place) → Within l m c → IsPlaceWithin m i at → i ≤ j → Within j k d → k ≤ n → Within l n (λ o. stands_at o at + (c o + d o))
between_two {l} {m} {i} {j} {k} {c} {d} n at h p le g lf =
    within_as {d = λ o. stands_at o at + (c o + d o)} (within_two l m n c (λ o. stands_at o at + d o) h (token_then n at p le g lf)) (λ o. omega arith)

-- a token behind a part
pub token_behind : {l m i : ℕ} {c : ℕ → ℕ} (n : ℕ) (at : Place) → Within l m c → IsPlaceWithin m i at → i ≤ n → Within l n (λ o. stands_at o at + c o)
token_behind {l} {m} {i} {c} n at h p le =
    within_as {d = λ o. stands_at o at + c o} (within_two l m n c (λ o. stands_at o at) h (within_wider m n (omega arith) le (within_place m i at p))) (λ o. omega arith)
