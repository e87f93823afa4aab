-- How many things that are declared stand over an offset of the text: where at most one stands over each, none stands in another.
use Rattle.std.proofs.Common.{◌≡◌, ℕ, ◌+◌, ◌<◌, ◌≤◌, cond, ltb, inl, inr, refl, ◌∙◌, arith}
use Rattle.std.proofs.lemmas.Bool.{lt-ltb, le-ltb, cond-true, cond-false, cases_lt}

-- one where the offset stands from s on and before e, and else none
pub held : ℕ → ℕ → ℕ → ℕ
held o s e = cond (ltb o s) 0 (cond (ltb o e) 1 0)

pub held_before : (o s e : ℕ) → o < s → held o s e ≡ 0
unfolding held
held_before o s e lt = cond-true (ltb o s) 0 (cond (ltb o e) 1 0) (lt-ltb o s lt)

held_on : (o s e : ℕ) → s ≤ o → held o s e ≡ cond (ltb o e) 1 0
unfolding held
held_on o s e le = cond-false (ltb o s) 0 (cond (ltb o e) 1 0) (le-ltb o s le)

pub held_within : (o s e : ℕ) → s ≤ o → o < e → held o s e ≡ 1
held_within o s e le lt = held_on o s e le ∙ cond-true (ltb o e) 1 0 (lt-ltb o e lt)

pub held_behind : (o s e : ℕ) → s ≤ o → e ≤ o → held o s e ≡ 0
held_behind o s e le ge = held_on o s e le ∙ cond-false (ltb o e) 1 0 (le-ltb o e ge)

pub held_once : (o s e : ℕ) → held o s e ≤ 1
held_once o s e = elim (cases_lt o s) [
  | inl lt ↦ (let h = held_before o s e lt in omega (arith, h))
  | inr le ↦ elim (cases_lt o e) [
    | inl lt ↦ (let h = held_within o s e le lt in omega (arith, h))
    | inr ge ↦ (let h = held_behind o s e le ge in omega (arith, h))
  ]
]

-- at most one stands over each offset, and none over the offset n and those after it
pub record IsApart (n : ℕ) (c : ℕ → ℕ) : Type 0 where
  pub once : (o : ℕ) → c o ≤ 1
  pub behind : (o : ℕ) → n ≤ o → c o ≡ 0

-- what is read from the offset l on and before the offset n adds to c, and makes d of it
pub record Adds (l n : ℕ) (c d : ℕ → ℕ) : Type 0 where
  pub before : (o : ℕ) → o < l → d o ≡ c o
  pub once : (o : ℕ) → l ≤ o → d o ≤ 1
  pub behind : (o : ℕ) → n ≤ o → d o ≡ 0

pub adds_none : (l n : ℕ) (c : ℕ → ℕ) → l ≤ n → IsApart l c → Adds l n c c
adds_none l n c le h = record { before = λ o lt. refl; once = λ o ge. h.once o; behind = λ o ge. h.behind o (omega (arith, le, ge)) }

pub adds_apart : (l n : ℕ) (c d : ℕ → ℕ) → IsApart l c → Adds l n c d → IsApart n d
adds_apart l n c d h a = record {
  once = λ o. elim (cases_lt o l) [
    | inl lt ↦ (let e = a.before o lt in let f = h.once o in omega (arith, e, f))
    | inr ge ↦ a.once o ge
  ];
  behind = a.behind;
}

pub adds_same : (l n : ℕ) (c d e : ℕ → ℕ) → ((o : ℕ) → e o ≡ d o) → Adds l n c d → Adds l n c e
adds_same l n c d e same a = record {
  before = λ o lt. same o ∙ a.before o lt;
  once = λ o ge. (let s = same o in let f = a.once o ge in omega (arith, s, f));
  behind = λ o ge. same o ∙ a.behind o ge;
}

pub adds_higher : (l m n : ℕ) (c d : ℕ → ℕ) → m ≤ n → Adds l m c d → Adds l n c d
adds_higher l m n c d le a = record { before = a.before; once = a.once; behind = λ o ge. a.behind o (omega (arith, le, ge)) }

pub adds_lower : (k l n : ℕ) (c d : ℕ → ℕ) → k ≤ l → IsApart k c → Adds l n c d → Adds k n c d
adds_lower k l n c d le h a = record {
  before = λ o lt. a.before o (omega (arith, le, lt));
  once = λ o ge. elim (cases_lt o l) [
    | inl lt ↦ (let e = a.before o lt in let f = h.once o in omega (arith, e, f))
    | inr ge2 ↦ a.once o ge2
  ];
  behind = a.behind;
}

pub apart_higher : (m n : ℕ) (c : ℕ → ℕ) → m ≤ n → IsApart m c → IsApart n c
apart_higher m n c le h = record { once = h.once; behind = λ o ge. h.behind o (omega (arith, le, ge)) }

pub apart_same : (n : ℕ) (c d : ℕ → ℕ) → ((o : ℕ) → d o ≡ c o) → IsApart n c → IsApart n d
apart_same n c d same h = record { once = λ o. (let s = same o in let f = h.once o in omega (arith, s, f)); behind = λ o ge. same o ∙ h.behind o ge }

-- one more thing, behind the others
pub adds_held : (l m n a b : ℕ) (c d : ℕ → ℕ) → l ≤ m → m ≤ a → a ≤ b → b ≤ n → Adds l m c d → Adds l n c (λ o. held o a b + d o)
adds_held l m n a b c d lm ma ab bn h = record {
  before = λ o lt. (let e = held_before o a b (omega (arith, lt, lm, ma)) in let f = h.before o lt in omega (arith, e, f));
  once = λ o ge. elim (cases_lt o a) [
    | inl lt ↦ (let e = held_before o a b lt in let f = h.once o ge in omega (arith, e, f))
    | inr le ↦ (let e = held_once o a b in let f = h.behind o (omega (arith, le, ma)) in omega (arith, e, f))
  ];
  behind = λ o ge. (let e = held_behind o a b (omega (arith, ge, ab, bn)) (omega (arith, ge, bn)) in let f = h.behind o (omega (arith, ge, ma, ab, bn)) in omega (arith, e, f));
}

-- one part of what there is grows, behind all
pub adds_more : (l m k n : ℕ) (c r d e : ℕ → ℕ) → l ≤ m → m ≤ k → k ≤ n → Adds l m c (λ o. r o + d o) → Adds k n d e → Adds l n c (λ o. r o + e o)
adds_more l m k n c r d e lm mk kn h g = record {
  before = λ o lt. (let x = h.before o lt in let y = g.before o (omega (arith, lt, lm, mk)) in omega (arith, x, y));
  once = λ o ge. elim (cases_lt o k) [
    | inl lt ↦ (let x = h.once o ge in let y = g.before o lt in omega (arith, x, y))
    | inr le ↦ (let x = h.behind o (omega (arith, le, mk)) in let y = g.once o le in omega (arith, x, y))
  ];
  behind = λ o ge. (let x = h.behind o (omega (arith, ge, mk, kn)) in let y = g.behind o ge in omega (arith, x, y));
}

pub apart_held : (m n a b : ℕ) (c : ℕ → ℕ) → m ≤ a → a ≤ b → b ≤ n → IsApart m c → IsApart n (λ o. held o a b + c o)
apart_held m n a b c ma ab bn h = record {
  once = λ o. elim (cases_lt o a) [
    | inl lt ↦ (let e = held_before o a b lt in let f = h.once o in omega (arith, e, f))
    | inr le ↦ (let e = held_once o a b in let f = h.behind o (omega (arith, le, ma)) in omega (arith, e, f))
  ];
  behind = λ o ge. (let e = held_behind o a b (omega (arith, ge, ab, bn)) (omega (arith, ge, bn)) in let f = h.behind o (omega (arith, ge, ma, ab, bn)) in omega (arith, e, f));
}

pub apart_more : (m k n : ℕ) (r d e : ℕ → ℕ) → m ≤ k → k ≤ n → IsApart m (λ o. r o + d o) → Adds k n d e → IsApart n (λ o. r o + e o)
apart_more m k n r d e mk kn h g = record {
  once = λ o. elim (cases_lt o k) [
    | inl lt ↦ (let x = h.once o in let y = g.before o lt in omega (arith, x, y))
    | inr le ↦ (let x = h.behind o (omega (arith, le, mk)) in let y = g.once o le in omega (arith, x, y))
  ];
  behind = λ o ge. (let x = h.behind o (omega (arith, ge, mk, kn)) in let y = g.behind o ge in omega (arith, x, y));
}
