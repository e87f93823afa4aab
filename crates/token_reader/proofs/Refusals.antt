-- The last tokens of a text.
use Rattle.std.proofs.Common.{◌≡◌, ℕ, zero, suc, ◌-◌, ◌≤◌, ◌<◌, Bool, true, false, eqb, List, [], ◌∷◌, length, drop, refl, sym, ap, ◌∙◌, arith}
use Rattle.std.proofs.lemmas.List.{length-map}
use Rattle.std.proofs.lemmas.Bool.{eqb-true, eq-eqb}
use Rattle.std.specs.Prelude.{if◌then◌else◌}
use Rattle.c_syntax.specs.declared.token.Token.{Token}
use Rattle.c_syntax.specs.Tokens.{PlainToken, plain_token}
use Rattle.c_model.specs.TokenWords.{last}
use Rattle.token_reader.specs.Reading.{plain_list}

map_drop : (k : ℕ) (ts : List Token) → plain_list (drop k ts) ≡ drop k (plain_list ts)
map_drop zero ts = refl
map_drop (suc k) [] = refl
map_drop (suc k) (t ∷ ts) = map_drop k ts

nothing_dropped : (k : ℕ) → drop {A = PlainToken} k [] ≡ []
nothing_dropped zero = refl
nothing_dropped (suc k) = refl

-- the last tokens of one more
last_step : (n : ℕ) (t : PlainToken) (ts : List PlainToken) (b : Bool) → eqb n (suc (length ts)) ≡ b → n ≤ suc (length ts) → (n ≤ length ts → last n ts ≡ drop (length ts - n) ts)
    → (if b then t ∷ ts else last n ts) ≡ drop (suc (length ts) - n) (t ∷ ts)
last_step n t ts true is h go = let e = eqb-true n (suc (length ts)) is in let z : suc (length ts) - n ≡ 0 = omega (arith, e) in rw z refl
last_step n t ts false is h go =
    let ne : n ≡ suc (length ts) → ⊥ = (λ e. let q = eq-eqb n (suc (length ts)) e in cc) in
    let k : n ≤ length ts = omega (arith, h, ne) in
    let z : suc (length ts) - n ≡ suc (length ts - n) = omega (arith, k) in
    rw z (go k)

last_drop : (n : ℕ) (ts : List PlainToken) → n ≤ length ts → last n ts ≡ drop (length ts - n) ts
last_drop n [] h = sym (nothing_dropped (0 - n))
last_drop n (t ∷ ts) h = last_step n t ts (eqb n (suc (length ts))) refl h (last_drop n ts)

pub last_is : (n : ℕ) (ts : List Token) → n ≤ length ts → plain_list (drop (length ts - n) ts) ≡ last n (plain_list ts)
last_is n ts h =
    let l = length-map ts plain_token in
    map_drop (length ts - n) ts ∙ ap (λ k. drop (k - n) (plain_list ts)) (sym l) ∙ sym (last_drop n (plain_list ts) (omega (arith, l, h)))

none_step : (n : ℕ) (t : PlainToken) (ts : List PlainToken) (b : Bool) → eqb n (suc (length ts)) ≡ b → suc (length ts) < n → last n ts ≡ [] → (if b then t ∷ ts else last n ts) ≡ []
none_step n t ts true is h go = absurd (let e = eqb-true n (suc (length ts)) is in omega (arith, e, h))
none_step n t ts false is h go = go

none_last : (n : ℕ) (ts : List PlainToken) → length ts < n → last n ts ≡ []
none_last n [] h = refl
none_last n (t ∷ ts) h = none_step n t ts (eqb n (suc (length ts))) refl h (none_last n ts (omega (arith, h)))

pub last_none : (n : ℕ) (ts : List Token) → length ts < n → last n (plain_list ts) ≡ []
last_none n ts h = none_last n (plain_list ts) (let l = length-map ts plain_token in omega (arith, l, h))
