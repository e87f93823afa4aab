-- What reads no empty text takes a token.
use Rattle.std.proofs.Common.{◌≡◌, ℕ, ◌<◌, List, [], ◌∷◌, ◌++◌, length, length-append, Ok, refl, ap, subst, arith, false}
use Rattle.std.proofs.lemmas.List.{length-map}
use Rattle.grammar.specs.Syntax.{Syntax}
use Rattle.grammar.specs.Exact.{IsExact}
use Rattle.c_syntax.specs.declared.token.Token.{Token}
use Rattle.c_syntax.specs.Tokens.{PlainToken, plain_token}
use Rattle.token_reader.specs.Reading.{plain_list}

filled : {T : Type 0} (front ts rest : List T) → ts ≡ front ++ rest → (front ≡ [] → ⊥) → length rest < length ts
filled [] ts rest e h = absurd (h refl)
filled (t ∷ front) ts rest e h = omega (arith, ap length e, length-append (t ∷ front) rest)

pub shorter : {A : Type 0} {K : PlainToken → ℕ} {first : List ℕ} {more : A → List ℕ} (G : Syntax PlainToken A) → IsExact K G false first more → (ts rest : List Token) (x : A) → G.parse (plain_list ts) ≡ Ok (x, plain_list rest) →
    length rest < length ts
shorter G g ts rest x e =
    let t = g.takes (plain_list ts) x (plain_list rest) e in
    let is = t.is in
    let k : length (plain_list rest) < length (plain_list ts) = filled t.front (plain_list ts) (plain_list rest) t.parts (λ z. let r = g.filled x (subst (λ (w : List PlainToken). G.reads w x) z is) in cc) in
    omega (arith, length-map ts plain_token, length-map rest plain_token)
