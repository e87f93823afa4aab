-- Registers by their names' numbers, in a map.
use Rattle.std.proofs.Common.{◌≡◌, ℕ, suc, ◌+◌, Bool, true, false, cond, not, eqb, List, [], ◌∷◌, Some, None, option_map, position, nat_eq, is_some, ◌||◌, ◌&&◌, ◌++◌, refl, sym, ap, ◌∙◌, arith}
use Rattle.std.specs.List.{position_or_len, list_any}
use Rattle.std.specs.Map.{keys_of, lookup}
use Rattle.indexmap.specs.IndexMap.{insert_entry}
use Rattle.mon_syntax.specs.declared.tree.MonType.{MonType}
use Rattle.mon_syntax.specs.Grammar.{Vocabulary}
use Rattle.mon_syntax.specs.Checking.{find_register, is_new}
use Rattle.mon_typing.specs.Scopes.{is_new_register}

abbrev Registers : Type 0
Registers = List (ℕ × MonType)

pub eqb_sym : (a b : ℕ) → eqb a b ≡ eqb b a
eqb_sym a b = grind arith

find_next : (e : ℕ × MonType) (es : Registers) (x n : ℕ) (b : Bool)
    → find_register (suc n) es x ≡ option_map (λ (t : MonType). (suc n + position_or_len (nat_eq x) (keys_of es), t)) (lookup (nat_eq x) es)
    → cond b (Some (n, e.1)) (find_register (suc n) es x) ≡ option_map (λ (t : MonType). (n + cond (not b) (1 + position_or_len (nat_eq x) (keys_of es)) 0, t)) (cond b (Some e.1) (lookup (nat_eq x) es))
find_next e es x n true h = let z : n ≡ n + 0 = omega arith in ap (λ (k : ℕ). Some (k, e.1)) z
find_next e es x n false h =
    let z : suc n + position_or_len (nat_eq x) (keys_of es) ≡ n + (1 + position_or_len (nat_eq x) (keys_of es)) = omega arith in
    h ∙ ap (λ (k : ℕ). option_map (λ (t : MonType). (k, t)) (lookup (nat_eq x) es)) z

find_is : (es : Registers) (x n : ℕ) → find_register n es x ≡ option_map (λ (t : MonType). (n + position_or_len (nat_eq x) (keys_of es), t)) (lookup (nat_eq x) es)
find_is [] x n = refl
find_is (e ∷ es) x n = rw (eqb_sym e.0 x) (find_next e es x n (eqb x e.0) (find_is es x (suc n)))

position_is : (b : Bool) (i k : ℕ) → cond b (Some k) None ≡ Some i → k ≡ i
position_is true i k e = cc
position_is false i k e = absurd cc

pub register_found : (es : Registers) (x i n : ℕ) (t : MonType) → Some i ≡ position (nat_eq x) (keys_of es) → Some t ≡ lookup (nat_eq x) es → n ≡ i → Some (n, t) ≡ find_register 0 es x
register_found es x i n t p v e =
    let k : position_or_len (nat_eq x) (keys_of es) ≡ i = position_is _ i _ (sym p) in
    let z : 0 + position_or_len (nat_eq x) (keys_of es) ≡ n = omega (arith, k, e) in
    sym (find_is es x 0 ∙ ap (option_map (λ (u : MonType). (0 + position_or_len (nat_eq x) (keys_of es), u))) (sym v) ∙ ap (λ (k : ℕ). Some (k, t)) z)

pub register_absent : (es : Registers) (x : ℕ) → None ≡ lookup (nat_eq x) es → None ≡ find_register 0 es x
register_absent es x v = sym (find_is es x 0 ∙ ap (option_map (λ (u : MonType). (0 + position_or_len (nat_eq x) (keys_of es), u))) (sym v))

-- ---- new registers go last

module _ {V : Type 0} where
  abbrev pub named : ℕ → ℕ × V → Bool
  named n x = nat_eq x.0 n

  known_next : (n : ℕ) (e : ℕ × V) (es : List (ℕ × V)) (b : Bool) → is_some (lookup (nat_eq n) es) ≡ list_any (named n) es → is_some (cond b (Some e.1) (lookup (nat_eq n) es)) ≡ (b || list_any (named n) es)
  known_next n e es true h = refl
  known_next n e es false h = h

  pub is_known : (n : ℕ) (es : List (ℕ × V)) → is_some (lookup (nat_eq n) es) ≡ list_any (λ (x : ℕ × V). nat_eq x.0 n) es
  is_known n [] = refl
  is_known n (e ∷ es) = rw (eqb_sym e.0 n) (known_next n e es (eqb n e.0) (is_known n es))

  insert_next : (n : ℕ) (v : V) (e : ℕ × V) (es : List (ℕ × V)) (b : Bool) → (list_any (named n) es ≡ false → insert_entry nat_eq es n v ≡ es ++ (n, v) ∷ []) → (b || list_any (named n) es) ≡ false
      → cond b ((e.0, v) ∷ es) (e ∷ insert_entry nat_eq es n v) ≡ e ∷ (es ++ (n, v) ∷ [])
  insert_next n v e es true h z = absurd cc
  insert_next n v e es false h z = ap (λ (l : List (ℕ × V)). e ∷ l) (h z)

  pub insert_new : (n : ℕ) (v : V) (es : List (ℕ × V)) → list_any (named n) es ≡ false → insert_entry nat_eq es n v ≡ es ++ (n, v) ∷ []
  insert_new n v [] z = refl
  insert_new n v (e ∷ es) z = insert_next n v e es (eqb n e.0) (insert_new n v es) (rw (eqb_sym e.0 n) at z)

pub new_is : (ws : Vocabulary) (globals : List ℕ) (es : Registers) (n : ℕ) (b : Bool) → b ≡ is_some (lookup (nat_eq n) es) → is_new ws globals n ≡ true → not b ≡ is_new_register ws globals es n
new_is ws globals es n b h new = ap not (h ∙ is_known n es) ∙ sym (ap (λ (f : Bool). f && not (list_any (named n) es)) new)
