-- A string literal of a C text is bytes and escapes up to its closing quote.
use Rattle.std.proofs.Common.{◌≡◌, ℕ, zero, suc, ◌+◌, ◌-◌, ◌≤◌, false, eqb, List, [], ◌∷◌, ◌++◌, length, take, drop, Option, Some, None, option_map, inl, inr, refl, sym, ap, ◌∙◌, arith, append_assoc, length-append, length-drop}
use Rattle.std.proofs.lemmas.Bool.{eqb-true}
use Rattle.std.proofs.lemmas.Bool.Decides.{nat_tests}
use Rattle.std.proofs.lemmas.List.{take-append-drop, length-take}
use Rattle.c_model.specs.declared.c_tokens.Mode.{Mode}
use Rattle.c_model.specs.Characters.{begins_with}
use Rattle.c_model.specs.Literals.{unit_in, string_len}
use Rattle.c_model.specs.CTokenLaws.{spelling_of, AreUnits}
use Rattle.c_model.proofs.Spelling.{chosen}

pub map_map : (f g : ℕ → ℕ) (o : Option ℕ) → option_map f (option_map g o) ≡ option_map (λ j. f (g j)) o
map_map f g None = refl
map_map f g (Some x) = refl

pub map_same : (f g : ℕ → ℕ) (o : Option ℕ) → ((j : ℕ) → f j ≡ g j) → option_map f o ≡ option_map g o
map_same f g None h = refl
map_same f g (Some x) h = ap Some (h x)

-- the bytes that still belong to the unit before, and then the rest
pub len_skip : (m : Mode) (k : ℕ) (bs : List ℕ) → string_len m k bs ≡ option_map (λ j. k + j) (string_len m 0 (drop k bs))
len_skip m zero bs = map_id (string_len m 0 bs)
  where
    map_id : (o : Option ℕ) → o ≡ option_map (λ j. 0 + j) o
    map_id None = refl
    map_id (Some x) = ap Some (omega arith)
len_skip m (suc k) [] = refl
len_skip m (suc k) (b ∷ bs) = ap (option_map suc) (len_skip m k bs) ∙ map_map suc (λ j. k + j) (string_len m 0 (drop k bs)) ∙ map_same (λ j. suc (k + j)) (λ j. suc k + j) (string_len m 0 (drop k bs)) (λ j. omega arith)

some_of : (f : ℕ → ℕ) (o : Option ℕ) (n : ℕ) → option_map f o ≡ Some n → (k : ℕ) × (o ≡ Some k) × (f k ≡ n)
some_of f None n e = absurd cc
some_of f (Some k) n e = (k, refl, cc)

pub quote_is : (b : ℕ) (bs : List ℕ) → eqb b 34 ≡ begins_with (34 ∷ []) (b ∷ bs)
quote_is b bs = grind (arith, nat_tests)

pub record StringIs (m : Mode) (bs : List ℕ) (n : ℕ) : Type 0 where
  pub units : List (List ℕ × ℕ)
  pub spelling : List ℕ
  pub behind : List ℕ
  pub split : bs ≡ spelling ++ (34 ∷ behind)
  pub spells : spelling ≡ spelling_of units
  pub count : length spelling + 1 ≡ n
  pub are : AreUnits m units (34 ∷ behind)

-- one unit, and the string after it
with_unit : (m : Mode) (b : ℕ) (bs : List ℕ) (u : ℕ × ℕ) (i n : ℕ) → eqb b 34 ≡ false → unit_in m (b ∷ bs) ≡ Some u → suc (u.1 + i) ≡ n → StringIs m (drop u.1 bs) i → StringIs m (b ∷ bs) n
with_unit m b bs u i n other is total rest =
    let w : List ℕ = b ∷ take u.1 bs in
    let within : length w ≡ suc u.1 = omega (arith, length-take u.1 bs, ap length rest.split, length-drop u.1 bs, length-append rest.spelling (34 ∷ rest.behind)) in
    let whole : b ∷ bs ≡ w ++ (rest.spelling ++ (34 ∷ rest.behind)) = ap (λ (t : List ℕ). b ∷ t) (sym (take-append-drop u.1 bs) ∙ ap (λ (t : List ℕ). take u.1 bs ++ t) rest.split) in
    let there : b ∷ bs ≡ w ++ (spelling_of rest.units ++ (34 ∷ rest.behind)) = whole ∙ ap (λ (t : List ℕ). w ++ (t ++ (34 ∷ rest.behind))) rest.spells in
    let more : u.1 ≡ length w - 1 = omega (arith, within) in
    record {
      units = (w, u.0) ∷ rest.units;
      spelling = w ++ rest.spelling;
      behind = rest.behind;
      split = whole ∙ sym (append_assoc w rest.spelling (34 ∷ rest.behind));
      spells = ap (λ (t : List ℕ). w ++ t) rest.spells;
      count = omega (arith, length-append w rest.spelling, within, rest.count, total);
      are = (omega (arith, within), ap (unit_in m) (sym there) ∙ is ∙ (λ j. Some (u.0, more j)), ap (begins_with (34 ∷ [])) (sym there) ∙ sym (quote_is b bs) ∙ other, rest.are);
    }

string_from : (k : ℕ) (m : Mode) (bs : List ℕ) (n : ℕ) → length bs ≤ k → string_len m 0 bs ≡ Some n → StringIs m bs n
string_from k m [] n short e = absurd cc
string_from zero m (b ∷ bs) n short e = absurd (omega arith)
string_from (suc k) m (b ∷ bs) n short e = elim (chosen (eqb b 34) (Some 1) _ (Some n) e) [
  | inl h ↦ record {
    units = [];
    spelling = [];
    behind = bs;
    split = ap (λ (c : ℕ). c ∷ bs) (eqb-true b 34 h.0);
    spells = refl;
    count = let f = h.1 in cc;
    are = tt;
  }
  | inr h ↦ by (unit_in m (b ∷ bs)) refl h.0 h.1 (λ cs i. string_from k m cs i)
]
  where
    by : (r : Option (ℕ × ℕ)) → unit_in m (b ∷ bs) ≡ r → eqb b 34 ≡ false → (let o : Option ℕ = elim r [ None ↦ None | Some u ↦ option_map suc (string_len m u.1 bs) ] in o) ≡ Some n
        → ((cs : List ℕ) (i : ℕ) → length cs ≤ k → string_len m 0 cs ≡ Some i → StringIs m cs i) → StringIs m (b ∷ bs) n
    by None is other f rest = absurd cc
    by (Some u) is other f rest =
        let one = some_of suc (string_len m u.1 bs) n f in
        let two = some_of (λ j. u.1 + j) (string_len m 0 (drop u.1 bs)) one.0 (sym (len_skip m u.1 bs) ∙ one.1) in
        with_unit m b bs u two.0 n other is (omega (arith, one.2, two.2)) (rest (drop u.1 bs) two.0 (omega (arith, length-drop u.1 bs)) two.1)

pub string_is : (m : Mode) (bs : List ℕ) (n : ℕ) → string_len m 0 bs ≡ Some n → StringIs m bs n
string_is m bs n e = string_from (length bs) m bs n (omega arith) e
