-- The number of the first of each key in a list, and what is found by it.
use Rattle.std.proofs.Common.{◌≡◌, ℕ, zero, suc, ◌+◌, ◌<◌, List, [], ◌∷◌, ◌++◌, refl, sym, ap, ◌∙◌, subst, arith, length, map, cond, nat_eq, get_or, Bool, true, false, is_some, Option, Some, None, option_map}
use Rattle.std.proofs.lemmas.Bool.Decides.{nat_tests}
use Rattle.std.specs.Map.{lookup}
use Rattle.c_model.specs.ExpressionTyping.{or_else}
use Rattle.c_scopes.specs.Firsts.{AreFirst, IsNoted, Notes, first_number}

-- ---- what is found

-- a walk through a list to the first of a key; the first of the list has the number k
abbrev pub seek : {A B : Type 0} → (A → ℕ) → (ℕ → A → B) → ℕ → ℕ → List A → Option B
seek key give x k [] = None
seek key give x k (a ∷ xs) = cond (nat_eq x (key a)) (Some (give k a)) (seek key give x (suc k) xs)

-- what has this number is the first of the key
record IsFirst {A B : Type 0} (key : A → ℕ) (give : ℕ → A → B) (x : ℕ) (xs : List A) (n : ℕ) : Type 0 where
  within : n < length xs
  is : (k : ℕ) (a : A) → a ≡ get_or xs n a → seek key give x k xs ≡ Some (give (k + n) a)

module _ {A B : Type 0} (key : A → ℕ) (give : ℕ → A → B) (x : ℕ)
  where
    first_here : (g : A) (gs : List A) (n : ℕ) → nat_eq x (key g) ≡ true → Some 0 ≡ Some n → IsFirst key give x (g ∷ gs) n
    first_here g gs zero t e = record {
      within = omega arith;
      is = λ k a same.
          let same_number : k ≡ k + 0 = omega arith in
          ap (λ b. cond b (Some (give k g)) (seek key give x (suc k) gs)) t ∙ ap (λ m. Some (give m g)) same_number ∙ ap (λ h. Some (give (k + 0) h)) (sym same);
    }
    first_here g gs (suc n) t e = absurd cc

    first_later : (g : A) (gs : List A) (n : ℕ) → nat_eq x (key g) ≡ false → ((m : ℕ) → first_number x (map key gs) ≡ Some m → IsFirst key give x gs m) → (o : Option ℕ) → first_number x (map key gs) ≡ o
        → option_map suc o ≡ Some n → IsFirst key give x (g ∷ gs) n
    first_later g gs n t go None eo e = absurd cc
    first_later g gs zero t go (Some m) eo e = absurd cc
    first_later g gs (suc n) t go (Some m) eo e =
        let same : m ≡ n = cc in
        let is = go n (eo ∙ ap Some same) in record {
          within = omega (arith, is.within);
          is = λ k a at.
              let next : suc k + n ≡ k + suc n = omega arith in
              ap (λ b. cond b (Some (give k g)) (seek key give x (suc k) gs)) t ∙ is.is (suc k) a at ∙ ap (λ m. Some (give m a)) next;
        }

    first_is : (xs : List A) (n : ℕ) → first_number x (map key xs) ≡ Some n → IsFirst key give x xs n
    first_is [] n e = absurd cc
    first_is (g ∷ gs) n e = by (first_is gs) (nat_eq x (key g)) refl e
      where
        by : ((m : ℕ) → first_number x (map key gs) ≡ Some m → IsFirst key give x gs m) → (b : Bool) → nat_eq x (key g) ≡ b → cond b (Some 0) (option_map suc (first_number x (map key gs))) ≡ Some n
            → IsFirst key give x (g ∷ gs) n
        by go true t e = first_here g gs n t e
        by go false t e = first_later g gs n t go (first_number x (map key gs)) refl e

    pub found : (xs : List A) (firsts : List (ℕ × ℕ)) (n k : ℕ) (a : A) → AreFirst (map key xs) firsts → Some n ≡ lookup (nat_eq x) firsts → a ≡ get_or xs n a → Some (give (k + n) a) ≡ seek key give x k xs
    found xs firsts n k a first e at = sym ((first_is xs n (sym (first x) ∙ sym e)).is k a at)

    none_sought : (k : ℕ) (xs : List A) → first_number x (map key xs) ≡ None → seek key give x k xs ≡ None
    none_sought k [] e = refl
    none_sought k (g ∷ gs) e = by (none_sought (suc k) gs) (nat_eq x (key g)) (first_number x (map key gs)) refl e
      where
        by : (first_number x (map key gs) ≡ None → seek key give x (suc k) gs ≡ None) → (b : Bool) (o : Option ℕ) → first_number x (map key gs) ≡ o → cond b (Some 0) (option_map suc o) ≡ None
            → cond b (Some (give k g)) (seek key give x (suc k) gs) ≡ None
        by go true o eo e = absurd cc
        by go false None eo e = go eo
        by go false (Some m) eo e = absurd cc

    pub not_found : (xs : List A) (firsts : List (ℕ × ℕ)) (k : ℕ) → AreFirst (map key xs) firsts → None ≡ lookup (nat_eq x) firsts → None ≡ seek key give x k xs
    not_found xs firsts k first e = sym (none_sought k xs (sym (first x) ∙ sym e))

pub first_within : {A : Type 0} (key : A → ℕ) (xs : List A) (firsts : List (ℕ × ℕ)) (x n : ℕ) → AreFirst (map key xs) firsts → Some n ≡ lookup (nat_eq x) firsts → n < length xs
first_within key xs firsts x n first e = (first_is key (λ k a. a) x xs n (sym (first x) ∙ sym e)).within

-- ---- one more

first_last : (x : ℕ) (ks : List ℕ) (y : ℕ) → first_number x (ks ++ y ∷ []) ≡ or_else (first_number x ks) (cond (nat_eq x y) (Some (length ks)) None)
first_last x [] y = refl
first_last x (k ∷ ks) y = by (nat_eq x k) (first_number x ks) (nat_eq x y) (first_last x ks y)
  where
    last : (b : Bool) → option_map suc (cond b (Some (length ks)) None) ≡ cond b (Some (suc (length ks))) None
    last true = refl
    last false = refl

    by : (a : Bool) (o : Option ℕ) (b : Bool) → first_number x (ks ++ y ∷ []) ≡ or_else o (cond b (Some (length ks)) None)
        → cond a (Some 0) (option_map suc (first_number x (ks ++ y ∷ []))) ≡ or_else (cond a (Some 0) (option_map suc o)) (cond b (Some (suc (length ks))) None)
    by true o b e = refl
    by false None b e = ap (option_map suc) e ∙ last b
    by false (Some n) b e = ap (option_map suc) e

-- a key that is known keeps its first
pub first_kept : (firsts : List (ℕ × ℕ)) (y n : ℕ) → is_some (lookup (nat_eq y) firsts) ≡ true → IsNoted firsts y n firsts
first_kept firsts y n known x = by (lookup (nat_eq x) firsts) (nat_eq y x) refl refl
  where
    by : (o : Option ℕ) (b : Bool) → lookup (nat_eq x) firsts ≡ o → nat_eq y x ≡ b → o ≡ or_else o (cond b (Some n) None)
    by (Some m) b eo eb = refl
    by None false eo eb = refl
    by None true eo eb =
        let same : y ≡ x = grind (arith, nat_tests, eb) in
        let there : is_some (lookup (nat_eq x) firsts) ≡ true = subst (λ z. is_some (lookup (nat_eq z) firsts) ≡ true) same known in
        let z : false ≡ true = ap is_some (sym eo) ∙ there in absurd cc

-- a new key has the number after all
pub first_new : (firsts more : List (ℕ × ℕ)) (y n : ℕ) → is_some (lookup (nat_eq y) firsts) ≡ false → ((x : ℕ) → lookup (nat_eq x) more ≡ cond (nat_eq y x) (Some n) (lookup (nat_eq x) firsts)) → IsNoted firsts y n more
first_new firsts more y n fresh with_it x = with_it x ∙ by (nat_eq y x) refl (lookup (nat_eq x) firsts) refl
  where
    by : (b : Bool) → nat_eq y x ≡ b → (o : Option ℕ) → lookup (nat_eq x) firsts ≡ o → cond b (Some n) o ≡ or_else o (cond b (Some n) None)
    by true eb None eo = refl
    by true eb (Some m) eo =
        let z : y ≡ x = grind (arith, nat_tests, eb) in
        let there : true ≡ false = ap is_some (sym eo) ∙ ap (λ k. is_some (lookup (nat_eq k) firsts)) (sym z) ∙ fresh in absurd cc
    by false eb None eo = refl
    by false eb (Some m) eo = refl

-- behind the keys that there were
pub first_noted : (firsts more : List (ℕ × ℕ)) (y n : ℕ) → IsNoted firsts y n more → Notes firsts y n more
first_noted firsts more y n is ks count first x =
    is x ∙ (λ i. or_else (first x i) (cond (turned (nat_eq x y) refl i) (Some (count i)) None)) ∙ sym (first_last x ks y)
  where
    turned : (b : Bool) → nat_eq x y ≡ b → nat_eq y x ≡ b
    turned true e = let same : x ≡ y = grind (arith, nat_tests, e) in grind (arith, nat_tests, same)
    turned false e = grind (arith, nat_tests, e)
