-- A stable sort by a number of each element gives the list that insertion gives.
use Rattle.std.proofs.Common.{◌≡◌, ℕ, zero, suc, ◌<◌, ◌≤◌, refl, sym, ap, ◌∙◌, arith, List, [], ◌∷◌, length, get_or, Bool, true, false, cond, not, ◌&&◌, nat_eq, nat_lt}
use Rattle.std.proofs.lemmas.Bool.Decides.{nat_tests}
use Rattle.std.specs.Ordering.{is_lt, nat_cmp}
use Rattle.std.specs.List.{filter}
use Rattle.std.specs.List.Sorted.{IsNonDecreasingBy, IsStableByKey}

tie_is : (a b : ℕ) → (not (is_lt (nat_cmp a b)) && not (is_lt (nat_cmp b a))) ≡ nat_eq a b
tie_is a b = grind (arith, nat_tests)

eq_self : (a : ℕ) → nat_eq a a ≡ true
eq_self a = grind (arith, nat_tests)

module _ {X : Type 0} (n : X → ℕ)
  where
    abbrev pub ins : X → List X → List X
    ins i [] = i ∷ []
    ins i (j ∷ js) = cond (nat_lt (n j) (n i)) (j ∷ ins i js) (i ∷ j ∷ js)

    abbrev pub by_insertion : List X → List X
    by_insertion [] = []
    by_insertion (i ∷ is) = ins i (by_insertion is)

    -- ---- elements with one number

    abbrev with_number : ℕ → List X → List X
    with_number k xs = filter (λ y. nat_eq k (n y)) xs

    abbrev in_front : Bool → X → List X → List X
    in_front b x xs = cond b (x ∷ xs) xs

    swapped : (b c : Bool) (i j : X) (xs : List X) → (b ≡ true → c ≡ true → ⊥) → in_front b j (in_front c i xs) ≡ in_front c i (in_front b j xs)
    swapped true true i j xs apart = absurd (apart refl refl)
    swapped true false i j xs apart = refl
    swapped false c i j xs apart = refl

    ins_keeps : (k : ℕ) (i : X) (js : List X) → with_number k (ins i js) ≡ with_number k (i ∷ js)
    ins_keeps k i [] = refl
    ins_keeps k i (j ∷ js) = by (ins_keeps k i js) (nat_lt (n j) (n i)) refl
      where
        by : with_number k (ins i js) ≡ with_number k (i ∷ js) → (b : Bool) → nat_lt (n j) (n i) ≡ b → with_number k (cond b (j ∷ ins i js) (i ∷ j ∷ js)) ≡ with_number k (i ∷ j ∷ js)
        by so true e = ap (in_front (nat_eq k (n j)) j) so ∙ swapped (nat_eq k (n j)) (nat_eq k (n i)) i j (with_number k js) (λ p q. grind (arith, nat_tests, e, p, q))
        by so false e = refl

    insertion_keeps : (k : ℕ) (xs : List X) → with_number k (by_insertion xs) ≡ with_number k xs
    insertion_keeps k [] = refl
    insertion_keeps k (x ∷ xs) = ins_keeps k x (by_insertion xs) ∙ ap (in_front (nat_eq k (n x)) x) (insertion_keeps k xs)

    -- ---- lists that don't fall

    abbrev pub From : ℕ → List X → Type 0
    From k [] = Unit {0}
    From k (y ∷ ys) = (k ≤ n y) × From k ys

    abbrev pub Up : List X → Type 0
    Up [] = Unit {0}
    Up (y ∷ ys) = From (n y) ys × Up ys

    pub from_lower : (k l : ℕ) → k ≤ l → (ys : List X) → From l ys → From k ys
    from_lower k l le [] h = tt
    from_lower k l le (y ∷ ys) h = (let e = h.0 in omega (arith, le, e), from_lower k l le ys h.1)

    ins_from : (k : ℕ) (i : X) (js : List X) → k ≤ n i → From k js → From k (ins i js)
    ins_from k i [] le h = (le, tt)
    ins_from k i (j ∷ js) le h = by (nat_lt (n j) (n i)) (ins_from k i js le h.1)
      where
        by : (b : Bool) → From k (ins i js) → From k (cond b (j ∷ ins i js) (i ∷ j ∷ js))
        by true r = (h.0, r)
        by false r = (le, h)

    ins_up : (i : X) (js : List X) → Up js → Up (ins i js)
    ins_up i [] h = (tt, tt)
    ins_up i (j ∷ js) h = by (nat_lt (n j) (n i)) refl (ins_up i js h.1)
      where
        by : (b : Bool) → nat_lt (n j) (n i) ≡ b → Up (ins i js) → Up (cond b (j ∷ ins i js) (i ∷ j ∷ js))
        by true e r = (ins_from (n j) i js (grind (arith, nat_tests, e)) h.0, r)
        by false e r = let le : n i ≤ n j = grind (arith, nat_tests, e) in ((le, from_lower (n i) (n j) le js h.0), h)

    insertion_up : (xs : List X) → Up (by_insertion xs)
    insertion_up [] = tt
    insertion_up (x ∷ xs) = ins_up x (by_insertion xs) (insertion_up xs)

    from_of : (k : ℕ) (ys : List X) → ((j : ℕ) (d : X) → j < length ys → k ≤ n (get_or ys j d)) → From k ys
    from_of k [] h = tt
    from_of k (y ∷ ys) h = (h zero y (omega arith), from_of k ys (λ j d lt. h (suc j) d (omega (arith, lt))))

    up_of : (ys : List X) → IsNonDecreasingBy n ys → Up ys
    up_of [] h = tt
    up_of (y ∷ ys) h = (from_of (n y) ys (λ j d lt. h zero (suc j) d (omega arith) (omega (arith, lt))), up_of ys (λ i j d le lt. h (suc i) (suc j) d (omega (arith, le)) (omega (arith, lt))))

    -- ---- such a list is known by its elements of each number

    none_below : (k : ℕ) (l : ℕ) → k < l → (zs : List X) → From l zs → with_number k zs ≡ []
    none_below k l lt [] h = refl
    none_below k l lt (z ∷ zs) h =
        let le = h.0 in
        let other : nat_eq k (n z) ≡ false = grind (arith, nat_tests, lt, le) in
        ap (λ b. in_front b z (with_number k zs)) other ∙ none_below k l lt zs h.1

    first_kept : (y : X) (ys : List X) → with_number (n y) (y ∷ ys) ≡ y ∷ with_number (n y) ys
    first_kept y ys = ap (λ b. in_front b y (with_number (n y) ys)) (eq_self (n y))

    not_less : (y z : X) (ys zs : List X) → Up (z ∷ zs) → with_number (n y) (y ∷ ys) ≡ with_number (n y) (z ∷ zs) → n y < n z → ⊥
    not_less y z ys zs up same lt =
        let none : with_number (n y) (z ∷ zs) ≡ [] = none_below (n y) (n z) lt (z ∷ zs) (omega arith, up.0) in
        let e : (y ∷ with_number (n y) ys) ≡ [] = sym (first_kept y ys) ∙ same ∙ none in
        absurd cc

    rest_same : (b : Bool) (y : X) (us vs : List X) → in_front b y us ≡ in_front b y vs → us ≡ vs
    rest_same true y us vs e = cc
    rest_same false y us vs e = e

    pub known_by_numbers : (ys zs : List X) → Up ys → Up zs → ((k : ℕ) → with_number k ys ≡ with_number k zs) → ys ≡ zs
    known_by_numbers [] [] a b same = refl
    known_by_numbers [] (z ∷ zs) a b same = let e : [] ≡ z ∷ with_number (n z) zs = same (n z) ∙ first_kept z zs in absurd cc
    known_by_numbers (y ∷ ys) [] a b same = let e : y ∷ with_number (n y) ys ≡ [] = sym (first_kept y ys) ∙ same (n y) in absurd cc
    known_by_numbers (y ∷ ys) (z ∷ zs) a b same =
        let low : n y < n z → ⊥ = not_less y z ys zs b (same (n y)) in
        let high : n z < n y → ⊥ = not_less z y zs ys a (sym (same (n z))) in
        let level : n y ≡ n z = omega (arith, low, high) in
        let at_y : with_number (n y) (z ∷ zs) ≡ z ∷ with_number (n y) zs = ap (λ k. in_front (nat_eq k (n z)) z (with_number (n y) zs)) level ∙ ap (λ b. in_front b z (with_number (n y) zs)) (eq_self (n z)) in
        let lists : y ∷ with_number (n y) ys ≡ z ∷ with_number (n y) zs = sym (first_kept y ys) ∙ same (n y) ∙ at_y in
        let first : y ≡ z = cc in
        let rest : (k : ℕ) → with_number k ys ≡ with_number k zs = λ k. rest_same (nat_eq k (n y)) y (with_number k ys) (with_number k zs) (same k ∙ ap (λ w. in_front (nat_eq k (n w)) w (with_number k zs)) (sym first)) in
        let tails = known_by_numbers ys zs a.1 b.1 rest in
        (λ i. first i ∷ tails i)

    -- what doesn't fall stays as it is
    pub up_stays : (xs : List X) → Up xs → by_insertion xs ≡ xs
    up_stays xs h = known_by_numbers (by_insertion xs) xs (insertion_up xs) h (λ k. insertion_keeps k xs)

    -- a number that no element of ys has
    number_of : (xs ys : List X) → ((x : X) → with_number (n x) ys ≡ with_number (n x) xs) → (k : ℕ) → with_number k ys ≡ with_number k xs
    number_of xs ys same k = by (with_number k ys) (with_number k xs) refl refl
      where
        has_number : (zs : List X) (z : X) (us : List X) → with_number k zs ≡ z ∷ us → k ≡ n z
        has_number [] z us e = absurd cc
        has_number (w ∷ ws) z us e = at (nat_eq k (n w)) refl e (has_number ws z us)
          where
            at : (b : Bool) → nat_eq k (n w) ≡ b → in_front b w (with_number k ws) ≡ z ∷ us → (with_number k ws ≡ z ∷ us → k ≡ n z) → k ≡ n z
            at true t e h = let first : w ≡ z = cc in grind (arith, nat_tests, t) ∙ ap n first
            at false t e h = h e

        by : (us vs : List X) → with_number k ys ≡ us → with_number k xs ≡ vs → with_number k ys ≡ with_number k xs
        by [] [] a b = a ∙ sym b
        by (u ∷ us) vs a b = let e = has_number ys u us a in ap (λ k. with_number k ys) e ∙ same u ∙ ap (λ k. with_number k xs) (sym e)
        by [] (v ∷ vs) a b = let e = has_number xs v vs b in ap (λ k. with_number k ys) e ∙ same v ∙ ap (λ k. with_number k xs) (sym e)

    -- a stable sort gives what insertion gives
    pub sorted_is : (xs ys : List X) → IsNonDecreasingBy n ys → IsStableByKey n nat_cmp xs ys → ys ≡ by_insertion xs
    sorted_is xs ys up stable =
        let each : (x : X) → with_number (n x) ys ≡ with_number (n x) xs = λ x. (λ i. filter (λ y. sym (tie_is (n x) (n y)) i) ys) ∙ stable x ∙ (λ i. filter (λ y. tie_is (n x) (n y) i) xs) in
        known_by_numbers ys (by_insertion xs) (up_of ys up) (insertion_up xs) (λ k. number_of xs ys each k ∙ sym (insertion_keeps k xs))

    -- ---- elements that pass a test

    filter_from : (k : ℕ) (test : X → Bool) (ys : List X) → From k ys → From k (filter test ys)
    filter_from k test [] h = tt
    filter_from k test (y ∷ ys) h = by (test y) (filter_from k test ys h.1)
      where
        by : (b : Bool) → From k (filter test ys) → From k (cond b (y ∷ filter test ys) (filter test ys))
        by true rest = (h.0, rest)
        by false rest = rest

    filter_up : (test : X → Bool) (ys : List X) → Up ys → Up (filter test ys)
    filter_up test [] h = tt
    filter_up test (y ∷ ys) h = by (test y) (filter_up test ys h.1)
      where
        by : (b : Bool) → Up (filter test ys) → Up (cond b (y ∷ filter test ys) (filter test ys))
        by true rest = (filter_from (n y) test ys h.0, rest)
        by false rest = rest

    -- of a list and its tests: one after another, in either order
    pub test_in_turn : (p q : X → Bool) (xs : List X) → filter p (filter q xs) ≡ filter q (filter p xs)
    test_in_turn p q [] = refl
    test_in_turn p q (x ∷ xs) = by (test_in_turn p q xs) (p x) refl (q x) refl
      where
        by : filter p (filter q xs) ≡ filter q (filter p xs) → (b : Bool) → p x ≡ b → (d : Bool) → q x ≡ d → filter p (cond d (x ∷ filter q xs) (filter q xs)) ≡ filter q (cond b (x ∷ filter p xs) (filter p xs))
        by rest true e true t = (λ i. cond (e i) (x ∷ rest i) (rest i)) ∙ sym (ap (λ d. cond d (x ∷ filter q (filter p xs)) (filter q (filter p xs))) t)
        by rest true e false t = rest ∙ sym (ap (λ d. cond d (x ∷ filter q (filter p xs)) (filter q (filter p xs))) t)
        by rest false e true t = ap (λ b. cond b (x ∷ filter p (filter q xs)) (filter p (filter q xs))) e ∙ rest
        by rest false e false t = rest

    -- insertion of those that pass a test
    pub tested_insertion : (test : X → Bool) (xs : List X) → filter test (by_insertion xs) ≡ by_insertion (filter test xs)
    tested_insertion test xs =
        known_by_numbers (filter test (by_insertion xs)) (by_insertion (filter test xs)) (filter_up test (by_insertion xs) (insertion_up xs)) (insertion_up (filter test xs))
        (λ k. test_in_turn (λ y. nat_eq k (n y)) test (by_insertion xs) ∙ ap (filter test) (insertion_keeps k xs) ∙ test_in_turn test (λ y. nat_eq k (n y)) xs ∙ sym (insertion_keeps k (filter test xs)))
