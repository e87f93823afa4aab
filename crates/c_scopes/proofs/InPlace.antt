-- Lists whose elements are changed in turn, in their places.
use Rattle.std.proofs.Common.{◌≡◌, ℕ, zero, suc, ◌+◌, ◌<◌, ◌≤◌, add-one, sym, ap, ◌∙◌, arith, List, [], ◌∷◌, ◌++◌, drop, get_or, length, slice_set, take}
use Rattle.std.proofs.lemmas.List.{drop_all, get_or-set_other, length-set, take-append-drop, take_more_set, take_all}
use Rattle.std.proofs.Math.Seq.{take-suc}

module _ {A : Type 0}
  where
    pub drop_next : (xs : List A) (i : ℕ) (x : A) → i < length xs → x ≡ get_or xs i x → drop i xs ≡ x ∷ drop (suc i) xs
    drop_next [] i x lt at = absurd (omega (arith, lt))
    drop_next (y ∷ ys) zero x lt at = ap (λ z. z ∷ ys) (sym at)
    drop_next (y ∷ ys) (suc i) x lt at = drop_next ys i x (omega (arith, lt)) at

    -- elements from here on are as they were
    abbrev pub Unvisited : List A → List A → ℕ → Type 0
    Unvisited cur old i = (length cur ≡ length old) × ((k : ℕ) (d : A) → i ≤ k → get_or cur k d ≡ get_or old k d)

    pub unvisited_step : (old cur : List A) (i : ℕ) (y : A) → Unvisited cur old i → Unvisited (slice_set cur i y) old (i + 1)
    unvisited_step old cur i y before =
        (length-set cur i y ∙ before.0, λ k d le. get_or-set_other cur i k y d (λ same. omega (arith, same, le)) ∙ before.1 k d (omega (arith, le)))

    pub within_step : (cur : List A) (i : ℕ) (y : A) → i < length cur → i + 1 ≤ length (slice_set cur i y)
    within_step cur i y lt = let e = length-set cur i y in omega (arith, lt, e)

    module _ (old cur : List A) (i : ℕ) (x : A) (lt : i < length cur) (before : Unvisited cur old i) (at : x ≡ get_or cur i x)
      where
        old_at : x ≡ get_or old i x
        old_at = at ∙ before.1 i x (omega arith)

        old_lt : i < length old
        old_lt = let e = before.0 in omega (arith, lt, e)

        pub left : drop i old ≡ x ∷ drop (i + 1) old
        left = rw add-one (drop_next old i x old_lt old_at)

        pub seen : take (i + 1) old ≡ take i old ++ x ∷ []
        seen = rw add-one (take-suc old i x old_lt ∙ ap (λ e. take i old ++ e ∷ []) (sym old_at))

    -- a list is what is seen of it and what is left
    pub split : (old : List A) (i : ℕ) (x : A) (rest : List A) → drop i old ≡ x ∷ rest → old ≡ take i old ++ x ∷ rest
    split old i x rest is = sym (take-append-drop i old) ∙ ap (λ l. take i old ++ l) is

    pub done : (cur : List A) (i : ℕ) (y : A) → i < length cur → take (i + 1) (slice_set cur i y) ≡ take i cur ++ y ∷ []
    done cur i y lt = take_more_set cur i y lt

    -- after the last
    pub none_left : (old : List A) (i : ℕ) → length old ≤ i → drop i old ≡ []
    none_left old i le = drop_all i old le

    pub all_done : (cur : List A) (i : ℕ) → length cur ≤ i → take i cur ≡ cur
    all_done cur i le = take_all i cur le
