-- A slice by its first item and the others.
use Rattle.std.proofs.Common.{◌≡◌, ◌-◌, ◌≤◌, List, [], ◌∷◌, length, take, drop, get_or, sym, ap, ◌∙◌, arith}
use Rattle.std.proofs.Math.Seq.{take-length}

abbrev pub others : {A : Type 0} → List A → List A
others l = take (length l - 1) (drop 1 l)

pub others_is : {A : Type 0} (x : A) (rest : List A) → others (x ∷ rest) ≡ rest
others_is x rest =
    let count : length (x ∷ rest) - 1 ≡ length rest = omega arith in
    ap (λ n. take n rest) count ∙ take-length rest

pub parted : {A : Type 0} (l : List A) (first : A) → 1 ≤ length l → first ≡ get_or l 0 first → l ≡ first ∷ others l
parted [] first some same = absurd (omega (arith, some))
parted (x ∷ l) first some same = λ i. sym same i ∷ sym (others_is x l) i
