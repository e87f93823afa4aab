-- Globals by their names' numbers, in a set.
use Rattle.std.proofs.Common.{◌≡◌, ℕ, suc, cond, eqb, List, [], ◌∷◌, Some, Option, position, nat_eq, refl, sym, ap, ◌∙◌, add-one}
use Rattle.std.specs.List.{position_from}
use Rattle.std.proofs.lemmas.Iterator.Adapters.{position_from-zero}
use Rattle.mon_syntax.specs.Checking.{find_global}
use Rattle.mon_typing.proofs.Registers.{eqb_sym}

find_from : (n : ℕ) (gs : List ℕ) (x : ℕ) → find_global n gs x ≡ position_from (nat_eq x) n gs
find_from n [] x = refl
find_from n (g ∷ gs) x =
    rw (eqb_sym g x) (ap (λ (o : Option ℕ). cond (eqb x g) (Some n) o) (find_from (suc n) gs x ∙ ap (λ k. position_from (nat_eq x) k gs) (sym (add-one n))))

pub find_is : (gs : List ℕ) (x : ℕ) → position (nat_eq x) gs ≡ find_global 0 gs x
find_is gs x = position_from-zero (nat_eq x) gs ∙ sym (find_from 0 gs x)
