-- Names that are held within binders.
use Rattle.std.proofs.Common.{◌≡◌, ◌⊎◌, inl, inr, ℕ, Bool, true, false, cond, nat_eq, List, [], ◌∷◌, ◌++◌, Option, Some, None, append_assoc, refl, sym, ap, ◌∙◌, subst}
use Rattle.std.proofs.lemmas.Bool.{eq-eqb}
use Rattle.std.proofs.lemmas.List.{append-nil}
use Rattle.c_syntax.specs.declared.place.Place.{Place}
use Rattle.c_syntax.specs.Logic.{Predicate, Truth, NonZero, Chain, Not, Connected, Branch, Quantified, Asks, Separated, Binder}
use Rattle.c_model.specs.ContractChecks.{result_number}
use Rattle.c_model.specs.QuietPredicates.{IsQuiet}
use Rattle.c_model.specs.TypedPredicates.{AreBinders, IsBound}
use Rattle.annot_simulation.specs.Beside.{AreApart, BindersApart}
use Rattle.annot_simulation.specs.Held.{Sorted, sort_held, sorts_within}

pub quiet_apart : (x : Predicate) → IsQuiet x → BindersApart x
quiet_apart (Truth at b) q = tt
quiet_apart (NonZero at t) q = tt
quiet_apart (Chain at t l) q = tt
quiet_apart (Not at a) q = quiet_apart a q
quiet_apart (Connected at c a b) q = (quiet_apart a q.0, quiet_apart b q.1)
quiet_apart (Branch at c a b) q = (quiet_apart c q.0, quiet_apart a q.1, quiet_apart b q.2)
quiet_apart (Quantified at k gs a) q = absurd q
quiet_apart (Asks at f z) q = tt
quiet_apart (Separated at zs) q = tt

pub result_apart : (ys : List Binder) (ns : Sorted) → AreApart ys → sort_held result_number (sorts_within ys ns) ≡ sort_held result_number ns
result_apart [] ns far = refl
result_apart (y ∷ ys) ns far = result_apart ys ((y.place.offset, false) ∷ ns) far.1 ∙ ap (λ c. cond c (Some false) (sort_held result_number ns)) far.0

pub bound_split : (xs ys : List (Place × ℕ)) (n : ℕ) → IsBound (xs ++ ys) n → IsBound xs n ⊎ IsBound ys n
bound_split [] ys n i = inr i
bound_split (x ∷ xs) ys n (inl e) = inl (inl e)
bound_split (x ∷ xs) ys n (inr i) = by (bound_split xs ys n i)
  where
    by : IsBound xs n ⊎ IsBound ys n → IsBound (x ∷ xs) n ⊎ IsBound ys n
    by (inl i) = inl (inr i)
    by (inr i) = inr i

pub nat_same : (n : ℕ) → nat_eq n n ≡ true
nat_same n = eq-eqb n n refl

-- binders in sight are held as numbers
pub bound_within : (ns : Sorted) (ys : List Binder) (bs front : List (Place × ℕ)) (x : ℕ) → AreBinders ys bs → ((n : ℕ) → IsBound front n → sort_held n ns ≡ Some false) → IsBound (front ++ bs) x
    → sort_held x (sorts_within ys ns) ≡ Some false
bound_within ns [] [] front x are known i = known x (subst (λ l. IsBound l x) (append-nil front) i)
bound_within ns [] (b ∷ bs) front x are known i = absurd are
bound_within ns (y ∷ ys) [] front x are known i = absurd are
bound_within ns (y ∷ ys) (b ∷ bs) front x are known i =
    bound_within ((y.place.offset, false) ∷ ns) ys bs (front ++ b ∷ []) x are.3 (λ n j. by n (bound_split front (b ∷ []) n j)) (subst (λ l. IsBound l x) (sym (append_assoc front (b ∷ []) bs)) i)
  where
    one : (n : ℕ) (t : Bool) → nat_eq y.place.offset n ≡ t → (t ≡ false → sort_held n ns ≡ Some false) → cond (nat_eq y.place.offset n) (Some false) (sort_held n ns) ≡ Some false
    one n true e later = ap (λ c. cond c (Some false) (sort_held n ns)) e
    one n false e later = ap (λ c. cond c (Some false) (sort_held n ns)) e ∙ later refl

    by : (n : ℕ) → IsBound front n ⊎ IsBound (b ∷ []) n → cond (nat_eq y.place.offset n) (Some false) (sort_held n ns) ≡ Some false
    by n (inl j) = one n (nat_eq y.place.offset n) refl (λ e. known n j)
    by n (inr (inl e)) =
        let same : y.place.offset ≡ n = ap (λ (p : Place). p.offset) are.0 ∙ sym e in
        ap (λ c. cond c (Some false) (sort_held n ns)) (subst (λ m. nat_eq y.place.offset m ≡ true) same (nat_same y.place.offset))
    by n (inr (inr j)) = absurd j

pub part : {N A B : Type 0} → (A → B) → N ⊎ A → N ⊎ B
part f (inl n) = inl n
part f (inr a) = inr (f a)
