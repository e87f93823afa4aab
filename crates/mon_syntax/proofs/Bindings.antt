-- The register of a declaration, as a map keeps it by the declaration's number.
use Rattle.std.proofs.Common.{◌≡◌, ℕ, Bool, true, false, cond, if◌then◌else◌, nat_eq, [], ◌∷◌, Some, refl, sym, ap, ◌∙◌}
use Rattle.std.specs.Map.{lookup}
use Rattle.std.proofs.lemmas.Bool.{eq-eqb, eqb-true}
use Rattle.indexmap.specs.IndexMap.{insert_entry}
use Rattle.mon_syntax.specs.Registers.{Bindings, register_of, bound_with}

same : (x y : ℕ) → nat_eq x y ≡ nat_eq y x
same x y = by (nat_eq x y) (nat_eq y x) refl refl
  where
    by : (a b : Bool) → nat_eq x y ≡ a → nat_eq y x ≡ b → a ≡ b
    by true true p q = refl
    by false false p q = refl
    by true false p q = let e = eqb-true x y p in let f = eq-eqb y x (sym e) in cc
    by false true p q = let e = eqb-true y x q in let f = eq-eqb x y (sym e) in cc

-- what the map has for the declaration
pub found : (bs : Bindings) (x : ℕ) → lookup (nat_eq x) bs ≡ register_of bs x
found [] x = refl
found (b ∷ bs) x = (λ i. cond (same x b.0 i) (Some b.1) (found bs x i))

-- the map with one more register
pub inserted : (bs : Bindings) (x r : ℕ) → insert_entry nat_eq bs x r ≡ bound_with x r bs
inserted [] x r = refl
inserted (b ∷ bs) x r = by (inserted bs x r) (nat_eq x b.0) refl
  where
    by : insert_entry nat_eq bs x r ≡ bound_with x r bs → (t : Bool) → nat_eq x b.0 ≡ t → insert_entry nat_eq (b ∷ bs) x r ≡ bound_with x r (b ∷ bs)
    by rest true e =
        ap (λ c. if c then (b.0, r) ∷ bs else b ∷ insert_entry nat_eq bs x r) e
        ∙ ap (λ y. (y, r) ∷ bs) (sym (eqb-true x b.0 e))
        ∙ sym (ap (λ c. cond c ((x, r) ∷ bs) (b ∷ bound_with x r bs)) (sym (same x b.0) ∙ e))
    by rest false e =
        ap (λ c. if c then (b.0, r) ∷ bs else b ∷ insert_entry nat_eq bs x r) e
        ∙ ap (λ l. b ∷ l) rest
        ∙ sym (ap (λ c. cond c ((x, r) ∷ bs) (b ∷ bound_with x r bs)) (sym (same x b.0) ∙ e))
