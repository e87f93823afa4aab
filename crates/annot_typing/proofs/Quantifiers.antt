-- What is in sight with the binders of quantifiers, and guards that are made from their last chain on.
use Rattle.std.proofs.Common.{◌≡◌, ◌≤◌, ℕ, refl, ap, sym, ◌∙◌, arith, List, [], ◌∷◌, ◌++◌, ◌-◌, drop, get_or, length, take, map}
use Rattle.std.proofs.lemmas.List.{take_all}
use Rattle.c_syntax.specs.declared.place.Place.{Place}
use Rattle.c_syntax.specs.Formulas.{Form}
use Rattle.c_syntax.specs.Logic.{Guards, NoGuard, Guarded}
use Rattle.c_syntax.specs.declared.logic.Guard.{Guard}
use Rattle.c_model.specs.AnnotationSights.{with_binders}
use Rattle.c_model.specs.ExpressionTyping.{Sight}
use Rattle.c_model.specs.QuantifierGuards.{guarded_by, left_behind}
use Rattle.annot_typing.specs.declared.clause_sight.FormSight.{FormSight}
use Rattle.c_model.specs.QuantifierTyping.{GuardChain, guards_of}
use Rattle.annot_typing.specs.Quantifiers.{guards_before, plain_chain}
use Rattle.annot_typing.specs.Sights.{form_sight}

-- binders, and more of them
pub seen_with : (s : Sight) (k : FormSight) (all more : List (Place × ℕ)) → all ≡ k.binders.now ++ more → record (form_sight s k) { binders = all } ≡ with_binders (form_sight s k) more
seen_with s k all more f = ap (λ (bs : List (Place × ℕ)). record (form_sight s k) { binders = bs }) f

-- the first binders, of which these are left
pub guarded_is : (left rest : List (Place × ℕ)) (f : Form) (n : ℕ) → rest ≡ left_behind left f → n ≡ length left - length rest → take n left ≡ guarded_by left f
guarded_is left rest f n is count = ap (λ k. take k left) (count ∙ ap (λ (r : List (Place × ℕ)). length left - length r) is)

-- a list is its first element and the others
pub first_of_all : {A : Type 0} (d : A) (xs : List A) → 1 ≤ length xs → get_or xs 0 d ∷ take (length xs - 1) (drop 1 xs) ≡ xs
first_of_all d [] le = absurd (omega (arith, le))
first_of_all d (x ∷ xs) le = ap (λ ys. x ∷ ys) (take_all (length (x ∷ xs) - 1) xs (omega arith))

-- ---- guards

pub before_none : (cs : List GuardChain) → guards_before cs NoGuard ≡ guards_of cs
before_none [] = refl
before_none (c ∷ cs) = ap (λ gs. Guarded c.lower c.first c.others c.below c.upper gs) (before_none cs)

abbrev pub with_chain : Guard → Guards → Guards
with_chain g gs = let c = plain_chain g in Guarded c.lower c.first c.others c.below c.upper gs

-- the last chain
before_last : (cs : List Guard) (c : Guard) (gs : Guards) → guards_before (map plain_chain (cs ++ c ∷ [])) gs ≡ guards_before (map plain_chain cs) (with_chain c gs)
before_last [] c gs = refl
before_last (b ∷ cs) c gs = ap (with_chain b) (before_last cs c gs)

pub before_popped : (all cs : List Guard) (c : Guard) (gs whole : Guards) → all ≡ cs ++ c ∷ [] → guards_before (map plain_chain all) gs ≡ whole → guards_before (map plain_chain cs) (with_chain c gs) ≡ whole
before_popped all cs c gs whole is before = sym (ap (λ xs. guards_before (map plain_chain xs) gs) is ∙ before_last cs c gs) ∙ before
