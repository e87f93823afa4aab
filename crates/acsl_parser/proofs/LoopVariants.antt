-- Whether a clause of a loop is a variant, whether there is one among clauses, and whether one stands after another.
use Rattle.std.proofs.Common.{◌≡◌, ℕ, ◌-◌, ◌≤◌, true, false, ◌||◌, List, ◌∷◌, [], length, map, take, drop, get_or, Some, None, refl, sym, ap, ◌∙◌, arith}
use Rattle.std.proofs.Math.Seq.{take-length}
use Rattle.c_syntax.specs.declared.place.Place.{Place}
use Rattle.c_syntax.specs.declared.annotation.Kind.{Kind}
use Rattle.c_syntax.specs.declared.annotation.Kind.TheVariants as kind
use Rattle.c_syntax.specs.declared.logic.Annot.{Annot}
use Rattle.c_syntax.specs.Logic.{ClauseBody, Annotation, plain_annot}
use Rattle.c_model.specs.ClauseGrammar.{LoopClauses, clause_with, is_variant, has_variant, again_with}

pub no_variant : (n : ℕ) (k : Kind) (at : Place) (b : ClauseBody) → (k ≡ kind.Variant → ⊥) → false ≡ is_variant (clause_with n k at b)
no_variant n kind.Variant at b other = absurd (other refl)
no_variant n kind.Assert at b other = refl
no_variant n kind.Requires at b other = refl
no_variant n kind.Assumes at b other = refl
no_variant n kind.Ensures at b other = refl
no_variant n kind.Complete at b other = refl
no_variant n kind.Disjoint at b other = refl
no_variant n kind.Invariant at b other = refl
no_variant n kind.Rte at b other = refl

-- the clauses after the first
abbrev others : List Annot → List Annot
others l = take (length l - 1) (drop 1 l)

others_is : (a : Annot) (rest : List Annot) → others (a ∷ rest) ≡ rest
others_is a rest =
    let count : length (a ∷ rest) - 1 ≡ length rest = omega arith in
    ap (λ n. take n rest) count ∙ take-length rest

-- where the first is no variant, there is one if there is one after it
pub variant_later :
    (l : List Annot) (first : Annot) → 1 ≤ length l → first ≡ get_or l 0 first → is_variant (plain_annot first) ≡ false
    → has_variant (map plain_annot (others l)) ≡ has_variant (map plain_annot l)
variant_later [] first some same none = absurd (omega (arith, some))
variant_later (x ∷ l) first some same none =
    let here = ap (λ a. is_variant (plain_annot a)) (sym same) ∙ none in
    ap (λ rest. has_variant (map plain_annot rest)) (others_is x l) ∙ sym (ap (λ b. b || has_variant (map plain_annot l)) here)

-- a second variant is the first one that is again one
pub again_here : (l : LoopClauses) (a : Annotation) → l.again ≡ None → is_variant a ≡ true → has_variant l.clauses ≡ true → Some a.place ≡ again_with l a
again_here l a none here there = rw none (rw here (rw there refl))

pub not_again : (l : LoopClauses) (a : Annotation) → l.again ≡ None → is_variant a ≡ false → None ≡ again_with l a
not_again l a none here = rw none (rw here refl)

pub first_one : (l : LoopClauses) (a : Annotation) → l.again ≡ None → is_variant a ≡ true → has_variant l.clauses ≡ false → None ≡ again_with l a
first_one l a none here there = rw none (rw here (rw there refl))
