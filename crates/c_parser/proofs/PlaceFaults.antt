-- Of an annotation that stands where it may not and a quantifier without a guard, the one that stands first is the fault.
use Rattle.std.proofs.Common.{◌≡◌, ◌+◌, ◌*◌, ◌<◌, ◌≤◌, Bool, true, false, cond, Option, Some, None, option_map, refl, arith}
use Rattle.std.proofs.lemmas.Bool.Decides.{nat_tests}
use Rattle.std.specs.Prelude.{nat_lt}
use Rattle.c_syntax.specs.declared.place.Place.{Place}
use Rattle.c_model.specs.Checked.{rank, lesser}
use Rattle.c_syntax.specs.Programs.{TranslationUnit}
use Rattle.c_model.specs.UnguardedPrograms.{unguarded_in_unit}
use Rattle.c_model.specs.Phases.{misplaced_fault, unguarded_fault, first_of, place_fault}

pub quantifier_first : (p q : Place) → q.offset < p.offset → unguarded_fault q ≡ lesser (misplaced_fault p) (unguarded_fault q)
quantifier_first p q h = tested (nat_lt (rank (unguarded_fault q)) (rank (misplaced_fault p))) refl
  where
    tested : (b : Bool) → nat_lt (rank (unguarded_fault q)) (rank (misplaced_fault p)) ≡ b → unguarded_fault q ≡ cond b (unguarded_fault q) (misplaced_fault p)
    tested true e = refl
    tested false e = let l : 16 * p.offset + 7 ≤ 16 * q.offset + 8 = grind (arith, nat_tests, e) in absurd (omega (arith, h, l))

pub annotation_first : (p q : Place) → (q.offset < p.offset → ⊥) → misplaced_fault p ≡ lesser (misplaced_fault p) (unguarded_fault q)
annotation_first p q h = tested (nat_lt (rank (unguarded_fault q)) (rank (misplaced_fault p))) refl
  where
    tested : (b : Bool) → nat_lt (rank (unguarded_fault q)) (rank (misplaced_fault p)) ≡ b → misplaced_fault p ≡ cond b (unguarded_fault q) (misplaced_fault p)
    tested true e = let l : 16 * q.offset + 8 < 16 * p.offset + 7 = grind (arith, nat_tests, e) in absurd (h (omega (arith, l)))
    tested false e = refl

-- where there is no fault, there is none of either kind
pub no_fault : (p : TranslationUnit) (at : Option Place) → place_fault (p, at) ≡ None → (at ≡ None) × (unguarded_in_unit p ≡ None)
no_fault p at e = tested at (unguarded_in_unit p) refl e
  where
    tested : (a q : Option Place) → unguarded_in_unit p ≡ q → first_of (option_map misplaced_fault a) (option_map unguarded_fault q) ≡ None → (a ≡ None) × (unguarded_in_unit p ≡ None)
    tested None None is e = (refl, is)
    tested None (Some q) is e = absurd cc
    tested (Some a) None is e = absurd cc
    tested (Some a) (Some q) is e = absurd cc

pub ruleset place_rules = (quantifier_first, annotation_first)
