-- Where globals and literals are among all objects in the order of the text.
use Rattle.std.proofs.Common.{◌≡◌, ℕ, zero, suc, ◌+◌, ◌<◌, Bool, true, false, cond, if◌then◌else◌, nat_eq, List, [], ◌∷◌, length, Some, slice_get, refl, sym, ap, ◌∙◌, subst, arith}
use Rattle.std.proofs.lemmas.Bool.{eqb-true}
use Rattle.c_syntax.specs.Programs.{StringLiteral, TranslationUnit}
use Rattle.c_model.specs.Formed.{number_of}
use Rattle.c_model.specs.State.{find}
use Rattle.c_model.specs.StaticObjects.{StaticObject, OfGlobal, OfLiteral, static_objects, scope_from, literals_from}
use Rattle.c_model.specs.Meaning.{global_scope}
use Rattle.c_model.proofs.StaticObjects.{globals_of, literals_of, globals_are, literals_are}
use Rattle.c_effects.specs.Expressions.{global_index, object_of_global, object_of_literal}
use Rattle.instrument.proofs.Births.{names_of}
use Rattle.instrument.proofs.Numbers.{numbers_in}
use Rattle.instrument.proofs.Own.{AreOwn}

-- ---- globals

object_is_inside : (x : ℕ) (os : List StaticObject) → global_index x (globals_of os) < length (globals_of os) → object_of_global x os < length os
object_is_inside x [] lt = absurd (omega (arith, lt))
object_is_inside x (OfLiteral l ∷ os) lt =
    let there : object_of_global x (OfLiteral l ∷ os) ≡ suc (object_of_global x os) = refl in
    let rest = object_is_inside x os lt in
    omega (arith, there, rest)
object_is_inside x (OfGlobal d ∷ os) lt = by (object_is_inside x os) (nat_eq (number_of d) x) refl lt
  where
    by : (global_index x (globals_of os) < length (globals_of os) → object_of_global x os < length os) → (t : Bool) → nat_eq (number_of d) x ≡ t
        → (if t then 0 else suc (global_index x (globals_of os))) < suc (length (globals_of os)) → object_of_global x (OfGlobal d ∷ os) < suc (length os)
    by rest true same lt = let here : object_of_global x (OfGlobal d ∷ os) ≡ 0 = ap (λ t. if t then 0 else suc (object_of_global x os)) same in omega (arith, here)
    by rest false other lt =
        let there : object_of_global x (OfGlobal d ∷ os) ≡ suc (object_of_global x os) = ap (λ t. if t then 0 else suc (object_of_global x os)) other in
        let r = rest (omega (arith, lt)) in
        omega (arith, there, r)

pub global_inside : (p : TranslationUnit) (x : ℕ) → global_index x p.globals < length p.globals → object_of_global x (static_objects p) < length (static_objects p)
global_inside p x lt = object_is_inside x (static_objects p) (subst (λ ds. global_index x ds < length ds) (sym (globals_are p)) lt)

-- what is found among the globals
pub record IsFound (x k : ℕ) (os : List StaticObject) (number : ℕ) : Type 0 where
  pub own : nat_eq x 4294967295 ≡ false
  pub index : number ≡ k + object_of_global x os
  pub below : global_index x (globals_of os) < length (globals_of os)

found_among : (x k : ℕ) (os : List StaticObject) (number : ℕ) → AreOwn (globals_of os) → find x (scope_from k os) ≡ Some number → IsFound x k os number
found_among x k [] number own e = absurd cc
found_among x k (OfLiteral l ∷ os) number own e =
    let r = found_among x (suc k) os number own e in
    let there : object_of_global x (OfLiteral l ∷ os) ≡ suc (object_of_global x os) = refl in
    record { own = r.own; index = omega (arith, r.index, there); below = r.below }
found_among x k (OfGlobal d ∷ os) number own e = by (λ f. found_among x (suc k) os number own.1 f) (nat_eq (number_of d) x) refl e
  where
    by : (find x (scope_from (suc k) os) ≡ Some number → IsFound x (suc k) os number) → (t : Bool) → nat_eq (number_of d) x ≡ t → cond t (Some k) (find x (scope_from (suc k) os)) ≡ Some number → IsFound x k (OfGlobal d ∷ os) number
    by rest true same f =
        let here : object_of_global x (OfGlobal d ∷ os) ≡ 0 = ap (λ t. if t then 0 else suc (object_of_global x os)) same in
        let first : global_index x (globals_of (OfGlobal d ∷ os)) ≡ 0 = ap (λ t. if t then 0 else suc (global_index x (globals_of os))) same in
        let is : k ≡ number = cc in
        record { own = subst (λ y. nat_eq y 4294967295 ≡ false) (eqb-true (number_of d) x same) own.0; index = omega (arith, is, here); below = omega (arith, first) }
    by rest false other f =
        let r = rest f in
        let there : object_of_global x (OfGlobal d ∷ os) ≡ suc (object_of_global x os) = ap (λ t. if t then 0 else suc (object_of_global x os)) other in
        let later : global_index x (globals_of (OfGlobal d ∷ os)) ≡ suc (global_index x (globals_of os)) = ap (λ t. if t then 0 else suc (global_index x (globals_of os))) other in
        record { own = r.own; index = omega (arith, r.index, there); below = omega (arith, r.below, later) }

-- a global in sight, with the number of its block
pub record IsGlobalFound (p : TranslationUnit) (x number : ℕ) : Type 0 where
  pub own : nat_eq x 4294967295 ≡ false
  pub index : number ≡ 1 + object_of_global x (static_objects p)
  pub below : global_index x p.globals < length p.globals

pub global_found : (p : TranslationUnit) (x number : ℕ) → AreOwn p.globals → find x (global_scope p) ≡ Some number → IsGlobalFound p x number
global_found p x number own e =
    let r = found_among x 1 (static_objects p) number (subst AreOwn (sym (globals_are p)) own) e in
    record { own = r.own; index = r.index; below = subst (λ ds. global_index x ds < length ds) (globals_are p) r.below }

-- the names in sight at first are those of the globals
names_among : (k : ℕ) (os : List StaticObject) → names_of (scope_from k os) ≡ numbers_in (globals_of os)
names_among k [] = refl
names_among k (OfGlobal d ∷ os) = ap (λ l. number_of d ∷ l) (names_among (suc k) os)
names_among k (OfLiteral l ∷ os) = names_among (suc k) os

pub names_at_start : (p : TranslationUnit) → names_of (global_scope p) ≡ numbers_in p.globals
names_at_start p = names_among 1 (static_objects p) ∙ ap numbers_in (globals_are p)

-- ---- literals

pub record IsLiteralAt (n k : ℕ) (os : List StaticObject) : Type 0 where
  pub below : object_of_literal n os < length os
  pub number : slice_get (literals_from k os) n ≡ Some (k + object_of_literal n os)

literal_among : (n k : ℕ) (os : List StaticObject) → n < length (literals_of os) → IsLiteralAt n k os
literal_among n k [] lt = absurd (omega (arith, lt))
literal_among n k (OfGlobal d ∷ os) lt =
    let r = literal_among n (suc k) os lt in
    let same : suc k + object_of_literal n os ≡ k + suc (object_of_literal n os) = omega arith in
    record { below = omega (arith, r.below); number = r.number ∙ ap Some same }
literal_among zero k (OfLiteral l ∷ os) lt = let same : k ≡ k + 0 = omega arith in record { below = omega arith; number = ap Some same }
literal_among (suc n) k (OfLiteral l ∷ os) lt =
    let r = literal_among n (suc k) os (omega (arith, lt)) in
    let same : suc k + object_of_literal n os ≡ k + suc (object_of_literal n os) = omega arith in
    record { below = omega (arith, r.below); number = r.number ∙ ap Some same }

pub literal_is : (p : TranslationUnit) (n : ℕ) → n < length p.texts → IsLiteralAt n 1 (static_objects p)
literal_is p n lt = literal_among n 1 (static_objects p) (subst (λ (ls : List StringLiteral). n < length ls) (sym (literals_are p)) lt)
