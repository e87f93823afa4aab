-- The indices of globals and literals, noted one after another.
use Rattle.std.proofs.Common.{◌≡◌, ℕ, zero, suc, ◌+◌, Bool, true, false, ◌||◌, if◌then◌else◌, List, [], ◌∷◌, ◌++◌, length, slice_get, Option, Some, None, is_some, nat_eq, nat_lt, refl, sym, ap, ◌∙◌, arith}
use Rattle.std.proofs.lemmas.Bool.Decides.{nat_tests}
use Rattle.c_syntax.specs.Statements.{Declaration}
use Rattle.c_syntax.specs.Programs.{StringLiteral, TranslationUnit}
use Rattle.c_model.specs.Formed.{number_of}
use Rattle.c_model.specs.StaticObjects.{StaticObject, OfGlobal, OfLiteral, static_objects}
use Rattle.c_model.proofs.StaticObjects.{globals_are, globals_of}
use Rattle.mon_syntax.specs.Indices.{found_or, index_from}
use Rattle.mon_syntax.specs.ObjectIndices.{TellGlobals, TellLiterals, TellWhich, global_index, has_global, literal_from, object_of_global, object_of_literal, with_literal, with_object}

-- ---- one object more

module _ (x count : ℕ) (os : List StaticObject)
  where
    index_step : (o : Option ℕ) (b : Bool) → index_from (if b then found_or count o else o) (count + 1) (object_of_global x os) ≡ index_from o count (if b then 0 else suc (object_of_global x os))
    index_step None true = omega arith
    index_step None false = omega arith
    index_step (Some i) true = refl
    index_step (Some i) false = refl

    there_step : (o : Option ℕ) (b : Bool) → (is_some (if b then found_or count o else o) || has_global x os) ≡ (is_some o || (b || has_global x os))
    there_step None true = refl
    there_step None false = refl
    there_step (Some i) true = refl
    there_step (Some i) false = refl

pub globals_step : (found more : ℕ → Option ℕ) (count next : ℕ) (o : StaticObject) (os left all : List StaticObject) → o ∷ os ≡ left → ((x : ℕ) → more x ≡ with_object found o count x) → next ≡ count + 1 → TellGlobals found count left all
    → TellGlobals more next os all
globals_step found more count next o os left all is noted one tell = λ x.
    (λ i. index_from (noted x i) (one i) (object_of_global x os)) ∙ by o x ∙ ap (λ l. index_from (found x) count (object_of_global x l)) is ∙ tell x
  where
    by : (o : StaticObject) (x : ℕ) → index_from (with_object found o count x) (count + 1) (object_of_global x os) ≡ index_from (found x) count (object_of_global x (o ∷ os))
    by (OfGlobal d) x = index_step x count os (found x) (nat_eq (number_of d) x)
    by (OfLiteral l) x = index_step x count os (found x) false

pub which_step : (found more : ℕ → Option ℕ) (count : ℕ) (o : StaticObject) (os left all : List StaticObject) → o ∷ os ≡ left → ((x : ℕ) → more x ≡ with_object found o count x) → TellWhich found left all → TellWhich more os all
which_step found more count o os left all is noted tell = λ x.
    ap (λ n. is_some n || has_global x os) (noted x) ∙ by o x ∙ ap (λ l. is_some (found x) || has_global x l) is ∙ tell x
  where
    by : (o : StaticObject) (x : ℕ) → (is_some (with_object found o count x) || has_global x os) ≡ (is_some (found x) || has_global x (o ∷ os))
    by (OfGlobal d) x = there_step x count os (found x) (nat_eq (number_of d) x)
    by (OfLiteral l) x = there_step x count os (found x) false

global_behind : (indices : List ℕ) (count n : ℕ) (d : Declaration) (os : List StaticObject) → literal_from indices (count + 1) n os ≡ literal_from indices count n (OfGlobal d ∷ os)
global_behind [] count n d os = omega arith
global_behind (i ∷ is) count zero d os = refl
global_behind (i ∷ is) count (suc n) d os = global_behind is count n d os

literal_behind : (indices : List ℕ) (count n : ℕ) (l : StringLiteral) (os : List StaticObject) → literal_from (indices ++ count ∷ []) (count + 1) n os ≡ literal_from indices count n (OfLiteral l ∷ os)
literal_behind [] count zero l os = omega arith
literal_behind [] count (suc n) l os = omega arith
literal_behind (i ∷ is) count zero l os = refl
literal_behind (i ∷ is) count (suc n) l os = literal_behind is count n l os

pub literals_step : (indices more : List ℕ) (count next : ℕ) (o : StaticObject) (os left all : List StaticObject) → o ∷ os ≡ left → more ≡ with_literal indices o count → next ≡ count + 1 → TellLiterals indices count left all
    → TellLiterals more next os all
literals_step indices more count next o os left all is noted one tell = λ n.
    (λ i. literal_from (noted i) (one i) n os) ∙ by o n ∙ ap (literal_from indices count n) is ∙ tell n
  where
    by : (o : StaticObject) (n : ℕ) → literal_from (with_literal indices o count) (count + 1) n os ≡ literal_from indices count n (o ∷ os)
    by (OfGlobal d) n = global_behind indices count n d os
    by (OfLiteral l) n = literal_behind indices count n l os

-- ---- before the first one

pub globals_begin : (found : ℕ → Option ℕ) (left all : List StaticObject) → ((x : ℕ) → found x ≡ None) → left ≡ all → TellGlobals found 0 left all
globals_begin found left all none is = λ x.
    let zero_more : 0 + object_of_global x left ≡ object_of_global x left = omega arith in
    ap (λ o. index_from o 0 (object_of_global x left)) (none x) ∙ zero_more ∙ ap (object_of_global x) is

pub which_begin : (found : ℕ → Option ℕ) (left all : List StaticObject) → ((x : ℕ) → found x ≡ None) → left ≡ all → TellWhich found left all
which_begin found left all none is = λ x. ap (λ o. is_some o || has_global x left) (none x) ∙ ap (has_global x) is

pub literals_begin : (indices : List ℕ) (left all : List StaticObject) → indices ≡ [] → left ≡ all → TellLiterals indices 0 left all
literals_begin indices left all none is = λ n.
    let zero_more : 0 + object_of_literal n left ≡ object_of_literal n left = omega arith in
    ap (λ is. literal_from is 0 n left) none ∙ zero_more ∙ ap (object_of_literal n) is

-- ---- what they tell

pub told_literal : (indices : List ℕ) (count n i : ℕ) (all : List StaticObject) → TellLiterals indices count [] all → slice_get indices n ≡ Some i → i ≡ object_of_literal n all
told_literal indices count n i all tell at = by indices n at ∙ tell n
  where
    by : (is : List ℕ) (n : ℕ) → slice_get is n ≡ Some i → i ≡ literal_from is count n []
    by [] n e = absurd cc
    by (j ∷ is) zero e = let same : j ≡ i = cc in sym same
    by (j ∷ is) (suc n) e = by is n e

pub told_past : (indices : List ℕ) (count n : ℕ) (all : List StaticObject) → TellLiterals indices count [] all → slice_get indices n ≡ None → count ≡ object_of_literal n all
told_past indices count n all tell past = by indices n past ∙ tell n
  where
    by : (is : List ℕ) (n : ℕ) → slice_get is n ≡ None → count ≡ literal_from is count n []
    by [] n e = omega arith
    by (j ∷ is) zero e = absurd cc
    by (j ∷ is) (suc n) e = by is n e

less_suc : (m n : ℕ) → nat_lt m n ≡ nat_lt (suc m) (suc n)
less_suc m n = by (nat_lt (suc m) (suc n)) refl
  where
    by : (b : Bool) → nat_lt (suc m) (suc n) ≡ b → nat_lt m n ≡ b
    by true e = grind (arith, nat_tests, e)
    by false e = grind (arith, nat_tests, e)

among_globals : (x : ℕ) (os : List StaticObject) → has_global x os ≡ nat_lt (global_index x (globals_of os)) (length (globals_of os))
among_globals x [] = refl
among_globals x (OfLiteral l ∷ os) = among_globals x os
among_globals x (OfGlobal d ∷ os) = by (nat_eq (number_of d) x) (among_globals x os)
  where
    by : (b : Bool) → has_global x os ≡ nat_lt (global_index x (globals_of os)) (length (globals_of os))
        → (b || has_global x os) ≡ nat_lt (if b then 0 else suc (global_index x (globals_of os))) (suc (length (globals_of os)))
    by true e = grind (arith, nat_tests)
    by false e = e ∙ less_suc (global_index x (globals_of os)) (length (globals_of os))

pub told_which : (p : TranslationUnit) (found : ℕ → Option ℕ) (x : ℕ) → TellWhich found [] (static_objects p) → is_some (found x) ≡ nat_lt (global_index x p.globals) (length p.globals)
told_which p found x tell = by (is_some (found x)) ∙ tell x ∙ among_globals x (static_objects p) ∙ ap (λ ds. nat_lt (global_index x ds) (length ds)) (globals_are p)
  where
    by : (b : Bool) → b ≡ (b || false)
    by true = refl
    by false = refl
