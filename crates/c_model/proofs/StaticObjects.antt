-- Globals and literals in text order are all of them, each in its own order.
use Rattle.std.proofs.Common.{◌≡◌, List, [], ◌∷◌, map, Bool, true, false, nat_lt, refl, ap}
use Rattle.c_syntax.specs.Statements.{Declaration}
use Rattle.c_syntax.specs.Programs.{StringLiteral, TranslationUnit}
use Rattle.c_model.specs.StaticObjects.{StaticObject, OfGlobal, OfLiteral, with_global, in_text_order, static_objects}

abbrev pub globals_of : List StaticObject → List Declaration
globals_of [] = []
globals_of (OfGlobal d ∷ os) = d ∷ globals_of os
globals_of (OfLiteral l ∷ os) = globals_of os

abbrev pub literals_of : List StaticObject → List StringLiteral
literals_of [] = []
literals_of (OfGlobal d ∷ os) = literals_of os
literals_of (OfLiteral l ∷ os) = l ∷ literals_of os

-- what holds of none, and with one more of either, holds of all in text order
module _ (P : List Declaration → List StringLiteral → List StaticObject → Type 0)
    (none : P [] [] [])
    (one_literal : (l : StringLiteral) (ds : List Declaration) (ls : List StringLiteral) (os : List StaticObject) → P ds ls os → P ds (l ∷ ls) (OfLiteral l ∷ os))
    (one_global : (d : Declaration) (ds : List Declaration) (ls : List StringLiteral) (os : List StaticObject) → P ds ls os → P (d ∷ ds) ls (OfGlobal d ∷ os)) where
  only_literals : (ls : List StringLiteral) → P [] ls (map OfLiteral ls)
  only_literals [] = none
  only_literals (l ∷ ls) = one_literal l [] ls (map OfLiteral ls) (only_literals ls)

  behind_literals : (d : Declaration) (ds : List Declaration) (rest : List StringLiteral → List StaticObject) → ((ls : List StringLiteral) → P ds ls (rest ls))
      → (ls : List StringLiteral) → P (d ∷ ds) ls (with_global d rest ls)
  behind_literals d ds rest h [] = one_global d ds [] (rest []) (h [])
  behind_literals d ds rest h (l ∷ ls) = by (behind_literals d ds rest h ls) (nat_lt l.place.offset d.place.offset)
    where
      by : P (d ∷ ds) ls (with_global d rest ls) → (b : Bool) → P (d ∷ ds) (l ∷ ls) (elim b [ true ↦ OfLiteral l ∷ with_global d rest ls | false ↦ OfGlobal d ∷ rest (l ∷ ls) ])
      by next true = one_literal l (d ∷ ds) ls (with_global d rest ls) next
      by next false = one_global d ds (l ∷ ls) (rest (l ∷ ls)) (h (l ∷ ls))

  pub all_in_order : (ds : List Declaration) (ls : List StringLiteral) → P ds ls (in_text_order ds ls)
  all_in_order [] ls = only_literals ls
  all_in_order (d ∷ ds) ls = behind_literals d ds (in_text_order ds) (all_in_order ds) ls

pub ordered_globals : (ds : List Declaration) (ls : List StringLiteral) → globals_of (in_text_order ds ls) ≡ ds
ordered_globals = all_in_order (λ ds ls os. globals_of os ≡ ds) refl (λ l ds ls os h. h) (λ d ds ls os h. ap (λ ds. d ∷ ds) h)

pub ordered_literals : (ds : List Declaration) (ls : List StringLiteral) → literals_of (in_text_order ds ls) ≡ ls
ordered_literals = all_in_order (λ ds ls os. literals_of os ≡ ls) refl (λ l ds ls os h. ap (λ ls. l ∷ ls) h) (λ d ds ls os h. h)

pub globals_are : (p : TranslationUnit) → globals_of (static_objects p) ≡ p.globals
globals_are p = ordered_globals p.globals p.texts

pub literals_are : (p : TranslationUnit) → literals_of (static_objects p) ≡ p.texts
literals_are p = ordered_literals p.globals p.texts
