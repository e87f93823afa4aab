-- The indices of a program's definitions, noted one after another.
use Rattle.std.proofs.Common.{◌≡◌, ℕ, suc, ◌+◌, ◌<◌, ◌≤◌, Bool, true, false, if◌then◌else◌, List, [], ◌∷◌, length, length-drop, drop, get_or, Option, Some, None, is_some, option_map, nat_eq, refl, ap, ◌∙◌, sym, arith}
use Rattle.std.proofs.Math.Seq.{drop-cons}
use Rattle.std.proofs.lemmas.List.{nil_from_length}
use Rattle.c_syntax.specs.declared.statement.Stmt.{Stmt}
use Rattle.c_syntax.specs.Programs.{Function}
use Rattle.c_syntax.specs.Statements.{plain_stmt}
use Rattle.c_model.specs.Library.{is_there}
use Rattle.c_model.specs.Meaning.{is_definition}
use Rattle.mon_syntax.specs.Indices.{index_of}
use Rattle.mon_syntax.specs.Indices.{index_from, found_or, with_index}

pub defined : (body : Option Stmt) → is_there (option_map plain_stmt body) ≡ is_some body
defined None = refl
defined (Some s) = refl

module _ (n count : ℕ) (f : Function) (rest : List Function) where
  abbrev at : Bool → ℕ
  at b = if b then (if nat_eq f.place.offset n then 0 else suc (index_of n rest)) else index_of n rest

  -- a definition is noted
  pub noted : (found new : ℕ → Option ℕ) → is_definition f ≡ true → new n ≡ with_index found f.place.offset count n → index_from (new n) (count + 1) (index_of n rest) ≡ index_from (found n) count (index_of n (f ∷ rest))
  noted found new one is =
      ap (λ o. index_from o (count + 1) (index_of n rest)) is ∙ by (found n) (nat_eq f.place.offset n) ∙ ap (λ b. index_from (found n) count (at b)) (sym one)
    where
      by : (o : Option ℕ) (b : Bool) → index_from (if b then found_or count o else o) (count + 1) (index_of n rest) ≡ index_from o count (if b then 0 else suc (index_of n rest))
      by None true = omega arith
      by None false = omega arith
      by (Some i) true = refl
      by (Some i) false = refl

  -- a prototype is passed over
  pub passed : (o : Option ℕ) → is_definition f ≡ false → index_from o count (index_of n rest) ≡ index_from o count (index_of n (f ∷ rest))
  passed o none = ap (λ b. index_from o count (at b)) (sym none)

-- what is left of a list begins with the item at the index
pub left_at : {A B : Type 0} (f : List A → B) (l : List A) (i : ℕ) (x y : A) → i < length l → x ≡ get_or l i x → x ≡ y → f (drop i l) ≡ f (y ∷ drop (i + 1) l)
left_at f l i x y lt e same =
    let next : suc i ≡ i + 1 = omega arith in
    ap f (drop-cons l i x lt) ∙ ap (λ z. f (z ∷ drop (suc i) l)) (sym e ∙ same) ∙ ap (λ j. f (y ∷ drop j l)) next

-- and nothing is left behind its end
pub none_left : {A B : Type 0} (f : List A → B) (l : List A) (i : ℕ) → length l ≤ i → f (drop i l) ≡ f []
none_left f l i le = ap f (nil_from_length (drop i l) (omega (arith, length-drop i l)))
