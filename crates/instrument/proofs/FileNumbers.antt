-- The numbers of a file's declarations lie in the order of its items: those of a function between its own and the next item's, and those of
-- globals outside of these.
use Rattle.std.proofs.Common.{◌≡◌, ℕ, suc, ◌≤◌, ◌<◌, false, nat_eq, List, [], ◌∷◌, ◌++◌, inl, inr, subst, append_assoc, ◌∙◌, arith}
use Rattle.std.proofs.lemmas.Bool.Decides.{nat_tests}
use Rattle.c_syntax.specs.Statements.{Declaration}
use Rattle.c_syntax.specs.Programs.{Function, TranslationUnit}
use Rattle.c_model.specs.Formed.{number_of, numbers_of, declared_in_body}
use Rattle.c_model.specs.UnitTyping.{FileItem, AGlobal, AFunction, items_of_file}
use Rattle.c_model.specs.TextOrder.{Between, numbers_of_item, numbers_of_items}
use Rattle.instrument.proofs.Own.{AreOwn}
use Rattle.instrument.proofs.Numbers.{numbers_in, parted, in_bounds, IsOutside, Under, Over, AllOutside}
use Rattle.c_model.proofs.NeverStuckItems.{IsAmong, global_in_file, function_in_file}

-- ---- a global among items

-- its number lies between the bounds
pub record IsWithin (low high n : ℕ) : Type 0 where
  pub above : low ≤ n
  pub below : n < high

global_within : (low high : ℕ) (is : List FileItem) (d : Declaration) → Between low (numbers_of_items is) high → IsAmong (AGlobal d) is → IsWithin low high (number_of d)
global_within low high [] d b h = absurd h
global_within low high (j ∷ js) d b (inl same) =
    let parts = parted low high (numbers_of_item j) (numbers_of_items js) b in
    let own : Between low (number_of d ∷ []) parts.middle = subst (λ i. Between low (numbers_of_item i) parts.middle) same parts.front in
    let rest = in_bounds parts.middle high (numbers_of_items js) parts.back in
    record { above = own.0; below = omega (arith, own.1, rest) }
global_within low high (j ∷ js) d b (inr h) =
    let parts = parted low high (numbers_of_item j) (numbers_of_items js) b in
    let first = in_bounds low parts.middle (numbers_of_item j) parts.front in
    let rest = global_within parts.middle high js d parts.back h in
    record { above = omega (arith, first, rest.above); below = rest.below }

-- ---- a function among items

-- the numbers of what a function declares lie between its own and a bound, and those of globals outside
pub record IsNumbered (is : List FileItem) (low last : ℕ) (f : Function) : Type 0 where
  pub high : ℕ
  pub behind : low ≤ f.place.offset
  pub between : Between (suc f.place.offset) (numbers_in (f.params ++ declared_in_body f.body)) high
  pub below : high ≤ last
  pub apart : (d : Declaration) → IsAmong (AGlobal d) is → IsOutside (suc f.place.offset) high (number_of d)

other_item : (f : Function) (d : Declaration) → AFunction f ≡ AGlobal d → ⊥
other_item f d e = absurd cc

function_numbered : (low last : ℕ) (is : List FileItem) (f : Function) → Between low (numbers_of_items is) last → IsAmong (AFunction f) is → IsNumbered is low last f
function_numbered low last [] f b h = absurd h
function_numbered low last (j ∷ js) f b (inl same) =
    let parts = parted low last (numbers_of_item j) (numbers_of_items js) b in
    let own : Between low (numbers_of f) parts.middle = subst (λ i. Between low (numbers_of_item i) parts.middle) same parts.front in
    record { high = parts.middle; behind = own.0; between = own.1; below = in_bounds parts.middle last (numbers_of_items js) parts.back; apart = λ d k. apart parts.middle parts.back d k }
  where
    apart : (middle : ℕ) → Between middle (numbers_of_items js) last → (d : Declaration) → IsAmong (AGlobal d) (j ∷ js) → IsOutside (suc f.place.offset) middle (number_of d)
    apart middle back d (inl here) = absurd (other_item f d (subst (λ i. i ≡ AGlobal d) same here))
    apart middle back d (inr there) = Over (global_within middle last js d back there).above
function_numbered low last (j ∷ js) f b (inr h) =
    let parts = parted low last (numbers_of_item j) (numbers_of_items js) b in
    let first = in_bounds low parts.middle (numbers_of_item j) parts.front in
    let rest = function_numbered parts.middle last js f parts.back h in
    record { high = rest.high; behind = omega (arith, first, rest.behind); between = rest.between; below = rest.below; apart = λ d k. apart parts.middle parts.front rest d k }
  where
    apart : (middle : ℕ) → Between low (numbers_of_item j) middle → (rest : IsNumbered js middle last f) → (d : Declaration) → IsAmong (AGlobal d) (j ∷ js) → IsOutside (suc f.place.offset) rest.high (number_of d)
    apart middle front rest d (inl here) =
        let own : Between low (number_of d ∷ []) middle = subst (λ i. Between low (numbers_of_item i) middle) here front in
        let behind = rest.behind in
        Under (omega (arith, own.1, behind))
    apart middle front rest d (inr there) = rest.apart d there

-- ---- of a file

module _ (p : TranslationUnit) (numbered : Between 0 (numbers_of_items (items_of_file p)) 4294967295) where
  pub function_is_numbered : (front fs : List Function) (f : Function) → front ++ f ∷ fs ≡ p.funcs → IsNumbered (items_of_file p) 0 4294967295 f
  function_is_numbered front fs f is = function_numbered 0 4294967295 (items_of_file p) f numbered (function_in_file p front fs f is)

  pub globals_apart : (f : Function) (n : IsNumbered (items_of_file p) 0 4294967295 f) (front ds : List Declaration) → front ++ ds ≡ p.globals → AllOutside (suc f.place.offset) n.high (numbers_in ds)
  globals_apart f n front [] is = tt
  globals_apart f n front (d ∷ ds) is = (n.apart d (global_in_file p front ds d is), globals_apart f n (front ++ d ∷ []) ds (append_assoc front (d ∷ []) ds ∙ is))

  -- no global is the library's
  pub globals_own : (front ds : List Declaration) → front ++ ds ≡ p.globals → AreOwn ds
  globals_own front [] is = tt
  globals_own front (d ∷ ds) is =
      let h = global_within 0 4294967295 (items_of_file p) d numbered (global_in_file p front ds d is) in
      (differs (number_of d) h.below, globals_own (front ++ d ∷ []) ds (append_assoc front (d ∷ []) ds ∙ is))
    where
      differs : (n : ℕ) → n < 4294967295 → nat_eq n 4294967295 ≡ false
      differs n lt = grind (arith, nat_tests)
