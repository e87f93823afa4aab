-- What is called in a typed file is defined in it, wherever the definition stands.
use Rattle.std.proofs.Common.{◌≡◌, ℕ, suc, ◌≤◌, ℤ, pos, ◌+ℤ◌, List, [], ◌∷◌, ◌++◌, map, refl, sym, ap, ◌∙◌, subst, arith, append_assoc}
use Rattle.std.proofs.lemmas.List.{map-append}
use Rattle.c_syntax.specs.Statements.{Declaration}
use Rattle.c_syntax.specs.Programs.{EnumConstant, Function, TranslationUnit}
use Rattle.c_model.specs.ExpressionTyping.{Sight, inner}
use Rattle.c_model.specs.DeclarationTyping.{with_enumerator}
use Rattle.c_model.specs.UnitTyping.{FileItem, StructHead, Member, AnEnum, ATypedef, AGlobal, AFunction, items_of_file, sight_with, signature, types_of, with_function, with_parameter, value_typed, with_enumerators, behind_item}
use Rattle.c_model.specs.TypedTrees.{AreParameters}
use Rattle.c_model.specs.TypedPrograms.{ItemsTyped, ProgramTyped}
use Rattle.c_model.specs.TextOrder.{Between, numbers_of_item, numbers_of_items, functions_among}
use Rattle.c_model.specs.FileItems.{AreScalar, AreDefined, FileResolved}
use Rattle.c_model.proofs.CompatibleFunctions.{AreCompatible}
use Rattle.c_model.proofs.SignaturesInSight.{offsets_of, HaveScalars, in_sight}

-- ---- numbers of functions

between_less : (low less : ℕ) (ns : List ℕ) (high : ℕ) → less ≤ low → Between low ns high → Between less ns high
between_less low less [] high l h = omega (arith, l, h)
between_less low less (n ∷ ns) high l h = let m = h.0 in (omega (arith, l, m), h.1)

-- behind numbers that are less
record IsBehind (low : ℕ) (ns : List ℕ) (high : ℕ) : Type 0 where
  low2 : ℕ
  le : low ≤ low2
  is : Between low2 ns high

behind : (low : ℕ) (ms ns : List ℕ) (high : ℕ) → Between low (ms ++ ns) high → IsBehind low ns high
behind low [] ns high h = record { low2 = low; le = omega arith; is = h }
behind low (m ∷ ms) ns high h =
    let i = behind (suc m) ms ns high h.1 in
    let a = h.0 in
    let b = i.le in
    record { low2 = i.low2; le = omega (arith, a, b); is = i.is }

pub offsets_between : (low : ℕ) (is : List FileItem) (high : ℕ) → Between low (numbers_of_items is) high → Between low (offsets_of (functions_among is)) high
offsets_between low [] high h = h
offsets_between low (AFunction f ∷ is) high h =
    let b = behind (suc f.place.offset) _ (numbers_of_items is) high h.1 in
    (h.0, between_less b.low2 (suc f.place.offset) (offsets_of (functions_among is)) high b.le (offsets_between b.low2 is high b.is))
offsets_between low (StructHead k s ∷ is) high h = let b = behind low (numbers_of_item (StructHead k s)) (numbers_of_items is) high h in between_less b.low2 low (offsets_of (functions_among is)) high b.le (offsets_between b.low2 is high b.is)
offsets_between low (Member k m ends ∷ is) high h = let b = behind low (numbers_of_item (Member k m ends)) (numbers_of_items is) high h in between_less b.low2 low (offsets_of (functions_among is)) high b.le (offsets_between b.low2 is high b.is)
offsets_between low (AnEnum e ∷ is) high h = let b = behind low (numbers_of_item (AnEnum e)) (numbers_of_items is) high h in between_less b.low2 low (offsets_of (functions_among is)) high b.le (offsets_between b.low2 is high b.is)
offsets_between low (ATypedef d ∷ is) high h = let b = behind low (numbers_of_item (ATypedef d)) (numbers_of_items is) high h in between_less b.low2 low (offsets_of (functions_among is)) high b.le (offsets_between b.low2 is high b.is)
offsets_between low (AGlobal d ∷ is) high h = let b = behind low (numbers_of_item (AGlobal d)) (numbers_of_items is) high h in between_less b.low2 low (offsets_of (functions_among is)) high b.le (offsets_between b.low2 is high b.is)

-- ---- parameters

parameters_scalar : (s : Sight) (ds : List Declaration) → AreParameters s ds → AreScalar (types_of ds)
parameters_scalar s [] h = tt
parameters_scalar s (d ∷ ds) h = (h.0.scalar, parameters_scalar (with_parameter s d) ds h.1)

have_scalars : (p : TranslationUnit) (s : Sight) (is : List FileItem) → ItemsTyped p s is → HaveScalars (functions_among is)
have_scalars p s [] h = tt
have_scalars p s (AFunction f ∷ is) h = (parameters_scalar (inner (with_function p s f)) f.params h.0.params, have_scalars p (behind_item p s (AFunction f)) is h.1)
have_scalars p s (StructHead k x ∷ is) h = have_scalars p s is h.1
have_scalars p s (Member k m ends ∷ is) h = have_scalars p s is h.1
have_scalars p s (AnEnum e ∷ is) h = have_scalars p (behind_item p s (AnEnum e)) is h.1
have_scalars p s (ATypedef d ∷ is) h = have_scalars p (behind_item p s (ATypedef d)) is h.1
have_scalars p s (AGlobal d ∷ is) h = have_scalars p (behind_item p s (AGlobal d)) is h.1

-- ---- what is in sight at each item

enumerators_functions : (s : Sight) (next : ℤ) (es : List EnumConstant) → (with_enumerators s next es).functions ≡ s.functions
enumerators_functions s next [] = refl
enumerators_functions s next (e ∷ es) = enumerators_functions (with_enumerator s e.name (value_typed s next e.value)) (value_typed s next e.value +ℤ pos 1) es

module _ (p : TranslationUnit) (known : (hs more : List Function) → hs ++ more ≡ p.funcs → AreDefined p (map (signature p.funcs) hs)) where
  one_behind : (before : List Function) (f : Function) (s : Sight) → s.functions ≡ map (signature p.funcs) before → (with_function p s f).functions ≡ map (signature p.funcs) (before ++ f ∷ [])
  one_behind before f s e = ap (λ l. l ++ signature p.funcs f ∷ []) e ∙ sym (map-append (signature p.funcs) before (f ∷ []))

  items_resolved : (s : Sight) (is : List FileItem) (before : List Function) → s.functions ≡ map (signature p.funcs) before → before ++ functions_among is ≡ p.funcs → FileResolved p s is
  items_resolved s [] before e w = tt
  items_resolved s (AFunction f ∷ is) before e w =
      let seen = one_behind before f s e in
      let whole : (before ++ f ∷ []) ++ functions_among is ≡ p.funcs = append_assoc before (f ∷ []) (functions_among is) ∙ w in
      (subst (AreDefined p) (sym seen) (known (before ++ f ∷ []) (functions_among is) whole), items_resolved (behind_item p s (AFunction f)) is (before ++ f ∷ []) seen whole)
  items_resolved s (StructHead k x ∷ is) before e w = (tt, items_resolved s is before e w)
  items_resolved s (Member k m ends ∷ is) before e w = (tt, items_resolved s is before e w)
  items_resolved s (AnEnum x ∷ is) before e w = (tt, items_resolved (behind_item p s (AnEnum x)) is before (enumerators_functions s (pos 0) x.items ∙ e) w)
  items_resolved s (ATypedef d ∷ is) before e w = (tt, items_resolved (behind_item p s (ATypedef d)) is before e w)
  items_resolved s (AGlobal d ∷ is) before e w = (subst (AreDefined p) (sym e) (known before (functions_among is) w), items_resolved (behind_item p s (AGlobal d)) is before e w)

-- what is called in a typed program whose functions fit one another and stand in the order of the text
pub file_resolved : (p : TranslationUnit) → ProgramTyped p → AreCompatible [] p.funcs → Between 0 (numbers_of_items (items_of_file p)) 4294967295 → functions_among (items_of_file p) ≡ p.funcs
    → FileResolved p (sight_with p p.structs) (items_of_file p)
file_resolved p t c b w =
    let numbers : Between 0 (offsets_of p.funcs) 4294967295 = subst (λ l. Between 0 (offsets_of l) 4294967295) w (offsets_between 0 (items_of_file p) 4294967295 b) in
    let scalars : HaveScalars p.funcs = subst HaveScalars w (have_scalars p (sight_with p p.structs) (items_of_file p) t.items) in
    items_resolved p (in_sight p c numbers scalars) (sight_with p p.structs) (items_of_file p) [] refl w
