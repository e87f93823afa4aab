-- No name is defined twice in a typed file: a definition fits no other one of its name (C99 6.9 p5), whatever is moved to it.
use Rattle.std.proofs.Common.{◌≡◌, ℕ, refl, sym, ap, ◌∙◌, subst, arith, List, [], ◌∷◌, ◌++◌, ◌⊎◌, inl, inr, Bool, true, false, not, ◌&&◌, cond, nat_eq}
use Rattle.std.proofs.lemmas.Bool.Decides.{nat_tests}
use Rattle.c_syntax.specs.Programs.{Function, TranslationUnit}
use Rattle.c_model.specs.Meaning.{is_definition}
use Rattle.c_model.specs.Checked.{Good}
use Rattle.c_model.specs.UnitTyping.{same_signature, is_compatible, is_compatible_with_all, typed_unit}
use Rattle.c_model.proofs.TypedParts.{and_true}
use Rattle.c_model.proofs.CompatibleFunctions.{AreCompatible, unit_compatible}
use Rattle.c_model.proofs.NotedFiles.{HaveOtherBodies, same_name, same_definition}
use Rattle.c_typing.specs.NotedContracts.{defines, IsDefinedOnce}

abbrev IsAmong : Function → List Function → Type 0
IsAmong g [] = ⊥
IsAmong g (b ∷ bs) = (b ≡ g) ⊎ IsAmong g bs

last_among : (bs : List Function) (g : Function) → IsAmong g (bs ++ g ∷ [])
last_among [] g = inl refl
last_among (b ∷ bs) g = inr (last_among bs g)

among_more : (bs : List Function) (f g : Function) → IsAmong g bs → IsAmong g (bs ++ f ∷ [])
among_more [] f g m = absurd m
among_more (b ∷ bs) f g (inl e) = inl e
among_more (b ∷ bs) f g (inr m) = inr (among_more bs f g m)

-- one that fits all fits each
fits_one : (bs : List Function) (f g : Function) → is_compatible_with_all bs f ≡ true → IsAmong g bs → is_compatible g f ≡ true
fits_one [] f g h m = absurd m
fits_one (b ∷ bs) f g h (inl e) = subst (λ b. is_compatible b f ≡ true) e (and_true (is_compatible b f) (is_compatible_with_all bs f) h).0
fits_one (b ∷ bs) f g h (inr m) = fits_one bs f g (and_true (is_compatible b f) (is_compatible_with_all bs f) h).1 m

two_definitions : (g f : Function) → g.name ≡ f.name → is_definition g ≡ true → is_definition f ≡ true → is_compatible g f ≡ true → ⊥
two_definitions g f n y z c =
    let same : nat_eq g.name f.name ≡ true = grind (arith, nat_tests) in
    let parts = and_true (same_signature g f) (not (is_definition g && is_definition f)) (ap (λ t. cond t (same_signature g f && not (is_definition g && is_definition f)) true) (sym same) ∙ c) in
    let both : not (is_definition g && is_definition f) ≡ false = ap (λ t. not (t && is_definition f)) y ∙ ap not z in
    let never : true ≡ false = sym parts.1 ∙ both in
    absurd cc

none_behind : (g : Function) (bs fs : List Function) → IsAmong g bs → is_definition g ≡ true → AreCompatible bs fs → defines g.name fs ≡ false
none_behind g bs [] m d h = refl
none_behind g bs (f ∷ fs) m d h = by (is_definition f) (nat_eq f.name g.name) refl refl (none_behind g (bs ++ f ∷ []) fs (among_more bs f g m) d h.1)
  where
    by : (a b : Bool) → is_definition f ≡ a → nat_eq f.name g.name ≡ b → defines g.name fs ≡ false → cond (a && b) true (defines g.name fs) ≡ false
    by true true y z rest = let same : g.name ≡ f.name = grind (arith, nat_tests) in absurd (two_definitions g f same d y (fits_one bs f g h.0 m))
    by true false y z rest = rest
    by false b y z rest = rest

each_once : (bs fs : List Function) → AreCompatible bs fs → IsDefinedOnce fs
each_once bs [] h = tt
each_once bs (f ∷ fs) h = (λ d. none_behind f (bs ++ f ∷ []) fs (last_among bs f) d h.1, each_once (bs ++ f ∷ []) fs h.1)

pub defined_once : (p q : TranslationUnit) → typed_unit p ≡ Good q → IsDefinedOnce q.funcs
defined_once p q is = each_once [] q.funcs (unit_compatible p q is)

-- so it is with functions whose annotations are typed
same_defines : (x : ℕ) (fs gs : List Function) → HaveOtherBodies fs gs → defines x gs ≡ defines x fs
same_defines x [] [] h = refl
same_defines x [] (g ∷ gs) h = absurd h
same_defines x (f ∷ fs) [] h = absurd h
same_defines x (f ∷ fs) (g ∷ gs) h = λ i. cond (same_definition f g h.0 i && nat_eq (same_name f g h.0 i) x) true (same_defines x fs gs h.1 i)

pub once_noted : (fs gs : List Function) → HaveOtherBodies fs gs → IsDefinedOnce fs → IsDefinedOnce gs
once_noted [] [] h o = tt
once_noted [] (g ∷ gs) h o = absurd h
once_noted (f ∷ fs) [] h o = absurd h
once_noted (f ∷ fs) (g ∷ gs) h o = (
  λ d. same_defines g.name fs gs h.1 ∙ ap (λ x. defines x fs) (same_name f g h.0) ∙ o.0 (sym (same_definition f g h.0) ∙ d),
  once_noted fs gs h.1 o.1,
)
