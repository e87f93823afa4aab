-- Flags of names that have a contract.
use Rattle.std.proofs.Common.{◌≡◌, ℕ, zero, suc, ◌<◌, Bool, true, false, ◌||◌, ◌&&◌, nat_eq, List, [], ◌∷◌, ◌++◌, length, map, Option, None, Some, is_some, refl, ap, sym, subst, ◌∙◌, arith}
use Rattle.std.proofs.lemmas.Bool.{eqb-true, eq-eqb}
use Rattle.std.proofs.lemmas.List.{map-append}
use Rattle.std.specs.Prelude.{slice_set, option_map}
use Rattle.c_syntax.specs.Programs.{Function, plain_func, plain_contract}
use Rattle.c_syntax.specs.declared.program.Contract.{Contract}
use Rattle.c_syntax.specs.declared.program.Func.{Func}
use Rattle.c_model.specs.Library.{is_there}
use Rattle.c_model.specs.ProgramGrammar.{has_contract}
use Rattle.c_parser.specs.Contracted.{flag_of, MarksContracts}

-- a flag more that says no
pub flag_more : (flags : List Bool) (x : ℕ) → flag_of (flags ++ false ∷ []) x ≡ flag_of flags x
flag_more [] zero = refl
flag_more [] (suc x) = refl
flag_more (b ∷ flags) zero = refl
flag_more (b ∷ flags) (suc x) = flag_more flags x

-- a flag that is set, and the others
flag_at_set : (flags : List Bool) (n : ℕ) → n < length flags → flag_of (slice_set flags n true) n ≡ true
flag_at_set [] n h = absurd (omega (arith, h))
flag_at_set (b ∷ flags) zero h = refl
flag_at_set (b ∷ flags) (suc n) h = flag_at_set flags n (omega (arith, h))

flag_beside : (flags : List Bool) (n x : ℕ) → (n ≡ x → ⊥) → flag_of (slice_set flags n true) x ≡ flag_of flags x
flag_beside [] n x ne = refl
flag_beside (b ∷ flags) zero zero ne = absurd (ne refl)
flag_beside (b ∷ flags) zero (suc x) ne = refl
flag_beside (b ∷ flags) (suc n) zero ne = refl
flag_beside (b ∷ flags) (suc n) (suc x) ne = flag_beside flags n x (λ e. ne (ap suc e))

flag_set : (flags : List Bool) (n x : ℕ) → n < length flags → flag_of (slice_set flags n true) x ≡ (nat_eq n x || flag_of flags x)
flag_set flags n x h = tested (nat_eq n x) refl
  where
    tested : (b : Bool) → nat_eq n x ≡ b → flag_of (slice_set flags n true) x ≡ (b || flag_of flags x)
    tested true e = let same : n ≡ x = eqb-true n x e in subst (λ (y : ℕ). flag_of (slice_set flags n true) y ≡ true) same (flag_at_set flags n h)
    tested false e = flag_beside flags n x (λ same. (let t = eq-eqb n x same in cc))

-- a function more
pub has_more : (x : ℕ) (fs : List Function) (f : Function) → has_contract x (fs ++ f ∷ []) ≡ ((nat_eq f.name x && is_there f.contract) || has_contract x fs)
has_more x [] f = refl
has_more x (g ∷ fs) f = ap (λ (b : Bool). (nat_eq g.name x && is_there g.contract) || b) (has_more x fs f) ∙ swapped (nat_eq g.name x && is_there g.contract) (nat_eq f.name x && is_there f.contract) (has_contract x fs)
  where
    swapped : (a b c : Bool) → (a || (b || c)) ≡ (b || (a || c))
    swapped true true c = refl
    swapped true false c = refl
    swapped false b c = refl

-- one with a contract, whose flag is set
pub marks_more : (flags after : List Bool) (fs : List Function) (f : Function) → MarksContracts flags fs → is_there f.contract ≡ true → f.name < length flags → after ≡ slice_set flags f.name true → MarksContracts after (fs ++ f ∷ [])
marks_more flags after fs f m is h e x =
    ap (λ (l : List Bool). flag_of l x) e ∙ flag_set flags f.name x h ∙ ap (λ (b : Bool). nat_eq f.name x || b) (m x) ∙ sym (has_more x fs f ∙ rw is (same (nat_eq f.name x) (has_contract x fs)))
  where
    same : (a b : Bool) → ((a && true) || b) ≡ (a || b)
    same true b = refl
    same false b = refl

-- one without
pub marks_same : (flags : List Bool) (fs : List Function) (f : Function) → MarksContracts flags fs → is_there f.contract ≡ false → MarksContracts flags (fs ++ f ∷ [])
marks_same flags fs f m is x = m x ∙ sym (has_more x fs f ∙ rw is (same (nat_eq f.name x) (has_contract x fs)))
  where
    same : (a b : Bool) → ((a && false) || b) ≡ b
    same true b = refl
    same false b = refl

-- ---- a function pushed behind the others

there : (c : Option Contract) → is_there (option_map plain_contract c) ≡ is_some c
there None = refl
there (Some x) = refl

pub marks_pushed : (flags after : List Bool) (old all : List Func) (f : Func) → MarksContracts flags (map plain_func old) → all ≡ old ++ f ∷ [] → is_some f.contract ≡ true → f.name < length flags → after ≡ slice_set flags f.name true
    → MarksContracts after (map plain_func all)
marks_pushed flags after old all f m e is h set =
    subst (λ (fs : List Function). MarksContracts after fs) (sym (ap (map plain_func) e ∙ map-append plain_func old (f ∷ []))) (marks_more flags after (map plain_func old) (plain_func f) m (there f.contract ∙ is) h set)

pub marks_kept : (flags : List Bool) (old all : List Func) (f : Func) → MarksContracts flags (map plain_func old) → all ≡ old ++ f ∷ [] → is_some f.contract ≡ false → MarksContracts flags (map plain_func all)
marks_kept flags old all f m e is =
    subst (λ (fs : List Function). MarksContracts flags fs) (sym (ap (map plain_func) e ∙ map-append plain_func old (f ∷ []))) (marks_same flags (map plain_func old) (plain_func f) m (there f.contract ∙ is))
