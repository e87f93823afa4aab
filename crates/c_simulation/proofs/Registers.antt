-- Registers that stay the same, and those that are set.
use Rattle.std.proofs.Common.{◌≡◌, ◌⊎◌, inl, inr, ℕ, zero, suc, ◌+◌, ◌<◌, ◌≤◌, List, [], ◌∷◌, ◌++◌, length, length-set, length-append, Option, Some, slice_get, slice_set, refl, sym, ◌∙◌, arith, Bool, true, false, cond, nat_eq, None, ap}
use Rattle.c_model.specs.Memory.{Value}
use Rattle.c_model.proofs.Blocks.{slice_get-slice_set_same, slice_get-slice_set_other}
use Rattle.mon_syntax.specs.declared.tree.MonType.{MonType}
use Rattle.mon_syntax.specs.Registers.{Bindings, register_of, bound_with}
use Rattle.std.proofs.lemmas.Bool.{eq-eqb}
use Rattle.std.proofs.lemmas.Bool.Decides.{nat_tests}
use Rattle.c_syntax.specs.Logic.{LogicTerm}
use Rattle.c_model.specs.Logic.{TermValue}
use Rattle.c_model.specs.State.{Mark}
use Rattle.c_simulation.specs.Keeping.{Kept, GivesTerm, GiveTerms, StandBelow, is_pointer_term, kept_value, registers_by}
use Rattle.c_simulation.specs.Standing.{Keeps}
use Rattle.c_simulation.specs.SameRegisters.{Same, Stays}

-- ---- lists

pub get-below : {A : Type 0} (l : List A) (k : ℕ) (a : A) → slice_get l k ≡ Some a → k < length l
get-below [] k a e = absurd cc
get-below (b ∷ l) zero a e = omega arith
get-below (b ∷ l) (suc k) a e = let h = get-below l k a e in omega arith

pub get-some : {A : Type 0} (l : List A) (k : ℕ) → k < length l → (a : A) × (slice_get l k ≡ Some a)
get-some [] k lt = absurd (omega arith)
get-some (b ∷ l) zero lt = (b, refl)
get-some (b ∷ l) (suc k) lt = get-some l k (omega arith)

pub get-set_same : {A : Type 0} (l : List A) (k : ℕ) (a : A) → k < length l → slice_get (slice_set l k a) k ≡ Some a
get-set_same l k a lt = let h = get-some l k lt in slice_get-slice_set_same l k h.0 a h.1

pub get-end : {A : Type 0} (a b : List A) (x : A) → slice_get (a ++ x ∷ b) (length a) ≡ Some x
get-end [] b x = refl
get-end (y ∷ a) b x = get-end a b x

-- ---- registers below a number

pub same_all : (n : ℕ) (regs : List Value) → Same n regs regs
same_all n regs = record { long = refl; below = λ j lt. refl }

pub same_less : (m n : ℕ) (regs after : List Value) → m ≤ n → Same n regs after → Same m regs after
same_less m n regs after le h = record { long = h.long; below = λ j lt. h.below j (omega (arith, lt, le)) }

pub same_trans : (m n : ℕ) (a b c : List Value) → m ≤ n → Same m a b → Same n b c → Same m a c
same_trans m n a b c le h g = record { long = g.long ∙ h.long; below = λ j lt. g.below j (omega (arith, lt, le)) ∙ h.below j lt }

-- ---- and but for those of a plan

pub stays_same : (n m low : ℕ) (regs after : List Value) → Same low regs after → Stays n m low regs after
stays_same n m low regs after h = record { long = h.long; kept = λ j lt apart. h.below j lt }

pub stays_trans : (n m low high : ℕ) (a b c : List Value) → low ≤ high → Stays n m low a b → Stays n m high b c → Stays n m low a c
stays_trans n m low high a b c le h g = record { long = g.long ∙ h.long; kept = λ j lt apart. g.kept j (omega (arith, lt, le)) apart ∙ h.kept j lt apart }

-- a register between the two may be set
pub stays_set : (n m low r : ℕ) (regs : List Value) (v : Value) → n ≤ r → r < m → Stays n m low regs (slice_set regs r v)
stays_set n m low r regs v le lt = record { long = length-set regs r v; kept = λ j below apart. slice_get-slice_set_other regs r j v (differs j apart) }
  where
    differs : (j : ℕ) → (j < n) ⊎ (m ≤ j) → j ≡ r → ⊥
    differs j (inl before) e = omega (arith, e, before, le)
    differs j (inr behind) e = omega (arith, e, behind, lt)

-- a term that is kept stays as long as its registers do
pub gives_same : (n : ℕ) (t : LogicTerm) (o : Option TermValue) (r : ℕ) (regs after : List Value) → (b : Bool) → is_pointer_term t ≡ b → r + registers_by b ≤ n → Same n regs after → GivesTerm t o r regs → GivesTerm t o r after
gives_same n t o r regs after false e le same h = record {
  flag_is = same.below r (omega (arith, le)) ∙ h.flag_is;
  value_is = λ z q. same.below (suc r) (omega (arith, le)) ∙ h.value_is z q;
  pointer_is = λ p x q. let no : false ≡ true = sym e ∙ p in absurd cc;
}
gives_same n t o r regs after true e le same h = record {
  flag_is = same.below r (omega (arith, le)) ∙ h.flag_is;
  value_is = λ z q. same.below (suc r) (omega (arith, le)) ∙ h.value_is z q;
  pointer_is = λ p x q.
      let g = h.pointer_is p x q in record {
        pointer = g.pointer;
        distance = g.distance;
        base_is = same.below (suc r) (omega (arith, le)) ∙ g.base_is;
        offset_is = same.below (suc (suc r)) (omega (arith, le)) ∙ g.offset_is;
        is = g.is;
        small = g.small;
        lies = g.lies;
      };
}

-- so does what they have of a plan
pub terms_same : (n m : ℕ) (ks : List Kept) (marks : List Mark) (regs after : List Value) → m ≤ n → StandBelow m ks → Same n regs after → GiveTerms ks marks regs → GiveTerms ks marks after
terms_same n m [] marks regs after le s same h = tt
terms_same n m (k ∷ ks) marks regs after le s same h = (
  gives_same n k.term (kept_value k marks) k.register regs after (is_pointer_term k.term) refl (omega (arith, le, s.0)) same h.0,
  terms_same n m ks marks regs after le s.1 same h.1,
)

pub keeps_same : (n m : ℕ) (ks : List Kept) (marks : List Mark) (regs after : List Value) → m ≤ n → StandBelow m ks → Same n regs after → Keeps ks marks regs → Keeps ks marks after
keeps_same n m ks marks regs after le s same h = record { terms = terms_same n m ks marks regs after le s same h.terms; past = h.past }

-- ---- registers that are set

-- a register from n on gets a value
pub same_set : (n r : ℕ) (regs : List Value) (v : Value) → n ≤ r → Same n regs (slice_set regs r v)
same_set n r regs v le = record { long = length-set regs r v; below = λ j lt. slice_get-slice_set_other regs r j v (λ e. omega (arith, e, lt, le)) }

-- one behind those of a plan
pub keeps_set : (r : ℕ) (ks : List Kept) (marks : List Mark) (regs : List Value) (v : Value) → StandBelow r ks → Keeps ks marks regs → Keeps ks marks (slice_set regs r v)
keeps_set r ks marks regs v below h = keeps_same r r ks marks regs (slice_set regs r v) (omega arith) below (same_set r r regs v (omega arith)) h

-- further registers
pub longer : (rs ts : List MonType) → length rs ≤ length (rs ++ ts)
longer rs ts = omega (arith, length-append rs ts)

-- ---- bindings

pub register_of-bound_same : (x r : ℕ) (bs : Bindings) → register_of (bound_with x r bs) x ≡ Some r
register_of-bound_same x r [] = ap (λ t. cond t (Some r) None) (eq-eqb x x refl)
register_of-bound_same x r (b ∷ bs) = by (register_of-bound_same x r bs) (nat_eq b.0 x) refl
  where
    by : register_of (bound_with x r bs) x ≡ Some r → (t : Bool) → nat_eq b.0 x ≡ t → register_of (cond t ((x, r) ∷ bs) (b ∷ bound_with x r bs)) x ≡ Some r
    by rest true e = ap (λ t. cond t (Some r) (register_of bs x)) (eq-eqb x x refl)
    by rest false e = ap (λ t. cond t (Some b.1) (register_of (bound_with x r bs) x)) e ∙ rest

pub register_of-bound_other : (x r y : ℕ) (bs : Bindings) → nat_eq x y ≡ false → register_of (bound_with x r bs) y ≡ register_of bs y
register_of-bound_other x r y [] e = ap (λ t. cond t (Some r) None) e
register_of-bound_other x r y (b ∷ bs) e = by (register_of-bound_other x r y bs e) (nat_eq b.0 x) refl
  where
    by : register_of (bound_with x r bs) y ≡ register_of bs y → (t : Bool) → nat_eq b.0 x ≡ t → register_of (cond t ((x, r) ∷ bs) (b ∷ bound_with x r bs)) y ≡ cond (nat_eq b.0 y) (Some b.1) (register_of bs y)
    by rest true f =
        let other : nat_eq b.0 y ≡ false = grind (arith, nat_tests) in
        ap (λ t. cond t (Some r) (register_of bs y)) e ∙ sym (ap (λ t. cond t (Some b.1) (register_of bs y)) other)
    by rest false f = ap (λ o. cond (nat_eq b.0 y) (Some b.1) o) rest
