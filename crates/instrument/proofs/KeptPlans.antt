-- The plan of a function where a call of it begins (ACSL 2.4.3): no label was passed, and its flags are 0, as all registers are that are no arguments.
use Rattle.std.proofs.Common.{◌≡◌, ℕ, zero, suc, ◌+◌, ◌≤◌, pos, Bool, true, false, List, [], ◌∷◌, ◌++◌, length, length-append, append_assoc, map, drop, Some, None, slice_get, refl, sym, ap, ◌∙◌, subst, arith}
use Rattle.c_syntax.specs.Logic.{LogicTerm}
use Rattle.c_model.specs.Memory.{Value}
use Rattle.mon_syntax.specs.declared.tree.MonType.{MonType}
use Rattle.mon_syntax.specs.Meaning.{registers, zeros}
use Rattle.mon_syntax.specs.Meaning as monitored
use Rattle.mon_syntax.specs.BlockMemory.{over_blocks}
use Rattle.mon_syntax.specs.Trees.{MonRegister}
use Rattle.mon_syntax.specs.Valid.{types_of}
use Rattle.annot_simulation.specs.Plan.{Entry, kept_from, kept_types, value_types}
use Rattle.annot_simulation.specs.Validity.{Begins}
use Rattle.c_simulation.specs.Keeping.{is_pointer_term, registers_by, registers_of, GiveTerms, StandBelow}

-- ---- where its registers stand

values_long : (b : Bool) (t : LogicTerm) → suc (length (value_types b t)) ≡ registers_by b
values_long true t = refl
values_long false t = refl

pub plan_stands : (xs : List Entry) (n m : ℕ) → n + length (kept_types xs) ≤ m → StandBelow m (kept_from n xs)
plan_stands [] n m le = tt
plan_stands (x ∷ xs) n m le =
    let a = values_long (is_pointer_term x.1) x.1 in
    let b = length-append (value_types (is_pointer_term x.1) x.1) (kept_types xs) in
    (omega (arith, a, b, le), plan_stands xs (n + registers_of x.1) m (omega (arith, a, b, le)))

-- ---- what they hold at the beginning

abbrev pub zero_in : MonType → Value
zero_in t = monitored.constant over_blocks t (pos 0)

-- registers of these types, from the number n on, hold 0
abbrev pub HoldZeros : ℕ → List MonType → List Value → Type 0
HoldZeros n [] regs = Unit {0}
HoldZeros n (t ∷ ts) regs = (slice_get regs n ≡ Some (zero_in t)) × HoldZeros (suc n) ts regs

zeros_front : (n : ℕ) (ts us : List MonType) (regs : List Value) → HoldZeros n (ts ++ us) regs → HoldZeros n ts regs
zeros_front n [] us regs h = tt
zeros_front n (t ∷ ts) us regs h = (h.0, zeros_front (suc n) ts us regs h.1)

zeros_behind : (n : ℕ) (ts us : List MonType) (regs : List Value) → HoldZeros n (ts ++ us) regs → HoldZeros (n + length ts) us regs
zeros_behind n [] us regs h = let e : n ≡ n + 0 = omega arith in subst (λ i. HoldZeros i us regs) e h
zeros_behind n (t ∷ ts) us regs h = let e : suc n + length ts ≡ n + suc (length ts) = omega arith in subst (λ i. HoldZeros i us regs) e (zeros_behind (suc n) ts us regs h.1)

-- so no term is kept yet
nothing_kept : (xs : List Entry) (n : ℕ) (regs : List Value) → HoldZeros n (kept_types xs) regs → GiveTerms (kept_from n xs) [] regs
nothing_kept [] n regs h = tt
nothing_kept (x ∷ xs) n regs h =
    let long : suc n + length (value_types (is_pointer_term x.1) x.1) ≡ n + registers_of x.1 = omega (arith, values_long (is_pointer_term x.1) x.1) in (
      record { flag_is = h.0; value_is = λ z e. absurd cc; pointer_is = λ p y e. absurd cc },
      nothing_kept xs (n + registers_of x.1) regs (subst (λ i. HoldZeros i (kept_types xs) regs) long (zeros_behind (suc n) (value_types (is_pointer_term x.1) x.1) (kept_types xs) regs h.1)),
    )

-- ---- the registers of a call

get_beyond : (l : List Value) (j : ℕ) → length l ≤ j → slice_get l j ≡ None
get_beyond [] j le = refl
get_beyond (a ∷ l) zero le = absurd (omega (arith, le))
get_beyond (a ∷ l) (suc j) le = get_beyond l j (omega (arith, le))

-- those behind the arguments
behind_arguments : (args l : List Value) (j : ℕ) → length args ≤ j → slice_get (args ++ drop (length args) l) j ≡ slice_get l j
behind_arguments [] l j le = refl
behind_arguments (a ∷ args) l zero le = absurd (omega (arith, le))
behind_arguments (a ∷ args) [] (suc j) le = get_beyond (args ++ []) j (omega (arith, length-append args [], le))
behind_arguments (a ∷ args) (b ∷ l) (suc j) le = behind_arguments args l j (omega (arith, le))

get_zero : (pre : List MonType) (t : MonType) (more : List MonType) → slice_get (map zero_in (pre ++ t ∷ more)) (length pre) ≡ Some (zero_in t)
get_zero [] t more = refl
get_zero (u ∷ pre) t more = get_zero pre t more

zeros_are : (rs : List MonRegister) → zeros over_blocks rs ≡ map zero_in (types_of rs)
zeros_are [] = refl
zeros_are (r ∷ rs) = ap (λ l. zero_in r.kind ∷ l) (zeros_are rs)

module _ (args : List Value) (rest : List MonType) where
  abbrev regs_of : List MonType → List Value
  regs_of ts = args ++ drop (length args) (map zero_in (ts ++ rest))

  hold_zeros : (ts pre : List MonType) → length args ≤ length pre → HoldZeros (length pre) ts (regs_of (pre ++ ts))
  hold_zeros [] pre le = tt
  hold_zeros (t ∷ ts) pre le =
      let long : length (pre ++ t ∷ []) ≡ suc (length pre) = omega (arith, length-append pre (t ∷ [])) in
      let whole : pre ++ t ∷ [] ++ ts ≡ pre ++ t ∷ ts = append_assoc pre (t ∷ []) ts in (
        behind_arguments args (map zero_in ((pre ++ t ∷ ts) ++ rest)) (length pre) le ∙ ap (λ l. slice_get (map zero_in l) (length pre)) (append_assoc pre (t ∷ ts) rest) ∙ get_zero pre t (ts ++ rest),
        subst (λ i. HoldZeros i ts (regs_of (pre ++ t ∷ ts))) long
            (subst (λ l. HoldZeros (length (pre ++ t ∷ [])) ts (regs_of l)) whole (hold_zeros ts (pre ++ t ∷ []) (omega (arith, long, le)))),
      )

-- where the registers of a function begin with these types, and behind them those of its plan
pub registers_keep : (pre : List MonType) (xs : List Entry) (more : List MonType) (rs : List MonRegister) (args : List Value) → length args ≤ length pre → Begins (pre ++ (kept_types xs ++ more)) (types_of rs)
    → GiveTerms (kept_from (length pre) xs) [] (registers over_blocks rs args)
registers_keep pre xs more rs args le b =
    let is : registers over_blocks rs args ≡ args ++ drop (length args) (map zero_in ((pre ++ (kept_types xs ++ more)) ++ b.rest)) = ap (λ l. args ++ drop (length args) l) (zeros_are rs ∙ ap (map zero_in) b.is) in
    nothing_kept xs (length pre) (registers over_blocks rs args)
    (zeros_front (length pre) (kept_types xs) more (registers over_blocks rs args)
    (subst (λ l. HoldZeros (length pre) (kept_types xs ++ more) l) (sym is) (hold_zeros args b.rest (kept_types xs ++ more) pre le)))
