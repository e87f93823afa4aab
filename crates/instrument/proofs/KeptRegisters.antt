-- The registers that a function has of its own have the types of what stands there: flags and values of kept terms, what it gives, and flags of behaviors.
use Rattle.std.proofs.Common.{◌≡◌, ℕ, suc, ◌+◌, Bool, true, false, cond, nat_eq, map, List, [], ◌∷◌, ◌++◌, length, Some, slice_get, refl, subst, arith}
use Rattle.std.proofs.lemmas.List.{length-append}
use Rattle.c_syntax.specs.Logic.{LogicTerm}
use Rattle.c_syntax.specs.Programs.{NamedBehavior, FunctionContract, Function}
use Rattle.c_model.specs.PredicateTyping.{place_of_term}
use Rattle.mon_syntax.specs.declared.tree.MonType.{MonType}
use Rattle.mon_syntax.specs.declared.tree.MonType.TheVariants.{I32}
use Rattle.mon_syntax.specs.Valid.{Types}
use Rattle.c_effects.specs.Expressions.{value_type}
use Rattle.c_simulation.specs.Keeping.{Kept, is_pointer_term, registers_by, registers_of}
use Rattle.annot_simulation.specs.ContractCode.{flags_from}
use Rattle.annot_simulation.specs.ContractValidity.{AreFlags}
use Rattle.annot_simulation.specs.Does.{Planned}
use Rattle.annot_simulation.specs.Held.{kept_at}
use Rattle.annot_simulation.specs.Plan.{Entry, kept_from, kept_types, planned, value_types}
use Rattle.annot_simulation.specs.Validity.{Begins, HasRegisters, StandIn}
use Rattle.instrument.specs.Translation as target
use Rattle.instrument.specs.Translation.{contract_types, first_flag, own_types, plan_of, result_register}
use Rattle.instrument.proofs.Typed.{begins_left, begins_right, register_at}

-- ---- the plan

-- those of one term
abbrev OwnOf : LogicTerm → List MonType
OwnOf a = I32 ∷ value_types (is_pointer_term a) a

-- each of these terms has registers of its types
abbrev pub PlanTyped : Types → List Kept → Type 0
PlanTyped ts [] = Unit {0}
PlanTyped ts (k ∷ ks) = StandIn ts k.register (OwnOf k.term) × PlanTyped ts ks

module _ (ts : Types) where
  stand_in : (front : Types) (ks : List MonType) → Begins (front ++ ks) ts → StandIn ts (length front) ks
  stand_in front [] b = tt
  stand_in front (k ∷ ks) b =
      let long : length (front ++ k ∷ []) ≡ suc (length front) = omega (arith, length-append front (k ∷ [])) in
      (register_at front ts k (begins_left front (k ∷ []) ks ts b), subst (λ r. StandIn ts r ks) long (stand_in (front ++ k ∷ []) ks (begins_right front (k ∷ []) ks ts b)))

  own_long : (a : LogicTerm) → length (OwnOf a) ≡ registers_of a
  own_long a = by (is_pointer_term a)
    where
      by : (t : Bool) → length (I32 ∷ value_types t a) ≡ registers_by t
      by true = refl
      by false = refl

  plan_typed : (front : Types) (xs : List Entry) → Begins (front ++ kept_types xs) ts → PlanTyped ts (kept_from (length front) xs)
  plan_typed front [] b = tt
  plan_typed front (x ∷ xs) b =
      let own = OwnOf x.1 in
      let long : length (front ++ own) ≡ length front + registers_of x.1 = omega (arith, length-append front own, own_long x.1) in
      (stand_in front own (begins_left front own (kept_types xs) ts b), subst (λ n. PlanTyped ts (kept_from n xs)) long (plan_typed (front ++ own) xs (begins_right front own (kept_types xs) ts b)))

  kept_has : (ks : List Kept) → PlanTyped ts ks → (n : ℕ) (k : Kept) → kept_at n ks ≡ Some k → StandIn ts k.register (OwnOf k.term)
  kept_has [] h n k e = absurd cc
  kept_has (x ∷ ks) h n k e = by (nat_eq (place_of_term x.term).offset n) e (λ g. kept_has ks h.1 n k g)
    where
      by : (t : Bool) → cond t (Some x) (kept_at n ks) ≡ Some k → (kept_at n ks ≡ Some k → StandIn ts k.register (OwnOf k.term)) → StandIn ts k.register (OwnOf k.term)
      by true g go = let same : x ≡ k = cc in subst (λ (k : Kept). StandIn ts k.register (OwnOf k.term)) same h.0
      by false g go = go g

  -- a term that is planned has registers
  pub kept_registers : (ks : List Kept) → PlanTyped ts ks → (x : Entry) → Planned ks x.0 x.1 → HasRegisters ks ts x.1 (value_types (is_pointer_term x.1) x.1)
  kept_registers ks h x p =
      record { entry = p.entry; is = p.is; typed = subst (λ a. StandIn ts p.entry.register (OwnOf a)) p.term_is (kept_has ks h (place_of_term x.1).offset p.entry p.is) }

  -- ---- flags

  flags_typed : (front : Types) (bs : List NamedBehavior) → Begins (front ++ map (λ (b : NamedBehavior). I32) bs) ts → AreFlags ts (flags_from (length front) bs)
  flags_typed front [] b = tt
  flags_typed front (c ∷ bs) b =
      let flags = map (λ (b : NamedBehavior). I32) bs in
      let long : length (front ++ I32 ∷ []) ≡ suc (length front) = omega (arith, length-append front (I32 ∷ [])) in
      (register_at front ts I32 (begins_left front (I32 ∷ []) flags ts b), subst (λ h. AreFlags ts (flags_from h bs)) long (flags_typed (front ++ I32 ∷ []) bs (begins_right front (I32 ∷ []) flags ts b)))

  -- ---- a function

  module _ (f : Function) (b : Begins (target.value_types f.params ++ own_types f) ts) where
    abbrev values : Types
    values = target.value_types f.params

    abbrev kept : Types
    kept = kept_types (planned f)

    pub plan_is_typed : PlanTyped ts (plan_of f)
    plan_is_typed = plan_typed values (planned f) (begins_left values kept (contract_types f.result f.contract) ts b)

    module _ (c : FunctionContract) (is : f.contract ≡ Some c) where
      abbrev flags : Types
      flags = map (λ (b : NamedBehavior). I32) c.behaviors

      begun : Begins (values ++ kept ++ (value_type f.result ∷ flags)) ts
      begun = subst (λ o. Begins (values ++ kept ++ contract_types f.result o) ts) is (begins_right values kept (contract_types f.result f.contract) ts b)

      long : length (values ++ kept) ≡ result_register f
      long = length-append values kept

      pub result_typed : slice_get ts (result_register f) ≡ Some (value_type f.result)
      result_typed = subst (λ r. slice_get ts r ≡ Some (value_type f.result)) long (register_at (values ++ kept) ts (value_type f.result) (begins_left (values ++ kept) (value_type f.result ∷ []) flags ts begun))

      pub flags_are_typed : AreFlags ts (flags_from (first_flag f) c.behaviors)
      flags_are_typed =
          let more : length (values ++ kept ++ value_type f.result ∷ []) ≡ first_flag f = omega (arith, long, length-append (values ++ kept) (value_type f.result ∷ [])) in
          subst (λ h. AreFlags ts (flags_from h c.behaviors)) more (flags_typed (values ++ kept ++ value_type f.result ∷ []) c.behaviors (begins_right (values ++ kept) (value_type f.result ∷ []) flags ts begun))
