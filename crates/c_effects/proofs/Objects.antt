-- The registers of objects and of their members.
use Rattle.std.proofs.Common.{◌≡◌, ℕ, Bool, true, false, List, refl, ap, sym, ◌∙◌}
use Rattle.std.specs.Prelude.{None, Some, if◌then◌else◌}
use Rattle.c_syntax.specs.Expressions.{Expression}
use Rattle.c_syntax.specs.Programs.{StructType}
use Rattle.mon_syntax.specs.Registers.{Names}
use Rattle.mon_syntax.specs.Trees.{MonExpression, MonStatements, NoStatement, Register}
use Rattle.c_effects.specs.Expressions.{before, farther, set}
use Rattle.c_effects.specs.Effects.{is_direct, variable_register}
use Rattle.c_effects.specs.Full.{inner_offset, is_inner, member_setup, stepped}
use Rattle.c_effects.specs.Named.{unit_of}
use Rattle.c_effects.specs.Objects.{direct_register}

-- the register of a variable of a function, or none
module _ (n : Names) (e : Expression) where
  pub direct_is : (r : ℕ) → Some r ≡ direct_register n e → (is_direct (unit_of n) e ≡ true) × (r ≡ variable_register n.table.bound e)
  direct_is r is = by (is_direct (unit_of n) e) is
    where
      by : (b : Bool) → Some r ≡ (if b then Some (variable_register n.table.bound e) else None) → (b ≡ true) × (r ≡ variable_register n.table.bound e)
      by true is = (refl, cc)
      by false is = absurd cc

  pub not_direct : None ≡ direct_register n e → is_direct (unit_of n) e ≡ false
  not_direct is = by (is_direct (unit_of n) e) is
    where
      by : (b : Bool) → None ≡ (if b then Some (variable_register n.table.bound e) else None) → b ≡ false
      by true is = absurd cc
      by false is = refl

-- the register of a member
pub member_made : (structs : List StructType) (r k number : ℕ) (a : Expression) (t t1 : MonStatements) (pointer : MonExpression) → is_inner a ≡ true → number ≡ k → pointer ≡ stepped structs a (Register r)
    → t1 ≡ before t (set number pointer) → t1 ≡ before t (member_setup structs r k a)
member_made structs r k number a t t1 pointer test number_is pointer_is last =
    let far = farther (Register r) (inner_offset structs a) in
    let at : pointer ≡ far = pointer_is ∙ ap (λ q. if q then far else Register r) test in
    last ∙ (λ i. before t (set (number_is i) (at i))) ∙ ap (λ q. before t (if q then set k far else NoStatement)) (sym test)
