-- Assignments and increments from what is ready to be stored.
use Rattle.std.proofs.Common.{◌≡◌, ℕ, Bool, true, false, not, [], ◌∷◌, length, refl, ap, ◌∙◌}
use Rattle.std.specs.Prelude.{None, Some, pos}
use Rattle.c_syntax.specs.declared.expression.BinOp.{BinOp}
use Rattle.c_syntax.specs.declared.expression.BumpOp.{BumpOp}
use Rattle.c_syntax.specs.declared.place.Place.{Place}
use Rattle.c_syntax.specs.Ctypes.{PlainType, int_type}
use Rattle.c_syntax.specs.Expressions.{Expression, Node, Assign, Bump}
use Rattle.c_model.specs.ExpressionTyping.{is_scalar}
use Rattle.c_model.specs.Meaning.{bump_operator}
use Rattle.mon_syntax.specs.declared.tree.MonType.TheVariants.{I32}
use Rattle.mon_syntax.specs.Registers.{Names, next_register}
use Rattle.mon_syntax.specs.Trees.{MonExpression, MonStatements, Register, Constant}
use Rattle.c_effects.specs.Expressions.{before, compound, value_type}
use Rattle.c_effects.specs.Effects.{store}
use Rattle.c_effects.specs.Full.{act_takes, changed_register, gives_old, is_pure, is_settled, kept_types, kept_value, stored, takes}
use Rattle.c_effects.specs.Named.{unit_of, with_registers}
use Rattle.c_effects.proofs.Sequences.{registers_then}
use Rattle.c_evaluation.specs.Evaluated.{act_by, prepare_by, result_by}
use Rattle.c_evaluation.specs.Ready.{bump_new, bump_setup, bump_types, change_new, change_part, change_setup, change_types, old_part, old_register, old_taken}
use Rattle.c_evaluation.specs.Ready.{right_new, right_part, right_setup, right_types}
use Rattle.c_evaluation.proofs.Assignments.{alone_code, alone_takes, assigned_code, assigned_takes, assigned_value, behind_two, bumped_new, bumped_old, changed_alone}
use Rattle.c_evaluation.proofs.Assignments.{changed_alone_takes, changed_behind, changed_code, changed_takes, kept_registers, pair, right_behind, right_register, stored_as}

module _ (n n1 : Names) (t t1 t2 : MonStatements) (at : Place) (u : PlainType) (a b : Expression) (part : ℕ) (value : MonExpression) where
  -- `=` of a scalar
  module _ (is : is_scalar u ≡ true) (names1 : n1 ≡ with_registers (right_types n a b) n) (first : t1 ≡ before t (right_setup n a b)) (part_is : part ≡ right_part n a b)
      (value_is : value ≡ right_new n a b) where
    number : next_register n1.table ≡ right_register n at u a b
    number = ap (λ (m : Names). next_register m.table) names1 ∙ right_behind n at u a b

    module _ (settled : Bool) (settled_is : settled ≡ is_settled b) where
      pub assign_setup_is : t2 ≡ stored (not settled) (next_register n1.table) part u t1 value → t2 ≡ before t (prepare_by n (Node at u (Assign None a b)))
      assign_setup_is last =
          stored_as (not settled) u t (right_setup n a b) (right_register n at u a b) (right_part n a b) (right_new n a b) last first number part_is value_is
          ∙ ap (λ q. before t (stored (not q) (right_register n at u a b) (right_part n a b) u (right_setup n a b) (right_new n a b))) settled_is
          ∙ ap (before t) (assigned_code n at u a b is)

      pub assign_names_are : {n2 : Names} → n2 ≡ with_registers (kept_types (not settled) [] (value_type u)) n1 → n2 ≡ with_registers (takes (unit_of n) (Node at u (Assign None a b))) n
      assign_names_are last =
          last ∙ ap (with_registers (kept_types (not settled) [] (value_type u))) names1 ∙ kept_registers (not settled) (right_types n a b) (value_type u) n
          ∙ ap (λ q. with_registers (kept_types (not q) (right_types n a b) (value_type u)) n) settled_is ∙ ap (λ ts. with_registers ts n) (assigned_takes n at u a b is)

      pub assign_value_is : {m : MonExpression} → m ≡ kept_value (not settled) (next_register n1.table) value → m ≡ result_by n (Node at u (Assign None a b))
      assign_value_is last = last ∙ (λ i. kept_value (not (settled_is i)) (number i) (value_is i)) ∙ assigned_value n at u a b is

    pub assign_alone_is : t2 ≡ before t1 (store part u value) → t2 ≡ before t (act_by n (Node at u (Assign None a b)))
    assign_alone_is last =
        stored_as false u t (right_setup n a b) (right_register n at u a b) (right_part n a b) (right_new n a b) last first refl part_is value_is ∙ ap (before t) (alone_code n at u a b is)

    pub assign_alone_names : n1 ≡ with_registers (act_takes (unit_of n) (Node at u (Assign None a b))) n
    assign_alone_names = names1 ∙ ap (λ ts. with_registers ts n) (alone_takes n at u a b is)

  -- `op=`
  module _ (op : BinOp) (names1 : n1 ≡ with_registers (change_types n u a b) n) (first : t1 ≡ before t (change_setup n u a b)) (part_is : part ≡ change_part n a b)
      (value_is : value ≡ change_new n op u a b) where
    abbrev at_register : ℕ
    at_register = changed_register (unit_of n) (is_pure b) n.table.kinds (value_type u) a b

    change_number : next_register n1.table ≡ at_register
    change_number = ap (λ (m : Names). next_register m.table) names1 ∙ changed_behind n at u a b op

    pub change_setup_is : t2 ≡ stored true (next_register n1.table) part u t1 value → t2 ≡ before t (prepare_by n (Node at u (Assign (Some op) a b)))
    change_setup_is last =
        stored_as true u t (change_setup n u a b) at_register (change_part n a b) (change_new n op u a b) last first change_number part_is value_is ∙ ap (before t) (changed_code n at u a b op)

    pub change_names_are : {n2 : Names} → n2 ≡ with_registers (kept_types true [] (value_type u)) n1 → n2 ≡ with_registers (takes (unit_of n) (Node at u (Assign (Some op) a b))) n
    change_names_are last =
        last ∙ ap (with_registers (value_type u ∷ [])) names1 ∙ registers_then (change_types n u a b) (value_type u ∷ []) n ∙ ap (λ ts. with_registers ts n) (changed_takes n at u a b op)

    pub change_value_is : {m : MonExpression} → m ≡ kept_value true (next_register n1.table) value → m ≡ result_by n (Node at u (Assign (Some op) a b))
    change_value_is last = last ∙ ap Register change_number

    pub change_alone_is : t2 ≡ before t1 (store part u value) → t2 ≡ before t (act_by n (Node at u (Assign (Some op) a b)))
    change_alone_is last =
        stored_as false u t (change_setup n u a b) at_register (change_part n a b) (change_new n op u a b) last first refl part_is value_is ∙ ap (before t) (changed_alone n at u a b op)

    pub change_alone_names : n1 ≡ with_registers (act_takes (unit_of n) (Node at u (Assign (Some op) a b))) n
    change_alone_names = names1 ∙ ap (λ ts. with_registers ts n) (changed_alone_takes n at u a b op)

-- `++` and `--`
module _ (n n1 : Names) (t t1 t2 : MonStatements) (at : Place) (u : PlainType) (a : Expression) (op : BumpOp) (part : ℕ) (value : MonExpression) (part_is : part ≡ old_part n a) where
  -- the old value is given
  module _ (is : gives_old op ≡ true) (first : t1 ≡ before t (old_taken n u a)) (number : ℕ) (number_is : number ≡ old_register n a) where
    pub bump_old_is : value ≡ compound (unit_of n).structs (bump_operator op) u int_type (Register number) (Constant I32 (pos 1)) → t2 ≡ before t1 (store part u value)
        → t2 ≡ before t (prepare_by n (Node at u (Bump op a)))
    bump_old_is value_is last =
        let new : ℕ → MonExpression = λ k. compound (unit_of n).structs (bump_operator op) u int_type (Register k) (Constant I32 (pos 1)) in
        let value_at : value ≡ new (old_register n a) = value_is ∙ ap new number_is in
        pair t (old_taken n u a) (store (old_part n a) u (new (old_register n a))) first (last ∙ (λ i. before t1 (store (part_is i) u (value_at i))))
        ∙ ap (before t) (bumped_old n at u a op is)

  -- the new one is given, or none
  module _ (names1 : n1 ≡ with_registers (bump_types n a) n) (first : t1 ≡ before t (bump_setup n a)) (value_is : value ≡ bump_new n op u a) where
    bump_number : next_register n1.table ≡ old_register n a
    bump_number = ap (λ (m : Names). next_register m.table) names1 ∙ ap length (behind_two n.table.kinds _ _)

    pub bump_new_is : gives_old op ≡ false → t2 ≡ stored true (next_register n1.table) part u t1 value → t2 ≡ before t (prepare_by n (Node at u (Bump op a)))
    bump_new_is is last =
        stored_as true u t (bump_setup n a) (old_register n a) (old_part n a) (bump_new n op u a) last first bump_number part_is value_is ∙ ap (before t) (bumped_new n at u a op is)

    pub bump_names_are : {n2 : Names} → n2 ≡ with_registers (kept_types true [] (value_type u)) n1 → n2 ≡ with_registers (takes (unit_of n) (Node at u (Bump op a))) n
    bump_names_are last = last ∙ ap (with_registers (value_type u ∷ [])) names1 ∙ registers_then (bump_types n a) (value_type u ∷ []) n

    pub bump_value_is : {m : MonExpression} → m ≡ kept_value true (next_register n1.table) value → m ≡ result_by n (Node at u (Bump op a))
    bump_value_is last = last ∙ ap Register bump_number

    pub bump_alone_is : t2 ≡ before t1 (store part u value) → t2 ≡ before t (act_by n (Node at u (Bump op a)))
    bump_alone_is last = stored_as false u t (bump_setup n a) (old_register n a) (old_part n a) (bump_new n op u a) last first refl part_is value_is
