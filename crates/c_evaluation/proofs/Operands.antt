-- Operands that may be kept, and values from those of their operands.
use Rattle.std.proofs.Common.{◌≡◌, ℕ, ◌-◌, Bool, true, false, List, [], ◌∷◌, ◌++◌, length, take, drop, refl, ap, sym, subst, ◌∙◌, arith}
use Rattle.std.proofs.lemmas.List.{length-drop, take_all}
use Rattle.std.specs.Prelude.{pos}
use Rattle.c_syntax.specs.declared.expression.BinOp.{BinOp}
use Rattle.c_syntax.specs.declared.expression.BumpOp.{BumpOp}
use Rattle.c_syntax.specs.declared.place.Place.{Place}
use Rattle.c_syntax.specs.Ctypes.{PlainType, int_type}
use Rattle.c_syntax.specs.Expressions.{Expression, Expressions, Following, Node, Binary, Index, type_of}
use Rattle.c_syntax.specs.declared.program.Layout.{Layout}
use Rattle.c_syntax.specs.Programs.{StructType}
use Rattle.c_model.specs.Meaning.{bump_operator}
use Rattle.mon_syntax.specs.declared.tree.MonType.{MonType}
use Rattle.mon_syntax.specs.declared.tree.MonType.TheVariants.{I32}
use Rattle.mon_syntax.specs.Registers.{Names, next_register}
use Rattle.mon_syntax.specs.Trees.{MonExpression, MonStatements, Register, Constant}
use Rattle.c_effects.specs.Expressions.{before, compound, indexed, operated, set, value_type}
use Rattle.c_effects.specs.Effects.{current}
use Rattle.c_effects.specs.Full.{all_takes, keeps, keeps_all, kept_setup, kept_types, kept_value, member_type, object_takes, stepped, takes}
use Rattle.c_effects.specs.Named.{unit_of, with_registers}
use Rattle.c_effects.proofs.Sequences.{before_assoc, grown_behind, more_behind, registers_grown}
use Rattle.c_effects.specs.Letters.{ValueHasLetters, ValuesHaveLetters}
use Rattle.c_evaluation.specs.Evaluated.{all_results_by, location_by, object_by, operand_by, operand_setup_by, operand_takes, prepare_all_by, prepare_by, result_by}
use Rattle.c_evaluation.specs.Ready.{bump_new, early_new, late_new, old_part, old_register, old_types, right_new, right_part, right_types}
use Rattle.c_evaluation.proofs.Acts.{taken_then}
use Rattle.c_evaluation.proofs.Assignments.{kept_registers}

-- the layouts of a function's program
abbrev pub layouts_of : Names → List Layout
layouts_of n = n.program.structs.items

-- what is kept after other statements
kept_behind : (kept : Bool) (r : ℕ) (t x : MonStatements) (v : MonExpression) → kept_setup kept r (before t x) v ≡ before t (kept_setup kept r x v)
kept_behind true r t x v = before_assoc t x (set r v)
kept_behind false r t x v = refl

module _ (n n1 : Names) (t t1 : MonStatements) (keep : Bool) (e : Expression) (v : MonExpression) (first : t1 ≡ before t (prepare_by n e)) (names : n1 ≡ with_registers (takes (unit_of n) e) n)
    (v_is : v ≡ result_by n e) where
  number : next_register n1.table ≡ length (n.table.kinds ++ takes (unit_of n) e)
  number = ap (λ (m : Names). next_register m.table) names

  pub operand_setup : {t2 : MonStatements} → t2 ≡ kept_setup keep (next_register n1.table) t1 v → t2 ≡ before t (operand_setup_by n keep e)
  operand_setup last =
      last ∙ (λ i. kept_setup keep (number i) (first i) (v_is i)) ∙ kept_behind keep (length (n.table.kinds ++ takes (unit_of n) e)) t (prepare_by n e) (result_by n e)

  pub operand_value : {m : MonExpression} → m ≡ kept_value keep (next_register n1.table) v → m ≡ operand_by n keep e
  operand_value last = last ∙ (λ i. kept_value keep (number i) (v_is i))

  pub operand_names : (u : MonType) {n2 : Names} → u ≡ value_type (type_of e) → n2 ≡ with_registers (kept_types keep [] u) n1 → n2 ≡ with_registers (operand_takes (unit_of n) keep e) n
  operand_names u u_is last = last ∙ (λ i. with_registers (kept_types keep [] (u_is i)) (names i)) ∙ kept_registers keep (takes (unit_of n) e) (value_type (type_of e)) n

-- ---- two operands, of which the first one may be kept

module _ (n n1 : Names) (at : Place) (u : PlainType) (a b : Expression) (keep : Bool) (kept : keep ≡ keeps a b) (names : n1 ≡ with_registers (operand_takes (unit_of n) keep a) n) where
  behind : n1 ≡ with_registers (operand_takes (unit_of n) (keeps a b) a) n
  behind = names ∙ ap (λ q. with_registers (operand_takes (unit_of n) q a) n) kept

  pub both_taken : {n2 : Names} → n2 ≡ with_registers (takes (unit_of n1) b) n1 → n2 ≡ with_registers (operand_takes (unit_of n) (keeps a b) a ++ takes (unit_of n) b) n
  both_taken second = taken_then n (operand_takes (unit_of n) (keeps a b) a) (λ p. takes p b) behind second

  module _ (v w : MonExpression) (v_is : v ≡ operand_by n keep a) (w_is : w ≡ result_by n1 b) where
    first_at : v ≡ operand_by n (keeps a b) a
    first_at = v_is ∙ ap (λ q. operand_by n q a) kept

    second_at : w ≡ result_by (with_registers (operand_takes (unit_of n) (keeps a b) a) n) b
    second_at = w_is ∙ ap (λ m. result_by m b) behind

    pub operated_is : (op : BinOp) {structs : List StructType} {m : MonExpression} → structs ≡ (unit_of n).structs → m ≡ operated structs op (type_of a) (type_of b) v w → m ≡ result_by n (Node at u (Binary op a b))
    operated_is op structs_are last = last ∙ (λ i. operated (structs_are i) op (type_of a) (type_of b) (first_at i) (second_at i))

    pub indexed_is : {structs : List StructType} {m : MonExpression} → structs ≡ (unit_of n).structs → m ≡ indexed structs (type_of a) (type_of b) v w → m ≡ location_by n (Node at u (Index a b))
    indexed_is structs_are last = last ∙ (λ i. indexed (structs_are i) (type_of a) (type_of b) (first_at i) (second_at i))

-- ---- new values of objects

module _ (n : Names) (op : BinOp) (u : PlainType) (a b : Expression) {structs : List StructType} {m : MonExpression} (structs_are : structs ≡ (unit_of n).structs) where
  pub late_is : (part : ℕ) (old right : MonExpression) → part ≡ right_part n a b → old ≡ current part u → right ≡ right_new n a b → m ≡ compound structs op u (type_of b) old right → m ≡ late_new n op u a b
  late_is part old right part_is old_is right_is last =
      let old_at : old ≡ current (right_part n a b) u = old_is ∙ ap (λ k. current k u) part_is in
      last ∙ (λ i. compound (structs_are i) op u (type_of b) (old_at i) (right_is i))

  pub early_is : (n1 : Names) (register : ℕ) (old right : MonExpression) → n1 ≡ with_registers (old_types n u a) n → register ≡ old_register n a → old ≡ Register register → right ≡ result_by n1 b
      → m ≡ compound structs op u (type_of b) old right → m ≡ early_new n op u a b
  early_is n1 register old right names register_is old_is right_is last =
      let old_at : old ≡ Register (old_register n a) = old_is ∙ ap Register register_is in
      let right_at : right ≡ result_by (with_registers (old_types n u a) n) b = right_is ∙ ap (λ l. result_by l b) names in
      last ∙ (λ i. compound (structs_are i) op u (type_of b) (old_at i) (right_at i))

pub bumped_is : (n : Names) (op : BumpOp) (u : PlainType) (a : Expression) {structs : List StructType} {m : MonExpression} → structs ≡ (unit_of n).structs
    → (part : ℕ) (old : MonExpression) → part ≡ old_part n a → old ≡ current part u → m ≡ compound structs (bump_operator op) u int_type old (Constant I32 (pos 1)) → m ≡ bump_new n op u a
bumped_is n op u a structs_are part old part_is old_is last =
    let old_at : old ≡ current (old_part n a) u = old_is ∙ ap (λ k. current k u) part_is in
    last ∙ (λ i. compound (structs_are i) (bump_operator op) u int_type (old_at i) (Constant I32 (pos 1)))

-- the object and the right side, and the member behind them
module _ (n n1 n2 n3 : Names) (a b : Expression) (first : n1 ≡ with_registers (object_takes (unit_of n) a) n) where
  pub right_new_is : {m : MonExpression} → m ≡ result_by n1 b → m ≡ right_new n a b
  right_new_is last = last ∙ ap (λ l. result_by l b) first

  pub right_names_are : n2 ≡ with_registers (takes (unit_of n1) b) n1 → n3 ≡ with_registers (member_type a) n2 → n3 ≡ with_registers (right_types n a b) n
  right_names_are second third =
      taken_then n (object_takes (unit_of n) a ++ takes (unit_of n) b) (λ p. member_type a) (taken_then n (object_takes (unit_of n) a) (λ p. takes p b) first second) third

-- the pointer to what was assigned
pub stepped_is : (n : Names) (a : Expression) {structs : List StructType} {m : MonExpression} (r : ℕ) → structs ≡ (unit_of n).structs → r ≡ object_by n a → m ≡ stepped structs a (Register r)
    → m ≡ stepped (unit_of n).structs a (Register (object_by n a))
stepped_is n a r structs_are r_is last = last ∙ (λ i. stepped (structs_are i) a (Register (r_is i)))

-- ---- one more argument, which may be kept

-- all that is behind an argument
pub rest_all : {A : Type 0} (l : List A) (k : ℕ) → take (length l - k) (drop k l) ≡ drop k l
rest_all l k = let n = length-drop k l in take_all (length l - k) (drop k l) (omega (arith, n))

module _ (n n1 : Names) (e : Expression) (es : Expressions) (left : Expressions) (left_is : left ≡ Following e es) (keep : Bool) (kept : keep ≡ keeps_all e es)
    (names : n1 ≡ with_registers (operand_takes (unit_of n) keep e) n) where
  argument_behind : n1 ≡ with_registers (operand_takes (unit_of n) (keeps_all e es) e) n
  argument_behind = names ∙ ap (λ q. with_registers (operand_takes (unit_of n) q e) n) kept

  pub argument_names : {all : Names} → with_registers (all_takes (unit_of n) left) n ≡ all → with_registers (all_takes (unit_of n1) es) n1 ≡ all
  argument_names known =
      ap (λ (m : Names). with_registers (all_takes (unit_of m) es) m) argument_behind
      ∙ registers_grown n (operand_takes (unit_of n) (keeps_all e es) e) (all_takes (unit_of n) es) (ap (all_takes (unit_of n)) left_is) refl known

  pub argument_setup : (t : MonStatements) {t1 all : MonStatements} → t1 ≡ before t (operand_setup_by n keep e) → before t (prepare_all_by n left) ≡ all → before t1 (prepare_all_by n1 es) ≡ all
  argument_setup t first known =
      more_behind t (operand_setup_by n (keeps_all e es) e) (with_registers (operand_takes (unit_of n) (keeps_all e es) e) n) (λ m. prepare_all_by m es) (ap (prepare_all_by n) left_is)
      (first ∙ ap (λ q. before t (operand_setup_by n q e)) kept) argument_behind known

  pub argument_values : (vs : List MonExpression) {ws all : List MonExpression} (v : MonExpression) → v ≡ operand_by n keep e → ws ≡ vs ++ v ∷ [] → vs ++ all_results_by n left ≡ all → ws ++ all_results_by n1 es ≡ all
  argument_values vs v v_is pushed known =
      grown_behind vs (operand_by n (keeps_all e es) e ∷ []) (with_registers (operand_takes (unit_of n) (keeps_all e es) e) n) (λ m. all_results_by m es) (ap (all_results_by n) left_is)
      (pushed ∙ ap (λ w. vs ++ w ∷ []) (v_is ∙ ap (λ q. operand_by n q e) kept)) argument_behind known

  pub argument_letters : {P : Type 0} → ValueHasLetters e → (ValuesHaveLetters left → P) → ValuesHaveLetters es → P
  argument_letters of_e known of_es = known (subst ValuesHaveLetters (sym left_is) (of_e, of_es))
