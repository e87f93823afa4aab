-- Assignments and increments from their parts: the object, the right side, the member and the store.
use Rattle.std.proofs.Common.{◌≡◌, ℕ, Bool, true, false, not, List, [], ◌∷◌, ◌++◌, length, refl, ap, sym, ◌∙◌, true≢false}
use Rattle.std.proofs.lemmas.List.{append-nil, append_assoc}
use Rattle.std.specs.Prelude.{pos, Option, Some, None, if◌then◌else◌}
use Rattle.c_syntax.specs.declared.expression.BinOp.{BinOp}
use Rattle.c_syntax.specs.declared.expression.BumpOp.{BumpOp}
use Rattle.c_syntax.specs.declared.place.Place.{Place}
use Rattle.c_syntax.specs.Ctypes.{PlainType, int_type}
use Rattle.c_syntax.specs.Expressions.{Expression, Node, Variable, Assign, Bump, type_of}
use Rattle.c_syntax.specs.Layouts.{Scalar, scalar_of, scalars_of}
use Rattle.c_syntax.specs.Programs.{TranslationUnit}
use Rattle.c_model.specs.ExpressionTyping.{is_scalar}
use Rattle.c_model.specs.Library.{is_there}
use Rattle.c_model.specs.Meaning.{bump_operator}
use Rattle.mon_syntax.specs.declared.tree.MonType.{MonType}
use Rattle.mon_syntax.specs.declared.tree.MonType.TheVariants.{I32}
use Rattle.mon_syntax.specs.Registers.{Names, next_register}
use Rattle.mon_syntax.specs.Trees.{MonExpression, MonStatements, Register, Constant}
use Rattle.c_effects.specs.Expressions.{before, compound, set, value_type}
use Rattle.c_effects.specs.Effects.{copies_at, current, is_direct, store}
use Rattle.c_effects.specs.Full.{act_takes, assigned_setup, assigned_types, bumped_setup, changed_register, changed_setup, changed_types, gives_old, inner_offset, is_pure, is_settled}
use Rattle.c_effects.specs.Full.{kept_types, kept_value, member_register, member_setup, member_type, object_takes, prepare, result, stored, takes, value_of}
use Rattle.c_effects.specs.Named.{unit_of, with_registers}
use Rattle.c_effects.specs.Letters.{ValueHasLetters}
use Rattle.c_evaluation.specs.Evaluated.{act_by, object_by, object_setup_by, prepare_by, result_by}
use Rattle.c_evaluation.specs.Ready.{bump_new, bump_setup, change_new, change_part, change_setup, change_types, early_new, early_setup, early_types, late_new}
use Rattle.c_evaluation.specs.Ready.{objects_assigned, old_part, old_register, old_taken, right_member, right_new, right_part, right_setup, right_types}
use Rattle.c_effects.proofs.Sequences.{before_assoc, registers_then}

-- ---- parts after one another

pub pair : (t : MonStatements) {t1 t2 : MonStatements} (x y : MonStatements) → t1 ≡ before t x → t2 ≡ before t1 y → t2 ≡ before t (before x y)
pair t x y first second = second ∙ ap (λ s. before s y) first ∙ before_assoc t x y

-- after what stands there, in place of after nothing
pub stored_behind : (kept : Bool) (v part : ℕ) (u : PlainType) (t x : MonStatements) (value : MonExpression)
    → stored kept v part u (before t x) value ≡ before t (stored kept v part u x value)
stored_behind true v part u t x value =
    ap (λ s. before s (store part u (Register v))) (before_assoc t x (set v value)) ∙ before_assoc t (before x (set v value)) (store part u (Register v))
stored_behind false v part u t x value = before_assoc t x (store part u value)

pub kept_registers : (kept : Bool) (ts : List MonType) (u : MonType) (n : Names) → with_registers (kept_types kept [] u) (with_registers ts n) ≡ with_registers (kept_types kept ts u) n
kept_registers true ts u n = registers_then ts (u ∷ []) n
kept_registers false ts u n = registers_then ts [] n ∙ ap (λ l. with_registers l n) (append-nil ts)

-- registers after others
pub behind_two : (rs o m : List MonType) → rs ++ (o ++ m) ≡ rs ++ o ++ m
behind_two rs o m = sym (append_assoc rs o m)

pub behind_three : (rs o t m : List MonType) → rs ++ (o ++ t ++ m) ≡ rs ++ o ++ t ++ m
behind_three rs o t m = behind_two rs (o ++ t) m ∙ ap (λ l. l ++ m) (behind_two rs o t)

pub behind_four : (rs o m x t : List MonType) → rs ++ (o ++ m ++ x ++ t) ≡ rs ++ o ++ m ++ x ++ t
behind_four rs o m x t = behind_two rs (o ++ m ++ x) t ∙ ap (λ l. l ++ t) (behind_three rs o m x)

-- what is stored after other statements, from another register
pub stored_as : (kept : Bool) (u : PlainType) {t2 t1 : MonStatements} {v part : ℕ} {value : MonExpression} (t x : MonStatements) (w q : ℕ) (new : MonExpression)
    → t2 ≡ stored kept v part u t1 value → t1 ≡ before t x → v ≡ w → part ≡ q → value ≡ new → t2 ≡ before t (stored kept w q u x new)
stored_as kept u t x w q new last first v_is part_is value_is =
    last ∙ (λ i. stored kept (v_is i) (part_is i) u (first i) (value_is i)) ∙ stored_behind kept w q u t x new

-- a variable has no letters
pub direct_letters : (p : TranslationUnit) (e : Expression) → is_direct p e ≡ true → ValueHasLetters e
direct_letters p (Node at t (Variable x)) test = tt
direct_letters p _ test = absurd (true≢false (sym test))

module _ (n n1 : Names) (t t1 : MonStatements) (a : Expression) (r : ℕ) (r_is : r ≡ object_by n a) (first : t1 ≡ before t (object_setup_by n a))
    (names1 : n1 ≡ with_registers (object_takes (unit_of n) a) n) where
  -- the member after a right side
  module _ (n2 : Names) (t2 t3 : MonStatements) (b : Expression) (second : t2 ≡ before t1 (prepare_by n1 b)) (names2 : n2 ≡ with_registers (takes (unit_of n1) b) n1) where
    behind : n2 ≡ with_registers (takes (unit_of n) b) (with_registers (object_takes (unit_of n) a) n)
    behind = names2 ∙ ap (λ m. with_registers (takes (unit_of m) b) m) names1

    pub right_part_is : (k : ℕ) → k ≡ member_register r (next_register n2.table) a → k ≡ right_part n a b
    right_part_is k is = is ∙ (λ i. member_register (r_is i) (next_register (behind i).table) a)

    pub right_setup_is : t3 ≡ before t2 (member_setup (unit_of n2).structs r (next_register n2.table) a) → t3 ≡ before t (right_setup n a b)
    right_setup_is third =
        let right = prepare_by (with_registers (object_takes (unit_of n) a) n) b in
        let member = member_setup (unit_of n).structs (object_by n a) (right_member n a b) a in
        pair t (object_setup_by n a) (before right member) first
        (pair t1 right member (second ∙ ap (λ m. before t1 (prepare_by m b)) names1)
        (third ∙ (λ i. before t2 (member_setup (unit_of (behind i)).structs (r_is i) (next_register (behind i).table) a))))

  -- the member at once
  module _ (t2 : MonStatements) where
    pub old_part_is : (k : ℕ) → k ≡ member_register r (next_register n1.table) a → k ≡ old_part n a
    old_part_is k is = is ∙ (λ i. member_register (r_is i) (next_register (names1 i).table) a)

    pub bump_setup_is : t2 ≡ before t1 (member_setup (unit_of n1).structs r (next_register n1.table) a) → t2 ≡ before t (bump_setup n a)
    bump_setup_is second =
        pair t (object_setup_by n a) (member_setup (unit_of n).structs (object_by n a) (length (n.table.kinds ++ object_takes (unit_of n) a)) a) first
        (second ∙ (λ i. before t1 (member_setup (unit_of (names1 i)).structs (r_is i) (next_register (names1 i).table) a)))

    pub old_register_is : (n2 : Names) (number : ℕ) → n2 ≡ with_registers (member_type a) n1 → number ≡ next_register n2.table → number ≡ old_register n a
    old_register_is n2 number names2 is = is ∙ ap (λ (m : Names). next_register m.table) (names2 ∙ ap (with_registers (member_type a)) names1)

    -- the old value in a register
    pub old_taken_is : (n2 : Names) (t3 : MonStatements) (u : PlainType) (k number : ℕ) (old : MonExpression) → t2 ≡ before t1 (member_setup (unit_of n1).structs r (next_register n1.table) a)
        → k ≡ member_register r (next_register n1.table) a → n2 ≡ with_registers (member_type a) n1 → number ≡ next_register n2.table → old ≡ current k u → t3 ≡ before t2 (set number old)
        → t3 ≡ before t (old_taken n u a)
    old_taken_is n2 t3 u k number old second k_is names2 number_is old_is last =
        let number_at : number ≡ old_register n a = old_register_is n2 number names2 number_is in
        let old_at : old ≡ current (old_part n a) u = old_is ∙ ap (λ j. current j u) (old_part_is k k_is) in
        pair t (bump_setup n a) (set (old_register n a) (current (old_part n a) u)) (bump_setup_is second) (last ∙ (λ i. before t2 (set (number_at i) (old_at i))))

-- ---- structs

module _ (n n1 : Names) (t t1 t2 t3 : MonStatements) (u : PlainType) (a b : Expression) (r d q e : ℕ) where
  pub objects_are : r ≡ object_by n a → t1 ≡ before t (object_setup_by n a) → n1 ≡ with_registers (object_takes (unit_of n) a) n → q ≡ object_by n1 b → t2 ≡ before t1 (object_setup_by n1 b)
      → d ≡ inner_offset (unit_of n).structs a → e ≡ inner_offset (unit_of n).structs b → t3 ≡ before t2 (copies_at r d q e (scalars_of (unit_of n).structs u)) → t3 ≡ before t (objects_assigned n u a b)
  objects_are r_is first names q_is second d_is e_is last =
      let n2 = with_registers (object_takes (unit_of n) a) n in
      let q_at : q ≡ object_by n2 b = q_is ∙ ap (λ m. object_by m b) names in
      let copies = copies_at (object_by n a) (inner_offset (unit_of n).structs a) (object_by n2 b) (inner_offset (unit_of n).structs b) (scalars_of (unit_of n).structs u) in
      pair t (object_setup_by n a) (before (object_setup_by n2 b) copies) first
      (pair t1 (object_setup_by n2 b) copies (second ∙ ap (λ m. before t1 (object_setup_by m b)) names)
      (last ∙ (λ i. before t2 (copies_at (r_is i) (d_is i) (q_at i) (e_is i) (scalars_of (unit_of n).structs u)))))

-- ---- whole expressions

module _ (n : Names) (at : Place) (u : PlainType) (a b : Expression) where
  -- a scalar, and a struct
  abbrev pub right_register : ℕ
  right_register = length (n.table.kinds ++ object_takes (unit_of n) a ++ takes (unit_of n) b ++ member_type a)

  pub right_behind : length (n.table.kinds ++ right_types n a b) ≡ right_register
  right_behind = ap length (behind_three n.table.kinds (object_takes (unit_of n) a) (takes (unit_of n) b) (member_type a))

  abbrev value_stored : Bool → MonStatements
  value_stored kept = stored kept right_register (right_part n a b) u (right_setup n a b) (right_new n a b)

  module _ (is : is_scalar u ≡ true) where
    some : {A : Type 0} (x : Option Scalar → A) (y : A) → ((k : Scalar) → y ≡ x (Some k)) → y ≡ x (scalar_of u)
    some x y f = by (scalar_of u) is
      where
        by : (o : Option Scalar) → is_there o ≡ true → y ≡ x o
        by (Some k) is = f k
        by None is = absurd (true≢false (sym is))

    pub assigned_value : kept_value (not (is_settled b)) right_register (right_new n a b) ≡ result_by n (Node at u (Assign None a b))
    assigned_value =
        let v = kept_value (not (is_settled b)) right_register (right_new n a b) in
        some (λ o. value_of o v) v (λ k. refl)

    abbrev types : Bool → Option Scalar → List MonType
    types kept o = assigned_types o kept (value_type u) a (object_takes (unit_of n) a) (takes (unit_of n) b) (object_takes (unit_of n) b)

    pub assigned_takes : kept_types (not (is_settled b)) (right_types n a b) (value_type u) ≡ takes (unit_of n) (Node at u (Assign None a b))
    assigned_takes = some (types (not (is_settled b))) (kept_types (not (is_settled b)) (right_types n a b) (value_type u)) (λ k. refl)

    pub alone_takes : right_types n a b ≡ act_takes (unit_of n) (Node at u (Assign None a b))
    alone_takes = some (types false) (right_types n a b) (λ k. refl)

    abbrev code : Bool → Option Scalar → MonStatements
    code kept o =
        let m = with_registers (object_takes (unit_of n) a) n in
        assigned_setup (unit_of n) n.table.bound n.table.kinds o kept u a b (object_setup_by n a) (prepare_by m b) (object_setup_by m b)

    pub assigned_code : value_stored (not (is_settled b)) ≡ prepare_by n (Node at u (Assign None a b))
    assigned_code = some (code (not (is_settled b))) (value_stored (not (is_settled b))) (λ k. refl)

    pub alone_code : value_stored false ≡ act_by n (Node at u (Assign None a b))
    alone_code = some (code false) (value_stored false) (λ k. refl)

  module _ (is : is_scalar u ≡ false) where
    none : {A : Type 0} (x : Option Scalar → A) (y : A) → y ≡ x None → y ≡ x (scalar_of u)
    none x y f = by (scalar_of u) is
      where
        by : (o : Option Scalar) → is_there o ≡ false → y ≡ x o
        by (Some k) is = absurd (true≢false is)
        by None is = f

    pub struct_value : (v : MonExpression) → v ≡ Constant I32 (pos 0) → v ≡ result_by n (Node at u (Assign None a b))
    struct_value v is_zero =
        is_zero ∙ none (λ o. value_of o (kept_value (not (is_settled b)) right_register (right_new n a b))) (Constant I32 (pos 0)) refl

    abbrev struct_types : Bool → Option Scalar → List MonType
    struct_types kept o = assigned_types o kept (value_type u) a (object_takes (unit_of n) a) (takes (unit_of n) b) (object_takes (unit_of n) b)

    pub struct_takes : object_takes (unit_of n) a ++ object_takes (unit_of n) b ≡ takes (unit_of n) (Node at u (Assign None a b))
    struct_takes = none (struct_types (not (is_settled b))) (object_takes (unit_of n) a ++ object_takes (unit_of n) b) refl

    pub struct_alone_takes : object_takes (unit_of n) a ++ object_takes (unit_of n) b ≡ act_takes (unit_of n) (Node at u (Assign None a b))
    struct_alone_takes = none (struct_types false) (object_takes (unit_of n) a ++ object_takes (unit_of n) b) refl

    abbrev struct_setup : Bool → Option Scalar → MonStatements
    struct_setup kept o =
        let m = with_registers (object_takes (unit_of n) a) n in
        assigned_setup (unit_of n) n.table.bound n.table.kinds o kept u a b (object_setup_by n a) (prepare_by m b) (object_setup_by m b)

    pub struct_code : objects_assigned n u a b ≡ prepare_by n (Node at u (Assign None a b))
    struct_code = none (struct_setup (not (is_settled b))) (objects_assigned n u a b) refl

    pub struct_alone_code : objects_assigned n u a b ≡ act_by n (Node at u (Assign None a b))
    struct_alone_code = none (struct_setup false) (objects_assigned n u a b) refl

  -- `op=`, by whether its right side is pure
  module _ (op : BinOp) where
    abbrev front : Bool → List MonType
    front q = if q then object_takes (unit_of n) a else object_takes (unit_of n) a ++ member_type a ++ value_type u ∷ []

    changed : (kept : Bool) → stored kept (changed_register (unit_of n) (is_pure b) n.table.kinds (value_type u) a b) (change_part n a b) u (change_setup n u a b) (change_new n op u a b)
        ≡ changed_setup (unit_of n) n.table.bound n.table.kinds (is_pure b) kept op u a b (object_setup_by n a) (prepare (unit_of n) n.table.bound (n.table.kinds ++ front (is_pure b)) b)
    changed kept = by (is_pure b)
      where
        by : (q : Bool) → stored kept (changed_register (unit_of n) q n.table.kinds (value_type u) a b) (if q then right_part n a b else old_part n a) u
            (if q then right_setup n a b else early_setup n u a b) (if q then late_new n op u a b else early_new n op u a b)
            ≡ changed_setup (unit_of n) n.table.bound n.table.kinds q kept op u a b (object_setup_by n a) (prepare (unit_of n) n.table.bound (n.table.kinds ++ front q) b)
        by true = refl
        by false =
            ap (λ l. stored kept (changed_register (unit_of n) false n.table.kinds (value_type u) a b) (old_part n a) u (early_setup n u a b)
            (compound (unit_of n).structs op u (type_of b) (Register (old_register n a)) (result (unit_of n) n.table.bound l b)))
            (behind_three n.table.kinds (object_takes (unit_of n) a) (member_type a) (value_type u ∷ []))

    pub changed_code : stored true (changed_register (unit_of n) (is_pure b) n.table.kinds (value_type u) a b) (change_part n a b) u (change_setup n u a b) (change_new n op u a b)
        ≡ prepare_by n (Node at u (Assign (Some op) a b))
    changed_code = changed true

    pub changed_alone : stored false (changed_register (unit_of n) (is_pure b) n.table.kinds (value_type u) a b) (change_part n a b) u (change_setup n u a b) (change_new n op u a b)
        ≡ act_by n (Node at u (Assign (Some op) a b))
    changed_alone = changed false

    pub changed_alone_takes : change_types n u a b ≡ act_takes (unit_of n) (Node at u (Assign (Some op) a b))
    changed_alone_takes = by (is_pure b)
      where
        by : (q : Bool) → (if q then right_types n a b else early_types n u a b)
            ≡ changed_types q (value_type u) a (object_takes (unit_of n) a) (takes (unit_of n) b)
        by true = refl
        by false = refl

    pub changed_takes : change_types n u a b ++ value_type u ∷ [] ≡ takes (unit_of n) (Node at u (Assign (Some op) a b))
    changed_takes = ap (λ ts. ts ++ value_type u ∷ []) changed_alone_takes

    pub changed_behind : length (n.table.kinds ++ change_types n u a b) ≡ changed_register (unit_of n) (is_pure b) n.table.kinds (value_type u) a b
    changed_behind = by (is_pure b)
      where
        by : (q : Bool) → length (n.table.kinds ++ (if q then right_types n a b else early_types n u a b)) ≡ changed_register (unit_of n) q n.table.kinds (value_type u) a b
        by true = right_behind
        by false = ap length (behind_four n.table.kinds (object_takes (unit_of n) a) (member_type a) (value_type u ∷ []) (takes (unit_of n) b))

-- ---- `++` and `--`

module _ (n : Names) (at : Place) (u : PlainType) (a : Expression) (op : BumpOp) where
  -- the new value, from the old one in its register
  abbrev old_new : MonExpression
  old_new = compound (unit_of n).structs (bump_operator op) u int_type (Register (old_register n a)) (Constant I32 (pos 1))

  abbrev code_for : Bool → MonStatements
  code_for q = bumped_setup (unit_of n) n.table.bound n.table.kinds q true op u a (object_setup_by n a)

  pub bumped_old : gives_old op ≡ true → before (old_taken n u a) (store (old_part n a) u old_new) ≡ prepare_by n (Node at u (Bump op a))
  bumped_old is = ap code_for (sym is)

  pub bumped_new : gives_old op ≡ false
      → stored true (old_register n a) (old_part n a) u (bump_setup n a) (bump_new n op u a) ≡ prepare_by n (Node at u (Bump op a))
  bumped_new is = ap code_for (sym is)
