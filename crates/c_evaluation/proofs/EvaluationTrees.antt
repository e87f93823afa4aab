-- The translation of expressions with effects, from its parts.
use Rattle.std.proofs.Common.{◌≡◌, ◌⊎◌, inl, inr, ℕ, ℤ, Bool, [], ◌∷◌, ◌++◌, length, refl, ap, subst, sym, ◌∙◌, append_assoc}
use Rattle.std.specs.Prelude.{IfOk, List, OnOk, Option, None, Result, Some, Vec}
use Rattle.std.specs.declared.alloc.AllocError.{AllocError}
use Rattle.std.specs.declared.alloc.Global.{Global}
use Rattle.c_syntax.specs.declared.expression.BinOp.{BinOp}
use Rattle.c_syntax.specs.declared.expression.BumpOp.{BumpOp}
use Rattle.c_syntax.specs.declared.expression.UnOp.{UnOp}
use Rattle.c_syntax.specs.declared.expression.UnOp.TheVariants as prefix
use Rattle.c_syntax.specs.declared.expression.Use.{Use}
use Rattle.c_syntax.specs.declared.types.CInt.{CInt}
use Rattle.c_syntax.specs.declared.types.CType.{CType}
use Rattle.c_syntax.specs.declared.place.Place.{Place}
use Rattle.c_syntax.specs.declared.expression.Expr.{Expr}
use Rattle.c_syntax.specs.declared.expression.ExprKind.{ExprKind}
use Rattle.c_syntax.specs.declared.expression.ExprKind as code
use Rattle.c_syntax.specs.Ctypes.{PlainType, plain_type}
use Rattle.c_syntax.specs.Expressions.{Expression, Expressions, Node, Assign, Unary, Binary, Index, Both, Either, Choice, Comma, plain_expr, plain_kind}
use Rattle.mon_syntax.specs.declared.tree.MonExpr.{MonExpr}
use Rattle.mon_syntax.specs.declared.tree.MonType.{MonType}
use Rattle.mon_syntax.specs.Registers.{Names, next_register}
use Rattle.mon_syntax.specs.Trees.{MonExpression, MonStatements, If, Register, plain_expr as plain_monitored}
use Rattle.c_effects.specs.Expressions.{before, one, set}
use Rattle.c_effects.specs.Effects.{call}
use Rattle.c_effects.specs.Full.{act_takes, all_takes, keeps, takes}
use Rattle.c_evaluation.specs.Evaluated.{act_by, all_results_by, both_code_by, condition_result_by, either_code_by, location_by, operand_setup_by, origin_by, operand_takes, prepare_all_by, prepare_by, result_by}
use Rattle.c_effects.specs.Named.{unit_of, with_registers}
use Rattle.c_effects.proofs.Sequences.{before_assoc, registers_then}
use Rattle.c_evaluation.proofs.Acts.{taken_then}

-- two parts, of which the second begins with other names
pub two : (n1 m : Names) (t : MonStatements) {t1 t2 : MonStatements} (x : MonStatements) (y : Names → MonStatements) → t1 ≡ before t x → n1 ≡ m → t2 ≡ before t1 (y n1) → t2 ≡ before t (before x (y m))
two n1 m t x y first names second = second ∙ (λ i. before (first i) (y (names i))) ∙ before_assoc t x (y m)

-- the register behind those of an expression, which is set behind its statements
pub register_behind : (n n1 : Names) (e : Expression) → n1 ≡ with_registers (takes (unit_of n) e) n → {r : ℕ} → r ≡ next_register n1.table → r ≡ length (n.table.kinds ++ takes (unit_of n) e)
register_behind n n1 e names last = last ∙ ap (λ (m : Names). next_register m.table) names

pub set_behind : (n n1 : Names) (t : MonStatements) {t1 t2 : MonStatements} (e : Expression) (v w : MonExpression) → t1 ≡ before t (prepare_by n e) → n1 ≡ with_registers (takes (unit_of n) e) n → v ≡ w
    → t2 ≡ before t1 (set (next_register n1.table) v) → t2 ≡ before t (before (prepare_by n e) (set (length (n.table.kinds ++ takes (unit_of n) e)) w))
set_behind n n1 t e v w first names v_is last =
    last ∙ (λ i. before (first i) (set (next_register (names i).table) (v_is i))) ∙ before_assoc t (prepare_by n e) (set (length (n.table.kinds ++ takes (unit_of n) e)) w)

-- a call behind its arguments
pub called_is : (n n1 n2 : Names) (t : MonStatements) {t1 t2 : MonStatements} (es : Expressions) (f : Use) {to into : Option ℕ} {vs : List MonExpression} → t1 ≡ before t (prepare_all_by n es)
    → n1 ≡ with_registers (all_takes (unit_of n) es) n → unit_of n2 ≡ unit_of n1 → to ≡ into → vs ≡ all_results_by n es → t2 ≡ before t1 (call (unit_of n2) to f es vs)
    → t2 ≡ before t (before (prepare_all_by n es) (call (unit_of n) into f es (all_results_by n es)))
called_is n n1 n2 t es f {into = into} first names same to_is values last =
    let here : unit_of n2 ≡ unit_of n = same ∙ ap unit_of names in
    last ∙ (λ i. before (first i) (call (here i) (to_is i) f es (values i))) ∙ before_assoc t (prepare_all_by n es) (call (unit_of n) into f es (all_results_by n es))

pub last_register : {m : MonExpression} {r q : ℕ} → m ≡ Register r → r ≡ q → m ≡ Register q
last_register is same = is ∙ ap Register same

module _ (n n1 : Names) (t t1 t2 : MonStatements) (at : Place) (u : PlainType) (a b : Expression) where
  -- the left operand may be kept
  module _ (keep : Bool) (kept : keep ≡ keeps a b) (names : n1 ≡ with_registers (operand_takes (unit_of n) keep a) n) (first : t1 ≡ before t (operand_setup_by n keep a)) where
    left_names : n1 ≡ with_registers (operand_takes (unit_of n) (keeps a b) a) n
    left_names = names ∙ ap (λ q. with_registers (operand_takes (unit_of n) q a) n) kept

    left_setup : t1 ≡ before t (operand_setup_by n (keeps a b) a)
    left_setup = first ∙ ap (λ q. before t (operand_setup_by n q a)) kept

    pub of_binary : (op : BinOp) → t2 ≡ before t1 (prepare_by n1 b) → t2 ≡ before t (prepare_by n (Node at u (Binary op a b)))
    of_binary op second =
        two n1 (with_registers (operand_takes (unit_of n) (keeps a b) a) n) t (operand_setup_by n (keeps a b) a) (λ m. prepare_by m b) left_setup left_names second

    pub of_element : t2 ≡ before t1 (prepare_by n1 b) → t2 ≡ before t (prepare_by n (Node at u (Index a b)))
    of_element second =
        two n1 (with_registers (operand_takes (unit_of n) (keeps a b) a) n) t (operand_setup_by n (keeps a b) a) (λ m. prepare_by m b) left_setup left_names second

  -- the left side of a comma stands for its effects
  module _ (names : n1 ≡ with_registers (act_takes (unit_of n) a) n) (first : t1 ≡ before t (act_by n a)) where
    pub of_comma : t2 ≡ before t1 (prepare_by n1 b) → t2 ≡ before t (prepare_by n (Node at u (Comma a b)))
    of_comma second = two n1 (with_registers (act_takes (unit_of n) a) n) t (act_by n a) (λ m. prepare_by m b) first names second

    pub of_both_sides : t2 ≡ before t1 (act_by n1 b) → t2 ≡ before t (act_by n (Node at u (Comma a b)))
    of_both_sides second = two n1 (with_registers (act_takes (unit_of n) a) n) t (act_by n a) (λ m. act_by m b) first names second

  module _ (names : n1 ≡ with_registers (takes (unit_of n) a) n) (test : MonExpression) (first : t1 ≡ before t (prepare_by n a)) (test_is : test ≡ condition_result_by n a) where
    -- from what is made of the test
    made : (f : MonExpression → Names → MonStatements) → t2 ≡ before t1 (f test n1) → t2 ≡ before t (before (prepare_by n a) (f (condition_result_by n a) (with_registers (takes (unit_of n) a) n)))
    made f last = last ∙ (λ i. before (first i) (f (test_is i) (names i))) ∙ before_assoc t (prepare_by n a) (f (condition_result_by n a) (with_registers (takes (unit_of n) a) n))

    pub of_both : t2 ≡ before t1 (both_code_by n1 test b) → t2 ≡ before t (prepare_by n (Node at u (Both a b)))
    of_both last = made (λ m l. both_code_by l m b) last

    pub of_either : t2 ≡ before t1 (either_code_by n1 test b) → t2 ≡ before t (prepare_by n (Node at u (Either a b)))
    of_either last = made (λ m l. either_code_by l m b) last

    -- the `if` that makes the choice
    abbrev chosen : Expression → MonExpression → Names → MonStatements
    chosen c m l =
        let register = length (l.table.kinds ++ takes (unit_of l) b ++ takes (unit_of l) c) in
        one (If m (before (prepare_by l b) (set register (result_by l b)))
        (before (prepare_by (with_registers (takes (unit_of l) b) l) c) (set register (result_by (with_registers (takes (unit_of l) b) l) c))))

    pub of_choice : (c : Expression) (n2 n3 : Names) (on off : MonStatements) (v w : MonExpression) (register : ℕ) → on ≡ prepare_by n1 b → v ≡ result_by n1 b → n2 ≡ with_registers (takes (unit_of n1) b) n1
        → off ≡ prepare_by n2 c → w ≡ result_by n2 c → n3 ≡ with_registers (takes (unit_of n2) c) n2 → register ≡ next_register n3.table
        → t2 ≡ before t1 (one (If test (before on (set register v)) (before off (set register w)))) → t2 ≡ before t (prepare_by n (Node at u (Choice a b c)))
    of_choice c n2 n3 on off v w register on_is v_is names2 off_is w_is names3 register_is last =
        let number : register ≡ length (n1.table.kinds ++ takes (unit_of n1) b ++ takes (unit_of n1) c) =
        register_is ∙ ap (λ (m : Names). next_register m.table) names3 ∙ ap (λ (m : Names). length (m.table.kinds ++ takes (unit_of m) c)) names2 in
        let off_at = off_is ∙ ap (λ l. prepare_by l c) names2 in
        let w_at = w_is ∙ ap (λ l. result_by l c) names2 in
        made (chosen c) (last ∙ (λ i. before t1 (one (If test (before (on_is i) (set (number i) (v_is i))) (before (off_at i) (set (number i) (w_at i)))))))

-- ---- the registers of what is in one that is set where a side was evaluated

module _ (n n1 : Names) (a b : Expression) (names : n1 ≡ with_registers (takes (unit_of n) a) n) where
  pub second_register : {m : MonExpression} → m ≡ Register (length (n1.table.kinds ++ takes (unit_of n1) b)) → m ≡ Register (length (n.table.kinds ++ takes (unit_of n) a ++ takes (unit_of n) b))
  second_register last = last ∙ ap (λ (l : Names). Register (length (l.table.kinds ++ takes (unit_of l) b))) names

  pub second_names : (u : MonType) {n2 : Names} → n2 ≡ with_registers (takes (unit_of n1) b ++ u ∷ []) n1 → n2 ≡ with_registers (takes (unit_of n) a ++ takes (unit_of n) b ++ u ∷ []) n
  second_names u last =
      taken_then n (takes (unit_of n) a) (λ p. takes p b ++ u ∷ []) names last ∙ ap (λ ts. with_registers ts n) (sym (append_assoc (takes (unit_of n) a) (takes (unit_of n) b) (u ∷ [])))

  -- of two of which one is evaluated
  module _ (c : Expression) (n2 n3 : Names) (names2 : n2 ≡ with_registers (takes (unit_of n1) b) n1) (names3 : n3 ≡ with_registers (takes (unit_of n2) c) n2) where
    pub third_register : (r : ℕ) {m : MonExpression} → r ≡ next_register n3.table → m ≡ Register r → m ≡ Register (length (n.table.kinds ++ takes (unit_of n) a ++ takes (unit_of n) b ++ takes (unit_of n) c))
    third_register r r_is last =
        last ∙ ap Register (r_is ∙ ap (λ (l : Names). next_register l.table) names3 ∙ ap (λ (l : Names). length (l.table.kinds ++ takes (unit_of l) c)) names2
        ∙ ap (λ (l : Names). length (l.table.kinds ++ takes (unit_of l) b ++ takes (unit_of l) c)) names)

    pub third_names : (u v : MonType) {n4 : Names} → u ≡ v → n4 ≡ with_registers (u ∷ []) n3 → n4 ≡ with_registers (takes (unit_of n) a ++ takes (unit_of n) b ++ takes (unit_of n) c ++ v ∷ []) n
    third_names u v u_is last =
        let two = taken_then n (takes (unit_of n) a) (λ p. takes p b) names names2 in
        let three = taken_then n (takes (unit_of n) a ++ takes (unit_of n) b) (λ p. takes p c) two names3 in
        last ∙ (λ i. with_registers (u_is i ∷ []) (three i)) ∙ registers_then (takes (unit_of n) a ++ takes (unit_of n) b ++ takes (unit_of n) c) (v ∷ []) n

-- ---- trees at a known variant

pub binary_expr : (e : Expr) (op : BinOp) (a b : Expr) → e.kind.value ≡ code.Binary op a b → plain_expr e ≡ Node e.place (plain_type e.ctype) (Binary op (plain_expr a) (plain_expr b))
binary_expr e op a b is = ap (λ k. Node e.place (plain_type e.ctype) (plain_kind k)) is

pub index_expr : (e a b : Expr) → e.kind.value ≡ code.Index a b → plain_expr e ≡ Node e.place (plain_type e.ctype) (Index (plain_expr a) (plain_expr b))
index_expr e a b is = ap (λ k. Node e.place (plain_type e.ctype) (plain_kind k)) is

pub choice_expr : (e a b c : Expr) → e.kind.value ≡ code.Choice a b c → plain_expr e ≡ Node e.place (plain_type e.ctype) (Choice (plain_expr a) (plain_expr b) (plain_expr c))
choice_expr e a b c is = ap (λ k. Node e.place (plain_type e.ctype) (plain_kind k)) is

-- an assignment with an operator or without one: its own place plays no part

pub assign_expr : (e : Expr) (op : Option BinOp) (a b : Expr) → e.kind.value ≡ code.Assign op a b → plain_expr e ≡ Node e.place (plain_type e.ctype) (Assign op (plain_expr a) (plain_expr b))
assign_expr e op a b is = ap (λ k. Node e.place (plain_type e.ctype) (plain_kind k)) is

module _ (n : Names) (at to : Place) (u : PlainType) where
  pub prepare_placed : (op : Option BinOp) (a b : Expression) → prepare_by n (Node at u (Assign op a b)) ≡ prepare_by n (Node to u (Assign op a b))
  prepare_placed None a b = refl
  prepare_placed (Some op) a b = refl

  pub result_placed : (op : Option BinOp) (a b : Expression) → result_by n (Node at u (Assign op a b)) ≡ result_by n (Node to u (Assign op a b))
  result_placed None a b = refl
  result_placed (Some op) a b = refl

  pub act_placed : (op : Option BinOp) (a b : Expression) → act_by n (Node at u (Assign op a b)) ≡ act_by n (Node to u (Assign op a b))
  act_placed None a b = refl
  act_placed (Some op) a b = refl

  pub takes_placed : (op : Option BinOp) (a b : Expression) → takes (unit_of n) (Node at u (Assign op a b)) ≡ takes (unit_of n) (Node to u (Assign op a b))
  takes_placed None a b = refl
  takes_placed (Some op) a b = refl

  pub act_takes_placed : (op : Option BinOp) (a b : Expression) → act_takes (unit_of n) (Node at u (Assign op a b)) ≡ act_takes (unit_of n) (Node to u (Assign op a b))
  act_takes_placed None a b = refl
  act_takes_placed (Some op) a b = refl

  -- and so do those of a prefix operator and of what it gives
  pub unary_placed : (op : UnOp) (a : Expression) → result_by n (Node at u (Unary op a)) ≡ result_by n (Node to u (Unary op a))
  unary_placed prefix.Deref a = refl
  unary_placed prefix.Address a = refl
  unary_placed prefix.Plus a = refl
  unary_placed prefix.Minus a = refl
  unary_placed prefix.Not a = refl
  unary_placed prefix.Flip a = refl

  pub pointed_placed : (v : PlainType) (op : UnOp) (a : Expression) → location_by n (Node at u (Unary op a)) ≡ location_by n (Node to v (Unary op a))
  pointed_placed v prefix.Deref a = refl
  pointed_placed v prefix.Address a = refl
  pointed_placed v prefix.Plus a = refl
  pointed_placed v prefix.Minus a = refl
  pointed_placed v prefix.Not a = refl
  pointed_placed v prefix.Flip a = refl

-- ---- what a function gives of an expression, by what one for its form gives

module _ (n : Names) (e : Expr) {k : ExprKind} (is : e.kind.value ≡ k) where
  abbrev formed : Expression
  formed = Node e.place (plain_type e.ctype) (plain_kind k)

  is_formed : formed ≡ plain_expr e
  is_formed = ap (λ x. Node e.place (plain_type e.ctype) (plain_kind x)) (sym is)

  module _ (r : Result MonExpr AllocError) where
    pub value_at : IfOk r (λ (m : MonExpr). plain_monitored m ≡ result_by n formed) → IfOk r (λ (m : MonExpr). plain_monitored m ≡ result_by n (plain_expr e))
    value_at = subst (λ (x : Expression). IfOk r (λ (m : MonExpr). plain_monitored m ≡ result_by n x)) is_formed

    pub location_at : IfOk r (λ (m : MonExpr). plain_monitored m ≡ location_by n formed) → IfOk r (λ (m : MonExpr). plain_monitored m ≡ location_by n (plain_expr e))
    location_at = subst (λ (x : Expression). IfOk r (λ (m : MonExpr). plain_monitored m ≡ location_by n x)) is_formed

    pub origin_at : IfOk r (λ (m : MonExpr). plain_monitored m ≡ origin_by n formed) → IfOk r (λ (m : MonExpr). plain_monitored m ≡ origin_by n (plain_expr e))
    origin_at = subst (λ (x : Expression). IfOk r (λ (m : MonExpr). plain_monitored m ≡ origin_by n x)) is_formed

  module _ {A : Type 0} (r : Result A AllocError) where
    pub prepare_at : (t t1 : MonStatements) → OnOk r (t1 ≡ before t (prepare_by n formed)) → OnOk r (t1 ≡ before t (prepare_by n (plain_expr e)))
    prepare_at t t1 = subst (λ (x : Expression). OnOk r (t1 ≡ before t (prepare_by n x))) is_formed

    pub act_at : (t t1 : MonStatements) → OnOk r (t1 ≡ before t (act_by n formed)) → OnOk r (t1 ≡ before t (act_by n (plain_expr e)))
    act_at t t1 = subst (λ (x : Expression). OnOk r (t1 ≡ before t (act_by n x))) is_formed

    pub takes_at : (n1 : Names) → OnOk r (n1 ≡ with_registers (takes (unit_of n) formed) n) → OnOk r (n1 ≡ with_registers (takes (unit_of n) (plain_expr e)) n)
    takes_at n1 = subst (λ (x : Expression). OnOk r (n1 ≡ with_registers (takes (unit_of n) x) n)) is_formed

    pub act_takes_at : (n1 : Names) → OnOk r (n1 ≡ with_registers (act_takes (unit_of n) formed) n) → OnOk r (n1 ≡ with_registers (act_takes (unit_of n) (plain_expr e)) n)
    act_takes_at n1 = subst (λ (x : Expression). OnOk r (n1 ≡ with_registers (act_takes (unit_of n) x) n)) is_formed

-- ---- expressions that are no members of objects

abbrev pub IsElsewhere : ExprKind → Type 0
IsElsewhere k =
    ((x : ℤ) × (y : Option CInt) × (k ≡ code.Number x y)) ⊎ (
    ((x : ℤ) × (k ≡ code.Letter x)) ⊎ (
    ((x : ℕ) × (k ≡ code.Text x)) ⊎ (
    ((x : Use) × (k ≡ code.Variable x)) ⊎ (
    ((x : UnOp) × (y : Expr) × (k ≡ code.Unary x y)) ⊎ (
    ((x : BinOp) × (y : Expr) × (z : Expr) × (k ≡ code.Binary x y z)) ⊎ (
    ((x : Expr) × (y : Expr) × (k ≡ code.Both x y)) ⊎ (
    ((x : Expr) × (y : Expr) × (k ≡ code.Either x y)) ⊎ (
    ((x : Expr) × (y : Expr) × (z : Expr) × (k ≡ code.Choice x y z)) ⊎ (
    ((x : BumpOp) × (y : Expr) × (k ≡ code.Bump x y)) ⊎ (
    ((x : Use) × (y : Vec Expr Global) × (k ≡ code.Call x y)) ⊎ (
    ((x : CType) × (y : Expr) × (k ≡ code.Cast x y)) ⊎ (
    ((x : CType) × (k ≡ code.SizeOfType x)) ⊎ (
    ((x : Expr) × (k ≡ code.SizeOfExpr x)) ⊎ (
    ((x : Expr) × (y : Expr) × (k ≡ code.Index x y))))))))))))))))

module _ (n : Names) (at : Place) (u : PlainType) where
  -- the object in which it stands is the object itself
  abbrev IsItsOrigin : ExprKind → Type 0
  IsItsOrigin k = origin_by n (Node at u (plain_kind k)) ≡ location_by n (Node at u (plain_kind k))

  known : (v k : ExprKind) → k ≡ v → IsItsOrigin v → IsItsOrigin k
  known v k is there = subst IsItsOrigin (sym is) there

  pub origin_elsewhere : (k : ExprKind) → IsElsewhere k → IsItsOrigin k
  origin_elsewhere k (inl h) = known (code.Number h.0 h.1) k h.2 refl
  origin_elsewhere k (inr (inl h)) = known (code.Letter h.0) k h.1 refl
  origin_elsewhere k (inr (inr (inl h))) = known (code.Text h.0) k h.1 refl
  origin_elsewhere k (inr (inr (inr (inl h)))) = known (code.Variable h.0) k h.1 refl
  origin_elsewhere k (inr (inr (inr (inr (inl h))))) = known (code.Unary h.0 h.1) k h.2 refl
  origin_elsewhere k (inr (inr (inr (inr (inr (inl h)))))) = known (code.Binary h.0 h.1 h.2) k h.3 refl
  origin_elsewhere k (inr (inr (inr (inr (inr (inr (inl h))))))) = known (code.Both h.0 h.1) k h.2 refl
  origin_elsewhere k (inr (inr (inr (inr (inr (inr (inr (inl h)))))))) = known (code.Either h.0 h.1) k h.2 refl
  origin_elsewhere k (inr (inr (inr (inr (inr (inr (inr (inr (inl h))))))))) = known (code.Choice h.0 h.1 h.2) k h.3 refl
  origin_elsewhere k (inr (inr (inr (inr (inr (inr (inr (inr (inr (inl h)))))))))) = known (code.Bump h.0 h.1) k h.2 refl
  origin_elsewhere k (inr (inr (inr (inr (inr (inr (inr (inr (inr (inr (inl h))))))))))) = known (code.Call h.0 h.1) k h.2 refl
  origin_elsewhere k (inr (inr (inr (inr (inr (inr (inr (inr (inr (inr (inr (inl h)))))))))))) = known (code.Cast h.0 h.1) k h.2 refl
  origin_elsewhere k (inr (inr (inr (inr (inr (inr (inr (inr (inr (inr (inr (inr (inl h))))))))))))) = known (code.SizeOfType h.0) k h.1 refl
  origin_elsewhere k (inr (inr (inr (inr (inr (inr (inr (inr (inr (inr (inr (inr (inr (inl h)))))))))))))) = known (code.SizeOfExpr h.0) k h.1 refl
  origin_elsewhere k (inr (inr (inr (inr (inr (inr (inr (inr (inr (inr (inr (inr (inr (inr h)))))))))))))) = known (code.Index h.0 h.1) k h.2 refl
