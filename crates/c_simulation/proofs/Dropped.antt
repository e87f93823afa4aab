-- Expressions for their effects alone: values and places that are dropped, of which nothing is evaluated in the target but the effects in them.
use Rattle.std.proofs.Common.{◌≡◌, ℕ, ℤ, ◌≤◌, pos, Bool, true, false, cond, ◌&&◌, if◌then◌else◌, List, [], ◌++◌, length, Some, refl, sym, ap, ◌∙◌, subst, arith, true≢false}
use Rattle.std.proofs.lemmas.List.{length-append}
use Rattle.c_syntax.specs.declared.place.Place.{Place}
use Rattle.c_syntax.specs.declared.types.CInt.TheVariants.{I32}
use Rattle.c_syntax.specs.declared.expression.UnOp.{UnOp}
use Rattle.c_syntax.specs.declared.expression.UnOp.TheVariants as prefix
use Rattle.c_syntax.specs.declared.types.CInt.{CInt}
use Rattle.c_syntax.specs.declared.expression.BinOp.{BinOp}
use Rattle.c_syntax.specs.Ctypes.{PlainType, Void, Int, Ptr, int_type}
use Rattle.c_syntax.specs.Expressions.{Expression, Node, Unary, Binary, Both, Either, Choice, Cast, Index, Dot, Arrow, place_of, type_of}
use Rattle.c_syntax.specs.Layouts.{Scalar, IntegerType, PointerType, scalar_of, offset_of, target_of}
use Rattle.c_model.specs.Integers.{truth}
use Rattle.c_model.specs.Memory.{Pointer, Null, Value, Integer, Points, shifted, tested_value}
use Rattle.c_model.specs.State.{State, Outcome, Evaluation, on_outcome, ◌>>=◌, give, defined, computed, tested, read_any}
use Rattle.c_model.specs.Meaning.{Tables, tables_of, eval_with, place_with, address, pointed_to, operate_value, operate_values, unit_of, truth_value, is_zero, is_array, choose, converted, condition_of}
use Rattle.c_model.specs.Meaning as source
use Rattle.c_model.specs.ExpressionTyping.{Sight}
use Rattle.c_model.specs.TypedTrees.{BinaryTypes, CastTypes, ToVoid, OfInteger, OfPointer, OfNullConstant, OfArray}
use Rattle.mon_syntax.specs.declared.tree.MonType.{MonType}
use Rattle.mon_syntax.specs.Registers.{Bindings}
use Rattle.mon_syntax.specs.Trees.{MonStatements, NoStatement, If}
use Rattle.c_effects.specs.Expressions.{before, one, condition}
use Rattle.c_effects.specs.Full.{is_pure, takes, act_takes, result, condition_result, prepare, act}
use Rattle.c_effects.proofs.Sequences.{before_none}
use Rattle.c_simulation.specs.Standing.{Setting, Target, runs, Here, Standing, Beside}
use Rattle.c_simulation.specs.Reaching.{Reaches, Arrives, Anything, Tested}
use Rattle.c_simulation.proofs.Registers.{same_all, longer}
use Rattle.c_simulation.proofs.Following.{later_same}
use Rattle.c_simulation.proofs.PointerValues.{value_type_is}
use Rattle.c_simulation.proofs.PureValues.{HasKind, Any, Quiet, Gives, IsUndefined, IsPointed, quiet_then, quiet_defined, quiet_read, quiet_address, integers, pointers, integer_of, pointer_in, binary_kind, one_kind, as_kind, not_array}
use Rattle.c_simulation.proofs.Reaching.{Made, MadeValue, MadeNone, undefined_now, reached_lower, reaches_before, reaches_made}
use Rattle.c_simulation.proofs.Settled.{both_true}
use Rattle.c_simulation.proofs.Unchanged.{act_takes_none, acts_none}
use Rattle.c_simulation.proofs.Operands.{FromHere, Computes, Acts, ActsAt, Kinded, stands_after}
use Rattle.c_simulation.proofs.Conditions.{tests_reach, if_reaches}

-- what holds of an answer, and of nothing else
abbrev pub Just : {A : Type 0} → (A → Type 0) → A → List Value → State → Target → Type 0
Just R a after s t = R a

quiet_made : {A : Type 0} (w : Setting) (R : A → Type 0) (after : List Value) (s : State) (t : Target) (r : Outcome A) → Quiet R s r → Made w (Just R) after s t r
quiet_made w R after s t r (Gives a p e) = MadeValue a e p
quiet_made w R after s t r (IsUndefined at e) = MadeNone at e

module _ (w : Setting) (n : ℕ) (h : Here) (low : ℕ) (bound : Bindings) where
  abbrev T : Tables
  T = tables_of w.unit

  -- what is made of an answer, by the source alone
  pub acts_made : {A B : Type 0} (P : A → List Value → State → Target → Type 0) (R : B → Type 0) (high : ℕ) (rs : List MonType) (r : Evaluation A) (code : MonStatements) (f : A → Evaluation B) → FromHere w n h low bound P high rs r code
      → ((a : A) (s : State) (after : List Value) (t : Target) → P a after s t → Quiet R s (f a s)) → FromHere w n h low bound (Just R) high rs (λ s. on_outcome (r s) f) code
  acts_made P R high rs r code f go quiet s t regs le m be room =
      reaches_made w P (Just R) (length rs) regs s (r s) (runs w n t code regs) f (go s t regs le m be room) (λ a to after u o same later be2 p. quiet_made w R after to u (f a to) (quiet a to after u p))

  -- what has no effect at all
  pub acts_quiet : {A : Type 0} (R : A → Type 0) (high : ℕ) (rs : List MonType) (r : Evaluation A) → ((s : State) → Quiet R s (r s)) → FromHere w n h low bound (Just R) high rs r NoStatement
  acts_quiet R high rs r quiet s t regs le m be room = by (quiet s)
    where
      by : Quiet R s (r s) → Reaches w (Just R) (length rs) regs s (r s) (runs w n t NoStatement regs)
      by (Gives a p e) = Arrives a s regs t [] (same_all (length rs) regs) (later_same s m.bounded) be e refl p
      by (IsUndefined at e) = undefined_now w (Just R) (length rs) regs s (r s) (runs w n t NoStatement regs) at e

  -- two dropped values, and what is made of them
  pub acts_two : {A : Type 0} (R : A → Type 0) (a b : Expression) (rs : List MonType) (f : Value → Value → Evaluation A) → low ≤ length rs → Acts w n h low bound a rs → Acts w n h low bound b (rs ++ act_takes w.unit a)
      → ((x y : Value) (s : State) → HasKind (scalar_of (type_of a)) x → HasKind (scalar_of (type_of b)) y → Quiet R s (f x y s))
      → FromHere w n h low bound (Just R) (length (rs ++ (act_takes w.unit a ++ act_takes w.unit b))) rs (λ s. on_outcome (eval_with T a w.call s) (λ x. eval_with T b w.call >>= λ y. f x y)) (before (act w.unit bound rs a) (act w.unit bound
      (rs ++ act_takes w.unit a) b))
  acts_two R a b rs f behind a_acts b_acts quiet s t regs le m be room =
      let rs2 = rs ++ act_takes w.unit a in
      let size : length (rs ++ (act_takes w.unit a ++ act_takes w.unit b)) ≡ length (rs2 ++ act_takes w.unit b) =
      omega (arith, length-append rs (act_takes w.unit a ++ act_takes w.unit b), length-append (act_takes w.unit a) (act_takes w.unit b), length-append rs2 (act_takes w.unit b), length-append rs (act_takes w.unit a)) in
      reaches_before w n (Kinded (scalar_of (type_of a))) (Just R) (length rs) regs s t (eval_with T a w.call s) (act w.unit bound rs a) (act w.unit bound rs2 b) (λ x. eval_with T b w.call >>= λ y. f x y)
      (a_acts s t regs le m be (omega (arith, size, room, longer rs2 (act_takes w.unit b)))) (λ x to after u o same later be2 hx.
      reached_lower w (Just R) (length rs) (length rs2) after to (on_outcome (eval_with T b w.call to) (λ y. f x y)) (runs w n u (act w.unit bound rs2 b) after) (longer rs (act_takes w.unit a))
      (reaches_made w (Kinded (scalar_of (type_of b))) (Just R) (length rs2) after to (eval_with T b w.call to) (runs w n u (act w.unit bound rs2 b) after) (λ y. f x y)
      (b_acts to u after (omega (arith, le, later.spent)) (stands_after w n h low bound rs regs after s to o behind same later m) be2 (omega (arith, size, room)))
      (λ y to2 after2 v o2 same2 later2 be3 hy. quiet_made w R after2 to2 v (f x y to2) (quiet x y to2 hx hy))))

  -- ---- operators on one value

  pub number_acts : (at : Place) (t : PlainType) (op : UnOp) (a : Expression) (k : CInt) (rs : List MonType) → type_of a ≡ Int k → t ≡ type_of a → Acts w n h low bound a rs
      → FromHere w n h low bound (Kinded (scalar_of t)) (length (rs ++ act_takes w.unit a)) rs (λ s. on_outcome (eval_with T a w.call s) (λ x. defined at (operate_value t op x))) (act w.unit bound rs a)
  number_acts at t op a k rs is same f =
      acts_made (Kinded (scalar_of (type_of a))) (HasKind (scalar_of t)) (length (rs ++ act_takes w.unit a)) rs (eval_with T a w.call) (act w.unit bound rs a) (λ x. defined at (operate_value t op x)) f
      (λ x s after u hx. quiet_defined (HasKind (scalar_of t)) at (operate_value t op x) s (λ z e. one_kind t (type_of a) k op x z is same hx e))

  pub tested_acts : (a : Expression) (rs : List MonType) → Acts w n h low bound a rs → FromHere w n h low bound (Just Any) (length (rs ++ act_takes w.unit a)) rs (condition_of T a w.call) (act w.unit bound rs a)
  tested_acts a rs f =
      acts_made (Kinded (scalar_of (type_of a))) Any (length (rs ++ act_takes w.unit a)) rs (eval_with T a w.call) (act w.unit bound rs a) (tested (place_of a)) f
      (λ v s after u hv. quiet_defined Any (place_of a) (tested_value s.store v) s (λ x e. tt))

  pub not_acts : (at : Place) (t : PlainType) (a : Expression) (rs : List MonType) → t ≡ int_type → Acts w n h low bound a rs → Acts w n h low bound (Node at t (Unary prefix.Not a)) rs
  not_acts at t a rs is f =
      acts_made (Just Any) (HasKind (scalar_of t)) (length (rs ++ act_takes w.unit a)) rs (condition_of T a w.call) (act w.unit bound rs a) (λ x. give (Integer (truth (is_zero x)))) (tested_acts a rs f)
      (λ x s after u hx. Gives (Integer (truth (is_zero x))) (integers t I32 (Integer (truth (is_zero x))) (truth (is_zero x)) is refl) refl)

  pub points_acts : (a : Expression) (t : PlainType) (rs : List MonType) → type_of a ≡ Ptr t → Acts w n h low bound a rs
      → FromHere w n h low bound (Just Any) (length (rs ++ act_takes w.unit a)) rs (λ s. on_outcome (eval_with T a w.call s) pointed_to) (act w.unit bound rs a)
  points_acts a t rs is f =
      acts_made (Kinded (scalar_of (type_of a))) Any (length (rs ++ act_takes w.unit a)) rs (eval_with T a w.call) (act w.unit bound rs a) pointed_to f
      (λ v s after u hv. let p = pointer_in (type_of a) t v is hv in Gives p.0 tt (ap (λ v. pointed_to v s) p.1))

  pub deref_acts : (at : Place) (t : PlainType) (a : Expression) (rs : List MonType) → type_of a ≡ Ptr t → Acts w n h low bound a rs → Acts w n h low bound (Node at t (Unary prefix.Deref a)) rs
  deref_acts at t a rs is f =
      acts_made (Just Any) (HasKind (scalar_of t)) (length (rs ++ act_takes w.unit a)) rs (λ s. on_outcome (eval_with T a w.call s) pointed_to) (act w.unit bound rs a) (λ p. read_any at p (scalar_of t)) (points_acts a t rs is f)
      (λ p s after u hp. quiet_read at p (scalar_of t) s)

  pub address_acts : (at : Place) (t : PlainType) (a : Expression) (rs : List MonType) → t ≡ Ptr (type_of a) → ActsAt w n h low bound a rs → Acts w n h low bound (Node at t (Unary prefix.Address a)) rs
  address_acts at t a rs is f =
      acts_made Anything (HasKind (scalar_of t)) (length (rs ++ act_takes w.unit a)) rs (place_with T a w.call) (act w.unit bound rs a) (address a) f
      (λ p s after u hp. as_kind IsPointed (HasKind (scalar_of t)) s (address a p s) (λ v i. pointers t (type_of a) v i.0 is i.1) (quiet_address a p s))

  -- ---- places

  pub dot_acts : (at : Place) (t : PlainType) (a : Expression) (m : ℕ) (rs : List MonType) → ActsAt w n h low bound a rs → Acts w n h low bound (Node at t (Dot a m)) rs
  dot_acts at t a m rs f =
      let d = offset_of T.structs (type_of a) m in
      acts_made Anything (HasKind (scalar_of t)) (length (rs ++ act_takes w.unit a)) rs (place_with T a w.call) (act w.unit bound rs a) (λ p. read_any at (shifted p d) (scalar_of t)) f
      (λ p s after u hp. quiet_read at (shifted p d) (scalar_of t) s)

  pub dot_acts_at : (at : Place) (t : PlainType) (a : Expression) (m : ℕ) (rs : List MonType) → ActsAt w n h low bound a rs → ActsAt w n h low bound (Node at t (Dot a m)) rs
  dot_acts_at at t a m rs f =
      let d = offset_of T.structs (type_of a) m in
      acts_made Anything Any (length (rs ++ act_takes w.unit a)) rs (place_with T a w.call) (act w.unit bound rs a) (λ p. give (shifted p d)) f (λ p s after u hp. Gives (shifted p d) tt refl)

  module _ (at : Place) (t : PlainType) (a : Expression) (m : ℕ) (rs : List MonType) (target : PlainType) (is : type_of a ≡ Ptr target) (f : Acts w n h low bound a rs) where
    abbrev d : ℕ
    d = offset_of T.structs (target_of (type_of a)) m

    behind_acts : {A : Type 0} (R : A → Type 0) (g : Pointer → Evaluation A) → ((p : Pointer) (s : State) → Quiet R s (g p s))
        → FromHere w n h low bound (Just R) (length (rs ++ act_takes w.unit a)) rs (λ s. on_outcome (eval_with T a w.call s) (λ x. pointed_to x >>= g)) (act w.unit bound rs a)
    behind_acts R g quiet =
        acts_made (Kinded (scalar_of (type_of a))) R (length (rs ++ act_takes w.unit a)) rs (eval_with T a w.call) (act w.unit bound rs a) (λ x. pointed_to x >>= g) f (λ x s after u hx.
        let p = pointer_in (type_of a) target x is hx in
        quiet_then Any R s (pointed_to x s) g (Gives p.0 tt (ap (λ v. pointed_to v s) p.1)) (λ q hq. quiet q s))

    pub arrow_acts : Acts w n h low bound (Node at t (Arrow a m)) rs
    arrow_acts = behind_acts (HasKind (scalar_of t)) (λ p. read_any at (shifted p d) (scalar_of t)) (λ p s. quiet_read at (shifted p d) (scalar_of t) s)

    pub arrow_acts_at : ActsAt w n h low bound (Node at t (Arrow a m)) rs
    arrow_acts_at = behind_acts Any (λ p. give (shifted p d)) (λ p s. Gives (shifted p d) tt refl)

  -- ---- two operands

  module _ (at : Place) (t : PlainType) (a b : Expression) (rs : List MonType) (behind : low ≤ length rs) (a_acts : Acts w n h low bound a rs) (b_acts : Acts w n h low bound b (rs ++ act_takes w.unit a)) where
    abbrev unit : ℕ
    unit = unit_of T.structs (type_of a) (type_of b)

    pub binary_acts : (sight : Sight) (op : BinOp) → BinaryTypes sight op t (type_of a) (type_of b) → Acts w n h low bound (Node at t (Binary op a b)) rs
    binary_acts sight op types =
        acts_two (HasKind (scalar_of t)) a b rs (λ x y. computed at (λ store. operate_values unit t op store x y)) behind a_acts b_acts (λ x y s hx hy.
        quiet_defined (HasKind (scalar_of t)) at (operate_values unit t op s.store x y) s (λ z e. binary_kind sight unit t (type_of a) (type_of b) op s.store x y z types hx hy e))

    pub index_acts : Acts w n h low bound (Node at t (Index a b)) rs
    index_acts =
        let f = λ (x y : Value). computed at (λ store. source.indexed unit store x y) in
        acts_two (HasKind (scalar_of t)) a b rs (λ x y. f x y >>= λ p. read_any at p (scalar_of t)) behind a_acts b_acts (λ x y s hx hy.
        quiet_then Any (HasKind (scalar_of t)) s (f x y s) (λ p. read_any at p (scalar_of t)) (quiet_defined Any at (source.indexed unit s.store x y) s (λ p e. tt)) (λ p hp. quiet_read at p (scalar_of t) s))

    pub index_acts_at : ActsAt w n h low bound (Node at t (Index a b)) rs
    index_acts_at = acts_two Any a b rs (λ x y. computed at (λ store. source.indexed unit store x y)) behind a_acts b_acts (λ x y s hx hy. quiet_defined Any at (source.indexed unit s.store x y) s (λ p e. tt))

  -- ---- casts

  module _ (at : Place) (t to : PlainType) (a : Expression) (rs : List MonType) (same : t ≡ to) (a_acts : Acts w n h low bound a rs) (a_acts_at : ActsAt w n h low bound a rs) where
    abbrev high : ℕ
    high = length (rs ++ act_takes w.unit a)

    abbrev Casts : Bool → Type 0
    Casts b = FromHere w n h low bound (Kinded (scalar_of t)) high rs (λ s. cond b (place_with T a w.call >>= address a) (eval_with T a w.call >>= λ x. give (converted to x)) s) (act w.unit bound rs a)

    taken : ((v : Value) → IsPointed v → HasKind (scalar_of t) v) → Casts true
    taken f = acts_made Anything (HasKind (scalar_of t)) high rs (place_with T a w.call) (act w.unit bound rs a) (address a) a_acts_at (λ p s after u hp. as_kind IsPointed (HasKind (scalar_of t)) s (address a p s) f (quiet_address a p s))

    given : ((v : Value) → HasKind (scalar_of (type_of a)) v → HasKind (scalar_of t) (converted to v)) → Casts false
    given f = acts_made (Kinded (scalar_of (type_of a))) (HasKind (scalar_of t)) high rs (eval_with T a w.call) (act w.unit bound rs a) (λ x. give (converted to x)) a_acts (λ v s after u hv. Gives (converted to v) (f v hv) refl)

    void : (v : Value) → t ≡ Void → HasKind (scalar_of t) v
    void v is = subst (λ u. HasKind (scalar_of u) v) (sym is) tt

    from_pointer : (v : Value) (u : PlainType) → to ≡ Ptr u → (p : Pointer) × (v ≡ Points p) → HasKind (scalar_of t) (converted to v)
    from_pointer v u is p = pointers t u (converted to v) p.0 (same ∙ is) ((λ i. converted (is i) (p.1 i)))

    pub cast_acts : (sight : Sight) → CastTypes sight to a → Acts w n h low bound (Node at t (Cast to a)) rs
    cast_acts sight types = by types (is_array (type_of a)) refl
      where
        by : CastTypes sight to a → (b : Bool) → is_array (type_of a) ≡ b → Casts b
        by (ToVoid is) true e = taken (λ v p. void v (same ∙ is))
        by (ToVoid is) false e = given (λ v h. void (converted to v) (same ∙ is))
        by (OfInteger p q) true e = absurd (true≢false (sym e ∙ not_array (type_of a) (IntegerType q.int) (ap scalar_of q.is)))
        by (OfInteger p q) false e = given (λ v h. let z = integer_of (type_of a) q.int v q.is h in integers t p.int (converted to v) _ (same ∙ p.is) (λ i. converted (p.is i) (z.1 i)))
        by (OfPointer p q) true e = absurd (true≢false (sym e ∙ not_array (type_of a) PointerType (ap scalar_of q.is)))
        by (OfPointer p q) false e = given (λ v h. from_pointer v p.target p.is (pointer_in (type_of a) q.target v q.is h))
        by (OfNullConstant p q n) true e = absurd (true≢false (sym e ∙ not_array (type_of a) (IntegerType q.int) (ap scalar_of q.is)))
        by (OfNullConstant p q n) false e = given (λ v h. let z = integer_of (type_of a) q.int v q.is h in pointers t p.target (converted to v) Null (same ∙ p.is) (λ i. converted (p.is i) (z.1 i)))
        by (OfArray u m is array object) true e = taken (λ v p. pointers t u v p.0 (same ∙ is) p.1)
        by (OfArray u m is array object) false e = absurd (true≢false (sym (ap is_array array) ∙ e))

  -- ---- what is evaluated only at times

  -- what has no effect is left out
  pub pure_acts : (b : Expression) (rs : List MonType) → is_pure b ≡ true → Acts w n h low bound b rs → FromHere w n h low bound (Kinded (scalar_of (type_of b))) (length rs) rs (eval_with T b w.call) NoStatement
  pure_acts b rs pure f s t regs le m be room =
      subst (λ code. Reaches w (Kinded (scalar_of (type_of b))) (length rs) regs s (eval_with T b w.call s) (runs w n t code regs)) (acts_none w.unit bound b rs pure)
      (f s t regs le m be (let none = ap (λ ts. length ts) (act_takes_none w.unit b pure) in omega (arith, none, length-append rs (act_takes w.unit b), room)))

  -- the first one decides, and what it decides on has no effect
  decided : {A : Type 0} (R : A → Type 0) (a : Expression) (rs : List MonType) (x y : Evaluation A) → low ≤ length rs → Acts w n h low bound a rs → FromHere w n h low bound (Just R) (length rs) rs x NoStatement
      → FromHere w n h low bound (Just R) (length rs) rs y NoStatement
      → FromHere w n h low bound (Just R) (length (rs ++ act_takes w.unit a)) rs (λ s. on_outcome (condition_of T a w.call s) (λ v. choose v x y)) (act w.unit bound rs a)
  decided R a rs x y behind a_acts x_acts y_acts s t regs le m be room =
      subst (λ code. Reaches w (Just R) (length rs) regs s (on_outcome (condition_of T a w.call s) (λ v. choose v x y)) (runs w n t code regs)) (before_none (act w.unit bound rs a))
      (reaches_before w n (Just Any) (Just R) (length rs) regs s t (condition_of T a w.call s) (act w.unit bound rs a) NoStatement (λ v. choose v x y) (tested_acts a rs a_acts s t regs le m be room) (λ v to after u o same later be2 p.
      by v to after u (omega (arith, le, later.spent)) (stands_after w n h low bound rs regs after s to o behind same later m) be2 (is_zero v)))
    where
      by : (v : Value) (to : State) (after : List Value) (u : Target) → to.steps ≤ n → Standing w h low bound after to → Beside w to.store to u → (c : Bool) → Reaches w (Just R) (length rs) after to (cond c y x to) (runs w n u NoStatement after)
      by v to after u le2 m2 be2 true = y_acts to u after le2 m2 be2 (omega (arith, room, longer rs (act_takes w.unit a)))
      by v to after u le2 m2 be2 false = x_acts to u after le2 m2 be2 (omega (arith, room, longer rs (act_takes w.unit a)))

  -- the first one is computed, and what it decides on has effects
  tested_first : {A : Type 0} (R : A → Type 0) (a : Expression) (k : Scalar) (rs : List MonType) (high : ℕ) (x y : Evaluation A) (b c : MonStatements) → scalar_of (type_of a) ≡ Some k → low ≤ length rs → length (rs ++ takes w.unit a) ≤ high
      → Computes w n h low bound a k rs
      → ((s : State) (t : Target) (regs : List Value) → s.steps ≤ n → Standing w h low bound regs s → Beside w s.store s t → high ≤ w.registers → Reaches w (Just R) (length rs) regs s (x s) (runs w n t b regs))
      → ((s : State) (t : Target) (regs : List Value) → s.steps ≤ n → Standing w h low bound regs s → Beside w s.store s t → high ≤ w.registers → Reaches w (Just R) (length rs) regs s (y s) (runs w n t c regs))
      → FromHere w n h low bound (Just R) high rs (λ s. on_outcome (condition_of T a w.call s) (λ v. choose v x y)) (before (prepare w.unit bound rs a) (one (If (condition_result w.unit bound rs a) b c)))
  tested_first R a k rs high x y b c is behind most a_does x_acts y_acts s t regs le m be room =
      let long = length (rs ++ takes w.unit a) in
      if_reaches w n h low bound (Just R) (length rs) long regs s t (condition_of T a w.call s) x y (prepare w.unit bound rs a) b c (condition_result w.unit bound rs a)
      (subst (λ m. Reaches w (Tested w long (condition m (result w.unit bound rs a))) (length rs) regs s (condition_of T a w.call s) (runs w n t (prepare w.unit bound rs a) regs)) (sym (value_type_is (type_of a) k is))
      (tests_reach w n h low bound (place_of a) k (length rs) long regs s (eval_with T a w.call s) (runs w n t (prepare w.unit bound rs a) regs) (result w.unit bound rs a) (a_does s t regs le m be (omega (arith, most, room)))))
      (λ to after u o same later be2. x_acts to u after (omega (arith, le, later.spent)) (stands_after w n h low bound rs regs after s to o behind same later m) be2 room)
      (λ to after u o same later be2. y_acts to u after (omega (arith, le, later.spent)) (stands_after w n h low bound rs regs after s to o behind same later m) be2 room)

  truth_acts : (b : Expression) (t : PlainType) (high : ℕ) (rs : List MonType) (code : MonStatements) → t ≡ int_type → FromHere w n h low bound (Kinded (scalar_of (type_of b))) high rs (eval_with T b w.call) code
      → FromHere w n h low bound (Kinded (scalar_of t)) high rs (condition_of T b w.call >>= λ y. give (truth_value y)) code
  truth_acts b t high rs code is f =
      acts_made (Just Any) (HasKind (scalar_of t)) high rs (condition_of T b w.call) code (λ y. give (truth_value y))
      (acts_made (Kinded (scalar_of (type_of b))) Any high rs (eval_with T b w.call) code (tested (place_of b)) f (λ v s after u hv. quiet_defined Any (place_of b) (tested_value s.store v) s (λ x e. tt)))
      (λ y s after u hy. Gives (truth_value y) (integers t I32 (truth_value y) _ is refl) refl)

  -- as those that stand above a number of registers
  higher : {A : Type 0} (P : A → List Value → State → Target → Type 0) (high top : ℕ) (rs rs2 : List MonType) (r : Evaluation A) (code : MonStatements) → high ≤ top → length rs ≤ length rs2 → FromHere w n h low bound P high rs2 r code
      → (s : State) (t : Target) (regs : List Value) → s.steps ≤ n → Standing w h low bound regs s → Beside w s.store s t → top ≤ w.registers → Reaches w P (length rs) regs s (r s) (runs w n t code regs)
  higher P high top rs rs2 r code le2 far f s t regs le m be room = reached_lower w P (length rs) (length rs2) regs s (r s) (runs w n t code regs) far (f s t regs le m be (omega (arith, le2, room)))

  integer_acts : (t : PlainType) (z : ℤ) (high : ℕ) (rs : List MonType) → t ≡ int_type → FromHere w n h low bound (Kinded (scalar_of t)) high rs (give (Integer z)) NoStatement
  integer_acts t z high rs is = acts_quiet (HasKind (scalar_of t)) high rs (give (Integer z)) (λ s. Gives (Integer z) (integers t I32 (Integer z) z is refl) refl)

  module _ (at : Place) (t : PlainType) (a b : Expression) (k : Scalar) (rs : List MonType) (is : scalar_of (type_of a) ≡ Some k) (int : t ≡ int_type) (behind : low ≤ length rs) where
    abbrev R : Value → Type 0
    R = HasKind (scalar_of t)

    abbrev right : Evaluation Value
    right = condition_of T b w.call >>= λ y. give (truth_value y)

    abbrev most : ℕ
    most = length (rs ++ (takes w.unit a ++ act_takes w.unit b))

    size : most ≡ length (rs ++ takes w.unit a ++ act_takes w.unit b)
    size =
        omega (arith, length-append rs (takes w.unit a ++ act_takes w.unit b), length-append (takes w.unit a) (act_takes w.unit b), length-append (rs ++ takes w.unit a) (act_takes w.unit b), length-append rs (takes w.unit a))

    -- what the right side does where it is evaluated
    right_acts : Acts w n h low bound b (rs ++ takes w.unit a) → (s : State) (t : Target) (regs : List Value) → s.steps ≤ n → Standing w h low bound regs s → Beside w s.store s t → most ≤ w.registers
        → Reaches w (Just R) (length rs) regs s (right s) (runs w n t (act w.unit bound (rs ++ takes w.unit a) b) regs)
    right_acts b_acts =
        higher (Just R) (length (rs ++ takes w.unit a ++ act_takes w.unit b)) most rs (rs ++ takes w.unit a) right (act w.unit bound (rs ++ takes w.unit a) b) (omega (arith, size)) (longer rs (takes w.unit a))
        (truth_acts b t (length (rs ++ takes w.unit a ++ act_takes w.unit b)) (rs ++ takes w.unit a) (act w.unit bound (rs ++ takes w.unit a) b) int b_acts)

    abbrev Chooses : Evaluation Value → Evaluation Value → MonStatements → MonStatements → Bool → Type 0
    Chooses x y x_code y_code c =
        FromHere w n h low bound (Just R) (length (rs ++ (if c then act_takes w.unit a else takes w.unit a ++ act_takes w.unit b))) rs (λ s. on_outcome (condition_of T a w.call s) (λ v. choose v x y))
        (if c then act w.unit bound rs a else before (prepare w.unit bound rs a) (one (If (condition_result w.unit bound rs a) x_code y_code)))

    module _ (a_acts : is_pure b ≡ true → Acts w n h low bound a rs) (a_does : is_pure b ≡ false → Computes w n h low bound a k rs) (b_acts : (rs2 : List MonType) → low ≤ length rs2 → Acts w n h low bound b rs2) where
      abbrev code : MonStatements
      code = act w.unit bound (rs ++ takes w.unit a) b

      in_sight : low ≤ length (rs ++ takes w.unit a)
      in_sight = omega (arith, behind, longer rs (takes w.unit a))

      pub both_acts : Acts w n h low bound (Node at t (Both a b)) rs
      both_acts = by (is_pure b) refl
        where
          by : (c : Bool) → is_pure b ≡ c → Chooses right (give (Integer (pos 0))) code NoStatement c
          by true c =
              decided R a rs right (give (Integer (pos 0))) behind (a_acts c) (truth_acts b t (length rs) rs NoStatement int (pure_acts b rs c (b_acts rs behind))) (integer_acts t (pos 0) (length rs) rs int)
          by false c =
              tested_first R a k rs most right (give (Integer (pos 0))) code NoStatement is behind (omega (arith, size, longer (rs ++ takes w.unit a) (act_takes w.unit b))) (a_does c) (right_acts (b_acts (rs ++ takes w.unit a) in_sight))
              (integer_acts t (pos 0) most rs int)

      pub either_acts : Acts w n h low bound (Node at t (Either a b)) rs
      either_acts = by (is_pure b) refl
        where
          by : (c : Bool) → is_pure b ≡ c → Chooses (give (Integer (pos 1))) right NoStatement code c
          by true c =
              decided R a rs (give (Integer (pos 1))) right behind (a_acts c) (integer_acts t (pos 1) (length rs) rs int) (truth_acts b t (length rs) rs NoStatement int (pure_acts b rs c (b_acts rs behind)))
          by false c =
              tested_first R a k rs most (give (Integer (pos 1))) right NoStatement code is behind (omega (arith, size, longer (rs ++ takes w.unit a) (act_takes w.unit b))) (a_does c) (integer_acts t (pos 1) most rs int)
              (right_acts (b_acts (rs ++ takes w.unit a) in_sight))

  module _ (at : Place) (t : PlainType) (a b c : Expression) (k : Scalar) (rs : List MonType) (is : scalar_of (type_of a) ≡ Some k) (b_is : type_of b ≡ t) (c_is : type_of c ≡ t) (behind : low ≤ length rs)
      (a_acts : is_pure b && is_pure c ≡ true → Acts w n h low bound a rs) (a_does : is_pure b && is_pure c ≡ false → Computes w n h low bound a k rs)
      (b_acts : (rs2 : List MonType) → low ≤ length rs2 → Acts w n h low bound b rs2) (c_acts : (rs2 : List MonType) → low ≤ length rs2 → Acts w n h low bound c rs2) where
    abbrev K : Value → Type 0
    K = HasKind (scalar_of t)

    abbrev rs2 : List MonType
    rs2 = rs ++ takes w.unit a

    abbrev rs3 : List MonType
    rs3 = rs ++ takes w.unit a ++ act_takes w.unit b

    abbrev top : ℕ
    top = length (rs ++ (takes w.unit a ++ act_takes w.unit b ++ act_takes w.unit c))

    whole : top ≡ length (rs3 ++ act_takes w.unit c)
    whole =
        omega (
          arith,
          length-append rs (takes w.unit a ++ act_takes w.unit b ++ act_takes w.unit c),
          length-append (takes w.unit a ++ act_takes w.unit b) (act_takes w.unit c),
          length-append (takes w.unit a) (act_takes w.unit b),
          length-append rs3 (act_takes w.unit c),
          length-append rs2 (act_takes w.unit b),
          length-append rs (takes w.unit a),
        )

    as_type : (e : Expression) (high : ℕ) (rs : List MonType) (code : MonStatements) → type_of e ≡ t → FromHere w n h low bound (Kinded (scalar_of (type_of e))) high rs (eval_with T e w.call) code
        → FromHere w n h low bound (Just K) high rs (eval_with T e w.call) code
    as_type e high rs code same f = subst (λ u. FromHere w n h low bound (Kinded (scalar_of u)) high rs (eval_with T e w.call) code) same f

    pub choice_acts : Acts w n h low bound (Node at t (Choice a b c)) rs
    choice_acts = by (is_pure b && is_pure c) refl
      where
        by : (d : Bool) → is_pure b && is_pure c ≡ d
            → FromHere w n h low bound (Just K) (length (rs ++ (if d then act_takes w.unit a else takes w.unit a ++ act_takes w.unit b ++ act_takes w.unit c))) rs (λ s. on_outcome (condition_of T a w.call s) (λ v. choose v
            (eval_with T b w.call) (eval_with T c w.call)))
            (if d then act w.unit bound rs a else before (prepare w.unit bound rs a) (one (If (condition_result w.unit bound rs a) (act w.unit bound rs2 b) (act w.unit bound rs3 c))))
        by true d =
            let pure = both_true (is_pure b) (is_pure c) d in
            decided K a rs (eval_with T b w.call) (eval_with T c w.call) behind (a_acts d) (as_type b (length rs) rs NoStatement b_is (pure_acts b rs pure.0 (b_acts rs behind))) (as_type c (length rs) rs NoStatement c_is (pure_acts c rs pure.1
            (c_acts rs behind)))
        by false d =
            tested_first K a k rs top (eval_with T b w.call) (eval_with T c w.call) (act w.unit bound rs2 b) (act w.unit bound rs3 c) is behind (omega (arith, whole, longer rs3 (act_takes w.unit c), longer rs2 (act_takes w.unit b))) (a_does d)
            (higher (Just K) (length (rs2 ++ act_takes w.unit b)) top rs rs2 (eval_with T b w.call) (act w.unit bound rs2 b) (omega (arith, whole, longer rs3 (act_takes w.unit c))) (longer rs (takes w.unit a))
            (as_type b (length (rs2 ++ act_takes w.unit b)) rs2 (act w.unit bound rs2 b) b_is (b_acts rs2 (omega (arith, behind, longer rs (takes w.unit a))))))
            (higher (Just K) (length (rs3 ++ act_takes w.unit c)) top rs rs3 (eval_with T c w.call) (act w.unit bound rs3 c) (omega (arith, whole)) (omega (arith, longer rs (takes w.unit a), longer rs2 (act_takes w.unit b)))
            (as_type c (length (rs3 ++ act_takes w.unit c)) rs3 (act w.unit bound rs3 c) c_is (c_acts rs3 (omega (arith, behind, longer rs (takes w.unit a), longer rs2 (act_takes w.unit b))))))
