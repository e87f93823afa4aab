-- Expressions with effects anywhere follow the source: what is said of them, two operands of which one may be kept, and binary operators.
use Rattle.std.proofs.Common.{◌≡◌, ℕ, suc, ◌<◌, ◌≤◌, Bool, true, false, if◌then◌else◌, List, [], ◌∷◌, ◌++◌, length, Option, Some, None, refl, sym, ap, ◌∙◌, subst, arith, slice_set}
use Rattle.std.proofs.lemmas.List.{length-append}
use Rattle.c_syntax.specs.declared.place.Place.{Place}
use Rattle.c_syntax.specs.declared.types.CInt.TheVariants.{I32, I64}
use Rattle.c_syntax.specs.declared.expression.BinOp.{BinOp}
use Rattle.c_syntax.specs.Ctypes.{PlainType}
use Rattle.c_syntax.specs.Expressions.{Expression, Node, Binary, type_of}
use Rattle.c_syntax.specs.Layouts.{Scalar, IntegerType, PointerType, scalar_of}
use Rattle.c_model.specs.Laws.{type_of_result}
use Rattle.c_model.specs.Memory.{Value}
use Rattle.c_model.specs.State.{State, Outcome, Normal, Stop, Evaluation, on_outcome, ◌>>=◌, give, computed}
use Rattle.c_model.specs.Meaning.{Tables, tables_of, eval_with, place_with, operate_values, unit_of}
use Rattle.c_model.specs.ExpressionTyping.{Sight}
use Rattle.c_model.specs.TypedTrees.{BinaryTypes, OfIntegers, OfPointerAndInteger, OfIntegerAndPointer, OfDifference, OfPointers}
use Rattle.mon_syntax.specs.declared.tree.MonType.{MonType}
use Rattle.mon_syntax.specs.Registers.{Bindings}
use Rattle.mon_syntax.specs.BlockMemory.{Blocks}
use Rattle.mon_syntax.specs.Trees.{MonExpression, Register, MonStatements}
use Rattle.c_effects.specs.Expressions.{value_type, register_type, before, set, operated, binary, element}
use Rattle.c_effects.specs.Expressions as spec
use Rattle.c_effects.specs.Full.{is_pure, is_inner, keeps, takes, act_takes, kept_takes, kept_value, result, location, prepare, act}
use Rattle.c_simulation.specs.SameRegisters.{Same}
use Rattle.c_simulation.specs.Standing.{Setting, Target, Did, runs, Has, IsOf, Bounded, Here, Standing, Beside}
use Rattle.c_simulation.specs.Following.{Later, IsResultOf}
use Rattle.c_simulation.specs.Reaching.{Reaches, Arrives, IsOver, IsUndefined, Anything, Valued, Placed}
use Rattle.c_simulation.specs.Calls.{value_of}
use Rattle.c_simulation.proofs.PureValues.{HasKind}
use Rattle.c_simulation.proofs.Registers.{same_less, same_trans, longer, same_set, get-set_same, same_all}
use Rattle.c_simulation.proofs.Following.{standing_later, later_same}
use Rattle.c_simulation.proofs.Evaluating.{Makes, MakesValue, MakesNone, set_runs}
use Rattle.c_simulation.proofs.Expressions.{binary_makes}
use Rattle.c_simulation.proofs.ExpressionTypes.{one_scalar, binary_at}
use Rattle.c_simulation.proofs.Places.{operated_numbers, operated_left, operated_right, operated_two, Both as Two, step_left, step_right, difference_makes, relation_makes}
use Rattle.c_simulation.proofs.Reaching.{Made, MadeValue, MadeNone, reached_lower, reaches_before, reaches_made}
use Rattle.c_simulation.proofs.Settled.{settled_stays, not_kept}
use Rattle.c_simulation.proofs.Unchanged.{value_leaves}

-- ---- parts of expressions, one after another

-- statements that only the target has
on_give : {A : Type 0} (r : Outcome A) → on_outcome r give ≡ r
on_give (Normal a s) = refl
on_give (Stop e s) = refl

module _ (w : Setting) (n : ℕ) where
  pub reaches_also : {A : Type 0} (P Q : A → List Value → State → Target → Type 0) (low : ℕ) (regs : List Value) (from : State) (t : Target) (r : Outcome A) (a b : MonStatements) → Reaches w P low regs from r (runs w n t a regs)
      → ((x : A) (s : State) (after : List Value) (u : Target) (o : List ℕ) → Same low regs after → Later from s o → Beside w s.store s u → P x after s u → Reaches w Q low after s (Normal x s) (runs w n u b after))
      → Reaches w Q low regs from r (runs w n t (before a b) regs)
  reaches_also P Q low regs from t r a b h k =
      subst (λ r. Reaches w Q low regs from r (runs w n t (before a b) regs)) (on_give r) (reaches_before w n P Q low regs from t r a b give h k)

  -- a value is put into a register
  pub reaches_set : (k : Scalar) (low high j : ℕ) (regs : List Value) (from : State) (t : Target) (r : Outcome Value) (a : MonStatements) (e : MonExpression) → low ≤ j → high ≤ j → j < length regs
      → Reaches w (Valued w k high e) low regs from r (runs w n t a regs) → Reaches w (Valued w k (suc j) (Register j)) low regs from r (runs w n t (before a (set j e)) regs)
  reaches_set k low high j regs from t r a e above over room h =
      reaches_also (Valued w k high e) (Valued w k (suc j) (Register j)) low regs from t r a (set j e) h (λ v s after u o same l b p.
      Arrives v s (slice_set after j v) u [] (same_set low j after v above) (later_same s l.bounded) b refl (set_runs w n u j e after v (p.1 after (same_all high after)))
      (p.0, λ later same2. same2.below j (omega arith) ∙ get-set_same after j v (omega (arith, same.long, room))))

-- what is known after a part, put in another way, where the source's answer may be used
pub reached_with : {A : Type 0} (w : Setting) (P Q : A → List Value → State → Target → Type 0) (low : ℕ) (regs : List Value) (from : State) (r : Outcome A) (q : Did) → Reaches w P low regs from r q
    → ((a : A) (s : State) (after : List Value) (t : Target) → Same low regs after → Beside w s.store s t → r ≡ Normal a s → P a after s t → Q a after s t) → Reaches w Q low regs from r q
reached_with w P Q low regs from r q (Arrives a s after t o m l b e e' h) k = Arrives a s after t o m l b e e' (k a s after t m b e h)
reached_with w P Q low regs from r q (IsOver x z s o d e l e') k = IsOver x z s o d e l e'
reached_with w P Q low regs from r q (IsUndefined at s o e l ext) k = IsUndefined at s o e l ext

-- blocks beside the same store
same_blocks : (a b : Blocks) → a.store ≡ b.store → a.frames ≡ b.frames → a ≡ b
same_blocks a b p q = λ i. record { store = p i; frames = q i }

pub beside_same : (w : Setting) (s to : State) (t u : Target) → to ≡ s → Beside w s.store s t → Beside w to.store to u → u.mem ≡ t.mem
beside_same w s to t u is b c = same_blocks u.mem t.mem (c.store_is ∙ ap (λ s. s.store) is ∙ sym b.store_is) (c.frames ∙ sym b.frames)

pub paired : {A B C : Type 0} (r : Outcome A) (m : Evaluation B) (f : A → B → Evaluation C) → on_outcome (on_outcome r (λ i. m >>= λ j. give (i, j))) (λ (p : A × B). f p.0 p.1) ≡ on_outcome r (λ i. m >>= λ j. f i j)
paired {A} {B} {C} (Normal i s) m f = by (m s)
  where
    by : (q : Outcome B) → on_outcome (on_outcome q (λ j. give (i, j))) (λ (p : A × B). f p.0 p.1) ≡ on_outcome q (λ j. f i j)
    by (Normal j u) = refl
    by (Stop e u) = refl
paired (Stop e s) m f = refl

-- two values at once, the first of which is x
abbrev pub BothValued : Setting → Scalar → Scalar → ℕ → MonExpression → MonExpression → Value × Value → List Value → State → Target → Type 0
BothValued w k l high x y p after s t = IsOf k p.0 × IsOf l p.1 × ((later : List Value) → Same high after later → Has w x later t.mem p.0 × Has w y later t.mem p.1)

-- the second, where the first still is i
abbrev pub Second : Setting → Scalar → ℕ → MonExpression → MonExpression → Value → Value → List Value → State → Target → Type 0
Second w l high x y i j after s t = IsOf l j × ((later : List Value) → Same high after later → Has w x later t.mem i × Has w y later t.mem j)

pub two_reach : (w : Setting) (n : ℕ) (k l : Scalar) (low high last : ℕ) (regs : List Value) (s : State) (t : Target) (r : Outcome Value) (m : Evaluation Value) (a b : MonStatements) (x y : MonExpression) → low ≤ high
    → Reaches w (Valued w k high x) low regs s r (runs w n t a regs)
    → ((i : Value) (to : State) (after : List Value) (u : Target) (o : List ℕ) → Same low regs after → Later s to o → Beside w to.store to u → IsOf k i → ((later : List Value) → Same high after later → Has w x later u.mem i)
    → Reaches w (Second w l last x y i) high after to (m to) (runs w n u b after))
    → Reaches w (BothValued w k l last x y) low regs s (on_outcome r (λ i. m >>= λ j. give (i, j))) (runs w n t (before a b) regs)
two_reach w n k l low high last regs s t r m a b x y le first second =
    reaches_before w n (Valued w k high x) (BothValued w k l last x y) low regs s t r a b (λ i. m >>= λ j. give (i, j)) first (λ i to after u o same later be p.
    reaches_made w (Second w l last x y i) (BothValued w k l last x y) low after to (m to) (runs w n u b after) (λ j. give (i, j))
    (reached_lower w (Second w l last x y i) low high after to (m to) (runs w n u b after) le (second i to after u o same later be p.0 p.1)) (λ j to2 after2 v o2 same2 later2 be2 q. MadeValue (i, j) refl (p.0, q.0, q.1)))

-- a value that is dropped: of the kind of its type, where that is scalar
abbrev pub Kinded : Option Scalar → Value → List Value → State → Target → Type 0
Kinded o v after s t = HasKind o v

pub of_kind : (k : Scalar) (v : Value) → IsOf k v → HasKind (Some k) v
of_kind (IntegerType i) v f = (f.0, f.1)
of_kind PointerType v f = (f.0, f.1)

pub result_kind : (o : Option Scalar) (v : Option Value) → IsResultOf o v → HasKind o (value_of v)
result_kind None v f = tt
result_kind (Some k) None f = absurd f
result_kind (Some k) (Some v) f = of_kind k v f

module _ (w : Setting) (n : ℕ) (h : Here) (low : ℕ) (bound : Bindings) where
  abbrev T : Tables
  T = tables_of w.unit

  abbrev pub long : List MonType → Expression → ℕ
  long rs e = length (rs ++ takes w.unit e)

  -- what is done for an expression from any state in which the call stands, with so many registers
  abbrev pub FromHere : {A : Type 0} → (A → List Value → State → Target → Type 0) → ℕ → List MonType → Evaluation A → MonStatements → Type 0
  FromHere P high rs r code =
      (s : State) (t : Target) (regs : List Value) → s.steps ≤ n → Standing w h low bound regs s → Beside w s.store s t → high ≤ w.registers → Reaches w P (length rs) regs s (r s) (runs w n t code regs)

  -- the statements of an expression and then its value follow it
  abbrev pub Computes : Expression → Scalar → List MonType → Type 0
  Computes e k rs = FromHere (Valued w k (long rs e) (result w.unit bound rs e)) (long rs e) rs (eval_with T e w.call) (prepare w.unit bound rs e)

  -- the same of the place of an object
  abbrev pub Locates : Expression → List MonType → Type 0
  Locates e rs = FromHere (Placed w (is_inner e) (long rs e) (location w.unit bound rs e)) (long rs e) rs (place_with T e w.call) (prepare w.unit bound rs e)

  -- for its effects alone, as a value and as the place of an object
  abbrev pub Acts : Expression → List MonType → Type 0
  Acts e rs = FromHere (Kinded (scalar_of (type_of e))) (length (rs ++ act_takes w.unit e)) rs (eval_with T e w.call) (act w.unit bound rs e)

  abbrev pub ActsAt : Expression → List MonType → Type 0
  ActsAt e rs = FromHere Anything (length (rs ++ act_takes w.unit e)) rs (place_with T e w.call) (act w.unit bound rs e)

  -- after a part the call stands as before
  pub stands_after : (rs : List MonType) (regs after : List Value) (s to : State) (o : List ℕ) → low ≤ length rs → Same (length rs) regs after → Later s to o → Standing w h low bound regs s → Standing w h low bound after to
  stands_after rs regs after s to o behind same l m = standing_later w h low bound regs after s to o (same_less low (length rs) regs after behind same) l m

  -- what depends on no later effect stays
  pub stays_over : (a b : Expression) (rs : List MonType) → keeps a b ≡ false → (later : List Value) (mem mem2 : Blocks) (i : Value) → (is_pure b ≡ true → mem2 ≡ mem) → Has w (result w.unit bound rs a) later mem i
      → Has w (result w.unit bound rs a) later mem2 i
  stays_over a b rs free later mem mem2 i quiet has = by (is_pure b) refl
    where
      by : (c : Bool) → is_pure b ≡ c → Has w (result w.unit bound rs a) later mem2 i
      by true p = subst (λ m. Has w (result w.unit bound rs a) later m i) (sym (quiet p)) has
      by false p = settled_stays w bound rs a (not_kept a b free p) later mem mem2 i has

  -- ---- two operands, of which the first is kept where the second has an effect, and it isn't settled

  module _ (a b : Expression) (k l : Scalar) (rs : List MonType) (behind : low ≤ length rs) where
    abbrev after_left : List MonType
    after_left = rs ++ kept_takes w.unit a b

    abbrev last : ℕ
    last = length (after_left ++ takes w.unit b)

    abbrev OperandsWith : Bool → List MonType → State → Target → List Value → Type 0
    OperandsWith c rs2 s t regs =
        Reaches w (BothValued w k l (length (rs2 ++ takes w.unit b)) (if c then Register (long rs a) else result w.unit bound rs a) (result w.unit bound rs2 b)) (length rs) regs s
        (on_outcome (eval_with T a w.call s) (λ i. eval_with T b w.call >>= λ j. give (i, j)))
        (runs w n t (before (if c then before (prepare w.unit bound rs a) (set (long rs a) (result w.unit bound rs a)) else prepare w.unit bound rs a) (prepare w.unit bound rs2 b)) regs)

    abbrev ts : Bool → List MonType
    ts c = if c then takes w.unit a ++ value_type (type_of a) ∷ [] else takes w.unit a

    pub operands_follow : Computes a k rs → Computes b l after_left → (s : State) (t : Target) (regs : List Value) → s.steps ≤ n → Standing w h low bound regs s → Beside w s.store s t → last ≤ w.registers
        → OperandsWith (keeps a b) after_left s t regs
    operands_follow a_does b_does s t regs le m be room = by (keeps a b) refl b_does room
      where
        r : ℕ
        r = long rs a

        -- it stands in a register
        kept : Computes b l (rs ++ ts true) → length (rs ++ ts true ++ takes w.unit b) ≤ w.registers → OperandsWith true (rs ++ ts true) s t regs
        kept b_does most =
            let rs2 = rs ++ ts true in
            let high = length (rs2 ++ takes w.unit b) in
            let size : length rs2 ≡ suc r = omega (arith, length-append rs (ts true), length-append (takes w.unit a) (value_type (type_of a) ∷ []), length-append rs (takes w.unit a)) in
            two_reach w n k l (length rs) (length rs2) high regs s t (eval_with T a w.call s) (eval_with T b w.call) (before (prepare w.unit bound rs a) (set r (result w.unit bound rs a)))
            (prepare w.unit bound rs2 b) (Register r) (result w.unit bound rs2 b) (longer rs (ts true))
            (subst (λ x. Reaches w (Valued w k x (Register r)) (length rs) regs s (eval_with T a w.call s) (runs w n t (before (prepare w.unit bound rs a) (set r (result w.unit bound rs a))) regs)) (sym size)
            (reaches_set w n k (length rs) r r regs s t (eval_with T a w.call s) (prepare w.unit bound rs a) (result w.unit bound rs a) (longer rs (takes w.unit a)) (omega arith) (omega (arith, most, longer rs2 (takes w.unit b), size, m.registers))
            (a_does s t regs le m be (omega (arith, most, longer rs2 (takes w.unit b), size)))))
            (λ i to after u o same later be2 f has.
            reached_with w (Valued w l high (result w.unit bound rs2 b)) (Second w l high (Register r) (result w.unit bound rs2 b) i) (length rs2) after to (eval_with T b w.call to) (runs w n u (prepare w.unit bound rs2 b) after)
            (b_does to u after (omega (arith, le, later.spent)) (stands_after rs regs after s to o behind same later m) be2 most) (λ j to2 after2 v same2 be3 e p.
            (p.0, λ more same3. (has more (same_trans (length rs2) high after after2 more (longer rs2 (takes w.unit b)) same2 same3), p.1 more same3))))

        -- no effect changes it, or none comes after it
        free : keeps a b ≡ false → Computes b l (rs ++ ts false) → length (rs ++ ts false ++ takes w.unit b) ≤ w.registers → OperandsWith false (rs ++ ts false) s t regs
        free c b_does most =
            let rs2 = rs ++ takes w.unit a in
            let high = length (rs2 ++ takes w.unit b) in
            two_reach w n k l (length rs) r high regs s t (eval_with T a w.call s) (eval_with T b w.call) (prepare w.unit bound rs a)
            (prepare w.unit bound rs2 b) (result w.unit bound rs a) (result w.unit bound rs2 b) (longer rs (takes w.unit a))
            (a_does s t regs le m be (omega (arith, most, longer rs2 (takes w.unit b)))) (λ i to after u o same later be2 f has.
            reached_with w (Valued w l high (result w.unit bound rs2 b)) (Second w l high (result w.unit bound rs a) (result w.unit bound rs2 b) i) r after to (eval_with T b w.call to) (runs w n u (prepare w.unit bound rs2 b) after)
            (b_does to u after (omega (arith, le, later.spent)) (stands_after rs regs after s to o behind same later m) be2 most) (λ j to2 after2 v same2 be3 e p. (
              p.0,
              λ more same3. (
                stays_over a b rs c more u.mem v.mem i (λ pure. beside_same w to to2 u v (value_leaves T w.call to b pure j to2 e) be2 be3)
                    (has more (same_trans r high after after2 more (longer rs2 (takes w.unit b)) same2 same3)),
                p.1 more same3,
              ),
            )))

        by : (c : Bool) → keeps a b ≡ c → Computes b l (rs ++ ts c) → length (rs ++ ts c ++ takes w.unit b) ≤ w.registers → OperandsWith c (rs ++ ts c) s t regs
        by true c does most = kept does most
        by false c does most = free c does most

  -- ---- operators

  pub made_of : (k : Scalar) (high : ℕ) (after : List Value) (s : State) (t : Target) (o : Outcome Value) (P : List Value → Type 0) (e : MonExpression) → ((later : List Value) → Same high after later → P later) → Makes w n t s k o P e
      → Made w (Valued w k high e) after s t o
  made_of k high after s t o P e there (MakesNone at x) = MadeNone at x
  made_of k high after s t o P e there (MakesValue v fit x has) = MadeValue v x (fit, λ later same. has later (there later same))

  module _ (sight : Sight) (at : Place) (t : PlainType) (op : BinOp) (a b : Expression) (rs : List MonType) (behind : low ≤ length rs) (types : BinaryTypes sight op t (type_of a) (type_of b)) where
    abbrev this : Expression
    this = Node at t (Binary op a b)

    abbrev x : MonExpression
    x = kept_value (keeps a b) (length (rs ++ takes w.unit a)) (result w.unit bound rs a)

    abbrev y : MonExpression
    y = result w.unit bound (rs ++ kept_takes w.unit a b) b

    abbrev end_of_both : ℕ
    end_of_both = length (rs ++ kept_takes w.unit a b ++ takes w.unit b)

    whole : long rs this ≡ end_of_both
    whole = omega (arith, length-append rs (kept_takes w.unit a b ++ takes w.unit b), length-append (kept_takes w.unit a b) (takes w.unit b), length-append (rs ++ kept_takes w.unit a b) (takes w.unit b), length-append rs (kept_takes w.unit a b))

    abbrev unit : ℕ
    unit = unit_of T.structs (type_of a) (type_of b)

    -- the operands of these types
    abbrev OperandsOf : Scalar → Scalar → State → Target → List Value → Type 0
    OperandsOf k l s u regs =
        Reaches w (BothValued w k l end_of_both x y) (length rs) regs s (on_outcome (eval_with T a w.call s) (λ i. eval_with T b w.call >>= λ j. give (i, j)))
        (runs w n u (prepare w.unit bound rs this) regs)

    operator_computes : (k l m : Scalar) (e : MonExpression) (s : State) (u : Target) (regs : List Value) → operated T.structs op (type_of a) (type_of b) x y ≡ e → OperandsOf k l s u regs
        → ((i j : Value) (to : State) (v : Target) → (store_is : v.mem.store ≡ to.store) → (bounded : Bounded to.store) → IsOf k i → IsOf l j
        → Makes w n v to m (computed at (λ store. operate_values unit t op store i j) to) (Two w n v to store_is bounded x y i j) e)
        → Reaches w (Valued w m (long rs this) (result w.unit bound rs this)) (length rs) regs s (eval_with T this w.call s) (runs w n u (prepare w.unit bound rs this) regs)
    operator_computes k l m e s u regs is operands go =
        rw whole (rw is
        (subst (λ r. Reaches w (Valued w m end_of_both e) (length rs) regs s r (runs w n u (prepare w.unit bound rs this) regs))
        (paired (eval_with T a w.call s) (eval_with T b w.call) (λ i j. computed at (λ store. operate_values unit t op store i j)))
        (reaches_made w (BothValued w k l end_of_both x y) (Valued w m end_of_both e) (length rs) regs s (on_outcome (eval_with T a w.call s) (λ i. eval_with T b w.call >>= λ j. give (i, j)))
        (runs w n u (prepare w.unit bound rs this) regs) (λ (p : Value × Value). computed at (λ store. operate_values unit t op store p.0 p.1)) operands
        (λ p to after v o same later be q. made_of m end_of_both after to v _ (Two w n v to be.store_is later.bounded x y p.0 p.1) e q.2 (go p.0 p.1 to v be.store_is later.bounded q.0 q.1)))))

    abbrev AsTyped : Scalar → State → Target → List Value → Type 0
    AsTyped m s u regs = Reaches w (Valued w m (long rs this) (result w.unit bound rs this)) (length rs) regs s (eval_with T this w.call s) (runs w n u (prepare w.unit bound rs this) regs)

    binary_reaches : (k : Scalar) (s : State) (u : Target) (regs : List Value) → scalar_of t ≡ Some k → BinaryTypes sight op t (type_of a) (type_of b)
        → ((k l : Scalar) → scalar_of (type_of a) ≡ Some k → scalar_of (type_of b) ≡ Some l → OperandsOf k l s u regs) → AsTyped k s u regs
    binary_reaches k s u regs is (OfIntegers o) operands =
        let m = binary_at op t (type_of a) (type_of b) o in
        subst (λ k. AsTyped k s u regs) (one_scalar t (IntegerType (type_of_result op m.left)) k m.result is)
        (operator_computes (IntegerType m.left) (IntegerType m.right) (IntegerType (type_of_result op m.left)) (binary op (register_type m.left) (register_type m.right) x y) s u regs
        (operated_numbers T.structs (type_of a) (type_of b) x y op m.left m.right m.left_is m.right_is) (operands (IntegerType m.left) (IntegerType m.right) m.left_is m.right_is)
        (λ i j to v store_is bounded f g. binary_makes w n to v at unit op t (type_of a) (type_of b) x y i j m f g))
    binary_reaches k s u regs is (OfPointerAndInteger step p q same) operands =
        let left : scalar_of (type_of a) ≡ Some PointerType = ap scalar_of p.is in
        let right : scalar_of (type_of b) ≡ Some (IntegerType q.int) = ap scalar_of q.is in
        subst (λ k. AsTyped k s u regs) (one_scalar t PointerType k (ap scalar_of same ∙ left) is)
        (operator_computes PointerType (IntegerType q.int) PointerType (spec.pointer_and_integer op unit x (register_type q.int) y) s u regs
        (operated_left T.structs (type_of a) (type_of b) x y op q.int left right) (operands PointerType (IntegerType q.int) left right)
        (λ i j to v store_is bounded f g. step_left w n v to store_is bounded at op unit t q.int x y i j step f g))
    binary_reaches k s u regs is (OfIntegerAndPointer step p q same) operands =
        let left : scalar_of (type_of a) ≡ Some (IntegerType p.int) = ap scalar_of p.is in
        let right : scalar_of (type_of b) ≡ Some PointerType = ap scalar_of q.is in
        subst (λ k. AsTyped k s u regs) (one_scalar t PointerType k (ap scalar_of same ∙ right) is)
        (operator_computes (IntegerType p.int) PointerType PointerType (element unit y (register_type p.int) x) s u regs
        (operated_right T.structs (type_of a) (type_of b) x y op p.int left right) (operands (IntegerType p.int) PointerType left right)
        (λ i j to v store_is bounded f g. step_right w n v to store_is bounded at op unit t p.int x y i j step f g))
    binary_reaches k s u regs is (OfDifference minus p same result2) operands =
        let left : scalar_of (type_of a) ≡ Some PointerType = ap scalar_of p.is in
        let right : scalar_of (type_of b) ≡ Some PointerType = ap scalar_of same ∙ left in
        subst (λ k. AsTyped k s u regs) (one_scalar t (IntegerType I64) k (ap scalar_of result2) is)
        (operator_computes PointerType PointerType (IntegerType I64) (spec.two_pointers op unit x y) s u regs
        (operated_two T.structs (type_of a) (type_of b) x y op left right) (operands PointerType PointerType left right)
        (λ i j to v store_is bounded f g. difference_makes w n v to store_is bounded at op unit t x y i j minus f g))
    binary_reaches k s u regs is (OfPointers relation p q result2) operands =
        let left : scalar_of (type_of a) ≡ Some PointerType = ap scalar_of p.is in
        let right : scalar_of (type_of b) ≡ Some PointerType = ap scalar_of q.is in
        subst (λ k. AsTyped k s u regs) (one_scalar t (IntegerType I32) k (ap scalar_of result2) is)
        (operator_computes PointerType PointerType (IntegerType I32) (spec.two_pointers op unit x y) s u regs
        (operated_two T.structs (type_of a) (type_of b) x y op left right) (operands PointerType PointerType left right)
        (λ i j to v store_is bounded f g. relation_makes w n v to store_is bounded at op unit t x y i j relation f g))

    pub binary_computes : (k : Scalar) → scalar_of t ≡ Some k
        → ((k : Scalar) → scalar_of (type_of a) ≡ Some k → Computes a k rs) → ((l : Scalar) → scalar_of (type_of b) ≡ Some l → Computes b l (rs ++ kept_takes w.unit a b)) → Computes this k rs
    binary_computes k is a_does b_does s u regs le m be room =
        binary_reaches k s u regs is types (λ i j f g. operands_follow a b i j rs behind (a_does i f) (b_does j g) s u regs le m be (omega (arith, whole, room)))
