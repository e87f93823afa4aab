-- What is evaluated only at times, and what is made of one value: `&&`, `||`, `?:`, conditions and unary operators, with effects in them.
use Rattle.std.proofs.Common.{◌≡◌, ℕ, suc, ◌<◌, ◌≤◌, ℤ, pos, true, not, List, [], ◌∷◌, ◌++◌, length, Some, slice_set, refl, sym, ap, ◌∙◌, subst, arith, Bool, false, cond}
use Rattle.std.proofs.lemmas.List.{length-append}
use Rattle.std.specs.Ordering.{int_eq}
use Rattle.c_syntax.specs.declared.place.Place.{Place}
use Rattle.c_syntax.specs.declared.types.CInt.{CInt}
use Rattle.c_syntax.specs.declared.types.CInt.TheVariants.{I32}
use Rattle.c_syntax.specs.declared.expression.UnOp.{UnOp}
use Rattle.c_syntax.specs.declared.expression.UnOp.TheVariants as prefix
use Rattle.c_syntax.specs.Ctypes.{PlainType, Int}
use Rattle.c_syntax.specs.Expressions.{Expression, Node, Unary, Both, Either, Choice, place_of, type_of}
use Rattle.c_syntax.specs.Layouts.{Scalar, IntegerType, scalar_of}
use Rattle.c_model.specs.Integers.{fits, truth, operate_one}
use Rattle.c_model.specs.Memory.{Value, Integer}
use Rattle.c_model.specs.State.{State, Outcome, Normal, Evaluation, on_outcome, ◌>>=◌, give, defined, tested}
use Rattle.c_model.specs.Meaning.{Tables, tables_of, eval_with, operate_value, truth_value, is_zero}
use Rattle.c_model.specs.Meaning as source
use Rattle.c_model.specs.TypedTrees.{IsPromoted}
use Rattle.c_model.specs.Conversions.{promoted}
use Rattle.mon_syntax.specs.declared.tree.MonType.{MonType}
use Rattle.mon_syntax.specs.declared.tree.MonType.TheVariants as kind
use Rattle.mon_syntax.specs.declared.tree.MonOp.TheVariants as mon
use Rattle.mon_syntax.specs.Registers.{Bindings}
use Rattle.mon_syntax.specs.Meaning.{Done, Next, choose}
use Rattle.mon_syntax.specs.Trees.{MonExpression, Register, Constant, MonStatements}
use Rattle.mon_syntax.specs.Trees as tree
use Rattle.c_effects.specs.Expressions.{value_type, register_type, before, one, set, condition, compared, unary}
use Rattle.c_effects.specs.Expressions as spec
use Rattle.c_effects.specs.Full.{takes, result, truth_result, condition_result, prepare}
use Rattle.c_simulation.specs.SameRegisters.{Same}
use Rattle.c_simulation.specs.Standing.{Setting, Target, Did, runs, Has, Bounded, Here, Standing, Beside}
use Rattle.c_simulation.specs.Following.{Later, Evaluates, HasValue, HasNone, Tests, HasTest, HasNoTest}
use Rattle.c_simulation.specs.Reaching.{Reaches, Arrives, Valued, Tested}
use Rattle.c_simulation.proofs.Registers.{same_all, same_set, get-set_same, longer}
use Rattle.c_simulation.proofs.Following.{later_same}
use Rattle.c_simulation.proofs.Evaluating.{set_runs, if_runs}
use Rattle.c_simulation.proofs.Expressions.{unary_makes, handed_on}
use Rattle.c_simulation.proofs.ExpressionTypes.{one_scalar}
use Rattle.c_simulation.proofs.Integers.{truth_fits}
use Rattle.c_simulation.proofs.Places.{tests_follow, tested_number}
use Rattle.c_simulation.proofs.PointerValues.{scalar_register, value_type_is}
use Rattle.c_simulation.proofs.Reaching.{Made, MadeValue, MadeNone, reached_lower, reaches_before, reaches_made}
use Rattle.c_simulation.proofs.Operands.{Computes, long, made_of, stands_after, reaches_set}

module _ (w : Setting) (n : ℕ) (h : Here) (low : ℕ) (bound : Bindings) where
  abbrev T : Tables
  T = tables_of w.unit

  -- ---- what is made of one value, by the theorems of expressions without effects

  -- a value that is there already
  pub there_already : (k : Scalar) (high : ℕ) (e : MonExpression) (v : Value) (after : List Value) (s : State) (t : Target) → Valued w k high e v after s t → Evaluates w k s t (Normal v s) after high high (Done (Next after) t []) e
  there_already k high e v after s t p = HasValue v p.0 refl after (same_all high after) refl p.1

  pub one_made : (m : Scalar) (high : ℕ) (e : MonExpression) (after : List Value) (s : State) (t : Target) (o : Outcome Value) → Evaluates w m s t o after high high (Done (Next after) t []) e → Made w (Valued w m high e) after s t o
  one_made m high e after s t o (HasNone at x) = MadeNone at x
  one_made m high e after s t o (HasValue v fit x after2 same run has) = let is : after2 ≡ after = cc in MadeValue v x (fit, λ later same3. has later (subst (λ r. Same high r later) (sym is) same3))

  -- a condition
  pub test_made : (high : ℕ) (c : MonExpression) (after : List Value) (s : State) (t : Target) (o : Outcome Value) → Tests w s t o after high high (Done (Next after) t []) c → Made w (Tested w high c) after s t o
  test_made high c after s t o (HasNoTest at x) = MadeNone at x
  test_made high c after s t o (HasTest u x after2 same run has) = let is : after2 ≡ after = cc in MadeValue u x (λ later same3. has later (subst (λ r. Same high r later) (sym is) same3))

  pub tests_reach : (at : Place) (k : Scalar) (low2 high : ℕ) (regs : List Value) (s : State) (r : Outcome Value) (q : Did) (e : MonExpression) → Reaches w (Valued w k high e) low2 regs s r q
      → Reaches w (Tested w high (condition (scalar_register k) e)) low2 regs s (on_outcome r (tested at)) q
  tests_reach at k low2 high regs s r q e h =
      reaches_made w (Valued w k high e) (Tested w high (condition (scalar_register k) e)) low2 regs s r q (tested at) h (λ v to after u o same later be p.
      test_made high (condition (scalar_register k) e) after to u (tested at v to)
      (tests_follow w n u to be.store_is later.bounded at k (Normal v to) after high high (Done (Next after) u []) e (there_already k high e v after to u p)))

  -- whether a value isn't 0
  pub truth_reach : (at : Place) (k : Scalar) (low2 high : ℕ) (regs : List Value) (s : State) (r : Outcome Value) (q : Did) (e : MonExpression) → Reaches w (Valued w k high e) low2 regs s r q
      → Reaches w (Valued w (IntegerType I32) high (spec.truth (scalar_register k) e)) low2 regs s (on_outcome (on_outcome r (tested at)) (λ y. give (truth_value y))) q
  truth_reach at k low2 high regs s r q e h =
      subst (λ r. Reaches w (Valued w (IntegerType I32) high (spec.truth (scalar_register k) e)) low2 regs s r q) (handed_on r (tested at) (λ y. give (truth_value y)))
      (reaches_made w (Valued w k high e) (Valued w (IntegerType I32) high (spec.truth (scalar_register k) e)) low2 regs s r q (λ v. tested at v >>= λ y. give (truth_value y)) h (λ v to after u o same later be p.
      one_made (IntegerType I32) high (spec.truth (scalar_register k) e) after to u (on_outcome (tested at v to) (λ y. give (truth_value y)))
      (tested_number w n u to be.store_is later.bounded at k (λ u. truth (not (is_zero u))) (Normal v to) after high high (Done (Next after) u []) e (spec.truth (scalar_register k) e) (λ u. truth_fits (not (is_zero u)))
      (λ u later c. c.differs) (there_already k high e v after to u p))))

  -- ---- what is evaluated only at times

  -- 0 chooses the second on both sides
  reaches_choice : {A : Type 0} (Q : A → List Value → State → Target → Type 0) (least : ℕ) (regs : List Value) (from s : State) (v : Value) (i : ℤ) (x y : Evaluation A) (p q : Did) → int_eq i (pos 0) ≡ is_zero v
      → Reaches w Q least regs from (x s) p → Reaches w Q least regs from (y s) q → Reaches w Q least regs from (source.choose v x y s) (choose i p q)
  reaches_choice Q least regs from s v i x y p q same f k =
      subst (λ t. Reaches w Q least regs from (source.choose v x y s) (cond t q p)) (sym same) (by (is_zero v))
    where
      by : (t : Bool) → Reaches w Q least regs from (cond t y x s) (cond t q p)
      by true = k
      by false = f

  -- a condition, and a register that both parts set
  pub if_reaches : {A : Type 0} (Q : A → List Value → State → Target → Type 0) (low2 high : ℕ) (regs : List Value) (s : State) (t : Target) (r : Outcome Value) (x y : Evaluation A) (a b c : MonStatements) (test : MonExpression)
      → Reaches w (Tested w high test) low2 regs s r (runs w n t a regs)
      → ((to : State) (after : List Value) (u : Target) (o : List ℕ) → Same low2 regs after → Later s to o → Beside w to.store to u → Reaches w Q low2 after to (x to) (runs w n u b after))
      → ((to : State) (after : List Value) (u : Target) (o : List ℕ) → Same low2 regs after → Later s to o → Beside w to.store to u → Reaches w Q low2 after to (y to) (runs w n u c after))
      → Reaches w Q low2 regs s (on_outcome r (λ v. source.choose v x y)) (runs w n t (before a (one (tree.If test b c))) regs)
  if_reaches Q low2 high regs s t r x y a b c test h go on =
      reaches_before w n (Tested w high test) Q low2 regs s t r a (one (tree.If test b c)) (λ v. source.choose v x y) h (λ v to after u o same later be p.
      let i = p after (same_all high after) in
      subst (λ q. Reaches w Q low2 after to (source.choose v x y to) q) (sym (if_runs w n u test b c after i.number i.has))
      (reaches_choice Q low2 after to to v i.number x y (runs w n u b after) (runs w n u c after) i.alike (go to after u o same later be) (on to after u o same later be)))

  -- a constant in a register
  constant_reaches : (z : ℤ) → fits I32 z ≡ true → (low2 j : ℕ) (regs : List Value) (s : State) (t : Target) → low2 ≤ j → j < length regs → Bounded s.store → Beside w s.store s t
      → Reaches w (Valued w (IntegerType I32) (suc j) (Register j)) low2 regs s (give (Integer z) s) (runs w n t (set j (Constant kind.I32 z)) regs)
  constant_reaches z f low2 j regs s t above room bounded be =
      Arrives (Integer z) s (slice_set regs j (Integer z)) t [] (same_set low2 j regs (Integer z) above) (later_same s bounded) be refl (set_runs w n t j (Constant kind.I32 z) regs (Integer z) refl)
      ((z, refl, f), λ later same. same.below j (omega arith) ∙ get-set_same regs j (Integer z) room)

  module _ (at : Place) (t : PlainType) (a b : Expression) (k l : Scalar) (rs : List MonType) (behind : low ≤ length rs) (a_is : scalar_of (type_of a) ≡ Some k) (b_is : scalar_of (type_of b) ≡ Some l) (a_does : Computes w n h low bound a k rs)
      (b_does : Computes w n h low bound b l (rs ++ takes w.unit a)) (s : State) (u : Target) (regs : List Value) (le : s.steps ≤ n) (m : Standing w h low bound regs s) (be : Beside w s.store s u)
      (room : length (rs ++ (takes w.unit a ++ takes w.unit b ++ kind.I32 ∷ [])) ≤ w.registers) where
    abbrev j : ℕ
    j = length (rs ++ takes w.unit a ++ takes w.unit b)

    j_long : length (rs ++ (takes w.unit a ++ takes w.unit b ++ kind.I32 ∷ [])) ≡ suc j
    j_long =
        omega (
          arith,
          length-append rs (takes w.unit a ++ takes w.unit b ++ kind.I32 ∷ []),
          length-append (takes w.unit a ++ takes w.unit b) (kind.I32 ∷ []),
          length-append (takes w.unit a) (takes w.unit b),
          length-append (rs ++ takes w.unit a)
              (takes w.unit b),
          length-append rs (takes w.unit a),
        )

    a_tested : Reaches w (Tested w (long w n h low bound rs a) (condition_result w.unit bound rs a)) (length rs) regs s (source.condition_of T a w.call s) (runs w n u (prepare w.unit bound rs a) regs)
    a_tested =
        subst (λ m. Reaches w (Tested w (long w n h low bound rs a) (condition m (result w.unit bound rs a))) (length rs) regs s (source.condition_of T a w.call s) (runs w n u (prepare w.unit bound rs a) regs)) (sym (value_type_is
        (type_of a) k a_is))
        (tests_reach (place_of a) k (length rs) (long w n h low bound rs a) regs s (eval_with T a w.call s) (runs w n u (prepare w.unit bound rs a) regs) (result w.unit bound rs a)
        (a_does s u regs le m be (omega (arith, j_long, room, longer (rs ++ takes w.unit a) (takes w.unit b)))))

    abbrev truth_code : MonStatements
    truth_code = before (prepare w.unit bound (rs ++ takes w.unit a) b) (set j (truth_result w.unit bound (rs ++ takes w.unit a) b))

    right_reaches : (to : State) (after : List Value) (v : Target) (o : List ℕ) → Same (length rs) regs after → Later s to o → Beside w to.store to v
        → Reaches w (Valued w (IntegerType I32) (suc j) (Register j)) (length rs) after to ((source.condition_of T b w.call >>= λ y. give (truth_value y)) to) (runs w n v truth_code after)
    right_reaches to after v o same later be2 =
        let rs2 = rs ++ takes w.unit a in
        reached_lower w (Valued w (IntegerType I32) (suc j) (Register j)) (length rs) (length rs2) after to _ (runs w n v truth_code after) (longer rs (takes w.unit a))
        (reaches_set w n (IntegerType I32) (length rs2) j j after to v _ (prepare w.unit bound rs2 b) (truth_result w.unit bound rs2 b) (longer rs2 (takes w.unit b)) (omega arith) (omega (arith, j_long, room, same.long, m.registers))
        (subst (λ m. Reaches w (Valued w (IntegerType I32) j (spec.truth m (result w.unit bound rs2 b))) (length rs2) after to ((source.condition_of T b w.call >>= λ y. give (truth_value y)) to) (runs w n v (prepare w.unit bound rs2 b) after))
        (sym (value_type_is (type_of b) l b_is))
        (truth_reach (place_of b) l (length rs2) j after to (eval_with T b w.call to) (runs w n v (prepare w.unit bound rs2 b) after) (result w.unit bound rs2 b)
        (b_does to v after (omega (arith, le, later.spent)) (stands_after w n h low bound rs regs after s to o behind same later m) be2 (omega (arith, j_long, room))))))

    fixed_reaches : (z : ℤ) → fits I32 z ≡ true → (to : State) (after : List Value) (v : Target) (o : List ℕ) → Same (length rs) regs after → Later s to o → Beside w to.store to v
        → Reaches w (Valued w (IntegerType I32) (suc j) (Register j)) (length rs) after to (give (Integer z) to) (runs w n v (set j (Constant kind.I32 z)) after)
    fixed_reaches z f to after v o same later be2 =
        constant_reaches z f (length rs) j after to v (omega (arith, longer (rs ++ takes w.unit a) (takes w.unit b), longer rs (takes w.unit a))) (omega (arith, j_long, room, same.long, m.registers)) later.bounded be2

    pub both_reaches : Reaches w (Valued w (IntegerType I32) (long w n h low bound rs (Node at t (Both a b))) (result w.unit bound rs (Node at t (Both a b)))) (length rs) regs s (eval_with T (Node at t (Both a b)) w.call s)
        (runs w n u (prepare w.unit bound rs (Node at t (Both a b))) regs)
    both_reaches =
        rw j_long (if_reaches (Valued w (IntegerType I32) (suc j) (Register j)) (length rs) (long w n h low bound rs a) regs s u (source.condition_of T a w.call s) (source.condition_of T b w.call >>= λ y. give (truth_value y)) (give (Integer
        (pos 0)))
        (prepare w.unit bound rs a) truth_code (set j (Constant kind.I32 (pos 0))) (condition_result w.unit bound rs a) a_tested right_reaches (fixed_reaches (pos 0) refl))

    pub either_reaches : Reaches w (Valued w (IntegerType I32) (long w n h low bound rs (Node at t (Either a b))) (result w.unit bound rs (Node at t (Either a b)))) (length rs) regs s (eval_with T (Node at t (Either a b)) w.call s)
        (runs w n u (prepare w.unit bound rs (Node at t (Either a b))) regs)
    either_reaches =
        rw j_long (if_reaches (Valued w (IntegerType I32) (suc j) (Register j)) (length rs) (long w n h low bound rs a) regs s u (source.condition_of T a w.call s) (give (Integer (pos 1))) (source.condition_of T b w.call >>= λ y. give
        (truth_value y))
        (prepare w.unit bound rs a) (set j (Constant kind.I32 (pos 1))) truth_code (condition_result w.unit bound rs a) a_tested (fixed_reaches (pos 1) refl) right_reaches)

  -- ---- `?:`

  module _ (at : Place) (t : PlainType) (a b c : Expression) (l k : Scalar) (rs : List MonType) (behind : low ≤ length rs) (a_is : scalar_of (type_of a) ≡ Some l) (a_does : Computes w n h low bound a l rs)
      (b_does : Computes w n h low bound b k (rs ++ takes w.unit a)) (c_does : Computes w n h low bound c k (rs ++ takes w.unit a ++ takes w.unit b)) where
    abbrev this : Expression
    this = Node at t (Choice a b c)

    abbrev chosen : ℕ
    chosen = length (rs ++ takes w.unit a ++ takes w.unit b ++ takes w.unit c)

    chosen_long : length (rs ++ takes w.unit this) ≡ suc chosen
    chosen_long =
        omega (
          arith,
          length-append rs (takes w.unit a ++ takes w.unit b ++ takes w.unit c ++ value_type (type_of b) ∷ []),
          length-append (takes w.unit a ++ takes w.unit b ++ takes w.unit c) (value_type (type_of b) ∷ []),
          length-append (takes w.unit a ++ takes w.unit b) (takes w.unit c),
          length-append (takes w.unit a) (takes w.unit b),
          length-append (rs ++ takes w.unit a ++ takes w.unit b) (takes w.unit c),
          length-append (rs ++ takes w.unit a) (takes w.unit b),
          length-append rs (takes w.unit a),
        )

    module _ (s : State) (u : Target) (regs : List Value) (le : s.steps ≤ n) (m : Standing w h low bound regs s) (be : Beside w s.store s u) (room : length (rs ++ takes w.unit this) ≤ w.registers) where
      -- the part that is evaluated, in the register of both
      part_reaches : (e : Expression) (rs2 : List MonType) → length rs ≤ length rs2 → length (rs2 ++ takes w.unit e) ≤ chosen → Computes w n h low bound e k rs2
          → (to : State) (after : List Value) (v : Target) (o : List ℕ) → Same (length rs) regs after → Later s to o → Beside w to.store to v
          → Reaches w (Valued w k (suc chosen) (Register chosen)) (length rs) after to (eval_with T e w.call to) (runs w n v (before (prepare w.unit bound rs2 e) (set chosen (result w.unit bound rs2 e))) after)
      part_reaches e rs2 far small does to after v o same later be2 =
          reached_lower w (Valued w k (suc chosen) (Register chosen)) (length rs) (length rs2) after to (eval_with T e w.call to) _ far
          (reaches_set w n k (length rs2) (length (rs2 ++ takes w.unit e)) chosen after to v (eval_with T e w.call to) (prepare w.unit bound rs2 e) (result w.unit bound rs2 e)
          (omega (arith, small, longer rs2 (takes w.unit e))) small (omega (arith, chosen_long, room, same.long, m.registers))
          (does to v after (omega (arith, le, later.spent)) (stands_after w n h low bound rs regs after s to o behind same later m) be2 (omega (arith, small, chosen_long, room))))

      choice_tested : Reaches w (Tested w (length (rs ++ takes w.unit a)) (condition_result w.unit bound rs a)) (length rs) regs s (source.condition_of T a w.call s) (runs w n u (prepare w.unit bound rs a) regs)
      choice_tested =
          subst (λ m. Reaches w (Tested w (length (rs ++ takes w.unit a)) (condition m (result w.unit bound rs a))) (length rs) regs s (source.condition_of T a w.call s) (runs w n u (prepare w.unit bound rs a) regs))
          (sym (value_type_is (type_of a) l a_is))
          (tests_reach (place_of a) l (length rs) (length (rs ++ takes w.unit a)) regs s (eval_with T a w.call s) (runs w n u (prepare w.unit bound rs a) regs) (result w.unit bound rs a)
          (a_does s u regs le m be (omega (arith, chosen_long, room, longer (rs ++ takes w.unit a ++ takes w.unit b) (takes w.unit c), longer (rs ++ takes w.unit a) (takes w.unit b)))))

      pub choice_reaches : Reaches w (Valued w k (length (rs ++ takes w.unit this)) (result w.unit bound rs this)) (length rs) regs s (eval_with T this w.call s) (runs w n u (prepare w.unit bound rs this) regs)
      choice_reaches =
          let rs2 = rs ++ takes w.unit a in
          let rs3 = rs ++ takes w.unit a ++ takes w.unit b in
          rw chosen_long
          (if_reaches (Valued w k (suc chosen) (Register chosen)) (length rs) (length (rs ++ takes w.unit a)) regs s u (source.condition_of T a w.call s) (eval_with T b w.call) (eval_with T c w.call) (prepare w.unit bound rs a)
          (before (prepare w.unit bound rs2 b) (set chosen (result w.unit bound rs2 b))) (before (prepare w.unit bound rs3 c) (set chosen (result w.unit bound rs3 c))) (condition_result w.unit bound rs a) choice_tested
          (part_reaches b rs2 (longer rs (takes w.unit a)) (longer rs3 (takes w.unit c)) b_does)
          (part_reaches c rs3 (omega (arith, longer rs (takes w.unit a), longer rs2 (takes w.unit b))) (omega arith) c_does))

    pub choice_computes : Computes w n h low bound this k rs
    choice_computes s u regs le m be room = choice_reaches s u regs le m be room

  -- ---- `!`, and the other operators on one number

  pub not_computes : (at : Place) (t : PlainType) (a : Expression) (l : Scalar) (rs : List MonType) → scalar_of (type_of a) ≡ Some l → Computes w n h low bound a l rs → Computes w n h low bound (Node at t (Unary prefix.Not a)) (IntegerType I32) rs
  not_computes at t a l rs is f s u regs le m be room =
      let high = length (rs ++ takes w.unit a) in
      let q = runs w n u (prepare w.unit bound rs a) regs in
      let e = result w.unit bound rs a in
      subst (λ m. Reaches w (Valued w (IntegerType I32) high (compared mon.Eq m e)) (length rs) regs s (eval_with T (Node at t (Unary prefix.Not a)) w.call s) q) (sym (value_type_is (type_of a) l is))
      (subst (λ r. Reaches w (Valued w (IntegerType I32) high (compared mon.Eq (scalar_register l) e)) (length rs) regs s r q) (handed_on (eval_with T a w.call s) (tested (place_of a)) (λ y. give (Integer (truth (is_zero y)))))
      (reaches_made w (Valued w l high e) (Valued w (IntegerType I32) high (compared mon.Eq (scalar_register l) e)) (length rs) regs s (eval_with T a w.call s) q (λ v. tested (place_of a) v >>= λ y. give (Integer (truth (is_zero y))))
      (f s u regs le m be room) (λ v to after x o same later be2 p.
      one_made (IntegerType I32) high (compared mon.Eq (scalar_register l) e) after to x (on_outcome (tested (place_of a) v to) (λ y. give (Integer (truth (is_zero y)))))
      (tested_number w n x to be2.store_is later.bounded (place_of a) l (λ u. truth (is_zero u)) (Normal v to) after high high (Done (Next after) x []) e (compared mon.Eq (scalar_register l) e) (λ u. truth_fits (is_zero u))
      (λ u later c. c.equals) (there_already l high e v after to x p)))))

  pub number_computes : (at : Place) (op : UnOp) (a : Expression) (i : CInt) (rs : List MonType) → ((k : CInt) (z v : ℤ) → fits k z ≡ true → operate_one (Int k) op z ≡ Some v → fits k v ≡ true) → Computes w n h low bound a (IntegerType i) rs
      → (s : State) (u : Target) (regs : List Value) → s.steps ≤ n → Standing w h low bound regs s → Beside w s.store s u → length (rs ++ takes w.unit a) ≤ w.registers
      → Reaches w (Valued w (IntegerType i) (length (rs ++ takes w.unit a)) (unary op (register_type i) (result w.unit bound rs a))) (length rs) regs s (on_outcome (eval_with T a w.call s) (λ x. defined at (operate_value (Int i) op x)))
      (runs w n u (prepare w.unit bound rs a) regs)
  number_computes at op a i rs kept f s u regs le m be room =
      let high = length (rs ++ takes w.unit a) in
      let e = result w.unit bound rs a in
      reaches_made w (Valued w (IntegerType i) high e) (Valued w (IntegerType i) high (unary op (register_type i) e)) (length rs) regs s (eval_with T a w.call s) (runs w n u (prepare w.unit bound rs a) regs)
      (λ x. defined at (operate_value (Int i) op x)) (f s u regs le m be room) (λ v to after x o same later be2 p.
      made_of w n h low bound (IntegerType i) high after to x (defined at (operate_value (Int i) op v) to) (λ later. Same high after later × Has w e later x.mem v) (unary op (register_type i) e) (λ later same2. (same2, p.1 later same2))
      (unary_makes w n to x at op i e v high after kept p.0))

  -- `+`, `-`, `~`
  pub number_typed : (at : Place) (op : UnOp) (t : PlainType) (a : Expression) (k : Scalar) (rs : List MonType) → ((k : CInt) (z v : ℤ) → fits k z ≡ true → operate_one (Int k) op z ≡ Some v → fits k v ≡ true) → (p : IsPromoted (type_of a))
      → t ≡ type_of a → scalar_of t ≡ Some k → Computes w n h low bound a (IntegerType (promoted p.int)) rs → (s : State) (u : Target) (regs : List Value) → s.steps ≤ n → Standing w h low bound regs s → Beside w s.store s u → length
      (rs ++ takes w.unit a) ≤ w.registers
      → Reaches w (Valued w k (length (rs ++ takes w.unit a)) (unary op (value_type (type_of a)) (result w.unit bound rs a))) (length rs) regs s (on_outcome (eval_with T a w.call s) (λ x. defined at (operate_value t op x)))
      (runs w n u (prepare w.unit bound rs a) regs)
  number_typed at op t a k rs kept p same is f s u regs le m be room =
      let i = promoted p.int in
      let type : t ≡ Int i = same ∙ p.is in
      let high = length (rs ++ takes w.unit a) in
      let q = runs w n u (prepare w.unit bound rs a) regs in
      subst (λ v. Reaches w (Valued w k high (unary op (value_type v) (result w.unit bound rs a))) (length rs) regs s (on_outcome (eval_with T a w.call s) (λ x. defined at (operate_value t op x))) q) (sym p.is)
      (subst (λ t. Reaches w (Valued w k high (unary op (register_type i) (result w.unit bound rs a))) (length rs) regs s (on_outcome (eval_with T a w.call s) (λ x. defined at (operate_value t op x))) q) (sym type)
      (subst (λ k. Reaches w (Valued w k high (unary op (register_type i) (result w.unit bound rs a))) (length rs) regs s (on_outcome (eval_with T a w.call s) (λ x. defined at (operate_value (Int i) op x))) q) (one_scalar t (IntegerType i) k
      (ap scalar_of type) is)
      (number_computes at op a i rs kept f s u regs le m be room)))
