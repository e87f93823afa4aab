-- Places with effects in them, what is read there, and addresses: by the theorems of expressions without effects, value by value.
use Rattle.std.proofs.Common.{◌≡◌, ℕ, ◌≤◌, Bool, true, false, List, [], ◌++◌, length, Some, refl, sym, ap, ◌∙◌, subst, arith}
use Rattle.std.proofs.lemmas.List.{length-append}
use Rattle.c_syntax.specs.declared.place.Place.{Place}
use Rattle.c_syntax.specs.declared.expression.UnOp.TheVariants as prefix
use Rattle.c_syntax.specs.Ctypes.{PlainType}
use Rattle.c_syntax.specs.Expressions.{Expression, Node, Unary, Index, Dot, Arrow, type_of}
use Rattle.c_syntax.specs.Layouts.{Scalar, IntegerType, PointerType, scalar_of, offset_of, target_of}
use Rattle.c_model.specs.Memory.{Pointer, Value, shifted}
use Rattle.c_model.specs.State.{State, Outcome, Normal, on_outcome, ◌>>=◌, give, computed, read_any}
use Rattle.c_model.specs.Meaning.{Tables, tables_of, eval_with, place_with, is_member, address, pointed_to, unit_of}
use Rattle.c_model.specs.Meaning as source
use Rattle.c_model.specs.ExpressionTyping.{Sight, is_place}
use Rattle.c_model.specs.TypedTrees.{IndexTypes, OnTheLeft, OnTheRight}
use Rattle.mon_syntax.specs.declared.tree.MonType.{MonType}
use Rattle.mon_syntax.specs.Registers.{Bindings}
use Rattle.mon_syntax.specs.Meaning.{Done, Next}
use Rattle.mon_syntax.specs.Trees.{MonExpression}
use Rattle.c_effects.specs.Expressions.{register_type, loaded, farther, element, indexed}
use Rattle.c_effects.specs.Full.{is_inner, takes, kept_takes, keeps, kept_value, result, location, prepare}
use Rattle.c_simulation.specs.SameRegisters.{Same}
use Rattle.c_simulation.specs.Standing.{Setting, Target, Did, runs, IsOf, Bounded, Here}
use Rattle.c_simulation.specs.Following.{Places, HasPlace, HasNoPlace}
use Rattle.c_simulation.specs.Reaching.{Reaches, Valued, Placed}
use Rattle.c_simulation.proofs.Registers.{same_all}
use Rattle.c_simulation.proofs.Evaluating.{MakesAt, MakesPlace, MakesNoPlace}
use Rattle.c_simulation.proofs.Expressions.{handed_on, handed_on_twice, handed_on_thrice}
use Rattle.c_simulation.proofs.Places.{read_at, pointed_follows, member_follows, address_follows, indexed_left, indexed_right, Both as Two, index_left, index_right}
use Rattle.c_simulation.proofs.Reaching.{Made, MadeValue, MadeNone, reaches_made}
use Rattle.c_simulation.proofs.Operands.{Computes, Locates, BothValued, operands_follow, paired}
use Rattle.c_simulation.proofs.Conditions.{there_already, one_made}
use Rattle.c_simulation.proofs.Members.{inner_placed}

module _ (w : Setting) (n : ℕ) (h : Here) (low : ℕ) (bound : Bindings) where
  abbrev T : Tables
  T = tables_of w.unit

  placed_already : (c : Bool) (high : ℕ) (e : MonExpression) (p : Pointer) (after : List Value) (s : State) (t : Target) → Placed w c high e p after s t → Places w c s t (Normal p s) after high high (Done (Next after) t []) e
  placed_already c high e p after s t q = HasPlace p q.0 refl after (same_all high after) refl q.1

  place_made : (c : Bool) (high : ℕ) (e : MonExpression) (after : List Value) (s : State) (t : Target) (o : Outcome Pointer) → Places w c s t o after high high (Done (Next after) t []) e → Made w (Placed w c high e) after s t o
  place_made c high e after s t o (HasNoPlace at x) = MadeNone at x
  place_made c high e after s t o (HasPlace p small x after2 same run has) = let is : after2 ≡ after = cc in MadeValue p x (small, λ c later same3. has c later (subst (λ r. Same high r later) (sym is) same3))

  -- what stands at a place
  pub read_reaches : (c : Bool) (at : Place) (u : PlainType) (k : Scalar) (is : scalar_of u ≡ Some k) (low2 high : ℕ) (regs : List Value) (s : State) (r : Outcome Pointer) (q : Did) (e : MonExpression) → Reaches w (Placed w c high e) low2 regs s r q
      → Reaches w (Valued w k high (loaded u e)) low2 regs s (on_outcome r (λ p. read_any at p (scalar_of u))) q
  read_reaches c at u k is low2 high regs s r q e f =
      reaches_made w (Placed w c high e) (Valued w k high (loaded u e)) low2 regs s r q (λ p. read_any at p (scalar_of u)) f (λ p to after v o same later be g.
      one_made w n h low bound k high (loaded u e) after to v _ (read_at w n v to be.store_is later.bounded c at u k (Normal p to) after high high (Done (Next after) v []) e is (placed_already c high e p after to v g)))

  pub pointed_reaches : (low2 high : ℕ) (regs : List Value) (s : State) (r : Outcome Value) (q : Did) (e : MonExpression) → Reaches w (Valued w PointerType high e) low2 regs s r q
      → Reaches w (Placed w false high e) low2 regs s (on_outcome r pointed_to) q
  pointed_reaches low2 high regs s r q e f =
      reaches_made w (Valued w PointerType high e) (Placed w false high e) low2 regs s r q pointed_to f (λ x to after v o same later be g.
      place_made false high e after to v _ (pointed_follows w n v to be.store_is later.bounded (Normal x to) after high high (Done (Next after) v []) e (there_already w n h low bound PointerType high e x after to v g)))

  pub member_reaches : (c : Bool) (at : Place) (d low2 high : ℕ) (regs : List Value) (s : State) (r : Outcome Pointer) (q : Did) (e : MonExpression) → Reaches w (Placed w c high e) low2 regs s r q
      → Reaches w (Placed w true high (farther e d)) low2 regs s (on_outcome r (λ p. give (shifted p d))) q
  member_reaches c at d low2 high regs s r q e f =
      reaches_made w (Placed w c high e) (Placed w true high (farther e d)) low2 regs s r q (λ p. give (shifted p d)) f (λ p to after v o same later be g.
      place_made true high (farther e d) after to v _ (member_follows w n v to be.store_is later.bounded c at d (Normal p to) after high high (Done (Next after) v []) e (placed_already c high e p after to v g)))

  pub address_reaches : (a : Expression) (low2 high : ℕ) (regs : List Value) (s : State) (r : Outcome Pointer) (q : Did) (e : MonExpression) → Reaches w (Placed w (is_member a) high e) low2 regs s r q
      → Reaches w (Valued w PointerType high e) low2 regs s (on_outcome r (address a)) q
  address_reaches a low2 high regs s r q e f =
      reaches_made w (Placed w (is_member a) high e) (Valued w PointerType high e) low2 regs s r q (address a) f (λ p to after v o same later be g.
      one_made w n h low bound PointerType high e after to v _ (address_follows w n v to be.store_is later.bounded a (Normal p to) after high high (Done (Next after) v []) e (placed_already (is_member a) high e p after to v g)))

  -- ---- places in expressions

  pub deref_locates : (at : Place) (t : PlainType) (a : Expression) (rs : List MonType) → Computes w n h low bound a PointerType rs → Locates w n h low bound (Node at t (Unary prefix.Deref a)) rs
  deref_locates at t a rs f s u regs le m be room = pointed_reaches (length rs) (length (rs ++ takes w.unit a)) regs s (eval_with T a w.call s) _ (result w.unit bound rs a) (f s u regs le m be room)

  pub dot_locates : (at : Place) (t : PlainType) (a : Expression) (m : ℕ) (rs : List MonType) → Locates w n h low bound a rs → Locates w n h low bound (Node at t (Dot a m)) rs
  dot_locates at t a m rs f s u regs le st be room =
      member_reaches (is_inner a) at (offset_of T.structs (type_of a) m) (length rs) (length (rs ++ takes w.unit a)) regs s (place_with T a w.call s) _ (location w.unit bound rs a) (f s u regs le st be room)

  pub arrow_locates : (at : Place) (t : PlainType) (a : Expression) (m : ℕ) (rs : List MonType) → Computes w n h low bound a PointerType rs → Locates w n h low bound (Node at t (Arrow a m)) rs
  arrow_locates at t a m rs f s u regs le st be room =
      let d = offset_of T.structs (target_of (type_of a)) m in
      let high = length (rs ++ takes w.unit a) in
      let q = runs w n u (prepare w.unit bound rs a) regs in
      subst (λ r. Reaches w (Placed w true high (farther (result w.unit bound rs a) d)) (length rs) regs s r q) (sym (handed_on (eval_with T a w.call s) pointed_to (λ p. give (shifted p d))))
      (member_reaches false at d (length rs) high regs s (on_outcome (eval_with T a w.call s) pointed_to) q (result w.unit bound rs a)
      (pointed_reaches (length rs) high regs s (eval_with T a w.call s) q (result w.unit bound rs a) (f s u regs le st be room)))

  -- what is read there: of any expression that is a place and then a read
  pub deref_computes : (at : Place) (t : PlainType) (a : Expression) (k : Scalar) (rs : List MonType) → scalar_of t ≡ Some k → Computes w n h low bound a PointerType rs → Computes w n h low bound (Node at t (Unary prefix.Deref a)) k rs
  deref_computes at t a k rs is f s u regs le m be room =
      read_reaches false at t k is (length rs) (length (rs ++ takes w.unit a)) regs s (place_with T (Node at t (Unary prefix.Deref a)) w.call s) _ (result w.unit bound rs a) (deref_locates at t a rs f s u regs le m be room)

  pub dot_computes : (at : Place) (t : PlainType) (a : Expression) (m : ℕ) (k : Scalar) (rs : List MonType) → scalar_of t ≡ Some k → Locates w n h low bound a rs → Computes w n h low bound (Node at t (Dot a m)) k rs
  dot_computes at t a m k rs is f s u regs le st be room =
      let d = offset_of T.structs (type_of a) m in
      let high = length (rs ++ takes w.unit a) in
      let q = runs w n u (prepare w.unit bound rs a) regs in
      subst (λ r. Reaches w (Valued w k high (loaded t (farther (location w.unit bound rs a) d))) (length rs) regs s r q) (sym (handed_on (place_with T a w.call s) (λ p. give (shifted p d)) (λ p. read_any at p (scalar_of t))))
      (read_reaches true at t k is (length rs) high regs s (place_with T (Node at t (Dot a m)) w.call s) q (farther (location w.unit bound rs a) d) (dot_locates at t a m rs f s u regs le st be room))

  -- ---- `a[b]`

  module _ (sight : Sight) (at : Place) (t : PlainType) (a b : Expression) (rs : List MonType) (behind : low ≤ length rs) where
    abbrev this : Expression
    this = Node at t (Index a b)

    abbrev x : MonExpression
    x = kept_value (keeps a b) (length (rs ++ takes w.unit a)) (result w.unit bound rs a)

    abbrev y : MonExpression
    y = result w.unit bound (rs ++ kept_takes w.unit a b) b

    abbrev last : ℕ
    last = length (rs ++ kept_takes w.unit a b ++ takes w.unit b)

    whole : length (rs ++ takes w.unit this) ≡ last
    whole = omega (arith, length-append rs (kept_takes w.unit a b ++ takes w.unit b), length-append (kept_takes w.unit a b) (takes w.unit b), length-append (rs ++ kept_takes w.unit a b) (takes w.unit b), length-append rs (kept_takes w.unit a b))

    abbrev unit : ℕ
    unit = unit_of T.structs (type_of a) (type_of b)

    abbrev OperandsOf : Scalar → Scalar → State → Target → List Value → Type 0
    OperandsOf k l s u regs =
        Reaches w (BothValued w k l last x y) (length rs) regs s (on_outcome (eval_with T a w.call s) (λ i. eval_with T b w.call >>= λ j. give (i, j))) (runs w n u (prepare w.unit bound rs this) regs)

    at_made : (high : ℕ) (after : List Value) (s : State) (v : Target) (o : Outcome Pointer) (P : List Value → Type 0) (e : MonExpression) → ((later : List Value) → Same high after later → P later) → MakesAt w n v s o P e
        → Made w (Placed w false high e) after s v o
    at_made high after s v o P e there (MakesNoPlace at2 z) = MadeNone at2 z
    at_made high after s v o P e there (MakesPlace p small z has) = MadeValue p z ((λ c. small), λ c later same. has later (there later same))

    index_with : (k l : Scalar) (e : MonExpression) (s : State) (u : Target) (regs : List Value) → indexed T.structs (type_of a) (type_of b) x y ≡ e → OperandsOf k l s u regs
        → ((i j : Value) (to : State) (v : Target) → (store_is : v.mem.store ≡ to.store) → (bounded : Bounded to.store) → IsOf k i → IsOf l j → MakesAt w n v to (computed at (λ store. source.indexed unit store i j) to)
        (Two w n v to store_is bounded x y i j) e)
        → Reaches w (Placed w false (length (rs ++ takes w.unit this)) (location w.unit bound rs this)) (length rs) regs s (place_with T this w.call s) (runs w n u (prepare w.unit bound rs this) regs)
    index_with k l e s u regs is operands go =
        rw whole (rw is
        (subst (λ r. Reaches w (Placed w false last e) (length rs) regs s r (runs w n u (prepare w.unit bound rs this) regs))
        (paired (eval_with T a w.call s) (eval_with T b w.call) (λ i j. computed at (λ store. source.indexed unit store i j)))
        (reaches_made w (BothValued w k l last x y) (Placed w false last e) (length rs) regs s (on_outcome (eval_with T a w.call s) (λ i. eval_with T b w.call >>= λ j. give (i, j)))
        (runs w n u (prepare w.unit bound rs this) regs) (λ (p : Value × Value). computed at (λ store. source.indexed unit store p.0 p.1)) operands
        (λ p to after v o same later be q. at_made last after to v _ (Two w n v to be.store_is later.bounded x y p.0 p.1) e q.2 (go p.0 p.1 to v be.store_is later.bounded q.0 q.1)))))

    pub index_locates : IndexTypes sight t (type_of a) (type_of b) → ((k : Scalar) → scalar_of (type_of a) ≡ Some k → Computes w n h low bound a k rs)
        → ((l : Scalar) → scalar_of (type_of b) ≡ Some l → Computes w n h low bound b l (rs ++ kept_takes w.unit a b)) → Locates w n h low bound this rs
    index_locates (OnTheLeft p known q) a_does b_does s u regs le m be room =
        let left : scalar_of (type_of a) ≡ Some PointerType = ap scalar_of p in
        let right : scalar_of (type_of b) ≡ Some (IntegerType q.int) = ap scalar_of q.is in
        index_with PointerType (IntegerType q.int) (element unit x (register_type q.int) y) s u regs (indexed_left T.structs (type_of a) (type_of b) x y q.int left right)
        (operands_follow w n h low bound a b PointerType (IntegerType q.int) rs behind (a_does PointerType left) (b_does (IntegerType q.int) right) s u regs le m be (omega (arith, whole, room)))
        (λ i j to v store_is bounded f g. index_left w n v to store_is bounded at unit q.int x y i j f g)
    index_locates (OnTheRight p q known) a_does b_does s u regs le m be room =
        let left : scalar_of (type_of a) ≡ Some (IntegerType p.int) = ap scalar_of p.is in
        let right : scalar_of (type_of b) ≡ Some PointerType = ap scalar_of q in
        index_with (IntegerType p.int) PointerType (element unit y (register_type p.int) x) s u regs (indexed_right T.structs (type_of a) (type_of b) x y p.int left)
        (operands_follow w n h low bound a b (IntegerType p.int) PointerType rs behind (a_does (IntegerType p.int) left) (b_does PointerType right) s u regs le m be (omega (arith, whole, room)))
        (λ i j to v store_is bounded f g. index_right w n v to store_is bounded at unit p.int x y i j f g)

  pub address_computes : (at : Place) (t : PlainType) (a : Expression) (rs : List MonType) → is_place a ≡ true → Locates w n h low bound a rs → Computes w n h low bound (Node at t (Unary prefix.Address a)) PointerType rs
  address_computes at t a rs o f s u regs le m be room =
      let high = length (rs ++ takes w.unit a) in
      address_reaches a (length rs) high regs s (place_with T a w.call s) (runs w n u (prepare w.unit bound rs a) regs) (location w.unit bound rs a)
      (subst (λ c. Reaches w (Placed w c high (location w.unit bound rs a)) (length rs) regs s (place_with T a w.call s) (runs w n u (prepare w.unit bound rs a) regs)) (inner_placed a o) (f s u regs le m be room))

  pub arrow_computes : (at : Place) (t : PlainType) (a : Expression) (m : ℕ) (k : Scalar) (rs : List MonType) → scalar_of t ≡ Some k → Locates w n h low bound (Node at t (Arrow a m)) rs → Computes w n h low bound (Node at t (Arrow a m)) k rs
  arrow_computes at t a m k rs is f s u regs le st be room =
      let d = offset_of T.structs (target_of (type_of a)) m in
      let high = length (rs ++ takes w.unit a) in
      let q = runs w n u (prepare w.unit bound rs a) regs in
      subst (λ r. Reaches w (Valued w k high (loaded t (farther (result w.unit bound rs a) d))) (length rs) regs s r q)
      (sym (handed_on_twice (eval_with T a w.call s) pointed_to (λ p. give (shifted p d)) (λ p. read_any at p (scalar_of t)) ∙ ap (λ z. on_outcome z (λ p. read_any at p (scalar_of t))) (sym (handed_on (eval_with T a w.call s) pointed_to
      (λ p. give (shifted p d))))))
      (read_reaches true at t k is (length rs) high regs s (place_with T (Node at t (Arrow a m)) w.call s) q (farther (result w.unit bound rs a) d) (f s u regs le st be room))

  -- ---- what stands in an element

  pub index_computes : (at : Place) (t : PlainType) (a b : Expression) (k : Scalar) (rs : List MonType) → scalar_of t ≡ Some k → Locates w n h low bound (Node at t (Index a b)) rs → Computes w n h low bound (Node at t (Index a b)) k rs
  index_computes at t a b k rs is f s u regs le m be room =
      let high = length (rs ++ takes w.unit (Node at t (Index a b))) in
      let q = runs w n u (prepare w.unit bound rs (Node at t (Index a b))) regs in
      let e = location w.unit bound rs (Node at t (Index a b)) in
      subst (λ r. Reaches w (Valued w k high (loaded t e)) (length rs) regs s r q)
      (sym (handed_on_thrice (eval_with T a w.call s) (eval_with T b w.call) (λ x y. computed at (λ store. source.indexed (unit_of T.structs (type_of a) (type_of b)) store x y)) (λ p. read_any at p (scalar_of t))))
      (read_reaches false at t k is (length rs) high regs s (place_with T (Node at t (Index a b)) w.call s) q e (f s u regs le m be room))
