-- Each form of expression does what the source's does, if its parts do: as a value, as a place, as an object, and for its effects alone.
use Rattle.std.proofs.Common.{◌≡◌, ℕ, ◌≤◌, ℤ, Bool, true, false, ◌&&◌, List, [], ◌++◌, length, Option, Some, None, refl, sym, ap, ◌∙◌, subst, arith, true≢false}
use Rattle.c_syntax.specs.declared.place.Place.{Place}
use Rattle.c_syntax.specs.declared.types.CInt.{CInt}
use Rattle.c_syntax.specs.declared.types.CInt.TheVariants.{I32}
use Rattle.c_syntax.specs.declared.expression.Use.{Use}
use Rattle.c_syntax.specs.declared.expression.UnOp.{UnOp}
use Rattle.c_syntax.specs.declared.expression.UnOp.TheVariants as prefix
use Rattle.c_syntax.specs.declared.expression.BinOp.{BinOp}
use Rattle.c_syntax.specs.declared.expression.BinOp.TheVariants.{Add}
use Rattle.c_syntax.specs.declared.expression.BumpOp.{BumpOp}
use Rattle.c_syntax.specs.Ctypes.{PlainType, Int, Ptr, int_type}
use Rattle.c_syntax.specs.Expressions.{Expression, Node, Number, Letter, Text, Variable, Unary, Binary, Both, Either, Choice, Assign, Bump, Call, Cast, SizeOfType, SizeOfExpr, Index, Dot, Arrow, Comma, Expressions, place_of, type_of}
use Rattle.c_syntax.specs.Layouts.{Scalar, IntegerType, PointerType, scalar_of}
use Rattle.c_model.specs.Integers.{fits, operate_one}
use Rattle.c_model.specs.Conversions.{promoted}
use Rattle.c_model.specs.Memory.{Value}
use Rattle.c_model.specs.Pure.{IsPure}
use Rattle.c_model.specs.State.{State, Over, Undefined, Stop, on_outcome, defined, start_of, find}
use Rattle.c_model.specs.Meaning.{Tables, tables_of, eval_with, place_with, operate_value, literal, is_member}
use Rattle.c_model.specs.ExpressionTyping.{Sight, is_place, has_object, is_struct}
use Rattle.c_model.specs.TypedTrees.{WellTyped, AreWellTyped, IsScalar, IsInteger, IsPromoted, BinaryTypes, IndexTypes, CastTypes, Calls, Assigns, ToScalar, ToStruct, CompoundTypes, ToInteger, ToPointer}
use Rattle.mon_syntax.specs.declared.tree.MonType.{MonType}
use Rattle.mon_syntax.specs.Registers.{Bindings}
use Rattle.mon_syntax.specs.Trees.{NoStatement}
use Rattle.c_effects.specs.Letters.{HasLetters, Where, ValueHasLetters, ValuesHaveLetters, ActHasLetters}
use Rattle.c_effects.specs.Expressions.{value_type, temporaries, unary}
use Rattle.c_effects.specs.Full.{is_pure, is_inner, takes, act_takes, kept_takes, object_takes, changed_front, result, prepare, act}
use Rattle.c_effects.proofs.Pures.{takes_pure, result_pure, prepare_pure, location_pure}
use Rattle.c_simulation.specs.Standing.{Setting, Target, runs, Here, Standing, Beside}
use Rattle.c_simulation.specs.Reaching.{Reaches, Anything, Valued}
use Rattle.c_simulation.specs.Calls.{Scene}
use Rattle.c_simulation.proofs.Registers.{longer}
use Rattle.c_simulation.proofs.ExpressionTypes.{one_scalar, struct_no_scalar, place_has_object, bump_types}
use Rattle.c_simulation.proofs.Expressions.{evaluates, places, plus_fits, minus_fits, flip_fits}
use Rattle.c_simulation.proofs.PureValues.{HasKind, Any, Gives, quiet_defined, pure_gives}
use Rattle.c_simulation.proofs.Reaching.{undefined_now, value_reaches, place_reaches}
use Rattle.c_simulation.proofs.Settled.{both_true}
use Rattle.c_simulation.proofs.Members.{inner_array}
use Rattle.c_simulation.proofs.Operands.{FromHere, Computes, Locates, Acts, ActsAt, Kinded, binary_computes}
use Rattle.c_simulation.proofs.Conditions.{both_reaches, either_reaches, choice_computes, not_computes, number_typed}
use Rattle.c_simulation.proofs.Designated.{deref_locates, deref_computes, dot_locates, dot_computes, arrow_locates, arrow_computes, index_locates, index_computes, address_computes}
use Rattle.c_simulation.proofs.Arguments.{EachComputes, begins, call_computes, call_acts}
use Rattle.c_simulation.proofs.AssignedObjects.{Originates, ObjectReached, place_originates, dot_originates, arrow_originates, object_reached, comma_computes, comma_locates, comma_originates, comma_acts}
use Rattle.c_simulation.proofs.Assignments.{assign_computes, assign_acts, assign_acts_at, struct_locates, struct_originates, struct_acts, struct_acts_at}
use Rattle.c_simulation.proofs.Changes.{compound_computes, compound_acts, bump_computes, bump_acts}
use Rattle.c_simulation.proofs.Casts.{cast_reaches}
use Rattle.c_simulation.proofs.Dropped.{acts_quiet, number_acts, not_acts, deref_acts, points_acts, address_acts, dot_acts, dot_acts_at, arrow_acts, arrow_acts_at, binary_acts, index_acts, index_acts_at, cast_acts, both_acts}
use Rattle.c_simulation.proofs.Dropped.{either_acts, choice_acts}

-- ---- letters

-- nothing is left of what has no effect
pub pure_letters : (e : Expression) → is_pure e ≡ true → ActHasLetters e
pure_letters (Node at t (Number n k)) p = tt
pure_letters (Node at t (Letter n)) p = tt
pure_letters (Node at t (Text n)) p = tt
pure_letters (Node at t (Variable x)) p = tt
pure_letters (Node at t (SizeOfType u)) p = tt
pure_letters (Node at t (SizeOfExpr a)) p = tt
pure_letters (Node at t (Unary op a)) p = pure_letters a p
pure_letters (Node at t (Binary op a b)) p = let h = both_true (is_pure a) (is_pure b) p in (pure_letters a h.0, pure_letters b h.1)
pure_letters (Node at t (Both a b)) p = let h = both_true (is_pure a) (is_pure b) p in subst (λ c. Where c (ActHasLetters a) (ValueHasLetters a × ActHasLetters b)) (sym h.1) (pure_letters a h.0)
pure_letters (Node at t (Either a b)) p = let h = both_true (is_pure a) (is_pure b) p in subst (λ c. Where c (ActHasLetters a) (ValueHasLetters a × ActHasLetters b)) (sym h.1) (pure_letters a h.0)
pure_letters (Node at t (Choice a b c)) p =
    let h = both_true (is_pure a) (is_pure b && is_pure c) p in
    subst (λ d. Where d (ActHasLetters a) (ValueHasLetters a × ActHasLetters b × ActHasLetters c)) (sym h.1) (pure_letters a h.0)
pure_letters (Node at t (Cast to a)) p = pure_letters a p
pure_letters (Node at t (Index a b)) p = let h = both_true (is_pure a) (is_pure b) p in (pure_letters a h.0, pure_letters b h.1)
pure_letters (Node at t (Dot a m)) p = pure_letters a p
pure_letters (Node at t (Arrow a m)) p = pure_letters a p
pure_letters (Node at t (Comma a b)) p = let h = both_true (is_pure a) (is_pure b) p in (pure_letters a h.0, pure_letters b h.1)
pure_letters (Node at t (Assign op a b)) p = absurd cc
pure_letters (Node at t (Bump op a)) p = absurd cc
pure_letters (Node at t (Call f es)) p = absurd cc

where_true : (c : Bool) (P Q : Type 0) → c ≡ true → Where c P Q → P
where_true c P Q e h = subst (λ c. Where c P Q) e h

where_false : (c : Bool) (P Q : Type 0) → c ≡ false → Where c P Q → Q
where_false c P Q e h = subst (λ c. Where c P Q) e h

right_letters : (b : Expression) (P Q : Type 0) → Where (is_pure b) P (Q × ActHasLetters b) → ActHasLetters b
right_letters b P Q h = by (is_pure b) refl h
  where
    by : (c : Bool) → is_pure b ≡ c → Where c P (Q × ActHasLetters b) → ActHasLetters b
    by true e h = pure_letters b e
    by false e h = h.1

choice_letters : (b c : Expression) (P Q : Type 0) → Where (is_pure b && is_pure c) P (Q × ActHasLetters b × ActHasLetters c) → ActHasLetters b × ActHasLetters c
choice_letters b c P Q h = by (is_pure b && is_pure c) refl h
  where
    by : (d : Bool) → is_pure b && is_pure c ≡ d → Where d P (Q × ActHasLetters b × ActHasLetters c) → ActHasLetters b × ActHasLetters c
    by true e h = let g = both_true (is_pure b) (is_pure c) e in (pure_letters b g.0, pure_letters c g.1)
    by false e h = (h.1, h.2)

-- ---- types

right_is : (s : Sight) (op : BinOp) (t u : PlainType) → CompoundTypes s op t u → IsInteger u
right_is s op t u (ToInteger p q) = q
right_is s op t u (ToPointer step p q) = q

left_is : (s : Sight) (op : BinOp) (t u : PlainType) → CompoundTypes s op t u → IsScalar t
left_is s op t u (ToInteger p q) = record { scalar = IntegerType p.int; is = ap scalar_of p.is }
left_is s op t u (ToPointer step p q) = record { scalar = PointerType; is = ap scalar_of p.is }

module _ (w : Setting) (n : ℕ) (h : Here) (sight : Sight) (scene : Scene w n sight) (low : ℕ) (bound : Bindings) where
  abbrev T : Tables
  T = tables_of w.unit

  abbrev ValueOf : Expression → Scalar → List MonType → Type 0
  ValueOf e k rs = Computes w n h low bound e k rs

  -- an expression follows the source in every way, after registers of any types
  pub record Does (e : Expression) : Type 0 where
    pub computes : (k : Scalar) (rs : List MonType) → scalar_of (type_of e) ≡ Some k → ValueHasLetters e → low ≤ length rs → Computes w n h low bound e k rs
    pub acts : (rs : List MonType) → ActHasLetters e → low ≤ length rs → Acts w n h low bound e rs
    pub acts_at : (rs : List MonType) → ActHasLetters e → low ≤ length rs → ActsAt w n h low bound e rs
    pub locates : (rs : List MonType) → has_object e ≡ true → ValueHasLetters e → low ≤ length rs → Locates w n h low bound e rs
    pub originates : (rs : List MonType) → has_object e ≡ true → ValueHasLetters e → low ≤ length rs → Originates w n h low bound e rs

  -- what designates no object
  abbrev IsNowhere : Expression → Type 0
  IsNowhere e = (s : State) → place_with T e w.call s ≡ Stop (Over (Undefined (place_of e))) s

  value_only : (e : Expression) → has_object e ≡ false → IsNowhere e
      → ((k : Scalar) (rs : List MonType) → scalar_of (type_of e) ≡ Some k → ValueHasLetters e → low ≤ length rs → Computes w n h low bound e k rs)
      → ((rs : List MonType) → ActHasLetters e → low ≤ length rs → Acts w n h low bound e rs) → Does e
  value_only e none nowhere f g = record {
    computes = f;
    acts = g;
    acts_at = λ rs l behind s t regs le m be room. undefined_now w Anything (length rs) regs s (place_with T e w.call s) (runs w n t (act w.unit bound rs e) regs) (place_of e) (nowhere s);
    locates = λ rs o. absurd (true≢false (sym o ∙ none));
    originates = λ rs o. absurd (true≢false (sym o ∙ none));
  }

  -- the object that is assigned to
  object_of_does : (a : Expression) (rs : List MonType) → Does a → has_object a ≡ true → ValueHasLetters a → low ≤ length rs → ObjectReached w n h low bound a rs
  object_of_does a rs A o l behind = object_reached w n h low bound a rs behind (A.originates rs o l behind)

  -- ---- leaves

  leaf_computes : (e : Expression) (k : Scalar) (rs : List MonType) → scalar_of (type_of e) ≡ Some k → IsPure e → WellTyped sight e → HasLetters e → low ≤ length rs → Computes w n h low bound e k rs
  leaf_computes e k rs is p q l behind s t regs le m be room =
      rw (prepare_pure w.unit bound e rs p) (rw (result_pure w.unit bound e rs p) (rw (takes_pure w.unit e p)
      (value_reaches w k s t (eval_with T e w.call s) regs (length rs) (length (rs ++ temporaries e)) _ _ m.bounded be
      (evaluates w n sight scene.knows bound s t be.store_is m.bounded low e k rs is p q l behind regs m.anchored
      (let size : length (rs ++ takes w.unit e) ≡ length (rs ++ temporaries e) = ap (λ ts. length (rs ++ ts)) (takes_pure w.unit e p) in omega (arith, size, room, m.registers))))))

  leaf_locates : (e : Expression) (rs : List MonType) → has_object e ≡ true → IsPure e → WellTyped sight e → HasLetters e → low ≤ length rs → is_inner e ≡ is_member e → Locates w n h low bound e rs
  leaf_locates e rs o p q l behind inner s t regs le m be room =
      rw inner (rw (prepare_pure w.unit bound e rs p) (rw (location_pure w.unit bound e rs p) (rw (takes_pure w.unit e p)
      (place_reaches w (is_member e) s t (place_with T e w.call s) regs (length rs) (length (rs ++ temporaries e)) _ _ m.bounded be
      (places w n sight scene.knows bound s t be.store_is m.bounded low e rs o p q l behind regs m.anchored
      (let size : length (rs ++ takes w.unit e) ≡ length (rs ++ temporaries e) = ap (λ ts. length (rs ++ ts)) (takes_pure w.unit e p) in omega (arith, size, room, m.registers)))))))

  leaf_acts : (e : Expression) (rs : List MonType) → IsPure e → WellTyped sight e → FromHere w n h low bound (Kinded (scalar_of (type_of e))) (length (rs ++ [])) rs (eval_with T e w.call) NoStatement
  leaf_acts e rs p q = acts_quiet w n h low bound (HasKind (scalar_of (type_of e))) (length (rs ++ [])) rs (eval_with T e w.call) (λ s. pure_gives T w.call sight s e p q)

  pub of_number : (at : Place) (t : PlainType) (z : ℤ) (i : Option CInt) → WellTyped sight (Node at t (Number z i)) → Does (Node at t (Number z i))
  of_number at t z i q = value_only (Node at t (Number z i)) refl (λ s. refl) (λ k rs is l behind. leaf_computes (Node at t (Number z i)) k rs is tt q tt behind) (λ rs l behind. leaf_acts (Node at t (Number z i)) rs tt q)

  pub of_letter : (at : Place) (t : PlainType) (z : ℤ) → WellTyped sight (Node at t (Letter z)) → Does (Node at t (Letter z))
  of_letter at t z q = value_only (Node at t (Letter z)) refl (λ s. refl) (λ k rs is l behind. leaf_computes (Node at t (Letter z)) k rs is tt q l behind) (λ rs l behind. leaf_acts (Node at t (Letter z)) rs tt q)

  pub of_size : (at : Place) (t u : PlainType) → WellTyped sight (Node at t (SizeOfType u)) → Does (Node at t (SizeOfType u))
  of_size at t u q = value_only (Node at t (SizeOfType u)) refl (λ s. refl) (λ k rs is l behind. leaf_computes (Node at t (SizeOfType u)) k rs is tt q tt behind) (λ rs l behind. leaf_acts (Node at t (SizeOfType u)) rs tt q)

  -- what `sizeof` is of isn't evaluated
  pub of_size_of : (at : Place) (t : PlainType) (a : Expression) → WellTyped sight (Node at t (SizeOfExpr a)) → Does (Node at t (SizeOfExpr a))
  of_size_of at t a q =
      let there = Node at t (SizeOfType (type_of a)) in
      value_only (Node at t (SizeOfExpr a)) refl (λ s. refl) (λ k rs is l behind. leaf_computes there k rs is tt (q.1, q.2) tt behind) (λ rs l behind. leaf_acts there rs tt (q.1, q.2))

  pub of_text : (at : Place) (t : PlainType) (z : ℕ) → WellTyped sight (Node at t (Text z)) → Does (Node at t (Text z))
  of_text at t z q =
      let e = Node at t (Text z) in
      record {
        computes = λ k rs is l behind. leaf_computes e k rs is tt q tt behind;
        acts = λ rs l behind. leaf_acts e rs tt q;
        acts_at = λ rs l behind. acts_quiet w n h low bound Any (length (rs ++ [])) rs (place_with T e w.call) (λ s. Gives (literal T z) tt refl);
        locates = λ rs o l behind. leaf_locates e rs o tt q tt behind refl;
        originates = λ rs o l behind. place_originates w n h low bound e rs refl refl (leaf_locates e rs o tt q tt behind refl);
      }

  pub of_variable : (at : Place) (t : PlainType) (x : Use) → WellTyped sight (Node at t (Variable x)) → Does (Node at t (Variable x))
  of_variable at t x q =
      let e = Node at t (Variable x) in
      record {
        computes = λ k rs is l behind. leaf_computes e k rs is tt q tt behind;
        acts = λ rs l behind. leaf_acts e rs tt q;
        acts_at = λ rs l behind. acts_quiet w n h low bound Any (length (rs ++ [])) rs (place_with T e w.call) (λ s. quiet_defined Any at (start_of (find x.decl s.scope)) s (λ p e. tt));
        locates = λ rs o l behind. leaf_locates e rs o tt q tt behind refl;
        originates = λ rs o l behind. place_originates w n h low bound e rs refl refl (leaf_locates e rs o tt q tt behind refl);
      }

  -- ---- operators on one operand

  of_number_operator : (at : Place) (t : PlainType) (op : UnOp) (a : Expression) → ((k : CInt) (z v : ℤ) → fits k z ≡ true → operate_one (Int k) op z ≡ Some v → fits k v ≡ true) → (p : IsPromoted (type_of a)) → Does a
      → (k : Scalar) (rs : List MonType) → t ≡ type_of a → scalar_of t ≡ Some k → ValueHasLetters a → low ≤ length rs → (s : State) (u : Target) (regs : List Value) → s.steps ≤ n → Standing w h low bound regs s → Beside w s.store s u
      → length (rs ++ takes w.unit a) ≤ w.registers
      → Reaches w (Valued w k (length (rs ++ takes w.unit a)) (unary op (value_type (type_of a)) (result w.unit bound rs a))) (length rs) regs s (on_outcome (eval_with T a w.call s) (λ x. defined at (operate_value t op x)))
      (runs w n u (prepare w.unit bound rs a) regs)
  of_number_operator at t op a kept p A k rs same is l behind = number_typed w n h low bound at op t a k rs kept p same is (A.computes (IntegerType (promoted p.int)) rs (ap scalar_of p.is) l behind)

  pub of_plus : (at : Place) (t : PlainType) (a : Expression) → IsPromoted (type_of a) → t ≡ type_of a → Does a → Does (Node at t (Unary prefix.Plus a))
  of_plus at t a p same A = value_only (Node at t (Unary prefix.Plus a)) refl (λ s. refl) (λ k rs is l behind. of_number_operator at t prefix.Plus a plus_fits p A k rs same is l behind)
      (λ rs l behind. number_acts w n h low bound at t prefix.Plus a (promoted p.int) rs p.is same (A.acts rs l behind))

  pub of_minus : (at : Place) (t : PlainType) (a : Expression) → IsPromoted (type_of a) → t ≡ type_of a → Does a → Does (Node at t (Unary prefix.Minus a))
  of_minus at t a p same A = value_only (Node at t (Unary prefix.Minus a)) refl (λ s. refl) (λ k rs is l behind. of_number_operator at t prefix.Minus a minus_fits p A k rs same is l behind)
      (λ rs l behind. number_acts w n h low bound at t prefix.Minus a (promoted p.int) rs p.is same (A.acts rs l behind))

  pub of_flip : (at : Place) (t : PlainType) (a : Expression) → IsPromoted (type_of a) → t ≡ type_of a → Does a → Does (Node at t (Unary prefix.Flip a))
  of_flip at t a p same A = value_only (Node at t (Unary prefix.Flip a)) refl (λ s. refl) (λ k rs is l behind. of_number_operator at t prefix.Flip a flip_fits p A k rs same is l behind)
      (λ rs l behind. number_acts w n h low bound at t prefix.Flip a (promoted p.int) rs p.is same (A.acts rs l behind))

  pub of_not : (at : Place) (t : PlainType) (a : Expression) (v : IsScalar (type_of a)) → t ≡ int_type → Does a → Does (Node at t (Unary prefix.Not a))
  of_not at t a v int A =
      let e = Node at t (Unary prefix.Not a) in
      value_only e refl (λ s. refl)
      (λ k rs is l behind. subst (λ k. ValueOf e k rs) (one_scalar t (IntegerType I32) k (ap scalar_of int) is) (not_computes w n h low bound at t a v.scalar rs v.is (A.computes v.scalar rs v.is l behind)))
      (λ rs l behind. not_acts w n h low bound at t a rs int (A.acts rs l behind))

  pub of_address : (at : Place) (t : PlainType) (a : Expression) → is_place a ≡ true → t ≡ Ptr (type_of a) → Does a → Does (Node at t (Unary prefix.Address a))
  of_address at t a placed is A =
      let e = Node at t (Unary prefix.Address a) in
      value_only e refl (λ s. refl)
      (λ k rs k_is l behind. subst (λ k. ValueOf e k rs) (one_scalar t PointerType k (ap scalar_of is) k_is) (address_computes w n h low bound at t a rs placed (A.locates rs (place_has_object a placed) l behind)))
      (λ rs l behind. address_acts w n h low bound at t a rs is (A.acts_at rs l behind))

  pub of_deref : (at : Place) (t : PlainType) (a : Expression) → type_of a ≡ Ptr t → Does a → Does (Node at t (Unary prefix.Deref a))
  of_deref at t a is A =
      let e = Node at t (Unary prefix.Deref a) in
      let stands = λ (rs : List MonType) (l : ValueHasLetters a) (behind : low ≤ length rs). deref_locates w n h low bound at t a rs (A.computes PointerType rs (ap scalar_of is) l behind) in
      record {
        computes = λ k rs k_is l behind. deref_computes w n h low bound at t a k rs k_is (A.computes PointerType rs (ap scalar_of is) l behind);
        acts = λ rs l behind. deref_acts w n h low bound at t a rs is (A.acts rs l behind);
        acts_at = λ rs l behind. points_acts w n h low bound a t rs is (A.acts rs l behind);
        locates = λ rs o l behind. stands rs l behind;
        originates = λ rs o l behind. place_originates w n h low bound e rs refl refl (stands rs l behind);
      }

  pub of_cast : (at : Place) (t to : PlainType) (a : Expression) → t ≡ to → CastTypes sight to a → WellTyped sight a → Does a → Does (Node at t (Cast to a))
  of_cast at t to a same types q A =
      value_only (Node at t (Cast to a)) refl (λ s. refl)
      (λ k rs is l behind s u regs le m be room. cast_reaches w n h low bound sight at t to a k rs (ap scalar_of (sym same) ∙ is) (λ o array. inner_array sight a o q array) (λ j f. A.computes j rs f l behind)
      (λ o. A.locates rs o l behind) s u regs le m be room types)
      (λ rs l behind. cast_acts w n h low bound at t to a rs same (A.acts rs l behind) (A.acts_at rs l behind) sight types)

  -- ---- operators on two, and what is evaluated only at times

  pub of_binary : (at : Place) (t : PlainType) (op : BinOp) (a b : Expression) → BinaryTypes sight op t (type_of a) (type_of b) → Does a → Does b → Does (Node at t (Binary op a b))
  of_binary at t op a b types A B =
      value_only (Node at t (Binary op a b)) refl (λ s. refl)
      (λ k rs is l behind. binary_computes w n h low bound sight at t op a b rs behind types k is (λ i f. A.computes i rs f l.0 behind)
      (λ j g. B.computes j (rs ++ kept_takes w.unit a b) g l.1 (omega (arith, behind, longer rs (kept_takes w.unit a b)))))
      (λ rs l behind. binary_acts w n h low bound at t a b rs behind (A.acts rs l.0 behind) (B.acts (rs ++ act_takes w.unit a) l.1 (omega (arith, behind, longer rs (act_takes w.unit a)))) sight op types)

  pub of_both : (at : Place) (t : PlainType) (a b : Expression) (x : IsScalar (type_of a)) (y : IsScalar (type_of b)) → t ≡ int_type → Does a → Does b → Does (Node at t (Both a b))
  of_both at t a b x y int A B =
      let e = Node at t (Both a b) in
      value_only e refl (λ s. refl)
      (λ k rs is l behind. subst (λ k. ValueOf e k rs) (one_scalar t (IntegerType I32) k (ap scalar_of int) is) (λ s u regs le m be room.
      both_reaches w n h low bound at t a b x.scalar y.scalar rs behind x.is y.is (A.computes x.scalar rs x.is l.0 behind)
      (B.computes y.scalar (rs ++ takes w.unit a) y.is l.1 (omega (arith, behind, longer rs (takes w.unit a)))) s u regs le m be room))
      (λ rs l behind. both_acts w n h low bound at t a b x.scalar rs x.is int behind
      (λ pure. A.acts rs (where_true (is_pure b) (ActHasLetters a) (ValueHasLetters a × ActHasLetters b) pure l) behind)
      (λ impure. A.computes x.scalar rs x.is (where_false (is_pure b) (ActHasLetters a) (ValueHasLetters a × ActHasLetters b) impure l).0 behind)
      (λ rs2 behind2. B.acts rs2 (right_letters b (ActHasLetters a) (ValueHasLetters a) l) behind2))

  pub of_either : (at : Place) (t : PlainType) (a b : Expression) (x : IsScalar (type_of a)) (y : IsScalar (type_of b)) → t ≡ int_type → Does a → Does b → Does (Node at t (Either a b))
  of_either at t a b x y int A B =
      let e = Node at t (Either a b) in
      value_only e refl (λ s. refl)
      (λ k rs is l behind. subst (λ k. ValueOf e k rs) (one_scalar t (IntegerType I32) k (ap scalar_of int) is) (λ s u regs le m be room.
      either_reaches w n h low bound at t a b x.scalar y.scalar rs behind x.is y.is (A.computes x.scalar rs x.is l.0 behind)
      (B.computes y.scalar (rs ++ takes w.unit a) y.is l.1 (omega (arith, behind, longer rs (takes w.unit a)))) s u regs le m be room))
      (λ rs l behind. either_acts w n h low bound at t a b x.scalar rs x.is int behind
      (λ pure. A.acts rs (where_true (is_pure b) (ActHasLetters a) (ValueHasLetters a × ActHasLetters b) pure l) behind)
      (λ impure. A.computes x.scalar rs x.is (where_false (is_pure b) (ActHasLetters a) (ValueHasLetters a × ActHasLetters b) impure l).0 behind)
      (λ rs2 behind2. B.acts rs2 (right_letters b (ActHasLetters a) (ValueHasLetters a) l) behind2))

  pub of_choice : (at : Place) (t : PlainType) (a b c : Expression) (x : IsScalar (type_of a)) → type_of b ≡ t → type_of c ≡ t → Does a → Does b → Does c → Does (Node at t (Choice a b c))
  of_choice at t a b c x y z A B C =
      value_only (Node at t (Choice a b c)) refl (λ s. refl)
      (λ k rs is l behind. choice_computes w n h low bound at t a b c x.scalar k rs behind x.is (A.computes x.scalar rs x.is l.0 behind)
      (B.computes k (rs ++ takes w.unit a) (ap scalar_of y ∙ is) l.1 (omega (arith, behind, longer rs (takes w.unit a))))
      (C.computes k (rs ++ takes w.unit a ++ takes w.unit b) (ap scalar_of z ∙ is) l.2 (omega (arith, behind, longer rs (takes w.unit a), longer (rs ++ takes w.unit a) (takes w.unit b)))))
      (λ rs l behind. choice_acts w n h low bound at t a b c x.scalar rs x.is y z behind
      (λ pure. A.acts rs (where_true (is_pure b && is_pure c) (ActHasLetters a) (ValueHasLetters a × ActHasLetters b × ActHasLetters c) pure l) behind)
      (λ impure. A.computes x.scalar rs x.is (where_false (is_pure b && is_pure c) (ActHasLetters a) (ValueHasLetters a × ActHasLetters b × ActHasLetters c) impure l).0 behind)
      (λ rs2 behind2. B.acts rs2 (choice_letters b c (ActHasLetters a) (ValueHasLetters a) l).0 behind2) (λ rs2 behind2. C.acts rs2 (choice_letters b c (ActHasLetters a) (ValueHasLetters a) l).1 behind2))

  pub of_comma : (at : Place) (t : PlainType) (a b : Expression) → type_of b ≡ t → Does a → Does b → Does (Node at t (Comma a b))
  of_comma at t a b is A B =
      record {
        computes = λ k rs k_is l behind. comma_computes w n h low bound at t a b rs behind (A.acts rs l.0 behind) k (B.computes k (rs ++ act_takes w.unit a) (ap scalar_of is ∙ k_is) l.1 (omega (arith, behind, longer rs (act_takes w.unit a))));
        acts = λ rs l behind. comma_acts w n h low bound at t a b rs behind (A.acts rs l.0 behind) (Kinded (scalar_of t)) (eval_with T b w.call)
            (subst (λ u. FromHere w n h low bound (Kinded (scalar_of u)) (length (rs ++ act_takes w.unit a ++ act_takes w.unit b)) (rs ++ act_takes w.unit a) (eval_with T b w.call) (act w.unit bound (rs ++ act_takes w.unit a) b)) is
            (B.acts (rs ++ act_takes w.unit a) l.1 (omega (arith, behind, longer rs (act_takes w.unit a)))));
        acts_at = λ rs l behind. comma_acts w n h low bound at t a b rs behind (A.acts rs l.0 behind) Anything (place_with T b w.call) (B.acts_at (rs ++ act_takes w.unit a) l.1 (omega (arith, behind, longer rs (act_takes w.unit a))));
        locates = λ rs o l behind. comma_locates w n h low bound at t a b rs behind (A.acts rs l.0 behind) (B.locates (rs ++ act_takes w.unit a) o l.1 (omega (arith, behind, longer rs (act_takes w.unit a))));
        originates = λ rs o l behind. comma_originates w n h low bound at t a b rs behind (A.acts rs l.0 behind) (B.originates (rs ++ act_takes w.unit a) o l.1 (omega (arith, behind, longer rs (act_takes w.unit a))));
      }

  -- ---- places

  pub of_index : (at : Place) (t : PlainType) (a b : Expression) → IndexTypes sight t (type_of a) (type_of b) → Does a → Does b → Does (Node at t (Index a b))
  of_index at t a b types A B =
      let e = Node at t (Index a b) in
      let stands = λ (rs : List MonType) (l : ValueHasLetters a × ValueHasLetters b) (behind : low ≤ length rs).
      index_locates w n h low bound sight at t a b rs behind types (λ i f. A.computes i rs f l.0 behind) (λ j g. B.computes j (rs ++ kept_takes w.unit a b) g l.1 (omega (arith, behind, longer rs (kept_takes w.unit a b)))) in
      record {
        computes = λ k rs is l behind. index_computes w n h low bound at t a b k rs is (stands rs l behind);
        acts = λ rs l behind. index_acts w n h low bound at t a b rs behind (A.acts rs l.0 behind) (B.acts (rs ++ act_takes w.unit a) l.1 (omega (arith, behind, longer rs (act_takes w.unit a))));
        acts_at = λ rs l behind. index_acts_at w n h low bound at t a b rs behind (A.acts rs l.0 behind) (B.acts (rs ++ act_takes w.unit a) l.1 (omega (arith, behind, longer rs (act_takes w.unit a))));
        locates = λ rs o l behind. stands rs l behind;
        originates = λ rs o l behind. place_originates w n h low bound e rs refl refl (stands rs l behind);
      }

  pub of_dot : (at : Place) (t : PlainType) (a : Expression) (m : ℕ) → has_object a ≡ true → Does a → Does (Node at t (Dot a m))
  of_dot at t a m there A = record {
    computes = λ k rs is l behind. dot_computes w n h low bound at t a m k rs is (A.locates rs there l behind);
    acts = λ rs l behind. dot_acts w n h low bound at t a m rs (A.acts_at rs l behind);
    acts_at = λ rs l behind. dot_acts_at w n h low bound at t a m rs (A.acts_at rs l behind);
    locates = λ rs o l behind. dot_locates w n h low bound at t a m rs (A.locates rs there l behind);
    originates = λ rs o l behind. dot_originates w n h low bound at t a m rs (A.originates rs there l behind);
  }

  pub of_arrow : (at : Place) (t : PlainType) (a : Expression) (m : ℕ) (target : PlainType) → type_of a ≡ Ptr target → Does a → Does (Node at t (Arrow a m))
  of_arrow at t a m target is A =
      let value = λ (rs : List MonType) (l : ValueHasLetters a) (behind : low ≤ length rs). A.computes PointerType rs (ap scalar_of is) l behind in
      record {
        computes = λ k rs k_is l behind. arrow_computes w n h low bound at t a m k rs k_is (arrow_locates w n h low bound at t a m rs (value rs l behind));
        acts = λ rs l behind. arrow_acts w n h low bound at t a m rs target is (A.acts rs l behind);
        acts_at = λ rs l behind. arrow_acts_at w n h low bound at t a m rs target is (A.acts rs l behind);
        locates = λ rs o l behind. arrow_locates w n h low bound at t a m rs (value rs l behind);
        originates = λ rs o l behind. arrow_originates w n h low bound at t a m rs (value rs l behind);
      }

  -- ---- effects

  pub of_assign : (at : Place) (t : PlainType) (a b : Expression) → is_place a ≡ true → type_of b ≡ t → Assigns sight t b → Does a → Does b → Does (Node at t (Assign None a b))
  of_assign at t a b placed is assigns A B = record {
    computes = λ k rs k_is l behind. assign_computes w n h low bound at t a b rs k k_is behind (object rs l.0 behind) (value k k_is rs l.1 behind);
    acts = λ rs l behind. acts_by assigns rs l behind;
    acts_at = λ rs l behind. acts_at_by assigns rs l behind;
    locates = λ rs o l behind. struct_locates w n h low bound at t a b rs (struct_no_scalar t o) behind (object rs l.0 behind) (other o rs l.1 behind);
    originates = λ rs o l behind. struct_originates w n h low bound at t a b rs (struct_no_scalar t o) behind (object rs l.0 behind) (other o rs l.1 behind);
  }
    where
      object : (rs : List MonType) → ValueHasLetters a → low ≤ length rs → ObjectReached w n h low bound a rs
      object rs l behind = object_of_does a rs A (place_has_object a placed) l behind

      value : (k : Scalar) → scalar_of t ≡ Some k → (rs : List MonType) → ValueHasLetters b → low ≤ length rs → Computes w n h low bound b k (rs ++ object_takes w.unit a)
      value k k_is rs l behind = B.computes k (rs ++ object_takes w.unit a) (ap scalar_of is ∙ k_is) l (omega (arith, behind, longer rs (object_takes w.unit a)))

      from : has_object b ≡ true → (rs : List MonType) → ValueHasLetters b → low ≤ length rs → ObjectReached w n h low bound b (rs ++ object_takes w.unit a)
      from o rs l behind = object_of_does b (rs ++ object_takes w.unit a) B o l (omega (arith, behind, longer rs (object_takes w.unit a)))

      other : is_struct t ≡ true → (rs : List MonType) → ValueHasLetters b → low ≤ length rs → ObjectReached w n h low bound b (rs ++ object_takes w.unit a)
      other struct = by assigns
        where
          by : Assigns sight t b → (rs : List MonType) → ValueHasLetters b → low ≤ length rs → ObjectReached w n h low bound b (rs ++ object_takes w.unit a)
          by (ToScalar x) = let no : None ≡ Some x.scalar = sym (struct_no_scalar t struct) ∙ x.is in absurd cc
          by (ToStruct s sized o) = from o

      acts_by : Assigns sight t b → (rs : List MonType) → ValueHasLetters a × ValueHasLetters b → low ≤ length rs → Acts w n h low bound (Node at t (Assign None a b)) rs
      acts_by (ToScalar x) rs l behind = assign_acts w n h low bound at t a b rs x.scalar x.is behind (object rs l.0 behind) (value x.scalar x.is rs l.1 behind)
      acts_by (ToStruct s sized o) rs l behind = struct_acts w n h low bound at t a b rs (struct_no_scalar t s) behind (object rs l.0 behind) (from o rs l.1 behind)

      acts_at_by : Assigns sight t b → (rs : List MonType) → ValueHasLetters a × ValueHasLetters b → low ≤ length rs → ActsAt w n h low bound (Node at t (Assign None a b)) rs
      acts_at_by (ToScalar x) rs l behind = assign_acts_at w n h low bound at t a b rs x.scalar x.is behind (object rs l.0 behind) (value x.scalar x.is rs l.1 behind)
      acts_at_by (ToStruct s sized o) rs l behind = struct_acts_at w n h low bound at t a b rs (struct_no_scalar t s) behind (object rs l.0 behind) (from o rs l.1 behind)

  pub of_compound : (at : Place) (t : PlainType) (op : BinOp) (a b : Expression) → is_place a ≡ true → CompoundTypes sight op t (type_of b) → Does a → Does b → Does (Node at t (Assign (Some op) a b))
  of_compound at t op a b placed types A B =
      let x = left_is sight op t (type_of b) types in
      value_only (Node at t (Assign (Some op) a b)) refl (λ s. refl)
      (λ k rs is l behind. compound_computes w n h low bound sight at t a k is rs behind (object rs l.0 behind) op b (IntegerType j.int) (ap scalar_of j.is) types (value rs l.1 behind))
      (λ rs l behind. compound_acts w n h low bound sight at t a x.scalar x.is rs behind (object rs l.0 behind) op b (IntegerType j.int) (ap scalar_of j.is) types (value rs l.1 behind))
    where
      j : IsInteger (type_of b)
      j = right_is sight op t (type_of b) types

      object : (rs : List MonType) → ValueHasLetters a → low ≤ length rs → ObjectReached w n h low bound a rs
      object rs l behind = object_of_does a rs A (place_has_object a placed) l behind

      value : (rs : List MonType) → ValueHasLetters b → low ≤ length rs → Computes w n h low bound b (IntegerType j.int) (rs ++ changed_front w.unit (value_type t) a b)
      value rs l behind = B.computes (IntegerType j.int) (rs ++ changed_front w.unit (value_type t) a b) (ap scalar_of j.is) l (omega (arith, behind, longer rs (changed_front w.unit (value_type t) a b)))

  pub of_bump : (at : Place) (t : PlainType) (op : BumpOp) (a : Expression) → is_place a ≡ true → CompoundTypes sight Add t int_type → Does a → Does (Node at t (Bump op a))
  of_bump at t op a placed types A =
      let x = left_is sight Add t int_type types in
      let object = λ (rs : List MonType) (l : ValueHasLetters a) (behind : low ≤ length rs). object_of_does a rs A (place_has_object a placed) l behind in
      value_only (Node at t (Bump op a)) refl (λ s. refl)
      (λ k rs is l behind. bump_computes w n h low bound sight at t a k is rs behind (object rs l behind) op (bump_types sight op t int_type types))
      (λ rs l behind. bump_acts w n h low bound sight at t a x.scalar x.is rs behind (object rs l behind) op (bump_types sight op t int_type types))

  pub of_call : (at : Place) (t : PlainType) (f : Use) (es : Expressions) → AreWellTyped sight es → Calls sight f t es → (ValuesHaveLetters es → EachComputes w n h low bound es) → Does (Node at t (Call f es))
  of_call at t f es well c each =
      value_only (Node at t (Call f es)) refl (λ s. refl)
      (λ k rs is l behind. call_computes w n h low bound at t f es rs behind (scene.calls f t es c) (each l) (begins w n h low bound sight es well rs) k is)
      (λ rs l behind. call_acts w n h low bound at t f es rs behind (scene.calls f t es c) (each l) (begins w n h low bound sight es well rs))
