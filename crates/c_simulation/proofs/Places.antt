-- Places of objects, and what is read, tested and computed from pointers: the target has what the source has.
use Rattle.std.proofs.Common.{◌≡◌, ℕ, ◌+◌, ◌<◌, ◌≤◌, ◌^◌, ℤ, pos, ◌-ℤ◌, ◌*ℤ◌, int_lt, int_le, Bool, true, false, not, if◌then◌else◌, nat_eq, List, length, Option, Some, None, option_map, refl, sym, ap, ◌∙◌, subst}
use Rattle.c_syntax.specs.declared.place.Place.{Place}
use Rattle.c_syntax.specs.declared.types.CInt.{CInt}
use Rattle.c_syntax.specs.declared.types.CInt.TheVariants.{I32, I64}
use Rattle.c_syntax.specs.declared.expression.BinOp.{BinOp}
use Rattle.c_syntax.specs.declared.expression.BinOp.TheVariants as operator
use Rattle.c_syntax.specs.Ctypes.{PlainType}
use Rattle.c_syntax.specs.Expressions.{Expression, place_of}
use Rattle.c_syntax.specs.Programs.{StructType}
use Rattle.c_syntax.specs.Layouts.{Scalar, IntegerType, PointerType, scalar_of}
use Rattle.c_model.specs.Integers.{fits, truth}
use Rattle.c_model.specs.Operators.{quotient}
use Rattle.c_model.specs.Conversions.{is_relation}
use Rattle.c_model.specs.Memory.{Pointer, Null, Into, Value, Integer, Points, load, moved, shifted, distance, apart, live_size, block_at, equal_pointers, tested_value}
use Rattle.c_model.specs.State.{State, Outcome, Normal, Stop, Evaluation, on_outcome, give, defined, computed, read, read_any, tested}
use Rattle.c_model.specs.Meaning.{pointed_to, address, is_member, unit_of, operate_values, elements_between}
use Rattle.c_model.specs.Meaning as source
use Rattle.c_model.specs.ExpressionTyping.{is_step, is_difference}
use Rattle.mon_syntax.specs.declared.tree.MonType.{MonType}
use Rattle.mon_syntax.specs.declared.tree.MonType.TheVariants as kind
use Rattle.mon_syntax.specs.declared.tree.MonOp.TheVariants as mon
use Rattle.mon_syntax.specs.Arithmetic.{is_pointer, operate}
use Rattle.mon_syntax.specs.Meaning.{number_or_none}
use Rattle.mon_syntax.specs.BlockMemory.{over_blocks}
use Rattle.mon_syntax.specs.Trees.{MonExpression, Binary, Load, Constant, Register, MonStatements}
use Rattle.c_effects.specs.Expressions.{register_type, value_type, loaded, farther, element, element_back, indexed, pointer_and_integer, two_pointers, operated, binary, condition, before, set}
use Rattle.c_simulation.specs.SameRegisters.{Same}
use Rattle.c_simulation.specs.Standing.{Setting, Target, Did, runs, Has, IsSmall, IsOf, Bounded}
use Rattle.c_simulation.specs.Following.{Evaluates, HasValue, HasNone, Places, HasPlace, HasNoPlace, Tests, HasTest, HasNoTest}
use Rattle.c_simulation.proofs.Bounds.{loaded_is_of}
use Rattle.c_simulation.proofs.Integers.{is_number, truth_fits}
use Rattle.c_simulation.proofs.Pointers.{null_outside, loaded_inside, before_inside, inside_moved, unmoved, inside_small, bounded_live}
use Rattle.c_simulation.specs.Standing.{IsInside}
use Rattle.c_simulation.proofs.Steps.{difference_fits}
use Rattle.c_simulation.proofs.Values.{operation}
use Rattle.c_simulation.proofs.PointerValues.{scalar_register, value_type_is, IsTested, load_has, farther_has, element_has, element_back_has, relation_has, pair, is_tested}
use Rattle.c_simulation.proofs.Evaluating.{Makes, MakesValue, MakesNone, changed, MakesAt, MakesPlace, MakesNoPlace, then_stored}

-- ---- values of a type

pub of_integer : (k : CInt) (P : Value → Type 0) (v : Value) → IsOf (IntegerType k) v → ((z : ℤ) → fits k z ≡ true → P (Integer z)) → P v
of_integer k P v i go = subst P (sym i.1) (go i.0 i.2)

pub of_pointer : (P : Value → Type 0) (v : Value) → IsOf PointerType v → ((p : Pointer) → IsSmall p → P (Points p)) → P v
of_pointer P v i go = subst P (sym i.1) (go i.0 i.2)

pub on_give : (r : Outcome Value) → on_outcome r give ≡ r
on_give (Normal v s) = refl
on_give (Stop e s) = refl

handed_on : {A B C : Type 0} (r : Outcome A) (f : A → Evaluation B) (g : B → Evaluation C) → on_outcome r (λ a s. on_outcome (f a s) g) ≡ on_outcome (on_outcome r f) g
handed_on (Normal a s) f g = refl
handed_on (Stop e s) f g = refl

-- ---- operators by the types of their operands

pub loaded_is : (u : PlainType) (k : Scalar) (e : MonExpression) → scalar_of u ≡ Some k → loaded u e ≡ Load (scalar_register k) e
loaded_is u k e is = ap (λ (o : Option Scalar). elim o [ None ↦ e | Some k ↦ Load (value_type u) e ]) is ∙ ap (λ m. Load m e) (value_type_is u k is)

module _ (structs : List StructType) (t u : PlainType) (a b : MonExpression) where
  pub indexed_left : (k : CInt) → scalar_of t ≡ Some PointerType → scalar_of u ≡ Some (IntegerType k) → indexed structs t u a b ≡ element (unit_of structs t u) a (register_type k) b
  indexed_left k e f =
      ap (λ m. if is_pointer m then element (unit_of structs t u) a (value_type u) b else element (unit_of structs t u) b m a) (value_type_is t PointerType e)
      ∙ ap (λ m. element (unit_of structs t u) a m b) (value_type_is u (IntegerType k) f)

  pub indexed_right : (k : CInt) → scalar_of t ≡ Some (IntegerType k) → indexed structs t u a b ≡ element (unit_of structs t u) b (register_type k) a
  indexed_right k e =
      ap (λ m. if is_pointer m then element (unit_of structs t u) a (value_type u) b else element (unit_of structs t u) b m a) (value_type_is t (IntegerType k) e)
      ∙ ap (λ c. if c then element (unit_of structs t u) a (value_type u) b else element (unit_of structs t u) b (register_type k) a) (is_number k)

  module _ (op : BinOp) where
    abbrev by_types : MonType → MonType → MonExpression
    by_types m n =
        if is_pointer m then (if is_pointer n then two_pointers op (unit_of structs t u) a b else pointer_and_integer op (unit_of structs t u) a n b)
        else (if is_pointer n then element (unit_of structs t u) b m a else binary op m n a b)

    types_are : (k l : Scalar) → scalar_of t ≡ Some k → scalar_of u ≡ Some l → operated structs op t u a b ≡ by_types (scalar_register k) (scalar_register l)
    types_are k l e f = ap (λ m. by_types m (value_type u)) (value_type_is t k e) ∙ ap (λ n. by_types (scalar_register k) n) (value_type_is u l f)

    pub operated_numbers : (k l : CInt) → scalar_of t ≡ Some (IntegerType k) → scalar_of u ≡ Some (IntegerType l) → operated structs op t u a b ≡ binary op (register_type k) (register_type l) a b
    operated_numbers k l e f =
        types_are (IntegerType k) (IntegerType l) e f
        ∙ ap (λ c. if c then (if is_pointer (register_type l) then two_pointers op (unit_of structs t u) a b else pointer_and_integer op (unit_of structs t u) a (register_type l) b)
        else (if is_pointer (register_type l) then element (unit_of structs t u) b (register_type k) a else binary op (register_type k) (register_type l) a b)) (is_number k)
        ∙ ap (λ c. if c then element (unit_of structs t u) b (register_type k) a else binary op (register_type k) (register_type l) a b) (is_number l)

    pub operated_left : (k : CInt) → scalar_of t ≡ Some PointerType → scalar_of u ≡ Some (IntegerType k) → operated structs op t u a b ≡ pointer_and_integer op (unit_of structs t u) a (register_type k) b
    operated_left k e f =
        types_are PointerType (IntegerType k) e f
        ∙ ap (λ c. if c then two_pointers op (unit_of structs t u) a b else pointer_and_integer op (unit_of structs t u) a (register_type k) b) (is_number k)

    pub operated_right : (k : CInt) → scalar_of t ≡ Some (IntegerType k) → scalar_of u ≡ Some PointerType → operated structs op t u a b ≡ element (unit_of structs t u) b (register_type k) a
    operated_right k e f =
        types_are (IntegerType k) PointerType e f
        ∙ ap (λ c. if c then two_pointers op (unit_of structs t u) a b else element (unit_of structs t u) b (register_type k) a) (is_number k)

    pub operated_two : scalar_of t ≡ Some PointerType → scalar_of u ≡ Some PointerType → operated structs op t u a b ≡ two_pointers op (unit_of structs t u) a b
    operated_two e f = types_are PointerType PointerType e f

-- a state of the source, whose blocks the target has
module _ (w : Setting) (n : ℕ) (t : Target) (s : State) (store_is : t.mem.store ≡ s.store) (bounded : Bounded s.store) where
  there_bounded : Bounded t.mem.store
  there_bounded = subst Bounded (sym store_is) bounded

  inside_there : (p : Pointer) → IsInside s.store p → IsInside t.mem.store p
  inside_there p h = subst (λ store. IsInside store p) (sym store_is) h

  -- ---- what stands at a place

  pub read_follows : (c : Bool) (at : Place) (k : Scalar) (r : Outcome Pointer) (regs : List Value) (low high : ℕ) (q : Did) (e : MonExpression) → Places w c s t r regs low high q e
      → Evaluates w k s t (on_outcome r (λ p. read at p k)) regs low high q (Load (scalar_register k) e)
  read_follows c at k r regs low high q e (HasNoPlace there x) = HasNone there (ap (λ r. on_outcome r (λ p. read at p k)) x)
  read_follows c at k r regs low high q e (HasPlace p small x after same run has) = of_value (load s.store p k) refl
    where
      of_value : (o : Option Value) → load s.store p k ≡ o → Evaluates w k s t (on_outcome r (λ p. read at p k)) regs low high q (Load (scalar_register k) e)
      of_value None l = HasNone at (ap (λ r. on_outcome r (λ p. read at p k)) x ∙ ap (λ o. defined at o s) l)
      of_value (Some v) l =
          HasValue v (loaded_is_of s.store p k v bounded l) (ap (λ r. on_outcome r (λ p. read at p k)) x ∙ ap (λ o. defined at o s) l) after same run (λ later m.
          load_has w later t.mem k e p v (has (λ c. inside_there p (loaded_inside s.store p k v l)) later m) (ap (λ store. load store p k) store_is ∙ l))

  pub read_at : (c : Bool) (at : Place) (u : PlainType) (k : Scalar) (r : Outcome Pointer) (regs : List Value) (low high : ℕ) (q : Did) (e : MonExpression) → scalar_of u ≡ Some k → Places w c s t r regs low high q e
      → Evaluates w k s t (on_outcome r (λ p. read_any at p (scalar_of u))) regs low high q (loaded u e)
  read_at c at u k r regs low high q e is h =
      subst (λ x. Evaluates w k s t (on_outcome r (λ p. read_any at p (scalar_of u))) regs low high q x) (sym (loaded_is u k e is))
      (subst (λ o. Evaluates w k s t (on_outcome r (λ p. read_any at p o)) regs low high q (Load (scalar_register k) e)) (sym is) (read_follows c at k r regs low high q e h))

  -- ---- places

  -- what a pointer points to
  pub pointed_follows : (r : Outcome Value) (regs : List Value) (low high : ℕ) (q : Did) (e : MonExpression) → Evaluates w PointerType s t r regs low high q e → Places w false s t (on_outcome r pointed_to) regs low high q e
  pointed_follows r regs low high q e (HasNone at x) = HasNoPlace at (ap (λ r. on_outcome r pointed_to) x)
  pointed_follows r regs low high q e (HasValue v i x after same run has) =
      HasPlace i.0 (λ c. i.2) (ap (λ r. on_outcome r pointed_to) x ∙ ap (λ v. pointed_to v s) i.1) after same run (λ c later m. has later m ∙ ap Some i.1)

  -- a member of an object
  pub member_follows : (c : Bool) (at : Place) (d : ℕ) (r : Outcome Pointer) (regs : List Value) (low high : ℕ) (q : Did) (e : MonExpression) → Places w c s t r regs low high q e
      → Places w true s t (on_outcome r (λ p. give (shifted p d))) regs low high q (farther e d)
  member_follows c at d r regs low high q e (HasNoPlace there x) = HasNoPlace there (ap (λ r. on_outcome r (λ p. give (shifted p d))) x)
  member_follows c at d r regs low high q e (HasPlace Null small x after same run has) =
      HasPlace Null (λ t. absurd cc) (ap (λ r. on_outcome r (λ p. give (shifted p d))) x) after same run (λ h later k. absurd (null_outside t.mem.store (h refl)))
  member_follows c at d r regs low high q e (HasPlace (Into m i) small x after same run has) =
      HasPlace (Into m (i + d)) (λ t. absurd cc) (ap (λ r. on_outcome r (λ p. give (shifted p d))) x) after same run (λ h later k.
      farther_has w later t.mem e m i d (has (λ t. before_inside _ m i d (h refl)) later k) (h refl))

  -- an address that is taken
  pub address_follows : (a : Expression) (r : Outcome Pointer) (regs : List Value) (low high : ℕ) (q : Did) (e : MonExpression) → Places w (is_member a) s t r regs low high q e
      → Evaluates w PointerType s t (on_outcome r (address a)) regs low high q e
  address_follows a r regs low high q e (HasNoPlace there x) = HasNone there (ap (λ r. on_outcome r (address a)) x)
  address_follows a r regs low high q e (HasPlace p small x after same run has) = by (is_member a) refl
    where
      checked : (o : Option Pointer) → moved s.store p (pos 0) ≡ o → is_member a ≡ true → Evaluates w PointerType s t (on_outcome r (address a)) regs low high q e
      checked None l m = HasNone (place_of a) (ap (λ r. on_outcome r (address a)) x ∙ rw m (rw l refl))
      checked (Some z) l m =
          let is : z ≡ p = unmoved s.store p z l in
          let inside : IsInside s.store p = subst (IsInside s.store) is (inside_moved s.store p z (pos 0) l) in
          HasValue (Points p) (p, refl, inside_small s.store p (bounded_live s.store bounded) inside) (ap (λ r. on_outcome r (address a)) x ∙ rw m (rw l (ap (λ z. Normal (Points z) s) is))) after same run
          (λ later k. has (λ c. inside_there p inside) later k)

      by : (b : Bool) → is_member a ≡ b → Evaluates w PointerType s t (on_outcome r (address a)) regs low high q e
      by true m = checked (moved s.store p (pos 0)) refl m
      by false m = HasValue (Points p) (p, refl, small m) (ap (λ r. on_outcome r (address a)) x ∙ rw m refl) after same run (λ later k. has (λ c. absurd cc) later k)

  -- ---- tests

  pub tests_follow : (at : Place) (k : Scalar) (r : Outcome Value) (regs : List Value) (low high : ℕ) (q : Did) (e : MonExpression) → Evaluates w k s t r regs low high q e
      → Tests w s t (on_outcome r (tested at)) regs low high q (condition (scalar_register k) e)
  tests_follow at k r regs low high q e (HasNone there x) = HasNoTest there (ap (λ r. on_outcome r (tested at)) x)
  tests_follow at k r regs low high q e (HasValue v i x after same run has) = of_value (tested_value s.store v) refl
    where
      of_value : (o : Option Value) → tested_value s.store v ≡ o → Tests w s t (on_outcome r (tested at)) regs low high q (condition (scalar_register k) e)
      of_value None l = HasNoTest at (ap (λ r. on_outcome r (tested at)) x ∙ ap (λ o. defined at o s) l)
      of_value (Some u) l =
          HasTest u (ap (λ r. on_outcome r (tested at)) x ∙ ap (λ o. defined at o s) l) after same run (λ later m.
          let c = is_tested w later t.mem k e v u i (has later m) (ap (λ store. tested_value store v) store_is ∙ l) in
          record { number = c.number; has = c.has; alike = c.alike })

  -- a number that is made of what is tested
  pub tested_number : (at : Place) (k : Scalar) (z : Value → ℤ) (r : Outcome Value) (regs : List Value) (low high : ℕ) (q : Did) (e x : MonExpression) → ((u : Value) → fits I32 (z u) ≡ true)
      → ((u : Value) (later : List Value) → IsTested w (scalar_register k) e later t.mem u → Has w x later t.mem (Integer (z u))) → Evaluates w k s t r regs low high q e
      → Evaluates w (IntegerType I32) s t (on_outcome (on_outcome r (tested at)) (λ u. give (Integer (z u)))) regs low high q x
  tested_number at k z r regs low high q e x fit go h =
      subst (λ r. Evaluates w (IntegerType I32) s t r regs low high q x) (handed_on r (tested at) (λ u. give (Integer (z u))))
      (changed w n t s k (IntegerType I32) r (λ v s. on_outcome (tested at v s) (λ u. give (Integer (z u)))) regs low high q e x h (λ v i after same. of_value v i after (tested_value s.store v) refl))
    where
      of_value : (v : Value) → IsOf k v → (after : List Value) (o : Option Value) → tested_value s.store v ≡ o
          → Makes w n t s (IntegerType I32) (on_outcome (tested at v s) (λ u. give (Integer (z u)))) (λ later. Same high after later × Has w e later t.mem v) x
      of_value v i after None l = MakesNone at (ap (λ o. on_outcome (defined at o s) (λ u. give (Integer (z u)))) l)
      of_value v i after (Some u) l =
          MakesValue (Integer (z u)) (z u, refl, fit u) (ap (λ o. on_outcome (defined at o s) (λ u. give (Integer (z u)))) l) (λ later p.
          go u later (is_tested w later t.mem k e v u i p.1 (ap (λ store. tested_value store v) store_is ∙ l)))

  -- a value that is put into a register
  pub put : (l : Scalar) (r : Outcome Value) (regs : List Value) (low mid u : ℕ) (a : MonStatements) (e : MonExpression) → low ≤ mid → mid ≤ u → u < length regs → Evaluates w l s t r regs low mid (runs w n t a regs) e
      → Evaluates w l s t r regs low (ℕ.suc u) (runs w n t (before a (set u e)) regs) (Register u)
  put l r regs low mid u a e le le2 lt h =
      subst (λ r. Evaluates w l s t r regs low (ℕ.suc u) (runs w n t (before a (set u e)) regs) (Register u)) (on_give r)
      (then_stored w n t s l l r give regs low mid u a e e le le2 lt h (λ v i later has. (v, i, refl, has)))

  -- ---- steps

  -- where a number of elements leads
  step_makes : (at : Place) (unit : ℕ) (k : CInt) (x y : MonExpression) (p : Pointer) (z : ℤ) (P : List Value → Type 0) → IsSmall p → fits k z ≡ true
      → ((later : List Value) → P later → Has w x later t.mem (Points p) × Has w y later t.mem (Integer z)) → MakesAt w n t s (defined at (source.farther s.store unit p z) s) P (element unit x (register_type k) y)
  step_makes at unit k x y p z P small f has = by (source.farther s.store unit p z) refl
    where
      by : (o : Option Pointer) → source.farther s.store unit p z ≡ o → MakesAt w n t s (defined at o s) P (element unit x (register_type k) y)
      by None l = MakesNoPlace at refl
      by (Some q) l =
          MakesPlace q (inside_small s.store q (bounded_live s.store bounded) (inside_moved s.store p q (z *ℤ pos unit) l)) refl (λ later h.
          let both = has later h in
          element_has w later t.mem there_bounded unit k x y p q z small f both.0 both.1 (ap (λ store. moved store p (z *ℤ pos unit)) store_is ∙ l))

  back_makes : (at : Place) (unit : ℕ) (k : CInt) (x y : MonExpression) (p : Pointer) (z : ℤ) (P : List Value → Type 0) → IsSmall p → fits k z ≡ true
      → ((later : List Value) → P later → Has w x later t.mem (Points p) × Has w y later t.mem (Integer z)) → MakesAt w n t s (defined at (source.farther s.store unit p (pos 0 -ℤ z)) s) P (element_back unit x (register_type k) y)
  back_makes at unit k x y p z P small f has = by (source.farther s.store unit p (pos 0 -ℤ z)) refl
    where
      by : (o : Option Pointer) → source.farther s.store unit p (pos 0 -ℤ z) ≡ o → MakesAt w n t s (defined at o s) P (element_back unit x (register_type k) y)
      by None l = MakesNoPlace at refl
      by (Some q) l =
          MakesPlace q (inside_small s.store q (bounded_live s.store bounded) (inside_moved s.store p q ((pos 0 -ℤ z) *ℤ pos unit) l)) refl (λ later h.
          let both = has later h in
          element_back_has w later t.mem there_bounded unit k x y p q z small f both.0 both.1 (ap (λ store. moved store p ((pos 0 -ℤ z) *ℤ pos unit)) store_is ∙ l))

  -- as a value
  value_of_step : (at : Place) (o : Option Pointer) (P : List Value → Type 0) (e : MonExpression) → MakesAt w n t s (defined at o s) P e → Makes w n t s PointerType (defined at (option_map Points o) s) P e
  value_of_step at None P e m = MakesNone at refl
  value_of_step at (Some p) P e (MakesNoPlace there x) = absurd cc
  value_of_step at (Some p) P e (MakesPlace q small x has) =
      let same : p ≡ q = cc in
      MakesValue (Points q) (q, refl, small) (ap (λ p. Normal (Points p) s) same) has

  abbrev pub Both : MonExpression → MonExpression → Value → Value → List Value → Type 0
  Both x y i j later = Has w x later t.mem i × Has w y later t.mem j

  pub index_left : (at : Place) (unit : ℕ) (k : CInt) (x y : MonExpression) (i j : Value) → IsOf PointerType i → IsOf (IntegerType k) j
      → MakesAt w n t s (computed at (λ store. source.indexed unit store i j) s) (Both x y i j) (element unit x (register_type k) y)
  index_left at unit k x y i j f g =
      of_pointer (λ i. MakesAt w n t s (computed at (λ store. source.indexed unit store i j) s) (Both x y i j) (element unit x (register_type k) y)) i f (λ p small.
      of_integer k (λ j. MakesAt w n t s (computed at (λ store. source.indexed unit store (Points p) j) s) (Both x y (Points p) j) (element unit x (register_type k) y)) j g (λ z fit.
      step_makes at unit k x y p z (Both x y (Points p) (Integer z)) small fit (λ later h. h)))

  pub index_right : (at : Place) (unit : ℕ) (k : CInt) (x y : MonExpression) (i j : Value) → IsOf (IntegerType k) i → IsOf PointerType j
      → MakesAt w n t s (computed at (λ store. source.indexed unit store i j) s) (Both x y i j) (element unit y (register_type k) x)
  index_right at unit k x y i j f g =
      of_integer k (λ i. MakesAt w n t s (computed at (λ store. source.indexed unit store i j) s) (Both x y i j) (element unit y (register_type k) x)) i f (λ z fit.
      of_pointer (λ j. MakesAt w n t s (computed at (λ store. source.indexed unit store (Integer z) j) s) (Both x y (Integer z) j) (element unit y (register_type k) x)) j g (λ p small.
      step_makes at unit k y x p z (Both x y (Integer z) (Points p)) small fit (λ later h. (h.1, h.0))))

  -- ---- operators on pointers

  moved_by : (at : Place) (op : BinOp) (unit : ℕ) (r : PlainType) (k : CInt) (x y : MonExpression) (p : Pointer) (z : ℤ) (P : List Value → Type 0) → is_step op true ≡ true → IsSmall p → fits k z ≡ true
      → ((later : List Value) → P later → Has w x later t.mem (Points p) × Has w y later t.mem (Integer z))
      → Makes w n t s PointerType (computed at (λ store. operate_values unit r op store (Points p) (Integer z)) s) P (pointer_and_integer op unit x (register_type k) y)
  moved_by at operator.Add unit r k x y p z P is small f has =
      value_of_step at (source.farther s.store unit p z) P (element unit x (register_type k) y) (step_makes at unit k x y p z P small f has)
  moved_by at operator.Sub unit r k x y p z P is small f has =
      value_of_step at (source.farther s.store unit p (pos 0 -ℤ z)) P (element_back unit x (register_type k) y) (back_makes at unit k x y p z P small f has)
  moved_by at _ unit r k x y p z P is small f has = absurd cc

  pub step_left : (at : Place) (op : BinOp) (unit : ℕ) (r : PlainType) (k : CInt) (x y : MonExpression) (i j : Value) → is_step op true ≡ true → IsOf PointerType i → IsOf (IntegerType k) j
      → Makes w n t s PointerType (computed at (λ store. operate_values unit r op store i j) s) (Both x y i j) (pointer_and_integer op unit x (register_type k) y)
  step_left at op unit r k x y i j is f g =
      of_pointer (λ i. Makes w n t s PointerType (computed at (λ store. operate_values unit r op store i j) s) (Both x y i j) (pointer_and_integer op unit x (register_type k) y)) i f (λ p small.
      of_integer k (λ j. Makes w n t s PointerType (computed at (λ store. operate_values unit r op store (Points p) j) s) (Both x y (Points p) j) (pointer_and_integer op unit x (register_type k) y)) j g (λ z fit.
      moved_by at op unit r k x y p z (Both x y (Points p) (Integer z)) is small fit (λ later h. h)))

  moved_from : (at : Place) (op : BinOp) (unit : ℕ) (r : PlainType) (k : CInt) (x y : MonExpression) (p : Pointer) (z : ℤ) → is_step op false ≡ true → IsSmall p → fits k z ≡ true
      → Makes w n t s PointerType (computed at (λ store. operate_values unit r op store (Integer z) (Points p)) s) (Both x y (Integer z) (Points p)) (element unit y (register_type k) x)
  moved_from at operator.Add unit r k x y p z is small f =
      value_of_step at (source.farther s.store unit p z) (Both x y (Integer z) (Points p)) (element unit y (register_type k) x)
      (step_makes at unit k y x p z (Both x y (Integer z) (Points p)) small f (λ later h. (h.1, h.0)))
  moved_from at _ unit r k x y p z is small f = absurd cc

  pub step_right : (at : Place) (op : BinOp) (unit : ℕ) (r : PlainType) (k : CInt) (x y : MonExpression) (i j : Value) → is_step op false ≡ true → IsOf (IntegerType k) i → IsOf PointerType j
      → Makes w n t s PointerType (computed at (λ store. operate_values unit r op store i j) s) (Both x y i j) (element unit y (register_type k) x)
  step_right at op unit r k x y i j is f g =
      of_integer k (λ i. Makes w n t s PointerType (computed at (λ store. operate_values unit r op store i j) s) (Both x y i j) (element unit y (register_type k) x)) i f (λ z fit.
      of_pointer (λ j. Makes w n t s PointerType (computed at (λ store. operate_values unit r op store (Integer z) j) s) (Both x y (Integer z) j) (element unit y (register_type k) x)) j g (λ p small.
      moved_from at op unit r k x y p z is small fit))

  -- a pointer less another one
  record Distance (p q : Pointer) (d : ℤ) : Type 0 where
    from : ℕ
    to : ℕ
    from_small : from ≤ 2 ^ 32
    to_small : to ≤ 2 ^ 32
    is : d ≡ pos from -ℤ pos to

  distance_is : (p q : Pointer) (d : ℤ) → IsSmall p → IsSmall q → distance s.store p q ≡ Some d → Distance p q d
  distance_is Null q d f g e = absurd cc
  distance_is (Into m i) Null d f g e = absurd cc
  distance_is (Into m i) (Into k j) d f g e = by (live_size (block_at s.store m)) (nat_eq m k) e
    where
      by : (o : Option ℕ) (b : Bool) → apart o b i j ≡ Some d → Distance (Into m i) (Into k j) d
      by None b h = absurd cc
      by (Some size) true h = record { from = i; to = j; from_small = f; to_small = g; is = let same : pos i -ℤ pos j ≡ d = cc in sym same }
      by (Some size) false h = absurd cc

  difference_of : (at : Place) (unit : ℕ) (x y : MonExpression) (p q : Pointer) → IsSmall p → IsSmall q
      → Makes w n t s (IntegerType I64) (defined at (elements_between unit (distance s.store p q)) s) (Both x y (Points p) (Points q)) (two_pointers operator.Sub unit x y)
  difference_of at unit x y p q f g = by (distance s.store p q) refl
    where
      by : (o : Option ℤ) → distance s.store p q ≡ o → Makes w n t s (IntegerType I64) (defined at (elements_between unit o) s) (Both x y (Points p) (Points q)) (two_pointers operator.Sub unit x y)
      by None l = MakesNone at refl
      by (Some d) l = counted (quotient d (pos unit)) refl
        where
          counted : (o : Option ℤ) → quotient d (pos unit) ≡ o → Makes w n t s (IntegerType I64) (defined at (option_map Integer o) s) (Both x y (Points p) (Points q)) (two_pointers operator.Sub unit x y)
          counted None m = MakesNone at refl
          counted (Some v) m =
              let c = distance_is p q d f g l in
              let fits = difference_fits c.from c.to unit v c.from_small c.to_small (ap (λ d. quotient d (pos unit)) (sym c.is) ∙ m) in
              MakesValue (Integer v) (v, refl, fits.1) refl (λ later h.
              operation w later t.mem mon.Div kind.I64 (Binary mon.Sub kind.Ptr x y) (Constant kind.I64 (pos unit)) d (pos unit) refl
              (pair w later t.mem mon.Sub x y p q h.0 h.1 ∙ ap (option_map Integer) (ap (λ store. distance store p q) store_is ∙ l)) refl
              ∙ ap (number_or_none over_blocks) (ap (λ d. operate mon.Div kind.I64 d (pos unit)) c.is ∙ fits.0))

  difference_by : (at : Place) (op : BinOp) (unit : ℕ) (r : PlainType) (x y : MonExpression) (p q : Pointer) → is_difference op ≡ true → IsSmall p → IsSmall q
      → Makes w n t s (IntegerType I64) (computed at (λ store. operate_values unit r op store (Points p) (Points q)) s) (Both x y (Points p) (Points q)) (two_pointers op unit x y)
  difference_by at operator.Sub unit r x y p q is f g = difference_of at unit x y p q f g
  difference_by at _ unit r x y p q is f g = absurd cc

  truth_of_map : {A : Type 0} (f : A → Bool) (o : Option A) (v : Value) → option_map (λ a. Integer (truth (f a))) o ≡ Some v → IsOf (IntegerType I32) v
  truth_of_map f None v e = absurd cc
  truth_of_map f (Some a) v e = let same : Integer (truth (f a)) ≡ v = cc in (truth (f a), sym same, truth_fits (f a))

  relation_is_of : (op : BinOp) (unit : ℕ) (p q : Pointer) (v : Value) → is_relation op ≡ true → source.two_pointers unit op s.store p q ≡ Some v → IsOf (IntegerType I32) v
  relation_is_of operator.Eq unit p q v is e = truth_of_map (λ b. b) (equal_pointers s.store p q) v e
  relation_is_of operator.Ne unit p q v is e = truth_of_map (λ b. not b) (equal_pointers s.store p q) v e
  relation_is_of operator.Lt unit p q v is e = truth_of_map (λ d. int_lt d (pos 0)) (distance s.store p q) v e
  relation_is_of operator.Le unit p q v is e = truth_of_map (λ d. int_le d (pos 0)) (distance s.store p q) v e
  relation_is_of operator.Gt unit p q v is e = truth_of_map (λ d. int_lt (pos 0) d) (distance s.store p q) v e
  relation_is_of operator.Ge unit p q v is e = truth_of_map (λ d. int_le (pos 0) d) (distance s.store p q) v e
  relation_is_of _ unit p q v is e = absurd cc

  relation_of : (at : Place) (op : BinOp) (unit : ℕ) (r : PlainType) (x y : MonExpression) (p q : Pointer) → is_relation op ≡ true
      → Makes w n t s (IntegerType I32) (computed at (λ store. operate_values unit r op store (Points p) (Points q)) s) (Both x y (Points p) (Points q)) (two_pointers op unit x y)
  relation_of at op unit r x y p q is = by (source.two_pointers unit op s.store p q) refl
    where
      by : (o : Option Value) → source.two_pointers unit op s.store p q ≡ o → Makes w n t s (IntegerType I32) (defined at o s) (Both x y (Points p) (Points q)) (two_pointers op unit x y)
      by None l = MakesNone at refl
      by (Some v) l =
          MakesValue v (relation_is_of op unit p q v is l) refl (λ later h.
          relation_has w later t.mem op unit x y p q v is h.0 h.1 (ap (λ store. source.two_pointers unit op store p q) store_is ∙ l))

  pub difference_makes : (at : Place) (op : BinOp) (unit : ℕ) (r : PlainType) (x y : MonExpression) (i j : Value) → is_difference op ≡ true → IsOf PointerType i → IsOf PointerType j
      → Makes w n t s (IntegerType I64) (computed at (λ store. operate_values unit r op store i j) s) (Both x y i j) (two_pointers op unit x y)
  difference_makes at op unit r x y i j is f g =
      of_pointer (λ i. Makes w n t s (IntegerType I64) (computed at (λ store. operate_values unit r op store i j) s) (Both x y i j) (two_pointers op unit x y)) i f (λ p small.
      of_pointer (λ j. Makes w n t s (IntegerType I64) (computed at (λ store. operate_values unit r op store (Points p) j) s) (Both x y (Points p) j) (two_pointers op unit x y)) j g (λ q small2.
      difference_by at op unit r x y p q is small small2))

  pub relation_makes : (at : Place) (op : BinOp) (unit : ℕ) (r : PlainType) (x y : MonExpression) (i j : Value) → is_relation op ≡ true → IsOf PointerType i → IsOf PointerType j
      → Makes w n t s (IntegerType I32) (computed at (λ store. operate_values unit r op store i j) s) (Both x y i j) (two_pointers op unit x y)
  relation_makes at op unit r x y i j is f g =
      of_pointer (λ i. Makes w n t s (IntegerType I32) (computed at (λ store. operate_values unit r op store i j) s) (Both x y i j) (two_pointers op unit x y)) i f (λ p small.
      of_pointer (λ j. Makes w n t s (IntegerType I32) (computed at (λ store. operate_values unit r op store (Points p) j) s) (Both x y (Points p) j) (two_pointers op unit x y)) j g (λ q small2.
      relation_of at op unit r x y p q is))
