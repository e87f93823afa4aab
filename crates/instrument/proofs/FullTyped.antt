-- The values and places of expressions with effects anywhere in them have their types, after the registers that these take.
use Rattle.std.proofs.Common.{◌≡◌, ℕ, ◌+◌, ◌≤◌, Bool, true, false, not, nat_le, nat_eq, [], ◌∷◌, ◌++◌, length, Option, Some, None, slice_get, if◌then◌else◌, refl, sym, ap, ◌∙◌, subst, arith, append_assoc}
use Rattle.std.proofs.lemmas.Bool.Decides.{nat_tests}
use Rattle.c_syntax.specs.declared.types.CInt.TheVariants as c
use Rattle.c_syntax.specs.declared.expression.Use.{Use}
use Rattle.c_syntax.specs.declared.expression.UnOp.TheVariants as prefix
use Rattle.c_syntax.specs.declared.place.Place.{Place}
use Rattle.c_syntax.specs.Ctypes.{PlainType, Int, Array, Struct, Count}
use Rattle.c_syntax.specs.Expressions.{Expression, Node, Number, Letter, Variable, Unary, Binary, Both, Either, Choice, Assign, Bump, Call, Cast, SizeOfType, SizeOfExpr, Text, Index, Dot, Arrow, Comma, type_of}
use Rattle.c_syntax.specs.Programs.{TranslationUnit}
use Rattle.c_syntax.specs.Layouts.{scalar_of, size_of, offset_of, target_of, members_of, member_among}
use Rattle.c_model.specs.Meaning.{is_array, is_of_library}
use Rattle.c_model.specs.ExpressionTyping.{Sight, has_object, is_struct}
use Rattle.c_model.specs.SmallTypes.{TypesSmall}
use Rattle.c_model.specs.TypedTrees.{IsScalar, IsName, OfObject, OfNull, HasMember, IndexTypes, WellTyped}
use Rattle.mon_syntax.specs.declared.tree.MonType.{MonType}
use Rattle.mon_syntax.specs.declared.tree.MonType.TheVariants.{I32, Ptr}
use Rattle.mon_syntax.specs.declared.tree.MonOp.TheVariants as mon
use Rattle.mon_syntax.specs.Registers.{Bindings, register_of}
use Rattle.mon_syntax.specs.Trees.{MonExpression, Register}
use Rattle.mon_syntax.specs.Valid.{Types, HasType, has_constant}
use Rattle.c_effects.specs.Expressions.{value_type, compared, converted, farther, global_index, indexed}
use Rattle.c_effects.specs.Effects.{block_register, block_of, is_direct, variable_register}
use Rattle.c_effects.specs.Full.{act_takes, all_takes, assigned_types, changed_register, changed_types, inner_offset, is_inner, is_pure, is_settled}
use Rattle.c_effects.specs.Full.{keeps, kept_takes, kept_types, kept_value, location, member_type, object_of, object_register, object_takes}
use Rattle.c_effects.specs.Full.{object_type, origin, result, stepped, takes, value_of}
use Rattle.c_effects.specs.Letters.{ValueHasLetters}
use Rattle.c_simulation.proofs.ExpressionTypes.{place_has_object, struct_no_scalar}
use Rattle.c_simulation.proofs.Expressions.{letter_fits}
use Rattle.c_simulation.proofs.Registers.{get-below}
use Rattle.annot_simulation.specs.Validity.{Begins}
use Rattle.instrument.proofs.Objects.{literal_is}
use Rattle.instrument.proofs.Parts.{near, member_inside, struct_small}
use Rattle.instrument.proofs.Typed.{Aim, Knows, Reaches, begins_left, begins_right, cast_typed, count_of_globals, farther_typed, index_scalar, indexed_typed, is_global, known_small, loaded_typed, name_placed, name_typed, negated_typed, not_true}
use Rattle.instrument.proofs.Typed.{operands_scalar, operated_typed, pointer_scalar, promoted_scalar, register_at, seen, sign_typed, size_constant, small_constant, type_small}

-- ---- registers of parts

-- after several parts, the last of which is a register of its own
pub last_register : (rs x : Types) (u : MonType) (ts : Types) (r : ℕ) → r ≡ length (rs ++ x) → Begins (rs ++ (x ++ u ∷ [])) ts → slice_get ts r ≡ Some u
last_register rs x u ts r is b = ap (slice_get ts) is ∙ register_at (rs ++ x) ts u (begins_right rs x (u ∷ []) ts b)

pub behind_two : (rs o m : Types) → length (rs ++ o ++ m) ≡ length (rs ++ (o ++ m))
behind_two rs o m = ap length (append_assoc rs o m)

-- the same registers, with three parts in one
pub three_in_one : (rs o t m : Types) → rs ++ o ++ t ++ m ≡ rs ++ (o ++ t ++ m)
three_in_one rs o t m = append_assoc (rs ++ o) t m ∙ append_assoc rs o (t ++ m) ∙ ap (λ l. rs ++ l) (sym (append_assoc o t m))

pub behind_three : (rs o t m : Types) → length (rs ++ o ++ t ++ m) ≡ length (rs ++ (o ++ t ++ m))
behind_three rs o t m = ap length (three_in_one rs o t m)

pub behind_four : (rs o m x t : Types) → length (rs ++ o ++ m ++ x ++ t) ≡ length (rs ++ (o ++ m ++ x ++ t))
behind_four rs o m x t = ap (λ l. length (l ++ t)) (three_in_one rs o m x) ∙ ap length (append_assoc rs (o ++ m ++ x) t)

module _ (p : TranslationUnit) (ts : Types) (bound : Bindings) (s : Sight) (knows : Knows p ts bound s) where
  abbrev Typed : MonExpression → MonType → Type 0
  Typed e t = HasType (count_of_globals p) ts e t

  -- a value that may be kept
  pub kept_typed : (kept : Bool) (rs a : Types) (u : MonType) (e : MonExpression) → Begins (rs ++ kept_types kept a u) ts → (Begins (rs ++ a) ts → Typed e u) → Typed (kept_value kept (length (rs ++ a)) e) u
  kept_typed true rs a u e b f = last_register rs a u ts (length (rs ++ a)) refl b
  kept_typed false rs a u e b f = f b

  -- ---- objects

  aimed : (x : ℕ) → Reaches p ts bound x → nat_le (length p.globals) (global_index x p.globals) ≡ true → slice_get ts (block_of bound x) ≡ Some Ptr
  aimed x h e = by (register_of bound x) h
    where
      by : (o : Option ℕ) → Aim ts (is_global p x) o → slice_get ts (block_register o) ≡ Some Ptr
      by (Some r) k = k
      by None k = absurd (grind (arith, nat_tests))

  name_aimed : (x : Use) (t : PlainType) → not (is_of_library x) ≡ true → IsName s x t → nat_le (length p.globals) (global_index x.decl p.globals) ≡ true → slice_get ts (block_of bound x.decl) ≡ Some Ptr
  name_aimed x t own (OfObject d) e = aimed x.decl (seen p ts bound s knows x t d).has e
  name_aimed x t own (OfNull library is) e = let k : not (is_of_library x) ≡ false = ap (λ n. not (nat_eq n 4294967295)) library in absurd cc

  direct_aimed : (a : Expression) → is_direct p a ≡ true → has_object a ≡ true → WellTyped s a → slice_get ts (variable_register bound a) ≡ Some Ptr
  direct_aimed (Node at t (Variable x)) e h q = name_aimed x t h q e
  direct_aimed _ e h q = absurd cc

  -- the register of what is assigned to
  pub object_points : (a : Expression) (rs : Types) → has_object a ≡ true → WellTyped s a → Begins (rs ++ object_takes p a) ts → slice_get ts (object_of p bound rs a) ≡ Some Ptr
  object_points a rs h q b = by (is_direct p a) refl b
    where
      by : (d : Bool) → is_direct p a ≡ d → Begins (rs ++ object_type d (takes p a)) ts → slice_get ts (object_register d (variable_register bound a) (length (rs ++ takes p a))) ≡ Some Ptr
      by true e b = direct_aimed a e h q
      by false e b = last_register rs (takes p a) Ptr ts (length (rs ++ takes p a)) refl b

  -- ---- offsets

  struct_ends : (u : PlainType) (m : ℕ) (t : PlainType) → HasMember s u m t → offset_of p.structs u m + size_of p.structs t ≤ size_of p.structs u
  struct_ends u m t h =
      let here : member_among m (members_of s.structs (Struct h.struct)) ≡ Some h.member = subst (λ x. member_among m (members_of s.structs x) ≡ Some h.member) h.is h.found in
      let found = subst (λ x. member_among m (members_of x (Struct h.struct)) ≡ Some h.member) knows.structs_are here in
      subst (λ x. offset_of p.structs x m + size_of p.structs t ≤ size_of p.structs x) (sym h.is)
      (subst (λ x. offset_of p.structs (Struct h.struct) m + size_of p.structs x ≤ size_of p.structs (Struct h.struct)) (sym h.ctype) (member_inside p.structs knows.fits h.struct m h.member found))

  is_small : (u : PlainType) (m : ℕ) (t : PlainType) → HasMember s u m t → size_of p.structs u ≤ 2147483647
  is_small u m t h = subst (λ x. size_of p.structs x ≤ 2147483647) (sym h.is) (struct_small p.structs knows.fits h.struct)

  ends_as : (a : Expression) (t : PlainType) → type_of a ≡ t → (size_of p.structs (type_of a) ≤ 2147483647 → inner_offset p.structs a + size_of p.structs (type_of a) ≤ 2147483647) → size_of p.structs t ≤ 2147483647
      → inner_offset p.structs a + size_of p.structs t ≤ 2147483647
  ends_as a t same f small = subst (λ u. size_of p.structs u ≤ 2147483647 → inner_offset p.structs a + size_of p.structs u ≤ 2147483647) same f small

  -- an expression of a small type ends within the limit from the start of the object that it is in
  inner_ends : (e : Expression) → size_of p.structs (type_of e) ≤ 2147483647 → WellTyped s e → inner_offset p.structs e + size_of p.structs (type_of e) ≤ 2147483647
  inner_ends (Node at t (Dot a m)) small q =
      let before = inner_ends a (is_small (type_of a) m t q.2) q.0 in
      let here = struct_ends (type_of a) m t q.2 in
      omega (arith, before, here)
  inner_ends (Node at t (Arrow a m)) small q =
      let here = struct_ends q.1.target m t q.1.member in
      let whole = is_small q.1.target m t q.1.member in
      subst (λ x. offset_of p.structs (target_of x) m + size_of p.structs t ≤ 2147483647) (sym q.1.is) (omega (arith, here, whole))
  inner_ends (Node at t (Assign None a b)) small q = ends_as a t q.3 (λ k. inner_ends a k q.0) small
  inner_ends (Node at t (Assign (Some op) a b)) small q = ends_as a t q.3 (λ k. inner_ends a k q.0) small
  inner_ends (Node at t (Comma a b)) small q = ends_as b t q.2 (λ k. inner_ends b k q.1) small
  inner_ends e small q = omega (arith, small)

  pub inner_ends_as : (a : Expression) (t : PlainType) → type_of a ≡ t → size_of p.structs t ≤ 2147483647 → WellTyped s a → inner_offset p.structs a + size_of p.structs t ≤ 2147483647
  inner_ends_as a t same small q = ends_as a t same (λ k. inner_ends a k q) small

  pub inner_near : (e : Expression) → WellTyped s e → is_inner e ≡ true → inner_offset p.structs e ≤ 2147483647
  inner_near (Node at t (Dot a m)) q h =
      let before = inner_ends a (is_small (type_of a) m t q.2) q.0 in
      let here = struct_ends (type_of a) m t q.2 in
      omega (arith, before, here)
  inner_near (Node at t (Arrow a m)) q h =
      let here = struct_ends q.1.target m t q.1.member in
      let whole = is_small q.1.target m t q.1.member in
      subst (λ x. offset_of p.structs (target_of x) m ≤ 2147483647) (sym q.1.is) (omega (arith, here, whole))
  inner_near (Node at t (Assign None a b)) q h = inner_near a q.0 h
  inner_near (Node at t (Assign (Some op) a b)) q h = inner_near a q.0 h
  inner_near (Node at t (Comma a b)) q h = inner_near b q.1 h
  inner_near _ q h = absurd cc

  stepped_typed : (a : Expression) (r : ℕ) → WellTyped s a → slice_get ts r ≡ Some Ptr → Typed (stepped p.structs a (Register r)) Ptr
  stepped_typed a r q points = by (is_inner a) refl
    where
      by : (b : Bool) → is_inner a ≡ b → Typed (if b then farther (Register r) (inner_offset p.structs a) else Register r) Ptr
      by true e = farther_typed (count_of_globals p) ts (Register r) (inner_offset p.structs a) (inner_near a q e) points
      by false e = points

  -- the register of a struct that was assigned
  assigned_points : (at : Place) (t : PlainType) (x y : Expression) (rs : Types) → is_struct t ≡ true → WellTyped s (Node at t (Assign None x y)) → Begins (rs ++ takes p (Node at t (Assign None x y))) ts
      → slice_get ts (object_of p bound rs x) ≡ Some Ptr
  assigned_points at t x y rs h q b =
      let two = subst (λ o. Begins (rs ++ assigned_types o (not (is_settled y)) (value_type t) x (object_takes p x) (takes p y) (object_takes p y)) ts) (struct_no_scalar t h) b in
      object_points x rs (place_has_object x q.2) q.0 (begins_left rs (object_takes p x) (object_takes p y) ts two)

  -- ---- values

  changed_at : (q : Bool) (rs : Types) (u : MonType) (a b : Expression) → changed_register p q rs u a b ≡ length (rs ++ changed_types q u a (object_takes p a) (takes p b))
  changed_at true rs u a b = behind_three rs (object_takes p a) (takes p b) (member_type a)
  changed_at false rs u a b = behind_four rs (object_takes p a) (member_type a) (u ∷ []) (takes p b)

  -- an element, from its operands
  element_typed : (t : PlainType) (x y : Expression) (rs : Types) → IndexTypes s t (type_of x) (type_of y) → TypesSmall p.structs x → TypesSmall p.structs y → Begins (rs ++ (kept_takes p x y ++ takes p y)) ts
      → (Begins (rs ++ takes p x) ts → Typed (result p bound rs x) (value_type (type_of x))) → (Begins (rs ++ kept_takes p x y ++ takes p y) ts → Typed (result p bound (rs ++ kept_takes p x y) y) (value_type (type_of y)))
      → Typed (indexed p.structs (type_of x) (type_of y) (kept_value (keeps x y) (length (rs ++ takes p x)) (result p bound rs x)) (result p bound (rs ++ kept_takes p x y) y)) Ptr
  element_typed t x y rs types px py b f g =
      let front = kept_takes p x y in
      let left = kept_value (keeps x y) (length (rs ++ takes p x)) (result p bound rs x) in
      indexed_typed (count_of_globals p) ts p.structs s knows.structs_are t (type_of x) (type_of y) left (result p bound (rs ++ front) y) types (type_small p.structs x px) (type_small p.structs y py)
      (kept_typed (keeps x y) rs (takes p x) (value_type (type_of x)) (result p bound rs x) (begins_left rs front (takes p y) ts b) f) (g (begins_right rs front (takes p y) ts b))

  mutual
    pub result_typed : (e : Expression) (rs : Types) → IsScalar (type_of e) → WellTyped s e → TypesSmall p.structs e → ValueHasLetters e → Begins (rs ++ takes p e) ts → Typed (result p bound rs e) (value_type (type_of e))
    result_typed (Node at t (Number z None)) rs h q parts l b = absurd q
    result_typed (Node at t (Number z (Some i))) rs h q parts l b = (refl, subst (λ j. has_constant (value_type j) z ≡ true) (sym q.0) (small_constant i z q.1))
    result_typed (Node at t (Letter z)) rs h q parts l b = (refl, subst (λ j. has_constant (value_type j) z ≡ true) (sym q) (small_constant c.I32 z (letter_fits z l)))
    result_typed (Node at t (Text n)) rs h q parts l b = let k : scalar_of (Array (Int c.I8) (Count (length q.text.bytes + 1))) ≡ Some h.scalar = ap scalar_of (sym q.ctype) ∙ h.is in absurd cc
    result_typed (Node at t (Variable x)) rs h q parts l b = name_typed p ts bound s knows x t (is_of_library x) refl h q
    result_typed (Node at t (Unary prefix.Deref a)) rs h q parts l b =
        loaded_typed (count_of_globals p) ts t (result p bound rs a) h (subst (λ x. Typed (result p bound rs a) (value_type x)) q.1 (result_typed a rs (pointer_scalar (type_of a) t q.1) q.0 parts.1 l b))
    result_typed (Node at t (Unary prefix.Address a)) rs h q parts l b =
        subst (λ x. Typed (location p bound rs a) (value_type x)) (sym q.2) (location_typed a rs (place_has_object a q.1) q.0 parts.1 l b)
    result_typed (Node at t (Unary prefix.Plus a)) rs h q parts l b =
        subst (λ x. Typed (result p bound rs a) (value_type x)) (sym q.2) (result_typed a rs (promoted_scalar (type_of a) q.1) q.0 parts.1 l b)
    result_typed (Node at t (Unary prefix.Minus a)) rs h q parts l b =
        (sign_typed p ts bound s knows prefix.Minus t (type_of a) (result p bound rs a) q.1 q.2 (result_typed a rs (promoted_scalar (type_of a) q.1) q.0 parts.1 l b)).0
    result_typed (Node at t (Unary prefix.Flip a)) rs h q parts l b =
        (sign_typed p ts bound s knows prefix.Flip t (type_of a) (result p bound rs a) q.1 q.2 (result_typed a rs (promoted_scalar (type_of a) q.1) q.0 parts.1 l b)).1
    result_typed (Node at t (Unary prefix.Not a)) rs h q parts l b =
        subst (λ x. Typed (compared mon.Eq (value_type (type_of a)) (result p bound rs a)) (value_type x)) (sym q.2)
        (negated_typed (count_of_globals p) ts (value_type (type_of a)) (result p bound rs a) (result_typed a rs q.1 q.0 parts.1 l b))
    result_typed (Node at t (Binary op x y)) rs h q parts l b =
        let k = operands_scalar s op t (type_of x) (type_of y) q.2 in
        let front = kept_takes p x y in
        let left = kept_value (keeps x y) (length (rs ++ takes p x)) (result p bound rs x) in
        operated_typed (count_of_globals p) ts p.structs s knows.structs_are op t (type_of x) (type_of y) left (result p bound (rs ++ front) y) q.2 (type_small p.structs x parts.1.0) (type_small p.structs y parts.1.1)
        (kept_typed (keeps x y) rs (takes p x) (value_type (type_of x)) (result p bound rs x) (begins_left rs front (takes p y) ts b) (λ c. result_typed x rs k.0 q.0 parts.1.0 l.0 c))
        (result_typed y (rs ++ front) k.1 q.1 parts.1.1 l.1 (begins_right rs front (takes p y) ts b))
    result_typed (Node at t (Both x y)) rs h q parts l b =
        last_register rs (takes p x ++ takes p y) I32 ts _ (behind_two rs (takes p x) (takes p y)) b ∙ ap (λ i. Some (value_type i)) (sym q.4)
    result_typed (Node at t (Either x y)) rs h q parts l b =
        last_register rs (takes p x ++ takes p y) I32 ts _ (behind_two rs (takes p x) (takes p y)) b ∙ ap (λ i. Some (value_type i)) (sym q.4)
    result_typed (Node at t (Choice x y z)) rs h q parts l b =
        last_register rs (takes p x ++ takes p y ++ takes p z) (value_type (type_of y)) ts _ (behind_three rs (takes p x) (takes p y) (takes p z)) b ∙ ap (λ i. Some (value_type i)) q.4
    result_typed (Node at t (Assign None x y)) rs h q parts l b =
        let front = object_takes p x in
        let all = front ++ takes p y ++ member_type x in
        let kept = not (is_settled y) in
        let e = result p bound (rs ++ front) y in
        let right : Begins (rs ++ all) ts → Typed e (value_type t) =
        λ c. subst (λ u. Typed e (value_type u)) q.4 (result_typed y (rs ++ front) (subst IsScalar (sym q.4) h) q.1 parts.1.1 l.1 (begins_right rs front (takes p y) ts (begins_left rs (front ++ takes p y) (member_type x) ts c))) in
        subst (λ o. Begins (rs ++ assigned_types o kept (value_type t) x front (takes p y) (object_takes p y)) ts → Typed (value_of o (kept_value kept (length (rs ++ front ++ takes p y ++ member_type x)) e)) (value_type t)) (sym h.is)
        (λ c. subst (λ r. Typed (kept_value kept r e) (value_type t)) (sym (behind_three rs front (takes p y) (member_type x))) (kept_typed kept rs all (value_type t) e c right)) b
    result_typed (Node at t (Assign (Some op) x y)) rs h q parts l b =
        last_register rs (changed_types (is_pure y) (value_type t) x (object_takes p x) (takes p y)) (value_type t) ts _ (changed_at (is_pure y) rs (value_type t) x y) b
    result_typed (Node at t (Bump op a)) rs h q parts l b = last_register rs (object_takes p a ++ member_type a) (value_type t) ts _ (behind_two rs (object_takes p a) (member_type a)) b
    result_typed (Node at t (Call f es)) rs h q parts l b = last_register rs (all_takes p es) (value_type t) ts _ refl b
    result_typed (Node at t (Cast to a)) rs h q parts l b =
        let scalar = subst IsScalar q.1 h in
        subst (λ i. Typed (if is_array (type_of a) then location p bound rs a else converted (type_of a) to (result p bound rs a)) (value_type i)) (sym q.1)
        (cast_typed p ts bound s knows (is_array (type_of a)) to a (location p bound rs a) (result p bound rs a) refl scalar q.2 (λ k. location_typed a rs k q.0 parts.1 l b) (λ k. result_typed a rs k q.0 parts.1 l b))
    result_typed (Node at t (SizeOfType v)) rs h q parts l b = (ap value_type (sym q.1), size_constant (size_of p.structs v) (known_small p.structs s v knows.structs_are q.0))
    result_typed (Node at t (SizeOfExpr a)) rs h q parts l b = (ap value_type (sym q.2), size_constant (size_of p.structs (type_of a)) (known_small p.structs s (type_of a) knows.structs_are q.1))
    result_typed (Node at t (Index x y)) rs h q parts l b =
        loaded_typed (count_of_globals p) ts t (indexed p.structs (type_of x) (type_of y) (kept_value (keeps x y) (length (rs ++ takes p x)) (result p bound rs x)) (result p bound (rs ++ kept_takes p x y) y)) h
        (element_typed t x y rs q.2 parts.1.0 parts.1.1 b (λ c. result_typed x rs (index_scalar s t (type_of x) (type_of y) q.2).0 q.0 parts.1.0 l.0 c)
        (λ c. result_typed y (rs ++ kept_takes p x y) (index_scalar s t (type_of x) (type_of y) q.2).1 q.1 parts.1.1 l.1 c))
    result_typed (Node at t (Dot a m)) rs h q parts l b =
        let d = offset_of p.structs (type_of a) m in
        loaded_typed (count_of_globals p) ts t (farther (location p bound rs a) d) h
        (farther_typed (count_of_globals p) ts (location p bound rs a) d (near p.structs knows.fits (type_of a) m) (location_typed a rs q.1 q.0 parts.1 l b))
    result_typed (Node at t (Arrow a m)) rs h q parts l b =
        let d = offset_of p.structs (target_of (type_of a)) m in
        loaded_typed (count_of_globals p) ts t (farther (result p bound rs a) d) h (farther_typed (count_of_globals p) ts (result p bound rs a) d (near p.structs knows.fits (target_of (type_of a)) m)
        (subst (λ x. Typed (result p bound rs a) (value_type x)) q.1.is (result_typed a rs (pointer_scalar (type_of a) q.1.target q.1.is) q.0 parts.1 l b)))
    result_typed (Node at t (Comma a c)) rs h q parts l b =
        subst (λ u. Typed (result p bound (rs ++ act_takes p a) c) (value_type u)) q.2
        (result_typed c (rs ++ act_takes p a) (subst IsScalar (sym q.2) h) q.1 parts.1.1 l.1 (begins_right rs (act_takes p a) (takes p c) ts b))

    -- what designates an object
    pub location_typed : (e : Expression) (rs : Types) → has_object e ≡ true → WellTyped s e → TypesSmall p.structs e → ValueHasLetters e → Begins (rs ++ takes p e) ts → Typed (location p bound rs e) Ptr
    location_typed (Node at t (Text n)) rs h q parts l b =
        let inside = get-below p.texts n q.text (ap (λ x. slice_get x n) (sym knows.texts_are) ∙ q.found) in
        (refl, (literal_is p n inside).below)
    location_typed (Node at t (Variable x)) rs h q parts l b = name_placed p ts bound s knows x t (not_true p ts bound s knows (is_of_library x) h) q
    location_typed (Node at t (Unary prefix.Deref a)) rs h q parts l b =
        subst (λ x. Typed (result p bound rs a) (value_type x)) q.1 (result_typed a rs (pointer_scalar (type_of a) t q.1) q.0 parts.1 l b)
    location_typed (Node at t (Index x y)) rs h q parts l b =
        element_typed t x y rs q.2 parts.1.0 parts.1.1 b (λ c. result_typed x rs (index_scalar s t (type_of x) (type_of y) q.2).0 q.0 parts.1.0 l.0 c)
        (λ c. result_typed y (rs ++ kept_takes p x y) (index_scalar s t (type_of x) (type_of y) q.2).1 q.1 parts.1.1 l.1 c)
    location_typed (Node at t (Dot a m)) rs h q parts l b =
        let d = offset_of p.structs (type_of a) m in
        farther_typed (count_of_globals p) ts (location p bound rs a) d (near p.structs knows.fits (type_of a) m) (location_typed a rs q.1 q.0 parts.1 l b)
    location_typed (Node at t (Arrow a m)) rs h q parts l b =
        let d = offset_of p.structs (target_of (type_of a)) m in
        farther_typed (count_of_globals p) ts (result p bound rs a) d (near p.structs knows.fits (target_of (type_of a)) m)
        (subst (λ x. Typed (result p bound rs a) (value_type x)) q.1.is (result_typed a rs (pointer_scalar (type_of a) q.1.target q.1.is) q.0 parts.1 l b))
    location_typed (Node at t (Assign None x y)) rs h q parts l b = stepped_typed x (object_of p bound rs x) q.0 (assigned_points at t x y rs h q b)
    location_typed (Node at t (Comma a c)) rs h q parts l b = location_typed c (rs ++ act_takes p a) h q.1 parts.1.1 l.1 (begins_right rs (act_takes p a) (takes p c) ts b)
    location_typed _ rs h q parts l b = absurd cc

  pub origin_typed : (e : Expression) (rs : Types) → has_object e ≡ true → WellTyped s e → TypesSmall p.structs e → ValueHasLetters e → Begins (rs ++ takes p e) ts → Typed (origin p bound rs e) Ptr
  origin_typed (Node at t (Dot a m)) rs h q parts l b = origin_typed a rs q.1 q.0 parts.1 l b
  origin_typed (Node at t (Arrow a m)) rs h q parts l b = subst (λ x. Typed (result p bound rs a) (value_type x)) q.1.is (result_typed a rs (pointer_scalar (type_of a) q.1.target q.1.is) q.0 parts.1 l b)
  origin_typed (Node at t (Assign None x y)) rs h q parts l b = assigned_points at t x y rs h q b
  origin_typed (Node at t (Assign (Some op) x y)) rs h q parts l b = absurd cc
  origin_typed (Node at t (Comma a c)) rs h q parts l b = origin_typed c (rs ++ act_takes p a) h q.1 parts.1.1 l.1 (begins_right rs (act_takes p a) (takes p c) ts b)
  origin_typed e rs h q parts l b = location_typed e rs h q parts l b
