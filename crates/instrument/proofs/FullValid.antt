-- The statements of expressions with effects anywhere in them are valid, and so are their values.
use Rattle.std.proofs.Common.{◌≡◌, ℕ, ◌+◌, ◌≤◌, pos, Bool, true, false, not, if◌then◌else◌, List, [], ◌∷◌, ◌++◌, length, map, Option, Some, None, slice_get, refl, sym, ap, ◌∙◌, subst, arith, append_assoc}
use Rattle.std.specs.Prelude.{◌&&◌}
use Rattle.c_syntax.specs.declared.expression.BinOp.{BinOp}
use Rattle.c_syntax.specs.declared.expression.BinOp.TheVariants as operator
use Rattle.c_syntax.specs.declared.expression.BumpOp.{BumpOp}
use Rattle.c_syntax.specs.declared.expression.UnOp.TheVariants as prefix
use Rattle.c_syntax.specs.declared.expression.Use.{Use}
use Rattle.c_syntax.specs.declared.place.Place.{Place}
use Rattle.c_syntax.specs.Ctypes.{PlainType, Struct, Void, int_type}
use Rattle.c_syntax.specs.Expressions.{Expression, Node, Number, Letter, Variable, Unary, Binary, Both, Either, Choice, Assign, Bump, Call, Cast, SizeOfType, SizeOfExpr, Text, Index, Dot, Arrow, Comma, Expressions, NoExpression, Following, type_of}
use Rattle.c_syntax.specs.Programs.{TranslationUnit}
use Rattle.c_syntax.specs.Layouts.{Scalar, scalar_of, size_of, scalars_of}
use Rattle.c_model.specs.AcceptedPrograms.{AreScalar}
use Rattle.c_model.specs.Meaning.{bump_operator}
use Rattle.c_model.specs.ExpressionTyping.{Sight, has_object, has_small_parts, is_place, is_struct}
use Rattle.c_model.specs.SmallTypes.{TypesSmall, AllTypesSmall}
use Rattle.c_model.specs.Sizes.{weight_of, weight_of_all, most_weight}
use Rattle.c_model.specs.TypedTrees.{IsScalar, HaveTypes, Calls, Assigns, ToScalar, ToStruct, CastTypes, ToVoid, OfInteger, OfPointer, OfNullConstant, OfArray, CompoundTypes, WellTyped, AreWellTyped}
use Rattle.mon_syntax.specs.declared.tree.MonOp.TheVariants as mon
use Rattle.mon_syntax.specs.declared.tree.MonType.{MonType}
use Rattle.mon_syntax.specs.declared.tree.MonType.TheVariants.{I32, Ptr}
use Rattle.mon_syntax.specs.Registers.{Bindings}
use Rattle.mon_syntax.specs.Trees.{MonExpression, MonStatements, NoStatement, Register, Constant, If}
use Rattle.mon_syntax.specs.Valid.{Types, Labels, Signature, HasType, TakesValue, AreArguments, IsExpression, AreStatements, open_parens}
use Rattle.c_effects.specs.Expressions.{value_type, before, one, set, compound, farther}
use Rattle.c_effects.specs.Effects.{call, copies_at, current, is_direct, store}
use Rattle.c_effects.specs.Full.{act, act_takes, all_results, all_takes, assigned_setup, assigned_types, bumped_setup, changed_front, changed_setup}
use Rattle.c_effects.specs.Full.{changed_types, condition_result, gives_old, inner_offset, is_inner, is_pure, is_settled, keeps, keeps_all}
use Rattle.c_effects.specs.Full.{kept_setup, kept_takes, kept_types, kept_value, member_register, member_setup, member_type, object_of, object_setup, object_takes}
use Rattle.c_effects.specs.Full.{object_type, old_setup, origin, part_of, prepare, prepare_all, reached, result, stored, takes, truth_result}
use Rattle.c_effects.specs.Letters.{ActHasLetters, ValueHasLetters, ValuesHaveLetters, Where}
use Rattle.c_simulation.proofs.ExpressionTypes.{place_has_object, struct_no_scalar, bump_types}
use Rattle.annot_simulation.specs.Validity.{Begins}
use Rattle.annot_simulation.proofs.ValidParts.{before_valid, set_valid}
use Rattle.instrument.specs.Translation.{result_of}
use Rattle.instrument.proofs.Parentheses.{parens_compared, parens_compound_of, parens_condition, some_weight}
use Rattle.instrument.proofs.Typed.{Knows, begins_left, begins_right, bytes_constant, compound_scalar, compound_typed, condition_typed, count_of_globals}
use Rattle.instrument.proofs.Typed.{index_scalar, integer_scalar, operands_scalar, pointer_scalar, promoted_scalar, register_at, scalar_is, truth_typed}
use Rattle.instrument.proofs.Parts.{ScalarsInside, all_scalars_inside, struct_small}
use Rattle.instrument.proofs.FullParentheses.{AreShallow, few_parens_origin, few_parens_result, few_parens_results}
use Rattle.instrument.proofs.FullTyped.{behind_four, behind_three, behind_two, inner_ends_as, inner_near, last_register, object_points, origin_typed, result_typed, three_in_one}

-- ---- what is evaluated has a value, or designates an object

pub data IsEvaluated (e : Expression) : Type 0 where
  HasValue : IsScalar (type_of e) → IsEvaluated e
  HasObject : has_object e ≡ true → IsEvaluated e

pub evaluated_scalar : (e : Expression) → has_object e ≡ false → IsEvaluated e → IsScalar (type_of e)
evaluated_scalar e h (HasValue k) = k
evaluated_scalar e h (HasObject k) = let x : false ≡ true = sym h ∙ k in absurd cc

-- the operand of a cast to a scalar type
pub operand_evaluated : (s : Sight) (to : PlainType) (a : Expression) → IsScalar to → CastTypes s to a → IsEvaluated a
operand_evaluated s to a h (ToVoid void) = let k : scalar_of Void ≡ Some h.scalar = ap scalar_of (sym void) ∙ h.is in absurd cc
operand_evaluated s to a h (OfInteger left right) = HasValue (integer_scalar (type_of a) right)
operand_evaluated s to a h (OfPointer left right) = HasValue (pointer_scalar (type_of a) right.target right.is)
operand_evaluated s to a h (OfNullConstant left right null) = HasValue (integer_scalar (type_of a) right)
operand_evaluated s to a h (OfArray t n is array object) = HasObject object

-- what stands behind a comma
behind_comma : (at : Place) (t : PlainType) (a b : Expression) → type_of b ≡ t → IsEvaluated (Node at t (Comma a b)) → IsEvaluated b
behind_comma at t a b same (HasValue k) = HasValue (subst IsScalar (sym same) k)
behind_comma at t a b same (HasObject k) = HasObject k

-- ---- calls

-- a call is valid with arguments of these types
pub record CallValid (p : TranslationUnit) (gs : List Signature) (ts : Types) (f : Use) (t : PlainType) (es : Expressions) : Type 0 where
  pub types : List PlainType
  pub scalar : AreScalar types
  pub arguments : HaveTypes types es
  pub valid : (result : Option MonType) (ls : Labels) (into : Option ℕ) (args : List MonExpression) → TakesValue ts into (result_of t) → AreArguments (count_of_globals p) ts args (map value_type types) → AreShallow args
      → AreStatements (count_of_globals p) gs ts result ls (call p into f es args)

abbrev pub CallsValid : TranslationUnit → List Signature → Types → Sight → Type 0
CallsValid p gs ts s = (f : Use) (t : PlainType) (es : Expressions) → Calls s f t es → CallValid p gs ts f t es

pub result_scalar : (t : PlainType) → IsScalar t → result_of t ≡ Some (value_type t)
result_scalar t h = scalar_is (λ u. result_of u ≡ Some (value_type u)) t h (λ k. refl) (λ u. refl)

-- ---- the statements, in a function with registers of these types

module _ (p : TranslationUnit) (gs : List Signature) (ts : Types) (outcome : Option MonType) (bound : Bindings) (s : Sight) (knows : Knows p ts bound s) (calls : CallsValid p gs ts s) (ls : Labels) where
  abbrev Are : MonStatements → Type 0
  Are a = AreStatements (count_of_globals p) gs ts outcome ls a

  abbrev G : ℕ
  G = count_of_globals p

  abbrev Is : MonExpression → MonType → Type 0
  Is e t = IsExpression G ts e t

  joined : (a b : MonStatements) → Are a → Are b → Are (before a b)
  joined a b h k = before_valid G gs ts outcome ls a b h k

  sets : (r : ℕ) (e : MonExpression) (t : MonType) → slice_get ts r ≡ Some t → Is e t → Are (set r e)
  sets r e t reg h = set_valid G gs ts outcome ls r e t reg h

  register_valid : (r : ℕ) (t : MonType) → slice_get ts r ≡ Some t → Is (Register r) t
  register_valid r t h = record { typed = h; within = omega arith }

  zero_valid : Is (Constant I32 (pos 0)) I32
  zero_valid = record { typed = (refl, refl); within = omega arith }

  one_valid : Is (Constant I32 (pos 1)) I32
  one_valid = record { typed = (refl, refl); within = omega arith }

  -- where a register points
  current_valid : (r : ℕ) (t : PlainType) → slice_get ts r ≡ Some Ptr → Is (current r t) (value_type t)
  current_valid r t points = record { typed = (refl, points); within = omega arith }

  pub store_valid : (r : ℕ) (t : PlainType) (e : MonExpression) → slice_get ts r ≡ Some Ptr → Is e (value_type t) → Are (store r t e)
  store_valid r t e points h = ((points, h), tt)

  -- ---- values

  pub value_valid : (e : Expression) (rs : Types) → IsScalar (type_of e) → WellTyped s e → TypesSmall p.structs e → ValueHasLetters e → weight_of e ≤ most_weight → Begins (rs ++ takes p e) ts → Is (result p bound rs e) (value_type (type_of e))
  value_valid e rs h q parts l light b = let m = few_parens_result p bound rs e in record { typed = result_typed p ts bound s knows e rs h q parts l b; within = omega (arith, m, light) }

  pub condition_valid : (e : Expression) (rs : Types) → IsScalar (type_of e) → WellTyped s e → TypesSmall p.structs e → ValueHasLetters e → weight_of e ≤ most_weight → Begins (rs ++ takes p e) ts → Is (condition_result p bound rs e) I32
  condition_valid e rs h q parts l light b =
      let m = parens_condition (value_type (type_of e)) (result p bound rs e) (weight_of e) (few_parens_result p bound rs e) (some_weight e) in
      record { typed = condition_typed G ts (value_type (type_of e)) (result p bound rs e) (result_typed p ts bound s knows e rs h q parts l b); within = omega (arith, m, light) }

  truth_valid : (e : Expression) (rs : Types) → IsScalar (type_of e) → WellTyped s e → TypesSmall p.structs e → ValueHasLetters e → weight_of e ≤ most_weight → Begins (rs ++ takes p e) ts → Is (truth_result p bound rs e) I32
  truth_valid e rs h q parts l light b =
      let m = parens_compared mon.Ne (value_type (type_of e)) (result p bound rs e) (weight_of e) (few_parens_result p bound rs e) (some_weight e) in
      record { typed = truth_typed G ts (value_type (type_of e)) (result p bound rs e) (result_typed p ts bound s knows e rs h q parts l b); within = omega (arith, m, light) }

  origin_valid : (e : Expression) (rs : Types) → has_object e ≡ true → WellTyped s e → TypesSmall p.structs e → ValueHasLetters e → weight_of e ≤ most_weight → Begins (rs ++ takes p e) ts → Is (origin p bound rs e) Ptr
  origin_valid e rs h q parts l light b = let m = few_parens_origin p bound rs e in record { typed = origin_typed p ts bound s knows e rs h q parts l b; within = omega (arith, m, light) }

  -- `op=` on two values, of which the second one opens at most so many parentheses
  compound_valid : (op : BinOp) (t u : PlainType) (a b : MonExpression) (n : ℕ) → CompoundTypes s op t u → has_small_parts p.structs t ≡ true → HasType G ts a (value_type t) → open_parens a ≤ 2 → HasType G ts b (value_type u) → open_parens b ≤ n
      → n ≤ most_weight → Is (compound p.structs op t u a b) (value_type t)
  compound_valid op t u a b n types small left few right many light =
      let m = parens_compound_of p.structs op t u a b (2 + n) (omega (arith, few)) (omega (arith, many)) (omega arith) in
      record { typed = compound_typed G ts p.structs s knows.structs_are op t u a b types small left right; within = omega (arith, m, light) }

  -- ---- registers of parts

  -- the front of those that a value takes which may be kept
  kept_front : (kept : Bool) (rs a : Types) (u : MonType) → Begins (rs ++ kept_types kept a u) ts → Begins (rs ++ a) ts
  kept_front true rs a u b = begins_left rs a (u ∷ []) ts b
  kept_front false rs a u b = b

  -- and the one in which it is kept
  kept_last : (kept : Bool) (rs a : Types) (u : MonType) (r : ℕ) → r ≡ length (rs ++ a) → Begins (rs ++ kept_types kept a u) ts → kept ≡ true → slice_get ts r ≡ Some u
  kept_last true rs a u r is b e = last_register rs a u ts r is b
  kept_last false rs a u r is b e = absurd cc

  -- the last one after two parts
  last_begins : (rs a b c : Types) → Begins (rs ++ (a ++ b ++ c)) ts → Begins (rs ++ a ++ b ++ c) ts
  last_begins rs a b c h = subst (λ l. Begins (l ++ c) ts) (sym (append_assoc rs a b)) (begins_right rs (a ++ b) c ts h)

  -- those of the object, of what `a op= b` takes
  changed_begins : (pure : Bool) (rs : Types) (u : MonType) (x : Expression) (tx ty : Types) → Begins (rs ++ changed_types pure u x tx ty) ts → Begins (rs ++ tx) ts
  changed_begins true rs u x tx ty b = begins_left rs tx ty ts (begins_left rs (tx ++ ty) (member_type x) ts b)
  changed_begins false rs u x tx ty b = begins_left rs tx (member_type x) ts (begins_left rs (tx ++ member_type x) (u ∷ []) ts (begins_left rs (tx ++ member_type x ++ u ∷ []) ty ts b))

  -- ---- statements of parts

  -- a value that may be kept, and what stands before it
  kept_are : (kept : Bool) (rs a : Types) (u : MonType) (setup : MonStatements) (e : MonExpression) → Begins (rs ++ kept_types kept a u) ts → (Begins (rs ++ a) ts → Are setup × Is e u)
      → Are (kept_setup kept (length (rs ++ a)) setup e) × Is (kept_value kept (length (rs ++ a)) e) u
  kept_are true rs a u setup e b f =
      let reg = last_register rs a u ts (length (rs ++ a)) refl b in
      let v = f (begins_left rs a (u ∷ []) ts b) in
      (joined setup (set (length (rs ++ a)) e) v.0 (sets (length (rs ++ a)) e u reg v.1), register_valid (length (rs ++ a)) u reg)
  kept_are false rs a u setup e b f = f b

  -- a register is made to point to the object that is assigned to
  object_are : (direct : Bool) (rs a : Types) (setup : MonStatements) (o : MonExpression) → Begins (rs ++ object_type direct a) ts → (Begins (rs ++ a) ts → Are setup × Is o Ptr) → Are (object_setup direct (length (rs ++ a)) setup o)
  object_are true rs a setup o b f = tt
  object_are false rs a setup o b f =
      let v = f (begins_left rs a (Ptr ∷ []) ts b) in
      joined setup (set (length (rs ++ a)) o) v.0 (sets (length (rs ++ a)) o Ptr (last_register rs a Ptr ts (length (rs ++ a)) refl b) v.1)

  member_points : (a : Expression) (rs : Types) (r : ℕ) → slice_get ts r ≡ Some Ptr → Begins (rs ++ member_type a) ts → slice_get ts (member_register r (length rs) a) ≡ Some Ptr
  member_points a rs r points b = by (is_inner a) b
    where
      by : (i : Bool) → Begins (rs ++ (if i then Ptr ∷ [] else [])) ts → slice_get ts (if i then length rs else r) ≡ Some Ptr
      by true b = register_at rs ts Ptr b
      by false b = points

  member_are : (a : Expression) (rs : Types) (r : ℕ) → WellTyped s a → slice_get ts r ≡ Some Ptr → Begins (rs ++ member_type a) ts → Are (member_setup p.structs r (length rs) a)
  member_are a rs r q points b = by (is_inner a) refl b
    where
      by : (i : Bool) → is_inner a ≡ i → Begins (rs ++ (if i then Ptr ∷ [] else [])) ts → Are (if i then set (length rs) (farther (Register r) (inner_offset p.structs a)) else NoStatement)
      by true e b =
          sets (length rs) (farther (Register r) (inner_offset p.structs a)) Ptr (register_at rs ts Ptr b)
          (record { typed = (refl, refl, points, (refl, bytes_constant (inner_offset p.structs a) (inner_near p ts bound s knows a q e))); within = omega arith })
      by false e b = tt

  reached_are : (a : Expression) (rs : Types) (object right : MonStatements) (r : ℕ) → WellTyped s a → slice_get ts r ≡ Some Ptr → Begins (rs ++ member_type a) ts → Are object → Are right → Are (reached p.structs object right r (length rs) a)
  reached_are a rs object right r q points b h k =
      let last = member_setup p.structs r (length rs) a in
      joined object (before right last) h (joined right last k (member_are a rs r q points b))

  stored_are : (kept : Bool) (v part : ℕ) (t : PlainType) (a : MonStatements) (e : MonExpression) → Are a → (kept ≡ true → slice_get ts v ≡ Some (value_type t)) → slice_get ts part ≡ Some Ptr → Is e (value_type t) → Are (stored kept v part t a e)
  stored_are true v part t a e h reg points w =
      joined (before a (set v e)) (store part t (Register v)) (joined a (set v e) h (sets v e (value_type t) (reg refl) w)) (store_valid part t (Register v) points (register_valid v (value_type t) (reg refl)))
  stored_are false v part t a e h reg points w = joined a (store part t e) h (store_valid part t e points w)

  -- ---- assignments

  -- `a = b` of a scalar
  scalar_assigned_are : (k : Scalar) (kept : Bool) (t : PlainType) (x y : Expression) (rs : Types) (object right other : MonStatements) → WellTyped s x → slice_get ts (object_of p bound rs x) ≡ Some Ptr → Are object → Are right
      → Is (result p bound (rs ++ object_takes p x) y) (value_type t) → Begins (rs ++ kept_types kept (object_takes p x ++ takes p y ++ member_type x) (value_type t)) ts
      → Are (assigned_setup p bound rs (Some k) kept t x y object right other)
  scalar_assigned_are k kept t x y rs object right other q points h g w b =
      let tx = object_takes p x in
      let ty = takes p y in
      let all = tx ++ ty ++ member_type x in
      let r = rs ++ tx ++ ty in
      let v = length (r ++ member_type x) in
      let to = object_of p bound rs x in
      let here = last_begins rs tx ty (member_type x) (kept_front kept rs all (value_type t) b) in
      stored_are kept v (member_register to (length r) x) t (reached p.structs object right to (length r) x) (result p bound (rs ++ tx) y) (reached_are x r object right to q points here h g)
      (kept_last kept rs all (value_type t) v (behind_three rs tx ty (member_type x)) b) (member_points x r to points here) w

  struct_is_small : (t : PlainType) → is_struct t ≡ true → size_of p.structs t ≤ 2147483647
  struct_is_small (Struct n) h = struct_small p.structs knows.fits n
  struct_is_small _ h = absurd cc

  copies_are : (r d q e most : ℕ) (cs : List (ℕ × Scalar)) → slice_get ts r ≡ Some Ptr → slice_get ts q ≡ Some Ptr → d + most ≤ 2147483647 → e + most ≤ 2147483647 → ScalarsInside most cs → Are (copies_at r d q e cs)
  copies_are r d q e most [] points others left right inside = tt
  copies_are r d q e most (x ∷ cs) points others left right inside =
      let ends = inside.0 in
      let to : Is (farther (Register r) (d + x.0)) Ptr = record { typed = (refl, refl, points, (refl, bytes_constant (d + x.0) (omega (arith, left, ends)))); within = omega arith } in
      let from : Is (farther (Register q) (e + x.0)) Ptr = record { typed = (refl, refl, others, (refl, bytes_constant (e + x.0) (omega (arith, right, ends)))); within = omega arith } in
      (((to, (from, tt)), tt), copies_are r d q e most cs points others left right inside.1)

  -- of a struct
  struct_assigned_are : (kept : Bool) (t : PlainType) (x y : Expression) (rs : Types) (object right other : MonStatements) → is_struct t ≡ true → type_of x ≡ t → type_of y ≡ t → WellTyped s x → WellTyped s y
      → slice_get ts (object_of p bound rs x) ≡ Some Ptr → slice_get ts (object_of p bound (rs ++ object_takes p x) y) ≡ Some Ptr → Are object → Are other → Are (assigned_setup p bound rs None kept t x y object right other)
  struct_assigned_are kept t x y rs object right other struct left same qx qy points others h i =
      let small = struct_is_small t struct in
      let to = object_of p bound rs x in
      let from = object_of p bound (rs ++ object_takes p x) y in
      let last = copies_at to (inner_offset p.structs x) from (inner_offset p.structs y) (scalars_of p.structs t) in
      joined object (before other last) h
      (joined other last i
      (copies_are to (inner_offset p.structs x) from (inner_offset p.structs y) (size_of p.structs t) (scalars_of p.structs t) points others (inner_ends_as p ts bound s knows x t left small qx) (inner_ends_as p ts bound s knows y t same small qy)
      (all_scalars_inside p.structs t knows.fits)))

  -- the old value is kept in a register
  pub record OldKept (rs : Types) (t : PlainType) (x : Expression) (object : MonStatements) : Type 0 where
    pub statements : Are (old_setup p bound rs t x object)
    pub register : slice_get ts (length (rs ++ object_takes p x ++ member_type x)) ≡ Some (value_type t)
    pub points : slice_get ts (part_of p bound rs (length (rs ++ object_takes p x)) x) ≡ Some Ptr

  old_kept : (rs : Types) (t : PlainType) (x : Expression) (object : MonStatements) → WellTyped s x → slice_get ts (object_of p bound rs x) ≡ Some Ptr → Are object → Begins (rs ++ (object_takes p x ++ member_type x ++ value_type t ∷ [])) ts
      → OldKept rs t x object
  old_kept rs t x object q points h b =
      let tx = object_takes p x in
      let r = rs ++ tx in
      let to = object_of p bound rs x in
      let v = length (r ++ member_type x) in
      let here = begins_right rs tx (member_type x) ts (begins_left rs (tx ++ member_type x) (value_type t ∷ []) ts b) in
      let last = last_register rs (tx ++ member_type x) (value_type t) ts v (behind_two rs tx (member_type x)) b in
      let part = member_points x r to points here in
      let front = reached p.structs object NoStatement to (length r) x in
      let value = current (member_register to (length r) x) t in
      record {
        statements = joined front (set v value) (reached_are x r object NoStatement to q points here h tt) (sets v value (value_type t) last (current_valid (member_register to (length r) x) t part));
        register = last;
        points = part;
      }

  -- `a op= b`, by whether the right side is pure
  changed_are : (pure kept : Bool) (op : BinOp) (t : PlainType) (x y : Expression) (rs : Types) (object : MonStatements) → CompoundTypes s op t (type_of y) → has_small_parts p.structs t ≡ true → weight_of y ≤ most_weight → WellTyped s x
      → slice_get ts (object_of p bound rs x) ≡ Some Ptr → Are object → ((f : Types) → Begins (rs ++ f ++ takes p y) ts → Are (prepare p bound (rs ++ f) y))
      → ((ws : Types) → Begins (ws ++ takes p y) ts → HasType G ts (result p bound ws y) (value_type (type_of y)))
      → Begins (rs ++ kept_types kept (changed_types pure (value_type t) x (object_takes p x) (takes p y)) (value_type t)) ts
      → Are (changed_setup p bound rs pure kept op t x y object (prepare p bound (rs ++ (if pure then object_takes p x else object_takes p x ++ member_type x ++ value_type t ∷ [])) y))
  changed_are true kept op t x y rs object types small light q points h right value b =
      let tx = object_takes p x in
      let ty = takes p y in
      let all = tx ++ ty ++ member_type x in
      let r = rs ++ tx ++ ty in
      let v = length (r ++ member_type x) in
      let to = object_of p bound rs x in
      let part = member_register to (length r) x in
      let front = kept_front kept rs all (value_type t) b in
      let here = last_begins rs tx ty (member_type x) front in
      let after = begins_right rs tx ty ts (begins_left rs (tx ++ ty) (member_type x) ts front) in
      let at = member_points x r to points here in
      let many = few_parens_result p bound (rs ++ tx) y in
      stored_are kept v part t (reached p.structs object (prepare p bound (rs ++ tx) y) to (length r) x) (compound p.structs op t (type_of y) (current part t) (result p bound (rs ++ tx) y))
      (reached_are x r object (prepare p bound (rs ++ tx) y) to q points here h (right tx after)) (kept_last kept rs all (value_type t) v (behind_three rs tx ty (member_type x)) b) at
      (compound_valid op t (type_of y) (current part t) (result p bound (rs ++ tx) y) (weight_of y) types small (refl, at) (omega arith) (value (rs ++ tx) after) many light)
  changed_are false kept op t x y rs object types small light q points h right value b =
      let tx = object_takes p x in
      let ty = takes p y in
      let u = value_type t in
      let f = tx ++ member_type x ++ u ∷ [] in
      let r = rs ++ tx in
      let old = length (r ++ member_type x) in
      let ws = r ++ member_type x ++ u ∷ [] in
      let v = length (ws ++ ty) in
      let part = member_register (object_of p bound rs x) (length r) x in
      let front = kept_front kept rs (f ++ ty) u b in
      let first = old_kept rs t x object q points h (begins_left rs f ty ts front) in
      let after = begins_right rs f ty ts front in
      let before_all = old_setup p bound rs t x object in
      let many = few_parens_result p bound ws y in
      stored_are kept v part t (before before_all (prepare p bound (rs ++ f) y)) (compound p.structs op t (type_of y) (Register old) (result p bound ws y))
      (joined before_all (prepare p bound (rs ++ f) y) first.statements (right f after)) (kept_last kept rs (f ++ ty) u v (behind_four rs tx (member_type x) (u ∷ []) ty) b) first.points
      (compound_valid op t (type_of y) (Register old) (result p bound ws y) (weight_of y) types small first.register (omega arith)
      (value ws (subst (λ l. Begins (l ++ ty) ts) (sym (three_in_one rs tx (member_type x) (u ∷ []))) after)) many light)

  -- `++` and `--`: the old value is given, or none or the new one
  old_given_are : (kept : Bool) (op : BumpOp) (t : PlainType) (x : Expression) (rs : Types) (object : MonStatements) → CompoundTypes s operator.Add t int_type → has_small_parts p.structs t ≡ true → WellTyped s x
      → slice_get ts (object_of p bound rs x) ≡ Some Ptr
      → Are object → Begins (rs ++ (object_takes p x ++ member_type x ++ value_type t ∷ [])) ts → Are (bumped_setup p bound rs true kept op t x object)
  old_given_are kept op t x rs object types small q points h b =
      let r = rs ++ object_takes p x in
      let v = length (r ++ member_type x) in
      let part = member_register (object_of p bound rs x) (length r) x in
      let old = old_kept rs t x object q points h b in
      stored_are false v part t (old_setup p bound rs t x object) (compound p.structs (bump_operator op) t int_type (Register v) (Constant I32 (pos 1))) old.statements (λ e. old.register) old.points
      (compound_valid (bump_operator op) t int_type (Register v) (Constant I32 (pos 1)) 1 (bump_types s op t int_type types) small old.register (omega arith) (refl, refl) (omega arith) (omega arith))

  new_given_are : (kept : Bool) (op : BumpOp) (t : PlainType) (x : Expression) (rs : Types) (object : MonStatements) → CompoundTypes s operator.Add t int_type → has_small_parts p.structs t ≡ true → WellTyped s x
      → slice_get ts (object_of p bound rs x) ≡ Some Ptr
      → Are object → Begins (rs ++ kept_types kept (object_takes p x ++ member_type x) (value_type t)) ts → Are (bumped_setup p bound rs false kept op t x object)
  new_given_are kept op t x rs object types small q points h b =
      let tx = object_takes p x in
      let r = rs ++ tx in
      let v = length (r ++ member_type x) in
      let to = object_of p bound rs x in
      let part = member_register to (length r) x in
      let here = begins_right rs tx (member_type x) ts (kept_front kept rs (tx ++ member_type x) (value_type t) b) in
      let at = member_points x r to points here in
      stored_are kept v part t (reached p.structs object NoStatement to (length r) x) (compound p.structs (bump_operator op) t int_type (current part t) (Constant I32 (pos 1))) (reached_are x r object NoStatement to q points here h tt)
      (kept_last kept rs (tx ++ member_type x) (value_type t) v (behind_two rs tx (member_type x)) b) at
      (compound_valid (bump_operator op) t int_type (current part t) (Constant I32 (pos 1)) 1 (bump_types s op t int_type types) small (refl, at) (omega arith) (refl, refl) (omega arith) (omega arith))

  bumped_are : (old : Bool) (op : BumpOp) (t : PlainType) (x : Expression) (rs : Types) (object : MonStatements) → CompoundTypes s operator.Add t int_type → has_small_parts p.structs t ≡ true → WellTyped s x
      → slice_get ts (object_of p bound rs x) ≡ Some Ptr
      → Are object → Begins (rs ++ (object_takes p x ++ member_type x ++ value_type t ∷ [])) ts → Are (bumped_setup p bound rs old true op t x object)
  bumped_are true op t x rs object types small q points h b = old_given_are true op t x rs object types small q points h b
  bumped_are false op t x rs object types small q points h b = new_given_are true op t x rs object types small q points h b

  -- what is done only at times
  either_are : (pure : Bool) (a c : MonStatements) (rs ta tc : Types) (L M : Type 0) → (L → Begins (rs ++ ta) ts → Are a) → (M → Begins (rs ++ tc) ts → Are c) → Where pure L M → Begins (rs ++ (if pure then ta else tc)) ts
      → Are (if pure then a else c)
  either_are true a c rs ta tc L M f g l b = f l b
  either_are false a c rs ta tc L M f g l b = g l b

  -- an `if` behind other statements
  chosen_are : (front : MonStatements) (c : MonExpression) (a b : MonStatements) → Are front → Is c I32 → Are a → Are b → Are (before front (one (If c a b)))
  chosen_are front c a b f h k l = joined front (one (If c a b)) f ((h, k, l), tt)

  -- ---- expressions, from what holds of their parts

  abbrev Prepared : Expression → Type 0
  Prepared e = (rs : Types) → IsEvaluated e → Begins (rs ++ takes p e) ts → Are (prepare p bound rs e)

  -- what is known of one whose value is computed
  pub record Known (e : Expression) : Type 0 where
    pub typed : WellTyped s e
    pub small : TypesSmall p.structs e
    pub letters : ValueHasLetters e
    pub light : weight_of e ≤ most_weight
    pub prepared : Prepared e

  known_as : (e : Expression) → WellTyped s e → TypesSmall p.structs e → ValueHasLetters e → weight_of e ≤ most_weight → (WellTyped s e → TypesSmall p.structs e → ValueHasLetters e → weight_of e ≤ most_weight → Prepared e) → Known e
  known_as e q parts l light f = record { typed = q; small = parts; letters = l; light = light; prepared = f q parts l light }

  known_value : (e : Expression) (rs : Types) → IsScalar (type_of e) → Known e → Begins (rs ++ takes p e) ts → Are (prepare p bound rs e) × Is (result p bound rs e) (value_type (type_of e))
  known_value e rs h k b = (k.prepared rs (HasValue h) b, value_valid e rs h k.typed k.small k.letters k.light b)

  -- the condition of an `if`, and what stands before it
  known_condition : (e : Expression) (rs : Types) → IsScalar (type_of e) → Known e → Begins (rs ++ takes p e) ts → (a b : MonStatements) → Are a → Are b → Are (before (prepare p bound rs e) (one (If (condition_result p bound rs e) a b)))
  known_condition e rs h k here a b left right =
      chosen_are (prepare p bound rs e) (condition_result p bound rs e) a b (k.prepared rs (HasValue h) here) (condition_valid e rs h k.typed k.small k.letters k.light here) left right

  -- a register is set to a value, or to whether it isn't 0
  known_set : (e : Expression) (rs : Types) (r : ℕ) → IsScalar (type_of e) → Known e → Begins (rs ++ takes p e) ts → slice_get ts r ≡ Some (value_type (type_of e)) → Are (before (prepare p bound rs e) (set r (result p bound rs e)))
  known_set e rs r h k here reg = let v = known_value e rs h k here in joined (prepare p bound rs e) (set r (result p bound rs e)) v.0 (sets r (result p bound rs e) (value_type (type_of e)) reg v.1)

  known_truth : (e : Expression) (rs : Types) (r : ℕ) → IsScalar (type_of e) → Known e → Begins (rs ++ takes p e) ts → slice_get ts r ≡ Some I32 → Are (before (prepare p bound rs e) (set r (truth_result p bound rs e)))
  known_truth e rs r h k here reg =
      joined (prepare p bound rs e) (set r (truth_result p bound rs e)) (k.prepared rs (HasValue h) here) (sets r (truth_result p bound rs e) I32 reg (truth_valid e rs h k.typed k.small k.letters k.light here))

  -- two operands, of which the first one may be kept
  two_are : (x y : Expression) (rs : Types) → IsScalar (type_of x) → IsScalar (type_of y) → Known x → Known y → Begins (rs ++ (kept_takes p x y ++ takes p y)) ts
      → Are (before (kept_setup (keeps x y) (length (rs ++ takes p x)) (prepare p bound rs x) (result p bound rs x)) (prepare p bound (rs ++ kept_takes p x y) y))
  two_are x y rs hx hy left right b =
      let front = kept_takes p x y in
      let k = kept_are (keeps x y) rs (takes p x) (value_type (type_of x)) (prepare p bound rs x) (result p bound rs x) (begins_left rs front (takes p y) ts b) (known_value x rs hx left) in
      joined (kept_setup (keeps x y) (length (rs ++ takes p x)) (prepare p bound rs x) (result p bound rs x)) (prepare p bound (rs ++ front) y) k.0 (right.prepared (rs ++ front) (HasValue hy) (begins_right rs front (takes p y) ts b))

  -- `&&`, `||` and `?:`
  abbrev LastBegins : Expression → Expression → Types → Type 0
  LastBegins x y rs = Begins (rs ++ (takes p x ++ takes p y ++ I32 ∷ [])) ts

  both_are : (x y : Expression) (rs : Types) → IsScalar (type_of x) → IsScalar (type_of y) → Known x → Known y → LastBegins x y rs
      → Are (before (prepare p bound rs x) (one (If (condition_result p bound rs x) (before (prepare p bound (rs ++ takes p x) y) (set (length (rs ++ takes p x ++ takes p y)) (truth_result p bound (rs ++ takes p x) y)))
      (set (length (rs ++ takes p x ++ takes p y)) (Constant I32 (pos 0))))))
  both_are x y rs hx hy left right b =
      let tx = takes p x in
      let ty = takes p y in
      let r = rs ++ tx in
      let n = length (r ++ ty) in
      let last = last_register rs (tx ++ ty) I32 ts n (behind_two rs tx ty) b in
      let two = begins_left rs (tx ++ ty) (I32 ∷ []) ts b in
      known_condition x rs hx left (begins_left rs tx ty ts two) (before (prepare p bound r y) (set n (truth_result p bound r y))) (set n (Constant I32 (pos 0))) (known_truth y r n hy right (begins_right rs tx ty ts two) last)
      (sets n (Constant I32 (pos 0)) I32 last zero_valid)

  either_of_two_are : (x y : Expression) (rs : Types) → IsScalar (type_of x) → IsScalar (type_of y) → Known x → Known y → LastBegins x y rs
      → Are (before (prepare p bound rs x) (one (If (condition_result p bound rs x) (set (length (rs ++ takes p x ++ takes p y)) (Constant I32 (pos 1)))
      (before (prepare p bound (rs ++ takes p x) y) (set (length (rs ++ takes p x ++ takes p y)) (truth_result p bound (rs ++ takes p x) y))))))
  either_of_two_are x y rs hx hy left right b =
      let tx = takes p x in
      let ty = takes p y in
      let r = rs ++ tx in
      let n = length (r ++ ty) in
      let last = last_register rs (tx ++ ty) I32 ts n (behind_two rs tx ty) b in
      let two = begins_left rs (tx ++ ty) (I32 ∷ []) ts b in
      known_condition x rs hx left (begins_left rs tx ty ts two) (set n (Constant I32 (pos 1))) (before (prepare p bound r y) (set n (truth_result p bound r y))) (sets n (Constant I32 (pos 1)) I32 last one_valid)
      (known_truth y r n hy right (begins_right rs tx ty ts two) last)

  choice_are : (x y z : Expression) (t : PlainType) (rs : Types) → IsScalar (type_of x) → IsScalar t → type_of y ≡ t → type_of z ≡ t → Known x → Known y → Known z
      → Begins (rs ++ (takes p x ++ takes p y ++ takes p z ++ value_type (type_of y) ∷ [])) ts
      → Are (before (prepare p bound rs x) (one (If (condition_result p bound rs x)
      (before (prepare p bound (rs ++ takes p x) y) (set (length (rs ++ takes p x ++ takes p y ++ takes p z)) (result p bound (rs ++ takes p x) y)))
      (before (prepare p bound (rs ++ takes p x ++ takes p y) z) (set (length (rs ++ takes p x ++ takes p y ++ takes p z)) (result p bound (rs ++ takes p x ++ takes p y) z))))))
  choice_are x y z t rs hx scalar same_y same_z test left right b =
      let tx = takes p x in
      let ty = takes p y in
      let tz = takes p z in
      let r = rs ++ tx in
      let w = r ++ ty in
      let n = length (w ++ tz) in
      let u = value_type (type_of y) in
      let last = last_register rs (tx ++ ty ++ tz) u ts n (behind_three rs tx ty tz) b in
      let all = begins_left rs (tx ++ ty ++ tz) (u ∷ []) ts b in
      let two = begins_left rs (tx ++ ty) tz ts all in
      known_condition x rs hx test (begins_left rs tx ty ts two) (before (prepare p bound r y) (set n (result p bound r y))) (before (prepare p bound w z) (set n (result p bound w z)))
      (known_set y r n (subst IsScalar (sym same_y) scalar) left (begins_right rs tx ty ts two) last)
      (known_set z w n (subst IsScalar (sym same_z) scalar) right (last_begins rs tx ty tz all) (last ∙ ap (λ i. Some (value_type i)) (same_y ∙ sym same_z)))

  -- the object that is assigned to
  target_are : (x : Expression) (rs : Types) → has_object x ≡ true → Known x → Begins (rs ++ object_takes p x) ts → Are (object_setup (is_direct p x) (length (rs ++ takes p x)) (prepare p bound rs x) (origin p bound rs x))
  target_are x rs h k b =
      object_are (is_direct p x) rs (takes p x) (prepare p bound rs x) (origin p bound rs x) b (λ c. (k.prepared rs (HasObject h) c, origin_valid x rs h k.typed k.small k.letters k.light c))

  assign_are : (kept : Bool) (t : PlainType) (x y : Expression) (rs : Types) → Assigns s t y → type_of x ≡ t → type_of y ≡ t → is_place x ≡ true → Known x → Known y
      → Begins (rs ++ assigned_types (scalar_of t) kept (value_type t) x (object_takes p x) (takes p y) (object_takes p y)) ts
      → Are (assigned_setup p bound rs (scalar_of t) kept t x y (object_setup (is_direct p x) (length (rs ++ takes p x)) (prepare p bound rs x) (origin p bound rs x)) (prepare p bound (rs ++ object_takes p x) y)
      (object_setup (is_direct p y) (length (rs ++ object_takes p x ++ takes p y)) (prepare p bound (rs ++ object_takes p x) y) (origin p bound (rs ++ object_takes p x) y)))
  assign_are kept t x y rs (ToScalar k) left same place to from b =
      let tx = object_takes p x in
      let ty = takes p y in
      let r = rs ++ tx in
      let object = object_setup (is_direct p x) (length (rs ++ takes p x)) (prepare p bound rs x) (origin p bound rs x) in
      let other = object_setup (is_direct p y) (length (r ++ ty)) (prepare p bound r y) (origin p bound r y) in
      let whole = subst (λ o. Begins (rs ++ assigned_types o kept (value_type t) x tx ty (object_takes p y)) ts) k.is b in
      let front = begins_left rs (tx ++ ty) (member_type x) ts (kept_front kept rs (tx ++ ty ++ member_type x) (value_type t) whole) in
      let here = begins_left rs tx ty ts front in
      let designates = place_has_object x place in
      let v = known_value y r (subst IsScalar (sym same) k) from (begins_right rs tx ty ts front) in
      subst (λ o. Are (assigned_setup p bound rs o kept t x y object (prepare p bound r y) other)) (sym k.is)
      (scalar_assigned_are k.scalar kept t x y rs object (prepare p bound r y) other to.typed (object_points p ts bound s knows x rs designates to.typed here) (target_are x rs designates to here) v.0
      (subst (λ u. Is (result p bound r y) (value_type u)) same v.1) whole)
  assign_are kept t x y rs (ToStruct struct known object) left same place to from b =
      let tx = object_takes p x in
      let ty = object_takes p y in
      let r = rs ++ tx in
      let is = struct_no_scalar t struct in
      let front = object_setup (is_direct p x) (length (rs ++ takes p x)) (prepare p bound rs x) (origin p bound rs x) in
      let other = object_setup (is_direct p y) (length (r ++ takes p y)) (prepare p bound r y) (origin p bound r y) in
      let whole = subst (λ o. Begins (rs ++ assigned_types o kept (value_type t) x tx (takes p y) ty) ts) is b in
      let here = begins_left rs tx ty ts whole in
      let after = begins_right rs tx ty ts whole in
      let designates = place_has_object x place in
      subst (λ o. Are (assigned_setup p bound rs o kept t x y front (prepare p bound r y) other)) (sym is)
      (struct_assigned_are kept t x y rs front (prepare p bound r y) other struct left same to.typed from.typed (object_points p ts bound s knows x rs designates to.typed here) (object_points p ts bound s knows y r object from.typed after)
      (target_are x rs designates to here) (target_are y r object from after))

  change_are : (kept : Bool) (op : BinOp) (t : PlainType) (x y : Expression) (rs : Types) → is_place x ≡ true → CompoundTypes s op t (type_of y) → has_small_parts p.structs t ≡ true → Known x → Known y
      → Begins (rs ++ kept_types kept (changed_types (is_pure y) (value_type t) x (object_takes p x) (takes p y)) (value_type t)) ts
      → Are (changed_setup p bound rs (is_pure y) kept op t x y (object_setup (is_direct p x) (length (rs ++ takes p x)) (prepare p bound rs x) (origin p bound rs x)) (prepare p bound (rs ++ changed_front p (value_type t) x y) y))
  change_are kept op t x y rs place types small to from b =
      let scalar = compound_scalar s op t (type_of y) types in
      let designates = place_has_object x place in
      let here = changed_begins (is_pure y) rs (value_type t) x (object_takes p x) (takes p y) (kept_front kept rs (changed_types (is_pure y) (value_type t) x (object_takes p x) (takes p y)) (value_type t) b) in
      changed_are (is_pure y) kept op t x y rs (object_setup (is_direct p x) (length (rs ++ takes p x)) (prepare p bound rs x) (origin p bound rs x)) types small from.light to.typed (object_points p ts bound s knows x rs designates to.typed here)
      (target_are x rs designates to here) (λ f c. from.prepared (rs ++ f) (HasValue scalar) c) (λ ws c. result_typed p ts bound s knows y ws scalar from.typed from.small from.letters c) b

  -- `++` and `--`, whose value is given or not
  bump_given_are : (op : BumpOp) (t : PlainType) (x : Expression) (rs : Types) → is_place x ≡ true → CompoundTypes s operator.Add t int_type → has_small_parts p.structs t ≡ true → Known x
      → Begins (rs ++ (object_takes p x ++ member_type x ++ value_type t ∷ [])) ts
      → Are (bumped_setup p bound rs (gives_old op) true op t x (object_setup (is_direct p x) (length (rs ++ takes p x)) (prepare p bound rs x) (origin p bound rs x)))
  bump_given_are op t x rs place types small to b =
      let designates = place_has_object x place in
      let tx = object_takes p x in
      let here = begins_left rs tx (member_type x) ts (begins_left rs (tx ++ member_type x) (value_type t ∷ []) ts b) in
      bumped_are (gives_old op) op t x rs (object_setup (is_direct p x) (length (rs ++ takes p x)) (prepare p bound rs x) (origin p bound rs x)) types small to.typed (object_points p ts bound s knows x rs designates to.typed here)
      (target_are x rs designates to here) b

  bump_acts : (op : BumpOp) (t : PlainType) (x : Expression) (rs : Types) → is_place x ≡ true → CompoundTypes s operator.Add t int_type → has_small_parts p.structs t ≡ true → Known x → Begins (rs ++ (object_takes p x ++ member_type x)) ts
      → Are (bumped_setup p bound rs false false op t x (object_setup (is_direct p x) (length (rs ++ takes p x)) (prepare p bound rs x) (origin p bound rs x)))
  bump_acts op t x rs place types small to b =
      let designates = place_has_object x place in
      let here = begins_left rs (object_takes p x) (member_type x) ts b in
      new_given_are false op t x rs (object_setup (is_direct p x) (length (rs ++ takes p x)) (prepare p bound rs x) (origin p bound rs x)) types small to.typed (object_points p ts bound s knows x rs designates to.typed here)
      (target_are x rs designates to here) b

  -- arguments: what stands before them, and their values
  abbrev ArgumentsAre : Expressions → Type 0
  ArgumentsAre es = (us : List PlainType) (rs : Types) → AreScalar us → HaveTypes us es → Begins (rs ++ all_takes p es) ts → Are (prepare_all p bound rs es) × AreArguments G ts (all_results p bound rs es) (map value_type us)

  following_are : (e : Expression) (es : Expressions) (u : PlainType) (us : List PlainType) (rs : Types) → IsScalar (type_of e) → type_of e ≡ u → Known e → Begins (rs ++ all_takes p (Following e es)) ts
      → (Begins (rs ++ kept_types (keeps_all e es) (takes p e) (value_type (type_of e)) ++ all_takes p es) ts
      → Are (prepare_all p bound (rs ++ kept_types (keeps_all e es) (takes p e) (value_type (type_of e))) es)
      × AreArguments G ts (all_results p bound (rs ++ kept_types (keeps_all e es) (takes p e) (value_type (type_of e))) es) (map value_type us))
      → Are (prepare_all p bound rs (Following e es)) × AreArguments G ts (all_results p bound rs (Following e es)) (map value_type (u ∷ us))
  following_are e es u us rs h same k b f =
      let kept = keeps_all e es in
      let r = length (rs ++ takes p e) in
      let te = kept_types kept (takes p e) (value_type (type_of e)) in
      let v = kept_are kept rs (takes p e) (value_type (type_of e)) (prepare p bound rs e) (result p bound rs e) (begins_left rs te (all_takes p es) ts b) (known_value e rs h k) in
      let rest = f (begins_right rs te (all_takes p es) ts b) in (
        joined (kept_setup kept r (prepare p bound rs e) (result p bound rs e)) (prepare_all p bound (rs ++ te) es) v.0 rest.0,
        (subst (λ t. Is (kept_value kept r (result p bound rs e)) (value_type t)) same v.1, rest.1),
      )

  called_are : (f : Use) (t : PlainType) (es : Expressions) (into : Option ℕ) (rs : Types) → Calls s f t es → weight_of_all es ≤ most_weight → ArgumentsAre es → Begins (rs ++ all_takes p es) ts → TakesValue ts into (result_of t)
      → Are (before (prepare_all p bound rs es) (call p into f es (all_results p bound rs es)))
  called_are f t es into rs c light arguments b takes_it =
      let v = calls f t es c in
      let args = arguments v.types rs v.scalar v.arguments b in
      joined (prepare_all p bound rs es) (call p into f es (all_results p bound rs es)) args.0 (v.valid outcome ls into (all_results p bound rs es) takes_it args.1 (few_parens_results p bound rs es light))

  -- a call whose value a register takes
  value_called_are : (f : Use) (t : PlainType) (es : Expressions) (rs : Types) → IsScalar t → Calls s f t es → weight_of_all es ≤ most_weight → ArgumentsAre es → Begins (rs ++ (all_takes p es ++ value_type t ∷ [])) ts
      → Are (before (prepare_all p bound rs es) (call p (Some (length (rs ++ all_takes p es))) f es (all_results p bound rs es)))
  value_called_are f t es rs scalar c light arguments b =
      let n = length (rs ++ all_takes p es) in
      let reg = last_register rs (all_takes p es) (value_type t) ts n refl b in
      called_are f t es (Some n) rs c light arguments (begins_left rs (all_takes p es) (value_type t ∷ []) ts b) (subst (TakesValue ts (Some n)) (sym (result_scalar t scalar)) reg)

  -- ---- for their effects alone

  abbrev Acts : Expression → Type 0
  Acts e = (rs : Types) → Begins (rs ++ act_takes p e) ts → Are (act p bound rs e)

  -- both, one after the other
  acts_are : (x y : Expression) (rs : Types) → Acts x → Acts y → Begins (rs ++ (act_takes p x ++ act_takes p y)) ts → Are (before (act p bound rs x) (act p bound (rs ++ act_takes p x) y))
  acts_are x y rs h k b =
      let tx = act_takes p x in
      joined (act p bound rs x) (act p bound (rs ++ tx) y) (h rs (begins_left rs tx (act_takes p y) ts b)) (k (rs ++ tx) (begins_right rs tx (act_takes p y) ts b))

  both_act : (x y : Expression) (rs : Types) → IsScalar (type_of x) → (ActHasLetters x → Acts x) → (ValueHasLetters x → Known x) → (ActHasLetters y → Acts y) → Where (is_pure y) (ActHasLetters x) (ValueHasLetters x × ActHasLetters y)
      → Begins (rs ++ (if is_pure y then act_takes p x else takes p x ++ act_takes p y)) ts
      → Are (if is_pure y then act p bound rs x else before (prepare p bound rs x) (one (If (condition_result p bound rs x) (act p bound (rs ++ takes p x) y) NoStatement)))
  both_act x y rs h f test g l b =
      let tx = takes p x in
      let ty = act_takes p y in
      let last = act p bound (rs ++ tx) y in
      either_are (is_pure y) (act p bound rs x) (before (prepare p bound rs x) (one (If (condition_result p bound rs x) last NoStatement))) rs (act_takes p x) (tx ++ ty) (ActHasLetters x) (ValueHasLetters x × ActHasLetters y) (λ m c. f m rs c)
      (λ m c. known_condition x rs h (test m.0) (begins_left rs tx ty ts c) last NoStatement (g m.1 (rs ++ tx) (begins_right rs tx ty ts c)) tt) l b

  either_act : (x y : Expression) (rs : Types) → IsScalar (type_of x) → (ActHasLetters x → Acts x) → (ValueHasLetters x → Known x) → (ActHasLetters y → Acts y) → Where (is_pure y) (ActHasLetters x) (ValueHasLetters x × ActHasLetters y)
      → Begins (rs ++ (if is_pure y then act_takes p x else takes p x ++ act_takes p y)) ts
      → Are (if is_pure y then act p bound rs x else before (prepare p bound rs x) (one (If (condition_result p bound rs x) NoStatement (act p bound (rs ++ takes p x) y))))
  either_act x y rs h f test g l b =
      let tx = takes p x in
      let ty = act_takes p y in
      let last = act p bound (rs ++ tx) y in
      either_are (is_pure y) (act p bound rs x) (before (prepare p bound rs x) (one (If (condition_result p bound rs x) NoStatement last))) rs (act_takes p x) (tx ++ ty) (ActHasLetters x) (ValueHasLetters x × ActHasLetters y) (λ m c. f m rs c)
      (λ m c. known_condition x rs h (test m.0) (begins_left rs tx ty ts c) NoStatement last tt (g m.1 (rs ++ tx) (begins_right rs tx ty ts c))) l b

  choice_act : (x y z : Expression) (rs : Types) → IsScalar (type_of x) → (ActHasLetters x → Acts x) → (ValueHasLetters x → Known x) → (ActHasLetters y → Acts y) → (ActHasLetters z → Acts z)
      → Where (is_pure y && is_pure z) (ActHasLetters x) (ValueHasLetters x × ActHasLetters y × ActHasLetters z)
      → Begins (rs ++ (if is_pure y && is_pure z then act_takes p x else takes p x ++ act_takes p y ++ act_takes p z)) ts
      → Are (if is_pure y && is_pure z then act p bound rs x
      else before (prepare p bound rs x) (one (If (condition_result p bound rs x) (act p bound (rs ++ takes p x) y) (act p bound (rs ++ takes p x ++ act_takes p y) z))))
  choice_act x y z rs h f test g k l b =
      let tx = takes p x in
      let ty = act_takes p y in
      let tz = act_takes p z in
      let r = rs ++ tx in
      let left = act p bound r y in
      let right = act p bound (r ++ ty) z in
      either_are (is_pure y && is_pure z) (act p bound rs x) (before (prepare p bound rs x) (one (If (condition_result p bound rs x) left right))) rs (act_takes p x) (tx ++ ty ++ tz) (ActHasLetters x)
      (ValueHasLetters x × ActHasLetters y × ActHasLetters z) (λ m c. f m rs c)
      (λ m c.
      let two = begins_left rs (tx ++ ty) tz ts c in
      known_condition x rs h (test m.0) (begins_left rs tx ty ts two) left right (g m.1 r (begins_right rs tx ty ts two)) (k m.2 (r ++ ty) (last_begins rs tx ty tz c))) l b

  -- ---- all expressions

  mutual
    pub prepare_valid : (e : Expression) → WellTyped s e → TypesSmall p.structs e → ValueHasLetters e → weight_of e ≤ most_weight → (rs : Types) → IsEvaluated e → Begins (rs ++ takes p e) ts → Are (prepare p bound rs e)
    prepare_valid (Node at t (Unary prefix.Deref a)) q parts l light rs h b = prepare_valid a q.0 parts.1 l (omega (arith, light)) rs (HasValue (pointer_scalar (type_of a) t q.1)) b
    prepare_valid (Node at t (Unary prefix.Address a)) q parts l light rs h b = prepare_valid a q.0 parts.1 l (omega (arith, light)) rs (HasObject (place_has_object a q.1)) b
    prepare_valid (Node at t (Unary prefix.Plus a)) q parts l light rs h b = prepare_valid a q.0 parts.1 l (omega (arith, light)) rs (HasValue (promoted_scalar (type_of a) q.1)) b
    prepare_valid (Node at t (Unary prefix.Minus a)) q parts l light rs h b = prepare_valid a q.0 parts.1 l (omega (arith, light)) rs (HasValue (promoted_scalar (type_of a) q.1)) b
    prepare_valid (Node at t (Unary prefix.Flip a)) q parts l light rs h b = prepare_valid a q.0 parts.1 l (omega (arith, light)) rs (HasValue (promoted_scalar (type_of a) q.1)) b
    prepare_valid (Node at t (Unary prefix.Not a)) q parts l light rs h b = prepare_valid a q.0 parts.1 l (omega (arith, light)) rs (HasValue q.1) b
    prepare_valid (Node at t (Binary op x y)) q parts l light rs h b =
        let k = operands_scalar s op t (type_of x) (type_of y) q.2 in
        two_are x y rs k.0 k.1 (known_as x q.0 parts.1.0 l.0 (omega (arith, light)) (prepare_valid x)) (known_as y q.1 parts.1.1 l.1 (omega (arith, light)) (prepare_valid y)) b
    prepare_valid (Node at t (Index x y)) q parts l light rs h b =
        let k = index_scalar s t (type_of x) (type_of y) q.2 in
        two_are x y rs k.0 k.1 (known_as x q.0 parts.1.0 l.0 (omega (arith, light)) (prepare_valid x)) (known_as y q.1 parts.1.1 l.1 (omega (arith, light)) (prepare_valid y)) b
    prepare_valid (Node at t (Dot a m)) q parts l light rs h b = prepare_valid a q.0 parts.1 l (omega (arith, light)) rs (HasObject q.1) b
    prepare_valid (Node at t (Arrow a m)) q parts l light rs h b = prepare_valid a q.0 parts.1 l (omega (arith, light)) rs (HasValue (pointer_scalar (type_of a) q.1.target q.1.is)) b
    prepare_valid (Node at t (Both x y)) q parts l light rs h b =
        both_are x y rs q.2 q.3 (known_as x q.0 parts.1.0 l.0 (omega (arith, light)) (prepare_valid x)) (known_as y q.1 parts.1.1 l.1 (omega (arith, light)) (prepare_valid y)) b
    prepare_valid (Node at t (Either x y)) q parts l light rs h b =
        either_of_two_are x y rs q.2 q.3 (known_as x q.0 parts.1.0 l.0 (omega (arith, light)) (prepare_valid x)) (known_as y q.1 parts.1.1 l.1 (omega (arith, light)) (prepare_valid y)) b
    prepare_valid (Node at t (Choice x y z)) q parts l light rs h b =
        choice_are x y z t rs q.3 (evaluated_scalar (Node at t (Choice x y z)) refl h) q.4 q.5 (known_as x q.0 parts.1.0 l.0 (omega (arith, light)) (prepare_valid x)) (known_as y q.1 parts.1.1 l.1 (omega (arith, light)) (prepare_valid y))
        (known_as z q.2 parts.1.2 l.2 (omega (arith, light)) (prepare_valid z)) b
    prepare_valid (Node at t (Assign None x y)) q parts l light rs h b =
        assign_are (not (is_settled y)) t x y rs q.5 q.3 q.4 q.2 (known_as x q.0 parts.1.0 l.0 (omega (arith, light)) (prepare_valid x)) (known_as y q.1 parts.1.1 l.1 (omega (arith, light)) (prepare_valid y)) b
    prepare_valid (Node at t (Assign (Some op) x y)) q parts l light rs h b =
        change_are true op t x y rs q.2 q.4 parts.0 (known_as x q.0 parts.1.0 l.0 (omega (arith, light)) (prepare_valid x)) (known_as y q.1 parts.1.1 l.1 (omega (arith, light)) (prepare_valid y)) b
    prepare_valid (Node at t (Bump op a)) q parts l light rs h b = bump_given_are op t a rs q.1 q.3 parts.0 (known_as a q.0 parts.1 l (omega (arith, light)) (prepare_valid a)) b
    prepare_valid (Node at t (Call f es)) q parts l light rs h b = value_called_are f t es rs (evaluated_scalar (Node at t (Call f es)) refl h) q.1 (omega (arith, light)) (arguments_valid es q.0 parts.1 l (omega (arith, light))) b
    prepare_valid (Node at t (Cast to a)) q parts l light rs h b =
        prepare_valid a q.0 parts.1 l (omega (arith, light)) rs (operand_evaluated s to a (subst IsScalar q.1 (evaluated_scalar (Node at t (Cast to a)) refl h)) q.2) b
    prepare_valid (Node at t (Comma a c)) q parts l light rs h b =
        let ta = act_takes p a in
        joined (act p bound rs a) (prepare p bound (rs ++ ta) c) (act_valid a q.0 parts.1.0 l.0 (omega (arith, light)) rs (begins_left rs ta (takes p c) ts b))
        (prepare_valid c q.1 parts.1.1 l.1 (omega (arith, light)) (rs ++ ta) (behind_comma at t a c q.2 h) (begins_right rs ta (takes p c) ts b))
    prepare_valid (Node at t (Number z k)) q parts l light rs h b = tt
    prepare_valid (Node at t (Letter z)) q parts l light rs h b = tt
    prepare_valid (Node at t (Variable x)) q parts l light rs h b = tt
    prepare_valid (Node at t (SizeOfType v)) q parts l light rs h b = tt
    prepare_valid (Node at t (SizeOfExpr a)) q parts l light rs h b = tt
    prepare_valid (Node at t (Text n)) q parts l light rs h b = tt

    -- arguments, from left to right
    arguments_valid : (es : Expressions) → AreWellTyped s es → AllTypesSmall p.structs es → ValuesHaveLetters es → weight_of_all es ≤ most_weight → ArgumentsAre es
    arguments_valid NoExpression q parts l light [] rs scalar types b = (tt, tt)
    arguments_valid NoExpression q parts l light (u ∷ us) rs scalar types b = absurd types
    arguments_valid (Following e es) q parts l light [] rs scalar types b = absurd types
    arguments_valid (Following e es) q parts l light (u ∷ us) rs scalar types b =
        following_are e es u us rs (subst IsScalar (sym types.0) scalar.0) types.0 (known_as e q.0 parts.0 l.0 (omega (arith, light)) (prepare_valid e)) b
        (arguments_valid es q.1 parts.1 l.1 (omega (arith, light)) us (rs ++ kept_types (keeps_all e es) (takes p e) (value_type (type_of e))) scalar.1 types.1)

    pub act_valid : (e : Expression) → WellTyped s e → TypesSmall p.structs e → ActHasLetters e → weight_of e ≤ most_weight → (rs : Types) → Begins (rs ++ act_takes p e) ts → Are (act p bound rs e)
    act_valid (Node at t (Unary prefix.Deref a)) q parts l light rs b = act_valid a q.0 parts.1 l (omega (arith, light)) rs b
    act_valid (Node at t (Unary prefix.Address a)) q parts l light rs b = act_valid a q.0 parts.1 l (omega (arith, light)) rs b
    act_valid (Node at t (Unary prefix.Plus a)) q parts l light rs b = act_valid a q.0 parts.1 l (omega (arith, light)) rs b
    act_valid (Node at t (Unary prefix.Minus a)) q parts l light rs b = act_valid a q.0 parts.1 l (omega (arith, light)) rs b
    act_valid (Node at t (Unary prefix.Flip a)) q parts l light rs b = act_valid a q.0 parts.1 l (omega (arith, light)) rs b
    act_valid (Node at t (Unary prefix.Not a)) q parts l light rs b = act_valid a q.0 parts.1 l (omega (arith, light)) rs b
    act_valid (Node at t (Binary op x y)) q parts l light rs b = acts_are x y rs (act_valid x q.0 parts.1.0 l.0 (omega (arith, light))) (act_valid y q.1 parts.1.1 l.1 (omega (arith, light))) b
    act_valid (Node at t (Index x y)) q parts l light rs b = acts_are x y rs (act_valid x q.0 parts.1.0 l.0 (omega (arith, light))) (act_valid y q.1 parts.1.1 l.1 (omega (arith, light))) b
    act_valid (Node at t (Comma x y)) q parts l light rs b = acts_are x y rs (act_valid x q.0 parts.1.0 l.0 (omega (arith, light))) (act_valid y q.1 parts.1.1 l.1 (omega (arith, light))) b
    act_valid (Node at t (Dot a m)) q parts l light rs b = act_valid a q.0 parts.1 l (omega (arith, light)) rs b
    act_valid (Node at t (Arrow a m)) q parts l light rs b = act_valid a q.0 parts.1 l (omega (arith, light)) rs b
    act_valid (Node at t (Cast to a)) q parts l light rs b = act_valid a q.0 parts.1 l (omega (arith, light)) rs b
    act_valid (Node at t (Both x y)) q parts l light rs b =
        both_act x y rs q.2 (λ m. act_valid x q.0 parts.1.0 m (omega (arith, light))) (λ m. known_as x q.0 parts.1.0 m (omega (arith, light)) (prepare_valid x)) (λ m. act_valid y q.1 parts.1.1 m (omega (arith, light))) l b
    act_valid (Node at t (Either x y)) q parts l light rs b =
        either_act x y rs q.2 (λ m. act_valid x q.0 parts.1.0 m (omega (arith, light))) (λ m. known_as x q.0 parts.1.0 m (omega (arith, light)) (prepare_valid x)) (λ m. act_valid y q.1 parts.1.1 m (omega (arith, light))) l b
    act_valid (Node at t (Choice x y z)) q parts l light rs b =
        choice_act x y z rs q.3 (λ m. act_valid x q.0 parts.1.0 m (omega (arith, light))) (λ m. known_as x q.0 parts.1.0 m (omega (arith, light)) (prepare_valid x)) (λ m. act_valid y q.1 parts.1.1 m (omega (arith, light)))
        (λ m. act_valid z q.2 parts.1.2 m (omega (arith, light))) l b
    act_valid (Node at t (Assign None x y)) q parts l light rs b =
        assign_are false t x y rs q.5 q.3 q.4 q.2 (known_as x q.0 parts.1.0 l.0 (omega (arith, light)) (prepare_valid x)) (known_as y q.1 parts.1.1 l.1 (omega (arith, light)) (prepare_valid y)) b
    act_valid (Node at t (Assign (Some op) x y)) q parts l light rs b =
        change_are false op t x y rs q.2 q.4 parts.0 (known_as x q.0 parts.1.0 l.0 (omega (arith, light)) (prepare_valid x)) (known_as y q.1 parts.1.1 l.1 (omega (arith, light)) (prepare_valid y)) b
    act_valid (Node at t (Bump op a)) q parts l light rs b = bump_acts op t a rs q.1 q.3 parts.0 (known_as a q.0 parts.1 l (omega (arith, light)) (prepare_valid a)) b
    act_valid (Node at t (Call f es)) q parts l light rs b = called_are f t es None rs q.1 (omega (arith, light)) (arguments_valid es q.0 parts.1 l (omega (arith, light))) b tt
    act_valid (Node at t (Number z k)) q parts l light rs b = tt
    act_valid (Node at t (Letter z)) q parts l light rs b = tt
    act_valid (Node at t (Variable x)) q parts l light rs b = tt
    act_valid (Node at t (SizeOfType v)) q parts l light rs b = tt
    act_valid (Node at t (SizeOfExpr a)) q parts l light rs b = tt
    act_valid (Node at t (Text n)) q parts l light rs b = tt

  -- ---- full expressions

  -- what stands in front, and the value
  pub record FullValid (rs : Types) (e : Expression) : Type 0 where
    pub setup : Are (prepare p bound rs e)
    pub value : Is (result p bound rs e) (value_type (type_of e))

  pub full_valid : (e : Expression) (rs : Types) → IsScalar (type_of e) → WellTyped s e → TypesSmall p.structs e → ValueHasLetters e → weight_of e ≤ most_weight → Begins (rs ++ takes p e) ts → FullValid rs e
  full_valid e rs h q parts l light b = record { setup = prepare_valid e q parts l light rs (HasValue h) b; value = value_valid e rs h q parts l light b }

  -- the value is stored where a register points
  pub assigned_valid : (r : ℕ) (t : PlainType) (e : Expression) (rs : Types) → slice_get ts r ≡ Some Ptr → type_of e ≡ t → IsScalar t → WellTyped s e → TypesSmall p.structs e → ValueHasLetters e → weight_of e ≤ most_weight
      → Begins (rs ++ takes p e) ts
      → Are (before (prepare p bound rs e) (store r t (result p bound rs e)))
  assigned_valid r t e rs points same h q parts l light b =
      let v = full_valid e rs (subst IsScalar (sym same) h) q parts l light b in
      joined (prepare p bound rs e) (store r t (result p bound rs e)) v.setup (store_valid r t (result p bound rs e) points (subst (λ u. Is (result p bound rs e) (value_type u)) same v.value))
