-- Expressions without effects leave the state of the source as it is, and give values of the kind that their types have.
use Rattle.std.proofs.Common.{◌≡◌, ℕ, ℤ, pos, Bool, true, false, cond, ◌&&◌, if◌then◌else◌, Option, Some, None, option_map, refl, ap, sym, subst, ◌∙◌, List, true≢false}
use Rattle.c_syntax.specs.declared.place.Place.{Place}
use Rattle.c_syntax.specs.declared.expression.BinOp.{BinOp}
use Rattle.c_syntax.specs.declared.expression.BinOp.TheVariants as operator
use Rattle.c_syntax.specs.declared.expression.Use.{Use}
use Rattle.c_syntax.specs.declared.expression.UnOp.{UnOp}
use Rattle.c_syntax.specs.declared.expression.UnOp.TheVariants as prefix
use Rattle.c_syntax.specs.declared.types.CInt.{CInt}
use Rattle.c_syntax.specs.declared.types.CInt.TheVariants.{I32, I64, U64}
use Rattle.c_syntax.specs.Ctypes.{PlainType, Int, Ptr, Array, Void, int_type}
use Rattle.c_syntax.specs.Expressions.{Expression, Node, Number, Letter, Variable, Unary, Binary, Both, Either, Choice, Assign, Bump, Call, Cast, SizeOfType, SizeOfExpr, Text, Index, Dot, Arrow, Comma, place_of, type_of}
use Rattle.c_syntax.specs.Layouts.{Scalar, IntegerType, PointerType, scalar_of, scalar_size, offset_of, target_of}
use Rattle.c_model.specs.Conversions.{is_relation}
use Rattle.c_model.specs.Integers.{operate, operate_one, truth, value_of_bits}
use Rattle.c_model.specs.Memory.{◌>>=◌ as memory_then, Store, Byte, Pointer, Null, Into, Value, Integer, Points, NoValue, load, load_bytes, value_from, pointer_of, number_of, moved, shifted, tested_value, distance, equal_pointers}
use Rattle.c_model.specs.State.{State, Outcome, Normal, Stop, Over, Undefined, Evaluation, on_outcome, ◌>>=◌, give, stop, defined, computed, tested, read_any, find, start_of}
use Rattle.c_model.specs.Meaning.{Tables, Callee, eval_with, place_with, condition_of, is_zero, choose, truth_value, operate_value, operate_values}
use Rattle.c_model.specs.Meaning.{pointer_and_integer, integer_and_pointer, two_pointers, elements_between, unit_of, converted, named, is_pointer, is_of_library, is_array, is_member, address, pointed_to, literal, indexed}
use Rattle.c_model.specs.ExpressionTyping.{Sight}
use Rattle.c_model.specs.Pure.{IsPure}
use Rattle.c_model.specs.TypedTrees.{WellTyped, BinaryTypes, OfIntegers, OfPointerAndInteger, OfIntegerAndPointer, OfDifference, OfPointers, CastTypes, ToVoid, OfInteger, OfPointer, OfNullConstant, OfArray}

-- a value of a scalar type, or any where the type has none
abbrev pub HasKind : Option Scalar → Value → Type 0
HasKind None v = Unit {0}
HasKind (Some (IntegerType k)) v = (z : ℤ) × (v ≡ Integer z)
HasKind (Some PointerType) v = (p : Pointer) × (v ≡ Points p)

abbrev pub Any : {A : Type 0} → A → Type 0
Any a = Unit {0}

-- a value and the same state, or an undefined operation there
pub data Quiet {A : Type 0} (P : A → Type 0) (s : State) (r : Outcome A) : Type 0 where
  Gives : (a : A) → P a → r ≡ Normal a s → Quiet P s r
  IsUndefined : (at : Place) → r ≡ Stop (Over (Undefined at)) s → Quiet P s r

pub quiet_then : {A B : Type 0} (P : A → Type 0) (Q : B → Type 0) (s : State) (r : Outcome A) (f : A → Evaluation B) → Quiet P s r → ((a : A) → P a → Quiet Q s (f a s)) → Quiet Q s (on_outcome r f)
quiet_then P Q s r f (IsUndefined at e) h = IsUndefined at (ap (λ r. on_outcome r f) e)
quiet_then P Q s r f (Gives a p e) h = by (h a p)
  where
    by : Quiet Q s (f a s) → Quiet Q s (on_outcome r f)
    by (Gives b q g) = Gives b q (ap (λ r. on_outcome r f) e ∙ g)
    by (IsUndefined at g) = IsUndefined at (ap (λ r. on_outcome r f) e ∙ g)

pub quiet_defined : {A : Type 0} (P : A → Type 0) (at : Place) (o : Option A) (s : State) → ((a : A) → o ≡ Some a → P a) → Quiet P s (defined at o s)
quiet_defined P at None s h = IsUndefined at refl
quiet_defined P at (Some a) s h = Gives a (h a refl) refl

-- ---- kinds of values

pub integers : (t : PlainType) (k : CInt) (v : Value) (z : ℤ) → t ≡ Int k → v ≡ Integer z → HasKind (scalar_of t) v
integers t k v z is e = subst (λ u. HasKind (scalar_of u) v) (sym is) (z, e)

pub pointers : (t u : PlainType) (v : Value) (p : Pointer) → t ≡ Ptr u → v ≡ Points p → HasKind (scalar_of t) v
pointers t u v p is e = subst (λ u. HasKind (scalar_of u) v) (sym is) (p, e)

pub integer_of : (t : PlainType) (k : CInt) (v : Value) → t ≡ Int k → HasKind (scalar_of t) v → (z : ℤ) × (v ≡ Integer z)
integer_of t k v is h = subst (λ u. HasKind (scalar_of u) v) is h

pub pointer_in : (t u : PlainType) (v : Value) → t ≡ Ptr u → HasKind (scalar_of t) v → (p : Pointer) × (v ≡ Points p)
pointer_in t u v is h = subst (λ u. HasKind (scalar_of u) v) is h

mapped_integer : (o : Option ℤ) (v : Value) → option_map Integer o ≡ Some v → (z : ℤ) × (v ≡ Integer z)
mapped_integer None v e = absurd cc
mapped_integer (Some z) v e = (z, cc)

mapped_pointer : (o : Option Pointer) (v : Value) → option_map Points o ≡ Some v → (p : Pointer) × (v ≡ Points p)
mapped_pointer None v e = absurd cc
mapped_pointer (Some p) v e = (p, cc)

mapped_truth : {A : Type 0} (f : A → ℤ) (o : Option A) (v : Value) → option_map (λ a. Integer (f a)) o ≡ Some v → (z : ℤ) × (v ≡ Integer z)
mapped_truth f None v e = absurd cc
mapped_truth f (Some a) v e = (f a, cc)

from_kind : (k : Scalar) (bytes : List Byte) (v : Value) → value_from k bytes ≡ Some v → HasKind (Some k) v
from_kind PointerType bytes v e = mapped_pointer (pointer_of bytes) v e
from_kind (IntegerType k) bytes v e = by (number_of bytes) e
  where
    by : (o : Option ℕ) → option_map (λ n. Integer (value_of_bits k n)) o ≡ Some v → HasKind (Some (IntegerType k)) v
    by None e = absurd cc
    by (Some n) e = (value_of_bits k n, cc)

pub load_kind : (store : Store) (p : Pointer) (k : Scalar) (v : Value) → load store p k ≡ Some v → HasKind (Some k) v
load_kind store p k v e = by (load_bytes store p (scalar_size k)) refl
  where
    by : (o : Option (List Byte)) → load_bytes store p (scalar_size k) ≡ o → HasKind (Some k) v
    by None l = let no = ap (λ o. memory_then o (value_from k)) (sym l) ∙ e in absurd cc
    by (Some bytes) l = from_kind k bytes v (ap (λ o. memory_then o (value_from k)) (sym l) ∙ e)

-- ---- operators

farther_kind : (unit : ℕ) (op : BinOp) (store : Store) (p : Pointer) (i : ℤ) (v : Value) → pointer_and_integer unit op store p i ≡ Some v → (q : Pointer) × (v ≡ Points q)
farther_kind unit operator.Add store p i v e = mapped_pointer _ v e
farther_kind unit operator.Sub store p i v e = mapped_pointer _ v e
farther_kind unit _ store p i v e = absurd cc

swapped_kind : (unit : ℕ) (op : BinOp) (store : Store) (i : ℤ) (p : Pointer) (v : Value) → integer_and_pointer unit op store i p ≡ Some v → (q : Pointer) × (v ≡ Points q)
swapped_kind unit operator.Add store i p v e = mapped_pointer _ v e
swapped_kind unit _ store i p v e = absurd cc

between_kind : (unit : ℕ) (o : Option ℤ) (v : Value) → elements_between unit o ≡ Some v → (z : ℤ) × (v ≡ Integer z)
between_kind unit None v e = absurd cc
between_kind unit (Some d) v e = mapped_integer _ v e

two_kind : (unit : ℕ) (op : BinOp) (store : Store) (p q : Pointer) (v : Value) → two_pointers unit op store p q ≡ Some v → (z : ℤ) × (v ≡ Integer z)
two_kind unit operator.Sub store p q v e = between_kind unit (distance store p q) v e
two_kind unit operator.Eq store p q v e = mapped_truth _ (equal_pointers store p q) v e
two_kind unit operator.Ne store p q v e = mapped_truth _ (equal_pointers store p q) v e
two_kind unit operator.Lt store p q v e = mapped_truth _ (distance store p q) v e
two_kind unit operator.Le store p q v e = mapped_truth _ (distance store p q) v e
two_kind unit operator.Gt store p q v e = mapped_truth _ (distance store p q) v e
two_kind unit operator.Ge store p q v e = mapped_truth _ (distance store p q) v e
two_kind unit _ store p q v e = absurd cc

-- an operator gives a value of its type
pub binary_kind : (s : Sight) (unit : ℕ) (t u v : PlainType) (op : BinOp) (store : Store) (x y z : Value) → BinaryTypes s op t u v → HasKind (scalar_of u) x → HasKind (scalar_of v) y
    → operate_values unit t op store x y ≡ Some z → HasKind (scalar_of t) z
binary_kind s unit t u v op store x y z (OfIntegers i) hx hy e =
    let a = integer_of u _ x i.left.is hx in
    let b = integer_of v _ y i.right.is hy in
    let made = mapped_integer (operate t op a.0 b.0) z (sym (λ j. operate_values unit t op store (a.1 j) (b.1 j)) ∙ e) in
    result (is_relation op) i.result made
  where
    result : (relation : Bool) → t ≡ cond relation int_type u → (n : ℤ) × (z ≡ Integer n) → HasKind (scalar_of t) z
    result true is made = integers t I32 z made.0 is made.1
    result false is made = integers t _ z made.0 (is ∙ i.left.is) made.1
binary_kind s unit t u v op store x y z (OfPointerAndInteger step p i is) hx hy e =
    let a = pointer_in u _ x p.is hx in
    let b = integer_of v _ y i.is hy in
    let made = farther_kind unit op store a.0 b.0 z (sym (λ j. operate_values unit t op store (a.1 j) (b.1 j)) ∙ e) in
    pointers t p.target z made.0 (is ∙ p.is) made.1
binary_kind s unit t u v op store x y z (OfIntegerAndPointer step i p is) hx hy e =
    let a = integer_of u _ x i.is hx in
    let b = pointer_in v _ y p.is hy in
    let made = swapped_kind unit op store a.0 b.0 z (sym (λ j. operate_values unit t op store (a.1 j) (b.1 j)) ∙ e) in
    pointers t p.target z made.0 (is ∙ p.is) made.1
binary_kind s unit t u v op store x y z (OfDifference difference p same is) hx hy e =
    let a = pointer_in u _ x p.is hx in
    let b = pointer_in v _ y (same ∙ p.is) hy in
    let made = two_kind unit op store a.0 b.0 z (sym (λ j. operate_values unit t op store (a.1 j) (b.1 j)) ∙ e) in
    integers t I64 z made.0 is made.1
binary_kind s unit t u v op store x y z (OfPointers relation p q is) hx hy e =
    let a = pointer_in u _ x p.is hx in
    let b = pointer_in v _ y q.is hy in
    let made = two_kind unit op store a.0 b.0 z (sym (λ j. operate_values unit t op store (a.1 j) (b.1 j)) ∙ e) in
    integers t I32 z made.0 is made.1

pub one_kind : (t u : PlainType) (k : CInt) (op : UnOp) (x z : Value) → u ≡ Int k → t ≡ u → HasKind (scalar_of u) x → operate_value t op x ≡ Some z → HasKind (scalar_of t) z
one_kind t u k op x z is same h e =
    let a = integer_of u k x is h in
    let made = mapped_integer (operate_one t op a.0) z (sym (ap (operate_value t op) a.1) ∙ e) in
    integers t k z made.0 (same ∙ is) made.1

-- a name's value
pointer_kind : (t : PlainType) → is_pointer t ≡ true → HasKind (scalar_of t) (Points Null)
pointer_kind (Ptr t) e = (Null, refl)
pointer_kind _ e = absurd cc

left_true : (a b : Bool) → a && b ≡ true → a ≡ true
left_true true b e = refl
left_true false b e = absurd cc

-- ---- quiet parts

pub quiet_read : (at : Place) (p : Pointer) (k : Option Scalar) (s : State) → Quiet (HasKind k) s (read_any at p k s)
quiet_read at p None s = Gives NoValue tt refl
quiet_read at p (Some k) s = quiet_defined (HasKind (Some k)) at (load s.store p k) s (load_kind s.store p k)

pub quiet_named : (at : Place) (t : PlainType) (x : Use) (o : Option ℕ) (s : State) → Quiet (HasKind (scalar_of t)) s (named at t x o s)
quiet_named at t x (Some n) s = quiet_read at (Into n 0) (scalar_of t) s
quiet_named at t x None s = by (is_pointer t && is_of_library x) refl
  where
    by : (b : Bool) → is_pointer t && is_of_library x ≡ b → Quiet (HasKind (scalar_of t)) s (cond b (give (Points Null)) (stop (Over (Undefined at))) s)
    by true e = Gives (Points Null) (pointer_kind t (left_true (is_pointer t) (is_of_library x) e)) refl
    by false e = IsUndefined at refl

pub quiet_tested : (at : Place) (P : Value → Type 0) (s : State) (r : Outcome Value) → Quiet P s r → Quiet Any s (on_outcome r (tested at))
quiet_tested at P s r h = quiet_then P Any s r (tested at) h (λ v p. quiet_defined Any at (tested_value s.store v) s (λ a e. tt))

abbrev pub IsPointed : Value → Type 0
IsPointed v = (p : Pointer) × (v ≡ Points p)

pub quiet_pointed : (s : State) (r : Outcome Value) → Quiet IsPointed s r → Quiet Any s (on_outcome r pointed_to)
quiet_pointed s r h = quiet_then IsPointed Any s r pointed_to h (λ v p. Gives p.0 tt (ap (λ v. pointed_to v s) p.1))

pub quiet_address : (e : Expression) (p : Pointer) (s : State) → Quiet IsPointed s (address e p s)
quiet_address e p s = by (is_member e)
  where
    by : (b : Bool) → Quiet IsPointed s ((if b then computed (place_of e) (λ store. option_map Points (moved store p (pos 0))) else give (Points p)) s)
    by true = quiet_defined IsPointed (place_of e) (option_map Points (moved s.store p (pos 0))) s (mapped_pointer (moved s.store p (pos 0)))
    by false = Gives (Points p) (p, refl) refl

pub quiet_choice : {A : Type 0} (P : A → Type 0) (s : State) (v : Value) (a b : Evaluation A) → Quiet P s (a s) → Quiet P s (b s) → Quiet P s (choose v a b s)
quiet_choice P s v a b h g = by (is_zero v)
  where
    by : (t : Bool) → Quiet P s (cond t b a s)
    by true = g
    by false = h

pub as_kind : (P Q : Value → Type 0) (s : State) (r : Outcome Value) → ((v : Value) → P v → Q v) → Quiet P s r → Quiet Q s r
as_kind P Q s r f (Gives v p e) = Gives v (f v p) e
as_kind P Q s r f (IsUndefined at e) = IsUndefined at e

pub not_array : (t : PlainType) (k : Scalar) → scalar_of t ≡ Some k → is_array t ≡ false
not_array (Array t n) k e = absurd cc
not_array _ k e = refl

-- ---- expressions

module _ (T : Tables) (call : Callee) (sight : Sight) (s : State) where
  abbrev GivesKind : Expression → Type 0
  GivesKind e = Quiet (HasKind (scalar_of (type_of e))) s (eval_with T e call s)

  abbrev GivesPlace : Expression → Type 0
  GivesPlace e = Quiet Any s (place_with T e call s)

  cast_kind : (at : Place) (t to : PlainType) (a : Expression) → t ≡ to → CastTypes sight to a → GivesKind a → GivesPlace a → GivesKind (Node at t (Cast to a))
  cast_kind at t to a same types value place = by types (is_array (type_of a)) refl
    where
      taken : Quiet IsPointed s ((place_with T a call >>= address a) s)
      taken = quiet_then Any IsPointed s (place_with T a call s) (address a) place (λ p q. quiet_address a p s)

      given : (P : Value → Type 0) → ((v : Value) → HasKind (scalar_of (type_of a)) v → P (converted to v)) → Quiet P s ((eval_with T a call >>= λ x. give (converted to x)) s)
      given P f = quiet_then (HasKind (scalar_of (type_of a))) P s (eval_with T a call s) (λ x. give (converted to x)) value (λ v h. Gives (converted to v) (f v h) refl)

      void : (v : Value) → t ≡ Void → HasKind (scalar_of t) v
      void v is = subst (λ u. HasKind (scalar_of u) v) (sym is) tt

      from_pointer : (v : Value) (u : PlainType) → to ≡ Ptr u → (p : Pointer) × (v ≡ Points p) → HasKind (scalar_of t) (converted to v)
      from_pointer v u is p = pointers t u (converted to v) p.0 (same ∙ is) ((λ i. converted (is i) (p.1 i)))

      by : CastTypes sight to a → (b : Bool) → is_array (type_of a) ≡ b
          → Quiet (HasKind (scalar_of t)) s (cond b (place_with T a call >>= address a) (eval_with T a call >>= λ x. give (converted to x)) s)
      by (ToVoid is) true e = as_kind IsPointed (HasKind (scalar_of t)) s _ (λ v p. void v (same ∙ is)) taken
      by (ToVoid is) false e = given (HasKind (scalar_of t)) (λ v h. void (converted to v) (same ∙ is))
      by (OfInteger p q) true e = absurd (true≢false (sym e ∙ not_array (type_of a) (IntegerType q.int) (ap scalar_of q.is)))
      by (OfInteger p q) false e =
          given (HasKind (scalar_of t)) (λ v h. let z = integer_of (type_of a) q.int v q.is h in
          integers t p.int (converted to v) _ (same ∙ p.is) (λ i. converted (p.is i) (z.1 i)))
      by (OfPointer p q) true e = absurd (true≢false (sym e ∙ not_array (type_of a) PointerType (ap scalar_of q.is)))
      by (OfPointer p q) false e = given (HasKind (scalar_of t)) (λ v h. from_pointer v p.target p.is (pointer_in (type_of a) q.target v q.is h))
      by (OfNullConstant p q n) true e = absurd (true≢false (sym e ∙ not_array (type_of a) (IntegerType q.int) (ap scalar_of q.is)))
      by (OfNullConstant p q n) false e =
          given (HasKind (scalar_of t)) (λ v h. let z = integer_of (type_of a) q.int v q.is h in
          pointers t p.target (converted to v) Null (same ∙ p.is) (λ i. converted (p.is i) (z.1 i)))
      by (OfArray u m is array object) true e = as_kind IsPointed (HasKind (scalar_of t)) s _ (λ v p. pointers t u v p.0 (same ∙ is) p.1) taken
      by (OfArray u m is array object) false e = absurd (true≢false (sym (ap is_array array) ∙ e))

  one : (at : Place) (t : PlainType) (op : UnOp) (a : Expression) (k : CInt) → type_of a ≡ Int k → t ≡ type_of a → GivesKind a
      → Quiet (HasKind (scalar_of t)) s (on_outcome (eval_with T a call s) (λ x. defined at (operate_value t op x)))
  one at t op a k is same h =
      quiet_then (HasKind (scalar_of (type_of a))) (HasKind (scalar_of t)) s (eval_with T a call s) (λ x. defined at (operate_value t op x)) h
      (λ x hx. quiet_defined (HasKind (scalar_of t)) at (operate_value t op x) s (λ z e. one_kind t (type_of a) k op x z is same hx e))

  tests : (a : Expression) → GivesKind a → Quiet Any s (condition_of T a call s)
  tests a h = quiet_tested (place_of a) (HasKind (scalar_of (type_of a))) s (eval_with T a call s) h

  second : (at : Place) (t : PlainType) (b : Expression) → t ≡ int_type → GivesKind b → Quiet (HasKind (scalar_of t)) s ((condition_of T b call >>= λ v. give (truth_value v)) s)
  second at t b is h =
      quiet_then Any (HasKind (scalar_of t)) s (condition_of T b call s) (λ v. give (truth_value v)) (tests b h) (λ v h. Gives (truth_value v) (integers t I32 (truth_value v) _ is refl) refl)

  pointed : (a : Expression) (u : PlainType) → type_of a ≡ Ptr u → GivesKind a → Quiet IsPointed s (eval_with T a call s)
  pointed a u is h = as_kind (HasKind (scalar_of (type_of a))) IsPointed s (eval_with T a call s) (λ v k. pointer_in (type_of a) u v is k) h

  points : (a : Expression) (u : PlainType) → type_of a ≡ Ptr u → GivesKind a → Quiet Any s (on_outcome (eval_with T a call s) pointed_to)
  points a u is h = quiet_pointed s (eval_with T a call s) (pointed a u is h)

  mutual
    pub pure_gives : (e : Expression) → IsPure e → WellTyped sight e → GivesKind e
    pure_gives (Node at t (Number z None)) p q = absurd q
    pure_gives (Node at t (Number z (Some k))) p q = Gives (Integer z) (integers t k (Integer z) z q.0 refl) refl
    pure_gives (Node at t (Letter z)) p q = Gives (Integer z) (integers t I32 (Integer z) z q refl) refl
    pure_gives (Node at t (Text m)) p q = Gives NoValue (subst (λ u. HasKind (scalar_of u) NoValue) (sym q.ctype) tt) refl
    pure_gives (Node at t (Variable x)) p q = quiet_named at t x (find x.decl s.scope) s
    pure_gives (Node at t (Unary prefix.Plus a)) p q = one at t prefix.Plus a _ q.1.is q.2 (pure_gives a p q.0)
    pure_gives (Node at t (Unary prefix.Minus a)) p q = one at t prefix.Minus a _ q.1.is q.2 (pure_gives a p q.0)
    pure_gives (Node at t (Unary prefix.Flip a)) p q = one at t prefix.Flip a _ q.1.is q.2 (pure_gives a p q.0)
    pure_gives (Node at t (Unary prefix.Not a)) p q =
        quiet_then Any (HasKind (scalar_of t)) s (condition_of T a call s) (λ x. give (Integer (truth (is_zero x)))) (tests a (pure_gives a p q.0))
        (λ x h. Gives (Integer (truth (is_zero x))) (integers t I32 _ (truth (is_zero x)) q.2 refl) refl)
    pure_gives (Node at t (Unary prefix.Deref a)) p q =
        quiet_then Any (HasKind (scalar_of t)) s (on_outcome (eval_with T a call s) pointed_to) (λ p. read_any at p (scalar_of t)) (points a t q.1 (pure_gives a p q.0)) (λ p h. quiet_read at p (scalar_of t) s)
    pure_gives (Node at t (Unary prefix.Address a)) p q =
        quiet_then Any (HasKind (scalar_of t)) s (place_with T a call s) (address a) (place_gives a p q.0)
        (λ p h. as_kind IsPointed (HasKind (scalar_of t)) s _ (λ v i. pointers t (type_of a) v i.0 q.2 i.1) (quiet_address a p s))
    pure_gives (Node at t (Binary op a b)) p q =
        let both = λ (x y : Value). computed at (λ store. operate_values (unit_of T.structs (type_of a) (type_of b)) t op store x y) in
        quiet_then (HasKind (scalar_of (type_of a))) (HasKind (scalar_of t)) s (eval_with T a call s) (λ x. eval_with T b call >>= λ y. both x y) (pure_gives a p.0 q.0)
        (λ x hx. quiet_then (HasKind (scalar_of (type_of b))) (HasKind (scalar_of t)) s (eval_with T b call s) (λ y. both x y) (pure_gives b p.1 q.1)
        (λ y hy. quiet_defined (HasKind (scalar_of t)) at (operate_values (unit_of T.structs (type_of a) (type_of b)) t op s.store x y) s
        (λ z e. binary_kind sight (unit_of T.structs (type_of a) (type_of b)) t (type_of a) (type_of b) op s.store x y z q.2 hx hy e)))
    pure_gives (Node at t (Both a b)) p q =
        let right = λ (v : Value). give (truth_value v) in
        quiet_then Any (HasKind (scalar_of t)) s (condition_of T a call s) (λ x. choose x (condition_of T b call >>= right) (give (Integer (pos 0)))) (tests a (pure_gives a p.0 q.0))
        (λ x h. quiet_choice (HasKind (scalar_of t)) s x (condition_of T b call >>= right) (give (Integer (pos 0))) (second at t b q.4 (pure_gives b p.1 q.1)) (Gives (Integer (pos 0)) (integers t I32 _ (pos 0) q.4 refl) refl))
    pure_gives (Node at t (Either a b)) p q =
        let right = λ (v : Value). give (truth_value v) in
        quiet_then Any (HasKind (scalar_of t)) s (condition_of T a call s) (λ x. choose x (give (Integer (pos 1))) (condition_of T b call >>= right)) (tests a (pure_gives a p.0 q.0))
        (λ x h. quiet_choice (HasKind (scalar_of t)) s x (give (Integer (pos 1))) (condition_of T b call >>= right) (Gives (Integer (pos 1)) (integers t I32 _ (pos 1) q.4 refl) refl) (second at t b q.4 (pure_gives b p.1 q.1)))
    pure_gives (Node at t (Choice a b c)) p q =
        quiet_then Any (HasKind (scalar_of t)) s (condition_of T a call s) (λ x. choose x (eval_with T b call) (eval_with T c call)) (tests a (pure_gives a p.0 q.0))
        (λ x h. quiet_choice (HasKind (scalar_of t)) s x (eval_with T b call) (eval_with T c call)
        (subst (λ u. Quiet (HasKind (scalar_of u)) s (eval_with T b call s)) q.4 (pure_gives b p.1 q.1))
        (subst (λ u. Quiet (HasKind (scalar_of u)) s (eval_with T c call s)) q.5 (pure_gives c p.2 q.2)))
    pure_gives (Node at t (Cast to a)) p q = cast_kind at t to a q.1 q.2 (pure_gives a p q.0) (place_gives a p q.0)
    pure_gives (Node at t (SizeOfType u)) p q = Gives _ (integers t U64 _ _ q.1 refl) refl
    pure_gives (Node at t (SizeOfExpr a)) p q = Gives _ (integers t U64 _ _ q.2 refl) refl
    pure_gives (Node at t (Index a b)) p q =
        let f = λ (x y : Value). computed at (λ store. indexed (unit_of T.structs (type_of a) (type_of b)) store x y) in
        quiet_then (HasKind (scalar_of (type_of a))) (HasKind (scalar_of t)) s (eval_with T a call s) (λ x. eval_with T b call >>= λ y. f x y >>= λ p. read_any at p (scalar_of t)) (pure_gives a p.0 q.0)
        (λ x hx. quiet_then (HasKind (scalar_of (type_of b))) (HasKind (scalar_of t)) s (eval_with T b call s) (λ y. f x y >>= λ p. read_any at p (scalar_of t)) (pure_gives b p.1 q.1)
        (λ y hy. quiet_then Any (HasKind (scalar_of t)) s (f x y s) (λ p. read_any at p (scalar_of t)) (quiet_defined Any at (indexed (unit_of T.structs (type_of a) (type_of b)) s.store x y) s (λ a e. tt))
        (λ p h. quiet_read at p (scalar_of t) s)))
    pure_gives (Node at t (Dot a m)) p q =
        let d = offset_of T.structs (type_of a) m in
        quiet_then Any (HasKind (scalar_of t)) s (place_with T a call s) (λ p. read_any at (shifted p d) (scalar_of t)) (place_gives a p q.0)
        (λ p h. quiet_read at (shifted p d) (scalar_of t) s)
    pure_gives (Node at t (Arrow a m)) p q =
        let d = offset_of T.structs (target_of (type_of a)) m in
        quiet_then IsPointed (HasKind (scalar_of t)) s (eval_with T a call s) (λ x. pointed_to x >>= λ p. read_any at (shifted p d) (scalar_of t)) (pointed a q.1.target q.1.is (pure_gives a p q.0))
        (λ x i. quiet_then Any (HasKind (scalar_of t)) s (pointed_to x s) (λ p. read_any at (shifted p d) (scalar_of t)) (Gives i.0 tt (ap (λ v. pointed_to v s) i.1))
        (λ p h. quiet_read at (shifted p d) (scalar_of t) s))
    pure_gives (Node at t (Comma a b)) p q =
        quiet_then (HasKind (scalar_of (type_of a))) (HasKind (scalar_of t)) s (eval_with T a call s) (λ _. eval_with T b call) (pure_gives a p.0 q.0)
        (λ v h. subst (λ u. Quiet (HasKind (scalar_of u)) s (eval_with T b call s)) q.2 (pure_gives b p.1 q.1))
    pure_gives (Node at t (Assign op a b)) p q = absurd p
    pure_gives (Node at t (Bump op a)) p q = absurd p
    pure_gives (Node at t (Call f args)) p q = absurd p

    -- the place of an object; other forms designate nothing
    pub place_gives : (e : Expression) → IsPure e → WellTyped sight e → GivesPlace e
    place_gives (Node at t (Variable x)) p q = quiet_defined Any at (start_of (find x.decl s.scope)) s (λ a e. tt)
    place_gives (Node at t (Text m)) p q = Gives (literal T m) tt refl
    place_gives (Node at t (Unary prefix.Deref a)) p q = points a t q.1 (pure_gives a p q.0)
    place_gives (Node at t (Index a b)) p q =
        let f = λ (x y : Value). computed at (λ store. indexed (unit_of T.structs (type_of a) (type_of b)) store x y) in
        quiet_then (HasKind (scalar_of (type_of a))) Any s (eval_with T a call s) (λ x. eval_with T b call >>= λ y. f x y) (pure_gives a p.0 q.0)
        (λ x hx. quiet_then (HasKind (scalar_of (type_of b))) Any s (eval_with T b call s) (λ y. f x y) (pure_gives b p.1 q.1)
        (λ y hy. quiet_defined Any at (indexed (unit_of T.structs (type_of a) (type_of b)) s.store x y) s (λ a e. tt)))
    place_gives (Node at t (Dot a m)) p q =
        let d = offset_of T.structs (type_of a) m in
        quiet_then Any Any s (place_with T a call s) (λ p. give (shifted p d)) (place_gives a p q.0) (λ p h. Gives (shifted p d) tt refl)
    place_gives (Node at t (Arrow a m)) p q =
        let d = offset_of T.structs (target_of (type_of a)) m in
        quiet_then IsPointed Any s (eval_with T a call s) (λ x. pointed_to x >>= λ p. give (shifted p d)) (pointed a q.1.target q.1.is (pure_gives a p q.0))
        (λ x i. quiet_then Any Any s (pointed_to x s) (λ p. give (shifted p d)) (Gives i.0 tt (ap (λ v. pointed_to v s) i.1)) (λ p h. Gives (shifted p d) tt refl))
    place_gives (Node at t (Number z k)) p q = IsUndefined at refl
    place_gives (Node at t (Letter z)) p q = IsUndefined at refl
    place_gives (Node at t (Unary prefix.Plus a)) p q = IsUndefined at refl
    place_gives (Node at t (Unary prefix.Minus a)) p q = IsUndefined at refl
    place_gives (Node at t (Unary prefix.Flip a)) p q = IsUndefined at refl
    place_gives (Node at t (Unary prefix.Not a)) p q = IsUndefined at refl
    place_gives (Node at t (Unary prefix.Address a)) p q = IsUndefined at refl
    place_gives (Node at t (Binary op a b)) p q = IsUndefined at refl
    place_gives (Node at t (Both a b)) p q = IsUndefined at refl
    place_gives (Node at t (Either a b)) p q = IsUndefined at refl
    place_gives (Node at t (Choice a b c)) p q = IsUndefined at refl
    place_gives (Node at t (Cast to a)) p q = IsUndefined at refl
    place_gives (Node at t (SizeOfType u)) p q = IsUndefined at refl
    place_gives (Node at t (SizeOfExpr a)) p q = IsUndefined at refl
    place_gives (Node at t (Comma a b)) p q = quiet_then (HasKind (scalar_of (type_of a))) Any s (eval_with T a call s) (λ _. place_with T b call) (pure_gives a p.0 q.0) (λ v h. place_gives b p.1 q.1)
    place_gives (Node at t (Assign op a b)) p q = absurd p
    place_gives (Node at t (Bump op a)) p q = absurd p
    place_gives (Node at t (Call f args)) p q = absurd p
