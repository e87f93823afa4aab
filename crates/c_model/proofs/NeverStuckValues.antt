-- Values of operators, accesses and conversions: they have the types that typing gives them.
use Rattle.std.proofs.Common.{◌≡◌, ℕ, pos, Bool, true, false, cond, if◌then◌else◌, List, map, Option, Some, None, sym, ap, ◌∙◌, subst}
use Rattle.std.specs.Prelude.{ℤ, option_map}
use Rattle.c_syntax.specs.declared.place.Place.{Place}
use Rattle.c_syntax.specs.declared.expression.UnOp.{UnOp}
use Rattle.c_syntax.specs.declared.expression.BinOp.{BinOp}
use Rattle.c_syntax.specs.declared.expression.BinOp.TheVariants as operator
use Rattle.c_syntax.specs.declared.expression.BumpOp.{BumpOp}
use Rattle.c_syntax.specs.declared.expression.BumpOp.TheVariants.{PreUp, PreDown, PostUp, PostDown}
use Rattle.c_syntax.specs.declared.types.CInt.{CInt}
use Rattle.c_syntax.specs.declared.types.CInt.TheVariants.{I32}
use Rattle.c_syntax.specs.Ctypes.{PlainType, Void, Int, Ptr, Array, Struct, Named, StructTag, EnumTag, int_type}
use Rattle.c_syntax.specs.Expressions.{Expression, place_of, type_of}
use Rattle.c_syntax.specs.Programs.{StructType}
use Rattle.c_model.specs.Integers.{value_of_bits, operate, operate_one}
use Rattle.c_model.specs.Conversions.{operation_type, is_shift, is_relation, promoted}
use Rattle.c_model.specs.Memory.{Pointer, Null, Into, Value, Integer, Points, NoValue, Byte, Store, number_of, pointer_of, value_from, load_bytes, moved, distance, equal_pointers}
use Rattle.c_model.specs.Memory as memory
use Rattle.c_model.specs.State.{Leave, Undefined, Over, Evaluation, State, ◌>>=◌, give, stop, computed, as_scalar, read, read_any, copy_object}
use Rattle.c_model.specs.Meaning.{operate_value, operate_values, pointer_and_integer, integer_and_pointer, elements_between, two_pointers, converted, compound}
use Rattle.c_model.specs.Meaning.{bump_value, assigned, is_array, named, is_of_library, pointed_to}
use Rattle.c_model.specs.Meaning.{address, is_member}
use Rattle.c_model.specs.ExpressionTyping.{Sight}
use Rattle.c_model.specs.TypedTrees.{WhereAny, IsScalar, IsInteger, BinaryTypes, OfIntegers, OfPointerAndInteger, OfIntegerAndPointer, OfDifference, OfPointers, CompoundTypes, ToInteger, ToPointer}
use Rattle.c_model.specs.TypedTrees.{CastTypes, ToVoid, OfInteger, OfPointer, OfNullConstant, OfArray}
use Rattle.c_syntax.specs.declared.expression.Use.{Use}
use Rattle.c_syntax.specs.Layouts.{Scalar, IntegerType, PointerType, scalar_size, scalar_of, scalars_of, size_of, target_of}
use Rattle.c_model.proofs.NeverStuckRuns.{Anything, IsNumber, IsAddress, IsValueOf, EndsWell, Gives, gives_bind, gives_then}
use Rattle.c_model.proofs.NeverStuckRuns.{gives_give, gives_values, gives_cond, gives_computed, gives_changed, gives_written}

-- ---- values of types that equal these

pub number_in : (t : PlainType) (k : CInt) (v : Value) → t ≡ Int k → IsNumber v → IsValueOf t v
number_in t k v e h = subst (λ u. IsValueOf u v) (sym e) h

pub address_in : (t u : PlainType) (v : Value) → t ≡ Ptr u → IsAddress v → IsValueOf t v
address_in t u v e h = subst (λ r. IsValueOf r v) (sym e) h

pub number_by : (t : PlainType) (v : Value) → IsInteger t → IsValueOf t v → IsNumber v
number_by t v i h = subst (λ u. IsValueOf u v) i.is h

pub address_by : (t u : PlainType) (v : Value) → t ≡ Ptr u → IsValueOf t v → IsAddress v
address_by t u v e h = subst (λ r. IsValueOf r v) e h

where_values : {A : Type 0} (P Q : A → Type 0) (o : Option A) → WhereAny P o → ((a : A) → P a → Q a) → WhereAny Q o
where_values P Q None h f = tt
where_values P Q (Some a) h f = f a h

numbers_in : (t : PlainType) (k : CInt) (o : Option Value) → t ≡ Int k → WhereAny IsNumber o → WhereAny (IsValueOf t) o
numbers_in t k o e h = where_values IsNumber (IsValueOf t) o h (λ v g. number_in t k v e g)

addresses_in : (t u : PlainType) (o : Option Value) → t ≡ Ptr u → WhereAny IsAddress o → WhereAny (IsValueOf t) o
addresses_in t u o e h = where_values IsAddress (IsValueOf t) o h (λ v g. address_in t u v e g)

-- ---- operators

mapped : {A : Type 0} (P : Value → Type 0) (f : A → Value) → ((a : A) → P (f a)) → (o : Option A) → WhereAny P (option_map f o)
mapped P f h None = tt
mapped P f h (Some a) = h a

pub number_of_one : (t : PlainType) (op : UnOp) (v : Value) → WhereAny IsNumber (operate_value t op v)
number_of_one t op NoValue = tt
number_of_one t op (Points p) = tt
number_of_one t op (Integer x) = mapped IsNumber Integer (λ z. tt) (operate_one t op x)

number_of_two : (unit : ℕ) (t : PlainType) (op : BinOp) (store : Store) (v w : Value) → IsNumber v → IsNumber w → WhereAny IsNumber (operate_values unit t op store v w)
number_of_two unit t op store (Integer x) (Integer y) h g = mapped IsNumber Integer (λ z. tt) (operate t op x y)
number_of_two unit t op store (Integer x) (Points q) h g = absurd g
number_of_two unit t op store (Integer x) NoValue h g = absurd g
number_of_two unit t op store (Points p) w h g = absurd h
number_of_two unit t op store NoValue w h g = absurd h

step_right : (unit : ℕ) (op : BinOp) (store : Store) (p : Pointer) (i : ℤ) → WhereAny IsAddress (pointer_and_integer unit op store p i)
step_right unit operator.Add store p i = mapped IsAddress Points (λ q. tt) _
step_right unit operator.Sub store p i = mapped IsAddress Points (λ q. tt) _
step_right unit _ store p i = tt

step_left : (unit : ℕ) (op : BinOp) (store : Store) (i : ℤ) (p : Pointer) → WhereAny IsAddress (integer_and_pointer unit op store i p)
step_left unit operator.Add store i p = mapped IsAddress Points (λ q. tt) _
step_left unit _ store i p = tt

address_and_number : (unit : ℕ) (t : PlainType) (op : BinOp) (store : Store) (v w : Value) → IsAddress v → IsNumber w → WhereAny IsAddress (operate_values unit t op store v w)
address_and_number unit t op store (Points p) (Integer y) h g = step_right unit op store p y
address_and_number unit t op store (Points p) (Points q) h g = absurd g
address_and_number unit t op store (Points p) NoValue h g = absurd g
address_and_number unit t op store (Integer x) w h g = absurd h
address_and_number unit t op store NoValue w h g = absurd h

number_and_address : (unit : ℕ) (t : PlainType) (op : BinOp) (store : Store) (v w : Value) → IsNumber v → IsAddress w → WhereAny IsAddress (operate_values unit t op store v w)
number_and_address unit t op store (Integer x) (Points q) h g = step_left unit op store x q
number_and_address unit t op store (Integer x) (Integer y) h g = absurd g
number_and_address unit t op store (Integer x) NoValue h g = absurd g
number_and_address unit t op store (Points p) w h g = absurd h
number_and_address unit t op store NoValue w h g = absurd h

elements : (unit : ℕ) (o : Option ℤ) → WhereAny IsNumber (elements_between unit o)
elements unit None = tt
elements unit (Some d) = mapped IsNumber Integer (λ z. tt) _

of_two_pointers : (unit : ℕ) (op : BinOp) (store : Store) (p q : Pointer) → WhereAny IsNumber (two_pointers unit op store p q)
of_two_pointers unit operator.Sub store p q = elements unit (distance store p q)
of_two_pointers unit operator.Eq store p q = mapped IsNumber _ (λ b. tt) (equal_pointers store p q)
of_two_pointers unit operator.Ne store p q = mapped IsNumber _ (λ b. tt) (equal_pointers store p q)
of_two_pointers unit operator.Lt store p q = mapped IsNumber _ (λ d. tt) (distance store p q)
of_two_pointers unit operator.Le store p q = mapped IsNumber _ (λ d. tt) (distance store p q)
of_two_pointers unit operator.Gt store p q = mapped IsNumber _ (λ d. tt) (distance store p q)
of_two_pointers unit operator.Ge store p q = mapped IsNumber _ (λ d. tt) (distance store p q)
of_two_pointers unit _ store p q = tt

two_addresses : (unit : ℕ) (t : PlainType) (op : BinOp) (store : Store) (v w : Value) → IsAddress v → IsAddress w → WhereAny IsNumber (operate_values unit t op store v w)
two_addresses unit t op store (Points p) (Points q) h g = of_two_pointers unit op store p q
two_addresses unit t op store (Points p) (Integer y) h g = absurd g
two_addresses unit t op store (Points p) NoValue h g = absurd g
two_addresses unit t op store (Integer x) w h g = absurd h
two_addresses unit t op store NoValue w h g = absurd h

-- the type of a relation, or of its operands
integer_result : (b : Bool) (t u : PlainType) → IsInteger u → t ≡ cond b int_type u → IsInteger t
integer_result true t u i e = record { int = I32; is = e }
integer_result false t u i e = record { int = i.int; is = e ∙ i.is }

-- the value of an operator on two
pub value_of_two : (s : Sight) (unit : ℕ) (op : BinOp) (t u v : PlainType) (store : Store) (x y : Value) → BinaryTypes s op t u v → IsValueOf u x → IsValueOf v y
    → WhereAny (IsValueOf t) (operate_values unit t op store x y)
value_of_two s unit op t u v store x y (OfIntegers i) h g =
    let left : IsInteger u = record { int = promoted i.left.int; is = i.left.is } in
    let right : IsInteger v = record { int = promoted i.right.int; is = i.right.is } in
    let result = integer_result (is_relation op) t u left i.result in
    numbers_in t result.int (operate_values unit t op store x y) result.is (number_of_two unit t op store x y (number_by u x left h) (number_by v y right g))
value_of_two s unit op t u v store x y (OfPointerAndInteger step p i e) h g =
    addresses_in t p.target (operate_values unit t op store x y) (e ∙ p.is) (address_and_number unit t op store x y (address_by u p.target x p.is h) (number_by v y i g))
value_of_two s unit op t u v store x y (OfIntegerAndPointer step i p e) h g =
    addresses_in t p.target (operate_values unit t op store x y) (e ∙ p.is) (number_and_address unit t op store x y (number_by u x i h) (address_by v p.target y p.is g))
value_of_two s unit op t u v store x y (OfDifference d p same e) h g =
    numbers_in t _ (operate_values unit t op store x y) e (two_addresses unit t op store x y (address_by u p.target x p.is h) (address_by v p.target y (same ∙ p.is) g))
value_of_two s unit op t u v store x y (OfPointers r p q e) h g =
    numbers_in t I32 (operate_values unit t op store x y) e (two_addresses unit t op store x y (address_by u p.target x p.is h) (address_by v q.target y q.is g))

-- ---- conversions

number_converted : (k : CInt) (v : Value) → IsNumber v → IsNumber (converted (Int k) v)
number_converted k (Integer z) h = tt
number_converted k (Points p) h = absurd h
number_converted k NoValue h = absurd h

address_converted : (t : PlainType) (v : Value) → IsAddress v → IsAddress (converted (Ptr t) v)
address_converted t (Points p) h = tt
address_converted t (Integer z) h = absurd h
address_converted t NoValue h = absurd h

null_converted : (t : PlainType) (v : Value) → IsNumber v → IsAddress (converted (Ptr t) v)
null_converted t (Integer z) h = tt
null_converted t (Points p) h = absurd h
null_converted t NoValue h = absurd h

where_converted : (k : CInt) (o : Option Value) → WhereAny IsNumber o → WhereAny IsNumber (option_map (converted (Int k)) o)
where_converted k None h = tt
where_converted k (Some v) h = number_converted k v h

second_number : (k : CInt) (t : Bool) (w : Value) → IsNumber w → IsNumber (if t then w else converted (Int k) w)
second_number k true w g = g
second_number k false w g = number_converted k w g

number_of_compound : (structs : List StructType) (k l : CInt) (op : BinOp) (store : Store) (v w : Value) → IsNumber v → IsNumber w → WhereAny IsNumber (compound structs (Int k) op store v (Int l) w)
number_of_compound structs k l op store v w h g =
    let m = operation_type op k l in
    where_converted k _ (number_of_two 1 (Int m) op store (converted (Int m) v) (if is_shift op then w else converted (Int m) w) (number_converted m v h) (second_number m (is_shift op) w g))

-- the value that is assigned, whatever the operator
pub value_of_compound : (s : Sight) (structs : List StructType) (typed op : BinOp) (t u : PlainType) (store : Store) (v w : Value) → CompoundTypes s typed t u → IsValueOf t v → IsValueOf u w
    → WhereAny (IsValueOf t) (compound structs t op store v u w)
value_of_compound s structs typed op t u store v w (ToInteger i j) h g =
    let second : WhereAny IsNumber (compound structs (Int i.int) op store v u w) =
    subst (λ (b : PlainType). WhereAny IsNumber (compound structs (Int i.int) op store v b w)) (sym j.is) (number_of_compound structs i.int j.int op store v w (number_by t v i h) (number_by u w j g)) in
    subst (λ (a : PlainType). WhereAny (IsValueOf a) (compound structs a op store v u w)) (sym i.is) second
value_of_compound s structs typed op t u store v w (ToPointer step p j) h g =
    subst (λ (a : PlainType). WhereAny (IsValueOf a) (compound structs a op store v u w)) (sym p.is)
    (address_and_number (size_of structs (target_of (Ptr p.target))) (Ptr p.target) op store v w (address_by t p.target v p.is h) (number_by u w j g))

pub scalar_of_compound : (s : Sight) (op : BinOp) (t u : PlainType) → CompoundTypes s op t u → IsScalar t
scalar_of_compound s op t u (ToInteger i j) = record { scalar = IntegerType i.int; is = ap scalar_of i.is }
scalar_of_compound s op t u (ToPointer step p j) = record { scalar = PointerType; is = ap scalar_of p.is }

pub value_of_bump : (t : PlainType) (op : BumpOp) (old new : Value) → IsValueOf t old → IsValueOf t new → IsValueOf t (bump_value op old new)
value_of_bump t PreUp old new h g = g
value_of_bump t PreDown old new h g = g
value_of_bump t PostUp old new h g = h
value_of_bump t PostDown old new h g = h

-- ---- accesses

number_from : (k : CInt) (o : Option (List Byte)) → WhereAny IsNumber (memory.◌>>=◌ o (value_from (IntegerType k)))
number_from k None = tt
number_from k (Some bytes) = mapped IsNumber (λ n. Integer (value_of_bits k n)) (λ n. tt) (number_of bytes)

address_from : (o : Option (List Byte)) → WhereAny IsAddress (memory.◌>>=◌ o (value_from PointerType))
address_from None = tt
address_from (Some bytes) = mapped IsAddress Points (λ p. tt) (pointer_of bytes)

pub gives_read_any : {L : Leave → Type 0} (at : Place) (p : Pointer) (t : PlainType) → Gives (IsValueOf t) L (read_any at p (scalar_of t))
gives_read_any at p (Int k) = gives_computed at _ (λ store. number_from k (load_bytes store p (scalar_size (IntegerType k))))
gives_read_any at p (Ptr t) = gives_computed at _ (λ store. address_from (load_bytes store p (scalar_size PointerType)))
gives_read_any at p Void = gives_give NoValue tt
gives_read_any at p (Array t n) = gives_give NoValue tt
gives_read_any at p (Struct n) = gives_give NoValue tt
gives_read_any at p (Named x) = gives_give NoValue tt
gives_read_any at p (StructTag x tag) = gives_give NoValue tt
gives_read_any at p (EnumTag x place) = gives_give NoValue tt

pub gives_read : {L : Leave → Type 0} (at : Place) (p : Pointer) (t : PlainType) (k : Scalar) → scalar_of t ≡ Some k → Gives (IsValueOf t) L (read at p k)
gives_read {L = L} at p t k e = subst (λ o. Gives (IsValueOf t) L (read_any at p o)) e (gives_read_any at p t)

-- goes on with the scalar of a type
pub gives_scalar : {A : Type 0} {P : A → Type 0} {L : Leave → Type 0} (t : PlainType) (go : Scalar → Evaluation A) → IsScalar t → ((k : Scalar) → scalar_of t ≡ Some k → Gives P L (go k)) → Gives P L (as_scalar (scalar_of t) go)
gives_scalar {P = P} {L = L} t go i h = subst (λ o. Gives P L (as_scalar o go)) (sym i.is) (h i.scalar i.is)

pub gives_pointed : {L : Leave → Type 0} (v : Value) → IsAddress v → Gives Anything L (pointed_to v)
gives_pointed (Points p) h = gives_give p tt
gives_pointed (Integer z) h = absurd h
gives_pointed NoValue h = absurd h

-- an object is copied, and gives no value
abbrev parts : List StructType → PlainType → List (ℕ × ℕ)
parts structs t = map (λ (c : ℕ × Scalar). (c.0, scalar_size c.1)) (scalars_of structs t)

gives_copied : {P : Value → Type 0} {L : Leave → Type 0} (structs : List StructType) (at : Place) (t : PlainType) (p : Pointer) (v : Evaluation Value) (q : Evaluation Pointer) → P NoValue → Gives Anything L q
    → Gives P L (assigned structs at t None p v q)
gives_copied structs at t p v q none h =
    gives_bind q _ h (λ y _.
    gives_then (copy_object at p y (parts structs t)) (give NoValue) (gives_changed at (λ store. memory.copy_all store p y (parts structs t))) (gives_give NoValue none))

-- an assignment of a value, or of an object
pub gives_assigned : {L : Leave → Type 0} (structs : List StructType) (at : Place) (t : PlainType) (p : Pointer) (v : Evaluation Value) (q : Evaluation Pointer) → Gives (IsValueOf t) L v → Gives Anything L q
    → Gives (IsValueOf t) L (assigned structs at t (scalar_of t) p v q)
gives_assigned structs at (Int k) p v q g h = gives_bind v _ g (λ x i. gives_written at p (IntegerType k) x x i)
gives_assigned structs at (Ptr t) p v q g h = gives_bind v _ g (λ x i. gives_written at p PointerType x x i)
gives_assigned structs at Void p v q g h = gives_copied structs at Void p v q tt h
gives_assigned structs at (Array t n) p v q g h = gives_copied structs at (Array t n) p v q tt h
gives_assigned structs at (Struct n) p v q g h = gives_copied structs at (Struct n) p v q tt h
gives_assigned structs at (Named x) p v q g h = gives_copied structs at (Named x) p v q tt h
gives_assigned structs at (StructTag x tag) p v q g h = gives_copied structs at (StructTag x tag) p v q tt h
gives_assigned structs at (EnumTag x place) p v q g h = gives_copied structs at (EnumTag x place) p v q tt h

-- ---- names, addresses and casts

null_well : (L : Leave → Type 0) (at : Place) (t : PlainType) (b : Bool) (s : State) → EndsWell (IsValueOf (Ptr t)) L (cond b (give (Points Null)) (stop (Over (Undefined at))) s)
null_well L at t true s = tt
null_well L at t false s = tt

pub named_well : (L : Leave → Type 0) (at : Place) (t : PlainType) (x : Use) (o : Option ℕ) (s : State) → EndsWell (IsValueOf t) L (named at t x o s)
named_well L at t x (Some n) s = (gives_read_any {L = L} at (Into n 0) t).at s
named_well L at (Ptr t) x None s = null_well L at t (is_of_library x) s
named_well L at _ x None s = tt

pub gives_address : {L : Leave → Type 0} (e : Expression) (p : Pointer) → Gives IsAddress L (address e p)
gives_address {L = L} e p = by (is_member e)
  where
    by : (t : Bool) → Gives IsAddress L (if t then computed (place_of e) (λ store. option_map Points (moved store p (pos 0))) else give (Points p))
    by true = gives_computed (place_of e) _ (λ store. mapped IsAddress Points (λ q. tt) (moved store p (pos 0)))
    by false = gives_give (Points p) tt

module _ {L : Leave → Type 0} (to u : PlainType) (q m : Evaluation Value) where
  cast_of_value : is_array u ≡ false → ((x : Value) → IsValueOf u x → IsValueOf to (converted to x)) → Gives (IsValueOf u) L m → Gives (IsValueOf to) L (cond (is_array u) q (m >>= λ x. give (converted to x)))
  cast_of_value e f g =
      subst (λ b. Gives (IsValueOf to) L (cond b q (m >>= λ x. give (converted to x)))) (sym e) (gives_bind m _ g (λ x h. gives_give (converted to x) (f x h)))

  cast_of_array : (t : PlainType) → is_array u ≡ true → to ≡ Ptr t → Gives IsAddress L q → Gives (IsValueOf to) L (cond (is_array u) q (m >>= λ x. give (converted to x)))
  cast_of_array t e is g =
      subst (λ b. Gives (IsValueOf to) L (cond b q (m >>= λ x. give (converted to x)))) (sym e) (gives_values (IsValueOf to) q g (λ v h. address_in to t v is h))

  cast_to_void : to ≡ Void → Gives IsAddress L q → Gives (IsValueOf u) L m → Gives (IsValueOf to) L (cond (is_array u) q (m >>= λ x. give (converted to x)))
  cast_to_void e h g =
      let any : (v : Value) → IsValueOf to v = λ v. subst (λ r. IsValueOf r v) (sym e) tt in
      gives_cond (is_array u) q (m >>= λ x. give (converted to x)) (gives_values (IsValueOf to) q h (λ v _. any v)) (gives_bind m _ g (λ x _. gives_give (converted to x) (any (converted to x))))

pub gives_cast : {L : Leave → Type 0} (s : Sight) (to : PlainType) (a : Expression) (q m : Evaluation Value) → CastTypes s to a → Gives IsAddress L q → Gives (IsValueOf (type_of a)) L m
    → Gives (IsValueOf to) L (cond (is_array (type_of a)) q (m >>= λ x. give (converted to x)))
gives_cast s to a q m (ToVoid e) h g = cast_to_void to (type_of a) q m e h g
gives_cast s to a q m (OfInteger i j) h g =
    cast_of_value to (type_of a) q m (ap is_array j.is)
    (λ x f. subst (λ (t : PlainType). IsValueOf t (converted t x)) (sym i.is) (number_converted i.int x (number_by (type_of a) x j f))) g
gives_cast s to a q m (OfPointer i j) h g =
    cast_of_value to (type_of a) q m (ap is_array j.is)
    (λ x f. subst (λ (t : PlainType). IsValueOf t (converted t x)) (sym i.is) (address_converted i.target x (address_by (type_of a) j.target x j.is f))) g
gives_cast s to a q m (OfNullConstant i j zero) h g =
    cast_of_value to (type_of a) q m (ap is_array j.is)
    (λ x f. subst (λ (t : PlainType). IsValueOf t (converted t x)) (sym i.is) (null_converted i.target x (number_by (type_of a) x j f))) g
gives_cast s to a q m (OfArray t n e f object) h g = cast_of_array to (type_of a) q m t (ap is_array f) e h
