-- Values that operators, reads and casts give in sound states are values of their types.
use Rattle.std.proofs.Common.{◌≡◌, ℕ, zero, suc, ◌/◌, ◌^◌, ◌≤◌, ℤ, pos, negsuc, neg_ℤ, ◌-ℤ◌, int_div, Bool, true, false, cond, if◌then◌else◌, nat_eq, not, List, Option, Some, None, refl, sym, ◌∙◌, subst, arith}
use Rattle.std.specs.Prelude.{option_map}
use Rattle.std.specs.Ordering.{int_eq}
use Rattle.std.proofs.lemmas.Bool.{lt-ltb}
use Rattle.std.proofs.lemmas.Int.{ints}
use Rattle.c_syntax.specs.declared.place.Place.{Place}
use Rattle.c_syntax.specs.declared.expression.Use.{Use}
use Rattle.c_syntax.specs.declared.expression.UnOp.{UnOp}
use Rattle.c_syntax.specs.declared.expression.UnOp.TheVariants as unary
use Rattle.c_syntax.specs.declared.expression.BinOp.{BinOp}
use Rattle.c_syntax.specs.declared.expression.BinOp.TheVariants as operator
use Rattle.c_syntax.specs.declared.expression.BumpOp.{BumpOp}
use Rattle.c_syntax.specs.declared.expression.BumpOp.TheVariants.{PreUp, PreDown, PostUp, PostDown}
use Rattle.c_syntax.specs.declared.types.CInt.{CInt}
use Rattle.c_syntax.specs.declared.types.CInt.TheVariants.{I32, I64}
use Rattle.c_syntax.specs.Ctypes.{PlainType, Void, Int, Ptr, Array, Struct, Named, StructTag, EnumTag, int_type}
use Rattle.c_syntax.specs.Layouts.{Scalar, IntegerType, PointerType, scalar_of}
use Rattle.c_syntax.specs.Programs.{StructType, TranslationUnit}
use Rattle.c_model.specs.Conversions.{is_relation, is_shift, promoted}
use Rattle.c_model.specs.ExpressionTyping.{Sight, is_difference}
use Rattle.c_model.specs.HeapLaws.{BlocksStay}
use Rattle.c_model.specs.Integers.{fits, truth, operate_in, operate_one}
use Rattle.c_model.specs.Memory.{Pointer, Null, Into, Value, Integer, Points, NoValue, Store, block_at, live_size, apart, distance, equal_pointers, load}
use Rattle.c_model.specs.Meaning.{operate_value, operate_values, elements_between, two_pointers, converted, compound, bump_value, named, is_of_library}
use Rattle.c_model.specs.Operators.{quotient}
use Rattle.c_model.specs.SoundStates.{IsPlaced, IsPlacedValue, IsSound, IsSoundState, After}
use Rattle.c_model.specs.State.{State, Undefined, Over, Outcome, Normal, Stop, Evaluation, on_outcome, defined, give, stop, read_any, read}
use Rattle.c_model.specs.TypedTrees.{WhereAny, OnIntegers, BinaryTypes, OfIntegers, OfPointerAndInteger, OfIntegerAndPointer, OfDifference, OfPointers, CompoundTypes, ToInteger, ToPointer}
use Rattle.c_model.proofs.Conversions.{fits-convert}
use Rattle.c_model.proofs.NeverStuckRuns.{NoJump, IsNumber, IsAddress, IsValueOf, EndsWell}
use Rattle.c_model.proofs.NeverStuckValues.{value_of_two, value_of_compound, gives_read_any}
use Rattle.c_model.proofs.OperatorResults.{fits-operate_in, fits-operate_one_in}
use Rattle.c_model.proofs.SoundLoads.{sound_stores_read, placed_are_near}

-- a value of the type: an integer that it has, or a pointer
abbrev pub FitsIn : PlainType → Value → Type 0
FitsIn (Int k) (Integer z) = fits k z ≡ true
FitsIn (Int k) (Points p) = ⊥
FitsIn (Int k) NoValue = ⊥
FitsIn (Ptr t) v = IsAddress v
FitsIn Void v = Unit {0}
FitsIn (Array t n) v = Unit {0}
FitsIn (Struct n) v = Unit {0}
FitsIn (Named x) v = Unit {0}
FitsIn (StructTag x tag) v = Unit {0}
FitsIn (EnumTag x at) v = Unit {0}

pub fits_as : (t u : PlainType) (v : Value) → t ≡ u → FitsIn u v → FitsIn t v
fits_as t u v e h = subst (λ r. FitsIn r v) (sym e) h

pub fits_value : (t : PlainType) (v : Value) → FitsIn t v → IsValueOf t v
fits_value (Int k) (Integer z) h = tt
fits_value (Int k) (Points p) h = absurd h
fits_value (Int k) NoValue h = absurd h
fits_value (Ptr t) v h = h
fits_value Void v h = tt
fits_value (Array t n) v h = tt
fits_value (Struct n) v h = tt
fits_value (Named x) v h = tt
fits_value (StructTag x tag) v h = tt
fits_value (EnumTag x at) v h = tt

-- a pointer's type has no integers
of_pointer : (t u : PlainType) → t ≡ Ptr u → (v : Value) → IsValueOf t v → FitsIn t v
of_pointer t u e v h = subst (λ r. FitsIn r v) (sym e) (subst (λ r. IsValueOf r v) e h)

-- a type that isn't scalar has no value
pub no_scalar_fits : (t : PlainType) (v : Value) → scalar_of t ≡ None → FitsIn t v
no_scalar_fits (Int k) v e = absurd cc
no_scalar_fits (Ptr t) v e = absurd cc
no_scalar_fits Void v e = tt
no_scalar_fits (Array t n) v e = tt
no_scalar_fits (Struct n) v e = tt
no_scalar_fits (Named x) v e = tt
no_scalar_fits (StructTag x tag) v e = tt
no_scalar_fits (EnumTag x at) v e = tt

where_all : {A : Type 0} (P Q : A → Type 0) (o : Option A) → ((a : A) → P a → Q a) → WhereAny P o → WhereAny Q o
where_all P Q None f h = tt
where_all P Q (Some a) f h = f a h

mapped : {A : Type 0} (P : Value → Type 0) (f : A → Value) → ((a : A) → P (f a)) → (o : Option A) → WhereAny P (option_map f o)
mapped P f h None = tt
mapped P f h (Some a) = h a

-- ---- outcomes

-- a value of which P holds, or an end
abbrev pub Ends : {A : Type 0} → (A → Type 0) → Outcome A → Type 0
Ends P (Normal a s) = P a
Ends P (Stop e s) = Unit {0}

pub well_ends : {A : Type 0} (P : A → Type 0) (o : Outcome A) → EndsWell P NoJump o → Ends P o
well_ends P (Normal a s) h = h
well_ends P (Stop e s) h = tt

pub defined_ends : {A : Type 0} (P : A → Type 0) (at : Place) (o : Option A) (s : State) → WhereAny P o → Ends P (defined at o s)
defined_ends P at None s h = tt
defined_ends P at (Some a) s h = h

pub on_after : {p : TranslationUnit} {A B : Type 0} (R : A → State → Type 0) (Q : B → Type 0) (s : State) (o : Outcome A) (f : A → Evaluation B) → After p R s o
    → ((a : A) (t : State) → BlocksStay s.store t.store → IsSoundState p t → R a t → Ends Q (f a t)) → Ends Q (on_outcome o f)
on_after R Q s (Normal a t) f h k = k a t h.stay h.sound h.gives
on_after R Q s (Stop e t) f h k = tt

pub on_ends : {p : TranslationUnit} {A B : Type 0} (R : A → State → Type 0) (P : A → Type 0) (Q : B → Type 0) (s : State) (o : Outcome A) (f : A → Evaluation B) → After p R s o → Ends P o
    → ((a : A) (t : State) → BlocksStay s.store t.store → IsSoundState p t → R a t → P a → Ends Q (f a t)) → Ends Q (on_outcome o f)
on_ends R P Q s (Normal a t) f h g k = k a t h.stay h.sound h.gives g
on_ends R P Q s (Stop e t) f h g k = tt

pub cond_ends : {A : Type 0} (P : A → Type 0) (t : Bool) (m n : Evaluation A) (s : State) → Ends P (m s) → Ends P (n s) → Ends P (cond t m n s)
cond_ends P true m n s h g = h
cond_ends P false m n s h g = g

pub some_ends : {A : Type 0} (P : A → Type 0) (o : Outcome A) → ((a : A) → P a) → Ends P o
some_ends P (Normal a s) h = h a
some_ends P (Stop e s) h = tt

-- ---- truth values

pub truth_fits : (b : Bool) → fits I32 (truth b) ≡ true
truth_fits true = refl
truth_fits false = refl

is_truth : (b : Bool) (w : ℤ) → Some (truth b) ≡ Some w → fits I32 w ≡ true
is_truth b w e = let same : truth b ≡ w = cc in subst (λ z. fits I32 z ≡ true) same (truth_fits b)

relation_fits : (op : BinOp) (k : CInt) (x y w : ℤ) → is_relation op ≡ true → operate_in k op x y ≡ Some w → fits I32 w ≡ true
relation_fits operator.Eq k x y w r e = is_truth _ w e
relation_fits operator.Ne k x y w r e = is_truth _ w e
relation_fits operator.Lt k x y w r e = is_truth _ w e
relation_fits operator.Le k x y w r e = is_truth _ w e
relation_fits operator.Gt k x y w r e = is_truth _ w e
relation_fits operator.Ge k x y w r e = is_truth _ w e
relation_fits operator.Add k x y w r e = absurd cc
relation_fits operator.Sub k x y w r e = absurd cc
relation_fits operator.Mul k x y w r e = absurd cc
relation_fits operator.Div k x y w r e = absurd cc
relation_fits operator.Rem k x y w r e = absurd cc
relation_fits operator.Shl k x y w r e = absurd cc
relation_fits operator.Shr k x y w r e = absurd cc
relation_fits operator.BitAnd k x y w r e = absurd cc
relation_fits operator.BitOr k x y w r e = absurd cc
relation_fits operator.BitXor k x y w r e = absurd cc

-- ---- operators on integers

-- `+`, `-` and `~`
pub one_fits : (k : CInt) (op : UnOp) (v : Value) → ((x w : ℤ) → fits k x ≡ true → operate_one (Int k) op x ≡ Some w → fits k w ≡ true) → FitsIn (Int k) v → WhereAny (FitsIn (Int k)) (operate_value (Int k) op v)
one_fits k op (Points p) f h = absurd h
one_fits k op NoValue f h = absurd h
one_fits k op (Integer x) f h = by (operate_one (Int k) op x) refl
  where
    by : (o : Option ℤ) → operate_one (Int k) op x ≡ o → WhereAny (FitsIn (Int k)) (option_map Integer o)
    by None e = tt
    by (Some w) e = f x w h e

pub plus_fits : (k : CInt) (x w : ℤ) → fits k x ≡ true → operate_one (Int k) unary.Plus x ≡ Some w → fits k w ≡ true
plus_fits k x w f e = fits-operate_one_in k unary.Plus x w f e

pub minus_fits : (k : CInt) (x w : ℤ) → fits k x ≡ true → operate_one (Int k) unary.Minus x ≡ Some w → fits k w ≡ true
minus_fits k x w f e = fits-operate_one_in k unary.Minus x w f e

pub flip_fits : (k : CInt) (x w : ℤ) → fits k x ≡ true → operate_one (Int k) unary.Flip x ≡ Some w → fits k w ≡ true
flip_fits k x w f e = fits-operate_one_in k unary.Flip x w f e

two_fit : (k l m : CInt) (unit : ℕ) (op : BinOp) (store : Store) (v w : Value) → ((x y z : ℤ) → fits k x ≡ true → fits l y ≡ true → operate_in m op x y ≡ Some z → fits m z ≡ true)
    → FitsIn (Int k) v → FitsIn (Int l) w → WhereAny (FitsIn (Int m)) (operate_values unit (Int m) op store v w)
two_fit k l m unit op store (Integer x) (Integer y) f h g = by (operate_in m op x y) refl
  where
    by : (o : Option ℤ) → operate_in m op x y ≡ o → WhereAny (FitsIn (Int m)) (option_map Integer o)
    by None e = tt
    by (Some z) e = f x y z h g e
two_fit k l m unit op store (Integer x) (Points q) f h g = absurd g
two_fit k l m unit op store (Integer x) NoValue f h g = absurd g
two_fit k l m unit op store (Points p) w f h g = absurd h
two_fit k l m unit op store NoValue w f h g = absurd h

integers_fit : (unit : ℕ) (op : BinOp) (t u v : PlainType) (store : Store) (x y : Value) → OnIntegers op t u v → FitsIn u x → FitsIn v y → WhereAny (FitsIn t) (operate_values unit t op store x y)
integers_fit unit op t u v store x y i h g = by (is_relation op) refl i.result
  where
    k : CInt
    k = promoted i.left.int

    l : CInt
    l = promoted i.right.int

    left : FitsIn (Int k) x
    left = subst (λ r. FitsIn r x) i.left.is h

    right : FitsIn (Int l) y
    right = subst (λ r. FitsIn r y) i.right.is g

    alike : (b : ℤ) → is_shift op ≡ false → fits l b ≡ true → fits k b ≡ true
    alike b sh f = let same : Int l ≡ Int k = sym i.right.is ∙ i.same sh ∙ i.left.is in subst (λ r. FitsIn r (Integer b)) same f

    by : (r : Bool) → is_relation op ≡ r → t ≡ cond r int_type u → WhereAny (FitsIn t) (operate_values unit t op store x y)
    by true r e =
        subst (λ s. WhereAny (FitsIn s) (operate_values unit s op store x y)) (sym e) (two_fit k l I32 unit op store x y (λ a b z f w is. relation_fits op I32 a b z r is) left right)
    by false r e =
        subst (λ s. WhereAny (FitsIn s) (operate_values unit s op store x y)) (sym (e ∙ i.left.is))
        (two_fit k l k unit op store x y (λ a b z f w is. subst (λ c. fits (if c then I32 else k) z ≡ true) r (fits-operate_in k op a b z f (λ sh. alike b sh w) is)) left right)

-- ---- pointers

positive_fits : (a : ℕ) → a ≤ 2 ^ 62 → fits I64 (pos a) ≡ true
positive_fits a le = lt-ltb _ _ (omega (arith, le))

opposite_fits : (a : ℕ) → a ≤ 2 ^ 62 → fits I64 (neg_ℤ (pos a)) ≡ true
opposite_fits zero le = refl
opposite_fits (suc a) le = lt-ltb _ _ (omega (arith, le))

quotient_fits : (d : ℤ) (u : ℕ) → ((a : ℕ) → d ≡ pos a → a ≤ 2 ^ 62) → ((a : ℕ) → d ≡ negsuc a → suc a ≤ 2 ^ 62) → fits I64 (int_div d (pos (suc u))) ≡ true
quotient_fits (pos a) u h g = positive_fits (a / suc u) (omega (arith, h a refl))
quotient_fits (negsuc a) u h g = opposite_fits (suc a / suc u) (omega (arith, g a refl))

difference_fits : (i j unit : ℕ) (v : ℤ) → i ≤ 2 ^ 32 → j ≤ 2 ^ 32 → quotient (pos i -ℤ pos j) (pos unit) ≡ Some v → fits I64 v ≡ true
difference_fits i j zero v li lj e = absurd cc
difference_fits i j (suc u) v li lj e = by (int_eq (pos (suc u)) (pos 0)) e
  where
    by : (t : Bool) → (if t then None else Some (int_div (pos i -ℤ pos j) (pos (suc u)))) ≡ Some v → fits I64 v ≡ true
    by true f = absurd cc
    by false f =
        let is : int_div (pos i -ℤ pos j) (pos (suc u)) ≡ v = cc in
        subst (λ v. fits I64 v ≡ true) is (quotient_fits (pos i -ℤ pos j) u (λ a g. omega (arith, ints, g, li)) (λ a g. omega (arith, ints, g, lj)))

elements_fit : (store : Store) (unit : ℕ) (p q : Pointer) → IsSound store → IsPlaced store p → IsPlaced store q → WhereAny (FitsIn (Int I64)) (elements_between unit (distance store p q))
elements_fit store unit Null q st h g = tt
elements_fit store unit (Into n i) Null st h g = tt
elements_fit store unit (Into n i) (Into m j) st h g = by (live_size (block_at store n)) (nat_eq n m)
  where
    counted : (o : Option ℤ) → quotient (pos i -ℤ pos j) (pos unit) ≡ o → WhereAny (FitsIn (Int I64)) (option_map Integer o)
    counted None e = tt
    counted (Some v) e = difference_fits i j unit v (placed_are_near store (Into n i) st h) (placed_are_near store (Into m j) st g) e

    by : (o : Option ℕ) (t : Bool) → WhereAny (FitsIn (Int I64)) (elements_between unit (apart o t i j))
    by None t = tt
    by (Some size) true = counted (quotient (pos i -ℤ pos j) (pos unit)) refl
    by (Some size) false = tt

of_difference : (unit : ℕ) (op : BinOp) (store : Store) (p q : Pointer) → is_difference op ≡ true → IsSound store → IsPlaced store p → IsPlaced store q
    → WhereAny (FitsIn (Int I64)) (two_pointers unit op store p q)
of_difference unit operator.Sub store p q d st h g = elements_fit store unit p q st h g
of_difference unit operator.Add store p q d st h g = absurd cc
of_difference unit operator.Mul store p q d st h g = absurd cc
of_difference unit operator.Div store p q d st h g = absurd cc
of_difference unit operator.Rem store p q d st h g = absurd cc
of_difference unit operator.Shl store p q d st h g = absurd cc
of_difference unit operator.Shr store p q d st h g = absurd cc
of_difference unit operator.BitAnd store p q d st h g = absurd cc
of_difference unit operator.BitOr store p q d st h g = absurd cc
of_difference unit operator.BitXor store p q d st h g = absurd cc
of_difference unit operator.Eq store p q d st h g = absurd cc
of_difference unit operator.Ne store p q d st h g = absurd cc
of_difference unit operator.Lt store p q d st h g = absurd cc
of_difference unit operator.Le store p q d st h g = absurd cc
of_difference unit operator.Gt store p q d st h g = absurd cc
of_difference unit operator.Ge store p q d st h g = absurd cc

of_relation : (unit : ℕ) (op : BinOp) (store : Store) (p q : Pointer) → is_relation op ≡ true → WhereAny (FitsIn (Int I32)) (two_pointers unit op store p q)
of_relation unit operator.Eq store p q r = mapped (FitsIn (Int I32)) _ (λ b. truth_fits b) (equal_pointers store p q)
of_relation unit operator.Ne store p q r = mapped (FitsIn (Int I32)) _ (λ b. truth_fits (not b)) (equal_pointers store p q)
of_relation unit operator.Lt store p q r = mapped (FitsIn (Int I32)) _ (λ d. truth_fits _) (distance store p q)
of_relation unit operator.Le store p q r = mapped (FitsIn (Int I32)) _ (λ d. truth_fits _) (distance store p q)
of_relation unit operator.Gt store p q r = mapped (FitsIn (Int I32)) _ (λ d. truth_fits _) (distance store p q)
of_relation unit operator.Ge store p q r = mapped (FitsIn (Int I32)) _ (λ d. truth_fits _) (distance store p q)
of_relation unit operator.Add store p q r = absurd cc
of_relation unit operator.Sub store p q r = absurd cc
of_relation unit operator.Mul store p q r = absurd cc
of_relation unit operator.Div store p q r = absurd cc
of_relation unit operator.Rem store p q r = absurd cc
of_relation unit operator.Shl store p q r = absurd cc
of_relation unit operator.Shr store p q r = absurd cc
of_relation unit operator.BitAnd store p q r = absurd cc
of_relation unit operator.BitOr store p q r = absurd cc
of_relation unit operator.BitXor store p q r = absurd cc

-- two pointers, by what an operator makes of them
two_addresses : (k : CInt) (unit : ℕ) (op : BinOp) (store : Store) (x y : Value) → ((p q : Pointer) → IsPlaced store p → IsPlaced store q → WhereAny (FitsIn (Int k)) (two_pointers unit op store p q))
    → IsAddress x → IsAddress y → IsPlacedValue store x → IsPlacedValue store y → WhereAny (FitsIn (Int k)) (operate_values unit (Int k) op store x y)
two_addresses k unit op store (Points p) (Points q) f h g i j = f p q i j
two_addresses k unit op store (Points p) (Integer y) f h g i j = absurd g
two_addresses k unit op store (Points p) NoValue f h g i j = absurd g
two_addresses k unit op store (Integer x) y f h g i j = absurd h
two_addresses k unit op store NoValue y f h g i j = absurd h

-- ---- operators on two values

pub pair_fits : (s : Sight) (unit : ℕ) (op : BinOp) (t u v : PlainType) (store : Store) (x y : Value) → IsSound store → IsPlacedValue store x → IsPlacedValue store y → BinaryTypes s op t u v
    → FitsIn u x → FitsIn v y → WhereAny (FitsIn t) (operate_values unit t op store x y)
pair_fits s unit op t u v store x y st i j (OfIntegers o) h g = integers_fit unit op t u v store x y o h g
pair_fits s unit op t u v store x y st i j (OfPointerAndInteger step q n e) h g =
    where_all (IsValueOf t) (FitsIn t) (operate_values unit t op store x y) (of_pointer t q.target (e ∙ q.is))
    (value_of_two s unit op t u v store x y (OfPointerAndInteger step q n e) (fits_value u x h) (fits_value v y g))
pair_fits s unit op t u v store x y st i j (OfIntegerAndPointer step n q e) h g =
    where_all (IsValueOf t) (FitsIn t) (operate_values unit t op store x y) (of_pointer t q.target (e ∙ q.is))
    (value_of_two s unit op t u v store x y (OfIntegerAndPointer step n q e) (fits_value u x h) (fits_value v y g))
pair_fits s unit op t u v store x y st i j (OfDifference d q same e) h g =
    subst (λ r. WhereAny (FitsIn r) (operate_values unit r op store x y)) (sym e)
    (two_addresses I64 unit op store x y (λ a b k l. of_difference unit op store a b d st k l) (subst (λ r. FitsIn r x) q.is h) (subst (λ r. FitsIn r y) (same ∙ q.is) g) i j)
pair_fits s unit op t u v store x y st i j (OfPointers r q o e) h g =
    subst (λ w. WhereAny (FitsIn w) (operate_values unit w op store x y)) (sym e)
    (two_addresses I32 unit op store x y (λ a b k l. of_relation unit op store a b r) (subst (λ w. FitsIn w x) q.is h) (subst (λ w. FitsIn w y) o.is g) i j)

-- ---- conversions

pub number_fits : (k l : CInt) (v : Value) → FitsIn (Int l) v → FitsIn (Int k) (converted (Int k) v)
number_fits k l (Integer z) h = fits-convert k z
number_fits k l (Points p) h = absurd h
number_fits k l NoValue h = absurd h

pub address_fits : (t u : PlainType) (v : Value) → FitsIn (Ptr u) v → FitsIn (Ptr t) (converted (Ptr t) v)
address_fits t u (Points p) h = tt
address_fits t u (Integer z) h = absurd h
address_fits t u NoValue h = absurd h

pub null_fits : (t : PlainType) (k : CInt) (v : Value) → FitsIn (Int k) v → FitsIn (Ptr t) (converted (Ptr t) v)
null_fits t k (Integer z) h = tt
null_fits t k (Points p) h = absurd h
null_fits t k NoValue h = absurd h

-- what is converted to an integer type fits, where it is a number
converted_fits : (k : CInt) (o : Option Value) → WhereAny IsNumber (option_map (converted (Int k)) o) → WhereAny (FitsIn (Int k)) (option_map (converted (Int k)) o)
converted_fits k None h = tt
converted_fits k (Some (Integer z)) h = fits-convert k z
converted_fits k (Some (Points p)) h = absurd h
converted_fits k (Some NoValue) h = absurd h

pub compound_fits : (s : Sight) (structs : List StructType) (typed op : BinOp) (t u : PlainType) (store : Store) (v w : Value) → CompoundTypes s typed t u → FitsIn t v → FitsIn u w
    → WhereAny (FitsIn t) (compound structs t op store v u w)
compound_fits s structs typed op t u store v w (ToInteger i j) h g =
    let number = value_of_compound s structs typed op t u store v w (ToInteger i j) (fits_value t v h) (fits_value u w g) in
    let here : WhereAny IsNumber (compound structs (Int i.int) op store v (Int j.int) w) =
    subst (λ b. WhereAny IsNumber (compound structs (Int i.int) op store v b w)) j.is (subst (λ a. WhereAny (IsValueOf a) (compound structs a op store v u w)) i.is number) in
    let fit : WhereAny (FitsIn (Int i.int)) (compound structs (Int i.int) op store v (Int j.int) w) = converted_fits i.int _ here in
    subst (λ a. WhereAny (FitsIn a) (compound structs a op store v u w)) (sym i.is) (subst (λ b. WhereAny (FitsIn (Int i.int)) (compound structs (Int i.int) op store v b w)) (sym j.is) fit)
compound_fits s structs typed op t u store v w (ToPointer step q j) h g =
    where_all (IsValueOf t) (FitsIn t) (compound structs t op store v u w) (of_pointer t q.target q.is)
    (value_of_compound s structs typed op t u store v w (ToPointer step q j) (fits_value t v h) (fits_value u w g))

pub bump_fits : (t : PlainType) (op : BumpOp) (old new : Value) → FitsIn t old → FitsIn t new → FitsIn t (bump_value op old new)
bump_fits t PreUp old new h g = g
bump_fits t PreDown old new h g = g
bump_fits t PostUp old new h g = h
bump_fits t PostDown old new h g = h

-- ---- accesses

pub read_fits : {p : TranslationUnit} (at : Place) (q : Pointer) (t : PlainType) (s : State) → IsSoundState p s → Ends (FitsIn t) (read_any at q (scalar_of t) s)
read_fits at q (Int k) s st = by (load s.store q (IntegerType k)) refl ((gives_read_any {L = NoJump} at q (Int k)).at s)
  where
    by : (o : Option Value) → load s.store q (IntegerType k) ≡ o → EndsWell (IsValueOf (Int k)) NoJump (defined at o s) → Ends (FitsIn (Int k)) (defined at o s)
    by None e h = tt
    by (Some (Integer z)) e h = (sound_stores_read s.store st.now.blocks).value q k z e
    by (Some (Points x)) e h = absurd h
    by (Some NoValue) e h = absurd h
read_fits at q (Ptr t) s st = well_ends (FitsIn (Ptr t)) (read_any at q (Some PointerType) s) ((gives_read_any {L = NoJump} at q (Ptr t)).at s)
read_fits at q Void s st = tt
read_fits at q (Array t n) s st = tt
read_fits at q (Struct n) s st = tt
read_fits at q (Named x) s st = tt
read_fits at q (StructTag x tag) s st = tt
read_fits at q (EnumTag x place) s st = tt

pub read_scalar_fits : {p : TranslationUnit} (at : Place) (q : Pointer) (t : PlainType) (k : Scalar) (s : State) → scalar_of t ≡ Some k → IsSoundState p s → Ends (FitsIn t) (read at q k s)
read_scalar_fits at q t k s e st = subst (λ o. Ends (FitsIn t) (read_any at q o s)) e (read_fits at q t s st)

pub named_fits : {p : TranslationUnit} (at : Place) (t : PlainType) (x : Use) (o : Option ℕ) (s : State) → IsSoundState p s → Ends (FitsIn t) (named at t x o s)
named_fits at t x (Some n) s st = read_fits at (Into n 0) t s st
named_fits at (Ptr t) x None s st = cond_ends (FitsIn (Ptr t)) (is_of_library x) (give (Points Null)) (stop (Over (Undefined at))) s tt tt
named_fits at (Int k) x None s st = tt
named_fits at Void x None s st = tt
named_fits at (Array t n) x None s st = tt
named_fits at (Struct n) x None s st = tt
named_fits at (Named y) x None s st = tt
named_fits at (StructTag y tag) x None s st = tt
named_fits at (EnumTag y place) x None s st = tt
