-- Evaluations leave sound states, and give values that point into blocks.
use Rattle.std.proofs.Common.{◌≡◌, ℕ, ◌≤◌, ℤ, pos, negsuc, ◌+ℤ◌, ◌-ℤ◌, ◌*ℤ◌, Bool, true, false, cond, not, int_lt, int_le, ◌&&◌, if◌then◌else◌, nat_le, List, [], ◌∷◌, map, Option, Some, None, option_map, refl, subst, arith}
use Rattle.std.proofs.lemmas.Bool.{leb-true}
use Rattle.c_syntax.specs.declared.place.Place.{Place}
use Rattle.c_syntax.specs.declared.expression.Use.{Use}
use Rattle.c_syntax.specs.declared.expression.BinOp.{BinOp}
use Rattle.c_syntax.specs.declared.expression.BinOp.TheVariants as operator
use Rattle.c_syntax.specs.declared.expression.BumpOp.{BumpOp}
use Rattle.c_syntax.specs.declared.expression.BumpOp.TheVariants.{PreUp, PreDown, PostUp, PostDown}
use Rattle.c_syntax.specs.declared.expression.UnOp.{UnOp}
use Rattle.c_syntax.specs.declared.expression.UnOp.TheVariants as unary
use Rattle.c_syntax.specs.declared.types.CInt.{CInt}
use Rattle.c_syntax.specs.Ctypes.{PlainType, Int, int_type}
use Rattle.c_syntax.specs.Expressions.{Expression, Node, Number, Letter, Text, Variable, Unary, Binary, Both, Either, Choice, Assign, Bump, Call, Cast, SizeOfType, SizeOfExpr, Index, Dot, Arrow, Comma, Expressions, NoExpression, Following, place_of}
use Rattle.c_syntax.specs.Expressions.{type_of}
use Rattle.c_syntax.specs.Programs.{StructType, TranslationUnit}
use Rattle.c_syntax.specs.Layouts.{Scalar, IntegerType, PointerType, int_size, scalar_size, scalar_of, scalars_of, size_of, target_of, offset_of}
use Rattle.c_model.specs.Integers.{integer_type, operate, operate_one, truth, value_of_bits}
use Rattle.c_model.specs.Operators.{quotient}
use Rattle.c_syntax.specs.declared.types.CInt.TheVariants.{I8, U8, I16, U16, I32, U32, I64, U64}
use Rattle.c_model.specs.Conversions.{is_shift, operation_type}
use Rattle.c_model.specs.Memory.{Pointer, Null, Into, Value, Integer, Points, NoValue, Byte, Block, Store, block_at, load, load_bytes, value_from, number_of, save, copy_all, moved, offset_in, live_size, distance, equal_pointers, tested_value}
use Rattle.c_model.specs.Memory.{shifted, ◌>>=◌ as bind}
use Rattle.c_model.specs.State.{State, Over, Undefined, Stuck, Outcome, Normal, Stop, Evaluation, on_outcome, ◌>>=◌, ◌>>◌, give, stop, defined, computed, as_scalar, find, start_of, read, read_any, put_store, changed, write, copy_object, tested}
use Rattle.c_model.specs.Meaning.{Tables, Callee, literal, operate_value, farther, pointer_and_integer, integer_and_pointer, elements_between, two_pointers, operate_values, value_as, converted, compound_integers, compound, bump_operator, bump_value}
use Rattle.c_model.specs.Meaning.{is_zero, truth_value, is_of_library, pointed_to, indexed, is_member, address, assigned, is_array, is_pointer, named, size_value, unit_of}
use Rattle.c_model.specs.Meaning.{eval_with, place_with, evals_with, tables_of}
use Rattle.c_model.specs.HeapLaws.{BlocksStay}
use Rattle.c_model.specs.SoundStates.{IsPlaced, IsPlacedValue, IsSound, IsSoundState, AreScalarSizes, state_of, is_direct, AreDirect, AllDirect, After, Any, Placed, AllPlaced, CallsKeepSound}
use Rattle.c_model.proofs.BlocksLast.{stay_same, stay_onward, stay_saved, stay_copied}
use Rattle.c_model.proofs.SoundStores.{value_onward, value_saved, all_copied}
use Rattle.c_model.proofs.SoundLoads.{sound_stores_read}
use Rattle.c_model.proofs.SoundMemory.{memory_onward, start_placed, literal_placed}

-- ---- what an evaluation leaves

abbrev pub PlacedAt : Pointer → State → Type 0
PlacedAt p t = IsPlaced t.store p

pub vals_onward : (s t : State) (vs : List Value) → BlocksStay s.store t.store → AllPlaced vs s → AllPlaced vs t
vals_onward s t [] stay h = tt
vals_onward s t (v ∷ vs) stay h = (value_onward s.store t.store v stay h.0, vals_onward s t vs stay h.1)

pub after_bind : {source : TranslationUnit} {A B : Type 0} (P : A → State → Type 0) (Q : B → State → Type 0) (s : State) (o : Outcome A) (f : A → Evaluation B) → After source P s o
    → ((a : A) (t : State) → BlocksStay s.store t.store → IsSoundState source t → P a t → After source Q t (f a t)) → After source Q s (on_outcome o f)
after_bind P Q s (Normal a t) f h k =
    let r = k a t h.stay h.sound h.gives in
    record { stay = stay_onward s.store t.store (state_of (f a t)).store h.stay r.stay; sound = r.sound; gives = r.gives }
after_bind P Q s (Stop e t) f h k = record { stay = h.stay; sound = h.sound; gives = h.gives }

pub after_give : {source : TranslationUnit} {A : Type 0} (P : A → State → Type 0) (s : State) (a : A) → IsSoundState source s → P a s → After source P s (give a s)
after_give P s a st h = record { stay = stay_same s.store; sound = st; gives = h }

pub after_over : {source : TranslationUnit} {A : Type 0} (P : A → State → Type 0) (s : State) (e : _) → IsSoundState source s → After {A = A} source P s (stop (Over e) s)
after_over P s e st = record { stay = stay_same s.store; sound = st; gives = tt }

pub after_stuck : {source : TranslationUnit} {A : Type 0} (P : A → State → Type 0) (s : State) → IsSoundState source s → After {A = A} source P s (stop Stuck s)
after_stuck P s st = record { stay = stay_same s.store; sound = st; gives = tt }

pub after_defined : {source : TranslationUnit} {A : Type 0} (P : A → State → Type 0) (s : State) (at : Place) (o : Option A) → IsSoundState source s → ((a : A) → o ≡ Some a → P a s) → After source P s (defined at o s)
after_defined P s at None st h = after_over P s (Undefined at) st
after_defined P s at (Some a) st h = after_give P s a st (h a refl)

pub after_any : {source : TranslationUnit} {A : Type 0} (s : State) (at : Place) (f : Store → Option A) → IsSoundState source s → After source Any s (computed at f s)
after_any s at f st = after_defined Any s at (f s.store) st (λ a e. tt)

pub after_cond : {source : TranslationUnit} {A : Type 0} (P : A → State → Type 0) (s : State) (t : Bool) (m n : Evaluation A) → After source P s (m s) → After source P s (n s) → After source P s (cond t m n s)
after_cond P s true m n h k = h
after_cond P s false m n h k = k

-- ---- values

loaded_placed : (store : Store) (p : Pointer) (k : Scalar) (v : Value) → IsSound store → load store p k ≡ Some v → IsPlacedValue store v
loaded_placed store p k (Integer z) h e = tt
loaded_placed store p k NoValue h e = tt
loaded_placed store p PointerType (Points q) h e = (sound_stores_read store h).offset p q e
loaded_placed store p (IntegerType k) (Points q) h e = absurd (by (load_bytes store p (int_size k)) e)
  where
    number : (o : Option ℕ) → option_map (λ n. Integer (value_of_bits k n)) o ≡ Some (Points q) → ⊥
    number None e = absurd cc
    number (Some n) e = absurd cc

    by : (o : Option (List Byte)) → bind o (value_from (IntegerType k)) ≡ Some (Points q) → ⊥
    by None e = absurd cc
    by (Some bytes) e = number (number_of bytes) e

pub after_read : {source : TranslationUnit} (s : State) (at : Place) (p : Pointer) (k : Scalar) → IsSoundState source s → After source Placed s (read at p k s)
after_read s at p k st = after_defined Placed s at (load s.store p k) st (λ v e. loaded_placed s.store p k v st.now.blocks e)

pub after_read_any : {source : TranslationUnit} (s : State) (at : Place) (p : Pointer) (o : Option Scalar) → IsSoundState source s → After source Placed s (read_any at p o s)
after_read_any s at p None st = after_give Placed s NoValue st tt
after_read_any s at p (Some k) st = after_read s at p k st

moved_placed : (store : Store) (p q : Pointer) (d : ℤ) → moved store p d ≡ Some q → IsPlaced store q
moved_placed store Null q d e = absurd cc
moved_placed store (Into n i) q d e = by (pos i +ℤ d) (block_at store n) refl e
  where
    inside : (b : Block) (j : ℕ) → block_at store n ≡ Some b → (t : Bool) → nat_le j b.size ≡ t → (if t then Some (Into n j) else None) ≡ Some q → IsPlaced store q
    inside b j at true le e = let same : Into n j ≡ q = cc in subst (IsPlaced store) same (b, at, leb-true _ _ le)
    inside b j at false le e = absurd cc

    sized : (b : Block) (j : ℕ) → block_at store n ≡ Some b → (t : Bool) → offset_in n (pos j) (if t then Some b.size else None) ≡ Some q → IsPlaced store q
    sized b j at true e = inside b j at (nat_le j b.size) refl e
    sized b j at false e = absurd cc

    by : (z : ℤ) (o : Option Block) → block_at store n ≡ o → offset_in n z (live_size o) ≡ Some q → IsPlaced store q
    by (negsuc j) o at e = absurd cc
    by (pos j) None at e = absurd cc
    by (pos j) (Some b) at e = sized b j at b.live e

points_placed : (store : Store) (o : Option Pointer) (v : Value) → ((q : Pointer) → o ≡ Some q → IsPlaced store q) → option_map Points o ≡ Some v → IsPlacedValue store v
points_placed store None v h e = absurd cc
points_placed store (Some q) v h e = let same : Points q ≡ v = cc in subst (IsPlacedValue store) same (h q refl)

farther_placed : (store : Store) (unit : ℕ) (p q : Pointer) (i : ℤ) → farther store unit p i ≡ Some q → IsPlaced store q
farther_placed store unit p q i e = moved_placed store p q (i *ℤ pos unit) e

plus_placed : (store : Store) (unit : ℕ) (p : Pointer) (i : ℤ) (v : Value) → option_map Points (farther store unit p i) ≡ Some v → IsPlacedValue store v
plus_placed store unit p i v e = points_placed store (farther store unit p i) v (λ q f. farther_placed store unit p q i f) e

pointer_integer : (unit : ℕ) (op : BinOp) (store : Store) (p : Pointer) (i : ℤ) (v : Value) → pointer_and_integer unit op store p i ≡ Some v → IsPlacedValue store v
pointer_integer unit operator.Add store p i v e = plus_placed store unit p i v e
pointer_integer unit operator.Sub store p i v e = plus_placed store unit p (pos 0 -ℤ i) v e
pointer_integer unit operator.Mul store p i v e = absurd cc
pointer_integer unit operator.Div store p i v e = absurd cc
pointer_integer unit operator.Rem store p i v e = absurd cc
pointer_integer unit operator.Shl store p i v e = absurd cc
pointer_integer unit operator.Shr store p i v e = absurd cc
pointer_integer unit operator.BitAnd store p i v e = absurd cc
pointer_integer unit operator.BitOr store p i v e = absurd cc
pointer_integer unit operator.BitXor store p i v e = absurd cc
pointer_integer unit operator.Eq store p i v e = absurd cc
pointer_integer unit operator.Ne store p i v e = absurd cc
pointer_integer unit operator.Lt store p i v e = absurd cc
pointer_integer unit operator.Le store p i v e = absurd cc
pointer_integer unit operator.Gt store p i v e = absurd cc
pointer_integer unit operator.Ge store p i v e = absurd cc

integer_pointer : (unit : ℕ) (op : BinOp) (store : Store) (i : ℤ) (p : Pointer) (v : Value) → integer_and_pointer unit op store i p ≡ Some v → IsPlacedValue store v
integer_pointer unit operator.Add store i p v e = plus_placed store unit p i v e
integer_pointer unit operator.Sub store i p v e = absurd cc
integer_pointer unit operator.Mul store i p v e = absurd cc
integer_pointer unit operator.Div store i p v e = absurd cc
integer_pointer unit operator.Rem store i p v e = absurd cc
integer_pointer unit operator.Shl store i p v e = absurd cc
integer_pointer unit operator.Shr store i p v e = absurd cc
integer_pointer unit operator.BitAnd store i p v e = absurd cc
integer_pointer unit operator.BitOr store i p v e = absurd cc
integer_pointer unit operator.BitXor store i p v e = absurd cc
integer_pointer unit operator.Eq store i p v e = absurd cc
integer_pointer unit operator.Ne store i p v e = absurd cc
integer_pointer unit operator.Lt store i p v e = absurd cc
integer_pointer unit operator.Le store i p v e = absurd cc
integer_pointer unit operator.Gt store i p v e = absurd cc
integer_pointer unit operator.Ge store i p v e = absurd cc

-- no value but a pointer can be out of place
abbrev NoPoints : Option Value → Type 0
NoPoints o = (q : Pointer) → o ≡ Some (Points q) → ⊥

unless_points : (store : Store) (o : Option Value) (v : Value) → NoPoints o → o ≡ Some v → IsPlacedValue store v
unless_points store o (Integer z) h e = tt
unless_points store o (Points q) h e = absurd (h q e)
unless_points store o NoValue h e = tt

no_integer : {A : Type 0} (o : Option A) (f : A → ℤ) → NoPoints (option_map (λ a. Integer (f a)) o)
no_integer None f q e = absurd cc
no_integer (Some a) f q e = absurd cc

no_elements : (unit : ℕ) (o : Option ℤ) → NoPoints (elements_between unit o)
no_elements unit None q e = absurd cc
no_elements unit (Some d) q e = no_integer (quotient d (pos unit)) (λ z. z) q e

no_two_pointers : (unit : ℕ) (op : BinOp) (store : Store) (p r : Pointer) → NoPoints (two_pointers unit op store p r)
no_two_pointers unit operator.Sub store p r = no_elements unit (distance store p r)
no_two_pointers unit operator.Eq store p r = no_integer (equal_pointers store p r) truth
no_two_pointers unit operator.Ne store p r = no_integer (equal_pointers store p r) (λ b. truth (not b))
no_two_pointers unit operator.Lt store p r = no_integer (distance store p r) (λ d. truth (int_lt d (pos 0)))
no_two_pointers unit operator.Le store p r = no_integer (distance store p r) (λ d. truth (int_le d (pos 0)))
no_two_pointers unit operator.Gt store p r = no_integer (distance store p r) (λ d. truth (int_lt (pos 0) d))
no_two_pointers unit operator.Ge store p r = no_integer (distance store p r) (λ d. truth (int_le (pos 0) d))
no_two_pointers unit operator.Add store p r = λ q e. absurd cc
no_two_pointers unit operator.Mul store p r = λ q e. absurd cc
no_two_pointers unit operator.Div store p r = λ q e. absurd cc
no_two_pointers unit operator.Rem store p r = λ q e. absurd cc
no_two_pointers unit operator.Shl store p r = λ q e. absurd cc
no_two_pointers unit operator.Shr store p r = λ q e. absurd cc
no_two_pointers unit operator.BitAnd store p r = λ q e. absurd cc
no_two_pointers unit operator.BitOr store p r = λ q e. absurd cc
no_two_pointers unit operator.BitXor store p r = λ q e. absurd cc

operated_placed : (unit : ℕ) (t : PlainType) (op : BinOp) (store : Store) (x y v : Value) → operate_values unit t op store x y ≡ Some v → IsPlacedValue store v
operated_placed unit t op store (Integer x) (Integer y) v e = unless_points store (option_map Integer (operate t op x y)) v (no_integer (operate t op x y) (λ z. z)) e
operated_placed unit t op store (Integer x) (Points q) v e = integer_pointer unit op store x q v e
operated_placed unit t op store (Integer x) NoValue v e = absurd cc
operated_placed unit t op store (Points p) (Integer y) v e = pointer_integer unit op store p y v e
operated_placed unit t op store (Points p) (Points q) v e = unless_points store (two_pointers unit op store p q) v (no_two_pointers unit op store p q) e
operated_placed unit t op store (Points p) NoValue v e = absurd cc
operated_placed unit t op store NoValue y v e = absurd cc

one_placed : (store : Store) (t : PlainType) (op : UnOp) (x v : Value) → operate_value t op x ≡ Some v → IsPlacedValue store v
one_placed store t op NoValue v e = absurd cc
one_placed store t op (Points p) v e = absurd cc
one_placed store t op (Integer x) v e = unless_points store (option_map Integer (operate_one t op x)) v (no_integer (operate_one t op x) (λ z. z)) e

value_as_placed : (store : Store) (k : Scalar) (v : Value) → IsPlacedValue store v → IsPlacedValue store (value_as k v)
value_as_placed store (IntegerType k) (Integer z) h = tt
value_as_placed store PointerType (Integer z) h = tt
value_as_placed store (IntegerType k) (Points p) h = tt
value_as_placed store PointerType (Points p) h = h
value_as_placed store k NoValue h = tt

converted_placed : (store : Store) (t : PlainType) (v : Value) → IsPlacedValue store v → IsPlacedValue store (converted t v)
converted_placed store t v h = by (scalar_of t)
  where
    by : (o : Option Scalar) → IsPlacedValue store (elim o [ None ↦ NoValue | Some k ↦ value_as k v ])
    by None = tt
    by (Some k) = value_as_placed store k v h

convert_placed : (store : Store) (t : PlainType) (o : Option Value) (v : Value) → ((w : Value) → o ≡ Some w → IsPlacedValue store w) → option_map (converted t) o ≡ Some v → IsPlacedValue store v
convert_placed store t None v h e = absurd cc
convert_placed store t (Some w) v h e = let same : converted t w ≡ v = cc in subst (IsPlacedValue store) same (converted_placed store t w (h w refl))

pub compound_placed : (structs : List StructType) (t : PlainType) (op : BinOp) (store : Store) (x : Value) (u : PlainType) (y v : Value) → compound structs t op store x u y ≡ Some v → IsPlacedValue store v
compound_placed structs t op store x u y v e = by (integer_type t) e
  where
    two : (k : CInt) (o : Option CInt) → elim o [ None ↦ None | Some l ↦ compound_integers k op store x l y ] ≡ Some v → IsPlacedValue store v
    two k None e = absurd cc
    two k (Some l) e =
        convert_placed store (Int k) (operate_values 1 (Int (operation_type op k l)) op store (converted (Int (operation_type op k l)) x) (if is_shift op then y else converted (Int (operation_type op k l)) y)) v
        (λ w f. operated_placed 1 (Int (operation_type op k l)) op store (converted (Int (operation_type op k l)) x) (if is_shift op then y else converted (Int (operation_type op k l)) y) w f) e

    by : (o : Option CInt) → elim o [ None ↦ operate_values (size_of structs (target_of t)) t op store x y | Some k ↦ elim (integer_type u) [ None ↦ None | Some l ↦ compound_integers k op store x l y ] ] ≡ Some v → IsPlacedValue store v
    by None e = operated_placed (size_of structs (target_of t)) t op store x y v e
    by (Some k) e = two k (integer_type u) e

bumped_placed : (store : Store) (op : BumpOp) (x v : Value) → IsPlacedValue store x → IsPlacedValue store v → IsPlacedValue store (bump_value op x v)
bumped_placed store PreUp x v h k = k
bumped_placed store PreDown x v h k = k
bumped_placed store PostUp x v h k = h
bumped_placed store PostDown x v h k = h

indexed_placed : (unit : ℕ) (store : Store) (x y : Value) (q : Pointer) → indexed unit store x y ≡ Some q → IsPlaced store q
indexed_placed unit store (Points p) (Integer i) q e = farther_placed store unit p q i e
indexed_placed unit store (Integer i) (Points p) q e = farther_placed store unit p q i e
indexed_placed unit store (Points p) (Points r) q e = absurd cc
indexed_placed unit store (Integer i) (Integer j) q e = absurd cc
indexed_placed unit store (Points p) NoValue q e = absurd cc
indexed_placed unit store (Integer i) NoValue q e = absurd cc
indexed_placed unit store NoValue y q e = absurd cc

-- ---- changes of the store

pub after_changed : {source : TranslationUnit} (s : State) (at : Place) (f : Store → Option Store) → IsSoundState source s → ((store : Store) → f s.store ≡ Some store → BlocksStay s.store store × IsSound store) → After source Any s (changed at f s)
after_changed {source = source} s at f st h = by (f s.store) refl
  where
    by : (o : Option Store) → f s.store ≡ o → After source Any s ((defined at o >>= put_store) s)
    by None e = after_over Any s (Undefined at) st
    by (Some store) e =
        let k = h store e in
        record { stay = k.0; sound = record { now = memory_onward source s.store store s.scope k.0 k.1 st.now; past = st.past }; gives = tt }

pub after_write : {source : TranslationUnit} (s : State) (at : Place) (p : Pointer) (k : Scalar) (v : Value) → IsSoundState source s → Placed v s → After source Any s (write at p k v s)
after_write s at p k v st h = after_changed s at (λ store. save store p k v) st (λ store e. (stay_saved s.store store p (scalar_size k) _ e, value_saved s.store store p k v st.now.blocks h e))

sizes_few : (cs : List (ℕ × Scalar)) → AreScalarSizes (map (λ (c : ℕ × Scalar). (c.0, scalar_size c.1)) cs)
sizes_few [] = tt
sizes_few (c ∷ cs) = (few c.1, sizes_few cs)
  where
    few : (k : Scalar) → scalar_size k ≤ 8
    few (IntegerType I8) = omega arith
    few (IntegerType U8) = omega arith
    few (IntegerType I16) = omega arith
    few (IntegerType U16) = omega arith
    few (IntegerType I32) = omega arith
    few (IntegerType U32) = omega arith
    few (IntegerType I64) = omega arith
    few (IntegerType U64) = omega arith
    few PointerType = omega arith

pub after_copy : {source : TranslationUnit} (s : State) (at : Place) (p q : Pointer) (cs : List (ℕ × Scalar)) → IsSoundState source s → After source Any s (copy_object at p q (map (λ (c : ℕ × Scalar). (c.0, scalar_size c.1)) cs) s)
after_copy s at p q cs st =
    after_changed s at (λ store. copy_all store p q (map (λ (c : ℕ × Scalar). (c.0, scalar_size c.1)) cs)) st
    (λ store e. (stay_copied s.store store p q _ e, all_copied s.store store p q _ st.now.blocks (sizes_few cs) e))

after_write_give : {source : TranslationUnit} (s : State) (at : Place) (p : Pointer) (k : Scalar) (v w : Value) → IsSoundState source s → Placed v s → Placed w s → After source Placed s ((write at p k v >> give w) s)
after_write_give s at p k v w st h g =
    after_bind Any Placed s (write at p k v s) (λ _. give w) (after_write s at p k v st h) (λ a t stay st2 u. after_give Placed t w st2 (value_onward s.store t.store w stay g))

-- ---- parts of expressions

-- the place of an expression that has an address, but for a member, which is looked at when its address is taken
abbrev pub PlaceOf : Expression → Pointer → State → Type 0
PlaceOf e p t = is_member e ≡ false → is_direct e ≡ true → IsPlaced t.store p

pub after_tested : {source : TranslationUnit} (s : State) (at : Place) (o : Outcome Value) → After source Placed s o → After source Any s (on_outcome o (tested at))
after_tested s at o h = after_bind Placed Any s o (tested at) h (λ v t stay st g. after_any t at (λ store. tested_value store v) st)

pub after_truth : {source : TranslationUnit} (s : State) (at : Place) (o : Outcome Value) → After source Placed s o → After source Placed s (on_outcome (on_outcome o (tested at)) (λ y. give (truth_value y)))
after_truth s at o h = after_bind Any Placed s (on_outcome o (tested at)) (λ y. give (truth_value y)) (after_tested s at o h) (λ y t stay st g. after_give Placed t (truth_value y) st tt)

pub after_pointed : {source : TranslationUnit} (s : State) (v : Value) → IsSoundState source s → Placed v s → After source PlacedAt s (pointed_to v s)
after_pointed s (Points p) st h = after_give PlacedAt s p st h
after_pointed s (Integer z) st h = after_stuck PlacedAt s st
after_pointed s NoValue st h = after_stuck PlacedAt s st

after_address : {source : TranslationUnit} (s : State) (e : Expression) (p : Pointer) → IsSoundState source s → is_direct e ≡ true → PlaceOf e p s → After source Placed s (address e p s)
after_address {source = source} s e p st direct h = by (is_member e) refl
  where
    by : (t : Bool) → is_member e ≡ t → After source Placed s ((if t then computed (place_of e) (λ store. option_map Points (moved store p (pos 0))) else give (Points p)) s)
    by true m = after_defined Placed s (place_of e) (option_map Points (moved s.store p (pos 0))) st (λ v f. points_placed s.store (moved s.store p (pos 0)) v (λ q g. moved_placed s.store p q (pos 0) g) f)
    by false m = after_give Placed s (Points p) st (h m direct)

after_named : {source : TranslationUnit} (s : State) (at : Place) (t : PlainType) (x : Use) (o : Option ℕ) → IsSoundState source s → After source Placed s (named at t x o s)
after_named s at t x (Some n) st = after_read_any s at (Into n 0) (scalar_of t) st
after_named s at t x None st = after_cond Placed s (is_pointer t && is_of_library x) (give (Points Null)) (stop (Over (Undefined at))) (after_give Placed s (Points Null) st tt) (after_over Placed s (Undefined at) st)

pub after_scalar : {source : TranslationUnit} {A : Type 0} (P : A → State → Type 0) (s : State) (o : Option Scalar) (go : Scalar → Evaluation A) → IsSoundState source s → ((k : Scalar) → After source P s (go k s))
    → After source P s (as_scalar o go s)
after_scalar P s None go st h = after_stuck P s st
after_scalar P s (Some k) go st h = h k

after_assigned : {source : TranslationUnit} (P : Pointer → State → Type 0) (structs : List StructType) (s : State) (at : Place) (t : PlainType) (o : Option Scalar) (p : Pointer) (v : Evaluation Value) (q : Evaluation Pointer)
    → After source Placed s (v s) → After source P s (q s)
    → After source Placed s (assigned structs at t o p v q s)
after_assigned P structs s at t (Some k) p v q h g = after_bind Placed Placed s (v s) (λ x. write at p k x >> give x) h (λ x u stay su w. after_write_give u at p k x x su w w)
after_assigned P structs s at t None p v q h g =
    after_bind P Placed s (q s) (λ y. copy_object at p y (map (λ (c : ℕ × Scalar). (c.0, scalar_size c.1)) (scalars_of structs t)) >> give NoValue) g
    (λ y u stay su w. after_bind Any Placed u (copy_object at p y (map (λ (c : ℕ × Scalar). (c.0, scalar_size c.1)) (scalars_of structs t)) u) (λ _. give NoValue) (after_copy u at p y (scalars_of structs t) su)
    (λ a t2 stay2 s2 x. after_give Placed t2 NoValue s2 tt))

placed_at : {source : TranslationUnit} (e : Expression) (u : State) (v : Value) → IsSoundState source u → Placed v u → After source (PlaceOf e) u (pointed_to v u)
placed_at e u (Points p) su g = after_give (PlaceOf e) u p su (λ m d. g)
placed_at e u (Integer z) su g = after_stuck (PlaceOf e) u su
placed_at e u NoValue su g = after_stuck (PlaceOf e) u su

-- another property of what is given
lesser : {source : TranslationUnit} (a b : Expression) (s : State) (o : Outcome Pointer) → ((p : Pointer) (t : State) → PlaceOf a p t → PlaceOf b p t) → After source (PlaceOf a) s o → After source (PlaceOf b) s o
lesser a b s (Normal p t) k h = record { stay = h.stay; sound = h.sound; gives = k p t h.gives }
lesser a b s (Stop e t) k h = record { stay = h.stay; sound = h.sound; gives = h.gives }

after_cast : {source : TranslationUnit} (s : State) (to : PlainType) (a : Expression) (p : Evaluation Pointer) (v : Evaluation Value) (b : Bool) → (b ≡ true → is_direct a ≡ true) → After source (PlaceOf a) s (p s) → After source Placed s (v s)
    → After source Placed s (cond b (p >>= address a) (v >>= λ x. give (converted to x)) s)
after_cast s to a p v true direct h g = after_bind (PlaceOf a) Placed s (p s) (address a) h (λ q u stay su k. after_address u a q su (direct refl) k)
after_cast s to a p v false direct h g = after_bind Placed Placed s (v s) (λ x. give (converted to x)) g (λ x u stay su k. after_give Placed u (converted to x) su (converted_placed u.store to x k))

-- ---- expressions

module _ {source : TranslationUnit} (call : Callee) (c : CallsKeepSound source call) where
  abbrev T : Tables
  T = tables_of source

  mutual
    pub sound_eval : (e : Expression) → AreDirect e → (s : State) → IsSoundState source s → After source Placed s (eval_with T e call s)
    sound_eval (Node at t (Number n k)) h s st = after_give Placed s (Integer n) st tt
    sound_eval (Node at t (Letter n)) h s st = after_give Placed s (Integer n) st tt
    sound_eval (Node at t (Text n)) h s st = after_give Placed s NoValue st tt
    sound_eval (Node at t (Variable x)) h s st = after_named s at t x (find x.decl s.scope) st
    sound_eval (Node at t (Unary unary.Address a)) h s st =
        after_bind (PlaceOf a) Placed s (place_with T a call s) (address a) (sound_place a h.1 s st) (λ p u stay su g. after_address u a p su h.0 g)
    sound_eval (Node at t (Unary unary.Deref a)) h s st =
        after_bind PlacedAt Placed s (on_outcome (eval_with T a call s) pointed_to) (λ p. read_any at p (scalar_of t))
        (after_bind Placed PlacedAt s (eval_with T a call s) pointed_to (sound_eval a h s st) (λ v u stay su g. after_pointed u v su g)) (λ p u stay su g. after_read_any u at p (scalar_of t) su)
    sound_eval (Node at t (Unary unary.Not a)) h s st =
        after_bind Any Placed s _ (λ x. give (Integer (truth (is_zero x)))) (after_tested s (place_of a) (eval_with T a call s) (sound_eval a h s st)) (λ x u stay su g. after_give Placed u (Integer (truth (is_zero x))) su tt)
    sound_eval (Node at t (Unary unary.Plus a)) h s st =
        after_bind Placed Placed s (eval_with T a call s) (λ x. defined at (operate_value t unary.Plus x)) (sound_eval a h s st)
        (λ x u stay su g. after_defined Placed u at (operate_value t unary.Plus x) su (λ v e. one_placed u.store t unary.Plus x v e))
    sound_eval (Node at t (Unary unary.Minus a)) h s st =
        after_bind Placed Placed s (eval_with T a call s) (λ x. defined at (operate_value t unary.Minus x)) (sound_eval a h s st)
        (λ x u stay su g. after_defined Placed u at (operate_value t unary.Minus x) su (λ v e. one_placed u.store t unary.Minus x v e))
    sound_eval (Node at t (Unary unary.Flip a)) h s st =
        after_bind Placed Placed s (eval_with T a call s) (λ x. defined at (operate_value t unary.Flip x)) (sound_eval a h s st)
        (λ x u stay su g. after_defined Placed u at (operate_value t unary.Flip x) su (λ v e. one_placed u.store t unary.Flip x v e))
    sound_eval (Node at t (Binary op a b)) h s st =
        after_bind Placed Placed s (eval_with T a call s) _ (sound_eval a h.0 s st) (λ x u stay su g.
        after_bind Placed Placed u (eval_with T b call u) _ (sound_eval b h.1 u su) (λ y w stay2 sw f.
        after_defined Placed w at _ sw (λ v e. operated_placed (unit_of T.structs (type_of a) (type_of b)) t op w.store x y v e)))
    sound_eval (Node at t (Both a b)) h s st =
        after_bind Any Placed s _ _ (after_tested s (place_of a) (eval_with T a call s) (sound_eval a h.0 s st)) (λ x u stay su g.
        after_cond Placed u (is_zero x) _ _ (after_give Placed u (Integer (pos 0)) su tt) (after_truth u (place_of b) (eval_with T b call u) (sound_eval b h.1 u su)))
    sound_eval (Node at t (Either a b)) h s st =
        after_bind Any Placed s _ _ (after_tested s (place_of a) (eval_with T a call s) (sound_eval a h.0 s st)) (λ x u stay su g.
        after_cond Placed u (is_zero x) _ _ (after_truth u (place_of b) (eval_with T b call u) (sound_eval b h.1 u su)) (after_give Placed u (Integer (pos 1)) su tt))
    sound_eval (Node at t (Choice a b d)) h s st =
        after_bind Any Placed s _ _ (after_tested s (place_of a) (eval_with T a call s) (sound_eval a h.0 s st)) (λ x u stay su g.
        after_cond Placed u (is_zero x) _ _ (sound_eval d h.2 u su) (sound_eval b h.1 u su))
    sound_eval (Node at t (Assign None a b)) h s st =
        after_bind (PlaceOf a) Placed s (place_with T a call s) _ (sound_place a h.0 s st) (λ p u stay su g.
        after_assigned (PlaceOf b) T.structs u at t (scalar_of t) p (eval_with T b call) (place_with T b call) (sound_eval b h.1 u su) (sound_place b h.1 u su))
    sound_eval (Node at t (Assign (Some op) a b)) h s st =
        after_bind (PlaceOf a) Placed s (place_with T a call s) _ (sound_place a h.0 s st) (λ p u stay su g.
        after_scalar Placed u (scalar_of t) _ su (λ k.
        after_bind Placed Placed u (read at p k u) _ (after_read u at p k su) (λ x w stay2 sw f.
        after_bind Placed Placed w (eval_with T b call w) _ (sound_eval b h.1 w sw) (λ y z stay3 sz i.
        after_bind Placed Placed z (computed at (λ store. compound T.structs t op store x (type_of b) y) z) _
        (after_defined Placed z at (compound T.structs t op z.store x (type_of b) y) sz (λ v e. compound_placed T.structs t op z.store x (type_of b) y v e)) (λ v m stay4 sm j.
        after_write_give m at p k v v sm j j)))))
    sound_eval (Node at t (Bump op a)) h s st =
        after_bind (PlaceOf a) Placed s (place_with T a call s) _ (sound_place a h s st) (λ p u stay su g.
        after_scalar Placed u (scalar_of t) _ su (λ k.
        after_bind Placed Placed u (read at p k u) _ (after_read u at p k su) (λ x w stay2 sw f.
        after_bind Placed Placed w (computed at (λ store. compound T.structs t (bump_operator op) store x int_type (Integer (pos 1))) w) _
        (after_defined Placed w at (compound T.structs t (bump_operator op) w.store x int_type (Integer (pos 1))) sw (λ v e. compound_placed T.structs t (bump_operator op) w.store x int_type (Integer (pos 1)) v e)) (λ v m stay3 sm j.
        after_write_give m at p k v (bump_value op x v) sm j (bumped_placed m.store op x v (value_onward w.store m.store x stay3 f) j)))))
    sound_eval (Node at t (Call f args)) h s st = after_bind AllPlaced Placed s (evals_with T args call s) _ (sound_evals args h s st) (λ vs u stay su g. c at f vs u su g)
    sound_eval (Node at t (Cast to a)) h s st =
        after_cast s to a (place_with T a call) (eval_with T a call) (is_array (type_of a)) (λ e. h.0 e) (sound_place a h.1 s st) (sound_eval a h.1 s st)
    sound_eval (Node at t (SizeOfType u)) h s st = after_give Placed s (size_value T u) st tt
    sound_eval (Node at t (SizeOfExpr a)) h s st = after_give Placed s (size_value T (type_of a)) st tt
    sound_eval (Node at t (Index a b)) h s st =
        after_bind Placed Placed s (eval_with T a call s) _ (sound_eval a h.0 s st) (λ x u stay su g.
        after_bind Placed Placed u (eval_with T b call u) _ (sound_eval b h.1 u su) (λ y w stay2 sw f.
        after_bind Any Placed w _ _ (after_any w at (λ store. indexed (unit_of T.structs (type_of a) (type_of b)) store x y) sw) (λ p z stay3 sz i. after_read_any z at p (scalar_of t) sz)))
    sound_eval (Node at t (Dot a m)) h s st =
        after_bind (PlaceOf a) Placed s (place_with T a call s) _ (sound_place a h s st) (λ p u stay su g. after_read_any u at (shifted p (offset_of T.structs (type_of a) m)) (scalar_of t) su)
    sound_eval (Node at t (Arrow a m)) h s st =
        after_bind Placed Placed s (eval_with T a call s) _ (sound_eval a h s st) (λ x u stay su g.
        after_bind PlacedAt Placed u (pointed_to x u) _ (after_pointed u x su g) (λ p w stay2 sw f. after_read_any w at (shifted p (offset_of T.structs (target_of (type_of a)) m)) (scalar_of t) sw))
    sound_eval (Node at t (Comma a b)) h s st = after_bind Placed Placed s (eval_with T a call s) _ (sound_eval a h.0 s st) (λ x u stay su g. sound_eval b h.1 u su)

    pub sound_place : (e : Expression) → AreDirect e → (s : State) → IsSoundState source s → After source (PlaceOf e) s (place_with T e call s)
    sound_place (Node at t (Variable x)) h s st =
        after_defined (PlaceOf (Node at t (Variable x))) s at (start_of (find x.decl s.scope)) st (λ p e m d. start_placed source s.store s.scope x.decl p st.now.names e)
    sound_place (Node at t (Text n)) h s st = after_give (PlaceOf (Node at t (Text n))) s (literal T n) st (λ m d. literal_placed source s.store n st.now.literals)
    sound_place (Node at t (Unary unary.Deref a)) h s st =
        after_bind Placed (PlaceOf (Node at t (Unary unary.Deref a))) s (eval_with T a call s) pointed_to (sound_eval a h s st) (λ v u stay su g. placed_at (Node at t (Unary unary.Deref a)) u v su g)
    sound_place (Node at t (Index a b)) h s st =
        after_bind Placed (PlaceOf (Node at t (Index a b))) s (eval_with T a call s) _ (sound_eval a h.0 s st) (λ x u stay su g.
        after_bind Placed (PlaceOf (Node at t (Index a b))) u (eval_with T b call u) _ (sound_eval b h.1 u su) (λ y w stay2 sw f.
        after_defined (PlaceOf (Node at t (Index a b))) w at (indexed (unit_of T.structs (type_of a) (type_of b)) w.store x y) sw
        (λ p e m d. indexed_placed (unit_of T.structs (type_of a) (type_of b)) w.store x y p e)))
    sound_place (Node at t (Dot a m)) h s st =
        after_bind (PlaceOf a) (PlaceOf (Node at t (Dot a m))) s (place_with T a call s) _ (sound_place a h s st)
        (λ p u stay su g. after_give (PlaceOf (Node at t (Dot a m))) u (shifted p (offset_of T.structs (type_of a) m)) su (λ i d. absurd cc))
    sound_place (Node at t (Arrow a m)) h s st =
        after_bind Placed (PlaceOf (Node at t (Arrow a m))) s (eval_with T a call s) _ (sound_eval a h s st) (λ x u stay su g.
        after_bind PlacedAt (PlaceOf (Node at t (Arrow a m))) u (pointed_to x u) _ (after_pointed u x su g)
        (λ p w stay2 sw f. after_give (PlaceOf (Node at t (Arrow a m))) w (shifted p (offset_of T.structs (target_of (type_of a)) m)) sw (λ i d. absurd cc)))
    sound_place (Node at t (Assign None a b)) h s st =
        after_bind (PlaceOf a) (PlaceOf (Node at t (Assign None a b))) s (place_with T a call s) _ (sound_place a h.0 s st) (λ p u stay su g.
        after_bind Placed (PlaceOf (Node at t (Assign None a b))) u _ (λ _. give p)
        (after_assigned (PlaceOf b) T.structs u at t (scalar_of t) p (eval_with T b call) (place_with T b call) (sound_eval b h.1 u su) (sound_place b h.1 u su))
        (λ v w stay2 sw f. after_give (PlaceOf (Node at t (Assign None a b))) w p sw (λ m d. absurd cc)))
    sound_place (Node at t (Comma a b)) h s st =
        after_bind Placed (PlaceOf (Node at t (Comma a b))) s (eval_with T a call s) _ (sound_eval a h.0 s st) (λ x u stay su g.
        lesser b (Node at t (Comma a b)) u (place_with T b call u) (λ p w f m d. absurd cc) (sound_place b h.1 u su))
    sound_place (Node at t k) h s st = after_over (PlaceOf (Node at t k)) s (Undefined at) st

    pub sound_evals : (es : Expressions) → AllDirect es → (s : State) → IsSoundState source s → After source AllPlaced s (evals_with T es call s)
    sound_evals NoExpression h s st = after_give AllPlaced s [] st tt
    sound_evals (Following e es) h s st =
        after_bind Placed AllPlaced s (eval_with T e call s) _ (sound_eval e h.0 s st) (λ v u stay su g.
        after_bind AllPlaced AllPlaced u (evals_with T es call u) _ (sound_evals es h.1 u su) (λ vs w stay2 sw f.
        after_give AllPlaced w (v ∷ vs) sw (value_onward u.store w.store v stay2 g, f)))
