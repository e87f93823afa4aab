-- A constant expression keeps its form and its value where more structs are known.
use Rattle.std.proofs.Common.{◌≡◌, ℕ, ℤ, pos, ◌*◌, refl, sym, ap, ◌∙◌, subst, List, Option, Some, None, Bool, true, false, cond, not, ◌&&◌, if◌then◌else◌, nat_eq, slice_get}
use Rattle.c_syntax.specs.declared.place.Place.{Place}
use Rattle.c_syntax.specs.declared.types.CInt.{CInt}
use Rattle.c_syntax.specs.declared.types.CInt.TheVariants.{I32, U64}
use Rattle.c_syntax.specs.declared.expression.UnOp.TheVariants as unary
use Rattle.c_syntax.specs.declared.expression.BinOp.{BinOp}
use Rattle.c_syntax.specs.Ctypes.{PlainType, Int, Ptr, Array, Struct, Count, int_type}
use Rattle.c_syntax.specs.Expressions.{Expression, Node, Number, Letter, Unary, Binary, Both, Either, Choice, Cast, SizeOfType, SizeOfExpr, Comma, place_of, type_of}
use Rattle.c_syntax.specs.Programs.{StructType}
use Rattle.c_syntax.specs.Layouts.{size_of, size_of_struct}
use Rattle.c_model.specs.Integers.{integer_type}
use Rattle.c_model.specs.Conversions.{promoted, is_relation}
use Rattle.c_model.specs.Integers.{truth}
use Rattle.c_model.specs.Memory.{Integer}
use Rattle.c_model.specs.State.{◌>>=◌, ◌>>◌, give, defined, computed, tested}
use Rattle.c_model.specs.Library.{is_there}
use Rattle.c_model.specs.Meaning.{Tables, unit_of, operate_value, operate_values, converted, choose, truth_value, is_zero, is_array, address, eval_with, place_with}
use Rattle.c_model.specs.ExpressionTyping.{Sight, HasSize, is_known, sized, nowhere, no_callee, integer_at, is_other, integer_value, is_constant, tables_in, constant}
use Rattle.c_model.specs.ExpressionTyping.{is_zero as is_no_value}
use Rattle.c_model.specs.TypedTrees.{IsInteger, BinaryTypes, OfIntegers, OfPointerAndInteger, OfIntegerAndPointer, OfDifference, OfPointers, WellTyped}
use Rattle.c_model.proofs.TypedParts.{and_true, there_is}

-- the structs that are known stay as they are
abbrev pub Grows : List StructType → List StructType → Type 0
Grows old new = (n : ℕ) (x : StructType) → slice_get old n ≡ Some x → nat_eq x.size 0 ≡ false → slice_get new n ≡ Some x

pub record IsSizeKept (old new : List StructType) (t : PlainType) : Type 0 where
  pub size : size_of old t ≡ size_of new t
  pub known : sized new t ≡ HasSize

pub size_kept : (old new : List StructType) → Grows old new → (t : PlainType) → sized old t ≡ HasSize → IsSizeKept old new t
size_kept old new g (Int k) e = record { size = refl; known = refl }
size_kept old new g (Ptr t) e = record { size = refl; known = refl }
size_kept old new g (Array t (Count n)) e = let h = size_kept old new g t e in record { size = ap (λ k. n * k) h.size; known = h.known }
size_kept old new g (Struct n) e = by (slice_get old n) refl e
  where
    by_size : (x : StructType) → slice_get old n ≡ Some x → (b : Bool) → nat_eq x.size 0 ≡ b → is_known (Some x) ≡ HasSize → IsSizeKept old new (Struct n)
    by_size x i true z k = let f : is_known (Some x) ≡ HasSize = k in absurd (clash (nat_eq x.size 0) z f)
      where
        clash : (b : Bool) → b ≡ true → is_known (Some x) ≡ HasSize → ⊥
        clash b e k = absurd cc
    by_size x i false z k = let j = g n x i z in record { size = ap size_of_struct i ∙ ap size_of_struct (sym j); known = ap is_known j ∙ k }

    by : (o : Option StructType) → slice_get old n ≡ o → is_known o ≡ HasSize → IsSizeKept old new (Struct n)
    by None i k = absurd cc
    by (Some x) i k = by_size x i (nat_eq x.size 0) refl k
size_kept old new g _ e = absurd cc

both_hold : (a b : Bool) → a ≡ true → b ≡ true → (a && b) ≡ true
both_hold true b e f = f
both_hold false b e f = absurd cc

no_pointer : (t u : PlainType) (k : CInt) → t ≡ Int k → t ≡ Ptr u → ⊥
no_pointer t u k e f = let same : Int k ≡ Ptr u = sym e ∙ f in absurd cc

-- between integers nothing goes on by elements
no_unit : (structs : List StructType) (t u : PlainType) → IsInteger t → IsInteger u → unit_of structs t u ≡ 0
no_unit structs t u i j = ap (λ t. unit_of structs t u) i.is ∙ ap (λ u. unit_of structs (Int i.int) u) j.is

module _ (s : Sight) (new : List StructType) (g : Grows s.structs new)
  where
    abbrev T : Tables
    T = tables_in s

    abbrev U : Tables
    U = tables_in (record s { structs = new })

    record IsStable (evaluated : Bool) (e : Expression) : Type 0 where
      int : IsInteger (type_of e)
      value : eval_with T e no_callee ≡ eval_with U e no_callee
      form : is_constant U evaluated e ≡ true

    same_value : (e : Expression) → eval_with T e no_callee ≡ eval_with U e no_callee → integer_value T e ≡ integer_value U e
    same_value e h = ap (λ m. integer_at (m nowhere)) h

    binary_integer : (op : BinOp) (t u v : PlainType) → BinaryTypes s op t u v → IsInteger u → IsInteger v → IsInteger t
    binary_integer op t u v (OfIntegers o) i j = by (is_relation op) o.result
      where
        by : (b : Bool) → t ≡ cond b int_type u → IsInteger t
        by true e = record { int = I32; is = e }
        by false e = record { int = i.int; is = e ∙ i.is }
    binary_integer op t u v (OfPointerAndInteger a p b c) i j = absurd (no_pointer u p.target i.int i.is p.is)
    binary_integer op t u v (OfIntegerAndPointer a b p c) i j = absurd (no_pointer v p.target j.int j.is p.is)
    binary_integer op t u v (OfDifference a p b c) i j = absurd (no_pointer u p.target i.int i.is p.is)
    binary_integer op t u v (OfPointers a p q c) i j = absurd (no_pointer u p.target i.int i.is p.is)

    cast_value : (V : Tables) (at : Place) (t to : PlainType) (a : Expression) → IsInteger (type_of a)
        → eval_with V (Node at t (Cast to a)) no_callee ≡ (eval_with V a no_callee >>= λ x. give (converted to x))
    cast_value V at t to a i = ap (λ b. cond (is_array b) (place_with V a no_callee >>= address a) (eval_with V a no_callee >>= λ x. give (converted to x))) i.is

    stable : (evaluated : Bool) (e : Expression) → WellTyped s e → is_constant T evaluated e ≡ true → IsStable evaluated e
    stable v (Node at t (Number n None)) w c = absurd w
    stable v (Node at t (Number n (Some k))) w c = record { int = record { int = k; is = w.0 }; value = refl; form = refl }
    stable v (Node at t (Letter n)) w c = record { int = record { int = I32; is = w }; value = refl; form = refl }
    stable v (Node at t (Unary unary.Not a)) w c = let h = stable v a w.0 c in record {
      int = record { int = I32; is = w.2 };
      value = ap (λ m. m >>= tested (place_of a) >>= λ x. give (Integer (truth (is_zero x)))) h.value;
      form = h.form;
    }
    stable v (Node at t (Unary unary.Plus a)) w c = let h = stable v a w.0 c in record {
      int = record { int = promoted w.1.int; is = w.2 ∙ w.1.is };
      value = ap (λ m. m >>= λ x. defined at (operate_value t unary.Plus x)) h.value;
      form = h.form;
    }
    stable v (Node at t (Unary unary.Minus a)) w c = let h = stable v a w.0 c in record {
      int = record { int = promoted w.1.int; is = w.2 ∙ w.1.is };
      value = ap (λ m. m >>= λ x. defined at (operate_value t unary.Minus x)) h.value;
      form = h.form;
    }
    stable v (Node at t (Unary unary.Flip a)) w c = let h = stable v a w.0 c in record {
      int = record { int = promoted w.1.int; is = w.2 ∙ w.1.is };
      value = ap (λ m. m >>= λ x. defined at (operate_value t unary.Flip x)) h.value;
      form = h.form;
    }
    stable v (Node at t (Binary op a b)) w c =
        let p = and_true (is_constant T v a) (is_constant T v b) c in
        let h = stable v a w.0 p.0 in
        let k = stable v b w.1 p.1 in
        let unit : unit_of T.structs (type_of a) (type_of b) ≡ unit_of new (type_of a) (type_of b) =
        no_unit T.structs (type_of a) (type_of b) h.int k.int ∙ sym (no_unit new (type_of a) (type_of b) h.int k.int) in record {
          int = binary_integer op t (type_of a) (type_of b) w.2 h.int k.int;
          value = λ i. (h.value i) >>= λ x. (k.value i) >>= λ y. computed at (λ store. operate_values (unit i) t op store x y);
          form = both_hold (is_constant U v a) (is_constant U v b) h.form k.form;
        }
    stable v (Node at t (Both a b)) w c =
        let p = and_true (is_constant T v a) (is_constant T (v && is_other (integer_value T a)) b) c in
        let h = stable v a w.0 p.0 in
        let k = stable (v && is_other (integer_value T a)) b w.1 p.1 in record {
          int = record { int = I32; is = w.4 };
          value = λ i. ((h.value i) >>= tested (place_of a)) >>= λ x. choose x (((k.value i) >>= tested (place_of b)) >>= λ y. give (truth_value y)) (give (Integer (pos 0)));
          form = both_hold (is_constant U v a) (is_constant U (v && is_other (integer_value U a)) b) h.form
              (subst (λ z. is_constant U (v && is_other z) b ≡ true) (same_value a h.value) k.form);
        }
    stable v (Node at t (Either a b)) w c =
        let p = and_true (is_constant T v a) (is_constant T (v && is_no_value (integer_value T a)) b) c in
        let h = stable v a w.0 p.0 in
        let k = stable (v && is_no_value (integer_value T a)) b w.1 p.1 in record {
          int = record { int = I32; is = w.4 };
          value = λ i. ((h.value i) >>= tested (place_of a)) >>= λ x. choose x (give (Integer (pos 1))) (((k.value i) >>= tested (place_of b)) >>= λ y. give (truth_value y));
          form = both_hold (is_constant U v a) (is_constant U (v && is_no_value (integer_value U a)) b) h.form
              (subst (λ z. is_constant U (v && is_no_value z) b ≡ true) (same_value a h.value) k.form);
        }
    stable v (Node at t (Choice a b c)) w e =
        let p = and_true (is_constant T v a && is_constant T (v && is_other (integer_value T a)) b) (is_constant T (v && is_no_value (integer_value T a)) c) e in
        let q = and_true (is_constant T v a) (is_constant T (v && is_other (integer_value T a)) b) p.0 in
        let h = stable v a w.0 q.0 in
        let k = stable (v && is_other (integer_value T a)) b w.1 q.1 in
        let l = stable (v && is_no_value (integer_value T a)) c w.2 p.1 in record {
          int = record { int = k.int.int; is = sym w.4 ∙ k.int.is };
          value = λ i. ((h.value i) >>= tested (place_of a)) >>= λ x. choose x (k.value i) (l.value i);
          form = both_hold (is_constant U v a && is_constant U (v && is_other (integer_value U a)) b) (is_constant U (v && is_no_value (integer_value U a)) c)
              (both_hold (is_constant U v a) (is_constant U (v && is_other (integer_value U a)) b) h.form
              (subst (λ z. is_constant U (v && is_other z) b ≡ true) (same_value a h.value) k.form))
              (subst (λ z. is_constant U (v && is_no_value z) c ≡ true) (same_value a h.value) l.form);
        }
    stable v (Node at t (Cast to a)) w c =
        let p = and_true (is_there (integer_type to)) (is_constant T v a) c in
        let h = stable v a w.0 p.1 in
        let i = there_is to p.0 in record {
          int = record { int = i.int; is = w.1 ∙ i.is };
          value = cast_value T at t to a h.int ∙ ap (λ m. m >>= λ x. give (converted to x)) h.value ∙ sym (cast_value U at t to a h.int);
          form = both_hold (is_there (integer_type to)) (is_constant U v a) p.0 h.form;
        }
    stable v (Node at t (SizeOfType u)) w c =
        record { int = record { int = U64; is = w.1 }; value = ap (λ n. give (Integer (pos n))) (size_kept s.structs new g u w.0.known).size; form = refl }
    stable v (Node at t (SizeOfExpr a)) w c =
        record { int = record { int = U64; is = w.2 }; value = ap (λ n. give (Integer (pos n))) (size_kept s.structs new g (type_of a) w.1.known).size; form = refl }
    stable v (Node at t (Comma a b)) w c =
        let p = and_true (not v && is_constant T v a) (is_constant T v b) c in
        let q = and_true (not v) (is_constant T v a) p.0 in
        let h = stable v a w.0 q.1 in
        let k = stable v b w.1 p.1 in record {
          int = record { int = k.int.int; is = sym w.2 ∙ k.int.is };
          value = λ i. (h.value i) >> (k.value i);
          form = both_hold (not v && is_constant U v a) (is_constant U v b) (both_hold (not v) (is_constant U v a) q.0 h.form) k.form;
        }
    stable v _ w c = absurd cc

    -- the value of a typed integer constant expression is the same where more structs are known
    pub constant_kept : (e : Expression) (z : ℤ) → WellTyped s e → constant s e ≡ Some z → constant (record s { structs = new }) e ≡ Some z
    constant_kept e z w c = by (is_constant T true e) refl (is_there (integer_type (type_of e))) refl c
      where
        by : (a : Bool) → is_constant T true e ≡ a → (b : Bool) → is_there (integer_type (type_of e)) ≡ b → (if a && b then integer_value T e else None) ≡ Some z
            → constant (record s { structs = new }) e ≡ Some z
        by true f true i k =
            let h = stable true e w f in
            ap (λ b. if b then integer_value U e else None) (both_hold (is_constant U true e) (is_there (integer_type (type_of e))) h.form i)
            ∙ sym (same_value e h.value) ∙ k
        by true f false i k = absurd cc
        by false f b i k = absurd cc
