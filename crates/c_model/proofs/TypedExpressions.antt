-- The typed tree of an expression is well typed.
use Rattle.std.proofs.Common.{◌≡◌, ℕ, ℤ, pos, refl, sym, ap, ◌∙◌, Option, Some, None, Bool, true, false, ◌&&◌, ◌||◌, if◌then◌else◌, nat_eq}
use Rattle.std.proofs.lemmas.Bool.Decides.{Decides-int_eq}
use Rattle.std.specs.Ordering.{int_eq}
use Rattle.c_syntax.specs.declared.place.Place.{Place}
use Rattle.c_syntax.specs.declared.types.CInt.{CInt}
use Rattle.c_syntax.specs.declared.types.CInt.TheVariants.{I32, I64}
use Rattle.c_syntax.specs.declared.expression.BinOp.{BinOp}
use Rattle.c_syntax.specs.declared.expression.BinOp.TheVariants as operator
use Rattle.c_syntax.specs.declared.expression.BumpOp.{BumpOp}
use Rattle.c_syntax.specs.Ctypes.{PlainType, Void, Int, Ptr, Struct, int_type}
use Rattle.c_syntax.specs.Expressions.{Expression, Node, Number, Variable, Binary, Assign, Bump, Index, Comma, type_of}
use Rattle.c_syntax.specs.Programs.{StructMember}
use Rattle.c_syntax.specs.Layouts.{members_of, member_among}
use Rattle.c_model.specs.Integers.{integer_type}
use Rattle.c_model.specs.Conversions.{is_relation}
use Rattle.c_model.specs.Meaning.{is_array, is_pointer}
use Rattle.c_model.specs.Library.{is_there}
use Rattle.c_model.specs.Checked.{Good, given, where_so}
use Rattle.c_model.specs.ExpressionTyping.{no_type, Sight, HasSize, sized, is_void, is_scalar, is_struct, pointed, same_type, in_type, is_place}
use Rattle.c_model.specs.ExpressionTyping.{is_zero, is_constant, integer_value, tables_in, constant, is_null, is_null_name, are_compatible, are_integers, is_assigned}
use Rattle.c_model.specs.ExpressionTyping.{is_step, is_equality, is_difference, on_integers, where_elements, on_pointers, on_pointer_and_integer, on_integer_and_pointer, binary, both_of, either_of}
use Rattle.c_model.specs.ExpressionTyping.{assigned, assigned_struct, assigned_scalar, compounded, assign, bump, is_cast, cast, index, member, dot, arrow}
use Rattle.c_model.specs.ExpressionTyping.{has_object, no_name, knows_elements, operated, operated_in_place, element}
use Rattle.c_model.specs.TypedTrees.{IsPointer, IsName, OfObject, OfNull, OfPointerAndInteger}
use Rattle.c_model.specs.TypedTrees.{OfIntegerAndPointer, OfDifference, OfPointers, CastTypes, ToVoid, OfInteger, OfPointer, OfNullConstant, OfArray, OnTheLeft, OnTheRight}
use Rattle.c_model.specs.TypedTrees.{ToScalar, ToStruct, CompoundTypes, ToInteger, ToPointer, HasMember, WellTyped, IsSight}
use Rattle.c_model.proofs.TypedParts.{Gives, gives_one, gives_given, gives_where, gives_sized, gives_elements, and_true, same_type_is, integer_is, pointed_is, scalar_is, there_is, pointer_is, void_is}
use Rattle.c_model.proofs.TypedOperators.{is_aggregate, Sound, in_type_well, in_type_type, integers_well, or_cases}

zero_is : (z : ℤ) → int_eq z (pos 0) ≡ true → z ≡ pos 0
zero_is z e = (Decides-int_eq z (pos 0)).0 e

clash : (b : Bool) → b ≡ true → b ≡ false → ⊥
clash true e f = absurd cc
clash false e f = absurd cc

module _ (s : Sight) (known : IsSight s)
  where
    -- ---- the null constant

    null_name : (e : Expression) → WellTyped s e → is_null_name e ≡ true → IsPointer (type_of e)
    null_name (Node at t (Variable x)) w e = by w
      where
        by : IsName s x t → IsPointer t
        by (OfNull d is) = record { target = Void; is = is }
        by (OfObject o) = absurd (clash (known.objects x.name o.object o.found))
          where
            clash : nat_eq o.object.decl 4294967295 ≡ false → ⊥
            clash f = let same : nat_eq o.object.decl 4294967295 ≡ true = ap (λ d. nat_eq d 4294967295) (sym o.decl) ∙ e in absurd cc
    null_name (Node at t _) w e = absurd cc

    constant_is : (e : Expression) (b c : Bool) → is_zero (if b && c then integer_value (tables_in s) e else None) ≡ true
        → (c ≡ true) × ((if b && c then integer_value (tables_in s) e else None) ≡ Some (pos 0))
    constant_is e true true z = by (integer_value (tables_in s) e) refl z
      where
        by : (o : Option ℤ) → integer_value (tables_in s) e ≡ o → is_zero o ≡ true → (true ≡ true) × (o ≡ Some (pos 0))
        by None is z = absurd cc
        by (Some x) is z = (refl, ap Some (zero_is x z))
    constant_is e true false z = absurd cc
    constant_is e false c z = absurd cc

    pub null_casts : (t : PlainType) (e : Expression) → WellTyped s e → is_null s e ≡ true → is_pointer t ≡ true → CastTypes s t e
    null_casts t e w n p = or_cases (is_null_name e) (is_zero (constant s e)) n
        (λ i. OfPointer (pointer_is t p) (null_name e w i))
        (λ z. let c = constant_is e (is_constant (tables_in s) true e) (is_there (integer_type (type_of e))) z in OfNullConstant (pointer_is t p) (there_is (type_of e) c.0) c.1)

    integers_cast : (t : PlainType) (e : Expression) → are_integers (type_of e) t ≡ true → CastTypes s t e
    integers_cast t e i = let p = and_true (is_there (integer_type (type_of e))) (is_there (integer_type t)) i in OfInteger (there_is t p.1) (there_is (type_of e) p.0)

    pub compatible_pointers : (t u : PlainType) → are_compatible t u ≡ true → IsPointer t × IsPointer u
    compatible_pointers t u c =
        let p = and_true (is_pointer t && is_pointer u) _ c in
        let q = and_true (is_pointer t) (is_pointer u) p.0 in (pointer_is t q.0, pointer_is u q.1)

    pub assigned_casts : (t : PlainType) (e : Expression) → WellTyped s e → is_assigned s e t ≡ true → CastTypes s t e
    assigned_casts t e w a = or_cases (are_integers (type_of e) t || are_compatible (type_of e) t) (is_null s e && is_pointer t) a
        (λ b. or_cases (are_integers (type_of e) t) (are_compatible (type_of e) t) b (integers_cast t e) (λ c.
        let p = compatible_pointers (type_of e) t c in OfPointer p.1 p.0))
        (λ n. let p = and_true (is_null s e) (is_pointer t) n in null_casts t e w p.0 p.1)

    cast_casts : (t : PlainType) (e : Expression) → WellTyped s e → is_cast s e t ≡ true → CastTypes s t e
    cast_casts t e w a = or_cases (is_void t || are_integers (type_of e) t || (is_pointer (type_of e) && is_pointer t)) (is_null s e && is_pointer t) a
        (λ b. or_cases (is_void t || are_integers (type_of e) t) (is_pointer (type_of e) && is_pointer t) b
        (λ c. or_cases (is_void t) (are_integers (type_of e) t) c (λ v. ToVoid (void_is t v)) (integers_cast t e))
        (λ d. let p = and_true (is_pointer (type_of e)) (is_pointer t) d in OfPointer (pointer_is t p.1) (pointer_is (type_of e) p.0)))
        (λ n. let p = and_true (is_null s e) (is_pointer t) n in null_casts t e w p.0 p.1)

    -- ---- operators

    equality_relates : (op : BinOp) → is_equality op ≡ true → is_relation op ≡ true
    equality_relates operator.Eq e = refl
    equality_relates operator.Ne e = refl
    equality_relates _ e = absurd cc

    module _ (at : Place) (op : BinOp) (a b : Expression) (v : Sound s a) (w : Sound s b)
      where
        relates : (t u : PlainType) → type_of a ≡ Ptr t → type_of b ≡ Ptr u → is_relation op ≡ true → Sound s (Node at int_type (Binary op a b))
        relates t u i j r = record { well = (v.well, w.well, OfPointers r (record { target = t; is = i }) (record { target = u; is = j }) refl); object = λ c. absurd cc }

        pointers_sound : (t u : PlainType) → type_of a ≡ Ptr t → type_of b ≡ Ptr u → Gives (Sound s) (on_pointers s at op t u a b)
        pointers_sound t u i j = by (is_difference op) refl (is_equality op) refl
          where
            by : (d : Bool) → is_difference op ≡ d → (q : Bool) → is_equality op ≡ q → Gives (Sound s) (
                if d then where_so (same_type t u) (no_type at) (where_elements s at t (Good (Node at (Int I64) (Binary op a b))))
                else (if q then where_so (are_compatible (Ptr t) (Ptr u)) (no_type at) (Good (Node at int_type (Binary op a b)))
                else where_so (is_relation op && same_type t u) (no_type at) (Good (Node at int_type (Binary op a b)))))
            by true d q f = gives_where (Sound s) (same_type t u) _ _ (λ same. gives_elements (Sound s) s at t _ (λ k. record {
              well = (v.well, w.well, OfDifference d (record { target = t; is = i; known = k }) (j ∙ ap Ptr (sym (same_type_is t u same)) ∙ sym i) refl);
              object = λ c. absurd cc;
            }))
            by false d true f = gives_where (Sound s) (are_compatible (Ptr t) (Ptr u)) _ _ (λ c. relates t u i j (equality_relates op f))
            by false d false f = gives_where (Sound s) (is_relation op && same_type t u) _ _ (λ c. relates t u i j (and_true (is_relation op) (same_type t u) c).0)

        pointer_and_integer_sound : (t : PlainType) (l : CInt) → type_of a ≡ Ptr t → integer_type (type_of b) ≡ Some l → Gives (Sound s) (on_pointer_and_integer s at op t a b)
        pointer_and_integer_sound t l i j = by (is_step op true) refl
          where
            by : (d : Bool) → is_step op true ≡ d → Gives (Sound s) (
                if d then where_elements s at t (Good (Node at (Ptr t) (Binary op a b)))
                else where_so (is_equality op && is_null s b) (no_type at) (Good (Node at int_type (Binary op a (in_type (Ptr t) b)))))
            by true d = gives_elements (Sound s) s at t _ (λ k. record {
              well = (v.well, w.well, OfPointerAndInteger d (record { target = t; is = i; known = k }) (record { int = l; is = integer_is _ l j }) (sym i));
              object = λ c. absurd cc;
            })
            by false d = gives_where (Sound s) (is_equality op && is_null s b) _ _ (λ c.
                let p = and_true (is_equality op) (is_null s b) c in record {
                  well = (
                    v.well,
                    in_type_well s (Ptr t) b w.well (null_casts (Ptr t) b w.well p.1 refl),
                    OfPointers (equality_relates op p.0) (record { target = t; is = i }) (record { target = t; is = in_type_type (Ptr t) b }) refl,
                  );
                  object = λ c. absurd cc;
                })

        integer_and_pointer_sound : (t : PlainType) (l : CInt) → integer_type (type_of a) ≡ Some l → type_of b ≡ Ptr t → Gives (Sound s) (on_integer_and_pointer s at op t a b)
        integer_and_pointer_sound t l i j = by (is_step op false) refl
          where
            by : (d : Bool) → is_step op false ≡ d → Gives (Sound s) (
                if d then where_elements s at t (Good (Node at (Ptr t) (Binary op a b)))
                else where_so (is_equality op && is_null s a) (no_type at) (Good (Node at int_type (Binary op (in_type (Ptr t) a) b))))
            by true d = gives_elements (Sound s) s at t _ (λ k. record {
              well = (v.well, w.well, OfIntegerAndPointer d (record { int = l; is = integer_is _ l i }) (record { target = t; is = j; known = k }) (sym j));
              object = λ c. absurd cc;
            })
            by false d = gives_where (Sound s) (is_equality op && is_null s a) _ _ (λ c.
                let p = and_true (is_equality op) (is_null s a) c in record {
                  well = (
                    in_type_well s (Ptr t) a v.well (null_casts (Ptr t) a v.well p.1 refl),
                    w.well,
                    OfPointers (equality_relates op p.0) (record { target = t; is = in_type_type (Ptr t) a }) (record { target = t; is = j }) refl,
                  );
                  object = λ c. absurd cc;
                })

        pub binary_sound : Gives (Sound s) (binary s at op a b)
        binary_sound = gives_where (Sound s) (knows_elements s op (type_of a) (type_of b)) (no_name at) (operated s at op a b) (λ z. by (integer_type (type_of a)) refl (integer_type (type_of b)) refl)
          where
            by : (o : Option CInt) → integer_type (type_of a) ≡ o → (r : Option CInt) → integer_type (type_of b) ≡ r → Gives (Sound s) (elim o [
              | Some k ↦ elim r [
                | Some l ↦ Good (on_integers at op k l a b)
                | None ↦ given (pointed (type_of b)) (no_type at) (λ t. on_integer_and_pointer s at op t a b)
              ]
              | None ↦ given (pointed (type_of a)) (no_type at) (λ t. elim r [
                | Some l ↦ on_pointer_and_integer s at op t a b
                | None ↦ given (pointed (type_of b)) (no_type at) (λ u. on_pointers s at op t u a b)
              ])
            ])
            by (Some k) i (Some l) j = record { well = integers_well s at a b v.well w.well op k l i j; object = λ c. absurd cc }
            by (Some k) i None j = gives_given (Sound s) (pointed (type_of b)) _ _ (λ t p. integer_and_pointer_sound t k i (pointed_is _ t p))
            by None i (Some l) j = gives_given (Sound s) (pointed (type_of a)) _ _ (λ t p. pointer_and_integer_sound t l (pointed_is _ t p) j)
            by None i None j = gives_given (Sound s) (pointed (type_of a)) _ _ (λ t p. gives_given (Sound s) (pointed (type_of b)) _ _ (λ u q.
                pointers_sound t u (pointed_is _ t p) (pointed_is _ u q)))

    -- ---- other forms

    module _ (at : Place) (a b : Expression) (v : Sound s a) (w : Sound s b)
      where
        pub both_sound : Gives (Sound s) (both_of at a b)
        both_sound = gives_where (Sound s) (is_scalar (type_of a) && is_scalar (type_of b)) _ _ (λ t.
            let p = and_true (is_scalar (type_of a)) (is_scalar (type_of b)) t in
            record { well = (v.well, w.well, scalar_is _ p.0, scalar_is _ p.1, refl); object = λ c. absurd cc })

        pub either_sound : Gives (Sound s) (either_of at a b)
        either_sound = gives_where (Sound s) (is_scalar (type_of a) && is_scalar (type_of b)) _ _ (λ t.
            let p = and_true (is_scalar (type_of a)) (is_scalar (type_of b)) t in
            record { well = (v.well, w.well, scalar_is _ p.0, scalar_is _ p.1, refl); object = λ c. absurd cc })

        pub index_sound : Gives (Sound s) (index s at a b)
        index_sound = gives_where (Sound s) (knows_elements s operator.Add (type_of a) (type_of b)) (no_name at) (element s at a b) (λ z. by (pointed (type_of a)) refl)
          where
            by : (o : Option PlainType) → pointed (type_of a) ≡ o → Gives (Sound s) (elim o [
              | Some t ↦ where_so (is_there (integer_type (type_of b))) (no_type at) (where_elements s at t (Good (Node at t (Index a b))))
              | None ↦ given (pointed (type_of b)) (no_type at) (λ t. where_so (is_there (integer_type (type_of a))) (no_type at) (where_elements s at t (Good (Node at t (Index a b)))))
            ])
            by (Some t) p = gives_where (Sound s) (is_there (integer_type (type_of b))) _ _ (λ i. gives_elements (Sound s) s at t (Good (Node at t (Index a b))) (λ k.
                record { well = (v.well, w.well, OnTheLeft (pointed_is _ t p) k (there_is _ i)); object = λ c. refl }))
            by None p = gives_given (Sound s) (pointed (type_of b)) _ _ (λ t q. gives_where (Sound s) (is_there (integer_type (type_of a))) _ _ (λ i. gives_elements (Sound s) s at t (Good (Node at t (Index a b))) (λ k.
                record { well = (v.well, w.well, OnTheRight (there_is _ i) (pointed_is _ t q) k); object = λ c. refl })))

        pub comma_sound : is_array (type_of b) ≡ false → Sound s (Node at (type_of b) (Comma a b))
        comma_sound flat = record { well = (v.well, w.well, refl, flat); object = w.object }

    -- a scalar type has a value of its own
    pub scalar_flat : (t : PlainType) → is_scalar t ≡ true → is_aggregate t ≡ false
    scalar_flat (Int k) e = refl
    scalar_flat (Ptr t) e = refl
    scalar_flat _ e = absurd cc

    struct_aggregate : (t : PlainType) → is_struct t ≡ true → is_aggregate t ≡ true
    struct_aggregate (Struct n) e = refl
    struct_aggregate _ e = absurd cc

    module _ (at : Place) (a b : Expression) (v : Sound s a) (w : Sound s b)
      where
        assigned_sound : Gives (Sound s) (assigned s at a b)
        assigned_sound = by (is_struct (type_of a)) refl
          where
            by : (z : Bool) → is_struct (type_of a) ≡ z → Gives (Sound s) (if z then assigned_struct s at a b else assigned_scalar s at a b)
            by true i = gives_sized (Sound s) s at (type_of a) _ (λ k. gives_where (Sound s) (is_place a && same_type (type_of b) (type_of a)) _ _ (λ p.
                let q = and_true (is_place a) (same_type (type_of b) (type_of a)) p in
                let same = same_type_is (type_of b) (type_of a) q.1 in
                record { well = (v.well, w.well, q.0, refl, same, ToStruct i k (w.object (ap is_aggregate same ∙ struct_aggregate (type_of a) i))); object = λ c. i }))
            by false i = gives_where (Sound s) (is_place a && is_scalar (type_of a) && is_assigned s b (type_of a)) _ _ (λ p.
                let q = and_true (is_place a && is_scalar (type_of a)) (is_assigned s b (type_of a)) p in
                let r = and_true (is_place a) (is_scalar (type_of a)) q.0 in record {
                  well = (v.well, in_type_well s (type_of a) b w.well (assigned_casts (type_of a) b w.well q.1), r.0, refl, in_type_type (type_of a) b, ToScalar (scalar_is _ r.1));
                  object = λ c. absurd (let f = scalar_flat (type_of a) r.1 in cc);
                })

    compounded_sound : (at : Place) (op : BinOp) (a b whole : Expression)
        → (is_place a ≡ true → CompoundTypes s op (type_of a) (type_of b) → is_aggregate (type_of a) ≡ false → Sound s whole) → Gives (Sound s) (compounded s at op a b whole)
    compounded_sound at op a b whole h = gives_where (Sound s) (knows_elements s op (type_of a) (type_of b)) (no_name at) (operated_in_place s at op a b whole) (λ z. by (integer_type (type_of a)) refl)
      where
        flat_as : (t u : PlainType) → t ≡ u → is_aggregate u ≡ false → is_aggregate t ≡ false
        flat_as t u e f = ap is_aggregate e ∙ f

        by : (o : Option CInt) → integer_type (type_of a) ≡ o → Gives (Sound s) (elim o [
          | Some k ↦ where_so (is_place a && is_there (integer_type (type_of b))) (no_type at) (Good whole)
          | None ↦ given (pointed (type_of a)) (no_type at) (λ t.
              where_so (is_place a && is_there (integer_type (type_of b)) && is_step op true) (no_type at) (where_elements s at t (Good whole)))
        ])
        by (Some k) i = gives_where (Sound s) (is_place a && is_there (integer_type (type_of b))) _ _ (λ p.
            let q = and_true (is_place a) (is_there (integer_type (type_of b))) p in
            h q.0 (ToInteger (record { int = k; is = integer_is _ k i }) (there_is _ q.1)) (flat_as _ _ (integer_is _ k i) refl))
        by None i = gives_given (Sound s) (pointed (type_of a)) _ _ (λ t e. gives_where (Sound s) (is_place a && is_there (integer_type (type_of b)) && is_step op true) _ _ (λ p.
            gives_elements (Sound s) s at t _ (λ k.
            let q = and_true (is_place a && is_there (integer_type (type_of b))) (is_step op true) p in
            let r = and_true (is_place a) (is_there (integer_type (type_of b))) q.0 in
            h r.0 (ToPointer q.1 (record { target = t; is = pointed_is _ t e; known = k }) (there_is _ r.1)) (flat_as _ _ (pointed_is _ t e) refl))))

    pub assign_sound : (at : Place) (op : Option BinOp) (a b : Expression) → Sound s a → Sound s b → Gives (Sound s) (assign s at op a b)
    assign_sound at None a b v w = assigned_sound at a b v w
    assign_sound at (Some op) a b v w = compounded_sound at op a b (Node at (type_of a) (Assign (Some op) a b)) (λ p c f.
        record { well = (v.well, w.well, p, refl, c); object = λ e. absurd (clash (is_aggregate (type_of a)) e f) })

    pub bump_sound : (at : Place) (op : BumpOp) (a : Expression) → Sound s a → Gives (Sound s) (bump s at op a)
    bump_sound at op a v = compounded_sound at operator.Add a (Node at int_type (Number (pos 1) (Some I32))) (Node at (type_of a) (Bump op a)) (λ p c f.
        record { well = (v.well, p, refl, c); object = λ e. absurd (clash (is_aggregate (type_of a)) e f) })

    castable_flat : (t : PlainType) (e : Expression) → CastTypes s t e → is_aggregate t ≡ false
    castable_flat t e (ToVoid i) = ap is_aggregate i
    castable_flat t e (OfInteger i j) = ap is_aggregate i.is
    castable_flat t e (OfPointer i j) = ap is_aggregate i.is
    castable_flat t e (OfNullConstant i j c) = ap is_aggregate i.is
    castable_flat t e (OfArray u n i j o) = ap is_aggregate i

    pub cast_sound : (at : Place) (to : PlainType) (a : Expression) → Sound s a → Gives (Sound s) (cast s at to a)
    cast_sound at to a v = gives_where (Sound s) (is_cast s a to) _ _ (λ c.
        let t = cast_casts to a v.well c in record { well = (v.well, refl, t); object = λ e. absurd (let f = castable_flat to a t in cc) })

    member_has : (at : Place) (t : PlainType) (m : ℕ) → Gives (HasMember s t m) (member s at t m)
    member_has at t m = gives_where (HasMember s t m) (is_struct t) _ _ (λ i. gives_sized (HasMember s t m) s at t _ (λ k.
        gives_given (HasMember s t m) (member_among m (members_of s.structs t)) _ _ (λ f e. by t i k f e)))
      where
        by : (t : PlainType) → is_struct t ≡ true → sized s.structs t ≡ HasSize → (f : StructMember) → member_among m (members_of s.structs t) ≡ Some f → HasMember s t m f.ctype
        by (Struct n) i k f e = record { struct = n; is = refl; known = k; member = f; found = e; ctype = refl }
        by _ i k f e = absurd cc

    pub dot_sound : (at : Place) (m : ℕ) (a : Expression) → Sound s a → Gives (Sound s) (dot s at m a)
    dot_sound at m a v = gives_one (HasMember s (type_of a) m) (Sound s) (member s at (type_of a) m) _ (member_has at (type_of a) m) (λ t h.
        let o : has_object a ≡ true = v.object (ap is_aggregate h.is) in record { well = (v.well, o, h); object = λ e. o })

    pub arrow_sound : (at : Place) (m : ℕ) (a : Expression) → Sound s a → Gives (Sound s) (arrow s at m a)
    arrow_sound at m a v = gives_given (Sound s) (pointed (type_of a)) _ _ (λ t p. gives_one (HasMember s t m) (Sound s) (member s at t m) _ (member_has at t m) (λ u h.
        record { well = (v.well, record { target = t; is = pointed_is _ t p; member = h }); object = λ e. refl }))
