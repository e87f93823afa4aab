-- Each size that an expression asks for is within the limit after typing, whatever is in sight.
use Rattle.std.proofs.Common.{◌≡◌, ℕ, ◌+◌, ℤ, pos, length, nat_eq, Bool, true, false, ◌&&◌, nat_le, refl, subst, Option, Some, None, cond, not, if◌then◌else◌}
use Rattle.c_syntax.specs.declared.place.Place.{Place}
use Rattle.c_syntax.specs.declared.types.CInt.{CInt}
use Rattle.c_syntax.specs.declared.types.CInt.TheVariants.{I8, I32, I64, U64}
use Rattle.c_syntax.specs.declared.expression.UnOp.{UnOp}
use Rattle.c_syntax.specs.declared.expression.UnOp.TheVariants as unary
use Rattle.c_syntax.specs.declared.expression.BinOp.{BinOp}
use Rattle.c_syntax.specs.declared.expression.BinOp.TheVariants as operator
use Rattle.c_syntax.specs.Ctypes.{PlainType, Void, Int, Ptr, Array, Count, int_type}
use Rattle.c_syntax.specs.Expressions.{Expression, Node, Number, Letter, Text, Variable, Unary, Binary, Both, Either, Choice, Assign, Bump, Call, Cast, SizeOfType, SizeOfExpr, Index, Dot, Arrow, Comma, Expressions, place_of, type_of}
use Rattle.c_syntax.specs.Layouts.{size_of}
use Rattle.c_model.specs.Integers.{fits, integer_type}
use Rattle.c_model.specs.Conversions.{common, is_relation, is_shift, promoted, result_type}
use Rattle.c_model.specs.Library.{is_there, library_constant}
use Rattle.c_model.specs.Checked.{Fault, Checked, Good, Bad, faulty, one_part, both_parts, given, where_so}
use Rattle.c_model.specs.ExpressionTyping as plain
use Rattle.c_model.specs.ExpressionTyping.{Sight, Sized, HasSize, HasNoSize, NotYet, besides, decayed, decayed_of, has_small_parts, in_type, is_within_limits, limited, most_bytes, no_name}
use Rattle.c_model.specs.ExpressionTyping.{params_of, typed_arguments, no_type, same_type, sized, too_large, two, known_type, typed, typed_type, where_sized}
use Rattle.c_model.proofs.TypedParts as model
use Rattle.c_model.proofs.KnownTypes.{type_is_known}
use Rattle.c_expression_rules.specs.Constants.{has_small_sizes}
use Rattle.c_expression_rules.proofs.Gives.{Gives, gives_of, gives_one, gives_both, gives_given, gives_where}
use Rattle.c_expression_rules.proofs.Small.{and_both, small_type, small_decayed}

-- a typed expression whose sizes are small
abbrev pub IsSmall : Sight → Expression → Type 0
IsSmall s e = has_small_sizes s.structs e ≡ true

-- a type that passes no limit is small
within_small : (s : Sight) (t : PlainType) (deep : Bool) → (deep && has_small_parts s.structs t) ≡ true → nat_le (size_of s.structs t) most_bytes ≡ true
within_small s t true e = small_type s.structs t e
within_small s t false e = absurd cc

in_type_small : (s : Sight) (t : PlainType) (e : Expression) → IsSmall s e → IsSmall s (in_type t e)
in_type_small s t e h = by (same_type (type_of e) t)
  where
    by : (b : Bool) → IsSmall s (cond b e (Node (place_of e) t (Cast t e)))
    by true = h
    by false = h

-- ---- demands

gives_if : {B : Type 0} (R : B → Type 0) (b : Bool) (c d : Checked B) → Gives R c → Gives R d → Gives R (if b then c else d)
gives_if R true c d g h = g
gives_if R false c d g h = h

gives_sized : {B : Type 0} (R : B → Type 0) (s : Sight) (at : Place) (t : PlainType) (c : Checked B) → Gives R c → Gives R (where_sized s at t c)
gives_sized R s at t c g = by (sized s.structs t)
  where
    by : (k : Sized) → Gives R (elim k [ HasSize ↦ c | HasNoSize ↦ faulty (no_type at) | NotYet ↦ faulty (no_name at) ])
    by HasSize = g
    by HasNoSize = tt
    by NotYet = tt

gives_elements : {B : Type 0} (R : B → Type 0) (s : Sight) (at : Place) (t : PlainType) (c : Checked B) → Gives R c → Gives R (plain.where_elements s at t c)
gives_elements R s at t c g = gives_where R (not (plain.is_void t)) (no_type at) (where_sized s at t c) (λ e. gives_sized R s at t c g)

gives_besides : {B : Type 0} (R : B → Type 0) (b : Bool) (f : Fault) (c : Checked B) → (b ≡ true → Gives R c) → Gives R (besides b f c)
gives_besides R true f c h = h refl
gives_besides R false f (Good a) h = tt
gives_besides R false f (Bad g gs) h = tt

gives_limited : {B : Type 0} (R : B → Type 0) (s : Sight) (at : Place) (t : PlainType) (d : Checked B) → Gives R d → Gives R (limited s at t d)
gives_limited R s at t d g = gives_besides R (is_within_limits s t) (too_large at) d (λ e. g)

anything : {A : Type 0} (c : Checked A) → Gives (λ (a : A). Unit {0}) c
anything (Good a) = tt
anything (Bad f fs) = tt

module _ (s : Sight) (at : Place)
  where
    unary_small : (op : UnOp) (a : Expression) → IsSmall s a → Gives (IsSmall s) (plain.unary_on at op a)
    unary_small unary.Not a h = gives_where (IsSmall s) (plain.is_scalar (type_of (decayed a))) (no_type at) (Good (Node at int_type (Unary unary.Not (decayed a)))) (λ e. small_decayed s.structs a h)
    unary_small unary.Address a h = gives_where (IsSmall s) (plain.is_place a) (no_type at) (Good (Node at (Ptr (type_of a)) (Unary unary.Address a))) (λ e. h)
    unary_small unary.Deref a h = gives_given (IsSmall s) (plain.pointed (type_of (decayed a))) (no_type at) (λ t. where_so (not (plain.is_void t)) (no_type at) (Good (Node at t (Unary unary.Deref (decayed a)))))
        (λ t e. gives_where (IsSmall s) (not (plain.is_void t)) (no_type at) (Good (Node at t (Unary unary.Deref (decayed a)))) (λ f. small_decayed s.structs a h))
    unary_small unary.Plus a h = gives_given (IsSmall s) (integer_type (type_of a)) (no_type at) (λ k. Good (Node at (Int (promoted k)) (Unary unary.Plus (plain.in_int (promoted k) a)))) (λ k e. in_type_small s (Int (promoted k)) a h)
    unary_small unary.Minus a h = gives_given (IsSmall s) (integer_type (type_of a)) (no_type at) (λ k. Good (Node at (Int (promoted k)) (Unary unary.Minus (plain.in_int (promoted k) a)))) (λ k e. in_type_small s (Int (promoted k)) a h)
    unary_small unary.Flip a h = gives_given (IsSmall s) (integer_type (type_of a)) (no_type at) (λ k. Good (Node at (Int (promoted k)) (Unary unary.Flip (plain.in_int (promoted k) a)))) (λ k e. in_type_small s (Int (promoted k)) a h)

    module _ (op : BinOp) (a b : Expression) (ha : IsSmall s a) (hb : IsSmall s b)
      where
        pair_small : (x y : Expression) → IsSmall s x → IsSmall s y → (has_small_sizes s.structs x && has_small_sizes s.structs y) ≡ true
        pair_small x y hx hy = and_both (has_small_sizes s.structs x) (has_small_sizes s.structs y) hx hy

        integers_small : (k l : CInt) → IsSmall s (plain.on_integers at op k l a b)
        integers_small k l = by (is_shift op)
          where
            by : (c : Bool) → IsSmall s (Node at (Int (result_type op k l)) (if c then Binary op (plain.in_int (promoted k) a) (plain.in_int (promoted l) b) else Binary op (plain.in_int (common k l) a) (plain.in_int (common k l) b)))
            by true = pair_small (plain.in_int (promoted k) a) (plain.in_int (promoted l) b) (in_type_small s (Int (promoted k)) a ha) (in_type_small s (Int (promoted l)) b hb)
            by false = pair_small (plain.in_int (common k l) a) (plain.in_int (common k l) b) (in_type_small s (Int (common k l)) a ha) (in_type_small s (Int (common k l)) b hb)

        right_small : (t : PlainType) → Gives (IsSmall s) (plain.on_pointer_and_integer s at op t a b)
        right_small t = gives_if (IsSmall s) (plain.is_step op true) _ _ (gives_elements (IsSmall s) s at t (Good (Node at (Ptr t) (Binary op a b))) (pair_small a b ha hb))
            (gives_where (IsSmall s) (plain.is_equality op && plain.is_null s b) (no_type at) (Good (Node at int_type (Binary op a (in_type (Ptr t) b)))) (λ e. pair_small a (in_type (Ptr t) b) ha (in_type_small s (Ptr t) b hb)))

        left_small : (t : PlainType) → Gives (IsSmall s) (plain.on_integer_and_pointer s at op t a b)
        left_small t = gives_if (IsSmall s) (plain.is_step op false) _ _ (gives_elements (IsSmall s) s at t (Good (Node at (Ptr t) (Binary op a b))) (pair_small a b ha hb))
            (gives_where (IsSmall s) (plain.is_equality op && plain.is_null s a) (no_type at) (Good (Node at int_type (Binary op (in_type (Ptr t) a) b))) (λ e. pair_small (in_type (Ptr t) a) b (in_type_small s (Ptr t) a ha) hb))

        pointers_small : (t u : PlainType) → Gives (IsSmall s) (plain.on_pointers s at op t u a b)
        pointers_small t u = gives_if (IsSmall s) (plain.is_difference op) _ _
            (gives_where (IsSmall s) (same_type t u) (no_type at) (plain.where_elements s at t (Good (Node at (Int I64) (Binary op a b)))) (λ e. gives_elements (IsSmall s) s at t (Good (Node at (Int I64) (Binary op a b))) (pair_small a b ha hb)))
            (gives_if (IsSmall s) (plain.is_equality op) _ _
            (gives_where (IsSmall s) (plain.are_compatible (Ptr t) (Ptr u)) (no_type at) (Good (Node at int_type (Binary op a b))) (λ e. pair_small a b ha hb))
            (gives_where (IsSmall s) (is_relation op && same_type t u) (no_type at) (Good (Node at int_type (Binary op a b))) (λ e. pair_small a b ha hb)))

        binary_small : Gives (IsSmall s) (plain.binary s at op a b)
        binary_small = gives_where (IsSmall s) (plain.knows_elements s op (type_of a) (type_of b)) (no_name at) (plain.operated s at op a b)
            (λ z. by (integer_type (type_of a)) (integer_type (type_of b)) (plain.pointed (type_of a)) (plain.pointed (type_of b)))
          where
            by : (o q : Option CInt) (p r : Option PlainType) → Gives (IsSmall s) (elim o [
              | Some k ↦ elim q [ Some l ↦ Good (plain.on_integers at op k l a b) | None ↦ given r (no_type at) (λ t. plain.on_integer_and_pointer s at op t a b) ]
              | None ↦ given p (no_type at) (λ t. elim q [ Some l ↦ plain.on_pointer_and_integer s at op t a b | None ↦ given r (no_type at) (λ u. plain.on_pointers s at op t u a b) ])
            ])
            by (Some k) (Some l) p r = integers_small k l
            by (Some k) None p None = tt
            by (Some k) None p (Some t) = left_small t
            by None q None r = tt
            by None (Some l) (Some t) r = right_small t
            by None None (Some t) None = tt
            by None None (Some t) (Some u) = pointers_small t u

    truth_small : (a b : Expression) → IsSmall s a → IsSmall s b → Gives (IsSmall s) (plain.both_of at a b) × Gives (IsSmall s) (plain.either_of at a b)
    truth_small a b ha hb =
        let h = and_both (has_small_sizes s.structs a) (has_small_sizes s.structs b) ha hb in (
          gives_where (IsSmall s) (plain.is_scalar (type_of a) && plain.is_scalar (type_of b)) (no_type at) (Good (Node at int_type (Both a b))) (λ e. h),
          gives_where (IsSmall s) (plain.is_scalar (type_of a) && plain.is_scalar (type_of b)) (no_type at) (Good (Node at int_type (Either a b))) (λ e. h),
        )

    choice_small : (a b c : Expression) → IsSmall s a → IsSmall s b → IsSmall s c → Gives (IsSmall s) (plain.choice_of s at a b c)
    choice_small a b c ha hb hc = gives_where (IsSmall s) (plain.is_scalar (type_of a)) (no_type at) (given (plain.choice_type s b c) (no_type at) (λ t. Good (Node at t (Choice a (in_type t b) (in_type t c)))))
        (λ e. gives_given (IsSmall s) (plain.choice_type s b c) (no_type at) (λ t. Good (Node at t (Choice a (in_type t b) (in_type t c)))) (λ t f.
        and_both (has_small_sizes s.structs a) (has_small_sizes s.structs (in_type t b) && has_small_sizes s.structs (in_type t c)) ha
        (and_both (has_small_sizes s.structs (in_type t b)) (has_small_sizes s.structs (in_type t c)) (in_type_small s t b hb) (in_type_small s t c hc))))

    compounded_small : (op : BinOp) (a b whole : Expression) → IsSmall s whole → Gives (IsSmall s) (plain.compounded s at op a b whole)
    compounded_small op a b whole h = gives_where (IsSmall s) (plain.knows_elements s op (type_of a) (type_of b)) (no_name at) (plain.operated_in_place s at op a b whole)
        (λ z. by (integer_type (type_of a)) (plain.pointed (type_of a)) (plain.is_place a && is_there (integer_type (type_of b))))
      where
        by : (o : Option CInt) (q : Option PlainType) (p : Bool) → Gives (IsSmall s) (elim o [
          | Some k ↦ where_so p (no_type at) (Good whole)
          | None ↦ given q (no_type at) (λ t. where_so (p && plain.is_step op true) (no_type at) (plain.where_elements s at t (Good whole)))
        ])
        by (Some k) q p = gives_where (IsSmall s) p (no_type at) (Good whole) (λ e. h)
        by None None p = tt
        by None (Some t) p = gives_where (IsSmall s) (p && plain.is_step op true) (no_type at) (plain.where_elements s at t (Good whole)) (λ e. gives_elements (IsSmall s) s at t (Good whole) h)

    assign_small : (op : Option BinOp) (a b : Expression) → Gives (IsSmall s) (plain.assign s at op a b)
    assign_small None a b = gives_if (IsSmall s) (plain.is_struct (type_of a)) (plain.assigned_struct s at a b) (plain.assigned_scalar s at a b)
        (gives_sized (IsSmall s) s at (type_of a) (where_so (plain.is_place a && same_type (type_of b) (type_of a)) (no_type at) (Good (Node at (type_of a) (Assign None a b))))
        (gives_where (IsSmall s) (plain.is_place a && same_type (type_of b) (type_of a)) (no_type at) (Good (Node at (type_of a) (Assign None a b))) (λ e. refl)))
        (gives_where (IsSmall s) (plain.is_place a && plain.is_scalar (type_of a) && plain.is_assigned s b (type_of a)) (no_type at) (Good (Node at (type_of a) (Assign None a (in_type (type_of a) b)))) (λ e. refl))
    assign_small (Some op) a b = compounded_small op a b (Node at (type_of a) (Assign (Some op) a b)) refl

    index_small : (a b : Expression) → Gives (IsSmall s) (plain.index s at a b)
    index_small a b = gives_where (IsSmall s) (plain.knows_elements s operator.Add (type_of a) (type_of b)) (no_name at) (plain.element s at a b)
        (λ z. by (plain.pointed (type_of a)) (plain.pointed (type_of b)) (is_there (integer_type (type_of a))) (is_there (integer_type (type_of b))))
      where
        one : (t : PlainType) (x : Bool) → Gives (IsSmall s) (where_so x (no_type at) (plain.where_elements s at t (Good (Node at t (Index a b)))))
        one t x = gives_where (IsSmall s) x (no_type at) (plain.where_elements s at t (Good (Node at t (Index a b)))) (λ e. gives_elements (IsSmall s) s at t (Good (Node at t (Index a b))) refl)

        by : (o q : Option PlainType) (x y : Bool) → Gives (IsSmall s) (elim o [
          | Some t ↦ where_so y (no_type at) (plain.where_elements s at t (Good (Node at t (Index a b))))
          | None ↦ given q (no_type at) (λ t. where_so x (no_type at) (plain.where_elements s at t (Good (Node at t (Index a b)))))
        ])
        by (Some t) q x y = one t y
        by None (Some t) x y = one t x
        by None None x y = tt

    dot_small : (m : ℕ) (a : Expression) → Gives (IsSmall s) (plain.dot s at m a)
    dot_small m a = gives_one (λ (t : PlainType). Unit {0}) (IsSmall s) (plain.member s at (type_of a) m) (λ t. Good (Node at t (Dot a m))) (anything (plain.member s at (type_of a) m)) (λ t u. refl)

    arrow_small : (m : ℕ) (a : Expression) → Gives (IsSmall s) (plain.arrow s at m a)
    arrow_small m a = gives_given (IsSmall s) (plain.pointed (type_of a)) (no_type at) (λ t. one_part (plain.member s at t m) (λ u. Good (Node at u (Arrow a m))))
        (λ t e. gives_one (λ (u : PlainType). Unit {0}) (IsSmall s) (plain.member s at t m) (λ u. Good (Node at u (Arrow a m))) (anything (plain.member s at t m)) (λ u v. refl))

-- ---- expressions

decayed_small : (s : Sight) (c : Checked Expression) → Gives (IsSmall s) c → Gives (IsSmall s) (decayed_of c)
decayed_small s c g = gives_one (IsSmall s) (IsSmall s) c (λ e. Good (decayed e)) g (λ e h. small_decayed s.structs e h)

named_small : (s : Sight) (at : Place) (x : ℕ) → Gives (IsSmall s) (plain.typed_name s at x)
named_small s at x = by (plain.entity_named x s.entities) (plain.function_called x s.functions) (library_constant (plain.name_at s.names x)) (plain.is_null_word s x) (is_there (plain.library_function x (plain.name_at s.names x)))
  where
    by : (e : Option plain.Entity) (f : Option plain.Signature) (c : Option (CInt × ℤ)) (n l : Bool) → Gives (IsSmall s) (elim e [
      | Some e ↦ elim e [ plain.AnObject b ↦ Good (Node at b.ctype (Variable (plain.use_as x b.decl))) | plain.AnEnumerator c ↦ Good (Node at int_type (Number c.value (Some I32))) ]
      | None ↦ elim f [
        | Some f ↦ faulty (no_type at)
        | None ↦ elim c [
          | Some c ↦ Good (Node at (Int c.0) (Number c.1 (Some c.0)))
          | None ↦ cond n (Good (Node at (Ptr Void) (Variable (plain.use_as x 4294967295)))) (cond l (faulty (no_type at)) (faulty (no_name at)))
        ]
      ]
    ])
    by (Some (plain.AnObject b)) f c n l = refl
    by (Some (plain.AnEnumerator e)) f c n l = refl
    by None (Some f) c n l = tt
    by None None (Some c) n l = refl
    by None None None true l = refl
    by None None None false true = tt
    by None None None false false = tt

-- what is known of a type that is written
type_known : (s : Sight) (at : Place) (t : PlainType) → Gives (λ u. known_type s t ≡ u) (typed_type s at t)
type_known s at t = by (typed_type s at t) (type_is_known s at t)
  where
    by : (c : Checked PlainType) → model.Gives (λ u. known_type s t ≡ u) c → Gives (λ u. known_type s t ≡ u) c
    by (Good u) g = g
    by (Bad f fs) g = tt

-- a type whose size is asked for
written_small : (s : Sight) (at : Place) (t : PlainType) (c : Checked PlainType) → Gives (λ u. t ≡ u) c → Gives (IsSmall s) (limited s at t (one_part c (plain.size_of_type s at)))
written_small s at t c g = gives_besides (IsSmall s) (is_within_limits s t) (too_large at) (one_part c (plain.size_of_type s at)) (λ e.
    gives_one (λ u. t ≡ u) (IsSmall s) c (plain.size_of_type s at) g (λ u is.
    gives_sized (IsSmall s) s at u (Good (Node at (Int U64) (SizeOfType u)))
    (within_small s u (nat_le (plain.levels_of s.levels u) plain.most_levels) (subst (λ v. is_within_limits s v ≡ true) is e))))

asked_small : (s : Sight) (at : Place) (c : Checked Expression) → Gives (IsSmall s) (one_part c (λ e. limited s at (type_of e) (plain.size_of_expression s at e)))
asked_small s at (Good a) = gives_besides (IsSmall s) (is_within_limits s (type_of a)) (too_large at) (plain.size_of_expression s at a)
    (λ e. gives_sized (IsSmall s) s at (type_of a) (Good (Node at (Int U64) (SizeOfExpr a))) (within_small s (type_of a) (nat_le (plain.levels_of s.levels (type_of a)) plain.most_levels) e))
asked_small s at (Bad f fs) = tt

abbrev AreSmall : Sight → Expression × Expression → Type 0
AreSmall s p = IsSmall s p.0 × IsSmall s p.1

pub typed_small : (s : Sight) (e : Expression) → Gives (IsSmall s) (typed s e)
typed_small s (Node at t (Number n k)) = gives_given (IsSmall s) k (no_type at) (λ l. where_so (fits l n) (no_type at) (Good (Node at (Int l) (Number n (Some l)))))
    (λ l e. gives_where (IsSmall s) (fits l n) (no_type at) (Good (Node at (Int l) (Number n (Some l)))) (λ f. refl))
typed_small s (Node at t (Letter n)) = refl
typed_small s (Node at t (Text offset)) = gives_given (IsSmall s) (plain.literal_at offset 0 s.texts) (no_type at) (λ l. Good (Node at (Array (Int I8) (Count (length l.1 + 1))) (Text l.0))) (λ l e. refl)
typed_small s (Node at t (Variable x)) = named_small s at x.name
typed_small s (Node at t (Unary op a)) = gives_one (IsSmall s) (IsSmall s) (typed s a) (plain.unary_on at op) (typed_small s a) (unary_small s at op)
typed_small s (Node at t (Binary op a b)) = gives_both (IsSmall s) (IsSmall s) (IsSmall s) (decayed_of (typed s a)) (decayed_of (typed s b)) (plain.binary s at op)
    (decayed_small s (typed s a) (typed_small s a)) (decayed_small s (typed s b) (typed_small s b)) (binary_small s at op)
typed_small s (Node at t (Both a b)) = gives_both (IsSmall s) (IsSmall s) (IsSmall s) (decayed_of (typed s a)) (decayed_of (typed s b)) (plain.both_of at)
    (decayed_small s (typed s a) (typed_small s a)) (decayed_small s (typed s b) (typed_small s b)) (λ x y hx hy. (truth_small s at x y hx hy).0)
typed_small s (Node at t (Either a b)) = gives_both (IsSmall s) (IsSmall s) (IsSmall s) (decayed_of (typed s a)) (decayed_of (typed s b)) (plain.either_of at)
    (decayed_small s (typed s a) (typed_small s a)) (decayed_small s (typed s b) (typed_small s b)) (λ x y hx hy. (truth_small s at x y hx hy).1)
typed_small s (Node at t (Choice a b c)) =
    gives_both (IsSmall s) (AreSmall s) (IsSmall s) (decayed_of (typed s a)) (both_parts (decayed_of (typed s b)) (decayed_of (typed s c)) two) (λ x p. plain.choice_of s at x p.0 p.1)
    (decayed_small s (typed s a) (typed_small s a))
    (gives_both (IsSmall s) (IsSmall s) (AreSmall s) (decayed_of (typed s b)) (decayed_of (typed s c)) two (decayed_small s (typed s b) (typed_small s b)) (decayed_small s (typed s c) (typed_small s c)) (λ y z hy hz. (hy, hz)))
    (λ x p hx hp. choice_small s at x p.0 p.1 hx hp.0 hp.1)
typed_small s (Node at t (Assign op a b)) = gives_both (λ (x : Expression). Unit {0}) (λ (y : Expression). Unit {0}) (IsSmall s) (typed s a) (decayed_of (typed s b)) (plain.assign s at op)
    (anything (typed s a)) (anything (decayed_of (typed s b))) (λ x y u v. assign_small s at op x y)
typed_small s (Node at t (Bump op a)) = gives_one (λ (x : Expression). Unit {0}) (IsSmall s) (typed s a) (plain.bump s at op) (anything (typed s a))
    (λ x u. compounded_small s at operator.Add x (Node at int_type (Number (pos 1) (Some I32))) (Node at (type_of x) (Bump op x)) refl)
typed_small s (Node at t (Call f es)) = gives_both (λ (x : plain.Signature). Unit {0}) (λ (y : Expressions). Unit {0}) (IsSmall s) (plain.callee_for s at f.name es)
    (typed_arguments s (plain.is_printf s f.name) (params_of (plain.callee_for s at f.name es)) es) (plain.call at)
    (anything (plain.callee_for s at f.name es)) (anything (typed_arguments s (plain.is_printf s f.name) (params_of (plain.callee_for s at f.name es)) es))
    (λ g es u v. gives_where (IsSmall s) (nat_eq (plain.argument_count es) (length g.params)) (no_type at) (Good (Node at g.result (Call (plain.use_as g.name g.decl) es))) (λ e. refl))
typed_small s (Node at t (Cast to a)) = gives_limited (IsSmall s) s at (known_type s to) (both_parts (typed_type s at to) (decayed_of (typed s a)) (plain.cast s at))
    (gives_both (λ (x : PlainType). Unit {0}) (IsSmall s) (IsSmall s) (typed_type s at to) (decayed_of (typed s a)) (plain.cast s at)
    (anything (typed_type s at to)) (decayed_small s (typed s a) (typed_small s a))
    (λ u x v h. gives_where (IsSmall s) (plain.is_cast s x u) (no_type at) (Good (Node at u (Cast u x))) (λ e. h)))
typed_small s (Node at t (SizeOfType u)) = written_small s at (known_type s u) (typed_type s at u) (type_known s at u)
typed_small s (Node at t (SizeOfExpr a)) = asked_small s at (typed s a)
typed_small s (Node at t (Index a b)) = gives_both (λ (x : Expression). Unit {0}) (λ (y : Expression). Unit {0}) (IsSmall s) (decayed_of (typed s a)) (decayed_of (typed s b)) (plain.index s at)
    (anything (decayed_of (typed s a))) (anything (decayed_of (typed s b))) (λ x y u v. index_small s at x y)
typed_small s (Node at t (Dot a m)) = gives_one (λ (x : Expression). Unit {0}) (IsSmall s) (typed s a) (plain.dot s at m) (anything (typed s a)) (λ x u. dot_small s at m x)
typed_small s (Node at t (Arrow a m)) = gives_one (λ (x : Expression). Unit {0}) (IsSmall s) (decayed_of (typed s a)) (plain.arrow s at m) (anything (decayed_of (typed s a))) (λ x u. arrow_small s at m x)
typed_small s (Node at t (Comma a b)) = gives_both (IsSmall s) (IsSmall s) (IsSmall s) (typed s a) (decayed_of (typed s b)) (λ x y. Good (Node at (type_of y) (Comma x y)))
    (typed_small s a) (decayed_small s (typed s b) (typed_small s b)) (λ x y hx hy. and_both (has_small_sizes s.structs x) (has_small_sizes s.structs y) hx hy)

-- what is answered of an expression
pub small_typed : (s : Sight) (e x : Expression) → typed s e ≡ Good x → has_small_sizes s.structs x ≡ true
small_typed s e x is = gives_of (IsSmall s) (typed s e) x (typed_small s e) is
