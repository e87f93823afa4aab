-- What typing makes of an expression is the expression that was read, but for types, casts and constants.
use Rattle.std.proofs.Common.{◌≡◌, ℕ, ℤ, pos, refl, sym, ◌∙◌, ap, length, nat_eq, codes, bytes_eq, ◌||◌, List, [], ◌∷◌, Option, Some, None, Bool, true, false, not, ◌&&◌, cond, if◌then◌else◌}
use Rattle.c_syntax.specs.declared.place.Place.{Place}
use Rattle.c_syntax.specs.declared.types.CInt.{CInt}
use Rattle.c_syntax.specs.declared.types.CInt.TheVariants.{I32, I64, U64}
use Rattle.c_syntax.specs.declared.expression.Use.{Use}
use Rattle.c_syntax.specs.declared.expression.UnOp.{UnOp}
use Rattle.c_syntax.specs.declared.expression.UnOp.TheVariants as unary
use Rattle.c_syntax.specs.declared.expression.BinOp.{BinOp}
use Rattle.c_syntax.specs.declared.expression.BinOp.TheVariants as operator
use Rattle.c_syntax.specs.declared.expression.BumpOp.{BumpOp}
use Rattle.c_syntax.specs.Ctypes.{PlainType, Void, Int, Ptr, Array, Struct, Named, StructTag, EnumTag, int_type}
use Rattle.c_syntax.specs.Expressions.{Expression, Node, ExpressionKind, Number, Letter, Text, Variable, Unary, Binary, Both, Either, Choice, Assign, Bump, Call, Cast, SizeOfType, SizeOfExpr, Index, Dot, Arrow, Comma, Expressions}
use Rattle.c_syntax.specs.Expressions.{NoExpression, Following, place_of, type_of}
use Rattle.c_model.specs.Integers.{fits, integer_type}
use Rattle.c_model.specs.Conversions.{promoted, common, is_shift, is_relation, result_type}
use Rattle.c_model.specs.Library.{library_constant, is_there}
use Rattle.c_model.specs.Checked.{Checked, Good, Bad, faulty, one_part, both_parts, given, where_so}
use Rattle.c_model.specs.ExpressionTyping.{no_name, no_type, Sight, Entity, AnObject, AnEnumerator, Signature, name_at, entity_named, function_called, library_function, use_as, literal_at, same_type}
use Rattle.c_model.specs.ExpressionTyping.{is_scalar, is_void, pointed, is_place, decayed, in_type, in_int, decayed_of, literal, text, is_null_word, library_name, typed_name, unary_on, on_integers, both_of, either_of}
use Rattle.c_model.specs.ExpressionTyping.{choice_type, choice_of, is_struct, is_step, is_equality, is_difference, where_elements, on_pointers, on_pointer_and_integer, on_integer_and_pointer, knows_elements, operated, is_null, are_compatible}
use Rattle.c_model.specs.ExpressionTyping.{binary, operated_in_place, element}
use Rattle.c_model.specs.ExpressionTyping.{is_assigned, assigned_struct, assigned_scalar, compounded, assign, bump, is_cast, cast, index, member, dot, arrow, size_of_type, size_of_expression}
use Rattle.c_model.specs.ExpressionTyping.{callee_for, with_directives, is_printf, is_passed}
use Rattle.c_model.specs.ExpressionTyping.{or_else, no_function, callee, first_type, rest_types, argument_for, argument_count, call, params_of, two, typed, typed_arguments, typed_type, known_type, limited}
use Rattle.c_model.specs.TypedTrees.{TypingLaws, AsUse, AsNumber, TypedAs, KindTypedAs, AllTypedAs}
use Rattle.c_model.proofs.TypedSoundness.{called_name, named_of_library, gives_limited, typed_well}
use Rattle.c_model.proofs.TypedParts.{Gives, gives_of, gives_one, gives_both, gives_given, gives_where, gives_sized, gives_elements}

cast_as : (r e : Expression) (t : PlainType) → TypedAs r e → TypedAs r (Node (place_of e) t (Cast t e))
cast_as (Node at u k) e t h = (t ∷ h.0, h.1, ap (λ x. Node (place_of x) t (Cast t x)) h.2, h.3, h.4)

pub in_type_as : (r e : Expression) (t : PlainType) → TypedAs r e → TypedAs r (in_type t e)
in_type_as r e t h = by (same_type (type_of e) t)
  where
    by : (b : Bool) → TypedAs r (cond b e (Node (place_of e) t (Cast t e)))
    by true = h
    by false = cast_as r e t h

pub decayed_as : (r e : Expression) → TypedAs r e → TypedAs r (decayed e)
decayed_as r (Node at Void k) h = h
decayed_as r (Node at (Int l) k) h = h
decayed_as r (Node at (Ptr t) k) h = h
decayed_as r (Node at (Array t n) k) h = cast_as r (Node at (Array t n) k) (Ptr t) h
decayed_as r (Node at (Struct n) k) h = h
decayed_as r (Node at (Named x) k) h = h
decayed_as r (Node at (StructTag x tag) k) h = h
decayed_as r (Node at (EnumTag x tag) k) h = h

-- a form at its place, in no cast
pub form_as : (at : Place) (u t : PlainType) (k j : ExpressionKind) → KindTypedAs k j → TypedAs (Node at u k) (Node at t j)
form_as at u t k j h = ([], Node at t j, refl, refl, h)

anything : {A : Type 0} (c : Checked A) → Gives (λ u. Unit {0}) c
anything (Good a) = tt
anything (Bad f fs) = tt

-- ---- the rules

module _ (s : Sight) (at : Place) (u : PlainType)
  where
    literal_as : (n : ℤ) (k : Option CInt) → Gives (TypedAs (Node at u (Number n k))) (literal at n k)
    literal_as n k = gives_given _ k _ _ (λ l e. gives_where _ (fits l n) _ _ (λ f. form_as at u (Int l) (Number n k) (Number n (Some l)) (l, refl)))

    text_as : (offset : ℕ) → Gives (TypedAs (Node at u (Text offset))) (text s at offset)
    text_as offset = gives_given _ (literal_at offset 0 s.texts) _ _ (λ l e. form_as at u _ (Text offset) (Text l.0) (l.0, refl))

    named_as : (x : Use) → Gives (TypedAs (Node at u (Variable x))) (typed_name s at x.name)
    named_as x = by (entity_named x.name s.entities)
      where
        by_word : (a b : Bool) → Gives (TypedAs (Node at u (Variable x))) (cond a (Good (Node at (Ptr Void) (Variable (use_as x.name 4294967295)))) (cond b (faulty (no_type at)) (faulty (no_name at))))
        by_word true b = form_as at u (Ptr Void) (Variable x) (Variable (use_as x.name 4294967295)) (AsUse 4294967295 refl)
        by_word false true = tt
        by_word false false = tt

        by_constant : (o : Option (CInt × ℤ)) → Gives (TypedAs (Node at u (Variable x))) (elim o [
          | Some c ↦ Good (Node at (Int c.0) (Number c.1 (Some c.0)))
          | None ↦ cond (is_null_word s x.name) (Good (Node at (Ptr Void) (Variable (use_as x.name 4294967295))))
              (cond (is_there (library_function x.name (name_at s.names x.name))) (faulty (no_type at)) (faulty (no_name at)))
        ])
        by_constant (Some c) = form_as at u (Int c.0) (Variable x) (Number c.1 (Some c.0)) (AsNumber c.1 c.0 refl)
        by_constant None = by_word (is_null_word s x.name) (is_there (library_function x.name (name_at s.names x.name)))

        by_function : (o : Option Signature) → Gives (TypedAs (Node at u (Variable x))) (elim o [ Some f ↦ faulty (no_type at) | None ↦ library_name s at x.name ])
        by_function (Some f) = tt
        by_function None = by_constant (library_constant (name_at s.names x.name))

        by : (o : Option Entity) → Gives (TypedAs (Node at u (Variable x))) (elim o [
          | Some e ↦ elim e [
            | AnObject b ↦ Good (Node at b.ctype (Variable (use_as x.name b.decl)))
            | AnEnumerator c ↦ Good (Node at int_type (Number c.value (Some I32)))
          ]
          | None ↦ elim (function_called x.name s.functions) [ Some f ↦ faulty (no_type at) | None ↦ library_name s at x.name ]
        ])
        by (Some (AnObject b)) = form_as at u b.ctype (Variable x) (Variable (use_as x.name b.decl)) (AsUse b.decl refl)
        by (Some (AnEnumerator c)) = form_as at u int_type (Variable x) (Number c.value (Some I32)) (AsNumber c.value I32 refl)
        by None = by_function (function_called x.name s.functions)

    module _ (r a : Expression) (v : TypedAs r a)
      where
        one_as : (op : UnOp) (t : PlainType) (x : Expression) → TypedAs r x → TypedAs (Node at u (Unary op r)) (Node at t (Unary op x))
        one_as op t x h = form_as at u t (Unary op r) (Unary op x) (x, refl, h)

        unary_as : (op : UnOp) → Gives (TypedAs (Node at u (Unary op r))) (unary_on at op a)
        unary_as unary.Plus = gives_given _ (integer_type (type_of a)) _ _ (λ k i. one_as unary.Plus (Int (promoted k)) (in_int (promoted k) a) (in_type_as r a (Int (promoted k)) v))
        unary_as unary.Minus = gives_given _ (integer_type (type_of a)) _ _ (λ k i. one_as unary.Minus (Int (promoted k)) (in_int (promoted k) a) (in_type_as r a (Int (promoted k)) v))
        unary_as unary.Flip = gives_given _ (integer_type (type_of a)) _ _ (λ k i. one_as unary.Flip (Int (promoted k)) (in_int (promoted k) a) (in_type_as r a (Int (promoted k)) v))
        unary_as unary.Not = gives_where _ (is_scalar (type_of (decayed a))) _ _ (λ t. one_as unary.Not int_type (decayed a) (decayed_as r a v))
        unary_as unary.Deref = gives_given _ (pointed (type_of (decayed a))) _ _ (λ t i. gives_where _ (not (is_void t)) _ _ (λ n. one_as unary.Deref t (decayed a) (decayed_as r a v)))
        unary_as unary.Address = gives_where _ (is_place a) _ _ (λ t. one_as unary.Address (Ptr (type_of a)) a v)

    module _ (ra rb a b : Expression) (v : TypedAs ra a) (w : TypedAs rb b)
      where
        two_as : (op : BinOp) (t : PlainType) (x y : Expression) → TypedAs ra x → TypedAs rb y → TypedAs (Node at u (Binary op ra rb)) (Node at t (Binary op x y))
        two_as op t x y h i = form_as at u t (Binary op ra rb) (Binary op x y) (x, y, refl, h, i)

        integers_as : (op : BinOp) (k l : CInt) → TypedAs (Node at u (Binary op ra rb)) (on_integers at op k l a b)
        integers_as op k l = by (is_shift op)
          where
            by : (f : Bool) → TypedAs (Node at u (Binary op ra rb)) (Node at (Int (result_type op k l)) (
                if f then Binary op (in_int (promoted k) a) (in_int (promoted l) b) else Binary op (in_int (common k l) a) (in_int (common k l) b)))
            by true = two_as op _ (in_int (promoted k) a) (in_int (promoted l) b) (in_type_as ra a (Int (promoted k)) v) (in_type_as rb b (Int (promoted l)) w)
            by false = two_as op _ (in_int (common k l) a) (in_int (common k l) b) (in_type_as ra a (Int (common k l)) v) (in_type_as rb b (Int (common k l)) w)

        choice_as : (rc : Expression) (c : Expression) → TypedAs rc c → Gives (TypedAs (Node at u (Choice rc ra rb))) (choice_of s at c a b)
        choice_as rc c x = gives_where _ (is_scalar (type_of c)) _ _ (λ p. gives_given _ (choice_type s a b) _ _ (λ t e.
            form_as at u t (Choice rc ra rb) (Choice c (in_type t a) (in_type t b)) (c, in_type t a, in_type t b, refl, x, in_type_as ra a t v, in_type_as rb b t w)))

        both_as : Gives (TypedAs (Node at u (Both ra rb))) (both_of at a b)
        both_as = gives_where _ (is_scalar (type_of a) && is_scalar (type_of b)) _ _ (λ t. form_as at u int_type (Both ra rb) (Both a b) (a, b, refl, v, w))

        either_as : Gives (TypedAs (Node at u (Either ra rb))) (either_of at a b)
        either_as = gives_where _ (is_scalar (type_of a) && is_scalar (type_of b)) _ _ (λ t. form_as at u int_type (Either ra rb) (Either a b) (a, b, refl, v, w))

        binary_as : (op : BinOp) → Gives (TypedAs (Node at u (Binary op ra rb))) (binary s at op a b)
        binary_as op = gives_where _ (knows_elements s op (type_of a) (type_of b)) (no_name at) (operated s at op a b) (λ z. by (integer_type (type_of a)) (integer_type (type_of b)))
          where
            pointers : (t r : PlainType) → Gives (TypedAs (Node at u (Binary op ra rb))) (on_pointers s at op t r a b)
            pointers t r = by (is_difference op) (is_equality op)
              where
                by : (d q : Bool) → Gives (TypedAs (Node at u (Binary op ra rb))) (
                    if d then where_so (same_type t r) (no_type at) (where_elements s at t (Good (Node at (Int I64) (Binary op a b))))
                    else (if q then where_so (are_compatible (Ptr t) (Ptr r)) (no_type at) (Good (Node at int_type (Binary op a b)))
                    else where_so (is_relation op && same_type t r) (no_type at) (Good (Node at int_type (Binary op a b)))))
                by true q = gives_where _ (same_type t r) _ _ (λ e. gives_elements _ s at t _ (λ k. two_as op (Int I64) a b v w))
                by false true = gives_where _ (are_compatible (Ptr t) (Ptr r)) _ _ (λ e. two_as op int_type a b v w)
                by false false = gives_where _ (is_relation op && same_type t r) _ _ (λ e. two_as op int_type a b v w)

            left : (t : PlainType) → Gives (TypedAs (Node at u (Binary op ra rb))) (on_pointer_and_integer s at op t a b)
            left t = by (is_step op true)
              where
                by : (d : Bool) → Gives (TypedAs (Node at u (Binary op ra rb))) (
                    if d then where_elements s at t (Good (Node at (Ptr t) (Binary op a b)))
                    else where_so (is_equality op && is_null s b) (no_type at) (Good (Node at int_type (Binary op a (in_type (Ptr t) b)))))
                by true = gives_elements _ s at t _ (λ k. two_as op (Ptr t) a b v w)
                by false = gives_where _ (is_equality op && is_null s b) _ _ (λ e. two_as op int_type a (in_type (Ptr t) b) v (in_type_as rb b (Ptr t) w))

            right : (t : PlainType) → Gives (TypedAs (Node at u (Binary op ra rb))) (on_integer_and_pointer s at op t a b)
            right t = by (is_step op false)
              where
                by : (d : Bool) → Gives (TypedAs (Node at u (Binary op ra rb))) (
                    if d then where_elements s at t (Good (Node at (Ptr t) (Binary op a b)))
                    else where_so (is_equality op && is_null s a) (no_type at) (Good (Node at int_type (Binary op (in_type (Ptr t) a) b))))
                by true = gives_elements _ s at t _ (λ k. two_as op (Ptr t) a b v w)
                by false = gives_where _ (is_equality op && is_null s a) _ _ (λ e. two_as op int_type (in_type (Ptr t) a) b (in_type_as ra a (Ptr t) v) w)

            by : (o r : Option CInt) → Gives (TypedAs (Node at u (Binary op ra rb))) (elim o [
              | Some k ↦ elim r [
                | Some l ↦ Good (on_integers at op k l a b)
                | None ↦ given (pointed (type_of b)) (no_type at) (λ t. on_integer_and_pointer s at op t a b)
              ]
              | None ↦ given (pointed (type_of a)) (no_type at) (λ t. elim r [
                | Some l ↦ on_pointer_and_integer s at op t a b
                | None ↦ given (pointed (type_of b)) (no_type at) (λ r. on_pointers s at op t r a b)
              ])
            ])
            by (Some k) (Some l) = integers_as op k l
            by (Some k) None = gives_given _ (pointed (type_of b)) _ _ (λ t e. right t)
            by None (Some l) = gives_given _ (pointed (type_of a)) _ _ (λ t e. left t)
            by None None = gives_given _ (pointed (type_of a)) _ _ (λ t e. gives_given _ (pointed (type_of b)) _ _ (λ r f. pointers t r))

        index_as : Gives (TypedAs (Node at u (Index ra rb))) (index s at a b)
        index_as = gives_where _ (knows_elements s operator.Add (type_of a) (type_of b)) (no_name at) (element s at a b) (λ z. by (pointed (type_of a)))
          where
            whole : (t : PlainType) → TypedAs (Node at u (Index ra rb)) (Node at t (Index a b))
            whole t = form_as at u t (Index ra rb) (Index a b) (a, b, refl, v, w)

            by : (o : Option PlainType) → Gives (TypedAs (Node at u (Index ra rb))) (elim o [
              | Some t ↦ where_so (is_there (integer_type (type_of b))) (no_type at) (where_elements s at t (Good (Node at t (Index a b))))
              | None ↦ given (pointed (type_of b)) (no_type at) (λ t. where_so (is_there (integer_type (type_of a))) (no_type at) (where_elements s at t (Good (Node at t (Index a b)))))
            ])
            by (Some t) = gives_where _ (is_there (integer_type (type_of b))) _ _ (λ e. gives_elements _ s at t _ (λ k. whole t))
            by None = gives_given _ (pointed (type_of b)) _ _ (λ t f. gives_where _ (is_there (integer_type (type_of a))) _ _ (λ e. gives_elements _ s at t _ (λ k. whole t)))

        compounded_as : (R : Expression → Type 0) (op : BinOp) (x y whole : Expression) → R whole → Gives R (compounded s at op x y whole)
        compounded_as R op x y whole h = gives_where R (knows_elements s op (type_of x) (type_of y)) (no_name at) (operated_in_place s at op x y whole) (λ z. by (integer_type (type_of x)))
          where
            by : (o : Option CInt) → Gives R (elim o [
              | Some k ↦ where_so (is_place x && is_there (integer_type (type_of y))) (no_type at) (Good whole)
              | None ↦ given (pointed (type_of x)) (no_type at) (λ t.
                  where_so (is_place x && is_there (integer_type (type_of y)) && is_step op true) (no_type at) (where_elements s at t (Good whole)))
            ])
            by (Some k) = gives_where R (is_place x && is_there (integer_type (type_of y))) _ _ (λ e. h)
            by None = gives_given R (pointed (type_of x)) _ _ (λ t f. gives_where R (is_place x && is_there (integer_type (type_of y)) && is_step op true) _ _ (λ e. gives_elements R s at t _ (λ k. h)))

        assign_as : (op : Option BinOp) → Gives (TypedAs (Node at u (Assign op ra rb))) (assign s at op a b)
        assign_as (Some op) = compounded_as (TypedAs (Node at u (Assign (Some op) ra rb))) op a b (Node at (type_of a) (Assign (Some op) a b))
            (form_as at u (type_of a) (Assign (Some op) ra rb) (Assign (Some op) a b) (a, b, refl, v, w))
        assign_as None = by (is_struct (type_of a))
          where
            by : (z : Bool) → Gives (TypedAs (Node at u (Assign None ra rb))) (if z then assigned_struct s at a b else assigned_scalar s at a b)
            by true = gives_sized _ s at (type_of a) _ (λ k. gives_where _ (is_place a && same_type (type_of b) (type_of a)) _ _ (λ p.
                form_as at u (type_of a) (Assign None ra rb) (Assign None a b) (a, b, refl, v, w)))
            by false = gives_where _ (is_place a && is_scalar (type_of a) && is_assigned s b (type_of a)) _ _ (λ p.
                form_as at u (type_of a) (Assign None ra rb) (Assign None a (in_type (type_of a) b)) (a, in_type (type_of a) b, refl, v, in_type_as rb b (type_of a) w))

        bump_as : (op : BumpOp) → Gives (TypedAs (Node at u (Bump op ra))) (bump s at op a)
        bump_as op = compounded_as (TypedAs (Node at u (Bump op ra))) operator.Add a (Node at int_type (Number (pos 1) (Some I32))) (Node at (type_of a) (Bump op a))
            (form_as at u (type_of a) (Bump op ra) (Bump op a) (a, refl, v))

    module _ (r a : Expression) (v : TypedAs r a)
      where
        cast_to_as : (w to : PlainType) → Gives (TypedAs (Node at u (Cast w r))) (cast s at to a)
        cast_to_as w to = gives_where _ (is_cast s a to) _ _ (λ c. form_as at u to (Cast w r) (Cast to a) (to, a, refl, v))

        size_as : Gives (TypedAs (Node at u (SizeOfExpr r))) (size_of_expression s at a)
        size_as = gives_sized _ s at (type_of a) _ (λ k. form_as at u (Int U64) (SizeOfExpr r) (SizeOfExpr a) (a, refl, v))

        dot_as : (m : ℕ) → Gives (TypedAs (Node at u (Dot r m))) (dot s at m a)
        dot_as m = gives_one (λ t. Unit {0}) _ (member s at (type_of a) m) _ (anything (member s at (type_of a) m)) (λ t h. form_as at u t (Dot r m) (Dot a m) (a, refl, v))

        arrow_as : (m : ℕ) → Gives (TypedAs (Node at u (Arrow r m))) (arrow s at m a)
        arrow_as m = gives_given _ (pointed (type_of a)) _ _ (λ t p. gives_one (λ t. Unit {0}) _ (member s at t m) _ (anything (member s at t m)) (λ w h.
            form_as at u w (Arrow r m) (Arrow a m) (a, refl, v)))

    size_of_type_as : (w t : PlainType) → Gives (TypedAs (Node at u (SizeOfType w))) (size_of_type s at t)
    size_of_type_as w t = gives_sized _ s at t _ (λ k. form_as at u (Int U64) (SizeOfType w) (SizeOfType t) (t, refl))

-- ---- calls

module _ (s : Sight)
  where
    found_name : (x : ℕ) (f : Signature) → or_else (function_called x s.functions) (library_function x (name_at s.names x)) ≡ Some f → x ≡ f.name
    found_name x f e = by (function_called x s.functions) refl e
      where
        by : (o : Option Signature) → function_called x s.functions ≡ o → or_else o (library_function x (name_at s.names x)) ≡ Some f → x ≡ f.name
        by (Some g) is e = let same : g ≡ f = cc in called_name x s.functions g is ∙ ap (λ g. g.name) same
        by None is e = (named_of_library x (name_at s.names x) f e).name

    callee_named : (at : Place) (x : ℕ) → Gives (λ g. x ≡ g.name) (callee s at x)
    callee_named at x = by (entity_named x s.entities)
      where
        unknown : (b : Bool) → Gives (λ (g : Signature). x ≡ g.name) (cond b (faulty (no_type at)) (faulty (no_name at)))
        unknown true = tt
        unknown false = tt

        by_function : (o : Option Signature) → or_else (function_called x s.functions) (library_function x (name_at s.names x)) ≡ o → Gives (λ (g : Signature). x ≡ g.name) (elim o [
          | None ↦ no_function s at x
          | Some f ↦ where_so f.defined (no_name at) (where_so (not (bytes_eq (name_at s.names x) (codes "main"))) (no_type at) (Good f))
        ])
        by_function None e = unknown (is_there (library_constant (name_at s.names x)) || is_null_word s x)
        by_function (Some f) e = gives_where (λ (g : Signature). x ≡ g.name) f.defined _ _ (λ d.
            gives_where (λ (g : Signature). x ≡ g.name) (not (bytes_eq (name_at s.names x) (codes "main"))) _ _ (λ t. found_name x f e))

        by : (o : Option Entity) → Gives (λ (g : Signature). x ≡ g.name) (elim o [
          | Some b ↦ faulty (no_type at)
          | None ↦ elim (or_else (function_called x s.functions) (library_function x (name_at s.names x))) [
            | None ↦ no_function s at x
            | Some f ↦ where_so f.defined (no_name at) (where_so (not (bytes_eq (name_at s.names x) (codes "main"))) (no_type at) (Good f))
          ]
        ])
        by (Some b) = tt
        by None = by_function (or_else (function_called x s.functions) (library_function x (name_at s.names x))) refl

    callee_for_named : (at : Place) (x : ℕ) (es : Expressions) → Gives (λ g. x ≡ g.name) (callee_for s at x es)
    callee_for_named at x es = gives_one (λ (g : Signature). x ≡ g.name) (λ (g : Signature). x ≡ g.name) (callee s at x) (λ f. Good (with_directives s es f)) (callee_named at x) (λ f e. e)

    argument_as : (r : Expression) (printed : Bool) (ts : List PlainType) (e : Expression) → TypedAs r e → Gives (TypedAs r) (argument_for s printed (first_type ts) e)
    argument_as r printed [] e h = h
    argument_as r printed (t ∷ ts) e h = gives_where (TypedAs r) (is_passed s printed e t) _ _ (λ c. in_type_as r e t h)

    call_as : (at : Place) (u : PlainType) (f : Use) (g : Signature) (es fs : Expressions) → f.name ≡ g.name → AllTypedAs es fs → Gives (TypedAs (Node at u (Call f es))) (call at g fs)
    call_as at u f g es fs e h = gives_where _ (nat_eq (argument_count fs) (length g.params)) _ _ (λ t.
        form_as at u g.result (Call f es) (Call (use_as g.name g.decl) fs) (g.decl, fs, ap (λ x. Call (use_as x g.decl) fs) (sym e), h))

    -- ---- expressions

    value_as : (r : Expression) (c : Checked Expression) → Gives (TypedAs r) c → Gives (TypedAs r) (decayed_of c)
    value_as r c g = gives_one (TypedAs r) (TypedAs r) c (λ e. Good (decayed e)) g (λ e h. decayed_as r e h)

    limited_as : {B : Type 0} (R : B → Type 0) (at : Place) (t : PlainType) (d : Checked B) → Gives R d → Gives R (limited s at t d)
    limited_as R at t d g = gives_limited R s at t d g

    mutual
      pub typed_as : (r : Expression) → Gives (TypedAs r) (typed s r)
      typed_as (Node at t (Number n k)) = literal_as s at t n k
      typed_as (Node at t (Letter n)) = form_as at t int_type (Letter n) (Letter n) refl
      typed_as (Node at t (Text offset)) = text_as s at t offset
      typed_as (Node at t (Variable x)) = named_as s at t x
      typed_as (Node at t (Unary op a)) = gives_one (TypedAs a) (TypedAs (Node at t (Unary op a))) (typed s a) (unary_on at op) (typed_as a) (λ x v. unary_as s at t a x v op)
      typed_as (Node at t (Binary op a b)) = gives_both (TypedAs a) (TypedAs b) (TypedAs (Node at t (Binary op a b))) (decayed_of (typed s a)) (decayed_of (typed s b)) (binary s at op)
          (value_as a (typed s a) (typed_as a)) (value_as b (typed s b) (typed_as b)) (λ x y v w. binary_as s at t a b x y v w op)
      typed_as (Node at t (Both a b)) = gives_both (TypedAs a) (TypedAs b) (TypedAs (Node at t (Both a b))) (decayed_of (typed s a)) (decayed_of (typed s b)) (both_of at)
          (value_as a (typed s a) (typed_as a)) (value_as b (typed s b) (typed_as b)) (λ x y v w. both_as s at t a b x y v w)
      typed_as (Node at t (Either a b)) = gives_both (TypedAs a) (TypedAs b) (TypedAs (Node at t (Either a b))) (decayed_of (typed s a)) (decayed_of (typed s b)) (either_of at)
          (value_as a (typed s a) (typed_as a)) (value_as b (typed s b) (typed_as b)) (λ x y v w. either_as s at t a b x y v w)
      typed_as (Node at t (Choice a b c)) =
          gives_both (TypedAs a) (λ p. TypedAs b p.0 × TypedAs c p.1) (TypedAs (Node at t (Choice a b c)))
          (decayed_of (typed s a)) (both_parts (decayed_of (typed s b)) (decayed_of (typed s c)) two) (λ x p. choice_of s at x p.0 p.1)
          (value_as a (typed s a) (typed_as a))
          (gives_both (TypedAs b) (TypedAs c) (λ p. TypedAs b p.0 × TypedAs c p.1) (decayed_of (typed s b)) (decayed_of (typed s c)) two
          (value_as b (typed s b) (typed_as b)) (value_as c (typed s c) (typed_as c)) (λ y z v w. (v, w)))
          (λ x p h i. choice_as s at t b c p.0 p.1 i.0 i.1 a x h)
      typed_as (Node at t (Assign op a b)) = gives_both (TypedAs a) (TypedAs b) (TypedAs (Node at t (Assign op a b))) (typed s a) (decayed_of (typed s b)) (assign s at op)
          (typed_as a) (value_as b (typed s b) (typed_as b)) (λ x y v w. assign_as s at t a b x y v w op)
      typed_as (Node at t (Bump op a)) = gives_one (TypedAs a) (TypedAs (Node at t (Bump op a))) (typed s a) (bump s at op) (typed_as a) (λ x v. bump_as s at t a a x x v v op)
      typed_as (Node at t (Call f es)) =
          let c = callee_for s at f.name es in
          gives_both (λ g. f.name ≡ g.name) (AllTypedAs es) (TypedAs (Node at t (Call f es))) c (typed_arguments s (is_printf s f.name) (params_of c) es) (call at)
          (callee_for_named at f.name es) (arguments_as (is_printf s f.name) (params_of c) es) (λ g fs e h. call_as at t f g es fs e h)
      typed_as (Node at t (Cast to a)) = limited_as (TypedAs (Node at t (Cast to a))) at (known_type s to) (both_parts (typed_type s at to) (decayed_of (typed s a)) (cast s at))
          (gives_both (λ u. Unit {0}) (TypedAs a) (TypedAs (Node at t (Cast to a))) (typed_type s at to) (decayed_of (typed s a)) (cast s at) (anything (typed_type s at to))
          (value_as a (typed s a) (typed_as a)) (λ u x i v. cast_to_as s at t a x v to u))
      typed_as (Node at t (SizeOfType u)) = limited_as (TypedAs (Node at t (SizeOfType u))) at (known_type s u) (one_part (typed_type s at u) (size_of_type s at))
          (gives_one (λ u. Unit {0}) (TypedAs (Node at t (SizeOfType u))) (typed_type s at u) (size_of_type s at) (anything (typed_type s at u)) (λ w h. size_of_type_as s at t u w))
      typed_as (Node at t (SizeOfExpr a)) = gives_one (TypedAs a) (TypedAs (Node at t (SizeOfExpr a))) (typed s a) (λ e. limited s at (type_of e) (size_of_expression s at e)) (typed_as a)
          (λ x v. limited_as (TypedAs (Node at t (SizeOfExpr a))) at (type_of x) (size_of_expression s at x) (size_as s at t a x v))
      typed_as (Node at t (Index a b)) = gives_both (TypedAs a) (TypedAs b) (TypedAs (Node at t (Index a b))) (decayed_of (typed s a)) (decayed_of (typed s b)) (index s at)
          (value_as a (typed s a) (typed_as a)) (value_as b (typed s b) (typed_as b)) (λ x y v w. index_as s at t a b x y v w)
      typed_as (Node at t (Dot a m)) = gives_one (TypedAs a) (TypedAs (Node at t (Dot a m))) (typed s a) (dot s at m) (typed_as a) (λ x v. dot_as s at t a x v m)
      typed_as (Node at t (Arrow a m)) = gives_one (TypedAs a) (TypedAs (Node at t (Arrow a m))) (decayed_of (typed s a)) (arrow s at m)
          (value_as a (typed s a) (typed_as a)) (λ x v. arrow_as s at t a x v m)
      typed_as (Node at t (Comma a b)) = gives_both (TypedAs a) (TypedAs b) (TypedAs (Node at t (Comma a b))) (typed s a) (decayed_of (typed s b)) (λ a b. Good (Node at (type_of b) (Comma a b)))
          (typed_as a) (value_as b (typed s b) (typed_as b)) (λ x y v w. form_as at t (type_of y) (Comma a b) (Comma x y) (x, y, refl, v, w))

      arguments_as : (printed : Bool) (ts : List PlainType) (es : Expressions) → Gives (AllTypedAs es) (typed_arguments s printed ts es)
      arguments_as printed ts NoExpression = refl
      arguments_as printed ts (Following e es) =
          gives_both (TypedAs e) (AllTypedAs es) (AllTypedAs (Following e es)) (one_part (decayed_of (typed s e)) (argument_for s printed (first_type ts)))
          (typed_arguments s printed (rest_types ts) es) (λ e es. Good (Following e es))
          (gives_one (TypedAs e) (TypedAs e) (decayed_of (typed s e)) (argument_for s printed (first_type ts)) (value_as e (typed s e) (typed_as e)) (λ x v. argument_as e printed ts x v))
          (arguments_as printed (rest_types ts) es)
          (λ x xs v w. (x, xs, refl, v, w))

-- the laws of typing
pub typing_laws : TypingLaws
typing_laws = record { is_known = λ s e x i is. typed_well s i e x is; is_read = λ s e x is. gives_of (TypedAs e) (typed s e) x (typed_as s e) is }
