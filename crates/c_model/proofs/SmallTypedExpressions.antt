-- The types in a typed expression have few enough bytes, where those in sight have.
use Rattle.std.proofs.Common.{◌≡◌, ℕ, ℤ, pos, ◌+◌, refl, ◌∙◌, subst, List, [], ◌∷◌, length, Option, Some, None, Bool, true, false, not, ◌&&◌, ◌||◌}
use Rattle.std.proofs.Common.{cond, if◌then◌else◌, nat_eq, slice_get, codes, bytes_eq, suc}
use Rattle.c_syntax.specs.declared.place.Place.{Place}
use Rattle.c_syntax.specs.declared.types.CInt.{CInt}
use Rattle.c_syntax.specs.declared.types.CInt.TheVariants.{I8, I32, I64}
use Rattle.c_syntax.specs.declared.expression.UnOp.{UnOp}
use Rattle.c_syntax.specs.declared.expression.UnOp.TheVariants as unary
use Rattle.c_syntax.specs.declared.expression.BinOp.{BinOp}
use Rattle.c_syntax.specs.declared.expression.BinOp.TheVariants as operator
use Rattle.c_syntax.specs.declared.expression.BumpOp.{BumpOp}
use Rattle.c_syntax.specs.Ctypes.{PlainType, Void, Int, Ptr, Array, Struct, Named, StructTag, EnumTag, Count, int_type}
use Rattle.c_syntax.specs.Expressions.{Expression, Node, Number, Letter, Text, Variable, Unary, Binary, Both, Either, Choice, Assign, Bump, Call, Cast, SizeOfType, SizeOfExpr, Index, Dot, Arrow, Comma, Expressions}
use Rattle.c_syntax.specs.Expressions.{NoExpression, Following, place_of, type_of}
use Rattle.c_syntax.specs.Programs.{StructMember, StructType, StringLiteral}
use Rattle.c_syntax.specs.Layouts.{members_of, members_of_struct, member_among}
use Rattle.c_model.specs.Integers.{fits, integer_type}
use Rattle.c_model.specs.Conversions.{promoted, common, is_shift, is_relation, result_type}
use Rattle.c_model.specs.Library.{library_constant, is_there}
use Rattle.c_model.specs.Meaning.{is_pointer}
use Rattle.c_model.specs.Checked.{Checked, Good, Bad, faulty, one_part, both_parts, given, where_so}
use Rattle.c_model.specs.ExpressionTyping.{no_name, no_type, Sight, Entity, AnObject, AnEnumerator, Signature, name_at, has_name, entity_named, function_called, library_function, use_as, literal_at, same_type}
use Rattle.c_model.specs.ExpressionTyping.{is_scalar, is_void, pointed, is_place, decayed, in_type, in_int, decayed_of, literal, text, is_null_word, library_name, typed_name, unary_on, on_integers, both_of, either_of}
use Rattle.c_model.specs.ExpressionTyping.{choice_type, pointer_choice, choice_of, is_struct, is_step, is_equality, is_difference, where_elements, on_pointers, on_pointer_and_integer, on_integer_and_pointer, binary}
use Rattle.c_model.specs.ExpressionTyping.{is_null, are_compatible, points_to_void, knows_elements, operated, operated_in_place, element}
use Rattle.c_model.specs.ExpressionTyping.{is_assigned, assigned_struct, assigned_scalar, compounded, assign, bump, is_cast, cast, index, member, dot, arrow, size_of_type, size_of_expression}
use Rattle.c_model.specs.Formats.{Piece, Bytes, Number as NumberPiece, Character, String, types_of}
use Rattle.c_model.specs.ExpressionTyping.{callee_for, with_directives, is_printf, format_of, format_params, is_passed}
use Rattle.c_model.specs.ExpressionTyping.{or_else, no_function, callee, first_type, rest_types, argument_for, argument_count, call, params_of, two, typed, typed_arguments, typed_type, known_type, limited}
use Rattle.c_model.specs.SmallTypes.{TypesSmall, AllTypesSmall}
use Rattle.c_model.proofs.TypedParts.{Gives, gives_one, gives_both, gives_given, gives_where, gives_sized, gives_elements, pointed_is}
use Rattle.c_model.proofs.KnownTypes.{type_is_known}
use Rattle.c_model.proofs.TypedSoundness.{gives_limited}
use Rattle.c_model.proofs.TypedDeclarations.{anything}
use Rattle.c_model.proofs.StableConstants.{Grows}
use Rattle.c_model.proofs.FirmTypes.{AreFirm, AreSmallStructs, Small, elements_small, typed_firm, limited_small_both}
use Rattle.c_model.proofs.LibraryFunctions.{each_of_library}

gives_compounded : (s : Sight) (at : Place) (R : Expression → Type 0) (op : BinOp) (x y whole : Expression) → R whole → Gives R (compounded s at op x y whole)
gives_compounded s at R op x y whole h = gives_where R (knows_elements s op (type_of x) (type_of y)) (no_name at) (operated_in_place s at op x y whole) (λ z. by (integer_type (type_of x)))
  where
    by : (o : Option CInt) → Gives R (elim o [
      | Some k ↦ where_so (is_place x && is_there (integer_type (type_of y))) (no_type at) (Good whole)
      | None ↦ given (pointed (type_of x)) (no_type at) (λ t.
          where_so (is_place x && is_there (integer_type (type_of y)) && is_step op true) (no_type at) (where_elements s at t (Good whole)))
    ])
    by (Some k) = gives_where R (is_place x && is_there (integer_type (type_of y))) _ _ (λ e. h)
    by None = gives_given R (pointed (type_of x)) _ _ (λ t f. gives_where R (is_place x && is_there (integer_type (type_of y)) && is_step op true) _ _ (λ e. gives_elements R s at t _ (λ k. h)))

-- ---- what is in sight

module _ (new : List StructType)
  where
    abbrev pub AreSmallEntities : List Entity → Type 0
    AreSmallEntities [] = Unit {0}
    AreSmallEntities (AnObject b ∷ es) = Small new b.ctype × AreSmallEntities es
    AreSmallEntities (AnEnumerator c ∷ es) = AreSmallEntities es

    abbrev pub AllSmall : List PlainType → Type 0
    AllSmall [] = Unit {0}
    AllSmall (t ∷ ts) = Small new t × AllSmall ts

    abbrev pub AreSmallSignatures : List Signature → Type 0
    AreSmallSignatures [] = Unit {0}
    AreSmallSignatures (f ∷ fs) = (Small new f.result × AllSmall f.params) × AreSmallSignatures fs

    abbrev pub AreSmallMembers : List StructMember → Type 0
    AreSmallMembers [] = Unit {0}
    AreSmallMembers (m ∷ ms) = Small new m.ctype × AreSmallMembers ms

    abbrev pub AreSmallTexts : List StringLiteral → Type 0
    AreSmallTexts [] = Unit {0}
    AreSmallTexts (l ∷ ls) = Small new (Array (Int I8) (Count (length l.bytes + 1))) × AreSmallTexts ls

    -- small types in sight
    pub record IsSmallSight (s : Sight) : Type 0 where
      pub entities : AreSmallEntities s.entities
      pub functions : AreSmallSignatures s.functions
      pub texts : AreSmallTexts s.texts
      pub types : AreFirm s.structs s.types
      pub members : (n : ℕ) (x : StructType) → slice_get s.structs n ≡ Some x → AreSmallMembers x.members

    abbrev SmallEntity : Entity → Type 0
    SmallEntity (AnObject b) = Small new b.ctype
    SmallEntity (AnEnumerator c) = Unit {0}

    entity_small : (x : ℕ) (es : List Entity) → AreSmallEntities es → (e : Entity) → entity_named x es ≡ Some e → SmallEntity e
    entity_small x [] h e i = absurd cc
    entity_small x (AnObject b ∷ es) h e i = by (entity_small x es h.1 e) (entity_named x es) refl i
      where
        chosen : (t : Bool) → cond t (Some (AnObject b)) None ≡ Some e → SmallEntity e
        chosen true i = let same : AnObject b ≡ e = cc in subst SmallEntity same h.0
        chosen false i = absurd cc

        by : (entity_named x es ≡ Some e → SmallEntity e) → (o : Option Entity) → entity_named x es ≡ o → or_else o (cond (has_name x (AnObject b)) (Some (AnObject b)) None) ≡ Some e → SmallEntity e
        by next (Some f) j i = next (j ∙ i)
        by next None j i = chosen (has_name x (AnObject b)) i
    entity_small x (AnEnumerator c ∷ es) h e i = by (entity_small x es h e) (entity_named x es) refl i
      where
        chosen : (t : Bool) → cond t (Some (AnEnumerator c)) None ≡ Some e → SmallEntity e
        chosen true i = let same : AnEnumerator c ≡ e = cc in subst SmallEntity same tt
        chosen false i = absurd cc

        by : (entity_named x es ≡ Some e → SmallEntity e) → (o : Option Entity) → entity_named x es ≡ o → or_else o (cond (has_name x (AnEnumerator c)) (Some (AnEnumerator c)) None) ≡ Some e → SmallEntity e
        by next (Some f) j i = next (j ∙ i)
        by next None j i = chosen (has_name x (AnEnumerator c)) i

    abbrev SmallSignature : Signature → Type 0
    SmallSignature f = Small new f.result × AllSmall f.params

    function_small : (x : ℕ) (fs : List Signature) → AreSmallSignatures fs → (f : Signature) → function_called x fs ≡ Some f → SmallSignature f
    function_small x [] h f i = absurd cc
    function_small x (g ∷ fs) h f i = by (nat_eq x g.name) (function_small x fs h.1 f) i
      where
        by : (b : Bool) → (function_called x fs ≡ Some f → SmallSignature f) → cond b (Some g) (function_called x fs) ≡ Some f → SmallSignature f
        by true next i = let same : g ≡ f = cc in subst SmallSignature same h.0
        by false next i = next i

    library_small : (x : ℕ) (w : List ℕ) (f : Signature) → library_function x w ≡ Some f → SmallSignature f
    library_small x w f i = each_of_library SmallSignature f x w (refl, (refl, tt)) (refl, tt) (refl, (refl, tt)) (refl, (refl, tt)) (refl, (refl, (refl, tt))) (refl, (refl, tt)) (refl, (refl, tt)) i

    text_small : (offset k : ℕ) (ls : List StringLiteral) → AreSmallTexts ls → (l : ℕ × List ℕ) → literal_at offset k ls ≡ Some l → Small new (Array (Int I8) (Count (length l.1 + 1)))
    text_small offset k [] h l i = absurd cc
    text_small offset k (x ∷ ls) h l i = by (nat_eq x.place.offset offset) (text_small offset (suc k) ls h.1 l) i
      where
        by : (b : Bool) → (literal_at offset (suc k) ls ≡ Some l → Small new (Array (Int I8) (Count (length l.1 + 1)))) → cond b (Some (k, x.bytes)) (literal_at offset (suc k) ls) ≡ Some l
            → Small new (Array (Int I8) (Count (length l.1 + 1)))
        by true next i = let same : (k, x.bytes) ≡ l = cc in subst (λ l. Small new (Array (Int I8) (Count (length l.1 + 1)))) same h.0
        by false next i = next i

    among_small : (m : ℕ) (ms : List StructMember) → AreSmallMembers ms → (f : StructMember) → member_among m ms ≡ Some f → Small new f.ctype
    among_small m [] h f i = absurd cc
    among_small m (x ∷ ms) h f i = by (nat_eq x.name m) (among_small m ms h.1 f) i
      where
        by : (b : Bool) → (member_among m ms ≡ Some f → Small new f.ctype) → (if b then Some x else member_among m ms) ≡ Some f → Small new f.ctype
        by true next i = let same : x ≡ f = cc in subst (λ (f : StructMember). Small new f.ctype) same h.0
        by false next i = next i

    -- ---- casts

    abbrev pub AreTypesSmall : Expression → Type 0
    AreTypesSmall e = TypesSmall new e

    pub type_small : (e : Expression) → AreTypesSmall e → Small new (type_of e)
    type_small (Node at t k) h = h.0

    pub in_type_small : (t : PlainType) (e : Expression) → Small new t → AreTypesSmall e → AreTypesSmall (in_type t e)
    in_type_small t e w h = by (same_type (type_of e) t)
      where
        by : (b : Bool) → AreTypesSmall (cond b e (Node (place_of e) t (Cast t e)))
        by true = h
        by false = (w, h)

    pub decayed_small : (e : Expression) → AreTypesSmall e → AreTypesSmall (decayed e)
    decayed_small (Node at (Array t n) k) h = (elements_small new t n h.0, h)
    decayed_small (Node at Void k) h = h
    decayed_small (Node at (Int l) k) h = h
    decayed_small (Node at (Ptr t) k) h = h
    decayed_small (Node at (Struct n) k) h = h
    decayed_small (Node at (Named x) k) h = h
    decayed_small (Node at (StructTag x tag) k) h = h
    decayed_small (Node at (EnumTag x tag) k) h = h

    pub pointed_small : (e : Expression) (t : PlainType) → AreTypesSmall e → pointed (type_of e) ≡ Some t → Small new t
    pointed_small e t h i = subst (Small new) (pointed_is (type_of e) t i) (type_small e h)

    module _ (s : Sight) (i : IsSmallSight s)
      where
        -- ---- the rules

        literal_small : (at : Place) (n : ℤ) (k : Option CInt) → Gives AreTypesSmall (literal at n k)
        literal_small at n k = gives_given AreTypesSmall k _ _ (λ l e. gives_where AreTypesSmall (fits l n) _ _ (λ f. (refl, tt)))

        string_small : (at : Place) (offset : ℕ) → Gives AreTypesSmall (text s at offset)
        string_small at offset = gives_given AreTypesSmall (literal_at offset 0 s.texts) _ _ (λ l e. (text_small offset 0 s.texts i.texts l e, tt))

        named_small : (at : Place) (x : ℕ) → Gives AreTypesSmall (typed_name s at x)
        named_small at x = by (entity_named x s.entities) refl
          where
            by_word : (a b : Bool) → Gives AreTypesSmall (cond a (Good (Node at (Ptr Void) (Variable (use_as x 4294967295)))) (cond b (faulty (no_type at)) (faulty (no_name at))))
            by_word true b = (refl, tt)
            by_word false true = tt
            by_word false false = tt

            by_constant : (o : Option (CInt × ℤ)) → Gives AreTypesSmall (elim o [
              | Some c ↦ Good (Node at (Int c.0) (Number c.1 (Some c.0)))
              | None ↦ cond (is_null_word s x) (Good (Node at (Ptr Void) (Variable (use_as x 4294967295))))
                  (cond (is_there (library_function x (name_at s.names x))) (faulty (no_type at)) (faulty (no_name at)))
            ])
            by_constant (Some c) = (refl, tt)
            by_constant None = by_word (is_null_word s x) (is_there (library_function x (name_at s.names x)))

            by_function : (o : Option Signature) → Gives AreTypesSmall (elim o [ Some f ↦ faulty (no_type at) | None ↦ library_name s at x ])
            by_function (Some f) = tt
            by_function None = by_constant (library_constant (name_at s.names x))

            by : (o : Option Entity) → entity_named x s.entities ≡ o → Gives AreTypesSmall (elim o [
              | Some e ↦ elim e [
                | AnObject b ↦ Good (Node at b.ctype (Variable (use_as x b.decl)))
                | AnEnumerator c ↦ Good (Node at int_type (Number c.value (Some I32)))
              ]
              | None ↦ elim (function_called x s.functions) [ Some f ↦ faulty (no_type at) | None ↦ library_name s at x ]
            ])
            by (Some (AnObject b)) e = (entity_small x s.entities i.entities (AnObject b) e, tt)
            by (Some (AnEnumerator c)) e = (refl, tt)
            by None e = by_function (function_called x s.functions)

        unary_small : (at : Place) (op : UnOp) (a : Expression) → AreTypesSmall a → Gives AreTypesSmall (unary_on at op a)
        unary_small at unary.Plus a h = gives_given AreTypesSmall (integer_type (type_of a)) _ _ (λ k e. (refl, in_type_small (Int (promoted k)) a refl h))
        unary_small at unary.Minus a h = gives_given AreTypesSmall (integer_type (type_of a)) _ _ (λ k e. (refl, in_type_small (Int (promoted k)) a refl h))
        unary_small at unary.Flip a h = gives_given AreTypesSmall (integer_type (type_of a)) _ _ (λ k e. (refl, in_type_small (Int (promoted k)) a refl h))
        unary_small at unary.Not a h = gives_where AreTypesSmall (is_scalar (type_of (decayed a))) _ _ (λ e. (refl, decayed_small a h))
        unary_small at unary.Deref a h = gives_given AreTypesSmall (pointed (type_of (decayed a))) _ _ (λ t e.
            gives_where AreTypesSmall (not (is_void t)) _ _ (λ n. (pointed_small (decayed a) t (decayed_small a h) e, decayed_small a h)))
        unary_small at unary.Address a h = gives_where AreTypesSmall (is_place a) _ _ (λ e. (type_small a h, h))

        module _ (at : Place) (a b : Expression) (v : AreTypesSmall a) (w : AreTypesSmall b)
          where
            integers_small : (op : BinOp) (k l : CInt) → AreTypesSmall (on_integers at op k l a b)
            integers_small op k l = by (is_shift op)
              where
                by : (f : Bool) → AreTypesSmall (Node at (Int (result_type op k l)) (
                    if f then Binary op (in_int (promoted k) a) (in_int (promoted l) b) else Binary op (in_int (common k l) a) (in_int (common k l) b)))
                by true = (refl, (in_type_small (Int (promoted k)) a refl v, in_type_small (Int (promoted l)) b refl w))
                by false = (refl, (in_type_small (Int (common k l)) a refl v, in_type_small (Int (common k l)) b refl w))

            both_small : Gives AreTypesSmall (both_of at a b)
            both_small = gives_where AreTypesSmall (is_scalar (type_of a) && is_scalar (type_of b)) _ _ (λ e. (refl, (v, w)))

            either_small : Gives AreTypesSmall (either_of at a b)
            either_small = gives_where AreTypesSmall (is_scalar (type_of a) && is_scalar (type_of b)) _ _ (λ e. (refl, (v, w)))

            pointer_choice_small : (t : PlainType) → pointer_choice s a b ≡ Some t → Small new t
            pointer_choice_small t e =
                by (is_pointer (type_of a) && is_null s b) (is_pointer (type_of b) && is_null s a) (are_compatible (type_of a) (type_of b)) (points_to_void (type_of a)) e
              where
                left : Some (type_of a) ≡ Some t → Small new t
                left e = let same : type_of a ≡ t = cc in subst (Small new) same (type_small a v)

                right : Some (type_of b) ≡ Some t → Small new t
                right e = let same : type_of b ≡ t = cc in subst (Small new) same (type_small b w)

                by : (x y z p : Bool) → (if x then Some (type_of a) else (if y then Some (type_of b) else (if z then Some (if p then type_of a else type_of b) else None))) ≡ Some t → Small new t
                by true y z p e = left e
                by false true z p e = right e
                by false false true true e = left e
                by false false true false e = right e
                by false false false p e = absurd cc

            choice_type_small : (t : PlainType) → choice_type s a b ≡ Some t → Small new t
            choice_type_small t e = by (integer_type (type_of a)) (integer_type (type_of b)) (is_void (type_of a) && is_void (type_of b)) e
              where
                by : (o r : Option CInt) (x : Bool) → (elim o [
                  | Some k ↦ elim r [ Some l ↦ Some (Int (common k l)) | None ↦ pointer_choice s a b ]
                  | None ↦ cond x (Some Void) (pointer_choice s a b)
                ]) ≡ Some t → Small new t
                by (Some k) (Some l) x e = let same : Int (common k l) ≡ t = cc in subst (Small new) same refl
                by (Some k) None x e = pointer_choice_small t e
                by None r true e = let same : Void ≡ t = cc in subst (Small new) same refl
                by None r false e = pointer_choice_small t e

            choice_small : (c : Expression) → AreTypesSmall c → Gives AreTypesSmall (choice_of s at c a b)
            choice_small c x = gives_where AreTypesSmall (is_scalar (type_of c)) _ _ (λ p. gives_given AreTypesSmall (choice_type s a b) _ _ (λ t e.
                let k = choice_type_small t e in (k, (x, in_type_small t a k v, in_type_small t b k w))))

            pointers_small : (op : BinOp) (t r : PlainType) → Gives AreTypesSmall (on_pointers s at op t r a b)
            pointers_small op t r = by (is_difference op) (is_equality op)
              where
                by : (d q : Bool) → Gives AreTypesSmall (
                    if d then where_so (same_type t r) (no_type at) (where_elements s at t (Good (Node at (Int I64) (Binary op a b))))
                    else (if q then where_so (are_compatible (Ptr t) (Ptr r)) (no_type at) (Good (Node at int_type (Binary op a b)))
                    else where_so (is_relation op && same_type t r) (no_type at) (Good (Node at int_type (Binary op a b)))))
                by true q = gives_where AreTypesSmall (same_type t r) _ _ (λ e. gives_elements AreTypesSmall s at t _ (λ k. (refl, (v, w))))
                by false true = gives_where AreTypesSmall (are_compatible (Ptr t) (Ptr r)) _ _ (λ e. (refl, (v, w)))
                by false false = gives_where AreTypesSmall (is_relation op && same_type t r) _ _ (λ e. (refl, (v, w)))

            left_small : (op : BinOp) (t : PlainType) → Small new t → Gives AreTypesSmall (on_pointer_and_integer s at op t a b)
            left_small op t k = by (is_step op true)
              where
                by : (d : Bool) → Gives AreTypesSmall (
                    if d then where_elements s at t (Good (Node at (Ptr t) (Binary op a b)))
                    else where_so (is_equality op && is_null s b) (no_type at) (Good (Node at int_type (Binary op a (in_type (Ptr t) b)))))
                by true = gives_elements AreTypesSmall s at t _ (λ z. (k, (v, w)))
                by false = gives_where AreTypesSmall (is_equality op && is_null s b) _ _ (λ e. (refl, (v, in_type_small (Ptr t) b k w)))

            right_small : (op : BinOp) (t : PlainType) → Small new t → Gives AreTypesSmall (on_integer_and_pointer s at op t a b)
            right_small op t k = by (is_step op false)
              where
                by : (d : Bool) → Gives AreTypesSmall (
                    if d then where_elements s at t (Good (Node at (Ptr t) (Binary op a b)))
                    else where_so (is_equality op && is_null s a) (no_type at) (Good (Node at int_type (Binary op (in_type (Ptr t) a) b))))
                by true = gives_elements AreTypesSmall s at t _ (λ z. (k, (v, w)))
                by false = gives_where AreTypesSmall (is_equality op && is_null s a) _ _ (λ e. (refl, (in_type_small (Ptr t) a k v, w)))

            binary_small : (op : BinOp) → Gives AreTypesSmall (binary s at op a b)
            binary_small op = gives_where AreTypesSmall (knows_elements s op (type_of a) (type_of b)) (no_name at) (operated s at op a b) (λ z. by (integer_type (type_of a)) (integer_type (type_of b)))
              where
                by : (o r : Option CInt) → Gives AreTypesSmall (elim o [
                  | Some k ↦ elim r [
                    | Some l ↦ Good (on_integers at op k l a b)
                    | None ↦ given (pointed (type_of b)) (no_type at) (λ t. on_integer_and_pointer s at op t a b)
                  ]
                  | None ↦ given (pointed (type_of a)) (no_type at) (λ t. elim r [
                    | Some l ↦ on_pointer_and_integer s at op t a b
                    | None ↦ given (pointed (type_of b)) (no_type at) (λ r. on_pointers s at op t r a b)
                  ])
                ])
                by (Some k) (Some l) = integers_small op k l
                by (Some k) None = gives_given AreTypesSmall (pointed (type_of b)) _ _ (λ t e. right_small op t (pointed_small b t w e))
                by None (Some l) = gives_given AreTypesSmall (pointed (type_of a)) _ _ (λ t e. left_small op t (pointed_small a t v e))
                by None None = gives_given AreTypesSmall (pointed (type_of a)) _ _ (λ t e. gives_given AreTypesSmall (pointed (type_of b)) _ _ (λ r f. pointers_small op t r))

            index_small : Gives AreTypesSmall (index s at a b)
            index_small = gives_where AreTypesSmall (knows_elements s operator.Add (type_of a) (type_of b)) (no_name at) (element s at a b) (λ z. by (pointed (type_of a)) refl)
              where
                by : (o : Option PlainType) → pointed (type_of a) ≡ o → Gives AreTypesSmall (elim o [
                  | Some t ↦ where_so (is_there (integer_type (type_of b))) (no_type at) (where_elements s at t (Good (Node at t (Index a b))))
                  | None ↦ given (pointed (type_of b)) (no_type at) (λ t. where_so (is_there (integer_type (type_of a))) (no_type at) (where_elements s at t (Good (Node at t (Index a b)))))
                ])
                by (Some t) e = gives_where AreTypesSmall (is_there (integer_type (type_of b))) _ _ (λ f. gives_elements AreTypesSmall s at t _ (λ k. (pointed_small a t v e, (v, w))))
                by None e = gives_given AreTypesSmall (pointed (type_of b)) _ _ (λ t f. gives_where AreTypesSmall (is_there (integer_type (type_of a))) _ _ (λ g.
                    gives_elements AreTypesSmall s at t _ (λ k. (pointed_small b t w f, (v, w)))))

            assigned_small : (op : Option BinOp) → Gives AreTypesSmall (assign s at op a b)
            assigned_small (Some op) = gives_compounded s at AreTypesSmall op a b (Node at (type_of a) (Assign (Some op) a b)) (type_small a v, (v, w))
            assigned_small None = by (is_struct (type_of a))
              where
                by : (z : Bool) → Gives AreTypesSmall (if z then assigned_struct s at a b else assigned_scalar s at a b)
                by true = gives_sized AreTypesSmall s at (type_of a) _ (λ k. gives_where AreTypesSmall (is_place a && same_type (type_of b) (type_of a)) _ _ (λ p. (type_small a v, (v, w))))
                by false = gives_where AreTypesSmall (is_place a && is_scalar (type_of a) && is_assigned s b (type_of a)) _ _ (λ p.
                    (type_small a v, (v, in_type_small (type_of a) b (type_small a v) w)))

        bump_small : (at : Place) (op : BumpOp) (a : Expression) → AreTypesSmall a → Gives AreTypesSmall (bump s at op a)
        bump_small at op a h = gives_compounded s at AreTypesSmall operator.Add a (Node at int_type (Number (pos 1) (Some I32))) (Node at (type_of a) (Bump op a)) (type_small a h, h)

        members_small : (t : PlainType) → AreSmallMembers (members_of s.structs t)
        members_small (Struct n) = by (slice_get s.structs n) refl
          where
            by : (o : Option StructType) → slice_get s.structs n ≡ o → AreSmallMembers (members_of_struct o)
            by None e = tt
            by (Some x) e = i.members n x e
        members_small Void = tt
        members_small (Int k) = tt
        members_small (Ptr t) = tt
        members_small (Array t n) = tt
        members_small (Named x) = tt
        members_small (StructTag x tag) = tt
        members_small (EnumTag x at) = tt

        member_small : (at : Place) (t : PlainType) (m : ℕ) → Gives (Small new) (member s at t m)
        member_small at t m = gives_where (Small new) (is_struct t) _ _ (λ e. gives_sized (Small new) s at t _ (λ k.
            gives_given (Small new) (member_among m (members_of s.structs t)) _ _ (λ f j. among_small m (members_of s.structs t) (members_small t) f j)))

        dot_small : (at : Place) (m : ℕ) (a : Expression) → AreTypesSmall a → Gives AreTypesSmall (dot s at m a)
        dot_small at m a h = gives_one (Small new) AreTypesSmall (member s at (type_of a) m) _ (member_small at (type_of a) m) (λ t k. (k, h))

        arrow_small : (at : Place) (m : ℕ) (a : Expression) → AreTypesSmall a → Gives AreTypesSmall (arrow s at m a)
        arrow_small at m a h = gives_given AreTypesSmall (pointed (type_of a)) _ _ (λ t p. gives_one (Small new) AreTypesSmall (member s at t m) _ (member_small at t m) (λ u k. (k, h)))

        -- ---- calls

        callee_small : (at : Place) (x : ℕ) → Gives SmallSignature (callee s at x)
        callee_small at x = by (entity_named x s.entities)
          where
            unknown : (b : Bool) → Gives SmallSignature (cond b (faulty (no_type at)) (faulty (no_name at)))
            unknown true = tt
            unknown false = tt

            found : (f : Signature) → or_else (function_called x s.functions) (library_function x (name_at s.names x)) ≡ Some f → SmallSignature f
            found f e = by (function_called x s.functions) refl e
              where
                by : (o : Option Signature) → function_called x s.functions ≡ o → or_else o (library_function x (name_at s.names x)) ≡ Some f → SmallSignature f
                by (Some g) j e = function_small x s.functions i.functions f (j ∙ e)
                by None j e = library_small x (name_at s.names x) f e

            by_function : (o : Option Signature) → or_else (function_called x s.functions) (library_function x (name_at s.names x)) ≡ o → Gives SmallSignature (elim o [
              | None ↦ no_function s at x
              | Some f ↦ where_so f.defined (no_name at) (where_so (not (bytes_eq (name_at s.names x) (codes "main"))) (no_type at) (Good f))
            ])
            by_function None e = unknown (is_there (library_constant (name_at s.names x)) || is_null_word s x)
            by_function (Some f) e = gives_where SmallSignature f.defined _ _ (λ d. gives_where SmallSignature (not (bytes_eq (name_at s.names x) (codes "main"))) _ _ (λ t. found f e))

            by : (o : Option Entity) → Gives SmallSignature (elim o [
              | Some b ↦ faulty (no_type at)
              | None ↦ elim (or_else (function_called x s.functions) (library_function x (name_at s.names x))) [
                | None ↦ no_function s at x
                | Some f ↦ where_so f.defined (no_name at) (where_so (not (bytes_eq (name_at s.names x) (codes "main"))) (no_type at) (Good f))
              ]
            ])
            by (Some b) = tt
            by None = by_function (or_else (function_called x s.functions) (library_function x (name_at s.names x))) refl

        directives_small : (ps : List Piece) → AllSmall (types_of ps)
        directives_small [] = tt
        directives_small (Bytes bs ∷ ps) = directives_small ps
        directives_small (NumberPiece k ∷ ps) = (refl, directives_small ps)
        directives_small (Character ∷ ps) = (refl, directives_small ps)
        directives_small (String ∷ ps) = (refl, directives_small ps)

        format_small : (o : Option (List Piece)) → AllSmall (format_params o)
        format_small None = (refl, tt)
        format_small (Some ps) = (refl, directives_small ps)

        callee_for_small : (at : Place) (x : ℕ) (es : Expressions) → Gives SmallSignature (callee_for s at x es)
        callee_for_small at x es =
            gives_one SmallSignature SmallSignature (callee s at x) (λ f. Good (with_directives s es f)) (callee_small at x) (λ f k. (k.0, by (is_printf s f.name) f.params k.1))
          where
            by : (b : Bool) (ts : List PlainType) → AllSmall ts → AllSmall (cond b (format_params (format_of s es)) ts)
            by true ts k = format_small (format_of s es)
            by false ts k = k

        argument_small : (printed : Bool) (ts : List PlainType) → AllSmall ts → (e : Expression) → AreTypesSmall e → Gives AreTypesSmall (argument_for s printed (first_type ts) e)
        argument_small printed [] k e h = h
        argument_small printed (t ∷ ts) k e h = gives_where AreTypesSmall (is_passed s printed e t) _ _ (λ c. in_type_small t e k.0 h)

        rest_small : (ts : List PlainType) → AllSmall ts → AllSmall (rest_types ts)
        rest_small [] k = tt
        rest_small (t ∷ ts) k = k.1

        parameters_of_small : (c : Checked Signature) → Gives SmallSignature c → AllSmall (params_of c)
        parameters_of_small (Good f) k = k.1
        parameters_of_small (Bad f fs) k = tt

        call_small : (at : Place) (f : Signature) (es : Expressions) → SmallSignature f → AllTypesSmall new es → Gives AreTypesSmall (call at f es)
        call_small at f es k h = gives_where AreTypesSmall (nat_eq (argument_count es) (length f.params)) _ _ (λ t. (k.0, h))

        -- ---- expressions

        value_of : (c : Checked Expression) → Gives AreTypesSmall c → Gives AreTypesSmall (decayed_of c)
        value_of c g = gives_one AreTypesSmall AreTypesSmall c (λ e. Good (decayed e)) g (λ e h. decayed_small e h)

        module _ (all : AreSmallStructs new) (g : Grows s.structs new)
          where
            mutual
              pub typed_small : (e : Expression) → Gives AreTypesSmall (typed s e)
              typed_small (Node at t (Number n k)) = literal_small at n k
              typed_small (Node at t (Letter n)) = (refl, tt)
              typed_small (Node at t (Text offset)) = string_small at offset
              typed_small (Node at t (Variable x)) = named_small at x.name
              typed_small (Node at t (Unary op a)) = gives_one AreTypesSmall AreTypesSmall (typed s a) (unary_on at op) (typed_small a) (λ x v. unary_small at op x v)
              typed_small (Node at t (Binary op a b)) = gives_both AreTypesSmall AreTypesSmall AreTypesSmall (decayed_of (typed s a)) (decayed_of (typed s b)) (binary s at op)
                  (value_of (typed s a) (typed_small a)) (value_of (typed s b) (typed_small b)) (λ x y v w. binary_small at x y v w op)
              typed_small (Node at t (Both a b)) = gives_both AreTypesSmall AreTypesSmall AreTypesSmall (decayed_of (typed s a)) (decayed_of (typed s b)) (both_of at)
                  (value_of (typed s a) (typed_small a)) (value_of (typed s b) (typed_small b)) (λ x y v w. both_small at x y v w)
              typed_small (Node at t (Either a b)) = gives_both AreTypesSmall AreTypesSmall AreTypesSmall (decayed_of (typed s a)) (decayed_of (typed s b)) (either_of at)
                  (value_of (typed s a) (typed_small a)) (value_of (typed s b) (typed_small b)) (λ x y v w. either_small at x y v w)
              typed_small (Node at t (Choice a b c)) =
                  gives_both AreTypesSmall (λ p. AreTypesSmall p.0 × AreTypesSmall p.1) AreTypesSmall (decayed_of (typed s a)) (both_parts (decayed_of (typed s b)) (decayed_of (typed s c)) two)
                  (λ x p. choice_of s at x p.0 p.1) (value_of (typed s a) (typed_small a))
                  (gives_both AreTypesSmall AreTypesSmall (λ p. AreTypesSmall p.0 × AreTypesSmall p.1) (decayed_of (typed s b)) (decayed_of (typed s c)) two
                  (value_of (typed s b) (typed_small b)) (value_of (typed s c) (typed_small c)) (λ y z v w. (v, w)))
                  (λ x p u w. choice_small at p.0 p.1 w.0 w.1 x u)
              typed_small (Node at t (Assign op a b)) = gives_both AreTypesSmall AreTypesSmall AreTypesSmall (typed s a) (decayed_of (typed s b)) (assign s at op)
                  (typed_small a) (value_of (typed s b) (typed_small b)) (λ x y v w. assigned_small at x y v w op)
              typed_small (Node at t (Bump op a)) = gives_one AreTypesSmall AreTypesSmall (typed s a) (bump s at op) (typed_small a) (λ x v. bump_small at op x v)
              typed_small (Node at t (Call f es)) =
                  let c = callee_for s at f.name es in
                  gives_both SmallSignature (AllTypesSmall new) AreTypesSmall c (typed_arguments s (is_printf s f.name) (params_of c) es) (call at)
                  (callee_for_small at f.name es) (arguments_small (is_printf s f.name) (params_of c) (parameters_of_small c (callee_for_small at f.name es)) es)
                  (λ h fs k l. call_small at h fs k l)
              typed_small (Node at t (Cast to a)) = limited_small_both new all s g AreTypesSmall AreTypesSmall at (known_type s to) (typed_type s at to) (decayed_of (typed s a)) (cast s at)
                  (type_is_known s at to) (typed_firm s i.types at to)
                  (value_of (typed s a) (typed_small a)) (λ u x k v. gives_where AreTypesSmall (is_cast s x u) _ _ (λ c. (k, v)))
              typed_small (Node at t (SizeOfType u)) = gives_limited AreTypesSmall s at (known_type s u) (one_part (typed_type s at u) (size_of_type s at))
                  (gives_one (λ u. Unit {0}) AreTypesSmall (typed_type s at u) (size_of_type s at) (anything (typed_type s at u)) (λ w h. gives_sized AreTypesSmall s at w _ (λ k. (refl, tt))))
              typed_small (Node at t (SizeOfExpr a)) = gives_one AreTypesSmall AreTypesSmall (typed s a) (λ e. limited s at (type_of e) (size_of_expression s at e)) (typed_small a)
                  (λ x v. gives_limited AreTypesSmall s at (type_of x) (size_of_expression s at x) (gives_sized AreTypesSmall s at (type_of x) _ (λ k. (refl, v))))
              typed_small (Node at t (Index a b)) = gives_both AreTypesSmall AreTypesSmall AreTypesSmall (decayed_of (typed s a)) (decayed_of (typed s b)) (index s at)
                  (value_of (typed s a) (typed_small a)) (value_of (typed s b) (typed_small b)) (λ x y v w. index_small at x y v w)
              typed_small (Node at t (Dot a m)) = gives_one AreTypesSmall AreTypesSmall (typed s a) (dot s at m) (typed_small a) (λ x v. dot_small at m x v)
              typed_small (Node at t (Arrow a m)) = gives_one AreTypesSmall AreTypesSmall (decayed_of (typed s a)) (arrow s at m) (value_of (typed s a) (typed_small a)) (λ x v. arrow_small at m x v)
              typed_small (Node at t (Comma a b)) = gives_both AreTypesSmall AreTypesSmall AreTypesSmall (typed s a) (decayed_of (typed s b)) (λ a b. Good (Node at (type_of b) (Comma a b)))
                  (typed_small a) (value_of (typed s b) (typed_small b)) (λ x y v w. (type_small y w, (v, w)))

              arguments_small : (printed : Bool) (ts : List PlainType) → AllSmall ts → (es : Expressions) → Gives (AllTypesSmall new) (typed_arguments s printed ts es)
              arguments_small printed ts k NoExpression = tt
              arguments_small printed ts k (Following e es) =
                  gives_both AreTypesSmall (AllTypesSmall new) (AllTypesSmall new) (one_part (decayed_of (typed s e)) (argument_for s printed (first_type ts))) (typed_arguments s printed (rest_types ts) es)
                  (λ e es. Good (Following e es))
                  (gives_one AreTypesSmall AreTypesSmall (decayed_of (typed s e)) (argument_for s printed (first_type ts)) (value_of (typed s e) (typed_small e)) (λ x v. argument_small printed ts k x v))
                  (arguments_small printed (rest_types ts) (rest_small ts k) es)
                  (λ x xs v w. (v, w))

            pub value_small : (e : Expression) → Gives AreTypesSmall (decayed_of (typed s e))
            value_small e = value_of (typed s e) (typed_small e)
