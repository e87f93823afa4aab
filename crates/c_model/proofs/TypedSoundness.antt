-- What typing makes of an expression is well typed.
use Rattle.std.proofs.Common.{◌≡◌, ℕ, ℤ, suc, ◌+◌, refl, sym, ap, ◌∙◌, subst, List, [], ◌∷◌, length, Option, Some, None, Bool, true, false, cond, not, ◌&&◌, ◌||◌, if◌then◌else◌, nat_eq, nat_le, arith, slice_get, codes, bytes_eq, option_map}
use Rattle.std.proofs.lemmas.Bool.Decides.{nat_tests}
use Rattle.c_syntax.specs.declared.place.Place.{Place}
use Rattle.c_syntax.specs.declared.types.CInt.{CInt}
use Rattle.c_syntax.specs.declared.types.CInt.TheVariants.{I8, U8, I16, U16, I32, U32, I64, U64}
use Rattle.c_syntax.specs.Ctypes.{PlainType, Void, Int, Ptr, Array, Struct, Count, int_type}
use Rattle.c_syntax.specs.Expressions.{Expression, Node, Number, Letter, Text, Variable, Unary, Binary, Both, Either, Choice, Assign, Bump, Call, Cast, SizeOfType, SizeOfExpr, Index, Dot, Arrow, Comma, Expressions, NoExpression, Following, type_of}
use Rattle.c_syntax.specs.Programs.{StructType, StringLiteral}
use Rattle.c_syntax.specs.Layouts.{Scalar, scalar_of, size_of}
use Rattle.c_model.specs.Integers.{fits, integer_type}
use Rattle.c_model.specs.Conversions.{common}
use Rattle.c_model.specs.Meaning.{is_pointer}
use Rattle.c_model.specs.Formats.{Piece, pieces_of, types_of}
use Rattle.c_model.specs.Library.{Constants, constants, constant_in, library_constant, is_there}
use Rattle.c_model.specs.Checked.{Fault, Checked, Good, Bad, faulty, given, one_part, both_parts, where_so}
use Rattle.c_model.specs.ExpressionTyping.{no_name, no_type, too_large, Sight, Entity, AnObject, AnEnumerator, Signature, name_at, or_else, entity_named, function_called}
use Rattle.c_model.specs.ExpressionTyping.{of_library, library_function, use_as, literal_at, HasSize, sized, is_void, is_scalar, has_small_parts, levels_of, most_levels, most_bytes, is_within_limits}
use Rattle.c_model.specs.ExpressionTyping.{besides, limited, decayed, is_null, points_to_void, are_compatible, text, is_null_word, library_name, typed_name, pointer_choice}
use Rattle.c_model.specs.ExpressionTyping.{callee_for, with_directives, is_printf, is_printed, is_passed, format_of, format_params}
use Rattle.c_model.specs.ExpressionTyping.{choice_type, choice_of, no_function, callee, first_type, rest_types, argument_for, argument_count, call, params_of, two, decayed_of, typed}
use Rattle.c_model.specs.ExpressionTyping.{typed_arguments, typed_type, known_type, unary_on, binary, both_of, either_of, assign, bump, cast, index, dot, arrow, size_of_type, size_of_expression}
use Rattle.c_model.specs.TypedTrees.{IsPointer, IsResult, GivesNothing, GivesScalar, HasKnownSize, OfObject, OfNull, CastTypes, ToVoid, OfPointer, HaveTypes, literal_in, format_types, literal_types, WellTyped, AreWellTyped, IsSight}
use Rattle.c_model.proofs.TypedParts.{Gives, gives_of, gives_one, gives_both, gives_given, gives_where, gives_self, gives_sized, and_true, scalar_is, pointer_is}
use Rattle.c_model.proofs.TypedOperators.{is_aggregate, Sound, IsSoundValue, decayed_sound, in_type_well, in_type_type, int_cast, literal_sound, unary_sound}
use Rattle.c_model.proofs.TypedExpressions.{null_casts, compatible_pointers, assigned_casts, binary_sound, both_sound, either_sound, index_sound, comma_sound, assign_sound, bump_sound}
use Rattle.c_model.proofs.TypedExpressions.{cast_sound, dot_sound, arrow_sound}
use Rattle.c_model.proofs.KnownTypes.{type_is_known}
use Rattle.c_model.proofs.LibraryFunctions.{each_of_library}

-- ---- limits

besides_false : {B : Type 0} (R : B → Type 0) (f : Fault) (c : Checked B) → Gives R (besides false f c)
besides_false R f (Good b) = tt
besides_false R f (Bad g gs) = tt

pub gives_besides : {B : Type 0} (R : B → Type 0) (b : Bool) (f : Fault) (c : Checked B) → (b ≡ true → Gives R c) → Gives R (besides b f c)
gives_besides R true f c h = h refl
gives_besides R false f c h = besides_false R f c

pub gives_limited : {B : Type 0} (R : B → Type 0) (s : Sight) (at : Place) (t : PlainType) (d : Checked B) → Gives R d → Gives R (limited s at t d)
gives_limited R s at t d g = gives_besides R (is_within_limits s t) (too_large at) d (λ e. g)

-- what is made of a type that is known
gives_limited_type : {B : Type 0} (R : B → Type 0) (s : Sight) (at : Place) (t : PlainType) (c : Checked PlainType) (k : PlainType → Checked B) → Gives (λ u. t ≡ u) c
    → ((u : PlainType) → is_within_limits s u ≡ true → Gives R (k u)) → Gives R (limited s at t (one_part c k))
gives_limited_type R s at t c k g h =
    gives_besides R (is_within_limits s t) (too_large at) (one_part c k) (λ w. gives_one (λ u. t ≡ u) R c k g (λ u e. h u (subst (λ v. is_within_limits s v ≡ true) e w)))

-- the size of a type is one of a part
size_is_small : (structs : List StructType) (t : PlainType) → sized structs t ≡ HasSize → has_small_parts structs t ≡ true → nat_le (size_of structs t) most_bytes ≡ true
size_is_small structs (Int k) e h = by k
  where
    by : (k : CInt) → nat_le (size_of structs (Int k)) most_bytes ≡ true
    by I8 = refl
    by U8 = refl
    by I16 = refl
    by U16 = refl
    by I32 = refl
    by U32 = refl
    by I64 = refl
    by U64 = refl
size_is_small structs (Ptr t) e h = refl
size_is_small structs (Array t n) e h = (and_true (nat_le (size_of structs (Array t n)) most_bytes) (has_small_parts structs t) h).0
size_is_small structs (Struct n) e h = h
size_is_small structs _ e h = absurd cc

pub known_size : (s : Sight) (t : PlainType) → sized s.structs t ≡ HasSize → is_within_limits s t ≡ true → HasKnownSize s t
known_size s t k w = record { known = k; small = size_is_small s.structs t k (and_true (nat_le (levels_of s.levels t) most_levels) (has_small_parts s.structs t) w).1 }

-- ---- constants of the library

all_fit : Constants → Bool
all_fit [] = true
all_fit (x ∷ xs) = fits x.1.0 x.1.1 && all_fit xs

constant_fits : (xs : Constants) (w : List ℕ) (c : CInt × ℤ) → all_fit xs ≡ true → constant_in xs w ≡ Some c → fits c.0 c.1 ≡ true
unfolding all_fit
constant_fits [] w c f e = absurd cc
constant_fits (x ∷ xs) w c f e = by (constant_fits xs w c both.1) (bytes_eq x.0 w) e
  where
    both : (fits x.1.0 x.1.1 ≡ true) × (all_fit xs ≡ true)
    both = and_true (fits x.1.0 x.1.1) (all_fit xs) f

    by : (constant_in xs w ≡ Some c → fits c.0 c.1 ≡ true) → (b : Bool) → (if b then Some x.1 else constant_in xs w) ≡ Some c → fits c.0 c.1 ≡ true
    by k true e = let same : x.1 ≡ c = cc in subst (λ y. fits y.0 y.1 ≡ true) same both.0
    by k false e = k e

all_constants_fit : all_fit constants ≡ true
unfolding all_fit
all_constants_fit = refl

library_fits : (w : List ℕ) (c : CInt × ℤ) → library_constant w ≡ Some c → fits c.0 c.1 ≡ true
unfolding library_constant
library_fits w c e = constant_fits constants w c all_constants_fit e

-- ---- string literals

record IsLiteral (k : ℕ) (ls : List StringLiteral) (l : ℕ × List ℕ) : Type 0 where
  index : ℕ
  literal : StringLiteral
  is : l.0 ≡ index + k
  found : slice_get ls index ≡ Some literal
  bytes : literal.bytes ≡ l.1

literal_is : (offset k : ℕ) (ls : List StringLiteral) (l : ℕ × List ℕ) → literal_at offset k ls ≡ Some l → IsLiteral k ls l
literal_is offset k [] l e = absurd cc
literal_is offset k (x ∷ xs) l e = by (literal_is offset (suc k) xs l) (nat_eq x.place.offset offset) e
  where
    by : (literal_at offset (suc k) xs ≡ Some l → IsLiteral (suc k) xs l) → (b : Bool) → cond b (Some (k, x.bytes)) (literal_at offset (suc k) xs) ≡ Some l → IsLiteral k (x ∷ xs) l
    by h true e = let same : (k, x.bytes) ≡ l = cc in let z : l.0 ≡ k = ap (λ p. p.0) (sym same) in record { index = 0; literal = x; is = omega (arith, z); found = refl; bytes = ap (λ p. p.1) same }
    by h false e = let i = h e in record { index = suc i.index; literal = i.literal; is = omega (arith, i.is); found = i.found; bytes = i.bytes }

text_sound : (s : Sight) (at : Place) (offset : ℕ) → Gives (Sound s) (text s at offset)
text_sound s at offset = gives_given (Sound s) (literal_at offset 0 s.texts) _ _ (λ l e.
    let i = literal_is offset 0 s.texts l e in
    let same : l.0 ≡ i.index = omega (arith, i.is) in
    record {
      well = record {
        text = i.literal;
        found = ap (slice_get s.texts) same ∙ i.found;
        ctype = ap (λ b. Array (Int I8) (Count (length b + 1))) (sym i.bytes);
      };
      object = λ c. refl;
    })

-- ---- names of functions

pub called_name : (x : ℕ) (fs : List Signature) (f : Signature) → function_called x fs ≡ Some f → x ≡ f.name
called_name x [] f e = absurd cc
called_name x (g ∷ gs) f e = by (called_name x gs f) (nat_eq x g.name) refl e
  where
    by : (function_called x gs ≡ Some f → x ≡ f.name) → (b : Bool) → nat_eq x g.name ≡ b → cond b (Some g) (function_called x gs) ≡ Some f → x ≡ f.name
    by k true is e = let same : g ≡ f = cc in let here : x ≡ g.name = grind (arith, nat_tests, is) in here ∙ ap (λ g. g.name) same
    by k false is e = k e

-- a function's name, and a result that has a value of its own or none
pub record IsNamed (x : ℕ) (f : Signature) : Type 0 where
  pub name : x ≡ f.name
  flat : is_aggregate f.result ≡ false

pub named_of_library : (x : ℕ) (w : List ℕ) (f : Signature) → library_function x w ≡ Some f → IsNamed x f
named_of_library x w f e =
    let flat_named : (params : List PlainType) (result : PlainType) → is_aggregate result ≡ false → IsNamed x (of_library x params result) = λ params result flat. record { name = refl; flat = flat } in
    each_of_library (IsNamed x) f x w (flat_named _ _ refl) (flat_named _ _ refl) (flat_named _ _ refl) (flat_named _ _ refl) (flat_named _ _ refl) (flat_named _ _ refl) (flat_named _ _ refl) e

scalar_result : (t : PlainType) (k : Scalar) → scalar_of t ≡ Some k → is_aggregate t ≡ false
scalar_result (Int l) k e = refl
scalar_result (Ptr t) k e = refl
scalar_result _ k e = absurd cc

result_flat : (t : PlainType) → IsResult t → is_aggregate t ≡ false
result_flat t (GivesNothing e) = ap is_aggregate e
result_flat t (GivesScalar i) = scalar_result t i.scalar i.is

module _ (s : Sight) (known : IsSight s)
  where
    -- ---- names

    named_sound : (at : Place) (x : ℕ) → Gives (Sound s) (typed_name s at x)
    named_sound at x = by (entity_named x s.entities) refl
      where
        by_word : (a b : Bool) → Gives (Sound s) (cond a (Good (Node at (Ptr Void) (Variable (use_as x 4294967295)))) (cond b (faulty (no_type at)) (faulty (no_name at))))
        by_word true b = record { well = OfNull refl refl; object = λ c. absurd cc }
        by_word false true = tt
        by_word false false = tt

        by_constant : (o : Option (CInt × ℤ)) → library_constant (name_at s.names x) ≡ o → Gives (Sound s) (elim o [
          | Some c ↦ Good (Node at (Int c.0) (Number c.1 (Some c.0)))
          | None ↦ cond (is_null_word s x) (Good (Node at (Ptr Void) (Variable (use_as x 4294967295))))
              (cond (is_there (library_function x (name_at s.names x))) (faulty (no_type at)) (faulty (no_name at)))
        ])
        by_constant (Some c) e = record { well = (refl, library_fits (name_at s.names x) c e); object = λ c. absurd cc }
        by_constant None e = by_word (is_null_word s x) (is_there (library_function x (name_at s.names x)))

        by_function : (o : Option Signature) → Gives (Sound s) (elim o [ Some f ↦ faulty (no_type at) | None ↦ library_name s at x ])
        by_function (Some f) = tt
        by_function None = by_constant (library_constant (name_at s.names x)) refl

        by : (o : Option Entity) → entity_named x s.entities ≡ o → Gives (Sound s) (elim o [
          | Some e ↦ elim e [
            | AnObject b ↦ Good (Node at b.ctype (Variable (use_as x b.decl)))
            | AnEnumerator c ↦ Good (Node at int_type (Number c.value (Some I32)))
          ]
          | None ↦ elim (function_called x s.functions) [ Some f ↦ faulty (no_type at) | None ↦ library_name s at x ]
        ])
        by (Some (AnObject b)) e = record { well = OfObject (record { object = b; found = e; decl = refl; ctype = refl }); object = λ c. ap not (known.objects x b e) }
        by (Some (AnEnumerator c)) e = record { well = (refl, known.enumerators x c e); object = λ c. absurd cc }
        by None e = by_function (function_called x s.functions)

    -- ---- choices

    record IsChoice (b c : Expression) (t : PlainType) : Type 0 where
      left : CastTypes s t b
      right : CastTypes s t c
      flat : is_aggregate t ≡ false

    pointer_flat : (t : PlainType) → is_pointer t ≡ true → is_aggregate t ≡ false
    pointer_flat (Ptr t) e = refl
    pointer_flat _ e = absurd cc

    module _ (b c : Expression) (v : WellTyped s b) (w : WellTyped s c)
      where
        choice_as : (t u : PlainType) → t ≡ u → IsChoice b c t → IsChoice b c u
        choice_as t u e i = subst (IsChoice b c) e i

        pointer_choice_is : (t : PlainType) → pointer_choice s b c ≡ Some t → IsChoice b c t
        pointer_choice_is t e = by (is_pointer (type_of b) && is_null s c) refl (is_pointer (type_of c) && is_null s b) refl (are_compatible (type_of b) (type_of c)) refl (points_to_void (type_of b)) e
          where
            self : (e : Expression) → is_pointer (type_of e) ≡ true → CastTypes s (type_of e) e
            self e p = OfPointer (pointer_is _ p) (pointer_is _ p)

            pointers : IsPointer (type_of b) × IsPointer (type_of c) → (t : PlainType) → IsPointer t → is_aggregate t ≡ false → IsChoice b c t
            pointers p t q f = record { left = OfPointer q p.0; right = OfPointer q p.1; flat = f }

            by : (x : Bool) → (is_pointer (type_of b) && is_null s c) ≡ x → (y : Bool) → (is_pointer (type_of c) && is_null s b) ≡ y → (z : Bool) → are_compatible (type_of b) (type_of c) ≡ z → (o : Bool)
                → (if x then Some (type_of b) else (if y then Some (type_of c) else (if z then Some (if o then type_of b else type_of c) else None))) ≡ Some t → IsChoice b c t
            by true x y f z g o e =
                let p = and_true (is_pointer (type_of b)) (is_null s c) x in
                let same : type_of b ≡ t = cc in
                choice_as (type_of b) t same (record { left = self b p.0; right = null_casts s known (type_of b) c w p.1 p.0; flat = pointer_flat _ p.0 })
            by false x true f z g o e =
                let p = and_true (is_pointer (type_of c)) (is_null s b) f in
                let same : type_of c ≡ t = cc in
                choice_as (type_of c) t same (record { left = null_casts s known (type_of c) b v p.1 p.0; right = self c p.0; flat = pointer_flat _ p.0 })
            by false x false f true g true e =
                let p = compatible_pointers s known (type_of b) (type_of c) g in
                let same : type_of b ≡ t = cc in choice_as (type_of b) t same (pointers p (type_of b) p.0 (ap is_aggregate p.0.is))
            by false x false f true g false e =
                let p = compatible_pointers s known (type_of b) (type_of c) g in
                let same : type_of c ≡ t = cc in choice_as (type_of c) t same (pointers p (type_of c) p.1 (ap is_aggregate p.1.is))
            by false x false f false g o e = absurd cc

        choice_is : (t : PlainType) → choice_type s b c ≡ Some t → IsChoice b c t
        choice_is t e = by (integer_type (type_of b)) refl (integer_type (type_of c)) refl (is_void (type_of b) && is_void (type_of c)) refl e
          where
            by : (o : Option CInt) → integer_type (type_of b) ≡ o → (r : Option CInt) → integer_type (type_of c) ≡ r → (z : Bool) → (is_void (type_of b) && is_void (type_of c)) ≡ z → (elim o [
              | Some k ↦ elim r [ Some l ↦ Some (Int (common k l)) | None ↦ pointer_choice s b c ]
              | None ↦ cond z (Some Void) (pointer_choice s b c)
            ]) ≡ Some t → IsChoice b c t
            by (Some k) i (Some l) j z f e = let same : Int (common k l) ≡ t = cc in choice_as (Int (common k l)) t same (record { left = int_cast s (common k l) k b i; right = int_cast s (common k l) l c j; flat = refl })
            by (Some k) i None j z f e = pointer_choice_is t e
            by None i r j true f e = let same : Void ≡ t = cc in choice_as Void t same (record { left = ToVoid refl; right = ToVoid refl; flat = refl })
            by None i r j false f e = pointer_choice_is t e

    clash : (b : Bool) → b ≡ true → b ≡ false → ⊥
    clash true e f = absurd cc
    clash false e f = absurd cc

    choice_sound : (at : Place) (a b c : Expression) → Sound s a → Sound s b → Sound s c → Gives (Sound s) (choice_of s at a b c)
    choice_sound at a b c u v w = gives_where (Sound s) (is_scalar (type_of a)) _ _ (λ p. gives_given (Sound s) (choice_type s b c) _ _ (λ t e.
        let i = choice_is b c v.well w.well t e in record {
          well = (u.well, in_type_well s t b v.well i.left, in_type_well s t c w.well i.right, scalar_is _ p, in_type_type t b, in_type_type t c);
          object = λ o. absurd (clash (is_aggregate t) o i.flat);
        }))

    -- ---- sizes

    size_of_type_sound : (at : Place) (u : PlainType) → is_within_limits s u ≡ true → Gives (Sound s) (size_of_type s at u)
    size_of_type_sound at u l = gives_sized (Sound s) s at u _ (λ k. record { well = (known_size s u k l, refl); object = λ c. absurd cc })

    size_of_expression_sound : (at : Place) (a : Expression) → Sound s a → is_within_limits s (type_of a) ≡ true → Gives (Sound s) (size_of_expression s at a)
    size_of_expression_sound at a v l = gives_sized (Sound s) s at (type_of a) _ (λ k. record { well = (v.well, known_size s (type_of a) k l, refl); object = λ c. absurd cc })

    -- ---- calls

    record IsCallee (x : ℕ) (f : Signature) : Type 0 where
      named : x ≡ f.name
      found : or_else (function_called f.name s.functions) (library_function f.name (name_at s.names f.name)) ≡ Some f
      defined : f.defined ≡ true
      not_main : bytes_eq (name_at s.names f.name) (codes "main") ≡ false
      flat : is_aggregate f.result ≡ false

    found_named : (x : ℕ) (f : Signature) → or_else (function_called x s.functions) (library_function x (name_at s.names x)) ≡ Some f → IsNamed x f
    found_named x f e = by (function_called x s.functions) refl e
      where
        by : (o : Option Signature) → function_called x s.functions ≡ o → or_else o (library_function x (name_at s.names x)) ≡ Some f → IsNamed x f
        by (Some g) is e =
            let same : g ≡ f = cc in subst (IsNamed x) same (record { name = called_name x s.functions g is; flat = result_flat g.result (known.results x g is) })
        by None is e = named_of_library x (name_at s.names x) f e

    not_true : (b : Bool) → not b ≡ true → b ≡ false
    not_true true e = absurd cc
    not_true false e = refl

    callee_is : (at : Place) (x : ℕ) → Gives (IsCallee x) (callee s at x)
    callee_is at x = by (entity_named x s.entities)
      where
        unknown : (b : Bool) → Gives (IsCallee x) (cond b (faulty (no_type at)) (faulty (no_name at)))
        unknown true = tt
        unknown false = tt

        by_function : (o : Option Signature) → or_else (function_called x s.functions) (library_function x (name_at s.names x)) ≡ o → Gives (IsCallee x) (elim o [
          | None ↦ no_function s at x
          | Some f ↦ where_so f.defined (no_name at) (where_so (not (bytes_eq (name_at s.names x) (codes "main"))) (no_type at) (Good f))
        ])
        by_function None e = unknown (is_there (library_constant (name_at s.names x)) || is_null_word s x)
        by_function (Some f) e = gives_where (IsCallee x) f.defined _ _ (λ d. gives_where (IsCallee x) (not (bytes_eq (name_at s.names x) (codes "main"))) _ _ (λ t.
            let n = found_named x f e in record {
              named = n.name;
              found = subst (λ y. or_else (function_called y s.functions) (library_function y (name_at s.names y)) ≡ Some f) n.name e;
              defined = d;
              not_main = subst (λ y. bytes_eq (name_at s.names y) (codes "main") ≡ false) n.name (not_true (bytes_eq (name_at s.names x) (codes "main")) t);
              flat = n.flat;
            }))

        by : (o : Option Entity) → Gives (IsCallee x) (elim o [
          | Some b ↦ faulty (no_type at)
          | None ↦ elim (or_else (function_called x s.functions) (library_function x (name_at s.names x))) [
            | None ↦ no_function s at x
            | Some f ↦ where_so f.defined (no_name at) (where_so (not (bytes_eq (name_at s.names x) (codes "main"))) (no_type at) (Good f))
          ]
        ])
        by (Some b) = tt
        by None = by_function (or_else (function_called x s.functions) (library_function x (name_at s.names x))) refl

    -- arguments, which have the types of as many parameters
    record IsArgued (ts : List PlainType) (es : Expressions) : Type 0 where
      well : AreWellTyped s es
      types : argument_count es ≡ length ts → HaveTypes ts es

    none_argued : (ts : List PlainType) → IsArgued ts NoExpression
    none_argued [] = record { well = tt; types = λ e. tt }
    none_argued (t ∷ ts) = record { well = tt; types = λ e. absurd (omega (arith, e)) }

    printed_casts : (u t : PlainType) (e : Expression) → type_of e ≡ u → is_printed u t ≡ true → CastTypes s t e
    printed_casts (Int k) (Int l) e is c = int_cast s l k e (ap integer_type is)
    printed_casts (Ptr u) (Ptr t) e is c = OfPointer (pointer_is (Ptr t) refl) (pointer_is (type_of e) (ap is_pointer is))
    printed_casts _ _ e is c = absurd cc

    passed_casts : (printed : Bool) (t : PlainType) (e : Expression) → WellTyped s e → is_passed s printed e t ≡ true → CastTypes s t e
    passed_casts true t e w c = printed_casts (type_of e) t e refl c
    passed_casts false t e w c = assigned_casts s known t e w c

    first_argued : (printed : Bool) (ts : List PlainType) (e : Expression) → WellTyped s e
        → Gives (λ e. (es : Expressions) → IsArgued (rest_types ts) es → IsArgued ts (Following e es)) (argument_for s printed (first_type ts) e)
    first_argued printed [] e w = λ es a. record { well = (w, a.well); types = λ n. absurd (omega (arith, n)) }
    first_argued printed (t ∷ ts) e w =
        gives_where (λ e. (es : Expressions) → IsArgued ts es → IsArgued (t ∷ ts) (Following e es)) (is_passed s printed e t) _ _ (λ c es a.
        record { well = (in_type_well s t e w (passed_casts printed t e w c), a.well); types = λ n. (in_type_type t e, a.types (omega (arith, n))) })

    anything : {A : Type 0} (c : Checked A) → Gives (λ u. Unit {0}) c
    anything (Good a) = tt
    anything (Bad f fs) = tt

    -- ---- the format of printf

    prints_no_void : (t : PlainType) → is_printed t Void ≡ false
    prints_no_void (Int k) = refl
    prints_no_void (Ptr t) = refl
    prints_no_void _ = refl

    void_takes_none : (c : Checked Expression) → Gives (λ e. ⊥) (one_part c (argument_for s true (Some Void)))
    void_takes_none c =
        gives_one (λ e. Unit {0}) (λ e. ⊥) c (argument_for s true (Some Void)) (anything c) (λ e u.
        gives_where (λ e. ⊥) (is_printed (type_of e) Void) _ _ (λ h. absurd (clash (is_printed (type_of e) Void) h (prints_no_void (type_of e)))))

    nothing_right : (R : Expressions → Type 0) (c : Checked Expression) (es : Expressions)
        → Gives R (both_parts (one_part c (argument_for s true (Some Void))) (typed_arguments s true [] es) (λ e es. Good (Following e es)))
    nothing_right R c es =
        gives_both (λ e. ⊥) (λ es. Unit {0}) R (one_part c (argument_for s true (Some Void))) (typed_arguments s true [] es) (λ e es. Good (Following e es))
        (void_takes_none c) (anything (typed_arguments s true [] es)) (λ e es b u. absurd b)

    -- the arguments of printf have the types that the typed format asks for
    abbrev Asks : Option (List Piece) → Expressions → Type 0
    Asks o fs = argument_count fs ≡ length (format_params o) → literal_types s (literal_in fs) ≡ Some (format_params o)

    literal_asks : (at : Place) (offset : ℕ) (ps : List Piece) (o : Option (ℕ × List ℕ)) → literal_at offset 0 s.texts ≡ o → (elim o [ None ↦ None | Some l ↦ pieces_of l.1 ]) ≡ Some ps
        → Gives (λ e. (es : Expressions) → literal_types s (literal_in (Following e es)) ≡ Some (format_params (Some ps)))
        (one_part (decayed_of (given o (no_type at) (λ l. Good (Node at (Array (Int I8) (Count (length l.1 + 1))) (Text l.0))))) (argument_for s true (Some (Ptr (Int I8)))))
    literal_asks at offset ps None e f = tt
    literal_asks at offset ps (Some l) e f = λ es.
        let i = literal_is offset 0 s.texts l e in
        let same : l.0 ≡ i.index = omega (arith, i.is) in
        ap format_types (ap (slice_get s.texts) same ∙ i.found) ∙ ap (λ bytes. option_map (λ pieces. Ptr (Int I8) ∷ types_of pieces) (pieces_of bytes)) i.bytes
        ∙ ap (option_map (λ pieces. Ptr (Int I8) ∷ types_of pieces)) f

    printed_asks : (es : Expressions) → Gives (Asks (format_of s es)) (typed_arguments s true (format_params (format_of s es)) es)
    printed_asks NoExpression = λ n. absurd (omega (arith, n))
    printed_asks (Following (Node at t (Text offset)) es) = by (format_of s (Following (Node at t (Text offset)) es)) refl
      where
        by : (o : Option (List Piece)) → format_of s (Following (Node at t (Text offset)) es) ≡ o
            → Gives (Asks o) (typed_arguments s true (format_params o) (Following (Node at t (Text offset)) es))
        by None e = nothing_right (Asks None) (decayed_of (text s at offset)) es
        by (Some ps) e =
            gives_both (λ e. (es : Expressions) → literal_types s (literal_in (Following e es)) ≡ Some (format_params (Some ps))) (λ es. Unit {0}) (Asks (Some ps))
            (one_part (decayed_of (text s at offset)) (argument_for s true (Some (Ptr (Int I8))))) (typed_arguments s true (types_of ps) es) (λ e es. Good (Following e es))
            (literal_asks at offset ps (literal_at offset 0 s.texts) refl e) (anything (typed_arguments s true (types_of ps) es)) (λ e es h u n. h es)
    printed_asks (Following e es) = nothing_right (Asks None) (decayed_of (typed s e)) es

    are_asked : (b : Bool) (f : Signature) (es fs : Expressions) → typed_arguments s b (cond b (format_params (format_of s es)) f.params) es ≡ Good fs
        → argument_count fs ≡ length (cond b (format_params (format_of s es)) f.params)
        → cond b (literal_types s (literal_in fs)) (Some f.params) ≡ Some (cond b (format_params (format_of s es)) f.params)
    are_asked true f es fs e n = gives_of (Asks (format_of s es)) (typed_arguments s true (format_params (format_of s es)) es) fs (printed_asks es) e n
    are_asked false f es fs e n = refl

    -- a callee as its call sees it
    record IsCalleeFor (x : ℕ) (es : Expressions) (g : Signature) : Type 0 where
      plain : Signature
      is_callee : IsCallee x plain
      is : g ≡ with_directives s es plain

    callee_for_is : (at : Place) (x : ℕ) (es : Expressions) → Gives (IsCalleeFor x es) (callee_for s at x es)
    callee_for_is at x es =
        gives_one (IsCallee x) (IsCalleeFor x es) (callee s at x) (λ f. Good (with_directives s es f)) (callee_is at x) (λ f c. record { plain = f; is_callee = c; is = refl })

    call_sound : (at : Place) (x : ℕ) (f : Signature) (es fs : Expressions) → IsCallee x f → IsArgued (with_directives s es f).params fs
        → typed_arguments s (is_printf s f.name) (with_directives s es f).params es ≡ Good fs → Gives (Sound s) (call at (with_directives s es f) fs)
    call_sound at x f es fs c a e = gives_where (Sound s) (nat_eq (argument_count fs) (length (with_directives s es f).params)) _ _ (λ t.
        let n : argument_count fs ≡ length (with_directives s es f).params = grind (arith, nat_tests, t) in record {
          well = (
            a.well,
            record {
              callee = f;
              found = c.found;
              defined = c.defined;
              not_main = c.not_main;
              decl = refl;
              result = refl;
              params = (with_directives s es f).params;
              asked = are_asked (is_printf s f.name) f es fs e n;
              arguments = a.types n;
            },
          );
          object = λ o. absurd (clash (is_aggregate f.result) o c.flat);
        })

    called_sound : (at : Place) (x : ℕ) (es : Expressions) (c : Checked Signature) (g : Signature) (fs : Expressions) → IsCalleeFor x es g × (c ≡ Good g)
        → IsArgued (params_of c) fs × (typed_arguments s (is_printf s x) (params_of c) es ≡ Good fs) → Gives (Sound s) (call at g fs)
    called_sound at x es c g fs k a =
        let i = k.0 in
        let same : c ≡ Good (with_directives s es i.plain) = k.1 ∙ ap Good i.is in
        subst (λ h. Gives (Sound s) (call at h fs)) (sym i.is) (call_sound at x i.plain es fs i.is_callee (subst (λ d. IsArgued (params_of d) fs) same a.0)
        (subst (λ y. typed_arguments s (is_printf s y) (with_directives s es i.plain).params es ≡ Good fs) i.is_callee.named
        (subst (λ d. typed_arguments s (is_printf s x) (params_of d) es ≡ Good fs) same a.1)))

    -- ---- expressions

    abbrev IsTwo : Expression × Expression → Type 0
    IsTwo p = Sound s p.0 × Sound s p.1

    value_of : (c : Checked Expression) → Gives (Sound s) c → Gives (IsSoundValue s) (decayed_of c)
    value_of c g = gives_one (Sound s) (IsSoundValue s) c (λ e. Good (decayed e)) g (λ e h. decayed_sound s e h)

    mutual
      pub typed_sound : (e : Expression) → Gives (Sound s) (typed s e)
      typed_sound (Node at t (Number n k)) = literal_sound s at n k
      typed_sound (Node at t (Letter n)) = record { well = refl; object = λ c. absurd cc }
      typed_sound (Node at t (Text offset)) = text_sound s at offset
      typed_sound (Node at t (Variable x)) = named_sound at x.name
      typed_sound (Node at t (Unary op a)) = gives_one (Sound s) (Sound s) (typed s a) (unary_on at op) (typed_sound a) (unary_sound s at op)
      typed_sound (Node at t (Binary op a b)) = gives_both (IsSoundValue s) (IsSoundValue s) (Sound s) (decayed_of (typed s a)) (decayed_of (typed s b)) (binary s at op)
          (value_of (typed s a) (typed_sound a)) (value_of (typed s b) (typed_sound b)) (λ a b v w. binary_sound s known at op a b v.sound w.sound)
      typed_sound (Node at t (Both a b)) = gives_both (IsSoundValue s) (IsSoundValue s) (Sound s) (decayed_of (typed s a)) (decayed_of (typed s b)) (both_of at)
          (value_of (typed s a) (typed_sound a)) (value_of (typed s b) (typed_sound b)) (λ a b v w. both_sound s known at a b v.sound w.sound)
      typed_sound (Node at t (Either a b)) = gives_both (IsSoundValue s) (IsSoundValue s) (Sound s) (decayed_of (typed s a)) (decayed_of (typed s b)) (either_of at)
          (value_of (typed s a) (typed_sound a)) (value_of (typed s b) (typed_sound b)) (λ a b v w. either_sound s known at a b v.sound w.sound)
      typed_sound (Node at t (Choice a b c)) =
          gives_both (IsSoundValue s) IsTwo (Sound s) (decayed_of (typed s a)) (both_parts (decayed_of (typed s b)) (decayed_of (typed s c)) two) (λ x p. choice_of s at x p.0 p.1)
          (value_of (typed s a) (typed_sound a))
          (gives_both (IsSoundValue s) (IsSoundValue s) IsTwo (decayed_of (typed s b)) (decayed_of (typed s c)) two (value_of (typed s b) (typed_sound b)) (value_of (typed s c) (typed_sound c))
          (λ b c v w. (v.sound, w.sound)))
          (λ x p u w. choice_sound at x p.0 p.1 u.sound w.0 w.1)
      typed_sound (Node at t (Assign op a b)) = gives_both (Sound s) (IsSoundValue s) (Sound s) (typed s a) (decayed_of (typed s b)) (assign s at op)
          (typed_sound a) (value_of (typed s b) (typed_sound b)) (λ a b v w. assign_sound s known at op a b v w.sound)
      typed_sound (Node at t (Bump op a)) = gives_one (Sound s) (Sound s) (typed s a) (bump s at op) (typed_sound a) (bump_sound s known at op)
      typed_sound (Node at t (Call f es)) =
          let c = callee_for s at f.name es in
          let typed_ones = typed_arguments s (is_printf s f.name) (params_of c) es in
          gives_both (λ g. IsCalleeFor f.name es g × (c ≡ Good g)) (λ fs. IsArgued (params_of c) fs × (typed_ones ≡ Good fs)) (Sound s) c typed_ones (call at)
          (gives_self (IsCalleeFor f.name es) c (callee_for_is at f.name es))
          (gives_self (IsArgued (params_of c)) typed_ones (arguments_sound (is_printf s f.name) (params_of c) es))
          (λ g fs k a. called_sound at f.name es c g fs k a)
      typed_sound (Node at t (Cast to a)) = gives_limited (Sound s) s at (known_type s to) (both_parts (typed_type s at to) (decayed_of (typed s a)) (cast s at))
          (gives_both (λ u. Unit {0}) (IsSoundValue s) (Sound s) (typed_type s at to) (decayed_of (typed s a)) (cast s at) (anything (typed_type s at to)) (value_of (typed s a) (typed_sound a))
          (λ u a i v. cast_sound s known at u a v.sound))
      typed_sound (Node at t (SizeOfType u)) = gives_limited_type (Sound s) s at (known_type s u) (typed_type s at u) (size_of_type s at) (type_is_known s at u) (size_of_type_sound at)
      typed_sound (Node at t (SizeOfExpr a)) =
          gives_one (Sound s) (Sound s) (typed s a) (λ e. limited s at (type_of e) (size_of_expression s at e)) (typed_sound a) (λ e v.
          gives_besides (Sound s) (is_within_limits s (type_of e)) (too_large at) (size_of_expression s at e) (λ w. size_of_expression_sound at e v w))
      typed_sound (Node at t (Index a b)) = gives_both (IsSoundValue s) (IsSoundValue s) (Sound s) (decayed_of (typed s a)) (decayed_of (typed s b)) (index s at)
          (value_of (typed s a) (typed_sound a)) (value_of (typed s b) (typed_sound b)) (λ a b v w. index_sound s known at a b v.sound w.sound)
      typed_sound (Node at t (Dot a m)) = gives_one (Sound s) (Sound s) (typed s a) (dot s at m) (typed_sound a) (dot_sound s known at m)
      typed_sound (Node at t (Arrow a m)) = gives_one (IsSoundValue s) (Sound s) (decayed_of (typed s a)) (arrow s at m)
          (value_of (typed s a) (typed_sound a)) (λ a v. arrow_sound s known at m a v.sound)
      typed_sound (Node at t (Comma a b)) =
          gives_both (Sound s) (IsSoundValue s) (Sound s) (typed s a) (decayed_of (typed s b)) (λ a b. Good (Node at (type_of b) (Comma a b)))
          (typed_sound a) (value_of (typed s b) (typed_sound b)) (λ a b v w. comma_sound s known at a b v w.sound w.flat)

      arguments_sound : (printed : Bool) (ts : List PlainType) (es : Expressions) → Gives (IsArgued ts) (typed_arguments s printed ts es)
      arguments_sound printed ts NoExpression = none_argued ts
      arguments_sound printed ts (Following e es) =
          gives_both (λ e. (es : Expressions) → IsArgued (rest_types ts) es → IsArgued ts (Following e es)) (IsArgued (rest_types ts)) (IsArgued ts)
          (one_part (decayed_of (typed s e)) (argument_for s printed (first_type ts))) (typed_arguments s printed (rest_types ts) es) (λ e es. Good (Following e es))
          (gives_one (IsSoundValue s) (λ e. (es : Expressions) → IsArgued (rest_types ts) es → IsArgued ts (Following e es)) (decayed_of (typed s e)) (argument_for s printed (first_type ts))
          (value_of (typed s e) (typed_sound e)) (λ e v. first_argued printed ts e v.sound.well))
          (arguments_sound printed (rest_types ts) es)
          (λ e es k a. k es a)

    -- a typed expression is well typed
    pub typed_well : (e x : Expression) → typed s e ≡ Good x → WellTyped s x
    typed_well e x is = (gives_of (Sound s) (typed s e) x (typed_sound e) is).well
