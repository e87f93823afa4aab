-- The typed tree of an operator is well typed where its operands are.
use Rattle.std.proofs.Common.{◌≡◌, ℤ, refl, sym, ap, ◌∙◌, Option, Some, Bool, true, false, cond, not, ◌||◌, if◌then◌else◌}
use Rattle.c_syntax.specs.declared.place.Place.{Place}
use Rattle.c_syntax.specs.declared.types.CInt.{CInt}
use Rattle.c_syntax.specs.declared.types.CInt.TheVariants.{I32}
use Rattle.c_syntax.specs.declared.expression.UnOp.{UnOp}
use Rattle.c_syntax.specs.declared.expression.UnOp.TheVariants as unary
use Rattle.c_syntax.specs.declared.expression.BinOp.{BinOp}
use Rattle.c_syntax.specs.declared.expression.BinOp.TheVariants as operator
use Rattle.c_syntax.specs.Ctypes.{PlainType, Void, Int, Ptr, Array, Struct, Named, StructTag, EnumTag, int_type}
use Rattle.c_syntax.specs.Expressions.{Expression, Node, Binary, Cast, place_of, type_of}
use Rattle.c_model.specs.Integers.{fits, integer_type}
use Rattle.c_model.specs.Conversions.{promoted, common, is_shift, is_relation}
use Rattle.c_model.specs.Meaning.{is_array}
use Rattle.c_model.specs.ExpressionTyping.{Sight, is_void, is_scalar, pointed, same_type, decayed, in_type, in_int, is_place}
use Rattle.c_model.specs.ExpressionTyping.{literal, unary_on, on_integers}
use Rattle.c_model.specs.ExpressionTyping.{has_object}
use Rattle.c_model.specs.TypedTrees.{IsPromoted, OfIntegers}
use Rattle.c_model.specs.TypedTrees.{CastTypes, OfInteger, OfArray, WellTyped}
use Rattle.c_model.proofs.TypedParts.{Gives, gives_given, gives_where, same_type_is, integer_is, pointed_is, scalar_is}

-- a type that has no value of its own
abbrev pub is_aggregate : PlainType → Bool
is_aggregate (Array t n) = true
is_aggregate (Struct n) = true
is_aggregate _ = false

-- a typed expression, which has an object where its type has no value of its own
pub record Sound (s : Sight) (e : Expression) : Type 0 where
  pub well : WellTyped s e
  pub object : is_aggregate (type_of e) ≡ true → has_object e ≡ true

-- the same of a value, which is no array
pub record IsSoundValue (s : Sight) (e : Expression) : Type 0 where
  pub sound : Sound s e
  pub flat : is_array (type_of e) ≡ false

pub decayed_sound : (s : Sight) (e : Expression) → Sound s e → IsSoundValue s (decayed e)
decayed_sound s (Node at Void k) h = record { sound = h; flat = refl }
decayed_sound s (Node at (Int l) k) h = record { sound = h; flat = refl }
decayed_sound s (Node at (Ptr t) k) h = record { sound = h; flat = refl }
decayed_sound s (Node at (Array t n) k) h = record { sound = record { well = (h.well, refl, OfArray t n refl refl (h.object refl)); object = λ b. absurd cc }; flat = refl }
decayed_sound s (Node at (Struct n) k) h = record { sound = h; flat = refl }
decayed_sound s (Node at (Named x) k) h = record { sound = h; flat = refl }
decayed_sound s (Node at (StructTag x tag) k) h = record { sound = h; flat = refl }
decayed_sound s (Node at (EnumTag x tag) k) h = record { sound = h; flat = refl }

-- ---- casts

pub in_type_well : (s : Sight) (t : PlainType) (e : Expression) → WellTyped s e → CastTypes s t e → WellTyped s (in_type t e)
in_type_well s t e w c = by (same_type (type_of e) t)
  where
    by : (b : Bool) → WellTyped s (cond b e (Node (place_of e) t (Cast t e)))
    by true = w
    by false = (w, refl, c)

pub in_type_type : (t : PlainType) (e : Expression) → type_of (in_type t e) ≡ t
in_type_type t e = by (same_type (type_of e) t) refl
  where
    by : (b : Bool) → same_type (type_of e) t ≡ b → type_of (cond b e (Node (place_of e) t (Cast t e))) ≡ t
    by true is = same_type_is (type_of e) t is
    by false is = refl

pub int_cast : (s : Sight) (k l : CInt) (e : Expression) → integer_type (type_of e) ≡ Some l → CastTypes s (Int k) e
int_cast s k l e i = OfInteger (record { int = k; is = refl }) (record { int = l; is = integer_is (type_of e) l i })

pub in_int_well : (s : Sight) (k l : CInt) (e : Expression) → WellTyped s e → integer_type (type_of e) ≡ Some l → WellTyped s (in_int k e)
in_int_well s k l e w i = in_type_well s (Int k) e w (int_cast s k l e i)

pub or_cases : {P : Type 0} (a b : Bool) → (a || b) ≡ true → (a ≡ true → P) → (b ≡ true → P) → P
or_cases true b e f g = f refl
or_cases false b e f g = g e

is_promoted : (u : PlainType) (k : CInt) → u ≡ Int (promoted k) → IsPromoted u
is_promoted u k e = record { int = k; is = e }

common_is_promoted : (u : PlainType) (k l : CInt) → u ≡ Int (common k l) → IsPromoted u
common_is_promoted u k l e = by _ _ _ e
  where
    by : (a b c : Bool) → u ≡ Int (if a then promoted l else (if b then promoted k else (if c then promoted l else promoted k))) → IsPromoted u
    by true b c e = is_promoted u l e
    by false true c e = is_promoted u k e
    by false false true e = is_promoted u l e
    by false false false e = is_promoted u k e

-- ---- operators

pub literal_sound : (s : Sight) (at : Place) (n : ℤ) (k : Option CInt) → Gives (Sound s) (literal at n k)
literal_sound s at n k = gives_given (Sound s) k _ _ (λ l e. gives_where (Sound s) (fits l n) _ _ (λ f. record { well = (refl, f); object = λ b. absurd cc }))

pub unary_sound : (s : Sight) (at : Place) (op : UnOp) (a : Expression) → Sound s a → Gives (Sound s) (unary_on at op a)
unary_sound s at op a h = by op
  where
    value : IsSoundValue s (decayed a)
    value = decayed_sound s a h

    operand : (k : CInt) → integer_type (type_of a) ≡ Some k
        → WellTyped s (in_int (promoted k) a) × IsPromoted (type_of (in_int (promoted k) a)) × (Int (promoted k) ≡ type_of (in_int (promoted k) a))
    operand k i =
        let same = in_type_type (Int (promoted k)) a in
        (in_int_well s (promoted k) k a h.well i, is_promoted _ k same, sym same)

    by : (op : UnOp) → Gives (Sound s) (unary_on at op a)
    by unary.Plus = gives_given (Sound s) (integer_type (type_of a)) _ _ (λ k i. record { well = operand k i; object = λ b. absurd cc })
    by unary.Minus = gives_given (Sound s) (integer_type (type_of a)) _ _ (λ k i. record { well = operand k i; object = λ b. absurd cc })
    by unary.Flip = gives_given (Sound s) (integer_type (type_of a)) _ _ (λ k i. record { well = operand k i; object = λ b. absurd cc })
    by unary.Not = gives_where (Sound s) (is_scalar (type_of (decayed a))) _ _ (λ t. record { well = (value.sound.well, scalar_is _ t, refl); object = λ b. absurd cc })
    by unary.Deref = gives_given (Sound s) (pointed (type_of (decayed a))) _ _ (λ t i. gives_where (Sound s) (not (is_void t)) _ _ (λ v.
        record { well = (value.sound.well, pointed_is _ t i); object = λ b. refl }))
    by unary.Address = gives_where (Sound s) (is_place a) _ _ (λ p. record { well = (h.well, p, refl); object = λ b. absurd cc })

module _ (s : Sight) (at : Place) (a b : Expression) (v : WellTyped s a) (w : WellTyped s b)
  where
    pub integers_well : (op : BinOp) (k l : CInt) → integer_type (type_of a) ≡ Some k → integer_type (type_of b) ≡ Some l → WellTyped s (on_integers at op k l a b)
    integers_well op k l i j = by (is_shift op) refl (is_relation op) refl
      where
        x : (m : CInt) → type_of (in_int m a) ≡ Int m
        x m = in_type_type (Int m) a

        y : (m : CInt) → type_of (in_int m b) ≡ Int m
        y m = in_type_type (Int m) b

        by : (f : Bool) → is_shift op ≡ f → (g : Bool) → is_relation op ≡ g → WellTyped s (Node at (Int (if g then I32 else (if f then promoted k else common k l))) (
            if f then Binary op (in_int (promoted k) a) (in_int (promoted l) b) else Binary op (in_int (common k l) a) (in_int (common k l) b)))
        by true f true g = absurd (shift_is_no_relation op f g)
          where
            shift_is_no_relation : (op : BinOp) → is_shift op ≡ true → is_relation op ≡ true → ⊥
            shift_is_no_relation operator.Shl f g = absurd cc
            shift_is_no_relation operator.Shr f g = absurd cc
            shift_is_no_relation _ f g = absurd cc
        by true f false g = (
          in_int_well s (promoted k) k a v i,
          in_int_well s (promoted l) l b w j,
          OfIntegers (record {
            left = is_promoted _ k (x (promoted k));
            right = is_promoted _ l (y (promoted l));
            same = λ n. absurd cc;
            result = sym (ap (λ z. cond z int_type (type_of (in_int (promoted k) a))) g ∙ x (promoted k));
          }),
        )
        by false f true g = (
          in_int_well s (common k l) k a v i,
          in_int_well s (common k l) l b w j,
          OfIntegers (record {
            left = common_is_promoted _ k l (x (common k l));
            right = common_is_promoted _ k l (y (common k l));
            same = λ n. y (common k l) ∙ sym (x (common k l));
            result = sym (ap (λ z. cond z int_type (type_of (in_int (common k l) a))) g);
          }),
        )
        by false f false g = (
          in_int_well s (common k l) k a v i,
          in_int_well s (common k l) l b w j,
          OfIntegers (record {
            left = common_is_promoted _ k l (x (common k l));
            right = common_is_promoted _ k l (y (common k l));
            same = λ n. y (common k l) ∙ sym (x (common k l));
            result = sym (ap (λ z. cond z int_type (type_of (in_int (common k l) a))) g ∙ x (common k l));
          }),
        )
