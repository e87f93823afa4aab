-- Why no operator wraps: its operands and its result are values of the type in which it is computed.
use Rattle.std.proofs.Common.{◌≡◌, ℕ, suc, ◌-◌, ◌<◌, ◌≤◌, ◌^◌, ℤ, pos, negsuc, neg_ℤ, ◌+ℤ◌, ◌-ℤ◌, ◌*ℤ◌, ◌≤ℤ◌, int_div, int_rem, int_le, int_lt, Bool, true, false, not, ◌&&◌, ◌||◌, List, Option, Some, None, FitsSigned, if◌then◌else◌, refl, sym, ap}
use Rattle.std.proofs.Common.{◌∙◌, subst, arith}
use Rattle.std.specs.Prelude.{bit_and}
use Rattle.std.specs.Int.Bits.{or_zero_r}
use Rattle.std.specs.Int.Signed.{mag}
use Rattle.std.specs.Ordering.{int_eq}
use Rattle.std.proofs.lemmas.Int.{ints}
use Rattle.std.proofs.Math.Nat.{mod-eq_of_lt}
use Rattle.c_syntax.specs.declared.annotation.Range.{Range}
use Rattle.c_syntax.specs.declared.annotation.Relation.{Relation}
use Rattle.c_syntax.specs.declared.annotation.Relation.TheVariants as relation
use Rattle.c_syntax.specs.declared.expression.BinOp.{BinOp}
use Rattle.c_syntax.specs.declared.expression.BinOp.TheVariants as operator
use Rattle.c_syntax.specs.declared.expression.UnOp.{UnOp}
use Rattle.c_syntax.specs.declared.expression.UnOp.TheVariants as prefix
use Rattle.c_syntax.specs.declared.types.Width.{Width}
use Rattle.c_syntax.specs.declared.types.Width.TheVariants.{W32, W64, W128}
use Rattle.c_model.specs.Integers.{truth}
use Rattle.c_model.specs.Logic.{TermValue, Mathematical, Addressed, compute, mathematical, relates}
use Rattle.c_model.specs.Memory.{Value, Integer}
use Rattle.c_model.specs.Operators.{shift_left, shift_right, floor_quotient, complement, bitwise_or}
use Rattle.c_model.specs.Predicates.{compute_one}
use Rattle.c_model.specs.Ranges.{LiesIn, shift_left_range, product_range, from_to, power_of_count}
use Rattle.c_model.specs.TermRanges.{binary_range, unary_range}
use Rattle.ea_num.specs.Laws.{machine_width}
use Rattle.ea_num.proofs.Shifted.{high_shift}
use Rattle.mon_syntax.specs.declared.tree.MonType.{MonType}
use Rattle.mon_syntax.specs.declared.tree.MonType.TheVariants.{I32, I64, I128}
use Rattle.mon_syntax.specs.declared.tree.MonOp.TheVariants as mon
use Rattle.mon_syntax.specs.Arithmetic.{is_pointer, wrap, operate, shift_count}
use Rattle.mon_syntax.specs.BlockMemory.{integer_of, is_some}
use Rattle.mon_syntax.specs.Meaning.{◌>>=◌ as bind}
use Rattle.mon_syntax.specs.Trees.{MonExpression, Constant, Binary, Minus, Flip, Cast}
use Rattle.mon_syntax.proofs.Wrapping.{wrap-fitting}
use Rattle.c_effects.specs.Expressions.{in_type, operator_of}
use Rattle.annot_simulation.specs.Code.{relation_operator}
use Rattle.term_guards.specs.Guards.{guard}
use Rattle.annot_simulation.specs.Code.{type_of_width, wider, working, is_total, count_in, binary_value, unary_value, relation_value}
use Rattle.annot_simulation.specs.Does.{Setting}
use Rattle.annot_simulation.proofs.Steps.{HasNumber, operation, constant_has, cast_has, in_type_has}

-- ---- values of a width

abbrev pub Fits : Width → ℤ → Type 0
Fits w z = FitsSigned (machine_width w) z

pub signed_within : (g : ℕ) (z : ℤ) → mag z < suc g → (int_le (negsuc g) z && int_le z (pos g)) ≡ true
signed_within g (pos n) l = grind (arith, ints)
signed_within g (negsuc n) l = grind (arith, ints)

pub wrap_in : (w : Width) (z : ℤ) → Fits w z → wrap (type_of_width w) z ≡ z
wrap_in W32 z f = wrap-fitting I32 z (signed_within 2147483647 z f.sfits)
wrap_in W64 z f = wrap-fitting I64 z (signed_within 9223372036854775807 z f.sfits)
wrap_in W128 z f = wrap-fitting I128 z (signed_within 170141183460469231731687303715884105727 z f.sfits)

pub fits_left : (a b : Width) (z : ℤ) → Fits a z → Fits (wider a b) z
fits_left W32 W32 z h = h
fits_left W32 W64 z h = record { sfits = omega (arith, h.sfits) }
fits_left W32 W128 z h = record { sfits = omega (arith, h.sfits) }
fits_left W64 W32 z h = h
fits_left W64 W64 z h = h
fits_left W64 W128 z h = record { sfits = omega (arith, h.sfits) }
fits_left W128 b z h = h

pub fits_right : (a b : Width) (z : ℤ) → Fits b z → Fits (wider a b) z
fits_right W32 b z h = h
fits_right W64 W32 z h = record { sfits = omega (arith, h.sfits) }
fits_right W64 W64 z h = h
fits_right W64 W128 z h = h
fits_right W128 W32 z h = record { sfits = omega (arith, h.sfits) }
fits_right W128 W64 z h = record { sfits = omega (arith, h.sfits) }
fits_right W128 W128 z h = h

fits_most : (w : Width) (z : ℤ) → Fits w z → Fits W128 z
fits_most W32 z h = record { sfits = omega (arith, h.sfits) }
fits_most W64 z h = record { sfits = omega (arith, h.sfits) }
fits_most W128 z h = h

pub is_number : (w : Width) → is_pointer (type_of_width w) ≡ false
is_number W32 = refl
is_number W64 = refl
is_number W128 = refl

-- ---- results

-- the number of a term's value
abbrev pub value_of : Option TermValue → Option ℤ
value_of None = None
value_of (Some (Mathematical z)) = Some z
value_of (Some (Addressed x)) = None

same_number : (x z : ℤ) → Some x ≡ Some z → x ≡ z
same_number x z e = cc

wrapped : (k : MonType) (x z : ℤ) → Some x ≡ Some z → wrap k z ≡ z → Some (wrap k x) ≡ Some z
wrapped k x z e f = ap (λ u. Some (wrap k u)) (same_number x z e) ∙ ap Some f

divides : (t : Bool) (k : MonType) (q z : ℤ) → value_of (mathematical (if t then None else Some q)) ≡ Some z → wrap k z ≡ z → (if t then None else Some (wrap k q)) ≡ Some z
divides true k q z e f = absurd cc
divides false k q z e f = wrapped k q z e f

small_count : (c : ℕ) → c < 128 → shift_count I128 (pos c) ≡ c
small_count c l = mod-eq_of_lt l

shifted_left : (x y z : ℤ) → y ≤ℤ pos 126 → value_of (mathematical (shift_left x y)) ≡ Some z → wrap I128 z ≡ z → operate mon.Shl I128 x y ≡ Some z
shifted_left x (pos c) z l e f =
    let small : c < 128 = omega (arith, ints, l) in
    ap (λ i. Some (wrap I128 (x *ℤ pos (2 ^ i)))) (small_count c small) ∙ wrapped I128 (x *ℤ pos (2 ^ c)) z e f
shifted_left x (negsuc c) z l e f = absurd cc

-- a count that is put into the bits of the type
small_right : (x y z : ℤ) → y ≤ℤ pos 127 → value_of (mathematical (shift_right x y)) ≡ Some z → operate mon.Shr I128 x y ≡ Some z
small_right x (pos c) z l e =
    let small : c < 128 = omega (arith, ints, l) in
    ap (λ i. Some (floor_quotient x (2 ^ i))) (small_count c small) ∙ e
small_right x (negsuc c) z l e = absurd cc

high_right : (x z : ℤ) (c : ℕ) → 127 ≤ c → mag x < 2 ^ 127 → value_of (mathematical (shift_right x (pos c))) ≡ Some z → operate mon.Shr I128 x (negsuc 0) ≡ Some z
high_right x z c l small e = ap Some (sym (high_shift x c small l)) ∙ e

-- the truth of a count above 127, as all bits or none
abbrev turned : Bool → ℤ
turned t = neg_ℤ (truth t)

or_turned : (c : ℕ) (t : Bool) → bitwise_or (pos c) (turned t) ≡ (if t then negsuc 0 else pos c)
or_turned c true = let none : 0 - bit_and 0 c ≡ 0 = omega arith in ap negsuc none
or_turned c false = ap pos (or_zero_r c)

wrap_turned : (t : Bool) → wrap I128 (turned t) ≡ turned t
wrap_turned true = refl
wrap_turned false = refl

wrap_truth : (t : Bool) → wrap I128 (truth t) ≡ truth t
wrap_truth true = refl
wrap_truth false = refl

-- ---- where operators are defined

defined_quotient : (t : Bool) (q : ℤ) → t ≡ false → is_some (value_of (mathematical (if t then None else Some q))) ≡ true
defined_quotient true q e = absurd cc
defined_quotient false q e = refl

or_cases : (s t : Bool) → (s || t) ≡ true → (P : Type 0) → (s ≡ true → P) → (t ≡ true → P) → P
or_cases true t e P f g = f refl
or_cases false t e P f g = g e

no_zero : (b : Range) (y : ℤ) → (int_lt (pos 0) b.lo || int_lt b.hi (pos 0)) ≡ true → LiesIn b y → int_eq y (pos 0) ≡ false
no_zero b y e l =
    or_cases (int_lt (pos 0) b.lo) (int_lt b.hi (pos 0)) e (int_eq y (pos 0) ≡ false)
    (λ p. let above = l.above in grind (arith, ints)) (λ p. let below = l.below in grind (arith, ints))

count_defined : (b : Range) (y : ℤ) (f : ℕ → ℤ) → int_le (pos 0) b.lo ≡ true → LiesIn b y → (c : ℕ) × (y ≡ pos c)
count_defined b (pos c) f e l = (c, refl)
count_defined b (negsuc c) f e l = let above = l.above in absurd (omega (arith, ints))

-- an operator with a range is defined on every second operand that its test allows
pub total_defined : (op : BinOp) (a b r : Range) (x y : ℤ) → binary_range op a b ≡ Some r → is_total op b ≡ true → LiesIn b y → is_some (value_of (compute op x y)) ≡ true
total_defined operator.Add a b r x y e t l = refl
total_defined operator.Sub a b r x y e t l = refl
total_defined operator.Mul a b r x y e t l = refl
total_defined operator.Div a b r x y e t l = defined_quotient (int_eq y (pos 0)) (int_div x y) (no_zero b y t l)
total_defined operator.Rem a b r x y e t l = defined_quotient (int_eq y (pos 0)) (int_rem x y) (no_zero b y t l)
total_defined operator.Shl a b r x y e t l = let c = count_defined b y pos t l in ap (λ y. is_some (value_of (mathematical (shift_left x y)))) c.1
total_defined operator.Shr a b r x y e t l = let c = count_defined b y pos t l in ap (λ y. is_some (value_of (mathematical (shift_right x y)))) c.1
total_defined operator.BitAnd a b r x y e t l = refl
total_defined operator.BitOr a b r x y e t l = refl
total_defined operator.BitXor a b r x y e t l = refl
total_defined operator.Eq a b r x y e t l = absurd cc
total_defined operator.Ne a b r x y e t l = absurd cc
total_defined operator.Lt a b r x y e t l = absurd cc
total_defined operator.Le a b r x y e t l = absurd cc
total_defined operator.Gt a b r x y e t l = absurd cc
total_defined operator.Ge a b r x y e t l = absurd cc

-- the count of a shift to the left is at most 126
count_small : (a b r : Range) (y : ℤ) → shift_left_range a b ≡ Some r → LiesIn b y → y ≤ℤ pos 126
count_small a b r y e l = by (int_le b.hi (pos 126)) refl e
  where
    by : (t : Bool) → int_le b.hi (pos 126) ≡ t → (if t then product_range a (from_to (power_of_count b.lo) (power_of_count b.hi)) else None) ≡ Some r → y ≤ℤ pos 126
    by true p f = let below = l.below in omega (arith, ints)
    by false p f = absurd cc

module _ (w : Setting) (later : List Value) where
  -- ---- guards

  zero_has : (v : Width) → HasNumber w (Constant (type_of_width v) (pos 0)) later (pos 0)
  zero_has v = constant_has w (type_of_width v) (pos 0) later (is_number v)

  quotient_guard : (v : Width) (e : MonExpression) (x y q : ℤ) → HasNumber w e later y
      → HasNumber w (Binary mon.Ne (type_of_width v) e (Constant (type_of_width v) (pos 0))) later (truth (is_some (value_of (mathematical (if int_eq y (pos 0) then None else Some q)))))
  quotient_guard v e x y q h =
      operation w mon.Ne (type_of_width v) e (Constant (type_of_width v) (pos 0)) later y (pos 0) (truth (is_some (value_of (mathematical (if int_eq y (pos 0) then None else Some q))))) (is_number v) h (zero_has v)
      (by (int_eq y (pos 0)))
    where
      by : (t : Bool) → Some (truth (not t)) ≡ Some (truth (is_some (value_of (mathematical (if t then None else Some q)))))
      by true = refl
      by false = refl

  from_zero : (c : ℕ) → int_le (pos 0) (pos c) ≡ true
  from_zero c = grind (arith, ints)

  count_guard : (v : Width) (e : MonExpression) (y : ℤ) (t : Bool) → HasNumber w e later y → int_le (pos 0) y ≡ t → HasNumber w (Binary mon.Le (type_of_width v) (Constant (type_of_width v) (pos 0)) e) later (truth t)
  count_guard v e y t h p =
      operation w mon.Le (type_of_width v) (Constant (type_of_width v) (pos 0)) e later (pos 0) y (truth t) (is_number v) (zero_has v) h (ap (λ t. Some (truth t)) p)

  left_guard : (x y : ℤ) → int_le (pos 0) y ≡ is_some (value_of (mathematical (shift_left x y)))
  left_guard x (pos c) = from_zero c
  left_guard x (negsuc c) = refl

  right_guard : (x y : ℤ) → int_le (pos 0) y ≡ is_some (value_of (mathematical (shift_right x y)))
  right_guard x (pos c) = from_zero c
  right_guard x (negsuc c) = refl

  -- a guard is 1 exactly where the operator is defined
  pub guard_has : (op : BinOp) (b : Range) (v : Width) (e : MonExpression) (x y : ℤ) → is_total op b ≡ false → HasNumber w e later y → HasNumber w (guard (type_of_width v) op e) later (truth (is_some (value_of (compute op x y))))
  guard_has operator.Div b v e x y t h = quotient_guard v e x y (int_div x y) h
  guard_has operator.Rem b v e x y t h = quotient_guard v e x y (int_rem x y) h
  guard_has operator.Shl b v e x y t h = count_guard v e y (is_some (value_of (mathematical (shift_left x y)))) h (left_guard x y)
  guard_has operator.Shr b v e x y t h = count_guard v e y (is_some (value_of (mathematical (shift_right x y)))) h (right_guard x y)
  guard_has operator.Add b v e x y t h = absurd cc
  guard_has operator.Sub b v e x y t h = absurd cc
  guard_has operator.Mul b v e x y t h = absurd cc
  guard_has operator.BitAnd b v e x y t h = absurd cc
  guard_has operator.BitOr b v e x y t h = absurd cc
  guard_has operator.BitXor b v e x y t h = absurd cc
  guard_has operator.Eq b v e x y t h = absurd cc
  guard_has operator.Ne b v e x y t h = absurd cc
  guard_has operator.Lt b v e x y t h = absurd cc
  guard_has operator.Le b v e x y t h = absurd cc
  guard_has operator.Gt b v e x y t h = absurd cc
  guard_has operator.Ge b v e x y t h = absurd cc

  -- ---- operators

  module _ (ea eb : MonExpression) (x y z : ℤ) (wa wb wr : Width) (fx : Fits wa x) (fy : Fits wb y) (fz : Fits wr z) (ha : HasNumber w ea later x) (hb : HasNumber w eb later y) where
    abbrev in_common : Width
    in_common = wider wr (wider wa wb)

    kz : wrap (type_of_width in_common) z ≡ z
    kz = wrap_in in_common z (fits_left wr (wider wa wb) z fz)

    -- computed in a type that has both operands and the result
    common_has : (op : BinOp) → operate (operator_of op) (type_of_width in_common) x y ≡ Some z
        → HasNumber w (in_type (type_of_width in_common) (type_of_width wr) (Binary (operator_of op) (type_of_width in_common) (in_type (type_of_width wa) (type_of_width in_common) ea)
        (in_type (type_of_width wb) (type_of_width in_common) eb))) later z
    common_has op e =
        let k = type_of_width in_common in
        in_type_has w k (type_of_width wr) (Binary (operator_of op) k (in_type (type_of_width wa) k ea) (in_type (type_of_width wb) k eb)) later z (wrap_in wr z fz)
        (operation w (operator_of op) k (in_type (type_of_width wa) k ea) (in_type (type_of_width wb) k eb) later x y z (is_number in_common)
        (in_type_has w (type_of_width wa) k ea later x (wrap_in in_common x (fits_right wr (wider wa wb) x (fits_left wa wb x fx))) ha)
        (in_type_has w (type_of_width wb) k eb later y (wrap_in in_common y (fits_right wr (wider wa wb) y (fits_right wa wb y fy))) hb) e)

    -- in 128 bits, with a count
    shift_has : (op : BinOp) (e : MonExpression) (c : ℤ) → HasNumber w e later c → operate (operator_of op) I128 x c ≡ Some z
        → HasNumber w (in_type I128 (type_of_width wr) (Binary (operator_of op) I128 (in_type (type_of_width wa) I128 ea) e)) later z
    shift_has op e c h f =
        in_type_has w I128 (type_of_width wr) (Binary (operator_of op) I128 (in_type (type_of_width wa) I128 ea) e) later z (wrap_in wr z fz)
        (operation w (operator_of op) I128 (in_type (type_of_width wa) I128 ea) e later x c z refl (in_type_has w (type_of_width wa) I128 ea later x (wrap_in W128 x (fits_most wa x fx)) ha) h f)

    count_has : HasNumber w (in_type (type_of_width wb) I128 eb) later y
    count_has = in_type_has w (type_of_width wb) I128 eb later y (wrap_in W128 y (fits_most wb y fy)) hb

    -- a count that may be above 127
    right_has : (b : Range) → LiesIn b y → value_of (mathematical (shift_right x y)) ≡ Some z
        → HasNumber w (in_type I128 (type_of_width wr) (Binary mon.Shr I128 (in_type (type_of_width wa) I128 ea) (count_in b (in_type (type_of_width wb) I128 eb)))) later z
    right_has b l e = by (int_le b.hi (pos 127)) refl
      where
        count : MonExpression
        count = in_type (type_of_width wb) I128 eb

        above : MonExpression
        above = Binary mon.Lt I128 (Constant I128 (pos 127)) count

        turned_has : (t : Bool) → int_lt (pos 127) y ≡ t → HasNumber w (Minus I128 (Cast I128 above)) later (turned t)
        turned_has t p =
            ap (λ q. bind q (λ u. bind (integer_of u) (λ i. Some (Integer (wrap I128 (neg_ℤ i))))))
            (cast_has w I128 above later (truth t) (truth t) (wrap_truth t) (operation w mon.Lt I128 (Constant I128 (pos 127)) count later (pos 127) y (truth t) refl refl count_has (ap (λ t. Some (truth t)) p)))
            ∙ ap (λ i. Some (Integer i)) (wrap_turned t)

        masked : (t : Bool) (c : ℕ) → y ≡ pos c → int_lt (pos 127) y ≡ t → HasNumber w (Binary mon.Or I128 count (Minus I128 (Cast I128 above))) later (if t then negsuc 0 else pos c)
        masked t c q p =
            operation w mon.Or I128 count (Minus I128 (Cast I128 above)) later y (turned t) (if t then negsuc 0 else pos c) refl count_has (turned_has t p)
            (ap (λ y. Some (bitwise_or y (turned t))) q ∙ ap Some (or_turned c t))

        small : y ≤ℤ pos 127 → operate mon.Shr I128 x y ≡ Some z
        small le = small_right x y z le e

        with_mask : (u : ℤ) → y ≡ u → (t : Bool) → int_lt (pos 127) y ≡ t → HasNumber w (in_type I128 (type_of_width wr) (Binary mon.Shr I128 (in_type (type_of_width wa) I128 ea) (Binary mon.Or I128 count (Minus I128 (Cast I128 above))))) later z
        with_mask (negsuc c) q t p = let f : value_of (mathematical (shift_right x (negsuc c))) ≡ Some z = subst (λ y. value_of (mathematical (shift_right x y)) ≡ Some z) q e in absurd cc
        with_mask (pos c) q true p =
            let high : 127 ≤ c = omega (arith, ints) in
            shift_has operator.Shr (Binary mon.Or I128 count (Minus I128 (Cast I128 above))) (negsuc 0) (masked true c q p)
            (high_right x z c high ((fits_most wa x fx).sfits) (subst (λ y. value_of (mathematical (shift_right x y)) ≡ Some z) q e))
        with_mask (pos c) q false p =
            let low : y ≤ℤ pos 127 = omega (arith, ints) in
            shift_has operator.Shr (Binary mon.Or I128 count (Minus I128 (Cast I128 above))) (pos c) (masked false c q p) (subst (λ y. operate mon.Shr I128 x y ≡ Some z) q (small low))

        by : (t : Bool) → int_le b.hi (pos 127) ≡ t
            → HasNumber w (in_type I128 (type_of_width wr) (Binary mon.Shr I128 (in_type (type_of_width wa) I128 ea) (if t then count else Binary mon.Or I128 count (Minus I128 (Cast I128 above))))) later z
        by true p = let below = l.below in let le : y ≤ℤ pos 127 = omega (arith, ints) in shift_has operator.Shr count y count_has (small le)
        by false p = with_mask y refl (int_lt (pos 127) y) refl

    pub binary_has : (op : BinOp) (a b r : Range) → binary_range op a b ≡ Some r → LiesIn b y → value_of (compute op x y) ≡ Some z
        → HasNumber w (binary_value op (type_of_width wr) (type_of_width (working op wr wa wb)) (type_of_width wa) (type_of_width wb) b ea eb) later z
    binary_has operator.Add a b r g l e = common_has operator.Add (wrapped (type_of_width in_common) (x +ℤ y) z e kz)
    binary_has operator.Sub a b r g l e = common_has operator.Sub (wrapped (type_of_width in_common) (x -ℤ y) z e kz)
    binary_has operator.Mul a b r g l e = common_has operator.Mul (wrapped (type_of_width in_common) (x *ℤ y) z e kz)
    binary_has operator.Div a b r g l e = common_has operator.Div (divides (int_eq y (pos 0)) (type_of_width in_common) (int_div x y) z e kz)
    binary_has operator.Rem a b r g l e = common_has operator.Rem (divides (int_eq y (pos 0)) (type_of_width in_common) (int_rem x y) z e kz)
    binary_has operator.Shl a b r g l e = shift_has operator.Shl (in_type (type_of_width wb) I128 eb) y count_has (shifted_left x y z (count_small a b r y g l) e (wrap_in W128 z (fits_most wr z fz)))
    binary_has operator.Shr a b r g l e = right_has b l e
    binary_has operator.BitAnd a b r g l e = common_has operator.BitAnd e
    binary_has operator.BitOr a b r g l e = common_has operator.BitOr e
    binary_has operator.BitXor a b r g l e = common_has operator.BitXor e
    binary_has operator.Eq a b r g l e = absurd cc
    binary_has operator.Ne a b r g l e = absurd cc
    binary_has operator.Lt a b r g l e = absurd cc
    binary_has operator.Le a b r g l e = absurd cc
    binary_has operator.Gt a b r g l e = absurd cc
    binary_has operator.Ge a b r g l e = absurd cc

  compared : (r : Relation) (k : MonType) (x y : ℤ) → operate (relation_operator r) k x y ≡ Some (truth (relates r x y))
  compared relation.Eq k x y = refl
  compared relation.Ne k x y = refl
  compared relation.Lt k x y = refl
  compared relation.Le k x y = refl
  compared relation.Gt k x y = refl
  compared relation.Ge k x y = refl

  pub relation_has : (r : Relation) (ea eb : MonExpression) (x y : ℤ) (wa wb : Width) → Fits wa x → Fits wb y → HasNumber w ea later x → HasNumber w eb later y
      → HasNumber w (relation_value r (type_of_width (wider wa wb)) (type_of_width wa) (type_of_width wb) ea eb) later (truth (relates r x y))
  relation_has r ea eb x y wa wb fx fy ha hb =
      let k = type_of_width (wider wa wb) in
      operation w (relation_operator r) k (in_type (type_of_width wa) k ea) (in_type (type_of_width wb) k eb) later x y (truth (relates r x y)) (is_number (wider wa wb))
      (in_type_has w (type_of_width wa) k ea later x (wrap_in (wider wa wb) x (fits_left wa wb x fx)) ha)
      (in_type_has w (type_of_width wb) k eb later y (wrap_in (wider wa wb) y (fits_right wa wb y fy)) hb) (compared r k x y)

  pub unary_has : (op : UnOp) (a r : Range) (e : MonExpression) (x z : ℤ) (wa wr : Width) → unary_range op a ≡ Some r → Fits wa x → Fits wr z → HasNumber w e later x → value_of (compute_one op (Some (Mathematical x))) ≡ Some z
      → HasNumber w (unary_value op (type_of_width wr) (type_of_width (wider wr wa)) (type_of_width wa) e) later z
  unary_has op a r e x z wa wr g fx fz h = by op g
    where
      k : MonType
      k = type_of_width (wider wr wa)

      inner : MonExpression
      inner = in_type (type_of_width wa) k e

      inner_has : HasNumber w inner later x
      inner_has = in_type_has w (type_of_width wa) k e later x (wrap_in (wider wr wa) x (fits_right wr wa x fx)) h

      kz : wrap k z ≡ z
      kz = wrap_in (wider wr wa) z (fits_left wr wa z fz)

      out : (d : MonExpression) → HasNumber w d later z → HasNumber w (in_type k (type_of_width wr) d) later z
      out d p = in_type_has w k (type_of_width wr) d later z (wrap_in wr z fz) p

      made : (f : ℤ → ℤ) → Some (f x) ≡ Some z → bind (bind (Some (Integer x)) integer_of) (λ i. Some (Integer (wrap k (f i)))) ≡ Some (Integer z)
      made f p = ap (λ i. Some (Integer (wrap k i))) (same_number (f x) z p) ∙ ap (λ i. Some (Integer i)) kz

      by : (o : UnOp) → unary_range o a ≡ Some r → value_of (compute_one o (Some (Mathematical x))) ≡ Some z → HasNumber w (unary_value o (type_of_width wr) k (type_of_width wa) e) later z
      by prefix.Plus q p = out inner (inner_has ∙ ap (λ i. Some (Integer i)) (same_number x z p))
      by prefix.Minus q p = out (Minus k inner) (ap (λ q. bind q (λ u. bind (integer_of u) (λ i. Some (Integer (wrap k (neg_ℤ i)))))) inner_has ∙ made neg_ℤ p)
      by prefix.Flip q p = out (Flip k inner) (ap (λ q. bind q (λ u. bind (integer_of u) (λ i. Some (Integer (wrap k (complement i)))))) inner_has ∙ made complement p)
      by prefix.Not q p = absurd cc
      by prefix.Deref q p = absurd cc
      by prefix.Address q p = absurd cc
