-- Registers compute what the source does, where that is defined: results of a type, conversions and operators.
use Rattle.std.proofs.Common.{◌≡◌, ℕ, suc, ◌-◌, ◌%◌, ◌<◌, ◌^◌, ℤ, pos, negsuc, neg_ℤ, ◌+ℤ◌, ◌-ℤ◌, ◌*ℤ◌, Bool, true, false, not, ◌&&◌, ◌||◌, nat_lt, nat_le, int_div, int_rem, int_le, if◌then◌else◌, Option, Some, None, refl, sym, ap, ◌∙◌, arith}
use Rattle.std.proofs.lemmas.Int.{ints}
use Rattle.std.proofs.lemmas.Bool.{ltb-true, lt-ltb}
use Rattle.std.proofs.lemmas.Bool.Decides.{nat_tests}
use Rattle.std.proofs.Math.Nat.{mod-eq_of_lt}
use Rattle.std.specs.Ordering.{int_eq}
use Rattle.c_syntax.specs.declared.types.CInt.{CInt}
use Rattle.c_syntax.specs.declared.types.CInt.TheVariants.{I8, U8, I16, U16, I32, U32, I64, U64}
use Rattle.c_syntax.specs.declared.expression.UnOp.TheVariants as prefix
use Rattle.c_syntax.specs.declared.expression.BinOp.{BinOp}
use Rattle.c_syntax.specs.declared.expression.BinOp.TheVariants.{Add, Sub, Mul, Div, Rem, Shl, Shr, BitAnd, BitOr, BitXor, Eq, Ne, Lt, Le, Gt, Ge}
use Rattle.c_model.specs.Integers as source
use Rattle.c_model.specs.Integers.{is_signed, fits, convert, result_in, result_of, truth, is_count, is_negative, remainder_in, operate_in, operate_one_in}
use Rattle.c_model.specs.Operators.{quotient, shift_left, shift_right, complement, floor_quotient}
use Rattle.c_model.specs.Conversions.{promoted, is_shift}
use Rattle.c_model.proofs.OperatorResults.{fits-operate_in}
use Rattle.c_model.proofs.TypedParts.{and_true}
use Rattle.mon_syntax.specs.declared.tree.MonOp.{MonOp}
use Rattle.mon_syntax.specs.declared.tree.MonOp.TheVariants as mon
use Rattle.mon_syntax.specs.declared.tree.MonType.{MonType}
use Rattle.mon_syntax.specs.declared.tree.MonType.TheVariants as kind
use Rattle.mon_syntax.specs.Arithmetic.{is_pointer, wrap, operate, minus, flipped, divided, shift_count}
use Rattle.mon_syntax.specs.Arithmetic as register
use Rattle.mon_syntax.specs.Checking.{same_type}
use Rattle.mon_syntax.specs.Valid.{is_arithmetic, is_relation, is_sum, is_difference, has_operator, second_type, result_type}
use Rattle.mon_syntax.proofs.Wrapping.{wrap-fitting}
use Rattle.c_effects.specs.Expressions.{register_type, operand_type, operator_of}

-- ---- conversions are wraps

signed_bits : (h n m : ℕ) (v : ℤ) → (nat_lt m h ≡ true → v ≡ pos m) → (nat_lt m h ≡ false → v ≡ negsuc (n - suc m)) → (if nat_le h m then negsuc (n - suc m) else pos m) ≡ v
signed_bits h n m v low high = by (nat_lt m h) (nat_le h m) refl refl
  where
    by : (s t : Bool) → nat_lt m h ≡ s → nat_le h m ≡ t → (if t then negsuc (n - suc m) else pos m) ≡ v
    by true true e f = absurd (grind (arith, nat_tests))
    by true false e f = sym (low e)
    by false true e f = sym (high e)
    by false false e f = absurd (grind (arith, nat_tests))

one_less : (g m : ℕ) → suc g - suc m ≡ g - m
one_less g m = omega arith

-- a number converted to a type of the source wraps
pub convert_is : (k : CInt) (z : ℤ) → convert k z ≡ wrap (register_type k) z
convert_is I8 (pos n) = signed_bits 128 256 (n % 256) (wrap kind.I8 (pos n)) (λ e. rw e refl) (λ e. rw e refl)
convert_is I8 (negsuc n) =
    ap (λ m. if nat_le 128 m then negsuc (256 - suc m) else pos m) (one_less 255 (n % 256))
    ∙ signed_bits 128 256 (255 - n % 256) (wrap kind.I8 (negsuc n)) (λ e. rw e refl) (λ e. rw e refl)
convert_is U8 (pos n) = refl
convert_is U8 (negsuc n) = ap pos (one_less 255 (n % 256))
convert_is I16 (pos n) = signed_bits 32768 65536 (n % 65536) (wrap kind.I16 (pos n)) (λ e. rw e refl) (λ e. rw e refl)
convert_is I16 (negsuc n) =
    ap (λ m. if nat_le 32768 m then negsuc (65536 - suc m) else pos m) (one_less 65535 (n % 65536))
    ∙ signed_bits 32768 65536 (65535 - n % 65536) (wrap kind.I16 (negsuc n)) (λ e. rw e refl) (λ e. rw e refl)
convert_is U16 (pos n) = refl
convert_is U16 (negsuc n) = ap pos (one_less 65535 (n % 65536))
convert_is I32 (pos n) = signed_bits 2147483648 4294967296 (n % 4294967296) (wrap kind.I32 (pos n)) (λ e. rw e refl) (λ e. rw e refl)
convert_is I32 (negsuc n) =
    ap (λ m. if nat_le 2147483648 m then negsuc (4294967296 - suc m) else pos m) (one_less 4294967295 (n % 4294967296))
    ∙ signed_bits 2147483648 4294967296 (4294967295 - n % 4294967296) (wrap kind.I32 (negsuc n)) (λ e. rw e refl) (λ e. rw e refl)
convert_is U32 (pos n) = refl
convert_is U32 (negsuc n) = ap pos (one_less 4294967295 (n % 4294967296))
convert_is I64 (pos n) = signed_bits 9223372036854775808 18446744073709551616 (n % 18446744073709551616) (wrap kind.I64 (pos n)) (λ e. rw e refl) (λ e. rw e refl)
convert_is I64 (negsuc n) =
    ap (λ m. if nat_le 9223372036854775808 m then negsuc (18446744073709551616 - suc m) else pos m) (one_less 18446744073709551615 (n % 18446744073709551616))
    ∙ signed_bits 9223372036854775808 18446744073709551616 (18446744073709551615 - n % 18446744073709551616) (wrap kind.I64 (negsuc n)) (λ e. rw e refl) (λ e. rw e refl)
convert_is U64 (pos n) = refl
convert_is U64 (negsuc n) = ap pos (one_less 18446744073709551615 (n % 18446744073709551616))

-- ---- values of a type

number_fits : (g n : ℕ) → n < suc g → (int_le (pos 0) (pos n) && int_le (pos n) (pos g)) ≡ true
number_fits g n l = grind (arith, ints)

signed_fits : (g n : ℕ) → n < suc g → (int_le (negsuc g) (pos n) && int_le (pos n) (pos g)) ≡ true
signed_fits g n l = grind (arith, ints)

negative_fits : (g n : ℕ) → n < suc g → (int_le (negsuc g) (negsuc n) && int_le (negsuc n) (pos g)) ≡ true
negative_fits g n l = grind (arith, ints)

pub register_fits : (k : CInt) (z : ℤ) → fits k z ≡ true → register.fits (register_type k) z ≡ true
register_fits I8 (pos n) e = signed_fits 127 n (ltb-true _ _ e)
register_fits I8 (negsuc n) e = negative_fits 127 n (ltb-true _ _ e)
register_fits U8 (pos n) e = number_fits 255 n (ltb-true _ _ e)
register_fits U8 (negsuc n) e = absurd cc
register_fits I16 (pos n) e = signed_fits 32767 n (ltb-true _ _ e)
register_fits I16 (negsuc n) e = negative_fits 32767 n (ltb-true _ _ e)
register_fits U16 (pos n) e = number_fits 65535 n (ltb-true _ _ e)
register_fits U16 (negsuc n) e = absurd cc
register_fits I32 (pos n) e = signed_fits 2147483647 n (ltb-true _ _ e)
register_fits I32 (negsuc n) e = negative_fits 2147483647 n (ltb-true _ _ e)
register_fits U32 (pos n) e = number_fits 4294967295 n (ltb-true _ _ e)
register_fits U32 (negsuc n) e = absurd cc
register_fits I64 (pos n) e = signed_fits 9223372036854775807 n (ltb-true _ _ e)
register_fits I64 (negsuc n) e = negative_fits 9223372036854775807 n (ltb-true _ _ e)
register_fits U64 (pos n) e = number_fits 18446744073709551615 n (ltb-true _ _ e)
register_fits U64 (negsuc n) e = absurd cc

pub wrap_is : (k : CInt) (z : ℤ) → fits k z ≡ true → wrap (register_type k) z ≡ z
wrap_is k z f = wrap-fitting (register_type k) z (register_fits k z f)

-- a value of a type is one of its promoted type
pub promoted_fits : (k : CInt) (z : ℤ) → fits k z ≡ true → fits (promoted k) z ≡ true
promoted_fits I8 (pos n) e = lt-ltb _ _ (omega (arith, ltb-true n 128 e))
promoted_fits I8 (negsuc n) e = lt-ltb _ _ (omega (arith, ltb-true n 128 e))
promoted_fits U8 (pos n) e = lt-ltb _ _ (omega (arith, ltb-true n 256 e))
promoted_fits U8 (negsuc n) e = absurd cc
promoted_fits I16 (pos n) e = lt-ltb _ _ (omega (arith, ltb-true n 32768 e))
promoted_fits I16 (negsuc n) e = lt-ltb _ _ (omega (arith, ltb-true n 32768 e))
promoted_fits U16 (pos n) e = lt-ltb _ _ (omega (arith, ltb-true n 65536 e))
promoted_fits U16 (negsuc n) e = absurd cc
promoted_fits I32 z e = e
promoted_fits U32 z e = e
promoted_fits I64 z e = e
promoted_fits U64 z e = e

pub operand_is : (k : CInt) → operand_type (register_type k) ≡ register_type (promoted k)
operand_is I8 = refl
operand_is U8 = refl
operand_is I16 = refl
operand_is U16 = refl
operand_is I32 = refl
operand_is U32 = refl
operand_is I64 = refl
operand_is U64 = refl

-- no register of a value holds a pointer
pub is_number : (k : CInt) → is_pointer (register_type k) ≡ false
is_number I8 = refl
is_number U8 = refl
is_number I16 = refl
is_number U16 = refl
is_number I32 = refl
is_number U32 = refl
is_number I64 = refl
is_number U64 = refl

-- what operators on numbers give and take
pub number_result : (op : MonOp) (t : MonType) → is_pointer t ≡ false → result_type op t ≡ (if is_relation op then kind.I32 else t)
number_result op t plain = ap (λ p. if is_relation op then kind.I32 else (if p && is_difference op then kind.I64 else t)) plain

pub number_second : (op : MonOp) (t : MonType) → is_pointer t ≡ false → second_type op t ≡ t
number_second op t plain = ap (λ p. if p && is_sum op then kind.I64 else t) plain

pub number_operator : (op : MonOp) (t : MonType) → is_pointer t ≡ false → has_operator op t ≡ is_arithmetic t
number_operator op t plain = ap (λ p. if p then is_sum op || (is_difference op || is_relation op) else is_arithmetic t) plain

pub operand_number : (k : CInt) → is_pointer (operand_type (register_type k)) ≡ false
operand_number k = ap is_pointer (operand_is k) ∙ is_number (promoted k)

pub same_kind : (k l : CInt) → same_type (register_type k) (register_type l) ≡ true → k ≡ l
same_kind I8 I8 e = refl
same_kind U8 U8 e = refl
same_kind I16 I16 e = refl
same_kind U16 U16 e = refl
same_kind I32 I32 e = refl
same_kind U32 U32 e = refl
same_kind I64 I64 e = refl
same_kind U64 U64 e = refl
same_kind _ _ e = absurd cc

pub truth_fits : (b : Bool) → fits I32 (truth b) ≡ true
truth_fits true = refl
truth_fits false = refl

-- ---- results

-- a defined result is what the register gets
pub result_wraps : (k : CInt) (z v : ℤ) → result_in k z ≡ Some v → wrap (register_type k) z ≡ v
result_wraps k z v h = by (is_signed k) (fits k z) refl h
  where
    by : (s t : Bool) → fits k z ≡ t → (if s then (if t then Some z else None) else Some (convert k z)) ≡ Some v → wrap (register_type k) z ≡ v
    by true true e h = let same : z ≡ v = cc in wrap_is k z e ∙ same
    by true false e h = absurd cc
    by false t e h = let same : convert k z ≡ v = cc in sym (convert_is k z) ∙ same

if_true : (t : Bool) (o : Option ℤ) (v : ℤ) → (if t then o else None) ≡ Some v → (t ≡ true) × (o ≡ Some v)
if_true true o v h = (refl, h)
if_true false o v h = absurd cc

-- ---- division

divides : (k : CInt) (x y v : ℤ) → result_of k (quotient x y) ≡ Some v → divided int_div (register_type k) x y ≡ Some v
divides k x y v h = by (int_eq y (pos 0)) h
  where
    by : (t : Bool) → result_of k (if t then None else Some (int_div x y)) ≡ Some v → (if t then None else Some (wrap (register_type k) (int_div x y))) ≡ Some v
    by true h = absurd cc
    by false h = ap Some (result_wraps k (int_div x y) v h)

leaves_rest : (k : CInt) (x y v : ℤ) → fits k v ≡ true → remainder_in k x y ≡ Some v → divided int_rem (register_type k) x y ≡ Some v
leaves_rest k x y v f h = by (int_eq y (pos 0)) h
  where
    by : (t : Bool) → elim (result_of k (if t then None else Some (int_div x y))) [ None ↦ None | Some q ↦ if t then None else Some (int_rem x y) ] ≡ Some v → (if t then None else Some (wrap (register_type k) (int_rem x y))) ≡ Some v
    by true h = absurd cc
    by false h = some (result_of k (Some (int_div x y))) h
      where
        some : (o : Option ℤ) → elim o [ None ↦ None | Some q ↦ Some (int_rem x y) ] ≡ Some v → Some (wrap (register_type k) (int_rem x y)) ≡ Some v
        some None h = absurd cc
        some (Some q) h = let same : int_rem x y ≡ v = cc in ap Some (ap (wrap (register_type k)) same ∙ wrap_is k v f)

-- ---- shifts

bits_of_type : (k : CInt) → register.bit_count (register_type k) ≡ source.width k
bits_of_type I8 = refl
bits_of_type U8 = refl
bits_of_type I16 = refl
bits_of_type U16 = refl
bits_of_type I32 = refl
bits_of_type U32 = refl
bits_of_type I64 = refl
bits_of_type U64 = refl

count_below : (k : CInt) (n : ℕ) → is_count k (pos n) ≡ true → n < source.width k
count_below k n h = omega (arith, ltb-true n (source.width k) h)

-- a count of bits of the type is a value of it
count_small : (k : CInt) (n : ℕ) → n < source.width k → fits k (pos n) ≡ true
count_small I8 n l = lt-ltb _ _ (omega (arith, l))
count_small U8 n l = lt-ltb _ _ (omega (arith, l))
count_small I16 n l = lt-ltb _ _ (omega (arith, l))
count_small U16 n l = lt-ltb _ _ (omega (arith, l))
count_small I32 n l = lt-ltb _ _ (omega (arith, l))
count_small U32 n l = lt-ltb _ _ (omega (arith, l))
count_small I64 n l = lt-ltb _ _ (omega (arith, l))
count_small U64 n l = lt-ltb _ _ (omega (arith, l))

count_is : (k : CInt) (n : ℕ) → n < source.width k → shift_count (register_type k) (pos n) ≡ n
count_is k n l = ap (λ m. n % m) (bits_of_type k) ∙ mod-eq_of_lt l

shifts_left : (k : CInt) (x y v : ℤ) → operate_in k Shl x y ≡ Some v → operate mon.Shl (register_type k) x y ≡ Some v
shifts_left k x (pos n) v h =
    let parts = if_true (is_count k (pos n) && not (is_negative x)) (result_of k (shift_left x (pos n))) v h in
    let small = count_below k n (and_true _ _ parts.0).0 in
    ap (λ c. Some (wrap (register_type k) (x *ℤ pos (2 ^ c)))) (count_is k n small) ∙ ap Some (result_wraps k (x *ℤ pos (2 ^ n)) v parts.1)
shifts_left k x (negsuc n) v h = absurd cc

shifts_right : (k : CInt) (x y v : ℤ) → operate_in k Shr x y ≡ Some v → operate mon.Shr (register_type k) x y ≡ Some v
shifts_right k x (pos n) v h =
    let parts = if_true (is_count k (pos n)) (shift_right x (pos n)) v h in
    ap (λ c. Some (floor_quotient x (2 ^ c))) (count_is k n (count_below k n parts.0)) ∙ parts.1
shifts_right k x (negsuc n) v h = absurd cc

-- a count where a shift is defined is a value of the left side's type
pub count_fits : (k : CInt) (op : BinOp) (x y v : ℤ) → is_shift op ≡ true → operate_in k op x y ≡ Some v → fits k y ≡ true
count_fits k Shl x (pos n) v s h = count_small k n (count_below k n (and_true _ _ (if_true (is_count k (pos n) && not (is_negative x)) (result_of k (shift_left x (pos n))) v h).0).0)
count_fits k Shl x (negsuc n) v s h = absurd cc
count_fits k Shr x (pos n) v s h = count_small k n (count_below k n (if_true (is_count k (pos n)) (shift_right x (pos n)) v h).0)
count_fits k Shr x (negsuc n) v s h = absurd cc
count_fits k _ x y v s h = absurd cc

-- ---- operators

pub operated : (k : CInt) (op : BinOp) (x y v : ℤ) → fits k x ≡ true → (is_shift op ≡ false → fits k y ≡ true) → operate_in k op x y ≡ Some v → operate (operator_of op) (register_type k) x y ≡ Some v
operated k Add x y v f g h = ap Some (result_wraps k (x +ℤ y) v h)
operated k Sub x y v f g h = ap Some (result_wraps k (x -ℤ y) v h)
operated k Mul x y v f g h = ap Some (result_wraps k (x *ℤ y) v h)
operated k Div x y v f g h = divides k x y v h
operated k Rem x y v f g h = leaves_rest k x y v (fits-operate_in k Rem x y v f g h) h
operated k Shl x y v f g h = shifts_left k x y v h
operated k Shr x y v f g h = shifts_right k x y v h
operated k BitAnd x y v f g h = h
operated k BitOr x y v f g h = h
operated k BitXor x y v f g h = h
operated k Eq x y v f g h = h
operated k Ne x y v f g h = h
operated k Lt x y v f g h = h
operated k Le x y v f g h = h
operated k Gt x y v f g h = h
operated k Ge x y v f g h = h

minus_is : (x : ℤ) → pos 0 -ℤ x ≡ neg_ℤ x
minus_is x = omega (arith, ints)

pub negated : (k : CInt) (x v : ℤ) → operate_one_in k prefix.Minus x ≡ Some v → minus (register_type k) x ≡ v
negated k x v h = ap (wrap (register_type k)) (sym (minus_is x)) ∙ result_wraps k (pos 0 -ℤ x) v h

pub flips : (k : CInt) (x v : ℤ) → operate_one_in k prefix.Flip x ≡ Some v → flipped (register_type k) x ≡ v
flips k x v h = result_wraps k (complement x) v h
