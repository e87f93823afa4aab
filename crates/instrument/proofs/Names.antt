-- Names of registers, functions and labels are free, and differ by their numbers.
use Rattle.std.proofs.Common.{◌≡◌, ℕ, zero, suc, ◌+◌, ◌<◌, ◌≤◌, ◌^◌, Bool, true, false, ◌&&◌, ◌||◌, if◌then◌else◌, nat_eq, List, [], ◌∷◌, ◌++◌, length, take, drop, refl, sym, ap, ◌∙◌, subst, arith}
use Rattle.std.specs.Prelude.{bytes_eq, codes}
use Rattle.std.specs.List.{AllByRecursion}
use Rattle.std.specs.Fmt.{decimal}
use Rattle.std.proofs.lemmas.Fmt.{decimal_injective, length-decimal-le, decimal_nonempty, decimal_by_steps}
use Rattle.std.proofs.lemmas.Bool.Decides.{nat_tests}
use Rattle.std.proofs.lemmas.List.{length-take}
use Rattle.std.proofs.lemmas.Nat.{mod_below}
use Rattle.std.proofs.lemmas.Slice.Eq.{bytes_eq-Decides}
use Rattle.std.proofs.Math.Nat.{min-le_left}
use Rattle.c_model.specs.Characters.{is_digit, is_part}
use Rattle.mon_syntax.specs.declared.tree.MonType.{MonType}
use Rattle.mon_syntax.specs.declared.tree.MonType.TheVariants.{I8, U8, I16, U16, I32, U32, I64, U64, I128, Ptr}
use Rattle.mon_syntax.specs.Names.{IsFreeName, is_reserved}
use Rattle.mon_syntax.specs.Names as words
use Rattle.instrument.specs.Translation.{case_label, register_name, pointer_name, temporary_name, function_name, name_of_register, global_name, text_name}
use Rattle.c_simulation.specs.Labels.{end_label, next_label, leave_label}

-- ---- decimal numbers

abbrev AllDigits : List ℕ → Type 0
AllDigits ds = AllByRecursion (λ b. is_digit b ≡ true) ds

abbrev pub AllParts : List ℕ → Type 0
AllParts bs = AllByRecursion (λ b. is_part b ≡ true) bs

digits_end : (ds : List ℕ) (b : ℕ) → AllDigits ds → is_digit b ≡ true → AllDigits (ds ++ b ∷ [])
digits_end [] b h d = (d, tt)
digits_end (x ∷ ds) b h d = (h.0, digits_end ds b h.1 d)

digit_is : (n : ℕ) → n < 10 → is_digit (48 + n) ≡ true
digit_is n lt = grind (arith, nat_tests)

-- the numbers that a name can have
abbrev pub IsNumber : ℕ → Type 0
IsNumber n = n < 2 ^ 64

decimal_digits : (n : ℕ) → IsNumber n → AllDigits (decimal n)
decimal_digits n le = decimal_by_steps (λ k ds. AllDigits ds) (λ k small. (digit_is k small, tt)) (λ k ds ten h. digits_end ds _ h (digit_is _ (mod_below k 10 (omega arith)))) n le

decimal_short : (n : ℕ) → IsNumber n → length (decimal n) ≤ 20
decimal_short n le = length-decimal-le 20 n (omega arith) (omega arith) le

part_of_digit : (b : ℕ) → is_digit b ≡ true → is_part b ≡ true
part_of_digit b h = grind (arith, nat_tests)

digits_parts : (ds : List ℕ) → AllDigits ds → AllParts ds
digits_parts [] h = tt
digits_parts (b ∷ ds) h = (part_of_digit b h.0, digits_parts ds h.1)

parts_behind : (a b : List ℕ) → AllParts a → AllParts b → AllParts (a ++ b)
parts_behind [] b h k = k
parts_behind (x ∷ a) b h k = (h.0, parts_behind a b h.1 k)

parts_front : (n : ℕ) (a : List ℕ) → AllParts a → AllParts (take n a)
parts_front zero a h = tt
parts_front (suc n) [] h = tt
parts_front (suc n) (x ∷ a) h = (h.0, parts_front n a h.1)

unequal : (a b : List ℕ) → (a ≡ b → ⊥) → bytes_eq a b ≡ false
unequal a b differ = go (bytes_eq a b) refl
  where
    go : (r : Bool) → bytes_eq a b ≡ r → bytes_eq a b ≡ false
    go true e = absurd (differ ((bytes_eq-Decides a b).0 e))
    go false e = e

pub same_bytes : (a : List ℕ) → bytes_eq a a ≡ true
same_bytes a = (bytes_eq-Decides a a).1 refl

pub main_is_free : IsFreeName (codes "main")
unfolding words.reserved_words
main_is_free = record { begins = refl; parts = (refl, (refl, (refl, (refl, tt)))); short = omega arith; free = refl }

-- ---- labels

pub end_is_free : (n : ℕ) → IsNumber n → IsFreeName (end_label n)
unfolding words.reserved_words
end_is_free n le =
    let short = decimal_short n le in
    record {
      begins = refl;
      parts = (refl, (refl, (refl, (refl, digits_parts (decimal n) (decimal_digits n le)))));
      short = omega (arith, short);
      free = refl;
    }

pub next_is_free : (n : ℕ) → IsNumber n → IsFreeName (next_label n)
unfolding words.reserved_words
next_is_free n le =
    let short = decimal_short n le in
    record {
      begins = refl;
      parts = (refl, (refl, (refl, (refl, (refl, digits_parts (decimal n) (decimal_digits n le))))));
      short = omega (arith, short);
      free = refl;
    }

pub case_is_free : (n : ℕ) → IsNumber n → IsFreeName (case_label n)
unfolding words.reserved_words
case_is_free n le =
    let short = decimal_short n le in
    record {
      begins = refl;
      parts = (refl, (refl, (refl, (refl, (refl, digits_parts (decimal n) (decimal_digits n le))))));
      short = omega (arith, short);
      free = refl;
    }

pub leave_is_free : IsFreeName leave_label
unfolding words.reserved_words
leave_is_free = record { begins = refl; parts = (refl, (refl, (refl, (refl, (refl, tt))))); short = omega arith; free = refl }

pub ends_differ : (m n : ℕ) → IsNumber m → IsNumber n → (m ≡ n → ⊥) → bytes_eq (end_label m) (end_label n) ≡ false
ends_differ m n lm ln differ = unequal (end_label m) (end_label n) (λ e. differ (decimal_injective m n lm ln (ap (drop 4) e)))

pub nexts_differ : (m n : ℕ) → IsNumber m → IsNumber n → (m ≡ n → ⊥) → bytes_eq (next_label m) (next_label n) ≡ false
nexts_differ m n lm ln differ = unequal (next_label m) (next_label n) (λ e. differ (decimal_injective m n lm ln (ap (drop 5) e)))

-- ---- a letter, a number and a name

-- the digits that a list begins with
abbrev front : List ℕ → List ℕ
front [] = []
front (b ∷ bs) = if is_digit b then b ∷ front bs else []

front_digits : (ds r : List ℕ) (n : ℕ) → AllDigits ds → length ds < n → front (take n (ds ++ 95 ∷ r)) ≡ ds
front_digits [] r zero h lt = absurd (omega arith)
front_digits [] r (suc n) h lt = refl
front_digits (d ∷ ds) r zero h lt = absurd (omega arith)
front_digits (d ∷ ds) r (suc n) h lt =
    ap (λ t. if t then d ∷ front (take n (ds ++ 95 ∷ r)) else []) h.0 ∙ ap (λ l. d ∷ l) (front_digits ds r n h.1 (omega arith))

abbrev numbered : ℕ → ℕ → List ℕ → List ℕ
numbered letter k name = take 255 (letter ∷ (decimal k ++ (95 ∷ name)))

number_of_name : (letter k : ℕ) (name : List ℕ) → IsNumber k → front (drop 1 (numbered letter k name)) ≡ decimal k
number_of_name letter k name le = let short = decimal_short k le in front_digits (decimal k) name 254 (decimal_digits k le) (omega (arith, short))

numbered_differ : (letter j k : ℕ) (a b : List ℕ) → IsNumber j → IsNumber k → (j ≡ k → ⊥) → bytes_eq (numbered letter j a) (numbered letter k b) ≡ false
numbered_differ letter j k a b lj lk differ =
    unequal (numbered letter j a) (numbered letter k b) (λ e. differ (decimal_injective j k lj lk (sym (number_of_name letter j a lj) ∙ ap (λ l. front (drop 1 l)) e ∙ number_of_name letter k b lk)))

numbered_parts : (letter k : ℕ) (name : List ℕ) → is_part letter ≡ true → IsNumber k → AllParts name → AllParts (numbered letter k name)
numbered_parts letter k name is le h = parts_front 255 (letter ∷ (decimal k ++ (95 ∷ name))) (is, parts_behind (decimal k) (95 ∷ name) (digits_parts (decimal k) (decimal_digits k le)) (refl, h))

numbered_short : (letter k : ℕ) (name : List ℕ) → length (numbered letter k name) ≤ 255
numbered_short letter k name = subst (λ n. n ≤ 255) (sym (length-take 255 (letter ∷ (decimal k ++ (95 ∷ name))))) (min-le_left 255 _)

-- ---- registers of values

first_is_other : (a b : Bool) → a ≡ false → (a && b) || false ≡ false
first_is_other a b h = ap (λ r. (r && b) || false) h

-- no word begins with `v` and a digit
digit_not_reserved : (d : ℕ) (l : List ℕ) → is_digit d ≡ true → is_reserved (118 ∷ d ∷ l) ≡ false
unfolding words.reserved_words
digit_not_reserved d l h =
    let other : nat_eq d 111 ≡ false = grind (arith, nat_tests) in
    first_is_other (nat_eq d 111) _ other

number_not_reserved : (ds r : List ℕ) → 0 < length ds → AllDigits ds → is_reserved (118 ∷ take 254 (ds ++ r)) ≡ false
number_not_reserved [] r lt h = absurd (omega arith)
number_not_reserved (d ∷ ds) r lt h = digit_not_reserved d (take 253 (ds ++ r)) h.0

pub registers_differ : (j k : ℕ) (a b : List ℕ) → IsNumber j → IsNumber k → (j ≡ k → ⊥) → bytes_eq (register_name j a) (register_name k b) ≡ false
registers_differ j k a b lj lk differ = numbered_differ 118 j k a b lj lk differ

pub register_is_free : (k : ℕ) (name : List ℕ) → IsNumber k → AllParts name → IsFreeName (register_name k name)
register_is_free k name le h = record {
  begins = refl;
  parts = numbered_parts 118 k name refl le h;
  short = numbered_short 118 k name;
  free = number_not_reserved (decimal k) (codes "_" ++ name) (decimal_nonempty k le) (decimal_digits k le);
}

-- ---- functions

-- no word begins with `f`
function_not_reserved : (l : List ℕ) → is_reserved (102 ∷ l) ≡ false
unfolding words.reserved_words
function_not_reserved l = refl

pub functions_differ : (j k : ℕ) (a b : List ℕ) → IsNumber j → IsNumber k → (j ≡ k → ⊥) → bytes_eq (function_name j a) (function_name k b) ≡ false
functions_differ j k a b lj lk differ = numbered_differ 102 j k a b lj lk differ

pub function_is_free : (k : ℕ) (name : List ℕ) → IsNumber k → AllParts name → IsFreeName (function_name k name)
function_is_free k name le h = record {
  begins = refl;
  parts = numbered_parts 102 k name refl le h;
  short = numbered_short 102 k name;
  free = function_not_reserved (take 254 (decimal k ++ (95 ∷ name)));
}

-- ---- registers that point to blocks

both_are_other : (a b x y : Bool) → a ≡ false → b ≡ false → (a && x) || ((b && y) || false) ≡ false
both_are_other a b x y g h = ap (λ r. (r && x) || ((b && y) || false)) g ∙ ap (λ r. (r && y) || false) h

-- no word begins with `p` and a digit
pointer_digit : (d : ℕ) (l : List ℕ) → is_digit d ≡ true → is_reserved (112 ∷ d ∷ l) ≡ false
unfolding words.reserved_words
pointer_digit d l h =
    let t : nat_eq d 116 ≡ false = grind (arith, nat_tests) in
    let u : nat_eq d 117 ≡ false = grind (arith, nat_tests) in
    both_are_other (nat_eq d 116) (nat_eq d 117) _ _ t u

pointer_not_reserved : (ds : List ℕ) → 0 < length ds → AllDigits ds → is_reserved (112 ∷ ds) ≡ false
pointer_not_reserved [] lt h = absurd (omega arith)
pointer_not_reserved (d ∷ ds) lt h = pointer_digit d ds h.0

pub pointer_is_free : (k : ℕ) → IsNumber k → IsFreeName (pointer_name k)
pointer_is_free k le =
    let short = decimal_short k le in
    record {
      begins = refl;
      parts = (refl, digits_parts (decimal k) (decimal_digits k le));
      short = omega (arith, short);
      free = pointer_not_reserved (decimal k) (decimal_nonempty k le) (decimal_digits k le);
    }

pub pointers_differ : (j k : ℕ) → IsNumber j → IsNumber k → (j ≡ k → ⊥) → bytes_eq (pointer_name j) (pointer_name k) ≡ false
pointers_differ j k lj lk differ = unequal (pointer_name j) (pointer_name k) (λ e. differ (decimal_injective j k lj lk (ap (drop 1) e)))

-- ---- temporary registers

-- no word begins with `t` and a digit
temporary_not_reserved : (ds : List ℕ) → 0 < length ds → AllDigits ds → is_reserved (116 ∷ ds) ≡ false
unfolding words.reserved_words
temporary_not_reserved [] lt h = absurd (omega arith)
temporary_not_reserved (d ∷ ds) lt h = refl

pub temporary_is_free : (k : ℕ) → IsNumber k → IsFreeName (temporary_name k)
temporary_is_free k le =
    let short = decimal_short k le in
    record {
      begins = refl;
      parts = (refl, digits_parts (decimal k) (decimal_digits k le));
      short = omega (arith, short);
      free = temporary_not_reserved (decimal k) (decimal_nonempty k le) (decimal_digits k le);
    }

pub temporaries_differ : (j k : ℕ) → IsNumber j → IsNumber k → (j ≡ k → ⊥) → bytes_eq (temporary_name j) (temporary_name k) ≡ false
temporaries_differ j k lj lk differ = unequal (temporary_name j) (temporary_name k) (λ e. differ (decimal_injective j k lj lk (ap (drop 1) e)))

-- ---- registers that are no arguments

-- they are named by their numbers, pointers by a letter of their own
pub named_free : (k : ℕ) (t : MonType) → IsNumber k → IsFreeName (name_of_register k t)
named_free k I8 le = temporary_is_free k le
named_free k U8 le = temporary_is_free k le
named_free k I16 le = temporary_is_free k le
named_free k U16 le = temporary_is_free k le
named_free k I32 le = temporary_is_free k le
named_free k U32 le = temporary_is_free k le
named_free k I64 le = temporary_is_free k le
named_free k U64 le = temporary_is_free k le
named_free k I128 le = temporary_is_free k le
named_free k Ptr le = pointer_is_free k le

-- what a register that is no argument is named
pub data IsNamed (k : ℕ) (t : MonType) : Type 0 where
  AsPointer : name_of_register k t ≡ pointer_name k → IsNamed k t
  AsTemporary : name_of_register k t ≡ temporary_name k → IsNamed k t

pub is_named : (k : ℕ) (t : MonType) → IsNamed k t
is_named k I8 = AsTemporary refl
is_named k U8 = AsTemporary refl
is_named k I16 = AsTemporary refl
is_named k U16 = AsTemporary refl
is_named k I32 = AsTemporary refl
is_named k U32 = AsTemporary refl
is_named k I64 = AsTemporary refl
is_named k U64 = AsTemporary refl
is_named k I128 = AsTemporary refl
is_named k Ptr = AsPointer refl

pub named_differ : (j k : ℕ) (t u : MonType) → IsNumber j → IsNumber k → (j ≡ k → ⊥) → bytes_eq (name_of_register j t) (name_of_register k u) ≡ false
named_differ j k t u lj lk differ = by (is_named j t) (is_named k u)
  where
    both : (a b : List ℕ) → name_of_register j t ≡ a → name_of_register k u ≡ b → bytes_eq a b ≡ false → bytes_eq (name_of_register j t) (name_of_register k u) ≡ false
    both a b x y e = ap (λ w. bytes_eq w (name_of_register k u)) x ∙ ap (bytes_eq a) y ∙ e

    by : IsNamed j t → IsNamed k u → bytes_eq (name_of_register j t) (name_of_register k u) ≡ false
    by (AsPointer x) (AsPointer y) = both (pointer_name j) (pointer_name k) x y (pointers_differ j k lj lk differ)
    by (AsPointer x) (AsTemporary y) = both (pointer_name j) (temporary_name k) x y refl
    by (AsTemporary x) (AsPointer y) = both (temporary_name j) (pointer_name k) x y refl
    by (AsTemporary x) (AsTemporary y) = both (temporary_name j) (temporary_name k) x y (temporaries_differ j k lj lk differ)

-- and have letters that arguments haven't
pub named_no_value : (j k : ℕ) (t : MonType) (name : List ℕ) → bytes_eq (name_of_register j t) (register_name k name) ≡ false
named_no_value j k t name = by (is_named j t)
  where
    by : IsNamed j t → bytes_eq (name_of_register j t) (register_name k name) ≡ false
    by (AsPointer x) = ap (λ w. bytes_eq w (register_name k name)) x
    by (AsTemporary x) = ap (λ w. bytes_eq w (register_name k name)) x

-- ---- globals and literals

-- no word begins with `g` and a digit
global_digit : (d : ℕ) (l : List ℕ) → is_digit d ≡ true → is_reserved (103 ∷ d ∷ l) ≡ false
unfolding words.reserved_words
global_digit d l h =
    let t : nat_eq d 111 ≡ false = grind (arith, nat_tests) in
    let u : nat_eq d 101 ≡ false = grind (arith, nat_tests) in
    both_are_other (nat_eq d 111) (nat_eq d 101) _ _ t u

global_not_reserved : (ds r : List ℕ) → 0 < length ds → AllDigits ds → is_reserved (103 ∷ take 254 (ds ++ r)) ≡ false
global_not_reserved [] r lt h = absurd (omega arith)
global_not_reserved (d ∷ ds) r lt h = global_digit d (take 253 (ds ++ r)) h.0

pub globals_differ : (j k : ℕ) (a b : List ℕ) → IsNumber j → IsNumber k → (j ≡ k → ⊥) → bytes_eq (global_name j a) (global_name k b) ≡ false
globals_differ j k a b lj lk differ = numbered_differ 103 j k a b lj lk differ

pub global_is_free : (k : ℕ) (name : List ℕ) → IsNumber k → AllParts name → IsFreeName (global_name k name)
global_is_free k name le h = record {
  begins = refl;
  parts = numbered_parts 103 k name refl le h;
  short = numbered_short 103 k name;
  free = global_not_reserved (decimal k) (codes "_" ++ name) (decimal_nonempty k le) (decimal_digits k le);
}

-- nor with `s` and a digit
text_digit : (d : ℕ) (l : List ℕ) → is_digit d ≡ true → is_reserved (115 ∷ d ∷ l) ≡ false
unfolding words.reserved_words
text_digit d l h =
    let other : nat_eq d 116 ≡ false = grind (arith, nat_tests) in
    first_is_other (nat_eq d 116) _ other

text_not_reserved : (ds : List ℕ) → 0 < length ds → AllDigits ds → is_reserved (115 ∷ ds) ≡ false
text_not_reserved [] lt h = absurd (omega arith)
text_not_reserved (d ∷ ds) lt h = text_digit d ds h.0

pub text_is_free : (k : ℕ) → IsNumber k → IsFreeName (text_name k)
text_is_free k le =
    let short = decimal_short k le in
    record {
      begins = refl;
      parts = (refl, digits_parts (decimal k) (decimal_digits k le));
      short = omega (arith, short);
      free = text_not_reserved (decimal k) (decimal_nonempty k le) (decimal_digits k le);
    }

pub texts_differ : (j k : ℕ) → IsNumber j → IsNumber k → (j ≡ k → ⊥) → bytes_eq (text_name j) (text_name k) ≡ false
texts_differ j k lj lk differ = unequal (text_name j) (text_name k) (λ e. differ (decimal_injective j k lj lk (ap (drop 1) e)))

pub text_no_global : (j k : ℕ) (name : List ℕ) → bytes_eq (text_name j) (global_name k name) ≡ false
text_no_global j k name = refl

pub global_no_text : (j k : ℕ) (name : List ℕ) → bytes_eq (global_name j name) (text_name k) ≡ false
global_no_text j k name = refl

-- registers have letters that these haven't
pub register_no_global : (j k : ℕ) (a b : List ℕ) → bytes_eq (register_name j a) (global_name k b) ≡ false
register_no_global j k a b = refl

pub register_no_text : (j k : ℕ) (a : List ℕ) → bytes_eq (register_name j a) (text_name k) ≡ false
register_no_text j k a = refl

pub named_no_global : (j k : ℕ) (t : MonType) (b : List ℕ) → bytes_eq (name_of_register j t) (global_name k b) ≡ false
named_no_global j k t b = by (is_named j t)
  where
    by : IsNamed j t → bytes_eq (name_of_register j t) (global_name k b) ≡ false
    by (AsPointer x) = ap (λ w. bytes_eq w (global_name k b)) x
    by (AsTemporary x) = ap (λ w. bytes_eq w (global_name k b)) x

pub named_no_text : (j k : ℕ) (t : MonType) → bytes_eq (name_of_register j t) (text_name k) ≡ false
named_no_text j k t = by (is_named j t)
  where
    by : IsNamed j t → bytes_eq (name_of_register j t) (text_name k) ≡ false
    by (AsPointer x) = ap (λ w. bytes_eq w (text_name k)) x
    by (AsTemporary x) = ap (λ w. bytes_eq w (text_name k)) x
