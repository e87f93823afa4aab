-- Each piece of a valid program's text stands alone.
use Rattle.std.proofs.Common.{◌≡◌, ℕ, zero, suc, ◌+◌, ◌*◌, ◌^◌, ◌<◌, ◌≤◌, Bool, true, false, not, ◌&&◌, ◌||◌, eqb, leb, List, [], ◌∷◌, ◌++◌, length, map, replicate, slice_get, codes, ℤ, pos, negsuc, neg_ℤ, int_le, Option, Some, None, refl, sym, ap}
use Rattle.std.proofs.Common.{subst, ◌∙◌, arith, true≢false, append_assoc}
use Rattle.std.specs.Prelude.{bytes_eq, if◌then◌else◌}
use Rattle.std.specs.Ordering.{int_eq}
use Rattle.std.specs.Fmt.{decimal}
use Rattle.std.specs.Str.Parse.{AllDigits}
use Rattle.std.proofs.lemmas.Fmt.{decimal_is_IsNumeral_wide}
use Rattle.std.proofs.lemmas.Str.Parse.{digit_from_value}
use Rattle.std.specs.List.{list_all, AllByRecursion}
use Rattle.std.proofs.lemmas.Bool.{eqb-true, le-leb}
use Rattle.std.proofs.lemmas.Bool.Decides.{nat_tests}
use Rattle.std.proofs.lemmas.Int.{ints}
use Rattle.c_syntax.specs.declared.annotation.Kind.{Kind}
use Rattle.c_syntax.specs.declared.annotation.Kind.TheVariants as the_kind
use Rattle.c_model.specs.Reports.{kind_word}
use Rattle.c_model.specs.Characters.{is_blank, is_nondigit, is_part, in_literal}
use Rattle.c_model.specs.MonitoredTokens.{greatest_literal, marks, piece_at}
use Rattle.c_model.specs.MonitoredTokenLaws.{Stops}
use Rattle.c_model.proofs.Spelling.{and_true}
use Rattle.mon_syntax.specs.declared.tree.MonType.{MonType}
use Rattle.mon_syntax.specs.declared.tree.MonType.TheVariants.{I8, U8, I16, U16, I32, U32, I64, U64, I128, Ptr}
use Rattle.mon_syntax.specs.declared.tree.MemoryCall.{MemoryCall}
use Rattle.mon_syntax.specs.declared.tree.MemoryCall.TheVariants as memory_call
use Rattle.mon_syntax.specs.declared.tree.AccessSize.{AccessSize}
use Rattle.mon_syntax.specs.declared.tree.CopySize.{CopySize}
use Rattle.mon_syntax.specs.declared.tree.CopySize.TheVariants as copy_size
use Rattle.mon_syntax.specs.declared.tree.AccessSize.TheVariants.{One, Two, Four, Eight, Sixteen}
use Rattle.mon_syntax.specs.declared.tree.MonOp.{MonOp}
use Rattle.mon_syntax.specs.declared.tree.MonOp.TheVariants.{Add, Sub, Mul, Div, Rem, Shl, Shr, And, Or, Xor, Eq, Ne, Lt, Le, Gt, Ge}
use Rattle.mon_syntax.specs.Names.{type_word, constant_word, IsFreeName}
use Rattle.mon_syntax.specs.Arithmetic.{least, greatest, fits, is_pointer, byte_count, access_bytes, copy_bytes}
use Rattle.mon_syntax.specs.Trees.{MonExpression, Register, Global, Constant, Binary, Minus, Flip, Cast, Load, MonStatement, Set, Store, Step, Assert, PutChar, GetChar, Exit, PrintText, PrintSigned, PrintUnsigned, Act, Call, If, Loop, Labelled, Goto}
use Rattle.mon_syntax.specs.Trees.{PrintString}
use Rattle.mon_syntax.specs.Trees.{Return}
use Rattle.mon_syntax.specs.Trees.{MonStatements, NoStatement, Then, MonRegister, MonFunction, PlainContent, Zeros, Literal, MonitoredGlobal, MonitoredProgram}
use Rattle.mon_syntax.specs.Text.{Word, Number, Quoted, Mark, spelled, blank, new_line, left_paren, right_paren, semicolon, operator_mark, Registers, InSight, name_or_none, name_of, global_or_none, global_name, pointed_type, mark_pieces, set_pieces}
use Rattle.mon_syntax.specs.Text.{size_argument, call_pieces, set_or_none, expression_pieces, more_arguments, arguments_pieces, assert_arguments}
use Rattle.mon_syntax.specs.Text.{memory_word, FunctionNames, function_name, body_pieces, statement_pieces, statements_pieces, result_word, more_parameters, parameters_pieces, registers_pieces, function_pieces, functions_pieces, content_pieces}
use Rattle.mon_syntax.specs.Text.{globals_pieces}
use Rattle.mon_syntax.specs.Valid.{Types, has_constant, second_type, HasType, Labels, has_label, IsExpression, greatest_number, memory_parameters, memory_result, TakesValue, AreArguments, Signature, ReturnsResult, IsStatement, AreStatements}
use Rattle.mon_syntax.specs.Valid.{AreRegisters, types_of, signature_of, names_before, IsFunction, AreFunctions, IsContent, AreGlobals, IsValid}
use Rattle.mon_syntax.specs.Globals.{size_of_content, globals_taken}
use Rattle.c_model.specs.Limits.{globals_bytes}
use Rattle.c_model.specs.Memory.{rounded}
use Rattle.mon_syntax.proofs.PrintedPieces.{is_word, IsAlone, AreAlone}
use Rattle.mon_syntax.proofs.PrintedForms.{Pieces, binary_is, closed_is, ended_is, argument_is, arguments_are, sized_is, assert_is, store_is, if_is, loop_is, labelled_is, body_is, then_is, function_is}

-- ---- words

all_parts : (w : List ℕ) → AllByRecursion (λ b. is_part b ≡ true) w → list_all is_part w ≡ true
all_parts [] h = refl
all_parts (c ∷ cs) h = rw (h.0) (all_parts cs h.1)

pub free_word : (w : List ℕ) → IsFreeName w → is_word w ≡ true
free_word w h =
    let parts = all_parts w h.parts in
    let short = le-leb (length w) 255 h.short in
    (λ i. h.begins i && (parts i && short i))

pub same_bytes : (a b : List ℕ) → bytes_eq a b ≡ true → a ≡ b
same_bytes [] [] e = refl
same_bytes [] (y ∷ ys) e = absurd cc
same_bytes (x ∷ xs) [] e = absurd cc
same_bytes (x ∷ xs) (y ∷ ys) e =
    let h = and_true (eqb x y) (bytes_eq xs ys) e in
    (λ i. eqb-true x y h.0 i ∷ same_bytes xs ys h.1 i)

type_is_word : (t : MonType) → is_word (type_word t) ≡ true
type_is_word I8 = refl
type_is_word U8 = refl
type_is_word I16 = refl
type_is_word U16 = refl
type_is_word I32 = refl
type_is_word U32 = refl
type_is_word I64 = refl
type_is_word U64 = refl
type_is_word I128 = refl
type_is_word Ptr = refl

constant_is_word : (t : MonType) → is_word (constant_word t) ≡ true
constant_is_word I8 = refl
constant_is_word U8 = refl
constant_is_word I16 = refl
constant_is_word U16 = refl
constant_is_word I32 = refl
constant_is_word U32 = refl
constant_is_word I64 = refl
constant_is_word U64 = refl
constant_is_word I128 = refl
constant_is_word Ptr = refl

memory_is_word : (f : MemoryCall) → is_word (memory_word f) ≡ true
memory_is_word memory_call.StoreBlock = refl
memory_is_word memory_call.DeleteBlock = refl
memory_is_word (memory_call.Copy a) = refl
memory_is_word (memory_call.Number a) = refl
memory_is_word (memory_call.Valid a) = refl
memory_is_word (memory_call.ValidRead a) = refl
memory_is_word (memory_call.Initialized a) = refl
memory_is_word memory_call.Pointer = refl
memory_is_word memory_call.Inside = refl
memory_is_word memory_call.BaseAddr = refl
memory_is_word memory_call.BlockLength = refl
memory_is_word memory_call.Offset = refl
memory_is_word memory_call.Separated = refl
memory_is_word memory_call.Malloc = refl
memory_is_word memory_call.Calloc = refl
memory_is_word memory_call.Free = refl

kind_bytes : (k : Kind) → AllByRecursion (λ b. b < 256) (kind_word k)
kind_bytes the_kind.Assert = omega arith
kind_bytes the_kind.Requires = omega arith
kind_bytes the_kind.Assumes = omega arith
kind_bytes the_kind.Ensures = omega arith
kind_bytes the_kind.Complete = omega arith
kind_bytes the_kind.Disjoint = omega arith
kind_bytes the_kind.Invariant = omega arith
kind_bytes the_kind.Variant = omega arith
kind_bytes the_kind.Rte = omega arith

stops_part : (bs : List ℕ) → Stops in_literal bs → Stops is_part bs
stops_part [] h = tt
stops_part (b ∷ bs) h = by (is_part b) h
  where
    by : (t : Bool) → t || eqb b 46 ≡ false → t ≡ false
    by true e = absurd (true≢false e)
    by false e = refl

-- ---- punctuators

blanks_all : (n : ℕ) → list_all is_blank (replicate n 32) ≡ true
blanks_all zero = refl
blanks_all (suc n) = blanks_all n

line_blank : (depth : ℕ) → list_all is_blank (10 ∷ replicate (2 * depth) 32) ≡ true
line_blank depth = blanks_all (2 * depth)

both : (P : Bool → Type 0) → P true → P false → (b : Bool) → P b
both P t f true = t
both P t f false = f

module _ (bs : List ℕ) where
  alone_left_paren : IsAlone left_paren bs
  unfolding piece_at marks
  alone_left_paren = (omega arith, both _ refl refl)

  alone_right_paren : IsAlone right_paren bs
  unfolding piece_at marks
  alone_right_paren = (omega arith, both _ refl refl)

  alone_semicolon : IsAlone semicolon bs
  unfolding piece_at marks
  alone_semicolon = (omega arith, both _ refl refl)

  alone_comma : IsAlone (Mark (codes ",")) bs
  unfolding piece_at marks
  alone_comma = (omega arith, both _ refl refl)

  alone_left_bracket : IsAlone (Mark (codes "[")) bs
  unfolding piece_at marks
  alone_left_bracket = (omega arith, both _ refl refl)

  alone_right_bracket : IsAlone (Mark (codes "]")) bs
  unfolding piece_at marks
  alone_right_bracket = (omega arith, both _ refl refl)

  -- before a parenthesis
  alone_load : IsAlone (Mark (codes "*")) (40 ∷ bs)
  unfolding piece_at marks
  alone_load = (omega arith, both _ refl refl)

  alone_pointed : IsAlone (Mark (codes "*")) (41 ∷ bs)
  unfolding piece_at marks
  alone_pointed = (omega arith, both _ refl refl)

  alone_colon : IsAlone (Mark (codes ":")) bs
  unfolding piece_at marks
  alone_colon = (omega arith, both _ refl refl)

  alone_tilde : IsAlone (Mark (codes "~")) bs
  unfolding piece_at marks
  alone_tilde = (omega arith, both _ refl refl)

  alone_left_brace : IsAlone (Mark (codes "{")) bs
  unfolding piece_at marks
  alone_left_brace = (omega arith, both _ refl refl)

  alone_right_brace : IsAlone (Mark (codes "}")) bs
  unfolding piece_at marks
  alone_right_brace = (omega arith, both _ refl refl)

  -- before a blank
  alone_assign : IsAlone (Mark (codes "=")) (32 ∷ bs)
  unfolding piece_at marks
  alone_assign = (omega arith, both _ refl refl)

  alone_operator : (op : MonOp) → IsAlone (Mark (operator_mark op)) (32 ∷ bs)
  unfolding piece_at marks
  alone_operator Add = (omega arith, both _ refl refl)
  alone_operator Sub = (omega arith, both _ refl refl)
  alone_operator Mul = (omega arith, both _ refl refl)
  alone_operator Div = (omega arith, both _ refl refl)
  alone_operator Rem = (omega arith, both _ refl refl)
  alone_operator Shl = (omega arith, both _ refl refl)
  alone_operator Shr = (omega arith, both _ refl refl)
  alone_operator And = (omega arith, both _ refl refl)
  alone_operator Or = (omega arith, both _ refl refl)
  alone_operator Xor = (omega arith, both _ refl refl)
  alone_operator Eq = (omega arith, both _ refl refl)
  alone_operator Ne = (omega arith, both _ refl refl)
  alone_operator Lt = (omega arith, both _ refl refl)
  alone_operator Le = (omega arith, both _ refl refl)
  alone_operator Gt = (omega arith, both _ refl refl)
  alone_operator Ge = (omega arith, both _ refl refl)

  -- a minus before a byte with which it makes no longer punctuator
  alone_minus : (b : ℕ) → eqb 45 b ≡ false → eqb 62 b ≡ false → eqb 61 b ≡ false → IsAlone (Mark (codes "-")) (b ∷ bs)
  unfolding piece_at marks
  alone_minus b m g e = (omega arith, both _ (rw (m, g, e) refl) (rw (m, g, e) refl))

-- what a minus stands alone before
record IsClear (bs : List ℕ) : Type 0 where
  first : ℕ
  others : List ℕ
  is : bs ≡ first ∷ others
  no_minus : eqb 45 first ≡ false
  no_greater : eqb 62 first ≡ false
  no_equal : eqb 61 first ≡ false

minus_alone : (bs : List ℕ) → IsClear bs → IsAlone (Mark (codes "-")) bs
minus_alone bs h = subst (λ (l : List ℕ). IsAlone (Mark (codes "-")) l) (sym h.is) (alone_minus h.others h.first h.no_minus h.no_greater h.no_equal)

word_clear : (w bs : List ℕ) → is_word w ≡ true → IsClear (w ++ bs)
word_clear [] bs h = absurd cc
word_clear (c ∷ cs) bs h =
    let letter = (and_true (is_nondigit c) (list_all is_part (c ∷ cs) && leb (length (c ∷ cs)) 255) h).0 in
    record { first = c; others = cs ++ bs; is = refl; no_minus = grind (arith, nat_tests); no_greater = grind (arith, nat_tests); no_equal = grind (arith, nat_tests) }

digits_clear : (n : ℕ) (bs : List ℕ) → n ≤ greatest_literal → IsClear (decimal n ++ bs)
digits_clear n bs small = by (decimal n) (decimal_is_IsNumeral_wide n (omega arith)).0.0 (decimal_is_IsNumeral_wide n (omega arith)).0.1
  where
    by : (ds : List ℕ) → 0 < length ds → AllDigits 10 ds → IsClear (ds ++ bs)
    by [] some all = absurd (omega arith)
    by (c ∷ cs) some all =
        let digit = digit_from_value c all.0 in
        record { first = c; others = cs ++ bs; is = refl; no_minus = grind (arith, nat_tests); no_greater = grind (arith, nat_tests); no_equal = grind (arith, nat_tests) }

-- ---- constants

below : (n g : ℕ) → int_le (pos n) (pos g) ≡ true → n ≤ g
below n g h = grind (arith, ints)

above : (n g : ℕ) → int_le (negsuc g) (negsuc n) ≡ true → n ≤ g
above n g h = grind (arith, ints)

other : (n g : ℕ) → not (int_eq (negsuc n) (negsuc g)) ≡ true → n ≤ g → suc n ≤ g
other n g h l = grind (arith, ints)

-- the digits of a constant make a number that may stand in a text
abbrev digits_of : ℤ → ℕ
digits_of (pos n) = n
digits_of (negsuc n) = suc n

small_constant : (t : MonType) (z : ℤ) → has_constant t z ≡ true → digits_of z ≤ greatest_literal
small_constant t (pos n) h =
    by t (and_true (int_le (least t) (pos n)) (int_le (pos n) (greatest t)) (and_true (fits t (pos n)) _ h).0).1
  where
    by : (t : MonType) → int_le (pos n) (greatest t) ≡ true → n ≤ greatest_literal
    by I8 e = omega (arith, below n 127 e)
    by U8 e = omega (arith, below n 255 e)
    by I16 e = omega (arith, below n 32767 e)
    by U16 e = omega (arith, below n 65535 e)
    by I32 e = omega (arith, below n 2147483647 e)
    by U32 e = omega (arith, below n 4294967295 e)
    by I64 e = omega (arith, below n 9223372036854775807 e)
    by U64 e = omega (arith, below n 18446744073709551615 e)
    by I128 e = below n 170141183460469231731687303715884105727 e
    by Ptr e = omega (arith, below n 18446744073709551615 e)
small_constant t (negsuc n) h =
    let a = and_true (fits t (negsuc n)) _ h in
    by t (and_true (int_le (least t) (negsuc n)) (int_le (negsuc n) (greatest t)) a.0).0 a.1
  where
    by : (t : MonType) → int_le (least t) (negsuc n) ≡ true → (if is_pointer t then int_eq (negsuc n) (pos 0) else not (int_eq (negsuc n) (neg_ℤ (pos (2 ^ 127))))) ≡ true → suc n ≤ greatest_literal
    by I8 e o = omega (arith, above n 127 e)
    by U8 e o = absurd cc
    by I16 e o = omega (arith, above n 32767 e)
    by U16 e o = absurd cc
    by I32 e o = omega (arith, above n 2147483647 e)
    by U32 e o = absurd cc
    by I64 e o = omega (arith, above n 9223372036854775807 e)
    by U64 e o = absurd cc
    by I128 e o = other n 170141183460469231731687303715884105727 o (above n 170141183460469231731687303715884105727 e)
    by Ptr e o = absurd cc

-- ---- expressions

-- each register of a type has a name, and each global
pub record AreNamed (ts : Types) (rs : InSight) : Type 0 where
  pub registers : (r : ℕ) (t : MonType) → slice_get ts r ≡ Some t → is_word (name_of rs r) ≡ true
  pub globals : (g : ℕ) → g < length rs.globals → is_word (global_name rs g) ≡ true

-- each function that may be called has a name
abbrev pub AreCallees : List Signature → FunctionNames → Type 0
AreCallees gs called = (f : ℕ) (g : Signature) → slice_get gs f ≡ Some g → is_word (function_name called f) ≡ true

module _ (ts : Types) (rs : InSight) (named : AreNamed ts rs) where
  abbrev count : ℕ
  count = length rs.globals

  constant_alone : (t : MonType) (z : ℤ) (more : Pieces) → has_constant t z ≡ true → AreAlone more → AreAlone (expression_pieces rs (Constant t z) ++ more)
  constant_alone t (pos n) more h m = ((constant_is_word t, refl), (alone_left_paren _, ((small_constant t (pos n) h, refl), (alone_right_paren _, m))))
  constant_alone t (negsuc n) more h m =
      let small = small_constant t (negsuc n) h in
      ((constant_is_word t, refl), (alone_left_paren _, (minus_alone _ (digits_clear (suc n) _ small), ((small, refl), (alone_right_paren _, m)))))

  -- what an expression begins with
  expression_clear : (e : MonExpression) (t : MonType) → HasType count ts e t → (more : Pieces) → IsClear (spelled (expression_pieces rs e ++ more))
  expression_clear (Register r) t h more = word_clear (name_of rs r) (spelled more) (named.registers r t h)
  expression_clear (Global g) t h more = word_clear (global_name rs g) (spelled more) (named.globals g h.1)
  expression_clear (Constant k z) t h more = word_clear (constant_word k) _ (constant_is_word k)
  expression_clear (Binary op k a b) t h more = record { first = 40; others = _; is = refl; no_minus = refl; no_greater = refl; no_equal = refl }
  expression_clear (Minus k a) t h more = record { first = 40; others = _; is = refl; no_minus = refl; no_greater = refl; no_equal = refl }
  expression_clear (Flip k a) t h more = record { first = 40; others = _; is = refl; no_minus = refl; no_greater = refl; no_equal = refl }
  expression_clear (Cast k a) t h more = record { first = 40; others = _; is = refl; no_minus = refl; no_greater = refl; no_equal = refl }
  expression_clear (Load k a) t h more = record { first = 40; others = _; is = refl; no_minus = refl; no_greater = refl; no_equal = refl }

  -- a type and `*`
  pointed_alone : (t : MonType) (more : Pieces) → AreAlone more → AreAlone (pointed_type t ++ more)
  pointed_alone t more m = (alone_left_paren _, ((type_is_word t, refl), (refl, (alone_pointed _, (alone_right_paren _, m)))))

  pub expression_alone : (e : MonExpression) (t : MonType) → HasType count ts e t → (more : Pieces) → Stops in_literal (spelled more) → AreAlone more → AreAlone (expression_pieces rs e ++ more)
  expression_alone (Register r) t h more stop m = ((named.registers r t h, stops_part (spelled more) stop), m)
  expression_alone (Global g) t h more stop m = ((named.globals g h.1, stops_part (spelled more) stop), m)
  expression_alone (Constant k z) t h more stop m = constant_alone k z more h.1 m
  expression_alone (Binary op k a b) t h more stop m =
      subst AreAlone (sym (binary_is rs more op k a b))
      (alone_left_paren _, expression_alone a k h.2 _ refl (refl, (alone_operator _ op, (refl, expression_alone b (second_type op k) h.3 (right_paren ∷ more) refl (alone_right_paren _, m)))))
  expression_alone (Minus k a) t h more stop m =
      subst (λ (l : Pieces). AreAlone (left_paren ∷ Mark (codes "-") ∷ l)) (sym (closed_is rs more a))
      (alone_left_paren _, (minus_alone _ (expression_clear a k h.2 (right_paren ∷ more)), expression_alone a k h.2 (right_paren ∷ more) refl (alone_right_paren _, m)))
  expression_alone (Flip k a) t h more stop m =
      subst (λ (l : Pieces). AreAlone (left_paren ∷ Mark (codes "~") ∷ l)) (sym (closed_is rs more a))
      (alone_left_paren _, (alone_tilde _, expression_alone a k h.2 (right_paren ∷ more) refl (alone_right_paren _, m)))
  expression_alone (Cast k a) t h more stop m =
      subst (λ (l : Pieces). AreAlone (left_paren ∷ left_paren ∷ Word (type_word k) ∷ right_paren ∷ l)) (sym (closed_is rs more a))
      (alone_left_paren _, (alone_left_paren _, ((type_is_word k, refl), (alone_right_paren _, expression_alone a h.2.0 h.2.2 (right_paren ∷ more) refl (alone_right_paren _, m)))))
  expression_alone (Load k a) t h more stop m =
      subst (λ (l : Pieces). AreAlone (left_paren ∷ Mark (codes "*") ∷ (pointed_type k ++ l))) (sym (closed_is rs more a))
      (alone_left_paren _, (alone_load _, pointed_alone k _ (expression_alone a Ptr h.1 (right_paren ∷ more) refl (alone_right_paren _, m))))

  -- ---- statements

  call_alone : (name : List ℕ) (arguments more : Pieces) → is_word name ≡ true → AreAlone (arguments ++ (right_paren ∷ semicolon ∷ more)) → AreAlone (call_pieces name arguments ++ more)
  call_alone name arguments more w h = subst (λ (l : Pieces). AreAlone (Word name ∷ left_paren ∷ l)) (sym (arguments_are rs more arguments)) ((w, refl), (alone_left_paren _, h))

  -- a call with a value
  value_alone : (name : List ℕ) (e : MonExpression) (t : MonType) (more : Pieces) → is_word name ≡ true → IsExpression count ts e t → AreAlone more → AreAlone (call_pieces name (expression_pieces rs e) ++ more)
  value_alone name e t more w h m = call_alone name (expression_pieces rs e) more w (expression_alone e t h.typed (right_paren ∷ semicolon ∷ more) refl (alone_right_paren _, (alone_semicolon _, m)))

  -- a register and `=`
  set_alone : (r : ℕ) (t : MonType) (more : Pieces) → slice_get ts r ≡ Some t → AreAlone more → AreAlone (Word (name_of rs r) ∷ blank ∷ Mark (codes "=") ∷ blank ∷ more)
  set_alone r t more h m = ((named.registers r t h, refl), (refl, (alone_assign _, (refl, m))))

  ended_alone : (e : MonExpression) (t : MonType) (more : Pieces) → IsExpression count ts e t → AreAlone more → AreAlone ((expression_pieces rs e ++ (semicolon ∷ [])) ++ more)
  ended_alone e t more h m = subst AreAlone (sym (ended_is rs more e)) (expression_alone e t h.typed (semicolon ∷ more) refl (alone_semicolon _, m))

  assert_alone : (d v : MonExpression) (number line : ℕ) (kind : Kind) (more : Pieces)
      → IsExpression count ts d I32 × IsExpression count ts v I32 × (number ≤ greatest_number) × (line ≤ greatest_number) → AreAlone more
      → AreAlone (call_pieces (codes "__e_acsl_assert") (assert_arguments rs d v number line (kind_word kind)) ++ more)
  assert_alone d v number line kind more h m =
      let first : number ≤ greatest_literal = omega (arith, h.2) in
      let second : line ≤ greatest_literal = omega (arith, h.3) in
      subst (λ (l : Pieces). AreAlone (Word (codes "__e_acsl_assert") ∷ left_paren ∷ l)) (sym (assert_is rs more d v number line (kind_word kind))) (
        (refl, refl),
        (
          alone_left_paren _,
          expression_alone d I32 h.0.typed _ refl (
            alone_comma _,
            (
              refl,
              expression_alone v I32 h.1.typed _ refl
                  (alone_comma _, (refl, ((first, refl), (alone_comma _, (refl, ((second, refl), (alone_comma _, (refl, (kind_bytes kind, (alone_right_paren _, (alone_semicolon _, m))))))))))),
            ),
          ),
        ),
      )

  -- arguments

  more_stop : (es : List MonExpression) (end : Pieces) → Stops in_literal (spelled end) → Stops in_literal (spelled (more_arguments rs es ++ end))
  more_stop [] end stop = stop
  more_stop (e ∷ es) end stop = refl

  more_alone : (es : List MonExpression) (ps : Types) (end : Pieces) → AreArguments count ts es ps → Stops in_literal (spelled end) → AreAlone end
      → AreAlone (more_arguments rs es ++ end)
  more_alone [] ps end h stop m = m
  more_alone (e ∷ es) [] end h stop m = absurd h
  more_alone (e ∷ es) (p ∷ ps) end h stop m =
      subst (λ (l : Pieces). AreAlone (Mark (codes ",") ∷ blank ∷ l)) (sym (argument_is rs end e es))
      (alone_comma _, (refl, expression_alone e p h.0.typed (more_arguments rs es ++ end) (more_stop es end stop) (more_alone es ps end h.1 stop m)))

  arguments_alone : (es : List MonExpression) (ps : Types) (end : Pieces) → AreArguments count ts es ps → Stops in_literal (spelled end) → AreAlone end
      → AreAlone (arguments_pieces rs es ++ end)
  arguments_alone [] ps end h stop m = m
  arguments_alone (e ∷ es) [] end h stop m = absurd h
  arguments_alone (e ∷ es) (p ∷ ps) end h stop m =
      subst AreAlone (sym (argument_is rs end e es))
      (expression_alone e p h.0.typed (more_arguments rs es ++ end) (more_stop es end stop) (more_alone es ps end h.1 stop m))

  -- a call whose value a register takes, or none
  taken_alone : (r : Option ℕ) (v : Option MonType) (call more : Pieces) → TakesValue ts r v → AreAlone (call ++ more)
      → AreAlone ((set_or_none rs r ++ call) ++ more)
  taken_alone None v call more h m = m
  taken_alone (Some r) None call more h m = absurd h
  taken_alone (Some r) (Some t) call more h m = set_alone r t (call ++ more) h m

  -- a call with arguments
  called_alone : (r : Option ℕ) (v : Option MonType) (name : List ℕ) (es : List MonExpression) (ps : Types) (more : Pieces) → is_word name ≡ true
      → TakesValue ts r v → AreArguments count ts es ps → AreAlone more
      → AreAlone ((set_or_none rs r ++ call_pieces name (arguments_pieces rs es)) ++ more)
  called_alone r v name es ps more w h k m =
      taken_alone r v (call_pieces name (arguments_pieces rs es)) more h
      (call_alone name (arguments_pieces rs es) more w (arguments_alone es ps (right_paren ∷ semicolon ∷ more) k refl (alone_right_paren _, (alone_semicolon _, m))))

  -- a call of the runtime on the memory
  size_stop : (f : MemoryCall) (more : Pieces) → Stops in_literal (spelled (size_argument f ++ (right_paren ∷ more)))
  size_stop memory_call.StoreBlock more = refl
  size_stop memory_call.DeleteBlock more = refl
  size_stop (memory_call.Copy a) more = refl
  size_stop (memory_call.Number a) more = refl
  size_stop (memory_call.Valid a) more = refl
  size_stop (memory_call.ValidRead a) more = refl
  size_stop (memory_call.Initialized a) more = refl
  size_stop memory_call.Pointer more = refl
  size_stop memory_call.Inside more = refl
  size_stop memory_call.BaseAddr more = refl
  size_stop memory_call.BlockLength more = refl
  size_stop memory_call.Offset more = refl
  size_stop memory_call.Separated more = refl
  size_stop memory_call.Malloc more = refl
  size_stop memory_call.Calloc more = refl
  size_stop memory_call.Free more = refl

  small_size : (a : AccessSize) → access_bytes a ≤ greatest_literal
  small_size One = omega arith
  small_size Two = omega arith
  small_size Four = omega arith
  small_size Eight = omega arith
  small_size Sixteen = omega arith

  small_copy : (a : CopySize) → copy_bytes a ≤ greatest_literal
  small_copy copy_size.One = omega arith
  small_copy copy_size.Two = omega arith
  small_copy copy_size.Four = omega arith
  small_copy copy_size.Eight = omega arith

  size_alone : (f : MemoryCall) (more : Pieces) → AreAlone more → AreAlone (size_argument f ++ (right_paren ∷ more))
  size_alone memory_call.StoreBlock more m = (alone_right_paren _, m)
  size_alone memory_call.DeleteBlock more m = (alone_right_paren _, m)
  size_alone (memory_call.Copy a) more m = (alone_comma _, (refl, ((small_copy a, refl), (alone_right_paren _, m))))
  size_alone (memory_call.Number a) more m = (alone_comma _, (refl, ((small_size a, refl), (alone_right_paren _, m))))
  size_alone (memory_call.Valid a) more m = (alone_comma _, (refl, ((small_size a, refl), (alone_right_paren _, m))))
  size_alone (memory_call.ValidRead a) more m = (alone_comma _, (refl, ((small_size a, refl), (alone_right_paren _, m))))
  size_alone (memory_call.Initialized a) more m = (alone_comma _, (refl, ((small_size a, refl), (alone_right_paren _, m))))
  size_alone memory_call.Pointer more m = (alone_right_paren _, m)
  size_alone memory_call.Inside more m = (alone_right_paren _, m)
  size_alone memory_call.BaseAddr more m = (alone_right_paren _, m)
  size_alone memory_call.BlockLength more m = (alone_right_paren _, m)
  size_alone memory_call.Offset more m = (alone_right_paren _, m)
  size_alone memory_call.Separated more m = (alone_right_paren _, m)
  size_alone memory_call.Malloc more m = (alone_right_paren _, m)
  size_alone memory_call.Calloc more m = (alone_right_paren _, m)
  size_alone memory_call.Free more m = (alone_right_paren _, m)

  act_alone : (r : Option ℕ) (f : MemoryCall) (es : List MonExpression) (more : Pieces) → TakesValue ts r (memory_result f)
      → AreArguments count ts es (memory_parameters f) → AreAlone more
      → AreAlone ((set_or_none rs r ++ call_pieces (memory_word f) (arguments_pieces rs es ++ size_argument f)) ++ more)
  act_alone r f es more h k m =
      taken_alone r (memory_result f) (call_pieces (memory_word f) (arguments_pieces rs es ++ size_argument f)) more h
      (subst (λ (l : Pieces). AreAlone (Word (memory_word f) ∷ left_paren ∷ l)) (sym (sized_is rs more (arguments_pieces rs es) f))
      ((memory_is_word f, refl), (alone_left_paren _, arguments_alone es (memory_parameters f) _ k (size_stop f (semicolon ∷ more)) (size_alone f (semicolon ∷ more) (alone_semicolon _, m)))))

  small_width : (t : MonType) → byte_count t ≤ greatest_literal
  small_width I8 = omega arith
  small_width U8 = omega arith
  small_width I16 = omega arith
  small_width U16 = omega arith
  small_width I32 = omega arith
  small_width U32 = omega arith
  small_width I64 = omega arith
  small_width U64 = omega arith
  small_width I128 = omega arith
  small_width Ptr = omega arith

  -- the mark of a store
  mark_alone : (r : ℕ) (t : MonType) (more : Pieces) → slice_get ts r ≡ Some Ptr → AreAlone more → AreAlone (mark_pieces rs r t ++ more)
  mark_alone r t more h m = by (is_pointer t)
    where
      by : (b : Bool) → AreAlone ((if b then call_pieces (codes "__e_acsl_initialize_ptr") (Word (name_of rs r) ∷ [])
          else call_pieces (codes "__e_acsl_initialize") (Word (name_of rs r) ∷ Mark (codes ",") ∷ blank ∷ Number (byte_count t) ∷ [])) ++ more)
      by true = ((refl, refl), (alone_left_paren _, ((named.registers r Ptr h, refl), (alone_right_paren _, (alone_semicolon _, m)))))
      by false = ((refl, refl), (alone_left_paren _, ((named.registers r Ptr h, refl), (alone_comma _, (refl, ((small_width t, refl), (alone_right_paren _, (alone_semicolon _, m))))))))

  -- a store and its mark
  store_alone : (called : FunctionNames) (depth r : ℕ) (t : MonType) (e : MonExpression) (more : Pieces) → slice_get ts r ≡ Some Ptr
      → IsExpression count ts e t → AreAlone more → AreAlone (statement_pieces called rs depth (Store r t e) ++ more)
  store_alone called depth r t e more h k m =
      let end : Pieces = semicolon ∷ new_line depth ∷ (mark_pieces rs r t ++ more) in
      let value = expression_alone e t k.typed end refl (alone_semicolon _, (line_blank depth, mark_alone r t more h m)) in
      subst AreAlone (sym (store_is called rs more depth r t e)) (alone_load _, pointed_alone t (set_pieces (name_of rs r) ++ (expression_pieces rs e ++ end)) (set_alone r Ptr (expression_pieces rs e ++ end) h value))

  -- ---- statements among functions of these signatures and names

  module _ (gs : List Signature) (called : FunctionNames) (callees : AreCallees gs called) where
    -- a body, given its statements
    body_alone : (s : MonStatements) (depth : ℕ) (more : Pieces)
        → ((end : Pieces) → AreAlone end → AreAlone (statements_pieces called rs (depth + 1) s ++ end)) → AreAlone more
        → AreAlone (body_pieces called rs depth s ++ more)
    body_alone NoStatement depth more inner m = (alone_left_brace _, (refl, (alone_right_brace _, m)))
    body_alone (Then a rest) depth more inner m =
        subst AreAlone (sym (body_is called rs more depth a rest)) (
          alone_left_brace _,
          inner (new_line depth ∷ Mark (codes "}") ∷ more)
              (line_blank depth, (alone_right_brace _, m)),
        )

    -- each label is a word
    AreLabels : Labels → Type 0
    AreLabels ls = (w : List ℕ) → has_label ls w ≡ true → is_word w ≡ true

    more_labels : (l : List ℕ) (ls : Labels) → IsFreeName l → AreLabels ls → AreLabels (l ∷ ls)
    unfolding AreLabels
    more_labels l ls free old w h = by (bytes_eq w l) refl h
      where
        by : (t : Bool) → bytes_eq w l ≡ t → t || has_label ls w ≡ true → is_word w ≡ true
        by true e g = ap is_word (same_bytes w l e) ∙ free_word l free
        by false e g = old w g

    returned_typed : (result : Option MonType) (e : MonExpression) → ReturnsResult count ts result (Some e) → (t : MonType) × IsExpression count ts e t
    returned_typed None e h = absurd h
    returned_typed (Some t) e h = (t, h)

    mutual
      unfolding AreLabels

      statement_alone : (a : MonStatement) (result : Option MonType) (ls : Labels) (depth : ℕ) (more : Pieces) → AreLabels ls → IsStatement count gs ts result ls a
          → AreAlone more → AreAlone (statement_pieces called rs depth a ++ more)
      statement_alone (Set r e) result ls depth more labels h m = set_alone r h.0 ((expression_pieces rs e ++ (semicolon ∷ [])) ++ more) h.1 (ended_alone e h.0 more h.2 m)
      statement_alone (Store r t e) result ls depth more labels h m = store_alone called depth r t e more h.0 h.1 m
      statement_alone Step result ls depth more labels h m = call_alone (codes "__e_acsl_step") [] more refl (alone_right_paren _, (alone_semicolon _, m))
      statement_alone (Assert d v number line kind) result ls depth more labels h m = assert_alone d v number line kind more h m
      statement_alone (PutChar r e) result ls depth more labels h m =
          taken_alone r (Some I32) (call_pieces (codes "putchar") (expression_pieces rs e)) more h.0 (value_alone (codes "putchar") e I32 more refl h.1 m)
      statement_alone (GetChar r) result ls depth more labels h m =
          taken_alone r (Some I32) (call_pieces (codes "getchar") []) more h
          (call_alone (codes "getchar") [] more refl (alone_right_paren _, (alone_semicolon _, m)))
      statement_alone (Exit e) result ls depth more labels h m = value_alone (codes "exit") e I32 more refl h m
      statement_alone (PrintText bytes) result ls depth more labels h m = call_alone (codes "__e_acsl_print_text") (Quoted bytes ∷ []) more refl (h, (alone_right_paren _, (alone_semicolon _, m)))
      statement_alone (PrintSigned e) result ls depth more labels h m = value_alone (codes "__e_acsl_print_i64") e I64 more refl h m
      statement_alone (PrintUnsigned e) result ls depth more labels h m = value_alone (codes "__e_acsl_print_u64") e U64 more refl h m
      statement_alone (PrintString e) result ls depth more labels h m = value_alone (codes "__e_acsl_print_str") e Ptr more refl h m
      statement_alone (Act r f es) result ls depth more labels h m = act_alone r f es more h.1 h.0 m
      statement_alone (Call r f es) result ls depth more labels h m =
          called_alone r h.callee.result (function_name called f) es h.callee.parameters more (callees f h.callee h.has) h.takes h.arguments m
      statement_alone (If e a b) result ls depth more labels h m =
          subst AreAlone (sym (if_is called rs more depth e a b)) (
            (refl, refl),
            (
              refl,
              (
                alone_left_paren _,
                expression_alone e I32 h.0.typed _ refl (
                  alone_right_paren _,
                  (
                    refl,
                    body_alone a depth _ (λ end g. statements_alone a result ls (depth + 1) end labels h.1 g)
                        (refl, ((refl, refl), (refl, body_alone b depth more (λ end g. statements_alone b result ls (depth + 1) end labels h.2 g) m))),
                  ),
                ),
              ),
            ),
          )
      statement_alone (Loop a b) result ls depth more labels h m =
          subst AreAlone (sym (loop_is called rs more depth a b)) (
            (refl, refl),
            (
              refl,
              (
                alone_left_paren _,
                (
                  (omega arith, refl),
                  (
                    alone_right_paren _,
                    (
                      refl,
                      (
                        alone_left_brace _,
                        statements_alone a result ls (depth + 1) _ labels h.2
                            (line_blank (depth + 1), ((refl, refl), (alone_left_paren _, (alone_right_paren _, (alone_semicolon _, statements_alone b result ls (depth + 1) _ labels h.3 (line_blank depth, (alone_right_brace _, m))))))),
                      ),
                    ),
                  ),
                ),
              ),
            ),
          )
      statement_alone (Labelled a l) result ls depth more labels h m =
          subst AreAlone (sym (labelled_is called rs more depth a l))
          (body_alone a depth _ (λ end g. statements_alone a result (l ∷ ls) (depth + 1) end (more_labels l ls h.0 labels) h.2 g) (refl, ((free_word l h.0, refl), (alone_colon _, (refl, (alone_semicolon _, m))))))
      statement_alone (Goto l) result ls depth more labels h m = ((refl, refl), (refl, ((labels l h, refl), (alone_semicolon _, m))))
      statement_alone (Return None) result ls depth more labels h m = ((refl, refl), (alone_semicolon _, m))
      statement_alone (Return (Some e)) result ls depth more labels h m = let g = returned_typed result e h in ((refl, refl), (refl, ended_alone e g.0 more g.1 m))

      statements_alone : (s : MonStatements) (result : Option MonType) (ls : Labels) (depth : ℕ) (more : Pieces) → AreLabels ls
          → AreStatements count gs ts result ls s → AreAlone more → AreAlone (statements_pieces called rs depth s ++ more)
      statements_alone NoStatement result ls depth more labels h m = m
      statements_alone (Then a rest) result ls depth more labels h m =
          subst AreAlone (sym (then_is called rs more depth a rest))
          (line_blank depth, statement_alone a result ls depth _ labels h.0 (statements_alone rest result ls depth more labels h.1 m))

    pub body_is_alone : (s : MonStatements) (result : Option MonType) (more : Pieces) → AreStatements count gs ts result [] s → AreAlone more
        → AreAlone (statements_pieces called rs 1 s ++ more)
    unfolding AreLabels
    body_is_alone s result more h m = statements_alone s result [] 1 more (λ w e. absurd cc) h m

-- ---- functions

pub registers_alone : (rs : List MonRegister) (before : List (List ℕ)) (more : Pieces) → AreRegisters before rs → AreAlone more → AreAlone (registers_pieces rs ++ more)
registers_alone [] before more h m = m
registers_alone (r ∷ rs) before more h m = (line_blank 1, ((type_is_word r.kind, refl), (refl, ((free_word r.name h.0, refl), (alone_semicolon _, registers_alone rs (r.name ∷ before) more h.2 m)))))

-- a name before what stands after a parameter
parameter_stop : (ps : Registers) (more : Pieces) → Stops is_part (spelled (more_parameters ps ++ (right_paren ∷ more)))
parameter_stop [] more = refl
parameter_stop (p ∷ ps) more = refl

more_parameters_alone : (ps rest : Registers) (before : List (List ℕ)) (more : Pieces) → AreRegisters before (ps ++ rest) → AreAlone more
    → AreAlone (more_parameters ps ++ (right_paren ∷ more))
more_parameters_alone [] rest before more h m = (alone_right_paren _, m)
more_parameters_alone (p ∷ ps) rest before more h m =
    (alone_comma _, (refl, ((type_is_word p.kind, refl), (refl, ((free_word p.name h.0, parameter_stop ps more), more_parameters_alone ps rest (p.name ∷ before) more h.2 m)))))

parameters_alone : (ps rest : Registers) (before : List (List ℕ)) (more : Pieces) → AreRegisters before (ps ++ rest) → AreAlone more
    → AreAlone (parameters_pieces ps ++ (right_paren ∷ more))
parameters_alone [] rest before more h m = ((refl, refl), (alone_right_paren _, m))
parameters_alone (p ∷ ps) rest before more h m =
    ((type_is_word p.kind, refl), (refl, ((free_word p.name h.0, parameter_stop ps more), more_parameters_alone ps rest (p.name ∷ before) more h.2 m)))

-- registers after parameters
registers_behind : (ps rs : Registers) (before : List (List ℕ)) (more : Pieces) → AreRegisters before (ps ++ rs) → AreAlone more
    → AreAlone (registers_pieces rs ++ more)
registers_behind [] rs before more h m = registers_alone rs before more h m
registers_behind (p ∷ ps) rs before more h m = registers_behind ps rs (p.name ∷ before) more h.2 m

-- ---- names in sight

name_or_none_found : (before : List (List ℕ)) (rs : Registers) (r : ℕ) (t : MonType) → AreRegisters before rs → slice_get (types_of rs) r ≡ Some t
    → is_word (name_or_none (slice_get rs r)) ≡ true
name_or_none_found before [] r t h e = absurd cc
name_or_none_found before (x ∷ rs) zero t h e = free_word x.name h.0
name_or_none_found before (x ∷ rs) (suc r) t h e = name_or_none_found (x.name ∷ before) rs r t h.2 e

global_or_none_found : (before : List (List ℕ)) (gs : List MonitoredGlobal) (g : ℕ) → AreGlobals before gs → g < length gs
    → is_word (global_or_none (slice_get gs g)) ≡ true
global_or_none_found before [] g h l = absurd (omega arith)
global_or_none_found before (x ∷ gs) zero h l = free_word x.name h.0
global_or_none_found before (x ∷ gs) (suc g) h l = global_or_none_found (x.name ∷ before) gs g h.3 (omega arith)

all_named : (before : List (List ℕ)) (rs : InSight) → AreRegisters before rs.registers → AreGlobals [] rs.globals → AreNamed (types_of rs.registers) rs
all_named before rs h g = record {
  registers = λ r t e. name_or_none_found before rs.registers r t h e;
  globals = λ k l. global_or_none_found [] rs.globals k g l;
}

result_is_word : (t : Option MonType) → is_word (result_word t) ≡ true
result_is_word None = refl
result_is_word (Some t) = type_is_word t

module _ (globals : List MonitoredGlobal) (are : AreGlobals [] globals) (gs : List Signature) (called : FunctionNames) (callees : AreCallees gs called) where
  function_alone : (f : MonFunction) (more : Pieces) → IsFunction globals gs f → AreAlone more → AreAlone (function_pieces called globals f ++ more)
  function_alone f more h m =
      let before = names_before [] globals in
      let rs : InSight = record { registers = f.parameters ++ f.registers; globals = globals } in
      let end : Pieces = new_line 0 ∷ Mark (codes "}") ∷ new_line 0 ∷ more in
      let named = all_named before rs h.registers are in
      let statements = body_is_alone (types_of rs.registers) rs named gs called callees f.body f.result end h.body (line_blank 0, (alone_right_brace _, (line_blank 0, m))) in
      let registers = registers_behind f.parameters f.registers before (statements_pieces called rs 1 f.body ++ end) h.registers statements in
      subst AreAlone (sym (function_is called globals f more)) (
        (result_is_word f.result, refl),
        (refl, ((free_word f.name h.name, refl), (alone_left_paren _, parameters_alone f.parameters f.registers before _ h.registers (refl, (alone_left_brace _, registers))))),
      )

  functions_alone : (before : List (List ℕ)) (fs : List MonFunction) → AreFunctions globals gs before fs → AreAlone (functions_pieces called globals fs)
  functions_alone before [] h = tt
  functions_alone before (f ∷ fs) h = function_alone f (functions_pieces called globals fs) h.0 (functions_alone (f.name ∷ before) fs h.2)

-- the names of functions are words
callee_named : (globals : List MonitoredGlobal) (gs : List Signature) (before : List (List ℕ)) (fs : List MonFunction) (k : ℕ) (g : Signature)
    → AreFunctions globals gs before fs
    → slice_get (map signature_of fs) k ≡ Some g → is_word (function_name (map (λ (f : MonFunction). f.name) fs) k) ≡ true
callee_named globals gs before [] k g h e = absurd cc
callee_named globals gs before (f ∷ fs) zero g h e = free_word f.name h.0.name
callee_named globals gs before (f ∷ fs) (suc k) g h e = callee_named globals gs (f.name ∷ before) fs k g h.2 e

-- ---- globals and literals

size_small : (c : PlainContent) → size_of_content c ≤ globals_bytes → size_of_content c ≤ greatest_literal
size_small c h = omega arith

content_alone : (name : List ℕ) (c : PlainContent) (more : Pieces) → IsFreeName name → IsContent c → size_of_content c ≤ globals_bytes → AreAlone more
    → AreAlone (content_pieces name c ++ more)
content_alone name (Zeros n) more free h small m = (
  (refl, refl),
  (
    refl,
    (
      (free_word name free, refl),
      (alone_left_bracket _, ((size_small (Zeros n) small, refl), (alone_right_bracket _, (alone_semicolon _, m)))),
    ),
  ),
)
content_alone name (Literal bytes) more free h small m = (
  (refl, refl),
  (
    refl,
    (
      (refl, refl),
      (
        refl,
        (
          (free_word name free, refl),
          (
            alone_left_bracket _,
            ((size_small (Literal bytes) small, refl), (alone_right_bracket _, (refl, (alone_assign _, (refl, (h, (alone_semicolon _, m))))))),
          ),
        ),
      ),
    ),
  ),
)

rounded_up : (n : ℕ) → n ≤ rounded n
rounded_up n = omega arith

pub content_is : (name : List ℕ) (c : PlainContent) (more end : Pieces) → (content_pieces name c ++ (new_line 0 ∷ more)) ++ end ≡ content_pieces name c ++ (new_line 0 ∷ (more ++ end))
content_is name c more end = append_assoc (content_pieces name c) (new_line 0 ∷ more) end

globals_alone : (gs : List MonitoredGlobal) (before : List (List ℕ)) (more : Pieces) → AreGlobals before gs → globals_taken gs ≤ globals_bytes → AreAlone more
    → AreAlone (globals_pieces gs ++ more)
globals_alone [] before more h room m = m
globals_alone (g ∷ gs) before more h room m =
    let size = size_of_content g.content in
    let up = rounded_up size in
    subst (λ (l : Pieces). AreAlone (Word (codes "static") ∷ blank ∷ l)) (sym (content_is g.name g.content (globals_pieces gs) more)) (
      (refl, refl),
      (
        refl,
        content_alone g.name g.content _ h.0 h.2 (omega arith)
            (line_blank 0, globals_alone gs (g.name ∷ before) more h.3 (omega arith) m),
      ),
    )

pub program_alone : (m : MonitoredProgram) → IsValid m
    → AreAlone (globals_pieces m.globals ++ functions_pieces (map (λ (f : MonFunction). f.name) m.functions) m.globals m.functions)
program_alone m v =
    let gs = map signature_of m.functions in
    let called : FunctionNames = map (λ (f : MonFunction). f.name) m.functions in
    globals_alone m.globals [] _ v.globals v.room
    (functions_alone m.globals v.globals gs called (λ k g e. callee_named m.globals gs [] m.functions k g v.functions e) [] m.functions v.functions)
