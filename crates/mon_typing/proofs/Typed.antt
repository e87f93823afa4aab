-- Checked expressions and calls are valid.
use Rattle.std.proofs.Common.{◌≡◌, ℕ, suc, ◌+◌, ◌<◌, ◌≤◌, max, Bool, true, false, ◌&&◌, cond, List, [], ◌∷◌, length, map, Option, Some, None, slice_get, option_map, Ok, Err, eqb, leb, leb-true, codes, unsigned_abs, bytes_eq}
use Rattle.std.proofs.Common.{refl, sym, ap, subst, ◌∙◌, arith}
use Rattle.std.proofs.lemmas.Option.{slice_get-map}
use Rattle.std.specs.List.{AllByRecursion}
use Rattle.c_syntax.specs.declared.place.Place.{Place}
use Rattle.mon_syntax.specs.declared.tree.MonType.{MonType}
use Rattle.mon_syntax.specs.declared.tree.MonType.TheVariants.{I8, U8, I16, U16, I32, U32, I64, U64, I128, Ptr}
use Rattle.mon_syntax.specs.declared.tree.AccessSize.{AccessSize}
use Rattle.mon_syntax.specs.declared.tree.MemoryCall.{MemoryCall}
use Rattle.mon_syntax.specs.declared.tree.MemoryCall.TheVariants as memory_call
use Rattle.mon_syntax.specs.declared.word.Runtime.{Runtime}
use Rattle.mon_syntax.specs.declared.word.Runtime.TheVariants as runtime
use Rattle.mon_syntax.specs.declared.word.Word.{Word}
use Rattle.mon_syntax.specs.declared.word.Word.TheVariants as word
use Rattle.mon_syntax.specs.Trees as tree
use Rattle.mon_syntax.specs.Trees.{MonExpression, MonStatement}
use Rattle.mon_syntax.specs.Parsed.{NameUse, ParsedExpression, Name, Constant, Binary, Minus, Flip, Cast, Load, ParsedArgument, Value, Number, Text, ParsedCall}
use Rattle.mon_syntax.specs.Grammar.{word_at, is_step_word, has_no_argument}
use Rattle.mon_syntax.specs.Valid as valid
use Rattle.mon_syntax.specs.Valid.{Types, HasType, IsExpression, Labels, TakesValue, AreArguments, Signature, IsStatement, is_arithmetic, is_whole, memory_parameters, has_operator, second_type}
use Rattle.mon_syntax.specs.Valid.{result_type, has_constant, greatest_number}
use Rattle.mon_syntax.specs.Checking.{Header, Scope, Typed, Checked, ◌>>=◌, ◌>>◌, demanded, same_type, type_fault, find_register, find_global, find_function, or_fault, function_called, bytes_of, word_bytes, result_of, place_of, checked_expression}
use Rattle.mon_syntax.specs.Checking.{of_type, value_of_type, small_number, size_named, copy_size_named, string, kind_named, others, wrong_number, no_more, next, assert_call, one_value}
use Rattle.mon_syntax.specs.Checking.{arguments_of, simple_call, number_call, range_call, copy_call, runtime_call, named_call}
use Rattle.mon_syntax.specs.Checking.{call_of_word, checked_call, taken, returned, global_or_fault, register_or_global, target_or_fault, target_of, register_or_fault}
use Rattle.mon_typing.specs.Within.{open_parens, HasFewParens, IsArgumentWithin, HasFewParensWhereAny}
use Rattle.mon_typing.proofs.Headers.{Stands, stands}
use Rattle.mon_typing.proofs.Holds.{Holds, holds_behind, holds_where, holds_all, first_true, second_true}

pub same : (a b : MonType) → same_type a b ≡ true → a ≡ b
same I8 I8 h = refl
same U8 U8 h = refl
same I16 I16 h = refl
same U16 U16 h = refl
same I32 I32 h = refl
same U32 U32 h = refl
same I64 I64 h = refl
same U64 U64 h = refl
same I128 I128 h = refl
same Ptr Ptr h = refl
same a b h = absurd cc

-- ---- registers

abbrev pub kinds : List (ℕ × MonType) → Types
kinds rs = map (λ (r : ℕ × MonType). r.1) rs

abbrev Found : ℕ → List (ℕ × MonType) → Option (ℕ × MonType) → Type 0
Found n rs None = Unit {0}
Found n rs (Some r) = (i : ℕ) × (r.0 ≡ n + i) × (slice_get (kinds rs) i ≡ Some r.1)

found_later : (n : ℕ) (x : ℕ × MonType) (rs : List (ℕ × MonType)) (o : Option (ℕ × MonType)) → Found (suc n) rs o → Found n (x ∷ rs) o
found_later n x rs None h = tt
found_later n x rs (Some r) h = let e : r.0 ≡ n + suc h.0 = omega (arith, h.1) in (suc h.0, e, h.2)

found_at : (n : ℕ) (x : ℕ × MonType) (rs : List (ℕ × MonType)) (o : Option (ℕ × MonType)) (b : Bool) → Found (suc n) rs o → Found n (x ∷ rs) (cond b (Some (n, x.1)) o)
found_at n x rs o true h = let e : n ≡ n + 0 = omega arith in (0, e, refl)
found_at n x rs o false h = found_later n x rs o h

found : (n : ℕ) (rs : List (ℕ × MonType)) (x : ℕ) → Found n rs (find_register n rs x)
found n [] x = tt
found n (r ∷ rs) x = found_at n r rs (find_register (suc n) rs x) (eqb r.0 x) (found (suc n) rs x)

-- a register that is found stands at its number
found_stands : (rs : List (ℕ × MonType)) (r : ℕ × MonType) → Found 0 rs (Some r) → slice_get (kinds rs) r.0 ≡ Some r.1
found_stands rs r h = let e : r.0 ≡ h.0 = omega (arith, h.1) in ap (slice_get (kinds rs)) e ∙ h.2

-- ---- globals

abbrev FoundGlobal : ℕ → List ℕ → Option ℕ → Type 0
FoundGlobal n gs None = Unit {0}
FoundGlobal n gs (Some g) = g < n + length gs

global_later : (n x : ℕ) (gs : List ℕ) (o : Option ℕ) → FoundGlobal (suc n) gs o → FoundGlobal n (x ∷ gs) o
global_later n x gs None h = tt
global_later n x gs (Some g) h = omega (arith, h)

global_at : (n x : ℕ) (gs : List ℕ) (o : Option ℕ) (b : Bool) → FoundGlobal (suc n) gs o → FoundGlobal n (x ∷ gs) (cond b (Some n) o)
global_at n x gs o true h = omega arith
global_at n x gs o false h = global_later n x gs o h

found_global : (n : ℕ) (gs : List ℕ) (x : ℕ) → FoundGlobal n gs (find_global n gs x)
found_global n [] x = tt
found_global n (g ∷ gs) x = global_at n g gs (find_global (suc n) gs x) (eqb g x) (found_global (suc n) gs x)

-- ---- functions

-- what a function of the header is in a program with these names
abbrev pub signature_for : List (List ℕ) → Header → Signature
signature_for names h = record { name = word_bytes names h.name; parameters = h.parameters; result = h.result }

holds_stands : (gs : List Header) (x : ℕ) (o : Option (ℕ × Header)) (at : Place) → find_function 0 gs x ≡ o → Holds (Stands gs x) (or_fault o at)
holds_stands gs x None at e = tt
holds_stands gs x (Some g) at e = stands gs x g e

result_at : (names : List (List ℕ)) (o : Option Header) (callee : Signature) → option_map (signature_for names) o ≡ Some callee → result_of o ≡ callee.result
result_at names None callee e = absurd cc
result_at names (Some g) callee e = let z : signature_for names g ≡ callee = cc in ap (λ (c : Signature). c.result) z

module _ (s : Scope) where
  abbrev types : Types
  types = kinds s.registers

  -- how many globals there are
  abbrev count : ℕ
  count = length s.globals

  -- a register of the function, or none
  abbrev pub IsTarget : Option (ℕ × MonType) → Type 0
  IsTarget None = Unit {0}
  IsTarget (Some r) = slice_get types r.0 ≡ Some r.1

  after_any : {A : Type 0} (c : Checked A) → Holds IsTarget (c >> Ok None)
  after_any (Ok a) = tt
  after_any (Err e) = tt

  target_at : (o : Option (ℕ × MonType)) (x : NameUse) → Found 0 s.registers o → Holds IsTarget (target_or_fault o s x)
  target_at None x h = after_any (or_fault (find_global 0 s.globals x.number) x.place)
  target_at (Some r) x h = found_stands s.registers r h

  pub target_valid : (x : NameUse) → Holds IsTarget (target_of s x)
  target_valid x = target_at (find_register 0 s.registers x.number) x (found 0 s.registers x.number)

  pub register_valid : (target : Option (ℕ × MonType)) (at : Place) → IsTarget target → Holds (λ r. slice_get types r.0 ≡ Some r.1) (register_or_fault target at)
  register_valid None at h = tt
  register_valid (Some r) at h = h

  -- ---- expressions

  abbrev pub IsTyped : ParsedExpression → Typed → Type 0
  IsTyped e x = HasType count types x.0 x.1 × (valid.open_parens x.0 ≡ open_parens e)

  global_typed : (o : Option ℕ) (x : NameUse) → FoundGlobal 0 s.globals o → Holds (IsTyped (Name x)) (global_or_fault o x.place)
  global_typed None x h = tt
  global_typed (Some g) x h = let k : g < count = omega (arith, h) in ((refl, k), refl)

  named_at : (o : Option (ℕ × MonType)) (x : NameUse) → Found 0 s.registers o → Holds (IsTyped (Name x)) (register_or_global o s x)
  named_at None x h = global_typed (find_global 0 s.globals x.number) x (found_global 0 s.globals x.number)
  named_at (Some r) x h = (found_stands s.registers r h, refl)

  pub typed : (e : ParsedExpression) → Holds (IsTyped e) (checked_expression s e)
  typed (Name x) = named_at (find_register 0 s.registers x.number) x (found 0 s.registers x.number)
  typed (Constant at t z) = holds_where (IsTyped (Constant at t z)) (has_constant t z) at (Ok (tree.Constant t z, t)) (λ h. ((refl, h), refl))
  typed (Binary at op a b) =
      holds_behind (IsTyped a) (IsTyped (Binary at op a b)) (checked_expression s a) _ (typed a) (λ x p.
      holds_behind (IsTyped b) (IsTyped (Binary at op a b)) (checked_expression s b) _ (typed b) (λ y q.
      holds_where (IsTyped (Binary at op a b)) (same_type y.1 (second_type op x.1) && has_operator op x.1) at (Ok (tree.Binary op x.1 x.0 y.0, result_type op x.1)) (λ h. (
        (
          refl,
          second_true (same_type y.1 (second_type op x.1)) (has_operator op x.1) h,
          p.0,
          subst (HasType count types y.0) (same y.1 (second_type op x.1) (first_true (same_type y.1 (second_type op x.1)) (has_operator op x.1) h)) q.0,
        ),
        λ i. suc (max (p.1 i) (q.1 i)),
      ))))
  typed (Minus at a) =
      holds_behind (IsTyped a) (IsTyped (Minus at a)) (checked_expression s a) _ (typed a) (λ x p.
      holds_where (IsTyped (Minus at a)) (is_arithmetic x.1) at (Ok (tree.Minus x.1 x.0, x.1)) (λ h. ((refl, h, p.0), λ i. suc (p.1 i))))
  typed (Flip at a) =
      holds_behind (IsTyped a) (IsTyped (Flip at a)) (checked_expression s a) _ (typed a) (λ x p.
      holds_where (IsTyped (Flip at a)) (is_arithmetic x.1) at (Ok (tree.Flip x.1 x.0, x.1)) (λ h. ((refl, h, p.0), λ i. suc (p.1 i))))
  typed (Cast at t a) =
      holds_behind (IsTyped a) (IsTyped (Cast at t a)) (checked_expression s a) _ (typed a) (λ x p.
      holds_where (IsTyped (Cast at t a)) (is_whole x.1 && is_whole t) at (Ok (tree.Cast t x.0, t)) (λ h.
      ((refl, second_true (is_whole x.1) (is_whole t) h, (x.1, first_true (is_whole x.1) (is_whole t) h, p.0)), λ i. suc (max 1 (p.1 i)))))
  typed (Load at t a) =
      holds_behind (IsTyped a) (IsTyped (Load at t a)) (checked_expression s a) _ (typed a) (λ x p.
      holds_where (IsTyped (Load at t a)) (same_type x.1 Ptr) at (Ok (tree.Load t x.0, t)) (λ h. ((refl, subst (HasType count types x.0) (same x.1 Ptr h) p.0), λ i. suc (max 1 (p.1 i)))))

  -- an expression that is of the type
  pub is_of_type : (t : MonType) (e : ParsedExpression) (x : Typed) → HasFewParens e → IsTyped e x → same_type x.1 t ≡ true → IsExpression count types x.0 t
  is_of_type t e x few p h = record { typed = subst (HasType count types x.0) (same x.1 t h) p.0; within = subst (λ (n : ℕ). n ≤ valid.most_open_parens) (sym p.1) few }

  pub is_expression : (t : MonType) (at : Place) (e : ParsedExpression) → HasFewParens e → Holds (λ v. IsExpression count types v t) (of_type s t at e)
  is_expression t at e few =
      holds_behind (IsTyped e) (λ v. IsExpression count types v t) (checked_expression s e) _ (typed e) (λ x p.
      holds_where (λ v. IsExpression count types v t) (same_type x.1 t) at (Ok x.0) (λ h. is_of_type t e x few p h))

  -- ---- arguments

  value_valid : (t : MonType) (a : ParsedArgument) → IsArgumentWithin a → Holds (λ v. IsExpression count types v t) (value_of_type s t a)
  value_valid t (Value e) few = is_expression t (place_of e) e few
  value_valid t (Number at z) w = tt
  value_valid t (Text at bytes) w = tt

  faulty : {A : Type 0} (P : A → Type 0) (c : Checked Typed) (at : Place) → Holds P (c >>= λ x. type_fault at)
  faulty P (Ok x) at = tt
  faulty P (Err e) at = tt

  faulty_before : {A B : Type 0} (P : A → Type 0) (c : Checked Typed) (at : Place) (go : B → Checked A) → Holds P ((c >>= λ x. type_fault at) >>= go)
  faulty_before P (Ok x) at go = tt
  faulty_before P (Err e) at go = tt

  number_valid : (a : ParsedArgument) → IsArgumentWithin a → Holds (λ n. n ≤ greatest_number) (small_number s a)
  number_valid (Value e) w =
      faulty_before (λ n. n ≤ greatest_number) (checked_expression s e) (place_of e) (λ (n : ℕ × Place). demanded (leb n.0 greatest_number) n.1 >> Ok n.0)
  number_valid (Number at z) w = holds_where (λ n. n ≤ greatest_number) (leb (unsigned_abs z) greatest_number) at (Ok (unsigned_abs z)) (leb-true (unsigned_abs z) greatest_number)
  number_valid (Text at bytes) w = tt

  string_valid : (a : ParsedArgument) → IsArgumentWithin a → Holds (λ w. AllByRecursion (λ b. b < 256) w.0) (string s a)
  string_valid (Value e) w = faulty (λ (w : List ℕ × Place). AllByRecursion (λ b. b < 256) w.0) (checked_expression s e) (place_of e)
  string_valid (Number at z) w = tt
  string_valid (Text at bytes) w = w

  kind_valid : (a : ParsedArgument) → IsArgumentWithin a → Holds (λ k. Unit {0}) (kind_named s a)
  kind_valid a w = holds_all (kind_named s a)

  size_valid : (a : ParsedArgument) → IsArgumentWithin a → Holds (λ k. Unit {0}) (size_named s a)
  size_valid a w = holds_all (size_named s a)

  copy_size_valid : (a : ParsedArgument) → IsArgumentWithin a → Holds (λ k. Unit {0}) (copy_size_named s a)
  copy_size_valid a w = holds_all (copy_size_named s a)

  abbrev Within : List ParsedArgument → Type 0
  Within xs = AllByRecursion IsArgumentWithin xs

  next_valid : {A B : Type 0} (P : A → Type 0) (Q : B → Type 0) (at : Place) (f : ParsedArgument → Checked A) (xs : List ParsedArgument) (go : A → List ParsedArgument → Checked B) → Within xs
      → ((a : ParsedArgument) → IsArgumentWithin a → Holds P (f a)) → ((x : A) (more : List ParsedArgument) → P x → Within more → Holds Q (go x more)) → Holds Q (next s at f xs go)
  next_valid P Q at f [] go w p h = tt
  next_valid P Q at f (a ∷ more) go w p h = holds_behind P Q (f a) (λ x. go x more) (p a w.0) (λ x q. h x more q w.1)

  wrong : {A : Type 0} (Q : A → Type 0) (c : Checked (Unit {0})) (at : Place) → Holds Q (c >> type_fault at)
  wrong Q (Ok u) at = tt
  wrong Q (Err e) at = tt

  more_valid : {A : Type 0} (Q : A → Type 0) (at : Place) (xs : List ParsedArgument) (a : A) → Q a → Holds Q (no_more s at xs a)
  more_valid Q at [] a q = q
  more_valid Q at (x ∷ xs) a q = wrong Q (others s (x ∷ xs)) at

  values_valid : (at : Place) (ts : Types) (xs : List ParsedArgument) → Within xs → Holds (λ es. AreArguments count types es ts) (arguments_of s at ts xs)
  values_valid at [] xs w = more_valid (λ es. AreArguments count types es []) at xs [] tt
  values_valid at (t ∷ ts) xs w =
      next_valid (λ e. IsExpression count types e t) (λ es. AreArguments count types es (t ∷ ts)) at (value_of_type s t) xs _ w (value_valid t) (λ e more p v.
      holds_behind (λ es. AreArguments count types es ts) (λ es. AreArguments count types es (t ∷ ts)) (arguments_of s at ts more) (λ es. Ok (e ∷ es)) (values_valid at ts more v) (λ es q. (p, q)))

  -- ---- calls

  abbrev signatures : List Signature
  signatures = map (signature_for s.names) s.functions

  function_found : (f : NameUse) → Holds (Stands s.functions f.number) (function_called s f)
  function_found f = holds_stands s.functions f.number (find_function 0 s.functions f.number) f.place refl

  module _ (t : Option MonType) (ls : Labels) where
    -- a call's statement, which is a step or not
    abbrev IsCall : Bool → MonStatement → Type 0
    IsCall b m = IsStatement count signatures types t ls m × (valid.depth m ≡ 1) × (valid.is_step m ≡ b)

    one_valid : (at : Place) (k : MonType) (xs : List ParsedArgument) (f : MonExpression → MonStatement) → Within xs → ((e : MonExpression) → IsExpression count types e k → IsCall false (f e)) → Holds (IsCall false) (one_value s at k xs f)
    one_valid at k xs f w h = next_valid (λ e. IsExpression count types e k) (IsCall false) at (value_of_type s k) xs (λ e more. no_more s at more (f e)) w (value_valid k) (λ e more p v. more_valid (IsCall false) at more (f e) (h e p))

    assert_valid : (at : Place) (xs : List ParsedArgument) → Within xs → Holds (IsCall false) (assert_call s at xs)
    assert_valid at xs w =
        next_valid (λ e. IsExpression count types e I32) (IsCall false) at (value_of_type s I32) xs _ w (value_valid I32) (λ d xs1 p w1.
        next_valid (λ e. IsExpression count types e I32) (IsCall false) at (value_of_type s I32) xs1 _ w1 (value_valid I32) (λ v xs2 q w2.
        next_valid (λ n. n ≤ greatest_number) (IsCall false) at (small_number s) xs2 _ w2 number_valid (λ n xs3 r w3.
        next_valid (λ n. n ≤ greatest_number) (IsCall false) at (small_number s) xs3 _ w3 number_valid (λ line xs4 l w4.
        next_valid (λ k. Unit {0}) (IsCall false) at (kind_named s) xs4 (λ k xs5. no_more s at xs5 (tree.Assert d v n line k)) w4 kind_valid (λ k xs5 u w5.
        more_valid (IsCall false) at xs5 (tree.Assert d v n line k) ((p, q, r, l), refl, refl))))))

    step_valid : (at : Place) (xs : List ParsedArgument) → Holds (IsCall (has_no_argument xs)) (no_more s at xs tree.Step)
    step_valid at [] = (tt, refl, refl)
    step_valid at (x ∷ xs) = wrong (IsCall false) (others s (x ∷ xs)) at

    simple_valid : (at : Place) (xs : List ParsedArgument) (f : MemoryCall) → Within xs → Holds (IsCall false) (simple_call s at xs f)
    simple_valid at xs f w =
        holds_behind (λ es. AreArguments count types es (memory_parameters f)) (IsCall false) (arguments_of s at (memory_parameters f) xs) (λ es. Ok (tree.Act None f es)) (values_valid at (memory_parameters f) xs w) (λ es p.
        ((p, tt), refl, refl))

    number_call_valid : (at : Place) (xs : List ParsedArgument) → Within xs → Holds (IsCall false) (number_call s at xs)
    number_call_valid at xs w =
        next_valid (λ e. IsExpression count types e Ptr) (IsCall false) at (value_of_type s Ptr) xs _ w (value_valid Ptr) (λ p xs1 q w1.
        next_valid (λ e. IsExpression count types e I128) (IsCall false) at (value_of_type s I128) xs1 _ w1 (value_valid I128) (λ o xs2 r w2.
        next_valid (λ a. Unit {0}) (IsCall false) at (size_named s) xs2 (λ a xs3. no_more s at xs3 (tree.Act None (memory_call.Number a) (p ∷ o ∷ []))) w2 size_valid (λ a xs3 u w3.
        more_valid (IsCall false) at xs3 (tree.Act None (memory_call.Number a) (p ∷ o ∷ [])) (((q, (r, tt)), tt), refl, refl))))

    range_call_valid : (at : Place) (xs : List ParsedArgument) (f : AccessSize → MemoryCall) → ((a : AccessSize) → memory_parameters (f a) ≡ Ptr ∷ I128 ∷ I128 ∷ []) → Within xs → Holds (IsCall false) (range_call s at xs f)
    range_call_valid at xs f takes w =
        next_valid (λ e. IsExpression count types e Ptr) (IsCall false) at (value_of_type s Ptr) xs _ w (value_valid Ptr) (λ p xs1 q w1.
        next_valid (λ e. IsExpression count types e I128) (IsCall false) at (value_of_type s I128) xs1 _ w1 (value_valid I128) (λ o xs2 r w2.
        next_valid (λ e. IsExpression count types e I128) (IsCall false) at (value_of_type s I128) xs2 _ w2 (value_valid I128) (λ n xs3 v w3.
        next_valid (λ a. Unit {0}) (IsCall false) at (size_named s) xs3 (λ a xs4. no_more s at xs4 (tree.Act None (f a) (p ∷ o ∷ n ∷ []))) w3 size_valid (λ a xs4 u w4.
        more_valid (IsCall false) at xs4 (tree.Act None (f a) (p ∷ o ∷ n ∷ [])) ((subst (AreArguments count types (p ∷ o ∷ n ∷ [])) (sym (takes a)) (q, (r, (v, tt))), tt), refl, refl)))))

    copy_call_valid : (at : Place) (xs : List ParsedArgument) → Within xs → Holds (IsCall false) (copy_call s at xs)
    copy_call_valid at xs w =
        next_valid (λ e. IsExpression count types e Ptr) (IsCall false) at (value_of_type s Ptr) xs _ w (value_valid Ptr) (λ p xs1 q w1.
        next_valid (λ e. IsExpression count types e Ptr) (IsCall false) at (value_of_type s Ptr) xs1 _ w1 (value_valid Ptr) (λ o xs2 r w2.
        next_valid (λ a. Unit {0}) (IsCall false) at (copy_size_named s) xs2 (λ a xs3. no_more s at xs3 (tree.Act None (memory_call.Copy a) (p ∷ o ∷ []))) w2 copy_size_valid (λ a xs3 u w3.
        more_valid (IsCall false) at xs3 (tree.Act None (memory_call.Copy a) (p ∷ o ∷ [])) (((q, (r, tt)), tt), refl, refl))))

    runtime_valid : (f : NameUse) (at : Place) (xs : List ParsedArgument) (r : Runtime) → Within xs → Holds (IsCall (is_step_word (word.Runtime r) && has_no_argument xs)) (runtime_call s f at xs r)
    runtime_valid f at xs runtime.Step w = step_valid at xs
    runtime_valid f at xs runtime.Assert w = assert_valid at xs w
    runtime_valid f at xs runtime.PutChar w = one_valid at I32 xs (tree.PutChar None) w (λ e p. ((tt, p), refl, refl))
    runtime_valid f at xs runtime.GetChar w = more_valid (IsCall false) at xs (tree.GetChar None) (tt, refl, refl)
    runtime_valid f at xs runtime.Exit w = one_valid at I32 xs tree.Exit w (λ e p. (p, refl, refl))
    runtime_valid f at xs runtime.PrintText w = next_valid (λ v. AllByRecursion (λ b. b < 256) v.0) (IsCall false) at (string s) xs (λ v more. no_more s at more (tree.PrintText v.0)) w string_valid
        (λ v more p u. more_valid (IsCall false) at more (tree.PrintText v.0) (p, refl, refl))
    runtime_valid f at xs runtime.PrintSigned w = one_valid at I64 xs tree.PrintSigned w (λ e p. (p, refl, refl))
    runtime_valid f at xs runtime.PrintUnsigned w = one_valid at U64 xs tree.PrintUnsigned w (λ e p. (p, refl, refl))
    runtime_valid f at xs runtime.PrintString w = one_valid at Ptr xs tree.PrintString w (λ e p. (p, refl, refl))
    runtime_valid f at xs runtime.StoreBlock w = simple_valid at xs memory_call.StoreBlock w
    runtime_valid f at xs runtime.DeleteBlock w = simple_valid at xs memory_call.DeleteBlock w
    runtime_valid f at xs runtime.Copy w = copy_call_valid at xs w
    runtime_valid f at xs runtime.Number w = number_call_valid at xs w
    runtime_valid f at xs runtime.Valid w = range_call_valid at xs memory_call.Valid (λ a. refl) w
    runtime_valid f at xs runtime.ValidRead w = range_call_valid at xs memory_call.ValidRead (λ a. refl) w
    runtime_valid f at xs runtime.Initialized w = range_call_valid at xs memory_call.Initialized (λ a. refl) w
    runtime_valid f at xs runtime.Pointer w = simple_valid at xs memory_call.Pointer w
    runtime_valid f at xs runtime.Inside w = simple_valid at xs memory_call.Inside w
    runtime_valid f at xs runtime.BaseAddr w = simple_valid at xs memory_call.BaseAddr w
    runtime_valid f at xs runtime.BlockLength w = simple_valid at xs memory_call.BlockLength w
    runtime_valid f at xs runtime.Offset w = simple_valid at xs memory_call.Offset w
    runtime_valid f at xs runtime.Separated w = simple_valid at xs memory_call.Separated w
    runtime_valid f at xs runtime.Malloc w = simple_valid at xs memory_call.Malloc w
    runtime_valid f at xs runtime.Calloc w = simple_valid at xs memory_call.Calloc w
    runtime_valid f at xs runtime.Free w = simple_valid at xs memory_call.Free w
    runtime_valid f at xs runtime.Kept w = tt

    called_at : (f : NameUse) (at : Place) (xs : List ParsedArgument) (g : ℕ × Header) (b : Bool) → Within xs → Stands s.functions f.number g → bytes_eq (bytes_of s f.number) (codes "main") ≡ b
        → Holds (IsCall false) (cond b (wrong_number s at xs) (arguments_of s at g.1.parameters xs >>= λ es. Ok (tree.Call None g.0 es)))
    called_at f at xs g true w p e = wrong (IsCall false) (others s xs) at
    called_at f at xs g false w p e =
        holds_behind (λ es. AreArguments count types es g.1.parameters) (IsCall false) (arguments_of s at g.1.parameters xs) (λ es. Ok (tree.Call None g.0 es)) (values_valid at g.1.parameters xs w) (λ es q. (
          record {
            callee = signature_for s.names g.1;
            has = slice_get-map (signature_for s.names) s.functions g.0 ∙ ap (option_map (signature_for s.names)) p.at;
            not_main = ap (λ n. bytes_eq (bytes_of s n) (codes "main")) p.named ∙ e;
            arguments = q;
            takes = tt;
          },
          refl,
          refl,
        ))

    named_valid : (f : NameUse) (at : Place) (xs : List ParsedArgument) → Within xs → Holds (IsCall false) (named_call s f at xs)
    named_valid f at xs w =
        holds_behind (Stands s.functions f.number) (IsCall false) (function_called s f) _ (function_found f) (λ g p. called_at f at xs g (bytes_eq (bytes_of s f.number) (codes "main")) w p refl)

    word_valid : (c : ParsedCall) (w : Word) → Within c.arguments → Holds (IsCall (is_step_word w && has_no_argument c.arguments)) (call_of_word s c w)
    word_valid c (word.Runtime r) v = runtime_valid c.callee c.place c.arguments r v
    word_valid c w v = named_valid c.callee c.place c.arguments v

    pub call_valid : (c : ParsedCall) → Within c.arguments → Holds (IsCall (is_step_word (word_at s.words c.callee.number) && has_no_argument c.arguments)) (checked_call s c)
    call_valid c w = word_valid c (word_at s.words c.callee.number) w

    -- the register takes the value of a call, where there is one of its type
    given_at : (r : ℕ × MonType) (at : Place) (f : ℕ) (es : List MonExpression) (o : Option MonType) (p : valid.IsCall count signatures types None f es) → slice_get types r.0 ≡ Some r.1 → o ≡ p.callee.result
        → Holds (IsCall false) (elim o [ None ↦ type_fault at | Some t ↦ demanded (same_type t r.1) at >> Ok (tree.Call (Some r.0) f es) ])
    given_at r at f es None p h e = tt
    given_at r at f es (Some k) p h e =
        holds_where (IsCall false) (same_type k r.1) at (Ok (tree.Call (Some r.0) f es)) (λ z. (
          record { callee = p.callee; has = p.has; not_main = p.not_main; arguments = p.arguments; takes = subst (TakesValue types (Some r.0)) e (h ∙ ap Some (sym (same k r.1 z))) },
          refl,
          refl,
        ))

    act_at : (r : ℕ × MonType) (at : Place) (f : MemoryCall) (es : List MonExpression) (o : Option MonType) → slice_get types r.0 ≡ Some r.1 → AreArguments count types es (memory_parameters f) → o ≡ valid.memory_result f
        → Holds (IsCall false) (elim o [ None ↦ type_fault at | Some t ↦ demanded (same_type t r.1) at >> Ok (tree.Act (Some r.0) f es) ])
    act_at r at f es None h p e = tt
    act_at r at f es (Some k) h p e =
        holds_where (IsCall false) (same_type k r.1) at (Ok (tree.Act (Some r.0) f es)) (λ z. ((p, subst (TakesValue types (Some r.0)) e (h ∙ ap Some (sym (same k r.1 z)))), refl, refl))

    result_is : (f : ℕ) (callee : Signature) → slice_get signatures f ≡ Some callee → result_of (slice_get s.functions f) ≡ callee.result
    result_is f callee has = result_at s.names (slice_get s.functions f) callee (sym (slice_get-map (signature_for s.names) s.functions f) ∙ has)

    pub taken_valid : (b : Bool) (r : ℕ × MonType) (at : Place) (m : MonStatement) → slice_get types r.0 ≡ Some r.1 → IsCall b m → Holds (IsCall false) (taken s r at m)
    taken_valid b r at (tree.PutChar x e) h p = holds_where (IsCall false) (same_type I32 r.1) at (Ok (tree.PutChar (Some r.0) e)) (λ k. ((h ∙ ap Some (sym (same I32 r.1 k)), p.0.1), refl, refl))
    taken_valid b r at (tree.GetChar x) h p = holds_where (IsCall false) (same_type I32 r.1) at (Ok (tree.GetChar (Some r.0))) (λ k. (h ∙ ap Some (sym (same I32 r.1 k)), refl, refl))
    taken_valid b r at (tree.Act x f es) h p = act_at r at f es (valid.memory_result f) h p.0.0 refl
    taken_valid b r at (tree.Call x f es) h p =
        let c = p.0 in
        given_at r at f es (result_of (slice_get s.functions f)) (record { callee = c.callee; has = c.has; not_main = c.not_main; arguments = c.arguments; takes = tt }) h (result_is f c.callee c.has)
    taken_valid b r at m h p = tt

  pub returned_valid : (t : Option MonType) (ls : Labels) (at : Place) (e : Option ParsedExpression) → HasFewParensWhereAny e → Holds (IsCall t ls false) (returned s t at e)
  returned_valid None ls at None few = (tt, refl, refl)
  returned_valid None ls at (Some e) few = faulty (IsCall None ls false) (checked_expression s e) at
  returned_valid (Some t) ls at None few = tt
  returned_valid (Some t) ls at (Some e) few = holds_behind (λ v. IsExpression count types v t) (IsCall (Some t) ls false) (of_type s t at e) (λ x. Ok (tree.Return (Some x))) (is_expression t at e few) (λ x p. (p, refl, refl))
