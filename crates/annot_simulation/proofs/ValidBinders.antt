-- The code of a chain's binders is valid where that of what stands within them is.
use Rattle.std.proofs.Common.{◌≡◌, ℕ, suc, ◌+◌, ◌*◌, ◌^◌, ◌≤◌, ◌<◌, ℤ, pos, negsuc, ◌≤ℤ◌, int_lt, Bool, true, false, ◌||◌, ◌&&◌, if◌then◌else◌, cond, nat_eq, max, List, [], ◌∷◌, ◌++◌, length, length-append, Option, Some, None, slice_get}
use Rattle.std.proofs.Common.{refl, sym, ap, ◌∙◌, subst, append_assoc, arith}
use Rattle.std.proofs.lemmas.Int.{ints}
use Rattle.std.proofs.Math.Nat.{max-le, le-max_left, le-max_right}
use Rattle.std.proofs.Math.Pow.{pow_pos}
use Rattle.std.specs.Int.Signed.{mag}
use Rattle.std.specs.Ordering.{int_eq}
use Rattle.std.specs.Prelude.{bytes_eq}
use Rattle.c_syntax.specs.declared.annotation.Range.{Range}
use Rattle.c_syntax.specs.declared.types.CInt.{CInt}
use Rattle.c_syntax.specs.declared.types.CInt.TheVariants as c
use Rattle.c_syntax.specs.declared.types.Width.{Width}
use Rattle.c_syntax.specs.declared.types.Width.TheVariants.{W32, W64, W128}
use Rattle.c_syntax.specs.declared.logic.Quantifier.{Quantifier}
use Rattle.c_syntax.specs.declared.logic.Quantifier.TheVariants.{ForAll, Exists}
use Rattle.c_syntax.specs.Formulas.{CastType, Integers, OfC}
use Rattle.c_syntax.specs.Logic.{Binder}
use Rattle.c_model.specs.Integers.{integer_type, truth}
use Rattle.c_model.specs.Quantifiers.{first_of, undecided}
use Rattle.c_model.specs.Ranges.{least_i128, range_in_bits, width_of_range}
use Rattle.c_model.specs.TermRanges.{raised, type_range}
use Rattle.ea_num.proofs.Bounded.{in_bits_from_test}
use Rattle.ea_num.proofs.Converted.{mag_between}
use Rattle.mon_syntax.specs.declared.tree.MonOp.TheVariants as mon
use Rattle.mon_syntax.specs.declared.tree.MonType.{MonType}
use Rattle.mon_syntax.specs.declared.tree.MonType.TheVariants.{I32, Ptr}
use Rattle.mon_syntax.specs.Arithmetic.{fits}
use Rattle.mon_syntax.specs.Trees.{MonExpression, Register, Constant, Binary, If, Set, MonStatements, NoStatement, Then}
use Rattle.mon_syntax.specs.Valid.{Types, HasType, IsExpression, AreStatements, Labels, Signature, has_constant, has_label, has_no_step, is_arithmetic, open_parens}
use Rattle.c_effects.specs.Expressions.{before, one, set}
use Rattle.quantifier_loops.specs.Laws.{IsNumber}
use Rattle.quantifier_loops.specs.Tries.{Between, at_most, first_behind, from_first, guarded, is_one_behind, noted, noted_as, nothing_noted, one_try}
use Rattle.quantifier_loops.specs.Upward.{tried_label, turn_end, upward}
use Rattle.quantifier_loops.proofs.Labels.{tried_differ}
use Rattle.quantifier_loops.proofs.Valid.{upward_is_valid}
use Rattle.annot_simulation.specs.Binders.{bounded_code, greatest_of, index_behind, last_before, least_of, over_code, tried_with, tries_code, with_last}
use Rattle.annot_simulation.specs.Code.{Code, type_of_width, wider}
use Rattle.annot_simulation.specs.Held.{Held, Sorted, held_by, sorts_held, sorts_within}
use Rattle.annot_simulation.specs.Inside.{open_in_all, open_if_any}
use Rattle.annot_simulation.specs.Validity.{AreOutside, Begins, HeldTyped, StandIn}
use Rattle.annot_simulation.proofs.Binders.{first_more, is_no_pointer, raised_more}
use Rattle.annot_simulation.proofs.Exact.{Fits, fits_left, fits_right, signed_within}
use Rattle.annot_simulation.proofs.Inside.{Inside, over_inside, tried_inside}
use Rattle.annot_simulation.proofs.Prefixes.{over_begins}
use Rattle.annot_simulation.proofs.Opens.{open_before, open_guarded, open_if, open_one}
use Rattle.annot_simulation.proofs.Typed.{arithmetic_typed, begins_front, binary_less, relation_typed, type_at, width_constant}
use Rattle.annot_simulation.proofs.ValidParts.{FlagValid, before_valid, expression, guarded_valid, number_valid, register_valid, set_valid}
use Rattle.annot_simulation.proofs.Variables.{some_same}

-- ---- registers

stand_here : (ks rest : Types) (a : Types) → StandIn (a ++ (ks ++ rest)) (length a) ks
stand_here [] rest a = tt
stand_here (k ∷ ks) rest a = (here a, subst (λ n. StandIn (a ++ (k ∷ (ks ++ rest))) n ks) long (subst (λ l. StandIn l (length (a ++ k ∷ [])) ks) (append_assoc a (k ∷ []) (ks ++ rest)) (stand_here ks rest (a ++ k ∷ []))))
  where
    here : (a : Types) → slice_get (a ++ (k ∷ (ks ++ rest))) (length a) ≡ Some k
    here [] = refl
    here (x ∷ a) = here a

    long : length (a ++ k ∷ []) ≡ suc (length a)
    long = omega (arith, length-append a (k ∷ []))

-- the registers that are taken behind others stand there
pub stand_behind : (rs ks ts : Types) → Begins (rs ++ ks) ts → StandIn ts (length rs) ks
stand_behind rs ks ts h = subst (λ l. StandIn l (length rs) ks) (sym (h.is ∙ append_assoc rs ks h.rest)) (stand_here ks h.rest rs)

begins_long : (rs ts : Types) → Begins rs ts → length rs ≤ length ts
begins_long rs ts h = let e = ap length h.is in omega (arith, e, length-append rs h.rest)

-- one more name
pub one_typed : (ts : Types) (held : List Held) (h : Held) → slice_get ts h.register ≡ Some h.kind → HeldTyped ts held → HeldTyped ts (h ∷ held)
one_typed ts held h at typed x o e = by (nat_eq h.number x) e
  where
    by : (t : Bool) → cond t (Some h) (held_by x held) ≡ Some o → slice_get ts o.register ≡ Some o.kind
    by true f = let same : h ≡ o = some_same h o f in subst (λ (h : Held). slice_get ts h.register ≡ Some h.kind) same at
    by false f = typed x o f

-- ---- labels

pub outside_more : (ls : Labels) (m n : ℕ) → m ≤ n → AreOutside ls m → AreOutside ls n
outside_more ls m n le h i at number = h i (omega (arith, le, at)) number

outside_own : (ls : Labels) (r index : ℕ) → r ≤ index → IsNumber index → AreOutside ls r → AreOutside (tried_label index ∷ ls) (suc index)
outside_own ls r index le counted h i at number =
    let other = tried_differ i index number counted (λ e. omega (arith, e, at)) in
    let rest = h i (omega (arith, le, at)) number in (λ j. other j || rest j)

-- ---- numbers of types of C

-- the least and the greatest value of a type
record Ends (k : CInt) : Type 0 where
  low : (type_range k).lo ≤ℤ pos 0
  high : pos 0 ≤ℤ (type_range k).hi
  low_small : mag (type_range k).lo < 2 ^ 127
  high_small : mag (type_range k).hi < 2 ^ 127
  low_written : int_eq (type_range k).lo least_i128 ≡ false
  high_written : int_eq (type_range k).hi least_i128 ≡ false

ends : (k : CInt) → Ends k
ends c.I8 = record { low = omega (arith, ints); high = omega (arith, ints); low_small = omega arith; high_small = omega arith; low_written = refl; high_written = refl }
ends c.U8 = record { low = omega (arith, ints); high = omega (arith, ints); low_small = omega arith; high_small = omega arith; low_written = refl; high_written = refl }
ends c.I16 = record { low = omega (arith, ints); high = omega (arith, ints); low_small = omega arith; high_small = omega arith; low_written = refl; high_written = refl }
ends c.U16 = record { low = omega (arith, ints); high = omega (arith, ints); low_small = omega arith; high_small = omega arith; low_written = refl; high_written = refl }
ends c.I32 = record { low = omega (arith, ints); high = omega (arith, ints); low_small = omega arith; high_small = omega arith; low_written = refl; high_written = refl }
ends c.U32 = record { low = omega (arith, ints); high = omega (arith, ints); low_small = omega arith; high_small = omega arith; low_written = refl; high_written = refl }
ends c.I64 = record { low = omega (arith, ints); high = omega (arith, ints); low_small = omega arith; high_small = omega arith; low_written = refl; high_written = refl }
ends c.U64 = record { low = omega (arith, ints); high = omega (arith, ints); low_small = omega arith; high_small = omega arith; low_written = refl; high_written = refl }

-- a number between 0 and an end of a range has the width of the range
between_ends : (r : Range) (z lo hi : ℤ) → ((h : ℕ) → range_in_bits h r ≡ true → (mag lo < 2 ^ h) × (mag hi < 2 ^ h)) → lo ≤ℤ z → z ≤ℤ hi → mag z < 2 ^ 127 → Fits (width_of_range r) z
between_ends r z lo hi in_bits above below small = by (range_in_bits 31 r) (range_in_bits 63 r) refl refl
  where
    by : (s t : Bool) → range_in_bits 31 r ≡ s → range_in_bits 63 r ≡ t → Fits (width_of_range r) z
    by true t p q = let i = in_bits 31 p in rw p (record { sfits = mag_between lo z hi (2 ^ 31) above below i.0 i.1 })
    by false true p q = let i = in_bits 63 q in rw (p, q) (record { sfits = mag_between lo z hi (2 ^ 63) above below i.0 i.1 })
    by false false p q = rw (p, q) (record { sfits = small })

low_fits : (r : Range) (z : ℤ) → r.lo ≤ℤ z → z ≤ℤ pos 0 → mag z < 2 ^ 127 → Fits (width_of_range r) z
low_fits r z above below small = between_ends r z r.lo (pos 0) (λ h e. let i = in_bits_from_test h r e in (i.lo_in, power_some h)) above below small
  where
    power_some : (h : ℕ) → 0 < 2 ^ h
    power_some h = pow_pos h

high_fits : (r : Range) (z : ℤ) → z ≤ℤ r.hi → pos 0 ≤ℤ z → mag z < 2 ^ 127 → Fits (width_of_range r) z
high_fits r z below above small = between_ends r z (pos 0) r.hi (λ h e. let i = in_bits_from_test h r e in (power_some h, i.hi_in)) above below small
  where
    power_some : (h : ℕ) → 0 < 2 ^ h
    power_some h = pow_pos h

fits_width : (w : Width) (z : ℤ) → Fits w z → fits (type_of_width w) z ≡ true
fits_width W32 z f = signed_within 2147483647 z f.sfits
fits_width W64 z f = signed_within 9223372036854775807 z f.sfits
fits_width W128 z f = signed_within 170141183460469231731687303715884105727 z f.sfits

-- the least value of a binder is written in the width of both bounds, where it is asked for
least_written : (a b : Range) (kind : CastType) (at z : ℤ) → a.lo ≤ℤ at → least_of kind at ≡ Some z → has_constant (type_of_width (wider (width_of_range a) (width_of_range b))) z ≡ true
least_written a b Integers at z le e = absurd cc
least_written a b (OfC t) at z le e = by (integer_type t) e
  where
    by : (o : Option CInt) → elim o [ None ↦ None | Some k ↦ if int_lt at (type_range k).lo then Some (type_range k).lo else None ] ≡ Some z → has_constant (type_of_width (wider (width_of_range a) (width_of_range b))) z ≡ true
    by None f = absurd cc
    by (Some k) f = of_test (int_lt at (type_range k).lo) refl f
      where
        of_test : (t : Bool) → int_lt at (type_range k).lo ≡ t → (if t then Some (type_range k).lo else None) ≡ Some z → has_constant (type_of_width (wider (width_of_range a) (width_of_range b))) z ≡ true
        of_test true p f =
            let x = ends k in
            let width = wider (width_of_range a) (width_of_range b) in
            subst (λ z. has_constant (type_of_width width) z ≡ true) (some_same (type_range k).lo z f)
            (width_constant width (type_range k).lo (fits_width width (type_range k).lo (fits_left (width_of_range a) (width_of_range b) (type_range k).lo (low_fits a (type_range k).lo (omega (arith, ints, le, p)) x.low x.low_small))) x.low_written)
        of_test false p f = absurd cc

greatest_written : (a b : Range) (kind : CastType) (most z : ℤ) → most ≤ℤ b.hi → greatest_of kind most ≡ Some z → has_constant (type_of_width (wider (width_of_range a) (width_of_range b))) z ≡ true
greatest_written a b Integers most z le e = absurd cc
greatest_written a b (OfC t) most z le e = by (integer_type t) e
  where
    by : (o : Option CInt) → elim o [ None ↦ None | Some k ↦ if int_lt (type_range k).hi most then Some (type_range k).hi else None ] ≡ Some z → has_constant (type_of_width (wider (width_of_range a) (width_of_range b))) z ≡ true
    by None f = absurd cc
    by (Some k) f = of_test (int_lt (type_range k).hi most) refl f
      where
        of_test : (t : Bool) → int_lt (type_range k).hi most ≡ t → (if t then Some (type_range k).hi else None) ≡ Some z → has_constant (type_of_width (wider (width_of_range a) (width_of_range b))) z ≡ true
        of_test true p f =
            let x = ends k in
            let width = wider (width_of_range a) (width_of_range b) in
            subst (λ z. has_constant (type_of_width width) z ≡ true) (some_same (type_range k).hi z f)
            (width_constant width (type_range k).hi (fits_width width (type_range k).hi (fits_right (width_of_range a) (width_of_range b) (type_range k).hi (high_fits b (type_range k).hi (omega (arith, ints, le, p)) x.high x.high_small)))
            x.high_written)
        of_test false p f = absurd cc

width_counts : (w : Width) → is_arithmetic (type_of_width w) ≡ true
width_counts W32 = refl
width_counts W64 = refl
width_counts W128 = refl

one_written : (w : Width) → has_constant (type_of_width w) (pos 1) ≡ true
one_written W32 = refl
one_written W64 = refl
one_written W128 = refl

-- ---- code of a binder

module _ (g : ℕ) (gs : List Signature) (ts : Types) (result : Option MonType) (f m : ℕ) (some : 3 ≤ m) (flags : f ≤ m) (few : m ≤ 1990) (counted : IsNumber (length ts)) where
  -- valid code of a truth, in which so many parentheses are open, and so many in its flag
  pub record Written (ls : Labels) (c : Code) : Type 0 where
    pub statements : AreStatements g gs ts result ls c.stmts
    pub opened : open_in_all c.stmts ≤ m
    pub flag : FlagValid g gs ts result ls c.flag f
    pub typed : HasType g ts c.value I32
    pub parens : open_parens c.value ≤ m

  -- an expression of the type, in which fewer are open
  pub record Bound (width : Width) (e : MonExpression) : Type 0 where
    pub typed : HasType g ts e (type_of_width width)
    pub parens : open_parens e < m

  set_number : (ls : Labels) (r : ℕ) (z : ℤ) → slice_get ts r ≡ Some I32 → HasType g ts (Constant I32 z) I32 → AreStatements g gs ts result ls (set r (Constant I32 z))
  set_number ls r z at typed = set_valid g gs ts result ls r (Constant I32 z) I32 at (number_valid g gs ts result ls z typed)

  module _ (width : Width) (q : Quantifier) (above : Bool) (least : Option ℤ) (from to : MonExpression) (rs : Types) (c : Code) where
    abbrev k : MonType
    k = type_of_width width

    abbrev r : ℕ
    r = length rs

    abbrev index : ℕ
    index = index_behind rs

    abbrev bounds : Between
    bounds = record { above = above; kind = k; least = least; from = from; to = to }

    abbrev inner : MonStatements
    inner = one_try q r c.stmts c.flag c.value

    module _ (ls : Labels) (begins : Begins (tried_with k rs) ts) (from_bound : Bound width from) (to_bound : Bound width to) (least_is : (z : ℤ) → least ≡ Some z → has_constant k z ≡ true) (fresh : has_label ls (tried_label index) ≡ false)
        (v : Written (tried_label index ∷ ls) c) (stays : Inside c.stmts) where
      stand : StandIn ts r (I32 ∷ I32 ∷ I32 ∷ k ∷ [])
      stand = stand_behind rs (I32 ∷ I32 ∷ I32 ∷ k ∷ []) ts begins

      flag_at : slice_get ts r ≡ Some I32
      flag_at = stand.0

      truth_at : slice_get ts (suc r) ≡ Some I32
      truth_at = stand.1.0

      stop_at : slice_get ts (suc (suc r)) ≡ Some I32
      stop_at = stand.1.1.0

      index_at : slice_get ts index ≡ Some k
      index_at = stand.1.1.1.0

      number : IsNumber index
      number = omega (arith, counted, begins_long (tried_with k rs) ts begins, length-append rs (I32 ∷ I32 ∷ I32 ∷ k ∷ []))

      noted_valid : (ls : Labels) (q : Quantifier) (e : MonExpression) → HasType g ts e I32 → open_parens e ≤ m → AreStatements g gs ts result ls (noted q r e)
      noted_valid ls ForAll e typed parens = ((expression g gs ts result ls e I32 m typed parens (omega (arith, few)), tt, ((set_number ls (suc r) (pos 0) truth_at (refl, refl)).0, set_number ls (suc (suc r)) (pos 1) stop_at (refl, refl))), tt)
      noted_valid ls Exists e typed parens = ((expression g gs ts result ls e I32 m typed parens (omega (arith, few)), ((set_number ls (suc r) (pos 1) truth_at (refl, refl)).0, set_number ls (suc (suc r)) (pos 1) stop_at (refl, refl)), tt), tt)

      noted_open : (q : Quantifier) (e : MonExpression) → open_parens e ≤ m → open_in_all (noted q r e) ≤ m
      noted_open ForAll e parens = open_if e NoStatement (noted_as r (pos 0)) m parens (omega arith) (omega (arith, some))
      noted_open Exists e parens = open_if e (noted_as r (pos 1)) NoStatement m parens (omega (arith, some)) (omega arith)

      inner_valid : AreStatements g gs ts result (tried_label index ∷ ls) inner
      inner_valid =
          before_valid g gs ts result (tried_label index ∷ ls) c.stmts (guarded c.flag (noted q r c.value) (nothing_noted r)) v.statements
          (guarded_valid g gs ts result (tried_label index ∷ ls) c.flag (noted q r c.value) (nothing_noted r) f (omega (arith, flags, few)) v.flag (noted_valid (tried_label index ∷ ls) q c.value v.typed v.parens)
          ((set_number (tried_label index ∷ ls) r (pos 0) flag_at (refl, refl)).0, set_number (tried_label index ∷ ls) (suc (suc r)) (pos 1) stop_at (refl, refl)))

      flag_open : (o : Option MonExpression) → FlagValid g gs ts result (tried_label index ∷ ls) o f → open_if_any o ≤ m
      flag_open None h = omega arith
      flag_open (Some e) h = let x = h.1 in omega (arith, x, flags)

      inner_open : open_in_all inner ≤ m
      inner_open =
          open_before c.stmts (guarded c.flag (noted q r c.value) (nothing_noted r)) m v.opened
          (open_guarded c.flag (noted q r c.value) (nothing_noted r) m (flag_open c.flag v.flag) (noted_open q c.value v.parens) (omega (arith, some)))

      -- the first value behind the lower bound
      first_valid : IsExpression g ts (first_behind bounds) k
      first_valid = by above
        where
          by : (a : Bool) → IsExpression g ts (first_behind (record bounds { above = a })) k
          by true = expression g gs ts result ls (Binary mon.Add k from (Constant k (pos 1))) k m (arithmetic_typed g ts mon.Add width from (Constant k (pos 1)) refl from_bound.typed (refl, one_written width))
              (binary_less mon.Add k from (Constant k (pos 1)) m from_bound.parens (omega (arith, some))) (omega (arith, few))
          by false = expression g gs ts result ls from k m from_bound.typed (let p = from_bound.parens in omega (arith, p)) (omega (arith, few))

      first_open : open_parens (first_behind bounds) ≤ m
      first_open = by above
        where
          by : (a : Bool) → open_parens (first_behind (record bounds { above = a })) ≤ m
          by true = binary_less mon.Add k from (Constant k (pos 1)) m from_bound.parens (omega (arith, some))
          by false = let p = from_bound.parens in omega (arith, p)

      loop_valid : (e : MonExpression) → IsExpression g ts e k → AreStatements g gs ts result ls (one (upward k index e to inner (suc (suc r))))
      loop_valid e h =
          let p = to_bound.parens in
          ((upward_is_valid g gs ts result ls k index (suc (suc r)) e to inner number (width_counts width) index_at stop_at h to_bound.typed (omega (arith, p, few)) fresh (tried_inside q r c.stmts c.flag c.value stays).1 inner_valid).0, tt)

      loop_open : (e : MonExpression) → open_parens e ≤ m → open_in_all (one (upward k index e to inner (suc (suc r)))) ≤ m
      loop_open e parens =
          let p = to_bound.parens in
          let turn = open_before inner (turn_end k index to (suc (suc r))) m inner_open (max-le (omega arith) (max-le (max-le (binary_less mon.Eq k (Register index) to m (omega (arith, some)) p) (omega arith)) (omega (arith, some)))) in
          max-le (max-le parens (max-le (max-le (binary_less mon.Le k (Register index) to m (omega (arith, some)) p) (omega arith)) (max-le (max-le (omega arith) turn) (omega arith)))) (omega arith)

      from_valid : (o : Option ℤ) → least ≡ o → AreStatements g gs ts result ls (from_first o bounds index inner (suc (suc r)))
      from_valid None e = loop_valid (first_behind bounds) first_valid
      from_valid (Some z) e =
          let register = register_valid g gs ts result ls index k index_at in
          let constant = least_is z e in (
            (k, index_at, first_valid),
            (
              (
                expression g gs ts result ls (Binary mon.Lt k (Register index) (Constant k z)) I32 2 (relation_typed g ts mon.Lt width (Register index) (Constant k z) refl index_at (refl, constant)) (omega arith) (omega arith),
                set_valid g gs ts result ls index (Constant k z) k index_at (expression g gs ts result ls (Constant k z) k 1 (refl, constant) (omega arith) (omega arith)),
                tt,
              ),
              loop_valid (Register index) register,
            ),
          )

      from_open : (o : Option ℤ) → open_in_all (from_first o bounds index inner (suc (suc r))) ≤ m
      from_open None = loop_open (first_behind bounds) first_open
      from_open (Some z) = max-le first_open (max-le (omega (arith, some)) (loop_open (Register index) (omega arith)))

      test_valid : IsExpression g ts (is_one_behind bounds) I32
      test_valid = by above
        where
          by : (a : Bool) → IsExpression g ts (is_one_behind (record bounds { above = a })) I32
          by true = expression g gs ts result ls (Binary mon.Lt k from to) I32 m (relation_typed g ts mon.Lt width from to refl from_bound.typed to_bound.typed) (binary_less mon.Lt k from to m from_bound.parens to_bound.parens) (omega (arith, few))
          by false = expression g gs ts result ls (Binary mon.Le k from to) I32 m (relation_typed g ts mon.Le width from to refl from_bound.typed to_bound.typed) (binary_less mon.Le k from to m from_bound.parens to_bound.parens) (omega (arith, few))

      test_open : open_parens (is_one_behind bounds) ≤ m
      test_open = by above
        where
          by : (a : Bool) → open_parens (is_one_behind (record bounds { above = a })) ≤ m
          by true = binary_less mon.Lt k from to m from_bound.parens to_bound.parens
          by false = binary_less mon.Le k from to m from_bound.parens to_bound.parens

      undecided_typed : (q : Quantifier) → HasType g ts (Constant I32 (truth (undecided q))) I32
      undecided_typed ForAll = (refl, refl)
      undecided_typed Exists = (refl, refl)

      pub tries_written : Written ls (tries_code q bounds r c)
      tries_written = record {
        statements = (
          (set_number ls r (pos 1) flag_at (refl, refl)).0,
          (
            (I32, truth_at, number_valid g gs ts result ls (truth (undecided q)) (undecided_typed q)),
            ((set_number ls (suc (suc r)) (pos 0) stop_at (refl, refl)).0, ((test_valid, from_valid least refl, tt), tt)),
          ),
        );
        opened = max-le (omega (arith, some)) (max-le (omega (arith, some)) (max-le (omega (arith, some)) (open_if (is_one_behind bounds) (from_first least bounds index inner (suc (suc r))) NoStatement m test_open (from_open least) (omega arith))));
        flag = (flag_at, omega arith);
        typed = truth_at;
        parens = omega arith;
      }

  -- ---- a chain

  module _ (a b : Range) (q : Quantifier) (most : ℤ) (most_is : most ≤ℤ b.hi) (inner : List Held → Types → Code) (F : Sorted → Type 0)
      (written : (ls : Labels) (held : List Held) (js : Types) → AreOutside ls (length js) → HeldTyped ts held → F (sorts_held held) → Begins (inner held js).used ts → Written ls (inner held js))
      (stays : (held : List Held) (js : Types) → Inside (inner held js).stmts)
      (grows : (held : List Held) (js : Types) → length js ≤ length (inner held js).used) (inner_begins : (held : List Held) (js : Types) → Begins (inner held js).used ts → Begins js ts) (to : MonExpression)
      (to_bound : Bound (wider (width_of_range a) (width_of_range b)) to) where
    abbrev width : Width
    width = wider (width_of_range a) (width_of_range b)

    abbrev OverWritten : List Binder → Type 0
    OverWritten bs =
        (from : MonExpression) (least : ℤ) (ls : Labels) (held : List Held) (rs : Types) → a.lo ≤ℤ least → Bound width from → AreOutside ls (length rs) → HeldTyped ts held → F (sorts_within bs (sorts_held held))
        → Begins (over_code q (type_of_width width) to most inner from least bs held rs).used ts → Written ls (over_code q (type_of_width width) to most inner from least bs held rs)

    pub over_written : (bs : List Binder) → OverWritten bs
    over_written [] from least ls held rs le from_bound out typed holds begins = written ls held rs out typed holds begins
    over_written (y ∷ ys) from least ls held rs le from_bound out typed holds begins = by (over_written ys) (greatest_of y.kind most) refl begins
      where
        k2 : MonType
        k2 = type_of_width width

        name : Types → Held
        name js = record { number = y.place.offset; register = index_behind js; kind = k2 }

        next : ℤ
        next = first_of y.kind (raised y.above least)

        others : Types → Code
        others js = over_code q k2 to most inner (Register (index_behind js)) next ys (name js ∷ held) (tried_with k2 js)

        loop_code : MonExpression → Types → Code
        loop_code last js = tries_code q (record { above = y.above; kind = k2; least = least_of y.kind (raised y.above least); from = from; to = last }) (length js) (others js)

        looped : OverWritten ys → (last : MonExpression) (js : Types) → length rs ≤ length js → Bound width last → Begins (loop_code last js).used ts → Written ls (loop_code last js)
        looped inside last js more last_bound h =
            let here = over_begins ts q k2 to most inner inner_begins (Register (index_behind js)) next ys (name js ∷ held) (tried_with k2 js) h in
            let stand = stand_behind js (I32 ∷ I32 ∷ I32 ∷ k2 ∷ []) ts here in
            let index_at : slice_get ts (index_behind js) ≡ Some k2 = stand.1.1.1.0 in
            let long = length-append js (I32 ∷ I32 ∷ I32 ∷ k2 ∷ []) in
            let number : IsNumber (index_behind js) = omega (arith, counted, begins_long (tried_with k2 js) ts here, long) in
            tries_written width q y.above (least_of y.kind (raised y.above least)) from last js (others js) ls here from_bound last_bound
            (λ z e. least_written a b y.kind (raised y.above least) z (omega (arith, ints, le, raised_more y.above least)) e) (out (index_behind js) (omega (arith, more)) number)
            (inside (Register (index_behind js)) next (tried_label (index_behind js) ∷ ls) (name js ∷ held) (tried_with k2 js) (omega (arith, ints, le, raised_more y.above least, first_more y.kind (raised y.above least)))
            (record { typed = index_at; parens = omega (arith, some) }) (subst (AreOutside (tried_label (index_behind js) ∷ ls)) (omega (arith, long)) (outside_own ls (length rs) (index_behind js) (omega (arith, more)) number out))
            (one_typed ts held (name js) index_at typed) (subst (λ t. F (sorts_within ys ((y.place.offset, t) ∷ sorts_held held))) (sym (is_no_pointer width)) holds) h)
            (over_inside q k2 to most inner stays (Register (index_behind js)) next ys (name js ∷ held) (tried_with k2 js))

        by : OverWritten ys → (o : Option ℤ) → greatest_of y.kind most ≡ o → Begins (with_last k2 to o loop_code rs).used ts → Written ls (with_last k2 to o loop_code rs)
        by inside None e h = looped inside to rs (omega arith) to_bound h
        by inside (Some z) e h =
            let js = rs ++ k2 ∷ [] in
            let here = begins_front js (I32 ∷ I32 ∷ I32 ∷ k2 ∷ []) ts (over_begins ts q k2 to most inner inner_begins (Register (index_behind js)) next ys (name js ∷ held) (tried_with k2 js) h) in
            let at = type_at rs ts k2 here in
            let constant = greatest_written a b y.kind most z most_is e in
            let p = to_bound.parens in
            let v = looped inside (Register (length rs)) js (omega (arith, length-append rs (k2 ∷ []))) (record { typed = at; parens = omega (arith, some) }) h in
            record {
              statements = (
                (k2, at, expression g gs ts result ls to k2 m to_bound.typed (omega (arith, p)) (omega (arith, few))),
                (
                  (
                    expression g gs ts result ls (Binary mon.Lt k2 (Constant k2 z) (Register (length rs))) I32 2 (relation_typed g ts mon.Lt width (Constant k2 z) (Register (length rs)) refl (refl, constant) at) (omega arith) (omega arith),
                    set_valid g gs ts result ls (length rs) (Constant k2 z) k2 at (expression g gs ts result ls (Constant k2 z) k2 1 (refl, constant) (omega arith) (omega arith)),
                    tt,
                  ),
                  v.statements,
                ),
              );
              opened = max-le (omega (arith, p)) (max-le (omega (arith, some)) v.opened);
              flag = v.flag;
              typed = v.typed;
              parens = v.parens;
            }

-- a chain with its last value in a register
module _ (g : ℕ) (gs : List Signature) (ts : Types) (result : Option MonType) (f m : ℕ) (some : 3 ≤ m) (flags : f ≤ m) (few : m ≤ 1990) (counted : IsNumber (length ts)) (a b : Range) (q : Quantifier) (most : ℤ) (most_is : most ≤ℤ b.hi)
    (inner : List Held → Types → Code) (F : Sorted → Type 0)
    (written : (ls : Labels) (held : List Held) (js : Types) → AreOutside ls (length js) → HeldTyped ts held → F (sorts_held held) → Begins (inner held js).used ts → Written g gs ts result f m some flags few counted ls (inner held js))
    (stays : (held : List Held) (js : Types) → Inside (inner held js).stmts) (grows : (held : List Held) (js : Types) → length js ≤ length (inner held js).used)
    (inner_begins : (held : List Held) (js : Types) → Begins (inner held js).used ts → Begins js ts) where
  abbrev wide : Width
  wide = wider (width_of_range a) (width_of_range b)

  pub bounded_written : (below : Bool) (from to : MonExpression) (least : ℤ) (bs : List Binder) (ls : Labels) (held : List Held) (rs : Types) → a.lo ≤ℤ least → Bound g gs ts result f m some flags few counted wide from
      → Bound g gs ts result f m some flags few counted wide to
      → AreOutside ls (length rs) → HeldTyped ts held → F (sorts_within bs (sorts_held held)) → Begins (bounded_code q below (type_of_width wide) from to least most bs inner held rs).used ts
      → Written g gs ts result f m some flags few counted ls (bounded_code q below (type_of_width wide) from to least most bs inner held rs)
  bounded_written below from to least bs ls held rs le from_bound to_bound out typed holds begins =
      let k = type_of_width wide in
      let here = over_begins ts q k (Register (length rs)) most inner inner_begins from least bs held (rs ++ k ∷ []) begins in
      let at = type_at rs ts k here in
      let v = over_written g gs ts result f m some flags few counted a b q most most_is inner F written stays grows inner_begins (Register (length rs)) (record { typed = at; parens = omega (arith, some) }) bs from least ls held (rs ++ k ∷ []) le
      from_bound
      (outside_more ls (length rs) (length (rs ++ k ∷ [])) (omega (arith, length-append rs (k ∷ []))) out) typed holds begins in
      record {
        statements = ((k, at, last_valid below), v.statements);
        opened = max-le (last_open below) v.opened;
        flag = v.flag;
        typed = v.typed;
        parens = v.parens;
      }
    where
      last_typed : (below : Bool) → HasType g ts (last_before below (type_of_width wide) to) (type_of_width wide)
      last_typed true = arithmetic_typed g ts mon.Sub wide to (Constant (type_of_width wide) (pos 1)) refl to_bound.typed (refl, one_written wide)
      last_typed false = to_bound.typed

      last_open : (below : Bool) → open_parens (last_before below (type_of_width wide) to) ≤ m
      last_open true = binary_less mon.Sub (type_of_width wide) to (Constant (type_of_width wide) (pos 1)) m to_bound.parens (omega (arith, some))
      last_open false = let p = to_bound.parens in omega (arith, p)

      last_valid : (below : Bool) → IsExpression g ts (last_before below (type_of_width wide) to) (type_of_width wide)
      last_valid below = expression g gs ts result ls (last_before below (type_of_width wide) to) (type_of_width wide) m (last_typed below) (last_open below) (omega (arith, few))
