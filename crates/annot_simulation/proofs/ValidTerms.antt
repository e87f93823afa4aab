-- The code of each form of term is valid, by that of its parts.
use Rattle.std.proofs.Common.{◌≡◌, ℕ, zero, suc, ◌+◌, ◌-◌, ◌*◌, ◌≤◌, ℤ, pos, Bool, true, false, if◌then◌else◌, max, List, [], ◌∷◌, ◌++◌, length, Option, Some, None, refl, sym, ap, ◌∙◌, subst, arith}
use Rattle.std.proofs.lemmas.Int.{ints}
use Rattle.std.proofs.Math.Nat.{max-le}
use Rattle.std.specs.Ordering.{int_eq}
use Rattle.c_syntax.specs.declared.annotation.Range.{Range}
use Rattle.c_syntax.specs.declared.annotation.Relation.{Relation}
use Rattle.c_syntax.specs.declared.expression.BinOp.{BinOp}
use Rattle.c_syntax.specs.declared.expression.BinOp.TheVariants.{Shl, Shr, Add, Sub, Mul, Div, Rem, BitAnd, BitOr, BitXor, Lt, Le, Gt, Ge, Eq, Ne}
use Rattle.c_syntax.specs.declared.expression.UnOp.{UnOp}
use Rattle.c_syntax.specs.declared.expression.Use.{Use}
use Rattle.c_syntax.specs.declared.place.Place.{Place}
use Rattle.c_syntax.specs.declared.types.Width.{Width}
use Rattle.c_syntax.specs.declared.types.Width.TheVariants.{W32, W64, W128}
use Rattle.c_syntax.specs.Ctypes.{PlainType}
use Rattle.c_syntax.specs.Formulas.{CastType, Integers, OfC}
use Rattle.c_syntax.specs.Logic.{LogicTerm, range_of}
use Rattle.c_syntax.specs.Logic as logic
use Rattle.c_syntax.specs.Programs.{TranslationUnit}
use Rattle.c_model.specs.Integers.{integer_type}
use Rattle.c_model.specs.Ranges.{LiesIn, IsWithin128, width_of_range, from_to, bounded, range_in_bits, least_i128}
use Rattle.c_model.specs.TermRanges.{TermRanged, type_range, is_inside}
use Rattle.c_model.specs.Formed.{level_of, parentheses_around, operator_of_term, tokens_of_term}
use Rattle.c_model.proofs.OperandParentheses.{around_two}
use Rattle.ea_num.proofs.Bounded.{in_bits_from_test}
use Rattle.ea_num.proofs.Converted.{widths_fit}
use Rattle.c_model.specs.TypedPredicates.{IsCastType}
use Rattle.mon_syntax.specs.declared.tree.MonType.{MonType}
use Rattle.mon_syntax.specs.declared.tree.MonType.TheVariants.{I32, Ptr}
use Rattle.mon_syntax.specs.declared.tree.MonOp.TheVariants as mon
use Rattle.mon_syntax.specs.Arithmetic.{fits}
use Rattle.mon_syntax.specs.Registers.{Bindings, register_of}
use Rattle.mon_syntax.specs.Trees.{MonExpression, Register, Constant, Binary, Cast, Load}
use Rattle.mon_syntax.specs.Valid.{Types, HasType, Labels, Signature, open_parens, is_whole, depth_of_all}
use Rattle.c_effects.specs.Expressions.{before, one, in_type, register_type, pointer_of, pointer_to, object_of_global}
use Rattle.mon_syntax.specs.declared.tree.MonType.TheVariants.{I64, I128}
use Rattle.c_model.specs.PredicateTyping.{place_of_term}
use Rattle.c_model.specs.TermRanges.{Seen}
use Rattle.mon_syntax.specs.declared.tree.MonType.TheVariants as mono
use Rattle.mon_syntax.specs.Checking.{same_type}
use Rattle.c_simulation.specs.Keeping.{Kept}
use Rattle.annot_simulation.specs.Held.{Held, held_by, held_code, held_pointer, kept_at, kept_code, kept_pointer, sort_held, sorts_held}
use Rattle.annot_simulation.specs.Pieces.{settled}
use Rattle.annot_simulation.specs.Validity.{HasRegisters, HeldTyped}
use Rattle.annot_simulation.specs.Pointers.{PointerCode, null_code}
use Rattle.annot_simulation.specs.Code.{Side, OfNumber, OfPointer, used_by, stmts_of, side_by, again, related_code, is_pointer_term, is_null_term}
use Rattle.annot_simulation.specs.Does.{HasIntegers, found_by}
use Rattle.annot_simulation.specs.Validity.{PointerWritable}
use Rattle.annot_simulation.proofs.Depths.{related_deep}
use Rattle.annot_simulation.proofs.ValidPointers.{PointerValid, start_valid, null_valid}
use Rattle.annot_simulation.proofs.ValidPointers.{addresses_valid}
use Rattle.annot_simulation.specs.Code.{term_type}
use Rattle.term_guards.specs.Guards.{guard}
use Rattle.annot_simulation.specs.Code.{Code, with_value, type_of_width, type_of, width_of, wider, working, is_total, binary_value, unary_value, relation_value, relation_code, cast_value, converted_to, operated, sure_code, variable_code}
use Rattle.annot_simulation.specs.Code.{two_code, take, take_none, guarded, conjunction}
use Rattle.annot_simulation.specs.Validity.{TermWritable, Begins}
use Rattle.annot_simulation.proofs.Exact.{Fits, signed_within}
use Rattle.annot_simulation.proofs.Terms.{CastTo, cast_to}
use Rattle.annot_simulation.proofs.Variables.{IsInteger, some_same}
use Rattle.annot_simulation.proofs.Typed.{type_at, first_type, second_type_at, whole_width, whole_register, width_constant, zero_constant, in_type_typed, to_width, relation_typed, guard_typed, binary_typed, unary_typed, related_typed}
use Rattle.annot_simulation.proofs.Typed.{in_type_parens, guard_parens, counted_in, value_parens, unary_parens, related_parens, binary_less}
use Rattle.annot_simulation.proofs.Opens.{open_before, open_guarded, open_take, open_none}
use Rattle.annot_simulation.proofs.Depths.{deep_before, deep_guarded, deep_take, some_term}
use Rattle.annot_simulation.proofs.ValidParts.{flag_more, flag_open, before_valid, expression, Valid, flag_both, guarded_valid, take_valid, take_none_valid, two_valid}
use Rattle.annot_simulation.proofs.ValidParts.{changed_valid}
use Rattle.c_model.specs.StaticObjects.{static_objects}
use Rattle.annot_simulation.proofs.Held.{entry_of}

-- ---- numbers

fits_width : (w : Width) (z : ℤ) → Fits w z → fits (type_of_width w) z ≡ true
fits_width W32 z f = signed_within 2147483647 z f.sfits
fits_width W64 z f = signed_within 9223372036854775807 z f.sfits
fits_width W128 z f = signed_within 170141183460469231731687303715884105727 z f.sfits

-- the range of one number, within 128 bits
record OneRange (r : Range) (z : ℤ) : Type 0 where
  lies : LiesIn r z
  within : IsWithin128 r

one_range : (r : Range) (z : ℤ) → bounded (from_to z z) ≡ Some r → OneRange r z
one_range r z e = by (range_in_bits 127 (from_to z z)) refl e
  where
    by : (t : Bool) → range_in_bits 127 (from_to z z) ≡ t → (if t then Some (from_to z z) else None) ≡ Some r → OneRange r z
    by true p q =
        let bits = in_bits_from_test 127 (from_to z z) p in
        subst (λ r. OneRange r z) (some_same (from_to z z) r q)
        (record { lies = record { above = omega (arith, ints); below = omega (arith, ints) }; within = record { lo_fits = record { sfits = bits.lo_in }; hi_fits = record { sfits = bits.hi_in } } })
    by false p q = absurd cc

pub pointer_parens : (p : TranslationUnit) (bound : Bindings) (x : ℕ) → open_parens (pointer_to p bound x) ≤ 0
pointer_parens p bound x = by (register_of bound x)
  where
    by : (o : Option ℕ) → open_parens (pointer_of o (object_of_global x (static_objects p))) ≤ 0
    by None = omega arith
    by (Some r) = omega arith

module _ (p : TranslationUnit) (bound : Bindings) (plan : List Kept) (held : List Held) (seen : Seen) (g : ℕ) (gs : List Signature) (ts : Types) (result : Option MonType) (ls : Labels) where
  abbrev pub IsCode : Code → MonType → ℕ → ℕ → Type 0
  IsCode c t n s = Valid g gs ts result ls c t n s

  -- ---- leaves

  pub number_code : (r : Range) (z : ℤ) (rs : Types) → bounded (from_to z z) ≡ Some r → int_eq z least_i128 ≡ false → IsCode (sure_code (Constant (type_of_width (width_of_range r)) z) rs) (type_of_width (width_of_range r)) 1 0
  number_code r z rs e least =
      let one = one_range r z e in record {
        statements = tt;
        deep = omega arith;
        opened = omega arith;
        flag = tt;
        typed = (refl, width_constant (width_of_range r) z (fits_width (width_of_range r) z (widths_fit r z one.within one.lies)) least);
        parens = omega arith;
      }

  pub variable_is_code : (b : Bool) (r : Range) (t : Option PlainType) (x : Use) (rs : Types) → IsInteger t r → HasType g ts (pointer_to p bound x.decl) Ptr
      → Begins (variable_code p bound b (type_of_width (width_of_range r)) (record { decl = x.decl; kind = term_type t }) rs).used ts
      → IsCode (variable_code p bound b (type_of_width (width_of_range r)) (record { decl = x.decl; kind = term_type t }) rs) (type_of_width (width_of_range r)) 1 0
  variable_is_code b r t x rs i pointer = by b
    where
      w : MonType
      w = type_of_width (width_of_range r)

      whole : is_whole (term_type t) ≡ true
      whole = ap (λ t. is_whole (term_type t)) i.is ∙ whole_register i.int

      load : MonExpression
      load = Load (term_type t) (pointer_to p bound x.decl)

      typed : HasType g ts (in_type (term_type t) (type_of_width (width_of_range r)) (Load (term_type t) (pointer_to p bound x.decl))) (type_of_width (width_of_range r))
      typed = in_type_typed g ts (term_type t) (type_of_width (width_of_range r)) (Load (term_type t) (pointer_to p bound x.decl)) whole (whole_width (width_of_range r)) (refl, pointer)

      less : max 1 (open_parens (pointer_to p bound x.decl)) ≤ 1
      less = max-le (omega arith) (let h = pointer_parens p bound x.decl in omega (arith, h))

      parens : open_parens (in_type (term_type t) (type_of_width (width_of_range r)) (Load (term_type t) (pointer_to p bound x.decl))) ≤ 3
      parens = in_type_parens (term_type t) (type_of_width (width_of_range r)) (Load (term_type t) (pointer_to p bound x.decl)) 2 (omega arith) (omega (arith, less))

      by : (b : Bool) → Begins (variable_code p bound b (type_of_width (width_of_range r)) (record { decl = x.decl; kind = term_type t }) rs).used ts
          → IsCode (variable_code p bound b (type_of_width (width_of_range r)) (record { decl = x.decl; kind = term_type t }) rs) (type_of_width (width_of_range r)) 1 0
      by true h = record { statements = tt; deep = omega arith; opened = omega arith; flag = tt; typed = typed; parens = omega (arith, parens) }
      by false h =
          let at = type_at rs ts I32 h in
          let zero_p = pointer_parens p bound x.decl in record {
            statements = (((record { typed = pointer; within = omega (arith, zero_p) }, (record { typed = (refl, refl); within = omega arith }, tt)), at), tt);
            deep = omega arith;
            opened = max-le (max-le (omega (arith, zero_p)) (omega arith)) (omega arith);
            flag = (at, omega arith);
            typed = typed;
            parens = omega (arith, parens);
          }

  -- ---- what stands in registers

  whole_kind : (k : MonType) → same_type k Ptr ≡ false → is_whole k ≡ true
  whole_kind mono.I8 e = refl
  whole_kind mono.U8 e = refl
  whole_kind mono.I16 e = refl
  whole_kind mono.U16 e = refl
  whole_kind mono.I32 e = refl
  whole_kind mono.U32 e = refl
  whole_kind mono.I64 e = refl
  whole_kind mono.U64 e = refl
  whole_kind mono.I128 e = refl
  whole_kind mono.Ptr e = absurd cc

  pointer_kind : (k : MonType) → same_type k Ptr ≡ true → k ≡ Ptr
  pointer_kind mono.Ptr e = refl
  pointer_kind mono.I8 e = absurd cc
  pointer_kind mono.U8 e = absurd cc
  pointer_kind mono.I16 e = absurd cc
  pointer_kind mono.U16 e = absurd cc
  pointer_kind mono.I32 e = absurd cc
  pointer_kind mono.U32 e = absurd cc
  pointer_kind mono.I64 e = absurd cc
  pointer_kind mono.U64 e = absurd cc
  pointer_kind mono.I128 e = absurd cc

  pub held_is_code : (r : Range) (x : ℕ) (rs : Types) → HeldTyped ts held → sort_held x (sorts_held held) ≡ Some false → IsCode (held_code (type_of_width (width_of_range r)) (held_by x held) rs) (type_of_width (width_of_range r)) 1 0
  held_is_code r x rs typed s =
      let h = entry_of x held false s in
      subst (λ o. IsCode (held_code (type_of_width (width_of_range r)) o rs) (type_of_width (width_of_range r)) 1 0) (sym h.is)
      (let k = h.held.kind in
      let e = Register h.held.register in
      let parens = in_type_parens k (type_of_width (width_of_range r)) e 2 (omega arith) (omega arith) in record {
        statements = tt;
        deep = omega arith;
        opened = omega arith;
        flag = tt;
        typed = in_type_typed g ts k (type_of_width (width_of_range r)) e (whole_kind k h.sorted) (whole_width (width_of_range r)) (typed x h.held h.is);
        parens = omega (arith, parens);
      })

  pub held_pointer_valid : (x : ℕ) (rs : Types) → HeldTyped ts held → sort_held x (sorts_held held) ≡ Some true → PointerValid g gs ts result ls (held_pointer (held_by x held) rs) 1
  held_pointer_valid x rs typed s =
      let h = entry_of x held true s in
      subst (λ o. PointerValid g gs ts result ls (held_pointer o rs) 1) (sym h.is)
      (start_valid g gs ts result ls (Register h.held.register) rs (typed x h.held h.is ∙ ap Some (pointer_kind h.held.kind h.sorted)) (omega arith))

  pub kept_is_code : (a : LogicTerm) (rs : Types) → HasRegisters plan ts a (type_of a ∷ []) → IsCode (kept_code (kept_at (place_of_term a).offset plan) rs) (type_of a) (tokens_of_term a) 0
  kept_is_code a rs h =
      subst (λ o. IsCode (kept_code o rs) (type_of a) (tokens_of_term a) 0) (sym h.is) (record {
        statements = tt;
        deep = omega arith;
        opened = omega arith;
        flag = (h.typed.0, omega arith);
        typed = h.typed.1.0;
        parens = omega arith;
      })

  pub kept_pointer_valid : (a : LogicTerm) (rs : Types) → HasRegisters plan ts a (Ptr ∷ I128 ∷ []) → PointerValid g gs ts result ls (kept_pointer (kept_at (place_of_term a).offset plan) rs) (tokens_of_term a)
  kept_pointer_valid a rs h =
      subst (λ o. PointerValid g gs ts result ls (kept_pointer o rs) (tokens_of_term a)) (sym h.is) (record {
        statements = tt;
        opened = omega arith;
        flag = (h.typed.0, omega arith);
        base = h.typed.1.0;
        base_parens = omega arith;
        offset = h.typed.1.1.0;
        offset_parens = omega (arith, some_term a);
      })

  pub settled_is_code : (t : MonType) (c : Code) (n : ℕ) → 1 ≤ n → n ≤ 400 → IsCode c t n 2 → Begins (settled t c).used ts → IsCode (settled t c) t n 0
  settled_is_code t c n some few v h =
      let reg = length c.used in
      let at1 = first_type c.used ts I32 t h in
      let at2 = second_type_at c.used ts I32 t h in
      let inner = take c.flag c.value reg in
      let flag_few = flag_open g gs ts result ls c.flag n v.flag in
      let dt = deep_take c.flag c.value reg in record {
        statements =
            before_valid g gs ts result ls c.stmts inner v.statements
            (take_valid g gs ts result ls c.flag c.value t reg (3 * n + 2) (omega (arith, few)) (flag_more g gs ts result ls c.flag n (3 * n + 2) (omega arith) v.flag)
            (expression g gs ts result ls c.value t (3 * n + 2) v.typed (omega (arith, v.parens)) (omega (arith, few))) at1 at2);
        deep = deep_before c.stmts inner (n + n) v.deep (omega (arith, dt, some));
        opened = open_before c.stmts inner (3 * n + 2) v.opened (open_take c.flag c.value reg (3 * n + 2) (omega arith) (omega (arith, flag_few)) (omega (arith, v.parens)));
        flag = (at1, omega arith);
        typed = at2;
        parens = omega arith;
      }

  -- ---- operators

  pub unary_is_code : (at : Place) (t : Option PlainType) (r : Range) (op : UnOp) (a : LogicTerm) → TermRanged seen (logic.Unary at t r op a) → (c : Code) → IsCode c (type_of a) (tokens_of_term a) 2
      → IsCode (with_value (unary_value op (type_of_width (width_of_range r)) (type_of_width (wider (width_of_range r) (width_of a))) (type_of a) c.value) c) (type_of_width (width_of_range r)) (suc (tokens_of_term a)) 0
  unary_is_code at t r op a q c v =
      let e = unary_value op (type_of_width (width_of_range r)) (type_of_width (wider (width_of_range r) (width_of a))) (type_of a) c.value in
      let few = unary_parens op (range_of a) r (width_of_range r) (width_of a) c.value (3 * tokens_of_term a + 1) q.0 (omega arith) (omega (arith, v.parens)) in
      changed_valid g gs ts result ls c e (type_of a) (type_of_width (width_of_range r)) (tokens_of_term a) 2 (suc (tokens_of_term a)) 0 v (omega arith)
      (unary_typed g ts op (width_of_range r) (width_of a) (range_of a) r c.value q.0 v.typed) (omega (arith, few))

  pub cast_is_code : (at : Place) (t : Option PlainType) (r : Range) (to : CastType) (a : LogicTerm) → TermRanged seen (logic.Cast at t r to a) → IsCastType to → (c : Code) → IsCode c (type_of a) (tokens_of_term a) 2
      → IsCode (with_value (cast_value to (range_of a) (type_of_width (width_of_range r)) (type_of a) c.value) c) (type_of_width (width_of_range r)) (suc (tokens_of_term a)) 0
  cast_is_code at t r Integers a q int c v =
      let same : range_of a ≡ r = some_same (range_of a) r q.0 in
      changed_valid g gs ts result ls c c.value (type_of a) (type_of_width (width_of_range r)) (tokens_of_term a) 2 (suc (tokens_of_term a)) 0 v (omega arith)
      (subst (λ r. HasType g ts c.value (type_of_width (width_of_range r))) same v.typed) (omega (arith, v.parens))
  cast_is_code at t r (OfC to) a q int c v =
      changed_valid g gs ts result ls c (converted_to (integer_type to) (range_of a) (type_of_width (width_of_range r)) (type_of a) c.value) (type_of a) (type_of_width (width_of_range r)) (tokens_of_term a) 2 (suc (tokens_of_term a)) 0 v
      (omega arith)
      (subst (λ i. HasType g ts (converted_to i (range_of a) (type_of_width (width_of_range r)) (type_of a) c.value) (type_of_width (width_of_range r))) (sym i.is) (typed (is_inside (range_of a) (type_range i.int)) i.range_is))
      (subst (λ i. 2 * open_parens (converted_to i (range_of a) (type_of_width (width_of_range r)) (type_of a) c.value) ≤ 6 * suc (tokens_of_term a) + 0) (sym i.is) (parens (is_inside (range_of a) (type_range i.int))))
    where
      i : CastTo to (range_of a) r
      i = cast_to to (range_of a) r int q.0

      whole : HasType g ts (Cast (register_type i.int) c.value) (register_type i.int)
      whole = (refl, whole_register i.int, (type_of a, whole_width (width_of a), v.typed))

      typed : (s : Bool) → (if s then range_of a else type_range i.int) ≡ r
          → HasType g ts (if s then c.value else in_type (register_type i.int) (type_of_width (width_of_range r)) (Cast (register_type i.int) c.value)) (type_of_width (width_of_range r))
      typed true e = subst (λ r. HasType g ts c.value (type_of_width (width_of_range r))) e v.typed
      typed false e = in_type_typed g ts (register_type i.int) (type_of_width (width_of_range r)) (Cast (register_type i.int) c.value) (whole_register i.int) (whole_width (width_of_range r)) whole

      parens : (s : Bool) → 2 * open_parens (if s then c.value else in_type (register_type i.int) (type_of_width (width_of_range r)) (Cast (register_type i.int) c.value)) ≤ 6 * suc (tokens_of_term a) + 0
      parens true = omega (arith, v.parens)
      parens false =
          let m : max 1 (open_parens c.value) ≤ 3 * tokens_of_term a + 1 = max-le (omega arith) (omega (arith, v.parens)) in
          let l = in_type_parens (register_type i.int) (type_of_width (width_of_range r)) (Cast (register_type i.int) c.value) (suc (3 * tokens_of_term a + 1)) (omega arith) (omega (arith, m)) in
          omega (arith, l)

  -- the right operand of a shift to the right opens four parentheses more, but where it is a shift itself it stands in parentheses
  module _ (at : Place) (t : Option PlainType) (r : Range) (op : BinOp) (a b : LogicTerm) (q : TermRanged seen (logic.Binary at t r op a b)) (x y : Code) (vx : IsCode x (type_of a) (tokens_of_term a) 2)
      (vy : IsCode y (type_of b) (tokens_of_term b) (parentheses_around 2 (operator_of_term b))) where
    abbrev wr : MonType
    wr = type_of_width (width_of_range r)

    abbrev k : MonType
    k = type_of_width (working op (width_of_range r) (width_of a) (width_of b))

    abbrev made : MonExpression
    made = binary_value op wr k (type_of a) (type_of b) (range_of b) x.value y.value

    abbrev around : ℕ
    around = parentheses_around (level_of op) (operator_of_term b)

    abbrev all : ℕ
    all = suc (tokens_of_term a + tokens_of_term b + around)

    made_typed : HasType g ts made wr
    made_typed = binary_typed g ts op (width_of_range r) (width_of a) (width_of b) (range_of a) (range_of b) r x.value y.value q.0 vx.typed vy.typed

    right_parens : open_parens y.value ≤ 3 * tokens_of_term b + 1
    right_parens = let two = around_two 2 (operator_of_term b) in omega (arith, vy.parens, two)

    plain_parens : (o : BinOp) (n : ℕ) → counted_in o ≡ 0 → 2 * open_parens (binary_value o wr k (type_of a) (type_of b) (range_of b) x.value y.value) ≤ 6 * suc (tokens_of_term a + tokens_of_term b + n)
    plain_parens o n none =
        let l = value_parens o wr k (type_of a) (type_of b) (range_of b) x.value y.value (3 * tokens_of_term a + 1) (3 * tokens_of_term b + 1) (3 * tokens_of_term a + 3 * tokens_of_term b + 3) (omega arith) (omega arith)
        (omega (arith, vx.parens)) right_parens (omega (arith, some_term b)) (omega (arith, none, some_term a)) in
        omega (arith, l)

    shift_by : (n m : ℕ) → open_parens y.value ≤ m → 1 ≤ m → 2 * m ≤ 6 * tokens_of_term b + n
        → 2 * open_parens (binary_value Shr wr k (type_of a) (type_of b) (range_of b) x.value y.value) ≤ 6 * suc (tokens_of_term a + tokens_of_term b + n) + 2
    shift_by n m h some le =
        let l = value_parens Shr wr k (type_of a) (type_of b) (range_of b) x.value y.value (3 * tokens_of_term a + 1) m (3 * (tokens_of_term a + tokens_of_term b + n) + 4) (omega arith) some
        (omega (arith, vx.parens)) h (omega (arith, some_term b)) (omega (arith, le, some_term a)) in
        omega (arith, l)

    shift_parens : (n : ℕ) → 2 * open_parens y.value ≤ 6 * tokens_of_term b + n
        → 2 * open_parens (binary_value Shr wr k (type_of a) (type_of b) (range_of b) x.value y.value) ≤ 6 * suc (tokens_of_term a + tokens_of_term b + n) + 2
    shift_parens n h = by (open_parens y.value) refl
      where
        by : (m : ℕ) → open_parens y.value ≡ m → 2 * open_parens (binary_value Shr wr k (type_of a) (type_of b) (range_of b) x.value y.value) ≤ 6 * suc (tokens_of_term a + tokens_of_term b + n) + 2
        by zero e = shift_by n 1 (omega (arith, e)) (omega arith) (omega (arith, some_term b))
        by (suc m) e = shift_by n (suc m) (omega (arith, e)) (omega arith) (omega (arith, e, h))

    made_parens : 2 * open_parens made ≤ 6 * all + parentheses_around 2 (Some op)
    made_parens = by op
      where
        more : (o : BinOp) → counted_in o ≡ 0 → 2 * open_parens (binary_value o wr k (type_of a) (type_of b) (range_of b) x.value y.value)
            ≤ 6 * suc (tokens_of_term a + tokens_of_term b + parentheses_around (level_of o) (operator_of_term b)) + parentheses_around 2 (Some o)
        more o none = let l = plain_parens o (parentheses_around (level_of o) (operator_of_term b)) none in omega (arith, l)

        by : (o : BinOp) → 2 * open_parens (binary_value o wr k (type_of a) (type_of b) (range_of b) x.value y.value)
            ≤ 6 * suc (tokens_of_term a + tokens_of_term b + parentheses_around (level_of o) (operator_of_term b)) + parentheses_around 2 (Some o)
        by Shr = shift_parens (parentheses_around 2 (operator_of_term b)) vy.parens
        by Shl = more Shl refl
        by Add = more Add refl
        by Sub = more Sub refl
        by Mul = more Mul refl
        by Div = more Div refl
        by Rem = more Rem refl
        by BitAnd = more BitAnd refl
        by BitOr = more BitOr refl
        by BitXor = more BitXor refl
        by Lt = more Lt refl
        by Le = more Le refl
        by Gt = more Gt refl
        by Ge = more Ge refl
        by Eq = more Eq refl
        by Ne = more Ne refl

    made_few : open_parens made ≤ 3 * all + 1
    made_few = let two = around_two 2 (Some op) in omega (arith, made_parens, two)

    pub binary_is_code : all ≤ 400 → Begins (operated (is_total op (range_of b)) op wr k (type_of b) x y made).used ts → IsCode (operated (is_total op (range_of b)) op wr k (type_of b) x y made) wr all (parentheses_around 2 (Some op))
    binary_is_code few = by (is_total op (range_of b))
      where
        total : IsCode (two_code x y made) wr all (parentheses_around 2 (Some op))
        total =
            two_valid g gs ts result ls x y made (type_of a) (type_of b) wr (tokens_of_term a) (tokens_of_term b) 2 (parentheses_around 2 (operator_of_term b)) all (parentheses_around 2 (Some op)) vx vy (omega (arith, some_term b))
            (omega (arith, some_term a)) made_typed made_parens

        test : MonExpression
        test = guard k op (in_type (type_of b) k y.value)

        operand_typed : HasType g ts (in_type (type_of b) k y.value) k
        operand_typed = in_type_typed g ts (type_of b) k y.value (whole_width (width_of b)) (whole_width (working op (width_of_range r) (width_of a) (width_of b))) vy.typed

        test_parens : open_parens (guard k op (in_type (type_of b) k y.value)) ≤ suc (suc (3 * tokens_of_term b + 1))
        test_parens = guard_parens op k (in_type (type_of b) k y.value) (suc (3 * tokens_of_term b + 1)) (omega arith) (in_type_parens (type_of b) k y.value (3 * tokens_of_term b + 1) (omega arith) right_parens)

        partial : Begins (y.used ++ I32 ∷ wr ∷ []) ts → IsCode (operated false op wr k (type_of b) x y made) wr all (parentheses_around 2 (Some op))
        partial h =
            let reg = length y.used in
            let at1 = first_type y.used ts I32 wr h in
            let at2 = second_type_at y.used ts I32 wr h in
            let flag = conjunction x.flag y.flag in
            let test = guard k op (in_type (type_of b) k y.value) in
            let inner = take (Some test) made reg in
            let both = before x.stmts y.stmts in record {
              statements =
                  before_valid g gs ts result ls both (guarded flag inner (take_none reg)) (before_valid g gs ts result ls x.stmts y.stmts vx.statements vy.statements)
                  (guarded_valid g gs ts result ls flag inner (take_none reg) all (omega (arith, few))
                  (flag_both g gs ts result ls x.flag y.flag (tokens_of_term a) (tokens_of_term b) all (omega (arith, some_term b)) (omega (arith, some_term a)) vx.flag vy.flag)
                  (take_valid g gs ts result ls (Some test) made wr reg (3 * all + 2) (omega (arith, few))
                  (guard_typed g ts op (working op (width_of_range r) (width_of a) (width_of b)) (in_type (type_of b) k y.value) operand_typed, omega (arith, test_parens))
                  (expression g gs ts result ls made wr (3 * all + 2) made_typed (omega (arith, made_few)) (omega (arith, few))) at1 at2)
                  (take_none_valid g gs ts result ls reg at1));
              deep =
                  deep_before both (guarded flag inner (take_none reg)) (all + all)
                  (deep_before x.stmts y.stmts (all + all) (omega (arith, vx.deep)) (omega (arith, vy.deep)))
                  (let d = deep_guarded flag inner (take_none reg) 2 (deep_take (Some test) made reg) (omega arith) in omega (arith, d, some_term a, some_term b));
              opened =
                  open_before both (guarded flag inner (take_none reg)) (3 * all + 2) (open_before x.stmts y.stmts (3 * all + 2) (omega (arith, vx.opened)) (omega (arith, vy.opened)))
                  (open_guarded flag inner (take_none reg) (3 * all + 2)
                  (let both_open = flag_open g gs ts result ls flag all
                  (flag_both g gs ts result ls x.flag y.flag (tokens_of_term a) (tokens_of_term b) all (omega (arith, some_term b)) (omega (arith, some_term a)) vx.flag vy.flag) in omega (arith, both_open))
                  (open_take (Some test) made reg (3 * all + 2) (omega arith) (omega (arith, test_parens)) (omega (arith, made_few))) (open_none reg (3 * all + 2) (omega arith)));
              flag = (at1, omega arith);
              typed = at2;
              parens = omega arith;
            }

        by : (s : Bool) → Begins (operated s op wr k (type_of b) x y made).used ts → IsCode (operated s op wr k (type_of b) x y made) wr all (parentheses_around 2 (Some op))
        by true h = total
        by false h = partial h

  pub relation_is_code : (r : Relation) (t u : LogicTerm) (x y : Code) (m n k : ℕ) → IsCode x (type_of t) m 2 → IsCode y (type_of u) n 2 → 1 ≤ m → 1 ≤ n → m + suc n ≤ k → IsCode (relation_code r t u x y) I32 k 4
  relation_is_code r t u x y m n k vx vy lm ln le =
      let e = relation_value r (type_of_width (wider (width_of t) (width_of u))) (type_of t) (type_of u) x.value y.value in
      let l = related_parens r (type_of_width (wider (width_of t) (width_of u))) (type_of t) (type_of u) x.value y.value (3 * m + 3 * n) (omega (arith, lm)) (omega (arith, vx.parens, ln)) (omega (arith, vy.parens, lm)) in
      two_valid g gs ts result ls x y e (type_of t) (type_of u) I32 m n 2 2 k 4 vx vy (omega (arith, ln, le)) (omega (arith, lm, le)) (related_typed g ts r (width_of t) (width_of u) x.value y.value vx.typed vy.typed) (omega (arith, l, le))

  -- a side of a choice in the type of the whole
  pub side_is_code : (a : LogicTerm) (r : Range) (c : Code) (n : ℕ) → IsCode c (type_of a) n 2 → IsCode (with_value (in_type (type_of a) (type_of_width (width_of_range r)) c.value) c) (type_of_width (width_of_range r)) n 4
  side_is_code a r c n v =
      let l = in_type_parens (type_of a) (type_of_width (width_of_range r)) c.value (3 * n + 1) (omega arith) (omega (arith, v.parens)) in
      changed_valid g gs ts result ls c (in_type (type_of a) (type_of_width (width_of_range r)) c.value) (type_of a) (type_of_width (width_of_range r)) n 2 n 4 v (omega arith) (to_width g ts (width_of a) (width_of_range r) c.value v.typed)
      (omega (arith, l))

  pub nonzero_is_code : (t : LogicTerm) (c : Code) → IsCode c (type_of t) (tokens_of_term t) 2 → IsCode (with_value (Binary mon.Ne (type_of t) c.value (Constant (type_of t) (pos 0))) c) I32 (tokens_of_term t) 4
  nonzero_is_code t c v =
      let l = binary_less mon.Ne (type_of t) c.value (Constant (type_of t) (pos 0)) (3 * tokens_of_term t + 2) (omega (arith, v.parens)) (omega arith) in
      changed_valid g gs ts result ls c (Binary mon.Ne (type_of t) c.value (Constant (type_of t) (pos 0))) (type_of t) I32 (tokens_of_term t) 2 (tokens_of_term t) 4 v (omega arith)
      (relation_typed g ts mon.Ne (width_of t) c.value (Constant (type_of t) (pos 0)) refl v.typed (refl, zero_constant (width_of t))) (omega (arith, l))

  pub not_is_code : (c : Code) (n : ℕ) → IsCode c I32 n 4 → IsCode (with_value (Binary mon.Eq I32 c.value (Constant I32 (pos 0))) c) I32 (suc n) 4
  not_is_code c n v =
      let l = binary_less mon.Eq I32 c.value (Constant I32 (pos 0)) (3 * suc n + 2) (omega (arith, v.parens)) (omega arith) in
      changed_valid g gs ts result ls c (Binary mon.Eq I32 c.value (Constant I32 (pos 0))) I32 I32 n 4 (suc n) 4 v (omega arith)
      (relation_typed g ts mon.Eq W32 c.value (Constant I32 (pos 0)) refl v.typed (refl, refl)) (omega (arith, l))

  -- ---- sides of relations

  -- the code of a side of n tokens
  abbrev pub SideValid : Side → LogicTerm → ℕ → Type 0
  SideValid (OfNumber c) t n = IsCode c (type_of t) n 2
  SideValid (OfPointer c) t n = PointerValid g gs ts result ls c n × (depth_of_all c.stmts ≤ n + n)

  -- a side that was computed already
  pub again_valid : (u : LogicTerm) (y : Side) (rs : Types) (n : ℕ) → SideValid y u n → SideValid (again y rs) u n
  again_valid u (OfNumber c) rs n v = record { statements = tt; deep = omega arith; opened = omega arith; flag = tt; typed = v.typed; parens = v.parens }
  again_valid u (OfPointer c) rs n v =
      let w = v.0 in
      (record { statements = tt; opened = omega arith; flag = tt; base = w.base; base_parens = w.base_parens; offset = w.offset; offset_parens = w.offset_parens }, omega arith)

  pub ended_valid : (x : Side) (t : LogicTerm) (n : ℕ) (rs : Types) → SideValid x t n → IsCode (record { stmts = stmts_of x; flag = None; value = Constant I32 (pos 1); used = rs }) I32 (n + 0) 4
  ended_valid (OfNumber c) t n rs v = record { statements = v.statements; deep = omega (arith, v.deep); opened = omega (arith, v.opened); flag = tt; typed = (refl, refl); parens = omega arith }
  ended_valid (OfPointer c) t n rs v =
      let w = v.0 in
      let d = v.1 in
      record { statements = w.statements; deep = omega (arith, d); opened = omega (arith, w.opened); flag = tt; typed = (refl, refl); parens = omega arith }

  side_depth : (x : Side) (t : LogicTerm) (n : ℕ) → SideValid x t n → depth_of_all (stmts_of x) ≤ n + n
  side_depth (OfNumber c) t n v = v.deep
  side_depth (OfPointer c) t n v = v.1

  pub related_is_code : (r : Relation) (t u : LogicTerm) (x y : Side) (m n k : ℕ) → SideValid x t m → SideValid y u n → 1 ≤ m → 1 ≤ n → m + suc n ≤ k → k ≤ 400 → Begins (related_code r t u x y).used ts → IsCode (related_code r t u x y) I32 k 4
  related_is_code r t u x y m n k vx vy lm ln le few b = by x y vx vy (related_deep r t u x y m n k (side_depth x t m vx) (side_depth y u n vy) (omega (arith, le)) (omega (arith, le)) (omega (arith, le))) b
    where
      by : (x y : Side) → SideValid x t m → SideValid y u n → depth_of_all (related_code r t u x y).stmts ≤ k + k → Begins (related_code r t u x y).used ts → IsCode (related_code r t u x y) I32 k 4
      by (OfNumber x) (OfNumber y) vx vy d b = relation_is_code r t u x y m n k vx vy lm ln le
      by (OfNumber x) (OfPointer y) vx vy d b =
          addresses_valid g gs ts result ls (null_code x) y m n k few (null_valid g gs ts result ls x (type_of t) m 2 lm vx) vy.0 (omega (arith, ln, le)) (omega (arith, lm, le)) r (is_null_term t) (is_null_term u) b d
      by (OfPointer x) (OfNumber y) vx vy d b =
          addresses_valid g gs ts result ls x (null_code y) m n k few vx.0 (null_valid g gs ts result ls y (type_of u) n 2 ln vy) (omega (arith, ln, le)) (omega (arith, lm, le)) r (is_null_term t) (is_null_term u) b d
      by (OfPointer x) (OfPointer y) vx vy d b =
          addresses_valid g gs ts result ls x y m n k few vx.0 vy.0 (omega (arith, ln, le)) (omega (arith, lm, le)) r (is_null_term t) (is_null_term u) b d

  pub side_made : (u : LogicTerm) (c : PointerCode) (d : Code) (n : ℕ) → depth_of_all c.stmts ≤ n + n → found_by (is_pointer_term u) (PointerWritable p bound plan g ts (sorts_held held) u) (TermWritable p bound plan g ts (sorts_held held) u)
      → (PointerWritable p bound plan g ts (sorts_held held) u → Begins c.used ts → PointerValid g gs ts result ls c n) → (TermWritable p bound plan g ts (sorts_held held) u → Begins d.used ts → IsCode d (type_of u) n 2)
      → Begins (used_by (side_by (is_pointer_term u) c d)) ts → SideValid (side_by (is_pointer_term u) c d) u n
  side_made u c d n deep f as_pointer as_number b = by (is_pointer_term u) f b
    where
      by : (s : Bool) → found_by s (PointerWritable p bound plan g ts (sorts_held held) u) (TermWritable p bound plan g ts (sorts_held held) u) → Begins (used_by (side_by s c d)) ts → SideValid (side_by s c d) u n
      by true f b = (as_pointer f b, deep)
      by false f b = as_number f b

  -- a width of a number
  pub whole_of : (t : LogicTerm) → is_whole (type_of t) ≡ true
  whole_of t = whole_width (width_of t)

  pub whole_term : (t : Option PlainType) → HasIntegers t → is_whole (term_type t) ≡ true
  whole_term t int = ap (λ t. is_whole (term_type t)) int.1 ∙ whole_register int.0

  -- wherever a term stands, but right of a shift to the right
  pub anywhere : (t : LogicTerm) (c : Code) → IsCode c (type_of t) (tokens_of_term t) (parentheses_around 2 (operator_of_term t)) → IsCode c (type_of t) (tokens_of_term t) 2
  anywhere t c v =
      let two = around_two 2 (operator_of_term t) in
      record { statements = v.statements; deep = v.deep; opened = v.opened; flag = v.flag; typed = v.typed; parens = omega (arith, v.parens, two) }
