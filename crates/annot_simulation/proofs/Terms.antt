-- The code of each form of terms, by that of its parts.
use Rattle.std.proofs.Common.{◌≡◌, suc, ◌<◌, ◌≤◌, ℤ, pos, Bool, true, false, ◌&&◌, if◌then◌else◌, List, [], ◌∷◌, ◌++◌, length, length-append, slice_set, Option, Some, None, refl, sym, ap, ◌∙◌, subst, arith}
use Rattle.c_syntax.specs.declared.annotation.Range.{Range}
use Rattle.c_syntax.specs.declared.expression.BinOp.{BinOp}
use Rattle.c_syntax.specs.declared.expression.UnOp.{UnOp}
use Rattle.c_syntax.specs.declared.expression.UnOp.TheVariants as prefix
use Rattle.c_syntax.specs.declared.expression.Use.{Use}
use Rattle.c_syntax.specs.declared.place.Place.{Place}
use Rattle.c_syntax.specs.declared.types.CInt.{CInt}
use Rattle.c_syntax.specs.declared.types.Width.{Width}
use Rattle.c_syntax.specs.declared.types.Width.TheVariants.{W128}
use Rattle.c_syntax.specs.Ctypes.{PlainType, Int}
use Rattle.c_syntax.specs.Formulas.{CastType, Integers, OfC}
use Rattle.c_syntax.specs.Logic.{LogicTerm, Predicate, range_of}
use Rattle.c_syntax.specs.Logic as logic
use Rattle.c_syntax.specs.Layouts.{IntegerType}
use Rattle.c_model.specs.Integers.{integer_type, truth}
use Rattle.c_model.specs.Logic.{TermValue, Mathematical, Addressed, compute}
use Rattle.c_model.specs.Memory.{Into, Value, Integer, Points, load}
use Rattle.c_model.specs.Predicates.{compute_one, in_type as typed_value, term}
use Rattle.c_model.specs.Ranges.{LiesIn, width_of_range, wrapped}
use Rattle.c_model.specs.TermRanges.{TermRanged, type_range, is_inside, cast_range, unary_range, place_range}
use Rattle.ea_num.proofs.Converted.{widths_fit, conversions_keep_values}
use Rattle.interval_infer.proofs.Sound.{term_within}
use Rattle.interval_infer.proofs.Terms.{terms_lie_in_ranges}
use Rattle.c_model.specs.TypedPredicates.{IsCastType}
use Rattle.mon_syntax.specs.declared.tree.MonType.{MonType}
use Rattle.mon_syntax.specs.declared.tree.MonType.TheVariants.{I32, I128}
use Rattle.mon_syntax.specs.declared.tree.MemoryCall.TheVariants.{Number}
use Rattle.mon_syntax.specs.Arithmetic.{wrap, access_bytes}
use Rattle.mon_syntax.specs.BlockMemory.{over_blocks, load_block, act_on_blocks, holds_number, is_some}
use Rattle.mon_syntax.specs.Meaning.{Done, Next, then_do, at_next, with_value, given_to, replied}
use Rattle.mon_syntax.specs.Meaning.{◌>>=◌ as bind}
use Rattle.mon_syntax.specs.Meaning as monitored
use Rattle.mon_syntax.specs.Trees.{MonExpression, Constant, Cast, Load, NoStatement}
use Rattle.c_effects.specs.Expressions.{in_type, one, register_type, pointer_to}
use Rattle.annot_simulation.specs.Held.{sorts_held}
use Rattle.annot_simulation.specs.Code.{term_type, access_of, question, Reading}
use Rattle.term_guards.specs.Guards.{guard}
use Rattle.annot_simulation.specs.Code.{Code, with_value as code_with_value, two_code, branch, type_of_width, width_of, type_of, working, is_shift, wider, is_total, binary_value, partial_code, operated}
use Rattle.annot_simulation.specs.Code.{unary_value, converted_to, cast_value, is_known, variable_value, variable_code}
use Rattle.annot_simulation.specs.Code as code
use Rattle.annot_simulation.specs.Does.{Setting, Did, runs, Stands, RangesHold, TermFound}
use Rattle.c_simulation.specs.SameRegisters.{Same}
use Rattle.annot_simulation.proofs.Steps.{same_less, same_trans, same_set, get-set_same, HasNumber, constant_has, cast_has, in_type_has}
use Rattle.annot_simulation.proofs.Parts.{after, pair, truths, chosen, Codes, Both, two_runs, changed, sure_codes, partial_runs, branch_runs}
use Rattle.annot_simulation.proofs.Exact.{Fits, wrap_in, fits_right, is_number, value_of, total_defined, guard_has, binary_has, unary_has}
use Rattle.annot_simulation.proofs.Conversions.{wrapped_is, lies_fits, inside_lies}
use Rattle.annot_simulation.proofs.Quiet.{says, choice_is, both_is}
use Rattle.annot_simulation.proofs.Variables.{Variable, variable_in_sight, load_is, IsRead, AllRead, known_is_read, read_value, after_some, unary_some, some_same}

pub from_value : (o : Option TermValue) (z : ℤ) → value_of o ≡ Some z → o ≡ Some (Mathematical z)
from_value None z e = absurd cc
from_value (Some (Mathematical y)) z e = ap (λ y. Some (Mathematical y)) (some_same y z e)
from_value (Some (Addressed y)) z e = absurd cc

-- ---- where values are

unary_there : (op : UnOp) (a r : Range) → unary_range op a ≡ Some r → (o : Option TermValue) → is_some (value_of (compute_one op o)) ≡ is_some (value_of o)
unary_there prefix.Plus a r q None = refl
unary_there prefix.Plus a r q (Some (Mathematical x)) = refl
unary_there prefix.Plus a r q (Some (Addressed x)) = refl
unary_there prefix.Minus a r q None = refl
unary_there prefix.Minus a r q (Some (Mathematical x)) = refl
unary_there prefix.Minus a r q (Some (Addressed x)) = refl
unary_there prefix.Flip a r q None = refl
unary_there prefix.Flip a r q (Some (Mathematical x)) = refl
unary_there prefix.Flip a r q (Some (Addressed x)) = refl
unary_there prefix.Not a r q o = absurd cc
unary_there prefix.Deref a r q o = absurd cc
unary_there prefix.Address a r q o = absurd cc

pair_there : (a b : Option ℤ) (f : ℤ → ℤ → Option ℤ) → ((x y : ℤ) → a ≡ Some x → b ≡ Some y → is_some (f x y) ≡ true) → is_some (pair a b f) ≡ (is_some a && is_some b)
pair_there a b f h = by a b refl refl
  where
    by : (u v : Option ℤ) → a ≡ u → b ≡ v → is_some (pair u v f) ≡ (is_some u && is_some v)
    by None v p q = refl
    by (Some x) None p q = refl
    by (Some x) (Some y) p q = h x y p q

-- the type of C that a cast names
pub record CastTo (t : PlainType) (a r : Range) : Type 0 where
  pub int : CInt
  pub same : t ≡ Int int
  pub is : integer_type t ≡ Some int
  pub range_is : (if is_inside a (type_range int) then a else type_range int) ≡ r

pub cast_to : (t : PlainType) (a r : Range) → IsCastType (OfC t) → cast_range (OfC t) a ≡ Some r → CastTo t a r
cast_to t a r g e = record {
  int = g.int;
  same = g.is;
  is = ap integer_type g.is;
  range_is = some_same (if is_inside a (type_range g.int) then a else type_range g.int) r (sym (ap (λ t. cast_range (OfC t) a) g.is) ∙ e);
}

typed_is : (t : PlainType) (k : CInt) → t ≡ Int k → (o : Option TermValue) → value_of (typed_value t o) ≡ after (value_of o) (λ x. Some (wrapped k x))
typed_is t k e o = ap (λ t. value_of (typed_value t o)) e ∙ by o
  where
    by : (o : Option TermValue) → value_of (typed_value (Int k) o) ≡ after (value_of o) (λ x. Some (wrapped k x))
    by None = refl
    by (Some (Mathematical x)) = refl
    by (Some (Addressed x)) = refl

after_there : (o : Option ℤ) (f : ℤ → ℤ) → is_some (after o (λ x. Some (f x))) ≡ is_some o
after_there None f = refl
after_there (Some x) f = refl

working_fits : (op : BinOp) (wr wa wb : Width) (y : ℤ) → Fits wb y → wrap (type_of_width (working op wr wa wb)) y ≡ y
working_fits op wr wa wb y f = by (is_shift op)
  where
    most : (v : Width) → Fits v y → wrap I128 y ≡ y
    most v g = wrap_in W128 y (fits_right W128 v y g)

    by : (t : Bool) → wrap (type_of_width (if t then W128 else wider wr (wider wa wb))) y ≡ y
    by true = most wb f
    by false = wrap_in (wider wr (wider wa wb)) y (fits_right wr (wider wa wb) y (fits_right wa wb y f))

module _ (w : Setting) (stands : Stands w) (ranges : RangesHold w.seen w.now w.names) where
  abbrev pub value : LogicTerm → Option ℤ
  value t = value_of (term t w.now w.names)

  pub term_lies : (t : LogicTerm) → TermFound w.plan w.now.scope (sorts_held w.held) t → TermRanged w.seen t → (z : ℤ) → value t ≡ Some z → LiesIn (range_of t) z
  term_lies t f q z e = terms_lie_in_ranges w.seen t w.now w.names (Mathematical z) ranges.state ranges.names q (from_value (term t w.now w.names) z e)

  pub term_fits : (t : LogicTerm) → TermFound w.plan w.now.scope (sorts_held w.held) t → TermRanged w.seen t → (z : ℤ) → value t ≡ Some z → Fits (width_of t) z
  term_fits t f q z e = widths_fit (range_of t) z (term_within w.seen t ranges.names.within q) (term_lies t f q z e)

  -- ---- leaves

  pub number_codes : (r : Range) (z : ℤ) (rs : List MonType) (regs : List Value) → Codes w (code.sure_code (Constant (type_of_width (width_of_range r)) z) rs) (Some z) rs regs
  number_codes r z rs regs =
      sure_codes w (Constant (type_of_width (width_of_range r)) z) (Some z) z rs regs refl (λ later s. constant_has w (type_of_width (width_of_range r)) z later (is_number (width_of_range r)))

  module _ (at : Place) (t : Option PlainType) (r : Range) (x : Use) (q : place_range t ≡ Some r) (found : TermFound w.plan w.now.scope (sorts_held w.held) (logic.Variable at t r x)) (rs : List MonType) (regs : List Value) (le : w.low ≤ length rs)
      (near : Same w.low w.regs regs) where
    abbrev this : LogicTerm
    this = logic.Variable at t r x

    abbrev reading : Reading
    reading = record { decl = x.decl; kind = term_type t }

    abbrev k : MonType
    k = type_of_width (width_of_range r)

    v : Variable w.now at t r x
    v = variable_in_sight w.now at t r x q found

    pointer_is : (later : List Value) → Same w.low w.regs later → monitored.eval over_blocks w.globals (pointer_to w.unit w.bound x.decl) later w.target.mem ≡ Some (Points (Into v.number 0))
    pointer_is later s = stands.points x.decl v.number v.found later s

    loads_has : (z : ℤ) → value this ≡ Some z → (later : List Value) → Same w.low w.regs later → HasNumber w (variable_value w.unit w.bound k reading) later z
    loads_has z e later s =
        in_type_has w (term_type t) k (Load (term_type t) (pointer_to w.unit w.bound x.decl)) later z (wrap_in (width_of_range r) z (term_fits this found q z e))
        (ap (λ o. bind o (λ p. load_block (term_type t) p w.target.mem)) (pointer_is later s)
        ∙ ap (λ u. load_block (term_type u) (Points (Into v.number 0)) w.target.mem) v.is
        ∙ load_is v.int v.number w.target.mem
        ∙ ap (λ store. load store (Into v.number 0) (IntegerType v.int)) stands.store_is
        ∙ v.loads z e)

    known_codes : IsRead w.now reading → Codes w (variable_code w.unit w.bound true k reading rs) (value this) rs regs
    known_codes h = by (value this) refl (read_value w.now at t r x v h)
      where
        by : (o : Option ℤ) → value this ≡ o → is_some o ≡ true → Codes w (variable_code w.unit w.bound true k reading rs) (value this) rs regs
        by None p there = absurd cc
        by (Some z) p there = sure_codes w (variable_value w.unit w.bound k reading) (value this) z rs regs p (λ later s. loads_has z p later (same_trans w.low (length rs) w.regs regs later le near s))

    abbrev asked : List Value
    asked = slice_set regs (length rs) (Integer (truth (is_some (value this))))

    question_runs : runs w (one (question w.unit w.bound (length rs) reading)) regs ≡ Done (Next asked) w.target []
    question_runs =
        ap (λ o. then_do (with_value (bind o (λ p. Some (p ∷ Integer (pos 0) ∷ []))) w.target.steps acted) (at_next (monitored.exec_all over_blocks w.globals NoStatement w.calls w.turns))) (pointer_is regs near)
        ∙ ap (λ b. Done (Next (slice_set regs (length rs) (Integer (truth b)))) w.target [])
        (ap (λ store. holds_number store (Into v.number 0) (pos 0) (access_bytes (access_of (term_type t)))) stands.store_is ∙ sym v.there)
      where
        acted : List Value → Did
        acted vs = then_do (replied over_blocks (act_on_blocks (Number (access_of (term_type t))) vs w.target.mem) w.target) (λ v u. Done (Next (given_to (Some (length rs)) v regs)) u [])

    asked_codes : length (rs ++ I32 ∷ []) ≤ length regs → Codes w (variable_code w.unit w.bound false k reading rs) (value this) rs regs
    asked_codes room =
        let long : length (rs ++ I32 ∷ []) ≡ suc (length rs) = omega (arith, length-append rs (I32 ∷ [])) in
        let here : Same (length rs) regs asked = same_set (length rs) (length rs) regs (Integer (truth (is_some (value this)))) (omega arith) in record {
          end = asked;
          same = here;
          is = question_runs;
          holds = λ later s. record {
            flag_is = s.below (length rs) (omega (arith, long)) ∙ get-set_same regs (length rs) (Integer (truth (is_some (value this)))) (omega (arith, long, room));
            value_is = λ z e.
                loads_has z e later
                (same_trans w.low (length rs) w.regs asked later le (same_trans w.low (length rs) w.regs regs asked le near here) (same_less (length rs) (length (rs ++ I32 ∷ [])) asked later (omega (arith, long)) s));
          };
        }

    pub variable_codes : (known : List Reading) → AllRead w.now known → length (variable_code w.unit w.bound (is_known known reading) k reading rs).used ≤ length regs
        → Codes w (variable_code w.unit w.bound (is_known known reading) k reading rs) (value this) rs regs
    variable_codes known all = by (is_known known reading) refl
      where
        by : (b : Bool) → is_known known reading ≡ b → length (variable_code w.unit w.bound b k reading rs).used ≤ length regs → Codes w (variable_code w.unit w.bound b k reading rs) (value this) rs regs
        by true p room = known_codes (known_is_read w.now known reading all p)
        by false p room = asked_codes room

  -- ---- operators and casts

  pub unary_codes : (at : Place) (t : Option PlainType) (r : Range) (op : UnOp) (a : LogicTerm) → TermRanged w.seen (logic.Unary at t r op a) → TermFound w.plan w.now.scope (sorts_held w.held) a → (c : Code) (rs : List MonType) (regs : List Value)
      → Codes w c (value a) rs regs
      → Codes w (code_with_value (unary_value op (type_of_width (width_of_range r)) (type_of_width (wider (width_of_range r) (width_of a))) (type_of a) c.value) c) (value (logic.Unary at t r op a)) rs regs
  unary_codes at t r op a q f c rs regs h =
      changed w c (unary_value op (type_of_width (width_of_range r)) (type_of_width (wider (width_of_range r) (width_of a))) (type_of a) c.value) (value a) (value (logic.Unary at t r op a)) rs regs h
      (unary_there op (range_of a) r q.0 (term a w.now w.names))
      (λ later has z e.
      let x = unary_some op (term a w.now w.names) z e in
      unary_has w later op (range_of a) r c.value x.0 z (width_of a) (width_of_range r) q.0 (term_fits a f q.1 x.0 x.1) (term_fits (logic.Unary at t r op a) f q z e) (has x.0 x.1)
      (sym (ap (λ o. value_of (compute_one op o)) (from_value (term a w.now w.names) x.0 x.1)) ∙ e))

  module _ (at : Place) (t : Option PlainType) (r : Range) (op : BinOp) (a b : LogicTerm) (q : TermRanged w.seen (logic.Binary at t r op a b)) (f : TermFound w.plan w.now.scope (sorts_held w.held) (logic.Binary at t r op a b)) (x y : Code)
      (rs : List MonType) (regs : List Value) (h : Both w x y (value a) (value b) rs regs) where
    abbrev whole : LogicTerm
    whole = logic.Binary at t r op a b

    abbrev in_width : Width
    in_width = working op (width_of_range r) (width_of a) (width_of b)

    abbrev made : MonExpression
    made = binary_value op (type_of_width (width_of_range r)) (type_of_width in_width) (type_of a) (type_of b) (range_of b) x.value y.value

    abbrev computes : ℤ → ℤ → Option ℤ
    computes i j = value_of (compute op i j)

    whole_is : value whole ≡ pair (value a) (value b) computes
    whole_is = both_is op (term a w.now w.names) (term b w.now w.names)

    -- the numbers of both operands
    made_has : (later : List Value) (i j z : ℤ) → value a ≡ Some i → value b ≡ Some j → HasNumber w x.value later i → HasNumber w y.value later j → computes i j ≡ Some z → HasNumber w made later z
    made_has later i j z ea eb ha hb e =
        let is : value whole ≡ Some z = whole_is ∙ ap (λ o. pair o (value b) computes) ea ∙ ap (λ o. after o (computes i)) eb ∙ e in
        binary_has w later x.value y.value i j z (width_of a) (width_of b) (width_of_range r) (term_fits a f.0 q.1 i ea) (term_fits b f.1 q.2 j eb) (term_fits whole f q z is) ha hb op (range_of a) (range_of b) r q.0 (term_lies b f.1 q.2 j eb) e

    total_codes : is_total op (range_of b) ≡ true → Codes w (two_code x y made) (value whole) rs regs
    total_codes total =
        (two_runs w x y made (value a) (value b) (value whole) rs regs h
        (ap is_some whole_is ∙ pair_there (value a) (value b) computes (λ i j ea eb. total_defined op (range_of a) (range_of b) r i j q.0 total (term_lies b f.1 q.2 j eb)))
        (λ later ha hb z e.
        let i = after_some (value a) (λ i. after (value b) (computes i)) z (sym whole_is ∙ e) in
        let j = after_some (value b) (computes i.0) z i.2 in
        made_has later i.0 j.0 z i.1 j.1 (ha i.0 i.1) (hb j.0 j.1) j.2)).codes

    partial_codes : is_total op (range_of b) ≡ false → length rs ≤ length y.used → suc (length y.used) < length regs → Codes w (partial_code op (type_of_width (width_of_range r)) (type_of_width in_width) (type_of b) x y made) (value whole) rs regs
    partial_codes total le room =
        subst (λ o. Codes w (partial_code op (type_of_width (width_of_range r)) (type_of_width in_width) (type_of b) x y made) o rs regs) (sym whole_is)
        (partial_runs w x y (guard (type_of_width in_width) op (in_type (type_of b) (type_of_width in_width) y.value)) made (type_of_width (width_of_range r)) (value a) (value b) computes rs regs le room h
        (λ i j ea eb later ha hb. record {
          flag_is =
              guard_has w later op (range_of b) in_width (in_type (type_of b) (type_of_width in_width) y.value) i j total
              (in_type_has w (type_of b) (type_of_width in_width) y.value later j (working_fits op (width_of_range r) (width_of a) (width_of b) j (term_fits b f.1 q.2 j eb)) hb);
          value_is = λ z e. made_has later i j z ea eb ha hb e;
        }))

    pub binary_codes : length rs ≤ length y.used → length (operated (is_total op (range_of b)) op (type_of_width (width_of_range r)) (type_of_width in_width) (type_of b) x y made).used ≤ length regs
        → Codes w (operated (is_total op (range_of b)) op (type_of_width (width_of_range r)) (type_of_width in_width) (type_of b) x y made) (value whole) rs regs
    binary_codes le = by (is_total op (range_of b)) refl
      where
        by : (s : Bool) → is_total op (range_of b) ≡ s → length (operated s op (type_of_width (width_of_range r)) (type_of_width in_width) (type_of b) x y made).used ≤ length regs
            → Codes w (operated s op (type_of_width (width_of_range r)) (type_of_width in_width) (type_of b) x y made) (value whole) rs regs
        by true p room = total_codes p
        by false p room = partial_codes p le (omega (arith, room, length-append y.used (I32 ∷ type_of_width (width_of_range r) ∷ [])))

  pub cast_codes : (at : Place) (t : Option PlainType) (r : Range) (to : CastType) (a : LogicTerm) → TermRanged w.seen (logic.Cast at t r to a) → TermFound w.plan w.now.scope (sorts_held w.held) (logic.Cast at t r to a)
      → (c : Code) (rs : List MonType) (regs : List Value)
      → Codes w c (value a) rs regs
      → Codes w (code_with_value (cast_value to (range_of a) (type_of_width (width_of_range r)) (type_of a) c.value) c) (value (logic.Cast at t r to a)) rs regs
  cast_codes at t r Integers a q f c rs regs h = changed w c c.value (value a) (value (logic.Cast at t r Integers a)) rs regs h refl (λ later has z e. has z e)
  cast_codes at t r (OfC to) a q f c rs regs h =
      changed w c (converted_to (integer_type to) (range_of a) wr (type_of a) c.value) (value a) (value this) rs regs h (ap is_some this_is ∙ after_there (value a) (wrapped k))
      (λ later has z e.
      let x = after_some (value a) (λ x. Some (wrapped k x)) z (sym this_is ∙ e) in
      subst (λ i. HasNumber w (converted_to i (range_of a) wr (type_of a) c.value) later z) (sym i.is) (by later x.0 z x.1 e (has x.0 x.1) (some_same (wrapped k x.0) z x.2) (is_inside (range_of a) (type_range k)) refl))
    where
      this : LogicTerm
      this = logic.Cast at t r (OfC to) a

      wr : MonType
      wr = type_of_width (width_of_range r)

      i : CastTo to (range_of a) r
      i = cast_to to (range_of a) r f.0 q.0

      k : CInt
      k = i.int

      this_is : value this ≡ after (value a) (λ x. Some (wrapped k x))
      this_is = typed_is to k i.same (term a w.now w.names)

      by : (later : List Value) (x z : ℤ) → value a ≡ Some x → value this ≡ Some z → HasNumber w c.value later x → wrapped k x ≡ z → (s : Bool) → is_inside (range_of a) (type_range k) ≡ s
          → HasNumber w (if s then c.value else in_type (register_type k) wr (Cast (register_type k) c.value)) later z
      by later x z ea ez has is true p =
          has ∙ ap (λ z. Some (Integer z)) (sym (conversions_keep_values k x (lies_fits k x (inside_lies (range_of a) (type_range k) x p (term_lies a f.1 q.1 x ea)))) ∙ is)
      by later x z ea ez has is false p =
          in_type_has w (register_type k) wr (Cast (register_type k) c.value) later z (wrap_in (width_of_range r) z (term_fits this f q z ez))
          (cast_has w (register_type k) c.value later x z (sym (wrapped_is k x) ∙ is) has)

  -- ---- choices

  -- one side of a choice, in the type of the whole
  side_codes : (r : Range) (a : LogicTerm) (c : Code) (rs : List MonType) (regs : List Value) → ((z : ℤ) → value a ≡ Some z → Fits (width_of_range r) z) → Codes w c (value a) rs regs
      → Codes w (code_with_value (in_type (type_of a) (type_of_width (width_of_range r)) c.value) c) (value a) rs regs
  side_codes r a c rs regs fit h =
      changed w c (in_type (type_of a) (type_of_width (width_of_range r)) c.value) (value a) (value a) rs regs h refl
      (λ later has z e. in_type_has w (type_of a) (type_of_width (width_of_range r)) c.value later z (wrap_in (width_of_range r) z (fit z e)) (has z e))

  pub choice_codes : (at : Place) (t : Option PlainType) (r : Range) (c : Predicate) (a b : LogicTerm) → TermRanged w.seen (logic.Choice at t r c a b) → TermFound w.plan w.now.scope (sorts_held w.held) (logic.Choice at t r c a b)
      → (z x y : Code) (rs : List MonType) (regs : List Value)
      → length rs ≤ length z.used → length z.used ≤ length x.used → length x.used ≤ length y.used → suc (length y.used) < length regs → (cz : Codes w z (truths (says c w.now w.names)) rs regs)
      → (says c w.now w.names ≡ Some true → Codes w x (value a) z.used cz.end) → (says c w.now w.names ≡ Some false → Codes w y (value b) x.used cz.end)
      → Codes w (branch (type_of_width (width_of_range r)) z (code_with_value (in_type (type_of a) (type_of_width (width_of_range r)) x.value) x) (code_with_value (in_type (type_of b) (type_of_width (width_of_range r)) y.value) y))
      (value (logic.Choice at t r c a b)) rs regs
  choice_codes at t r c a b q f z x y rs regs l1 l2 l3 room cz cx cy =
      subst (λ o. Codes w (branch wr z (code_with_value (in_type (type_of a) wr x.value) x) (code_with_value (in_type (type_of b) wr y.value) y)) o rs regs) (sym this_is)
      (branch_runs w wr z (code_with_value (in_type (type_of a) wr x.value) x) (code_with_value (in_type (type_of b) wr y.value) y) (says c w.now w.names) (value a) (value b) rs z.used x.used regs l1 (omega (arith, l1, l2))
      (omega (arith, l1, l2, l3)) l3 room cz
      (λ p. side_codes r a x z.used cz.end (λ i e. term_fits this f q i (this_is ∙ ap (λ u. chosen u (value a) (value b)) p ∙ e)) (cx p))
      (λ p. side_codes r b y x.used cz.end (λ i e. term_fits this f q i (this_is ∙ ap (λ u. chosen u (value a) (value b)) p ∙ e)) (cy p)))
    where
      this : LogicTerm
      this = logic.Choice at t r c a b

      wr : MonType
      wr = type_of_width (width_of_range r)

      this_is : value this ≡ chosen (says c w.now w.names) (value a) (value b)
      this_is = choice_is c a b w.now w.names
