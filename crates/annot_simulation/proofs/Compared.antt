-- Two pointers: whether they may be compared, whether they are the same, and how far one stands behind the other.
use Rattle.std.proofs.Common.{◌≡◌, ℕ, suc, ◌<◌, ◌≤◌, ℤ, pos, ◌+ℤ◌, Bool, true, false, not, ◌&&◌, ◌||◌, if◌then◌else◌, nat_eq, int_lt, List, [], ◌∷◌, length, length-append, slice_get, slice_set, Option, Some, None, refl, sym, ap, ◌∙◌, subst, arith}
use Rattle.std.proofs.lemmas.Int.{ints}
use Rattle.std.specs.Ordering.{int_eq}
use Rattle.c_syntax.specs.declared.annotation.Range.{Range}
use Rattle.c_syntax.specs.declared.annotation.Relation.{Relation}
use Rattle.c_model.specs.Integers.{truth}
use Rattle.c_model.specs.Logic.{are_together, is_comparable, same_address, is_order, relates_addresses, can_compare, related_addresses}
use Rattle.c_model.specs.Memory.{Value, Integer}
use Rattle.c_model.specs.MemoryQuestions.{Address, null_address, are_separated, is_inside}
use Rattle.c_model.specs.TermRanges.{start_range}
use Rattle.mon_syntax.specs.declared.tree.MonOp.TheVariants.{And, Or, Eq}
use Rattle.mon_syntax.specs.declared.tree.MonType.{MonType}
use Rattle.mon_syntax.specs.declared.tree.MonType.TheVariants.{I32, Ptr}
use Rattle.mon_syntax.specs.Arithmetic.{operate}
use Rattle.mon_syntax.specs.BlockMemory.{over_blocks, is_some}
use Rattle.mon_syntax.specs.Meaning.{Done, Next, exec}
use Rattle.mon_syntax.specs.Trees.{MonExpression, Register, Constant, Binary, Set, MonStatements, Then}
use Rattle.c_effects.specs.Expressions.{before, one, set}
use Rattle.c_simulation.specs.SameRegisters.{Same}
use Rattle.mem_preds.specs.declared.question.Question.TheVariants as question
use Rattle.mem_preds.proofs.Questions.{parts_are_answered}
use Rattle.annot_simulation.specs.Pieces.{Code, conjunction, guarded, take_none}
use Rattle.annot_simulation.specs.Pointers.{PointerCode, no_offset, null, asked_there, one_byte, places_differ, comparable, asked_of_both, equality_asked, equality_code}
use Rattle.annot_simulation.specs.Does.{Setting, runs}
use Rattle.annot_simulation.proofs.Steps.{same_all, same_less, same_trans, same_set, get-set_same, after_runs, HasNumber, constant_has, operation, set_first, set_runs}
use Rattle.annot_simulation.proofs.Parts.{after, truths, both_are, FlagIs, Codes, flag_both, guarded_true, guarded_false}
use Rattle.annot_simulation.proofs.Addresses.{null_based, Based, HoldsPointer, PointerCodes, holds_in}
use Rattle.annot_simulation.proofs.Asked.{ask_first, ask_runs, there_asked}

-- ---- truths

or_are : (a b : Bool) → operate Or I32 (truth a) (truth b) ≡ Some (truth (a || b))
or_are true true = refl
or_are true false = refl
or_are false true = refl
or_are false false = refl

pub is_not : (a : Bool) → operate Eq I32 (truth (not a)) (pos 0) ≡ Some (truth a)
is_not true = refl
is_not false = refl

or_comm : (a b : Bool) → (a || b) ≡ (b || a)
or_comm true true = refl
or_comm true false = refl
or_comm false true = refl
or_comm false false = refl

pub compared_there : (t b : Bool) → is_some (truths (if t then Some b else None)) ≡ t
compared_there true b = refl
compared_there false b = refl

pub compared_truth : (t b : Bool) (z : ℤ) → truths (if t then Some b else None) ≡ Some z → truth b ≡ z
compared_truth true b z e = cc
compared_truth false b z e = absurd cc

-- one byte at each place
one_byte_each : (x y : ℤ) → (int_lt y (x +ℤ pos 1) && int_lt x (y +ℤ pos 1)) ≡ int_eq x y
one_byte_each x y = by (int_eq x y) refl
  where
    by : (t : Bool) → int_eq x y ≡ t → (int_lt y (x +ℤ pos 1) && int_lt x (y +ℤ pos 1)) ≡ t
    by true e = grind (arith, ints, e)
    by false e = grind (arith, ints, e)

places_apart : (x y : Address) → are_separated x (pos 1) y (pos 1) ≡ not (same_address x y)
places_apart x y = ap (λ t. not (nat_eq x.block y.block && t)) (one_byte_each x.offset y.offset)

-- ---- two pointers, one after the other

module _ (w : Setting) where
  pub record BothPointers (c d : PointerCode) (o p : Option Address) (a b : Range) (rs : List MonType) (regs : List Value) : Type 0 where
    pub end : List Value
    pub same : Same (length rs) regs end
    pub is : runs w (before c.stmts d.stmts) regs ≡ Done (Next end) w.target []
    pub first : (later : List Value) → Same (length d.used) end later → HoldsPointer w c.flag c.base c.offset o a later
    pub second : (later : List Value) → Same (length d.used) end later → HoldsPointer w d.flag d.base d.offset p b later

  pub both_pointers : (c d : PointerCode) (o p : Option Address) (a b : Range) (rs : List MonType) (regs : List Value) → length rs ≤ length c.used → length c.used ≤ length d.used
      → (h : PointerCodes w c o a rs regs) → PointerCodes w d p b c.used h.end → BothPointers c d o p a b rs regs
  both_pointers c d o p a b rs regs le more h g = record {
    end = g.end;
    same = same_trans (length rs) (length c.used) regs h.end g.end le h.same g.same;
    is = after_runs w c.stmts d.stmts regs h.end h.is ∙ g.is;
    first = λ later s. holds_in w c o a rs regs h later (same_trans (length c.used) (length d.used) h.end g.end later more g.same s);
    second = λ later s. holds_in w d p b c.used h.end g later s;
  }

  -- a value of both, where there is one
  abbrev pub of_both : {A : Type 0} → Option Address → Option Address → (Address → Address → Option A) → Option A
  of_both o p f = after o (λ x. after p (λ y. f x y))

  -- what is asked of both comes to this
  pub record Asked (a : MonStatements) (r : ℕ) (there : Bool) (P : List Value → Type 0) (regs : List Value) : Type 0 where
    pub end : List Value
    pub same : Same r regs end
    pub is : runs w a regs ≡ Done (Next end) w.target []
    pub flag_is : slice_get end r ≡ Some (Integer (truth there))
    pub holds : P end

  -- a flag and a value in registers behind those of both pointers
  pub record AskedOfBoth (c : Code) (used : List MonType) (o : Option ℤ) (rs : List MonType) (regs both : List Value) : Type 0 where
    pub codes : Codes w c o rs regs
    pub behind : Same (length used) both codes.end

  module _ (c d : PointerCode) (o p : Option Address) (a b : Range) (rs : List MonType) (regs : List Value) (le : length rs ≤ length d.used) (h : BothPointers c d o p a b rs regs) where
    abbrev spot : ℕ
    spot = length d.used

    flag_there : (s t : Bool) → is_some o ≡ s → is_some p ≡ t → FlagIs w (conjunction c.flag d.flag) (s && t) h.end
    flag_there s t e f =
        subst (λ s. FlagIs w (conjunction c.flag d.flag) (s && t) h.end) e (subst (λ t. FlagIs w (conjunction c.flag d.flag) (is_some o && t) h.end) f
        (flag_both w c.flag d.flag (is_some o) (is_some p) h.end (h.first h.end (same_all spot h.end)).flag_is (h.second h.end (same_all spot h.end)).flag_is))

    leads : (x : MonStatements) → runs w (asked_of_both c d x) regs ≡ runs w (guarded (conjunction c.flag d.flag) x (take_none spot)) h.end
    leads x = after_runs w (before c.stmts d.stmts) (guarded (conjunction c.flag d.flag) x (take_none spot)) regs h.end h.is

    missing : (x : MonStatements) (e : MonExpression) (used : List MonType) → spot < length used → length used ≤ length regs → FlagIs w (conjunction c.flag d.flag) false h.end
        → AskedOfBoth (record { stmts = asked_of_both c d x; flag = Some (Register spot); value = e; used = used }) d.used None rs regs h.end
    missing x e used more room f =
        let end = slice_set h.end spot (Integer (pos 0)) in
        let same : Same spot h.end end = same_set spot spot h.end (Integer (pos 0)) (omega arith) in record {
          codes = record {
            end = end;
            same = same_trans (length rs) spot regs h.end end le h.same same;
            is = leads x ∙ guarded_false w (conjunction c.flag d.flag) x (take_none spot) h.end f ∙ set_runs w spot (Constant I32 (pos 0)) h.end (pos 0) refl;
            holds = λ later s. record {
              flag_is = s.below spot more ∙ get-set_same h.end spot (Integer (pos 0)) (omega (arith, more, room, h.same.long));
              value_is = λ z e. absurd cc;
            };
          };
          behind = same;
        }

    -- what is asked of two places, and a value that is made of the answers
    pub asked_of_both_codes : (x : MonStatements) (e : MonExpression) (used : List MonType) (f : Address → Address → Option ℤ) (P : Address → Address → List Value → Type 0) → spot < length used → length used ≤ length regs
        → ((x1 y1 : Address) → o ≡ Some x1 → p ≡ Some y1 → ((later : List Value) → Same spot h.end later → Based w c.base c.offset x1 a later × Based w d.base d.offset y1 b later)
        → Asked x spot (is_some (f x1 y1)) (P x1 y1) h.end)
        → ((x1 y1 : Address) → o ≡ Some x1 → p ≡ Some y1 → (end later : List Value) → P x1 y1 end → Same (length used) end later → (z : ℤ) → f x1 y1 ≡ Some z → HasNumber w e later z)
        → AskedOfBoth (record { stmts = asked_of_both c d x; flag = Some (Register spot); value = e; used = used }) d.used (of_both o p f) rs regs h.end
    asked_of_both_codes x e used f P more room asks makes = by o p refl refl
      where
        made : (x1 y1 : Address) → o ≡ Some x1 → p ≡ Some y1 → AskedOfBoth (record { stmts = asked_of_both c d x; flag = Some (Register spot); value = e; used = used }) d.used (f x1 y1) rs regs h.end
        made x1 y1 q1 q2 =
            let g = asks x1 y1 q1 q2 (λ later s. ((h.first later s).based x1 q1, (h.second later s).based y1 q2)) in record {
              codes = record {
                end = g.end;
                same = same_trans (length rs) spot regs h.end g.end le h.same g.same;
                is = leads x ∙ guarded_true w (conjunction c.flag d.flag) x (take_none spot) h.end (flag_there true true (ap is_some q1) (ap is_some q2)) ∙ g.is;
                holds = λ later s. record { flag_is = s.below spot more ∙ g.flag_is; value_is = λ z q. makes x1 y1 q1 q2 g.end later g.holds s z q };
              };
              behind = g.same;
            }

        by : (u v : Option Address) → o ≡ u → p ≡ v → AskedOfBoth (record { stmts = asked_of_both c d x; flag = Some (Register spot); value = e; used = used }) d.used (of_both u v f) rs regs h.end
        by None v q1 q2 = missing x e used more room (flag_there false (is_some p) (ap is_some q1) refl)
        by (Some x1) None q1 q2 = missing x e used more room (flag_there true false (ap is_some q1) (ap is_some q2))
        by (Some x1) (Some y1) q1 q2 = made x1 y1 q1 q2

  -- ---- whether they are the same

  differ_asked : (p o q u : MonExpression) (r : ℕ) (x y : Address) (a b : Range) (regs : List Value) → Based w p o x a regs → Based w q u y b regs
      → exec over_blocks w.globals (places_differ p o q u r) w.calls w.turns regs w.target ≡ Done (Next (slice_set regs r (Integer (truth (not (same_address x y)))))) w.target []
  differ_asked p o q u r x y a b regs h g =
      parts_are_answered p o one_byte q u one_byte r w.globals w.calls w.turns regs w.target h.pointer g.pointer h.distance (pos 1) g.distance (pos 1) h.base_is h.offset_is refl g.base_is g.offset_is refl
      ∙ (λ i. Done (Next (slice_set regs r (Integer (truth (are_separated (h.is i) (pos 1) (g.is i) (pos 1)))))) w.target [])
      ∙ ap (λ t. Done (Next (slice_set regs r (Integer (truth t)))) w.target []) (places_apart x y)

  module _ (same_store : w.target.mem.store ≡ w.now.store) where
    -- the register becomes a truth, and all below it is as before
    record Counted (a : MonStatements) (r : ℕ) (t : Bool) (regs : List Value) : Type 0 where
      end : List Value
      same : Same r regs end
      is : runs w a regs ≡ Done (Next end) w.target []
      truth_is : slice_get end r ≡ Some (Integer (truth t))

    comparable_runs : (m : Bool) (c : PointerCode) (x : Address) (a : Range) (r : ℕ) (regs : List Value) → (m ≡ true → x ≡ null_address) → suc r < length regs
        → ((later : List Value) → Same r regs later → Based w c.base c.offset x a later) → Counted (comparable m c r) r (is_comparable w.now.store x) regs
    comparable_runs true c x a r regs is_null room h =
        let is : is_comparable w.now.store x ≡ true = ap (is_comparable w.now.store) (is_null refl) in record {
          end = slice_set regs r (Integer (pos 1));
          same = same_set r r regs (Integer (pos 1)) (omega arith);
          is = set_runs w r (Constant I32 (pos 1)) regs (pos 1) refl;
          truth_is = get-set_same regs r (Integer (pos 1)) (omega (arith, room)) ∙ ap (λ t. Some (Integer (truth t))) (sym is);
        }
    comparable_runs false c x a r regs is_null room h = record {
      end = end;
      same = same_trans r r regs second end (omega arith) to_second end_same;
      is =
          ask_first w (asked_there question.Inside Ptr c r) (Then (places_differ c.base c.offset null no_offset (suc r)) joins) regs first (there_asked w same_store question.Inside Ptr c r x a regs (h regs (same_all r regs)))
          ∙ ask_first w (places_differ c.base c.offset null no_offset (suc r)) joins first second (differ_asked c.base c.offset null no_offset (suc r) x null_address a start_range first (h first first_same) (null_based w first))
          ∙ set_runs w r either second (truth (inside || is_zero)) either_has;
      truth_is = get-set_same second r (Integer (truth (inside || is_zero))) (omega (arith, room, first_same.long, second_same.long)) ∙ ap (λ t. Some (Integer (truth t))) (or_comm inside is_zero);
    }
      where
        inside : Bool
        inside = is_inside w.now.store x

        is_zero : Bool
        is_zero = same_address x null_address

        either : MonExpression
        either = Binary Or I32 (Register r) (Binary Eq I32 (Register (suc r)) (Constant I32 (pos 0)))

        joins : MonStatements
        joins = set r either

        first : List Value
        first = slice_set regs r (Integer (truth inside))

        first_same : Same r regs first
        first_same = same_set r r regs (Integer (truth inside)) (omega arith)

        second : List Value
        second = slice_set first (suc r) (Integer (truth (not is_zero)))

        second_same : Same (suc r) first second
        second_same = same_set (suc r) (suc r) first (Integer (truth (not is_zero))) (omega arith)

        to_second : Same r regs second
        to_second = same_trans r (suc r) regs first second (omega arith) first_same second_same

        end : List Value
        end = slice_set second r (Integer (truth (inside || is_zero)))

        end_same : Same r second end
        end_same = same_set r r second (Integer (truth (inside || is_zero))) (omega arith)

        either_has : HasNumber w either second (truth (inside || is_zero))
        either_has =
            operation w Or I32 (Register r) (Binary Eq I32 (Register (suc r)) (Constant I32 (pos 0))) second (truth inside) (truth is_zero) (truth (inside || is_zero)) refl
            (second_same.below r (omega arith) ∙ get-set_same regs r (Integer (truth inside)) (omega (arith, room)))
            (operation w Eq I32 (Register (suc r)) (Constant I32 (pos 0)) second (truth (not is_zero)) (pos 0) (truth is_zero) refl
            (get-set_same first (suc r) (Integer (truth (not is_zero))) (omega (arith, room, first_same.long))) (constant_has w I32 (pos 0) second refl) (is_not is_zero))
            (or_are inside is_zero)

    -- ---- equality

    -- whether they differ stands in the second register
    abbrev Differ : ℕ → Address → Address → List Value → Type 0
    Differ r x y regs = slice_get regs (suc r) ≡ Some (Integer (truth (not (same_address x y))))

    equality_asks : (m n : Bool) (c d : PointerCode) (x y : Address) (a b : Range) (r : ℕ) (regs : List Value) → (m ≡ true → x ≡ null_address) → (n ≡ true → y ≡ null_address) → suc (suc r) < length regs
        → ((later : List Value) → Same r regs later → Based w c.base c.offset x a later × Based w d.base d.offset y b later)
        → Asked (equality_asked m n c d r) r (is_comparable w.now.store x && is_comparable w.now.store y) (Differ r x y) regs
    equality_asks m n c d x y a b r regs null_x null_y room h = record {
      end = last;
      same = same_trans r r regs third last (omega arith) to_third (same_less r (suc r) third last (omega arith) last_same);
      is =
          after_runs w (comparable m c r) (before (comparable n d (suc r)) (Then (Set r both) (one (places_differ c.base c.offset d.base d.offset (suc r))))) regs first.end first.is
          ∙ after_runs w (comparable n d (suc r)) (Then (Set r both) (one (places_differ c.base c.offset d.base d.offset (suc r)))) first.end second.end second.is
          ∙ set_first w r both (one (places_differ c.base c.offset d.base d.offset (suc r))) second.end (truth (s && t)) both_has
          ∙ ask_runs w (places_differ c.base c.offset d.base d.offset (suc r)) third last (differ_asked c.base c.offset d.base d.offset (suc r) x y a b third (h third to_third).0 (h third to_third).1);
      flag_is = last_same.below r (omega arith) ∙ get-set_same second.end r (Integer (truth (s && t))) (omega (arith, room, first.same.long, second.same.long));
      holds = get-set_same third (suc r) (Integer (truth (not (same_address x y)))) (omega (arith, room, first.same.long, second.same.long, third_same.long));
    }
      where
        s : Bool
        s = is_comparable w.now.store x

        t : Bool
        t = is_comparable w.now.store y

        both : MonExpression
        both = Binary And I32 (Register r) (Register (suc r))

        first : Counted (comparable m c r) r s regs
        first = comparable_runs m c x a r regs null_x (omega (arith, room)) (λ later q. (h later q).0)

        second : Counted (comparable n d (suc r)) (suc r) t first.end
        second = comparable_runs n d y b (suc r) first.end null_y (omega (arith, room, first.same.long)) (λ later q. (h later (same_trans r (suc r) regs first.end later (omega arith) first.same q)).1)

        to_second : Same r regs second.end
        to_second = same_trans r (suc r) regs first.end second.end (omega arith) first.same second.same

        both_has : HasNumber w both second.end (truth (s && t))
        both_has = operation w And I32 (Register r) (Register (suc r)) second.end (truth s) (truth t) (truth (s && t)) refl (second.same.below r (omega arith) ∙ first.truth_is) second.truth_is (both_are s t)

        third : List Value
        third = slice_set second.end r (Integer (truth (s && t)))

        third_same : Same r second.end third
        third_same = same_set r r second.end (Integer (truth (s && t))) (omega arith)

        to_third : Same r regs third
        to_third = same_trans r r regs second.end third (omega arith) to_second third_same

        last : List Value
        last = slice_set third (suc r) (Integer (truth (not (same_address x y))))

        last_same : Same (suc r) third last
        last_same = same_set (suc r) (suc r) third (Integer (truth (not (same_address x y)))) (omega arith)

    -- `==` and `!=`, by an expression that is made of the second register
    pub equality_codes : (r : Relation) → is_order r ≡ false → (e : MonExpression) (m n : Bool) (c d : PointerCode) (o p : Option Address) (a b : Range) (rs : List MonType) (regs : List Value) → length rs ≤ length d.used
        → length (equality_code m n e c d).used ≤ length regs → (m ≡ true → o ≡ Some null_address) → (n ≡ true → p ≡ Some null_address) → (h : BothPointers c d o p a b rs regs)
        → ((x y : Address) (later : List Value) → HasNumber w (Register (suc (length d.used))) later (truth (not (same_address x y))) → HasNumber w e later (truth (relates_addresses r x y)))
        → AskedOfBoth (equality_code m n e c d) d.used (of_both o p (λ x y. truths (related_addresses w.now.store r x y))) rs regs h.end
    equality_codes r plain e m n c d o p a b rs regs le room null_o null_p h has =
        asked_of_both_codes c d o p a b rs regs le h (equality_asked m n c d at) e (equality_code m n e c d).used (λ x y. truths (related_addresses w.now.store r x y)) (Differ at) (omega (arith, long)) room
        (λ x y q1 q2 based.
        subst (λ t. Asked (equality_asked m n c d at) at t (Differ at x y) h.end) (sym (compared_there (can_compare w.now.store r x y) (relates_addresses r x y) ∙ can x y))
        (equality_asks m n c d x y a b at h.end (λ i. some_same x null_address (sym q1 ∙ null_o i)) (λ i. some_same y null_address (sym q2 ∙ null_p i)) (omega (arith, long, room, h.same.long)) based))
        (λ x y q1 q2 end later differ s z q.
        has x y later (s.below (suc at) (omega (arith, long)) ∙ differ) ∙ ap (λ z. Some (Integer z)) (compared_truth (can_compare w.now.store r x y) (relates_addresses r x y) z q))
      where
        at : ℕ
        at = length d.used

        long : length (equality_code m n e c d).used ≡ suc (suc (suc at))
        long = omega (arith, length-append d.used (I32 ∷ I32 ∷ I32 ∷ []))

        can : (x y : Address) → can_compare w.now.store r x y ≡ (is_comparable w.now.store x && is_comparable w.now.store y)
        can x y = ap (λ t. if t then are_together w.now.store x y else (is_comparable w.now.store x && is_comparable w.now.store y)) plain

        some_same : (x y : Address) → Some x ≡ Some y → x ≡ y
        some_same x y e = cc
