-- One of two pointers, by a condition: a flag, a base and an offset in three registers.
use Rattle.std.proofs.Common.{◌≡◌, ℕ, suc, ◌<◌, ◌≤◌, ℤ, pos, Bool, true, false, List, [], ◌∷◌, ◌++◌, length, length-append, Option, Some, None, slice_get, slice_set, refl, ◌∙◌, arith, ap, subst}
use Rattle.std.proofs.lemmas.Int.{ints, clamps}
use Rattle.c_syntax.specs.declared.annotation.Range.{Range}
use Rattle.c_model.specs.Integers.{truth}
use Rattle.c_model.specs.Memory.{Pointer, Value, Integer, Points}
use Rattle.c_model.specs.MemoryQuestions.{Address, address_of, address_farther}
use Rattle.c_model.specs.Ranges.{LiesIn}
use Rattle.c_model.specs.TermRanges.{hull}
use Rattle.mon_syntax.specs.declared.tree.MonType.{MonType}
use Rattle.mon_syntax.specs.declared.tree.MonType.TheVariants.{I32, I128, Ptr}
use Rattle.mon_syntax.specs.BlockMemory.{is_some}
use Rattle.mon_syntax.specs.Meaning.{Done, Next}
use Rattle.mon_syntax.specs.Trees.{MonExpression, Register, Constant, If, MonStatements, NoStatement}
use Rattle.c_effects.specs.Expressions.{before, one, set}
use Rattle.c_simulation.specs.SameRegisters.{Same}
use Rattle.mem_preds.specs.Reads.{IsSmall}
use Rattle.annot_simulation.specs.Pieces.{Code, guarded, take_none}
use Rattle.annot_simulation.specs.Pointers.{PointerCode, take_both, take_pointer, branch_pointer}
use Rattle.annot_simulation.specs.Does.{Setting, runs}
use Rattle.annot_simulation.proofs.Steps.{same_all, same_less, same_trans, same_set, get-set_same, after_runs, HasNumber, set_first, set_runs, if_true, if_false}
use Rattle.annot_simulation.proofs.Parts.{truths, chosen, FlagIs, Holds, Codes, guarded_true, guarded_false}
use Rattle.annot_simulation.proofs.Addresses.{Placed, PointerCodes}
use Rattle.annot_simulation.proofs.Asked.{set_any_first}

-- ---- ranges

hull_left : (a b : Range) (z : ℤ) → LiesIn a z → LiesIn (hull a b) z
hull_left a b z h =
    let above = h.above in
    let below = h.below in
    record { above = omega (arith, ints, clamps, above); below = omega (arith, ints, clamps, below) }

hull_right : (a b : Range) (z : ℤ) → LiesIn b z → LiesIn (hull a b) z
hull_right a b z h =
    let above = h.above in
    let below = h.below in
    record { above = omega (arith, ints, clamps, above); below = omega (arith, ints, clamps, below) }

module _ (w : Setting) where
  -- a base and an offset in two registers
  pub record StoredAt (x : Address) (a : Range) (r : ℕ) (regs : List Value) : Type 0 where
    pub pointer : Pointer
    pub distance : ℤ
    pub base_is : slice_get regs (suc r) ≡ Some (Points pointer)
    pub offset_is : slice_get regs (suc (suc r)) ≡ Some (Integer distance)
    pub is : address_farther (address_of pointer) distance ≡ x
    pub small : IsSmall pointer
    pub lies : LiesIn a distance

  pub record TakenPointer (s : MonStatements) (o : Option Address) (a : Range) (r : ℕ) (regs : List Value) : Type 0 where
    pub end : List Value
    pub same : Same r regs end
    pub is : runs w s regs ≡ Done (Next end) w.target []
    pub flag_is : slice_get end r ≡ Some (Integer (truth (is_some o)))
    pub stored : (x : Address) → o ≡ Some x → StoredAt x a r end

  module _ (c : PointerCode) (a : Range) (r : ℕ) (end : List Value) (le : length c.used ≤ r) (room : suc (suc r) < length end) where
    -- behind the flag's register, which is 1
    both_taken : (s : MonStatements) (x : Address) (first : List Value) → Placed w c x a end → Same r end first → slice_get first r ≡ Some (Integer (pos 1)) → runs w s end ≡ runs w (take_both c r) first
        → TakenPointer s (Some x) a r end
    both_taken s x first h same one_is leads = record {
      end = third;
      same = same_trans r (suc r) end second third (omega arith) (same_trans r (suc r) end first second (omega arith) same second_same) (same_less (suc r) (suc (suc r)) second third (omega arith) third_same);
      is =
          leads
          ∙ set_any_first w (suc r) c.base (set (suc (suc r)) c.offset) first (Points h.pointer) (h.base_is first (same_less (length c.used) r end first le same))
          ∙ set_runs w (suc (suc r)) c.offset second h.distance (h.offset_is second (same_less (length c.used) r end second le (same_trans r (suc r) end first second (omega arith) same second_same)));
      flag_is = third_same.below r (omega arith) ∙ second_same.below r (omega arith) ∙ one_is;
      stored = λ y e. let same_address : x ≡ y = cc in record {
        pointer = h.pointer;
        distance = h.distance;
        base_is = third_same.below (suc r) (omega arith) ∙ get-set_same first (suc r) (Points h.pointer) (omega (arith, room, same.long));
        offset_is = get-set_same second (suc (suc r)) (Integer h.distance) (omega (arith, room, same.long, second_same.long));
        is = h.is ∙ same_address;
        small = h.small;
        lies = h.lies;
      };
    }
      where
        second : List Value
        second = slice_set first (suc r) (Points h.pointer)

        second_same : Same (suc r) first second
        second_same = same_set (suc r) (suc r) first (Points h.pointer) (omega arith)

        third : List Value
        third = slice_set second (suc (suc r)) (Integer h.distance)

        third_same : Same (suc (suc r)) second third
        third_same = same_set (suc (suc r)) (suc (suc r)) second (Integer h.distance) (omega arith)

    abbrev first : Bool → List Value
    first t = slice_set end r (Integer (truth t))

    first_same : (t : Bool) → Same r end (first t)
    first_same t = same_set r r end (Integer (truth t)) (omega arith)

    first_is : (t : Bool) → slice_get (first t) r ≡ Some (Integer (truth t))
    first_is t = get-set_same end r (Integer (truth t)) (omega (arith, room))

    pub take_pointer_runs : (f : Option MonExpression) (o : Option Address) → FlagIs w f (is_some o) end → ((x : Address) → o ≡ Some x → Placed w c x a end) → TakenPointer (take_pointer f c r) o a r end
    take_pointer_runs None None flag placed = absurd cc
    take_pointer_runs None (Some x) flag placed =
        both_taken (take_pointer None c r) x (first true) (placed x refl) (first_same true) (first_is true) (set_first w r (Constant I32 (pos 1)) (take_both c r) end (pos 1) refl)
    take_pointer_runs (Some f) None flag placed = record {
      end = first false;
      same = first_same false;
      is =
          set_first w r f (one (If (Register r) (take_both c r) NoStatement)) end (pos 0) flag
          ∙ if_false w (Register r) (take_both c r) NoStatement (first false) (first_is false);
      flag_is = first_is false;
      stored = λ x e. absurd cc;
    }
    take_pointer_runs (Some f) (Some x) flag placed =
        both_taken (take_pointer (Some f) c r) x (first true) (placed x refl) (first_same true) (first_is true)
        (set_first w r f (one (If (Register r) (take_both c r) NoStatement)) end (pos 1) flag ∙ if_true w (Register r) (take_both c r) NoStatement (first true) (first_is true))

  -- one of the two runs, each after registers of its own
  pub branch_pointer_codes : (c : Code) (a b : PointerCode) (oc : Option Bool) (oa ob : Option Address) (ra rb : Range) (rs ja jb : List MonType) (regs : List Value) → length rs ≤ length ja → length rs ≤ length jb → length rs ≤ length b.used
      → length a.used ≤ length b.used → length (b.used ++ I32 ∷ Ptr ∷ I128 ∷ []) ≤ length regs → (cond : Codes w c (truths oc) rs regs) → (oc ≡ Some true → PointerCodes w a oa ra ja cond.end) → (oc ≡ Some false → PointerCodes w b ob rb jb cond.end)
      → PointerCodes w (branch_pointer c a b) (chosen oc oa ob) (hull ra rb) rs regs
  branch_pointer_codes c a b oc oa ob ra rb rs ja jb regs le_a le_b le more room cond ca cb = by oc refl
    where
      r : ℕ
      r = length b.used

      long : length (b.used ++ I32 ∷ Ptr ∷ I128 ∷ []) ≡ suc (suc (suc r))
      long = omega (arith, length-append b.used (I32 ∷ Ptr ∷ I128 ∷ []))

      on : MonStatements
      on = before a.stmts (take_pointer a.flag a r)

      off : MonStatements
      off = before b.stmts (take_pointer b.flag b r)

      inner : MonStatements
      inner = one (If c.value on off)

      all : MonStatements
      all = before c.stmts (guarded c.flag inner (take_none r))

      leads : runs w all regs ≡ runs w (guarded c.flag inner (take_none r)) cond.end
      leads = after_runs w c.stmts (guarded c.flag inner (take_none r)) regs cond.end cond.is

      here : Holds w c.flag c.value (truths oc) cond.end
      here = cond.holds cond.end (same_all (length c.used) cond.end)

      flag_is : (u : Option Bool) → oc ≡ u → FlagIs w c.flag (is_some (truths u)) cond.end
      flag_is u p = subst (λ u. FlagIs w c.flag (is_some (truths u)) cond.end) p here.flag_is

      value_is : (x : Bool) → oc ≡ Some x → HasNumber w c.value cond.end (truth x)
      value_is x p = here.value_is (truth x) (ap truths p)

      part : (d : PointerCode) (o : Option Address) (rd : Range) (js : List MonType) → ((z : ℤ) → LiesIn rd z → LiesIn (hull ra rb) z) → length rs ≤ length js → length d.used ≤ r → (h : PointerCodes w d o rd js cond.end)
          → runs w all regs ≡ runs w (before d.stmts (take_pointer d.flag d r)) cond.end → PointerCodes w (branch_pointer c a b) o (hull ra rb) rs regs
      part d o rd js wider l1 l3 h at =
          let near : Same (length rs) regs h.end = same_trans (length rs) (length js) regs cond.end h.end l1 cond.same h.same in
          let t = take_pointer_runs d rd r h.end l3 (omega (arith, room, long, near.long)) d.flag o (h.flag_is h.end (same_all (length d.used) h.end)) h.placed in record {
            end = t.end;
            same = same_trans (length rs) r regs h.end t.end le near t.same;
            is = at ∙ after_runs w d.stmts (take_pointer d.flag d r) cond.end h.end h.is ∙ t.is;
            flag_is = λ later s. s.below r (omega (arith, long)) ∙ t.flag_is;
            placed = λ x e. let i = t.stored x e in record {
              pointer = i.pointer;
              distance = i.distance;
              base_is = λ later s. s.below (suc r) (omega (arith, long)) ∙ i.base_is;
              offset_is = λ later s. s.below (suc (suc r)) (omega (arith, long)) ∙ i.offset_is;
              is = i.is;
              small = i.small;
              lies = wider i.distance i.lies;
            };
          }

      by : (u : Option Bool) → oc ≡ u → PointerCodes w (branch_pointer c a b) (chosen u oa ob) (hull ra rb) rs regs
      by None p =
          let end = slice_set cond.end r (Integer (pos 0)) in record {
            end = end;
            same = same_trans (length rs) r regs cond.end end le cond.same (same_set r r cond.end (Integer (pos 0)) (omega arith));
            is = leads ∙ guarded_false w c.flag inner (take_none r) cond.end (flag_is None p) ∙ set_runs w r (Constant I32 (pos 0)) cond.end (pos 0) refl;
            flag_is = λ later s. s.below r (omega (arith, long)) ∙ get-set_same cond.end r (Integer (pos 0)) (omega (arith, long, room, cond.same.long));
            placed = λ x e. absurd cc;
          }
      by (Some true) p =
          part a oa ra ja (hull_left ra rb) le_a more (ca p) (leads ∙ guarded_true w c.flag inner (take_none r) cond.end (flag_is (Some true) p) ∙ if_true w c.value on off cond.end (value_is true p))
      by (Some false) p =
          part b ob rb jb (hull_right ra rb) le_b (omega arith) (cb p)
          (leads ∙ guarded_true w c.flag inner (take_none r) cond.end (flag_is (Some false) p) ∙ if_false w c.value on off cond.end (value_is false p))
