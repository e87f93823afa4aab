-- What the code of a predicate comes to, by its answer: the steps that it takes are those of the answer.
use Rattle.std.proofs.Common.{◌≡◌, ℕ, suc, ◌<◌, ◌≤◌, ℤ, pos, Bool, true, false, ◌&&◌, if◌then◌else◌, List, [], ◌∷◌, ◌++◌, length, length-append, slice_get, slice_set, int_lt, Option, Some, None, refl, sym, ap, ◌∙◌, subst, arith}
use Rattle.c_syntax.specs.declared.logic.Connective.{Connective}
use Rattle.c_syntax.specs.declared.logic.Connective.TheVariants.{And, Xor, Or, Implies, Iff}
use Rattle.c_model.specs.Integers.{truth}
use Rattle.c_model.specs.Logic.{Answer, Says, SaysNothing, OutOfSteps, lazily, denied, silenced, fully}
use Rattle.c_model.specs.Predicates.{same_as, other_than, connected as connected_answers}
use Rattle.c_model.specs.Memory.{Value, Integer}
use Rattle.mon_syntax.specs.declared.tree.MonType.{MonType}
use Rattle.mon_syntax.specs.declared.tree.MonType.TheVariants.{I32}
use Rattle.mon_syntax.specs.declared.tree.MonOp.TheVariants as mon
use Rattle.mon_syntax.specs.BlockMemory.{is_some}
use Rattle.mon_syntax.specs.Meaning.{Done, Stops, Next}
use Rattle.mon_syntax.specs.Trees.{MonExpression, Register, Constant, Binary, If, Set, MonStatements, NoStatement, Then}
use Rattle.c_effects.specs.Expressions.{before, one, set}
use Rattle.annot_simulation.specs.Code.{Code, conjunction, guarded, take, take_none, taken, branch, two_code, truth_code, is_sure, connective_operator, both_asked, left_first, connected as connected_code, with_value as code_with_value}
use Rattle.c_model.specs.Logic.{said}
use Rattle.c_simulation.specs.SameRegisters.{Same}
use Rattle.annot_simulation.specs.Does.{Did, Setting, with_steps, runs}
use Rattle.c_model.specs.MonitoredRuns.{Spent}
use Rattle.annot_simulation.proofs.Steps.{same_all, same_less, same_trans, same_set, get-set_same, set_first, set_runs, after_to, stopped, HasNumber, constant_has, operation, if_true, if_false}
use Rattle.annot_simulation.proofs.Parts.{truths, Holds, FlagIs, Codes, Taken, take_runs, none_taken, flag_both, guarded_true, guarded_false}
use Rattle.annot_simulation.proofs.Connected.{IsStrict, IsIff, IsXor, asked_is, none_there, conjunction_none}
use Rattle.annot_simulation.proofs.Quiet.{connected}
use Rattle.std.proofs.lemmas.Int.{ints, clamps}
use Rattle.std.specs.Int.{int_min}
use Rattle.mon_syntax.specs.Arithmetic.{is_pointer, operate}
use Rattle.quantifier_loops.specs.Tries.{at_most}

-- like `Codes`, with so many steps left in the end
pub record CodesTo (w : Setting) (k : ℕ) (c : Code) (o : Option ℤ) (rs : List MonType) (regs : List Value) : Type 0 where
  pub end : List Value
  pub same : Same (length rs) regs end
  pub is : runs w c.stmts regs ≡ Done (Next end) (record w.target { steps = k }) []
  pub holds : (later : List Value) → Same (length c.used) end later → Holds w c.flag c.value o later

abbrev pub Told : Setting → Code → Answer → List MonType → List Value → Type 0
Told w c (Says b k) rs regs = CodesTo w k c (Some (truth b)) rs regs
Told w c (SaysNothing k) rs regs = CodesTo w k c None rs regs
Told w c OutOfSteps rs regs = runs w c.stmts regs ≡ Stops Spent 0 []

-- what takes no step
pub told_of : (w : Setting) (c : Code) (u : Option Bool) (rs : List MonType) (regs : List Value) → Codes w c (truths u) rs regs → Told w c (said u w.target.steps) rs regs
told_of w c None rs regs h = record { end = h.end; same = h.same; is = h.is; holds = h.holds }
told_of w c (Some b) rs regs h = record { end = h.end; same = h.same; is = h.is; holds = h.holds }

pub codes_of : (w : Setting) (c : Code) (u : Option Bool) (rs : List MonType) (regs : List Value) → Told w c (said u w.target.steps) rs regs → Codes w c (truths u) rs regs
codes_of w c None rs regs h = record { end = h.end; same = h.same; is = h.is; holds = h.holds }
codes_of w c (Some b) rs regs h = record { end = h.end; same = h.same; is = h.is; holds = h.holds }

length_two : (rs : List MonType) (t : MonType) → length (rs ++ I32 ∷ t ∷ []) ≡ suc (suc (length rs))
length_two rs t = omega (arith, length-append rs (I32 ∷ t ∷ []))

-- expressions see no steps
pub holds_with : (w : Setting) (j k : ℕ) (f : Option MonExpression) (e : MonExpression) (o : Option ℤ) (later : List Value) → Holds (with_steps k w) f e o later → Holds (with_steps j w) f e o later
holds_with w j k f e o later h = record { flag_is = h.flag_is; value_is = h.value_is }

pub holds_here : (w : Setting) (k : ℕ) (f : Option MonExpression) (e : MonExpression) (o : Option ℤ) (later : List Value) → Holds (with_steps k w) f e o later → Holds w f e o later
holds_here w k f e o later h = record { flag_is = h.flag_is; value_is = h.value_is }

module _ (w : Setting) where
  taken_to : (k : ℕ) (a : MonStatements) (t : MonType) (us : List MonType) (o : Option ℤ) (rs : List MonType) (regs mid : List Value) (b : MonStatements) → length rs ≤ length us → Same (length rs) regs mid
      → runs w a regs ≡ runs (with_steps k w) b mid → Taken (with_steps k w) b o (length us) mid → CodesTo w k (taken a t us) o rs regs
  taken_to k a t us o rs regs mid b le same leads h = record {
    end = h.end;
    same = same_trans (length rs) (length us) regs mid h.end le same h.same;
    is = leads ∙ h.is;
    holds = λ later s. record {
      flag_is = s.below (length us) (omega (arith, length_two us t)) ∙ h.flag_is;
      value_is = λ z e. s.below (suc (length us)) (omega (arith, length_two us t)) ∙ h.value_is z e;
    };
  }

  -- the flag and the truth of a part, in two registers
  part_told : (k : ℕ) (all : MonStatements) (us : List MonType) (d : Code) (B : Answer) (js rs : List MonType) (regs mid : List Value) → length rs ≤ length us → length rs ≤ length js → length d.used ≤ length us → suc (length us) < length regs
      → Same (length rs) regs mid → runs w all regs ≡ runs (with_steps k w) (before d.stmts (take d.flag d.value (length us))) mid → Told (with_steps k w) d B js mid → Told w (taken all I32 us) B rs regs
  part_told k all us d (Says b j) js rs regs mid le l1 l2 room same leads h =
      taken_to j all I32 us (Some (truth b)) rs regs h.end (take d.flag d.value (length us)) le (same_trans (length rs) (length js) regs mid h.end l1 same h.same)
      (leads ∙ after_to (with_steps k w) j d.stmts (take d.flag d.value (length us)) mid h.end h.is)
      (take_runs (with_steps j w) d.flag d.value (Some (truth b)) (length us) h.end (omega (arith, room, same.long, h.same.long))
      (λ later s. holds_with w j k d.flag d.value (Some (truth b)) later (h.holds later (same_less (length d.used) (length us) h.end later l2 s))))
  part_told k all us d (SaysNothing j) js rs regs mid le l1 l2 room same leads h =
      taken_to j all I32 us None rs regs h.end (take d.flag d.value (length us)) le (same_trans (length rs) (length js) regs mid h.end l1 same h.same)
      (leads ∙ after_to (with_steps k w) j d.stmts (take d.flag d.value (length us)) mid h.end h.is)
      (take_runs (with_steps j w) d.flag d.value None (length us) h.end (omega (arith, room, same.long, h.same.long)) (λ later s. holds_with w j k d.flag d.value None later (h.holds later (same_less (length d.used) (length us) h.end later l2 s))))
  part_told k all us d OutOfSteps js rs regs mid le l1 l2 room same leads h = leads ∙ stopped (with_steps k w) d.stmts (take d.flag d.value (length us)) mid Spent 0 h

  -- one of two parts, as a condition says
  pub branch_told : (c a b : Code) (A : Answer) (on off : ℕ → Answer) (rs ja jb : List MonType) (regs : List Value) → length rs ≤ length ja → length rs ≤ length jb → length rs ≤ length b.used → length a.used ≤ length b.used
      → suc (length b.used) < length regs → Told w c A rs regs
      → ((end : List Value) (k : ℕ) → Same (length rs) regs end → A ≡ Says true k → ((later : List Value) → Same (length c.used) end later → Holds w c.flag c.value (Some (truth true)) later) → Told (with_steps k w) a (on k) ja end)
      → ((end : List Value) (k : ℕ) → Same (length rs) regs end → A ≡ Says false k → Told (with_steps k w) b (off k) jb end) → Told w (branch I32 c a b) (lazily A on off) rs regs
  branch_told c a b A on off rs ja jb regs le_a le_b le more room h ha hb = by A refl h
    where
      r : ℕ
      r = length b.used

      yes_part : MonStatements
      yes_part = before a.stmts (take a.flag a.value r)

      no_part : MonStatements
      no_part = before b.stmts (take b.flag b.value r)

      inner : MonStatements
      inner = one (If c.value yes_part no_part)

      rest : MonStatements
      rest = guarded c.flag inner (take_none r)

      by : (B : Answer) → A ≡ B → Told w c B rs regs → Told w (branch I32 c a b) (lazily B on off) rs regs
      by (Says true k) e d =
          let here = d.holds d.end (same_all (length c.used) d.end) in
          part_told k (before c.stmts rest) b.used a (on k) ja rs regs d.end le le_a more room d.same
          (after_to w k c.stmts rest regs d.end d.is ∙ guarded_true (with_steps k w) c.flag inner (take_none r) d.end here.flag_is ∙ if_true (with_steps k w) c.value yes_part no_part d.end (here.value_is (truth true) refl))
          (ha d.end k d.same e d.holds)
      by (Says false k) e d =
          let here = d.holds d.end (same_all (length c.used) d.end) in
          part_told k (before c.stmts rest) b.used b (off k) jb rs regs d.end le le_b (omega arith) room d.same
          (after_to w k c.stmts rest regs d.end d.is ∙ guarded_true (with_steps k w) c.flag inner (take_none r) d.end here.flag_is ∙ if_false (with_steps k w) c.value yes_part no_part d.end (here.value_is (truth false) refl))
          (hb d.end k d.same e)
      by (SaysNothing k) e d =
          let here = d.holds d.end (same_all (length c.used) d.end) in
          taken_to k (before c.stmts rest) I32 b.used None rs regs d.end (take_none r) le d.same
          (after_to w k c.stmts rest regs d.end d.is ∙ guarded_false (with_steps k w) c.flag inner (take_none r) d.end here.flag_is) (none_taken (with_steps k w) r d.end (omega (arith, room, d.same.long)))
      by OutOfSteps e d = stopped w c.stmts rest regs Spent 0 d

  -- ---- connectives

  pub truth_told : (b : Bool) (k : ℕ) (rs : List MonType) (regs : List Value) → Told (with_steps k w) (truth_code b rs) (Says b k) rs regs
  truth_told b k rs regs = record {
    end = regs;
    same = same_all (length rs) regs;
    is = refl;
    holds = λ later s. record { flag_is = refl; value_is = λ z e. let same_number : truth b ≡ z = cc in ap (λ z. Some (Integer z)) same_number };
  }

  -- a value that is made of a part's
  pub changed_told : (c : Code) (e : MonExpression) (k : ℕ) (a o : Option ℤ) (rs : List MonType) (regs : List Value) → CodesTo w k c a rs regs → is_some o ≡ is_some a
      → ((later : List Value) → ((x : ℤ) → a ≡ Some x → HasNumber w c.value later x) → (z : ℤ) → o ≡ Some z → HasNumber w e later z) → CodesTo w k (code_with_value e c) o rs regs
  changed_told c e k a o rs regs h there has = record {
    end = h.end;
    same = h.same;
    is = h.is;
    holds = λ later s.
        let hs = h.holds later s in record {
          flag_is = subst (λ t. FlagIs w c.flag t later) (sym there) hs.flag_is;
          value_is = λ z q. has later hs.value_is z q;
        };
  }

  -- both parts, one after the other
  two_to : (p q : Code) (e : MonExpression) (k j : ℕ) (oa ob o : Option ℤ) (rs : List MonType) (regs : List Value) → length rs ≤ length p.used → length p.used ≤ length q.used → (cp : CodesTo w k p oa rs regs)
      → CodesTo (with_steps k w) j q ob p.used cp.end → is_some o ≡ (is_some oa && is_some ob)
      → ((later : List Value) (x y z : ℤ) → oa ≡ Some x → ob ≡ Some y → HasNumber w p.value later x → HasNumber w q.value later y → o ≡ Some z → HasNumber w e later z)
      → CodesTo w j (two_code p q e) o rs regs
  two_to p q e k j oa ob o rs regs le more cp cq there has = record {
    end = cq.end;
    same = same_trans (length rs) (length p.used) regs cp.end cq.end le cp.same cq.same;
    is = after_to w k p.stmts q.stmts regs cp.end cp.is ∙ cq.is;
    holds = λ later s.
        let hp = cp.holds later (same_trans (length p.used) (length q.used) cp.end cq.end later more cq.same s) in
        let hq = holds_here w k q.flag q.value ob later (cq.holds later s) in record {
          flag_is = subst (λ t. FlagIs w (conjunction p.flag q.flag) t later) (sym there) (flag_both w p.flag q.flag (is_some oa) (is_some ob) later hp.flag_is hq.flag_is);
          value_is = λ z f. value later hp hq z f oa ob refl refl;
        };
  }
    where
      value : (later : List Value) → Holds w p.flag p.value oa later → Holds w q.flag q.value ob later → (z : ℤ) → o ≡ Some z → (u v : Option ℤ) → oa ≡ u → ob ≡ v → HasNumber w e later z
      value later hp hq z f None v eu ev = let none : true ≡ false = ap is_some (sym f) ∙ there ∙ ap (λ u. is_some u && is_some ob) eu in absurd cc
      value later hp hq z f (Some x) None eu ev = let none : true ≡ false = ap is_some (sym f) ∙ there ∙ (λ i. is_some (eu i) && is_some (ev i)) in absurd cc
      value later hp hq z f (Some x) (Some y) eu ev = has later x y z eu ev (hp.value_is x eu) (hq.value_is y ev) f

  module _ (c : Connective) (p q : Code) (rs : List MonType) (regs : List Value) (le : length rs ≤ length p.used) (more : length p.used ≤ length q.used) where
    abbrev both_value : MonExpression
    both_value = Binary (connective_operator c) I32 p.value q.value

    said_both : (x y : Bool) (k j : ℕ) (b : Bool) → connected c (Some x) (Some y) ≡ Some b → (cp : CodesTo w k p (Some (truth x)) rs regs) → CodesTo (with_steps k w) j q (Some (truth y)) p.used cp.end
        → CodesTo w j (both_asked c p q) (Some (truth b)) rs regs
    said_both x y k j b e cp cq =
        two_to p q both_value k j (Some (truth x)) (Some (truth y)) (Some (truth b)) rs regs le more cp cq refl (λ later i l z ei el hp hq ez.
        operation w (connective_operator c) I32 p.value q.value later i l z refl hp hq (by x y z i l ei el (ap truths e ∙ ez)))
      where
        by : (x y : Bool) (z i l : ℤ) → Some (truth x) ≡ Some i → Some (truth y) ≡ Some l → truths (connected c (Some x) (Some y)) ≡ Some z → operate (connective_operator c) I32 i l ≡ Some z
        by x y z i l ei el ez =
            let first : truth x ≡ i = cc in
            let second : truth y ≡ l = cc in
            (λ t. operate (connective_operator c) I32 (sym first t) (sym second t)) ∙ asked_is c x y z ez

    nothing_first : (k j : ℕ) (o : Option ℤ) → (cp : CodesTo w k p None rs regs) → CodesTo (with_steps k w) j q o p.used cp.end → CodesTo w j (both_asked c p q) None rs regs
    nothing_first k j o cp cq = two_to p q both_value k j None o None rs regs le more cp cq refl (λ later x y z ex ey hp hq ez. absurd cc)

    nothing_second : (x : Bool) (k j : ℕ) → (cp : CodesTo w k p (Some (truth x)) rs regs) → CodesTo (with_steps k w) j q None p.used cp.end → CodesTo w j (both_asked c p q) None rs regs
    nothing_second x k j cp cq = two_to p q both_value k j (Some (truth x)) None None rs regs le more cp cq refl (λ later x y z ex ey hp hq ez. absurd cc)

    -- a right side without statements and flag says something, and takes no step
    record Sure (k : ℕ) (B : Answer) (end : List Value) : Type 0 where
      says : Bool
      is : B ≡ Says says k
      codes : CodesTo (with_steps k w) k q (Some (truth says)) p.used end

    done_steps : (k j : ℕ) (end mid : List Value) → runs (with_steps k w) NoStatement end ≡ Done (Next mid) (record w.target { steps = j }) [] → k ≡ j
    done_steps k j end mid e = ap steps_in e
      where
        steps_in : Did → ℕ
        steps_in (Done a t o) = t.steps
        steps_in (Stops f n o) = n

    sure_right : (k : ℕ) (B : Answer) (end : List Value) → is_sure q ≡ true → Told (with_steps k w) q B p.used end → Sure k B end
    sure_right k (Says b j) end s h =
        let here = none_there q.stmts q.flag s in
        let same_steps : k ≡ j = done_steps k j end h.end (ap (λ a. runs (with_steps k w) a end) (sym here.0) ∙ h.is) in
        record { says = b; is = ap (Says b) (sym same_steps); codes = subst (λ i. CodesTo (with_steps k w) i q (Some (truth b)) p.used end) (sym same_steps) h }
    sure_right k (SaysNothing j) end s h =
        let here = none_there q.stmts q.flag s in
        let there : false ≡ true = subst (λ f. FlagIs w f false h.end) here.1 ((h.holds h.end (same_all (length q.used) h.end)).flag_is) in absurd cc
    sure_right k OutOfSteps end s h =
        let here = none_there q.stmts q.flag s in
        let no : runs (with_steps k w) NoStatement end ≡ Stops Spent 0 [] = ap (λ a. runs (with_steps k w) a end) (sym here.0) ∙ h in absurd cc

  -- the right side has its code wherever it is asked
  abbrev pub RightTold : Connective → Code → Code → Answer → (ℕ → Answer) → List MonType → List Value → Type 0
  RightTold c p q A g rs regs =
      ((end : List Value) (k : ℕ) (x : Bool) → Same (length rs) regs end → A ≡ Says x k → Told (with_steps k w) q (g k) p.used end)
      × (IsStrict c → (end : List Value) (k : ℕ) → Same (length rs) regs end → A ≡ SaysNothing k → Told (with_steps k w) q (g k) p.used end)

  -- `<==>` and `^^`
  strict_told : (c : Connective) → IsStrict c → (p q : Code) (A : Answer) (g : ℕ → Answer) (rs : List MonType) (regs : List Value) → length rs ≤ length p.used → length p.used ≤ length q.used → Told w p A rs regs → RightTold c p q A g rs regs
      → Told w (both_asked c p q) (connected_answers c A g) rs regs
  strict_told And h p q A g rs regs le more cp cq = elim h [ ]
  strict_told Or h p q A g rs regs le more cp cq = elim h [ ]
  strict_told Implies h p q A g rs regs le more cp cq = elim h [ ]
  strict_told Iff h p q A g rs regs le more cp cq = by A refl cp
    where
      right : (x : Bool) (k : ℕ) (B : Answer) → (d : CodesTo w k p (Some (truth x)) rs regs) → Told (with_steps k w) q B p.used d.end → Told w (both_asked Iff p q) (same_as x B) rs regs
      right true k (Says y j) d e = said_both Iff p q rs regs le more true y k j y refl d e
      right false k (Says true j) d e = said_both Iff p q rs regs le more false true k j false refl d e
      right false k (Says false j) d e = said_both Iff p q rs regs le more false false k j true refl d e
      right true k (SaysNothing j) d e = nothing_second Iff p q rs regs le more true k j d e
      right false k (SaysNothing j) d e = nothing_second Iff p q rs regs le more false k j d e
      right true k OutOfSteps d e = after_to w k p.stmts q.stmts regs d.end d.is ∙ e
      right false k OutOfSteps d e = after_to w k p.stmts q.stmts regs d.end d.is ∙ e

      nothing : (k : ℕ) (B : Answer) → (d : CodesTo w k p None rs regs) → Told (with_steps k w) q B p.used d.end → Told w (both_asked Iff p q) (silenced B) rs regs
      nothing k (Says y j) d e = nothing_first Iff p q rs regs le more k j (Some (truth y)) d e
      nothing k (SaysNothing j) d e = nothing_first Iff p q rs regs le more k j None d e
      nothing k OutOfSteps d e = after_to w k p.stmts q.stmts regs d.end d.is ∙ e

      by : (B : Answer) → A ≡ B → Told w p B rs regs → Told w (both_asked Iff p q) (fully B g same_as) rs regs
      by (Says x k) e d = right x k (g k) d (cq.0 d.end k x d.same e)
      by (SaysNothing k) e d = nothing k (g k) d (cq.1 h d.end k d.same e)
      by OutOfSteps e d = stopped w p.stmts q.stmts regs Spent 0 d
  strict_told Xor h p q A g rs regs le more cp cq = by A refl cp
    where
      right : (x : Bool) (k : ℕ) (B : Answer) → (d : CodesTo w k p (Some (truth x)) rs regs) → Told (with_steps k w) q B p.used d.end → Told w (both_asked Xor p q) (other_than x B) rs regs
      right false k (Says y j) d e = said_both Xor p q rs regs le more false y k j y refl d e
      right true k (Says true j) d e = said_both Xor p q rs regs le more true true k j false refl d e
      right true k (Says false j) d e = said_both Xor p q rs regs le more true false k j true refl d e
      right true k (SaysNothing j) d e = nothing_second Xor p q rs regs le more true k j d e
      right false k (SaysNothing j) d e = nothing_second Xor p q rs regs le more false k j d e
      right true k OutOfSteps d e = after_to w k p.stmts q.stmts regs d.end d.is ∙ e
      right false k OutOfSteps d e = after_to w k p.stmts q.stmts regs d.end d.is ∙ e

      nothing : (k : ℕ) (B : Answer) → (d : CodesTo w k p None rs regs) → Told (with_steps k w) q B p.used d.end → Told w (both_asked Xor p q) (silenced B) rs regs
      nothing k (Says y j) d e = nothing_first Xor p q rs regs le more k j (Some (truth y)) d e
      nothing k (SaysNothing j) d e = nothing_first Xor p q rs regs le more k j None d e
      nothing k OutOfSteps d e = after_to w k p.stmts q.stmts regs d.end d.is ∙ e

      by : (B : Answer) → A ≡ B → Told w p B rs regs → Told w (both_asked Xor p q) (fully B g other_than) rs regs
      by (Says x k) e d = right x k (g k) d (cq.0 d.end k x d.same e)
      by (SaysNothing k) e d = nothing k (g k) d (cq.1 h d.end k d.same e)
      by OutOfSteps e d = stopped w p.stmts q.stmts regs Spent 0 d

  -- what `&&`, `||` and `==>` say where both sides say something
  lazy_both : (c : Connective) → (IsStrict c → ⊥) → (x y : Bool) (k : ℕ) (g : ℕ → Answer) → g k ≡ Says y k → (b : Bool) × (connected c (Some x) (Some y) ≡ Some b) × (connected_answers c (Says x k) g ≡ Says b k)
  lazy_both And n true y k g e = (y, refl, e)
  lazy_both And n false y k g e = (false, refl, refl)
  lazy_both Or n true y k g e = (true, refl, refl)
  lazy_both Or n false y k g e = (y, refl, e)
  lazy_both Implies n true y k g e = (y, refl, e)
  lazy_both Implies n false y k g e = (true, refl, refl)
  lazy_both Iff n x y k g e = absurd (n IsIff)
  lazy_both Xor n x y k g e = absurd (n IsXor)

  lazy_nothing : (c : Connective) → (IsStrict c → ⊥) → (k : ℕ) (g : ℕ → Answer) → connected_answers c (SaysNothing k) g ≡ SaysNothing k
  lazy_nothing And n k g = refl
  lazy_nothing Or n k g = refl
  lazy_nothing Implies n k g = refl
  lazy_nothing Iff n k g = absurd (n IsIff)
  lazy_nothing Xor n k g = absurd (n IsXor)

  lazy_out : (c : Connective) (g : ℕ → Answer) → connected_answers c OutOfSteps g ≡ OutOfSteps
  lazy_out And g = refl
  lazy_out Or g = refl
  lazy_out Implies g = refl
  lazy_out Iff g = refl
  lazy_out Xor g = refl

  -- a right side that is sure is asked at once
  sure_told : (c : Connective) → (IsStrict c → ⊥) → (p q : Code) (A : Answer) (g : ℕ → Answer) (rs : List MonType) (regs : List Value) → length rs ≤ length p.used → length p.used ≤ length q.used → is_sure q ≡ true → Told w p A rs regs
      → ((end : List Value) (k : ℕ) (x : Bool) → Same (length rs) regs end → A ≡ Says x k → Told (with_steps k w) q (g k) p.used end) → Told w (both_asked c p q) (connected_answers c A g) rs regs
  sure_told c lazy p q A g rs regs le more sure cp cq = by A refl cp
    where
      by : (B : Answer) → A ≡ B → Told w p B rs regs → Told w (both_asked c p q) (connected_answers c B g) rs regs
      by (Says x k) e d =
          let s = sure_right c p q rs regs le more k (g k) d.end sure (cq d.end k x d.same e) in
          let b = lazy_both c lazy x s.says k g s.is in
          subst (λ a. Told w (both_asked c p q) a rs regs) (sym b.2) (said_both c p q rs regs le more x s.says k k b.0 b.1 d s.codes)
      by (SaysNothing k) e d =
          let here = none_there q.stmts q.flag sure in
          subst (λ a. Told w (both_asked c p q) a rs regs) (sym (lazy_nothing c lazy k g)) (record {
            end = d.end;
            same = d.same;
            is = after_to w k p.stmts q.stmts regs d.end d.is ∙ ap (λ a. runs (with_steps k w) a d.end) here.0;
            holds = λ later s.
                let hp = d.holds later (record { long = s.long; below = λ j lt. s.below j (omega (arith, lt, more)) }) in record {
                  flag_is = subst (λ f. FlagIs w (conjunction p.flag f) false later) (sym here.1) (subst (λ f. FlagIs w f false later) (sym (conjunction_none p.flag)) hp.flag_is);
                  value_is = λ z f. absurd cc;
                };
          })
      by OutOfSteps e d = subst (λ a. Told w (both_asked c p q) a rs regs) (sym (lazy_out c g)) (stopped w p.stmts q.stmts regs Spent 0 d)

  pub connected_told : (c : Connective) (p q : Code) (A : Answer) (g : ℕ → Answer) (rs : List MonType) (regs : List Value) → length rs ≤ length p.used → length p.used ≤ length q.used → length (connected_code c p q).used ≤ length regs
      → Told w p A rs regs
      → RightTold c p q A g rs regs → Told w (connected_code c p q) (connected_answers c A g) rs regs
  connected_told c p q A g rs regs le more room cp cq = by c (is_sure q) refl room cq
    where
      enough : length (q.used ++ I32 ∷ I32 ∷ []) ≤ length regs → suc (length q.used) < length regs
      enough l = omega (arith, l, length_two q.used I32)

      le_q : length rs ≤ length q.used
      le_q = omega (arith, le, more)

      by : (o : Connective) (t : Bool) → is_sure q ≡ t → length (if t then both_asked o p q else left_first o p q).used ≤ length regs → RightTold o p q A g rs regs
          → Told w (if t then both_asked o p q else left_first o p q) (connected_answers o A g) rs regs
      by And true s l r = sure_told And (λ h. elim h [ ]) p q A g rs regs le more s cp r.0
      by And false s l r =
          branch_told p q (truth_code false q.used) A g (Says false) rs p.used q.used regs le le_q le_q (omega arith) (enough l) cp (λ end k same e held. r.0 end k true same e) (λ end k same e. truth_told false k q.used end)
      by Or true s l r = sure_told Or (λ h. elim h [ ]) p q A g rs regs le more s cp r.0
      by Or false s l r =
          branch_told p (truth_code true q.used) q A (Says true) g rs q.used p.used regs le_q le le_q (omega arith) (enough l) cp (λ end k same e held. truth_told true k q.used end) (λ end k same e. r.0 end k false same e)
      by Implies true s l r = sure_told Implies (λ h. elim h [ ]) p q A g rs regs le more s cp r.0
      by Implies false s l r =
          branch_told p q (truth_code true q.used) A g (Says true) rs p.used q.used regs le le_q le_q (omega arith) (enough l) cp (λ end k same e held. r.0 end k true same e) (λ end k same e. truth_told true k q.used end)
      by Iff true s l r = strict_told Iff IsIff p q A g rs regs le more cp r
      by Iff false s l r = strict_told Iff IsIff p q A g rs regs le more cp r
      by Xor true s l r = strict_told Xor IsXor p q A g rs regs le more cp r
      by Xor false s l r = strict_told Xor IsXor p q A g rs regs le more cp r

  -- the negation
  pub denied_told : (c : Code) (A : Answer) (rs : List MonType) (regs : List Value) → Told w c A rs regs → Told w (code_with_value (Binary mon.Eq I32 c.value (Constant I32 (pos 0))) c) (denied A) rs regs
  denied_told c (Says true k) rs regs h =
      changed_told c (Binary mon.Eq I32 c.value (Constant I32 (pos 0))) k (Some (truth true)) (Some (truth false)) rs regs h refl (λ later has z e.
      operation w mon.Eq I32 c.value (Constant I32 (pos 0)) later (truth true) (pos 0) z refl (has (truth true) refl) (constant_has w I32 (pos 0) later refl) e)
  denied_told c (Says false k) rs regs h =
      changed_told c (Binary mon.Eq I32 c.value (Constant I32 (pos 0))) k (Some (truth false)) (Some (truth true)) rs regs h refl (λ later has z e.
      operation w mon.Eq I32 c.value (Constant I32 (pos 0)) later (truth false) (pos 0) z refl (has (truth false) refl) (constant_has w I32 (pos 0) later refl) e)
  denied_told c (SaysNothing k) rs regs h = changed_told c (Binary mon.Eq I32 c.value (Constant I32 (pos 0))) k None None rs regs h refl (λ later has z e. absurd cc)
  denied_told c OutOfSteps rs regs h = h

-- ---- a condition that takes no step

-- the same by the steps that are left
told_again : (w : Setting) (c : Code) (A : Answer) (rs : List MonType) (regs : List Value) → Told w c A rs regs → Told (with_steps w.target.steps w) c A rs regs
told_again w c (Says b k) rs regs h =
    record { end = h.end; same = h.same; is = h.is; holds = λ later s. let g = h.holds later s in record { flag_is = g.flag_is; value_is = g.value_is } }
told_again w c (SaysNothing k) rs regs h =
    record { end = h.end; same = h.same; is = h.is; holds = λ later s. let g = h.holds later s in record { flag_is = g.flag_is; value_is = g.value_is } }
told_again w c OutOfSteps rs regs h = h

abbrev pub chosen_answer : Option Bool → ℕ → Answer → Answer → Answer
chosen_answer None n a b = SaysNothing n
chosen_answer (Some true) n a b = a
chosen_answer (Some false) n a b = b

pub branch_quiet : (w : Setting) (c a b : Code) (u : Option Bool) (A B : Answer) (rs ja jb : List MonType) (regs : List Value) → length rs ≤ length ja → length rs ≤ length jb → length rs ≤ length b.used → length a.used ≤ length b.used
    → suc (length b.used) < length regs
    → (cc : Codes w c (truths u) rs regs) → (u ≡ Some true → Told w a A ja cc.end) → (u ≡ Some false → Told w b B jb cc.end) → Told w (branch I32 c a b) (chosen_answer u w.target.steps A B) rs regs
branch_quiet w c a b u A B rs ja jb regs le_a le_b le more room cc ca cb = by u refl
  where
    r : ℕ
    r = length b.used

    yes_part : MonStatements
    yes_part = before a.stmts (take a.flag a.value r)

    no_part : MonStatements
    no_part = before b.stmts (take b.flag b.value r)

    inner : MonStatements
    inner = one (If c.value yes_part no_part)

    rest : MonStatements
    rest = guarded c.flag inner (take_none r)

    leads : runs w (before c.stmts rest) regs ≡ runs w rest cc.end
    leads = after_to w w.target.steps c.stmts rest regs cc.end cc.is

    here : Holds w c.flag c.value (truths u) cc.end
    here = cc.holds cc.end (same_all (length c.used) cc.end)

    flag_is : (v : Option Bool) → u ≡ v → FlagIs w c.flag (is_some (truths v)) cc.end
    flag_is v p = subst (λ v. FlagIs w c.flag (is_some (truths v)) cc.end) p here.flag_is

    by : (v : Option Bool) → u ≡ v → Told w (branch I32 c a b) (chosen_answer v w.target.steps A B) rs regs
    by (Some true) p =
        part_told w w.target.steps (before c.stmts rest) b.used a A ja rs regs cc.end le le_a more room cc.same
        (leads ∙ guarded_true w c.flag inner (take_none r) cc.end (flag_is (Some true) p) ∙ if_true w c.value yes_part no_part cc.end (here.value_is (truth true) (ap truths p))) (told_again w a A ja cc.end (ca p))
    by (Some false) p =
        part_told w w.target.steps (before c.stmts rest) b.used b B jb rs regs cc.end le le_b (omega arith) room cc.same
        (leads ∙ guarded_true w c.flag inner (take_none r) cc.end (flag_is (Some false) p) ∙ if_false w c.value yes_part no_part cc.end (here.value_is (truth false) (ap truths p))) (told_again w b B jb cc.end (cb p))
    by None p =
        taken_to w w.target.steps (before c.stmts rest) I32 b.used None rs regs cc.end (take_none r) le cc.same
        (leads ∙ guarded_false w c.flag inner (take_none r) cc.end (flag_is None p)) (none_taken (with_steps w.target.steps w) r cc.end (omega (arith, room, cc.same.long)))

-- ---- statements before code

-- statements that lead to code
pub led_told : (w : Setting) (c : Code) (a : MonStatements) (A : Answer) (ys zs : List MonType) (regs next : List Value) → length ys ≤ length zs → Same (length ys) regs next → runs w a regs ≡ runs w c.stmts next → Told w c A zs next
    → Told w (record c { stmts = a }) A ys regs
led_told w c a (Says b n) ys zs regs next le s leads g = record { end = g.end; same = same_trans (length ys) (length zs) regs next g.end le s g.same; is = leads ∙ g.is; holds = g.holds }
led_told w c a (SaysNothing n) ys zs regs next le s leads g = record { end = g.end; same = same_trans (length ys) (length zs) regs next g.end le s g.same; is = leads ∙ g.is; holds = g.holds }
led_told w c a OutOfSteps ys zs regs next le s leads g = leads ∙ g

-- a register is set first
pub set_told : (w : Setting) (e : MonExpression) (z : ℤ) (c : Code) (A : Answer) (ys : List MonType) (k : MonType) (regs : List Value) → HasNumber w e regs z → Told w c A (ys ++ k ∷ []) (slice_set regs (length ys) (Integer z))
    → Told w (record c { stmts = Then (Set (length ys) e) c.stmts }) A ys regs
set_told w e z c A ys k regs has h =
    led_told w c (Then (Set (length ys) e) c.stmts) A ys (ys ++ k ∷ []) regs (slice_set regs (length ys) (Integer z)) (omega (arith, length-append ys (k ∷ []))) (same_set (length ys) (length ys) regs (Integer z) (omega arith))
    (set_first w (length ys) e c.stmts regs z has) h

-- a register gets a number, or this one where that is greater
pub at_most_told : (w : Setting) (e : MonExpression) (x z : ℤ) (c : Code) (A : Answer) (ys : List MonType) (k : MonType) (regs : List Value) → is_pointer k ≡ false → HasNumber w e regs x → length ys < length regs
    → ((next : List Value) → Same (length ys) regs next → slice_get next (length ys) ≡ Some (Integer (int_min x z)) → Told w c A (ys ++ k ∷ []) next) → Told w (record c { stmts = at_most k (length ys) e z c.stmts }) A ys regs
at_most_told w e x z c A ys k regs plain has room go = by (int_lt z x) refl
  where
    r : ℕ
    r = length ys

    above : MonExpression
    above = Binary mon.Lt k (Constant k z) (Register r)

    smaller : MonStatements
    smaller = one (If above (set r (Constant k z)) NoStatement)

    first : List Value
    first = slice_set regs r (Integer x)

    first_same : Same r regs first
    first_same = same_set r r regs (Integer x) (omega arith)

    first_is : slice_get first r ≡ Some (Integer x)
    first_is = get-set_same regs r (Integer x) room

    above_has : (t : Bool) → int_lt z x ≡ t → HasNumber w above first (truth t)
    above_has t f = operation w mon.Lt k (Constant k z) (Register r) first z x (truth t) plain (constant_has w k z first plain) first_is (ap (λ b. Some (truth b)) f)

    led : (next : List Value) → Same r regs next → slice_get next r ≡ Some (Integer (int_min x z)) → runs w smaller first ≡ Done (Next next) w.target [] → Told w (record c { stmts = at_most k r e z c.stmts }) A ys regs
    led next s at f =
        led_told w c (at_most k r e z c.stmts) A ys (ys ++ k ∷ []) regs next (omega (arith, length-append ys (k ∷ []))) s
        (set_first w r e (Then (If above (set r (Constant k z)) NoStatement) c.stmts) regs x has ∙ after_to w w.target.steps smaller c.stmts first next f) (go next s at)

    by : (t : Bool) → int_lt z x ≡ t → Told w (record c { stmts = at_most k r e z c.stmts }) A ys regs
    by true f =
        led (slice_set first r (Integer z)) (same_trans r r regs first (slice_set first r (Integer z)) (omega arith) first_same (same_set r r first (Integer z) (omega arith)))
        (get-set_same first r (Integer z) (omega (arith, room, first_same.long)) ∙ (let least : z ≡ int_min x z = omega (arith, ints, clamps, f) in ap (λ z. Some (Integer z)) least))
        (if_true w above (set r (Constant k z)) NoStatement first (above_has true f) ∙ set_runs w r (Constant k z) first z (constant_has w k z first plain))
    by false f =
        led first first_same (first_is ∙ (let least : x ≡ int_min x z = omega (arith, ints, clamps, f) in ap (λ z. Some (Integer z)) least)) (if_false w above (set r (Constant k z)) NoStatement first (above_has false f))
