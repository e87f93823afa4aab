-- The loop over values does what it is to do.
use Rattle.std.proofs.Common.{◌≡◌, ℕ, zero, suc, ◌<◌, ◌≤◌, ℤ, pos, ◌+ℤ◌, ◌≤ℤ◌, ◌<ℤ◌, int_le, Bool, true, false, if◌then◌else◌, ◌&&◌, List, [], ◌∷◌, ◌++◌, length, length-set, Option, Some, None, slice_get, slice_set, refl, sym, ap, ◌∙◌}
use Rattle.std.proofs.Common.{subst, append_assoc, arith}
use Rattle.std.proofs.lemmas.Int.{ints}
use Rattle.std.proofs.lemmas.List.{append-nil}
use Rattle.std.specs.Ordering.{int_eq}
use Rattle.std.specs.Prelude.{bytes_eq}
use Rattle.c_model.specs.Integers.{truth}
use Rattle.c_model.specs.Memory.{Null, Value, Integer, Points}
use Rattle.c_model.specs.MonitoredRuns.{Fault, Spent}
use Rattle.c_model.specs.Quantifiers.{values}
use Rattle.mon_syntax.specs.declared.tree.MonOp.{MonOp}
use Rattle.mon_syntax.specs.declared.tree.MonOp.TheVariants.{Add, Eq, Le}
use Rattle.mon_syntax.specs.declared.tree.MonType.{MonType}
use Rattle.mon_syntax.specs.Arithmetic.{is_pointer, operate, wrap}
use Rattle.mon_syntax.specs.BlockMemory.{Blocks, over_blocks, integer_of, pointed_block}
use Rattle.mon_syntax.specs.Meaning.{State, Result, Done, Stops, Flow, Next, Goes, Returns, writes, then_do, at_next, at_label, with_value, choose, step_from, eval, exec, exec_all, number_or_none, on_numbers}
use Rattle.mon_syntax.specs.Meaning.{◌>>=◌ as bind}
use Rattle.mon_syntax.specs.Meaning as monitored
use Rattle.mon_syntax.specs.Trees.{MonExpression, Register, Constant, Binary, If, Loop, Goto, Set, MonStatements, NoStatement, Then}
use Rattle.c_effects.specs.Expressions.{before, one, set}
use Rattle.c_simulation.proofs.Results.{writes_none, before_is}
use Rattle.quantifier_loops.specs.Laws.{HasLast, KeepsValues, UpwardTries}
use Rattle.quantifier_loops.specs.Upward.{Doing, tried_label, turn_end, unless_set, up, upward}
use Rattle.quantifier_loops.proofs.Values.{between_fits, same_label, set_get, set_held, set_twice, values_more, values_next, values_none, values_some}

abbrev Machine : Type 0
Machine = State Blocks

abbrev Did : Type 0
Did = Result Machine (Flow Value)

-- ---- what is written

writes_writes : (o p : List ℕ) (q : Did) → writes (o ++ p) q ≡ writes o (writes p q)
writes_writes o p (Done a s r) = ap (Done a s) (append_assoc o p r)
writes_writes o p (Stops e n r) = ap (Stops e n) (append_assoc o p r)

then_writes : (o : List ℕ) (q : Did) (go : Flow Value → Machine → Did) → then_do (writes o q) go ≡ writes o (then_do q go)
then_writes o (Done a s p) go = writes_writes o p (go a s)
then_writes o (Stops e n p) go = refl

-- ---- statements

module _ (globals : List Value) (calls : monitored.Calls over_blocks) (turns : ℕ) where
  abbrev pub does : MonStatements → Doing
  does a = exec_all over_blocks globals a calls turns

  abbrev Has : MonExpression → List Value → Machine → ℤ → Type 0
  Has e regs t z = eval over_blocks globals e regs t.mem ≡ Some (Integer z)

  set_then : (r : ℕ) (e : MonExpression) (b : MonStatements) (regs : List Value) (t : Machine) (z : ℤ) → Has e regs t z → does (Then (Set r e) b) regs t ≡ does b (slice_set regs r (Integer z)) t
  set_then r e b regs t z h = ap (λ q. then_do (with_value q t.steps (λ v. Done (Next (slice_set regs r v)) t [])) (at_next (does b))) h ∙ writes_none (does b (slice_set regs r (Integer z)) t)

  if_then : (e : MonExpression) (a b rest : MonStatements) (regs : List Value) (t : Machine) (z : ℤ) → Has e regs t z → does (Then (If e a b) rest) regs t ≡ then_do (choose z (does a regs t) (does b regs t)) (at_next (does rest))
  if_then e a b rest regs t z h = ap (λ q. then_do (with_value (bind q integer_of) t.steps (λ i. choose i (does a regs t) (does b regs t))) (at_next (does rest))) h

  goes : (e : MonExpression) (l : List ℕ) (rest : MonStatements) (regs : List Value) (t : Machine) → Has e regs t (pos 1) → does (Then (If e (one (Goto l)) NoStatement) rest) regs t ≡ Done (Goes l regs) t []
  goes e l rest regs t h = if_then e (one (Goto l)) NoStatement rest regs t (pos 1) h

  goes_not : (e : MonExpression) (l : List ℕ) (rest : MonStatements) (regs : List Value) (t : Machine) → Has e regs t (pos 0) → does (Then (If e (one (Goto l)) NoStatement) rest) regs t ≡ does rest regs t
  goes_not e l rest regs t h = if_then e (one (Goto l)) NoStatement rest regs t (pos 0) h ∙ writes_none (does rest regs t)

  operation : (op : MonOp) (k : MonType) (a b : MonExpression) (regs : List Value) (t : Machine) (x y z : ℤ) → is_pointer k ≡ false → Has a regs t x → Has b regs t y → operate op k x y ≡ Some z → Has (Binary op k a b) regs t z
  operation op k a b regs t x y z plain e f g =
      ap (λ q. bind q (λ u. bind (eval over_blocks globals b regs t.mem) (λ v. if is_pointer k then pointed_block op u v t.mem else on_numbers over_blocks op k u v))) e
      ∙ ap (λ q. bind q (λ v. if is_pointer k then pointed_block op (Integer x) v t.mem else on_numbers over_blocks op k (Integer x) v)) f
      ∙ ap (λ p. if p then pointed_block op (Integer x) (Integer y) t.mem else on_numbers over_blocks op k (Integer x) (Integer y)) plain
      ∙ ap (number_or_none over_blocks) g

  constant_has : (k : MonType) (z : ℤ) (regs : List Value) (t : Machine) → is_pointer k ≡ false → Has (Constant k z) regs t z
  constant_has k z regs t plain = ap (λ p. Some (if p && int_eq z (pos 0) then Points Null else Integer z)) plain

-- ---- the loop

-- What is done with a value, wherever this holds of registers and state: it keeps the index, and takes no step back.
module _ (globals : List Value) (calls : monitored.Calls over_blocks) (turns : ℕ) (k : MonType) (index stop : ℕ) (to : MonExpression) (inner : MonStatements) (l h : ℤ) (Holds : List Value → Machine → Type 0) where
  abbrev label : List ℕ
  label = tried_label index

  abbrev inside : Doing
  inside = does globals calls turns inner

  abbrev turn : MonStatements
  turn = before inner (turn_end k index to stop)

  abbrev loop : ℕ → Doing
  loop n = monitored.turns over_blocks n (does globals calls turns NoStatement) (does globals calls turns turn)

  abbrev others : MonStatements
  others = Then (If (Binary Eq k (Register index) to) (one (Goto label)) NoStatement) (set index (Binary Add k (Register index) (Constant k (pos 1))))

  -- what the end of a turn does by what `stop` holds
  abbrev end_read : List Value → Machine → Option ℤ → Did
  end_read after u o = then_do (with_value o u.steps (λ i. choose i (does globals calls turns (one (Goto label)) after u) (does globals calls turns NoStatement after u))) (at_next (does globals calls turns others))

  abbrev up_from : ℕ → ℤ → Doing
  up_from = up inside index stop

  pub record Keeps (v : ℤ) (regs : List Value) (t : Machine) (after : List Value) (u : Machine) : Type 0 where
    pub holds : Holds after u
    pub index_is : slice_get after index ≡ Some (Integer v)
    pub long : length after ≡ length regs
    pub fewer : u.steps ≤ t.steps

  module _ (plain : is_pointer k ≡ false) (l_fits : l ≤ℤ h → wrap k l ≡ l) (h_fits : l ≤ℤ h → wrap k h ≡ h) (last : (regs : List Value) (t : Machine) → Holds regs t → Has globals calls turns to regs t h)
      (set_holds : (regs : List Value) (t : Machine) (v : ℤ) → Holds regs t → Holds (slice_set regs index (Integer v)) t) (stepped : (regs : List Value) (t : Machine) (n : ℕ) → Holds regs t → Holds regs (record t { steps = n }))
      (keeps : (v : ℤ) (regs after : List Value) (t u : Machine) (o : List ℕ) → l ≤ℤ v → v ≤ℤ h → Holds regs t → slice_get regs index ≡ Some (Integer v) → t.steps ≤ turns → inside regs t ≡ Done (Next after) u o → Keeps v regs t after u) where
    fits : (z : ℤ) → l ≤ℤ z → z ≤ℤ h → wrap k z ≡ z
    fits z a b = let le : l ≤ℤ h = omega (arith, ints, a, b) in between_fits k l z h a b (l_fits le) (h_fits le)

    abbrev ends : (q : Did) → Did
    ends q = then_do q (at_label label)

    up_set : (j : ℕ) (v : ℤ) (regs : List Value) (t : Machine) → up_from (suc j) v (slice_set regs index (Integer v)) t ≡ up_from (suc j) v regs t
    up_set j v regs t = ap (λ r. step_from t.steps (λ n. then_do (inside r (record t { steps = n })) (at_next (unless_set stop (up_from j (v +ℤ pos 1)))))) (set_twice regs index (Integer v))

    up_here : (j : ℕ) (v : ℤ) (regs : List Value) (t : Machine) (n : ℕ) → slice_get regs index ≡ Some (Integer v) → t.steps ≡ suc n
        → up_from (suc j) v regs t ≡ then_do (inside regs (record t { steps = n })) (at_next (unless_set stop (up_from j (v +ℤ pos 1))))
    up_here j v regs t n at e =
        ap (λ r. step_from t.steps (λ n. then_do (inside r (record t { steps = n })) (at_next (unless_set stop (up_from j (v +ℤ pos 1)))))) (set_held regs index (Integer v) at)
        ∙ ap (λ m. step_from m (λ n. then_do (inside regs (record t { steps = n })) (at_next (unless_set stop (up_from j (v +ℤ pos 1)))))) e

    caught_here : (regs : List Value) (t : Machine) → ends (Done (Goes label regs) t []) ≡ Done (Next regs) t []
    caught_here regs t = ap (λ b. writes [] (if b then Done (Next regs) t [] else Done (Goes label regs) t [])) (same_label label)

    -- from one value on, where so many turns may follow
    abbrev Follows : ℕ → Type 0
    Follows m = (j : ℕ) (v : ℤ) (regs : List Value) (t : Machine) → values v h ≡ suc j → l ≤ℤ v → Holds regs t → slice_get regs index ≡ Some (Integer v) → index < length regs → t.steps ≤ m → t.steps ≤ turns
        → ends (loop m regs t) ≡ ends (up_from (suc j) v regs t)

    -- what comes behind a value, in a state after it
    end_follows : (m j : ℕ) (v : ℤ) (after : List Value) (u : Machine) → Follows m → values v h ≡ suc j → l ≤ℤ v → Holds after u → slice_get after index ≡ Some (Integer v) → index < length after → u.steps ≤ m → u.steps ≤ turns
        → ends (then_do (does globals calls turns (turn_end k index to stop) after u) (at_next (loop m))) ≡ ends (unless_set stop (up_from j (v +ℤ pos 1)) after u)
    end_follows m j v after u rest e le holds at long few enough = by (bind (slice_get after stop) integer_of) refl
      where
        below : v ≤ℤ h
        below = values_more v h j e

        next : List Value
        next = slice_set after index (Integer (v +ℤ pos 1))

        -- where the loop goes on
        onward : (b : Bool) → int_eq v h ≡ b → ends (then_do (does globals calls turns others after u) (at_next (loop m))) ≡ ends (up_from j (v +ℤ pos 1) after u)
        onward true is =
            ap (λ q. ends (then_do q (at_next (loop m))))
            (goes globals calls turns (Binary Eq k (Register index) to) label (set index (Binary Add k (Register index) (Constant k (pos 1)))) after u
            (operation globals calls turns Eq k (Register index) to after u v h (pos 1) plain at (last after u holds) (ap (λ b. Some (truth b)) is)))
            ∙ caught_here after u
            ∙ sym (ap (λ n. ends (up_from n (v +ℤ pos 1) after u)) none)
          where
            none : j ≡ 0
            none = let same : v ≡ h = grind (arith, ints) in sym (values_next v h j e) ∙ values_none (v +ℤ pos 1) h (omega (arith, ints, same))
        onward false is =
            ap (λ q. ends (then_do q (at_next (loop m))))
            (goes_not globals calls turns (Binary Eq k (Register index) to) label (set index (Binary Add k (Register index) (Constant k (pos 1)))) after u
            (operation globals calls turns Eq k (Register index) to after u v h (pos 0) plain at (last after u holds) (ap (λ b. Some (truth b)) is))
            ∙ set_then globals calls turns index (Binary Add k (Register index) (Constant k (pos 1))) NoStatement after u (v +ℤ pos 1)
            (operation globals calls turns Add k (Register index) (Constant k (pos 1)) after u v (pos 1) (v +ℤ pos 1) plain at (constant_has globals calls turns k (pos 1) after u plain)
            (ap Some (fits (v +ℤ pos 1) (omega (arith, ints, le)) above))))
            ∙ ap ends (writes_none (loop m next u))
            ∙ (let more = values_some (v +ℤ pos 1) h above in
            let same : j ≡ suc more.0 = sym (values_next v h j e) ∙ more.1 in
            rest more.0 (v +ℤ pos 1) next u more.1 (omega (arith, ints, le)) (set_holds after u (v +ℤ pos 1) holds) (set_get after index (Integer (v +ℤ pos 1)) long) (omega (arith, length-set after index (Integer (v +ℤ pos 1)), long)) few enough
            ∙ ap ends (up_set more.0 (v +ℤ pos 1) after u) ∙ sym (ap (λ n. ends (up_from n (v +ℤ pos 1) after u)) same))
          where
            above : (v +ℤ pos 1) ≤ℤ h
            above = grind (arith, ints)

        is_not : (z : ℤ) (b : Bool) → int_eq z (pos 0) ≡ b → ends (then_do (end_read after u (Some z)) (at_next (loop m))) ≡ ends (choose z (Done (Next after) u []) (up_from j (v +ℤ pos 1) after u))
        is_not z true p =
            ap (λ b. ends (then_do (then_do (if b then does globals calls turns NoStatement after u else does globals calls turns (one (Goto label)) after u) (at_next (does globals calls turns others))) (at_next (loop m)))) p
            ∙ ap (λ q. ends (then_do q (at_next (loop m)))) (writes_none (does globals calls turns others after u))
            ∙ onward (int_eq v h) refl
            ∙ sym (ap (λ b. ends (if b then up_from j (v +ℤ pos 1) after u else Done (Next after) u [])) p)
        is_not z false p =
            ap (λ b. ends (then_do (then_do (if b then does globals calls turns NoStatement after u else does globals calls turns (one (Goto label)) after u) (at_next (does globals calls turns others))) (at_next (loop m)))) p
            ∙ caught_here after u
            ∙ sym (ap (λ b. ends (if b then up_from j (v +ℤ pos 1) after u else Done (Next after) u [])) p)

        by : (o : Option ℤ) → bind (slice_get after stop) integer_of ≡ o
            → ends (then_do (does globals calls turns (turn_end k index to stop) after u) (at_next (loop m))) ≡ ends (unless_set stop (up_from j (v +ℤ pos 1)) after u)
        by None p =
            ap (λ o. ends (then_do (end_read after u o) (at_next (loop m)))) p
            ∙ sym (ap (λ o. ends (with_value o u.steps (λ z. choose z (Done (Next after) u []) (up_from j (v +ℤ pos 1) after u)))) p)
        by (Some z) p =
            ap (λ o. ends (then_do (end_read after u o) (at_next (loop m)))) p
            ∙ is_not z (int_eq z (pos 0)) refl
            ∙ sym (ap (λ o. ends (with_value o u.steps (λ z. choose z (Done (Next after) u []) (up_from j (v +ℤ pos 1) after u)))) p)

    -- a turn, by what is done with its value
    turn_follows : (m j : ℕ) (v : ℤ) (d : Did) → ((after : List Value) (u : Machine) (o : List ℕ) → d ≡ Done (Next after) u o
        → ends (then_do (does globals calls turns (turn_end k index to stop) after u) (at_next (loop m))) ≡ ends (unless_set stop (up_from j (v +ℤ pos 1)) after u))
        → ends (then_do (then_do d (at_next (does globals calls turns (turn_end k index to stop)))) (at_next (loop m))) ≡ ends (then_do d (at_next (unless_set stop (up_from j (v +ℤ pos 1)))))
    turn_follows m j v (Done (Next after) u o) go =
        ap ends (then_writes o (does globals calls turns (turn_end k index to stop) after u) (at_next (loop m)))
        ∙ then_writes o (then_do (does globals calls turns (turn_end k index to stop) after u) (at_next (loop m))) (at_label label)
        ∙ ap (writes o) (go after u o refl)
        ∙ sym (then_writes o (unless_set stop (up_from j (v +ℤ pos 1)) after u) (at_label label))
    turn_follows m j v (Done (Goes x r) u o) go = ap (λ p. ends (Done (Goes x r) u p)) (append-nil (o ++ []))
    turn_follows m j v (Done (Returns x) u o) go = ap (λ p. ends (Done (Returns x) u p)) (append-nil (o ++ []))
    turn_follows m j v (Stops e n o) go = refl

    loop_follows : (m : ℕ) → Follows m
    loop_follows zero j v regs t e le holds at long few enough =
        let none : t.steps ≡ 0 = omega (arith, few) in
        sym (ap (λ n. ends (step_from n (λ n. then_do (inside (slice_set regs index (Integer v)) (record t { steps = n })) (at_next (unless_set stop (up_from j (v +ℤ pos 1))))))) none)
    loop_follows (suc m) j v regs t e le holds at long few enough = by (λ j v regs t e le holds at long few enough. loop_follows m j v regs t e le holds at long few enough) t.steps refl
      where
        by : Follows m → (n : ℕ) → t.steps ≡ n → ends (loop (suc m) regs t) ≡ ends (up_from (suc j) v regs t)
        by rest zero p =
            ap (λ n. ends (writes [] (step_from n (λ n. then_do (does globals calls turns turn regs (record t { steps = n })) (at_next (loop m)))))) p
            ∙ sym (ap (λ n. ends (step_from n (λ n. then_do (inside (slice_set regs index (Integer v)) (record t { steps = n })) (at_next (unless_set stop (up_from j (v +ℤ pos 1))))))) p)
        by rest (suc n) p =
            let s = record t { steps = n } in
            ap (λ n. ends (writes [] (step_from n (λ n. then_do (does globals calls turns turn regs (record t { steps = n })) (at_next (loop m)))))) p
            ∙ ap ends (writes_none (then_do (does globals calls turns turn regs s) (at_next (loop m))))
            ∙ ap (λ q. ends (then_do q (at_next (loop m)))) (before_is globals inner (turn_end k index to stop) calls turns regs s)
            ∙ turn_follows m j v (inside regs s) (λ after u o d.
            let q = keeps v regs after s u o le (values_more v h j e) (stepped regs t n holds) at (omega (arith, enough, p)) d in
            let fewer = q.fewer in
            end_follows m j v after u rest e le q.holds q.index_is (omega (arith, q.long, long)) (omega (arith, fewer, few, p)) (omega (arith, fewer, enough, p)))
            ∙ sym (ap ends (up_here j v regs t n at p))

    -- a statement alone
    last_is : (q : Did) → then_do q (at_next (does globals calls turns NoStatement)) ≡ q
    last_is (Done (Next r) t o) = ap (Done (Next r) t) (append-nil o)
    last_is (Done (Goes x r) t o) = ap (Done (Goes x r) t) (append-nil o)
    last_is (Done (Returns v) t o) = ap (Done (Returns v) t) (append-nil o)
    last_is (Stops e n o) = refl

    pub upward_does : (from : MonExpression) (regs : List Value) (t : Machine) → index < length regs → Has globals calls turns from regs t l → Holds regs t → t.steps ≤ turns
        → exec over_blocks globals (upward k index from to inner stop) calls turns regs t ≡ then_do (up_from (values l h) l (slice_set regs index (Integer l)) t) (at_label label)
    upward_does from regs t long from_has holds enough =
        ap ends (set_then globals calls turns index from (Then (If (Binary Le k (Register index) to) NoStatement (one (Goto label))) (one (Loop NoStatement turn))) regs t l from_has)
        ∙ by (int_le l h) refl
      where
        first : List Value
        first = slice_set regs index (Integer l)

        at : slice_get first index ≡ Some (Integer l)
        at = set_get regs index (Integer l) long

        here : Holds first t
        here = set_holds regs t l holds

        test_has : (b : Bool) → int_le l h ≡ b → Has globals calls turns (Binary Le k (Register index) to) first t (truth b)
        test_has b p = operation globals calls turns Le k (Register index) to first t l h (truth b) plain at (last first t here) (ap (λ b. Some (truth b)) p)

        by : (b : Bool) → int_le l h ≡ b → ends (does globals calls turns (Then (If (Binary Le k (Register index) to) NoStatement (one (Goto label))) (one (Loop NoStatement turn))) first t) ≡ ends (up_from (values l h) l first t)
        by true p =
            let some = values_some l h (omega (arith, ints, p)) in
            ap ends (if_then globals calls turns (Binary Le k (Register index) to) NoStatement (one (Goto label)) (one (Loop NoStatement turn)) first t (pos 1) (test_has true p)
            ∙ writes_none (does globals calls turns (one (Loop NoStatement turn)) first t) ∙ last_is (loop turns first t))
            ∙ loop_follows turns some.0 l first t some.1 (omega (arith, ints)) here at (omega (arith, length-set regs index (Integer l), long)) enough enough
            ∙ sym (ap (λ n. ends (up_from n l first t)) some.1)
        by false p =
            let none = values_none l h (omega (arith, ints, p)) in
            ap ends (if_then globals calls turns (Binary Le k (Register index) to) NoStatement (one (Goto label)) (one (Loop NoStatement turn)) first t (pos 0) (test_has false p))
            ∙ caught_here first t
            ∙ sym (ap (λ n. ends (up_from n l first t)) none)

pub upward_tries : UpwardTries
upward_tries globals calls turns k index stop from to inner regs t l h plain l_fits h_fits long from_has last set keeps enough =
    upward_does globals calls turns k index stop to inner l h (λ r u. HasLast globals index to h r) plain (λ le. l_fits) (λ le. h_fits) (λ r u holds. holds u.mem) (λ r u v holds. set r v holds) (λ r u n holds. holds)
    (λ v r after u w o le below holds at few d. let q = keeps r after u w o holds d in record { holds = q.0; index_is = q.1 ∙ at; long = q.2; fewer = q.3 }) from regs t long from_has last enough
