-- A block of variables: they are born, something is done, and they die, whichever way the block is left.
use Rattle.std.proofs.Common.{◌≡◌, inr, ℕ, ◌+◌, ◌≤◌, List, [], ◌++◌, length, refl, sym, ap, ◌∙◌, subst, arith}
use Rattle.std.proofs.lemmas.List.{append-nil}
use Rattle.c_syntax.specs.Statements.{Declaration}
use Rattle.c_model.specs.Memory.{Value, kill_from}
use Rattle.c_model.specs.State.{State, Full, Outcome, Normal, Evaluation, on_outcome, ◌>>◌, births, within, restored, back_to}
use Rattle.c_model.proofs.Agreement.{extends_trans}
use Rattle.mon_syntax.specs.Registers.{Bindings, RegisterTable}
use Rattle.c_model.specs.MonitoredRuns as machine
use Rattle.mon_syntax.specs.Meaning.{Done, Stops, Next, Goes, then_do, at_next, writes, exec_all}
use Rattle.mon_syntax.specs.BlockMemory.{over_blocks}
use Rattle.mon_syntax.specs.LiveBlocks.{LiveBlock, live_in}
use Rattle.mon_syntax.specs.Trees.{MonStatements}
use Rattle.c_effects.specs.Expressions.{before}
use Rattle.track_scopes.specs.Blocks as target
use Rattle.track_scopes.specs.Blocks.{entered, deaths, with_born}
use Rattle.track_scopes.specs.Lives as lives
use Rattle.track_scopes.specs.Lives.{AreFrom, with_store, PointToBorn, Births, AllAre, OneIsFull, Enters}
use Rattle.instrument.specs.Translation.{Spot, alive}
use Rattle.c_simulation.specs.Labels.{end_label, next_label}
use Rattle.instrument.specs.Translation as translation
use Rattle.c_simulation.specs.SameRegisters.{Same, Stays}
use Rattle.c_simulation.specs.Standing.{Keeps, Target, Did, Setting, runs, Here, Standing, Beside}
use Rattle.c_simulation.proofs.Results.{writes_none, written_then, before_is}
use Rattle.c_simulation.specs.Following.{written}
use Rattle.c_simulation.proofs.Registers.{stays_same, stays_trans}
use Rattle.instrument.proofs.Lives.{length-killed}
use Rattle.instrument.proofs.Deaths.{kill_more, bounded_killed, all_before, live_killed}
use Rattle.c_simulation.proofs.Following.{left_next, standing_after, standing_later}
use Rattle.c_simulation.specs.Following.{Later, Passes, Follows, GoesOn, Breaks, Continues, IsLeft, IsOver, IsUndefined}
use Rattle.instrument.proofs.Births.{can_be_born, names_of, names_of-born, with_numbers, with_blocks, Pointed, pointed_point, pointed_same, pointed_born, besides, long_with, behind_births, new_same, new_live, are_new, standing_born}
use Rattle.instrument.proofs.Own.{AreOwn, AllCanBeBorn}

-- ---- states from which statements go on

-- the target stands beside the source, registers point to the blocks of the call's variables, and these names are in sight
pub record Meets (w : Setting) (h : Here) (spot : Spot) (low : ℕ) (bound : Bindings) (living : List ℕ) (regs : List Value) (s : State) (t : Target) : Type 0 where
  pub standing : Standing w h low bound regs s
  pub beside : Beside w s.store s t
  pub inside : Pointed w.plan_to low regs spot.inside h.inner
  pub between : Pointed w.plan_to low regs spot.between h.between
  pub outside : Pointed w.plan_to low regs spot.outside h.outer
  pub names : names_of s.scope ≡ living
  pub result : spot.result ≡ w.result

pub meets_later : (w : Setting) (h : Here) (spot : Spot) (low : ℕ) (bound : Bindings) (living : List ℕ) (regs after : List Value) (s to : State) (t u : Target) (o : List ℕ) → Same low regs after → Later s to o → Beside w to.store to u
    → Meets w h spot low bound living regs s t → Meets w h spot low bound living after to u
meets_later w h spot low bound living regs after s to t u o same l b m = record {
  standing = standing_later w h low bound regs after s to o same l m.standing;
  beside = b;
  inside = pointed_same w.plan_to low low regs after spot.inside h.inner (omega arith) (λ j lt more. same.below j lt) m.inside;
  between = pointed_same w.plan_to low low regs after spot.between h.between (omega arith) (λ j lt more. same.below j lt) m.between;
  outside = pointed_same w.plan_to low low regs after spot.outside h.outer (omega arith) (λ j lt more. same.below j lt) m.outside;
  names = ap names_of l.scope ∙ m.names;
  result = m.result;
}

-- after a statement
pub meets_after : (w : Setting) (h : Here) (spot : Spot) (low : ℕ) (bound : Bindings) (living : List ℕ) (regs after : List Value) (s to : State) (t u : Target) (o : List ℕ) → Stays w.plan_from w.plan_to low regs after
    → Keeps w.plan to.marks after → Passes s to o → Beside w to.store to u → Meets w h spot low bound living regs s t → Meets w h spot low bound living after to u
meets_after w h spot low bound living regs after s to t u o same keeps l b m = record {
  standing = standing_after w h low bound regs after s to o same keeps l m.standing;
  beside = b;
  inside = pointed_same w.plan_to low low regs after spot.inside h.inner (omega arith) (λ j lt more. same.kept j lt (inr more)) m.inside;
  between = pointed_same w.plan_to low low regs after spot.between h.between (omega arith) (λ j lt more. same.kept j lt (inr more)) m.between;
  outside = pointed_same w.plan_to low low regs after spot.outside h.outer (omega arith) (λ j lt more. same.kept j lt (inr more)) m.outside;
  names = ap names_of l.scope ∙ m.names;
  result = m.result;
}

-- ---- the end of a block

-- variables were born in a state, and others lived there; registers from `low` on point to them
module _ (w : Setting) (h : Here) (n : ℕ) (old : State) (new : List LiveBlock) (low high : ℕ) (le : low ≤ high) (regs mid : List Value) (same : Same low regs mid) (blocks : List ℕ) (code : MonStatements) (leave : lives.EndLives blocks code)
    (points : Pointed w.plan_to high mid blocks new) (are_new : AreFrom (length old.store) new) (deep : h.left ≤ length old.store) (deeper : h.loop ≤ h.left) (nested : w.base ≤ h.loop)
    (from : State) (born : live_in from.store ≡ new ++ live_in old.store)
    (long : length old.store ≤ length from.store) (spent : from.steps ≤ old.steps) (output : from.output ≡ old.output) where
  abbrev ends : Did → Did
  ends q = then_do q (at_next (exec_all over_blocks w.globals code w.calls n))

  module _ (s : State) (o : List ℕ) (l : Passes from s o) where
    pub there : live_in s.store ≡ new ++ live_in old.store
    there = l.live ∙ born

    pub later_back : Passes old (back_to old s) o
    later_back = record {
      scope = refl;
      calls = refl;
      live = live_killed (length old.store) s.store new (live_in old.store) there are_new (all_before old.store);
      longer = omega (arith, long, l.longer, length-killed (length old.store) s.store);
      bounded = bounded_killed (length old.store) s.store l.bounded;
      spent = omega (arith, spent, l.spent);
      output = l.output ∙ ap (λ x. x ++ o) output;
      marks = refl;
    }

    -- what was born since some block is dead already
    pub beside_back : (base : ℕ) (t : Target) → base ≤ length old.store → Beside w (kill_from base s.store) s t → Beside w (kill_from base (back_to old s).store) (back_to old s) t
    beside_back base t less b = record { store_is = b.store_is ∙ sym (kill_more base (length old.store) s.store less); frames = b.frames; steps = b.steps; input = b.input }

    -- they die
    abbrev pub died : Target → Target
    died t = with_store (kill_from (length old.store) t.mem.store) t

    pub deaths_run : (after : List Value) (t : Target) → Stays w.plan_from w.plan_to high mid after → Beside w s.store s t → exec_all over_blocks w.globals code w.calls n after t ≡ Done (Next after) (died t) []
    deaths_run after t same2 b =
        leave w.globals w.calls n (length old.store) after t new (live_in old.store) (ap live_in b.store_is ∙ there) are_new (all_before old.store)
        (pointed_point w.plan_to high after blocks new (pointed_same w.plan_to high high mid after blocks new (omega arith) (λ j lt more. same2.kept j lt (inr more)) points))

    pub beside_died : (t : Target) → Beside w s.store s t → Beside w (back_to old s).store (back_to old s) (died t)
    beside_died t b = record { store_is = ap (kill_from (length old.store)) b.store_is; frames = b.frames; steps = b.steps; input = b.input }

  -- the source leaves the block, and in the target its variables die where control comes to the end
  pub block_ends : (inner : List LiveBlock) (r : Outcome (Unit {0})) (q : Did) → Follows w (record h { inner = inner }) high mid Next from r q → Follows w h low regs Next old (restored old r) (ends q)
  block_ends inner r q (GoesOn s after t o m g l b e f) =
      GoesOn (back_to old s) after (died s o l t) o (stays_trans w.plan_from w.plan_to low high regs mid after le (stays_same w.plan_from w.plan_to low regs mid same) m) g (later_back s o l) (beside_died s o l t b) (ap (restored old) e)
      (ap ends f ∙ ap (writes o) (deaths_run s o l after t m b) ∙ ap (Done (Next after) (died s o l t)) (append-nil o))
  block_ends inner r q (Breaks s after t o i m g l b e f) =
      Breaks (back_to old s) after t o i (stays_trans w.plan_from w.plan_to low high regs mid after le (stays_same w.plan_from w.plan_to low regs mid same) m) g (later_back s o l) (beside_back s o l h.left t deep b) (ap (restored old) e)
      (ap ends f ∙ ap (Done (Goes (end_label h.levels) after) t) (append-nil o))
  block_ends inner r q (Continues s after t o i m g l b e f) =
      Continues (back_to old s) after t o i (stays_trans w.plan_from w.plan_to low high regs mid after le (stays_same w.plan_from w.plan_to low regs mid same) m) g
      (later_back s o l) (beside_back s o l h.loop t (omega (arith, deeper, deep)) b) (ap (restored old) e)
      (ap ends f ∙ ap (Done (Goes (next_label h.innermost) after) t) (append-nil o))
  block_ends inner r q (IsLeft v s after t o i m g x l b e f) =
      IsLeft v (back_to old s) after t o i (stays_trans w.plan_from w.plan_to low high regs mid after le (stays_same w.plan_from w.plan_to low regs mid same) m) g x
      (later_back s o l) (beside_back s o l w.base t (omega (arith, nested, deeper, deep)) b) (ap (restored old) e)
      (ap ends f ∙ left_next w.result v after t o (exec_all over_blocks w.globals code w.calls n))
  block_ends inner r q (IsOver x z s o d e l f) = IsOver x z (back_to old s) o d (ap (restored old) e) (l ∙ ap (λ x. x ++ o) output) (ap ends f)
  block_ends inner r q (IsUndefined at s o e l ext) =
      IsUndefined at (back_to old s) o (ap (restored old) e) (l ∙ ap (λ x. x ++ o) output)
      (extends_trans o (written q) (written (ends q)) ext (written_then q (at_next (exec_all over_blocks w.globals code w.calls n))))

-- ---- a block

-- what stands between births and deaths
pub alive_runs : (w : Setting) (n : ℕ) (t : Target) (p : ℕ) (ds : List Declaration) (a : MonStatements) (regs : List Value)
    → runs w n t (alive w.unit p ds a) regs ≡ then_do (runs w n t (target.births w.unit.structs p ds) regs) (at_next (λ r u. then_do (runs w n u a r) (at_next (exec_all over_blocks w.globals (deaths (with_born p ds [])) w.calls n))))
alive_runs w n t p ds a regs =
    before_is w.globals (target.births w.unit.structs p ds) (before a (deaths (with_born p ds []))) w.calls n regs t
    ∙ ap (λ g. then_do (runs w n t (target.births w.unit.structs p ds) regs) (at_next g)) (λ i r u. before_is w.globals a (deaths (with_born p ds [])) w.calls n r u i)

module _ (w : Setting) (h : Here) (spot : Spot) (low : ℕ) (r : RegisterTable) (living : List ℕ) (ds : List Declaration) (le : low ≤ length r.kinds) (regs : List Value) (s : State) (t : Target)
    (m : Meets w h spot low r.bound living regs s t) (own : AreOwn ds) where
  abbrev p : ℕ
  p = length r.kinds

  -- where what stands inside is
  abbrev pub Inside : List Value → State → Target → Type 0
  Inside after to u = Meets w (behind_births w.unit.structs h s ds) (translation.with_variables p ds spot) (p + length ds) (entered ds r).bound (with_numbers ds living) after to u

  abbrev to : State
  to = lives.with_variables w.unit.structs ds s

  -- after the births
  module _ (after : List Value) (done : births w.unit.structs ds s ≡ Normal tt to) (born : PointToBorn p ds s.store regs after) where
    pub meets_inside : Inside after to (with_store to.store t)
    meets_inside =
        let b = besides w.unit.structs ds s in
        record {
          standing = standing_born w h low r ds regs after s le m.standing born done own;
          beside = record { store_is = refl; frames = m.beside.frames; steps = m.beside.steps ∙ sym b.steps; input = m.beside.input ∙ sym b.input };
          inside = pointed_born w.unit.structs w.plan_to p (length s.store + 1) ds after spot.inside h.inner (omega (arith, le, m.standing.kept.below)) born.point
              (pointed_same w.plan_to low p regs after spot.inside h.inner le (λ j lt more. born.before j (omega (arith, lt, le))) m.inside);
          between = pointed_same w.plan_to low (p + length ds) regs after spot.between h.between (omega (arith, le)) (λ j lt more. born.before j (omega (arith, lt, le))) m.between;
          outside = pointed_same w.plan_to low (p + length ds) regs after spot.outside h.outer (omega (arith, le)) (λ j lt more. born.before j (omega (arith, lt, le))) m.outside;
          names = names_of-born w.unit.structs ds s ∙ ap (with_numbers ds) m.names;
          result = m.result;
        }

  -- what is done inside, and the deaths after it
  module _ (n : ℕ) (x : Evaluation (Unit {0})) (a : MonStatements) (room : p + length ds ≤ w.registers) (enter : Enters w.unit.structs p ds (target.births w.unit.structs p ds))
      (leave : lives.EndLives (with_born p ds []) (deaths (with_born p ds []))) where
    abbrev rest : Did → Did
    rest q = then_do q (at_next (exec_all over_blocks w.globals (deaths (with_born p ds [])) w.calls n))

    inside_ends : (after : List Value) → births w.unit.structs ds s ≡ Normal tt to → PointToBorn p ds s.store regs after → (q : Did)
        → Follows w (behind_births w.unit.structs h s ds) (p + length ds) after Next to (x to) q → Follows w h low regs Next s (restored s (x to)) (rest q)
    inside_ends after done born q f =
        let b = besides w.unit.structs ds s in
        let le_steps : to.steps ≤ s.steps = omega (arith, b.steps) in
        block_ends w h n s (with_blocks w.unit.structs (length s.store + 1) ds []) low (p + length ds) (omega (arith, le)) regs after
        (new_same w h low r ds regs after s le m.standing born done)
        (with_born p ds []) (deaths (with_born p ds [])) leave
        (pointed_born w.unit.structs w.plan_to p (length s.store + 1) ds after [] [] (omega (arith, le, m.standing.kept.below)) born.point tt)
        (are_new w h low r ds regs after s le m.standing born done) m.standing.longer m.standing.deeper m.standing.nested to
        (new_live w h low r ds regs after s le m.standing born done) (long_with w.unit.structs ds s) le_steps b.output
        (with_blocks w.unit.structs (length s.store + 1) ds h.inner) (x to) q f

    pub block_follows : (AllCanBeBorn w.unit ds → (after : List Value) (to : State) (u : Target) → to.steps ≤ s.steps → Inside after to u → Follows w (behind_births w.unit.structs h s ds) (p + length ds) after Next to (x to) (runs w n u a after))
        → Follows w h low regs Next s (within (births w.unit.structs ds >> x) s) (runs w n t (alive w.unit p ds a) regs)
    block_follows inner =
        subst (λ q. Follows w h low regs Next s (within (births w.unit.structs ds >> x) s) q) (sym (alive_runs w n t p ds a regs))
        (by (enter w.globals w.calls n regs s t m.beside.store_is (omega (arith, room, m.standing.registers))))
      where
        code : Did
        code = runs w n t (target.births w.unit.structs p ds) regs

        by : Births w.unit.structs p ds regs s t (runs w n t (target.births w.unit.structs p ds) regs)
            → Follows w h low regs Next s (within (births w.unit.structs ds >> x) s) (then_do (runs w n t (target.births w.unit.structs p ds) regs) (at_next (λ r u. rest (runs w n u a r))))
        by (OneIsFull g to2 e o k f) =
            IsOver (Full g) (machine.Full g) (back_to s to2) [] refl
            (ap (λ r. restored s (on_outcome r (λ _. x))) e)
            (o ∙ sym (append-nil s.output))
            (ap (λ q. then_do q (at_next (λ r u. rest (runs w n u a r)))) f ∙ ap (λ i. Stops (machine.Full g) i []) (m.beside.steps ∙ sym k))
        by (AllAre after e f born) =
            let v = with_store to.store t in
            let b = besides w.unit.structs ds s in
            subst (λ r. Follows w h low regs Next s (restored s (on_outcome r (λ _. x))) (then_do (runs w n t (target.births w.unit.structs p ds) regs) (at_next (λ r u. rest (runs w n u a r))))) (sym e)
            (subst (λ q. Follows w h low regs Next s (restored s (x to)) (then_do q (at_next (λ r u. rest (runs w n u a r))))) (sym f)
            (subst (λ q. Follows w h low regs Next s (restored s (x to)) q) (sym (writes_none (rest (runs w n v a after))))
            (inside_ends after e born (runs w n v a after) (inner (can_be_born w.unit ds s to e) after to v (omega (arith, b.steps)) (meets_inside after e born)))))
