-- The checks of a contract: their code does what they do, beside a state of the source, at the beginning of a call and at its end.
use Rattle.std.proofs.Common.{◌≡◌, ◌⊎◌, inl, inr, ℕ, suc, ◌+◌, ◌<◌, ◌≤◌, pos, Bool, true, false, cond, nat_eq, List, [], ◌∷◌, length, length-set, Option, Some, None, slice_get, slice_set, refl, sym, ap, ◌∙◌, subst, arith}
use Rattle.std.proofs.lemmas.List.{length-map}
use Rattle.std.proofs.lemmas.Int.{ints}
use Rattle.std.proofs.lemmas.Bool.{eqb-true}
use Rattle.c_syntax.specs.declared.annotation.Range.{Range}
use Rattle.c_syntax.specs.declared.types.CInt.{CInt}
use Rattle.c_syntax.specs.declared.types.CInt.TheVariants.{I8, U8, I16, U16, I32, U32, I64, U64}
use Rattle.c_syntax.specs.Ctypes.{PlainType, Int, Array, Struct, Void, StructTag, EnumTag}
use Rattle.c_syntax.specs.Ctypes as ctype
use Rattle.c_syntax.specs.Programs.{NamedBehavior, FunctionContract, Function}
use Rattle.c_model.specs.ContractChecks.{all_checked, all_hold, entry_checks, leave_checks, result_is, result_number}
use Rattle.c_model.specs.Logic.{Environment, look, meant}
use Rattle.c_model.specs.Memory.{Value, Integer, Pointer, Null, Into}
use Rattle.c_model.specs.Ranges.{LiesIn}
use Rattle.c_model.specs.SoundStates.{IsNear}
use Rattle.c_model.specs.State.{State, Over, Outcome, Normal, Stop}
use Rattle.c_model.specs.TermRanges.{offset_range, range_seen}
use Rattle.c_model.proofs.Blocks.{slice_get-slice_set_other}
use Rattle.mon_syntax.specs.declared.tree.MonType.{MonType}
use Rattle.mon_syntax.specs.declared.tree.MonType.TheVariants as mon_type
use Rattle.mon_syntax.specs.Checking.{same_type}
use Rattle.mon_syntax.specs.Registers.{Bindings}
use Rattle.mon_syntax.specs.Meaning.{Done, Next, then_do, at_next, exec_all}
use Rattle.mon_syntax.specs.BlockMemory.{over_blocks}
use Rattle.mon_syntax.specs.Trees.{MonStatements}
use Rattle.c_simulation.specs.Keeping.{StandBelow}
use Rattle.c_simulation.specs.SameRegisters.{Stays}
use Rattle.c_simulation.specs.Standing.{Target, Setting, runs, Bounded, AreBounded, Here, IsSmall, Standing, Beside}
use Rattle.c_simulation.specs.Following.{IsResult, HoldsResult}
use Rattle.c_simulation.specs.Calls.{value_of}
use Rattle.c_effects.specs.Expressions.{register_type}
use Rattle.mem_preds.specs.Reads as reads
use Rattle.interval_infer.specs.Judged.{seen_in}
use Rattle.instrument.specs.Translation.{result_held, result_of}
use Rattle.c_simulation.proofs.Anchors.{pointer_has}
use Rattle.c_simulation.proofs.Following.{anchored_stays}
use Rattle.c_simulation.proofs.Registers.{get-set_same, same_all}
use Rattle.c_simulation.proofs.Results.{before_is, writes_none}
use Rattle.annot_simulation.specs.Beside.{judging}
use Rattle.annot_simulation.specs.ContractCode.{all_flagged, checks_code, entry_code, behind_entry, leave_code, behind_leave}
use Rattle.annot_simulation.specs.ContractDoes.{Flagged, Checked, Goes, Breaks, IsHeldApart, StandsFor, AreGood, left_with}
use Rattle.annot_simulation.specs.Does as code
use Rattle.annot_simulation.specs.Does.{HasKept, IsSorted, RangesHold}
use Rattle.annot_simulation.specs.Held.{Held, held_by}
use Rattle.annot_simulation.proofs.Beside.{kept_found, ranges_hold, results_keep_ranges, state_fits}
use Rattle.annot_simulation.proofs.ContractChecked.{checks_follow_all}
use Rattle.annot_simulation.proofs.SoundStores.{bounded_sound}
use Rattle.instrument.proofs.ContractCalls.{ChecksDo, ChecksPass, ChecksStop}
use Rattle.instrument.proofs.Passages.{entry_grows}

-- ---- flags

-- all flags are 1, and nothing else has changed
pub record IsRaised (w : Setting) (n : ℕ) (t : Target) (bs : List NamedBehavior) (h : ℕ) (regs : List Value) : Type 0 where
  pub after : List Value
  pub run : runs w n t (all_flagged h bs) regs ≡ Done (Next after) t []
  pub flagged : Flagged h (all_hold bs) after
  pub long : length after ≡ length regs
  pub others : (j : ℕ) → (j < h) ⊎ (h + length bs ≤ j) → slice_get after j ≡ slice_get regs j

raised : (w : Setting) (n : ℕ) (t : Target) (bs : List NamedBehavior) (h : ℕ) (regs : List Value) → h + length bs ≤ length regs → IsRaised w n t bs h regs
raised w n t [] h regs le = record { after = regs; run = refl; flagged = tt; long = refl; others = λ j apart. refl }
raised w n t (b ∷ bs) h regs le =
    let first = slice_set regs h (Integer (pos 1)) in
    let long = length-set regs h (Integer (pos 1)) in
    let rest = raised w n t bs (suc h) first (omega (arith, le, long)) in
    record {
      after = rest.after;
      run = writes_none (runs w n t (all_flagged (suc h) bs) first) ∙ rest.run;
      flagged = (rest.others h (inl (omega arith)) ∙ get-set_same regs h (Integer (pos 1)) (omega (arith, le)), rest.flagged);
      long = rest.long ∙ long;
      others = λ j apart. rest.others j (later j apart) ∙ slice_get-slice_set_other regs h j (Integer (pos 1)) (differs j apart);
    }
  where
    later : (j : ℕ) → (j < h) ⊎ (h + suc (length bs) ≤ j) → (j < suc h) ⊎ (suc h + length bs ≤ j)
    later j (inl before) = inl (omega (arith, before))
    later j (inr behind) = inr (omega (arith, behind))

    differs : (j : ℕ) → (j < h) ⊎ (h + suc (length bs) ≤ j) → j ≡ h → ⊥
    differs j (inl before) e = omega (arith, before, e)
    differs j (inr behind) e = omega (arith, behind, e)

-- ---- where checks run

-- a call beside a state, where the flags stand from h on and below m among the registers that are its own
module _ (w : Setting) (n : ℕ) (low : ℕ) (bound : Bindings) (h m : ℕ) (behind : w.plan_from ≤ h) (own : m ≤ w.plan_to) (below : w.plan_to ≤ low) where
  wider : (a b : List Value) → Stays h m low a b → Stays w.plan_from w.plan_to low a b
  wider a b st = record { long = st.long; kept = λ j lt apart. st.kept j lt (by j apart) }
    where
      by : (j : ℕ) → (j < w.plan_from) ⊎ (w.plan_to ≤ j) → (j < h) ⊎ (m ≤ j)
      by j (inl before) = inl (omega (arith, before, behind))
      by j (inr after) = inr (omega (arith, after, own))

  -- what checks come to, by their law
  module _ (v : code.Setting) (regs begun : List Value) (from : State) (t : Target) (c : MonStatements) (rs : List MonType) (hs : List Bool) (long : h + length hs ≡ m) (in_rs : low ≤ length rs) (apart : Stays h m low regs begun) where
    checked_do : (r : Outcome (List Bool)) → v.now ≡ from → v.target ≡ t → Checked v from.steps h hs r (runs w n t c begun) rs begun → ChecksDo h m low regs from t r (runs w n t c begun)
    checked_do r now target (Goes k held after le same st fl e g) =
        ChecksPass k held after le (omega (arith, long, same)) fl
        (record { long = st.long ∙ apart.long; kept = λ j lt away. st.kept j (omega (arith, lt, in_rs)) (by j away) ∙ apart.kept j lt away })
        (e ∙ ap (λ (s : State). Normal held (record s { steps = k })) now) (g ∙ ap (λ (u : Target). Done (Next after) (record u { steps = k }) []) target)
      where
        by : (j : ℕ) → (j < h) ⊎ (m ≤ j) → (j < h) ⊎ (h + length hs ≤ j)
        by j (inl before) = inl before
        by j (inr after) = inr (omega (arith, after, long))
    checked_do r now target (Breaks e z k d x g) = ChecksStop e z k d (x ∙ ap (λ (s : State). Stop (Over e) (record s { steps = k })) now) g

-- ---- at the beginning

module _ (w : Setting) (n : ℕ) (here : Here) (low : ℕ) (bound : Bindings) (c : FunctionContract) (h m : ℕ) (behind : w.plan_from ≤ h) (flags : h + length c.behaviors ≡ m) (own : m ≤ w.plan_to) (rs : List MonType) (in_rs : low ≤ length rs)
    (room : length (behind_entry w.unit bound h rs c) ≤ w.registers) (regs : List Value) (from : State) (t : Target) (few : from.steps ≤ n) (st : Standing w here low bound regs from) (b : Beside w from.store from t) where
  -- no name and no label stands there
  abbrev pub asking : code.Setting
  asking = record (judging w n low bound [] [] [] from t regs) { plan = [] }

  stands : StandsFor h m asking
  stands = record {
    apart = record {
      store_is = b.store_is;
      sound = bounded_sound from.store st.bounded;
      points = λ x number found later same. pointer_has w low low bound later later t.mem from.scope x number (omega arith) (same_all low later)
          (anchored_stays w low bound regs later from.scope (wider w n low bound h m behind own st.kept.below regs later same) st.anchored) found;
    };
    held = λ x y e. absurd cc;
    keeps = λ at k e. absurd cc;
    ranges = λ k. ranges_hold (left_with k from) st.bounded st.kept.keeps.past;
  }

  all_long : length (all_hold c.behaviors) ≡ length c.behaviors
  all_long = length-map c.behaviors _

  pub entry_do : AreGood asking c.behaviors h (length (all_hold c.behaviors)) (entry_checks c)
      → ChecksDo h m low regs from t (all_checked c.behaviors [] (entry_checks c) (all_hold c.behaviors) from) (runs w n t (entry_code w.unit bound h rs c) regs)
  entry_do good =
      let r = raised w n t c.behaviors h regs (omega (arith, flags, own, st.kept.below, st.registers, in_rs, room, entry_grows w.unit bound h rs c)) in
      let raise = all_flagged h c.behaviors in
      let asks = checks_code w.unit bound [] [] c.behaviors h None rs (entry_checks c) in
      let apart : Stays h m low regs r.after = record { long = r.long; kept = λ j lt away. r.others j (by j away) } in
      let done : runs w n t (entry_code w.unit bound h rs c) regs ≡ runs w n t asks r.after =
      before_is w.globals raise asks w.calls n regs t ∙ ap (λ q. then_do q (at_next (exec_all over_blocks w.globals asks w.calls n))) r.run ∙ writes_none (runs w n t asks r.after) in
      let law : Checked asking from.steps h (all_hold c.behaviors) (all_checked c.behaviors [] (entry_checks c) (all_hold c.behaviors) from) (runs w n (record t { steps = from.steps }) asks r.after) rs r.after =
      checks_follow_all asking h m stands c.behaviors h (omega arith) (entry_checks c) from.steps few (all_hold c.behaviors) all_long good (omega (arith, all_long, flags)) rs in_rs (omega (arith, all_long, flags, own, st.kept.below, in_rs)) r.after
      (omega (arith, room, r.long, st.registers)) r.flagged apart in
      subst (λ q. ChecksDo h m low regs from t (all_checked c.behaviors [] (entry_checks c) (all_hold c.behaviors) from) q) (sym done)
      (checked_do w n low bound h m behind own st.kept.below asking regs r.after from t asks rs (all_hold c.behaviors) (omega (arith, all_long, flags)) in_rs apart
      (all_checked c.behaviors [] (entry_checks c) (all_hold c.behaviors) from) refl refl
      (subst (λ i. Checked asking from.steps h (all_hold c.behaviors) (all_checked c.behaviors [] (entry_checks c) (all_hold c.behaviors) from) (runs w n (record t { steps = i }) asks r.after) rs r.after) (sym b.steps) law))
    where
      by : (j : ℕ) → (j < h) ⊎ (m ≤ j) → (j < h) ⊎ (h + length c.behaviors ≤ j)
      by j (inl before) = inl before
      by j (inr after) = inr (omega (arith, after, flags))

-- ---- at the end

-- terms that no name in sight bounds have values of their ranges, whatever names stand for
unseen_ranges : (s : State) (e : Environment) → Bounded s.store → AreBounded s.marks → RangesHold [] s e
unseen_ranges s e bounded past = record { state = state_fits s bounded past; names = record { within = λ x r f. absurd cc; lies = λ l u x r w at f g. absurd cc } }

-- ---- what is given

small_near : (p : Pointer) → IsSmall p → IsNear p
small_near Null h = tt
small_near (Into n i) h = h

near_small : (p : Pointer) → IsSmall p → reads.IsSmall p
near_small Null h = tt
near_small (Into n i) h = omega (arith, h)

-- a number's register holds no pointer
no_pointer : (k : CInt) → same_type (register_type k) mon_type.Ptr ≡ false
no_pointer I8 = refl
no_pointer U8 = refl
no_pointer I16 = refl
no_pointer U16 = refl
no_pointer I32 = refl
no_pointer U32 = refl
no_pointer I64 = refl
no_pointer U64 = refl

not_both : (b : Bool) → b ≡ true → b ≡ false → ⊥
not_both b x y = cc

-- a pointer that is given is the start of its range
starts_at : (u : PlainType) (q : Range) → range_seen result_number (seen_in (ctype.Ptr u)) ≡ Some q → LiesIn q (pos 0)
starts_at u q e = let same : offset_range ≡ q = cc in subst (λ r. LiesIn r (pos 0)) same (record { above = omega (arith, ints); below = omega (arith, ints) })

-- it lies in the range of its type
module _ (t : PlainType) (z : Option Value) where
  result_ranges : (s : State) → IsResult t z → Bounded s.store → AreBounded s.marks → RangesHold (seen_in t) s (result_is (value_of z))
  result_ranges s i bounded past = by t z i
    where
      by : (t : PlainType) (z : Option Value) → IsResult t z → RangesHold (seen_in t) s (result_is (value_of z))
      by (Int k) None i = absurd i
      by (Int k) (Some v) i = results_keep_ranges s (Int k) v bounded past i
      by (ctype.Ptr u) None i = absurd i
      by (ctype.Ptr u) (Some v) i = results_keep_ranges s (ctype.Ptr u) v bounded past (i.0, i.1, small_near i.0 i.2)
      by (Array u n) z i = unseen_ranges s (result_is (value_of z)) bounded past
      by (Struct n) z i = unseen_ranges s (result_is (value_of z)) bounded past
      by Void z i = unseen_ranges s (result_is (value_of z)) bounded past
      by (ctype.Named x) z i = unseen_ranges s (result_is (value_of z)) bounded past
      by (StructTag x tag) z i = unseen_ranges s (result_is (value_of z)) bounded past
      by (EnumTag x at) z i = unseen_ranges s (result_is (value_of z)) bounded past

-- `\result` is held in its register, whatever the flags hold
module _ (r h m : ℕ) (lt : r < h) where
  one_held : (kind : MonType) (v : Value) (asking : code.Setting) → asking.names ≡ result_is v → IsSorted (same_type kind mon_type.Ptr) v
      → (same_type kind mon_type.Ptr ≡ true → (g : Range) → range_seen result_number asking.seen ≡ Some g → LiesIn g (pos 0)) → r < asking.low → slice_get asking.regs r ≡ Some v
      → (x : ℕ) (o : Held) → held_by x (result_held r (Some kind)) ≡ Some o → IsHeldApart h m asking x o
  one_held kind v asking names sorted starts there holds x o e = by (nat_eq result_number x) refl e
    where
      it : Held
      it = record { number = result_number; register = r; kind = kind }

      by : (t : Bool) → nat_eq result_number x ≡ t → cond t (Some it) None ≡ Some o → IsHeldApart h m asking x o
      by false t f = absurd cc
      by true t f =
          let is_it : it ≡ o = cc in
          let number : result_number ≡ x = eqb-true result_number x t in
          subst (λ o. IsHeldApart h m asking x o) is_it (record {
            value = v;
            sorted = sorted;
            starts = λ a g s. starts a g (ap (λ x. range_seen x asking.seen) number ∙ s);
            is = λ k. ap (λ e. meant (left_with k asking.now) (look x e)) names ∙ ap (λ x. meant (left_with k asking.now) (look x (result_is v))) (sym number);
            holds = λ later st. st.kept r there (inl lt) ∙ holds;
          })

module _ (w : Setting) (n : ℕ) (here : Here) (low : ℕ) (bound : Bindings) (f : Function) (c : FunctionContract) (r h m : ℕ) (planned : StandBelow h w.plan) (lt : r < h) (behind : w.plan_from ≤ h) (flags : h + length c.behaviors ≡ m)
    (own : m ≤ w.plan_to) (rs : List MonType) (in_rs : low ≤ length rs) (room : length (behind_leave w.unit bound w.plan (result_held r (result_of f.result)) h rs c) ≤ w.registers)
    (z : Option Value) (given : IsResult f.result z) (regs : List Value) (holds : HoldsResult (Some r) z regs) (from : State) (t : Target) (few : from.steps ≤ n) (st : Standing w here low bound regs from) (b : Beside w from.store from t) where
  abbrev held : List Held
  held = result_held r (result_of f.result)

  abbrev v : Value
  v = value_of z

  abbrev pub judged : code.Setting
  judged = judging w n low bound (result_is v) held (seen_in f.result) from t regs

  below : h ≤ low
  below = omega (arith, flags, own, st.kept.below)

  is_held : (x : ℕ) (o : Held) → held_by x held ≡ Some o → IsHeldApart h m judged x o
  is_held = by f.result z refl refl given holds
    where
      none_held : (k : PlainType) (x : ℕ) (o : Held) → f.result ≡ k → result_of k ≡ None → held_by x held ≡ Some o → ⊥
      none_held k x o e none found = let nothing : held_by x (result_held r None) ≡ Some o = ap (λ k. held_by x (result_held r k)) (sym (ap result_of e ∙ none)) ∙ found in absurd cc

      by : (k : PlainType) (y : Option Value) → f.result ≡ k → z ≡ y → IsResult k y → HoldsResult (Some r) y regs → (x : ℕ) (o : Held) → held_by x held ≡ Some o → IsHeldApart h m judged x o
      by (Int i) None e g is has = absurd is
      by (Int i) (Some y) e g is has =
          subst (λ l. (x : ℕ) (o : Held) → held_by x l ≡ Some o → IsHeldApart h m judged x o) (ap (λ k. result_held r (result_of k)) (sym e))
          (one_held r h m lt (register_type i) y judged (ap (λ y. result_is (value_of y)) g) (subst (λ b. IsSorted b y) (sym (no_pointer i)) (is.0, is.1))
          (λ a. absurd (not_both (same_type (register_type i) mon_type.Ptr) a (no_pointer i))) (omega (arith, lt, below)) has)
      by (ctype.Ptr u) None e g is has = absurd is
      by (ctype.Ptr u) (Some y) e g is has =
          subst (λ l. (x : ℕ) (o : Held) → held_by x l ≡ Some o → IsHeldApart h m judged x o) (ap (λ k. result_held r (result_of k)) (sym e))
          (one_held r h m lt mon_type.Ptr y judged (ap (λ y. result_is (value_of y)) g) (is.0, is.1, near_small is.0 is.2)
          (λ a q s. starts_at u q (ap (λ k. range_seen result_number (seen_in k)) (sym e) ∙ s)) (omega (arith, lt, below)) has)
      by (Array u k) y e g is has = λ x o found. absurd (none_held (Array u k) x o e refl found)
      by (Struct k) y e g is has = λ x o found. absurd (none_held (Struct k) x o e refl found)
      by Void y e g is has = λ x o found. absurd (none_held Void x o e refl found)
      by (ctype.Named k) y e g is has = λ x o found. absurd (none_held (ctype.Named k) x o e refl found)
      by (StructTag k tag) y e g is has = λ x o found. absurd (none_held (StructTag k tag) x o e refl found)
      by (EnumTag k at) y e g is has = λ x o found. absurd (none_held (EnumTag k at) x o e refl found)

  stands_then : StandsFor h m judged
  stands_then = record {
    apart = record {
      store_is = b.store_is;
      sound = bounded_sound from.store st.bounded;
      points = λ x number found later same. pointer_has w low low bound later later t.mem from.scope x number (omega arith) (same_all low later)
          (anchored_stays w low bound regs later from.scope (wider w n low bound h m behind own st.kept.below regs later same) st.anchored) found;
    };
    held = is_held;
    keeps = λ at k e. let found = kept_found at h w.plan k from.marks regs e planned st.kept.keeps.terms in (record { below = omega (arith, found.0, below); gives = found.1 }, inl found.0);
    ranges = λ k. result_ranges f.result z (left_with k from) given st.bounded st.kept.keeps.past;
  }

  pub leave_do : (hs : List Bool) → h + length hs ≡ m → Flagged h hs regs → AreGood judged c.behaviors h (length hs) (leave_checks c)
      → ChecksDo h m low regs from t (all_checked c.behaviors (result_is v) (leave_checks c) hs from) (runs w n t (leave_code w.unit bound w.plan held h rs c) regs)
  leave_do hs long flagged good =
      let code = leave_code w.unit bound w.plan held h rs c in
      let law : Checked judged from.steps h hs (all_checked c.behaviors (result_is v) (leave_checks c) hs from) (runs w n (record t { steps = from.steps }) code regs) rs regs =
      checks_follow_all judged h m stands_then c.behaviors h (omega arith) (leave_checks c) from.steps few hs (omega (arith, long, flags)) good (omega (arith, long)) rs in_rs (omega (arith, long, own, st.kept.below, in_rs)) regs
      (omega (arith, room, st.registers)) flagged (stays_none h m low regs) in
      checked_do w n low bound h m behind own st.kept.below judged regs regs from t code rs hs long in_rs (stays_none h m low regs) (all_checked c.behaviors (result_is v) (leave_checks c) hs from) refl refl
      (subst (λ i. Checked judged from.steps h hs (all_checked c.behaviors (result_is v) (leave_checks c) hs from) (runs w n (record t { steps = i }) code regs) rs regs) (sym b.steps) law)
    where
      stays_none : (h m low : ℕ) (regs : List Value) → Stays h m low regs regs
      stays_none h m low regs = record { long = refl; kept = λ j lt apart. refl }
