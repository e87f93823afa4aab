-- After a passage of a label the registers of the plan hold what the new marks say.
use Rattle.std.proofs.Common.{◌≡◌, ◌≢◌, ◌⊎◌, inl, inr, ⊎_elim, ℕ, suc, ◌+◌, ◌<◌, ◌≤◌, ℤ, pos, Bool, true, false, cond, List, [], ◌∷◌, length, length-append, length-set, Option, Some, None, slice_get, slice_set, refl, sym, ap, ◌∙◌, subst, arith}
use Rattle.c_syntax.specs.Logic.{LogicTerm, range_of}
use Rattle.c_syntax.specs.Programs.{TranslationUnit}
use Rattle.c_model.specs.Logic.{TermValue, Mathematical, Addressed, as_address, at_mark, state_at, valued_at}
use Rattle.c_model.specs.Memory.{Value, Integer, Points}
use Rattle.c_model.specs.MemoryQuestions.{Address}
use Rattle.c_model.specs.Predicates.{term}
use Rattle.c_model.specs.State.{Mark, mark_of, same_label}
use Rattle.c_model.specs.TermRanges.{TermRanged}
use Rattle.c_model.proofs.Blocks.{slice_get-slice_set_other}
use Rattle.mon_syntax.specs.declared.tree.MonType.{MonType}
use Rattle.mon_syntax.specs.declared.tree.MonType.TheVariants.{I32, I128}
use Rattle.mon_syntax.specs.BlockMemory.{is_some}
use Rattle.mon_syntax.specs.Meaning.{Done, Next}
use Rattle.mon_syntax.specs.Registers.{Bindings}
use Rattle.mon_syntax.specs.Trees.{MonExpression, Register, Constant, Set, MonStatements, Then}
use Rattle.c_effects.specs.Expressions.{before, set}
use Rattle.c_simulation.specs.Keeping.{Kept, GivesTerm, GiveTerms, is_pointer_term, kept_value, registers_by, registers_of}
use Rattle.c_simulation.specs.SameRegisters.{Stays}
use Rattle.annot_simulation.specs.Code.{Side, side_by, OfNumber, OfPointer, pointer_code, term_code, used_by}
use Rattle.annot_simulation.specs.Does.{Setting, runs, Stands, RangesHold, PointerFound, SideFound, TermFound, found_by}
use Rattle.annot_simulation.specs.Pieces.{Code, guarded}
use Rattle.annot_simulation.specs.Pointers.{PointerCode}
use Rattle.annot_simulation.specs.Snapshots.{Ascend, AreKept, Passed, SnapshotKeeps, StandsApart, behind_keep, behind_snapshot, entry_side, keep, keep_none, keep_number, keep_pointer, marked, snapshot}
use Rattle.annot_simulation.proofs.Addresses.{PointerCodes, Placed}
use Rattle.annot_simulation.proofs.Alone.{pointer_alone, term_alone}
use Rattle.annot_simulation.proofs.Asked.{set_any_first}
use Rattle.annot_simulation.proofs.Exact.{value_of}
use Rattle.annot_simulation.proofs.Grows.{pointer_grows, side_grows, term_grows}
use Rattle.annot_simulation.proofs.Parts.{Codes, FlagIs, Holds, guarded_false, guarded_true}
use Rattle.annot_simulation.proofs.Quiet.{IsNoNumber, IsNoPointer, none_sorted}
use Rattle.annot_simulation.proofs.Steps.{HasNumber, after_runs, get-set_same, same_all, same_set, set_first, set_runs}
use Rattle.annot_simulation.proofs.Theorem.{Ready, pointer_does, term_does}
use Rattle.annot_simulation.proofs.Variables.{number_found, pointer_found}

-- ---- registers

pub stays_all : (n m low : ℕ) (regs : List Value) → Stays n m low regs regs
stays_all n m low regs = record { long = refl; kept = λ j lt out. refl }

-- the same place from these registers, where no name and no kept term is known
abbrev pub bare : Setting → List Value → Setting
bare w regs = record w { regs = regs; plan = []; names = []; held = []; seen = [] }

-- ---- one entry

-- statements come to their end, with the value of a term in registers from r on; behind `high` nothing is known, and below that all others stay
pub record Entered (w : Setting) (a : MonStatements) (t : LogicTerm) (o : Option TermValue) (r high : ℕ) (regs : List Value) : Type 0 where
  pub after : List Value
  pub is : runs w a regs ≡ Done (Next after) w.target []
  pub gives : GivesTerm t o r after
  pub long : length after ≡ length regs
  pub others : (j : ℕ) → j < high → (j < r) ⊎ (r + registers_of t ≤ j) → slice_get after j ≡ slice_get regs j

module _ (w : Setting) (t : LogicTerm) (r high : ℕ) where
  apart : (j : ℕ) (b : Bool) → (j < r) ⊎ (r + registers_by b ≤ j) → (j ≢ r) × (j ≢ suc r)
  apart j true (inl a) = ((λ e. omega (arith, e, a)), (λ e. omega (arith, e, a)))
  apart j true (inr a) = ((λ e. omega (arith, e, a)), (λ e. omega (arith, e, a)))
  apart j false (inl a) = ((λ e. omega (arith, e, a)), (λ e. omega (arith, e, a)))
  apart j false (inr a) = ((λ e. omega (arith, e, a)), (λ e. omega (arith, e, a)))

  none_entered : (regs : List Value) → r < length regs → Entered w (keep_none r) t None r high regs
  none_entered regs lt = record {
    after = slice_set regs r (Integer (pos 0));
    is = set_runs w r (Constant I32 (pos 0)) regs (pos 0) refl;
    gives = record { flag_is = get-set_same regs r (Integer (pos 0)) lt; value_is = λ z e. absurd cc; pointer_is = λ p x e. absurd cc };
    long = length-set regs r (Integer (pos 0));
    others = λ j lt out. slice_get-slice_set_other regs r j (Integer (pos 0)) (apart j (is_pointer_term t) out).0;
  }

  -- a number
  number_entered : (e : MonExpression) (z : ℤ) (regs : List Value) → suc r < length regs → HasNumber w e regs z → Entered w (Then (Set (suc r) e) (set r (Constant I32 (pos 1)))) t (Some (Mathematical z)) r high regs
  number_entered e z regs lt has =
      let mid = slice_set regs (suc r) (Integer z) in
      let end = slice_set mid r (Integer (pos 1)) in
      let long_mid : length mid ≡ length regs = length-set regs (suc r) (Integer z) in
      let long_end : length end ≡ length mid = length-set mid r (Integer (pos 1)) in record {
        after = end;
        is = set_first w (suc r) e (set r (Constant I32 (pos 1))) regs z has ∙ set_runs w r (Constant I32 (pos 1)) mid (pos 1) refl;
        gives = record {
          flag_is = get-set_same mid r (Integer (pos 1)) (omega (arith, lt, long_mid));
          value_is = λ y q.
              let same_number : z ≡ y = cc in
              slice_get-slice_set_other mid r (suc r) (Integer (pos 1)) (λ x. omega (arith, x)) ∙ get-set_same regs (suc r) (Integer z) lt ∙ ap (λ y. Some (Integer y)) same_number;
          pointer_is = λ p x q. absurd cc;
        };
        long = long_end ∙ long_mid;
        others = λ j lt out.
            let out2 = apart j (is_pointer_term t) out in
            slice_get-slice_set_other mid r j (Integer (pos 1)) out2.0 ∙ slice_get-slice_set_other regs (suc r) j (Integer z) out2.1;
      }

  keep_enters : (c : Code) (o : Option TermValue) → IsNoPointer o → (rs : List MonType) (regs : List Value) → (h : Codes w c (value_of o) rs regs) → high ≤ length rs → suc r < length regs → Entered w (keep_number c r) t o r high regs
  keep_enters c o none_is rs regs h le lt = made (by o none_is (h.holds h.end (same_all (length c.used) h.end)))
    where
      on : MonStatements
      on = Then (Set (suc r) c.value) (set r (Constant I32 (pos 1)))

      by : (o : Option TermValue) → IsNoPointer o → Holds w c.flag c.value (value_of o) h.end → Entered w (guarded c.flag on (keep_none r)) t o r high h.end
      by None absent g =
          let x = none_entered h.end (omega (arith, lt, h.same.long)) in
          record { after = x.after; is = guarded_false w c.flag on (keep_none r) h.end g.flag_is ∙ x.is; gives = x.gives; long = x.long; others = x.others }
      by (Some (Addressed y)) absent g = absurd (absent y refl)
      by (Some (Mathematical z)) absent g =
          let x = number_entered c.value z h.end (omega (arith, lt, h.same.long)) (g.value_is z refl) in
          record { after = x.after; is = guarded_true w c.flag on (keep_none r) h.end g.flag_is ∙ x.is; gives = x.gives; long = x.long; others = x.others }

      made : Entered w (guarded c.flag on (keep_none r)) t o r high h.end → Entered w (keep_number c r) t o r high regs
      made x = record {
        after = x.after;
        is = after_runs w c.stmts (guarded c.flag on (keep_none r)) regs h.end h.is ∙ x.is;
        gives = x.gives;
        long = x.long ∙ h.same.long;
        others = λ j below out. x.others j below out ∙ h.same.below j (omega (arith, below, le));
      }

  -- a pointer
  module _ (c : PointerCode) (x : Address) (end : List Value) (p : Placed w c x (range_of t) end) (is_pointer : is_pointer_term t ≡ true) (room : length c.used < length end) (below : r + 3 ≤ high) (behind : high ≤ length c.used) where
    abbrev q : ℕ
    q = length c.used

    abbrev first : List Value
    first = slice_set end q (Integer p.distance)

    abbrev second : List Value
    second = slice_set first (suc r) (Points p.pointer)

    abbrev third : List Value
    third = slice_set second (suc (suc r)) (Integer p.distance)

    abbrev last : List Value
    last = slice_set third r (Integer (pos 1))

    long_first : length first ≡ length end
    long_first = length-set end q (Integer p.distance)

    long_second : length second ≡ length first
    long_second = length-set first (suc r) (Points p.pointer)

    long_third : length third ≡ length second
    long_third = length-set second (suc (suc r)) (Integer p.distance)

    long_last : length last ≡ length third
    long_last = length-set third r (Integer (pos 1))

    offset_there : slice_get second q ≡ Some (Integer p.distance)
    offset_there = slice_get-slice_set_other first (suc r) q (Points p.pointer) (λ e. omega (arith, e, below, behind)) ∙ get-set_same end q (Integer p.distance) room

    three : (r + registers_of t) ≡ r + 3
    three = ap (λ b. r + registers_by b) is_pointer

    pointer_entered : Entered w (Then (Set q c.offset) (Then (Set (suc r) c.base) (Then (Set (suc (suc r)) (Register q)) (set r (Constant I32 (pos 1)))))) t (Some (Addressed x)) r high end
    pointer_entered = record {
      after = last;
      is =
          set_first w q c.offset (Then (Set (suc r) c.base) (Then (Set (suc (suc r)) (Register q)) (set r (Constant I32 (pos 1))))) end p.distance (p.offset_is end (same_all q end))
          ∙ set_any_first w (suc r) c.base (Then (Set (suc (suc r)) (Register q)) (set r (Constant I32 (pos 1)))) first (Points p.pointer) (p.base_is first (same_set q q end (Integer p.distance) (omega arith)))
          ∙ set_first w (suc (suc r)) (Register q) (set r (Constant I32 (pos 1))) second p.distance offset_there
          ∙ set_runs w r (Constant I32 (pos 1)) third (pos 1) refl;
      gives = record {
        flag_is = get-set_same third r (Integer (pos 1)) (omega (arith, room, below, behind, long_first, long_second, long_third));
        value_is = λ z e. absurd cc;
        pointer_is = λ i y e.
            let same_address : x ≡ y = cc in record {
              pointer = p.pointer;
              distance = p.distance;
              base_is =
                  slice_get-slice_set_other third r (suc r) (Integer (pos 1)) (λ e. omega (arith, e))
                  ∙ slice_get-slice_set_other second (suc (suc r)) (suc r) (Integer p.distance) (λ e. omega (arith, e))
                  ∙ get-set_same first (suc r) (Points p.pointer) (omega (arith, room, below, behind, long_first));
              offset_is =
                  slice_get-slice_set_other third r (suc (suc r)) (Integer (pos 1)) (λ e. omega (arith, e))
                  ∙ get-set_same second (suc (suc r)) (Integer p.distance) (omega (arith, room, below, behind, long_first, long_second));
              is = p.is ∙ same_address;
              small = p.small;
              lies = p.lies;
            };
      };
      long = long_last ∙ long_third ∙ long_second ∙ long_first;
      others = λ j lt out.
          let out2 = apart j (is_pointer_term t) out in
          slice_get-slice_set_other third r j (Integer (pos 1)) out2.0
          ∙ slice_get-slice_set_other second (suc (suc r)) j (Integer p.distance) (λ e. ⊎_elim (λ a. absurd (omega (arith, a, e))) (λ b. absurd (omega (arith, b, e, three))) out)
          ∙ slice_get-slice_set_other first (suc r) j (Points p.pointer) out2.1
          ∙ slice_get-slice_set_other end q j (Integer p.distance) (λ e. omega (arith, e, lt, behind));
    }

  keep_pointer_enters : (c : PointerCode) (o : Option TermValue) → IsNoNumber o → (rs : List MonType) (regs : List Value) → (h : PointerCodes w c (as_address o) (range_of t) rs regs) → is_pointer_term t ≡ true → high ≤ length rs
      → length rs ≤ length c.used → r + 3 ≤ high → length c.used < length regs → Entered w (keep_pointer c r) t o r high regs
  keep_pointer_enters c o none_is rs regs h sort le more up room = made (by o none_is (h.flag_is h.end (same_all (length c.used) h.end)) h.placed)
    where
      on : MonStatements
      on = Then (Set (length c.used) c.offset) (Then (Set (suc r) c.base) (Then (Set (suc (suc r)) (Register (length c.used))) (set r (Constant I32 (pos 1)))))

      by : (o : Option TermValue) → IsNoNumber o → FlagIs w c.flag (is_some (as_address o)) h.end → ((x : Address) → as_address o ≡ Some x → Placed w c x (range_of t) h.end) → Entered w (guarded c.flag on (keep_none r)) t o r high h.end
      by None absent g p =
          let x = none_entered h.end (omega (arith, room, up, le, more, h.same.long)) in
          record { after = x.after; is = guarded_false w c.flag on (keep_none r) h.end g ∙ x.is; gives = x.gives; long = x.long; others = x.others }
      by (Some (Mathematical z)) absent g p = absurd (absent z refl)
      by (Some (Addressed y)) absent g p =
          let x = pointer_entered c y h.end (p y refl) sort (omega (arith, room, h.same.long)) up (omega (arith, le, more)) in
          record { after = x.after; is = guarded_true w c.flag on (keep_none r) h.end g ∙ x.is; gives = x.gives; long = x.long; others = x.others }

      made : Entered w (guarded c.flag on (keep_none r)) t o r high h.end → Entered w (keep_pointer c r) t o r high regs
      made x = record {
        after = x.after;
        is = after_runs w c.stmts (guarded c.flag on (keep_none r)) regs h.end h.is ∙ x.is;
        gives = x.gives;
        long = x.long ∙ h.same.long;
        others = λ j below out. x.others j below out ∙ h.same.below j (omega (arith, below, le));
      }

-- ---- what is kept stays

pub ascend_up : (ks : List Kept) (n m : ℕ) → Ascend n ks m → n ≤ m
ascend_up [] n m h = h
ascend_up (k ∷ ks) n m h = let up = ascend_up ks (k.register + registers_of k.term) m h.1 in omega (arith, h.0, up)

pub gives_moved : (t : LogicTerm) (o : Option TermValue) (r : ℕ) (regs after : List Value) → ((j : ℕ) → r ≤ j → j < r + registers_of t → slice_get after j ≡ slice_get regs j) → GivesTerm t o r regs → GivesTerm t o r after
gives_moved t o r regs after same h = by (is_pointer_term t) refl same
  where
    by : (b : Bool) → is_pointer_term t ≡ b → ((j : ℕ) → r ≤ j → j < r + registers_by b → slice_get after j ≡ slice_get regs j) → GivesTerm t o r after
    by false e same = record {
      flag_is = same r (omega arith) (omega arith) ∙ h.flag_is;
      value_is = λ z q. same (suc r) (omega arith) (omega arith) ∙ h.value_is z q;
      pointer_is = λ p x q. let no : false ≡ true = sym e ∙ p in absurd cc;
    }
    by true e same = record {
      flag_is = same r (omega arith) (omega arith) ∙ h.flag_is;
      value_is = λ z q. same (suc r) (omega arith) (omega arith) ∙ h.value_is z q;
      pointer_is = λ p x q.
          let g = h.pointer_is p x q in record {
            pointer = g.pointer;
            distance = g.distance;
            base_is = same (suc r) (omega arith) (omega arith) ∙ g.base_is;
            offset_is = same (suc (suc r)) (omega arith) (omega arith) ∙ g.offset_is;
            is = g.is;
            small = g.small;
            lies = g.lies;
          };
    }

-- as long as its registers do, whatever happens to the store
pub terms_moved : (ks : List Kept) (n m : ℕ) (marks : List Mark) (regs after : List Value) → Ascend n ks m → ((j : ℕ) → n ≤ j → j < m → slice_get after j ≡ slice_get regs j) → GiveTerms ks marks regs → GiveTerms ks marks after
terms_moved [] n m marks regs after h same k = tt
terms_moved (k ∷ ks) n m marks regs after h same x =
    let up = ascend_up ks (k.register + registers_of k.term) m h.1 in (
      gives_moved k.term (kept_value k marks) k.register regs after (λ j le lt. same j (omega (arith, le, h.0)) (omega (arith, lt, up))) x.0,
      terms_moved ks (k.register + registers_of k.term) m marks regs after h.1 (λ j le lt. same j (omega (arith, le, h.0)) lt) x.1,
    )

-- at the beginning of a call no label was passed, and all registers are 0
pub terms_nothing : (ks : List Kept) (n m : ℕ) (regs : List Value) → Ascend n ks m → ((j : ℕ) → n ≤ j → j < m → slice_get regs j ≡ Some (Integer (pos 0))) → GiveTerms ks [] regs
terms_nothing [] n m regs h zero_at = tt
terms_nothing (k ∷ ks) n m regs h zero_at =
    let up = ascend_up ks (k.register + registers_of k.term) m h.1 in
    let some = registers_some (is_pointer_term k.term) in (
      record { flag_is = zero_at k.register h.0 (omega (arith, up, some)); value_is = λ z e. absurd cc; pointer_is = λ p x e. absurd cc },
      terms_nothing ks (k.register + registers_of k.term) m regs h.1 (λ j le lt. zero_at j (omega (arith, le, h.0)) lt),
    )
  where
    registers_some : (b : Bool) → 1 ≤ registers_by b
    registers_some true = omega arith
    registers_some false = omega arith

-- ---- a passage

keep_grows : (x : Side) → length (used_by x) ≤ length (behind_keep x)
keep_grows (OfNumber c) = omega arith
keep_grows (OfPointer c) = omega (arith, length-append c.used (I128 ∷ []))

module _ (p : TranslationUnit) (bound : Bindings) where
  pub entry_grows : (k : Kept) (rs : List MonType) → length rs ≤ length (behind_keep (entry_side p bound rs k))
  entry_grows k rs =
      let c = pointer_code p bound [] k.term [] [] rs in
      let d = term_code p bound [] k.term [] [] rs in
      let x = side_grows (is_pointer_term k.term) c d rs (pointer_grows p bound [] k.term [] [] rs) (term_grows p bound [] k.term [] [] rs) in
      let y = keep_grows (entry_side p bound rs k) in
      omega (arith, x, y)

  pub snapshot_grows : (l : Option ℕ) (ks : List Kept) (rs : List MonType) → length rs ≤ length (behind_snapshot p bound l rs ks)
  snapshot_grows l [] rs = omega arith
  snapshot_grows l (k ∷ ks) rs = by (same_label k.label l) (snapshot_grows l ks (behind_keep (entry_side p bound rs k))) (snapshot_grows l ks rs)
    where
      by : (t : Bool) → length (behind_keep (entry_side p bound rs k)) ≤ length (behind_snapshot p bound l (behind_keep (entry_side p bound rs k)) ks) → length rs ≤ length (behind_snapshot p bound l rs ks)
          → length rs ≤ length (cond t (behind_snapshot p bound l (behind_keep (entry_side p bound rs k)) ks) (behind_snapshot p bound l rs ks))
      by true h g = let x = entry_grows k rs in omega (arith, x, h)
      by false h g = g

module _ (w : Setting) (n m : ℕ) (standing : StandsApart n m w) (ranges : RangesHold [] w.now []) (enough : w.target.steps ≤ w.turns) (l : Option ℕ) where
  stands_here : (regs : List Value) → Stays n m w.low w.regs regs → Stands (bare w regs)
  stands_here regs stays = record {
    store_is = standing.store_is;
    points = λ x number found later same. standing.points x number found later (record { long = same.long ∙ stays.long; kept = λ j lt out. same.below j lt ∙ stays.kept j lt out });
    held = λ x h f. absurd cc;
    keeps = λ at k f. absurd cc;
    sound = standing.sound;
  }

  abbrev now : Mark
  now = marked l w.now

  -- the entries after one of them, from these registers on
  abbrev Rest : ℕ → List Kept → List Mark → Type 0
  Rest from ks marks = (rs : List MonType) → w.low ≤ length rs → m ≤ length rs → (regs : List Value) → length (behind_snapshot w.unit w.bound l rs ks) ≤ length regs → GiveTerms ks marks regs → Stays n m w.low w.regs regs
      → Passed w m from (snapshot w.unit w.bound l rs ks) rs regs (GiveTerms ks (now ∷ marks))

  module _ (k : Kept) (rs : List MonType) (low : w.low ≤ length rs) (in_rs : m ≤ length rs) (regs : List Value) (stays : Stays n m w.low w.regs regs) (up : k.register + registers_of k.term ≤ m) (ranged : TermRanged [] k.term) where
    abbrev pc : PointerCode
    pc = pointer_code w.unit w.bound [] k.term [] [] rs

    abbrev tc : Code
    tc = term_code w.unit w.bound [] k.term [] [] rs

    abbrev value_here : Option TermValue
    value_here = term k.term w.now []

    ready : Ready (bare w regs) rs regs
    ready = record { low = low; near = same_all w.low regs }

    entered : found_by (is_pointer_term k.term) (PointerFound [] w.now.scope [] k.term) (TermFound [] w.now.scope [] k.term) → length (behind_keep (entry_side w.unit w.bound rs k)) ≤ length regs
        → Entered (bare w regs) (keep (entry_side w.unit w.bound rs k) k.register) k.term (term k.term w.now []) k.register (length rs) regs
    entered found room = by (is_pointer_term k.term) refl found room up
      where
        by : (b : Bool) → is_pointer_term k.term ≡ b → found_by b (PointerFound [] w.now.scope [] k.term) (TermFound [] w.now.scope [] k.term) → length (behind_keep (side_by b pc tc)) ≤ length regs → k.register + registers_by b ≤ m
            → Entered (bare w regs) (keep (side_by b pc tc) k.register) k.term (term k.term w.now []) k.register (length rs) regs
        by true e found room up =
            let long = length-append pc.used (I128 ∷ []) in
            keep_pointer_enters (bare w regs) k.term k.register (length rs) pc (term k.term w.now []) (pointer_found [] [] k.term w.now [] w.now.scope (none_sorted w.now []) found) rs regs
            (pointer_does (bare w regs) (stands_here regs stays) ranges enough k.term ranged found [] tt rs regs ready (omega (arith, long, room))) e (omega arith) (pointer_grows w.unit w.bound [] k.term [] [] rs) (omega (arith, up, in_rs))
            (omega (arith, long, room))
        by false e found room up =
            let g = term_grows w.unit w.bound [] k.term [] [] rs in
            keep_enters (bare w regs) k.term k.register (length rs) tc (term k.term w.now []) (number_found [] [] k.term w.now [] w.now.scope (none_sorted w.now []) found) rs regs
            (term_does (bare w regs) (stands_here regs stays) ranges enough k.term ranged found [] tt rs regs ready room) (omega arith) (omega (arith, up, in_rs, g, room))

  -- the value at the mark
  value_at_mark : (k : Kept) → found_by (is_pointer_term k.term) (PointerFound [] w.now.scope [] k.term) (TermFound [] w.now.scope [] k.term) → term k.term w.now [] ≡ term k.term (state_at now) []
  value_at_mark k found = by (is_pointer_term k.term) found
    where
      by : (b : Bool) → found_by b (PointerFound [] w.now.scope [] k.term) (TermFound [] w.now.scope [] k.term) → term k.term w.now [] ≡ term k.term (state_at now) []
      by true f = sym (pointer_alone w.now [] w.now.scope k.term f)
      by false f = sym (term_alone w.now [] w.now.scope k.term f)

  module _ (k : Kept) (ks : List Kept) (from : ℕ) (order : Ascend from (k ∷ ks) m) (behind : n ≤ from) (marks : List Mark) (go : Rest (k.register + registers_of k.term) ks marks)
      (rs : List MonType) (low : w.low ≤ length rs) (in_rs : m ≤ length rs) (regs : List Value) (x : GiveTerms (k ∷ ks) marks regs) (stays : Stays n m w.low w.regs regs) where
    abbrev side : Side
    side = entry_side w.unit w.bound rs k

    up : k.register + registers_of k.term ≤ m
    up = ascend_up ks (k.register + registers_of k.term) m order.1

    -- what is left of one of the label
    abbrev There : Bool → List Value → Type 0
    There t after = GivesTerm k.term (valued_at (at_mark (cond t (Some now) (mark_of k.label marks))) (λ s. term k.term s [])) k.register after × GiveTerms ks (now ∷ marks) after

    abbrev code : Bool → MonStatements
    code t = cond t (before (keep side k.register) (snapshot w.unit w.bound l (behind_keep side) ks)) (snapshot w.unit w.bound l rs ks)

    skipped : length (behind_snapshot w.unit w.bound l rs ks) ≤ length regs → Passed w m from (code false) rs regs (There false)
    skipped room =
        let rest = go rs low in_rs regs room x.1 stays in record {
          after = rest.after;
          is = rest.is;
          stays = record {
            long = rest.stays.long;
            kept = λ j lt out. rest.stays.kept j lt (⊎_elim (λ a. inl (omega (arith, a, order.0))) (λ b. inr b) out);
          };
          keeps = (gives_moved k.term (kept_value k marks) k.register regs rest.after (λ j le lt. rest.stays.kept j (omega (arith, lt, up, in_rs)) (inl lt)) x.0, rest.keeps);
        }

    taken : TermRanged [] k.term → SideFound [] w.now.scope [] k.term → length (behind_snapshot w.unit w.bound l (behind_keep side) ks) ≤ length regs → Passed w m from (code true) rs regs (There true)
    taken ranged found room =
        let grows = entry_grows w.unit w.bound k rs in
        let more = snapshot_grows w.unit w.bound l ks (behind_keep side) in
        let e = entered k rs low in_rs regs stays up ranged found (omega (arith, room, more)) in
        let stays_mid : Stays n m w.low w.regs e.after = record {
          long = e.long ∙ stays.long;
          kept = λ j lt out. e.others j (omega (arith, lt, low)) (by_out j out) ∙ stays.kept j lt out;
        } in
        let rest = go (behind_keep side) (omega (arith, low, grows)) (omega (arith, in_rs, grows)) e.after (omega (arith, e.long, room))
        (terms_moved ks (k.register + registers_of k.term) m marks regs e.after order.1 (λ j le lt. e.others j (omega (arith, lt, in_rs)) (inr le)) x.1) stays_mid in record {
          after = rest.after;
          is = after_runs w (keep side k.register) (snapshot w.unit w.bound l (behind_keep side) ks) regs e.after e.is ∙ rest.is;
          stays = record {
            long = rest.stays.long ∙ e.long;
            kept = λ j lt out.
                rest.stays.kept j (omega (arith, lt, grows)) (⊎_elim (λ a. inl (omega (arith, a, order.0))) (λ b. inr b) out)
                ∙ e.others j lt (⊎_elim (λ a. inl (omega (arith, a, order.0))) (λ b. inr (omega (arith, b, up))) out);
          };
          keeps = (
            subst (λ o. GivesTerm k.term o k.register rest.after) (value_at_mark k found)
                (gives_moved k.term (term k.term w.now []) k.register e.after rest.after (λ j le lt. rest.stays.kept j (omega (arith, lt, up, in_rs, grows)) (inl lt)) e.gives),
            rest.keeps,
          );
        }
      where
        by_out : (j : ℕ) → (j < n) ⊎ (m ≤ j) → (j < k.register) ⊎ (k.register + registers_of k.term ≤ j)
        by_out j (inl a) = inl (omega (arith, a, behind, order.0))
        by_out j (inr b) = inr (omega (arith, b, up))

    one_passed : (same_label k.label l ≡ true → TermRanged [] k.term × SideFound [] w.now.scope [] k.term) → length (behind_snapshot w.unit w.bound l rs (k ∷ ks)) ≤ length regs
        → Passed w m from (snapshot w.unit w.bound l rs (k ∷ ks)) rs regs (GiveTerms (k ∷ ks) (now ∷ marks))
    one_passed h = by (same_label k.label l) h
      where
        by : (t : Bool) → (t ≡ true → TermRanged [] k.term × SideFound [] w.now.scope [] k.term) → length (cond t (behind_snapshot w.unit w.bound l (behind_keep side) ks) (behind_snapshot w.unit w.bound l rs ks)) ≤ length regs
            → Passed w m from (code t) rs regs (There t)
        by true h room = taken (h refl).0 (h refl).1 room
        by false h room = skipped room

  -- each entry of the label holds the value of its term, and each other one what it held
  passed : (ks : List Kept) → AreKept w l ks → (from : ℕ) → Ascend from ks m → n ≤ from → (marks : List Mark) → Rest from ks marks
  passed [] h from order behind marks rs low in_rs regs room x stays = record { after = regs; is = refl; stays = stays_all from m (length rs) regs; keeps = tt }
  passed (k ∷ ks) h from order behind marks rs low in_rs regs room x stays =
      one_passed k ks from order behind marks (passed ks h.1 (k.register + registers_of k.term) order.1 (omega (arith, behind, order.0)) marks) rs low in_rs regs x stays h.0 room

pub snapshots_keep : SnapshotKeeps
snapshots_keep w n m standing ranges enough l ks h order marks rs low in_rs room x = passed w n m standing ranges enough l ks h n order (omega arith) marks rs low in_rs w.regs room x (stays_all n m w.low w.regs)
