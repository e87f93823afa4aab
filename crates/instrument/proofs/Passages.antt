-- Passages of labels (ACSL 2.4.3): what the terms that are kept there have is kept in registers.
use Rattle.std.proofs.Common.{◌≡◌, ℕ, ◌≤◌, true, List, [], ◌∷◌, length, Option, Some, None, refl, sym, arith}
use Rattle.std.proofs.lemmas.List.{append-nil}
use Rattle.c_syntax.specs.Statements.{Statement, Cases, ElsePart, BlockItems}
use Rattle.c_syntax.specs.Logic.{ClauseBody, Holds, Annotation}
use Rattle.c_syntax.specs.Logic as logic
use Rattle.c_syntax.specs.Programs.{FunctionContract, TranslationUnit}
use Rattle.annot_simulation.specs.ContractCode.{behind_entry, behind_leave}
use Rattle.annot_simulation.specs.Held.{Held}
use Rattle.c_model.specs.ExpressionTyping.{Sight}
use Rattle.c_model.specs.Memory.{Value}
use Rattle.c_model.specs.State.{State, Scope, same_label, mark}
use Rattle.c_model.specs.TermRanges.{TermRanged}
use Rattle.mon_syntax.specs.declared.tree.MonType.{MonType}
use Rattle.mon_syntax.specs.Meaning.{Done, Next}
use Rattle.mon_syntax.specs.Registers.{Bindings}
use Rattle.c_simulation.specs.Following.{Follows, GoesOn}
use Rattle.c_simulation.specs.SameRegisters.{Stays}
use Rattle.c_simulation.specs.Keeping.{Kept}
use Rattle.c_simulation.specs.Standing.{Target, Did, Setting, runs, Keeps, Here, Standing, Beside}
use Rattle.annot_simulation.specs.Does.{PredicateFound, SideFound, TermFound}
use Rattle.c_model.specs.ContractChecks.{entry_checks, leave_checks}
use Rattle.c_model.specs.Logic.{Environment}
use Rattle.c_model.specs.MonitoredRuns.{Spent}
use Rattle.c_model.specs.State.{EndOfInput}
use Rattle.c_model.specs.TermRanges.{Seen}
use Rattle.mon_syntax.specs.Meaning.{Stops}
use Rattle.mon_syntax.specs.Trees.{MonStatements}
use Rattle.c_simulation.specs.Keeping.{GiveTerms}
use Rattle.c_simulation.proofs.Anchors.{pointer_has}
use Rattle.c_simulation.proofs.Following.{anchored_stays}
use Rattle.c_simulation.proofs.Registers.{same_all}
use Rattle.annot_simulation.specs.Beside.{judging}
use Rattle.annot_simulation.specs.Does as code
use Rattle.annot_simulation.specs.Snapshots.{Ascend, AreKept, Passed, StandsApart, marked}
use Rattle.annot_simulation.proofs.Beside.{ranges_hold}
use Rattle.annot_simulation.proofs.ContractChecked.{checks_grow}
use Rattle.annot_simulation.proofs.Snapshots.{snapshots_keep}
pub use Rattle.annot_simulation.proofs.Snapshots.{snapshot_grows}
use Rattle.annot_simulation.proofs.SoundStores.{bounded_sound}
use Rattle.annot_simulation.specs.Snapshots.{snapshot, behind_snapshot}
use Rattle.interval_infer.specs.InSight.{AreFound}
use Rattle.instrument.proofs.Throughout.{Throughout, ThroughoutCases, ThroughoutElse, ThroughoutItems}

-- ---- what is known of the terms that a function keeps at its labels

-- those of a label keep their ranges, and what they read is found where it is passed, in each scope that is so
abbrev pub KeptAt : List Kept → (Scope → Type 0) → Option ℕ → Type 0
KeptAt [] There l = Unit {0}
KeptAt (k ∷ ks) There l =
    (same_label k.label l ≡ true → TermRanged [] k.term × ((scope : Scope) → There scope → SideFound [] scope [] k.term)) × KeptAt ks There l

-- what an annotation reads is in sight where it stands, and its terms at labels are kept
abbrev pub ClauseFound : List Kept → Scope → ClauseBody → Type 0
ClauseFound ks scope (Holds p) = PredicateFound ks scope [] p
ClauseFound ks scope (logic.Value t) = TermFound ks scope [] t
ClauseFound ks scope _ = ⊥

abbrev pub AnnotationsFound : List Kept → Scope → List Annotation → Type 0
AnnotationsFound ks scope [] = Unit {0}
AnnotationsFound ks scope (a ∷ rest) = ClauseFound ks scope a.body × AnnotationsFound ks scope rest

-- so it is at each label, each assert and each loop's annotations of a statement, where this is in sight
abbrev pub LabelKept : List Kept → ℕ → Sight → Type 0
LabelKept ks l s = KeptAt ks (AreFound s.entities) (Some l)

abbrev pub AssertsKept : List Kept → Sight → List Annotation → Type 0
AssertsKept ks s annots = (scope : Scope) → AreFound s.entities scope → AnnotationsFound ks scope annots

abbrev pub KeptIn : List Kept → Sight → Statement → Type 0
KeptIn ks s a = Throughout (LabelKept ks) (AssertsKept ks) s a

abbrev pub CasesKept : List Kept → Sight → Cases → Type 0
CasesKept ks s cs = ThroughoutCases (LabelKept ks) (AssertsKept ks) s cs

abbrev pub ElseKept : List Kept → Sight → ElsePart → Type 0
ElseKept ks s b = ThroughoutElse (LabelKept ks) (AssertsKept ks) s b

abbrev pub ItemsKept : List Kept → Sight → BlockItems → Type 0
ItemsKept ks s is = ThroughoutItems (LabelKept ks) (AssertsKept ks) s is

-- ---- registers that are taken

-- where it doesn't matter what stands there
abbrev somewhere : TranslationUnit → Bindings → List Kept → List Held → code.Setting
somewhere p bound plan held = record {
  unit = p;
  bound = bound;
  plan = plan;
  low = 0;
  globals = [];
  calls = λ f args s. Stops Spent 0 [];
  turns = 0;
  now = record { store = []; scope = []; marks = []; calls = 0; steps = 0; input = record { bytes = []; tail = EndOfInput }; output = [] };
  names = [];
  held = held;
  seen = [];
  target = record { mem = record { store = []; frames = 0 }; steps = 0; input = record { bytes = []; tail = EndOfInput } };
  regs = [];
}

-- the registers of a contract's checks come behind those before them
pub entry_grows : (p : TranslationUnit) (bound : Bindings) (h : ℕ) (rs : List MonType) (c : FunctionContract) → length rs ≤ length (behind_entry p bound h rs c)
entry_grows p bound h rs c = checks_grow (somewhere p bound [] []) c.behaviors h None rs (entry_checks c)

pub leave_grows : (p : TranslationUnit) (bound : Bindings) (plan : List Kept) (held : List Held) (h : ℕ) (rs : List MonType) (c : FunctionContract) → length rs ≤ length (behind_leave p bound plan held h rs c)
leave_grows p bound plan held h rs c = checks_grow (somewhere p bound plan held) c.behaviors h None rs (leave_checks c)

-- ---- a passage

-- what a passage leaves: the registers of the plan have what the marks then say, and nothing else changes
pub record IsPassed (w : Setting) (low : ℕ) (regs : List Value) (l : Option ℕ) (from : State) (t : Target) (q : Did) : Type 0 where
  pub after : List Value
  pub stays : Stays w.plan_from w.plan_to low regs after
  pub keeps : Keeps w.plan (record { label = l; scope = from.scope; store = from.store } ∷ from.marks) after
  pub is : q ≡ Done (Next after) t []

-- what is known of the terms of a label in a state
are_kept : (ks : List Kept) (v : code.Setting) (There : Scope → Type 0) (l : Option ℕ) → There v.now.scope → KeptAt ks There l → AreKept v l ks
are_kept [] v There l found h = tt
are_kept (k ∷ ks) v There l found h = (λ e. let g = h.0 e in (g.0, g.1 v.now.scope found), are_kept ks v There l found h.1)

-- names in sight stand where they stood, whatever the registers of the plan hold
pub stands_apart : (w : Setting) (n : ℕ) (h : Here) (low : ℕ) (bound : Bindings) (names : Environment) (held : List Held) (seen : Seen) (regs : List Value) (from : State) (t : Target) → Standing w h low bound regs from → Beside w from.store from t
    → StandsApart w.plan_from w.plan_to (judging w n low bound names held seen from t regs)
stands_apart w n h low bound names held seen regs from t st b = record {
  store_is = b.store_is;
  sound = bounded_sound from.store st.bounded;
  points = λ x number found later same. pointer_has w low low bound later later t.mem from.scope x number (omega arith) (same_all low later) (anchored_stays w low bound regs later from.scope same st.anchored) found;
}

module _ (w : Setting) (n : ℕ) (ordered : Ascend w.plan_from w.plan w.plan_to) (h : Here) (There : Scope → Type 0) (low : ℕ) (bound : Bindings) (l : Option ℕ) (kept : KeptAt w.plan There l) (rs : List MonType) (behind : low ≤ length rs)
    (room : length (behind_snapshot w.unit bound l rs w.plan) ≤ w.registers) (regs : List Value) (from : State) (t : Target) (few : from.steps ≤ n) (found : There from.scope) (st : Standing w h low bound regs from)
    (b : Beside w from.store from t) where
  abbrev here : code.Setting
  here = judging w n low bound [] [] [] from t regs

  abbrev code_here : MonStatements
  code_here = snapshot w.unit bound l rs w.plan

  did : Passed here w.plan_to w.plan_from code_here rs regs (GiveTerms w.plan (marked l from ∷ from.marks))
  did =
      snapshots_keep here w.plan_from w.plan_to (stands_apart w n h low bound [] [] [] regs from t st b) (ranges_hold from st.bounded st.kept.keeps.past) (omega (arith, b.steps, few)) l w.plan
      (are_kept w.plan here There l found kept) ordered from.marks rs behind
      (omega (arith, st.kept.below, behind)) (omega (arith, room, st.registers)) st.kept.keeps.terms

  pub label_passes : IsPassed w low regs l from t (runs w n t code_here regs)
  label_passes = record {
    after = did.after;
    stays = record { long = did.stays.long; kept = λ j lt apart. did.stays.kept j (omega (arith, lt, behind)) apart };
    keeps = record { terms = did.keeps; past = (st.bounded, st.kept.keeps.past) };
    is = did.is;
  }

  pub passage_follows : Follows w h low regs Next from (mark l from) (runs w n t code_here regs)
  passage_follows =
      let p = label_passes in
      GoesOn (record from { marks = record { label = l; scope = from.scope; store = from.store } ∷ from.marks }) p.after t [] p.stays p.keeps
      (record { scope = refl; calls = refl; live = refl; longer = omega arith; bounded = st.bounded; spent = omega arith; output = sym (append-nil from.output); marks = refl })
      (record { store_is = b.store_is; frames = b.frames; steps = b.steps; input = b.input }) refl p.is
