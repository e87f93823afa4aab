-- The code at a passage of a label, and that of the checks of a contract, is valid monitored C: its types, how deep it stands, and that control stays in it.
use Rattle.std.specs.Prelude.{◌≡◌, ℕ, ◌<◌, ◌≤◌, true, List, [], ◌∷◌, length, Option, Some, None, slice_get}
use Rattle.c_syntax.specs.Logic as logic
use Rattle.c_syntax.specs.Logic.{ClauseBody, Raw, Holds, Behaviors, Predicate}
use Rattle.c_syntax.specs.Programs.{NamedBehavior, TranslationUnit}
use Rattle.c_model.specs.ContractChecks.{Check, is_assumes}
use Rattle.c_model.specs.Formed.{tokens_of_predicate, tokens_of_term}
use Rattle.c_model.specs.State.{same_label}
use Rattle.c_model.specs.TermRanges.{Seen, PredicateRanged, TermRanged}
use Rattle.mon_syntax.specs.declared.tree.MonType.{MonType}
use Rattle.mon_syntax.specs.declared.tree.MonType.TheVariants.{I32}
use Rattle.mon_syntax.specs.Registers.{Bindings}
use Rattle.mon_syntax.specs.Trees.{MonStatements}
use Rattle.mon_syntax.specs.Valid.{AreStatements, Labels, Signature, Types, depth_of_all, has_no_step}
use Rattle.c_simulation.specs.Keeping.{Kept, is_pointer_term}
use Rattle.quantifier_loops.specs.Laws.{IsNumber}
use Rattle.annot_simulation.specs.ContractCode.{behind_checks, checks_code, flags_from}
use Rattle.annot_simulation.specs.ContractDoes.{AreNamed}
use Rattle.annot_simulation.specs.Does.{found_by}
use Rattle.annot_simulation.specs.Held.{Held, sorts_held}
use Rattle.annot_simulation.specs.Inside.{StayInside, open_in_all}
use Rattle.annot_simulation.specs.Numbered.{IsNumbered}
use Rattle.annot_simulation.specs.Plan.{value_types}
use Rattle.annot_simulation.specs.Snapshots.{behind_snapshot, snapshot}
use Rattle.annot_simulation.specs.Validity.{AreOutside, Begins, HeldTyped, PointerWritable, PredicateWritable, StandIn, TermWritable, most_deep, most_open}

-- among functions of these signatures, in a function of the result with registers of these types, inside bodies of these labels
pub record AreValid (globals : ℕ) (gs : List Signature) (ts : Types) (result : Option MonType) (ls : Labels) (a : MonStatements) : Type 0 where
  pub statements : AreStatements globals gs ts result ls a
  pub deep : depth_of_all a ≤ most_deep
  pub parens : open_in_all a ≤ most_open
  pub stay : StayInside [] a
  pub no_step : has_no_step a ≡ true

-- ---- a passage of a label

-- the terms that are kept there can be written, and their registers have the types of a flag and a value
abbrev pub AreKeepable : TranslationUnit → Bindings → ℕ → Types → Option ℕ → List Kept → Type 0
AreKeepable p bound globals ts l [] = Unit {0}
AreKeepable p bound globals ts l (k ∷ ks) =
    (same_label k.label l ≡ true → TermRanged [] k.term
    × found_by (is_pointer_term k.term) (PointerWritable p bound [] globals ts [] k.term) (TermWritable p bound [] globals ts [] k.term)
    × (tokens_of_term k.term ≤ 400) × StandIn ts k.register (I32 ∷ value_types (is_pointer_term k.term) k.term))
    × AreKeepable p bound globals ts l ks

abbrev pub SnapshotsAreValid : Type 0
SnapshotsAreValid =
    (p : TranslationUnit) (bound : Bindings) (globals : ℕ) (gs : List Signature) (ts : Types) (result : Option MonType) (ls : Labels) (l : Option ℕ)
    (ks : List Kept) (rs : List MonType) → AreKeepable p bound globals ts l ks → IsNumber (length ts) → AreOutside ls (length rs)
    → Begins (behind_snapshot p bound l rs ks) ts
    → AreValid globals gs ts result ls (snapshot p bound l rs ks)

-- ---- checks

module _ (p : TranslationUnit) (bound : Bindings) (plan : List Kept) (held : List Held) (seen : Seen) (globals : ℕ) (ts : Types) (bs : List NamedBehavior) where
  -- a clause that is typed, ranged and short, or names behaviors there are
  abbrev pub ClauseWritable : ClauseBody → Type 0
  ClauseWritable (Raw f) = ⊥
  ClauseWritable (Holds q) = PredicateRanged seen q × PredicateWritable p bound plan globals ts (sorts_held held) q × (tokens_of_predicate q ≤ 400)
  ClauseWritable (logic.Value t) = ⊥
  ClauseWritable (Behaviors names) = AreNamed bs names

  abbrev pub AreCheckable : ℕ → List Check → Type 0
  AreCheckable count [] = Unit {0}
  AreCheckable count (c ∷ cs) =
      IsNumbered c.annotation × ClauseWritable c.annotation.body × ((k : ℕ) → c.behavior ≡ Some k → k < count)
      × (is_assumes c.annotation.kind ≡ true → (q : Predicate) × (c.annotation.body ≡ Holds q)) × AreCheckable count cs

-- flags of behaviors, from a register on
abbrev pub AreFlags : Types → List ℕ → Type 0
AreFlags ts [] = Unit {0}
AreFlags ts (f ∷ fs) = (slice_get ts f ≡ Some I32) × AreFlags ts fs

abbrev pub ChecksAreValid : Type 0
ChecksAreValid =
    (p : TranslationUnit) (bound : Bindings) (plan : List Kept) (held : List Held) (seen : Seen) (globals : ℕ) (gs : List Signature) (ts : Types)
    (result : Option MonType) (ls : Labels) (bs : List NamedBehavior) (h : ℕ) (cs : List Check) (rs : List MonType)
    → AreCheckable p bound plan held seen globals ts bs (length bs) cs → IsNumber (length ts) → HeldTyped ts held → AreOutside ls (length rs)
    → AreFlags ts (flags_from h bs)
    → Begins (behind_checks p bound plan held bs h None rs cs) ts → AreValid globals gs ts result ls (checks_code p bound plan held bs h None rs cs)
