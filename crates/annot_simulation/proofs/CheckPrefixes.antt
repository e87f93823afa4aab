-- Registers of the code of labels and checks are added behind those that are taken before it.
use Rattle.std.proofs.Common.{ℕ, ◌≤◌, length, arith, Bool, true, false, cond, List, [], ◌∷◌, Option, Some, None}
use Rattle.c_syntax.specs.declared.place.Place.{Place}
use Rattle.c_syntax.specs.Logic as logic
use Rattle.c_syntax.specs.Logic.{Annotation, ClauseBody, Raw, Holds, Behaviors}
use Rattle.c_syntax.specs.Programs.{NamedBehavior, TranslationUnit}
use Rattle.c_model.specs.ContractChecks.{Check, is_assumes}
use Rattle.c_model.specs.State.{same_label}
use Rattle.mon_syntax.specs.declared.tree.MonType.TheVariants.{I32, I128}
use Rattle.mon_syntax.specs.Registers.{Bindings}
use Rattle.mon_syntax.specs.Valid.{Types}
use Rattle.c_simulation.specs.Keeping.{Kept, is_pointer_term}
use Rattle.annot_simulation.specs.Code.{side_by, behind_assertion, pointer_code, term_code}
use Rattle.annot_simulation.specs.ContractCode.{behind_check, behind_checks, behind_cover, behind_demand, counted_by}
use Rattle.annot_simulation.specs.Held.{Held}
use Rattle.annot_simulation.specs.Snapshots.{behind_keep, behind_snapshot, entry_side}
use Rattle.annot_simulation.specs.Validity.{Begins}
use Rattle.annot_simulation.proofs.Asserted.{assertion_begins, assertion_grows}
use Rattle.annot_simulation.proofs.Grows.{longer}
use Rattle.annot_simulation.proofs.Prefixes.{pointer_begins, term_begins}
use Rattle.annot_simulation.proofs.Typed.{begins_front}

module _ (ts : Types) (p : TranslationUnit) (bound : Bindings) (l : Option ℕ) where
  keep_begins : (k : Kept) (rs : Types) → Begins (behind_keep (entry_side p bound rs k)) ts → Begins rs ts
  keep_begins k rs b = by (is_pointer_term k.term) b
    where
      by : (s : Bool) → Begins (behind_keep (side_by s (pointer_code p bound [] k.term [] [] rs) (term_code p bound [] k.term [] [] rs))) ts → Begins rs ts
      by true b = pointer_begins ts p bound [] k.term [] [] rs (begins_front (pointer_code p bound [] k.term [] [] rs).used (I128 ∷ []) ts b)
      by false b = term_begins ts p bound [] k.term [] [] rs b

  pub snapshot_begins : (ks : List Kept) (rs : Types) → Begins (behind_snapshot p bound l rs ks) ts → Begins rs ts
  snapshot_begins [] rs b = b
  snapshot_begins (k ∷ ks) rs b = by (same_label k.label l) b (λ b. keep_begins k rs (snapshot_begins ks (behind_keep (entry_side p bound rs k)) b)) (λ b. snapshot_begins ks rs b)
    where
      by : (t : Bool) → Begins (cond t (behind_snapshot p bound l (behind_keep (entry_side p bound rs k)) ks) (behind_snapshot p bound l rs ks)) ts
          → (Begins (behind_snapshot p bound l (behind_keep (entry_side p bound rs k)) ks) ts → Begins rs ts) → (Begins (behind_snapshot p bound l rs ks) ts → Begins rs ts) → Begins rs ts
      by true b f h = f b
      by false b f h = h b

module _ (ts : Types) (p : TranslationUnit) (bound : Bindings) (plan : List Kept) (held : List Held) (bs : List NamedBehavior) (h : ℕ) where
  cover_begins : (names : List (Place × ℕ)) (o : Option ℕ) (rs : Types) → Begins (behind_cover p bound plan held bs h names o rs) ts → Begins rs ts
  cover_begins [] None rs b = begins_front rs (I32 ∷ []) ts b
  cover_begins [] (Some c) rs b = b
  cover_begins (n ∷ names) o rs b = begins_front rs (I32 ∷ []) ts b

  demand_begins : (a : Annotation) (c : ClauseBody) (o : Option ℕ) (rs : Types) → Begins (behind_demand p bound plan held bs h o rs a c) ts → Begins rs ts
  demand_begins a (Raw f) o rs b = assertion_begins ts p bound plan held rs a b
  demand_begins a (Holds q) o rs b = assertion_begins ts p bound plan held rs a b
  demand_begins a (logic.Value t) o rs b = assertion_begins ts p bound plan held rs a b
  demand_begins a (Behaviors names) o rs b = cover_begins names o rs b

  check_begins : (a : Annotation) (k : Option ℕ) (o : Option ℕ) (rs : Types) → Begins (behind_check p bound plan held bs h o rs a k) ts → Begins rs ts
  check_begins a None o rs b = demand_begins a a.body o rs b
  check_begins a (Some k) o rs b = by (is_assumes a.kind) b
    where
      by : (t : Bool) → Begins (cond t (behind_assertion p bound plan held rs a) (behind_demand p bound plan held bs h o rs a a.body)) ts → Begins rs ts
      by true b = assertion_begins ts p bound plan held rs a b
      by false b = demand_begins a a.body o rs b

  pub checks_begin : (cs : List Check) (o : Option ℕ) (rs : Types) → Begins (behind_checks p bound plan held bs h o rs cs) ts → Begins rs ts
  checks_begin [] o rs b = b
  checks_begin (c ∷ cs) o rs b =
      check_begins c.annotation c.behavior o rs
      (checks_begin cs (counted_by p bound plan held bs h o rs c.annotation c.behavior) (behind_check p bound plan held bs h o rs c.annotation c.behavior) b)

-- ---- how many registers there are then

module _ (p : TranslationUnit) (bound : Bindings) (plan : List Kept) (held : List Held) (bs : List NamedBehavior) (h : ℕ) where
  cover_more : (names : List (Place × ℕ)) (o : Option ℕ) (rs : Types) → length rs ≤ length (behind_cover p bound plan held bs h names o rs)
  cover_more [] None rs = longer rs (I32 ∷ [])
  cover_more [] (Some c) rs = omega arith
  cover_more (n ∷ names) o rs = longer rs (I32 ∷ [])

  demand_more : (a : Annotation) (c : ClauseBody) (o : Option ℕ) (rs : Types) → length rs ≤ length (behind_demand p bound plan held bs h o rs a c)
  demand_more a (Raw f) o rs = assertion_grows p bound plan held rs a
  demand_more a (Holds q) o rs = assertion_grows p bound plan held rs a
  demand_more a (logic.Value t) o rs = assertion_grows p bound plan held rs a
  demand_more a (Behaviors names) o rs = cover_more names o rs

  pub check_more : (a : Annotation) (k : Option ℕ) (o : Option ℕ) (rs : Types) → length rs ≤ length (behind_check p bound plan held bs h o rs a k)
  check_more a None o rs = demand_more a a.body o rs
  check_more a (Some k) o rs = by (is_assumes a.kind)
    where
      by : (t : Bool) → length rs ≤ length (cond t (behind_assertion p bound plan held rs a) (behind_demand p bound plan held bs h o rs a a.body))
      by true = assertion_grows p bound plan held rs a
      by false = demand_more a a.body o rs
