-- The code at a passage of a label, and that of the checks of a contract, is valid, and control stays in it.
use Rattle.std.proofs.Common.{◌≡◌, ℕ, zero, suc, ◌+◌, ◌<◌, ◌≤◌, pos, Bool, true, false, cond, nat_eq, map, List, [], ◌∷◌, length, Option, Some, None, slice_get, refl, sym, subst, arith}
use Rattle.std.proofs.Math.Nat.{max-le}
use Rattle.c_syntax.specs.declared.annotation.Kind.{Kind}
use Rattle.c_syntax.specs.declared.annotation.Kind.TheVariants.{Assert as AssertKind, Requires, Assumes, Ensures, Complete, Disjoint, Invariant, Variant, Rte}
use Rattle.c_syntax.specs.declared.place.Place.{Place}
use Rattle.c_syntax.specs.declared.types.Width.TheVariants.{W32}
use Rattle.c_syntax.specs.Logic as logic
use Rattle.c_syntax.specs.Logic.{Annotation, ClauseBody, Raw, Holds, Behaviors, LogicTerm, Predicate}
use Rattle.c_syntax.specs.Programs.{NamedBehavior, TranslationUnit}
use Rattle.c_model.specs.ContractChecks.{Check, is_assumes}
use Rattle.c_model.specs.Formed.{tokens_of_term}
use Rattle.c_model.specs.State.{same_label}
use Rattle.c_model.specs.TermRanges.{Seen, TermRanged}
use Rattle.mon_syntax.specs.declared.tree.MonOp.TheVariants as mon
use Rattle.mon_syntax.specs.declared.tree.MonType.{MonType}
use Rattle.mon_syntax.specs.declared.tree.MonType.TheVariants.{I32, I128, Ptr}
use Rattle.mon_syntax.specs.Registers.{Bindings}
use Rattle.mon_syntax.specs.Trees.{MonExpression, Register, Constant, Binary, Assert, Set, MonStatements, NoStatement, Then}
use Rattle.mon_syntax.specs.Valid.{AreStatements, HasType, Labels, Signature, Types, depth_of_all, open_parens}
use Rattle.c_effects.specs.Expressions.{before, one, set}
use Rattle.c_simulation.specs.Keeping.{Kept, is_pointer_term}
use Rattle.annot_simulation.specs.Code.{Judgement, side_by, asserted, behind_assertion, clause_judgement, judgement, pointer_code, pred_code, term_code}
use Rattle.annot_simulation.specs.ContractCode.{assumption_code, behavior_code, behind_check, behind_checks, behind_cover, behind_demand, check_code, checks_code, count, counted_by, counted_by_cover, counted_by_demand, cover_asked}
use Rattle.annot_simulation.specs.ContractCode.{cover_code, cover_truth}
use Rattle.annot_simulation.specs.ContractCode.{demand_code, flag_named, flags_from, named_flags, summed, where_flagged}
use Rattle.annot_simulation.specs.ContractDoes.{AreNamed, IsNamed}
use Rattle.annot_simulation.specs.ContractValidity.{AreCheckable, AreFlags, AreKeepable, AreValid, ChecksAreValid, ClauseWritable, SnapshotsAreValid}
use Rattle.annot_simulation.specs.Does.{found_by}
use Rattle.annot_simulation.specs.Held.{Held}
use Rattle.annot_simulation.specs.Inside.{open_in_all}
use Rattle.annot_simulation.specs.Numbered.{IsNumbered}
use Rattle.annot_simulation.specs.Pieces.{Code, guarded, type_of}
use Rattle.annot_simulation.specs.Plan.{value_types}
use Rattle.annot_simulation.specs.Pointers.{PointerCode}
use Rattle.annot_simulation.specs.Snapshots.{behind_keep, behind_snapshot, entry_side, keep, keep_none, keep_number, keep_pointer, snapshot}
use Rattle.quantifier_loops.specs.Laws.{IsNumber}
use Rattle.annot_simulation.specs.Validity.{AreOutside, Begins, HeldTyped, PointerWritable, StandIn, TermWritable}
use Rattle.annot_simulation.proofs.Asserted.{judged_deep}
use Rattle.annot_simulation.proofs.Depths.{deep_before, deep_guarded, deep_if, pointer_deep, pred_deep}
use Rattle.annot_simulation.proofs.Inside.{Inside, before_inside, guarded_inside, judgement_inside, nothing_inside, pointer_inside, term_inside}
use Rattle.annot_simulation.proofs.Opens.{open_before, open_guarded, open_if, open_one}
use Rattle.annot_simulation.proofs.CheckPrefixes.{check_more, checks_begin, snapshot_begins}
use Rattle.annot_simulation.proofs.Snapshots.{entry_grows}
use Rattle.annot_simulation.proofs.ValidBinders.{outside_more}
use Rattle.annot_simulation.proofs.Typed.{arithmetic_typed, begins_front, relation_typed, type_at}
use Rattle.annot_simulation.proofs.ValidCode.{code_is_valid, pointer_valid, term_valid}
use Rattle.annot_simulation.proofs.ValidTerms.{anywhere}
use Rattle.annot_simulation.proofs.ValidParts.{FlagValid, Valid, before_valid, expression, flag_open, guarded_valid, register_valid, set_valid}
use Rattle.annot_simulation.proofs.ValidPointers.{PointerValid}

module _ (g : ℕ) (gs : List Signature) (ts : Types) (result : Option MonType) (ls : Labels) where
  abbrev Stmts : MonStatements → Type 0
  Stmts a = AreStatements g gs ts result ls a

  -- valid, and so deep at most
  record Fine (n : ℕ) (a : MonStatements) : Type 0 where
    statements : Stmts a
    deep : depth_of_all a ≤ n
    parens : open_in_all a ≤ 1300
    inside : Inside a

  none_fine : (n : ℕ) → Fine n NoStatement
  none_fine n = record { statements = tt; deep = omega arith; parens = omega arith; inside = nothing_inside }

  before_fine : (n : ℕ) (a b : MonStatements) → Fine n a → Fine n b → Fine n (before a b)
  before_fine n a b x y = record {
    statements = before_valid g gs ts result ls a b x.statements y.statements;
    deep = deep_before a b n x.deep y.deep;
    parens = open_before a b 1300 x.parens y.parens;
    inside = before_inside a b x.inside y.inside;
  }

  more_fine : (m n : ℕ) (a : MonStatements) → m ≤ n → Fine m a → Fine n a
  more_fine m n a le x = record { statements = x.statements; deep = omega (arith, le, x.deep); parens = x.parens; inside = x.inside }

  set_fine : (n : ℕ) (r : ℕ) (e : MonExpression) (t : MonType) → 1 ≤ n → slice_get ts r ≡ Some t → HasType g ts e t → open_parens e ≤ 1300 → Fine n (set r e)
  set_fine n r e t some at h few = record {
    statements = set_valid g gs ts result ls r e t at (expression g gs ts result ls e t 1300 h few (omega arith));
    deep = omega (arith, some);
    parens = open_one e r 1300 few;
    inside = ((tt, tt), refl);
  }

  guarded_fine : (n : ℕ) (f : Option MonExpression) (a b : MonStatements) (m : ℕ) → m ≤ 1300 → FlagValid g gs ts result ls f m → Fine n a → Fine n b → Fine (suc n) (guarded f a b)
  guarded_fine n f a b m few h x y = record {
    statements = guarded_valid g gs ts result ls f a b m (omega (arith, few)) h x.statements y.statements;
    deep = deep_guarded f a b n x.deep y.deep;
    parens = open_guarded f a b 1300 (let l = flag_open g gs ts result ls f m h in omega (arith, l, few)) x.parens y.parens;
    inside = guarded_inside f a b x.inside y.inside;
  }

  -- ---- a term that is kept

  number_fine : (c : Code) (t : MonType) (n r : ℕ) → n ≤ 400 → Valid g gs ts result ls c t n 2 → Inside c.stmts → slice_get ts r ≡ Some I32 → slice_get ts (suc r) ≡ Some t → Fine 802 (keep_number c r)
  number_fine c t n r few v inside at at2 =
      let on = Then (Set (suc r) c.value) (set r (Constant I32 (pos 1))) in
      before_fine 802 c.stmts (guarded c.flag on (keep_none r)) (record { statements = v.statements; deep = omega (arith, v.deep, few); parens = omega (arith, v.opened, few); inside = inside })
      (guarded_fine 801 c.flag on (keep_none r) n (omega (arith, few)) v.flag
      (before_fine 801 (set (suc r) c.value) (set r (Constant I32 (pos 1))) (set_fine 801 (suc r) c.value t (omega arith) at2 v.typed (omega (arith, v.parens, few)))
      (set_fine 801 r (Constant I32 (pos 1)) I32 (omega arith) at (refl, refl) (omega arith)))
      (set_fine 801 r (Constant I32 (pos 0)) I32 (omega arith) at (refl, refl) (omega arith)))

  pointer_fine : (c : PointerCode) (n r : ℕ) → n ≤ 400 → PointerValid g gs ts result ls c n → depth_of_all c.stmts ≤ n + n → Inside c.stmts → slice_get ts r ≡ Some I32 → slice_get ts (suc r) ≡ Some Ptr → slice_get ts (suc (suc r)) ≡ Some I128
      → slice_get ts (length c.used) ≡ Some I128 → Fine 802 (keep_pointer c r)
  pointer_fine c n r few v deep inside at at2 at3 at4 =
      let q = length c.used in
      let flagged = set r (Constant I32 (pos 1)) in
      let second = set (suc (suc r)) (Register q) in
      let first = set (suc r) c.base in
      let on = Then (Set q c.offset) (Then (Set (suc r) c.base) (Then (Set (suc (suc r)) (Register q)) (set r (Constant I32 (pos 1))))) in
      before_fine 802 c.stmts (guarded c.flag on (keep_none r)) (record { statements = v.statements; deep = omega (arith, deep, few); parens = omega (arith, v.opened, few); inside = inside })
      (guarded_fine 801 c.flag on (keep_none r) n (omega (arith, few)) v.flag
      (before_fine 801 (set q c.offset) (Then (Set (suc r) c.base) (Then (Set (suc (suc r)) (Register q)) (set r (Constant I32 (pos 1)))))
      (set_fine 801 q c.offset I128 (omega arith) at4 v.offset (omega (arith, v.offset_parens, few)))
      (before_fine 801 (set (suc r) c.base) (Then (Set (suc (suc r)) (Register q)) (set r (Constant I32 (pos 1)))) (set_fine 801 (suc r) c.base Ptr (omega arith) at2 v.base (omega (arith, v.base_parens)))
      (before_fine 801 (set (suc (suc r)) (Register q)) (set r (Constant I32 (pos 1))) (set_fine 801 (suc (suc r)) (Register q) I128 (omega arith) at3 at4 (omega arith))
      (set_fine 801 r (Constant I32 (pos 1)) I32 (omega arith) at (refl, refl) (omega arith)))))
      (set_fine 801 r (Constant I32 (pos 0)) I32 (omega arith) at (refl, refl) (omega arith)))

  none_held : HeldTyped ts []
  none_held x h e = absurd cc

  module _ (p : TranslationUnit) (bound : Bindings) (l : Option ℕ) (counted : IsNumber (length ts)) where
    keep_fine : (k : Kept) (rs : Types) → AreOutside ls (length rs) → TermRanged [] k.term → found_by (is_pointer_term k.term) (PointerWritable p bound [] g ts [] k.term) (TermWritable p bound [] g ts [] k.term) → tokens_of_term k.term ≤ 400
        → StandIn ts k.register (I32 ∷ value_types (is_pointer_term k.term) k.term) → Begins (behind_keep (entry_side p bound rs k)) ts → Fine 802 (keep (entry_side p bound rs k) k.register)
    keep_fine k rs out ranged writable few typed b = by (is_pointer_term k.term) writable typed b
      where
        by : (s : Bool) → found_by s (PointerWritable p bound [] g ts [] k.term) (TermWritable p bound [] g ts [] k.term) → StandIn ts k.register (I32 ∷ value_types s k.term)
            → Begins (behind_keep (side_by s (pointer_code p bound [] k.term [] [] rs) (term_code p bound [] k.term [] [] rs))) ts
            → Fine 802 (keep (side_by s (pointer_code p bound [] k.term [] [] rs) (term_code p bound [] k.term [] [] rs)) k.register)
        by true w typed b =
            let c = pointer_code p bound [] k.term [] [] rs in
            pointer_fine c (tokens_of_term k.term) k.register few (pointer_valid p bound [] g gs ts result counted [] [] ls none_held k.term ranged w [] rs out few (begins_front c.used (I128 ∷ []) ts b)) (pointer_deep p bound [] k.term [] [] rs)
            (pointer_inside p bound [] k.term [] [] rs) typed.0 typed.1.0 typed.1.1.0 (type_at c.used ts I128 b)
        by false w typed b =
            let c = term_code p bound [] k.term [] [] rs in
            number_fine c (type_of k.term) (tokens_of_term k.term) k.register few (anywhere p bound [] [] [] g gs ts result ls k.term c (term_valid p bound [] g gs ts result counted [] [] ls none_held k.term ranged w [] rs out few b))
            (term_inside p bound [] k.term [] [] rs) typed.0 typed.1.0

    snapshot_fine : (ks : List Kept) (rs : Types) → AreOutside ls (length rs) → AreKeepable p bound g ts l ks → Begins (behind_snapshot p bound l rs ks) ts → Fine 802 (snapshot p bound l rs ks)
    snapshot_fine [] rs out h b = none_fine 802
    snapshot_fine (k ∷ ks) rs out h b = by (same_label k.label l) h.0 b (λ b. snapshot_fine ks (behind_keep (entry_side p bound rs k)) (outside_more ls (length rs) (length (behind_keep (entry_side p bound rs k))) (entry_grows p bound k rs) out) h.1
        b) (λ b. snapshot_fine ks rs out h.1 b)
      where
        by : (t : Bool)
            → (t ≡ true → TermRanged [] k.term × found_by (is_pointer_term k.term) (PointerWritable p bound [] g ts [] k.term) (TermWritable p bound [] g ts [] k.term) × (tokens_of_term k.term ≤ 400) × StandIn ts k.register
            (I32 ∷ value_types (is_pointer_term k.term) k.term))
            → Begins (cond t (behind_snapshot p bound l (behind_keep (entry_side p bound rs k)) ks) (behind_snapshot p bound l rs ks)) ts
            → (Begins (behind_snapshot p bound l (behind_keep (entry_side p bound rs k)) ks) ts → Fine 802 (snapshot p bound l (behind_keep (entry_side p bound rs k)) ks))
            → (Begins (behind_snapshot p bound l rs ks) ts → Fine 802 (snapshot p bound l rs ks))
            → Fine 802 (cond t (before (keep (entry_side p bound rs k) k.register) (snapshot p bound l (behind_keep (entry_side p bound rs k)) ks)) (snapshot p bound l rs ks))
        by true h b f g2 =
            let x = h refl in
            before_fine 802 (keep (entry_side p bound rs k) k.register) (snapshot p bound l (behind_keep (entry_side p bound rs k)) ks)
            (keep_fine k rs out x.0 x.1 x.2 x.3 (snapshot_begins ts p bound l ks (behind_keep (entry_side p bound rs k)) b)) (f b)
        by false h b f g2 = g2 b

  -- ---- checks

  assert_fine : (n : ℕ) (a : Annotation) (d v : MonExpression) → 1 ≤ n → IsNumbered a → HasType g ts d I32 → open_parens d ≤ 1300 → HasType g ts v I32 → open_parens v ≤ 1300 → Fine n (one (Assert d v a.number a.place.line a.kind))
  assert_fine n a d v some k hd pd hv pv = record {
    statements = ((expression g gs ts result ls d I32 1300 hd pd (omega arith), expression g gs ts result ls v I32 1300 hv pv (omega arith), k.number, k.line), tt);
    deep = omega (arith, some);
    parens = max-le (max-le pd pv) (omega arith);
    inside = ((tt, tt), refl);
  }

  if_fine : (n r : ℕ) (a : MonStatements) → slice_get ts r ≡ Some I32 → Fine n a → Fine (suc n) (where_flagged r a)
  if_fine n r a at x = record {
    statements = ((register_valid g gs ts result ls r I32 at, x.statements, tt), tt);
    deep = deep_if (Register r) a NoStatement n x.deep (omega arith);
    parens = open_if (Register r) a NoStatement 1300 (omega arith) x.parens (omega arith);
    inside = (((x.inside.0, tt), tt), refl);
  }

  -- a sum of flags
  summed_fine : (c : ℕ) (fs : List ℕ) → slice_get ts c ≡ Some I32 → AreFlags ts fs → Fine 803 (summed c fs)
  summed_fine c [] at h = none_fine 803
  summed_fine c (f ∷ fs) at h =
      before_fine 803 (set c (Binary mon.Add I32 (Register c) (Register f))) (summed c fs)
      (set_fine 803 c (Binary mon.Add I32 (Register c) (Register f)) I32 (omega arith) at (arithmetic_typed g ts mon.Add W32 (Register c) (Register f) refl at h.0) (omega arith)) (summed_fine c fs at h.1)

  count_fine : (c : ℕ) (fs : List ℕ) → slice_get ts c ≡ Some I32 → AreFlags ts fs → Fine 803 (count c fs)
  count_fine c fs at h = before_fine 803 (set c (Constant I32 (pos 0))) (summed c fs) (set_fine 803 c (Constant I32 (pos 0)) I32 (omega arith) at (refl, refl) (omega arith)) (summed_fine c fs at h)

  least_typed : (c : ℕ) → slice_get ts c ≡ Some I32 → HasType g ts (Binary mon.Lt I32 (Constant I32 (pos 0)) (Register c)) I32
  least_typed c at = relation_typed g ts mon.Lt W32 (Constant I32 (pos 0)) (Register c) refl (refl, refl) at

  truth_typed : (k : Kind) (c : ℕ) → slice_get ts c ≡ Some I32 → HasType g ts (cover_truth k c) I32
  truth_typed Disjoint c at = relation_typed g ts mon.Le W32 (Register c) (Constant I32 (pos 1)) refl at (refl, refl)
  truth_typed AssertKind c at = least_typed c at
  truth_typed Requires c at = least_typed c at
  truth_typed Assumes c at = least_typed c at
  truth_typed Ensures c at = least_typed c at
  truth_typed Complete c at = least_typed c at
  truth_typed Invariant c at = least_typed c at
  truth_typed Variant c at = least_typed c at
  truth_typed Rte c at = least_typed c at

  truth_parens : (k : Kind) (c : ℕ) → open_parens (cover_truth k c) ≤ 1300
  truth_parens Disjoint c = omega arith
  truth_parens AssertKind c = omega arith
  truth_parens Requires c = omega arith
  truth_parens Assumes c = omega arith
  truth_parens Ensures c = omega arith
  truth_parens Complete c = omega arith
  truth_parens Invariant c = omega arith
  truth_parens Variant c = omega arith
  truth_parens Rte c = omega arith

  asked_fine : (a : Annotation) (c : ℕ) → IsNumbered a → slice_get ts c ≡ Some I32 → Fine 803 (cover_asked a c)
  asked_fine a c k at = assert_fine 803 a (Constant I32 (pos 1)) (cover_truth a.kind c) (omega arith) k (refl, refl) (omega arith) (truth_typed a.kind c at) (truth_parens a.kind c)

  -- the flag of a behavior
  flag_typed : (x h : ℕ) (bs : List NamedBehavior) → IsNamed bs x → AreFlags ts (flags_from h bs) → slice_get ts (flag_named x h bs) ≡ Some I32
  flag_typed x h [] i f = absurd i
  flag_typed x h (b ∷ bs) i f = by (nat_eq x b.name) i (λ i. flag_typed x (suc h) bs i f.1)
    where
      by : (t : Bool) → cond t (Unit {0}) (IsNamed bs x) → (IsNamed bs x → slice_get ts (flag_named x (suc h) bs) ≡ Some I32) → slice_get ts (cond t h (flag_named x (suc h) bs)) ≡ Some I32
      by true i go = f.0
      by false i go = go i

  flags_typed : (names : List (Place × ℕ)) (h : ℕ) (bs : List NamedBehavior) → AreNamed bs names → AreFlags ts (flags_from h bs) → AreFlags ts (map (λ (n : Place × ℕ). flag_named n.1 h bs) names)
  flags_typed [] h bs i f = tt
  flags_typed (n ∷ names) h bs i f = (flag_typed n.1 h bs i.0 f, flags_typed names h bs i.1 f)

  flag_at : (h k : ℕ) (bs : List NamedBehavior) → k < length bs → AreFlags ts (flags_from h bs) → slice_get ts (h + k) ≡ Some I32
  flag_at h k [] lt f = absurd (omega arith)
  flag_at h zero (b ∷ bs) lt f = subst (λ j. slice_get ts j ≡ Some I32) (omega arith) f.0
  flag_at h (suc k) (b ∷ bs) lt f = subst (λ j. slice_get ts j ≡ Some I32) (omega arith) (flag_at (suc h) k bs (omega arith) f.1)

  abbrev CountedTyped : Option ℕ → Type 0
  CountedTyped None = Unit {0}
  CountedTyped (Some c) = slice_get ts c ≡ Some I32

  module _ (p : TranslationUnit) (bound : Bindings) (plan : List Kept) (held : List Held) (seen : Seen) (bs : List NamedBehavior) (h : ℕ) (flags : AreFlags ts (flags_from h bs)) (counted : IsNumber (length ts)) (typed : HeldTyped ts held) where
    abbrev Writable : ClauseBody → Type 0
    Writable c = ClauseWritable p bound plan held seen g ts bs c

    -- a predicate is judged
    record JudgedFine (j : Judgement) : Type 0 where
      fine : Fine 803 j.stmts
      flag : slice_get ts j.flag ≡ Some I32
      truth : slice_get ts j.truth ≡ Some I32

    judged_fine : (q : Predicate) (rs : Types) → AreOutside ls (length rs) → Writable (Holds q) → Begins (judgement p bound plan held q rs).used ts → JudgedFine (judgement p bound plan held q rs)
    judged_fine q rs out w b =
        let v = code_is_valid p bound plan held seen g gs ts result ls q rs w.0 counted typed out w.1 w.2 b in
        let i = judgement_inside p bound plan held q rs in
        let c = pred_code p bound plan q held [] rs in
        let d = pred_deep p bound plan q held [] rs in
        let few = w.2 in record {
          fine = record { statements = v.statements; deep = judged_deep c.flag c 803 (omega arith) (omega (arith, d, few)); parens = v.parens; inside = (i.stay, i.no_step) };
          flag = v.flag_type;
          truth = v.truth_type;
        }

    assertion_fine : (a : Annotation) (j : Judgement) → IsNumbered a → JudgedFine j → Fine 803 (asserted a j)
    assertion_fine a j k x =
        before_fine 803 j.stmts (one (Assert (Register j.flag) (Register j.truth) a.number a.place.line a.kind)) x.fine (assert_fine 803 a (Register j.flag) (Register j.truth) (omega arith) k x.flag (omega arith) x.truth (omega arith))

    cover_fine : (a : Annotation) (names : List (Place × ℕ)) (o : Option ℕ) (rs : Types) → IsNumbered a → AreNamed bs names → CountedTyped o → Begins (behind_cover p bound plan held bs h names o rs) ts
        → Fine 803 (cover_code p bound plan held bs h names o rs a) × CountedTyped (counted_by_cover p bound plan held bs h names o rs)
    cover_fine a [] None rs k i x b =
        let at = type_at rs ts I32 b in
        (before_fine 803 (count (length rs) (flags_from h bs)) (cover_asked a (length rs)) (count_fine (length rs) (flags_from h bs) at flags) (asked_fine a (length rs) k at), at)
    cover_fine a [] (Some c) rs k i x b = (asked_fine a c k x, x)
    cover_fine a (n ∷ names) o rs k i x b =
        let at = type_at rs ts I32 b in
        let fs = named_flags (n ∷ names) h bs in
        (before_fine 803 (count (length rs) fs) (cover_asked a (length rs)) (count_fine (length rs) fs at (flags_typed (n ∷ names) h bs i flags)) (asked_fine a (length rs) k at), x)

    demand_fine : (a : Annotation) (c : ClauseBody) (o : Option ℕ) (rs : Types) → AreOutside ls (length rs) → a.body ≡ c → IsNumbered a → Writable c → CountedTyped o → Begins (behind_demand p bound plan held bs h o rs a c) ts
        → Fine 803 (demand_code p bound plan held bs h o rs a c) × CountedTyped (counted_by_demand p bound plan held bs h o rs c)
    demand_fine a (Raw f) o rs out e k w x b = absurd w
    demand_fine a (Holds q) o rs out e k w x b =
        let used = subst (λ c. Begins (clause_judgement p bound plan held c rs).used ts) e b in
        (subst (λ c. Fine 803 (asserted a (clause_judgement p bound plan held c rs))) (sym e) (assertion_fine a (judgement p bound plan held q rs) k (judged_fine q rs out w used)), x)
    demand_fine a (logic.Value t) o rs out e k w x b = absurd w
    demand_fine a (Behaviors names) o rs out e k w x b = cover_fine a names o rs k w x b

    assumed_fine : (a : Annotation) (f : ℕ) (j : Judgement) → IsNumbered a → slice_get ts f ≡ Some I32 → JudgedFine j → Fine 803 (assumption_code a f j)
    assumed_fine a f j k at x =
        before_fine 803 j.stmts (Then (Assert (Register j.flag) (Constant I32 (pos 1)) a.number a.place.line a.kind) (set f (Register j.truth))) x.fine
        (before_fine 803 (one (Assert (Register j.flag) (Constant I32 (pos 1)) a.number a.place.line a.kind)) (set f (Register j.truth))
        (assert_fine 803 a (Register j.flag) (Constant I32 (pos 1)) (omega arith) k x.flag (omega arith) (refl, refl) (omega arith)) (set_fine 803 f (Register j.truth) I32 (omega arith) at x.truth (omega arith)))

    -- ---- checks in their order

    check_fine : (a : Annotation) (k : Option ℕ) (o : Option ℕ) (rs : Types) → AreOutside ls (length rs) → IsNumbered a → Writable a.body → ((i : ℕ) → k ≡ Some i → i < length bs) → (is_assumes a.kind ≡ true → (q : Predicate) × (a.body ≡ Holds q))
        → CountedTyped o
        → Begins (behind_check p bound plan held bs h o rs a k) ts → Fine 804 (check_code p bound plan held bs h o rs a k) × CountedTyped (counted_by p bound plan held bs h o rs a k)
    check_fine a None o rs out n w below assumes x b =
        let d = demand_fine a a.body o rs out refl n w x b in
        (more_fine 803 804 (demand_code p bound plan held bs h o rs a a.body) (omega arith) d.0, d.1)
    check_fine a (Some k) o rs out n w below assumes x b = by (is_assumes a.kind) assumes b
      where
        at : slice_get ts (h + k) ≡ Some I32
        at = flag_at h k bs (below k refl) flags

        by : (t : Bool) → (t ≡ true → (q : Predicate) × (a.body ≡ Holds q)) → Begins (cond t (behind_assertion p bound plan held rs a) (behind_demand p bound plan held bs h o rs a a.body)) ts
            → Fine 804 (where_flagged (h + k) (behavior_code p bound plan held bs h o rs a k t)) × CountedTyped (cond t None o)
        by true assumes b =
            let q = assumes refl in
            let used : Begins (judgement p bound plan held q.0 rs).used ts = subst (λ c. Begins (clause_judgement p bound plan held c rs).used ts) q.1 b in
            let j : JudgedFine (clause_judgement p bound plan held a.body rs) =
            subst (λ c. JudgedFine (clause_judgement p bound plan held c rs)) (sym q.1) (judged_fine q.0 rs out (subst Writable q.1 w) used) in
            (if_fine 803 (h + k) (assumption_code a (h + k) (clause_judgement p bound plan held a.body rs)) at (assumed_fine a (h + k) (clause_judgement p bound plan held a.body rs) n at j), tt)
        by false assumes b =
            let d = demand_fine a a.body o rs out refl n w x b in
            (if_fine 803 (h + k) (demand_code p bound plan held bs h o rs a a.body) at d.0, x)

    checks_fine : (cs : List Check) (o : Option ℕ) (rs : Types) → AreOutside ls (length rs) → AreCheckable p bound plan held seen g ts bs (length bs) cs → CountedTyped o → Begins (behind_checks p bound plan held bs h o rs cs) ts
        → Fine 804 (checks_code p bound plan held bs h o rs cs)
    checks_fine [] o rs out k x b = none_fine 804
    checks_fine (c ∷ cs) o rs out k x b =
        let next = counted_by p bound plan held bs h o rs c.annotation c.behavior in
        let js = behind_check p bound plan held bs h o rs c.annotation c.behavior in
        let d = check_fine c.annotation c.behavior o rs out k.0 k.1 k.2 k.3 x (checks_begin ts p bound plan held bs h cs (counted_by p bound plan held bs h o rs c.annotation c.behavior)
        (behind_check p bound plan held bs h o rs c.annotation c.behavior) b) in
        before_fine 804 (check_code p bound plan held bs h o rs c.annotation c.behavior)
        (checks_code p bound plan held bs h (counted_by p bound plan held bs h o rs c.annotation c.behavior) (behind_check p bound plan held bs h o rs c.annotation c.behavior) cs) d.0
        (checks_fine cs (counted_by p bound plan held bs h o rs c.annotation c.behavior) (behind_check p bound plan held bs h o rs c.annotation c.behavior)
        (outside_more ls (length rs) (length (behind_check p bound plan held bs h o rs c.annotation c.behavior)) (check_more p bound plan held bs h c.annotation c.behavior o rs) out) k.4 d.1 b)

  valid_of : (n : ℕ) (a : MonStatements) → n ≤ 1300 → Fine n a → AreValid g gs ts result ls a
  valid_of n a le x = record { statements = x.statements; deep = omega (arith, le, x.deep); parens = x.parens; stay = x.inside.0; no_step = x.inside.1 }

pub snapshots_are_valid : SnapshotsAreValid
snapshots_are_valid p bound g gs ts result ls l ks rs h counted out b = valid_of g gs ts result ls 802 (snapshot p bound l rs ks) (omega arith) (snapshot_fine g gs ts result ls p bound l counted ks rs out h b)

pub checks_are_valid : ChecksAreValid
checks_are_valid p bound plan held seen g gs ts result ls bs h cs rs k counted typed out flags b =
    valid_of g gs ts result ls 804 (checks_code p bound plan held bs h None rs cs) (omega arith) (checks_fine g gs ts result ls p bound plan held seen bs h flags counted typed cs None rs out k tt b)
