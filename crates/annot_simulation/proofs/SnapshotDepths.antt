-- How deep the code at a passage of a label stands.
use Rattle.std.proofs.Common.{ℕ, suc, ◌≤◌, Bool, true, false, cond, List, [], ◌∷◌, length, Option, pos, arith}
use Rattle.std.proofs.Math.Nat.{max-le}
use Rattle.c_syntax.specs.Programs.{TranslationUnit}
use Rattle.c_model.specs.Formed.{tokens_of_term}
use Rattle.c_model.specs.State.{same_label}
use Rattle.mon_syntax.specs.declared.tree.MonType.{MonType}
use Rattle.mon_syntax.specs.declared.tree.MonType.TheVariants.{I32}
use Rattle.mon_syntax.specs.Registers.{Bindings}
use Rattle.mon_syntax.specs.Trees.{MonExpression, MonStatements, Constant, Register, Set, Then}
use Rattle.mon_syntax.specs.Valid.{depth_of_all}
use Rattle.c_effects.specs.Expressions.{before, set}
use Rattle.c_simulation.specs.Keeping.{Kept, is_pointer_term}
use Rattle.annot_simulation.specs.Code.{pointer_code, side_by, term_code}
use Rattle.annot_simulation.specs.Pieces.{Code, guarded}
use Rattle.annot_simulation.specs.Pointers.{PointerCode}
use Rattle.annot_simulation.specs.Snapshots.{behind_keep, entry_side, keep, keep_none, keep_number, keep_pointer, snapshot}
use Rattle.annot_simulation.proofs.Depths.{deep_before, deep_guarded, pointer_deep, term_deep}

-- terms that have no more tokens than a clause may have
abbrev pub AreShort : List Kept → Type 0
AreShort [] = Unit {0}
AreShort (k ∷ ks) = (tokens_of_term k.term ≤ 400) × AreShort ks

-- one after another
deep_set : (r : ℕ) (e : MonExpression) (rest : MonStatements) → depth_of_all rest ≤ 1 → depth_of_all (Then (Set r e) rest) ≤ 1
deep_set r e rest d = max-le (omega arith) d

number_deep : (c : Code) (r : ℕ) → depth_of_all c.stmts ≤ 800 → depth_of_all (keep_number c r) ≤ 800
number_deep c r d =
    let on = Then (Set (suc r) c.value) (set r (Constant I32 (pos 1))) in
    let inside = deep_guarded c.flag on (keep_none r) 1 (deep_set (suc r) c.value (set r (Constant I32 (pos 1))) (omega arith)) (omega arith) in
    deep_before c.stmts (guarded c.flag on (keep_none r)) 800 d (omega (arith, inside))

kept_deep : (c : PointerCode) (r : ℕ) → depth_of_all c.stmts ≤ 800 → depth_of_all (keep_pointer c r) ≤ 800
kept_deep c r d =
    let q = length c.used in
    let last = set r (Constant I32 (pos 1)) in
    let third = Then (Set (suc (suc r)) (Register q)) last in
    let second = Then (Set (suc r) c.base) third in
    let on = Then (Set q c.offset) second in
    let inside =
    deep_guarded c.flag on (keep_none r) 1 (deep_set q c.offset second (deep_set (suc r) c.base third (deep_set (suc (suc r)) (Register q) last (omega arith)))) (omega arith) in
    deep_before c.stmts (guarded c.flag on (keep_none r)) 800 d (omega (arith, inside))

module _ (p : TranslationUnit) (bound : Bindings) (l : Option ℕ) where
  keep_deep : (k : Kept) (rs : List MonType) → tokens_of_term k.term ≤ 400 → depth_of_all (keep (entry_side p bound rs k) k.register) ≤ 800
  keep_deep k rs few = by (is_pointer_term k.term)
    where
      by : (t : Bool) → depth_of_all (keep (side_by t (pointer_code p bound [] k.term [] [] rs) (term_code p bound [] k.term [] [] rs)) k.register) ≤ 800
      by true = let d = pointer_deep p bound [] k.term [] [] rs in kept_deep (pointer_code p bound [] k.term [] [] rs) k.register (omega (arith, d, few))
      by false = let d = term_deep p bound [] k.term [] [] rs in number_deep (term_code p bound [] k.term [] [] rs) k.register (omega (arith, d, few))

  pub snapshot_deep : (ks : List Kept) → AreShort ks → (rs : List MonType) → depth_of_all (snapshot p bound l rs ks) ≤ 800
  snapshot_deep [] h rs = omega arith
  snapshot_deep (k ∷ ks) h rs = by (same_label k.label l) (snapshot_deep ks h.1 (behind_keep (entry_side p bound rs k))) (snapshot_deep ks h.1 rs)
    where
      by : (t : Bool) → depth_of_all (snapshot p bound l (behind_keep (entry_side p bound rs k)) ks) ≤ 800 → depth_of_all (snapshot p bound l rs ks) ≤ 800
          → depth_of_all (cond t (before (keep (entry_side p bound rs k) k.register) (snapshot p bound l (behind_keep (entry_side p bound rs k)) ks)) (snapshot p bound l rs ks)) ≤ 800
      by true d e = deep_before (keep (entry_side p bound rs k) k.register) (snapshot p bound l (behind_keep (entry_side p bound rs k)) ks) 800 (keep_deep k rs h.0) d
      by false d e = e
