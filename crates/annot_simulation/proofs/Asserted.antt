-- The code of annotations: how deep it stands, and the registers that it takes.
use Rattle.std.proofs.Common.{◌≡◌, ℕ, ◌≤◌, pos, true, false, refl, List, [], ◌∷◌, ◌++◌, length, Option, Some, None, arith}
use Rattle.c_syntax.specs.Logic.{ClauseBody, Raw, Holds, Value, Behaviors, Annotation, LogicTerm}
use Rattle.c_syntax.specs.Programs.{TranslationUnit}
use Rattle.c_model.specs.Formed.{IsShortClause, AreAsserts, tokens_of_term}
use Rattle.mon_syntax.specs.declared.tree.MonType.{MonType}
use Rattle.mon_syntax.specs.declared.tree.MonType.TheVariants.{I32}
use Rattle.mon_syntax.specs.Registers.{Bindings}
use Rattle.mon_syntax.specs.Trees.{MonExpression, Register, Global, Constant, Binary, Minus, Flip, Cast, Load, MonStatements, Assert, If}
use Rattle.mon_syntax.specs.Valid.{Types, depth_of_all, has_no_step}
use Rattle.c_effects.specs.Expressions.{before, one, set}
use Rattle.c_simulation.specs.Keeping.{Kept}
use Rattle.annot_simulation.specs.Held.{Held}
use Rattle.annot_simulation.specs.Code.{Code, Judgement, pred_code, take, term_code, type_of, valuation, truth_code, judged_by, judged_anew, judged_with, clause_judgement, asserted, assertion, behind_assertion, assertions, behind_assertions}
use Rattle.annot_simulation.specs.Validity.{Begins}
use Rattle.annot_simulation.proofs.Depths.{deep_before, deep_if, deep_take, pred_deep, term_deep}
use Rattle.annot_simulation.proofs.Grows.{longer, pred_grows}
use Rattle.annot_simulation.proofs.Prefixes.{judged_begins, pred_begins, term_begins}
use Rattle.annot_simulation.proofs.Inside.{Inside, anew_inside, before_inside, judgement_inside, nothing_inside, take_inside, term_inside}
use Rattle.annot_simulation.proofs.Typed.{begins_front}

-- ---- how deep

by_deep : (a : MonStatements) (f : ℕ) (e : MonExpression) (rs : List MonType) (n : ℕ) → 2 ≤ n → depth_of_all a ≤ n → depth_of_all (judged_by a f e rs).stmts ≤ n
by_deep a f e rs n two d =
    let on = set (length rs) e in
    let off = set (length rs) (Constant I32 (pos 0)) in
    let l = deep_if (Register f) on off 1 (omega arith) (omega arith) in
    deep_before a (one (If (Register f) on off)) n d (omega (arith, l, two))

anew_deep : (e : MonExpression) (c : Code) (n : ℕ) → 2 ≤ n → depth_of_all c.stmts ≤ n → depth_of_all (judged_anew e c).stmts ≤ n
anew_deep e c n two d =
    by_deep (before c.stmts (set (length c.used) e)) (length c.used) c.value (c.used ++ I32 ∷ []) n two (deep_before c.stmts (set (length c.used) e) n d (omega (arith, two)))

pub judged_deep : (f : Option MonExpression) (c : Code) (n : ℕ) → 2 ≤ n → depth_of_all c.stmts ≤ n → depth_of_all (judged_with f c).stmts ≤ n
judged_deep None c n two d = anew_deep (Constant I32 (pos 1)) c n two d
judged_deep (Some (Register f)) c n two d = by_deep c.stmts f c.value c.used n two d
judged_deep (Some (Global x)) c n two d = anew_deep (Global x) c n two d
judged_deep (Some (Constant t z)) c n two d = anew_deep (Constant t z) c n two d
judged_deep (Some (Binary op t x y)) c n two d = anew_deep (Binary op t x y) c n two d
judged_deep (Some (Minus t x)) c n two d = anew_deep (Minus t x) c n two d
judged_deep (Some (Flip t x)) c n two d = anew_deep (Flip t x) c n two d
judged_deep (Some (Cast t x)) c n two d = anew_deep (Cast t x) c n two d
judged_deep (Some (Load t x)) c n two d = anew_deep (Load t x) c n two d

-- ---- registers

anew_longer : (rs : List MonType) → length rs ≤ length ((rs ++ I32 ∷ []) ++ I32 ∷ [])
anew_longer rs = omega (arith, longer rs (I32 ∷ []), longer (rs ++ I32 ∷ []) (I32 ∷ []))

judged_grows : (f : Option MonExpression) (c : Code) → length c.used ≤ length (judged_with f c).used
judged_grows None c = anew_longer c.used
judged_grows (Some (Register f)) c = longer c.used (I32 ∷ [])
judged_grows (Some (Global x)) c = anew_longer c.used
judged_grows (Some (Constant t z)) c = anew_longer c.used
judged_grows (Some (Binary op t x y)) c = anew_longer c.used
judged_grows (Some (Minus t x)) c = anew_longer c.used
judged_grows (Some (Flip t x)) c = anew_longer c.used
judged_grows (Some (Cast t x)) c = anew_longer c.used
judged_grows (Some (Load t x)) c = anew_longer c.used

-- ---- clauses

module _ (p : TranslationUnit) (bound : Bindings) (plan : List Kept) (held : List Held) where
  clause_deep : (b : ClauseBody) (rs : List MonType) → IsShortClause b → depth_of_all (clause_judgement p bound plan held b rs).stmts ≤ 803
  clause_deep (Raw f) rs h = anew_deep (Constant I32 (pos 0)) (truth_code false rs) 803 (omega arith) (omega arith)
  clause_deep (Holds q) rs h =
      let c = pred_code p bound plan q held [] rs in
      let d = pred_deep p bound plan q held [] rs in
      let few = h.short in
      judged_deep c.flag c 803 (omega arith) (omega (arith, d, few))
  clause_deep (Value t) rs h = anew_deep (Constant I32 (pos 0)) (truth_code false rs) 803 (omega arith) (omega arith)
  clause_deep (Behaviors names) rs h = absurd h

  clause_grows : (b : ClauseBody) (rs : List MonType) → length rs ≤ length (clause_judgement p bound plan held b rs).used
  clause_grows (Raw f) rs = anew_longer rs
  clause_grows (Holds q) rs =
      let c = pred_code p bound plan q held [] rs in
      let x = pred_grows p bound plan q held [] rs in
      let y = judged_grows c.flag c in
      omega (arith, x, y)
  clause_grows (Value t) rs = anew_longer rs
  clause_grows (Behaviors names) rs = anew_longer rs

  clause_begins : (ts : Types) (b : ClauseBody) (rs : List MonType) → Begins (clause_judgement p bound plan held b rs).used ts → Begins rs ts
  clause_begins ts (Raw f) rs h = begins_front rs (I32 ∷ []) ts (begins_front (rs ++ I32 ∷ []) (I32 ∷ []) ts h)
  clause_begins ts (Holds q) rs h = let c = pred_code p bound plan q held [] rs in pred_begins ts p bound plan q held [] rs (judged_begins ts c.flag c h)
  clause_begins ts (Value t) rs h = begins_front rs (I32 ∷ []) ts (begins_front (rs ++ I32 ∷ []) (I32 ∷ []) ts h)
  clause_begins ts (Behaviors names) rs h = begins_front rs (I32 ∷ []) ts (begins_front (rs ++ I32 ∷ []) (I32 ∷ []) ts h)

-- ---- annotations

asserted_deep : (a : Annotation) (j : Judgement) → depth_of_all j.stmts ≤ 803 → depth_of_all (asserted a j) ≤ 803
asserted_deep a j d = deep_before j.stmts (one (Assert (Register j.flag) (Register j.truth) a.number a.place.line a.kind)) 803 d (omega arith)

pub assertion_deep : (p : TranslationUnit) (bound : Bindings) (plan : List Kept) (held : List Held) (rs : List MonType) (a : Annotation) → IsShortClause a.body → depth_of_all (assertion p bound plan held rs a) ≤ 803
assertion_deep p bound plan held rs a h = asserted_deep a (clause_judgement p bound plan held a.body rs) (clause_deep p bound plan held a.body rs h)

pub assertions_deep : (p : TranslationUnit) (bound : Bindings) (plan : List Kept) (held : List Held) (rs : List MonType) (l : List Annotation) → AreAsserts l → depth_of_all (assertions p bound plan held rs l) ≤ 803
assertions_deep p bound plan held rs [] h = omega arith
assertions_deep p bound plan held rs (a ∷ rest) h =
    let one = h.0 in
    deep_before (assertion p bound plan held rs a) (assertions p bound plan held (behind_assertion p bound plan held rs a) rest) 803 (assertion_deep p bound plan held rs a one.body)
    (assertions_deep p bound plan held (behind_assertion p bound plan held rs a) rest h.1)

pub assertion_grows : (p : TranslationUnit) (bound : Bindings) (plan : List Kept) (held : List Held) (rs : List MonType) (a : Annotation) → length rs ≤ length (behind_assertion p bound plan held rs a)
assertion_grows p bound plan held rs a = clause_grows p bound plan held a.body rs

pub behind_grows : (p : TranslationUnit) (bound : Bindings) (plan : List Kept) (held : List Held) (rs : List MonType) (l : List Annotation) → length rs ≤ length (behind_assertions p bound plan held rs l)
behind_grows p bound plan held rs [] = omega arith
behind_grows p bound plan held rs (a ∷ rest) =
    let x = assertion_grows p bound plan held rs a in
    let y = behind_grows p bound plan held (behind_assertion p bound plan held rs a) rest in
    omega (arith, x, y)

pub assertion_begins : (ts : Types) (p : TranslationUnit) (bound : Bindings) (plan : List Kept) (held : List Held) (rs : List MonType) (a : Annotation) → Begins (behind_assertion p bound plan held rs a) ts → Begins rs ts
assertion_begins ts p bound plan held rs a h = clause_begins p bound plan held ts a.body rs h

pub behind_begins : (ts : Types) (p : TranslationUnit) (bound : Bindings) (plan : List Kept) (held : List Held) (rs : List MonType) (l : List Annotation) → Begins (behind_assertions p bound plan held rs l) ts → Begins rs ts
behind_begins ts p bound plan held rs [] h = h
behind_begins ts p bound plan held rs (a ∷ rest) h = assertion_begins ts p bound plan held rs a (behind_begins ts p bound plan held (behind_assertion p bound plan held rs a) rest h)

-- ---- steps

-- the statements of a clause have no step of a loop around them
clause_inside : (p : TranslationUnit) (bound : Bindings) (plan : List Kept) (held : List Held) (b : ClauseBody) (rs : List MonType) → Inside (clause_judgement p bound plan held b rs).stmts
clause_inside p bound plan held (Raw f) rs = anew_inside (Constant I32 (pos 0)) (truth_code false rs) nothing_inside
clause_inside p bound plan held (Holds q) rs = let i = judgement_inside p bound plan held q rs in (i.stay, i.no_step)
clause_inside p bound plan held (Value t) rs = anew_inside (Constant I32 (pos 0)) (truth_code false rs) nothing_inside
clause_inside p bound plan held (Behaviors names) rs = anew_inside (Constant I32 (pos 0)) (truth_code false rs) nothing_inside

assertion_inside : (p : TranslationUnit) (bound : Bindings) (plan : List Kept) (held : List Held) (rs : List MonType) (a : Annotation) → Inside (assertion p bound plan held rs a)
assertion_inside p bound plan held rs a =
    let j = clause_judgement p bound plan held a.body rs in
    before_inside j.stmts (one (Assert (Register j.flag) (Register j.truth) a.number a.place.line a.kind)) (clause_inside p bound plan held a.body rs) ((tt, tt), refl)

pub no_step_assertion : (p : TranslationUnit) (bound : Bindings) (plan : List Kept) (held : List Held) (rs : List MonType) (a : Annotation) → has_no_step (assertion p bound plan held rs a) ≡ true
no_step_assertion p bound plan held rs a = (assertion_inside p bound plan held rs a).1

-- ---- values of terms

module _ (p : TranslationUnit) (bound : Bindings) (plan : List Kept) (held : List Held) (t : LogicTerm) (rs : List MonType) where
  abbrev value_code : Code
  value_code = term_code p bound plan t held [] rs

  pub valuation_begins : (ts : Types) → Begins (valuation p bound plan held t rs).used ts → Begins rs ts
  valuation_begins ts b = term_begins ts p bound plan t held [] rs (begins_front value_code.used (I32 ∷ type_of t ∷ []) ts b)

  pub valuation_deep : tokens_of_term t ≤ 400 → depth_of_all (valuation p bound plan held t rs).stmts ≤ 803
  valuation_deep few =
      let c = value_code in
      let d = term_deep p bound plan t held [] rs in
      let l = deep_take c.flag c.value (length c.used) in
      deep_before c.stmts (take c.flag c.value (length c.used)) 803 (omega (arith, d, few)) (omega (arith, l))

  pub valuation_inside : Inside (valuation p bound plan held t rs).stmts
  valuation_inside =
      let c = value_code in
      before_inside c.stmts (take c.flag c.value (length c.used)) (term_inside p bound plan t held [] rs) (take_inside c.flag c.value (length c.used))

  pub no_step_valuation : has_no_step (valuation p bound plan held t rs).stmts ≡ true
  no_step_valuation = valuation_inside.1
