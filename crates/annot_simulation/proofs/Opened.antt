-- The code within guards is that of the predicate within them, with what is opened before it and closed behind it.
use Rattle.std.proofs.Common.{◌≡◌, ℕ, ℤ, List, [], ◌∷◌, ◌++◌, length, Option, Some, None, refl, sym, ap, ◌∙◌}
use Rattle.c_syntax.specs.declared.logic.Quantifier.{Quantifier}
use Rattle.c_syntax.specs.Logic.{Binder, Guards, NoGuard, Guarded, range_of}
use Rattle.c_syntax.specs.Programs.{TranslationUnit}
use Rattle.c_model.specs.Quantifiers.{first_of, undecided}
use Rattle.c_model.specs.TermRanges.{lowered, raised}
use Rattle.mon_syntax.specs.declared.tree.MonType.{MonType}
use Rattle.mon_syntax.specs.declared.tree.MonType.TheVariants.{I32}
use Rattle.mon_syntax.specs.Registers.{Bindings}
use Rattle.mon_syntax.specs.Trees.{MonExpression, Register, Set, Then}
use Rattle.c_effects.specs.Expressions.{in_type}
use Rattle.c_simulation.specs.Keeping.{Kept}
use Rattle.quantifier_loops.specs.Tries.{Between, at_most}
use Rattle.annot_simulation.specs.Binders.{bounds_relation, greatest_of, index_behind, last_before, least_of, over_code, tried_with, tries_code, with_last}
use Rattle.annot_simulation.specs.Code.{Code, Reading, branch, guards_code, relation_code, sure_readings_of_term, term_code, truth_code, type_of, type_of_width, width_of, wider}
use Rattle.annot_simulation.specs.Held.{Held}
use Rattle.annot_simulation.specs.Opened.{OpenedBinder, OpenedGuard, Within, bound_in, close_binder, close_binders, close_guard, close_guards, held_within, open_binders, open_guards, used_within, with_bound}

module _ (q : Quantifier) (k : MonType) (to : MonExpression) (most : ℤ) (inner : List Held → List MonType → Code) where
  pub over_opened : (from : MonExpression) (least : ℤ) (bs : List Binder) (held : List Held) (rs : List MonType)
      → over_code q k to most inner from least bs held rs ≡ close_binders q k to (open_binders k to most from least bs rs) (inner (held_within k to most bs held rs) (used_within k to most bs rs))
  over_opened from least [] held rs = refl
  over_opened from least (b ∷ bs) held rs = by (greatest_of b.kind most) refl (λ js. over_opened (Register (index_behind js)) (first_of b.kind (raised b.above least)) bs
      (record { number = b.place.offset; register = index_behind js; kind = k } ∷ held) (tried_with k js))
    where
      name : List MonType → Held
      name js = record { number = b.place.offset; register = index_behind js; kind = k }

      others : List MonType → Code
      others js = over_code q k to most inner (Register (index_behind js)) (first_of b.kind (raised b.above least)) bs (name js ∷ held) (tried_with k js)

      closed : List MonType → Code
      closed js =
          close_binders q k to (open_binders k to most (Register (index_behind js)) (first_of b.kind (raised b.above least)) bs (tried_with k js))
          (inner (held_within k to most bs (name js ∷ held) (tried_with k js)) (used_within k to most bs (tried_with k js)))

      bounds : MonExpression → Between
      bounds last = record { above = b.above; kind = k; least = least_of b.kind (raised b.above least); from = from; to = last }

      go : MonExpression → List MonType → Code
      go last js = tries_code q (bounds last) (length js) (others js)

      by : (o : Option ℤ) → greatest_of b.kind most ≡ o → ((js : List MonType) → others js ≡ closed js)
          → with_last k to (greatest_of b.kind most) go rs ≡ close_binders q k to (open_binders k to most from least (b ∷ bs) rs) (inner (held_within k to most (b ∷ bs) held rs) (used_within k to most (b ∷ bs) rs))
      by None e same = rw e (ap (tries_code q (bounds to) (length rs)) (same rs))
      by (Some z) e same =
          rw e (ap (λ c. let d = tries_code q (bounds (Register (length rs))) (length (rs ++ k ∷ [])) c in record d { stmts = at_most k (length rs) to z d.stmts }) (same (rs ++ k ∷ [])))

pub guards_opened : (p : TranslationUnit) (bound : Bindings) (plan : List Kept) (q : Quantifier) (gs : Guards) (inner : List Held → List Reading → List MonType → Code) (held : List Held) (known : List Reading) (rs : List MonType)
    → guards_code p bound plan q gs inner held known rs
    ≡ close_guards q (open_guards p bound plan gs held known rs).guards (inner (open_guards p bound plan gs held known rs).held (open_guards p bound plan gs held known rs).known (open_guards p bound plan gs held known rs).used)
guards_opened p bound plan q NoGuard inner held known rs = refl
guards_opened p bound plan q (Guarded a y ys below b rest) inner held known rs =
    let u = term_code p bound plan a held known rs in
    let v = term_code p bound plan b held known u.used in
    let k = type_of_width (wider (width_of a) (width_of b)) in
    let more = known ++ (sure_readings_of_term a ++ sure_readings_of_term b) in
    let most = lowered below (range_of b).hi in
    let last = length v.used in
    let js = v.used ++ k ∷ [] in
    let from = in_type (type_of a) k u.value in
    let binders = open_binders k (Register last) most from (range_of a).lo (y ∷ ys) js in
    let names = held_within k (Register last) most (y ∷ ys) held js in
    let used = used_within k (Register last) most (y ∷ ys) js in
    ap (λ c. let d = record c { stmts = Then (Set last (last_before below k (in_type (type_of b) k v.value))) c.stmts } in branch I32 (relation_code (bounds_relation below) a b u v) d (truth_code (undecided q) c.used))
    (over_opened q k (Register last) most (λ names js. guards_code p bound plan q rest inner names more js) from (range_of a).lo (y ∷ ys) held js
    ∙ ap (close_binders q k (Register last) binders) (guards_opened p bound plan q rest inner names more used))

-- ---- the innermost ones are closed first

pub binders_last : (q : Quantifier) (k : MonType) (to : MonExpression) (bs : List OpenedBinder) (b : OpenedBinder) (c : Code) → close_binders q k to (bs ++ b ∷ []) c ≡ close_binders q k to bs (close_binder q k to b c)
binders_last q k to [] b c = refl
binders_last q k to (x ∷ bs) b c = ap (close_binder q k to x) (binders_last q k to bs b c)

pub guards_last : (q : Quantifier) (gs : List OpenedGuard) (g : OpenedGuard) (c : Code) → close_guards q (gs ++ g ∷ []) c ≡ close_guards q gs (close_guard q g c)
guards_last q [] g c = refl
guards_last q (x ∷ gs) g c = ap (close_guard q x) (guards_last q gs g c)

-- binders take no register when they are closed
pub binders_used : (q : Quantifier) (k : MonType) (to : MonExpression) (bs : List OpenedBinder) (c : Code) (rs : List MonType) → close_binders q k to bs (record c { used = rs }) ≡ record (close_binders q k to bs c) { used = rs }
binders_used q k to [] c rs = refl
binders_used q k to (b ∷ bs) c rs = ap (close_binder q k to b) (binders_used q k to bs c rs) ∙ one b.most refl
  where
    inner : Code
    inner = close_binders q k to bs c

    one : (o : Option (ℕ × ℤ)) → b.most ≡ o → close_binder q k to b (record inner { used = rs }) ≡ record (close_binder q k to b inner) { used = rs }
    one None e = rw e refl
    one (Some m) e = rw e refl
