-- Ours: what stands around the code within guards, which takes its first registers before that and its last ones behind it.
use Rattle.std.specs.Prelude.{ℕ, ℤ, List, [], ◌∷◌, ◌++◌, length, Option, Some, None, option_map}
use Rattle.c_syntax.specs.declared.logic.Quantifier.{Quantifier}
use Rattle.c_syntax.specs.Logic.{Binder, Guards, NoGuard, Guarded, LogicTerm, range_of}
use Rattle.c_syntax.specs.Programs.{TranslationUnit}
use Rattle.c_model.specs.Quantifiers.{first_of, undecided}
use Rattle.c_model.specs.TermRanges.{lowered, raised}
use Rattle.mon_syntax.specs.declared.tree.MonType.{MonType}
use Rattle.mon_syntax.specs.declared.tree.MonType.TheVariants.{I32}
use Rattle.mon_syntax.specs.Registers.{Bindings}
use Rattle.mon_syntax.specs.Trees.{MonExpression, Register, Set, Then}
use Rattle.c_effects.specs.Expressions.{in_type}
use Rattle.c_simulation.specs.Keeping.{Kept}
use Rattle.quantifier_loops.specs.Tries.{Between, at_most}
use Rattle.annot_simulation.specs.Binders.{bounds_relation, greatest_of, index_behind, last_before, least_of, tried_with, tries_code}
use Rattle.annot_simulation.specs.Code.{Code, Reading, branch, relation_code, sure_readings_of_term, term_code, truth_code, type_of, type_of_width}
use Rattle.annot_simulation.specs.Code.{width_of, wider}
use Rattle.annot_simulation.specs.Held.{Held}

-- ---- binders

-- the values of a binder, its first register, and the register of a last value that is at most this number there
pub record OpenedBinder : Type 0 where
  pub bounds : Between
  pub first : ℕ
  pub most : Option (ℕ × ℤ)

abbrev pub close_binder : Quantifier → MonType → MonExpression → OpenedBinder → Code → Code
close_binder q k to b c =
    let d = tries_code q b.bounds b.first c in elim b.most [ None ↦ d | Some m ↦ record d { stmts = at_most k m.0 to m.1 d.stmts } ]

abbrev pub close_binders : Quantifier → MonType → MonExpression → List OpenedBinder → Code → Code
close_binders q k to [] c = c
close_binders q k to (b ∷ bs) c = close_binder q k to b (close_binders q k to bs c)

-- with the register of its last value
abbrev pub with_bound : MonType → Option ℤ → List MonType → List MonType
with_bound k None rs = rs
with_bound k (Some z) rs = rs ++ k ∷ []

abbrev pub bound_in : MonExpression → Option ℤ → List MonType → MonExpression
bound_in to None rs = to
bound_in to (Some z) rs = Register (length rs)

module _ (k : MonType) (to : MonExpression) (most : ℤ) where
  abbrev pub open_binder : MonExpression → ℤ → Binder → List MonType → OpenedBinder
  open_binder from least b rs =
      let o = greatest_of b.kind most in record {
        bounds = record { above = b.above; kind = k; least = least_of b.kind (raised b.above least); from = from; to = bound_in to o rs };
        first = length (with_bound k o rs);
        most = option_map (λ z. (length rs, z)) o;
      }

  abbrev pub open_binders : MonExpression → ℤ → List Binder → List MonType → List OpenedBinder
  open_binders from least [] rs = []
  open_binders from least (b ∷ bs) rs =
      let js = with_bound k (greatest_of b.kind most) rs in
      open_binder from least b rs ∷ open_binders (Register (index_behind js)) (first_of b.kind (raised b.above least)) bs (tried_with k js)

  -- the names that are held within them, and the registers that are taken there
  abbrev pub held_within : List Binder → List Held → List MonType → List Held
  held_within [] held rs = held
  held_within (b ∷ bs) held rs =
      let js = with_bound k (greatest_of b.kind most) rs in
      held_within bs (record { number = b.place.offset; register = index_behind js; kind = k } ∷ held) (tried_with k js)

  abbrev pub used_within : List Binder → List MonType → List MonType
  used_within [] rs = rs
  used_within (b ∷ bs) rs = used_within bs (tried_with k (with_bound k (greatest_of b.kind most) rs))

-- ---- guards

-- whether the bounds of a chain leave a value between them, the type of its indices, the register of its last value and that value, and its binders
pub record OpenedGuard : Type 0 where
  pub related : Code
  pub kind : MonType
  pub last : ℕ
  pub bound : MonExpression
  pub binders : List OpenedBinder

abbrev pub close_guard : Quantifier → OpenedGuard → Code → Code
close_guard q g c =
    let d = close_binders q g.kind (Register g.last) g.binders c in
    branch I32 g.related (record d { stmts = Then (Set g.last g.bound) d.stmts }) (truth_code (undecided q) d.used)

abbrev pub close_guards : Quantifier → List OpenedGuard → Code → Code
close_guards q [] c = c
close_guards q (g ∷ gs) c = close_guard q g (close_guards q gs c)

-- where the code within guards begins
pub record Within : Type 0 where
  pub guards : List OpenedGuard
  pub held : List Held
  pub known : List Reading
  pub used : List MonType

module _ (p : TranslationUnit) (bound : Bindings) (plan : List Kept) where
  abbrev pub open_guards : Guards → List Held → List Reading → List MonType → Within
  open_guards NoGuard held known rs = record { guards = []; held = held; known = known; used = rs }
  open_guards (Guarded a y ys below b rest) held known rs =
      let u = term_code p bound plan a held known rs in
      let v = term_code p bound plan b held known u.used in
      let k = type_of_width (wider (width_of a) (width_of b)) in
      let most = lowered below (range_of b).hi in
      let last = length v.used in
      let js = v.used ++ k ∷ [] in
      let inner = open_guards rest (held_within k (Register last) most (y ∷ ys) held js) (known ++ (sure_readings_of_term a ++ sure_readings_of_term b))
      (used_within k (Register last) most (y ∷ ys) js) in record {
        guards =
            record {
              related = record (relation_code (bounds_relation below) a b u v) { used = [] };
              kind = k;
              last = last;
              bound = last_before below k (in_type (type_of b) k v.value);
              binders = open_binders k (Register last) most (in_type (type_of a) k u.value) (range_of a).lo (y ∷ ys) js;
            } ∷ inner.guards;
        held = inner.held;
        known = inner.known;
        used = inner.used;
      }
