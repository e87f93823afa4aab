-- The initialisers of objects that are declared one after another: those of a block, and globals.
use Rattle.std.proofs.Common.{◌≡◌, ℕ, suc, ◌<◌, ◌≤◌, if◌then◌else◌, List, [], ◌∷◌, ◌++◌, length, Option, Some, None, slice_get, slice_set, refl, sym, ap, ◌∙◌, subst, arith}
use Rattle.std.proofs.lemmas.List.{length-append}
use Rattle.c_syntax.specs.declared.place.Place.{Place}
use Rattle.c_syntax.specs.Statements.{Declaration, Initialiser}
use Rattle.c_model.specs.Formed.{number_of}
use Rattle.c_model.specs.Memory.{Into, Value, Points}
use Rattle.c_model.specs.State.{State, Scope, on_outcome, defined, start_of, find}
use Rattle.c_model.specs.Meaning.{Tables, tables_of, fill, initialise, initialise_all}
use Rattle.c_model.specs.ExpressionTyping.{Sight, with_object}
use Rattle.c_model.specs.TypedTrees.{Initialises, WhereAny, IsDeclared, AreDeclared}
use Rattle.mon_syntax.specs.declared.tree.MonType.{MonType}
use Rattle.mon_syntax.specs.declared.tree.MonType.TheVariants as kind
use Rattle.mon_syntax.specs.Registers.{Bindings}
use Rattle.mon_syntax.specs.Trees.{MonStatements, NoStatement, Global}
use Rattle.c_model.specs.Pure.{IsPure, IsPureInitialiser}
use Rattle.c_initialisers.specs.Letters.{InitialHasLetters, InitialsHaveLetters}
use Rattle.c_effects.specs.Expressions.{set, object_of_global}
use Rattle.c_initialisers.specs.Translation.{initial_temporaries, declaration_temporaries}
use Rattle.c_initialisers.specs.Translation as translation
use Rattle.c_effects.specs.Effects.{block_of}
use Rattle.instrument.specs.Translation.{global_temporaries, all_global_temporaries, initialise_global, initialise_globals}
use Rattle.c_simulation.specs.Standing.{Setting, Target, runs, IsAnchored, InRegister, AtGlobal, Anchored, Knows, Bounded, Here, Standing, Beside}
use Rattle.c_simulation.proofs.Registers.{same_all, same_set, get-set_same, longer}
use Rattle.c_simulation.specs.Reaching.{Reaches, Anything}
use Rattle.c_simulation.proofs.Results.{before_is}
use Rattle.c_simulation.proofs.Following.{standing_later}
use Rattle.c_simulation.proofs.Reaching.{reached_here, reached_lower, reaches_behind, reaches_then, undefined_now}
use Rattle.c_simulation.proofs.Anchors.{block_has, block_below}
use Rattle.c_simulation.proofs.Evaluating.{set_runs}
use Rattle.instrument.proofs.Scenes.{Scene, scene_with, knows_with}
use Rattle.instrument.proofs.Evaluations.{value_reached}
use Rattle.instrument.proofs.Fillings.{AreEvaluated, Filling, Lasts, anchored_lasts, each_any, each_pure, object_reaches, pure_evaluated}
use Rattle.instrument.proofs.Own.{IsLocal, AreThere}
use Rattle.c_model.specs.StaticObjects.{static_objects}

module _ (w : Setting) (n : ℕ) (h : Here) (sight : Sight) (scene : Scene w n sight) (low : ℕ) (bound : Bindings) (s : State) (t : Target) (le : s.steps ≤ n) (rs : List MonType) (behind : low ≤ length rs)
    (regs : List Value) (m : Standing w h low bound regs s) (b : Beside w s.store s t) where
  abbrev T : Tables
  T = tables_of w.unit

  abbrev Does : Declaration → Option (Place × Initialiser) → Type 0
  Does d o = Reaches w Anything low regs s (initialise T d o w.call s) (runs w n t (translation.initialise w.unit bound rs (block_of bound (number_of d)) d.ctype o) regs)

  -- what values are evaluated by
  abbrev Ready : List Value → State → Type 0
  Ready after to = Standing w h low bound after to × (to.steps ≤ n)

  ready_lasts : Lasts low Ready
  ready_lasts before after from to o same la k = (standing_later w h low bound before after from to o same la k.0, omega (arith, k.1, la.spent))

  all_evaluated : AreEvaluated w n sight bound low Ready (λ e. Unit {0})
  all_evaluated e k more after to u taken ready bounded beside long is any q l few = value_reached w n h sight scene low bound to u ready.1 more taken after ready.0 beside e k is q l few

  object_in_block : (d : Declaration) (at : Place) (i : Initialiser) (number : ℕ) → find (number_of d) s.scope ≡ Some number → IsLocal w.unit d → Initialises sight d.ctype i
      → InitialHasLetters (Some (at, i)) → length (rs ++ initial_temporaries w.unit (Some (at, i))) ≤ w.registers → Does d (Some (at, i))
  object_in_block d at i number found local q l room =
      let r = block_of bound (number_of d) in
      let filling : Filling w Ready low (Into number 0) r regs s t = record {
        ready = (m, le);
        aligned = refl;
        bounded = m.bounded;
        beside = b;
        points = block_has w low low bound regs regs s.scope (number_of d) number (omega arith) (same_all low regs) m.anchored found local;
        below = block_below w low bound regs s.scope (number_of d) number m.anchored found local;
        registers = m.registers;
      } in
      subst (λ q. Reaches w Anything low regs s q (runs w n t (translation.initialise w.unit bound rs r d.ctype (Some (at, i))) regs)) (sym (ap (λ o. on_outcome (defined at (start_of o) s) (λ p. fill T at d.ctype p i w.call)) found))
      (object_reaches w n sight scene.knows bound low Ready ready_lasts (λ e. Unit {0}) all_evaluated i at d.ctype number r rs regs s t behind (each_any i) q l room filling)

  -- an object of a block
  pub declared_reaches : (d : Declaration) (o : Option (Place × Initialiser)) → IsLocal w.unit d → WhereAny (λ (i : Place × Initialiser). Initialises sight d.ctype i.1) o → InitialHasLetters o
      → length (rs ++ initial_temporaries w.unit o) ≤ w.registers → Does d o
  declared_reaches d None local q l room = reached_here w low regs s t m.bounded b
  declared_reaches d (Some (at, i)) local q l room = by (find (number_of d) s.scope) refl
    where
      by : (o : Option ℕ) → find (number_of d) s.scope ≡ o → Does d (Some (at, i))
      by None found =
          undefined_now w Anything low regs s (initialise T d (Some (at, i)) w.call s) (runs w n t (translation.initialise w.unit bound rs (block_of bound (number_of d)) d.ctype (Some (at, i))) regs) at
          (ap (λ o. on_outcome (defined at (start_of o) s) (λ p. fill T at d.ctype p i w.call)) found)
      by (Some number) found = object_in_block d at i number found local q l room

-- ---- the objects of a block, in their order

module _ (w : Setting) (n : ℕ) (h : Here) (low : ℕ) (bound : Bindings) where
  pub initials_reach : (ds : List Declaration) (sight : Sight) → Scene w n sight → AreThere w.unit ds → AreDeclared sight ds → InitialsHaveLetters ds → (rs : List MonType) → low ≤ length rs
      → length (rs ++ declaration_temporaries w.unit ds) ≤ w.registers
      → (regs : List Value) (s : State) (t : Target) → s.steps ≤ n → Standing w h low bound regs s → Beside w s.store s t
      → Reaches w Anything low regs s (initialise_all (tables_of w.unit) ds w.call s) (runs w n t (translation.initialise_all w.unit bound rs ds) regs)
  initials_reach [] sight scene local q l rs behind room regs s t le m b = reached_here w low regs s t m.bounded b
  initials_reach (d ∷ ds) sight scene local q l rs behind room regs s t le m b =
      let here = initial_temporaries w.unit d.init in
      let rest = declaration_temporaries w.unit ds in
      let more : length (rs ++ (here ++ rest)) ≡ length (rs ++ here ++ rest) = omega (arith, length-append (rs ++ here) rest, length-append rs here, length-append rs (here ++ rest), length-append here rest) in
      let made = translation.initialise w.unit bound rs (block_of bound (number_of d)) d.ctype d.init in
      let first = translation.initialise_local w.unit bound rs d in
      let others = translation.initialise_all w.unit bound (rs ++ here) ds in
      subst (λ q. Reaches w Anything low regs s (initialise_all (tables_of w.unit) (d ∷ ds) w.call s) q) (sym (before_is w.globals first others w.calls n regs t))
      (reaches_then w Anything Anything low regs s (initialise (tables_of w.unit) d d.init w.call s) (runs w n t first regs) (λ _. initialise_all (tables_of w.unit) ds w.call) (λ r u. runs w n u others r)
      (subst (λ x. Reaches w Anything low regs s (initialise (tables_of w.unit) d d.init w.call s) (runs w n t (if x then made else NoStatement) regs)) (sym local.0.1)
      (declared_reaches w n h (with_object sight d) (scene_with w n sight d scene) low bound s t le rs behind regs m b d d.init local.0.0 q.0.init l.0 (omega (arith, more, room, longer (rs ++ here) rest))))
      (λ _ to after u o same la be _.
      initials_reach ds (with_object sight d) (scene_with w n sight d scene) local.1 q.1 l.1 (rs ++ here) (omega (arith, behind, longer rs here)) (omega (arith, more, room)) after to u (omega (arith, le, la.spent))
      (standing_later w h low bound regs after s to o same la m) be))

-- ---- globals, in their order

-- what is known of a global where it stands in the file; its initialiser has no calls
pub record IsGlobal (w : Setting) (d : Declaration) : Type 0 where
  pub sight : Sight
  pub knows : Knows w sight
  pub declared : IsDeclared sight d
  pub pure : WhereAny (λ (i : Place × Initialiser). IsPureInitialiser i.1) d.init
  pub letters : InitialHasLetters d.init

abbrev pub AreGlobals : Setting → List Declaration → Type 0
AreGlobals w [] = Unit {0}
AreGlobals w (d ∷ ds) = IsGlobal w d × AreGlobals w ds

-- where no register is bound to a name, all names in sight are those of globals, whatever the registers hold
pub anchored_anywhere : (w : Setting) (low high : ℕ) (regs after : List Value) (scope : Scope) → Anchored w low [] regs scope → Anchored w high [] after scope
anchored_anywhere w low high regs after scope m x number found = let a = m x number found in record { own = a.own; anchor = of_anchor a.anchor }
  where
    of_anchor : IsAnchored w low [] regs x number → IsAnchored w high [] after x number
    of_anchor (InRegister r is_bound below behind points) = absurd cc
    of_anchor (AtGlobal free is_global points) = AtGlobal free is_global points

global_points : (w : Setting) (low : ℕ) (regs : List Value) (scope : Scope) (x number : ℕ) → Anchored w low [] regs scope → find x scope ≡ Some number → slice_get w.globals (object_of_global x (static_objects w.unit)) ≡ Some (Points (Into number 0))
global_points w low regs scope x number m found = of_anchor (m x number found).anchor
  where
    of_anchor : IsAnchored w low [] regs x number → slice_get w.globals (object_of_global x (static_objects w.unit)) ≡ Some (Points (Into number 0))
    of_anchor (InRegister r is_bound below behind points) = absurd cc
    of_anchor (AtGlobal free is_global points) = points

module _ (w : Setting) (n : ℕ) (low : ℕ) where
  abbrev tables : Tables
  tables = tables_of w.unit

  -- one that has no initialiser keeps the zeros in which it is born
  global_reaches : (d : Declaration) (o : Option (Place × Initialiser)) (sight : Sight) → Knows w sight
      → WhereAny (λ (i : Place × Initialiser). IsPureInitialiser i.1) o → WhereAny (λ (i : Place × Initialiser). Initialises sight d.ctype i.1) o → InitialHasLetters o → (rs : List MonType) → low ≤ length rs
      → length (rs ++ global_temporaries w.unit o) ≤ w.registers
      → (regs : List Value) (s : State) (t : Target) → length regs ≡ w.registers → Anchored w low [] regs s.scope → Bounded s.store → Beside w s.store s t
      → Reaches w Anything low regs s (initialise tables d o w.call s) (runs w n t (initialise_global w.unit rs (object_of_global (number_of d) (static_objects w.unit)) d.ctype o) regs)
  global_reaches d None sight knows pure q l rs behind room regs s t long anchored bounded b = reached_here w low regs s t bounded b
  global_reaches d (Some (at, i)) sight knows pure q l rs behind room regs s t long anchored bounded b = by (find (number_of d) s.scope) refl
    where
      j : ℕ
      j = length rs

      g : ℕ
      g = object_of_global (number_of d) (static_objects w.unit)

      code : MonStatements
      code = translation.initialise w.unit [] (rs ++ kind.Ptr ∷ []) j d.ctype (Some (at, i))

      all : MonStatements
      all = initialise_global w.unit rs g d.ctype (Some (at, i))

      by : (o : Option ℕ) → find (number_of d) s.scope ≡ o → Reaches w Anything low regs s (initialise tables d (Some (at, i)) w.call s) (runs w n t all regs)
      by None found =
          undefined_now w Anything low regs s (initialise tables d (Some (at, i)) w.call s) (runs w n t all regs) at
          (ap (λ o. on_outcome (defined at (start_of o) s) (λ p. fill tables at d.ctype p i w.call)) found)
      by (Some number) found =
          let v = Points (Into number 0) in
          let after = slice_set regs j v in
          let same = same_set low j regs v behind in
          let points : slice_get w.globals g ≡ Some v = global_points w low regs s.scope (number_of d) number anchored found in
          let one_more : length (rs ++ kind.Ptr ∷ []) ≡ suc j = omega (arith, length-append rs (kind.Ptr ∷ [])) in
          let more : length (rs ++ kind.Ptr ∷ [] ++ initial_temporaries w.unit (Some (at, i))) ≡ length (rs ++ global_temporaries w.unit (Some (at, i))) =
          omega (arith, length-append (rs ++ kind.Ptr ∷ []) (initial_temporaries w.unit (Some (at, i))), one_more, length-append rs (global_temporaries w.unit (Some (at, i)))) in
          let enough : j < length regs = omega (arith, room, long, length-append rs (global_temporaries w.unit (Some (at, i)))) in
          let filling : Filling w (λ regs s. Anchored w (suc j) [] regs s.scope) (suc j) (Into number 0) j after s t = record {
            ready = anchored_anywhere w low (suc j) regs after s.scope anchored;
            aligned = refl;
            bounded = bounded;
            beside = b;
            points = get-set_same regs j v enough;
            below = omega arith;
            registers = same.long ∙ long;
          } in
          subst (λ o. Reaches w Anything low regs s o (runs w n t all regs)) (sym (ap (λ o. on_outcome (defined at (start_of o) s) (λ p. fill tables at d.ctype p i w.call)) found))
          (reaches_behind w n Anything low regs after s t (fill tables at d.ctype (Into number 0) i w.call s) (set j (Global g)) code bounded same (set_runs w n t j (Global g) regs v points)
          (reached_lower w Anything low (suc j) after s (fill tables at d.ctype (Into number 0) i w.call s) (runs w n t code after) (omega (arith, behind))
          (object_reaches w n sight knows [] (suc j) (λ regs s. Anchored w (suc j) [] regs s.scope) (anchored_lasts w n sight knows [] (suc j)) IsPure (pure_evaluated w n sight knows [] (suc j)) i at d.ctype number j (rs ++ kind.Ptr ∷ []) after s t
          (omega (arith, one_more)) (each_pure i pure) q l (omega (arith, more, room)) filling)))

  -- globals, with nothing else in sight
  pub globals_reach : (ds : List Declaration) → AreGlobals w ds → (rs : List MonType) → low ≤ length rs → length (rs ++ all_global_temporaries w.unit ds) ≤ w.registers → (regs : List Value) (s : State) (t : Target) → length regs ≡ w.registers
      → Anchored w low [] regs s.scope → Bounded s.store → Beside w s.store s t → Reaches w Anything low regs s (initialise_all tables ds w.call s) (runs w n t (initialise_globals w.unit rs ds) regs)
  globals_reach [] q rs behind room regs s t long anchored bounded b = reached_here w low regs s t bounded b
  globals_reach (d ∷ ds) q rs behind room regs s t long anchored bounded b =
      let here = global_temporaries w.unit d.init in
      let rest = all_global_temporaries w.unit ds in
      let more : length (rs ++ (here ++ rest)) ≡ length (rs ++ here ++ rest) = omega (arith, length-append (rs ++ here) rest, length-append rs here, length-append rs (here ++ rest), length-append here rest) in
      let first = initialise_global w.unit rs (object_of_global (number_of d) (static_objects w.unit)) d.ctype d.init in
      let others = initialise_globals w.unit (rs ++ here) ds in
      subst (λ q. Reaches w Anything low regs s (initialise_all tables (d ∷ ds) w.call s) q) (sym (before_is w.globals first others w.calls n regs t))
      (reaches_then w Anything Anything low regs s (initialise tables d d.init w.call s) (runs w n t first regs) (λ _. initialise_all tables ds w.call) (λ r u. runs w n u others r)
      (global_reaches d d.init (with_object q.0.sight d) (knows_with w q.0.sight d q.0.knows) q.0.pure q.0.declared.init q.0.letters rs behind (omega (arith, more, room, longer (rs ++ here) rest)) regs s t long
      anchored bounded b)
      (λ _ to after u o same la be _.
      globals_reach ds q.1 (rs ++ here) (omega (arith, behind, longer rs here)) (omega (arith, more, room)) after to u (same.long ∙ long)
      (anchored_anywhere w low low regs after to.scope (subst (Anchored w low [] regs) (sym la.scope) anchored)) la.bounded be))
