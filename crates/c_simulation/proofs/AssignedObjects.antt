-- Objects that are assigned to, or copied, with effects in them: a register points to the object, or to the one in which it is a member.
use Rattle.std.proofs.Common.{◌≡◌, ℕ, suc, ◌<◌, ◌≤◌, Bool, true, false, if◌then◌else◌, List, [], ◌∷◌, ◌++◌, length, Option, Some, None, slice_get, slice_set, refl, sym, ap, ◌∙◌, subst, arith, true≢false}
use Rattle.std.proofs.lemmas.Bool.{leb-true}
use Rattle.std.proofs.lemmas.List.{length-append}
use Rattle.c_syntax.specs.declared.place.Place.{Place}
use Rattle.c_syntax.specs.Ctypes.{PlainType}
use Rattle.c_syntax.specs.Expressions.{Expression, Node, Variable, Dot, Arrow, Assign, Comma, type_of}
use Rattle.c_syntax.specs.Layouts.{Scalar, PointerType, scalar_of, offset_of, target_of}
use Rattle.c_model.specs.Memory.{Pointer, Into, Value, Points, shifted}
use Rattle.c_model.specs.State.{State, Outcome, on_outcome, give, defined, start_of, find}
use Rattle.c_model.specs.Meaning.{Tables, tables_of, eval_with, place_with, pointed_to}
use Rattle.mon_syntax.specs.declared.tree.MonType.{MonType}
use Rattle.mon_syntax.specs.declared.tree.MonType.TheVariants as kind
use Rattle.mon_syntax.specs.Registers.{Bindings}
use Rattle.mon_syntax.specs.Trees.{Register, MonStatements, NoStatement}
use Rattle.c_effects.specs.Expressions.{before, set, farther}
use Rattle.c_effects.specs.Effects.{is_direct, variable_register, block_of}
use Rattle.c_effects.specs.Full.{is_inner, inner_offset, stepped, takes, act_takes, result, location, origin, prepare, act, object_takes, object_of, object_setup, object_type, object_register}
use Rattle.c_simulation.specs.SameRegisters.{Same}
use Rattle.c_simulation.specs.Standing.{Setting, Target, runs, Has, IsSmall, IsInside, Here}
use Rattle.c_simulation.specs.Reaching.{Reaches, Arrives, Valued, Placed}
use Rattle.c_simulation.specs.EffectLaws.{Based, inner_from}
use Rattle.c_simulation.proofs.Anchors.{block_has, block_below}
use Rattle.c_simulation.proofs.Pointers.{shifted_twice}
use Rattle.c_simulation.proofs.Registers.{same_all, same_set, get-set_same, longer}
use Rattle.c_simulation.proofs.Following.{later_same}
use Rattle.c_simulation.proofs.Evaluating.{set_runs}
use Rattle.c_simulation.proofs.PointerValues.{reaches}
use Rattle.c_simulation.proofs.Reaching.{MadeValue, undefined_now, reached_lower, reaches_before, reaches_made}
use Rattle.c_simulation.proofs.Members.{from_shifted}
use Rattle.c_simulation.proofs.Operands.{FromHere, Computes, Locates, Acts, Kinded, long, stands_after, reaches_also, reached_with}

-- a register below a number points to the object, or to the one in which it is a member
abbrev pub Aimed : Setting → Expression → ℕ → ℕ → Pointer → List Value → State → Target → Type 0
Aimed w a r high p after s t = (to : Pointer) × (p ≡ inner_from w.unit.structs a to) × (slice_get after r ≡ Some (Points to)) × (r < high) × (is_inner a ≡ false → IsSmall p)

-- it stays so in later registers, and beside any blocks
pub still_aimed : (w : Setting) (a : Expression) (r high : ℕ) (p : Pointer) (after later : List Value) (s to : State) (t u : Target) → Same high after later → Aimed w a r high p after s t → Aimed w a r high p later to u
still_aimed w a r high p after later s to t u same aimed = (aimed.0, aimed.1, same.below r aimed.3 ∙ aimed.2, aimed.3, aimed.4)

module _ (w : Setting) (n : ℕ) (h : Here) (low : ℕ) (bound : Bindings) where
  abbrev T : Tables
  T = tables_of w.unit

  abbrev pub object_code : List MonType → Expression → MonStatements
  object_code rs a = object_setup (is_direct w.unit a) (length (rs ++ takes w.unit a)) (prepare w.unit bound rs a) (origin w.unit bound rs a)

  abbrev pub Originates : Expression → List MonType → Type 0
  Originates a rs = FromHere w n h low bound (Based w a (long w n h low bound rs a) (origin w.unit bound rs a)) (long w n h low bound rs a) rs (place_with T a w.call) (prepare w.unit bound rs a)

  abbrev pub ObjectReached : Expression → List MonType → Type 0
  ObjectReached a rs =
      FromHere w n h low bound (Aimed w a (object_of w.unit bound rs a) (length (rs ++ object_takes w.unit a))) (length (rs ++ object_takes w.unit a)) rs (place_with T a w.call) (object_code rs a)

  -- what is no member is its own
  pub place_originates : (a : Expression) (rs : List MonType) → is_inner a ≡ false → origin w.unit bound rs a ≡ location w.unit bound rs a → Locates w n h low bound a rs → Originates a rs
  place_originates a rs inner same f s t regs le m be room =
      rw same
      (reached_with w (Placed w (is_inner a) (length (rs ++ takes w.unit a)) (location w.unit bound rs a)) (Based w a (length (rs ++ takes w.unit a)) (location w.unit bound rs a)) (length rs) regs s (place_with T a w.call s)
      (runs w n t (prepare w.unit bound rs a) regs) (f s t regs le m be room) (λ p to after u kept be2 is q.
      (p, sym (ap (λ c. if c then shifted p (inner_offset w.unit.structs a) else p) inner), q.1 (λ c. absurd (true≢false (sym c ∙ inner))), q.0)))

  pub dot_originates : (at : Place) (t : PlainType) (a : Expression) (m : ℕ) (rs : List MonType) → Originates a rs → Originates (Node at t (Dot a m)) rs
  dot_originates at t a m rs f s u regs le st be room =
      let d = offset_of T.structs (type_of a) m in
      let high = length (rs ++ takes w.unit a) in
      reaches_made w (Based w a high (origin w.unit bound rs a)) (Based w (Node at t (Dot a m)) high (origin w.unit bound rs a)) (length rs) regs s (place_with T a w.call s) (runs w n u (prepare w.unit bound rs a) regs) (λ p. give (shifted p d))
      (f s u regs le st be room) (λ p to after v o same later be2 q.
      MadeValue (shifted p d) refl (q.0, ap (λ p. shifted p d) (q.1 ∙ from_shifted w.unit.structs a q.0) ∙ shifted_twice q.0 (inner_offset w.unit.structs a) d, q.2, λ c. absurd (true≢false c)))

  pub arrow_originates : (at : Place) (t : PlainType) (a : Expression) (m : ℕ) (rs : List MonType) → Computes w n h low bound a PointerType rs → Originates (Node at t (Arrow a m)) rs
  arrow_originates at t a m rs f s u regs le st be room =
      let d = offset_of T.structs (target_of (type_of a)) m in
      let high = length (rs ++ takes w.unit a) in
      reaches_made w (Valued w PointerType high (result w.unit bound rs a)) (Based w (Node at t (Arrow a m)) high (result w.unit bound rs a)) (length rs) regs s (eval_with T a w.call s) (runs w n u (prepare w.unit bound rs a) regs)
      (λ x s. on_outcome (pointed_to x s) (λ p. give (shifted p d))) (f s u regs le st be room) (λ x to after v o same later be2 q.
      MadeValue (shifted q.0.0 d) (ap (λ x. on_outcome (pointed_to x to) (λ p. give (shifted p d))) q.0.1) (q.0.0, refl, λ later same2. q.1 later same2 ∙ ap Some q.0.1, λ c. absurd (true≢false c)))

  -- ---- a comma

  module _ (at : Place) (t : PlainType) (a b : Expression) (rs : List MonType) (behind : low ≤ length rs) (a_acts : Acts w n h low bound a rs) where
    abbrev rs2 : List MonType
    rs2 = rs ++ act_takes w.unit a

    abbrev this : Expression
    this = Node at t (Comma a b)

    comma_long : length (rs ++ (act_takes w.unit a ++ takes w.unit b)) ≡ length (rs2 ++ takes w.unit b)
    comma_long = omega (arith, length-append rs (act_takes w.unit a ++ takes w.unit b), length-append (act_takes w.unit a) (takes w.unit b), length-append rs2 (takes w.unit b), length-append rs (act_takes w.unit a))

    -- the left side for its effects, and then the right one
    pub comma_then : {A : Type 0} (P : A → List Value → State → Target → Type 0) (high : ℕ) (r : State → Outcome A) (code : MonStatements) → length rs2 ≤ high → FromHere w n h low bound P high rs2 r code
        → FromHere w n h low bound P high rs (λ s. on_outcome (eval_with T a w.call s) (λ _. r)) (before (act w.unit bound rs a) code)
    comma_then P high r code le2 f s u regs le m be room =
        reaches_before w n (Kinded (scalar_of (type_of a))) P (length rs) regs s u (eval_with T a w.call s) (act w.unit bound rs a) code (λ _. r) (a_acts s u regs le m be (omega (arith, le2, room))) (λ v to after x o same later be2 p.
        reached_lower w P (length rs) (length rs2) after to (r to) (runs w n x code after) (longer rs (act_takes w.unit a))
        (f to x after (omega (arith, le, later.spent)) (stands_after w n h low bound rs regs after s to o behind same later m) be2 room))

    pub comma_computes : (k : Scalar) → Computes w n h low bound b k rs2 → Computes w n h low bound this k rs
    comma_computes k f = rw comma_long (comma_then (Valued w k (length (rs2 ++ takes w.unit b)) (result w.unit bound rs2 b)) (length (rs2 ++ takes w.unit b)) (eval_with T b w.call) (prepare w.unit bound rs2 b) (longer rs2 (takes w.unit b)) f)

    pub comma_locates : Locates w n h low bound b rs2 → Locates w n h low bound this rs
    comma_locates f =
        rw comma_long (comma_then (Placed w (is_inner b) (length (rs2 ++ takes w.unit b)) (location w.unit bound rs2 b)) (length (rs2 ++ takes w.unit b)) (place_with T b w.call) (prepare w.unit bound rs2 b) (longer rs2 (takes w.unit b)) f)

    pub comma_originates : Originates b rs2 → Originates this rs
    comma_originates f = rw comma_long (comma_then (Based w b (length (rs2 ++ takes w.unit b)) (origin w.unit bound rs2 b)) (length (rs2 ++ takes w.unit b)) (place_with T b w.call) (prepare w.unit bound rs2 b) (longer rs2 (takes w.unit b)) f)

    pub comma_acts : {A : Type 0} (P : A → List Value → State → Target → Type 0) (r : State → Outcome A) → FromHere w n h low bound P (length (rs2 ++ act_takes w.unit b)) rs2 r (act w.unit bound rs2 b)
        → FromHere w n h low bound P (length (rs ++ (act_takes w.unit a ++ act_takes w.unit b))) rs (λ s. on_outcome (eval_with T a w.call s) (λ _. r)) (before (act w.unit bound rs a) (act w.unit bound rs2 b))
    comma_acts P r f =
        let size : length (rs ++ (act_takes w.unit a ++ act_takes w.unit b)) ≡ length (rs2 ++ act_takes w.unit b) =
        omega (arith, length-append rs (act_takes w.unit a ++ act_takes w.unit b), length-append (act_takes w.unit a) (act_takes w.unit b), length-append rs2 (act_takes w.unit b), length-append rs (act_takes w.unit a)) in
        rw size (comma_then P (length (rs2 ++ act_takes w.unit b)) r (act w.unit bound rs2 b) (longer rs2 (act_takes w.unit b)) f)

  -- ---- the register

  -- a variable of a function has one already
  direct_reached : (a : Expression) (rs : List MonType) → low ≤ length rs → is_direct w.unit a ≡ true
      → FromHere w n h low bound (Aimed w a (variable_register bound a) (length (rs ++ []))) (length (rs ++ [])) rs (place_with T a w.call) NoStatement
  direct_reached (Node at u (Variable x)) rs behind d s t regs le m be room = by (find x.decl s.scope) refl
    where
      r : ℕ
      r = block_of bound x.decl

      by : (o : Option ℕ) → find x.decl s.scope ≡ o → Reaches w (Aimed w (Node at u (Variable x)) r (length (rs ++ []))) (length rs) regs s (place_with T (Node at u (Variable x)) w.call s) (runs w n t NoStatement regs)
      by None f = undefined_now w (Aimed w (Node at u (Variable x)) r (length (rs ++ []))) (length rs) regs s (place_with T (Node at u (Variable x)) w.call s) (runs w n t NoStatement regs) at (ap (λ o. defined at (start_of o) s) f)
      by (Some number) f =
          let local = leb-true _ _ d in
          let below = block_below w low bound regs s.scope x.decl number m.anchored f local in
          Arrives (Into number 0) s regs t [] (same_all (length rs) regs) (later_same s m.bounded) be (ap (λ o. defined at (start_of o) s) f) refl
          (Into number 0, refl, block_has w low low bound regs regs s.scope x.decl number (omega arith) (same_all low regs) m.anchored f local, omega (arith, below, behind, longer rs []), λ c. omega arith)
  direct_reached _ rs behind d s t regs le m be room = absurd cc

  -- another pointer is put into a further one
  indirect_reached : (a : Expression) (rs : List MonType) → Originates a rs
      → FromHere w n h low bound (Aimed w a (length (rs ++ takes w.unit a)) (length (rs ++ (takes w.unit a ++ kind.Ptr ∷ [])))) (length (rs ++ (takes w.unit a ++ kind.Ptr ∷ []))) rs (place_with T a w.call)
      (before (prepare w.unit bound rs a) (set (length (rs ++ takes w.unit a)) (origin w.unit bound rs a)))
  indirect_reached a rs f s t regs le m be room =
      let r = length (rs ++ takes w.unit a) in
      let high = length (rs ++ (takes w.unit a ++ kind.Ptr ∷ [])) in
      let size : high ≡ suc r = omega (arith, length-append rs (takes w.unit a ++ kind.Ptr ∷ []), length-append (takes w.unit a) (kind.Ptr ∷ []), length-append rs (takes w.unit a)) in
      reaches_also w n (Based w a r (origin w.unit bound rs a)) (Aimed w a r high) (length rs) regs s t (place_with T a w.call s) (prepare w.unit bound rs a)
      (set r (origin w.unit bound rs a)) (f s t regs le m be (omega (arith, size, room))) (λ p to after v o same later be2 q.
      Arrives p to (slice_set after r (Points q.0)) v [] (same_set (length rs) r after (Points q.0) (longer rs (takes w.unit a))) (later_same to later.bounded) be2 refl
      (set_runs w n v r (origin w.unit bound rs a) after (Points q.0) (q.2 after (same_all r after)))
      (q.0, q.1, get-set_same after r (Points q.0) (omega (arith, size, room, same.long, m.registers)), omega (arith, size), q.3))

  pub object_reached : (a : Expression) (rs : List MonType) → low ≤ length rs → Originates a rs → ObjectReached a rs
  object_reached a rs behind f = by (is_direct w.unit a) refl
    where
      by : (c : Bool) → is_direct w.unit a ≡ c
          → FromHere w n h low bound (Aimed w a (object_register c (variable_register bound a) (length (rs ++ takes w.unit a))) (length (rs ++ object_type c (takes w.unit a)))) (length (rs ++ object_type c (takes w.unit a))) rs
          (place_with T a w.call)
          (object_setup c (length (rs ++ takes w.unit a)) (prepare w.unit bound rs a) (origin w.unit bound rs a))
      by true d = direct_reached a rs behind d
      by false d = indirect_reached a rs f

  -- ---- a struct that was assigned stands where it was assigned

  pub aimed_located : (a : Expression) (r high : ℕ) (p : Pointer) (after : List Value) (s : State) (t : Target) → Aimed w a r high p after s t → Placed w (is_inner a) high (stepped w.unit.structs a (Register r)) p after s t
  aimed_located a r high p after s t aimed = (aimed.4, λ inside later same. by (is_inner a) refl inside later same)
    where
      d : ℕ
      d = inner_offset w.unit.structs a

      by : (c : Bool) → is_inner a ≡ c → (is_inner a ≡ true → IsInside t.mem.store p) → (later : List Value) → Same high after later → Has w (if c then farther (Register r) d else Register r) later t.mem (Points p)
      by true c inside later same =
          let is : p ≡ shifted aimed.0 d = aimed.1 ∙ ap (λ c. if c then shifted aimed.0 d else aimed.0) c in
          subst (λ z. Has w (farther (Register r) d) later t.mem (Points z)) (sym is)
          (reaches w later t.mem r aimed.0 d (same.below r aimed.3 ∙ aimed.2) (subst (IsInside t.mem.store) is (inside c)))
      by false c inside later same =
          let is : p ≡ aimed.0 = aimed.1 ∙ ap (λ c. if c then shifted aimed.0 d else aimed.0) c in
          same.below r aimed.3 ∙ aimed.2 ∙ ap (λ z. Some (Points z)) (sym is)

  pub aimed_based : (at : Place) (u : PlainType) (a b : Expression) (r high : ℕ) (p : Pointer) (after : List Value) (s : State) (t : Target) → Aimed w a r high p after s t → Based w (Node at u (Assign None a b)) high (Register r) p after s t
  aimed_based at u a b r high p after s t aimed = (aimed.0, aimed.1, λ later same. same.below r aimed.3 ∙ aimed.2, aimed.4)
