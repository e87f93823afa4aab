-- Assignments, compound assignments, `++` and `--`, of objects with effects in them and of right sides with effects, as values, as places and for their effects alone.
use Rattle.std.proofs.Common.{◌≡◌, ℕ, suc, ◌+◌, ◌<◌, ◌≤◌, Bool, true, false, not, List, [], ◌∷◌, ◌++◌, length, Option, Some, None, slice_get, refl, sym, ◌∙◌, subst, arith}
use Rattle.std.proofs.lemmas.List.{length-append}
use Rattle.c_syntax.specs.declared.place.Place.{Place}
use Rattle.c_syntax.specs.Ctypes.{PlainType}
use Rattle.c_syntax.specs.Expressions.{Expression, Node, Assign}
use Rattle.c_syntax.specs.Layouts.{Scalar, scalar_of, scalars_of}
use Rattle.c_model.specs.HeapLaws.{sizes_of}
use Rattle.c_model.specs.Memory.{Pointer, Value, NoValue, shifted}
use Rattle.c_model.specs.State.{State, Outcome, Normal, Stop, Evaluation, on_outcome, ◌>>=◌, ◌>>◌, give, write, copy_object}
use Rattle.c_model.specs.Meaning.{Tables, tables_of, eval_with, place_with, assigned}
use Rattle.mon_syntax.specs.declared.tree.MonType.{MonType}
use Rattle.mon_syntax.specs.Registers.{Bindings}
use Rattle.mon_syntax.specs.BlockMemory.{Blocks}
use Rattle.mon_syntax.specs.Trees.{MonExpression, Register, MonStatements}
use Rattle.c_effects.specs.Expressions.{value_type, before}
use Rattle.c_effects.specs.Effects.{copies_at}
use Rattle.c_effects.specs.Full.{is_settled, is_inner, inner_offset, stepped, takes, result, prepare, kept_value, value_of, object_takes, object_of, member_type, member_setup, member_register}
use Rattle.c_effects.specs.Full.{assigned_types, assigned_setup, reached}
use Rattle.c_simulation.specs.SameRegisters.{Same}
use Rattle.c_simulation.specs.Standing.{Setting, Target, runs, Has, IsOf, Here}
use Rattle.c_simulation.specs.Reaching.{Reaches, Anything, Valued, Placed}
use Rattle.c_simulation.specs.EffectLaws.{Based}
use Rattle.c_simulation.proofs.Registers.{same_trans, longer}
use Rattle.c_simulation.proofs.Copies.{copies_reach}
use Rattle.c_simulation.proofs.Reaching.{MadeValue, reached_lower, reaches_before, reaches_made}
use Rattle.c_simulation.proofs.Settled.{settled_stays}
use Rattle.c_simulation.proofs.Members.{from_shifted}
use Rattle.c_simulation.proofs.Operands.{FromHere, Computes, Locates, Acts, ActsAt, Kinded, of_kind, stands_after}
use Rattle.c_simulation.proofs.AssignedObjects.{Aimed, Originates, aimed_located, aimed_based, ObjectReached, object_code, still_aimed}
use Rattle.c_simulation.proofs.StoredValues.{tail, stored_is, reached_is, part_put}

-- what is given in place of something else
pub given_instead : {A B C : Type 0} (r : Outcome A) (m : A → Evaluation (Unit {0})) (f : A → B) (c : C) → on_outcome (on_outcome r (λ x. m x >> give (f x))) (λ _. give c) ≡ on_outcome r (λ x. m x >> give c)
given_instead (Stop e s) m f c = refl
given_instead (Normal a s) m f c = by (m a s)
  where
    by : (q : Outcome (Unit {0})) → on_outcome (on_outcome q (λ _. give (f a))) (λ _. give c) ≡ on_outcome q (λ _. give c)
    by (Normal x u) = refl
    by (Stop e u) = refl

module _ (w : Setting) (n : ℕ) (h : Here) (low : ℕ) (bound : Bindings) where
  abbrev T : Tables
  T = tables_of w.unit

  -- ---- `=`, as the source and the translation say it, by the scalar type where there is one

  module _ (at : Place) (u : PlainType) (a b : Expression) (rs : List MonType) where
    abbrev front : List MonType
    front = rs ++ object_takes w.unit a

    abbrev r : ℕ
    r = object_of w.unit bound rs a

    abbrev j : ℕ
    j = length (front ++ takes w.unit b)

    abbrev v : ℕ
    v = length (front ++ takes w.unit b ++ member_type a)

    abbrev e : MonExpression
    e = result w.unit bound front b

    abbrev first : MonStatements
    first = object_code w n h low bound rs a

    abbrev second : MonStatements
    second = prepare w.unit bound front b

    abbrev types : Option Scalar → Bool → List MonType
    types x kept = assigned_types x kept (value_type u) a (object_takes w.unit a) (takes w.unit b) (object_takes w.unit b)

    abbrev AssignFrom : {B : Type 0} → (B → List Value → State → Target → Type 0) → Bool → (Pointer → Evaluation Value → Evaluation B) → Option Scalar → Type 0
    AssignFrom Q kept goes x =
        FromHere w n h low bound Q (length (rs ++ types x kept)) rs
        (λ s. on_outcome (place_with T a w.call s) (λ p. goes p (assigned T.structs at u x p (eval_with T b w.call) (place_with T b w.call))))
        (assigned_setup w.unit bound rs x kept u a b first second (object_code w n h low bound front b))

    -- ---- of a scalar

    module _ (k : Scalar) (is : scalar_of u ≡ Some k) (behind : low ≤ length rs) (object : ObjectReached w n h low bound a rs) (value : Computes w n h low bound b k front) where
      abbrev Good : {B : Type 0} → (B → List Value → State → Target → Type 0) → Bool → (Pointer → Value → B) → Type 0
      Good Q kept y =
          (p : Pointer) (x : Value) (old : Blocks) (to : State) (after : List Value) (t2 : Target) → IsOf k x → ((later : List Value) → Same v after later → Has w e later old x) → (kept ≡ true → slice_get after v ≡ Some x) → Q (y p x) after to t2

      -- the object, the value, and the store
      assign_reaches : {B : Type 0} (Q : B → List Value → State → Target → Type 0) (kept : Bool) (y : Pointer → Value → B) (high : ℕ) → v ≤ high → (kept ≡ true → v < high) → Good Q kept y
          → FromHere w n h low bound Q high rs (λ s. on_outcome (place_with T a w.call s) (λ p. eval_with T b w.call >>= λ x. write at p k x >> give (y p x)))
          (before first (before second (before (member_setup T.structs r j a) (tail kept v (member_register r j a) u e))))
      assign_reaches Q kept y high most kept_room good s t regs le m be room =
          let v_is : v ≡ j + length (member_type a) = length-append (front ++ takes w.unit b) (member_type a) in
          let stores = before (member_setup T.structs r j a) (tail kept v (member_register r j a) u e) in
          reaches_before w n (Aimed w a r (length front)) Q (length rs) regs s t (place_with T a w.call s) first (before second stores) (λ p. eval_with T b w.call >>= λ x. write at p k x >> give (y p x))
          (object s t regs le m be (omega (arith, longer front (takes w.unit b), v_is, most, room))) (λ p to after t2 o same later be2 aimed.
          reached_lower w Q (length rs) (length front) after to _ (runs w n t2 (before second stores) after) (longer rs (object_takes w.unit a))
          (reaches_before w n (Valued w k j e) Q (length front) after to t2 (eval_with T b w.call to) second stores (λ x. write at p k x >> give (y p x))
          (value to t2 after (omega (arith, le, later.spent)) (stands_after w n h low bound rs regs after s to o behind same later m) be2 (omega (arith, v_is, most, room))) (λ x to2 after2 t3 o2 same2 later2 be3 has.
          reached_lower w Q (length front) j after2 to2 _ (runs w n t3 stores after2) (longer front (takes w.unit b))
          (part_put w n h low bound at u k is Q kept a r (length front) j v e p x (y p x) to2 t3 after2 later2.bounded be3 (still_aimed w a r (length front) p after after2 to to2 t2 t3 same2 aimed) (longer front (takes w.unit b)) v_is
          (omega (arith, most, room, same.long, same2.long, m.registers)) (λ c. omega (arith, kept_room c, room, same.long, same2.long, m.registers)) has.0 has.1
          (λ to3 after3 t4 same3 held. good p x t3.mem to3 after3 t4 has.0 (λ later3 same4. has.1 later3 (same_trans j v after2 after3 later3 (omega (arith, v_is)) same3 same4)) held)))))

      -- how many registers there are
      size : length (rs ++ (object_takes w.unit a ++ takes w.unit b ++ member_type a)) ≡ v
      size =
          omega (
            arith,
            length-append rs (object_takes w.unit a ++ takes w.unit b ++ member_type a),
            length-append (object_takes w.unit a ++ takes w.unit b) (member_type a),
            length-append (object_takes w.unit a) (takes w.unit b),
            length-append (front ++ takes w.unit b) (member_type a),
            length-append front (takes w.unit b),
            length-append rs (object_takes w.unit a),
          )

      more : length (rs ++ (object_takes w.unit a ++ takes w.unit b ++ member_type a ++ value_type u ∷ [])) ≡ suc v
      more =
          omega (
            arith,
            size,
            length-append rs (object_takes w.unit a ++ takes w.unit b ++ member_type a ++ value_type u ∷ []),
            length-append (object_takes w.unit a ++ takes w.unit b ++ member_type a) (value_type u ∷ []),
            length-append rs (object_takes w.unit a ++ takes w.unit b ++ member_type a),
          )

      assign_coded : {B : Type 0} (Q : B → List Value → State → Target → Type 0) (kept : Bool) (y : Pointer → Value → B) (goes : Pointer → Evaluation Value → Evaluation B)
          → ((p : Pointer) (s : State) → on_outcome (eval_with T b w.call s) (λ x. write at p k x >> give (y p x)) ≡ goes p (eval_with T b w.call >>= λ x. write at p k x >> give x) s)
          → Good Q kept y → AssignFrom Q kept goes (Some k)
      assign_coded {B} Q kept y goes same good s t regs le m be room =
          let f = λ (p : Pointer). eval_with T b w.call >>= λ x. write at p k x >> give (y p x) in
          let part = member_register r j a in
          let code_is = stored_is kept v part u (reached T.structs first second r j a) e ∙ reached_is T.structs first second r j a (tail kept v part u e) in
          subst (λ (f : Pointer → Evaluation B). Reaches w Q (length rs) regs s (on_outcome (place_with T a w.call s) f) (runs w n t (assigned_setup w.unit bound rs (Some k) kept u a b first second (object_code w n h low bound front b)) regs))
          (λ i p s. same p s i)
          (subst (λ code. Reaches w Q (length rs) regs s (on_outcome (place_with T a w.call s) f) (runs w n t code regs)) (sym code_is)
          (assign_reaches Q kept y (length (rs ++ types (Some k) kept)) (fits kept) (fits_kept kept) good s t regs le m be room))
        where
          fits : (kept : Bool) → v ≤ length (rs ++ types (Some k) kept)
          fits true = omega (arith, more)
          fits false = omega (arith, size)

          fits_kept : (kept : Bool) → kept ≡ true → v < length (rs ++ types (Some k) kept)
          fits_kept true c = omega (arith, more)
          fits_kept false c = absurd cc

      pub assign_computes : Computes w n h low bound (Node at u (Assign None a b)) k rs
      assign_computes =
          subst (λ x. AssignFrom (Valued w k (length (rs ++ types x (not (is_settled b)))) (value_of x (kept_value (not (is_settled b)) v e))) (not (is_settled b)) (λ p q. q) x) (sym is)
          (assign_coded (Valued w k (length (rs ++ types (Some k) (not (is_settled b)))) (kept_value (not (is_settled b)) v e)) (not (is_settled b)) (λ p x. x) (λ p q. q) (λ p s. refl)
          (λ p x old to after t2 fit has held. (fit, λ later same. by p x old to after t2 (is_settled b) refl has held later same)))
        where
          by : (p : Pointer) (x : Value) (old : Blocks) (to : State) (after : List Value) (t2 : Target) (c : Bool) → is_settled b ≡ c → ((later : List Value) → Same v after later → Has w e later old x) → (not c ≡ true → slice_get after v ≡ Some x)
              → (later : List Value) → Same (length (rs ++ types (Some k) (not c))) after later → Has w (kept_value (not c) v e) later t2.mem x
          by p x old to after t2 true c has held later same = settled_stays w bound front b c later old t2.mem x (has later (subst (λ high. Same high after later) size same))
          by p x old to after t2 false c has held later same = same.below v (omega (arith, more)) ∙ held refl

      pub assign_acts : Acts w n h low bound (Node at u (Assign None a b)) rs
      assign_acts = subst (λ x. AssignFrom (Kinded x) false (λ p q. q) x) (sym is) (assign_coded (Kinded (Some k)) false (λ p x. x) (λ p q. q) (λ p s. refl) (λ p x old to after t2 fit has held. of_kind k x fit))

      pub assign_acts_at : ActsAt w n h low bound (Node at u (Assign None a b)) rs
      assign_acts_at =
          subst (λ x. AssignFrom Anything false (λ p q. q >> give p) x) (sym is)
          (assign_coded Anything false (λ p x. p) (λ p q. q >> give p) (λ p s. sym (given_instead (eval_with T b w.call s) (λ x. write at p k x) (λ x. x) p)) (λ p x old to after t2 fit has held. tt))

    -- ---- of a struct, from a place; it stands where it was assigned

    module _ (is : scalar_of u ≡ None) (behind : low ≤ length rs) (object : ObjectReached w n h low bound a rs) (other : ObjectReached w n h low bound b front) where
      abbrev cs : List (ℕ × Scalar)
      cs = scalars_of T.structs u

      abbrev copies : MonStatements
      copies = copies_at r (inner_offset T.structs a) (object_of w.unit bound front b) (inner_offset T.structs b) cs

      abbrev third : MonStatements
      third = object_code w n h low bound front b

      struct_coded : {B : Type 0} (Q : B → List Value → State → Target → Type 0) (kept : Bool) (y : Pointer → B) (goes : Pointer → Evaluation Value → Evaluation B)
          → ((p : Pointer) (s : State) → on_outcome (place_with T b w.call s) (λ q. copy_object at p q (sizes_of cs) >> give (y p)) ≡ goes p (place_with T b w.call >>= λ q. copy_object at p q (sizes_of cs) >> give NoValue) s)
          → ((p : Pointer) (to : State) (after : List Value) (t2 : Target) → Aimed w a r (length front) p after to t2 → Q (y p) after to t2) → AssignFrom Q kept goes None
      struct_coded {B} Q kept y goes same good s t regs le m be room =
          let size : length (rs ++ (object_takes w.unit a ++ object_takes w.unit b)) ≡ length (front ++ object_takes w.unit b) =
          omega (arith, length-append rs (object_takes w.unit a ++ object_takes w.unit b), length-append (object_takes w.unit a) (object_takes w.unit b), length-append front (object_takes w.unit b), length-append rs (object_takes w.unit a)) in
          let r2 = object_of w.unit bound front b in
          let far = length (front ++ object_takes w.unit b) in
          let f = λ (p : Pointer). place_with T b w.call >>= λ q. copy_object at p q (sizes_of cs) >> give (y p) in
          subst (λ (f : Pointer → Evaluation B). Reaches w Q (length rs) regs s (on_outcome (place_with T a w.call s) f) (runs w n t (before first (before third copies)) regs)) (λ i p s. same p s i)
          (reaches_before w n (Aimed w a r (length front)) Q (length rs) regs s t (place_with T a w.call s) first (before third copies) f
          (object s t regs le m be (omega (arith, size, room, longer front (object_takes w.unit b)))) (λ p to after t2 o same2 later be2 aimed.
          reached_lower w Q (length rs) (length front) after to (f p to) (runs w n t2 (before third copies) after) (longer rs (object_takes w.unit a))
          (reaches_before w n (Aimed w b r2 far) Q (length front) after to t2 (place_with T b w.call to) third copies (λ q. copy_object at p q (sizes_of cs) >> give (y p))
          (other to t2 after (omega (arith, le, later.spent)) (stands_after w n h low bound rs regs after s to o behind same2 later m) be2 (omega (arith, size, room))) (λ q to2 after2 t3 o2 same3 later2 be3 from.
          let held = still_aimed w a r (length front) p after after2 to to2 t2 t3 same3 aimed in
          reaches_made w Anything Q (length front) after2 to2 (copy_object at p q (sizes_of cs) to2) (runs w n t3 copies after2) (λ _. give (y p))
          (subst (λ p. Reaches w Anything (length front) after2 to2 (copy_object at p q (sizes_of cs) to2) (runs w n t3 copies after2)) (sym (held.1 ∙ from_shifted T.structs a held.0))
          (subst (λ q. Reaches w Anything (length front) after2 to2 (copy_object at (shifted held.0 (inner_offset T.structs a)) q (sizes_of cs) to2) (runs w n t3 copies after2)) (sym (from.1 ∙ from_shifted T.structs b from.0))
          (copies_reach w n (length front) at cs held.0 from.0 r (inner_offset T.structs a) r2 (inner_offset T.structs b) to2 t3 after2 later2.bounded be3 held.2 from.2)))
          (λ x to3 after3 t4 o3 same4 later3 be4 x2. MadeValue (y p) refl (good p to3 after3 t4 (still_aimed w a r (length front) p after2 after3 to2 to3 t3 t4 same4 held)))))))

      -- as a place, where what holds depends on registers below the last one
      struct_place : (Q : ℕ → Pointer → List Value → State → Target → Type 0) → ((high : ℕ) (p : Pointer) (to : State) (after : List Value) (t2 : Target) → Aimed w a r high p after to t2 → Q high p after to t2) → (kept : Bool)
          → AssignFrom (Q (length (rs ++ types (scalar_of u) kept))) kept (λ p q. q >> give p) (scalar_of u)
      struct_place Q good kept =
          subst (λ x. AssignFrom (Q (length (rs ++ types x kept))) kept (λ p q. q >> give p) x) (sym is)
          (struct_coded (Q (length (rs ++ types None kept))) kept (λ p. p) (λ p q. q >> give p) (λ p s. sym (given_instead (place_with T b w.call s) (λ q. copy_object at p q (sizes_of cs)) (λ _. NoValue) p))
          (λ p to after t2 aimed. good (length (rs ++ types None kept)) p to after t2 (
            aimed.0,
            aimed.1,
            aimed.2,
            omega (arith, aimed.3, length-append rs (object_takes w.unit a ++ object_takes w.unit b), length-append (object_takes w.unit a) (object_takes w.unit b), length-append rs (object_takes w.unit a)),
            aimed.4,
          )))

      pub struct_locates : Locates w n h low bound (Node at u (Assign None a b)) rs
      struct_locates = struct_place (λ high. Placed w (is_inner a) high (stepped T.structs a (Register r))) (λ high p to after t2 aimed. aimed_located w n h low bound a r high p after to t2 aimed) (not (is_settled b))

      pub struct_originates : Originates w n h low bound (Node at u (Assign None a b)) rs
      struct_originates = struct_place (λ high. Based w (Node at u (Assign None a b)) high (Register r)) (λ high p to after t2 aimed. aimed_based w n h low bound at u a b r high p after to t2 aimed) (not (is_settled b))

      pub struct_acts_at : ActsAt w n h low bound (Node at u (Assign None a b)) rs
      struct_acts_at = struct_place (λ high. Anything) (λ high p to after t2 aimed. tt) false

      pub struct_acts : Acts w n h low bound (Node at u (Assign None a b)) rs
      struct_acts = subst (λ x. AssignFrom (Kinded x) false (λ p q. q) x) (sym is) (struct_coded (Kinded None) false (λ p. NoValue) (λ p q. q) (λ p s. refl) (λ p to after t2 aimed. tt))
