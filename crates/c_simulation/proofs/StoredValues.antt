-- What is stored: a value in an object or a member of one, perhaps through a further register that keeps it; `op=`, `++` and `--` where the old value is read late,
-- or kept in a register.
use Rattle.std.proofs.Common.{◌≡◌, ℕ, suc, ◌+◌, ◌<◌, ◌≤◌, Bool, true, false, if◌then◌else◌, List, [], ◌∷◌, ◌++◌, length, Option, Some, None, slice_get, slice_set, refl, sym, ap, ◌∙◌, subst, arith}
use Rattle.c_syntax.specs.declared.place.Place.{Place}
use Rattle.c_syntax.specs.declared.expression.BinOp.{BinOp}
use Rattle.c_syntax.specs.Ctypes.{PlainType}
use Rattle.c_syntax.specs.Expressions.{Expression}
use Rattle.c_syntax.specs.Layouts.{Scalar, scalar_of, scalar_size}
use Rattle.c_syntax.specs.Programs.{StructType}
use Rattle.c_model.specs.Memory.{Pointer, Value, Points, Store, load, save, bytes_from, shifted}
use Rattle.c_model.specs.State.{State, Normal, Evaluation, on_outcome, ◌>>=◌, ◌>>◌, give, defined, computed, put_store, read, write}
use Rattle.c_model.specs.Meaning.{Tables, tables_of, place_with, compound}
use Rattle.c_model.specs.ExpressionTyping.{Sight}
use Rattle.c_model.specs.TypedTrees.{CompoundTypes}
use Rattle.mon_syntax.specs.declared.tree.MonType.{MonType}
use Rattle.mon_syntax.specs.declared.tree.MonType.TheVariants as kind
use Rattle.mon_syntax.specs.Registers.{Bindings}
use Rattle.mon_syntax.specs.Meaning.{Done, Next, eval}
use Rattle.mon_syntax.specs.BlockMemory.{over_blocks}
use Rattle.mon_syntax.specs.Trees.{MonExpression, Register, Load, MonStatements, NoStatement}
use Rattle.mon_syntax.specs.Trees as tree
use Rattle.c_effects.specs.Expressions.{before, one, set, farther}
use Rattle.c_effects.specs.Expressions as spec
use Rattle.c_effects.specs.Effects.{current, store}
use Rattle.c_effects.specs.Full.{is_inner, inner_offset, object_takes, object_of, member_type, member_setup, member_register, reached, stored}
use Rattle.c_effects.proofs.Sequences.{before_assoc}
use Rattle.c_simulation.specs.SameRegisters.{Same}
use Rattle.c_simulation.specs.Standing.{Setting, Target, Did, runs, Has, IsOf, IsInside, Bounded, Here, Standing, Beside}
use Rattle.c_simulation.specs.Reaching.{Reaches, Anything, Valued}
use Rattle.c_simulation.proofs.Bounds.{loaded_is_of}
use Rattle.c_simulation.proofs.Pointers.{loaded_inside, saved_inside}
use Rattle.c_simulation.proofs.PointerValues.{scalar_register, value_type_is, load_has, reaches}
use Rattle.c_simulation.proofs.Registers.{same_all, same_less, same_trans, same_set, get-set_same, longer}
use Rattle.c_simulation.proofs.Following.{later_same, standing_later}
use Rattle.c_simulation.proofs.Evaluating.{set_runs}
use Rattle.c_simulation.proofs.Compounds.{combined}
use Rattle.c_simulation.proofs.Stores.{write_reaches}
use Rattle.c_simulation.proofs.Reaching.{MadeValue, undefined_now, reached_lower, reaches_before, reaches_behind, reaches_made}
use Rattle.c_simulation.proofs.Operands.{FromHere, reached_with, stands_after}
use Rattle.c_simulation.proofs.AssignedObjects.{Aimed, ObjectReached, object_code, still_aimed}

-- ---- the order of the statements

-- the value, perhaps in a register, and its store
abbrev pub tail : Bool → ℕ → ℕ → PlainType → MonExpression → MonStatements
tail kept v part u value = before (if kept then set v value else NoStatement) (store part u (if kept then Register v else value))

pub stored_is : (kept : Bool) (v part : ℕ) (u : PlainType) (setup : MonStatements) (value : MonExpression) → stored kept v part u setup value ≡ before setup (tail kept v part u value)
stored_is true v part u setup value = before_assoc setup (set v value) (store part u (Register v))
stored_is false v part u setup value = refl

pub reached_is : (structs : List StructType) (object right : MonStatements) (r k : ℕ) (a : Expression) (rest : MonStatements)
    → before (reached structs object right r k a) rest ≡ before object (before right (before (member_setup structs r k a) rest))
reached_is structs object right r k a rest =
    before_assoc object (before right (member_setup structs r k a)) rest ∙ ap (before object) (before_assoc right (member_setup structs r k a) rest)

-- ---- members

-- a register points to what is stored to, after these statements
pub record PartReached (w : Setting) (n : ℕ) (code : MonStatements) (part k : ℕ) (p : Pointer) (t : Target) (regs : List Value) : Type 0 where
  pub after : List Value
  pub same : Same k regs after
  pub run : runs w n t code regs ≡ Done (Next after) t []
  pub points : slice_get after part ≡ Some (Points p)

pub part_reached : (w : Setting) (n : ℕ) (a : Expression) (r high k : ℕ) (p : Pointer) (s : State) (t : Target) (regs : List Value) → Aimed w a r high p regs s t → k + length (member_type a) ≤ length regs → IsInside t.mem.store p
    → PartReached w n (member_setup w.unit.structs r k a) (member_register r k a) k p t regs
part_reached w n a r high k p s t regs aimed room inside = by (is_inner a) refl room
  where
    d : ℕ
    d = inner_offset w.unit.structs a

    by : (c : Bool) → is_inner a ≡ c → k + length (if c then kind.Ptr ∷ [] else []) ≤ length regs → PartReached w n (if c then set k (farther (Register r) d) else NoStatement) (if c then k else r) k p t regs
    by true c room =
        let is : p ≡ shifted aimed.0 d = aimed.1 ∙ ap (λ c. if c then shifted aimed.0 d else aimed.0) c in
        let has : Has w (farther (Register r) d) regs t.mem (Points p) =
        subst (λ z. Has w (farther (Register r) d) regs t.mem (Points z)) (sym is) (reaches w regs t.mem r aimed.0 d aimed.2 (subst (IsInside t.mem.store) is inside)) in
        record {
          after = slice_set regs k (Points p);
          same = same_set k k regs (Points p) (omega arith);
          run = set_runs w n t k (farther (Register r) d) regs (Points p) has;
          points = get-set_same regs k (Points p) (omega (arith, room));
        }
    by false c room = record {
      after = regs;
      same = same_all k regs;
      run = refl;
      points = aimed.2 ∙ ap (λ z. Some (Points z)) (sym (aimed.1 ∙ ap (λ c. if c then shifted aimed.0 d else aimed.0) c));
    }

-- that register lies below the next one
pub part_below : (a : Expression) (r k : ℕ) → r < k → member_register r k a < k + length (member_type a)
part_below a r k lt = by (is_inner a)
  where
    by : (c : Bool) → (if c then k else r) < k + length (if c then kind.Ptr ∷ [] else [])
    by true = omega arith
    by false = omega (arith, lt)

module _ (w : Setting) (n : ℕ) (h : Here) (low : ℕ) (bound : Bindings) where
  abbrev T : Tables
  T = tables_of w.unit

  module _ (at : Place) (u : PlainType) (k : Scalar) (is : scalar_of u ≡ Some k) where
    -- a value is stored, perhaps through a register
    pub put_reaches : {B : Type 0} (Q : B → List Value → State → Target → Type 0) (kept : Bool) (v part : ℕ) (value : MonExpression) (p : Pointer) (z : Value) (y : B) (s : State) (t : Target) (regs : List Value)
        → Bounded s.store → Beside w s.store s t → slice_get regs part ≡ Some (Points p) → part < v → (kept ≡ true → v < length regs) → IsOf k z → Has w value regs t.mem z
        → ((to : State) (after : List Value) (t2 : Target) → Same v regs after → (kept ≡ true → slice_get after v ≡ Some z) → Q y after to t2)
        → Reaches w Q v regs s ((write at p k z >> give y) s) (runs w n t (tail kept v part u value) regs)
    put_reaches Q kept v part value p z y s t regs bounded be points below room fit has good = by kept room good
      where
        store_is : (e : MonExpression) → store part u e ≡ one (tree.Store part (scalar_register k) e)
        store_is e = ap (λ m. one (tree.Store part m e)) (value_type_is u k is)

        by : (c : Bool) → (c ≡ true → v < length regs) → ((to : State) (after : List Value) (t2 : Target) → Same v regs after → (c ≡ true → slice_get after v ≡ Some z) → Q y after to t2)
            → Reaches w Q v regs s ((write at p k z >> give y) s) (runs w n t (tail c v part u value) regs)
        by true room good =
            let after = slice_set regs v z in
            let same : Same v regs after = same_set v v regs z (omega arith) in
            let held : slice_get after v ≡ Some z = get-set_same regs v z (room refl) in
            reaches_behind w n Q v regs after s t ((write at p k z >> give y) s) (set v value) (store part u (Register v)) bounded same (set_runs w n t v value regs z has)
            (subst (λ code. Reaches w Q v after s ((write at p k z >> give y) s) (runs w n t code after)) (sym (store_is (Register v)))
            (reached_lower w Q v (suc v) after s ((write at p k z >> give y) s) (runs w n t (one (tree.Store part (scalar_register k) (Register v))) after) (omega arith)
            (reaches_made w Anything Q (suc v) after s (write at p k z s) (runs w n t (one (tree.Store part (scalar_register k) (Register v))) after) (λ _. give y)
            (write_reaches w n (suc v) at k p part z s t after (Register v) bounded be (same.below part below ∙ points) fit held) (λ x to after2 t2 o same2 later be2 q.
            MadeValue y refl (good to after2 t2 (same_trans v (suc v) regs after after2 (omega arith) same same2) (λ c. same2.below v (omega arith) ∙ held))))))
        by false room good =
            subst (λ code. Reaches w Q v regs s ((write at p k z >> give y) s) (runs w n t code regs)) (sym (store_is value))
            (reaches_made w Anything Q v regs s (write at p k z s) (runs w n t (one (tree.Store part (scalar_register k) value)) regs) (λ _. give y)
            (write_reaches w n v at k p part z s t regs value bounded be points fit has) (λ x to after2 t2 o same2 later be2 q. MadeValue y refl (good to after2 t2 same2 (λ c. let no : false ≡ true = c in absurd cc))))

    -- the member is reached, and then a value is stored
    pub part_put : {B : Type 0} (Q : B → List Value → State → Target → Type 0) (kept : Bool) (a : Expression) (r high j v : ℕ) (value : MonExpression) (p : Pointer) (z : Value) (y : B) (s : State) (t : Target) (regs : List Value)
        → Bounded s.store → Beside w s.store s t → Aimed w a r high p regs s t → high ≤ j → v ≡ j + length (member_type a) → v ≤ length regs → (kept ≡ true → v < length regs) → IsOf k z
        → ((later : List Value) → Same j regs later → Has w value later t.mem z)
        → ((to : State) (after : List Value) (t2 : Target) → Same j regs after → (kept ≡ true → slice_get after v ≡ Some z) → Q y after to t2)
        → Reaches w Q j regs s ((write at p k z >> give y) s) (runs w n t (before (member_setup T.structs r j a) (tail kept v (member_register r j a) u value)) regs)
    part_put Q kept a r high j v value p z y s t regs bounded be aimed far v_is room kept_room fit has good = by (save s.store p k z) refl
      where
        code : MonStatements
        code = before (member_setup T.structs r j a) (tail kept v (member_register r j a) u value)

        by : (o : Option Store) → save s.store p k z ≡ o → Reaches w Q j regs s ((write at p k z >> give y) s) (runs w n t code regs)
        by None saves = undefined_now w Q j regs s ((write at p k z >> give y) s) (runs w n t code regs) at (ap (λ o. ((defined at o >>= put_store) >> give y) s) saves)
        by (Some saved) saves =
            let inside : IsInside t.mem.store p = subst (λ store. IsInside store p) (sym be.store_is) (saved_inside s.store saved p (scalar_size k) (bytes_from k z) saves) in
            let m = part_reached w n a r high j p s t regs aimed (omega (arith, v_is, room)) inside in
            reaches_behind w n Q j regs m.after s t ((write at p k z >> give y) s) (member_setup T.structs r j a) (tail kept v (member_register r j a) u value) bounded m.same m.run
            (reached_lower w Q j v m.after s ((write at p k z >> give y) s) (runs w n t (tail kept v (member_register r j a) u value) m.after) (omega (arith, v_is))
            (put_reaches Q kept v (member_register r j a) value p z y s t m.after bounded be m.points (omega (arith, v_is, part_below a r j (omega (arith, far, aimed.3)))) (λ c. omega (arith, kept_room c, m.same.long)) fit (has m.after m.same)
            (λ to after t2 same held. good to after t2 (same_trans j v regs m.after after (omega (arith, v_is)) m.same same) held)))

    current_has : (q : ℕ) (later : List Value) (p : Pointer) (x : Value) (s : State) (t : Target) → t.mem.store ≡ s.store → slice_get later q ≡ Some (Points p) → load s.store p k ≡ Some x → Has w (current q u) later t.mem x
    current_has q later p x s t store_is held loads =
        ap (λ m. eval over_blocks w.globals (Load m (Register q)) later t.mem) (value_type_is u k is) ∙ load_has w later t.mem k (Register q) p x held (ap (λ store. load store p k) store_is ∙ loads)

    -- ---- the new value

    module _ (sight : Sight) (op : BinOp) (v : PlainType) (l : Scalar) (l_is : scalar_of v ≡ Some l) (types : CompoundTypes sight op u v) where
      -- of the old value and another, and its store
      abbrev pub makes : Pointer → (Value → Value) → Value → Value → Evaluation Value
      makes p g x y = computed at (λ store. compound T.structs u op store x v y) >>= λ z. write at p k z >> give (g z)

      made_reaches : (Q : Value → List Value → State → Target → Type 0) (kept : Bool) (new part : ℕ) (o e : MonExpression) (p : Pointer) (g : Value → Value) (x y : Value) (s : State) (t : Target) (regs : List Value)
          → Bounded s.store → Beside w s.store s t → slice_get regs part ≡ Some (Points p) → part < new → (kept ≡ true → new < length regs) → IsOf k x → IsOf l y → Has w o regs t.mem x → Has w e regs t.mem y
          → ((z : Value) (to : State) (after : List Value) (t2 : Target) → IsOf k z → Same new regs after → (kept ≡ true → slice_get after new ≡ Some z) → Q (g z) after to t2)
          → Reaches w Q new regs s (makes p g x y s) (runs w n t (tail kept new part u (spec.compound T.structs op u v o e)) regs)
      made_reaches Q kept new part o e p g x y s t regs bounded be points below room fx fy has_o has_e good = by (compound T.structs u op s.store x v y) refl
        where
          code : Did
          code = runs w n t (tail kept new part u (spec.compound T.structs op u v o e)) regs

          by : (c : Option Value) → compound T.structs u op s.store x v y ≡ c → Reaches w Q new regs s (makes p g x y s) code
          by None d = undefined_now w Q new regs s (makes p g x y s) code at (ap (λ o. (defined at o >>= λ z. write at p k z >> give (g z)) s) d)
          by (Some z) d =
              let c = combined w n t s be.store_is bounded sight T.structs at op u v k l is l_is types x y z fx fy d o e in
              subst (λ r. Reaches w Q new regs s r code) (sym (ap (λ o. (defined at o >>= λ z. write at p k z >> give (g z)) s) d))
              (put_reaches Q kept new part (spec.compound T.structs op u v o e) p z (g z) s t regs bounded be points below room c.fits (c.has o e regs (has_o, has_e)) (λ to after t2 same held. good z to after t2 c.fits same held))

      -- ---- an object, its old value, another value, and the store

      module _ (a : Expression) (rs : List MonType) (behind : low ≤ length rs) (kept : Bool) (new : ℕ) (setup : MonStatements) (e : MonExpression) (other : Evaluation Value)
          (Q : Value → List Value → State → Target → Type 0) (g : Value → Value → Value) where
        abbrev front : List MonType
        front = rs ++ object_takes w.unit a

        abbrev r : ℕ
        r = object_of w.unit bound rs a

        -- what the source does
        abbrev pub changes : Evaluation Value
        changes = λ s. on_outcome (place_with T a w.call s) (λ p. read at p k >>= λ x. other >>= λ y. makes p (g x) x y)

        -- the old value is read late, where nothing that comes between changes it
        pub late_changes : (j high : ℕ) → length front ≤ j → new ≡ j + length (member_type a) → new ≤ high → (kept ≡ true → new < high)
            → FromHere w n h low bound (λ y after s t. Valued w l j e y after s t) j front other setup → ((s to : State) (y : Value) → other s ≡ Normal y to → to ≡ s)
            → ((x z : Value) (to : State) (after : List Value) (t2 : Target) → IsOf k x → IsOf k z → (kept ≡ true → slice_get after new ≡ Some z) → Q (g x z) after to t2)
            → ObjectReached w n h low bound a rs
            → FromHere w n h low bound Q high rs changes
            (before (object_code w n h low bound rs a) (before setup (before (member_setup T.structs r j a) (tail kept new (member_register r j a) u (spec.compound T.structs op u v (current (member_register r j a) u) e)))))
        late_changes j high far new_is most kept_room right quiet good object s t regs le m be room =
            reaches_before w n (Aimed w a r (length front)) Q (length rs) regs s t (place_with T a w.call s) (object_code w n h low bound rs a) rest (λ p. read at p k >>= later_value p)
            (object s t regs le m be (omega (arith, far, new_is, most, room))) (λ p to after t2 o same later be2 aimed.
            reached_lower w Q (length rs) (length front) after to (on_outcome (read at p k to) (later_value p)) (runs w n t2 rest after) (longer rs (object_takes w.unit a))
            (loaded p to after t2 (omega (arith, le, later.spent)) (omega (arith, same.long, m.registers)) (stands_after w n h low bound rs regs after s to o behind same later m) later.bounded be2 aimed (load to.store p k) refl))
          where
            part : ℕ
            part = member_register r j a

            stores : MonStatements
            stores = tail kept new part u (spec.compound T.structs op u v (current part u) e)

            rest : MonStatements
            rest = before setup (before (member_setup T.structs r j a) stores)

            later_value : Pointer → Value → Evaluation Value
            later_value p x = other >>= λ y. makes p (g x) x y

            loaded : (p : Pointer) (to : State) (after : List Value) (t2 : Target) → to.steps ≤ n → length after ≡ w.registers → Standing w h low bound after to → Bounded to.store → Beside w to.store to t2 → Aimed w a r (length front) p after to t2
                → (o : Option Value) → load to.store p k ≡ o → Reaches w Q (length front) after to (on_outcome (read at p k to) (later_value p)) (runs w n t2 rest after)
            loaded p to after t2 le2 wide stands bounded be2 aimed None loads =
                undefined_now w Q (length front) after to (on_outcome (read at p k to) (later_value p)) (runs w n t2 rest after) at (ap (λ o. on_outcome (defined at o to) (later_value p)) loads)
            loaded p to after t2 le2 wide stands bounded be2 aimed (Some x) loads =
                let fx = loaded_is_of to.store p k x bounded loads in
                subst (λ r. Reaches w Q (length front) after to r (runs w n t2 rest after)) (sym (ap (λ o. on_outcome (defined at o to) (later_value p)) loads))
                (reaches_before w n (λ y after2 s2 t3. Valued w l j e y after2 s2 t3 × (s2 ≡ to)) Q (length front) after to t2 (other to) setup (before (member_setup T.structs r j a) stores) (λ y. makes p (g x) x y)
                (reached_with w (λ y after2 s2 t3. Valued w l j e y after2 s2 t3) (λ y after2 s2 t3. Valued w l j e y after2 s2 t3 × (s2 ≡ to)) (length front) after to (other to) (runs w n t2 setup after)
                (right to t2 after le2 stands be2 (omega (arith, new_is, most, room))) (λ y s2 after2 t3 same2 be3 eq q. (q, quiet to s2 y eq)))
                (λ y to3 after3 t3 o3 same3 later3 be3 has.
                let loads3 : load to3.store p k ≡ Some x = ap (λ s. load s.store p k) has.1 ∙ loads in
                let inside : IsInside t3.mem.store p = subst (λ store. IsInside store p) (sym be3.store_is) (loaded_inside to3.store p k x loads3) in
                let q = part_reached w n a r (length front) j p to3 t3 after3 (still_aimed w a r (length front) p after after3 to to3 t2 t3 same3 aimed) (omega (arith, new_is, most, room, wide, same3.long)) inside in
                reaches_behind w n Q (length front) after3 q.after to3 t3 (makes p (g x) x y to3) (member_setup T.structs r j a) stores later3.bounded (same_less (length front) j after3 q.after far q.same) q.run
                (reached_lower w Q (length front) new q.after to3 (makes p (g x) x y to3) (runs w n t3 stores q.after) (omega (arith, far, new_is))
                (made_reaches Q kept new part (current part u) e p (g x) x y to3 t3 q.after later3.bounded be3 q.points (omega (arith, new_is, part_below a r j (omega (arith, far, aimed.3)))) (λ c. omega
                (arith, kept_room c, room, wide, same3.long, q.same.long))
                fx has.0.0 (current_has part q.after p x to3 t3 be3.store_is q.points loads3) (has.0.1 q.after q.same) (λ z to4 after4 t4 fz same4 held. good x z to4 after4 t4 fx fz held)))))

        -- it stands in a register, while the other value is evaluated
        pub kept_changes : (old high : ℕ) → old ≡ length front + length (member_type a) → old < new → suc old ≤ high → new ≤ high → (kept ≡ true → new < high)
            → ((s : State) (t : Target) (regs : List Value) → s.steps ≤ n → Standing w h low bound regs s → Beside w s.store s t → Reaches w (Valued w l new e) (suc old) regs s (other s) (runs w n t setup regs))
            → ((x z : Value) (to : State) (after : List Value) (t2 : Target) → IsOf k x → IsOf k z → slice_get after old ≡ Some x → (kept ≡ true → slice_get after new ≡ Some z) → Q (g x z) after to t2)
            → ObjectReached w n h low bound a rs
            → FromHere w n h low bound Q high rs changes
            (before (object_code w n h low bound rs a) (before (member_setup T.structs r (length front) a) (before (set old (current (member_register r (length front) a) u))
            (before setup (tail kept new (member_register r (length front) a) u (spec.compound T.structs op u v (Register old) e))))))
        kept_changes old high old_is above enough most kept_room right good object s t regs le m be room =
            reaches_before w n (Aimed w a r j) Q (length rs) regs s t (place_with T a w.call s) (object_code w n h low bound rs a) rest (λ p. read at p k >>= later_value p)
            (object s t regs le m be (omega (arith, old_is, enough, room))) (λ p to after t2 o same later be2 aimed.
            reached_lower w Q (length rs) j after to (on_outcome (read at p k to) (later_value p)) (runs w n t2 rest after) (longer rs (object_takes w.unit a))
            (loaded p to after t2 (omega (arith, le, later.spent)) (omega (arith, same.long, m.registers)) (stands_after w n h low bound rs regs after s to o behind same later m) later.bounded be2 aimed (load to.store p k) refl))
          where
            j : ℕ
            j = length front

            part : ℕ
            part = member_register r j a

            stores : MonStatements
            stores = tail kept new part u (spec.compound T.structs op u v (Register old) e)

            rest : MonStatements
            rest = before (member_setup T.structs r j a) (before (set old (current part u)) (before setup stores))

            later_value : Pointer → Value → Evaluation Value
            later_value p x = other >>= λ y. makes p (g x) x y

            loaded : (p : Pointer) (to : State) (after : List Value) (t2 : Target) → to.steps ≤ n → length after ≡ w.registers → Standing w h low bound after to → Bounded to.store → Beside w to.store to t2 → Aimed w a r j p after to t2
                → (o : Option Value) → load to.store p k ≡ o → Reaches w Q j after to (on_outcome (read at p k to) (later_value p)) (runs w n t2 rest after)
            loaded p to after t2 le2 wide stands bounded be2 aimed None loads =
                undefined_now w Q j after to (on_outcome (read at p k to) (later_value p)) (runs w n t2 rest after) at (ap (λ o. on_outcome (defined at o to) (later_value p)) loads)
            loaded p to after t2 le2 wide stands bounded be2 aimed (Some x) loads =
                let fx = loaded_is_of to.store p k x bounded loads in
                let inside : IsInside t2.mem.store p = subst (λ store. IsInside store p) (sym be2.store_is) (loaded_inside to.store p k x loads) in
                let q = part_reached w n a r j j p to t2 after aimed (omega (arith, old_is, enough, room, wide)) inside in
                let less : part < old = omega (arith, old_is, part_below a r j aimed.3) in
                let after2 = slice_set q.after old x in
                let same2 : Same old q.after after2 = same_set old old q.after x (omega arith) in
                let held : slice_get after2 old ≡ Some x = get-set_same q.after old x (omega (arith, enough, room, wide, q.same.long)) in
                let all : Same j after after2 = same_trans j old after q.after after2 (omega (arith, old_is)) q.same same2 in
                subst (λ r. Reaches w Q j after to r (runs w n t2 rest after)) (sym (ap (λ o. on_outcome (defined at o to) (later_value p)) loads))
                (reaches_behind w n Q j after q.after to t2 (later_value p x to) (member_setup T.structs r j a) (before (set old (current part u)) (before setup stores)) bounded q.same q.run
                (reaches_behind w n Q j q.after after2 to t2 (later_value p x to) (set old (current part u)) (before setup stores) bounded (same_less j old q.after after2 (omega (arith, old_is)) same2)
                (set_runs w n t2 old (current part u) q.after x (current_has part q.after p x to t2 be2.store_is q.points loads))
                (reached_lower w Q j (suc old) after2 to (later_value p x to) (runs w n t2 (before setup stores) after2) (omega (arith, old_is))
                (reaches_before w n (Valued w l new e) Q (suc old) after2 to t2 (other to) setup stores (λ y. makes p (g x) x y)
                (right to t2 after2 le2 (standing_later w h low bound after after2 to to [] (same_less low j after after2 (omega (arith, behind, longer rs (object_takes w.unit a))) all) (later_same to bounded) stands) be2)
                (λ y to4 after4 t4 o4 same4 later4 be4 has.
                reached_lower w Q (suc old) new after4 to4 (makes p (g x) x y to4) (runs w n t4 stores after4) (omega (arith, above))
                (made_reaches Q kept new part (Register old) e p (g x) x y to4 t4 after4 later4.bounded be4 (same4.below part (omega (arith, less)) ∙ same2.below part less ∙ q.points) (omega (arith, less, above))
                (λ c. omega (arith, kept_room c, room, wide, q.same.long, same2.long, same4.long)) fx has.0 (same4.below old (omega arith) ∙ held) (has.1 after4 (same_all new after4))
                (λ z to5 after5 t5 fz same5 held5. good x z to5 after5 t5 fx fz (same5.below old above ∙ same4.below old (omega arith) ∙ held) held5)))))))
