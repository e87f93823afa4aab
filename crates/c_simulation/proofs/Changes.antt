-- Compound assignments, `++` and `--`, of objects with effects in them and with effects on the right side, as values and for their effects alone.
use Rattle.std.proofs.Common.{◌≡◌, ℕ, suc, ◌+◌, ◌<◌, ◌≤◌, pos, Bool, true, false, if◌then◌else◌, List, [], ◌∷◌, ◌++◌, length, Some, slice_get, refl, sym, ap, ◌∙◌, subst, arith}
use Rattle.std.proofs.lemmas.List.{append_assoc, length-append}
use Rattle.c_syntax.specs.declared.place.Place.{Place}
use Rattle.c_syntax.specs.declared.types.CInt.TheVariants.{I32}
use Rattle.c_syntax.specs.declared.expression.BinOp.{BinOp}
use Rattle.c_syntax.specs.declared.expression.BumpOp.{BumpOp}
use Rattle.c_syntax.specs.declared.expression.BumpOp.TheVariants.{PreUp, PreDown, PostUp, PostDown}
use Rattle.c_syntax.specs.Ctypes.{PlainType, int_type}
use Rattle.c_syntax.specs.Expressions.{Expression, Node, Assign, Bump, type_of}
use Rattle.c_syntax.specs.Layouts.{Scalar, IntegerType, scalar_of}
use Rattle.c_model.specs.Memory.{Value, Integer}
use Rattle.c_model.specs.State.{State, on_outcome, ◌>>=◌, ◌>>◌, give, computed, as_scalar, read, write}
use Rattle.c_model.specs.Meaning.{Tables, tables_of, eval_with, place_with, compound, bump_operator, bump_value}
use Rattle.c_model.specs.ExpressionTyping.{Sight}
use Rattle.c_model.specs.TypedTrees.{CompoundTypes}
use Rattle.mon_syntax.specs.declared.tree.MonType.{MonType}
use Rattle.mon_syntax.specs.declared.tree.MonType.TheVariants as kind
use Rattle.mon_syntax.specs.Registers.{Bindings}
use Rattle.mon_syntax.specs.Trees.{MonExpression, Register, Constant, MonStatements, NoStatement}
use Rattle.c_effects.specs.Expressions.{value_type, before, set}
use Rattle.c_effects.specs.Expressions as spec
use Rattle.c_effects.specs.Effects.{current, store}
use Rattle.c_effects.specs.Full.{is_pure, takes, result, prepare, object_takes, object_of, member_type, member_setup, member_register}
use Rattle.c_effects.specs.Full.{changed_types, changed_setup, changed_front, changed_register, bumped_setup, reached, stored, gives_old}
use Rattle.c_effects.proofs.Sequences.{before_assoc, before_none}
use Rattle.c_simulation.specs.Standing.{Setting, Target, runs, IsOf, Here}
use Rattle.c_simulation.specs.Reaching.{Reaches, Arrives, Valued}
use Rattle.c_simulation.proofs.Registers.{same_all, longer}
use Rattle.c_simulation.proofs.Following.{later_same}
use Rattle.c_simulation.proofs.Unchanged.{value_leaves}
use Rattle.c_simulation.proofs.Operands.{FromHere, Computes, Acts, Kinded, of_kind}
use Rattle.c_simulation.proofs.AssignedObjects.{ObjectReached, object_code}
use Rattle.c_simulation.proofs.StoredValues.{tail, stored_is, reached_is, changes, late_changes, kept_changes}

-- the value of `++` and `--` is the old one, or the new one
bump_old : (op : BumpOp) (x z : Value) → gives_old op ≡ true → bump_value op x z ≡ x
bump_old PreUp x z c = absurd cc
bump_old PreDown x z c = absurd cc
bump_old PostUp x z c = refl
bump_old PostDown x z c = refl

bump_new : (op : BumpOp) (x z : Value) → gives_old op ≡ false → bump_value op x z ≡ z
bump_new PreUp x z c = refl
bump_new PreDown x z c = refl
bump_new PostUp x z c = absurd cc
bump_new PostDown x z c = absurd cc

bump_fits : (op : BumpOp) (k : Scalar) (x z : Value) → IsOf k x → IsOf k z → IsOf k (bump_value op x z)
bump_fits PreUp k x z p q = q
bump_fits PreDown k x z p q = q
bump_fits PostUp k x z p q = p
bump_fits PostDown k x z p q = p

module _ (w : Setting) (n : ℕ) (h : Here) (low : ℕ) (bound : Bindings) where
  abbrev T : Tables
  T = tables_of w.unit

  module _ (sight : Sight) (at : Place) (u : PlainType) (a : Expression) (k : Scalar) (is : scalar_of u ≡ Some k) (rs : List MonType) (behind : low ≤ length rs) (object : ObjectReached w n h low bound a rs) where
    abbrev obj : List MonType
    obj = object_takes w.unit a

    abbrev front : List MonType
    front = rs ++ obj

    abbrev mem : List MonType
    mem = member_type a

    abbrev r : ℕ
    r = object_of w.unit bound rs a

    abbrev first : MonStatements
    first = object_code w n h low bound rs a

    abbrev old : ℕ
    old = length (front ++ mem)

    old_is : old ≡ length front + length mem
    old_is = length-append front mem

    -- the statements for a kept old value, in their order
    kept_is : (kept : Bool) (v part : ℕ) (setup : MonStatements) (value : MonExpression)
        → stored kept v part u (before (before (reached T.structs first NoStatement r (length front) a) (set old (current (member_register r (length front) a) u))) setup) value
        ≡ before first (before (member_setup T.structs r (length front) a) (before (set old (current (member_register r (length front) a) u)) (before setup (tail kept v part u value))))
    kept_is kept v part setup value =
        let rest = tail kept v part u value in
        let put = set old (current (member_register r (length front) a) u) in
        let start = reached T.structs first NoStatement r (length front) a in
        stored_is kept v part u (before (before start put) setup) value
        ∙ before_assoc (before start put) setup rest
        ∙ before_assoc start put (before setup rest)
        ∙ reached_is T.structs first NoStatement r (length front) a (before put (before setup rest))

    late_is : (kept : Bool) (v part j : ℕ) (setup : MonStatements) (value : MonExpression)
        → stored kept v part u (reached T.structs first setup r j a) value ≡ before first (before setup (before (member_setup T.structs r j a) (tail kept v part u value)))
    late_is kept v part j setup value = stored_is kept v part u (reached T.structs first setup r j a) value ∙ reached_is T.structs first setup r j a (tail kept v part u value)

    -- ---- `op=`

    module _ (op : BinOp) (b : Expression) (l : Scalar) (l_is : scalar_of (type_of b) ≡ Some l) (types : CompoundTypes sight op u (type_of b)) where
      abbrev this : Expression
      this = Node at u (Assign (Some op) a b)

      -- the registers before the right side, by whether it is pure
      abbrev fronts : Bool → List MonType
      fronts c = if c then obj else obj ++ mem ++ value_type u ∷ []

      abbrev new : Bool → ℕ
      new c = changed_register w.unit c rs (value_type u) a b

      abbrev ChangedFrom : (Value → List Value → State → Target → Type 0) → Bool → ℕ → Bool → Type 0
      ChangedFrom Q kept high c =
          FromHere w n h low bound Q high rs (eval_with T this w.call) (changed_setup w.unit bound rs c kept op u a b first (prepare w.unit bound (rs ++ fronts c) b))

      abbrev Good : (Value → List Value → State → Target → Type 0) → Bool → ℕ → Type 0
      Good Q kept v = (z : Value) (to : State) (after : List Value) (t2 : Target) → IsOf k z → (kept ≡ true → slice_get after v ≡ Some z) → Q z after to t2

      -- the source's evaluation, where the type is scalar
      as_changes : (Q : Value → List Value → State → Target → Type 0) (high : ℕ) (code : MonStatements) (kept : Bool) (v : ℕ) (setup : MonStatements) (e : MonExpression)
          → FromHere w n h low bound Q high rs (changes w n h low bound at u k is sight op (type_of b) l l_is types a rs behind kept v setup e (eval_with T b w.call) Q (λ x z. z)) code
          → FromHere w n h low bound Q high rs (eval_with T this w.call) code
      as_changes Q high code kept v setup e f =
          subst (λ x. FromHere w n h low bound Q high rs
          (λ s. on_outcome (place_with T a w.call s) (λ p. as_scalar x (λ k. read at p k >>= λ x. eval_with T b w.call >>= λ y. computed at (λ store. compound T.structs u op store x (type_of b) y) >>= λ z. write at p k z >> give z))) code) (sym is) f

      changed_coded : (Q : Value → List Value → State → Target → Type 0) (kept : Bool) (high : ℕ) (c : Bool) → is_pure b ≡ c → length (rs ++ changed_types c (value_type u) a obj (takes w.unit b)) ≤ high
          → (kept ≡ true → length (rs ++ changed_types c (value_type u) a obj (takes w.unit b)) < high) → Computes w n h low bound b l (rs ++ fronts c) → Good Q kept (new c) → ChangedFrom Q kept high c
      changed_coded Q kept high true pure most kept_room value good =
          let j = length (front ++ takes w.unit b) in
          let setup = prepare w.unit bound front b in
          let e = result w.unit bound front b in
          let part = member_register r j a in
          let size : length (rs ++ (obj ++ takes w.unit b ++ mem)) ≡ new true =
          omega (
            arith,
            length-append rs (obj ++ takes w.unit b ++ mem),
            length-append (obj ++ takes w.unit b) mem,
            length-append obj (takes w.unit b),
            length-append (front ++ takes w.unit b) mem,
            length-append front
                (takes w.unit b),
            length-append rs obj,
          ) in
          as_changes Q high (changed_setup w.unit bound rs true kept op u a b first setup) kept (new true) setup e
          (subst (λ code. FromHere w n h low bound Q high rs (changes w n h low bound at u k is sight op (type_of b) l l_is types a rs behind kept (new true) setup e (eval_with T b w.call) Q (λ x z. z)) code)
          (sym (late_is kept (new true) part j setup (spec.compound T.structs op u (type_of b) (current part u) e)))
          (late_changes w n h low bound at u k is sight op (type_of b) l l_is types a rs behind kept (new true) setup e (eval_with T b w.call) Q (λ x z. z) j high (longer front (takes w.unit b))
          (length-append (front ++ takes w.unit b) mem) (omega (arith, size, most)) (λ c. omega (arith, size, kept_room c)) value (λ s to y eq. value_leaves T w.call s b pure y to eq)
          (λ x z to after t2 fx fz held. good z to after t2 fz held) object))
      changed_coded Q kept high false impure most kept_room value good =
          let rs2 = rs ++ (obj ++ mem ++ value_type u ∷ []) in
          let setup = prepare w.unit bound rs2 b in
          let rs3 = rs ++ obj ++ mem ++ value_type u ∷ [] in
          let rs3_is : rs3 ≡ rs2 = ap (λ x. x ++ value_type u ∷ []) (append_assoc rs obj mem) ∙ append_assoc rs (obj ++ mem) (value_type u ∷ []) in
          let e = result w.unit bound rs3 b in
          let part = member_register r (length front) a in
          let behind_is : length rs2 ≡ suc old = omega (arith, length-append rs (obj ++ mem ++ value_type u ∷ []), length-append (obj ++ mem) (value_type u ∷ []), length-append obj mem, old_is, length-append rs obj) in
          let new_is : new false ≡ length (rs2 ++ takes w.unit b) =
          omega (arith, behind_is, length-append rs2 (takes w.unit b), length-append (rs ++ obj ++ mem ++ value_type u ∷ []) (takes w.unit b), length-append (rs ++ obj ++ mem) (value_type u ∷ []), old_is) in
          let size : length (rs ++ (obj ++ mem ++ (value_type u ∷ []) ++ takes w.unit b)) ≡ new false =
          omega (
            arith,
            new_is,
            behind_is,
            old_is,
            length-append rs2 (takes w.unit b),
            length-append rs (obj ++ mem ++ (value_type u ∷ []) ++ takes w.unit b),
            length-append (obj ++ mem ++ value_type u ∷ []) (takes w.unit b),
            length-append
                (obj ++ mem) (value_type u ∷ []),
            length-append obj mem,
            length-append rs obj,
          ) in
          as_changes Q high (changed_setup w.unit bound rs false kept op u a b first setup) kept (new false) setup e
          (subst (λ code. FromHere w n h low bound Q high rs (changes w n h low bound at u k is sight op (type_of b) l l_is types a rs behind kept (new false) setup e (eval_with T b w.call) Q (λ x z. z)) code)
          (sym (kept_is kept (new false) part setup (spec.compound T.structs op u (type_of b) (Register old) e)))
          (λ s t regs le m be room.
          kept_changes w n h low bound at u k is sight op (type_of b) l l_is types a rs behind kept (new false) setup e (eval_with T b w.call) Q (λ x z. z) old high old_is (omega (arith, new_is, behind_is, longer rs2 (takes w.unit b)))
          (omega (arith, most, size, new_is, behind_is, longer rs2 (takes w.unit b))) (omega (arith, size, most)) (λ c. omega (arith, size, kept_room c))
          (λ s t regs le m be.
          subst (λ x. Reaches w (Valued w l x e) (suc old) regs s (eval_with T b w.call s) (runs w n t setup regs)) (sym new_is)
          (subst (λ x. Reaches w (Valued w l (length (rs2 ++ takes w.unit b)) e) x regs s (eval_with T b w.call s) (runs w n t setup regs)) behind_is
          (subst (λ x. Reaches w (Valued w l (length (rs2 ++ takes w.unit b)) (result w.unit bound x b)) (length rs2) regs s (eval_with T b w.call s) (runs w n t setup regs)) (sym rs3_is)
          (value s t regs le m be (omega (arith, new_is, size, most, room))))))
          (λ x z to after t2 fx fz was held. good z to after t2 fz held) object s t regs le m be room))

      pub compound_computes : Computes w n h low bound b l (rs ++ changed_front w.unit (value_type u) a b) → Computes w n h low bound this k rs
      compound_computes value = by (is_pure b) refl value
        where
          by : (c : Bool) → is_pure b ≡ c → Computes w n h low bound b l (rs ++ fronts c)
              → ChangedFrom (Valued w k (length (rs ++ (changed_types c (value_type u) a obj (takes w.unit b) ++ value_type u ∷ []))) (Register (new c))) true (length (rs ++ (changed_types c (value_type u) a obj
              (takes w.unit b) ++ value_type u ∷ []))) c
          by c pure value =
              let ts = changed_types c (value_type u) a obj (takes w.unit b) in
              let size : length (rs ++ (ts ++ value_type u ∷ [])) ≡ suc (length (rs ++ ts)) = omega (arith, length-append rs (ts ++ value_type u ∷ []), length-append ts (value_type u ∷ []), length-append rs ts) in
              changed_coded (Valued w k (length (rs ++ (ts ++ value_type u ∷ []))) (Register (new c))) true (length (rs ++ (ts ++ value_type u ∷ []))) c pure (omega (arith, size)) (λ q. omega (arith, size)) value
              (λ z to after t2 fz held. (fz, λ later same. same.below (new c) (omega (arith, size, new_size c)) ∙ held refl))
            where
              new_size : (c : Bool) → new c ≡ length (rs ++ changed_types c (value_type u) a obj (takes w.unit b))
              new_size true =
                  omega (
                    arith,
                    length-append rs (obj ++ takes w.unit b ++ mem),
                    length-append (obj ++ takes w.unit b) mem,
                    length-append obj (takes w.unit b),
                    length-append (front ++ takes w.unit b) mem,
                    length-append front
                        (takes w.unit b),
                    length-append rs obj,
                  )
              new_size false =
                  omega (
                    arith,
                    length-append rs (obj ++ mem ++ (value_type u ∷ []) ++ takes w.unit b),
                    length-append (obj ++ mem ++ value_type u ∷ []) (takes w.unit b),
                    length-append (obj ++ mem) (value_type u ∷ []),
                    length-append obj mem,
                    length-append (rs ++ obj ++ mem ++ value_type u ∷ []) (takes w.unit b),
                    length-append (rs ++ obj ++ mem) (value_type u ∷ []),
                    old_is,
                    length-append rs obj,
                  )

      pub compound_acts : Computes w n h low bound b l (rs ++ changed_front w.unit (value_type u) a b) → Acts w n h low bound this rs
      compound_acts value = by (is_pure b) refl value
        where
          by : (c : Bool) → is_pure b ≡ c → Computes w n h low bound b l (rs ++ fronts c) → ChangedFrom (Kinded (scalar_of u)) false (length (rs ++ changed_types c (value_type u) a obj (takes w.unit b))) c
          by c pure value =
              changed_coded (Kinded (scalar_of u)) false (length (rs ++ changed_types c (value_type u) a obj (takes w.unit b))) c pure (omega arith) (λ q. absurd cc) value
              (λ z to after t2 fz held. subst (λ x. Kinded x z after to t2) (sym is) (of_kind k z fz))

    -- ---- `++` and `--`

    module _ (op : BumpOp) (types : CompoundTypes sight (bump_operator op) u int_type) where
      abbrev bumped : Expression
      bumped = Node at u (Bump op a)

      abbrev one_more : MonExpression
      one_more = Constant kind.I32 (pos 1)

      abbrev BumpedFrom : (Value → List Value → State → Target → Type 0) → Bool → ℕ → Bool → Type 0
      BumpedFrom Q kept high c = FromHere w n h low bound Q high rs (eval_with T bumped w.call) (bumped_setup w.unit bound rs c kept op u a first)

      as_bumps : (Q : Value → List Value → State → Target → Type 0) (high : ℕ) (code : MonStatements) (kept : Bool) (v : ℕ)
          → FromHere w n h low bound Q high rs (changes w n h low bound at u k is sight (bump_operator op) int_type (IntegerType I32) refl types a rs behind kept v NoStatement one_more (give (Integer (pos 1))) Q (bump_value op)) code
          → FromHere w n h low bound Q high rs (eval_with T bumped w.call) code
      as_bumps Q high code kept v f =
          subst (λ x. FromHere w n h low bound Q high rs
          (λ s. on_outcome (place_with T a w.call s) (λ p. as_scalar x (λ k. read at p k >>= λ x. computed at (λ store. compound T.structs u (bump_operator op) store x int_type (Integer (pos 1))) >>= λ z. write at p k z >> give
          (bump_value op x z)))) code) (sym is) f

      -- the old value is given, which stands in a register; the new one does nowhere
      old_given : (Q : Value → List Value → State → Target → Type 0) (kept : Bool) (high : ℕ) → suc old ≤ high
          → ((x z : Value) (to : State) (after : List Value) (t2 : Target) → IsOf k x → IsOf k z → slice_get after old ≡ Some x → Q (bump_value op x z) after to t2) → BumpedFrom Q kept high true
      old_given Q kept high most good =
          let part = member_register r (length front) a in
          as_bumps Q high (bumped_setup w.unit bound rs true kept op u a first) false (suc old)
          (subst (λ code. FromHere w n h low bound Q high rs (changes w n h low bound at u k is sight (bump_operator op) int_type (IntegerType I32) refl types a rs behind false (suc old) NoStatement one_more (give (Integer (pos 1))) Q
          (bump_value op)) code)
          (sym (before_none_in ∙ kept_is false (suc old) part NoStatement (spec.compound T.structs (bump_operator op) u int_type (Register old) one_more)))
          (kept_changes w n h low bound at u k is sight (bump_operator op) int_type (IntegerType I32) refl types a rs behind false (suc old) NoStatement one_more (give (Integer (pos 1))) Q (bump_value op) old high old_is
          (omega arith) most most (λ c. absurd cc)
          (λ s t regs le m be. Arrives (Integer (pos 1)) s regs t [] (same_all (suc old) regs) (later_same s m.bounded) be refl refl ((pos 1, refl, refl), λ later same. refl))
          (λ x z to after t2 fx fz was held. good x z to after t2 fx fz was) object))
        where
          start : MonStatements
          start = before (reached T.structs first NoStatement r (length front) a) (set old (current (member_register r (length front) a) u))

          value : MonExpression
          value = spec.compound T.structs (bump_operator op) u int_type (Register old) one_more

          before_none_in : before start (store (member_register r (length front) a) u value) ≡ before (before start NoStatement) (store (member_register r (length front) a) u value)
          before_none_in = ap (λ x. before x (store (member_register r (length front) a) u value)) (sym (before_none start))

      -- the new value is given
      new_given : (Q : Value → List Value → State → Target → Type 0) (kept : Bool) (high : ℕ) → old ≤ high → (kept ≡ true → old < high)
          → ((x z : Value) (to : State) (after : List Value) (t2 : Target) → IsOf k x → IsOf k z → (kept ≡ true → slice_get after old ≡ Some z) → Q (bump_value op x z) after to t2) → BumpedFrom Q kept high false
      new_given Q kept high most kept_room good =
          let j = length front in
          let part = member_register r j a in
          as_bumps Q high (bumped_setup w.unit bound rs false kept op u a first) kept old
          (subst (λ code. FromHere w n h low bound Q high rs (changes w n h low bound at u k is sight (bump_operator op) int_type (IntegerType I32) refl types a rs behind kept old NoStatement one_more (give (Integer (pos 1))) Q (bump_value op)) code)
          (sym (late_is kept old part j NoStatement (spec.compound T.structs (bump_operator op) u int_type (current part u) one_more)))
          (late_changes w n h low bound at u k is sight (bump_operator op) int_type (IntegerType I32) refl types a rs behind kept old NoStatement one_more (give (Integer (pos 1))) Q (bump_value op) j high (omega arith) old_is most kept_room
          (λ s t regs le m be room. Arrives (Integer (pos 1)) s regs t [] (same_all j regs) (later_same s m.bounded) be refl refl ((pos 1, refl, refl), λ later same. refl))
          (λ s to y eq. cc) (λ x z to after t2 fx fz held. good x z to after t2 fx fz held) object))

      bump_long : length (rs ++ (obj ++ mem ++ value_type u ∷ [])) ≡ suc old
      bump_long = omega (arith, length-append rs (obj ++ mem ++ value_type u ∷ []), length-append (obj ++ mem) (value_type u ∷ []), length-append obj mem, old_is, length-append rs obj)

      pub bump_computes : Computes w n h low bound bumped k rs
      bump_computes = by (gives_old op) refl
        where
          high : ℕ
          high = length (rs ++ (obj ++ mem ++ value_type u ∷ []))

          by : (c : Bool) → gives_old op ≡ c → BumpedFrom (Valued w k high (Register old)) true high c
          by true c =
              old_given (Valued w k high (Register old)) true high (omega (arith, bump_long)) (λ x z to after t2 fx fz was.
              (bump_fits op k x z fx fz, λ later same. same.below old (omega (arith, bump_long)) ∙ was ∙ ap Some (sym (bump_old op x z c))))
          by false c =
              new_given (Valued w k high (Register old)) true high (omega (arith, bump_long)) (λ q. omega (arith, bump_long)) (λ x z to after t2 fx fz held.
              (bump_fits op k x z fx fz, λ later same. same.below old (omega (arith, bump_long)) ∙ held refl ∙ ap Some (sym (bump_new op x z c))))

      pub bump_acts : Acts w n h low bound bumped rs
      bump_acts =
          let size : length (rs ++ (obj ++ mem)) ≡ old = omega (arith, length-append rs (obj ++ mem), length-append obj mem, old_is, length-append rs obj) in
          new_given (Kinded (scalar_of u)) false (length (rs ++ (obj ++ mem))) (omega (arith, size)) (λ c. absurd cc) (λ x z to after t2 fx fz held.
          subst (λ o. Kinded o (bump_value op x z) after to t2) (sym is) (of_kind k (bump_value op x z) (bump_fits op k x z fx fz)))
