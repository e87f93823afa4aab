-- Initialisers of every shape: a value, a string literal, and a list in braces, whose items go to the parts of an object in their order.
use Rattle.std.proofs.Common.{◌≡◌, ℕ, suc, ◌+◌, ◌<◌, ◌≤◌, not, if◌then◌else◌, List, [], ◌∷◌, ◌++◌, length, Some, None, slice_get, sym, ap, ◌∙◌, subst, arith}
use Rattle.std.proofs.lemmas.List.{length-append}
use Rattle.c_syntax.specs.declared.place.Place.{Place}
use Rattle.c_syntax.specs.Ctypes.{PlainType}
use Rattle.c_syntax.specs.Expressions.{Expression, Node, Number, Letter, Text, Variable, Unary, Binary, Both, Either, Choice, Assign, Bump, Call, Cast, SizeOfType, SizeOfExpr, Index, Dot, Arrow, Comma, type_of}
use Rattle.c_syntax.specs.Statements.{Initialiser, One, Many, Initialisers, NoInitialiser, Listed}
use Rattle.c_syntax.specs.Layouts.{Scalar, scalar_of, size_of}
use Rattle.c_model.specs.Library.{is_there}
use Rattle.c_model.specs.Memory.{Pointer, Into, Value, Points, shifted}
use Rattle.c_model.specs.State.{State, on_outcome, as_scalar, write}
use Rattle.c_model.specs.Meaning.{Tables, tables_of, eval_with, string_in, text_at, padded, write_each, zero_parts, parts_or_itself, fill, fill_one, fill_parts}
use Rattle.c_model.specs.ExpressionTyping.{Sight, tables_in}
use Rattle.c_model.specs.TypedTrees.{WellTyped, IsValue, FillsArray, InitialisedBy, ByText, ByValue, Initialises, PartsInitialised}
use Rattle.mon_syntax.specs.declared.tree.MonType.{MonType}
use Rattle.mon_syntax.specs.declared.tree.MonType.TheVariants as kind
use Rattle.mon_syntax.specs.Registers.{Bindings}
use Rattle.mon_syntax.specs.Trees as tree
use Rattle.c_model.specs.Pure.{IsPure, IsPureInitialiser, ArePureInitialisers}
use Rattle.c_initialisers.specs.Letters.{InitialiserHasLetters, InitialisersHaveLetters}
use Rattle.c_effects.specs.Letters.{HasLetters, ValueHasLetters}
use Rattle.c_effects.specs.Expressions.{before, one, setup, value, temporaries}
use Rattle.c_initialisers.specs.Translation.{part_temporaries, one_temporaries, fill_temporaries, parts_temporaries, initial_temporaries, bytes_at}
use Rattle.c_initialisers.specs.Translation as translation
use Rattle.c_effects.specs.Effects.{store, stored_at}
use Rattle.c_effects.specs.Effects as effects
use Rattle.c_effects.specs.Full.{prepare, result, takes}
use Rattle.c_effects.proofs.Pures.{prepare_pure, result_pure, takes_pure}
use Rattle.c_simulation.specs.SameRegisters.{Same}
use Rattle.c_simulation.specs.Standing.{Setting, Target, runs, Anchored, Knows, Bounded, Beside}
use Rattle.c_simulation.proofs.Registers.{same_all, longer}
use Rattle.c_simulation.proofs.Results.{before_is}
use Rattle.c_simulation.specs.Following.{Later}
use Rattle.c_simulation.specs.Reaching.{Reaches, Anything, Valued}
use Rattle.c_simulation.proofs.Following.{anchored_same}
use Rattle.c_simulation.proofs.Reaching.{reached_lower, reaches_before, reaches_then, value_reaches}
use Rattle.c_simulation.proofs.Pointers.{shifted_twice}
use Rattle.c_simulation.proofs.PointerValues.{scalar_register, value_type_is}
use Rattle.c_simulation.proofs.Expressions.{evaluates}
use Rattle.c_simulation.proofs.Stores.{write_reaches}
use Rattle.instrument.proofs.Strings.{bytes_reach}
use Rattle.instrument.proofs.ZeroBytes.{IsAligned}
use Rattle.instrument.proofs.Zeros.{stored_at_reaches, zero_parts_reach}

-- all values among the items being so
abbrev mutual
  pub EachValue : (Expression → Type 0) → Initialiser → Type 0
  EachValue P (One e) = P e
  EachValue P (Many brace is) = EachValues P is

  pub EachValues : (Expression → Type 0) → Initialisers → Type 0
  EachValues P NoInitialiser = Unit {0}
  EachValues P (Listed i is) = EachValue P i × EachValues P is

mutual
  pub each_pure : (i : Initialiser) → IsPureInitialiser i → EachValue IsPure i
  each_pure (One e) h = h
  each_pure (Many brace is) h = all_pure is h

  all_pure : (is : Initialisers) → ArePureInitialisers is → EachValues IsPure is
  all_pure NoInitialiser h = tt
  all_pure (Listed i is) h = (each_pure i h.0, all_pure is h.1)

mutual
  pub each_any : (i : Initialiser) → EachValue (λ e. Unit {0}) i
  each_any (One e) = tt
  each_any (Many brace is) = all_any is

  all_any : (is : Initialisers) → EachValues (λ e. Unit {0}) is
  all_any NoInitialiser = tt
  all_any (Listed i is) = (each_any i, all_any is)

-- where an object is filled, to which a register points that stays, and where this holds, by which the values of its parts are evaluated
pub record Filling (w : Setting) (Ready : List Value → State → Type 0) (low : ℕ) (p : Pointer) (r : ℕ) (regs : List Value) (s : State) (t : Target) : Type 0 where
  pub ready : Ready regs s
  pub aligned : IsAligned p
  pub bounded : Bounded s.store
  pub beside : Beside w s.store s t
  pub points : slice_get regs r ≡ Some (Points p)
  pub below : r < low
  pub registers : length regs ≡ w.registers

-- what stays while registers below `low` do
abbrev pub Lasts : ℕ → (List Value → State → Type 0) → Type 0
Lasts low Ready = (regs after : List Value) (s to : State) (o : List ℕ) → Same low regs after → Later s to o → Ready regs s → Ready after to

-- expressions that are so come to the source's values
abbrev pub AreEvaluated : Setting → ℕ → Sight → Bindings → ℕ → (List Value → State → Type 0) → (Expression → Type 0) → Type 0
AreEvaluated w n sight bound low Ready P =
    (e : Expression) (k : Scalar) (rs : List MonType) (regs : List Value) (s : State) (t : Target) → low ≤ length rs → Ready regs s → Bounded s.store → Beside w s.store s t → length regs ≡ w.registers
    → scalar_of (type_of e) ≡ Some k → P e → WellTyped sight e → ValueHasLetters e → length (rs ++ takes w.unit e) ≤ w.registers
    → Reaches w (Valued w k (length (rs ++ takes w.unit e)) (result w.unit bound rs e)) low regs s (eval_with (tables_of w.unit) e w.call s) (runs w n t (prepare w.unit bound rs e) regs)

pub filling_later : (w : Setting) (Ready : List Value → State → Type 0) (low : ℕ) → Lasts low Ready → (p : Pointer) (r : ℕ) (regs after : List Value) (s to : State) (t u : Target) (o : List ℕ)
    → Same low regs after → Later s to o → Beside w to.store to u → Filling w Ready low p r regs s t
    → Filling w Ready low p r after to u
filling_later w Ready low lasts p r regs after s to t u o same la be m = record {
  ready = lasts regs after s to o same la m.ready;
  aligned = m.aligned;
  bounded = la.bounded;
  beside = be;
  points = same.below r m.below ∙ m.points;
  below = m.below;
  registers = same.long ∙ m.registers;
}

-- ---- values without effects, wherever the names in sight are anchored

pub pure_letters : (e : Expression) → IsPure e → ValueHasLetters e → HasLetters e
pure_letters (Node at t (Number n k)) h l = tt
pure_letters (Node at t (Letter n)) h l = l
pure_letters (Node at t (Text n)) h l = tt
pure_letters (Node at t (Variable x)) h l = tt
pure_letters (Node at t (Unary op a)) h l = pure_letters a h l
pure_letters (Node at t (Binary op a b)) h l = (pure_letters a h.0 l.0, pure_letters b h.1 l.1)
pure_letters (Node at t (Both a b)) h l = (pure_letters a h.0 l.0, pure_letters b h.1 l.1)
pure_letters (Node at t (Either a b)) h l = (pure_letters a h.0 l.0, pure_letters b h.1 l.1)
pure_letters (Node at t (Choice a b c)) h l = (pure_letters a h.0 l.0, pure_letters b h.1 l.1, pure_letters c h.2 l.2)
pure_letters (Node at t (Assign op a b)) h l = absurd h
pure_letters (Node at t (Bump op a)) h l = absurd h
pure_letters (Node at t (Call f es)) h l = absurd h
pure_letters (Node at t (Cast to a)) h l = pure_letters a h l
pure_letters (Node at t (SizeOfType u)) h l = tt
pure_letters (Node at t (SizeOfExpr a)) h l = tt
pure_letters (Node at t (Index a b)) h l = (pure_letters a h.0 l.0, pure_letters b h.1 l.1)
pure_letters (Node at t (Dot a m)) h l = pure_letters a h l
pure_letters (Node at t (Arrow a m)) h l = pure_letters a h l
pure_letters (Node at t (Comma a b)) h l = pure_letters b h.1 l.1

module _ (w : Setting) (n : ℕ) (sight : Sight) (knows : Knows w sight) (bound : Bindings) (low : ℕ) where
  pub anchored_lasts : Lasts low (λ regs s. Anchored w low bound regs s.scope)
  anchored_lasts regs after s to o same la m = subst (Anchored w low bound after) (sym la.scope) (anchored_same w low bound regs after s.scope same m)

  pub pure_evaluated : AreEvaluated w n sight bound low (λ regs s. Anchored w low bound regs s.scope) IsPure
  pure_evaluated e k rs regs s t behind anchored bounded b long is pure q l room =
      let p = w.unit in
      let x = eval_with (tables_of p) e w.call s in
      let high = length (rs ++ temporaries e) in
      let code = runs w n t (setup p bound rs e) regs in
      let few : length (rs ++ temporaries e) ≤ w.registers = subst (λ ts. length (rs ++ ts) ≤ w.registers) (takes_pure p e pure) room in
      subst (λ c. Reaches w (Valued w k (length (rs ++ takes p e)) (result p bound rs e)) low regs s x (runs w n t c regs)) (sym (prepare_pure p bound e rs pure))
      (subst (λ v. Reaches w (Valued w k (length (rs ++ takes p e)) v) low regs s x code) (sym (result_pure p bound e rs pure))
      (subst (λ ts. Reaches w (Valued w k (length (rs ++ ts)) (value p bound rs e)) low regs s x code) (sym (takes_pure p e pure))
      (reached_lower w (Valued w k high (value p bound rs e)) low (length rs) regs s x code behind
      (value_reaches w k s t x regs (length rs) high code (value p bound rs e) bounded b
      (evaluates w n sight knows bound s t b.store_is bounded low e k rs is pure q (pure_letters e pure l) behind regs anchored (omega (arith, few, long)))))))

-- ---- parts of an object, and all of it

module _ (w : Setting) (n : ℕ) (sight : Sight) (knows : Knows w sight) (bound : Bindings) (low : ℕ) (Ready : List Value → State → Type 0) (lasts : Lasts low Ready) (P : Expression → Type 0)
    (computes : AreEvaluated w n sight bound low Ready P) where
  abbrev T : Tables
  T = tables_of w.unit

  -- a scalar at the offset of its part
  part_reaches : (e : Expression) (at : Place) (u : PlainType) (k : Scalar) (p : Pointer) (r d : ℕ) (rs : List MonType) (regs : List Value) (s : State) (t : Target) → low ≤ length rs → scalar_of u ≡ Some k → P e → WellTyped sight e
      → type_of e ≡ u → ValueHasLetters e
      → length (rs ++ part_temporaries (takes w.unit e)) ≤ w.registers → Filling w Ready low p r regs s t
      → Reaches w Anything low regs s (fill_one T at u (shifted p d) None (eval_with T e w.call) s) (runs w n t (translation.fill_one w.unit bound r d rs u None e) regs)
  part_reaches e at u k p r d rs regs s t behind is may q same l room m =
      let code = result w.unit bound rs e in
      let j = length (rs ++ takes w.unit e) in
      let long : length (rs ++ (takes w.unit e ++ kind.Ptr ∷ [])) ≡ suc j =
      omega (arith, length-append rs (takes w.unit e ++ kind.Ptr ∷ []), length-append (takes w.unit e) (kind.Ptr ∷ []), length-append rs (takes w.unit e)) in
      subst (λ m2. Reaches w Anything low regs s (fill_one T at u (shifted p d) None (eval_with T e w.call) s) (runs w n t (before (prepare w.unit bound rs e) (stored_at r j d m2 code)) regs)) (sym (value_type_is u k is))
      (subst (λ o. Reaches w Anything low regs s (on_outcome (eval_with T e w.call s) (λ x. as_scalar o λ k. write at (shifted p d) k x)) (runs w n t (before (prepare w.unit bound rs e) (stored_at r j d (scalar_register k) code)) regs)) (sym is)
      (reaches_before w n (Valued w k j code) Anything low regs s t (eval_with T e w.call s) (prepare w.unit bound rs e) (stored_at r j d (scalar_register k) code) (λ x. write at (shifted p d) k x)
      (computes e k rs regs s t behind m.ready m.bounded m.beside m.registers (ap scalar_of same ∙ is) may q l (omega (arith, long, room)))
      (λ v to after u o same2 la be has.
      stored_at_reaches w n low at k p r j d v to u after code la.bounded be (same2.below r m.below ∙ m.points) (omega (arith, behind, longer rs (takes w.unit e))) (omega (arith, long, room, same2.long, m.registers)) has.0 has.1)))

  -- a string literal that fills an array of characters
  text_reaches : (e : Expression) (text : ℕ) (at : Place) (u : PlainType) (p : Pointer) (r d : ℕ) (rs : List MonType) (regs : List Value) (s : State) (t : Target) → low ≤ length rs → length (rs ++ kind.Ptr ∷ []) ≤ w.registers
      → Filling w Ready low p r regs s t
      → Reaches w Anything low regs s (fill_one T at u (shifted p d) (Some text) (eval_with T e w.call) s) (runs w n t (translation.fill_one w.unit bound r d rs u (Some text) e) regs)
  text_reaches e text at u p r d rs regs s t behind room m =
      let size = size_of T.structs u in
      let bytes = text_at T.texts text in
      reached_lower w Anything low (length rs) regs s (write_each at (shifted p d) (padded size bytes) s) (runs w n t (bytes_at r (length rs) d size bytes) regs) behind
      (bytes_reach w n (length rs) size bytes at p r d s t regs (knows.octets text) m.aligned m.bounded m.beside m.points (omega (arith, m.below, behind)) (omega (arith, room, length-append rs (kind.Ptr ∷ []), m.registers)))

  -- one of both
  one_reaches : (e : Expression) (at : Place) (u : PlainType) (p : Pointer) (r d : ℕ) (rs : List MonType) (regs : List Value) (s : State) (t : Target) → low ≤ length rs → P e → InitialisedBy sight u e → ValueHasLetters e
      → length (rs ++ fill_temporaries w.unit (One e)) ≤ w.registers → Filling w Ready low p r regs s t
      → Reaches w Anything low regs s (fill T at u (shifted p d) (One e) w.call s) (runs w n t (translation.fill w.unit bound r d rs u (One e)) regs)
  one_reaches e at u p r d rs regs s t behind may (ByValue v none) l room m =
      let few : length (rs ++ part_temporaries (takes w.unit e)) ≤ w.registers = subst (λ o. length (rs ++ one_temporaries w.unit o e) ≤ w.registers) none room in
      subst (λ o. Reaches w Anything low regs s (fill_one T at u (shifted p d) o (eval_with T e w.call) s) (runs w n t (translation.fill_one w.unit bound r d rs u o e) regs)) (sym none)
      (part_reaches e at u v.scalar.scalar p r d rs regs s t behind v.scalar.is may v.typed v.ctype l few m)
  one_reaches e at u p r d rs regs s t behind may (ByText f) l room m =
      let text : string_in e ≡ Some f.text = ap string_in f.is in
      let few : length (rs ++ kind.Ptr ∷ []) ≤ w.registers = subst (λ o. length (rs ++ one_temporaries w.unit o e) ≤ w.registers) text room in
      subst (λ o. Reaches w Anything low regs s (fill_one T at u (shifted p d) o (eval_with T e w.call) s) (runs w n t (translation.fill_one w.unit bound r d rs u o e) regs)) (sym text)
      (text_reaches e f.text at u p r d rs regs s t behind few m)

  -- a type has the same parts at a place of the text and in the whole program
  same_parts : (u : PlainType) → parts_or_itself (tables_in sight) u ≡ parts_or_itself T u
  same_parts u = ap (λ structs. parts_or_itself (record { structs = structs; texts = []; literals = [] }) u) knows.structs

  -- ---- all of them

  mutual
    pub fill_reaches : (i : Initialiser) (at : Place) (u : PlainType) (p : Pointer) (r d : ℕ) (rs : List MonType) (regs : List Value) (s : State) (t : Target) → low ≤ length rs → EachValue P i → Initialises sight u i
        → InitialiserHasLetters i → length (rs ++ fill_temporaries w.unit i) ≤ w.registers → Filling w Ready low p r regs s t
        → Reaches w Anything low regs s (fill T at u (shifted p d) i w.call s) (runs w n t (translation.fill w.unit bound r d rs u i) regs)
    fill_reaches (One e) at u p r d rs regs s t behind may q l room m = one_reaches e at u p r d rs regs s t behind may q l room m
    fill_reaches (Many brace is) at u p r d rs regs s t behind may q l room m =
        parts_reach is at (parts_or_itself T u) p r d rs regs s t behind may (subst (λ cs. PartsInitialised sight cs is) (same_parts u) q) l room m

    pub parts_reach : (is : Initialisers) (at : Place) (cs : List (ℕ × PlainType)) (p : Pointer) (r d : ℕ) (rs : List MonType) (regs : List Value) (s : State) (t : Target) → low ≤ length rs → EachValues P is
        → PartsInitialised sight cs is → InitialisersHaveLetters is → length (rs ++ parts_temporaries w.unit is) ≤ w.registers → Filling w Ready low p r regs s t
        → Reaches w Anything low regs s (fill_parts T at cs (shifted p d) is w.call s) (runs w n t (translation.fill_parts w.unit bound r d rs cs is) regs)
    parts_reach NoInitialiser at cs p r d rs regs s t behind may q l room m =
        reached_lower w Anything low (length rs) regs s (zero_parts T.structs at (shifted p d) cs s) (runs w n t (effects.zero_parts w.unit.structs r (length rs) d cs) regs) behind
        (zero_parts_reach w n (length rs) w.unit.structs cs at p r d s t regs m.aligned m.bounded m.beside m.points (omega (arith, m.below, behind)) (omega (arith, room, length-append rs (kind.Ptr ∷ []), m.registers)))
    parts_reach (Listed i is) at [] p r d rs regs s t behind may q l room m = absurd q
    parts_reach (Listed i is) at (c ∷ cs) p r d rs regs s t behind may q l room m =
        let here = fill_temporaries w.unit i in
        let rest = parts_temporaries w.unit is in
        let more : length (rs ++ (here ++ rest)) ≡ length (rs ++ here ++ rest) = omega (arith, length-append (rs ++ here) rest, length-append rs here, length-append rs (here ++ rest), length-append here rest) in
        let first = translation.fill w.unit bound r (d + c.0) rs c.1 i in
        let others = translation.fill_parts w.unit bound r d (rs ++ here) cs is in
        subst (λ q. Reaches w Anything low regs s (fill_parts T at (c ∷ cs) (shifted p d) (Listed i is) w.call s) q) (sym (before_is w.globals first others w.calls n regs t))
        (reaches_then w Anything Anything low regs s (fill T at c.1 (shifted (shifted p d) c.0) i w.call s) (runs w n t first regs) (λ _. fill_parts T at cs (shifted p d) is w.call) (λ r u. runs w n u others r)
        (subst (λ q. Reaches w Anything low regs s (fill T at c.1 q i w.call s) (runs w n t first regs)) (sym (shifted_twice p d c.0))
        (fill_reaches i at c.1 p r (d + c.0) rs regs s t behind may.0 q.0 l.0 (omega (arith, more, room, longer (rs ++ here) rest)) m))
        (λ _ to after u o same la be _.
        parts_reach is at cs p r d (rs ++ here) after to u (omega (arith, behind, longer rs here)) may.1 q.1 l.1 (omega (arith, more, room)) (filling_later w Ready low lasts p r regs after s to t u o same la be m)))

  -- ---- an object, to the start of whose block the register points

  abbrev pub Initialised : Initialiser → Place → PlainType → ℕ → ℕ → List MonType → List Value → State → Target → Type 0
  Initialised i at u number r rs regs s t = Reaches w Anything low regs s (fill T at u (Into number 0) i w.call s) (runs w n t (translation.initialise w.unit bound rs r u (Some (at, i))) regs)

  pub object_text : (e : Expression) (at : Place) (u : PlainType) (number r : ℕ) (rs : List MonType) (regs : List Value) (s : State) (t : Target) → low ≤ length rs → FillsArray sight u e
      → length (rs ++ initial_temporaries w.unit (Some (at, One e))) ≤ w.registers
      → Filling w Ready low (Into number 0) r regs s t → Initialised (One e) at u number r rs regs s t
  object_text e at u number r rs regs s t behind f room m =
      let text : string_in e ≡ Some f.text = ap string_in f.is in
      let few : length (rs ++ kind.Ptr ∷ []) ≤ w.registers = subst (λ o. length (rs ++ (if is_there o then kind.Ptr ∷ [] else takes w.unit e)) ≤ w.registers) text room in
      subst (λ o. Reaches w Anything low regs s (fill_one T at u (Into number 0) o (eval_with T e w.call) s) (runs w n t
      (if not (is_there o) then before (prepare w.unit bound rs e) (store r u (result w.unit bound rs e)) else translation.fill_one w.unit bound r 0 rs u o e) regs)) (sym text)
      (text_reaches e f.text at u (Into number 0) r 0 rs regs s t behind few m)

  pub object_value : (e : Expression) (at : Place) (u : PlainType) (number r : ℕ) (rs : List MonType) (regs : List Value) (s : State) (t : Target) → low ≤ length rs → P e → IsValue sight u e → string_in e ≡ None → ValueHasLetters e
      → length (rs ++ initial_temporaries w.unit (Some (at, One e))) ≤ w.registers → Filling w Ready low (Into number 0) r regs s t → Initialised (One e) at u number r rs regs s t
  object_value e at u number r rs regs s t behind may v none l room m =
      let k = v.scalar.scalar in
      let code = result w.unit bound rs e in
      let few : length (rs ++ takes w.unit e) ≤ w.registers = subst (λ o. length (rs ++ (if is_there o then kind.Ptr ∷ [] else takes w.unit e)) ≤ w.registers) none room in
      subst (λ o. Reaches w Anything low regs s (fill_one T at u (Into number 0) o (eval_with T e w.call) s) (runs w n t
      (if not (is_there o) then before (prepare w.unit bound rs e) (store r u code) else translation.fill_one w.unit bound r 0 rs u o e) regs)) (sym none)
      (subst (λ c. Reaches w Anything low regs s (fill_one T at u (Into number 0) None (eval_with T e w.call) s) (runs w n t (before (prepare w.unit bound rs e) c) regs)) (ap (λ m. one (tree.Store r m code)) (sym (value_type_is u k v.scalar.is)))
      (subst (λ o. Reaches w Anything low regs s (on_outcome (eval_with T e w.call s) (λ x. as_scalar o λ k. write at (Into number 0) k x))
      (runs w n t (before (prepare w.unit bound rs e) (one (tree.Store r (scalar_register k) code))) regs)) (sym v.scalar.is)
      (reaches_before w n (Valued w k (length (rs ++ takes w.unit e)) code) Anything low regs s t (eval_with T e w.call s) (prepare w.unit bound rs e) (one (tree.Store r (scalar_register k) code)) (λ x. write at (Into number 0) k x)
      (computes e k rs regs s t behind m.ready m.bounded m.beside m.registers (ap scalar_of v.ctype ∙ v.scalar.is) may v.typed l few)
      (λ x to after u o same la be has.
      write_reaches w n low at k (Into number 0) r x to u after code la.bounded be (same.below r m.below ∙ m.points) has.0 (has.1 after (same_all (length (rs ++ takes w.unit e)) after))))))

  pub object_parts : (brace : Place) (is : Initialisers) (at : Place) (u : PlainType) (number r : ℕ) (rs : List MonType) (regs : List Value) (s : State) (t : Target) → low ≤ length rs → EachValues P is
      → Initialises sight u (Many brace is) → InitialisersHaveLetters is → length (rs ++ parts_temporaries w.unit is) ≤ w.registers → Filling w Ready low (Into number 0) r regs s t → Initialised (Many brace is) at u number r rs regs s t
  object_parts brace is at u number r rs regs s t behind may q l room m = fill_reaches (Many brace is) at u (Into number 0) r 0 rs regs s t behind may q l room m

  pub object_reaches : (i : Initialiser) (at : Place) (u : PlainType) (number r : ℕ) (rs : List MonType) (regs : List Value) (s : State) (t : Target) → low ≤ length rs → EachValue P i → Initialises sight u i
      → InitialiserHasLetters i → length (rs ++ initial_temporaries w.unit (Some (at, i))) ≤ w.registers → Filling w Ready low (Into number 0) r regs s t → Initialised i at u number r rs regs s t
  object_reaches (One e) at u number r rs regs s t behind may (ByValue v none) l room m = object_value e at u number r rs regs s t behind may v none l room m
  object_reaches (One e) at u number r rs regs s t behind may (ByText f) l room m = object_text e at u number r rs regs s t behind f room m
  object_reaches (Many brace is) at u number r rs regs s t behind may q l room m = object_parts brace is at u number r rs regs s t behind may q l room m
