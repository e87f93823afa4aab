-- Births of variables: what lives, what is in sight and which registers point to it after them, on both sides.
use Rattle.std.proofs.Common.{◌≡◌, ℕ, suc, ◌+◌, ◌<◌, ◌≤◌, Bool, true, false, cond, if◌then◌else◌, nat_eq, nat_le, nat_lt, List, [], ◌∷◌, ◌++◌, length, length-append, Option, Some, None, slice_get, refl, sym, ap, ◌∙◌}
use Rattle.std.proofs.Common.{subst, arith, append_assoc}
use Rattle.std.proofs.lemmas.Bool.{le-leb}
use Rattle.std.proofs.lemmas.Bool.Decides.{nat_tests}
use Rattle.std.specs.Prelude.{map}
use Rattle.c_syntax.specs.declared.types.BlockKind.TheVariants.{Stack}
use Rattle.c_syntax.specs.declared.types.Segment.{Segment}
use Rattle.c_syntax.specs.declared.types.Segment.TheVariants as segment
use Rattle.c_syntax.specs.Programs.{StructType, TranslationUnit}
use Rattle.c_syntax.specs.Statements.{Declaration}
use Rattle.c_syntax.specs.Layouts.{size_of}
use Rattle.c_model.specs.Formed.{number_of}
use Rattle.c_model.specs.Memory.{Into, Value, Points, Unwritten, Store, new_block, full_at_stack_birth, standard_sizes, greatest_number, rounded, stack_taken}
use Rattle.c_model.specs.State.{State, Scope, Normal, on_outcome, birth_of, births, find}
use Rattle.mon_syntax.specs.Registers.{Bindings, RegisterTable, register_of, bound_with}
use Rattle.mon_syntax.specs.LiveBlocks.{LiveBlock, live_in}
use Rattle.mon_syntax.proofs.FlatBlocks.{live-born}
use Rattle.track_scopes.specs.Blocks.{with_pointer, entered, with_born}
use Rattle.track_scopes.specs.Lives.{AreFrom, Point, PointInOrder, PointToBorn, with_variables}
use Rattle.c_simulation.specs.Standing.{Keeps, Setting, Bounded, Here, Standing, IsAnchored, InRegister, AtGlobal, IsInSight, Anchored}
use Rattle.c_simulation.proofs.Following.{anchored_same, kept_same}
use Rattle.c_simulation.proofs.Bounds.{bounded_append, bounded_filled}
use Rattle.instrument.proofs.Own.{AreOwn, AllCanBeBorn}
use Rattle.mon_syntax.specs.declared.tree.MonType.TheVariants.{Ptr}
use Rattle.c_simulation.specs.SameRegisters.{Same}
use Rattle.c_simulation.proofs.Registers.{register_of-bound_same, register_of-bound_other}

-- ---- names in sight

-- a name is in sight, and its register points to its block
pub anchored_born : (w : Setting) (p number x : ℕ) (bound : Bindings) (regs : List Value) (scope : Scope) → nat_eq x 4294967295 ≡ false → w.plan_to ≤ p → slice_get regs p ≡ Some (Points (Into number 0))
    → Anchored w p bound regs scope
    → Anchored w (suc p) (bound_with x p bound) regs ((x, number) ∷ scope)
anchored_born w p number x bound regs scope own apart there h y at e = by (nat_eq x y) refl e
  where
    by : (t : Bool) → nat_eq x y ≡ t → cond t (Some number) (find y scope) ≡ Some at → IsInSight w (suc p) (bound_with x p bound) regs y at
    by true f g =
        let same : x ≡ y = grind (arith, nat_tests) in
        let one : number ≡ at = cc in
        record {
          own = subst (λ z. nat_eq z 4294967295 ≡ false) same own;
          anchor = InRegister p (ap (λ z. register_of (bound_with x p bound) z) (sym same) ∙ register_of-bound_same x p bound) (omega arith) apart (there ∙ ap (λ i. Some (Points (Into i 0))) one);
        }
    by false f g = let a = h y at g in record { own = a.own; anchor = of_anchor a.anchor }
      where
        of_anchor : IsAnchored w p bound regs y at → IsAnchored w (suc p) (bound_with x p bound) regs y at
        of_anchor (InRegister r is_bound below behind points) = InRegister r (register_of-bound_other x p y bound f ∙ is_bound) (omega (arith, below)) behind points
        of_anchor (AtGlobal free is_global points) = AtGlobal (register_of-bound_other x p y bound f ∙ free) is_global points

pub anchored_higher : (w : Setting) (low high : ℕ) (bound : Bindings) (regs : List Value) (scope : Scope) → low ≤ high → Anchored w low bound regs scope → Anchored w high bound regs scope
anchored_higher w low high bound regs scope le h x number e = let a = h x number e in record { own = a.own; anchor = of_anchor a.anchor }
  where
    of_anchor : IsAnchored w low bound regs x number → IsAnchored w high bound regs x number
    of_anchor (InRegister r is_bound below behind points) = InRegister r is_bound (omega (arith, le, below)) behind points
    of_anchor (AtGlobal free is_global points) = AtGlobal free is_global points

-- all that were born are in sight
pub anchored_entered : (w : Setting) (structs : List StructType) (ds : List Declaration) (r : RegisterTable) (p : ℕ) (regs : List Value) (s : State) → AreOwn ds → length r.kinds ≡ p → w.plan_to ≤ p → PointInOrder regs p (length s.store + 1) ds
    → Anchored w p r.bound regs s.scope
    → Anchored w (p + length ds) (entered ds r).bound regs (with_variables structs ds s).scope
anchored_entered w structs [] r p regs s own e apart there h = anchored_higher w p (p + 0) r.bound regs s.scope (omega arith) h
anchored_entered w structs (d ∷ ds) r p regs s own e apart there h =
    let to : State = record s { store = s.store ++ new_block Stack (size_of structs d.ctype) ∷ []; scope = (number_of d, length s.store + 1) ∷ s.scope } in
    let long : suc (length s.store + 1) ≡ length to.store + 1 = omega (arith, length-append s.store (new_block Stack (size_of structs d.ctype) ∷ [])) in
    let sum : suc p + length ds ≡ p + suc (length ds) = omega arith in
    subst (λ n. Anchored w n (entered (d ∷ ds) r).bound regs (with_variables structs (d ∷ ds) s).scope) sum
    (anchored_entered w structs ds (with_pointer d r) (suc p) regs to own.1 (omega (arith, e, length-append r.kinds (Ptr ∷ []))) (omega (arith, apart)) (subst (λ n. PointInOrder regs (suc p) n ds) long there.1)
    (subst (λ i. Anchored w (suc p) (bound_with (number_of d) i r.bound) regs to.scope) (sym e) (anchored_born w p (length s.store + 1) (number_of d) r.bound regs s.scope own.0 apart there.0 h)))

-- the numbers of names in sight
abbrev pub names_of : Scope → List ℕ
names_of scope = map (λ (e : ℕ × ℕ). e.0) scope

-- and after the births of these
abbrev pub with_numbers : List Declaration → List ℕ → List ℕ
with_numbers [] living = living
with_numbers (d ∷ ds) living = with_numbers ds (number_of d ∷ living)

pub names_of-born : (structs : List StructType) (ds : List Declaration) (s : State) → names_of (with_variables structs ds s).scope ≡ with_numbers ds (names_of s.scope)
names_of-born structs [] s = refl
names_of-born structs (d ∷ ds) s = names_of-born structs ds (record s { store = s.store ++ new_block Stack (size_of structs d.ctype) ∷ []; scope = (number_of d, length s.store + 1) ∷ s.scope })

-- ---- blocks that live

-- the blocks that live after the births of these, of which the first one has this number
abbrev pub with_blocks : List StructType → ℕ → List Declaration → List LiveBlock → List LiveBlock
with_blocks structs number [] live = live
with_blocks structs number (d ∷ ds) live = with_blocks structs (suc number) ds (record { number = number; size = size_of structs d.ctype } ∷ live)

pub with_blocks-append : (structs : List StructType) (number : ℕ) (ds : List Declaration) (a b : List LiveBlock) → with_blocks structs number ds (a ++ b) ≡ with_blocks structs number ds a ++ b
with_blocks-append structs number [] a b = refl
with_blocks-append structs number (d ∷ ds) a b = with_blocks-append structs (suc number) ds (record { number = number; size = size_of structs d.ctype } ∷ a) b

pub live_with : (structs : List StructType) (ds : List Declaration) (s : State) → live_in (with_variables structs ds s).store ≡ with_blocks structs (length s.store + 1) ds (live_in s.store)
live_with structs [] s = refl
live_with structs (d ∷ ds) s =
    let to : State = record s { store = s.store ++ new_block Stack (size_of structs d.ctype) ∷ []; scope = (number_of d, length s.store + 1) ∷ s.scope } in
    let long : length to.store + 1 ≡ suc (length s.store + 1) = omega (arith, length-append s.store (new_block Stack (size_of structs d.ctype) ∷ [])) in
    live_with structs ds to
    ∙ ap (λ n. with_blocks structs n ds (live_in to.store)) long
    ∙ ap (with_blocks structs (suc (length s.store + 1)) ds) (live-born s.store (size_of structs d.ctype))

pub blocks_from : (structs : List StructType) (base number : ℕ) (ds : List Declaration) (live : List LiveBlock) → base < number → AreFrom base live → AreFrom base (with_blocks structs number ds live)
blocks_from structs base number [] live lt h = h
blocks_from structs base number (d ∷ ds) live lt h = blocks_from structs base (suc number) ds (record { number = number; size = size_of structs d.ctype } ∷ live) (omega (arith, lt)) (lt, h)

-- registers from one number to another point to these blocks
abbrev pub Pointed : ℕ → ℕ → List Value → List ℕ → List LiveBlock → Type 0
Pointed least low regs [] [] = Unit {0}
Pointed least low regs [] (b ∷ bs) = ⊥
Pointed least low regs (p ∷ ps) [] = ⊥
Pointed least low regs (p ∷ ps) (b ∷ bs) = (p < low) × (slice_get regs p ≡ Some (Points (Into b.number 0))) × (least ≤ p) × Pointed least low regs ps bs

pub pointed_point : (least low : ℕ) (regs : List Value) (ps : List ℕ) (bs : List LiveBlock) → Pointed least low regs ps bs → Point regs ps bs
pointed_point least low regs [] [] h = tt
pointed_point least low regs [] (b ∷ bs) h = absurd h
pointed_point least low regs (p ∷ ps) [] h = absurd h
pointed_point least low regs (p ∷ ps) (b ∷ bs) h = (h.1, pointed_point least low regs ps bs h.3)

pub pointed_same : (least low high : ℕ) (regs after : List Value) (ps : List ℕ) (bs : List LiveBlock) → low ≤ high → ((j : ℕ) → j < low → least ≤ j → slice_get after j ≡ slice_get regs j) → Pointed least low regs ps bs
    → Pointed least high after ps bs
pointed_same least low high regs after [] [] le same h = tt
pointed_same least low high regs after [] (b ∷ bs) le same h = absurd h
pointed_same least low high regs after (p ∷ ps) [] le same h = absurd h
pointed_same least low high regs after (p ∷ ps) (b ∷ bs) le same h = (omega (arith, le, h.0), same p h.0 h.2 ∙ h.1, h.2, pointed_same least low high regs after ps bs le same h.3)

pub pointed_append : (least low : ℕ) (regs : List Value) (ps qs : List ℕ) (xs bs : List LiveBlock) → Pointed least low regs ps xs → Pointed least low regs qs bs → Pointed least low regs (ps ++ qs) (xs ++ bs)
pointed_append least low regs [] qs [] bs h g = g
pointed_append least low regs [] qs (x ∷ xs) bs h g = absurd h
pointed_append least low regs (p ∷ ps) qs [] bs h g = absurd h
pointed_append least low regs (p ∷ ps) qs (x ∷ xs) bs h g = (h.0, h.1, h.2, pointed_append least low regs ps qs xs bs h.3 g)

pub pointed_born : (structs : List StructType) (least p number : ℕ) (ds : List Declaration) (regs : List Value) (ps : List ℕ) (bs : List LiveBlock) → least ≤ p → PointInOrder regs p number ds → Pointed least p regs ps bs
    → Pointed least (p + length ds) regs (with_born p ds ps) (with_blocks structs number ds bs)
pointed_born structs least p number [] regs ps bs apart there h = pointed_same least p (p + 0) regs regs ps bs (omega arith) (λ j lt more. refl) h
pointed_born structs least p number (d ∷ ds) regs ps bs apart there h =
    let sum : suc p + length ds ≡ p + suc (length ds) = omega arith in
    subst (λ n. Pointed least n regs (with_born (suc p) ds (p ∷ ps)) (with_blocks structs (suc number) ds (record { number = number; size = size_of structs d.ctype } ∷ bs))) sum
    (pointed_born structs least (suc p) (suc number) ds regs (p ∷ ps) (record { number = number; size = size_of structs d.ctype } ∷ bs) (omega (arith, apart)) there.1
    (omega arith, there.0, apart, pointed_same least p (suc p) regs regs ps bs (omega arith) (λ j lt more. refl) h))

-- ---- bounds

size_of_born : (store : Store) (size : ℕ) → full_at_stack_birth standard_sizes store size ≡ None → size ≤ 1048576
size_of_born store size e = by (nat_le greatest_number (length store)) (nat_lt 1048576 (stack_taken store + rounded size)) refl e
  where
    by : (x y : Bool) → nat_lt 1048576 (stack_taken store + rounded size) ≡ y → (if x then Some segment.Numbers else (if y then Some segment.Stack else None)) ≡ None → size ≤ 1048576
    by true y l f = absurd cc
    by false true l f = absurd cc
    by false false l f =
        let room : stack_taken store + rounded size ≤ 1048576 = grind (arith, nat_tests, l) in
        omega (arith, room)

-- what was born had room
pub can_be_born : (p : TranslationUnit) (ds : List Declaration) (s to : State) → births p.structs ds s ≡ Normal tt to → AllCanBeBorn p ds
can_be_born p [] s to e = tt
can_be_born p (d ∷ ds) s to e = by (λ g. can_be_born p ds born to g) (full_at_stack_birth standard_sizes s.store size) refl e
  where
    size : ℕ
    size = size_of p.structs d.ctype

    born : State
    born = record s { store = s.store ++ new_block Stack size ∷ []; scope = (number_of d, length s.store + 1) ∷ s.scope }

    by : (births p.structs ds born ≡ Normal tt to → AllCanBeBorn p ds) → (o : Option Segment) → full_at_stack_birth standard_sizes s.store size ≡ o → on_outcome (birth_of o (number_of d) size s) (λ _. births p.structs ds) ≡ Normal tt to
        → AllCanBeBorn p (d ∷ ds)
    by rest None f g = (le-leb size 268435456 (omega (arith, size_of_born s.store size f)), rest g)
    by rest (Some full) f g = absurd cc

-- where there was room
pub bounded_new : (store : Store) (size : ℕ) → full_at_stack_birth standard_sizes store size ≡ None → Bounded store → Bounded (store ++ new_block Stack size ∷ [])
bounded_new store size e h = bounded_append store (new_block Stack size) h (bounded_filled (new_block Stack size) size Unwritten refl refl (omega (arith, size_of_born store size e)) tt (λ k p f. absurd cc))

pub bounded_born : (structs : List StructType) (ds : List Declaration) (s to : State) → births structs ds s ≡ Normal tt to → Bounded s.store → Bounded to.store
bounded_born structs [] s to e h = let same : s ≡ to = cc in subst (λ (x : State). Bounded x.store) same h
bounded_born structs (d ∷ ds) s to e h =
    by (λ g x. bounded_born structs ds (record s { store = s.store ++ new_block Stack (size_of structs d.ctype) ∷ []; scope = (number_of d, length s.store + 1) ∷ s.scope }) to g x)
    (full_at_stack_birth standard_sizes s.store (size_of structs d.ctype)) refl e
  where
    born : Store
    born = s.store ++ new_block Stack (size_of structs d.ctype) ∷ []

    by : (births structs ds (record s { store = born; scope = (number_of d, length s.store + 1) ∷ s.scope }) ≡ Normal tt to → Bounded born → Bounded to.store) → (o : Option Segment)
        → full_at_stack_birth standard_sizes s.store (size_of structs d.ctype) ≡ o → on_outcome (birth_of o (number_of d) (size_of structs d.ctype) s) (λ _. births structs ds) ≡ Normal tt to → Bounded to.store
    by rest None f g = rest g (bounded_new s.store (size_of structs d.ctype) f h)
    by rest (Some full) f g = absurd cc

pub long_with : (structs : List StructType) (ds : List Declaration) (s : State) → length s.store ≤ length (with_variables structs ds s).store
long_with structs [] s = omega arith
long_with structs (d ∷ ds) s =
    let to : State = record s { store = s.store ++ new_block Stack (size_of structs d.ctype) ∷ []; scope = (number_of d, length s.store + 1) ∷ s.scope } in
    omega (arith, long_with structs ds to, length-append s.store (new_block Stack (size_of structs d.ctype) ∷ []))

-- the rest of the state stays
pub record IsBesides (s to : State) : Type 0 where
  pub calls : to.calls ≡ s.calls
  pub steps : to.steps ≡ s.steps
  pub input : to.input ≡ s.input
  pub output : to.output ≡ s.output
  pub marks : to.marks ≡ s.marks

pub besides : (structs : List StructType) (ds : List Declaration) (s : State) → IsBesides s (with_variables structs ds s)
besides structs [] s = record { calls = refl; steps = refl; input = refl; output = refl; marks = refl }
besides structs (d ∷ ds) s =
    let h = besides structs ds (record s { store = s.store ++ new_block Stack (size_of structs d.ctype) ∷ []; scope = (number_of d, length s.store + 1) ∷ s.scope }) in
    record { calls = h.calls; steps = h.steps; input = h.input; output = h.output; marks = h.marks }

-- those of the call, and those around it
pub all_apart : (a b c d : List LiveBlock) → (a ++ (b ++ c)) ++ d ≡ a ++ (b ++ (c ++ d))
all_apart a b c d = append_assoc a (b ++ c) d ∙ ap (λ l. a ++ l) (append_assoc b c d)

-- ---- where the variables of a block stand

abbrev pub behind_births : List StructType → Here → State → List Declaration → Here
behind_births structs h s ds = record h { inner = with_blocks structs (length s.store + 1) ds h.inner }

module _ (w : Setting) (h : Here) (low : ℕ) (r : RegisterTable) (ds : List Declaration) (regs after : List Value) (s : State) (le : low ≤ length r.kinds) (st : Standing w h low r.bound regs s)
    (born : PointToBorn (length r.kinds) ds s.store regs after)
    (done : births w.unit.structs ds s ≡ Normal tt (with_variables w.unit.structs ds s)) where
  abbrev to : State
  to = with_variables w.unit.structs ds s

  abbrev new : List LiveBlock
  new = with_blocks w.unit.structs (length s.store + 1) ds []

  pub new_same : Same low regs after
  new_same = record { long = born.long; below = λ j lt. born.before j (omega (arith, lt, le)) }

  pub new_live : live_in to.store ≡ new ++ live_in s.store
  new_live = live_with w.unit.structs ds s ∙ with_blocks-append w.unit.structs (length s.store + 1) ds [] (live_in s.store)

  pub are_new : AreFrom (length s.store) new
  are_new = blocks_from w.unit.structs (length s.store) (length s.store + 1) ds [] (omega arith) tt

  pub standing_born : AreOwn ds → Standing w (record h { inner = with_blocks w.unit.structs (length s.store + 1) ds h.inner }) (length r.kinds + length ds) (entered ds r).bound after to
  standing_born own =
      let b = besides w.unit.structs ds s in
      record {
        anchored = anchored_entered w w.unit.structs ds r (length r.kinds) after s own refl (omega (arith, st.kept.below, le)) born.point
            (anchored_higher w low (length r.kinds) r.bound after s.scope le (anchored_same w low r.bound regs after s.scope new_same st.anchored));
        active = b.calls ∙ st.active;
        live =
            live_with w.unit.structs ds s ∙ ap (with_blocks w.unit.structs (length s.store + 1) ds) st.live
            ∙ with_blocks-append w.unit.structs (length s.store + 1) ds h.inner (h.between ++ (h.outer ++ w.around));
        since_left = blocks_from w.unit.structs h.left (length s.store + 1) ds h.inner (omega (arith, st.longer)) st.since_left;
        before_left = st.before_left;
        since_loop =
            subst (AreFrom h.loop) (with_blocks-append w.unit.structs (length s.store + 1) ds h.inner h.between)
            (blocks_from w.unit.structs h.loop (length s.store + 1) ds (h.inner ++ h.between) (omega (arith, st.longer, st.deeper)) st.since_loop);
        before_loop = st.before_loop;
        since_call =
            subst (AreFrom w.base) (with_blocks-append w.unit.structs (length s.store + 1) ds h.inner (h.between ++ h.outer))
            (blocks_from w.unit.structs w.base (length s.store + 1) ds (h.inner ++ (h.between ++ h.outer)) (omega (arith, st.longer, st.deeper, st.nested)) st.since_call);
        before_call = st.before_call;
        nested = st.nested;
        deeper = st.deeper;
        longer = omega (arith, st.longer, long_with w.unit.structs ds s);
        bounded = bounded_born w.unit.structs ds s to done st.bounded;
        registers = born.long ∙ st.registers;
        kept =
            let here = kept_same w low s.marks regs after new_same st.kept in
            record { below = omega (arith, here.below, le); planned = here.planned; given = here.given; keeps = subst (λ ms. Keeps w.plan ms after) (sym b.marks) here.keeps };
      }
