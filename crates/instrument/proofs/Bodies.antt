-- The body of a definition: how many registers there are, and that it does the same on both sides from its parameters on.
use Rattle.std.proofs.Common.{◌≡◌, ℕ, suc, ◌+◌, ◌≤◌, pos, Bool, true, false, cond, List, [], ◌∷◌, ◌++◌, length, length-append, length-drop, drop, slice_get, Option, Some, None, refl, sym, ap, ◌∙◌, subst, arith}
use Rattle.std.proofs.lemmas.Bool.{lt-ltb}
use Rattle.c_syntax.specs.declared.place.Place.{Place}
use Rattle.c_syntax.specs.declared.expression.Use.{Use}
use Rattle.c_syntax.specs.Ctypes.{PlainType}
use Rattle.c_syntax.specs.Expressions.{Expressions}
use Rattle.c_syntax.specs.Statements.{Declaration, Statement, Empty, Eval, Block, If, While, Do, For, Break, Continue, Return, BlockItems}
use Rattle.c_syntax.specs.Programs.{FunctionContract, Function, StringLiteral, TranslationUnit}
use Rattle.c_syntax.specs.declared.types.CInt.TheVariants.{U64}
use Rattle.c_syntax.specs.Layouts.{size_of}
use Rattle.c_model.specs.Integers.{fits}
use Rattle.c_model.specs.Memory.{Value, Points, Store}
use Rattle.c_model.specs.Meaning.{text_at, Callee, Tables, tables_of, items_with, body_with, declared_in, is_definition, literal}
use Rattle.c_model.specs.ExpressionTyping.{Sight, inner, with_object}
use Rattle.c_model.specs.UnitTyping.{with_parameter, with_parameters}
use Rattle.c_model.specs.TypedTrees.{HasKnownSize, Calls, ItemsTyped, BodyTyped, around_body, AreParameters}
use Rattle.c_model.specs.Formed.{declared_in_body, declared_in_items}
use Rattle.c_model.specs.EffectPlaces.{ItemsPlaced}
use Rattle.c_model.specs.ReadTree.{BodyRead}
use Rattle.instrument.proofs.RangedTrees.{AreRangedAsserts, AreRangedClauses}
use Rattle.c_model.specs.TypedAnnotations.{ItemsNoted}
use Rattle.instrument.proofs.DeclarationCode.{next-entered}
use Rattle.instrument.proofs.Parameters.{AreScalars}
use Rattle.mon_syntax.specs.declared.tree.MonType.{MonType}
use Rattle.mon_syntax.specs.Registers.{RegisterTable, no_registers, with_kinds, next_register}
use Rattle.mon_syntax.specs.Meaning.{Next}
use Rattle.mon_syntax.specs.Meaning as monitored
use Rattle.mon_syntax.specs.BlockMemory.{over_blocks}
use Rattle.mon_syntax.specs.LiveBlocks.{LiveBlock, live_in}
use Rattle.instrument.specs.Limits.{HaveNumbers, BodyHasNumbers}
use Rattle.track_scopes.specs.Blocks.{entered}
use Rattle.instrument.specs.Translation.{all_kinds, at_leave, at_start, behind_own, behind_pre, body_part, contract_types, first_flag, first_own, first_pointer, held_of, outermost}
use Rattle.instrument.specs.Translation.{own_types, plan_of, pointers, result_register, with_variables, value_types, after_body, after_items, arguments_from, registers_from, items}
use Rattle.instrument.specs.Translation as target
use Rattle.c_simulation.specs.Keeping.{Kept, registers_of}
use Rattle.annot_simulation.specs.Plan.{kept_types, planned}
use Rattle.annot_simulation.specs.Snapshots.{Ascend}
use Rattle.annot_simulation.proofs.Plans.{plans_ascend}
use Rattle.c_model.specs.AnnotationTyping.{in_body}
use Rattle.instrument.proofs.Blocks.{Meets}
use Rattle.instrument.proofs.Passages.{ItemsKept, snapshot_grows, entry_grows, leave_grows}
use Rattle.c_simulation.specs.Standing.{Setting, AreOctets, Knows, runs}
use Rattle.c_simulation.specs.Following.{Follows}
use Rattle.instrument.proofs.Births.{with_numbers, behind_births}
use Rattle.instrument.proofs.Declared.{AreBorn, ItemsCanDeclare, items_grow, statement_grows}
use Rattle.instrument.proofs.Numbers.{numbers_in, parted_in, AllOutside, all_narrower, in_bounds, born_outside, body_can_declare, are_free, all_free, known_small}
use Rattle.c_simulation.proofs.Calls.{IsCalled}
use Rattle.interval_infer.proofs.Sights.{found_parameters}
use Rattle.instrument.proofs.Scenes.{Scene, scene_parameters}
use Rattle.instrument.proofs.Sight.{scope_for, sees_born, declared_born}
use Rattle.instrument.proofs.Statements.{block_does, items_follow}
use Rattle.instrument.proofs.Functions.{BodyFollows, of_function, own, how_many, at_body}
use Rattle.c_model.specs.TypedAnnotations.{BodyNoted}
use Rattle.instrument.proofs.Programs.{Part}
use Rattle.instrument.proofs.Own.{AreOwn, are_there}
use Rattle.c_model.specs.TextOrder.{Between}
use Rattle.c_effects.specs.Expressions.{object_of_literal}
use Rattle.c_model.specs.StaticObjects.{static_objects}

-- ---- how many registers there are

arguments_long : (names : List (List ℕ)) (k : ℕ) (ds : List Declaration) → length (arguments_from names k ds) ≡ length ds
arguments_long names k [] = refl
arguments_long names k (d ∷ ds) = ap suc (arguments_long names (suc k) ds)

registers_from_long : (k : ℕ) (ts : List MonType) → length (registers_from k ts) ≡ length ts
registers_from_long k [] = refl
registers_from_long k (t ∷ ts) = ap suc (registers_from_long (suc k) ts)

-- before the body: an argument for each parameter, the registers in front and the function's own, and one that points to each parameter's block
pub start_registers : (p : TranslationUnit) (own : List MonType) (f : Function) → next_register (at_start p own f) ≡ first_pointer p own f + length f.params
start_registers p own f = next-entered f.params (with_kinds (own_types f ++ own) (with_kinds (value_types f.params) no_registers))

pub body_grows : (p : TranslationUnit) (plan : List Kept) (body : Option Statement) (r : RegisterTable) → next_register r ≤ next_register (after_body p plan body r)
body_grows p plan None r = omega arith
body_grows p plan (Some a) r = statement_grows p plan a r

pub pre_grows : (p : TranslationUnit) (own : List MonType) (f : Function) → next_register (at_start p own f) ≤ next_register (behind_pre p own f)
pre_grows p own f = snapshot_grows p (at_start p own f).bound None (plan_of f) (at_start p own f).kinds

pub entered_grows : (p : TranslationUnit) (own : List MonType) (f : Function) (c : FunctionContract) → next_register (at_start p own f) ≤ next_register (target.at_body p own f c)
entered_grows p own f c = omega (arith, pre_grows p own f, entry_grows p (behind_pre p own f).bound (first_flag f) (behind_pre p own f).kinds c)

pub left_grows : (p : TranslationUnit) (own : List MonType) (f : Function) (c : FunctionContract) → next_register (after_body p (plan_of f) f.body (target.at_body p own f c)) ≤ length (all_kinds p own f (Some c))
left_grows p own f c = leave_grows p (behind_pre p own f).bound (plan_of f) (held_of f) (first_flag f) (at_leave p own f c) c

pub pre_fits : (p : TranslationUnit) (own : List MonType) (f : Function) (o : Option FunctionContract) → next_register (behind_pre p own f) ≤ length (all_kinds p own f o)
pre_fits p own f None = body_grows p (plan_of f) f.body (behind_pre p own f)
pre_fits p own f (Some c) =
    omega (arith, entry_grows p (behind_pre p own f).bound (first_flag f) (behind_pre p own f).kinds c, body_grows p (plan_of f) f.body (target.at_body p own f c), left_grows p own f c)

start_grows : (p : TranslationUnit) (own : List MonType) (f : Function) (o : Option FunctionContract) → next_register (at_start p own f) ≤ length (all_kinds p own f o)
start_grows p own f None = omega (arith, pre_grows p own f, body_grows p (plan_of f) f.body (behind_pre p own f))
start_grows p own f (Some c) = omega (arith, entered_grows p own f c, body_grows p (plan_of f) f.body (target.at_body p own f c), left_grows p own f c)

pub registers_long : (p : TranslationUnit) (globals : List Value) (main index : ℕ) (f : Function) (call : Callee) (calls : monitored.Calls over_blocks) (n : ℕ)
    → how_many p globals main index f call calls n ≡ length (all_kinds p (own p globals main index f call calls n) f f.contract)
registers_long p globals main index f call calls n =
    let mine = own p globals main index f call calls n in
    let kinds = all_kinds p mine f f.contract in
    let a = arguments_long p.names 0 f.params in
    let b = registers_from_long (length f.params) (drop (length f.params) kinds) in
    let c = length-drop (length f.params) kinds in
    omega (arith, a, b, c, start_registers p mine f, start_grows p mine f f.contract)

-- the registers of the plan are the function's own
pub plan_fits : (f : Function) → first_own f + length (kept_types (planned f)) ≤ behind_own f
plan_fits f =
    let a = length-append (value_types f.params) (own_types f) in
    let c = length-append (kept_types (planned f)) (contract_types f.result f.contract) in
    omega (arith, a, c)

pub ascend_more : (ks : List Kept) (n m k : ℕ) → m ≤ k → Ascend n ks m → Ascend n ks k
ascend_more [] n m k le h = omega (arith, le, h)
ascend_more (x ∷ ks) n m k le h = (h.0, ascend_more ks (x.register + registers_of x.term) m k le h.1)

-- ---- parameters

parameters_structs : (s : Sight) (ds : List Declaration) → (with_parameters s ds).structs ≡ s.structs
parameters_structs s [] = refl
parameters_structs s (d ∷ ds) = parameters_structs (with_parameter s d) ds ∙ by d.named
  where
    by : (t : Bool) → (cond t (with_object s d) s).structs ≡ s.structs
    by true = refl
    by false = refl

pub parameters_scalars : (s : Sight) (ds : List Declaration) → AreParameters s ds → AreScalars ds
parameters_scalars s [] k = tt
parameters_scalars s (d ∷ ds) k = (k.0.scalar, parameters_scalars (with_parameter s d) ds k.1)

-- ---- a body

pub record CanBeDeclared (p : TranslationUnit) (f : Function) (living : List ℕ) (items : BlockItems) : Type 0 where
  pub params_own : AreOwn f.params
  pub born : AreBorn p (declared_in items)
  pub items_declare : ItemsCanDeclare p (with_numbers (declared_in items) (with_numbers f.params living)) items

pub can_be_declared : (p : TranslationUnit) (f : Function) (part : Part p f) (items : BlockItems) → declared_in_body f.body ≡ declared_in_items items → ItemsTyped (with_parameters (inner part.sight) f.params) (around_body f.result) items
    → CanBeDeclared p f (numbers_in p.globals) items
can_be_declared p f part items body typed =
    let first = suc f.place.offset in
    let high = part.high in
    let living = numbers_in p.globals in
    let free = all_free p first high part.below part.apart in
    let between : Between first (numbers_in (f.params ++ declared_in_items items)) high = subst (λ ds. Between first (numbers_in (f.params ++ ds)) high) body part.between in
    let parts = parted_in first high f.params (declared_in_items items) between in
    let le = in_bounds first parts.middle (numbers_in f.params) parts.front in
    let le2 = in_bounds parts.middle high (numbers_in (declared_in_items items)) parts.back in
    let outside : AllOutside parts.middle high (with_numbers f.params living) =
    born_outside parts.middle high first parts.middle f.params living parts.front (omega arith) (all_narrower first parts.middle high high living le (omega arith) part.apart) in
    let declared = body_can_declare p items (with_parameters (inner part.sight) f.params) (around_body f.result) parts.middle high (with_numbers f.params living) (parameters_structs (inner part.sight) f.params ∙ part.structs)
    (λ x from to. free x (omega (arith, le, from)) to) typed parts.back outside in
    record { params_own = (are_free p f.params first parts.middle parts.front (λ x from to. free x from (omega (arith, to, le2)))).0; born = declared.0; items_declare = declared.1 }

-- a definition, whose body is a block
pub record HasBody (p : TranslationUnit) (f : Function) (part : Part p f) : Type 0 where
  pub at : Place
  pub items : BlockItems
  pub is : f.body ≡ Some (Block at items)
  pub formed : ItemsPlaced AreRangedAsserts AreRangedClauses items
  pub typed : ItemsTyped (with_parameters (inner part.sight) f.params) (around_body f.result) items
  pub noted : ItemsNoted (in_body (with_parameters (inner part.sight) f.params)) items
  pub letters : HaveNumbers items

pub has_body : (p : TranslationUnit) (f : Function) (part : Part p f) → is_definition f ≡ true → HasBody p f part
has_body p f part e = by f.body refl
  where
    by : (o : Option Statement) → f.body ≡ o → HasBody p f part
    by None g = absurd cc
    by (Some (Block at items)) g =
        let formed : BodyRead AreRangedAsserts AreRangedClauses (Some (Block at items)) = subst (BodyRead AreRangedAsserts AreRangedClauses) g part.read.body in
        let typed : BodyTyped (with_parameters (inner part.sight) f.params) f.result (Some (Block at items)) = subst (BodyTyped (with_parameters (inner part.sight) f.params) f.result) g part.typed.body in
        let noted : BodyNoted (in_body (with_parameters (inner part.sight) f.params)) (Some (Block at items)) = subst (BodyNoted (in_body (with_parameters (inner part.sight) f.params))) g part.noted in
        let numbers : BodyHasNumbers (Some (Block at items)) = subst BodyHasNumbers g (part.letters e) in
        record { at = at; items = items; is = g; formed = formed.0; typed = typed; noted = noted; letters = numbers }
    by (Some (Empty at)) g = absurd (subst (BodyRead AreRangedAsserts AreRangedClauses) g part.read.body)
    by (Some (Eval at x)) g = absurd (subst (BodyRead AreRangedAsserts AreRangedClauses) g part.read.body)
    by (Some (If at x a b)) g = absurd (subst (BodyRead AreRangedAsserts AreRangedClauses) g part.read.body)
    by (Some (While at annots x a)) g = absurd (subst (BodyRead AreRangedAsserts AreRangedClauses) g part.read.body)
    by (Some (Do at a x)) g = absurd (subst (BodyRead AreRangedAsserts AreRangedClauses) g part.read.body)
    by (Some (For at annots first x step a)) g = absurd (subst (BodyRead AreRangedAsserts AreRangedClauses) g part.read.body)
    by (Some (Break at)) g = absurd (subst (BodyRead AreRangedAsserts AreRangedClauses) g part.read.body)
    by (Some (Continue at)) g = absurd (subst (BodyRead AreRangedAsserts AreRangedClauses) g part.read.body)
    by (Some (Return at x)) g = absurd (subst (BodyRead AreRangedAsserts AreRangedClauses) g part.read.body)
    by (Some _) g = absurd (subst (BodyRead AreRangedAsserts AreRangedClauses) g part.read.body)

-- literals have their pointers, and are bytes
pub record LiteralsStand (p : TranslationUnit) (globals : List Value) : Type 0 where
  pub points : (m : ℕ) (x : StringLiteral) → slice_get p.texts m ≡ Some x → slice_get globals (object_of_literal m (static_objects p)) ≡ Some (Points (literal (tables_of p) m))
  pub octets : (m : ℕ) → AreOctets (text_at (tables_of p).texts m)

-- the sizes that a function asks for are values
sizes_fit : (p : TranslationUnit) (s : Sight) → s.structs ≡ p.structs → (t : PlainType) → HasKnownSize s t → fits U64 (pos (size_of p.structs t)) ≡ true
sizes_fit p s same t h = lt-ltb (size_of p.structs t) 18446744073709551616 (known_small p.structs s t same h)

module _ (p : TranslationUnit) (globals : List Value) (main index : ℕ) (f : Function) (part : Part p f) (body : HasBody p f part) (call : Callee) (calls : monitored.Calls over_blocks) (n : ℕ)
    (literals : LiteralsStand p globals)
    (all_calls : (base : ℕ) (around : List LiveBlock) (active to : ℕ) (result : Option ℕ) (s : Sight) → s.names ≡ part.sight.names → s.texts ≡ part.sight.texts → s.functions ≡ part.sight.functions → (u : Use) (t : PlainType) (es : Expressions)
    → Calls s u t es → IsCalled (of_function p globals main index f call calls n base around active to result) n u t es)
    (kept : ItemsKept (plan_of f) (with_parameters (inner part.sight) f.params) body.items) where
  abbrev T : Tables
  T = tables_of p

  abbrev names : List ℕ
  names = numbers_in p.globals

  abbrev mine : List MonType
  mine = own p globals main index f call calls n

  abbrev plan : List Kept
  plan = plan_of f

  abbrev low : ℕ
  low = first_pointer p mine f + length f.params

  abbrev outer : Sight
  outer = inner part.sight

  abbrev sight : Sight
  sight = with_parameters outer f.params

  abbrev living : List ℕ
  living = with_numbers f.params names

  abbrev ds : List Declaration
  ds = declared_in body.items

  declared : CanBeDeclared p f names body.items
  declared = can_be_declared p f part body.items (ap declared_in_body body.is) body.typed

  -- in a setting of the function
  module _ (base : ℕ) (around : List LiveBlock) (active to : ℕ) (result : Option ℕ) where
    abbrev w : Setting
    w = of_function p globals main index f call calls n base around active to result

    knows : Knows w outer
    knows = record {
      literals = λ m x e. literals.points m x (ap (λ l. slice_get l m) (sym part.texts) ∙ e);
      octets = literals.octets;
      structs = part.structs;
      sizes = λ t h. sizes_fit p outer part.structs t h;
    }

    scene : Scene w n sight
    scene = scene_parameters w n outer f.params (record { knows = knows; calls = λ u t es c. all_calls base around active to result outer refl refl refl u t es c })

    -- the body from these registers on, which know the parameters' blocks as those do where the parameters live
    body_does : first_own f + length (kept_types (planned f)) ≤ to → (live : List ℕ) (r : RegisterTable) → r.bound ≡ (at_start p mine f).bound
        → next_register (at_start p mine f) ≤ next_register r → next_register (after_body p plan f.body r) ≤ how_many p globals main index f call calls n
        → BodyFollows p globals main index f call calls n base around active to result live r
    body_does fits live r bound le room blocks regs s t m ln =
        let ordered = ascend_more plan (first_own f) (first_own f + length (kept_types (planned f))) to fits (plans_ascend (first_own f) (planned f)) in
        let here = at_body base blocks f.result in
        let spot = outermost result live in
        let a = start_registers p mine f in
        let f0 = next-entered ds r in
        let f1 = items_grow p plan body.items (entered ds r) in
        let enough : next_register (after_items p plan body.items (entered ds r)) ≤ how_many p globals main index f call calls n =
        subst (λ o. next_register (after_body p plan o r) ≤ how_many p globals main index f call calls n) body.is room in
        subst (λ o. Follows w here low regs Next s (body_with T o call (suc n) s) (runs w n t (body_part p plan result live r o) regs)) (sym body.is)
        (block_does w n ordered here spot low r living ds (items_with T body.items call (suc n)) (items p plan (with_variables (next_register r) ds spot) (entered ds r) body.items) (omega (arith, a, le))
        (omega (arith, enough, f0, f1)) declared.born (λ old space.
        items_follow w n ordered body.items sight (around_body f.result) (behind_births p.structs here old ds) (with_variables (next_register r) ds spot) (next_register r + length ds) (entered ds r) (with_numbers ds living) (refl, refl) scene
        (sees_born sight.entities ds living (found_parameters outer f.params (scope_for living) (sees_born part.sight.entities f.params names part.found) (declared_born f.params names))) (declared_born ds living)
        (are_there p ds declared.born.local space) refl (refl, refl) declared.items_declare body.formed body.typed kept body.letters (omega (arith, f0)) enough)
        regs s t (subst (λ b. Meets w here spot low b living regs s t) (sym bound) m) ln)

  -- of a function without a contract
  pub body_follows : f.contract ≡ None → (store : Store) (active : ℕ)
      → BodyFollows p globals main index f call calls n (length store) (live_in store) active (behind_own f) None (pointers p mine f) (behind_pre p mine f)
  body_follows none store active =
      body_does (length store) (live_in store) active (behind_own f) None (plan_fits f) (pointers p mine f) (behind_pre p mine f) refl (pre_grows p mine f)
      (omega (arith, registers_long p globals main index f call calls n, ap (λ o. length (all_kinds p mine f o)) none))

  -- and of one that has this
  pub inside_follows : (c : FunctionContract) → f.contract ≡ Some c → (base : ℕ) (around : List LiveBlock) (active : ℕ)
      → BodyFollows p globals main index f call calls n base around active (first_flag f) (Some (result_register f)) [] (target.at_body p mine f c)
  inside_follows c is base around active =
      body_does base around active (first_flag f) (Some (result_register f)) (omega arith) [] (target.at_body p mine f c) refl (entered_grows p mine f c)
      (omega (arith, registers_long p globals main index f call calls n, ap (λ o. length (all_kinds p mine f o)) is, left_grows p mine f c))

  -- what a call of the function needs
  pub has_room : low ≤ how_many p globals main index f call calls n
  has_room = omega (arith, registers_long p globals main index f call calls n, start_registers p mine f, start_grows p mine f f.contract)

  pub parameters_are : AreScalars f.params
  parameters_are = parameters_scalars (inner part.sight) f.params part.typed.params

  pub parameters_own : AreOwn f.params
  parameters_own = declared.params_own
