-- What a typed call calls: a function of the library, or one of the program, which does the same on both sides.
use Rattle.std.proofs.Common.{◌≡◌, ℕ, zero, suc, ◌+◌, Bool, true, false, ◌&&◌, if◌then◌else◌, nat_eq, List, [], ◌∷◌, Option, Some, None, refl, sym, ap, ◌∙◌, subst, arith}
use Rattle.std.proofs.lemmas.List.{append-nil}
use Rattle.std.proofs.lemmas.Bool.Decides.{nat_tests}
use Rattle.std.specs.Prelude.{slice_get, bytes_eq, codes}
use Rattle.c_syntax.specs.declared.place.Place.{Place}
use Rattle.c_syntax.specs.declared.types.CInt.TheVariants.{I8, I32, U64}
use Rattle.c_syntax.specs.declared.expression.Use.{Use}
use Rattle.c_syntax.specs.Ctypes.{PlainType, Void, Int, Ptr, int_type}
use Rattle.c_syntax.specs.Expressions.{Expressions}
use Rattle.c_syntax.specs.Statements.{Declaration}
use Rattle.c_syntax.specs.Programs.{Function, TranslationUnit}
use Rattle.c_syntax.specs.Layouts.{IntegerType, PointerType}
use Rattle.c_model.specs.Memory.{Value, Store}
use Rattle.c_model.specs.State.{State, Spent, Over, Stop, Evaluation, ◌>>=◌, ◌>>◌, on_outcome, step_from, frame, alone, mark, called as in_call}
use Rattle.c_model.specs.Meaning.{Callee, Tables, tables_of, is_definition, global_scope, is_of_library, definition_at, call_with, call_of, library_call, parameters, result_with}
use Rattle.c_model.specs.ContractChecks.{entry}
use Rattle.c_model.specs.MonitoredRuns as machine
use Rattle.c_model.specs.ExpressionTyping.{Sight, Signature, name_at, library_function, of_library, inner}
use Rattle.c_model.specs.UnitTyping.{types_of}
use Rattle.c_model.specs.TypedTrees.{HaveTypes, Calls, IsScalar}
use Rattle.mon_syntax.specs.Meaning.{Stops, then_do, level, body_runs, with_value}
use Rattle.mon_syntax.specs.Meaning as monitored
use Rattle.mon_syntax.specs.BlockMemory.{over_blocks}
use Rattle.mon_syntax.specs.LiveBlocks.{LiveBlock}
use Rattle.mon_syntax.specs.Trees.{MonExpression, MonFunction}
use Rattle.mon_syntax.specs.Trees as tree
use Rattle.c_effects.specs.Expressions.{one}
use Rattle.instrument.specs.Translation.{first_pointer, plan_of, function_of, functions_from, front_temporaries, index_of_main}
use Rattle.c_effects.specs.Effects.{index_of, call}
use Rattle.c_effects.specs.Effects as effects
use Rattle.c_simulation.specs.Standing.{Target, Setting, runs, Anchored}
use Rattle.c_simulation.proofs.Results.{one_is}
use Rattle.c_model.specs.AcceptedPrograms.{AreScalar}
use Rattle.c_simulation.proofs.Calls.{Called, EndsRun, HaveAll, takes, DoesCall, AllDo, IsCalled}
use Rattle.instrument.proofs.Functions.{of_function, setting, call_follows}
use Rattle.instrument.proofs.CheckedCalls.{CallLaws, call_gives}
use Rattle.instrument.proofs.Passages.{ItemsKept}
use Rattle.c_model.specs.UnitTyping.{with_parameters}
use Rattle.c_model.specs.Library.{is_library_name}
use Rattle.c_model.specs.Formats.{types_of as directives}
use Rattle.instrument.proofs.Formats.{Asks, format_scalar, not_printf}
use Rattle.instrument.proofs.LibraryNames.{IsLibrary, IsPutChar, IsGetChar, IsExit, IsMalloc, IsCalloc, IsFree, IsPrintf, library_is}
use Rattle.instrument.proofs.Library.{putchar_does, getchar_does, exit_does, malloc_does, calloc_does, free_does, printf_does}
use Rattle.instrument.proofs.Resolved.{IsResolved, IsFunction, IsOfLibrary}
use Rattle.instrument.proofs.Programs.{Part, Parts, picked, index_by, IsPicked, is_picked, has_number, definition_is, index_is}
use Rattle.instrument.proofs.Bodies.{LiteralsStand, HasBody, has_body, body_follows, inside_follows, has_room, parameters_are, parameters_own, parameters_scalars}
use Rattle.instrument.proofs.Parameters.{AreScalars}

-- by the signature that is called
called_as : (w : Setting) (n : ℕ) (f : Use) (t : PlainType) (es : Expressions) (params : List PlainType) (result : PlainType) → AreScalar params → HaveTypes params es → t ≡ result → AllDo w n f es result params → IsCalled w n f t es
called_as w n f t es params result scalars types same does = record {
  types = params;
  scalars = scalars;
  arguments = types;
  does = subst (λ r. AllDo w n f es r params) (sym same) does;
}

parameters_scalar : (ds : List Declaration) → AreScalars ds → AreScalar (types_of ds)
parameters_scalar [] h = tt
parameters_scalar (d ∷ ds) h = (h.0, parameters_scalar ds h.1)

an_int : IsScalar int_type
an_int = record { scalar = IntegerType I32; is = refl }

a_size : IsScalar (Int U64)
a_size = record { scalar = IntegerType U64; is = refl }

a_pointer : IsScalar (Ptr Void)
a_pointer = record { scalar = PointerType; is = refl }

-- the function that a number picks isn't the one that a name picks, where it has another name
differs : (p : TranslationUnit) (x : ℕ) (fs : List Function) (g : Function) → picked (has_number x) fs ≡ Some g → bytes_eq (name_at p.names g.name) (codes "main") ≡ false → nat_eq (index_by (has_number x) fs) (index_of_main p.names fs) ≡ false
differs p x [] g e other = absurd cc
differs p x (f ∷ fs) g e other = by (λ h. differs p x fs g h other) (is_definition f) (has_number x f) (bytes_eq (name_at p.names f.name) (codes "main")) refl e
  where
    by : (picked (has_number x) fs ≡ Some g → nat_eq (index_by (has_number x) fs) (index_of_main p.names fs) ≡ false) → (d h m : Bool) → bytes_eq (name_at p.names f.name) (codes "main") ≡ m
        → (if d && h then Some f else picked (has_number x) fs) ≡ Some g
        → nat_eq (if d then (if h then 0 else suc (index_by (has_number x) fs)) else index_by (has_number x) fs) (if d then (if m then 0 else suc (index_of_main p.names fs)) else index_of_main p.names fs) ≡ false
    by rest false h m i j = rest j
    by rest true false true i j = grind (arith, nat_tests)
    by rest true false false i j = let before = rest j in grind (arith, nat_tests)
    by rest true true false i j = grind (arith, nat_tests)
    by rest true true true i j =
        let same : f ≡ g = cc in
        let both : bytes_eq (name_at p.names f.name) (codes "main") ≡ false = ap (λ (h : Function). bytes_eq (name_at p.names h.name) (codes "main")) same ∙ other in
        absurd cc

nothing_before : (n : ℕ) → 0 + n ≡ n
nothing_before n = omega arith

-- what is known of the annotations of a program's functions: those kept at labels keep their ranges and are in sight there, and the code of contracts does
-- what they ask
pub record AnnotationsStand (p : TranslationUnit) (gs : List Value) : Type 0 where
  pub kept : (f : Function) (part : Part p f) (body : HasBody p f part) → ItemsKept (plan_of f) (with_parameters (inner part.sight) f.params) body.items
  pub laws : (index : ℕ) (f : Function) (part : Part p f) → HasBody p f part → (call : Callee) (calls : monitored.Calls over_blocks) (n : ℕ) → CallLaws p gs (index_of_main p.names p.funcs) index f call calls n

-- what a program's text tells of its functions, and what stands where at the beginning of each call: the pointers to globals and literals
module _ (p : TranslationUnit) (parts : Parts p p.funcs) (gs : List Value)
    (anchored : (w : Setting) → w.unit ≡ p → w.globals ≡ gs → (low : ℕ) (regs : List Value) → Anchored w low [] regs (global_scope p))
    (literals : LiteralsStand p gs) (stands : AnnotationsStand p gs) where
  abbrev pub main : ℕ
  main = index_of_main p.names p.funcs

  abbrev pub functions : List MonFunction
  functions = functions_from p main 0 p.funcs

  abbrev T : Tables
  T = tables_of p

  -- ---- calls, so deep

  -- a call in which calls go so deep
  abbrev pub at_depth : ℕ → Setting → Setting
  at_depth k v = record v { unit = p; call = call_of p (suc k); calls = level over_blocks gs functions k; globals = gs }

  -- the calls of all functions do the same
  abbrev pub CallsAt : ℕ → Type 0
  CallsAt k = (v : Setting) (current : Function) (part : Part p current) (s : Sight) → s.names ≡ part.sight.names → s.texts ≡ part.sight.texts → s.functions ≡ part.sight.functions
      → (f : Use) (t : PlainType) (es : Expressions) → Calls s f t es → IsCalled (at_depth k v) k f t es

  module _ (v : Setting) where
    abbrev w : ℕ → Setting
    w k = at_depth k v

    -- calls of the library
    library_called : (k : ℕ) (f : Use) (t : PlainType) (es : Expressions) (callee : Signature) (params : List PlainType) → is_of_library f ≡ true → library_function f.name (name_at p.names f.name) ≡ Some callee → t ≡ callee.result
        → Asks p (name_at p.names f.name) es callee.params params → HaveTypes params es → IsCalled (w k) k f t es
    library_called k f t es callee params l e result asks types = by (library_is f.name name callee e)
      where
        name : List ℕ
        name = name_at p.names f.name

        -- but printf
        called : (y : List ℕ) (g : Signature) → name ≡ y → callee ≡ g → bytes_eq y (codes "printf") ≡ false → AreScalar g.params → AllDo (w k) k f es g.result g.params → IsCalled (w k) k f t es
        called y g is same other scalars does =
            let plain : params ≡ g.params = asks.plain (ap (λ x. bytes_eq x (codes "printf")) is ∙ other) ∙ ap (λ (g : Signature). g.params) same in
            called_as (w k) k f t es g.params g.result scalars (subst (λ ts. HaveTypes ts es) plain types) (result ∙ ap (λ (g : Signature). g.result) same) does

        printf_called : name ≡ codes "printf" → callee ≡ of_library f.name (Ptr (Int I8) ∷ []) Void → IsCalled (w k) k f t es
        printf_called is same =
            let format = asks.format (ap (λ x. bytes_eq x (codes "printf")) is) in
            called_as (w k) k f t es (Ptr (Int I8) ∷ directives format.pieces) Void (format_scalar format.pieces) (subst (λ ts. HaveTypes ts es) format.types types) (result ∙ ap (λ (g : Signature). g.result) same)
            (printf_does (w k) k (suc k) refl f l es is format.number format.literal format.pieces format.first format.there format.said (literals.points format.number format.literal format.there))

        by : IsLibrary f.name name callee → IsCalled (w k) k f t es
        by (IsPutChar is same) = called (codes "putchar") (of_library f.name (int_type ∷ []) int_type) is same refl (an_int, tt) (putchar_does (w k) k (suc k) refl f l es is)
        by (IsGetChar is same) = called (codes "getchar") (of_library f.name [] int_type) is same refl tt (getchar_does (w k) k (suc k) refl f l es is)
        by (IsExit is same) = called (codes "exit") (of_library f.name (int_type ∷ []) Void) is same refl (an_int, tt) (exit_does (w k) k (suc k) refl f l es is)
        by (IsMalloc is same) = called (codes "malloc") (of_library f.name (Int U64 ∷ []) (Ptr Void)) is same refl (a_size, tt) (malloc_does (w k) k (suc k) refl f l es is)
        by (IsCalloc is same) = called (codes "calloc") (of_library f.name (Int U64 ∷ Int U64 ∷ []) (Ptr Void)) is same refl (a_size, (a_size, tt)) (calloc_does (w k) k (suc k) refl f l es is)
        by (IsFree is same) = called (codes "free") (of_library f.name (Ptr Void ∷ []) Void) is same refl (a_pointer, tt) (free_does (w k) k (suc k) refl f l es is)
        by (IsPrintf is same) = printf_called is same

    -- ---- a call of a function of the program

    module _ (f : Use) (es : Expressions) (g : Function) (l : is_of_library f ≡ false) (found : definition_at f.decl p.funcs ≡ Some g) (picked : IsPicked p (has_number f.decl) main 0 p.funcs g)
        (not_main : nat_eq (0 + index_by (has_number f.decl) p.funcs) main ≡ false) where
      abbrev index : ℕ
      index = 0 + index_by (has_number f.decl) p.funcs

      -- the source's call, and the target's
      source_is : (k : ℕ) (at : Place) (vs : List Value) (s : State) → call_of p (suc k) at f vs s ≡ call_with T (global_scope p) (Some g) (call_of p k) k at vs s
      source_is k at vs s =
          ap (λ b. (if b then library_call T at (slice_get p.names f.name) vs else call_with T (global_scope p) (definition_at f.decl p.funcs) (call_of p k) k at vs) s) l
          ∙ ap (λ o. call_with T (global_scope p) o (call_of p k) k at vs s) found

      code_is : (k : ℕ) (into : Option ℕ) (args : List MonExpression) (regs : List Value) (t : Target) → runs (w k) k t (call p into f es args) regs ≡ monitored.exec over_blocks gs (tree.Call into (index_of f.decl p.funcs) args) (w k).calls k regs t
      code_is k into args regs t =
          ap (λ b. runs (w k) k t (if b then effects.named_call p into (name_at p.names f.name) es args else one (tree.Call into (index_of f.decl p.funcs) args)) regs) l
          ∙ one_is gs (tree.Call into (index_of f.decl p.funcs) args) (w k).calls k regs t

      function_is : slice_get functions (index_of f.decl p.funcs) ≡ Some (function_of p main index g)
      function_is = ap (slice_get functions) (index_is f.decl p.funcs) ∙ picked.translated

      calls_run : (k : ℕ) (into : Option ℕ) (args : List MonExpression) (vs : List Value) (regs : List Value) (t : Target) → HaveAll (w k) args regs t.mem vs
          → runs (w k) k t (call p into f es args) regs ≡ then_do (level over_blocks gs functions k (index_of f.decl p.funcs) vs t) (takes into regs)
      calls_run k into args vs regs t has =
          code_is k into args regs t
          ∙ ap (λ o. with_value o t.steps (λ vs. then_do (level over_blocks gs functions k (index_of f.decl p.funcs) vs t) (takes into regs))) has

      part : Part p g
      part = picked.part

      -- no call is made where no step is left
      function_zero : AllDo (w 0) 0 f es g.result (types_of g.params)
      function_zero vs types s t even bounded le at into regs args has begin =
          DoesCall (Stops machine.Spent 0 []) (calls_run 0 into args vs regs t has)
          (EndsRun Spent machine.Spent s [] refl
          (source_is 0 at vs s ∙ spent s.steps (omega (arith, le)))
          (sym (append-nil s.output)) (ap (λ k. Stops machine.Spent k []) (omega (arith, le))))
        where
          inside : Evaluation Value
          inside = in_call (frame >> alone (global_scope p) >> parameters T at g.params vs >> mark None >> (entry g.contract >>= λ hs. result_with T g hs (call_of p 0) 0))

          spent : (k : ℕ) → k ≡ 0 → on_outcome (step_from k s) (λ _. inside) ≡ Stop (Over Spent) s
          spent k e = ap (λ i. on_outcome (step_from i s) (λ _. inside)) e

      function_more : (k : ℕ) → CallsAt k → AllDo (w (suc k)) (suc k) f es g.result (types_of g.params)
      function_more k below vs types s t even bounded le at into regs args has begin =
          let body = has_body p g part picked.definition in
          let deeper = level over_blocks gs functions k in
          let there = λ (store : Store) (active : ℕ). setting p gs main index g (call_of p (suc k)) deeper k store active in
          let mine = front_temporaries p (nat_eq index main) in
          let calls_below = λ (base : ℕ) (around : List LiveBlock) (active to : ℕ) (result : Option ℕ) (s : Sight) (names : s.names ≡ part.sight.names) (texts : s.texts ≡ part.sight.texts) (signatures : s.functions ≡ part.sight.functions)
          (u : Use) (t : PlainType) (es : Expressions) (c : Calls s u t es).
          below (of_function p gs main index g (call_of p (suc k)) deeper k base around active to result) g part s names texts signatures u t es c in
          let kept = stands.kept g part body in
          DoesCall (level over_blocks gs functions (suc k) (index_of f.decl p.funcs) vs t) (calls_run (suc k) into args vs regs t has)
          (subst (λ r. Called s g.result r (level over_blocks gs functions (suc k) (index_of f.decl p.funcs) vs t)) (sym (source_is (suc k) at vs s))
          (subst (λ o. Called s g.result (call_with T (global_scope p) (Some g) (call_of p (suc k)) (suc k) at vs s)
          (monitored.step_from t.steps (λ j. body_runs over_blocks gs o deeper k vs (record t { steps = j }))))
          (sym function_is)
          (call_follows p gs main index g (call_of p (suc k)) deeper k not_main
          (λ store active regs. anchored (there store active) refl refl (first_pointer p mine g) regs)
          (has_room p gs main index g part body (call_of p (suc k)) deeper k literals calls_below kept)
          (parameters_are p gs main index g part body (call_of p (suc k)) deeper k literals calls_below kept)
          (parameters_own p gs main index g part body (call_of p (suc k)) deeper k literals calls_below kept)
          (stands.laws index g part body (call_of p (suc k)) deeper k).types_are (stands.laws index g part body (call_of p (suc k)) deeper k).pre
          (call_gives p gs main index g (call_of p (suc k)) deeper k (stands.laws index g part body (call_of p (suc k)) deeper k)
          (body_follows p gs main index g part body (call_of p (suc k)) deeper k literals calls_below kept)
          (inside_follows p gs main index g part body (call_of p (suc k)) deeper k literals calls_below kept))
          vs types at s t even bounded le)))

    -- what is called, so deep
    called_at : (k : ℕ) (f : Use) (t : PlainType) (es : Expressions) (callee : Signature) (params : List PlainType) → Asks p (name_at p.names f.name) es callee.params params → HaveTypes params es
        → bytes_eq (name_at p.names f.name) (codes "main") ≡ false
        → ((g : Function) → is_of_library f ≡ false → definition_at f.decl p.funcs ≡ Some g → IsPicked p (has_number f.decl) main 0 p.funcs g → nat_eq (0 + index_by (has_number f.decl) p.funcs) main ≡ false → AllDo (w k) k f es g.result
        (types_of g.params))
        → IsResolved p f t callee → IsCalled (w k) k f t es
    called_at k f t es callee params asks types other go (IsFunction g l found name own result) =
        let first : picked (has_number f.decl) p.funcs ≡ Some g = sym (definition_is f.decl p.funcs) ∙ found in
        let pick = is_picked p (has_number f.decl) main p.funcs g parts first 0 in
        let not_main : nat_eq (0 + index_by (has_number f.decl) p.funcs) main ≡ false = ap (λ i. nat_eq i main) (nothing_before (index_by (has_number f.decl) p.funcs)) ∙ differs p f.decl p.funcs g first
        (ap (λ x. bytes_eq (name_at p.names x) (codes "main")) name ∙ other) in
        let own_name : is_library_name (name_at p.names f.name) ≡ false =
        ap (λ x. is_library_name (name_at p.names x)) (sym name) ∙ ap (λ l. is_library_name (name_at l g.name)) (sym pick.part.names) ∙ pick.part.typed.own_name in
        let printf = not_printf (name_at p.names f.name) own_name in
        called_as (w k) k f t es (types_of g.params) g.result (parameters_scalar g.params (parameters_scalars (inner pick.part.sight) g.params pick.part.typed.params)) (subst (λ ts. HaveTypes ts es) (asks.plain printf ∙ own) types)
        result (go g l found pick not_main)
    called_at k f t es callee params asks types other go (IsOfLibrary l found result) = library_called k f t es callee params l found result asks types

  -- a call in this part isn't one of main
  no_main : (current : Function) (part : Part p current) (s : Sight) (f : Use) (t : PlainType) (es : Expressions) → s.names ≡ part.sight.names → Calls s f t es → bytes_eq (name_at p.names f.name) (codes "main") ≡ false
  no_main current part s f t es names c = ap (λ l. bytes_eq (name_at l f.name) (codes "main")) (sym (names ∙ part.names)) ∙ c.not_main

  pub calls_at : (k : ℕ) → CallsAt k
  calls_at zero v current part s names texts signatures f t es c =
      called_at v 0 f t es c.callee c.params (part.asks s names texts f t es c) c.arguments (no_main current part s f t es names c)
      (λ g l found picked not_main. function_zero v f es g l found picked not_main)
      (part.resolves s names signatures f t es c)
  calls_at (suc k) v current part s names texts signatures f t es c =
      called_at v (suc k) f t es c.callee c.params (part.asks s names texts f t es c) c.arguments (no_main current part s f t es names c)
      (λ g l found picked not_main. function_more v f es g l found picked not_main k (calls_at k))
      (part.resolves s names signatures f t es c)
