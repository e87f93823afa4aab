-- The translation of a typed program is valid: its globals, and its functions, each with a name of its own, one of which is `main`.
pub use Rattle.instrument.proofs.TypedDefinitions.{IsFileSight, GlobalTyped, GlobalsTyped, DefinitionTyped, DefinitionsTyped, IsTypedProgram}
use Rattle.std.proofs.Common.{◌≡◌, ℕ, suc, ◌+◌, ◌<◌, ◌≤◌, Bool, true, false, cond, if◌then◌else◌, ◌&&◌, ◌*◌, nat_eq, List, [], ◌∷◌, ◌++◌, length, Option, Some, None, slice_get, append_assoc, refl, sym, ap, ◌∙◌, subst, arith, inl, inr, pos}
use Rattle.std.proofs.lemmas.List.{length-append}
use Rattle.std.proofs.lemmas.Bool.Decides.{nat_tests}
use Rattle.std.proofs.lemmas.Bool.{eq-eqb}
use Rattle.std.proofs.Math.Nat.{max-le}
use Rattle.std.specs.Prelude.{bytes_eq, codes}
use Rattle.c_syntax.specs.declared.place.Place.{Place}
use Rattle.c_syntax.specs.declared.expression.Use.{Use}
use Rattle.c_syntax.specs.declared.types.CInt.{CInt}
use Rattle.c_syntax.specs.declared.types.CInt.TheVariants as c
use Rattle.c_syntax.specs.Ctypes.{PlainType, Int, int_type}
use Rattle.c_syntax.specs.Statements.{Initialiser, Declaration, Block}
use Rattle.c_syntax.specs.Programs.{FunctionContract, Function, TranslationUnit}
use Rattle.c_syntax.specs.Layouts.{size_of}
use Rattle.c_model.specs.AnnotationRanges.{seen_result}
use Rattle.c_model.specs.ContractChecks.{entry_checks, leave_checks}
use Rattle.c_model.specs.Formed.{FunctionNamed, IsShortClause, number_of}
use Rattle.c_model.specs.FormedContracts.{ContractFormed, MaybeFormed}
use Rattle.c_model.specs.TypedAnnotations.{ContractStands}
use Rattle.c_model.specs.UnrangedPrograms.{ContractRanged}
use Rattle.c_model.specs.Library.{is_library_name}
use Rattle.c_model.specs.Meaning.{is_definition, declared_in, definition_at}
use Rattle.c_model.specs.ExpressionTyping.{name_at}
use Rattle.c_model.specs.ExpressionTyping.{Sight, inner, with_object}
use Rattle.c_model.specs.ExpressionTyping.{same_type}
use Rattle.c_model.specs.UnitTyping.{no_main, has_no_parameters, main_fault, room_fault, with_parameter, with_parameters}
use Rattle.mon_syntax.specs.declared.tree.MonType.{MonType}
use Rattle.mon_syntax.specs.declared.tree.MonType.TheVariants.{I32, Ptr}
use Rattle.mon_syntax.specs.Registers.{RegisterTable, with_kinds, no_registers, next_register}
use Rattle.mon_syntax.specs.Trees.{MonStatements, MonitoredGlobal}
use Rattle.mon_syntax.specs.Globals.{globals_taken}
use Rattle.mon_syntax.specs.Trees as tree
use Rattle.mon_syntax.specs.Valid.{Types, HasType, Labels, Signature, IsExpression, AreStatements, IsFunction, AreFunctions, IsValid, has_label, depth_of_all, types_of}
use Rattle.mon_syntax.specs.Names.{IsFreeName}
use Rattle.c_model.specs.Sizes.{most_forms}
use Rattle.instrument.proofs.FormedTrees.{InitialFormed}
use Rattle.c_model.specs.AcceptedPrograms.{AreDefined}
use Rattle.c_model.specs.TypedTrees.{WhereAny, Denotes, IsScalar, Initialises, AreParameters, around_body}
use Rattle.c_initialisers.specs.Letters.{InitialiserHasLetters}
use Rattle.track_scopes.specs.Blocks.{entered, deaths}
use Rattle.c_effects.specs.Expressions.{value_type, before, pointer_to, set, object_of_global, global_index}
use Rattle.c_simulation.specs.Keeping.{Kept, is_pointer_term}
use Rattle.c_simulation.specs.Labels.{leave_label}
use Rattle.annot_simulation.specs.ContractCode.{all_flagged, behind_leave, checks_code, entry_code, flags_from, leave_code}
use Rattle.annot_simulation.specs.ContractValidity.{AreFlags, AreValid}
use Rattle.annot_simulation.specs.Plan.{Entry, IsIn, in_contract}
use Rattle.annot_simulation.specs.Plan.{value_types as entry_types}
use Rattle.annot_simulation.specs.Snapshots.{snapshot}
use Rattle.c_initialisers.specs.Translation.{initial_temporaries, initialise}
use Rattle.instrument.specs.Translation.{outermost, Spot, value_types, registers_of, after_body, after_items, with_variables, body_code, body_part, parameters, items, code_of, function_name, arguments_from, result_of}
use Rattle.instrument.specs.Translation.{all_kinds, at_body, at_brace, at_leave, at_start, behind_pre, first_flag, first_pointer, held_of, last_return, own_types, plan_of, pointers, result_register}
use Rattle.instrument.specs.Translation.{function_of, functions_from, translated}
use Rattle.instrument.specs.Translation.{monitored_globals, index_of_main, front, front_temporaries, global_temporaries, all_global_temporaries, initialise_global, initialise_globals}
use Rattle.annot_simulation.proofs.ContractValid.{checks_are_valid, snapshots_are_valid}
use Rattle.annot_simulation.proofs.Depths.{deep_before}
use Rattle.annot_simulation.proofs.SnapshotDepths.{snapshot_deep}
use Rattle.annot_simulation.proofs.ValidParts.{before_valid, set_valid}
use Rattle.annot_simulation.specs.Validity.{Begins, HasRegisters}
use Rattle.instrument.proofs.Names.{IsNumber, leave_is_free, main_is_free, function_is_free, functions_differ}
use Rattle.instrument.proofs.Typed.{begins_left, begins_right, register_at, is_global, Knows, count_of_globals, scalar_is}
use Rattle.instrument.proofs.LaidOut.{structs_fit}
use Rattle.instrument.proofs.Tables.{begins_itself, begins_then, items_begin, HavePointers, entered_keep, entered_have, AllPoint, PointFrom, entered_from, point_born}
use Rattle.instrument.proofs.FullDepths.{deep_set}
use Rattle.instrument.proofs.ValidCalls.{HaveOwnNames, signatures, calls_valid}
use Rattle.instrument.proofs.ValidInitialisers.{initialise_valid, deep_initialise}
use Rattle.instrument.proofs.ValidBlocks.{Sees, AreSmall, sees_one, sees_later, deep_deaths, birth_valid, deaths_valid, alive_valid}
use Rattle.instrument.proofs.Depths.{deep}
use Rattle.instrument.proofs.ValidStatements.{AreAround, inside_contract, items_small, items_valid, outside_all}
use Rattle.instrument.proofs.ValidAsserts.{pointer_has}
use Rattle.instrument.proofs.ValidContracts.{are_keepable, entry_checkable, leave_checkable}
use Rattle.instrument.proofs.ValidResults.{MainGives, deep_flagged, deep_last, flagged_valid, held_sorted, held_typed, last_valid, main_gives, own_objects}
use Rattle.instrument.proofs.Keepable.{AtStart, OwnSight}
use Rattle.instrument.proofs.KeptRegisters.{PlanTyped, flags_are_typed, kept_registers, plan_is_typed, result_typed}
use Rattle.instrument.specs.Limits.{ContractHasNumbers}
use Rattle.instrument.proofs.FullValid.{CallsValid}
use Rattle.instrument.proofs.ValidRegisters.{AllOf, all_begin, all_of, body_begins, entry_begins, leave_begins, not_among, kinds, front_begins, own_begin, values_begin, function_types, registers_valid, all_globals_valid, room_is}
use Rattle.instrument.proofs.Starts.{monitored_long}
use Rattle.instrument.proofs.Own.{AreOwn}
use Rattle.instrument.proofs.Programs.{no_parameters}
use Rattle.c_model.specs.StaticObjects.{static_objects}
use Rattle.instrument.proofs.Objects.{global_inside}

-- ---- parameters

-- as many registers from this one on as these variables are hold their values
abbrev HoldFrom : Types → ℕ → List Declaration → Type 0
HoldFrom ts v [] = Unit {0}
HoldFrom ts v (d ∷ ds) = (slice_get ts v ≡ Some (value_type d.ctype)) × HoldFrom ts (suc v) ds

hold_from : (ts front : Types) (ds : List Declaration) → Begins (front ++ value_types ds) ts → HoldFrom ts (length front) ds
hold_from ts front [] b = tt
hold_from ts front (d ∷ ds) b =
    let t = value_type d.ctype in
    let long : length (front ++ t ∷ []) ≡ suc (length front) = omega (arith, length-append front (t ∷ [])) in (
      register_at front ts t (begins_left front (t ∷ []) (value_types ds) ts b),
      subst (λ v. HoldFrom ts v ds) long (hold_from ts (front ++ t ∷ []) ds (begins_right front (t ∷ []) (value_types ds) ts b)),
    )

deep_parameters : (p : TranslationUnit) (r v : ℕ) (ds : List Declaration) → depth_of_all (parameters p r v ds) ≤ 1
deep_parameters p r v [] = omega arith
deep_parameters p r v (d ∷ ds) = max-le (omega arith) (max-le (omega arith) (deep_parameters p (suc r) (suc v) ds))

scalar_small : (p : TranslationUnit) (t : PlainType) → IsScalar t → size_of p.structs t ≤ 2147483647
scalar_small p t h = scalar_is (λ u. size_of p.structs u ≤ 2147483647) t h int_small (λ u. omega arith)
  where
    int_small : (k : CInt) → size_of p.structs (Int k) ≤ 2147483647
    int_small c.I8 = omega arith
    int_small c.U8 = omega arith
    int_small c.I16 = omega arith
    int_small c.U16 = omega arith
    int_small c.I32 = omega arith
    int_small c.U32 = omega arith
    int_small c.I64 = omega arith
    int_small c.U64 = omega arith

parameters_small : (p : TranslationUnit) (s : Sight) (ds : List Declaration) → AreParameters s ds → AreSmall p.structs ds
parameters_small p s [] h = tt
parameters_small p s (d ∷ ds) h = (scalar_small p d.ctype h.0.scalar, parameters_small p (with_parameter s d) ds h.1)

module _ (p : TranslationUnit) (gs : List Signature) (ts : Types) (result : Option MonType) (ls : Labels) where
  -- each parameter is born and takes its argument
  parameters_valid : (r v : ℕ) (ds : List Declaration) → AreSmall p.structs ds → PointFrom ts r ds → HoldFrom ts v ds → AreStatements (count_of_globals p) gs ts result ls (parameters p r v ds)
  parameters_valid r v [] o h k = tt
  parameters_valid r v (d ∷ ds) o h k =
      let argument : IsExpression (count_of_globals p) ts (tree.Register v) (value_type d.ctype) = record { typed = k.0; within = omega arith } in
      ((birth_valid (count_of_globals p) gs ts result ls p.structs r d o.0 h.0).0, ((h.0, argument), parameters_valid (suc r) (suc v) ds o.1 h.1 k.1))

-- ---- globals before `main`

-- a global is one of them
index_below : (front : List Declaration) (d : Declaration) (ds : List Declaration) → global_index (number_of d) (front ++ d ∷ ds) < length (front ++ d ∷ ds)
index_below [] d ds = let here : global_index (number_of d) (d ∷ ds) ≡ 0 = ap (λ t. if t then 0 else suc (global_index (number_of d) ds)) (eq-eqb (number_of d) (number_of d) refl) in omega (arith, here)
index_below (c ∷ front) d ds = by (index_below front d ds) (nat_eq (number_of c) (number_of d))
  where
    by : global_index (number_of d) (front ++ d ∷ ds) < length (front ++ d ∷ ds) → (t : Bool) → (if t then 0 else suc (global_index (number_of d) (front ++ d ∷ ds))) < suc (length (front ++ d ∷ ds))
    by rest true = omega arith
    by rest false = omega (arith, rest)

deep_globals : (p : TranslationUnit) (rs : Types) (ds : List Declaration) → GlobalsTyped p ds → depth_of_all (initialise_globals p rs ds) ≤ suc most_forms
deep_globals p rs [] h = omega arith
deep_globals p rs (d ∷ ds) h =
    let g = object_of_global (number_of d) (static_objects p) in
    deep_before (initialise_global p rs g d.ctype d.init) (initialise_globals p (rs ++ global_temporaries p d.init) ds) (suc most_forms) (one g d.init h.0.formed) (deep_globals p (rs ++ global_temporaries p d.init) ds h.1)
  where
    one : (g : ℕ) (o : Option (Place × Initialiser)) → InitialFormed p.structs o → depth_of_all (initialise_global p rs g d.ctype o) ≤ suc most_forms
    one g None f = omega arith
    one g (Some i) f =
        deep_before (set (length rs) (tree.Global g)) (initialise p [] (rs ++ Ptr ∷ []) (length rs) d.ctype (Some i)) (suc most_forms) (deep_set (length rs) (tree.Global g) (suc most_forms) (omega arith))
        (deep_initialise p [] (rs ++ Ptr ∷ []) (length rs) d.ctype (Some i) f)

-- what is defined has a name of its own
own_name_at : (p : TranslationUnit) (main k : ℕ) (fs : List Function) → DefinitionsTyped p main k fs → (n : ℕ) (f : Function) → definition_at n fs ≡ Some f → is_library_name (name_at p.names f.name) ≡ false
own_name_at p main k [] h n f e = absurd cc
own_name_at p main k (g ∷ fs) h n f e = by (is_definition g) (nat_eq g.place.offset n) refl h.1 e (λ j rest i. own_name_at p main j fs rest n f i)
  where
    by : (a b : Bool) → is_definition g ≡ a → DefinitionsTyped p main (if a then suc k else k) fs → (if a && b then Some g else definition_at n fs) ≡ Some f
        → ((j : ℕ) → DefinitionsTyped p main j fs → definition_at n fs ≡ Some f → is_library_name (name_at p.names f.name) ≡ false) → is_library_name (name_at p.names f.name) ≡ false
    by true true definition rest e go = let same : g ≡ f = cc in subst (λ (g : Function). is_library_name (name_at p.names g.name) ≡ false) same (h.0 definition).own_name
    by true false definition rest e go = go (suc k) rest e
    by false b definition rest e go = go k rest e

module _ (p : TranslationUnit) (q : IsTypedProgram p) where
  abbrev gs : List Signature
  gs = signatures p

  own_names : HaveOwnNames p
  own_names n f e = own_name_at p (index_of_main p.names p.funcs) 0 p.funcs q.definitions n f e

  file_knows : (ts : Types) (s : Sight) → IsFileSight p s → Knows p ts [] s
  file_knows ts s f = record {
    sees = λ x b e. let o = f.objects x b e in record { own = o.0; has = o.1 };
    structs_are = f.structs_are;
    texts_are = f.texts_are;
    fits = structs_fit p.structs q.structs;
  }

  module _ (ts : Types) (result : Option MonType) where
    abbrev Main : MonStatements → Type 0
    Main a = AreStatements (count_of_globals p) gs ts result [] a

    global_valid : (rs : Types) (g : ℕ) (d : Declaration) (o : Option (Place × Initialiser)) → g < count_of_globals p → (k : GlobalTyped p d) → d.init ≡ o → Begins (rs ++ global_temporaries p o) ts → Main (initialise_global p rs g d.ctype o)
    global_valid rs g d None lt k e b = tt
    global_valid rs g d (Some i) lt k e b =
        let here = begins_left rs (Ptr ∷ []) (initial_temporaries p (Some i)) ts b in
        let points = register_at rs ts Ptr here in
        let pointer : IsExpression (count_of_globals p) ts (tree.Global g) Ptr = record { typed = (refl, omega (arith, lt)); within = omega arith } in
        before_valid (count_of_globals p) gs ts result [] (set (length rs) (tree.Global g)) (initialise p [] (rs ++ Ptr ∷ []) (length rs) d.ctype (Some i))
        (set_valid (count_of_globals p) gs ts result [] (length rs) (tree.Global g) Ptr points pointer)
        (initialise_valid p gs ts result [] k.sight (file_knows ts k.sight k.file) (calls_valid p own_names q.texts ts k.sight k.file.names_are k.file.texts_are k.file.functions) [] (structs_fit p.structs q.structs) q.texts (rs ++ Ptr ∷ [])
        (length rs) d.ctype (Some i) points k.size
        (subst (WhereAny (λ (i : Place × Initialiser). Initialises k.sight d.ctype i.1)) e k.init) (subst (InitialFormed p.structs) e k.formed) (subst (WhereAny (λ (i : Place × Initialiser). InitialiserHasLetters i.1)) e k.letters)
        (begins_right rs (Ptr ∷ []) (initial_temporaries p (Some i)) ts b))

    globals_valid : (rs : Types) (front ds : List Declaration) → front ++ ds ≡ p.globals → GlobalsTyped p ds → Begins (rs ++ all_global_temporaries p ds) ts → Main (initialise_globals p rs ds)
    globals_valid rs front [] is h b = tt
    globals_valid rs front (d ∷ ds) is h b =
        let g = object_of_global (number_of d) (static_objects p) in
        let own = global_temporaries p d.init in
        before_valid (count_of_globals p) gs ts result [] (initialise_global p rs g d.ctype d.init) (initialise_globals p (rs ++ own) ds)
        (global_valid rs g d d.init (global_inside p (number_of d) (subst (λ l. global_index (number_of d) l < length l) is (index_below front d ds))) h.0 refl (begins_left rs own (all_global_temporaries p ds) ts b))
        (globals_valid (rs ++ own) (front ++ d ∷ []) ds (append_assoc front (d ∷ []) ds ∙ is) h.1 (begins_right rs own (all_global_temporaries p ds) ts b))

  -- ---- a function

  abbrev m : ℕ
  m = index_of_main p.names p.funcs

  module _ (f : Function) (is_main : Bool) (part : DefinitionTyped p (front_temporaries p is_main) f) (main_gives : is_main ≡ true → f.result ≡ int_type) where
    abbrev fr : Types
    fr = front_temporaries p is_main

    abbrev ts : Types
    ts = kinds p fr f

    abbrev plan : List Kept
    plan = plan_of f

    abbrev opens : RegisterTable
    opens = with_kinds (own_types f ++ fr) (with_kinds (value_types f.params) no_registers)

    -- where the parameters live, and where the label `Pre` was passed
    abbrev start : RegisterTable
    start = at_start p fr f

    abbrev pre : RegisterTable
    pre = behind_pre p fr f

    begun : Begins start.kinds ts
    begun = all_begin p fr f f.contract

    abbrev first : ℕ
    first = first_pointer p fr f

    points : PointFrom ts first f.params
    points = entered_from ts f.params opens begun

    small : AreSmall p.structs f.params
    small = parameters_small p (inner part.sight) f.params part.params

    planned : PlanTyped ts plan
    planned = plan_is_typed ts f (own_begin p fr f)

    many : IsNumber (length ts)
    many = let small = part.few in omega (arith, small)

    -- each parameter that has a name is in sight
    sees_parameters : (ds : List Declaration) (s : Sight) → AreOwn ds → HavePointers ts start.bound ds → Sees p ts start.bound part.sight.functions s → Sees p ts start.bound part.sight.functions (with_parameters s ds)
    sees_parameters [] s o h v = v
    sees_parameters (d ∷ ds) s o h v = sees_parameters ds (with_parameter s d) o.1 h.1 (by d.named)
      where
        by : (b : Bool) → Sees p ts start.bound part.sight.functions (cond b (with_object s d) s)
        by true = sees_one p ts part.sight.functions start.bound s d o.0 h.0 v
        by false = v

    abbrev sight : Sight
    sight = with_parameters (inner part.sight) f.params

    sees_file : Sees p ts start.bound part.sight.functions (inner part.sight)
    sees_file = record {
      knows = record {
        sees = λ x b e. let o = part.file.objects x b e in record { own = o.0; has = entered_keep ts b.decl (is_global p b.decl) f.params opens begun o.1 };
        structs_are = part.file.structs_are;
        texts_are = part.file.texts_are;
        fits = structs_fit p.structs q.structs;
      };
      names_are = part.file.names_are;
      functions_are = refl;
    }

    sees : Sees p ts start.bound part.sight.functions sight
    sees = sees_parameters f.params (inner part.sight) part.own (entered_have ts f.params opens begun) sees_file

    abbrev live : List ℕ
    live = pointers p fr f

    live_point : AllPoint ts live
    live_point = point_born ts first f.params [] points tt

    abbrev AreIn : Labels → MonStatements → Type 0
    AreIn ls a = AreStatements (count_of_globals p) gs ts (result_of f.result) ls a

    abbrev Are : MonStatements → Type 0
    Are a = AreIn [] a

    and_then : (ls : Labels) (a b : MonStatements) → AreIn ls a → AreIn ls b → AreIn ls (before a b)
    and_then ls a b h k = before_valid (count_of_globals p) gs ts (result_of f.result) ls a b h k

    -- ---- the body, in front of which these registers are taken

    module _ (out : Option ℕ) (ls : Labels) (inside : List ℕ) (r : RegisterTable) (around : AreAround out ls 0 0 false false) (register : (x : ℕ) → out ≡ Some x → slice_get ts x ≡ Some (value_type f.result)) (point : AllPoint ts inside)
        (v : Sees p ts r.bound part.sight.functions sight) where
      abbrev spot : Spot
      spot = outermost out inside

      called : (s : Sight) → s.names ≡ p.names → s.texts ≡ p.texts → s.functions ≡ part.sight.functions → CallsValid p gs ts s
      called s names literals seen = calls_valid p own_names q.texts ts s names literals (subst (AreDefined p) (sym seen) part.file.functions)

      block_valid : Begins (after_body p plan (Some (Block part.place part.items)) r).kinds ts → AreIn ls (body_part p plan out inside r (Some (Block part.place part.items)))
      block_valid within =
          let own = declared_in part.items in
          let deeper = with_variables (next_register r) own spot in
          let begins = entered own r in
          let shallow = part.shallow in
          let born = begins_then begins.kinds (after_items p plan part.items begins).kinds ts (items_begin p plan part.items begins) within in
          alive_valid (count_of_globals p) gs ts (result_of f.result) ls p (next_register r) own (items p plan deeper begins part.items)
          (items_small p plan gs ts f.result out part.sight.functions called (structs_fit p.structs q.structs) q.texts planned many register part.items sight (around_body f.result) v.knows.structs_are part.typed) (entered_from ts own r born)
          (items_valid p plan gs ts f.result out part.sight.functions called (structs_fit p.structs q.structs) q.texts planned many register part.items sight (around_body f.result) ls deeper
          (record { inside = point_born ts (next_register r) own inside (entered_from ts own r born) point; between = tt; outside = tt; result_is = refl })
          begins (sees_later p ts part.sight.functions r begins sight (λ x g h. entered_keep ts x g own r born h) v) refl around (entered_have ts own r born) part.formed part.typed part.planned.body part.numbers part.letters
          (omega (arith, shallow)) within)

      body_valid : Begins (after_body p plan f.body r).kinds ts → AreIn ls (body_part p plan out inside r f.body)
      body_valid within =
          subst (λ b. AreIn ls (body_part p plan out inside r b)) (sym part.is) (block_valid (subst (λ b. Begins (after_body p plan b r).kinds ts) part.is within))

      deep_body : depth_of_all (body_part p plan out inside r f.body) ≤ 1804
      deep_body =
          subst (λ b. depth_of_all (body_part p plan out inside r b) ≤ 1804) (sym part.is)
          (let d = deep p plan part.planned.short spot r (Block part.place part.items) part.formed in let shallow = part.shallow in omega (arith, d, shallow))

    -- ---- the label `Pre`

    own_sight : (v : Sight) → OwnSight p f v → (x : Use) (t : PlainType) → Denotes v x t → HasType (count_of_globals p) ts (pointer_to p start.bound x.decl) Ptr
    own_sight v own x t d = own_objects p f ts opens (λ x. refl) begun sight sees.knows v own x t d

    start_objects : (v : Sight) → AtStart p f sight v → (x : Use) (t : PlainType) → Denotes v x t → HasType (count_of_globals p) ts (pointer_to p start.bound x.decl) Ptr
    start_objects v (inl e) x t d = pointer_has p ts start.bound sight sees.knows x t (subst (λ u. Denotes u x t) e d)
    start_objects v (inr own) x t d = own_sight v own x t d

    pre_valid : Begins pre.kinds ts → Are (snapshot p start.bound None start.kinds plan)
    pre_valid b =
        (snapshots_are_valid p start.bound (count_of_globals p) gs ts (result_of f.result) [] None plan start.kinds
        (are_keepable p start.bound (count_of_globals p) ts (AtStart p f sight) start_objects None plan part.planned.begins planned) many (λ i le few. refl) b).statements

    -- ---- a contract

    module _ (c : FunctionContract) (is : f.contract ≡ Some c) where
      abbrev r : ℕ
      r = result_register f

      abbrev h : ℕ
      h = first_flag f

      abbrev inside : RegisterTable
      inside = at_body p fr f c

      own : Begins (value_types f.params ++ own_types f) ts
      own = own_begin p fr f

      result_there : slice_get ts r ≡ Some (value_type f.result)
      result_there = result_typed ts f own c is

      flags : AreFlags ts (flags_from h c.behaviors)
      flags = flags_are_typed ts f own c is

      whole : all_kinds p fr f (Some c) ≡ ts
      whole = ap (all_kinds p fr f) (sym is)

      within_leave : Begins (at_leave p fr f c) ts
      within_leave = subst (Begins (at_leave p fr f c)) whole (leave_begins p pre.bound plan (held_of f) h (at_leave p fr f c) c)

      within_entry : Begins inside.kinds ts
      within_entry = begins_then inside.kinds (at_leave p fr f c) ts (body_begins p plan f.body inside) within_leave

      abbrev stands : ContractStands p f c
      stands = part.annotated.contract c is

      formed : ContractFormed IsShortClause c
      formed = subst (MaybeFormed IsShortClause) is part.annotated.formed

      ranged : ContractRanged (seen_result f.result) (Some c)
      ranged = subst (ContractRanged (seen_result f.result)) is part.annotated.ranged

      numbers : ContractHasNumbers h (Some c)
      numbers = subst (ContractHasNumbers h) is part.clauses

      objects : (x : Use) (t : PlainType) → Denotes stands.seen x t → HasType (count_of_globals p) ts (pointer_to p start.bound x.decl) Ptr
      objects = own_sight stands.seen stands.owned

      entry_valid : AreValid (count_of_globals p) gs ts (result_of f.result) [] (checks_code p pre.bound [] [] c.behaviors h None pre.kinds (entry_checks c))
      entry_valid =
          checks_are_valid p pre.bound [] [] (seen_result f.result) (count_of_globals p) gs ts (result_of f.result) [] c.behaviors h (entry_checks c) pre.kinds
          (entry_checkable p f c stands formed (seen_result f.result) ranged.0 ranged.1 h numbers (count_of_globals p) ts pre.bound objects) many (λ x h e. absurd cc) (λ i le few. refl) flags within_entry

      contract_planned : (x : Entry) → IsIn x (in_contract (Some c)) → HasRegisters plan ts x.1 (entry_types (is_pointer_term x.1) x.1)
      contract_planned x i = kept_registers ts plan planned x (part.planned.contract x (subst (λ o. IsIn x (in_contract o)) (sym is) i))

      leave_valid : AreValid (count_of_globals p) gs ts (result_of f.result) [] (leave_code p pre.bound plan (held_of f) h (at_leave p fr f c) c)
      leave_valid =
          checks_are_valid p pre.bound plan (held_of f) (seen_result f.result) (count_of_globals p) gs ts (result_of f.result) [] c.behaviors h (leave_checks c) (at_leave p fr f c)
          (leave_checkable p f c stands formed (seen_result f.result) ranged.0 ranged.1 h numbers (count_of_globals p) ts pre.bound objects plan (held_of f) (held_sorted r f.result part.gives) contract_planned) many
          (held_typed ts r f.result part.gives result_there) (λ i le few. refl) flags
          (subst (λ k. Begins (behind_leave p pre.bound plan (held_of f) h (at_leave p fr f c) c) k) whole (begins_itself (behind_leave p pre.bound plan (held_of f) h (at_leave p fr f c) c)))

      register : (x : ℕ) → Some r ≡ Some x → slice_get ts x ≡ Some (value_type f.result)
      register x e = let same : r ≡ x = cc in subst (λ x. slice_get ts x ≡ Some (value_type f.result)) same result_there

      brace_valid : (b : Bool) → (b ≡ true → f.result ≡ int_type) → AreIn (leave_label ∷ []) (at_brace p fr f b)
      brace_valid false gives = tt
      brace_valid true gives =
          let there : slice_get ts r ≡ Some I32 = result_there ∙ ap (λ t. Some (value_type t)) (gives refl) in
          let zero : IsExpression (count_of_globals p) ts (tree.Constant I32 (pos 0)) I32 = record { typed = (refl, refl); within = omega arith } in
          ((I32, there, zero), tt)

      deep_brace : (b : Bool) → depth_of_all (at_brace p fr f b) ≤ 1
      deep_brace false = omega arith
      deep_brace true = omega arith

      abbrev body : MonStatements
      body = before (body_part p plan (Some r) [] inside f.body) (at_brace p fr f is_main)

      abbrev ending : MonStatements
      ending = before (deaths live) (last_return r (result_of f.result))

      checked_valid : Are (body_code p fr f is_main (Some c))
      checked_valid =
          let leave = leave_code p pre.bound plan (held_of f) h (at_leave p fr f c) c in
          let entry = entry_code p pre.bound h pre.kinds c in
          and_then [] entry (tree.Then (tree.Labelled body leave_label) (before leave ending))
          (and_then [] (all_flagged h c.behaviors) (checks_code p pre.bound [] [] c.behaviors h None pre.kinds (entry_checks c))
          (flagged_valid (count_of_globals p) gs ts (result_of f.result) [] h c.behaviors flags) entry_valid.statements) (
            (
              leave_is_free,
              refl,
              and_then (leave_label ∷ []) (body_part p plan (Some r) [] inside f.body) (at_brace p fr f is_main)
                  (body_valid (Some r) (leave_label ∷ []) [] inside (inside_contract r 0) register tt sees within_leave) (brace_valid is_main main_gives),
            ),
            and_then [] leave ending leave_valid.statements
                (and_then [] (deaths live) (last_return r (result_of f.result)) (deaths_valid (count_of_globals p) gs ts (result_of f.result) [] live live_point)
                (last_valid (count_of_globals p) gs ts [] r f.result part.gives result_there)),
          )

      deep_checked : depth_of_all (body_code p fr f is_main (Some c)) ≤ 1805
      deep_checked =
          let leave = leave_code p pre.bound plan (held_of f) h (at_leave p fr f c) c in
          let entry = entry_code p pre.bound h pre.kinds c in
          let x = deep_body (Some r) (leave_label ∷ []) [] inside (inside_contract r 0) register tt sees in
          let w = deep_brace is_main in
          let y = deep_before (body_part p plan (Some r) [] inside f.body) (at_brace p fr f is_main) 1804 x (omega (arith, w)) in
          let dead = deep_deaths live in
          let last = deep_last r (result_of f.result) in
          let z = deep_before (deaths live) (last_return r (result_of f.result)) 1805 (omega (arith, dead)) (omega (arith, last)) in
          let checks = leave_valid.deep in
          let asked = entry_valid.deep in
          let on = deep_flagged h c.behaviors in
          deep_before entry (tree.Then (tree.Labelled body leave_label) (before leave ending)) 1805
          (deep_before (all_flagged h c.behaviors) (checks_code p pre.bound [] [] c.behaviors h None pre.kinds (entry_checks c)) 1805 (omega (arith, on)) (omega (arith, asked)))
          (max-le (omega (arith, y)) (deep_before leave ending 1805 (omega (arith, checks)) z))

    no_register : (x : ℕ) → None ≡ Some x → slice_get ts x ≡ Some (value_type f.result)
    no_register x e = absurd cc

    -- with a contract, or without one
    body_code_valid : (o : Option FunctionContract) → f.contract ≡ o → Are (body_code p fr f is_main o)
    body_code_valid (Some c) is = checked_valid c is
    body_code_valid None is =
        let whole = body_part p plan None live pre f.body in
        and_then [] whole (deaths live)
        (body_valid None [] live pre (outside_all 0) no_register live_point sees
        (subst (λ k. Begins (all_kinds p fr f None) k) (ap (all_kinds p fr f) (sym is)) (begins_itself (all_kinds p fr f None))))
        (deaths_valid (count_of_globals p) gs ts (result_of f.result) [] live live_point)

    deep_body_code : (o : Option FunctionContract) → f.contract ≡ o → depth_of_all (body_code p fr f is_main o) ≤ 1805
    deep_body_code (Some c) is = deep_checked c is
    deep_body_code None is =
        let x = deep_body None [] live pre (outside_all 0) no_register live_point sees in
        let y = deep_deaths live in
        deep_before (body_part p plan None live pre f.body) (deaths live) 1805 (omega (arith, x)) (omega (arith, y))

    pre_begins : (o : Option FunctionContract) → f.contract ≡ o → Begins pre.kinds ts
    pre_begins None is = subst (λ k. Begins pre.kinds k) (ap (all_kinds p fr f) (sym is)) (body_begins p plan f.body pre)
    pre_begins (Some c) is = begins_then pre.kinds (inside c is).kinds ts (entry_begins p pre.bound (first_flag f) pre.kinds c) (within_entry c is)

    code_valid : Are (code_of p fr f is_main)
    code_valid =
        let kept = snapshot p start.bound None start.kinds plan in
        let rest = body_code p fr f is_main f.contract in
        and_then [] (parameters p first 0 f.params) (before kept rest) (parameters_valid p gs ts (result_of f.result) [] first 0 f.params small points (hold_from ts [] f.params (values_begin p fr f)))
        (and_then [] kept rest (pre_valid (pre_begins f.contract refl)) (body_code_valid f.contract refl))

    front_valid : (b : Bool) → Begins (value_types f.params ++ (own_types f ++ front_temporaries p b)) ts → Are (front p b f)
    front_valid false h = tt
    front_valid true h = globals_valid ts (result_of f.result) (value_types f.params ++ own_types f) [] p.globals refl q.globals (begins_right (value_types f.params) (own_types f) (all_global_temporaries p p.globals) ts h)

    whole_valid : Are (before (front p is_main f) (code_of p fr f is_main))
    whole_valid = and_then [] (front p is_main f) (code_of p fr f is_main) (front_valid is_main (front_begins p fr f)) code_valid

    deep_code : depth_of_all (code_of p fr f is_main) ≤ 1805
    deep_code =
        let kept = snapshot p start.bound None start.kinds plan in
        let rest = body_code p fr f is_main f.contract in
        let x = deep_parameters p first 0 f.params in
        let y = snapshot_deep p start.bound None plan part.planned.short start.kinds in
        deep_before (parameters p first 0 f.params) (before kept rest) 1805 (omega (arith, x)) (deep_before kept rest 1805 (omega (arith, y)) (deep_body_code f.contract refl))

    deep_front : (b : Bool) → depth_of_all (front p b f) ≤ 1805
    deep_front false = omega arith
    deep_front true = let d = deep_globals p (value_types f.params ++ own_types f) p.globals q.globals in omega (arith, d)

    deep_whole : depth_of_all (before (front p is_main f) (code_of p fr f is_main)) ≤ 1805
    deep_whole = deep_before (front p is_main f) (code_of p fr f is_main) 1805 (deep_front is_main) deep_code

  name_free : (f : Function) → FunctionNamed p.names f → (k : ℕ) → IsNumber k → (b : Bool) → IsFreeName (if b then codes "main" else function_name k (name_at p.names f.name))
  name_free f named k few true = main_is_free
  name_free f named k few false = function_is_free k (name_at p.names f.name) few named.name.parts

  function_valid : (f : Function) (k : ℕ) → IsNumber k → DefinitionTyped p (front_temporaries p (nat_eq k m)) f → (nat_eq k m ≡ true → f.result ≡ int_type) → IsFunction (monitored_globals p) gs (function_of p m k f)
  function_valid f k few part gives =
      let b = nat_eq k m in
      let fr = front_temporaries p b in
      let small = part.few in
      let deep = deep_whole f b part gives in
      record {
        name = name_free f part.named k few b;
        registers = registers_valid p fr f part.named (omega (arith, small));
        body = subst (λ n. AreStatements n gs (types_of (arguments_from p.names 0 f.params ++ registers_of p fr f)) (result_of f.result) [] (before (front p b f) (code_of p fr f b))) (sym (monitored_long p))
            (subst (λ ts. AreStatements (count_of_globals p) gs ts (result_of f.result) [] (before (front p b f) (code_of p fr f b))) (sym (function_types p fr f)) (whole_valid f b part gives));
        within = omega (arith, deep);
      }

  -- ---- all of them

  -- the names of functions in front, of which none with these numbers is one, nor `main` where it is after
  record Above (k : ℕ) (w : List ℕ) : Type 0 where
    pub other : (j : ℕ) (name : List ℕ) → k ≤ j → IsNumber j → bytes_eq (function_name j name) w ≡ false
    pub first : k ≤ m → bytes_eq (codes "main") w ≡ false

  above_next : (k : ℕ) (ws : List (List ℕ)) → AllOf (Above k) ws → AllOf (Above (suc k)) ws
  above_next k ws h = all_of (Above k) (Above (suc k)) ws (λ w a. record { other = λ j name lt few. a.other j name (omega (arith, lt)) few; first = λ lt. a.first (omega (arith, lt)) }) h

  above_this : (k : ℕ) (name : List ℕ) → IsNumber k → Above (suc k) (if nat_eq k m then codes "main" else function_name k name)
  above_this k name few = by (nat_eq k m) refl
    where
      by : (b : Bool) → nat_eq k m ≡ b → Above (suc k) (if b then codes "main" else function_name k name)
      by true e = record { other = λ j name lt small. refl; first = λ lt. let same : k ≡ m = grind (arith, nat_tests) in absurd (omega (arith, same, lt)) }
      by false e = record { other = λ j other lt small. functions_differ j k other name small few (λ e. omega (arith, e, lt)); first = λ lt. refl }

  new_name : (k : ℕ) (name : List ℕ) (ws : List (List ℕ)) → IsNumber k → AllOf (Above k) ws → has_label ws (if nat_eq k m then codes "main" else function_name k name) ≡ false
  new_name k name ws few h = by (nat_eq k m) refl
    where
      by : (b : Bool) → nat_eq k m ≡ b → has_label ws (if b then codes "main" else function_name k name) ≡ false
      by true e = let same : k ≡ m = grind (arith, nat_tests) in not_among (codes "main") ws (all_of (Above k) (λ w. bytes_eq (codes "main") w ≡ false) ws (λ w a. a.first (omega (arith, same))) h)
      by false e = not_among (function_name k name) ws (all_of (Above k) (λ w. bytes_eq (function_name k name) w ≡ false) ws (λ w a. a.other k name (omega arith) few) h)

  functions_valid : (fs : List Function) (k : ℕ) (ws : List (List ℕ)) → DefinitionsTyped p m k fs → MainGives p m k fs → IsNumber (k + length fs) → AllOf (Above k) ws → AreFunctions (monitored_globals p) gs ws (functions_from p m k fs)
  functions_valid [] k ws parts gives few h = tt
  functions_valid (f ∷ fs) k ws parts gives few h = by (is_definition f) refl parts.1 gives.1 (λ j us rest given le g. functions_valid fs j us rest given le g)
    where
      by : (b : Bool) → is_definition f ≡ b → DefinitionsTyped p m (if b then suc k else k) fs → MainGives p m (if b then suc k else k) fs
          → ((j : ℕ) (us : List (List ℕ)) → DefinitionsTyped p m j fs → MainGives p m j fs → IsNumber (j + length fs) → AllOf (Above j) us → AreFunctions (monitored_globals p) gs us (functions_from p m j fs))
          → AreFunctions (monitored_globals p) gs ws (if b then function_of p m k f ∷ functions_from p m (suc k) fs else functions_from p m k fs)
      by true e parts2 gives2 rest = (
        function_valid f k (omega (arith, few)) (parts.0 e) (gives.0 e),
        new_name k (name_at p.names f.name) ws (omega (arith, few)) h,
        rest (suc k) ((function_of p m k f).name ∷ ws) parts2 gives2 (omega (arith, few)) (above_this k (name_at p.names f.name) (omega (arith, few)), above_next k ws h),
      )
      by false e parts2 gives2 rest = rest k ws parts2 gives2 (omega (arith, few)) h

-- ---- `main`

-- the first definition of `main`, at its index, where all that is translated stands from the index k on
record FoundMain (p : TranslationUnit) (m k : ℕ) (fs : List Function) : Type 0 where
  pub function : Function
  pub has : slice_get (functions_from p m k fs) (index_of_main p.names fs) ≡ Some (function_of p m (k + index_of_main p.names fs) function)
  pub result : result_of function.result ≡ Some I32
  pub params : function.params ≡ []

int_result : (t : PlainType) → same_type t int_type ≡ true → result_of t ≡ Some I32
int_result (Int c.I32) e = refl
int_result _ e = absurd cc

found_main : (p : TranslationUnit) (m k : ℕ) (fs : List Function) → main_fault p.names fs ≡ None → FoundMain p m k fs
found_main p m k [] e = absurd cc
found_main p m k (f ∷ fs) e = by (is_definition f) (bytes_eq (name_at p.names f.name) (codes "main")) refl refl (same_type f.result int_type) (has_no_parameters f.params) refl refl e (λ j x. found_main p m j fs x)
  where
    with_tests : (x y : Bool) → is_definition f ≡ x → bytes_eq (name_at p.names f.name) (codes "main") ≡ y → (g : Function)
        → slice_get (if x then function_of p m k f ∷ functions_from p m (suc k) fs else functions_from p m k fs) (if x then (if y then 0 else suc (index_of_main p.names fs)) else index_of_main p.names fs)
        ≡ Some (function_of p m (k + (if x then (if y then 0 else suc (index_of_main p.names fs)) else index_of_main p.names fs)) g) → result_of g.result ≡ Some I32 → g.params ≡ [] → FoundMain p m k (f ∷ fs)
    with_tests x y ex ey g has result params = record {
      function = g;
      has = subst (λ b. slice_get (if b then function_of p m k f ∷ functions_from p m (suc k) fs else functions_from p m k fs)
          (if b then (if bytes_eq (name_at p.names f.name) (codes "main") then 0 else suc (index_of_main p.names fs)) else index_of_main p.names fs)
          ≡ Some (function_of p m (k + (if b then (if bytes_eq (name_at p.names f.name) (codes "main") then 0 else suc (index_of_main p.names fs)) else index_of_main p.names fs)) g)) (sym ex)
          (subst (λ b. slice_get (if x then function_of p m k f ∷ functions_from p m (suc k) fs else functions_from p m k fs) (if x then (if b then 0 else suc (index_of_main p.names fs)) else index_of_main p.names fs)
          ≡ Some (function_of p m (k + (if x then (if b then 0 else suc (index_of_main p.names fs)) else index_of_main p.names fs)) g)) (sym ey) has);
      result = result;
      params = params;
    }

    by : (x y : Bool) → is_definition f ≡ x → bytes_eq (name_at p.names f.name) (codes "main") ≡ y → (u v : Bool) → same_type f.result int_type ≡ u → has_no_parameters f.params ≡ v
        → cond (x && y) (cond (u && v) None (Some (no_main f.place))) (main_fault p.names fs) ≡ None → ((j : ℕ) → main_fault p.names fs ≡ None → FoundMain p m j fs) → FoundMain p m k (f ∷ fs)
    by true true ex ey true true eu ev e rest =
        let zero_more : k ≡ k + 0 = omega arith in with_tests true true ex ey f (ap (λ j. Some (function_of p m j f)) zero_more) (int_result f.result eu) (no_parameters f.params ev)
    by true true ex ey true false eu ev e rest = absurd cc
    by true true ex ey false v eu ev e rest = absurd cc
    by true false ex ey u v eu ev e rest =
        let r = rest (suc k) e in
        let one_more : suc k + index_of_main p.names fs ≡ k + suc (index_of_main p.names fs) = omega arith in
        with_tests true false ex ey r.function (r.has ∙ ap (λ j. Some (function_of p m j r.function)) one_more) r.result r.params
    by false y ex ey u v eu ev e rest =
        let r = rest k e in with_tests false y ex ey r.function r.has r.result r.params

-- ---- how many globals

-- each takes 16 bytes at least
taken_of_globals : (gs : List MonitoredGlobal) → 16 * length gs ≤ globals_taken gs
taken_of_globals [] = omega arith
taken_of_globals (g ∷ gs) = let r = taken_of_globals gs in omega (arith, r)

few_globals : (p : TranslationUnit) → room_fault p ≡ None → length (static_objects p) ≤ 65536
few_globals p e =
    let r = room_is p e in
    let t = taken_of_globals (monitored_globals p) in
    let c = monitored_long p in
    omega (arith, r, t, c)

-- ---- the translation

-- the translation of a typed program is valid
pub translated_valid : (p : TranslationUnit) → IsTypedProgram p → IsValid (translated p)
translated_valid p q =
    let m = index_of_main p.names p.funcs in
    let first = found_main p m 0 p.funcs q.main in
    let f = first.function in
    let few = q.few_functions in
    let count = few_globals p q.room in
    record {
      globals = all_globals_valid p (omega (arith, count)) q.globals_named q.texts;
      room = room_is p q.room;
      functions = functions_valid p q p.funcs 0 [] q.definitions (main_gives p m 0 p.funcs (omega arith) q.main) (omega (arith, few)) tt;
      number = m;
      main = function_of p m (0 + m) f;
      has = first.has;
      is_main = record {
        name = ap (λ b. if b then codes "main" else function_name (0 + m) (name_at p.names f.name)) (eq-eqb (0 + m) m (omega arith));
        result = first.result;
        no_parameters = ap (arguments_from p.names 0) first.params;
      };
    }
