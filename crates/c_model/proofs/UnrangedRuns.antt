-- A program means the same without the ranges of its annotations, and so with others.
use Rattle.std.proofs.Common.{◌≡◌, ℕ, zero, suc, Bool, true, false, ◌&&◌, if◌then◌else◌, List, [], ◌∷◌, map, Option, Some, None, option_map, slice_get, codes, refl, sym, ap, ◌∙◌}
use mathlib.Core.Path.{fun_ext}
use Rattle.c_syntax.specs.declared.place.Place.{Place}
use Rattle.c_syntax.specs.declared.expression.Use.{Use}
use Rattle.c_syntax.specs.Statements.{Statement}
use Rattle.c_syntax.specs.Programs.{Function, TranslationUnit}
use Rattle.c_model.specs.Memory.{Value}
use Rattle.c_model.specs.State.{Scope, Input, ◌>>=◌, ◌>>◌, give, step, frame, alone, mark, births, called}
use Rattle.c_model.specs.Meaning.{Tables, Callee, is_definition, is_of_library, library_call, definition_at, returned_by, parameters, body_with, call_with, main_with, tables_of, global_scope, call_of, has_name, function_named}
use Rattle.c_model.specs.Meaning.{initialise_all}
use Rattle.c_model.specs.Meaning.{start, whole, ran, run}
use Rattle.c_model.specs.UnrangedPrograms.{unranged_statement, unranged_function, unranged_unit, RangesKeepRuns}
use Rattle.c_model.proofs.UnrangedStatements.{same_exec}
use Rattle.c_model.proofs.UnrangedContracts.{same_entry, same_ending, same_after_main}
use Rattle.c_model.proofs.UnrangedFunctions.{same_definition}
use Rattle.c_model.proofs.UnrangedFiles.{same_definition_at}
use Rattle.c_model.proofs.RangedStatements.{ranging_keeps_units}

module _ (T : Tables) (call : Callee) (n : ℕ) where
  same_body : (b : Option Statement) → body_with T (option_map unranged_statement b) call n ≡ body_with T b call n
  same_body None = refl
  same_body (Some a) = same_exec T call n a

  same_call_with : (globals : Scope) (o : Option Function) → call_with T globals (option_map unranged_function o) call n ≡ call_with T globals o call n
  same_call_with globals None = refl
  same_call_with globals (Some f) = λ i at vs.
      step >> called (frame >> alone globals >> parameters T at f.params vs >> mark None
      >> (same_entry f.contract i >>= λ hs. (λ s. returned_by f (same_body f.body i s)) >>= λ v. same_ending f.contract hs v i >> give v))

  same_main_with : (o : Option Function) → main_with T (option_map unranged_function o) call n ≡ main_with T o call n
  same_main_with None = refl
  same_main_with (Some f) = λ i. called (frame >> births T.structs f.params >> mark None >> (same_entry f.contract i >>= λ hs s. same_after_main f.contract hs (same_body f.body i s) i))

module _ (p : TranslationUnit) where
  one_deeper : (n : ℕ) → call_of (unranged_unit p) n ≡ call_of p n → (at : Place) (f : Use) (vs : List Value) → call_of (unranged_unit p) (suc n) at f vs ≡ call_of p (suc n) at f vs
  one_deeper n e at f vs =
      (λ i. if is_of_library f then library_call (tables_of p) at (slice_get p.names f.name) vs
      else call_with (tables_of p) (global_scope p) (same_definition_at f.decl p.funcs i) (e i) n at vs)
      ∙ ap (λ g. if is_of_library f then library_call (tables_of p) at (slice_get p.names f.name) vs else g at vs)
      (same_call_with (tables_of p) (call_of p n) n (global_scope p) (definition_at f.decl p.funcs))

  same_call : (n : ℕ) → call_of (unranged_unit p) n ≡ call_of p n
  same_call zero = refl
  same_call (suc n) = fun_ext (λ at. fun_ext (λ f. fun_ext (one_deeper n (same_call n) at f)))

  same_named : (name : List ℕ) (fs : List Function) → function_named (unranged_unit p) name (map unranged_function fs) ≡ option_map unranged_function (function_named p name fs)
  same_named name [] = refl
  same_named name (f ∷ fs) =
      (λ i. if same_definition f i && has_name (slice_get p.names f.name) name then Some (unranged_function f) else same_named name fs i)
      ∙ by (is_definition f && has_name (slice_get p.names f.name) name)
    where
      by : (t : Bool) → (if t then Some (unranged_function f) else option_map unranged_function (function_named p name fs)) ≡ option_map unranged_function (if t then Some f else function_named p name fs)
      by true = refl
      by false = refl

  same_whole : (n : ℕ) → whole (unranged_unit p) n ≡ whole p n
  same_whole n =
      (λ i. initialise_all (tables_of p) p.globals (same_call n i) >> main_with (tables_of p) (same_named (codes "main") p.funcs i) (same_call n i) n)
      ∙ ap (λ m. initialise_all (tables_of p) p.globals (call_of p n) >> m) (same_main_with (tables_of p) (call_of p n) n (function_named p (codes "main") p.funcs))

  same_run : (input : Input) (n : ℕ) → run (unranged_unit p) input n ≡ run p input n
  same_run input n = ap (λ m. ran (m (start p input n))) (same_whole (suc n))

pub ranges_keep_runs : RangesKeepRuns
ranges_keep_runs p q e input n = sym (same_run q input n) ∙ ap (λ u. run u input n) (ranging_keeps_units p q e).same ∙ same_run p input n
