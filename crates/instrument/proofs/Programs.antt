-- The functions of a program: what is known of each definition, and what a call calls.
use Rattle.std.proofs.Common.{◌≡◌, ℕ, suc, ◌+◌, ◌≤◌, Bool, true, false, ◌&&◌, if◌then◌else◌, nat_eq, List, [], ◌∷◌, ◌++◌, Option, Some, None, refl, sym, ap, ◌∙◌, subst, arith, ◌<◌, length}
use Rattle.std.specs.Prelude.{slice_get, bytes_eq, codes}
use Rattle.c_syntax.specs.declared.expression.Use.{Use}
use Rattle.c_syntax.specs.Ctypes.{PlainType}
use Rattle.c_syntax.specs.Expressions.{Expressions}
use Rattle.c_syntax.specs.Programs.{Function, TranslationUnit}
use Rattle.c_model.specs.Meaning.{is_definition, definition_at}
use Rattle.c_model.specs.ExpressionTyping.{Sight, name_at, inner}
use Rattle.c_model.specs.UnitTyping.{with_parameters, has_no_parameters}
use Rattle.c_model.specs.TypedTrees.{FunctionTyped, Calls}
use Rattle.c_model.specs.Formed.{declared_in_body}
use Rattle.c_model.proofs.TypedParts.{and_true}
use Rattle.c_model.specs.ReadTree.{FunctionRead}
use Rattle.instrument.proofs.RangedTrees.{AreRangedAsserts, AreRangedClauses}
use Rattle.instrument.specs.Limits.{BodyHasNumbers, ContractHasNumbers}
use Rattle.instrument.specs.Translation.{first_flag, function_of, functions_from, index_of_main}
use Rattle.instrument.proofs.Annotated.{IsAnnotated}
use Rattle.c_effects.specs.Effects.{index_of}
use Rattle.interval_infer.specs.InSight.{AreFound}
use Rattle.instrument.proofs.Sight.{scope_for}
use Rattle.c_model.specs.AnnotationTyping.{in_body}
use Rattle.c_model.specs.TypedAnnotations.{BodyNoted}
use Rattle.instrument.proofs.Numbers.{numbers_in, AllOutside}
use Rattle.c_model.specs.TextOrder.{Between}
use Rattle.instrument.proofs.Formats.{Asks}
use Rattle.instrument.proofs.Resolved.{IsResolved}
use Rattle.c_syntax.specs.Statements.{Declaration}

-- ---- a function in its place

-- a function of the program, with what is in sight at file scope, itself included, and what is known of it
pub record Part (p : TranslationUnit) (f : Function) : Type 0 where
  pub sight : Sight
  pub names : sight.names ≡ p.names
  pub texts : sight.texts ≡ p.texts
  pub structs : sight.structs ≡ p.structs
  -- the objects in sight are globals
  pub found : AreFound sight.entities (scope_for (numbers_in p.globals))
  pub typed : FunctionTyped sight f
  pub noted : BodyNoted (in_body (with_parameters (inner sight) f.params)) f.body
  pub read : FunctionRead AreRangedAsserts AreRangedClauses f
  pub letters : is_definition f ≡ true → BodyHasNumbers f.body
  pub annotated : IsAnnotated p f
  pub clauses : is_definition f ≡ true → ContractHasNumbers (first_flag f) f.contract
  -- the numbers of what it declares are its own
  pub high : ℕ
  pub between : Between (suc f.place.offset) (numbers_in (f.params ++ declared_in_body f.body)) high
  pub below : high ≤ 4294967295
  pub apart : AllOutside (suc f.place.offset) high (numbers_in p.globals)
  -- what is called in it
  pub resolves : (s : Sight) → s.names ≡ sight.names → s.functions ≡ sight.functions → (u : Use) (t : PlainType) (es : Expressions) (c : Calls s u t es) → IsResolved p u t c.callee
  pub asks : (s : Sight) → s.names ≡ sight.names → s.texts ≡ sight.texts → (u : Use) (t : PlainType) (es : Expressions) (c : Calls s u t es) → Asks p (name_at p.names u.name) es c.callee.params c.params

-- of each function
abbrev pub Parts : TranslationUnit → List Function → Type 0
Parts p [] = Unit {0}
Parts p (f ∷ fs) = Part p f × Parts p fs

-- ---- the first definition of which something is true

abbrev pub picked : (Function → Bool) → List Function → Option Function
picked test [] = None
picked test (f ∷ fs) = if is_definition f && test f then Some f else picked test fs

abbrev pub index_by : (Function → Bool) → List Function → ℕ
index_by test [] = 0
index_by test (f ∷ fs) = if is_definition f then (if test f then 0 else suc (index_by test fs)) else index_by test fs

pub record IsPicked (p : TranslationUnit) (test : Function → Bool) (main k : ℕ) (fs : List Function) (f : Function) : Type 0 where
  pub part : Part p f
  pub definition : is_definition f ≡ true
  pub tested : test f ≡ true
  pub translated : slice_get (functions_from p main k fs) (index_by test fs) ≡ Some (function_of p main (k + index_by test fs) f)

module _ (p : TranslationUnit) (test : Function → Bool) (main : ℕ) where
  -- a function that isn't picked stands in front
  not_first : (k : ℕ) (g f : Function) (fs : List Function) → (is_definition g && test g) ≡ false → ((j : ℕ) → IsPicked p test main j fs f) → IsPicked p test main k (g ∷ fs) f
  not_first k g f fs other rest = by (is_definition g) (test g) refl refl other
    where
      by : (a b : Bool) → is_definition g ≡ a → test g ≡ b → (a && b) ≡ false → IsPicked p test main k (g ∷ fs) f
      by true true x y z = absurd cc
      by true false x y z =
          let i = rest (suc k) in
          let index : index_by test (g ∷ fs) ≡ suc (index_by test fs) = ap (λ a. if a then (if test g then 0 else suc (index_by test fs)) else index_by test fs) x ∙ ap (λ b. if b then 0 else suc (index_by test fs)) y in
          let code : functions_from p main k (g ∷ fs) ≡ function_of p main k g ∷ functions_from p main (suc k) fs = ap (λ a. if a then function_of p main k g ∷ functions_from p main (suc k) fs else functions_from p main k fs) x in
          let number : suc k + index_by test fs ≡ k + suc (index_by test fs) = omega arith in
          record {
            part = i.part;
            definition = i.definition;
            tested = i.tested;
            translated =
                ap (slice_get (functions_from p main k (g ∷ fs))) index ∙ ap (λ l. slice_get l (suc (index_by test fs))) code
                ∙ i.translated ∙ ap (λ n. Some (function_of p main n f)) (number ∙ ap (λ n. k + n) (sym index));
          }
      by false b x y z =
          let i = rest k in
          let index : index_by test (g ∷ fs) ≡ index_by test fs = ap (λ a. if a then (if test g then 0 else suc (index_by test fs)) else index_by test fs) x in
          let code : functions_from p main k (g ∷ fs) ≡ functions_from p main k fs = ap (λ a. if a then function_of p main k g ∷ functions_from p main (suc k) fs else functions_from p main k fs) x in
          record {
            part = i.part;
            definition = i.definition;
            tested = i.tested;
            translated =
                ap (slice_get (functions_from p main k (g ∷ fs))) index ∙ ap (λ l. slice_get l (index_by test fs)) code
                ∙ i.translated ∙ ap (λ n. Some (function_of p main (k + n) f)) (sym index);
          }

  it_is : (k : ℕ) (f : Function) (fs : List Function) → Part p f → (is_definition f && test f) ≡ true → IsPicked p test main k (f ∷ fs) f
  it_is k f fs part both =
      let q = and_true (is_definition f) (test f) both in
      let index : index_by test (f ∷ fs) ≡ 0 = ap (λ a. if a then (if test f then 0 else suc (index_by test fs)) else index_by test fs) q.0 ∙ ap (λ b. if b then 0 else suc (index_by test fs)) q.1 in
      let code : functions_from p main k (f ∷ fs) ≡ function_of p main k f ∷ functions_from p main (suc k) fs = ap (λ a. if a then function_of p main k f ∷ functions_from p main (suc k) fs else functions_from p main k fs) q.0 in
      let number : k ≡ k + 0 = omega arith in
      record {
        part = part;
        definition = q.0;
        tested = q.1;
        translated =
            ap (slice_get (functions_from p main k (f ∷ fs))) index ∙ ap (λ l. slice_get l 0) code
            ∙ ap (λ n. Some (function_of p main n f)) (number ∙ ap (λ n. k + n) (sym index));
      }

  pub is_picked : (fs : List Function) (f : Function) → Parts p fs → picked test fs ≡ Some f → (k : ℕ) → IsPicked p test main k fs f
  is_picked [] f parts e k = absurd cc
  is_picked (g ∷ fs) f parts e k = by (λ h j. is_picked fs f parts.1 h j) (is_definition g && test g) refl e
    where
      by : (picked test fs ≡ Some f → (j : ℕ) → IsPicked p test main j fs f) → (t : Bool) → (is_definition g && test g) ≡ t → (if t then Some g else picked test fs) ≡ Some f → IsPicked p test main k (g ∷ fs) f
      by rest true x h = let same : g ≡ f = cc in subst (IsPicked p test main k (g ∷ fs)) same (it_is k g fs parts.0 x)
      by rest false x h = not_first k g f fs x (rest h)

-- ---- by number

abbrev pub has_number : ℕ → Function → Bool
has_number n f = nat_eq f.place.offset n

pub definition_is : (n : ℕ) (fs : List Function) → definition_at n fs ≡ picked (has_number n) fs
definition_is n [] = refl
definition_is n (f ∷ fs) = ap (λ r. if is_definition f && nat_eq f.place.offset n then Some f else r) (definition_is n fs)

pub index_is : (n : ℕ) (fs : List Function) → index_of n fs ≡ index_by (has_number n) fs
index_is n [] = refl
index_is n (f ∷ fs) = ap (λ r. if is_definition f then (if nat_eq f.place.offset n then 0 else suc r) else r) (index_is n fs)

-- ---- by name

abbrev pub has_bytes : List (List ℕ) → List ℕ → Function → Bool
has_bytes names w f = bytes_eq (name_at names f.name) w

pub main_index_is : (names : List (List ℕ)) (fs : List Function) → index_of_main names fs ≡ index_by (has_bytes names (codes "main")) fs
main_index_is names [] = refl
main_index_is names (f ∷ fs) = ap (λ r. if is_definition f then (if bytes_eq (name_at names f.name) (codes "main") then 0 else suc r) else r) (main_index_is names fs)

-- its index is below the number of functions that are translated
pub index_below : (p : TranslationUnit) (test : Function → Bool) (main k : ℕ) (fs : List Function) (f : Function) → picked test fs ≡ Some f → index_by test fs < length (functions_from p main k fs)
index_below p test main k [] f e = absurd cc
index_below p test main k (g ∷ fs) f e = by (is_definition g) (test g) e (λ j h. index_below p test main j fs f h)
  where
    by : (a b : Bool) → (if a && b then Some g else picked test fs) ≡ Some f → ((j : ℕ) → picked test fs ≡ Some f → index_by test fs < length (functions_from p main j fs))
        → (if a then (if b then 0 else suc (index_by test fs)) else index_by test fs) < length (if a then function_of p main k g ∷ functions_from p main (suc k) fs else functions_from p main k fs)
    by true true h rest = omega arith
    by true false h rest = let below = rest (suc k) h in omega (arith, below)
    by false b h rest = rest k h

-- ---- `main`

pub no_parameters : (ds : List Declaration) → has_no_parameters ds ≡ true → ds ≡ []
no_parameters [] e = refl
no_parameters (d ∷ ds) e = absurd cc
