-- No run of an accepted program gets stuck: jumps stay in their loops, what is called is defined, addresses are pointed to, and `main` gives a number.
use Rattle.std.proofs.Common.{pos, ◌≡◌, ℕ, zero, suc, Bool, true, false, cond, ◌&&◌, if◌then◌else◌, nat_eq, List, [], ◌∷◌, ◌++◌, Option, Some, None, slice_get, codes, bytes_eq, refl, sym, ap, ◌∙◌, subst}
use Rattle.std.proofs.Common.{append_assoc}
use Rattle.c_syntax.specs.declared.place.Place.{Place}
use Rattle.c_syntax.specs.declared.expression.Use.{Use}
use Rattle.c_syntax.specs.Ctypes.{PlainType, int_type}
use Rattle.c_syntax.specs.Expressions.{Expressions}
use Rattle.c_syntax.specs.Statements.{Declaration}
use Rattle.c_syntax.specs.Programs.{FunctionContract, Function, TranslationUnit}
use Rattle.c_model.specs.Memory.{Value, Integer, Points, NoValue}
use Rattle.c_model.specs.State.{Leave, Breaks, Continues, Returns, Undefined, Spent, Leaves, Over, Stuck, Outcome, Normal, Stop, ◌>>◌, stop}
use Rattle.c_model.specs.ContractChecks.{entry, ending}
use Rattle.c_model.specs.Meaning.{Tables, is_definition, Callee, is_of_library, library_call, definition_at, body_with, call_with, initialise_all, tables_of}
use Rattle.c_model.specs.Meaning.{global_scope, call_of, has_name, function_named, after_main, main_with, start}
use Rattle.c_model.specs.ExpressionTyping.{Sight, Signature, name_at, or_else, function_called, library_function, same_type, inner}
use Rattle.c_model.specs.UnitTyping.{with_parameters, main_fault, no_main, has_no_parameters}
use Rattle.c_model.specs.TypedTrees.{Calls, around_body}
use Rattle.c_model.specs.Formed.{AreLoopClauses, AreAsserts}
use Rattle.c_model.specs.ReadTree.{FunctionRead, FunctionsRead}
use Rattle.c_model.specs.AcceptedPrograms.{IsProgram}
use Rattle.c_model.specs.Laws.{EndsProperly, NeverStuck}
use Rattle.c_model.proofs.LibraryFunctions.{each_of_library}
use Rattle.c_model.proofs.TypedParts.{and_true, same_type_is}
use Rattle.c_model.proofs.NeverStuckRuns.{Anything, NoJump, IsValueOf, EndsWell, Gives, gives_then, gives_give}
use Rattle.c_model.proofs.NeverStuckRuns.{gives_over, gives_births, gives_frame, gives_mark, gives_called, gives_bind, gives_jump, gives_entry, gives_ending, gives_library_call, Allowed}
use Rattle.c_model.proofs.NeverStuckExpressions.{Sees, CallsGive, gives_declared}
use Rattle.c_model.proofs.NeverStuckStatements.{sees_inner, sees_parameters, gives_body, gives_call}
use Rattle.c_model.proofs.NeverStuckItems.{function_in_sight, global_in_sight}

-- ---- what is called

-- a definition of the program, or a function of the library, which gives values of its type
data IsCalled (p : TranslationUnit) (f : Use) (t : PlainType) : Type 0 where
  CallsFunction : (g : Function) → is_of_library f ≡ false → definition_at f.decl p.funcs ≡ Some g → t ≡ g.result → IsCalled p f t
  CallsLibrary : is_of_library f ≡ true → ((at : Place) (vs : List Value) → Gives (IsValueOf t) NoJump (library_call (tables_of p) at (slice_get p.names f.name) vs)) → IsCalled p f t

-- functions of the library have its number
pub library_number : (x : ℕ) (w : List ℕ) (g : Signature) → library_function x w ≡ Some g → nat_eq g.decl 4294967295 ≡ true
library_number x w g e = each_of_library (λ (h : Signature). nat_eq h.decl 4294967295 ≡ true) g x w refl refl refl refl refl refl refl e

-- what a call of a function of the library gives, by its name among those of the text
library_gives : (T : Tables) (x : ℕ) (o : Option (List ℕ)) (g : Signature) → library_function x (elim o [ None ↦ [] | Some w ↦ w ]) ≡ Some g → (at : Place) (vs : List Value) → Gives (IsValueOf g.result) NoJump (library_call T at o vs)
library_gives T x None g e at vs = gives_over (Undefined at)
library_gives T x (Some w) g e at vs = gives_library_call T at x w vs g e

called : (p : TranslationUnit) (s : Sight) → Sees p s → (f : Use) (t : PlainType) (es : Expressions) → Calls s f t es → IsCalled p f t
called p s see f t es c = by (function_called f.name s.functions) refl c.found
  where
    by : (o : Option Signature) → function_called f.name s.functions ≡ o → or_else o (library_function f.name (name_at s.names f.name)) ≡ Some c.callee → IsCalled p f t
    by (Some g) e found =
        let same : g ≡ c.callee = cc in
        let d = see.defined f.name c.callee (e ∙ ap Some same) c.defined in
        CallsFunction d.function (ap (λ n. nat_eq n 4294967295) c.decl ∙ d.own) (ap (λ n. definition_at n p.funcs) c.decl ∙ d.at) (c.result ∙ d.result)
    by None e found =
        let in_text : library_function f.name (name_at p.names f.name) ≡ Some c.callee = ap (λ ns. library_function f.name (name_at ns f.name)) (sym see.names) ∙ found in
        CallsLibrary (ap (λ n. nat_eq n 4294967295) c.decl ∙ library_number f.name (name_at s.names f.name) c.callee found)
        (λ at vs. subst (λ u. Gives (IsValueOf u) NoJump (library_call (tables_of p) at (slice_get p.names f.name) vs)) (sym c.result) (library_gives (tables_of p) f.name (slice_get p.names f.name) c.callee in_text at vs))

-- ---- definitions

-- a definition, with the functions before it and after it
record IsPlaced (p : TranslationUnit) (f : Function) : Type 0 where
  before : List Function
  after : List Function
  is : before ++ (f ∷ after) ≡ p.funcs
  read : FunctionRead AreAsserts AreLoopClauses f
  definition : is_definition f ≡ true

-- the first definition of which something is true
abbrev first_where : (Function → Bool) → List Function → Option Function
first_where test [] = None
first_where test (f ∷ fs) = if is_definition f && test f then Some f else first_where test fs

module _ (p : TranslationUnit) where
  placed_behind : (test : Function → Bool) (before fs : List Function) → before ++ fs ≡ p.funcs → FunctionsRead AreAsserts AreLoopClauses fs → (f : Function) → first_where test fs ≡ Some f → IsPlaced p f
  placed_behind test before [] is read f e = absurd cc
  placed_behind test before (g ∷ fs) is read f e =
      by (λ h. placed_behind test (before ++ g ∷ []) fs (append_assoc before (g ∷ []) fs ∙ is) read.1 f h) (is_definition g && test g) refl e
    where
      by : (first_where test fs ≡ Some f → IsPlaced p f) → (t : Bool) → (is_definition g && test g) ≡ t → (if t then Some g else first_where test fs) ≡ Some f → IsPlaced p f
      by rest true x h =
          let same : g ≡ f = cc in
          subst (IsPlaced p) same (record { before = before; after = fs; is = is; read = read.0; definition = (and_true (is_definition g) (test g) x).0 })
      by rest false x h = rest h

  module _ (q : IsProgram p) where
    placed : (test : Function → Bool) (f : Function) → first_where test p.funcs ≡ Some f → IsPlaced p f
    placed test f e = placed_behind test [] p.funcs refl q.effects f e

    number_first : (n : ℕ) (fs : List Function) → definition_at n fs ≡ first_where (λ f. nat_eq f.place.offset n) fs
    number_first n [] = refl
    number_first n (f ∷ fs) = ap (λ r. if is_definition f && nat_eq f.place.offset n then Some f else r) (number_first n fs)

    name_first : (name : List ℕ) (fs : List Function) → function_named p name fs ≡ first_where (λ f. has_name (slice_get p.names f.name) name) fs
    name_first name [] = refl
    name_first name (f ∷ fs) = ap (λ r. if is_definition f && has_name (slice_get p.names f.name) name then Some f else r) (name_first name fs)

    -- where calls in it give values of their types, so does its body
    gives_definition : (f : Function) (i : IsPlaced p f) (call : Callee) (n : ℕ) → CallsGive p call → Gives Anything (Allowed (around_body f.result)) (body_with (tables_of p) f.body call n)
    gives_definition f i call n calls =
        let here = function_in_sight p q.typed q.resolved i.before i.after f i.is in
        let own = inner here.sight in
        gives_body p (tables_of p) refl call calls (with_parameters own f.params) (sees_parameters p f.params own (sees_inner p here.sight here.sees)) f.result f.body n i.read.body here.typed.body i.definition

    gives_placed_call : (g : Function) (i : IsPlaced p g) (call : Callee) (n : ℕ) (at : Place) (vs : List Value) → CallsGive p call
        → Gives (IsValueOf g.result) NoJump (call_with (tables_of p) (global_scope p) (Some g) call n at vs)
    gives_placed_call g i call n at vs calls =
        let here = function_in_sight p q.typed q.resolved i.before i.after g i.is in
        gives_call (tables_of p) (global_scope p) (inner here.sight) g call n at vs here.typed.params (gives_definition g i call n calls)

    -- a call by whether it is one of the library, and by what it calls
    abbrev Ends : ℕ → Use → PlainType → Place → List Value → Bool → Option Function → Type 0
    Ends n f t at vs b o =
        Gives (IsValueOf t) NoJump (if b then library_call (tables_of p) at (slice_get p.names f.name) vs else call_with (tables_of p) (global_scope p) o (call_of p n) n at vs)

    -- calls so deep
    pub calls_give : (n : ℕ) → CallsGive p (call_of p n)
    calls_give zero s see f t es c at vs = by (called p s see f t es c)
      where
        by : IsCalled p f t → Gives (IsValueOf t) NoJump (call_of p zero at f vs)
        by (CallsFunction g other found result) =
            subst (λ b. Gives (IsValueOf t) NoJump (if b then library_call (tables_of p) at (slice_get p.names f.name) vs else stop (Over Spent))) (sym other) (gives_over Spent)
        by (CallsLibrary is gives) =
            subst (λ b. Gives (IsValueOf t) NoJump (if b then library_call (tables_of p) at (slice_get p.names f.name) vs else stop (Over Spent))) (sym is)
            (gives at vs)
    calls_give (suc n) s see f t es c at vs = by (calls_give n) (called p s see f t es c)
      where
        by : CallsGive p (call_of p n) → IsCalled p f t → Ends n f t at vs (is_of_library f) (definition_at f.decl p.funcs)
        by below (CallsFunction g other found result) =
            let i = placed (λ h. nat_eq h.place.offset f.decl) g (sym (number_first f.decl p.funcs) ∙ found) in
            let own : Ends n f t at vs false (Some g) =
            subst (λ u. Gives (IsValueOf u) NoJump (call_with (tables_of p) (global_scope p) (Some g) (call_of p n) n at vs)) (sym result) (gives_placed_call g i (call_of p n) n at vs below) in
            subst (λ b. Ends n f t at vs b (definition_at f.decl p.funcs)) (sym other) (subst (λ o. Ends n f t at vs false o) (sym found) own)
        by below (CallsLibrary is gives) =
            let own : Ends n f t at vs true (definition_at f.decl p.funcs) = gives at vs in
            subst (λ b. Ends n f t at vs b (definition_at f.decl p.funcs)) (sym is) own

    -- the initialisation of globals
    gives_globals : {L : Leave → Type 0} (call : Callee) → CallsGive p call → (front ds : List Declaration) → front ++ ds ≡ p.globals → Gives Anything L (initialise_all (tables_of p) ds call)
    gives_globals call calls front [] is = gives_give tt tt
    gives_globals call calls front (d ∷ ds) is =
        let here = global_in_sight p q.typed q.resolved front ds d is in
        gives_then _ _ (gives_declared p (tables_of p) refl call calls here.sight here.sees d here.declared) (gives_globals call calls (front ++ d ∷ []) ds (append_assoc front (d ∷ []) ds ∙ is))

-- ---- `main`

-- the definition of `main`, which gives an `int`
pub record IsMain (p : TranslationUnit) (fs : List Function) : Type 0 where
  pub function : Function
  pub found : function_named p (codes "main") fs ≡ Some function
  pub result : function.result ≡ int_type

has_bytes : (names : List (List ℕ)) (x : ℕ) → has_name (slice_get names x) (codes "main") ≡ bytes_eq (name_at names x) (codes "main")
has_bytes names x = by (slice_get names x)
  where
    by : (o : Option (List ℕ)) → has_name o (codes "main") ≡ bytes_eq (elim o [ None ↦ [] | Some w ↦ w ]) (codes "main")
    by None = refl
    by (Some w) = refl

pub main_is : (p : TranslationUnit) (fs : List Function) → main_fault p.names fs ≡ None → IsMain p fs
main_is p [] e = absurd cc
main_is p (f ∷ fs) e = by (λ h. main_is p fs h) (is_definition f && bytes_eq (name_at p.names f.name) (codes "main")) refl e
  where
    typed : (a b : Bool) → same_type f.result int_type ≡ a → cond (a && b) None (Some (no_main f.place)) ≡ None → f.result ≡ int_type
    typed true b x h = same_type_is f.result int_type x
    typed false b x h = absurd cc

    named : (t : Bool) → (is_definition f && bytes_eq (name_at p.names f.name) (codes "main")) ≡ t → function_named p (codes "main") (f ∷ fs) ≡ (if t then Some f else function_named p (codes "main") fs)
    named t x =
        ap (λ b. if is_definition f && b then Some f else function_named p (codes "main") fs) (has_bytes p.names f.name)
        ∙ ap (λ b. if b then Some f else function_named p (codes "main") fs) x

    by : (main_fault p.names fs ≡ None → IsMain p fs) → (t : Bool) → (is_definition f && bytes_eq (name_at p.names f.name) (codes "main")) ≡ t
        → cond t (cond (same_type f.result int_type && has_no_parameters f.params) None (Some (no_main f.place))) (main_fault p.names fs) ≡ None → IsMain p (f ∷ fs)
    by rest true x h = record { function = f; found = named true x; result = typed (same_type f.result int_type) (has_no_parameters f.params) refl h }
    by rest false x h = let i = rest h in record { function = i.function; found = named false x ∙ i.found; result = i.result }

-- ---- whole runs

ends_properly : (r : Outcome (Unit {0})) → EndsWell Anything (Allowed (around_body int_type)) r → EndsProperly r
ends_properly (Normal u s) h = tt
ends_properly (Stop (Leaves Breaks) s) h = absurd cc
ends_properly (Stop (Leaves Continues) s) h = absurd cc
ends_properly (Stop (Leaves (Returns None)) s) h = h
ends_properly (Stop (Leaves (Returns (Some NoValue))) s) h = h
ends_properly (Stop (Leaves (Returns (Some (Points p)))) s) h = h
ends_properly (Stop (Leaves (Returns (Some (Integer z)))) s) h = tt
ends_properly (Stop (Over e) s) h = h
ends_properly (Stop Stuck s) h = h

after_main_well : (c : Option FunctionContract) (hs : List Bool) (r : Outcome (Unit {0})) → EndsWell Anything (Allowed (around_body int_type)) r → EndsWell Anything (Allowed (around_body int_type)) (after_main c hs r)
after_main_well c hs (Normal u s) h = (gives_ending c hs (Integer (pos 0))).at s
after_main_well c hs (Stop (Leaves Breaks) s) h = absurd cc
after_main_well c hs (Stop (Leaves Continues) s) h = absurd cc
after_main_well c hs (Stop (Leaves (Returns None)) s) h = (gives_then (ending c hs NoValue) (stop {A = Unit {0}} (Leaves (Returns None))) (gives_ending c hs NoValue) (gives_jump (Returns None) h)).at s
after_main_well c hs (Stop (Leaves (Returns (Some v))) s) h = (gives_then (ending c hs v) (stop {A = Unit {0}} (Leaves (Returns (Some v)))) (gives_ending c hs v) (gives_jump (Returns (Some v)) h)).at s
after_main_well c hs (Stop (Over e) s) h = h
after_main_well c hs (Stop Stuck s) h = h

-- the run of an accepted program never gets stuck
pub programs_never_stuck : (p : TranslationUnit) → IsProgram p → NeverStuck p
programs_never_stuck p q input n =
    let call = call_of p (suc n) in
    let calls = calls_give p q (suc n) in
    let m = main_is p p.funcs q.main in
    let f = m.function in
    let i = placed p q (λ g. has_name (slice_get p.names g.name) (codes "main")) f (sym (name_first p q (codes "main") p.funcs) ∙ m.found) in
    let T = tables_of p in
    let body = subst (λ t. Gives Anything (Allowed (around_body t)) (body_with T f.body call (suc n))) m.result (gives_definition p q f i call (suc n) calls) in
    let of_main : Gives Anything (Allowed (around_body int_type)) (main_with T (Some f) call (suc n)) =
    gives_called _ (gives_then _ _ (gives_then _ _ (gives_then _ _ gives_frame (gives_births T.structs f.params)) (gives_mark None))
    (gives_bind (entry f.contract) (λ hs s. after_main f.contract hs (body_with T f.body call (suc n) s)) (gives_entry f.contract)
    (λ hs _. record { at = λ s. after_main_well f.contract hs (body_with T f.body call (suc n) s) (body.at s) }))) in
    let of_globals : Gives Anything (Allowed (around_body int_type)) (initialise_all T p.globals call) = gives_globals p q call calls [] p.globals refl in
    let all = gives_then (initialise_all T p.globals call) (main_with T (Some f) call (suc n)) of_globals of_main in
    let proper = ends_properly _ (all.at (start p input n)) in
    subst (λ o. EndsProperly ((initialise_all T p.globals call >> main_with T o call (suc n)) (start p input n))) (sym m.found) proper
