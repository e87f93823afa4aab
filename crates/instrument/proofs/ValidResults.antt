-- What a function gives has a register of its type, a name in its contract, and one `return`.
use Rattle.std.proofs.Common.{◌≡◌, ℕ, zero, suc, ◌+◌, ◌<◌, ◌≤◌, Bool, true, false, cond, ◌&&◌, if◌then◌else◌, nat_eq, pos, List, [], ◌∷◌, length, Option, Some, None, slice_get, refl, sym, ap, ◌∙◌, subst, arith}
use Rattle.std.proofs.lemmas.Bool.Decides.{nat_tests}
use Rattle.std.proofs.Math.Nat.{max-le}
use Rattle.std.proofs.lemmas.Bool.{lt-ltb, eq-eqb}
use Rattle.std.specs.Prelude.{bytes_eq, codes}
use Rattle.c_syntax.specs.declared.expression.Use.{Use}
use Rattle.c_syntax.specs.declared.types.CInt.{CInt}
use Rattle.c_syntax.specs.declared.types.CInt.TheVariants as c
use Rattle.c_syntax.specs.Ctypes.{PlainType, int_type}
use Rattle.c_syntax.specs.Statements.{Declaration}
use Rattle.c_syntax.specs.Programs.{NamedBehavior, Function, TranslationUnit}
use Rattle.c_model.specs.ContractChecks.{result_number}
use Rattle.c_model.specs.ExpressionTyping.{Object, AnObject, Sight, entity_named, is_void, name_at, same_type}
use Rattle.c_model.specs.Formed.{number_of}
use Rattle.c_model.specs.Meaning.{is_definition}
use Rattle.c_model.specs.PredicateTyping.{sort_of_type}
use Rattle.c_model.specs.TypedAnnotations.{IsOwn, OfFunction, OfFile}
use Rattle.c_model.specs.TypedTrees.{Denotes, IsResult}
use Rattle.c_model.specs.UnitTyping.{has_no_parameters, main_fault, no_main}
use Rattle.c_model.proofs.TypedParts.{same_type_is}
use Rattle.mon_syntax.specs.declared.tree.MonType.{MonType}
use Rattle.mon_syntax.specs.declared.tree.MonType.TheVariants.{I32, Ptr}
use Rattle.mon_syntax.specs.Checking as checking
use Rattle.mon_syntax.specs.Registers.{Bindings, RegisterTable, register_of}
use Rattle.mon_syntax.specs.Trees as tree
use Rattle.mon_syntax.specs.Valid.{Types, HasType, IsExpression, AreStatements, Labels, Signature, depth_of_all}
use Rattle.c_effects.specs.Expressions.{global_index, pointer_to, register_type, value_type}
use Rattle.c_simulation.specs.Keeping.{is_pointer_sort}
use Rattle.track_scopes.specs.Blocks.{entered}
use Rattle.annot_simulation.specs.ContractCode.{all_flagged, flags_from}
use Rattle.annot_simulation.specs.ContractValidity.{AreFlags}
use Rattle.annot_simulation.specs.Held.{Held, sort_held, sorts_held}
use Rattle.annot_simulation.specs.Validity.{Begins, HeldTyped}
use Rattle.instrument.specs.Translation.{index_of_main, last_return, result_held, result_of}
use Rattle.instrument.proofs.KnownContracts.{result_is}
use Rattle.instrument.proofs.Tables.{HavePointers, entered_have, entered_keep}
use Rattle.instrument.proofs.Typed.{Aim, HasPointer, Knows, Reaches, count_of_globals, has_aim, is_global, pointer_typed}

-- ---- the result

-- what is given has its sort, and a register of its type
SortedAs : ℕ → PlainType → Type 0
SortedAs r t = is_void t ≡ false → sort_held result_number (sorts_held (result_held r (result_of t))) ≡ Some (is_pointer_sort (sort_of_type t))

TypedAs : Types → ℕ → PlainType → Type 0
TypedAs ts r t = slice_get ts r ≡ Some (value_type t) → HeldTyped ts (result_held r (result_of t))

number_sorted : (k : CInt) → checking.same_type (register_type k) Ptr ≡ false
number_sorted c.I8 = refl
number_sorted c.U8 = refl
number_sorted c.I16 = refl
number_sorted c.U16 = refl
number_sorted c.I32 = refl
number_sorted c.U32 = refl
number_sorted c.I64 = refl
number_sorted c.U64 = refl

-- it is `\result`
pub held_sorted : (r : ℕ) (t : PlainType) → IsResult t → is_void t ≡ false → sort_held result_number (sorts_held (result_held r (result_of t))) ≡ Some (is_pointer_sort (sort_of_type t))
unfolding SortedAs
held_sorted r t h = result_is (SortedAs r) t h (λ e. absurd cc) (λ k e. ap Some (number_sorted k)) (λ u e. refl)

one_typed : (ts : Types) (r : ℕ) (k : MonType) → slice_get ts r ≡ Some k → HeldTyped ts (record { number = result_number; register = r; kind = k } ∷ [])
one_typed ts r k typed x h e = by (nat_eq result_number x) e
  where
    by : (b : Bool) → cond b (Some (record { number = result_number; register = r; kind = k })) None ≡ Some h → slice_get ts h.register ≡ Some h.kind
    by true e = let same : record { number = result_number; register = r; kind = k } ≡ h = cc in subst (λ (h : Held). slice_get ts h.register ≡ Some h.kind) same typed
    by false e = absurd cc

pub held_typed : (ts : Types) (r : ℕ) (t : PlainType) → IsResult t → slice_get ts r ≡ Some (value_type t) → HeldTyped ts (result_held r (result_of t))
unfolding TypedAs
held_typed ts r t h = result_is (TypedAs ts r) t h (λ typed x g e. absurd cc) (λ k typed. one_typed ts r (register_type k) typed) (λ u typed. one_typed ts r Ptr typed)

ReturnedAs : ℕ → List Signature → Types → Labels → ℕ → PlainType → Type 0
ReturnedAs g gs ts ls r t = slice_get ts r ≡ Some (value_type t) → AreStatements g gs ts (result_of t) ls (last_return r (result_of t))

-- and is returned
pub last_valid : (g : ℕ) (gs : List Signature) (ts : Types) (ls : Labels) (r : ℕ) (t : PlainType) → IsResult t → slice_get ts r ≡ Some (value_type t) → AreStatements g gs ts (result_of t) ls (last_return r (result_of t))
unfolding ReturnedAs
last_valid g gs ts ls r t h =
    result_is (ReturnedAs g gs ts ls r) t h (λ typed. tt)
    (λ k typed. let e : IsExpression g ts (tree.Register r) (register_type k) = record { typed = typed; within = omega arith } in (e, tt))
    (λ u typed. let e : IsExpression g ts (tree.Register r) Ptr = record { typed = typed; within = omega arith } in (e, tt))

pub deep_last : (r : ℕ) (o : Option MonType) → depth_of_all (last_return r o) ≤ 1
deep_last r None = omega arith
deep_last r (Some t) = omega arith

-- ---- flags

pub flagged_valid : (g : ℕ) (gs : List Signature) (ts : Types) (result : Option MonType) (ls : Labels) (h : ℕ) (bs : List NamedBehavior) → AreFlags ts (flags_from h bs) → AreStatements g gs ts result ls (all_flagged h bs)
flagged_valid g gs ts result ls h [] f = tt
flagged_valid g gs ts result ls h (b ∷ bs) f =
    let one : IsExpression g ts (tree.Constant I32 (pos 1)) I32 = record { typed = (refl, refl); within = omega arith } in
    ((I32, f.0, one), flagged_valid g gs ts result ls (suc h) bs f.1)

pub deep_flagged : (h : ℕ) (bs : List NamedBehavior) → depth_of_all (all_flagged h bs) ≤ 1
deep_flagged h [] = omega arith
deep_flagged h (b ∷ bs) = max-le (omega arith) (deep_flagged (suc h) bs)

-- ---- parameters and globals

have_at : (ts : Types) (bound : Bindings) (ds : List Declaration) (n : ℕ) (d : Declaration) → HavePointers ts bound ds → slice_get ds n ≡ Some d → HasPointer ts bound (number_of d)
have_at ts bound [] n d h e = absurd cc
have_at ts bound (y ∷ ds) zero d h e = let same : y ≡ d = cc in subst (λ (d : Declaration). HasPointer ts bound (number_of d)) same h.0
have_at ts bound (y ∷ ds) (suc n) d h e = have_at ts bound ds n d h.1 e

global_below : (x : ℕ) (ds : List Declaration) (n : ℕ) (d : Declaration) → slice_get ds n ≡ Some d → x ≡ number_of d → global_index x ds < length ds
global_below x [] n d e same = absurd cc
global_below x (y ∷ ds) zero d e same =
    let is : y ≡ d = cc in
    let here : nat_eq (number_of y) x ≡ true = eq-eqb (number_of y) x (ap number_of is ∙ sym same) in
    let index : global_index x (y ∷ ds) ≡ 0 = ap (λ t. if t then 0 else suc (global_index x ds)) here in
    omega (arith, index)
global_below x (y ∷ ds) (suc n) d e same = by (nat_eq (number_of y) x) (global_below x ds n d e same)
  where
    by : (t : Bool) → global_index x ds < length ds → (if t then 0 else suc (global_index x ds)) < suc (length ds)
    by true rest = omega arith
    by false rest = omega (arith, rest)

module _ (p : TranslationUnit) (f : Function) (ts : Types) (opens : RegisterTable) (free : (x : ℕ) → register_of opens.bound x ≡ None) (begun : Begins (entered f.params opens).kinds ts) where
  abbrev bound : Bindings
  bound = (entered f.params opens).bound

  own_reached : (b : Object) → IsOwn p f b → Reaches p ts bound b.decl
  own_reached b (OfFunction n d e at t) =
      let h = have_at ts bound f.params n d (entered_have ts f.params opens begun) e in
      subst (Reaches p ts bound) (sym at) (has_aim ts (is_global p (number_of d)) bound (number_of d) h)
  own_reached b (OfFile n d e at t) =
      let lt = global_below b.decl p.globals n d e at in
      let is : is_global p b.decl ≡ true = lt-ltb (global_index b.decl p.globals) (length p.globals) lt in
      entered_keep ts b.decl (is_global p b.decl) f.params opens begun (subst (Aim ts (is_global p b.decl)) (sym (free b.decl)) is)

  -- there are pointers to objects that are parameters or globals
  pub own_objects : (known : Sight) → Knows p ts bound known → (v : Sight) → ((x : ℕ) (b : Object) → entity_named x v.entities ≡ Some (AnObject b) → IsOwn p f b)
      → (x : Use) (t : PlainType) → Denotes v x t → HasType (count_of_globals p) ts (pointer_to p bound x.decl) Ptr
  own_objects known knows v own x t d = pointer_typed p ts bound known knows x.decl (subst (Reaches p ts bound) (sym d.decl) (own_reached d.object (own x.name d.object d.found)))

-- ---- `main` gives an `int`

module _ (p : TranslationUnit) (m : ℕ) where
  abbrev pub MainGives : ℕ → List Function → Type 0
  MainGives k [] = Unit {0}
  MainGives k (f ∷ fs) = (is_definition f ≡ true → nat_eq k m ≡ true → f.result ≡ int_type) × MainGives (if is_definition f then suc k else k) fs

  not_main : (k : ℕ) (f : Function) → (m ≡ k → ⊥) → nat_eq k m ≡ true → f.result ≡ int_type
  not_main k f differs e = let same : k ≡ m = grind (arith, nat_tests) in absurd (differs (sym same))

  behind_main : (k : ℕ) (fs : List Function) → m < k → MainGives k fs
  behind_main k [] lt = tt
  behind_main k (f ∷ fs) lt = ((λ d e. not_main k f (λ same. omega (arith, lt, same)) e), by (is_definition f) (behind_main (suc k) fs (omega (arith, lt))) (behind_main k fs lt))
    where
      by : (b : Bool) → MainGives (suc k) fs → MainGives k fs → MainGives (if b then suc k else k) fs
      by true next same = next
      by false next same = same

  typed : (f : Function) (a b : Bool) → same_type f.result int_type ≡ a → cond (a && b) None (Some (no_main f.place)) ≡ None → f.result ≡ int_type
  typed f true b e h = same_type_is f.result int_type e
  typed f false b e h = absurd cc

  pub main_gives : (k : ℕ) (fs : List Function) → m ≡ k + index_of_main p.names fs → main_fault p.names fs ≡ None → MainGives k fs
  main_gives k [] at h = tt
  main_gives k (f ∷ fs) at h = by (is_definition f) (bytes_eq (name_at p.names f.name) (codes "main")) refl at h (λ j at h. main_gives j fs at h)
    where
      by : (x y : Bool) → is_definition f ≡ x → m ≡ k + (if x then (if y then 0 else suc (index_of_main p.names fs)) else index_of_main p.names fs)
          → cond (x && y) (cond (same_type f.result int_type && has_no_parameters f.params) None (Some (no_main f.place))) (main_fault p.names fs) ≡ None
          → ((j : ℕ) → m ≡ j + index_of_main p.names fs → main_fault p.names fs ≡ None → MainGives j fs)
          → (is_definition f ≡ true → nat_eq k m ≡ true → f.result ≡ int_type) × MainGives (if x then suc k else k) fs
      by true true d at h go = ((λ d e. typed f (same_type f.result int_type) (has_no_parameters f.params) refl h), behind_main (suc k) fs (omega (arith, at)))
      by true false d at h go = ((λ d e. not_main k f (λ same. omega (arith, at, same)) e), go (suc k) (omega (arith, at)) h)
      by false y d at h go = ((λ e n. absurd (differs (sym d ∙ e))), go k at h)
        where
          differs : false ≡ true → ⊥
          differs e = cc
