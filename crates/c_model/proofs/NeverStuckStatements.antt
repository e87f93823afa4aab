-- Typed statements and calls of typed functions end in no fault, where calls in them end in none.
use Rattle.std.proofs.Common.{◌≡◌, ℕ, zero, suc, Bool, true, false, cond, List, [], ◌∷◌, Option, Some, None, sym, subst}
use Rattle.c_syntax.specs.declared.place.Place.{Place}
use Rattle.c_syntax.specs.declared.types.CInt.{CInt}
use Rattle.c_model.specs.Conversions.{promoted}
use Rattle.c_syntax.specs.Ctypes.{PlainType, Int, Ptr}
use Rattle.c_syntax.specs.Statements.{Declaration, Statement, Empty, Eval, Block, If, While, Do, For, Break, Continue, Return, Labelled, ElsePart, Switch}
use Rattle.c_syntax.specs.Statements.{Cases, NoCase, AnotherCase}
use Rattle.c_syntax.specs.Statements.{NoElse, Else, ForFirst, NoFirst, First, BlockItem, Declare, Specify, Run, Asserts, BlockItems, NoItem, Then}
use Rattle.c_syntax.specs.Programs.{Function, TranslationUnit}
use Rattle.c_model.specs.Memory.{Value, NoValue}
use Rattle.c_model.specs.State.{Scope, Breaks, Continues, Returns, Undefined, Leave, Leaves, Over, Stuck, Outcome, Normal, Stop, State, ◌>>◌, give}
use Rattle.c_model.specs.ContractChecks.{ending}
use Rattle.c_model.specs.Library.{is_there}
use Rattle.c_model.specs.Meaning.{Callee, Tables, chosen_case, cases_with, declared_in, declared_first, exec_with, else_with, first_with, item_with, items_with, parameters, body_with, at_close, returned_by, call_with}
use Rattle.c_model.specs.ExpressionTyping.{Sight, inner, with_object, with_objects}
use Rattle.c_model.specs.StatementTyping.{Around, in_loop, in_switch, behind, behind_first}
use Rattle.c_model.specs.UnitTyping.{with_parameter, with_parameters}
use Rattle.c_model.specs.TypedTrees.{AreParameters, StatementTyped, ElseTyped, FirstTyped, ItemTyped, ItemsTyped, CasesTyped, around_body, BodyTyped}
use Rattle.c_model.specs.Formed.{AreLoopClauses, AreAsserts}
use Rattle.c_model.specs.ReadTree.{BodyRead}
use Rattle.c_model.proofs.NeverStuckRuns.{Anything, NoJump, IsValueOf, EndsWell, Gives, gives_bind, gives_then, gives_give, gives_over, gives_jump, gives_birth, gives_births}
use Rattle.c_model.specs.Predicates.{variant}
use Rattle.c_model.proofs.NeverStuckRuns.{gives_write_youngest, gives_frame, gives_alone, gives_mark, gives_within, gives_step, gives_checks, gives_invariants}
use Rattle.c_model.proofs.NeverStuckRuns.{gives_choose, Allowed, gives_turn, gives_turns, gives_do_turns, gives_called, gives_entry, gives_ending}
use Rattle.c_model.proofs.NeverStuckRuns.{gives_after_switch}
use Rattle.c_model.proofs.NeverStuckValues.{gives_scalar}
use Rattle.c_model.proofs.NeverStuckExpressions.{Sees, CallsGive, sees_object, gives_value, gives_condition_of, gives_condition, gives_effect, gives_initialise_all}

-- ---- what is in sight

module _ (p : TranslationUnit) where
  sees_objects : (ds : List Declaration) (s : Sight) → Sees p s → Sees p (with_objects s ds)
  sees_objects [] s see = see
  sees_objects (d ∷ ds) s see = sees_objects ds (with_object s d) (sees_object p d s see)

  pub sees_inner : (s : Sight) → Sees p s → Sees p (inner s)
  sees_inner s see = record { names = see.names; structs = see.structs; defined = see.defined }

  pub sees_behind : (i : BlockItem) (s : Sight) → Sees p s → Sees p (behind s i)
  sees_behind (Declare ds) s see = sees_objects ds s see
  sees_behind (Specify at t) s see = see
  sees_behind (Run a) s see = see
  sees_behind (Asserts annots) s see = see

  pub sees_first : (first : ForFirst) (s : Sight) → Sees p s → Sees p (behind_first s first)
  sees_first NoFirst s see = see
  sees_first (First i) s see = sees_behind i s see

  sees_parameter : (d : Declaration) (s : Sight) → Sees p s → Sees p (with_parameter s d)
  sees_parameter d s see = by d.named
    where
      by : (t : Bool) → Sees p (cond t (with_object s d) s)
      by true = sees_object p d s see
      by false = see

  pub sees_parameters : (ds : List Declaration) (s : Sight) → Sees p s → Sees p (with_parameters s ds)
  sees_parameters [] s see = see
  sees_parameters (d ∷ ds) s see = sees_parameters ds (with_parameter s d) (sees_parameter d s see)

-- ---- statements

module _ (p : TranslationUnit) (T : Tables) (structs : T.structs ≡ p.structs) (call : Callee) (calls : CallsGive p call) where
  mutual
    gives_exec : (s : Sight) → Sees p s → (r : Around) (a : Statement) (n : ℕ) → StatementTyped s r a → Gives Anything (Allowed r) (exec_with T a call n)
    gives_exec s see r (Empty at) n w = gives_give tt tt
    gives_exec s see r (Eval at e) n w = gives_then _ _ (gives_value p T structs call calls s see e w) (gives_give tt tt)
    gives_exec s see r (Block at items) n w =
        gives_within _ (gives_then _ _ (gives_births T.structs (declared_in items)) (gives_items (inner s) (sees_inner p s see) r items n w))
    gives_exec s see r (If at e a b) n w =
        gives_bind _ _ (gives_condition_of p T structs call calls s see e w.0) (λ v _. gives_choose v _ _ (gives_exec s see r a n w.1) (gives_else s see r b n w.2))
    gives_exec s see r (While at annots e a) n w =
        gives_turns r n _ _ (gives_then _ _ (gives_invariants annots) (gives_condition_of p T structs call calls s see e w.0)) (λ again. gives_turn r (variant annots) _ _ again (gives_exec s see (in_loop r) a n w.1) (gives_give tt tt))
    gives_exec s see r (Do at a e) n w = gives_do_turns r n _ _ (gives_condition_of p T structs call calls s see e w.1) (gives_exec s see (in_loop r) a n w.0)
    gives_exec s see r (For at annots first e step a) n w =
        let i = sees_inner p s see in
        let t = behind_first (inner s) first in
        let f = sees_first p first (inner s) i in
        gives_within _ (gives_then _ _ (gives_then _ _ (gives_births T.structs (declared_first first)) (gives_first (inner s) i r first n w.0))
        (gives_turns r n _ _ (gives_then _ _ (gives_invariants annots) (gives_condition p T structs call calls t f e w.1))
        (λ again. gives_turn r (variant annots) _ _ again (gives_exec t f (in_loop r) a n w.3) (gives_effect p T structs call calls t f step w.2))))
    gives_exec s see r (Break at) n w = gives_jump Breaks w
    gives_exec s see r (Continue at) n w = gives_jump Continues w
    gives_exec s see r (Return at None) n w = gives_jump (Returns None) (subst (λ t. IsValueOf t NoValue) (sym w) tt)
    gives_exec s see r (Return at (Some e)) n w =
        gives_bind _ _ (gives_value p T structs call calls s see e w.typed) (λ v h. gives_jump (Returns (Some v)) (subst (λ t. IsValueOf t v) w.ctype h))
    gives_exec s see r (Labelled at l a) n w = gives_then _ _ (gives_mark (Some l)) (gives_exec s see r a n w)
    gives_exec s see r (Switch at e cases) n w =
        gives_bind _ _ (gives_value p T structs call calls s see e w.1) (λ v _. gives_after_switch r _ (gives_cases s see (in_switch r) (promoted w.0) cases n (chosen_case v cases) w.3))

    gives_cases : (s : Sight) → Sees p s → (r : Around) (k : CInt) (cases : Cases) (n j : ℕ) → CasesTyped s r k cases → Gives Anything (Allowed r) (cases_with T cases call n j)
    gives_cases s see r k NoCase n j w = gives_give tt tt
    gives_cases s see r k (AnotherCase at v items rest) n zero w = gives_then _ _ (gives_items s see r items n w.1) (gives_cases s see r k rest n zero w.2)
    gives_cases s see r k (AnotherCase at v items rest) n (suc j) w = gives_cases s see r k rest n j w.2

    gives_else : (s : Sight) → Sees p s → (r : Around) (b : ElsePart) (n : ℕ) → ElseTyped s r b → Gives Anything (Allowed r) (else_with T b call n)
    gives_else s see r NoElse n w = gives_give tt tt
    gives_else s see r (Else a) n w = gives_exec s see r a n w

    gives_first : (s : Sight) → Sees p s → (r : Around) (first : ForFirst) (n : ℕ) → FirstTyped s r first → Gives Anything (Allowed r) (first_with T first call n)
    gives_first s see r NoFirst n w = gives_give tt tt
    gives_first s see r (First i) n w = gives_item s see r i n w

    gives_item : (s : Sight) → Sees p s → (r : Around) (i : BlockItem) (n : ℕ) → ItemTyped s r i → Gives Anything (Allowed r) (item_with T i call n)
    gives_item s see r (Declare ds) n w = gives_initialise_all p T structs call calls s see ds w
    gives_item s see r (Specify at t) n w = gives_give tt tt
    gives_item s see r (Run a) n w = gives_exec s see r a n w
    gives_item s see r (Asserts annots) n w = gives_checks annots

    gives_items : (s : Sight) → Sees p s → (r : Around) (items : BlockItems) (n : ℕ) → ItemsTyped s r items → Gives Anything (Allowed r) (items_with T items call n)
    gives_items s see r NoItem n w = gives_give tt tt
    gives_items s see r (Then i rest) n w = gives_then _ _ (gives_item s see r i n w.0) (gives_items (behind s i) (sees_behind p i s see) r rest n w.1)

  -- the body of a definition
  pub gives_body : (s : Sight) → Sees p s → (t : PlainType) (body : Option Statement) (n : ℕ) → BodyRead AreAsserts AreLoopClauses body → BodyTyped s t body → is_there body ≡ true → Gives Anything (Allowed (around_body t)) (body_with T body call n)
  gives_body s see t None n formed typed there = absurd cc
  gives_body s see t (Some (Block at items)) n formed typed there =
      gives_within _ (gives_then _ _ (gives_births T.structs (declared_in items)) (gives_items s see (around_body t) items n typed))
  gives_body s see t (Some _) n formed typed there = absurd formed

-- ---- calls

gives_parameters : {L : Leave → Type 0} (T : Tables) (at : Place) (s : Sight) (ds : List Declaration) (vs : List Value) → AreParameters s ds → Gives Anything L (parameters T at ds vs)
gives_parameters T at s [] [] w = gives_give tt tt
gives_parameters T at s [] (v ∷ vs) w = gives_over (Undefined at)
gives_parameters T at s (d ∷ ds) [] w = gives_over (Undefined at)
gives_parameters T at s (d ∷ ds) (v ∷ vs) w =
    gives_then _ _ (gives_then _ _ (gives_birth T.structs d) (gives_scalar d.ctype _ w.0.scalar (λ k _. gives_write_youngest at k v))) (gives_parameters T at (with_parameter s d) ds vs w.1)

close_well : (close : Place) (t : PlainType) (s : State) → EndsWell (IsValueOf t) NoJump (at_close close t s)
close_well close (Int k) s = tt
close_well close (Ptr t) s = tt
close_well close _ s = tt

returned_well : (f : Function) (r : Outcome (Unit {0})) → EndsWell Anything (Allowed (around_body f.result)) r → EndsWell (IsValueOf f.result) NoJump (returned_by f r)
returned_well f (Normal u s) h = close_well f.close f.result s
returned_well f (Stop (Leaves Breaks) s) h = absurd cc
returned_well f (Stop (Leaves Continues) s) h = absurd cc
returned_well f (Stop (Leaves (Returns None)) s) h = h
returned_well f (Stop (Leaves (Returns (Some v))) s) h = h
returned_well f (Stop (Over e) s) h = h
returned_well f (Stop Stuck s) h = h

pub gives_call : (T : Tables) (globals : Scope) (s : Sight) (f : Function) (call : Callee) (n : ℕ) (at : Place) (vs : List Value) → AreParameters s f.params → Gives Anything (Allowed (around_body f.result)) (body_with T f.body call n)
    → Gives (IsValueOf f.result) NoJump (call_with T globals (Some f) call n at vs)
gives_call T globals s f call n at vs w g =
    gives_then _ _ gives_step (gives_called _ (gives_then _ _
    (gives_then _ _ (gives_then _ _ (gives_then _ _ gives_frame (gives_alone globals)) (gives_parameters T at s f.params vs w)) (gives_mark None))
    (gives_bind _ _ (gives_entry f.contract) (λ hs _. gives_bind (λ s. returned_by f (body_with T f.body call n s)) (λ v. ending f.contract hs v >> give v)
    (record { at = λ s. returned_well f (body_with T f.body call n s) (g.at s) }) (λ v h. gives_then _ _ (gives_ending f.contract hs v) (gives_give v h))))))
