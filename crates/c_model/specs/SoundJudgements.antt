-- Ours: each state in which a run of a program of an accepted text judges an annotation is sound, and `\result` is a value of its function's type there.
use Rattle.std.specs.Prelude.{◌≡◌, ℕ, ℤ, true, Some, slice_get, codes}
use Rattle.std.specs.List.{AllByRecursion}
use Rattle.c_syntax.specs.Ctypes.{PlainType, Void, Int, Ptr, Array, Struct, Named, StructTag, EnumTag}
use Rattle.c_syntax.specs.Programs.{FunctionContract, Function, TranslationUnit}
use Rattle.c_model.specs.AcceptedPrograms.{IsProgram}
use Rattle.c_model.specs.Integers.{fits}
use Rattle.c_model.specs.Memory.{Pointer, Value, Integer, Points, Store}
use Rattle.c_model.specs.Meaning.{tables_of, call_of, body_with, returned_by, function_named}
use Rattle.c_model.specs.SoundStates.{IsPlaced, IsSoundState, IsDirect}
use Rattle.c_model.specs.State.{Input, State, Normal}
use Rattle.c_model.specs.TypedTrees.{WhereAny, IsInteger}
use Rattle.c_model.specs.JudgedStates.{Judgement, Result, judged_whole, judged}

-- ---- values of types

-- an integer that the type has, or a pointer into a block (C99 6.2.6.1 p5); a function gives no value of another type (C99 6.9.1 p3)
abbrev pub IsValueIn : Store → PlainType → Value → Type 0
IsValueIn store (Int k) v = (z : ℤ) × (v ≡ Integer z) × (fits k z ≡ true)
IsValueIn store (Ptr t) v = (p : Pointer) × (v ≡ Points p) × IsPlaced store p
IsValueIn store Void v = Unit {0}
IsValueIn store (Array t n) v = Unit {0}
IsValueIn store (Struct n) v = Unit {0}
IsValueIn store (Named x) v = Unit {0}
IsValueIn store (StructTag x tag) v = Unit {0}
IsValueIn store (EnumTag x at) v = Unit {0}

-- ---- judgements

-- the state is sound, and `\result`, where there is one, is a value of its type there
pub record IsSoundJudgement (p : TranslationUnit) (j : Judgement) : Type 0 where
  pub sound : IsSoundState p j.state
  pub result : WhereAny (λ (r : Result). IsValueIn j.state.store r.ctype r.value) j.result

-- ---- results

-- what the body of a function gives from a sound state on is a value of the function's type
abbrev pub GivesResult : TranslationUnit → Function → Type 0
GivesResult p f = (n : ℕ) (s t : State) (v : Value) → IsSoundState p s → returned_by f (body_with (tables_of p) f.body (call_of p n) n s) ≡ Normal v t
    → IsValueIn t.store f.result v

-- so do the functions of a program that have contracts; at its closing brace `main` gives 0
pub record HasResults (p : TranslationUnit) : Type 0 where
  pub gives : (i : ℕ) (f : Function) (c : FunctionContract) → slice_get p.funcs i ≡ Some f → f.contract ≡ Some c → GivesResult p f
  pub main : (f : Function) (c : FunctionContract) → function_named p (codes "main") p.funcs ≡ Some f → f.contract ≡ Some c → IsInteger f.result

-- then the judgements of each run are sound, whatever annotations of loops and contracts the program has
abbrev pub JudgementsAreSound : Type 0
JudgementsAreSound = (p : TranslationUnit) → IsDirect p → HasResults p → (n : ℕ) (s : State) → IsSoundState p s
    → AllByRecursion (IsSoundJudgement p) (judged_whole p n s)

-- each state in which a run of a program of an accepted text judges an annotation is sound, on each input and with any number of steps
abbrev pub JudgedStatesAreSound : Type 0
JudgedStatesAreSound = (p : TranslationUnit) → IsProgram p → (input : Input) (n : ℕ) → AllByRecursion (IsSoundJudgement p) (judged p input n)

-- each function of a program of an accepted text gives values of its type
abbrev pub GivenResultsFit : Type 0
GivenResultsFit = (p : TranslationUnit) → IsProgram p → (i : ℕ) (f : Function) → slice_get p.funcs i ≡ Some f → GivesResult p f
