-- Ours: where a run of a program of an accepted text judges an annotation, what is in sight there has blocks.
use Rattle.std.specs.Prelude.{◌≡◌, ℕ, List, [], ◌∷◌, Some}
use Rattle.std.specs.List.{AllByRecursion}
use Rattle.c_syntax.specs.declared.annotation.Kind.{Kind}
use Rattle.c_syntax.specs.declared.annotation.Kind.TheVariants.{Assert, Complete, Disjoint}
use Rattle.c_syntax.specs.Logic.{ClauseBody}
use Rattle.c_syntax.specs.Programs.{TranslationUnit}
use Rattle.c_model.specs.AcceptedPrograms.{IsProgram}
use Rattle.c_model.specs.AnnotationSights.{AnnotationSight}
use Rattle.c_model.specs.ExpressionTyping.{Object, Entity, AnObject, AnEnumerator, Sight, entity_named}
use Rattle.c_model.specs.FormedContracts.{NamesBehaviors}
use Rattle.c_model.specs.JudgedStates.{Judgement, judged}
use Rattle.c_model.specs.State.{Input, Scope, find}
use Rattle.c_model.specs.TypedPredicates.{ClauseTyped}

-- an object has a block
abbrev pub IsFound : Scope → ℕ → Type 0
IsFound scope x = (number : ℕ) × (find x scope ≡ Some number)

abbrev pub EntityFound : Scope → Entity → Type 0
EntityFound scope (AnObject b) = IsFound scope b.decl
EntityFound scope (AnEnumerator c) = Unit {0}

-- so has each one in sight
abbrev pub AreFound : List Entity → Scope → Type 0
AreFound [] scope = Unit {0}
AreFound (b ∷ bs) scope = EntityFound scope b × AreFound bs scope

-- so has each that has a name there
abbrev pub NamesFound : Sight → Scope → Type 0
NamesFound s scope = (x : ℕ) (b : Object) → entity_named x s.entities ≡ Some (AnObject b) → IsFound scope b.decl

-- by the kind of an annotation: what is judged is a predicate that is typed; `complete` and `disjoint` name behaviors
abbrev pub TypedBy : Kind → AnnotationSight → ClauseBody → Type 0
TypedBy Complete s b = NamesBehaviors b
TypedBy Disjoint s b = NamesBehaviors b
TypedBy _ s b = ClauseTyped s b

-- where an assert is asked each object in sight has a block, also one whose name stands for another there (C99 6.2.1 p4); where a clause of a contract is
-- asked, each object that a name of the clause can stand for has one
abbrev pub FoundBy : Kind → Sight → Scope → Type 0
FoundBy Assert s scope = AreFound s.entities scope
FoundBy _ s scope = NamesFound s scope

-- the annotation is typed with what is known where it stands, and what is in sight there has blocks in the state in which it is asked
pub record IsInSight (j : Judgement) : Type 0 where
  pub sight : AnnotationSight
  pub typed : TypedBy j.annotation.kind sight j.annotation.body
  pub found : FoundBy j.annotation.kind sight.here j.state.scope

-- so it is with all judgements of each run of a program of an accepted text, from its start on
abbrev pub JudgedInSight : Type 0
JudgedInSight = (p : TranslationUnit) → IsProgram p → (input : Input) (n : ℕ) → AllByRecursion IsInSight (judged p input n)
