-- What is known of each typed program, for its translation: what is in sight where its globals are initialised and its functions are defined, that
-- these are typed there, and its limits.
use Rattle.std.proofs.Common.{◌≡◌, ℕ, suc, ◌<◌, ◌≤◌, ◌^◌, Bool, true, false, if◌then◌else◌, nat_eq, nat_lt, List, [], ◌∷◌, length, Some, None}
use Rattle.c_syntax.specs.declared.place.Place.{Place}
use Rattle.c_syntax.specs.Statements.{Initialiser, Declaration, Block}
use Rattle.c_syntax.specs.Statements.{BlockItems}
use Rattle.c_syntax.specs.Programs.{Function, TranslationUnit}
use Rattle.c_syntax.specs.Layouts.{size_of}
use Rattle.c_model.specs.Formed as form
use Rattle.c_model.specs.Formed.{AreNamed, FunctionNamed}
use Rattle.c_model.specs.Library.{is_library_name}
use Rattle.c_model.specs.Meaning.{is_definition}
use Rattle.c_model.specs.ExpressionTyping.{Sight, Object, AnObject, entity_named, inner, name_at}
use Rattle.c_model.specs.UnitTyping.{main_fault, room_fault, with_parameters}
use Rattle.c_model.specs.TypedPrograms.{AreLaidOut}
use Rattle.mon_syntax.specs.Valid.{Types}
use Rattle.instrument.proofs.FormedTrees.{InitialFormed, ItemsFormed}
use Rattle.c_model.specs.TypedTrees.{WhereAny, Initialises, AreParameters, IsResult, ItemsTyped, around_body}
use Rattle.c_model.specs.ReadTree.{TextsAreBytes}
use Rattle.c_model.specs.AcceptedPrograms.{AreDefined}
use Rattle.c_initialisers.specs.Letters.{InitialiserHasLetters}
use Rattle.instrument.specs.Limits.{ContractHasNumbers, HaveNumbers}
use Rattle.c_effects.specs.Expressions.{global_index}
use Rattle.instrument.specs.Translation.{all_kinds, first_flag, index_of_main, front_temporaries}
use Rattle.instrument.proofs.Annotated.{IsAnnotated}
use Rattle.instrument.proofs.Keepable.{IsPlanned}
use Rattle.instrument.proofs.Own.{AreOwn, ItemsOwn}

-- whether a number is that of a global
abbrev pub is_global : TranslationUnit → ℕ → Bool
is_global p x = nat_lt (global_index x p.globals) (length p.globals)

-- the types of all registers of a function
abbrev pub kinds : TranslationUnit → Types → Function → Types
kinds p front f = all_kinds p front f f.contract

-- ---- programs

-- what is in sight at file scope: globals of the program, and its structs and texts
pub record IsFileSight (p : TranslationUnit) (s : Sight) : Type 0 where
  pub objects : (x : ℕ) (b : Object) → entity_named x s.entities ≡ Some (AnObject b) → (nat_eq b.decl 4294967295 ≡ false) × (is_global p b.decl ≡ true)
  pub structs_are : s.structs ≡ p.structs
  pub texts_are : s.texts ≡ p.texts
  pub names_are : s.names ≡ p.names
  pub functions : AreDefined p s.functions

-- a global, with what is in sight in its initialiser
pub record GlobalTyped (p : TranslationUnit) (d : Declaration) : Type 0 where
  pub sight : Sight
  pub file : IsFileSight p sight
  pub size : size_of p.structs d.ctype ≤ 2147483647
  pub init : WhereAny (λ (i : Place × Initialiser). Initialises sight d.ctype i.1) d.init
  pub formed : InitialFormed p.structs d.init
  pub letters : WhereAny (λ (i : Place × Initialiser). InitialiserHasLetters i.1) d.init

abbrev pub GlobalsTyped : TranslationUnit → List Declaration → Type 0
GlobalsTyped p [] = Unit {0}
GlobalsTyped p (d ∷ ds) = GlobalTyped p d × GlobalsTyped p ds

-- a definition, with what is in sight at file scope where it stands, itself included; these registers stand before those of its body
pub record DefinitionTyped (p : TranslationUnit) (front : Types) (f : Function) : Type 0 where
  pub sight : Sight
  pub file : IsFileSight p sight
  pub named : FunctionNamed p.names f
  pub own_name : is_library_name (name_at p.names f.name) ≡ false
  pub params : AreParameters (inner sight) f.params
  pub own : AreOwn f.params
  pub place : Place
  pub items : BlockItems
  pub is : f.body ≡ Some (Block place items)
  pub formed : ItemsFormed p.structs items
  pub shallow : form.depth (Block place items) ≤ 201
  pub typed : ItemsTyped (with_parameters (inner sight) f.params) (around_body f.result) items
  pub planned : IsPlanned p f (with_parameters (inner sight) f.params) items
  pub numbers : ItemsOwn items
  pub letters : HaveNumbers items
  -- what it gives, and its contract
  pub gives : IsResult f.result
  pub annotated : IsAnnotated p f
  pub clauses : ContractHasNumbers (first_flag f) f.contract
  pub few : length (kinds p front f) < 2 ^ 32

abbrev pub DefinitionsTyped : TranslationUnit → ℕ → ℕ → List Function → Type 0
DefinitionsTyped p main k [] = Unit {0}
DefinitionsTyped p main k (f ∷ fs) =
    (is_definition f ≡ true → DefinitionTyped p (front_temporaries p (nat_eq k main)) f) × DefinitionsTyped p main (if is_definition f then suc k else k) fs

pub record IsTypedProgram (p : TranslationUnit) : Type 0 where
  pub structs : AreLaidOut p.structs p.structs
  pub texts : TextsAreBytes p.texts
  pub few_functions : length p.funcs < 2 ^ 32
  pub globals_named : AreNamed p.names p.globals
  pub globals : GlobalsTyped p p.globals
  pub room : room_fault p ≡ None
  pub definitions : DefinitionsTyped p (index_of_main p.names p.funcs) 0 p.funcs
  pub main : main_fault p.names p.funcs ≡ None
