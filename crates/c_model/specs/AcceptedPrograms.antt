-- What is known of each program of an accepted text: it is typed, calls what it defines, its annotations stand where they may, its expressions and
-- types are small, its names are those of C, its declarations have numbers of their own, and it has room and `main`.
use Rattle.std.specs.Prelude.{◌≡◌, ◌<◌, ◌^◌, List, [], ◌∷◌, length, map, None}
use Rattle.std.specs.List.{AllByRecursion}
use Rattle.c_syntax.specs.declared.place.Place.{Place}
use Rattle.c_syntax.specs.Statements.{Initialiser, Declaration}
use Rattle.c_syntax.specs.Programs.{Function, TranslationUnit}
use Rattle.c_model.specs.UnitTyping.{items_of_file, sight_with, room_fault, main_fault}
use Rattle.c_model.specs.TypedTrees.{WhereAny}
use Rattle.c_model.specs.TypedPrograms.{ProgramTyped}
use Rattle.c_model.specs.TypedAnnotations.{ContractsNoted}
use Rattle.c_model.specs.ReadTree.{Between, numbers_of_items, FunctionsRead, TextsAreBytes}
use Rattle.c_model.specs.Pure.{IsPureInitialiser}
use Rattle.c_model.specs.Sizes.{IsSmall}
use Rattle.c_model.specs.SmallTypes.{TypesSmall}
use Rattle.c_model.specs.FullExpressions.{EachExpression}
use Rattle.c_model.specs.LetterValues.{LettersFit}
use Rattle.c_model.specs.FormedContracts.{ContractsFormed}
use Rattle.c_model.specs.KeptTerms.{planned, StandApart}
use Rattle.c_model.specs.Formed.{IsShortClause, AreAsserts, AreLoopClauses, number_of, Ascend, AreNamed, FunctionsNamed}
pub use Rattle.c_model.specs.FileItems.{ItemNoted, FileNoted, AreScalar, IsDefined, AreDefined, ItemResolved, FileResolved}

-- ---- forms and sizes

-- initialisers of globals have no effects and no calls, since they are constant (C99 6.7.8 p4)
abbrev pub AreConstant : List Declaration → Type 0
AreConstant [] = Unit {0}
AreConstant (d ∷ ds) = WhereAny (λ (i : Place × Initialiser). IsPureInitialiser i.1) d.init × AreConstant ds

-- ---- programs

-- a program of a text that is accepted
pub record IsProgram (p : TranslationUnit) : Type 0 where
  -- each item is typed with what is in sight where it stands, and so are its annotations; what is called there is defined
  pub typed : ProgramTyped p
  pub noted : FileNoted p (sight_with p p.structs) (items_of_file p)
  pub contracts_noted : ContractsNoted p
  pub resolved : FileResolved p (sight_with p p.structs) (items_of_file p)
  -- annotations and declarations stand where the grammar puts them, and expressions and their types are small
  pub effects : FunctionsRead AreAsserts AreLoopClauses p.funcs
  pub contracts : ContractsFormed IsShortClause p.funcs
  -- no two terms that a function keeps at its labels stand at one place
  pub kept_apart : AllByRecursion (λ (f : Function). StandApart (planned f)) p.funcs
  pub constant : AreConstant p.globals
  pub small : EachExpression IsSmall p
  pub small_types : EachExpression (TypesSmall p.structs) p
  -- a letter is a value of `char`
  pub characters : EachExpression LettersFit p
  -- names are those of C, and numbers are offsets of the text, in its order
  pub named : FunctionsNamed p.names p.funcs
  pub globals_named : AreNamed p.names p.globals
  pub numbered : Between 0 (numbers_of_items (items_of_file p)) 4294967295
  pub globals_ascend : Ascend 0 (map number_of p.globals)
  -- limits, and `main`
  pub texts : TextsAreBytes p.texts
  pub few_functions : length p.funcs < 2 ^ 32
  pub room : room_fault p ≡ None
  pub main : main_fault p.names p.funcs ≡ None
