-- What is known of each tree that is read of a text, whatever it contains, before it is typed: its places stand in the order of the text, annotations and
-- declarations stand only where the grammar puts them, its expressions are short, its letters are values of `char`, and what it declares has names.
use Rattle.std.specs.Prelude.{◌≡◌, ℕ, suc, ◌<◌, ◌≤◌, ◌^◌, List, [], length, Option, Some, None}
use Rattle.std.specs.List.{AllByRecursion}
use Rattle.c_syntax.specs.Expressions.{Expression}
use Rattle.c_syntax.specs.Logic.{Annotation}
use Rattle.c_syntax.specs.Statements.{Statement, Block}
use Rattle.c_syntax.specs.Programs.{StringLiteral, Function, TranslationUnit}
use Rattle.c_model.specs.ExpressionGrammar.{most_nested}
use Rattle.c_model.specs.Formed.{nodes_of, most_read, depth, IsShortReading, AreReadAsserts, AreReadLoopClauses, AreNamed, FunctionsNamed}
use Rattle.c_model.specs.FormedContracts.{ContractsFormed}
use Rattle.c_model.specs.FullExpressions.{EachDeclared, EachInFunctions, EachExpression}
use Rattle.c_model.specs.LetterValues.{LettersFit}
use Rattle.c_model.specs.PlacedForms.{AnnotationsApart}
use Rattle.c_model.specs.EffectPlaces.{ItemsPlaced}
pub use Rattle.c_model.specs.TextOrder.{Between, offset_of_constant, numbers_of_item, numbers_of_items, HasMembers, InTextOrder}
pub use Rattle.c_model.specs.TextOrder.{enums_among, typedefs_among, globals_among, functions_among, struct_among}

-- ---- forms

-- each form has a token of its own
abbrev pub IsShort : Expression → Type 0
IsShort e = nodes_of e ≤ most_read

-- in functions whose asserts and whose annotations of loops are so
module _ (AreSo AreLoops : List Annotation → Type 0) where
  -- a body is a block, which is 1 deep; the limit is that of the grammar, and one more that this bound allows does no harm
  abbrev pub BodyRead : Option Statement → Type 0
  BodyRead None = Unit {0}
  BodyRead (Some (Block at items)) = ItemsPlaced AreSo AreLoops items × (depth (Block at items) ≤ suc most_nested)
  BodyRead (Some _) = ⊥

  pub record FunctionRead (f : Function) : Type 0 where
    pub body : BodyRead f.body

  abbrev pub FunctionsRead : List Function → Type 0
  FunctionsRead fs = AllByRecursion FunctionRead fs

-- ---- literals

abbrev pub AreBytes : List ℕ → Type 0
AreBytes bs = AllByRecursion (λ b. b < 256) bs

abbrev pub TextsAreBytes : List StringLiteral → Type 0
TextsAreBytes ts = AllByRecursion (λ (t : StringLiteral). AreBytes t.bytes) ts

-- ---- files

-- the tree of a text of bytes, which are fewer than 4294967295
pub record ReadTree (p : TranslationUnit) : Type 0 where
  pub order : InTextOrder p
  pub functions : FunctionsRead AreReadAsserts AreReadLoopClauses p.funcs
  pub contracts : ContractsFormed IsShortReading p.funcs
  -- no two parts of its annotations stand at one place
  pub annotations_apart : AnnotationsApart p.funcs
  pub functions_short : EachInFunctions IsShort p.funcs
  pub globals_short : EachDeclared IsShort p.globals
  pub characters : EachExpression LettersFit p
  pub functions_named : FunctionsNamed p.names p.funcs
  pub globals_named : AreNamed p.names p.globals
  pub texts : TextsAreBytes p.texts
  pub few_functions : length p.funcs < 2 ^ 32
  pub no_strays : p.strays ≡ []
