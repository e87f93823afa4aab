-- Ours: bounds that the trees have by their types.
-- What the numbers of a tree's types bound, in the parts that are translated: the number and the line of an annotation are of 32
-- bits, a letter is a value of `char`, and registers can be numbered.
use Rattle.std.specs.Prelude.{◌≡◌, true, ℕ, suc, ◌<◌, ◌^◌, if◌then◌else◌, nat_eq, length, List, [], ◌∷◌, Option, Some, None}
use Rattle.c_syntax.specs.Statements.{Statement, Empty, Eval, Block, If, While, Do, For, Break, Continue, Return, Labelled, Switch}
use Rattle.c_syntax.specs.Statements.{ElsePart, NoElse, Else, ForFirst, NoFirst, First, BlockItem, Declare, Specify, Run, Asserts, BlockItems, NoItem, Then}
use Rattle.c_syntax.specs.Statements.{Cases, NoCase, AnotherCase}
use Rattle.c_syntax.specs.Programs.{NamedBehavior, FunctionContract, Function, TranslationUnit}
use Rattle.c_syntax.specs.Logic.{Annotation}
use Rattle.c_model.specs.ContractChecks.{entry_checks, leave_checks}
use Rattle.c_model.specs.ContractTyping.{named_behaviors}
use Rattle.c_model.specs.Meaning.{is_definition}
use Rattle.c_initialisers.specs.Letters.{InitialsHaveLetters}
use Rattle.c_effects.specs.Letters.{Any, ValueHasLetters, ActHasLetters}
use Rattle.annot_code.specs.Checks.{annotations_of}
use Rattle.annot_simulation.specs.ContractCode.{named_flags}
use Rattle.annot_simulation.specs.Numbered.{AreNumbered}
use Rattle.mon_syntax.specs.declared.tree.MonType.{MonType}
use Rattle.instrument.specs.Translation.{all_kinds, first_flag, front_temporaries}

-- ---- statements

abbrev mutual
  pub HasNumbers : Statement → Type 0
  HasNumbers (Empty at) = Unit {0}
  HasNumbers (Eval at e) = ActHasLetters e
  HasNumbers (Block at items) = HaveNumbers items
  HasNumbers (If at e a b) = ValueHasLetters e × HasNumbers a × ElseHasNumbers b
  HasNumbers (While at annots e a) = ValueHasLetters e × HasNumbers a × AreNumbered annots
  HasNumbers (Do at a e) = HasNumbers a × ValueHasLetters e
  HasNumbers (For at annots first e behind a) =
      FirstHasNumbers first × Any ValueHasLetters e × HasNumbers a × Any ActHasLetters behind × AreNumbered annots
  HasNumbers (Break at) = Unit {0}
  HasNumbers (Continue at) = Unit {0}
  HasNumbers (Return at e) = Any ValueHasLetters e
  HasNumbers (Labelled at l a) = HasNumbers a
  HasNumbers (Switch at e cases) = ValueHasLetters e × CasesHaveNumbers 0 cases

  -- cases, of which the first one has this index
  pub CasesHaveNumbers : ℕ → Cases → Type 0
  CasesHaveNumbers i NoCase = i < 2 ^ 63
  CasesHaveNumbers i (AnotherCase at v body rest) = HaveNumbers body × CasesHaveNumbers (suc i) rest

  pub ElseHasNumbers : ElsePart → Type 0
  ElseHasNumbers NoElse = Unit {0}
  ElseHasNumbers (Else a) = HasNumbers a

  pub FirstHasNumbers : ForFirst → Type 0
  FirstHasNumbers NoFirst = Unit {0}
  FirstHasNumbers (First i) = ItemHasNumbers i

  pub ItemHasNumbers : BlockItem → Type 0
  ItemHasNumbers (Declare ds) = InitialsHaveLetters ds
  ItemHasNumbers (Specify at t) = Unit {0}
  ItemHasNumbers (Run a) = HasNumbers a
  ItemHasNumbers (Asserts annots) = AreNumbered annots

  pub HaveNumbers : BlockItems → Type 0
  HaveNumbers NoItem = Unit {0}
  HaveNumbers (Then i rest) = ItemHasNumbers i × HaveNumbers rest

-- ---- functions

abbrev pub BodyHasNumbers : Option Statement → Type 0
BodyHasNumbers None = Unit {0}
BodyHasNumbers (Some a) = HasNumbers a

-- the flags that are counted for a clause are fewer than a register of 32 bits counts
abbrev pub CoversFew : ℕ → List NamedBehavior → List Annotation → Type 0
CoversFew h bs [] = Unit {0}
CoversFew h bs (a ∷ rest) = (length (named_flags (named_behaviors a.body) h bs) < 2147483647) × CoversFew h bs rest

-- the checks of a contract, where the flags of behaviors stand in the registers from h on
abbrev pub ContractHasNumbers : ℕ → Option FunctionContract → Type 0
ContractHasNumbers h None = Unit {0}
ContractHasNumbers h (Some c) =
    AreNumbered (annotations_of (entry_checks c)) × AreNumbered (annotations_of (leave_checks c)) × CoversFew h c.behaviors c.covers

-- a definition, whose registers can be numbered, of which these stand before its own
pub record FunctionHasNumbers (p : TranslationUnit) (front : List MonType) (f : Function) : Type 0 where
  pub contract : ContractHasNumbers (first_flag f) f.contract
  pub body : BodyHasNumbers f.body
  pub few : length (all_kinds p front f f.contract) < 2 ^ 32

-- the definitions, from the index k on, where `main` has this index
abbrev pub FunctionsHaveNumbers : TranslationUnit → ℕ → ℕ → List Function → Type 0
FunctionsHaveNumbers p main k [] = Unit {0}
FunctionsHaveNumbers p main k (f ∷ rest) =
    (is_definition f ≡ true → FunctionHasNumbers p (front_temporaries p (nat_eq k main)) f)
    × FunctionsHaveNumbers p main (if is_definition f then suc k else k) rest
