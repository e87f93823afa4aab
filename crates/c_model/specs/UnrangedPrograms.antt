-- Ours: the inference of ranges changes nothing of a program but the ranges of its annotations.
-- Statements, functions and files (C99 6.8, 6.9) without those ranges.
use Rattle.std.specs.Prelude.{◌≡◌, ℕ, List, [], ◌∷◌, map, Option, Some, None, option_map}
use Rattle.c_syntax.specs.Statements.{Statement, Empty, Eval, Block, If, While, Do, For, Break, Continue, Return, Labelled, ElsePart, NoElse, Else, Switch}
use Rattle.c_syntax.specs.Statements.{Cases, NoCase, AnotherCase}
use Rattle.c_syntax.specs.Statements.{BlockItem, Declare, Specify, Run, Asserts, BlockItems, NoItem, Then}
use Rattle.c_syntax.specs.Programs.{NamedBehavior, FunctionContract, Function, TranslationUnit}
use Rattle.c_model.specs.Checked.{Good}
use Rattle.c_model.specs.State.{Input}
use Rattle.c_model.specs.Meaning.{run}
use Rattle.c_model.specs.AcceptedPrograms.{IsProgram}
use Rattle.c_model.specs.TermRanges.{Seen}
use Rattle.c_model.specs.AnnotationRanges.{seen_result, ranged_unit}
use Rattle.c_model.specs.Unranged.{unranged_annotations, AnnotationsRanged}

abbrev mutual
  pub unranged_statement : Statement → Statement
  unranged_statement (Empty at) = Empty at
  unranged_statement (Eval at e) = Eval at e
  unranged_statement (Block at items) = Block at (unranged_items items)
  unranged_statement (If at e a b) = If at e (unranged_statement a) (unranged_else b)
  unranged_statement (While at annots e a) = While at (unranged_annotations annots) e (unranged_statement a)
  unranged_statement (Do at a e) = Do at (unranged_statement a) e
  unranged_statement (For at annots first e step a) = For at (unranged_annotations annots) first e step (unranged_statement a)
  unranged_statement (Break at) = Break at
  unranged_statement (Continue at) = Continue at
  unranged_statement (Return at e) = Return at e
  unranged_statement (Labelled at l a) = Labelled at l (unranged_statement a)
  unranged_statement (Switch at e cases) = Switch at e (unranged_cases cases)

  pub unranged_cases : Cases → Cases
  unranged_cases NoCase = NoCase
  unranged_cases (AnotherCase at v items rest) = AnotherCase at v (unranged_items items) (unranged_cases rest)

  pub unranged_else : ElsePart → ElsePart
  unranged_else NoElse = NoElse
  unranged_else (Else a) = Else (unranged_statement a)

  pub unranged_item : BlockItem → BlockItem
  unranged_item (Declare ds) = Declare ds
  unranged_item (Specify at t) = Specify at t
  unranged_item (Run a) = Run (unranged_statement a)
  unranged_item (Asserts annots) = Asserts (unranged_annotations annots)

  pub unranged_items : BlockItems → BlockItems
  unranged_items NoItem = NoItem
  unranged_items (Then i rest) = Then (unranged_item i) (unranged_items rest)

abbrev pub unranged_behavior : NamedBehavior → NamedBehavior
unranged_behavior b = record b { clauses = unranged_annotations b.clauses }

abbrev pub unranged_contract : FunctionContract → FunctionContract
unranged_contract c = record {
  place = c.place;
  clauses = unranged_annotations c.clauses;
  behaviors = map unranged_behavior c.behaviors;
  covers = unranged_annotations c.covers;
}

abbrev pub unranged_function : Function → Function
unranged_function f = record f { contract = option_map unranged_contract f.contract; body = option_map unranged_statement f.body }

abbrev pub unranged_unit : TranslationUnit → TranslationUnit
unranged_unit p = record p { funcs = map unranged_function p.funcs }

-- ---- each annotation that the inference meets keeps its ranges

abbrev mutual
  pub StatementRanged : Statement → Type 0
  StatementRanged (Empty at) = Unit {0}
  StatementRanged (Eval at e) = Unit {0}
  StatementRanged (Block at items) = ItemsRanged items
  StatementRanged (If at e a b) = StatementRanged a × ElseRanged b
  StatementRanged (While at annots e a) = AnnotationsRanged [] annots × StatementRanged a
  StatementRanged (Do at a e) = StatementRanged a
  StatementRanged (For at annots first e step a) = AnnotationsRanged [] annots × StatementRanged a
  StatementRanged (Break at) = Unit {0}
  StatementRanged (Continue at) = Unit {0}
  StatementRanged (Return at e) = Unit {0}
  StatementRanged (Labelled at l a) = StatementRanged a
  StatementRanged (Switch at e cases) = CasesRanged cases

  pub CasesRanged : Cases → Type 0
  CasesRanged NoCase = Unit {0}
  CasesRanged (AnotherCase at v items rest) = ItemsRanged items × CasesRanged rest

  pub ElseRanged : ElsePart → Type 0
  ElseRanged NoElse = Unit {0}
  ElseRanged (Else a) = StatementRanged a

  pub ItemRanged : BlockItem → Type 0
  ItemRanged (Declare ds) = Unit {0}
  ItemRanged (Specify at t) = Unit {0}
  ItemRanged (Run a) = StatementRanged a
  ItemRanged (Asserts annots) = AnnotationsRanged [] annots

  pub ItemsRanged : BlockItems → Type 0
  ItemsRanged NoItem = Unit {0}
  ItemsRanged (Then i rest) = ItemRanged i × ItemsRanged rest

abbrev pub BodyRanged : Option Statement → Type 0
BodyRanged None = Unit {0}
BodyRanged (Some a) = StatementRanged a

abbrev pub BehaviorsRanged : Seen → List NamedBehavior → Type 0
BehaviorsRanged seen [] = Unit {0}
BehaviorsRanged seen (b ∷ bs) = AnnotationsRanged seen b.clauses × BehaviorsRanged seen bs

abbrev pub ContractRanged : Seen → Option FunctionContract → Type 0
ContractRanged seen None = Unit {0}
ContractRanged seen (Some c) = AnnotationsRanged seen c.clauses × BehaviorsRanged seen c.behaviors

abbrev pub FunctionRanged : Function → Type 0
FunctionRanged f = ContractRanged (seen_result f.result) f.contract × BodyRanged f.body

abbrev pub FunctionsRanged : List Function → Type 0
FunctionsRanged [] = Unit {0}
FunctionsRanged (f ∷ fs) = FunctionRanged f × FunctionsRanged fs

-- ---- the laws

-- the second program is the first one with ranges, each of which is right
pub record IsRangedUnit (p q : TranslationUnit) : Type 0 where
  pub ranged : FunctionsRanged q.funcs
  pub same : unranged_unit q ≡ unranged_unit p

abbrev pub RangingKeepsUnits : Type 0
RangingKeepsUnits = (p q : TranslationUnit) → ranged_unit p ≡ Good q → IsRangedUnit p q

-- what is known of each accepted program is known of it with ranges too
abbrev pub RangedProgramsArePrograms : Type 0
RangedProgramsArePrograms = (p q : TranslationUnit) → ranged_unit p ≡ Good q → IsProgram p → IsProgram q

-- a program means the same with ranges
abbrev pub RangesKeepRuns : Type 0
RangesKeepRuns = (p q : TranslationUnit) → ranged_unit p ≡ Good q → (input : Input) (n : ℕ) → run q input n ≡ run p input n
