-- What is so at each label, at each assert and at the annotations of each loop of a statement, by what is in sight there.
use Rattle.std.proofs.Common.{ℕ, List}
use Rattle.c_syntax.specs.Logic.{Annotation}
use Rattle.c_syntax.specs.Statements.{Statement, Block, If, While, Do, For, Labelled, Switch, Cases, NoCase, AnotherCase, ElsePart, NoElse, Else, BlockItem, Run, Asserts, BlockItems, NoItem, Then}
use Rattle.c_model.specs.ExpressionTyping.{Sight, inner}
use Rattle.c_model.specs.StatementTyping.{behind, behind_first}

module _ (AtLabel : ℕ → Sight → Type 0) (AtAsserts : Sight → List Annotation → Type 0) where
  abbrev mutual
    pub Throughout : Sight → Statement → Type 0
    Throughout s (Block at items) = ThroughoutItems (inner s) items
    Throughout s (If at e a b) = Throughout s a × ThroughoutElse s b
    Throughout s (While at annots e a) = AtAsserts s annots × Throughout s a
    Throughout s (Do at a e) = Throughout s a
    Throughout s (For at annots first e step a) = AtAsserts (behind_first (inner s) first) annots × Throughout (behind_first (inner s) first) a
    Throughout s (Labelled at l a) = AtLabel l s × Throughout s a
    Throughout s (Switch at e cases) = ThroughoutCases s cases
    Throughout s _ = Unit {0}

    pub ThroughoutCases : Sight → Cases → Type 0
    ThroughoutCases s NoCase = Unit {0}
    ThroughoutCases s (AnotherCase at v items rest) = ThroughoutItems s items × ThroughoutCases s rest

    pub ThroughoutElse : Sight → ElsePart → Type 0
    ThroughoutElse s NoElse = Unit {0}
    ThroughoutElse s (Else a) = Throughout s a

    pub ThroughoutItem : Sight → BlockItem → Type 0
    ThroughoutItem s (Run a) = Throughout s a
    ThroughoutItem s (Asserts annots) = AtAsserts s annots
    ThroughoutItem s _ = Unit {0}

    pub ThroughoutItems : Sight → BlockItems → Type 0
    ThroughoutItems s NoItem = Unit {0}
    ThroughoutItems s (Then i rest) = ThroughoutItem s i × ThroughoutItems (behind s i) rest
