-- Ours: terms and predicates of annotations (ACSL 2.2) over integers and variables alone, without pointers, quantifiers, labels, and names of their own.
use Rattle.c_syntax.specs.Logic.{LogicTerm, Number, Letter, Variable, Unary, Binary, Cast, Choice, Links, NoLink, Linked}
use Rattle.c_syntax.specs.Logic.{Predicate, Truth, NonZero, Chain, Not, Connected, Branch}

abbrev mutual
  pub IsBasicTerm : LogicTerm → Type 0
  IsBasicTerm (Number at t r n) = Unit {0}
  IsBasicTerm (Letter at t r n) = Unit {0}
  IsBasicTerm (Variable at t r x) = Unit {0}
  IsBasicTerm (Unary at t r op a) = IsBasicTerm a
  IsBasicTerm (Binary at t r op a b) = IsBasicTerm a × IsBasicTerm b
  IsBasicTerm (Cast at t r to a) = IsBasicTerm a
  IsBasicTerm (Choice at t r c a b) = IsBasicPredicate c × IsBasicTerm a × IsBasicTerm b
  IsBasicTerm _ = ⊥

  pub AreBasicLinks : Links → Type 0
  AreBasicLinks NoLink = Unit {0}
  AreBasicLinks (Linked at r t rest) = IsBasicTerm t × AreBasicLinks rest

  pub IsBasicPredicate : Predicate → Type 0
  IsBasicPredicate (Truth at b) = Unit {0}
  IsBasicPredicate (NonZero at t) = IsBasicTerm t
  IsBasicPredicate (Chain at t links) = IsBasicTerm t × AreBasicLinks links
  IsBasicPredicate (Not at p) = IsBasicPredicate p
  IsBasicPredicate (Connected at c p q) = IsBasicPredicate p × IsBasicPredicate q
  IsBasicPredicate (Branch at c p q) = IsBasicPredicate c × IsBasicPredicate p × IsBasicPredicate q
  IsBasicPredicate _ = ⊥
