-- What clauses and checks mean: a check of the contract's order, with its annotation or with the number of it.
use Rattle.std.specs.Prelude.{ℕ, Bool, false, Option}
use Rattle.c_syntax.specs.declared.annotation.Kind.{Kind}
use Rattle.c_syntax.specs.declared.annotation.Kind.TheVariants.{Assert, Requires, Assumes, Ensures, Complete, Disjoint}
use Rattle.c_syntax.specs.Logic.{plain_annot}
use Rattle.c_model.specs.ContractChecks as contract
use Rattle.c_model.specs.ContractChecks.{is_requires, is_assumes, is_ensures, is_complete, is_disjoint}
use Rattle.behavior_split.specs.declared.check.Clause.{Clause}
use Rattle.behavior_split.specs.declared.check.Check.{Check}

-- whether clauses are of a kind of contracts
abbrev pub is_kind : Kind → Kind → Bool
is_kind Requires k = is_requires k
is_kind Assumes k = is_assumes k
is_kind Ensures k = is_ensures k
is_kind Complete k = is_complete k
is_kind Disjoint k = is_disjoint k
is_kind _ k = false

abbrev pub plain_clause : Clause → contract.Check
plain_clause c = record { annotation = plain_annot c.annot.now; behavior = c.behavior }

-- a check by the number of its annotation
pub record Numbered : Type 0 where
  pub number : ℕ
  pub behavior : Option ℕ

abbrev pub numbered : contract.Check → Numbered
numbered c = record { number = c.annotation.number; behavior = c.behavior }

abbrev pub plain_check : Check → Numbered
plain_check c = record { number = c.annot; behavior = c.behavior }
