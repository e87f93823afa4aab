use Rattle.std.proofs.Common.{◌≡◌, ◌++◌, map, drop}
use Rattle.c_syntax.specs.Logic.{plain_annot}
use Rattle.c_model.specs.ContractChecks.{of_kind}
use Rattle.behavior_split.specs.Checks.{is_kind, plain_clause}
use Rattle.behavior_split.proofs.order.add.Given as goal

-- with those that are left it comes to all
abbrev pub invariant-loop-annot : goal.invariant-loop-annot
invariant-loop-annot l =
    map plain_clause l.into.items ++ of_kind (is_kind l.kind) l.behavior (map plain_annot (drop l.annot-index l.annots))
    ≡ map plain_clause l.initial.into.items ++ of_kind (is_kind l.kind) l.behavior (map plain_annot l.annots)
