use Rattle.std.proofs.Common.{◌≡◌, ◌≤◌, drop, length, map, take}
use Rattle.c_syntax.specs.Ctypes.{plain_type}
use Rattle.c_syntax.specs.Logic.{plain_annot}
use Rattle.c_model.specs.ContractTyping.{sight_of_clause, typed_clauses}
use Rattle.c_scopes.specs.Sights.{plain_sight}
use Rattle.c_scopes.proofs.InPlace.{Unvisited}
use Rattle.c_scopes.proofs.Lists.{behind_parts}
use Rattle.annot_typing.proofs.contract.type_kinds.Given as goal

abbrev pub invariant-loop-i : goal.invariant-loop-i
invariant-loop-i l = record {
  unvisited : Unvisited l.annots.items l.initial.annots.items l.i;
  within : l.i ≤ length l.annots.items;
  typed : typed_clauses (sight_of_clause (plain_sight l.initial.sight) l.formals.list.items (plain_type l.ctype)) (map plain_annot l.initial.annots.items)
      ≡ behind_parts (map plain_annot (take l.i l.annots.items))
      (typed_clauses (sight_of_clause (plain_sight l.initial.sight) l.formals.list.items (plain_type l.ctype)) (map plain_annot (drop l.i l.initial.annots.items)));
  same : l.sight ≡ l.initial.sight;
}
