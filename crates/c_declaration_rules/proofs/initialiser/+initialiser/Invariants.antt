use Rattle.std.proofs.Common.{◌≤◌, length, take}
use Rattle.c_syntax.specs.Ctypes.{plain_type}
use Rattle.c_syntax.specs.Statements.{plain_inits}
use Rattle.c_model.specs.DeclarationTyping.{slots_of, typed_items}
use Rattle.c_scopes.specs.Answers.{Answers}
use Rattle.c_scopes.specs.Sights.{plain_sight}
use Rattle.c_declaration_rules.specs.Initialisers.{allowed}
use Rattle.c_declaration_rules.proofs.Items.{SlotsBehind, slots_at}
use Rattle.c_declaration_rules.proofs.initialiser.+initialiser.Given as goal

abbrev pub invariant-type_items-loop-i : goal.invariant-type_items-loop-i
invariant-type_items-loop-i l = record {
  unvisited : goal.unvisited-type_items-loop-i l;
  within : l.i ≤ length l.items.items;
  slots : SlotsBehind (take l.i l.initial.items.items) (slots_of (plain_sight l.sight) (plain_type l.t)) (slots_at (plain_sight l.sight) (plain_type l.t) l.i);
  done : Answers (λ u. plain_inits (take l.i l.items.items)) (typed_items (plain_sight l.sight) (allowed (plain_sight l.sight) l.global)
      (slots_of (plain_sight l.sight) (plain_type l.t)) (plain_inits (take l.i l.initial.items.items))) l.done;
}
