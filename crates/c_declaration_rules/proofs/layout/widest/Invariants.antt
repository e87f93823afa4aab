use Rattle.std.proofs.Common.{◌≡◌, ◌≤◌, length, map}
use Rattle.c_syntax.specs.Programs.{plain_layout, plain_member}
use Rattle.c_model.specs.DeclarationTyping.{greater, widest}
use Rattle.c_declaration_rules.proofs.layout.widest.Given as goal

abbrev pub invariant-turn : goal.invariant-turn
invariant-turn l = record {
  most : greater l.align (widest (map plain_layout l.structs) (map plain_member l.rest)) ≡ widest (map plain_layout l.structs) (map plain_member l.members);
  some : 1 ≤ l.align;
}

abbrev pub decreases-turn : goal.decreases-turn
decreases-turn l = length l.rest
