use Rattle.std.proofs.Common.{◌≡◌, ◌<◌, length, map}
use Rattle.c_syntax.specs.Programs.{plain_layout, plain_member}
use Rattle.c_model.specs.DeclarationTyping.{placed_from}
use Rattle.c_declaration_rules.specs.OpenStructs.{AreSized}
use Rattle.c_declaration_rules.proofs.layout.check_places.Given as goal

abbrev pub invariant-turn : goal.invariant-turn
invariant-turn l = record {
  placed : placed_from (map plain_layout l.structs) l.end (map plain_member l.rest) ≡ map plain_member l.rest
      → placed_from (map plain_layout l.structs) 0 (map plain_member l.members) ≡ map plain_member l.members;
  sized : AreSized (map plain_layout l.structs) (map plain_member l.rest) → AreSized (map plain_layout l.structs) (map plain_member l.members);
  small : l.end < 17179869184;
}

abbrev pub decreases-turn : goal.decreases-turn
decreases-turn l = length l.rest
