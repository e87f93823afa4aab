use Rattle.std.proofs.Common.{◌≡◌, ℕ, ◌++◌, drop, map}
use Rattle.c_syntax.specs.declared.place.Place.{Place}
use Rattle.c_syntax.specs.Programs.{plain_behavior}
use Rattle.annot_simulation.specs.ContractCode.{flag_named}
use Rattle.annot_code.proofs.flags.Flags.each.Given as goal

-- with those that are left they are the flags of all names
abbrev pub invariant-turn : goal.invariant-turn
invariant-turn l =
    l.flags.items ++ map (λ (n : Place × ℕ). flag_named n.1 l.self.first (map plain_behavior l.self.behaviors.now)) (drop l.name-index l.names)
    ≡ map (λ (n : Place × ℕ). flag_named n.1 l.self.first (map plain_behavior l.self.behaviors.now)) l.names
