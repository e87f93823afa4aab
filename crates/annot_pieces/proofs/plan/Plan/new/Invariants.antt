use Rattle.std.proofs.Common.{◌≡◌, ℕ, drop, nat_eq}
use Rattle.indexmap.specs.IndexMap.{get}
use Rattle.annot_simulation.specs.Held.{kept_at}
use Rattle.annot_pieces.specs.Tables.{first_of, plain_plan, register_in}
use Rattle.annot_pieces.proofs.plan.Plan.new.Given as goal

-- with those that are left each term is found
abbrev pub invariant-turn : goal.invariant-turn
invariant-turn l =
    (x : ℕ) → first_of (get nat_eq l.registers x) (register_in (kept_at x (plain_plan (drop l.entry-index l.kept)))) ≡ register_in (kept_at x (plain_plan l.kept))
