use Rattle.std.proofs.Common.{◌≡◌, ℕ, drop, map}
use Rattle.std.specs.Prelude.{codes}
use Rattle.mon_syntax.specs.Trees.{plain_func}
use Rattle.c_lower.specs.Code.{entries_from, entry_named}
use Rattle.c_lower.proofs.program.main_entry.Given as goal

-- no function before this one is `main`
abbrev pub invariant-loop-i : goal.invariant-loop-i
invariant-loop-i l =
    (start : ℕ) → l.entries ≡ entries_from start (map plain_func l.functions)
    → (here : ℕ) × (drop l.i l.entries ≡ entries_from here (map plain_func (drop l.i l.functions)))
    × (entry_named (codes "main") start (map plain_func l.functions) ≡ entry_named (codes "main") here (map plain_func (drop l.i l.functions)))
