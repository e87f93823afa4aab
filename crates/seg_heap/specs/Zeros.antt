-- Ours: how the numbers of a segment's units are kept.
-- Numbers of which only the first were ever written.
use Rattle.std.specs.Prelude.{ℕ, ◌-◌, List, ◌++◌, length, replicate}

-- These numbers first, and then zeros, up to so many in all.
abbrev pub zeros_to : ℕ → List ℕ → List ℕ
zeros_to len numbers = numbers ++ replicate (len - length numbers) 0
