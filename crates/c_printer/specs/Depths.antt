-- Ours: the plain form of what the printer carries along.
-- How many bodies are around a printed line.
use Rattle.std.specs.Prelude.{ℕ, ◌+◌}
use Rattle.c_printer.specs.declared.line.Depth.{Depth, Top, Inside'}

abbrev pub depth_of : Depth → ℕ
depth_of Top = 0
depth_of (Inside' p outer) = depth_of outer + 1
