-- Ours: where string literals stand (C99 6.4.5).
use Rattle.std.specs.Prelude.{ℕ}
use Rattle.c_syntax.specs.declared.program.Text.{Text}

abbrev pub offset_of_literal : Text → ℕ
offset_of_literal t = t.place.offset
