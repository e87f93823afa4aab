-- Ours: plain forms.
-- A function's names: its program, and its registers up to there.
use Rattle.std.specs.Prelude.{List}
use Rattle.c_syntax.specs.Programs.{TranslationUnit, plain_program}
use Rattle.mon_syntax.specs.declared.tree.MonType.{MonType}
use Rattle.mon_syntax.specs.Registers.{Names, with_kinds, with_table}

-- with further registers of these types
abbrev pub with_registers : List MonType → Names → Names
with_registers ts n = with_table (with_kinds ts n.table) n

abbrev pub unit_of : Names → TranslationUnit
unit_of n = plain_program n.program
