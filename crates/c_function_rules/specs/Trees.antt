-- Ours: plain forms of parts of the trees of C99 6.8.
-- Parts of trees, without boxes and vectors.
use Rattle.std.specs.Prelude.{Option, Some, None}
use Rattle.c_syntax.specs.declared.statement.Item.{Item}
use Rattle.c_syntax.specs.Ctypes.{plain_type}
use Rattle.c_syntax.specs.Statements.{ForFirst, NoFirst, First, plain_item}
use Rattle.c_model.specs.StatementTyping as plain
use Rattle.c_function_rules.specs.declared.statement.Around.{Around}

abbrev pub plain_for_first : Option Item → ForFirst
plain_for_first None = NoFirst
plain_for_first (Some i) = First (plain_item i)

abbrev pub plain_around : Around → plain.Around
plain_around r = record { result = plain_type r.result.now; breaks = r.breaks; loops = r.loops }
