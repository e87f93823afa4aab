-- A value in a part of an object.
use Rattle.mon_syntax.specs.declared.tree.MonType.{MonType}
use Rattle.mon_syntax.specs.Trees.{MonExpression, MonStatements}
use Rattle.c_effects.specs.declared.slot.Slot.{Slot}
use Rattle.c_effects.specs.Effects.{stored_at}

abbrev pub stored_in : Slot → MonType → MonExpression → MonStatements
stored_in s t e = stored_at s.object s.pointer s.offset t e
