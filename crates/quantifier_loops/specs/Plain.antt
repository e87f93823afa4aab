-- Ours: plain forms.
use Rattle.mon_syntax.specs.Trees.{plain_expr}
use Rattle.quantifier_loops.specs.declared.tries.Bounds.{Bounds}
use Rattle.quantifier_loops.specs.Tries.{Between}

abbrev pub plain_bounds : Bounds → Between
plain_bounds b = record { above = b.above; kind = b.kind; least = b.least; from = plain_expr b.from; to = plain_expr b.to }
