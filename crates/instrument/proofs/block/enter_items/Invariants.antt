use Rattle.std.proofs.Common.{◌≡◌, drop}
use Rattle.c_syntax.specs.Statements.{plain_items}
use Rattle.c_model.specs.Meaning.{declared_in}
use Rattle.mon_syntax.specs.Trees.{plain_stmts}
use Rattle.c_effects.specs.Expressions.{before}
use Rattle.instrument.specs.Options.{births_by, entering}
use Rattle.instrument.proofs.block.enter_items.Given as goal

abbrev pub invariant-items : goal.invariant-items
invariant-items l = record {
  born : before (plain_stmts l.to.items) (births_by l.names (declared_in (plain_items (drop l.item-index l.block)))) ≡ before (plain_stmts l.initial.to.items) (births_by l.initial.names (declared_in (plain_items l.block)));
  names : entering (declared_in (plain_items (drop l.item-index l.block))) l.names ≡ entering (declared_in (plain_items l.block)) l.initial.names;
}
