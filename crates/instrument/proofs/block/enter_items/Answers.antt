use Rattle.std.proofs.Common.{◌+◌, drop, refl, sym, ap, ◌∙◌}
use Rattle.c_syntax.specs.Statements.{plain_item, plain_items}
use Rattle.c_model.specs.Meaning.{declared_in}
use Rattle.mon_syntax.specs.Trees.{plain_stmts}
use Rattle.c_effects.specs.Expressions.{before}
use Rattle.c_effects.proofs.Sequences.{left_at, none_left, all_there}
use Rattle.instrument.specs.Options.{births_by, declared_by, entering}
use Rattle.instrument.proofs.DeclarationCode.{births_then, declared_first_item, entering_then}
use Rattle.instrument.proofs.block.enter_items.Goals as goal

pub returns-clause-born : goal.returns-clause-born
returns-clause-born c = all_there (none_left (λ l. births_by c.items.names (declared_in (plain_items l))) c.args.block.now c.items.item-index c.items-test.false) c.items.invariant.born

pub returns-clause-names : goal.returns-clause-names
returns-clause-names c = sym (none_left (λ l. entering (declared_in (plain_items l)) c.items.names) c.args.block.now c.items.item-index c.items-test.false) ∙ c.items.invariant.names

pub items-preserved : goal.items-preserved
items-preserved c =
    let n = c.items.names in
    let n1 = c.enter.new.names in
    let t = plain_stmts c.items.to.items in
    let ds = declared_by (plain_item c.item-item.result) in
    let es = declared_in (plain_items (drop (c.items.item-index + 1) c.args.block.now)) in
    let left =
    left_at (λ l. declared_in (plain_items l)) c.args.block.now c.items.item-index _ _ c.items-test.true c.item-item.is refl
    ∙ declared_first_item (plain_item c.item-item.result) (plain_items (drop (c.items.item-index + 1) c.args.block.now)) in
    let names = c.in_ok-enter.ensures.names ∙ ap (λ l. entering l n) c.declared_by.ensures in
    record {
      born =
          births_then n n1 ds es names t (plain_stmts c.enter.new.to.items) (before (plain_stmts c.enter.new.to.items) (births_by n1 es))
          (c.in_ok-enter.ensures.born ∙ ap (λ l. before t (births_by n l)) c.declared_by.ensures) refl
          ∙ ap (λ l. before t (births_by n l)) (sym left) ∙ c.items.invariant.born;
      names = entering_then n n1 ds es names (entering es n1) refl ∙ ap (λ l. entering l n) (sym left) ∙ c.items.invariant.names;
    }
