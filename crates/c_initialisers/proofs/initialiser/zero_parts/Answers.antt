use Rattle.std.proofs.Common.{map, ap, sym, ◌∙◌}
use Rattle.c_syntax.specs.Ctypes.{plain_type}
use Rattle.c_syntax.specs.Programs.{plain_layout}
use Rattle.mon_syntax.specs.Trees.{plain_stmts}
use Rattle.c_effects.specs.Expressions.{before}
use Rattle.c_initialisers.specs.Initialisers.{plain_parts}
use Rattle.c_effects.proofs.Trees.{on_ok_then}
use Rattle.c_initialisers.proofs.PartRuns.{no_parts, parts_turn}
use Rattle.c_initialisers.proofs.initialiser.zero_parts.Goals as goal

pub parts-preserved : goal.parts-preserved
parts-preserved c =
    let s = c.args.slot in
    let ss = map plain_layout c.args.layouts.now in
    let first = rw c.in-Some.is at c.first.ensures in
    parts_turn ss (record { object = s.object; pointer = s.pointer; offset = c.in_ok-offset.offset }) s.offset c.parts.row _ (plain_parts c.parts.left) _ (c.in-Some.distance, plain_type c.in-Some.t.now)
    (plain_stmts c.parts.to.items) (plain_stmts c.zero_scalars.new.to.items) first c.in_ok-offset.ensures c.in_ok-row.ensures.row c.in_ok-row.ensures.code c.in_ok-left.ensures c.parts.invariant

pub returns : goal.returns
returns c =
    let s = c.args.slot in
    let ss = map plain_layout c.args.layouts.now in
    let none = rw c.in_default.is at c.first.ensures in
    on_ok_then c.zeros_in.result (λ last. last
    ∙ ap (before (plain_stmts c.parts.to.items)) (sym (no_parts ss s.object s.pointer s.offset c.parts.row.start c.parts.row.count (plain_parts c.parts.left) none))
    ∙ c.parts.invariant) c.zeros_in.ensures
