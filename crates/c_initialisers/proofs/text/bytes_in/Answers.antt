use Rattle.std.proofs.Common.{◌-◌, ap, sym, ◌∙◌}
use Rattle.mon_syntax.specs.Trees.{plain_stmts}
use Rattle.c_effects.specs.Expressions.{before}
use Rattle.c_initialisers.specs.Translation.{bytes_at}
use Rattle.c_effects.proofs.Sequences.{more}
use Rattle.c_effects.proofs.Trees.{on_ok_then}
use Rattle.c_initialisers.proofs.InitialiserTrees.{bytes_more, no_byte}
use Rattle.c_initialisers.proofs.text.bytes_in.Goals as goal

pub returns : goal.returns
returns c =
    let s = c.args.slot in
    let none = rw c.in_default.is at c.next_byte.ensures in
    on_ok_then c.zeros_in.result (λ last. last ∙ ap (before (plain_stmts c.bytes.to.items)) (sym (no_byte s.object s.pointer c.bytes.offset c.bytes.left c.bytes.rest.now none)) ∙ c.bytes.invariant) c.zeros_in.ensures

pub bytes-preserved : goal.bytes-preserved
bytes-preserved c =
    let s = c.args.slot in
    let some = rw c.in-Some.is at c.next_byte.ensures in
    let t = plain_stmts c.bytes.to.items in
    let t1 = plain_stmts c.number_in.new.to.items in
    let after = c.in-Some.after.now in
    ap (λ d. before t1 (bytes_at s.object s.pointer d (c.bytes.left - 1) after)) c.in_ok-offset.ensures
    ∙ more t _ _ (bytes_more s.object s.pointer c.bytes.offset c.bytes.left c.bytes.rest.now c.in-Some.byte after some) c.in_ok-number_in.ensures c.bytes.invariant
