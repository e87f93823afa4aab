use Rattle.std.proofs.Common.{sym, ap, ◌∙◌}
use Rattle.std.specs.Prelude.{bytes_eq, codes}
use Rattle.c_lower.proofs.Starts.{passed}
use Rattle.c_lower.proofs.program.main_entry.Goals as goal

pub loop-i-preserved : goal.loop-i-preserved
loop-i-preserved c start all =
    let f = c.index-functions-i.result in
    let before = c.loop-i.invariant start all in
    let other = ap (λ b. bytes_eq b (codes "main")) (sym c.bytes.ensures) ∙ ap (bytes_eq c.bytes.result.now) (sym c.as_slice.ensures) ∙ sym c.eq.ensures
    ∙ c.if-eq.false in
    let p = passed (codes "main") c.args.functions.now c.loop-i.i f c.args.entries.now before.0 c.loop-i-test.true c.index-functions-i.is other before.1 in
    (p.0, p.1, before.2 ∙ p.2)
