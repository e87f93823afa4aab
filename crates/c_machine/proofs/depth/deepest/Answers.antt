use Rattle.std.proofs.Common.{◌≡◌, ◌≤◌, ◌<◌, ℕ, ◌+◌, take, Some, pos, get_or, ⊎_elim, sym, ap, ◌∙◌, arith}
use Rattle.std.proofs.lemmas.Bool.{cases_lt}
use Rattle.std.proofs.lemmas.Bool.Decides.{nat_tests}
use Rattle.std.specs.Prelude.{slice_get}
use Rattle.std.proofs.lemmas.Option.{same_Some, slice_get-get_or}
use Rattle.std.proofs.lemmas.List.{take_more}
use Rattle.c_lower.specs.declared.code.Instr.TheVariants as instr
use Rattle.c_lower.specs.Sound.{operands_behind}
use Rattle.c_machine.proofs.Depths.{behind_more}
use Rattle.c_machine.proofs.depth.deepest.Goals as goal

pub loop-instr-preserved : goal.loop-instr-preserved
loop-instr-preserved c =
    let h = c.loop-instr.invariant in
    let at = c.loop-instr.instr-index in
    let code = c.args.code.now in
    let none = instr.Push (pos 0) in
    let grows : c.loop-instr.most ≤ c.max-most.result = grind (arith, nat_tests, c.max-most.ensures) in
    let covers : c.behind-count.result ≤ c.max-most.result = grind (arith, nat_tests, c.max-most.ensures) in
    let exact : (k : ℕ) → operands_behind 0 (take (at + 1) code) ≡ Some k → k ≡ c.behind-count.result = λ k e.
    let b = behind_more 0 (take at code) (get_or code at none) k (sym (ap (operands_behind 0) (take_more code at none c.loop-instr-test.true)) ∙ e) in
    let same = h.exact b.0 b.1.0 in
    omega (arith, b.1.1, b.1.2, same, c.behind-count.ensures.exact (omega (arith, b.1.1, same))) in
    record {
      small = omega (arith, h.small, c.behind-count.ensures.most);
      exact = exact;
      short = λ p z lt e.
          ⊎_elim
          (λ (before : p < at). h.short p z before e)
          (λ (here : at ≤ p). let same : p ≡ at = omega arith in c.pushes_short.ensures z (same_Some _ _ (sym (slice_get-get_or code at none c.loop-instr-test.true) ∙ ap (slice_get code) (sym same) ∙ e)))
          (cases_lt p at);
      most = λ p k le e.
          ⊎_elim
          (λ (last : at < p). let same : p ≡ at + 1 = omega arith in omega (arith, covers, exact k (ap (λ i. operands_behind 0 (take i code)) (sym same) ∙ e)))
          (λ (before : p ≤ at). omega (arith, grows, h.most p k before e))
          (cases_lt at p);
    }
