use Rattle.std.proofs.Common.{◌≡◌, ℕ, suc, ◌+◌, ◌*◌, ◌∷◌, replicate, ap, ◌∙◌, arith}
use Rattle.c_printer.specs.Depths.{depth_of}
use Rattle.c_printer.proofs.Written.{nothing, then, shown}
use Rattle.c_printer.proofs.line.+indent.Goals as goal

pub returns-in-Top : goal.returns-in-Top
returns-in-Top g t c = shown (ap (λ d. replicate (2 * depth_of d) 32) c.in-Top.is) (nothing _)

two_more : (n : ℕ) → replicate {A = ℕ} (2 * (n + 1)) 32 ≡ 32 ∷ 32 ∷ replicate (2 * n) 32
two_more n =
    let count : 2 * (n + 1) ≡ suc (suc (2 * n)) = omega arith in
    ap (λ k. replicate {A = ℕ} k 32) count

pub returns-in-Inside : goal.returns-in-Inside
returns-in-Inside g t c =
    shown (ap (λ d. replicate (2 * depth_of d) 32) c.in-Inside.is ∙ two_more (depth_of c.in-Inside.outer.now)) (then c.write.ensures c.indent.ensures)
