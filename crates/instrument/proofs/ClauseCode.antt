-- The code of a variant's value.
use Rattle.std.proofs.Common.{◌≡◌, ℕ, pos, ap, ◌∙◌}
use Rattle.c_syntax.specs.Logic.{Annotation}
use Rattle.mon_syntax.specs.declared.tree.MonType.TheVariants.{I32}
use Rattle.mon_syntax.specs.Trees.{MonExpression, MonStatement, MonStatements, Register, Constant, Assert}
use Rattle.c_effects.specs.Expressions.{before, one}
use Rattle.c_effects.proofs.Sequences.{before_assoc}
use Rattle.annot_simulation.specs.Code.{Valuation}
use Rattle.instrument.specs.LoopClauses.{wanted}

-- the statements of a value, and then the assertion that it is there
pub wanted_code : (t t1 t2 s : MonStatements) (f truth : MonExpression) (flag : ℕ) (x : MonStatement) (a : Annotation) (v : Valuation) → t1 ≡ before t s → f ≡ Register flag → truth ≡ Constant I32 (pos 1)
    → x ≡ Assert f truth a.number a.place.line a.kind → t2 ≡ before t1 (one x) → s ≡ v.stmts → flag ≡ v.flag → t2 ≡ before t (wanted a v)
wanted_code t t1 t2 s f truth flag x a v first f_is truth_is x_is last s_is flag_is =
    let whole = x_is ∙ ap (λ y. Assert y truth a.number a.place.line a.kind) (f_is ∙ ap Register flag_is) ∙ ap (λ y. Assert (Register v.flag) y a.number a.place.line a.kind) truth_is in
    last ∙ ap (λ z. before z (one x)) first ∙ before_assoc t s (one x) ∙ ap (λ z. before t (before z (one x))) s_is ∙ ap (λ y. before t (before v.stmts (one y))) whole
