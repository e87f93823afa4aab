-- What is proved of the code of predicates, where it is made after a function's names.
use Rattle.std.proofs.Common.{◌≡◌, ◌≤◌, List, [], length, option_map, Result, IfOk, sym, ◌∙◌, subst}
use Rattle.std.proofs.lemmas.Result.{IfOk-weaker}
use Rattle.c_syntax.specs.Logic.{Predicate}
use Rattle.c_model.specs.Predicates.{pred}
use Rattle.mon_syntax.specs.declared.tree.MonType.{MonType}
use Rattle.mon_syntax.specs.Registers.{Names}
use Rattle.mon_syntax.specs.Trees.{plain_expr}
use Rattle.c_effects.specs.Named.{unit_of}
use Rattle.annot_code.specs.declared.judge.Judged as code
use Rattle.annot_pieces.specs.declared.piece.Code as declared
use Rattle.annot_simulation.specs.Code.{Judgement, judged_with, judgement}
use Rattle.annot_simulation.specs.Does.{Judges}
use Rattle.annot_code.specs.Judged.{IsValidIn, JudgesIn, judgement_of}
use Rattle.annot_pieces.specs.Plain.{Known, code_of, judgement_by, known_with, pred_by}
use Rattle.annot_simulation.specs.Inside.{AreInside}
use Rattle.annot_simulation.proofs.Inside.{judgement_inside}
use Rattle.annot_simulation.proofs.Outcomes.{code_judges}
use Rattle.annot_simulation.proofs.ValidCode.{code_is_valid}

judges_in : (n : Names) (q : Predicate) (k : Known) → JudgesIn n k.plan k.held q (judgement_by n q k)
judges_in n q k w unit bound plan held stands holds ranged found enough low few =
    let same : judgement w.unit w.bound w.plan w.held q n.table.kinds ≡ judgement_by n q k = λ i. judgement (unit i) (bound i) (plan i) (held i) q n.table.kinds in
    subst (λ z. length z.used ≤ length w.regs → Judges w n.table.kinds z (pred q w.now w.names w.target.steps)) same (code_judges w q n.table.kinds stands holds ranged found enough low) few

valid_in : (n : Names) (q : Predicate) (k : Known) → IsValidIn n k.plan k.held q (judgement_by n q k)
valid_in n q k seen globals gs ts result ls ranged counted typed out writable few begins =
    code_is_valid (unit_of n) n.table.bound k.plan k.held seen globals gs ts result ls q n.table.kinds ranged counted typed out writable few begins

module _ {E : Type 0} (r : Result code.Judged E) (ks : List MonType) (n : Names) (q : Predicate) (k : Known) where
  pub of_judgement :
      (x : declared.Code) (k1 : List MonType) (known : Known) → known ≡ known_with [] k → code_of x k1 ≡ pred_by n q known
      → IfOk r (λ j. judgement_of j ks ≡ judged_with (option_map plain_expr x.flag) (code_of x k1)) → IfOk r (λ j. judgement_of j ks ≡ judgement_by n q k)
  of_judgement x k1 known none part made =
      IfOk-weaker r (λ j. judgement_of j ks ≡ judged_with (option_map plain_expr x.flag) (code_of x k1)) (λ j. judgement_of j ks ≡ judgement_by n q k)
      (λ j h. h ∙ (λ i. judged_with (part i).flag (part i)) ∙ (λ i. judged_with (pred_by n q (none i)).flag (pred_by n q (none i)))) made

  pub of_judges : IfOk r (λ j. judgement_of j ks ≡ judgement_by n q k) → IfOk r (λ j. JudgesIn n k.plan k.held q (judgement_of j ks))
  of_judges made =
      IfOk-weaker r (λ j. judgement_of j ks ≡ judgement_by n q k) (λ j. JudgesIn n k.plan k.held q (judgement_of j ks)) (λ j h. subst (JudgesIn n k.plan k.held q) (sym h) (judges_in n q k)) made

  pub of_valid : IfOk r (λ j. judgement_of j ks ≡ judgement_by n q k) → IfOk r (λ j. IsValidIn n k.plan k.held q (judgement_of j ks))
  of_valid made =
      IfOk-weaker r (λ j. judgement_of j ks ≡ judgement_by n q k) (λ j. IsValidIn n k.plan k.held q (judgement_of j ks)) (λ j h. subst (IsValidIn n k.plan k.held q) (sym h) (valid_in n q k)) made

pub of_inside :
    {E : Type 0} (r : Result code.Judged E) (ks : List MonType) (n : Names) (q : Predicate) (k : Known) → IfOk r (λ j. judgement_of j ks ≡ judgement_by n q k)
    → IfOk r (λ j. AreInside (judgement_of j ks).stmts)
of_inside r ks n q k made =
    IfOk-weaker r (λ j. judgement_of j ks ≡ judgement_by n q k) (λ j. AreInside (judgement_of j ks).stmts)
    (λ j h. subst (λ (z : Judgement). AreInside z.stmts) (sym h) (judgement_inside (unit_of n) n.table.bound k.plan k.held q n.table.kinds)) made
