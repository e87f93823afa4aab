-- The code of an operator and of a choice as the program writes it, from the code of its parts.
use Rattle.std.proofs.Common.{◌≡◌, List, [], ◌++◌, None, Result, IfOk, ap, ◌∙◌}
use Rattle.std.proofs.lemmas.Result.{IfOk-weaker}
use Rattle.c_syntax.specs.declared.annotation.Range.{Range}
use Rattle.c_syntax.specs.declared.expression.BinOp.{BinOp}
use Rattle.c_syntax.specs.declared.place.Place.{Place}
use Rattle.c_syntax.specs.Logic.{LogicTerm, Predicate, range_of}
use Rattle.c_syntax.specs.Logic as logic
use Rattle.c_model.specs.Ranges.{width_of_range}
use Rattle.mon_syntax.specs.declared.tree.MonType.{MonType}
use Rattle.mon_syntax.specs.Registers.{Names}
use Rattle.mon_syntax.specs.Trees.{plain_expr}
use Rattle.c_effects.specs.Expressions.{in_type}
use Rattle.c_effects.specs.Named.{unit_of}
use Rattle.annot_pieces.specs.declared.piece.Code as declared
use Rattle.annot_pieces.specs.declared.value.OperationTypes.{OperationTypes}
use Rattle.annot_simulation.specs.Code.{Code, binary_value, branch, is_total, operated, sure_readings, term_code, type_of, type_of_width, with_value}
use Rattle.annot_pieces.specs.Plain.{Known, code_of, known_with, pred_by, term_by, types_of}
use Rattle.annot_pieces.proofs.Arms.{next_part, operated_first}

module _ {E : Type 0} (r : Result declared.Code E) (ks : List MonType) where
  -- the same code, by another name
  moved : (X Y : Code) → X ≡ Y → IfOk r (λ c. code_of c ks ≡ X) → IfOk r (λ c. code_of c ks ≡ Y)
  moved X Y e h = IfOk-weaker r (λ c. code_of c ks ≡ X) (λ c. code_of c ks ≡ Y) (λ c h. h ∙ e) h

  abbrev binary_in : BinOp → OperationTypes → Range → Code → Code → Code
  binary_in op types range x y =
      operated (is_total op range) op types.result types.working types.right x y (binary_value op types.result types.working types.left types.right range x.value y.value)

  pub of_binary :
      (at : Place) (op : BinOp) (range rb : Range) (types : OperationTypes) (n0 n1 : Names) (k2 : List MonType) (a b : LogicTerm) (known : Known) (x y : declared.Code)
      → types ≡ types_of op range a b → rb ≡ range_of b → code_of x n1.table.kinds ≡ term_by n0 a known → n1.program ≡ n0.program → n1.table.bound ≡ n0.table.bound
      → code_of y k2 ≡ term_by n1 b known → IfOk r (λ c. code_of c ks ≡ binary_in op types rb (code_of x []) (code_of y k2))
      → IfOk r (λ c. code_of c ks ≡ term_by n0 (logic.Binary at None range op a b) known)
  of_binary at op range rb types n0 n1 k2 a b known x y types_is rb_is first program bound last made =
      let second = next_part (λ p bs rs. term_code p bs known.plan b known.held known.readings rs) n0 n1 (code_of y k2) (term_by n0 a known) (λ i. (first i).used) program bound last in
      moved (binary_in op types rb (code_of x []) (code_of y k2)) (term_by n0 (logic.Binary at None range op a b) known)
      (operated_first (is_total op rb) op types.result types.working types.right (code_of x []) (code_of y k2)
      (binary_value op types.result types.working types.left types.right rb (plain_expr x.value) (plain_expr y.value)) n1.table.kinds
      ∙ (λ i. binary_in op (types_is i) (rb_is i) (first i) (second i))) made

  abbrev choice_in : MonType → MonType → MonType → Code → Code → Code → Code
  choice_in w ta tb z x y = branch w z (with_value (in_type ta w x.value) x) (with_value (in_type tb w y.value) y)

  pub of_choice :
      (at : Place) (range : Range) (w ta tb : MonType) (n0 n1 n2 : Names) (k3 : List MonType) (q : Predicate) (a b : LogicTerm) (known more more2 : Known) (z x y : declared.Code)
      → w ≡ type_of_width (width_of_range range) → ta ≡ type_of a → tb ≡ type_of b → more ≡ known_with (known.readings ++ sure_readings q) known → more2 ≡ known_with (known.readings ++ sure_readings q) known
      → code_of z n1.table.kinds ≡ pred_by n0 q known → n1.program ≡ n0.program → n1.table.bound ≡ n0.table.bound
      → code_of x n2.table.kinds ≡ term_by n1 a more → n2.program ≡ n1.program → n2.table.bound ≡ n1.table.bound → code_of y k3 ≡ term_by n2 b more2
      → IfOk r (λ c. code_of c ks ≡ choice_in w ta tb (code_of z []) (code_of x []) (code_of y k3))
      → IfOk r (λ c. code_of c ks ≡ term_by n0 (logic.Choice at None range q a b) known)
  of_choice at range w ta tb n0 n1 n2 k3 q a b known more more2 z x y w_is ta_is tb_is more_is more2_is first program bound middle program2 bound2 last made =
      let second = next_part (λ p bs rs. term_code p bs more.plan a more.held more.readings rs) n0 n1 (code_of x n2.table.kinds) (pred_by n0 q known) (λ i. (first i).used) program bound middle
      ∙ ap (λ (k : Known). term_code (unit_of n0) n0.table.bound k.plan a k.held k.readings (pred_by n0 q known).used) more_is in
      let third = next_part (λ p bs rs. term_code p bs more2.plan b more2.held more2.readings rs) n0 n2 (code_of y k3) (term_code (unit_of n0) n0.table.bound known.plan a known.held (known.readings ++ sure_readings q) (pred_by n0 q known).used)
      (λ i. (second i).used) (program2 ∙ program) (bound2 ∙ bound) last
      ∙ ap (λ (k : Known). term_code (unit_of n0) n0.table.bound k.plan b k.held k.readings (term_code (unit_of n0) n0.table.bound known.plan a known.held (known.readings ++ sure_readings q) (pred_by n0 q known).used).used) more2_is in
      moved (choice_in w ta tb (code_of z []) (code_of x []) (code_of y k3)) (term_by n0 (logic.Choice at None range q a b) known)
      (λ i. choice_in (w_is i) (ta_is i) (tb_is i) (first i) (second i) (third i)) made
