use Rattle.std.proofs.Common.{◌≡◌, ◌∙◌, ap, sym, false, Some, int_div, FitsSigned, rules}
use Rattle.std.specs.Int.{w128, int_wrapping_div}
use Rattle.std.proofs.lemmas.Int.{to_z-of_z}
use Rattle.c_model.specs.Integers.{convert, is_signed}
use Rattle.c_conversions.proofs.Wrapped.{wrap_quotient, is_not_zero, unsigned_result}
use Rattle.c_conversions.proofs.arithmetic.quotient.Goals as goal

pub returns-in-Some : goal.returns-in-Some
returns-in-Some c = rw (is_not_zero c.args.y c.if-y-eq0.false) (search rules)

pub returns-else-is_signed : goal.returns-else-is_signed
returns-else-is_signed c =
    let f : FitsSigned w128 c.convert.result = search rules in
    let g : FitsSigned w128 c.wrapping_div.result = search rules in
    let u : is_signed c.args.k ≡ false = search rules in
    rw (is_not_zero c.args.y c.if-y-eq0.false) (
    ap Some (to_z-of_z w128 _ f ∙ c.convert.ensures ∙ ap (convert c.args.k) (to_z-of_z w128 _ g ∙ c.wrapping_div.ensures ∙ (λ i. int_wrapping_div w128 (to_z-of_z w128 c.args.x c.ranges.x i) (to_z-of_z w128 c.args.y c.ranges.y i)))
    ∙ wrap_quotient c.args.x c.ranges.x c.args.y c.ranges.y c.args.k) ∙ sym (unsigned_result c.args.k (int_div c.args.x c.args.y) u))
