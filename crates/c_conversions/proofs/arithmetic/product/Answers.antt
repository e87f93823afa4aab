use Rattle.std.proofs.Common.{◌≡◌, ◌∙◌, ap, sym, false, Some, ◌*ℤ◌, FitsSigned, rules}
use Rattle.std.specs.Int.{w128}
use Rattle.std.proofs.lemmas.Int.{to_z-of_z}
use Rattle.c_model.specs.Integers.{is_signed}
use Rattle.c_conversions.proofs.Wrapped.{wrap_product, unsigned_result}
use Rattle.c_conversions.proofs.arithmetic.product.Goals as goal

pub returns-else-is_signed : goal.returns-else-is_signed
returns-else-is_signed c =
    let f : FitsSigned w128 c.convert.result = search rules in
    let u : is_signed c.args.k ≡ false = search rules in
    ap Some (to_z-of_z w128 _ f ∙ c.convert.ensures ∙ wrap_product c.args.x c.ranges.x c.args.y c.ranges.y c.args.k) ∙ sym (unsigned_result c.args.k (c.args.x *ℤ c.args.y) u)
