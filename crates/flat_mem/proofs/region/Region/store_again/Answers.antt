use Rattle.std.proofs.Common.{◌≡◌, ◌%◌, false, subst, arith}
use Rattle.std.specs.Bool.{OnFalse}
use Rattle.mon_syntax.specs.Regions.{Region, region_store}
use Rattle.flat_mem.proofs.Stores.{store_left}
use Rattle.flat_mem.proofs.region.Region.store_again.Goals as goal

pub returns-clause-left : goal.returns-clause-left
returns-clause-left c =
    let old : Region = record { bytes = c.self.inside.bytes; shadow = c.self.inside.shadow } in
    let new : Region = record { bytes = c.store_again.new.self; shadow = c.set_number_again.new.self } in
    let aligned : c.args.at % c.args.width ≡ 0 = grind (arith, c.if-place-width-ne0.false) in
    subst (λ r. OnFalse c.set_number_again.result (region_store new c.args.at c.args.width c.args.value false ≡ region_store r c.args.at c.args.width c.args.value false)) c.self.view_is
    (store_left c.set_number_again.result _ old new c.args.at c.args.width c.args.value aligned c.if-not-store_again.ensures.inside c.if-not-store_again.ensures.bytes c.set_number_again.ensures.marks)
