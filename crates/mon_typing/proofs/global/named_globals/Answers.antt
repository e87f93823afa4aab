use Rattle.mon_typing.proofs.Rooms.{small_at, next_named}
use Rattle.mon_typing.proofs.global.named_globals.Goals as goal

pub named_global-requires : goal.named_global-requires
named_global-requires c = small_at c.args.globals.now 0 c.each.g-index c.g-item.result c.requires c.each-test.true c.g-item.is

pub each-preserved : goal.each-preserved
each-preserved c =
    next_named c.args.names.now c.args.globals.now c.each.g-index c.g-item.result c.each.all.items c.push.new.self.items c.in_ok-named_global.field-0 _ c.each-test.true c.g-item.is c.in_ok-push.ensures.items
    c.in_ok-named_global.ensures c.each.invariant
