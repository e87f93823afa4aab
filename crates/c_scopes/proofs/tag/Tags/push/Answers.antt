use Rattle.c_scopes.proofs.Tags.{tags_more}
use Rattle.c_scopes.proofs.tag.Tags.push.Goals as goal

pub invariant_of-self-in-Ok : goal.invariant_of-self-in-Ok
invariant_of-self-in-Ok c =
    let self = c.args.self.now in
    record { same = tags_more self.set c.insert.new.self self.list.items c.push.new.self.items c.args.tag c.in_ok-push.ensures.items c.in-Ok.ensures.updates.0 self.same }
