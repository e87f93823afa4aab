use Rattle.std.proofs.Common.{◌≡◌, ◌∙◌, sym, ap, subst, [], Some, None}
use Rattle.c_scopes.specs.Labels.{AreHidden, mark_named, plain_marks}
use Rattle.c_scopes.specs.declared.sight.Mark.{Mark}
use Rattle.c_scopes.proofs.Labels.{hidden_less, last_known, marks_last, newest_before}
use Rattle.c_scopes.proofs.Newest.{either_way}
use Rattle.c_scopes.proofs.label.Labels.pop.Goals as goal

pub invariant_of-self : goal.invariant_of-self
invariant_of-self c =
    let self = c.args.self.now in
    let ls = c.pop.new.self.items in
    let l = c.in-Some.last in
    let all = c.in-Some.ensures.items in
    let marks = marks_last ls self.known.items l all in
    let less = hidden_less ls self.known.items l all self.hidden in
    either_way c.insert.result c.insert.ensures.updates c.insert.ensures.absent
    (λ updates. record {
      hidden = less.before;
      found = newest_before (plain_marks ls) (plain_marks self.known.items) l.name l.mark (Some c.in-Some-hidden.mark) self.newest.entries c.insert.new.self.entries marks (sym c.in-Some-hidden.is ∙ less.hidden) updates.0 self.found;
    })
    (λ absent.
    let known = last_known (plain_marks ls) (plain_marks self.known.items) l.name l.mark self.newest.entries marks self.found in
    let z : ◌≡◌ {A = _} None (Some l.mark) = sym absent ∙ known in absurd cc)

pub invariant_of-self-in-None : goal.invariant_of-self-in-None
invariant_of-self-in-None c =
    let self = c.args.self.now in
    let ls = c.pop.new.self.items in
    let l = c.in-Some.last in
    let all = c.in-Some.ensures.items in
    let marks = marks_last ls self.known.items l all in
    let less = hidden_less ls self.known.items l all self.hidden in
    record {
      hidden = less.before;
      found = newest_before (plain_marks ls) (plain_marks self.known.items) l.name l.mark None self.newest.entries c.swap_remove.new.self.entries marks (sym c.in-None.is ∙ less.hidden) c.swap_remove.ensures.updates.0 self.found;
    }
