use Rattle.std.proofs.Common.{rules, arith, [], length, take, nat_eq, ◌≡◌, ◌∙◌, ap, sym, subst}
use Rattle.std.specs.Map.{lookup}
use Rattle.c_scopes.specs.Labels.{AreHidden, mark_named, plain_marks}
use Rattle.c_scopes.specs.declared.label.KnownLabel.{KnownLabel}
use Rattle.c_scopes.proofs.Labels.{hidden_more, marks_last, newest_more}
use Rattle.c_scopes.proofs.Objects.{one_off}
use Rattle.c_scopes.proofs.label.Labels.push.Goals as goal

pub invariant_of-self-in-Ok : goal.invariant_of-self-in-Ok
invariant_of-self-in-Ok c =
    let self = c.args.self.now in
    let ls = self.known.items in
    let more = c.push.new.self.items in
    let l : KnownLabel = record { name = c.args.name; mark = c.args.mark; hidden = c.copied-hidden.result } in
    let is = c.in_ok-push.ensures.items in
    let hides : l.hidden ≡ mark_named c.args.name (plain_marks ls) = search rules in
    record {
      hidden = hidden_more ls more l is hides self.hidden;
      found = newest_more (plain_marks ls) (plain_marks more) c.args.name c.args.mark self.newest.entries c.insert.new.self.entries (marks_last ls more l is) c.in-Ok.ensures.updates.0 self.found;
    }

pub invariant_of-self-in-Err : goal.invariant_of-self-in-Err
invariant_of-self-in-Err c =
    let self = c.args.self.now in
    let ls = self.known.items in
    let l : KnownLabel = record { name = c.args.name; mark = c.args.mark; hidden = c.copied-hidden.result } in
    let is = c.in_ok-push.ensures.items in
    let count : c.len-count.result ≡ length ls = omega (arith, c.len-count.ensures, self.known.ok) in
    let kept : c.truncate.new.self.items ≡ ls = c.truncate.ensures.items ∙ (λ i. take (count i) (is i)) ∙ one_off ls l in
    record {
      hidden = subst AreHidden (sym kept) self.hidden;
      found = λ x. ap (lookup (nat_eq x)) c.in-Err.ensures.err ∙ self.found x ∙ ap (λ l. mark_named x (plain_marks l)) (sym kept);
    }
