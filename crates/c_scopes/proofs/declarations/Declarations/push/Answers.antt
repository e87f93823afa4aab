use Rattle.std.proofs.Common.{rules, arith, length, take, nat_eq, ◌≡◌, ◌∙◌, ap, sym, subst}
use Rattle.std.specs.Map.{lookup}
use Rattle.c_scopes.specs.Newest.{AreHidden, entities_of, entity_of, newest_number}
use Rattle.c_scopes.specs.Objects.{object_number}
use Rattle.c_scopes.specs.declared.declarations.Declared.{Declared}
use Rattle.c_scopes.proofs.Newest.{count_is, entities_last, hidden_more, newest_new}
use Rattle.c_scopes.proofs.Objects.{one_off}
use Rattle.c_scopes.proofs.declarations.Declarations.push.Goals as goal

pub invariant_of-self-in-Ok-insert : goal.invariant_of-self-in-Ok-insert
invariant_of-self-in-Ok-insert c =
    let self = c.args.self.now in
    let ds = self.declared.items in
    let more = c.push.new.self.items in
    let d : Declared = record { entity = c.args.entity; hidden = c.copied-hidden.result } in
    let is = c.in_ok-push.ensures.items in
    let entities = entities_last ds more d is in
    let hides : d.hidden ≡ newest_number c.name_of-name.result (entities_of ds) = search rules in
    let number : c.len-number.result ≡ length (entities_of ds) = omega (arith, c.len-number.ensures, self.declared.ok, count_is ds) in
    let noted = c.in-Ok.ensures.noted (entities_of ds) (entity_of d) c.decl_of-decl.ensures number self.first in
    record {
      hidden = hidden_more ds more d is (hides ∙ ap (λ x. newest_number x (entities_of ds)) c.name_of-name.ensures) self.hidden;
      found = newest_new (entities_of ds) (entities_of more) (entity_of d) self.newest.entries c.insert.new.self.entries c.name_of-name.result c.len-number.result
          entities c.name_of-name.ensures number c.in-Ok-insert.ensures.updates.0 self.found;
      first = λ x. noted x ∙ ap (λ es. object_number x es) (sym entities);
    }

pub invariant_of-self-in-Err-insert : goal.invariant_of-self-in-Err-insert
invariant_of-self-in-Err-insert c =
    let self = c.args.self.now in
    let ds = self.declared.items in
    let d : Declared = record { entity = c.args.entity; hidden = c.copied-hidden.result } in
    let is = c.in_ok-push.ensures.items in
    let count : c.len-number.result ≡ length ds = omega (arith, c.len-number.ensures, self.declared.ok) in
    let number : c.len-number.result ≡ length (entities_of ds) = omega (arith, count, count_is ds) in
    let noted = c.in-Ok.ensures.noted (entities_of ds) (entity_of d) c.decl_of-decl.ensures number self.first in
    let forgotten = c.forget_object.ensures (entities_of ds) (entity_of d) c.decl_of-decl.ensures number noted in
    let kept : c.truncate.new.self.items ≡ ds = c.truncate.ensures.items ∙ (λ i. take (count i) (is i)) ∙ one_off ds d in
    record {
      hidden = subst AreHidden (sym kept) self.hidden;
      found = λ x. ap (lookup (nat_eq x)) c.in-Err-insert.ensures.err ∙ self.found x ∙ ap (λ l. newest_number x (entities_of l)) (sym kept);
      first = λ x. forgotten x ∙ ap (λ l. object_number x (entities_of l)) (sym kept);
    }
