use Rattle.std.proofs.Common.{◌≡◌, ◌∙◌, sym, ap, arith, length, Some, None}
use Rattle.c_scopes.specs.Newest.{entities_of, entity_of, newest_number}
use Rattle.c_scopes.specs.Objects.{object_number}
use Rattle.c_scopes.proofs.Newest.{count_is, either_way, entities_last, hidden_less, last_known, newest_before}
use Rattle.c_scopes.proofs.declarations.Declarations.pop.Goals as goal

pub invariant_of-self : goal.invariant_of-self
invariant_of-self c =
    let self = c.args.self.now in
    let ds = c.pop.new.self.items in
    let d = c.in-Some.last in
    let all = c.in-Some.ensures.items in
    let entities = entities_last ds self.declared.items d all in
    let last = hidden_less ds self.declared.items d all self.hidden in
    let number : c.len.result ≡ length (entities_of ds) = omega (arith, c.len.ensures, c.pop.new.self.ok, count_is ds) in
    let first = c.forget_object.ensures (entities_of ds) (entity_of d) c.decl_of-decl.ensures number (λ x. self.first x ∙ ap (object_number x) entities) in
    either_way c.insert.result c.insert.ensures.updates c.insert.ensures.absent
    (λ updates. record {
      hidden = last.before;
      found = newest_before (entities_of ds) (entities_of self.declared.items) (entity_of d) self.newest.entries c.insert.new.self.entries c.name_of-name.result (Some c.in-Some-hidden.number)
          entities c.name_of-name.ensures (sym c.in-Some-hidden.is ∙ last.hidden ∙ ap (λ x. newest_number x (entities_of ds)) (sym c.name_of-name.ensures)) updates.0 self.found;
      first = first;
    })
    (λ absent.
    let known = last_known (entities_of ds) (entities_of self.declared.items) (entity_of d) self.newest.entries c.name_of-name.result entities c.name_of-name.ensures self.found in
    let z : None ≡ Some (length (entities_of ds)) = sym absent ∙ known in absurd cc)

pub invariant_of-self-in-None : goal.invariant_of-self-in-None
invariant_of-self-in-None c =
    let self = c.args.self.now in
    let ds = c.pop.new.self.items in
    let d = c.in-Some.last in
    let all = c.in-Some.ensures.items in
    let entities = entities_last ds self.declared.items d all in
    let last = hidden_less ds self.declared.items d all self.hidden in
    let number : c.len.result ≡ length (entities_of ds) = omega (arith, c.len.ensures, c.pop.new.self.ok, count_is ds) in
    let first = c.forget_object.ensures (entities_of ds) (entity_of d) c.decl_of-decl.ensures number (λ x. self.first x ∙ ap (object_number x) entities) in
    record {
      hidden = last.before;
      found = newest_before (entities_of ds) (entities_of self.declared.items) (entity_of d) self.newest.entries c.swap_remove.new.self.entries c.name_of-name.result None
          entities c.name_of-name.ensures (sym c.in-None.is ∙ last.hidden ∙ ap (λ x. newest_number x (entities_of ds)) (sym c.name_of-name.ensures)) c.swap_remove.ensures.updates.0 self.found;
      first = first;
    }
