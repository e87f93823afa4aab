use Rattle.std.proofs.Common.{rules, ◌≡◌, [], Err, map, subst, sym}
use Rattle.c_syntax.specs.Ctypes.{plain_type}
use Rattle.c_syntax.specs.Logic.{plain_annot}
use Rattle.c_syntax.specs.Programs.{plain_behavior, plain_contract}
use Rattle.c_model.specs.Checked.{Good}
use Rattle.c_model.specs.ContractTyping.{sight_of_clause, typed_behaviors, typed_contract, typed_covers}
use Rattle.c_scopes.specs.declared.sight.Sight.{Sight}
use Rattle.c_scopes.specs.declared.tag.Tags.{Tags}
use Rattle.c_scopes.specs.Answers.{Answers}
use Rattle.c_scopes.specs.Sights.{plain_sight}
use Rattle.annot_typing.proofs.Contracts.{behaviors_refused, covers_answer}
use Rattle.annot_typing.proofs.contract.type_contract.Goals as goal

pub returns-in_err-names-clause-typed : goal.returns-in_err-names-clause-typed
returns-in_err-names-clause-typed c =
    let seen = λ (z : Sight). sight_of_clause (plain_sight z) c.args.formals.now.list.items (plain_type c.args.ctype.now) in
    let old = c.args.contract.now in
    let h = c.in_err-names.field-0.0 in
    let behaviors = λ (names : Tags). map plain_behavior c.type_behaviors.new.behaviors.items in
    let e : c.from_residual-in_err-names.result ≡ Err h = search rules in
    let refused : Answers behaviors (typed_behaviors (seen c.args.sight.now) [] (map plain_behavior old.behaviors.items)) (Err h) =
    subst (λ z. Answers behaviors (typed_behaviors (seen z) [] (map plain_behavior old.behaviors.items)) (Err h)) c.type_kinds.ensures.same c.in_err-names.ensures.typed in
    let clauses = map plain_annot c.type_kinds.new.annots.items in
    let whole = λ (u : Unit {0}). record (plain_contract old) { clauses = clauses; behaviors = map plain_behavior c.type_behaviors.new.behaviors.items } in
    subst (λ r. Answers whole (typed_contract (seen c.args.sight.now) (plain_contract old)) r) (sym e)
    (behaviors_refused (seen c.args.sight.now) (plain_contract old) clauses c.in_ok-type_kinds.ensures.typed behaviors whole h refused)

pub returns-clause-typed : goal.returns-clause-typed
returns-clause-typed c =
    let seen = λ (z : Sight). sight_of_clause (plain_sight z) c.args.formals.now.list.items (plain_type c.args.ctype.now) in
    let old = c.args.contract.now in
    let behaviors = map plain_behavior c.type_behaviors.new.behaviors.items in
    let typed : typed_behaviors (seen c.args.sight.now) [] (map plain_behavior old.behaviors.items) ≡ Good behaviors =
    subst (λ z. typed_behaviors (seen z) [] (map plain_behavior old.behaviors.items) ≡ Good behaviors) c.type_kinds.ensures.same c.in_ok-names.ensures.typed in
    let covers : Answers (λ u. u) (typed_covers c.in_ok-names.names.list.items (map plain_annot old.covers.items)) c.check_covers.result =
    subst (λ l. Answers (λ u. u) (typed_covers c.in_ok-names.names.list.items (map plain_annot l)) c.check_covers.result) c.deref.ensures.value c.check_covers.ensures in
    covers_answer (seen c.args.sight.now) (plain_contract old) (map plain_annot c.type_kinds.new.annots.items) c.in_ok-type_kinds.ensures.typed behaviors c.in_ok-names.names.list.items c.check_covers.result typed
    c.in_ok-names.ensures.names covers
