use Rattle.std.proofs.Common.{◌≡◌, rules, Some}
use Rattle.c_model.specs.Checked.{Good}
use Rattle.c_model.specs.ExpressionTyping.{AnObject, entity_named}
use Rattle.c_model.specs.PredicateTyping.{object_place}
use Rattle.c_scopes.specs.Answers.{Answers}
use Rattle.c_scopes.specs.Entity.{plain_object}
use Rattle.c_scopes.specs.Sights.{plain_sight}
use Rattle.annot_typing.specs.Sights.{plain_clause}
use Rattle.annot_typing.specs.Sorts.{plain_sorted}
use Rattle.annot_typing.proofs.name.named_in_c.Goals as goal

pub returns-in-Some-AnObject : goal.returns-in-Some-AnObject
returns-in-Some-AnObject c =
    let s = plain_sight c.args.sight.now in
    let o = plain_object c.in-Some-AnObject.object in
    let found : Some (AnObject o) ≡ entity_named c.args.name s.entities = search rules in
    let typed : Answers plain_sorted (Good (object_place (plain_clause s c.args.clause) c.args.place c.args.name o)) c.object_place.result = c.object_place.ensures s in
    search rules
