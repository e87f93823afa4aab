use Rattle.std.proofs.Common.{◌≡◌, rules, sym, ◌∙◌, subst, cond, true}
use Rattle.c_model.specs.AnnotationSights.{formals_in}
use Rattle.c_model.specs.Checked.{Good}
use Rattle.c_model.specs.ExpressionTyping.{is_among}
use Rattle.c_model.specs.PredicateTyping.{APlace, ATerm, formal_value, variable}
use Rattle.c_scopes.specs.Answers.{Answers}
use Rattle.c_scopes.specs.Entity.{plain_object}
use Rattle.annot_typing.specs.Sights.{plain_clause}
use Rattle.annot_typing.specs.Sorts.{plain_sorted}
use Rattle.annot_typing.proofs.name.object_place.Goals as goal

pub returns-then-is_formal : goal.returns-then-is_formal
returns-then-is_formal c s =
    let k = plain_clause s c.args.clause in
    let t = variable c.args.place c.args.name (plain_object c.args.object.now) in
    let named : c.is_formal.result ≡ true = search rules in
    let is : true ≡ is_among c.args.object.now.decl (formals_in k) = sym named ∙ c.is_formal.ensures s in
    subst (λ b. Answers plain_sorted (Good (cond b (ATerm (formal_value k t)) (APlace t))) c.formal_value.result) is (c.formal_value.ensures s)
