use Rattle.std.proofs.Common.{◌∙◌, ap, map}
use Rattle.c_syntax.specs.Statements.{plain_decl}
use Rattle.c_model.specs.UnitTyping.{with_parameters}
use Rattle.c_scopes.specs.Sights.{plain_sight}
use Rattle.c_function_rules.proofs.Statements.{parameters_left}
use Rattle.c_function_rules.proofs.function.type_parts.Goals as goal

pub returns-clause-same : goal.returns-clause-same
returns-clause-same c =
    let t = plain_sight c.enter-mark.new.sight in
    parameters_left (plain_sight c.args.sight.now) t (plain_sight c.type_body.new.sight) (plain_sight c.leave.new.sight) c.enter-mark.result.count
    c.enter-mark.result.innermost c.enter-mark.ensures.inner (ap (λ m. m.count) c.enter-mark.ensures.mark) (ap (λ m. m.innermost) c.enter-mark.ensures.mark) c.leave.ensures
    (map plain_decl c.args.f.now.params.items) (c.in_ok-type_body.ensures.same ∙ c.in_ok-see_parameters.ensures ∙ ap (λ ds. with_parameters t (map plain_decl ds)) c.deref.ensures.value)
