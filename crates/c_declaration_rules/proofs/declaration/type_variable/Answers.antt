use Rattle.std.proofs.Common.{rules, subst, sym, false}
use Rattle.c_syntax.specs.Statements.{plain_decl}
use Rattle.c_model.specs.Library.{is_there}
use Rattle.c_model.specs.ExpressionTyping.{declared_here}
use Rattle.c_scopes.specs.Answers.{Answers}
use Rattle.c_scopes.specs.Sights.{plain_sight}
use Rattle.c_declaration_rules.specs.Declarations.{declaration_typed}
use Rattle.c_declaration_rules.proofs.Declarations.{variable_is}
use Rattle.c_declaration_rules.proofs.declaration.type_variable.Goals as goal

pub returns-clause-typed : goal.returns-clause-typed
returns-clause-typed c =
    let s = plain_sight c.args.sight.now in
    let d = plain_decl c.args.d.now in
    let h : Answers (λ (u : Unit {0}). plain_decl c.type_declaration.new.d) (declaration_typed s (is_there (declared_here s d.name)) false d) c.type_declaration.result = search rules in
    let whole = subst (λ z. Answers (λ (u : Unit {0}). plain_decl c.type_declaration.new.d) z c.type_declaration.result) (sym (variable_is s d)) h in
    search (rules, whole)
