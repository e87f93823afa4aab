use Rattle.std.proofs.Common.{rules, subst, sym, true}
use Rattle.c_syntax.specs.Statements.{plain_decl}
use Rattle.c_model.specs.DeclarationTyping.{is_declared_in_file}
use Rattle.c_scopes.specs.Answers.{Answers}
use Rattle.c_scopes.specs.Sights.{plain_sight}
use Rattle.c_declaration_rules.specs.Declarations.{declaration_typed}
use Rattle.c_declaration_rules.proofs.Declarations.{global_is}
use Rattle.c_declaration_rules.proofs.declaration.type_global.Goals as goal

pub returns-clause-typed : goal.returns-clause-typed
returns-clause-typed c =
    let s = plain_sight c.args.sight.now in
    let d = plain_decl c.args.d.now in
    let h : Answers (λ (u : Unit {0}). plain_decl c.type_declaration.new.d) (declaration_typed s (is_declared_in_file s d.name) true d) c.type_declaration.result = search rules in
    let whole = subst (λ z. Answers (λ (u : Unit {0}). plain_decl c.type_declaration.new.d) z c.type_declaration.result) (sym (global_is s d)) h in
    search (rules, whole)
