use Rattle.std.proofs.Common.{◌≡◌, rules, Err}
use Rattle.c_syntax.specs.Statements.{plain_decl}
use Rattle.c_model.specs.Checked.{Good}
use Rattle.c_model.specs.DeclarationTyping.{typed_typedef}
use Rattle.c_model.specs.UnitTyping.{with_type}
use Rattle.c_scopes.specs.Answers.{Answers}
use Rattle.c_typing.specs.Files.{plain_course}
use Rattle.c_typing.proofs.ItemParts.{typedef_made, typedef_refused}
use Rattle.c_typing.proofs.item.type_alias.Goals as goal

pub returns-in_err-type_typedef : goal.returns-in_err-type_typedef
returns-in_err-type_typedef c =
    let e : c.from_residual.result ≡ Err c.in_err-type_typedef.field-0.0 = search rules in
    let s = plain_course c.args.course.now in
    let h : Answers (λ (u : Unit {0}). plain_decl c.type_typedef.new.d) (typed_typedef s.sight (plain_decl c.args.d.now)) (Err c.in_err-type_typedef.field-0.0) = c.in_err-type_typedef.ensures in
    let whole = typedef_refused s s (plain_decl c.args.d.now) (plain_decl c.type_typedef.new.d) c.in_err-type_typedef.field-0.0 h in
    search (rules, e, whole)

pub returns : goal.returns
returns c =
    let s = plain_course c.args.course.now in
    let d' = plain_decl c.type_typedef.new.d in
    let s' = record s { sight = with_type s.sight d' } in
    let good : typed_typedef s.sight (plain_decl c.args.d.now) ≡ Good d' = search rules in
    let whole = typedef_made s s' (plain_decl c.args.d.now) d' good (λ i. s') in
    search (rules, whole)
