use Rattle.std.proofs.Common.{rules, ◌≡◌, map, Err, sym, subst}
use Rattle.mon_syntax.specs.declared.tree.MonType.TheVariants.{I128, Ptr}
use Rattle.mon_syntax.specs.Trees.{MonStatement, plain_expr, plain_stmt}
use Rattle.mon_syntax.specs.Checking.{Checked, value_of_type}
use Rattle.mon_parser.specs.ParsedTrees.{plain_arg}
use Rattle.mon_typing.specs.Answers.{Gives}
use Rattle.mon_typing.specs.Arguments.{range_length, range_question}
use Rattle.mon_typing.specs.Scopes.{plain_scope}
use Rattle.mon_typing.proofs.Calls.{second_fails, both_taken}
use Rattle.mon_typing.proofs.call.range_call.Goals as goal

pub returns-in_err-offset : goal.returns-in_err-offset
returns-in_err-offset c =
    let s = plain_scope c.args.scope.now in
    let e : c.from_residual-in_err-offset.result ≡ Err c.in_err-offset.field-0.0 = search rules in
    rw e (second_fails s c.args.place (value_of_type s Ptr) (value_of_type s I128) (λ p o xs. range_length s c.args.place p o xs (range_question c.args.question)) (map plain_arg c.args.arguments.now)
    (map plain_arg c.in_ok-pointer.more.now) (plain_expr c.in_ok-pointer.pointer) c.in_err-offset.field-0.0 c.in_ok-pointer.ensures c.in_err-offset.ensures)

pub returns : goal.returns
returns c =
    let s = plain_scope c.args.scope.now in
    subst (λ (x : Checked MonStatement). Gives plain_stmt c.range_length.result x)
    (sym (both_taken s c.args.place (value_of_type s Ptr) (value_of_type s I128) (λ p o xs. range_length s c.args.place p o xs (range_question c.args.question)) (map plain_arg c.args.arguments.now)
    (map plain_arg c.in_ok-pointer.more.now) (map plain_arg c.in_ok-offset.more.now) (plain_expr c.in_ok-pointer.pointer) (plain_expr c.in_ok-offset.offset) c.in_ok-pointer.ensures c.in_ok-offset.ensures))
    c.range_length.ensures
