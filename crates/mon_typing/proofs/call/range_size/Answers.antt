use Rattle.std.proofs.Common.{◌≡◌, [], ◌∷◌, map, None, Ok, sym, ap, ◌∙◌}
use Rattle.mon_syntax.specs.declared.tree.AccessSize.{AccessSize}
use Rattle.mon_syntax.specs.declared.tree.MemoryCall.{MemoryCall}
use Rattle.mon_syntax.specs.Trees as tree
use Rattle.mon_syntax.specs.Trees.{plain_expr}
use Rattle.mon_syntax.specs.Checking.{Checked, ◌>>=◌, size_named}
use Rattle.mon_parser.specs.ParsedTrees.{plain_arg}
use Rattle.mon_typing.specs.Arguments.{range_question}
use Rattle.mon_typing.specs.Scopes.{plain_scope}
use Rattle.mon_typing.proofs.Calls.{made_of_only}
use Rattle.mon_typing.proofs.call.range_size.Goals as goal

pub returns : goal.returns
returns c =
    let s = plain_scope c.args.scope.now in
    let xs = map plain_arg c.args.arguments.now in
    let p = plain_expr c.args.values.first in
    let o = plain_expr c.args.values.second in
    let n = plain_expr c.args.length in
    made_of_only s c.args.place (size_named s) xs (λ (a : AccessSize). tree.Act None (range_question c.args.question a) (p ∷ o ∷ n ∷ []))
    ∙ ap (λ (m : Checked AccessSize). m >>= λ (a : AccessSize). Ok (tree.Act None (range_question c.args.question a) (p ∷ o ∷ n ∷ []))) c.in_ok-size.ensures
    ∙ ap Ok (ap (λ (f : MemoryCall). tree.Act None f (p ∷ o ∷ n ∷ [])) (sym c.range_question.ensures) ∙ sym c.in_ok-act_on_three.ensures)
