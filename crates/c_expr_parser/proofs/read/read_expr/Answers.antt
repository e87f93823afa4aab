use Rattle.std.proofs.Common.{length, map, ap, ◌∙◌, ◌≤◌, arith}
use Rattle.c_syntax.specs.Tokens.{plain_tokens, plain_token}
use Rattle.c_syntax.specs.Expressions.{plain_expr}
use Rattle.c_model.specs.Vocabulary.{Vocabulary, word_of}
use Rattle.c_expr_parser.specs.Levels.{with_types}
use Rattle.c_expr_parser.proofs.Answers.{expression_read, expression_refused}
use Rattle.c_expr_parser.proofs.read.read_expr.Goals as goal

pub returns-in-Ok : goal.returns-in-Ok
returns-in-Ok c =
    let list = c.as_slice-list.result.now in
    let start : c.args.at ≤ length list = omega (arith, c.requires, ap length c.as_slice-list.ensures.value) in
    let shorter = c.in-Ok.ensures.shorter in
    expression_read (plain_tokens c.args.tokens.now) c.args.at c.args.level c.args.types.now c.as_slice-2.result.now list c.split_at.result.1.now
    (c.as_slice-2.ensures.value ∙ c.with_types-words.ensures ∙ ap (λ (ws : Vocabulary). with_types ws c.args.types.now) (c.in_ok-words.ensures ∙ ap (map word_of) c.as_slice.ensures.value)) (ap (map plain_token) c.as_slice-list.ensures.value)
    c.split_at.ensures.back start (plain_expr c.in-Ok.e) c.in-Ok.behind.now _ c.in-Ok.ensures.read (omega (arith, c.split_at.ensures.back_len, shorter))

pub returns : goal.returns
returns c =
    let list = c.as_slice-list.result.now in
    let start : c.args.at ≤ length list = omega (arith, c.requires, ap length c.as_slice-list.ensures.value) in
    expression_refused (plain_tokens c.args.tokens.now) c.args.at c.args.level c.args.types.now c.as_slice-2.result.now list c.split_at.result.1.now
    (c.as_slice-2.ensures.value ∙ c.with_types-words.ensures ∙ ap (λ (ws : Vocabulary). with_types ws c.args.types.now) (c.in_ok-words.ensures ∙ ap (map word_of) c.as_slice.ensures.value)) (ap (map plain_token) c.as_slice-list.ensures.value)
    c.split_at.ensures.back start c.in-Err.fault _ c.in-Err.ensures.read c.refuse.ensures
