use Rattle.std.proofs.Common.{length, map, option_map, ap, ◌∙◌, ◌≤◌, arith}
use Rattle.c_syntax.specs.Logic.{plain_annot}
use Rattle.c_syntax.specs.Programs.{plain_contract}
use Rattle.c_syntax.specs.Tokens.{plain_tokens, plain_token}
use Rattle.c_model.specs.Vocabulary.{Vocabulary, word_of}
use Rattle.c_expr_parser.specs.Levels.{with_types}
use Rattle.acsl_parser.specs.Reading.{plain_read}
use Rattle.acsl_parser.proofs.AnnotationAnswers.{left_within, annotation_read, annotation_refused}
use Rattle.acsl_parser.proofs.read.read_annot.Goals as goal

pub place_behind-behind-requires : goal.place_behind-behind-requires
place_behind-behind-requires c =
    let le = left_within c.as_slice-2.result.now c.args.first c.split_at.result.1.now c.in-Ok.left.now _ c.in-Ok.ensures in
    omega (arith, le, c.split_at.ensures.back_len)

pub returns-in-Ok : goal.returns-in-Ok
returns-in-Ok c =
    let list = c.as_slice-list.result.now in
    let start : c.args.at ≤ length list = omega (arith, c.requires, ap length c.as_slice-list.ensures.value) in
    annotation_read (plain_tokens c.args.tokens.now) c.args.types.now c.args.at c.args.first c.as_slice-2.result.now list c.split_at.result.1.now
    (c.as_slice-2.ensures.value ∙ c.with_types-words.ensures ∙ ap (λ (ws : Vocabulary). with_types ws c.args.types.now) (c.in_ok-words.ensures ∙ ap (map word_of) c.as_slice.ensures.value))
    (ap (map plain_token) c.as_slice-list.ensures.value) c.split_at.ensures.back start
    (plain_read c.in-Ok.read) (map plain_annot c.parts_of-clauses.result.0.items) (option_map plain_contract c.parts_of-clauses.result.1) _ c.in-Ok.left.now c.place_behind-behind.result
    c.in-Ok.ensures c.parts_of-clauses.ensures.clauses c.parts_of-clauses.ensures.contract
    c.place_behind-behind.ensures

pub returns : goal.returns
returns c =
    let list = c.as_slice-list.result.now in
    let start : c.args.at ≤ length list = omega (arith, c.requires, ap length c.as_slice-list.ensures.value) in
    annotation_refused (plain_tokens c.args.tokens.now) c.args.types.now c.args.at c.args.first c.as_slice-2.result.now list c.split_at.result.1.now
    (c.as_slice-2.ensures.value ∙ c.with_types-words.ensures ∙ ap (λ (ws : Vocabulary). with_types ws c.args.types.now) (c.in_ok-words.ensures ∙ ap (map word_of) c.as_slice.ensures.value))
    (ap (map plain_token) c.as_slice-list.ensures.value) c.split_at.ensures.back start
    c.in-Err.fault c.refuse.result c.in-Err.ensures c.refuse.ensures
