use Rattle.std.proofs.Common.{◌≡◌, length, map, [], ◌∷◌}
use Rattle.c_syntax.specs.Programs.{plain_enumerator}
use Rattle.c_model.specs.ExpressionGrammar.{name_kind}
use Rattle.c_model.specs.DeclarationGrammar.{more_items, constant}
use Rattle.token_reader.specs.Reading.{plain_list}
use Rattle.c_declaration_parser.proofs.tagged.more_constants.Given as goal

abbrev pub invariant-turn : goal.invariant-turn
invariant-turn l = (more_items l.words (name_kind ∷ []) (constant l.words) (map plain_enumerator l.all.items, l.comma)).parse (plain_list l.rest) ≡
    (more_items l.words (name_kind ∷ []) (constant l.words) (map plain_enumerator l.fn.all.items, l.fn.comma)).parse (plain_list l.fn.tokens)

abbrev pub decreases-turn : goal.decreases-turn
decreases-turn l = length l.rest
