use Rattle.std.proofs.Common.{◌≡◌, length, map}
use Rattle.c_syntax.specs.Statements.{plain_decl}
use Rattle.c_expr_parser.specs.Reading.{plain_base}
use Rattle.token_reader.specs.Reading.{plain_list}
use Rattle.c_declaration_parser.specs.Reading.{other_declared}
use Rattle.c_declaration_parser.proofs.declaration.other_declared.Given as goal

abbrev pub invariant-turn : goal.invariant-turn
invariant-turn l = (other_declared l.words (plain_base l.base) (map plain_decl l.all.items)).parse (plain_list l.rest) ≡ (other_declared l.words (plain_base l.base) (map plain_decl l.fn.all.items)).parse (plain_list l.fn.tokens)

abbrev pub decreases-turn : goal.decreases-turn
decreases-turn l = length l.rest
