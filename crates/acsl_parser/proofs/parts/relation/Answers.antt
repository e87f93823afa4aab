use Rattle.std.specs.Prelude.{List, ℕ}
use Rattle.std.proofs.Common.{subst}
use Rattle.grammar.specs.Syntax.{one}
use Rattle.c_syntax.specs.declared.annotation.Relation.{Relation}
use Rattle.c_model.specs.Terminals.{placed, mark_entry}
use Rattle.token_reader.specs.Reading.{Gives, plain_list}
use Rattle.acsl_parser.proofs.parts.relation.Goals as goal

pub returns-clause-read : goal.returns-clause-read
returns-clause-read c =
    subst (λ (table : List (ℕ × Relation)). Gives (λ x. ((x.0, x.1), plain_list x.2.now)) c.marked.result ((one (placed (mark_entry table))).parse (plain_list c.args.tokens.now))) c.relations_behind.ensures c.marked.ensures.read
