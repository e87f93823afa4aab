use Rattle.std.proofs.Common.{sym, ap, ◌∙◌}
use Rattle.c_syntax.specs.Ctypes.{plain_type, Array, plain_length}
use Rattle.c_model.specs.ExpressionGrammar.{arrays_of}
use Rattle.c_expr_parser.specs.Reading.{plain_brackets}
use Rattle.c_expr_parser.proofs.Arrays.{arrays_behind}
use Rattle.c_expr_parser.proofs.declarator.arrays_of.Goals as goal

pub turn-preserved : goal.turn-preserved
turn-preserved c =
    ap (λ t. arrays_of (Array (plain_type t) (plain_length c.in-Some.bracket.length)) (plain_brackets c.pop.new.self.items)) c.in_ok-new.ensures.ok
    ∙ sym (arrays_behind (plain_type c.turn.made) c.pop.new.self.items c.in-Some.bracket)
    ∙ ap (λ l. arrays_of (plain_type c.turn.made) (plain_brackets l)) (sym c.in-Some.ensures.items)
    ∙ c.turn.invariant
