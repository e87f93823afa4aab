-- Ours: the sides of the relations of a chain (ACSL 2.2.1) as the code has them.
use Rattle.std.specs.Prelude.{Result, Ok, Err, cond, pos}
use Rattle.std.specs.Ordering.{int_eq}
use Rattle.c_syntax.specs.Formulas.{Form, Number}
use Rattle.c_syntax.specs.declared.logic.Links.{Links}
use Rattle.c_syntax.specs.declared.logic.Term.{Term}
use Rattle.c_syntax.specs.Logic as plain
use Rattle.c_syntax.specs.Logic.{LogicTerm, plain_term, plain_links}
use Rattle.c_model.specs.PredicateTyping as typing
use Rattle.c_model.specs.PredicateTyping.{AnySide, IntegerSide, ZeroSide, PointerSide, OtherSide, side_of_sorted}
use Rattle.c_scopes.specs.declared.fault.TypeFault.{TypeFault}
use Rattle.annot_typing.specs.declared.chain.Side.{Side}
use Rattle.annot_typing.specs.declared.chain.Side.TheVariants as code
use Rattle.annot_typing.specs.declared.sorted.Sorted.{Sorted}
use Rattle.annot_typing.specs.Sorts.{plain_sorted}

abbrev pub plain_side : Side → typing.Side
plain_side code.Any = AnySide
plain_side code.Integer = IntegerSide
plain_side code.Zero = ZeroSide
plain_side code.Pointer = PointerSide
plain_side code.Other = OtherSide

-- the side that an answer is, and one that a form is with this answer
abbrev pub side_of_answer : Result Sorted TypeFault → typing.Side
side_of_answer (Ok a) = side_of_sorted (plain_sorted a)
side_of_answer (Err f) = AnySide

abbrev pub side_in : Form → Result Sorted TypeFault → typing.Side
side_in (Number at n) r = cond (int_eq n (pos 0)) ZeroSide (side_of_answer r)
side_in f r = side_of_answer r

abbrev pub plain_chain : (Sorted × Links) → (typing.Sorted × plain.Links)
plain_chain p = (plain_sorted p.0, plain_links p.1)

abbrev pub plain_link : (Term × Links) → (LogicTerm × plain.Links)
plain_link p = (plain_term p.0, plain_links p.1)
