use Rattle.std.proofs.Common.{◌≡◌, ◌+◌, ◌*◌, ◌≤◌, length, map}
use Rattle.c_syntax.specs.Expressions.{plain_expr}
use Rattle.c_model.specs.ExpressionGrammar.{expression, written_length, brackets, postfix_rest}
use Rattle.c_expr_parser.specs.Reading.{plain_brackets, more_brackets, more_joined, more_arguments, more_parts}
use Rattle.token_reader.specs.Reading.{plain_list}
use Rattle.c_expr_parser.proofs.expression.+expression.Given as goal

abbrev pub decreases-written_length : goal.decreases-written_length
decreases-written_length l = 100 * length l.tokens.now + 51

abbrev pub decreases-written_bracket : goal.decreases-written_bracket
decreases-written_bracket l = 100 * length l.tokens.now + 1

abbrev pub decreases-written_brackets : goal.decreases-written_brackets
decreases-written_brackets l = 100 * length l.tokens.now + 2

abbrev pub invariant-written_brackets-turn : goal.invariant-written_brackets-turn
invariant-written_brackets-turn l = record {
  same : (more_brackets l.words (written_length l.words (expression l.words)) (plain_brackets l.all.items)).parse (plain_list l.rest) ≡ (brackets l.words (written_length l.words (expression l.words))).parse (plain_list l.fn.tokens);
  shorter : length l.rest ≤ length l.fn.tokens;
}

abbrev pub decreases-written_brackets-turn : goal.decreases-written_brackets-turn
decreases-written_brackets-turn l = length l.rest

abbrev pub decreases-type_name : goal.decreases-type_name
decreases-type_name l = 100 * length l.tokens.now + 3

abbrev pub decreases-indexed : goal.decreases-indexed
decreases-indexed l = 100 * length l.tokens.now + 1

abbrev pub decreases-postfix_once : goal.decreases-postfix_once
decreases-postfix_once l = 100 * length l.tokens.now + 2

abbrev pub decreases-postfix_rest : goal.decreases-postfix_rest
decreases-postfix_rest l = 100 * length l.tokens.now + 3

abbrev pub invariant-postfix_rest-turn : goal.invariant-postfix_rest-turn
invariant-postfix_rest-turn l = record {
  same : (postfix_rest l.words (expression l.words) l.first (plain_expr l.x)).parse (plain_list l.rest) ≡ (postfix_rest l.words (expression l.words) l.first (plain_expr l.fn.x)).parse (plain_list l.fn.tokens);
  shorter : length l.rest ≤ length l.fn.tokens;
}

abbrev pub decreases-postfix_rest-turn : goal.decreases-postfix_rest-turn
decreases-postfix_rest-turn l = length l.rest

abbrev pub decreases-sized_type : goal.decreases-sized_type
decreases-sized_type l = 100 * length l.tokens.now + 51

abbrev pub decreases-cast_rest : goal.decreases-cast_rest
decreases-cast_rest l = 100 * length l.tokens.now + 51

abbrev pub decreases-paren_rest : goal.decreases-paren_rest
decreases-paren_rest l = 100 * length l.tokens.now + 51

abbrev pub decreases-behind_paren : goal.decreases-behind_paren
decreases-behind_paren l = 100 * length l.tokens.now + 52

abbrev pub decreases-prefixed : goal.decreases-prefixed
decreases-prefixed l = 100 * length l.tokens.now + 2

abbrev pub decreases-sized : goal.decreases-sized
decreases-sized l = 100 * length l.tokens.now + 2

abbrev pub decreases-bump_first : goal.decreases-bump_first
decreases-bump_first l = 100 * length l.tokens.now + 2

abbrev pub decreases-operand_but_name : goal.decreases-operand_but_name
decreases-operand_but_name l = 100 * length l.tokens.now + 3

abbrev pub decreases-next_argument : goal.decreases-next_argument
decreases-next_argument l = 100 * length l.tokens.now + 1

abbrev pub decreases-more_arguments : goal.decreases-more_arguments
decreases-more_arguments l = 100 * length l.tokens.now + 2

abbrev pub invariant-more_arguments-turn : goal.invariant-more_arguments-turn
invariant-more_arguments-turn l = record {
  same : (more_arguments l.words (map plain_expr l.all.items)).parse (plain_list l.rest) ≡ (more_arguments l.words (map plain_expr l.fn.all.items)).parse (plain_list l.fn.tokens);
  shorter : length l.rest ≤ length l.fn.tokens;
}

abbrev pub decreases-more_arguments-turn : goal.decreases-more_arguments-turn
decreases-more_arguments-turn l = length l.rest

abbrev pub decreases-arguments : goal.decreases-arguments
decreases-arguments l = 100 * length l.tokens.now + 52

abbrev pub decreases-call_rest : goal.decreases-call_rest
decreases-call_rest l = 100 * length l.tokens.now + 1

abbrev pub decreases-behind_variable : goal.decreases-behind_variable
decreases-behind_variable l = 100 * length l.tokens.now + 4

abbrev pub decreases-operand : goal.decreases-operand
decreases-operand l = 100 * length l.tokens.now + 4

abbrev pub decreases-right_operand : goal.decreases-right_operand
decreases-right_operand l = 100 * length l.tokens.now + 60

abbrev pub decreases-joined_once : goal.decreases-joined_once
decreases-joined_once l = 100 * length l.tokens.now + 2 * l.level + 10

abbrev pub decreases-more_joined : goal.decreases-more_joined
decreases-more_joined l = 100 * length l.tokens.now + 2 * l.level + 11

abbrev pub invariant-more_joined-turn : goal.invariant-more_joined-turn
invariant-more_joined-turn l = record {
  same : (more_joined l.words l.level (plain_expr l.left)).parse (plain_list l.rest) ≡ (more_joined l.words l.level (plain_expr l.fn.left)).parse (plain_list l.fn.tokens);
  shorter : length l.rest ≤ length l.fn.tokens;
}

abbrev pub decreases-more_joined-turn : goal.decreases-more_joined-turn
decreases-more_joined-turn l = length l.rest

abbrev pub decreases-behind_operand : goal.decreases-behind_operand
decreases-behind_operand l = 100 * length l.tokens.now + 2 * l.level + 10

abbrev pub decreases-choice_rest : goal.decreases-choice_rest
decreases-choice_rest l = 100 * length l.tokens.now + 5

abbrev pub decreases-conditional_rest : goal.decreases-conditional_rest
decreases-conditional_rest l = 100 * length l.tokens.now + 45

abbrev pub decreases-assigned : goal.decreases-assigned
decreases-assigned l = 100 * length l.tokens.now + 1

abbrev pub decreases-behind_unary : goal.decreases-behind_unary
decreases-behind_unary l = 100 * length l.tokens.now + 46

abbrev pub decreases-behind_form : goal.decreases-behind_form
decreases-behind_form l = 100 * length l.tokens.now + 47

abbrev pub decreases-expression_at : goal.decreases-expression_at
decreases-expression_at l = 100 * length l.tokens.now + 48

abbrev pub decreases-next_part : goal.decreases-next_part
decreases-next_part l = 100 * length l.tokens.now + 1

abbrev pub decreases-more_parts : goal.decreases-more_parts
decreases-more_parts l = 100 * length l.tokens.now + 2

abbrev pub invariant-more_parts-turn : goal.invariant-more_parts-turn
invariant-more_parts-turn l = record {
  same : (more_parts l.words (plain_expr l.left)).parse (plain_list l.rest) ≡ (more_parts l.words (plain_expr l.fn.left)).parse (plain_list l.fn.tokens);
  shorter : length l.rest ≤ length l.fn.tokens;
}

abbrev pub decreases-more_parts-turn : goal.decreases-more_parts-turn
decreases-more_parts-turn l = length l.rest

abbrev pub decreases-expression : goal.decreases-expression
decreases-expression l = 100 * length l.tokens.now + 50
