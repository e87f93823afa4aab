use Rattle.std.proofs.Common.{◌≡◌, ℕ, ◌+◌, ◌*◌, ◌≤◌, length, map}
use Rattle.c_syntax.specs.Formulas.{plain_form, plain_form_zone}
use Rattle.c_model.specs.declared.formulas.FormulaMode.TheVariants.{Zone}
use Rattle.c_model.specs.AnnotationGrammar.{postfixes, joined_more, sum_more, forms, form}
use Rattle.acsl_parser.specs.declared.tables.Level.{Level}
use Rattle.acsl_parser.specs.declared.tables.Level.TheVariants as level
use Rattle.acsl_parser.specs.Reading.{any_zone, operators, operand, more_zones, plain_spanned}
use Rattle.token_reader.specs.Reading.{plain_list}
use Rattle.acsl_parser.proofs.+formula.Given as goal

-- how far the operand of a level is above a prefix form
abbrev height : Level → ℕ
height level.Product = 12
height level.Sum = 14
height level.Shift = 16
height level.BitAnd = 19
height level.BitXor = 21
height level.BitOr = 23
height level.Conjunction = 25
height level.Exclusion = 27
height level.Disjunction = 29
height level.Equivalence = 32

abbrev pub decreases-prefix::cast_behind : goal.decreases-prefix::cast_behind
decreases-prefix::cast_behind l = 100 * length l.tokens.now + 1

abbrev pub decreases-prefix::cast_to_type : goal.decreases-prefix::cast_to_type
decreases-prefix::cast_to_type l = 100 * length l.tokens.now + 2

abbrev pub decreases-prefix::cast_to_integer : goal.decreases-prefix::cast_to_integer
decreases-prefix::cast_to_integer l = 100 * length l.tokens.now + 2

abbrev pub decreases-prefix::indexed : goal.decreases-prefix::indexed
decreases-prefix::indexed l = 100 * length l.tokens.now + 1

abbrev pub decreases-prefix::postfix_once : goal.decreases-prefix::postfix_once
decreases-prefix::postfix_once l = 100 * length l.tokens.now + 2

abbrev pub decreases-prefix::postfixes : goal.decreases-prefix::postfixes
decreases-prefix::postfixes l = 100 * length l.tokens.now + 3

abbrev pub invariant-prefix::postfixes-turn : goal.invariant-prefix::postfixes-turn
invariant-prefix::postfixes-turn l = record {
  same : (postfixes l.words (form l.words) (plain_form l.left)).parse (plain_list l.rest) ≡ (postfixes l.words (form l.words) (plain_form l.fn.left)).parse (plain_list l.fn.tokens);
  shorter : length l.rest ≤ length l.fn.tokens;
}

abbrev pub decreases-prefix::postfixes-turn : goal.decreases-prefix::postfixes-turn
decreases-prefix::postfixes-turn l = length l.rest

abbrev pub decreases-prefix::closed_postfix : goal.decreases-prefix::closed_postfix
decreases-prefix::closed_postfix l = 100 * length l.tokens.now + 1

abbrev pub decreases-prefix::parenthesised : goal.decreases-prefix::parenthesised
decreases-prefix::parenthesised l = 100 * length l.tokens.now + 40

abbrev pub decreases-prefix::behind_parenthesis : goal.decreases-prefix::behind_parenthesis
decreases-prefix::behind_parenthesis l = 100 * length l.tokens.now + 41

abbrev pub decreases-prefix::prefixed : goal.decreases-prefix::prefixed
decreases-prefix::prefixed l = 100 * length l.tokens.now + 1

abbrev pub decreases-prefix::quantified : goal.decreases-prefix::quantified
decreases-prefix::quantified l = 100 * length l.tokens.now + 1

abbrev pub decreases-primary::old_form : goal.decreases-primary::old_form
decreases-primary::old_form l = 100 * length l.tokens.now + 1

abbrev pub decreases-primary::labelled_form : goal.decreases-primary::labelled_form
decreases-primary::labelled_form l = 100 * length l.tokens.now + 1

abbrev pub decreases-primary::told_form : goal.decreases-primary::told_form
decreases-primary::told_form l = 100 * length l.tokens.now + 1

abbrev pub decreases-primary::asked_form : goal.decreases-primary::asked_form
decreases-primary::asked_form l = 100 * length l.tokens.now + 1

abbrev pub decreases-primary::next_zone : goal.decreases-primary::next_zone
decreases-primary::next_zone l = 100 * length l.tokens.now + 1

abbrev pub decreases-primary::more_zones : goal.decreases-primary::more_zones
decreases-primary::more_zones l = 100 * length l.tokens.now + 2

abbrev pub invariant-primary::more_zones-turn : goal.invariant-primary::more_zones-turn
invariant-primary::more_zones-turn l = record {
  same : (more_zones l.words (map plain_form_zone l.all.items)).parse (plain_list l.rest) ≡ (more_zones l.words (map plain_form_zone l.fn.all.items)).parse (plain_list l.fn.tokens);
  shorter : length l.rest ≤ length l.fn.tokens;
}

abbrev pub decreases-primary::more_zones-turn : goal.decreases-primary::more_zones-turn
decreases-primary::more_zones-turn l = length l.rest

abbrev pub decreases-primary::some_zones : goal.decreases-primary::some_zones
decreases-primary::some_zones l = 100 * length l.tokens.now + 40

abbrev pub decreases-primary::separated_form : goal.decreases-primary::separated_form
decreases-primary::separated_form l = 100 * length l.tokens.now + 1

abbrev pub decreases-primary::worded : goal.decreases-primary::worded
decreases-primary::worded l = 100 * length l.tokens.now + 2

abbrev pub decreases-prefix::worded_postfix : goal.decreases-prefix::worded_postfix
decreases-prefix::worded_postfix l = 100 * length l.tokens.now + 4

abbrev pub decreases-prefix::bare_prefix : goal.decreases-prefix::bare_prefix
decreases-prefix::bare_prefix l = 100 * length l.tokens.now + 5

abbrev pub decreases-prefix::prefix : goal.decreases-prefix::prefix
decreases-prefix::prefix l = 100 * length l.tokens.now + 10

abbrev pub decreases-formula::operand : goal.decreases-formula::operand
decreases-formula::operand l = 100 * length l.tokens.now + height l.level

abbrev pub decreases-formula::joined_once : goal.decreases-formula::joined_once
decreases-formula::joined_once l = 100 * length l.tokens.now + 1

abbrev pub decreases-formula::joined_more : goal.decreases-formula::joined_more
decreases-formula::joined_more l = 100 * length l.tokens.now + 2

abbrev pub invariant-formula::joined_more-turn : goal.invariant-formula::joined_more-turn
invariant-formula::joined_more-turn l = record {
  same : (joined_more l.words (operators l.level) (operand l.words l.mode l.level) (plain_spanned (l.left, l.range))).parse (plain_list l.rest) ≡
      (joined_more l.words (operators l.level) (operand l.words l.mode l.level) (plain_spanned l.fn.left)).parse (plain_list l.fn.tokens);
  shorter : length l.rest ≤ length l.fn.tokens;
}

abbrev pub decreases-formula::joined_more-turn : goal.decreases-formula::joined_more-turn
decreases-formula::joined_more-turn l = length l.rest

abbrev pub decreases-formula::joined : goal.decreases-formula::joined
decreases-formula::joined l = 100 * length l.tokens.now + height l.level + 1

abbrev pub decreases-sum::added_rest : goal.decreases-sum::added_rest
decreases-sum::added_rest l = 100 * length l.tokens.now + 3

abbrev pub decreases-sum::ranged : goal.decreases-sum::ranged
decreases-sum::ranged l = 100 * length l.tokens.now + 1

abbrev pub decreases-sum::behind_first : goal.decreases-sum::behind_first
decreases-sum::behind_first l = 100 * length l.tokens.now + 2

abbrev pub decreases-sum::added_parenthesis : goal.decreases-sum::added_parenthesis
decreases-sum::added_parenthesis l = 100 * length l.tokens.now + 42

abbrev pub decreases-sum::added : goal.decreases-sum::added
decreases-sum::added l = 100 * length l.tokens.now + 20

abbrev pub decreases-sum::subtracted : goal.decreases-sum::subtracted
decreases-sum::subtracted l = 100 * length l.tokens.now + 1

abbrev pub decreases-sum::sum_once : goal.decreases-sum::sum_once
decreases-sum::sum_once l = 100 * length l.tokens.now + 2

abbrev pub decreases-sum::sum_more : goal.decreases-sum::sum_more
decreases-sum::sum_more l = 100 * length l.tokens.now + 3

abbrev pub invariant-sum::sum_more-turn : goal.invariant-sum::sum_more-turn
invariant-sum::sum_more-turn l = record {
  same : (sum_more l.words (form l.words) (any_zone l.words) (forms l.words Zone) (plain_spanned (l.left, l.range))).parse (plain_list l.rest) ≡
      (sum_more l.words (form l.words) (any_zone l.words) (forms l.words Zone) (plain_spanned l.fn.left)).parse (plain_list l.fn.tokens);
  shorter : length l.rest ≤ length l.fn.tokens;
}

abbrev pub decreases-sum::sum_more-turn : goal.decreases-sum::sum_more-turn
decreases-sum::sum_more-turn l = length l.rest

abbrev pub decreases-sum::zone_sum : goal.decreases-sum::zone_sum
decreases-sum::zone_sum l = 100 * length l.tokens.now + 15

abbrev pub decreases-formula::linked : goal.decreases-formula::linked
decreases-formula::linked l = 100 * length l.tokens.now + 1

abbrev pub decreases-formula::links : goal.decreases-formula::links
decreases-formula::links l = 100 * length l.tokens.now + 2

abbrev pub decreases-formula::links_behind : goal.decreases-formula::links_behind
decreases-formula::links_behind l = 100 * length l.tokens.now + 3

abbrev pub decreases-formula::chain_behind : goal.decreases-formula::chain_behind
decreases-formula::chain_behind l = 100 * length l.tokens.now + 4

abbrev pub decreases-formula::chain : goal.decreases-formula::chain
decreases-formula::chain l = 100 * length l.tokens.now + 18

abbrev pub decreases-formula::implication_behind : goal.decreases-formula::implication_behind
decreases-formula::implication_behind l = 100 * length l.tokens.now + 1

abbrev pub decreases-formula::implication : goal.decreases-formula::implication
decreases-formula::implication l = 100 * length l.tokens.now + 31

abbrev pub decreases-formula::chosen_behind : goal.decreases-formula::chosen_behind
decreases-formula::chosen_behind l = 100 * length l.tokens.now + 1

abbrev pub decreases-formula::choice_behind : goal.decreases-formula::choice_behind
decreases-formula::choice_behind l = 100 * length l.tokens.now + 2

abbrev pub decreases-formula::forms : goal.decreases-formula::forms
decreases-formula::forms l = 100 * length l.tokens.now + 34

abbrev pub decreases-formula::form : goal.decreases-formula::form
decreases-formula::form l = 100 * length l.tokens.now + 35

abbrev pub decreases-formula::zone : goal.decreases-formula::zone
decreases-formula::zone l = 100 * length l.tokens.now + 35
