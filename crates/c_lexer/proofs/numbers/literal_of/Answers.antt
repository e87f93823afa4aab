use Rattle.std.proofs.Common.{◌∙◌, sym}
use Rattle.c_lexer.proofs.Digits.{literal_is, great_front}
use Rattle.c_lexer.proofs.numbers.literal_of.Goals as goal

pub returns-in_default-more_digits-clause-value : goal.returns-in_default-more_digits-clause-value
returns-in_default-more_digits-clause-value c =
    great_front c.turn.value c.turn.rest.now _ c.in-len1-up.len_at_least (sym c.if-not-is_digit.ensures) c.in_default-more_digits.ensures c.turn.invariant.same ∙ sym (literal_is c.args.bytes.now)
