-- Where the letters of an expression are values of `char`, so are those of what is evaluated of it, as a value and for its effects alone.
use Rattle.std.proofs.Common.{Bool, true, false, ◌&&◌}
use Rattle.c_syntax.specs.Expressions as source
use Rattle.c_syntax.specs.Expressions.{Expression, Node, Expressions, NoExpression, Following}
use Rattle.c_model.specs.LetterValues.{LettersFit, AllLettersFit}
use Rattle.c_effects.specs.Full.{is_pure}
use Rattle.c_simulation.specs.EffectLaws.{LettersOfActs, LettersOfValues}
use Rattle.c_effects.specs.Letters.{Where, ValueHasLetters, ValuesHaveLetters, ActHasLetters}

either_way : {P Q : Type 0} (b : Bool) → P → Q → Where b P Q
either_way true p q = p
either_way false p q = q

mutual
  value_has_letters : (e : Expression) → LettersFit e → ValueHasLetters e
  value_has_letters (Node at t (source.Number n k)) h = tt
  value_has_letters (Node at t (source.Letter n)) h = record { low = h.low; high = h.high }
  value_has_letters (Node at t (source.Text n)) h = tt
  value_has_letters (Node at t (source.Variable x)) h = tt
  value_has_letters (Node at t (source.Unary op a)) h = value_has_letters a h
  value_has_letters (Node at t (source.Binary op a b)) h = (value_has_letters a h.0, value_has_letters b h.1)
  value_has_letters (Node at t (source.Both a b)) h = (value_has_letters a h.0, value_has_letters b h.1)
  value_has_letters (Node at t (source.Either a b)) h = (value_has_letters a h.0, value_has_letters b h.1)
  value_has_letters (Node at t (source.Choice a b c)) h = (value_has_letters a h.0, value_has_letters b h.1, value_has_letters c h.2)
  value_has_letters (Node at t (source.Assign op a b)) h = (value_has_letters a h.0, value_has_letters b h.1)
  value_has_letters (Node at t (source.Bump op a)) h = value_has_letters a h
  value_has_letters (Node at t (source.Call f es)) h = values_have_letters es h
  value_has_letters (Node at t (source.Cast to a)) h = value_has_letters a h
  value_has_letters (Node at t (source.SizeOfType u)) h = tt
  value_has_letters (Node at t (source.SizeOfExpr a)) h = tt
  value_has_letters (Node at t (source.Index a b)) h = (value_has_letters a h.0, value_has_letters b h.1)
  value_has_letters (Node at t (source.Dot a m)) h = value_has_letters a h
  value_has_letters (Node at t (source.Arrow a m)) h = value_has_letters a h
  value_has_letters (Node at t (source.Comma a b)) h = (act_has_letters a h.0, value_has_letters b h.1)

  values_have_letters : (es : Expressions) → AllLettersFit es → ValuesHaveLetters es
  values_have_letters NoExpression h = tt
  values_have_letters (Following e es) h = (value_has_letters e h.0, values_have_letters es h.1)

  act_has_letters : (e : Expression) → LettersFit e → ActHasLetters e
  act_has_letters (Node at t (source.Number n k)) h = tt
  act_has_letters (Node at t (source.Letter n)) h = tt
  act_has_letters (Node at t (source.Text n)) h = tt
  act_has_letters (Node at t (source.Variable x)) h = tt
  act_has_letters (Node at t (source.Unary op a)) h = act_has_letters a h
  act_has_letters (Node at t (source.Binary op a b)) h = (act_has_letters a h.0, act_has_letters b h.1)
  act_has_letters (Node at t (source.Both a b)) h = either_way (is_pure b) (act_has_letters a h.0) (value_has_letters a h.0, act_has_letters b h.1)
  act_has_letters (Node at t (source.Either a b)) h = either_way (is_pure b) (act_has_letters a h.0) (value_has_letters a h.0, act_has_letters b h.1)
  act_has_letters (Node at t (source.Choice a b c)) h = either_way (is_pure b && is_pure c) (act_has_letters a h.0) (value_has_letters a h.0, act_has_letters b h.1, act_has_letters c h.2)
  act_has_letters (Node at t (source.Assign op a b)) h = (value_has_letters a h.0, value_has_letters b h.1)
  act_has_letters (Node at t (source.Bump op a)) h = value_has_letters a h
  act_has_letters (Node at t (source.Call f es)) h = values_have_letters es h
  act_has_letters (Node at t (source.Cast to a)) h = act_has_letters a h
  act_has_letters (Node at t (source.SizeOfType u)) h = tt
  act_has_letters (Node at t (source.SizeOfExpr a)) h = tt
  act_has_letters (Node at t (source.Index a b)) h = (act_has_letters a h.0, act_has_letters b h.1)
  act_has_letters (Node at t (source.Dot a m)) h = act_has_letters a h
  act_has_letters (Node at t (source.Arrow a m)) h = act_has_letters a h
  act_has_letters (Node at t (source.Comma a b)) h = (act_has_letters a h.0, act_has_letters b h.1)

pub letters_of_values : LettersOfValues
letters_of_values e h = value_has_letters e h

pub letters_of_acts : LettersOfActs
letters_of_acts e h = act_has_letters e h
