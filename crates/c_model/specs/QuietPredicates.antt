-- Ours: predicates that take no step, as the conditions of terms are (ACSL 2.2).
use Rattle.c_syntax.specs.Logic.{Predicate, Truth, NonZero, Chain, Not, Connected, Branch, Quantified, Asks, Separated}

-- no quantifier stands in it
abbrev pub IsQuiet : Predicate → Type 0
IsQuiet (Truth at b) = Unit {0}
IsQuiet (NonZero at t) = Unit {0}
IsQuiet (Chain at t links) = Unit {0}
IsQuiet (Not at p) = IsQuiet p
IsQuiet (Connected at c p q) = IsQuiet p × IsQuiet q
IsQuiet (Branch at c p q) = IsQuiet c × IsQuiet p × IsQuiet q
IsQuiet (Quantified at q gs p) = ⊥
IsQuiet (Asks at f z) = Unit {0}
IsQuiet (Separated at zs) = Unit {0}
