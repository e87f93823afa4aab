-- What a quantifier of annotations does (ACSL 2.2): the values of each binder are tried from the least upward, a step for each, until one decides
-- or says nothing. That a value takes a step, and in which order they are tried, is ours.
use Rattle.std.specs.Prelude.{ℕ, zero, suc, ℤ, pos, ◌+ℤ◌, Bool, true, false, List, [], ◌∷◌, Option, Some, None}
use Rattle.std.specs.Int.{int_min, int_max, int_gap}
use Rattle.c_syntax.specs.Formulas.{CastType, Integers, OfC}
use Rattle.c_syntax.specs.declared.logic.Quantifier.{Quantifier}
use Rattle.c_syntax.specs.declared.logic.Quantifier.TheVariants.{ForAll, Exists}
use Rattle.c_syntax.specs.Logic.{Binder}
use Rattle.c_model.specs.Integers.{integer_type}
use Rattle.c_model.specs.Logic.{TermValue, Mathematical, Addressed, Answer, Says, SaysNothing, OutOfSteps, lazily, Environment, always}
use Rattle.c_model.specs.TermRanges.{type_range, raised}

-- what is said where no value decides
abbrev pub undecided : Quantifier → Bool
undecided ForAll = true
undecided Exists = false

-- what one value says, and where that doesn't decide what the others say
abbrev pub deciding : Quantifier → Answer → (ℕ → Answer) → Answer
deciding ForAll a rest = lazily a rest (Says false)
deciding Exists a rest = lazily a (Says true) rest

-- so many values from this one on, with so many steps left
abbrev pub tries : Quantifier → ℕ → ℤ → (ℤ → ℕ → Answer) → ℕ → Answer
tries q zero v p n = Says (undecided q) n
tries q (suc k) v p zero = OutOfSteps
tries q (suc k) v p (suc n) = deciding q (p v n) (tries q k (v +ℤ pos 1) p)

-- ---- bounds

-- a binder of a type of C tries values of the type alone
abbrev pub first_of : CastType → ℤ → ℤ
first_of Integers l = l
first_of (OfC t) l = elim (integer_type t) [ None ↦ l | Some k ↦ int_max l (type_range k).lo ]

abbrev pub last_of : CastType → ℤ → ℤ
last_of Integers h = h
last_of (OfC t) h = elim (integer_type t) [ None ↦ h | Some k ↦ int_min h (type_range k).hi ]

-- how many values there are from one to another, both included
abbrev pub values : ℤ → ℤ → ℕ
values l h = int_gap l (h +ℤ pos 1)

-- the binders of a chain, each from the value before it on, by the sign before it, up to the last value of the chain
abbrev pub over : Quantifier → ℤ → List Binder → ℤ → (Environment → ℕ → Answer) → Environment → ℕ → Answer
over q l [] h p e n = p e n
over q l (b ∷ bs) h p e n =
    tries q (values (first_of b.kind (raised b.above l)) (last_of b.kind h)) (first_of b.kind (raised b.above l))
    (λ v. over q v bs h p ((b.place.offset, always (Mathematical v)) ∷ e)) n

-- goes on with both bounds; a quantifier says nothing where one has no value
abbrev pub between : Option TermValue → Option TermValue → (ℤ → ℤ → ℕ → Answer) → ℕ → Answer
between None b f n = SaysNothing n
between (Some (Addressed x)) b f n = SaysNothing n
between (Some (Mathematical l)) None f n = SaysNothing n
between (Some (Mathematical l)) (Some (Addressed y)) f n = SaysNothing n
between (Some (Mathematical l)) (Some (Mathematical h)) f n = f l h n
