-- Ours: the laws of the ranges that trees of annotations keep.
-- Each value of a term (ACSL 2.2) lies in the range that the term keeps, and that range is one of signed 128 bits.
use Rattle.std.specs.Prelude.{◌≡◌, ℤ, true, [], ◌∷◌, Some}
use Rattle.c_syntax.specs.declared.annotation.Range.{Range}
use Rattle.c_syntax.specs.declared.types.CInt.{CInt}
use Rattle.c_syntax.specs.Logic.{LogicTerm, range_of}
use Rattle.c_syntax.specs.Layouts.{IntegerType}
use Rattle.c_model.specs.Integers.{fits}
use Rattle.c_model.specs.Memory.{Pointer, Integer, Store, load}
use Rattle.c_model.specs.SoundStates.{IsSound}
use Rattle.c_model.specs.State.{State}
use Rattle.c_model.specs.Logic.{Mathematical, Environment}
use Rattle.c_model.specs.Predicates.{term}
use Rattle.c_model.specs.Ranges.{IsRange, IsWithin128, LiesIn}
use Rattle.c_model.specs.BasicTerms.{IsBasicTerm}
use Rattle.c_model.specs.TermRanges.{Seen, TermRanged}

-- what is read as an integer type is a value of the type (C99 6.2.6.1 p5); so it is where each byte of a store is below 256
pub record LoadsFit (store : Store) : Type 0 where
  pub value : (p : Pointer) (k : CInt) (z : ℤ) → load store p (IntegerType k) ≡ Some (Integer z) → fits k z ≡ true

-- so it is in a sound store
abbrev pub SoundStoresLoad : Type 0
SoundStoresLoad = (store : Store) → IsSound store → LoadsFit store

-- what holds of the range of each name in sight
abbrev pub AreSeen : (Range → Type 0) → Seen → Type 0
AreSeen P [] = Unit {0}
AreSeen P (x ∷ rest) = P x.1 × AreSeen P rest

-- the value of a term over integers and variables
abbrev pub ValuesLieInRanges : Type 0
ValuesLieInRanges = (seen : Seen) (t : LogicTerm) (s : State) (e : Environment) (z : ℤ) → LoadsFit s.store → IsBasicTerm t → TermRanged seen t
    → term t s e ≡ Some (Mathematical z) → LiesIn (range_of t) z

-- the range has a number in it
abbrev pub RangesAreOrdered : Type 0
RangesAreOrdered = (seen : Seen) (t : LogicTerm) → AreSeen IsRange seen → TermRanged seen t → IsRange (range_of t)

abbrev pub RangesAreWithin128 : Type 0
RangesAreWithin128 = (seen : Seen) (t : LogicTerm) → AreSeen IsWithin128 seen → TermRanged seen t → IsWithin128 (range_of t)
