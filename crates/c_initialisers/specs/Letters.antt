-- What the types of a tree bound in initialisers: a letter is a value of `char`.
use Rattle.std.specs.Prelude.{List, [], ◌∷◌, Option, Some, None}
use Rattle.c_syntax.specs.declared.place.Place.{Place}
use Rattle.c_syntax.specs.Statements.{Initialiser, One, Many, Initialisers, NoInitialiser, Listed, Declaration}
use Rattle.c_effects.specs.Letters.{ValueHasLetters}

abbrev mutual
  pub InitialiserHasLetters : Initialiser → Type 0
  InitialiserHasLetters (One e) = ValueHasLetters e
  InitialiserHasLetters (Many brace is) = InitialisersHaveLetters is

  pub InitialisersHaveLetters : Initialisers → Type 0
  InitialisersHaveLetters NoInitialiser = Unit {0}
  InitialisersHaveLetters (Listed i is) = InitialiserHasLetters i × InitialisersHaveLetters is

abbrev pub InitialHasLetters : Option (Place × Initialiser) → Type 0
InitialHasLetters None = Unit {0}
InitialHasLetters (Some x) = InitialiserHasLetters x.1

abbrev pub InitialsHaveLetters : List Declaration → Type 0
InitialsHaveLetters [] = Unit {0}
InitialsHaveLetters (d ∷ ds) = InitialHasLetters d.init × InitialsHaveLetters ds
