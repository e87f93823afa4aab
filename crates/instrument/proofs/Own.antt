-- Declarations whose numbers are offsets of the text, and none of the library.
use Rattle.std.proofs.Common.{◌≡◌, ◌≤◌, ℕ, suc, true, false, nat_eq, List, [], ◌∷◌, ◌++◌, map, length, arith}
use Rattle.std.proofs.lemmas.Bool.Decides.{nat_tests}
use Rattle.c_syntax.specs.Statements.{Declaration, Statement, Empty, Eval, Block, If, While, Do, For, Break, Continue, Return, Labelled, Switch, Cases, NoCase, AnotherCase, ElsePart, NoElse, Else, ForFirst, NoFirst, First}
use Rattle.c_syntax.specs.Statements.{BlockItem, Declare, Specify, Run, Asserts, BlockItems, NoItem, Then}
use Rattle.c_model.specs.Formed.{number_of, declared_within, declared_in_cases, declared_in_else, declared_in_first, declared_in_item, declared_in_items}
use Rattle.c_model.specs.Meaning.{declared_first}
use Rattle.c_model.specs.TextOrder.{Between}
use Rattle.c_syntax.specs.Programs.{TranslationUnit}
use Rattle.c_syntax.specs.Layouts.{size_of}
use Rattle.c_initialisers.specs.Translation.{may_be_born}
use Rattle.c_effects.specs.Expressions.{global_index}

abbrev pub AreOwn : List Declaration → Type 0
AreOwn [] = Unit {0}
AreOwn (d ∷ ds) = (nat_eq (number_of d) 4294967295 ≡ false) × AreOwn ds

differs : (low high n : ℕ) → low ≤ n → suc n ≤ high → high ≤ 4294967295 → nat_eq n 4294967295 ≡ false
differs low high n le lt most = grind (arith, nat_tests)

bound : (low high : ℕ) (ds : List Declaration) → Between low (map number_of ds) high → low ≤ high
bound low high [] b = b
bound low high (d ∷ ds) b = let rest = bound (suc (number_of d)) high ds b.1 in let first = b.0 in omega (arith, first, rest)

-- numbers up to that of the library
pub between_own : (low high : ℕ) (ds : List Declaration) → Between low (map number_of ds) high → high ≤ 4294967295 → AreOwn ds
between_own low high [] b le = tt
between_own low high (d ∷ ds) b le = (differs low high (number_of d) b.0 (bound (suc (number_of d)) high ds b.1) le, between_own (suc (number_of d)) high ds b.1 le)

pub own_parts : (a b : List Declaration) → AreOwn (a ++ b) → AreOwn a × AreOwn b
own_parts [] b h = (tt, h)
own_parts (d ∷ a) b h = let rest = own_parts a b h.1 in ((h.0, rest.0), rest.1)

-- ---- declarations that are no globals

abbrev pub IsLocal : TranslationUnit → Declaration → Type 0
IsLocal p d = length p.globals ≤ global_index (number_of d) p.globals

abbrev pub AreLocal : TranslationUnit → List Declaration → Type 0
AreLocal p [] = Unit {0}
AreLocal p (d ∷ ds) = IsLocal p d × AreLocal p ds

-- for whose block some stack may have room
abbrev pub CanBeBorn : TranslationUnit → Declaration → Type 0
CanBeBorn p d = may_be_born (size_of p.structs d.ctype) ≡ true

abbrev pub AllCanBeBorn : TranslationUnit → List Declaration → Type 0
AllCanBeBorn p [] = Unit {0}
AllCanBeBorn p (d ∷ ds) = CanBeBorn p d × AllCanBeBorn p ds

-- variables of functions that were born
abbrev pub AreThere : TranslationUnit → List Declaration → Type 0
AreThere p [] = Unit {0}
AreThere p (d ∷ ds) = (IsLocal p d × CanBeBorn p d) × AreThere p ds

pub are_there : (p : TranslationUnit) (ds : List Declaration) → AreLocal p ds → AllCanBeBorn p ds → AreThere p ds
are_there p [] local born = tt
are_there p (d ∷ ds) local born = ((local.0, born.0), are_there p ds local.1 born.1)

-- ---- declarations in statements

abbrev mutual
  pub StatementOwn : Statement → Type 0
  StatementOwn (Empty at) = Unit {0}
  StatementOwn (Eval at e) = Unit {0}
  StatementOwn (Block at items) = ItemsOwn items
  StatementOwn (If at e a b) = StatementOwn a × ElseOwn b
  StatementOwn (While at annots e a) = StatementOwn a
  StatementOwn (Do at a e) = StatementOwn a
  StatementOwn (For at annots first e step a) = AreOwn (declared_first first) × StatementOwn a
  StatementOwn (Break at) = Unit {0}
  StatementOwn (Continue at) = Unit {0}
  StatementOwn (Return at e) = Unit {0}
  StatementOwn (Labelled at l a) = StatementOwn a
  StatementOwn (Switch at e cases) = CasesOwn cases

  pub CasesOwn : Cases → Type 0
  CasesOwn NoCase = Unit {0}
  CasesOwn (AnotherCase at v items rest) = ItemsOwn items × CasesOwn rest

  pub ElseOwn : ElsePart → Type 0
  ElseOwn NoElse = Unit {0}
  ElseOwn (Else a) = StatementOwn a

  pub ItemOwn : BlockItem → Type 0
  ItemOwn (Declare ds) = AreOwn ds
  ItemOwn (Run a) = StatementOwn a
  ItemOwn (Specify at t) = Unit {0}
  ItemOwn (Asserts annots) = Unit {0}

  pub ItemsOwn : BlockItems → Type 0
  ItemsOwn NoItem = Unit {0}
  ItemsOwn (Then i rest) = ItemOwn i × ItemsOwn rest

first_own : (first : ForFirst) → AreOwn (declared_in_first first) → AreOwn (declared_first first)
first_own NoFirst h = tt
first_own (First (Declare ds)) h = h
first_own (First (Run a)) h = tt
first_own (First (Specify at t)) h = tt
first_own (First (Asserts annots)) h = tt

mutual
  statement_own : (a : Statement) → AreOwn (declared_within a) → StatementOwn a
  statement_own (Empty at) h = tt
  statement_own (Eval at e) h = tt
  statement_own (Block at items) h = items_own items h
  statement_own (If at e a b) h = let parts = own_parts (declared_within a) (declared_in_else b) h in (statement_own a parts.0, else_own b parts.1)
  statement_own (While at annots e a) h = statement_own a h
  statement_own (Do at a e) h = statement_own a h
  statement_own (For at annots first e step a) h = let parts = own_parts (declared_in_first first) (declared_within a) h in (first_own first parts.0, statement_own a parts.1)
  statement_own (Break at) h = tt
  statement_own (Continue at) h = tt
  statement_own (Return at e) h = tt
  statement_own (Labelled at l a) h = statement_own a h
  statement_own (Switch at e cases) h = cases_own cases h

  cases_own : (cs : Cases) → AreOwn (declared_in_cases cs) → CasesOwn cs
  cases_own NoCase h = tt
  cases_own (AnotherCase at v items rest) h = let parts = own_parts (declared_in_items items) (declared_in_cases rest) h in (items_own items parts.0, cases_own rest parts.1)

  else_own : (b : ElsePart) → AreOwn (declared_in_else b) → ElseOwn b
  else_own NoElse h = tt
  else_own (Else a) h = statement_own a h

  pub items_own : (is : BlockItems) → AreOwn (declared_in_items is) → ItemsOwn is
  items_own NoItem h = tt
  items_own (Then i rest) h = let parts = own_parts (declared_in_item i) (declared_in_items rest) h in (item_own i parts.0, items_own rest parts.1)

  item_own : (i : BlockItem) → AreOwn (declared_in_item i) → ItemOwn i
  item_own (Declare ds) h = h
  item_own (Run a) h = statement_own a h
  item_own (Specify at t) h = tt
  item_own (Asserts annots) h = tt
