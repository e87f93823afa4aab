-- Initialisers in parts: the parts of an object that are left, and what is made of one of them.
use Rattle.std.specs.Prelude.{ℕ, zero, suc, ◌+◌, List, [], ◌∷◌, map, Option, Some, None}
use Rattle.c_syntax.specs.declared.expression.Expr.{Expr}
use Rattle.c_syntax.specs.declared.place.Place.{Place}
use Rattle.c_syntax.specs.Ctypes.{PlainType, plain_type}
use Rattle.c_syntax.specs.Expressions.{Expression, plain_expr}
use Rattle.c_syntax.specs.Programs.{StructType, TranslationUnit, plain_member}
use Rattle.c_syntax.specs.Statements.{Initialiser, One, Initialisers, Declaration}
use Rattle.c_syntax.specs.Layouts.{scalar_of, parts_of, elements, member_parts}
use Rattle.c_model.specs.Meaning.{string_in}
use Rattle.mon_syntax.specs.declared.tree.MonType.{MonType}
use Rattle.mon_syntax.specs.Registers.{Names}
use Rattle.mon_syntax.specs.Trees.{MonStatements, NoStatement}
use Rattle.c_initialisers.specs.declared.aggregate.Parts.{Parts}
use Rattle.c_initialisers.specs.declared.aggregate.Parts.TheVariants.{Elements, Members}
use Rattle.c_effects.specs.declared.slot.Slot.{Slot}
use Rattle.c_initialisers.specs.Translation.{bytes_at, fill, fill_one, fill_parts, initial_temporaries, initialise, initialise_all, initialise_local}
use Rattle.c_effects.specs.Named.{unit_of}

-- ---- parts of objects

-- the parts of an object in braces: a scalar is its own part (C99 6.7.8 p11, p17)
abbrev pub parts_in : List StructType → PlainType → List (ℕ × PlainType)
parts_in structs t = elim (scalar_of t) [ None ↦ parts_of structs t | Some k ↦ (0, t) ∷ [] ]

abbrev pub plain_parts : Parts → List (ℕ × PlainType)
plain_parts (Elements offset size count t) = elements offset size count (plain_type t.now)
plain_parts (Members members) = member_parts (map plain_member members.now)

abbrev pub first_part : List (ℕ × PlainType) → Option (ℕ × PlainType)
first_part [] = None
first_part (c ∷ cs) = Some c

-- ---- stores into parts

-- the first byte and those after it, where one is left of so many
abbrev pub next_byte : ℕ → List ℕ → Option (ℕ × List ℕ)
next_byte zero bytes = None
next_byte (suc n) [] = None
next_byte (suc n) (b ∷ bs) = Some (b, bs)

abbrev pub bytes_in : Slot → ℕ → List ℕ → MonStatements
bytes_in s n bytes = bytes_at s.object s.pointer s.offset n bytes

-- ---- initialisers, where a function's names are these

abbrev pub fill_one_by : Names → ℕ → ℕ → PlainType → Expression → MonStatements
fill_one_by n r d t e = fill_one (unit_of n) n.table.bound r d n.table.kinds t (string_in e) e

abbrev pub fill_by : Names → ℕ → ℕ → PlainType → Initialiser → MonStatements
fill_by n r d t i = fill (unit_of n) n.table.bound r d n.table.kinds t i

abbrev pub fill_parts_by : Names → ℕ → ℕ → List (ℕ × PlainType) → Initialisers → MonStatements
fill_parts_by n r d cs is = fill_parts (unit_of n) n.table.bound r d n.table.kinds cs is

-- the first of these parts takes an initialiser, if there is one
abbrev pub fill_first_by : Names → ℕ → ℕ → List (ℕ × PlainType) → Initialiser → MonStatements
fill_first_by n r d [] i = NoStatement
fill_first_by n r d (c ∷ cs) i = fill_by n r (d + c.0) c.1 i

-- an object takes its initialiser; the place of `=` plays no part in that
abbrev pub anywhere : Place
anywhere = record { line = 1; column = 1; offset = 0 }

abbrev pub initialise_object_by : Names → ℕ → PlainType → Initialiser → MonStatements
initialise_object_by n r t i = initialise (unit_of n) n.table.bound n.table.kinds r t (Some (anywhere, i))

abbrev pub object_temporaries : TranslationUnit → Initialiser → List MonType
object_temporaries p i = initial_temporaries p (Some (anywhere, i))

-- an object takes the value of an expression
abbrev pub initialise_one_by : Names → ℕ → PlainType → Expr → MonStatements
initialise_one_by n r t e = initialise_object_by n r t (One (plain_expr e))

abbrev pub initialise_by : Names → ℕ → PlainType → Option (Place × Initialiser) → MonStatements
initialise_by n x t init = initialise (unit_of n) n.table.bound n.table.kinds x t init

abbrev pub initialise_local_by : Names → Declaration → MonStatements
initialise_local_by n d = initialise_local (unit_of n) n.table.bound n.table.kinds d

abbrev pub initialise_all_by : Names → List Declaration → MonStatements
initialise_all_by n ds = initialise_all (unit_of n) n.table.bound n.table.kinds ds
