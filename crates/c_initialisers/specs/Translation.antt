-- What initialisers become (C99 6.7.8): stores into the parts of an object, part by part, with zeros in those that have none.
use Rattle.std.specs.Prelude.{ℕ, zero, suc, ◌+◌, pos, Bool, false, not, nat_le, List, [], ◌∷◌, ◌++◌, length, map, Option, Some, None, if◌then◌else◌}
use Rattle.c_syntax.specs.declared.place.Place.{Place}
use Rattle.c_syntax.specs.Ctypes.{PlainType}
use Rattle.c_syntax.specs.Expressions.{Expression}
use Rattle.c_syntax.specs.Statements.{Initialiser, One, Many, Initialisers, NoInitialiser, Listed, Declaration}
use Rattle.c_syntax.specs.Programs.{StringLiteral, TranslationUnit}
use Rattle.c_syntax.specs.Layouts.{size_of}
use Rattle.c_model.specs.Library.{is_there}
use Rattle.c_model.specs.Meaning.{string_in, text_at, parts_or_itself, tables_of}
use Rattle.c_model.specs.Formed.{number_of}
use Rattle.mon_syntax.specs.declared.tree.MonType.{MonType}
use Rattle.mon_syntax.specs.declared.tree.MonType.TheVariants.{U8, Ptr}
use Rattle.mon_syntax.specs.Trees.{MonStatements, NoStatement, Constant}
use Rattle.mon_syntax.specs.Registers.{Bindings}
use Rattle.c_effects.specs.Expressions.{value_type, before}
use Rattle.c_effects.specs.Effects.{block_of, store, stored_at, zero_parts, zeros_from}
use Rattle.c_effects.specs.Full.{prepare, result, takes}

-- ---- temporary registers

-- one more register, that points to the part which is stored, after those of its value
abbrev pub part_temporaries : List MonType → List MonType
part_temporaries ts = ts ++ Ptr ∷ []

abbrev pub one_temporaries : TranslationUnit → Option ℕ → Expression → List MonType
one_temporaries p (Some n) e = Ptr ∷ []
one_temporaries p None e = part_temporaries (takes p e)

abbrev mutual
  pub fill_temporaries : TranslationUnit → Initialiser → List MonType
  fill_temporaries p (One e) = one_temporaries p (string_in e) e
  fill_temporaries p (Many brace is) = parts_temporaries p is

  -- the last one points to the parts that are left out
  pub parts_temporaries : TranslationUnit → Initialisers → List MonType
  parts_temporaries p NoInitialiser = Ptr ∷ []
  parts_temporaries p (Listed i is) = fill_temporaries p i ++ parts_temporaries p is

-- a scalar of an object of its own is stored through the register of its block
abbrev pub is_simple : Initialiser → Bool
is_simple (One e) = not (is_there (string_in e))
is_simple (Many brace is) = false

abbrev pub initial_temporaries : TranslationUnit → Option (Place × Initialiser) → List MonType
initial_temporaries p None = []
initial_temporaries p (Some (at, One e)) = if is_there (string_in e) then Ptr ∷ [] else takes p e
initial_temporaries p (Some (at, Many brace is)) = parts_temporaries p is

abbrev pub declaration_temporaries : TranslationUnit → List Declaration → List MonType
declaration_temporaries p [] = []
declaration_temporaries p (d ∷ ds) = initial_temporaries p d.init ++ declaration_temporaries p ds

-- ---- bytes of strings

-- bytes, and then zeros, in so many bytes from an offset on
abbrev pub bytes_at : ℕ → ℕ → ℕ → ℕ → List ℕ → MonStatements
bytes_at r k d zero bytes = NoStatement
bytes_at r k d (suc n) [] = zeros_from r k d 0 (suc n)
bytes_at r k d (suc n) (b ∷ bs) = before (stored_at r k d U8 (Constant U8 (pos b))) (bytes_at r k (suc d) n bs)

-- ---- objects that have room

-- the longest stack that a run may have, in bytes
abbrev pub longest_stack : ℕ
longest_stack = 268435456

-- whether an object of so many bytes may be born on one
abbrev pub may_be_born : ℕ → Bool
may_be_born n = nat_le n longest_stack

-- ---- initialisers, where these registers are bound to variables

module _ (p : TranslationUnit) (bound : Bindings) where
  -- the part of an object at an offset from where a register points takes its initialiser
  abbrev pub fill_one : ℕ → ℕ → List MonType → PlainType → Option ℕ → Expression → MonStatements
  fill_one r d rs t (Some n) e = bytes_at r (length rs) d (size_of p.structs t) (text_at (map (λ (x : StringLiteral). x.bytes) p.texts) n)
  fill_one r d rs t None e =
      before (prepare p bound rs e) (stored_at r (length (rs ++ takes p e)) d (value_type t) (result p bound rs e))

  abbrev mutual
    pub fill : ℕ → ℕ → List MonType → PlainType → Initialiser → MonStatements
    fill r d rs t (One e) = fill_one r d rs t (string_in e) e
    fill r d rs t (Many brace is) = fill_parts r d rs (parts_or_itself (tables_of p) t) is

    pub fill_parts : ℕ → ℕ → List MonType → List (ℕ × PlainType) → Initialisers → MonStatements
    fill_parts r d rs cs NoInitialiser = zero_parts p.structs r (length rs) d cs
    fill_parts r d rs [] (Listed i is) = NoStatement
    fill_parts r d rs (c ∷ cs) (Listed i is) = before (fill r (d + c.0) rs c.1 i) (fill_parts r d (rs ++ fill_temporaries p i) cs is)

  -- an initialiser of the object of this type to which a register points
  abbrev pub initialise : List MonType → ℕ → PlainType → Option (Place × Initialiser) → MonStatements
  initialise rs r t None = NoStatement
  initialise rs r t (Some (at, i)) = if is_simple i then simple rs r t i else fill r 0 rs t i
    where
      simple : List MonType → ℕ → PlainType → Initialiser → MonStatements
      simple rs r t (One e) = before (prepare p bound rs e) (store r t (result p bound rs e))
      simple rs r t (Many brace is) = NoStatement

  -- a variable of a function; what is never born is never initialised
  abbrev pub initialise_local : List MonType → Declaration → MonStatements
  initialise_local rs d = if may_be_born (size_of p.structs d.ctype) then initialise rs (block_of bound (number_of d)) d.ctype d.init else NoStatement

  abbrev pub initialise_all : List MonType → List Declaration → MonStatements
  initialise_all rs [] = NoStatement
  initialise_all rs (d ∷ ds) = before (initialise_local rs d) (initialise_all (rs ++ initial_temporaries p d.init) ds)
