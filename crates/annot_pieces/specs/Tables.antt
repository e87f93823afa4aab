-- Ours: plain forms.
-- What stands in registers, and tables that are made once of lists: the registers of terms that are kept by where these begin in the text, and the indices of
-- behaviors by their names.
use Rattle.std.specs.Prelude.{◌≡◌, ℕ, cond, nat_eq, List, map, Option, Some, None, option_map}
use Rattle.c_syntax.specs.Logic.{plain_term}
use Rattle.c_syntax.specs.Programs.{NamedBehavior}
use Rattle.behavior_split.specs.Names.{index_named}
use Rattle.c_simulation.specs.Keeping.{Kept}
use Rattle.annot_pieces.specs.declared.kept.Held as declared_held
use Rattle.annot_pieces.specs.declared.kept.Kept as declared_kept
use Rattle.annot_simulation.specs.Held.{Held, kept_at}

abbrev pub plain_kept : declared_kept.Kept → Kept
plain_kept k = record { label = k.label; term = plain_term k.term.now; register = k.register }

abbrev pub plain_plan : List declared_kept.Kept → List Kept
plain_plan ks = map plain_kept ks

abbrev pub plain_held : declared_held.Held → Held
plain_held h = record { number = h.number; register = h.register; kind = h.kind }

abbrev pub plain_helds : List declared_held.Held → List Held
plain_helds hs = map plain_held hs

-- the register of a term that is kept, where it is one
abbrev pub register_in : Option Kept → Option ℕ
register_in o = option_map (λ (k : Kept). k.register) o

-- the registers of terms by their offsets in the text are those that a plan has
abbrev pub AreRegisters : (ℕ → Option ℕ) → List Kept → Type 0
AreRegisters found ks = (x : ℕ) → found x ≡ register_in (kept_at x ks)

-- what was found first
abbrev pub first_of : Option ℕ → Option ℕ → Option ℕ
first_of None later = later
first_of (Some r) later = Some r

-- what is known of offsets with one more
abbrev pub with_register : (ℕ → Option ℕ) → ℕ → ℕ → ℕ → Option ℕ
with_register found offset register x = first_of (found x) (cond (nat_eq offset x) (Some register) None)

-- the first behaviors of names have these indices
abbrev pub AreIndices : (ℕ → Option ℕ) → List NamedBehavior → Type 0
AreIndices found bs = (x : ℕ) → found x ≡ index_named x bs
