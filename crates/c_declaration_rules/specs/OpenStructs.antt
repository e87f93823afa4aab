-- Ours: structs whose members are typed one after another (C99 6.7.2.1), and what is kept of those that each has.
-- Their members stand by the layout, and the names of members are known.
use Rattle.std.specs.Prelude.{◌≡◌, ℕ, nat_eq, List, [], ◌∷◌, slice_get, Some}
use Rattle.indexmap.specs.IndexMap.{IndexMap, get}
use Rattle.indexmap.specs.IndexSet.{IndexSet, contains}
use Rattle.c_syntax.specs.Programs.{StructMember, StructType}
use Rattle.c_syntax.specs.Layouts.{member_among}
use Rattle.c_model.specs.Library.{is_there}
use Rattle.c_model.specs.ExpressionTyping.{HasSize, sized}
use Rattle.c_model.specs.DeclarationTyping.{placed_from, widest}
use Rattle.c_declaration_rules.specs.declared.open_struct.OpenStructs.{OpenStructs}

-- each member's type has a size
abbrev pub AreSized : List StructType → List StructMember → Type 0
AreSized structs [] = Unit {0}
AreSized structs (m ∷ ms) = (sized structs m.ctype ≡ HasSize) × AreSized structs ms

-- a struct that isn't whole, with the alignment that its members ask for, each of which stands in its place
pub record IsLaid (structs : List StructType) (struct : StructType) : Type 0 where
  pub placed : placed_from structs 0 struct.members ≡ struct.members
  pub sized : AreSized structs struct.members
  pub align_is : struct.align ≡ widest structs struct.members
  pub unsized : struct.size ≡ 0

-- the names are those of the members
abbrev pub HasNames : {S : Type 0} → IndexSet ℕ S → List StructMember → Type 0
HasNames names ms = (x : ℕ) → contains nat_eq names x ≡ is_there (member_among x ms)

-- the struct of an index was laid out, and has members of these names
abbrev pub IsOpenAt : {S : Type 0} → List StructType → ℕ → IndexSet ℕ S → Type 0
IsOpenAt structs k names = (struct : StructType) → slice_get structs k ≡ Some struct → IsLaid structs struct × HasNames names struct.members

-- and so was each struct that is kept by its index
abbrev pub AreOpen : {S T : Type 0} → List StructType → IndexMap ℕ (IndexSet ℕ S) T → Type 0
AreOpen {S} structs kept = (k : ℕ) (names : IndexSet ℕ S) → get nat_eq kept k ≡ Some names → IsOpenAt structs k names

abbrev pub IsOpen : List StructType → OpenStructs → Type 0
IsOpen structs begun = AreOpen structs begun.names
