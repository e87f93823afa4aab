-- The plain form of what is read of annotations (ACSL 2.2, 2.3, 2.4.3), before typing tells terms from predicates: without boxes.
use Rattle.std.specs.Prelude.{ℕ, ℤ, Bool, List}
use Rattle.c_syntax.specs.declared.place.Place.{Place}
use Rattle.c_syntax.specs.declared.expression.Use.{Use}
use Rattle.c_syntax.specs.declared.expression.BinOp.{BinOp}
use Rattle.c_syntax.specs.declared.expression.UnOp.{UnOp}
use Rattle.c_syntax.specs.declared.annotation.Relation.{Relation}
use Rattle.c_syntax.specs.declared.logic.BlockFact.{BlockFact}
use Rattle.c_syntax.specs.declared.logic.Connective.{Connective}
use Rattle.c_syntax.specs.declared.logic.Formula.{Formula}
use Rattle.c_syntax.specs.declared.logic.FormulaKind.{FormulaKind}
use Rattle.c_syntax.specs.declared.logic.FormulaKind as code
use Rattle.c_syntax.specs.declared.logic.FormulaLinks.{FormulaLinks}
use Rattle.c_syntax.specs.declared.logic.FormulaLinks as links
use Rattle.c_syntax.specs.declared.logic.FormulaZone.{FormulaZone}
use Rattle.c_syntax.specs.declared.logic.FormulaZone as zone
use Rattle.c_syntax.specs.declared.logic.FormulaZones.{FormulaZones}
use Rattle.c_syntax.specs.declared.logic.FormulaZones as zones
use Rattle.c_syntax.specs.declared.logic.LogicType.{LogicType}
use Rattle.c_syntax.specs.declared.logic.LogicType.TheVariants as logic_type
use Rattle.c_syntax.specs.declared.logic.MemoryQuestion.{MemoryQuestion}
use Rattle.c_syntax.specs.declared.logic.Quantifier.{Quantifier}
use Rattle.c_syntax.specs.Ctypes.{PlainType, plain_type}

-- the type that a cast names
pub data CastType : Type 0 where
  Integers : CastType
  OfC : PlainType → CastType

abbrev pub plain_cast_type : LogicType → CastType
plain_cast_type logic_type.Integer = Integers
plain_cast_type (logic_type.Of t) = OfC (plain_type t)

mutual
  pub data Form : Type 0 where
    Number : Place → ℤ → Form
    Letter : Place → ℤ → Form
    Truth : Place → Bool → Form
    Name : Place → Use → Form
    Unary : Place → UnOp → Form → Form
    Binary : Place → BinOp → Form → Form → Form
    Cast : Place → CastType → Form → Form
    SizeOf : Place → PlainType → Form
    Chain : Place → Form → FormLinks → Form
    Connected : Place → Connective → Form → Form → Form
    Choice : Place → Form → Form → Form → Form
    Null : Place → Form
    Index : Place → Form → Form → Form
    -- a member of a place, and of what a pointer points to, by the number of its name
    Dot : Place → Form → ℕ → Form
    Arrow : Place → Form → ℕ → Form
    Told : Place → BlockFact → Form → Form
    Asks : Place → MemoryQuestion → FormZone → Form
    Separated : Place → FormZones → Form
    Result : Place → Form
    Old : Place → Form → Form
    -- a form at a label, with the place and the number of its name
    At : Place → Form → Place → ℕ → Form
    -- the type and the names of the binders, each with its place and its name's number, and what is said of them
    Quantified : Place → Quantifier → CastType → List (Place × ℕ) → Form → Form

  -- the relations of a chain, each with its place and the form after it
  pub data FormLinks : Type 0 where
    NoLink : FormLinks
    Linked : Place → Relation → Form → FormLinks → FormLinks

  -- bytes: what a pointer points to, or the elements behind it from one to another, at the `+` before them
  pub data FormZone : Type 0 where
    Object : Form → FormZone
    Elements : Place → Form → Form → Form → FormZone

  pub data FormZones : Type 0 where
    NoZone : FormZones
    Another : FormZone → FormZones → FormZones

abbrev mutual
  pub plain_form_kind : Place → FormulaKind → Form
  plain_form_kind at (code.Number n) = Number at n
  plain_form_kind at (code.Letter n) = Letter at n
  plain_form_kind at (code.Truth b) = Truth at b
  plain_form_kind at (code.Name x) = Name at x
  plain_form_kind at (code.Unary' op pa p a) = Unary at op (plain_form_kind pa a)
  plain_form_kind at (code.Binary' op pa p a pb q b) = Binary at op (plain_form_kind pa a) (plain_form_kind pb b)
  plain_form_kind at (code.Cast' to pa p a) = Cast at (plain_cast_type to) (plain_form_kind pa a)
  plain_form_kind at (code.SizeOf t) = SizeOf at (plain_type t)
  plain_form_kind at (code.Chain' pa p a ls) = Chain at (plain_form_kind pa a) (plain_form_links ls)
  plain_form_kind at (code.Connected' c pa p a pb q b) = Connected at c (plain_form_kind pa a) (plain_form_kind pb b)
  plain_form_kind at (code.Choice' pa p a pb q b pc r c) = Choice at (plain_form_kind pa a) (plain_form_kind pb b) (plain_form_kind pc c)
  plain_form_kind at code.Null = Null at
  plain_form_kind at (code.Index' pa p a pb q b) = Index at (plain_form_kind pa a) (plain_form_kind pb b)
  plain_form_kind at (code.Dot' pa p a m) = Dot at (plain_form_kind pa a) m
  plain_form_kind at (code.Arrow' pa p a m) = Arrow at (plain_form_kind pa a) m
  plain_form_kind at (code.Told' f pa p a) = Told at f (plain_form_kind pa a)
  plain_form_kind at (code.Asks f z) = Asks at f (plain_form_zone z)
  plain_form_kind at (code.Separated zs) = Separated at (plain_form_zones zs)
  plain_form_kind at code.Result = Result at
  plain_form_kind at (code.Old' pa p a) = Old at (plain_form_kind pa a)
  plain_form_kind at (code.At' pa p a pl l) = At at (plain_form_kind pa a) pl l
  plain_form_kind at (code.Quantified' q to names pa p a) = Quantified at q (plain_cast_type to) names.items (plain_form_kind pa a)

  pub plain_form_links : FormulaLinks → FormLinks
  plain_form_links links.End = NoLink
  plain_form_links (links.Link' at r pa p a q rest) = Linked at r (plain_form_kind pa a) (plain_form_links rest)

  pub plain_form_zone : FormulaZone → FormZone
  plain_form_zone (zone.Object' pa p a) = Object (plain_form_kind pa a)
  plain_form_zone (zone.Elements' at pa p a pb q b pc r c) = Elements at (plain_form_kind pa a) (plain_form_kind pb b) (plain_form_kind pc c)

  pub plain_form_zones : FormulaZones → FormZones
  plain_form_zones zones.End = NoZone
  plain_form_zones (zones.More' z p rest) = Another (plain_form_zone z) (plain_form_zones rest)

abbrev pub plain_form : Formula → Form
plain_form f = plain_form_kind f.place f.kind.value
