-- The plain form of annotations (ACSL 2.2, 2.3): their variants, numbers, places and parts, without boxes.
use Rattle.std.specs.Prelude.{ℕ, ℤ, Bool, Option, option_map, List, map}
use Rattle.c_syntax.specs.declared.place.Place.{Place}
use Rattle.c_syntax.specs.declared.expression.Use.{Use}
use Rattle.c_syntax.specs.declared.expression.BinOp.{BinOp}
use Rattle.c_syntax.specs.declared.expression.UnOp.{UnOp}
use Rattle.c_syntax.specs.declared.annotation.Kind.{Kind}
use Rattle.c_syntax.specs.declared.annotation.Range.{Range}
use Rattle.c_syntax.specs.declared.annotation.Relation.{Relation}
use Rattle.c_syntax.specs.declared.logic.Annot.{Annot}
use Rattle.c_syntax.specs.declared.logic.Body.{Body}
use Rattle.c_syntax.specs.declared.logic.Body.TheVariants as body
use Rattle.c_syntax.specs.declared.logic.Connective.{Connective}
use Rattle.c_syntax.specs.declared.logic.BlockFact.{BlockFact}
use Rattle.c_syntax.specs.declared.logic.Binder.{Binder as CodeBinder}
use Rattle.c_syntax.specs.declared.logic.Guards as code_guards
use Rattle.c_syntax.specs.declared.logic.Label.{Label}
use Rattle.c_syntax.specs.declared.logic.Links as code_links
use Rattle.c_syntax.specs.declared.logic.Quantifier.{Quantifier}
use Rattle.c_syntax.specs.declared.logic.MemoryQuestion.{MemoryQuestion}
use Rattle.c_syntax.specs.declared.logic.PointerOp.{PointerOp}
use Rattle.c_syntax.specs.declared.logic.ZoneKind.{ZoneKind}
use Rattle.c_syntax.specs.declared.logic.ZoneKind as zone
use Rattle.c_syntax.specs.declared.logic.Zones as code_zones
use Rattle.c_syntax.specs.declared.logic.Pred.{Pred}
use Rattle.c_syntax.specs.declared.logic.PredKind.{PredKind}
use Rattle.c_syntax.specs.declared.logic.PredKind as pred
use Rattle.c_syntax.specs.declared.logic.Term.{Term}
use Rattle.c_syntax.specs.declared.logic.TermKind.{TermKind}
use Rattle.c_syntax.specs.declared.logic.TermKind as term
use Rattle.c_syntax.specs.Ctypes.{PlainType, plain_type}
use Rattle.c_syntax.specs.Formulas.{CastType, plain_cast_type, Form, plain_form}

-- a binder with its place, whose offset is its number, the type whose values it tries, and whether it stands after a `<`
pub record Binder : Type 0 where
  pub place : Place
  pub kind : CastType
  pub above : Bool

mutual
  -- each with its place, its C type where it reads a place, and its range
  pub data LogicTerm : Type 0 where
    Number : Place → Option PlainType → Range → ℤ → LogicTerm
    Letter : Place → Option PlainType → Range → ℤ → LogicTerm
    Variable : Place → Option PlainType → Range → Use → LogicTerm
    Unary : Place → Option PlainType → Range → UnOp → LogicTerm → LogicTerm
    Binary : Place → Option PlainType → Range → BinOp → LogicTerm → LogicTerm → LogicTerm
    Cast : Place → Option PlainType → Range → CastType → LogicTerm → LogicTerm
    Choice : Place → Option PlainType → Range → Predicate → LogicTerm → LogicTerm → LogicTerm
    -- a name that annotations give a meaning of their own: a binder, or `\result`, whose number is 4294967294
    Named : Place → Option PlainType → Range → Use → LogicTerm
    -- `\at(term, label)` and `\old(term)`; also a parameter in an `ensures`, which is read at the beginning of the call
    At : Place → Option PlainType → Range → Label → LogicTerm → LogicTerm
    Null : Place → Option PlainType → Range → LogicTerm
    -- the place that a pointer points to, and the one at an offset in another place
    Deref : Place → Option PlainType → Range → LogicTerm → LogicTerm
    Member : Place → Option PlainType → Range → ℕ → LogicTerm → LogicTerm
    Address : Place → Option PlainType → Range → LogicTerm → LogicTerm
    -- a pointer so many elements of a size farther, and the distance of two in them
    Moved : Place → Option PlainType → Range → PointerOp → ℕ → LogicTerm → LogicTerm → LogicTerm
    Difference : Place → Option PlainType → Range → ℕ → LogicTerm → LogicTerm → LogicTerm
    Told : Place → Option PlainType → Range → BlockFact → LogicTerm → LogicTerm

  -- the relations of a chain, each with its place and the term after it
  pub data Links : Type 0 where
    NoLink : Links
    Linked : Place → Relation → LogicTerm → Links → Links

  pub data Predicate : Type 0 where
    Truth : Place → Bool → Predicate
    NonZero : Place → LogicTerm → Predicate
    Chain : Place → LogicTerm → Links → Predicate
    Not : Place → Predicate → Predicate
    Connected : Place → Connective → Predicate → Predicate → Predicate
    Branch : Place → Predicate → Predicate → Predicate → Predicate
    Quantified : Place → Quantifier → Guards → Predicate → Predicate
    Asks : Place → MemoryQuestion → Zone → Predicate
    Separated : Place → Zones → Predicate

  -- the chains of a guard: a lower bound, its first binder and the others, whether `<` stands before the upper bound, and that
  pub data Guards : Type 0 where
    NoGuard : Guards
    Guarded : LogicTerm → Binder → List Binder → Bool → LogicTerm → Guards → Guards

  -- bytes, each with its place, and with the size and the alignment of what its pointer points to
  pub data Zone : Type 0 where
    Object : Place → ℕ → ℕ → LogicTerm → Zone
    Elements : Place → ℕ → ℕ → LogicTerm → LogicTerm → LogicTerm → Zone

  pub data Zones : Type 0 where
    NoZone : Zones
    Another : Zone → Zones → Zones

pub data ClauseBody : Type 0 where
  Raw : Form → ClauseBody
  Holds : Predicate → ClauseBody
  -- the value of a variant
  Value : LogicTerm → ClauseBody
  -- the behaviors that `complete` and `disjoint` name, each at its place; none are all of them
  Behaviors : List (Place × ℕ) → ClauseBody

pub record Annotation : Type 0 where
  pub number : ℕ
  pub kind : Kind
  pub place : Place
  pub body : ClauseBody

-- the range that a term keeps
abbrev pub range_of : LogicTerm → Range
range_of (Number at t r n) = r
range_of (Letter at t r n) = r
range_of (Variable at t r x) = r
range_of (Unary at t r op a) = r
range_of (Binary at t r op a b) = r
range_of (Cast at t r to a) = r
range_of (Choice at t r c a b) = r
range_of (Named at t r x) = r
range_of (At at t r l a) = r
range_of (Null at t r) = r
range_of (Deref at t r a) = r
range_of (Member at t r d a) = r
range_of (Address at t r a) = r
range_of (Moved at t r op n a b) = r
range_of (Difference at t r n a b) = r
range_of (Told at t r f a) = r

abbrev pub plain_binder : CodeBinder → Binder
plain_binder x = record { place = x.place; kind = plain_cast_type x.kind; above = x.above }

abbrev mutual
  pub plain_term_kind : Place → TermKind → Option PlainType → Range → LogicTerm
  plain_term_kind at (term.Number n) t r = Number at t r n
  plain_term_kind at (term.Letter n) t r = Letter at t r n
  plain_term_kind at (term.Variable x) t r = Variable at t r x
  plain_term_kind at (term.Unary' op pa p a ta ra) t r = Unary at t r op (plain_term_kind pa a (option_map plain_type ta) ra)
  plain_term_kind at (term.Binary' op pa p a ta ra pb q b tb rb) t r = Binary at t r op (plain_term_kind pa a (option_map plain_type ta) ra)
      (plain_term_kind pb b (option_map plain_type tb) rb)
  plain_term_kind at (term.Cast' to pa p a ta ra) t r = Cast at t r (plain_cast_type to) (plain_term_kind pa a (option_map plain_type ta) ra)
  plain_term_kind at (term.Choice' pc o c pa p a ta ra pb q b tb rb) t r = Choice at t r (plain_pred_kind pc c)
      (plain_term_kind pa a (option_map plain_type ta) ra) (plain_term_kind pb b (option_map plain_type tb) rb)
  plain_term_kind at term.Null t r = Null at t r
  plain_term_kind at (term.Deref' pa p a ta ra) t r = Deref at t r (plain_term_kind pa a (option_map plain_type ta) ra)
  plain_term_kind at (term.Member' d pa p a ta ra) t r = Member at t r d (plain_term_kind pa a (option_map plain_type ta) ra)
  plain_term_kind at (term.Address' pa p a ta ra) t r = Address at t r (plain_term_kind pa a (option_map plain_type ta) ra)
  plain_term_kind at (term.Moved' op n pa p a ta ra pb q b tb rb) t r = Moved at t r op n (plain_term_kind pa a (option_map plain_type ta) ra)
      (plain_term_kind pb b (option_map plain_type tb) rb)
  plain_term_kind at (term.Difference' n pa p a ta ra pb q b tb rb) t r = Difference at t r n (plain_term_kind pa a (option_map plain_type ta) ra)
      (plain_term_kind pb b (option_map plain_type tb) rb)
  plain_term_kind at (term.Told' f pa p a ta ra) t r = Told at t r f (plain_term_kind pa a (option_map plain_type ta) ra)
  plain_term_kind at (term.Named x) t r = Named at t r x
  plain_term_kind at (term.At' l pa p a ta ra) t r = At at t r l (plain_term_kind pa a (option_map plain_type ta) ra)

  pub plain_links : code_links.Links → Links
  plain_links code_links.End = NoLink
  plain_links (code_links.Link' at r pa p a ta ra q rest) = Linked at r (plain_term_kind pa a (option_map plain_type ta) ra) (plain_links rest)

  pub plain_pred_kind : Place → PredKind → Predicate
  plain_pred_kind at (pred.Truth b) = Truth at b
  plain_pred_kind at (pred.NonZero' pa p a ta ra) = NonZero at (plain_term_kind pa a (option_map plain_type ta) ra)
  plain_pred_kind at (pred.Chain' pa p a ta ra ls) = Chain at (plain_term_kind pa a (option_map plain_type ta) ra) (plain_links ls)
  plain_pred_kind at (pred.Not' pa p a) = Not at (plain_pred_kind pa a)
  plain_pred_kind at (pred.Connected' c pa p a pb q b) = Connected at c (plain_pred_kind pa a) (plain_pred_kind pb b)
  plain_pred_kind at (pred.Choice' pc o c pa p a pb q b) = Branch at (plain_pred_kind pc c) (plain_pred_kind pa a) (plain_pred_kind pb b)
  plain_pred_kind at (pred.Quantified' q gs pa p a) = Quantified at q (plain_guards gs) (plain_pred_kind pa a)
  plain_pred_kind at (pred.Asks' f pz n m p z) = Asks at f (plain_zone_kind pz n m z)
  plain_pred_kind at (pred.Separated zs) = Separated at (plain_zones zs)

  pub plain_guards : code_guards.Guards → Guards
  plain_guards code_guards.End = NoGuard
  plain_guards (code_guards.More' pa p a ta ra x xs below pb q b tb rb r rest) = Guarded (plain_term_kind pa a (option_map plain_type ta) ra)
      (plain_binder x) (map plain_binder xs.items) below (plain_term_kind pb b (option_map plain_type tb) rb) (plain_guards rest)

  pub plain_zone_kind : Place → ℕ → ℕ → ZoneKind → Zone
  plain_zone_kind at n m (zone.Object' pa p a ta ra) = Object at n m (plain_term_kind pa a (option_map plain_type ta) ra)
  plain_zone_kind at n m (zone.Elements' pa p a ta ra pb q b tb rb pc o c tc rc) = Elements at n m (plain_term_kind pa a (option_map plain_type ta) ra)
      (plain_term_kind pb b (option_map plain_type tb) rb) (plain_term_kind pc c (option_map plain_type tc) rc)

  pub plain_zones : code_zones.Zones → Zones
  plain_zones code_zones.End = NoZone
  plain_zones (code_zones.More' pz n m p z q rest) = Another (plain_zone_kind pz n m z) (plain_zones rest)

abbrev pub plain_term : Term → LogicTerm
plain_term t = plain_term_kind t.place t.kind.value (option_map plain_type t.ctype) t.range

abbrev pub plain_pred : Pred → Predicate
plain_pred p = plain_pred_kind p.place p.kind.value

abbrev pub plain_body : Body → ClauseBody
plain_body (body.Raw f) = Raw (plain_form f)
plain_body (body.Truth p) = Holds (plain_pred p)
plain_body (body.Value t) = Value (plain_term t)
plain_body (body.Names names) = Behaviors names.items

abbrev pub plain_annot : Annot → Annotation
plain_annot a = record { number = a.number; kind = a.kind; place = a.place; body = plain_body a.body }
