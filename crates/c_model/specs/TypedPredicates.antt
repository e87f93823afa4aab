-- What is known of typed annotations (ACSL 2.2, 2.4.3, 2.7): a variable is an object that is in sight where the annotation stands, and each form has
-- parts of the sorts that it wants: integers, pointers, and places where `&` and a member stand; sizes, alignments and offsets that trees keep are those
-- of C's types, and a chain has a relation; a term at a label is so where that stands. And the law that typing gives such trees.
use Rattle.std.specs.Prelude.{◌≡◌, ℕ, ◌≤◌, pos, false, List, [], ◌∷◌, Option, Some, None, ◌⊎◌}
use Rattle.c_syntax.specs.declared.expression.Use.{Use}
use Rattle.c_syntax.specs.declared.expression.UnOp.{UnOp}
use Rattle.c_syntax.specs.declared.expression.UnOp.TheVariants as unary
use Rattle.c_syntax.specs.Ctypes.{PlainType, Void, Ptr, Struct}
use Rattle.c_syntax.specs.Formulas.{CastType, Integers, OfC}
use Rattle.c_syntax.specs.Logic.{LogicTerm, Number, Letter, Variable, Unary, Binary, Cast, Choice, Named, Links, NoLink, Linked, Predicate, Truth, NonZero}
use Rattle.c_syntax.specs.Logic.{Binder, Guards, NoGuard, Guarded, Chain, Not, Connected, Branch, Quantified, ClauseBody, Raw, Holds, Value, Annotation, At}
use Rattle.c_syntax.specs.Logic.{Behaviors, Null, Deref, Member, Address, Moved, Difference, Told, Asks, Separated, Zone, Object, Elements, Zones, NoZone}
use Rattle.c_syntax.specs.Logic.{Another}
use Rattle.c_model.specs.Checked.{Good}
use Rattle.c_model.specs.ContractChecks.{result_number}
use Rattle.c_model.specs.ExpressionTyping.{Sight, most_bytes, is_void}
use Rattle.c_syntax.specs.declared.place.Place.{Place}
use Rattle.c_model.specs.AnnotationSights.{ClauseSight, AtEnd, AnnotationSight, sight_at, with_binders}
use Rattle.c_model.specs.QuietPredicates.{IsQuiet}
use Rattle.c_model.specs.Formed.{IsApart, FormNumbered}
use Rattle.c_model.specs.PredicateTyping.{ValueSort, AnInteger, APointer, sort_of_term, type_of_term, told_type, typed_annotations}
use Rattle.c_model.specs.TypedTrees.{IsInteger, Denotes}

pub record TermDenotes (s : Sight) (t : Option PlainType) (x : Use) : Type 0 where
  pub ctype : PlainType
  pub is : t ≡ Some ctype
  pub denotes : Denotes s x ctype

-- ---- the sorts of terms

abbrev pub IsIntegerTerm : LogicTerm → Type 0
IsIntegerTerm t = sort_of_term t ≡ AnInteger

-- a pointer to a value of the type, which may be an array's place
abbrev pub PointsTo : PlainType → LogicTerm → Type 0
PointsTo u t = sort_of_term t ≡ APointer u

abbrev pub IsPointerTerm : LogicTerm → Type 0
IsPointerTerm t = (u : PlainType) × PointsTo u t

-- a term that reads a place
abbrev pub IsPlace : LogicTerm → Type 0
IsPlace (Variable at t r x) = Unit {0}
IsPlace (Deref at t r a) = Unit {0}
IsPlace (Member at t r d a) = Unit {0}
IsPlace _ = ⊥

-- the number 0, which is a null pointer beside a pointer
abbrev pub IsZeroTerm : LogicTerm → Type 0
IsZeroTerm (Number at t r z) = z ≡ pos 0
IsZeroTerm _ = ⊥

-- two sides of a relation: of integers, of pointers, or of a pointer and 0
abbrev pub AreRelated : LogicTerm → LogicTerm → Type 0
AreRelated a b =
    (IsIntegerTerm a × IsIntegerTerm b) ⊎ (IsPointerTerm a × IsPointerTerm b) ⊎ (IsPointerTerm a × IsZeroTerm b) ⊎ (IsZeroTerm a × IsPointerTerm b)

-- an operator on one integer
abbrev pub IsOnInteger : UnOp → Type 0
IsOnInteger unary.Plus = Unit {0}
IsOnInteger unary.Minus = Unit {0}
IsOnInteger unary.Flip = Unit {0}
IsOnInteger unary.Not = ⊥
IsOnInteger unary.Deref = ⊥
IsOnInteger unary.Address = ⊥

-- a type that integers are cast to
abbrev pub IsCastType : CastType → Type 0
IsCastType Integers = Unit {0}
IsCastType (OfC t) = IsInteger t

-- a cast of a value of this sort; it keeps a type where it gives a pointer
pub data IsCast (t : Option PlainType) (to : CastType) (k : ValueSort) : Type 0 where
  OfInteger : t ≡ None → IsCastType to → k ≡ AnInteger → IsCast t to k
  OfPointer : (u v : PlainType) → t ≡ Some (Ptr u) → to ≡ OfC (Ptr u) → k ≡ APointer v → IsCast t to k

-- a choice between values of these sorts, which does so too
pub data IsChoice (t : Option PlainType) (k l : ValueSort) : Type 0 where
  BetweenIntegers : t ≡ None → k ≡ AnInteger → l ≡ AnInteger → IsChoice t k l
  BetweenPointers : (u v w : PlainType) → t ≡ Some (Ptr u) → k ≡ APointer v → l ≡ APointer w → IsChoice t k l

-- ---- sizes that trees keep

-- the bytes of an object: there is one at least (C99 6.2.5 p20, 6.3.2.1)
abbrev pub IsSize : ℕ → Type 0
IsSize n = (1 ≤ n) × (n ≤ most_bytes)

-- bytes between two places in an object
abbrev pub IsExtent : ℕ → Type 0
IsExtent n = n ≤ most_bytes

abbrev pub IsAlignment : ℕ → Type 0
IsAlignment n = (n ≡ 1) ⊎ (n ≡ 2) ⊎ (n ≡ 4) ⊎ (n ≡ 8)

abbrev pub HasLink : Links → Type 0
HasLink NoLink = ⊥
HasLink (Linked at r t rest) = Unit {0}

-- the result of a function that gives a value of this type (ACSL 2.3.1)
abbrev pub IsResult : ClauseSight → Option PlainType → Use → Type 0
IsResult (AtEnd formals u) t x = (x.decl ≡ result_number) × (t ≡ Some u) × (is_void u ≡ false)
IsResult _ t x = ⊥

-- ---- binders (ACSL 2.2)

-- one of these has the number
abbrev pub IsBound : List (Place × ℕ) → ℕ → Type 0
IsBound [] n = ⊥
IsBound (b ∷ bs) n = (n ≡ b.0.offset) ⊎ IsBound bs n

-- a binder in sight, which is an integer
abbrev pub IsBinder : List (Place × ℕ) → Option PlainType → Use → Type 0
IsBinder bs t x = (t ≡ None) × IsBound bs x.decl

-- binders of the chain of a guard, as they are in sight: at the same places, none with the number of `\result`, with types of integers
abbrev pub AreBinders : List Binder → List (Place × ℕ) → Type 0
AreBinders [] [] = Unit {0}
AreBinders [] (b ∷ bs) = ⊥
AreBinders (y ∷ ys) [] = ⊥
AreBinders (y ∷ ys) (b ∷ bs) = (y.place ≡ b.0) × IsApart y.place × IsCastType y.kind × AreBinders ys bs

-- ---- terms and predicates

abbrev mutual
  pub TermTyped : AnnotationSight → LogicTerm → Type 0
  TermTyped s (Number at t r n) = t ≡ None
  TermTyped s (Letter at t r n) = t ≡ None
  TermTyped s (Variable at t r x) = TermDenotes s.here t x
  TermTyped s (Unary at t r op a) = (t ≡ None) × IsOnInteger op × IsIntegerTerm a × TermTyped s a
  TermTyped s (Binary at t r op a b) = (t ≡ None) × IsIntegerTerm a × IsIntegerTerm b × TermTyped s a × TermTyped s b
  TermTyped s (Cast at t r to a) = IsCast t to (sort_of_term a) × TermTyped s a
  TermTyped s (Choice at t r c a b) = IsChoice t (sort_of_term a) (sort_of_term b) × IsQuiet c × PredicateTyped s c × TermTyped s a × TermTyped s b
  TermTyped s (Named at t r x) = IsResult s.clause t x ⊎ IsBinder s.binders t x
  TermTyped s (At at t r l a) = (u : AnnotationSight) × (sight_at s l ≡ Some u) × (t ≡ type_of_term a) × TermTyped u a
  TermTyped s (Null at t r) = t ≡ Some (Ptr Void)
  TermTyped s (Deref at t r a) = (u : PlainType) × (t ≡ Some u) × PointsTo u a × TermTyped s a
  TermTyped s (Member at t r d a) = (u : PlainType) × (t ≡ Some u) × (n : ℕ) × (type_of_term a ≡ Some (Struct n)) × IsPlace a × TermTyped s a × IsExtent d
  TermTyped s (Address at t r a) = (u : PlainType) × (t ≡ Some (Ptr u)) × (type_of_term a ≡ Some u) × IsPlace a × TermTyped s a
  TermTyped s (Moved at t r op n a b) = (u : PlainType) × (t ≡ Some (Ptr u)) × PointsTo u a × IsIntegerTerm b × TermTyped s a × TermTyped s b × IsSize n
  TermTyped s (Difference at t r n a b) = (t ≡ None) × IsPointerTerm a × IsPointerTerm b × TermTyped s a × TermTyped s b × IsSize n
  TermTyped s (Told at t r f a) = (t ≡ told_type f) × IsPointerTerm a × TermTyped s a

  -- the relations of a chain behind a side
  pub LinksTyped : AnnotationSight → LogicTerm → Links → Type 0
  LinksTyped s a NoLink = Unit {0}
  LinksTyped s a (Linked at r t rest) = AreRelated a t × TermTyped s t × LinksTyped s t rest

  pub ZoneTyped : AnnotationSight → Zone → Type 0
  ZoneTyped s (Object at n m a) = IsPointerTerm a × TermTyped s a × IsSize n × IsAlignment m
  ZoneTyped s (Elements at n m a lo hi) =
      IsPointerTerm a × IsIntegerTerm lo × IsIntegerTerm hi × TermTyped s a × TermTyped s lo × TermTyped s hi × IsSize n × IsAlignment m

  pub ZonesTyped : AnnotationSight → Zones → Type 0
  ZonesTyped s NoZone = Unit {0}
  ZonesTyped s (Another z rest) = ZoneTyped s z × ZonesTyped s rest

  pub PredicateTyped : AnnotationSight → Predicate → Type 0
  PredicateTyped s (Truth at b) = Unit {0}
  PredicateTyped s (NonZero at t) = IsIntegerTerm t × TermTyped s t
  PredicateTyped s (Chain at t links) = TermTyped s t × LinksTyped s t links × HasLink links
  PredicateTyped s (Not at p) = PredicateTyped s p
  PredicateTyped s (Connected at c p q) = PredicateTyped s p × PredicateTyped s q
  PredicateTyped s (Branch at c p q) = PredicateTyped s c × PredicateTyped s p × PredicateTyped s q
  PredicateTyped s (Quantified at q gs p) = GuardsTyped s gs (λ u. PredicateTyped u p)
  PredicateTyped s (Asks at f z) = ZoneTyped s z
  PredicateTyped s (Separated at zs) = ZonesTyped s zs

  -- the bounds of a chain see the binders of the chains before it, and what stands behind the guard sees all of them
  pub GuardsTyped : AnnotationSight → Guards → (AnnotationSight → Type 0) → Type 0
  GuardsTyped s NoGuard P = P s
  GuardsTyped s (Guarded a y ys below b rest) P =
      IsIntegerTerm a × IsIntegerTerm b × TermTyped s a × TermTyped s b
      × (bs : List (Place × ℕ)) × AreBinders (y ∷ ys) bs × GuardsTyped (with_binders s bs) rest P

-- a clause that is read isn't typed yet
abbrev pub ClauseTyped : AnnotationSight → ClauseBody → Type 0
ClauseTyped s (Raw f) = ⊥
ClauseTyped s (Holds p) = PredicateTyped s p
ClauseTyped s (Value t) = IsIntegerTerm t × TermTyped s t
ClauseTyped s (Behaviors names) = ⊥

abbrev pub AnnotationsTyped : AnnotationSight → List Annotation → Type 0
AnnotationsTyped s [] = Unit {0}
AnnotationsTyped s (a ∷ rest) = ClauseTyped s a.body × AnnotationsTyped s rest

-- ---- the law

-- clauses as they are read
abbrev pub IsRead : ClauseBody → Type 0
IsRead (Raw f) = FormNumbered f
IsRead (Holds p) = ⊥
IsRead (Value t) = ⊥
IsRead (Behaviors names) = ⊥

abbrev pub AreRead : List Annotation → Type 0
AreRead [] = Unit {0}
AreRead (a ∷ rest) = IsRead a.body × AreRead rest

abbrev pub TypedAnnotationsAreKnown : Type 0
TypedAnnotationsAreKnown = (s : AnnotationSight) (a b : List Annotation) → AreRead a → typed_annotations s a ≡ Good b → AnnotationsTyped s b
