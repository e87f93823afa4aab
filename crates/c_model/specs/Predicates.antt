-- What terms and predicates of annotations mean (ACSL 2.2): unbounded integers, three truth values, lazy connectives.
use Rattle.std.specs.Prelude.{ℕ, ℤ, pos, neg_ℤ, int_le, int_lt, ◌&&◌, Bool, true, false, List, [], ◌∷◌, Option, Some, None, option_map}
use Rattle.c_syntax.specs.declared.expression.UnOp.{UnOp}
use Rattle.c_syntax.specs.declared.expression.UnOp.TheVariants as unary
use Rattle.c_syntax.specs.declared.annotation.Relation.TheVariants.{Ne}
use Rattle.c_syntax.specs.declared.logic.Connective.{Connective}
use Rattle.c_syntax.specs.declared.logic.Connective.TheVariants.{And, Xor, Or, Implies, Iff}
use Rattle.c_syntax.specs.Ctypes.{PlainType, Void, Int, Ptr, Array, Struct, StructTag, EnumTag}
use Rattle.c_syntax.specs.Ctypes as ctype
use Rattle.c_syntax.specs.Formulas.{CastType, Integers, OfC}
use Rattle.c_syntax.specs.declared.logic.Quantifier.{Quantifier}
use Rattle.c_syntax.specs.Logic.{LogicTerm, Number, Letter, Variable, Unary, Binary, Cast, Choice, Named, Links, NoLink, Linked, Predicate, Truth}
use Rattle.c_syntax.specs.Logic.{NonZero, Chain, Not, Connected, Branch, Quantified, Guards, NoGuard, Guarded, ClauseBody, Raw, Holds, Annotation, At}
use Rattle.c_syntax.specs.Logic.{Behaviors, Null, Deref, Member, Address, Moved, Difference, Told, Zone, Object, Elements, Zones, NoZone, Another, Asks}
use Rattle.c_syntax.specs.Logic.{Separated}
use Rattle.c_syntax.specs.Logic as logic
use Rattle.c_model.specs.Integers.{integer_type}
use Rattle.c_model.specs.Operators.{complement}
use Rattle.c_model.specs.Ranges.{wrapped}
use Rattle.c_syntax.specs.declared.types.How.TheVariants as how
use Rattle.c_model.specs.State.{State, Broken, Over, Stop, Evaluation, give, done, ◌>>◌, find, start_of}
use Rattle.c_model.specs.Logic.{TermValue, Mathematical, Environment, look, meant, Answer, Says, SaysNothing, OutOfSteps, lazily, denied, fully, both}
use Rattle.c_model.specs.Logic.{compute, related, judged, at_label, valued_at, Addressed, held_at, as_address, addressed, moved, difference, told, Extent}
use Rattle.c_model.specs.Logic.{object_extent, elements_extent, asks, all_apart, said}
use Rattle.c_model.specs.TermRanges.{lowered}
use Rattle.c_model.specs.Quantifiers.{over, between}
use Rattle.c_model.specs.MemoryQuestions.{address_of, null_address, address_farther}
use Rattle.c_model.specs.MemoryQuestions as memory

-- ---- terms

-- an operator on an unbounded integer, where it has a value
abbrev pub compute_one : UnOp → Option TermValue → Option TermValue
compute_one op None = None
compute_one unary.Plus (Some (Mathematical x)) = Some (Mathematical x)
compute_one unary.Minus (Some (Mathematical x)) = Some (Mathematical (neg_ℤ x))
compute_one unary.Flip (Some (Mathematical x)) = Some (Mathematical (complement x))
compute_one unary.Plus (Some (Addressed x)) = None
compute_one unary.Minus (Some (Addressed x)) = None
compute_one unary.Flip (Some (Addressed x)) = None
compute_one unary.Not (Some x) = None
compute_one unary.Deref (Some x) = None
compute_one unary.Address (Some x) = None

-- a pointer is the same in each type of pointers
abbrev pub pointed : PlainType → memory.Address → Option TermValue
pointed (Ptr t) x = Some (Addressed x)
pointed (Int k) x = None
pointed (Array t n) x = None
pointed (Struct n) x = None
pointed Void x = None
pointed (ctype.Named y) x = None
pointed (StructTag y tag) x = None
pointed (EnumTag y at) x = None

-- the value of an integer type that is congruent to an integer, or the pointer
abbrev pub in_type : PlainType → Option TermValue → Option TermValue
in_type t None = None
in_type t (Some (Addressed x)) = pointed t x
in_type t (Some (Mathematical x)) = elim (integer_type t) [ None ↦ None | Some k ↦ Some (Mathematical (wrapped k x)) ]

abbrev pub converted : CastType → Option TermValue → Option TermValue
converted Integers x = x
converted (OfC t) x = in_type t x

-- one of two values, by what a condition says
abbrev pub chosen : Answer → Option TermValue → Option TermValue → Option TermValue
chosen (Says true n) a b = a
chosen (Says false n) a b = b
chosen (SaysNothing n) a b = None
chosen OutOfSteps a b = None

-- ---- zones

abbrev pub with_extent : Option Extent → Option (List Extent) → Option (List Extent)
with_extent None es = None
with_extent (Some e) None = None
with_extent (Some e) (Some es) = Some (e ∷ es)

abbrev pub alignment_of : Zone → ℕ
alignment_of (Object at n m a) = m
alignment_of (Elements at n m a lo hi) = m

-- ---- predicates

-- both sides of `<==>` and of `^^`, by what the left one says
abbrev pub same_as : Bool → Answer → Answer
same_as true b = b
same_as false b = denied b

abbrev pub other_than : Bool → Answer → Answer
other_than true b = denied b
other_than false b = b

-- `&&`, `||` and `==>` ask their right side as the left one says; `<==>` and `^^` ask both
abbrev pub connected : Connective → Answer → (ℕ → Answer) → Answer
connected And a b = lazily a b (Says false)
connected Or a b = lazily a (Says true) b
connected Implies a b = lazily a b (Says true)
connected Iff a b = fully a b same_as
connected Xor a b = fully a b other_than

abbrev mutual
  -- where a place stands
  pub place : LogicTerm → State → Environment → Option memory.Address
  place (Variable at t r x) s e = option_map address_of (start_of (find x.decl s.scope))
  place (Deref at t r a) s e = as_address (term a s e)
  place (Member at t r d a) s e = option_map (λ x. address_farther x (pos d)) (place a s e)
  place _ s e = None

  -- the value of a term, where it has one; a condition in it takes no step
  pub term : LogicTerm → State → Environment → Option TermValue
  term (Number at t r n) s e = Some (Mathematical n)
  term (Letter at t r n) s e = Some (Mathematical n)
  term (Variable at t r x) s e = held_at s.store t (option_map address_of (start_of (find x.decl s.scope)))
  term (Unary at t r op a) s e = compute_one op (term a s e)
  term (Binary at t r op a b) s e = both (term a s e) (term b s e) (compute op)
  term (Cast at t r to a) s e = converted to (term a s e)
  term (Choice at t r c a b) s e = chosen (pred c s e 0) (term a s e) (term b s e)
  term (Named at t r x) s e = meant s (look x.decl e)
  term (At at t r l a) s e = valued_at (at_label l s) (λ u. term a u e)
  term (Null at t r) s e = Some (Addressed null_address)
  term (Deref at t r a) s e = held_at s.store t (as_address (term a s e))
  term (Member at t r d a) s e = held_at s.store t (option_map (λ x. address_farther x (pos d)) (place a s e))
  term (Address at t r a) s e = addressed (place a s e)
  term (Moved at t r op n a b) s e = moved op n (term a s e) (term b s e)
  term (Difference at t r n a b) s e = difference s.store n (as_address (term a s e)) (as_address (term b s e))
  term (Told at t r f a) s e = told s.store f (as_address (term a s e))

  -- the bytes of a zone
  pub zone : Zone → State → Environment → Option Extent
  zone (Object at n m a) s e = object_extent n (as_address (term a s e))
  zone (Elements at n m a lo hi) s e = elements_extent n (term a s e) (term lo s e) (term hi s e)

  pub zones : Zones → State → Environment → Option (List Extent)
  zones NoZone s e = Some []
  zones (Another z rest) s e = with_extent (zone z s e) (zones rest s e)

  -- the lazy conjunction of the neighbours of a chain
  pub chain : Option TermValue → Links → State → Environment → ℕ → Answer
  chain a NoLink s e n = Says true n
  chain a (Linked at r t rest) s e n = lazily (related s.store r a (term t s e) n) (chain (term t s e) rest s e) (Says false)

  -- what a predicate says in a state with so many steps left
  pub pred : Predicate → State → Environment → ℕ → Answer
  pred (Truth at b) s e n = Says b n
  pred (NonZero at t) s e n = related s.store Ne (term t s e) (Some (Mathematical (pos 0))) n
  pred (Chain at t links) s e n = chain (term t s e) links s e n
  pred (Not at p) s e n = denied (pred p s e n)
  pred (Connected at c p q) s e n = connected c (pred p s e n) (pred q s e)
  pred (Branch at c p q) s e n = lazily (pred c s e n) (pred p s e) (pred q s e)
  pred (Quantified at q gs p) s e n = guarded q gs (pred p s) s e n
  pred (Asks at f z) s e n = said (option_map (asks f s.store (alignment_of z)) (zone z s e)) n
  pred (Separated at zs) s e n = said (option_map all_apart (zones zs s e)) n

  -- what is said within guards; the bounds of a chain are evaluated when its turn comes, once
  pub guarded : Quantifier → Guards → (Environment → ℕ → Answer) → State → Environment → ℕ → Answer
  guarded q NoGuard p s e n = p e n
  guarded q (Guarded a y ys below b rest) p s e n =
      between (term a s e) (term b s e) (λ l h. over q l (y ∷ ys) (lowered below h) (guarded q rest p s) e) n

-- ---- clauses

-- what isn't typed yet says nothing, a variant says nothing by itself, and which behaviors hold is no matter of a state
abbrev pub clause : ClauseBody → State → Environment → ℕ → Answer
clause (Raw f) s e n = SaysNothing n
clause (Holds p) s e n = pred p s e n
clause (logic.Value t) s e n = SaysNothing n
clause (Behaviors names) s e n = SaysNothing n

abbrev pub check_in : Environment → Annotation → Evaluation (Unit {0})
check_in e a = λ s. judged a (clause a.body s e s.steps) s

abbrev pub check : Annotation → Evaluation (Unit {0})
check = check_in []

-- annotations in their order
abbrev pub checks_in : Environment → List Annotation → Evaluation (Unit {0})
checks_in e [] = done
checks_in e (a ∷ rest) = check_in e a >> checks_in e rest

abbrev pub checks : List Annotation → Evaluation (Unit {0})
checks = checks_in []

-- ---- annotations of loops (ACSL 2.4.2)

abbrev pub invariant : Annotation → ClauseBody → Evaluation (Unit {0})
invariant a (Raw f) = check a
invariant a (Holds p) = check a
invariant a (logic.Value t) = done
invariant a (Behaviors names) = check a

-- the invariants, in their order
abbrev pub invariants : List Annotation → Evaluation (Unit {0})
invariants [] = done
invariants (a ∷ rest) = invariant a a.body >> invariants rest

abbrev pub variant_in : Annotation → ClauseBody → Option (Annotation × LogicTerm) → Option (Annotation × LogicTerm)
variant_in a (Raw f) others = others
variant_in a (Holds p) others = others
variant_in a (logic.Value t) others = Some (a, t)
variant_in a (Behaviors names) others = others

-- the variant, with its term
abbrev pub variant : List Annotation → Option (Annotation × LogicTerm)
variant [] = None
variant (a ∷ rest) = variant_in a a.body (variant rest)

-- the value that an annotation wants; it is broken where there is none
abbrev pub valued : Annotation → Option TermValue → Evaluation ℤ
valued a None = λ s. Stop (Over (Broken a.number a.place.line a.kind how.Undefined)) s
valued a (Some (Addressed x)) = λ s. Stop (Over (Broken a.number a.place.line a.kind how.Undefined)) s
valued a (Some (Mathematical z)) = give z

abbrev pub value_of : Annotation → LogicTerm → Evaluation ℤ
value_of a t = λ s. valued a (term t s []) s

-- a variant that was kept isn't negative, and has become smaller
abbrev pub is_smaller : ℤ → ℤ → Bool
is_smaller old new = int_le (pos 0) old && int_lt new old

abbrev pub compared : Annotation → ℤ → ℤ → Evaluation (Unit {0})
compared a old new = λ s. judged a (Says (is_smaller old new) s.steps) s
