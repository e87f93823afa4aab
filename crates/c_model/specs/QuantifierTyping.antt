-- The parts of quantifiers that typing makes (ACSL 2.2): the chains of a guard, with their binders, and what stands behind it. In a `\forall` what else stands
-- among the conjuncts of its guard is a hypothesis; in an `\exists` it is what is said.
use Rattle.std.specs.Prelude.{ℕ, List, [], ◌∷◌, ◌++◌, Option, Some, None, Bool, false}
use Rattle.c_syntax.specs.RefusalCodes.{guard_code}
use Rattle.c_syntax.specs.declared.place.Place.{Place}
use Rattle.c_syntax.specs.declared.annotation.Relation.{Relation}
use Rattle.c_syntax.specs.declared.logic.Connective.{Connective}
use Rattle.c_syntax.specs.declared.logic.Connective.TheVariants.{And, Implies}
use Rattle.c_syntax.specs.declared.logic.Quantifier.{Quantifier}
use Rattle.c_syntax.specs.declared.logic.Quantifier.TheVariants.{ForAll, Exists}
use Rattle.c_syntax.specs.Ctypes.{PlainType}
use Rattle.c_syntax.specs.Formulas as read
use Rattle.c_syntax.specs.Formulas.{CastType, Integers, OfC, FormLinks}
use Rattle.c_syntax.specs.Logic.{LogicTerm, Predicate, Connected, Quantified, Binder, Guards, NoGuard, Guarded}
use Rattle.c_model.specs.Integers.{integer_type}
use Rattle.c_model.specs.Checked.{Fault, Checked, Good, faulty, given, one_part, pair_of}
use Rattle.c_model.specs.QuantifierGuards.{is_strict}
use Rattle.c_model.specs.ExpressionTyping.{no_type, Sight, typed_type}
use Rattle.c_model.specs.FormSorts.{Sorted, APredicate, value_in, as_integer, as_predicate}

abbrev pub no_guard : Place → Fault
no_guard at = record { code = guard_code; place = at }

-- the type of binders: the unbounded integers, or an integer type of C
abbrev pub integer_binders : Place → PlainType → Checked CastType
integer_binders at t = elim (integer_type t) [ None ↦ faulty (no_type at) | Some k ↦ Good (OfC t) ]

abbrev pub binder_type : Sight → Place → CastType → Checked CastType
binder_type s at Integers = Good Integers
binder_type s at (OfC t) = one_part (typed_type s at t) (integer_binders at)

-- a binder behind this relation
abbrev pub binder_behind : CastType → Relation → Place × ℕ → Binder
binder_behind k r b = record { place = b.0; kind = k; above = is_strict r }

-- the binders in the rest of a chain, of these that are left; the last form is the upper bound
abbrev pub binders_in : CastType → List (Place × ℕ) → FormLinks → List Binder
binders_in k (b ∷ bs) (read.Linked at r a (read.Linked place s c rest)) = binder_behind k r b ∷ binders_in k bs (read.Linked place s c rest)
binders_in k bs links = []

-- whether the last relation of a chain is a `<`
abbrev pub is_below : FormLinks → Bool
is_below read.NoLink = false
is_below (read.Linked at r a read.NoLink) = is_strict r
is_below (read.Linked at r a rest) = is_below rest

-- a chain of a guard
pub record GuardChain : Type 0 where
  pub lower : LogicTerm
  pub first : Binder
  pub others : List Binder
  pub below : Bool
  pub upper : LogicTerm

abbrev pub guards_of : List GuardChain → Guards
guards_of [] = NoGuard
guards_of (c ∷ cs) = Guarded c.lower c.first c.others c.below c.upper (guards_of cs)

-- what the conjuncts of a form are: the chains of a guard, and what else stands there
pub record Conjuncts : Type 0 where
  pub chains : List GuardChain
  pub others : Option Predicate

-- two predicates with `&&` at this place between them, where there are two
abbrev pub both_of : Place → Option Predicate → Option Predicate → Option Predicate
both_of at None q = q
both_of at (Some p) None = Some p
both_of at (Some p) (Some q) = Some (Connected at And p q)

abbrev pub joined : Place → Conjuncts → Conjuncts → Conjuncts
joined at a b = record { chains = a.chains ++ b.chains; others = both_of at a.others b.others }

-- two parts of a conjunction
abbrev pub conjunction : Place → Checked Conjuncts → Checked Conjuncts → Checked Conjuncts
conjunction at a b = one_part (pair_of a b) (λ p. Good (joined at p.0 p.1))

-- a conjunct behind the guard, as an operand of what stands at this place
abbrev pub another_conjunct : Place → Checked Sorted → Checked Conjuncts
another_conjunct at a = one_part (value_in a) (λ v. one_part (as_predicate at v) (λ p. Good (record { chains = []; others = Some p })))

-- a conjunct of the quantifier at the first place that is no chain, where these of its binders are left
abbrev pub other_conjunct : Place → List (Place × ℕ) → Place → Checked Sorted → Checked Conjuncts
other_conjunct at [] place a = another_conjunct place a
other_conjunct at (b ∷ bs) place a = faulty (no_guard at)

-- an integer that is a bound
abbrev pub bound_at : Place → Checked Sorted → Checked LogicTerm
bound_at at a = one_part (value_in a) (as_integer at)

-- a chain over a binder and perhaps more of these, from and to these bounds
abbrev pub chain_over : CastType → Place × ℕ → List (Place × ℕ) → Relation → FormLinks → LogicTerm → LogicTerm → Conjuncts
chain_over k b bs r rest lower upper = record {
  chains = record { lower = lower; first = binder_behind k r b; others = binders_in k bs rest; below = is_below rest; upper = upper } ∷ [];
  others = None;
}

-- a conjunct that is a chain with these bounds, and this as a form; a binder stands between two signs
abbrev pub chain_conjunct : Place → CastType → List (Place × ℕ) → Place → FormLinks → Checked LogicTerm → Checked LogicTerm → Checked Sorted → Checked Conjuncts
chain_conjunct at k [] place links lower upper a = another_conjunct place a
chain_conjunct at k (b ∷ bs) place (read.Linked l r c (read.Linked m s d rest)) lower upper a =
    one_part (pair_of lower upper) (λ p. Good (chain_over k b bs r (read.Linked m s d rest) p.0 p.1))
chain_conjunct at k (b ∷ bs) place links lower upper a = faulty (no_guard at)

-- `\forall`, whose `==>` stands at the second place; hypotheses are the left of one
abbrev pub implied : Place → Option Predicate → Predicate → Predicate
implied at None p = p
implied at (Some h) p = Connected at Implies h p

abbrev pub universal : Place → Place → Conjuncts → Sorted → Checked Sorted
universal at place c a =
    one_part (as_predicate place a) (λ p. Good (APredicate (Quantified at ForAll (guards_of c.chains) (implied place c.others p))))

-- `\exists`, of which something stands behind the guard
abbrev pub existential : Place → Conjuncts → Checked Sorted
existential at c = given c.others (no_guard at) (λ p. Good (APredicate (Quantified at Exists (guards_of c.chains) p)))

-- a quantifier at the first place that says this connective, at the second place, of two forms: what the conjuncts of both are, and the second as a form
abbrev pub quantified : Place → Place → Quantifier → Connective → Checked Conjuncts → Checked Conjuncts → Checked Sorted → Checked Sorted
quantified at place ForAll Implies a b c = one_part (pair_of a c) (λ p. universal at place p.0 p.1)
quantified at place Exists And a b c = one_part (conjunction place a b) (existential at)
quantified at place q j a b c = faulty (no_guard at)
