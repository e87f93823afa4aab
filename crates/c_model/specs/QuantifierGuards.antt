-- The guards of quantifiers (ACSL 2.2), which say what the values of their binders are; which forms are guards is ours. In `\forall T x1, .., xk; G ==> P`
-- and in `\exists T x1, .., xk; G && P` the first conjuncts of G are chains of `<` and `<=`, each from a lower bound over the next binders, in their order,
-- to an upper bound. A bound mentions no binder of its own chain or of a later one. Parentheses around conjuncts don't count. What else stands among the
-- conjuncts of a `\forall` is a hypothesis of P; behind the guards of an `\exists` something has to stand.
use Rattle.std.specs.Prelude.{ℕ, List, [], ◌∷◌, length, take, ◌-◌, Option, Some, None, Bool, true, false, not, ◌&&◌, ◌||◌, cond, nat_eq, nat_lt}
use Rattle.c_syntax.specs.declared.place.Place.{Place}
use Rattle.c_syntax.specs.declared.annotation.Relation.{Relation}
use Rattle.c_syntax.specs.declared.annotation.Relation.TheVariants.{Eq, Ne, Lt, Le, Gt, Ge}
use Rattle.c_syntax.specs.declared.logic.Connective.TheVariants.{And, Implies}
use Rattle.c_syntax.specs.declared.logic.Quantifier.{Quantifier}
use Rattle.c_syntax.specs.declared.logic.Quantifier.TheVariants.{ForAll, Exists}
use Rattle.c_syntax.specs.Formulas.{Form, Number, Letter, Truth, Name, Unary, Binary, Cast, SizeOf, Chain, Connected, Choice, Null, Index, Dot, Arrow}
use Rattle.c_syntax.specs.Formulas.{Told, Asks, Separated, Result, Old, At, Quantified}
use Rattle.c_syntax.specs.Formulas.{FormLinks, NoLink, Linked, FormZone, Object, Elements, FormZones, NoZone, Another}

-- ---- names

-- whether a name is that of one of these binders, each with its place and its name
abbrev pub is_binder : ℕ → List (Place × ℕ) → Bool
is_binder x [] = false
is_binder x (b ∷ bs) = nat_eq x b.1 || is_binder x bs

-- whether a form mentions this name; the binders of a quantifier hide what has their names
abbrev mutual
  pub mentions : ℕ → Form → Bool
  mentions x (Number at n) = false
  mentions x (Letter at n) = false
  mentions x (Truth at v) = false
  mentions x (Name at y) = nat_eq x y.name
  mentions x (Unary at op a) = mentions x a
  mentions x (Binary at op a c) = mentions x a || mentions x c
  mentions x (Cast at to a) = mentions x a
  mentions x (SizeOf at u) = false
  mentions x (Chain at a links) = mentions x a || links_mention x links
  mentions x (Connected at k a c) = mentions x a || mentions x c
  mentions x (Choice at k a c) = mentions x k || mentions x a || mentions x c
  mentions x (Null at) = false
  mentions x (Index at a c) = mentions x a || mentions x c
  mentions x (Dot at a m) = mentions x a
  mentions x (Arrow at a m) = mentions x a
  mentions x (Told at f a) = mentions x a
  mentions x (Asks at q z) = zone_mentions x z
  mentions x (Separated at zs) = zones_mention x zs
  mentions x (Result at) = false
  mentions x (Old at a) = mentions x a
  mentions x (At at a place l) = mentions x a
  mentions x (Quantified at q to names a) = not (is_binder x names) && mentions x a

  pub links_mention : ℕ → FormLinks → Bool
  links_mention x NoLink = false
  links_mention x (Linked at r a rest) = mentions x a || links_mention x rest

  pub zone_mentions : ℕ → FormZone → Bool
  zone_mentions x (Object a) = mentions x a
  zone_mentions x (Elements at a lo hi) = mentions x a || mentions x lo || mentions x hi

  pub zones_mention : ℕ → FormZones → Bool
  zones_mention x NoZone = false
  zones_mention x (Another z rest) = zone_mentions x z || zones_mention x rest

-- whether it mentions one of these binders
abbrev pub mentions_any : List (Place × ℕ) → Form → Bool
mentions_any [] f = false
mentions_any (b ∷ bs) f = mentions b.1 f || mentions_any bs f

-- ---- chains

abbrev pub is_upward : Relation → Bool
is_upward Lt = true
is_upward Le = true
is_upward Eq = false
is_upward Ne = false
is_upward Gt = false
is_upward Ge = false

abbrev pub is_strict : Relation → Bool
is_strict Lt = true
is_strict Le = false
is_strict Eq = false
is_strict Ne = false
is_strict Gt = false
is_strict Ge = false

abbrev pub is_name_of : Place × ℕ → Form → Bool
is_name_of b (Name at x) = nat_eq x.name b.1
is_name_of b _ = false

-- the rest of a chain behind some of its binders: the next ones of these, and an upper bound that mentions none of the second; those that are left behind it
abbrev pub behind_links : List (Place × ℕ) → List (Place × ℕ) → FormLinks → Option (List (Place × ℕ))
behind_links bs later NoLink = None
behind_links bs later (Linked at r a NoLink) = cond (is_upward r && not (mentions_any later a)) (Some bs) None
behind_links [] later (Linked at r a rest) = None
behind_links (b ∷ bs) later (Linked at r a rest) = cond (is_upward r && is_name_of b a) (behind_links bs later rest) None

-- a chain from a lower bound over the first of these binders, and perhaps more of them, to an upper bound; the binders that are left behind it
abbrev pub behind_chain : List (Place × ℕ) → Form → FormLinks → Option (List (Place × ℕ))
behind_chain bs a NoLink = None
behind_chain bs a (Linked at r b NoLink) = None
behind_chain bs a (Linked at r b rest) = cond (mentions_any bs a) None (behind_links bs bs (Linked at r b rest))

-- ---- conjunctions

-- behind a conjunct that is a chain, and behind one that is none: where no binders are left any conjunct may stand
abbrev pub behind_conjunct : List (Place × ℕ) → Option (List (Place × ℕ)) → Option (List (Place × ℕ))
behind_conjunct [] chain = Some []
behind_conjunct (b ∷ bs) chain = chain

-- a conjunction whose first conjuncts are chains over these binders: the binders that are left behind it, and none where one of its conjuncts is no chain
-- before the binders are at an end
abbrev pub unguarded : List (Place × ℕ) → Form → Option (List (Place × ℕ))
unguarded bs (Connected at And a b) = elim (unguarded bs a) [ None ↦ None | Some rest ↦ unguarded rest b ]
unguarded bs (Chain at a links) = behind_conjunct bs (behind_chain bs a links)
unguarded bs f = behind_conjunct bs None

abbrev pub is_done : Option (List (Place × ℕ)) → Bool
is_done None = false
is_done (Some []) = true
is_done (Some (b ∷ bs)) = false

-- whether a conjunction has a conjunct behind the chains over these binders
abbrev pub goes_on : List (Place × ℕ) → Form → Bool
goes_on [] f = true
goes_on (b ∷ bs) (Connected at And a c) = elim (unguarded (b ∷ bs) a) [ None ↦ false | Some rest ↦ goes_on rest c ]
goes_on (b ∷ bs) f = false

-- the binders that are left behind a part of a guard, and those that stand in it
abbrev pub left_behind : List (Place × ℕ) → Form → List (Place × ℕ)
left_behind bs a = elim (unguarded bs a) [ None ↦ [] | Some rest ↦ rest ]

abbrev pub guarded_by : List (Place × ℕ) → Form → List (Place × ℕ)
guarded_by bs a = take (length bs - length (left_behind bs a)) bs

-- ---- quantifiers

-- whether what a quantifier says of its binders has guards for them
abbrev pub is_guarded : Quantifier → List (Place × ℕ) → Form → Bool
is_guarded ForAll bs (Connected at Implies a b) = is_done (unguarded bs a)
is_guarded ForAll bs f = false
is_guarded Exists bs f = is_done (unguarded bs f) && goes_on bs f

-- the first in the text of two places, where there are some
abbrev pub first_place : Option Place → Option Place → Option Place
first_place None q = q
first_place (Some p) None = Some p
first_place (Some p) (Some q) = cond (nat_lt q.offset p.offset) (Some q) (Some p)

-- the place of the first quantifier in a form that has no guard
abbrev mutual
  pub unguarded_in : Form → Option Place
  unguarded_in (Number at n) = None
  unguarded_in (Letter at n) = None
  unguarded_in (Truth at v) = None
  unguarded_in (Name at x) = None
  unguarded_in (Unary at op a) = unguarded_in a
  unguarded_in (Binary at op a b) = first_place (unguarded_in a) (unguarded_in b)
  unguarded_in (Cast at to a) = unguarded_in a
  unguarded_in (SizeOf at u) = None
  unguarded_in (Chain at a links) = first_place (unguarded_in a) (unguarded_in_links links)
  unguarded_in (Connected at k a b) = first_place (unguarded_in a) (unguarded_in b)
  unguarded_in (Choice at k a b) = first_place (unguarded_in k) (first_place (unguarded_in a) (unguarded_in b))
  unguarded_in (Null at) = None
  unguarded_in (Index at a b) = first_place (unguarded_in a) (unguarded_in b)
  unguarded_in (Dot at a m) = unguarded_in a
  unguarded_in (Arrow at a m) = unguarded_in a
  unguarded_in (Told at f a) = unguarded_in a
  unguarded_in (Asks at q z) = unguarded_in_zone z
  unguarded_in (Separated at zs) = unguarded_in_zones zs
  unguarded_in (Result at) = None
  unguarded_in (Old at a) = unguarded_in a
  unguarded_in (At at a place l) = unguarded_in a
  unguarded_in (Quantified at q to names a) = first_place (cond (is_guarded q names a) None (Some at)) (unguarded_in a)

  pub unguarded_in_links : FormLinks → Option Place
  unguarded_in_links NoLink = None
  unguarded_in_links (Linked at r a rest) = first_place (unguarded_in a) (unguarded_in_links rest)

  pub unguarded_in_zone : FormZone → Option Place
  unguarded_in_zone (Object a) = unguarded_in a
  unguarded_in_zone (Elements at a lo hi) = first_place (unguarded_in a) (first_place (unguarded_in lo) (unguarded_in hi))

  pub unguarded_in_zones : FormZones → Option Place
  unguarded_in_zones NoZone = None
  unguarded_in_zones (Another z rest) = first_place (unguarded_in_zone z) (unguarded_in_zones rest)
