-- What typing makes of annotations has no more tokens than they, and no number in them is below the least value of 64 bits.
use Rattle.std.proofs.Common.{◌≡◌, ℕ, suc, ◌+◌, ◌≤◌, List, [], ◌∷◌, Option, Some, None, refl, subst, sym, arith, ◌++◌, length, ◌⊎◌, inl, inr}
use Rattle.std.specs.Prelude.{option_map, ◌*◌}
use Rattle.c_syntax.specs.declared.annotation.Kind.{Kind}
use Rattle.c_syntax.specs.declared.annotation.Kind.TheVariants.{Assert, Requires, Assumes, Ensures, Complete, Disjoint, Invariant, Variant, Rte}
use Rattle.c_syntax.specs.declared.annotation.Relation.{Relation}
use Rattle.c_syntax.specs.declared.place.Place.{Place}
use Rattle.c_syntax.specs.declared.expression.BinOp.{BinOp}
use Rattle.c_syntax.specs.declared.logic.Connective.{Connective}
use Rattle.c_syntax.specs.declared.logic.Connective.TheVariants.{And, Xor, Or, Implies, Iff}
use Rattle.c_syntax.specs.declared.logic.Quantifier.{Quantifier}
use Rattle.c_syntax.specs.declared.logic.Quantifier.TheVariants.{ForAll, Exists}
use Rattle.c_syntax.specs.declared.logic.Label.{Label}
use Rattle.c_syntax.specs.declared.logic.Label.TheVariants as label
use Rattle.c_syntax.specs.declared.logic.MemoryQuestion.{MemoryQuestion}
use Rattle.c_syntax.specs.declared.logic.MemoryQuestion.TheVariants.{ValidRead}
use Rattle.c_syntax.specs.Formulas as read
use Rattle.c_syntax.specs.Formulas.{CastType, Integers, OfC, Form, FormLinks, FormZone, FormZones}
use Rattle.c_syntax.specs.Logic.{Quantified, LogicTerm, Linked, Predicate, Another, ClauseBody, Raw, Holds, Value, Annotation, Behaviors}
use Rattle.c_model.specs.Checked.{Checked, Good, Bad, one_part, pair_of}
use Rattle.c_model.specs.ExpressionTyping.{no_type, Sight, typed_type, known_type}
use Rattle.c_model.specs.PredicateTyping.{place_of_term, Sorted, ATerm, APredicate, APlace, sort_of_term, is_integer, value_in, as_integer, as_pointer}
use Rattle.c_model.specs.PredicateTyping.{as_predicate, no_label, has_old}
use Rattle.c_model.specs.PredicateTyping.{dot, arrow}
use Rattle.c_model.specs.PredicateTyping.{index, unary_on, binary_on, cast_integer, cast, size_in, connected}
use Rattle.c_model.specs.PredicateTyping.{chosen, Side, side_of, right_side, related, told, object_zone, elements_zone, typed_form, typed_links, typed_zone, typed_zones, clause_holds, typed_clause, typed_annotations}
use Rattle.c_model.specs.Formed.{tokens_of_guards, GuardsNumbered, IsShortPredicate, IsLoopKind, IsLoopClause, AreLoopClauses, AreReadLoopClauses, tokens_of_term, TermNumbered, IsShortClause, AreAsserts}
use Rattle.c_model.specs.Formed.{operator_of_form, tokens_of_form, tokens_of_form_links, tokens_of_form_zone, tokens_of_form_zones, FormNumbered, FormLinksNumbered, FormZoneNumbered, FormZonesNumbered}
use Rattle.c_model.specs.Formed.{IsShortReading, AreReadAsserts}
use Rattle.c_model.specs.AnnotationSights.{ClauseSight, InBody, AtEntry, AtEnd, UnderLabel, AnnotationSight, under_label, marked, beginning, sight_at, label_named}
use Rattle.c_model.specs.FileItems.{SeesValues}
use Rattle.c_model.proofs.TypedParts.{Gives, gives_one, gives_more, gives_both, gives_given, gives_where, gives_sized, gives_if}
use Rattle.c_model.specs.AnnotationSights.{with_binders}
use Rattle.c_model.specs.QuantifierGuards.{is_guarded, left_behind, guarded_by}
use Rattle.c_model.specs.QuantifierTyping.{no_guard, binder_type, binders_in, GuardChain, guards_of, Conjuncts, both_of, joined, conjunction, another_conjunct, other_conjunct, bound_at, chain_over, chain_conjunct, implied, universal, existential}
use Rattle.c_model.specs.QuantifierTyping.{quantified}
use Rattle.c_model.specs.PredicateTyping.{is_refused, typed_quantified, typed_conjuncts, typed_upper, variant_value, said}
use Rattle.c_model.proofs.SortedTrees.{gives_pair, gives_limited, Any, anything}
use Rattle.c_model.proofs.NotedSorts.{natural, bare, TermKept, PointerKept, LinksKept, PredicateKept, ZoneKept, ZonesKept, SortedKept, integer_kept, pointer_kept, holds_kept, predicate_kept, name_kept, result_kept, values_of, labelled_kept, dot_kept}
use Rattle.c_model.proofs.NotedSorts.{arrow_kept, binary_kept, index_kept, unary_kept, cast_integer_kept, cast_kept, connected_kept, chosen_kept, right_kept, chain_kept, object_kept, elements_kept}

-- ---- forms

-- enumerators that are in sight of an annotation, here and at labels, are values of `int`
abbrev ClauseSees : ClauseSight → Type 0
ClauseSees (InBody v) = SeesValues v
ClauseSees AtEntry = Unit {0}
ClauseSees (AtEnd formals t) = Unit {0}
ClauseSees (UnderLabel formals) = Unit {0}

pub record SeesAll (s : AnnotationSight) : Type 0 where
  pub here : SeesValues s.here
  pub clause : ClauseSees s.clause
  pub labels : (l : ℕ) (v : Sight) → marked l s.labels ≡ Some v → SeesValues v

beginning_sees : (here : Sight) (k : ClauseSight) → SeesValues here → ClauseSees k → (v : Sight) → beginning here k ≡ Some v → SeesValues v
beginning_sees here (InBody w) h k v e = let same : w ≡ v = cc in subst SeesValues same k
beginning_sees here AtEntry h k v e = absurd cc
beginning_sees here (AtEnd formals t) h k v e = let same : here ≡ v = cc in subst SeesValues same h
beginning_sees here (UnderLabel formals) h k v e = absurd cc

sees_under : (s : AnnotationSight) (u : AnnotationSight) (o : Option Sight) → ((v : Sight) → o ≡ Some v → SeesValues v) → option_map (under_label s) o ≡ Some u → SeesAll u
sees_under s u None h g = absurd cc
sees_under s u (Some v) h g = let same : under_label s v ≡ u = cc in subst SeesAll same (record { here = h v refl; clause = tt; labels = λ l w e. absurd cc })

sees_at : (s : AnnotationSight) → SeesAll s → (l : Label) (u : AnnotationSight) → sight_at s l ≡ Some u → SeesAll u
sees_at s k label.Here u e = let same : s ≡ u = cc in subst SeesAll same k
sees_at s k label.Pre u e = sees_under s u (beginning s.here s.clause) (beginning_sees s.here s.clause k.here k.clause) e
sees_at s k (label.Marked l) u e = sees_under s u (marked l s.labels) (k.labels l) e

-- what is typed has no more tokens than a form
abbrev FormKept : Form → Sorted → Type 0
FormKept f = SortedKept (tokens_of_form f) (operator_of_form f)

values_kept : (f : Form) (k : Checked Sorted) → Gives (FormKept f) k → Gives (FormKept f) (value_in k)
values_kept f k w = values_of (tokens_of_form f) (operator_of_form f) k w

one_kept : (R : Sorted → Type 0) (s : AnnotationSight) (a : Form) → Gives (FormKept a) (typed_form s a) → (m : Sorted → Checked Sorted) → ((x : Sorted) → FormKept a x → Gives R (m x)) → Gives R (one_part (value_in (typed_form s a)) m)
one_kept R s a v m f = gives_one (FormKept a) R (value_in (typed_form s a)) m (values_kept a (typed_form s a) v) f

two_kept : (R : Sorted → Type 0) (s : AnnotationSight) (a b : Form) → Gives (FormKept a) (typed_form s a) → Gives (FormKept b) (typed_form s b) → (m : Sorted × Sorted → Checked Sorted)
    → ((x y : Sorted) → FormKept a x → FormKept b y → Gives R (m (x, y)))
    → Gives R (one_part (pair_of (value_in (typed_form s a)) (value_in (typed_form s b))) m)
two_kept R s a b v w m f = gives_pair (FormKept a) (FormKept b) R (value_in (typed_form s a)) (value_in (typed_form s b)) m (values_kept a (typed_form s a) v) (values_kept b (typed_form s b) w) f

pair_kept : (s : AnnotationSight) (a b : Form) → Gives (FormKept a) (typed_form s a) → Gives (FormKept b) (typed_form s b)
    → Gives (λ (p : Sorted × Sorted). FormKept a p.0 × FormKept b p.1) (pair_of (value_in (typed_form s a)) (value_in (typed_form s b)))
pair_kept s a b v w =
    gives_both (FormKept a) (FormKept b) (λ (p : Sorted × Sorted). FormKept a p.0 × FormKept b p.1) (value_in (typed_form s a)) (value_in (typed_form s b)) (λ a b. Good (a, b)) (values_kept a (typed_form s a) v)
    (values_kept b (typed_form s b) w) (λ a b v w. (v, w))

-- ---- quantifiers

-- a form is read where more binders are in sight
sees_binders : (s : AnnotationSight) (bs : List (Place × ℕ)) → SeesAll s → SeesAll (with_binders s bs)
sees_binders s bs k = record { here = k.here; clause = k.clause; labels = k.labels }

-- chains and what else stands among conjuncts, of no more tokens
abbrev OthersKept : ℕ → Option Predicate → Type 0
OthersKept n None = Unit {0}
OthersKept n (Some p) = PredicateKept n p

abbrev GuardsKept : ℕ → List GuardChain → Type 0
GuardsKept n cs = GuardsNumbered (guards_of cs) × (tokens_of_guards (guards_of cs) ≤ n)

record ConjunctsKept (n : ℕ) (c : Conjuncts) : Type 0 where
  m : ℕ
  l : ℕ
  chains : GuardsKept m c.chains
  others : OthersKept l c.others
  all : m + l ≤ n

numbered_all : (cs ds : List GuardChain) → GuardsNumbered (guards_of cs) → GuardsNumbered (guards_of ds) → GuardsNumbered (guards_of (cs ++ ds))
numbered_all [] ds v w = w
numbered_all (c ∷ cs) ds v w = (v.0, v.1, numbered_all cs ds v.2 w)

tokens_all : (cs ds : List GuardChain) → tokens_of_guards (guards_of (cs ++ ds)) ≡ tokens_of_guards (guards_of cs) + tokens_of_guards (guards_of ds)
tokens_all [] ds = omega arith
tokens_all (c ∷ cs) ds = let e = tokens_all cs ds in omega (arith, e)

guards_all : (m n : ℕ) (cs ds : List GuardChain) → GuardsKept m cs → GuardsKept n ds → GuardsKept (m + n) (cs ++ ds)
guards_all m n cs ds v w = let e = tokens_all cs ds in (numbered_all cs ds v.0 w.0, omega (arith, e, v.1, w.1))

others_more : (m n : ℕ) (p : Option Predicate) → m ≤ n → OthersKept m p → OthersKept n p
others_more m n None h v = tt
others_more m n (Some p) h v = (v.0, omega (arith, h, v.1))

others_all : (at : Place) (m n : ℕ) (p q : Option Predicate) → OthersKept m p → OthersKept n q → OthersKept (suc (m + n)) (both_of at p q)
others_all at m n None q v w = others_more n (suc (m + n)) q (omega arith) w
others_all at m n (Some p) None v w = (v.0, omega (arith, v.1))
others_all at m n (Some p) (Some q) v w = ((v.0, w.0), omega (arith, v.1, w.1))

conjunction_kept : (at : Place) (m n : ℕ) (a b : Checked Conjuncts) → Gives (ConjunctsKept m) a → Gives (ConjunctsKept n) b → Gives (ConjunctsKept (suc (m + n))) (conjunction at a b)
conjunction_kept at m n a b v w =
    gives_pair (ConjunctsKept m) (ConjunctsKept n) (ConjunctsKept (suc (m + n))) a b (λ p. Good (joined at p.0 p.1)) v w (λ c d x y. record {
      m = x.m + y.m;
      l = suc (x.l + y.l);
      chains = guards_all x.m y.m c.chains d.chains x.chains y.chains;
      others = others_all at x.l y.l c.others d.others x.others y.others;
      all = (let i = x.all in let j = y.all in omega (arith, i, j));
    })

another_kept : (at : Place) (n : ℕ) (o : Option BinOp) (a : Checked Sorted) → Gives (SortedKept n o) a → Gives (ConjunctsKept n) (another_conjunct at a)
another_kept at n o a w =
    gives_one (SortedKept n o) (ConjunctsKept n) (value_in a) _ (values_of n o a w) (λ v x.
    gives_one (PredicateKept n) (ConjunctsKept n) (as_predicate at v) _ (predicate_kept at n o v x) (λ p y. record { m = 0; l = n; chains = (tt, omega arith); others = y; all = omega arith }))

other_kept : (at place : Place) (bs : List (Place × ℕ)) (n : ℕ) (o : Option BinOp) (a : Checked Sorted) → Gives (SortedKept n o) a → Gives (ConjunctsKept n) (other_conjunct at bs place a)
other_kept at place [] n o a w = another_kept place n o a w
other_kept at place (b ∷ bs) n o a w = tt

bound_kept : (at : Place) (n : ℕ) (o : Option BinOp) (a : Checked Sorted) → Gives (SortedKept n o) a → Gives (TermKept n o) (bound_at at a)
bound_kept at n o a w = gives_one (SortedKept n o) (TermKept n o) (value_in a) (as_integer at) (values_of n o a w) (integer_kept at n o)

-- a form has a token
has_token : (f : Form) → 1 ≤ tokens_of_form f
has_token (read.Number at n) = omega arith
has_token (read.Letter at n) = omega arith
has_token (read.Truth at b) = omega arith
has_token (read.Name at x) = omega arith
has_token (read.Unary at op a) = omega arith
has_token (read.Binary at op a b) = omega arith
has_token (read.Cast at to a) = omega arith
has_token (read.SizeOf at t) = omega arith
has_token (read.Chain at a links) = let e = has_token a in omega (arith, e)
has_token (read.Connected at c a b) = omega arith
has_token (read.Choice at c a b) = omega arith
has_token (read.Null at) = omega arith
has_token (read.Index at a b) = omega arith
has_token (read.Dot at a m) = omega arith
has_token (read.Arrow at a m) = omega arith
has_token (read.Told at f a) = omega arith
has_token (read.Asks at q z) = omega arith
has_token (read.Separated at zs) = omega arith
has_token (read.Result at) = omega arith
has_token (read.Old at a) = omega arith
has_token (read.At at a place l) = omega arith
has_token (read.Quantified at q to names a) = omega arith

-- the last form of a chain, and the binders before it, of which each has a relation
abbrev UpperKept : FormLinks → LogicTerm → Type 0
UpperKept links t = TermNumbered t × ((k : CastType) (bs : List (Place × ℕ)) → 2 * length (binders_in k bs links) + suc (tokens_of_term t) ≤ tokens_of_form_links links)

upper_last : (at : Place) (r : Relation) (a : Form) (o : Option BinOp) (t : LogicTerm) → TermKept (tokens_of_form a) o t → UpperKept (read.Linked at r a read.NoLink) t
upper_last at r a o t w = (w.0, all)
  where
    all : (k : CastType) (bs : List (Place × ℕ)) → 2 * length (binders_in k bs (read.Linked at r a read.NoLink)) + suc (tokens_of_term t) ≤ suc (tokens_of_form a + 0)
    all k [] = omega (arith, w.1)
    all k (b ∷ bs) = omega (arith, w.1)

upper_more : (at : Place) (r : Relation) (a : Form) (place : Place) (u : Relation) (c : Form) (rest : FormLinks) (t : LogicTerm) → UpperKept (read.Linked place u c rest) t → UpperKept (read.Linked at r a (read.Linked place u c rest)) t
upper_more at r a place u c rest t w = (w.0, all)
  where
    all : (k : CastType) (bs : List (Place × ℕ)) → 2 * length (binders_in k bs (read.Linked at r a (read.Linked place u c rest))) + suc (tokens_of_term t) ≤ suc (tokens_of_form a + tokens_of_form_links (read.Linked place u c rest))
    all k [] = let e = w.1 k [] in omega (arith, e)
    all k (b ∷ bs) = let e = w.1 k bs in let f = has_token a in omega (arith, e, f)

chain_tokens : (k : CastType) (b : Place × ℕ) (bs : List (Place × ℕ)) (m : ℕ) (l : Place) (r : Relation) (c : Form) (p : Place) (s : Relation) (d : Form) (rest : FormLinks) (t u : LogicTerm) → tokens_of_term t ≤ m
    → UpperKept (read.Linked l r c (read.Linked p s d rest)) u
    → tokens_of_guards (guards_of (chain_over k b bs r (read.Linked p s d rest) t u).chains) ≤ m + tokens_of_form_links (read.Linked l r c (read.Linked p s d rest))
chain_tokens k b bs m l r c p s d rest t u v w = let e = w.1 k (b ∷ bs) in omega (arith, e, v)

chain_over_kept : (k : CastType) (b : Place × ℕ) (bs : List (Place × ℕ)) (m : ℕ) (o : Option BinOp) (l : Place) (r : Relation) (c : Form) (p : Place) (s : Relation) (d : Form) (rest : FormLinks) (t u : LogicTerm) → TermKept m o t
    → UpperKept (read.Linked l r c (read.Linked p s d rest)) u
    → ConjunctsKept (m + tokens_of_form_links (read.Linked l r c (read.Linked p s d rest))) (chain_over k b bs r (read.Linked p s d rest) t u)
chain_over_kept k b bs m o l r c p s d rest t u v w = record {
  m = m + tokens_of_form_links (read.Linked l r c (read.Linked p s d rest));
  l = 0;
  chains = ((v.0, w.0, tt), chain_tokens k b bs m l r c p s d rest t u v.1 w);
  others = tt;
  all = omega arith;
}

chain_conjunct_kept : (at : Place) (k : CastType) (bs : List (Place × ℕ)) (place : Place) (links : FormLinks) (m : ℕ) (o p : Option BinOp) (lower upper : Checked LogicTerm) (a : Checked Sorted) → Gives (TermKept m o) lower
    → Gives (UpperKept links) upper → Gives (SortedKept (m + tokens_of_form_links links) p) a → Gives (ConjunctsKept (m + tokens_of_form_links links)) (chain_conjunct at k bs place links lower upper a)
chain_conjunct_kept at k [] place links m o p lower upper a v w z = another_kept place (m + tokens_of_form_links links) p a z
chain_conjunct_kept at k (b ∷ bs) place read.NoLink m o p lower upper a v w z = tt
chain_conjunct_kept at k (b ∷ bs) place (read.Linked l r c read.NoLink) m o p lower upper a v w z = tt
chain_conjunct_kept at k (b ∷ bs) place (read.Linked l r c (read.Linked x s d rest)) m o p lower upper a v w z =
    let links = read.Linked l r c (read.Linked x s d rest) in
    let n = m + tokens_of_form_links links in
    gives_pair (TermKept m o) (UpperKept links) (ConjunctsKept n) lower upper (λ p. Good (chain_over k b bs r (read.Linked x s d rest) p.0 p.1)) v w (chain_over_kept k b bs m o l r c x s d rest)

exists_kept : (at : Place) (n : ℕ) (c : Conjuncts) → ConjunctsKept n c → Gives (SortedKept (suc n) None) (existential at c)
exists_kept at n c v = gives_given (SortedKept (suc n) None) c.others (no_guard at) _ (λ p e. (let w = subst (OthersKept v.l) e v.others in let i = v.all in ((v.chains.0, w.0), omega (arith, v.chains.1, w.1, i))))

for_all_by : (at place : Place) (m n : ℕ) (c : Conjuncts) (v : ConjunctsKept m c) (p : Predicate) → PredicateKept n p → (h : Option Predicate) → OthersKept v.l h
    → PredicateKept (suc (suc (m + n))) (Quantified at ForAll (guards_of c.chains) (implied place h p))
for_all_by at place m n c v p x None y = let i = v.all in ((v.chains.0, x.0), omega (arith, v.chains.1, x.1, i))
for_all_by at place m n c v p x (Some h) y = let i = v.all in ((v.chains.0, (y.0, x.0)), omega (arith, v.chains.1, x.1, y.1, i))

for_all_kept : (at place : Place) (m n : ℕ) (o : Option BinOp) (c : Conjuncts) (a : Sorted) → ConjunctsKept m c → SortedKept n o a → Gives (SortedKept (suc (suc (m + n))) None) (universal at place c a)
for_all_kept at place m n o c a v w =
    gives_one (PredicateKept n) (SortedKept (suc (suc (m + n))) None) (as_predicate place a) _ (predicate_kept place n o a w) (λ p x. for_all_by at place m n c v p x c.others v.others)

quantified_kept : (at place : Place) (q : Quantifier) (j : Connective) (m n : ℕ) (o : Option BinOp) (a b : Checked Conjuncts) (x : Checked Sorted) → Gives (ConjunctsKept m) a → Gives (ConjunctsKept n) b → Gives (SortedKept n o) x
    → Gives (SortedKept (suc (suc (m + n))) None) (quantified at place q j a b x)
quantified_kept at place ForAll Implies m n o a b x v w z =
    gives_pair (ConjunctsKept m) (SortedKept n o) (SortedKept (suc (suc (m + n))) None) a x (λ p. universal at place p.0 p.1) v z (for_all_kept at place m n o)
quantified_kept at place Exists And m n o a b x v w z =
    gives_one (ConjunctsKept (suc (m + n))) (SortedKept (suc (suc (m + n))) None) (conjunction place a b) (existential at) (conjunction_kept place m n a b v w) (exists_kept at (suc (m + n)))
quantified_kept at place ForAll And m n o a b x v w z = tt
quantified_kept at place ForAll Xor m n o a b x v w z = tt
quantified_kept at place ForAll Or m n o a b x v w z = tt
quantified_kept at place ForAll Iff m n o a b x v w z = tt
quantified_kept at place Exists Xor m n o a b x v w z = tt
quantified_kept at place Exists Or m n o a b x v w z = tt
quantified_kept at place Exists Implies m n o a b x v w z = tt
quantified_kept at place Exists Iff m n o a b x v w z = tt

mutual
  form_kept : (s : AnnotationSight) → SeesAll s → (f : Form) → FormNumbered f → Gives (FormKept f) (typed_form s f)
  form_kept s k (read.Number at n) h = (h, omega arith, bare None)
  form_kept s k (read.Letter at n) h = (h, omega arith, bare None)
  form_kept s k (read.Truth at b) h = (tt, omega arith)
  form_kept s k (read.Name at x) h = name_kept s k.here at x.name
  form_kept s k (read.Unary at op a) h =
      gives_one (FormKept a) (FormKept (read.Unary at op a)) (typed_form s a) (unary_on at op) (form_kept s k a h) (unary_kept at op (tokens_of_form a) (operator_of_form a))
  form_kept s k (read.Binary at op a b) h =
      two_kept (FormKept (read.Binary at op a b)) s a b (form_kept s k a h.0) (form_kept s k b h.1) (λ p. binary_on s.here at op p.0 p.1) (binary_kept s.here at op (tokens_of_form a) (tokens_of_form b) (operator_of_form a) (operator_of_form b))
  form_kept s k (read.Cast at Integers a) h =
      one_kept (FormKept (read.Cast at Integers a)) s a (form_kept s k a h) (cast_integer at Integers) (cast_integer_kept at Integers (tokens_of_form a) (operator_of_form a))
  form_kept s k (read.Cast at (OfC to) a) h =
      let n = tokens_of_form a in
      gives_limited (SortedKept (suc n) None) s.here at (known_type s.here to) _
      (gives_pair Any (FormKept a) (SortedKept (suc n) None) (typed_type s.here at to) (value_in (typed_form s a)) (λ p. cast at p.0 p.1) (anything (typed_type s.here at to)) (values_kept a (typed_form s a) (form_kept s k a h))
      (λ t x v w. cast_kept at t n (operator_of_form a) x w))
  form_kept s k (read.SizeOf at u) h =
      gives_limited (SortedKept 1 None) s.here at (known_type s.here u) _
      (gives_one Any (SortedKept 1 None) (typed_type s.here at u) (size_in s.here at) (anything (typed_type s.here at u)) (λ t v. gives_sized (SortedKept 1 None) s.here at t _ (λ e. (natural _, omega arith, bare None))))
  form_kept s k (read.Chain at a links) h =
      let m = tokens_of_form a in
      let n = tokens_of_form_links links in
      let side = side_of a (value_in (typed_form s a)) in
      gives_pair (FormKept a) (LinksKept n) (SortedKept (m + n) None) (value_in (typed_form s a)) (typed_links s side links) (λ p. related at p.0 p.1) (values_kept a (typed_form s a) (form_kept s k a h.0)) (links_kept s k side links h.1)
      (chain_kept at m n (operator_of_form a))
  form_kept s k (read.Connected at j a b) h =
      two_kept (FormKept (read.Connected at j a b)) s a b (form_kept s k a h.0) (form_kept s k b h.1) (λ p. connected at j p.0 p.1) (connected_kept at j (tokens_of_form a) (tokens_of_form b) (operator_of_form a) (operator_of_form b))
  form_kept s k (read.Choice at j a b) h =
      let l = tokens_of_form j in
      let m = tokens_of_form a in
      let n = tokens_of_form b in
      gives_pair (FormKept j) (λ (p : Sorted × Sorted). FormKept a p.0 × FormKept b p.1) (SortedKept (suc (l + m + n)) None) (value_in (typed_form s j))
      (pair_of (value_in (typed_form s a)) (value_in (typed_form s b))) (λ p. chosen at p.0 (p.1).0 (p.1).1) (values_kept j (typed_form s j) (form_kept s k j h.0)) (pair_kept s a b (form_kept s k a h.1) (form_kept s k b h.2))
      (λ x p u w. chosen_kept s.here at l m n (operator_of_form j) (operator_of_form a) (operator_of_form b) x p.0 p.1 u w.0 w.1)
  form_kept s k (read.Null at) h = (tt, omega arith, bare None)
  form_kept s k (read.Index at a b) h =
      two_kept (FormKept (read.Index at a b)) s a b (form_kept s k a h.0) (form_kept s k b h.1) (λ p. index s.here at p.0 p.1) (index_kept s.here at (tokens_of_form a) (tokens_of_form b) (operator_of_form a) (operator_of_form b))
  form_kept s k (read.Dot at a m) h =
      gives_one (FormKept a) (FormKept (read.Dot at a m)) (typed_form s a) (dot s.here at m) (form_kept s k a h) (dot_kept s.here at m (tokens_of_form a) (operator_of_form a))
  form_kept s k (read.Arrow at a m) h = one_kept (FormKept (read.Arrow at a m)) s a (form_kept s k a h) (arrow s.here at m) (arrow_kept s.here at m (tokens_of_form a) (operator_of_form a))
  form_kept s k (read.Told at f a) h =
      let n = tokens_of_form a in
      let o = operator_of_form a in
      one_kept (FormKept (read.Told at f a)) s a (form_kept s k a h) (told at f) (λ b w. gives_one (PointerKept n o) (SortedKept (suc n) None) (as_pointer at b) _ (pointer_kept at n o b w) (λ p v. (v.0, omega (arith, v.1), bare None)))
  form_kept s k (read.Asks at q z) h =
      gives_one (ZoneKept (tokens_of_form_zone z)) (FormKept (read.Asks at q z)) (typed_zone s q at z) _ (zone_kept s k q at z h) (λ y w. (w.0, omega (arith, w.1)))
  form_kept s k (read.Separated at zs) h =
      gives_one (ZonesKept (tokens_of_form_zones zs)) (FormKept (read.Separated at zs)) (typed_zones s at zs) _ (zones_kept s k at zs h) (λ y w. (w.0, omega (arith, w.1)))
  form_kept s k (read.Result at) h = result_kept s.clause at
  form_kept s k (read.Old at a) h =
      gives_where (SortedKept (suc (tokens_of_form a)) None) (has_old s.clause) (no_label at) _ (λ e.
      labelled_kept s at at (tokens_of_form a) (operator_of_form a) (is_refused s a) (λ u. typed_form u a) (λ l u g. form_kept u (sees_at s k l u g) a h) (Some label.Pre))
  form_kept s k (read.At at a place l) h =
      labelled_kept s at place (tokens_of_form a) (operator_of_form a) (is_refused s a) (λ u. typed_form u a) (λ j u g. form_kept u (sees_at s k j u g) a h) (label_named s l)
  form_kept s k (read.Quantified at q to names a) h =
      gives_where (FormKept (read.Quantified at q to names a)) (is_guarded q names a) (no_guard at) _ (λ e.
      gives_one (λ (c : CastType). Unit {0}) (FormKept (read.Quantified at q to names a)) (binder_type s.here at to) (λ j. typed_quantified s at q j names a) (anything (binder_type s.here at to)) (λ j u. quantifier_kept s k at q j names a h.1))

  quantifier_kept : (s : AnnotationSight) → SeesAll s → (at : Place) (q : Quantifier) (j : CastType) (bs : List (Place × ℕ)) (f : Form) → FormNumbered f → Gives (SortedKept (suc (tokens_of_form f)) None) (typed_quantified s at q j bs f)
  quantifier_kept s k at q j bs (read.Connected place i a b) h =
      let u = with_binders s (guarded_by bs a) in
      let v = sees_binders s (guarded_by bs a) k in
      quantified_kept at place q i (tokens_of_form a) (tokens_of_form b) (operator_of_form b) (typed_conjuncts s at j bs place a (typed_form s a)) (typed_conjuncts u at j (left_behind bs a) place b (typed_form u b))
      (value_in (typed_form (with_binders s bs) b))
      (conjuncts_kept s k at j bs place a h.0 (form_kept s k a h.0)) (conjuncts_kept u v at j (left_behind bs a) place b h.1 (form_kept u v b h.1))
      (values_kept b (typed_form (with_binders s bs) b) (form_kept (with_binders s bs) (sees_binders s bs k) b h.1))
  quantifier_kept s k here q i bs (read.Number at n) h = tt
  quantifier_kept s k here q i bs (read.Letter at n) h = tt
  quantifier_kept s k here q i bs (read.Truth at v) h = tt
  quantifier_kept s k here q i bs (read.Name at x) h = tt
  quantifier_kept s k here q i bs (read.Unary at op a) h = tt
  quantifier_kept s k here q i bs (read.Binary at op a b) h = tt
  quantifier_kept s k here q i bs (read.Cast at to a) h = tt
  quantifier_kept s k here q i bs (read.SizeOf at u) h = tt
  quantifier_kept s k here q i bs (read.Choice at j a b) h = tt
  quantifier_kept s k here q i bs (read.Null at) h = tt
  quantifier_kept s k here q i bs (read.Index at a b) h = tt
  quantifier_kept s k here q i bs (read.Dot at a m) h = tt
  quantifier_kept s k here q i bs (read.Arrow at a m) h = tt
  quantifier_kept s k here q i bs (read.Told at f a) h = tt
  quantifier_kept s k here q i bs (read.Asks at p z) h = tt
  quantifier_kept s k here q i bs (read.Separated at zs) h = tt
  quantifier_kept s k here q i bs (read.Result at) h = tt
  quantifier_kept s k here q i bs (read.Old at a) h = tt
  quantifier_kept s k here q i bs (read.At at a place l) h = tt
  quantifier_kept s k here q i bs (read.Quantified at p to names a) h = tt
  quantifier_kept s k here q i bs (read.Chain at a links) h = tt

  conjuncts_kept : (s : AnnotationSight) → SeesAll s → (at : Place) (j : CastType) (bs : List (Place × ℕ)) (place : Place) (f : Form) → FormNumbered f → Gives (FormKept f) (typed_form s f)
      → Gives (ConjunctsKept (tokens_of_form f)) (typed_conjuncts s at j bs place f (typed_form s f))
  conjuncts_kept s k at j bs place (read.Connected here And a b) h w =
      let u = with_binders s (guarded_by bs a) in
      let v = sees_binders s (guarded_by bs a) k in
      conjunction_kept here (tokens_of_form a) (tokens_of_form b) (typed_conjuncts s at j bs here a (typed_form s a)) (typed_conjuncts u at j (left_behind bs a) here b (typed_form u b))
      (conjuncts_kept s k at j bs here a h.0 (form_kept s k a h.0)) (conjuncts_kept u v at j (left_behind bs a) here b h.1 (form_kept u v b h.1))
  conjuncts_kept s k at j bs place (read.Chain here a links) h w =
      chain_conjunct_kept at j bs place links (tokens_of_form a) (operator_of_form a) None (bound_at here (typed_form s a)) (typed_upper s at links) (typed_form s (read.Chain here a links))
      (bound_kept here (tokens_of_form a) (operator_of_form a) (typed_form s a) (form_kept s k a h.0)) (upper_kept s k at links h.1) w
  conjuncts_kept s k here i bs there (read.Number at n) h w = other_kept here there bs (tokens_of_form (read.Number at n)) (operator_of_form (read.Number at n)) (typed_form s (read.Number at n)) w
  conjuncts_kept s k here i bs there (read.Letter at n) h w = other_kept here there bs (tokens_of_form (read.Letter at n)) (operator_of_form (read.Letter at n)) (typed_form s (read.Letter at n)) w
  conjuncts_kept s k here i bs there (read.Truth at v) h w = other_kept here there bs (tokens_of_form (read.Truth at v)) (operator_of_form (read.Truth at v)) (typed_form s (read.Truth at v)) w
  conjuncts_kept s k here i bs there (read.Name at x) h w = other_kept here there bs (tokens_of_form (read.Name at x)) (operator_of_form (read.Name at x)) (typed_form s (read.Name at x)) w
  conjuncts_kept s k here i bs there (read.Unary at op a) h w = other_kept here there bs (tokens_of_form (read.Unary at op a)) (operator_of_form (read.Unary at op a)) (typed_form s (read.Unary at op a)) w
  conjuncts_kept s k here i bs there (read.Binary at op a b) h w = other_kept here there bs (tokens_of_form (read.Binary at op a b)) (operator_of_form (read.Binary at op a b)) (typed_form s (read.Binary at op a b)) w
  conjuncts_kept s k here i bs there (read.Cast at to a) h w = other_kept here there bs (tokens_of_form (read.Cast at to a)) (operator_of_form (read.Cast at to a)) (typed_form s (read.Cast at to a)) w
  conjuncts_kept s k here i bs there (read.SizeOf at u) h w = other_kept here there bs (tokens_of_form (read.SizeOf at u)) (operator_of_form (read.SizeOf at u)) (typed_form s (read.SizeOf at u)) w
  conjuncts_kept s k here i bs there (read.Choice at j a b) h w = other_kept here there bs (tokens_of_form (read.Choice at j a b)) (operator_of_form (read.Choice at j a b)) (typed_form s (read.Choice at j a b)) w
  conjuncts_kept s k here i bs there (read.Null at) h w = other_kept here there bs (tokens_of_form (read.Null at)) (operator_of_form (read.Null at)) (typed_form s (read.Null at)) w
  conjuncts_kept s k here i bs there (read.Index at a b) h w = other_kept here there bs (tokens_of_form (read.Index at a b)) (operator_of_form (read.Index at a b)) (typed_form s (read.Index at a b)) w
  conjuncts_kept s k here i bs there (read.Dot at a m) h w = other_kept here there bs (tokens_of_form (read.Dot at a m)) (operator_of_form (read.Dot at a m)) (typed_form s (read.Dot at a m)) w
  conjuncts_kept s k here i bs there (read.Arrow at a m) h w = other_kept here there bs (tokens_of_form (read.Arrow at a m)) (operator_of_form (read.Arrow at a m)) (typed_form s (read.Arrow at a m)) w
  conjuncts_kept s k here i bs there (read.Told at f a) h w = other_kept here there bs (tokens_of_form (read.Told at f a)) (operator_of_form (read.Told at f a)) (typed_form s (read.Told at f a)) w
  conjuncts_kept s k here i bs there (read.Asks at p z) h w = other_kept here there bs (tokens_of_form (read.Asks at p z)) (operator_of_form (read.Asks at p z)) (typed_form s (read.Asks at p z)) w
  conjuncts_kept s k here i bs there (read.Separated at zs) h w = other_kept here there bs (tokens_of_form (read.Separated at zs)) (operator_of_form (read.Separated at zs)) (typed_form s (read.Separated at zs)) w
  conjuncts_kept s k here i bs there (read.Result at) h w = other_kept here there bs (tokens_of_form (read.Result at)) (operator_of_form (read.Result at)) (typed_form s (read.Result at)) w
  conjuncts_kept s k here i bs there (read.Old at a) h w = other_kept here there bs (tokens_of_form (read.Old at a)) (operator_of_form (read.Old at a)) (typed_form s (read.Old at a)) w
  conjuncts_kept s k here i bs there (read.At at a place l) h w = other_kept here there bs (tokens_of_form (read.At at a place l)) (operator_of_form (read.At at a place l)) (typed_form s (read.At at a place l)) w
  conjuncts_kept s k here i bs there (read.Quantified at p to names a) h w = other_kept here there bs (tokens_of_form (read.Quantified at p to names a)) (operator_of_form (read.Quantified at p to names a))
      (typed_form s (read.Quantified at p to names a)) w
  conjuncts_kept s k here i bs there (read.Connected at Xor a b) h w = other_kept here there bs (tokens_of_form (read.Connected at Xor a b)) (operator_of_form (read.Connected at Xor a b)) (typed_form s (read.Connected at Xor a b)) w
  conjuncts_kept s k here i bs there (read.Connected at Or a b) h w = other_kept here there bs (tokens_of_form (read.Connected at Or a b)) (operator_of_form (read.Connected at Or a b)) (typed_form s (read.Connected at Or a b)) w
  conjuncts_kept s k here i bs there (read.Connected at Implies a b) h w = other_kept here there bs (tokens_of_form (read.Connected at Implies a b)) (operator_of_form (read.Connected at Implies a b)) (typed_form s (read.Connected at Implies a b)) w
  conjuncts_kept s k here i bs there (read.Connected at Iff a b) h w = other_kept here there bs (tokens_of_form (read.Connected at Iff a b)) (operator_of_form (read.Connected at Iff a b)) (typed_form s (read.Connected at Iff a b)) w

  upper_kept : (s : AnnotationSight) → SeesAll s → (at : Place) (links : FormLinks) → FormLinksNumbered links → Gives (UpperKept links) (typed_upper s at links)
  upper_kept s k at read.NoLink h = tt
  upper_kept s k at (read.Linked place r a read.NoLink) h =
      gives_more (TermKept (tokens_of_form a) (operator_of_form a)) (UpperKept (read.Linked place r a read.NoLink)) (bound_at place (typed_form s a)) (bound_kept place (tokens_of_form a) (operator_of_form a) (typed_form s a) (form_kept s k a h.0))
      (upper_last place r a (operator_of_form a))
  upper_kept s k at (read.Linked place r a (read.Linked l u c rest)) h =
      gives_more (UpperKept (read.Linked l u c rest)) (UpperKept (read.Linked place r a (read.Linked l u c rest))) (typed_upper s at (read.Linked l u c rest)) (upper_kept s k at (read.Linked l u c rest) h.1)
      (upper_more place r a l u c rest)

  links_kept : (s : AnnotationSight) → SeesAll s → (left : Side) (links : FormLinks) → FormLinksNumbered links → Gives (LinksKept (tokens_of_form_links links)) (typed_links s left links)
  links_kept s k left read.NoLink h = (tt, omega arith)
  links_kept s k left (read.Linked at r b rest) h =
      let m = tokens_of_form b in
      let n = tokens_of_form_links rest in
      let o = operator_of_form b in
      let side = side_of b (value_in (typed_form s b)) in
      gives_pair (TermKept m o) (LinksKept n) (LinksKept (suc (m + n))) (one_part (value_in (typed_form s b)) (right_side at left side)) (typed_links s side rest) (λ p. Good (Linked at r p.0 p.1))
      (gives_one (FormKept b) (TermKept m o) (value_in (typed_form s b)) (right_side at left side) (values_kept b (typed_form s b) (form_kept s k b h.0)) (right_kept at left side m o)) (links_kept s k side rest h.1)
      (λ t rest v w. ((v.0, w.0), omega (arith, v.1, w.1)))

  zone_kept : (s : AnnotationSight) → SeesAll s → (q : MemoryQuestion) (at : Place) (z : FormZone) → FormZoneNumbered z → Gives (ZoneKept (tokens_of_form_zone z)) (typed_zone s q at z)
  zone_kept s k q at (read.Object a) h =
      gives_one (FormKept a) (ZoneKept (tokens_of_form a)) (value_in (typed_form s a)) (object_zone s.here q at) (values_kept a (typed_form s a) (form_kept s k a h)) (object_kept s.here q at (tokens_of_form a) (operator_of_form a))
  zone_kept s k q at (read.Elements plus a lo hi) h =
      let whole = ZoneKept (suc (tokens_of_form a + tokens_of_form lo + tokens_of_form hi)) in
      gives_pair (FormKept a) (λ (p : Sorted × Sorted). FormKept lo p.0 × FormKept hi p.1) whole (value_in (typed_form s a)) (pair_of (value_in (typed_form s lo)) (value_in (typed_form s hi)))
      (λ p. elements_zone s.here q plus p.0 (p.1).0 (p.1).1) (values_kept a (typed_form s a) (form_kept s k a h.0)) (pair_kept s lo hi (form_kept s k lo h.1) (form_kept s k hi h.2))
      (λ x p u w. elements_kept s.here q plus (tokens_of_form a) (tokens_of_form lo) (tokens_of_form hi) (operator_of_form a) (operator_of_form lo) (operator_of_form hi) x p.0 p.1 u w.0 w.1)

  zones_kept : (s : AnnotationSight) → SeesAll s → (at : Place) (zs : FormZones) → FormZonesNumbered zs → Gives (ZonesKept (tokens_of_form_zones zs)) (typed_zones s at zs)
  zones_kept s k at read.NoZone h = (tt, omega arith)
  zones_kept s k at (read.Another z rest) h =
      let m = tokens_of_form_zone z in
      let n = tokens_of_form_zones rest in
      gives_pair (ZoneKept m) (ZonesKept n) (ZonesKept (suc (m + n))) (typed_zone s ValidRead at z) (typed_zones s at rest) (λ p. Good (Another p.0 p.1)) (zone_kept s k ValidRead at z h.0) (zones_kept s k at rest h.1)
      (λ z rest v w. ((v.0, w.0), omega (arith, v.1, w.1)))

-- ---- clauses

clause_holds_kept : (n : ℕ) (o : Option BinOp) (a : Sorted) → SortedKept n o a → Gives (PredicateKept n) (clause_holds a)
clause_holds_kept n o (ATerm t) w = holds_kept (place_of_term t) n o t w
clause_holds_kept n o (APredicate p) w = w
clause_holds_kept n o (APlace t) w = holds_kept (place_of_term t) n o t w

variant_kept : (n : ℕ) (o : Option BinOp) (a : Sorted) → SortedKept n o a → Gives (TermKept n o) (variant_value a)
variant_kept n o (ATerm t) w = gives_where (TermKept n o) (is_integer (sort_of_term t)) (no_type (place_of_term t)) (Good t) (λ e. w)
variant_kept n o (APredicate p) w = tt
variant_kept n o (APlace t) w = gives_where (TermKept n o) (is_integer (sort_of_term t)) (no_type (place_of_term t)) (Good t) (λ e. w)

-- what a clause of a kind says
abbrev IsSaid : Kind → ClauseBody → Type 0
IsSaid Variant b = IsLoopKind b Variant × IsShortClause b
IsSaid Invariant b = IsLoopKind b Invariant × IsShortClause b
IsSaid k b = IsShortClause b

short_predicate : (n : ℕ) → n ≤ 400 → (o : Option BinOp) (a : Sorted) → SortedKept n o a → Gives (λ p. IsShortPredicate p) (clause_holds a)
short_predicate n h o a v =
    gives_more (PredicateKept n) (λ p. IsShortPredicate p) (clause_holds a) (clause_holds_kept n o a v) (λ p w. record { numbered = w.0; short = omega (arith, w.1, h) })

predicate_said : (n : ℕ) → n ≤ 400 → (o : Option BinOp) (a : Sorted) → SortedKept n o a → Gives IsShortClause (one_part (clause_holds a) (λ p. Good (Holds p)))
predicate_said n h o a v = gives_one (λ p. IsShortPredicate p) IsShortClause (clause_holds a) (λ p. Good (Holds p)) (short_predicate n h o a v) (λ p w. w)

said_kept : (n : ℕ) → n ≤ 400 → (o : Option BinOp) (k : Kind) (a : Sorted) → SortedKept n o a → Gives (IsSaid k) (said k a)
said_kept n h o Variant a v = gives_one (TermKept n o) (IsSaid Variant) (variant_value a) (λ t. Good (Value t)) (variant_kept n o a v) (λ t w. (refl, (w.0, omega (arith, w.1, h))))
said_kept n h o Invariant a v = gives_one (λ p. IsShortPredicate p) (IsSaid Invariant) (clause_holds a) (λ p. Good (Holds p)) (short_predicate n h o a v) (λ p w. (refl, w))
said_kept n h o Assert a v = predicate_said n h o a v
said_kept n h o Requires a v = predicate_said n h o a v
said_kept n h o Assumes a v = predicate_said n h o a v
said_kept n h o Ensures a v = predicate_said n h o a v
said_kept n h o Complete a v = predicate_said n h o a v
said_kept n h o Disjoint a v = predicate_said n h o a v
said_kept n h o Rte a v = predicate_said n h o a v

said_clause : (s : AnnotationSight) → SeesAll s → (k : Kind) (b : ClauseBody) → IsShortReading b → Gives (IsSaid k) (typed_clause s k b)
said_clause s k j (Raw f) h =
    gives_one (FormKept f) (IsSaid j) (value_in (typed_form s f)) (said j) (values_kept f (typed_form s f) (form_kept s k f h.numbered)) (said_kept (tokens_of_form f) h.short (operator_of_form f) j)
said_clause s k j (Holds p) h = absurd h
said_clause s k j (Value t) h = absurd h
said_clause s k j (Behaviors names) h = absurd h

short_said : (k : Kind) (b : ClauseBody) → IsSaid k b → IsShortClause b
short_said Variant b h = h.1
short_said Invariant b h = h.1
short_said Assert b h = h
short_said Requires b h = h
short_said Assumes b h = h
short_said Ensures b h = h
short_said Complete b h = h
short_said Disjoint b h = h
short_said Rte b h = h

pub clause_kept : (s : AnnotationSight) → SeesAll s → (k : Kind) (b : ClauseBody) → IsShortReading b → Gives IsShortClause (typed_clause s k b)
clause_kept s k j b h = gives_more (IsSaid j) IsShortClause (typed_clause s j b) (said_clause s k j b h) (short_said j)

asserts_kept : (s : AnnotationSight) → SeesAll s → (annots : List Annotation) → AreReadAsserts annots → Gives AreAsserts (typed_annotations s annots)
asserts_kept s k [] h = tt
asserts_kept s k (a ∷ rest) h =
    gives_one IsShortClause AreAsserts (typed_clause s a.kind a.body) (λ b. one_part (typed_annotations s rest) (λ rest. Good (record a { body = b } ∷ rest))) (clause_kept s k a.kind a.body h.0.body) (λ b v.
    gives_one AreAsserts AreAsserts (typed_annotations s rest) (λ rest. Good (record a { body = b } ∷ rest)) (asserts_kept s k rest h.1) (λ rest w. (record { kind = h.0.kind; body = v }, w)))

loop_said : (a : Annotation) (b : ClauseBody) → (a.kind ≡ Invariant) ⊎ (a.kind ≡ Variant) → IsSaid a.kind b → IsLoopClause (record a { body = b })
loop_said a b (inl e) h = let w = subst (λ k. IsSaid k b) e h in record { kind = subst (IsLoopKind b) (sym e) w.0; body = w.1 }
loop_said a b (inr e) h = let w = subst (λ k. IsSaid k b) e h in record { kind = subst (IsLoopKind b) (sym e) w.0; body = w.1 }

loops_kept : (s : AnnotationSight) → SeesAll s → (annots : List Annotation) → AreReadLoopClauses annots → Gives AreLoopClauses (typed_annotations s annots)
loops_kept s k [] h = tt
loops_kept s k (a ∷ rest) h =
    gives_one (IsSaid a.kind) AreLoopClauses (typed_clause s a.kind a.body) (λ b. one_part (typed_annotations s rest) (λ rest. Good (record a { body = b } ∷ rest))) (said_clause s k a.kind a.body h.0.body) (λ b v.
    gives_one AreLoopClauses AreLoopClauses (typed_annotations s rest) (λ rest. Good (record a { body = b } ∷ rest)) (loops_kept s k rest h.1) (λ rest w. (loop_said a b h.0.kind v, w)))

-- what is kept of annotations
pub record AreSameNotes (s : AnnotationSight) (a b : List Annotation) : Type 0 where
  pub asserts : SeesAll s → AreReadAsserts a → AreAsserts b
  pub loops : SeesAll s → AreReadLoopClauses a → AreLoopClauses b

pub annotations_kept : (s : AnnotationSight) (annots : List Annotation) → Gives (AreSameNotes s annots) (typed_annotations s annots)
annotations_kept s annots =
    by (typed_annotations s annots) (gives_if (SeesAll s × AreReadAsserts annots) AreAsserts (typed_annotations s annots) (λ h. asserts_kept s h.0 annots h.1))
    (gives_if (SeesAll s × AreReadLoopClauses annots) AreLoopClauses (typed_annotations s annots) (λ h. loops_kept s h.0 annots h.1))
  where
    by : (c : Checked (List Annotation)) → Gives (λ b. SeesAll s × AreReadAsserts annots → AreAsserts b) c → Gives (λ b. SeesAll s × AreReadLoopClauses annots → AreLoopClauses b) c → Gives (AreSameNotes s annots) c
    by (Good b) f g = record { asserts = λ k h. f (k, h); loops = λ k h. g (k, h) }
    by (Bad x xs) f g = tt
