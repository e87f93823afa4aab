-- Annotations that are typed are well typed.
use Rattle.std.proofs.Common.{◌≡◌, ℕ, refl, sym, ap, subst, List, [], ◌∷◌, Option, Some, None, true}
use Rattle.c_syntax.specs.declared.annotation.Kind.{Kind}
use Rattle.c_syntax.specs.declared.annotation.Kind.TheVariants.{Assert, Requires, Assumes, Ensures, Complete, Disjoint, Invariant, Variant, Rte}
use Rattle.c_syntax.specs.declared.annotation.Relation.{Relation}
use Rattle.c_syntax.specs.declared.place.Place.{Place}
use Rattle.c_syntax.specs.declared.types.CInt.{CInt}
use Rattle.c_syntax.specs.declared.logic.Connective.{Connective}
use Rattle.c_syntax.specs.declared.logic.Connective.TheVariants.{And, Xor, Or, Implies, Iff}
use Rattle.c_syntax.specs.declared.logic.Quantifier.{Quantifier}
use Rattle.c_syntax.specs.declared.logic.Quantifier.TheVariants.{ForAll, Exists}
use Rattle.c_syntax.specs.declared.logic.Label.TheVariants as label
use Rattle.c_syntax.specs.declared.logic.MemoryQuestion.{MemoryQuestion}
use Rattle.c_syntax.specs.declared.logic.MemoryQuestion.TheVariants.{ValidRead}
use Rattle.c_syntax.specs.Ctypes.{PlainType}
use Rattle.c_syntax.specs.Formulas as read
use Rattle.c_syntax.specs.Formulas.{CastType, Integers, OfC, Form, FormLinks, FormZone, FormZones}
use Rattle.c_syntax.specs.Logic.{LogicTerm, Linked, Another, ClauseBody, Raw, Holds, Value, Annotation, Behaviors, Predicate}
use Rattle.c_model.specs.Integers.{integer_type}
use Rattle.c_model.specs.Library.{is_there}
use Rattle.c_model.specs.Checked.{Checked, Good, faulty, one_part, pair_of}
use Rattle.c_model.specs.ExpressionTyping.{no_type, Sight}
use Rattle.c_model.specs.ExpressionTyping.{typed_type, known_type}
use Rattle.c_model.specs.PredicateTyping.{place_of_term, Sorted, ATerm, APredicate, APlace, sort_of_term, is_integer, value_in, as_integer, as_pointer}
use Rattle.c_model.specs.PredicateTyping.{as_predicate, no_label, has_old}
use Rattle.c_model.specs.PredicateTyping.{dot, arrow}
use Rattle.c_model.specs.PredicateTyping.{index, unary_on, binary_on, cast_integer, cast, size_in, connected}
use Rattle.c_model.specs.PredicateTyping.{chosen, Side, side_of, right_side, related, told, object_zone, elements_zone}
use Rattle.c_model.specs.PredicateTyping.{typed_form, typed_links, typed_zone, typed_zones, clause_holds, typed_clause, typed_annotations}
use Rattle.c_model.specs.TypedPredicates.{IsCastType, ZoneTyped, ZonesTyped}
use Rattle.c_model.specs.AnnotationSights.{AnnotationSight, label_named}
use Rattle.c_model.specs.TypedPredicates.{PredicateTyped, ClauseTyped, AnnotationsTyped, IsRead, AreRead, TypedAnnotationsAreKnown}
use Rattle.c_model.specs.QuantifierGuards.{is_guarded, is_done, goes_on, unguarded, behind_chain, behind_conjunct, left_behind, guarded_by}
use Rattle.c_model.specs.QuantifierTyping.{no_guard, integer_binders, binder_type, Conjuncts, joined, conjunction, another_conjunct, other_conjunct, bound_at, chain_over, chain_conjunct, universal, existential, quantified}
use Rattle.c_model.specs.AnnotationSights.{with_binders}
use Rattle.c_model.specs.PredicateTyping.{is_refused, typed_quantified, typed_conjuncts, typed_upper, variant_value, said}
use Rattle.c_model.specs.Formed.{AreApart, FormNumbered, FormLinksNumbered, FormZoneNumbered, FormZonesNumbered}
use Rattle.c_model.specs.TypedAnnotations.{IsSaidBy}
use Rattle.c_model.proofs.GuardTrees.{apart_left, Names, append_none, left_is, done_is, chain_binds, ConjunctsTyped, joined_typed, other_typed, universal_typed, existential_typed}
use Rattle.c_model.proofs.TypedParts.{Gives, gives_of, gives_one, gives_given, gives_where, gives_sized, and_true, there_is}
use Rattle.c_model.proofs.SortedTrees.{SortedTyped, IntegerTyped, PointerTyped, integer_is, values_well, integer_well, pointer_well, holds_well, predicate_well, named_well, result_well, labelled_well, dot_well, arrow_well, index_well, binary_well}
use Rattle.c_model.proofs.SortedTrees.{unary_well, cast_integer_well, cast_well, connected_well, chosen_well, related_well, known, gives_pair, gives_limited, anything, Any, made, RightTyped, right_well, LinksFit, chain_well, object_well}
use Rattle.c_model.proofs.SortedTrees.{elements_well, value_of_form, one_well, two_well, pair_well}

-- ---- quantifiers

bound_well : (s : AnnotationSight) (at : Place) (f : Form) → Gives (SortedTyped s) (typed_form s f) → Gives (IntegerTyped s) (bound_at at (typed_form s f))
bound_well s at f w = gives_one (SortedTyped s) (IntegerTyped s) (value_in (typed_form s f)) (as_integer at) (value_of_form s f w) (integer_well s at)

another_well : (s : AnnotationSight) (at : Place) (a : Checked Sorted) → Gives (SortedTyped s) a → Gives (ConjunctsTyped s [] []) (another_conjunct at a)
another_well s at a w =
    gives_one (SortedTyped s) (ConjunctsTyped s [] []) (value_in a) _ (values_well s a w) (λ v x.
    gives_one (PredicateTyped s) (ConjunctsTyped s [] []) (as_predicate at v) _ (predicate_well s at v x) (λ p y. other_typed s p y))

other_well : (s : AnnotationSight) (at place : Place) (bs rest : Names) (a : Checked Sorted) → Gives (SortedTyped s) a → behind_conjunct bs None ≡ Some rest → Gives (ConjunctsTyped s bs rest) (other_conjunct at bs place a)
other_well s at place [] rest a w e = let same : [] ≡ rest = cc in subst (λ us. Gives (ConjunctsTyped s [] us) (another_conjunct place a)) same (another_well s place a w)
other_well s at place (b ∷ bs) rest a w e = tt

over_typed : (s : AnnotationSight) (k : CastType) → IsCastType k → (b : Place × ℕ) (bs rest : Names) (a : Form) (at : Place) (r : Relation) (f : Form) (links : FormLinks) → AreApart (b ∷ bs)
    → behind_chain (b ∷ bs) a (read.Linked at r f links) ≡ Some rest → (t u : LogicTerm) → IntegerTyped s t → IntegerTyped s u → ConjunctsTyped s (b ∷ bs) rest (chain_over k b bs r links t u)
over_typed s k h b bs rest a at r f links apart e t u v w =
    let binds = chain_binds k h b bs rest a at r f links apart e in
    record {
      own = binds.own;
      split = binds.split;
      chains = (v.0, w.0, v.1, w.1, binds.own, [], sym (append_none binds.own), binds.binders, refl);
      others = tt;
    }

chain_well_over : (s : AnnotationSight) (at : Place) (k : CastType) → IsCastType k → (bs rest : Names) (place : Place) (a : Form) (links : FormLinks) (lower upper : Checked LogicTerm) (x : Checked Sorted) → AreApart bs
    → Gives (IntegerTyped s) lower → Gives (IntegerTyped s) upper → Gives (SortedTyped s) x → behind_conjunct bs (behind_chain bs a links) ≡ Some rest → Gives (ConjunctsTyped s bs rest) (chain_conjunct at k bs place links lower upper x)
chain_well_over s at k h [] rest place a links lower upper x apart v w z e = let same : [] ≡ rest = cc in subst (λ us. Gives (ConjunctsTyped s [] us) (another_conjunct place x)) same (another_well s place x z)
chain_well_over s at k h (b ∷ bs) rest place a read.NoLink lower upper x apart v w z e = tt
chain_well_over s at k h (b ∷ bs) rest place a (read.Linked l r c read.NoLink) lower upper x apart v w z e = tt
chain_well_over s at k h (b ∷ bs) rest place a (read.Linked l r c (read.Linked m q d more)) lower upper x apart v w z e =
    gives_pair (IntegerTyped s) (IntegerTyped s) (ConjunctsTyped s (b ∷ bs) rest) lower upper (λ p. Good (chain_over k b bs r (read.Linked m q d more) p.0 p.1)) v w
    (λ t u. over_typed s k h b bs rest a l r c (read.Linked m q d more) apart e t u)

conjunction_well : (s : AnnotationSight) (at : Place) (f : Form) (bs mid rest : Names) (a b : Checked Conjuncts) → unguarded bs f ≡ Some mid → Gives (ConjunctsTyped s bs mid) a
    → Gives (ConjunctsTyped (with_binders s (guarded_by bs f)) mid rest) b → Gives (ConjunctsTyped s bs rest) (conjunction at a b)
conjunction_well s at f bs mid rest a b e v w =
    gives_pair (ConjunctsTyped s bs mid) (ConjunctsTyped (with_binders s (guarded_by bs f)) mid rest) (ConjunctsTyped s bs rest) a b (λ p. Good (joined at p.0 p.1)) v w (λ c d x y. joined_typed s at f bs mid rest c d e x y)

exists_well : (s : AnnotationSight) (at : Place) (bs : Names) (c : Conjuncts) → ConjunctsTyped s bs [] c → Gives (SortedTyped s) (existential at c)
exists_well s at bs c v = gives_given (SortedTyped s) c.others (no_guard at) _ (λ p e. existential_typed s at bs c p e v)

for_all_well : (s : AnnotationSight) (at place : Place) (bs : Names) (c : Conjuncts) (a : Sorted) → ConjunctsTyped s bs [] c → SortedTyped (with_binders s bs) a → Gives (SortedTyped s) (universal at place c a)
for_all_well s at place bs c a v w =
    gives_one (PredicateTyped (with_binders s bs)) (SortedTyped s) (as_predicate place a) _ (predicate_well (with_binders s bs) place a w) (λ p x. universal_typed s at place bs c p v x)

quantified_well : (s : AnnotationSight) (at place : Place) (q : Quantifier) (j : Connective) (bs : Names) (f g : Form) (a b : Checked Conjuncts) (x : Checked Sorted) → is_guarded q bs (read.Connected place j f g) ≡ true
    → ((rest : Names) → unguarded bs f ≡ Some rest → Gives (ConjunctsTyped s bs rest) a)
    → ((rest : Names) → unguarded (left_behind bs f) g ≡ Some rest → Gives (ConjunctsTyped (with_binders s (guarded_by bs f)) (left_behind bs f) rest) b)
    → Gives (SortedTyped (with_binders s bs)) x → Gives (SortedTyped s) (quantified at place q j a b x)
quantified_well s at place ForAll Implies bs f g a b x e v w z =
    gives_pair (ConjunctsTyped s bs []) (SortedTyped (with_binders s bs)) (SortedTyped s) a x (λ p. universal at place p.0 p.1) (v [] (done_is (unguarded bs f) e)) z (for_all_well s at place bs)
quantified_well s at place Exists And bs f g a b x e v w z =
    let done = done_is (unguarded bs (read.Connected place And f g)) (and_true (is_done (unguarded bs (read.Connected place And f g))) (goes_on bs (read.Connected place And f g)) e).0 in
    let parts = left_is (unguarded bs f) (λ rest. unguarded rest g) [] done in
    gives_one (ConjunctsTyped s bs []) (SortedTyped s) (conjunction place a b) (existential at)
    (conjunction_well s place f bs (left_behind bs f) [] a b parts.0 (v (left_behind bs f) parts.0) (w [] parts.1)) (exists_well s at bs)
quantified_well s at place ForAll And bs f g a b x e v w z = tt
quantified_well s at place ForAll Xor bs f g a b x e v w z = tt
quantified_well s at place ForAll Or bs f g a b x e v w z = tt
quantified_well s at place ForAll Iff bs f g a b x e v w z = tt
quantified_well s at place Exists Xor bs f g a b x e v w z = tt
quantified_well s at place Exists Or bs f g a b x e v w z = tt
quantified_well s at place Exists Implies bs f g a b x e v w z = tt
quantified_well s at place Exists Iff bs f g a b x e v w z = tt

integer_binders_are : (at : Place) (t : PlainType) → Gives IsCastType (integer_binders at t)
integer_binders_are at t = by (integer_type t) refl
  where
    by : (o : Option CInt) → integer_type t ≡ o → Gives IsCastType (elim o [ None ↦ faulty (no_type at) | Some k ↦ Good (OfC t) ])
    by None e = tt
    by (Some k) e = there_is t (ap is_there e)

binder_type_is : (s : Sight) (at : Place) (to : CastType) → Gives IsCastType (binder_type s at to)
binder_type_is s at Integers = tt
binder_type_is s at (OfC t) = gives_one Any IsCastType (typed_type s at t) (integer_binders at) (anything (typed_type s at t)) (λ u v. integer_binders_are at u)

-- ---- forms

mutual
  form_well : (s : AnnotationSight) (f : Form) → FormNumbered f → Gives (SortedTyped s) (typed_form s f)
  form_well s (read.Number at n) num = refl
  form_well s (read.Letter at n) num = refl
  form_well s (read.Truth at b) num = tt
  form_well s (read.Name at x) num = named_well s at x.name
  form_well s (read.Unary at op a) num = gives_one (SortedTyped s) (SortedTyped s) (typed_form s a) (unary_on at op) (form_well s a num) (unary_well s at op)
  form_well s (read.Binary at op a b) num = two_well s a b (λ p. binary_on s.here at op p.0 p.1) (form_well s a num.0) (form_well s b num.1) (binary_well s at op)
  form_well s (read.Cast at Integers a) num = one_well s a (cast_integer at Integers) (form_well s a num) (cast_integer_well s at Integers tt)
  form_well s (read.Cast at (OfC to) a) num =
      gives_limited (SortedTyped s) s.here at (known_type s.here to) _ (gives_pair Any (SortedTyped s) (SortedTyped s) (typed_type s.here at to) (value_in (typed_form s a)) (λ p. cast at p.0 p.1) (anything (typed_type s.here at to))
      (value_of_form s a (form_well s a num))
      (λ t x v w. cast_well s at t x w))
  form_well s (read.SizeOf at u) num =
      gives_limited (SortedTyped s) s.here at (known_type s.here u) _ (gives_one Any (SortedTyped s) (typed_type s.here at u) (size_in s.here at) (anything (typed_type s.here at u)) (λ t v. gives_sized (SortedTyped s) s.here at t _ (λ e. refl)))
  form_well s (read.Chain at a links) num =
      let side = side_of a (value_in (typed_form s a)) in
      gives_pair (λ x. SortedTyped s x × (value_in (typed_form s a) ≡ Good x)) (LinksFit s side) (SortedTyped s) (value_in (typed_form s a)) (typed_links s side links) (λ p. related at p.0 p.1)
      (known (SortedTyped s) (value_in (typed_form s a)) (value_of_form s a (form_well s a num.0))) (links_well s side links num.1) (λ x ls v w. chain_well s at a (value_in (typed_form s a)) x ls (made s a) v.1 v.0 w)
  form_well s (read.Connected at k a b) num = two_well s a b (λ p. connected at k p.0 p.1) (form_well s a num.0) (form_well s b num.1) (connected_well s at k)
  form_well s (read.Choice at k a b) num =
      gives_pair (SortedTyped s) (λ (p : Sorted × Sorted). SortedTyped s p.0 × SortedTyped s p.1) (SortedTyped s) (value_in (typed_form s k)) (pair_of (value_in (typed_form s a)) (value_in (typed_form s b))) (λ p. chosen at p.0 (p.1).0 (p.1).1)
      (value_of_form s k (form_well s k num.0)) (pair_well s a b (form_well s a num.1) (form_well s b num.2)) (λ x p u w. chosen_well s at x p.0 p.1 u w.0 w.1)
  form_well s (read.Null at) num = refl
  form_well s (read.Index at a b) num = two_well s a b (λ p. index s.here at p.0 p.1) (form_well s a num.0) (form_well s b num.1) (index_well s at)
  form_well s (read.Dot at a m) num = gives_one (SortedTyped s) (SortedTyped s) (typed_form s a) (dot s.here at m) (form_well s a num) (dot_well s at m)
  form_well s (read.Arrow at a m) num = one_well s a (arrow s.here at m) (form_well s a num) (arrow_well s at m)
  form_well s (read.Told at f a) num =
      one_well s a (told at f) (form_well s a num) (λ b w. gives_one (PointerTyped s) (SortedTyped s) (as_pointer at b) _ (pointer_well s at b w) (λ p v. (refl, (p.0, v.0), v.1)))
  form_well s (read.Asks at q z) num = gives_one (ZoneTyped s) (SortedTyped s) (typed_zone s q at z) _ (zone_well s q at z num) (λ z w. w)
  form_well s (read.Separated at zs) num = gives_one (ZonesTyped s) (SortedTyped s) (typed_zones s at zs) _ (zones_well s at zs num) (λ zs w. w)
  form_well s (read.Result at) num = result_well s s.clause refl at
  form_well s (read.Old at a) num =
      gives_where (SortedTyped s) (has_old s.clause) (no_label at) _ (λ e. labelled_well s at at (is_refused s a) (λ u. typed_form u a) (λ l u f. form_well u a num) (Some label.Pre))
  form_well s (read.At at a place l) num = labelled_well s at place (is_refused s a) (λ u. typed_form u a) (λ k u f. form_well u a num) (label_named s l)
  form_well s (read.Quantified at q to names a) num =
      gives_where (SortedTyped s) (is_guarded q names a) (no_guard at) _ (λ e.
      gives_one IsCastType (SortedTyped s) (binder_type s.here at to) (λ k. typed_quantified s at q k names a) (binder_type_is s.here at to) (λ k h. quantifier_well s at q k h names a num.0 num.1 e))

  quantifier_well : (s : AnnotationSight) (at : Place) (q : Quantifier) (k : CastType) → IsCastType k → (bs : Names) (f : Form) → AreApart bs → FormNumbered f → is_guarded q bs f ≡ true → Gives (SortedTyped s) (typed_quantified s at q k bs f)
  quantifier_well s at q k h bs (read.Connected place j a b) apart num e =
      let u = with_binders s (guarded_by bs a) in
      quantified_well s at place q j bs a b (typed_conjuncts s at k bs place a (typed_form s a)) (typed_conjuncts u at k (left_behind bs a) place b (typed_form u b)) (value_in (typed_form (with_binders s bs) b)) e
      (conjuncts_well s at k h bs place a apart num.0 (form_well s a num.0)) (conjuncts_well u at k h (left_behind bs a) place b (apart_left bs a apart) num.1 (form_well u b num.1))
      (value_of_form (with_binders s bs) b (form_well (with_binders s bs) b num.1))
  quantifier_well s here q k h bs (read.Number at n) apart num e = tt
  quantifier_well s here q k h bs (read.Letter at n) apart num e = tt
  quantifier_well s here q k h bs (read.Truth at v) apart num e = tt
  quantifier_well s here q k h bs (read.Name at x) apart num e = tt
  quantifier_well s here q k h bs (read.Unary at op a) apart num e = tt
  quantifier_well s here q k h bs (read.Binary at op a b) apart num e = tt
  quantifier_well s here q k h bs (read.Cast at to a) apart num e = tt
  quantifier_well s here q k h bs (read.SizeOf at u) apart num e = tt
  quantifier_well s here q k h bs (read.Choice at j a b) apart num e = tt
  quantifier_well s here q k h bs (read.Null at) apart num e = tt
  quantifier_well s here q k h bs (read.Index at a b) apart num e = tt
  quantifier_well s here q k h bs (read.Dot at a m) apart num e = tt
  quantifier_well s here q k h bs (read.Arrow at a m) apart num e = tt
  quantifier_well s here q k h bs (read.Told at f a) apart num e = tt
  quantifier_well s here q k h bs (read.Asks at p z) apart num e = tt
  quantifier_well s here q k h bs (read.Separated at zs) apart num e = tt
  quantifier_well s here q k h bs (read.Result at) apart num e = tt
  quantifier_well s here q k h bs (read.Old at a) apart num e = tt
  quantifier_well s here q k h bs (read.At at a place l) apart num e = tt
  quantifier_well s here q k h bs (read.Quantified at p to names a) apart num e = tt
  quantifier_well s here q k h bs (read.Chain at a links) apart num e = tt

  conjuncts_well : (s : AnnotationSight) (at : Place) (k : CastType) → IsCastType k → (bs : Names) (place : Place) (f : Form) → AreApart bs → FormNumbered f → Gives (SortedTyped s) (typed_form s f)
      → (rest : Names) → unguarded bs f ≡ Some rest → Gives (ConjunctsTyped s bs rest) (typed_conjuncts s at k bs place f (typed_form s f))
  conjuncts_well s at k h bs place (read.Connected here And a b) apart num w rest e =
      let u = with_binders s (guarded_by bs a) in
      let parts = left_is (unguarded bs a) (λ more. unguarded more b) rest e in
      conjunction_well s here a bs (left_behind bs a) rest (typed_conjuncts s at k bs here a (typed_form s a)) (typed_conjuncts u at k (left_behind bs a) here b (typed_form u b)) parts.0
      (conjuncts_well s at k h bs here a apart num.0 (form_well s a num.0) (left_behind bs a) parts.0)
      (conjuncts_well u at k h (left_behind bs a) here b (apart_left bs a apart) num.1 (form_well u b num.1) rest parts.1)
  conjuncts_well s at k h bs place (read.Chain here a links) apart num w rest e =
      chain_well_over s at k h bs rest place a links (bound_at here (typed_form s a)) (typed_upper s at links) (typed_form s (read.Chain here a links)) apart
      (bound_well s here a (form_well s a num.0)) (upper_well s at links num.1) w e
  conjuncts_well s here k h bs there (read.Number at n) apart num w rest e = other_well s here there bs rest (typed_form s (read.Number at n)) w e
  conjuncts_well s here k h bs there (read.Letter at n) apart num w rest e = other_well s here there bs rest (typed_form s (read.Letter at n)) w e
  conjuncts_well s here k h bs there (read.Truth at v) apart num w rest e = other_well s here there bs rest (typed_form s (read.Truth at v)) w e
  conjuncts_well s here k h bs there (read.Name at x) apart num w rest e = other_well s here there bs rest (typed_form s (read.Name at x)) w e
  conjuncts_well s here k h bs there (read.Unary at op a) apart num w rest e = other_well s here there bs rest (typed_form s (read.Unary at op a)) w e
  conjuncts_well s here k h bs there (read.Binary at op a b) apart num w rest e = other_well s here there bs rest (typed_form s (read.Binary at op a b)) w e
  conjuncts_well s here k h bs there (read.Cast at to a) apart num w rest e = other_well s here there bs rest (typed_form s (read.Cast at to a)) w e
  conjuncts_well s here k h bs there (read.SizeOf at u) apart num w rest e = other_well s here there bs rest (typed_form s (read.SizeOf at u)) w e
  conjuncts_well s here k h bs there (read.Choice at j a b) apart num w rest e = other_well s here there bs rest (typed_form s (read.Choice at j a b)) w e
  conjuncts_well s here k h bs there (read.Null at) apart num w rest e = other_well s here there bs rest (typed_form s (read.Null at)) w e
  conjuncts_well s here k h bs there (read.Index at a b) apart num w rest e = other_well s here there bs rest (typed_form s (read.Index at a b)) w e
  conjuncts_well s here k h bs there (read.Dot at a m) apart num w rest e = other_well s here there bs rest (typed_form s (read.Dot at a m)) w e
  conjuncts_well s here k h bs there (read.Arrow at a m) apart num w rest e = other_well s here there bs rest (typed_form s (read.Arrow at a m)) w e
  conjuncts_well s here k h bs there (read.Told at f a) apart num w rest e = other_well s here there bs rest (typed_form s (read.Told at f a)) w e
  conjuncts_well s here k h bs there (read.Asks at p z) apart num w rest e = other_well s here there bs rest (typed_form s (read.Asks at p z)) w e
  conjuncts_well s here k h bs there (read.Separated at zs) apart num w rest e = other_well s here there bs rest (typed_form s (read.Separated at zs)) w e
  conjuncts_well s here k h bs there (read.Result at) apart num w rest e = other_well s here there bs rest (typed_form s (read.Result at)) w e
  conjuncts_well s here k h bs there (read.Old at a) apart num w rest e = other_well s here there bs rest (typed_form s (read.Old at a)) w e
  conjuncts_well s here k h bs there (read.At at a place l) apart num w rest e = other_well s here there bs rest (typed_form s (read.At at a place l)) w e
  conjuncts_well s here k h bs there (read.Quantified at p to names a) apart num w rest e = other_well s here there bs rest (typed_form s (read.Quantified at p to names a)) w e
  conjuncts_well s here k h bs there (read.Connected at Xor a b) apart num w rest e = other_well s here there bs rest (typed_form s (read.Connected at Xor a b)) w e
  conjuncts_well s here k h bs there (read.Connected at Or a b) apart num w rest e = other_well s here there bs rest (typed_form s (read.Connected at Or a b)) w e
  conjuncts_well s here k h bs there (read.Connected at Implies a b) apart num w rest e = other_well s here there bs rest (typed_form s (read.Connected at Implies a b)) w e
  conjuncts_well s here k h bs there (read.Connected at Iff a b) apart num w rest e = other_well s here there bs rest (typed_form s (read.Connected at Iff a b)) w e

  upper_well : (s : AnnotationSight) (at : Place) (links : FormLinks) → FormLinksNumbered links → Gives (IntegerTyped s) (typed_upper s at links)
  upper_well s at read.NoLink num = tt
  upper_well s at (read.Linked place r a read.NoLink) num = bound_well s place a (form_well s a num.0)
  upper_well s at (read.Linked place r a (read.Linked l t c rest)) num = upper_well s at (read.Linked l t c rest) num.1

  links_well : (s : AnnotationSight) (left : Side) (links : FormLinks) → FormLinksNumbered links → Gives (LinksFit s left) (typed_links s left links)
  links_well s left read.NoLink num = λ a h. tt
  links_well s left (read.Linked at r b rest) num =
      let side = side_of b (value_in (typed_form s b)) in
      gives_pair (RightTyped s left side) (LinksFit s side) (LinksFit s left) (one_part (value_in (typed_form s b)) (right_side at left side)) (typed_links s side rest) (λ p. Good (Linked at r p.0 p.1))
      (right_well s at left b (value_in (typed_form s b)) (made s b) (value_of_form s b (form_well s b num.0))) (links_well s side rest num.1) (λ t ls v w a h. (related_well left side a t h v.1 v.0, v.2, w t v.1))

  zone_well : (s : AnnotationSight) (q : MemoryQuestion) (at : Place) (z : FormZone) → FormZoneNumbered z → Gives (ZoneTyped s) (typed_zone s q at z)
  zone_well s q at (read.Object a) num = gives_one (SortedTyped s) (ZoneTyped s) (value_in (typed_form s a)) (object_zone s.here q at) (value_of_form s a (form_well s a num)) (object_well s q at)
  zone_well s q at (read.Elements plus a lo hi) num =
      gives_pair (SortedTyped s) (λ (p : Sorted × Sorted). SortedTyped s p.0 × SortedTyped s p.1) (ZoneTyped s) (value_in (typed_form s a)) (pair_of (value_in (typed_form s lo)) (value_in (typed_form s hi)))
      (λ p. elements_zone s.here q plus p.0 (p.1).0 (p.1).1) (value_of_form s a (form_well s a num.0)) (pair_well s lo hi (form_well s lo num.1) (form_well s hi num.2)) (λ x p u w. elements_well s q plus x p.0 p.1 u w.0 w.1)

  zones_well : (s : AnnotationSight) (at : Place) (zs : FormZones) → FormZonesNumbered zs → Gives (ZonesTyped s) (typed_zones s at zs)
  zones_well s at read.NoZone num = tt
  zones_well s at (read.Another z rest) num =
      gives_pair (ZoneTyped s) (ZonesTyped s) (ZonesTyped s) (typed_zone s ValidRead at z) (typed_zones s at rest) (λ p. Good (Another p.0 p.1)) (zone_well s ValidRead at z num.0) (zones_well s at rest num.1) (λ z zs v w. (v, w))

-- ---- clauses

clause_holds_well : (s : AnnotationSight) (a : Sorted) → SortedTyped s a → Gives (PredicateTyped s) (clause_holds a)
clause_holds_well s (ATerm t) w = holds_well s (place_of_term t) t w
clause_holds_well s (APredicate p) w = w
clause_holds_well s (APlace t) w = holds_well s (place_of_term t) t w.1

variant_well : (s : AnnotationSight) (a : Sorted) → SortedTyped s a → Gives (IntegerTyped s) (variant_value a)
variant_well s (ATerm t) w = gives_where (IntegerTyped s) (is_integer (sort_of_term t)) (no_type (place_of_term t)) (Good t) (λ e. (integer_is (sort_of_term t) e, w))
variant_well s (APredicate p) w = tt
variant_well s (APlace t) w = gives_where (IntegerTyped s) (is_integer (sort_of_term t)) (no_type (place_of_term t)) (Good t) (λ e. (integer_is (sort_of_term t) e, w.1))

predicate_said : (s : AnnotationSight) (a : Sorted) → SortedTyped s a → Gives (ClauseTyped s) (one_part (clause_holds a) (λ p. Good (Holds p)))
predicate_said s a w = gives_one (PredicateTyped s) (ClauseTyped s) (clause_holds a) (λ p. Good (Holds p)) (clause_holds_well s a w) (λ p v. v)

said_well : (s : AnnotationSight) (k : Kind) (a : Sorted) → SortedTyped s a → Gives (ClauseTyped s) (said k a)
said_well s Variant a w = gives_one (IntegerTyped s) (ClauseTyped s) (variant_value a) (λ t. Good (Value t)) (variant_well s a w) (λ t v. v)
said_well s Assert a w = predicate_said s a w
said_well s Requires a w = predicate_said s a w
said_well s Assumes a w = predicate_said s a w
said_well s Ensures a w = predicate_said s a w
said_well s Complete a w = predicate_said s a w
said_well s Disjoint a w = predicate_said s a w
said_well s Invariant a w = predicate_said s a w
said_well s Rte a w = predicate_said s a w

pub clause_well : (s : AnnotationSight) (k : Kind) (b : ClauseBody) → IsRead b → Gives (ClauseTyped s) (typed_clause s k b)
clause_well s k (Raw f) r = gives_one (SortedTyped s) (ClauseTyped s) (value_in (typed_form s f)) (said k) (value_of_form s f (form_well s f r)) (said_well s k)
clause_well s k (Holds p) r = absurd r
clause_well s k (Value t) r = absurd r
clause_well s k (Behaviors names) r = absurd r

-- by its kind
by_predicate : (k : Kind) → ((p : Predicate) → IsSaidBy k (Holds p)) → (a : Sorted) → Gives (IsSaidBy k) (one_part (clause_holds a) (λ p. Good (Holds p)))
by_predicate k h a = gives_one (λ (p : Predicate). Unit {0}) (IsSaidBy k) (clause_holds a) (λ p. Good (Holds p)) (anything (clause_holds a)) (λ p u. h p)

kind_said : (k : Kind) (a : Sorted) → Gives (IsSaidBy k) (said k a)
kind_said Variant a = gives_one (λ (t : LogicTerm). Unit {0}) (IsSaidBy Variant) (variant_value a) (λ t. Good (Value t)) (anything (variant_value a)) (λ t u. tt)
kind_said Assert a = by_predicate Assert (λ p. tt) a
kind_said Requires a = by_predicate Requires (λ p. tt) a
kind_said Assumes a = by_predicate Assumes (λ p. tt) a
kind_said Ensures a = by_predicate Ensures (λ p. tt) a
kind_said Complete a = by_predicate Complete (λ p. tt) a
kind_said Disjoint a = by_predicate Disjoint (λ p. tt) a
kind_said Invariant a = by_predicate Invariant (λ p. tt) a
kind_said Rte a = by_predicate Rte (λ p. tt) a

pub clause_said : (s : AnnotationSight) (k : Kind) (b : ClauseBody) → IsRead b → Gives (IsSaidBy k) (typed_clause s k b)
clause_said s k (Raw f) r = gives_one (λ (a : Sorted). Unit {0}) (IsSaidBy k) (value_in (typed_form s f)) (said k) (anything (value_in (typed_form s f))) (λ a u. kind_said k a)
clause_said s k (Holds p) r = absurd r
clause_said s k (Value t) r = absurd r
clause_said s k (Behaviors names) r = absurd r

pub annotations_well : (s : AnnotationSight) (annots : List Annotation) → AreRead annots → Gives (AnnotationsTyped s) (typed_annotations s annots)
annotations_well s [] r = tt
annotations_well s (a ∷ rest) r =
    gives_one (ClauseTyped s) (AnnotationsTyped s) (typed_clause s a.kind a.body) (λ b. one_part (typed_annotations s rest) (λ rest. Good (record a { body = b } ∷ rest))) (clause_well s a.kind a.body r.0) (λ b v.
    gives_one (AnnotationsTyped s) (AnnotationsTyped s) (typed_annotations s rest) (λ rest. Good (record a { body = b } ∷ rest)) (annotations_well s rest r.1) (λ rest w. (v, w)))

pub typed_annotations_are_known : TypedAnnotationsAreKnown
typed_annotations_are_known s a b r is = gives_of (AnnotationsTyped s) (typed_annotations s a) b (annotations_well s a r) is
