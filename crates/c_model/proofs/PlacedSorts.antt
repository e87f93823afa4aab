-- Of the terms and predicates that typing makes of forms of annotations: the terms that are kept at labels stand at no more places than their parts.
use Rattle.std.proofs.Common.{◌≡◌, ℕ, ◌+◌, ◌≤◌, ℤ, arith, List, [], ◌∷◌, ◌++◌, Option, Some, None, Bool, true, false, cond, not}
use Rattle.std.specs.Prelude.{nat_le}
use Rattle.c_syntax.specs.declared.place.Place.{Place}
use Rattle.c_syntax.specs.declared.types.CInt.{CInt}
use Rattle.c_syntax.specs.declared.expression.UnOp.{UnOp}
use Rattle.c_syntax.specs.declared.expression.UnOp.TheVariants as unary
use Rattle.c_syntax.specs.declared.expression.BinOp.{BinOp}
use Rattle.c_syntax.specs.declared.expression.BinOp.TheVariants as operator
use Rattle.c_syntax.specs.declared.logic.BlockFact.{BlockFact}
use Rattle.c_syntax.specs.declared.logic.Connective.{Connective}
use Rattle.c_syntax.specs.declared.logic.Label.{Label}
use Rattle.c_syntax.specs.declared.logic.Label.TheVariants as label
use Rattle.c_syntax.specs.declared.logic.MemoryQuestion.{MemoryQuestion}
use Rattle.c_syntax.specs.declared.logic.MemoryQuestion.TheVariants.{Valid, ValidRead, Initialized}
use Rattle.c_syntax.specs.Ctypes.{PlainType}
use Rattle.c_syntax.specs.Formulas.{CastType, OfC}
use Rattle.c_syntax.specs.Logic as logic
use Rattle.c_syntax.specs.Logic.{LogicTerm, Deref, Predicate}
use Rattle.c_syntax.specs.Layouts.{member_among, members_of}
use Rattle.c_model.specs.Integers.{integer_type}
use Rattle.c_model.specs.Library.{library_constant}
use Rattle.c_model.specs.Checked.{Checked, Good, faulty, given, one_part}
use Rattle.c_model.specs.ExpressionTyping as c
use Rattle.c_model.specs.ExpressionTyping.{no_name, no_type, is_among, Entity, AnObject, AnEnumerator, Sight, name_at, entity_named, is_null_word, is_void, is_struct, is_scalar, most_bytes, too_large}
use Rattle.c_model.specs.PredicateTyping.{range_to_infer, place_of_term, Sorted, ATerm, APredicate, APlace, ValueSort, AnInteger, APointer, NoValue, type_of_term, sort_of_term, is_integer, pointee, as_value, value_in, as_term, as_integer, as_pointer}
use Rattle.c_model.specs.PredicateTyping.{integer_holds, as_predicate, variable, formal_value, object_place, result_in, no_label, at_label, where_seen, labelled, number, null, library_term, term_named, on_integer, on_integers}
use Rattle.c_model.specs.PredicateTyping.{deref, address, address_at, member_at, member_of, dot, arrow, are_known, with_terms}
use Rattle.c_model.specs.PredicateTyping.{sum_of, difference_of, element_of, sum, difference, index, unary_on, binary_on, cast_integer, cast_pointer, cast, size_in, connected, choice_target, pointer_choice, choice_of_terms, branch, choice_between}
use Rattle.c_model.specs.PredicateTyping.{chosen, told, where_asked, where_measured, elements_zone}
use Rattle.c_model.specs.AnnotationSights.{ClauseSight, InBody, AtEntry, AtEnd, UnderLabel, AnnotationSight, formals_in, sight_at, is_past}
use Rattle.c_model.specs.KeptTerms.{Entry, entries_at, in_term, in_zone, in_predicate}
use Rattle.c_model.specs.PlacedForms.{stands_at}
use Rattle.c_model.proofs.TypedParts.{Gives, gives_one, gives_given, gives_where, gives_sized}
use Rattle.c_model.specs.AnnotationSights.{binder_named}
use Rattle.c_model.specs.PredicateTyping.{named_in_c, bound}
use Rattle.c_model.proofs.SortedTrees.{gives_quiet, gives_measured}

-- ---- how many terms stand at an offset

pub joined : (o : ℕ) (xs ys : List Entry) → entries_at o (xs ++ ys) ≡ entries_at o xs + entries_at o ys
joined o [] ys = omega arith
joined o (x ∷ xs) ys = let e = joined o xs ys in omega (arith, e)

abbrev pub Count : Type 0
Count = ℕ → ℕ

-- no more than so many
abbrev pub Most : Count → List Entry → Type 0
Most n xs = (o : ℕ) → entries_at o xs ≤ n o

-- a term that stands at one of the places that are counted, and keeps no more terms than there are places
pub record TermPlaced (n : Count) (t : LogicTerm) : Type 0 where
  pub most : Most n (in_term t)
  pub own : (o : ℕ) → stands_at o (place_of_term t) ≤ n o

abbrev pub Placed : Count → Sorted → Type 0
Placed n (ATerm t) = TermPlaced n t
Placed n (APredicate p) = Most n (in_predicate p)
Placed n (APlace t) = TermPlaced n t

-- with one place more, and with those of parts
abbrev pub Covers : Count → Place → Count → Type 0
Covers n at m = (o : ℕ) → stands_at o at + m o ≤ n o

abbrev pub both : Count → Count → Count
both n m o = n o + m o

abbrev pub none : Count
none o = 0

pub most_both : (n m k : Count) (xs ys : List Entry) → Most n xs → Most m ys → ((o : ℕ) → n o + m o ≤ k o) → Most k (xs ++ ys)
most_both n m k xs ys v w h o = let e = joined o xs ys in let x = v o in let y = w o in let z = h o in omega (arith, e, x, y, z)

pub most_more : (n m : Count) (xs : List Entry) → Most n xs → ((o : ℕ) → n o ≤ m o) → Most m xs
most_more n m xs v h o = let x = v o in let y = h o in omega (arith, x, y)

pub placed_more : (n m : Count) → ((o : ℕ) → n o ≤ m o) → (a : Sorted) → Placed n a → Placed m a
placed_more n m h (ATerm t) w = record { most = most_more n m (in_term t) w.most h; own = λ o. (let i = w.own o in let j = h o in omega (arith, i, j)) }
placed_more n m h (APredicate p) w = most_more n m (in_predicate p) w h
placed_more n m h (APlace t) w = record { most = most_more n m (in_term t) w.most h; own = λ o. (let i = w.own o in let j = h o in omega (arith, i, j)) }

-- a term at its own place
pub at_own : (n m : Count) (at : Place) (xs : List Entry) → Covers n at m → Most m xs → Most n xs
at_own n m at xs h v o = let x = v o in let y = h o in omega (arith, x, y)

pub own_of : (n m : Count) (at : Place) → Covers n at m → (o : ℕ) → stands_at o at ≤ n o
own_of n m at h o = let y = h o in omega (arith, y)

pub bare : (n : Count) (at : Place) → Covers n at none → Most n []
bare n at h o = omega arith

pub bare_own : (n : Count) (at : Place) → Covers n at none → (o : ℕ) → stands_at o at ≤ n o
bare_own n at h o = let y = h o in omega (arith, y)

-- ---- what forms demand of their parts

module _ (n : Count) where
  pub value_placed : (a : Sorted) → Placed n a → Gives (Placed n) (as_value a)
  value_placed (ATerm t) w = w
  value_placed (APredicate p) w = w
  value_placed (APlace t) w = by (sort_of_term t)
    where
      by : (k : ValueSort) → Gives (Placed n) (elim k [ AnInteger ↦ Good (ATerm t) | APointer u ↦ Good (ATerm t) | NoValue ↦ faulty (no_type (place_of_term t)) ])
      by AnInteger = w
      by (APointer u) = w
      by NoValue = tt

  pub values_placed : (k : Checked Sorted) → Gives (Placed n) k → Gives (Placed n) (value_in k)
  values_placed k w = gives_one (Placed n) (Placed n) k as_value w value_placed

  pub term_placed : (at : Place) (a : Sorted) → Placed n a → Gives (TermPlaced n) (as_term at a)
  term_placed at (ATerm t) w = w
  term_placed at (APredicate p) w = tt
  term_placed at (APlace t) w = w

  pub integer_placed : (at : Place) (a : Sorted) → Placed n a → Gives (TermPlaced n) (as_integer at a)
  integer_placed at a w = gives_one (TermPlaced n) (TermPlaced n) (as_term at a) _ (term_placed at a w) (λ t v. gives_where (TermPlaced n) (is_integer (sort_of_term t)) (no_type at) (Good t) (λ e. v))

  pub pointer_placed : (at : Place) (a : Sorted) → Placed n a → Gives (λ (p : PlainType × LogicTerm). TermPlaced n p.1) (as_pointer at a)
  pointer_placed at a w =
      gives_one (TermPlaced n) (λ (p : PlainType × LogicTerm). TermPlaced n p.1) (as_term at a) _ (term_placed at a w) (λ t v.
      gives_given (λ (p : PlainType × LogicTerm). TermPlaced n p.1) (pointee (sort_of_term t)) (no_type at) (λ u. Good (u, t)) (λ u e. v))

  pub holds_placed : (at : Place) (t : LogicTerm) → TermPlaced n t → Gives (λ p. Most n (in_predicate p)) (integer_holds at t)
  holds_placed at t w = gives_where (λ p. Most n (in_predicate p)) (is_integer (sort_of_term t)) (no_type at) _ (λ e. w.most)

  pub predicate_placed : (at : Place) (a : Sorted) → Placed n a → Gives (λ p. Most n (in_predicate p)) (as_predicate at a)
  predicate_placed at (ATerm t) w = holds_placed at t w
  predicate_placed at (APredicate p) w = w
  predicate_placed at (APlace t) w = holds_placed at t w

abbrev pub PairPlaced : Count → PlainType × LogicTerm → Type 0
PairPlaced n p = TermPlaced n p.1

abbrev pub PredicateMost : Count → Predicate → Type 0
PredicateMost n p = Most n (in_predicate p)

pub asked_placed : {A : Type 0} (P : A → Type 0) (s : Sight) (at : Place) (q : MemoryQuestion) (u : PlainType) (k : Checked A) → Gives P k → Gives P (where_asked s at q u k)
asked_placed P s at Valid u k w = gives_measured P s at u k (λ g. w)
asked_placed P s at ValidRead u k w = gives_measured P s at u k (λ g. w)
asked_placed P s at Initialized u k w = gives_where P (is_scalar u) (no_type at) (where_measured s at u k) (λ e. gives_measured P s at u k (λ g. w))

-- ---- forms at a place, of parts with these places

module _ (n : Count) (at : Place) where
  module _ (h : Covers n at none) where
    pub number_placed : (z : ℤ) → Placed n (number at z)
    number_placed z = record { most = bare n at h; own = bare_own n at h }

    pub null_word_placed : (b : Bool) → Gives (Placed n) (cond b (Good (null at)) (faulty (no_name at)))
    null_word_placed true = record { most = bare n at h; own = bare_own n at h }
    null_word_placed false = tt

    pub library_placed : (s : Sight) (x : ℕ) → Gives (Placed n) (library_term s at x)
    library_placed s x = by (library_constant (name_at s.names x))
      where
        by : (o : Option (CInt × ℤ)) → Gives (Placed n) (elim o [ Some k ↦ Good (number at k.1) | None ↦ cond (is_null_word s x) (Good (null at)) (faulty (no_name at)) ])
        by (Some k) = number_placed k.1
        by None = null_word_placed (is_null_word s x)

    pub formal_placed : (k : ClauseSight) (x : ℕ) (b : c.Object) → TermPlaced n (formal_value k (variable at x b))
    formal_placed (InBody v) x b = record { most = bare n at h; own = bare_own n at h }
    formal_placed AtEntry x b = record { most = bare n at h; own = bare_own n at h }
    formal_placed (AtEnd formals t) x b = record { most = λ o. (let y = h o in omega (arith, y)); own = bare_own n at h }
    formal_placed (UnderLabel formals) x b = record { most = bare n at h; own = bare_own n at h }

    pub object_placed : (k : ClauseSight) (x : ℕ) (b : c.Object) → Placed n (object_place k at x b)
    object_placed k x b = by (is_among b.decl (formals_in k))
      where
        by : (f : Bool) → Placed n (cond f (ATerm (formal_value k (variable at x b))) (APlace (variable at x b)))
        by true = formal_placed k x b
        by false = record { most = bare n at h; own = bare_own n at h }

    pub in_c_placed : (s : AnnotationSight) (x : ℕ) → Gives (Placed n) (named_in_c s at x)
    in_c_placed s x = by (entity_named x s.here.entities)
      where
        by : (o : Option Entity) → Gives (Placed n) (elim o [
          | Some e ↦ elim e [ AnObject b ↦ Good (object_place s.clause at x b) | AnEnumerator k ↦ Good (number at k.value) ]
          | None ↦ library_term s.here at x
        ])
        by (Some (AnObject b)) = object_placed s.clause x b
        by (Some (AnEnumerator k)) = number_placed k.value
        by None = library_placed s.here x

    pub named_placed : (s : AnnotationSight) (x : ℕ) → Gives (Placed n) (term_named s at x)
    named_placed s x = by (binder_named x s.binders)
      where
        by : (o : Option Place) → Gives (Placed n) (elim o [ Some place ↦ Good (bound at x place) | None ↦ named_in_c s at x ])
        by (Some place) = record { most = bare n at h; own = bare_own n at h }
        by None = in_c_placed s x

    pub result_placed : (k : ClauseSight) → Gives (Placed n) (result_in k at)
    result_placed (InBody v) = tt
    result_placed AtEntry = tt
    result_placed (AtEnd formals t) = gives_where (Placed n) (not (is_void t)) (no_type at) _ (λ e. record { most = bare n at h; own = bare_own n at h })
    result_placed (UnderLabel formals) = tt

    pub size_placed : (s : Sight) (u : PlainType) → Gives (Placed n) (size_in s at u)
    size_placed s u = gives_sized (Placed n) s at u _ (λ e. number_placed _)

  -- of one part
  module _ (m : Count) (h : Covers n at m) where
    -- a term that keeps what its part keeps
    pub over : (t : LogicTerm) → TermPlaced m t → Most n (in_term t)
    over t w = at_own n m at (in_term t) h w.most

    pub at_label_placed : (l : Label) (a : Sorted) → Placed m a → Gives (Placed n) (at_label at l a)
    at_label_placed l a w = gives_one (TermPlaced m) (Placed n) (as_term at a) _ (term_placed m at a w) (λ t v. record { most = by l t v; own = own_of n m at h })
      where
        -- under a label of the past it's the term that is kept
        kept : (t : LogicTerm) → TermPlaced m t → (o : ℕ) → stands_at o (place_of_term t) + 0 ≤ n o
        kept t v o = let x = v.own o in let y = h o in omega (arith, x, y)

        by : (l : Label) (t : LogicTerm) → TermPlaced m t → Most n (in_term (logic.At at (type_of_term t) range_to_infer l t))
        by label.Here t v = over t v
        by label.Pre t v = kept t v
        by (label.Marked x) t v = kept t v

    pub seen_placed : (s : AnnotationSight) (l : Label) (k : AnnotationSight → Checked Sorted) → ((u : AnnotationSight) → Gives (Placed m) (k u)) → Gives (Placed n) (where_seen s l at k)
    seen_placed s l k w = gives_given (Placed n) (sight_at s l) (no_label at) _ (λ u e. gives_one (Placed m) (Placed n) (value_in (k u)) (at_label at l) (values_placed m (k u) (w u)) (at_label_placed l))

    pub labelled_placed : (s : AnnotationSight) (place : Place) (refused : Bool → Bool) (k : AnnotationSight → Checked Sorted) → ((u : AnnotationSight) → Gives (Placed m) (k u)) → (l : Option Label)
        → Gives (Placed n) (labelled s at place l refused k)
    labelled_placed s place refused k w None =
        gives_where (Placed n) (not (refused true)) (no_label at) _ (λ e. gives_one (Placed m) (Placed n) (value_in (k s)) _ (values_placed m (k s) (w s)) (λ a v. tt))
    labelled_placed s place refused k w (Some l) = gives_where (Placed n) (not (refused (is_past l))) (no_label at) _ (λ e. seen_placed s l k w)

    pub on_integer_placed : (op : UnOp) (a : Sorted) → Placed m a → Gives (Placed n) (on_integer at op a)
    on_integer_placed op a w = gives_one (TermPlaced m) (Placed n) (as_integer at a) _ (integer_placed m at a w) (λ t v. record { most = over t v; own = own_of n m at h })

    pub deref_placed : (a : Sorted) → Placed m a → Gives (Placed n) (deref at a)
    deref_placed a w =
        gives_one (PairPlaced m) (Placed n) (as_pointer at a) _ (pointer_placed m at a w) (λ p v. gives_where (Placed n) (not (is_void p.0)) (no_type at) _ (λ e. record { most = over p.1 v; own = own_of n m at h }))

    pub address_placed : (a : Sorted) → Placed m a → Gives (Placed n) (address at a)
    address_placed (ATerm t) w = tt
    address_placed (APredicate p) w = tt
    address_placed (APlace t) w = gives_given (Placed n) (type_of_term t) (no_type at) (address_at at t) (λ u e. record { most = over t w; own = own_of n m at h })

    pub member_placed : (s : Sight) (x : ℕ) (t : LogicTerm) (u : PlainType) → Most n (in_term t) → Gives (Placed n) (member_of s at x t u)
    member_placed s x t u w =
        gives_where (Placed n) (is_struct u) (no_type at) _ (λ e. gives_sized (Placed n) s at u _ (λ k. gives_given (Placed n) (member_among x (members_of s.structs u)) (no_name at) (member_at at t) (λ f g.
        gives_where (Placed n) (nat_le f.offset most_bytes) (too_large at) _ (λ j. record { most = w; own = own_of n m at h }))))

    pub dot_placed : (s : Sight) (x : ℕ) (a : Sorted) → Placed m a → Gives (Placed n) (dot s at x a)
    dot_placed s x (ATerm t) w = tt
    dot_placed s x (APredicate p) w = tt
    dot_placed s x (APlace t) w = gives_given (Placed n) (type_of_term t) (no_type at) (member_of s at x t) (λ u e. member_placed s x t u (over t w))

    pub arrow_placed : (s : Sight) (x : ℕ) (a : Sorted) → Placed m a → Gives (Placed n) (arrow s at x a)
    arrow_placed s x a w = gives_one (PairPlaced m) (Placed n) (as_pointer at a) _ (pointer_placed m at a w) (λ p v. member_placed s x (Deref at (Some p.0) range_to_infer p.1) p.0 (over p.1 v))

    pub not_placed : (a : Sorted) → Placed m a → Gives (Placed n) (unary_on at unary.Not a)
    not_placed a w =
        gives_one (Placed m) (Placed n) (as_value a) _ (value_placed m a w) (λ b v. gives_one (PredicateMost m) (Placed n) (as_predicate at b) _ (predicate_placed m at b v) (λ p x. at_own n m at (in_predicate p) h x))

    pub unary_placed : (op : UnOp) (a : Sorted) → Placed m a → Gives (Placed n) (unary_on at op a)
    unary_placed unary.Plus a w = gives_one (Placed m) (Placed n) (as_value a) _ (value_placed m a w) (on_integer_placed unary.Plus)
    unary_placed unary.Minus a w = gives_one (Placed m) (Placed n) (as_value a) _ (value_placed m a w) (on_integer_placed unary.Minus)
    unary_placed unary.Flip a w = gives_one (Placed m) (Placed n) (as_value a) _ (value_placed m a w) (on_integer_placed unary.Flip)
    unary_placed unary.Not a w = not_placed a w
    unary_placed unary.Deref a w = gives_one (Placed m) (Placed n) (as_value a) _ (value_placed m a w) deref_placed
    unary_placed unary.Address a w = address_placed a w

    pub cast_integer_placed : (to : CastType) (a : Sorted) → Placed m a → Gives (Placed n) (cast_integer at to a)
    cast_integer_placed to a w = gives_one (TermPlaced m) (Placed n) (as_integer at a) _ (integer_placed m at a w) (λ t v. record { most = over t v; own = own_of n m at h })

    pub cast_pointer_placed : (u : PlainType) (a : Sorted) → Placed m a → Gives (Placed n) (cast_pointer at u a)
    cast_pointer_placed u a w = gives_one (PairPlaced m) (Placed n) (as_pointer at a) _ (pointer_placed m at a w) (λ p v. record { most = over p.1 v; own = own_of n m at h })

    pub cast_placed : (to : PlainType) (a : Sorted) → Placed m a → Gives (Placed n) (cast at to a)
    cast_placed to a w = by (integer_type to)
      where
        by : (o : Option CInt) → Gives (Placed n) (elim o [ Some k ↦ cast_integer at (OfC to) a | None ↦ given (c.pointed to) (no_type at) (λ u. cast_pointer at u a) ])
        by (Some k) = cast_integer_placed (OfC to) a w
        by None = gives_given (Placed n) (c.pointed to) (no_type at) (λ u. cast_pointer at u a) (λ u g. cast_pointer_placed u a w)

    pub told_placed : (f : BlockFact) (a : Sorted) → Placed m a → Gives (Placed n) (told at f a)
    told_placed f a w = gives_one (PairPlaced m) (Placed n) (as_pointer at a) _ (pointer_placed m at a w) (λ p v. record { most = over p.1 v; own = own_of n m at h })

  -- of two
  module _ (m k : Count) (h : Covers n at (both m k)) where
    pub over_two : (xs ys : List Entry) → Most m xs → Most k ys → Most n (xs ++ ys)
    over_two xs ys v w o = let e = joined o xs ys in let x = v o in let y = w o in let z = h o in omega (arith, e, x, y, z)

    -- in the other order
    pub turned : (xs ys : List Entry) → Most m xs → Most k ys → Most n (ys ++ xs)
    turned xs ys v w o = let e = joined o ys xs in let x = v o in let y = w o in let z = h o in omega (arith, e, x, y, z)

    pub on_integers_placed : (op : BinOp) (a b : Sorted) → Placed m a → Placed k b → Gives (Placed n) (on_integers at op a b)
    on_integers_placed op a b v w =
        gives_one (TermPlaced m) (Placed n) (as_integer at a) _ (integer_placed m at a v) (λ t x.
        gives_one (TermPlaced k) (Placed n) (as_integer at b) _ (integer_placed k at b w) (λ u y. record { most = over_two (in_term t) (in_term u) x.most y.most; own = own_of n (both m k) at h }))

    pub known_placed : (s : Sight) (a b : Sorted) (f : LogicTerm → LogicTerm → Checked Sorted) → Placed m a → Placed k b → ((t u : LogicTerm) → TermPlaced m t → TermPlaced k u → Gives (Placed n) (f t u)) → Gives (Placed n) (with_terms s at a b f)
    known_placed s a b f v w g =
        gives_where (Placed n) (are_known s a b) (no_name at) (one_part (as_term at a) (λ t. one_part (as_term at b) (f t))) (λ e.
        gives_one (TermPlaced m) (Placed n) (as_term at a) (λ t. one_part (as_term at b) (f t)) (term_placed m at a v) (λ t x.
        gives_one (TermPlaced k) (Placed n) (as_term at b) (f t) (term_placed k at b w) (λ u y. g t u x y)))

    module _ (s : Sight) (t u : LogicTerm) (v : TermPlaced m t) (w : TermPlaced k u) where
      here : Most n (in_term t ++ in_term u)
      here = over_two (in_term t) (in_term u) v.most w.most

      there : Most n (in_term u ++ in_term t)
      there = turned (in_term t) (in_term u) v.most w.most

      place : (o : ℕ) → stands_at o at ≤ n o
      place = own_of n (both m k) at h

      sum_by : (i j : ValueSort) → Gives (Placed n) (sum_of s at t u i j)
      sum_by AnInteger AnInteger = record { most = here; own = place }
      sum_by (APointer x) AnInteger = gives_measured (Placed n) s at x _ (λ g. record { most = here; own = place })
      sum_by AnInteger (APointer x) = gives_measured (Placed n) s at x _ (λ g. record { most = there; own = place })
      sum_by (APointer x) (APointer y) = tt
      sum_by NoValue j = tt
      sum_by AnInteger NoValue = tt
      sum_by (APointer x) NoValue = tt

      difference_by : (i j : ValueSort) → Gives (Placed n) (difference_of s at t u i j)
      difference_by AnInteger AnInteger = record { most = here; own = place }
      difference_by (APointer x) AnInteger = gives_measured (Placed n) s at x _ (λ g. record { most = here; own = place })
      difference_by (APointer x) (APointer y) = gives_where (Placed n) (c.same_type x y) (no_type at) _ (λ e. gives_measured (Placed n) s at x _ (λ g. record { most = here; own = place }))
      difference_by AnInteger (APointer x) = tt
      difference_by NoValue j = tt
      difference_by AnInteger NoValue = tt
      difference_by (APointer x) NoValue = tt

      element_by : (i j : ValueSort) → Gives (Placed n) (element_of s at t u i j)
      element_by AnInteger AnInteger = tt
      element_by (APointer x) AnInteger = gives_measured (Placed n) s at x _ (λ g. record { most = here; own = place })
      element_by AnInteger (APointer x) = gives_measured (Placed n) s at x _ (λ g. record { most = there; own = place })
      element_by (APointer x) (APointer y) = tt
      element_by NoValue j = tt
      element_by AnInteger NoValue = tt
      element_by (APointer x) NoValue = tt

    pub sum_placed : (s : Sight) (a b : Sorted) → Placed m a → Placed k b → Gives (Placed n) (sum s at a b)
    sum_placed s a b v w = known_placed s a b _ v w (λ t u x y. sum_by s t u x y (sort_of_term t) (sort_of_term u))

    pub difference_placed : (s : Sight) (a b : Sorted) → Placed m a → Placed k b → Gives (Placed n) (difference s at a b)
    difference_placed s a b v w = known_placed s a b _ v w (λ t u x y. difference_by s t u x y (sort_of_term t) (sort_of_term u))

    pub index_placed : (s : Sight) (a b : Sorted) → Placed m a → Placed k b → Gives (Placed n) (index s at a b)
    index_placed s a b v w = known_placed s a b _ v w (λ t u x y. element_by s t u x y (sort_of_term t) (sort_of_term u))

    pub binary_placed : (s : Sight) (op : BinOp) (a b : Sorted) → Placed m a → Placed k b → Gives (Placed n) (binary_on s at op a b)
    binary_placed s operator.Add a b v w = sum_placed s a b v w
    binary_placed s operator.Sub a b v w = difference_placed s a b v w
    binary_placed s operator.Mul a b v w = on_integers_placed operator.Mul a b v w
    binary_placed s operator.Div a b v w = on_integers_placed operator.Div a b v w
    binary_placed s operator.Rem a b v w = on_integers_placed operator.Rem a b v w
    binary_placed s operator.Shl a b v w = on_integers_placed operator.Shl a b v w
    binary_placed s operator.Shr a b v w = on_integers_placed operator.Shr a b v w
    binary_placed s operator.BitAnd a b v w = on_integers_placed operator.BitAnd a b v w
    binary_placed s operator.BitOr a b v w = on_integers_placed operator.BitOr a b v w
    binary_placed s operator.BitXor a b v w = on_integers_placed operator.BitXor a b v w
    binary_placed s operator.Eq a b v w = on_integers_placed operator.Eq a b v w
    binary_placed s operator.Ne a b v w = on_integers_placed operator.Ne a b v w
    binary_placed s operator.Lt a b v w = on_integers_placed operator.Lt a b v w
    binary_placed s operator.Le a b v w = on_integers_placed operator.Le a b v w
    binary_placed s operator.Gt a b v w = on_integers_placed operator.Gt a b v w
    binary_placed s operator.Ge a b v w = on_integers_placed operator.Ge a b v w

    pub connected_placed : (c : Connective) (a b : Sorted) → Placed m a → Placed k b → Gives (Placed n) (connected at c a b)
    connected_placed c a b v w =
        gives_one (PredicateMost m) (Placed n) (as_predicate at a) _ (predicate_placed m at a v) (λ p x.
        gives_one (PredicateMost k) (Placed n) (as_predicate at b) _ (predicate_placed k at b w) (λ q y. over_two (in_predicate p) (in_predicate q) x y))

  -- of three
  module _ (l m k : Count) (h : Covers n at (both l (both m k))) where
    pub over_three : (xs ys zs : List Entry) → Most l xs → Most m ys → Most k zs → Most n (xs ++ (ys ++ zs))
    over_three xs ys zs u v w o =
        let d = joined o xs (ys ++ zs) in
        let e = joined o ys zs in
        let x = u o in
        let y = v o in
        let z = w o in
        let i = h o in
        omega (arith, d, e, x, y, z, i)

    module _ (p : Predicate) (z : Most l (in_predicate p)) where
      choice_by : (t u : LogicTerm) → TermPlaced m t → TermPlaced k u → (i j : ValueSort) → Gives (Placed n) (choice_of_terms at p t u i j)
      choice_by t u v w AnInteger AnInteger = record { most = over_three (in_predicate p) (in_term t) (in_term u) z v.most w.most; own = own_of n (both l (both m k)) at h }
      choice_by t u v w (APointer x) (APointer y) =
          gives_given (Placed n) (choice_target x y) (no_type at) (λ a. Good (pointer_choice at p t u a))
          (λ a g. record { most = over_three (in_predicate p) (in_term t) (in_term u) z v.most w.most; own = own_of n (both l (both m k)) at h })
      choice_by t u v w AnInteger (APointer x) = tt
      choice_by t u v w (APointer x) AnInteger = tt
      choice_by t u v w NoValue j = tt
      choice_by t u v w AnInteger NoValue = tt
      choice_by t u v w (APointer x) NoValue = tt

      branch_placed : (a b : Sorted) → Placed m a → Placed k b → Gives (Placed n) (branch at p a b)
      branch_placed a b v w =
          gives_one (PredicateMost m) (Placed n) (as_predicate at a) _ (predicate_placed m at a v) (λ q x.
          gives_one (PredicateMost k) (Placed n) (as_predicate at b) _ (predicate_placed k at b w) (λ r y. over_three (in_predicate p) (in_predicate q) (in_predicate r) z x y))

      between_placed : (a b : Sorted) → Placed m a → Placed k b → Gives (Placed n) (choice_between at p a b)
      between_placed (ATerm t) (ATerm u) v w = gives_quiet (Placed n) p (choice_of_terms at p t u (sort_of_term t) (sort_of_term u)) (λ quiet. choice_by t u v w (sort_of_term t) (sort_of_term u))
      between_placed (ATerm t) (APredicate q) v w = branch_placed (ATerm t) (APredicate q) v w
      between_placed (ATerm t) (APlace u) v w = branch_placed (ATerm t) (APlace u) v w
      between_placed (APredicate q) b v w = branch_placed (APredicate q) b v w
      between_placed (APlace t) b v w = branch_placed (APlace t) b v w

    pub chosen_placed : (c a b : Sorted) → Placed l c → Placed m a → Placed k b → Gives (Placed n) (chosen at c a b)
    chosen_placed c a b u v w = gives_one (PredicateMost l) (Placed n) (as_predicate at c) _ (predicate_placed l at c u) (λ p z. between_placed p z a b v w)

    pub elements_placed : (s : Sight) (q : MemoryQuestion) (a lo hi : Sorted) → Placed l a → Placed m lo → Placed k hi → Gives (λ z. Most n (in_zone z)) (elements_zone s q at a lo hi)
    elements_placed s q a lo hi u v w =
        gives_one (PairPlaced l) (λ z. Most n (in_zone z)) (as_pointer at a) _ (pointer_placed l at a u) (λ p x. asked_placed (λ z. Most n (in_zone z)) s at q p.0 _
        (gives_one (TermPlaced m) (λ z. Most n (in_zone z)) (as_integer at lo) _ (integer_placed m at lo v) (λ t y.
        gives_one (TermPlaced k) (λ z. Most n (in_zone z)) (as_integer at hi) _ (integer_placed k at hi w) (λ r z. over_three (in_term p.1) (in_term t) (in_term r) x.most y.most z.most))))
