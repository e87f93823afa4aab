-- Of what typing makes of the forms of annotations: terms and predicates of at most so many tokens, with numbers that they may have.
use Rattle.std.proofs.Common.{◌≡◌, ℕ, suc, ◌+◌, ◌-◌, ◌^◌, ◌≤◌, ◌<◌, ℤ, pos, negsuc, ◌≤ℤ◌, Bool, true, false, cond, not, if◌then◌else◌, leb, List, [], ◌∷◌, Option, Some, None, refl, subst, arith}
use Rattle.std.proofs.lemmas.Bool.{leb-true}
use Rattle.std.proofs.lemmas.Bool.Decides.{nat_tests}
use Rattle.std.proofs.lemmas.Int.{ints}
use Rattle.std.specs.Prelude.{bytes_eq, nat_le}
use Rattle.std.specs.List.{AllByRecursion}
use Rattle.c_syntax.specs.declared.place.Place.{Place}
use Rattle.c_syntax.specs.declared.types.CInt.{CInt}
use Rattle.c_syntax.specs.declared.types.CInt.TheVariants.{I32}
use Rattle.c_syntax.specs.declared.expression.UnOp.{UnOp}
use Rattle.c_syntax.specs.declared.expression.UnOp.TheVariants as unary
use Rattle.c_syntax.specs.declared.expression.BinOp.{BinOp}
use Rattle.c_syntax.specs.declared.expression.BinOp.TheVariants as operator
use Rattle.c_syntax.specs.declared.logic.Connective.{Connective}
use Rattle.c_syntax.specs.declared.logic.Label.{Label}
use Rattle.c_syntax.specs.declared.logic.Label.TheVariants as label
use Rattle.c_syntax.specs.declared.logic.MemoryQuestion.{MemoryQuestion}
use Rattle.c_syntax.specs.declared.logic.MemoryQuestion.TheVariants.{Valid, ValidRead, Initialized}
use Rattle.c_syntax.specs.Ctypes.{PlainType}
use Rattle.c_syntax.specs.Formulas.{CastType, OfC}
use Rattle.c_syntax.specs.Layouts.{member_among, members_of}
use Rattle.c_syntax.specs.Logic.{LogicTerm, Deref, Links, NoLink, Linked, Predicate, Zone, Zones}
use Rattle.c_model.specs.Integers.{fits, integer_type}
use Rattle.c_model.specs.Checked.{Checked, Good, faulty, given, one_part}
use Rattle.c_model.specs.Library.{Constants, constants, constant_in, library_constant}
use Rattle.c_model.specs.ExpressionTyping as c
use Rattle.c_model.specs.ExpressionTyping.{no_name, no_type, is_among, Entity, AnObject, AnEnumerator, Sight, name_at, entity_named, is_null_word, is_void, is_struct, is_scalar, most_bytes, too_large}
use Rattle.c_model.specs.PredicateTyping.{range_to_infer, place_of_term, Sorted, ATerm, APredicate, APlace, ValueSort, AnInteger, APointer, NoValue, type_of_term, sort_of_term, is_integer, pointee, as_value, value_in, as_term, as_integer, as_pointer}
use Rattle.c_model.specs.PredicateTyping.{integer_holds, as_predicate, variable, formal_value, object_place, result_in, no_label, at_label, labelled, number, null, library_term, term_named, on_integer, on_integers, deref, address}
use Rattle.c_model.specs.PredicateTyping.{address_at, member_at, member_of, dot, arrow, are_known, with_terms}
use Rattle.c_model.specs.PredicateTyping.{sum_of, difference_of, element_of, index, unary_on, binary_on, cast_integer, cast_pointer, cast, connected, choice_target, pointer_choice, choice_of_terms, branch, choice_between}
use Rattle.c_model.specs.PredicateTyping.{where_measured}
use Rattle.c_model.specs.PredicateTyping.{chosen, Side, are_related, right_side, related, where_asked, object_zone, elements_zone}
use Rattle.c_model.specs.Formed.{tokens_of_term, tokens_of_links, tokens_of_predicate, tokens_of_zone, tokens_of_zones, IsLogicNumber, TermNumbered, LinksNumbered, PredicateNumbered, ZoneNumbered, ZonesNumbered}
use Rattle.c_model.specs.Formed.{level_of, parentheses_around, operator_of_term}
use Rattle.c_model.specs.AnnotationSights.{ClauseSight, InBody, AtEntry, AtEnd, UnderLabel, AnnotationSight, formals_in, sight_at, is_past}
use Rattle.c_model.specs.FileItems.{SeesValues}
use Rattle.c_model.proofs.TypedParts.{Gives, gives_one, gives_given, gives_where, gives_sized}
use Rattle.c_model.specs.AnnotationSights.{binder_named}
use Rattle.c_model.specs.PredicateTyping.{named_in_c, bound}
use Rattle.c_model.proofs.SortedTrees.{gives_quiet, gives_measured}

-- ---- numbers that asserts may have

pub natural : (n : ℕ) → IsLogicNumber (pos n)
natural n = record { low = omega (arith, ints) }

pub negatives_in_order : (n b : ℕ) → leb n b ≡ true → negsuc b ≤ℤ negsuc n
negatives_in_order n b h = omega (arith, ints, leb-true n b h)

pub negative : (n : ℕ) → leb n (2 ^ 63 - 1) ≡ true → IsLogicNumber (negsuc n)
negative n h = record { low = negatives_in_order n (2 ^ 63 - 1) h }

-- a value of `int`
pub value_is : (z : ℤ) → fits I32 z ≡ true → IsLogicNumber z
value_is (pos n) e = natural n
value_is (negsuc n) e = let h : n < 2 ^ 31 = grind (arith, nat_tests) in record { low = omega (arith, ints, h) }

-- the constants of the library
pub constants_are : AllByRecursion (λ (x : List ℕ × (CInt × ℤ)). IsLogicNumber x.1.1) constants
constants_are = (
  negative 0 refl,
  (
    natural 0,
    (
      natural 1,
      (
        natural 8,
        (
          negative 127 refl,
          (
            natural 127,
            (
              negative 127 refl,
              (
                natural 127,
                (
                  natural 255,
                  (
                    negative 32767 refl,
                    (
                      natural 32767,
                      (
                        natural 65535,
                        (
                          negative 2147483647 refl,
                          (
                            natural 2147483647,
                            (
                              natural 4294967295,
                              (
                                negative 9223372036854775807 refl,
                                (
                                  natural 9223372036854775807,
                                  (
                                    natural 18446744073709551615,
                                    (negative 9223372036854775807 refl, (natural 9223372036854775807, (natural 18446744073709551615, tt))),
                                  ),
                                ),
                              ),
                            ),
                          ),
                        ),
                      ),
                    ),
                  ),
                ),
              ),
            ),
          ),
        ),
      ),
    ),
  ),
)

pub constant_is : (xs : Constants) (w : List ℕ) (c : CInt × ℤ) → AllByRecursion (λ (x : List ℕ × (CInt × ℤ)). IsLogicNumber x.1.1) xs → constant_in xs w ≡ Some c → IsLogicNumber c.1
constant_is [] w c all e = absurd cc
constant_is (x ∷ xs) w c all e = by (bytes_eq x.0 w) e (constant_is xs w c all.1)
  where
    by : (b : Bool) → (if b then Some x.1 else constant_in xs w) ≡ Some c → (constant_in xs w ≡ Some c → IsLogicNumber c.1) → IsLogicNumber c.1
    by true e rest = let same : x.1 ≡ c = cc in subst (λ (y : CInt × ℤ). IsLogicNumber y.1) same all.0
    by false e rest = rest e

pub library_constant_is : (w : List ℕ) (c : CInt × ℤ) → library_constant w ≡ Some c → IsLogicNumber c.1
unfolding library_constant
library_constant_is w c e = constant_is constants w c constants_are e

-- ---- terms and predicates of at most so many tokens, with numbers that they may have, and with operators that want no more parentheses

abbrev pub Looser : Option BinOp → Option BinOp → Type 0
Looser o p = (l : ℕ) → parentheses_around l p ≤ parentheses_around l o

pub bare : (o : Option BinOp) → Looser o None
bare o l = omega arith

pub alike : (o : Option BinOp) → Looser o o
alike o l = omega arith

abbrev pub TermKept : ℕ → Option BinOp → LogicTerm → Type 0
TermKept n o t = TermNumbered t × (tokens_of_term t ≤ n) × Looser o (operator_of_term t)

abbrev pub PointerKept : ℕ → Option BinOp → PlainType × LogicTerm → Type 0
PointerKept n o p = TermKept n o p.1

abbrev pub LinksKept : ℕ → Links → Type 0
LinksKept n l = LinksNumbered l × (tokens_of_links l ≤ n)

abbrev pub PredicateKept : ℕ → Predicate → Type 0
PredicateKept n p = PredicateNumbered p × (tokens_of_predicate p ≤ n)

abbrev pub ZoneKept : ℕ → Zone → Type 0
ZoneKept n z = ZoneNumbered z × (tokens_of_zone z ≤ n)

abbrev pub ZonesKept : ℕ → Zones → Type 0
ZonesKept n zs = ZonesNumbered zs × (tokens_of_zones zs ≤ n)

abbrev pub SortedKept : ℕ → Option BinOp → Sorted → Type 0
SortedKept n o (ATerm t) = TermKept n o t
SortedKept n o (APredicate p) = PredicateKept n p
SortedKept n o (APlace t) = TermKept n o t

-- ---- what forms demand of their parts

pub value_kept : (n : ℕ) (o : Option BinOp) (a : Sorted) → SortedKept n o a → Gives (SortedKept n o) (as_value a)
value_kept n o (ATerm t) w = w
value_kept n o (APredicate p) w = w
value_kept n o (APlace t) w = by (sort_of_term t)
  where
    by : (k : ValueSort) → Gives (SortedKept n o) (elim k [ AnInteger ↦ Good (ATerm t) | APointer u ↦ Good (ATerm t) | NoValue ↦ faulty (no_type (place_of_term t)) ])
    by AnInteger = w
    by (APointer u) = w
    by NoValue = tt

pub term_kept : (at : Place) (n : ℕ) (o : Option BinOp) (a : Sorted) → SortedKept n o a → Gives (TermKept n o) (as_term at a)
term_kept at n o (ATerm t) w = w
term_kept at n o (APredicate p) w = tt
term_kept at n o (APlace t) w = w

pub integer_kept : (at : Place) (n : ℕ) (o : Option BinOp) (a : Sorted) → SortedKept n o a → Gives (TermKept n o) (as_integer at a)
integer_kept at n o a w = gives_one (TermKept n o) (TermKept n o) (as_term at a) _ (term_kept at n o a w) (λ t v. gives_where (TermKept n o) (is_integer (sort_of_term t)) (no_type at) (Good t) (λ e. v))

pub pointer_kept : (at : Place) (n : ℕ) (o : Option BinOp) (a : Sorted) → SortedKept n o a → Gives (PointerKept n o) (as_pointer at a)
pointer_kept at n o a w =
    gives_one (TermKept n o) (PointerKept n o) (as_term at a) _ (term_kept at n o a w) (λ t v. gives_given (PointerKept n o) (pointee (sort_of_term t)) (no_type at) (λ u. Good (u, t)) (λ u e. v))

pub holds_kept : (at : Place) (n : ℕ) (o : Option BinOp) (t : LogicTerm) → TermKept n o t → Gives (PredicateKept n) (integer_holds at t)
holds_kept at n o t w = gives_where (PredicateKept n) (is_integer (sort_of_term t)) (no_type at) _ (λ e. (w.0, w.1))

pub predicate_kept : (at : Place) (n : ℕ) (o : Option BinOp) (a : Sorted) → SortedKept n o a → Gives (PredicateKept n) (as_predicate at a)
predicate_kept at n o (ATerm t) w = holds_kept at n o t w
predicate_kept at n o (APredicate p) w = w
predicate_kept at n o (APlace t) w = holds_kept at n o t w

-- ---- names

pub null_kept : (at : Place) (b : Bool) → Gives (SortedKept 1 None) (cond b (Good (null at)) (faulty (no_name at)))
null_kept at true = (tt, omega arith, bare None)
null_kept at false = tt

pub library_kept : (s : Sight) (at : Place) (x : ℕ) → Gives (SortedKept 1 None) (library_term s at x)
library_kept s at x = by (library_constant (name_at s.names x)) refl
  where
    by : (o : Option (CInt × ℤ)) → library_constant (name_at s.names x) ≡ o
        → Gives (SortedKept 1 None) (elim o [ Some k ↦ Good (number at k.1) | None ↦ cond (is_null_word s x) (Good (null at)) (faulty (no_name at)) ])
    by (Some k) e = (library_constant_is (name_at s.names x) k e, omega arith, bare None)
    by None e = null_kept at (is_null_word s x)

-- a parameter in an `ensures` has no more tokens than its name
pub formal_kept : (k : ClauseSight) (at : Place) (x : ℕ) (b : c.Object) → TermKept 1 None (formal_value k (variable at x b))
formal_kept (InBody v) at x b = (tt, omega arith, bare None)
formal_kept AtEntry at x b = (tt, omega arith, bare None)
formal_kept (AtEnd formals t) at x b = (tt, omega arith, bare None)
formal_kept (UnderLabel formals) at x b = (tt, omega arith, bare None)

pub entity_kept : (k : ClauseSight) (at : Place) (x : ℕ) (b : c.Object) → SortedKept 1 None (object_place k at x b)
entity_kept k at x b = by (is_among b.decl (formals_in k))
  where
    by : (f : Bool) → SortedKept 1 None (cond f (ATerm (formal_value k (variable at x b))) (APlace (variable at x b)))
    by true = formal_kept k at x b
    by false = (tt, omega arith, bare None)

pub named_in_c_kept : (s : AnnotationSight) → SeesValues s.here → (at : Place) (x : ℕ) → Gives (SortedKept 1 None) (named_in_c s at x)
named_in_c_kept s k at x = by (entity_named x s.here.entities) refl
  where
    by : (o : Option Entity) → entity_named x s.here.entities ≡ o → Gives (SortedKept 1 None) (elim o [
      | Some e ↦ elim e [ AnObject b ↦ Good (object_place s.clause at x b) | AnEnumerator j ↦ Good (number at j.value) ]
      | None ↦ library_term s.here at x
    ])
    by (Some (AnObject b)) e = entity_kept s.clause at x b
    by (Some (AnEnumerator j)) e = (value_is j.value (k x j e), omega arith, bare None)
    by None e = library_kept s.here at x

pub name_kept : (s : AnnotationSight) → SeesValues s.here → (at : Place) (x : ℕ) → Gives (SortedKept 1 None) (term_named s at x)
name_kept s k at x = by (binder_named x s.binders)
  where
    by : (o : Option Place) → Gives (SortedKept 1 None) (elim o [ Some place ↦ Good (bound at x place) | None ↦ named_in_c s at x ])
    by (Some place) = (tt, omega arith, bare None)
    by None = named_in_c_kept s k at x

-- ---- results, and terms at labels

pub result_kept : (k : ClauseSight) (at : Place) → Gives (SortedKept 1 None) (result_in k at)
result_kept (InBody v) at = tt
result_kept AtEntry at = tt
result_kept (AtEnd formals t) at = gives_where (SortedKept 1 None) (not (is_void t)) (no_type at) _ (λ e. (tt, omega arith, bare None))
result_kept (UnderLabel formals) at = tt

pub values_of : (n : ℕ) (o : Option BinOp) (k : Checked Sorted) → Gives (SortedKept n o) k → Gives (SortedKept n o) (value_in k)
values_of n o k w = gives_one (SortedKept n o) (SortedKept n o) k as_value w (value_kept n o)

pub labelled_kept : (s : AnnotationSight) (at place : Place) (n : ℕ) (o : Option BinOp) (refused : Bool → Bool) (k : AnnotationSight → Checked Sorted)
    → ((l : Label) (u : AnnotationSight) → sight_at s l ≡ Some u → Gives (SortedKept n o) (k u)) → (l : Option Label) → Gives (SortedKept (suc n) None) (labelled s at place l refused k)
labelled_kept s at place n o refused k h None =
    gives_where (SortedKept (suc n) None) (not (refused true)) (no_label at) _ (λ e. gives_one (SortedKept n o) (SortedKept (suc n) None) (value_in (k s)) _ (values_of n o (k s) (h label.Here s refl)) (λ a v. tt))
labelled_kept s at place n o refused k h (Some l) =
    gives_where (SortedKept (suc n) None) (not (refused (is_past l))) (no_label at) _ (λ e. gives_given (SortedKept (suc n) None) (sight_at s l) (no_label at) _ (λ u f.
    gives_one (SortedKept n o) (SortedKept (suc n) None) (value_in (k u)) (at_label at l) (values_of n o (k u) (h l u f)) (λ a v.
    gives_one (TermKept n o) (SortedKept (suc n) None) (as_term at a) _ (term_kept at n o a v) (λ t x. (x.0, omega (arith, x.1), bare None)))))

-- ---- operators

pub on_integer_kept : (at : Place) (op : UnOp) (n : ℕ) (o : Option BinOp) (a : Sorted) → SortedKept n o a → Gives (SortedKept (suc n) None) (on_integer at op a)
on_integer_kept at op n o a w = gives_one (TermKept n o) (SortedKept (suc n) None) (as_integer at a) _ (integer_kept at n o a w) (λ t v. (v.0, omega (arith, v.1), bare None))

abbrev pub Operated : BinOp → ℕ → ℕ → Option BinOp → Sorted → Type 0
Operated op m n p = SortedKept (suc (m + n + parentheses_around (level_of op) p)) (Some op)

pub on_integers_kept : (at : Place) (op : BinOp) (m n : ℕ) (o p : Option BinOp) (a b : Sorted) → SortedKept m o a → SortedKept n p b → Gives (Operated op m n p) (on_integers at op a b)
on_integers_kept at op m n o p a b v w =
    gives_one (TermKept m o) (Operated op m n p) (as_integer at a) _ (integer_kept at m o a v) (λ t x.
    gives_one (TermKept n p) (Operated op m n p) (as_integer at b) _ (integer_kept at n p b w) (λ u y. let q = y.2 (level_of op) in ((x.0, y.0), omega (arith, x.1, y.1, q), alike (Some op))))

pub deref_kept : (at : Place) (n : ℕ) (o : Option BinOp) (a : Sorted) → SortedKept n o a → Gives (SortedKept (suc n) None) (deref at a)
deref_kept at n o a w =
    gives_one (PointerKept n o) (SortedKept (suc n) None) (as_pointer at a) _ (pointer_kept at n o a w) (λ p v. gives_where (SortedKept (suc n) None) (not (is_void p.0)) (no_type at) _ (λ e. (v.0, omega (arith, v.1), bare None)))

pub address_kept : (at : Place) (n : ℕ) (o : Option BinOp) (a : Sorted) → SortedKept n o a → Gives (SortedKept (suc n) None) (address at a)
address_kept at n o (ATerm t) w = tt
address_kept at n o (APredicate p) w = tt
address_kept at n o (APlace t) w = gives_given (SortedKept (suc n) None) (type_of_term t) (no_type at) (address_at at t) (λ u e. (w.0, omega (arith, w.1), bare None))

pub member_kept : (s : Sight) (at : Place) (m : ℕ) (n : ℕ) (o : Option BinOp) (t : LogicTerm) (u : PlainType) → TermKept n o t → Gives (SortedKept (suc n) None) (member_of s at m t u)
member_kept s at m n o t u w =
    gives_where (SortedKept (suc n) None) (is_struct u) (no_type at) _ (λ h.
    gives_sized (SortedKept (suc n) None) s at u _ (λ k.
    gives_given (SortedKept (suc n) None) (member_among m (members_of s.structs u)) (no_name at) (member_at at t) (λ f g.
    gives_where (SortedKept (suc n) None) (nat_le f.offset most_bytes) (too_large at) _ (λ j. (w.0, omega (arith, w.1), bare None)))))

pub dot_kept : (s : Sight) (at : Place) (m n : ℕ) (o : Option BinOp) (a : Sorted) → SortedKept n o a → Gives (SortedKept (suc n) None) (dot s at m a)
dot_kept s at m n o (ATerm t) w = tt
dot_kept s at m n o (APredicate p) w = tt
dot_kept s at m n o (APlace t) w = gives_given (SortedKept (suc n) None) (type_of_term t) (no_type at) (member_of s at m t) (λ u e. member_kept s at m n o t u w)

pub arrow_kept : (s : Sight) (at : Place) (m n : ℕ) (o : Option BinOp) (a : Sorted) → SortedKept n o a → Gives (SortedKept (suc (suc n)) None) (arrow s at m a)
arrow_kept s at m n o a w =
    gives_one (PointerKept n o) (SortedKept (suc (suc n)) None) (as_pointer at a) _ (pointer_kept at n o a w) (λ p v. member_kept s at m (suc n) None (Deref at (Some p.0) range_to_infer p.1) p.0 (v.0, omega (arith, v.1), bare None))

-- ---- pointers and integers

pub known_kept : (P : Sorted → Type 0) (s : Sight) (at : Place) (m n : ℕ) (o p : Option BinOp) (a b : Sorted) (k : LogicTerm → LogicTerm → Checked Sorted) → SortedKept m o a → SortedKept n p b
    → ((t u : LogicTerm) → TermKept m o t → TermKept n p u → Gives P (k t u)) → Gives P (with_terms s at a b k)
known_kept P s at m n o p a b k v w h =
    gives_where P (are_known s a b) (no_name at) (one_part (as_term at a) (λ t. one_part (as_term at b) (k t))) (λ e.
    gives_one (TermKept m o) P (as_term at a) (λ t. one_part (as_term at b) (k t)) (term_kept at m o a v) (λ t x.
    gives_one (TermKept n p) P (as_term at b) (k t) (term_kept at n p b w) (λ u y. h t u x y)))

module _ (s : Sight) (at : Place) (m n : ℕ) (o p : Option BinOp) (t u : LogicTerm) (x : TermKept m o t) (y : TermKept n p u) where
  sum_by : (k l : ValueSort) → Gives (Operated operator.Add m n p) (sum_of s at t u k l)
  sum_by AnInteger AnInteger = let q = y.2 (level_of operator.Add) in ((x.0, y.0), omega (arith, x.1, y.1, q), alike (Some operator.Add))
  sum_by (APointer v) AnInteger = gives_measured (Operated operator.Add m n p) s at v _ (λ h. ((x.0, y.0), omega (arith, x.1, y.1), bare (Some operator.Add)))
  sum_by AnInteger (APointer v) = gives_measured (Operated operator.Add m n p) s at v _ (λ h. ((y.0, x.0), omega (arith, x.1, y.1), bare (Some operator.Add)))
  sum_by (APointer v) (APointer w) = tt
  sum_by NoValue l = tt
  sum_by AnInteger NoValue = tt
  sum_by (APointer v) NoValue = tt

  difference_by : (k l : ValueSort) → Gives (Operated operator.Sub m n p) (difference_of s at t u k l)
  difference_by AnInteger AnInteger = let q = y.2 (level_of operator.Sub) in ((x.0, y.0), omega (arith, x.1, y.1, q), alike (Some operator.Sub))
  difference_by (APointer v) AnInteger = gives_measured (Operated operator.Sub m n p) s at v _ (λ h. ((x.0, y.0), omega (arith, x.1, y.1), bare (Some operator.Sub)))
  difference_by (APointer v) (APointer w) =
      gives_where (Operated operator.Sub m n p) (c.same_type v w) (no_type at) _ (λ g. gives_measured (Operated operator.Sub m n p) s at v _ (λ h. ((x.0, y.0), omega (arith, x.1, y.1), bare (Some operator.Sub))))
  difference_by AnInteger (APointer v) = tt
  difference_by NoValue l = tt
  difference_by AnInteger NoValue = tt
  difference_by (APointer v) NoValue = tt

  element_by : (k l : ValueSort) → Gives (SortedKept (suc (suc (m + n))) None) (element_of s at t u k l)
  element_by AnInteger AnInteger = tt
  element_by (APointer v) AnInteger = gives_measured (SortedKept (suc (suc (m + n))) None) s at v _ (λ h. ((x.0, y.0), omega (arith, x.1, y.1), bare None))
  element_by AnInteger (APointer v) = gives_measured (SortedKept (suc (suc (m + n))) None) s at v _ (λ h. ((y.0, x.0), omega (arith, x.1, y.1), bare None))
  element_by (APointer v) (APointer w) = tt
  element_by NoValue l = tt
  element_by AnInteger NoValue = tt
  element_by (APointer v) NoValue = tt

  choice_by : (j : ℕ) (q : Predicate) → PredicateKept j q → (k l : ValueSort) → Gives (SortedKept (suc (j + m + n)) None) (choice_of_terms at q t u k l)
  choice_by j q z AnInteger AnInteger = ((z.0, x.0, y.0), omega (arith, z.1, x.1, y.1), bare None)
  choice_by j q z (APointer v) (APointer w) =
      gives_given (SortedKept (suc (j + m + n)) None) (choice_target v w) (no_type at) (λ a. Good (pointer_choice at q t u a)) (λ a g. ((z.0, x.0, y.0), omega (arith, z.1, x.1, y.1), bare None))
  choice_by j q z AnInteger (APointer v) = tt
  choice_by j q z (APointer v) AnInteger = tt
  choice_by j q z NoValue l = tt
  choice_by j q z AnInteger NoValue = tt
  choice_by j q z (APointer v) NoValue = tt

pub binary_kept : (s : Sight) (at : Place) (op : BinOp) (m n : ℕ) (o p : Option BinOp) (a b : Sorted) → SortedKept m o a → SortedKept n p b → Gives (Operated op m n p) (binary_on s at op a b)
binary_kept s at operator.Add m n o p a b v w =
    known_kept (Operated operator.Add m n p) s at m n o p a b _ v w (λ t u x y. sum_by s at m n o p t u x y (sort_of_term t) (sort_of_term u))
binary_kept s at operator.Sub m n o p a b v w =
    known_kept (Operated operator.Sub m n p) s at m n o p a b _ v w (λ t u x y. difference_by s at m n o p t u x y (sort_of_term t) (sort_of_term u))
binary_kept s at operator.Mul m n o p a b v w = on_integers_kept at operator.Mul m n o p a b v w
binary_kept s at operator.Div m n o p a b v w = on_integers_kept at operator.Div m n o p a b v w
binary_kept s at operator.Rem m n o p a b v w = on_integers_kept at operator.Rem m n o p a b v w
binary_kept s at operator.Shl m n o p a b v w = on_integers_kept at operator.Shl m n o p a b v w
binary_kept s at operator.Shr m n o p a b v w = on_integers_kept at operator.Shr m n o p a b v w
binary_kept s at operator.BitAnd m n o p a b v w = on_integers_kept at operator.BitAnd m n o p a b v w
binary_kept s at operator.BitOr m n o p a b v w = on_integers_kept at operator.BitOr m n o p a b v w
binary_kept s at operator.BitXor m n o p a b v w = on_integers_kept at operator.BitXor m n o p a b v w
binary_kept s at operator.Eq m n o p a b v w = on_integers_kept at operator.Eq m n o p a b v w
binary_kept s at operator.Ne m n o p a b v w = on_integers_kept at operator.Ne m n o p a b v w
binary_kept s at operator.Lt m n o p a b v w = on_integers_kept at operator.Lt m n o p a b v w
binary_kept s at operator.Le m n o p a b v w = on_integers_kept at operator.Le m n o p a b v w
binary_kept s at operator.Gt m n o p a b v w = on_integers_kept at operator.Gt m n o p a b v w
binary_kept s at operator.Ge m n o p a b v w = on_integers_kept at operator.Ge m n o p a b v w

pub index_kept : (s : Sight) (at : Place) (m n : ℕ) (o p : Option BinOp) (a b : Sorted) → SortedKept m o a → SortedKept n p b → Gives (SortedKept (suc (suc (m + n))) None) (index s at a b)
index_kept s at m n o p a b v w =
    known_kept (SortedKept (suc (suc (m + n))) None) s at m n o p a b _ v w (λ t u x y. element_by s at m n o p t u x y (sort_of_term t) (sort_of_term u))

pub not_kept : (at : Place) (n : ℕ) (o : Option BinOp) (a : Sorted) → SortedKept n o a → Gives (SortedKept (suc n) None) (unary_on at unary.Not a)
not_kept at n o a w =
    gives_one (SortedKept n o) (SortedKept (suc n) None) (as_value a) _ (value_kept n o a w) (λ b v. gives_one (PredicateKept n) (SortedKept (suc n) None) (as_predicate at b) _ (predicate_kept at n o b v) (λ p x. (x.0, omega (arith, x.1))))

pub unary_kept : (at : Place) (op : UnOp) (n : ℕ) (o : Option BinOp) (a : Sorted) → SortedKept n o a → Gives (SortedKept (suc n) None) (unary_on at op a)
unary_kept at unary.Plus n o a w = gives_one (SortedKept n o) (SortedKept (suc n) None) (as_value a) _ (value_kept n o a w) (on_integer_kept at unary.Plus n o)
unary_kept at unary.Minus n o a w = gives_one (SortedKept n o) (SortedKept (suc n) None) (as_value a) _ (value_kept n o a w) (on_integer_kept at unary.Minus n o)
unary_kept at unary.Flip n o a w = gives_one (SortedKept n o) (SortedKept (suc n) None) (as_value a) _ (value_kept n o a w) (on_integer_kept at unary.Flip n o)
unary_kept at unary.Not n o a w = not_kept at n o a w
unary_kept at unary.Deref n o a w = gives_one (SortedKept n o) (SortedKept (suc n) None) (as_value a) _ (value_kept n o a w) (deref_kept at n o)
unary_kept at unary.Address n o a w = address_kept at n o a w

-- ---- casts

pub cast_integer_kept : (at : Place) (to : CastType) (n : ℕ) (o : Option BinOp) (a : Sorted) → SortedKept n o a → Gives (SortedKept (suc n) None) (cast_integer at to a)
cast_integer_kept at to n o a w = gives_one (TermKept n o) (SortedKept (suc n) None) (as_integer at a) _ (integer_kept at n o a w) (λ t v. (v.0, omega (arith, v.1), bare None))

pub cast_pointer_kept : (at : Place) (u : PlainType) (n : ℕ) (o : Option BinOp) (a : Sorted) → SortedKept n o a → Gives (SortedKept (suc n) None) (cast_pointer at u a)
cast_pointer_kept at u n o a w = gives_one (PointerKept n o) (SortedKept (suc n) None) (as_pointer at a) _ (pointer_kept at n o a w) (λ p v. (v.0, omega (arith, v.1), bare None))

pub cast_kept : (at : Place) (to : PlainType) (n : ℕ) (o : Option BinOp) (a : Sorted) → SortedKept n o a → Gives (SortedKept (suc n) None) (cast at to a)
cast_kept at to n o a w = by (integer_type to)
  where
    by : (k : Option CInt) → Gives (SortedKept (suc n) None) (elim k [ Some k ↦ cast_integer at (OfC to) a | None ↦ given (c.pointed to) (no_type at) (λ u. cast_pointer at u a) ])
    by (Some k) = cast_integer_kept at (OfC to) n o a w
    by None = gives_given (SortedKept (suc n) None) (c.pointed to) (no_type at) (λ u. cast_pointer at u a) (λ u g. cast_pointer_kept at u n o a w)

-- ---- predicates and choices

pub connected_kept : (at : Place) (k : Connective) (m n : ℕ) (o p : Option BinOp) (a b : Sorted) → SortedKept m o a → SortedKept n p b → Gives (SortedKept (suc (m + n)) None) (connected at k a b)
connected_kept at k m n o p a b v w =
    gives_one (PredicateKept m) (SortedKept (suc (m + n)) None) (as_predicate at a) _ (predicate_kept at m o a v) (λ q x.
    gives_one (PredicateKept n) (SortedKept (suc (m + n)) None) (as_predicate at b) _ (predicate_kept at n p b w) (λ r y. ((x.0, y.0), omega (arith, x.1, y.1))))

pub branch_kept : (at : Place) (j m n : ℕ) (o p : Option BinOp) (q : Predicate) (a b : Sorted) → PredicateKept j q → SortedKept m o a → SortedKept n p b → Gives (SortedKept (suc (j + m + n)) None) (branch at q a b)
branch_kept at j m n o p q a b z v w =
    gives_one (PredicateKept m) (SortedKept (suc (j + m + n)) None) (as_predicate at a) _ (predicate_kept at m o a v) (λ e x.
    gives_one (PredicateKept n) (SortedKept (suc (j + m + n)) None) (as_predicate at b) _ (predicate_kept at n p b w) (λ f y. ((z.0, x.0, y.0), omega (arith, z.1, x.1, y.1))))

pub between_kept : (s : Sight) (at : Place) (j m n : ℕ) (o p : Option BinOp) (q : Predicate) (a b : Sorted) → PredicateKept j q → SortedKept m o a → SortedKept n p b → Gives (SortedKept (suc (j + m + n)) None) (choice_between at q a b)
between_kept s at j m n o p q (ATerm t) (ATerm u) z v w =
    gives_quiet (SortedKept (suc (j + m + n)) None) q (choice_of_terms at q t u (sort_of_term t) (sort_of_term u)) (λ quiet. choice_by s at m n o p t u v w j q z (sort_of_term t) (sort_of_term u))
between_kept s at j m n o p q (ATerm t) (APredicate r) z v w = branch_kept at j m n o p q (ATerm t) (APredicate r) z v w
between_kept s at j m n o p q (ATerm t) (APlace u) z v w = branch_kept at j m n o p q (ATerm t) (APlace u) z v w
between_kept s at j m n o p q (APredicate r) b z v w = branch_kept at j m n o p q (APredicate r) b z v w
between_kept s at j m n o p q (APlace t) b z v w = branch_kept at j m n o p q (APlace t) b z v w

pub chosen_kept : (s : Sight) (at : Place) (j m n : ℕ) (l o p : Option BinOp) (k a b : Sorted) → SortedKept j l k → SortedKept m o a → SortedKept n p b → Gives (SortedKept (suc (j + m + n)) None) (chosen at k a b)
chosen_kept s at j m n l o p k a b u v w =
    gives_one (PredicateKept j) (SortedKept (suc (j + m + n)) None) (as_predicate at k) _ (predicate_kept at j l k u) (λ q z. between_kept s at j m n o p q a b z v w)

-- ---- relations and zones

pub right_kept : (at : Place) (left right : Side) (n : ℕ) (o : Option BinOp) (a : Sorted) → SortedKept n o a → Gives (TermKept n o) (right_side at left right a)
right_kept at left right n o a w = gives_where (TermKept n o) (are_related left right) (no_type at) (as_term at a) (λ e. term_kept at n o a w)

pub chain_kept : (at : Place) (m n : ℕ) (o : Option BinOp) (a : Sorted) (links : Links) → SortedKept m o a → LinksKept n links → Gives (SortedKept (m + n) None) (related at a links)
chain_kept at m n o a NoLink v w = tt
chain_kept at m n o a (Linked place r b rest) v w =
    gives_one (TermKept m o) (SortedKept (m + n) None) (as_term at a) _ (term_kept at m o a v) (λ t x. ((x.0, w.0), omega (arith, x.1, w.1)))

pub asked_kept : {A : Type 0} (P : A → Type 0) (s : Sight) (at : Place) (q : MemoryQuestion) (u : PlainType) (k : Checked A) → Gives P k → Gives P (where_asked s at q u k)
asked_kept P s at Valid u k w = gives_measured P s at u k (λ e. w)
asked_kept P s at ValidRead u k w = gives_measured P s at u k (λ e. w)
asked_kept P s at Initialized u k w = gives_where P (is_scalar u) (no_type at) (where_measured s at u k) (λ e. gives_measured P s at u k (λ g. w))

pub object_kept : (s : Sight) (q : MemoryQuestion) (at : Place) (n : ℕ) (o : Option BinOp) (a : Sorted) → SortedKept n o a → Gives (ZoneKept n) (object_zone s q at a)
object_kept s q at n o a w = gives_one (PointerKept n o) (ZoneKept n) (as_pointer at a) _ (pointer_kept at n o a w) (λ p v. asked_kept (ZoneKept n) s at q p.0 _ (v.0, v.1))

pub elements_kept : (s : Sight) (q : MemoryQuestion) (at : Place) (l m n : ℕ) (i j k : Option BinOp) (a lo hi : Sorted) → SortedKept l i a → SortedKept m j lo → SortedKept n k hi
    → Gives (ZoneKept (suc (l + m + n))) (elements_zone s q at a lo hi)
elements_kept s q at l m n i j k a lo hi u v w =
    gives_one (PointerKept l i) (ZoneKept (suc (l + m + n))) (as_pointer at a) _ (pointer_kept at l i a u) (λ p x. asked_kept (ZoneKept (suc (l + m + n))) s at q p.0 _ (
    gives_one (TermKept m j) (ZoneKept (suc (l + m + n))) (as_integer at lo) _ (integer_kept at m j lo v) (λ e y.
    gives_one (TermKept n k) (ZoneKept (suc (l + m + n))) (as_integer at hi) _ (integer_kept at n k hi w) (λ f z.
    ((x.0, y.0, z.0), omega (arith, x.1, y.1, z.1))))))
