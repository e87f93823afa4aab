-- What typing makes of forms of annotations, by computation: a term, a predicate, or the fault that refuses.
use Rattle.std.proofs.Common.{◌≡◌, ℕ, ◌+◌, pos, true, [], ◌∷◌, Option, Some, None, codes, refl}
use Rattle.c_syntax.specs.declared.annotation.Kind.TheVariants.{Assert}
use Rattle.c_syntax.specs.declared.place.Place.{Place}
use Rattle.c_syntax.specs.declared.types.CInt.TheVariants.{I8}
use Rattle.c_syntax.specs.declared.expression.BinOp.TheVariants as operator
use Rattle.c_syntax.specs.declared.expression.UnOp.TheVariants as unary
use Rattle.c_syntax.specs.declared.annotation.Relation.TheVariants as relation
use Rattle.c_syntax.specs.declared.logic.Connective.TheVariants as connective
use Rattle.c_syntax.specs.Ctypes.{Void, Int, Ptr, Array, Named, StructTag, EnumTag, Count, int_type}
use Rattle.c_syntax.specs.Formulas as read
use Rattle.c_syntax.specs.Formulas.{Form, Integers, OfC}
use Rattle.c_syntax.specs.Logic.{LogicTerm, Number, Variable, Unary, Binary, Cast, Choice, NoLink, Linked}
use Rattle.c_syntax.specs.Logic.{Truth, NonZero, Chain, Not, Connected, Branch, Raw, Holds}
use Rattle.c_model.specs.Checked.{Fault, Good, refusing}
use Rattle.c_model.specs.Library.{library_constant}
use Rattle.c_model.specs.ExpressionTyping.{AnObject, AnEnumerator, Sight}
use Rattle.c_model.specs.AnnotationTyping.{in_body}
use Rattle.c_model.specs.PredicateTyping.{Sorted, ATerm, APredicate, APlace, range_to_infer, typed_form, typed_clause}

abbrev pub at : ℕ → Place
at offset = record { line = 1; column = offset + 1; offset = offset }

abbrev fault : ℕ → ℕ → Option Fault
fault code offset = Some (record { code = code; place = at offset })

-- what is in sight of
--
--     enum e { N = 3 };
--     struct s { int m; };
--     typedef char letter;
--     int n;
--     int *p;
--     int f(void);
abbrev sight : Sight
sight = record {
  names = codes "n" ∷ codes "p" ∷ codes "N" ∷ codes "s" ∷ codes "letter" ∷ codes "INT_MAX" ∷ codes "u" ∷ codes "f" ∷ codes "e" ∷ [];
  texts = [];
  functions = record { name = 7; decl = 7; defined = true; params = []; result = int_type } ∷ [];
  entities = AnEnumerator (record { name = 2; value = pos 3 }) ∷ AnObject (record { name = 0; decl = 50; ctype = int_type }) ∷ AnObject (record { name = 1; decl = 60; ctype = Ptr int_type }) ∷ [];
  innermost = 0;
  types = record { name = 4; ctype = Int I8 } ∷ [];
  structs = record { place = at 20; tag = Some 3; members = record { place = at 25; name = 0; ctype = int_type; offset = 0 } ∷ []; size = 4; align = 4 } ∷ [];
  levels = 0 ∷ [];
  enum_tags = 8 ∷ [];
  enums = 8 ∷ [];
}

-- ---- forms as they are read

abbrev name : ℕ → ℕ → Form
name offset x = read.Name (at offset) (record { name = x; decl = 0 })

abbrev one : ℕ → Form
one offset = read.Number (at offset) (pos 1)

-- `n < 1` with its relation here
abbrev less : ℕ → Form
less offset = read.Chain (at offset) (name 0 0) (read.Linked (at offset) relation.Lt (one 9) read.NoLink)

-- ---- terms and predicates

abbrev n_at : ℕ → LogicTerm
n_at offset = Variable (at offset) (Some int_type) range_to_infer (record { name = 0; decl = 50 })

abbrev number : ℕ → ℕ → LogicTerm
number offset n = Number (at offset) None range_to_infer (pos n)

abbrev n_less : ℕ → Sorted
n_less offset = APredicate (Chain (at offset) (n_at 0) (Linked (at offset) relation.Lt (number 9 1) NoLink))

-- an object, an enumerator, a constant of the library
typed-object : typed_form (in_body sight) (name 0 0) ≡ Good (APlace (n_at 0))
typed-object = refl

typed-enumerator : typed_form (in_body sight) (name 0 2) ≡ Good (ATerm (number 0 3))
typed-enumerator = refl

typed-constant : typed_form (in_body sight) (name 0 5) ≡ Good (ATerm (number 0 2147483647))
unfolding library_constant
typed-constant = refl

-- `n + 1`, `~n`
typed-sum : typed_form (in_body sight) (read.Binary (at 2) operator.Add (name 0 0) (one 4)) ≡ Good (ATerm (Binary (at 2) None range_to_infer operator.Add (n_at 0) (number 4 1)))
typed-sum = refl

typed-complement : typed_form (in_body sight) (read.Unary (at 0) unary.Flip (name 1 0)) ≡ Good (ATerm (Unary (at 0) None range_to_infer unary.Flip (n_at 1)))
typed-complement = refl

-- `n < 1`, `!n`, `n && \true`
typed-relation : typed_form (in_body sight) (less 2) ≡ Good (n_less 2)
typed-relation = refl

typed-negation : typed_form (in_body sight) (read.Unary (at 0) unary.Not (name 1 0)) ≡ Good (APredicate (Not (at 0) (NonZero (at 1) (n_at 1))))
typed-negation = refl

typed-conjunction : typed_form (in_body sight) (read.Connected (at 2) connective.And (name 0 0) (read.Truth (at 5) true)) ≡ Good (APredicate (Connected (at 2) connective.And (NonZero (at 0) (n_at 0)) (Truth (at 5) true)))
typed-conjunction = refl

-- `n ? n : 1` is a term, and `n ? \true : 1` a predicate
typed-choice_of_terms : typed_form (in_body sight) (read.Choice (at 2) (name 0 0) (name 4 0) (one 8)) ≡ Good (ATerm (Choice (at 2) None range_to_infer (NonZero (at 0) (n_at 0)) (n_at 4) (number 8 1)))
typed-choice_of_terms = refl

typed-choice_of_predicates : typed_form (in_body sight) (read.Choice (at 2) (name 0 0) (read.Truth (at 4) true) (one 8)) ≡ Good (APredicate (Branch (at 2) (NonZero (at 0) (n_at 0)) (Truth (at 4) true) (NonZero (at 8) (number 8 1))))
typed-choice_of_predicates = refl

-- `(integer)n`, `(letter)n`, `(enum e)n`
typed-cast_to_integer : typed_form (in_body sight) (read.Cast (at 0) Integers (name 9 0)) ≡ Good (ATerm (Cast (at 0) None range_to_infer Integers (n_at 9)))
typed-cast_to_integer = refl

typed-cast_to_a_named_type : typed_form (in_body sight) (read.Cast (at 0) (OfC (Named 4)) (name 8 0)) ≡ Good (ATerm (Cast (at 0) None range_to_infer (OfC (Int I8)) (n_at 8)))
typed-cast_to_a_named_type = refl

typed-cast_to_an_enum : typed_form (in_body sight) (read.Cast (at 0) (OfC (EnumTag 8 (at 6))) (name 8 0)) ≡ Good (ATerm (Cast (at 0) None range_to_infer (OfC int_type) (n_at 8)))
typed-cast_to_an_enum = refl

-- `sizeof(struct s)`, `sizeof(letter[3])`
typed-size_of_a_struct : typed_form (in_body sight) (read.SizeOf (at 0) (StructTag 3 (at 14))) ≡ Good (ATerm (number 0 4))
typed-size_of_a_struct = refl

typed-size_of_an_array : typed_form (in_body sight) (read.SizeOf (at 0) (Array (Named 4) (Count 3))) ≡ Good (ATerm (number 0 3))
typed-size_of_an_array = refl

-- clauses
typed_clause-term : typed_clause (in_body sight) Assert (Raw (name 0 0)) ≡ Good (Holds (NonZero (at 0) (n_at 0)))
typed_clause-term = refl

-- ---- refused

-- a pointer that should hold, an unknown name, a function's name
typed_clause-pointer : refusing (typed_clause (in_body sight) Assert (Raw (name 0 1))) ≡ fault 6 0
typed_clause-pointer = refl

typed-unknown : refusing (typed_form (in_body sight) (name 0 6)) ≡ fault 5 0
unfolding library_constant
typed-unknown = refl

typed-function : refusing (typed_form (in_body sight) (name 0 7)) ≡ fault 5 0
unfolding library_constant
typed-function = refl

-- `(n < 1) + 1`, `-(n < 1)`, `(n < 1) < 1`, `1 < (n < 1)`
typed-sum_of_a_predicate : refusing (typed_form (in_body sight) (read.Binary (at 6) operator.Add (less 2) (one 8))) ≡ fault 6 6
typed-sum_of_a_predicate = refl

typed-minus_of_a_predicate : refusing (typed_form (in_body sight) (read.Unary (at 0) unary.Minus (less 3))) ≡ fault 6 0
typed-minus_of_a_predicate = refl

typed-predicate_on_the_left : refusing (typed_form (in_body sight) (read.Chain (at 6) (less 2) (read.Linked (at 6) relation.Lt (one 8) read.NoLink))) ≡ fault 6 6
typed-predicate_on_the_left = refl

typed-predicate_on_the_right : refusing (typed_form (in_body sight) (read.Chain (at 2) (one 0) (read.Linked (at 2) relation.Lt (less 6) read.NoLink))) ≡ fault 6 2
typed-predicate_on_the_right = refl

-- `1 == 1 == (n < 1)`: the second relation
typed-predicate_further_on : refusing (typed_form (in_body sight) (read.Chain (at 2) (one 0) (read.Linked (at 2) relation.Eq (one 4) (read.Linked (at 6) relation.Eq (less 10) read.NoLink)))) ≡ fault 6 6
typed-predicate_further_on = refl

-- `(n < 1) < u`: the fault of a side comes alone; `(n < 1) < 1 < u`: the first relation
typed-unknown_side : refusing (typed_form (in_body sight) (read.Chain (at 6) (less 2) (read.Linked (at 6) relation.Lt (name 8 6) read.NoLink))) ≡ fault 5 8
unfolding library_constant
typed-unknown_side = refl

typed-unknown_further_on : refusing (typed_form (in_body sight) (read.Chain (at 6) (less 2) (read.Linked (at 6) relation.Lt (one 8) (read.Linked (at 10) relation.Lt (name 12 6) read.NoLink)))) ≡ fault 6 6
unfolding library_constant
typed-unknown_further_on = refl

-- `u + f`: the first of two faults
typed-two_faults : refusing (typed_form (in_body sight) (read.Binary (at 2) operator.Add (name 0 6) (name 4 7))) ≡ fault 5 0
unfolding library_constant
typed-two_faults = refl

-- `(int *)n`, `(u)n`, `(letter)(n < 1)`
typed-cast_to_a_pointer : refusing (typed_form (in_body sight) (read.Cast (at 0) (OfC (Ptr int_type)) (name 8 0))) ≡ fault 6 0
typed-cast_to_a_pointer = refl

typed-cast_to_an_unknown_type : refusing (typed_form (in_body sight) (read.Cast (at 0) (OfC (Named 6)) (name 8 0))) ≡ fault 5 0
typed-cast_to_an_unknown_type = refl

typed-cast_of_a_predicate : refusing (typed_form (in_body sight) (read.Cast (at 0) (OfC (Named 4)) (less 11))) ≡ fault 6 0
typed-cast_of_a_predicate = refl

-- `sizeof(void)`, and of an array with too many bytes
typed-size_of_void : refusing (typed_form (in_body sight) (read.SizeOf (at 0) Void)) ≡ fault 6 0
typed-size_of_void = refl

typed-size_of_a_large_type : refusing (typed_form (in_body sight) (read.SizeOf (at 0) (Array (Array (Named 4) (Count 65536)) (Count 65536)))) ≡ fault 11 0
typed-size_of_a_large_type = refl
