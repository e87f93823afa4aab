-- What typing makes of quantifiers and of variants, by computation (ACSL 2.2, 2.4.2): trees, and the faults that refuse.
use Rattle.std.proofs.Common.{◌≡◌, ℕ, ◌+◌, pos, true, false, List, [], ◌∷◌, Option, Some, None, codes, refl}
use Rattle.c_syntax.specs.declared.place.Place.{Place}
use Rattle.c_syntax.specs.declared.types.CInt.TheVariants.{I8, U8}
use Rattle.c_syntax.specs.declared.annotation.Kind.TheVariants.{Invariant, Variant}
use Rattle.c_syntax.specs.declared.annotation.Relation.TheVariants.{Eq, Lt, Le}
use Rattle.c_syntax.specs.declared.expression.BinOp.TheVariants.{Add}
use Rattle.c_syntax.specs.declared.logic.Connective.TheVariants.{And, Implies}
use Rattle.c_syntax.specs.declared.logic.Quantifier.{Quantifier}
use Rattle.c_syntax.specs.declared.logic.Quantifier.TheVariants.{ForAll, Exists}
use Rattle.c_syntax.specs.Ctypes as ctype
use Rattle.c_syntax.specs.Ctypes.{Int, Ptr, EnumTag, int_type}
use Rattle.c_syntax.specs.Formulas as read
use Rattle.c_syntax.specs.Formulas.{CastType, Integers, OfC, Form, Name, Truth, Chain, Linked, NoLink, Connected, Choice, Old, At, Binary}
use Rattle.c_syntax.specs.Logic as logic
use Rattle.c_syntax.specs.Logic.{LogicTerm, Number, Variable, Named, Raw, Holds, Value, Quantified, Guarded, NoGuard}
use Rattle.c_model.specs.Checked.{Fault, Good, refusing}
use Rattle.c_model.specs.Library.{library_constant}
use Rattle.c_model.specs.ExpressionTyping.{AnObject, AnEnumerator, Sight}
use Rattle.c_model.specs.AnnotationTyping.{in_body}
use Rattle.c_model.specs.PredicateTyping.{APredicate, range_to_infer, typed_form, typed_clause}

abbrev at : ℕ → Place
at offset = record { line = 1; column = offset + 1; offset = offset }

abbrev fault : ℕ → ℕ → Option Fault
fault code offset = Some (record { code = code; place = at offset })

-- what is in sight of
--
--     typedef int *P;
--     typedef unsigned char letter;
--     enum e { N = 3 };
--     int n;
--     int *p;
abbrev sight : Sight
sight = record {
  names = codes "i" ∷ codes "j" ∷ codes "n" ∷ codes "p" ∷ codes "P" ∷ codes "letter" ∷ codes "e" ∷ codes "N" ∷ codes "Pre" ∷ [];
  texts = [];
  functions = [];
  entities = AnEnumerator (record { name = 7; value = pos 3 }) ∷ AnObject (record { name = 2; decl = 50; ctype = int_type }) ∷ AnObject (record { name = 3; decl = 60; ctype = Ptr int_type }) ∷ [];
  innermost = 0;
  types = record { name = 4; ctype = Ptr int_type } ∷ record { name = 5; ctype = Int U8 } ∷ [];
  structs = [];
  levels = [];
  enum_tags = 6 ∷ [];
  enums = 6 ∷ [];
}

-- ---- forms as they are read, each part at its offset

abbrev name : ℕ → ℕ → Form
name offset x = Name (at offset) (record { name = x; decl = 0 })

abbrev number : ℕ → ℕ → Form
number offset k = read.Number (at offset) (pos k)

abbrev so : ℕ → Form
so offset = Truth (at offset) true

-- `a <= b < c`, at its relations
abbrev within : Form → ℕ → Form → ℕ → Form → Form
within a offset b next c = Chain (at offset) a (Linked (at offset) Le b (Linked (at next) Lt c NoLink))

-- the quantifier at offset 10, with i at 20 and j at 22
abbrev of_i : Quantifier → CastType → Form → Form
of_i q to f = read.Quantified (at 10) q to ((at 20, 0) ∷ []) f

abbrev of_both : Quantifier → Form → Form
of_both q f = read.Quantified (at 10) q Integers ((at 20, 0) ∷ (at 22, 1) ∷ []) f

-- `0 <= i < 3`, and with these bounds
abbrev guard : Form
guard = within (number 24 0) 26 (name 28 0) 30 (number 32 3)

-- ---- trees

abbrev number_at : ℕ → ℕ → LogicTerm
number_at offset k = Number (at offset) None range_to_infer (pos k)

abbrev i_at : ℕ → LogicTerm
i_at offset = Named (at offset) None range_to_infer (record { name = 0; decl = 20 })

-- \forall integer i; 0 <= i < 3 ==> i
for_all : typed_form (in_body sight) (of_i ForAll Integers (Connected (at 34) Implies guard (name 40 0)))
    ≡ Good (APredicate (Quantified (at 10) ForAll (Guarded (number_at 24 0) (record { place = at 20; kind = Integers; above = false }) [] true (number_at 32 3) NoGuard) (logic.NonZero (at 40) (i_at 40))))
for_all = refl

-- a hypothesis is the left of the `==>`: 0 <= i < 3 && i ==> \true
a_hypothesis : typed_form (in_body sight) (of_i ForAll Integers (Connected (at 44) Implies (Connected (at 34) And guard (name 40 0)) (so 48)))
    ≡ Good (APredicate (Quantified (at 10) ForAll (Guarded (number_at 24 0) (record { place = at 20; kind = Integers; above = false }) [] true (number_at 32 3) NoGuard)
    (logic.Connected (at 44) Implies (logic.NonZero (at 40) (i_at 40)) (logic.Truth (at 48) true))))
a_hypothesis = refl

-- \exists letter i; 0 <= i < 3 && i
exists : typed_form (in_body sight) (of_i Exists (OfC (ctype.Named 5)) (Connected (at 34) And guard (name 40 0)))
    ≡ Good (APredicate (Quantified (at 10) Exists (Guarded (number_at 24 0) (record { place = at 20; kind = OfC (Int U8); above = false }) [] true (number_at 32 3) NoGuard) (logic.NonZero (at 40) (i_at 40))))
exists = refl

-- an enumeration is `int`
of_an_enumeration : refusing (typed_form (in_body sight) (of_i Exists (OfC (EnumTag 6 (at 15))) (Connected (at 34) And guard (so 40)))) ≡ None
of_an_enumeration = refl

-- 0 < i <= j <= 3
signs : typed_form (in_body sight) (of_both ForAll (Connected (at 40) Implies
    (Chain (at 25) (number 24 0) (Linked (at 25) Lt (name 26 0) (Linked (at 27) Le (name 29 1) (Linked (at 30) Le (number 32 3) NoLink)))) (so 44)))
    ≡ Good (APredicate (Quantified (at 10) ForAll (Guarded (number_at 24 0) (record { place = at 20; kind = Integers; above = true }) (record { place = at 22; kind = Integers; above = false } ∷ []) false (number_at 32 3) NoGuard)
    (logic.Truth (at 44) true)))
signs = refl

-- the bound of a later chain sees the earlier binder: 0 <= i < 3 && 0 <= j < i
a_chain_for_each : typed_form (in_body sight) (of_both ForAll (Connected (at 60) Implies (Connected (at 34) And guard (within (number 40 0) 42 (name 44 1) 46 (name 48 0))) (so 64)))
    ≡ Good (APredicate (Quantified (at 10) ForAll (Guarded (number_at 24 0) (record { place = at 20; kind = Integers; above = false }) [] true (number_at 32 3)
    (Guarded (number_at 40 0) (record { place = at 22; kind = Integers; above = false }) [] true (i_at 48) NoGuard)) (logic.Truth (at 64) true)))
a_chain_for_each = refl

-- a binder of another quantifier hides that of the same name
the_innermost : typed_form (in_body sight) (of_i ForAll Integers (Connected (at 34) Implies guard
    (read.Quantified (at 50) Exists Integers ((at 58, 0) ∷ []) (Connected (at 80) And (within (number 62 0) 64 (name 66 0) 68 (number 70 3)) (name 84 0)))))
    ≡ Good (APredicate (Quantified (at 10) ForAll (Guarded (number_at 24 0) (record { place = at 20; kind = Integers; above = false }) [] true (number_at 32 3) NoGuard)
    (Quantified (at 50) Exists (Guarded (number_at 62 0) (record { place = at 58; kind = Integers; above = false }) [] true (number_at 70 3) NoGuard)
    (logic.NonZero (at 84) (Named (at 84) None range_to_infer (record { name = 0; decl = 58 }))))))
the_innermost = refl

-- ---- and faults

-- a TYPENAME of no integer type
no_integers : refusing (typed_form (in_body sight) (of_i ForAll (OfC (ctype.Named 4)) (Connected (at 34) Implies guard (so 40)))) ≡ fault 6 10
no_integers = refl

-- a pointer as a bound, at its relation
a_pointer_below : refusing (typed_form (in_body sight) (of_i ForAll Integers (Connected (at 34) Implies (within (name 24 3) 26 (name 28 0) 30 (number 32 3)) (so 40)))) ≡ fault 6 26
a_pointer_below = refl

a_pointer_above : refusing (typed_form (in_body sight) (of_i ForAll Integers (Connected (at 34) Implies (within (number 24 0) 26 (name 28 0) 30 (name 32 3)) (so 40)))) ≡ fault 6 30
a_pointer_above = refl

-- a pointer as a hypothesis, at its `&&`, and as what is said, at the `==>`
a_pointer_among : refusing (typed_form (in_body sight) (of_i ForAll Integers (Connected (at 44) Implies (Connected (at 34) And guard (name 40 3)) (so 48)))) ≡ fault 6 34
a_pointer_among = refl

a_pointer_behind : refusing (typed_form (in_body sight) (of_i ForAll Integers (Connected (at 34) Implies guard (name 40 3)))) ≡ fault 6 34
a_pointer_behind = refl

-- ((\exists integer i; 0 <= i < 3 && \true) ? 1 : 2)
in_a_condition : refusing (typed_form (in_body sight) (Choice (at 50) (of_i Exists Integers (Connected (at 34) And guard (so 40))) (number 52 1) (number 54 2))) ≡ fault 6 10
in_a_condition = refl

-- but ((\exists integer i; 0 <= i < 3 && \true) ? \true : \true)
in_a_condition_of_predicates : refusing (typed_form (in_body sight) (Choice (at 50) (of_i Exists Integers (Connected (at 34) And guard (so 40))) (so 52) (so 54))) ≡ None
in_a_condition_of_predicates = refl

-- 1 + \exists ..
added : refusing (typed_form (in_body sight) (Binary (at 8) Add (number 4 1) (of_i Exists Integers (Connected (at 34) And guard (so 40))))) ≡ fault 6 8
added = refl

-- a binder under a label, at `\at`
under_a_label : refusing (typed_form (in_body sight) (of_i ForAll Integers (Connected (at 34) Implies guard (At (at 40) (name 44 0) (at 48) 8)))) ≡ fault 9 40
under_a_label = refl

-- an unknown name behind the guard
unknown : refusing (typed_form (in_body sight) (of_i ForAll Integers (Connected (at 34) Implies guard (name 40 1)))) ≡ fault 5 40
unfolding library_constant
unknown = refl

-- ---- variants

a_variant : typed_clause (in_body sight) Variant (Raw (name 5 2)) ≡ Good (Value (Variable (at 5) (Some int_type) range_to_infer (record { name = 2; decl = 50 })))
a_variant = refl

a_predicate : refusing (typed_clause (in_body sight) Variant (Raw (so 5))) ≡ fault 6 5
a_predicate = refl

a_pointer : refusing (typed_clause (in_body sight) Variant (Raw (name 5 3))) ≡ fault 6 5
a_pointer = refl

an_invariant : typed_clause (in_body sight) Invariant (Raw (so 5)) ≡ Good (Holds (logic.Truth (at 5) true))
an_invariant = refl
