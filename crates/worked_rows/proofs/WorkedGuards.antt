-- Which quantifiers have guards (ACSL 2.2), by computation: those of a text that have none are refused at their words.
use Rattle.std.proofs.Common.{◌≡◌, ℕ, ◌+◌, pos, true, [], ◌∷◌, Some, None, refl}
use Rattle.c_syntax.specs.declared.place.Place.{Place}
use Rattle.c_syntax.specs.declared.annotation.Relation.{Relation}
use Rattle.c_syntax.specs.declared.annotation.Relation.TheVariants.{Eq, Lt, Le, Gt, Ge}
use Rattle.c_syntax.specs.declared.expression.BinOp.TheVariants as operator
use Rattle.c_syntax.specs.declared.expression.UnOp.TheVariants as unary
use Rattle.c_syntax.specs.declared.logic.Connective.TheVariants.{And, Implies, Iff}
use Rattle.c_syntax.specs.declared.logic.Quantifier.{Quantifier}
use Rattle.c_syntax.specs.declared.logic.Quantifier.TheVariants.{ForAll, Exists}
use Rattle.c_syntax.specs.Formulas.{Form, Number, Truth, Name, Unary, Binary, Chain, Linked, NoLink, Connected, Choice, Quantified, Integers}
use Rattle.c_model.specs.QuantifierGuards.{unguarded_in}

-- ---- how the forms are written: only the places of quantifiers count

abbrev at : ℕ → Place
at offset = record { line = 1; column = offset + 1; offset = offset }

abbrev n : ℕ → Form
n k = Number (at 0) (pos k)

-- a name by its number: i is 0 and j is 1
abbrev name : ℕ → Form
name x = Name (at 0) (record { name = x; decl = 0 })

abbrev i : Form
i = name 0

abbrev j : Form
j = name 1

abbrev so : Form
so = Truth (at 0) true

abbrev two : Form → Relation → Form → Form
two a r b = Chain (at 0) a (Linked (at 0) r b NoLink)

abbrev three : Form → Relation → Form → Relation → Form → Form
three a r b s c = Chain (at 0) a (Linked (at 0) r b (Linked (at 0) s c NoLink))

-- `a <= b < c`
abbrev within : Form → Form → Form → Form
within a b c = three a Le b Lt c

infixr 30 ◌and◌
abbrev ◌and◌ : Form → Form → Form
a and b = Connected (at 0) And a b

infixr 20 ◌implies◌
abbrev ◌implies◌ : Form → Form → Form
a implies b = Connected (at 0) Implies a b

-- at offset 28 as in `int main(void) { /*@ assert \forall integer i; ..`
abbrev of_i : Quantifier → Form → Form
of_i q f = Quantified (at 28) q Integers ((at 44, 0) ∷ []) f

abbrev of_both : Quantifier → Form → Form
of_both q f = Quantified (at 28) q Integers ((at 44, 0) ∷ (at 47, 1) ∷ []) f

abbrev IsGuarded : Form → Type 0
IsGuarded f = unguarded_in f ≡ None

abbrev IsUnguarded : Form → Type 0
IsUnguarded f = unguarded_in f ≡ Some (at 28)

-- ---- guards

-- 0 <= i < 3 ==> \true
one_chain : IsGuarded (of_i ForAll (within (n 0) i (n 3) implies so))
one_chain = refl

-- (0 <= i < 3 && i > 0) && (i > 1) ==> (i == 2)
hypotheses : IsGuarded (of_i ForAll ((within (n 0) i (n 3) and two i Gt (n 0)) and two i Gt (n 1) implies two i Eq (n 2)))
hypotheses = refl

-- 0 <= i < 3 && i == 1
a_rest : IsGuarded (of_i Exists (within (n 0) i (n 3) and two i Eq (n 1)))
a_rest = refl

-- 0 <= i <= j < 3 ==> i <= j
one_chain_of_two : IsGuarded (of_both ForAll (Chain (at 0) (n 0) (Linked (at 0) Le i (Linked (at 0) Le j (Linked (at 0) Lt (n 3) NoLink))) implies two i Le j))
one_chain_of_two = refl

-- 0 <= i < 2 && 0 <= j < i ==> j < i
a_chain_for_each : IsGuarded (of_both ForAll (within (n 0) i (n 2) and within (n 0) j i implies two j Lt i))
a_chain_for_each = refl

-- 0 <= i < 9 && i < j <= i + 1 && j == 3
and_a_rest : IsGuarded (of_both Exists ((within (n 0) i (n 9) and three i Lt j Le (Binary (at 0) operator.Add i (n 1))) and two j Eq (n 3)))
and_a_rest = refl

-- 0 <= i < (\exists integer i; 0 <= i < 3 && \true ? 1 : 2) ==> \true: the name is another binder's there
a_binder_of_its_own : IsGuarded (of_i ForAll (within (n 0) i (Choice (at 0) (of_i Exists (within (n 0) i (n 3) and so)) (n 1) (n 2)) implies so))
a_binder_of_its_own = refl

-- ---- and what is none

-- 0 <= i ==> i >= 0
no_upper_bound : IsUnguarded (of_i ForAll (two (n 0) Le i implies two i Ge (n 0)))
no_upper_bound = refl

-- 0 <= i < 3 && i > 0
no_implication : IsUnguarded (of_i ForAll (within (n 0) i (n 3) and two i Gt (n 0)))
no_implication = refl

-- \exists: 0 <= i < 3
no_rest : IsUnguarded (of_i Exists (within (n 0) i (n 3)))
no_rest = refl

-- \exists: 0 <= i < 3 ==> \true
an_implication : IsUnguarded (of_i Exists (within (n 0) i (n 3) implies so))
an_implication = refl

-- 3 > i >= 0 ==> \true
downward : IsUnguarded (of_i ForAll (three (n 3) Gt i Ge (n 0) implies so))
downward = refl

-- 0 <= i == 3 ==> \true
an_equality : IsUnguarded (of_i ForAll (three (n 0) Le i Eq (n 3) implies so))
an_equality = refl

-- 0 <= j < 3 && 0 <= i < 3 ==> \true
another_order : IsUnguarded (of_both ForAll (within (n 0) j (n 3) and within (n 0) i (n 3) implies so))
another_order = refl

-- 0 <= i < j && 0 <= j < 3 ==> \true
a_later_binder : IsUnguarded (of_both ForAll (within (n 0) i j and within (n 0) j (n 3) implies so))
a_later_binder = refl

-- integer i, j; 0 <= i < 3 ==> \true
one_of_two : IsUnguarded (of_both ForAll (within (n 0) i (n 3) implies so))
one_of_two = refl

-- 0 <= i < i ==> \true
its_own_bound : IsUnguarded (of_i ForAll (within (n 0) i i implies so))
its_own_bound = refl

-- 0 <= i + 1 < 3 ==> \true
no_name : IsUnguarded (of_i ForAll (within (n 0) (Binary (at 0) operator.Add i (n 1)) (n 3) implies so))
no_name = refl

-- i == 0 && 0 <= i < 3 ==> \true
behind_a_hypothesis : IsUnguarded (of_i ForAll (two i Eq (n 0) and within (n 0) i (n 3) implies so))
behind_a_hypothesis = refl

-- 0 <= i < 3 ==> i < 3 <==> \true
an_equivalence : IsUnguarded (of_i ForAll (Connected (at 0) Iff (within (n 0) i (n 3) implies two i Lt (n 3)) so))
an_equivalence = refl

-- ---- wherever they stand, the first in the text

inside_another : unguarded_in (of_i ForAll (within (n 0) i (n 3) implies Quantified (at 60) Exists Integers ((at 70, 1) ∷ []) so)) ≡ Some (at 60)
inside_another = refl

both_of_them : IsUnguarded (of_i ForAll (Quantified (at 60) Exists Integers ((at 70, 1) ∷ []) so))
both_of_them = refl

inside_a_term : unguarded_in (Unary (at 5) unary.Not (two (n 0) Lt (Quantified (at 60) Exists Integers ((at 70, 1) ∷ []) so))) ≡ Some (at 60)
inside_a_term = refl
