-- What pointers, places and zones of annotations demand and the trees that they give (ACSL 2.2, 2.7), by computation. What is in sight is that of `WorkedSight`.
use Rattle.std.proofs.Common.{◌≡◌, ℕ, ◌+◌, pos, true, [], ◌∷◌, map, Option, Some, None, refl}
use Rattle.c_syntax.specs.declared.annotation.Kind.TheVariants.{Assert}
use Rattle.c_syntax.specs.declared.annotation.Relation.TheVariants as relation
use Rattle.c_syntax.specs.declared.expression.BinOp.TheVariants.{Add, Sub, Mul}
use Rattle.c_syntax.specs.declared.expression.UnOp.TheVariants as unary
use Rattle.c_syntax.specs.declared.logic.BlockFact.TheVariants.{BaseAddr, BlockLength, Offset}
use Rattle.c_syntax.specs.declared.logic.Connective.TheVariants.{And}
use Rattle.c_syntax.specs.declared.logic.MemoryQuestion.{MemoryQuestion}
use Rattle.c_syntax.specs.declared.logic.MemoryQuestion.TheVariants.{Valid, ValidRead, Initialized}
use Rattle.c_syntax.specs.declared.logic.PointerOp.{PointerOp}
use Rattle.c_syntax.specs.declared.logic.PointerOp.TheVariants as pointer
use Rattle.c_syntax.specs.Ctypes.{PlainType, Void, Ptr, Array, Count}
use Rattle.c_syntax.specs.Formulas.{Form, Name, Number, Letter, Truth, Unary, Binary, Connected, Choice, Chain, Linked, NoLink, Cast, Integers, OfC, Null, Index, Dot, Arrow, Told, Asks}
use Rattle.c_syntax.specs.Formulas.{Separated, Object, Elements, NoZone, Another}
use Rattle.c_syntax.specs.Logic as logic
use Rattle.c_syntax.specs.Logic.{LogicTerm, Raw}
use Rattle.c_model.specs.Checked.{Fault, Checked, Good, Bad, refusing}
use Rattle.c_model.specs.AnnotationTyping.{in_body}
use Rattle.c_model.specs.PredicateTyping.{Sorted, ATerm, APredicate, APlace, range_to_infer, typed_form, typed_clause}
use Rattle.worked_rows.proofs.WorkedSight.{at, fault, int, char, long, struct_s, sight}

abbrev typed : Form → Checked Sorted
typed g = typed_form (in_body sight) g

abbrev named : ℕ → ℕ → Form
named x o = Name (at o) (record { name = x; decl = 0 })

abbrev i : ℕ → Form
i = named 4

abbrev p : ℕ → Form
p = named 8

abbrev q : ℕ → Form
q = named 9

abbrev v : ℕ → Form
v = named 11

abbrev a : ℕ → Form
a = named 12

abbrev t : ℕ → Form
t = named 13

abbrev r : ℕ → Form
r = named 14

abbrev x : ℕ → Form
x = named 15

-- a pointer to a struct whose members aren't known
abbrev w : ℕ → Form
w = named 17

abbrev number : ℕ → ℕ → Form
number n o = Number (at o) (pos n)

abbrev deref : ℕ → Form → Form
deref o g = Unary (at o) unary.Deref g

abbrev address : ℕ → Form → Form
address o g = Unary (at o) unary.Address g

-- ---- as they are typed

abbrev object : ℕ → PlainType → ℕ → LogicTerm
object y u o = logic.Variable (at o) (Some u) range_to_infer (record { name = y; decl = y + 100 })

abbrev i_at : ℕ → LogicTerm
i_at = object 4 int

abbrev p_at : ℕ → LogicTerm
p_at = object 8 (Ptr int)

abbrev a_at : ℕ → LogicTerm
a_at = object 12 (Array int (Count 4))

abbrev r_at : ℕ → LogicTerm
r_at = object 14 struct_s

abbrev x_at : ℕ → LogicTerm
x_at = object 15 (Ptr struct_s)

abbrev number_at : ℕ → ℕ → LogicTerm
number_at n o = logic.Number (at o) None range_to_infer (pos n)

-- so many elements of `int` on
abbrev moved : ℕ → PointerOp → LogicTerm → LogicTerm → LogicTerm
moved o op b n = logic.Moved (at o) (Some (Ptr int)) range_to_infer op 4 b n

-- ---- places

-- *p, *a, p[i], i[p], a[1]
a_pointer_is_a_place : map typed (deref 0 (p 1) ∷ deref 0 (a 1) ∷ Index (at 1) (p 0) (i 2) ∷ Index (at 1) (i 0) (p 2) ∷ Index (at 1) (a 0) (number 1 2) ∷ [])
    ≡ Good (APlace (logic.Deref (at 0) (Some int) range_to_infer (p_at 1))) ∷ Good (APlace (logic.Deref (at 0) (Some int) range_to_infer (a_at 1)))
    ∷ Good (APlace (logic.Deref (at 1) (Some int) range_to_infer (moved 1 pointer.Plus (p_at 0) (i_at 2))))
    ∷ Good (APlace (logic.Deref (at 1) (Some int) range_to_infer (moved 1 pointer.Plus (p_at 2) (i_at 0))))
    ∷ Good (APlace (logic.Deref (at 1) (Some int) range_to_infer (moved 1 pointer.Plus (a_at 0) (number_at 1 2)))) ∷ []
a_pointer_is_a_place = refl

-- *v, *i, v[0], p[p], i[i], w[0]; `*w` has no fault
no_places : map (λ g. refusing (typed g)) (deref 0 (v 1) ∷ deref 0 (i 1) ∷ Index (at 1) (v 0) (number 0 2) ∷ Index (at 1) (p 0) (p 2) ∷ Index (at 1) (i 0) (i 2) ∷ Index (at 1) (w 0) (number 0 2) ∷ deref 0 (w 1) ∷ [])
    ≡ Some (record { code = 6; place = at 0 }) ∷ Some (record { code = 6; place = at 0 }) ∷ Some (record { code = 6; place = at 1 }) ∷ Some (record { code = 6; place = at 1 })
    ∷ Some (record { code = 6; place = at 1 }) ∷ Some (record { code = 5; place = at 1 }) ∷ None ∷ []
no_places = refl

-- r.n, x->n, r.d: the name of n is 31, of d 32
members_are_places : map typed (Dot (at 1) (r 0) 31 ∷ Arrow (at 1) (x 0) 31 ∷ Dot (at 1) (r 0) 32 ∷ [])
    ≡ Good (APlace (logic.Member (at 1) (Some int) range_to_infer 0 (r_at 0)))
    ∷ Good (APlace (logic.Member (at 1) (Some int) range_to_infer 0 (logic.Deref (at 1) (Some struct_s) range_to_infer (x_at 0))))
    ∷ Good (APlace (logic.Member (at 1) (Some (Array char (Count 3))) range_to_infer 4 (r_at 0))) ∷ []
members_are_places = refl

-- r.o, x.n, i.n, p->n, w->n, r->n
no_members : map (λ g. refusing (typed g)) (Dot (at 1) (r 0) 39 ∷ Dot (at 1) (x 0) 31 ∷ Dot (at 1) (i 0) 31 ∷ Arrow (at 1) (p 0) 31 ∷ Arrow (at 1) (w 0) 31 ∷ Arrow (at 1) (r 0) 31 ∷ [])
    ≡ Some (record { code = 5; place = at 1 }) ∷ Some (record { code = 6; place = at 1 }) ∷ Some (record { code = 6; place = at 1 }) ∷ Some (record { code = 6; place = at 1 })
    ∷ Some (record { code = 5; place = at 1 }) ∷ Some (record { code = 6; place = at 0 }) ∷ []
no_members = refl

-- &i, &a, &p[i], &r; &3, & of a sum
addresses : map typed (address 0 (i 1) ∷ address 0 (a 1) ∷ address 0 (Index (at 2) (p 1) (i 3)) ∷ address 0 (r 1) ∷ [])
    ≡ Good (ATerm (logic.Address (at 0) (Some (Ptr int)) range_to_infer (i_at 1)))
    ∷ Good (ATerm (logic.Address (at 0) (Some (Ptr (Array int (Count 4)))) range_to_infer (a_at 1)))
    ∷ Good (ATerm (logic.Address (at 0) (Some (Ptr int)) range_to_infer (logic.Deref (at 2) (Some int) range_to_infer (moved 2 pointer.Plus (p_at 1) (i_at 3)))))
    ∷ Good (ATerm (logic.Address (at 0) (Some (Ptr struct_s)) range_to_infer (r_at 1))) ∷ []
addresses = refl

no_addresses : map typed (address 0 (number 3 1) ∷ address 0 (Binary (at 2) Add (p 1) (i 3)) ∷ address 0 (Truth (at 1) true) ∷ []) ≡ fault 6 0 ∷ fault 6 0 ∷ fault 6 0 ∷ []
no_addresses = refl

-- ---- pointers and integers

-- p + i, i + p, p - i, a + 1; p - p
pointers_move : map typed (Binary (at 1) Add (p 0) (i 2) ∷ Binary (at 1) Add (i 0) (p 2) ∷ Binary (at 1) Sub (p 0) (i 2) ∷ Binary (at 1) Add (a 0) (number 1 2) ∷ Binary (at 1) Sub (p 0) (p 2) ∷ [])
    ≡ Good (ATerm (moved 1 pointer.Plus (p_at 0) (i_at 2))) ∷ Good (ATerm (moved 1 pointer.Plus (p_at 2) (i_at 0))) ∷ Good (ATerm (moved 1 pointer.Minus (p_at 0) (i_at 2)))
    ∷ Good (ATerm (moved 1 pointer.Plus (a_at 0) (number_at 1 2))) ∷ Good (ATerm (logic.Difference (at 1) None range_to_infer 4 (p_at 0) (p_at 2))) ∷ []
pointers_move = refl

-- p + p, i - p, v + 1, p - q, p * i, -p, \null + 1; w + 1, w - w
no_moves : map typed (Binary (at 1) Add (p 0) (p 2) ∷ Binary (at 1) Sub (i 0) (p 2) ∷ Binary (at 1) Add (v 0) (number 1 2) ∷ Binary (at 1) Sub (p 0) (q 2) ∷ Binary (at 1) Mul (p 0) (i 2) ∷ Unary (at 1) unary.Minus (p 2)
    ∷ Binary (at 1) Add (Null (at 0)) (number 1 2) ∷ Binary (at 1) Add (w 0) (number 1 2) ∷ Binary (at 1) Sub (w 0) (w 2) ∷ [])
    ≡ fault 6 1 ∷ fault 6 1 ∷ fault 6 1 ∷ fault 6 1 ∷ fault 6 1 ∷ fault 6 1 ∷ fault 6 1 ∷ fault 5 1 ∷ fault 5 1 ∷ []
no_moves = refl

-- w + \true, \true + w, w - \true, w[\true]: of two demands at one operator that of names comes first; p + \true
names_first : map typed (Binary (at 1) Add (w 0) (Truth (at 2) true) ∷ Binary (at 1) Add (Truth (at 0) true) (w 2) ∷ Binary (at 1) Sub (w 0) (Truth (at 2) true) ∷ Index (at 1) (w 0) (Truth (at 2) true)
    ∷ Binary (at 1) Add (p 0) (Truth (at 2) true) ∷ [])
    ≡ fault 5 1 ∷ fault 5 1 ∷ fault 5 1 ∷ fault 5 1 ∷ fault 6 1 ∷ []
names_first = refl

-- (long *)p keeps the pointer; (int *)0, (long)p, (integer)p
casts_of_pointers : map typed (Cast (at 0) (OfC (Ptr long)) (p 1) ∷ Cast (at 0) (OfC (Ptr int)) (number 0 1) ∷ Cast (at 0) (OfC long) (p 1) ∷ Cast (at 0) Integers (p 1) ∷ [])
    ≡ Good (ATerm (logic.Cast (at 0) (Some (Ptr long)) range_to_infer (OfC (Ptr long)) (p_at 1))) ∷ fault 6 0 ∷ fault 6 0 ∷ fault 6 0 ∷ []
casts_of_pointers = refl

-- ---- relations, choices and clauses

abbrev equal : Form → Form → Option Fault
equal g h = refusing (typed (Chain (at 2) g (Linked (at 2) relation.Eq h NoLink)))

-- p == p, p == q, p == 0, 0 == p, p == \null; p == 1, p == i, p == '\0', p == Z (an enumerator of value 0), p == 0 + 0
pointers_are_compared : equal (p 0) (p 4) ∷ equal (p 0) (q 4) ∷ equal (p 0) (number 0 4) ∷ equal (number 0 0) (p 4) ∷ equal (p 0) (Null (at 4)) ∷ equal (p 0) (number 1 4) ∷ equal (p 0) (i 4) ∷ equal (p 0) (Letter (at 4) (pos 0))
    ∷ equal (p 0) (named 20 4) ∷ equal (p 0) (Binary (at 5) Add (number 0 4) (number 0 6)) ∷ []
    ≡ None ∷ None ∷ None ∷ None ∷ None ∷ Some (record { code = 6; place = at 2 }) ∷ Some (record { code = 6; place = at 2 }) ∷ Some (record { code = 6; place = at 2 }) ∷ Some (record { code = 6; place = at 2 })
    ∷ Some (record { code = 6; place = at 2 }) ∷ []
pointers_are_compared = refl

-- 0 == 0 == p, where the 0 stays a number
a_chain_to_a_pointer : typed (Chain (at 1) (number 0 0) (Linked (at 1) relation.Eq (number 0 2) (Linked (at 3) relation.Eq (p 4) NoLink)))
    ≡ Good (APredicate (logic.Chain (at 1) (number_at 0 0) (logic.Linked (at 1) relation.Eq (number_at 0 2) (logic.Linked (at 3) relation.Eq (p_at 4) logic.NoLink))))
a_chain_to_a_pointer = refl

-- r == r is a fault of each struct, at its own place
no_relation_of_structs : typed (Chain (at 2) (r 0) (Linked (at 2) relation.Eq (r 4) NoLink)) ≡ Bad (record { code = 6; place = at 0 }) (record { code = 6; place = at 4 } ∷ [])
no_relation_of_structs = refl

-- i ? p : p, i ? v : p, i ? p : v; i ? p : q, i ? p : 0, p ? i : i
abbrev chosen : Form → Form → Form → Checked Sorted
chosen g h k = typed (Choice (at 2) g h k)

choices_of_pointers : chosen (i 0) (p 4) (p 8) ∷ chosen (i 0) (v 4) (p 8) ∷ chosen (i 0) (p 4) (v 8) ∷ []
    ≡ Good (ATerm (logic.Choice (at 2) (Some (Ptr int)) range_to_infer (logic.NonZero (at 0) (i_at 0)) (p_at 4) (p_at 8)))
    ∷ Good (ATerm (logic.Choice (at 2) (Some (Ptr int)) range_to_infer (logic.NonZero (at 0) (i_at 0)) (object 11 (Ptr Void) 4) (p_at 8)))
    ∷ Good (ATerm (logic.Choice (at 2) (Some (Ptr int)) range_to_infer (logic.NonZero (at 0) (i_at 0)) (p_at 4) (object 11 (Ptr Void) 8))) ∷ []
choices_of_pointers = refl

no_choices_of_pointers : chosen (i 0) (p 4) (q 8) ∷ chosen (i 0) (p 4) (number 0 8) ∷ chosen (p 0) (i 4) (i 8) ∷ chosen (i 0) (p 4) (Truth (at 8) true) ∷ [] ≡ fault 6 2 ∷ fault 6 2 ∷ fault 6 2 ∷ fault 6 2 ∷ []
no_choices_of_pointers = refl

-- p && \true, !p, and p as a clause
no_predicates : typed (Connected (at 2) And (p 0) (Truth (at 5) true)) ∷ typed (Unary (at 0) unary.Not (p 1)) ∷ [] ≡ fault 6 2 ∷ fault 6 0 ∷ []
no_predicates = refl

no_clause_of_a_pointer : typed_clause (in_body sight) Assert (Raw (p 0)) ≡ fault 6 0
no_clause_of_a_pointer = refl

-- ---- facts and questions

facts : map typed (Told (at 0) BaseAddr (p 2) ∷ Told (at 0) BlockLength (v 2) ∷ Told (at 0) Offset (a 2) ∷ Told (at 0) Offset (i 2) ∷ [])
    ≡ Good (ATerm (logic.Told (at 0) (Some (Ptr char)) range_to_infer BaseAddr (p_at 2))) ∷ Good (ATerm (logic.Told (at 0) None range_to_infer BlockLength (object 11 (Ptr Void) 2)))
    ∷ Good (ATerm (logic.Told (at 0) None range_to_infer Offset (a_at 2))) ∷ fault 6 0 ∷ []
facts = refl

-- \valid(p), \valid(&r), \initialized(a), \valid(&a): of a struct its own bytes, of an array all of them at its elements' alignment
abbrev asked : MemoryQuestion → Form → Checked Sorted
asked k g = typed (Asks (at 0) k (Object g))

questions : asked Valid (p 2) ∷ asked ValidRead (address 2 (r 3)) ∷ asked Initialized (a 2) ∷ asked Valid (address 2 (a 3)) ∷ []
    ≡ Good (APredicate (logic.Asks (at 0) Valid (logic.Object (at 2) 4 4 (p_at 2))))
    ∷ Good (APredicate (logic.Asks (at 0) ValidRead (logic.Object (at 2) 16 8 (logic.Address (at 2) (Some (Ptr struct_s)) range_to_infer (r_at 3)))))
    ∷ Good (APredicate (logic.Asks (at 0) Initialized (logic.Object (at 2) 4 4 (a_at 2))))
    ∷ Good (APredicate (logic.Asks (at 0) Valid (logic.Object (at 2) 16 4 (logic.Address (at 2) (Some (Ptr (Array int (Count 4)))) range_to_infer (a_at 3))))) ∷ []
questions = refl

-- \valid(v), \valid(i), \valid(w), \initialized(&r), \initialized(&a), \initialized(w), \valid(r)
no_questions : asked Valid (v 2) ∷ asked Valid (i 2) ∷ asked Valid (w 2) ∷ asked Initialized (address 2 (r 3)) ∷ asked Initialized (address 2 (a 3)) ∷ asked Initialized (w 2) ∷ asked Valid (r 2) ∷ []
    ≡ fault 6 0 ∷ fault 6 0 ∷ fault 5 0 ∷ fault 6 0 ∷ fault 6 0 ∷ fault 6 0 ∷ fault 6 2 ∷ []
no_questions = refl

-- p + (0 .. i), with its `+` at 3
abbrev ranged : MemoryQuestion → Form → Form → Form → Checked Sorted
ranged k g lo hi = typed (Asks (at 0) k (Elements (at 3) g lo hi))

ranges : ranged Valid (p 2) (number 0 5) (i 7) ≡ Good (APredicate (logic.Asks (at 0) Valid (logic.Elements (at 3) 4 4 (p_at 2) (number_at 0 5) (i_at 7))))
ranges = refl

-- a void pointer, an integer, an unknown struct, a pointer as a bound, and both of the last; all at the `+`
no_ranges : ranged Valid (v 2) (number 0 5) (i 7) ∷ ranged Valid (i 2) (number 0 5) (i 7) ∷ ranged Valid (w 2) (number 0 5) (i 7) ∷ ranged Valid (p 2) (p 5) (i 7) ∷ ranged Valid (p 2) (number 0 5) (p 7)
    ∷ ranged Valid (w 2) (p 5) (p 7) ∷ []
    ≡ fault 6 3 ∷ fault 6 3 ∷ fault 5 3 ∷ fault 6 3 ∷ fault 6 3 ∷ fault 5 3 ∷ []
no_ranges = refl

-- \separated(p, a + (0 .. 1)), \separated(v, w): each zone with its own fault
zones : typed (Separated (at 0) (Another (Object (p 2)) (Another (Elements (at 5) (a 4) (number 0 7) (number 1 9)) NoZone)))
    ≡ Good (APredicate (logic.Separated (at 0) (logic.Another (logic.Object (at 2) 4 4 (p_at 2)) (logic.Another (logic.Elements (at 5) 4 4 (a_at 4) (number_at 0 7) (number_at 1 9)) logic.NoZone))))
zones = refl

no_zones : typed (Separated (at 0) (Another (Object (v 2)) (Another (Object (w 4)) NoZone))) ≡ Bad (record { code = 6; place = at 0 }) (record { code = 5; place = at 0 } ∷ [])
no_zones = refl
