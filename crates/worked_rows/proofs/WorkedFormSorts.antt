-- What operators of annotations demand and the sorts that they give (ACSL 2.2), by computation: an integer, a predicate, or the code and the place of the
-- fault. `A op B` stands at 0, 2 and 4.
use Rattle.std.proofs.Common.{◌≡◌, ℕ, ◌^◌, ◌-◌, ℤ, pos, negsuc, true, false, List, [], ◌∷◌, map, Some, None, refl, replicate}
use Rattle.c_syntax.specs.declared.annotation.Kind.TheVariants.{Assert}
use Rattle.c_syntax.specs.declared.annotation.Relation.{Relation}
use Rattle.c_syntax.specs.declared.annotation.Relation.TheVariants as relation
use Rattle.c_syntax.specs.declared.expression.BinOp.{BinOp}
use Rattle.c_syntax.specs.declared.expression.BinOp.TheVariants.{Add, Sub, Mul, Div, Rem, Shl, Shr, BitAnd, BitOr, BitXor}
use Rattle.c_syntax.specs.declared.expression.UnOp.{UnOp}
use Rattle.c_syntax.specs.declared.expression.UnOp.TheVariants as unary
use Rattle.c_syntax.specs.declared.expression.UnOp.TheVariants.{Plus, Minus, Flip}
use Rattle.c_syntax.specs.declared.logic.Connective.{Connective}
use Rattle.c_syntax.specs.declared.logic.Connective.TheVariants.{And, Or, Xor, Implies, Iff}
use Rattle.c_syntax.specs.declared.types.CInt.TheVariants.{I8, U8, I16, U16, I32, U32, I64, U64}
use Rattle.c_syntax.specs.Ctypes.{PlainType, Void, Int, Ptr, Array, StructTag, Named, Written, Count}
use Rattle.c_syntax.specs.Formulas.{Form, Name, Number, Letter, Truth, Unary, Binary, Connected, Choice, Chain, Linked, NoLink, Cast, SizeOf, Integers, OfC, Null}
use Rattle.c_syntax.specs.Logic as logic
use Rattle.c_syntax.specs.Logic.{LogicTerm, Raw, Holds}
use Rattle.c_model.specs.Checked.{Checked, Good, Bad, one_part}
use Rattle.c_model.specs.Library.{library_constant}
use Rattle.c_model.specs.AnnotationTyping.{in_body}
use Rattle.c_model.specs.PredicateTyping as typing
use Rattle.c_model.specs.PredicateTyping.{Sorted, ATerm, APredicate, APlace, ValueSort, sort_of_term, range_to_infer, typed_form, typed_clause}
use Rattle.worked_rows.proofs.WorkedSight.{at, fault, int, char, unsigned_long, struct_s, struct_u, sight, three, f}

data Sort : Type 0 where
  AnInteger : Sort
  IsPointer : Sort
  IsStruct : Sort
  IsPredicate : Sort

abbrev sort_of_value : ValueSort → Sort
sort_of_value typing.AnInteger = AnInteger
sort_of_value (typing.APointer t) = IsPointer
sort_of_value typing.NoValue = IsStruct

abbrev sort : Sorted → Sort
sort (ATerm t) = sort_of_value (sort_of_term t)
sort (APredicate p) = IsPredicate
sort (APlace t) = sort_of_value (sort_of_term t)

abbrev sort_of : Form → Checked Sort
sort_of g = one_part (typed_form (in_body sight) g) (λ s. Good (sort s))

abbrev every : {A : Type 0} → List A → Checked Sort → List (Checked Sort)
every xs r = map (λ x. r) xs

-- ---- forms as they are read

abbrev named : ℕ → ℕ → Form
named x o = Name (at o) (record { name = x; decl = 0 })

abbrev c : ℕ → Form
c = named 0

abbrev l : ℕ → Form
l = named 6

abbrev one : ℕ → Form
one o = Number (at o) (pos 1)

-- c < 1, whose `<` stands two places behind the c
abbrev less : ℕ → Form
less o = Chain (at o) (c 0) (Linked (at o) relation.Lt (one 9) NoLink)

-- as typed
abbrev c_at : ℕ → LogicTerm
c_at o = logic.Variable (at o) (Some char) range_to_infer (record { name = 0; decl = 100 })

abbrev number : ℤ → ℕ → LogicTerm
number n o = logic.Number (at o) None range_to_infer n

-- ---- primary forms

literals : map sort_of (one 0 ∷ Number (at 0) (pos (2 ^ 127 - 1)) ∷ Letter (at 0) (negsuc 0) ∷ []) ≡ replicate 3 (Good AnInteger)
literals = refl

truths : map sort_of (Truth (at 0) true ∷ Truth (at 0) false ∷ []) ≡ replicate 2 (Good IsPredicate)
truths = refl

-- c, b, h, k, i, j, l, m
objects : map (λ (x : ℕ). sort_of (named x 0)) (0 ∷ 1 ∷ 2 ∷ 3 ∷ 4 ∷ 5 ∷ 6 ∷ 7 ∷ []) ≡ replicate 8 (Good AnInteger)
objects = refl

an_object_keeps_its_type : typed_form (in_body sight) (c 0) ≡ Good (APlace (c_at 0))
an_object_keeps_its_type = refl

-- N, EOF
an_enumerator_is_its_value : typed_form (in_body sight) (named 19 0) ≡ Good (ATerm (number (pos 3) 0))
an_enumerator_is_its_value = refl

a_constant_is_its_value : typed_form (in_body sight) (named 26 0) ≡ Good (ATerm (number (negsuc 0) 0))
unfolding library_constant
a_constant_is_its_value = refl

-- p, v, a, t, r, x
no_integers : map (λ (x : ℕ). sort_of (named x 0)) (8 ∷ 11 ∷ 12 ∷ 13 ∷ 14 ∷ 15 ∷ [])
    ≡ Good IsPointer ∷ Good IsPointer ∷ Good IsPointer ∷ Good IsPointer ∷ Good IsStruct ∷ Good IsPointer ∷ []
no_integers = refl

null_is_a_pointer : map sort_of (named 25 0 ∷ Null (at 0) ∷ []) ≡ replicate 2 (Good IsPointer)
unfolding library_constant
null_is_a_pointer = refl

-- unknown, f, a function without a definition, putchar, a member, a tag
no_names : map (λ (x : ℕ). sort_of (named x 0)) (37 ∷ f ∷ 23 ∷ 28 ∷ 31 ∷ 34 ∷ []) ≡ replicate 6 (fault 5 0)
unfolding library_constant
no_names = refl

-- ---- `+ - ~` in front, `* / % + - << >> & ^ |` want integers

abbrev signs : List UnOp
signs = Plus ∷ Minus ∷ Flip ∷ []

abbrev operators : List BinOp
operators = Mul ∷ Div ∷ Rem ∷ Add ∷ Sub ∷ Shl ∷ Shr ∷ BitAnd ∷ BitXor ∷ BitOr ∷ []

abbrev operated : Form → Form → List (Checked Sort)
operated a b = map (λ (op : BinOp). sort_of (Binary (at 2) op a b)) operators

signs_of_integers : map (λ (op : UnOp). sort_of (Unary (at 0) op (c 1))) signs ≡ every signs (Good AnInteger)
signs_of_integers = refl

-- -c, ~c
signs_keep_their_operands : map (λ (op : UnOp). typed_form (in_body sight) (Unary (at 0) op (c 1))) signs ≡ map (λ (op : UnOp). Good (ATerm (logic.Unary (at 0) None range_to_infer op (c_at 1)))) signs
signs_keep_their_operands = refl

no_signs_of_predicates : map (λ (op : UnOp). sort_of (Unary (at 0) op (less 2))) signs ≡ every signs (fault 6 0)
no_signs_of_predicates = refl

operators_on_integers : operated (c 0) (l 4) ≡ every operators (Good AnInteger)
operators_on_integers = refl

no_predicate_on_the_left : operated (Truth (at 0) true) (c 4) ≡ every operators (fault 6 2)
no_predicate_on_the_left = refl

no_predicate_on_the_right : operated (c 0) (less 6) ≡ every operators (fault 6 2)
no_predicate_on_the_right = refl

-- nothing is converted: c - 1
an_operator_keeps_its_operands : typed_form (in_body sight) (Binary (at 2) Sub (c 0) (one 4)) ≡ Good (ATerm (logic.Binary (at 2) None range_to_infer Sub (c_at 0) (number (pos 1) 4)))
an_operator_keeps_its_operands = refl

-- ---- relations want two integers, or two pointers, and give predicates

abbrev relations : List Relation
relations = relation.Lt ∷ relation.Le ∷ relation.Gt ∷ relation.Ge ∷ relation.Eq ∷ relation.Ne ∷ []

abbrev related : Form → Form → List (Checked Sort)
related a b = map (λ (r : Relation). sort_of (Chain (at 2) a (Linked (at 2) r b NoLink))) relations

relations_of_integers : related (c 0) (l 4) ≡ every relations (Good IsPredicate)
relations_of_integers = refl

no_relation_of_a_predicate : related (Truth (at 0) true) (c 4) ≡ every relations (fault 6 2)
no_relation_of_a_predicate = refl

no_relation_with_a_predicate : related (c 0) (less 6) ≡ every relations (fault 6 2)
no_relation_with_a_predicate = refl

-- 1 == (c < 1) == c: both relations of the one in the middle
no_predicate_in_the_middle : sort_of (Chain (at 2) (one 0) (Linked (at 2) relation.Eq (less 6) (Linked (at 11) relation.Eq (c 14) NoLink))) ≡ Bad (record { code = 6; place = at 2 }) (record { code = 6; place = at 11 } ∷ [])
no_predicate_in_the_middle = refl

relations_of_pointers : related (named 8 0) (named 8 4) ≡ every relations (Good IsPredicate)
relations_of_pointers = refl

-- 1 <= c < 1
a_chain_is_one_predicate : typed_form (in_body sight) (Chain (at 2) (one 0) (Linked (at 2) relation.Le (c 5) (Linked (at 7) relation.Lt (one 9) NoLink)))
    ≡ Good (APredicate (logic.Chain (at 2) (number (pos 1) 0) (logic.Linked (at 2) relation.Le (c_at 5) (logic.Linked (at 7) relation.Lt (number (pos 1) 9) logic.NoLink))))
a_chain_is_one_predicate = refl

-- ---- `! && || ^^ ==> <==>` want predicates; an integer is one where it isn't 0

abbrev connectives : List Connective
connectives = And ∷ Or ∷ Xor ∷ Implies ∷ Iff ∷ []

abbrev connected : Form → Form → List (Checked Sort)
connected a b = map (λ (r : Connective). sort_of (Connected (at 2) r a b)) connectives

predicates_are_connected : connected (less 2) (Truth (at 5) true) ≡ every connectives (Good IsPredicate)
predicates_are_connected = refl

integers_are_connected : connected (c 0) (l 5) ≡ every connectives (Good IsPredicate)
integers_are_connected = refl

no_pointer_is_connected : connected (named 8 0) (c 5) ≡ every connectives (fault 6 2)
no_pointer_is_connected = refl

-- c ==> !1
integers_that_arent_zero : typed_form (in_body sight) (Connected (at 2) Implies (c 0) (Unary (at 6) unary.Not (one 7)))
    ≡ Good (APredicate (logic.Connected (at 2) Implies (logic.NonZero (at 0) (c_at 0)) (logic.Not (at 6) (logic.NonZero (at 7) (number (pos 1) 7)))))
integers_that_arent_zero = refl

-- ---- `A ? B : C` wants a predicate, and two integers or two predicates

abbrev chosen : Form → Form → Form → Checked Sort
chosen a b c = sort_of (Choice (at 2) a b c)

two_integers : chosen (less 2) (c 4) (one 8) ≡ Good AnInteger
two_integers = refl

two_predicates : chosen (c 0) (less 5) (Truth (at 8) false) ≡ Good IsPredicate
two_predicates = refl

an_integer_and_a_predicate : chosen (c 0) (c 4) (less 9) ≡ Good IsPredicate
an_integer_and_a_predicate = refl

a_predicate_and_an_integer : chosen (c 0) (less 5) (one 8) ≡ Good IsPredicate
a_predicate_and_an_integer = refl

no_choice_of_a_pointer : chosen (c 0) (one 4) (named 8 8) ≡ fault 6 2
no_choice_of_a_pointer = refl

-- ---- casts of an integer want an integer type of C or `integer`

abbrev cast_to : List PlainType → Form → List (Checked Sort)
cast_to ts g = map (λ (t : PlainType). sort_of (Cast (at 0) (OfC t) g)) ts

abbrev integer_types : List PlainType
integer_types = Int I8 ∷ Int U8 ∷ Int I16 ∷ Int U16 ∷ Int I32 ∷ Int U32 ∷ Int I64 ∷ Int U64 ∷ []

abbrev other_types : List PlainType
other_types = Void ∷ Ptr int ∷ struct_s ∷ struct_u ∷ Array int (Count 2) ∷ []

casts_to_types : cast_to integer_types (c 6) ≡ every integer_types (Good AnInteger)
casts_to_types = refl

a_cast_to_whole_numbers : sort_of (Cast (at 0) Integers (c 9)) ≡ Good AnInteger
a_cast_to_whole_numbers = refl

no_casts_to_other_types : cast_to other_types (c 6) ≡ every other_types (fault 6 0)
no_casts_to_other_types = refl

no_casts_of_predicates : cast_to integer_types (less 8) ≡ every integer_types (fault 6 0)
no_casts_of_predicates = refl

no_cast_of_a_predicate_to_whole_numbers : sort_of (Cast (at 0) Integers (less 11)) ≡ fault 6 0
no_cast_of_a_predicate_to_whole_numbers = refl

no_cast_to_an_unknown_name : sort_of (Cast (at 0) (OfC (Named 37)) (c 9)) ≡ fault 5 0
no_cast_to_an_unknown_name = refl

-- ---- `sizeof` wants a type that has a size, and is its number

abbrev size : PlainType → Checked Sorted
size t = typed_form (in_body sight) (SizeOf (at 0) t)

abbrev bytes : ℕ → Checked Sorted
bytes n = Good (ATerm (number (pos n) 0))

sizes : map size (char ∷ int ∷ unsigned_long ∷ Ptr Void ∷ Ptr struct_u ∷ StructTag 34 (at 14) ∷ Array struct_s (Count 3) ∷ []) ≡ bytes 1 ∷ bytes 4 ∷ bytes 8 ∷ bytes 8 ∷ bytes 8 ∷ bytes 16 ∷ bytes 48 ∷ []
sizes = refl

-- sizeof(int [N])
a_size_with_a_constant : size (Array int (Written (three 11))) ≡ bytes 12
a_size_with_a_constant = refl

no_size_of_void : size Void ≡ fault 6 0
no_size_of_void = refl

no_size_of_an_unknown_struct : size (StructTag 36 (at 14)) ≡ fault 5 0
no_size_of_an_unknown_struct = refl

-- ---- clauses are predicates

a_clause_of_a_predicate : typed_clause (in_body sight) Assert (Raw (Truth (at 0) true)) ≡ Good (Holds (logic.Truth (at 0) true))
a_clause_of_a_predicate = refl

a_clause_of_an_integer : typed_clause (in_body sight) Assert (Raw (c 0)) ≡ Good (Holds (logic.NonZero (at 0) (c_at 0)))
a_clause_of_an_integer = refl
