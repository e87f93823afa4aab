-- Quantifiers and clauses of loops with what is read of them, by computation (ACSL 2.2, 2.4.2).
use Rattle.std.proofs.Common.{◌≡◌, ℕ, suc, ◌+◌, List, [], ◌∷◌, ◌++◌, length, Ok, Err, Option, Some, None, refl}
use Rattle.grammar.specs.Syntax.{At}
use Rattle.c_syntax.specs.declared.place.Place.{Place}
use Rattle.c_syntax.specs.declared.types.CInt.TheVariants.{I32, U32}
use Rattle.c_syntax.specs.declared.annotation.Kind.{Kind}
use Rattle.c_syntax.specs.declared.annotation.Kind.TheVariants.{Requires, Invariant, Variant}
use Rattle.c_syntax.specs.declared.annotation.Relation.TheVariants.{Lt}
use Rattle.c_syntax.specs.declared.expression.UnOp.TheVariants.{Not}
use Rattle.c_syntax.specs.declared.logic.Connective.TheVariants.{And, Implies}
use Rattle.c_syntax.specs.declared.logic.MemoryQuestion.TheVariants.{Valid}
use Rattle.c_syntax.specs.declared.logic.Quantifier.TheVariants.{ForAll, Exists}
use Rattle.c_syntax.specs.Ctypes as ctype
use Rattle.c_syntax.specs.Ctypes.{Int, EnumTag}
use Rattle.c_syntax.specs.Formulas.{Integers, OfC, Form, Name, Unary, Chain, Connected, Choice, NoLink, Linked, Asks, Object, Elements, Quantified}
use Rattle.c_syntax.specs.Logic.{Annotation, Raw}
use Rattle.c_syntax.specs.Tokens as token
use Rattle.c_syntax.specs.Tokens.{PlainTokenKind, PlainToken}
use Rattle.c_model.specs.declared.vocabulary.ClauseWord.TheVariants as clause_word
use Rattle.c_model.specs.declared.vocabulary.Keyword.TheVariants as keyword
use Rattle.c_model.specs.declared.vocabulary.LogicWord.TheVariants as logic
use Rattle.c_model.specs.declared.vocabulary.TypeName.TheVariants.{Declared}
use Rattle.c_model.specs.declared.vocabulary.Word.TheVariants as word
use Rattle.c_model.specs.Vocabulary.{Vocabulary}
use Rattle.c_model.specs.Punctuators.{less, and_and, implies, plus, exclamation, question, colon, semicolon, comma, left_paren, right_paren, dots}
use Rattle.c_model.specs.ExpressionGrammar.{use_of, integer_words, integer_word, enum_tag, typedef_name, closed}
use Rattle.c_model.specs.AnnotationGrammar as annotation
use Rattle.c_model.specs.AnnotationGrammar.{whole, zone, named_form, literal_form, sized_form, null_form, result_form, old_form, labelled_form, told_form, asked_form, next_zone, some_zones, separated_form, atom, worded, indexed, dotted, pointed}
use Rattle.c_model.specs.AnnotationGrammar.{postfix_once, placed_name, next_name, some_names, binder_type, binders, quantified}
use Rattle.c_model.specs.AnnotationGrammar.{postfixes, worded_postfix, cast_behind, cast_to_type, cast_to_integer, closed_postfix, parenthesised, behind_parenthesis, prefixed, bare_prefix, prefix_of, prefix, joined_once, joined_more, joined}
use Rattle.c_model.specs.AnnotationGrammar.{added_rest, ranged, behind_first, added_parenthesis, added, sum_once, sum_more, zone_sum, linked, links_of, links, chain_behind, chain_of, implied, implication_behind, implication_of, chosen_behind}
use Rattle.c_model.specs.AnnotationGrammar.{choice_behind, implication, form_of, forms}
use Rattle.c_model.specs.ClauseGrammar.{ReadAnnotation, Contracted, Looped, clause_with, form_clause, full_clause, next_clause, more_clauses, asserts, assigns, full_assigns, looped, loop_assigns, loop_clause, full_loop_clause}
use Rattle.c_model.specs.ClauseGrammar.{next_loop_clause, more_loop_clauses, loop_clauses, next_own, more_owns, placed_own, behavior, next_behavior, more_behaviors, behaviors_and_covers, next_cover, more_covers, own_first, behavior_first}
use Rattle.c_model.specs.ClauseGrammar.{cover_first, cover_clause, full_cover, contract, clauses, annotations}

-- a place in a text of one line in which each token has one column
abbrev at : ℕ → Place
at n = record { line = 1; column = n + 1; offset = n }

abbrev tokens_from : ℕ → List PlainTokenKind → List PlainToken
tokens_from n [] = []
tokens_from n (k ∷ ks) = record { kind = k; place = at n } ∷ tokens_from (suc n) ks

-- ---- words

abbrev a : PlainTokenKind
a = token.Word 0

abbrev b : PlainTokenKind
b = token.Word 1

abbrev i : PlainTokenKind
i = token.Word 2

abbrev j : PlainTokenKind
j = token.Word 3

abbrev forall : PlainTokenKind
forall = token.Word 4

abbrev exists : PlainTokenKind
exists = token.Word 5

abbrev integer : PlainTokenKind
integer = token.Word 6

abbrev int : PlainTokenKind
int = token.Word 7

abbrev unsigned : PlainTokenKind
unsigned = token.Word 8

abbrev enum : PlainTokenKind
enum = token.Word 9

abbrev const : PlainTokenKind
const = token.Word 10

abbrev type_word : PlainTokenKind
type_word = token.Word 11

abbrev valid : PlainTokenKind
valid = token.Word 12

abbrev assert : PlainTokenKind
assert = token.Word 13

abbrev requires : PlainTokenKind
requires = token.Word 14

abbrev loop : PlainTokenKind
loop = token.Word 15

abbrev invariant : PlainTokenKind
invariant = token.Word 16

abbrev variant : PlainTokenKind
variant = token.Word 17

abbrev assigns_word : PlainTokenKind
assigns_word = token.Word 18

abbrev ensures : PlainTokenKind
ensures = token.Word 19

abbrev words : Vocabulary
words = word.Name ∷ word.Name ∷ word.Name ∷ word.Name ∷ word.Logic (logic.Quantifier ForAll) ∷ word.Logic (logic.Quantifier Exists) ∷ word.Integer ∷ word.Keyword keyword.Int ∷ word.Keyword keyword.Unsigned ∷ word.Keyword keyword.Enum ∷ word.Keyword
    keyword.Const ∷ word.TypeName Declared ∷ word.Logic (logic.Asks Valid) ∷ word.Clause clause_word.Assert ∷ word.Clause clause_word.Requires ∷ word.Clause clause_word.Loop ∷ word.Clause clause_word.Invariant ∷ word.Clause clause_word.Variant ∷
    word.Clause clause_word.Assigns ∷ word.Clause clause_word.Ensures ∷ []

abbrev semi : PlainTokenKind
semi = token.Mark semicolon

abbrev left : PlainTokenKind
left = token.Mark left_paren

abbrev right : PlainTokenKind
right = token.Mark right_paren

-- the name with this number at this place
abbrev name : ℕ → ℕ → Form
name n p = Name (at p) (use_of n)

-- a relation between two forms
abbrev related : ℕ → Form → Form → Form
related p x y = Chain (at p) x (Linked (at p) Lt y NoLink)

abbrev says : ℕ → Kind → ℕ → Form → Annotation
says n k p f = clause_with n k (at p) (Raw f)

-- ---- quantifiers

-- the form is what is read before ")"
abbrev AreRead : List (List PlainTokenKind × Form) → Type 0
AreRead [] = Unit {0}
AreRead (x ∷ xs) = ((annotation.form words).parse (tokens_from 0 (x.0 ++ right ∷ [])) ≡ Ok (x.1, tokens_from (length x.0) (right ∷ []))) × AreRead xs

-- \forall integer i; a < i && b,   \exists unsigned int i, j; a ? i : j,   a && \forall enum b i; a ==> b,   !\exists type i; a < i,   (\forall int i; a) && b,   \forall int i; \exists int j; i < j,   \valid(\forall int i; a + (i .. b)),
-- \valid(\forall int i; a)
quantifiers_are_read : AreRead (
    (forall ∷ integer ∷ i ∷ semi ∷ a ∷ token.Mark less ∷ i ∷ token.Mark and_and ∷ b ∷ [], Quantified (at 0) ForAll Integers ((at 2, 2) ∷ []) (Connected (at 7) And (related 5 (name 0 4) (name 2 6)) (name 1 8)))
    ∷ (exists ∷ unsigned ∷ int ∷ i ∷ token.Mark comma ∷ j ∷ semi ∷ a ∷ token.Mark question ∷ i ∷ token.Mark colon ∷ j ∷ [], Quantified (at 0) Exists (OfC (Int U32)) ((at 3, 2) ∷ (at 5, 3) ∷ []) (Choice (at 8) (name 0 7) (name 2 9) (name 3 11)))
    ∷ (a ∷ token.Mark and_and ∷ forall ∷ enum ∷ b ∷ i ∷ semi ∷ a ∷ token.Mark implies ∷ b ∷ [], Connected (at 1) And (name 0 0) (Quantified (at 2) ForAll (OfC (EnumTag 1 (at 4))) ((at 5, 2) ∷ []) (Connected (at 8) Implies (name 0 7) (name 1 9))))
    ∷ (token.Mark exclamation ∷ exists ∷ type_word ∷ i ∷ semi ∷ a ∷ token.Mark less ∷ i ∷ [], Unary (at 0) Not (Quantified (at 1) Exists (OfC (ctype.Named 11)) ((at 3, 2) ∷ []) (related 6 (name 0 5) (name 2 7))))
    ∷ (left ∷ forall ∷ int ∷ i ∷ semi ∷ a ∷ right ∷ token.Mark and_and ∷ b ∷ [], Connected (at 7) And (Quantified (at 1) ForAll (OfC (Int I32)) ((at 3, 2) ∷ []) (name 0 5)) (name 1 8))
    ∷ (forall ∷ int ∷ i ∷ semi ∷ exists ∷ int ∷ j ∷ semi ∷ i ∷ token.Mark less ∷ j ∷ [], Quantified (at 0) ForAll (OfC (Int I32)) ((at 2, 2) ∷ []) (Quantified (at 4) Exists (OfC (Int I32)) ((at 6, 3) ∷ []) (related 9 (name 2 8) (name 3 10))))
    ∷ (
      valid ∷ left ∷ forall ∷ int ∷ i ∷ semi ∷ a ∷ token.Mark plus ∷ left ∷ i ∷ token.Mark dots ∷ b ∷ right ∷ right ∷ [],
      Asks (at 0) Valid
          (Elements (at 7) (Quantified (at 2) ForAll (OfC (Int I32)) ((at 4, 2) ∷ []) (name 0 6)) (name 2 9) (name 1 11)),
    )
    ∷ (valid ∷ left ∷ forall ∷ int ∷ i ∷ semi ∷ a ∷ right ∷ [], Asks (at 0) Valid (Object (Quantified (at 2) ForAll (OfC (Int I32)) ((at 4, 2) ∷ []) (name 0 6))))
    ∷ [])
unfolding whole zone named_form literal_form sized_form null_form result_form old_form labelled_form told_form asked_form next_zone some_zones separated_form atom worded indexed dotted pointed postfix_once postfixes worded_postfix cast_behind
    cast_to_type cast_to_integer closed_postfix parenthesised behind_parenthesis prefixed bare_prefix prefix_of prefix joined_once joined_more joined added_rest ranged behind_first added_parenthesis added sum_once sum_more zone_sum linked
    links_of links chain_behind chain_of implied implication_behind implication_of chosen_behind choice_behind implication form_of forms placed_name next_name some_names binder_type binders quantified integer_words integer_word enum_tag
    typedef_name closed
quantifiers_are_read = (refl, (refl, (refl, (refl, (refl, (refl, (refl, (refl, tt))))))))

-- ---- annotations, whose clauses have numbers from 1 on

abbrev annotated : List PlainTokenKind → List PlainToken
annotated ks = tokens_from 0 (token.AnnotOpen ∷ ks ++ token.AnnotClose ∷ [])

abbrev AreAnnotations : List (List PlainTokenKind × ReadAnnotation × ℕ) → Type 0
AreAnnotations [] = Unit {0}
AreAnnotations (x ∷ xs) = ((annotations words 1).parse (annotated x.0) ≡ Ok ((x.1, x.2), [])) × AreAnnotations xs

abbrev loop_of : ℕ → List Annotation → Option Place → ReadAnnotation
loop_of p cs again = Looped (record { place = at p; clauses = cs; again = again })

-- loop invariant a;   loop assigns a, \forall (b; loop variant b; loop invariant a;   loop variant a; loop variant b; loop variant a;   loop assigns;   assigns a; requires b; assigns;
annotations_are_read : AreAnnotations (
    (loop ∷ invariant ∷ a ∷ semi ∷ [], loop_of 1 (says 1 Invariant 1 (name 0 3) ∷ []) None, 2)
    ∷ (loop ∷ assigns_word ∷ a ∷ token.Mark comma ∷ forall ∷ left ∷ b ∷ semi ∷ loop ∷ variant ∷ b ∷ semi ∷ loop ∷ invariant ∷ a ∷ semi ∷ [], loop_of 1 (says 1 Variant 9 (name 1 11) ∷ says 2 Invariant 13 (name 0 15) ∷ []) None, 3)
    ∷ (loop ∷ variant ∷ a ∷ semi ∷ loop ∷ variant ∷ b ∷ semi ∷ loop ∷ variant ∷ a ∷ semi ∷ [], loop_of 1 (says 1 Variant 1 (name 0 3) ∷ says 2 Variant 5 (name 1 7) ∷ says 3 Variant 9 (name 0 11) ∷ []) (Some (at 5)), 4)
    ∷ (loop ∷ assigns_word ∷ semi ∷ [], loop_of 1 [] None, 1)
    ∷ (assigns_word ∷ a ∷ semi ∷ requires ∷ b ∷ semi ∷ assigns_word ∷ semi ∷ [], Contracted (record { place = at 1; clauses = says 1 Requires 4 (name 1 5) ∷ []; behaviors = []; covers = [] }), 2)
    ∷ [])
unfolding whole zone named_form literal_form sized_form null_form result_form old_form labelled_form told_form asked_form next_zone some_zones separated_form atom worded indexed dotted pointed postfix_once postfixes worded_postfix cast_behind
    cast_to_type cast_to_integer closed_postfix parenthesised behind_parenthesis prefixed bare_prefix prefix_of prefix joined_once joined_more joined added_rest ranged behind_first added_parenthesis added sum_once sum_more zone_sum linked
    links_of links chain_behind chain_of implied implication_behind implication_of chosen_behind choice_behind implication form_of forms placed_name next_name some_names binder_type binders quantified integer_words integer_word enum_tag
    typedef_name closed form_clause full_clause next_clause more_clauses asserts assigns full_assigns looped loop_assigns loop_clause full_loop_clause next_loop_clause more_loop_clauses loop_clauses next_own more_owns placed_own behavior
    next_behavior
    more_behaviors behaviors_and_covers next_cover more_covers own_first behavior_first cover_first cover_clause full_cover contract clauses annotations
annotations_are_read = (refl, (refl, (refl, (refl, (refl, tt)))))

-- so many tokens are left at the first that can't follow
abbrev AreRefused : List (List PlainTokenKind × ℕ) → Type 0
AreRefused [] = Unit {0}
AreRefused (x ∷ xs) = ((annotations words 1).parse (annotated x.0) ≡ Err (At x.1)) × AreRefused xs

-- assert \forall const int i; a;   assert \forall int; a;   assert \forall int i a;   assert \forall i; a;   assert \forall int i, int j; a;   loop a;   loop invariant a; assert b;   assert b; loop invariant a;   invariant a;   loop assigns a
-- requires a; loop invariant a;
annotations_are_refused : AreRefused (
    (assert ∷ forall ∷ const ∷ int ∷ i ∷ semi ∷ a ∷ semi ∷ [], 7)
    ∷ (assert ∷ forall ∷ int ∷ semi ∷ a ∷ semi ∷ [], 4)
    ∷ (assert ∷ forall ∷ int ∷ i ∷ a ∷ semi ∷ [], 3)
    ∷ (assert ∷ forall ∷ i ∷ semi ∷ a ∷ semi ∷ [], 5)
    ∷ (assert ∷ forall ∷ int ∷ i ∷ token.Mark comma ∷ int ∷ j ∷ semi ∷ a ∷ semi ∷ [], 6)
    ∷ (loop ∷ a ∷ semi ∷ [], 3)
    ∷ (loop ∷ invariant ∷ a ∷ semi ∷ assert ∷ b ∷ semi ∷ [], 4)
    ∷ (assert ∷ b ∷ semi ∷ loop ∷ invariant ∷ a ∷ semi ∷ [], 5)
    ∷ (invariant ∷ a ∷ semi ∷ [], 4)
    ∷ (loop ∷ assigns_word ∷ a ∷ [], 1)
    ∷ (requires ∷ a ∷ semi ∷ loop ∷ invariant ∷ a ∷ semi ∷ [], 5)
    ∷ [])
unfolding whole zone named_form literal_form sized_form null_form result_form old_form labelled_form told_form asked_form next_zone some_zones separated_form atom worded indexed dotted pointed postfix_once postfixes worded_postfix cast_behind
    cast_to_type cast_to_integer closed_postfix parenthesised behind_parenthesis prefixed bare_prefix prefix_of prefix joined_once joined_more joined added_rest ranged behind_first added_parenthesis added sum_once sum_more zone_sum linked
    links_of links chain_behind chain_of implied implication_behind implication_of chosen_behind choice_behind implication form_of forms placed_name next_name some_names binder_type binders quantified integer_words integer_word enum_tag
    typedef_name closed form_clause full_clause next_clause more_clauses asserts assigns full_assigns looped loop_assigns loop_clause full_loop_clause next_loop_clause more_loop_clauses loop_clauses next_own more_owns placed_own behavior
    next_behavior
    more_behaviors behaviors_and_covers next_cover more_covers own_first behavior_first cover_first cover_clause full_cover contract clauses annotations
annotations_are_refused = (refl, (refl, (refl, (refl, (refl, (refl, (refl, (refl, (refl, (refl, (refl, tt)))))))))))
