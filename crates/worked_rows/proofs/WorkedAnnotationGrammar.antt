-- Forms and asserts with what is read of them, by computation (ACSL 2.2, 2.4.1).
use Rattle.std.proofs.Common.{◌≡◌, ℕ, suc, ◌+◌, true, List, [], ◌∷◌, ◌++◌, length, Ok, Err, refl}
use Rattle.grammar.specs.Syntax.{At}
use Rattle.c_syntax.specs.declared.place.Place.{Place}
use Rattle.c_syntax.specs.declared.types.CInt.TheVariants.{I32}
use Rattle.c_syntax.specs.declared.expression.BinOp.TheVariants.{Add, Sub, Mul, Shl, BitAnd, BitOr}
use Rattle.c_syntax.specs.declared.expression.UnOp.TheVariants.{Minus, Not}
use Rattle.c_syntax.specs.declared.annotation.Relation.TheVariants.{Lt, Le, Gt, Eq, Ne}
use Rattle.c_syntax.specs.declared.logic.Connective.TheVariants.{And, Xor, Or, Implies, Iff}
use Rattle.c_syntax.specs.Ctypes.{Int}
use Rattle.c_syntax.specs.Formulas.{Integers, OfC, Form, Truth, Name, Unary, Binary, Cast, SizeOf, Chain, Connected, Choice, NoLink, Linked}
use Rattle.c_syntax.specs.declared.annotation.Kind.TheVariants.{Assert}
use Rattle.c_syntax.specs.Logic.{Annotation, Raw}
use Rattle.c_syntax.specs.Tokens as token
use Rattle.c_syntax.specs.Tokens.{PlainTokenKind, PlainToken}
use Rattle.c_model.specs.declared.vocabulary.ClauseWord.TheVariants as clause_word
use Rattle.c_model.specs.declared.vocabulary.Keyword.TheVariants as keyword
use Rattle.c_model.specs.declared.vocabulary.LogicWord.TheVariants as logic
use Rattle.c_model.specs.declared.vocabulary.Word.TheVariants as word
use Rattle.c_model.specs.Vocabulary.{Vocabulary}
use Rattle.c_model.specs.Punctuators.{shift_left, less_equal, equal, not_equal, and_and, or_or, plus, minus, times, less, greater, exclamation, ampersand}
use Rattle.c_model.specs.Punctuators.{bar, question, colon, semicolon, left_paren, right_paren, equivalent, implies, caret_caret}
use Rattle.c_model.specs.ExpressionGrammar.{use_of, integer_words, integer_word, untagged_base, base, consts, type_words, star_words, brackets, type_name, closed}
use Rattle.c_model.specs.AnnotationGrammar.{whole, zone, named_form, literal_form, sized_form, null_form, told_form, asked_form, next_zone, some_zones, separated_form, atom, worded, indexed, dotted, pointed, postfix_once, postfixes, worded_postfix}
use Rattle.c_model.specs.AnnotationGrammar.{cast_behind, cast_to_type, cast_to_integer, closed_postfix, parenthesised, behind_parenthesis, prefixed, bare_prefix, prefix_of, prefix, joined_once, joined_more, joined, added_rest}
use Rattle.c_model.specs.AnnotationGrammar.{ranged, behind_first}
use Rattle.c_model.specs.AnnotationGrammar.{added_parenthesis, added, sum_once, sum_more, zone_sum, linked, links_of, links, chain_behind, chain_of, implied, implication_behind, implication_of, chosen_behind, choice_behind, implication}
use Rattle.c_model.specs.AnnotationGrammar.{form_of, forms, form}
use Rattle.c_model.specs.AnnotationGrammar.{result_form, old_form, labelled_form}
use Rattle.c_model.specs.ClauseGrammar.{Assertions, clause_with, form_clause, full_clause, next_clause, more_clauses, asserts, clauses, annotations}

-- a place in a text of one line in which each token has one column
abbrev at : ℕ → Place
at n = record { line = 1; column = n + 1; offset = n }

abbrev tokens_from : ℕ → List PlainTokenKind → List PlainToken
tokens_from n [] = []
tokens_from n (k ∷ ks) = record { kind = k; place = at n } ∷ tokens_from (suc n) ks

-- names
abbrev a : PlainTokenKind
a = token.Word 0

abbrev b : PlainTokenKind
b = token.Word 1

abbrev c : PlainTokenKind
c = token.Word 2

abbrev d : PlainTokenKind
d = token.Word 3

-- other words
abbrev integer : PlainTokenKind
integer = token.Word 4

abbrev int : PlainTokenKind
int = token.Word 5

abbrev true_word : PlainTokenKind
true_word = token.Word 6

abbrev assert : PlainTokenKind
assert = token.Word 7

abbrev sizeof_word : PlainTokenKind
sizeof_word = token.Word 8

abbrev old_word : PlainTokenKind
old_word = token.Word 9

abbrev words : Vocabulary
words = word.Name ∷ word.Name ∷ word.Name ∷ word.Name ∷ word.Integer ∷ word.Keyword keyword.Int ∷ word.Logic (logic.Truth true) ∷ word.Clause clause_word.Assert
    ∷ word.Keyword keyword.Sizeof ∷ word.Logic logic.Kept ∷ []

-- the assert with the number n at this place
abbrev assertion : ℕ → Place → Form → Annotation
assertion n p f = clause_with n Assert p (Raw f)

-- the name with this number at this place
abbrev name : ℕ → ℕ → Form
name n p = Name (at p) (use_of n)

-- the form is what is read before ";"
abbrev IsReadAs : List PlainTokenKind → Form → Type 0
IsReadAs ks f = (form words).parse (tokens_from 0 (ks ++ token.Mark semicolon ∷ [])) ≡ Ok (f, tokens_from (length ks) (token.Mark semicolon ∷ []))

abbrev AreRead : List (List PlainTokenKind × Form) → Type 0
AreRead [] = Unit {0}
AreRead (x ∷ xs) = IsReadAs x.0 x.1 × AreRead xs

-- of an assert of these tokens, so many are left at the first that can't follow, with ";" and the annotation's end
abbrev AreRefused : List (List PlainTokenKind × ℕ) → Type 0
AreRefused [] = Unit {0}
AreRefused (x ∷ xs) = ((annotations words 1).parse (tokens_from 0 (token.AnnotOpen ∷ assert ∷ x.0 ++ token.Mark semicolon ∷ token.AnnotClose ∷ [])) ≡ Err (At x.1)) × AreRefused xs

-- ---- how operators bind, and how they join

-- a + b * c, a * b + c, a - b - c, a << b + c, -a * b, a & b == c, a | b & c, ! a && b
operators_bind : AreRead (
    (a ∷ token.Mark plus ∷ b ∷ token.Mark times ∷ c ∷ [], Binary (at 1) Add (name 0 0) (Binary (at 3) Mul (name 1 2) (name 2 4)))
    ∷ (a ∷ token.Mark times ∷ b ∷ token.Mark plus ∷ c ∷ [], Binary (at 3) Add (Binary (at 1) Mul (name 0 0) (name 1 2)) (name 2 4))
    ∷ (a ∷ token.Mark minus ∷ b ∷ token.Mark minus ∷ c ∷ [], Binary (at 3) Sub (Binary (at 1) Sub (name 0 0) (name 1 2)) (name 2 4))
    ∷ (a ∷ token.Mark shift_left ∷ b ∷ token.Mark plus ∷ c ∷ [], Binary (at 1) Shl (name 0 0) (Binary (at 3) Add (name 1 2) (name 2 4)))
    ∷ (token.Mark minus ∷ a ∷ token.Mark times ∷ b ∷ [], Binary (at 2) Mul (Unary (at 0) Minus (name 0 1)) (name 1 3))
    ∷ (a ∷ token.Mark ampersand ∷ b ∷ token.Mark equal ∷ c ∷ [], Binary (at 1) BitAnd (name 0 0) (Chain (at 3) (name 1 2) (Linked (at 3) Eq (name 2 4) NoLink)))
    ∷ (a ∷ token.Mark bar ∷ b ∷ token.Mark ampersand ∷ c ∷ [], Binary (at 1) BitOr (name 0 0) (Binary (at 3) BitAnd (name 1 2) (name 2 4)))
    ∷ (token.Mark exclamation ∷ a ∷ token.Mark and_and ∷ b ∷ [], Connected (at 2) And (Unary (at 0) Not (name 0 1)) (name 1 3))
    ∷ [])
unfolding whole zone named_form literal_form sized_form null_form result_form old_form labelled_form told_form asked_form next_zone some_zones separated_form atom worded indexed dotted pointed postfix_once postfixes worded_postfix cast_behind
    cast_to_type cast_to_integer
    closed_postfix parenthesised behind_parenthesis prefixed bare_prefix prefix_of prefix joined_once joined_more joined added_rest ranged behind_first added_parenthesis added sum_once sum_more zone_sum linked links_of links
    chain_behind chain_of implied implication_behind implication_of chosen_behind choice_behind implication form_of forms
operators_bind = (refl, (refl, (refl, (refl, (refl, (refl, (refl, (refl, tt))))))))

-- a || b && c, a ^^ b || c, a || b ==> c, a ==> b ==> c, a <==> b <==> c, a ==> b <==> c
connectives_bind : AreRead (
    (a ∷ token.Mark or_or ∷ b ∷ token.Mark and_and ∷ c ∷ [], Connected (at 1) Or (name 0 0) (Connected (at 3) And (name 1 2) (name 2 4)))
    ∷ (a ∷ token.Mark caret_caret ∷ b ∷ token.Mark or_or ∷ c ∷ [], Connected (at 3) Or (Connected (at 1) Xor (name 0 0) (name 1 2)) (name 2 4))
    ∷ (a ∷ token.Mark or_or ∷ b ∷ token.Mark implies ∷ c ∷ [], Connected (at 3) Implies (Connected (at 1) Or (name 0 0) (name 1 2)) (name 2 4))
    ∷ (a ∷ token.Mark implies ∷ b ∷ token.Mark implies ∷ c ∷ [], Connected (at 1) Implies (name 0 0) (Connected (at 3) Implies (name 1 2) (name 2 4)))
    ∷ (a ∷ token.Mark equivalent ∷ b ∷ token.Mark equivalent ∷ c ∷ [], Connected (at 3) Iff (Connected (at 1) Iff (name 0 0) (name 1 2)) (name 2 4))
    ∷ (a ∷ token.Mark implies ∷ b ∷ token.Mark equivalent ∷ c ∷ [], Connected (at 3) Iff (Connected (at 1) Implies (name 0 0) (name 1 2)) (name 2 4))
    ∷ [])
unfolding whole zone named_form literal_form sized_form null_form result_form old_form labelled_form told_form asked_form next_zone some_zones separated_form atom worded indexed dotted pointed postfix_once postfixes worded_postfix cast_behind
    cast_to_type cast_to_integer
    closed_postfix parenthesised behind_parenthesis prefixed bare_prefix prefix_of prefix joined_once joined_more joined added_rest ranged behind_first added_parenthesis added sum_once sum_more zone_sum linked links_of links
    chain_behind chain_of implied implication_behind implication_of chosen_behind choice_behind implication form_of forms
connectives_bind = (refl, (refl, (refl, (refl, (refl, (refl, tt))))))

-- a ? b : c ? a : d, and a ==> b ? c : d
choices_bind : AreRead (
    (a ∷ token.Mark question ∷ b ∷ token.Mark colon ∷ c ∷ token.Mark question ∷ a ∷ token.Mark colon ∷ d ∷ [], Choice (at 1) (name 0 0) (name 1 2) (Choice (at 5) (name 2 4) (name 0 6) (name 3 8)))
    ∷ (a ∷ token.Mark implies ∷ b ∷ token.Mark question ∷ c ∷ token.Mark colon ∷ d ∷ [], Choice (at 3) (Connected (at 1) Implies (name 0 0) (name 1 2)) (name 2 4) (name 3 6))
    ∷ [])
unfolding whole zone named_form literal_form sized_form null_form result_form old_form labelled_form told_form asked_form next_zone some_zones separated_form atom worded indexed dotted pointed postfix_once postfixes worded_postfix cast_behind
    cast_to_type cast_to_integer
    closed_postfix parenthesised behind_parenthesis prefixed bare_prefix prefix_of prefix joined_once joined_more joined added_rest ranged behind_first added_parenthesis added sum_once sum_more zone_sum linked links_of links
    chain_behind chain_of implied implication_behind implication_of chosen_behind choice_behind implication form_of forms
choices_bind = (refl, (refl, tt))

-- ---- chains of relations

-- a < b <= c == d, a == b > c, a != b, (a < b) > c
chains_are_read : AreRead (
    (a ∷ token.Mark less ∷ b ∷ token.Mark less_equal ∷ c ∷ token.Mark equal ∷ d ∷ [], Chain (at 1) (name 0 0) (Linked (at 1) Lt (name 1 2) (Linked (at 3) Le (name 2 4) (Linked (at 5) Eq (name 3 6) NoLink))))
    ∷ (a ∷ token.Mark equal ∷ b ∷ token.Mark greater ∷ c ∷ [], Chain (at 1) (name 0 0) (Linked (at 1) Eq (name 1 2) (Linked (at 3) Gt (name 2 4) NoLink)))
    ∷ (a ∷ token.Mark not_equal ∷ b ∷ [], Chain (at 1) (name 0 0) (Linked (at 1) Ne (name 1 2) NoLink))
    ∷ (token.Mark left_paren ∷ a ∷ token.Mark less ∷ b ∷ token.Mark right_paren ∷ token.Mark greater ∷ c ∷ [], Chain (at 5) (Chain (at 2) (name 0 1) (Linked (at 2) Lt (name 1 3) NoLink)) (Linked (at 5) Gt (name 2 6) NoLink))
    ∷ [])
unfolding whole zone named_form literal_form sized_form null_form result_form old_form labelled_form told_form asked_form next_zone some_zones separated_form atom worded indexed dotted pointed postfix_once postfixes worded_postfix cast_behind
    cast_to_type cast_to_integer
    closed_postfix parenthesised behind_parenthesis prefixed bare_prefix prefix_of prefix joined_once joined_more joined added_rest ranged behind_first added_parenthesis added sum_once sum_more zone_sum linked links_of links
    chain_behind chain_of implied implication_behind implication_of chosen_behind choice_behind implication form_of forms closed
chains_are_read = (refl, (refl, (refl, (refl, tt))))

-- at the second relation: a < b > c, a == b != c, a != b == c, a != b != c
chains_go_one_way : AreRefused (
    (a ∷ token.Mark less ∷ b ∷ token.Mark greater ∷ c ∷ [], 4)
    ∷ (a ∷ token.Mark equal ∷ b ∷ token.Mark not_equal ∷ c ∷ [], 4)
    ∷ (a ∷ token.Mark not_equal ∷ b ∷ token.Mark equal ∷ c ∷ [], 4)
    ∷ (a ∷ token.Mark not_equal ∷ b ∷ token.Mark not_equal ∷ c ∷ [], 4)
    ∷ [])
unfolding whole zone named_form literal_form sized_form null_form result_form old_form labelled_form told_form asked_form next_zone some_zones separated_form atom worded indexed dotted pointed postfix_once postfixes worded_postfix cast_behind
    cast_to_type cast_to_integer
    closed_postfix parenthesised behind_parenthesis prefixed bare_prefix prefix_of prefix joined_once joined_more joined added_rest ranged behind_first added_parenthesis added sum_once sum_more zone_sum linked links_of links
    chain_behind chain_of implied implication_behind implication_of chosen_behind choice_behind implication form_of forms form_clause full_clause next_clause more_clauses asserts clauses annotations
chains_go_one_way = (refl, (refl, (refl, (refl, tt))))

-- ---- casts, `sizeof` and words

-- (int) a + b, (integer) - a, sizeof (int), \true && assert
casts_and_words : AreRead (
    (token.Mark left_paren ∷ int ∷ token.Mark right_paren ∷ a ∷ token.Mark plus ∷ b ∷ [], Binary (at 4) Add (Cast (at 0) (OfC (Int I32)) (name 0 3)) (name 1 5))
    ∷ (token.Mark left_paren ∷ integer ∷ token.Mark right_paren ∷ token.Mark minus ∷ a ∷ [], Cast (at 0) Integers (Unary (at 3) Minus (name 0 4)))
    ∷ (sizeof_word ∷ token.Mark left_paren ∷ int ∷ token.Mark right_paren ∷ [], SizeOf (at 0) (Int I32))
    ∷ (true_word ∷ token.Mark and_and ∷ assert ∷ [], Connected (at 1) And (Truth (at 0) true) (name 7 2))
    ∷ [])
unfolding whole zone named_form literal_form sized_form null_form result_form old_form labelled_form told_form asked_form next_zone some_zones separated_form atom worded indexed dotted pointed postfix_once postfixes worded_postfix cast_behind
    cast_to_type cast_to_integer
    closed_postfix parenthesised behind_parenthesis prefixed bare_prefix prefix_of prefix joined_once joined_more joined added_rest ranged behind_first added_parenthesis added sum_once sum_more zone_sum linked links_of links
    chain_behind chain_of implied implication_behind implication_of chosen_behind choice_behind implication form_of forms closed type_name type_words consts base untagged_base integer_words integer_word star_words brackets
casts_and_words = (refl, (refl, (refl, (refl, tt))))

-- a word that can't stand there: integer, a == integer, int, (a) b, \old (a)
words_are_refused : AreRefused (
    (integer ∷ [], 3)
    ∷ (a ∷ token.Mark equal ∷ integer ∷ [], 3)
    ∷ (int ∷ [], 3)
    ∷ (token.Mark left_paren ∷ a ∷ token.Mark right_paren ∷ b ∷ [], 3)
    ∷ (old_word ∷ token.Mark left_paren ∷ a ∷ token.Mark right_paren ∷ [], 6)
    ∷ [])
unfolding whole zone named_form literal_form sized_form null_form result_form old_form labelled_form told_form asked_form next_zone some_zones separated_form atom worded indexed dotted pointed postfix_once postfixes worded_postfix cast_behind
    cast_to_type cast_to_integer
    closed_postfix parenthesised behind_parenthesis prefixed bare_prefix prefix_of prefix joined_once joined_more joined added_rest ranged behind_first added_parenthesis added sum_once sum_more zone_sum linked links_of links
    chain_behind chain_of implied implication_behind implication_of chosen_behind choice_behind implication form_of forms closed form_clause full_clause next_clause more_clauses asserts clauses annotations
words_are_refused = (refl, (refl, (refl, (refl, (refl, tt)))))

-- ---- annotations

-- the asserts of an annotation take numbers one after another: assert a; assert b;
two_asserts : (annotations words 3).parse (tokens_from 0 (token.AnnotOpen ∷ assert ∷ a ∷ token.Mark semicolon ∷ assert ∷ b ∷ token.Mark semicolon ∷ token.AnnotClose ∷ [])) ≡
    Ok ((Assertions (assertion 3 (at 1) (name 0 2) ∷ assertion 4 (at 4) (name 1 5) ∷ []), 5), [])
unfolding whole zone named_form literal_form sized_form null_form result_form old_form labelled_form told_form asked_form next_zone some_zones separated_form atom worded indexed dotted pointed postfix_once postfixes worded_postfix cast_behind
    cast_to_type cast_to_integer
    closed_postfix parenthesised behind_parenthesis prefixed bare_prefix prefix_of prefix joined_once joined_more joined added_rest ranged behind_first added_parenthesis added sum_once sum_more zone_sum linked links_of links
    chain_behind chain_of implied implication_behind implication_of chosen_behind choice_behind implication form_of forms form_clause full_clause next_clause more_clauses asserts clauses annotations
two_asserts = refl
