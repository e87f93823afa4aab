-- Forms of pointers, places and zones with what is read of them, by computation (ACSL 2.2, 2.7).
use Rattle.std.proofs.Common.{◌≡◌, ℕ, suc, ◌+◌, List, [], ◌∷◌, ◌++◌, length, Ok, Err, refl}
use Rattle.grammar.specs.Syntax.{At}
use Rattle.c_syntax.specs.declared.place.Place.{Place}
use Rattle.c_syntax.specs.declared.types.CInt.TheVariants.{I32}
use Rattle.c_syntax.specs.declared.expression.BinOp.TheVariants.{Add, Sub, Mul, Shl}
use Rattle.c_syntax.specs.declared.expression.UnOp.TheVariants.{Deref, Address}
use Rattle.c_syntax.specs.declared.annotation.Relation.TheVariants.{Eq}
use Rattle.c_syntax.specs.declared.logic.BlockFact.TheVariants.{BaseAddr, BlockLength, Offset}
use Rattle.c_syntax.specs.declared.logic.Connective.TheVariants.{And}
use Rattle.c_syntax.specs.declared.logic.MemoryQuestion.TheVariants.{Valid, ValidRead, Initialized}
use Rattle.c_syntax.specs.Ctypes.{Int}
use Rattle.c_syntax.specs.Formulas.{Integers, OfC, Form, Name, Unary, Binary, Cast, Chain, Connected, Choice, NoLink, Linked, Null, Index, Dot, Arrow, Told, Asks, Separated, Object, Elements, NoZone, Another}
use Rattle.c_syntax.specs.Tokens as token
use Rattle.c_syntax.specs.Tokens.{PlainTokenKind, PlainToken, Mark}
use Rattle.c_model.specs.declared.vocabulary.ClauseWord.TheVariants as clause_word
use Rattle.c_model.specs.declared.vocabulary.Keyword.TheVariants as keyword
use Rattle.c_model.specs.declared.vocabulary.LogicWord.TheVariants as logic
use Rattle.c_model.specs.declared.vocabulary.TypeName.TheVariants.{Declared}
use Rattle.c_model.specs.declared.vocabulary.Word.TheVariants as word
use Rattle.c_model.specs.Vocabulary.{Vocabulary}
use Rattle.c_model.specs.Punctuators.{shift_left, equal, and_and, plus, minus, times, less, ampersand, question, colon, semicolon, left_paren, right_paren, left_bracket, right_bracket, dot, arrow, comma, dots}
use Rattle.c_model.specs.ExpressionGrammar.{use_of, integer_words, integer_word, untagged_base, base, consts, type_words, star_words, brackets, type_name, closed}
use Rattle.c_model.specs.AnnotationGrammar.{whole, zone, named_form, literal_form, sized_form, null_form, told_form, asked_form, next_zone, some_zones, separated_form, atom, worded, indexed, dotted, pointed, postfix_once, postfixes, worded_postfix}
use Rattle.c_model.specs.AnnotationGrammar.{cast_behind, cast_to_type, cast_to_integer, closed_postfix, parenthesised, behind_parenthesis, prefixed, bare_prefix, prefix_of, prefix, joined_once, joined_more, joined, added_rest}
use Rattle.c_model.specs.AnnotationGrammar.{ranged, behind_first}
use Rattle.c_model.specs.AnnotationGrammar.{added_parenthesis, added, sum_once, sum_more, zone_sum, linked, links_of, links, chain_behind, chain_of, implied, implication_behind, implication_of, chosen_behind, choice_behind, implication}
use Rattle.c_model.specs.AnnotationGrammar.{form_of, forms, form}
use Rattle.c_model.specs.AnnotationGrammar.{result_form, old_form, labelled_form}
use Rattle.c_model.specs.ClauseGrammar.{form_clause, full_clause, next_clause, more_clauses, asserts, clauses, annotations}

-- a place in a text of one line in which each token has one column
abbrev at : ℕ → Place
at n = record { line = 1; column = n + 1; offset = n }

abbrev tokens_from : ℕ → List PlainTokenKind → List PlainToken
tokens_from n [] = []
tokens_from n (k ∷ ks) = record { kind = k; place = at n } ∷ tokens_from (suc n) ks

abbrev a : PlainTokenKind
a = token.Word 0

abbrev b : PlainTokenKind
b = token.Word 1

abbrev c : PlainTokenKind
c = token.Word 2

abbrev d : PlainTokenKind
d = token.Word 3

abbrev integer : PlainTokenKind
integer = token.Word 4

abbrev int : PlainTokenKind
int = token.Word 5

abbrev assert : PlainTokenKind
assert = token.Word 6

abbrev null : PlainTokenKind
null = token.Word 7

abbrev base_word : PlainTokenKind
base_word = token.Word 8

abbrev length_word : PlainTokenKind
length_word = token.Word 9

abbrev offset_word : PlainTokenKind
offset_word = token.Word 10

abbrev valid : PlainTokenKind
valid = token.Word 11

abbrev valid_read : PlainTokenKind
valid_read = token.Word 12

abbrev initialized : PlainTokenKind
initialized = token.Word 13

abbrev separated : PlainTokenKind
separated = token.Word 14

abbrev declared : PlainTokenKind
declared = token.Word 15

abbrev words : Vocabulary
words = word.Name ∷ word.Name ∷ word.Name ∷ word.Name ∷ word.Integer ∷ word.Keyword keyword.Int ∷ word.Clause clause_word.Assert ∷ word.Logic logic.Null ∷ word.Logic (logic.Told BaseAddr) ∷ word.Logic (logic.Told BlockLength)
    ∷ word.Logic (logic.Told Offset) ∷ word.Logic (logic.Asks Valid) ∷ word.Logic (logic.Asks ValidRead) ∷ word.Logic (logic.Asks Initialized) ∷ word.Logic logic.Separated ∷ word.TypeName Declared ∷ []

-- the name with this number at this place
abbrev name : ℕ → ℕ → Form
name n p = Name (at p) (use_of n)

-- the form is what is read before ";"
abbrev IsReadAs : List PlainTokenKind → Form → Type 0
IsReadAs ks f = (form words).parse (tokens_from 0 (ks ++ Mark semicolon ∷ [])) ≡ Ok (f, tokens_from (length ks) (Mark semicolon ∷ []))

abbrev AreRead : List (List PlainTokenKind × Form) → Type 0
AreRead [] = Unit {0}
AreRead (x ∷ xs) = IsReadAs x.0 x.1 × AreRead xs

-- of an assert of these tokens, so many are left at the first that can't follow, with ";" and the annotation's end
abbrev AreRefused : List (List PlainTokenKind × ℕ) → Type 0
AreRefused [] = Unit {0}
AreRefused (x ∷ xs) = ((annotations words 1).parse (tokens_from 0 (token.AnnotOpen ∷ assert ∷ x.0 ++ Mark semicolon ∷ token.AnnotClose ∷ [])) ≡ Err (At x.1)) × AreRefused xs

-- ---- places and pointers

-- * a, & a, a [ b ], a . b, a -> b, * a [ b ], ( a ) [ b ] . c -> d, a [ b + c ] [ d ], \null
places_are_read : AreRead (
    (Mark times ∷ a ∷ [], Unary (at 0) Deref (name 0 1))
    ∷ (Mark ampersand ∷ a ∷ [], Unary (at 0) Address (name 0 1))
    ∷ (a ∷ Mark left_bracket ∷ b ∷ Mark right_bracket ∷ [], Index (at 1) (name 0 0) (name 1 2))
    ∷ (a ∷ Mark dot ∷ b ∷ [], Dot (at 1) (name 0 0) 1)
    ∷ (a ∷ Mark arrow ∷ b ∷ [], Arrow (at 1) (name 0 0) 1)
    ∷ (Mark times ∷ a ∷ Mark left_bracket ∷ b ∷ Mark right_bracket ∷ [], Unary (at 0) Deref (Index (at 2) (name 0 1) (name 1 3)))
    ∷ (Mark left_paren ∷ a ∷ Mark right_paren ∷ Mark left_bracket ∷ b ∷ Mark right_bracket ∷ Mark dot ∷ c ∷ Mark arrow ∷ d ∷ [], Arrow (at 8) (Dot (at 6) (Index (at 3) (name 0 1) (name 1 4)) 2) 3)
    ∷ (a ∷ Mark left_bracket ∷ b ∷ Mark plus ∷ c ∷ Mark right_bracket ∷ Mark left_bracket ∷ d ∷ Mark right_bracket ∷ [], Index (at 6) (Index (at 1) (name 0 0) (Binary (at 3) Add (name 1 2) (name 2 4))) (name 3 7))
    ∷ (null ∷ [], Null (at 0))
    ∷ [])
unfolding whole zone named_form literal_form sized_form null_form result_form old_form labelled_form told_form asked_form next_zone some_zones separated_form atom worded indexed dotted pointed postfix_once postfixes worded_postfix cast_behind
    cast_to_type cast_to_integer
    closed_postfix parenthesised behind_parenthesis prefixed bare_prefix prefix_of prefix joined_once joined_more joined added_rest ranged behind_first added_parenthesis added sum_once sum_more zone_sum linked links_of links
    chain_behind chain_of implied implication_behind implication_of chosen_behind choice_behind implication form_of forms closed type_name type_words consts base untagged_base integer_words integer_word star_words brackets
places_are_read = (refl, (refl, (refl, (refl, (refl, (refl, (refl, (refl, (refl, tt)))))))))

-- ( int ) a [ b ], & * a, a * * b, a - & b
prefixes_are_weaker : AreRead (
    (Mark left_paren ∷ int ∷ Mark right_paren ∷ a ∷ Mark left_bracket ∷ b ∷ Mark right_bracket ∷ [], Cast (at 0) (OfC (Int I32)) (Index (at 4) (name 0 3) (name 1 5)))
    ∷ (Mark ampersand ∷ Mark times ∷ a ∷ [], Unary (at 0) Address (Unary (at 1) Deref (name 0 2)))
    ∷ (a ∷ Mark times ∷ Mark times ∷ b ∷ [], Binary (at 1) Mul (name 0 0) (Unary (at 2) Deref (name 1 3)))
    ∷ (a ∷ Mark minus ∷ Mark ampersand ∷ b ∷ [], Binary (at 1) Sub (name 0 0) (Unary (at 2) Address (name 1 3)))
    ∷ [])
unfolding whole zone named_form literal_form sized_form null_form result_form old_form labelled_form told_form asked_form next_zone some_zones separated_form atom worded indexed dotted pointed postfix_once postfixes worded_postfix cast_behind
    cast_to_type cast_to_integer
    closed_postfix parenthesised behind_parenthesis prefixed bare_prefix prefix_of prefix joined_once joined_more joined added_rest ranged behind_first added_parenthesis added sum_once sum_more zone_sum linked links_of links
    chain_behind chain_of implied implication_behind implication_of chosen_behind choice_behind implication form_of forms closed type_name type_words consts base untagged_base integer_words integer_word star_words brackets
prefixes_are_weaker = (refl, (refl, (refl, (refl, tt))))

-- a . T, a -> integer: also the name of a type, and of whole numbers
members_have_any_name : AreRead (
    (a ∷ Mark dot ∷ declared ∷ [], Dot (at 1) (name 0 0) 15)
    ∷ (a ∷ Mark arrow ∷ integer ∷ [], Arrow (at 1) (name 0 0) 4)
    ∷ [])
unfolding whole zone named_form literal_form sized_form null_form result_form old_form labelled_form told_form asked_form next_zone some_zones separated_form atom worded indexed dotted pointed postfix_once postfixes worded_postfix cast_behind
    cast_to_type cast_to_integer
    closed_postfix parenthesised behind_parenthesis prefixed bare_prefix prefix_of prefix joined_once joined_more joined added_rest ranged behind_first added_parenthesis added sum_once sum_more zone_sum linked links_of links
    chain_behind chain_of implied implication_behind implication_of chosen_behind choice_behind implication form_of forms closed type_name type_words consts base untagged_base integer_words integer_word star_words brackets
members_have_any_name = (refl, (refl, tt))

-- \base_addr ( a ), \block_length ( a + b ), \offset ( a ) == b, \base_addr ( a ) [ b ]
facts_are_read : AreRead (
    (base_word ∷ Mark left_paren ∷ a ∷ Mark right_paren ∷ [], Told (at 0) BaseAddr (name 0 2))
    ∷ (length_word ∷ Mark left_paren ∷ a ∷ Mark plus ∷ b ∷ Mark right_paren ∷ [], Told (at 0) BlockLength (Binary (at 3) Add (name 0 2) (name 1 4)))
    ∷ (offset_word ∷ Mark left_paren ∷ a ∷ Mark right_paren ∷ Mark equal ∷ b ∷ [], Chain (at 4) (Told (at 0) Offset (name 0 2)) (Linked (at 4) Eq (name 1 5) NoLink))
    ∷ (base_word ∷ Mark left_paren ∷ a ∷ Mark right_paren ∷ Mark left_bracket ∷ b ∷ Mark right_bracket ∷ [], Index (at 4) (Told (at 0) BaseAddr (name 0 2)) (name 1 5))
    ∷ [])
unfolding whole zone named_form literal_form sized_form null_form result_form old_form labelled_form told_form asked_form next_zone some_zones separated_form atom worded indexed dotted pointed postfix_once postfixes worded_postfix cast_behind
    cast_to_type cast_to_integer
    closed_postfix parenthesised behind_parenthesis prefixed bare_prefix prefix_of prefix joined_once joined_more joined added_rest ranged behind_first added_parenthesis added sum_once sum_more zone_sum linked links_of links
    chain_behind chain_of implied implication_behind implication_of chosen_behind choice_behind implication form_of forms closed type_name type_words consts base untagged_base integer_words integer_word star_words brackets
facts_are_read = (refl, (refl, (refl, (refl, tt))))

-- ---- zones

-- \valid ( a ), \valid_read ( a + b ), \initialized ( & a ) && \valid ( b )
questions_are_read : AreRead (
    (valid ∷ Mark left_paren ∷ a ∷ Mark right_paren ∷ [], Asks (at 0) Valid (Object (name 0 2)))
    ∷ (valid_read ∷ Mark left_paren ∷ a ∷ Mark plus ∷ b ∷ Mark right_paren ∷ [], Asks (at 0) ValidRead (Object (Binary (at 3) Add (name 0 2) (name 1 4))))
    ∷ (
      initialized ∷ Mark left_paren ∷ Mark ampersand ∷ a ∷ Mark right_paren ∷ Mark and_and ∷ valid ∷ Mark left_paren ∷ b ∷ Mark right_paren ∷ [],
      Connected (at 5) And (Asks (at 0) Initialized (Object (Unary (at 2) Address (name 0 3)))) (Asks (at 6) Valid (Object (name 1 8))),
    )
    ∷ [])
unfolding whole zone named_form literal_form sized_form null_form result_form old_form labelled_form told_form asked_form next_zone some_zones separated_form atom worded indexed dotted pointed postfix_once postfixes worded_postfix cast_behind
    cast_to_type cast_to_integer
    closed_postfix parenthesised behind_parenthesis prefixed bare_prefix prefix_of prefix joined_once joined_more joined added_rest ranged behind_first added_parenthesis added sum_once sum_more zone_sum linked links_of links
    chain_behind chain_of implied implication_behind implication_of chosen_behind choice_behind implication form_of forms closed type_name type_words consts base untagged_base integer_words integer_word star_words brackets
questions_are_read = (refl, (refl, (refl, tt)))

-- a + ( b .. c ), a + b + ( c .. d ), a - b + ( c .. d ), * a + ( b .. c ), a [ b ] + ( c .. d ), each behind \valid (
ranges_are_read : AreRead (
    (valid ∷ Mark left_paren ∷ a ∷ Mark plus ∷ Mark left_paren ∷ b ∷ Mark dots ∷ c ∷ Mark right_paren ∷ Mark right_paren ∷ [], Asks (at 0) Valid (Elements (at 3) (name 0 2) (name 1 5) (name 2 7)))
    ∷ (valid ∷ Mark left_paren ∷ a ∷ Mark plus ∷ b ∷ Mark plus ∷ Mark left_paren ∷ c ∷ Mark dots ∷ d ∷ Mark right_paren ∷ Mark right_paren ∷ [], Asks (at 0) Valid (Elements (at 5) (Binary (at 3) Add (name 0 2) (name 1 4)) (name 2 7) (name 3 9)))
    ∷ (valid ∷ Mark left_paren ∷ a ∷ Mark minus ∷ b ∷ Mark plus ∷ Mark left_paren ∷ c ∷ Mark dots ∷ d ∷ Mark right_paren ∷ Mark right_paren ∷ [], Asks (at 0) Valid (Elements (at 5) (Binary (at 3) Sub (name 0 2) (name 1 4)) (name 2 7) (name 3 9)))
    ∷ (valid ∷ Mark left_paren ∷ Mark times ∷ a ∷ Mark plus ∷ Mark left_paren ∷ b ∷ Mark dots ∷ c ∷ Mark right_paren ∷ Mark right_paren ∷ [], Asks (at 0) Valid (Elements (at 4) (Unary (at 2) Deref (name 0 3)) (name 1 6) (name 2 8)))
    ∷ (
      valid ∷ Mark left_paren ∷ a ∷ Mark left_bracket ∷ b ∷ Mark right_bracket ∷ Mark plus ∷ Mark left_paren ∷ c ∷ Mark dots ∷ d ∷ Mark right_paren ∷ Mark right_paren ∷ [],
      Asks (at 0) Valid (Elements (at 6) (Index (at 3) (name 0 2) (name 1 4)) (name 2 8) (name 3 10)),
    )
    ∷ [])
unfolding whole zone named_form literal_form sized_form null_form result_form old_form labelled_form told_form asked_form next_zone some_zones separated_form atom worded indexed dotted pointed postfix_once postfixes worded_postfix cast_behind
    cast_to_type cast_to_integer
    closed_postfix parenthesised behind_parenthesis prefixed bare_prefix prefix_of prefix joined_once joined_more joined added_rest ranged behind_first added_parenthesis added sum_once sum_more zone_sum linked links_of links
    chain_behind chain_of implied implication_behind implication_of chosen_behind choice_behind implication form_of forms closed type_name type_words consts base untagged_base integer_words integer_word star_words brackets
ranges_are_read = (refl, (refl, (refl, (refl, (refl, tt)))))

-- a ? b : c + ( a .. b ), a << b + ( c .. d ), a == b + ( c .. d ), a && b + ( c .. d ), each behind \valid (
the_whole_form_is_before_a_range : AreRead ((
  valid ∷ Mark left_paren ∷ a ∷ Mark question ∷ b ∷ Mark colon ∷ c ∷ Mark plus ∷ Mark left_paren ∷ a ∷ Mark dots ∷ b ∷ Mark right_paren ∷ Mark right_paren ∷ [],
  Asks (at 0) Valid (Elements (at 7) (Choice (at 3) (name 0 2) (name 1 4) (name 2 6)) (name 0 9) (name 1 11)),
)
    ∷ (
      valid ∷ Mark left_paren ∷ a ∷ Mark shift_left ∷ b ∷ Mark plus ∷ Mark left_paren ∷ c ∷ Mark dots ∷ d ∷ Mark right_paren ∷ Mark right_paren ∷ [],
      Asks (at 0) Valid (Elements (at 5) (Binary (at 3) Shl (name 0 2) (name 1 4)) (name 2 7) (name 3 9)),
    )
    ∷ (
      valid ∷ Mark left_paren ∷ a ∷ Mark equal ∷ b ∷ Mark plus ∷ Mark left_paren ∷ c ∷ Mark dots ∷ d ∷ Mark right_paren ∷ Mark right_paren ∷ [],
      Asks (at 0) Valid (Elements (at 5) (Chain (at 3) (name 0 2) (Linked (at 3) Eq (name 1 4) NoLink)) (name 2 7) (name 3 9)),
    )
    ∷ (
      valid ∷ Mark left_paren ∷ a ∷ Mark and_and ∷ b ∷ Mark plus ∷ Mark left_paren ∷ c ∷ Mark dots ∷ d ∷ Mark right_paren ∷ Mark right_paren ∷ [],
      Asks (at 0) Valid (Elements (at 5) (Connected (at 3) And (name 0 2) (name 1 4)) (name 2 7) (name 3 9)),
    )
    ∷ [])
unfolding whole zone named_form literal_form sized_form null_form result_form old_form labelled_form told_form asked_form next_zone some_zones separated_form atom worded indexed dotted pointed postfix_once postfixes worded_postfix cast_behind
    cast_to_type cast_to_integer
    closed_postfix parenthesised behind_parenthesis prefixed bare_prefix prefix_of prefix joined_once joined_more joined added_rest ranged behind_first added_parenthesis added sum_once sum_more zone_sum linked links_of links
    chain_behind chain_of implied implication_behind implication_of chosen_behind choice_behind implication form_of forms closed type_name type_words consts base untagged_base integer_words integer_word star_words brackets
the_whole_form_is_before_a_range = (refl, (refl, (refl, (refl, tt))))

-- a + ( b ), a + ( b ) [ c ], a + ( b ) * c + d, a + ( int ) b, a + ( integer ) b * c, a + ( b ) + ( c .. d ), each behind \valid (
a_parenthesis_is_an_operand : AreRead (
    (valid ∷ Mark left_paren ∷ a ∷ Mark plus ∷ Mark left_paren ∷ b ∷ Mark right_paren ∷ Mark right_paren ∷ [], Asks (at 0) Valid (Object (Binary (at 3) Add (name 0 2) (name 1 5))))
    ∷ (
      valid ∷ Mark left_paren ∷ a ∷ Mark plus ∷ Mark left_paren ∷ b ∷ Mark right_paren ∷ Mark left_bracket ∷ c ∷ Mark right_bracket ∷ Mark right_paren ∷ [],
      Asks (at 0) Valid (Object (Binary (at 3) Add (name 0 2) (Index (at 7) (name 1 5) (name 2 8)))),
    )
    ∷ (
      valid ∷ Mark left_paren ∷ a ∷ Mark plus ∷ Mark left_paren ∷ b ∷ Mark right_paren ∷ Mark times ∷ c ∷ Mark plus ∷ d ∷ Mark right_paren ∷ [],
      Asks (at 0) Valid (Object (Binary (at 9) Add (Binary (at 3) Add (name 0 2) (Binary (at 7) Mul (name 1 5) (name 2 8))) (name 3 10))),
    )
    ∷ (valid ∷ Mark left_paren ∷ a ∷ Mark plus ∷ Mark left_paren ∷ int ∷ Mark right_paren ∷ b ∷ Mark right_paren ∷ [], Asks (at 0) Valid (Object (Binary (at 3) Add (name 0 2) (Cast (at 4) (OfC (Int I32)) (name 1 7)))))
    ∷ (
      valid ∷ Mark left_paren ∷ a ∷ Mark plus ∷ Mark left_paren ∷ integer ∷ Mark right_paren ∷ b ∷ Mark times ∷ c ∷ Mark right_paren ∷ [],
      Asks (at 0) Valid (Object (Binary (at 3) Add (name 0 2) (Binary (at 8) Mul (Cast (at 4) Integers (name 1 7)) (name 2 9)))),
    )
    ∷ (
      valid ∷ Mark left_paren ∷ a ∷ Mark plus ∷ Mark left_paren ∷ b ∷ Mark right_paren ∷ Mark plus ∷ Mark left_paren ∷ c ∷ Mark dots ∷ d ∷ Mark right_paren ∷ Mark right_paren ∷ [],
      Asks (at 0) Valid (Elements (at 7) (Binary (at 3) Add (name 0 2) (name 1 5)) (name 2 9) (name 3 11)),
    )
    ∷ [])
unfolding whole zone named_form literal_form sized_form null_form result_form old_form labelled_form told_form asked_form next_zone some_zones separated_form atom worded indexed dotted pointed postfix_once postfixes worded_postfix cast_behind
    cast_to_type cast_to_integer
    closed_postfix parenthesised behind_parenthesis prefixed bare_prefix prefix_of prefix joined_once joined_more joined added_rest ranged behind_first added_parenthesis added sum_once sum_more zone_sum linked links_of links
    chain_behind chain_of implied implication_behind implication_of chosen_behind choice_behind implication form_of forms closed type_name type_words consts base untagged_base integer_words integer_word star_words brackets
a_parenthesis_is_an_operand = (refl, (refl, (refl, (refl, (refl, (refl, tt))))))

-- \separated ( a , b ), \separated ( a + ( b .. c ) , b , c + d )
zones_are_separated : AreRead (
    (separated ∷ Mark left_paren ∷ a ∷ Mark comma ∷ b ∷ Mark right_paren ∷ [], Separated (at 0) (Another (Object (name 0 2)) (Another (Object (name 1 4)) NoZone)))
    ∷ (
      separated ∷ Mark left_paren ∷ a ∷ Mark plus ∷ Mark left_paren ∷ b ∷ Mark dots ∷ c ∷ Mark right_paren ∷ Mark comma ∷ b ∷ Mark comma ∷ c ∷ Mark plus ∷ d ∷ Mark right_paren ∷ [],
      Separated (at 0) (Another (Elements (at 3) (name 0 2) (name 1 5) (name 2 7)) (Another (Object (name 1 10)) (Another (Object (Binary (at 13) Add (name 2 12) (name 3 14))) NoZone))),
    )
    ∷ [])
unfolding whole zone named_form literal_form sized_form null_form result_form old_form labelled_form told_form asked_form next_zone some_zones separated_form atom worded indexed dotted pointed postfix_once postfixes worded_postfix cast_behind
    cast_to_type cast_to_integer
    closed_postfix parenthesised behind_parenthesis prefixed bare_prefix prefix_of prefix joined_once joined_more joined added_rest ranged behind_first added_parenthesis added sum_once sum_more zone_sum linked links_of links
    chain_behind chain_of implied implication_behind implication_of chosen_behind choice_behind implication form_of forms closed type_name type_words consts base untagged_base integer_words integer_word star_words brackets
zones_are_separated = (refl, (refl, tt))

-- ---- what can't follow

-- at the token behind: a + ( b .. c ) + d, ( a + ( b .. c ) ), a - ( b .. c ), a , b, each behind \valid (; \separated ( a ); < behind a range, a range in a choice, and outside of zones; a . (
ranges_end_zones_alone : AreRefused (
    (valid ∷ Mark left_paren ∷ a ∷ Mark plus ∷ Mark left_paren ∷ b ∷ Mark dots ∷ c ∷ Mark right_paren ∷ Mark plus ∷ d ∷ Mark right_paren ∷ [], 5)
    ∷ (valid ∷ Mark left_paren ∷ Mark left_paren ∷ a ∷ Mark plus ∷ Mark left_paren ∷ b ∷ Mark dots ∷ c ∷ Mark right_paren ∷ Mark right_paren ∷ Mark right_paren ∷ [], 7)
    ∷ (valid ∷ Mark left_paren ∷ a ∷ Mark minus ∷ Mark left_paren ∷ b ∷ Mark dots ∷ c ∷ Mark right_paren ∷ Mark right_paren ∷ [], 6)
    ∷ (valid ∷ Mark left_paren ∷ a ∷ Mark comma ∷ b ∷ Mark right_paren ∷ [], 5)
    ∷ (separated ∷ Mark left_paren ∷ a ∷ Mark right_paren ∷ [], 3)
    ∷ (valid ∷ Mark left_paren ∷ a ∷ Mark plus ∷ Mark left_paren ∷ b ∷ Mark dots ∷ c ∷ Mark right_paren ∷ Mark less ∷ d ∷ Mark right_paren ∷ [], 5)
    ∷ (valid ∷ Mark left_paren ∷ a ∷ Mark question ∷ b ∷ Mark plus ∷ Mark left_paren ∷ c ∷ Mark dots ∷ d ∷ Mark right_paren ∷ Mark colon ∷ a ∷ Mark right_paren ∷ [], 8)
    ∷ (a ∷ Mark plus ∷ Mark left_paren ∷ b ∷ Mark dots ∷ c ∷ Mark right_paren ∷ [], 5)
    ∷ (a ∷ Mark dot ∷ Mark left_paren ∷ b ∷ Mark right_paren ∷ [], 5)
    ∷ [])
unfolding whole zone named_form literal_form sized_form null_form result_form old_form labelled_form told_form asked_form next_zone some_zones separated_form atom worded indexed dotted pointed postfix_once postfixes worded_postfix cast_behind
    cast_to_type cast_to_integer
    closed_postfix parenthesised behind_parenthesis prefixed bare_prefix prefix_of prefix joined_once joined_more joined added_rest ranged behind_first added_parenthesis added sum_once sum_more zone_sum linked links_of links
    chain_behind chain_of implied implication_behind implication_of chosen_behind choice_behind implication form_of forms closed type_name type_words consts base untagged_base integer_words integer_word star_words brackets form_clause
    full_clause next_clause more_clauses asserts clauses annotations
ranges_end_zones_alone = (refl, (refl, (refl, (refl, (refl, (refl, (refl, (refl, (refl, tt)))))))))
