-- Contracts, results and terms at labels with what is read of them, by computation (ACSL 2.3, 2.4.3).
use Rattle.std.proofs.Common.{◌≡◌, ℕ, suc, ◌+◌, List, [], ◌∷◌, ◌++◌, length, Ok, Err, refl}
use Rattle.grammar.specs.Syntax.{At}
use Rattle.c_syntax.specs.declared.place.Place.{Place}
use Rattle.c_syntax.specs.declared.annotation.Kind.{Kind}
use Rattle.c_syntax.specs.declared.annotation.Kind.TheVariants.{Requires, Assumes, Ensures, Complete, Disjoint}
use Rattle.c_syntax.specs.declared.annotation.Relation.TheVariants.{Eq}
use Rattle.c_syntax.specs.Formulas as form
use Rattle.c_syntax.specs.Formulas.{Form, Name, Chain, NoLink, Linked, Result, Old}
use Rattle.c_syntax.specs.Logic.{Annotation, Raw, Behaviors}
use Rattle.c_syntax.specs.Programs.{NamedBehavior, FunctionContract}
use Rattle.c_syntax.specs.Tokens as token
use Rattle.c_syntax.specs.Tokens.{PlainTokenKind, PlainToken}
use Rattle.c_model.specs.declared.vocabulary.ClauseWord.TheVariants as clause_word
use Rattle.c_model.specs.declared.vocabulary.LogicWord.TheVariants as logic
use Rattle.c_model.specs.declared.vocabulary.TypeName.TheVariants.{DeclaredClause}
use Rattle.c_model.specs.declared.vocabulary.Word.TheVariants as word
use Rattle.c_model.specs.Vocabulary.{Vocabulary}
use Rattle.c_model.specs.Punctuators.{equal, colon, semicolon, comma, left_paren, right_paren}
use Rattle.c_model.specs.ExpressionGrammar.{use_of, closed}
use Rattle.c_model.specs.AnnotationGrammar as annotation
use Rattle.c_model.specs.AnnotationGrammar.{whole, zone, named_form, literal_form, sized_form, null_form, result_form, old_form, labelled_form, told_form, asked_form, next_zone, some_zones, separated_form, atom, worded, indexed, dotted, pointed}
use Rattle.c_model.specs.AnnotationGrammar.{postfix_once}
use Rattle.c_model.specs.AnnotationGrammar.{postfixes, worded_postfix, cast_behind, cast_to_type, cast_to_integer, closed_postfix, parenthesised, behind_parenthesis, prefixed, bare_prefix, prefix_of, prefix, joined_once, joined_more, joined}
use Rattle.c_model.specs.AnnotationGrammar.{added_rest, ranged, behind_first, added_parenthesis, added, sum_once, sum_more, zone_sum, linked, links_of, links, chain_behind, chain_of, implied, implication_behind, implication_of, chosen_behind}
use Rattle.c_model.specs.AnnotationGrammar.{choice_behind}
use Rattle.c_model.specs.AnnotationGrammar.{implication, form_of, forms, placed_name, next_name, some_names}
use Rattle.c_model.specs.ClauseGrammar.{Contracted, clause_with, form_clause, full_clause, next_clause, more_clauses, asserts, next_own, more_owns, placed_own, behavior, next_behavior, more_behaviors, behavior_names, cover_clause, full_cover}
use Rattle.c_model.specs.ClauseGrammar.{next_cover, more_covers, behaviors_and_covers, own_first, behavior_first, cover_first, contract, clauses, annotations}

-- a place in a text of one line in which each token has one column
abbrev at : ℕ → Place
at n = record { line = 1; column = n + 1; offset = n }

abbrev tokens_from : ℕ → List PlainTokenKind → List PlainToken
tokens_from n [] = []
tokens_from n (k ∷ ks) = record { kind = k; place = at n } ∷ tokens_from (suc n) ks

-- ---- words

abbrev a : PlainTokenKind
a = token.Word 0

abbrev b : PlainTokenKind
b = token.Word 1

abbrev c : PlainTokenKind
c = token.Word 2

abbrev d : PlainTokenKind
d = token.Word 3

abbrev assert : PlainTokenKind
assert = token.Word 4

abbrev requires : PlainTokenKind
requires = token.Word 5

abbrev assumes : PlainTokenKind
assumes = token.Word 6

abbrev ensures : PlainTokenKind
ensures = token.Word 7

abbrev behavior_word : PlainTokenKind
behavior_word = token.Word 8

abbrev complete : PlainTokenKind
complete = token.Word 9

abbrev disjoint : PlainTokenKind
disjoint = token.Word 10

abbrev behaviors : PlainTokenKind
behaviors = token.Word 11

abbrev result : PlainTokenKind
result = token.Word 12

abbrev old : PlainTokenKind
old = token.Word 13

abbrev at_word : PlainTokenKind
at_word = token.Word 14

-- the name of a type, by a typedef
abbrev requires_type : PlainTokenKind
requires_type = token.Word 15

abbrev words : Vocabulary
words = word.Name ∷ word.Name ∷ word.Name ∷ word.Name ∷ word.Clause clause_word.Assert ∷ word.Clause clause_word.Requires ∷ word.Clause clause_word.Assumes ∷ word.Clause clause_word.Ensures
    ∷ word.Clause clause_word.Behavior ∷ word.Clause clause_word.Complete ∷ word.Clause clause_word.Disjoint ∷ word.Clause clause_word.Behaviors ∷ word.Logic logic.Result ∷ word.Logic logic.Old
    ∷ word.Logic logic.At ∷ word.TypeName (DeclaredClause clause_word.Requires) ∷ []

abbrev semi : PlainTokenKind
semi = token.Mark semicolon

abbrev left : PlainTokenKind
left = token.Mark left_paren

abbrev right : PlainTokenKind
right = token.Mark right_paren

-- the name with this number at this place
abbrev name : ℕ → ℕ → Form
name n p = Name (at p) (use_of n)

abbrev says : ℕ → Kind → ℕ → Form → Annotation
says n k p f = clause_with n k (at p) (Raw f)

abbrev behavior_of : ℕ → ℕ → List Annotation → NamedBehavior
behavior_of x p cs = record { place = at p; name = x; clauses = cs }

abbrev contract_of : ℕ → List Annotation → List NamedBehavior → List Annotation → FunctionContract
contract_of p own bs covers = record { place = at p; clauses = own; behaviors = bs; covers = covers }

-- ---- forms

-- the form is what is read before ";"
abbrev AreRead : List (List PlainTokenKind × Form) → Type 0
AreRead [] = Unit {0}
AreRead (x ∷ xs) = ((annotation.form words).parse (tokens_from 0 (x.0 ++ semi ∷ [])) ≡ Ok (x.1, tokens_from (length x.0) (semi ∷ []))) × AreRead xs

-- \result == a, \old(a), \at(a, b), \old(\at(a, requires)), requires == behaviors
results_and_labels : AreRead (
    (result ∷ token.Mark equal ∷ a ∷ [], Chain (at 1) (Result (at 0)) (Linked (at 1) Eq (name 0 2) NoLink))
    ∷ (old ∷ left ∷ a ∷ right ∷ [], Old (at 0) (name 0 2))
    ∷ (at_word ∷ left ∷ a ∷ token.Mark comma ∷ b ∷ right ∷ [], form.At (at 0) (name 0 2) (at 4) 1)
    ∷ (old ∷ left ∷ at_word ∷ left ∷ a ∷ token.Mark comma ∷ requires ∷ right ∷ right ∷ [], Old (at 0) (form.At (at 2) (name 0 4) (at 6) 5))
    ∷ (requires ∷ token.Mark equal ∷ behaviors ∷ [], Chain (at 1) (name 5 0) (Linked (at 1) Eq (name 11 2) NoLink))
    ∷ [])
unfolding whole zone named_form literal_form sized_form null_form result_form old_form labelled_form told_form asked_form next_zone some_zones separated_form atom worded indexed dotted pointed postfix_once postfixes worded_postfix cast_behind
    cast_to_type cast_to_integer closed_postfix parenthesised behind_parenthesis prefixed bare_prefix prefix_of prefix joined_once joined_more joined added_rest ranged behind_first added_parenthesis added sum_once sum_more zone_sum linked
    links_of links chain_behind chain_of implied implication_behind implication_of chosen_behind choice_behind implication form_of forms closed
results_and_labels = (refl, (refl, (refl, (refl, (refl, tt)))))

-- ---- contracts, whose clauses have numbers from 1 on

abbrev annotated : List PlainTokenKind → List PlainToken
annotated ks = tokens_from 0 (token.AnnotOpen ∷ ks ++ token.AnnotClose ∷ [])

abbrev AreContracts : List (List PlainTokenKind × FunctionContract × ℕ) → Type 0
AreContracts [] = Unit {0}
AreContracts (x ∷ xs) = ((annotations words 1).parse (annotated x.0) ≡ Ok ((Contracted x.1, x.2), [])) × AreContracts xs

-- requires a; ensures b;   behavior a: assumes b; requires c; ensures d; complete behaviors a, b; disjoint behaviors;   requires a; behavior assumes: behavior b:
-- complete behaviors;   and the first word as the name of a type
contracts_are_read : AreContracts (
    (requires ∷ a ∷ semi ∷ ensures ∷ b ∷ semi ∷ [], contract_of 1 (says 1 Requires 1 (name 0 2) ∷ says 2 Ensures 4 (name 1 5) ∷ []) [] [], 3)
    ∷ (
      behavior_word ∷ a ∷ token.Mark colon ∷ assumes ∷ b ∷ semi ∷ requires ∷ c ∷ semi ∷ ensures ∷ d ∷ semi ∷ complete ∷ behaviors ∷ a ∷ token.Mark comma ∷ b ∷ semi ∷ disjoint ∷ behaviors ∷ semi ∷ [],
      contract_of 1 [] (behavior_of 0 2 (says 1 Assumes 4 (name 1 5) ∷ says 2 Requires 7 (name 2 8) ∷ says 3 Ensures 10 (name 3 11) ∷ []) ∷ [])
          (clause_with 4 Complete (at 13) (Behaviors ((at 15, 0) ∷ (at 17, 1) ∷ [])) ∷ clause_with 5 Disjoint (at 19) (Behaviors []) ∷ []),
      6,
    )
    ∷ (
      requires ∷ a ∷ semi ∷ behavior_word ∷ assumes ∷ token.Mark colon ∷ behavior_word ∷ b ∷ token.Mark colon ∷ [],
      contract_of 1 (says 1 Requires 1 (name 0 2) ∷ []) (behavior_of 6 5 [] ∷ behavior_of 1 8 [] ∷ []) [],
      2,
    )
    ∷ (complete ∷ behaviors ∷ semi ∷ [], contract_of 1 [] [] (clause_with 1 Complete (at 1) (Behaviors []) ∷ []), 2)
    ∷ (requires_type ∷ a ∷ semi ∷ [], contract_of 1 (says 1 Requires 1 (name 0 2) ∷ []) [] [], 2)
    ∷ [])
unfolding whole zone named_form literal_form sized_form null_form result_form old_form labelled_form told_form asked_form next_zone some_zones separated_form atom worded indexed dotted pointed postfix_once postfixes worded_postfix cast_behind
    cast_to_type cast_to_integer closed_postfix parenthesised behind_parenthesis prefixed bare_prefix prefix_of prefix joined_once joined_more joined added_rest ranged behind_first added_parenthesis added sum_once sum_more zone_sum linked
    links_of links chain_behind chain_of implied implication_behind implication_of chosen_behind choice_behind implication form_of forms closed form_clause full_clause next_clause more_clauses asserts next_own more_owns placed_own behavior
    next_behavior more_behaviors
    placed_name next_name some_names behavior_names cover_clause full_cover next_cover more_covers behaviors_and_covers own_first behavior_first cover_first contract clauses annotations
contracts_are_read = (refl, (refl, (refl, (refl, (refl, tt)))))

-- so many tokens are left at the first that can't follow
abbrev AreRefused : List (List PlainTokenKind × ℕ) → Type 0
AreRefused [] = Unit {0}
AreRefused (x ∷ xs) = ((annotations words 1).parse (annotated x.0) ≡ Err (At x.1)) × AreRefused xs

-- no clause; assumes a;   complete behaviors; requires a;   requires a; assert b;   assert a; requires b;   behavior: assumes a;   behavior a assumes b;
-- complete behavior;   complete behaviors a b;   ensures \at(a);   ensures \old(a;   behavior a: assert b;   ensures \result(a);
contracts_are_refused : AreRefused (
    ([], 1)
    ∷ (assumes ∷ a ∷ semi ∷ [], 4)
    ∷ (complete ∷ behaviors ∷ semi ∷ requires ∷ a ∷ semi ∷ [], 4)
    ∷ (requires ∷ a ∷ semi ∷ assert ∷ b ∷ semi ∷ [], 4)
    ∷ (assert ∷ a ∷ semi ∷ requires ∷ b ∷ semi ∷ [], 4)
    ∷ (behavior_word ∷ token.Mark colon ∷ assumes ∷ a ∷ semi ∷ [], 5)
    ∷ (behavior_word ∷ a ∷ assumes ∷ b ∷ semi ∷ [], 4)
    ∷ (complete ∷ behavior_word ∷ semi ∷ [], 3)
    ∷ (complete ∷ behaviors ∷ a ∷ b ∷ semi ∷ [], 3)
    ∷ (ensures ∷ at_word ∷ left ∷ a ∷ right ∷ semi ∷ [], 3)
    ∷ (ensures ∷ old ∷ left ∷ a ∷ semi ∷ [], 2)
    ∷ (behavior_word ∷ a ∷ token.Mark colon ∷ assert ∷ b ∷ semi ∷ [], 4)
    ∷ (ensures ∷ result ∷ left ∷ a ∷ right ∷ semi ∷ [], 5)
    ∷ [])
unfolding whole zone named_form literal_form sized_form null_form result_form old_form labelled_form told_form asked_form next_zone some_zones separated_form atom worded indexed dotted pointed postfix_once postfixes worded_postfix cast_behind
    cast_to_type cast_to_integer closed_postfix parenthesised behind_parenthesis prefixed bare_prefix prefix_of prefix joined_once joined_more joined added_rest ranged behind_first added_parenthesis added sum_once sum_more zone_sum linked
    links_of links chain_behind chain_of implied implication_behind implication_of chosen_behind choice_behind implication form_of forms closed form_clause full_clause next_clause more_clauses asserts next_own more_owns placed_own behavior
    next_behavior more_behaviors
    placed_name next_name some_names behavior_names cover_clause full_cover next_cover more_covers behaviors_and_covers own_first behavior_first cover_first contract clauses annotations
contracts_are_refused = (refl, (refl, (refl, (refl, (refl, (refl, (refl, (refl, (refl, (refl, (refl, (refl, (refl, tt)))))))))))))
