-- Forms that are read are counted by no more tokens than they have, and no number in them is below the least value of 64 bits. An operand whose operator binds no closer than
-- the one beside it stands in parentheses, which are two tokens.
use Rattle.std.proofs.Common.{◌≡◌, ℕ, suc, ◌+◌, ◌≤◌, ℤ, pos, ◌≤ℤ◌, Bool, true, false, cond, eqb, List, [], ◌∷◌, ◌++◌, Option, Some, None, refl, subst, arith}
use Rattle.std.proofs.lemmas.Int.{ints}
use Rattle.std.specs.List.{AllByRecursion}
use Rattle.grammar.specs.Syntax.{Syntax, one, ◌then◌}
use Rattle.grammar.proofs.Readings.{each_more, each_none, each_gives, each_one, each_then, each_choice, each_many, each_knot}
use Rattle.c_syntax.specs.declared.place.Place.{Place}
use Rattle.c_syntax.specs.declared.types.CInt.{CInt}
use Rattle.c_syntax.specs.declared.annotation.Relation.{Relation}
use Rattle.c_syntax.specs.declared.expression.BinOp.TheVariants.{Add}
use Rattle.c_syntax.specs.Formulas.{CastType, Integers, OfC, Form, SizeOf, Told, Asks, Separated, Old, At, FormLinks, NoLink, Linked, FormZone}
use Rattle.c_syntax.specs.Tokens as token
use Rattle.c_syntax.specs.Tokens.{PlainTokenKind, PlainToken}
use Rattle.c_model.specs.declared.formulas.FormulaMode.{FormulaMode}
use Rattle.c_model.specs.declared.formulas.FormulaMode.TheVariants.{Alone, Zone}
use Rattle.c_model.specs.declared.formulas.FormulaOperator.{FormulaOperator}
use Rattle.c_model.specs.declared.formulas.FormulaOperator.TheVariants.{Term, Predicate}
use Rattle.c_model.specs.declared.formulas.ChainDirection.{ChainDirection}
use Rattle.c_model.specs.declared.formulas.ChainDirection.TheVariants.{Start}
use Rattle.c_model.specs.declared.vocabulary.Keyword.TheVariants as keyword
use Rattle.c_model.specs.Vocabulary.{Vocabulary}
use Rattle.c_model.specs.Punctuators.{plus, question, colon, semicolon, comma, dot, arrow, dots, left_bracket, right_bracket, left_paren, right_paren, implies}
use Rattle.c_model.specs.ExpressionGrammar.{name_kind, number_kind, letter_kind, null_kind, fact_kind, question_kind, separated_kind, result_kind, old_kind, at_kind, quantifier_kind, keyword_kind, mark_kind, letter_of, number_of, kinds_of}
use Rattle.c_model.specs.ExpressionGrammar.{first_type, type_name, expression, any_name, mark}
use Rattle.c_model.specs.Terminals.{placed, entry, mark_entry}
use Rattle.c_model.specs.AnnotationGrammar.{integer_kind, formula_kind, prefix_operators, product_operators, sum_operators, difference_operators, shift_operators, bit_and_operators, bit_xor_operators, bit_or_operators}
use Rattle.c_model.specs.AnnotationGrammar.{conjunction_operators, exclusion_operators, disjunction_operators, equivalence_operators, relations_behind, direction_behind, joined_forms, chained, integer_word, named_form, literal_form}
use Rattle.c_model.specs.AnnotationGrammar.{null_form, sized_form, atom, cast_behind, cast_to_type, cast_to_integer, formula_name_of, placed_name, next_name, some_names, binder_type, FormEnd, ByRange, ByQuantifier, quantifier_end, endless}
use Rattle.c_model.specs.AnnotationGrammar.{binders, quantified, Spanned, zone_of, zones_of, unended_kinds, unended, unended_only, as_it_is, first_behind, told_form, asked_form, next_zone, some_zones, separated_form, result_form, old_form}
use Rattle.c_model.specs.AnnotationGrammar.{labelled_form, worded, indexed, dotted, pointed, postfix_once, postfixes, worded_postfix, closed_postfix, parenthesised, behind_parenthesis, prefixed, bare_prefix, prefix_of, prefix, joined_once}
use Rattle.c_model.specs.AnnotationGrammar.{joined_more, joined, added_rest, ranged, behind_first, added_parenthesis, added, sum_once, sum_more, zone_sum, linked, links_of, links, chain_behind, chain_of, implied, implication_behind}
use Rattle.c_model.specs.AnnotationGrammar.{implication_of, whole, zone, product, sum, shift, chain, bit_or, chosen_behind, choice_behind, disjunction, implication, form_of, forms, form}
use Rattle.c_model.specs.Formed.{level_of, parentheses_around, operator_of_form, IsLogicNumber, tokens_of_form, tokens_of_form_links, tokens_of_form_zone, tokens_of_form_zones, FormNumbered, FormLinksNumbered, FormZoneNumbered}
use Rattle.c_model.specs.Formed.{FormZonesNumbered, IsApart, AreApart}
use Rattle.c_model.proofs.OperandParentheses.{around_two, around_fewer, around_own}
use Rattle.c_model.specs.LetterValues.{IsCharacter}
use Rattle.c_reader.proofs.TokenForms.{IsLexedKind, IsWordApart, Each, each_token, each_letter, each_any, placed_is, placed_at}
use Rattle.c_reader.proofs.ExpressionForms.{each_fixed, closed_each}

-- ---- forms of so many tokens at most

pub record IsFormPart (k : ℕ) (f : Form) : Type 0 where
  pub is : FormNumbered f
  pub few : tokens_of_form f ≤ k

-- beside an operator of this level, with the parentheses that it has there
record IsOperand (l k : ℕ) (f : Form) : Type 0 where
  is : FormNumbered f
  few : tokens_of_form f + parentheses_around l (operator_of_form f) ≤ k

record AreLinkParts (k : ℕ) (l : FormLinks) : Type 0 where
  are : FormLinksNumbered l
  few : tokens_of_form_links l ≤ k

form_more : (k l : ℕ) (f : Form) → k ≤ l → IsFormPart k f → IsFormPart l f
form_more k l f le p = record { is = p.is; few = omega (arith, p.few, le) }

operand_more : (n k l : ℕ) (f : Form) → k ≤ l → IsOperand n k f → IsOperand n l f
operand_more n k l f le p = record { is = p.is; few = omega (arith, p.few, le) }

operand_looser : (n k : ℕ) (f : Form) → IsOperand n k f → IsOperand (suc n) k f
operand_looser n k f p = record { is = p.is; few = omega (arith, p.few, around_fewer n (operator_of_form f)) }

operand_part : (n k : ℕ) (f : Form) → IsOperand n k f → IsFormPart k f
operand_part n k f p = record { is = p.is; few = omega (arith, p.few) }

-- in parentheses
part_operand : (n k : ℕ) (f : Form) → IsFormPart k f → IsOperand n (2 + k) f
part_operand n k f p = record { is = p.is; few = omega (arith, p.few, around_two n (operator_of_form f)) }

-- ---- ranges and zones

abbrev range_tokens : Option FormEnd → ℕ
range_tokens None = 0
range_tokens (Some (ByRange at lo hi)) = suc (tokens_of_form lo + tokens_of_form hi)
range_tokens (Some ByQuantifier) = 0

abbrev RangeNumbered : Option FormEnd → Type 0
RangeNumbered None = Unit {0}
RangeNumbered (Some (ByRange at lo hi)) = FormNumbered lo × FormNumbered hi
RangeNumbered (Some ByQuantifier) = Unit {0}

-- a quantifier has the range that ends its form
end_tokens : (e : Option FormEnd) → range_tokens (Some (quantifier_end e)) ≡ range_tokens e
end_tokens None = refl
end_tokens (Some e) = refl

end_numbered : (e : Option FormEnd) → RangeNumbered e → RangeNumbered (Some (quantifier_end e))
end_numbered None h = tt
end_numbered (Some e) h = h

-- what is P at the number of its own tokens, and maybe a range
record IsSpanned {A : Type 0} (P : ℕ → A → Type 0) (k : ℕ) (x : Spanned A) : Type 0 where
  own : ℕ
  part : P own x.0
  range : RangeNumbered x.1
  few : own + range_tokens x.1 ≤ k

spanned_more : {A : Type 0} (P : ℕ → A → Type 0) (k l : ℕ) (x : Spanned A) → k ≤ l → IsSpanned P k x → IsSpanned P l x
spanned_more P k l x le p = record { own = p.own; part = p.part; range = p.range; few = omega (arith, p.few, le) }

bare_spanned : {A : Type 0} (P : ℕ → A → Type 0) (k l : ℕ) (a : A) → k ≤ l → P k a → IsSpanned P l (a, None)
bare_spanned P k l a le p = record { own = k; part = p; range = tt; few = omega (arith, le) }

spanned_of : {A : Type 0} (P Q : ℕ → A → Type 0) (k : ℕ) (x : Spanned A) → ((l : ℕ) → P l x.0 → Q l x.0) → IsSpanned P k x → IsSpanned Q k x
spanned_of P Q k x h p = record { own = p.own; part = h p.own p.part; range = p.range; few = p.few }

record IsZonePart (k : ℕ) (z : FormZone) : Type 0 where
  is : FormZoneNumbered z
  few : tokens_of_form_zone z ≤ k

zone_part : (k : ℕ) (x : Spanned Form) → IsSpanned IsFormPart k x → IsZonePart k (zone_of x)
zone_part k (a, None) p = record { is = p.part.is; few = omega (arith, p.part.few, p.few) }
zone_part k (a, Some (ByRange at lo hi)) p = record { is = (p.part.is, p.range.0, p.range.1); few = omega (arith, p.part.few, p.few) }
zone_part k (a, Some ByQuantifier) p = record { is = p.part.is; few = omega (arith, p.part.few, p.few) }

record AreZoneParts (k : ℕ) (zs : List FormZone) : Type 0 where
  are : FormZonesNumbered (zones_of zs)
  few : tokens_of_form_zones (zones_of zs) ≤ k

zones_numbered : (zs : List FormZone) (z : FormZone) → FormZonesNumbered (zones_of zs) → FormZoneNumbered z → FormZonesNumbered (zones_of (zs ++ z ∷ []))
zones_numbered [] z h p = (p, tt)
zones_numbered (y ∷ zs) z h p = (h.0, zones_numbered zs z h.1 p)

zones_tokens : (zs : List FormZone) (z : FormZone) → tokens_of_form_zones (zones_of (zs ++ z ∷ [])) ≡ tokens_of_form_zones (zones_of zs) + suc (tokens_of_form_zone z)
zones_tokens [] z = omega arith
zones_tokens (y ∷ zs) z = let e = zones_tokens zs z in omega (arith, e)

zones_part : (k l : ℕ) (zs : List FormZone) (z : FormZone) → AreZoneParts k zs → IsZonePart l z → AreZoneParts (k + suc l) (zs ++ z ∷ [])
zones_part k l zs z p q = record { are = zones_numbered zs z p.are q.is; few = omega (arith, p.few, q.few, zones_tokens zs z) }

-- an operator of terms of this level, or a connective
abbrev Joins : ℕ → FormulaOperator → Type 0
Joins n (Term op) = level_of op ≡ n
Joins n (Predicate c) = Unit {0}

abbrev AllJoin : ℕ → List (ℕ × FormulaOperator) → Type 0
AllJoin n table = AllByRecursion (λ (x : ℕ × FormulaOperator). Joins n x.1) table

joined_part : (n : ℕ) (o : FormulaOperator) (at : Place) (k l : ℕ) (a b : Form) → Joins n o → IsFormPart k a → IsOperand n l b → IsOperand (suc n) (suc (k + l)) (joined_forms (o, at) a b)
joined_part n (Term op) at k l a b same p =
    subst (λ (n : ℕ). IsOperand n l b → IsOperand (suc n) (suc (k + l)) (joined_forms (Term op, at) a b)) same
    (λ q. record { is = (p.is, q.is); few = omega (arith, p.few, q.few, around_own op) })
joined_part n (Predicate c) at k l a b same p = λ q. record { is = (p.is, q.is); few = omega (arith, p.few, q.few) }

chained_part : (n k l : ℕ) (a : Form) (ls : FormLinks) → IsOperand n k a → AreLinkParts l ls → IsOperand n (k + l) (chained a ls)
chained_part n k l a NoLink p q = record { is = p.is; few = omega (arith, p.few) }
chained_part n k l a (Linked at r b rest) p q = record { is = (p.is, q.are); few = omega (arith, p.few, q.few) }

entry_joins : (n m : ℕ) (table : List (ℕ × FormulaOperator)) (o : FormulaOperator) → AllJoin n table → entry m table ≡ Some o → Joins n o
entry_joins n m [] o h e = absurd cc
entry_joins n m (x ∷ xs) o h e = by (eqb m x.0) e (entry_joins n m xs o h.1)
  where
    by : (b : Bool) → cond b (Some x.1) (entry m xs) ≡ Some o → (entry m xs ≡ Some o → Joins n o) → Joins n o
    by true e rest = let same : x.1 ≡ o = cc in subst (Joins n) same h.0
    by false e rest = rest e

mark_joins : (n : ℕ) (table : List (ℕ × FormulaOperator)) (t : PlainTokenKind) (o : FormulaOperator) → AllJoin n table → mark_entry table t ≡ Some o → Joins n o
mark_joins n table (token.Mark m) o h e = entry_joins n m table o h e
mark_joins n table (token.Word w) o h e = absurd cc
mark_joins n table (token.Number z c) o h e = absurd cc
mark_joins n table (token.Letter z) o h e = absurd cc
mark_joins n table (token.Chars bytes) o h e = absurd cc
mark_joins n table token.AnnotOpen o h e = absurd cc
mark_joins n table token.AnnotClose o h e = absurd cc
mark_joins n table (token.Head k w) o h e = absurd cc

-- ---- numbers

not_negative : (z : ℤ) → pos 0 ≤ℤ z → IsLogicNumber z
not_negative z h = record { low = omega (arith, ints, h) }

character : (z : ℤ) → IsCharacter z → IsLogicNumber z
character z h = record { low = omega (arith, ints, h.low) }

is_number : (size : ℕ) (t : PlainTokenKind) (y : ℤ × Option CInt) → IsLexedKind size t → number_of t ≡ Some y → IsLogicNumber y.0
is_number size (token.Number z c) y h e = let same : (z, c) ≡ y = cc in subst (λ (w : ℤ × Option CInt). IsLogicNumber w.0) same (not_negative z h)
is_number size (token.Word n) y h e = absurd cc
is_number size (token.Letter z) y h e = absurd cc
is_number size (token.Chars bytes) y h e = absurd cc
is_number size (token.Mark m) y h e = absurd cc
is_number size token.AnnotOpen y h e = absurd cc
is_number size token.AnnotClose y h e = absurd cc
is_number size (token.Head k n) y h e = absurd cc

-- ---- names, whose offsets are no number of another thing

are_apart : (xs : List (Place × ℕ)) (x : Place × ℕ) → AreApart xs → IsApart x.0 → AreApart (xs ++ x ∷ [])
are_apart [] x h p = (p, tt)
are_apart (y ∷ xs) x h p = (h.0, are_apart xs x h.1 p)

module _ (size : ℕ) (ws : Vocabulary) where
  name_apart : (k : PlainTokenKind) (at : Place) (n : ℕ) → IsWordApart k at → formula_name_of ws k ≡ Some n → IsApart at
  name_apart (token.Word w) at n h e = h
  name_apart (token.Number z c) at n h e = absurd cc
  name_apart (token.Letter z) at n h e = absurd cc
  name_apart (token.Chars bytes) at n h e = absurd cc
  name_apart (token.Mark m) at n h e = absurd cc
  name_apart token.AnnotOpen at n h e = absurd cc
  name_apart token.AnnotClose at n h e = absurd cc
  name_apart (token.Head k m) at n h e = absurd cc

  name_each : Each size (placed_name ws) (λ k x. IsApart x.0)
  unfolding placed_name
  name_each =
      each_then {Q = λ k x. IsApart x.0}
      (each_one {P = λ k x. IsApart x.1} (placed (formula_name_of ws)) (λ t x h e. subst IsApart (placed_at (formula_name_of ws) t x e) (name_apart t.kind t.place x.0 h.1 (placed_is (formula_name_of ws) t x e)))) (λ k x h. each_gives _ h)

  next_name_each : (xs : List (Place × ℕ)) → AreApart xs → Each size (next_name ws xs) (λ k ys. AreApart ys)
  unfolding next_name
  next_name_each xs h = each_then {Q = λ k ys. AreApart ys} (each_any (mark ws comma)) (λ i at _. each_then {Q = λ k ys. AreApart ys} name_each (λ j x p. each_gives _ (are_apart xs x h p)))

  names_each : Each size (some_names ws) (λ k xs. AreApart xs)
  unfolding some_names
  names_each =
      each_then {Q = λ k xs. AreApart xs} name_each (λ i x h. each_many (formula_kind ws) (λ _. mark_kind comma ∷ []) {P = λ k xs. AreApart xs} (λ j xs p. next_name_each xs p) i (x ∷ []) (h, tt))

module _ (size : ℕ) (ws : Vocabulary) where
  number_each : Each size (one (placed number_of)) (λ k x. (k ≡ 1) × IsLogicNumber x.0.0)
  number_each = each_one _ (λ t x h e. (refl, is_number size t.kind x.0 h.0 (placed_is number_of t x e)))

  letter_each : Each size (one (placed letter_of)) (λ k x. (k ≡ 1) × IsLogicNumber x.0)
  letter_each = each_more (λ k x h. (h.0, character x.0 h.1)) each_letter

  -- ---- primary and prefix forms

  named_each : Each size (named_form ws) (IsOperand 0)
  unfolding named_form
  named_each = each_then (each_token _) (λ k x h. each_gives _ (record { is = tt; few = omega (arith, h) }))

  literal_each : Each size (literal_form ws) (IsOperand 0)
  unfolding literal_form
  literal_each =
      each_choice (formula_kind ws) (number_kind ∷ []) (each_then number_each (λ k n h. each_gives _ (record { is = h.1; few = omega (arith, h.0) })))
      (each_choice (formula_kind ws) (letter_kind ∷ []) (each_then letter_each (λ k z h. each_gives _ (record { is = h.1; few = omega (arith, h.0) })))
      (each_then (each_token _) (λ k b h. each_gives _ (record { is = tt; few = omega (arith, h) }))))

  sized_each : Each size (sized_form ws) (IsOperand 0)
  unfolding sized_form
  sized_each =
      each_then (each_fixed size ws (keyword_kind keyword.Sizeof)) (λ i at h. each_then (each_fixed size ws (mark_kind left_paren)) (λ j _ _. each_then (each_any (type_name ws (expression ws))) (λ k t _.
      closed_each size ws {P = λ l x. IsOperand 0 (i + (j + (k + l))) x} (SizeOf at t) (record { is = tt; few = omega (arith, h) }))))

  null_each : Each size (null_form ws) (IsOperand 0)
  unfolding null_form
  null_each = each_then (each_fixed size ws null_kind) (λ k at h. each_gives _ (record { is = tt; few = omega (arith, h) }))

  result_each : Each size (result_form ws) (IsOperand 0)
  unfolding result_form
  result_each = each_then (each_fixed size ws result_kind) (λ k at h. each_gives _ (record { is = tt; few = omega (arith, h) }))

  atom_each : Each size (atom ws) (IsOperand 0)
  unfolding atom
  atom_each =
      each_choice (formula_kind ws) (name_kind ∷ []) named_each (each_choice (formula_kind ws) (null_kind ∷ []) null_each (each_choice (formula_kind ws) (result_kind ∷ []) result_each literal_each))

  module _ {E : Syntax PlainToken Form} (e : Each size E IsFormPart) where
    indexed_each : (k : ℕ) (x : Form) → IsOperand 0 k x → Each size (indexed ws E x) (λ l y. IsOperand 0 (k + l) y)
    unfolding indexed
    indexed_each k x p = each_then (each_fixed size ws (mark_kind left_bracket)) (λ i at h. each_then e (λ j y q. each_then (each_fixed size ws (mark_kind right_bracket)) (λ m _ g.
        each_gives _ (record { is = (p.is, q.is); few = omega (arith, h, g, p.few, q.few) }))))

    dotted_each : (k : ℕ) (x : Form) → IsOperand 0 k x → Each size (dotted ws x) (λ l y. IsOperand 0 (k + l) y)
    unfolding dotted
    dotted_each k x p = each_then (each_fixed size ws (mark_kind dot)) (λ i at h. each_then (each_any (any_name ws)) (λ j m _. each_gives _ (record { is = p.is; few = omega (arith, h, p.few) })))

    pointed_each : (k : ℕ) (x : Form) → IsOperand 0 k x → Each size (pointed ws x) (λ l y. IsOperand 0 (k + l) y)
    unfolding pointed
    pointed_each k x p = each_then (each_fixed size ws (mark_kind arrow)) (λ i at h. each_then (each_token _) (λ j m g. each_gives _ (record { is = p.is; few = omega (arith, h, g, p.few) })))

    postfix_once_each : (k : ℕ) (x : Form) → IsOperand 0 k x → Each size (postfix_once ws E x) (λ l y. IsOperand 0 (k + l) y)
    unfolding postfix_once
    postfix_once_each k x p =
        each_choice (formula_kind ws) (mark_kind left_bracket ∷ []) (indexed_each k x p) (each_choice (formula_kind ws) (mark_kind dot ∷ []) (dotted_each k x p) (pointed_each k x p))

    postfixes_each : (k : ℕ) (x : Form) → IsOperand 0 k x → Each size (postfixes ws E x) (λ l y. IsOperand 0 (k + l) y)
    unfolding postfixes
    postfixes_each k x p = each_many (formula_kind ws) (λ _. first_behind) {P = IsOperand 0} (λ i y q. postfix_once_each i y q) k x p

    -- with the parenthesis before the form
    closed_postfix_each : (k : ℕ) (x : Form) → IsFormPart k x → Each size (closed_postfix ws E x) (λ l y. IsOperand 0 (1 + (k + l)) y)
    unfolding closed_postfix
    closed_postfix_each k x p =
        each_then (each_fixed size ws (mark_kind right_paren)) (λ i _ h. each_more (λ j y q. operand_more 0 ((2 + k) + j) (1 + (k + (i + j))) y (omega (arith, h)) q) (postfixes_each (2 + k) x (part_operand 0 k x p)))

    told_each : Each size (told_form ws E) (IsOperand 0)
    unfolding told_form
    told_each = each_then (each_token _) (λ i f h. each_then (each_fixed size ws (mark_kind left_paren)) (λ j _ _. each_then e (λ k x q.
        closed_each size ws {P = λ l y. IsOperand 0 (i + (j + (k + l))) y} (Told f.1 f.0 x) (record { is = q.is; few = omega (arith, h, q.few) }))))

    old_each : Each size (old_form ws E) (IsOperand 0)
    unfolding old_form
    old_each = each_then (each_fixed size ws old_kind) (λ i at h. each_then (each_fixed size ws (mark_kind left_paren)) (λ j _ _. each_then e (λ k x q.
        closed_each size ws {P = λ l y. IsOperand 0 (i + (j + (k + l))) y} (Old at x) (record { is = q.is; few = omega (arith, h, q.few) }))))

    labelled_each : Each size (labelled_form ws E) (IsOperand 0)
    unfolding labelled_form
    labelled_each = each_then (each_fixed size ws at_kind) (λ i at h. each_then (each_fixed size ws (mark_kind left_paren)) (λ j _ _. each_then e (λ k x q. each_then (each_fixed size ws (mark_kind comma)) (λ m _ _.
        each_then (each_token _) (λ n l _. closed_each size ws {P = λ o y. IsOperand 0 (i + (j + (k + (m + (n + o))))) y} (At at x l.1 l.0) (record { is = q.is; few = omega (arith, h, q.few) }))))))

  module _ {Z : Syntax PlainToken FormZone} (z : Each size Z IsZonePart) where
    asked_each : Each size (asked_form ws Z) (IsOperand 0)
    unfolding asked_form
    asked_each = each_then (each_token _) (λ i f h. each_then (each_fixed size ws (mark_kind left_paren)) (λ j _ _. each_then z (λ k x q.
        closed_each size ws {P = λ l y. IsOperand 0 (i + (j + (k + l))) y} (Asks f.1 f.0 x) (record { is = q.is; few = omega (arith, h, q.few) }))))

    next_zone_each : (k : ℕ) (zs : List FormZone) → AreZoneParts k zs → Each size (next_zone ws Z zs) (λ l ys. AreZoneParts (k + l) ys)
    unfolding next_zone
    next_zone_each k zs p = each_then (each_fixed size ws (mark_kind comma)) (λ i _ h. each_then z (λ j y q.
        let r = zones_part k j zs y p q in each_gives _ (record { are = r.are; few = omega (arith, h, r.few) })))

    -- with the parenthesis before them
    some_zones_each : Each size (some_zones ws Z) (λ k zs. AreZoneParts (1 + k) zs)
    unfolding some_zones
    some_zones_each = each_then z (λ i y q. each_then (next_zone_each (1 + i) (y ∷ []) (record { are = (q.is, tt); few = omega (arith, q.few) })) (λ j ys p.
        each_more (λ l zs r. record { are = r.are; few = omega (arith, r.few) }) (each_many (formula_kind ws) (λ _. mark_kind comma ∷ []) {P = AreZoneParts} (λ m xs s. next_zone_each m xs s) ((1 + i) + j) ys p)))

    separated_each : Each size (separated_form ws Z) (IsOperand 0)
    unfolding separated_form
    separated_each = each_then (each_fixed size ws separated_kind) (λ i at h. each_then (each_fixed size ws (mark_kind left_paren)) (λ j _ g. each_then some_zones_each (λ k zs q.
        closed_each size ws {P = λ l y. IsOperand 0 (i + (j + (k + l))) y} (Separated at (zones_of zs)) (record { is = q.are; few = omega (arith, h, g, q.few) }))))

  module _ {E : Syntax PlainToken Form} (e : Each size E IsFormPart) {Z : Syntax PlainToken FormZone} (z : Each size Z IsZonePart) where
    worded_each : Each size (worded ws E Z) (IsOperand 0)
    unfolding worded
    worded_each =
        each_choice (formula_kind ws) (fact_kind ∷ []) (told_each e)
        (each_choice (formula_kind ws) (question_kind ∷ []) (asked_each z)
        (each_choice (formula_kind ws) (separated_kind ∷ []) (separated_each z)
        (each_choice (formula_kind ws) (old_kind ∷ []) (old_each e) (each_choice (formula_kind ws) (at_kind ∷ []) (labelled_each e) atom_each))))

    worded_postfix_each : Each size (worded_postfix ws E Z) (IsOperand 0)
    unfolding worded_postfix
    worded_postfix_each = each_then worded_each (λ k x p. postfixes_each e k x p)

    module _ {P : Syntax PlainToken (Spanned Form)} (p : Each size P (IsSpanned (IsOperand 0))) where
      cast_each : (at : Place) (t : CastType) → Each size (cast_behind ws P at t) (IsSpanned (IsOperand 0))
      unfolding cast_behind
      cast_each at t = each_then (each_fixed size ws (mark_kind right_paren)) (λ i _ h. each_then p (λ j x q.
          each_gives _ (record { own = suc q.own; part = record { is = q.part.is; few = omega (arith, q.part.few) }; range = q.range; few = omega (arith, h, q.few) })))

      to_type_each : (at : Place) → Each size (cast_to_type ws P at) (IsSpanned (IsOperand 0))
      unfolding cast_to_type
      to_type_each at = each_then (each_any (type_name ws (expression ws))) (λ i t _. each_more (λ j x q. spanned_more (IsOperand 0) j (i + j) x (omega arith) q) (cast_each at (OfC t)))

      to_integer_each : (at : Place) → Each size (cast_to_integer ws P at) (IsSpanned (IsOperand 0))
      unfolding cast_to_integer
      to_integer_each at = each_then (each_any (integer_word ws)) (λ i _ _. each_more (λ j x q. spanned_more (IsOperand 0) j (i + j) x (omega arith) q) (cast_each at Integers))

      prefixed_each : Each size (prefixed ws P) (IsSpanned (IsOperand 0))
      unfolding prefixed
      prefixed_each = each_then (each_token _) (λ i o h. each_then p (λ j x q.
          each_gives _ (record { own = suc q.own; part = record { is = q.part.is; few = omega (arith, q.part.few) }; range = q.range; few = omega (arith, h, q.few) })))

      -- with the parenthesis before it
      parenthesised_each : Each size (parenthesised ws E) (λ k x. IsSpanned (IsOperand 0) (1 + k) x)
      unfolding parenthesised
      parenthesised_each = each_then e (λ i x q. each_then (closed_postfix_each e i x q) (λ l y s. each_gives _ (bare_spanned (IsOperand 0) (1 + (i + l)) (1 + (i + (l + 0))) y (omega arith) s)))

      behind_each : (at : Place) → Each size (behind_parenthesis ws E P at) (λ k x. IsSpanned (IsOperand 0) (1 + k) x)
      unfolding behind_parenthesis
      behind_each at =
          each_choice (formula_kind ws) first_type (each_more (λ k x q. spanned_more (IsOperand 0) k (1 + k) x (omega arith) q) (to_type_each at))
          (each_choice (formula_kind ws) (integer_kind ∷ []) (each_more (λ k x q. spanned_more (IsOperand 0) k (1 + k) x (omega arith) q) (to_integer_each at)) parenthesised_each)

    endless_each : {G : Syntax PlainToken Form} → Each size G (IsOperand 0) → Each size (endless G) (IsSpanned (IsOperand 0))
    endless_each g = each_then g (λ k x p. each_gives _ (bare_spanned (IsOperand 0) k (k + 0) x (omega arith) p))

    module _ {L : Syntax PlainToken (Spanned Form)} (l : Each size L (IsSpanned IsFormPart)) where
      binders_each : Each size (binders ws) (λ k b. AreApart b.1)
      unfolding binders
      binders_each =
          each_then {Q = λ k b. AreApart b.1} (each_any (binder_type ws)) (λ i t _. each_then {Q = λ k b. AreApart b.1} (names_each size ws) (λ j xs h. each_then {Q = λ k b. AreApart b.1} (each_any (mark ws semicolon)) (λ k at _. each_gives _ h)))

      quantified_each : Each size (quantified ws L) (IsSpanned (IsOperand 0))
      unfolding quantified
      quantified_each = each_then (each_token _) (λ i q h. each_then binders_each (λ j b apart. each_then l (λ k x p.
          each_gives _ (record { own = suc p.own; part = record { is = (apart, p.part.is); few = omega (arith, p.part.few) }; range = end_numbered x.1 p.range; few = omega (arith, h, p.few, end_tokens x.1) }))))

      bare_prefix_each : {P : Syntax PlainToken (Spanned Form)} → Each size P (IsSpanned (IsOperand 0)) → Each size (bare_prefix ws E Z L P) (IsSpanned (IsOperand 0))
      unfolding bare_prefix
      bare_prefix_each p =
          each_choice (formula_kind ws) (kinds_of prefix_operators) (prefixed_each p)
          (each_choice (formula_kind ws) (keyword_kind keyword.Sizeof ∷ []) (endless_each sized_each)
          (each_choice (formula_kind ws) (quantifier_kind ∷ []) quantified_each (endless_each worded_postfix_each)))

      prefix_of_each : {P : Syntax PlainToken (Spanned Form)} → Each size P (IsSpanned (IsOperand 0)) → Each size (prefix_of ws E Z L P) (IsSpanned (IsOperand 0))
      unfolding prefix_of
      prefix_of_each p =
          each_choice (formula_kind ws) (mark_kind left_paren ∷ []) (each_then (each_fixed size ws (mark_kind left_paren)) (λ i at h. each_more (λ j x q. spanned_more (IsOperand 0) (1 + j) (i + j) x (omega (arith, h)) q) (behind_each p at)))
          (bare_prefix_each p)

      prefix_each : Each size (prefix ws E Z L) (IsSpanned (IsOperand 0))
      unfolding prefix
      prefix_each = each_knot {P = λ u. IsSpanned (IsOperand 0)} (λ P p u. prefix_of_each (p u)) tt

  -- ---- what stands behind a form that nothing ends

  unended_each : (P : ℕ → Form → Type 0) (G : Form → Syntax PlainToken (Spanned Form)) → ((k : ℕ) (a : Form) → P k a → Each size (G a) (λ l y. IsSpanned P (k + l) y)) → (k : ℕ) (x : Spanned Form) → IsSpanned P k x
      → Each size (unended G as_it_is x) (λ l y. IsSpanned P (k + l) y)
  unended_each P G g k (a, None) p = each_more (λ l y q. spanned_more P (p.own + l) (k + l) y (omega (arith, p.few)) q) (g p.own a p.part)
  unended_each P G g k (a, Some r) p = each_gives _ (spanned_more P k (k + 0) (a, Some r) (omega arith) p)

  only_each : (P : ℕ → Form → Type 0) (G : Form → Syntax PlainToken (Spanned Form)) → ((k : ℕ) (a : Form) → P k a → Each size (G a) (λ l y. IsSpanned P (k + l) y)) → (k : ℕ) (x : Spanned Form) → IsSpanned P k x
      → Each size (unended_only G x) (λ l y. IsSpanned P (k + l) y)
  only_each P G g k (a, None) p = each_more (λ l y q. spanned_more P (p.own + l) (k + l) y (omega (arith, p.few)) q) (g p.own a p.part)
  only_each P G g k (a, Some r) p = each_none

  -- ---- operators

  operator_each : (n : ℕ) (table : List (ℕ × FormulaOperator)) → AllJoin n table → Each size (one (placed (mark_entry table))) (λ k o. (k ≡ 1) × Joins n o.0)
  operator_each n table all = each_one _ (λ t o h e. (refl, mark_joins n table t.kind o.0 all (placed_is (mark_entry table) t o e)))

  module _ (n : ℕ) {R : Syntax PlainToken (Spanned Form)} (r : Each size R (IsSpanned (IsOperand n))) where
    module _ (table : List (ℕ × FormulaOperator)) (all : AllJoin n table) where
      once_each : (k : ℕ) (left : Form) → IsOperand (suc n) k left → Each size (joined_once ws table R left) (λ l f. IsSpanned (IsOperand (suc n)) (k + l) f)
      unfolding joined_once
      once_each k left p = each_then (operator_each n table all) (λ i o h. each_then r (λ j right q.
          each_gives _ (record { own = suc (k + q.own); part = joined_part n o.0 o.1 k q.own left right.0 h.1 (operand_part (suc n) k left p) q.part; range = q.range; few = omega (arith, h.0, q.few) })))

      more_each : (k : ℕ) (x : Spanned Form) → IsSpanned (IsOperand (suc n)) k x → Each size (joined_more ws table R x) (λ l f. IsSpanned (IsOperand (suc n)) (k + l) f)
      unfolding joined_more
      more_each k x p =
          each_many (formula_kind ws) (unended_kinds (kinds_of table)) {P = IsSpanned (IsOperand (suc n))} (λ i y q. only_each (IsOperand (suc n)) (joined_once ws table R) once_each i y q) k x p

      joined_each : Each size (joined ws table R) (IsSpanned (IsOperand (suc n)))
      unfolding joined
      joined_each = each_then r (λ k left p. more_each k left (spanned_of (IsOperand n) (IsOperand (suc n)) k left (λ l q. operand_looser n l left.0 q) p))

    -- a relation with its operand, and the links L behind it
    tail_each : (L : Syntax PlainToken (Spanned FormLinks)) → Each size L (IsSpanned AreLinkParts) → (at : Place) (rel : Relation) (k : ℕ) (x : Spanned Form) → IsSpanned (IsOperand n) k x
        → Each size (unended (λ (_ : Form). L) (λ _. NoLink) x) (λ l ls. IsSpanned AreLinkParts (suc (k + l)) (Linked at rel x.0 ls.0, ls.1))
    tail_each L l at rel k (a, None) p = each_more (λ j ls q. record { own = suc (p.own + q.own); part = record { are = (p.part.is, q.part.are); few = omega (arith, p.part.few, q.part.few) }; range = q.range; few = omega (arith, p.few, q.few) }) l
    tail_each L l at rel k (a, Some r) p = each_gives _ (record { own = suc p.own; part = record { are = (p.part.is, tt); few = omega (arith, p.part.few) }; range = p.range; few = omega (arith, p.few) })

    linked_each : (L : ChainDirection → Syntax PlainToken (Spanned FormLinks)) → ((d : ChainDirection) → Each size (L d) (IsSpanned AreLinkParts)) → (d : ChainDirection) → Each size (linked ws R L d) (IsSpanned AreLinkParts)
    unfolding linked
    linked_each L l d = each_then (each_token _) (λ i o h. each_then r (λ j x p. each_then (tail_each (L (direction_behind d o.0)) (l (direction_behind d o.0)) o.1 o.0 j x p) (λ k ls q.
        each_gives _ (spanned_more AreLinkParts (suc (j + k)) (i + (j + (k + 0))) (Linked o.1 o.0 x.0 ls.0, ls.1) (omega (arith, h)) q))))

    links_each : (d : ChainDirection) → Each size (links ws R d) (IsSpanned AreLinkParts)
    unfolding links links_of
    links_each d =
        each_knot {P = λ d. IsSpanned AreLinkParts} (λ L l d. each_choice (formula_kind ws) (kinds_of (relations_behind d)) (linked_each L l d)
        (each_gives (NoLink, None) (bare_spanned AreLinkParts 0 0 NoLink (omega arith) (record { are = tt; few = omega arith })))) d

    chain_behind_each : (k : ℕ) (a : Form) → IsOperand n k a → Each size (chain_behind ws R a) (λ l y. IsSpanned (IsOperand n) (k + l) y)
    unfolding chain_behind
    chain_behind_each k a p = each_then (links_each Start) (λ j ls q. each_gives _ (record { own = k + q.own; part = chained_part n k q.own a ls.0 p q.part; range = q.range; few = omega (arith, q.few) }))

    chain_each : Each size (chain_of ws R) (IsSpanned (IsOperand n))
    unfolding chain_of
    chain_each = each_then r (λ k x p. unended_each (IsOperand n) (chain_behind ws R) chain_behind_each k x p)

    looser_each : Each size R (IsSpanned (IsOperand (suc n)))
    looser_each = each_more (λ k x p. spanned_of (IsOperand n) (IsOperand (suc n)) k x (λ l q. operand_looser n l x.0 q) p) r

  module _ {E : Syntax PlainToken Form} (e : Each size E IsFormPart) {Z : Syntax PlainToken FormZone} (z : Each size Z IsZonePart) {L : Syntax PlainToken (Spanned Form)} (l : Each size L (IsSpanned IsFormPart)) where
    product_all : AllJoin 0 product_operators
    product_all = (refl, (refl, (refl, tt)))

    product_each : Each size (product ws E Z L) (IsSpanned (IsOperand 1))
    product_each = joined_each 0 (prefix_each e z l) product_operators product_all

    -- ---- sums in the mode of a zone

    rest_each : (k : ℕ) (left : Form) → IsOperand 2 k left → (at : Place) (j : ℕ) (x : Spanned Form) → IsSpanned (IsOperand 0) j x → Each size (added_rest ws E Z L left at x) (λ l y. IsSpanned (IsOperand 2) (suc (k + (j + l))) y)
    unfolding added_rest
    rest_each k left p at j x q = each_then (more_each 0 (prefix_each e z l) product_operators product_all j x (spanned_of (IsOperand 0) (IsOperand 1) j x (λ n u. operand_looser 0 n x.0 u) q)) (λ i y s.
        each_gives _ (record { own = suc (k + s.own); part = joined_part 1 (Term Add) at k s.own left y.0 refl (operand_part 2 k left p) s.part; range = s.range; few = omega (arith, s.few) }))

    -- with the parenthesis before the first form
    behind_first_each : (k : ℕ) (left : Form) → IsOperand 2 k left → (at : Place) (j : ℕ) (x : Form) → IsFormPart j x → Each size (behind_first ws E Z L left at x) (λ l y. IsSpanned (IsOperand 2) (suc (k + (1 + (j + l)))) y)
    unfolding behind_first ranged
    behind_first_each k left p at j x q =
        each_choice (formula_kind ws) (mark_kind dots ∷ [])
        (each_then (each_fixed size ws (mark_kind dots)) (λ i _ h. each_then e (λ m hi s.
        closed_each size ws {P = λ l y. IsSpanned (IsOperand 2) (suc (k + (1 + (j + (i + (m + l)))))) y} (left, Some (ByRange at x hi)) (record { own = k; part = p; range = (q.is, s.is); few = omega (arith, q.few, s.few) }))))
        (each_then (closed_postfix_each e j x q) (λ i y s. each_more (λ l w u. spanned_more (IsOperand 2) (suc (k + ((1 + (j + i)) + l))) (suc (k + (1 + (j + (i + l))))) w (omega arith) u)
        (rest_each k left p at (1 + (j + i)) (y, None) (bare_spanned (IsOperand 0) (1 + (j + i)) (1 + (j + i)) y (omega arith) s))))

    cast_rest_each : (k : ℕ) (left : Form) → IsOperand 2 k left → (at : Place) {G : Syntax PlainToken (Spanned Form)} → Each size G (IsSpanned (IsOperand 0))
        → Each size (G then λ x. added_rest ws E Z L left at x) (λ l y. IsSpanned (IsOperand 2) (suc (k + (1 + l))) y)
    cast_rest_each k left p at g = each_then g (λ i x q. each_more (λ l y s. spanned_more (IsOperand 2) (suc (k + (i + l))) (suc (k + (1 + (i + l)))) y (omega arith) s) (rest_each k left p at i x q))

    -- with the parenthesis before it
    added_parenthesis_each : (k : ℕ) (left : Form) → IsOperand 2 k left → (at paren : Place) → Each size (added_parenthesis ws E Z L left at paren) (λ l y. IsSpanned (IsOperand 2) (suc (k + (1 + l))) y)
    unfolding added_parenthesis
    added_parenthesis_each k left p at paren =
        each_choice (formula_kind ws) first_type (cast_rest_each k left p at (to_type_each e z (prefix_each e z l) paren))
        (each_choice (formula_kind ws) (integer_kind ∷ []) (cast_rest_each k left p at (to_integer_each e z (prefix_each e z l) paren)) (each_then e (λ j x q. behind_first_each k left p at j x q)))

    added_each : (k : ℕ) (left : Form) → IsOperand 2 k left → (at : Place) → Each size (added ws E Z L left at) (λ l y. IsSpanned (IsOperand 2) (suc (k + l)) y)
    unfolding added
    added_each k left p at =
        each_choice (formula_kind ws) (mark_kind left_paren ∷ [])
        (each_then (each_fixed size ws (mark_kind left_paren)) (λ i paren h. each_more (λ l y s. spanned_more (IsOperand 2) (suc (k + (1 + l))) (suc (k + (i + l))) y (omega (arith, h)) s) (added_parenthesis_each k left p at paren)))
        (each_then (bare_prefix_each e z l (prefix_each e z l)) (λ i x q. rest_each k left p at i x q))

    sum_once_each : (k : ℕ) (left : Form) → IsOperand 2 k left → Each size (sum_once ws E Z L left) (λ l y. IsSpanned (IsOperand 2) (k + l) y)
    unfolding sum_once
    sum_once_each k left p =
        each_choice (formula_kind ws) (mark_kind plus ∷ [])
        (each_then (each_fixed size ws (mark_kind plus)) (λ i at h. each_more (λ l y s. spanned_more (IsOperand 2) (suc (k + l)) (k + (i + l)) y (omega (arith, h)) s) (added_each k left p at)))
        (once_each 1 product_each difference_operators (refl, tt) k left p)

    zone_sum_each : Each size (zone_sum ws E Z L) (IsSpanned (IsOperand 2))
    unfolding zone_sum sum_more
    zone_sum_each = each_then product_each (λ k x p.
        each_many (formula_kind ws) (unended_kinds (kinds_of sum_operators)) {P = IsSpanned (IsOperand 2)} (λ i y q. only_each (IsOperand 2) (sum_once ws E Z L) sum_once_each i y q) k x
        (spanned_of (IsOperand 1) (IsOperand 2) k x (λ l q. operand_looser 1 l x.0 q) p))

    sum_each : (m : FormulaMode) → Each size (sum ws E Z L m) (IsSpanned (IsOperand 2))
    sum_each Alone = joined_each 1 product_each sum_operators (refl, (refl, tt))
    sum_each Zone = zone_sum_each

    module _ (m : FormulaMode) where
      shift_each : Each size (shift ws E Z L m) (IsSpanned (IsOperand 3))
      shift_each = joined_each 2 (sum_each m) shift_operators (refl, (refl, tt))

      -- no operator of terms is a relation
      relation_each : Each size (chain ws E Z L m) (IsSpanned (IsOperand 5))
      relation_each = looser_each 4 (looser_each 3 (chain_each 3 shift_each))

      bit_each : Each size (bit_or ws E Z L m) (IsSpanned (IsOperand 8))
      bit_each = joined_each 7 (joined_each 6 (joined_each 5 relation_each bit_and_operators (refl, tt)) bit_xor_operators (refl, tt)) bit_or_operators (refl, tt)

      disjunction_each : Each size (disjunction ws E Z L m) (IsSpanned (IsOperand 11))
      disjunction_each = joined_each 10 (joined_each 9 (joined_each 8 bit_each conjunction_operators (tt, tt)) exclusion_operators (tt, tt)) disjunction_operators (tt, tt)

      implied_each : {I : Syntax PlainToken (Spanned Form)} → Each size I (IsSpanned (IsOperand 11)) → (k : ℕ) (a : Form) → IsOperand 11 k a → Each size (implied ws I a) (λ l y. IsSpanned (IsOperand 11) (k + l) y)
      unfolding implied
      implied_each i k a p = each_then (each_fixed size ws (mark_kind implies)) (λ j at h. each_then i (λ l y q.
          each_gives _ (record { own = suc (k + q.own); part = record { is = (p.is, q.part.is); few = omega (arith, p.few, q.part.few) }; range = q.range; few = omega (arith, h, q.few) })))

      implication_behind_each : {I : Syntax PlainToken (Spanned Form)} → Each size I (IsSpanned (IsOperand 11)) → (k : ℕ) (a : Form) → IsOperand 11 k a → Each size (implication_behind ws I a) (λ l y. IsSpanned (IsOperand 11) (k + l) y)
      unfolding implication_behind
      implication_behind_each i k a p = each_choice (formula_kind ws) (mark_kind implies ∷ []) (implied_each i k a p) (each_gives (a, None) (bare_spanned (IsOperand 11) k (k + 0) a (omega arith) p))

      implication_of_each : {I : Syntax PlainToken (Spanned Form)} → Each size I (IsSpanned (IsOperand 11)) → Each size (implication_of ws (disjunction ws E Z L m) I) (IsSpanned (IsOperand 11))
      unfolding implication_of
      implication_of_each {I} i = each_then disjunction_each (λ k x p. unended_each (IsOperand 11) (implication_behind ws I) (implication_behind_each i) k x p)

      implication_each : Each size (implication ws E Z L m) (IsSpanned (IsOperand 11))
      unfolding implication
      implication_each = each_knot {P = λ u. IsSpanned (IsOperand 11)} (λ I i u. implication_of_each (i u)) tt

  module _ {F : FormulaMode → Syntax PlainToken (Spanned Form)} (f : (m : FormulaMode) → Each size (F m) (IsSpanned IsFormPart)) where
    whole_each : Each size (whole ws F) IsFormPart
    unfolding whole
    whole_each = each_then (f Alone) (λ k x p. each_gives _ (form_more p.own (k + 0) x.0 (omega (arith, p.few)) p.part))

    zone_each : Each size (zone ws F) IsZonePart
    unfolding zone
    zone_each = each_then (f Zone) (λ k x p. let q = zone_part k x p in each_gives _ (record { is = q.is; few = omega (arith, q.few) }))

    chosen_each : (m : FormulaMode) (k : ℕ) (c : Form) → IsFormPart k c → Each size (chosen_behind ws (whole ws F) (F m) c) (λ l y. IsSpanned IsFormPart (k + l) y)
    unfolding chosen_behind
    chosen_each m k c p = each_then (each_fixed size ws (mark_kind question)) (λ h at one. each_then whole_each (λ i x q. each_then (each_fixed size ws (mark_kind colon)) (λ j _ _. each_then (f m) (λ l y s.
        each_gives _ (record { own = suc (k + i + s.own); part = record { is = (p.is, q.is, s.part.is); few = omega (arith, p.few, q.few, s.part.few) }; range = s.range; few = omega (arith, one, s.few) })))))

    choice_each : (m : FormulaMode) (k : ℕ) (c : Form) → IsFormPart k c → Each size (choice_behind ws (whole ws F) (F m) c) (λ l y. IsSpanned IsFormPart (k + l) y)
    unfolding choice_behind
    choice_each m k c p = each_choice (formula_kind ws) (mark_kind question ∷ []) (chosen_each m k c p) (each_gives (c, None) (bare_spanned IsFormPart k (k + 0) c (omega arith) p))

    form_of_each : (m : FormulaMode) → Each size (form_of ws F m) (IsSpanned IsFormPart)
    unfolding form_of
    form_of_each m = each_then (joined_each 11 (implication_each whole_each zone_each (f m) m) equivalence_operators (tt, tt)) (λ k x p.
        unended_each IsFormPart (choice_behind ws (whole ws F) (F m)) (choice_each m) k x (spanned_of (IsOperand 12) IsFormPart k x (λ l q. operand_part 12 l x.0 q) p))

  forms_each : (m : FormulaMode) → Each size (forms ws m) (IsSpanned IsFormPart)
  unfolding forms
  forms_each m = each_knot {P = λ m. IsSpanned IsFormPart} (λ F f m. form_of_each f m) m

  pub form_each : Each size (form ws) IsFormPart
  form_each = whole_each forms_each
