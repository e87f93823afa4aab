-- The parts of annotations that are read stand at places of their own, from where an annotation begins to where it ends.
use Rattle.std.proofs.Common.{◌≡◌, ℕ, zero, suc, ◌+◌, ◌≤◌, List, [], ◌∷◌, ◌++◌, Option, Some, None, refl, arith}
use Rattle.grammar.specs.Syntax.{Syntax, one, knot_at, knot}
use Rattle.c_syntax.specs.declared.place.Place.{Place}
use Rattle.c_syntax.specs.Formulas.{CastType, Integers, OfC, Form, SizeOf, Told, Asks, Separated, Old, At, FormLinks, NoLink, Linked, FormZone}
use Rattle.c_syntax.specs.Logic.{Annotation}
use Rattle.c_syntax.specs.Programs.{NamedBehavior, FunctionContract}
use Rattle.c_syntax.specs.Tokens.{PlainToken}
use Rattle.c_model.specs.declared.formulas.FormulaMode.{FormulaMode}
use Rattle.c_model.specs.declared.formulas.FormulaMode.TheVariants.{Alone, Zone}
use Rattle.c_model.specs.declared.formulas.FormulaOperator.{FormulaOperator}
use Rattle.c_model.specs.declared.formulas.FormulaOperator.TheVariants.{Term, Predicate}
use Rattle.c_model.specs.declared.formulas.ClauseGroup.{ClauseGroup}
use Rattle.c_model.specs.declared.formulas.ClauseGroup.TheVariants as group
use Rattle.c_model.specs.declared.formulas.ChainDirection.{ChainDirection}
use Rattle.c_model.specs.declared.formulas.ChainDirection.TheVariants.{Start}
use Rattle.c_model.specs.declared.vocabulary.Keyword.TheVariants as keyword
use Rattle.c_model.specs.Vocabulary.{Vocabulary}
use Rattle.c_model.specs.Punctuators.{plus, question, colon, semicolon, comma, dot, arrow, dots, left_bracket, right_bracket, left_paren, right_paren, implies}
use Rattle.c_model.specs.ExpressionGrammar.{name_kind, number_kind, letter_kind, null_kind, fact_kind, question_kind, separated_kind, result_kind, old_kind, at_kind, quantifier_kind, annot_open_kind, annot_close_kind, keyword_kind, mark_kind}
use Rattle.c_model.specs.ExpressionGrammar.{letter_of, number_of, kinds_of, first_type, type_name, expression, any_name, fixed, mark, closed}
use Rattle.c_model.specs.Terminals.{placed, mark_entry}
use Rattle.c_model.specs.AnnotationGrammar.{integer_kind, formula_kind, formula_name_of, truth_of, fact_of, question_of, prefix_operators, product_operators}
use Rattle.c_model.specs.AnnotationGrammar.{sum_operators, difference_operators, shift_operators, bit_and_operators, bit_xor_operators, bit_or_operators}
use Rattle.c_model.specs.AnnotationGrammar.{conjunction_operators, exclusion_operators, disjunction_operators, equivalence_operators, relations_behind, direction_behind}
use Rattle.c_model.specs.AnnotationGrammar.{joined_forms, chained, integer_word, named_form, literal_form, null_form, sized_form, atom}
use Rattle.c_model.specs.AnnotationGrammar.{cast_behind, cast_to_type, cast_to_integer, FormEnd, ByRange, ByQuantifier, quantifier_end, endless, Spanned, zone_of, zones_of, unended_kinds, unended, unended_only}
use Rattle.c_model.specs.AnnotationGrammar.{as_it_is, first_behind, told_form, asked_form, next_zone, some_zones, separated_form, result_form}
use Rattle.c_model.specs.AnnotationGrammar.{old_form, labelled_form, worded, indexed, dotted, pointed, postfix_once, postfixes, worded_postfix, closed_postfix}
use Rattle.c_model.specs.AnnotationGrammar.{parenthesised, behind_parenthesis, prefixed, bare_prefix, prefix_of, prefix, joined_once, joined_more, joined}
use Rattle.c_model.specs.AnnotationGrammar.{quantifier_of, placed_name, next_name, some_names, binder_type, binders, quantified, product, added_rest, ranged, behind_first, added_parenthesis, added, sum_once, sum_more, zone_sum, linked, links_of}
use Rattle.c_model.specs.AnnotationGrammar.{links, chain_behind, chain_of, implied, implication_behind, implication_of, whole, zone}
use Rattle.c_model.specs.AnnotationGrammar.{sum, chain, bit_or, disjunction, implication, chosen_behind, choice_behind, form_of, forms, form}
use Rattle.c_model.specs.ClauseGrammar.{LoopClauses, no_clauses, with_loop_clause, Assertions, Contracted, Looped, loop_kind, assigns_kind, first_own, assigns, full_assigns, looped, loop_assigns, loop_clause, full_loop_clause}
use Rattle.c_model.specs.ClauseGrammar.{next_loop_clause, more_loop_clauses, loop_clauses, next_own, more_owns, placed_own}
use Rattle.c_model.specs.ClauseGrammar.{ReadAnnotation, kind_in, kind_among, fixed_word, clause_kind, first_in, first_cover, behavior_kind}
use Rattle.c_model.specs.ClauseGrammar.{form_clause, full_clause, next_clause, more_clauses, asserts, behavior, next_behavior}
use Rattle.c_model.specs.ClauseGrammar.{more_behaviors, full_cover, next_cover, more_covers, behaviors_and_covers, own_first, behavior_first, cover_first, contract, clauses, annotations}
use Rattle.c_model.specs.PlacedForms.{stands_at, names_at, nodes_at, links_at, zone_at, zones_at, clause_at, annotations_at, behaviors_at, contract_at}
use Rattle.c_reader.proofs.PlacedReadings.{From, from_none, from_more, from_gives, from_then, from_choice, from_at_most, from_any, from_many, IsPlaceWithin, fixed_from, placed_from}
use Rattle.c_reader.proofs.Places.{Within, within_none, within_place, within_two, within_as, within_wider, token_then, between_two, token_behind}

-- a production that stands in itself
module _ {size : ℕ} {S A : Type 0} {F : (S → Syntax PlainToken A) → S → Syntax PlainToken A} {P : ℕ → ℕ → A → Type 0}
    (step : (U : S → Syntax PlainToken A) → ((s : S) (l : ℕ) → From size l (U s) (P l)) → (s : S) (l : ℕ) → From size l (F U s) (P l)) where
  from_knot_at : (n : ℕ) (s : S) (l : ℕ) → From size l (knot_at F n s) (P l)
  from_knot_at zero s l = from_none
  from_knot_at (suc n) s l = step (knot_at F n) (from_knot_at n) s l

  from_knot : (s : S) (l : ℕ) → From size l (knot F s) (P l)
  from_knot s l = record { holds = λ a x n o t r. (from_knot_at r.0 s l).holds a x n o t r.1 }

-- ---- what is read from one offset to another

abbrev FormIn : ℕ → ℕ → Form → Type 0
FormIn l n f = Within l n (λ o. nodes_at o f)

abbrev ZoneIn : ℕ → ℕ → FormZone → Type 0
ZoneIn l n z = Within l n (λ o. zone_at o z)

abbrev ZonesIn : ℕ → ℕ → List FormZone → Type 0
ZonesIn l n zs = Within l n (λ o. zones_at o (zones_of zs))

abbrev span_at : ℕ → Option FormEnd → ℕ
span_at o None = 0
span_at o (Some (ByRange at lo hi)) = stands_at o at + (nodes_at o lo + nodes_at o hi)
span_at o (Some ByQuantifier) = 0

end_at : (o : ℕ) (e : Option FormEnd) → span_at o (Some (quantifier_end e)) ≡ span_at o e
end_at o None = refl
end_at o (Some e) = refl

abbrev NamesIn : ℕ → ℕ → List (Place × ℕ) → Type 0
NamesIn l n names = Within l n (λ o. names_at o names)

names_behind : (o : ℕ) (names : List (Place × ℕ)) (x : Place × ℕ) → names_at o (names ++ x ∷ []) ≡ names_at o names + stands_at o x.0
names_behind o [] x = omega arith
names_behind o (y ∷ names) x = let e = names_behind o names x in omega (arith, e)

abbrev SpanIn : ℕ → ℕ → Spanned Form → Type 0
SpanIn l n x = Within l n (λ o. nodes_at o x.0 + span_at o x.1)

abbrev LinksIn : ℕ → ℕ → Spanned FormLinks → Type 0
LinksIn l n x = Within l n (λ o. links_at o x.0 + span_at o x.1)

bare : {l n : ℕ} (f : Form) → FormIn l n f → SpanIn l n (f, None)
bare f h = within_as h (λ o. omega arith)

unspanned : {l n : ℕ} (f : Form) → SpanIn l n (f, None) → FormIn l n f
unspanned f h = within_as h (λ o. omega arith)

joined_at : (o : ℕ) (op : FormulaOperator × Place) (a b : Form) → nodes_at o (joined_forms op a b) ≡ stands_at o op.1 + (nodes_at o a + nodes_at o b)
joined_at o (Term op, at) a b = refl
joined_at o (Predicate c, at) a b = refl

chained_at : (o : ℕ) (a : Form) (ls : FormLinks) → nodes_at o (chained a ls) ≡ nodes_at o a + links_at o ls
chained_at o a NoLink = omega arith
chained_at o a (Linked at r b ls) = refl

zone_of_at : (o : ℕ) (x : Spanned Form) → zone_at o (zone_of x) ≡ nodes_at o x.0 + span_at o x.1
zone_of_at o (f, None) = omega arith
zone_of_at o (f, Some (ByRange at lo hi)) = omega arith
zone_of_at o (f, Some ByQuantifier) = omega arith

zones_behind : (o : ℕ) (zs : List FormZone) (z : FormZone) → zones_at o (zones_of (zs ++ z ∷ [])) ≡ zones_at o (zones_of zs) + zone_at o z
zones_behind o [] z = omega arith
zones_behind o (y ∷ zs) z = let e = zones_behind o zs z in omega (arith, e)

-- how often annotations stand over an offset
abbrev pub annotation_at : ℕ → ReadAnnotation → ℕ
annotation_at o (Assertions asserts) = annotations_at o asserts
annotation_at o (Contracted c) = contract_at o (Some c)
annotation_at o (Looped l) = annotations_at o l.clauses

module _ (size : ℕ) (ws : Vocabulary) where
  closed_in : {l : ℕ} {A : Type 0} (P : ℕ → A → Type 0) (x : A) → ((n : ℕ) → l ≤ n → P n x) → From size l (closed ws x) P
  unfolding closed
  closed_in P x p = from_then (from_any (mark ws right_paren)) (λ n _ le. from_gives x (p n le))

  -- ---- primary and prefix forms

  named_from : (l : ℕ) → From size l (named_form ws) (FormIn l)
  unfolding named_form
  named_from l = from_then (placed_from (formula_name_of ws) l) (λ n x p. from_gives _ (within_place l n x.1 p))

  literal_from : (l : ℕ) → From size l (literal_form ws) (FormIn l)
  unfolding literal_form
  literal_from l =
      from_choice (formula_kind ws) (number_kind ∷ []) (from_then (placed_from number_of l) (λ n x p. from_gives _ (within_place l n x.1 p)))
      (from_choice (formula_kind ws) (letter_kind ∷ []) (from_then (placed_from letter_of l) (λ n x p. from_gives _ (within_place l n x.1 p)))
      (from_then (placed_from (truth_of ws) l) (λ n x p. from_gives _ (within_place l n x.1 p))))

  sized_from : (l : ℕ) → From size l (sized_form ws) (FormIn l)
  unfolding sized_form
  sized_from l =
      from_then (fixed_from ws (keyword_kind keyword.Sizeof) l) (λ m at p. from_then (from_any (mark ws left_paren)) (λ i _ le. from_then (from_any (type_name ws (expression ws))) (λ j t lf.
      closed_in (FormIn l) (SizeOf at t) (λ n lg. within_wider l n (omega arith) (omega (arith, le, lf, lg)) (within_place l m at p)))))

  null_from : (l : ℕ) → From size l (null_form ws) (FormIn l)
  unfolding null_form
  null_from l = from_then (fixed_from ws null_kind l) (λ n at p. from_gives _ (within_place l n at p))

  result_from : (l : ℕ) → From size l (result_form ws) (FormIn l)
  unfolding result_form
  result_from l = from_then (fixed_from ws result_kind l) (λ n at p. from_gives _ (within_place l n at p))

  atom_from : (l : ℕ) → From size l (atom ws) (FormIn l)
  unfolding atom
  atom_from l =
      from_choice (formula_kind ws) (name_kind ∷ []) (named_from l)
      (from_choice (formula_kind ws) (null_kind ∷ []) (null_from l) (from_choice (formula_kind ws) (result_kind ∷ []) (result_from l) (literal_from l)))

  -- a token, and an operand behind it with what ends that
  operand_then : {l m i : ℕ} (n : ℕ) (at : Place) (x : Spanned Form) → IsPlaceWithin l m at → m ≤ i → SpanIn i n x → Within l n (λ o. (stands_at o at + nodes_at o x.0) + span_at o x.1)
  operand_then n at x h le q = within_as (token_then {c = λ o. nodes_at o x.0 + span_at o x.1} n at h le q (omega arith)) (λ o. omega arith)

  -- ---- names, and the binders of quantifiers

  name_from : (l : ℕ) → From size l (placed_name ws) (λ n x. Within l n (λ o. stands_at o x.0))
  unfolding placed_name
  name_from l = from_then (placed_from (formula_name_of ws) l) (λ n x p. from_gives _ (within_place l n x.1 p))

  next_name_from : (l m : ℕ) (names : List (Place × ℕ)) → NamesIn l m names → From size m (next_name ws names) (NamesIn l)
  unfolding next_name
  next_name_from l m names h = from_then (from_any (mark ws comma)) (λ i _ le. from_then (name_from i) (λ n x q.
      from_gives _ (within_as (within_two l i n (λ o. names_at o names) (λ o. stands_at o x.0) (within_wider l i (omega arith) le h) q) (λ o. names_behind o names x))))

  some_names_from : (l : ℕ) → From size l (some_names ws) (NamesIn l)
  unfolding some_names
  some_names_from l = from_then (name_from l) (λ m x q. from_many (formula_kind ws) (λ _. mark_kind comma ∷ []) {P = NamesIn l} (λ i names p. next_name_from l i names p) m (x ∷ []) (within_as q (λ o. omega arith)))

  binders_from : (l : ℕ) → From size l (binders ws) (λ n b. NamesIn l n b.1)
  unfolding binders
  binders_from l = from_then (from_any (binder_type ws)) (λ i t le. from_then (some_names_from i) (λ j names q. from_then (from_any (mark ws semicolon)) (λ n _ lf. from_gives _ (within_wider l n le lf q))))

  module _ {L : Syntax PlainToken (Spanned Form)} (f : (l : ℕ) → From size l L (SpanIn l)) where
    quantified_from : (l : ℕ) → From size l (quantified ws L) (SpanIn l)
    unfolding quantified
    quantified_from l = from_then (placed_from (quantifier_of ws) l) (λ m q p. from_then (binders_from m) (λ i b h. from_then (f i) (λ n x r.
        from_gives _ (within_as (token_then {c = λ o. names_at o b.1 + (nodes_at o x.0 + span_at o x.1)} n q.1 p (omega arith) (within_two m i n (λ o. names_at o b.1) (λ o. nodes_at o x.0 + span_at o x.1) h r) (omega arith))
        (λ o. (let e = end_at o x.1 in omega (arith, e)))))))

  module _ {E : Syntax PlainToken Form} (e : (l : ℕ) → From size l E (FormIn l)) where
    indexed_from : (l m : ℕ) (x : Form) → FormIn l m x → From size m (indexed ws E x) (FormIn l)
    unfolding indexed
    indexed_from l m x h =
        from_then (fixed_from ws (mark_kind left_bracket) m) (λ i at p. from_then (e i) (λ j y q. from_then (from_any (mark ws right_bracket)) (λ n _ le. from_gives _ (between_two n at h p (omega arith) q le))))

    dotted_from : (l m : ℕ) (x : Form) → FormIn l m x → From size m (dotted ws x) (FormIn l)
    unfolding dotted
    dotted_from l m x h = from_then (fixed_from ws (mark_kind dot) m) (λ i at p. from_then (from_any (any_name ws)) (λ n _ le. from_gives _ (token_behind n at h p le)))

    pointed_from : (l m : ℕ) (x : Form) → FormIn l m x → From size m (pointed ws x) (FormIn l)
    unfolding pointed
    pointed_from l m x h = from_then (fixed_from ws (mark_kind arrow) m) (λ i at p. from_then (from_any (any_name ws)) (λ n _ le. from_gives _ (token_behind n at h p le)))

    postfix_once_from : (l m : ℕ) (x : Form) → FormIn l m x → From size m (postfix_once ws E x) (FormIn l)
    unfolding postfix_once
    postfix_once_from l m x h =
        from_choice (formula_kind ws) (mark_kind left_bracket ∷ []) (indexed_from l m x h) (from_choice (formula_kind ws) (mark_kind dot ∷ []) (dotted_from l m x h) (pointed_from l m x h))

    postfixes_from : (l m : ℕ) (x : Form) → FormIn l m x → From size m (postfixes ws E x) (FormIn l)
    unfolding postfixes
    postfixes_from l m x h = from_many (formula_kind ws) (λ _. first_behind) {P = FormIn l} (λ i y q. postfix_once_from l i y q) m x h

    closed_postfix_from : (l m : ℕ) (x : Form) → FormIn l m x → From size m (closed_postfix ws E x) (FormIn l)
    unfolding closed_postfix
    closed_postfix_from l m x h = from_then (from_any (mark ws right_paren)) (λ i _ le. postfixes_from l i x (within_wider l i (omega arith) le h))

    told_from : (l : ℕ) → From size l (told_form ws E) (FormIn l)
    unfolding told_form
    told_from l = from_then (placed_from (fact_of ws) l) (λ m f p. from_then (from_any (mark ws left_paren)) (λ i _ le. from_then (e i) (λ j x q.
        closed_in (FormIn l) (Told f.1 f.0 x) (λ n lf. token_then n f.1 p le q lf))))

    old_from : (l : ℕ) → From size l (old_form ws E) (FormIn l)
    unfolding old_form
    old_from l = from_then (fixed_from ws old_kind l) (λ m at p. from_then (from_any (mark ws left_paren)) (λ i _ le. from_then (e i) (λ j x q.
        closed_in (FormIn l) (Old at x) (λ n lf. token_then n at p le q lf))))

    labelled_from : (l : ℕ) → From size l (labelled_form ws E) (FormIn l)
    unfolding labelled_form
    labelled_from l = from_then (fixed_from ws at_kind l) (λ m at p. from_then (from_any (mark ws left_paren)) (λ i _ le. from_then (e i) (λ j x q. from_then (from_any (mark ws comma)) (λ k _ lf.
        from_then (from_any (one (placed (formula_name_of ws)))) (λ h y lg. closed_in (FormIn l) (At at x y.1 y.0) (λ n lh. token_then n at p le q (omega (arith, lf, lg, lh))))))))

  module _ {Z : Syntax PlainToken FormZone} (z : (l : ℕ) → From size l Z (ZoneIn l)) where
    asked_from : (l : ℕ) → From size l (asked_form ws Z) (FormIn l)
    unfolding asked_form
    asked_from l = from_then (placed_from (question_of ws) l) (λ m f p. from_then (from_any (mark ws left_paren)) (λ i _ le. from_then (z i) (λ j x q.
        closed_in (FormIn l) (Asks f.1 f.0 x) (λ n lf. token_then n f.1 p le q lf))))

    next_zone_from : (l m : ℕ) (zs : List FormZone) → ZonesIn l m zs → From size m (next_zone ws Z zs) (ZonesIn l)
    unfolding next_zone
    next_zone_from l m zs h = from_then (from_any (mark ws comma)) (λ i _ le. from_then (z i) (λ n y q.
        from_gives _ (within_as (within_two l i n (λ o. zones_at o (zones_of zs)) (λ o. zone_at o y) (within_wider l i (omega arith) le h) q) (λ o. zones_behind o zs y))))

    some_zones_from : (l : ℕ) → From size l (some_zones ws Z) (ZonesIn l)
    unfolding some_zones
    some_zones_from l = from_then (z l) (λ i y q. from_then (next_zone_from l i (y ∷ []) (within_as q (λ o. omega arith))) (λ j ys p.
        from_many (formula_kind ws) (λ _. mark_kind comma ∷ []) {P = ZonesIn l} (λ m xs s. next_zone_from l m xs s) j ys p))

    separated_from : (l : ℕ) → From size l (separated_form ws Z) (FormIn l)
    unfolding separated_form
    separated_from l = from_then (fixed_from ws separated_kind l) (λ m at p. from_then (from_any (mark ws left_paren)) (λ i _ le. from_then (some_zones_from i) (λ j zs q.
        closed_in (FormIn l) (Separated at (zones_of zs)) (λ n lf. token_then n at p le q lf))))

  module _ {E : Syntax PlainToken Form} (e : (l : ℕ) → From size l E (FormIn l)) {Z : Syntax PlainToken FormZone} (z : (l : ℕ) → From size l Z (ZoneIn l)) where
    worded_from : (l : ℕ) → From size l (worded ws E Z) (FormIn l)
    unfolding worded
    worded_from l =
        from_choice (formula_kind ws) (fact_kind ∷ []) (told_from e l)
        (from_choice (formula_kind ws) (question_kind ∷ []) (asked_from z l)
        (from_choice (formula_kind ws) (separated_kind ∷ []) (separated_from z l)
        (from_choice (formula_kind ws) (old_kind ∷ []) (old_from e l) (from_choice (formula_kind ws) (at_kind ∷ []) (labelled_from e l) (atom_from l)))))

    worded_postfix_from : (l : ℕ) → From size l (worded_postfix ws E Z) (FormIn l)
    unfolding worded_postfix
    worded_postfix_from l = from_then (worded_from l) (λ m x p. postfixes_from e l m x p)

    module _ {P : Syntax PlainToken (Spanned Form)} (p : (l : ℕ) → From size l P (SpanIn l)) where
      cast_from : (l m i : ℕ) (at : Place) (t : CastType) → IsPlaceWithin l m at → m ≤ i → From size i (cast_behind ws P at t) (SpanIn l)
      unfolding cast_behind
      cast_from l m i at t h le = from_then (from_any (mark ws right_paren)) (λ j _ lf. from_then (p j) (λ n x q. from_gives _ (operand_then n at x h (omega (arith, le, lf)) q)))

      to_type_from : (l m : ℕ) (at : Place) → IsPlaceWithin l m at → From size m (cast_to_type ws P at) (SpanIn l)
      unfolding cast_to_type
      to_type_from l m at h = from_then (from_any (type_name ws (expression ws))) (λ i t le. cast_from l m i at (OfC t) h le)

      to_integer_from : (l m : ℕ) (at : Place) → IsPlaceWithin l m at → From size m (cast_to_integer ws P at) (SpanIn l)
      unfolding cast_to_integer
      to_integer_from l m at h = from_then (from_any (integer_word ws)) (λ i _ le. cast_from l m i at Integers h le)

      prefixed_from : (l : ℕ) → From size l (prefixed ws P) (SpanIn l)
      unfolding prefixed
      prefixed_from l = from_then (placed_from (mark_entry prefix_operators) l) (λ m o h. from_then (p m) (λ n x q. from_gives _ (operand_then n o.1 x h (omega arith) q)))

      parenthesised_from : (l m : ℕ) → l ≤ m → From size m (parenthesised ws E) (SpanIn l)
      unfolding parenthesised
      parenthesised_from l m le = from_then (e m) (λ i x q. from_then (closed_postfix_from e l i x (within_wider l i le (omega arith) q)) (λ n y r. from_gives _ (bare _ r)))

      behind_from : (l m : ℕ) (at : Place) → IsPlaceWithin l m at → From size m (behind_parenthesis ws E P at) (SpanIn l)
      unfolding behind_parenthesis
      behind_from l m at h =
          from_choice (formula_kind ws) first_type (to_type_from l m at h)
          (from_choice (formula_kind ws) (integer_kind ∷ []) (to_integer_from l m at h) (parenthesised_from l m (omega (arith, h.from, h.to))))

    endless_from : {G : Syntax PlainToken Form} → ((l : ℕ) → From size l G (FormIn l)) → (l : ℕ) → From size l (endless G) (SpanIn l)
    endless_from g l = from_then (g l) (λ n x p. from_gives _ (bare _ p))

    module _ {L : Syntax PlainToken (Spanned Form)} (f : (l : ℕ) → From size l L (SpanIn l)) where
      bare_prefix_from : {P : Syntax PlainToken (Spanned Form)} → ((l : ℕ) → From size l P (SpanIn l)) → (l : ℕ) → From size l (bare_prefix ws E Z L P) (SpanIn l)
      unfolding bare_prefix
      bare_prefix_from p l =
          from_choice (formula_kind ws) (kinds_of prefix_operators) (prefixed_from p l)
          (from_choice (formula_kind ws) (keyword_kind keyword.Sizeof ∷ []) (endless_from sized_from l)
          (from_choice (formula_kind ws) (quantifier_kind ∷ []) (quantified_from f l) (endless_from worded_postfix_from l)))

      prefix_of_from : {P : Syntax PlainToken (Spanned Form)} → ((l : ℕ) → From size l P (SpanIn l)) → (l : ℕ) → From size l (prefix_of ws E Z L P) (SpanIn l)
      unfolding prefix_of
      prefix_of_from p l =
          from_choice (formula_kind ws) (mark_kind left_paren ∷ []) (from_then (fixed_from ws (mark_kind left_paren) l) (λ m at h. behind_from p l m at h)) (bare_prefix_from p l)

      prefix_from : (l : ℕ) → From size l (prefix ws E Z L) (SpanIn l)
      unfolding prefix
      prefix_from l = from_knot {P = SpanIn} (λ P p u m. prefix_of_from (p u) m) tt l

  -- ---- what stands behind a form that nothing ends

  unended_from : (l : ℕ) (G : Form → Syntax PlainToken (Spanned Form)) → ((m : ℕ) (a : Form) → FormIn l m a → From size m (G a) (SpanIn l)) → (m : ℕ) (x : Spanned Form) → SpanIn l m x → From size m (unended G as_it_is x) (SpanIn l)
  unended_from l G g m (a, None) p = g m a (unspanned a p)
  unended_from l G g m (a, Some r) p = from_gives _ p

  only_from : (l : ℕ) (G : Form → Syntax PlainToken (Spanned Form)) → ((m : ℕ) (a : Form) → FormIn l m a → From size m (G a) (SpanIn l)) → (m : ℕ) (x : Spanned Form) → SpanIn l m x → From size m (unended_only G x) (SpanIn l)
  only_from l G g m (a, None) p = g m a (unspanned a p)
  only_from l G g m (a, Some r) p = from_none

  -- ---- operators

  -- a form, an operator behind it, and one more form with what ends it
  operated : (l m i n : ℕ) (at : Place) (left : Form) (right : Spanned Form) → FormIn l m left → IsPlaceWithin m i at → SpanIn i n right → Within l n (λ o. (stands_at o at + (nodes_at o left + nodes_at o right.0)) + span_at o right.1)
  operated l m i n at left right h p q =
      within_as {d = λ o. (stands_at o at + (nodes_at o left + nodes_at o right.0)) + span_at o right.1} (between_two {d = λ o. nodes_at o right.0 + span_at o right.1} n at h p (omega arith) q (omega arith)) (λ o. omega arith)

  module _ (table : List (ℕ × FormulaOperator)) {R : Syntax PlainToken (Spanned Form)} (r : (l : ℕ) → From size l R (SpanIn l)) where
    joined_once_from : (l m : ℕ) (left : Form) → FormIn l m left → From size m (joined_once ws table R left) (SpanIn l)
    unfolding joined_once
    joined_once_from l m left h = from_then (placed_from (mark_entry table) m) (λ i o p. from_then (r i) (λ n right q.
        from_gives _ (within_as (operated l m i n o.1 left right h p q) (λ k. (let e = joined_at k o left right.0 in omega (arith, e))))))

    joined_more_from : (l m : ℕ) (left : Spanned Form) → SpanIn l m left → From size m (joined_more ws table R left) (SpanIn l)
    unfolding joined_more
    joined_more_from l m left h = from_many (formula_kind ws) (unended_kinds (kinds_of table)) {P = SpanIn l} (λ i y q. only_from l (joined_once ws table R) (λ j a k. joined_once_from l j a k) i y q) m left h

    joined_from : (l : ℕ) → From size l (joined ws table R) (SpanIn l)
    unfolding joined
    joined_from l = from_then (r l) (λ m left h. joined_more_from l m left h)

  module _ {E : Syntax PlainToken Form} (e : (l : ℕ) → From size l E (FormIn l)) {Z : Syntax PlainToken FormZone} (z : (l : ℕ) → From size l Z (ZoneIn l)) {L : Syntax PlainToken (Spanned Form)} (f : (l : ℕ) → From size l L (SpanIn l)) where
    product_from : (l : ℕ) → From size l (product ws E Z L) (SpanIn l)
    product_from l = joined_from product_operators (prefix_from e z f) l

    -- ---- sums in the mode of a zone

    -- after a form, and a `+` behind it
    module _ (l m i : ℕ) (left : Form) (at : Place) (h : FormIn l m left) (p : IsPlaceWithin m i at) where
      rest_from : (j : ℕ) (x : Spanned Form) → SpanIn i j x → From size j (added_rest ws E Z L left at x) (SpanIn l)
      unfolding added_rest
      rest_from j x q = from_then (joined_more_from product_operators (prefix_from e z f) i j x q) (λ n y r. from_gives _ (operated l m i n at left y h p r))

      ranged_from : (j : ℕ) (lo : Form) → FormIn i j lo → From size j (ranged ws E left at lo) (SpanIn l)
      unfolding ranged
      ranged_from j lo q = from_then (from_any (mark ws dots)) (λ k _ le. from_then (e k) (λ o hi r. closed_in (SpanIn l) _ (λ n lf.
          within_as (between_two {d = λ x. nodes_at x lo + nodes_at x hi} n at h p (omega arith) (within_two i k o (λ x. nodes_at x lo) (λ x. nodes_at x hi) (within_wider i k (omega arith) le q) r) lf) (λ x. omega arith))))

      behind_first_from : (j : ℕ) (x : Form) → FormIn i j x → From size j (behind_first ws E Z L left at x) (SpanIn l)
      unfolding behind_first
      behind_first_from j x q = from_choice (formula_kind ws) (mark_kind dots ∷ []) (ranged_from j x q) (from_then (closed_postfix_from e i j x q) (λ k y r. rest_from k (y, None) (bare _ r)))

      added_parenthesis_from : (j : ℕ) (paren : Place) → IsPlaceWithin i j paren → From size j (added_parenthesis ws E Z L left at paren) (SpanIn l)
      unfolding added_parenthesis
      added_parenthesis_from j paren q =
          from_choice (formula_kind ws) first_type (from_then (to_type_from e z (prefix_from e z f) i j paren q) (λ k x r. rest_from k x r))
          (from_choice (formula_kind ws) (integer_kind ∷ []) (from_then (to_integer_from e z (prefix_from e z f) i j paren q) (λ k x r. rest_from k x r))
          (from_then (e j) (λ k x r. behind_first_from k x (within_wider i k (omega (arith, q.from, q.to)) (omega arith) r))))

      added_from : From size i (added ws E Z L left at) (SpanIn l)
      unfolding added
      added_from =
          from_choice (formula_kind ws) (mark_kind left_paren ∷ []) (from_then (fixed_from ws (mark_kind left_paren) i) (λ j paren q. added_parenthesis_from j paren q))
          (from_then (bare_prefix_from e z f (prefix_from e z f) i) (λ j x q. rest_from j x q))

    sum_once_from : (l m : ℕ) (left : Form) → FormIn l m left → From size m (sum_once ws E Z L left) (SpanIn l)
    unfolding sum_once
    sum_once_from l m left h =
        from_choice (formula_kind ws) (mark_kind plus ∷ []) (from_then (fixed_from ws (mark_kind plus) m) (λ i at p. added_from l m i left at h p)) (joined_once_from difference_operators product_from l m left h)

    zone_sum_from : (l : ℕ) → From size l (zone_sum ws E Z L) (SpanIn l)
    unfolding zone_sum sum_more
    zone_sum_from l = from_then (product_from l) (λ m x p.
        from_many (formula_kind ws) (unended_kinds (kinds_of sum_operators)) {P = SpanIn l} (λ i y q. only_from l (sum_once ws E Z L) (λ j a k. sum_once_from l j a k) i y q) m x p)

    sum_from : (m : FormulaMode) (l : ℕ) → From size l (sum ws E Z L m) (SpanIn l)
    sum_from Alone l = joined_from sum_operators product_from l
    sum_from Zone l = zone_sum_from l

  -- ---- chains

  module _ {R : Syntax PlainToken (Spanned Form)} (r : (l : ℕ) → From size l R (SpanIn l)) where
    -- an operand, and the links behind it
    behind_operand : {L : Syntax PlainToken (Spanned FormLinks)} → ((l : ℕ) → From size l L (LinksIn l)) → (l m : ℕ) (x : Spanned Form) → SpanIn l m x
        → From size m (unended (λ _. L) (λ _. NoLink) x) (λ n ls. Within l n (λ o. nodes_at o x.0 + (links_at o ls.0 + span_at o ls.1)))
    behind_operand g l m (a, None) p = from_more (λ n ls q. within_two l m n (λ o. nodes_at o a) (λ o. links_at o ls.0 + span_at o ls.1) (unspanned a p) q) (g m)
    behind_operand g l m (a, Some s) p = from_gives _ (within_as p (λ o. omega arith))

    linked_from : {L : ChainDirection → Syntax PlainToken (Spanned FormLinks)} → ((d : ChainDirection) (l : ℕ) → From size l (L d) (LinksIn l)) → (d : ChainDirection) (l : ℕ) → From size l (linked ws R L d) (LinksIn l)
    unfolding linked
    linked_from g d l = from_then (placed_from (mark_entry (relations_behind d)) l) (λ m y p. from_then (r m) (λ i x q. from_then (behind_operand (g (direction_behind d y.0)) m i x q) (λ n ls s.
        from_gives _ (within_as (token_then {c = λ o. nodes_at o x.0 + (links_at o ls.0 + span_at o ls.1)} n y.1 p (omega arith) s (omega arith)) (λ o. omega arith)))))

    links_of_from : {L : ChainDirection → Syntax PlainToken (Spanned FormLinks)} → ((d : ChainDirection) (l : ℕ) → From size l (L d) (LinksIn l)) → (d : ChainDirection) (l : ℕ) → From size l (links_of ws R L d) (LinksIn l)
    unfolding links_of
    links_of_from g d l = from_choice (formula_kind ws) (kinds_of (relations_behind d)) (linked_from g d l) (from_gives _ (within_none l l (omega arith)))

    links_from : (d : ChainDirection) (l : ℕ) → From size l (links ws R d) (LinksIn l)
    unfolding links
    links_from d l = from_knot {P = LinksIn} (λ L g d m. links_of_from g d m) d l

    chain_behind_from : (l m : ℕ) (x : Form) → FormIn l m x → From size m (chain_behind ws R x) (SpanIn l)
    unfolding chain_behind
    chain_behind_from l m x h = from_then (links_from Start m) (λ n ls q. from_gives _ (within_as (within_two l m n (λ o. nodes_at o x) (λ o. links_at o ls.0 + span_at o ls.1) h q) (λ o. (let e = chained_at o x ls.0 in omega (arith, e)))))

    chain_from : (l : ℕ) → From size l (chain_of ws R) (SpanIn l)
    unfolding chain_of
    chain_from l = from_then (r l) (λ m x p. unended_from l (chain_behind ws R) (λ i a q. chain_behind_from l i a q) m x p)

  -- ---- forms, level by level

  module _ {E : Syntax PlainToken Form} (e : (l : ℕ) → From size l E (FormIn l)) {Z : Syntax PlainToken FormZone} (z : (l : ℕ) → From size l Z (ZoneIn l)) {L : Syntax PlainToken (Spanned Form)} (f : (l : ℕ) → From size l L (SpanIn l))
      (m : FormulaMode) where
    relation_from : (l : ℕ) → From size l (chain ws E Z L m) (SpanIn l)
    relation_from l = chain_from (joined_from shift_operators (sum_from e z f m)) l

    bit_from : (l : ℕ) → From size l (bit_or ws E Z L m) (SpanIn l)
    bit_from l = joined_from bit_or_operators (joined_from bit_xor_operators (joined_from bit_and_operators relation_from)) l

    disjunction_from : (l : ℕ) → From size l (disjunction ws E Z L m) (SpanIn l)
    disjunction_from l = joined_from disjunction_operators (joined_from exclusion_operators (joined_from conjunction_operators bit_from)) l

    implied_from : {I : Syntax PlainToken (Spanned Form)} → ((l : ℕ) → From size l I (SpanIn l)) → (l i : ℕ) (a : Form) → FormIn l i a → From size i (implied ws I a) (SpanIn l)
    unfolding implied
    implied_from g l i a h = from_then (fixed_from ws (mark_kind implies) i) (λ j at p. from_then (g j) (λ n y q. from_gives _ (operated l i j n at a y h p q)))

    implication_behind_from : {I : Syntax PlainToken (Spanned Form)} → ((l : ℕ) → From size l I (SpanIn l)) → (l i : ℕ) (a : Form) → FormIn l i a → From size i (implication_behind ws I a) (SpanIn l)
    unfolding implication_behind
    implication_behind_from g l i a h = from_choice (formula_kind ws) (mark_kind implies ∷ []) (implied_from g l i a h) (from_gives _ (bare _ h))

    implication_of_from : {I : Syntax PlainToken (Spanned Form)} → ((l : ℕ) → From size l I (SpanIn l)) → (l : ℕ) → From size l (implication_of ws (disjunction ws E Z L m) I) (SpanIn l)
    unfolding implication_of
    implication_of_from {I} g l = from_then (disjunction_from l) (λ i x p. unended_from l (implication_behind ws I) (λ j a q. implication_behind_from g l j a q) i x p)

    implication_from : (l : ℕ) → From size l (implication ws E Z L m) (SpanIn l)
    unfolding implication
    implication_from l = from_knot {P = SpanIn} (λ I g u i. implication_of_from (g u) i) tt l

  module _ {F : FormulaMode → Syntax PlainToken (Spanned Form)} (f : (m : FormulaMode) (l : ℕ) → From size l (F m) (SpanIn l)) where
    whole_from : (l : ℕ) → From size l (whole ws F) (FormIn l)
    unfolding whole
    whole_from l = from_then (f Alone l) (λ n x p.
        from_gives _ (record { on = p.on; before = λ o lt. (let y = p.before o lt in omega (arith, y)); once = λ o. (let y = p.once o in omega (arith, y)); behind = λ o ge. (let y = p.behind o ge in omega (arith, y)) }))

    zone_from : (l : ℕ) → From size l (zone ws F) (ZoneIn l)
    unfolding zone
    zone_from l = from_then (f Zone l) (λ n x p. from_gives _ (within_as p (λ o. zone_of_at o x)))

    chosen_from : (m : FormulaMode) (l i : ℕ) (c : Form) → FormIn l i c → From size i (chosen_behind ws (whole ws F) (F m) c) (SpanIn l)
    unfolding chosen_behind
    chosen_from m l i c h = from_then (fixed_from ws (mark_kind question) i) (λ j at p. from_then (whole_from j) (λ k x q. from_then (from_any (mark ws colon)) (λ s _ le. from_then (f m s) (λ n y r.
        from_gives _ (within_as (between_two {d = λ o. nodes_at o x + (nodes_at o y.0 + span_at o y.1)} n at h p (omega arith)
        (within_two j s n (λ o. nodes_at o x) (λ o. nodes_at o y.0 + span_at o y.1) (within_wider j s (omega arith) le q) r) (omega arith))
        (λ o. omega arith))))))

    choice_from : (m : FormulaMode) (l i : ℕ) (c : Form) → FormIn l i c → From size i (choice_behind ws (whole ws F) (F m) c) (SpanIn l)
    unfolding choice_behind
    choice_from m l i c h = from_choice (formula_kind ws) (mark_kind question ∷ []) (chosen_from m l i c h) (from_gives _ (bare _ h))

    form_of_from : (m : FormulaMode) (l : ℕ) → From size l (form_of ws F m) (SpanIn l)
    unfolding form_of
    form_of_from m l = from_then (joined_from equivalence_operators (implication_from whole_from zone_from (f m) m) l) (λ i x p. unended_from l (choice_behind ws (whole ws F) (F m)) (λ j a q. choice_from m l j a q) i x p)

  forms_from : (m : FormulaMode) (l : ℕ) → From size l (forms ws m) (SpanIn l)
  unfolding forms
  forms_from m l = from_knot {P = SpanIn} (λ F f m i. form_of_from f m i) m l

  form_from : (l : ℕ) → From size l (form ws) (FormIn l)
  form_from l = whole_from forms_from l

  -- ---- clauses

  abbrev ClauseIn : ℕ → ℕ → Annotation → Type 0
  ClauseIn l n a = Within l n (λ o. clause_at o a.body)

  abbrev ClausesIn : ℕ → ℕ → List Annotation × ℕ → Type 0
  ClausesIn l n x = Within l n (λ o. annotations_at o x.0)

  annotations_behind : (o : ℕ) (xs : List Annotation) (a : Annotation) → annotations_at o (xs ++ a ∷ []) ≡ annotations_at o xs + clause_at o a.body
  annotations_behind o [] a = omega arith
  annotations_behind o (x ∷ xs) a = let e = annotations_behind o xs a in omega (arith, e)

  clause_from : (g : ClauseGroup) (n l : ℕ) → From size l (form_clause ws g n) (ClauseIn l)
  unfolding form_clause
  clause_from g n l = from_then (from_any (one (placed (kind_among ws (kind_in g))))) (λ m k le. from_then (form_from m) (λ i f q. from_then (from_any (mark ws semicolon)) (λ j _ lf. from_gives _ (within_wider l j le lf q))))

  full_clause_from : (g : ClauseGroup) (n l : ℕ) → From size l (full_clause ws g n) (ClauseIn l)
  unfolding full_clause
  full_clause_from g n l = from_at_most (clause_from g n l)

  next_clause_from : (g : ClauseGroup) (l m : ℕ) (x : List Annotation × ℕ) → ClausesIn l m x → From size m (next_clause ws g x) (ClausesIn l)
  unfolding next_clause
  next_clause_from g l m x h = from_then (full_clause_from g x.1 m) (λ n a q. from_gives _ (within_as (within_two l m n (λ o. annotations_at o x.0) (λ o. clause_at o a.body) h q) (λ o. annotations_behind o x.0 a)))

  more_clauses_from : (g : ClauseGroup) (l m : ℕ) (x : List Annotation × ℕ) → ClausesIn l m x → From size m (more_clauses ws g x) (ClausesIn l)
  unfolding more_clauses
  more_clauses_from g l m x h = from_many (clause_kind ws) (λ _. first_in g) {P = ClausesIn l} (λ i y q. next_clause_from g l i y q) m x h

  asserts_from : (n l : ℕ) → From size l (asserts ws n) (ClausesIn l)
  unfolding asserts
  asserts_from n l = from_then (next_clause_from group.Asserts l l ([], n) (within_none l l (omega arith))) (λ m x q. more_clauses_from group.Asserts l m x q)

  -- ---- clauses of loops, and those of contracts and of behaviors

  abbrev LoopIn : ℕ → ℕ → LoopClauses × ℕ → Type 0
  LoopIn l n x = Within l n (λ o. annotations_at o x.0.clauses)

  abbrev maybe_at : ℕ → Option Annotation → ℕ
  maybe_at o None = 0
  maybe_at o (Some a) = clause_at o a.body

  with_clause_at : (o : ℕ) (x : LoopClauses × ℕ) (c : Option Annotation) → annotations_at o (with_loop_clause x c).0.clauses ≡ annotations_at o x.0.clauses + maybe_at o c
  with_clause_at o x None = omega arith
  with_clause_at o x (Some a) = annotations_behind o x.0.clauses a

  loop_clause_from : (n l : ℕ) → From size l (loop_clause ws n) (λ m c. Within l m (λ o. maybe_at o c.1))
  unfolding loop_clause loop_assigns looped
  loop_clause_from n l = from_then (from_any (fixed_word ws loop_kind)) (λ m at le. from_choice (clause_kind ws) (assigns_kind ∷ []) (from_then (from_any (assigns ws)) (λ i _ lf. from_gives _ (within_none l i (omega (arith, le, lf)))))
      (from_then (clause_from group.Loop n m) (λ i a q. from_gives _ (within_wider l i le (omega arith) q))))

  full_loop_clause_from : (n l : ℕ) → From size l (full_loop_clause ws n) (λ m c. Within l m (λ o. maybe_at o c.1))
  unfolding full_loop_clause
  full_loop_clause_from n l = from_at_most (loop_clause_from n l)

  next_loop_from : (l m : ℕ) (x : LoopClauses × ℕ) → LoopIn l m x → From size m (next_loop_clause ws x) (LoopIn l)
  unfolding next_loop_clause
  next_loop_from l m x h = from_then (full_loop_clause_from x.1 m) (λ n c q. from_gives _ (within_as (within_two l m n (λ o. annotations_at o x.0.clauses) (λ o. maybe_at o c.1) h q) (λ o. with_clause_at o x c.1)))

  loop_clauses_from : (n l : ℕ) → From size l (loop_clauses ws n) (LoopIn l)
  unfolding loop_clauses more_loop_clauses
  loop_clauses_from n l = from_then (full_loop_clause_from n l) (λ m c q. from_many (clause_kind ws) (λ _. loop_kind ∷ []) {P = LoopIn l} (λ i y p. next_loop_from l i y p) m (with_loop_clause (no_clauses c.0, n) c.1)
      (within_as q (λ o. (let e = with_clause_at o (no_clauses c.0, n) c.1 in omega (arith, e)))))

  next_own_from : (g : ClauseGroup) (l m : ℕ) (x : List Annotation × ℕ) → ClausesIn l m x → From size m (next_own ws g x) (ClausesIn l)
  unfolding next_own
  next_own_from g l m x h = from_choice (clause_kind ws) (assigns_kind ∷ []) (from_then (from_any (full_assigns ws)) (λ n _ le. from_gives _ (within_wider l n (omega arith) le h))) (next_clause_from g l m x h)

  more_owns_from : (g : ClauseGroup) (l m : ℕ) (x : List Annotation × ℕ) → ClausesIn l m x → From size m (more_owns ws g x) (ClausesIn l)
  unfolding more_owns
  more_owns_from g l m x h = from_many (clause_kind ws) (λ _. first_own g) {P = ClausesIn l} (λ i y q. next_own_from g l i y q) m x h

  placed_own_from : (n l : ℕ) → From size l (placed_own ws n) (λ m x. ClausesIn l m x.1)
  unfolding placed_own
  placed_own_from n l = from_choice (clause_kind ws) (assigns_kind ∷ []) (from_then (from_any (full_assigns ws)) (λ m _ le. from_gives _ (within_none l m le)))
      (from_then (full_clause_from group.Contract n l) (λ m a q. from_gives _ (within_as q (λ o. omega arith))))

  -- ---- contracts

  abbrev BehaviorIn : ℕ → ℕ → Place × NamedBehavior × ℕ → Type 0
  BehaviorIn l n b = Within l n (λ o. annotations_at o b.1.clauses)

  abbrev ContractIn : ℕ → ℕ → FunctionContract × ℕ → Type 0
  ContractIn l n c = Within l n (λ o. contract_at o (Some c.0))

  behaviors_behind : (o : ℕ) (bs : List NamedBehavior) (b : NamedBehavior) → behaviors_at o (bs ++ b ∷ []) ≡ behaviors_at o bs + annotations_at o b.clauses
  behaviors_behind o [] b = omega arith
  behaviors_behind o (c ∷ bs) b = let e = behaviors_behind o bs b in omega (arith, e)

  behavior_from : (n l : ℕ) → From size l (behavior ws n) (BehaviorIn l)
  unfolding behavior
  behavior_from n l =
      from_then (from_any (fixed_word ws behavior_kind)) (λ m at le. from_then (from_any (one (placed (formula_name_of ws)))) (λ i x lf. from_then (from_any (mark ws colon)) (λ j _ lg.
      from_then (more_owns_from group.Behavior l j ([], n) (within_none l j (omega (arith, le, lf, lg)))) (λ k c q. from_gives _ q))))

  next_behavior_from : (l m : ℕ) (x : FunctionContract × ℕ) → ContractIn l m x → From size m (next_behavior ws x) (ContractIn l)
  unfolding next_behavior
  next_behavior_from l m x h = from_then (behavior_from x.1 m) (λ n b q. from_gives _ (within_as (within_two l m n (λ o. contract_at o (Some x.0)) (λ o. annotations_at o b.1.clauses) h q)
      (λ o. (let e = behaviors_behind o x.0.behaviors b.1 in omega (arith, e)))))

  more_behaviors_from : (l m : ℕ) (x : FunctionContract × ℕ) → ContractIn l m x → From size m (more_behaviors ws x) (ContractIn l)
  unfolding more_behaviors
  more_behaviors_from l m x h = from_many (clause_kind ws) (λ _. behavior_kind ∷ []) {P = ContractIn l} (λ i y q. next_behavior_from l i y q) m x h

  next_cover_from : (l m : ℕ) (x : FunctionContract × ℕ) → ContractIn l m x → From size m (next_cover ws x) (ContractIn l)
  unfolding next_cover
  next_cover_from l m x h = from_then (from_any (full_cover ws x.1)) (λ n a le. from_gives _ (within_wider l n (omega arith) le h))

  more_covers_from : (l m : ℕ) (x : FunctionContract × ℕ) → ContractIn l m x → From size m (more_covers ws x) (ContractIn l)
  unfolding more_covers
  more_covers_from l m x h = from_many (clause_kind ws) (λ _. first_cover) {P = ContractIn l} (λ i y q. next_cover_from l i y q) m x h

  behind_own_from : (l m : ℕ) (x : FunctionContract × ℕ) → ContractIn l m x → From size m (behaviors_and_covers ws x) (ContractIn l)
  unfolding behaviors_and_covers
  behind_own_from l m x h = from_then (more_behaviors_from l m x h) (λ i y p. more_covers_from l i y p)

  own_first_from : (n l : ℕ) → From size l (own_first ws n) (ContractIn l)
  unfolding own_first
  own_first_from n l = from_then (placed_own_from n l) (λ i a p. from_then (more_owns_from group.Contract l i a.1 p) (λ j x q.
      behind_own_from l j _ (within_as q (λ o. omega arith))))

  behavior_first_from : (n l : ℕ) → From size l (behavior_first ws n) (ContractIn l)
  unfolding behavior_first
  behavior_first_from n l = from_then (behavior_from n l) (λ i b p. behind_own_from l i _ (within_as p (λ o. omega arith)))

  cover_first_from : (n l : ℕ) → From size l (cover_first ws n) (ContractIn l)
  unfolding cover_first
  cover_first_from n l = from_then (from_any (full_cover ws n)) (λ i a le. more_covers_from l i _ (within_none l i le))

  contract_from : (n l : ℕ) → From size l (contract ws n) (ContractIn l)
  unfolding contract
  contract_from n l = from_choice (clause_kind ws) (first_own group.Contract) (own_first_from n l) (from_choice (clause_kind ws) (behavior_kind ∷ []) (behavior_first_from n l) (cover_first_from n l))

  -- ---- annotations

  abbrev pub AnnotationIn : ℕ → ℕ → ReadAnnotation × ℕ → Type 0
  AnnotationIn l n x = Within l n (λ o. annotation_at o x.0)

  clauses_from : (n l : ℕ) → From size l (clauses ws n) (AnnotationIn l)
  unfolding clauses
  clauses_from n l =
      from_choice (clause_kind ws) (first_in group.Asserts) (from_then (asserts_from n l) (λ k x p. from_gives _ p))
      (from_choice (clause_kind ws) (loop_kind ∷ []) (from_then (loop_clauses_from n l) (λ k x p. from_gives _ p)) (from_then (contract_from n l) (λ k x p. from_gives _ p)))

  pub annotations_from : (n l : ℕ) → From size l (annotations ws n) (AnnotationIn l)
  unfolding annotations
  annotations_from n l = from_then (from_any (fixed ws annot_open_kind)) (λ i _ le. from_then (clauses_from n i) (λ j x p. from_then (from_any (fixed ws annot_close_kind)) (λ k _ lf. from_gives x (within_wider l k le lf p))))
