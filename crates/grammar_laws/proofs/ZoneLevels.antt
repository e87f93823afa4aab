-- In the mode of a zone a level of forms reads what it reads alone, and then maybe a range.
use Rattle.std.proofs.Common.{ℕ, zero, suc, List, [], ◌∷◌, Some, None, refl, inl, inr}
use Rattle.grammar.specs.Syntax.{Syntax, none, gives, one, ◌then◌, choice, many, knot_at}
use Rattle.grammar.specs.Exact.{Same}
use Rattle.grammar.proofs.Forms.{to_left}
use Rattle.grammar_laws.proofs.Chains.{still}
use Rattle.grammar_laws.proofs.Inclusions.{Within, both, forth, back, itself, ◌so◌, either, first, second, each, nothing, on, in_turn, either_before, handed, handed_back, given_first, given_back, limited, at_each, at_some, ended_none}
use Rattle.grammar_laws.proofs.Tails.{Ranged, ranged, spanned, late, IsTail, spanned_tail, late_tail, spanned_apart, spanned_enter, of_forth, of_back, late_forth, late_back, many_forth, many_back, sum_many_forth, sum_many_back}
use Rattle.grammar_laws.proofs.AnnotationKnots.{forms_at, forms_reached, forms_knot, equivalence_reaches, whole_reaches, zone_reaches}
use Rattle.grammar_laws.proofs.SumTurns.{range, range_then, turn_is}
use Rattle.c_syntax.specs.declared.place.Place.{Place}
use Rattle.c_syntax.specs.declared.annotation.Relation.{Relation}
use Rattle.c_syntax.specs.declared.logic.Connective.TheVariants as connective
use Rattle.c_syntax.specs.declared.logic.Quantifier.{Quantifier}
use Rattle.c_syntax.specs.Formulas.{CastType, Integers, OfC, Form, Unary, Cast, Quantified, FormLinks, NoLink, Linked, Connected, Choice, FormZone, Object, Elements}
use Rattle.c_syntax.specs.Tokens.{PlainToken}
use Rattle.c_model.specs.declared.formulas.ChainDirection.{ChainDirection}
use Rattle.c_model.specs.declared.formulas.ChainDirection.TheVariants.{Start}
use Rattle.c_model.specs.declared.formulas.FormulaMode.{FormulaMode}
use Rattle.c_model.specs.declared.formulas.FormulaMode.TheVariants.{Alone, Zone}
use Rattle.c_model.specs.declared.formulas.FormulaOperator.{FormulaOperator}
use Rattle.c_model.specs.declared.vocabulary.Keyword.TheVariants as keyword
use Rattle.c_model.specs.Vocabulary.{Vocabulary}
use Rattle.c_model.specs.Terminals.{placed, mark_entry}
use Rattle.c_model.specs.Punctuators.{left_paren, right_paren, question, colon, implies}
use Rattle.c_model.specs.ExpressionGrammar.{kinds_of, first_type, keyword_kind, quantifier_kind, mark_kind, mark, type_name, expression}
use Rattle.c_model.specs.AnnotationGrammar.{formula_kind, integer_kind, integer_word, prefix_operators, FormEnd, ByRange, Spanned, quantifier_of, quantifier_end, zone_of, unended, unended_kinds, unended_only, as_it_is, joined_forms}
use Rattle.c_model.specs.AnnotationGrammar.{sized_form, worded_postfix, closed_postfix, parenthesised, behind_parenthesis, cast_behind, cast_to_type, cast_to_integer, binders, quantified, prefixed, bare_prefix, prefix_of, prefix}
use Rattle.c_model.specs.AnnotationGrammar.{joined_once, joined_more, joined, product, sum_once, sum_more, zone_sum, sum, shift, chain, bit_and, bit_xor, bit_or, conjunction, exclusion, disjunction, implication, equivalence}
use Rattle.c_model.specs.AnnotationGrammar.{product_operators, sum_operators, shift_operators, bit_and_operators, bit_xor_operators, bit_or_operators, conjunction_operators, exclusion_operators, disjunction_operators, equivalence_operators}
use Rattle.c_model.specs.AnnotationGrammar.{relations_behind, direction_behind, chained, linked, links_of, links, chain_behind, chain_of, implied, implication_behind, implication_of, chosen_behind, choice_behind, whole, zone, form_of, forms, form}
use Rattle.grammar_laws.specs.AnnotationProductions as production

-- a kind that nothing asks for
abbrev no : PlainToken → ℕ
no t = 0

-- ---- with a tail behind each part

then_forth : {A : Type 0} (G : Syntax PlainToken A) (H H' : A → Ranged Form) (T : Spanned Form → Ranged Form) → ((x : A) → Within (H x) (H' x then T)) → Within (G then H) ((G then H') then T)
then_forth G H H' T h = on G h so forth (to_left G H' T)

then_back : {A : Type 0} (G : Syntax PlainToken A) (H H' : A → Ranged Form) (T : Spanned Form → Ranged Form) → ((x : A) → Within (H' x then T) (H x)) → Within ((G then H') then T) (G then H)
then_back G H H' T h = back (to_left G H' T) so on G h

choice_forth : (K : PlainToken → ℕ) (ks : List ℕ) (T : Spanned Form → Ranged Form) {G G' H H' : Ranged Form} → Within G (G' then T) → Within H (H' then T) → Within (choice K ks G H) (choice K ks G' H' then T)
choice_forth K ks T {G} {G'} {H} {H'} g h =
    either K ks (g so in_turn (first K ks H' (itself G')) (λ x. itself (T x))) (h so in_turn (second K ks G' (itself H')) (λ x. itself (T x)))

choice_back : (K : PlainToken → ℕ) (ks : List ℕ) (T : Spanned Form → Ranged Form) {G G' H H' : Ranged Form} → Within (G' then T) G → Within (H' then T) H → Within (choice K ks G' H' then T) (choice K ks G H)
choice_back K ks T {G} {G'} {H} {H'} g h = either_before K ks T (g so first K ks H (itself G)) (h so second K ks G (itself H))

module _ (ws : Vocabulary) where
  abbrev F : Syntax PlainToken Form
  F = form ws

  abbrev Z : Syntax PlainToken FormZone
  Z = zone ws (forms ws)

  abbrev Q : Syntax PlainToken FormEnd
  Q = range ws (forms ws Alone)

  abbrev S : Spanned Form → Ranged Form
  S x = spanned Q x

  abbrev T : Spanned Form → Ranged Form
  T x = late Q x

  abbrev open_end : Form → Ranged Form
  open_end x = gives (x, None)

  open_forth : (X : Syntax PlainToken Form) → Within (X then open_end) ((X then open_end) then T)
  open_forth X = on X (λ x. given_back (x, None) T) so forth (to_left X open_end T)

  open_back : (X : Syntax PlainToken Form) → Within ((X then open_end) then T) (X then open_end)
  open_back X = back (to_left X open_end T) so on X (λ x. given_first (x, None) T refl)

  -- ---- quantifiers and prefixes

  -- what binders say of a form
  abbrev with_form : Quantifier × Place → CastType × List (Place × ℕ) → Spanned Form → Spanned Form
  with_form q b x = (Quantified q.1 q.0 b.0 b.1 x.0, Some (quantifier_end x.1))

  abbrev said : Quantifier × Place → CastType × List (Place × ℕ) → Spanned Form → Ranged Form
  said q b x = gives (with_form q b x)

  module _ (L B : Ranged Form) where
    quantified_forth : Within L (B then S) → Within (quantified ws L) (quantified ws B then T)
    unfolding quantified
    quantified_forth w =
        then_forth (one (placed (quantifier_of ws))) _ _ T (λ q. then_forth (binders ws) _ _ T (λ b. in_turn w (λ x. itself (said q b x)) so back (to_left B S (said q b))
        so on B (λ x. spanned_apart Q x (said q b) (λ y. refl) (first no [] (gives (with_form q b x)) (itself _)) (second no [] _ (itself (said q b x)))) so handed B (with_form q b) T))

    quantified_back : Within (B then S) L → Within (quantified ws B then T) (quantified ws L)
    unfolding quantified
    quantified_back w =
        then_back (one (placed (quantifier_of ws))) _ _ T (λ q. then_back (binders ws) _ _ T (λ b. handed_back B (with_form q b) T (λ x. inr refl)
        so on B (λ x. spanned_enter Q x (said q b)) so forth (to_left B S (said q b)) so in_turn w (λ x. itself (said q b x))))

    prefix_of_forth : (P P' : Ranged Form) → Within L (B then S) → Within P (P' then T) → Within (prefix_of ws F Z L P) (prefix_of ws F Z B P' then T)
    unfolding prefix_of behind_parenthesis cast_to_type cast_to_integer cast_behind parenthesised bare_prefix prefixed
    prefix_of_forth P P' w p =
        choice_forth (formula_kind ws) (mark_kind left_paren ∷ []) T
        (then_forth (mark ws left_paren) _ _ T (λ at.
        choice_forth (formula_kind ws) first_type T (then_forth (type_name ws (expression ws)) _ _ T (λ t. then_forth (mark ws right_paren) _ _ T (λ _. late_forth Q (λ x. Cast at (OfC t) x) P' p)))
        (choice_forth (formula_kind ws) (integer_kind ∷ []) T (then_forth (integer_word ws) _ _ T (λ _. then_forth (mark ws right_paren) _ _ T (λ _. late_forth Q (λ x. Cast at Integers x) P' p)))
        (then_forth F _ _ T (λ x. open_forth (closed_postfix ws F x))))))
        (choice_forth (formula_kind ws) (kinds_of prefix_operators) T (then_forth (one (placed (mark_entry prefix_operators))) _ _ T (λ o. late_forth Q (λ x. Unary o.1 o.0 x) P' p))
        (choice_forth (formula_kind ws) (keyword_kind keyword.Sizeof ∷ []) T (open_forth (sized_form ws))
        (choice_forth (formula_kind ws) (quantifier_kind ∷ []) T (quantified_forth w) (open_forth (worded_postfix ws F Z)))))

    prefix_of_back : (P P' : Ranged Form) → Within (B then S) L → Within (P' then T) P → Within (prefix_of ws F Z B P' then T) (prefix_of ws F Z L P)
    unfolding prefix_of behind_parenthesis cast_to_type cast_to_integer cast_behind parenthesised bare_prefix prefixed
    prefix_of_back P P' w p =
        choice_back (formula_kind ws) (mark_kind left_paren ∷ []) T
        (then_back (mark ws left_paren) _ _ T (λ at.
        choice_back (formula_kind ws) first_type T (then_back (type_name ws (expression ws)) _ _ T (λ t. then_back (mark ws right_paren) _ _ T (λ _. late_back Q (λ x. Cast at (OfC t) x) P' p)))
        (choice_back (formula_kind ws) (integer_kind ∷ []) T (then_back (integer_word ws) _ _ T (λ _. then_back (mark ws right_paren) _ _ T (λ _. late_back Q (λ x. Cast at Integers x) P' p)))
        (then_back F _ _ T (λ x. open_back (closed_postfix ws F x))))))
        (choice_back (formula_kind ws) (kinds_of prefix_operators) T (then_back (one (placed (mark_entry prefix_operators))) _ _ T (λ o. late_back Q (λ x. Unary o.1 o.0 x) P' p))
        (choice_back (formula_kind ws) (keyword_kind keyword.Sizeof ∷ []) T (open_back (sized_form ws))
        (choice_back (formula_kind ws) (quantifier_kind ∷ []) T (quantified_back w) (open_back (worded_postfix ws F Z)))))

  abbrev prefix_at : Ranged Form → ℕ → Ranged Form
  prefix_at L n = knot_at {S = Unit {0}} (λ P u. prefix_of ws F Z L (P u)) n tt

  module _ (L B : Ranged Form) where
    prefix_forth : Within L (B then S) → Within (prefix ws F Z L) (prefix ws F Z B then T)
    unfolding prefix
    prefix_forth w = at_each (λ n. by n so in_turn (at_some (prefix_at B) n) (λ x. itself (T x)))
      where
        by : (n : ℕ) → Within (prefix_at L n) (prefix_at B n then T)
        by zero = nothing _ (inl refl)
        by (suc n) = prefix_of_forth L B (prefix_at L n) (prefix_at B n) w (by n)

    prefix_back : Within (B then S) L → Within (prefix ws F Z B then T) (prefix ws F Z L)
    unfolding prefix
    prefix_back w = limited (prefix_at B) T (λ n. by n so at_some (prefix_at L) n)
      where
        by : (n : ℕ) → Within (prefix_at B n then T) (prefix_at L n)
        by zero = ended_none T none refl
        by (suc n) = prefix_of_back L B (prefix_at L n) (prefix_at B n) w (by n)

  -- ---- operators of a table

  module _ (table : List (ℕ × FormulaOperator)) (R B : Ranged Form) where
    late_once_forth : Within R (B then T) → (a : Form) → Within (joined_once ws table R a) (joined_once ws table B a then T)
    unfolding joined_once
    late_once_forth r a = then_forth (one (placed (mark_entry table))) _ _ T (λ o. late_forth Q (λ x. joined_forms o a x) B r)

    late_once_back : Within (B then T) R → (a : Form) → Within (joined_once ws table B a then T) (joined_once ws table R a)
    unfolding joined_once
    late_once_back r a = then_back (one (placed (mark_entry table))) _ _ T (λ o. late_back Q (λ x. joined_forms o a x) B r)

    once_forth : Within R (B then S) → (a : Form) → Within (joined_once ws table R a) (joined_once ws table B a then S)
    unfolding joined_once
    once_forth r a = then_forth (one (placed (mark_entry table))) _ _ S (λ o. of_forth Q (λ x. joined_forms o a x) B r)

    once_back : Within (B then S) R → (a : Form) → Within (joined_once ws table B a then S) (joined_once ws table R a)
    unfolding joined_once
    once_back r a = then_back (one (placed (mark_entry table))) _ _ S (λ o. of_back Q (λ x. joined_forms o a x) B r)

    -- more of them
    abbrev more : Ranged Form → Spanned Form → Ranged Form
    more X x = many (formula_kind ws) (unended_kinds (kinds_of table)) (unended_only (joined_once ws table X)) x

    late_joined_forth : Within R (B then T) → Within (joined ws table R) (joined ws table B then T)
    unfolding joined joined_more
    late_joined_forth r =
        in_turn r (λ x. itself (more R x)) so back (to_left B T (more R))
        so on B (λ x. many_forth Q T (late_tail Q) (formula_kind ws) (kinds_of table) (joined_once ws table R) (joined_once ws table B) (late_once_forth r) x) so forth (to_left B (more B) T)

    late_joined_back : Within (B then T) R → Within (joined ws table B then T) (joined ws table R)
    unfolding joined joined_more
    late_joined_back r =
        back (to_left B (more B) T) so on B (λ x. many_back Q T (late_tail Q) (formula_kind ws) (kinds_of table) (joined_once ws table R) (joined_once ws table B) (late_once_back r) x)
        so forth (to_left B T (more R)) so in_turn r (λ x. itself (more R x))

    joined_forth : Within R (B then S) → Within (joined ws table R) (joined ws table B then S)
    unfolding joined joined_more
    joined_forth r =
        in_turn r (λ x. itself (more R x)) so back (to_left B S (more R))
        so on B (λ x. many_forth Q S (spanned_tail Q) (formula_kind ws) (kinds_of table) (joined_once ws table R) (joined_once ws table B) (once_forth r) x) so forth (to_left B (more B) S)

    joined_back : Within (B then S) R → Within (joined ws table B then S) (joined ws table R)
    unfolding joined joined_more
    joined_back r =
        back (to_left B (more B) S) so on B (λ x. many_back Q S (spanned_tail Q) (formula_kind ws) (kinds_of table) (joined_once ws table R) (joined_once ws table B) (once_back r) x)
        so forth (to_left B S (more R)) so in_turn r (λ x. itself (more R x))

  -- ---- sums

  module _ (L B : Ranged Form) where
    abbrev P : Ranged Form
    P = product ws F Z L

    abbrev P' : Ranged Form
    P' = product ws F Z B

    abbrev zone_more : Spanned Form → Ranged Form
    zone_more x = many (formula_kind ws) (unended_kinds (kinds_of sum_operators)) (unended_only (sum_once ws F Z L)) x

    sum_forth : Within L (B then S) → Within (zone_sum ws F Z L) (joined ws sum_operators P' then S)
    unfolding zone_sum sum_more joined joined_more
    sum_forth w =
        let p = late_joined_forth product_operators (prefix ws F Z L) (prefix ws F Z B) (prefix_forth L B w) in
        in_turn p (λ x. itself (zone_more x)) so back (to_left P' T zone_more)
        so on P' (λ x. sum_many_forth Q (formula_kind ws) (kinds_of sum_operators) (sum_once ws F Z L) (joined_once ws sum_operators P) (joined_once ws sum_operators P') (turn_is ws L) (late_once_forth sum_operators P P' p) x)
        so forth (to_left P' (more sum_operators P P' P') S)

    sum_back : Within (B then S) L → Within (joined ws sum_operators P' then S) (zone_sum ws F Z L)
    unfolding zone_sum sum_more joined joined_more
    sum_back w =
        let p = late_joined_back product_operators (prefix ws F Z L) (prefix ws F Z B) (prefix_back L B w) in
        back (to_left P' (more sum_operators P P' P') S)
        so on P' (λ x. sum_many_back Q (formula_kind ws) (kinds_of sum_operators) (sum_once ws F Z L) (joined_once ws sum_operators P) (joined_once ws sum_operators P') (turn_is ws L) (late_once_back sum_operators P P' p) x)
        so forth (to_left P' T zone_more) so in_turn p (λ x. itself (zone_more x))

  -- ---- chains

  module _ (R B : Ranged Form) where
    abbrev Links : Type 1
    Links = Ranged FormLinks

    abbrev SL : Spanned FormLinks → Ranged FormLinks
    SL x = spanned Q x

    abbrev links_to : Ranged Form → ℕ → ChainDirection → Links
    links_to X n d = knot_at (links_of ws X) n d

    links_to_empty : (X : Ranged Form) (n : ℕ) (d : ChainDirection) → (links_to X n d).begun []
    unfolding links_of
    links_to_empty X zero d = refl
    links_to_empty X (suc n) d = inr refl

    abbrev with_link : Relation × Place → Form → FormLinks → FormLinks
    with_link at a ls = Linked at.1 at.0 a ls

    abbrev before : Relation × Place → Form → Spanned FormLinks → Links
    before at a ls = gives (with_link at a ls.0, ls.1)

    -- the links X behind an operand
    abbrev link_on : Links → Relation × Place → Spanned Form → Links
    link_on X at x = unended (λ (_ : Form). X) (λ _. NoLink) x then before at x.0

    no_link : (n : ℕ) (d : ChainDirection) → Within (gives (NoLink, None)) (links_to B (suc n) d)
    unfolding links_of
    no_link n d = second (formula_kind ws) (kinds_of (relations_behind d)) _ (itself (gives (NoLink, None)))

    -- no link, and maybe a range
    stop_forth : (at : Relation × Place) (a : Form) (n : ℕ) (d : ChainDirection) → Within (ranged Q (with_link at a NoLink)) (link_on (links_to B (suc n) d) at (a, None) then SL)
    stop_forth at a n d =
        first no [] (gives (with_link at a NoLink, None)) (itself (ranged Q (with_link at a NoLink))) so given_back (NoLink, None) (λ (ls : Spanned FormLinks). spanned Q (with_link at a ls.0, ls.1))
        so in_turn (no_link n d) (λ ls. itself (spanned Q (with_link at a ls.0, ls.1))) so handed (links_to B (suc n) d) (λ ls. (with_link at a ls.0, ls.1)) SL

    ended_forth : (X Y : Links) → X.begun [] → (at : Relation × Place) (a : Form) (e : FormEnd) → Within (spanned Q (a, Some e) then link_on X at) (link_on Y at (a, Some e) then SL)
    ended_forth X Y none_read at a e =
        spanned_apart Q (a, Some e) (link_on X at) empties (on Q (λ r. given_first (NoLink, Some r) (before at a) refl) so first no [] (gives (with_link at a NoLink, Some e)) (itself (ranged Q (with_link at a NoLink))) so enter)
        (given_first (NoLink, Some e) (before at a) refl so second no [] (ranged Q (with_link at a NoLink)) (itself (gives (with_link at a NoLink, Some e))) so enter)
      where
        empties : (x : Spanned Form) → (link_on X at x).begun []
        empties (b, None) = inl none_read
        empties (b, Some q) = inl refl

        enter : Within (spanned Q (with_link at a NoLink, Some e)) (link_on Y at (a, Some e) then SL)
        enter = given_back (with_link at a NoLink, Some e) SL so in_turn (given_back (NoLink, Some e) (before at a)) (λ ls. itself (SL ls))

    ended_back : (X Y : Links) (at : Relation × Place) (a : Form) (e : FormEnd) → Within (link_on Y at (a, Some e) then SL) (spanned Q (a, Some e) then link_on X at)
    ended_back X Y at a e =
        in_turn (given_first (NoLink, Some e) (before at a) refl) (λ ls. itself (SL ls)) so given_first (with_link at a NoLink, Some e) SL (inr refl)
        so each no [] no [] (on Q (λ r. given_back (NoLink, Some r) (before at a))) (given_back (NoLink, Some e) (before at a)) so spanned_enter Q (a, Some e) (link_on X at)

    -- what goes on, or a range right behind the operand before
    abbrev MaybeLinks : Links → Links
    MaybeLinks X = choice no [] (ranged Q NoLink) X

    behind_forth : (n : ℕ) (d : ChainDirection) (at : Relation × Place) → Within (links_to R n d) (links_to B (suc n) d then SL) → (x : Spanned Form)
        → Within (spanned Q x then link_on (links_to R n d) at) (link_on (links_to B (suc n) d) at x then SL)
    behind_forth n d at w (a, Some e) = ended_forth (links_to R n d) (links_to B (suc n) d) (links_to_empty R n d) at a e
    behind_forth n d at w (a, None) =
        spanned_apart Q (a, None) (link_on (links_to R n d) at) empties (on Q (λ r. given_first (NoLink, Some r) (before at a) refl) so stop_forth at a n d) (of_forth Q (λ ls. with_link at a ls) (links_to B (suc n) d) w)
      where
        empties : (x : Spanned Form) → (link_on (links_to R n d) at x).begun []
        empties (b, None) = inl (links_to_empty R n d)
        empties (b, Some q) = inl refl

    behind_back : (n : ℕ) (d : ChainDirection) (at : Relation × Place) → Within (links_to B n d then SL) (MaybeLinks (links_to R n d)) → (x : Spanned Form)
        → Within (link_on (links_to B n d) at x then SL) (spanned Q x then link_on (links_to R n d) at)
    behind_back n d at w (a, Some e) = ended_back (links_to R n d) (links_to B n d) at a e
    behind_back n d at w (a, None) =
        of_back Q (λ ls. with_link at a ls) (links_to B n d) w
        so either_before no [] (before at a) (back (to_left Q (λ r. gives (NoLink, Some r)) (before at a)) so first no [] (links_to R n d then before at a) (itself _)) (second no [] _ (itself (links_to R n d then before at a)))
        so spanned_enter Q (a, None) (link_on (links_to R n d) at)

    links_forth : Within R (B then S) → (n : ℕ) (d : ChainDirection) → Within (links_to R n d) (links_to B (suc n) d then SL)
    unfolding links_of linked
    links_forth r zero d = nothing _ (inl (inr refl))
    links_forth r (suc n) d =
        either (formula_kind ws) (kinds_of (relations_behind d))
        (on (one (placed (mark_entry (relations_behind d)))) (λ at. in_turn r (λ x. itself (link_on (links_to R n (direction_behind d at.0)) at x)) so back (to_left B S (link_on (links_to R n (direction_behind d at.0)) at))
        so on B (λ x. behind_forth n (direction_behind d at.0) at (links_forth r n (direction_behind d at.0)) x) so forth (to_left B (link_on (links_to B (suc n) (direction_behind d at.0)) at) SL))
        so forth (to_left (one (placed (mark_entry (relations_behind d)))) (λ at. B then link_on (links_to B (suc n) (direction_behind d at.0)) at) SL)
        so in_turn (first (formula_kind ws) (kinds_of (relations_behind d)) (gives (NoLink, None)) (itself _)) (λ ls. itself (SL ls)))
        (second no [] (ranged Q NoLink) (itself (gives (NoLink, None))) so given_back (NoLink, None) SL so in_turn (second (formula_kind ws) (kinds_of (relations_behind d)) _ (itself (gives (NoLink, None)))) (λ ls. itself (SL ls)))

    links_back : Within (B then S) R → (n : ℕ) (d : ChainDirection) → Within (links_to B n d then SL) (MaybeLinks (links_to R n d))
    unfolding links_of linked
    links_back r zero d = ended_none SL _ (inr refl)
    links_back r (suc n) d =
        either_before (formula_kind ws) (kinds_of (relations_behind d)) SL
        (back (to_left (one (placed (mark_entry (relations_behind d)))) (λ at. B then link_on (links_to B n (direction_behind d at.0)) at) SL)
        so on (one (placed (mark_entry (relations_behind d)))) (λ at. back (to_left B (link_on (links_to B n (direction_behind d at.0)) at) SL)
        so on B (λ x. behind_back n (direction_behind d at.0) at (links_back r n (direction_behind d at.0)) x) so forth (to_left B S (link_on (links_to R n (direction_behind d at.0)) at))
        so in_turn r (λ x. itself (link_on (links_to R n (direction_behind d at.0)) at x)))
        so first (formula_kind ws) (kinds_of (relations_behind d)) (gives (NoLink, None)) (itself _) so second no [] (ranged Q NoLink) (itself _))
        (given_first (NoLink, None) SL (inr refl) so each no [] no [] (itself (ranged Q NoLink)) (second (formula_kind ws) (kinds_of (relations_behind d)) _ (itself (gives (NoLink, None)))))

    all_forth : Within R (B then S) → Within (links ws R Start) (links ws B Start then SL)
    unfolding links
    all_forth r = at_each (λ n. links_forth r n Start so in_turn (at_some (λ m. links_to B m Start) (suc n)) (λ ls. itself (SL ls)))

    all_back : Within (B then S) R → Within (links ws B Start then SL) (MaybeLinks (links ws R Start))
    unfolding links
    all_back r = limited (λ n. links_to B n Start) SL (λ n. links_back r n Start so each no [] no [] (itself (ranged Q NoLink)) (at_some (λ m. links_to R m Start) n))

    abbrev end : Form → Spanned FormLinks → Ranged Form
    end a ls = gives (chained a ls.0, ls.1)

    -- what stands behind an operand of X
    abbrev chained_on : Ranged Form → Spanned Form → Ranged Form
    chained_on X x = unended (λ a. links ws X Start then end a) as_it_is x

    chain_empty : (X : Ranged Form) (x : Spanned Form) → (chained_on X x).begun []
    unfolding links
    chain_empty X (a, None) = inl (0, refl)
    chain_empty X (a, Some e) = refl

    no_chain : (a : Form) → Within (spanned Q (a, None)) (chained_on B (a, None) then S)
    unfolding links links_of
    no_chain a =
        given_back (NoLink, None) (λ (ls : Spanned FormLinks). spanned Q (chained a ls.0, ls.1))
        so in_turn (second (formula_kind ws) (kinds_of (relations_behind Start)) _ (itself (gives (NoLink, None))) so at_some (λ m. links_to B m Start) 1) (λ ls. itself (spanned Q (chained a ls.0, ls.1)))
        so handed (links ws B Start) (λ ls. (chained a ls.0, ls.1)) S

    chained_forth : Within R (B then S) → (x : Spanned Form) → Within (spanned Q x then chained_on R) (chained_on B x then S)
    chained_forth r (a, None) =
        spanned_apart Q (a, None) (chained_on R) (chain_empty R) (first no [] (gives (a, None)) (itself (ranged Q a)) so no_chain a) (of_forth Q (λ ls. chained a ls) (links ws B Start) (all_forth r))
    chained_forth r (a, Some e) =
        spanned_apart Q (a, Some e) (chained_on R) (chain_empty R) (first no [] (gives (a, Some e)) (itself (ranged Q a)) so given_back (a, Some e) S)
        (second no [] (ranged Q a) (itself (gives (a, Some e))) so given_back (a, Some e) S)

    chained_back : Within (B then S) R → (x : Spanned Form) → Within (chained_on B x then S) (spanned Q x then chained_on R)
    chained_back r (a, None) =
        of_back Q (λ ls. chained a ls) (links ws B Start) (all_back r)
        so either_before no [] (end a) (back (to_left Q (λ q. gives (NoLink, Some q)) (end a)) so on Q (λ q. given_first (NoLink, Some q) (end a) refl) so first no [] (links ws R Start then end a) (itself (ranged Q a)))
        (second no [] (ranged Q a) (itself (links ws R Start then end a))) so spanned_enter Q (a, None) (chained_on R)
    chained_back r (a, Some e) = given_first (a, Some e) S (inr refl) so spanned_enter Q (a, Some e) (chained_on R)

    chain_forth : Within R (B then S) → Within (chain_of ws R) (chain_of ws B then S)
    unfolding chain_of chain_behind
    chain_forth r = in_turn r (λ x. itself (chained_on R x)) so back (to_left B S (chained_on R)) so on B (λ x. chained_forth r x) so forth (to_left B (chained_on B) S)

    chain_back : Within (B then S) R → Within (chain_of ws B then S) (chain_of ws R)
    unfolding chain_of chain_behind
    chain_back r = back (to_left B (chained_on B) S) so on B (λ x. chained_back r x) so forth (to_left B S (chained_on R)) so in_turn r (λ x. itself (chained_on R x))

  -- ---- what may stand behind an operand: W in the mode of a zone, and W' alone

  module _ (k : List ℕ) (R B : Ranged Form) (W W' : Form → Ranged Form) where
    abbrev maybe : (Form → Ranged Form) → Spanned Form → Ranged Form
    maybe V x = unended (λ a. choice (formula_kind ws) k (V a) (gives (a, None))) as_it_is x

    maybe_empty : (V : Form → Ranged Form) (x : Spanned Form) → (maybe V x).begun []
    maybe_empty V (a, None) = inr refl
    maybe_empty V (a, Some e) = refl

    stopped : (a : Form) → Within (spanned Q (a, None)) (maybe W' (a, None) then S)
    stopped a = given_back (a, None) S so in_turn (second (formula_kind ws) k (W' a) (itself (gives (a, None)))) (λ y. itself (S y))

    step_forth : (w : (a : Form) → Within (W a) (W' a then S)) (x : Spanned Form) → Within (spanned Q x then maybe W) (maybe W' x then S)
    step_forth w (a, None) =
        spanned_apart Q (a, None) (maybe W) (maybe_empty W) (first no [] (gives (a, None)) (itself (ranged Q a)) so stopped a)
        (either (formula_kind ws) k (w a so in_turn (first (formula_kind ws) k (gives (a, None)) (itself (W' a))) (λ y. itself (S y))) (second no [] (ranged Q a) (itself (gives (a, None))) so stopped a))
    step_forth w (a, Some e) =
        spanned_apart Q (a, Some e) (maybe W) (maybe_empty W) (first no [] (gives (a, Some e)) (itself (ranged Q a)) so given_back (a, Some e) S)
        (second no [] (ranged Q a) (itself (gives (a, Some e))) so given_back (a, Some e) S)

    step_back : (w : (a : Form) → Within (W' a then S) (W a)) (x : Spanned Form) → Within (maybe W' x then S) (spanned Q x then maybe W)
    step_back w (a, None) =
        either_before (formula_kind ws) k S (w a so first (formula_kind ws) k (gives (a, None)) (itself (W a)) so second no [] (ranged Q a) (itself _))
        (given_first (a, None) S (inr refl) so each no [] no [] (itself (ranged Q a)) (second (formula_kind ws) k (W a) (itself (gives (a, None))))) so spanned_enter Q (a, None) (maybe W)
    step_back w (a, Some e) = given_first (a, Some e) S (inr refl) so spanned_enter Q (a, Some e) (maybe W)

    next_forth : Within R (B then S) → ((a : Form) → Within (W a) (W' a then S)) → Within (R then maybe W) ((B then maybe W') then S)
    next_forth r w = in_turn r (λ x. itself (maybe W x)) so back (to_left B S (maybe W)) so on B (λ x. step_forth w x) so forth (to_left B (maybe W') S)

    next_back : Within (B then S) R → ((a : Form) → Within (W' a then S) (W a)) → Within ((B then maybe W') then S) (R then maybe W)
    next_back r w = back (to_left B (maybe W') S) so on B (λ x. step_back w x) so forth (to_left B S (maybe W)) so in_turn r (λ x. itself (maybe W x))

  -- ---- implications

  abbrev implication_at : Ranged Form → ℕ → Ranged Form
  implication_at D n = knot_at {S = Unit {0}} (λ I u. implication_of ws D (I u)) n tt

  module _ (D A : Ranged Form) where
    implication_forth : Within D (A then S) → (n : ℕ) → Within (implication_at D n) (implication_at A n then S)
    unfolding implication_of implication_behind implied
    implication_forth r zero = nothing _ (inl refl)
    implication_forth r (suc n) =
        next_forth (mark_kind implies ∷ []) D A (implied ws (implication_at D n)) (implied ws (implication_at A n)) r
        (λ a. then_forth (mark ws implies) _ _ S (λ at. of_forth Q (λ y. Connected at connective.Implies a y) (implication_at A n) (implication_forth r n)))

    implication_back : Within (A then S) D → (n : ℕ) → Within (implication_at A n then S) (implication_at D n)
    unfolding implication_of implication_behind implied
    implication_back r zero = ended_none S none refl
    implication_back r (suc n) =
        next_back (mark_kind implies ∷ []) D A (implied ws (implication_at D n)) (implied ws (implication_at A n)) r
        (λ a. then_back (mark ws implies) _ _ S (λ at. of_back Q (λ y. Connected at connective.Implies a y) (implication_at A n) (implication_back r n)))

  -- ---- level by level

  module _ (L B : Ranged Form) where
    shift_forth : Within L (B then S) → Within (shift ws F Z L Zone) (shift ws F Z B Alone then S)
    shift_forth w = joined_forth shift_operators (sum ws F Z L Zone) (sum ws F Z B Alone) (sum_forth L B w)

    shift_back : Within (B then S) L → Within (shift ws F Z B Alone then S) (shift ws F Z L Zone)
    shift_back w = joined_back shift_operators (sum ws F Z L Zone) (sum ws F Z B Alone) (sum_back L B w)

    disjunction_forth : Within L (B then S) → Within (disjunction ws F Z L Zone) (disjunction ws F Z B Alone then S)
    disjunction_forth w =
        let c = chain_forth (shift ws F Z L Zone) (shift ws F Z B Alone) (shift_forth w) in
        let d = joined_forth bit_and_operators (chain ws F Z L Zone) (chain ws F Z B Alone) c in
        let e = joined_forth bit_xor_operators (bit_and ws F Z L Zone) (bit_and ws F Z B Alone) d in
        let f = joined_forth bit_or_operators (bit_xor ws F Z L Zone) (bit_xor ws F Z B Alone) e in
        let g = joined_forth conjunction_operators (bit_or ws F Z L Zone) (bit_or ws F Z B Alone) f in
        let h = joined_forth exclusion_operators (conjunction ws F Z L Zone) (conjunction ws F Z B Alone) g in
        joined_forth disjunction_operators (exclusion ws F Z L Zone) (exclusion ws F Z B Alone) h

    disjunction_back : Within (B then S) L → Within (disjunction ws F Z B Alone then S) (disjunction ws F Z L Zone)
    disjunction_back w =
        let c = chain_back (shift ws F Z L Zone) (shift ws F Z B Alone) (shift_back w) in
        let d = joined_back bit_and_operators (chain ws F Z L Zone) (chain ws F Z B Alone) c in
        let e = joined_back bit_xor_operators (bit_and ws F Z L Zone) (bit_and ws F Z B Alone) d in
        let f = joined_back bit_or_operators (bit_xor ws F Z L Zone) (bit_xor ws F Z B Alone) e in
        let g = joined_back conjunction_operators (bit_or ws F Z L Zone) (bit_or ws F Z B Alone) f in
        let h = joined_back exclusion_operators (conjunction ws F Z L Zone) (conjunction ws F Z B Alone) g in
        joined_back disjunction_operators (exclusion ws F Z L Zone) (exclusion ws F Z B Alone) h

    equivalence_forth : Within L (B then S) → Within (equivalence ws F Z L Zone) (equivalence ws F Z B Alone then S)
    unfolding implication
    equivalence_forth w =
        joined_forth equivalence_operators (implication ws F Z L Zone) (implication ws F Z B Alone)
        (at_each (λ n. implication_forth (disjunction ws F Z L Zone) (disjunction ws F Z B Alone) (disjunction_forth w) n so in_turn (at_some (implication_at (disjunction ws F Z B Alone)) n) (λ x. itself (S x))))

    equivalence_back : Within (B then S) L → Within (equivalence ws F Z B Alone then S) (equivalence ws F Z L Zone)
    unfolding implication
    equivalence_back w =
        joined_back equivalence_operators (implication ws F Z L Zone) (implication ws F Z B Alone)
        (limited (implication_at (disjunction ws F Z B Alone)) S (λ n. implication_back (disjunction ws F Z L Zone) (disjunction ws F Z B Alone) (disjunction_back w) n so at_some (implication_at (disjunction ws F Z L Zone)) n))

  -- ---- forms

  abbrev deep_whole : ℕ → Syntax PlainToken Form
  deep_whole n = whole ws (forms_at ws n)

  abbrev deep_zone : ℕ → Syntax PlainToken FormZone
  deep_zone n = zone ws (forms_at ws n)

  whole_into : (n : ℕ) → Within (deep_whole n) F
  whole_into n = (whole_reaches ws (forms_reached ws)).into n

  level_into : (L : Ranged Form) (m : FormulaMode) (n : ℕ) → Within (equivalence ws (deep_whole n) (deep_zone n) L m) (equivalence ws F Z L m)
  level_into L m n = (equivalence_reaches ws (whole_reaches ws (forms_reached ws)) (zone_reaches ws (forms_reached ws)) (still L) m).into n

  abbrev A : Ranged Form
  A = forms ws Alone

  -- a choice whose last part may end with a range
  chosen_forth : (E : Syntax PlainToken Form) (X : Ranged Form) (c : Form) → Within E F → Within X (A then S) → Within (chosen_behind ws E X c) (chosen_behind ws F A c then S)
  unfolding chosen_behind
  chosen_forth E X c e w =
      on (mark ws question) (λ at. in_turn e (λ x. on (mark ws colon) (λ _. of_forth Q (λ y. Choice at c x y) A w) so forth (to_left (mark ws colon) (λ _. A then λ y. gives (Choice at c x y.0, y.1)) S))
      so forth (to_left F (λ x. mark ws colon then λ _. A then λ y. gives (Choice at c x y.0, y.1)) S))
      so forth (to_left (mark ws question) (λ at. F then λ x. mark ws colon then λ _. A then λ y. gives (Choice at c x y.0, y.1)) S)

  chosen_back : (E : Syntax PlainToken Form) (Y X : Ranged Form) (c : Form) → Within E F → Within (Y then S) X → Within (chosen_behind ws E Y c then S) (chosen_behind ws F X c)
  unfolding chosen_behind
  chosen_back E Y X c e w =
      then_back (mark ws question) _ _ S (λ at. back (to_left E (λ x. mark ws colon then λ _. Y then λ y. gives (Choice at c x y.0, y.1)) S)
      so in_turn e (λ x. then_back (mark ws colon) _ _ S (λ _. of_back Q (λ y. Choice at c x y) Y w)))

  alone_empty : A.begun []
  unfolding forms
  alone_empty = (0, refl)

  forms_forth : (n : ℕ) → Within (forms_at ws n Zone) (A then S)
  unfolding form_of choice_behind
  forms_forth zero = nothing _ (inl alone_empty)
  forms_forth (suc n) =
      let L = forms_at ws n Zone in
      next_forth (mark_kind question ∷ []) (equivalence ws (deep_whole n) (deep_zone n) L Zone) (equivalence ws F Z A Alone) (chosen_behind ws (deep_whole n) L) (chosen_behind ws F A)
      (level_into L Zone n so equivalence_forth L A (forms_forth n)) (λ c. chosen_forth (deep_whole n) L c (whole_into n) (forms_forth n)) so in_turn (back (forms_knot ws Alone)) (λ a. itself (S a))

  zone_empty : (forms ws Zone).begun []
  unfolding forms
  zone_empty = (0, refl)

  forms_back : (n : ℕ) → Within (forms_at ws n Alone then S) (forms ws Zone)
  unfolding form_of choice_behind
  forms_back zero = ended_none S (forms ws Zone) zone_empty
  forms_back (suc n) =
      let B = forms_at ws n Alone in
      in_turn (in_turn (level_into B Alone n) (λ x. itself _)) (λ a. itself (S a))
      so next_back (mark_kind question ∷ []) (equivalence ws F Z (forms ws Zone) Zone) (equivalence ws F Z B Alone) (chosen_behind ws F (forms ws Zone)) (chosen_behind ws (deep_whole n) B) (equivalence_back (forms ws Zone) B (forms_back n))
      (λ c. chosen_back (deep_whole n) B (forms ws Zone) c (whole_into n) (forms_back n)) so back (forms_knot ws Zone)

  all_in : Within (A then S) (forms ws Zone)
  unfolding forms
  all_in = limited (λ n. forms_at ws n Alone) S forms_back

  all_out : Within (forms ws Zone) (A then S)
  unfolding forms
  all_out = at_each forms_forth

  -- ---- zones

  abbrev as_zone : Spanned Form → Syntax PlainToken FormZone
  as_zone x = gives (zone_of x)

  -- a range behind a form, as its zone
  abbrev range_zone : Spanned Form → FormEnd → Syntax PlainToken FormZone
  range_zone x q = as_zone (x.0, Some q)

  pub zone_line : Same Z (production.zone ws)
  unfolding zone
  zone_line =
      both
      (in_turn all_out (λ x. itself (as_zone x)) so back (to_left A S as_zone)
      so on A (λ x. spanned_apart Q x as_zone (λ y. refl) (forth (range_then ws A (range_zone x) (λ q. refl)) so first no [] (as_zone x) (itself _)) (second no [] _ (itself (as_zone x)))))
      (on A (λ x. either no [] (back (range_then ws A (range_zone x) (λ q. refl)) so first no [] (as_zone x) (itself _)) (second no [] _ (itself (as_zone x))) so spanned_enter Q x as_zone)
      so forth (to_left A S as_zone) so in_turn all_in (λ x. itself (as_zone x)))
