-- A turn of a sum in the mode of a zone is one of a sum alone, or a range.
use Rattle.std.proofs.Common.{◌≡◌, ℕ, Bool, true, false, cond, eqb, [], ◌∷◌, Some, None, refl, sym, ap, subst, ◌⊎◌, inl, inr, arith}
use Rattle.std.proofs.lemmas.Bool.{eqb-true}
use Rattle.grammar.specs.Syntax.{Syntax, gives, one, ◌then◌, choice}
use Rattle.grammar.specs.Exact.{Same}
use Rattle.grammar.proofs.Forms.{to_left}
use Rattle.grammar_laws.proofs.Inclusions.{Within, both, forth, back, itself, ◌so◌, either, first, second, on, in_turn, after_either, either_before, apart_after, handed, handed_back}
use Rattle.grammar_laws.proofs.Tokens.{just, by_token, just_then, just_as, one_by_one, placed_some, place_is, IsEntry, table_holds, in_table}
use Rattle.grammar_laws.proofs.Tails.{Ranged, ranged}
use Rattle.grammar_laws.proofs.AnnotationKnots.{prefix_knot}
use Rattle.c_syntax.specs.declared.place.Place.{Place}
use Rattle.c_syntax.specs.declared.expression.BinOp.TheVariants.{Add}
use Rattle.c_syntax.specs.Formulas.{Form, Binary, FormZone}
use Rattle.c_syntax.specs.Tokens as token
use Rattle.c_syntax.specs.Tokens.{PlainTokenKind, PlainToken}
use Rattle.c_model.specs.declared.formulas.FormulaOperator.{FormulaOperator}
use Rattle.c_model.specs.declared.formulas.FormulaOperator.TheVariants.{Term}
use Rattle.c_model.specs.declared.vocabulary.Keyword.TheVariants as keyword
use Rattle.c_model.specs.declared.vocabulary.LogicWord.TheVariants as logic
use Rattle.c_model.specs.declared.vocabulary.Word.{Word}
use Rattle.c_model.specs.declared.vocabulary.Word.TheVariants as word
use Rattle.c_model.specs.Vocabulary.{Vocabulary, word_at}
use Rattle.c_model.specs.Terminals.{placed, entry, mark_entry}
use Rattle.c_model.specs.Punctuators.{plus, left_paren, right_paren, dots}
use Rattle.c_model.specs.ExpressionGrammar.{word_kind, token_kind, kind, first_type, mark_kind, mark, closed}
use Rattle.c_model.specs.AnnotationGrammar.{formula_kind, integer_kind, FormEnd, ByRange, Spanned, joined_forms, joined_once, joined_more, joined, product, prefix, prefix_of, bare_prefix, behind_parenthesis, parenthesised, closed_postfix}
use Rattle.c_model.specs.AnnotationGrammar.{cast_to_type, cast_to_integer, added_rest, behind_first, added_parenthesis, added, sum_once, product_operators, sum_operators, difference_operators, zone, forms, form}
use Rattle.c_model.specs.AnnotationGrammar as parsed

-- a kind that nothing asks for
abbrev no : PlainToken → ℕ
no t = 0

-- no word has the kind of `+`
no_word : (w : Word) → eqb (word_kind w) (mark_kind plus) ≡ true → ⊥
no_word (word.Keyword keyword.Const) e = cc
no_word (word.Logic (logic.Truth b)) e = cc
no_word (word.Logic logic.Null) e = cc
no_word (word.Logic (logic.Told f)) e = cc
no_word (word.Logic (logic.Asks q)) e = cc
no_word (word.Logic logic.Separated) e = cc
no_word (word.Logic logic.Result) e = cc
no_word (word.Logic logic.Old) e = cc
no_word (word.Logic logic.At) e = cc
no_word (word.Logic logic.Kept) e = cc
no_word (word.Logic (logic.Quantifier q)) e = cc
no_word _ e = cc

-- parts in a row, before another
flat : {A B C : Type 0} (U : Syntax PlainToken A) (P : A → Syntax PlainToken B) (H : B → Syntax PlainToken C) (G : A → Syntax PlainToken C) → ((u : A) → Same (P u then H) (G u)) → Same ((U then P) then H) (U then G)
flat U P H G s = both (back (to_left U P H) so on U (λ u. forth (s u))) (on U (λ u. back (s u)) so forth (to_left U P H))

module _ (ws : Vocabulary) (L : Ranged Form) where
  abbrev F : Syntax PlainToken Form
  F = form ws

  abbrev Z : Syntax PlainToken FormZone
  Z = zone ws (forms ws)

  abbrev P : Ranged Form
  P = product ws F Z L

  -- ---- a range, part by part

  module _ {B : Type 0} (H : FormEnd → Syntax PlainToken B) where
    abbrev high_part : Place → Form → Form → Syntax PlainToken B
    high_part at lo hi = mark ws right_paren then λ _. H (ByRange at lo hi)

    abbrev dots_part : Place → Form → Syntax PlainToken B
    dots_part at lo = F then λ hi. high_part at lo hi

    abbrev low_part : Place → Form → Syntax PlainToken B
    low_part at lo = mark ws dots then λ _. dots_part at lo

    abbrev first_part : Place → Syntax PlainToken B
    first_part at = F then λ lo. low_part at lo

    abbrev pub parts : Place → Syntax PlainToken B
    parts at = mark ws left_paren then λ _. first_part at

  abbrev given : FormEnd → Syntax PlainToken FormEnd
  given r = gives r

  abbrev pub range : Syntax PlainToken FormEnd
  range = mark ws plus then λ at. parts given at

  module _ {B : Type 0} (H : FormEnd → Syntax PlainToken B) (empty : (r : FormEnd) → (H r).begun []) where
    high_then : (at : Place) (lo hi : Form) → Same (high_part given at lo hi then H) (high_part H at lo hi)
    high_then at lo hi = both (handed_back (mark ws right_paren) (λ _. ByRange at lo hi) H (λ _. empty (ByRange at lo hi))) (handed (mark ws right_paren) (λ _. ByRange at lo hi) H)

    pub parts_then : (at : Place) → Same (parts given at then H) (parts H at)
    parts_then at =
        flat (mark ws left_paren) (λ _. first_part given at) H (λ _. first_part H at) (λ _.
        flat F (low_part given at) H (low_part H at) (λ lo.
        flat (mark ws dots) (λ _. dots_part given at lo) H (λ _. dots_part H at lo) (λ _.
        flat F (high_part given at lo) H (high_part H at lo) (λ hi. high_then at lo hi))))

    pub range_then : Same (range then H) (mark ws plus then λ at. parts H at)
    range_then = flat (mark ws plus) (λ at. parts given at) H (λ at. parts H at) parts_then

  -- ---- what stands after `+`: a right operand, or a range

  module _ (a : Form) (at : Place) where
    abbrev sum_with : Spanned Form → Ranged Form
    sum_with right = gives (Binary at Add a right.0, right.1)

    abbrev rest : Spanned Form → Ranged Form
    rest x = added_rest ws F Z L a at x

    abbrev with_range : FormEnd → Ranged Form
    with_range r = gives (a, Some r)

    abbrev Target : Ranged Form
    Target = choice no [] (P then sum_with) (parts given at then with_range)

    product_in : Within (prefix ws F Z L then rest) (P then sum_with)
    unfolding added_rest joined
    product_in = forth (to_left (prefix ws F Z L) (joined_more ws product_operators (prefix ws F Z L)) sum_with)

    product_out : Within (P then sum_with) (prefix ws F Z L then rest)
    unfolding added_rest joined
    product_out = back (to_left (prefix ws F Z L) (joined_more ws product_operators (prefix ws F Z L)) sum_with)

    abbrev Behind : Place → Ranged Form
    Behind p = behind_parenthesis ws F (prefix ws F Z L) p

    prefix_in : Within (prefix_of ws F Z L (prefix ws F Z L) then rest) Target
    prefix_in = in_turn (back (prefix_knot ws F Z L)) (λ x. itself (rest x)) so product_in so first no [] (parts given at then with_range) (itself (P then sum_with))

    behind_in : Within (mark ws left_paren then λ p. Behind p then rest) Target
    unfolding prefix_of
    behind_in =
        forth (to_left (mark ws left_paren) Behind rest)
        so in_turn (first (formula_kind ws) (mark_kind left_paren ∷ []) (bare_prefix ws F Z L (prefix ws F Z L)) (itself (mark ws left_paren then Behind))) (λ x. itself (rest x)) so prefix_in

    bare_in : Within (bare_prefix ws F Z L (prefix ws F Z L) then rest) Target
    unfolding prefix_of
    bare_in = in_turn (second (formula_kind ws) (mark_kind left_paren ∷ []) (mark ws left_paren then Behind) (itself (bare_prefix ws F Z L (prefix ws F Z L)))) (λ x. itself (rest x)) so prefix_in

    abbrev Typed : Place → Ranged Form
    Typed p = cast_to_type ws (prefix ws F Z L) p

    abbrev Integral : Place → Ranged Form
    Integral p = cast_to_integer ws (prefix ws F Z L) p

    typed_in : Within (mark ws left_paren then λ p. Typed p then rest) Target
    unfolding behind_parenthesis
    typed_in = on (mark ws left_paren) (λ p. in_turn (first (formula_kind ws) first_type _ (itself (Typed p))) (λ x. itself (rest x))) so behind_in

    integral_in : Within (mark ws left_paren then λ p. Integral p then rest) Target
    unfolding behind_parenthesis
    integral_in =
        on (mark ws left_paren) (λ p. in_turn (second (formula_kind ws) first_type (Typed p) (first (formula_kind ws) (integer_kind ∷ []) _ (itself (Integral p)))) (λ x. itself (rest x))) so behind_in

    abbrev Closed : Form → Syntax PlainToken Form
    Closed x = closed_postfix ws F x

    abbrev open_end : Form → Ranged Form
    open_end y = gives (y, None)

    -- the rest behind a form in parentheses
    abbrev closing : Form → Ranged Form
    closing x = Closed x then λ y. rest (y, None)

    abbrev Open : Form → Ranged Form
    Open x = Closed x then open_end

    rest_empty : (y : Spanned Form) → (rest y).begun []
    unfolding added_rest joined_more
    rest_empty y = inl (0, inr refl)

    closed_in : Within (mark ws left_paren then λ p. F then closing) Target
    unfolding behind_parenthesis parenthesised
    closed_in =
        on (mark ws left_paren) (λ p. on F (λ x. handed (Closed x) (λ y. (y, None)) rest) so forth (to_left F Open rest)
        so in_turn (second (formula_kind ws) first_type (Typed p) (second (formula_kind ws) (integer_kind ∷ []) (Integral p) (itself (F then Open)))) (λ x. itself (rest x))) so behind_in

    ranged_in : Within (parts with_range at) Target
    ranged_in = back (parts_then with_range (λ r. refl) at) so second no [] (P then sum_with) (itself _)

    added_forth : Within (added ws F Z L a at) Target
    unfolding added added_parenthesis behind_first parsed.ranged closed
    added_forth =
        either (formula_kind ws) (mark_kind left_paren ∷ [])
        (after_either (formula_kind ws) first_type (mark ws left_paren) _ _ typed_in
        (after_either (formula_kind ws) (integer_kind ∷ []) (mark ws left_paren) _ _ integral_in
        (on (mark ws left_paren) (λ p. apart_after (formula_kind ws) (mark_kind dots ∷ []) F (low_part with_range at) closing)
        so after_either (formula_kind ws) (mark_kind dots ∷ []) (mark ws left_paren) (λ p. first_part with_range at) (λ p. F then closing) ranged_in closed_in))) bare_in

    behind_out : (p : Place) → Within (Behind p then rest) (added_parenthesis ws F Z L a at p)
    unfolding behind_parenthesis parenthesised added_parenthesis behind_first
    behind_out p =
        either_before (formula_kind ws) first_type rest (first (formula_kind ws) first_type _ (itself (Typed p then rest)))
        (either_before (formula_kind ws) (integer_kind ∷ []) rest (second (formula_kind ws) first_type (Typed p then rest) (first (formula_kind ws) (integer_kind ∷ []) _ (itself (Integral p then rest))))
        (back (to_left F Open rest) so on F (λ x. handed_back (Closed x) (λ y. (y, None)) rest (λ y. rest_empty (y, None)))
        so second (formula_kind ws) first_type (Typed p then rest) (second (formula_kind ws) (integer_kind ∷ []) (Integral p then rest) (on F (λ x. second (formula_kind ws) (mark_kind dots ∷ []) _ (itself (closing x)))))))

    parts_out : (p : Place) → Within (first_part with_range at) (added_parenthesis ws F Z L a at p)
    unfolding added_parenthesis behind_first parsed.ranged closed
    parts_out p =
        second (formula_kind ws) first_type (Typed p then rest) (second (formula_kind ws) (integer_kind ∷ []) (Integral p then rest) (on F (λ x. first (formula_kind ws) (mark_kind dots ∷ []) (closing x) (itself (low_part with_range at x)))))

    added_back : Within Target (added ws F Z L a at)
    unfolding added prefix_of
    added_back =
        either no []
        (product_out so in_turn (forth (prefix_knot ws F Z L)) (λ x. itself (rest x))
        so either_before (formula_kind ws) (mark_kind left_paren ∷ []) rest
        (back (to_left (mark ws left_paren) Behind rest) so on (mark ws left_paren) behind_out so first (formula_kind ws) (mark_kind left_paren ∷ []) _ (itself _)) (second (formula_kind ws) (mark_kind left_paren ∷ []) _ (itself _)))
        (forth (parts_then with_range (λ r. refl) at) so on (mark ws left_paren) parts_out so first (formula_kind ws) (mark_kind left_paren ∷ []) _ (itself _))

  -- ---- the operators of a sum

  mark_only : (k : PlainTokenKind) → eqb (token_kind ws k) (mark_kind plus) ≡ true → k ≡ token.Mark plus
  mark_only (token.Word n) e = absurd (no_word (word_at ws n) e)
  mark_only (token.Mark m) e = let q = eqb-true (mark_kind m) (mark_kind plus) e in let s : m ≡ plus = omega (arith, q) in ap token.Mark s
  mark_only _ e = absurd cc

  plus_token : (t : PlainToken) (p : Place) → cond (eqb (kind ws t) (mark_kind plus)) (Some t.place) None ≡ Some p → (t.kind ≡ token.Mark plus) × (t.place ≡ p)
  plus_token t p e = by (eqb (kind ws t) (mark_kind plus)) refl e
    where
      by : (b : Bool) → eqb (kind ws t) (mark_kind plus) ≡ b → cond b (Some t.place) None ≡ Some p → (t.kind ≡ token.Mark plus) × (t.place ≡ p)
      by true q f = (mark_only t.kind q, cc)
      by false q f = absurd cc

  token_plus : (t : PlainToken) (m : ℕ) → t.kind ≡ token.Mark m → m ≡ plus → cond (eqb (kind ws t) (mark_kind plus)) (Some t.place) None ≡ Some t.place
  token_plus t m q p = rw (q, p) refl

  module _ (a : Form) where
    abbrev after : FormulaOperator × Place → Ranged Form
    after o = P then λ right. gives (joined_forms o a right.0, right.1)

    abbrev added_at : Place → Ranged Form
    added_at at = P then sum_with a at

    abbrev Which : ℕ → FormulaOperator → Type 0
    Which m op = ((m ≡ plus) × (op ≡ Term Add)) ⊎ (entry m difference_operators ≡ Some op)

    -- the operator at its place is `+`
    as_added : (x : FormulaOperator × Place) (p : Place) → x.0 ≡ Term Add → p ≡ x.1 → Within (after x) (added_at p)
    as_added x p o e =
        subst (λ (op : FormulaOperator). Within (after (op, x.1)) (added_at p)) (sym o) (subst (λ (q : Place). Within (after (Term Add, q)) (added_at p)) e (itself (added_at p)))

    operators_forth : Within (joined_once ws sum_operators P a) (choice no [] (mark ws plus then added_at) (joined_once ws difference_operators P a))
    unfolding joined_once
    operators_forth = by_token (inl (inl (inl refl))) (λ t x e. by t x e (table_holds Which sum_operators t x (inl (refl, refl), (inr refl, tt)) e))
      where
        by : (t : PlainToken) (x : FormulaOperator × Place) → placed (mark_entry sum_operators) t ≡ Some x → IsEntry Which t.kind x.0
            → Within (just t x then after) (choice no [] (mark ws plus then added_at) (one (placed (mark_entry difference_operators)) then after))
        by t x e (m, q, inl (p, o)) =
            just_as t x t.place after added_at (token_plus t m q p) (as_added x t.place o (place_is (mark_entry sum_operators) t x e)) so first no [] (one (placed (mark_entry difference_operators)) then after) (itself _)
        by t x e (m, q, inr g) = just_then t x after after (in_table sum_operators difference_operators t x m e q g) (itself (after x)) so second no [] (mark ws plus then added_at) (itself _)

    plus_back : Within (mark ws plus then added_at) (one (placed (mark_entry sum_operators)) then after)
    plus_back =
        one_by_one (λ t p e.
        let s = plus_token t p e in
        let k : mark_entry sum_operators t.kind ≡ Some (Term Add) = ap (mark_entry sum_operators) s.0 in
        ((Term Add, t.place), placed_some (mark_entry sum_operators) t (Term Add) k, subst (λ (q : Place). Within (added_at q) (after (Term Add, t.place))) s.1 (itself _)))

    minus_back : Within (one (placed (mark_entry difference_operators)) then after) (one (placed (mark_entry sum_operators)) then after)
    minus_back =
        by_token (inl (inl refl)) (λ t x e.
        let s = table_holds (λ m op. entry m sum_operators ≡ Some op) difference_operators t x (refl, tt) e in
        just_then t x after after (in_table difference_operators sum_operators t x s.0 e s.1 s.2) (itself (after x)))

    operators_back : Within (choice no [] (mark ws plus then added_at) (joined_once ws difference_operators P a)) (joined_once ws sum_operators P a)
    unfolding joined_once
    operators_back = either no [] plus_back minus_back

    turn_forth : Within (sum_once ws F Z L a) (choice no [] (joined_once ws sum_operators P a) (ranged range a))
    unfolding sum_once
    turn_forth =
        either (formula_kind ws) (mark_kind plus ∷ [])
        (on (mark ws plus) (λ at. added_forth a at)
        so after_either no [] (mark ws plus) added_at (λ at. parts given at then with_range a at)
        (first no [] (joined_once ws difference_operators P a) (itself (mark ws plus then added_at)) so operators_back so first no [] (ranged range a) (itself _))
        (forth (to_left (mark ws plus) (λ at. parts given at) (λ r. gives (a, Some r))) so second no [] (joined_once ws sum_operators P a) (itself _)))
        (second no [] (mark ws plus then added_at) (itself (joined_once ws difference_operators P a)) so operators_back so first no [] (ranged range a) (itself _))

    turn_back : Within (choice no [] (joined_once ws sum_operators P a) (ranged range a)) (sum_once ws F Z L a)
    unfolding sum_once
    turn_back =
        either no []
        (operators_forth
        so either no []
        (on (mark ws plus) (λ at. first no [] (parts given at then with_range a at) (itself (added_at at)) so added_back a at) so first (formula_kind ws) (mark_kind plus ∷ []) _ (itself _))
        (second (formula_kind ws) (mark_kind plus ∷ []) _ (itself _)))
        (back (to_left (mark ws plus) (λ at. parts given at) (λ r. gives (a, Some r)))
        so on (mark ws plus) (λ at. second no [] (added_at at) (itself (parts given at then with_range a at)) so added_back a at) so first (formula_kind ws) (mark_kind plus ∷ []) _ (itself _))

    pub turn_is : Same (sum_once ws F Z L a) (choice no [] (joined_once ws sum_operators P a) (ranged range a))
    turn_is = both turn_forth turn_back
