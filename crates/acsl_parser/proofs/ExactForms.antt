-- Forms are read exactly.
use Rattle.std.proofs.Common.{◌≡◌, ℕ, suc, Bool, true, false, List, [], ◌∷◌, ◌++◌, Option, Some, None, refl, inr}
use Rattle.grammar.specs.Syntax.{Syntax, none, gives, ◌then◌, many}
use Rattle.grammar.specs.Exact.{IsExact, IsGood}
use Rattle.grammar.proofs.Bounds.{LoopFits}
use Rattle.grammar.proofs.Parts.{none_exact, widen}
use Rattle.grammar.proofs.Sets.{within, apart, within_self, within_left, within_right}
use Rattle.grammar.proofs.Productions.{seq, seq_to, after, after_to, either, either_to, maybe_to, made, tail_to, tail_so, enlarged_to, again_and_again, again_and_again_to, declared, given, same, one_lower, knot_exact, knot_is, knot_both}
use Rattle.c_syntax.specs.declared.place.Place.{Place}
use Rattle.c_syntax.specs.Formulas.{CastType, Form, FormLinks, NoLink, Linked, FormZone, Unary, Binary, Cast, Connected, Choice, Quantified}
use Rattle.c_syntax.specs.declared.expression.BinOp.TheVariants.{Add}
use Rattle.c_syntax.specs.declared.logic.Connective.TheVariants as connective
use Rattle.c_syntax.specs.Tokens.{PlainToken}
use Rattle.c_model.specs.declared.formulas.ChainDirection.{ChainDirection}
use Rattle.c_model.specs.declared.formulas.ChainDirection.TheVariants.{Start, Equal, Up, Down, Ended}
use Rattle.c_model.specs.declared.formulas.FormulaMode.{FormulaMode}
use Rattle.c_model.specs.declared.formulas.FormulaMode.TheVariants.{Alone, Zone}
use Rattle.c_model.specs.declared.formulas.FormulaOperator.{FormulaOperator}
use Rattle.c_model.specs.declared.vocabulary.Keyword.TheVariants as keyword
use Rattle.c_model.specs.Vocabulary.{Vocabulary}
use Rattle.c_model.specs.Punctuators.{plus, question, colon, semicolon, left_paren, right_paren, left_bracket, right_bracket, comma, dot, arrow, dots, implies}
use Rattle.c_model.specs.ExpressionGrammar.{name_kind, number_kind, letter_kind, logic_kind, null_kind, fact_kind, question_kind, separated_kind, result_kind, old_kind, at_kind, quantifier_kind, type_name_kind, keyword_kind, mark_kind}
use Rattle.c_model.specs.ExpressionGrammar.{kinds_of, first_type, first_integer_words, closed, type_name}
use Rattle.c_model.specs.ExpressionGrammar.{expression, integer_words, typedef_name, enum_tag}
use Rattle.c_model.specs.AnnotationGrammar.{integer_kind, formula_kind, first_behind, prefix_operators, product_operators, sum_operators, difference_operators, shift_operators, bit_and_operators, bit_xor_operators, bit_or_operators}
use Rattle.c_model.specs.AnnotationGrammar.{conjunction_operators}
use Rattle.c_model.specs.AnnotationGrammar.{exclusion_operators, disjunction_operators, equivalence_operators, relations_behind, direction_behind, FormEnd, Spanned, quantifier_end, zone_of, joined_forms, chained, unended_kinds, unended}
use Rattle.c_model.specs.AnnotationGrammar.{unended_only, endless, as_it_is, whole, zone, named_form}
use Rattle.c_model.specs.AnnotationGrammar.{literal_form, sized_form}
use Rattle.c_model.specs.AnnotationGrammar.{null_form, told_form, asked_form, next_zone, some_zones, separated_form, result_form, old_form, labelled_form, atom, worded, indexed, dotted, pointed, postfix_once, postfixes, worded_postfix, cast_behind}
use Rattle.c_model.specs.AnnotationGrammar.{cast_to_type, cast_to_integer}
use Rattle.c_model.specs.AnnotationGrammar.{closed_postfix, parenthesised, behind_parenthesis, prefixed, bare_prefix, prefix_of, prefix, joined_once, joined_more, joined, product, added_rest, ranged, behind_first}
use Rattle.c_model.specs.AnnotationGrammar.{added_parenthesis, added, sum_once}
use Rattle.c_model.specs.AnnotationGrammar.{sum_more, zone_sum, linked, links_of, links, chain_behind, chain_of, implied, implication_behind, implication_of, chosen_behind, choice_behind, sum, shift, chain, bit_and, bit_xor, bit_or, conjunction}
use Rattle.c_model.specs.AnnotationGrammar.{exclusion, disjunction, implication, equivalence, form_of, forms, form}
use Rattle.c_model.specs.AnnotationGrammar.{placed_name, next_name, some_names, binder_type, binders, quantified}
use Rattle.c_expr_parser.proofs.ExactTokens.{typedef_name_good}
use Rattle.c_expr_parser.proofs.ExactTypes.{integer_words_good, enum_tag_good}
use Rattle.c_expr_parser.proofs.ExactExpressions.{more_type_name, type_name_good, expression_good}
use Rattle.acsl_parser.proofs.FormulaTokens.{AreForms, in_annotations, fixed_form, mark_form, number_form, letter_form, marks_form, name_form, truth_form, integer_form, fact_form, question_form, quantifier_form, member_form}

-- ---- what begins a form, and what it can go on with, by levels: in both modes the same

abbrev pub first_atom : List ℕ
first_atom = name_kind ∷ null_kind ∷ result_kind ∷ number_kind ∷ letter_kind ∷ logic_kind ∷ []

abbrev pub first_worded : List ℕ
first_worded = fact_kind ∷ question_kind ∷ separated_kind ∷ old_kind ∷ at_kind ∷ first_atom

abbrev pub first_bare : List ℕ
first_bare = kinds_of prefix_operators ++ (keyword_kind keyword.Sizeof ∷ quantifier_kind ∷ first_worded)

abbrev pub first_form : List ℕ
first_form = mark_kind left_paren ∷ first_bare

abbrev pub more_product : List ℕ
more_product = kinds_of product_operators ++ first_behind

abbrev pub more_sum : List ℕ
more_sum = kinds_of sum_operators ++ more_product

abbrev pub more_shift : List ℕ
more_shift = kinds_of shift_operators ++ more_sum

abbrev pub relation_kinds : List ℕ
relation_kinds = kinds_of (relations_behind Start)

abbrev pub more_chain : List ℕ
more_chain = relation_kinds ++ more_shift

abbrev pub more_bit_and : List ℕ
more_bit_and = kinds_of bit_and_operators ++ more_chain

abbrev pub more_bit_xor : List ℕ
more_bit_xor = kinds_of bit_xor_operators ++ more_bit_and

abbrev pub more_bit_or : List ℕ
more_bit_or = kinds_of bit_or_operators ++ more_bit_xor

abbrev pub more_conjunction : List ℕ
more_conjunction = kinds_of conjunction_operators ++ more_bit_or

abbrev pub more_exclusion : List ℕ
more_exclusion = kinds_of exclusion_operators ++ more_conjunction

abbrev pub more_disjunction : List ℕ
more_disjunction = kinds_of disjunction_operators ++ more_exclusion

abbrev pub more_implication : List ℕ
more_implication = mark_kind implies ∷ more_disjunction

abbrev pub more_equivalence : List ℕ
more_equivalence = kinds_of equivalence_operators ++ more_implication

abbrev pub more_form : List ℕ
more_form = mark_kind question ∷ more_equivalence

-- what begins the type of binders
abbrev pub first_values : List ℕ
first_values = integer_kind ∷ keyword_kind keyword.Enum ∷ type_name_kind ∷ first_integer_words

-- ---- what can follow a form depends on what ends it: the form of a quantifier takes all that can follow one

abbrev pub behind_end : List ℕ → Option FormEnd → List ℕ
behind_end m None = m
behind_end m (Some e) = more_form

abbrev pub edge : {A : Type 0} → List ℕ → Spanned A → List ℕ
edge m x = behind_end m x.1

-- a production of what may be ended is read exactly, with these sets
abbrev pub AreSpans : {A : Type 0} → Vocabulary → ℕ → Syntax PlainToken (Spanned A) → Syntax PlainToken (Spanned A) → Bool → List ℕ → List ℕ → Type 0
AreSpans ws n G H null first m = IsGood (formula_kind ws) n G H null first (edge m)

ends_alike : (m m' : List ℕ) → within m m' ≡ true → (e : Option FormEnd) → within (behind_end m e) (behind_end m' e) ≡ true
ends_alike m m' w None = w
ends_alike m m' w (Some e) = refl

ends_below : (m m' : List ℕ) → within m m' ≡ true → within m more_form ≡ true → (e : Option FormEnd) → within m (behind_end m' e) ≡ true
ends_below m m' w v None = w
ends_below m m' w v (Some e) = v

ends_within : (m : List ℕ) → within m more_form ≡ true → (e : Option FormEnd) → within (behind_end m e) more_form ≡ true
ends_within m w None = w
ends_within m w (Some e) = refl

pub kinds_apart : {A : Type 0} (ks m : List ℕ) → apart ks m ≡ true → (x : Spanned A) → apart (unended_kinds ks x) (edge m x) ≡ true
kinds_apart ks m a (x, None) = a
kinds_apart ks m a (x, Some e) = refl

module _ (ws : Vocabulary) where
  -- ---- forms that hold no other

  closed_form : {A : Type 0} {n : ℕ} (x : A) → AreForms ws n (closed ws x) (closed ws x) false (mark_kind right_paren ∷ []) []
  unfolding closed
  closed_form x = seq (mark_form ws right_paren) (λ _. given x) refl

  named_good : {n : ℕ} → AreForms ws n (named_form ws) (named_form ws) false (name_kind ∷ []) []
  unfolding named_form
  named_good = declared (seq (name_form ws) (λ x. given _) refl) refl

  literal_good : {n : ℕ} → AreForms ws n (literal_form ws) (literal_form ws) false (number_kind ∷ letter_kind ∷ logic_kind ∷ []) []
  unfolding literal_form
  literal_good =
      declared (either (number_kind ∷ []) (seq (number_form ws) (λ n. given _) refl)
      (either (letter_kind ∷ []) (seq (letter_form ws) (λ z. given _) refl) (seq (truth_form ws) (λ b. given _) refl) refl) refl) refl

  pub type_form : {n : ℕ} → AreForms ws n (type_name ws (expression ws)) (type_name ws (expression ws)) false first_type more_type_name
  type_form =
      same (in_annotations ws first_type more_type_name (record { name = refl; integer = refl }) (record { name = refl; integer = refl }) (type_name_good ws (expression_good ws)).here)

  sized_good : {n : ℕ} → AreForms ws n (sized_form ws) (sized_form ws) false (keyword_kind keyword.Sizeof ∷ []) []
  unfolding sized_form
  sized_good =
      declared (seq (fixed_form ws (keyword_kind keyword.Sizeof) (record { name = refl; integer = refl })) (λ at. seq (mark_form ws left_paren) (λ _. seq type_form (λ t. closed_form _) refl) refl) refl) refl

  null_good : {n : ℕ} → AreForms ws n (null_form ws) (null_form ws) false (null_kind ∷ []) []
  unfolding null_form
  null_good = declared (seq (fixed_form ws null_kind (record { name = refl; integer = refl })) (λ at. given _) refl) refl

  result_good : {n : ℕ} → AreForms ws n (result_form ws) (result_form ws) false (result_kind ∷ []) []
  unfolding result_form
  result_good = declared (seq (fixed_form ws result_kind (record { name = refl; integer = refl })) (λ at. given _) refl) refl

  pub atom_good : {n : ℕ} → AreForms ws n (atom ws) (atom ws) false first_atom []
  unfolding atom
  atom_good = declared (either (name_kind ∷ []) named_good (either (null_kind ∷ []) null_good (either (result_kind ∷ []) result_good literal_good refl) refl) refl) refl

  -- ---- names, and the binders of quantifiers

  pub name_good : {n : ℕ} → AreForms ws n (placed_name ws) (placed_name ws) false (name_kind ∷ []) []
  unfolding placed_name
  name_good = declared (seq (name_form ws) (λ x. given _) refl) refl

  pub next_name_good : {n : ℕ} (names : List (Place × ℕ)) → AreForms ws n (next_name ws names) (next_name ws names) false (mark_kind comma ∷ []) []
  unfolding next_name
  next_name_good names = declared (seq (mark_form ws comma) (λ _. seq name_good (λ x. given _) refl) refl) refl

  pub some_names_good : {n : ℕ} → AreForms ws n (some_names ws) (some_names ws) false (name_kind ∷ []) (mark_kind comma ∷ [])
  unfolding some_names
  some_names_good = declared (seq name_good (λ x. again_and_again (mark_kind comma ∷ []) next_name_good refl _) refl) refl

  enum_form : {n : ℕ} → AreForms ws n (enum_tag ws) (enum_tag ws) false (keyword_kind keyword.Enum ∷ []) []
  enum_form = same (in_annotations ws (keyword_kind keyword.Enum ∷ []) [] (record { name = refl; integer = refl }) (record { name = refl; integer = refl }) (enum_tag_good ws {n = 0}).here)

  typedef_form : {n : ℕ} → AreForms ws n (typedef_name ws) (typedef_name ws) false (type_name_kind ∷ []) []
  unfolding typedef_name
  typedef_form =
      declared (seq (same (in_annotations ws (type_name_kind ∷ []) [] (record { name = refl; integer = refl }) (record { name = refl; integer = refl }) (typedef_name_good ws {n = 0}).here)) (λ t. given _) refl) refl

  words_form : {n : ℕ} → AreForms ws n (integer_words ws) (integer_words ws) false first_integer_words first_integer_words
  words_form =
      same (in_annotations ws first_integer_words first_integer_words (record { name = refl; integer = refl }) (record { name = refl; integer = refl }) (integer_words_good ws {n = 0}).here)

  pub binder_type_good : {n : ℕ} → AreForms ws n (binder_type ws) (binder_type ws) false first_values first_integer_words
  unfolding binder_type
  binder_type_good =
      declared (either (integer_kind ∷ []) (seq (integer_form ws) (λ _. given _) refl)
      (either (keyword_kind keyword.Enum ∷ []) (seq enum_form (λ t. given _) refl)
      (either (type_name_kind ∷ []) (seq typedef_form (λ t. given _) refl) (seq words_form (λ t. given _) refl) refl) refl) refl) refl

  pub binders_good : {n : ℕ} → AreForms ws n (binders ws) (binders ws) false first_values []
  unfolding binders
  binders_good = declared (seq binder_type_good (λ t. seq some_names_good (λ names. seq (mark_form ws semicolon) (λ _. given _) refl) refl) refl) refl

  pub quantified_good : {n : ℕ} {L L' : Syntax PlainToken (Spanned Form)} → AreSpans ws n L L' false first_form more_form → AreSpans ws (suc n) (quantified ws L) (quantified ws L') false (quantifier_kind ∷ []) []
  unfolding quantified
  quantified_good l =
      after_to (quantifier_form ws) (λ q. seq_to binders_good (λ b. made (λ x. (Quantified q.1 q.0 b.0 b.1 x.0, Some (quantifier_end x.1))) l (λ x. ends_within more_form refl x.1)) refl) refl

  -- ---- postfix forms, where forms inside them are read exactly

  module _ {n : ℕ} {E E' : Syntax PlainToken Form} (e : AreForms ws n E E' false first_form more_form) where
    indexed_good : (x : Form) → AreForms ws (suc n) (indexed ws E x) (indexed ws E' x) false (mark_kind left_bracket ∷ []) []
    unfolding indexed
    indexed_good x = declared (after (mark_form ws left_bracket) (λ at. seq e (λ y. seq (mark_form ws right_bracket) (λ _. given _) refl) refl) refl) refl

    dotted_good : (x : Form) → AreForms ws (suc n) (dotted ws x) (dotted ws x) false (mark_kind dot ∷ []) []
    unfolding dotted
    dotted_good x = declared (after (mark_form ws dot) (λ at. seq (member_form ws) (λ m. given _) refl) refl) refl

    pointed_good : (x : Form) → AreForms ws (suc n) (pointed ws x) (pointed ws x) false (mark_kind arrow ∷ []) []
    unfolding pointed
    pointed_good x = declared (after (mark_form ws arrow) (λ at. seq (member_form ws) (λ m. given _) refl) refl) refl

    pub postfix_once_good : (x : Form) → AreForms ws (suc n) (postfix_once ws E x) (postfix_once ws E' x) false first_behind []
    unfolding postfix_once
    postfix_once_good x = declared (either (mark_kind left_bracket ∷ []) (indexed_good x) (either (mark_kind dot ∷ []) (dotted_good x) (pointed_good x) refl) refl) refl

    pub postfixes_good : (x : Form) → AreForms ws (suc n) (postfixes ws E x) (postfixes ws E' x) true first_behind first_behind
    unfolding postfixes
    postfixes_good x = declared (again_and_again first_behind postfix_once_good refl x) refl

  -- ---- primary forms, where forms and zones inside them are read exactly

  module _ {n : ℕ} {E E' : Syntax PlainToken Form} {Z Z' : Syntax PlainToken FormZone} (e : AreForms ws n E E' false first_form more_form) (z : AreForms ws n Z Z' false first_form more_form) where
    told_good : AreForms ws (suc n) (told_form ws E) (told_form ws E') false (fact_kind ∷ []) []
    unfolding told_form
    told_good = declared (after (fact_form ws) (λ f. seq (mark_form ws left_paren) (λ _. seq e (λ x. closed_form _) refl) refl) refl) refl

    asked_good : AreForms ws (suc n) (asked_form ws Z) (asked_form ws Z') false (question_kind ∷ []) []
    unfolding asked_form
    asked_good = declared (after (question_form ws) (λ q. seq (mark_form ws left_paren) (λ _. seq z (λ x. closed_form _) refl) refl) refl) refl

    pub next_zone_good : (zs : List FormZone) → AreForms ws n (next_zone ws Z zs) (next_zone ws Z' zs) false (mark_kind comma ∷ []) more_form
    unfolding next_zone
    next_zone_good zs = declared (seq (mark_form ws comma) (λ _. seq z (λ x. given _) refl) refl) refl

    some_zones_good : AreForms ws n (some_zones ws Z) (some_zones ws Z') false first_form (mark_kind comma ∷ more_form)
    unfolding some_zones
    some_zones_good = declared (seq z (λ x. seq (next_zone_good _) (λ zs. again_and_again (mark_kind comma ∷ []) next_zone_good refl zs) refl) refl) refl

    separated_good : AreForms ws (suc n) (separated_form ws Z) (separated_form ws Z') false (separated_kind ∷ []) []
    unfolding separated_form
    separated_good =
        declared (after (fixed_form ws separated_kind (record { name = refl; integer = refl })) (λ at. seq (mark_form ws left_paren) (λ _. seq some_zones_good (λ zs. closed_form _) refl) refl) refl) refl

    old_good : AreForms ws (suc n) (old_form ws E) (old_form ws E') false (old_kind ∷ []) []
    unfolding old_form
    old_good = declared (after (fixed_form ws old_kind (record { name = refl; integer = refl })) (λ at. seq (mark_form ws left_paren) (λ _. seq e (λ x. closed_form _) refl) refl) refl) refl

    labelled_good : AreForms ws (suc n) (labelled_form ws E) (labelled_form ws E') false (at_kind ∷ []) []
    unfolding labelled_form
    labelled_good =
        declared (after (fixed_form ws at_kind (record { name = refl; integer = refl })) (λ at. seq (mark_form ws left_paren) (λ _.
        seq e (λ x. seq (mark_form ws comma) (λ _. seq (name_form ws) (λ l. closed_form _) refl) refl) refl) refl) refl) refl

    worded_good : AreForms ws (suc n) (worded ws E Z) (worded ws E' Z') false first_worded []
    unfolding worded
    worded_good =
        declared (either (fact_kind ∷ []) told_good (either (question_kind ∷ []) asked_good (either (separated_kind ∷ []) separated_good
        (either (old_kind ∷ []) old_good (either (at_kind ∷ []) labelled_good atom_good refl) refl) refl) refl) refl) refl

    worded_postfix_good : AreForms ws (suc n) (worded_postfix ws E Z) (worded_postfix ws E' Z') false first_worded first_behind
    unfolding worded_postfix
    worded_postfix_good = declared (seq worded_good (λ x. postfixes_good e x) refl) refl

  -- a form that nothing ends
  endless_good : {n : ℕ} {G G' : Syntax PlainToken Form} {f m : List ℕ} → AreForms ws n G G' false f m → AreSpans ws n (endless G) (endless G') false f m
  endless_good {n} {G} {G'} {f} {m} g = made {more = edge m} (λ x. (x, None)) g (λ x. within_self m)

  -- ---- prefix forms, where forms and prefix forms inside them are read exactly

  module _ {n : ℕ} {E E' : Syntax PlainToken Form} {P P' : Syntax PlainToken (Spanned Form)} (e : AreForms ws n E E' false first_form more_form) (p : AreSpans ws n P P' false first_form first_behind) where
    cast_good : (at : Place) (t : CastType) → AreSpans ws n (cast_behind ws P at t) (cast_behind ws P' at t) false (mark_kind right_paren ∷ []) first_behind
    unfolding cast_behind
    cast_good at t = seq_to (mark_form ws right_paren) (λ _. made (λ x. (Cast at t x.0, x.1)) p (λ x. ends_alike first_behind first_behind refl x.1)) refl

    pub cast_to_type_good : (at : Place) → AreSpans ws n (cast_to_type ws P at) (cast_to_type ws P' at) false first_type first_behind
    unfolding cast_to_type
    cast_to_type_good at = seq_to type_form (λ t. cast_good at _) refl

    pub cast_to_integer_good : (at : Place) → AreSpans ws n (cast_to_integer ws P at) (cast_to_integer ws P' at) false (integer_kind ∷ []) first_behind
    unfolding cast_to_integer
    cast_to_integer_good at = seq_to (integer_form ws) (λ _. cast_good at _) refl

    pub closed_postfix_good : (x : Form) → AreForms ws n (closed_postfix ws E x) (closed_postfix ws E' x) false (mark_kind right_paren ∷ []) first_behind
    unfolding closed_postfix
    closed_postfix_good x = declared (seq (mark_form ws right_paren) (λ _. one_lower (postfixes_good e x)) refl) refl

    parenthesised_good : AreSpans ws n (parenthesised ws E) (parenthesised ws E') false first_form first_behind
    unfolding parenthesised
    parenthesised_good = seq_to e (λ x. endless_good (closed_postfix_good x)) refl

    behind_good : (at : Place) → AreSpans ws n (behind_parenthesis ws E P at) (behind_parenthesis ws E' P' at) false (first_type ++ integer_kind ∷ first_form) first_behind
    unfolding behind_parenthesis
    behind_good at =
        either_to first_type (cast_to_type_good at)
        (either_to (integer_kind ∷ []) {first = integer_kind ∷ first_form} {more = edge first_behind} (cast_to_integer_good at) parenthesised_good refl (λ x. ends_alike first_behind first_behind refl x.1)
        (λ x. ends_alike first_behind first_behind refl x.1))
        refl (λ x. ends_alike first_behind first_behind refl x.1) (λ x. ends_alike first_behind first_behind refl x.1)

    prefixed_good : AreSpans ws (suc n) (prefixed ws P) (prefixed ws P') false (kinds_of prefix_operators) first_behind
    unfolding prefixed
    prefixed_good = after_to (marks_form ws prefix_operators) (λ o. made (λ x. (Unary o.1 o.0 x.0, x.1)) p (λ x. ends_alike first_behind first_behind refl x.1)) refl

    module _ {Z Z' : Syntax PlainToken FormZone} {L L' : Syntax PlainToken (Spanned Form)} (z : AreForms ws n Z Z' false first_form more_form) (l : AreSpans ws n L L' false first_form more_form) where
      pub bare_good : AreSpans ws (suc n) (bare_prefix ws E Z L P) (bare_prefix ws E' Z' L' P') false first_bare first_behind
      unfolding bare_prefix
      bare_good =
          either_to (kinds_of prefix_operators) prefixed_good
          (either_to (keyword_kind keyword.Sizeof ∷ []) {first = keyword_kind keyword.Sizeof ∷ quantifier_kind ∷ first_worded} {more = edge first_behind} (endless_good sized_good)
          (either_to (quantifier_kind ∷ []) {first = quantifier_kind ∷ first_worded} {more = edge first_behind} (quantified_good l) (endless_good (worded_postfix_good e z))
          refl (λ x. ends_alike [] first_behind refl x.1) (λ x. ends_alike first_behind first_behind refl x.1))
          refl (λ x. ends_alike [] first_behind refl x.1) (λ x. ends_alike first_behind first_behind refl x.1))
          refl (λ x. ends_alike first_behind first_behind refl x.1) (λ x. ends_alike first_behind first_behind refl x.1)

      prefix_of_good : AreSpans ws (suc n) (prefix_of ws E Z L P) (prefix_of ws E' Z' L' P') false first_form first_behind
      unfolding prefix_of
      prefix_of_good =
          either_to (mark_kind left_paren ∷ []) (after_to (mark_form ws left_paren) (λ at. behind_good at) refl) bare_good
          refl (λ x. ends_alike first_behind first_behind refl x.1) (λ x. ends_alike first_behind first_behind refl x.1)

  module _ {E : Syntax PlainToken Form} {Z : Syntax PlainToken FormZone} {L : Syntax PlainToken (Spanned Form)} (e : IsExact (formula_kind ws) E false first_form (λ _. more_form)) (z : IsExact (formula_kind ws) Z false first_form (λ _. more_form))
      (l : IsExact (formula_kind ws) L false first_form (edge more_form)) where
    pub prefix_step : (k : ℕ) (U U' : Unit {0} → Syntax PlainToken (Spanned Form)) → ((s : Unit {0}) → AreSpans ws k (U s) (U' s) false first_form first_behind) → (s : Unit {0})
        → AreSpans ws (suc k) (prefix_of ws E Z L (U s)) (prefix_of ws E Z L (U' s)) false first_form first_behind
    prefix_step k U U' u s = prefix_of_good (same e) (u s) (same z) (same l)

  -- ---- operators of a table, where their operands are read exactly

  -- nothing goes on behind what is ended
  ended : {n : ℕ} (m : List ℕ) → AreSpans ws n (none {A = Spanned Form}) none false [] m
  ended m = same (widen (formula_kind ws) none false [] (λ _. []) false [] (edge m) (none_exact (formula_kind ws)) (λ h. h) refl (λ x. refl))

  pub once_good : {n : ℕ} (table : List (ℕ × FormulaOperator)) (m : List ℕ) {R R' : Syntax PlainToken (Spanned Form)} → AreSpans ws n R R' false first_form m → (x : Form)
      → AreSpans ws n (joined_once ws table R x) (joined_once ws table R' x) false (kinds_of table) m
  unfolding joined_once
  once_good table m r x = seq_to (marks_form ws table) (λ o. made (λ y. (joined_forms o x y.0, y.1)) r (λ y. ends_alike m m (within_self m) y.1)) refl

  -- a turn behind a form, or none behind what is ended
  module _ {n : ℕ} (ks m : List ℕ) {step step' : Form → Syntax PlainToken (Spanned Form)} (g : (x : Form) → AreSpans ws n (step x) (step' x) false ks m) where
    pub turn_good : (x : Spanned Form) → IsGood (formula_kind ws) n (unended_only step x) (unended_only step' x) false (unended_kinds ks x) (edge m)
    turn_good (x, None) = g x
    turn_good (x, Some e) = ended m

    kinds_within : (x : Spanned Form) → within (unended_kinds ks x) (edge (ks ++ m) x) ≡ true
    kinds_within (x, None) = within_left ks m
    kinds_within (x, Some e) = refl

    pub fits : apart ks m ≡ true → LoopFits (Spanned Form) (unended_kinds ks) (unended_kinds ks) (λ _ y. edge m y) (edge (ks ++ m))
    fits a = record {
      clash = λ x y. kinds_apart ks m a y;
      taken = λ x. within_self (unended_kinds ks x);
      over = λ x y. ends_alike m (ks ++ m) (within_right ks m) y.1;
      greedy = kinds_within;
    }

    pub turns_good : apart ks m ≡ true → (x : Spanned Form)
        → IsGood (formula_kind ws) n (many (formula_kind ws) (unended_kinds ks) (unended_only step) x) (many (formula_kind ws) (unended_kinds ks) (unended_only step') x) true (unended_kinds ks x) (edge (ks ++ m))
    turns_good a x = again_and_again_to (unended_kinds ks) (edge (ks ++ m)) turn_good (fits a) x

    -- where no turn is taken
    pub no_turn : apart ks m ≡ true → (x y : Spanned Form) → (many (formula_kind ws) (unended_kinds ks) (unended_only step) x).reads [] y → x ≡ y
    no_turn a x y r = (turns_good a x).here.single [] x y (0, inr (refl, refl)) r

    pub no_turn' : apart ks m ≡ true → (x y : Spanned Form) → (many (formula_kind ws) (unended_kinds ks) (unended_only step') x).reads [] y → x ≡ y
    no_turn' a x y r = (turns_good a x).there.single [] x y (0, inr (refl, refl)) r

    pub repeated_good : {R R' : Syntax PlainToken (Spanned Form)} {first : List ℕ} → apart ks m ≡ true → AreSpans ws n R R' false first m
        → AreSpans ws n (R then λ x. many (formula_kind ws) (unended_kinds ks) (unended_only step) x) (R' then λ x. many (formula_kind ws) (unended_kinds ks) (unended_only step') x) false first (ks ++ m)
    repeated_good a r = tail_to (λ x. x) r (turns_good a) (no_turn a) (no_turn' a) (kinds_apart ks m a) (λ x. ends_alike m (ks ++ m) (within_right ks m) x.1)

  more_good : {n : ℕ} (table : List (ℕ × FormulaOperator)) (m : List ℕ) {R R' : Syntax PlainToken (Spanned Form)} → apart (kinds_of table) m ≡ true → AreSpans ws n R R' false first_form m → (x : Spanned Form)
      → IsGood (formula_kind ws) n (joined_more ws table R x) (joined_more ws table R' x) true (unended_kinds (kinds_of table) x) (edge (kinds_of table ++ m))
  unfolding joined_more
  more_good table m a r x = turns_good (kinds_of table) m (once_good table m r) a x

  joined_good : {n : ℕ} (table : List (ℕ × FormulaOperator)) (m : List ℕ) {R R' : Syntax PlainToken (Spanned Form)} → apart (kinds_of table) m ≡ true → AreSpans ws n R R' false first_form m
      → AreSpans ws n (joined ws table R) (joined ws table R') false first_form (kinds_of table ++ m)
  unfolding joined joined_more
  joined_good table m a r = repeated_good (kinds_of table) m (once_good table m r) a r

  -- what may stand behind a form that nothing ends
  unended_good : {A B : Type 0} {n : ℕ} (ks m : List ℕ) {G G' : A → Syntax PlainToken (Spanned B)} → ((x : A) → AreSpans ws n (G x) (G' x) true ks m) → (f : A → B) (x : Spanned A)
      → IsGood (formula_kind ws) n (unended G f x) (unended G' f x) true (unended_kinds ks x) (edge m)
  unended_good ks m g f (x, None) = g x
  unended_good ks m g f (x, Some e) = enlarged_to [] (edge m) (given (f x, Some e)) refl (λ y. refl)

  -- where it is empty
  unended_empty : {A B : Type 0} (m m' : List ℕ) → within m m' ≡ true → within m more_form ≡ true → (G : A → Syntax PlainToken (Spanned B)) (f : A → B) (x : Spanned A) (y : Spanned B) → (unended G f x).reads [] y
      → within (edge m x) (edge m' y) ≡ true
  unended_empty m m' w v G f (x, None) y r = ends_below m m' w v y.1
  unended_empty m m' w v G f (x, Some e) y r = rw (← r.1) refl

  tail_good : {A B : Type 0} {n : ℕ} (ks m m' : List ℕ) {R R' : Syntax PlainToken (Spanned A)} {G G' : A → Syntax PlainToken (Spanned B)} {first : List ℕ} → AreSpans ws n R R' false first m → ((x : A) → AreSpans ws n (G x) (G' x) true ks m')
      → (f : A → B)
      → apart ks m ≡ true → within m m' ≡ true → within m more_form ≡ true → AreSpans ws n (R then λ x. unended G f x) (R' then λ x. unended G' f x) false first m'
  tail_good ks m m' {R} {R'} {G} {G'} r g f a w v = tail_so r (unended_good ks m' g f) (unended_empty m m' w v G f) (unended_empty m m' w v G' f) (kinds_apart ks m a)

  -- ---- chains, where their operands are read exactly

  abbrev links_after : (ChainDirection → Syntax PlainToken (Spanned FormLinks)) → ChainDirection → (FormLinks → FormLinks) → Spanned Form → Syntax PlainToken (Spanned FormLinks)
  links_after L d f x = unended (λ _. L d) (λ _. NoLink) x then λ ls. gives (f ls.0, ls.1)

  -- the links after an operand that is the last one
  no_links : (L : ChainDirection → Syntax PlainToken (Spanned FormLinks)) (d : ChainDirection) (f : FormLinks → FormLinks) (x : Spanned Form) (y : Spanned FormLinks)
      → (links_after L d f x).reads [] y → within (edge more_shift x) (edge more_chain y) ≡ true
  no_links L d f (x, None) y r = ends_below more_shift more_chain refl refl y.1
  no_links L d f (x, Some e) y (b, c, ls, parts, first, last) = rw (← last.1, ← first.1) refl

  module _ {n : ℕ} {R R' : Syntax PlainToken (Spanned Form)} (r : AreSpans ws n R R' false first_form more_shift) {L L' : ChainDirection → Syntax PlainToken (Spanned FormLinks)} (l : (d : ChainDirection)
      → AreSpans ws n (L d) (L' d) true relation_kinds more_chain) where
    linked_good : (d : ChainDirection) → AreSpans ws (suc n) (linked ws R L d) (linked ws R' L' d) false (kinds_of (relations_behind d)) more_chain
    unfolding linked
    linked_good d =
        after_to (marks_form ws (relations_behind d)) (λ o. tail_so r (λ x. made (λ ls. (Linked o.1 o.0 x.0 ls.0, ls.1)) (unended_good relation_kinds more_chain (λ _. l (direction_behind d o.0)) (λ _. NoLink) x)
        (λ ls. ends_alike more_chain more_chain refl ls.1))
        (λ x. no_links L (direction_behind d o.0) (Linked o.1 o.0 x.0) x) (λ x. no_links L' (direction_behind d o.0) (Linked o.1 o.0 x.0) x) (kinds_apart relation_kinds more_shift refl)) refl

    links_of_good : (d : ChainDirection) → AreSpans ws (suc n) (links_of ws R L d) (links_of ws R' L' d) true relation_kinds more_chain
    unfolding links_of
    links_of_good Start = enlarged_to relation_kinds (edge more_chain) (maybe_to (kinds_of (relations_behind Start)) {more = edge more_chain} (NoLink, None) (linked_good Start) refl (λ y. ends_alike more_chain more_chain refl y.1) refl) refl
        (λ y. ends_alike more_chain more_chain refl y.1)
    links_of_good Equal = enlarged_to relation_kinds (edge more_chain) (maybe_to (kinds_of (relations_behind Equal)) {more = edge more_chain} (NoLink, None) (linked_good Equal) refl (λ y. ends_alike more_chain more_chain refl y.1) refl) refl
        (λ y. ends_alike more_chain more_chain refl y.1)
    links_of_good Up = enlarged_to relation_kinds (edge more_chain) (maybe_to (kinds_of (relations_behind Up)) {more = edge more_chain} (NoLink, None) (linked_good Up) refl (λ y. ends_alike more_chain more_chain refl y.1) refl) refl
        (λ y. ends_alike more_chain more_chain refl y.1)
    links_of_good Down = enlarged_to relation_kinds (edge more_chain) (maybe_to (kinds_of (relations_behind Down)) {more = edge more_chain} (NoLink, None) (linked_good Down) refl (λ y. ends_alike more_chain more_chain refl y.1) refl) refl
        (λ y. ends_alike more_chain more_chain refl y.1)
    links_of_good Ended = enlarged_to relation_kinds (edge more_chain) (maybe_to (kinds_of (relations_behind Ended)) {more = edge more_chain} (NoLink, None) (linked_good Ended) refl (λ y. ends_alike more_chain more_chain refl y.1) refl) refl
        (λ y. ends_alike more_chain more_chain refl y.1)

  links_step : {R : Syntax PlainToken (Spanned Form)} → IsExact (formula_kind ws) R false first_form (edge more_shift) → (k : ℕ) (U U' : ChainDirection → Syntax PlainToken (Spanned FormLinks))
      → ((d : ChainDirection) → AreSpans ws k (U d) (U' d) true relation_kinds more_chain) → (d : ChainDirection) → AreSpans ws (suc k) (links_of ws R U d) (links_of ws R U' d) true relation_kinds more_chain
  links_step r k U U' u d = links_of_good (same r) u d

  links_good : {n : ℕ} {R R' : Syntax PlainToken (Spanned Form)} → AreSpans ws n R R' false first_form more_shift → (d : ChainDirection) → AreSpans ws n (links ws R d) (links ws R' d) true relation_kinds more_chain
  unfolding links
  links_good {n} {R} {R'} r d =
      knot_both n true relation_kinds (edge more_chain) (links_of ws R) (links_of ws R') (links_step r.here) (links_step r.there) (λ U U' u s. one_lower (links_of_good r u s)) d

  chain_behind_good : {n : ℕ} {R R' : Syntax PlainToken (Spanned Form)} → AreSpans ws n R R' false first_form more_shift → (x : Form) → AreSpans ws n (chain_behind ws R x) (chain_behind ws R' x) true relation_kinds more_chain
  unfolding chain_behind
  chain_behind_good r x = made (λ ls. (chained x ls.0, ls.1)) (links_good r Start) (λ ls. ends_alike more_chain more_chain refl ls.1)

  chain_of_good : {n : ℕ} {R R' : Syntax PlainToken (Spanned Form)} → AreSpans ws n R R' false first_form more_shift → AreSpans ws n (chain_of ws R) (chain_of ws R') false first_form more_chain
  unfolding chain_of
  chain_of_good r = tail_good relation_kinds more_shift more_chain r (chain_behind_good r) as_it_is refl refl refl

  -- ---- implications, where their operands are read exactly

  implied_good : {n : ℕ} {I I' : Syntax PlainToken (Spanned Form)} → AreSpans ws n I I' false first_form more_implication → (x : Form) → AreSpans ws (suc n) (implied ws I x) (implied ws I' x) false (mark_kind implies ∷ []) more_implication
  unfolding implied
  implied_good i x = after_to (mark_form ws implies) (λ at. made (λ y. (Connected at connective.Implies x y.0, y.1)) i (λ y. ends_alike more_implication more_implication refl y.1)) refl

  implication_behind_good : {n : ℕ} {I I' : Syntax PlainToken (Spanned Form)} → AreSpans ws n I I' false first_form more_implication → (x : Form)
      → AreSpans ws (suc n) (implication_behind ws I x) (implication_behind ws I' x) true (mark_kind implies ∷ []) more_implication
  unfolding implication_behind
  implication_behind_good i x = maybe_to (mark_kind implies ∷ []) {more = edge more_implication} (x, None) (implied_good i x) refl (λ y. ends_alike more_implication more_implication refl y.1) refl

  implication_of_good : {n : ℕ} {D D' I I' : Syntax PlainToken (Spanned Form)} → AreSpans ws (suc n) D D' false first_form more_disjunction → AreSpans ws n I I' false first_form more_implication
      → AreSpans ws (suc n) (implication_of ws D I) (implication_of ws D' I') false first_form more_implication
  unfolding implication_of
  implication_of_good d i = tail_good (mark_kind implies ∷ []) more_disjunction more_implication d (implication_behind_good i) as_it_is refl refl refl

  implication_step : {D : Syntax PlainToken (Spanned Form)} → IsExact (formula_kind ws) D false first_form (edge more_disjunction) → (k : ℕ) (U U' : Unit {0} → Syntax PlainToken (Spanned Form))
      → ((s : Unit {0}) → AreSpans ws k (U s) (U' s) false first_form more_implication) → (s : Unit {0}) → AreSpans ws (suc k) (implication_of ws D (U s)) (implication_of ws D (U' s)) false first_form more_implication
  implication_step d k U U' u s = implication_of_good (same d) (u s)

  -- ---- forms, level by level, where forms and zones inside them are read exactly

  module _ {n : ℕ} {E E' : Syntax PlainToken Form} {Z Z' : Syntax PlainToken FormZone} {L L' : Syntax PlainToken (Spanned Form)} (e : AreForms ws n E E' false first_form more_form) (z : AreForms ws n Z Z' false first_form more_form)
      (l : AreSpans ws n L L' false first_form more_form) where
    pub prefix_good : AreSpans ws (suc n) (prefix ws E Z L) (prefix ws E' Z' L') false first_form first_behind
    unfolding prefix
    prefix_good =
        knot_both (suc n) false first_form (edge first_behind) (λ P u. prefix_of ws E Z L (P u)) (λ P u. prefix_of ws E' Z' L' (P u)) (prefix_step e.here z.here l.here) (prefix_step e.there z.there l.there)
        (λ U U' u s. prefix_of_good e (one_lower (u s)) z l) tt

    pub product_good : AreSpans ws (suc n) (product ws E Z L) (product ws E' Z' L') false first_form more_product
    product_good = joined_good product_operators first_behind refl prefix_good

    -- ---- sums in the mode of a zone

    rest_good : (left : Form) (at : Place) (x : Spanned Form)
        → IsGood (formula_kind ws) (suc n) (added_rest ws E Z L left at x) (added_rest ws E' Z' L' left at x) true (unended_kinds (kinds_of product_operators) x) (edge more_product)
    unfolding added_rest
    rest_good left at x = made (λ y. (Binary at Add left y.0, y.1)) (more_good product_operators first_behind refl prefix_good x) (λ y. ends_alike more_product more_product refl y.1)

    -- the operand alone
    no_rest : (left : Form) (at : Place) (x y : Spanned Form) → (added_rest ws E Z L left at x).reads [] y → (Binary at Add left x.0, x.1) ≡ y
    unfolding added_rest joined_more
    no_rest left at x y r = (rest_good left at x).here.single [] (Binary at Add left x.0, x.1) y ([], [], x, refl, (0, inr (refl, refl)), (refl, refl)) r

    no_rest' : (left : Form) (at : Place) (x y : Spanned Form) → (added_rest ws E' Z' L' left at x).reads [] y → (Binary at Add left x.0, x.1) ≡ y
    unfolding added_rest joined_more
    no_rest' left at x y r = (rest_good left at x).there.single [] (Binary at Add left x.0, x.1) y ([], [], x, refl, (0, inr (refl, refl)), (refl, refl)) r

    rest_behind : {P P' : Syntax PlainToken (Spanned Form)} {first : List ℕ} (left : Form) (at : Place) → AreSpans ws n P P' false first first_behind
        → AreSpans ws n (P then λ x. added_rest ws E Z L left at x) (P' then λ x. added_rest ws E' Z' L' left at x) false first more_product
    rest_behind left at p =
        tail_to (λ x. (Binary at Add left x.0, x.1)) p (λ x. one_lower (rest_good left at x)) (no_rest left at) (no_rest' left at) (kinds_apart (kinds_of product_operators) first_behind refl)
        (λ x. ends_alike first_behind more_product refl x.1)

    rest_below : {P P' : Syntax PlainToken (Spanned Form)} {first : List ℕ} (left : Form) (at : Place) → AreSpans ws (suc n) P P' false first first_behind
        → AreSpans ws (suc n) (P then λ x. added_rest ws E Z L left at x) (P' then λ x. added_rest ws E' Z' L' left at x) false first more_product
    rest_below left at p =
        tail_to (λ x. (Binary at Add left x.0, x.1)) p (rest_good left at) (no_rest left at) (no_rest' left at) (kinds_apart (kinds_of product_operators) first_behind refl) (λ x. ends_alike first_behind more_product refl x.1)

    ranged_good : (left : Form) (at : Place) (lo : Form) → AreForms ws n (ranged ws E left at lo) (ranged ws E' left at lo) false (mark_kind dots ∷ []) []
    unfolding ranged
    ranged_good left at lo = declared (seq (mark_form ws dots) (λ _. seq e (λ hi. closed_form _) refl) refl) refl

    closed_rest_good : (left : Form) (at : Place) (x : Form)
        → AreSpans ws n (closed_postfix ws E x then λ y. added_rest ws E Z L left at (y, None)) (closed_postfix ws E' x then λ y. added_rest ws E' Z' L' left at (y, None)) false (mark_kind right_paren ∷ []) more_product
    closed_rest_good left at x =
        tail_so (closed_postfix_good e (one_lower prefix_good) x) (λ y. one_lower (rest_good left at (y, None))) (λ y w r. ends_below first_behind more_product refl refl w.1) (λ y w r. ends_below first_behind more_product refl refl w.1) (λ y. refl)

    behind_first_good : (left : Form) (at : Place) (x : Form)
        → AreSpans ws n (behind_first ws E Z L left at x) (behind_first ws E' Z' L' left at x) false (mark_kind dots ∷ mark_kind right_paren ∷ []) more_product
    unfolding behind_first
    behind_first_good left at x =
        either_to (mark_kind dots ∷ []) (ranged_good left at x) (closed_rest_good left at x) refl (λ y. refl) (λ y. ends_alike more_product more_product refl y.1)

    added_parenthesis_good : (left : Form) (at paren : Place)
        → AreSpans ws n (added_parenthesis ws E Z L left at paren) (added_parenthesis ws E' Z' L' left at paren) false (first_type ++ integer_kind ∷ first_form) more_product
    unfolding added_parenthesis
    added_parenthesis_good left at paren =
        let p = one_lower prefix_good in
        either_to first_type (rest_behind left at (cast_to_type_good e p paren))
        (either_to (integer_kind ∷ []) {first = integer_kind ∷ first_form} {more = edge more_product} (rest_behind left at (cast_to_integer_good e p paren)) (seq_to e (λ x. behind_first_good left at x) refl)
        refl (λ x. ends_alike more_product more_product refl x.1) (λ x. ends_alike more_product more_product refl x.1))
        refl (λ x. ends_alike more_product more_product refl x.1) (λ x. ends_alike more_product more_product refl x.1)

    pub added_good : (left : Form) (at : Place) → AreSpans ws (suc n) (added ws E Z L left at) (added ws E' Z' L' left at) false first_form more_product
    unfolding added
    added_good left at =
        either_to (mark_kind left_paren ∷ []) (after_to (mark_form ws left_paren) (λ paren. added_parenthesis_good left at paren) refl) (rest_below left at (bare_good e (one_lower prefix_good) z l))
        refl (λ x. ends_alike more_product more_product refl x.1) (λ x. ends_alike more_product more_product refl x.1)

    pub sum_once_good : (left : Form) → AreSpans ws (suc n) (sum_once ws E Z L left) (sum_once ws E' Z' L' left) false (kinds_of sum_operators) more_product
    unfolding sum_once
    sum_once_good left =
        either_to (mark_kind plus ∷ []) (seq_to (mark_form ws plus) (λ at. added_good left at) refl) (once_good difference_operators more_product product_good left)
        refl (λ x. ends_alike more_product more_product refl x.1) (λ x. ends_alike more_product more_product refl x.1)

    zone_sum_good : AreSpans ws (suc n) (zone_sum ws E Z L) (zone_sum ws E' Z' L') false first_form more_sum
    unfolding zone_sum sum_more
    zone_sum_good = repeated_good (kinds_of sum_operators) more_product sum_once_good refl product_good

    -- ---- in each mode

    pub sum_good : (m : FormulaMode) → AreSpans ws (suc n) (sum ws E Z L m) (sum ws E' Z' L' m) false first_form more_sum
    sum_good Alone = joined_good sum_operators more_product refl product_good
    sum_good Zone = zone_sum_good

    pub shift_good : (m : FormulaMode) → AreSpans ws (suc n) (shift ws E Z L m) (shift ws E' Z' L' m) false first_form more_shift
    shift_good m = joined_good shift_operators more_sum refl (sum_good m)

    pub chain_good : (m : FormulaMode) → AreSpans ws (suc n) (chain ws E Z L m) (chain ws E' Z' L' m) false first_form more_chain
    chain_good m = chain_of_good (shift_good m)

    pub bit_and_good : (m : FormulaMode) → AreSpans ws (suc n) (bit_and ws E Z L m) (bit_and ws E' Z' L' m) false first_form more_bit_and
    bit_and_good m = joined_good bit_and_operators more_chain refl (chain_good m)

    pub bit_xor_good : (m : FormulaMode) → AreSpans ws (suc n) (bit_xor ws E Z L m) (bit_xor ws E' Z' L' m) false first_form more_bit_xor
    bit_xor_good m = joined_good bit_xor_operators more_bit_and refl (bit_and_good m)

    pub bit_or_good : (m : FormulaMode) → AreSpans ws (suc n) (bit_or ws E Z L m) (bit_or ws E' Z' L' m) false first_form more_bit_or
    bit_or_good m = joined_good bit_or_operators more_bit_xor refl (bit_xor_good m)

    pub conjunction_good : (m : FormulaMode) → AreSpans ws (suc n) (conjunction ws E Z L m) (conjunction ws E' Z' L' m) false first_form more_conjunction
    conjunction_good m = joined_good conjunction_operators more_bit_or refl (bit_or_good m)

    pub exclusion_good : (m : FormulaMode) → AreSpans ws (suc n) (exclusion ws E Z L m) (exclusion ws E' Z' L' m) false first_form more_exclusion
    exclusion_good m = joined_good exclusion_operators more_conjunction refl (conjunction_good m)

    pub disjunction_good : (m : FormulaMode) → AreSpans ws (suc n) (disjunction ws E Z L m) (disjunction ws E' Z' L' m) false first_form more_disjunction
    disjunction_good m = joined_good disjunction_operators more_exclusion refl (exclusion_good m)

    pub implication_good : (m : FormulaMode) → AreSpans ws (suc n) (implication ws E Z L m) (implication ws E' Z' L' m) false first_form more_implication
    unfolding implication
    implication_good m =
        let d = disjunction_good m in
        knot_both (suc n) false first_form (edge more_implication) (λ I u. implication_of ws (disjunction ws E Z L m) (I u)) (λ I u. implication_of ws (disjunction ws E' Z' L' m) (I u)) (implication_step d.here) (implication_step d.there)
        (λ U U' u s. implication_of_good d (one_lower (u s))) tt

    pub equivalence_good : (m : FormulaMode) → AreSpans ws (suc n) (equivalence ws E Z L m) (equivalence ws E' Z' L' m) false first_form more_equivalence
    equivalence_good m = joined_good equivalence_operators more_implication refl (implication_good m)

  -- ---- whole forms and zones, where forms inside them are read exactly in each mode

  module _ {n : ℕ} {F F' : FormulaMode → Syntax PlainToken (Spanned Form)} (f : (m : FormulaMode) → AreSpans ws n (F m) (F' m) false first_form more_form) where
    pub whole_good : AreForms ws n (whole ws F) (whole ws F') false first_form more_form
    unfolding whole
    whole_good = made {more = λ _. more_form} (λ x. x.0) (f Alone) (λ x. ends_within more_form refl x.1)

    pub zone_good : AreForms ws n (zone ws F) (zone ws F') false first_form more_form
    unfolding zone
    zone_good = made {more = λ _. more_form} zone_of (f Zone) (λ x. ends_within more_form refl x.1)

    chosen_good : (m : FormulaMode) (c : Form) → AreSpans ws (suc n) (chosen_behind ws (whole ws F) (F m) c) (chosen_behind ws (whole ws F') (F' m) c) false (mark_kind question ∷ []) more_form
    unfolding chosen_behind
    chosen_good m c =
        after_to (mark_form ws question) (λ at. seq_to whole_good (λ x. seq_to (mark_form ws colon) (λ _. made (λ y. (Choice at c x y.0, y.1)) (f m) (λ y. ends_alike more_form more_form refl y.1)) refl) refl) refl

    choice_good : (m : FormulaMode) (c : Form) → AreSpans ws (suc n) (choice_behind ws (whole ws F) (F m) c) (choice_behind ws (whole ws F') (F' m) c) true (mark_kind question ∷ []) more_form
    unfolding choice_behind
    choice_good m c = maybe_to (mark_kind question ∷ []) {more = edge more_form} (c, None) (chosen_good m c) refl (λ y. ends_alike more_form more_form refl y.1) refl

    pub form_of_good : (m : FormulaMode) → AreSpans ws (suc n) (form_of ws F m) (form_of ws F' m) false first_form more_form
    unfolding form_of
    form_of_good m = tail_good (mark_kind question ∷ []) more_equivalence more_form (equivalence_good whole_good zone_good (f m) m) (choice_good m) as_it_is refl refl refl

  form_step : (k : ℕ) (U U' : FormulaMode → Syntax PlainToken (Spanned Form)) → ((m : FormulaMode) → AreSpans ws k (U m) (U' m) false first_form more_form) → (m : FormulaMode)
      → AreSpans ws (suc k) (form_of ws U m) (form_of ws U' m) false first_form more_form
  form_step k U U' f m = form_of_good f m

  pub forms_exact : (m : FormulaMode) → IsExact (formula_kind ws) (forms ws m) false first_form (edge more_form)
  unfolding forms
  forms_exact m = knot_exact false first_form (edge more_form) (form_of ws) form_step m

  pub forms_good : {n : ℕ} (m : FormulaMode) → AreSpans ws n (forms ws m) (forms ws m) false first_form more_form
  forms_good m = same (forms_exact m)

  pub form_good : {n : ℕ} → AreForms ws n (form ws) (form ws) false first_form more_form
  form_good = whole_good forms_good

  pub zones_good : {n : ℕ} → AreForms ws n (zone ws (forms ws)) (zone ws (forms ws)) false first_form more_form
  zones_good = zone_good forms_good

  -- ---- what stands for itself is read as its production says

  pub forms_is : (m : FormulaMode) (ts : List PlainToken) → (forms ws m).parse ts ≡ (form_of ws (forms ws) m).parse ts
  unfolding forms
  forms_is m ts = knot_is false first_form (edge more_form) (form_of ws) form_step m ts

  abbrev Prefix : FormulaMode → Syntax PlainToken (Spanned Form)
  Prefix m = prefix ws (form ws) (zone ws (forms ws)) (forms ws m)

  pub prefix_is : (m : FormulaMode) (ts : List PlainToken) → (Prefix m).parse ts ≡ (prefix_of ws (form ws) (zone ws (forms ws)) (forms ws m) (Prefix m)).parse ts
  unfolding prefix
  prefix_is m ts =
      knot_is false first_form (edge first_behind) (λ P u. prefix_of ws (form ws) (zone ws (forms ws)) (forms ws m) (P u)) (prefix_step (form_good {n = 0}).here (zones_good {n = 0}).here (forms_good {n = 0} m).here) tt ts

  abbrev Shift : FormulaMode → Syntax PlainToken (Spanned Form)
  Shift m = shift ws (form ws) (zone ws (forms ws)) (forms ws m) m

  pub links_is : (m : FormulaMode) (d : ChainDirection) (ts : List PlainToken) → (links ws (Shift m) d).parse ts ≡ (links_of ws (Shift m) (links ws (Shift m)) d).parse ts
  unfolding links
  links_is m d ts = knot_is true relation_kinds (edge more_chain) (links_of ws (Shift m)) (links_step (shift_good {n = 0} form_good zones_good (forms_good m) m).here) d ts

  abbrev Disjunction : FormulaMode → Syntax PlainToken (Spanned Form)
  Disjunction m = disjunction ws (form ws) (zone ws (forms ws)) (forms ws m) m

  abbrev Implication : FormulaMode → Syntax PlainToken (Spanned Form)
  Implication m = implication ws (form ws) (zone ws (forms ws)) (forms ws m) m

  pub implication_is : (m : FormulaMode) (ts : List PlainToken) → (Implication m).parse ts ≡ (implication_of ws (Disjunction m) (Implication m)).parse ts
  unfolding implication
  implication_is m ts =
      knot_is false first_form (edge more_implication) (λ I u. implication_of ws (Disjunction m) (I u)) (implication_step (disjunction_good {n = 0} form_good zones_good (forms_good m) m).here) tt ts
