-- Expressions are read exactly.
use Rattle.std.proofs.Common.{◌≡◌, ℕ, zero, suc, ◌-◌, Bool, true, false, List, [], ◌∷◌, ◌++◌, refl}
use Rattle.grammar.specs.Syntax.{Syntax, ◌then◌}
use Rattle.grammar.specs.Exact.{IsExact, Same}
use Rattle.grammar.proofs.Forms.{knot_form}
use Rattle.grammar.proofs.Sets.{within, apart, within_self, within_left, within_right, within_joined_right, within_both, apart_joined, apart_front}
use Rattle.grammar.proofs.Productions.{and, empties, seq, after, either, again_and_again, declared, given, same, one_lower, counted, knot_exact, knot_is, knot_both}
use Rattle.c_syntax.specs.declared.place.Place.{Place}
use Rattle.c_syntax.specs.Ctypes.{PlainLength}
use Rattle.c_syntax.specs.Expressions.{Expression}
use Rattle.c_syntax.specs.Tokens.{PlainToken}
use Rattle.c_model.specs.declared.vocabulary.Keyword.TheVariants as keyword
use Rattle.c_model.specs.declared.operands.Form.{Form}
use Rattle.c_model.specs.declared.operands.Level.{Level}
use Rattle.c_model.specs.declared.operands.Level.TheVariants.{Assignment, Conditional}
use Rattle.c_model.specs.declared.operands.Form.TheVariants as form
use Rattle.c_model.specs.declared.operands.TypeUse.{TypeUse}
use Rattle.c_model.specs.declared.operands.TypeUse.TheVariants.{Casts, Sizes, Nothing}
use Rattle.c_model.specs.Vocabulary.{Vocabulary}
use Rattle.c_model.specs.Punctuators.{question, colon, comma, left_paren, right_paren, left_bracket, right_bracket, dot, arrow, times}
use Rattle.c_model.specs.ExpressionGrammar.{name_kind, number_kind, letter_kind, text_kind, keyword_kind, mark_kind, kind, kinds_of, unary_operators, operators_at, levels, assignment_operators, prefix_bumps, postfix_bumps}
use Rattle.c_model.specs.ExpressionGrammar.{first_type, first_expression, first_postfix, written_length, length_or_none, bracket, next_bracket, brackets, type_name, indexed, dotted, arrowed, bumped, postfix_once, postfixes, postfix_rest}
use Rattle.c_model.specs.ExpressionGrammar.{literal_first}
use Rattle.c_model.specs.ExpressionGrammar.{behind_variable, Operand, closed, literal, cast_rest, sized_type, paren_rest, behind_paren, prefixed, sized, bump_first, operand_but_name, operand_of, operand}
use Rattle.c_model.specs.Terminals.{expression_limit}
use Rattle.c_model.specs.ExpressionGrammar.{most_in_expression, full_expression, full_placed_expression, full_nameless_expression, full_expression_behind, full_expression_at}
use Rattle.c_model.specs.ExpressionGrammar.{next_argument, arguments, call_rest, joined_once, behind_operand, choice_rest, conditional_rest, assigned, behind_unary, behind_form, at_level, next_part, with_commas, expression_of, expression_at}
use Rattle.c_model.specs.ExpressionGrammar.{expression, ReadOperand, placed_rest, placed_expression, nameless_expression, expression_behind}
use Rattle.c_expr_parser.proofs.Unlimited.{level_free, expression_free, placed_free, nameless_free, behind_name_free}
use Rattle.c_expr_parser.proofs.ExactTokens.{IsRead, AreRead, fixed_good, name_good, any_name_good, number_good, letter_good, marks_good}
use Rattle.c_expr_parser.proofs.ExactTypes.{apart_none, enlarged, more_type, type_good, stars_good}

-- ---- the operators of the levels below a level

abbrev pub kinds_below : ℕ → List ℕ
kinds_below zero = []
kinds_below (suc l) = kinds_below l ++ kinds_of (operators_at l)

-- what an operand can go on with: a name with arguments
abbrev pub more_operand : List ℕ
more_operand = mark_kind left_paren ∷ first_postfix

-- what an operand with the operators of these levels can go on with
abbrev pub more_below : ℕ → List ℕ
more_below l = more_operand ++ kinds_below l

-- an operator stands in one level alone, and is no postfix operator
abbrev pub AreApart : ℕ → Type 0
AreApart zero = Unit {0}
AreApart (suc l) = AreApart l × (apart (kinds_of (operators_at l)) (more_below l) ≡ true)

pub levels_apart : AreApart levels
levels_apart = ((((((((((tt, refl), refl), refl), refl), refl), refl), refl), refl), refl), refl)

-- what can stand after the first operand of an expression
abbrev pub behind_kinds : List ℕ
behind_kinds = kinds_below levels ++ mark_kind question ∷ []

-- what can stand after an operand that an assignment may change
abbrev pub behind_unary_kinds : List ℕ
behind_unary_kinds = kinds_of assignment_operators ++ behind_kinds

-- what an expression without commas can go on with, and one with them
abbrev pub more_expression : List ℕ
more_expression = more_operand ++ behind_unary_kinds

abbrev pub more_commas : List ℕ
more_commas = mark_kind comma ∷ more_expression

-- what a type can go on with that has stars and brackets
abbrev pub more_type_name : List ℕ
more_type_name = mark_kind times ∷ mark_kind left_bracket ∷ more_type

-- what stands behind the first operand of an expression with commas
abbrev pub placed_rest_kinds : List ℕ
placed_rest_kinds = behind_unary_kinds ++ mark_kind comma ∷ []

-- an operand that begins with no name
abbrev pub first_but_name : List ℕ
first_but_name = mark_kind left_paren ∷ kinds_of unary_operators ++ kinds_of prefix_bumps ++ keyword_kind keyword.Sizeof ∷ number_kind ∷ letter_kind ∷ text_kind ∷ []

-- a level's operators, and those of the levels below, can follow what is read up to that level
pub level_within : (l : ℕ) → within (kinds_of (operators_at l)) (more_below (suc l)) ≡ true
level_within l = within_joined_right (kinds_of (operators_at l)) more_operand (kinds_below l ++ kinds_of (operators_at l)) (within_right (kinds_below l) (kinds_of (operators_at l)))

pub below_within : (l : ℕ) → within (more_below l) (more_below (suc l)) ≡ true
below_within l =
    within_both more_operand (kinds_below l) (more_below (suc l)) (within_left more_operand (kinds_below (suc l)))
    (within_joined_right (kinds_below l) more_operand (kinds_below l ++ kinds_of (operators_at l)) (within_left (kinds_below l) (kinds_of (operators_at l))))

-- no operator of these levels is a postfix operator
pub postfix_apart : (l : ℕ) → AreApart l → apart (kinds_below l) more_operand ≡ true
postfix_apart zero a = refl
postfix_apart (suc l) a = apart_joined (kinds_below l) (kinds_of (operators_at l)) more_operand (postfix_apart l a.0) (apart_front (kinds_of (operators_at l)) more_operand (kinds_below l) a.1)

pub both_true : (b c : Bool) → b ≡ true → c ≡ true → and b c ≡ true
both_true true c e f = f
both_true false c e f = absurd cc

module _ (ws : Vocabulary) where
  pub closed_good : {A : Type 0} {n : ℕ} (x : A) → AreRead ws n (closed ws x) (closed ws x) false (mark_kind right_paren ∷ []) []
  unfolding closed
  closed_good x = seq (fixed_good ws (mark_kind right_paren)) (λ _. given x) refl

  literal_good : {n : ℕ} → AreRead ws n (literal ws) (literal ws) false (number_kind ∷ letter_kind ∷ text_kind ∷ []) []
  unfolding literal
  literal_good =
      declared (either (number_kind ∷ []) (seq (number_good ws) (λ x. given _) refl)
      (either (letter_kind ∷ []) (seq (letter_good ws) (λ z. given _) refl) (seq (fixed_good ws text_kind) (λ at. given _) refl) refl) refl) refl

  dotted_good : {n : ℕ} (x : Expression) → AreRead ws n (dotted ws x) (dotted ws x) false (mark_kind dot ∷ []) []
  unfolding dotted
  dotted_good x = declared (seq (fixed_good ws (mark_kind dot)) (λ at. seq (any_name_good ws) (λ m. given _) refl) refl) refl

  arrowed_good : {n : ℕ} (x : Expression) → AreRead ws n (arrowed ws x) (arrowed ws x) false (mark_kind arrow ∷ []) []
  unfolding arrowed
  arrowed_good x = declared (seq (fixed_good ws (mark_kind arrow)) (λ at. seq (any_name_good ws) (λ m. given _) refl) refl) refl

  -- ---- brackets, where the lengths in them are read exactly

  pub bracket_good : {n : ℕ} {L L' : Syntax PlainToken PlainLength} (null : Bool) {first : List ℕ} → AreRead ws n L L' null first (first_expression ++ more_commas)
      → AreRead ws n (bracket ws L) (bracket ws L') false (mark_kind left_bracket ∷ []) []
  unfolding bracket
  bracket_good {n} {L} {L'} true {first} l =
      declared (seq (fixed_good ws (mark_kind left_bracket)) (λ _. seq l (λ n. seq (fixed_good ws (mark_kind right_bracket)) (λ _. given _) refl) refl) (apart_none (first ++ empties true (mark_kind right_bracket ∷ [])))) refl
  bracket_good {n} {L} {L'} false {first} l =
      declared (seq (fixed_good ws (mark_kind left_bracket)) (λ _. seq l (λ n. seq (fixed_good ws (mark_kind right_bracket)) (λ _. given _) refl) refl) (apart_none (first ++ empties false (mark_kind right_bracket ∷ [])))) refl

  pub next_bracket_good : {n : ℕ} {L L' : Syntax PlainToken PlainLength} (null : Bool) {first : List ℕ} → AreRead ws n L L' null first (first_expression ++ more_commas) → (ns : List PlainLength)
      → AreRead ws n (next_bracket ws L ns) (next_bracket ws L' ns) false (mark_kind left_bracket ∷ []) []
  unfolding next_bracket
  next_bracket_good null l ns = declared (seq (bracket_good null l) (λ n. given _) refl) refl

  pub brackets_good : {n : ℕ} {L L' : Syntax PlainToken PlainLength} (null : Bool) {first : List ℕ} → AreRead ws n L L' null first (first_expression ++ more_commas)
      → AreRead ws n (brackets ws L) (brackets ws L') true (mark_kind left_bracket ∷ []) (mark_kind left_bracket ∷ [])
  unfolding brackets
  brackets_good null l = declared (again_and_again (mark_kind left_bracket ∷ []) (next_bracket_good null l) refl []) refl

  bumped_good : {n : ℕ} (x : Expression) → AreRead ws n (bumped ws x) (bumped ws x) false (kinds_of postfix_bumps) []
  unfolding bumped
  bumped_good x = declared (seq (marks_good ws postfix_bumps) (λ o. given _) refl) refl

  -- ---- types, postfix expressions and operands, where expressions and operands inside them are read exactly

  module _ {n : ℕ} {E E' : Syntax PlainToken Expression} (e : AreRead ws n E E' false first_expression more_commas) where
    pub written_good : AreRead ws n (written_length ws E) (written_length ws E') false first_expression (first_expression ++ more_commas)
    unfolding written_length
    written_good = declared (seq e (λ x. given _) refl) refl

    pub length_good : AreRead ws n (length_or_none ws E) (length_or_none ws E') true first_expression (first_expression ++ more_commas)
    unfolding length_or_none
    length_good = declared (either first_expression written_good (given _) refl) refl

    pub type_name_good : AreRead ws n (type_name ws E) (type_name ws E') false first_type more_type_name
    unfolding type_name
    type_name_good = declared (seq (type_good ws) (λ t. seq (stars_good ws) (λ s. seq (brackets_good false written_good) (λ ns. given _) refl) refl) refl) refl

    indexed_good : (x : Expression) → AreRead ws n (indexed ws E x) (indexed ws E' x) false (mark_kind left_bracket ∷ []) []
    unfolding indexed
    indexed_good x = declared (seq (fixed_good ws (mark_kind left_bracket)) (λ at. seq e (λ i. seq (fixed_good ws (mark_kind right_bracket)) (λ _. given _) refl) refl) refl) refl

    pub postfix_once_good : (x : Expression) → AreRead ws n (postfix_once ws E x) (postfix_once ws E' x) false first_postfix []
    unfolding postfix_once
    postfix_once_good x =
        declared (either (mark_kind left_bracket ∷ []) (indexed_good x) (either (mark_kind dot ∷ []) (dotted_good x) (either (mark_kind arrow ∷ []) (arrowed_good x) (bumped_good x) refl) refl) refl) refl

    postfixes_good : (x : Expression) → AreRead ws n (postfixes ws E x) (postfixes ws E' x) true first_postfix first_postfix
    unfolding postfixes
    postfixes_good x = declared (again_and_again first_postfix postfix_once_good refl x) refl

    pub postfix_rest_good : (at : Place) (x : Expression) → AreRead ws n (postfix_rest ws E at x) (postfix_rest ws E' at x) true first_postfix first_postfix
    unfolding postfix_rest
    postfix_rest_good at x = declared (seq (postfixes_good x) (λ y. given _) refl) refl

    literal_first_good : AreRead ws (suc n) (literal_first ws E) (literal_first ws E') false (number_kind ∷ letter_kind ∷ text_kind ∷ []) first_postfix
    unfolding literal_first
    literal_first_good = declared (after literal_good (λ x. postfix_rest_good _ x) refl) refl

    paren_good : (at : Place) → AreRead ws n (paren_rest ws E at) (paren_rest ws E' at) false first_expression first_postfix
    unfolding paren_rest
    paren_good at = declared (seq e (λ x. seq (fixed_good ws (mark_kind right_paren)) (λ _. postfix_rest_good at x) refl) refl) refl

    sized_type_good : (at : Place) → AreRead ws n (sized_type ws E at) (sized_type ws E' at) false first_type []
    unfolding sized_type
    sized_type_good at = declared (seq type_name_good (λ t. closed_good _) refl) refl

  module _ {n : ℕ} {E E' : Syntax PlainToken Expression} (e : AreRead ws n E E' false first_expression more_commas) {O O' : Operand ws} (o : (u : TypeUse) → AreRead ws n (O u) (O' u) false first_expression more_operand) where
    cast_good : (at : Place) → AreRead ws n (cast_rest ws E O at) (cast_rest ws E' O' at) false first_type more_operand
    unfolding cast_rest
    cast_good at = declared (seq (type_name_good e) (λ t. seq (fixed_good ws (mark_kind right_paren)) (λ _. seq (o Casts) (λ x. given _) refl) refl) refl) refl

    behind_paren_good : (u : TypeUse) (at : Place) → AreRead ws n (behind_paren ws E O u at) (behind_paren ws E' O' u at) false (first_type ++ first_expression) more_operand
    unfolding behind_paren
    behind_paren_good Casts at = declared (either first_type (cast_good at) (paren_good e at) refl) refl
    behind_paren_good Sizes at = declared (either first_type (sized_type_good e at) (paren_good e at) refl) refl
    behind_paren_good Nothing at = declared (paren_good e at) refl

    prefixed_good : AreRead ws (suc n) (prefixed ws O) (prefixed ws O') false (kinds_of unary_operators) more_operand
    unfolding prefixed
    prefixed_good = declared (after (marks_good ws unary_operators) (λ p. seq (o Casts) (λ x. given _) refl) refl) refl

    sized_good : AreRead ws (suc n) (sized ws O) (sized ws O') false (keyword_kind keyword.Sizeof ∷ []) more_operand
    unfolding sized
    sized_good = declared (after (fixed_good ws (keyword_kind keyword.Sizeof)) (λ at. seq (o Sizes) (λ x. given _) refl) refl) refl

    bump_first_good : AreRead ws (suc n) (bump_first ws O) (bump_first ws O') false (kinds_of prefix_bumps) more_operand
    unfolding bump_first
    bump_first_good = declared (after (marks_good ws prefix_bumps) (λ p. seq (o Nothing) (λ x. given _) refl) refl) refl

    pub but_name_good : (u : TypeUse) → AreRead ws (suc n) (operand_but_name ws E O u) (operand_but_name ws E' O' u) false first_but_name more_operand
    unfolding operand_but_name
    but_name_good u =
        declared (either (mark_kind left_paren ∷ []) (after (fixed_good ws (mark_kind left_paren)) (λ at. behind_paren_good u at) refl)
        (either (kinds_of unary_operators) prefixed_good (either (kinds_of prefix_bumps) bump_first_good (either (keyword_kind keyword.Sizeof ∷ []) sized_good (literal_first_good e) refl) refl) refl) refl) refl

  -- ---- arguments, parts of a comma, and operands; A is an expression without commas

  module _ {n : ℕ} {A A' : Syntax PlainToken Expression} (a : AreRead ws n A A' false first_expression more_expression) where
    pub next_argument_good : (es : List Expression) → AreRead ws n (next_argument ws A es) (next_argument ws A' es) false (mark_kind comma ∷ []) more_expression
    unfolding next_argument
    next_argument_good es = declared (seq (fixed_good ws (mark_kind comma)) (λ _. seq a (λ e. given _) refl) refl) refl

    arguments_good : AreRead ws n (arguments ws A) (arguments ws A') true first_expression (first_expression ++ more_commas)
    unfolding arguments
    arguments_good =
        declared (either first_expression (declared {first = first_expression} {more = more_commas} (seq a (λ e. again_and_again (mark_kind comma ∷ []) next_argument_good refl (e ∷ [])) refl) refl) (given []) refl)
        refl

    call_rest_good : (f : ℕ) → AreRead ws n (call_rest ws A f) (call_rest ws A' f) false (mark_kind left_paren ∷ []) []
    unfolding call_rest
    call_rest_good f = declared (seq (fixed_good ws (mark_kind left_paren)) (λ at. seq arguments_good (λ es. closed_good _) refl) refl) refl

    pub next_part_good : (x : Expression) → AreRead ws n (next_part ws A x) (next_part ws A' x) false (mark_kind comma ∷ []) more_expression
    unfolding next_part
    next_part_good x = declared (seq (fixed_good ws (mark_kind comma)) (λ at. seq a (λ y. given _) refl) refl) refl

    pub with_commas_good : AreRead ws n (with_commas ws A) (with_commas ws A') false first_expression more_commas
    unfolding with_commas
    with_commas_good = declared (seq a (λ x. again_and_again (mark_kind comma ∷ []) next_part_good refl x) refl) refl

  module _ {n : ℕ} {E E' A A' : Syntax PlainToken Expression} (e : AreRead ws n E E' false first_expression more_commas) (a : AreRead ws n A A' false first_expression more_expression) where
    pub behind_variable_good : (x : ℕ × Place) → AreRead ws n (behind_variable ws E A x) (behind_variable ws E' A' x) true more_operand more_operand
    unfolding behind_variable
    behind_variable_good x = declared (either (mark_kind left_paren ∷ []) (seq (call_rest_good a x.0) (λ y. postfix_rest_good e x.1 y) refl) (postfix_rest_good e x.1 _) refl) refl

    operand_of_good : {O O' : Operand ws} → ((u : TypeUse) → AreRead ws n (O u) (O' u) false first_expression more_operand) → (u : TypeUse) → AreRead ws (suc n) (operand_of ws E A O u) (operand_of ws E' A' O' u) false first_expression more_operand
    unfolding operand_of
    operand_of_good o u = declared (either (name_kind ∷ []) (after (name_good ws) (λ x. behind_variable_good x) refl) (but_name_good e o u) refl) refl

  operand_step : {E A : Syntax PlainToken Expression} → IsExact (kind ws) E false first_expression (λ _. more_commas) → IsExact (kind ws) A false first_expression (λ _. more_expression) → (k : ℕ) (U U' : Operand ws)
      → ((u : TypeUse) → AreRead ws k (U u) (U' u) false first_expression more_operand) → (u : TypeUse) → AreRead ws (suc k) (operand_of ws E A U u) (operand_of ws E A U' u) false first_expression more_operand
  operand_step e a k U U' o u = operand_of_good (same e) (same a) o u

  -- ---- operators by level

  module _ {n : ℕ} {E E' A A' : Syntax PlainToken Expression} (e : AreRead ws n E E' false first_expression more_commas) (a : AreRead ws n A A' false first_expression more_expression) where
    pub operand_good : (u : TypeUse) → AreRead ws (suc n) (operand ws E A u) (operand ws E' A' u) false first_expression more_operand
    unfolding operand
    operand_good u =
        knot_both (suc n) false first_expression (λ _. more_operand) (operand_of ws E A) (operand_of ws E' A') (operand_step e.here a.here) (operand_step e.there a.there) (λ U U' o v. operand_of_good e a (λ w. one_lower (o w)) v) u

    right_good : (l : ℕ) → apart (kinds_below l) more_operand ≡ true → ((x : Expression) → AreRead ws (suc n) (behind_operand ws E A l x) (behind_operand ws E' A' l x) true (kinds_below l) (more_below l))
        → AreRead ws (suc n) (operand ws E A Casts then λ z. behind_operand ws E A l z.expression) (operand ws E' A' Casts then λ z. behind_operand ws E' A' l z.expression) false first_expression (more_below l)
    right_good l c b =
        enlarged ws first_expression (more_below l) (seq (operand_good Casts) (λ z. b z.expression) c) refl
        (λ x. within_both (more_below l) more_operand (more_below l) (within_self (more_below l)) (within_left more_operand (kinds_below l)))

    pub joined_good : (l : ℕ) → apart (kinds_below l) more_operand ≡ true → ((x : Expression) → AreRead ws (suc n) (behind_operand ws E A l x) (behind_operand ws E' A' l x) true (kinds_below l) (more_below l)) → (x : Expression)
        → AreRead ws (suc n) (joined_once ws l (operand ws E A Casts then λ z. behind_operand ws E A l z.expression) x) (joined_once ws l (operand ws E' A' Casts then λ z. behind_operand ws E' A' l z.expression) x) false
        (kinds_of (operators_at l)) (more_below l)
    unfolding joined_once
    joined_good l c b x =
        enlarged ws (kinds_of (operators_at l)) (more_below l) (seq (marks_good ws (operators_at l)) (λ p. seq (right_good l c b) (λ y. given _) refl) refl)
        (within_both (kinds_of (operators_at l)) [] (kinds_of (operators_at l)) (within_self (kinds_of (operators_at l))) refl)
        (λ y. within_both (more_below l) [] (more_below l) (within_self (more_below l)) refl)

    level_good : (l : ℕ) → apart (kinds_of (operators_at l)) (more_below l) ≡ true → apart (kinds_below l) more_operand ≡ true
        → ((x : Expression) → AreRead ws (suc n) (behind_operand ws E A l x) (behind_operand ws E' A' l x) true (kinds_below l) (more_below l)) → (x : Expression)
        → AreRead ws (suc n) (behind_operand ws E A (suc l) x) (behind_operand ws E' A' (suc l) x) true (kinds_below (suc l)) (more_below (suc l))
    unfolding behind_operand
    level_good l c d b x =
        let ks = kinds_of (operators_at l) in
        let below = kinds_below l in
        let more = more_below (suc l) in
        enlarged ws (below ++ ks) more (seq (b x) (λ y. again_and_again ks (joined_good l d b) (both_true (apart ks (more_below l)) (within ks ks) c (within_self ks)) y) c) (within_self (below ++ ks))
        (λ y. within_both (ks ++ more_below l) (more_below l) more (within_both ks (more_below l) more (level_within l) (below_within l)) (below_within l))

    pub behind_good : (l : ℕ) → AreApart l → (x : Expression) → AreRead ws (suc n) (behind_operand ws E A l x) (behind_operand ws E' A' l x) true (kinds_below l) (more_below l)
    unfolding behind_operand
    behind_good zero c x = declared (given x) refl
    behind_good (suc l) c x = level_good l c.1 (postfix_apart l c.0) (behind_good l c.0) x

    -- ---- conditional expressions and assignments

    module _ {C C' : Syntax PlainToken Expression} (c : AreRead ws n C C' false first_expression more_expression) where
      choice_good : (x : Expression) → AreRead ws (suc n) (choice_rest ws E C x) (choice_rest ws E' C' x) false (mark_kind question ∷ []) more_expression
      unfolding choice_rest
      choice_good x =
          declared (after (fixed_good ws (mark_kind question)) (λ at. seq e (λ y. seq (fixed_good ws (mark_kind colon)) (λ _. seq c (λ z. given _) refl) refl) refl) refl) refl

      conditional_good : (x : Expression) → AreRead ws (suc n) (conditional_rest ws E A C x) (conditional_rest ws E' A' C' x) true behind_kinds more_expression
      unfolding conditional_rest
      conditional_good x = declared (seq (behind_good levels levels_apart x) (λ y. either (mark_kind question ∷ []) (choice_good y) (given y) refl) refl) refl

      assignment_good : (x : Expression) → AreRead ws (suc n) (assigned ws A x) (assigned ws A' x) false (kinds_of assignment_operators) more_expression
      unfolding assigned
      assignment_good x = declared (after (marks_good ws assignment_operators) (λ o. seq a (λ y. given _) refl) refl) refl

      behind_unary_good : (x : Expression) → AreRead ws (suc n) (behind_unary ws E A C x) (behind_unary ws E' A' C' x) true behind_unary_kinds more_expression
      unfolding behind_unary
      behind_unary_good x = declared (either (kinds_of assignment_operators) (assignment_good x) (conditional_good x) refl) refl

      behind_form_good : (f : Form) (x : Expression) → AreRead ws (suc n) (behind_form ws E A C f x) (behind_form ws E' A' C' f x) true behind_unary_kinds more_expression
      unfolding behind_form
      behind_form_good form.Postfix x = behind_unary_good x
      behind_form_good form.Unary x = behind_unary_good x
      behind_form_good form.Cast x = declared (conditional_good x) refl
      behind_form_good form.TypeName x = declared (conditional_good x) refl

      at_level_good : (l : Level) → AreRead ws (suc n) (at_level ws E A C l) (at_level ws E' A' C' l) false first_expression more_expression
      unfolding at_level
      at_level_good Assignment = declared (seq (operand_good Casts) (λ x. behind_form_good x.form x.expression) refl) refl
      at_level_good Conditional = declared (seq (operand_good Casts) (λ x. conditional_good x.expression) refl) refl

  expression_step : (k : ℕ) (U U' : Level → Syntax PlainToken Expression) → ((l : Level) → AreRead ws k (U l) (U' l) false first_expression more_expression) → (l : Level)
      → AreRead ws (suc k) (expression_of ws U l) (expression_of ws U' l) false first_expression more_expression
  unfolding expression_of
  expression_step k U U' e l = at_level_good (with_commas_good (e Assignment)) (e Assignment) (e Conditional) l

  -- an expression without commas, at both levels, is read exactly
  pub level_exact : (l : Level) → IsExact (kind ws) (expression_at ws l) false first_expression (λ _. more_expression)
  unfolding expression_at
  level_exact l = knot_exact false first_expression (λ _. more_expression) (expression_of ws) expression_step l

  level_knot : (l : Level) (ts : List PlainToken) → (expression_at ws l).parse ts ≡ (expression_of ws (expression_at ws) l).parse ts
  unfolding expression_at
  level_knot l ts = knot_is false first_expression (λ _. more_expression) (expression_of ws) expression_step l ts

  pub level_is : (l : Level) (ts : List PlainToken) → (expression_at ws l).parse ts ≡ (at_level ws (expression ws) (expression_at ws Assignment) (expression_at ws Conditional) l).parse ts
  unfolding expression_of expression
  level_is l ts = level_knot l ts

  pub level_form : (l : Level) → Same (expression_at ws l) (expression_of ws (expression_at ws) l)
  unfolding expression_at
  level_form l = knot_form false first_expression (λ _. more_expression) (expression_of ws) expression_step l

  -- and so is one with commas
  pub expression_good : IsRead ws (expression ws) false first_expression more_commas
  unfolding expression
  expression_good = with_commas_good (same (level_exact Assignment))

  pub levels_good : (l : Level) → IsRead ws (expression_at ws l) false first_expression more_expression
  levels_good l = same (level_exact l)

  placed_rest_good : (x : ReadOperand) → AreRead ws 1 (placed_rest ws x) (placed_rest ws x) true placed_rest_kinds more_commas
  unfolding placed_rest
  placed_rest_good x =
      declared (seq (behind_form_good expression_good (levels_good Assignment) (levels_good Conditional) x.form x.expression)
      (λ y. seq (again_and_again (mark_kind comma ∷ []) (next_part_good (same (level_exact Assignment))) refl y) (λ e. given _) refl) refl) refl

  pub placed_good : IsRead ws (placed_expression ws) false first_expression more_commas
  unfolding placed_expression
  placed_good = one_lower (declared (seq (operand_good expression_good (levels_good Assignment) Casts) placed_rest_good refl) refl)

  -- where it begins with no name, and behind one
  pub nameless_good : IsRead ws (nameless_expression ws) false first_but_name more_commas
  unfolding nameless_expression
  nameless_good =
      one_lower (declared (seq (but_name_good expression_good (λ u. one_lower (operand_good expression_good (levels_good Assignment) u)) Casts) placed_rest_good refl) refl)

  pub behind_name_good : (x : ℕ × Place) → IsRead ws (expression_behind ws x) true (more_operand ++ placed_rest_kinds) (more_operand ++ more_commas)
  unfolding expression_behind
  behind_name_good x = declared (seq (behind_variable_good expression_good (levels_good Assignment) x) (λ y. one_lower (placed_rest_good y)) refl) refl

  pub operand_is : (u : TypeUse) (ts : List PlainToken) → (operand ws (expression ws) (expression_at ws Assignment) u).parse ts
      ≡ (operand_of ws (expression ws) (expression_at ws Assignment) (operand ws (expression ws) (expression_at ws Assignment)) u).parse ts
  unfolding operand
  operand_is u ts = knot_is false first_expression (λ _. more_operand) (operand_of ws (expression ws) (expression_at ws Assignment)) (operand_step expression_good.here (level_exact Assignment)) u ts

  -- ---- expressions that stand in no other

  pub full_expression_good : IsRead ws (full_expression ws) false first_expression more_commas
  unfolding full_expression
  full_expression_good = counted expression_limit most_in_expression (expression_free ws) (expression_free ws) expression_good

  pub full_placed_good : IsRead ws (full_placed_expression ws) false first_expression more_commas
  unfolding full_placed_expression
  full_placed_good = counted expression_limit most_in_expression (placed_free ws) (placed_free ws) placed_good

  pub full_nameless_good : IsRead ws (full_nameless_expression ws) false first_but_name more_commas
  unfolding full_nameless_expression
  full_nameless_good = counted expression_limit most_in_expression (nameless_free ws) (nameless_free ws) nameless_good

  pub full_behind_name_good : (x : ℕ × Place) → IsRead ws (full_expression_behind ws x) true (more_operand ++ placed_rest_kinds) (more_operand ++ more_commas)
  unfolding full_expression_behind
  full_behind_name_good x = counted expression_limit (most_in_expression - 1) (behind_name_free ws x) (behind_name_free ws x) (behind_name_good x)

  pub full_level_good : (l : Level) → IsRead ws (full_expression_at ws l) false first_expression more_expression
  unfolding full_expression_at
  full_level_good l = counted expression_limit most_in_expression (level_free ws l) (level_free ws l) (levels_good l)
