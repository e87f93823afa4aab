-- The grammar of the forms of annotations, as they are read (ACSL 2.2, 2.4.3, 2.7); the clauses that they stand in are those of ClauseGrammar:
--
--   form        = equivalence [ "?" form ":" form ]
--   equivalence = implication { "<==>" implication }
--   implication = disjunction [ "==>" implication ]
--   disjunction = exclusion { "||" exclusion }
--   exclusion   = conjunction { "^^" conjunction }
--   conjunction = bit-or { "&&" bit-or }
--   bit-or      = bit-xor { "|" bit-xor }
--   bit-xor     = bit-and { "^" bit-and }
--   bit-and     = chain { "&" chain }
--   chain       = shift { ( "<" | "<=" | "==" ) shift } | shift { ( ">" | ">=" | "==" ) shift } | shift "!=" shift
--   shift       = sum { ( "<<" | ">>" ) sum }
--   sum         = product { ( "+" | "-" ) product }
--   product     = prefix { ( "*" | "/" | "%" ) prefix }
--   prefix      = ( "+" | "-" | "!" | "~" | "*" | "&" ) prefix | "(" ( type | "integer" ) ")" prefix | "sizeof" "(" type ")" | quantified | postfix
--   quantified  = ( "\forall" | "\exists" ) values NAME { "," NAME } ";" form
--   values      = "integer" | integer words in any order | "enum" ANYNAME | TYPENAME
--   postfix     = primary { "[" form "]" | "." ANYNAME | "->" ANYNAME }
--   primary     = NAME | NUMBER | CHAR | "\true" | "\false" | "\null" | "\result" | "(" form ")"
--               | "\old" "(" form ")" | "\at" "(" form "," NAME ")"
--               | ( "\base_addr" | "\block_length" | "\offset" ) "(" form ")"
--               | ( "\valid" | "\valid_read" | "\initialized" ) "(" zone ")" | "\separated" "(" zone "," zone { "," zone } ")"
--   zone        = form [ "+" "(" form ".." form ")" ]
--
-- The type of a cast and of `sizeof` is C's. `integer` is no NAME, and words of clauses are; each of them may be the name of a member. Relations bind
-- closer than `&`, as in C. Names and their declarations are set by typing, and so are labels.
--
-- Only behind a form in parentheses is it seen whether a `+` before it adds, or begins the range of a zone, whose form is then the whole one before
-- the `+`. So a form is read in one of two modes. In that of a zone a sum goes on with a range too, and nothing goes on behind one; it is handed on
-- to what may stand last in a form: the right operand of each level, the last part of a choice, and the form of a quantifier.
--
-- A quantifier reaches as far to the right as it can: nothing goes on behind a form that one ends. A form inside parentheses ends at these.
use Rattle.std.specs.Prelude.{ℕ, List, [], ◌∷◌, ◌++◌, Option, Some, None, Bool, cond, eqb}
use Rattle.grammar.specs.Syntax.{Syntax, none, gives, one, ◌then◌, choice, many, knot}
use Rattle.c_syntax.specs.declared.place.Place.{Place}
use Rattle.c_syntax.specs.declared.expression.BinOp.TheVariants.{Add, Sub, Mul, Div, Rem, Shl, Shr, BitAnd, BitOr, BitXor}
use Rattle.c_syntax.specs.declared.expression.UnOp.{UnOp}
use Rattle.c_syntax.specs.declared.expression.UnOp.TheVariants.{Plus, Minus, Not, Flip, Deref, Address}
use Rattle.c_syntax.specs.declared.annotation.Relation.{Relation}
use Rattle.c_syntax.specs.declared.annotation.Relation.TheVariants as relation
use Rattle.c_syntax.specs.declared.logic.BlockFact.{BlockFact}
use Rattle.c_syntax.specs.declared.logic.Connective.TheVariants as connective
use Rattle.c_syntax.specs.declared.logic.MemoryQuestion.{MemoryQuestion}
use Rattle.c_syntax.specs.declared.logic.Quantifier.{Quantifier}
use Rattle.c_syntax.specs.Formulas.{CastType, Integers, OfC, Form, Number, Letter, Truth, Name, Unary, Binary, Cast, SizeOf, Chain, Connected, Choice}
use Rattle.c_syntax.specs.Formulas.{FormLinks, NoLink, Linked, Null, Index, Dot, Arrow, Told, Asks, Separated, FormZone, Object, Elements, FormZones, NoZone}
use Rattle.c_syntax.specs.Formulas.{Another, Result, Old, At, Quantified}
use Rattle.c_syntax.specs.Tokens as token
use Rattle.c_syntax.specs.Tokens.{PlainTokenKind, PlainToken}
use Rattle.c_model.specs.declared.formulas.FormulaOperator.{FormulaOperator}
use Rattle.c_model.specs.declared.formulas.FormulaOperator.TheVariants.{Term, Predicate}
use Rattle.c_model.specs.declared.formulas.FormulaMode.{FormulaMode}
use Rattle.c_model.specs.declared.formulas.FormulaMode.TheVariants.{Alone, Zone}
use Rattle.c_model.specs.declared.formulas.ChainDirection.{ChainDirection}
use Rattle.c_model.specs.declared.formulas.ChainDirection.TheVariants.{Start, Equal, Up, Down, Ended}
use Rattle.c_model.specs.declared.vocabulary.Keyword.TheVariants as keyword
use Rattle.c_model.specs.declared.vocabulary.LogicWord.TheVariants as logic
use Rattle.c_model.specs.declared.vocabulary.Word.{Word}
use Rattle.c_model.specs.declared.vocabulary.Word.TheVariants as word
use Rattle.c_model.specs.Vocabulary.{Vocabulary, word_at}
use Rattle.c_model.specs.Punctuators.{shift_left, shift_right, less_equal, greater_equal, equal, not_equal, and_and, or_or, plus, minus, times, divide}
use Rattle.c_model.specs.Punctuators.{percent, less, greater, exclamation, tilde, ampersand, bar, caret, question, colon, semicolon, left_paren}
use Rattle.c_model.specs.Punctuators.{right_paren, equivalent, implies, caret_caret, comma, dot, arrow, left_bracket, right_bracket, dots}
use Rattle.c_model.specs.Terminals.{placed, mark_entry}
use Rattle.c_model.specs.ExpressionGrammar.{name_kind, number_kind, letter_kind, keyword_kind, mark_kind}
use Rattle.c_model.specs.ExpressionGrammar.{word_kind, token_kind, letter_of, number_of, kinds_of, first_type, use_of, any_name}
use Rattle.c_model.specs.ExpressionGrammar.{null_kind, fact_kind, question_kind, separated_kind, fixed, mark, reserved, closed, type_name, expression}
use Rattle.c_model.specs.ExpressionGrammar.{result_kind, old_kind, at_kind, quantifier_kind, type_name_kind, integer_words, typedef_name, enum_tag}

-- ---- kinds of tokens in annotations: those of C, but that `integer` has a kind of its own

abbrev pub integer_kind : ℕ
integer_kind = 9

abbrev pub formula_word_kind : Word → ℕ
formula_word_kind word.Integer = integer_kind
formula_word_kind w = word_kind w

abbrev pub formula_token_kind : Vocabulary → PlainTokenKind → ℕ
formula_token_kind ws (token.Word n) = formula_word_kind (word_at ws n)
formula_token_kind ws k = token_kind ws k

abbrev pub formula_kind : Vocabulary → PlainToken → ℕ
formula_kind ws t = formula_token_kind ws t.kind

-- ---- what single words stand for

abbrev pub truth_word : Word → Option Bool
truth_word (word.Logic (logic.Truth b)) = Some b
truth_word _ = None

abbrev pub fact_word : Word → Option BlockFact
fact_word (word.Logic (logic.Told f)) = Some f
fact_word _ = None

abbrev pub question_word : Word → Option MemoryQuestion
question_word (word.Logic (logic.Asks q)) = Some q
question_word _ = None

abbrev pub quantifier_word : Word → Option Quantifier
quantifier_word (word.Logic (logic.Quantifier q)) = Some q
quantifier_word _ = None

-- what a postfix form goes on with; it serves `parse` alone
abbrev pub first_behind : List ℕ
first_behind = mark_kind left_bracket ∷ mark_kind dot ∷ mark_kind arrow ∷ []

-- ---- operators, by their punctuators (ACSL 2.2.1)

abbrev pub prefix_operators : List (ℕ × UnOp)
prefix_operators = (plus, Plus) ∷ (minus, Minus) ∷ (exclamation, Not) ∷ (tilde, Flip) ∷ (times, Deref) ∷ (ampersand, Address) ∷ []

abbrev pub product_operators : List (ℕ × FormulaOperator)
product_operators = (times, Term Mul) ∷ (divide, Term Div) ∷ (percent, Term Rem) ∷ []

abbrev pub sum_operators : List (ℕ × FormulaOperator)
sum_operators = (plus, Term Add) ∷ (minus, Term Sub) ∷ []

abbrev pub difference_operators : List (ℕ × FormulaOperator)
difference_operators = (minus, Term Sub) ∷ []

abbrev pub shift_operators : List (ℕ × FormulaOperator)
shift_operators = (shift_left, Term Shl) ∷ (shift_right, Term Shr) ∷ []

abbrev pub bit_and_operators : List (ℕ × FormulaOperator)
bit_and_operators = (ampersand, Term BitAnd) ∷ []

abbrev pub bit_xor_operators : List (ℕ × FormulaOperator)
bit_xor_operators = (caret, Term BitXor) ∷ []

abbrev pub bit_or_operators : List (ℕ × FormulaOperator)
bit_or_operators = (bar, Term BitOr) ∷ []

abbrev pub conjunction_operators : List (ℕ × FormulaOperator)
conjunction_operators = (and_and, Predicate connective.And) ∷ []

abbrev pub exclusion_operators : List (ℕ × FormulaOperator)
exclusion_operators = (caret_caret, Predicate connective.Xor) ∷ []

abbrev pub disjunction_operators : List (ℕ × FormulaOperator)
disjunction_operators = (or_or, Predicate connective.Or) ∷ []

abbrev pub equivalence_operators : List (ℕ × FormulaOperator)
equivalence_operators = (equivalent, Predicate connective.Iff) ∷ []

-- ---- chains of relations, which go one way (ACSL 2.2.1)

-- the relations with which a chain goes on
abbrev pub relations_behind : ChainDirection → List (ℕ × Relation)
relations_behind Start =
    (less, relation.Lt) ∷ (less_equal, relation.Le) ∷ (greater, relation.Gt) ∷ (greater_equal, relation.Ge) ∷ (equal, relation.Eq)
    ∷ (not_equal, relation.Ne) ∷ []
relations_behind Equal =
    (less, relation.Lt) ∷ (less_equal, relation.Le) ∷ (greater, relation.Gt) ∷ (greater_equal, relation.Ge) ∷ (equal, relation.Eq) ∷ []
relations_behind Up = (less, relation.Lt) ∷ (less_equal, relation.Le) ∷ (equal, relation.Eq) ∷ []
relations_behind Down = (greater, relation.Gt) ∷ (greater_equal, relation.Ge) ∷ (equal, relation.Eq) ∷ []
relations_behind Ended = []

-- which way a chain goes after `==`
abbrev pub after_equal : ChainDirection → ChainDirection
after_equal Start = Equal
after_equal d = d

-- which way a chain goes after one more relation
abbrev pub direction_behind : ChainDirection → Relation → ChainDirection
direction_behind d relation.Lt = Up
direction_behind d relation.Le = Up
direction_behind d relation.Gt = Down
direction_behind d relation.Ge = Down
direction_behind d relation.Eq = after_equal d
direction_behind d relation.Ne = Ended

-- ---- forms

-- what ends a form, so that nothing goes on behind it: a range `+ (lo .. hi)`, at its `+`, which stands in a zone alone; or a quantifier
pub data FormEnd : Type 0 where
  ByRange : Place → Form → Form → FormEnd
  ByQuantifier : FormEnd

-- what is read, and what ends it
abbrev pub Spanned : Type 0 → Type 0
Spanned A = A × Option FormEnd

-- what ends a quantifier, by what ends its form
abbrev pub quantifier_end : Option FormEnd → FormEnd
quantifier_end None = ByQuantifier
quantifier_end (Some e) = e

-- two forms and what joins them
abbrev pub joined_forms : FormulaOperator × Place → Form → Form → Form
joined_forms (Term op, at) a b = Binary at op a b
joined_forms (Predicate c, at) a b = Connected at c a b

-- a form and the relations after it: their place is that of the first
abbrev pub chained : Form → FormLinks → Form
chained a NoLink = a
chained a (Linked at r b links) = Chain at a (Linked at r b links)

abbrev pub zone_ended : Form → FormEnd → FormZone
zone_ended a (ByRange at lo hi) = Elements at a lo hi
zone_ended a ByQuantifier = Object a

-- the zone of a form: the elements of its range, or what the form points to
abbrev pub zone_of : Spanned Form → FormZone
zone_of x = elim x.1 [ None ↦ Object x.0 | Some e ↦ zone_ended x.0 e ]

abbrev pub zones_of : List FormZone → FormZones
zones_of [] = NoZone
zones_of (z ∷ zs) = Another z (zones_of zs)

-- the kinds with which something goes on that nothing ends
abbrev pub unended_kinds : {A : Type 0} → List ℕ → Spanned A → List ℕ
unended_kinds ks x = elim x.1 [ None ↦ ks | Some e ↦ [] ]

-- goes on behind a form that nothing ends
abbrev pub unended : {A B : Type 0} → (A → Syntax PlainToken (Spanned B)) → (A → B) → Spanned A → Syntax PlainToken (Spanned B)
unended G f x = elim x.1 [ None ↦ G x.0 | Some e ↦ gives (f x.0, Some e) ]

-- the same, where there is nothing else
abbrev pub unended_only : (Form → Syntax PlainToken (Spanned Form)) → Spanned Form → Syntax PlainToken (Spanned Form)
unended_only G x = elim x.1 [ None ↦ G x.0 | Some e ↦ none ]

-- a form that nothing ends
abbrev pub endless : Syntax PlainToken Form → Syntax PlainToken (Spanned Form)
endless G = G then λ x. gives (x, None)

abbrev pub as_it_is : {A : Type 0} → A → A
as_it_is a = a

-- a level of operators in each mode, by what stands in it: a form inside another, a zone, and a form that may stand last
abbrev pub Levelled : Type 1
Levelled = Syntax PlainToken Form → Syntax PlainToken FormZone → Syntax PlainToken (Spanned Form) → FormulaMode → Syntax PlainToken (Spanned Form)

module _ (ws : Vocabulary) where
  -- ---- single tokens

  abbrev pub formula_name_of : PlainTokenKind → Option ℕ
  formula_name_of (token.Word n) = cond (eqb (formula_word_kind (word_at ws n)) name_kind) (Some n) None
  formula_name_of _ = None

  -- `\true` and `\false`
  abbrev pub truth_of : PlainTokenKind → Option Bool
  truth_of (token.Word n) = truth_word (word_at ws n)
  truth_of _ = None

  -- `\base_addr`, `\block_length` and `\offset`
  abbrev pub fact_of : PlainTokenKind → Option BlockFact
  fact_of (token.Word n) = fact_word (word_at ws n)
  fact_of _ = None

  -- `\valid`, `\valid_read` and `\initialized`
  abbrev pub question_of : PlainTokenKind → Option MemoryQuestion
  question_of (token.Word n) = question_word (word_at ws n)
  question_of _ = None

  -- `\forall` and `\exists`
  abbrev pub quantifier_of : PlainTokenKind → Option Quantifier
  quantifier_of (token.Word n) = quantifier_word (word_at ws n)
  quantifier_of _ = None

  -- the word `integer`, by its place
  abbrev pub integer_word : Syntax PlainToken Place
  integer_word = one (λ t. cond (eqb (formula_kind ws t) integer_kind) (Some t.place) None)

  -- ---- what stands in a form; F stands for a form inside another, in each mode

  -- a form that no range ends
  unfoldable pub whole : (FormulaMode → Syntax PlainToken (Spanned Form)) → Syntax PlainToken Form
  whole F = F Alone then λ x. gives x.0

  -- form [ "+" "(" form ".." form ")" ]
  unfoldable pub zone : (FormulaMode → Syntax PlainToken (Spanned Form)) → Syntax PlainToken FormZone
  zone F = F Zone then λ x. gives (zone_of x)

  -- ---- primary forms; E stands for a form inside another, Z for a zone

  -- NAME
  unfoldable pub named_form : Syntax PlainToken Form
  named_form = one (placed formula_name_of) then λ x. gives (Name x.1 (use_of x.0))

  -- NUMBER | CHAR | "\true" | "\false"
  unfoldable pub literal_form : Syntax PlainToken Form
  literal_form =
      choice (formula_kind ws) (number_kind ∷ []) (one (placed number_of) then λ n. gives (Number n.1 n.0.0))
      (choice (formula_kind ws) (letter_kind ∷ []) (one (placed letter_of) then λ z. gives (Letter z.1 z.0))
      (one (placed truth_of) then λ b. gives (Truth b.1 b.0)))

  -- "sizeof" "(" type ")"
  unfoldable pub sized_form : Syntax PlainToken Form
  sized_form =
      reserved ws keyword.Sizeof then λ at. mark ws left_paren then λ _. type_name ws (expression ws) then λ t. closed ws (SizeOf at t)

  -- "\null"
  unfoldable pub null_form : Syntax PlainToken Form
  null_form = fixed ws null_kind then λ at. gives (Null at)

  -- ( "\base_addr" | "\block_length" | "\offset" ) "(" form ")"
  unfoldable pub told_form : Syntax PlainToken Form → Syntax PlainToken Form
  told_form E = one (placed fact_of) then λ f. mark ws left_paren then λ _. E then λ x. closed ws (Told f.1 f.0 x)

  -- ( "\valid" | "\valid_read" | "\initialized" ) "(" zone ")"
  unfoldable pub asked_form : Syntax PlainToken FormZone → Syntax PlainToken Form
  asked_form Z = one (placed question_of) then λ q. mark ws left_paren then λ _. Z then λ z. closed ws (Asks q.1 q.0 z)

  -- "," zone, behind others
  unfoldable pub next_zone : Syntax PlainToken FormZone → List FormZone → Syntax PlainToken (List FormZone)
  next_zone Z zs = mark ws comma then λ _. Z then λ z. gives (zs ++ z ∷ [])

  -- zone "," zone { "," zone }
  unfoldable pub some_zones : Syntax PlainToken FormZone → Syntax PlainToken (List FormZone)
  some_zones Z = Z then λ z. next_zone Z (z ∷ []) then λ zs. many (formula_kind ws) (λ _. mark_kind comma ∷ []) (next_zone Z) zs

  -- "\separated" "(" zone "," zone { "," zone } ")"
  unfoldable pub separated_form : Syntax PlainToken FormZone → Syntax PlainToken Form
  separated_form Z = fixed ws separated_kind then λ at. mark ws left_paren then λ _. some_zones Z then λ zs. closed ws (Separated at (zones_of zs))

  -- "\result"
  unfoldable pub result_form : Syntax PlainToken Form
  result_form = fixed ws result_kind then λ at. gives (Result at)

  -- "\old" "(" form ")"
  unfoldable pub old_form : Syntax PlainToken Form → Syntax PlainToken Form
  old_form E = fixed ws old_kind then λ at. mark ws left_paren then λ _. E then λ x. closed ws (Old at x)

  -- "\at" "(" form "," NAME ")"
  unfoldable pub labelled_form : Syntax PlainToken Form → Syntax PlainToken Form
  labelled_form E =
      fixed ws at_kind then λ at. mark ws left_paren then λ _. E then λ x. mark ws comma then λ _. one (placed formula_name_of) then λ l.
      closed ws (At at x l.1 l.0)

  -- NAME | NUMBER | CHAR | "\true" | "\false" | "\null" | "\result"
  unfoldable pub atom : Syntax PlainToken Form
  atom =
      choice (formula_kind ws) (name_kind ∷ []) named_form
      (choice (formula_kind ws) (null_kind ∷ []) null_form
      (choice (formula_kind ws) (result_kind ∷ []) result_form literal_form))

  -- a primary form that begins with no parenthesis
  unfoldable pub worded : Syntax PlainToken Form → Syntax PlainToken FormZone → Syntax PlainToken Form
  worded E Z =
      choice (formula_kind ws) (fact_kind ∷ []) (told_form E)
      (choice (formula_kind ws) (question_kind ∷ []) (asked_form Z)
      (choice (formula_kind ws) (separated_kind ∷ []) (separated_form Z)
      (choice (formula_kind ws) (old_kind ∷ []) (old_form E)
      (choice (formula_kind ws) (at_kind ∷ []) (labelled_form E) atom))))

  -- ---- postfix forms

  -- "[" form "]", after a form
  unfoldable pub indexed : Syntax PlainToken Form → Form → Syntax PlainToken Form
  indexed E x = mark ws left_bracket then λ at. E then λ y. mark ws right_bracket then λ _. gives (Index at x y)

  -- "." ANYNAME, after a form
  unfoldable pub dotted : Form → Syntax PlainToken Form
  dotted x = mark ws dot then λ at. any_name ws then λ m. gives (Dot at x m.0)

  -- "->" ANYNAME, after a form
  unfoldable pub pointed : Form → Syntax PlainToken Form
  pointed x = mark ws arrow then λ at. any_name ws then λ m. gives (Arrow at x m.0)

  unfoldable pub postfix_once : Syntax PlainToken Form → Form → Syntax PlainToken Form
  postfix_once E x =
      choice (formula_kind ws) (mark_kind left_bracket ∷ []) (indexed E x)
      (choice (formula_kind ws) (mark_kind dot ∷ []) (dotted x) (pointed x))

  -- { "[" form "]" | "." ANYNAME | "->" ANYNAME }, after a form
  unfoldable pub postfixes : Syntax PlainToken Form → Form → Syntax PlainToken Form
  postfixes E x = many (formula_kind ws) (λ _. first_behind) (postfix_once E) x

  -- a postfix form that begins with no parenthesis
  unfoldable pub worded_postfix : Syntax PlainToken Form → Syntax PlainToken FormZone → Syntax PlainToken Form
  worded_postfix E Z = worded E Z then λ x. postfixes E x

  -- ---- names, each at its place

  unfoldable pub placed_name : Syntax PlainToken (Place × ℕ)
  placed_name = one (placed formula_name_of) then λ x. gives (x.1, x.0)

  -- "," NAME, behind others
  unfoldable pub next_name : List (Place × ℕ) → Syntax PlainToken (List (Place × ℕ))
  next_name names = mark ws comma then λ _. placed_name then λ x. gives (names ++ x ∷ [])

  -- NAME { "," NAME }
  unfoldable pub some_names : Syntax PlainToken (List (Place × ℕ))
  some_names = placed_name then λ x. many (formula_kind ws) (λ _. mark_kind comma ∷ []) next_name (x ∷ [])

  -- ---- quantifiers

  -- the type of the values that binders take
  unfoldable pub binder_type : Syntax PlainToken CastType
  binder_type =
      choice (formula_kind ws) (integer_kind ∷ []) (integer_word then λ _. gives Integers)
      (choice (formula_kind ws) (keyword_kind keyword.Enum ∷ []) (enum_tag ws then λ t. gives (OfC t))
      (choice (formula_kind ws) (type_name_kind ∷ []) (typedef_name ws then λ t. gives (OfC t)) (integer_words ws then λ t. gives (OfC t))))

  -- values NAME { "," NAME } ";"
  unfoldable pub binders : Syntax PlainToken (CastType × List (Place × ℕ))
  binders = binder_type then λ t. some_names then λ names. mark ws semicolon then λ _. gives (t, names)

  -- ( "\forall" | "\exists" ) values NAME { "," NAME } ";" form; L stands for a form that may stand last in another
  unfoldable pub quantified : Syntax PlainToken (Spanned Form) → Syntax PlainToken (Spanned Form)
  quantified L =
      one (placed quantifier_of) then λ q. binders then λ b. L then λ x. gives (Quantified q.1 q.0 b.0 b.1 x.0, Some (quantifier_end x.1))

  -- ---- prefix forms; P stands for what follows a prefix

  -- ")" prefix, after "(" and the type
  unfoldable pub cast_behind : Syntax PlainToken (Spanned Form) → Place → CastType → Syntax PlainToken (Spanned Form)
  cast_behind P at t = mark ws right_paren then λ _. P then λ x. gives (Cast at t x.0, x.1)

  -- type ")" prefix, after "("
  unfoldable pub cast_to_type : Syntax PlainToken (Spanned Form) → Place → Syntax PlainToken (Spanned Form)
  cast_to_type P at = type_name ws (expression ws) then λ t. cast_behind P at (OfC t)

  -- "integer" ")" prefix, after "("
  unfoldable pub cast_to_integer : Syntax PlainToken (Spanned Form) → Place → Syntax PlainToken (Spanned Form)
  cast_to_integer P at = integer_word then λ _. cast_behind P at Integers

  -- ")" and what may stand behind a form in parentheses
  unfoldable pub closed_postfix : Syntax PlainToken Form → Form → Syntax PlainToken Form
  closed_postfix E x = mark ws right_paren then λ _. postfixes E x

  -- form ")" and what may stand behind it, after "("
  unfoldable pub parenthesised : Syntax PlainToken Form → Syntax PlainToken (Spanned Form)
  parenthesised E = E then λ x. endless (closed_postfix E x)

  -- what stands after "("
  unfoldable pub behind_parenthesis : Syntax PlainToken Form → Syntax PlainToken (Spanned Form) → Place → Syntax PlainToken (Spanned Form)
  behind_parenthesis E P at =
      choice (formula_kind ws) first_type (cast_to_type P at)
      (choice (formula_kind ws) (integer_kind ∷ []) (cast_to_integer P at) (parenthesised E))

  -- ( "+" | "-" | "!" | "~" | "*" | "&" ) prefix
  unfoldable pub prefixed : Syntax PlainToken (Spanned Form) → Syntax PlainToken (Spanned Form)
  prefixed P = one (placed (mark_entry prefix_operators)) then λ o. P then λ x. gives (Unary o.1 o.0 x.0, x.1)

  -- one that begins with no parenthesis
  unfoldable pub bare_prefix : Syntax PlainToken Form → Syntax PlainToken FormZone → Syntax PlainToken (Spanned Form) → Syntax PlainToken (Spanned Form)
      → Syntax PlainToken (Spanned Form)
  bare_prefix E Z L P =
      choice (formula_kind ws) (kinds_of prefix_operators) (prefixed P)
      (choice (formula_kind ws) (keyword_kind keyword.Sizeof ∷ []) (endless sized_form)
      (choice (formula_kind ws) (quantifier_kind ∷ []) (quantified L) (endless (worded_postfix E Z))))

  unfoldable pub prefix_of : Syntax PlainToken Form → Syntax PlainToken FormZone → Syntax PlainToken (Spanned Form) → Syntax PlainToken (Spanned Form)
      → Syntax PlainToken (Spanned Form)
  prefix_of E Z L P =
      choice (formula_kind ws) (mark_kind left_paren ∷ []) (mark ws left_paren then λ at. behind_parenthesis E P at) (bare_prefix E Z L P)

  unfoldable pub prefix : Syntax PlainToken Form → Syntax PlainToken FormZone → Syntax PlainToken (Spanned Form) → Syntax PlainToken (Spanned Form)
  prefix E Z L = knot {S = Unit {0}} (λ P u. prefix_of E Z L (P u)) tt

  -- ---- operators, from the one that binds closest; R stands for their operands

  -- an operator of the table with its right operand, after the left one
  unfoldable pub joined_once : List (ℕ × FormulaOperator) → Syntax PlainToken (Spanned Form) → Form → Syntax PlainToken (Spanned Form)
  joined_once table R left = one (placed (mark_entry table)) then λ o. R then λ right. gives (joined_forms o left right.0, right.1)

  -- operators of the table with their right operands, after the left one
  unfoldable pub joined_more : List (ℕ × FormulaOperator) → Syntax PlainToken (Spanned Form) → Spanned Form → Syntax PlainToken (Spanned Form)
  joined_more table R left = many (formula_kind ws) (unended_kinds (kinds_of table)) (unended_only (joined_once table R)) left

  -- operands joined from the left by operators of the table
  unfoldable pub joined : List (ℕ × FormulaOperator) → Syntax PlainToken (Spanned Form) → Syntax PlainToken (Spanned Form)
  joined table R = R then λ left. joined_more table R left

  abbrev pub product : Syntax PlainToken Form → Syntax PlainToken FormZone → Syntax PlainToken (Spanned Form) → Syntax PlainToken (Spanned Form)
  product E Z L = joined product_operators (prefix E Z L)

  -- ---- sums in the mode of a zone

  -- the rest of a right operand of the `+` at this place that begins with this form
  unfoldable pub added_rest : Syntax PlainToken Form → Syntax PlainToken FormZone → Syntax PlainToken (Spanned Form) → Form → Place → Spanned Form
      → Syntax PlainToken (Spanned Form)
  added_rest E Z L left at x = joined_more product_operators (prefix E Z L) x then λ y. gives (Binary at Add left y.0, y.1)

  -- ".." form ")", after the form that begins a range
  unfoldable pub ranged : Syntax PlainToken Form → Form → Place → Form → Syntax PlainToken (Spanned Form)
  ranged E left at lo = mark ws dots then λ _. E then λ hi. closed ws (left, Some (ByRange at lo hi))

  -- what stands behind the form after "+" "(": a range, or the rest of an operand
  unfoldable pub behind_first : Syntax PlainToken Form → Syntax PlainToken FormZone → Syntax PlainToken (Spanned Form) → Form → Place → Form
      → Syntax PlainToken (Spanned Form)
  behind_first E Z L left at x =
      choice (formula_kind ws) (mark_kind dots ∷ []) (ranged E left at x) (closed_postfix E x then λ y. added_rest E Z L left at (y, None))

  -- what stands after "+" "(", where the `(` stands at the second place
  unfoldable pub added_parenthesis : Syntax PlainToken Form → Syntax PlainToken FormZone → Syntax PlainToken (Spanned Form) → Form → Place → Place
      → Syntax PlainToken (Spanned Form)
  added_parenthesis E Z L left at paren =
      choice (formula_kind ws) first_type (cast_to_type (prefix E Z L) paren then λ x. added_rest E Z L left at x)
      (choice (formula_kind ws) (integer_kind ∷ []) (cast_to_integer (prefix E Z L) paren then λ x. added_rest E Z L left at x)
      (E then λ x. behind_first E Z L left at x))

  -- what stands after "+"
  unfoldable pub added : Syntax PlainToken Form → Syntax PlainToken FormZone → Syntax PlainToken (Spanned Form) → Form → Place
      → Syntax PlainToken (Spanned Form)
  added E Z L left at =
      choice (formula_kind ws) (mark_kind left_paren ∷ []) (mark ws left_paren then λ paren. added_parenthesis E Z L left at paren)
      (bare_prefix E Z L (prefix E Z L) then λ x. added_rest E Z L left at x)

  -- "+" or "-" with its right operand, or a range, after the left operand
  unfoldable pub sum_once : Syntax PlainToken Form → Syntax PlainToken FormZone → Syntax PlainToken (Spanned Form) → Form → Syntax PlainToken (Spanned Form)
  sum_once E Z L left =
      choice (formula_kind ws) (mark_kind plus ∷ []) (mark ws plus then λ at. added E Z L left at) (joined_once difference_operators (product E Z L) left)

  unfoldable pub sum_more : Syntax PlainToken Form → Syntax PlainToken FormZone → Syntax PlainToken (Spanned Form) → Spanned Form
      → Syntax PlainToken (Spanned Form)
  sum_more E Z L left = many (formula_kind ws) (unended_kinds (kinds_of sum_operators)) (unended_only (sum_once E Z L)) left

  unfoldable pub zone_sum : Syntax PlainToken Form → Syntax PlainToken FormZone → Syntax PlainToken (Spanned Form) → Syntax PlainToken (Spanned Form)
  zone_sum E Z L = product E Z L then λ left. sum_more E Z L left

  -- ---- chains

  -- a relation, the operand R after it, and those that go on with them; L stands for what goes on
  unfoldable pub linked : Syntax PlainToken (Spanned Form) → (ChainDirection → Syntax PlainToken (Spanned FormLinks)) → ChainDirection
      → Syntax PlainToken (Spanned FormLinks)
  linked R L d =
      one (placed (mark_entry (relations_behind d))) then λ r. R then λ x. unended (λ _. L (direction_behind d r.0)) (λ _. NoLink) x then λ links.
      gives (Linked r.1 r.0 x.0 links.0, links.1)

  unfoldable pub links_of : Syntax PlainToken (Spanned Form) → (ChainDirection → Syntax PlainToken (Spanned FormLinks)) → ChainDirection
      → Syntax PlainToken (Spanned FormLinks)
  links_of R L d = choice (formula_kind ws) (kinds_of (relations_behind d)) (linked R L d) (gives (NoLink, None))

  -- relations and their operands, after a chain that goes this way
  unfoldable pub links : Syntax PlainToken (Spanned Form) → ChainDirection → Syntax PlainToken (Spanned FormLinks)
  links R = knot (links_of R)

  -- the relations after an operand
  unfoldable pub chain_behind : Syntax PlainToken (Spanned Form) → Form → Syntax PlainToken (Spanned Form)
  chain_behind R x = links R Start then λ ls. gives (chained x ls.0, ls.1)

  -- an operand R with the relations after it
  unfoldable pub chain_of : Syntax PlainToken (Spanned Form) → Syntax PlainToken (Spanned Form)
  chain_of R = R then λ x. unended (chain_behind R) as_it_is x

  -- ---- implications and choices

  -- "==>" and the right operand I, after the left one
  unfoldable pub implied : Syntax PlainToken (Spanned Form) → Form → Syntax PlainToken (Spanned Form)
  implied I x = mark ws implies then λ at. I then λ y. gives (Connected at connective.Implies x y.0, y.1)

  unfoldable pub implication_behind : Syntax PlainToken (Spanned Form) → Form → Syntax PlainToken (Spanned Form)
  implication_behind I x = choice (formula_kind ws) (mark_kind implies ∷ []) (implied I x) (gives (x, None))

  unfoldable pub implication_of : Syntax PlainToken (Spanned Form) → Syntax PlainToken (Spanned Form) → Syntax PlainToken (Spanned Form)
  implication_of D I = D then λ x. unended (implication_behind I) as_it_is x

  -- "?" form ":" form, after the condition; L stands for its last part
  unfoldable pub chosen_behind : Syntax PlainToken Form → Syntax PlainToken (Spanned Form) → Form → Syntax PlainToken (Spanned Form)
  chosen_behind E L c = mark ws question then λ at. E then λ x. mark ws colon then λ _. L then λ y. gives (Choice at c x y.0, y.1)

  unfoldable pub choice_behind : Syntax PlainToken Form → Syntax PlainToken (Spanned Form) → Form → Syntax PlainToken (Spanned Form)
  choice_behind E L c = choice (formula_kind ws) (mark_kind question ∷ []) (chosen_behind E L c) (gives (c, None))

  -- ---- forms, level by level, in each mode

  abbrev pub sum : Levelled
  sum E Z L Alone = joined sum_operators (product E Z L)
  sum E Z L Zone = zone_sum E Z L

  abbrev pub shift : Levelled
  shift E Z L m = joined shift_operators (sum E Z L m)

  abbrev pub chain : Levelled
  chain E Z L m = chain_of (shift E Z L m)

  abbrev pub bit_and : Levelled
  bit_and E Z L m = joined bit_and_operators (chain E Z L m)

  abbrev pub bit_xor : Levelled
  bit_xor E Z L m = joined bit_xor_operators (bit_and E Z L m)

  abbrev pub bit_or : Levelled
  bit_or E Z L m = joined bit_or_operators (bit_xor E Z L m)

  abbrev pub conjunction : Levelled
  conjunction E Z L m = joined conjunction_operators (bit_or E Z L m)

  abbrev pub exclusion : Levelled
  exclusion E Z L m = joined exclusion_operators (conjunction E Z L m)

  abbrev pub disjunction : Levelled
  disjunction E Z L m = joined disjunction_operators (exclusion E Z L m)

  unfoldable pub implication : Levelled
  implication E Z L m = knot {S = Unit {0}} (λ I u. implication_of (disjunction E Z L m) (I u)) tt

  abbrev pub equivalence : Levelled
  equivalence E Z L m = joined equivalence_operators (implication E Z L m)

  unfoldable pub form_of : (FormulaMode → Syntax PlainToken (Spanned Form)) → FormulaMode → Syntax PlainToken (Spanned Form)
  form_of F m = equivalence (whole F) (zone F) (F m) m then λ c. unended (choice_behind (whole F) (F m)) as_it_is c

  unfoldable pub forms : FormulaMode → Syntax PlainToken (Spanned Form)
  forms = knot form_of

  abbrev pub form : Syntax PlainToken Form
  form = whole forms
