-- The productions of forms as the head of c_model/specs/AnnotationGrammar has them (ACSL 2.2, 2.4.3, 2.7), in its order. What a production
-- is made of are the values that are parsed. Each comes with what ends it: nothing goes on behind a form that a quantifier ends.
use Rattle.std.specs.Prelude.{ℕ, List, [], ◌∷◌, ◌++◌, Some, None}
use Rattle.grammar.specs.Syntax.{Syntax, gives, one, ◌then◌, knot}
use Rattle.grammar_laws.specs.Plain.{◌or◌, repeated}
use Rattle.c_syntax.specs.declared.place.Place.{Place}
use Rattle.c_syntax.specs.declared.annotation.Relation.{Relation}
use Rattle.c_syntax.specs.declared.annotation.Relation.TheVariants as relation
use Rattle.c_syntax.specs.declared.logic.Connective.TheVariants as connective
use Rattle.c_syntax.specs.Formulas.{CastType, Integers, OfC, Form, Number, Letter, Truth, Name, Unary, Cast, SizeOf, Connected, Choice, FormLinks, NoLink}
use Rattle.c_syntax.specs.Formulas.{Linked, Null, Index, Dot, Arrow, Told, Asks, Separated, Result, Old, At, Quantified, FormZone, Elements}
use Rattle.c_syntax.specs.Tokens.{PlainToken}
use Rattle.c_model.specs.declared.formulas.FormulaMode.TheVariants.{Alone}
use Rattle.c_model.specs.declared.formulas.FormulaOperator.{FormulaOperator}
use Rattle.c_model.specs.declared.vocabulary.Keyword.TheVariants as keyword
use Rattle.c_model.specs.Vocabulary.{Vocabulary}
use Rattle.c_model.specs.Punctuators.{less, less_equal, greater, greater_equal, equal, not_equal, question, colon, left_paren, right_paren}
use Rattle.c_model.specs.Punctuators.{implies, plus, comma, semicolon, dot, arrow, dots, left_bracket, right_bracket}
use Rattle.c_model.specs.Terminals.{placed, mark_entry}
use Rattle.c_model.specs.ExpressionGrammar.{number_of, letter_of, use_of, fixed, mark, reserved}
use Rattle.c_model.specs.ExpressionGrammar.{type_name, expression, null_kind, separated_kind, result_kind, old_kind, at_kind, any_name, integer_words}
use Rattle.c_model.specs.ExpressionGrammar.{enum_tag, typedef_name}
use Rattle.c_model.specs.AnnotationGrammar as parsed
use Rattle.c_model.specs.AnnotationGrammar.{prefix_operators, product_operators, sum_operators, shift_operators, bit_and_operators, bit_xor_operators}
use Rattle.c_model.specs.AnnotationGrammar.{bit_or_operators, conjunction_operators, exclusion_operators, disjunction_operators, equivalence_operators}
use Rattle.c_model.specs.AnnotationGrammar.{joined_forms, chained, formula_name_of, truth_of, integer_word}
use Rattle.c_model.specs.AnnotationGrammar.{Spanned, zone_of, zones_of, fact_of, question_of, quantifier_of, quantifier_end, unended, unended_only, as_it_is}

-- the relations of a chain that goes up, of one that goes down, and the one that stands alone
abbrev pub upward : List (ℕ × Relation)
upward = (less, relation.Lt) ∷ (less_equal, relation.Le) ∷ (equal, relation.Eq) ∷ []

abbrev pub downward : List (ℕ × Relation)
downward = (greater, relation.Gt) ∷ (greater_equal, relation.Ge) ∷ (equal, relation.Eq) ∷ []

abbrev pub unequal : List (ℕ × Relation)
unequal = (not_equal, relation.Ne) ∷ []

-- a relation and the form after it, before others
abbrev pub linked : Relation × Place × Form → FormLinks → FormLinks
linked l links = Linked l.1 l.0 l.2 links

-- { item }, where the value of each is put before those after it, and nothing goes on behind one that something ends
abbrev pub folded_open : {I A : Type 0} → Syntax PlainToken (Spanned I) → (I → A → A) → A → Syntax PlainToken (Spanned A)
folded_open {I} {A} item before end =
    knot {S = Unit {0}}
    (λ R u. (item then λ i. unended (λ (_ : I). R u) (λ _. end) i then λ rest. gives (before i.0 rest.0, rest.1)) or gives (end, None)) tt

module _ (ws : Vocabulary) where
  abbrev pub F : Syntax PlainToken Form
  F = parsed.form ws

  abbrev pub Z : Syntax PlainToken FormZone
  Z = parsed.zone ws (parsed.forms ws)

  -- a form, with what ends it
  abbrev pub L : Syntax PlainToken (Spanned Form)
  L = parsed.forms ws Alone

  -- what a level of operators reads where no range ends a form
  abbrev pub alone : parsed.Levelled → Syntax PlainToken (Spanned Form)
  alone level = level F Z L Alone

  -- R { operator R }, with the operators of a table
  abbrev pub joined_from_left : List (ℕ × FormulaOperator) → Syntax PlainToken (Spanned Form) → Syntax PlainToken (Spanned Form)
  joined_from_left table R =
      R then λ x. repeated (unended_only (λ left. one (placed (mark_entry table)) then λ o. R then λ right. gives (joined_forms o left right.0, right.1))) x

  -- relation shift
  abbrev pub link : List (ℕ × Relation) → Syntax PlainToken (Spanned (Relation × Place × Form))
  link table = one (placed (mark_entry table)) then λ r. alone (parsed.shift ws) then λ x. gives ((r.0, r.1, x.0), x.1)

  -- [ "?" form ":" form ], behind a form
  abbrev pub chosen : Form → Syntax PlainToken (Spanned Form)
  chosen c = (mark ws question then λ at. F then λ x. mark ws colon then λ _. L then λ y. gives (Choice at c x y.0, y.1)) or gives (c, None)

  -- form = equivalence [ "?" form ":" form ]
  abbrev pub form : Syntax PlainToken (Spanned Form)
  form = alone (parsed.equivalence ws) then λ c. unended chosen as_it_is c

  -- equivalence = implication { "<==>" implication }
  abbrev pub equivalence : Syntax PlainToken (Spanned Form)
  equivalence = joined_from_left equivalence_operators (alone (parsed.implication ws))

  -- [ "==>" implication ], behind a form
  abbrev pub implied : Form → Syntax PlainToken (Spanned Form)
  implied x = (mark ws implies then λ at. alone (parsed.implication ws) then λ y. gives (Connected at connective.Implies x y.0, y.1)) or gives (x, None)

  -- implication = disjunction [ "==>" implication ]
  abbrev pub implication : Syntax PlainToken (Spanned Form)
  implication = alone (parsed.disjunction ws) then λ x. unended implied as_it_is x

  -- disjunction = exclusion { "||" exclusion }
  abbrev pub disjunction : Syntax PlainToken (Spanned Form)
  disjunction = joined_from_left disjunction_operators (alone (parsed.exclusion ws))

  -- exclusion = conjunction { "^^" conjunction }
  abbrev pub exclusion : Syntax PlainToken (Spanned Form)
  exclusion = joined_from_left exclusion_operators (alone (parsed.conjunction ws))

  -- conjunction = bit-or { "&&" bit-or }
  abbrev pub conjunction : Syntax PlainToken (Spanned Form)
  conjunction = joined_from_left conjunction_operators (alone (parsed.bit_or ws))

  -- bit-or = bit-xor { "|" bit-xor }
  abbrev pub bit_or : Syntax PlainToken (Spanned Form)
  bit_or = joined_from_left bit_or_operators (alone (parsed.bit_xor ws))

  -- bit-xor = bit-and { "^" bit-and }
  abbrev pub bit_xor : Syntax PlainToken (Spanned Form)
  bit_xor = joined_from_left bit_xor_operators (alone (parsed.bit_and ws))

  -- bit-and = chain { "&" chain }
  abbrev pub bit_and : Syntax PlainToken (Spanned Form)
  bit_and = joined_from_left bit_and_operators (alone (parsed.chain ws))

  -- { relation shift }, behind a form, with the relations of a table
  abbrev pub one_way : List (ℕ × Relation) → Form → Syntax PlainToken (Spanned Form)
  one_way table x = folded_open (link table) linked NoLink then λ links. gives (chained x links.0, links.1)

  -- "!=" shift, as the only relation
  abbrev pub one_link : Syntax PlainToken (Spanned FormLinks)
  one_link = link unequal then λ l. gives (linked l.0 NoLink, l.1)

  -- "!=" shift, behind a form
  abbrev pub apart : Form → Syntax PlainToken (Spanned Form)
  apart x = one_link then λ links. gives (chained x links.0, links.1)

  -- chain = shift { ( "<" | "<=" | "==" ) shift } | shift { ( ">" | ">=" | "==" ) shift } | shift "!=" shift
  abbrev pub chain : Syntax PlainToken (Spanned Form)
  chain =
      (alone (parsed.shift ws) then λ x. unended (one_way upward) as_it_is x) or (alone (parsed.shift ws) then λ x. unended (one_way downward) as_it_is x)
      or (alone (parsed.shift ws) then λ x. unended_only apart x)

  -- shift = sum { ( "<<" | ">>" ) sum }
  abbrev pub shift : Syntax PlainToken (Spanned Form)
  shift = joined_from_left shift_operators (alone (parsed.sum ws))

  -- sum = product { ( "+" | "-" ) product }
  abbrev pub sum : Syntax PlainToken (Spanned Form)
  sum = joined_from_left sum_operators (parsed.product ws F Z L)

  -- product = prefix { ( "*" | "/" | "%" ) prefix }
  abbrev pub product : Syntax PlainToken (Spanned Form)
  product = joined_from_left product_operators (parsed.prefix ws F Z L)

  -- type | "integer"
  abbrev pub cast_type : Syntax PlainToken CastType
  cast_type = (type_name ws (expression ws) then λ t. gives (OfC t)) or (integer_word ws then λ _. gives Integers)

  -- primary = NAME | NUMBER | CHAR | "\true" | "\false" | "\null" | "\result" | "(" form ")"
  --         | ( "\base_addr" | "\block_length" | "\offset" ) "(" form ")"
  --         | ( "\valid" | "\valid_read" | "\initialized" ) "(" zone ")" | "\separated" "(" zone "," zone { "," zone } ")"
  --         | "\old" "(" form ")" | "\at" "(" form "," NAME ")"
  abbrev pub primary : Syntax PlainToken Form
  primary =
      (one (placed (formula_name_of ws)) then λ x. gives (Name x.1 (use_of x.0)))
      or (one (placed number_of) then λ n. gives (Number n.1 n.0.0))
      or (one (placed letter_of) then λ z. gives (Letter z.1 z.0))
      or (one (placed (truth_of ws)) then λ b. gives (Truth b.1 b.0))
      or (fixed ws null_kind then λ at. gives (Null at))
      or (fixed ws result_kind then λ at. gives (Result at))
      or (mark ws left_paren then λ _. F then λ x. mark ws right_paren then λ _. gives x)
      or (one (placed (fact_of ws)) then λ f. mark ws left_paren then λ _. F then λ x. mark ws right_paren then λ _. gives (Told f.1 f.0 x))
      or (one (placed (question_of ws)) then λ q. mark ws left_paren then λ _. Z then λ z. mark ws right_paren then λ _. gives (Asks q.1 q.0 z))
      or (fixed ws separated_kind then λ at. mark ws left_paren then λ _. Z then λ y. next_zone (y ∷ []) then λ ys. repeated next_zone ys then λ zs.
      mark ws right_paren then λ _. gives (Separated at (zones_of zs)))
      or (fixed ws old_kind then λ at. mark ws left_paren then λ _. F then λ x. mark ws right_paren then λ _. gives (Old at x))
      or (fixed ws at_kind then λ at. mark ws left_paren then λ _. F then λ x. mark ws comma then λ _. one (placed (formula_name_of ws)) then λ l.
      mark ws right_paren then λ _. gives (At at x l.1 l.0))
    where
      next_zone : List FormZone → Syntax PlainToken (List FormZone)
      next_zone zs = mark ws comma then λ _. Z then λ z. gives (zs ++ z ∷ [])

  -- postfix = primary { "[" form "]" | "." ANYNAME | "->" ANYNAME }
  abbrev pub postfix : Syntax PlainToken Form
  postfix =
      primary then λ x. repeated (λ y.
      (mark ws left_bracket then λ at. F then λ i. mark ws right_bracket then λ _. gives (Index at y i))
      or (mark ws dot then λ at. any_name ws then λ m. gives (Dot at y m.0))
      or (mark ws arrow then λ at. any_name ws then λ m. gives (Arrow at y m.0))) x

  -- integer words in any order | "enum" ANYNAME | TYPENAME | "integer"
  abbrev pub values : Syntax PlainToken CastType
  values =
      (integer_words ws then λ t. gives (OfC t)) or (enum_tag ws then λ t. gives (OfC t)) or (typedef_name ws then λ t. gives (OfC t))
      or (integer_word ws then λ _. gives Integers)

  -- NAME { "," NAME }
  abbrev pub names : Syntax PlainToken (List (Place × ℕ))
  names = name then λ x. repeated (λ xs. mark ws comma then λ _. name then λ y. gives (xs ++ y ∷ [])) (x ∷ [])
    where
      name : Syntax PlainToken (Place × ℕ)
      name = one (placed (formula_name_of ws)) then λ x. gives (x.1, x.0)

  -- quantified = ( "\forall" | "\exists" ) values NAME { "," NAME } ";" form
  abbrev pub quantified : Syntax PlainToken (Spanned Form)
  quantified =
      one (placed (quantifier_of ws)) then λ q. values then λ t. names then λ xs. mark ws semicolon then λ _. L then λ x.
      gives (Quantified q.1 q.0 t xs x.0, Some (quantifier_end x.1))

  -- prefix = ( "+" | "-" | "!" | "~" | "*" | "&" ) prefix | "(" ( type | "integer" ) ")" prefix | "sizeof" "(" type ")" | quantified | postfix
  abbrev pub prefix : Syntax PlainToken (Spanned Form)
  prefix =
      (one (placed (mark_entry prefix_operators)) then λ o. parsed.prefix ws F Z L then λ x. gives (Unary o.1 o.0 x.0, x.1))
      or (mark ws left_paren then λ at. cast_type then λ t. mark ws right_paren then λ _. parsed.prefix ws F Z L then λ x. gives (Cast at t x.0, x.1))
      or (reserved ws keyword.Sizeof then λ at. mark ws left_paren then λ _. type_name ws (expression ws) then λ t. mark ws right_paren then λ _.
      gives (SizeOf at t, None))
      or quantified or (postfix then λ x. gives (x, None))

  -- zone = form [ "+" "(" form ".." form ")" ]
  abbrev pub zone : Syntax PlainToken FormZone
  zone =
      L then λ x.
      (mark ws plus then λ at. mark ws left_paren then λ _. F then λ lo. mark ws dots then λ _. F then λ hi. mark ws right_paren then λ _.
      gives (Elements at x.0 lo hi))
      or gives (zone_of x)
