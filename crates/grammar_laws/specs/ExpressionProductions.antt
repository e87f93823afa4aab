-- The productions of expressions as the head of c_model/specs/ExpressionGrammar has them (C99 6.5, 6.7.2, 6.7.6). What a production is made
-- of are the values that are parsed.
use Rattle.std.specs.Prelude.{◌+◌, List, [], ◌∷◌, ◌++◌, true, ℕ}
use Rattle.grammar.specs.Syntax.{Syntax, gives, one, ◌then◌}
use Rattle.grammar_laws.specs.Plain.{◌or◌, repeated}
use Rattle.c_syntax.specs.Ctypes.{PlainType, Void, Int, StructTag, EnumTag, Written}
use Rattle.c_syntax.specs.Expressions.{Assign, Bump, Call, Expression, Number, Letter, Text, Unary, Choice, Cast, SizeOfType, SizeOfExpr}
use Rattle.c_syntax.specs.Expressions.{Index, Dot, Arrow, Comma}
use Rattle.c_syntax.specs.declared.place.Place.{Place}
use Rattle.c_syntax.specs.Tokens.{PlainToken}
use Rattle.c_model.specs.declared.operands.Level.TheVariants.{Assignment, Conditional}
use Rattle.c_model.specs.declared.operands.Stars.{Stars}
use Rattle.c_model.specs.Vocabulary.{no_words, integer_type, Vocabulary}
use Rattle.c_model.specs.Punctuators.{times, comma, question, colon, left_paren, right_paren, dot, arrow, left_bracket, right_bracket}
use Rattle.c_model.specs.ExpressionGrammar.{assignment_operators, prefix_bumps, postfix_bumps, use_of, expressions, no_stars, declared_type, typedef_name_of}
use Rattle.c_model.specs.ExpressionGrammar.{ReadOperand, text_kind, number_of, letter_of, unary_operators, operators_at, levels, read_as, connective_kind}
use Rattle.c_model.specs.ExpressionGrammar.{read_operand, read_name, fixed, mark, reserved, name, any_name, type_name}
use Rattle.c_model.specs.declared.operands.Form.TheVariants as form
use Rattle.c_model.specs.declared.operands.TypeUse.TheVariants as type_use
use Rattle.c_model.specs.declared.vocabulary.Keyword.TheVariants as keyword
use Rattle.c_model.specs.Terminals.{placed, mark_entry}
use Rattle.c_model.specs.ExpressionGrammar as parsed

module _ (ws : Vocabulary) where
  -- ---- what is parsed

  abbrev expression : Syntax PlainToken Expression
  expression = parsed.expression ws

  abbrev pub parsed_assign : Syntax PlainToken Expression
  parsed_assign = parsed.expression_at ws Assignment

  abbrev pub parsed_cond : Syntax PlainToken Expression
  parsed_cond = parsed.expression_at ws Conditional

  abbrev pub parsed_cast : Syntax PlainToken ReadOperand
  parsed_cast = parsed.operand ws expression parsed_assign type_use.Casts

  abbrev pub parsed_unary : Syntax PlainToken ReadOperand
  parsed_unary = parsed.operand ws expression parsed_assign type_use.Nothing

  -- operands joined by the operators of the levels below this one
  abbrev pub parsed_level : ℕ → Syntax PlainToken Expression
  parsed_level l = parsed_cast then λ x. parsed.behind_operand ws expression parsed_assign l x.expression

  -- ---- productions

  -- comma = assign { "," assign }
  abbrev pub commas : Syntax PlainToken Expression
  commas = parsed_assign then λ x. repeated (λ left. mark ws comma then λ at. parsed_assign then λ right. gives (read_as at (Comma left right))) x

  -- assign = cond | unary assign-op assign
  abbrev pub assign : Syntax PlainToken Expression
  assign =
      parsed_cond
      or (parsed_unary then λ x. one (placed (mark_entry assignment_operators)) then λ o. parsed_assign then λ y.
      gives (read_as o.1 (Assign o.0 x.expression y)))

  -- cond = binary [ "?" comma ":" cond ]
  abbrev pub conditional : Syntax PlainToken Expression
  conditional =
      parsed_level levels then λ c.
      (mark ws question then λ at. expression then λ x. mark ws colon then λ _. parsed_cond then λ y. gives (read_as at (Choice c x y))) or gives c

  -- binary = cast, joined by operators, each level from the left
  abbrev pub level : ℕ → Syntax PlainToken Expression
  level l =
      parsed_level l then λ x.
      repeated (λ left. one (placed (mark_entry (operators_at l))) then λ o. parsed_level l then λ right.
      gives (read_as o.1 (connective_kind o.0 left right))) x

  -- cast = unary | "(" type ")" cast
  abbrev pub cast : Syntax PlainToken ReadOperand
  cast =
      parsed_unary
      or (mark ws left_paren then λ at. type_name ws expression then λ t. mark ws right_paren then λ _. parsed_cast then λ x.
      gives (read_operand (read_as at (Cast t x.expression)) form.Cast at))

  -- [ assign { "," assign } ]
  abbrev pub arguments : Syntax PlainToken (List Expression)
  arguments =
      (parsed_assign then λ e. repeated (λ es. mark ws comma then λ _. parsed_assign then λ f. gives (es ++ f ∷ [])) (e ∷ [])) or gives []

  -- primary = NAME | NUMBER | CHAR | STRING | "(" comma ")", with the place of its first token
  abbrev pub primary : Syntax PlainToken (Expression × Place)
  primary =
      (name ws then λ x. gives (read_name x, x.1)) or (one (placed number_of) then λ n. gives (read_as n.1 (Number n.0.0 n.0.1), n.1))
      or (one (placed letter_of) then λ z. gives (read_as z.1 (Letter z.0), z.1)) or (fixed ws text_kind then λ at. gives (read_as at (Text at.offset), at))
      or (mark ws left_paren then λ at. expression then λ e. mark ws right_paren then λ _. gives (e, at))

  -- NAME "(" [ assign { "," assign } ] ")", with the place of its first token
  abbrev pub call : Syntax PlainToken (Expression × Place)
  call =
      name ws then λ f. mark ws left_paren then λ at. arguments then λ es. mark ws right_paren then λ _.
      gives (read_as at (Call (use_of f.0) (expressions es)), f.1)

  -- "[" comma "]" | "." ANYNAME | "->" ANYNAME | "++" | "--"
  abbrev pub behind_primary : Expression → Syntax PlainToken Expression
  behind_primary x =
      (mark ws left_bracket then λ at. expression then λ i. mark ws right_bracket then λ _. gives (read_as at (Index x i)))
      or (mark ws dot then λ at. any_name ws then λ m. gives (read_as at (Dot x m.0)))
      or (mark ws arrow then λ at. any_name ws then λ m. gives (read_as at (Arrow x m.0)))
      or (one (placed (mark_entry postfix_bumps)) then λ o. gives (read_as o.1 (Bump o.0 x)))

  -- postfix = ( primary | call ) { "[" comma "]" | "." ANYNAME | "->" ANYNAME | "++" | "--" }
  abbrev pub postfix : Syntax PlainToken ReadOperand
  postfix = (primary or call) then λ p. repeated behind_primary p.0 then λ x. gives (read_operand x form.Postfix p.1)

  -- unary = postfix | ( "+" | "-" | "!" | "~" | "*" | "&" ) cast | ( "++" | "--" ) unary | "sizeof" unary | "sizeof" "(" type ")"
  abbrev pub unary : Syntax PlainToken ReadOperand
  unary =
      postfix
      or (one (placed (mark_entry unary_operators)) then λ o. parsed_cast then λ x.
      gives (read_operand (read_as o.1 (Unary o.0 x.expression)) form.Unary o.1))
      or (one (placed (mark_entry prefix_bumps)) then λ o. parsed_unary then λ x.
      gives (read_operand (read_as o.1 (Bump o.0 x.expression)) form.Unary o.1))
      or (reserved ws keyword.Sizeof then λ at. parsed_unary then λ x. gives (read_operand (read_as at (SizeOfExpr x.expression)) form.Unary at))
      or (reserved ws keyword.Sizeof then λ at. mark ws left_paren then λ _. type_name ws expression then λ t. mark ws right_paren then λ _.
      gives (read_operand (read_as at (SizeOfType t)) form.Unary at))

  -- ---- types

  -- { "const" }
  abbrev pub const_words : Syntax PlainToken (Unit {0})
  const_words = repeated (λ u. reserved ws keyword.Const then λ _. gives u) tt

  -- base = integer words in any order | "void" | TYPENAME | "struct" ANYNAME | "enum" ANYNAME
  abbrev pub base : Syntax PlainToken PlainType
  base =
      (parsed.integer_word ws no_words then λ x. repeated (parsed.integer_word ws) x then λ y. gives (Int (integer_type y)))
      or (reserved ws keyword.Void then λ _. gives Void) or (one (placed (typedef_name_of ws)) then λ t. gives t.0)
      or (reserved ws keyword.Struct then λ _. any_name ws then λ x. gives (StructTag x.0 x.1))
      or (reserved ws keyword.Enum then λ _. any_name ws then λ x. gives (EnumTag x.0 x.1))

  -- words = { "const" } base { "const" }
  abbrev pub words : Syntax PlainToken PlainType
  words = const_words then λ _. parsed.base ws then λ t. repeated (λ u. reserved ws keyword.Const then λ _. gives u) t

  -- { "*" { "const" } }
  abbrev pub stars : Syntax PlainToken Stars
  stars =
      repeated (λ s. (mark ws times then λ _. repeated (λ b. reserved ws keyword.Const then λ _. gives true) s.constant) then λ c.
      gives (record { count = s.count + 1; constant = c })) no_stars

  -- type = words { "*" { "const" } } { "[" comma "]" }
  abbrev pub type : Syntax PlainToken PlainType
  type =
      words then λ t. stars then λ s.
      repeated (λ ns. (mark ws left_bracket then λ _. expression then λ e. mark ws right_bracket then λ _. gives (Written e)) then λ n. gives (ns ++ n ∷ [])) []
      then λ ns. gives (declared_type t s ns)
