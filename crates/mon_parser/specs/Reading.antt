-- Ours: productions of monitored C (mon_syntax/specs/Grammar), cut as the code reads them.
use Rattle.std.specs.Prelude.{ℕ, ◌-◌, ℤ, neg_ℤ, Bool, List, [], ◌∷◌, ◌++◌, map, Option, Some, option_map, if◌then◌else◌}
use Rattle.grammar.specs.Syntax.{Syntax, gives, one, ◌then◌, choice, many}
use Rattle.c_syntax.specs.declared.place.Place.{Place}
use Rattle.c_syntax.specs.Tokens.{PlainToken}
use Rattle.c_model.specs.Punctuators.{comma, assign, colon, semicolon, minus, tilde, times, left_paren, right_paren, left_brace, right_brace}
use Rattle.c_model.specs.Terminals.{placed}
use Rattle.mon_syntax.specs.declared.tree.MonType.{MonType}
use Rattle.mon_syntax.specs.declared.tree.MonOp.{MonOp}
use Rattle.mon_syntax.specs.Parsed.{NameUse, ParsedExpression, Constant, Binary, Cast, Load, ParsedArgument, Value, Text, ParsedStatement}
use Rattle.mon_syntax.specs.Parsed.{Store, Call, If, Labelled, ParsedStatements, ParsedRegister, ParsedFunction, ParsedGlobal, ParsedProgram}
use Rattle.mon_syntax.specs.Grammar.{Vocabulary, InBody, LoopRead, nothing_read, parsed_list, type_kind, static_kind, else_kind, mark_kind}
use Rattle.mon_syntax.specs.Grammar.{kind, first_statement, first_function}
use Rattle.mon_syntax.specs.Grammar.{fixed, mark, number_of, text_of, is_number, name, signed_number, plain_operand, second_operand, expression}
use Rattle.mon_syntax.specs.Grammar.{next_argument, call_of, ended, behind_name, one_more, body, one_more_in_loop, loop_end, statement_in, most_nested}
use Rattle.mon_syntax.specs.Grammar.{expression_in, opened, behind_opened, behind_two, negation, complement, load, store_mark}
use Rattle.mon_syntax.specs.Grammar.{register, parameter, next_parameter, parameters, function_body, one_more_function}
use Rattle.mon_syntax.specs.Grammar.{length_of_global, one_more_global, is_head}
use Rattle.mon_parser.specs.declared.statement.LoopRead as code_loop
use Rattle.mon_parser.specs.ParsedTrees.{plain_stmt}

abbrev pub plain_loop : code_loop.LoopRead → LoopRead
plain_loop x = record { before = map plain_stmt x.before.items; behind = option_map (λ v. map plain_stmt v.items) x.behind }

module _ (ws : Vocabulary) where
  -- ---- repetitions, after what is read

  unfoldable pub more_arguments : List ParsedArgument → Syntax PlainToken (List ParsedArgument)
  more_arguments xs = many (kind ws) (λ _. mark_kind comma ∷ []) (next_argument ws) xs

  unfoldable pub more_statements : InBody ws → List ParsedStatement → Syntax PlainToken (List ParsedStatement)
  more_statements S xs = many (kind ws) (λ _. first_statement) (one_more ws S) xs

  unfoldable pub more_in_loop : InBody ws → LoopRead → Syntax PlainToken LoopRead
  more_in_loop S x = many (kind ws) (λ _. first_statement) (one_more_in_loop ws S) x

  unfoldable pub more_registers : List ParsedRegister → Syntax PlainToken (List ParsedRegister)
  more_registers rs = many (kind ws) (λ _. type_kind ∷ []) (register ws) rs

  unfoldable pub more_parameters : List ParsedRegister → Syntax PlainToken (List ParsedRegister)
  more_parameters ps = many (kind ws) (λ _. mark_kind comma ∷ []) (next_parameter ws) ps

  unfoldable pub more_functions : List ParsedFunction → Syntax PlainToken (List ParsedFunction)
  more_functions fs = many (kind ws) (λ _. first_function) (one_more_function ws) fs

  unfoldable pub more_globals : List ParsedGlobal → Syntax PlainToken (List ParsedGlobal)
  more_globals gs = many (kind ws) (λ _. static_kind ∷ []) (one_more_global ws) gs

  -- ---- the ends of productions, after what is read

  -- a number, after its sign where it has one
  unfoldable pub unsigned_number : Bool → Syntax PlainToken ℤ
  unsigned_number negative = one (placed number_of) then λ z. gives (if negative then neg_ℤ z.0 else z.0)

  -- ")", after an expression
  unfoldable pub closed : ParsedExpression → Syntax PlainToken ParsedExpression
  closed e = mark ws right_paren then λ _. gives e

  -- an operation after its operator
  unfoldable pub right_operand : Syntax PlainToken ParsedExpression → ParsedExpression → Place → MonOp → Syntax PlainToken ParsedExpression
  right_operand E left at op = E then λ right. closed (Binary at op left right)

  -- a constant after its parenthesis
  unfoldable pub constant_value : Place → MonType → Syntax PlainToken ParsedExpression
  constant_value at t = signed_number ws then λ z. closed (Constant at t z)

  -- a cast after its type and parenthesis
  unfoldable pub cast_operand : Syntax PlainToken ParsedExpression → Place → MonType → Syntax PlainToken ParsedExpression
  cast_operand E at t = E then λ e. closed (Cast at t e)

  -- a load after its type and parenthesis
  unfoldable pub load_operand : Syntax PlainToken ParsedExpression → Place → MonType → Syntax PlainToken ParsedExpression
  load_operand E at t = E then λ e. closed (Load at t e)

  -- an operation whose first operand begins with no parenthesis
  unfoldable pub plain_operation : Syntax PlainToken Place → Syntax PlainToken ParsedExpression → Syntax PlainToken ParsedExpression
  plain_operation O E = plain_operand ws O then λ left. second_operand ws E left

  -- what stands after a parenthesis, up to its end, where so many more may be opened
  unfoldable pub behind_in_parts : ℕ → Syntax PlainToken ParsedExpression
  behind_in_parts n =
      choice (kind ws) (mark_kind minus ∷ []) (negation ws (expression_in ws n))
      (choice (kind ws) (mark_kind tilde ∷ []) (complement ws (expression_in ws n))
      (choice (kind ws) (mark_kind times ∷ []) (load ws (opened ws n) (expression_in ws n))
      (choice (kind ws) (mark_kind left_paren ∷ []) (opened ws n then λ at. behind_two ws (expression_in ws n) (behind_opened ws n) at)
      (plain_operation (opened ws n) (expression_in ws n)))))

  unfoldable pub text_argument : Syntax PlainToken ParsedArgument
  text_argument = one (placed text_of) then λ t. gives (Text t.1 t.0)

  unfoldable pub value_argument : Syntax PlainToken ParsedArgument
  value_argument = expression ws then λ e. gives (Value e)

  -- a call whose value isn't taken, after its name
  unfoldable pub call_statement : Bool → NameUse → Syntax PlainToken ParsedStatement
  call_statement some f = call_of ws some f then λ c. ended ws (Call c)

  -- an assignment or a call
  unfoldable pub named_statement : Bool → Syntax PlainToken ParsedStatement
  named_statement no_step = name ws then λ x. behind_name ws no_step x

  -- a store after its value
  unfoldable pub store_end : MonType → NameUse → ParsedStatement → Syntax PlainToken ParsedStatement
  store_end t x a = mark ws semicolon then λ _. store_mark ws t x a

  -- a store after its `=`
  unfoldable pub stored_value : MonType → NameUse → Place → Syntax PlainToken ParsedStatement
  stored_value t x at = expression ws then λ e. store_end t x (Store t x at e)

  -- a selection after `if (`
  unfoldable pub condition : InBody ws → Syntax PlainToken ParsedStatement
  condition S = expression ws then λ e. mark ws right_paren then λ _. body ws S then λ a. fixed ws else_kind then λ _. body ws S then λ b. gives (If e a b)

  -- its bodies
  unfoldable pub branches : InBody ws → ParsedExpression → Syntax PlainToken ParsedStatement
  branches S e = body ws S then λ a. fixed ws else_kind then λ _. body ws S then λ b. gives (If e a b)

  -- the second of them
  unfoldable pub second_branch : InBody ws → ParsedExpression → ParsedStatements → Syntax PlainToken ParsedStatement
  second_branch S e a = body ws S then λ b. gives (If e a b)

  -- a loop after `while (`
  unfoldable pub forever : InBody ws → Syntax PlainToken ParsedStatement
  forever S =
      one (placed (is_number 1)) then λ _. mark ws right_paren then λ _. mark ws left_brace then λ _.
      more_in_loop S nothing_read then λ x. loop_end ws x

  -- its body
  unfoldable pub loop_body : InBody ws → Syntax PlainToken ParsedStatement
  loop_body S = mark ws left_brace then λ _. more_in_loop S nothing_read then λ x. loop_end ws x

  -- a label after its body
  unfoldable pub label_behind : ParsedStatements → Syntax PlainToken ParsedStatement
  label_behind a = name ws then λ l. mark ws colon then λ _. ended ws (Labelled a l)

  -- ":" ";", after a labelled body
  unfoldable pub label_end : ParsedStatement → Syntax PlainToken ParsedStatement
  label_end a = mark ws colon then λ _. ended ws a

  -- a register after its type
  unfoldable pub named_register : List ParsedRegister → MonType → Syntax PlainToken (List ParsedRegister)
  named_register rs t = name ws then λ x. mark ws semicolon then λ _. gives (rs ++ record { kind = t; name = x } ∷ [])

  -- ";", after a register
  unfoldable pub register_end : List ParsedRegister → ParsedRegister → Syntax PlainToken (List ParsedRegister)
  register_end rs one = mark ws semicolon then λ _. gives (rs ++ one ∷ [])

  -- a parameter after its comma
  unfoldable pub one_more_parameter : List ParsedRegister → Syntax PlainToken (List ParsedRegister)
  one_more_parameter ps = parameter ws then λ p. gives (ps ++ p ∷ [])

  -- a function after its name
  unfoldable pub function_rest : Option MonType → NameUse → Syntax PlainToken ParsedFunction
  function_rest r f = mark ws left_paren then λ _. parameters ws then λ ps. mark ws right_paren then λ _. function_body ws r f ps

  -- its statements
  unfoldable pub function_statements : Option MonType → NameUse → List ParsedRegister → List ParsedRegister → Syntax PlainToken ParsedFunction
  function_statements r f ps rs =
      more_statements (statement_in ws (most_nested ws - 1)) [] then λ xs. mark ws right_brace then λ _.
      gives (record { result = r; name = f; parameters = ps; registers = rs; body = parsed_list xs })

  -- a function's body
  unfoldable pub body_in_parts : Option MonType → NameUse → List ParsedRegister → Syntax PlainToken ParsedFunction
  body_in_parts r f ps = mark ws left_brace then λ _. more_registers [] then λ rs. function_statements r f ps rs

  -- ---- globals and whole texts

  -- a literal after its number
  unfoldable pub literal_value : NameUse → ℤ → Place → Syntax PlainToken ParsedGlobal
  literal_value x n at =
      mark ws assign then λ _. one (placed text_of) then λ s. mark ws semicolon then λ _.
      gives (record { name = x; place = at; size = n; literal = Some s.0 })

  -- a literal after `const char`
  unfoldable pub named_literal : Syntax PlainToken ParsedGlobal
  named_literal = name ws then λ x. length_of_global ws then λ n. literal_value x n.0 n.1

  unfoldable pub text_in_parts : Syntax PlainToken ParsedProgram
  text_in_parts = one (is_head ws) then λ _. more_globals [] then λ gs. more_functions [] then λ fs. gives (record { globals = gs; functions = fs })
