-- The productions of monitored C as the head of mon_syntax/specs/Grammar has them. What a production is made of are the values that are parsed;
-- S stands for a statement in a body.
use Rattle.std.specs.Prelude.{◌-◌, ℤ, neg_ℤ, List, [], ◌∷◌, ◌++◌, Some, None, Bool, false, ◌&&◌, cond}
use Rattle.grammar.specs.Syntax.{Syntax, none, gives, one, ◌then◌}
use Rattle.grammar_laws.specs.Plain.{◌or◌, repeated}
use Rattle.c_syntax.specs.declared.place.Place.{Place}
use Rattle.c_syntax.specs.Tokens.{PlainToken}
use Rattle.c_model.specs.Punctuators.{minus, times, assign, tilde, colon, semicolon, comma, left_paren, right_paren, left_brace, right_brace, left_bracket}
use Rattle.c_model.specs.Punctuators.{right_bracket}
use Rattle.c_model.specs.Terminals.{placed}
use Rattle.mon_syntax.specs.declared.tree.MonType.{MonType}
use Rattle.mon_syntax.specs.Parsed.{NameUse, ParsedExpression, Name, Constant, Binary, Minus, Flip, Cast, Load, ParsedArgument, Value, Number, Text}
use Rattle.mon_syntax.specs.Parsed.{ParsedCall, ParsedStatement, Set, Store, Take, Call, If, Labelled, Goto, Return, ParsedStatements, ParsedFunction}
use Rattle.mon_syntax.specs.Parsed.{ParsedGlobal, ParsedProgram, ParsedRegister}
use Rattle.mon_syntax.specs.Grammar.{Vocabulary, if_kind, else_kind, while_kind, goto_kind, return_kind, static_kind, const_kind, char_kind, void_kind}
use Rattle.mon_syntax.specs.Grammar.{word_at, number_of, text_of, constant_of, type_of, operator_of, is_number, parsed_list, LoopRead, nothing_read, has_step}
use Rattle.mon_syntax.specs.Grammar.{with_statement, is_step_word, fixed, mark, name, InBody, statement_in, most_nested, loop_end, is_head, initialize_kind}
use Rattle.mon_syntax.specs.Grammar.{initialize_pointer_kind, is_same_name}
use Rattle.mon_syntax.specs.Arithmetic.{byte_count, is_pointer}
use Rattle.mon_syntax.specs.Grammar as parsed

module _ (ws : Vocabulary) where
  abbrev type : Syntax PlainToken (MonType × Place)
  type = one (placed (type_of ws))

  abbrev Open : Syntax PlainToken Place
  Open = mark ws left_paren

  abbrev Close : Syntax PlainToken Place
  Close = mark ws right_paren

  -- ---- expressions; E stands for an expression inside another, and O for a parenthesis inside another

  -- [ "-" ] NUMBER
  abbrev pub signed_number : Syntax PlainToken ℤ
  signed_number = (mark ws minus then λ _. one (placed number_of) then λ z. gives (neg_ℤ z.0)) or (one (placed number_of) then λ z. gives z.0)

  -- CONSTANT "(" [ "-" ] NUMBER ")", after O for "("
  abbrev pub constant : Syntax PlainToken Place → Syntax PlainToken ParsedExpression
  constant O = one (placed (constant_of ws)) then λ t. O then λ _. signed_number then λ z. Close then λ _. gives (Constant t.1 t.0 z)

  -- "(" expr operator expr ")"
  abbrev pub binary : Syntax PlainToken ParsedExpression → Syntax PlainToken ParsedExpression
  binary E = Open then λ _. E then λ left. one (placed operator_of) then λ op. E then λ right. Close then λ _. gives (Binary op.1 op.0 left right)

  -- "(" "-" expr ")"
  abbrev pub negation : Syntax PlainToken ParsedExpression → Syntax PlainToken ParsedExpression
  negation E = Open then λ _. mark ws minus then λ at. E then λ e. Close then λ _. gives (Minus at e)

  -- "(" "~" expr ")"
  abbrev pub complement : Syntax PlainToken ParsedExpression → Syntax PlainToken ParsedExpression
  complement E = Open then λ _. mark ws tilde then λ at. E then λ e. Close then λ _. gives (Flip at e)

  -- "(" "(" type ")" expr ")"
  abbrev pub cast : Syntax PlainToken Place → Syntax PlainToken ParsedExpression → Syntax PlainToken ParsedExpression
  cast O E = Open then λ _. O then λ at. type then λ t. Close then λ _. E then λ e. Close then λ _. gives (Cast at t.0 e)

  -- type "*" ")"
  abbrev pub pointed_type : Syntax PlainToken MonType
  pointed_type = type then λ t. mark ws times then λ _. Close then λ _. gives t.0

  -- "(" "*" "(" type "*" ")" expr ")"
  abbrev pub load : Syntax PlainToken Place → Syntax PlainToken ParsedExpression → Syntax PlainToken ParsedExpression
  load O E = Open then λ _. mark ws times then λ at. O then λ _. pointed_type then λ t. E then λ e. Close then λ _. gives (Load at t e)

  -- expr
  abbrev pub expr : Syntax PlainToken Place → Syntax PlainToken ParsedExpression → Syntax PlainToken ParsedExpression
  expr O E =
      (name ws then λ x. gives (Name x)) or constant Open or binary E or negation E or complement E or cast O E or load O E

  -- expr, where O stands for each parenthesis, and nothing after it
  abbrev pub least_expr : Syntax PlainToken Place → Syntax PlainToken ParsedExpression
  least_expr O = (name ws then λ x. gives (Name x)) or constant O or (O then λ _. none)

  -- ---- calls

  -- argument = expr | NUMBER | STRING
  abbrev pub argument : Syntax PlainToken ParsedArgument
  argument =
      (parsed.expression ws then λ e. gives (Value e)) or (one (placed number_of) then λ z. gives (Number z.1 z.0))
      or (one (placed text_of) then λ s. gives (Text s.1 s.0))

  -- argument { "," argument }
  abbrev pub some_arguments : Syntax PlainToken (List ParsedArgument)
  some_arguments =
      parsed.argument ws then λ x. repeated (λ xs. mark ws comma then λ _. parsed.argument ws then λ y. gives (xs ++ y ∷ [])) (x ∷ [])

  -- call = NAME "(" [ argument { "," argument } ] ")", after its name, with an argument at least where it is asked for
  abbrev pub call : Bool → NameUse → Syntax PlainToken ParsedCall
  call some f =
      Open then λ at. cond some some_arguments (some_arguments or gives []) then λ xs. Close then λ _.
      gives (record { callee = f; place = at; arguments = xs })

  -- ---- statements

  -- NAME "=" expr ";" | NAME "=" call ";"
  abbrev pub set : Syntax PlainToken ParsedStatement
  set =
      (name ws then λ x. mark ws assign then λ at. parsed.expression ws then λ e. mark ws semicolon then λ _. gives (Set x at e))
      or (name ws then λ x. mark ws assign then λ at. name ws then λ f. parsed.call_of ws false f then λ c. mark ws semicolon then λ _. gives (Take x at c))

  -- call ";", which is no `__e_acsl_step();` where it may be none
  abbrev pub called : Bool → Syntax PlainToken ParsedStatement
  called no_step =
      name ws then λ f. parsed.call_of ws (no_step && is_step_word (word_at ws f.number)) f then λ c. mark ws semicolon then λ _. gives (Call c)

  -- mark = "__e_acsl_initialize" "(" NAME "," NUMBER ")" ";" | "__e_acsl_initialize_ptr" "(" NAME ")" ";", of the register of the store
  -- of a type, with its size, and the second one exactly for ptr
  abbrev pub store_mark : MonType → NameUse → ParsedStatement → Syntax PlainToken ParsedStatement
  store_mark t x a =
      cond (is_pointer t) none
      (fixed ws initialize_kind then λ _. Open then λ _. one (placed (is_same_name x.number)) then λ _. mark ws comma then λ _.
      one (placed (is_number (byte_count t))) then λ _. Close then λ _. mark ws semicolon then λ _. gives a)
      or cond (is_pointer t)
      (fixed ws initialize_pointer_kind then λ _. Open then λ _. one (placed (is_same_name x.number)) then λ _. Close then λ _.
      mark ws semicolon then λ _. gives a) none

  -- "*" "(" type "*" ")" NAME "=" expr ";" mark
  abbrev pub store : Syntax PlainToken ParsedStatement
  store =
      mark ws times then λ _. Open then λ _. pointed_type then λ t. name ws then λ x. mark ws assign then λ at. parsed.expression ws then λ e.
      mark ws semicolon then λ _. store_mark t x (Store t x at e)

  -- body = "{" { statement } "}"
  abbrev pub body : InBody ws → Syntax PlainToken ParsedStatements
  body S =
      mark ws left_brace then λ _. repeated (λ xs. S false then λ a. gives (xs ++ a ∷ [])) [] then λ xs. mark ws right_brace then λ _. gives (parsed_list xs)

  -- "if" "(" expr ")" body "else" body
  abbrev pub selection : InBody ws → Syntax PlainToken ParsedStatement
  selection S =
      fixed ws if_kind then λ _. Open then λ _. parsed.expression ws then λ e. Close then λ _. body S then λ a. fixed ws else_kind then λ _. body S then λ b.
      gives (If e a b)

  -- "while" "(" "1" ")" body, whose statements are those before its step and those after it
  abbrev pub iteration : InBody ws → Syntax PlainToken ParsedStatement
  iteration S =
      fixed ws while_kind then λ _. Open then λ _. one (placed (is_number 1)) then λ _. Close then λ _. mark ws left_brace then λ _.
      repeated (λ x. S (has_step x) then λ a. gives (with_statement ws x a)) nothing_read then λ x. loop_end ws x

  -- body NAME ":" ";"
  abbrev pub labelled : InBody ws → Syntax PlainToken ParsedStatement
  labelled S = body S then λ a. name ws then λ l. mark ws colon then λ _. mark ws semicolon then λ _. gives (Labelled a l)

  -- "goto" NAME ";"
  abbrev pub jump : Syntax PlainToken ParsedStatement
  jump = fixed ws goto_kind then λ _. name ws then λ l. mark ws semicolon then λ _. gives (Goto l)

  -- "return" [ expr ] ";"
  abbrev pub return_statement : Syntax PlainToken ParsedStatement
  return_statement =
      fixed ws return_kind then λ at. ((parsed.expression ws then λ e. gives (Some e)) or gives None) then λ e. mark ws semicolon then λ _.
      gives (Return at e)

  -- statement
  abbrev pub statement : InBody ws → InBody ws
  statement S no_step =
      set or called no_step or store or selection S or iteration S or labelled S or jump or return_statement

  -- ---- texts

  -- "[" NUMBER "]"
  abbrev pub length : Syntax PlainToken (ℤ × Place)
  length = mark ws left_bracket then λ _. one (placed number_of) then λ n. mark ws right_bracket then λ _. gives n

  -- global = "static" "char" NAME "[" NUMBER "]" ";" | "static" "const" "char" NAME "[" NUMBER "]" "=" STRING ";"
  abbrev pub global : Syntax PlainToken ParsedGlobal
  global =
      (fixed ws static_kind then λ _. fixed ws char_kind then λ _. name ws then λ x. length then λ n. mark ws semicolon then λ _.
      gives (record { name = x; place = n.1; size = n.0; literal = None }))
      or (fixed ws static_kind then λ _. fixed ws const_kind then λ _. fixed ws char_kind then λ _. name ws then λ x. length then λ n. mark ws assign then λ _.
      one (placed text_of) then λ s. mark ws semicolon then λ _. gives (record { name = x; place = n.1; size = n.0; literal = Some s.0 }))

  -- parameter = type NAME
  abbrev pub parameter : Syntax PlainToken ParsedRegister
  parameter = type then λ t. name ws then λ x. gives (record { kind = t.0; name = x })

  -- "void" | parameter { "," parameter }
  abbrev pub parameters : Syntax PlainToken (List ParsedRegister)
  parameters =
      (fixed ws void_kind then λ _. gives [])
      or (parameter then λ p. repeated (λ ps. mark ws comma then λ _. parameter then λ q. gives (ps ++ q ∷ [])) (p ∷ []))

  -- { type NAME ";" }
  abbrev pub registers : Syntax PlainToken (List ParsedRegister)
  registers = repeated (λ rs. type then λ t. name ws then λ x. mark ws semicolon then λ _. gives (rs ++ record { kind = t.0; name = x } ∷ [])) []

  -- function = ( type | "void" ) NAME "(" ( "void" | parameter { "," parameter } ) ")" "{" { type NAME ";" } { statement } "}"
  abbrev pub function : Syntax PlainToken ParsedFunction
  function =
      ((type then λ t. gives (Some t.0)) or (fixed ws void_kind then λ _. gives None)) then λ r.
      name ws then λ f. Open then λ _. parameters then λ ps. Close then λ _.
      mark ws left_brace then λ _. registers then λ rs. repeated (λ xs. statement_in ws (most_nested ws - 1) false then λ a. gives (xs ++ a ∷ [])) [] then λ xs.
      mark ws right_brace then λ _. gives (record { result = r; name = f; parameters = ps; registers = rs; body = parsed_list xs })

  -- text = head { global } { function }
  abbrev pub text : Syntax PlainToken ParsedProgram
  text =
      one (is_head ws) then λ _. repeated (λ gs. parsed.global ws then λ g. gives (gs ++ g ∷ [])) [] then λ gs.
      repeated (λ fs. parsed.function ws then λ f. gives (fs ++ f ∷ [])) [] then λ fs. gives (record { globals = gs; functions = fs })
