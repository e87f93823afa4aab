-- Ours: the shape is that of C99 6.5 to 6.9, the language is of our own making.
-- The grammar of monitored texts, with the trees that are read:
--
--   text      = head { global } { function }
--   global    = "static" "char" NAME "[" NUMBER "]" ";" | "static" "const" "char" NAME "[" NUMBER "]" "=" STRING ";"
--   function  = ( type | "void" ) NAME "(" ( "void" | parameter { "," parameter } ) ")" "{" { type NAME ";" } { statement } "}"
--   parameter = type NAME
--   statement = NAME "=" expr ";" | NAME "=" call ";" | call ";"
--             | "*" "(" type "*" ")" NAME "=" expr ";" mark
--             | "if" "(" expr ")" body "else" body
--             | "while" "(" "1" ")" body
--             | body NAME ":" ";" | "goto" NAME ";" | "return" [ expr ] ";"
--   mark      = "__e_acsl_initialize" "(" NAME "," NUMBER ")" ";" | "__e_acsl_initialize_ptr" "(" NAME ")" ";"
--   body      = "{" { statement } "}"
--   call      = NAME "(" [ argument { "," argument } ] ")"          argument = expr | NUMBER | STRING
--   expr      = NAME | CONSTANT "(" [ "-" ] NUMBER ")" | "(" expr operator expr ")" | "(" "-" expr ")" | "(" "~" expr ")"
--             | "(" "(" type ")" expr ")" | "(" "*" "(" type "*" ")" expr ")"
--
-- The head stands on the first line. A mark names the register of its store, with the size of the type, and is the second one
-- exactly for ptr. The body of `while` has exactly one statement `__e_acsl_step();` directly in it. Statements are at most 2,000
-- deep, the function's body being 1 deep, and at most 2,000 parentheses are open at once in an expression.
use Rattle.std.specs.Prelude.{ℕ, zero, suc, ◌+◌, ◌-◌, ℤ, pos, neg_ℤ, List, [], ◌∷◌, ◌++◌, Option, Some, None, Bool, true, false, ◌&&◌, cond, eqb, if◌then◌else◌}
use Rattle.std.specs.Prelude.{slice_get}
use Rattle.std.specs.Ordering.{int_eq}
use Rattle.grammar.specs.Syntax.{Syntax, none, gives, one, ◌then◌, choice, many, deep}
use Rattle.c_syntax.specs.declared.place.Place.{Place}
use Rattle.c_syntax.specs.Tokens as token
use Rattle.c_syntax.specs.Tokens.{PlainTokenKind, PlainToken}
use Rattle.c_model.specs.Punctuators.{shift_left, shift_right, less_equal, greater_equal, equal, not_equal, plus, minus, times, divide, percent, less, greater}
use Rattle.c_model.specs.Punctuators.{assign, tilde, ampersand, bar, caret, colon, semicolon, comma, left_paren, right_paren, left_brace, right_brace}
use Rattle.c_model.specs.Punctuators.{left_bracket, right_bracket}
use Rattle.c_model.specs.Terminals.{expression_limit, nesting_limit, placed, mark_entry}
use Rattle.mon_syntax.specs.declared.tree.MonType.{MonType}
use Rattle.mon_syntax.specs.declared.tree.MonOp.{MonOp}
use Rattle.mon_syntax.specs.declared.tree.MonOp.TheVariants.{Add, Sub, Mul, Div, Rem, Shl, Shr, And, Or, Xor, Eq, Ne, Lt, Le, Gt, Ge}
use Rattle.mon_syntax.specs.Arithmetic.{byte_count, is_pointer}
use Rattle.mon_syntax.specs.declared.word.Runtime.TheVariants as runtime
use Rattle.mon_syntax.specs.declared.word.Word.{Word}
use Rattle.mon_syntax.specs.declared.word.Word.TheVariants as word
use Rattle.mon_syntax.specs.Parsed.{NameUse, ParsedExpression, Name, Constant, Binary, Minus, Flip, Cast, Load, ParsedArgument, Value, Number, Text, ParsedCall}
use Rattle.mon_syntax.specs.Parsed.{ParsedStatement, Set, Store, Take, Call, If, Loop, Labelled, Goto, Return, ParsedStatements, NoStatement, Then}
use Rattle.mon_syntax.specs.Parsed.{ParsedRegister, ParsedFunction, ParsedGlobal, ParsedProgram}

-- ---- tokens

-- kinds of tokens: `fixed` and `name_of` read a token by its kind, and else kinds serve `parse` alone, which tells alternatives apart by
-- them; a name of the runtime is a name
abbrev pub name_kind : ℕ
name_kind = 0

abbrev pub type_kind : ℕ
type_kind = 1

abbrev pub constant_kind : ℕ
constant_kind = 2

abbrev pub void_kind : ℕ
void_kind = 3

abbrev pub if_kind : ℕ
if_kind = 4

abbrev pub else_kind : ℕ
else_kind = 5

abbrev pub while_kind : ℕ
while_kind = 6

abbrev pub goto_kind : ℕ
goto_kind = 7

abbrev pub return_kind : ℕ
return_kind = 8

abbrev pub number_kind : ℕ
number_kind = 10

abbrev pub text_kind : ℕ
text_kind = 11

abbrev pub head_kind : ℕ
head_kind = 12

-- what no monitored text has: a character literal, and the ends of an annotation
abbrev pub foreign_kind : ℕ
foreign_kind = 13

abbrev pub static_kind : ℕ
static_kind = 14

abbrev pub const_kind : ℕ
const_kind = 15

abbrev pub char_kind : ℕ
char_kind = 16

-- the words of marks
abbrev pub initialize_kind : ℕ
initialize_kind = 17

abbrev pub initialize_pointer_kind : ℕ
initialize_pointer_kind = 18

abbrev pub mark_kind : ℕ → ℕ
mark_kind m = 20 + m

abbrev pub word_kind : Word → ℕ
word_kind (word.TypeName t) = type_kind
word_kind (word.Constant t) = constant_kind
word_kind word.Void = void_kind
word_kind word.If = if_kind
word_kind word.Else = else_kind
word_kind word.While = while_kind
word_kind word.Goto = goto_kind
word_kind word.Return = return_kind
word_kind word.Static = static_kind
word_kind word.Const = const_kind
word_kind word.Char = char_kind
word_kind word.Initialize = initialize_kind
word_kind word.InitializePointer = initialize_pointer_kind
word_kind (word.Runtime r) = name_kind
word_kind word.Name = name_kind

-- what the words of a text are, by number
abbrev pub Vocabulary : Type 0
Vocabulary = List Word

abbrev pub word_at : Vocabulary → ℕ → Word
word_at ws n = elim (slice_get ws n) [ None ↦ word.Name | Some w ↦ w ]

abbrev pub token_kind : Vocabulary → PlainTokenKind → ℕ
token_kind ws (token.Word n) = word_kind (word_at ws n)
token_kind ws (token.Number z t) = number_kind
token_kind ws (token.Chars bytes) = text_kind
token_kind ws (token.Mark m) = mark_kind m
token_kind ws (token.Head k n) = head_kind
token_kind ws (token.Letter v) = foreign_kind
token_kind ws token.AnnotOpen = foreign_kind
token_kind ws token.AnnotClose = foreign_kind

abbrev pub kind : Vocabulary → PlainToken → ℕ
kind ws t = token_kind ws t.kind

abbrev pub number_of : PlainTokenKind → Option ℤ
number_of (token.Number z t) = Some z
number_of _ = None

-- the number n
abbrev pub is_number : ℕ → PlainTokenKind → Option (Unit {0})
is_number n (token.Number z t) = cond (int_eq z (pos n)) (Some tt) None
is_number n _ = None

-- the name with this number
abbrev pub is_same_name : ℕ → PlainTokenKind → Option (Unit {0})
is_same_name n (token.Word m) = cond (eqb m n) (Some tt) None
is_same_name n _ = None

abbrev pub text_of : PlainTokenKind → Option (List ℕ)
text_of (token.Chars bytes) = Some bytes
text_of _ = None

abbrev pub type_of_word : Word → Option MonType
type_of_word (word.TypeName t) = Some t
type_of_word _ = None

abbrev pub constant_of_word : Word → Option MonType
constant_of_word (word.Constant t) = Some t
constant_of_word _ = None

abbrev pub type_of : Vocabulary → PlainTokenKind → Option MonType
type_of ws (token.Word n) = type_of_word (word_at ws n)
type_of ws _ = None

abbrev pub constant_of : Vocabulary → PlainTokenKind → Option MonType
constant_of ws (token.Word n) = constant_of_word (word_at ws n)
constant_of ws _ = None

-- the operators, by their punctuators
abbrev pub operators : List (ℕ × MonOp)
operators =
    (plus, Add) ∷ (minus, Sub) ∷ (times, Mul) ∷ (divide, Div) ∷ (percent, Rem) ∷ (shift_left, Shl) ∷ (shift_right, Shr) ∷ (ampersand, And) ∷ (bar, Or)
    ∷ (caret, Xor) ∷ (equal, Eq) ∷ (not_equal, Ne) ∷ (less, Lt) ∷ (less_equal, Le) ∷ (greater, Gt) ∷ (greater_equal, Ge) ∷ []

abbrev pub operator_of : PlainTokenKind → Option MonOp
operator_of = mark_entry operators

-- ---- what begins what: these sets serve `parse` alone

-- the kinds of the punctuators of a table
abbrev pub kinds_of : {A : Type 0} → List (ℕ × A) → List ℕ
kinds_of [] = []
kinds_of (x ∷ xs) = mark_kind x.0 ∷ kinds_of xs

abbrev pub first_operator : List ℕ
first_operator = kinds_of operators

abbrev pub first_expression : List ℕ
first_expression = name_kind ∷ constant_kind ∷ mark_kind left_paren ∷ []

abbrev pub first_argument : List ℕ
first_argument = number_kind ∷ text_kind ∷ first_expression

abbrev pub first_statement : List ℕ
first_statement = name_kind ∷ mark_kind times ∷ mark_kind left_brace ∷ if_kind ∷ while_kind ∷ goto_kind ∷ return_kind ∷ []

abbrev pub first_function : List ℕ
first_function = type_kind ∷ void_kind ∷ []

-- ---- trees

abbrev pub parsed_list : List ParsedStatement → ParsedStatements
parsed_list [] = NoStatement
parsed_list (a ∷ rest) = Then a (parsed_list rest)

-- the statements of a loop that are read so far: those before its step, and those after it where it is read
pub record LoopRead : Type 0 where
  pub before : List ParsedStatement
  pub behind : Option (List ParsedStatement)

abbrev pub nothing_read : LoopRead
nothing_read = record { before = []; behind = None }

abbrev pub has_step : LoopRead → Bool
has_step x = elim x.behind [ None ↦ false | Some b ↦ true ]

abbrev pub behind_step : LoopRead → List ParsedStatement
behind_step x = elim x.behind [ None ↦ [] | Some b ↦ b ]

abbrev pub is_step_word : Word → Bool
is_step_word (word.Runtime runtime.Step) = true
is_step_word _ = false

abbrev pub has_no_argument : List ParsedArgument → Bool
has_no_argument [] = true
has_no_argument (a ∷ more) = false

-- the statement is `__e_acsl_step();`
abbrev pub is_step : Vocabulary → ParsedStatement → Bool
is_step ws (Call c) = is_step_word (word_at ws c.callee.number) && has_no_argument c.arguments
is_step ws (Set x at e) = false
is_step ws (Store t x at e) = false
is_step ws (Take x at c) = false
is_step ws (If e a b) = false
is_step ws (Loop a b) = false
is_step ws (Labelled a l) = false
is_step ws (Goto l) = false
is_step ws (Return at e) = false

abbrev pub with_statement : Vocabulary → LoopRead → ParsedStatement → LoopRead
with_statement ws x a = elim x.behind [
  | None ↦ if is_step ws a then record { before = x.before; behind = Some [] } else record { before = x.before ++ a ∷ []; behind = None }
  | Some b ↦ record { before = x.before; behind = Some (b ++ a ∷ []) }
]

module _ (ws : Vocabulary) where
  -- a token of this kind, by its place
  abbrev pub fixed : ℕ → Syntax PlainToken Place
  fixed k = one (λ t. cond (eqb (kind ws t) k) (Some t.place) None)

  abbrev pub mark : ℕ → Syntax PlainToken Place
  mark m = fixed (mark_kind m)

  abbrev pub name_of : PlainTokenKind → Option ℕ
  name_of (token.Word n) = cond (eqb (word_kind (word_at ws n)) name_kind) (Some n) None
  name_of _ = None

  -- NAME
  unfoldable pub name : Syntax PlainToken NameUse
  name = one (placed name_of) then λ x. gives (record { place = x.1; number = x.0 })

  -- ---- expressions; O stands for a parenthesis that is opened, B for what stands after it, up to its end

  -- [ "-" ] NUMBER
  unfoldable pub signed_number : Syntax PlainToken ℤ
  signed_number =
      choice (kind ws) (mark_kind minus ∷ []) (mark minus then λ _. one (placed number_of) then λ z. gives (neg_ℤ z.0))
      (one (placed number_of) then λ z. gives z.0)

  -- CONSTANT "(" [ "-" ] NUMBER ")"
  unfoldable pub constant : Syntax PlainToken Place → Syntax PlainToken ParsedExpression
  constant O = one (placed (constant_of ws)) then λ t. O then λ _. signed_number then λ z. mark right_paren then λ _. gives (Constant t.1 t.0 z)

  -- an expression that is no NAME
  unfoldable pub other_expression : Syntax PlainToken Place → Syntax PlainToken ParsedExpression → Syntax PlainToken ParsedExpression
  other_expression O B = choice (kind ws) (constant_kind ∷ []) (constant O) (O then λ _. B)

  unfoldable pub expression_with : Syntax PlainToken Place → Syntax PlainToken ParsedExpression → Syntax PlainToken ParsedExpression
  expression_with O B = choice (kind ws) (name_kind ∷ []) (name then λ x. gives (Name x)) (other_expression O B)

  -- operator expr ")"
  unfoldable pub second_operand : Syntax PlainToken ParsedExpression → ParsedExpression → Syntax PlainToken ParsedExpression
  second_operand E left = one (placed operator_of) then λ op. E then λ right. mark right_paren then λ _. gives (Binary op.1 op.0 left right)

  -- "-" expr ")"
  unfoldable pub negation : Syntax PlainToken ParsedExpression → Syntax PlainToken ParsedExpression
  negation E = mark minus then λ at. E then λ e. mark right_paren then λ _. gives (Minus at e)

  -- "~" expr ")"
  unfoldable pub complement : Syntax PlainToken ParsedExpression → Syntax PlainToken ParsedExpression
  complement E = mark tilde then λ at. E then λ e. mark right_paren then λ _. gives (Flip at e)

  -- type ")" expr ")"
  unfoldable pub cast : Syntax PlainToken ParsedExpression → Place → Syntax PlainToken ParsedExpression
  cast E at = one (placed (type_of ws)) then λ t. mark right_paren then λ _. E then λ e. mark right_paren then λ _. gives (Cast at t.0 e)

  -- type "*" ")", after the parenthesis before the type
  unfoldable pub pointed_type : Syntax PlainToken MonType
  pointed_type = one (placed (type_of ws)) then λ t. mark times then λ _. mark right_paren then λ _. gives t.0

  -- "*" "(" type "*" ")" expr ")"
  unfoldable pub load : Syntax PlainToken Place → Syntax PlainToken ParsedExpression → Syntax PlainToken ParsedExpression
  load O E = mark times then λ at. O then λ _. pointed_type then λ t. E then λ e. mark right_paren then λ _. gives (Load at t e)

  -- what stands after two parentheses: a cast, or a first operand that begins with the second of them
  unfoldable pub behind_two : Syntax PlainToken ParsedExpression → Syntax PlainToken ParsedExpression → Place → Syntax PlainToken ParsedExpression
  behind_two E B at = choice (kind ws) (type_kind ∷ []) (cast E at) (B then λ left. second_operand E left)

  -- a first operand that begins with no parenthesis
  unfoldable pub plain_operand : Syntax PlainToken Place → Syntax PlainToken ParsedExpression
  plain_operand O = choice (kind ws) (name_kind ∷ []) (name then λ x. gives (Name x)) (constant O)

  -- what stands after a parenthesis, up to its end
  unfoldable pub behind_paren : Syntax PlainToken Place → Syntax PlainToken ParsedExpression → Syntax PlainToken ParsedExpression
  behind_paren O B =
      choice (kind ws) (mark_kind minus ∷ []) (negation (expression_with O B))
      (choice (kind ws) (mark_kind tilde ∷ []) (complement (expression_with O B))
      (choice (kind ws) (mark_kind times ∷ []) (load O (expression_with O B))
      (choice (kind ws) (mark_kind left_paren ∷ []) (O then λ at. behind_two (expression_with O B) B at)
      (plain_operand O then λ left. second_operand (expression_with O B) left))))

  -- a parenthesis, where n more may be opened
  unfoldable pub opened : ℕ → Syntax PlainToken Place
  opened zero = deep expression_limit (kind ws) (mark_kind left_paren ∷ []) (mark left_paren)
  opened (suc n) = mark left_paren

  -- what stands after a parenthesis that was opened where n more might be
  unfoldable pub behind_opened : ℕ → Syntax PlainToken ParsedExpression
  behind_opened zero = none
  behind_opened (suc n) = behind_paren (opened n) (behind_opened n)

  -- an expression in which n parentheses may be open at once
  unfoldable pub expression_in : ℕ → Syntax PlainToken ParsedExpression
  expression_in n = expression_with (opened n) (behind_opened n)

  -- the limit of parentheses (this profile)
  abbrev pub most_open_parens : ℕ
  most_open_parens = 2000

  unfoldable pub expression : Syntax PlainToken ParsedExpression
  expression = expression_in most_open_parens

  unfoldable pub expression_but_name : Syntax PlainToken ParsedExpression
  expression_but_name = other_expression (opened most_open_parens) (behind_opened most_open_parens)

  -- ---- calls

  -- expr | NUMBER | STRING
  unfoldable pub argument : Syntax PlainToken ParsedArgument
  argument =
      choice (kind ws) (number_kind ∷ []) (one (placed number_of) then λ z. gives (Number z.1 z.0))
      (choice (kind ws) (text_kind ∷ []) (one (placed text_of) then λ s. gives (Text s.1 s.0)) (expression then λ e. gives (Value e)))

  unfoldable pub next_argument : List ParsedArgument → Syntax PlainToken (List ParsedArgument)
  next_argument xs = mark comma then λ _. argument then λ x. gives (xs ++ x ∷ [])

  -- argument { "," argument }
  unfoldable pub some_arguments : Syntax PlainToken (List ParsedArgument)
  some_arguments = argument then λ x. many (kind ws) (λ _. mark_kind comma ∷ []) next_argument (x ∷ [])

  -- [ argument { "," argument } ], at least one where it is asked for
  unfoldable pub arguments : Bool → Syntax PlainToken (List ParsedArgument)
  arguments some = cond some some_arguments (choice (kind ws) first_argument some_arguments (gives []))

  -- "(" .. ")", of the name before it
  unfoldable pub call_of : Bool → NameUse → Syntax PlainToken ParsedCall
  call_of some f = mark left_paren then λ at. arguments some then λ xs. mark right_paren then λ _. gives (record { callee = f; place = at; arguments = xs })

  -- ---- statements; S stands for a statement in a body, which is no `__e_acsl_step();` where it may be none

  abbrev pub InBody : Type 1
  InBody = Bool → Syntax PlainToken ParsedStatement

  -- ";", after a statement
  unfoldable pub ended : ParsedStatement → Syntax PlainToken ParsedStatement
  ended a = mark semicolon then λ _. gives a

  unfoldable pub set_to_call : NameUse → Place → NameUse → Syntax PlainToken ParsedStatement
  set_to_call x at f = call_of false f then λ c. ended (Take x at c)

  -- after NAME "=" NAME
  unfoldable pub set_to_name : NameUse → Place → NameUse → Syntax PlainToken ParsedStatement
  set_to_name x at y = choice (kind ws) (mark_kind left_paren ∷ []) (set_to_call x at y) (ended (Set x at (Name y)))

  -- after NAME "="
  unfoldable pub set_to : NameUse → Place → Syntax PlainToken ParsedStatement
  set_to x at = choice (kind ws) (name_kind ∷ []) (name then λ y. set_to_name x at y) (expression_but_name then λ e. ended (Set x at e))

  -- after a NAME
  unfoldable pub behind_name : Bool → NameUse → Syntax PlainToken ParsedStatement
  behind_name no_step x =
      choice (kind ws) (mark_kind assign ∷ []) (mark assign then λ at. set_to x at)
      (call_of (no_step && is_step_word (word_at ws x.number)) x then λ c. ended (Call c))

  -- "(" NAME, of this name
  unfoldable pub marked_name : NameUse → Syntax PlainToken Place
  marked_name x = mark left_paren then λ _. one (placed (is_same_name x.number)) then λ t. gives t.1

  -- ")" ";", after a store
  unfoldable pub mark_end : ParsedStatement → Syntax PlainToken ParsedStatement
  mark_end a = mark right_paren then λ _. ended a

  -- the mark of a number, of so many bytes
  unfoldable pub number_mark : ℕ → NameUse → ParsedStatement → Syntax PlainToken ParsedStatement
  number_mark size x a =
      fixed initialize_kind then λ _. marked_name x then λ _. mark comma then λ _. one (placed (is_number size)) then λ _. mark_end a

  -- the mark of a pointer
  unfoldable pub pointer_mark : NameUse → ParsedStatement → Syntax PlainToken ParsedStatement
  pointer_mark x a = fixed initialize_pointer_kind then λ _. marked_name x then λ _. mark_end a

  -- the mark of a store of a type
  unfoldable pub store_mark : MonType → NameUse → ParsedStatement → Syntax PlainToken ParsedStatement
  store_mark t x a = cond (is_pointer t) (pointer_mark x a) (number_mark (byte_count t) x a)

  -- after "*" "(" type "*" ")" NAME
  unfoldable pub stored : MonType → NameUse → Syntax PlainToken ParsedStatement
  stored t x = mark assign then λ at. expression then λ e. mark semicolon then λ _. store_mark t x (Store t x at e)

  unfoldable pub store : Syntax PlainToken ParsedStatement
  store = mark times then λ _. mark left_paren then λ _. pointed_type then λ t. name then λ x. stored t x

  unfoldable pub one_more : InBody → List ParsedStatement → Syntax PlainToken (List ParsedStatement)
  one_more S xs = S false then λ a. gives (xs ++ a ∷ [])

  -- { statement }
  unfoldable pub statements : InBody → Syntax PlainToken (List ParsedStatement)
  statements S = many (kind ws) (λ _. first_statement) (one_more S) []

  unfoldable pub body : InBody → Syntax PlainToken ParsedStatements
  body S = mark left_brace then λ _. statements S then λ xs. mark right_brace then λ _. gives (parsed_list xs)

  unfoldable pub selection : InBody → Syntax PlainToken ParsedStatement
  selection S =
      fixed if_kind then λ _. mark left_paren then λ _. expression then λ e. mark right_paren then λ _. body S then λ a. fixed else_kind then λ _. body S then
      λ b.
      gives (If e a b)

  unfoldable pub one_more_in_loop : InBody → LoopRead → Syntax PlainToken LoopRead
  one_more_in_loop S x = S (has_step x) then λ a. gives (with_statement ws x a)

  -- the end of a loop's body, which has its step
  unfoldable pub loop_end : LoopRead → Syntax PlainToken ParsedStatement
  loop_end x = cond (has_step x) (mark right_brace then λ _. gives (Loop (parsed_list x.before) (parsed_list (behind_step x)))) none

  unfoldable pub iteration : InBody → Syntax PlainToken ParsedStatement
  iteration S =
      fixed while_kind then λ _. mark left_paren then λ _. one (placed (is_number 1)) then λ _. mark right_paren then λ _. mark left_brace then λ _.
      many (kind ws) (λ _. first_statement) (one_more_in_loop S) nothing_read then λ x. loop_end x

  -- body NAME ":" ";"
  unfoldable pub labelled : InBody → Syntax PlainToken ParsedStatement
  labelled S = body S then λ a. name then λ l. mark colon then λ _. ended (Labelled a l)

  unfoldable pub jump : Syntax PlainToken ParsedStatement
  jump = fixed goto_kind then λ _. name then λ l. ended (Goto l)

  -- [ expr ] ";"
  unfoldable pub returned : Place → Syntax PlainToken ParsedStatement
  returned at = choice (kind ws) first_expression (expression then λ e. ended (Return at (Some e))) (ended (Return at None))

  unfoldable pub return_statement : Syntax PlainToken ParsedStatement
  return_statement = fixed return_kind then λ at. returned at

  unfoldable pub statement_with : InBody → InBody
  statement_with S no_step =
      choice (kind ws) (name_kind ∷ []) (name then λ x. behind_name no_step x)
      (choice (kind ws) (mark_kind times ∷ []) store
      (choice (kind ws) (mark_kind left_brace ∷ []) (labelled S)
      (choice (kind ws) (if_kind ∷ []) (selection S)
      (choice (kind ws) (while_kind ∷ []) (iteration S)
      (choice (kind ws) (goto_kind ∷ []) jump return_statement)))))

  -- a statement in which statements stand at most n deep, itself included
  unfoldable pub statement_in : ℕ → InBody
  statement_in zero no_step = deep nesting_limit (kind ws) first_statement (statement_with (λ _. none) no_step)
  statement_in (suc n) no_step = statement_with (statement_in n) no_step

  -- ---- functions and texts

  -- the limit of depth, the function's body being 1 deep (this profile)
  abbrev pub most_nested : ℕ
  most_nested = 2000

  -- type NAME ";"
  unfoldable pub register : List ParsedRegister → Syntax PlainToken (List ParsedRegister)
  register rs = one (placed (type_of ws)) then λ t. name then λ x. mark semicolon then λ _. gives (rs ++ record { kind = t.0; name = x } ∷ [])

  unfoldable pub registers : Syntax PlainToken (List ParsedRegister)
  registers = many (kind ws) (λ _. type_kind ∷ []) register []

  -- type | "void"
  unfoldable pub result : Syntax PlainToken (Option MonType)
  result = choice (kind ws) (type_kind ∷ []) (one (placed (type_of ws)) then λ t. gives (Some t.0)) (fixed void_kind then λ _. gives None)

  -- type NAME
  unfoldable pub parameter : Syntax PlainToken ParsedRegister
  parameter = one (placed (type_of ws)) then λ t. name then λ x. gives (record { kind = t.0; name = x })

  unfoldable pub next_parameter : List ParsedRegister → Syntax PlainToken (List ParsedRegister)
  next_parameter ps = mark comma then λ _. parameter then λ p. gives (ps ++ p ∷ [])

  -- parameter { "," parameter }
  unfoldable pub some_parameters : Syntax PlainToken (List ParsedRegister)
  some_parameters = parameter then λ p. many (kind ws) (λ _. mark_kind comma ∷ []) next_parameter (p ∷ [])

  -- "void", or parameters
  unfoldable pub parameters : Syntax PlainToken (List ParsedRegister)
  parameters = choice (kind ws) (void_kind ∷ []) (fixed void_kind then λ _. gives []) some_parameters

  unfoldable pub function_body : Option MonType → NameUse → List ParsedRegister → Syntax PlainToken ParsedFunction
  function_body r f ps =
      mark left_brace then λ _. registers then λ rs. statements (statement_in (most_nested - 1)) then λ xs. mark right_brace then λ _.
      gives (record { result = r; name = f; parameters = ps; registers = rs; body = parsed_list xs })

  unfoldable pub function : Syntax PlainToken ParsedFunction
  function = result then λ r. name then λ f. mark left_paren then λ _. parameters then λ ps. mark right_paren then λ _. function_body r f ps

  unfoldable pub one_more_function : List ParsedFunction → Syntax PlainToken (List ParsedFunction)
  one_more_function fs = function then λ f. gives (fs ++ f ∷ [])

  -- the head, on the first line
  abbrev pub is_head : PlainToken → Option (Unit {0})
  is_head t = cond (eqb (kind ws t) head_kind && eqb t.place.line 1) (Some tt) None

  -- "[" NUMBER "]", the number with its place
  unfoldable pub length_of_global : Syntax PlainToken (ℤ × Place)
  length_of_global = mark left_bracket then λ _. one (placed number_of) then λ n. mark right_bracket then λ _. gives n

  -- after "static", for zeros
  unfoldable pub zeros : Syntax PlainToken ParsedGlobal
  zeros =
      fixed char_kind then λ _. name then λ x. length_of_global then λ n. mark semicolon then λ _.
      gives (record { name = x; place = n.1; size = n.0; literal = None })

  -- after "static", for a literal
  unfoldable pub literal : Syntax PlainToken ParsedGlobal
  literal =
      fixed const_kind then λ _. fixed char_kind then λ _. name then λ x. length_of_global then λ n. mark assign then λ _.
      one (placed text_of) then λ s. mark semicolon then λ _.
      gives (record { name = x; place = n.1; size = n.0; literal = Some s.0 })

  unfoldable pub global : Syntax PlainToken ParsedGlobal
  global = fixed static_kind then λ _. choice (kind ws) (char_kind ∷ []) zeros literal

  unfoldable pub one_more_global : List ParsedGlobal → Syntax PlainToken (List ParsedGlobal)
  one_more_global gs = global then λ g. gives (gs ++ g ∷ [])

  unfoldable pub globals : Syntax PlainToken (List ParsedGlobal)
  globals = many (kind ws) (λ _. static_kind ∷ []) one_more_global []

  unfoldable pub functions : Syntax PlainToken (List ParsedFunction)
  functions = many (kind ws) (λ _. first_function) one_more_function []

  unfoldable pub text : Syntax PlainToken ParsedProgram
  text = one is_head then λ _. globals then λ gs. functions then λ fs. gives (record { globals = gs; functions = fs })
