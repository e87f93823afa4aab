-- The grammar of expressions, with the trees that are read (C99 6.4.4, 6.4.5, 6.5, 6.7.6):
--
--   comma   = assign { "," assign }
--   assign  = cond | unary assign-op assign
--   cond    = binary [ "?" comma ":" cond ]
--   binary  = cast, joined by the operators of C99 6.5.5 to 6.5.14, each level from the left
--   cast    = unary | "(" type ")" cast
--   unary   = postfix | ( "+" | "-" | "!" | "~" | "*" | "&" ) cast | ( "++" | "--" ) unary | "sizeof" unary | "sizeof" "(" type ")"
--   postfix = ( primary | NAME "(" [ assign { "," assign } ] ")" ) { "[" comma "]" | "." ANYNAME | "->" ANYNAME | "++" | "--" }
--   primary = NAME | NUMBER | CHAR | STRING | "(" comma ")"
--   type    = words { "*" { "const" } } { "[" comma "]" }
--   words   = { "const" } base { "const" }
--   base    = integer words in any order | "void" | TYPENAME | "struct" ANYNAME | "enum" ANYNAME
--
-- An expression that stands in no other has at most 400 tokens. A TYPENAME is the name of a type, and an ANYNAME is a NAME or a TYPENAME.
-- Types and declarations are set by typing.
use Rattle.std.specs.Prelude.{ℕ, zero, suc, ◌+◌, ◌-◌, ℤ, List, [], ◌∷◌, ◌++◌, Option, Some, None, option_map, Bool, true, false, cond, eqb, slice_get}
use Rattle.grammar.specs.Syntax.{Syntax, among, gives, one, ◌then◌, choice, many, knot, at_most}
use Rattle.c_syntax.specs.declared.place.Place.{Place}
use Rattle.c_syntax.specs.declared.types.CInt.{CInt}
use Rattle.c_syntax.specs.declared.expression.Use.{Use}
use Rattle.c_syntax.specs.declared.expression.UnOp.{UnOp}
use Rattle.c_syntax.specs.declared.expression.UnOp.TheVariants.{Plus, Minus, Not, Flip, Deref, Address}
use Rattle.c_syntax.specs.declared.expression.BinOp.{BinOp}
use Rattle.c_syntax.specs.declared.expression.BinOp.TheVariants.{Add, Sub, Mul, Div, Rem, Shl, Shr, BitAnd, BitOr, BitXor, Eq, Ne, Lt, Le, Gt, Ge}
use Rattle.c_syntax.specs.declared.expression.BumpOp.{BumpOp}
use Rattle.c_syntax.specs.declared.expression.BumpOp.TheVariants.{PreUp, PreDown, PostUp, PostDown}
use Rattle.c_syntax.specs.Ctypes.{PlainType, Void, Int, Ptr, Array, Named, StructTag, EnumTag, PlainLength, Left, Written, int_type}
use Rattle.c_syntax.specs.Expressions.{Expression, Node, ExpressionKind, Number, Letter, Text, Variable, Unary, Binary, Both, Either, Choice, Assign}
use Rattle.c_syntax.specs.Expressions.{Bump, Call, Cast, SizeOfType, SizeOfExpr, Index, Dot, Arrow, Comma, Expressions, NoExpression, Following, place_of}
use Rattle.c_syntax.specs.Trees.{kind_of}
use Rattle.c_syntax.specs.Tokens as token
use Rattle.c_syntax.specs.Tokens.{PlainTokenKind, PlainToken}
use Rattle.c_model.specs.declared.operands.Form.{Form}
use Rattle.c_model.specs.declared.operands.Form.TheVariants as form
use Rattle.c_model.specs.declared.operands.Level.{Level}
use Rattle.c_model.specs.declared.operands.Level.TheVariants.{Assignment, Conditional}
use Rattle.c_model.specs.declared.operands.Stars.{Stars}
use Rattle.c_model.specs.declared.operands.TypeUse.{TypeUse}
use Rattle.c_model.specs.declared.operands.TypeUse.TheVariants as type_use
use Rattle.c_model.specs.declared.operands.Connective.{Connective}
use Rattle.c_model.specs.declared.operands.Connective.TheVariants.{Operator, And, Or}
use Rattle.c_model.specs.declared.vocabulary.Keyword.{Keyword}
use Rattle.c_model.specs.declared.vocabulary.Keyword.TheVariants as keyword
use Rattle.c_model.specs.declared.vocabulary.LogicWord.{LogicWord}
use Rattle.c_model.specs.declared.vocabulary.LogicWord.TheVariants as logic
use Rattle.c_model.specs.declared.vocabulary.Word.{Word}
use Rattle.c_model.specs.declared.vocabulary.Word.TheVariants as word
use Rattle.c_model.specs.declared.vocabulary.TypeName.{TypeName}
use Rattle.c_model.specs.declared.vocabulary.TypeName.TheVariants.{Library, Declared, DeclaredClause}
use Rattle.c_model.specs.declared.vocabulary.SignWords.{SignWords}
use Rattle.c_model.specs.declared.vocabulary.SignWords.TheVariants as sign
use Rattle.c_model.specs.declared.vocabulary.SizeWords.{SizeWords}
use Rattle.c_model.specs.declared.vocabulary.SizeWords.TheVariants as size
use Rattle.c_model.specs.declared.vocabulary.IntegerWords.{IntegerWords}
use Rattle.c_model.specs.Vocabulary.{Vocabulary, word_at, no_words, words_with, integer_type}
use Rattle.c_model.specs.Terminals.{expression_limit, placed, mark_entry}
use Rattle.c_model.specs.Punctuators.{increment, decrement, shift_left, shift_right, less_equal, greater_equal, equal, not_equal, and_and, or_or}
use Rattle.c_model.specs.Punctuators.{shift_left_assign, shift_right_assign, add_assign, subtract_assign, multiply_assign, divide_assign, remainder_assign}
use Rattle.c_model.specs.Punctuators.{and_assign, or_assign, xor_assign, plus, minus, times, divide, percent, less, greater, assign, exclamation, tilde}
use Rattle.c_model.specs.Punctuators.{ampersand, bar, caret, question, colon, comma, left_paren, right_paren, dot, arrow, left_bracket, right_bracket}

-- ---- limits (this profile)

-- how many tokens an expression has at most that stands in no other
abbrev pub most_in_expression : ℕ
most_in_expression = 400

-- how deep statements stand at most in one another
abbrev pub most_nested : ℕ
most_nested = 200

-- ---- kinds of tokens: `fixed`, `name_of` and `any_name_of` read a token by its kind, and else kinds serve `parse` alone, which tells
-- alternatives apart by them

abbrev pub name_kind : ℕ
name_kind = 0

abbrev pub number_kind : ℕ
number_kind = 1

abbrev pub letter_kind : ℕ
letter_kind = 2

abbrev pub text_kind : ℕ
text_kind = 3

abbrev pub type_name_kind : ℕ
type_name_kind = 4

abbrev pub logic_kind : ℕ
logic_kind = 5

abbrev pub annot_open_kind : ℕ
annot_open_kind = 6

abbrev pub annot_close_kind : ℕ
annot_close_kind = 7

abbrev pub head_kind : ℕ
head_kind = 8

abbrev pub keyword_kind : Keyword → ℕ
keyword_kind keyword.Char = 10
keyword_kind keyword.Short = 11
keyword_kind keyword.Int = 12
keyword_kind keyword.Long = 13
keyword_kind keyword.Signed = 14
keyword_kind keyword.Unsigned = 15
keyword_kind keyword.Void = 16
keyword_kind keyword.Const = 17
keyword_kind keyword.Static = 18
keyword_kind keyword.If = 19
keyword_kind keyword.Else = 20
keyword_kind keyword.While = 21
keyword_kind keyword.Do = 22
keyword_kind keyword.For = 23
keyword_kind keyword.Break = 24
keyword_kind keyword.Continue = 25
keyword_kind keyword.Return = 26
keyword_kind keyword.Sizeof = 27
keyword_kind keyword.Struct = 28
keyword_kind keyword.Enum = 29
keyword_kind keyword.Typedef = 30
keyword_kind keyword.Switch = 31
keyword_kind keyword.Case = 32
keyword_kind keyword.Default = 33
keyword_kind keyword.Kept = 34

-- the words of annotations that begin a form of their own have kinds of their own
abbrev pub null_kind : ℕ
null_kind = 35

abbrev pub fact_kind : ℕ
fact_kind = 36

abbrev pub question_kind : ℕ
question_kind = 37

abbrev pub separated_kind : ℕ
separated_kind = 38

abbrev pub result_kind : ℕ
result_kind = 39

abbrev pub old_kind : ℕ
old_kind = 40

abbrev pub at_kind : ℕ
at_kind = 41

abbrev pub quantifier_kind : ℕ
quantifier_kind = 42

abbrev pub logic_word_kind : LogicWord → ℕ
logic_word_kind (logic.Truth b) = logic_kind
logic_word_kind logic.Null = null_kind
logic_word_kind (logic.Told f) = fact_kind
logic_word_kind (logic.Asks q) = question_kind
logic_word_kind logic.Separated = separated_kind
logic_word_kind logic.Result = result_kind
logic_word_kind logic.Old = old_kind
logic_word_kind logic.At = at_kind
logic_word_kind (logic.Quantifier q) = quantifier_kind
logic_word_kind logic.Kept = logic_kind

abbrev pub mark_kind : ℕ → ℕ
mark_kind m = 60 + m

abbrev pub word_kind : Word → ℕ
word_kind (word.Keyword k) = keyword_kind k
word_kind (word.TypeName t) = type_name_kind
word_kind (word.Clause c) = name_kind
word_kind word.Integer = name_kind
word_kind (word.Logic w) = logic_word_kind w
word_kind word.Name = name_kind

abbrev pub token_kind : Vocabulary → PlainTokenKind → ℕ
token_kind ws (token.Word n) = word_kind (word_at ws n)
token_kind ws (token.Number z t) = number_kind
token_kind ws (token.Letter z) = letter_kind
token_kind ws (token.Chars bytes) = text_kind
token_kind ws (token.Mark m) = mark_kind m
token_kind ws token.AnnotOpen = annot_open_kind
token_kind ws token.AnnotClose = annot_close_kind
token_kind ws (token.Head k n) = head_kind

abbrev pub kind : Vocabulary → PlainToken → ℕ
kind ws t = token_kind ws t.kind

-- ---- what single tokens stand for

-- NUMBER: an integer literal with its type (C99 6.4.4.1)
abbrev pub number_of : PlainTokenKind → Option (ℤ × Option CInt)
number_of (token.Number z t) = Some (z, t)
number_of _ = None

-- CHAR (C99 6.4.4.4)
abbrev pub letter_of : PlainTokenKind → Option ℤ
letter_of (token.Letter z) = Some z
letter_of _ = None

-- the kinds of the punctuators of a table
abbrev pub kinds_of : {A : Type 0} → List (ℕ × A) → List ℕ
kinds_of [] = []
kinds_of (x ∷ xs) = mark_kind x.0 ∷ kinds_of xs

-- prefix operators (C99 6.5.3.2, 6.5.3.3)
abbrev pub unary_operators : List (ℕ × UnOp)
unary_operators = (plus, Plus) ∷ (minus, Minus) ∷ (exclamation, Not) ∷ (tilde, Flip) ∷ (times, Deref) ∷ (ampersand, Address) ∷ []

-- binary operators by level, from the one that binds closest, 0, to `||`, 9 (C99 6.5.5 to 6.5.14)
abbrev pub operator_levels : List (List (ℕ × Connective))
operator_levels =
    ((times, Operator Mul) ∷ (divide, Operator Div) ∷ (percent, Operator Rem) ∷ [])
    ∷ ((plus, Operator Add) ∷ (minus, Operator Sub) ∷ [])
    ∷ ((shift_left, Operator Shl) ∷ (shift_right, Operator Shr) ∷ [])
    ∷ ((less, Operator Lt) ∷ (greater, Operator Gt) ∷ (less_equal, Operator Le) ∷ (greater_equal, Operator Ge) ∷ [])
    ∷ ((equal, Operator Eq) ∷ (not_equal, Operator Ne) ∷ [])
    ∷ ((ampersand, Operator BitAnd) ∷ [])
    ∷ ((caret, Operator BitXor) ∷ [])
    ∷ ((bar, Operator BitOr) ∷ [])
    ∷ ((and_and, And) ∷ [])
    ∷ ((or_or, Or) ∷ [])
    ∷ []

abbrev pub operators_at : ℕ → List (ℕ × Connective)
operators_at l = elim (slice_get operator_levels l) [ None ↦ [] | Some table ↦ table ]

-- how many levels there are
abbrev pub levels : ℕ
levels = 10

-- `=`, and `op=` (C99 6.5.16)
abbrev pub assignment_operators : List (ℕ × Option BinOp)
assignment_operators =
    (assign, None) ∷ (multiply_assign, Some Mul) ∷ (divide_assign, Some Div) ∷ (remainder_assign, Some Rem) ∷ (add_assign, Some Add)
    ∷ (subtract_assign, Some Sub) ∷ (shift_left_assign, Some Shl) ∷ (shift_right_assign, Some Shr) ∷ (and_assign, Some BitAnd)
    ∷ (xor_assign, Some BitXor) ∷ (or_assign, Some BitOr) ∷ []

-- before their operand, and after it (C99 6.5.3.1, 6.5.2.4)
abbrev pub prefix_bumps : List (ℕ × BumpOp)
prefix_bumps = (increment, PreUp) ∷ (decrement, PreDown) ∷ []

abbrev pub postfix_bumps : List (ℕ × BumpOp)
postfix_bumps = (increment, PostUp) ∷ (decrement, PostDown) ∷ []

-- ---- what begins what: but for `first_any_name`, which `any_name_of` reads, these sets serve `parse` alone

abbrev pub first_integer_words : List ℕ
first_integer_words =
    keyword_kind keyword.Char ∷ keyword_kind keyword.Short ∷ keyword_kind keyword.Int ∷ keyword_kind keyword.Long ∷ keyword_kind keyword.Signed
    ∷ keyword_kind keyword.Unsigned ∷ []

abbrev pub first_base : List ℕ
first_base = keyword_kind keyword.Void ∷ type_name_kind ∷ keyword_kind keyword.Struct ∷ keyword_kind keyword.Enum ∷ first_integer_words

abbrev pub first_type : List ℕ
first_type = keyword_kind keyword.Const ∷ first_base

abbrev pub first_expression : List ℕ
first_expression =
    mark_kind increment ∷ mark_kind decrement ∷ name_kind ∷ number_kind ∷ letter_kind ∷ text_kind ∷ mark_kind left_paren ∷ mark_kind plus ∷ mark_kind minus
    ∷ mark_kind exclamation ∷ mark_kind tilde ∷ mark_kind times ∷ mark_kind ampersand ∷ keyword_kind keyword.Sizeof ∷ []

abbrev pub first_any_name : List ℕ
first_any_name = name_kind ∷ type_name_kind ∷ []

-- what a postfix expression goes on with
abbrev pub first_postfix : List ℕ
first_postfix = mark_kind left_bracket ∷ mark_kind dot ∷ mark_kind arrow ∷ mark_kind increment ∷ mark_kind decrement ∷ []

-- what may follow words for a sign, and for a size; it serves `parse` alone
abbrev pub signs_behind : SignWords → List ℕ
signs_behind sign.Nothing = keyword_kind keyword.Signed ∷ keyword_kind keyword.Unsigned ∷ []
signs_behind sign.Signed = []
signs_behind sign.Unsigned = []

abbrev pub sizes_behind : SizeWords → List ℕ
sizes_behind size.Nothing = keyword_kind keyword.Char ∷ keyword_kind keyword.Short ∷ keyword_kind keyword.Int ∷ keyword_kind keyword.Long ∷ []
sizes_behind size.Char = []
sizes_behind size.Short = keyword_kind keyword.Int ∷ []
sizes_behind size.ShortInt = []
sizes_behind size.Int = keyword_kind keyword.Short ∷ keyword_kind keyword.Long ∷ []
sizes_behind size.Long = keyword_kind keyword.Int ∷ keyword_kind keyword.Long ∷ []
sizes_behind size.LongInt = keyword_kind keyword.Long ∷ []
sizes_behind size.LongLong = keyword_kind keyword.Int ∷ []
sizes_behind size.LongLongInt = []

abbrev pub words_behind : IntegerWords → List ℕ
words_behind x = signs_behind x.sign ++ sizes_behind x.size

-- ---- trees

-- an expression as it is read
abbrev pub read_as : Place → ExpressionKind → Expression
read_as at k = Node at int_type k

abbrev pub use_of : ℕ → Use
use_of n = record { name = n; decl = 0 }

abbrev pub connective_kind : Connective → Expression → Expression → ExpressionKind
connective_kind (Operator op) a b = Binary op a b
connective_kind And a b = Both a b
connective_kind Or a b = Either a b

abbrev pub expressions : List Expression → Expressions
expressions [] = NoExpression
expressions (e ∷ es) = Following e (expressions es)

-- an operand with its form and the place of its first token
pub record ReadOperand : Type 0 where
  pub expression : Expression
  pub form : Form
  pub first : Place

abbrev pub read_operand : Expression → Form → Place → ReadOperand
read_operand e f at = record { expression = e; form = f; first = at }

-- a name that is used
abbrev pub read_name : ℕ × Place → Expression
read_name x = read_as x.1 (Variable (use_of x.0))

-- what `sizeof` is of: the type that was read in parentheses, or the operand
abbrev pub size_of_operand : ReadOperand → ExpressionKind
size_of_operand x = elim x.form [
  | form.TypeName ↦ kind_of x.expression
  | form.Postfix ↦ SizeOfExpr x.expression
  | form.Unary ↦ SizeOfExpr x.expression
  | form.Cast ↦ SizeOfExpr x.expression
]

abbrev pub no_stars : Stars
no_stars = record { count = 0; constant = false }

-- a pointer to a pointer .. to the type (C99 6.7.5.1)
abbrev pub pointers : ℕ → PlainType → PlainType
pointers zero t = t
pointers (suc n) t = pointers n (Ptr t)

-- an array of arrays of the type, of which the first length is the outermost (C99 6.7.5.2)
abbrev pub arrays_of : PlainType → List PlainLength → PlainType
arrays_of t [] = t
arrays_of t (n ∷ ns) = Array (arrays_of t ns) n

-- the type of a declarator with its stars and its lengths
abbrev pub declared_type : PlainType → Stars → List PlainLength → PlainType
declared_type t stars ns = arrays_of (pointers stars.count t) ns

-- the type that a word with this number names
abbrev pub named_type : ℕ → TypeName → PlainType
named_type n (Library t) = Int t
named_type n Declared = Named n
named_type n (DeclaredClause c) = Named n

abbrev pub type_named_by : ℕ → Word → Option PlainType
type_named_by n (word.TypeName t) = Some (named_type n t)
type_named_by n _ = None

-- the first word of a type, at which a parameter is cut to be read; the words of a type are read whole in `type_words`
pub data TypeStart : Type 0 where
  ConstStart : TypeStart
  VoidStart : TypeStart
  StructStart : TypeStart
  EnumStart : TypeStart
  NameStart : PlainType → TypeStart
  IntegerStart : IntegerWords → TypeStart

module _ (ws : Vocabulary) where
  -- a token of this kind, by its place
  abbrev pub fixed : ℕ → Syntax PlainToken Place
  fixed k = one (λ t. cond (eqb (kind ws t) k) (Some t.place) None)

  abbrev pub mark : ℕ → Syntax PlainToken Place
  mark m = fixed (mark_kind m)

  abbrev pub reserved : Keyword → Syntax PlainToken Place
  reserved k = fixed (keyword_kind k)

  abbrev pub name_of : PlainTokenKind → Option ℕ
  name_of (token.Word n) = cond (eqb (word_kind (word_at ws n)) name_kind) (Some n) None
  name_of _ = None

  -- NAME, by its number
  abbrev pub name : Syntax PlainToken (ℕ × Place)
  name = one (placed name_of)

  abbrev pub any_name_of : PlainTokenKind → Option ℕ
  any_name_of (token.Word n) = cond (among (word_kind (word_at ws n)) first_any_name) (Some n) None
  any_name_of _ = None

  -- ANYNAME: a tag or the name of a member, which may be the name of a type besides (C99 6.2.3)
  abbrev pub any_name : Syntax PlainToken (ℕ × Place)
  any_name = one (placed any_name_of)

  -- ---- types (C99 6.7.2, 6.7.6)

  abbrev pub keyword_of : Word → Option Keyword
  keyword_of (word.Keyword k) = Some k
  keyword_of _ = None

  abbrev pub next_words : IntegerWords → PlainTokenKind → Option IntegerWords
  next_words x (token.Word n) = elim (keyword_of (word_at ws n)) [ None ↦ None | Some k ↦ words_with x k ]
  next_words x _ = None

  unfoldable pub integer_word : IntegerWords → Syntax PlainToken IntegerWords
  integer_word x = one (placed (next_words x)) then λ y. gives y.0

  -- integer words, in any order
  unfoldable pub integer_words : Syntax PlainToken PlainType
  integer_words = integer_word no_words then λ x. many (kind ws) words_behind integer_word x then λ y. gives (Int (integer_type y))

  abbrev pub typedef_name_of : PlainTokenKind → Option PlainType
  typedef_name_of (token.Word n) = type_named_by n (word_at ws n)
  typedef_name_of _ = None

  -- TYPENAME (C99 6.7.7)
  unfoldable pub typedef_name : Syntax PlainToken PlainType
  typedef_name = one (placed typedef_name_of) then λ t. gives t.0

  -- "struct" ANYNAME (C99 6.7.2.3)
  unfoldable pub struct_tag : Syntax PlainToken PlainType
  struct_tag = reserved keyword.Struct then λ _. any_name then λ x. gives (StructTag x.0 x.1)

  -- "enum" ANYNAME
  unfoldable pub enum_tag : Syntax PlainToken PlainType
  enum_tag = reserved keyword.Enum then λ _. any_name then λ x. gives (EnumTag x.0 x.1)

  -- integer words | "void" | TYPENAME
  unfoldable pub untagged_base : Syntax PlainToken PlainType
  untagged_base =
      choice (kind ws) (keyword_kind keyword.Void ∷ []) (reserved keyword.Void then λ _. gives Void)
      (choice (kind ws) (type_name_kind ∷ []) typedef_name integer_words)

  -- integer words | "void" | TYPENAME | "struct" ANYNAME | "enum" ANYNAME
  unfoldable pub base : Syntax PlainToken PlainType
  base =
      choice (kind ws) (keyword_kind keyword.Struct ∷ []) struct_tag
      (choice (kind ws) (keyword_kind keyword.Enum ∷ []) enum_tag untagged_base)

  -- { "const" }, which has no meaning (this profile)
  unfoldable pub consts : {A : Type 0} → A → Syntax PlainToken A
  consts x = many (kind ws) (λ _. keyword_kind keyword.Const ∷ []) (λ y. reserved keyword.Const then λ _. gives y) x

  -- { "const" } base { "const" }
  unfoldable pub type_words : Syntax PlainToken PlainType
  type_words = consts (tt {0}) then λ _. base then λ t. consts t

  -- how a type begins whose first word has the number n
  abbrev pub type_start_of : ℕ → Word → Option TypeStart
  type_start_of n (word.TypeName t) = Some (NameStart (named_type n t))
  type_start_of n (word.Keyword keyword.Const) = Some ConstStart
  type_start_of n (word.Keyword keyword.Void) = Some VoidStart
  type_start_of n (word.Keyword keyword.Struct) = Some StructStart
  type_start_of n (word.Keyword keyword.Enum) = Some EnumStart
  type_start_of n (word.Keyword k) = option_map IntegerStart (words_with no_words k)
  type_start_of n _ = None

  -- the first word of a type, with its number
  abbrev pub type_start : PlainTokenKind → Option (TypeStart × ℕ)
  type_start (token.Word n) = option_map (λ b. (b, n)) (type_start_of n (word_at ws n))
  type_start _ = None

  -- a type after its first word: { "const" } base { "const" }, or what stands after the word in base { "const" }
  unfoldable pub type_behind : TypeStart → Syntax PlainToken PlainType
  type_behind ConstStart = type_words
  type_behind VoidStart = consts Void
  type_behind StructStart = any_name then λ x. consts (StructTag x.0 x.1)
  type_behind EnumStart = any_name then λ x. consts (EnumTag x.0 x.1)
  type_behind (NameStart t) = consts t
  type_behind (IntegerStart x) = many (kind ws) words_behind integer_word x then λ y. consts (Int (integer_type y))

  -- { "const" }, and whether one stands there or stood before
  unfoldable pub more_consts : Bool → Syntax PlainToken Bool
  more_consts b = many (kind ws) (λ _. keyword_kind keyword.Const ∷ []) (λ _. reserved keyword.Const then λ _. gives true) b

  -- "*" { "const" }, and whether a `const` stands there or stood before
  unfoldable pub star : Bool → Syntax PlainToken Bool
  star b = mark times then λ _. more_consts b

  -- "*" { "const" }, after other stars
  unfoldable pub next_star : Stars → Syntax PlainToken Stars
  next_star s = star s.constant then λ c. gives (record { count = s.count + 1; constant = c })

  -- { "*" { "const" } }
  unfoldable pub star_words : Syntax PlainToken Stars
  star_words = many (kind ws) (λ _. mark_kind times ∷ []) next_star no_stars

  -- comma, as the length of an array; E stands for the expression
  unfoldable pub written_length : Syntax PlainToken Expression → Syntax PlainToken PlainLength
  written_length E = E then λ e. gives (Written e)

  -- [ comma ]
  unfoldable pub length_or_none : Syntax PlainToken Expression → Syntax PlainToken PlainLength
  length_or_none E = choice (kind ws) first_expression (written_length E) (gives Left)

  -- "[" length "]"; L stands for the length
  unfoldable pub bracket : Syntax PlainToken PlainLength → Syntax PlainToken PlainLength
  bracket L = mark left_bracket then λ _. L then λ n. mark right_bracket then λ _. gives n

  -- "[" length "]", after other brackets
  unfoldable pub next_bracket : Syntax PlainToken PlainLength → List PlainLength → Syntax PlainToken (List PlainLength)
  next_bracket L ns = bracket L then λ n. gives (ns ++ n ∷ [])

  -- { "[" length "]" }
  unfoldable pub brackets : Syntax PlainToken PlainLength → Syntax PlainToken (List PlainLength)
  brackets L = many (kind ws) (λ _. mark_kind left_bracket ∷ []) (next_bracket L) []

  -- words { "*" { "const" } } { "[" comma "]" }, the type of a cast and of `sizeof` (C99 6.7.6)
  unfoldable pub type_name : Syntax PlainToken Expression → Syntax PlainToken PlainType
  type_name E = type_words then λ t. star_words then λ stars. brackets (written_length E) then λ ns. gives (declared_type t stars ns)

  -- ---- expressions; E stands for an expression with commas inside another, A for one without, O for an operand, by what a type in
  -- parentheses begins

  abbrev pub Operand : Type 1
  Operand = TypeUse → Syntax PlainToken ReadOperand

  -- ")", after what is read
  unfoldable pub closed : {A : Type 0} → A → Syntax PlainToken A
  closed x = mark right_paren then λ _. gives x

  -- "[" comma "]", after a postfix expression (C99 6.5.2.1)
  unfoldable pub indexed : Syntax PlainToken Expression → Expression → Syntax PlainToken Expression
  indexed E x = mark left_bracket then λ at. E then λ i. mark right_bracket then λ _. gives (read_as at (Index x i))

  -- "." ANYNAME (C99 6.5.2.3)
  unfoldable pub dotted : Expression → Syntax PlainToken Expression
  dotted x = mark dot then λ at. any_name then λ m. gives (read_as at (Dot x m.0))

  -- "->" ANYNAME
  unfoldable pub arrowed : Expression → Syntax PlainToken Expression
  arrowed x = mark arrow then λ at. any_name then λ m. gives (read_as at (Arrow x m.0))

  -- "++" | "--"
  unfoldable pub bumped : Expression → Syntax PlainToken Expression
  bumped x = one (placed (mark_entry postfix_bumps)) then λ o. gives (read_as o.1 (Bump o.0 x))

  -- "[" comma "]" | "." ANYNAME | "->" ANYNAME | "++" | "--"
  unfoldable pub postfix_once : Syntax PlainToken Expression → Expression → Syntax PlainToken Expression
  postfix_once E x =
      choice (kind ws) (mark_kind left_bracket ∷ []) (indexed E x)
      (choice (kind ws) (mark_kind dot ∷ []) (dotted x)
      (choice (kind ws) (mark_kind arrow ∷ []) (arrowed x) (bumped x)))

  -- { "[" comma "]" | "." ANYNAME | "->" ANYNAME | "++" | "--" }, after a primary expression or a call
  unfoldable pub postfixes : Syntax PlainToken Expression → Expression → Syntax PlainToken Expression
  postfixes E x = many (kind ws) (λ _. first_postfix) (postfix_once E) x

  -- the rest of a postfix expression, after its primary one or a call, with the place of its first token
  unfoldable pub postfix_rest : Syntax PlainToken Expression → Place → Expression → Syntax PlainToken ReadOperand
  postfix_rest E at x = postfixes E x then λ y. gives (read_operand y form.Postfix at)

  -- NUMBER | CHAR | STRING
  unfoldable pub literal : Syntax PlainToken Expression
  literal =
      choice (kind ws) (number_kind ∷ []) (one (placed number_of) then λ n. gives (read_as n.1 (Number n.0.0 n.0.1)))
      (choice (kind ws) (letter_kind ∷ []) (one (placed letter_of) then λ z. gives (read_as z.1 (Letter z.0)))
      (fixed text_kind then λ at. gives (read_as at (Text at.offset))))

  -- a postfix expression that begins with a literal
  unfoldable pub literal_first : Syntax PlainToken Expression → Syntax PlainToken ReadOperand
  literal_first E = literal then λ x. postfix_rest E (place_of x) x

  -- type ")" cast, after "("
  unfoldable pub cast_rest : Syntax PlainToken Expression → Operand → Place → Syntax PlainToken ReadOperand
  cast_rest E O at = type_name E then λ t. mark right_paren then λ _. O type_use.Casts then λ x. gives
      (read_operand (read_as at (Cast t x.expression)) form.Cast at)

  -- type ")", after "(" of `sizeof`
  unfoldable pub sized_type : Syntax PlainToken Expression → Place → Syntax PlainToken ReadOperand
  sized_type E at = type_name E then λ t. closed (read_operand (read_as at (SizeOfType t)) form.TypeName at)

  -- comma ")" and the rest of a postfix expression, after "("
  unfoldable pub paren_rest : Syntax PlainToken Expression → Place → Syntax PlainToken ReadOperand
  paren_rest E at = E then λ e. mark right_paren then λ _. postfix_rest E at e

  -- what stands after "("
  unfoldable pub behind_paren : Syntax PlainToken Expression → Operand → TypeUse → Place → Syntax PlainToken ReadOperand
  behind_paren E O type_use.Casts at = choice (kind ws) first_type (cast_rest E O at) (paren_rest E at)
  behind_paren E O type_use.Sizes at = choice (kind ws) first_type (sized_type E at) (paren_rest E at)
  behind_paren E O type_use.Nothing at = paren_rest E at

  -- ( "+" | "-" | "!" | "~" | "*" | "&" ) cast
  unfoldable pub prefixed : Operand → Syntax PlainToken ReadOperand
  prefixed O = one (placed (mark_entry unary_operators)) then λ o. O type_use.Casts then λ x. gives
      (read_operand (read_as o.1 (Unary o.0 x.expression)) form.Unary o.1)

  -- "sizeof" unary | "sizeof" "(" type ")" (C99 6.5.3.4)
  unfoldable pub sized : Operand → Syntax PlainToken ReadOperand
  sized O = reserved keyword.Sizeof then λ at. O type_use.Sizes then λ x. gives (read_operand (read_as at (size_of_operand x)) form.Unary at)

  -- ( "++" | "--" ) unary
  unfoldable pub bump_first : Operand → Syntax PlainToken ReadOperand
  bump_first O = one (placed (mark_entry prefix_bumps)) then λ o. O type_use.Nothing then λ x. gives
      (read_operand (read_as o.1 (Bump o.0 x.expression)) form.Unary o.1)

  -- an operand that begins with no name
  unfoldable pub operand_but_name : Syntax PlainToken Expression → Operand → Operand
  operand_but_name E O u =
      choice (kind ws) (mark_kind left_paren ∷ []) (mark left_paren then λ at. behind_paren E O u at)
      (choice (kind ws) (kinds_of unary_operators) (prefixed O)
      (choice (kind ws) (kinds_of prefix_bumps) (bump_first O)
      (choice (kind ws) (keyword_kind keyword.Sizeof ∷ []) (sized O) (literal_first E))))

  -- ---- calls

  -- "," assign, after the arguments before it
  unfoldable pub next_argument : Syntax PlainToken Expression → List Expression → Syntax PlainToken (List Expression)
  next_argument A es = mark comma then λ _. A then λ e. gives (es ++ e ∷ [])

  -- [ assign { "," assign } ]
  unfoldable pub arguments : Syntax PlainToken Expression → Syntax PlainToken (List Expression)
  arguments A = choice (kind ws) first_expression (A then λ e. many (kind ws) (λ _. mark_kind comma ∷ []) (next_argument A) (e ∷ [])) (gives [])

  -- "(" .. ")", after a name
  unfoldable pub call_rest : Syntax PlainToken Expression → ℕ → Syntax PlainToken Expression
  call_rest A f = mark left_paren then λ at. arguments A then λ es. closed (read_as at (Call (use_of f) (expressions es)))

  -- a postfix expression that begins with this name
  unfoldable pub behind_variable : Syntax PlainToken Expression → Syntax PlainToken Expression → ℕ × Place → Syntax PlainToken ReadOperand
  behind_variable E A x =
      choice (kind ws) (mark_kind left_paren ∷ []) (call_rest A x.0 then λ e. postfix_rest E x.1 e) (postfix_rest E x.1 (read_name x))

  -- a unary expression, or what a type in parentheses begins
  unfoldable pub operand_of : Syntax PlainToken Expression → Syntax PlainToken Expression → Operand → Operand
  operand_of E A O u = choice (kind ws) (name_kind ∷ []) (name then behind_variable E A) (operand_but_name E O u)

  unfoldable pub operand : Syntax PlainToken Expression → Syntax PlainToken Expression → Operand
  operand E A = knot (operand_of E A)

  -- an operator of the level with its right operand R, after the left one
  unfoldable pub joined_once : ℕ → Syntax PlainToken Expression → Expression → Syntax PlainToken Expression
  joined_once l R left = one (placed (mark_entry (operators_at l))) then λ o. R then λ right. gives (read_as o.1 (connective_kind o.0 left right))

  -- what stands after an operand: operators of the levels below l with their right operands
  unfoldable pub behind_operand : Syntax PlainToken Expression → Syntax PlainToken Expression → ℕ → Expression → Syntax PlainToken Expression
  behind_operand E A zero x = gives x
  behind_operand E A (suc l) x =
      behind_operand E A l x then λ y.
      many (kind ws) (λ _. kinds_of (operators_at l)) (joined_once l (operand E A type_use.Casts then λ z. behind_operand E A l z.expression)) y

  -- "?" comma ":" cond, after the condition (C99 6.5.15); C stands for a conditional expression
  unfoldable pub choice_rest : Syntax PlainToken Expression → Syntax PlainToken Expression → Expression → Syntax PlainToken Expression
  choice_rest E C x = mark question then λ at. E then λ y. mark colon then λ _. C then λ z. gives (read_as at (Choice x y z))

  -- the rest of a conditional expression, after its first operand
  unfoldable pub conditional_rest :
      Syntax PlainToken Expression → Syntax PlainToken Expression → Syntax PlainToken Expression
      → Expression → Syntax PlainToken Expression
  conditional_rest E A C x = behind_operand E A levels x then λ y. choice (kind ws) (mark_kind question ∷ []) (choice_rest E C y) (gives y)

  -- assign-op assign, after a unary expression (C99 6.5.16)
  unfoldable pub assigned : Syntax PlainToken Expression → Expression → Syntax PlainToken Expression
  assigned A left = one (placed (mark_entry assignment_operators)) then λ o. A then λ right. gives (read_as o.1 (Assign o.0 left right))

  unfoldable pub behind_unary :
      Syntax PlainToken Expression → Syntax PlainToken Expression → Syntax PlainToken Expression
      → Expression → Syntax PlainToken Expression
  behind_unary E A C x = choice (kind ws) (kinds_of assignment_operators) (assigned A x) (conditional_rest E A C x)

  -- what stands after an operand of the form: after a cast no assignment
  unfoldable pub behind_form :
      Syntax PlainToken Expression → Syntax PlainToken Expression → Syntax PlainToken Expression
      → Form → Expression → Syntax PlainToken Expression
  behind_form E A C form.Postfix x = behind_unary E A C x
  behind_form E A C form.Unary x = behind_unary E A C x
  behind_form E A C form.Cast x = conditional_rest E A C x
  behind_form E A C form.TypeName x = conditional_rest E A C x

  unfoldable pub at_level :
      Syntax PlainToken Expression → Syntax PlainToken Expression → Syntax PlainToken Expression
      → Level → Syntax PlainToken Expression
  at_level E A C Assignment = operand E A type_use.Casts then λ x. behind_form E A C x.form x.expression
  at_level E A C Conditional = operand E A type_use.Casts then λ x. conditional_rest E A C x.expression

  -- ---- commas (C99 6.5.17)

  -- "," assign, after the left side
  unfoldable pub next_part : Syntax PlainToken Expression → Expression → Syntax PlainToken Expression
  next_part A x = mark comma then λ at. A then λ y. gives (read_as at (Comma x y))

  -- assign { "," assign }
  unfoldable pub with_commas : Syntax PlainToken Expression → Syntax PlainToken Expression
  with_commas A = A then λ x. many (kind ws) (λ _. mark_kind comma ∷ []) (next_part A) x

  -- ---- all of them

  unfoldable pub expression_of : (Level → Syntax PlainToken Expression) → Level → Syntax PlainToken Expression
  expression_of G l = at_level (with_commas (G Assignment)) (G Assignment) (G Conditional) l

  -- assign, and cond
  unfoldable pub expression_at : Level → Syntax PlainToken Expression
  expression_at = knot expression_of

  -- comma
  unfoldable pub expression : Syntax PlainToken Expression
  expression = with_commas (expression_at Assignment)

  -- what stands behind the first operand, with the place of its first token, as a statement begins with it
  unfoldable pub placed_rest : ReadOperand → Syntax PlainToken (Expression × Place)
  placed_rest x =
      behind_form expression (expression_at Assignment) (expression_at Conditional) x.form x.expression then λ y.
      many (kind ws) (λ _. mark_kind comma ∷ []) (next_part (expression_at Assignment)) y then λ e. gives (e, x.first)

  unfoldable pub placed_expression : Syntax PlainToken (Expression × Place)
  placed_expression = operand expression (expression_at Assignment) type_use.Casts then placed_rest

  -- the same where it begins with no name, and what stands behind a name that it begins with
  unfoldable pub nameless_expression : Syntax PlainToken (Expression × Place)
  nameless_expression =
      operand_but_name expression (operand expression (expression_at Assignment)) type_use.Casts then placed_rest

  unfoldable pub expression_behind : ℕ × Place → Syntax PlainToken (Expression × Place)
  expression_behind x = behind_variable expression (expression_at Assignment) x then placed_rest

  -- ---- expressions that stand in no other

  unfoldable pub full_expression : Syntax PlainToken Expression
  full_expression = at_most expression_limit most_in_expression expression

  unfoldable pub full_placed_expression : Syntax PlainToken (Expression × Place)
  full_placed_expression = at_most expression_limit most_in_expression placed_expression

  unfoldable pub full_nameless_expression : Syntax PlainToken (Expression × Place)
  full_nameless_expression = at_most expression_limit most_in_expression nameless_expression

  -- the name is one of its tokens
  unfoldable pub full_expression_behind : ℕ × Place → Syntax PlainToken (Expression × Place)
  full_expression_behind x = at_most expression_limit (most_in_expression - 1) (expression_behind x)

  unfoldable pub full_expression_at : Level → Syntax PlainToken Expression
  full_expression_at l = at_most expression_limit most_in_expression (expression_at l)
