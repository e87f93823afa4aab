-- Ours: how monitored C is printed.
-- The text of a program in monitored C: one statement a line, indented by two blanks for each body around it.
use Rattle.std.specs.Prelude.{ℕ, suc, ◌+◌, ◌*◌, ◌/◌, ◌%◌, ℤ, pos, negsuc, List, [], ◌∷◌, ◌++◌, replicate, Option, Some, None, if◌then◌else◌}
use Rattle.std.specs.Prelude.{slice_get, codes, map}
use Rattle.std.specs.Fmt.{decimal}
use Rattle.c_model.specs.MonitoredTokens.{is_plain}
use Rattle.c_model.specs.Reports.{kind_word}
use Rattle.mon_syntax.specs.declared.tree.MonType.{MonType}
use Rattle.mon_syntax.specs.declared.tree.MonOp.{MonOp}
use Rattle.mon_syntax.specs.declared.tree.MonOp.TheVariants.{Add, Sub, Mul, Div, Rem, Shl, Shr, And, Or, Xor, Eq, Ne, Lt, Le, Gt, Ge}
use Rattle.mon_syntax.specs.declared.tree.MemoryCall.{MemoryCall}
use Rattle.mon_syntax.specs.declared.tree.MemoryCall.TheVariants as memory_call
use Rattle.mon_syntax.specs.Trees.{MonExpression, Register, Global, Constant, Binary, Minus, Flip, Cast, Load, MonStatement, Set, Store, Step, Assert}
use Rattle.mon_syntax.specs.Trees.{PutChar, GetChar, Exit, PlainContent, Zeros, Literal, MonitoredGlobal, PrintString}
use Rattle.mon_syntax.specs.Trees.{PrintText, PrintSigned, PrintUnsigned, Act, Call, If, Loop, Labelled, Goto, Return, MonStatements, NoStatement, Then}
use Rattle.mon_syntax.specs.Trees.{MonRegister, MonFunction, MonitoredProgram}
use Rattle.mon_syntax.specs.Arithmetic.{access_bytes, copy_bytes, byte_count, is_pointer}
use Rattle.mon_syntax.specs.Globals.{size_of_content}
use Rattle.mon_syntax.specs.Names.{type_word, constant_word}

-- ---- pieces of a text

pub data Piece : Type 0 where
  -- the first line
  Head : Piece
  Word : List ℕ → Piece
  Number : ℕ → Piece
  -- a string of these bytes
  Quoted : List ℕ → Piece
  Mark : List ℕ → Piece
  Blanks : List ℕ → Piece

-- a byte that stands for itself in a string, and `\` and three octal digits for another
abbrev pub escaped : ℕ → List ℕ
escaped b = if is_plain b then b ∷ [] else 92 ∷ (48 + b / 64) ∷ (48 + b / 8 % 8) ∷ (48 + b % 8) ∷ []

abbrev pub quoted : List ℕ → List ℕ
quoted [] = 34 ∷ []
quoted (b ∷ bs) = escaped b ++ quoted bs

abbrev pub spelled_piece : Piece → List ℕ
spelled_piece Head = codes "#include <e_acsl.h>"
spelled_piece (Word w) = w
spelled_piece (Number n) = decimal n
spelled_piece (Quoted bytes) = 34 ∷ quoted bytes
spelled_piece (Mark m) = m
spelled_piece (Blanks b) = b

abbrev pub spelled : List Piece → List ℕ
spelled [] = []
spelled (p ∷ ps) = spelled_piece p ++ spelled ps

abbrev pub blank : Piece
blank = Blanks (32 ∷ [])

-- the end of a line, and the blanks before the next one, inside so many bodies
abbrev pub new_line : ℕ → Piece
new_line depth = Blanks (10 ∷ replicate (2 * depth) 32)

abbrev pub left_paren : Piece
left_paren = Mark (codes "(")

abbrev pub right_paren : Piece
right_paren = Mark (codes ")")

abbrev pub comma : List Piece
comma = Mark (codes ",") ∷ blank ∷ []

abbrev pub semicolon : Piece
semicolon = Mark (codes ";")

-- ---- expressions

abbrev pub operator_mark : MonOp → List ℕ
operator_mark Add = codes "+"
operator_mark Sub = codes "-"
operator_mark Mul = codes "*"
operator_mark Div = codes "/"
operator_mark Rem = codes "%"
operator_mark Shl = codes "<<"
operator_mark Shr = codes ">>"
operator_mark And = codes "&"
operator_mark Or = codes "|"
operator_mark Xor = codes "^"
operator_mark Eq = codes "=="
operator_mark Ne = codes "!="
operator_mark Lt = codes "<"
operator_mark Le = codes "<="
operator_mark Gt = codes ">"
operator_mark Ge = codes ">="

abbrev pub Registers : Type 0
Registers = List MonRegister

-- what has a name in a function: its registers and the globals, by number
pub record InSight : Type 0 where
  pub registers : Registers
  pub globals : List MonitoredGlobal

abbrev pub name_or_none : Option MonRegister → List ℕ
name_or_none None = []
name_or_none (Some r) = r.name

abbrev pub name_of : InSight → ℕ → List ℕ
name_of rs r = name_or_none (slice_get rs.registers r)

abbrev pub global_or_none : Option MonitoredGlobal → List ℕ
global_or_none None = []
global_or_none (Some g) = g.name

abbrev pub global_name : InSight → ℕ → List ℕ
global_name rs g = global_or_none (slice_get rs.globals g)

abbrev pub number_pieces : ℤ → List Piece
number_pieces (pos n) = Number n ∷ []
number_pieces (negsuc n) = Mark (codes "-") ∷ Number (suc n) ∷ []

-- (t *)
abbrev pub pointed_type : MonType → List Piece
pointed_type t = left_paren ∷ Word (type_word t) ∷ blank ∷ Mark (codes "*") ∷ right_paren ∷ []

abbrev pub expression_pieces : InSight → MonExpression → List Piece
expression_pieces rs (Register r) = Word (name_of rs r) ∷ []
expression_pieces rs (Global g) = Word (global_name rs g) ∷ []
expression_pieces rs (Constant t z) = Word (constant_word t) ∷ left_paren ∷ (number_pieces z ++ (right_paren ∷ []))
expression_pieces rs (Binary op t a b) =
    left_paren ∷ (expression_pieces rs a ++ (blank ∷ Mark (operator_mark op) ∷ blank ∷ (expression_pieces rs b ++ (right_paren ∷ []))))
expression_pieces rs (Minus t a) = left_paren ∷ Mark (codes "-") ∷ (expression_pieces rs a ++ (right_paren ∷ []))
expression_pieces rs (Flip t a) = left_paren ∷ Mark (codes "~") ∷ (expression_pieces rs a ++ (right_paren ∷ []))
expression_pieces rs (Cast t a) =
    left_paren ∷ left_paren ∷ Word (type_word t) ∷ right_paren ∷ (expression_pieces rs a ++ (right_paren ∷ []))
expression_pieces rs (Load t a) =
    left_paren ∷ Mark (codes "*") ∷ (pointed_type t ++ (expression_pieces rs a ++ (right_paren ∷ [])))

-- ---- statements

-- NAME(..);
abbrev pub call_pieces : List ℕ → List Piece → List Piece
call_pieces name arguments = Word name ∷ left_paren ∷ (arguments ++ (right_paren ∷ semicolon ∷ []))

-- R =
abbrev pub set_pieces : List ℕ → List Piece
set_pieces name = Word name ∷ blank ∷ Mark (codes "=") ∷ blank ∷ []

abbrev pub set_or_none : InSight → Option ℕ → List Piece
set_or_none rs None = []
set_or_none rs (Some r) = set_pieces (name_of rs r)

-- arguments after the first one
abbrev pub more_arguments : InSight → List MonExpression → List Piece
more_arguments rs [] = []
more_arguments rs (e ∷ es) = comma ++ (expression_pieces rs e ++ more_arguments rs es)

abbrev pub arguments_pieces : InSight → List MonExpression → List Piece
arguments_pieces rs [] = []
arguments_pieces rs (e ∷ es) = expression_pieces rs e ++ more_arguments rs es

abbrev pub memory_word : MemoryCall → List ℕ
memory_word memory_call.StoreBlock = codes "__e_acsl_store_block"
memory_word memory_call.DeleteBlock = codes "__e_acsl_delete_block"
memory_word (memory_call.Copy a) = codes "__e_acsl_copy"
memory_word (memory_call.Number a) = codes "__e_acsl_number"
memory_word (memory_call.Valid a) = codes "__e_acsl_valid"
memory_word (memory_call.ValidRead a) = codes "__e_acsl_valid_read"
memory_word (memory_call.Initialized a) = codes "__e_acsl_initialized"
memory_word memory_call.Pointer = codes "__e_acsl_pointer"
memory_word memory_call.Inside = codes "__e_acsl_inside"
memory_word memory_call.BaseAddr = codes "__e_acsl_base_addr"
memory_word memory_call.BlockLength = codes "__e_acsl_block_length"
memory_word memory_call.Offset = codes "__e_acsl_offset"
memory_word memory_call.Separated = codes "__e_acsl_separated"
memory_word memory_call.Malloc = codes "__e_acsl_malloc"
memory_word memory_call.Calloc = codes "__e_acsl_calloc"
memory_word memory_call.Free = codes "__e_acsl_free"

-- the number after the arguments of such a call
abbrev pub size_argument : MemoryCall → List Piece
size_argument memory_call.StoreBlock = []
size_argument memory_call.DeleteBlock = []
size_argument (memory_call.Copy a) = comma ++ (Number (copy_bytes a) ∷ [])
size_argument (memory_call.Number a) = comma ++ (Number (access_bytes a) ∷ [])
size_argument (memory_call.Valid a) = comma ++ (Number (access_bytes a) ∷ [])
size_argument (memory_call.ValidRead a) = comma ++ (Number (access_bytes a) ∷ [])
size_argument (memory_call.Initialized a) = comma ++ (Number (access_bytes a) ∷ [])
size_argument memory_call.Pointer = []
size_argument memory_call.Inside = []
size_argument memory_call.BaseAddr = []
size_argument memory_call.BlockLength = []
size_argument memory_call.Offset = []
size_argument memory_call.Separated = []
size_argument memory_call.Malloc = []
size_argument memory_call.Calloc = []
size_argument memory_call.Free = []

-- the names of functions, by number
abbrev pub FunctionNames : Type 0
FunctionNames = List (List ℕ)

abbrev pub bytes_or_none : Option (List ℕ) → List ℕ
bytes_or_none None = []
bytes_or_none (Some w) = w

abbrev pub function_name : FunctionNames → ℕ → List ℕ
function_name gs f = bytes_or_none (slice_get gs f)

abbrev pub assert_arguments : InSight → MonExpression → MonExpression → ℕ → ℕ → List ℕ → List Piece
assert_arguments rs d v number line kind =
    expression_pieces rs d ++ (comma ++ (expression_pieces rs v ++ (comma ++ (Number number ∷ (comma ++ (Number line ∷ (comma ++ (Quoted kind ∷ []))))))))

-- the mark of a store: what was stored at the pointer of a register
abbrev pub mark_pieces : InSight → ℕ → MonType → List Piece
mark_pieces rs r t =
    if is_pointer t then call_pieces (codes "__e_acsl_initialize_ptr") (Word (name_of rs r) ∷ [])
    else call_pieces (codes "__e_acsl_initialize") (Word (name_of rs r) ∷ (comma ++ (Number (byte_count t) ∷ [])))

-- (e)
abbrev pub in_parens : List Piece → List Piece
in_parens inner = left_paren ∷ (inner ++ (right_paren ∷ []))

abbrev pub word_statement : List ℕ → List Piece → List Piece
word_statement word rest = Word word ∷ blank ∷ (rest ++ (semicolon ∷ []))

abbrev mutual
  pub statement_pieces : FunctionNames → InSight → ℕ → MonStatement → List Piece
  statement_pieces gs rs depth (Set r e) = set_pieces (name_of rs r) ++ (expression_pieces rs e ++ (semicolon ∷ []))
  statement_pieces gs rs depth (Store r t e) =
      Mark (codes "*") ∷ (pointed_type t ++ (set_pieces (name_of rs r) ++ (expression_pieces rs e ++ (semicolon ∷ new_line depth ∷ mark_pieces rs r t))))
  statement_pieces gs rs depth Step = call_pieces (codes "__e_acsl_step") []
  statement_pieces gs rs depth (Assert d v number line kind) = call_pieces (codes "__e_acsl_assert") (assert_arguments rs d v number line (kind_word kind))
  statement_pieces gs rs depth (PutChar r e) = set_or_none rs r ++ call_pieces (codes "putchar") (expression_pieces rs e)
  statement_pieces gs rs depth (GetChar r) = set_or_none rs r ++ call_pieces (codes "getchar") []
  statement_pieces gs rs depth (Exit e) = call_pieces (codes "exit") (expression_pieces rs e)
  statement_pieces gs rs depth (PrintText bytes) = call_pieces (codes "__e_acsl_print_text") (Quoted bytes ∷ [])
  statement_pieces gs rs depth (PrintSigned e) = call_pieces (codes "__e_acsl_print_i64") (expression_pieces rs e)
  statement_pieces gs rs depth (PrintUnsigned e) = call_pieces (codes "__e_acsl_print_u64") (expression_pieces rs e)
  statement_pieces gs rs depth (PrintString e) = call_pieces (codes "__e_acsl_print_str") (expression_pieces rs e)
  statement_pieces gs rs depth (Act r f args) = set_or_none rs r ++ call_pieces (memory_word f) (arguments_pieces rs args ++ size_argument f)
  statement_pieces gs rs depth (Call r f args) = set_or_none rs r ++ call_pieces (function_name gs f) (arguments_pieces rs args)
  statement_pieces gs rs depth (If e a b) =
      Word (codes "if") ∷ blank ∷ (in_parens (expression_pieces rs e) ++
      (blank ∷ (body_pieces gs rs depth a ++ (blank ∷ Word (codes "else") ∷ blank ∷ body_pieces gs rs depth b))))
  statement_pieces gs rs depth (Loop a b) =
      Word (codes "while") ∷ blank ∷ (in_parens (Number 1 ∷ []) ++ (blank ∷ Mark (codes "{") ∷ (statements_pieces gs rs (depth + 1) a
      ++ (new_line (depth + 1) ∷ (call_pieces (codes "__e_acsl_step") [] ++
      (statements_pieces gs rs (depth + 1) b ++ (new_line depth ∷ Mark (codes "}") ∷ [])))))))
  statement_pieces gs rs depth (Labelled a l) = body_pieces gs rs depth a ++ (blank ∷ Word l ∷ Mark (codes ":") ∷ blank ∷ semicolon ∷ [])
  statement_pieces gs rs depth (Goto l) = word_statement (codes "goto") (Word l ∷ [])
  statement_pieces gs rs depth (Return None) = Word (codes "return") ∷ semicolon ∷ []
  statement_pieces gs rs depth (Return (Some e)) = word_statement (codes "return") (expression_pieces rs e)

  -- { .. }, with its end on a line of its own where statements stand in it
  pub body_pieces : FunctionNames → InSight → ℕ → MonStatements → List Piece
  body_pieces gs rs depth NoStatement = Mark (codes "{") ∷ blank ∷ Mark (codes "}") ∷ []
  body_pieces gs rs depth (Then a rest) =
      Mark (codes "{") ∷ new_line (depth + 1) ∷ (statement_pieces gs rs (depth + 1) a ++
      (statements_pieces gs rs (depth + 1) rest ++ (new_line depth ∷ Mark (codes "}") ∷ [])))

  -- each statement on a line of its own
  pub statements_pieces : FunctionNames → InSight → ℕ → MonStatements → List Piece
  statements_pieces gs rs depth NoStatement = []
  statements_pieces gs rs depth (Then a rest) = new_line depth ∷ (statement_pieces gs rs depth a ++ statements_pieces gs rs depth rest)

-- ---- functions

abbrev pub result_word : Option MonType → List ℕ
result_word None = codes "void"
result_word (Some t) = type_word t

abbrev pub parameter_pieces : MonRegister → List Piece
parameter_pieces r = Word (type_word r.kind) ∷ blank ∷ Word r.name ∷ []

abbrev pub more_parameters : Registers → List Piece
more_parameters [] = []
more_parameters (r ∷ rs) = comma ++ (parameter_pieces r ++ more_parameters rs)

abbrev pub parameters_pieces : Registers → List Piece
parameters_pieces [] = Word (codes "void") ∷ []
parameters_pieces (r ∷ rs) = parameter_pieces r ++ more_parameters rs

abbrev pub registers_pieces : Registers → List Piece
registers_pieces [] = []
registers_pieces (r ∷ rs) = new_line 1 ∷ Word (type_word r.kind) ∷ blank ∷ Word r.name ∷ semicolon ∷ registers_pieces rs

abbrev pub function_pieces : FunctionNames → List MonitoredGlobal → MonFunction → List Piece
function_pieces gs globals f =
    let rs : InSight = record { registers = f.parameters ++ f.registers; globals = globals } in
    Word (result_word f.result) ∷ blank ∷ Word f.name ∷ (in_parens (parameters_pieces f.parameters) ++ (blank ∷ Mark (codes "{")
    ∷ (registers_pieces f.registers ++ (statements_pieces gs rs 1 f.body ++ (new_line 0 ∷ Mark (codes "}") ∷ new_line 0 ∷ [])))))

abbrev pub functions_pieces : FunctionNames → List MonitoredGlobal → List MonFunction → List Piece
functions_pieces gs globals [] = []
functions_pieces gs globals (f ∷ fs) = function_pieces gs globals f ++ functions_pieces gs globals fs

-- ---- globals and literals, each on a line of its own

abbrev pub size_pieces : PlainContent → List Piece
size_pieces c = Mark (codes "[") ∷ Number (size_of_content c) ∷ Mark (codes "]") ∷ []

abbrev pub content_pieces : List ℕ → PlainContent → List Piece
content_pieces name (Zeros n) = Word (codes "char") ∷ blank ∷ Word name ∷ (size_pieces (Zeros n) ++ (semicolon ∷ []))
content_pieces name (Literal bytes) =
    Word (codes "const") ∷ blank ∷ Word (codes "char") ∷ blank ∷ Word name
    ∷ (size_pieces (Literal bytes) ++ (blank ∷ Mark (codes "=") ∷ blank ∷ Quoted bytes ∷ semicolon ∷ []))

abbrev pub globals_pieces : List MonitoredGlobal → List Piece
globals_pieces [] = []
globals_pieces (g ∷ gs) = Word (codes "static") ∷ blank ∷ (content_pieces g.name g.content ++ (new_line 0 ∷ globals_pieces gs))

abbrev pub program_pieces : MonitoredProgram → List Piece
program_pieces m =
    Head ∷ new_line 0 ∷ (globals_pieces m.globals ++ functions_pieces (map (λ (f : MonFunction). f.name) m.functions) m.globals m.functions)

-- the text of a program
abbrev pub text_of : MonitoredProgram → List ℕ
text_of m = spelled (program_pieces m)
