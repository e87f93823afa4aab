-- The text of each construct, piece after piece.
use Rattle.std.proofs.Common.{◌≡◌, refl, ℕ, ◌+◌, ◌-◌, ◌<◌, ◌≤◌, length, get_or, take, drop, ℤ, None, Some, map, sym, arith, List, [], ◌∷◌, ◌++◌, ap, ◌∙◌, append_assoc}
use Rattle.std.proofs.lemmas.List.{append-nil}
use Rattle.std.proofs.Math.Seq.{take-length}
use Rattle.std.specs.Fmt.{decimal, signed_decimal}
use Rattle.std.specs.Prelude.{suc, pos, negsuc, Bool, true, false, ◌/◌, ◌%◌, if◌then◌else◌}
use Rattle.std.proofs.lemmas.Fmt.{decimal_digit}
use Rattle.mon_syntax.specs.declared.tree.MonFunc.{MonFunc}
use Rattle.mon_syntax.specs.declared.tree.MonStmt.{MonStmt}
use Rattle.mon_syntax.specs.declared.tree.MonStmtKind.{MonStmtKind}
use Rattle.mon_syntax.specs.declared.tree.Register.{Register}
use Rattle.std.specs.Prelude.{codes}
use Rattle.c_syntax.specs.declared.annotation.Kind.{Kind}
use Rattle.c_model.specs.MonitoredTokens.{is_plain}
use Rattle.c_model.specs.Reports.{kind_word}
use Rattle.mon_syntax.specs.declared.tree.MonExpr.{MonExpr}
use Rattle.mon_syntax.specs.declared.tree.MonExprKind.{MonExprKind}
use Rattle.mon_syntax.specs.declared.tree.MonType.{MonType}
use Rattle.mon_syntax.specs.declared.tree.MonOp.{MonOp}
use Rattle.mon_syntax.specs.Names.{constant_word, type_word}
use Rattle.mon_syntax.specs.Trees.{MonExpression, Constant, Binary, Minus, Flip, Cast, Set, Assert, Return, If, Loop, Labelled, MonStatement, MonStatements, MonRegister, MonFunction, plain_expr, plain_expr_kind, plain_stmt, plain_stmt_kind}
use Rattle.mon_syntax.specs.Trees.{plain_stmts, plain_register, plain_func}
use Rattle.mon_syntax.specs.Text.{Piece, FunctionNames, arguments_pieces, more_arguments, set_or_none, Word, Mark, escaped, InSight, Quoted, blank, body_pieces, new_line, right_paren, statements_pieces, registers_pieces, more_parameters}
use Rattle.mon_syntax.specs.Text.{function_pieces, functions_pieces, assert_arguments, call_pieces, expression_pieces, name_of, number_pieces, operator_mark, parameter_pieces, parameters_pieces, result_word, in_parens, semicolon, set_pieces, spelled}
use Rattle.mon_syntax.specs.Text.{spelled_piece, statement_pieces}
use Rattle.std.specs.Prelude.{Option, option_map}
use Rattle.mon_syntax.specs.declared.tree.MonGlobal.{MonGlobal}
use Rattle.mon_syntax.specs.Arithmetic.{is_pointer, byte_count}
use Rattle.mon_syntax.specs.Trees.{Load, Store, Zeros, Literal, MonitoredGlobal, plain_content, plain_global}
use Rattle.mon_syntax.specs.Text.{Number, left_paren, comma, mark_pieces, content_pieces, globals_pieces}
use Rattle.c_printer.specs.Heads.{head_pieces}
use Rattle.c_printer.specs.Sight.{no_names}

pub spelled_append : (a b : List Piece) → spelled (a ++ b) ≡ spelled a ++ spelled b
spelled_append [] b = refl
spelled_append (p ∷ a) b = ap (λ l. spelled_piece p ++ l) (spelled_append a b) ∙ sym (append_assoc (spelled_piece p) (spelled a) (spelled b))

abbrev pub text : InSight → MonExpression → List ℕ
text rs e = spelled (expression_pieces rs e)

pub constant_text : (t : MonType) (z : ℤ) → text no_names (Constant t z) ≡ constant_word t ++ (codes "(" ++ (spelled (number_pieces z) ++ codes ")"))
constant_text t z = ap (λ l. constant_word t ++ (40 ∷ l)) (spelled_append (number_pieces z) _)

-- an integer in decimal
pub number_text : (z : ℤ) → spelled (number_pieces z) ≡ signed_decimal z
number_text (pos n) = append-nil (decimal n)
number_text (negsuc n) = ap (λ l. 45 ∷ l) (append-nil (decimal (suc n)))

pub escaped_text : (b : ℕ) → is_plain b ≡ false → escaped b ≡ 92 ∷ (48 + b / 64) ∷ (48 + b / 8 % 8) ∷ (48 + b % 8) ∷ []
escaped_text b other = ap (λ is. if is then b ∷ [] else 92 ∷ (48 + b / 64) ∷ (48 + b / 8 % 8) ∷ (48 + b % 8) ∷ []) other

pub binary_text : (rs : InSight) (op : MonOp) (t : MonType) (a b : MonExpression) → text rs (Binary op t a b) ≡ (codes "(" ++ (text rs a ++ codes " ")) ++ (operator_mark op ++ (codes " " ++ (text rs b ++ codes ")")))
binary_text rs op t a b =
    ap (λ l. 40 ∷ l)
    (spelled_append (expression_pieces rs a) _
    ∙ ap (λ l. text rs a ++ (32 ∷ (operator_mark op ++ (32 ∷ l)))) (spelled_append (expression_pieces rs b) _)
    ∙ sym (append_assoc (text rs a) (codes " ") (operator_mark op ++ (codes " " ++ (text rs b ++ codes ")")))))

pub minus_text : (rs : InSight) (t : MonType) (a : MonExpression) → text rs (Minus t a) ≡ codes "(-" ++ (text rs a ++ codes ")")
minus_text rs t a = ap (λ l. 40 ∷ 45 ∷ l) (spelled_append (expression_pieces rs a) _)

pub flip_text : (rs : InSight) (t : MonType) (a : MonExpression) → text rs (Flip t a) ≡ codes "(~" ++ (text rs a ++ codes ")")
flip_text rs t a = ap (λ l. 40 ∷ 126 ∷ l) (spelled_append (expression_pieces rs a) _)

pub cast_text : (rs : InSight) (t : MonType) (a : MonExpression) → text rs (Cast t a) ≡ (codes "((" ++ (type_word t ++ codes ")")) ++ (text rs a ++ codes ")")
cast_text rs t a =
    ap (λ l. 40 ∷ 40 ∷ l)
    (ap (λ l. type_word t ++ (41 ∷ l)) (spelled_append (expression_pieces rs a) _) ∙ sym (append_assoc (type_word t) (codes ")") (text rs a ++ codes ")")))

pub load_text : (rs : InSight) (t : MonType) (a : MonExpression) → text rs (Load t a) ≡ (codes "(*(" ++ (type_word t ++ codes " *)")) ++ (text rs a ++ codes ")")
load_text rs t a =
    ap (λ l. 40 ∷ 42 ∷ 40 ∷ l)
    (ap (λ l. type_word t ++ (32 ∷ 42 ∷ 41 ∷ l)) (spelled_append (expression_pieces rs a) _) ∙ sym (append_assoc (type_word t) (codes " *)") (text rs a ++ codes ")")))

-- the text of a tree that is known
pub at_expression : (rs : InSight) (e x : MonExprKind) {bytes : List ℕ} → e ≡ x → text rs (plain_expr_kind x) ≡ bytes → text rs (plain_expr_kind e) ≡ bytes
at_expression rs e x same is = ap (λ y. text rs (plain_expr_kind y)) same ∙ is

pub assignment_text : (rs : InSight) (r : ℕ) (e : MonExpression) → spelled (statement_pieces [] rs 0 (Set r e)) ≡ spelled (set_pieces (name_of rs r)) ++ (text rs e ++ codes ";")
assignment_text rs r e =
    spelled_append (set_pieces (name_of rs r)) (expression_pieces rs e ++ (semicolon ∷ [])) ∙ ap (λ l. spelled (set_pieces (name_of rs r)) ++ l) (spelled_append (expression_pieces rs e) (semicolon ∷ []))

pub call_text : (callee : List ℕ) (rs : InSight) (e : MonExpression) → spelled (call_pieces callee (expression_pieces rs e)) ≡ callee ++ (codes "(" ++ (text rs e ++ codes ");"))
call_text callee rs e = ap (λ l. callee ++ (40 ∷ l)) (spelled_append (expression_pieces rs e) _)

-- the arguments of a call
pub no_arguments_text : (rs : InSight) (l : List MonExpr) → length l < 1 → spelled (arguments_pieces rs (map plain_expr l)) ≡ []
no_arguments_text rs [] none = refl
no_arguments_text rs (e ∷ rest) none = absurd (omega (arith, none))

pub arguments_text : (rs : InSight) (l : List MonExpr) (first : MonExpr) → 1 ≤ length l → first ≡ get_or l 0 first
    → spelled (arguments_pieces rs (map plain_expr l)) ≡ text rs (plain_expr first) ++ spelled (more_arguments rs (map plain_expr (take (length l - 1) (drop 1 l))))
arguments_text rs [] first some same = absurd (omega (arith, some))
arguments_text rs (e ∷ rest) first some same =
    let count : length (e ∷ rest) - 1 ≡ length rest = omega arith in
    let others : take (length (e ∷ rest) - 1) rest ≡ rest = ap (λ n. take n rest) count ∙ take-length rest in
    spelled_append (expression_pieces rs (plain_expr e)) (more_arguments rs (map plain_expr rest))
    ∙ ap (λ x. text rs (plain_expr x) ++ spelled (more_arguments rs (map plain_expr rest))) (sym same)
    ∙ ap (λ x. text rs (plain_expr first) ++ spelled (more_arguments rs (map plain_expr x))) (sym others)

pub arguments_each : (rs : InSight) (e : MonExpr) (rest : List MonExpr) → spelled (more_arguments rs (map plain_expr (e ∷ rest))) ≡ (codes ", " ++ text rs (plain_expr e)) ++ spelled (more_arguments rs (map plain_expr rest))
arguments_each rs e rest = ap (λ l. 44 ∷ 32 ∷ l) (spelled_append (expression_pieces rs (plain_expr e)) (more_arguments rs (map plain_expr rest)))

-- a call up to its last argument
abbrev pub begun_pieces : InSight → Option ℕ → List ℕ → List Piece → List Piece
begun_pieces rs r callee arguments = set_or_none rs r ++ (Word callee ∷ left_paren ∷ arguments)

pub begun_text : (rs : InSight) (r : Option ℕ) (callee : List ℕ) (arguments : List Piece) → spelled (begun_pieces rs r callee arguments) ≡ spelled (set_or_none rs r) ++ (callee ++ (codes "(" ++ spelled arguments))
begun_text rs r callee arguments = spelled_append (set_or_none rs r) (Word callee ∷ left_paren ∷ arguments)

pub call_with_text : (rs : InSight) (r : Option ℕ) (callee : List ℕ) (arguments : List Piece) → spelled (set_or_none rs r ++ call_pieces callee arguments) ≡ spelled (begun_pieces rs r callee arguments) ++ codes ");"
call_with_text rs r callee arguments =
    let end : List Piece = right_paren ∷ semicolon ∷ [] in
    ap spelled (sym (append_assoc (set_or_none rs r) (Word callee ∷ left_paren ∷ arguments) end)) ∙ spelled_append (begun_pieces rs r callee arguments) end

pub memory_text : (rs : InSight) (r : Option ℕ) (callee : List ℕ) (arguments size : List Piece) → spelled (set_or_none rs r ++ call_pieces callee (arguments ++ size)) ≡ spelled (begun_pieces rs r callee arguments) ++ (spelled size ++ codes ");")
memory_text rs r callee arguments size =
    let end : List Piece = right_paren ∷ semicolon ∷ [] in
    ap (λ l. spelled (begun_pieces rs r callee l)) (append_assoc arguments size end)
    ∙ ap spelled (sym (append_assoc (set_or_none rs r) (Word callee ∷ left_paren ∷ arguments) (size ++ end)))
    ∙ spelled_append (begun_pieces rs r callee arguments) (size ++ end)
    ∙ ap (λ l. spelled (begun_pieces rs r callee arguments) ++ l) (spelled_append size end)

-- ---- stores

-- the mark, by whether the type is that of pointers
abbrev mark_by : InSight → ℕ → MonType → Bool → List ℕ
mark_by rs r t pointer =
    spelled (if pointer then call_pieces (codes "__e_acsl_initialize_ptr") (Word (name_of rs r) ∷ []) else call_pieces (codes "__e_acsl_initialize") (Word (name_of rs r) ∷ (comma ++ (Number (byte_count t) ∷ []))))

pub pointer_mark_text : (rs : InSight) (r : ℕ) (t : MonType) → is_pointer t ≡ true → spelled (mark_pieces rs r t) ≡ codes "__e_acsl_initialize_ptr(" ++ (name_of rs r ++ codes ");")
pointer_mark_text rs r t is = ap (mark_by rs r t) is

pub number_mark_text : (rs : InSight) (r : ℕ) (t : MonType) → is_pointer t ≡ false → spelled (mark_pieces rs r t) ≡ (codes "__e_acsl_initialize(" ++ (name_of rs r ++ codes ", ")) ++ (decimal (byte_count t) ++ codes ");")
number_mark_text rs r t other =
    ap (mark_by rs r t) other
    ∙ ap (λ l. codes "__e_acsl_initialize(" ++ l) (sym (append_assoc (name_of rs r) (codes ", ") (decimal (byte_count t) ++ codes ");")))

pub store_text : (rs : InSight) (depth r : ℕ) (t : MonType) (e : MonExpression) → spelled (statement_pieces [] rs depth (Store r t e)) ≡ (codes "*(" ++ (type_word t ++ codes " *)")) ++
    (spelled (set_pieces (name_of rs r)) ++ (text rs e ++ (codes ";" ++ (spelled_piece (new_line depth) ++ spelled (mark_pieces rs r t)))))
store_text rs depth r t e =
    let end : List Piece = semicolon ∷ new_line depth ∷ mark_pieces rs r t in
    let value : spelled (set_pieces (name_of rs r) ++ (expression_pieces rs e ++ end)) ≡ spelled (set_pieces (name_of rs r)) ++ (text rs e ++ spelled end) =
    spelled_append (set_pieces (name_of rs r)) (expression_pieces rs e ++ end) ∙ ap (λ l. spelled (set_pieces (name_of rs r)) ++ l) (spelled_append (expression_pieces rs e) end) in
    ap (λ l. codes "*(" ++ (type_word t ++ (codes " *)" ++ l))) value
    ∙ ap (λ l. codes "*(" ++ l) (sym (append_assoc (type_word t) (codes " *)") (spelled (set_pieces (name_of rs r)) ++ (text rs e ++ spelled end))))

-- the last arguments of an assertion
abbrev end_text : ℕ → ℕ → Kind → List ℕ
end_text number line kind =
    decimal number ++ (codes ", " ++ (decimal line ++ (codes ", " ++ (spelled_piece (Quoted (kind_word kind)) ++ codes ");"))))

pub assertion_text : (rs : InSight) (d v : MonExpression) (number line : ℕ) (kind : Kind) → spelled (statement_pieces [] rs 0 (Assert d v number line kind)) ≡ codes "__e_acsl_assert(" ++
    (text rs d ++ (codes ", " ++ (text rs v ++ (codes ", " ++ end_text number line kind))))
assertion_text rs d v number line kind = ap (λ l. codes "__e_acsl_assert(" ++ l) (spelled_append (assert_arguments rs d v number line (kind_word kind)) _ ∙ ap (λ l. l ++ codes ");") arguments ∙ behind)
  where
    arguments : spelled (assert_arguments rs d v number line (kind_word kind)) ≡ text rs d ++ (codes ", " ++
        (text rs v ++ (codes ", " ++ (decimal number ++ (codes ", " ++ (decimal line ++ (codes ", " ++ (spelled_piece (Quoted (kind_word kind)) ++ []))))))))
    arguments = spelled_append (expression_pieces rs d) _ ∙ ap (λ l. text rs d ++ (codes ", " ++ l)) (spelled_append (expression_pieces rs v) _)

    behind : (text rs d ++ (codes ", " ++ (text rs v ++ (codes ", " ++ (decimal number ++ (codes ", " ++ (decimal line ++ (codes ", " ++ (spelled_piece (Quoted (kind_word kind)) ++ []))))))))) ++ codes ");" ≡ text rs d ++
        (codes ", " ++ (text rs v ++ (codes ", " ++ end_text number line kind)))
    behind = simp append_assoc

pub register_text : (r : MonRegister) → spelled (parameter_pieces r) ≡ type_word r.kind ++ (codes " " ++ r.name)
register_text r = ap (λ l. type_word r.kind ++ (32 ∷ l)) (append-nil r.name)

pub return_text : (rs : InSight) (e : MonExpression) → spelled (statement_pieces [] rs 0 (Return (Some e))) ≡ codes "return " ++ (text rs e ++ codes ";")
return_text rs e = ap (λ l. codes "return " ++ l) (spelled_append (expression_pieces rs e) (semicolon ∷ []))

pub at_return : (rs : InSight) (value : Option MonExpr) (e : MonExpr) → value ≡ Some e → spelled (statement_pieces [] rs 0 (Return (option_map plain_expr value))) ≡ codes "return " ++ (text rs (plain_expr e) ++ codes ";")
at_return rs value e same = ap (λ v. spelled (statement_pieces [] rs 0 (Return (option_map plain_expr v)))) same ∙ return_text rs (plain_expr e)

in_parens_text : (inner behind : List Piece) → spelled ((inner ++ (right_paren ∷ [])) ++ behind) ≡ spelled inner ++ (41 ∷ spelled behind)
in_parens_text inner behind =
    spelled_append (inner ++ (right_paren ∷ [])) behind ∙ ap (λ l. l ++ spelled behind) (spelled_append inner (right_paren ∷ [])) ∙ append_assoc (spelled inner) (41 ∷ []) (spelled behind)

pub if_text : (gs : FunctionNames) (rs : InSight) (depth : ℕ) (e : MonExpression) (a b : MonStatements)
    → spelled (statement_pieces gs rs depth (If e a b)) ≡ codes "if (" ++ (text rs e ++ (codes ") " ++ (spelled (body_pieces gs rs depth a) ++ (codes " else " ++ spelled (body_pieces gs rs depth b)))))
if_text gs rs depth e a b =
    let otherwise : List Piece = blank ∷ Word (codes "else") ∷ blank ∷ body_pieces gs rs depth b in
    ap (λ l. codes "if (" ++ l) (in_parens_text (expression_pieces rs e) (blank ∷ (body_pieces gs rs depth a ++ otherwise)) ∙ ap (λ l. text rs e ++ (41 ∷ 32 ∷ l)) (spelled_append (body_pieces gs rs depth a) otherwise))

pub loop_text : (gs : FunctionNames) (rs : InSight) (depth : ℕ) (a b : MonStatements) → spelled (statement_pieces gs rs depth (Loop a b)) ≡ codes "while (1) {" ++
    (spelled (statements_pieces gs rs (depth + 1) a) ++ (spelled_piece (new_line (depth + 1)) ++ (codes "__e_acsl_step();" ++ (spelled (statements_pieces gs rs (depth + 1) b) ++ (spelled_piece (new_line depth) ++ codes "}")))))
loop_text gs rs depth a b =
    let end : List Piece = new_line depth ∷ Mark (codes "}") ∷ [] in
    let step : List Piece = new_line (depth + 1) ∷ (call_pieces (codes "__e_acsl_step") [] ++ (statements_pieces gs rs (depth + 1) b ++ end)) in
    let one : decimal 1 ≡ 49 ∷ [] = decimal_digit 1 (omega arith) in
    ap (λ n. codes "while (" ++ (n ++ (41 ∷ 32 ∷ 123 ∷ spelled (statements_pieces gs rs (depth + 1) a ++ step)))) one
    ∙ ap (λ l. codes "while (1) {" ++ l) (spelled_append (statements_pieces gs rs (depth + 1) a) step
    ∙ ap (λ l. spelled (statements_pieces gs rs (depth + 1) a) ++ (spelled_piece (new_line (depth + 1)) ++ (codes "__e_acsl_step();" ++ l))) (spelled_append (statements_pieces gs rs (depth + 1) b) end))

pub labelled_text : (gs : FunctionNames) (rs : InSight) (depth : ℕ) (a : MonStatements) (label : List ℕ) → spelled (statement_pieces gs rs depth (Labelled a label)) ≡ spelled (body_pieces gs rs depth a) ++ (codes " " ++ (label ++ codes ": ;"))
labelled_text gs rs depth a label =
    spelled_append (body_pieces gs rs depth a) (blank ∷ Word label ∷ Mark (codes ":") ∷ blank ∷ semicolon ∷ [])

body_cons_text : (gs : FunctionNames) (rs : InSight) (depth : ℕ) (s : MonStmt) (rest : List MonStmt)
    → spelled (body_pieces gs rs depth (plain_stmts (s ∷ rest))) ≡ codes "{" ++ (spelled (statements_pieces gs rs (depth + 1) (plain_stmts (s ∷ rest))) ++ (spelled_piece (new_line depth) ++ codes "}"))
body_cons_text gs rs depth s rest =
    let end : List Piece = new_line depth ∷ Mark (codes "}") ∷ [] in
    let first : List Piece = statement_pieces gs rs (depth + 1) (plain_stmt s) in
    let others : List Piece = statements_pieces gs rs (depth + 1) (plain_stmts rest) in
    ap (λ l. 123 ∷ spelled (new_line (depth + 1) ∷ l)) (sym (append_assoc first others end)) ∙ ap (λ l. 123 ∷ l) (spelled_append (new_line (depth + 1) ∷ (first ++ others)) end)

pub body_text : (gs : FunctionNames) (rs : InSight) (depth : ℕ) (l : List MonStmt) → 0 < length l → spelled (body_pieces gs rs depth (plain_stmts l)) ≡ codes "{" ++ (spelled (statements_pieces gs rs (depth + 1) (plain_stmts l)) ++
    (spelled_piece (new_line depth) ++ codes "}"))
body_text gs rs depth [] some = absurd (omega (arith, some))
body_text gs rs depth (s ∷ rest) some = body_cons_text gs rs depth s rest

pub no_body_text : (gs : FunctionNames) (rs : InSight) (depth : ℕ) (l : List MonStmt) → length l ≡ 0 → spelled (body_pieces gs rs depth (plain_stmts l)) ≡ codes "{ }"
no_body_text gs rs depth [] none = refl
no_body_text gs rs depth (s ∷ rest) none = absurd (omega (arith, none))

-- ---- the text of a statement that is known

abbrev pub statement_text : FunctionNames → InSight → ℕ → MonStmtKind → List ℕ
statement_text gs rs depth s = spelled (statement_pieces gs rs depth (plain_stmt_kind s))

-- the first two arguments of an assertion, each with what is around it, and then the last ones
pub assertion_parts : (rs : InSight) (d v : MonExpression) (number line : ℕ) (kind : Kind) → spelled (statement_pieces [] rs 0 (Assert d v number line kind)) ≡ (codes "__e_acsl_assert(" ++ (text rs d ++ codes ", ")) ++
    ((text rs v ++ codes ", ") ++ end_text number line kind)
assertion_parts rs d v number line kind = assertion_text rs d v number line kind ∙ regrouped
  where
    regrouped : codes "__e_acsl_assert(" ++ (text rs d ++ (codes ", " ++ (text rs v ++ (codes ", " ++ end_text number line kind)))) ≡ (codes "__e_acsl_assert(" ++ (text rs d ++ codes ", ")) ++ ((text rs v ++ codes ", ") ++ end_text number line kind)
    regrouped = simp append_assoc

-- a body around it changes nothing
pub return_anywhere : (gs : FunctionNames) (rs : InSight) (depth : ℕ) (value : Option MonExpression) → spelled (statement_pieces gs rs depth (Return value)) ≡ spelled (statement_pieces [] rs 0 (Return value))
return_anywhere gs rs depth None = refl
return_anywhere gs rs depth (Some e) = refl

pub choice_text : (gs : FunctionNames) (rs : InSight) (depth : ℕ) (e : MonExpression) (a b : MonStatements)
    → spelled (statement_pieces gs rs depth (If e a b)) ≡ (codes "if (" ++ (text rs e ++ codes ") ")) ++ (spelled (body_pieces gs rs depth a) ++ (codes " else " ++ spelled (body_pieces gs rs depth b)))
choice_text gs rs depth e a b =
    let branches = spelled (body_pieces gs rs depth a) ++ (codes " else " ++ spelled (body_pieces gs rs depth b)) in
    if_text gs rs depth e a b ∙ ap (λ l. codes "if (" ++ l) (sym (append_assoc (text rs e) (codes ") ") branches))

pub turns_text : (gs : FunctionNames) (rs : InSight) (depth : ℕ) (a b : MonStatements) → spelled (statement_pieces gs rs depth (Loop a b)) ≡ codes "while (1) {" ++
    (spelled (statements_pieces gs rs (depth + 1) a) ++ ((spelled_piece (new_line (depth + 1)) ++ codes "__e_acsl_step();") ++ (spelled (statements_pieces gs rs (depth + 1) b) ++ (spelled_piece (new_line depth) ++ codes "}"))))
turns_text gs rs depth a b =
    let behind = spelled (statements_pieces gs rs (depth + 1) b) ++ (spelled_piece (new_line depth) ++ codes "}") in
    let step = append_assoc (spelled_piece (new_line (depth + 1))) (codes "__e_acsl_step();") behind in
    loop_text gs rs depth a b ∙ ap (λ l. codes "while (1) {" ++ (spelled (statements_pieces gs rs (depth + 1) a) ++ l)) (sym step)

-- a statement of this form
pub at_kind : (gs : FunctionNames) (rs : InSight) (depth : ℕ) (s k : MonStmtKind) (x : MonStatement) → s ≡ k → plain_stmt_kind k ≡ x → statement_text gs rs depth s ≡ spelled (statement_pieces gs rs depth x)
at_kind gs rs depth s k x same is = ap (statement_text gs rs depth) same ∙ ap (λ y. spelled (statement_pieces gs rs depth y)) is

pub statements_each : (gs : FunctionNames) (rs : InSight) (depth : ℕ) (s : MonStmt) (rest : List MonStmt)
    → spelled (statements_pieces gs rs depth (plain_stmts (s ∷ rest))) ≡ (spelled_piece (new_line depth) ++ statement_text gs rs depth s.kind.value) ++ spelled (statements_pieces gs rs depth (plain_stmts rest))
statements_each gs rs depth s rest =
    let line = spelled_piece (new_line depth) in
    let first : List Piece = statement_pieces gs rs depth (plain_stmt s) in
    let others : List Piece = statements_pieces gs rs depth (plain_stmts rest) in
    ap (λ l. line ++ l) (spelled_append first others) ∙ sym (append_assoc line (spelled first) (spelled others))

-- ---- functions

pub no_parameters_text : (l : List Register) → length l < 1 → spelled (parameters_pieces (map plain_register l)) ≡ codes "void"
no_parameters_text [] none = refl
no_parameters_text (r ∷ rest) none = absurd (omega (arith, none))

-- the first parameter and the others
pub parameters_text : (l : List Register) (first : Register) → 1 ≤ length l → first ≡ get_or l 0 first
    → spelled (parameters_pieces (map plain_register l)) ≡ spelled (parameter_pieces (plain_register first)) ++ spelled (more_parameters (map plain_register (take (length l - 1) (drop 1 l))))
parameters_text [] first some same = absurd (omega (arith, some))
parameters_text (r ∷ rest) first some same =
    let count : length (r ∷ rest) - 1 ≡ length rest = omega arith in
    let others : take (length (r ∷ rest) - 1) rest ≡ rest = ap (λ n. take n rest) count ∙ take-length rest in
    spelled_append (parameter_pieces (plain_register r)) (more_parameters (map plain_register rest))
    ∙ ap (λ x. spelled (parameter_pieces (plain_register x)) ++ spelled (more_parameters (map plain_register rest))) (sym same)
    ∙ ap (λ x. spelled (parameter_pieces (plain_register first)) ++ spelled (more_parameters (map plain_register x))) (sym others)

pub head_text : (f : MonFunction) → spelled (head_pieces f) ≡ (result_word f.result ++ (codes " " ++ f.name)) ++ (codes "(" ++ (spelled (parameters_pieces f.parameters) ++ (codes ") {" ++ spelled (registers_pieces f.registers))))
head_text f =
    let rest = codes "(" ++ (spelled (parameters_pieces f.parameters) ++ (codes ") {" ++ spelled (registers_pieces f.registers))) in
    ap (λ l. result_word f.result ++ (32 ∷ (f.name ++ (40 ∷ l)))) (in_parens_text (parameters_pieces f.parameters) (blank ∷ Mark (codes "{") ∷ registers_pieces f.registers))
    ∙ sym (append_assoc (result_word f.result) (codes " " ++ f.name) rest)

-- what has a name in a function
abbrev pub sight_in : List MonitoredGlobal → MonFunction → InSight
sight_in globals f = record { registers = f.parameters ++ f.registers; globals = globals }

pub function_text : (gs : FunctionNames) (globals : List MonitoredGlobal) (f : MonFunction) → spelled (function_pieces gs globals f) ≡ spelled (head_pieces f) ++ (spelled (statements_pieces gs (sight_in globals f) 1 f.body) ++
    ((spelled_piece (new_line 0) ++ codes "}") ++ spelled_piece (new_line 0)))
function_text gs globals f =
    let end : List Piece = new_line 0 ∷ Mark (codes "}") ∷ new_line 0 ∷ [] in
    let code : List Piece = statements_pieces gs (sight_in globals f) 1 f.body in
    let opened : List Piece = blank ∷ Mark (codes "{") ∷ registers_pieces f.registers in
    ap (λ l. spelled (Word (result_word f.result) ∷ blank ∷ Word f.name ∷ l)) (sym (append_assoc (in_parens (parameters_pieces f.parameters)) opened (code ++ end)))
    ∙ spelled_append (head_pieces f) (code ++ end)
    ∙ ap (λ l. spelled (head_pieces f) ++ l) (spelled_append code end)

-- ---- lists of parts

pub registers_each : (r : Register) (rest : List Register) → spelled (registers_pieces (map plain_register (r ∷ rest))) ≡ (spelled_piece (new_line 1) ++ (spelled (parameter_pieces (plain_register r)) ++ codes ";")) ++ spelled
    (registers_pieces (map plain_register rest))
registers_each r rest = simp append_assoc

pub parameters_each : (r : Register) (rest : List Register) → spelled (more_parameters (map plain_register (r ∷ rest))) ≡ (codes ", " ++ spelled (parameter_pieces (plain_register r))) ++ spelled (more_parameters (map plain_register rest))
parameters_each r rest = simp append_assoc

pub functions_each : (gs : FunctionNames) (globals : List MonitoredGlobal) (f : MonFunc) (rest : List MonFunc)
    → spelled (functions_pieces gs globals (map plain_func (f ∷ rest))) ≡ spelled (function_pieces gs globals (plain_func f)) ++ spelled (functions_pieces gs globals (map plain_func rest))
functions_each gs globals f rest = spelled_append (function_pieces gs globals (plain_func f)) (functions_pieces gs globals (map plain_func rest))

-- ---- globals

pub zeros_text : (name : List ℕ) (n : ℕ) → spelled (content_pieces name (Zeros n)) ≡ (codes "char " ++ (name ++ codes "[")) ++ (decimal n ++ codes "];")
zeros_text name n = ap (λ l. codes "char " ++ l) (sym (append_assoc name (codes "[") (decimal n ++ codes "];")))

pub literal_text : (name bytes : List ℕ) → spelled (content_pieces name (Literal bytes)) ≡ (codes "const char " ++ (name ++ codes "[")) ++ (decimal (length bytes + 1) ++ (codes "] = " ++ (spelled_piece (Quoted bytes) ++ codes ";")))
literal_text name bytes = ap (λ l. codes "const char " ++ l) (sym (append_assoc name (codes "[") (decimal (length bytes + 1) ++ (codes "] = " ++ (spelled_piece (Quoted bytes) ++ codes ";")))))

abbrev pub global_text : MonGlobal → List ℕ
global_text g = spelled (content_pieces g.name (plain_content g.content))

pub globals_each : (g : MonGlobal) (rest : List MonGlobal) → spelled (globals_pieces (map plain_global (g ∷ rest))) ≡ (codes "static " ++ (global_text g ++ spelled_piece (new_line 0))) ++ spelled (globals_pieces (map plain_global rest))
globals_each g rest =
    let others = spelled (globals_pieces (map plain_global rest)) in
    ap (λ l. codes "static " ++ l) (spelled_append (content_pieces g.name (plain_content g.content)) (new_line 0 ∷ globals_pieces (map plain_global rest)) ∙ sym (append_assoc (global_text g) (spelled_piece (new_line 0)) others))
