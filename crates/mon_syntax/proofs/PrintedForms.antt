-- The pieces of each form before others, as one list.
use Rattle.std.proofs.Common.{◌≡◌, ℕ, ◌+◌, List, [], ◌∷◌, ◌++◌, codes, sym, ap, ◌∙◌, append_assoc}
use Rattle.mon_syntax.specs.declared.tree.MonType.{MonType}
use Rattle.mon_syntax.specs.declared.tree.MonOp.{MonOp}
use Rattle.mon_syntax.specs.declared.tree.MemoryCall.{MemoryCall}
use Rattle.mon_syntax.specs.Trees.{MonExpression, Binary, MonStatement, Store, If, Loop, Labelled, MonStatements, Then, MonFunction, MonitoredGlobal}
use Rattle.mon_syntax.specs.Text.{Piece, Word, Number, Quoted, Mark, blank, new_line, left_paren, right_paren, semicolon, operator_mark, InSight, expression_pieces, more_arguments, assert_arguments, FunctionNames, body_pieces, statement_pieces}
use Rattle.mon_syntax.specs.Text.{name_of, set_pieces, pointed_type, mark_pieces, size_argument, statements_pieces, result_word, parameters_pieces, registers_pieces, function_pieces}

abbrev pub Pieces : Type 0
Pieces = List Piece

module _ (rs : InSight) (more : Pieces) where
  -- ---- expressions

  pub binary_is : (op : MonOp) (t : MonType) (a b : MonExpression) → expression_pieces rs (Binary op t a b) ++ more ≡ left_paren ∷
      (expression_pieces rs a ++ (blank ∷ Mark (operator_mark op) ∷ blank ∷ (expression_pieces rs b ++ (right_paren ∷ more))))
  binary_is op t a b =
      let A = expression_pieces rs a in
      let B = expression_pieces rs b in
      let front : Pieces → Pieces = λ l. blank ∷ Mark (operator_mark op) ∷ blank ∷ l in
      ap (λ (l : Pieces). left_paren ∷ l) (append_assoc A (front (B ++ (right_paren ∷ []))) more ∙ ap (λ (l : Pieces). A ++ front l) (append_assoc B (right_paren ∷ []) more))

  -- an expression and a parenthesis
  pub closed_is : (e : MonExpression) → (expression_pieces rs e ++ (right_paren ∷ [])) ++ more ≡ expression_pieces rs e ++ (right_paren ∷ more)
  closed_is e = append_assoc (expression_pieces rs e) (right_paren ∷ []) more

  -- an expression and a semicolon
  pub ended_is : (e : MonExpression) → (expression_pieces rs e ++ (semicolon ∷ [])) ++ more ≡ expression_pieces rs e ++ (semicolon ∷ more)
  ended_is e = append_assoc (expression_pieces rs e) (semicolon ∷ []) more

  -- an argument and those after it
  pub argument_is : (e : MonExpression) (es : List MonExpression)
      → (expression_pieces rs e ++ more_arguments rs es) ++ more ≡ expression_pieces rs e ++ (more_arguments rs es ++ more)
  argument_is e es = append_assoc (expression_pieces rs e) (more_arguments rs es) more

  -- the arguments of a call, and what ends it
  pub arguments_are : (arguments : Pieces) → (arguments ++ (right_paren ∷ semicolon ∷ [])) ++ more ≡ arguments ++ (right_paren ∷ semicolon ∷ more)
  arguments_are arguments = append_assoc arguments (right_paren ∷ semicolon ∷ []) more

  -- the arguments of a call of the runtime on the memory, with its size
  pub sized_is : (arguments : Pieces) (f : MemoryCall)
      → ((arguments ++ size_argument f) ++ (right_paren ∷ semicolon ∷ [])) ++ more ≡ arguments ++ (size_argument f ++ (right_paren ∷ semicolon ∷ more))
  sized_is arguments f =
      append_assoc (arguments ++ size_argument f) (right_paren ∷ semicolon ∷ []) more ∙ append_assoc arguments (size_argument f) (right_paren ∷ semicolon ∷ more)

  pub assert_is : (d v : MonExpression) (number line : ℕ) (kind : List ℕ)
      → (assert_arguments rs d v number line kind ++ (right_paren ∷ semicolon ∷ [])) ++ more
      ≡ expression_pieces rs d ++ (Mark (codes ",") ∷ blank ∷ (expression_pieces rs v ++ (Mark (codes ",") ∷ blank ∷ Number number ∷ Mark (codes ",") ∷ blank ∷ Number line ∷ Mark (codes ",") ∷ blank ∷ Quoted kind ∷ right_paren ∷ semicolon ∷ more)))
  assert_is d v number line kind =
      let D = expression_pieces rs d in
      let V = expression_pieces rs v in
      let end : Pieces → Pieces = λ l. Mark (codes ",") ∷ blank ∷ Number number ∷ Mark (codes ",") ∷ blank ∷ Number line ∷ Mark (codes ",") ∷ blank ∷ Quoted kind ∷ l in
      let second : Pieces → Pieces = λ l. Mark (codes ",") ∷ blank ∷ l in
      append_assoc (assert_arguments rs d v number line kind) (right_paren ∷ semicolon ∷ []) more
      ∙ append_assoc D (second (V ++ end [])) (right_paren ∷ semicolon ∷ more)
      ∙ ap (λ (l : Pieces). D ++ second l) (append_assoc V (end []) (right_paren ∷ semicolon ∷ more))

-- ---- statements

module _ (gs : FunctionNames) (rs : InSight) (more : Pieces) where
  -- a store and its mark
  pub store_is : (depth r : ℕ) (t : MonType) (e : MonExpression)
      → statement_pieces gs rs depth (Store r t e) ++ more
      ≡ Mark (codes "*") ∷ (pointed_type t ++ (set_pieces (name_of rs r) ++ (expression_pieces rs e ++ (semicolon ∷ new_line depth ∷ (mark_pieces rs r t ++ more)))))
  store_is depth r t e =
      let E = expression_pieces rs e in
      ap (λ (l : Pieces). Mark (codes "*") ∷ (pointed_type t ++ (set_pieces (name_of rs r) ++ l))) (append_assoc E (semicolon ∷ new_line depth ∷ mark_pieces rs r t) more)

  pub if_is : (depth : ℕ) (e : MonExpression) (a b : MonStatements)
      → statement_pieces gs rs depth (If e a b) ++ more
      ≡ Word (codes "if") ∷ blank ∷ left_paren ∷ (expression_pieces rs e ++ (right_paren ∷ blank ∷ (body_pieces gs rs depth a ++ (blank ∷ Word (codes "else") ∷ blank ∷ (body_pieces gs rs depth b ++ more)))))
  if_is depth e a b =
      let E = expression_pieces rs e in
      let A = body_pieces gs rs depth a in
      let B = body_pieces gs rs depth b in
      let other : Pieces → Pieces = λ l. blank ∷ Word (codes "else") ∷ blank ∷ l in
      ap (λ (l : Pieces). Word (codes "if") ∷ blank ∷ left_paren ∷ l)
      (append_assoc (E ++ (right_paren ∷ [])) (blank ∷ (A ++ other B)) more
      ∙ append_assoc E (right_paren ∷ []) (blank ∷ ((A ++ other B) ++ more))
      ∙ ap (λ (l : Pieces). E ++ (right_paren ∷ blank ∷ l)) (append_assoc A (other B) more))

  -- the step of a loop
  abbrev step_then : Pieces → Pieces
  step_then l = Word (codes "__e_acsl_step") ∷ left_paren ∷ right_paren ∷ semicolon ∷ l

  pub loop_is : (depth : ℕ) (a b : MonStatements)
      → statement_pieces gs rs depth (Loop a b) ++ more
      ≡ Word (codes "while") ∷ blank ∷ left_paren ∷ Number 1 ∷ right_paren ∷ blank ∷ Mark (codes "{") ∷ (statements_pieces gs rs (depth + 1) a ++ (new_line (depth + 1) ∷ Word (codes "__e_acsl_step") ∷ left_paren ∷ right_paren ∷ semicolon ∷
      (statements_pieces gs rs (depth + 1) b ++ (new_line depth ∷ Mark (codes "}") ∷ more))))
  loop_is depth a b =
      let A = statements_pieces gs rs (depth + 1) a in
      let B = statements_pieces gs rs (depth + 1) b in
      ap (λ (l : Pieces). Word (codes "while") ∷ blank ∷ left_paren ∷ Number 1 ∷ right_paren ∷ blank ∷ Mark (codes "{") ∷ l)
      (append_assoc A (new_line (depth + 1) ∷ step_then (B ++ (new_line depth ∷ Mark (codes "}") ∷ []))) more
      ∙ ap (λ (l : Pieces). A ++ (new_line (depth + 1) ∷ step_then l)) (append_assoc B (new_line depth ∷ Mark (codes "}") ∷ []) more))

  pub labelled_is : (depth : ℕ) (a : MonStatements) (l : List ℕ)
      → statement_pieces gs rs depth (Labelled a l) ++ more ≡ body_pieces gs rs depth a ++ (blank ∷ Word l ∷ Mark (codes ":") ∷ blank ∷ semicolon ∷ more)
  labelled_is depth a l = append_assoc (body_pieces gs rs depth a) (blank ∷ Word l ∷ Mark (codes ":") ∷ blank ∷ semicolon ∷ []) more

  pub body_is : (depth : ℕ) (a : MonStatement) (rest : MonStatements)
      → body_pieces gs rs depth (Then a rest) ++ more
      ≡ Mark (codes "{") ∷ (statements_pieces gs rs (depth + 1) (Then a rest) ++ (new_line depth ∷ Mark (codes "}") ∷ more))
  body_is depth a rest =
      let A = statement_pieces gs rs (depth + 1) a in
      let R = statements_pieces gs rs (depth + 1) rest in
      ap (λ (l : Pieces). Mark (codes "{") ∷ new_line (depth + 1) ∷ l)
      (append_assoc A (R ++ (new_line depth ∷ Mark (codes "}") ∷ [])) more
      ∙ ap (λ (l : Pieces). A ++ l) (append_assoc R (new_line depth ∷ Mark (codes "}") ∷ []) more)
      ∙ sym (append_assoc A R (new_line depth ∷ Mark (codes "}") ∷ more)))

  pub then_is : (depth : ℕ) (a : MonStatement) (rest : MonStatements)
      → statements_pieces gs rs depth (Then a rest) ++ more ≡ new_line depth ∷ (statement_pieces gs rs depth a ++ (statements_pieces gs rs depth rest ++ more))
  then_is depth a rest = ap (λ (l : Pieces). new_line depth ∷ l) (append_assoc (statement_pieces gs rs depth a) (statements_pieces gs rs depth rest) more)

-- ---- functions

pub function_is : (gs : FunctionNames) (globals : List MonitoredGlobal) (f : MonFunction) (more : Pieces)
    → function_pieces gs globals f ++ more
    ≡ Word (result_word f.result) ∷ blank ∷ Word f.name ∷ left_paren ∷ (parameters_pieces f.parameters ++
    (right_paren ∷ blank ∷ Mark (codes "{") ∷ (registers_pieces f.registers ++
    (statements_pieces gs (record { registers = f.parameters ++ f.registers; globals = globals }) 1 f.body ++ (new_line 0 ∷ Mark (codes "}") ∷ new_line 0 ∷ more)))))
function_is gs globals f more =
    let P = parameters_pieces f.parameters in
    let R = registers_pieces f.registers in
    let rs : InSight = record { registers = f.parameters ++ f.registers; globals = globals } in
    let S = statements_pieces gs rs 1 f.body in
    let end : Pieces → Pieces = λ l. new_line 0 ∷ Mark (codes "}") ∷ new_line 0 ∷ l in
    let inner : Pieces → Pieces = λ l. blank ∷ Mark (codes "{") ∷ l in
    ap (λ (l : Pieces). Word (result_word f.result) ∷ blank ∷ Word f.name ∷ left_paren ∷ l)
    (append_assoc (P ++ (right_paren ∷ [])) (inner (R ++ (S ++ end []))) more
    ∙ append_assoc P (right_paren ∷ []) (inner ((R ++ (S ++ end [])) ++ more))
    ∙ ap (λ (l : Pieces). P ++ (right_paren ∷ inner l)) (append_assoc R (S ++ end []) more ∙ ap (λ (l : Pieces). R ++ l) (append_assoc S (end []) more)))
