-- Printed statements are read, and check as the statements that were printed.
use Rattle.std.proofs.Common.{◌≡◌, ℕ, zero, suc, ◌+◌, ◌<◌, ◌≤◌, Bool, true, false, ◌&&◌, ◌||◌, not, List, [], ◌∷◌, ◌++◌, length, slice_get, codes, Option, Some, None, Ok, refl, sym, ap, subst, ◌∙◌, arith, true≢false}
use Rattle.std.specs.Prelude.{bytes_eq, nat_eq}
use Rattle.std.specs.List.{list_any}
use Rattle.std.proofs.lemmas.Bool.{eqb-true}
use Rattle.grammar.specs.Syntax.{sees}
use Rattle.c_syntax.specs.declared.place.Place.{Place}
use Rattle.c_syntax.specs.Tokens as token
use Rattle.c_syntax.specs.Tokens.{PlainToken}
use Rattle.c_model.specs.Names.{name_number}
use Rattle.c_model.specs.MonitoredTokens as made
use Rattle.c_model.specs.Punctuators.{left_brace, right_brace}
use Rattle.mon_syntax.specs.declared.tree.MonType.{MonType}
use Rattle.mon_syntax.specs.declared.tree.MonType.TheVariants.{I32, I64, U64, Ptr}
use Rattle.mon_syntax.specs.declared.tree.MemoryCall.{MemoryCall}
use Rattle.mon_syntax.specs.declared.tree.MemoryCall.TheVariants as memory_call
use Rattle.mon_syntax.specs.declared.word.Runtime.{Runtime}
use Rattle.mon_syntax.specs.declared.word.Runtime.TheVariants as runtime
use Rattle.mon_syntax.specs.declared.word.Word.{Word}
use Rattle.mon_syntax.specs.declared.word.Word.TheVariants as word
use Rattle.mon_syntax.specs.Names.{IsFreeName}
use Rattle.mon_syntax.specs.Words.{word_of}
use Rattle.mon_syntax.specs.Trees.{MonExpression, MonStatement, Set, Store, Step, Assert, PutChar, GetChar, Exit, PrintText, PrintSigned, PrintUnsigned, PrintString, Act, Call, If, Loop, Labelled, Goto, Return, MonStatements, NoStatement, Then}
use Rattle.mon_syntax.specs.Text as text
use Rattle.mon_syntax.specs.Text.{InSight, expression_pieces, arguments_pieces, size_argument, call_pieces, memory_word, FunctionNames, function_name, body_pieces, statement_pieces, statements_pieces}
use Rattle.mon_syntax.specs.Valid as valid
use Rattle.mon_syntax.specs.Valid.{Types, IsExpression, Signature, Labels, has_label, has_no_step, depth_of_all, memory_result, IsStatement, AreStatements}
use Rattle.mon_syntax.specs.Parsed as parsed
use Rattle.mon_syntax.specs.Parsed.{NameUse, ParsedArgument, ParsedExpression, ParsedStatement, ParsedStatements}
use Rattle.mon_syntax.specs.Grammar as form
use Rattle.mon_syntax.specs.Grammar.{Vocabulary, if_kind, while_kind, word_kind, word_at, kind, first_statement, parsed_list, statement_with, statement_in}
use Rattle.mon_syntax.specs.Checking.{Scope, Header, scope_of, find_function, bytes_of, checked_expression, checked_statement, checked_statements, labels_in, labels_in_all, runtime_call, one_value, result_of}
use Rattle.mon_syntax.proofs.PrintedPieces.{AreTokens, is_same}
use Rattle.mon_syntax.proofs.PrintedForms.{Pieces, if_is, loop_is, labelled_is, body_is, then_is}
use Rattle.mon_syntax.proofs.PrintedAlone.{same_bytes}
use Rattle.mon_syntax.proofs.PrintedSteps.{free_is_name, sees_mark, sees_word}
use Rattle.mon_syntax.proofs.PrintedExpressions.{AreWords, AreFound}
use Rattle.mon_syntax.proofs.PrintedArguments as call_form
use Rattle.mon_syntax.proofs.PrintedArguments.{step_word, assert_word, put_word, get_word, exit_word, text_word, signed_word, unsigned_word, string_word, memory_runtime, memory_word_is}
use Rattle.mon_syntax.proofs.PrintedBodies.{AreRead, AreNoSteps, selection_read, iteration_read, labelled_read}
use Rattle.mon_syntax.proofs.PrintedSimple as simple

if_word : word_of (codes "if") ≡ word.If
unfolding word_of
if_word = refl

else_word : word_of (codes "else") ≡ word.Else
unfolding word_of
else_word = refl

while_word : word_of (codes "while") ≡ word.While
unfolding word_of
while_word = refl

any_join : (p : ℕ → Bool) (xs ys : List ℕ) → list_any p xs ≡ false → list_any p ys ≡ false → list_any p (xs ++ ys) ≡ false
any_join p [] ys a b = b
any_join p (x ∷ xs) ys a b = by (p x) a (λ h. any_join p xs ys h b)
  where
    by : (t : Bool) → t || list_any p xs ≡ false → (list_any p xs ≡ false → list_any p (xs ++ ys) ≡ false) → t || list_any p (xs ++ ys) ≡ false
    by true h rest = absurd (true≢false h)
    by false h rest = rest h

depth_some : (a : MonStatement) → 0 < valid.depth a
depth_some (Set r e) = omega arith
depth_some (Store r t e) = omega arith
depth_some Step = omega arith
depth_some (Assert d v number line kind) = omega arith
depth_some (PutChar r e) = omega arith
depth_some (GetChar r) = omega arith
depth_some (Exit e) = omega arith
depth_some (PrintText bytes) = omega arith
depth_some (PrintSigned e) = omega arith
depth_some (PrintUnsigned e) = omega arith
depth_some (PrintString e) = omega arith
depth_some (Act r f es) = omega arith
depth_some (Call r f es) = omega arith
depth_some (If e a b) = omega arith
depth_some (Loop a b) = omega arith
depth_some (Labelled a l) = omega arith
depth_some (Goto l) = omega arith
depth_some (Return e) = omega arith

no_steps : (b c : Bool) → not b && c ≡ true → (b ≡ false) × (c ≡ true)
no_steps true c h = absurd cc
no_steps false c h = (refl, h)

statement_suc : (ws : Vocabulary) (m : ℕ) (no_step : Bool) (ts : List PlainToken) → (statement_in ws (suc m) no_step).parse ts ≡ (statement_with ws (statement_in ws m) no_step).parse ts
unfolding statement_in
statement_suc ws m no_step ts = refl

-- a function that may be called: its name, and what the headers of the program say of it
pub record IsCallee (names : List (List ℕ)) (functions : List Header) (called : FunctionNames) (f : ℕ) (g : Signature) : Type 0 where
  pub name : function_name called f ≡ g.name
  pub is_name : word_of g.name ≡ word.Name
  pub result : result_of (slice_get functions f) ≡ g.result
  pub found : slice_get names (name_number names g.name) ≡ Some g.name
      → find_function 0 functions (name_number names g.name) ≡ Some (f, record { name = name_number names g.name; parameters = g.parameters; result = g.result })

abbrev pub AreCallees : List (List ℕ) → List Header → FunctionNames → List Signature → Type 0
AreCallees names functions called gs = (f : ℕ) (g : Signature) → slice_get gs f ≡ Some g → IsCallee names functions called f g

module _ (names : List (List ℕ)) (ws : Vocabulary) (words : AreWords names ws) (functions : List Header) (globals : List ℕ)
    (called : FunctionNames) (gs : List Signature) (callees : AreCallees names functions called gs)
    (types : Types) (rs : InSight) (regs : List (ℕ × MonType)) (found : AreFound names types rs globals regs) (result : Option MonType) where
  abbrev count : ℕ
  count = length rs.globals

  abbrev IsStatementAs : ℕ → MonStatement → Labels → Pieces → List PlainToken → Type 0
  IsStatementAs = simple.IsStatementAs names ws words functions globals types rs regs found result

  abbrev IsCallAs : List ℕ → Word → MonStatement → Pieces → List PlainToken → Type 0
  IsCallAs = call_form.IsCallAs names ws words functions globals types rs regs found

  abbrev numbers : Labels → List ℕ
  numbers = simple.numbers names ws words functions globals types rs regs found result

  abbrev AreFresh : Labels → List ℕ → Type 0
  AreFresh = simple.AreFresh names ws words functions globals types rs regs found result

  abbrev AreNames : Labels → Type 0
  AreNames = simple.AreNames names ws words functions globals types rs regs found result

  abbrev the_scope : Scope
  the_scope = scope_of names ws functions globals regs

  abbrev the_number : List ℕ → ℕ
  the_number = name_number names

  -- ---- statements that follow one another

  pub record AreStatementsAs (n : ℕ) (s : MonStatements) (ls : Labels) (more : Pieces) (ts : List PlainToken) : Type 0 where
    pub trees : List ParsedStatement
    pub rest : List PlainToken
    pub after : AreTokens names more rest
    pub read : AreRead ws n trees ts rest
    pub free : has_no_step s ≡ true → AreNoSteps ws trees
    pub checked : checked_statements the_scope result (numbers ls) (parsed_list trees) ≡ Ok s
    pub fresh : AreFresh ls (labels_in_all (parsed_list trees))

  none_as : (n : ℕ) (ls : Labels) (more : Pieces) (ts : List PlainToken) → AreTokens names more ts → AreStatementsAs n NoStatement ls more ts
  none_as n ls more ts a = record { trees = []; rest = ts; after = a; read = refl; free = λ _. tt; checked = refl; fresh = λ w _ _. refl }

  then_as : (m : ℕ) (a : MonStatement) (s : MonStatements) (ls : Labels) (more between : Pieces) (ts : List PlainToken) (x : IsStatementAs m a ls between ts) → AreStatementsAs (suc m) s ls more x.rest → AreStatementsAs (suc m) (Then a s) ls more ts
  then_as m a s ls more between ts x y = record {
    trees = x.tree ∷ y.trees;
    rest = y.rest;
    after = y.after;
    read = (x.rest, x.begins, λ no_step h. statement_suc ws m no_step ts ∙ x.parsed no_step (ap (λ (b : Bool). no_step && b) (sym x.step) ∙ h), y.read);
    free = λ h. let k = no_steps (valid.is_step a) (has_no_step s) h in (x.step ∙ k.0, y.free k.1);
    checked = rw (x.checked, y.checked) refl;
    fresh = λ w h there. any_join (nat_eq (the_number w)) (labels_in x.tree) (labels_in_all (parsed_list y.trees)) (x.fresh w h there) (y.fresh w h there);
  }

  -- ---- bodies

  record IsBodyAs (n : ℕ) (s : MonStatements) (ls : Labels) (more : Pieces) (ts : List PlainToken) : Type 0 where
    start : Place
    inner : List PlainToken
    is : ts ≡ made.token start (token.Mark left_brace) ∷ inner
    trees : List ParsedStatement
    behind : List PlainToken
    read : AreRead ws n trees inner behind
    end : Place
    rest : List PlainToken
    ends : behind ≡ made.token end (token.Mark right_brace) ∷ rest
    after : AreTokens names more rest
    checked : checked_statements the_scope result (numbers ls) (parsed_list trees) ≡ Ok s
    fresh : AreFresh ls (labels_in_all (parsed_list trees))

  -- a body, given its statements
  body_as : (s : MonStatements) (n depth : ℕ) (ls : Labels) (more : Pieces) (ts : List PlainToken)
      → ((us : List PlainToken) → AreTokens names (statements_pieces called rs (depth + 1) s ++ (text.new_line depth ∷ text.Mark (codes "}") ∷ more)) us
      → AreStatementsAs n s ls (text.new_line depth ∷ text.Mark (codes "}") ∷ more) us)
      → AreTokens names (body_pieces called rs depth s ++ more) ts → IsBodyAs n s ls more ts
  body_as s n depth ls more ts inner a0 =
      let a = spread s a0 in
      let x = inner a.1 a.3 in
      record {
        start = a.0;
        inner = a.1;
        is = a.2;
        trees = x.trees;
        behind = x.rest;
        read = x.read;
        end = x.after.0;
        rest = x.after.1;
        ends = x.after.2;
        after = x.after.3;
        checked = x.checked;
        fresh = x.fresh;
      }
    where
      spread : (s : MonStatements) → AreTokens names (body_pieces called rs depth s ++ more) ts
          → AreTokens names (text.Mark (codes "{") ∷ (statements_pieces called rs (depth + 1) s ++ (text.new_line depth ∷ text.Mark (codes "}") ∷ more))) ts
      spread NoStatement b = b
      spread (Then a rest) b = subst (λ (l : Pieces). AreTokens names l ts) (body_is called rs more depth a rest) b

  -- ---- statements with bodies

  if_checked : (e : MonExpression) (a b : MonStatements) (ls : Labels) (x : ParsedExpression) (y z : ParsedStatements) → checked_expression the_scope x ≡ Ok (e, I32) → checked_statements the_scope result (numbers ls) y ≡ Ok a
      → checked_statements the_scope result (numbers ls) z ≡ Ok b
      → checked_statement the_scope result (numbers ls) (parsed.If x y z) ≡ Ok (If e a b)
  if_checked e a b ls x y z p q r = rw (p, q, r) refl

  if_as : (n : ℕ) (e : MonExpression) (a b : MonStatements) (ls : Labels) (depth : ℕ) (more : Pieces) (ts : List PlainToken) → IsExpression count types e I32
      → ((m : Pieces) (us : List PlainToken) → AreTokens names (body_pieces called rs depth a ++ m) us → IsBodyAs n a ls m us)
      → ((m : Pieces) (us : List PlainToken) → AreTokens names (body_pieces called rs depth b ++ m) us → IsBodyAs n b ls m us)
      → AreTokens names (statement_pieces called rs depth (If e a b) ++ more) ts → IsStatementAs n (If e a b) ls more ts
  if_as n e a b ls depth more ts h first second g0 =
      let g = subst (λ (l : Pieces). AreTokens names l ts) (if_is called rs more depth e a b) g0 in
      let w = ap word_kind (words _ _ g.0 ∙ if_word) in
      let opening = g.1.3 in
      let x = call_form.whole names ws words functions globals types rs regs found e I32 _ opening.1 h opening.3 in
      let y = first _ x.after.1 x.after.3 in
      let other = y.after in
      let v = ap word_kind (words _ _ other.0 ∙ else_word) in
      let z = second more other.1.1 other.1.3 in
      record {
        tree = parsed.If x.tree (parsed_list y.trees) (parsed_list z.trees);
        rest = z.rest;
        after = z.after;
        begins = sees_word ws _ if_kind g.1.2 w first_statement true refl;
        parsed = λ no_step _. selection_read ws n _ _ y.trees z.trees g.1.2 w opening.2 x.parsed x.after.2 y.is y.read y.ends other.1.2 v z.is z.read z.ends no_step;
        step = refl;
        checked = if_checked e a b ls x.tree (parsed_list y.trees) (parsed_list z.trees) x.checked y.checked z.checked;
        fresh = λ l k there. any_join (nat_eq (the_number l)) (labels_in_all (parsed_list y.trees)) (labels_in_all (parsed_list z.trees)) (y.fresh l k there) (z.fresh l k there);
      }

  -- the step of a loop
  record IsStepAs (n : ℕ) (more : Pieces) (ts : List PlainToken) : Type 0 where
    tree : ParsedStatement
    rest : List PlainToken
    after : AreTokens names more rest
    begins : sees (kind ws) first_statement ts ≡ true
    is : form.is_step ws tree ≡ true
    read : (statement_in ws n false).parse ts ≡ Ok (tree, rest)

  step_as : (n : ℕ) (more : Pieces) (ts : List PlainToken) → 0 < n → AreTokens names (text.Word (codes "__e_acsl_step") ∷ text.left_paren ∷ text.right_paren ∷ text.semicolon ∷ more) ts → IsStepAs n more ts
  step_as zero more ts some a = absurd (omega arith)
  step_as (suc m) more ts some a =
      let c = call_form.bare_call names ws words functions globals types rs regs found (codes "__e_acsl_step") runtime.Step Step more a.1.1 (λ u at. refl) refl a.1.3 in
      let x : IsStatementAs m Step [] more ts = simple.call_is names ws words functions globals types rs regs found result m (codes "__e_acsl_step") (word.Runtime runtime.Step) Step [] more ts a.1.1 step_word refl refl a.0 a.1.2 c in
      record { tree = x.tree; rest = x.rest; after = x.after; begins = x.begins; is = x.step; read = statement_suc ws m false ts ∙ x.parsed false refl }

  loop_checked : (a b : MonStatements) (ls : Labels) (y z : ParsedStatements) → checked_statements the_scope result (numbers ls) y ≡ Ok a → checked_statements the_scope result (numbers ls) z ≡ Ok b
      → checked_statement the_scope result (numbers ls) (parsed.Loop y z) ≡ Ok (Loop a b)
  loop_checked a b ls y z p q = rw (p, q) refl

  loop_as : (n : ℕ) (a b : MonStatements) (ls : Labels) (depth : ℕ) (more : Pieces) (ts : List PlainToken) → 0 < n → has_no_step a ≡ true → has_no_step b ≡ true
      → ((m : Pieces) (us : List PlainToken) → AreTokens names (statements_pieces called rs (depth + 1) a ++ m) us → AreStatementsAs n a ls m us)
      → ((m : Pieces) (us : List PlainToken) → AreTokens names (statements_pieces called rs (depth + 1) b ++ m) us → AreStatementsAs n b ls m us)
      → AreTokens names (statement_pieces called rs depth (Loop a b) ++ more) ts → IsStatementAs n (Loop a b) ls more ts
  loop_as n a b ls depth more ts some free_a free_b first second g0 =
      let g = subst (λ (l : Pieces). AreTokens names l ts) (loop_is called rs more depth a b) g0 in
      let w = ap word_kind (words _ _ g.0 ∙ while_word) in
      let opening = g.1.3 in
      let one = opening.3 in
      let closing = one.3 in
      let start = closing.3 in
      let x = first _ start.1 start.3 in
      let step = step_as n (statements_pieces called rs (depth + 1) b ++ (text.new_line depth ∷ text.Mark (codes "}") ∷ more)) x.rest some x.after in
      let y = second (text.new_line depth ∷ text.Mark (codes "}") ∷ more) step.rest step.after in
      record {
        tree = parsed.Loop (parsed_list x.trees) (parsed_list y.trees);
        rest = y.after.1;
        after = y.after.3;
        begins = sees_word ws _ while_kind g.1.2 w first_statement true refl;
        parsed = λ no_step _. iteration_read ws n _ x.trees y.trees step.tree x.rest g.1.2 w opening.2 one.2 closing.2 start.2 (x.free free_a) x.read step.begins step.is step.read (y.free free_b) y.read y.after.2 no_step;
        step = refl;
        checked = loop_checked a b ls (parsed_list x.trees) (parsed_list y.trees) x.checked y.checked;
        fresh = λ l k there. any_join (nat_eq (the_number l)) (labels_in_all (parsed_list x.trees)) (labels_in_all (parsed_list y.trees)) (x.fresh l k there) (y.fresh l k there);
      }

  labelled_checked : (a : MonStatements) (l : List ℕ) (ls : Labels) (at : Place) (y : ParsedStatements) → checked_statements the_scope result (numbers (l ∷ ls)) y ≡ Ok a → word_at ws (the_number l) ≡ word.Name
      → list_any (nat_eq (the_number l)) (labels_in_all y) ≡ false → bytes_of the_scope (the_number l) ≡ l
      → checked_statement the_scope result (numbers ls) (parsed.Labelled y (record { place = at; number = the_number l })) ≡ Ok (Labelled a l)
  labelled_checked a l ls at y p w f b = rw (p, w, f, b) refl

  -- another label has another number
  other_number : (w l : List ℕ) (ls : Labels) → has_label ls w ≡ true → has_label ls l ≡ false → slice_get names (the_number w) ≡ Some w → slice_get names (the_number l) ≡ Some l → list_any (nat_eq (the_number w)) (the_number l ∷ []) ≡ false
  other_number w l ls h no_label there here = by (nat_eq (the_number w) (the_number l)) refl
    where
      by : (t : Bool) → nat_eq (the_number w) (the_number l) ≡ t → t || false ≡ false
      by true e =
          let both : Some w ≡ Some l = sym there ∙ ap (slice_get names) (eqb-true (the_number w) (the_number l) e) ∙ here in
          let same : w ≡ l = cc in
          absurd (true≢false (sym h ∙ ap (has_label ls) same ∙ no_label))
      by false e = refl

  or_last : (a b : Bool) → b ≡ true → a || b ≡ true
  or_last true b h = refl
  or_last false b h = h

  labelled_as : (n : ℕ) (a : MonStatements) (l : List ℕ) (ls : Labels) (depth : ℕ) (more : Pieces) (ts : List PlainToken) → IsFreeName l → has_label ls l ≡ false
      → ((m : Pieces) (us : List PlainToken) → AreTokens names (body_pieces called rs depth a ++ m) us → IsBodyAs n a (l ∷ ls) m us)
      → AreTokens names (statement_pieces called rs depth (Labelled a l) ++ more) ts → IsStatementAs n (Labelled a l) ls more ts
  labelled_as n a l ls depth more ts free no_label inner g0 =
      let x = inner _ ts (subst (λ (p : Pieces). AreTokens names p ts) (labelled_is called rs more depth a l) g0) in
      let label = x.after in
      let name = words _ _ label.0 ∙ free_is_name l free in
      let colon = label.1.3 in
      let end = colon.3 in
      record {
        tree = parsed.Labelled (parsed_list x.trees) (record { place = label.1.0; number = the_number l });
        rest = end.1;
        after = end.3;
        begins = sees_mark ws left_brace x.is first_statement true refl;
        parsed = λ no_step _. labelled_read ws n _ x.trees x.is x.read x.ends label.1.2 (ap word_kind name) colon.2 end.2 no_step;
        step = refl;
        checked = labelled_checked a l ls label.1.0 (parsed_list x.trees) x.checked name
            (x.fresh l (ap (λ (b : Bool). b || has_label ls l) (is_same l)) label.0)
            (call_form.bytes_are names ws words functions globals types rs regs found (the_number l) l label.0);
        fresh = λ w h there. any_join (nat_eq (the_number w)) (labels_in_all (parsed_list x.trees)) (the_number l ∷ []) (x.fresh w (or_last (bytes_eq w l) (has_label ls w) h) there) (other_number w l ls h no_label there label.0);
      }

  more_names : (l : List ℕ) (ls : Labels) → IsFreeName l → AreNames ls → AreNames (l ∷ ls)
  more_names l ls free old w h = by (bytes_eq w l) refl h
    where
      by : (t : Bool) → bytes_eq w l ≡ t → t || has_label ls w ≡ true → word_of w ≡ word.Name
      by true e g = ap word_of (same_bytes w l e) ∙ free_is_name l free
      by false e g = old w g

  -- ---- calls

  runtime_as : (n : ℕ) (w : List ℕ) (r : Runtime) (a : MonStatement) (ls : Labels) (more : Pieces) (ts us : List PlainToken) → word_of w ≡ word.Runtime r
      → form.is_step_word (word.Runtime r) ≡ valid.is_step a
      → (there : slice_get names (the_number w) ≡ Some w) (at : Place) → ts ≡ made.token at (token.Word (the_number w)) ∷ us
      → IsCallAs w (word.Runtime r) a more us → IsStatementAs n a ls more ts
  runtime_as n w r a ls more ts us is flag there at t c =
      simple.call_is names ws words functions globals types rs regs found result n w (word.Runtime r) a ls more ts us is refl flag there t c

  -- a call with a value
  value_as : (n : ℕ) (w : List ℕ) (r : Runtime) (t : MonType) (e : MonExpression) (f : MonExpression → MonStatement) (ls : Labels) (more : Pieces) (ts : List PlainToken) → word_of w ≡ word.Runtime r → form.is_step_word (word.Runtime r) ≡ false
      → valid.is_step (f e) ≡ false
      → ((u : NameUse) (at : Place) (xs : List ParsedArgument) → runtime_call the_scope u at xs r ≡ one_value the_scope at t xs f) → IsExpression count types e t → AreTokens names (call_pieces w (expression_pieces rs e) ++ more) ts
      → IsStatementAs n (f e) ls more ts
  value_as n w r t e f ls more ts is no_word no_step same h a =
      runtime_as n w r (f e) ls more ts a.1.1 is (no_word ∙ sym no_step) a.0 a.1.0 a.1.2
      (call_form.value_call names ws words functions globals types rs regs found w r t e f more a.1.1 same no_step h a.1.3)

  put_as : (n : ℕ) (r : Option ℕ) (e : MonExpression) (ls : Labels) (more : Pieces) (ts : List PlainToken) → IsStatement count gs types result ls (PutChar r e)
      → AreTokens names (statement_pieces called rs 0 (PutChar r e) ++ more) ts → IsStatementAs n (PutChar r e) ls more ts
  put_as n r e ls more ts h a =
      simple.taken_or_not names ws words functions globals types rs regs found result n r (Some I32) (codes "putchar") (word.Runtime runtime.PutChar)
      (λ o. PutChar o e) (expression_pieces rs e) ls more ts put_word refl refl (λ o. refl) (λ i. refl) refl h.0
      (λ us b. call_form.value_call names ws words functions globals types rs regs found (codes "putchar") runtime.PutChar I32 e (PutChar None) more us (λ u at xs. refl) refl h.1 b) a

  get_as : (n : ℕ) (r : Option ℕ) (ls : Labels) (more : Pieces) (ts : List PlainToken) → IsStatement count gs types result ls (GetChar r)
      → AreTokens names (statement_pieces called rs 0 (GetChar r) ++ more) ts → IsStatementAs n (GetChar r) ls more ts
  get_as n r ls more ts h a =
      simple.taken_or_not names ws words functions globals types rs regs found result n r (Some I32) (codes "getchar")
      (word.Runtime runtime.GetChar) GetChar [] ls more ts get_word refl refl (λ o. refl) (λ i. refl) refl h
      (λ us b. call_form.bare_call names ws words functions globals types rs regs found (codes "getchar") runtime.GetChar (GetChar None) more us (λ u at. refl) refl b) a

  act_as : (n : ℕ) (r : Option ℕ) (f : MemoryCall) (es : List MonExpression) (ls : Labels) (more : Pieces) (ts : List PlainToken)
      → IsStatement count gs types result ls (Act r f es) → AreTokens names (statement_pieces called rs 0 (Act r f es) ++ more) ts
      → IsStatementAs n (Act r f es) ls more ts
  act_as n r f es ls more ts h a =
      simple.taken_or_not names ws words functions globals types rs regs found result n r (memory_result f) (memory_word f) (word.Runtime (memory_runtime f))
      (λ o. Act o f es) (arguments_pieces rs es ++ size_argument f) ls more ts (memory_word_is f) refl (no_step_word f) (λ o. refl) (λ i. refl) refl h.1
      (λ us b. call_form.memory_call_is names ws words functions globals types rs regs found f es more us h.0 b) a
    where
      no_step_word : (f : MemoryCall) → form.is_step_word (word.Runtime (memory_runtime f)) ≡ false
      no_step_word memory_call.StoreBlock = refl
      no_step_word memory_call.DeleteBlock = refl
      no_step_word (memory_call.Copy a) = refl
      no_step_word (memory_call.Number a) = refl
      no_step_word (memory_call.Valid a) = refl
      no_step_word (memory_call.ValidRead a) = refl
      no_step_word (memory_call.Initialized a) = refl
      no_step_word memory_call.Pointer = refl
      no_step_word memory_call.Inside = refl
      no_step_word memory_call.BaseAddr = refl
      no_step_word memory_call.BlockLength = refl
      no_step_word memory_call.Offset = refl
      no_step_word memory_call.Separated = refl
      no_step_word memory_call.Malloc = refl
      no_step_word memory_call.Calloc = refl
      no_step_word memory_call.Free = refl

  call_as : (n : ℕ) (r : Option ℕ) (f : ℕ) (es : List MonExpression) (ls : Labels) (more : Pieces) (ts : List PlainToken)
      → IsStatement count gs types result ls (Call r f es) → AreTokens names (statement_pieces called rs 0 (Call r f es) ++ more) ts
      → IsStatementAs n (Call r f es) ls more ts
  call_as n r f es ls more ts h a0 =
      let g = h.callee in
      let c = callees f g h.has in
      let a = subst (λ (w : List ℕ). AreTokens names ((text.set_or_none rs r ++ call_pieces w (arguments_pieces rs es)) ++ more) ts) c.name a0 in
      simple.taken_or_not names ws words functions globals types rs regs found result n r g.result g.name word.Name (λ o. Call o f es)
      (arguments_pieces rs es) ls more ts c.is_name refl refl (λ o. refl) (λ i. refl) c.result h.takes
      (λ us b. call_form.named_call_is names ws words functions globals types rs regs found f g es more us c.found h.not_main h.arguments b) a

  -- ---- all statements

  mutual
    statement_as : (a : MonStatement) (n depth : ℕ) (ls : Labels) (more : Pieces) (ts : List PlainToken) → valid.depth a ≤ suc n → AreNames ls
        → IsStatement count gs types result ls a → AreTokens names (statement_pieces called rs depth a ++ more) ts → IsStatementAs n a ls more ts
    statement_as (Set r e) n depth ls more ts le labels h a = simple.set_is names ws words functions globals types rs regs found result n r h.0 e ls more ts h.1 h.2 a
    statement_as (Store r t e) n depth ls more ts le labels h a =
        simple.stored_is names ws words functions globals types rs regs found result called n depth r t e ls more ts h.0 h.1 a
    statement_as Step n depth ls more ts le labels h a =
        runtime_as n (codes "__e_acsl_step") runtime.Step Step ls more ts a.1.1 step_word refl a.0 a.1.0 a.1.2
        (call_form.bare_call names ws words functions globals types rs regs found (codes "__e_acsl_step") runtime.Step Step more a.1.1 (λ u at. refl) refl a.1.3)
    statement_as (Assert d v k line kind) n depth ls more ts le labels h a =
        runtime_as n (codes "__e_acsl_assert") runtime.Assert (Assert d v k line kind) ls more ts a.1.1 assert_word refl a.0 a.1.0 a.1.2
        (call_form.assert_call_is names ws words functions globals types rs regs found (codes "__e_acsl_assert") d v k line kind more a.1.1 h.0 h.1 h.2 h.3 a.1.3)
    statement_as (PutChar r e) n depth ls more ts le labels h a = put_as n r e ls more ts h a
    statement_as (GetChar r) n depth ls more ts le labels h a = get_as n r ls more ts h a
    statement_as (Exit e) n depth ls more ts le labels h a = value_as n (codes "exit") runtime.Exit I32 e Exit ls more ts exit_word refl refl (λ u at xs. refl) h a
    statement_as (PrintText bytes) n depth ls more ts le labels h a =
        runtime_as n (codes "__e_acsl_print_text") runtime.PrintText (PrintText bytes) ls more ts a.1.1 text_word refl a.0 a.1.0 a.1.2
        (call_form.text_call names ws words functions globals types rs regs found (codes "__e_acsl_print_text") bytes more a.1.1 a.1.3)
    statement_as (PrintSigned e) n depth ls more ts le labels h a = value_as n (codes "__e_acsl_print_i64") runtime.PrintSigned I64 e PrintSigned ls more ts signed_word refl refl (λ u at xs. refl) h a
    statement_as (PrintUnsigned e) n depth ls more ts le labels h a = value_as n (codes "__e_acsl_print_u64") runtime.PrintUnsigned U64 e PrintUnsigned ls more ts unsigned_word refl refl (λ u at xs. refl) h a
    statement_as (PrintString e) n depth ls more ts le labels h a = value_as n (codes "__e_acsl_print_str") runtime.PrintString Ptr e PrintString ls more ts string_word refl refl (λ u at xs. refl) h a
    statement_as (Act r f es) n depth ls more ts le labels h a = act_as n r f es ls more ts h a
    statement_as (Call r f es) n depth ls more ts le labels h a = call_as n r f es ls more ts h a
    statement_as (If e a b) n depth ls more ts le labels h g =
        if_as n e a b ls depth more ts h.0
        (λ m us k. body_as a n depth ls m us (λ vs j. statements_as a n (depth + 1) ls _ vs (omega arith) labels h.1 j) k)
        (λ m us k. body_as b n depth ls m us (λ vs j. statements_as b n (depth + 1) ls _ vs (omega arith) labels h.2 j) k) g
    statement_as (Loop a b) n depth ls more ts le labels h g =
        loop_as n a b ls depth more ts (omega arith) h.0 h.1
        (λ m us k. statements_as a n (depth + 1) ls m us (omega arith) labels h.2 k)
        (λ m us k. statements_as b n (depth + 1) ls m us (omega arith) labels h.3 k) g
    statement_as (Labelled a l) n depth ls more ts le labels h g =
        labelled_as n a l ls depth more ts h.0 h.1
        (λ m us k. body_as a n depth (l ∷ ls) m us (λ vs j. statements_as a n (depth + 1) (l ∷ ls) _ vs (omega arith) (more_names l ls h.0 labels) h.2 j) k) g
    statement_as (Goto l) n depth ls more ts le labels h a = simple.goto_is names ws words functions globals types rs regs found result n l ls more ts labels h a
    statement_as (Return None) n depth ls more ts le labels h a = simple.return_is names ws words functions globals types rs regs found result n ls more ts h a
    statement_as (Return (Some e)) n depth ls more ts le labels h a =
        simple.return_value_is names ws words functions globals types rs regs found result n e ls more ts h a

    pub statements_as : (s : MonStatements) (n depth : ℕ) (ls : Labels) (more : Pieces) (ts : List PlainToken) → depth_of_all s ≤ n → AreNames ls
        → AreStatements count gs types result ls s → AreTokens names (statements_pieces called rs depth s ++ more) ts → AreStatementsAs n s ls more ts
    statements_as NoStatement n depth ls more ts le labels h a = none_as n ls more ts a
    statements_as (Then a s) zero depth ls more ts le labels h g = absurd (omega (arith, depth_some a))
    statements_as (Then a s) (suc m) depth ls more ts le labels h g =
        let x = statement_as a m depth ls (statements_pieces called rs depth s ++ more) ts (omega arith) labels h.0 (subst (λ (l : Pieces). AreTokens names l ts) (then_is called rs more depth a s) g) in
        then_as m a s ls more (statements_pieces called rs depth s ++ more) ts x (statements_as s (suc m) depth ls more x.rest (omega arith) labels h.1 x.after)
