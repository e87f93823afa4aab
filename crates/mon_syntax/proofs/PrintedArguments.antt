-- A printed call is read, and checks as the call that was printed.
use Rattle.std.proofs.Common.{◌≡◌, ℕ, ◌≤◌, Bool, true, false, ◌&&◌, List, [], ◌∷◌, ◌++◌, length, slice_get, codes, pos, int_le, Option, Some, None, Ok, refl, sym, ap, subst, ◌∙◌, append_assoc, arith}
use Rattle.std.proofs.lemmas.List.{append-nil}
use Rattle.std.specs.Prelude.{bytes_eq}
use Rattle.std.proofs.lemmas.Int.{ints}
use Rattle.grammar.specs.Syntax.{sees}
use Rattle.c_syntax.specs.declared.place.Place.{Place}
use Rattle.c_syntax.specs.declared.annotation.Kind.{Kind}
use Rattle.c_syntax.specs.declared.annotation.Kind.TheVariants as the_kind
use Rattle.c_syntax.specs.Tokens as token
use Rattle.c_syntax.specs.Tokens.{PlainToken}
use Rattle.c_model.specs.Names.{name_number}
use Rattle.c_model.specs.MonitoredTokens as made
use Rattle.c_model.specs.Reports.{kind_word}
use Rattle.c_model.specs.Punctuators.{semicolon, left_paren, right_paren}
use Rattle.mon_syntax.specs.declared.tree.MonType.{MonType}
use Rattle.mon_syntax.specs.declared.tree.MonType.TheVariants.{I32, I128, Ptr}
use Rattle.mon_syntax.specs.declared.tree.MemoryCall.{MemoryCall}
use Rattle.mon_syntax.specs.declared.tree.MemoryCall.TheVariants as memory_call
use Rattle.mon_syntax.specs.declared.tree.AccessSize.{AccessSize}
use Rattle.mon_syntax.specs.declared.tree.AccessSize.TheVariants.{One, Two, Four, Eight, Sixteen}
use Rattle.mon_syntax.specs.declared.tree.CopySize.{CopySize}
use Rattle.mon_syntax.specs.declared.tree.CopySize.TheVariants as copy_size
use Rattle.mon_syntax.specs.declared.word.Runtime.{Runtime}
use Rattle.mon_syntax.specs.declared.word.Runtime.TheVariants as runtime
use Rattle.mon_syntax.specs.declared.word.Word.{Word}
use Rattle.mon_syntax.specs.declared.word.Word.TheVariants as word
use Rattle.mon_syntax.specs.Words.{word_of}
use Rattle.mon_syntax.specs.Trees.{MonExpression, MonStatement, Assert, PrintText, Act, Call}
use Rattle.mon_syntax.specs.Text as text
use Rattle.mon_syntax.specs.Text.{InSight, expression_pieces, arguments_pieces, assert_arguments, memory_word, size_argument}
use Rattle.mon_syntax.specs.Arithmetic.{access_bytes, copy_bytes}
use Rattle.mon_syntax.specs.Valid as valid
use Rattle.mon_syntax.specs.Valid.{Types, IsExpression, AreArguments, Signature, greatest_number, memory_parameters}
use Rattle.mon_syntax.specs.Parsed as parsed
use Rattle.mon_syntax.specs.Parsed.{NameUse, ParsedExpression, ParsedArgument, ParsedCall}
use Rattle.mon_syntax.specs.Grammar.{Vocabulary, kind, first_argument, is_step_word, has_no_argument, arguments, call_of}
use Rattle.mon_syntax.specs.Checking.{range_call, Scope, Header, scope_of, find_function, checked_expression, kind_named, size_named, copy_size_named, small_number, bytes_of, value_of_type, one_value, arguments_of, runtime_call, call_of_word}
use Rattle.mon_syntax.proofs.PrintedPieces.{AreTokens}
use Rattle.mon_syntax.proofs.PrintedForms.{Pieces, argument_is, arguments_are, sized_is, assert_is}
use Rattle.mon_syntax.proofs.PrintedExpressions.{AreWords, AreFound, IsReadAs, expression_is, same_types}
use Rattle.mon_syntax.proofs.PrintedCalls as calls
use Rattle.mon_syntax.proofs.PrintedCalls.{value_read, number_read, text_read, next_read, no_more_read, arguments_read, no_argument_read, call_read}

and_false : (b : Bool) → b && false ≡ false
and_false true = refl
and_false false = refl

small_is : (n : ℕ) → n ≤ greatest_number → int_le (pos n) (pos greatest_number) ≡ true
small_is n h = by greatest_number h
  where
    by : (g : ℕ) → n ≤ g → int_le (pos n) (pos g) ≡ true
    by g l = grind (arith, ints)

-- the words of calls
pub step_word : word_of (codes "__e_acsl_step") ≡ word.Runtime runtime.Step
unfolding word_of
step_word = refl

pub assert_word : word_of (codes "__e_acsl_assert") ≡ word.Runtime runtime.Assert
unfolding word_of
assert_word = refl

pub put_word : word_of (codes "putchar") ≡ word.Runtime runtime.PutChar
unfolding word_of
put_word = refl

pub exit_word : word_of (codes "exit") ≡ word.Runtime runtime.Exit
unfolding word_of
exit_word = refl

pub text_word : word_of (codes "__e_acsl_print_text") ≡ word.Runtime runtime.PrintText
unfolding word_of
text_word = refl

pub signed_word : word_of (codes "__e_acsl_print_i64") ≡ word.Runtime runtime.PrintSigned
unfolding word_of
signed_word = refl

pub unsigned_word : word_of (codes "__e_acsl_print_u64") ≡ word.Runtime runtime.PrintUnsigned
unfolding word_of
unsigned_word = refl

pub string_word : word_of (codes "__e_acsl_print_str") ≡ word.Runtime runtime.PrintString
unfolding word_of
string_word = refl

pub get_word : word_of (codes "getchar") ≡ word.Runtime runtime.GetChar
unfolding word_of
get_word = refl

abbrev pub memory_runtime : MemoryCall → Runtime
memory_runtime memory_call.StoreBlock = runtime.StoreBlock
memory_runtime memory_call.DeleteBlock = runtime.DeleteBlock
memory_runtime (memory_call.Copy a) = runtime.Copy
memory_runtime (memory_call.Number a) = runtime.Number
memory_runtime (memory_call.Valid a) = runtime.Valid
memory_runtime (memory_call.ValidRead a) = runtime.ValidRead
memory_runtime (memory_call.Initialized a) = runtime.Initialized
memory_runtime memory_call.Pointer = runtime.Pointer
memory_runtime memory_call.Inside = runtime.Inside
memory_runtime memory_call.BaseAddr = runtime.BaseAddr
memory_runtime memory_call.BlockLength = runtime.BlockLength
memory_runtime memory_call.Offset = runtime.Offset
memory_runtime memory_call.Separated = runtime.Separated
memory_runtime memory_call.Malloc = runtime.Malloc
memory_runtime memory_call.Calloc = runtime.Calloc
memory_runtime memory_call.Free = runtime.Free

pub memory_word_is : (f : MemoryCall) → word_of (memory_word f) ≡ word.Runtime (memory_runtime f)
unfolding word_of
memory_word_is memory_call.StoreBlock = refl
memory_word_is memory_call.DeleteBlock = refl
memory_word_is (memory_call.Copy a) = refl
memory_word_is (memory_call.Number a) = refl
memory_word_is (memory_call.Valid a) = refl
memory_word_is (memory_call.ValidRead a) = refl
memory_word_is (memory_call.Initialized a) = refl
memory_word_is memory_call.Pointer = refl
memory_word_is memory_call.Inside = refl
memory_word_is memory_call.BaseAddr = refl
memory_word_is memory_call.BlockLength = refl
memory_word_is memory_call.Offset = refl
memory_word_is memory_call.Separated = refl
memory_word_is memory_call.Malloc = refl
memory_word_is memory_call.Calloc = refl
memory_word_is memory_call.Free = refl

module _ (names : List (List ℕ)) (ws : Vocabulary) (words : AreWords names ws) (functions : List Header) (globals : List ℕ)
    (types : Types) (rs : InSight) (regs : List (ℕ × MonType)) (found : AreFound names types rs globals regs) where
  abbrev pub count : ℕ
  count = length rs.globals

  abbrev pub number : List ℕ → ℕ
  number = name_number names

  abbrev pub scope : Scope
  scope = scope_of names ws functions globals regs

  -- an expression that stands alone
  abbrev pub Whole : MonExpression → MonType → Pieces → List PlainToken → Type 0
  Whole e t more ts = IsReadAs names ws words functions globals types rs regs found 2000 e t more ts

  pub whole : (e : MonExpression) (t : MonType) (more : Pieces) (ts : List PlainToken) → IsExpression count types e t → AreTokens names (expression_pieces rs e ++ more) ts → Whole e t more ts
  whole e t more ts h a = expression_is names ws words functions globals types rs regs found e 2000 t more ts h.within h.typed a

  -- ---- calls

  -- the call of w with these arguments
  abbrev pub call_with : List ℕ → Place → Place → List ParsedArgument → ParsedCall
  call_with w at opening xs = record { callee = record { place = at; number = number w }; place = opening; arguments = xs }

  -- after a name, which is a word of that kind, its arguments and `;` are read, and the call checks as the statement
  pub record IsCallAs (w : List ℕ) (k : Word) (a : MonStatement) (more : Pieces) (ts : List PlainToken) : Type 0 where
    pub opening : Place
    pub inner : List PlainToken
    pub is : ts ≡ made.token opening (token.Mark left_paren) ∷ inner
    pub arguments_list : List ParsedArgument
    pub behind : List PlainToken
    pub read : (f : NameUse) → (call_of ws false f).parse ts ≡ Ok (record { callee = f; place = opening; arguments = arguments_list }, behind)
    pub end : Place
    pub rest : List PlainToken
    pub ends : behind ≡ made.token end (token.Mark semicolon) ∷ rest
    pub after : AreTokens names more rest
    pub checked : slice_get names (number w) ≡ Some w → (at : Place) → call_of_word scope (call_with w at opening arguments_list) k ≡ Ok a
    pub step : is_step_word k && has_no_argument arguments_list ≡ valid.is_step a

  value_checked : (t : MonType) (e : MonExpression) (at : Place) (x : ParsedExpression) (f : MonExpression → MonStatement) → checked_expression scope x ≡ Ok (e, t) → one_value scope at t (parsed.Value x ∷ []) f ≡ Ok (f e)
  value_checked t e at x f p = rw (p, same_types t) refl

  -- a call with a value
  pub value_call : (w : List ℕ) (r : Runtime) (t : MonType) (e : MonExpression) (f : MonExpression → MonStatement) (more : Pieces) (ts : List PlainToken)
      → ((u : NameUse) (at : Place) (xs : List ParsedArgument) → runtime_call scope u at xs r ≡ one_value scope at t xs f) → valid.is_step (f e) ≡ false → IsExpression count types e t
      → AreTokens names (text.left_paren ∷ ((expression_pieces rs e ++ (text.right_paren ∷ text.semicolon ∷ [])) ++ more)) ts
      → IsCallAs w (word.Runtime r) (f e) more ts
  value_call w r t e f more ts same no_step h a0 =
      let a = subst (λ (l : Pieces). AreTokens names (text.left_paren ∷ l) ts) (arguments_are rs more (expression_pieces rs e)) a0 in
      let x = whole e t (text.right_paren ∷ text.semicolon ∷ more) a.1 h a.3 in
      let one = arguments_read ws a.1 (x.begins first_argument true refl refl refl) (value_read ws a.1 x.begins x.parsed) (no_more_read ws (parsed.Value x.tree ∷ []) x.after.2) in
      record {
        opening = a.0;
        inner = a.1;
        is = a.2;
        arguments_list = parsed.Value x.tree ∷ [];
        behind = x.after.1;
        read = λ u. call_read ws u a.2 one x.after.2;
        end = x.after.3.0;
        rest = x.after.3.1;
        ends = x.after.3.2;
        after = x.after.3.3;
        checked = λ _ at. same (record { place = at; number = number w }) a.0 (parsed.Value x.tree ∷ []) ∙ value_checked t e a.0 x.tree f x.checked;
        step = and_false (is_step_word (word.Runtime r)) ∙ sym no_step;
      }

  -- a call with no argument
  pub bare_call : (w : List ℕ) (r : Runtime) (a : MonStatement) (more : Pieces) (ts : List PlainToken)
      → ((u : NameUse) (at : Place) → runtime_call scope u at [] r ≡ Ok a) → is_step_word (word.Runtime r) && true ≡ valid.is_step a
      → AreTokens names (text.left_paren ∷ text.right_paren ∷ text.semicolon ∷ more) ts → IsCallAs w (word.Runtime r) a more ts
  bare_call w r a more ts same flag b = record {
    opening = b.0;
    inner = b.1;
    is = b.2;
    arguments_list = [];
    behind = b.3.1;
    read = λ u. call_read ws u b.2 (no_argument_read ws b.3.2) b.3.2;
    end = b.3.3.0;
    rest = b.3.3.1;
    ends = b.3.3.2;
    after = b.3.3.3;
    checked = λ _ at. same (record { place = at; number = number w }) b.0;
    step = flag;
  }

  pub text_call : (w bytes : List ℕ) (more : Pieces) (ts : List PlainToken)
      → AreTokens names (text.left_paren ∷ text.Quoted bytes ∷ text.right_paren ∷ text.semicolon ∷ more) ts
      → IsCallAs w (word.Runtime runtime.PrintText) (PrintText bytes) more ts
  text_call w bytes more ts a =
      let inside : sees (kind ws) first_argument a.1 ≡ true = ap (sees (kind ws) first_argument) a.3.2 in
      let one = arguments_read ws a.1 inside (text_read ws bytes a.3.2) (no_more_read ws (parsed.Text a.3.0 bytes ∷ []) a.3.3.2) in
      record {
        opening = a.0;
        inner = a.1;
        is = a.2;
        arguments_list = parsed.Text a.3.0 bytes ∷ [];
        behind = a.3.3.1;
        read = λ u. call_read ws u a.2 one a.3.3.2;
        end = a.3.3.3.0;
        rest = a.3.3.3.1;
        ends = a.3.3.3.2;
        after = a.3.3.3.3;
        checked = λ _ at. refl;
        step = refl;
      }

  kind_checked : (at : Place) (k : Kind) → kind_named scope (parsed.Text at (kind_word k)) ≡ Ok k
  kind_checked at the_kind.Assert = refl
  kind_checked at the_kind.Requires = refl
  kind_checked at the_kind.Assumes = refl
  kind_checked at the_kind.Ensures = refl
  kind_checked at the_kind.Complete = refl
  kind_checked at the_kind.Disjoint = refl
  kind_checked at the_kind.Invariant = refl
  kind_checked at the_kind.Variant = refl
  kind_checked at the_kind.Rte = refl

  number_checked : (at : Place) (n : ℕ) → n ≤ greatest_number → small_number scope (parsed.Number at (pos n)) ≡ Ok n
  number_checked at n h = rw (small_is n h) refl

  condition_checked : (e : MonExpression) (t : MonType) (x : ParsedExpression) → checked_expression scope x ≡ Ok (e, t) → value_of_type scope t (parsed.Value x) ≡ Ok e
  condition_checked e t x p = rw (p, same_types t) refl

  assert_checked : (d v : MonExpression) (n l : ℕ) (k : Kind) (u : NameUse) (at n_at l_at k_at : Place) (x y : ParsedExpression) → checked_expression scope x ≡ Ok (d, I32) → checked_expression scope y ≡ Ok (v, I32) → n ≤ greatest_number
      → l ≤ greatest_number
      → runtime_call scope u at (parsed.Value x ∷ parsed.Value y ∷ parsed.Number n_at (pos n) ∷ parsed.Number l_at (pos l) ∷ parsed.Text k_at (kind_word k) ∷ []) runtime.Assert ≡ Ok (Assert d v n l k)
  assert_checked d v n l k u at n_at l_at k_at x y p q g h = rw (condition_checked d I32 x p, condition_checked v I32 y q, number_checked n_at n g, number_checked l_at l h, kind_checked k_at k) refl

  pub assert_call_is : (w : List ℕ) (d v : MonExpression) (n l : ℕ) (k : Kind) (more : Pieces) (ts : List PlainToken) → IsExpression count types d I32
      → IsExpression count types v I32 → n ≤ greatest_number → l ≤ greatest_number
      → AreTokens names (text.left_paren ∷ ((assert_arguments rs d v n l (kind_word k) ++ (text.right_paren ∷ text.semicolon ∷ [])) ++ more)) ts
      → IsCallAs w (word.Runtime runtime.Assert) (Assert d v n l k) more ts
  assert_call_is w d v n l k more ts hd hv hn hl a0 =
      let a = subst (λ (p : Pieces). AreTokens names (text.left_paren ∷ p) ts) (assert_is rs more d v n l (kind_word k)) a0 in
      let x = whole d I32 _ a.1 hd a.3 in
      let y = whole v I32 _ x.after.1 hv x.after.3 in
      let first = y.after.3 in
      let second = first.3.3 in
      let third = second.3.3 in
      let close = third.3 in
      let one : List ParsedArgument = parsed.Value x.tree ∷ [] in
      let two : List ParsedArgument = parsed.Value x.tree ∷ parsed.Value y.tree ∷ [] in
      let three : List ParsedArgument = parsed.Value x.tree ∷ parsed.Value y.tree ∷ parsed.Number first.0 (pos n) ∷ [] in
      let four : List ParsedArgument = parsed.Value x.tree ∷ parsed.Value y.tree ∷ parsed.Number first.0 (pos n) ∷ parsed.Number second.0 (pos l) ∷ [] in
      let five : List ParsedArgument = parsed.Value x.tree ∷ parsed.Value y.tree ∷ parsed.Number first.0 (pos n) ∷ parsed.Number second.0 (pos l) ∷ parsed.Text third.0 (kind_word k) ∷ [] in
      let others =
      next_read ws one x.after.2 (value_read ws x.after.1 y.begins y.parsed)
      ∙ next_read ws two y.after.2 (number_read ws n first.2)
      ∙ next_read ws three first.3.2 (number_read ws l second.2)
      ∙ next_read ws four second.3.2 (text_read ws (kind_word k) third.2)
      ∙ no_more_read ws five close.2 in
      let all = arguments_read ws a.1 (x.begins first_argument true refl refl refl) (value_read ws a.1 x.begins x.parsed) others in
      record {
        opening = a.0;
        inner = a.1;
        is = a.2;
        arguments_list = five;
        behind = close.1;
        read = λ u. call_read ws u a.2 all close.2;
        end = close.3.0;
        rest = close.3.1;
        ends = close.3.2;
        after = close.3.3;
        checked = λ _ at. assert_checked d v n l k
            (record { place = at; number = number w }) a.0 first.0 second.0 third.0 x.tree y.tree x.checked y.checked hn hl;
        step = refl;
      }

  -- ---- calls with arguments of the types of parameters

  -- arguments after the first one, up to the end of the call
  record AreMoreAs (es : List MonExpression) (ps : Types) (more : Pieces) (ts : List PlainToken) : Type 0 where
    trees : List ParsedArgument
    behind : List PlainToken
    read : (xs : List ParsedArgument) → (calls.more_arguments ws xs).parse ts ≡ Ok (xs ++ trees, behind)
    end : Place
    rest : List PlainToken
    ends : behind ≡ made.token end (token.Mark right_paren) ∷ rest
    after : AreTokens names more rest
    checked : (at : Place) → arguments_of scope at ps trees ≡ Ok es

  one_checked : (e : MonExpression) (es : List MonExpression) (p : MonType) (ps : Types) (x : ParsedExpression) (xs : List ParsedArgument) (at : Place)
      → checked_expression scope x ≡ Ok (e, p) → arguments_of scope at ps xs ≡ Ok es → arguments_of scope at (p ∷ ps) (parsed.Value x ∷ xs) ≡ Ok (e ∷ es)
  one_checked e es p ps x xs at h k = rw (condition_checked e p x h, k) refl

  more_as : (es : List MonExpression) (ps : Types) (more : Pieces) (ts : List PlainToken) → AreArguments count types es ps
      → AreTokens names (text.more_arguments rs es ++ (text.right_paren ∷ more)) ts → AreMoreAs es ps more ts
  more_as [] [] more ts h a = record {
    trees = [];
    behind = ts;
    read = λ xs. no_more_read ws xs a.2 ∙ ap (λ (l : List ParsedArgument). Ok (l, ts)) (sym (append-nil xs));
    end = a.0;
    rest = a.1;
    ends = a.2;
    after = a.3;
    checked = λ at. refl;
  }
  more_as [] (p ∷ ps) more ts h a = absurd h
  more_as (e ∷ es) [] more ts h a = absurd h
  more_as (e ∷ es) (p ∷ ps) more ts h a0 =
      let a = subst (λ (l : Pieces). AreTokens names (text.Mark (codes ",") ∷ text.blank ∷ l) ts) (argument_is rs (text.right_paren ∷ more) e es) a0 in
      let x = whole e p (text.more_arguments rs es ++ (text.right_paren ∷ more)) a.1 h.0 a.3 in
      let y = more_as es ps more x.rest h.1 x.after in
      record {
        trees = parsed.Value x.tree ∷ y.trees;
        behind = y.behind;
        read = λ xs.
            next_read ws xs a.2 (value_read ws a.1 x.begins x.parsed) ∙ y.read (xs ++ (parsed.Value x.tree ∷ []))
            ∙ ap (λ (l : List ParsedArgument). Ok (l, y.behind)) (append_assoc xs (parsed.Value x.tree ∷ []) y.trees);
        end = y.end;
        rest = y.rest;
        ends = y.ends;
        after = y.after;
        checked = λ at. one_checked e es p ps x.tree y.trees at x.checked (y.checked at);
      }

  -- all arguments of a call
  record AreArgumentsAs (es : List MonExpression) (ps : Types) (more : Pieces) (ts : List PlainToken) : Type 0 where
    trees : List ParsedArgument
    behind : List PlainToken
    read : (arguments ws false).parse ts ≡ Ok (trees, behind)
    end : Place
    rest : List PlainToken
    ends : behind ≡ made.token end (token.Mark right_paren) ∷ rest
    after : AreTokens names more rest
    checked : (at : Place) → arguments_of scope at ps trees ≡ Ok es

  arguments_as : (es : List MonExpression) (ps : Types) (more : Pieces) (ts : List PlainToken) → AreArguments count types es ps
      → AreTokens names (arguments_pieces rs es ++ (text.right_paren ∷ more)) ts → AreArgumentsAs es ps more ts
  arguments_as [] [] more ts h a =
      record { trees = []; behind = ts; read = no_argument_read ws a.2; end = a.0; rest = a.1; ends = a.2; after = a.3; checked = λ at. refl }
  arguments_as [] (p ∷ ps) more ts h a = absurd h
  arguments_as (e ∷ es) [] more ts h a = absurd h
  arguments_as (e ∷ es) (p ∷ ps) more ts h a0 =
      let a = subst (λ (l : Pieces). AreTokens names l ts) (argument_is rs (text.right_paren ∷ more) e es) a0 in
      let x = whole e p (text.more_arguments rs es ++ (text.right_paren ∷ more)) ts h.0 a in
      let y = more_as es ps more x.rest h.1 x.after in
      record {
        trees = parsed.Value x.tree ∷ y.trees;
        behind = y.behind;
        read = arguments_read ws ts (x.begins first_argument true refl refl refl) (value_read ws ts x.begins x.parsed) (y.read (parsed.Value x.tree ∷ []));
        end = y.end;
        rest = y.rest;
        ends = y.ends;
        after = y.after;
        checked = λ at. one_checked e es p ps x.tree y.trees at x.checked (y.checked at);
      }

  call_with_arguments : (w : List ℕ) (k : Word) (a : MonStatement) (es : List MonExpression) (ps : Types) (more : Pieces) (ts : List PlainToken)
      → is_step_word k ≡ false → valid.is_step a ≡ false → AreArguments count types es ps
      → (slice_get names (number w) ≡ Some w → (at opening : Place) (xs : List ParsedArgument) → arguments_of scope opening ps xs ≡ Ok es → call_of_word scope (call_with w at opening xs) k ≡ Ok a)
      → AreTokens names (text.left_paren ∷ ((arguments_pieces rs es ++ (text.right_paren ∷ text.semicolon ∷ [])) ++ more)) ts → IsCallAs w k a more ts
  call_with_arguments w k a es ps more ts no_word no_step h same b0 =
      let b = subst (λ (l : Pieces). AreTokens names (text.left_paren ∷ l) ts) (arguments_are rs more (arguments_pieces rs es)) b0 in
      let x = arguments_as es ps (text.semicolon ∷ more) b.1 h b.3 in
      record {
        opening = b.0;
        inner = b.1;
        is = b.2;
        arguments_list = x.trees;
        behind = x.rest;
        read = λ u. call_read ws u b.2 x.read x.ends;
        end = x.after.0;
        rest = x.after.1;
        ends = x.after.2;
        after = x.after.3;
        checked = λ there at. same there at b.0 x.trees (x.checked b.0);
        step = ap (λ (z : Bool). z && has_no_argument x.trees) no_word ∙ sym no_step;
      }

  -- ---- calls of the runtime on the memory

  -- with values alone
  values_call_is : (f : MemoryCall) (es : List MonExpression) (more : Pieces) (ts : List PlainToken) → size_argument f ≡ []
      → is_step_word (word.Runtime (memory_runtime f)) ≡ false
      → ((u : NameUse) (at : Place) (xs : List ParsedArgument) → arguments_of scope at (memory_parameters f) xs ≡ Ok es → runtime_call scope u at xs (memory_runtime f) ≡ Ok (Act None f es))
      → AreArguments count types es (memory_parameters f)
      → AreTokens names (text.left_paren ∷ (((arguments_pieces rs es ++ size_argument f) ++ (text.right_paren ∷ text.semicolon ∷ [])) ++ more)) ts
      → IsCallAs (memory_word f) (word.Runtime (memory_runtime f)) (Act None f es) more ts
  values_call_is f es more ts no_size no_step checks h a =
      let b = subst (λ (l : Pieces). AreTokens names (text.left_paren ∷ ((l ++ (text.right_paren ∷ text.semicolon ∷ [])) ++ more)) ts)
      (ap (λ (l : Pieces). arguments_pieces rs es ++ l) no_size ∙ append-nil (arguments_pieces rs es)) a in
      call_with_arguments (memory_word f) (word.Runtime (memory_runtime f)) (Act None f es) es (memory_parameters f) more ts no_step refl h
      (λ _ at opening xs k. checks (record { place = at; number = number (memory_word f) }) opening xs k) b

  size_checked : (at : Place) (a : AccessSize) → size_named scope (parsed.Number at (pos (access_bytes a))) ≡ Ok a
  size_checked at One = refl
  size_checked at Two = refl
  size_checked at Four = refl
  size_checked at Eight = refl
  size_checked at Sixteen = refl

  question_checked : (p o : MonExpression) (a : AccessSize) (u : NameUse) (at size_at : Place) (x y : ParsedExpression) → checked_expression scope x ≡ Ok (p, Ptr) → checked_expression scope y ≡ Ok (o, I128)
      → runtime_call scope u at (parsed.Value x ∷ parsed.Value y ∷ parsed.Number size_at (pos (access_bytes a)) ∷ []) runtime.Number ≡ Ok (Act None (memory_call.Number a) (p ∷ o ∷ []))
  question_checked p o a u at size_at x y h k = rw (condition_checked p Ptr x h, condition_checked o I128 y k, size_checked size_at a) refl

  copy_size_checked : (at : Place) (a : CopySize) → copy_size_named scope (parsed.Number at (pos (copy_bytes a))) ≡ Ok a
  copy_size_checked at copy_size.One = refl
  copy_size_checked at copy_size.Two = refl
  copy_size_checked at copy_size.Four = refl
  copy_size_checked at copy_size.Eight = refl

  copy_checked : (p q : MonExpression) (a : CopySize) (u : NameUse) (at size_at : Place) (x y : ParsedExpression) → checked_expression scope x ≡ Ok (p, Ptr) → checked_expression scope y ≡ Ok (q, Ptr)
      → runtime_call scope u at (parsed.Value x ∷ parsed.Value y ∷ parsed.Number size_at (pos (copy_bytes a)) ∷ []) runtime.Copy ≡ Ok (Act None (memory_call.Copy a) (p ∷ q ∷ []))
  copy_checked p q a u at size_at x y h k = rw (condition_checked p Ptr x h, condition_checked q Ptr y k, copy_size_checked size_at a) refl

  -- a pointer, a value of a type and a size
  sized_call_is : (f : MemoryCall) (t : MonType) (bytes : ℕ) (p o : MonExpression) (more : Pieces) (ts : List PlainToken)
      → size_argument f ≡ text.Mark (codes ",") ∷ text.blank ∷ text.Number bytes ∷ []
      → ((u : NameUse) (at size_at : Place) (x y : ParsedExpression) → checked_expression scope x ≡ Ok (p, Ptr) → checked_expression scope y ≡ Ok (o, t)
      → runtime_call scope u at (parsed.Value x ∷ parsed.Value y ∷ parsed.Number size_at (pos bytes) ∷ []) (memory_runtime f) ≡ Ok (Act None f (p ∷ o ∷ [])))
      → IsExpression count types p Ptr → IsExpression count types o t
      → AreTokens names (text.left_paren ∷ (((arguments_pieces rs (p ∷ o ∷ []) ++ size_argument f) ++ (text.right_paren ∷ text.semicolon ∷ [])) ++ more)) ts
      → IsCallAs (memory_word f) (word.Runtime (memory_runtime f)) (Act None f (p ∷ o ∷ [])) more ts
  sized_call_is f t bytes p o more ts sized checks hp ho g0 =
      let end : Pieces = text.Mark (codes ",") ∷ text.blank ∷ text.Number bytes ∷ text.right_paren ∷ text.semicolon ∷ more in
      let joined = sized_is rs more (arguments_pieces rs (p ∷ o ∷ [])) f
      ∙ ap (λ (l : Pieces). arguments_pieces rs (p ∷ o ∷ []) ++ (l ++ (text.right_paren ∷ text.semicolon ∷ more))) sized ∙ argument_is rs end p (o ∷ [])
      ∙ ap (λ (l : Pieces). expression_pieces rs p ++ (text.Mark (codes ",") ∷ text.blank ∷ l)) (argument_is rs end o []) in
      let g = subst (λ (l : Pieces). AreTokens names (text.left_paren ∷ l) ts) joined g0 in
      let x = whole p Ptr _ g.1 hp g.3 in
      let y = whole o t _ x.after.1 ho x.after.3 in
      let size = y.after.3 in
      let close = size.3 in
      let one : List ParsedArgument = parsed.Value x.tree ∷ [] in
      let two : List ParsedArgument = parsed.Value x.tree ∷ parsed.Value y.tree ∷ [] in
      let three : List ParsedArgument = parsed.Value x.tree ∷ parsed.Value y.tree ∷ parsed.Number size.0 (pos bytes) ∷ [] in
      let others =
      next_read ws one x.after.2 (value_read ws x.after.1 y.begins y.parsed)
      ∙ next_read ws two y.after.2 (number_read ws bytes size.2)
      ∙ no_more_read ws three close.2 in
      let all = arguments_read ws g.1 (x.begins first_argument true refl refl refl) (value_read ws g.1 x.begins x.parsed) others in
      record {
        opening = g.0;
        inner = g.1;
        is = g.2;
        arguments_list = three;
        behind = close.1;
        read = λ u. call_read ws u g.2 all close.2;
        end = close.3.0;
        rest = close.3.1;
        ends = close.3.2;
        after = close.3.3;
        checked = λ _ at. checks (record { place = at; number = number (memory_word f) }) g.0 size.0 x.tree y.tree x.checked y.checked;
        step = and_false (is_step_word (word.Runtime (memory_runtime f)));
      }

  range_checked : (f : AccessSize → MemoryCall) (r : Runtime) (p o n : MonExpression) (a : AccessSize)
      → ((u : NameUse) (at : Place) (xs : List ParsedArgument) → runtime_call scope u at xs r ≡ range_call scope at xs f)
      → (u : NameUse) (at size_at : Place) (x y z : ParsedExpression) → checked_expression scope x ≡ Ok (p, Ptr) → checked_expression scope y ≡ Ok (o, I128) → checked_expression scope z ≡ Ok (n, I128)
      → runtime_call scope u at (parsed.Value x ∷ parsed.Value y ∷ parsed.Value z ∷ parsed.Number size_at (pos (access_bytes a)) ∷ []) r ≡ Ok (Act None (f a) (p ∷ o ∷ n ∷ []))
  range_checked f r p o n a is u at size_at x y z h k l =
      is u at (parsed.Value x ∷ parsed.Value y ∷ parsed.Value z ∷ parsed.Number size_at (pos (access_bytes a)) ∷ [])
      ∙ rw (condition_checked p Ptr x h, condition_checked o I128 y k, condition_checked n I128 z l, size_checked size_at a) refl

  -- a pointer, an offset, a length and an alignment
  range_call_is : (f : MemoryCall) (b : AccessSize) (p o n : MonExpression) (more : Pieces) (ts : List PlainToken)
      → size_argument f ≡ text.Mark (codes ",") ∷ text.blank ∷ text.Number (access_bytes b) ∷ []
      → ((u : NameUse) (at size_at : Place) (x y z : ParsedExpression) → checked_expression scope x ≡ Ok (p, Ptr) → checked_expression scope y ≡ Ok (o, I128) → checked_expression scope z ≡ Ok (n, I128)
      → runtime_call scope u at (parsed.Value x ∷ parsed.Value y ∷ parsed.Value z ∷ parsed.Number size_at (pos (access_bytes b)) ∷ []) (memory_runtime f) ≡ Ok (Act None f (p ∷ o ∷ n ∷ [])))
      → IsExpression count types p Ptr → IsExpression count types o I128 → IsExpression count types n I128
      → AreTokens names (text.left_paren ∷ (((arguments_pieces rs (p ∷ o ∷ n ∷ []) ++ size_argument f) ++ (text.right_paren ∷ text.semicolon ∷ [])) ++ more)) ts
      → IsCallAs (memory_word f) (word.Runtime (memory_runtime f)) (Act None f (p ∷ o ∷ n ∷ [])) more ts
  range_call_is f b p o n more ts sized checks hp ho hn g0 =
      let end : Pieces = text.Mark (codes ",") ∷ text.blank ∷ text.Number (access_bytes b) ∷ text.right_paren ∷ text.semicolon ∷ more in
      let joined = sized_is rs more (arguments_pieces rs (p ∷ o ∷ n ∷ [])) f
      ∙ ap (λ (l : Pieces). arguments_pieces rs (p ∷ o ∷ n ∷ []) ++ (l ++ (text.right_paren ∷ text.semicolon ∷ more))) sized ∙ argument_is rs end p (o ∷ n ∷ [])
      ∙ ap (λ (l : Pieces). expression_pieces rs p ++ (text.Mark (codes ",") ∷ text.blank ∷ l)) (argument_is rs end o (n ∷ []))
      ∙ ap (λ (l : Pieces). expression_pieces rs p ++ (text.Mark (codes ",") ∷ text.blank ∷ (expression_pieces rs o ++ (text.Mark (codes ",") ∷ text.blank ∷ l)))) (argument_is rs end n []) in
      let g = subst (λ (l : Pieces). AreTokens names (text.left_paren ∷ l) ts) joined g0 in
      let x = whole p Ptr _ g.1 hp g.3 in
      let y = whole o I128 _ x.after.1 ho x.after.3 in
      let z = whole n I128 _ y.after.1 hn y.after.3 in
      let size = z.after.3 in
      let close = size.3 in
      let one : List ParsedArgument = parsed.Value x.tree ∷ [] in
      let two : List ParsedArgument = parsed.Value x.tree ∷ parsed.Value y.tree ∷ [] in
      let three : List ParsedArgument = parsed.Value x.tree ∷ parsed.Value y.tree ∷ parsed.Value z.tree ∷ [] in
      let four : List ParsedArgument = parsed.Value x.tree ∷ parsed.Value y.tree ∷ parsed.Value z.tree ∷ parsed.Number size.0 (pos (access_bytes b)) ∷ [] in
      let others =
      next_read ws one x.after.2 (value_read ws x.after.1 y.begins y.parsed)
      ∙ next_read ws two y.after.2 (value_read ws y.after.1 z.begins z.parsed)
      ∙ next_read ws three z.after.2 (number_read ws (access_bytes b) size.2)
      ∙ no_more_read ws four close.2 in
      let all = arguments_read ws g.1 (x.begins first_argument true refl refl refl) (value_read ws g.1 x.begins x.parsed) others in
      record {
        opening = g.0;
        inner = g.1;
        is = g.2;
        arguments_list = four;
        behind = close.1;
        read = λ u. call_read ws u g.2 all close.2;
        end = close.3.0;
        rest = close.3.1;
        ends = close.3.2;
        after = close.3.3;
        checked = λ _ at. checks (record { place = at; number = number (memory_word f) }) g.0 size.0 x.tree y.tree z.tree x.checked y.checked z.checked;
        step = and_false (is_step_word (word.Runtime (memory_runtime f)));
      }

  pub memory_call_is : (f : MemoryCall) (es : List MonExpression) (more : Pieces) (ts : List PlainToken) → AreArguments count types es (memory_parameters f)
      → AreTokens names (text.left_paren ∷ (((arguments_pieces rs es ++ size_argument f) ++ (text.right_paren ∷ text.semicolon ∷ [])) ++ more)) ts
      → IsCallAs (memory_word f) (word.Runtime (memory_runtime f)) (Act None f es) more ts
  memory_call_is memory_call.StoreBlock es more ts h a = values_call_is memory_call.StoreBlock es more ts refl refl (λ u at xs k. rw k refl) h a
  memory_call_is memory_call.DeleteBlock es more ts h a = values_call_is memory_call.DeleteBlock es more ts refl refl (λ u at xs k. rw k refl) h a
  memory_call_is (memory_call.Copy b) [] more ts h a = absurd h
  memory_call_is (memory_call.Copy b) (p ∷ []) more ts h a = absurd h.1
  memory_call_is (memory_call.Copy b) (p ∷ q ∷ []) more ts h a = sized_call_is (memory_call.Copy b) Ptr (copy_bytes b) p q more ts refl (copy_checked p q b) h.0 h.1.0 a
  memory_call_is (memory_call.Copy b) (p ∷ q ∷ e ∷ es) more ts h a = absurd h.1.1
  memory_call_is (memory_call.Number b) [] more ts h a = absurd h
  memory_call_is (memory_call.Number b) (p ∷ []) more ts h a = absurd h.1
  memory_call_is (memory_call.Number b) (p ∷ o ∷ []) more ts h a = sized_call_is (memory_call.Number b) I128 (access_bytes b) p o more ts refl (question_checked p o b) h.0 h.1.0 a
  memory_call_is (memory_call.Number b) (p ∷ o ∷ q ∷ es) more ts h a = absurd h.1.1
  memory_call_is (memory_call.Valid b) [] more ts h a = absurd h
  memory_call_is (memory_call.Valid b) (p ∷ []) more ts h a = absurd h.1
  memory_call_is (memory_call.Valid b) (p ∷ o ∷ []) more ts h a = absurd h.1.1
  memory_call_is (memory_call.Valid b) (p ∷ o ∷ n ∷ []) more ts h a = range_call_is (memory_call.Valid b) b p o n more ts refl (range_checked memory_call.Valid runtime.Valid p o n b (λ u at xs. refl)) h.0 h.1.0 h.1.1.0 a
  memory_call_is (memory_call.Valid b) (p ∷ o ∷ n ∷ e ∷ es) more ts h a = absurd h.1.1.1
  memory_call_is (memory_call.ValidRead b) [] more ts h a = absurd h
  memory_call_is (memory_call.ValidRead b) (p ∷ []) more ts h a = absurd h.1
  memory_call_is (memory_call.ValidRead b) (p ∷ o ∷ []) more ts h a = absurd h.1.1
  memory_call_is (memory_call.ValidRead b) (p ∷ o ∷ n ∷ []) more ts h a = range_call_is (memory_call.ValidRead b) b p o n more ts refl (range_checked memory_call.ValidRead runtime.ValidRead p o n b (λ u at xs. refl)) h.0 h.1.0 h.1.1.0 a
  memory_call_is (memory_call.ValidRead b) (p ∷ o ∷ n ∷ e ∷ es) more ts h a = absurd h.1.1.1
  memory_call_is (memory_call.Initialized b) [] more ts h a = absurd h
  memory_call_is (memory_call.Initialized b) (p ∷ []) more ts h a = absurd h.1
  memory_call_is (memory_call.Initialized b) (p ∷ o ∷ []) more ts h a = absurd h.1.1
  memory_call_is (memory_call.Initialized b) (p ∷ o ∷ n ∷ []) more ts h a = range_call_is (memory_call.Initialized b) b p o n more ts refl (range_checked memory_call.Initialized runtime.Initialized p o n b (λ u at xs. refl)) h.0 h.1.0 h.1.1.0 a
  memory_call_is (memory_call.Initialized b) (p ∷ o ∷ n ∷ e ∷ es) more ts h a = absurd h.1.1.1
  memory_call_is memory_call.Pointer es more ts h a = values_call_is memory_call.Pointer es more ts refl refl (λ u at xs k. rw k refl) h a
  memory_call_is memory_call.Inside es more ts h a = values_call_is memory_call.Inside es more ts refl refl (λ u at xs k. rw k refl) h a
  memory_call_is memory_call.BaseAddr es more ts h a = values_call_is memory_call.BaseAddr es more ts refl refl (λ u at xs k. rw k refl) h a
  memory_call_is memory_call.BlockLength es more ts h a = values_call_is memory_call.BlockLength es more ts refl refl (λ u at xs k. rw k refl) h a
  memory_call_is memory_call.Offset es more ts h a = values_call_is memory_call.Offset es more ts refl refl (λ u at xs k. rw k refl) h a
  memory_call_is memory_call.Separated es more ts h a = values_call_is memory_call.Separated es more ts refl refl (λ u at xs k. rw k refl) h a
  memory_call_is memory_call.Malloc es more ts h a = values_call_is memory_call.Malloc es more ts refl refl (λ u at xs k. rw k refl) h a
  memory_call_is memory_call.Calloc es more ts h a = values_call_is memory_call.Calloc es more ts refl refl (λ u at xs k. rw k refl) h a
  memory_call_is memory_call.Free es more ts h a = values_call_is memory_call.Free es more ts refl refl (λ u at xs k. rw k refl) h a

  -- a call of a function of the program
  named_checked : (w : List ℕ) (f : ℕ) (ps : Types) (result : Option MonType) (es : List MonExpression) (at opening : Place) (xs : List ParsedArgument)
      → find_function 0 functions (number w) ≡ Some (f, record { name = number w; parameters = ps; result = result })
      → bytes_of scope (number w) ≡ w → bytes_eq w (codes "main") ≡ false → arguments_of scope opening ps xs ≡ Ok es
      → call_of_word scope (call_with w at opening xs) word.Name ≡ Ok (Call None f es)
  named_checked w f ps result es at opening xs e b m h = rw (e, b, m, h) refl

  pub bytes_are : (n : ℕ) (w : List ℕ) → slice_get names n ≡ Some w → bytes_of scope n ≡ w
  bytes_are n w e = rw (e, bytes_of) refl

  pub named_call_is : (f : ℕ) (g : Signature) (es : List MonExpression) (more : Pieces) (ts : List PlainToken)
      → (slice_get names (number g.name) ≡ Some g.name → find_function 0 functions (number g.name) ≡ Some (f, record { name = number g.name; parameters = g.parameters; result = g.result }))
      → bytes_eq g.name (codes "main") ≡ false → AreArguments count types es g.parameters
      → AreTokens names (text.left_paren ∷ ((arguments_pieces rs es ++ (text.right_paren ∷ text.semicolon ∷ [])) ++ more)) ts
      → IsCallAs g.name word.Name (Call None f es) more ts
  named_call_is f g es more ts has not_main h a =
      call_with_arguments g.name word.Name (Call None f es) es g.parameters more ts refl refl h
      (λ there at opening xs k. named_checked g.name f g.parameters g.result es at opening xs (has there) (bytes_are (number g.name) g.name there) not_main k) a
