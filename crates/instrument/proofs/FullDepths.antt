-- No step stands in the statements of expressions with effects, and these stand no deeper in one another than the expressions have forms.
use Rattle.std.proofs.Common.{◌≡◌, ℕ, ◌≤◌, Bool, true, false, not, ◌&&◌, if◌then◌else◌, List, [], ◌∷◌, Option, None, refl, arith}
use Rattle.std.specs.Prelude.{◌+◌, bytes_eq, codes}
use Rattle.std.proofs.Math.Nat.{max-le}
use Rattle.c_syntax.specs.declared.expression.Use.{Use}
use Rattle.c_syntax.specs.Expressions.{Expression, Expressions}
use Rattle.c_syntax.specs.Programs.{TranslationUnit}
use Rattle.c_syntax.specs.Layouts.{Scalar}
use Rattle.c_model.specs.Integers.{is_signed}
use Rattle.c_model.specs.Meaning.{is_of_library}
use Rattle.c_model.specs.ExpressionTyping.{name_at}
use Rattle.c_model.specs.Sizes.{forms_of}
use Rattle.mon_syntax.specs.declared.tree.MonType.{MonType}
use Rattle.mon_syntax.specs.declared.tree.MonType.TheVariants.{I64, U64}
use Rattle.mon_syntax.specs.declared.tree.MemoryCall.TheVariants.{Copy, Malloc, Calloc, Free}
use Rattle.mon_syntax.specs.Registers.{Bindings}
use Rattle.mon_syntax.specs.Trees as tree
use Rattle.mon_syntax.specs.Trees.{MonExpression, MonStatement, MonStatements, NoStatement, Then}
use Rattle.mon_syntax.specs.Valid.{has_no_step, is_step, depth, depth_of_all}
use Rattle.c_effects.specs.Expressions.{before, one, set, farther, in_type, register_type}
use Rattle.c_model.specs.Formats.{Piece, Bytes, Number, Character, String}
use Rattle.c_effects.specs.Printing.{behind_first, format_pieces, print_call, prints}
use Rattle.c_effects.specs.Effects.{call, copies_at, copy_size, first_of, index_of, library_call}
use Rattle.c_effects.specs.Full.{act, prepare}
use Rattle.annot_simulation.proofs.Depths.{deep_before, deep_if}
use Rattle.instrument.proofs.FullShapes.{act_in, prepare_in}

-- what holds of the statements of each function of the library holds of those of whichever has a name
either : (P : MonStatements → Type 0) (b : Bool) (a others : MonStatements) → P a → P others → P (if b then a else others)
either P true a others h k = h
either P false a others h k = k

by_name : (P : MonStatements → Type 0) (r : Option ℕ) (name : List ℕ) (args : List MonExpression) → P (one (tree.PutChar r (first_of args))) → P (one (tree.GetChar r)) → P (one (tree.Exit (first_of args))) → P (one (tree.Act r Malloc args))
    → P (one (tree.Act r Calloc args)) → P (one (tree.Act r Free args)) → P NoStatement → P (library_call r name args)
by_name P r name args put got ended born cleared dead none =
    either P (bytes_eq name (codes "putchar")) _ _ put (
    either P (bytes_eq name (codes "getchar")) _ _ got (
    either P (bytes_eq name (codes "exit")) _ _ ended (
    either P (bytes_eq name (codes "malloc")) _ _ born (
    either P (bytes_eq name (codes "calloc")) _ _ cleared (
    either P (bytes_eq name (codes "free")) _ _ dead none)))))

-- ---- no step

first_true : (r a b : Bool) → r && a ≡ true → (a ≡ true → b ≡ true) → r && b ≡ true
first_true true a b h go = go h
first_true false a b h go = h

pub no_step_before : (a b : MonStatements) → has_no_step a ≡ true → has_no_step b ≡ true → has_no_step (before a b) ≡ true
no_step_before NoStatement b h k = k
no_step_before (Then x a) b h k = first_true (not (is_step x)) (has_no_step a) (has_no_step (before a b)) h (λ e. no_step_before a b e k)

no_step_library : (r : Option ℕ) (name : List ℕ) (args : List MonExpression) → has_no_step (library_call r name args) ≡ true
no_step_library r name args = by_name (λ a. has_no_step a ≡ true) r name args refl refl refl refl refl refl refl

no_step_prints : (ps : List Piece) (args : List MonExpression) → has_no_step (prints ps args) ≡ true
no_step_prints [] args = refl
no_step_prints (Bytes bs ∷ ps) args = no_step_prints ps args
no_step_prints (Number k ∷ ps) args = by (is_signed k) (no_step_prints ps (behind_first args))
  where
    by : (b : Bool) → has_no_step (prints ps (behind_first args)) ≡ true
        → not (is_step (if b then tree.PrintSigned (in_type (register_type k) I64 (first_of args)) else tree.PrintUnsigned (in_type (register_type k) U64 (first_of args)))) && has_no_step (prints ps (behind_first args)) ≡ true
    by true h = h
    by false h = h
no_step_prints (Character ∷ ps) args = no_step_prints ps (behind_first args)
no_step_prints (String ∷ ps) args = no_step_prints ps (behind_first args)

no_step_call : (p : TranslationUnit) (r : Option ℕ) (f : Use) (es : Expressions) (args : List MonExpression) → has_no_step (call p r f es args) ≡ true
no_step_call p r f es args = by (is_of_library f) (bytes_eq (name_at p.names f.name) (codes "printf"))
  where
    by : (t u : Bool)
        → has_no_step (if t then (if u then print_call p es args else library_call r (name_at p.names f.name) args) else one (tree.Call r (index_of f.decl p.funcs) args)) ≡ true
    by true true = no_step_prints (format_pieces p es) (behind_first args)
    by true false = no_step_library r (name_at p.names f.name) args
    by false u = refl

no_step_copies : (r d q e : ℕ) (cs : List (ℕ × Scalar)) → has_no_step (copies_at r d q e cs) ≡ true
no_step_copies r d q e [] = refl
no_step_copies r d q e (c ∷ cs) = no_step_copies r d q e cs

abbrev NoStep : ℕ → MonStatements → Type 0
NoStep n a = has_no_step a ≡ true

pub no_step_prepare : (p : TranslationUnit) (bound : Bindings) (rs : List MonType) (e : Expression) → has_no_step (prepare p bound rs e) ≡ true
no_step_prepare p bound rs e =
    prepare_in NoStep (λ n. refl) (λ n a b h k. no_step_before a b h k) (λ n c a b h k. refl) (λ n m a le h. h) (λ r v. refl) (λ r t v. refl) (λ r d q i cs. no_step_copies r d q i cs) (λ unit r f es args. no_step_call unit r f es args) p bound rs e

pub no_step_act : (p : TranslationUnit) (bound : Bindings) (rs : List MonType) (e : Expression) → has_no_step (act p bound rs e) ≡ true
no_step_act p bound rs e =
    act_in NoStep (λ n. refl) (λ n a b h k. no_step_before a b h k) (λ n c a b h k. refl) (λ n m a le h. h) (λ r v. refl) (λ r t v. refl) (λ r d q i cs. no_step_copies r d q i cs) (λ unit r f es args. no_step_call unit r f es args) p bound rs e

-- ---- how deep

pub deep_one : (s : MonStatement) (n : ℕ) → depth s ≤ n → depth_of_all (one s) ≤ n
deep_one s n h = max-le h (omega arith)

pub deep_set : (r : ℕ) (e : MonExpression) (n : ℕ) → 1 ≤ n → depth_of_all (set r e) ≤ n
deep_set r e n le = deep_one (tree.Set r e) n le

deep_library : (r : Option ℕ) (name : List ℕ) (args : List MonExpression) → depth_of_all (library_call r name args) ≤ 1
deep_library r name args = by_name (λ a. depth_of_all a ≤ 1) r name args (omega arith) (omega arith) (omega arith) (omega arith) (omega arith) (omega arith) (omega arith)

deep_prints : (ps : List Piece) (args : List MonExpression) → depth_of_all (prints ps args) ≤ 1
deep_prints [] args = omega arith
deep_prints (Bytes bs ∷ ps) args = max-le (omega arith) (deep_prints ps args)
deep_prints (Number k ∷ ps) args = by (is_signed k) (deep_prints ps (behind_first args))
  where
    by : (b : Bool) → depth_of_all (prints ps (behind_first args)) ≤ 1
        → depth_of_all (tree.Then (if b then tree.PrintSigned (in_type (register_type k) I64 (first_of args)) else tree.PrintUnsigned (in_type (register_type k) U64 (first_of args))) (prints ps (behind_first args))) ≤ 1
    by true h = max-le (omega arith) h
    by false h = max-le (omega arith) h
deep_prints (Character ∷ ps) args = max-le (omega arith) (deep_prints ps (behind_first args))
deep_prints (String ∷ ps) args = max-le (omega arith) (deep_prints ps (behind_first args))

deep_call : (p : TranslationUnit) (r : Option ℕ) (f : Use) (es : Expressions) (args : List MonExpression) → depth_of_all (call p r f es args) ≤ 1
deep_call p r f es args = by (is_of_library f) (bytes_eq (name_at p.names f.name) (codes "printf"))
  where
    by : (t u : Bool)
        → depth_of_all (if t then (if u then print_call p es args else library_call r (name_at p.names f.name) args) else one (tree.Call r (index_of f.decl p.funcs) args)) ≤ 1
    by true true = deep_prints (format_pieces p es) (behind_first args)
    by true false = deep_library r (name_at p.names f.name) args
    by false u = omega arith

deep_copies : (r d q e : ℕ) (cs : List (ℕ × Scalar)) → depth_of_all (copies_at r d q e cs) ≤ 1
deep_copies r d q e [] = omega arith
deep_copies r d q e (c ∷ cs) =
    let copy = tree.Act None (Copy (copy_size c.1)) (farther (tree.Register r) (d + c.0) ∷ farther (tree.Register q) (e + c.0) ∷ []) in
    deep_before (one copy) (copies_at r d q e cs) 1 (deep_one copy 1 (omega arith)) (deep_copies r d q e cs)

abbrev Deep : ℕ → MonStatements → Type 0
Deep n a = depth_of_all a ≤ n

deeper : (n m : ℕ) (a : MonStatements) → n ≤ m → depth_of_all a ≤ n → depth_of_all a ≤ m
deeper n m a le h = omega (arith, le, h)

pub deep_prepare : (p : TranslationUnit) (bound : Bindings) (rs : List MonType) (e : Expression) → depth_of_all (prepare p bound rs e) ≤ forms_of e
deep_prepare p bound rs e =
    prepare_in Deep (λ n. omega arith) (λ n a b h k. deep_before a b n h k) (λ n c a b h k. deep_if c a b n h k) deeper (λ r v. deep_set r v 1 (omega arith)) (λ r t v. omega arith) (λ r d q i cs. deep_copies r d q i cs)
    (λ unit r f es args. deep_call unit r f es args) p bound rs e

pub deep_act : (p : TranslationUnit) (bound : Bindings) (rs : List MonType) (e : Expression) → depth_of_all (act p bound rs e) ≤ forms_of e
deep_act p bound rs e =
    act_in Deep (λ n. omega arith) (λ n a b h k. deep_before a b n h k) (λ n c a b h k. deep_if c a b n h k) deeper (λ r v. deep_set r v 1 (omega arith)) (λ r t v. omega arith) (λ r d q i cs. deep_copies r d q i cs)
    (λ unit r f es args. deep_call unit r f es args) p bound rs e

-- a statement after what stands before it
pub deep_behind : (p : TranslationUnit) (bound : Bindings) (rs : List MonType) (e : Expression) (s : MonStatement) (n : ℕ) → forms_of e ≤ n → depth s ≤ n → depth_of_all (before (prepare p bound rs e) (one s)) ≤ n
deep_behind p bound rs e s n few le = let d = deep_prepare p bound rs e in deep_before (prepare p bound rs e) (one s) n (omega (arith, d, few)) (deep_one s n le)
