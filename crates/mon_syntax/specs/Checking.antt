-- Ours: the rules of monitored C.
-- Names and types of a monitored text (E5, E6), with the program that it spells. A part's own demand is asked where none of its
-- parts has a fault, and the first fault in text order counts.
use Rattle.std.specs.Prelude.{ℕ, suc, ◌+◌, unsigned_abs, List, [], ◌∷◌, ◌++◌, map, Option, Some, None, Result, Ok, Err, Bool, true, false, not, ◌&&◌}
use Rattle.std.specs.Prelude.{if◌then◌else◌, nat_eq, nat_le, slice_get, codes, bytes_eq, drop, length}
use Rattle.std.specs.List.{list_any}
use Rattle.c_syntax.specs.RefusalCodes.{name_code, type_code}
use Rattle.c_syntax.specs.declared.place.Place.{Place}
use Rattle.c_syntax.specs.declared.annotation.Kind.{Kind}
use Rattle.c_syntax.specs.declared.annotation.Kind.TheVariants.{Assert, Requires, Assumes, Ensures, Complete, Disjoint, Invariant, Variant, Rte}
use Rattle.c_model.specs.Reports.{kind_word}
use Rattle.mon_syntax.specs.declared.tree.MonType.{MonType}
use Rattle.mon_syntax.specs.declared.tree.MonType.TheVariants.{I8, U8, I16, U16, I32, U32, I64, U64, I128, Ptr}
use Rattle.mon_syntax.specs.declared.tree.MemoryCall.{MemoryCall}
use Rattle.mon_syntax.specs.declared.tree.MemoryCall.TheVariants as memory_call
use Rattle.mon_syntax.specs.declared.tree.AccessSize.{AccessSize}
use Rattle.mon_syntax.specs.declared.tree.CopySize.{CopySize}
use Rattle.mon_syntax.specs.declared.tree.CopySize.TheVariants as copy_size
use Rattle.mon_syntax.specs.declared.tree.AccessSize.TheVariants.{One, Two, Four, Eight, Sixteen}
use Rattle.mon_syntax.specs.declared.word.Runtime.{Runtime}
use Rattle.mon_syntax.specs.declared.word.Runtime.TheVariants as runtime
use Rattle.mon_syntax.specs.declared.word.Word.{Word}
use Rattle.mon_syntax.specs.declared.word.Word.TheVariants as word
use Rattle.mon_syntax.specs.Trees as tree
use Rattle.mon_syntax.specs.Trees.{MonExpression, MonStatement, MonStatements, MonRegister, MonFunction, PlainContent, MonitoredGlobal, MonitoredProgram}
use Rattle.mon_syntax.specs.Parsed.{NameUse, ParsedExpression, Name, Constant, Binary, Minus, Flip, Cast, Load, ParsedArgument, Value, Number, Text, ParsedCall}
use Rattle.mon_syntax.specs.Parsed.{ParsedStatement, Set, Store, Take, Call, If, Loop, Labelled, Goto, Return, ParsedStatements, NoStatement, Then}
use Rattle.mon_syntax.specs.Parsed.{ParsedRegister, ParsedFunction, ParsedGlobal, ParsedProgram}
use Rattle.mon_syntax.specs.Arithmetic.{access_bytes, copy_bytes}
use Rattle.mon_syntax.specs.Valid.{Types, is_arithmetic, is_whole, has_operator, second_type, result_type, has_constant, greatest_number, memory_parameters}
use Rattle.mon_syntax.specs.Valid.{memory_result}
use Rattle.mon_syntax.specs.Grammar.{Vocabulary, word_at}

-- the code of a fault and its place
pub record Fault : Type 0 where
  pub code : ℕ
  pub place : Place

abbrev pub Checked : Type 0 → Type 0
Checked A = Result A Fault

abbrev pub name_fault : {A : Type 0} → Place → Checked A
name_fault at = Err (record { code = name_code; place = at })

abbrev pub type_fault : {A : Type 0} → Place → Checked A
type_fault at = Err (record { code = type_code; place = at })

infixl 10 ◌>>=◌
abbrev pub ◌>>=◌ : {A B : Type 0} → Checked A → (A → Checked B) → Checked B
(Ok a) >>= f = f a
(Err e) >>= f = Err e

infixl 10 ◌>>◌
abbrev pub ◌>>◌ : {A B : Type 0} → Checked A → Checked B → Checked B
a >> b = a >>= λ _. b

-- nothing is demanded, or E6 comes at the place
abbrev pub demanded : Bool → Place → Checked (Unit {0})
demanded b at = if b then Ok tt else type_fault at

abbrev pub same_type : MonType → MonType → Bool
same_type I8 I8 = true
same_type U8 U8 = true
same_type I16 I16 = true
same_type U16 U16 = true
same_type I32 I32 = true
same_type U32 U32 = true
same_type I64 I64 = true
same_type U64 U64 = true
same_type I128 I128 = true
same_type Ptr Ptr = true
same_type _ _ = false

-- ---- names

-- what a function is to its callers, by its name's number
pub record Header : Type 0 where
  pub name : ℕ
  pub parameters : Types
  pub result : Option MonType

-- the names of the text and what they are, the functions, and the globals and the registers by their names' numbers
pub record Scope : Type 0 where
  pub names : List (List ℕ)
  pub words : Vocabulary
  pub functions : List Header
  pub globals : List ℕ
  pub registers : List (ℕ × MonType)

-- a register by its number in the function, with its type
abbrev pub find_register : ℕ → List (ℕ × MonType) → ℕ → Option (ℕ × MonType)
find_register k [] x = None
find_register k (r ∷ rs) x = if nat_eq r.0 x then Some (k, r.1) else find_register (suc k) rs x

-- a global by its number in the program
abbrev pub find_global : ℕ → List ℕ → ℕ → Option ℕ
find_global k [] x = None
find_global k (g ∷ gs) x = if nat_eq g x then Some k else find_global (suc k) gs x

abbrev pub or_fault : {A : Type 0} → Option A → Place → Checked A
or_fault None at = name_fault at
or_fault (Some a) at = Ok a

-- a register or a global, as an expression with its type
abbrev pub Typed : Type 0
Typed = MonExpression × MonType

abbrev pub global_or_fault : Option ℕ → Place → Checked Typed
global_or_fault None at = name_fault at
global_or_fault (Some g) at = Ok (tree.Global g, Ptr)

abbrev pub register_or_global : Option (ℕ × MonType) → Scope → NameUse → Checked Typed
register_or_global None s x = global_or_fault (find_global 0 s.globals x.number) x.place
register_or_global (Some r) s x = Ok (tree.Register r.0, r.1)

abbrev pub named : Scope → NameUse → Checked Typed
named s x = register_or_global (find_register 0 s.registers x.number) s x

-- a name that is set or stored through: a register, or none where it is a global
abbrev pub target_or_fault : Option (ℕ × MonType) → Scope → NameUse → Checked (Option (ℕ × MonType))
target_or_fault None s x = or_fault (find_global 0 s.globals x.number) x.place >> Ok None
target_or_fault (Some r) s x = Ok (Some r)

abbrev pub target_of : Scope → NameUse → Checked (Option (ℕ × MonType))
target_of s x = target_or_fault (find_register 0 s.registers x.number) s x

-- it is to be a register: E6 at the `=` of another
abbrev pub register_or_fault : Option (ℕ × MonType) → Place → Checked (ℕ × MonType)
register_or_fault None at = type_fault at
register_or_fault (Some r) at = Ok r

-- a function by its number in the program, with its header
abbrev pub find_function : ℕ → List Header → ℕ → Option (ℕ × Header)
find_function k [] x = None
find_function k (g ∷ gs) x = if nat_eq g.name x then Some (k, g) else find_function (suc k) gs x

abbrev pub function_called : Scope → NameUse → Checked (ℕ × Header)
function_called s x = or_fault (find_function 0 s.functions x.number) x.place

abbrev pub bytes_of : Scope → ℕ → List ℕ
bytes_of s n = elim (slice_get s.names n) [ None ↦ [] | Some w ↦ w ]

abbrev pub is_free : Word → Bool
is_free word.Name = true
is_free _ = false

-- ---- expressions, each with its type

abbrev pub place_of : ParsedExpression → Place
place_of (Name x) = x.place
place_of (Constant at t z) = at
place_of (Binary at op a b) = at
place_of (Minus at a) = at
place_of (Flip at a) = at
place_of (Cast at t a) = at
place_of (Load at t a) = at

abbrev pub checked_expression : Scope → ParsedExpression → Checked Typed
checked_expression s (Name x) = named s x
checked_expression s (Constant at t z) = demanded (has_constant t z) at >> Ok (tree.Constant t z, t)
checked_expression s (Binary at op a b) = do
  x ← checked_expression s a
  y ← checked_expression s b
  demanded (same_type y.1 (second_type op x.1) && has_operator op x.1) at >> Ok (tree.Binary op x.1 x.0 y.0, result_type op x.1)
checked_expression s (Minus at a) = checked_expression s a >>= λ x. demanded (is_arithmetic x.1) at >> Ok (tree.Minus x.1 x.0, x.1)
checked_expression s (Flip at a) = checked_expression s a >>= λ x. demanded (is_arithmetic x.1) at >> Ok (tree.Flip x.1 x.0, x.1)
checked_expression s (Cast at t a) = checked_expression s a >>= λ x. demanded (is_whole x.1 && is_whole t) at >> Ok (tree.Cast t x.0, t)
checked_expression s (Load at t a) = checked_expression s a >>= λ x. demanded (same_type x.1 Ptr) at >> Ok (tree.Load t x.0, t)

-- an expression of a type, which is demanded at the place
abbrev pub of_type : Scope → MonType → Place → ParsedExpression → Checked MonExpression
of_type s t at e = checked_expression s e >>= λ x. demanded (same_type x.1 t) at >> Ok x.0

-- a condition is an i32
abbrev pub condition : Scope → ParsedExpression → Checked MonExpression
condition s e = of_type s I32 (place_of e) e

-- ---- arguments

abbrev pub value_of_type : Scope → MonType → ParsedArgument → Checked MonExpression
value_of_type s t (Value e) = of_type s t (place_of e) e
value_of_type s t (Number at z) = type_fault at
value_of_type s t (Text at bytes) = type_fault at

-- a NUMBER, and its place
abbrev pub number_given : Scope → ParsedArgument → Checked (ℕ × Place)
number_given s (Value e) = checked_expression s e >>= λ x. type_fault (place_of e)
number_given s (Number at z) = Ok (unsigned_abs z, at)
number_given s (Text at bytes) = type_fault at

-- a NUMBER of at most 4,294,967,295
abbrev pub small_number : Scope → ParsedArgument → Checked ℕ
small_number s a = number_given s a >>= λ n. demanded (nat_le n.0 greatest_number) n.1 >> Ok n.0

-- the size of this number of bytes
abbrev pub size_with : {A : Type 0} → (A → ℕ) → List A → ℕ → Option A
size_with bytes [] n = None
size_with bytes (a ∷ more) n = if nat_eq (bytes a) n then Some a else size_with bytes more n

abbrev pub sizes : List AccessSize
sizes = One ∷ Two ∷ Four ∷ Eight ∷ Sixteen ∷ []

abbrev pub size_named : Scope → ParsedArgument → Checked AccessSize
size_named s a = number_given s a >>= λ n. elim (size_with access_bytes sizes n.0) [ None ↦ type_fault n.1 | Some a ↦ Ok a ]

abbrev pub copy_sizes : List CopySize
copy_sizes = copy_size.One ∷ copy_size.Two ∷ copy_size.Four ∷ copy_size.Eight ∷ []

abbrev pub copy_size_named : Scope → ParsedArgument → Checked CopySize
copy_size_named s a = number_given s a >>= λ n. elim (size_with copy_bytes copy_sizes n.0) [ None ↦ type_fault n.1 | Some a ↦ Ok a ]

abbrev pub string : Scope → ParsedArgument → Checked (List ℕ × Place)
string s (Value e) = checked_expression s e >>= λ x. type_fault (place_of e)
string s (Number at z) = type_fault at
string s (Text at bytes) = Ok (bytes, at)

-- the kinds of annotations, and the one that a word names
abbrev pub kinds : List Kind
kinds = Assert ∷ Requires ∷ Assumes ∷ Ensures ∷ Complete ∷ Disjoint ∷ Invariant ∷ Variant ∷ Rte ∷ []

abbrev pub kind_of : List Kind → List ℕ → Option Kind
kind_of [] w = None
kind_of (k ∷ ks) w = if bytes_eq (kind_word k) w then Some k else kind_of ks w

abbrev pub kind_named : Scope → ParsedArgument → Checked Kind
kind_named s a = string s a >>= λ w. elim (kind_of kinds w.0) [ None ↦ type_fault w.1 | Some k ↦ Ok k ]

-- arguments beyond those that are wanted, each by itself
abbrev pub others : Scope → List ParsedArgument → Checked (Unit {0})
others s [] = Ok tt
others s (Value e ∷ more) = checked_expression s e >> others s more
others s (Number at z ∷ more) = others s more
others s (Text at bytes ∷ more) = others s more

-- the wrong number of arguments, E6 at the call's `(`
abbrev pub wrong_number : {A : Type 0} → Scope → Place → List ParsedArgument → Checked A
wrong_number s at more = others s more >> type_fault at

-- no more arguments
abbrev pub no_more : {A : Type 0} → Scope → Place → List ParsedArgument → A → Checked A
no_more s at [] a = Ok a
no_more s at (b ∷ more) a = wrong_number s at (b ∷ more)

-- one argument more, and then the others
abbrev pub next : {A B : Type 0} → Scope → Place → (ParsedArgument → Checked A) → List ParsedArgument → (A → List ParsedArgument → Checked B) → Checked B
next s at f [] go = type_fault at
next s at f (a ∷ more) go = f a >>= λ x. go x more

-- ---- calls

abbrev pub assert_call : Scope → Place → List ParsedArgument → Checked MonStatement
assert_call s at xs =
    next s at (value_of_type s I32) xs (λ d xs1. next s at (value_of_type s I32) xs1 (λ v xs2. next s at (small_number s) xs2 (λ n xs3.
    next s at (small_number s) xs3 (λ line xs4. next s at (kind_named s) xs4 (λ k xs5. no_more s at xs5 (tree.Assert d v n line k))))))

-- a call with one argument of the type
abbrev pub one_value : Scope → Place → MonType → List ParsedArgument → (MonExpression → MonStatement) → Checked MonStatement
one_value s at t xs f = next s at (value_of_type s t) xs (λ e more. no_more s at more (f e))

-- arguments of these types, and no more
abbrev pub arguments_of : Scope → Place → Types → List ParsedArgument → Checked (List MonExpression)
arguments_of s at [] xs = no_more s at xs []
arguments_of s at (t ∷ ts) xs = next s at (value_of_type s t) xs (λ e more. arguments_of s at ts more >>= λ es. Ok (e ∷ es))

-- a call on the memory whose arguments are values alone
abbrev pub simple_call : Scope → Place → List ParsedArgument → MemoryCall → Checked MonStatement
simple_call s at xs f = arguments_of s at (memory_parameters f) xs >>= λ es. Ok (tree.Act None f es)

abbrev pub number_call : Scope → Place → List ParsedArgument → Checked MonStatement
number_call s at xs =
    next s at (value_of_type s Ptr) xs (λ p xs1. next s at (value_of_type s I128) xs1 (λ o xs2. next s at (size_named s) xs2 (λ a xs3.
    no_more s at xs3 (tree.Act None (memory_call.Number a) (p ∷ o ∷ [])))))

abbrev pub copy_call : Scope → Place → List ParsedArgument → Checked MonStatement
copy_call s at xs =
    next s at (value_of_type s Ptr) xs (λ p xs1. next s at (value_of_type s Ptr) xs1 (λ q xs2. next s at (copy_size_named s) xs2 (λ a xs3.
    no_more s at xs3 (tree.Act None (memory_call.Copy a) (p ∷ q ∷ [])))))

-- a question about a range of bytes
abbrev pub range_call : Scope → Place → List ParsedArgument → (AccessSize → MemoryCall) → Checked MonStatement
range_call s at xs f =
    next s at (value_of_type s Ptr) xs (λ p xs1. next s at (value_of_type s I128) xs1 (λ o xs2. next s at (value_of_type s I128) xs2 (λ n xs3.
    next s at (size_named s) xs3 (λ a xs4. no_more s at xs4 (tree.Act None (f a) (p ∷ o ∷ n ∷ []))))))

-- a call of the runtime, whose value is not taken
abbrev pub runtime_call : Scope → NameUse → Place → List ParsedArgument → Runtime → Checked MonStatement
runtime_call s f at xs runtime.Step = no_more s at xs tree.Step
runtime_call s f at xs runtime.Assert = assert_call s at xs
runtime_call s f at xs runtime.PutChar = one_value s at I32 xs (tree.PutChar None)
runtime_call s f at xs runtime.GetChar = no_more s at xs (tree.GetChar None)
runtime_call s f at xs runtime.Exit = one_value s at I32 xs tree.Exit
runtime_call s f at xs runtime.PrintText = next s at (string s) xs (λ w more. no_more s at more (tree.PrintText w.0))
runtime_call s f at xs runtime.PrintSigned = one_value s at I64 xs tree.PrintSigned
runtime_call s f at xs runtime.PrintUnsigned = one_value s at U64 xs tree.PrintUnsigned
runtime_call s f at xs runtime.PrintString = one_value s at Ptr xs tree.PrintString
runtime_call s f at xs runtime.StoreBlock = simple_call s at xs memory_call.StoreBlock
runtime_call s f at xs runtime.DeleteBlock = simple_call s at xs memory_call.DeleteBlock
runtime_call s f at xs runtime.Copy = copy_call s at xs
runtime_call s f at xs runtime.Number = number_call s at xs
runtime_call s f at xs runtime.Valid = range_call s at xs memory_call.Valid
runtime_call s f at xs runtime.ValidRead = range_call s at xs memory_call.ValidRead
runtime_call s f at xs runtime.Initialized = range_call s at xs memory_call.Initialized
runtime_call s f at xs runtime.Pointer = simple_call s at xs memory_call.Pointer
runtime_call s f at xs runtime.Inside = simple_call s at xs memory_call.Inside
runtime_call s f at xs runtime.BaseAddr = simple_call s at xs memory_call.BaseAddr
runtime_call s f at xs runtime.BlockLength = simple_call s at xs memory_call.BlockLength
runtime_call s f at xs runtime.Offset = simple_call s at xs memory_call.Offset
runtime_call s f at xs runtime.Separated = simple_call s at xs memory_call.Separated
runtime_call s f at xs runtime.Malloc = simple_call s at xs memory_call.Malloc
runtime_call s f at xs runtime.Calloc = simple_call s at xs memory_call.Calloc
runtime_call s f at xs runtime.Free = simple_call s at xs memory_call.Free
runtime_call s f at xs runtime.Kept = name_fault f.place

-- a call of a function of the program; `main` isn't called
abbrev pub named_call : Scope → NameUse → Place → List ParsedArgument → Checked MonStatement
named_call s f at xs =
    function_called s f >>= λ g. if bytes_eq (bytes_of s f.number) (codes "main") then wrong_number s at xs
    else (arguments_of s at g.1.parameters xs >>= λ es. Ok (tree.Call None g.0 es))

abbrev pub call_of_word : Scope → ParsedCall → Word → Checked MonStatement
call_of_word s c (word.Runtime r) = runtime_call s c.callee c.place c.arguments r
call_of_word s c _ = named_call s c.callee c.place c.arguments

abbrev pub checked_call : Scope → ParsedCall → Checked MonStatement
checked_call s c = call_of_word s c (word_at s.words c.callee.number)

-- ---- statements, in a function of the result, inside bodies of these labels

abbrev pub result_of : Option Header → Option MonType
result_of None = None
result_of (Some g) = g.result

-- the type of the value that a call gives
abbrev pub value_type : Scope → MonStatement → Option MonType
value_type s (tree.PutChar r e) = Some I32
value_type s (tree.GetChar r) = Some I32
value_type s (tree.Act r f es) = memory_result f
value_type s (tree.Call r f es) = result_of (slice_get s.functions f)
value_type s _ = None

abbrev pub with_target : ℕ → MonStatement → MonStatement
with_target r (tree.PutChar x e) = tree.PutChar (Some r) e
with_target r (tree.GetChar x) = tree.GetChar (Some r)
with_target r (tree.Act x f es) = tree.Act (Some r) f es
with_target r (tree.Call x f es) = tree.Call (Some r) f es
with_target r a = a

-- the register takes the value: E6 at the `=` where there is none, or one of another type
abbrev pub taken : Scope → ℕ × MonType → Place → MonStatement → Checked MonStatement
taken s r at a = elim (value_type s a) [ None ↦ type_fault at | Some t ↦ demanded (same_type t r.1) at >> Ok (with_target r.0 a) ]

abbrev pub returned : Scope → Option MonType → Place → Option ParsedExpression → Checked MonStatement
returned s None at None = Ok (tree.Return None)
returned s None at (Some e) = checked_expression s e >> type_fault at
returned s (Some t) at None = type_fault at
returned s (Some t) at (Some e) = of_type s t at e >>= λ x. Ok (tree.Return (Some x))

-- E5 at a label's name, where it isn't one of these, and where it is
abbrev pub known_label : List ℕ → NameUse → Checked (Unit {0})
known_label ls l = if list_any (nat_eq l.number) ls then Ok tt else name_fault l.place

abbrev pub new_label : Scope → List ℕ → NameUse → Checked (Unit {0})
new_label s ls l = if is_free (word_at s.words l.number) && not (list_any (nat_eq l.number) ls) then Ok tt else name_fault l.place

-- the labels of the bodies in statements
abbrev mutual
  pub labels_in : ParsedStatement → List ℕ
  labels_in (Set x at e) = []
  labels_in (Store t x at e) = []
  labels_in (Take x at c) = []
  labels_in (Call c) = []
  labels_in (If e a b) = labels_in_all a ++ labels_in_all b
  labels_in (Loop a b) = labels_in_all a ++ labels_in_all b
  labels_in (Labelled a l) = labels_in_all a ++ (l.number ∷ [])
  labels_in (Goto l) = []
  labels_in (Return at e) = []

  pub labels_in_all : ParsedStatements → List ℕ
  labels_in_all NoStatement = []
  labels_in_all (Then a rest) = labels_in a ++ labels_in_all rest

-- a label is free, and no body inside its own has the same
abbrev mutual
  pub checked_statement : Scope → Option MonType → List ℕ → ParsedStatement → Checked MonStatement
  checked_statement s t ls (Set x at e) = do
    target ← target_of s x
    v ← checked_expression s e
    r ← register_or_fault target at
    demanded (same_type v.1 r.1) at >> Ok (tree.Set r.0 v.0)
  checked_statement s t ls (Store k x at e) = do
    target ← target_of s x
    v ← of_type s k at e
    r ← register_or_fault target at
    demanded (same_type r.1 Ptr) at >> Ok (tree.Store r.0 k v)
  checked_statement s t ls (Take x at c) = do
    target ← target_of s x
    a ← checked_call s c
    r ← register_or_fault target at
    taken s r at a
  checked_statement s t ls (Call c) = checked_call s c
  checked_statement s t ls (If e a b) = do
    c ← condition s e
    x ← checked_statements s t ls a
    y ← checked_statements s t ls b
    Ok (tree.If c x y)
  checked_statement s t ls (Loop a b) = do
    x ← checked_statements s t ls a
    y ← checked_statements s t ls b
    Ok (tree.Loop x y)
  checked_statement s t ls (Labelled a l) = do
    x ← checked_statements s t (l.number ∷ ls) a
    new_label s (labels_in_all a) l >> Ok (tree.Labelled x (bytes_of s l.number))
  checked_statement s t ls (Goto l) = known_label ls l >> Ok (tree.Goto (bytes_of s l.number))
  checked_statement s t ls (Return at e) = returned s t at e

  pub checked_statements : Scope → Option MonType → List ℕ → ParsedStatements → Checked MonStatements
  checked_statements s t ls NoStatement = Ok tree.NoStatement
  checked_statements s t ls (Then a rest) = do
    x ← checked_statement s t ls a
    xs ← checked_statements s t ls rest
    Ok (tree.Then x xs)

-- ---- functions

-- a name that is free, and not one of these
abbrev pub is_new : Vocabulary → List ℕ → ℕ → Bool
is_new ws before n = is_free (word_at ws n) && not (list_any (nat_eq n) before)

-- each register has a free name of its own, which no global has: E5 at the name of another
abbrev pub checked_registers : Vocabulary → List ℕ → List (ℕ × MonType) → List ParsedRegister → Checked (List (ℕ × MonType))
checked_registers ws globals known [] = Ok known
checked_registers ws globals known (r ∷ rs) =
    if is_new ws globals r.name.number && not (list_any (λ (x : ℕ × MonType). nat_eq x.0 r.name.number) known)
    then checked_registers ws globals (known ++ (r.name.number, r.kind) ∷ []) rs
    else name_fault r.name.place

abbrev pub named_register : List (List ℕ) → ℕ × MonType → MonRegister
named_register names r = record { kind = r.1; name = elim (slice_get names r.0) [ None ↦ [] | Some w ↦ w ] }

abbrev pub word_bytes : List (List ℕ) → ℕ → List ℕ
word_bytes names n = elim (slice_get names n) [ None ↦ [] | Some w ↦ w ]

-- what a function is to its callers, as it is read
abbrev pub kinds_of : List ParsedRegister → Types
kinds_of rs = map (λ (r : ParsedRegister). r.kind) rs

abbrev pub header_of : ParsedFunction → Header
header_of f = record { name = f.name.number; parameters = kinds_of f.parameters; result = f.result }

abbrev pub scope_of : List (List ℕ) → Vocabulary → List Header → List ℕ → List (ℕ × MonType) → Scope
scope_of names ws gs globals rs = record { names = names; words = ws; functions = gs; globals = globals; registers = rs }

-- a function with these parameters, and with all these registers, the parameters first
abbrev pub function_of : List (List ℕ) → ParsedFunction → List (ℕ × MonType) → List (ℕ × MonType) → MonStatements → MonFunction
function_of names f ps rs body = record {
  result = f.result;
  name = word_bytes names f.name.number;
  parameters = map (named_register names) ps;
  registers = map (named_register names) (drop (length ps) rs);
  body = body;
}

-- a function among functions of these headers and globals; parameters may be used in its body like registers
abbrev pub checked_function : List (List ℕ) → Vocabulary → List Header → List ℕ → ParsedFunction → Checked MonFunction
checked_function names ws gs globals f = do
  ps ← checked_registers ws globals [] f.parameters
  rs ← checked_registers ws globals ps f.registers
  body ← checked_statements (scope_of names ws gs globals rs) f.result [] f.body
  Ok (function_of names f ps rs body)

-- a free name, which none before has
abbrev pub new_name : Vocabulary → List ℕ → NameUse → Checked (Unit {0})
new_name ws before x = if is_new ws before x.number then Ok tt else name_fault x.place

-- functions after those of these names' numbers
abbrev pub checked_functions : List (List ℕ) → Vocabulary → List Header → List ℕ → List ℕ → List ParsedFunction → Checked (List MonFunction)
checked_functions names ws gs globals before [] = Ok []
checked_functions names ws gs globals before (f ∷ fs) = do
  _ ← new_name ws before f.name
  g ← checked_function names ws gs globals f
  rest ← checked_functions names ws gs globals (f.name.number ∷ before) fs
  Ok (g ∷ rest)

-- ---- globals

-- a literal's number is that of its bytes and one more, E6 at the number
abbrev pub checked_content : ParsedGlobal → Checked PlainContent
checked_content g = elim g.literal [
  | None ↦ Ok (tree.Zeros (unsigned_abs g.size))
  | Some bytes ↦ demanded (nat_eq (unsigned_abs g.size) (length bytes + 1)) g.place >> Ok (tree.Literal bytes)
]

-- globals after those of these names' numbers, each with a free name of its own
abbrev pub checked_globals : List (List ℕ) → Vocabulary → List ℕ → List ParsedGlobal → Checked (List MonitoredGlobal)
checked_globals names ws before [] = Ok []
checked_globals names ws before (g ∷ gs) = do
  _ ← new_name ws before g.name
  c ← checked_content g
  rest ← checked_globals names ws (g.name.number ∷ before) gs
  Ok (record { name = word_bytes names g.name.number; content = c } ∷ rest)

-- their names' numbers
abbrev pub numbers_of : List ParsedGlobal → List ℕ
numbers_of gs = map (λ (g : ParsedGlobal). g.name.number) gs

-- ---- programs

-- functions may be called before they stand
abbrev pub checked_program : List (List ℕ) → Vocabulary → ParsedProgram → Checked MonitoredProgram
checked_program names ws p = do
  globals ← checked_globals names ws [] p.globals
  functions ← checked_functions names ws (map header_of p.functions) (numbers_of p.globals) [] p.functions
  Ok (record { globals = globals; functions = functions })
