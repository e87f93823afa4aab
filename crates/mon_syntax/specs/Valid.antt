-- Ours: the rules of monitored C, of its trees.
-- Which programs in monitored C are valid: names, types, labels, the step of each loop, and limits.
use Rattle.std.specs.Prelude.{◌≡◌, ℕ, suc, ◌≤◌, ◌<◌, max, length, ◌||◌, ℤ, neg_ℤ, pos, ◌^◌, Bool, true, false, not, ◌&&◌, if◌then◌else◌, List, [], ◌∷◌, ◌++◌}
use Rattle.std.specs.Prelude.{map, Option}
use Rattle.std.specs.Prelude.{Some, None, slice_get, codes, bytes_eq}
use Rattle.std.specs.Ordering.{int_eq}
use Rattle.std.specs.List.{list_any, AllByRecursion}
use Rattle.mon_syntax.specs.declared.tree.MonType.{MonType}
use Rattle.mon_syntax.specs.declared.tree.MonType.TheVariants.{I8, U8, I16, U16, I32, U32, I64, U64, I128, Ptr}
use Rattle.mon_syntax.specs.declared.tree.MonOp.{MonOp}
use Rattle.mon_syntax.specs.declared.tree.MonOp.TheVariants.{Add, Sub, Mul, Div, Rem, Shl, Shr, And, Or, Xor, Eq, Ne, Lt, Le, Gt, Ge}
use Rattle.mon_syntax.specs.declared.tree.MemoryCall.{MemoryCall}
use Rattle.mon_syntax.specs.declared.tree.MemoryCall.TheVariants.{StoreBlock, DeleteBlock, Copy, Number, Malloc, Calloc, Free}
use Rattle.mon_syntax.specs.declared.tree.MemoryCall.TheVariants.{Valid, ValidRead, Initialized, Pointer, Inside, BaseAddr, BlockLength, Offset, Separated}
use Rattle.mon_syntax.specs.Trees.{MonExpression, Register, Global, Constant, Binary, Minus, Flip, Cast, Load, MonStatement, Set, Store, Step, Assert}
use Rattle.mon_syntax.specs.Trees.{PutChar, GetChar, Exit, PlainContent, Zeros, Literal, MonitoredGlobal, PrintString}
use Rattle.mon_syntax.specs.Trees.{PrintText, PrintSigned, PrintUnsigned, Act, Call, If, Loop, Labelled, Goto, Return, MonStatements, NoStatement, Then}
use Rattle.mon_syntax.specs.Trees.{MonRegister, MonFunction, MonitoredProgram}
use Rattle.c_model.specs.Limits.{globals_bytes}
use Rattle.mon_syntax.specs.Arithmetic.{is_pointer, fits}
use Rattle.mon_syntax.specs.Globals.{globals_taken}
use Rattle.mon_syntax.specs.Names.{IsFreeName}

-- ---- types of expressions

-- the types that operators work on
abbrev pub is_arithmetic : MonType → Bool
is_arithmetic I8 = false
is_arithmetic U8 = false
is_arithmetic I16 = false
is_arithmetic U16 = false
is_arithmetic I32 = true
is_arithmetic U32 = true
is_arithmetic I64 = true
is_arithmetic U64 = true
is_arithmetic I128 = true
is_arithmetic Ptr = false

-- the types of whole numbers
abbrev pub is_whole : MonType → Bool
is_whole I8 = true
is_whole U8 = true
is_whole I16 = true
is_whole U16 = true
is_whole I32 = true
is_whole U32 = true
is_whole I64 = true
is_whole U64 = true
is_whole I128 = true
is_whole Ptr = false

abbrev pub is_relation : MonOp → Bool
is_relation Add = false
is_relation Sub = false
is_relation Mul = false
is_relation Div = false
is_relation Rem = false
is_relation Shl = false
is_relation Shr = false
is_relation And = false
is_relation Or = false
is_relation Xor = false
is_relation Eq = true
is_relation Ne = true
is_relation Lt = true
is_relation Le = true
is_relation Gt = true
is_relation Ge = true

abbrev pub is_sum : MonOp → Bool
is_sum Add = true
is_sum Sub = false
is_sum Mul = false
is_sum Div = false
is_sum Rem = false
is_sum Shl = false
is_sum Shr = false
is_sum And = false
is_sum Or = false
is_sum Xor = false
is_sum Eq = false
is_sum Ne = false
is_sum Lt = false
is_sum Le = false
is_sum Gt = false
is_sum Ge = false

abbrev pub is_difference : MonOp → Bool
is_difference Add = false
is_difference Sub = true
is_difference Mul = false
is_difference Div = false
is_difference Rem = false
is_difference Shl = false
is_difference Shr = false
is_difference And = false
is_difference Or = false
is_difference Xor = false
is_difference Eq = false
is_difference Ne = false
is_difference Lt = false
is_difference Le = false
is_difference Gt = false
is_difference Ge = false

-- the operators on a first operand of a type: all of arithmetic, and of a pointer sum, difference and relations
abbrev pub has_operator : MonOp → MonType → Bool
has_operator op t = if is_pointer t then is_sum op || (is_difference op || is_relation op) else is_arithmetic t

-- the type of the second operand: that of the first one, but an i64 that is added to a pointer
abbrev pub second_type : MonOp → MonType → MonType
second_type op t = if is_pointer t && is_sum op then I64 else t

-- a relation gives an i32, the difference of two pointers an i64, another operator its first operand's type
abbrev pub result_type : MonOp → MonType → MonType
result_type op t = if is_relation op then I32 else (if is_pointer t && is_difference op then I64 else t)

-- a constant has a value of its type, which is not the least one of i128, and for a pointer is 0
abbrev pub has_constant : MonType → ℤ → Bool
has_constant t z = fits t z && (if is_pointer t then int_eq z (pos 0) else not (int_eq z (neg_ℤ (pos (2 ^ 127)))))

-- the types of a function's registers, by number
abbrev pub Types : Type 0
Types = List MonType

-- how many parentheses are open at once in the text of an expression
abbrev pub open_parens : MonExpression → ℕ
open_parens (Register r) = 0
open_parens (Global g) = 0
open_parens (Constant t z) = 1
open_parens (Binary op t a b) = suc (max (open_parens a) (open_parens b))
open_parens (Minus t a) = suc (open_parens a)
open_parens (Flip t a) = suc (open_parens a)
open_parens (Cast t a) = suc (max 1 (open_parens a))
open_parens (Load t a) = suc (max 1 (open_parens a))

-- the limits of this profile: parentheses open at once in an expression, and the depth of statements
abbrev pub most_open_parens : ℕ
most_open_parens = 2000

abbrev pub most_nested : ℕ
most_nested = 2000

-- ---- statements

-- the labels of the bodies around a statement
abbrev pub Labels : Type 0
Labels = List (List ℕ)

abbrev pub has_label : Labels → List ℕ → Bool
has_label ls l = list_any (bytes_eq l) ls

-- a number that stands as an argument
abbrev pub greatest_number : ℕ
greatest_number = 4294967295

-- the register that takes the value of a call has its type
abbrev pub TakesValue : Types → Option ℕ → Option MonType → Type 0
TakesValue ts None t = Unit {0}
TakesValue ts (Some r) None = ⊥
TakesValue ts (Some r) (Some t) = slice_get ts r ≡ Some t

-- what calls of the runtime on the memory take and give
abbrev pub memory_parameters : MemoryCall → Types
memory_parameters StoreBlock = U64 ∷ []
memory_parameters DeleteBlock = Ptr ∷ []
memory_parameters (Copy a) = Ptr ∷ Ptr ∷ []
memory_parameters (Number a) = Ptr ∷ I128 ∷ []
memory_parameters (Valid a) = Ptr ∷ I128 ∷ I128 ∷ []
memory_parameters (ValidRead a) = Ptr ∷ I128 ∷ I128 ∷ []
memory_parameters (Initialized a) = Ptr ∷ I128 ∷ I128 ∷ []
memory_parameters Pointer = Ptr ∷ I128 ∷ []
memory_parameters Inside = Ptr ∷ I128 ∷ []
memory_parameters BaseAddr = Ptr ∷ I128 ∷ []
memory_parameters BlockLength = Ptr ∷ I128 ∷ []
memory_parameters Offset = Ptr ∷ I128 ∷ []
memory_parameters Separated = Ptr ∷ I128 ∷ I128 ∷ Ptr ∷ I128 ∷ I128 ∷ []
memory_parameters Malloc = U64 ∷ []
memory_parameters Calloc = U64 ∷ U64 ∷ []
memory_parameters Free = Ptr ∷ []

abbrev pub memory_result : MemoryCall → Option MonType
memory_result StoreBlock = Some Ptr
memory_result DeleteBlock = None
memory_result (Copy a) = None
memory_result (Number a) = Some I32
memory_result (Valid a) = Some I32
memory_result (ValidRead a) = Some I32
memory_result (Initialized a) = Some I32
memory_result Pointer = Some I32
memory_result Inside = Some I32
memory_result BaseAddr = Some Ptr
memory_result BlockLength = Some I64
memory_result Offset = Some I64
memory_result Separated = Some I32
memory_result Malloc = Some Ptr
memory_result Calloc = Some Ptr
memory_result Free = None

-- what a function is to its callers
pub record Signature : Type 0 where
  pub name : List ℕ
  pub parameters : Types
  pub result : Option MonType

abbrev pub is_step : MonStatement → Bool
is_step (Set r e) = false
is_step (Store r t e) = false
is_step Step = true
is_step (Assert d v number line kind) = false
is_step (PutChar r e) = false
is_step (GetChar r) = false
is_step (Exit e) = false
is_step (PrintText bytes) = false
is_step (PrintSigned e) = false
is_step (PrintUnsigned e) = false
is_step (PrintString e) = false
is_step (Act r f args) = false
is_step (Call r f args) = false
is_step (If e a b) = false
is_step (Loop a b) = false
is_step (Labelled a l) = false
is_step (Goto l) = false
is_step (Return e) = false

-- no step stands directly in these statements
abbrev pub has_no_step : MonStatements → Bool
has_no_step NoStatement = true
has_no_step (Then a rest) = not (is_step a) && has_no_step rest

-- ---- in a program with so many globals

module _ (globals : ℕ) where
  -- the expression has this type
  abbrev pub HasType : Types → MonExpression → MonType → Type 0
  HasType ts (Register r) t = slice_get ts r ≡ Some t
  HasType ts (Global g) t = (Ptr ≡ t) × (g < globals)
  HasType ts (Constant k z) t = (k ≡ t) × (has_constant k z ≡ true)
  HasType ts (Binary op k a b) t = (result_type op k ≡ t) × (has_operator op k ≡ true) × HasType ts a k × HasType ts b (second_type op k)
  HasType ts (Minus k a) t = (k ≡ t) × (is_arithmetic k ≡ true) × HasType ts a k
  HasType ts (Flip k a) t = (k ≡ t) × (is_arithmetic k ≡ true) × HasType ts a k
  HasType ts (Cast k a) t = (k ≡ t) × (is_whole k ≡ true) × ((from : MonType) × (is_whole from ≡ true) × HasType ts a from)
  HasType ts (Load k a) t = (k ≡ t) × HasType ts a Ptr

  -- an expression of the type, within the limit
  pub record IsExpression (ts : Types) (e : MonExpression) (t : MonType) : Type 0 where
    pub typed : HasType ts e t
    pub within : open_parens e ≤ most_open_parens

  -- each argument has the type of its parameter
  abbrev pub AreArguments : Types → List MonExpression → Types → Type 0
  AreArguments ts [] [] = Unit {0}
  AreArguments ts [] (p ∷ ps) = ⊥
  AreArguments ts (e ∷ es) [] = ⊥
  AreArguments ts (e ∷ es) (p ∷ ps) = IsExpression ts e p × AreArguments ts es ps

  -- a function that may be called, which `main` isn't, with arguments and a register of its types
  pub record IsCall (gs : List Signature) (ts : Types) (r : Option ℕ) (f : ℕ) (args : List MonExpression) : Type 0 where
    pub callee : Signature
    pub has : slice_get gs f ≡ Some callee
    pub not_main : bytes_eq callee.name (codes "main") ≡ false
    pub arguments : AreArguments ts args callee.parameters
    pub takes : TakesValue ts r callee.result

  abbrev pub ReturnsResult : Types → Option MonType → Option MonExpression → Type 0
  ReturnsResult ts None None = Unit {0}
  ReturnsResult ts None (Some e) = ⊥
  ReturnsResult ts (Some t) None = ⊥
  ReturnsResult ts (Some t) (Some e) = IsExpression ts e t

  -- the statement is valid among functions of these signatures, in a function of the result, inside bodies of these labels
  abbrev mutual
    pub IsStatement : List Signature → Types → Option MonType → Labels → MonStatement → Type 0
    IsStatement gs ts result ls (Set r e) = (t : MonType) × (slice_get ts r ≡ Some t) × IsExpression ts e t
    IsStatement gs ts result ls (Store r t e) = (slice_get ts r ≡ Some Ptr) × IsExpression ts e t
    IsStatement gs ts result ls Step = Unit {0}
    IsStatement gs ts result ls (Assert d v number line kind) = IsExpression ts d I32 × IsExpression ts v I32 × (number ≤ greatest_number)
        × (line ≤ greatest_number)
    IsStatement gs ts result ls (PutChar r e) = TakesValue ts r (Some I32) × IsExpression ts e I32
    IsStatement gs ts result ls (GetChar r) = TakesValue ts r (Some I32)
    IsStatement gs ts result ls (Exit e) = IsExpression ts e I32
    IsStatement gs ts result ls (PrintText bytes) = AllByRecursion (λ b. b < 256) bytes
    IsStatement gs ts result ls (PrintSigned e) = IsExpression ts e I64
    IsStatement gs ts result ls (PrintUnsigned e) = IsExpression ts e U64
    IsStatement gs ts result ls (PrintString e) = IsExpression ts e Ptr
    IsStatement gs ts result ls (Act r f args) = AreArguments ts args (memory_parameters f) × TakesValue ts r (memory_result f)
    IsStatement gs ts result ls (Call r f args) = IsCall gs ts r f args
    IsStatement gs ts result ls (If e a b) = IsExpression ts e I32 × AreStatements gs ts result ls a × AreStatements gs ts result ls b
    IsStatement gs ts result ls (Loop a b) = (has_no_step a ≡ true) × (has_no_step b ≡ true) × AreStatements gs ts result ls a × AreStatements gs ts result ls b
    IsStatement gs ts result ls (Labelled a l) = IsFreeName l × (has_label ls l ≡ false) × AreStatements gs ts result (l ∷ ls) a
    IsStatement gs ts result ls (Goto l) = has_label ls l ≡ true
    IsStatement gs ts result ls (Return e) = ReturnsResult ts result e

    pub AreStatements : List Signature → Types → Option MonType → Labels → MonStatements → Type 0
    AreStatements gs ts result ls NoStatement = Unit {0}
    AreStatements gs ts result ls (Then a rest) = IsStatement gs ts result ls a × AreStatements gs ts result ls rest

-- how deep statements stand in one another: one in a body is one deeper than the statement of the body
abbrev mutual
  pub depth : MonStatement → ℕ
  depth (Set r e) = 1
  depth (Store r t e) = 1
  depth Step = 1
  depth (Assert d v number line kind) = 1
  depth (PutChar r e) = 1
  depth (GetChar r) = 1
  depth (Exit e) = 1
  depth (PrintText bytes) = 1
  depth (PrintSigned e) = 1
  depth (PrintUnsigned e) = 1
  depth (PrintString e) = 1
  depth (Act r f args) = 1
  depth (Call r f args) = 1
  depth (If e a b) = suc (max (depth_of_all a) (depth_of_all b))
  -- the step of a loop is a statement in its body
  depth (Loop a b) = suc (max 1 (max (depth_of_all a) (depth_of_all b)))
  depth (Labelled a l) = suc (depth_of_all a)
  depth (Goto l) = 1
  depth (Return e) = 1

  pub depth_of_all : MonStatements → ℕ
  depth_of_all NoStatement = 0
  depth_of_all (Then a rest) = max (depth a) (depth_of_all rest)

-- ---- programs

-- each register has a free name of its own
abbrev pub AreRegisters : List (List ℕ) → List MonRegister → Type 0
AreRegisters before [] = Unit {0}
AreRegisters before (r ∷ rs) = IsFreeName r.name × (has_label before r.name ≡ false) × AreRegisters (r.name ∷ before) rs

abbrev pub types_of : List MonRegister → Types
types_of rs = map (λ (r : MonRegister). r.kind) rs

abbrev pub signature_of : MonFunction → Signature
signature_of f = record { name = f.name; parameters = types_of f.parameters; result = f.result }

-- the names of globals, the last one first
abbrev pub names_before : List (List ℕ) → List MonitoredGlobal → List (List ℕ)
names_before before [] = before
names_before before (g ∷ gs) = names_before (g.name ∷ before) gs

-- a function, among functions of these signatures and globals
pub record IsFunction (globals : List MonitoredGlobal) (gs : List Signature) (f : MonFunction) : Type 0 where
  pub name : IsFreeName f.name
  -- no register has the name of a global
  pub registers : AreRegisters (names_before [] globals) (f.parameters ++ f.registers)
  pub body : AreStatements (length globals) gs (types_of (f.parameters ++ f.registers)) f.result [] f.body
  -- the body itself is 1 deep
  pub within : suc (depth_of_all f.body) ≤ most_nested

-- functions after those of these names, each with a name of its own
abbrev pub AreFunctions : List MonitoredGlobal → List Signature → List (List ℕ) → List MonFunction → Type 0
AreFunctions globals gs before [] = Unit {0}
AreFunctions globals gs before (f ∷ fs) =
    IsFunction globals gs f × (has_label before f.name ≡ false) × AreFunctions globals gs (f.name ∷ before) fs

-- what a literal holds is bytes
abbrev pub IsContent : PlainContent → Type 0
IsContent (Zeros n) = Unit {0}
IsContent (Literal bytes) = AllByRecursion (λ b. b < 256) bytes

-- globals after those of these names, each with a free name of its own
abbrev pub AreGlobals : List (List ℕ) → List MonitoredGlobal → Type 0
AreGlobals before [] = Unit {0}
AreGlobals before (g ∷ gs) = IsFreeName g.name × (has_label before g.name ≡ false) × IsContent g.content × AreGlobals (g.name ∷ before) gs

-- `i32 main(void)`
pub record IsMain (f : MonFunction) : Type 0 where
  pub name : f.name ≡ codes "main"
  pub result : f.result ≡ Some I32
  pub no_parameters : f.parameters ≡ []

-- globals that have room in their segment, and functions, of which one is `main`
pub record IsValid (m : MonitoredProgram) : Type 0 where
  pub globals : AreGlobals [] m.globals
  pub room : globals_taken m.globals ≤ globals_bytes
  pub functions : AreFunctions m.globals (map signature_of m.functions) [] m.functions
  pub number : ℕ
  pub main : MonFunction
  pub has : slice_get m.functions number ≡ Some main
  pub is_main : IsMain main
