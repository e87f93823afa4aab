-- What expressions, statements and whole programs do (C99 6.5, 6.8, 5.1.2.2.3; evaluation goes from left to right).
use Rattle.std.specs.Prelude.{ℕ, zero, suc, int_lt, int_le, ◌*◌, pos, ℤ, ◌*ℤ◌, ◌-ℤ◌, Bool, true, false, cond, not, ◌&&◌, if◌then◌else◌, nat_eq, List, []}
use Rattle.std.specs.Prelude.{◌∷◌, ◌++◌, map, replicate, Option, Some, None, option_map, slice_get, codes, bytes_eq}
use Rattle.std.specs.Ordering.{int_eq}
use Rattle.c_syntax.specs.declared.place.Place.{Place}
use Rattle.c_syntax.specs.declared.expression.Use.{Use}
use Rattle.c_syntax.specs.declared.expression.UnOp.{UnOp}
use Rattle.c_syntax.specs.declared.expression.UnOp.TheVariants as unary
use Rattle.c_syntax.specs.declared.expression.BinOp.{BinOp}
use Rattle.c_syntax.specs.declared.expression.BinOp.TheVariants as operator
use Rattle.c_syntax.specs.declared.expression.BumpOp.{BumpOp}
use Rattle.c_syntax.specs.declared.expression.BumpOp.TheVariants.{PreUp, PreDown, PostUp, PostDown}
use Rattle.c_syntax.specs.declared.types.CInt.{CInt}
use Rattle.c_syntax.specs.declared.types.BlockKind.TheVariants as block
use Rattle.c_syntax.specs.Ctypes.{PlainType, Int, Ptr, Array, int_type}
use Rattle.c_syntax.specs.Expressions.{Expression, Node, Number, Letter, Variable, Unary, Binary, Both, Either, Choice, Assign, Bump, Call, Cast, SizeOfType}
use Rattle.c_syntax.specs.Expressions.{SizeOfExpr, Text, Index, Dot, Arrow, Comma, Expressions, NoExpression, Following, place_of, type_of}
use Rattle.c_syntax.specs.Statements.{Switch, Cases, NoCase, AnotherCase}
use Rattle.c_syntax.specs.Statements.{Initialiser, One, Many, Initialisers, NoInitialiser, Listed, Declaration, Statement, Empty, Eval, Block, If, While}
use Rattle.c_syntax.specs.Statements.{Do, For, Break, Continue, Return, Labelled, ElsePart, NoElse, Else, ForFirst, NoFirst, First, BlockItem, Declare, Specify}
use Rattle.c_syntax.specs.Statements.{Run}
use Rattle.c_syntax.specs.Statements.{Asserts}
use Rattle.c_syntax.specs.Statements.{BlockItems, NoItem, Then}
use Rattle.c_syntax.specs.Programs.{StructType, FunctionContract, Function, TranslationUnit}
use Rattle.c_syntax.specs.declared.types.CInt.TheVariants.{U64}
use Rattle.c_syntax.specs.Layouts.{Scalar, IntegerType, PointerType, scalar_size, scalar_of, size_of, target_of, offset_of, parts_of, scalars_of}
use Rattle.c_model.specs.Integers.{bits_of, convert, integer_type, truth, operate, operate_one, byte_of}
use Rattle.c_model.specs.Conversions.{operation_type, is_shift}
use Rattle.c_model.specs.Operators.{quotient}
use Rattle.c_model.specs.Memory.{Pointer, Null, Into, Value, Integer, Points, NoValue, Byte, Unwritten, Number as NumberByte}
use Rattle.c_model.specs.Memory.{Block as MemoryBlock, block_of, Store, freed, moved, distance, equal_pointers, shifted}
use Rattle.c_model.specs.Formats.{pieces_of}
use Rattle.c_model.specs.Printing.{print_pieces}
use Rattle.c_model.specs.State.{Scope, Input, State, Breaks, Continues, Returns, Final, Exits, Undefined, Spent, Leaves, Over, Stuck, Outcome, Normal}
use Rattle.c_model.specs.State.{Stop, Evaluation, ◌>>=◌, ◌>>◌, give, done, stop, defined, step, print, read_byte, computed, as_scalar, find, object, read}
use Rattle.c_model.specs.State.{read_any, changed, write, write_bytes, copy_object, allocate, tested, write_youngest, birth, births, alone, frame, mark, within}
use Rattle.c_model.specs.State.{called}
use Rattle.c_model.specs.StaticObjects.{StaticObject, OfGlobal, OfLiteral, static_objects, scope_from, literals_from}
use Rattle.c_model.specs.Library.{is_there}
use Rattle.c_model.specs.Places.{first_place}
use Rattle.c_syntax.specs.Logic.{LogicTerm, Annotation}
use Rattle.c_model.specs.Predicates.{checks, invariants, variant, value_of, compared}
use Rattle.c_model.specs.ContractChecks.{entry, ending}

-- a declaration of a function with its body (C99 6.9.1)
abbrev pub is_definition : Function → Bool
is_definition f = is_there f.body

-- what a call of a name does with these values
abbrev pub Callee : Type 0
Callee = Place → Use → List Value → Evaluation Value

-- what doesn't change in a run: the layouts of the structs, and of each string literal its bytes and the number of its block
pub record Tables : Type 0 where
  pub structs : List StructType
  pub texts : List (List ℕ)
  pub literals : List ℕ

-- where a string literal stands
abbrev pub literal : Tables → ℕ → Pointer
literal T n = elim (slice_get T.literals n) [ None ↦ Null | Some k ↦ Into k 0 ]

-- ---- values

-- an operator on one value
abbrev pub operate_value : PlainType → UnOp → Value → Option Value
operate_value t op NoValue = None
operate_value t op (Points p) = None
operate_value t op (Integer x) = option_map Integer (operate_one t op x)

-- the size of what is pointed to, on either side
abbrev pub unit_of : List StructType → PlainType → PlainType → ℕ
unit_of structs t u =
    elim (scalar_of t) [
      | None ↦ size_of structs (target_of u)
      | Some k ↦ elim k [ IntegerType i ↦ size_of structs (target_of u) | PointerType ↦ size_of structs (target_of t) ]
    ]

-- a pointer and a number of elements (C99 6.5.6 p8)
abbrev pub farther : Store → ℕ → Pointer → ℤ → Option Pointer
farther store unit p i = moved store p (i *ℤ pos unit)

abbrev pub pointer_and_integer : ℕ → BinOp → Store → Pointer → ℤ → Option Value
pointer_and_integer unit operator.Add store p i = option_map Points (farther store unit p i)
pointer_and_integer unit operator.Sub store p i = option_map Points (farther store unit p (pos 0 -ℤ i))
pointer_and_integer unit _ store p i = None

abbrev pub integer_and_pointer : ℕ → BinOp → Store → ℤ → Pointer → Option Value
integer_and_pointer unit operator.Add store i p = option_map Points (farther store unit p i)
integer_and_pointer unit _ store i p = None

-- a difference in bytes as one of elements (C99 6.5.6 p9)
abbrev pub elements_between : ℕ → Option ℤ → Option Value
elements_between unit None = None
elements_between unit (Some d) = option_map Integer (quotient d (pos unit))

-- two pointers (C99 6.5.6 p9, 6.5.8 p5, 6.5.9 p6)
abbrev pub two_pointers : ℕ → BinOp → Store → Pointer → Pointer → Option Value
two_pointers unit operator.Sub store p q = elements_between unit (distance store p q)
two_pointers unit operator.Eq store p q = option_map (λ b. Integer (truth b)) (equal_pointers store p q)
two_pointers unit operator.Ne store p q = option_map (λ b. Integer (truth (not b))) (equal_pointers store p q)
two_pointers unit operator.Lt store p q = option_map (λ d. Integer (truth (int_lt d (pos 0)))) (distance store p q)
two_pointers unit operator.Le store p q = option_map (λ d. Integer (truth (int_le d (pos 0)))) (distance store p q)
two_pointers unit operator.Gt store p q = option_map (λ d. Integer (truth (int_lt (pos 0) d))) (distance store p q)
two_pointers unit operator.Ge store p q = option_map (λ d. Integer (truth (int_le (pos 0) d))) (distance store p q)
two_pointers unit _ store p q = None

-- an operator on two values, where what is pointed to has so many bytes
abbrev pub operate_values : ℕ → PlainType → BinOp → Store → Value → Value → Option Value
operate_values unit t op store (Integer x) (Integer y) = option_map Integer (operate t op x y)
operate_values unit t op store (Integer x) (Points q) = integer_and_pointer unit op store x q
operate_values unit t op store (Integer x) NoValue = None
operate_values unit t op store (Points p) (Integer y) = pointer_and_integer unit op store p y
operate_values unit t op store (Points p) (Points q) = two_pointers unit op store p q
operate_values unit t op store (Points p) NoValue = None
operate_values unit t op store NoValue y = None

-- an integer converted to a scalar type; one that becomes a pointer is the null constant (C99 6.3.1.3, 6.3.2.3)
abbrev pub integer_as : Scalar → ℤ → Value
integer_as (IntegerType k) z = Integer (convert k z)
integer_as PointerType z = Points Null

abbrev pub pointer_as : Scalar → Pointer → Value
pointer_as (IntegerType k) p = NoValue
pointer_as PointerType p = Points p

abbrev pub value_as : Scalar → Value → Value
value_as k (Integer z) = integer_as k z
value_as k (Points p) = pointer_as k p
value_as k NoValue = NoValue

-- a value converted to a type (C99 6.3.1.3, 6.3.2.2, 6.3.2.3)
abbrev pub converted : PlainType → Value → Value
converted t v = elim (scalar_of t) [ None ↦ NoValue | Some k ↦ value_as k v ]

-- the same of values of integer types k and l: the operands are converted, and so is the result (C99 6.5.16.2 p3)
abbrev pub compound_integers : CInt → BinOp → Store → Value → CInt → Value → Option Value
compound_integers k op store v l w =
    let m = Int (operation_type op k l)
    in option_map (converted (Int k)) (operate_values 1 m op store (converted m v) (if is_shift op then w else converted m w))

-- the value of the type `t` that `left op right` has, where these are values of the types t and u
abbrev pub compound : List StructType → PlainType → BinOp → Store → Value → PlainType → Value → Option Value
compound structs t op store v u w =
    elim (integer_type t) [
      | None ↦ operate_values (size_of structs (target_of t)) t op store v w
      | Some k ↦ elim (integer_type u) [ None ↦ None | Some l ↦ compound_integers k op store v l w ]
    ]

-- the operator of `++` and `--` (C99 6.5.2.4, 6.5.3.1)
abbrev pub bump_operator : BumpOp → BinOp
bump_operator PreUp = operator.Add
bump_operator PreDown = operator.Sub
bump_operator PostUp = operator.Add
bump_operator PostDown = operator.Sub

-- what they give, of the old value and the new one
abbrev pub bump_value : BumpOp → Value → Value → Value
bump_value PreUp old new = new
bump_value PreDown old new = new
bump_value PostUp old new = old
bump_value PostDown old new = old

abbrev pub is_zero : Value → Bool
is_zero (Integer z) = int_eq z (pos 0)
is_zero (Points p) = false
is_zero NoValue = false

-- 0 chooses the second (C99 6.5.13 to 6.5.15, 6.8.4.1, 6.8.5)
abbrev pub choose : {A : Type 0} → Value → Evaluation A → Evaluation A → Evaluation A
choose v a b = cond (is_zero v) b a

-- whether a value is not 0
abbrev pub truth_value : Value → Value
truth_value v = Integer (truth (not (is_zero v)))

abbrev pub is_of_library : Use → Bool
is_of_library f = nat_eq f.decl 4294967295

-- ---- places

-- the place that a pointer's value names (C99 6.5.3.2 p4)
abbrev pub pointed_to : Value → Evaluation Pointer
pointed_to (Points p) = give p
pointed_to (Integer z) = stop Stuck
pointed_to NoValue = stop Stuck

-- `x[y]`, of which one is a pointer (C99 6.5.2.1 p2)
abbrev pub indexed : ℕ → Store → Value → Value → Option Pointer
indexed unit store (Points p) (Integer i) = farther store unit p i
indexed unit store (Integer i) (Points p) = farther store unit p i
indexed unit store (Points p) (Points q) = None
indexed unit store (Integer i) (Integer j) = None
indexed unit store (Points p) NoValue = None
indexed unit store (Integer i) NoValue = None
indexed unit store NoValue y = None

-- an address that is taken: that of a member lies in a live block, or one after its end
abbrev pub is_member : Expression → Bool
is_member (Node at t (Dot a m)) = true
is_member (Node at t (Arrow a m)) = true
is_member _ = false

abbrev pub address : Expression → Pointer → Evaluation Value
address e p = if is_member e then computed (place_of e) (λ store. option_map Points (moved store p (pos 0))) else give (Points p)

-- a value that is assigned, or an object that is copied
abbrev pub assigned : List StructType → Place → PlainType → Option Scalar → Pointer → Evaluation Value → Evaluation Pointer → Evaluation Value
assigned structs at t (Some k) p v q = v >>= λ x. write at p k x >> give x
assigned structs at t None p v q = q >>= λ y. copy_object at p y (map (λ (c : ℕ × Scalar). (c.0, scalar_size c.1)) (scalars_of structs t)) >> give NoValue

-- a cast of an array is the address of its first element (C99 6.3.2.1 p3)
abbrev pub is_array : PlainType → Bool
is_array (Array t n) = true
is_array _ = false

-- ---- expressions

abbrev pub is_pointer : PlainType → Bool
is_pointer (Ptr t) = true
is_pointer _ = false

-- what a name gives: the value of the object in sight with its number; the one pointer in the library is `NULL` (C99 7.17)
abbrev pub named : Place → PlainType → Use → Option ℕ → Evaluation Value
named at t x (Some n) = read_any at (Into n 0) (scalar_of t)
named at t x None = cond (is_pointer t && is_of_library x) (give (Points Null)) (stop (Over (Undefined at)))

module _ (T : Tables) where
  abbrev pub size_value : PlainType → Value
  size_value t = Integer (pos (size_of T.structs t))

  -- what an expression gives, and where the object of one stands that designates an object (C99 6.3.2.1)
  abbrev mutual
    pub eval_with : Expression → Callee → Evaluation Value
    eval_with (Node at t (Number n k)) call = give (Integer n)
    eval_with (Node at t (Letter n)) call = give (Integer n)
    eval_with (Node at t (Text n)) call = give NoValue
    eval_with (Node at t (Variable x)) call = λ s. named at t x (find x.decl s.scope) s
    eval_with (Node at t (Unary unary.Address a)) call = place_with a call >>= address a
    eval_with (Node at t (Unary unary.Deref a)) call = eval_with a call >>= pointed_to >>= λ p. read_any at p (scalar_of t)
    eval_with (Node at t (Unary unary.Not a)) call = eval_with a call >>= tested (place_of a) >>= λ x. give (Integer (truth (is_zero x)))
    eval_with (Node at t (Unary unary.Plus a)) call = eval_with a call >>= λ x. defined at (operate_value t unary.Plus x)
    eval_with (Node at t (Unary unary.Minus a)) call = eval_with a call >>= λ x. defined at (operate_value t unary.Minus x)
    eval_with (Node at t (Unary unary.Flip a)) call = eval_with a call >>= λ x. defined at (operate_value t unary.Flip x)
    eval_with (Node at t (Binary op a b)) call = do
      x ← eval_with a call
      y ← eval_with b call
      computed at (λ store. operate_values (unit_of T.structs (type_of a) (type_of b)) t op store x y)
    eval_with (Node at t (Both a b)) call = do
      x ← (eval_with a call >>= tested (place_of a))
      choose x ((eval_with b call >>= tested (place_of b)) >>= λ y. give (truth_value y)) (give (Integer (pos 0)))
    eval_with (Node at t (Either a b)) call = do
      x ← (eval_with a call >>= tested (place_of a))
      choose x (give (Integer (pos 1))) ((eval_with b call >>= tested (place_of b)) >>= λ y. give (truth_value y))
    eval_with (Node at t (Choice a b c)) call = do
      x ← (eval_with a call >>= tested (place_of a))
      choose x (eval_with b call) (eval_with c call)
    eval_with (Node at t (Assign None a b)) call = do
      p ← place_with a call
      assigned T.structs at t (scalar_of t) p (eval_with b call) (place_with b call)
    eval_with (Node at t (Assign (Some op) a b)) call = do
      p ← place_with a call
      as_scalar (scalar_of t) λ k. do
        x ← read at p k
        y ← eval_with b call
        v ← computed at (λ store. compound T.structs t op store x (type_of b) y)
        write at p k v >> give v
    eval_with (Node at t (Bump op a)) call = do
      p ← place_with a call
      as_scalar (scalar_of t) λ k. do
        x ← read at p k
        v ← computed at (λ store. compound T.structs t (bump_operator op) store x int_type (Integer (pos 1)))
        write at p k v >> give (bump_value op x v)
    eval_with (Node at t (Call f args)) call = do
      vs ← evals_with args call
      call at f vs
    eval_with (Node at t (Cast to a)) call =
        cond (is_array (type_of a)) (place_with a call >>= address a) (eval_with a call >>= λ x. give (converted to x))
    eval_with (Node at t (SizeOfType u)) call = give (size_value u)
    -- the operand isn't evaluated (C99 6.5.3.4 p2)
    eval_with (Node at t (SizeOfExpr a)) call = give (size_value (type_of a))
    eval_with (Node at t (Index a b)) call = do
      x ← eval_with a call
      y ← eval_with b call
      p ← computed at (λ store. indexed (unit_of T.structs (type_of a) (type_of b)) store x y)
      read_any at p (scalar_of t)
    eval_with (Node at t (Dot a m)) call = do
      p ← place_with a call
      read_any at (shifted p (offset_of T.structs (type_of a) m)) (scalar_of t)
    eval_with (Node at t (Arrow a m)) call = do
      x ← eval_with a call
      p ← pointed_to x
      read_any at (shifted p (offset_of T.structs (target_of (type_of a)) m)) (scalar_of t)
    eval_with (Node at t (Comma a b)) call = eval_with a call >> eval_with b call

    pub place_with : Expression → Callee → Evaluation Pointer
    place_with (Node at t (Variable x)) call = object at x.decl
    place_with (Node at t (Text n)) call = give (literal T n)
    place_with (Node at t (Unary unary.Deref a)) call = eval_with a call >>= pointed_to
    place_with (Node at t (Index a b)) call = do
      x ← eval_with a call
      y ← eval_with b call
      computed at (λ store. indexed (unit_of T.structs (type_of a) (type_of b)) store x y)
    place_with (Node at t (Dot a m)) call = place_with a call >>= λ p. give (shifted p (offset_of T.structs (type_of a) m))
    place_with (Node at t (Arrow a m)) call = do
      x ← eval_with a call
      p ← pointed_to x
      give (shifted p (offset_of T.structs (target_of (type_of a)) m))
    -- a struct that was assigned stands where it was assigned
    place_with (Node at t (Assign None a b)) call =
        place_with a call >>= λ p. assigned T.structs at t (scalar_of t) p (eval_with b call) (place_with b call) >> give p
    place_with (Node at t (Comma a b)) call = eval_with a call >> place_with b call
    place_with (Node at t _) call = stop (Over (Undefined at))

    -- arguments, from left to right
    pub evals_with : Expressions → Callee → Evaluation (List Value)
    evals_with NoExpression call = give []
    evals_with (Following e es) call = do
      v ← eval_with e call
      vs ← evals_with es call
      give (v ∷ vs)

  -- the value of a condition, as a number
  abbrev pub condition_of : Expression → Callee → Evaluation Value
  condition_of e call = eval_with e call >>= tested (place_of e)

-- ---- statements

-- a loop's body, and then what comes after it; a `break` ends the loop (C99 6.8.6.2, 6.8.6.3)
abbrev pub after_body : Outcome (Unit {0}) → Evaluation (Unit {0}) → Outcome (Unit {0})
after_body (Normal u s) again = again s
after_body (Stop (Leaves Continues) s) again = again s
after_body (Stop (Leaves Breaks) s) again = Normal tt s
after_body (Stop (Leaves (Returns v)) s) again = Stop (Leaves (Returns v)) s
after_body (Stop (Over e) s) again = Stop (Over e) s
after_body (Stop Stuck s) again = Stop Stuck s

-- a turn behind its step, and what comes after it: the variant is kept, the body, what stands behind that, and the variant is compared
abbrev pub turn_with : Option (Annotation × LogicTerm) → Evaluation (Unit {0}) → Evaluation (Unit {0}) → Evaluation (Unit {0}) → Evaluation (Unit {0})
turn_with None body behind again = λ s. after_body (body s) (behind >> again)
turn_with (Some v) body behind again =
    value_of v.0 v.1 >>= λ old. λ s. after_body (body s) (behind >> (value_of v.0 v.1 >>= compared v.0 old) >> again)

-- at most n turns of a `while` or a `for`: the condition, a step, and a turn (C99 6.8.5.1, 6.8.5.3)
abbrev pub turns : ℕ → Evaluation Value → (Evaluation (Unit {0}) → Evaluation (Unit {0})) → Evaluation (Unit {0})
turns zero test turn = stop (Over Spent)
turns (suc n) test turn = do
  v ← test
  choose v (step >> turn (turns n test turn)) done

-- at most n turns of a `do`: a step, the body, the condition (C99 6.8.5.2)
abbrev pub do_turns : ℕ → Evaluation Value → Evaluation (Unit {0}) → Evaluation (Unit {0})
do_turns zero test body = stop (Over Spent)
do_turns (suc n) test body = step >> λ s. after_body (body s) (test >>= λ v. choose v (do_turns n test body) done)

-- ---- `switch` (C99 6.8.4.2)

-- whether a case has this value
abbrev pub is_case_of : ℤ → Option Expression → Bool
is_case_of z (Some (Node at t (Number n k))) = int_eq n z
is_case_of z _ = false

-- the index of the case with this value
abbrev pub case_of : ℤ → Cases → Option ℕ
case_of z NoCase = None
case_of z (AnotherCase at v items rest) = if is_case_of z v then Some 0 else option_map suc (case_of z rest)

-- that of the default, or else the number of cases
abbrev pub default_of : Cases → ℕ
default_of NoCase = 0
default_of (AnotherCase at None items rest) = 0
default_of (AnotherCase at (Some e) items rest) = suc (default_of rest)

-- the index of the first case that is executed
abbrev pub chosen_case : Value → Cases → ℕ
chosen_case (Integer z) cases = elim (case_of z cases) [ None ↦ default_of cases | Some k ↦ k ]
chosen_case (Points p) cases = default_of cases
chosen_case NoValue cases = default_of cases

-- a `break` ends it, and no other jump
abbrev pub after_switch : Outcome (Unit {0}) → Outcome (Unit {0})
after_switch (Normal u s) = Normal u s
after_switch (Stop (Leaves Breaks) s) = Normal tt s
after_switch (Stop (Leaves Continues) s) = Stop (Leaves Continues) s
after_switch (Stop (Leaves (Returns v)) s) = Stop (Leaves (Returns v)) s
after_switch (Stop (Over e) s) = Stop (Over e) s
after_switch (Stop Stuck s) = Stop Stuck s

-- the declarations that stand directly in a block
abbrev pub declared_in : BlockItems → List Declaration
declared_in NoItem = []
declared_in (Then (Declare ds) rest) = ds ++ declared_in rest
declared_in (Then (Specify at t) rest) = declared_in rest
declared_in (Then (Run a) rest) = declared_in rest
declared_in (Then (Asserts annots) rest) = declared_in rest

-- the declarations of a `for`
abbrev pub declared_first : ForFirst → List Declaration
declared_first NoFirst = []
declared_first (First (Declare ds)) = ds
declared_first (First (Specify at t)) = []
declared_first (First (Run a)) = []
declared_first (First (Asserts annots)) = []

-- the initialisation of a declared object, in its place of the order (C99 6.7.8, 6.8 p3)

-- zero in each byte of a scalar
abbrev pub zeros : ℕ → List Byte
zeros n = replicate n (NumberByte 0)

abbrev pub zero_scalars : Place → Pointer → List (ℕ × Scalar) → Evaluation (Unit {0})
zero_scalars at p [] = done
zero_scalars at p (c ∷ cs) = write_bytes at (shifted p c.0) (zeros (scalar_size c.1)) >> zero_scalars at p cs

-- the parts that a list of initialisers leaves out
abbrev pub zero_parts : List StructType → Place → Pointer → List (ℕ × PlainType) → Evaluation (Unit {0})
zero_parts structs at p [] = done
zero_parts structs at p (c ∷ cs) = zero_scalars at (shifted p c.0) (scalars_of structs c.1) >> zero_parts structs at p cs

-- a string literal that stands alone (C99 6.7.8 p14); where its address is meant it stands in a cast
abbrev pub string_in : Expression → Option ℕ
string_in (Node at t (Text n)) = Some n
string_in _ = None

-- bytes, and then zeros, in so many bytes
abbrev pub padded : ℕ → List ℕ → List Byte
padded zero bytes = []
padded (suc n) [] = NumberByte 0 ∷ padded n []
padded (suc n) (b ∷ bs) = NumberByte b ∷ padded n bs

-- bytes one by one
abbrev pub write_each : Place → Pointer → List Byte → Evaluation (Unit {0})
write_each at p [] = done
write_each at p (b ∷ bs) = write_bytes at p (b ∷ []) >> write_each at (shifted p 1) bs

abbrev pub text_at : List (List ℕ) → ℕ → List ℕ
text_at texts n = elim (slice_get texts n) [ None ↦ [] | Some bytes ↦ bytes ]

-- putchar gives the byte that it wrote (C99 7.19.7.9, 7.19.7.3)
abbrev pub put_char : Place → List Value → Evaluation Value
put_char at [] = stop (Over (Undefined at))
put_char at (NoValue ∷ []) = stop (Over (Undefined at))
put_char at (Points p ∷ []) = stop (Over (Undefined at))
put_char at (Integer z ∷ []) = print (byte_of z) >> give (Integer (pos (byte_of z)))
put_char at (v ∷ w ∷ vs) = stop (Over (Undefined at))

-- getchar gives the byte that it read, or -1 (C99 7.19.7.6)
abbrev pub get_char : Place → List Value → Evaluation Value
get_char at [] = λ s. read_byte s.input.bytes s.input.tail s
get_char at (v ∷ vs) = stop (Over (Undefined at))

-- exit ends the run at once (C99 7.20.4.3)
abbrev pub exit_with : Place → List Value → Evaluation Value
exit_with at [] = stop (Over (Undefined at))
exit_with at (NoValue ∷ []) = stop (Over (Undefined at))
exit_with at (Points p ∷ []) = stop (Over (Undefined at))
exit_with at (Integer z ∷ []) = stop (Over (Exits z))
exit_with at (v ∷ w ∷ vs) = stop (Over (Undefined at))

-- malloc gives a block whose bytes are unwritten (C99 7.20.3.3)
abbrev pub malloc_with : Place → List Value → Evaluation Value
malloc_with at (Integer n ∷ []) = allocate (bits_of U64 n) Unwritten
malloc_with at vs = stop (Over (Undefined at))

-- calloc gives one of zeros, as long as the unbounded product says (C99 7.20.3.1)
abbrev pub calloc_with : Place → List Value → Evaluation Value
calloc_with at (Integer n ∷ Integer m ∷ []) = allocate (bits_of U64 n * bits_of U64 m) (NumberByte 0)
calloc_with at vs = stop (Over (Undefined at))

-- free ends the life of a block of the heap (C99 7.20.3.2)
abbrev pub free_with : Place → List Value → Evaluation Value
free_with at (Points p ∷ []) = changed at (λ store. freed store p) >> give NoValue
free_with at vs = stop (Over (Undefined at))

-- the bytes of the string literal whose block has this number
abbrev pub text_of_block : ℕ → List ℕ → List (List ℕ) → Option (List ℕ)
text_of_block n [] texts = None
text_of_block n (k ∷ ks) [] = None
text_of_block n (k ∷ ks) (bytes ∷ texts) = if nat_eq k n then Some bytes else text_of_block n ks texts

-- those of the literal to whose start a pointer points
abbrev pub text_at_pointer : Tables → Pointer → Option (List ℕ)
text_at_pointer T Null = None
text_at_pointer T (Into n zero) = text_of_block n T.literals T.texts
text_at_pointer T (Into n (suc i)) = None

-- printf prints what its format, a string literal, makes of the other arguments (C99 7.19.6.3); by the profile it gives no value
abbrev pub printf_with : Tables → Place → List Value → Evaluation Value
printf_with T at (Points p ∷ vs) = defined at (text_at_pointer T p) >>= λ bytes. defined at (pieces_of bytes) >>= λ ps. print_pieces at ps vs
printf_with T at vs = stop (Over (Undefined at))

-- a call of a library function, by its name
abbrev pub library_call : Tables → Place → Option (List ℕ) → List Value → Evaluation Value
library_call T at None vs = stop (Over (Undefined at))
library_call T at (Some name) vs =
    if bytes_eq name (codes "putchar") then put_char at vs
    else (if bytes_eq name (codes "getchar") then get_char at vs
    else (if bytes_eq name (codes "exit") then exit_with at vs
    else (if bytes_eq name (codes "malloc") then malloc_with at vs
    else (if bytes_eq name (codes "calloc") then calloc_with at vs
    else (if bytes_eq name (codes "free") then free_with at vs
    else (if bytes_eq name (codes "printf") then printf_with T at vs else stop (Over (Undefined at))))))))

-- the definition with this number
abbrev pub definition_at : ℕ → List Function → Option Function
definition_at n [] = None
definition_at n (f ∷ fs) = if is_definition f && nat_eq f.place.offset n then Some f else definition_at n fs

-- at the closing brace of a function: by the profile one that gives a value isn't to come there (C99 6.9.1 p12)
abbrev pub at_close : Place → PlainType → Evaluation Value
at_close close t = elim (scalar_of t) [ None ↦ give NoValue | Some k ↦ stop (Over (Undefined close)) ]

-- what a call gives, from the way in which the body ends (C99 6.8.6.4)
abbrev pub returned_by : Function → Outcome (Unit {0}) → Outcome Value
returned_by f (Normal u s) = at_close f.close f.result s
returned_by f (Stop (Leaves Breaks) s) = Stop Stuck s
returned_by f (Stop (Leaves Continues) s) = Stop Stuck s
returned_by f (Stop (Leaves (Returns None)) s) = Normal NoValue s
returned_by f (Stop (Leaves (Returns (Some v))) s) = Normal v s
returned_by f (Stop (Over e) s) = Stop (Over e) s
returned_by f (Stop Stuck s) = Stop Stuck s

-- the demands on what main gives, which is 0 at its closing brace (C99 5.1.2.2.3)
abbrev pub after_main : Option FunctionContract → List Bool → Outcome (Unit {0}) → Outcome (Unit {0})
after_main c hs (Normal u s) = ending c hs (Integer (pos 0)) s
after_main c hs (Stop (Leaves Breaks) s) = Stop (Leaves Breaks) s
after_main c hs (Stop (Leaves Continues) s) = Stop (Leaves Continues) s
after_main c hs (Stop (Leaves (Returns None)) s) = (ending c hs NoValue >> stop (Leaves (Returns None))) s
after_main c hs (Stop (Leaves (Returns (Some v))) s) = (ending c hs v >> stop (Leaves (Returns (Some v)))) s
after_main c hs (Stop (Over e) s) = Stop (Over e) s
after_main c hs (Stop Stuck s) = Stop Stuck s

module _ (T : Tables) where
  abbrev pub fill_one : Place → PlainType → Pointer → Option ℕ → Evaluation Value → Evaluation (Unit {0})
  fill_one at t p (Some n) v = write_each at p (padded (size_of T.structs t) (text_at T.texts n))
  fill_one at t p None v = v >>= λ x. as_scalar (scalar_of t) λ k. write at p k x

  -- braces around the one initialiser of a scalar (C99 6.7.8 p11)
  abbrev pub parts_or_itself : PlainType → List (ℕ × PlainType)
  parts_or_itself t = elim (scalar_of t) [ None ↦ parts_of T.structs t | Some k ↦ (0, t) ∷ [] ]

  abbrev mutual
    pub fill : Place → PlainType → Pointer → Initialiser → Callee → Evaluation (Unit {0})
    fill at t p (One e) call = fill_one at t p (string_in e) (eval_with T e call)
    fill at t p (Many brace is) call = fill_parts at (parts_or_itself t) p is call

    pub fill_parts : Place → List (ℕ × PlainType) → Pointer → Initialisers → Callee → Evaluation (Unit {0})
    fill_parts at cs p NoInitialiser call = zero_parts T.structs at p cs
    fill_parts at [] p (Listed i is) call = done
    fill_parts at (c ∷ cs) p (Listed i is) call = fill at c.1 (shifted p c.0) i call >> fill_parts at cs p is call

  abbrev pub initialise : Declaration → Option (Place × Initialiser) → Callee → Evaluation (Unit {0})
  initialise d None call = done
  initialise d (Some (at, i)) call = object at d.place.offset >>= λ p. fill at d.ctype p i call

  abbrev pub initialise_all : List Declaration → Callee → Evaluation (Unit {0})
  initialise_all [] call = done
  initialise_all (d ∷ ds) call = initialise d d.init call >> initialise_all ds call

  -- the condition of a `for`, which is true where it is left out (C99 6.8.5.3 p2)
  abbrev pub condition_with : Option Expression → Callee → Evaluation Value
  condition_with None call = give (Integer (pos 1))
  condition_with (Some e) call = condition_of T e call

  -- an expression for its effects (C99 6.8.3 p2)
  abbrev pub effect_with : Option Expression → Callee → Evaluation (Unit {0})
  effect_with None call = done
  effect_with (Some e) call = eval_with T e call >> done

  -- what a statement does, where calls do this and each loop makes at most n turns
  abbrev mutual
    pub exec_with : Statement → Callee → ℕ → Evaluation (Unit {0})
    exec_with (Empty at) call n = done
    exec_with (Eval at e) call n = eval_with T e call >> done
    exec_with (Block at items) call n = within (births T.structs (declared_in items) >> items_with items call n)
    exec_with (If at e a b) call n = do
      v ← condition_of T e call
      choose v (exec_with a call n) (else_with b call n)
    exec_with (While at annots e a) call n =
        turns n (invariants annots >> condition_of T e call) (turn_with (variant annots) (exec_with a call n) done)
    exec_with (Do at a e) call n = do_turns n (condition_of T e call) (exec_with a call n)
    exec_with (For at annots first e behind a) call n =
        within (births T.structs (declared_first first) >> first_with first call n >> turns n (invariants annots >> condition_with e call)
        (turn_with (variant annots) (exec_with a call n) (effect_with behind call)))
    exec_with (Break at) call n = stop (Leaves Breaks)
    exec_with (Continue at) call n = stop (Leaves Continues)
    exec_with (Return at None) call n = stop (Leaves (Returns None))
    exec_with (Return at (Some e)) call n = do
      v ← eval_with T e call
      stop (Leaves (Returns (Some v)))
    -- a label is passed, and then its statement is executed (C99 6.8.1)
    exec_with (Labelled at l a) call n = mark (Some l) >> exec_with a call n
    exec_with (Switch at e cases) call n = do
      v ← eval_with T e call
      λ s. after_switch (cases_with cases call n (chosen_case v cases) s)

    -- the items of all cases but the first k
    pub cases_with : Cases → Callee → ℕ → ℕ → Evaluation (Unit {0})
    cases_with NoCase call n k = done
    cases_with (AnotherCase at v items rest) call n zero = items_with items call n >> cases_with rest call n zero
    cases_with (AnotherCase at v items rest) call n (suc k) = cases_with rest call n k

    pub else_with : ElsePart → Callee → ℕ → Evaluation (Unit {0})
    else_with NoElse call n = done
    else_with (Else a) call n = exec_with a call n

    pub first_with : ForFirst → Callee → ℕ → Evaluation (Unit {0})
    first_with NoFirst call n = done
    first_with (First i) call n = item_with i call n

    pub item_with : BlockItem → Callee → ℕ → Evaluation (Unit {0})
    item_with (Declare ds) call n = initialise_all ds call
    item_with (Specify at t) call n = done
    item_with (Run a) call n = exec_with a call n
    item_with (Asserts annots) call n = checks annots

    pub items_with : BlockItems → Callee → ℕ → Evaluation (Unit {0})
    items_with NoItem call n = done
    items_with (Then i rest) call n = item_with i call n >> items_with rest call n

  -- parameters are born in order, each with its argument (C99 6.5.2.2 p4, 6.9.1 p9)
  abbrev pub parameters : Place → List Declaration → List Value → Evaluation (Unit {0})
  parameters at [] [] = done
  parameters at [] (v ∷ vs) = stop (Over (Undefined at))
  parameters at (d ∷ ds) [] = stop (Over (Undefined at))
  parameters at (d ∷ ds) (v ∷ vs) = birth T.structs d >> as_scalar (scalar_of d.ctype) (λ k. write_youngest at k v) >> parameters at ds vs

  abbrev pub body_with : Option Statement → Callee → ℕ → Evaluation (Unit {0})
  body_with None call n = stop Stuck
  body_with (Some a) call n = exec_with a call n

  -- what a call gives, where these behaviors hold: the body, and then the demands on its value
  abbrev pub result_with : Function → List Bool → Callee → ℕ → Evaluation Value
  result_with f hs call n = (λ s. returned_by f (body_with f.body call n s)) >>= λ v. ending f.contract hs v >> give v

  -- A call of a function with these values: a step, a frame, the parameters, the mark `Pre`, what the contract asks at the beginning, the body,
  -- and what it asks at the end (C99 6.5.2.2, ACSL 2.3.2).
  abbrev pub call_with : Scope → Option Function → Callee → ℕ → Place → List Value → Evaluation Value
  call_with globals None call n at vs = stop (Over (Undefined at))
  call_with globals (Some f) call n at vs =
      step >> called (frame >> alone globals >> parameters at f.params vs >> mark None >> (entry f.contract >>= λ hs. result_with f hs call n))

  -- A call of main: the same without a step and arguments.
  abbrev pub main_with : Option Function → Callee → ℕ → Evaluation (Unit {0})
  main_with None call n = stop Stuck
  main_with (Some f) call n =
      called (frame >> births T.structs f.params >> mark None >> (entry f.contract >>= λ hs s. after_main f.contract hs (body_with f.body call n s)))

-- ---- whole programs

abbrev pub tables_of : TranslationUnit → Tables
tables_of p = record { structs = p.structs; texts = map (λ l. l.bytes) p.texts; literals = literals_from 1 (static_objects p) }

-- the globals, each with the number of its block
abbrev pub global_scope : TranslationUnit → Scope
global_scope p = scope_from 1 (static_objects p)

-- the block of a global, all of zeros (C99 6.7.8 p10), and that of a literal with a zero after its bytes (C99 6.4.5 p5)
abbrev pub block_of_object : List StructType → StaticObject → MemoryBlock
block_of_object structs (OfGlobal d) = block_of block.Global (zeros (size_of structs d.ctype))
block_of_object structs (OfLiteral l) = block_of block.Literal (map NumberByte l.bytes ++ NumberByte 0 ∷ [])

-- what calls do in a program, at most n deep
abbrev pub call_of : TranslationUnit → ℕ → Callee
call_of p zero at f vs = if is_of_library f then library_call (tables_of p) at (slice_get p.names f.name) vs else stop (Over Spent)
call_of p (suc n) at f vs =
    if is_of_library f then library_call (tables_of p) at (slice_get p.names f.name) vs
    else call_with (tables_of p) (global_scope p) (definition_at f.decl p.funcs) (call_of p n) n at vs

abbrev pub eval : TranslationUnit → ℕ → Expression → Evaluation Value
eval p n e = eval_with (tables_of p) e (call_of p n)

abbrev pub condition : TranslationUnit → ℕ → Expression → Evaluation Value
condition p n e = condition_of (tables_of p) e (call_of p n)

abbrev pub exec : TranslationUnit → ℕ → Statement → Evaluation (Unit {0})
exec p n a = exec_with (tables_of p) a (call_of p n) n

abbrev pub has_name : Option (List ℕ) → List ℕ → Bool
has_name None name = false
has_name (Some bytes) name = bytes_eq bytes name

-- the definition of a name
abbrev pub function_named : TranslationUnit → List ℕ → List Function → Option Function
function_named p name [] = None
function_named p name (f ∷ fs) =
    if is_definition f && has_name (slice_get p.names f.name) name then Some f else function_named p name fs

-- the state in which a run begins
abbrev pub start : TranslationUnit → Input → ℕ → State
start p input n = record {
  store = map (block_of_object p.structs) (static_objects p);
  scope = global_scope p;
  marks = [];
  calls = 0;
  steps = n;
  input = input;
  output = [];
}

-- a whole run: globals are initialised, and main is called
abbrev pub whole : TranslationUnit → ℕ → Evaluation (Unit {0})
whole p n =
    initialise_all (tables_of p) p.globals (call_of p n) >> main_with (tables_of p) (function_named p (codes "main") p.funcs) (call_of p n) n

-- a run: its end, what it printed, and the steps left
pub record Ran : Type 0 where
  pub final : Final
  pub output : List ℕ
  pub left : ℕ

abbrev pub ran_to : Final → State → Ran
ran_to e s = record { final = e; output = s.output; left = s.steps }

-- Main returns 0 at its closing brace (C99 5.1.2.2.3). What typing rules out counts as undefined; no program of an accepted text comes to it.
abbrev pub ran : Outcome (Unit {0}) → Ran
ran (Normal u s) = ran_to (Exits (pos 0)) s
ran (Stop (Leaves Breaks) s) = ran_to (Undefined first_place) s
ran (Stop (Leaves Continues) s) = ran_to (Undefined first_place) s
ran (Stop (Leaves (Returns None)) s) = ran_to (Exits (pos 0)) s
ran (Stop (Leaves (Returns (Some NoValue))) s) = ran_to (Undefined first_place) s
ran (Stop (Leaves (Returns (Some (Points p)))) s) = ran_to (Undefined first_place) s
ran (Stop (Leaves (Returns (Some (Integer z)))) s) = ran_to (Exits z) s
ran (Stop (Over e) s) = ran_to e s
ran (Stop Stuck s) = ran_to (Undefined first_place) s

-- the run of a program on an input with n steps
abbrev pub run : TranslationUnit → Input → ℕ → Ran
run p input n = ran (whole p (suc n) (start p input n))
