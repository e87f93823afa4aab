-- What effects become: calls, assignments and increments, the full expressions whose values they take, and the temporary registers of both; and zeros
-- and copies in the scalars of objects. Statements are put before the values that they set up. What is assigned is stored in the block of its variable.
use Rattle.std.specs.Prelude.{ℕ, zero, suc, ◌+◌, ◌-◌, ◌%◌, pos, Bool, false, ◌&&◌, nat_eq, nat_le, List, [], ◌∷◌, ◌++◌, length, Option, Some, None}
use Rattle.std.specs.Prelude.{if◌then◌else◌, codes, bytes_eq}
use Rattle.c_syntax.specs.declared.types.CInt.{CInt}
use Rattle.c_syntax.specs.declared.types.CInt.TheVariants as c
use Rattle.c_syntax.specs.declared.expression.Use.{Use}
use Rattle.c_syntax.specs.Ctypes.{PlainType, int_type}
use Rattle.c_syntax.specs.Expressions as source
use Rattle.c_syntax.specs.Expressions.{Expression, Node, Expressions, NoExpression, Following, type_of}
use Rattle.c_syntax.specs.Programs.{StructType, TranslationUnit}
use Rattle.c_syntax.specs.Layouts.{Scalar, IntegerType, PointerType, int_size, scalar_size, scalar_of, offset_of, target_of, scalars_of}
use Rattle.c_model.specs.Meaning.{bump_operator, is_member, is_of_library}
use Rattle.c_model.specs.ExpressionTyping.{name_at}
use Rattle.mon_syntax.specs.declared.tree.CopySize.{CopySize}
use Rattle.mon_syntax.specs.declared.tree.CopySize.TheVariants.{One as OneByte, Two, Four, Eight}
use Rattle.mon_syntax.specs.declared.tree.MemoryCall.TheVariants.{Copy, Malloc, Calloc, Free}
use Rattle.mon_syntax.specs.declared.tree.MonType.{MonType}
use Rattle.mon_syntax.specs.declared.tree.MonType.TheVariants.{I32, Ptr}
use Rattle.mon_syntax.specs.Trees.{MonExpression, Register, Constant, Load, Store, PutChar, GetChar, Exit, Act, Call, MonStatements, NoStatement, Then}
use Rattle.mon_syntax.specs.Registers.{Bindings, register_of}
pub use Rattle.mon_syntax.specs.Indices.{index_of}
use Rattle.c_effects.specs.Expressions.{register_type, value_type, converted, compound, farther, global_index, temporaries}
use Rattle.c_effects.specs.Expressions.{value, place, before, one, set, setup}
pub use Rattle.c_effects.specs.Printing.{first_of}
use Rattle.c_effects.specs.Printing.{print_call}

-- ---- full expressions: one without effects, or a call, whose value a temporary register takes, perhaps in a cast

abbrev pub arguments_temporaries : Expressions → List MonType
arguments_temporaries NoExpression = []
arguments_temporaries (Following e es) = temporaries e ++ arguments_temporaries es

-- the types of the temporary registers, of which that of the call is the last
abbrev pub full_temporaries : Expression → List MonType
full_temporaries (Node at t (source.Call f es)) = arguments_temporaries es ++ value_type t ∷ []
full_temporaries (Node at t (source.Cast to (Node at2 u (source.Call f es)))) = arguments_temporaries es ++ value_type u ∷ []
full_temporaries e = temporaries e

-- what stands before the arguments' values, and these, from left to right
abbrev pub arguments_setup : TranslationUnit → Bindings → List MonType → Expressions → MonStatements
arguments_setup p bound rs NoExpression = NoStatement
arguments_setup p bound rs (Following e es) = before (setup p bound rs e) (arguments_setup p bound (rs ++ temporaries e) es)

abbrev pub arguments : TranslationUnit → Bindings → List MonType → Expressions → List MonExpression
arguments p bound rs NoExpression = []
arguments p bound rs (Following e es) = value p bound rs e ∷ arguments p bound (rs ++ temporaries e) es

-- the value of a full expression, after what stands before it
abbrev pub full_value : TranslationUnit → Bindings → List MonType → Expression → MonExpression
full_value p bound rs (Node at t (source.Call f es)) = Register (length (rs ++ arguments_temporaries es))
full_value p bound rs (Node at t (source.Cast to (Node at2 u (source.Call f es)))) =
    converted u to (Register (length (rs ++ arguments_temporaries es)))
full_value p bound rs e = value p bound rs e

-- a call of a function of the library but printf, by its name; nothing else is in the library
abbrev pub library_call : Option ℕ → List ℕ → List MonExpression → MonStatements
library_call r name args =
    if bytes_eq name (codes "putchar") then one (PutChar r (first_of args))
    else (if bytes_eq name (codes "getchar") then one (GetChar r)
    else (if bytes_eq name (codes "exit") then one (Exit (first_of args))
    else (if bytes_eq name (codes "malloc") then one (Act r Malloc args)
    else (if bytes_eq name (codes "calloc") then one (Act r Calloc args)
    else (if bytes_eq name (codes "free") then one (Act r Free args) else NoStatement)))))

-- the same and printf, by its name and its arguments
abbrev pub named_call : TranslationUnit → Option ℕ → List ℕ → Expressions → List MonExpression → MonStatements
named_call p r name es args = if bytes_eq name (codes "printf") then print_call p es args else library_call r name args

-- a call by its arguments and their values, and the register that takes its own
abbrev pub call : TranslationUnit → Option ℕ → Use → Expressions → List MonExpression → MonStatements
call p r f es args = if is_of_library f then named_call p r (name_at p.names f.name) es args else one (Call r (index_of f.decl p.funcs) args)

-- ---- objects that are assigned to

-- whether an expression is a variable of a function, to whose block a register points
abbrev pub is_direct : TranslationUnit → Expression → Bool
is_direct p (Node at t (source.Variable x)) = nat_le (length p.globals) (global_index x.decl p.globals)
is_direct p _ = false

-- the register that points to the block of a declaration
abbrev pub block_register : Option ℕ → ℕ
block_register (Some r) = r
block_register None = 0

abbrev pub block_of : Bindings → ℕ → ℕ
block_of bound x = block_register (register_of bound x)

abbrev pub variable_register : Bindings → Expression → ℕ
variable_register bound (Node at t (source.Variable x)) = block_of bound x.decl
variable_register bound _ = 0

-- The object in which a member stands, or else the object itself, and how many bytes from its start. A member is reached only where it is read or
-- written: a call that comes before may end the run, and nothing asks of a pointer to be inside its object till then.
abbrev pub base : TranslationUnit → Bindings → List MonType → Expression → MonExpression
base p bound rs (Node at t (source.Dot a m)) = base p bound rs a
base p bound rs (Node at t (source.Arrow a m)) = value p bound rs a
base p bound rs e = place p bound rs e

abbrev pub offset_in : List StructType → Expression → ℕ
offset_in structs (Node at t (source.Dot a m)) = offset_in structs a + offset_of structs (type_of a) m
offset_in structs (Node at t (source.Arrow a m)) = offset_of structs (target_of (type_of a)) m
offset_in structs e = 0

-- the register that points to the object that an expression designates, or at first to the one in which it is a member: that of a variable's block, or
-- a temporary one
abbrev pub target_temporaries : TranslationUnit → Expression → List MonType
target_temporaries p a = if is_direct p a then [] else temporaries a ++ Ptr ∷ []

abbrev pub target : TranslationUnit → Bindings → List MonType → Expression → ℕ
target p bound rs a = if is_direct p a then variable_register bound a else length (rs ++ temporaries a)

abbrev pub target_setup : TranslationUnit → Bindings → List MonType → Expression → MonStatements
target_setup p bound rs a =
    if is_direct p a then NoStatement else before (setup p bound rs a) (set (length (rs ++ temporaries a)) (base p bound rs a))

-- the value of the object to which a register points
abbrev pub current : ℕ → PlainType → MonExpression
current r t = Load (value_type t) (Register r)

-- it becomes this
abbrev pub store : ℕ → PlainType → MonExpression → MonStatements
store r t e = one (Store r (value_type t) e)

-- a value, which may be made of the old one, becomes that of the object: of the member, to which a further register points, where the first one points
-- to the object that it is in
abbrev pub into_object : TranslationUnit → ℕ → ℕ → Expression → PlainType → (ℕ → MonExpression) → MonStatements
into_object p r k a t e =
    if is_member a then before (set k (farther (Register r) (offset_in p.structs a))) (store k t (e k)) else store r t (e r)

-- ---- structs that are assigned (C99 6.5.16.1): the scalars in them are copied, in order, and what is between these isn't

-- how many bytes the copy of a scalar takes
abbrev pub copy_size : Scalar → CopySize
copy_size (IntegerType c.I8) = OneByte
copy_size (IntegerType c.U8) = OneByte
copy_size (IntegerType c.I16) = Two
copy_size (IntegerType c.U16) = Two
copy_size (IntegerType c.I32) = Four
copy_size (IntegerType c.U32) = Four
copy_size (IntegerType c.I64) = Eight
copy_size (IntegerType c.U64) = Eight
copy_size PointerType = Eight

-- scalars of the object that stands e bytes from where the register q points are copied to the object d bytes from where r points
abbrev pub copies_at : ℕ → ℕ → ℕ → ℕ → List (ℕ × Scalar) → MonStatements
copies_at r d q e [] = NoStatement
copies_at r d q e (c ∷ cs) =
    Then (Act None (Copy (copy_size c.1)) (farther (Register r) (d + c.0) ∷ farther (Register q) (e + c.0) ∷ [])) (copies_at r d q e cs)

-- ---- temporary registers of effects

abbrev pub member_temporaries : Expression → List MonType
member_temporaries a = if is_member a then Ptr ∷ [] else []

-- those of `a = b`, of a scalar and of a struct
abbrev pub value_temporaries : TranslationUnit → Expression → Expression → List MonType
value_temporaries p a b = target_temporaries p a ++ full_temporaries b ++ member_temporaries a

abbrev pub object_temporaries : TranslationUnit → Expression → Expression → List MonType
object_temporaries p a b = target_temporaries p a ++ target_temporaries p b

abbrev pub assigned_temporaries : TranslationUnit → Option Scalar → Expression → Expression → List MonType
assigned_temporaries p (Some k) a b = value_temporaries p a b
assigned_temporaries p None a b = object_temporaries p a b

abbrev pub effect_temporaries : TranslationUnit → Expression → List MonType
effect_temporaries p (Node at t (source.Assign None a b)) = assigned_temporaries p (scalar_of t) a b
effect_temporaries p (Node at t (source.Assign (Some op) a b)) = target_temporaries p a ++ temporaries b ++ member_temporaries a
effect_temporaries p (Node at t (source.Bump op a)) = target_temporaries p a ++ member_temporaries a
effect_temporaries p (Node at t (source.Call f es)) = arguments_temporaries es
effect_temporaries p _ = []

abbrev pub any_temporaries : (Expression → List MonType) → Option Expression → List MonType
any_temporaries of_one None = []
any_temporaries of_one (Some e) = of_one e

-- a value of the monitored type at an offset from where the first register points, through the second
abbrev pub stored_at : ℕ → ℕ → ℕ → MonType → MonExpression → MonStatements
stored_at r k d t e = before (set k (farther (Register r) d)) (one (Store k t e))

-- ---- zeros in bytes in a row

-- whether so many bytes may be stored at once at an offset of a block, of these that are left
abbrev pub may_stand : ℕ → ℕ → ℕ → Bool
may_stand d n width = nat_eq (d % width) 0 && nat_le width n

-- the widest integer type that may be stored there
abbrev pub widest : ℕ → ℕ → CInt
widest d n = if may_stand d n 8 then c.I64 else (if may_stand d n 4 then c.I32 else (if may_stand d n 2 then c.I16 else c.I8))

-- zeros in so many bytes from an offset on, of which the first ones are stored already: each store is as wide as it may be there
abbrev pub zeros_from : ℕ → ℕ → ℕ → ℕ → ℕ → MonStatements
zeros_from r k d stored zero = NoStatement
zeros_from r k d zero (suc n) =
    before (stored_at r k d (register_type (widest d (suc n))) (Constant (register_type (widest d (suc n))) (pos 0)))
    (zeros_from r k (suc d) (int_size (widest d (suc n)) - 1) n)
zeros_from r k d (suc stored) (suc n) = zeros_from r k (suc d) stored n

-- zeros in the bytes of scalars, each at its offset, after so many bytes from an offset on that aren't stored yet: what stands in a row is stored as one
abbrev pub zeros_at : ℕ → ℕ → ℕ → ℕ → List (ℕ × Scalar) → MonStatements
zeros_at r k d n [] = zeros_from r k d 0 n
zeros_at r k d n (c ∷ cs) =
    if nat_eq c.0 (d + n) then zeros_at r k d (n + scalar_size c.1) cs else before (zeros_from r k d 0 n) (zeros_at r k c.0 (scalar_size c.1) cs)

-- scalars so many bytes farther
abbrev pub moved : ℕ → List (ℕ × Scalar) → List (ℕ × Scalar)
moved d [] = []
moved d (c ∷ cs) = (d + c.0, c.1) ∷ moved d cs

-- the scalars of parts that stand so many bytes farther
abbrev pub scalars_in : List StructType → ℕ → List (ℕ × PlainType) → List (ℕ × Scalar)
scalars_in structs d [] = []
scalars_in structs d (c ∷ cs) = moved (d + c.0) (scalars_of structs c.1) ++ scalars_in structs d cs

abbrev pub zero_parts : List StructType → ℕ → ℕ → ℕ → List (ℕ × PlainType) → MonStatements
zero_parts structs r k d cs = zeros_at r k d 0 (scalars_in structs d cs)

-- ---- effects, where these registers are bound to variables

module _ (p : TranslationUnit) (bound : Bindings) where
  -- a call with its arguments, and the register that takes its value
  abbrev pub called : List MonType → Option ℕ → Use → Expressions → MonStatements
  called rs r f es = before (arguments_setup p bound rs es) (call p r f es (arguments p bound rs es))

  -- what stands before the value of a full expression
  abbrev pub full_setup : List MonType → Expression → MonStatements
  full_setup rs (Node at t (source.Call f es)) = called rs (Some (length (rs ++ arguments_temporaries es))) f es
  full_setup rs (Node at t (source.Cast to (Node at2 u (source.Call f es)))) = called rs (Some (length (rs ++ arguments_temporaries es))) f es
  full_setup rs e = setup p bound rs e

  -- `a = b` of a scalar: the place, the value, the store
  abbrev pub value_assigned : List MonType → PlainType → Expression → Expression → MonStatements
  value_assigned rs t a b =
      before (target_setup p bound rs a) (before (full_setup (rs ++ target_temporaries p a) b)
      (into_object p (target p bound rs a) (length (rs ++ target_temporaries p a ++ full_temporaries b)) a t
      (λ r. full_value p bound (rs ++ target_temporaries p a) b)))

  -- of a struct: both places, and the copies
  abbrev pub object_assigned : List MonType → PlainType → Expression → Expression → MonStatements
  object_assigned rs t a b =
      before (target_setup p bound rs a) (before (target_setup p bound (rs ++ target_temporaries p a) b)
      (copies_at (target p bound rs a) (offset_in p.structs a) (target p bound (rs ++ target_temporaries p a) b) (offset_in p.structs b)
      (scalars_of p.structs t)))

  abbrev pub assigned : List MonType → Option Scalar → PlainType → Expression → Expression → MonStatements
  assigned rs (Some k) t a b = value_assigned rs t a b
  assigned rs None t a b = object_assigned rs t a b

  -- an expression for its effects: the place, the value, the store; nothing is left of one that has none
  abbrev pub effect : List MonType → Expression → MonStatements
  effect rs (Node at t (source.Assign None a b)) = assigned rs (scalar_of t) t a b
  effect rs (Node at t (source.Assign (Some op) a b)) =
      before (target_setup p bound rs a) (before (setup p bound (rs ++ target_temporaries p a) b)
      (into_object p (target p bound rs a) (length (rs ++ target_temporaries p a ++ temporaries b)) a t
      (λ r. compound p.structs op t (type_of b) (current r t) (value p bound (rs ++ target_temporaries p a) b))))
  effect rs (Node at t (source.Bump op a)) =
      before (target_setup p bound rs a)
      (into_object p (target p bound rs a) (length (rs ++ target_temporaries p a)) a t
      (λ r. compound p.structs (bump_operator op) t int_type (current r t) (Constant I32 (pos 1))))
  effect rs (Node at t (source.Call f es)) = called rs None f es
  effect rs _ = NoStatement
