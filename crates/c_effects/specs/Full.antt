-- Ours: a choice of code; what it has to do is C99 6.5.
-- Expressions with effects anywhere in them: statements that do the effects in their order, and after them a value that has none. A value that is read
-- before a later effect stands in a register, unless nothing changes it. Without effects this is the translation of `Expressions`.
use Rattle.std.specs.Prelude.{ℕ, ◌+◌, pos, Bool, true, false, not, ◌&&◌, List, [], ◌∷◌, ◌++◌, length, Option, Some, None, if◌then◌else◌}
use Rattle.c_syntax.specs.declared.expression.UnOp.TheVariants as prefix
use Rattle.c_syntax.specs.declared.expression.BinOp.{BinOp}
use Rattle.c_syntax.specs.declared.expression.BumpOp.{BumpOp}
use Rattle.c_syntax.specs.declared.expression.BumpOp.TheVariants.{PreUp, PreDown, PostUp, PostDown}
use Rattle.c_syntax.specs.Ctypes.{PlainType, int_type}
use Rattle.c_syntax.specs.Expressions as source
use Rattle.c_syntax.specs.Expressions.{Expression, Node, Expressions, NoExpression, Following, type_of}
use Rattle.c_syntax.specs.Layouts.{Scalar, scalar_of, size_of, offset_of, target_of, scalars_of}
use Rattle.c_syntax.specs.Programs.{StructType, TranslationUnit}
use Rattle.c_model.specs.Meaning.{bump_operator, is_array, is_of_library}
use Rattle.mon_syntax.specs.declared.tree.MonType.{MonType}
use Rattle.mon_syntax.specs.declared.tree.MonType.TheVariants.{I32, U64, Ptr}
use Rattle.mon_syntax.specs.Registers.{Bindings}
use Rattle.mon_syntax.specs.Checking.{same_type}
use Rattle.mon_syntax.specs.Trees.{MonExpression, Register, Constant, MonStatements, NoStatement, If}
use Rattle.c_effects.specs.Expressions.{value_type, operated, indexed, unary, converted, compound, farther, loaded, literal, pointer_to, truth, condition}
use Rattle.c_effects.specs.Expressions.{before, one, set}
use Rattle.c_effects.specs.Effects.{call, is_direct, variable_register, current, store, copies_at}

-- ---- effects

-- whether an expression has no effect and no call; what `sizeof` is of isn't evaluated (C99 6.5.3.4 p2)
abbrev pub is_pure : Expression → Bool
is_pure (Node at t (source.Number n k)) = true
is_pure (Node at t (source.Letter n)) = true
is_pure (Node at t (source.Text n)) = true
is_pure (Node at t (source.Variable x)) = true
is_pure (Node at t (source.Unary op a)) = is_pure a
is_pure (Node at t (source.Binary op a b)) = is_pure a && is_pure b
is_pure (Node at t (source.Both a b)) = is_pure a && is_pure b
is_pure (Node at t (source.Either a b)) = is_pure a && is_pure b
is_pure (Node at t (source.Choice a b c)) = is_pure a && (is_pure b && is_pure c)
is_pure (Node at t (source.Assign op a b)) = false
is_pure (Node at t (source.Bump op a)) = false
is_pure (Node at t (source.Call f es)) = false
is_pure (Node at t (source.Cast to a)) = is_pure a
is_pure (Node at t (source.SizeOfType u)) = true
is_pure (Node at t (source.SizeOfExpr a)) = true
is_pure (Node at t (source.Index a b)) = is_pure a && is_pure b
is_pure (Node at t (source.Dot a m)) = is_pure a
is_pure (Node at t (source.Arrow a m)) = is_pure a
is_pure (Node at t (source.Comma a b)) = is_pure a && is_pure b

abbrev pub are_pure : Expressions → Bool
are_pure NoExpression = true
are_pure (Following e es) = is_pure e && are_pure es

-- whether an expression is a whole variable or a literal, to whose block a register or a global points
abbrev pub is_whole : Expression → Bool
is_whole (Node at t (source.Text n)) = true
is_whole (Node at t (source.Variable x)) = true
is_whole _ = false

-- whether no later effect changes the value: it is a constant or an address, or stands in a register
abbrev pub is_settled : Expression → Bool
is_settled (Node at t (source.Number n k)) = true
is_settled (Node at t (source.Letter n)) = true
is_settled (Node at t (source.Text n)) = true
is_settled (Node at t (source.Variable x)) = is_of_library x
is_settled (Node at t (source.Unary prefix.Address a)) = is_whole a
is_settled (Node at t (source.Both a b)) = true
is_settled (Node at t (source.Either a b)) = true
is_settled (Node at t (source.Choice a b c)) = true
is_settled (Node at t (source.Assign op a b)) = true
is_settled (Node at t (source.Bump op a)) = true
is_settled (Node at t (source.Call f es)) = true
-- a cast to the same type of register leaves a value as it is
is_settled (Node at t (source.Cast to a)) =
    if is_array (type_of a) then is_whole a else (same_type (value_type (type_of a)) (value_type to) && is_settled a)
is_settled (Node at t (source.SizeOfType u)) = true
is_settled (Node at t (source.SizeOfExpr a)) = true
is_settled (Node at t (source.Comma a b)) = is_settled b
is_settled _ = false

-- whether a value is kept while the other expression is evaluated, and while others are
abbrev pub keeps : Expression → Expression → Bool
keeps a b = not (is_settled a) && not (is_pure b)

abbrev pub keeps_all : Expression → Expressions → Bool
keeps_all a es = not (is_settled a) && not (are_pure es)

-- in a register of this type, in this one
abbrev pub kept_types : Bool → List MonType → MonType → List MonType
kept_types kept ts t = if kept then ts ++ t ∷ [] else ts

abbrev pub kept_setup : Bool → ℕ → MonStatements → MonExpression → MonStatements
kept_setup kept r setup value = if kept then before setup (set r value) else setup

abbrev pub kept_value : Bool → ℕ → MonExpression → MonExpression
kept_value kept r value = if kept then Register r else value

-- ---- objects that are assigned to

-- a register that points to the object in which something stands: that of a variable's block, or a further one after those of its setup
abbrev pub object_type : Bool → List MonType → List MonType
object_type direct ts = if direct then [] else ts ++ Ptr ∷ []

abbrev pub object_setup : Bool → ℕ → MonStatements → MonExpression → MonStatements
object_setup direct r setup origin = if direct then NoStatement else before setup (set r origin)

abbrev pub object_register : Bool → ℕ → ℕ → ℕ
object_register direct own r = if direct then own else r

-- whether an expression is a member of an object: a struct that was assigned may be one, and what is behind a comma
abbrev pub is_inner : Expression → Bool
is_inner (Node at t (source.Dot a m)) = true
is_inner (Node at t (source.Arrow a m)) = true
is_inner (Node at t (source.Assign op a b)) = is_inner a
is_inner (Node at t (source.Comma a b)) = is_inner b
is_inner _ = false

-- how many bytes from its start
abbrev pub inner_offset : List StructType → Expression → ℕ
inner_offset structs (Node at t (source.Dot a m)) = inner_offset structs a + offset_of structs (type_of a) m
inner_offset structs (Node at t (source.Arrow a m)) = offset_of structs (target_of (type_of a)) m
inner_offset structs (Node at t (source.Assign op a b)) = inner_offset structs a
inner_offset structs (Node at t (source.Comma a b)) = inner_offset structs b
inner_offset structs e = 0

-- the pointer to what is designated, from that to the object in which it stands, where it is known to be inside
abbrev pub stepped : List StructType → Expression → MonExpression → MonExpression
stepped structs e p = if is_inner e then farther p (inner_offset structs e) else p

-- a further register that points to a member, of the object to which the register r points
abbrev pub member_type : Expression → List MonType
member_type a = if is_inner a then Ptr ∷ [] else []

abbrev pub member_setup : List StructType → ℕ → ℕ → Expression → MonStatements
member_setup structs r k a = if is_inner a then set k (farther (Register r) (inner_offset structs a)) else NoStatement

abbrev pub member_register : ℕ → ℕ → Expression → ℕ
member_register r k a = if is_inner a then k else r

-- ---- values that are assigned (C99 6.5.16), of an object to which the register r points, or to the one of which it is a member

-- the object and the right side are evaluated, and then the member is reached, to which the register k points
abbrev pub reached : List StructType → MonStatements → MonStatements → ℕ → ℕ → Expression → MonStatements
reached structs object right r k a = before object (before right (member_setup structs r k a))

-- after these statements a value is stored where the register of the part points; it may be kept in the register v
abbrev pub stored : Bool → ℕ → ℕ → PlainType → MonStatements → MonExpression → MonStatements
stored kept v part t setup value = before (kept_setup kept v setup value) (store part t (kept_value kept v value))

-- the types of the registers of `a = b`, also of structs, from those of the objects and of the value
abbrev pub assigned_types : Option Scalar → Bool → MonType → Expression → List MonType → List MonType → List MonType → List MonType
assigned_types (Some k) kept u a object value other = kept_types kept (object ++ value ++ member_type a) u
assigned_types None kept u a object value other = object ++ other

-- those of `a op= b` but that of its value, by whether the right side is pure: if it isn't, the old value is kept
abbrev pub changed_types : Bool → MonType → Expression → List MonType → List MonType → List MonType
changed_types true u a object value = object ++ value ++ member_type a
changed_types false u a object value = object ++ member_type a ++ (u ∷ []) ++ value

-- what stands in a scalar; a struct has no value
abbrev pub value_of : Option Scalar → MonExpression → MonExpression
value_of (Some k) e = e
value_of None e = Constant I32 (pos 0)

-- whether `++` and `--` give the old value
abbrev pub gives_old : BumpOp → Bool
gives_old PreUp = false
gives_old PreDown = false
gives_old PostUp = true
gives_old PostDown = true

-- ---- registers

module _ (p : TranslationUnit) where
  -- the types of the registers that an expression takes, in order, for its value and for its effects alone
  abbrev mutual
    pub takes : Expression → List MonType
    takes (Node at t (source.Number n k)) = []
    takes (Node at t (source.Letter n)) = []
    takes (Node at t (source.Text n)) = []
    takes (Node at t (source.Variable x)) = []
    takes (Node at t (source.Unary op a)) = takes a
    takes (Node at t (source.Binary op a b)) = kept_types (keeps a b) (takes a) (value_type (type_of a)) ++ takes b
    takes (Node at t (source.Both a b)) = takes a ++ takes b ++ I32 ∷ []
    takes (Node at t (source.Either a b)) = takes a ++ takes b ++ I32 ∷ []
    takes (Node at t (source.Choice a b c)) = takes a ++ takes b ++ takes c ++ value_type (type_of b) ∷ []
    takes (Node at t (source.Assign None a b)) =
        assigned_types (scalar_of t) (not (is_settled b)) (value_type t) a (object_type (is_direct p a) (takes a)) (takes b)
        (object_type (is_direct p b) (takes b))
    takes (Node at t (source.Assign (Some op) a b)) =
        changed_types (is_pure b) (value_type t) a (object_type (is_direct p a) (takes a)) (takes b) ++ value_type t ∷ []
    takes (Node at t (source.Bump op a)) = object_type (is_direct p a) (takes a) ++ member_type a ++ value_type t ∷ []
    takes (Node at t (source.Call f es)) = all_takes es ++ value_type t ∷ []
    takes (Node at t (source.Cast to a)) = takes a
    takes (Node at t (source.SizeOfType u)) = []
    takes (Node at t (source.SizeOfExpr a)) = []
    takes (Node at t (source.Index a b)) = kept_types (keeps a b) (takes a) (value_type (type_of a)) ++ takes b
    takes (Node at t (source.Dot a m)) = takes a
    takes (Node at t (source.Arrow a m)) = takes a
    takes (Node at t (source.Comma a b)) = act_takes a ++ takes b

    pub all_takes : Expressions → List MonType
    all_takes NoExpression = []
    all_takes (Following e es) = kept_types (keeps_all e es) (takes e) (value_type (type_of e)) ++ all_takes es

    pub act_takes : Expression → List MonType
    act_takes (Node at t (source.Number n k)) = []
    act_takes (Node at t (source.Letter n)) = []
    act_takes (Node at t (source.Text n)) = []
    act_takes (Node at t (source.Variable x)) = []
    act_takes (Node at t (source.Unary op a)) = act_takes a
    act_takes (Node at t (source.Binary op a b)) = act_takes a ++ act_takes b
    act_takes (Node at t (source.Both a b)) = if is_pure b then act_takes a else takes a ++ act_takes b
    act_takes (Node at t (source.Either a b)) = if is_pure b then act_takes a else takes a ++ act_takes b
    act_takes (Node at t (source.Choice a b c)) = if is_pure b && is_pure c then act_takes a else takes a ++ act_takes b ++ act_takes c
    act_takes (Node at t (source.Assign None a b)) =
        assigned_types (scalar_of t) false (value_type t) a (object_type (is_direct p a) (takes a)) (takes b) (object_type (is_direct p b) (takes b))
    act_takes (Node at t (source.Assign (Some op) a b)) =
        changed_types (is_pure b) (value_type t) a (object_type (is_direct p a) (takes a)) (takes b)
    act_takes (Node at t (source.Bump op a)) = object_type (is_direct p a) (takes a) ++ member_type a
    act_takes (Node at t (source.Call f es)) = all_takes es
    act_takes (Node at t (source.Cast to a)) = act_takes a
    act_takes (Node at t (source.SizeOfType u)) = []
    act_takes (Node at t (source.SizeOfExpr a)) = []
    act_takes (Node at t (source.Index a b)) = act_takes a ++ act_takes b
    act_takes (Node at t (source.Dot a m)) = act_takes a
    act_takes (Node at t (source.Arrow a m)) = act_takes a
    act_takes (Node at t (source.Comma a b)) = act_takes a ++ act_takes b

  -- those of a left side that may be kept, and of the object that is assigned to
  abbrev pub kept_takes : Expression → Expression → List MonType
  kept_takes a b = kept_types (keeps a b) (takes a) (value_type (type_of a))

  abbrev pub object_takes : Expression → List MonType
  object_takes a = object_type (is_direct p a) (takes a)

  -- those before the right side of `a op= b`, where the left one has this type
  abbrev pub changed_front : MonType → Expression → Expression → List MonType
  changed_front u a b = if is_pure b then object_takes a else object_takes a ++ member_type a ++ u ∷ []

  -- the register of its value, by whether the right side is pure
  abbrev pub changed_register : Bool → List MonType → MonType → Expression → Expression → ℕ
  changed_register true rs u a b = length (rs ++ object_takes a ++ takes b ++ member_type a)
  changed_register false rs u a b = length (rs ++ object_takes a ++ member_type a ++ (u ∷ []) ++ takes b)

  -- ---- values and places

  module _ (bound : Bindings) where
    -- the register of the object that is assigned to
    abbrev pub object_of : List MonType → Expression → ℕ
    object_of rs a = object_register (is_direct p a) (variable_register bound a) (length (rs ++ takes a))

    -- after registers of these types: the value; and the pointer to the object that is designated
    abbrev mutual
      pub result : List MonType → Expression → MonExpression
      result rs (Node at t (source.Number n k)) = Constant (value_type t) n
      result rs (Node at t (source.Letter n)) = Constant (value_type t) n
      result rs (Node at t (source.Text n)) = literal p n
      -- the one pointer of the library is `NULL`
      result rs (Node at t (source.Variable x)) = if is_of_library x then Constant Ptr (pos 0) else loaded t (pointer_to p bound x.decl)
      result rs (Node at t (source.Unary prefix.Deref a)) = loaded t (result rs a)
      result rs (Node at t (source.Unary prefix.Address a)) = location rs a
      result rs (Node at t (source.Unary prefix.Plus a)) = unary prefix.Plus (value_type (type_of a)) (result rs a)
      result rs (Node at t (source.Unary prefix.Minus a)) = unary prefix.Minus (value_type (type_of a)) (result rs a)
      result rs (Node at t (source.Unary prefix.Not a)) = unary prefix.Not (value_type (type_of a)) (result rs a)
      result rs (Node at t (source.Unary prefix.Flip a)) = unary prefix.Flip (value_type (type_of a)) (result rs a)
      result rs (Node at t (source.Binary op a b)) =
          operated p.structs op (type_of a) (type_of b) (kept_value (keeps a b) (length (rs ++ takes a)) (result rs a)) (result (rs ++ kept_takes a b) b)
      result rs (Node at t (source.Both a b)) = Register (length (rs ++ takes a ++ takes b))
      result rs (Node at t (source.Either a b)) = Register (length (rs ++ takes a ++ takes b))
      result rs (Node at t (source.Choice a b c)) = Register (length (rs ++ takes a ++ takes b ++ takes c))
      result rs (Node at t (source.Assign None a b)) =
          value_of (scalar_of t) (kept_value (not (is_settled b)) (length (rs ++ object_takes a ++ takes b ++ member_type a))
          (result (rs ++ object_takes a) b))
      result rs (Node at t (source.Assign (Some op) a b)) = Register (changed_register (is_pure b) rs (value_type t) a b)
      result rs (Node at t (source.Bump op a)) = Register (length (rs ++ object_takes a ++ member_type a))
      result rs (Node at t (source.Call f es)) = Register (length (rs ++ all_takes es))
      -- a cast of an array is the address of its first element (C99 6.3.2.1 p3)
      result rs (Node at t (source.Cast to a)) = if is_array (type_of a) then location rs a else converted (type_of a) to (result rs a)
      result rs (Node at t (source.SizeOfType u)) = Constant U64 (pos (size_of p.structs u))
      result rs (Node at t (source.SizeOfExpr a)) = Constant U64 (pos (size_of p.structs (type_of a)))
      result rs (Node at t (source.Index a b)) =
          loaded t (indexed p.structs (type_of a) (type_of b) (kept_value (keeps a b) (length (rs ++ takes a)) (result rs a))
          (result (rs ++ kept_takes a b) b))
      result rs (Node at t (source.Dot a m)) = loaded t (farther (location rs a) (offset_of p.structs (type_of a) m))
      result rs (Node at t (source.Arrow a m)) = loaded t (farther (result rs a) (offset_of p.structs (target_of (type_of a)) m))
      result rs (Node at t (source.Comma a b)) = result (rs ++ act_takes a) b

      pub location : List MonType → Expression → MonExpression
      location rs (Node at t (source.Variable x)) = pointer_to p bound x.decl
      location rs (Node at t (source.Text n)) = literal p n
      location rs (Node at t (source.Unary prefix.Deref a)) = result rs a
      location rs (Node at t (source.Index a b)) =
          indexed p.structs (type_of a) (type_of b) (kept_value (keeps a b) (length (rs ++ takes a)) (result rs a)) (result (rs ++ kept_takes a b) b)
      location rs (Node at t (source.Dot a m)) = farther (location rs a) (offset_of p.structs (type_of a) m)
      location rs (Node at t (source.Arrow a m)) = farther (result rs a) (offset_of p.structs (target_of (type_of a)) m)
      -- a struct that was assigned stands where it was assigned
      location rs (Node at t (source.Assign op a b)) = stepped p.structs a (Register (object_of rs a))
      location rs (Node at t (source.Comma a b)) = location (rs ++ act_takes a) b
      -- no other expression designates an object
      location rs (Node at t _) = Constant Ptr (pos 0)

    -- the pointer to the object in which a member stands, or else to the object itself
    abbrev pub origin : List MonType → Expression → MonExpression
    origin rs (Node at t (source.Dot a m)) = origin rs a
    origin rs (Node at t (source.Arrow a m)) = result rs a
    origin rs (Node at t (source.Assign op a b)) = Register (object_of rs a)
    origin rs (Node at t (source.Comma a b)) = origin (rs ++ act_takes a) b
    origin rs e = location rs e

    -- arguments, from left to right
    abbrev pub all_results : List MonType → Expressions → List MonExpression
    all_results rs NoExpression = []
    all_results rs (Following e es) =
        kept_value (keeps_all e es) (length (rs ++ takes e)) (result rs e)
        ∷ all_results (rs ++ kept_types (keeps_all e es) (takes e) (value_type (type_of e))) es

    -- whether an expression isn't 0, and the same as a condition
    abbrev pub truth_result : List MonType → Expression → MonExpression
    truth_result rs e = truth (value_type (type_of e)) (result rs e)

    abbrev pub condition_result : List MonType → Expression → MonExpression
    condition_result rs e = condition (value_type (type_of e)) (result rs e)

    -- ---- statements

    -- the register of what is stored to, where the member is reached by the register k
    abbrev pub part_of : List MonType → ℕ → Expression → ℕ
    part_of rs k a = member_register (object_of rs a) k a

    -- the old value of what is changed, in a register
    abbrev pub old_setup : List MonType → PlainType → Expression → MonStatements → MonStatements
    old_setup rs t a object =
        before (reached p.structs object NoStatement (object_of rs a) (length (rs ++ object_takes a)) a)
        (set (length (rs ++ object_takes a ++ member_type a)) (current (part_of rs (length (rs ++ object_takes a)) a) t))

    -- `a = b` from the statements of its parts: the object, and the right side as a value or as an object
    abbrev pub assigned_setup : List MonType → Option Scalar → Bool → PlainType → Expression → Expression → MonStatements → MonStatements → MonStatements
        → MonStatements
    assigned_setup rs (Some k) kept t a b object right other =
        stored kept (length (rs ++ object_takes a ++ takes b ++ member_type a)) (part_of rs (length (rs ++ object_takes a ++ takes b)) a) t
        (reached p.structs object right (object_of rs a) (length (rs ++ object_takes a ++ takes b)) a) (result (rs ++ object_takes a) b)
    assigned_setup rs None kept t a b object right other =
        before object (before other (copies_at (object_of rs a) (inner_offset p.structs a) (object_of (rs ++ object_takes a) b) (inner_offset p.structs b)
        (scalars_of p.structs t)))

    -- `a op= b`, by whether the right side is pure
    abbrev pub changed_setup : List MonType → Bool → Bool → BinOp → PlainType → Expression → Expression → MonStatements → MonStatements → MonStatements
    changed_setup rs true kept op t a b object right =
        stored kept (changed_register true rs (value_type t) a b) (part_of rs (length (rs ++ object_takes a ++ takes b)) a) t
        (reached p.structs object right (object_of rs a) (length (rs ++ object_takes a ++ takes b)) a)
        (compound p.structs op t (type_of b) (current (part_of rs (length (rs ++ object_takes a ++ takes b)) a) t) (result (rs ++ object_takes a) b))
    changed_setup rs false kept op t a b object right =
        stored kept (changed_register false rs (value_type t) a b) (part_of rs (length (rs ++ object_takes a)) a) t
        (before (old_setup rs t a object) right)
        (compound p.structs op t (type_of b) (Register (length (rs ++ object_takes a ++ member_type a)))
        (result (rs ++ object_takes a ++ member_type a ++ value_type t ∷ []) b))

    -- `++` and `--`, by whether the old value is given
    abbrev pub bumped_setup : List MonType → Bool → Bool → BumpOp → PlainType → Expression → MonStatements → MonStatements
    bumped_setup rs true kept op t a object =
        stored false (length (rs ++ object_takes a ++ member_type a)) (part_of rs (length (rs ++ object_takes a)) a) t (old_setup rs t a object)
        (compound p.structs (bump_operator op) t int_type (Register (length (rs ++ object_takes a ++ member_type a))) (Constant I32 (pos 1)))
    bumped_setup rs false kept op t a object =
        stored kept (length (rs ++ object_takes a ++ member_type a)) (part_of rs (length (rs ++ object_takes a)) a) t
        (reached p.structs object NoStatement (object_of rs a) (length (rs ++ object_takes a)) a)
        (compound p.structs (bump_operator op) t int_type (current (part_of rs (length (rs ++ object_takes a)) a) t) (Constant I32 (pos 1)))

    -- what stands before the value of an expression, or is done for its effects alone: then nothing is left of what has none
    abbrev mutual
      pub prepare : List MonType → Expression → MonStatements
      prepare rs (Node at t (source.Number n k)) = NoStatement
      prepare rs (Node at t (source.Letter n)) = NoStatement
      prepare rs (Node at t (source.Text n)) = NoStatement
      prepare rs (Node at t (source.Variable x)) = NoStatement
      prepare rs (Node at t (source.Unary op a)) = prepare rs a
      prepare rs (Node at t (source.Binary op a b)) =
          before (kept_setup (keeps a b) (length (rs ++ takes a)) (prepare rs a) (result rs a)) (prepare (rs ++ kept_takes a b) b)
      prepare rs (Node at t (source.Both a b)) =
          before (prepare rs a) (one (If (condition_result rs a)
          (before (prepare (rs ++ takes a) b) (set (length (rs ++ takes a ++ takes b)) (truth_result (rs ++ takes a) b)))
          (set (length (rs ++ takes a ++ takes b)) (Constant I32 (pos 0)))))
      prepare rs (Node at t (source.Either a b)) =
          before (prepare rs a) (one (If (condition_result rs a)
          (set (length (rs ++ takes a ++ takes b)) (Constant I32 (pos 1)))
          (before (prepare (rs ++ takes a) b) (set (length (rs ++ takes a ++ takes b)) (truth_result (rs ++ takes a) b)))))
      prepare rs (Node at t (source.Choice a b c)) =
          before (prepare rs a) (one (If (condition_result rs a)
          (before (prepare (rs ++ takes a) b) (set (length (rs ++ takes a ++ takes b ++ takes c)) (result (rs ++ takes a) b)))
          (before (prepare (rs ++ takes a ++ takes b) c) (set (length (rs ++ takes a ++ takes b ++ takes c)) (result (rs ++ takes a ++ takes b) c)))))
      prepare rs (Node at t (source.Assign None a b)) =
          assigned_setup rs (scalar_of t) (not (is_settled b)) t a b
          (object_setup (is_direct p a) (length (rs ++ takes a)) (prepare rs a) (origin rs a))
          (prepare (rs ++ object_takes a) b)
          (object_setup (is_direct p b) (length (rs ++ object_takes a ++ takes b)) (prepare (rs ++ object_takes a) b) (origin (rs ++ object_takes a) b))
      prepare rs (Node at t (source.Assign (Some op) a b)) =
          changed_setup rs (is_pure b) true op t a b (object_setup (is_direct p a) (length (rs ++ takes a)) (prepare rs a) (origin rs a))
          (prepare (rs ++ changed_front (value_type t) a b) b)
      prepare rs (Node at t (source.Bump op a)) =
          bumped_setup rs (gives_old op) true op t a (object_setup (is_direct p a) (length (rs ++ takes a)) (prepare rs a) (origin rs a))
      prepare rs (Node at t (source.Call f es)) = before (prepare_all rs es) (call p (Some (length (rs ++ all_takes es))) f es (all_results rs es))
      prepare rs (Node at t (source.Cast to a)) = prepare rs a
      prepare rs (Node at t (source.SizeOfType u)) = NoStatement
      prepare rs (Node at t (source.SizeOfExpr a)) = NoStatement
      prepare rs (Node at t (source.Index a b)) =
          before (kept_setup (keeps a b) (length (rs ++ takes a)) (prepare rs a) (result rs a)) (prepare (rs ++ kept_takes a b) b)
      prepare rs (Node at t (source.Dot a m)) = prepare rs a
      prepare rs (Node at t (source.Arrow a m)) = prepare rs a
      prepare rs (Node at t (source.Comma a b)) = before (act rs a) (prepare (rs ++ act_takes a) b)

      pub prepare_all : List MonType → Expressions → MonStatements
      prepare_all rs NoExpression = NoStatement
      prepare_all rs (Following e es) =
          before (kept_setup (keeps_all e es) (length (rs ++ takes e)) (prepare rs e) (result rs e))
          (prepare_all (rs ++ kept_types (keeps_all e es) (takes e) (value_type (type_of e))) es)

      pub act : List MonType → Expression → MonStatements
      act rs (Node at t (source.Number n k)) = NoStatement
      act rs (Node at t (source.Letter n)) = NoStatement
      act rs (Node at t (source.Text n)) = NoStatement
      act rs (Node at t (source.Variable x)) = NoStatement
      act rs (Node at t (source.Unary op a)) = act rs a
      act rs (Node at t (source.Binary op a b)) = before (act rs a) (act (rs ++ act_takes a) b)
      act rs (Node at t (source.Both a b)) =
          if is_pure b then act rs a else before (prepare rs a) (one (If (condition_result rs a) (act (rs ++ takes a) b) NoStatement))
      act rs (Node at t (source.Either a b)) =
          if is_pure b then act rs a else before (prepare rs a) (one (If (condition_result rs a) NoStatement (act (rs ++ takes a) b)))
      act rs (Node at t (source.Choice a b c)) =
          if is_pure b && is_pure c then act rs a else
          before (prepare rs a) (one (If (condition_result rs a) (act (rs ++ takes a) b) (act (rs ++ takes a ++ act_takes b) c)))
      act rs (Node at t (source.Assign None a b)) =
          assigned_setup rs (scalar_of t) false t a b
          (object_setup (is_direct p a) (length (rs ++ takes a)) (prepare rs a) (origin rs a))
          (prepare (rs ++ object_takes a) b)
          (object_setup (is_direct p b) (length (rs ++ object_takes a ++ takes b)) (prepare (rs ++ object_takes a) b) (origin (rs ++ object_takes a) b))
      act rs (Node at t (source.Assign (Some op) a b)) =
          changed_setup rs (is_pure b) false op t a b (object_setup (is_direct p a) (length (rs ++ takes a)) (prepare rs a) (origin rs a))
          (prepare (rs ++ changed_front (value_type t) a b) b)
      act rs (Node at t (source.Bump op a)) =
          bumped_setup rs false false op t a (object_setup (is_direct p a) (length (rs ++ takes a)) (prepare rs a) (origin rs a))
      act rs (Node at t (source.Call f es)) = before (prepare_all rs es) (call p None f es (all_results rs es))
      act rs (Node at t (source.Cast to a)) = act rs a
      act rs (Node at t (source.SizeOfType u)) = NoStatement
      act rs (Node at t (source.SizeOfExpr a)) = NoStatement
      act rs (Node at t (source.Index a b)) = before (act rs a) (act (rs ++ act_takes a) b)
      act rs (Node at t (source.Dot a m)) = act rs a
      act rs (Node at t (source.Arrow a m)) = act rs a
      act rs (Node at t (source.Comma a b)) = before (act rs a) (act (rs ++ act_takes a) b)
