-- The typing of expressions and of types as they are written (C99 6.2.1, 6.3, 6.5, 6.6, 6.7.5, 6.7.6): the typed tree, or the faults of its
-- smallest faulty parts: with code 5 of a name, with code 6 of a type, with code 11 of a type that passes a limit. In the typed tree each
-- use has its declaration, each expression its type, and each operand that is converted stands in a cast.
use Rattle.std.specs.Prelude.{ℕ, suc, ◌+◌, ◌^◌, ℤ, pos, List, [], ◌∷◌, ◌++◌, length, drop, map, Option, Some, None, Bool, true, false, not}
use Rattle.std.specs.Prelude.{◌&&◌, ◌||◌, cond, if◌then◌else◌, nat_eq, nat_le, nat_lt, slice_get, codes, bytes_eq}
use Rattle.std.specs.Ordering.{int_eq}
use Rattle.c_syntax.specs.RefusalCodes.{name_code, type_code, limit_code}
use Rattle.c_syntax.specs.declared.place.Place.{Place}
use Rattle.c_syntax.specs.declared.types.CInt.{CInt}
use Rattle.c_syntax.specs.declared.types.CInt.TheVariants.{I8, U8, I16, U16, I32, U32, I64, U64}
use Rattle.c_syntax.specs.declared.expression.Use.{Use}
use Rattle.c_syntax.specs.declared.expression.UnOp.{UnOp}
use Rattle.c_syntax.specs.declared.expression.UnOp.TheVariants as unary
use Rattle.c_syntax.specs.declared.expression.BinOp.{BinOp}
use Rattle.c_syntax.specs.declared.expression.BinOp.TheVariants as operator
use Rattle.c_syntax.specs.declared.expression.BumpOp.{BumpOp}
use Rattle.c_syntax.specs.Ctypes.{PlainType, Void, Int, Ptr, Array, Struct, Named, StructTag, EnumTag, PlainLength, Left, Written, Count, int_type}
use Rattle.c_syntax.specs.Expressions.{Expression, Node, Number, Letter, Text, Variable, Unary, Binary, Both, Either, Choice, Assign, Bump, Call, Cast}
use Rattle.c_syntax.specs.Expressions.{SizeOfType, SizeOfExpr, Index, Dot, Arrow, Comma, Expressions, NoExpression, Following, place_of, type_of}
use Rattle.c_syntax.specs.Statements.{Declaration}
use Rattle.c_syntax.specs.Programs.{StructType, StringLiteral}
use Rattle.c_syntax.specs.Layouts.{scalar_of, size_of, members_of, member_among}
use Rattle.c_model.specs.Integers.{fits, integer_type, width}
use Rattle.c_model.specs.Conversions.{promoted, common, is_shift, is_relation, result_type}
use Rattle.c_model.specs.Formats.{Piece, pieces_of, types_of}
use Rattle.c_model.specs.Memory.{Value, Integer}
use Rattle.c_model.specs.State.{EndOfInput, State, Outcome, Normal, Stuck, stop}
use Rattle.c_model.specs.Meaning.{Tables, Callee, eval_with, is_pointer, is_of_library}
use Rattle.c_model.specs.Library.{library_constant, is_there}
use Rattle.c_model.specs.Checked.{Fault, Checked, Good, Bad, faulty, one_part, both_parts, given, where_so}

-- a name without a fitting declaration, a demand on types that isn't met, and a type that passes a limit
abbrev pub no_name : Place → Fault
no_name at = record { code = name_code; place = at }

abbrev pub no_type : Place → Fault
no_type at = record { code = type_code; place = at }

abbrev pub too_large : Place → Fault
too_large at = record { code = limit_code; place = at }

-- ---- what is in sight (C99 6.2.1)

-- an object, by its name and the number of its declaration
pub record Object : Type 0 where
  pub name : ℕ
  pub decl : ℕ
  pub ctype : PlainType

-- an enumerator, which stands for its value (C99 6.7.2.2 p3)
pub record Enumerator : Type 0 where
  pub name : ℕ
  pub value : ℤ

-- an ordinary name that stands for a value
pub data Entity : Type 0 where
  AnObject : Object → Entity
  AnEnumerator : Enumerator → Entity

-- a function that is declared, by its name: the number of its definition, or of its first prototype where the file has no definition
pub record Signature : Type 0 where
  pub name : ℕ
  pub decl : ℕ
  pub defined : Bool
  pub params : List PlainType
  pub result : PlainType

-- a name of a type (C99 6.7.7)
pub record TypeName : Type 0 where
  pub name : ℕ
  pub ctype : PlainType

pub record Sight : Type 0 where
  -- the names and the string literals of the text
  pub names : List (List ℕ)
  pub texts : List StringLiteral
  -- the functions that are declared so far
  pub functions : List Signature
  -- the visible objects and enumerators, the newest last, and where those of the innermost scope begin
  pub entities : List Entity
  pub innermost : ℕ
  pub types : List TypeName
  -- all structs of the file, with what is known of each so far: one whose members aren't all known has the size 0
  pub structs : List StructType
  -- how many levels the type of each struct has
  pub levels : List ℕ
  -- the tags of enums: of all in the file, and of those that are defined so far
  pub enum_tags : List ℕ
  pub enums : List ℕ

abbrev pub name_at : List (List ℕ) → ℕ → List ℕ
name_at names n = elim (slice_get names n) [ None ↦ [] | Some w ↦ w ]

abbrev pub or_else : {A : Type 0} → Option A → Option A → Option A
or_else (Some a) b = Some a
or_else None b = b

abbrev pub has_name : ℕ → Entity → Bool
has_name x (AnObject b) = nat_eq x b.name
has_name x (AnEnumerator c) = nat_eq x c.name

-- the newest of a name
abbrev pub entity_named : ℕ → List Entity → Option Entity
entity_named x [] = None
entity_named x (e ∷ es) = or_else (entity_named x es) (cond (has_name x e) (Some e) None)

abbrev pub function_called : ℕ → List Signature → Option Signature
function_called x [] = None
function_called x (f ∷ fs) = cond (nat_eq x f.name) (Some f) (function_called x fs)

abbrev pub type_named : ℕ → List TypeName → Option PlainType
type_named x [] = None
type_named x (t ∷ ts) = cond (nat_eq x t.name) (Some t.ctype) (type_named x ts)

-- the index of the struct with a tag, where the first of these has the index k
abbrev pub tagged : ℕ → ℕ → List StructType → Option ℕ
tagged x k [] = None
tagged x k (s ∷ ss) = elim s.tag [ None ↦ tagged x (suc k) ss | Some y ↦ cond (nat_eq x y) (Some k) (tagged x (suc k) ss) ]

abbrev pub is_among : ℕ → List ℕ → Bool
is_among x [] = false
is_among x (y ∷ ys) = nat_eq x y || is_among x ys

-- what is in sight after a declared object
abbrev pub with_object : Sight → Declaration → Sight
with_object s d = record s { entities = s.entities ++ AnObject (record { name = d.name; decl = d.place.offset; ctype = d.ctype }) ∷ [] }

abbrev pub with_objects : Sight → List Declaration → Sight
with_objects s [] = s
with_objects s (d ∷ ds) = with_objects (with_object s d) ds

-- a scope inside, which holds no name yet
abbrev pub inner : Sight → Sight
inner s = record s { innermost = length s.entities }

-- what the innermost scope declares with a name
abbrev pub declared_here : Sight → ℕ → Option Entity
declared_here s x = entity_named x (drop s.innermost s.entities)

abbrev pub of_library : ℕ → List PlainType → PlainType → Signature
of_library x params result = record { name = x; decl = 4294967295; defined = true; params = params; result = result }

-- the functions of the library that are built (C99 7.19.7.9, 7.19.7.6, 7.20.4.3, 7.20.3.3, 7.20.3.1, 7.20.3.2, 7.19.6.3); printf gives no value
abbrev pub library_function : ℕ → List ℕ → Option Signature
library_function x w =
    if bytes_eq w (codes "putchar") then Some (of_library x (int_type ∷ []) int_type)
    else (if bytes_eq w (codes "getchar") then Some (of_library x [] int_type)
    else (if bytes_eq w (codes "exit") then Some (of_library x (int_type ∷ []) Void)
    else (if bytes_eq w (codes "malloc") then Some (of_library x (Int U64 ∷ []) (Ptr Void))
    else (if bytes_eq w (codes "calloc") then Some (of_library x (Int U64 ∷ Int U64 ∷ []) (Ptr Void))
    else (if bytes_eq w (codes "free") then Some (of_library x (Ptr Void ∷ []) Void)
    else (if bytes_eq w (codes "printf") then Some (of_library x (Ptr (Int I8) ∷ []) Void) else None))))))

abbrev pub use_as : ℕ → ℕ → Use
use_as x decl = record { name = x; decl = decl }

-- the index of the string literal at an offset, where the first of these has the index k, and its bytes
abbrev pub literal_at : ℕ → ℕ → List StringLiteral → Option (ℕ × List ℕ)
literal_at offset k [] = None
literal_at offset k (l ∷ ls) = cond (nat_eq l.place.offset offset) (Some (k, l.bytes)) (literal_at offset (suc k) ls)

-- ---- types

abbrev pub same_int : CInt → CInt → Bool
same_int I8 I8 = true
same_int U8 U8 = true
same_int I16 I16 = true
same_int U16 U16 = true
same_int I32 I32 = true
same_int U32 U32 = true
same_int I64 I64 = true
same_int U64 U64 = true
same_int _ _ = false

-- a length that isn't counted is no other's
abbrev pub same_length : PlainLength → PlainLength → Bool
same_length (Count n) (Count m) = nat_eq n m
same_length _ _ = false

-- structs are the same by their numbers; a type that typing would replace is no other's
abbrev pub same_type : PlainType → PlainType → Bool
same_type Void Void = true
same_type (Int k) (Int l) = same_int k l
same_type (Ptr t) (Ptr u) = same_type t u
same_type (Array t n) (Array u m) = same_length n m && same_type t u
same_type (Struct n) (Struct m) = nat_eq n m
same_type _ _ = false

abbrev pub is_void : PlainType → Bool
is_void Void = true
is_void _ = false

-- a type that a condition and an operand of `!`, `&&` and `||` may have (C99 6.2.5 p21)
abbrev pub is_scalar : PlainType → Bool
is_scalar t = is_there (scalar_of t)

-- the type that is pointed to, where the type is a pointer's
abbrev pub pointed : PlainType → Option PlainType
pointed (Ptr t) = Some t
pointed _ = None

abbrev pub is_struct : PlainType → Bool
is_struct (Struct n) = true
is_struct _ = false

-- a type whose arrays strings fill (C99 6.2.5 p15, 6.7.8 p14)
abbrev pub is_character : PlainType → Bool
is_character (Int I8) = true
is_character (Int U8) = true
is_character _ = false

-- whether the size of a type is known (C99 6.2.5 p1): a type that has none is a fault of type, and a struct whose members aren't known
-- yet one of name
pub data Sized : Type 0 where
  HasSize : Sized
  HasNoSize : Sized
  NotYet : Sized

abbrev pub is_known : Option StructType → Sized
is_known None = NotYet
is_known (Some s) = cond (nat_eq s.size 0) NotYet HasSize

abbrev pub sized : List StructType → PlainType → Sized
sized structs (Int k) = HasSize
sized structs (Ptr t) = HasSize
sized structs (Array t (Count n)) = sized structs t
sized structs (Struct n) = is_known (slice_get structs n)
sized structs _ = HasNoSize

abbrev pub is_unknown : Sized → Bool
is_unknown NotYet = true
is_unknown _ = false

-- goes on with a type that has a size
abbrev pub where_sized : {A : Type 0} → Sight → Place → PlainType → Checked A → Checked A
where_sized s at t c = elim (sized s.structs t) [ HasSize ↦ c | HasNoSize ↦ faulty (no_type at) | NotYet ↦ faulty (no_name at) ]

-- ---- limits on types (C99 5.2.4.1 leaves them to the implementation)

abbrev pub most_levels : ℕ
most_levels = 100

abbrev pub most_bytes : ℕ
most_bytes = 2147483647

-- each pointer and each array is a level; behind a pointer a struct isn't counted
abbrev pub levels_behind_pointer : PlainType → ℕ
levels_behind_pointer (Ptr t) = suc (levels_behind_pointer t)
levels_behind_pointer (Array t n) = suc (levels_behind_pointer t)
levels_behind_pointer _ = 0

abbrev pub number_at : List ℕ → ℕ → ℕ
number_at ns n = elim (slice_get ns n) [ None ↦ 0 | Some k ↦ k ]

-- the levels of a type, where each struct has so many
abbrev pub levels_of : List ℕ → PlainType → ℕ
levels_of levels (Ptr t) = suc (levels_behind_pointer t)
levels_of levels (Array t n) = suc (levels_of levels t)
levels_of levels (Struct n) = number_at levels n
levels_of levels _ = 0

-- whether a type and the types in it have few enough bytes
abbrev pub has_small_parts : List StructType → PlainType → Bool
has_small_parts structs (Ptr t) = has_small_parts structs t
has_small_parts structs (Array t n) = nat_le (size_of structs (Array t n)) most_bytes && has_small_parts structs t
has_small_parts structs (Struct n) = nat_le (size_of structs (Struct n)) most_bytes
has_small_parts structs _ = true

abbrev pub is_within_limits : Sight → PlainType → Bool
is_within_limits s t = nat_le (levels_of s.levels t) most_levels && has_small_parts s.structs t

-- a fault besides those that are there
abbrev pub besides : {A : Type 0} → Bool → Fault → Checked A → Checked A
besides true f c = c
besides false f (Good a) = faulty f
besides false f (Bad g gs) = Bad g (gs ++ f ∷ [])

-- what is checked of a node that names a type or asks for one's size; a type that passes a limit is a fault of it besides its others
abbrev pub limited : {A : Type 0} → Sight → Place → PlainType → Checked A → Checked A
limited s at t c = besides (is_within_limits s t) (too_large at) c

-- ---- values

-- an array is a pointer to its first element, in a cast (C99 6.3.2.1 p3)
abbrev pub decayed : Expression → Expression
decayed (Node at (Array t n) k) = Node at (Ptr t) (Cast (Ptr t) (Node at (Array t n) k))
decayed e = e

-- an expression in a type: in a cast, where it has another (C99 6.3)
abbrev pub in_type : PlainType → Expression → Expression
in_type t e = cond (same_type (type_of e) t) e (Node (place_of e) t (Cast t e))

abbrev pub in_int : CInt → Expression → Expression
in_int k e = in_type (Int k) e

-- an expression that designates an object (C99 6.3.2.1 p1, 6.5.2.3 p3); `NULL` is none
abbrev pub is_place : Expression → Bool
is_place (Node at t (Variable x)) = not (is_of_library x)
is_place (Node at t (Text n)) = true
is_place (Node at t (Unary unary.Deref a)) = true
is_place (Node at t (Index a b)) = true
is_place (Node at t (Dot a m)) = is_place a
is_place (Node at t (Arrow a m)) = true
is_place _ = false

-- an expression whose value stands in an object: one that designates an object, a struct that was assigned, or a comma with such a right operand
abbrev pub has_object : Expression → Bool
has_object (Node at t (Comma a b)) = has_object b
has_object (Node at t (Dot a m)) = has_object a
has_object (Node at t (Assign None a b)) = is_struct t
has_object e = is_place e

-- ---- constant expressions (C99 6.6): a form, and a value by the meaning of expressions, where nothing is called and no object is there

abbrev pub no_callee : Callee
no_callee at f vs = stop Stuck

abbrev pub nowhere : State
nowhere = record { store = []; scope = []; marks = []; calls = 0; steps = 0; input = record { bytes = []; tail = EndOfInput }; output = [] }

abbrev pub integer_at : Outcome Value → Option ℤ
integer_at (Normal (Integer z) s) = Some z
integer_at _ = None

abbrev pub is_zero : Option ℤ → Bool
is_zero None = false
is_zero (Some z) = int_eq z (pos 0)

abbrev pub is_other : Option ℤ → Bool
is_other None = false
is_other (Some z) = not (int_eq z (pos 0))

abbrev pub is_constant_operator : UnOp → Bool
is_constant_operator unary.Deref = false
is_constant_operator unary.Address = false
is_constant_operator _ = true

module _ (T : Tables) where
  -- the value of an expression without objects
  abbrev pub integer_value : Expression → Option ℤ
  integer_value e = integer_at (eval_with T e no_callee nowhere)

  -- an integer constant expression, which is evaluated or isn't: of integers alone, without variables, assignments and calls; a comma
  -- may stand in what isn't evaluated (C99 6.6 p3, p6)
  abbrev pub is_constant : Bool → Expression → Bool
  is_constant evaluated (Node at t (Number n k)) = true
  is_constant evaluated (Node at t (Letter n)) = true
  is_constant evaluated (Node at t (Unary op a)) = is_constant_operator op && is_constant evaluated a
  is_constant evaluated (Node at t (Binary op a b)) = is_constant evaluated a && is_constant evaluated b
  is_constant evaluated (Node at t (Both a b)) = is_constant evaluated a && is_constant (evaluated && is_other (integer_value a)) b
  is_constant evaluated (Node at t (Either a b)) = is_constant evaluated a && is_constant (evaluated && is_zero (integer_value a)) b
  is_constant evaluated (Node at t (Choice a b c)) =
      is_constant evaluated a && is_constant (evaluated && is_other (integer_value a)) b && is_constant (evaluated && is_zero (integer_value a)) c
  is_constant evaluated (Node at t (Cast to a)) = is_there (integer_type to) && is_constant evaluated a
  is_constant evaluated (Node at t (SizeOfType u)) = true
  is_constant evaluated (Node at t (SizeOfExpr a)) = true
  is_constant evaluated (Node at t (Comma a b)) = not evaluated && is_constant evaluated a && is_constant evaluated b
  is_constant evaluated _ = false

-- what constant expressions need of a program
abbrev pub tables_in : Sight → Tables
tables_in s = record { structs = s.structs; texts = map (λ (l : StringLiteral). l.bytes) s.texts; literals = [] }

-- the value of a typed integer constant expression
abbrev pub constant : Sight → Expression → Option ℤ
constant s e = if is_constant (tables_in s) true e && is_there (integer_type (type_of e)) then integer_value (tables_in s) e else None

abbrev pub is_null_name : Expression → Bool
is_null_name (Node at t (Variable x)) = is_of_library x
is_null_name _ = false

-- the null constant: `NULL`, and an integer constant expression of value 0 (C99 6.3.2.3 p3)
abbrev pub is_null : Sight → Expression → Bool
is_null s e = is_null_name e || is_zero (constant s e)

-- ---- assignment

abbrev pub points_to_void : PlainType → Bool
points_to_void (Ptr t) = is_void t
points_to_void _ = false

-- two pointers of one type, or one of them to void (C99 6.5.9 p2, 6.5.16.1)
abbrev pub are_compatible : PlainType → PlainType → Bool
are_compatible t u = (is_pointer t && is_pointer u) && (same_type t u || points_to_void t || points_to_void u)

abbrev pub are_integers : PlainType → PlainType → Bool
are_integers t u = is_there (integer_type t) && is_there (integer_type u)

-- whether a value becomes one of the type: integers, pointers, the null constant (C99 6.5.16.1)
abbrev pub is_assigned : Sight → Expression → PlainType → Bool
is_assigned s e t = are_integers (type_of e) t || are_compatible (type_of e) t || (is_null s e && is_pointer t)

-- ---- the demand of each form on its parts, which have no fault

-- an integer literal has the first type that holds it (C99 6.4.4.1)
abbrev pub literal : Place → ℤ → Option CInt → Checked Expression
literal at n k = given k (no_type at) (λ l. where_so (fits l n) (no_type at) (Good (Node at (Int l) (Number n (Some l)))))

-- a string literal is an array of its bytes and a 0 (C99 6.4.5 p5)
abbrev pub text : Sight → Place → ℕ → Checked Expression
text s at offset = given (literal_at offset 0 s.texts) (no_type at) (λ l. Good (Node at (Array (Int I8) (Count (length l.1 + 1))) (Text l.0)))

abbrev pub is_null_word : Sight → ℕ → Bool
is_null_word s x = bytes_eq (name_at s.names x) (codes "NULL")

-- a name of the library: a constant, in whose place its value stands, or `NULL`; a function's name stands before `(` alone
abbrev pub library_name : Sight → Place → ℕ → Checked Expression
library_name s at x = elim (library_constant (name_at s.names x)) [
  | Some c ↦ Good (Node at (Int c.0) (Number c.1 (Some c.0)))
  | None ↦ cond (is_null_word s x) (Good (Node at (Ptr Void) (Variable (use_as x 4294967295))))
      (cond (is_there (library_function x (name_at s.names x))) (faulty (no_type at)) (faulty (no_name at)))
]

-- a name: an object, or an enumerator, in whose place its value stands
abbrev pub typed_name : Sight → Place → ℕ → Checked Expression
typed_name s at x = elim (entity_named x s.entities) [
  | Some e ↦ elim e [
    | AnObject b ↦ Good (Node at b.ctype (Variable (use_as x b.decl)))
    | AnEnumerator c ↦ Good (Node at int_type (Number c.value (Some I32)))
  ]
  | None ↦ elim (function_called x s.functions) [ Some f ↦ faulty (no_type at) | None ↦ library_name s at x ]
]

-- prefix operators (C99 6.5.3.2, 6.5.3.3): `!` takes a scalar, `&` a place, `*` a pointer to a type that isn't void, and the others an
-- integer, which is promoted
abbrev pub unary_on : Place → UnOp → Expression → Checked Expression
unary_on at unary.Not a = where_so (is_scalar (type_of (decayed a))) (no_type at) (Good (Node at int_type (Unary unary.Not (decayed a))))
unary_on at unary.Address a = where_so (is_place a) (no_type at) (Good (Node at (Ptr (type_of a)) (Unary unary.Address a)))
unary_on at unary.Deref a =
    given (pointed (type_of (decayed a))) (no_type at) (λ t.
    where_so (not (is_void t)) (no_type at) (Good (Node at t (Unary unary.Deref (decayed a)))))
unary_on at op a = given (integer_type (type_of a)) (no_type at) (λ k. Good (Node at (Int (promoted k)) (Unary op (in_int (promoted k) a))))

-- two integers, each promoted, or both in the common type (C99 6.5.5 to 6.5.12)
abbrev pub on_integers : Place → BinOp → CInt → CInt → Expression → Expression → Expression
on_integers at op k l a b = Node at (Int (result_type op k l)) (
    if is_shift op then Binary op (in_int (promoted k) a) (in_int (promoted l) b) else Binary op (in_int (common k l) a) (in_int (common k l) b))

-- an operator that goes on by elements: `+`, and `-` where the integer stands on its right (C99 6.5.6 p8)
abbrev pub is_step : BinOp → Bool → Bool
is_step operator.Add right = true
is_step operator.Sub right = right
is_step _ right = false

abbrev pub is_equality : BinOp → Bool
is_equality operator.Eq = true
is_equality operator.Ne = true
is_equality _ = false

abbrev pub is_difference : BinOp → Bool
is_difference operator.Sub = true
is_difference _ = false

-- goes on where a pointer to the type goes on by elements: the type isn't void, and its size is known
abbrev pub where_elements : {A : Type 0} → Sight → Place → PlainType → Checked A → Checked A
where_elements s at t c = where_so (not (is_void t)) (no_type at) (where_sized s at t c)

-- two pointers: their difference, an order, or whether they are equal (C99 6.5.6 p9, 6.5.8 p2, 6.5.9 p2)
abbrev pub on_pointers : Sight → Place → BinOp → PlainType → PlainType → Expression → Expression → Checked Expression
on_pointers s at op t u a b =
    if is_difference op then where_so (same_type t u) (no_type at) (where_elements s at t (Good (Node at (Int I64) (Binary op a b))))
    else (if is_equality op
    then where_so (are_compatible (Ptr t) (Ptr u)) (no_type at) (Good (Node at int_type (Binary op a b)))
    else where_so (is_relation op && same_type t u) (no_type at) (Good (Node at int_type (Binary op a b))))

-- a pointer and an integer on its right: so many elements on, or the null constant
abbrev pub on_pointer_and_integer : Sight → Place → BinOp → PlainType → Expression → Expression → Checked Expression
on_pointer_and_integer s at op t a b =
    if is_step op true then where_elements s at t (Good (Node at (Ptr t) (Binary op a b)))
    else where_so (is_equality op && is_null s b) (no_type at) (Good (Node at int_type (Binary op a (in_type (Ptr t) b))))

-- the same with the integer on its left
abbrev pub on_integer_and_pointer : Sight → Place → BinOp → PlainType → Expression → Expression → Checked Expression
on_integer_and_pointer s at op t a b =
    if is_step op false then where_elements s at t (Good (Node at (Ptr t) (Binary op a b)))
    else where_so (is_equality op && is_null s a) (no_type at) (Good (Node at int_type (Binary op (in_type (Ptr t) a) b)))

-- whether a type points to a struct whose members aren't known yet
abbrev pub points_to_unknown : Sight → PlainType → Bool
points_to_unknown s (Ptr t) = is_unknown (sized s.structs t)
points_to_unknown s _ = false

-- whether an operator knows the sizes that it needs: where it goes on by elements, those of what its operands point to (C99 6.5.6 p2, p3)
abbrev pub knows_elements : Sight → BinOp → PlainType → PlainType → Bool
knows_elements s op t u = not (is_step op true && (points_to_unknown s t || points_to_unknown s u))

-- two values of types that fit the operator
abbrev pub operated : Sight → Place → BinOp → Expression → Expression → Checked Expression
operated s at op a b = elim (integer_type (type_of a)) [
  | Some k ↦ elim (integer_type (type_of b)) [
    | Some l ↦ Good (on_integers at op k l a b)
    | None ↦ given (pointed (type_of b)) (no_type at) (λ t. on_integer_and_pointer s at op t a b)
  ]
  | None ↦ given (pointed (type_of a)) (no_type at) (λ t. elim (integer_type (type_of b)) [
    | Some l ↦ on_pointer_and_integer s at op t a b
    | None ↦ given (pointed (type_of b)) (no_type at) (λ u. on_pointers s at op t u a b)
  ])
]

-- of two demands at the operator, that of names comes first, here and in what follows
abbrev pub binary : Sight → Place → BinOp → Expression → Expression → Checked Expression
binary s at op a b = where_so (knows_elements s op (type_of a) (type_of b)) (no_name at) (operated s at op a b)

-- `&&` and `||` take scalars (C99 6.5.13, 6.5.14)
abbrev pub both_of : Place → Expression → Expression → Checked Expression
both_of at a b = where_so (is_scalar (type_of a) && is_scalar (type_of b)) (no_type at) (Good (Node at int_type (Both a b)))

abbrev pub either_of : Place → Expression → Expression → Checked Expression
either_of at a b = where_so (is_scalar (type_of a) && is_scalar (type_of b)) (no_type at) (Good (Node at int_type (Either a b)))

-- the type of a choice between two pointers, of which one may be the null constant or point to void (C99 6.5.15 p6)
abbrev pub pointer_choice : Sight → Expression → Expression → Option PlainType
pointer_choice s b c =
    if is_pointer (type_of b) && is_null s c then Some (type_of b)
    else (if is_pointer (type_of c) && is_null s b then Some (type_of c)
    else (if are_compatible (type_of b) (type_of c) then Some (if points_to_void (type_of b) then type_of b else type_of c) else None))

-- the type of `a ? b : c`: the common type of two integers, void of two of void, or a pointer (C99 6.5.15 p5, p6)
abbrev pub choice_type : Sight → Expression → Expression → Option PlainType
choice_type s b c = elim (integer_type (type_of b)) [
  | Some k ↦ elim (integer_type (type_of c)) [ Some l ↦ Some (Int (common k l)) | None ↦ pointer_choice s b c ]
  | None ↦ cond (is_void (type_of b) && is_void (type_of c)) (Some Void) (pointer_choice s b c)
]

abbrev pub choice_of : Sight → Place → Expression → Expression → Expression → Checked Expression
choice_of s at a b c =
    where_so (is_scalar (type_of a)) (no_type at) (
    given (choice_type s b c) (no_type at) (λ t.
    Good (Node at t (Choice a (in_type t b) (in_type t c)))))

-- `a = b` of a scalar type (C99 6.5.16.1): the left is a place
abbrev pub assigned_scalar : Sight → Place → Expression → Expression → Checked Expression
assigned_scalar s at a b =
    where_so (is_place a && is_scalar (type_of a) && is_assigned s b (type_of a)) (no_type at)
    (Good (Node at (type_of a) (Assign None a (in_type (type_of a) b))))

-- a struct goes to the same struct, whose size is needed
abbrev pub assigned_struct : Sight → Place → Expression → Expression → Checked Expression
assigned_struct s at a b =
    where_sized s at (type_of a)
    (where_so (is_place a && same_type (type_of b) (type_of a)) (no_type at) (Good (Node at (type_of a) (Assign None a b))))

abbrev pub assigned : Sight → Place → Expression → Expression → Checked Expression
assigned s at a b = if is_struct (type_of a) then assigned_struct s at a b else assigned_scalar s at a b

-- `a op= b` takes what the operator takes (C99 6.5.16.2): integers, whose conversions stand where it is evaluated, or a pointer that
-- goes on by elements
abbrev pub operated_in_place : Sight → Place → BinOp → Expression → Expression → Expression → Checked Expression
operated_in_place s at op a b whole = elim (integer_type (type_of a)) [
  | Some k ↦ where_so (is_place a && is_there (integer_type (type_of b))) (no_type at) (Good whole)
  | None ↦ given (pointed (type_of a)) (no_type at) (λ t.
      where_so (is_place a && is_there (integer_type (type_of b)) && is_step op true) (no_type at) (where_elements s at t (Good whole)))
]

abbrev pub compounded : Sight → Place → BinOp → Expression → Expression → Expression → Checked Expression
compounded s at op a b whole = where_so (knows_elements s op (type_of a) (type_of b)) (no_name at) (operated_in_place s at op a b whole)

abbrev pub assign : Sight → Place → Option BinOp → Expression → Expression → Checked Expression
assign s at None a b = assigned s at a b
assign s at (Some op) a b = compounded s at op a b (Node at (type_of a) (Assign (Some op) a b))

-- `++` and `--` are `+= 1` and `-= 1` (C99 6.5.2.4, 6.5.3.1)
abbrev pub bump : Sight → Place → BumpOp → Expression → Checked Expression
bump s at op a = compounded s at operator.Add a (Node at int_type (Number (pos 1) (Some I32))) (Node at (type_of a) (Bump op a))

-- a cast (C99 6.5.4): anything to void, integers, pointers, the null constant to a pointer
abbrev pub is_cast : Sight → Expression → PlainType → Bool
is_cast s e t = is_void t || are_integers (type_of e) t || (is_pointer (type_of e) && is_pointer t) || (is_null s e && is_pointer t)

abbrev pub cast : Sight → Place → PlainType → Expression → Checked Expression
cast s at to a = where_so (is_cast s a to) (no_type at) (Good (Node at to (Cast to a)))

-- `a[b]`, of which one is a pointer and the other an integer (C99 6.5.2.1)
abbrev pub element : Sight → Place → Expression → Expression → Checked Expression
element s at a b = elim (pointed (type_of a)) [
  | Some t ↦ where_so (is_there (integer_type (type_of b))) (no_type at) (where_elements s at t (Good (Node at t (Index a b))))
  | None ↦ given (pointed (type_of b)) (no_type at) (λ t.
      where_so (is_there (integer_type (type_of a))) (no_type at) (where_elements s at t (Good (Node at t (Index a b)))))
]

abbrev pub index : Sight → Place → Expression → Expression → Checked Expression
index s at a b = where_so (knows_elements s operator.Add (type_of a) (type_of b)) (no_name at) (element s at a b)

-- the type of a member of a struct whose members are known (C99 6.5.2.3)
abbrev pub member : Sight → Place → PlainType → ℕ → Checked PlainType
member s at t m =
    where_so (is_struct t) (no_type at) (where_sized s at t (
    given (member_among m (members_of s.structs t)) (no_name at) (λ f. Good f.ctype)))

abbrev pub dot : Sight → Place → ℕ → Expression → Checked Expression
dot s at m a = one_part (member s at (type_of a) m) (λ t. Good (Node at t (Dot a m)))

abbrev pub arrow : Sight → Place → ℕ → Expression → Checked Expression
arrow s at m a = given (pointed (type_of a)) (no_type at) (λ t. one_part (member s at t m) (λ u. Good (Node at u (Arrow a m))))

-- `sizeof` of a type that has a size (C99 6.5.3.4)
abbrev pub size_of_type : Sight → Place → PlainType → Checked Expression
size_of_type s at u = where_sized s at u (Good (Node at (Int U64) (SizeOfType u)))

abbrev pub size_of_expression : Sight → Place → Expression → Checked Expression
size_of_expression s at a = where_sized s at (type_of a) (Good (Node at (Int U64) (SizeOfExpr a)))

-- ---- calls (C99 6.5.2.2)

-- a name that is called and is no function's: a constant of the library, or unknown
abbrev pub no_function : Sight → Place → ℕ → Checked Signature
no_function s at x = cond (is_there (library_constant (name_at s.names x)) || is_null_word s x) (faulty (no_type at)) (faulty (no_name at))

-- the function that is called, by its name: the file defines it, and `main` isn't to be called (this profile)
abbrev pub callee : Sight → Place → ℕ → Checked Signature
callee s at x = elim (entity_named x s.entities) [
  | Some b ↦ faulty (no_type at)
  | None ↦ elim (or_else (function_called x s.functions) (library_function x (name_at s.names x))) [
    | None ↦ no_function s at x
    | Some f ↦ where_so f.defined (no_name at) (where_so (not (bytes_eq (name_at s.names x) (codes "main"))) (no_type at) (Good f))
  ]
]

-- printf, whose format asks for the arguments behind it (C99 7.19.6.1 p2)
abbrev pub is_printf : Sight → ℕ → Bool
is_printf s x = bytes_eq (name_at s.names x) (codes "printf")

-- the pieces of the format where the first argument is a string literal
abbrev pub format_of : Sight → Expressions → Option (List Piece)
format_of s (Following (Node at t (Text offset)) es) = elim (literal_at offset 0 s.texts) [ None ↦ None | Some l ↦ pieces_of l.1 ]
format_of s _ = None

-- the format's type and those of its directives; what is no format has a type that no argument has
abbrev pub format_params : Option (List Piece) → List PlainType
format_params None = Void ∷ []
format_params (Some pieces) = Ptr (Int I8) ∷ types_of pieces

-- a function as this call of it sees it
abbrev pub with_directives : Sight → Expressions → Signature → Signature
with_directives s es f = record f { params = cond (is_printf s f.name) (format_params (format_of s es)) f.params }

abbrev pub callee_for : Sight → Place → ℕ → Expressions → Checked Signature
callee_for s at x es = one_part (callee s at x) (λ f. Good (with_directives s es f))

-- whether a value goes to a format or a directive: an integer whose promoted type is as wide, or a pointer of the same type (C99 7.19.6.1 p7, p8)
abbrev pub is_printed : PlainType → PlainType → Bool
is_printed (Int k) (Int l) = nat_eq (width (promoted k)) (width l)
is_printed (Ptr t) (Ptr u) = same_type t u
is_printed _ _ = false

-- an argument in the type of its parameter (C99 6.5.2.2 p7)
abbrev pub is_passed : Sight → Bool → Expression → PlainType → Bool
is_passed s printed e t = cond printed (is_printed (type_of e) t) (is_assigned s e t)

abbrev pub argument : Sight → Bool → PlainType → Expression → Checked Expression
argument s printed t e = where_so (is_passed s printed e t) (no_type (place_of e)) (Good (in_type t e))

-- the parameter after those of the list
abbrev pub first_type : List PlainType → Option PlainType
first_type [] = None
first_type (t ∷ ts) = Some t

abbrev pub rest_types : List PlainType → List PlainType
rest_types [] = []
rest_types (t ∷ ts) = ts

-- an argument without a parameter has no demand of its own
abbrev pub argument_for : Sight → Bool → Option PlainType → Expression → Checked Expression
argument_for s printed None e = Good e
argument_for s printed (Some t) e = argument s printed t e

abbrev pub argument_count : Expressions → ℕ
argument_count NoExpression = 0
argument_count (Following e es) = suc (argument_count es)

-- the number of arguments is that of the parameters
abbrev pub call : Place → Signature → Expressions → Checked Expression
call at f es = where_so (nat_eq (argument_count es) (length f.params)) (no_type at) (Good (Node at f.result (Call (use_as f.name f.decl) es)))

-- the parameters' types, where the callee has no fault
abbrev pub params_of : Checked Signature → List PlainType
params_of (Good f) = f.params
params_of (Bad f fs) = []

-- ---- types as they are written

-- the count of an array: from 1 to 2^31 - 1 (C99 6.7.5.2 p1)
abbrev pub counted : Place → Option ℤ → Checked PlainLength
counted at (Some (pos n)) = where_so (nat_lt 0 n && nat_lt n (2 ^ 31)) (no_type at) (Good (Count n))
counted at _ = faulty (no_type at)

-- the elements of an array are of a type that has a size (C99 6.7.5.2 p1)
abbrev pub element_type : Sight → Place → PlainType → Checked PlainType
element_type s at t = where_sized s at t (Good t)

-- a struct that the file defines nowhere has an index that no struct has, so its size is never known (C99 6.7.2.3 p7)
abbrev pub unknown_struct : Sight → ℕ → PlainType
unknown_struct s x = Struct (length s.structs + x)

-- the struct with a tag
abbrev pub known_struct : Sight → ℕ → PlainType
known_struct s x = elim (tagged x 0 s.structs) [ None ↦ unknown_struct s x | Some n ↦ Struct n ]

-- the same at this place, where the tag is no enum's (C99 6.7.2.3)
abbrev pub struct_tagged : Sight → Place → ℕ → Checked PlainType
struct_tagged s at x = where_so (not (is_among x s.enum_tags)) (no_name at) (Good (known_struct s x))

-- what is known of a type that has a fault, on which limits are asked too: a name that is no type's is void, and a length with a fault is
-- the least that there is
abbrev pub known_name : Option PlainType → PlainType
known_name None = Void
known_name (Some t) = t

abbrev pub least_length : Checked PlainLength → PlainLength
least_length (Good n) = n
least_length (Bad f fs) = Count 1

abbrev pub two : {A B : Type 0} → A → B → Checked (A × B)
two a b = Good (a, b)

-- what a value is made of: an array is a pointer there
abbrev pub decayed_of : Checked Expression → Checked Expression
decayed_of c = one_part c (λ e. Good (decayed e))

abbrev mutual
  pub typed : Sight → Expression → Checked Expression
  typed s (Node at t (Number n k)) = literal at n k
  typed s (Node at t (Letter n)) = Good (Node at int_type (Letter n))
  typed s (Node at t (Text offset)) = text s at offset
  typed s (Node at t (Variable x)) = typed_name s at x.name
  typed s (Node at t (Unary op a)) = one_part (typed s a) (unary_on at op)
  typed s (Node at t (Binary op a b)) = both_parts (decayed_of (typed s a)) (decayed_of (typed s b)) (binary s at op)
  typed s (Node at t (Both a b)) = both_parts (decayed_of (typed s a)) (decayed_of (typed s b)) (both_of at)
  typed s (Node at t (Either a b)) = both_parts (decayed_of (typed s a)) (decayed_of (typed s b)) (either_of at)
  typed s (Node at t (Choice a b c)) =
      both_parts (decayed_of (typed s a)) (both_parts (decayed_of (typed s b)) (decayed_of (typed s c)) two) (λ x p. choice_of s at x p.0 p.1)
  typed s (Node at t (Assign op a b)) = both_parts (typed s a) (decayed_of (typed s b)) (assign s at op)
  typed s (Node at t (Bump op a)) = one_part (typed s a) (bump s at op)
  typed s (Node at t (Call f es)) =
      both_parts (callee_for s at f.name es) (typed_arguments s (is_printf s f.name) (params_of (callee_for s at f.name es)) es) (call at)
  typed s (Node at t (Cast to a)) = limited s at (known_type s to) (both_parts (typed_type s at to) (decayed_of (typed s a)) (cast s at))
  typed s (Node at t (SizeOfType u)) = limited s at (known_type s u) (one_part (typed_type s at u) (size_of_type s at))
  typed s (Node at t (SizeOfExpr a)) = one_part (typed s a) (λ e. limited s at (type_of e) (size_of_expression s at e))
  typed s (Node at t (Index a b)) = both_parts (decayed_of (typed s a)) (decayed_of (typed s b)) (index s at)
  typed s (Node at t (Dot a m)) = one_part (typed s a) (dot s at m)
  typed s (Node at t (Arrow a m)) = one_part (decayed_of (typed s a)) (arrow s at m)
  typed s (Node at t (Comma a b)) = both_parts (typed s a) (decayed_of (typed s b)) (λ a b. Good (Node at (type_of b) (Comma a b)))

  -- arguments, each with the demand of its parameter, to printf or to another function
  pub typed_arguments : Sight → Bool → List PlainType → Expressions → Checked Expressions
  typed_arguments s printed ts NoExpression = Good NoExpression
  typed_arguments s printed ts (Following e es) =
      both_parts (one_part (decayed_of (typed s e)) (argument_for s printed (first_type ts))) (typed_arguments s printed (rest_types ts) es)
      (λ e es. Good (Following e es))

  -- a type that is written at this place (C99 6.7.5, 6.7.6)
  pub typed_type : Sight → Place → PlainType → Checked PlainType
  typed_type s at Void = Good Void
  typed_type s at (Int k) = Good (Int k)
  typed_type s at (Ptr t) = one_part (typed_type s at t) (λ u. Good (Ptr u))
  typed_type s at (Array t n) = both_parts (one_part (typed_type s at t) (element_type s at)) (typed_length s at n) (λ u m. Good (Array u m))
  typed_type s at (Struct n) = Good (Struct n)
  typed_type s at (Named x) = given (type_named x s.types) (no_name at) Good
  typed_type s at (StructTag x tag) = struct_tagged s tag x
  typed_type s at (EnumTag x tag) = where_so (is_among x s.enums) (no_name tag) (Good int_type)

  pub typed_length : Sight → Place → PlainLength → Checked PlainLength
  typed_length s at Left = faulty (no_type at)
  typed_length s at (Written e) = one_part (typed s e) (λ x. counted (place_of e) (constant s x))
  typed_length s at (Count n) = Good (Count n)

  -- the same as far as it is known, whatever faults it has; a tag is what it is written as
  pub known_type : Sight → PlainType → PlainType
  known_type s Void = Void
  known_type s (Int k) = Int k
  known_type s (Ptr t) = Ptr (known_type s t)
  known_type s (Array t n) = Array (known_type s t) (known_length s n)
  known_type s (Struct n) = Struct n
  known_type s (Named x) = known_name (type_named x s.types)
  known_type s (StructTag x tag) = known_struct s x
  known_type s (EnumTag x tag) = int_type

  pub known_length : Sight → PlainLength → PlainLength
  known_length s Left = Left
  known_length s (Written e) = least_length (one_part (typed s e) (λ x. counted (place_of e) (constant s x)))
  known_length s (Count n) = Count n
