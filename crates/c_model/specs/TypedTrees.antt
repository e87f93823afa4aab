-- What is known of typed trees (C99 6.3, 6.5, 6.7, 6.8): each use denotes an object in sight of its type, operands have the types that
-- their operator takes, a value is read where its type is scalar, what is written or pointed to is an object, and values go to objects
-- of their type. And the law that typing changes nothing but types, casts and constants.
use Rattle.std.specs.Prelude.{◌≡◌, ℕ, ◌+◌, ℤ, pos, true, false, cond, List, [], ◌∷◌, length, Option, Some, None, slice_get, codes}
use Rattle.std.specs.Prelude.{bytes_eq, nat_le, nat_eq, option_map}
use Rattle.c_syntax.specs.declared.place.Place.{Place}
use Rattle.c_syntax.specs.declared.types.CInt.{CInt}
use Rattle.c_syntax.specs.declared.types.CInt.TheVariants.{I8, I32, I64, U64}
use Rattle.c_syntax.specs.declared.expression.Use.{Use}
use Rattle.c_syntax.specs.declared.expression.UnOp.TheVariants as unary
use Rattle.c_syntax.specs.declared.expression.BinOp.{BinOp}
use Rattle.c_syntax.specs.declared.expression.BinOp.TheVariants as operator
use Rattle.c_syntax.specs.Ctypes.{PlainType, Void, Int, Ptr, Array, Struct, PlainLength, Count, int_type}
use Rattle.c_syntax.specs.Expressions.{Expression, Node, ExpressionKind, Number, Letter, Text, Variable, Unary, Binary, Both, Either, Choice}
use Rattle.c_syntax.specs.Expressions.{Assign, Bump, Call}
use Rattle.c_syntax.specs.Trees.{kind_of}
use Rattle.c_syntax.specs.Expressions.{Cast, SizeOfType, SizeOfExpr, Index, Dot, Arrow, Comma, Expressions, NoExpression, Following, place_of, type_of}
use Rattle.c_syntax.specs.Statements.{Switch, Cases, NoCase, AnotherCase}
use Rattle.c_syntax.specs.Statements.{Initialiser, One, Many, Initialisers, NoInitialiser, Listed, Declaration, Statement, Empty, Eval, Block, If, While, Do}
use Rattle.c_syntax.specs.Statements.{For, Break, Continue, Return, Labelled, ElsePart, NoElse, Else, ForFirst, NoFirst, First, BlockItem, Declare, Specify}
use Rattle.c_syntax.specs.Statements.{Run}
use Rattle.c_syntax.specs.Statements.{Asserts}
use Rattle.c_syntax.specs.Statements.{BlockItems, NoItem, Then}
use Rattle.c_syntax.specs.Programs.{StructMember, StringLiteral, Function}
use Rattle.c_syntax.specs.Layouts.{Scalar, scalar_of, size_of, members_of, member_among}
use Rattle.c_model.specs.Integers.{fits}
use Rattle.c_model.specs.Conversions.{promoted, is_shift, is_relation}
use Rattle.c_model.specs.Formats.{pieces_of, types_of}
use Rattle.c_model.specs.Meaning.{is_array, parts_or_itself, string_in}
use Rattle.c_model.specs.Library.{is_library_name}
use Rattle.c_model.specs.ExpressionTyping.{Object, AnObject, Signature, Sight, name_at, or_else, entity_named, function_called, library_function}
use Rattle.c_model.specs.ExpressionTyping.{HasSize, sized, most_bytes, constant, tables_in, is_step, is_difference, is_place, has_object, is_struct}
use Rattle.c_model.specs.ExpressionTyping.{is_printf, with_object}
use Rattle.c_model.specs.ExpressionTyping.{inner, declared_here, is_character, Enumerator, AnEnumerator, use_as, typed}
use Rattle.c_model.specs.Checked.{Good}
use Rattle.c_model.specs.UnitTyping.{with_parameter, with_parameters}
use Rattle.c_model.specs.StatementTyping.{Around, in_loop, in_switch, behind, behind_first, typed_labels}

-- ---- types

-- a type whose values are read and written as a whole (C99 6.2.5 p21)
pub record IsScalar (t : PlainType) : Type 0 where
  pub scalar : Scalar
  pub is : scalar_of t ≡ Some scalar

pub record IsInteger (t : PlainType) : Type 0 where
  pub int : CInt
  pub is : t ≡ Int int

pub record IsPointer (t : PlainType) : Type 0 where
  pub target : PlainType
  pub is : t ≡ Ptr target

-- a type that operators compute in (C99 6.3.1.1 p2)
pub record IsPromoted (t : PlainType) : Type 0 where
  pub int : CInt
  pub is : t ≡ Int (promoted int)

-- a function gives nothing or a scalar
pub data IsResult (t : PlainType) : Type 0 where
  GivesNothing : t ≡ Void → IsResult t
  GivesScalar : IsScalar t → IsResult t

-- a pointer that goes on by elements, whose size is known (C99 6.5.6 p2)
pub record PointsToElements (s : Sight) (t : PlainType) : Type 0 where
  pub target : PlainType
  pub is : t ≡ Ptr target
  pub known : sized s.structs target ≡ HasSize

-- a type whose size is known, and which has few enough bytes
pub record HasKnownSize (s : Sight) (t : PlainType) : Type 0 where
  pub known : sized s.structs t ≡ HasSize
  pub small : nat_le (size_of s.structs t) most_bytes ≡ true

-- ---- what designates an object (C99 6.3.2.1)

-- a use of an object in sight, whose type this is
pub record Denotes (s : Sight) (x : Use) (t : PlainType) : Type 0 where
  pub object : Object
  pub found : entity_named x.name s.entities ≡ Some (AnObject object)
  pub decl : x.decl ≡ object.decl
  pub ctype : t ≡ object.ctype

-- a name: of an object, or `NULL` (C99 7.17 p3)
pub data IsName (s : Sight) (x : Use) (t : PlainType) : Type 0 where
  OfObject : Denotes s x t → IsName s x t
  OfNull : x.decl ≡ 4294967295 → t ≡ Ptr Void → IsName s x t

-- a string literal of the text: an array of its bytes and a 0 (C99 6.4.5 p5)
pub record IsText (s : Sight) (n : ℕ) (t : PlainType) : Type 0 where
  pub text : StringLiteral
  pub found : slice_get s.texts n ≡ Some text
  pub ctype : t ≡ Array (Int I8) (Count (length text.bytes + 1))

-- a member of this name and type in a struct whose members are known (C99 6.5.2.3)
pub record HasMember (s : Sight) (u : PlainType) (m : ℕ) (t : PlainType) : Type 0 where
  pub struct : ℕ
  pub is : u ≡ Struct struct
  pub known : sized s.structs u ≡ HasSize
  pub member : StructMember
  pub found : member_among m (members_of s.structs u) ≡ Some member
  pub ctype : t ≡ member.ctype

-- the same behind a pointer of the type u
pub record HasMemberBehind (s : Sight) (u : PlainType) (m : ℕ) (t : PlainType) : Type 0 where
  pub target : PlainType
  pub is : u ≡ Ptr target
  pub member : HasMember s target m t

-- ---- operators, by the types of their results and operands

-- two integers (C99 6.3.1.8, 6.5.5 to 6.5.12): a count of bits has a type of its own, and other operands have one type; a relation gives
-- an `int`
pub record OnIntegers (op : BinOp) (t u v : PlainType) : Type 0 where
  pub left : IsPromoted u
  pub right : IsPromoted v
  pub same : is_shift op ≡ false → v ≡ u
  pub result : t ≡ cond (is_relation op) int_type u

pub data BinaryTypes (s : Sight) (op : BinOp) (t u v : PlainType) : Type 0 where
  OfIntegers : OnIntegers op t u v → BinaryTypes s op t u v
  -- a pointer and so many elements (C99 6.5.6 p8)
  OfPointerAndInteger : is_step op true ≡ true → PointsToElements s u → IsInteger v → t ≡ u → BinaryTypes s op t u v
  OfIntegerAndPointer : is_step op false ≡ true → IsInteger u → PointsToElements s v → t ≡ v → BinaryTypes s op t u v
  -- the difference of two pointers (C99 6.5.6 p9)
  OfDifference : is_difference op ≡ true → PointsToElements s u → v ≡ u → t ≡ Int I64 → BinaryTypes s op t u v
  -- an order of pointers, or whether they are equal (C99 6.5.8, 6.5.9)
  OfPointers : is_relation op ≡ true → IsPointer u → IsPointer v → t ≡ int_type → BinaryTypes s op t u v

-- `a[b]` (C99 6.5.2.1)
pub data IndexTypes (s : Sight) (t u v : PlainType) : Type 0 where
  OnTheLeft : u ≡ Ptr t → sized s.structs t ≡ HasSize → IsInteger v → IndexTypes s t u v
  OnTheRight : IsInteger u → v ≡ Ptr t → sized s.structs t ≡ HasSize → IndexTypes s t u v

-- `a = b` of a type: a scalar takes a value, and a struct whose members are known takes what stands in an object (C99 6.5.16.1 p1)
pub data Assigns (s : Sight) (t : PlainType) (b : Expression) : Type 0 where
  ToScalar : IsScalar t → Assigns s t b
  ToStruct : is_struct t ≡ true → sized s.structs t ≡ HasSize → has_object b ≡ true → Assigns s t b

-- `a op= b`, and `++` and `--` where b has the type `int` (C99 6.5.2.4, 6.5.3.1, 6.5.16.2)
pub data CompoundTypes (s : Sight) (op : BinOp) (t u : PlainType) : Type 0 where
  ToInteger : IsInteger t → IsInteger u → CompoundTypes s op t u
  ToPointer : is_step op true ≡ true → PointsToElements s t → IsInteger u → CompoundTypes s op t u

-- a cast to a type (C99 6.3.2, 6.5.4): anything goes to void, integers to integers, and to a pointer go pointers, the null constant and
-- arrays, of which it is the first element's
pub data CastTypes (s : Sight) (to : PlainType) (a : Expression) : Type 0 where
  ToVoid : to ≡ Void → CastTypes s to a
  OfInteger : IsInteger to → IsInteger (type_of a) → CastTypes s to a
  OfPointer : IsPointer to → IsPointer (type_of a) → CastTypes s to a
  OfNullConstant : IsPointer to → IsInteger (type_of a) → constant s a ≡ Some (pos 0) → CastTypes s to a
  OfArray : (t : PlainType) (n : PlainLength) → to ≡ Ptr t → type_of a ≡ Array t n → has_object a ≡ true → CastTypes s to a

-- expressions of these types, one after another
abbrev pub HaveTypes : List PlainType → Expressions → Type 0
HaveTypes [] NoExpression = Unit {0}
HaveTypes [] (Following e es) = ⊥
HaveTypes (t ∷ ts) NoExpression = ⊥
HaveTypes (t ∷ ts) (Following e es) = (type_of e ≡ t) × HaveTypes ts es

-- the number of the string literal that is the first of these values
abbrev pub literal_in : Expressions → Option ℕ
literal_in (Following (Node at t (Cast to (Node behind u (Text n)))) es) = Some n
literal_in _ = None

-- the types of the arguments of a call: those of the parameters, and for printf a format's and those of its directives
abbrev pub format_types : Option StringLiteral → Option (List PlainType)
format_types None = None
format_types (Some l) = option_map (λ pieces. Ptr (Int I8) ∷ types_of pieces) (pieces_of l.bytes)

abbrev pub literal_types : Sight → Option ℕ → Option (List PlainType)
literal_types s None = None
literal_types s (Some n) = format_types (slice_get s.texts n)

abbrev pub argument_types : Sight → Signature → Expressions → Option (List PlainType)
argument_types s f es = cond (is_printf s f.name) (literal_types s (literal_in es)) (Some f.params)

-- a call of a function in sight that is not `main`, with an argument of each parameter's type (C99 6.5.2.2)
pub record Calls (s : Sight) (f : Use) (t : PlainType) (es : Expressions) : Type 0 where
  pub callee : Signature
  pub found : or_else (function_called f.name s.functions) (library_function f.name (name_at s.names f.name)) ≡ Some callee
  pub defined : callee.defined ≡ true
  pub not_main : bytes_eq (name_at s.names f.name) (codes "main") ≡ false
  pub decl : f.decl ≡ callee.decl
  pub result : t ≡ callee.result
  pub params : List PlainType
  pub asked : argument_types s callee es ≡ Some params
  pub arguments : HaveTypes params es

-- ---- expressions

abbrev mutual
  pub WellTyped : Sight → Expression → Type 0
  WellTyped s (Node at t (Number n None)) = ⊥
  WellTyped s (Node at t (Number n (Some k))) = (t ≡ Int k) × (fits k n ≡ true)
  WellTyped s (Node at t (Letter n)) = t ≡ int_type
  WellTyped s (Node at t (Text n)) = IsText s n t
  WellTyped s (Node at t (Variable x)) = IsName s x t
  WellTyped s (Node at t (Unary unary.Not a)) = WellTyped s a × IsScalar (type_of a) × (t ≡ int_type)
  WellTyped s (Node at t (Unary unary.Address a)) = WellTyped s a × (is_place a ≡ true) × (t ≡ Ptr (type_of a))
  WellTyped s (Node at t (Unary unary.Deref a)) = WellTyped s a × (type_of a ≡ Ptr t)
  WellTyped s (Node at t (Unary unary.Plus a)) = WellTyped s a × IsPromoted (type_of a) × (t ≡ type_of a)
  WellTyped s (Node at t (Unary unary.Minus a)) = WellTyped s a × IsPromoted (type_of a) × (t ≡ type_of a)
  WellTyped s (Node at t (Unary unary.Flip a)) = WellTyped s a × IsPromoted (type_of a) × (t ≡ type_of a)
  WellTyped s (Node at t (Binary op a b)) = WellTyped s a × WellTyped s b × BinaryTypes s op t (type_of a) (type_of b)
  WellTyped s (Node at t (Both a b)) = WellTyped s a × WellTyped s b × IsScalar (type_of a) × IsScalar (type_of b) × (t ≡ int_type)
  WellTyped s (Node at t (Either a b)) = WellTyped s a × WellTyped s b × IsScalar (type_of a) × IsScalar (type_of b) × (t ≡ int_type)
  WellTyped s (Node at t (Choice a b c)) =
      WellTyped s a × WellTyped s b × WellTyped s c × IsScalar (type_of a) × (type_of b ≡ t) × (type_of c ≡ t)
  WellTyped s (Node at t (Assign None a b)) =
      WellTyped s a × WellTyped s b × (is_place a ≡ true) × (type_of a ≡ t) × (type_of b ≡ t) × Assigns s t b
  WellTyped s (Node at t (Assign (Some op) a b)) =
      WellTyped s a × WellTyped s b × (is_place a ≡ true) × (type_of a ≡ t) × CompoundTypes s op t (type_of b)
  WellTyped s (Node at t (Bump op a)) = WellTyped s a × (is_place a ≡ true) × (type_of a ≡ t) × CompoundTypes s operator.Add t int_type
  WellTyped s (Node at t (Call f es)) = AreWellTyped s es × Calls s f t es
  WellTyped s (Node at t (Cast to a)) = WellTyped s a × (t ≡ to) × CastTypes s to a
  WellTyped s (Node at t (SizeOfType u)) = HasKnownSize s u × (t ≡ Int U64)
  WellTyped s (Node at t (SizeOfExpr a)) = WellTyped s a × HasKnownSize s (type_of a) × (t ≡ Int U64)
  WellTyped s (Node at t (Index a b)) = WellTyped s a × WellTyped s b × IndexTypes s t (type_of a) (type_of b)
  WellTyped s (Node at t (Dot a m)) = WellTyped s a × (has_object a ≡ true) × HasMember s (type_of a) m t
  WellTyped s (Node at t (Arrow a m)) = WellTyped s a × HasMemberBehind s (type_of a) m t
  WellTyped s (Node at t (Comma a b)) = WellTyped s a × WellTyped s b × (type_of b ≡ t) × (is_array t ≡ false)

  pub AreWellTyped : Sight → Expressions → Type 0
  AreWellTyped s NoExpression = Unit {0}
  AreWellTyped s (Following e es) = WellTyped s e × AreWellTyped s es

-- an expression that designates an object of the type (C99 6.3.2.1)
pub record IsPlace (s : Sight) (t : PlainType) (e : Expression) : Type 0 where
  pub typed : WellTyped s e
  pub designates : has_object e ≡ true
  pub ctype : type_of e ≡ t

-- a value of the type, which is scalar
pub record IsValue (s : Sight) (t : PlainType) (e : Expression) : Type 0 where
  pub typed : WellTyped s e
  pub ctype : type_of e ≡ t
  pub scalar : IsScalar t

-- a condition (C99 6.8.4.1, 6.8.5)
pub record IsCondition (s : Sight) (e : Expression) : Type 0 where
  pub typed : WellTyped s e
  pub scalar : IsScalar (type_of e)

-- ---- declarations (C99 6.7, 6.7.8)

-- a string literal that fills an array of characters, whose last 0 may be left out (C99 6.7.8 p14)
pub record FillsArray (s : Sight) (t : PlainType) (e : Expression) : Type 0 where
  pub place : Place
  pub ctype : PlainType
  pub text : ℕ
  pub is : e ≡ Node place ctype (Text text)
  pub typed : IsText s text ctype
  pub element : PlainType
  pub count : ℕ
  pub array : t ≡ Array element (Count count)
  pub characters : is_character element ≡ true
  pub room : nat_le (length typed.text.bytes) count ≡ true

pub data InitialisedBy (s : Sight) (t : PlainType) (e : Expression) : Type 0 where
  ByText : FillsArray s t e → InitialisedBy s t e
  ByValue : IsValue s t e → string_in e ≡ None → InitialisedBy s t e

-- what initialises an object of the type: in braces, its parts in their order, of which the last may be left out (C99 6.7.8 p17, p21)
abbrev mutual
  pub Initialises : Sight → PlainType → Initialiser → Type 0
  Initialises s t (One e) = InitialisedBy s t e
  Initialises s t (Many brace is) = PartsInitialised s (parts_or_itself (tables_in s) t) is

  pub PartsInitialised : Sight → List (ℕ × PlainType) → Initialisers → Type 0
  PartsInitialised s cs NoInitialiser = Unit {0}
  PartsInitialised s [] (Listed i is) = ⊥
  PartsInitialised s (c ∷ cs) (Listed i is) = Initialises s c.1 i × PartsInitialised s cs is

abbrev pub WhereAny : {A : Type 0} → (A → Type 0) → Option A → Type 0
WhereAny P None = Unit {0}
WhereAny P (Some x) = P x

-- an object whose name is new in its scope, and which is in sight in its own initialiser (C99 6.2.1 p7, 6.7 p3)
pub record IsDeclared (s : Sight) (d : Declaration) : Type 0 where
  pub own_name : is_library_name (name_at s.names d.name) ≡ false
  pub new : declared_here s d.name ≡ None
  pub size : HasKnownSize s d.ctype
  pub init : WhereAny (λ (i : Place × Initialiser). Initialises (with_object s d) d.ctype i.1) d.init

abbrev pub AreDeclared : Sight → List Declaration → Type 0
AreDeclared s [] = Unit {0}
AreDeclared s (d ∷ ds) = IsDeclared s d × AreDeclared (with_object s d) ds

-- ---- statements (C99 6.8)

-- a number of the type of what is behind `switch` (C99 6.8.4.2 p5)
abbrev pub IsCaseValue : CInt → Expression → Type 0
IsCaseValue k (Node at t (Number z (Some l))) = (t ≡ Int k) × (l ≡ k) × (fits k z ≡ true)
IsCaseValue k _ = ⊥

-- what a function returns (C99 6.8.6.4)
abbrev pub Returned : Sight → PlainType → Option Expression → Type 0
Returned s t None = t ≡ Void
Returned s t (Some e) = IsValue s t e

abbrev mutual
  pub StatementTyped : Sight → Around → Statement → Type 0
  StatementTyped s r (Empty at) = Unit {0}
  StatementTyped s r (Eval at e) = WellTyped s e
  StatementTyped s r (Block at items) = ItemsTyped (inner s) r items
  StatementTyped s r (If at e a b) = IsCondition s e × StatementTyped s r a × ElseTyped s r b
  StatementTyped s r (While at annots e a) = IsCondition s e × StatementTyped s (in_loop r) a
  StatementTyped s r (Do at a e) = StatementTyped s (in_loop r) a × IsCondition s e
  StatementTyped s r (For at annots first e step a) =
      FirstTyped (inner s) r first × WhereAny (IsCondition (behind_first (inner s) first)) e × WhereAny (WellTyped (behind_first (inner s) first)) step
      × StatementTyped (behind_first (inner s) first) (in_loop r) a
  StatementTyped s r (Break at) = r.breaks ≡ true
  StatementTyped s r (Continue at) = r.loops ≡ true
  StatementTyped s r (Return at e) = Returned s r.result e
  StatementTyped s r (Labelled at l a) = StatementTyped s r a
  StatementTyped s r (Switch at e cases) = (k : CInt) × WellTyped s e × (type_of e ≡ Int (promoted k)) × CasesTyped s (in_switch r) (promoted k) cases

  pub CasesTyped : Sight → Around → CInt → Cases → Type 0
  CasesTyped s r k NoCase = Unit {0}
  CasesTyped s r k (AnotherCase at v items rest) = WhereAny (IsCaseValue k) v × ItemsTyped s r items × CasesTyped s r k rest

  pub ElseTyped : Sight → Around → ElsePart → Type 0
  ElseTyped s r NoElse = Unit {0}
  ElseTyped s r (Else a) = StatementTyped s r a

  pub FirstTyped : Sight → Around → ForFirst → Type 0
  FirstTyped s r NoFirst = Unit {0}
  FirstTyped s r (First i) = ItemTyped s r i

  pub ItemTyped : Sight → Around → BlockItem → Type 0
  ItemTyped s r (Declare ds) = AreDeclared s ds
  ItemTyped s r (Specify at t) = Unit {0}
  ItemTyped s r (Run a) = StatementTyped s r a
  ItemTyped s r (Asserts annots) = Unit {0}

  pub ItemsTyped : Sight → Around → BlockItems → Type 0
  ItemsTyped s r NoItem = Unit {0}
  ItemsTyped s r (Then i rest) = ItemTyped s r i × ItemsTyped (behind s i) r rest

-- ---- functions (C99 6.7.5.3, 6.9.1)

-- a parameter is of a scalar type, and its name, where it has one, is new
pub record IsParameter (s : Sight) (d : Declaration) : Type 0 where
  pub new : d.named ≡ true → declared_here s d.name ≡ None
  pub scalar : IsScalar d.ctype
  pub none : d.init ≡ None

abbrev pub AreParameters : Sight → List Declaration → Type 0
AreParameters s [] = Unit {0}
AreParameters s (d ∷ ds) = IsParameter s d × AreParameters (with_parameter s d) ds

-- where the items of a body stand
abbrev pub around_body : PlainType → Around
around_body t = record { result = t; breaks = false; loops = false }

-- a body is a block, whose scope is that of the parameters (C99 6.2.1 p4)
abbrev pub BodyTyped : Sight → PlainType → Option Statement → Type 0
BodyTyped s t (Some (Block at items)) = ItemsTyped s (around_body t) items
BodyTyped s t _ = Unit {0}

-- a function, where this is in sight at file scope, itself included
pub record FunctionTyped (s : Sight) (f : Function) : Type 0 where
  pub own_name : is_library_name (name_at s.names f.name) ≡ false
  pub result : IsResult f.result
  pub params : AreParameters (inner s) f.params
  pub body : BodyTyped (with_parameters (inner s) f.params) f.result f.body
  -- no two of its labels have one name (C99 6.8.1 p3)
  pub labels : typed_labels f.body ≡ Good tt

-- ---- a typed tree is the read tree but for types, casts and constants

-- an expression in casts to these types, the outermost first, which typing puts at its place
abbrev pub in_casts : List PlainType → Expression → Expression
in_casts [] e = e
in_casts (t ∷ ts) e = Node (place_of (in_casts ts e)) t (Cast t (in_casts ts e))

-- a name denotes a declaration, or a value stands in its place
pub data NameTypedAs (x : Use) (j : ExpressionKind) : Type 0 where
  AsUse : (decl : ℕ) → j ≡ Variable (use_as x.name decl) → NameTypedAs x j
  AsNumber : (n : ℤ) (k : CInt) → j ≡ Number n (Some k) → NameTypedAs x j

-- the second expression is the first one with types, in casts; a string literal has its index in place of its offset
abbrev mutual
  pub TypedAs : Expression → Expression → Type 0
  TypedAs (Node at t k) e = (ts : List PlainType) × (x : Expression) × (e ≡ in_casts ts x) × (place_of x ≡ at) × KindTypedAs k (kind_of x)

  pub KindTypedAs : ExpressionKind → ExpressionKind → Type 0
  KindTypedAs (Number n k) j = (l : CInt) × (j ≡ Number n (Some l))
  KindTypedAs (Letter n) j = j ≡ Letter n
  KindTypedAs (Text offset) j = (n : ℕ) × (j ≡ Text n)
  KindTypedAs (Variable x) j = NameTypedAs x j
  KindTypedAs (Unary op a) j = (b : Expression) × (j ≡ Unary op b) × TypedAs a b
  KindTypedAs (Binary op a b) j = (c d : Expression) × (j ≡ Binary op c d) × TypedAs a c × TypedAs b d
  KindTypedAs (Both a b) j = (c d : Expression) × (j ≡ Both c d) × TypedAs a c × TypedAs b d
  KindTypedAs (Either a b) j = (c d : Expression) × (j ≡ Either c d) × TypedAs a c × TypedAs b d
  KindTypedAs (Choice a b c) j = (d e f : Expression) × (j ≡ Choice d e f) × TypedAs a d × TypedAs b e × TypedAs c f
  KindTypedAs (Assign op a b) j = (c d : Expression) × (j ≡ Assign op c d) × TypedAs a c × TypedAs b d
  KindTypedAs (Bump op a) j = (b : Expression) × (j ≡ Bump op b) × TypedAs a b
  KindTypedAs (Call f es) j = (decl : ℕ) × (fs : Expressions) × (j ≡ Call (use_as f.name decl) fs) × AllTypedAs es fs
  KindTypedAs (Cast to a) j = (u : PlainType) × (b : Expression) × (j ≡ Cast u b) × TypedAs a b
  KindTypedAs (SizeOfType u) j = (v : PlainType) × (j ≡ SizeOfType v)
  KindTypedAs (SizeOfExpr a) j = (b : Expression) × (j ≡ SizeOfExpr b) × TypedAs a b
  KindTypedAs (Index a b) j = (c d : Expression) × (j ≡ Index c d) × TypedAs a c × TypedAs b d
  KindTypedAs (Dot a m) j = (b : Expression) × (j ≡ Dot b m) × TypedAs a b
  KindTypedAs (Arrow a m) j = (b : Expression) × (j ≡ Arrow b m) × TypedAs a b
  KindTypedAs (Comma a b) j = (c d : Expression) × (j ≡ Comma c d) × TypedAs a c × TypedAs b d

  pub AllTypedAs : Expressions → Expressions → Type 0
  AllTypedAs NoExpression fs = fs ≡ NoExpression
  AllTypedAs (Following e es) fs = (x : Expression) × (xs : Expressions) × (fs ≡ Following x xs) × TypedAs e x × AllTypedAs es xs

-- what is known of what is in sight: the numbers of declarations are offsets of the text and not that of the library, enumerators are
-- values of `int` (C99 6.7.2.2 p2), and functions give nothing or a scalar
pub record IsSight (s : Sight) : Type 0 where
  pub objects : (x : ℕ) (b : Object) → entity_named x s.entities ≡ Some (AnObject b) → nat_eq b.decl 4294967295 ≡ false
  pub enumerators : (x : ℕ) (c : Enumerator) → entity_named x s.entities ≡ Some (AnEnumerator c) → fits I32 c.value ≡ true
  pub results : (x : ℕ) (f : Signature) → function_called x s.functions ≡ Some f → IsResult f.result

-- the laws of typing
pub record TypingLaws : Type 0 where
  pub is_known : (s : Sight) (e x : Expression) → IsSight s → typed s e ≡ Good x → WellTyped s x
  pub is_read : (s : Sight) (e x : Expression) → typed s e ≡ Good x → TypedAs e x
