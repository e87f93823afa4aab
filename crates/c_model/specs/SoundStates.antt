-- Ours, by C99 6.2.4, 6.2.6.1, 6.5.6: what holds of memory in each state that a run comes to. Each block has as many bytes as its size says, which is 2 ^ 32 at
-- most; a byte of a number is below 256; a pointer that stands in memory points into a block that was born, or to one past its end; and the pieces of a
-- pointer stand together. Each name in sight and each string literal has a block that was born and is at least as long as its type. So it is now, and so it was
-- at each label that was passed.
use Rattle.std.specs.Prelude.{◌≡◌, ℕ, suc, ◌+◌, ◌<◌, ◌≤◌, ◌⊎◌, ◌^◌, ℤ, Bool, true, false, List, [], ◌∷◌, ◌++◌, length, get_or, Option}
use Rattle.std.specs.Prelude.{Some, None, slice_get}
use Rattle.c_syntax.specs.declared.types.CInt.{CInt}
use Rattle.c_syntax.specs.Layouts.{Scalar, IntegerType, PointerType, size_of}
use Rattle.c_syntax.specs.Programs.{StringLiteral, Function, TranslationUnit}
use Rattle.c_syntax.specs.Statements.{Declaration, Statement, BlockItems}
use Rattle.c_syntax.specs.declared.place.Place.{Place}
use Rattle.c_syntax.specs.declared.expression.Use.{Use}
use Rattle.c_syntax.specs.declared.expression.UnOp.TheVariants as unary
use Rattle.c_syntax.specs.Expressions.{Expression, Node, Number as NumberNode, Letter, Text, Variable, Unary, Binary, Both, Either, Choice, Assign, Bump, Call}
use Rattle.c_syntax.specs.Expressions.{Cast, SizeOfType, SizeOfExpr}
use Rattle.c_syntax.specs.Expressions.{Index, Dot, Arrow, Comma, Expressions, NoExpression, Following, type_of}
use Rattle.c_model.specs.HeapLaws.{BlocksStay, AreSettled}
use Rattle.c_model.specs.Integers.{fits}
use Rattle.c_model.specs.Memory.{Pointer, Null, Into, Value, Integer, Points, NoValue, Byte, Unwritten, Number, Piece, LoosePiece, Block, Store, block_at, load}
use Rattle.c_model.specs.Memory.{save, copy_all, kill_from, freed}
use Rattle.c_model.specs.Laws.{AreWhole}
use Rattle.c_model.specs.Together.{AreTogether, AllTogether}
use Rattle.c_model.specs.State.{Scope, State, Mark, mark_of, find, births, Input, Breaks, Continues, Returns, End, Leaves, Over, Stuck, Outcome, Normal, Stop}
use Rattle.c_model.specs.TypedTrees.{WhereAny}
use Rattle.c_model.specs.FullExpressions.{EachDeclared, EachIn, EachInItems}
use Rattle.c_model.specs.Formed.{declared_within, declared_in_items, declared_in_body}
use Rattle.c_model.specs.Meaning.{Callee, is_array, text_at, tables_of, global_scope, call_of, items_with, body_with, eval, exec, start, whole}
use Rattle.c_model.specs.ReadTree.{AreBytes}
use Rattle.c_model.specs.AcceptedPrograms.{IsProgram}

-- ---- memory

-- null, or into a block that was born, one past its end at most
abbrev pub IsPlaced : Store → Pointer → Type 0
IsPlaced store Null = Unit {0}
IsPlaced store (Into n i) = (b : Block) × (block_at store n ≡ Some b) × (i ≤ b.size)

abbrev pub IsPlacedValue : Store → Value → Type 0
IsPlacedValue store (Integer z) = Unit {0}
IsPlacedValue store (Points p) = IsPlaced store p
IsPlacedValue store NoValue = Unit {0}

abbrev pub IsSoundByte : Store → Byte → Type 0
IsSoundByte store Unwritten = Unit {0}
IsSoundByte store (Number n) = n < 256
IsSoundByte store (Piece p k) = IsPlaced store p
IsSoundByte store LoosePiece = Unit {0}

abbrev pub AreSoundBytes : Store → List Byte → Type 0
AreSoundBytes store bytes = (i : ℕ) → IsSoundByte store (get_or bytes i Unwritten)

pub record IsSoundBlock (store : Store) (b : Block) : Type 0 where
  pub long : length b.bytes ≡ b.size
  pub small : b.size ≤ 2 ^ 32
  pub bytes : AreSoundBytes store b.bytes
  pub together : AreTogether b.bytes

-- each block of it
abbrev pub IsSound : Store → Type 0
IsSound store = (k : ℕ) (b : Block) → slice_get store k ≡ Some b → IsSoundBlock store b

-- ---- names and literals (C99 6.2.1, 6.2.4, 6.4.5 p5)

-- a block that was born, and is at least so long
abbrev pub HasBytes : Store → ℕ → ℕ → Type 0
HasBytes store number size = (b : Block) × (block_at store number ≡ Some b) × (size ≤ b.size)

abbrev pub IsAmong : Declaration → List Declaration → Type 0
IsAmong d [] = ⊥
IsAmong d (e ∷ es) = (e ≡ d) ⊎ IsAmong d es

abbrev pub declared_by : List Function → List Declaration
declared_by [] = []
declared_by (f ∷ fs) = f.params ++ (declared_in_body f.body ++ declared_by fs)

-- all objects that a program declares: globals, parameters, and variables of bodies
abbrev pub declarations : TranslationUnit → List Declaration
declarations p = p.globals ++ declared_by p.funcs

-- declarations of the program
abbrev pub Declares : TranslationUnit → List Declaration → Type 0
Declares p ds = (d : Declaration) → IsAmong d ds → IsAmong d (declarations p)

-- the block of a name: the program declares an object of this number, and the block is as long as its type
pub record NameHasBlock (p : TranslationUnit) (store : Store) (x number : ℕ) : Type 0 where
  pub declaration : Declaration
  pub among : IsAmong declaration (declarations p)
  pub is : declaration.place.offset ≡ x
  pub long : HasBytes store number (size_of p.structs declaration.ctype)

abbrev pub NamesHaveBlocks : TranslationUnit → Store → Scope → Type 0
NamesHaveBlocks p store scope = (x number : ℕ) → find x scope ≡ Some number → NameHasBlock p store x number

-- the array of a string literal, with its last 0
pub record LiteralHasBlock (p : TranslationUnit) (store : Store) (n : ℕ) (l : StringLiteral) : Type 0 where
  pub number : ℕ
  pub is : slice_get (tables_of p).literals n ≡ Some number
  pub long : HasBytes store number (length l.bytes + 1)

abbrev pub LiteralsHaveBlocks : TranslationUnit → Store → Type 0
LiteralsHaveBlocks p store = (n : ℕ) (l : StringLiteral) → slice_get p.texts n ≡ Some l → LiteralHasBlock p store n l

-- ---- states

-- a store and what is in sight there
pub record IsSoundMemory (p : TranslationUnit) (store : Store) (scope : Scope) : Type 0 where
  pub blocks : IsSound store
  pub names : NamesHaveBlocks p store scope
  pub globals : NamesHaveBlocks p store (global_scope p)
  pub literals : LiteralsHaveBlocks p store

-- in a run of a program
pub record IsSoundState (p : TranslationUnit) (s : State) : Type 0 where
  pub now : IsSoundMemory p s.store s.scope
  pub past : (l : Option ℕ) (m : Mark) → mark_of l s.marks ≡ Some m → IsSoundMemory p m.store m.scope

abbrev pub state_of : {A : Type 0} → Outcome A → State
state_of (Normal a s) = s
state_of (Stop e s) = s

-- ---- the laws

-- what is read of a sound store: values of the types, and pointers into blocks that were born
pub record ReadsSoundly (store : Store) : Type 0 where
  pub value : (p : Pointer) (k : CInt) (z : ℤ) → load store p (IntegerType k) ≡ Some (Integer z) → fits k z ≡ true
  pub offset : (p q : Pointer) → load store p PointerType ≡ Some (Points q) → IsPlaced store q

abbrev pub SoundStoresRead : Type 0
SoundStoresRead = (store : Store) → IsSound store → ReadsSoundly store

-- and by that a pointer that is read is at most 2 ^ 32 bytes from the start of its block
abbrev pub IsNear : Pointer → Type 0
IsNear Null = Unit {0}
IsNear (Into n i) = i ≤ 2 ^ 32

abbrev pub PlacedAreNear : Type 0
PlacedAreNear = (store : Store) (p : Pointer) → IsSound store → IsPlaced store p → IsNear p

-- its blocks have as many bytes as their sizes say, and the pieces of its pointers stand together
abbrev pub SoundStoresAreWhole : Type 0
SoundStoresAreWhole = (store : Store) → IsSound store → AreWhole store × AllTogether store

-- a save of a value that points into blocks leaves the store sound
abbrev pub SavesKeepSound : Type 0
SavesKeepSound = (store saved : Store) (p : Pointer) (k : Scalar) (v : Value) → IsSound store → IsPlacedValue store v
    → save store p k v ≡ Some saved → IsSound saved

-- copies of scalars do, whatever they copy
abbrev pub AreScalarSizes : List (ℕ × ℕ) → Type 0
AreScalarSizes [] = Unit {0}
AreScalarSizes (c ∷ cs) = (c.1 ≤ 8) × AreScalarSizes cs

abbrev pub CopiesKeepSound : Type 0
CopiesKeepSound = (store saved : Store) (p q : Pointer) (cs : List (ℕ × ℕ)) → IsSound store → AreScalarSizes cs
    → copy_all store p q cs ≡ Some saved → IsSound saved

abbrev pub DeathsKeepSound : Type 0
DeathsKeepSound = (n : ℕ) (store : Store) → IsSound store → IsSound (kill_from n store)

abbrev pub FreesKeepSound : Type 0
FreesKeepSound = (store after : Store) (p : Pointer) → IsSound store → freed store p ≡ Some after → IsSound after

-- ---- addresses

-- an expression that is no lvalue, though it designates an object (C99 6.5.16 p3, 6.5.17 p2), has no address
abbrev pub is_direct : Expression → Bool
is_direct (Node at t (Comma a b)) = false
is_direct (Node at t (Assign op a b)) = false
is_direct _ = true

-- each address that is taken is of an lvalue, as typing asks (C99 6.5.3.2 p1, 6.3.2.1 p3)
abbrev mutual
  pub AreDirect : Expression → Type 0
  AreDirect (Node at t (NumberNode n k)) = Unit {0}
  AreDirect (Node at t (Letter n)) = Unit {0}
  AreDirect (Node at t (Text n)) = Unit {0}
  AreDirect (Node at t (Variable x)) = Unit {0}
  AreDirect (Node at t (Unary unary.Address a)) = (is_direct a ≡ true) × AreDirect a
  AreDirect (Node at t (Unary unary.Deref a)) = AreDirect a
  AreDirect (Node at t (Unary unary.Not a)) = AreDirect a
  AreDirect (Node at t (Unary unary.Plus a)) = AreDirect a
  AreDirect (Node at t (Unary unary.Minus a)) = AreDirect a
  AreDirect (Node at t (Unary unary.Flip a)) = AreDirect a
  AreDirect (Node at t (Binary op a b)) = AreDirect a × AreDirect b
  AreDirect (Node at t (Both a b)) = AreDirect a × AreDirect b
  AreDirect (Node at t (Either a b)) = AreDirect a × AreDirect b
  AreDirect (Node at t (Choice a b c)) = AreDirect a × AreDirect b × AreDirect c
  AreDirect (Node at t (Assign op a b)) = AreDirect a × AreDirect b
  AreDirect (Node at t (Bump op a)) = AreDirect a
  AreDirect (Node at t (Call f args)) = AllDirect args
  AreDirect (Node at t (Cast to a)) = (is_array (type_of a) ≡ true → is_direct a ≡ true) × AreDirect a
  AreDirect (Node at t (SizeOfType u)) = Unit {0}
  AreDirect (Node at t (SizeOfExpr a)) = Unit {0}
  AreDirect (Node at t (Index a b)) = AreDirect a × AreDirect b
  AreDirect (Node at t (Dot a m)) = AreDirect a
  AreDirect (Node at t (Arrow a m)) = AreDirect a
  AreDirect (Node at t (Comma a b)) = AreDirect a × AreDirect b

  pub AllDirect : Expressions → Type 0
  AllDirect NoExpression = Unit {0}
  AllDirect (Following e es) = AreDirect e × AllDirect es

-- ---- what an evaluation leaves

-- a value that is returned points into blocks
abbrev pub GivesEnd : End → State → Type 0
GivesEnd (Leaves Breaks) t = Unit {0}
GivesEnd (Leaves Continues) t = Unit {0}
GivesEnd (Leaves (Returns None)) t = Unit {0}
GivesEnd (Leaves (Returns (Some v))) t = IsPlacedValue t.store v
GivesEnd (Over e) t = Unit {0}
GivesEnd Stuck t = Unit {0}

abbrev pub Gives : {A : Type 0} → (A → State → Type 0) → Outcome A → Type 0
Gives P (Normal a t) = P a t
Gives P (Stop e t) = GivesEnd e t

-- blocks stay, the state is sound, and what is given has a property there
pub record After {A : Type 0} (p : TranslationUnit) (P : A → State → Type 0) (s : State) (o : Outcome A) : Type 0 where
  pub stay : BlocksStay s.store (state_of o).store
  pub sound : IsSoundState p (state_of o)
  pub gives : Gives P o

-- a value that is null, an integer or points into a block
abbrev pub Placed : Value → State → Type 0
Placed v t = IsPlacedValue t.store v

abbrev pub AllPlaced : List Value → State → Type 0
AllPlaced [] t = Unit {0}
AllPlaced (v ∷ vs) t = Placed v t × AllPlaced vs t

-- so calls do
abbrev pub CallsKeepSound : TranslationUnit → Callee → Type 0
CallsKeepSound p call = (at : Place) (f : Use) (vs : List Value) (s : State) → IsSoundState p s → AllPlaced vs s → After p Placed s (call at f vs s)

-- nothing is asked of what is given
abbrev pub Any : {A : Type 0} → A → State → Type 0
Any a t = Unit {0}

-- ---- programs

abbrev pub BodiesDirect : List Function → Type 0
BodiesDirect [] = Unit {0}
BodiesDirect (f ∷ fs) = WhereAny (EachIn AreDirect) f.body × BodiesDirect fs

-- the addresses of a program are those of lvalues, and its literals are of bytes
pub record IsDirect (p : TranslationUnit) : Type 0 where
  pub globals : EachDeclared AreDirect p.globals
  pub bodies : BodiesDirect p.funcs
  pub octets : (n : ℕ) → AreBytes (text_at (tables_of p).texts n)

-- so it is in each program of an accepted text
abbrev pub ProgramsAreDirect : Type 0
ProgramsAreDirect = (p : TranslationUnit) → IsProgram p → IsDirect p

-- in which each number is that of one declaration, so that the type of a name is known by its number
abbrev pub NumbersAreOne : Type 0
NumbersAreOne = (p : TranslationUnit) → IsProgram p → (d e : Declaration) → IsAmong d (declarations p) → IsAmong e (declarations p)
    → d.place.offset ≡ e.place.offset → d ≡ e

-- a run of it begins in a sound state
abbrev pub StartsAreSound : Type 0
StartsAreSound = (p : TranslationUnit) → IsProgram p → (input : Input) (n : ℕ) → IsSoundState p (start p input n)

-- and with no block on the heap
abbrev pub StartsAreSettled : Type 0
StartsAreSettled = (p : TranslationUnit) (input : Input) (n : ℕ) → AreSettled (start p input n).store

-- each expression leaves a sound state, and what it gives points into blocks
abbrev pub ExpressionsKeepSound : Type 0
ExpressionsKeepSound = (p : TranslationUnit) → IsProgram p → (e : Expression) → AreDirect e
    → (n : ℕ) (s : State) → IsSoundState p s → After p Placed s (eval p n e s)

-- variables of the program are born, and the state stays sound
abbrev pub BirthsKeepSound : Type 0
BirthsKeepSound = (p : TranslationUnit) (ds : List Declaration) → Declares p ds → (s : State) → IsSoundState p s → After p Any s (births p.structs ds s)

-- each statement with declarations of the program leaves a sound state, from which blocks were never gone, and a value that it returns points into blocks
abbrev pub StatementsKeepSound : Type 0
StatementsKeepSound = (p : TranslationUnit) → IsProgram p → (a : Statement) → EachIn AreDirect a → Declares p (declared_within a)
    → (n : ℕ) (s : State) → IsSoundState p s → After p Any s (exec p n a s)

-- and so do the items of a block, however far
abbrev pub ItemsKeepSound : Type 0
ItemsKeepSound = (p : TranslationUnit) → IsProgram p → (items : BlockItems) → EachInItems AreDirect items → Declares p (declared_in_items items)
    → (n : ℕ) (s : State) → IsSoundState p s → After p Any s (items_with (tables_of p) items (call_of p n) n s)

-- so the body of each function of the program does
abbrev pub BodiesKeepSound : Type 0
BodiesKeepSound = (p : TranslationUnit) → IsProgram p → (i : ℕ) (f : Function) → slice_get p.funcs i ≡ Some f
    → (n : ℕ) (s : State) → IsSoundState p s → After p Any s (body_with (tables_of p) f.body (call_of p n) n s)

-- and each call
abbrev pub ProgramCallsKeepSound : Type 0
ProgramCallsKeepSound = (p : TranslationUnit) → IsProgram p → (n : ℕ) → CallsKeepSound p (call_of p n)

-- and so does a whole run
abbrev pub RunsKeepSound : Type 0
RunsKeepSound = (p : TranslationUnit) → IsProgram p → (n : ℕ) (s : State) → IsSoundState p s → After p Any s (whole p n s)

-- so that a run of a program of an accepted text leaves a sound state, on each input and with any number of steps
abbrev pub RunsAreSound : Type 0
RunsAreSound = (p : TranslationUnit) → IsProgram p → (input : Input) (n : ℕ) → IsSoundState p (state_of (whole p (suc n) (start p input n)))
