-- What is in sight in rows on typing, and how expressions are written there: as they are read, each part at its offset, and as they are typed.
use Rattle.std.specs.Prelude.{ℕ, suc, ◌+◌, ℤ, pos, true, false, List, [], ◌∷◌, map, Option, Some, None, codes}
use Rattle.c_syntax.specs.declared.place.Place.{Place}
use Rattle.c_syntax.specs.declared.types.CInt.{CInt}
use Rattle.c_syntax.specs.declared.types.CInt.TheVariants.{I8, U8, I16, U16, I32, U32, I64, U64}
use Rattle.c_syntax.specs.declared.expression.UnOp.{UnOp}
use Rattle.c_syntax.specs.declared.expression.UnOp.TheVariants.{Not, Deref, Address}
use Rattle.c_syntax.specs.declared.expression.BinOp.{BinOp}
use Rattle.c_syntax.specs.declared.expression.BumpOp.{BumpOp}
use Rattle.c_syntax.specs.Ctypes.{PlainType, Void, Int, Ptr, Array, Struct, Count, int_type}
use Rattle.c_syntax.specs.Expressions.{Expression, Node, ExpressionKind, Number, Letter, Text, Variable, Unary, Binary, Both, Either, Choice, Assign, Bump, Call, Cast}
use Rattle.c_syntax.specs.Expressions.{SizeOfType, SizeOfExpr, Index, Dot, Arrow, Comma, place_of}
use Rattle.c_syntax.specs.Expressions as expression
use Rattle.c_syntax.specs.Programs.{StructMember}
use Rattle.c_model.specs.Checked.{Checked, Good, faulty, one_part}
use Rattle.c_model.specs.ExpressionTyping.{Sight, Entity, AnObject, AnEnumerator, Signature, typed}
use Rattle.worked_rows.proofs.WorkedTrees.{arguments_of}

abbrev pub at : ℕ → Place
at offset = record { line = 1; column = suc offset; offset = offset }

-- a fault by its code and its offset
abbrev pub fault : {A : Type 0} → ℕ → ℕ → Checked A
fault code offset = faulty (record { code = code; place = at offset })

-- ---- types

abbrev pub int : PlainType
int = int_type

abbrev pub char : PlainType
char = Int I8

abbrev pub unsigned : PlainType
unsigned = Int U32

abbrev pub long : PlainType
long = Int I64

abbrev pub unsigned_long : PlainType
unsigned_long = Int U64

-- these structs, of which the last two have no members that are known
abbrev pub struct_s : PlainType
struct_s = Struct 0

abbrev pub struct_other : PlainType
struct_other = Struct 1

abbrev pub struct_u : PlainType
struct_u = Struct 2

abbrev pub struct_e : PlainType
struct_e = Struct 3

-- ---- what is in sight

-- each object has the number of its name and 100 more
abbrev entity : ℕ → PlainType → Entity
entity x t = AnObject (record { name = x; decl = x + 100; ctype = t })

abbrev function : ℕ → Option ℕ → List PlainType → PlainType → Signature
function x definition params result = record {
  name = x;
  decl = elim definition [ None ↦ 0 | Some n ↦ n ];
  defined = elim definition [ None ↦ false | Some n ↦ true ];
  params = params;
  result = result;
}

abbrev member_of : ℕ → ℕ → PlainType → StructMember
member_of x offset t = record { place = at 0; name = x; ctype = t; offset = offset }

--     struct s { int n; char d[3]; struct s *next; };
--     struct other { int n; };
--     struct u;
--     struct e;
--     enum { N = 3, Z = 0 };
--     char c; unsigned char b; short h; unsigned short k; int i; unsigned j; long l; unsigned long m;
--     int *p; long *q; char *z; void *v; int a[4]; int t[2][3];
--     struct s r, *x, o[2]; struct other y; struct u *w; struct e *e;
--     void f(void) { } int g(int o, int *p) { .. } int late(void); int main(void) { .. }
abbrev pub sight : Sight
sight = record {
  names =
      codes "c" ∷ codes "b" ∷ codes "h" ∷ codes "k" ∷ codes "i" ∷ codes "j" ∷ codes "l" ∷ codes "m" ∷ codes "p" ∷ codes "q" ∷
      codes "z" ∷ codes "v" ∷ codes "a" ∷ codes "t" ∷ codes "r" ∷ codes "x" ∷ codes "y" ∷ codes "w" ∷ codes "e" ∷ codes "N" ∷
      codes "Z" ∷ codes "f" ∷ codes "g" ∷ codes "late" ∷ codes "main" ∷ codes "NULL" ∷ codes "EOF" ∷ codes "UINT_MAX" ∷ codes "putchar" ∷ codes "malloc" ∷
      codes "free" ∷ codes "n" ∷ codes "d" ∷ codes "next" ∷ codes "s" ∷ codes "other" ∷ codes "u" ∷ codes "unknown" ∷ codes "new" ∷ codes "o" ∷ [];
  texts = record { place = at 0; bytes = codes "hey" } ∷ record { place = at 4; bytes = codes "hey" } ∷ [];
  functions = function 21 (Some 501) [] Void ∷ function 22 (Some 502) (int ∷ Ptr int ∷ []) int ∷ function 23 None [] int ∷ function 24 (Some 504) [] int ∷ [];
  entities =
      entity 0 char ∷ entity 1 (Int U8) ∷ entity 2 (Int I16) ∷ entity 3 (Int U16) ∷ entity 4 int ∷ entity 5 unsigned ∷ entity 6 long ∷ entity 7 unsigned_long ∷
      entity 8 (Ptr int) ∷ entity 9 (Ptr long) ∷ entity 10 (Ptr char) ∷ entity 11 (Ptr Void) ∷ entity 12 (Array int (Count 4)) ∷
      entity 13 (Array (Array int (Count 3)) (Count 2)) ∷ entity 14 struct_s ∷ entity 15 (Ptr struct_s) ∷ entity 16 struct_other ∷ entity 17 (Ptr struct_u) ∷
      entity 18 (Ptr struct_e) ∷ entity 39 (Array struct_s (Count 2)) ∷ AnEnumerator (record { name = 19; value = pos 3 }) ∷ AnEnumerator (record { name = 20; value = pos 0 }) ∷ [];
  innermost = 0;
  types = [];
  structs =
      record { place = at 0; tag = Some 34; members = member_of 31 0 int ∷ member_of 32 4 (Array char (Count 3)) ∷ member_of 33 8 (Ptr struct_s) ∷ []; size = 16; align = 8 } ∷
      record { place = at 0; tag = Some 35; members = member_of 31 0 int ∷ []; size = 4; align = 4 } ∷
      record { place = at 0; tag = Some 36; members = []; size = 0; align = 1 } ∷
      record { place = at 0; tag = Some 18; members = []; size = 0; align = 1 } ∷ [];
  levels = 2 ∷ 1 ∷ 0 ∷ 0 ∷ [];
  enum_tags = [];
  enums = [];
}

-- ---- expressions as they are read, at their offsets

abbrev pub read : ℕ → ExpressionKind → Expression
read o k = Node (at o) Void k

abbrev pub name : ℕ → ℕ → Expression
name x o = read o (Variable (record { name = x; decl = 0 }))

abbrev pub c : ℕ → Expression
c = name 0

abbrev pub b : ℕ → Expression
b = name 1

abbrev pub h : ℕ → Expression
h = name 2

abbrev pub k : ℕ → Expression
k = name 3

abbrev pub i : ℕ → Expression
i = name 4

abbrev pub j : ℕ → Expression
j = name 5

abbrev pub l : ℕ → Expression
l = name 6

abbrev pub m : ℕ → Expression
m = name 7

abbrev pub p : ℕ → Expression
p = name 8

abbrev pub q : ℕ → Expression
q = name 9

abbrev pub z : ℕ → Expression
z = name 10

abbrev pub v : ℕ → Expression
v = name 11

abbrev pub a : ℕ → Expression
a = name 12

abbrev pub t : ℕ → Expression
t = name 13

abbrev pub r : ℕ → Expression
r = name 14

abbrev pub x : ℕ → Expression
x = name 15

abbrev pub y : ℕ → Expression
y = name 16

abbrev pub w : ℕ → Expression
w = name 17

abbrev pub e : ℕ → Expression
e = name 18

abbrev pub structs : ℕ → Expression
structs = name 39

abbrev pub three : ℕ → Expression
three = name 19

abbrev pub nought : ℕ → Expression
nought = name 20

abbrev pub null : ℕ → Expression
null = name 25

abbrev pub unknown : ℕ → Expression
unknown = name 37

-- the integers in the order of their ranks
abbrev pub integers : List (ℕ → Expression)
integers = c ∷ b ∷ h ∷ k ∷ i ∷ j ∷ l ∷ m ∷ []

abbrev pub number_of : CInt → ℤ → ℕ → Expression
number_of k n o = read o (Number n (Some k))

abbrev pub number : ℕ → ℕ → Expression
number n o = number_of I32 (pos n) o

abbrev pub one : ℕ → Expression
one = number 1

abbrev pub zero : ℕ → Expression
zero = number 0

abbrev pub letter : ℤ → ℕ → Expression
letter n o = read o (Letter n)

abbrev pub text : ℕ → Expression
text o = read o (Text o)

abbrev pub unary : UnOp → ℕ → Expression → Expression
unary op o a = read o (Unary op a)

abbrev pub deref : ℕ → Expression → Expression
deref o a = read o (Unary Deref a)

abbrev pub address : ℕ → Expression → Expression
address o a = read o (Unary Address a)

abbrev pub no : ℕ → Expression → Expression
no o a = read o (Unary Not a)

abbrev pub binary : BinOp → ℕ → Expression → Expression → Expression
binary op o a b = read o (Binary op a b)

abbrev pub both : ℕ → Expression → Expression → Expression
both o a b = read o (Both a b)

abbrev pub either : ℕ → Expression → Expression → Expression
either o a b = read o (Either a b)

abbrev pub choice : ℕ → Expression → Expression → Expression → Expression
choice o a b c = read o (Choice a b c)

abbrev pub comma : ℕ → Expression → Expression → Expression
comma o a b = read o (Comma a b)

abbrev pub assign : ℕ → Expression → Expression → Expression
assign o a b = read o (Assign None a b)

abbrev pub compound : BinOp → ℕ → Expression → Expression → Expression
compound op o a b = read o (Assign (Some op) a b)

abbrev pub bump : BumpOp → ℕ → Expression → Expression
bump op o a = read o (Bump op a)

abbrev pub index : ℕ → Expression → Expression → Expression
index o a b = read o (Index a b)

-- members by the numbers of their names
abbrev pub n : ℕ
n = 31

abbrev pub d : ℕ
d = 32

abbrev pub next : ℕ
next = 33

abbrev pub dot : ℕ → Expression → ℕ → Expression
dot o a m = read o (Dot a m)

abbrev pub arrow : ℕ → Expression → ℕ → Expression
arrow o a m = read o (Arrow a m)

abbrev pub cast : ℕ → PlainType → Expression → Expression
cast o t a = read o (Cast t a)

abbrev pub size_of_type : ℕ → PlainType → Expression
size_of_type o t = read o (SizeOfType t)

abbrev pub size_of : ℕ → Expression → Expression
size_of o a = read o (SizeOfExpr a)

abbrev pub call : ℕ → ℕ → List Expression → Expression
call f o es = read o (Call (record { name = f; decl = 0 }) (arguments_of es))

-- functions by the numbers of their names
abbrev pub f : ℕ
f = 21

abbrev pub g : ℕ
g = 22

abbrev pub late : ℕ
late = 23

-- `f()`, which gives nothing, at its `(`
abbrev pub nothing : ℕ → Expression
nothing o = call f o []

-- ---- expressions as they are typed

abbrev pub object : ℕ → PlainType → ℕ → Expression
object x t o = Node (at o) t (Variable (record { name = x; decl = x + 100 }))

abbrev pub constant : CInt → ℤ → ℕ → Expression
constant k n o = Node (at o) (Int k) (Number n (Some k))

-- a conversion stands around its operand, at its place
abbrev pub converted : PlainType → Expression → Expression
converted t e = Node (place_of e) t (Cast t e)

-- ---- what typing makes of an expression: its type, or its faults

abbrev pub type_of : Expression → Checked PlainType
type_of e = one_part (typed sight e) (λ (x : Expression). Good (expression.type_of x))

-- of `A op B` with each of these operators, in the order of the text at 0, 2 and 4
abbrev pub each : List BinOp → (ℕ → Expression) → (ℕ → Expression) → List (Checked PlainType)
each ops a b = map (λ (op : BinOp). type_of (binary op 2 (a 0) (b 4))) ops

-- of `A op B` with each of these in the place of A
abbrev pub with_each : List (ℕ → Expression) → BinOp → (ℕ → Expression) → List (Checked PlainType)
with_each es op b = map (λ (e : ℕ → Expression). type_of (binary op 2 (e 0) (b 4))) es

abbrev pub every : {A : Type 0} → List A → Checked PlainType → List (Checked PlainType)
every xs r = map (λ x. r) xs

abbrev pub are : List CInt → List (Checked PlainType)
are ks = map (λ (k : CInt). Good (Int k)) ks
