-- Each size that a typed expression asks for is within the limit.
use Rattle.std.proofs.Common.{◌≡◌, List, Bool, true, false, ◌&&◌, nat_le, refl, ◌∙◌, ap}
use Rattle.c_syntax.specs.declared.types.CInt.{CInt}
use Rattle.c_syntax.specs.declared.types.CInt.TheVariants.{I8, U8, I16, U16, I32, U32, I64, U64}
use Rattle.c_syntax.specs.Ctypes.{PlainType, Void, Int, Ptr, Array, Struct, Named, StructTag, EnumTag}
use Rattle.c_syntax.specs.Expressions.{Expression, Node}
use Rattle.c_syntax.specs.Programs.{StructType}
use Rattle.c_syntax.specs.Layouts.{int_size, size_of}
use Rattle.c_model.specs.ExpressionTyping.{decayed, has_small_parts, most_bytes}
use Rattle.c_expression_rules.specs.Constants.{has_small_sizes}

and_first : (a b : Bool) → (a && b) ≡ true → a ≡ true
and_first true b e = refl
and_first false b e = absurd cc

pub and_both : (a b : Bool) → a ≡ true → b ≡ true → (a && b) ≡ true
and_both a b e f = ap (λ x. x && b) e ∙ f

small_integer : (k : CInt) → nat_le (int_size k) most_bytes ≡ true
small_integer I8 = refl
small_integer U8 = refl
small_integer I16 = refl
small_integer U16 = refl
small_integer I32 = refl
small_integer U32 = refl
small_integer I64 = refl
small_integer U64 = refl

-- a type with small parts is small
pub small_type : (structs : List StructType) (t : PlainType) → has_small_parts structs t ≡ true → nat_le (size_of structs t) most_bytes ≡ true
small_type structs Void h = refl
small_type structs (Int k) h = small_integer k
small_type structs (Ptr t) h = refl
small_type structs (Array t n) h = and_first _ _ h
small_type structs (Struct n) h = h
small_type structs (Named x) h = refl
small_type structs (StructTag x tag) h = refl
small_type structs (EnumTag x at) h = refl

-- an array that decays asks for no other size
pub small_decayed : (structs : List StructType) (e : Expression) → has_small_sizes structs e ≡ true → has_small_sizes structs (decayed e) ≡ true
small_decayed structs (Node at Void k) h = h
small_decayed structs (Node at (Int i) k) h = h
small_decayed structs (Node at (Ptr t) k) h = h
small_decayed structs (Node at (Array t n) k) h = h
small_decayed structs (Node at (Struct n) k) h = h
small_decayed structs (Node at (Named x) k) h = h
small_decayed structs (Node at (StructTag x tag) k) h = h
small_decayed structs (Node at (EnumTag x place) k) h = h
