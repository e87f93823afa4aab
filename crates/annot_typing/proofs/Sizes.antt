-- Sizes of types that pass no limit.
use Rattle.std.proofs.Common.{◌≡◌, ℕ, refl, ap, Bool, true, false, Some, None, cond, nat_le}
use Rattle.c_syntax.specs.declared.place.Place.{Place}
use Rattle.c_syntax.specs.declared.types.CInt.TheVariants.{I8, U8, I16, U16, I32, U32, I64, U64}
use Rattle.c_syntax.specs.Programs.{StructType}
use Rattle.c_syntax.specs.Ctypes.{PlainType, Void, Int, Ptr, Array, Struct, Named, StructTag, EnumTag}
use Rattle.c_syntax.specs.Layouts.{size_of}
use Rattle.std.specs.Prelude.{List}
use Rattle.c_model.specs.Checked.{Fault, Checked, Good, Bad, both_parts, where_so}
use Rattle.c_model.specs.ExpressionTyping.{Sight, too_large, most_bytes, has_small_parts, is_within_limits, levels_of, most_levels}
use Rattle.c_model.proofs.TypedParts.{and_true}
use Rattle.c_scopes.specs.Limits.{small}
use Rattle.c_expression_rules.specs.Operators.{has_size}
use Rattle.annot_typing.specs.Limits.{has_small_size}

small_is : (n : ℕ) → nat_le n most_bytes ≡ true → small n ≡ Some n
small_is n e = ap (λ b. cond b (Some n) None) e

parts_small : (structs : List StructType) (t : PlainType) → has_small_parts structs t ≡ true → small (size_of structs t) ≡ Some (size_of structs t)
parts_small structs (Int I8) e = refl
parts_small structs (Int U8) e = refl
parts_small structs (Int I16) e = refl
parts_small structs (Int U16) e = refl
parts_small structs (Int I32) e = refl
parts_small structs (Int U32) e = refl
parts_small structs (Int I64) e = refl
parts_small structs (Int U64) e = refl
parts_small structs (Ptr t) e = refl
parts_small structs (Array t n) e = small_is (size_of structs (Array t n)) (and_true (nat_le (size_of structs (Array t n)) most_bytes) (has_small_parts structs t) e).0
parts_small structs (Struct n) e = small_is (size_of structs (Struct n)) e
parts_small structs Void e = refl
parts_small structs (Named x) e = refl
parts_small structs (StructTag x tag) e = refl
parts_small structs (EnumTag x at) e = refl

-- the size of a type that passes no limit
small_within : (s : Sight) (t : PlainType) → is_within_limits s t ≡ true → small (size_of s.structs t) ≡ Some (size_of s.structs t)
small_within s t e = parts_small s.structs t (and_true (nat_le (levels_of s.levels t) most_levels) (has_small_parts s.structs t) e).1

within_known : (m : Checked (Unit {0})) (b : Bool) (f : Fault) → ◌≡◌ {A = Checked (Unit {0})} (both_parts m (where_so b f (Good tt)) (λ (u : Unit {0}) (v : Unit {0}). Good tt)) (Good tt) → b ≡ true
within_known (Good u) true f e = refl
within_known (Good u) false f e = absurd cc
within_known (Bad g gs) true f e = absurd cc
within_known (Bad g gs) false f e = absurd cc

-- such a type isn't too large
pub none_too_large : (s : Sight) (at : Place) (t : PlainType) → has_small_size s at t ≡ Good tt → small (size_of s.structs t) ≡ None → ⊥
none_too_large s at t h e =
    let is : small (size_of s.structs t) ≡ Some (size_of s.structs t) = small_within s t (within_known (has_size s at t) (is_within_limits s t) (too_large at) h) in
    absurd cc
