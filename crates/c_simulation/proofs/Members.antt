-- Members of objects, also behind commas and of structs that were assigned.
use Rattle.std.proofs.Common.{◌≡◌, ℕ, ◌+◌, List, Bool, true, false, if◌then◌else◌, Some, None, refl, sym, ap, ◌∙◌, arith}
use Rattle.c_syntax.specs.Ctypes.{PlainType, Array}
use Rattle.c_syntax.specs.Expressions.{Expression, Node, Assign, Dot, Arrow, Comma, type_of}
use Rattle.c_syntax.specs.Programs.{StructType}
use Rattle.c_model.specs.Memory.{Pointer, Null, Into, shifted}
use Rattle.c_model.specs.Meaning.{is_member, is_array}
use Rattle.c_model.specs.ExpressionTyping.{Sight, is_place, has_object, is_struct}
use Rattle.c_model.specs.TypedTrees.{WellTyped}
use Rattle.c_effects.specs.Full.{is_inner, inner_offset}
use Rattle.c_simulation.specs.EffectLaws.{inner_from}

-- what is assigned to, or whose address is taken, is no comma and no struct that was assigned
pub inner_placed : (e : Expression) → is_place e ≡ true → is_inner e ≡ is_member e
inner_placed (Node at t (Assign op a b)) h = absurd cc
inner_placed (Node at t (Comma a b)) h = absurd cc
inner_placed (Node at t (Dot a m)) h = refl
inner_placed (Node at t (Arrow a m)) h = refl
inner_placed (Node at t _) h = refl

-- nor is an array: none is assigned, and a comma has none
pub inner_array : (sight : Sight) (e : Expression) → has_object e ≡ true → WellTyped sight e → is_array (type_of e) ≡ true → is_inner e ≡ is_member e
inner_array sight (Node at t (Comma a b)) o q e = let no : true ≡ false = sym e ∙ q.3 in absurd cc
inner_array sight (Node at t (Assign None a b)) o q e = absurd (no_both t o e)
  where
    no_both : (t : PlainType) → is_struct t ≡ true → is_array t ≡ true → ⊥
    no_both (Array u n) s a = absurd cc
    no_both _ s a = absurd cc
inner_array sight (Node at t (Assign (Some op) a b)) o q e = absurd cc
inner_array sight (Node at t (Dot a m)) o q e = refl
inner_array sight (Node at t (Arrow a m)) o q e = refl
inner_array sight (Node at t _) o q e = refl

-- what is no member stands at its start
no_offset : (structs : List StructType) (e : Expression) → is_inner e ≡ false → inner_offset structs e ≡ 0
no_offset structs (Node at t (Dot a m)) e = absurd cc
no_offset structs (Node at t (Arrow a m)) e = absurd cc
no_offset structs (Node at t (Assign op a b)) e = no_offset structs a e
no_offset structs (Node at t (Comma a b)) e = no_offset structs b e
no_offset structs (Node at t _) e = refl

pub from_null : (structs : List StructType) (a : Expression) → inner_from structs a Null ≡ Null
from_null structs a = by (is_inner a)
  where
    by : (c : Bool) → (if c then shifted Null (inner_offset structs a) else Null) ≡ Null
    by true = refl
    by false = refl

pub from_into : (structs : List StructType) (a : Expression) (n i : ℕ) → inner_from structs a (Into n i) ≡ Into n (i + inner_offset structs a)
from_into structs a n i = by (is_inner a) refl
  where
    by : (c : Bool) → is_inner a ≡ c → (if c then shifted (Into n i) (inner_offset structs a) else Into n i) ≡ Into n (i + inner_offset structs a)
    by true m = refl
    by false m = let none = no_offset structs a m in let same : i ≡ i + inner_offset structs a = omega (arith, none) in ap (Into n) same

pub from_shifted : (structs : List StructType) (a : Expression) (p : Pointer) → inner_from structs a p ≡ shifted p (inner_offset structs a)
from_shifted structs a Null = from_null structs a
from_shifted structs a (Into n i) = from_into structs a n i
