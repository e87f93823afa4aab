-- The ranges of the binders of a chain, one after another.
use Rattle.std.proofs.Common.{◌≡◌, ℕ, ℤ, refl, sym, ◌∙◌, ap, subst, cond, nat_eq, Bool, true, false, ◌&&◌, Option, Some, None, List, [], ◌∷◌, map, if◌then◌else◌}
use Rattle.c_syntax.specs.declared.annotation.Range.{Range}
use Rattle.c_syntax.specs.declared.types.CInt.{CInt}
use Rattle.c_syntax.specs.declared.types.CInt.TheVariants.{I8, U8, I16, U16, I32, U32, I64, U64}
use Rattle.c_syntax.specs.Ctypes.{PlainType}
use Rattle.c_syntax.specs.Formulas.{Integers, OfC}
use Rattle.c_syntax.specs.declared.logic.Guard.{Guard}
use Rattle.c_syntax.specs.Logic.{Binder, plain_binder}
use Rattle.c_model.specs.Integers.{integer_type}
use Rattle.c_model.specs.Ranges.{bounded, range_in_bits}
use Rattle.c_model.specs.TermRanges.{Seen, are_bounded, lowered, raised, range_seen, seen_binders, tried_range, type_range}
use Rattle.interval_infer.specs.Seen.{is_guarded, or_seen, seen_guard}
use Rattle.interval_infer.proofs.Ranged.{range_is}

type_bounded : (k : CInt) → bounded (type_range k) ≡ Some (type_range k)
type_bounded I8 = refl
type_bounded U8 = refl
type_bounded I16 = refl
type_bounded U16 = refl
type_bounded I32 = refl
type_bounded U32 = refl
type_bounded I64 = refl
type_bounded U64 = refl

-- by the integer type of C that a binder may have
pub tried_of : (t : PlainType) (l h : ℤ) (o : Option CInt) → integer_type t ≡ o
    → bounded (tried_range (OfC t) l h) ≡ elim o [ None ↦ bounded (tried_range Integers l h) | Some k ↦ Some (type_range k) ]
tried_of t l h None e = ap (λ p. bounded (elim p [ None ↦ tried_range Integers l h | Some k ↦ type_range k ])) e
tried_of t l h (Some k) e = ap (λ p. bounded (elim p [ None ↦ tried_range Integers l h | Some k ↦ type_range k ])) e ∙ type_bounded k

-- a range within 128 bits
record IsBounded (r s : Range) : Type 0 where
  within : range_in_bits 127 r ≡ true
  same : r ≡ s

is_bounded : (r s : Range) → bounded r ≡ Some s → IsBounded r s
is_bounded r s e = by (range_in_bits 127 r) refl
  where
    by : (b : Bool) → range_in_bits 127 r ≡ b → IsBounded r s
    by true is = let f : bounded r ≡ Some r = ap (λ b. if b then Some r else None) is in let g : Some r ≡ Some s = sym f ∙ e in record { within = is; same = cc }
    by false is = let f : bounded r ≡ None = ap (λ b. if b then Some r else None) is in let g : Some s ≡ None = sym e ∙ f in cc

-- those that start from a range within 128 bits
pub bounds_next : (r s : Range) (bs : List Binder) (h : ℤ) → bounded r ≡ Some s → range_in_bits 127 r && are_bounded r.lo bs h ≡ are_bounded s.lo bs h
bounds_next r s bs h e = let i = is_bounded r s e in ap (λ b. b && are_bounded r.lo bs h) i.within ∙ ap (λ x. are_bounded x.lo bs h) i.same

pub within_next : (r s : Range) (bs : List Binder) (h : ℤ) → bounded r ≡ Some s → range_in_bits 127 r && are_bounded r.lo bs h ≡ true → are_bounded s.lo bs h ≡ true
within_next r s bs h e t = sym (bounds_next r s bs h e) ∙ t

-- and no range outside 128 bits is one of them
pub none_within : (r : Range) (b : Bool) → bounded r ≡ None → range_in_bits 127 r && b ≡ false
none_within r b e = by (range_in_bits 127 r) refl
  where
    by : (c : Bool) → range_in_bits 127 r ≡ c → range_in_bits 127 r && b ≡ false
    by true is = let f : bounded r ≡ Some r = ap (λ c. if c then Some r else None) is in let g : Some r ≡ None = sym f ∙ e in cc
    by false is = ap (λ c. c && b) is

-- the range of a name among binders, by that among those after the first one
pub named_next : (n : ℕ) (b : Binder) (bs : List Binder) (l h : ℤ) (r : Range) (inside out : Option Range) → bounded (tried_range b.kind (raised b.above l) h) ≡ Some r
    → ((seen : Seen) → range_seen n (seen_binders r.lo bs h seen) ≡ or_seen inside (range_seen n seen))
    → ((o : Option Range) → or_seen out o ≡ or_seen inside (cond (nat_eq b.place.offset n) (Some r) o))
    → (seen : Seen) → range_seen n (seen_binders l (b ∷ bs) h seen) ≡ or_seen out (range_seen n seen)
named_next n b bs l h r inside out e i f seen =
    let same = (is_bounded (tried_range b.kind (raised b.above l) h) r e).same in
    subst (λ q. range_seen n (seen_binders q.lo bs h ((b.place.offset, q) ∷ seen)) ≡ or_seen out (range_seen n seen)) (sym same)
    (i ((b.place.offset, r) ∷ seen) ∙ sym (f (range_seen n seen)))

-- ---- a chain, by the ranges that its bounds keep

pub guard_is : (g : Guard) → is_guarded g ≡ are_bounded g.lower.range.lo (plain_binder g.first ∷ map plain_binder g.others.items) (lowered g.below g.upper.range.hi)
guard_is g = λ i. are_bounded (range_is g.lower i).lo (plain_binder g.first ∷ map plain_binder g.others.items) (lowered g.below (range_is g.upper i).hi)

pub seen_is : (g : Guard) (seen : Seen)
    → seen_guard g seen ≡ seen_binders g.lower.range.lo (plain_binder g.first ∷ map plain_binder g.others.items) (lowered g.below g.upper.range.hi) seen
seen_is g seen = λ i. seen_binders (range_is g.lower i).lo (plain_binder g.first ∷ map plain_binder g.others.items) (lowered g.below (range_is g.upper i).hi) seen
