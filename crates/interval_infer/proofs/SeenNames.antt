-- The names in sight have ranges in which there is a number.
use Rattle.std.proofs.Common.{◌≡◌, ℕ, ℤ, refl, ap, cond, nat_eq, Bool, true, false, Option, Some, None, List, [], ◌∷◌, map, arith}
use Rattle.std.specs.Int.{int_max}
use Rattle.std.proofs.lemmas.Int.{ints, clamps}
use Rattle.c_syntax.specs.declared.annotation.Range.{Range}
use Rattle.c_syntax.specs.declared.types.CInt.{CInt}
use Rattle.c_syntax.specs.Ctypes.{PlainType, plain_type}
use Rattle.c_syntax.specs.Formulas.{CastType, Integers, OfC}
use Rattle.c_syntax.specs.Logic.{Binder, Guards, NoGuard, Guarded, range_of, plain_binder, plain_guards, plain_term}
use Rattle.c_model.specs.AnnotationRanges.{seen_result}
use Rattle.c_model.specs.ContractChecks.{result_number}
use Rattle.c_model.specs.Integers.{integer_type}
use Rattle.c_model.specs.Ranges.{IsRange, from_to}
use Rattle.c_model.specs.TermRanges.{Seen, lowered, place_range, raised, range_seen, seen_binders, tried_range, type_range}
use Rattle.interval_infer.specs.Judged.{seen_as}
use Rattle.interval_infer.specs.Laws.{AreSeen}
use Rattle.interval_infer.specs.declared.seen.Seen as code
use Rattle.interval_infer.specs.Seen.{or_seen, plain_seen, seen_guards}
use Rattle.interval_infer.proofs.Sound.{place_of, type_ordered, offsets_ordered}

result_ordered : (t : PlainType) → AreSeen IsRange (seen_result t)
result_ordered t = by (place_range (Some t)) refl
  where
    by : (o : Option Range) → place_range (Some t) ≡ o → AreSeen IsRange (seen_as o)
    by None e = tt
    by (Some r) e = (place_of IsRange (Some t) r type_ordered offsets_ordered e, tt)

tried_ordered : (kind : CastType) (l h : ℤ) → IsRange (tried_range kind l h)
tried_ordered Integers l h = record { ordered = omega (arith, ints, clamps) }
tried_ordered (OfC t) l h = by (integer_type t)
  where
    by : (o : Option CInt) → IsRange (elim o [ None ↦ from_to l (int_max l h) | Some k ↦ type_range k ])
    by None = record { ordered = omega (arith, ints, clamps) }
    by (Some k) = type_ordered k

binders_ordered : (l : ℤ) (bs : List Binder) (h : ℤ) (seen : Seen) → AreSeen IsRange seen → AreSeen IsRange (seen_binders l bs h seen)
binders_ordered l [] h seen are = are
binders_ordered l (b ∷ bs) h seen are =
    let r = tried_range b.kind (raised b.above l) h in
    binders_ordered r.lo bs h ((b.place.offset, r) ∷ seen) (tried_ordered b.kind (raised b.above l) h, are)

guards_ordered : (gs : Guards) (seen : Seen) → AreSeen IsRange seen → AreSeen IsRange (seen_guards gs seen)
guards_ordered NoGuard seen are = are
guards_ordered (Guarded a y ys below b rest) seen are =
    let h = lowered below (range_of b).hi in
    guards_ordered rest (seen_binders (range_of a).lo (y ∷ ys) h seen) (binders_ordered (range_of a).lo (y ∷ ys) h seen are)

pub seen_ordered : (s : code.Seen) → AreSeen IsRange (plain_seen s)
seen_ordered code.Nothing = tt
seen_ordered (code.Returned t) = result_ordered (plain_type t.now)
seen_ordered (code.Behind' g p others) =
    binders_ordered (range_of (plain_term g.now.lower)).lo (plain_binder g.now.first ∷ map plain_binder g.now.others.items) (lowered g.now.below (range_of (plain_term g.now.upper)).hi)
    (plain_seen others) (seen_ordered others)
seen_ordered (code.Within' gs p others) = guards_ordered (plain_guards gs.now) (plain_seen others) (seen_ordered others)

-- ---- a name among those of chains, or outside

pub or_or : (a b c : Option Range) → or_seen (or_seen a b) c ≡ or_seen a (or_seen b c)
or_or None b c = refl
or_or (Some r) b c = refl

-- a binder in front of others
pub before_others : (n x : ℕ) (r : Range) (b : Bool) (o : Option Range) → nat_eq n x ≡ b → cond (nat_eq n x) (Some r) o ≡ or_seen (cond b (Some r) None) o
before_others n x r true o e = ap (λ c. cond c (Some r) o) e
before_others n x r false o e = ap (λ c. cond c (Some r) o) e

-- the range of `\result` is that of its type, and no other name is in sight
pub result_seen : (t : PlainType) (x : ℕ) (b : Bool) → nat_eq result_number x ≡ b → range_seen x (seen_result t) ≡ cond b (place_range (Some t)) None
result_seen t x b e = by b e (place_range (Some t))
  where
    by : (b : Bool) → nat_eq result_number x ≡ b → (o : Option Range) → range_seen x (seen_as o) ≡ cond b o None
    by true e None = refl
    by true e (Some r) = ap (λ c. cond c (Some r) None) e
    by false e None = refl
    by false e (Some r) = ap (λ c. cond c (Some r) None) e
