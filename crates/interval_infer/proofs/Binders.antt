-- Each value that a binder tries lies in its range, so that what stands behind guards has its names in their ranges.
use Rattle.std.proofs.Common.{◌≡◌, ℕ, zero, suc, ℤ, pos, negsuc, ◌+ℤ◌, ◌≤ℤ◌, int_le, if◌then◌else◌, Bool, true, false, cond, nat_eq, Option, Some, None, [], ◌∷◌, refl, sym, ap, ◌∙◌, subst, arith}
use Rattle.std.specs.Int.{int_min, int_max, int_gap}
use Rattle.std.proofs.lemmas.Int.{ints, clamps}
use Rattle.std.proofs.lemmas.Bool.{and_parts}
use Rattle.c_syntax.specs.declared.annotation.Range.{Range}
use Rattle.c_syntax.specs.declared.types.CInt.{CInt}
use Rattle.c_syntax.specs.declared.logic.Label.{Label}
use Rattle.c_syntax.specs.declared.logic.Quantifier.{Quantifier}
use Rattle.c_syntax.specs.declared.logic.Quantifier.TheVariants.{ForAll, Exists}
use Rattle.c_syntax.specs.Formulas.{CastType, Integers, OfC}
use Rattle.c_syntax.specs.Logic.{NoGuard, Guarded, range_of}
use Rattle.c_model.specs.Integers.{integer_type}
use Rattle.c_model.specs.State.{State}
use Rattle.c_model.specs.Logic.{TermValue, Mathematical, Addressed, Answer, Says, SaysNothing, OutOfSteps, Environment, always, look, meant, at_label}
use Rattle.c_model.specs.Quantifiers.{deciding, tries, first_of, last_of, values, over, between}
use Rattle.c_model.specs.Predicates.{term, guarded}
use Rattle.c_model.specs.Ranges.{from_to, IsWithin128, LiesIn, range_in_bits}
use Rattle.c_model.specs.TermRanges.{Seen, range_seen, type_range, raised, lowered, tried_range, seen_binders, are_bounded}
use Rattle.ea_num.proofs.Bounded.{bounded_some}
use Rattle.interval_infer.specs.Terms.{ValueLies, NamesFit, BindersReach, BindersFit, GuardedReaches, GuardsFit}
use Rattle.interval_infer.proofs.Sound.{some_is}
use Rattle.interval_infer.proofs.Terms.{terms_lie_in_ranges}

-- ---- one binder

-- a value of its range for one name more
pub one_fits : (seen : Seen) (s : State) (e : Environment) (number : ℕ) (r : Range) (v : TermValue) → NamesFit seen s e → ValueLies r v → IsWithin128 r
    → NamesFit ((number, r) ∷ seen) s ((number, always v) ∷ e)
one_fits seen s e number r v ft lie within = record {
  within = λ x q f. by_range x q (nat_eq number x) f;
  lies = λ l u x q w at f g. by l u x q w at (nat_eq number x) f g;
}
  where
    by_range : (x : ℕ) (q : Range) (t : Bool) → cond t (Some r) (range_seen x seen) ≡ Some q → IsWithin128 q
    by_range x q true f = subst IsWithin128 (some_is r q f) within
    by_range x q false f = ft.within x q f

    by : (l : Label) (u : State) (x : ℕ) (q : Range) (w : TermValue) → at_label l s ≡ Some u → (t : Bool) → cond t (Some r) (range_seen x seen) ≡ Some q
        → meant u (cond t (Some (always v)) (look x e)) ≡ Some w → ValueLies q w
    by l u x q w at true f g = subst (λ q. ValueLies q w) (some_is r q f) (subst (ValueLies r) (some_is v w g) lie)
    by l u x q w at false f g = ft.lies l u x q w at f g

raised_up : (above : Bool) (x y : ℤ) → x ≤ℤ y → raised above x ≤ℤ raised above y
raised_up true x y l = omega (arith, ints, l)
raised_up false x y l = l

lowered_up : (below : Bool) (x y : ℤ) → x ≤ℤ y → lowered below x ≤ℤ lowered below y
lowered_up true x y l = omega (arith, ints, l)
lowered_up false x y l = l

max_right : (x y v : ℤ) → int_max x y ≤ℤ v → y ≤ℤ v
max_right x y v l = omega (arith, ints, clamps, l)

min_right : (x y v : ℤ) → v ≤ℤ int_min x y → v ≤ℤ y
min_right x y v l = omega (arith, ints, clamps, l)

pub tried_lies : (kind : CastType) (lr l last hr v : ℤ) → lr ≤ℤ l → last ≤ℤ hr → first_of kind l ≤ℤ v → v ≤ℤ last_of kind last → LiesIn (tried_range kind lr hr) v
tried_lies Integers lr l last hr v low high above below = record { above = omega (arith, ints, low, above); below = omega (arith, ints, clamps, high, below) }
tried_lies (OfC t) lr l last hr v low high above below = by (integer_type t) above below
  where
    by : (o : Option CInt) → elim o [ None ↦ l | Some k ↦ int_max l (type_range k).lo ] ≤ℤ v → v ≤ℤ elim o [ None ↦ last | Some k ↦ int_min last (type_range k).hi ]
        → LiesIn (elim o [ None ↦ from_to lr (int_max lr hr) | Some k ↦ type_range k ]) v
    by None a b = record { above = omega (arith, ints, low, a); below = omega (arith, ints, clamps, high, b) }
    by (Some k) a b = record { above = max_right l (type_range k).lo v a; below = min_right last (type_range k).hi v b }

within_bits : (r : Range) → range_in_bits 127 r ≡ true → IsWithin128 r
within_bits r e = (bounded_some r r (ap (λ t. if t then Some r else None) e)).within

-- ---- the binders of a chain

pub binders_fit : BindersFit
binders_fit seen [] lr l h hr s e d low high small ft is = subst (NamesFit seen s) (sym is) ft
binders_fit seen (b ∷ bs) lr l h hr s e d low high small ft r =
    let range = tried_range b.kind (raised b.above lr) hr in
    let v = r.0 in
    let parts = and_parts (range_in_bits 127 range) (are_bounded range.lo bs hr) small in
    let lie : LiesIn range v = tried_lies b.kind (raised b.above lr) (raised b.above l) h hr v (raised_up b.above lr l low) high r.1 r.2 in
    binders_fit ((b.place.offset, range) ∷ seen) bs range.lo v h hr s ((b.place.offset, always (Mathematical v)) ∷ e) d lie.above high parts.1
    (one_fits seen s e b.place.offset range (Mathematical v) ft lie (within_bits range parts.0)) r.3

-- ---- which values are tried

gap_is : (v h : ℤ) → v ≤ℤ h → v +ℤ pos (int_gap v h) ≡ h
gap_is (pos a) (pos b) l = omega (arith, ints, l)
gap_is (pos a) (negsuc b) l = absurd (omega (arith, ints, l))
gap_is (negsuc a) (pos b) l = omega (arith, ints)
gap_is (negsuc a) (negsuc b) l = omega (arith, ints, l)

gap_none : (v h : ℤ) → h ≤ℤ v → int_gap v h ≡ 0
gap_none (pos a) (pos b) l = omega (arith, ints, l)
gap_none (pos a) (negsuc b) l = refl
gap_none (negsuc a) (pos b) l = omega (arith, ints, l)
gap_none (negsuc a) (negsuc b) l = omega (arith, ints, l)

same_deciding : (q : Quantifier) (a b : Answer) (f g : ℕ → Answer) → a ≡ b → ((n : ℕ) → f n ≡ g n) → deciding q a f ≡ deciding q b g
same_deciding q a b f g e h = ap (λ a. deciding q a f) e ∙ by q b
  where
    by : (q : Quantifier) (b : Answer) → deciding q b f ≡ deciding q b g
    by ForAll (Says true n) = h n
    by ForAll (Says false n) = refl
    by ForAll (SaysNothing n) = refl
    by ForAll OutOfSteps = refl
    by Exists (Says true n) = refl
    by Exists (Says false n) = h n
    by Exists (SaysNothing n) = refl
    by Exists OutOfSteps = refl

same_tries : (q : Quantifier) (k : ℕ) (v : ℤ) (p r : ℤ → ℕ → Answer) (n : ℕ) → ((w : ℤ) (m : ℕ) → v ≤ℤ w → (w +ℤ pos 1) ≤ℤ (v +ℤ pos k) → p w m ≡ r w m) → tries q k v p n ≡ tries q k v r n
same_tries q zero v p r n h = refl
same_tries q (suc k) v p r zero h = refl
same_tries q (suc k) v p r (suc n) h =
    same_deciding q (p v n) (r v n) (tries q k (v +ℤ pos 1) p) (tries q k (v +ℤ pos 1) r) (h v n (omega (arith, ints)) (omega (arith, ints)))
    (λ m. same_tries q k (v +ℤ pos 1) p r m (λ w j a b. h w j (omega (arith, ints, a)) (omega (arith, ints, b))))

-- a value among so many from the first one on isn't above the last
tried_below : (l h w : ℤ) → l ≤ℤ w → (w +ℤ pos 1) ≤ℤ (l +ℤ pos (values l h)) → w ≤ℤ h
tried_below l h w a b = by (int_le l (h +ℤ pos 1)) refl
  where
    by : (t : Bool) → int_le l (h +ℤ pos 1) ≡ t → w ≤ℤ h
    by true e =
        let le : l ≤ℤ (h +ℤ pos 1) = omega (arith, ints, e) in
        let g = gap_is l (h +ℤ pos 1) le in
        omega (arith, ints, g, b)
    by false e =
        let le : (h +ℤ pos 1) ≤ℤ l = omega (arith, ints, e) in
        let g = gap_none l (h +ℤ pos 1) le in
        absurd (omega (arith, ints, g, a, b))

pub binders_reach : BindersReach
binders_reach q l [] h p r e n same = same e n refl
binders_reach q l (b ∷ bs) h p r e n same =
    same_tries q (values (first_of b.kind (raised b.above l)) (last_of b.kind h)) (first_of b.kind (raised b.above l))
    (λ v. over q v bs h p ((b.place.offset, always (Mathematical v)) ∷ e)) (λ v. over q v bs h r ((b.place.offset, always (Mathematical v)) ∷ e)) n
    (λ v m low high. binders_reach q v bs h p r ((b.place.offset, always (Mathematical v)) ∷ e) m
    (λ d j reached. same d j (v, low, tried_below (first_of b.kind (raised b.above l)) (last_of b.kind h) v low high, reached)))

-- ---- guards

same_between : (a b : Option TermValue) (f g : ℤ → ℤ → ℕ → Answer) (n : ℕ) → ((l h : ℤ) → a ≡ Some (Mathematical l) → b ≡ Some (Mathematical h) → f l h n ≡ g l h n) → between a b f n ≡ between a b g n
same_between None b f g n same = refl
same_between (Some (Addressed x)) b f g n same = refl
same_between (Some (Mathematical l)) None f g n same = refl
same_between (Some (Mathematical l)) (Some (Addressed y)) f g n same = refl
same_between (Some (Mathematical l)) (Some (Mathematical h)) f g n same = same l h refl refl

pub guarded_reaches : GuardedReaches
guarded_reaches q NoGuard p r s e n same = same e n refl
guarded_reaches q (Guarded a y ys below b rest) p r s e n same =
    same_between (term a s e) (term b s e) (λ l h. over q l (y ∷ ys) (lowered below h) (guarded q rest p s) e) (λ l h. over q l (y ∷ ys) (lowered below h) (guarded q rest r s) e) n
    (λ l h f g. binders_reach q l (y ∷ ys) (lowered below h) (guarded q rest p s) (guarded q rest r s) e n
    (λ d m reached. guarded_reaches q rest p r s d m (λ c j behind. same c j (l, h, d, f, g, reached, behind))))

pub guards_fit : GuardsFit
guards_fit seen NoGuard p s e d st ft ranged is = record { seen = seen; fits = subst (NamesFit seen s) (sym is) ft; ranged = ranged }
guards_fit seen (Guarded a y ys below b rest) p s e d st ft ranged r =
    let l = r.0 in
    let h = r.1 in
    let first : LiesIn (range_of a) l = terms_lie_in_ranges seen a s e (Mathematical l) st ft ranged.0 r.3 in
    let last : LiesIn (range_of b) h = terms_lie_in_ranges seen b s e (Mathematical h) st ft ranged.1 r.4 in
    guards_fit (seen_binders (range_of a).lo (y ∷ ys) (lowered below (range_of b).hi) seen) rest p s r.2 d st
    (binders_fit seen (y ∷ ys) (range_of a).lo l (lowered below h) (lowered below (range_of b).hi) s e r.2 first.above (lowered_up below h (range_of b).hi last.below) ranged.2 ft r.5) ranged.3 r.6
