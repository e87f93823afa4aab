-- The offsets of pointers of annotations lie in their ranges, and so do where the bytes of a zone begin and how many they are.
use Rattle.std.proofs.Common.{◌≡◌, ℕ, ◌+◌, ◌%◌, ◌^◌, ◌≤◌, ℤ, pos, negsuc, neg_ℤ, ◌+ℤ◌, ◌-ℤ◌, ◌*ℤ◌, Bool, true, false, ◌&&◌, if◌then◌else◌, nat_le, nat_eq, Option, Some, None, refl, sym, ap, subst, arith}
use Rattle.std.proofs.lemmas.Bool.{and_parts, leb-true}
use Rattle.std.proofs.lemmas.Int.{ints}
use Rattle.c_syntax.specs.declared.annotation.Range.{Range}
use Rattle.c_syntax.specs.declared.logic.BlockFact.TheVariants.{BaseAddr, BlockLength, Offset}
use Rattle.c_syntax.specs.declared.logic.BlockFact.{BlockFact}
use Rattle.c_syntax.specs.declared.logic.PointerOp.{PointerOp}
use Rattle.c_syntax.specs.declared.logic.PointerOp.TheVariants.{Plus, Minus}
use Rattle.c_model.specs.Memory.{Block, Store, block_at}
use Rattle.c_model.specs.MemoryQuestions.{Address, Part, part, part_in, from_start, address_farther, answered, inside, is_inside}
use Rattle.c_model.specs.Operators.{quotient}
use Rattle.c_model.specs.Ranges.{from_to, LiesIn, sum_range, difference_range}
use Rattle.c_model.specs.Logic.{TermValue, Mathematical, Addressed, mathematical, moved_by, fact, are_together, elements_apart}
use Rattle.c_model.specs.TermRanges.{offset_range, distance_range, scaled_range, then_range, member_range, moved_range, told_range, begin_range, span_range}
use Rattle.ea_num.proofs.Linear.{sums_lie, differences_lie}
use Rattle.ea_num.proofs.Multiplied.{products_lie, quotients_lie}

-- ---- sums and products

one_lies : (n : ℤ) → LiesIn (from_to n n) n
one_lies n = record { above = omega (arith, ints); below = omega (arith, ints) }

-- what a range is made of
record Then (o : Option Range) (f : Range → Option Range) (r : Range) : Type 0 where
  pub first : Range
  pub there : o ≡ Some first
  pub is : f first ≡ Some r

then_parts : (o : Option Range) (f : Range → Option Range) (r : Range) → then_range o f ≡ Some r → Then o f r
then_parts None f r e = absurd cc
then_parts (Some a) f r e = record { first = a; there = refl; is = e }

scaled_lie : (n : ℕ) (a r : Range) (i : ℤ) → scaled_range n a ≡ Some r → LiesIn a i → LiesIn r (pos n *ℤ i)
scaled_lie n a r i e h = products_lie (from_to (pos n) (pos n)) a r (pos n) i e (one_lies (pos n)) h

-- ---- pointers

-- a member's offset
pub members_lie : (d : ℕ) (a r : Range) (x : Address) → member_range d (Some a) ≡ Some r → LiesIn a x.offset → LiesIn r (address_farther x (pos d)).offset
members_lie d a r x e h =
    let sum = sums_lie (from_to (pos d) (pos d)) a r (pos d) x.offset e (one_lies (pos d)) h in
    let same : pos d +ℤ x.offset ≡ x.offset +ℤ pos d = omega (arith, ints) in
    subst (LiesIn r) same sum

-- a pointer so many elements farther, or back
pub moves_lie : (op : PointerOp) (n : ℕ) (a b r : Range) (x : Address) (i : ℤ) → moved_range op n a b ≡ Some r → LiesIn a x.offset → LiesIn b i → LiesIn r (moved_by op n x i).offset
moves_lie Plus n a b r x i e h k =
    let t = then_parts (scaled_range n b) (sum_range a) r e in
    sums_lie a t.first r x.offset (pos n *ℤ i) t.is h (scaled_lie n b t.first i t.there k)
moves_lie Minus n a b r x i e h k =
    let t = then_parts (scaled_range n b) (difference_range a) r e in
    let d = differences_lie a t.first r x.offset (pos n *ℤ i) t.is h (scaled_lie n b t.first i t.there k) in
    let same : x.offset -ℤ (pos n *ℤ i) ≡ x.offset +ℤ neg_ℤ (pos n *ℤ i) = omega (arith, ints) in
    subst (LiesIn r) same d

-- ---- zones

-- where elements begin
pub begins_lie : (n : ℕ) (a lo r : Range) (x : Address) (i : ℤ) → begin_range n a lo ≡ Some r → LiesIn a x.offset → LiesIn lo i → LiesIn r (address_farther x (pos n *ℤ i)).offset
begins_lie n a lo r x i e h k =
    let t = then_parts (scaled_range n lo) (sum_range a) r e in
    sums_lie a t.first r x.offset (pos n *ℤ i) t.is h (scaled_lie n lo t.first i t.there k)

-- how many bytes they are
pub spans_lie : (n : ℕ) (lo hi r : Range) (i j : ℤ) → span_range n lo hi ≡ Some r → LiesIn lo i → LiesIn hi j → LiesIn r (pos n *ℤ (j -ℤ i +ℤ pos 1))
spans_lie n lo hi r i j e h k =
    let t = then_parts (difference_range hi lo) (λ d. then_range (sum_range d (from_to (pos 1) (pos 1))) (scaled_range n)) r e in
    let u = then_parts (sum_range t.first (from_to (pos 1) (pos 1))) (scaled_range n) r t.is in
    let d = differences_lie hi lo t.first j i t.there k h in
    let s = sums_lie t.first (from_to (pos 1) (pos 1)) u.first (j -ℤ i) (pos 1) u.there d (one_lies (pos 1)) in
    scaled_lie n u.first r (j -ℤ i +ℤ pos 1) u.is s

-- ---- what is told of blocks, none of which has more bytes than an offset may be

abbrev pub AreSmall : Store → Type 0
AreSmall store = (n : ℕ) (b : Block) → block_at store n ≡ Some b → b.size ≤ 2 ^ 32

natural_lies : (i : ℕ) → i ≤ 2 ^ 32 → LiesIn offset_range (pos i)
natural_lies i le = record { above = omega (arith, ints); below = omega (arith, ints, le) }

-- a pointer inside a block
record Inside (store : Store) (x : Address) (p : Part) : Type 0 where
  pub offset : x.offset ≡ pos p.from
  pub from : p.from ≤ 2 ^ 32
  pub size : p.block.size ≤ 2 ^ 32

inside_parts : (store : Store) (x : Address) (p : Part) → AreSmall store → inside store x ≡ Some p → Inside store x p
inside_parts store x p small e = by (block_at store x.block) x.offset refl refl e
  where
    by : (o : Option Block) (z : ℤ) → block_at store x.block ≡ o → x.offset ≡ z → part_in o (from_start z) 0 1 ≡ Some p → Inside store x p
    by None z at is e = absurd cc
    by (Some b) (negsuc i) at is e = absurd cc
    by (Some b) (pos i) at is e = test (b.live && (nat_le (i + 0) b.size && nat_eq (i % 1) 0)) refl e
      where
        test : (t : Bool) → (b.live && (nat_le (i + 0) b.size && nat_eq (i % 1) 0)) ≡ t → (if t then Some (part b i) else None) ≡ Some p → Inside store x p
        test false t e = absurd cc
        test true t e =
            let inner = (and_parts b.live (nat_le (i + 0) b.size && nat_eq (i % 1) 0) t).1 in
            let room : i + 0 ≤ b.size = leb-true _ _ (and_parts (nat_le (i + 0) b.size) (nat_eq (i % 1) 0) inner).0 in
            let few = small x.block b at in
            let same : part b i ≡ p = cc in
            subst (Inside store x) same (record { offset = is; from = omega (arith, room, few); size = few })

abbrev pub Within : Range → TermValue → Type 0
Within r (Mathematical z) = LiesIn r z
Within r (Addressed x) = LiesIn r x.offset

pub facts_lie : (store : Store) (f : BlockFact) (x : Address) (p : Part) → AreSmall store → inside store x ≡ Some p → Within (told_range f) (fact f x p)
facts_lie store BaseAddr x p small e = one_lies (pos 0)
facts_lie store BlockLength x p small e = let i = inside_parts store x p small e in natural_lies p.block.size i.size
facts_lie store Offset x p small e = let i = inside_parts store x p small e in natural_lies p.from i.from

inside_lies : (store : Store) (x : Address) → AreSmall store → is_inside store x ≡ true → LiesIn offset_range x.offset
inside_lies store x small e = by (inside store x) refl e
  where
    by : (o : Option Part) → inside store x ≡ o → answered o (λ p. true) ≡ true → LiesIn offset_range x.offset
    by None at e = absurd cc
    by (Some p) at e = let i = inside_parts store x p small at in subst (LiesIn offset_range) (sym i.offset) (natural_lies p.from i.from)

-- the distance of two pointers into one block
pub distances_lie : (store : Store) (n : ℕ) (x y : Address) (z : ℤ) → AreSmall store → elements_apart store n x y ≡ Some (Mathematical z) → LiesIn distance_range z
distances_lie store n x y z small e = by (are_together store x y) refl e
  where
    is_quotient : (o : Option ℤ) → mathematical o ≡ Some (Mathematical z) → o ≡ Some z
    is_quotient None e = absurd cc
    is_quotient (Some v) e = let same : v ≡ z = cc in ap Some same

    by : (t : Bool) → are_together store x y ≡ t → (if t then mathematical (quotient (x.offset -ℤ y.offset) (pos n)) else None) ≡ Some (Mathematical z) → LiesIn distance_range z
    by false t e = absurd cc
    by true t e =
        let both = (and_parts (nat_eq x.block y.block) (is_inside store x && is_inside store y) t).1 in
        let parts = and_parts (is_inside store x) (is_inside store y) both in
        let first = inside_lies store x small parts.0 in
        let second = inside_lies store y small parts.1 in
        let a = first.above in
        let b = first.below in
        let c = second.above in
        let d = second.below in
        let far : LiesIn distance_range (x.offset -ℤ y.offset) = record { above = omega (arith, ints, a, b, c, d); below = omega (arith, ints, a, b, c, d) } in
        quotients_lie distance_range (from_to (pos n) (pos n)) distance_range (x.offset -ℤ y.offset) (pos n) z refl far (one_lies (pos n)) (is_quotient (quotient (x.offset -ℤ y.offset) (pos n)) e)
