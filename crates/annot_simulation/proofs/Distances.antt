-- The offsets of two pointers inside one live block: their order, and their distance.
use Rattle.std.proofs.Common.{◌≡◌, ℕ, suc, ◌+◌, ◌%◌, ◌<◌, ◌≤◌, ◌^◌, ℤ, pos, negsuc, ◌-ℤ◌, Bool, true, false, ◌&&◌, if◌then◌else◌, nat_eq, nat_le}
use Rattle.std.proofs.Common.{int_le, int_div, List, [], ◌∷◌, length, length-append, slice_get, slice_set, Option, Some, None, refl, sym, ap, ap₂, ◌∙◌, subst, arith}
use Rattle.std.proofs.lemmas.Bool.{and_parts, and_from, leb-true}
use Rattle.std.proofs.lemmas.Int.{ints}
use Rattle.std.specs.Ordering.{int_eq}
use Rattle.c_syntax.specs.declared.annotation.Range.{Range}
use Rattle.c_syntax.specs.declared.annotation.Relation.{Relation}
use Rattle.c_syntax.specs.declared.annotation.Relation.TheVariants as relation
use Rattle.c_syntax.specs.declared.logic.BlockFact.TheVariants.{BaseAddr, Offset}
use Rattle.c_syntax.specs.declared.types.Width.{Width}
use Rattle.c_model.specs.Integers.{truth}
use Rattle.c_model.specs.Logic.{mathematical, are_together, is_order, relates, relates_addresses, can_compare, related_addresses, elements_apart}
use Rattle.c_model.specs.Memory.{Pointer, Into, Value, Integer, Points, Block, Store, block_at, live_size, is_usable, same_pointer}
use Rattle.c_model.specs.MemoryQuestions.{Address, Part, part, part_in, from_start, answered, inside, is_inside, base_pointer, base_of, offset_in, offset_in_block}
use Rattle.c_model.specs.Operators.{quotient}
use Rattle.mon_syntax.specs.declared.tree.MonOp.TheVariants.{And, Eq, Sub, Div}
use Rattle.mon_syntax.specs.declared.tree.MonType.{MonType}
use Rattle.mon_syntax.specs.declared.tree.MonType.TheVariants.{I32, I64, Ptr}
use Rattle.mon_syntax.specs.Arithmetic.{wrap, operate, least, greatest}
use Rattle.mon_syntax.specs.BlockMemory.{over_blocks, is_some}
use Rattle.mon_syntax.specs.Meaning.{eval}
use Rattle.mon_syntax.specs.Trees.{MonExpression, Register, Constant, Binary, Set, MonStatements, Then}
use Rattle.mon_syntax.proofs.Wrapping.{wrap-fitting}
use Rattle.c_effects.specs.Expressions.{one, in_type}
use Rattle.c_simulation.specs.SameRegisters.{Same}
use Rattle.mem_preds.specs.declared.question.Question.TheVariants as question
use Rattle.mem_preds.specs.Reads.{AreSmall}
use Rattle.annot_simulation.specs.Pieces.{relation_operator, type_of_width}
use Rattle.annot_simulation.specs.Pointers.{PointerCode, asked_there, told_there, offsets_asked, offsets_code, difference_code}
use Rattle.annot_simulation.specs.Does.{Setting, IsSound}
use Rattle.annot_simulation.proofs.Steps.{same_all, same_trans, same_set, get-set_same, HasNumber, constant_has, operation, in_type_has, set_first}
use Rattle.annot_simulation.proofs.Parts.{truths, both_are}
use Rattle.annot_simulation.proofs.Exact.{Fits, wrap_in, value_of}
use Rattle.annot_simulation.proofs.Addresses.{Based}
use Rattle.annot_simulation.proofs.Asked.{ask_first, ask_runs, there_asked, there_told}
use Rattle.annot_simulation.proofs.Compared.{BothPointers, of_both, Asked, AskedOfBoth, asked_of_both_codes, compared_there, compared_truth}

-- ---- a pointer inside a live block

record InsideAt (store : Store) (x : Address) (p : Part) : Type 0 where
  offset : x.offset ≡ pos p.from
  small : p.from ≤ 2 ^ 62
  usable : is_usable store (Into x.block 0) ≡ true

inside_at : (store : Store) (x : Address) (p : Part) → AreSmall store → inside store x ≡ Some p → InsideAt store x p
inside_at store x p small e = by (block_at store x.block) x.offset refl refl e
  where
    by : (o : Option Block) (z : ℤ) → block_at store x.block ≡ o → x.offset ≡ z → part_in o (from_start z) 0 1 ≡ Some p → InsideAt store x p
    by None z at is e = absurd cc
    by (Some b) (negsuc i) at is e = absurd cc
    by (Some b) (pos i) at is e = test (b.live && (nat_le (i + 0) b.size && nat_eq (i % 1) 0)) refl e
      where
        test : (t : Bool) → (b.live && (nat_le (i + 0) b.size && nat_eq (i % 1) 0)) ≡ t → (if t then Some (part b i) else None) ≡ Some p → InsideAt store x p
        test false t e = absurd cc
        test true t e =
            let parts = and_parts b.live (nat_le (i + 0) b.size && nat_eq (i % 1) 0) t in
            let room : i + 0 ≤ b.size = leb-true _ _ (and_parts (nat_le (i + 0) b.size) (nat_eq (i % 1) 0) parts.1).0 in
            let few = small x.block b at in
            let live : live_size (block_at store x.block) ≡ Some b.size = ap live_size at ∙ ap (λ l. if l then Some b.size else None) parts.0 in
            let same : part b i ≡ p = cc in
            subst (InsideAt store x) same (record { offset = is; small = omega (arith, room, few); usable = ap (λ o. elim o [ None ↦ false | Some size ↦ true ]) live })

-- its offset in the block is its own
offset_own : (store : Store) (x : Address) → AreSmall store → is_inside store x ≡ true → pos (offset_in_block store x) ≡ x.offset
offset_own store x small e = by (inside store x) refl e
  where
    by : (o : Option Part) → inside store x ≡ o → answered o (λ p. true) ≡ true → pos (offset_in o) ≡ x.offset
    by None at e = absurd cc
    by (Some p) at e = sym (inside_at store x p small at).offset

offset_small : (store : Store) (x : Address) → AreSmall store → offset_in_block store x ≤ 2 ^ 62
offset_small store x small = by (inside store x) refl
  where
    by : (o : Option Part) → inside store x ≡ o → offset_in o ≤ 2 ^ 62
    by None at = omega arith
    by (Some p) at = (inside_at store x p small at).small

-- the start of its block may be compared, and is that of another one's where both are in one block
base_usable : (store : Store) (x : Address) → AreSmall store → is_usable store (base_of store x) ≡ true
base_usable store x small = by (inside store x) refl
  where
    by : (o : Option Part) → inside store x ≡ o → is_usable store (base_pointer x.block o) ≡ true
    by None at = refl
    by (Some p) at = (inside_at store x p small at).usable

abbrev one_base : Store → Address → Address → Bool
one_base store x y = same_pointer (base_of store x) (base_of store y)

together_is : (store : Store) (x y : Address) → ((is_inside store x && is_inside store y) && one_base store x y) ≡ are_together store x y
together_is store x y = by (inside store x) (inside store y) (nat_eq x.block y.block) refl
  where
    none : (t : Bool) → false ≡ (t && false)
    none true = refl
    none false = refl

    last : (t : Bool) → (t && true) ≡ (t && true)
    last t = refl

    by : (o p : Option Part) (t : Bool) → nat_eq x.block y.block ≡ t
        → ((answered o (λ p. true) && answered p (λ p. true)) && same_pointer (base_pointer x.block o) (base_pointer y.block p)) ≡ (nat_eq x.block y.block && (answered o (λ p. true) && answered p (λ p. true)))
    by None p t e = none (nat_eq x.block y.block)
    by (Some q) None t e = none (nat_eq x.block y.block)
    by (Some q) (Some p) t e = last (nat_eq x.block y.block)

module _ (w : Setting) (same_store : w.target.mem.store ≡ w.now.store) (sound : IsSound w.now.store) where
  -- what stands in the last two registers
  record Offsets (r : ℕ) (x y : Address) (regs : List Value) : Type 0 where
    first : slice_get regs (suc (suc (suc (suc r)))) ≡ Some (Integer (pos (offset_in_block w.now.store x)))
    second : slice_get regs (suc (suc (suc (suc (suc r))))) ≡ Some (Integer (pos (offset_in_block w.now.store y)))

  -- two starts of blocks are compared
  equal_has : (a b : MonExpression) (p q : Pointer) (regs : List Value) → is_usable w.now.store p ≡ true → is_usable w.now.store q ≡ true
      → eval over_blocks w.globals a regs w.target.mem ≡ Some (Points p) → eval over_blocks w.globals b regs w.target.mem ≡ Some (Points q) → HasNumber w (Binary Eq Ptr a b) regs (truth (same_pointer p q))
  equal_has a b p q regs up uq ha hb = rw (ha, hb, same_store, up, uq) refl

  module _ (c d : PointerCode) (x y : Address) (a b : Range) (r : ℕ) (regs : List Value) (room : suc (suc (suc (suc (suc r)))) < length regs)
      (h : (later : List Value) → Same r regs later → Based w c.base c.offset x a later × Based w d.base d.offset y b later) where
    abbrev r1 : ℕ
    r1 = suc r

    abbrev r2 : ℕ
    r2 = suc (suc r)

    abbrev r3 : ℕ
    r3 = suc (suc (suc r))

    abbrev r4 : ℕ
    r4 = suc (suc (suc (suc r)))

    abbrev r5 : ℕ
    r5 = suc (suc (suc (suc (suc r))))

    abbrev s : Bool
    s = is_inside w.now.store x

    abbrev t : Bool
    t = is_inside w.now.store y

    abbrev u : Bool
    u = one_base w.now.store x y

    abbrev all : Bool
    all = (s && t) && u

    abbrev test : MonExpression
    test = Binary And I32 (Binary And I32 (Register r) (Register r1)) (Binary Eq Ptr (Register r2) (Register r3))

    -- the registers after each step
    abbrev g0 : List Value
    g0 = slice_set regs r (Integer (truth s))

    abbrev g1 : List Value
    g1 = slice_set g0 r1 (Integer (truth t))

    abbrev g2 : List Value
    g2 = slice_set g1 r2 (Points (base_of w.now.store x))

    abbrev g3 : List Value
    g3 = slice_set g2 r3 (Points (base_of w.now.store y))

    abbrev g4 : List Value
    g4 = slice_set g3 r (Integer (truth all))

    abbrev g5 : List Value
    g5 = slice_set g4 r4 (Integer (pos (offset_in_block w.now.store x)))

    abbrev g6 : List Value
    g6 = slice_set g5 r5 (Integer (pos (offset_in_block w.now.store y)))

    s0 : Same r regs g0
    s0 = same_set r r regs (Integer (truth s)) (omega arith)

    s1 : Same r1 g0 g1
    s1 = same_set r1 r1 g0 (Integer (truth t)) (omega arith)

    s2 : Same r2 g1 g2
    s2 = same_set r2 r2 g1 (Points (base_of w.now.store x)) (omega arith)

    s3 : Same r3 g2 g3
    s3 = same_set r3 r3 g2 (Points (base_of w.now.store y)) (omega arith)

    s4 : Same r g3 g4
    s4 = same_set r r g3 (Integer (truth all)) (omega arith)

    s5 : Same r4 g4 g5
    s5 = same_set r4 r4 g4 (Integer (pos (offset_in_block w.now.store x))) (omega arith)

    s6 : Same r5 g5 g6
    s6 = same_set r5 r5 g5 (Integer (pos (offset_in_block w.now.store y))) (omega arith)

    n1 : Same r regs g1
    n1 = same_trans r r1 regs g0 g1 (omega arith) s0 s1

    n2 : Same r regs g2
    n2 = same_trans r r2 regs g1 g2 (omega arith) n1 s2

    n3 : Same r regs g3
    n3 = same_trans r r3 regs g2 g3 (omega arith) n2 s3

    n4 : Same r regs g4
    n4 = same_trans r r regs g3 g4 (omega arith) n3 s4

    n5 : Same r regs g5
    n5 = same_trans r r4 regs g4 g5 (omega arith) n4 s5

    n6 : Same r regs g6
    n6 = same_trans r r5 regs g5 g6 (omega arith) n5 s6

    test_has : HasNumber w test g3 (truth all)
    test_has =
        operation w And I32 (Binary And I32 (Register r) (Register r1)) (Binary Eq Ptr (Register r2) (Register r3)) g3 (truth (s && t)) (truth u) (truth all) refl
        (operation w And I32 (Register r) (Register r1) g3 (truth s) (truth t) (truth (s && t)) refl
        (s3.below r (omega arith) ∙ s2.below r (omega arith) ∙ s1.below r (omega arith) ∙ get-set_same regs r (Integer (truth s)) (omega (arith, room)))
        (s3.below r1 (omega arith) ∙ s2.below r1 (omega arith) ∙ get-set_same g0 r1 (Integer (truth t)) (omega (arith, room, s0.long)))
        (both_are s t))
        (equal_has (Register r2) (Register r3) (base_of w.now.store x) (base_of w.now.store y) g3 (base_usable w.now.store x sound.small) (base_usable w.now.store y sound.small)
        (s3.below r2 (omega arith) ∙ get-set_same g1 r2 (Points (base_of w.now.store x)) (omega (arith, room, n1.long)))
        (get-set_same g2 r3 (Points (base_of w.now.store y)) (omega (arith, room, n2.long))))
        (both_are (s && t) u)

    offsets_ask : Asked w (offsets_asked c d r) r (are_together w.now.store x y) (Offsets r x y) regs
    offsets_ask = record {
      end = g6;
      same = n6;
      is =
          ask_first w (asked_there question.Inside Ptr c r) (Then (asked_there question.Inside Ptr d r1) (Then (told_there BaseAddr c r2) (Then (told_there BaseAddr d r3) after_bases))) regs g0
          (there_asked w same_store question.Inside Ptr c r x a regs (h regs (same_all r regs)).0)
          ∙ ask_first w (asked_there question.Inside Ptr d r1) (Then (told_there BaseAddr c r2) (Then (told_there BaseAddr d r3) after_bases)) g0 g1 (there_asked w same_store question.Inside Ptr d r1 y b g0 (h g0 s0).1)
          ∙ ask_first w (told_there BaseAddr c r2) (Then (told_there BaseAddr d r3) after_bases) g1 g2 (there_told w same_store BaseAddr c r2 x a g1 (h g1 n1).0)
          ∙ ask_first w (told_there BaseAddr d r3) after_bases g2 g3 (there_told w same_store BaseAddr d r3 y b g2 (h g2 n2).1)
          ∙ set_first w r test (Then (told_there Offset c r4) (one (told_there Offset d r5))) g3 (truth all) test_has
          ∙ ask_first w (told_there Offset c r4) (one (told_there Offset d r5)) g4 g5 (there_told w same_store Offset c r4 x a g4 (h g4 n4).0)
          ∙ ask_runs w (told_there Offset d r5) g5 g6 (there_told w same_store Offset d r5 y b g5 (h g5 n5).1);
      flag_is =
          s6.below r (omega arith) ∙ s5.below r (omega arith) ∙ get-set_same g3 r (Integer (truth all)) (omega (arith, room, n3.long))
          ∙ ap (λ t. Some (Integer (truth t))) (together_is w.now.store x y);
      holds = record {
        first = s6.below r4 (omega arith) ∙ get-set_same g4 r4 (Integer (pos (offset_in_block w.now.store x))) (omega (arith, room, n4.long));
        second = get-set_same g5 r5 (Integer (pos (offset_in_block w.now.store y))) (omega (arith, room, n5.long));
      };
    }
      where
        after_bases : MonStatements
        after_bases = Then (Set r test) (Then (told_there Offset c r4) (one (told_there Offset d r5)))

  -- ---- what is made of them

  module _ (e : MonExpression → MonExpression → MonExpression) (c d : PointerCode) (o p : Option Address) (a b : Range) (rs : List MonType) (regs : List Value) (le : length rs ≤ length d.used)
      (room : length (offsets_code e c d).used ≤ length regs) (h : BothPointers w c d o p a b rs regs) where
    abbrev at : ℕ
    at = length d.used

    long : length (offsets_code e c d).used ≡ suc (suc (suc (suc (suc (suc at)))))
    long = omega (arith, length-append d.used (I32 ∷ I32 ∷ Ptr ∷ Ptr ∷ I64 ∷ I64 ∷ []))

    pub offsets_codes : (f : Address → Address → Option ℤ) → ((x y : Address) → is_some (f x y) ≡ are_together w.now.store x y)
        → ((x y : Address) → o ≡ Some x → p ≡ Some y → (m n : MonExpression) (later : List Value) (z : ℤ) → f x y ≡ Some z → HasNumber w m later (pos (offset_in_block w.now.store x))
        → HasNumber w n later (pos (offset_in_block w.now.store y)) → HasNumber w (e m n) later z)
        → AskedOfBoth w (offsets_code e c d) d.used (of_both w o p f) rs regs h.end
    offsets_codes f there makes =
        asked_of_both_codes w c d o p a b rs regs le h (offsets_asked c d at) (offsets_code e c d).value (offsets_code e c d).used f (Offsets at) (omega (arith, long)) room
        (λ x y q1 q2 based. subst (λ t. Asked w (offsets_asked c d at) at t (Offsets at x y) h.end) (sym (there x y)) (offsets_ask c d x y a b at h.end (omega (arith, long, room, h.same.long)) based))
        (λ x y q1 q2 end later g s z q.
        makes x y q1 q2 (Register (suc (suc (suc (suc at))))) (Register (suc (suc (suc (suc (suc at)))))) later z q
        (s.below (suc (suc (suc (suc at)))) (omega (arith, long)) ∙ g.first) (s.below (suc (suc (suc (suc (suc at))))) (omega (arith, long)) ∙ g.second))

  ordered : (r : Relation) (x y : ℤ) → is_order r ≡ true → operate (relation_operator r) I64 x y ≡ Some (truth (relates r x y))
  ordered relation.Eq x y e = absurd cc
  ordered relation.Ne x y e = absurd cc
  ordered relation.Lt x y e = refl
  ordered relation.Le x y e = refl
  ordered relation.Gt x y e = refl
  ordered relation.Ge x y e = refl

  by_offsets : (r : Relation) (x y : Address) → is_order r ≡ true → relates_addresses r x y ≡ relates r x.offset y.offset
  by_offsets relation.Eq x y e = absurd cc
  by_offsets relation.Ne x y e = absurd cc
  by_offsets relation.Lt x y e = refl
  by_offsets relation.Le x y e = refl
  by_offsets relation.Gt x y e = refl
  by_offsets relation.Ge x y e = refl

  together_parts : (x y : Address) → are_together w.now.store x y ≡ true → (is_inside w.now.store x ≡ true) × (is_inside w.now.store y ≡ true)
  together_parts x y e = and_parts (is_inside w.now.store x) (is_inside w.now.store y) (and_parts (nat_eq x.block y.block) (is_inside w.now.store x && is_inside w.now.store y) e).1

  from_there : (u : Bool) (v : Option ℤ) (z : ℤ) → (if u then v else None) ≡ Some z → (u ≡ true) × (v ≡ Some z)
  from_there true v z e = (refl, e)
  from_there false v z e = absurd cc

  -- an order of two pointers
  pub order_codes : (r : Relation) → is_order r ≡ true → (c d : PointerCode) (o p : Option Address) (a b : Range) (rs : List MonType) (regs : List Value) → length rs ≤ length d.used
      → length (offsets_code (Binary (relation_operator r) I64) c d).used ≤ length regs → (h : BothPointers w c d o p a b rs regs)
      → AskedOfBoth w (offsets_code (Binary (relation_operator r) I64) c d) d.used (of_both w o p (λ x y. truths (related_addresses w.now.store r x y))) rs regs h.end
  order_codes r is c d o p a b rs regs le room h =
      offsets_codes (Binary (relation_operator r) I64) c d o p a b rs regs le room h (λ x y. truths (related_addresses w.now.store r x y))
      (λ x y. compared_there (can_compare w.now.store r x y) (relates_addresses r x y) ∙ can x y)
      (λ x y q1 q2 m n later z q hm hn.
      let tests = together_parts x y (sym (can x y) ∙ is_true (can_compare w.now.store r x y) (relates_addresses r x y) z q) in
      operation w (relation_operator r) I64 m n later (pos (offset_in_block w.now.store x)) (pos (offset_in_block w.now.store y)) z refl hm hn
      (ordered r (pos (offset_in_block w.now.store x)) (pos (offset_in_block w.now.store y)) is
      ∙ (λ i. Some (truth (relates r (offset_own w.now.store x sound.small tests.0 i) (offset_own w.now.store y sound.small tests.1 i))))
      ∙ ap (λ t. Some (truth t)) (sym (by_offsets r x y is))
      ∙ ap Some (compared_truth (can_compare w.now.store r x y) (relates_addresses r x y) z q)))
    where
      can : (x y : Address) → can_compare w.now.store r x y ≡ are_together w.now.store x y
      can x y = by is
        where
          by : is_order r ≡ true → can_compare w.now.store r x y ≡ are_together w.now.store x y
          by e = rw e refl

      is_true : (t v : Bool) (z : ℤ) → truths (if t then Some v else None) ≡ Some z → t ≡ true
      is_true true v z e = refl
      is_true false v z e = absurd cc

  -- ---- their distance

  quotient_there : (x : ℤ) (n : ℕ) → 1 ≤ n → is_some (quotient x (pos n)) ≡ true
  quotient_there x n le = by (int_eq (pos n) (pos 0)) refl
    where
      by : (t : Bool) → int_eq (pos n) (pos 0) ≡ t → is_some (if t then None else Some (int_div x (pos n))) ≡ true
      by true e = grind (arith, ints, e, le)
      by false e = refl

  numbers : (v : Option ℤ) → value_of (mathematical v) ≡ v
  numbers None = refl
  numbers (Some z) = refl

  apart_is : (n : ℕ) (x y : Address) → value_of (elements_apart w.now.store n x y) ≡ (if are_together w.now.store x y then quotient (x.offset -ℤ y.offset) (pos n) else None)
  apart_is n x y = by (are_together w.now.store x y)
    where
      by : (t : Bool) → value_of (if t then mathematical (quotient (x.offset -ℤ y.offset) (pos n)) else None) ≡ (if t then quotient (x.offset -ℤ y.offset) (pos n) else None)
      by true = numbers (quotient (x.offset -ℤ y.offset) (pos n))
      by false = refl

  apart_there : (n : ℕ) (x y : Address) → 1 ≤ n → is_some (value_of (elements_apart w.now.store n x y)) ≡ are_together w.now.store x y
  apart_there n x y le = ap is_some (apart_is n x y) ∙ by (are_together w.now.store x y)
    where
      by : (t : Bool) → is_some (if t then quotient (x.offset -ℤ y.offset) (pos n) else None) ≡ t
      by true = quotient_there (x.offset -ℤ y.offset) n le
      by false = refl

  in_64_bits : (i j : ℕ) → i ≤ 2 ^ 62 → j ≤ 2 ^ 62 → wrap I64 (pos i -ℤ pos j) ≡ pos i -ℤ pos j
  in_64_bits i j li lj =
      let low : int_le (least I64) (pos i -ℤ pos j) ≡ true = grind (arith, ints, li, lj) in
      let high : int_le (pos i -ℤ pos j) (greatest I64) ≡ true = grind (arith, ints, li, lj) in
      wrap-fitting I64 (pos i -ℤ pos j) (and_from (int_le (least I64) (pos i -ℤ pos j)) (int_le (pos i -ℤ pos j) (greatest I64)) low high)

  divides : (t : Bool) (q z : ℤ) → (if t then None else Some q) ≡ Some z → wrap I64 z ≡ z → (if t then None else Some (wrap I64 q)) ≡ Some z
  divides true q z e f = absurd cc
  divides false q z e f = let same : q ≡ z = cc in ap (λ q. Some (wrap I64 q)) same ∙ ap Some f

  pub difference_codes : (width : Width) (n : ℕ) → 1 ≤ n → (c d : PointerCode) (o p : Option Address) (a b : Range) (rs : List MonType) (regs : List Value) → length rs ≤ length d.used
      → length (difference_code (type_of_width width) n c d).used ≤ length regs → (h : BothPointers w c d o p a b rs regs)
      → ((z : ℤ) → of_both w o p (λ x y. value_of (elements_apart w.now.store n x y)) ≡ Some z → (wrap I64 z ≡ z) × Fits width z)
      → AskedOfBoth w (difference_code (type_of_width width) n c d) d.used (of_both w o p (λ x y. value_of (elements_apart w.now.store n x y))) rs regs h.end
  difference_codes width n some c d o p a b rs regs le room h fit =
      offsets_codes (λ x y. in_type I64 (type_of_width width) (quotient_of x y)) c d o p a b rs regs le room h (λ x y. value_of (elements_apart w.now.store n x y)) (λ x y. apart_there n x y some)
      (λ x y q1 q2 k l later z q hk hl.
      let f = fit z ((λ i. of_both w (q1 i) (q2 i) (λ x y. value_of (elements_apart w.now.store n x y))) ∙ q) in
      let parts = from_there (are_together w.now.store x y) (quotient (x.offset -ℤ y.offset) (pos n)) z (sym (apart_is n x y) ∙ q) in
      let tests = together_parts x y parts.0 in
      let i = offset_in_block w.now.store x in
      let j = offset_in_block w.now.store y in
      let own : pos i -ℤ pos j ≡ x.offset -ℤ y.offset = ap₂ (λ u v. u -ℤ v) (offset_own w.now.store x sound.small tests.0) (offset_own w.now.store y sound.small tests.1) in
      let minus : HasNumber w (Binary Sub I64 k l) later (x.offset -ℤ y.offset) =
      operation w Sub I64 k l later (pos i) (pos j) (x.offset -ℤ y.offset) refl hk hl
      (ap Some (in_64_bits i j (offset_small w.now.store x sound.small) (offset_small w.now.store y sound.small) ∙ own)) in
      in_type_has w I64 (type_of_width width) (quotient_of k l) later z (wrap_in width z f.1)
      (operation w Div I64 (Binary Sub I64 k l) (Constant I64 (pos n)) later (x.offset -ℤ y.offset) (pos n) z refl minus (constant_has w I64 (pos n) later refl)
      (divides (int_eq (pos n) (pos 0)) (int_div (x.offset -ℤ y.offset) (pos n)) z parts.1 f.0)))
    where
      quotient_of : MonExpression → MonExpression → MonExpression
      quotient_of x y = Binary Div I64 (Binary Sub I64 x y) (Constant I64 (pos n))
