-- The code of pointers and places: a base and an offset are an address, and the offset lies in its range.
use Rattle.std.proofs.Common.{◌≡◌, ℕ, ◌≤◌, ℤ, pos, ◌+ℤ◌, ◌-ℤ◌, ◌*ℤ◌, neg_ℤ, ◌&&◌, List, [], length, Option, Some, None, option_map, refl, sym, ap, ◌∙◌, subst, arith}
use Rattle.std.proofs.lemmas.Int.{ints}
use Rattle.c_syntax.specs.declared.annotation.Range.{Range}
use Rattle.c_syntax.specs.declared.logic.PointerOp.{PointerOp}
use Rattle.c_syntax.specs.declared.logic.PointerOp.TheVariants.{Plus, Minus}
use Rattle.c_syntax.specs.declared.types.Width.TheVariants.{W128}
use Rattle.c_model.specs.Logic.{TermValue, Mathematical, Addressed, as_address, moved, moved_by}
use Rattle.c_model.specs.Memory.{Pointer, Null, Value, Points}
use Rattle.c_model.specs.MemoryQuestions.{Address, address_of, null_address, address_farther}
use Rattle.c_model.specs.Ranges.{from_to, hull_of_four, LiesIn, IsWithin128, width_of_range, sum_range, difference_range}
use Rattle.c_model.specs.TermRanges.{start_range, member_range, moved_range, scaled_range, then_range}
use Rattle.ea_num.proofs.Bounded.{bounded_some}
use Rattle.ea_num.proofs.Converted.{widths_fit}
use Rattle.ea_num.proofs.Offsets.{members_lie, moves_lie}
use Rattle.ea_num.proofs.Multiplied.{products_lie}
use Rattle.mon_syntax.specs.declared.tree.MonOp.TheVariants.{Add, Sub, Mul}
use Rattle.mon_syntax.specs.declared.tree.MonType.{MonType}
use Rattle.mon_syntax.specs.declared.tree.MonType.TheVariants.{I128}
use Rattle.mon_syntax.specs.Arithmetic.{wrap}
use Rattle.mon_syntax.specs.BlockMemory.{over_blocks, is_some}
use Rattle.mon_syntax.specs.Meaning.{Done, Next, eval}
use Rattle.mon_syntax.specs.Trees.{MonExpression, Constant, Binary}
use Rattle.c_effects.specs.Expressions.{in_type}
use Rattle.annot_simulation.specs.Pieces.{Code, conjunction}
use Rattle.annot_simulation.specs.Pointers.{PointerCode, no_offset, start_pointer, null, member_code, moved_code, move_operator}
use Rattle.annot_simulation.specs.Does.{Setting, runs}
use Rattle.c_simulation.specs.SameRegisters.{Same}
use Rattle.mem_preds.specs.Reads.{IsSmall}
use Rattle.annot_simulation.proofs.Steps.{same_all, same_trans, after_runs, HasNumber, constant_has, operation, in_type_has}
use Rattle.annot_simulation.proofs.Parts.{after, FlagIs, Codes, flag_both}
use Rattle.annot_simulation.proofs.Exact.{wrap_in, fits_right, value_of}

-- ---- addresses

pub farther_none : (x : Address) → address_farther x (pos 0) ≡ x
farther_none x = let z : x.offset +ℤ pos 0 ≡ x.offset = omega (arith, ints) in ap (λ o. record { block = x.block; offset = o }) z

pub farther_twice : (x : Address) (d i : ℤ) → address_farther x (d +ℤ i) ≡ address_farther (address_farther x d) i
farther_twice x d i = let z : x.offset +ℤ (d +ℤ i) ≡ (x.offset +ℤ d) +ℤ i = omega (arith, ints) in ap (λ o. record { block = x.block; offset = o }) z

-- an offset as an address
abbrev pub alone : ℤ → Address
alone d = record { block = 0; offset = d }

pub in_128_bits : (r : Range) (z : ℤ) → IsWithin128 r → LiesIn r z → wrap I128 z ≡ z
in_128_bits r z within lies = wrap_in W128 z (fits_right W128 (width_of_range r) z (widths_fit r z within lies))

-- ---- what code of a pointer is

module _ (w : Setting) where
  abbrev pub HasPointerTo : MonExpression → List Value → Pointer → Type 0
  HasPointerTo e regs p = eval over_blocks w.globals e regs w.target.mem ≡ Some (Points p)

  -- a base and an offset from it are an address, and the offset lies in a range
  pub record Based (base offset : MonExpression) (x : Address) (r : Range) (regs : List Value) : Type 0 where
    pub pointer : Pointer
    pub distance : ℤ
    pub base_is : HasPointerTo base regs pointer
    pub offset_is : HasNumber w offset regs distance
    pub is : address_farther (address_of pointer) distance ≡ x
    pub small : IsSmall pointer
    pub lies : LiesIn r distance

  pub record HoldsPointer (flag : Option MonExpression) (base offset : MonExpression) (o : Option Address) (r : Range) (regs : List Value) : Type 0 where
    pub flag_is : FlagIs w flag (is_some o) regs
    pub based : (x : Address) → o ≡ Some x → Based base offset x r regs

  -- a base and an offset that are an address, whatever comes in registers behind those of the code
  pub record Placed (c : PointerCode) (x : Address) (r : Range) (end : List Value) : Type 0 where
    pub pointer : Pointer
    pub distance : ℤ
    pub base_is : (later : List Value) → Same (length c.used) end later → HasPointerTo c.base later pointer
    pub offset_is : (later : List Value) → Same (length c.used) end later → HasNumber w c.offset later distance
    pub is : address_farther (address_of pointer) distance ≡ x
    pub small : IsSmall pointer
    pub lies : LiesIn r distance

  pub based_in : (c : PointerCode) (x : Address) (r : Range) (end : List Value) → Placed c x r end → (later : List Value) → Same (length c.used) end later → Based c.base c.offset x r later
  based_in c x r end h later s = record {
    pointer = h.pointer;
    distance = h.distance;
    base_is = h.base_is later s;
    offset_is = h.offset_is later s;
    is = h.is;
    small = h.small;
    lies = h.lies;
  }

  pub record PointerCodes (c : PointerCode) (o : Option Address) (r : Range) (rs : List MonType) (regs : List Value) : Type 0 where
    pub end : List Value
    pub same : Same (length rs) regs end
    pub is : runs w c.stmts regs ≡ Done (Next end) w.target []
    pub flag_is : (later : List Value) → Same (length c.used) end later → FlagIs w c.flag (is_some o) later
    pub placed : (x : Address) → o ≡ Some x → Placed c x r end

  pub holds_in : (c : PointerCode) (o : Option Address) (r : Range) (rs : List MonType) (regs : List Value) → (h : PointerCodes c o r rs regs) → (later : List Value) → Same (length c.used) h.end later
      → HoldsPointer c.flag c.base c.offset o r later
  holds_in c o r rs regs h later s = record { flag_is = h.flag_is later s; based = λ x e. based_in c x r h.end (h.placed x e) later s }

  some_address : (x y : Address) → Some x ≡ Some y → x ≡ y
  some_address x y e = cc

  -- the start of a block
  pub start_codes : (e : MonExpression) (p : Pointer) (o : Option Address) (r : Range) (rs : List MonType) (regs : List Value) → o ≡ Some (address_of p) → IsSmall p → LiesIn r (pos 0)
      → ((later : List Value) → Same (length rs) regs later → HasPointerTo e later p) → PointerCodes (start_pointer e rs) o r rs regs
  start_codes e p o r rs regs q small lies has = record {
    end = regs;
    same = same_all (length rs) regs;
    is = refl;
    flag_is = λ later s. ap is_some q;
    placed = λ x f. record {
      pointer = p;
      distance = pos 0;
      base_is = has;
      offset_is = λ later s. refl;
      is = farther_none (address_of p) ∙ some_address (address_of p) x (sym q ∙ f);
      small = small;
      lies = lies;
    };
  }

  pub zero_lies : (r : Range) → start_range ≡ r → LiesIn r (pos 0)
  zero_lies r e = subst (λ r. LiesIn r (pos 0)) e (record { above = omega (arith, ints); below = omega (arith, ints) })

  pub null_based : (later : List Value) → Based null no_offset null_address start_range later
  null_based later = record { pointer = Null; distance = pos 0; base_is = refl; offset_is = refl; is = refl; small = tt; lies = zero_lies start_range refl }

  -- ---- a member

  pub member_codes : (d : ℕ) (c : PointerCode) (o : Option Address) (a r : Range) (rs : List MonType) (regs : List Value) → member_range d (Some a) ≡ Some r → PointerCodes c o a rs regs
      → PointerCodes (member_code d c) (option_map (λ x. address_farther x (pos d)) o) r rs regs
  member_codes d c o a r rs regs e h = record {
    end = h.end;
    same = h.same;
    is = h.is;
    flag_is = λ later s. by_flag o later (h.flag_is later s);
    placed = λ x f. by o x f h.placed;
  }
    where
      by_flag : (o : Option Address) (later : List Value) → FlagIs w c.flag (is_some o) later → FlagIs w c.flag (is_some (option_map (λ x. address_farther x (pos d)) o)) later
      by_flag None later p = p
      by_flag (Some x) later p = p

      within : IsWithin128 r
      within = (bounded_some (from_to (pos d +ℤ a.lo) (pos d +ℤ a.hi)) r e).within

      by : (o : Option Address) (x : Address) → option_map (λ x. address_farther x (pos d)) o ≡ Some x → ((x : Address) → o ≡ Some x → Placed c x a h.end) → Placed (member_code d c) x r h.end
      by None x f g = absurd cc
      by (Some y) x f g =
          let b = g y refl in
          let to = b.distance +ℤ pos d in
          let lies : LiesIn r to = members_lie d a r (alone b.distance) e b.lies in
          let same_address : address_farther y (pos d) ≡ x = cc in record {
            pointer = b.pointer;
            distance = to;
            base_is = b.base_is;
            offset_is = λ later s.
                operation w Add I128 c.offset (Constant I128 (pos d)) later b.distance (pos d) to refl (b.offset_is later s) (constant_has w I128 (pos d) later refl)
                (ap Some (in_128_bits r to within lies));
            is = farther_twice (address_of b.pointer) b.distance (pos d) ∙ ap (λ x. address_farther x (pos d)) b.is ∙ same_address;
            small = b.small;
            lies = lies;
          }

-- ---- pointers so many elements farther

pub moved_is : (op : PointerOp) (n : ℕ) (a b : Option TermValue) → as_address (moved op n a b) ≡ after (as_address a) (λ x. after (value_of b) (λ i. Some (moved_by op n x i)))
moved_is op n None b = refl
moved_is op n (Some (Mathematical z)) b = refl
moved_is op n (Some (Addressed x)) None = refl
moved_is op n (Some (Addressed x)) (Some (Addressed y)) = refl
moved_is op n (Some (Addressed x)) (Some (Mathematical i)) = refl

-- the range of the elements' bytes
record Scaled (n : ℕ) (b : Range) : Type 0 where
  pub first : Range
  pub there : scaled_range n b ≡ Some first

scaled_there : (op : PointerOp) (n : ℕ) (a b r : Range) → moved_range op n a b ≡ Some r → Scaled n b × IsWithin128 r
scaled_there Plus n a b r e = by (scaled_range n b) refl e
  where
    by : (o : Option Range) → scaled_range n b ≡ o → then_range o (sum_range a) ≡ Some r → Scaled n b × IsWithin128 r
    by None p e = absurd cc
    by (Some t) p e = (record { first = t; there = p }, (bounded_some (from_to (a.lo +ℤ t.lo) (a.hi +ℤ t.hi)) r e).within)
scaled_there Minus n a b r e = by (scaled_range n b) refl e
  where
    by : (o : Option Range) → scaled_range n b ≡ o → then_range o (difference_range a) ≡ Some r → Scaled n b × IsWithin128 r
    by None p e = absurd cc
    by (Some t) p e = (record { first = t; there = p }, (bounded_some (from_to (a.lo -ℤ t.hi) (a.hi -ℤ t.lo)) r e).within)

pub one_lies : (n : ℤ) → LiesIn (from_to n n) n
one_lies n = record { above = omega (arith, ints); below = omega (arith, ints) }

-- a product of a size, in 128 bits
pub scaled_has : (w : Setting) (n : ℕ) (b t : Range) (e : MonExpression) (later : List Value) (i : ℤ) → scaled_range n b ≡ Some t → LiesIn b i → HasNumber w e later i → HasNumber w (Binary Mul I128 (Constant I128 (pos n)) e) later (pos n *ℤ i)
scaled_has w n b t e later i q lies has =
    let product : LiesIn t (pos n *ℤ i) = products_lie (from_to (pos n) (pos n)) b t (pos n) i q (one_lies (pos n)) lies in
    let within : IsWithin128 t = (bounded_some (hull_of_four (pos n *ℤ b.lo) (pos n *ℤ b.hi) (pos n *ℤ b.lo) (pos n *ℤ b.hi)) t q).within in
    operation w Mul I128 (Constant I128 (pos n)) e later (pos n) i (pos n *ℤ i) refl (constant_has w I128 (pos n) later refl) has (ap Some (in_128_bits t (pos n *ℤ i) within product))

module _ (w : Setting) (op : PointerOp) (n : ℕ) (c : PointerCode) (k : MonType) (d : Code) (o : Option Address) (i : Option ℤ) (a b r : Range) (rs : List MonType) (regs : List Value) (e : moved_range op n a b ≡ Some r)
    (lies : (z : ℤ) → i ≡ Some z → LiesIn b z) (fits : (z : ℤ) → i ≡ Some z → wrap I128 z ≡ z) (le : length rs ≤ length c.used) (more : length c.used ≤ length d.used) (h : PointerCodes w c o a rs regs) (g : Codes w d i c.used h.end) where
  abbrev moved_to : Option Address
  moved_to = after o (λ x. after i (λ z. Some (moved_by op n x z)))

  there_is : is_some moved_to ≡ (is_some o && is_some i)
  there_is = by o i
    where
      by : (o : Option Address) (i : Option ℤ) → is_some (after o (λ x. after i (λ z. Some (moved_by op n x z)))) ≡ (is_some o && is_some i)
      by None i = refl
      by (Some x) None = refl
      by (Some x) (Some z) = refl

  parts : (x : Address) → moved_to ≡ Some x → (y : Address) × (z : ℤ) × (o ≡ Some y) × (i ≡ Some z) × (moved_by op n y z ≡ x)
  parts x p = by o i p
    where
      by : (o : Option Address) (i : Option ℤ) → after o (λ x. after i (λ z. Some (moved_by op n x z))) ≡ Some x → (y : Address) × (z : ℤ) × (o ≡ Some y) × (i ≡ Some z) × (moved_by op n y z ≡ x)
      by None i p = absurd cc
      by (Some y) None p = absurd cc
      by (Some y) (Some z) p = let same_address : moved_by op n y z ≡ x = cc in (y, z, refl, refl, same_address)

  -- the offset that the operator gives
  sum_has : (op : PointerOp) (later : List Value) (x y : ℤ) (r : Range) → IsWithin128 r → LiesIn r (moved_by op n (alone x) y).offset → HasNumber w c.offset later x
      → HasNumber w (Binary Mul I128 (Constant I128 (pos n)) (in_type k I128 d.value)) later (pos n *ℤ y)
      → HasNumber w (Binary (move_operator op) I128 c.offset (Binary Mul I128 (Constant I128 (pos n)) (in_type k I128 d.value))) later (moved_by op n (alone x) y).offset
  sum_has Plus later x y r within lies p q =
      operation w Add I128 c.offset (Binary Mul I128 (Constant I128 (pos n)) (in_type k I128 d.value)) later x (pos n *ℤ y) (x +ℤ (pos n *ℤ y)) refl p q (ap Some (in_128_bits r (x +ℤ (pos n *ℤ y)) within lies))
  sum_has Minus later x y r within lies p q =
      let minus : x -ℤ (pos n *ℤ y) ≡ x +ℤ neg_ℤ (pos n *ℤ y) = omega (arith, ints) in
      operation w Sub I128 c.offset (Binary Mul I128 (Constant I128 (pos n)) (in_type k I128 d.value)) later x (pos n *ℤ y) (x +ℤ neg_ℤ (pos n *ℤ y)) refl p q
      (ap (λ z. Some (wrap I128 z)) minus ∙ ap Some (in_128_bits r (x +ℤ neg_ℤ (pos n *ℤ y)) within lies))

  moved_farther : (op : PointerOp) (p : Address) (x y : ℤ) → address_farther p (moved_by op n (alone x) y).offset ≡ moved_by op n (address_farther p x) y
  moved_farther Plus p x y = farther_twice p x (pos n *ℤ y)
  moved_farther Minus p x y = farther_twice p x (neg_ℤ (pos n *ℤ y))

  pub moved_codes : PointerCodes w (moved_code op n c k d) moved_to r rs regs
  moved_codes = record {
    end = g.end;
    same = same_trans (length rs) (length c.used) regs h.end g.end le h.same g.same;
    is = after_runs w c.stmts d.stmts regs h.end h.is ∙ g.is;
    flag_is = λ later s.
        subst (λ t. FlagIs w (conjunction c.flag d.flag) t later) (sym there_is) (flag_both w c.flag d.flag (is_some o) (is_some i) later (h.flag_is later (near later s)) (g.holds later s).flag_is);
    placed = λ x f.
        let q = parts x f in
        let m = h.placed q.0 q.2 in
        let t = scaled_there op n a b r e in
        let lie : LiesIn r (moved_by op n (alone m.distance) q.1).offset = moves_lie op n a b r (alone m.distance) q.1 e m.lies (lies q.1 q.3) in record {
          pointer = m.pointer;
          distance = (moved_by op n (alone m.distance) q.1).offset;
          base_is = λ later s. m.base_is later (near later s);
          offset_is = λ later s.
              sum_has op later m.distance q.1 r t.1 lie (m.offset_is later (near later s))
              (scaled_has w n b t.0.first (in_type k I128 d.value) later q.1 t.0.there (lies q.1 q.3) (in_type_has w k I128 d.value later q.1 (fits q.1 q.3) ((g.holds later s).value_is q.1 q.3)));
          is = moved_farther op (address_of m.pointer) m.distance q.1 ∙ ap (λ y. moved_by op n y q.1) m.is ∙ q.4;
          small = m.small;
          lies = lie;
        };
  }
    where
      near : (later : List Value) → Same (length d.used) g.end later → Same (length c.used) h.end later
      near later s = same_trans (length c.used) (length d.used) h.end g.end later more g.same s
