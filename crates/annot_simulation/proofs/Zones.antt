-- The code of the bytes of a zone, of questions about them, and of zones that share no byte.
use Rattle.std.proofs.Common.{◌≡◌, ℕ, suc, ◌<◌, ◌≤◌, ℤ, pos, ◌+ℤ◌, ◌-ℤ◌, ◌*ℤ◌, Bool, true, false, ◌&&◌, List, [], ◌∷◌, ◌++◌, length, length-append, slice_get, slice_set, Option, Some, None, option_map, refl, sym, ap, ◌∙◌, subst, arith}
use Rattle.c_syntax.specs.declared.annotation.Range.{Range}
use Rattle.c_syntax.specs.declared.logic.MemoryQuestion.{MemoryQuestion}
use Rattle.c_model.specs.Integers.{truth}
use Rattle.c_model.specs.Logic.{TermValue, Mathematical, Addressed, as_address, Extent, object_extent, elements_extent, is_apart_from, all_apart, asks as asks_of}
use Rattle.c_model.specs.Predicates.{with_extent}
use Rattle.c_model.specs.Memory.{Pointer, Value, Integer}
use Rattle.c_model.specs.MemoryQuestions.{Address, address_of, address_farther, are_separated}
use Rattle.c_model.specs.Ranges.{from_to, LiesIn, IsWithin128, sum_range, difference_range}
use Rattle.c_model.specs.TermRanges.{scaled_range, then_range, begin_range, span_range, end_range, has_range, has_extent}
use Rattle.ea_num.proofs.Bounded.{bounded_some}
use Rattle.ea_num.proofs.Offsets.{begins_lie}
use Rattle.ea_num.proofs.Linear.{sums_lie, differences_lie}
use Rattle.std.proofs.lemmas.Bool.{and_parts}
use Rattle.c_syntax.specs.declared.logic.MemoryQuestion.TheVariants as asks
use Rattle.mon_syntax.specs.declared.tree.MonOp.TheVariants.{Add, Sub, And}
use Rattle.mon_syntax.specs.declared.tree.MonType.{MonType}
use Rattle.mon_syntax.specs.declared.tree.MonType.TheVariants.{I32, I128}
use Rattle.mon_syntax.specs.Arithmetic.{wrap, access_bytes}
use Rattle.mon_syntax.specs.BlockMemory.{over_blocks, is_some}
use Rattle.mon_syntax.specs.Meaning.{Done, Next, exec}
use Rattle.mon_syntax.specs.Trees.{MonExpression, Register, Constant, Binary, Set, MonStatements, NoStatement, Then}
use Rattle.c_effects.specs.Expressions.{before, one, in_type}
use Rattle.mon_syntax.specs.declared.tree.AccessSize.{AccessSize}
use Rattle.mem_preds.specs.declared.question.Question.TheVariants as question
use Rattle.mem_preds.specs.Questions.{size_of, asked}
use Rattle.mem_preds.proofs.Questions.{questions_are_answered, parts_are_answered}
use Rattle.annot_simulation.specs.Pieces.{Code, guarded, conjunction}
use Rattle.annot_simulation.specs.Pointers.{PointerCode, ZoneCode, ZonesCode, no_zones, bare_zone, another_zone, zones_parted, apart_from_each, each_pair, separated_code, object_code, elements_of, elements_code, question_of, zone_asked}
use Rattle.annot_simulation.specs.Does.{Setting, runs}
use Rattle.c_simulation.specs.SameRegisters.{Same}
use Rattle.annot_simulation.proofs.Steps.{same_all, same_less, same_trans, same_set, get-set_same, after_runs, HasNumber, constant_has, operation, in_type_has, set_first}
use Rattle.annot_simulation.proofs.Parts.{after, truths, both_are, and_true, FlagIs, Codes, flag_both, guarded_true, guarded_false}
use Rattle.annot_simulation.proofs.Exact.{value_of}
use Rattle.annot_simulation.proofs.Addresses.{alone, in_128_bits, one_lies, scaled_has, farther_twice, HasPointerTo, Based, PointerCodes, holds_in}
use Rattle.annot_simulation.proofs.Asked.{ask_runs, ask_first}

-- ---- zones

module _ (w : Setting) where
  pub record ZoneIs (z : ZoneCode) (e : Extent) (regs : List Value) : Type 0 where
    pub pointer : Pointer
    pub distance : ℤ
    pub base_is : HasPointerTo w z.pointer.base regs pointer
    pub offset_is : HasNumber w z.pointer.offset regs distance
    pub length_is : HasNumber w z.length regs e.length
    pub is : address_farther (address_of pointer) distance ≡ e.start

  pub record HoldsZone (z : ZoneCode) (o : Option Extent) (regs : List Value) : Type 0 where
    pub flag_is : FlagIs w z.pointer.flag (is_some o) regs
    pub zoned : (e : Extent) → o ≡ Some e → ZoneIs z e regs

  pub record ZoneCodes (z : ZoneCode) (o : Option Extent) (rs : List MonType) (regs : List Value) : Type 0 where
    pub end : List Value
    pub same : Same (length rs) regs end
    pub is : runs w z.pointer.stmts regs ≡ Done (Next end) w.target []
    pub holds : (later : List Value) → Same (length z.pointer.used) end later → HoldsZone z o later

  -- the bytes of an object
  pub object_codes : (n : ℕ) (c : PointerCode) (o : Option Address) (r : Range) (rs : List MonType) (regs : List Value) → PointerCodes w c o r rs regs
      → ZoneCodes (object_code n c) (object_extent n o) rs regs
  object_codes n c o r rs regs h = record {
    end = h.end;
    same = h.same;
    is = h.is;
    holds = λ later s. let g = holds_in w c o r rs regs h later s in record { flag_is = by_flag o later g.flag_is; zoned = λ e f. by later o e f g.based };
  }
    where
      by_flag : (o : Option Address) (later : List Value) → FlagIs w c.flag (is_some o) later → FlagIs w c.flag (is_some (object_extent n o)) later
      by_flag None later p = p
      by_flag (Some x) later p = p

      by : (later : List Value) (o : Option Address) (e : Extent) → object_extent n o ≡ Some e → ((x : Address) → o ≡ Some x → Based w c.base c.offset x r later) → ZoneIs (object_code n c) e later
      by later None e f g = absurd cc
      by later (Some x) e f g =
          let b = g x refl in
          let whole : record { start = x; length = pos n } ≡ e = cc in
          subst (λ e. ZoneIs (object_code n c) e later) whole (record {
            pointer = b.pointer;
            distance = b.distance;
            base_is = b.base_is;
            offset_is = b.offset_is;
            length_is = constant_has w I128 (pos n) later refl;
            is = b.is;
          })

  -- a question about them
  question_asked : (f : MemoryQuestion) (a : AccessSize) (p o n : MonExpression) (r : ℕ) (regs : List Value) (x : Pointer) (d l : ℤ) → HasPointerTo w p regs x → HasNumber w o regs d → HasNumber w n regs l
      → exec over_blocks w.globals (asked (question_of f) a p o n r) w.calls w.turns regs w.target
      ≡ Done (Next (slice_set regs r (Integer (truth (asks_of f w.target.mem.store (access_bytes a) (record { start = address_farther (address_of x) d; length = l })))))) w.target []
  question_asked asks.Valid a p o n r regs x d l h g k = questions_are_answered question.Valid a p o n r w.globals w.calls w.turns regs w.target x d l h g k
  question_asked asks.ValidRead a p o n r regs x d l h g k = questions_are_answered question.ValidRead a p o n r w.globals w.calls w.turns regs w.target x d l h g k
  question_asked asks.Initialized a p o n r regs x d l h g k = questions_are_answered question.Initialized a p o n r w.globals w.calls w.turns regs w.target x d l h g k

  module _ (same_store : w.target.mem.store ≡ w.now.store) (f : MemoryQuestion) (a : ℕ) (z : ZoneCode) (rs : List MonType) (regs : List Value) (le : length rs ≤ length z.pointer.used)
      (room : length (z.pointer.used ++ I32 ∷ []) ≤ length regs) where
    abbrev into : ℕ
    into = length z.pointer.used

    long_one : length (z.pointer.used ++ I32 ∷ []) ≡ suc into
    long_one = omega (arith, length-append z.pointer.used (I32 ∷ []))

    abbrev ask : MonStatements
    ask = one (asked (question_of f) (size_of a) z.pointer.base z.pointer.offset z.length into)

    abbrev told_of_zone : Option Extent → Option Bool
    told_of_zone o = option_map (asks_of f w.now.store (access_bytes (size_of a))) o

    pub asked_codes : (o : Option Extent) → ZoneCodes z o rs regs → Codes w (zone_asked f a z) (truths (told_of_zone o)) rs regs
    asked_codes None h = record {
      end = h.end;
      same = h.same;
      is = after_runs w z.pointer.stmts (guarded z.pointer.flag ask NoStatement) regs h.end h.is ∙ guarded_false w z.pointer.flag ask NoStatement h.end (h.holds h.end (same_all into h.end)).flag_is;
      holds = λ later s. record { flag_is = (h.holds later (same_less into (length (z.pointer.used ++ I32 ∷ [])) h.end later (omega (arith, long_one)) s)).flag_is; value_is = λ y e. absurd cc };
    }
    asked_codes (Some e) h = record {
      end = end;
      same = same_trans (length rs) into regs h.end end le h.same same;
      is =
          after_runs w z.pointer.stmts (guarded z.pointer.flag ask NoStatement) regs h.end h.is
          ∙ guarded_true w z.pointer.flag ask NoStatement h.end here.flag_is
          ∙ ask_runs w (asked (question_of f) (size_of a) z.pointer.base z.pointer.offset z.length into) h.end end
          (question_asked f (size_of a) z.pointer.base z.pointer.offset z.length into h.end b.pointer b.distance e.length b.base_is b.offset_is b.length_is);
      holds = λ later s. record {
        flag_is = (h.holds later (same_trans into into h.end end later (omega arith) same (same_less into (length (z.pointer.used ++ I32 ∷ [])) end later (omega (arith, long_one)) s))).flag_is;
        value_is = λ y q.
            let is_number : truth (asks_of f w.now.store (access_bytes (size_of a)) e) ≡ y = cc in
            s.below into (omega (arith, long_one)) ∙ get-set_same h.end into (Integer (truth answer)) (omega (arith, long_one, room, h.same.long))
            ∙ (λ i. Some (Integer (truth (asks_of f (same_store i) (access_bytes (size_of a)) (record { start = b.is i; length = e.length }))))) ∙ ap (λ y. Some (Integer y)) is_number;
      };
    }
      where
        here : HoldsZone z (Some e) h.end
        here = h.holds h.end (same_all into h.end)

        b : ZoneIs z e h.end
        b = here.zoned e refl

        answer : Bool
        answer = asks_of f w.target.mem.store (access_bytes (size_of a)) (record { start = address_farther (address_of b.pointer) b.distance; length = e.length })

        end : List Value
        end = slice_set h.end into (Integer (truth answer))

        same : Same into h.end end
        same = same_set into into h.end (Integer (truth answer)) (omega arith)

-- ---- elements

then_some : (o : Option Range) (f : Range → Option Range) (r : Range) → then_range o f ≡ Some r → (t : Range) × (o ≡ Some t) × (f t ≡ Some r)
then_some None f r e = absurd cc
then_some (Some t) f r e = (t, refl, e)

some_range : (o : Option Range) → has_range o ≡ true → (r : Range) × (o ≡ Some r)
some_range None e = absurd cc
some_range (Some r) e = (r, refl)

pub elements_is : (n : ℕ) (a i j : Option TermValue) → elements_extent n a i j
    ≡ after (as_address a) (λ x. after (value_of i) (λ u. after (value_of j) (λ v. Some (record { start = address_farther x (pos n *ℤ u); length = pos n *ℤ (v -ℤ u +ℤ pos 1) }))))
elements_is n None i j = refl
elements_is n (Some (Mathematical z)) i j = refl
elements_is n (Some (Addressed x)) None j = refl
elements_is n (Some (Addressed x)) (Some (Addressed y)) j = refl
elements_is n (Some (Addressed x)) (Some (Mathematical u)) None = refl
elements_is n (Some (Addressed x)) (Some (Mathematical u)) (Some (Addressed y)) = refl
elements_is n (Some (Addressed x)) (Some (Mathematical u)) (Some (Mathematical v)) = refl

module _ (w : Setting) (n : ℕ) (c : PointerCode) (k l : MonType) (x y : Code) (o : Option Address) (i j : Option ℤ) (a lo hi : Range) (rs : List MonType) (regs : List Value) (e : has_extent n a lo hi ≡ true)
    (lo_lies : (z : ℤ) → i ≡ Some z → LiesIn lo z) (hi_lies : (z : ℤ) → j ≡ Some z → LiesIn hi z) (lo_fits : (z : ℤ) → i ≡ Some z → wrap I128 z ≡ z) (hi_fits : (z : ℤ) → j ≡ Some z → wrap I128 z ≡ z)
    (l1 : length rs ≤ length c.used) (l2 : length c.used ≤ length x.used) (l3 : length x.used ≤ length y.used) (h : PointerCodes w c o a rs regs) (g : Codes w x i c.used h.end) (f : Codes w y j x.used g.end) where
  abbrev extent : Option Extent
  extent = after o (λ x. after i (λ u. after j (λ v. Some (record { start = address_farther x (pos n *ℤ u); length = pos n *ℤ (v -ℤ u +ℤ pos 1) }))))

  extent_there : is_some extent ≡ ((is_some o && is_some i) && is_some j)
  extent_there = by o i j
    where
      by : (o : Option Address) (i j : Option ℤ) → is_some {A = Extent} (after o (λ x. after i (λ u. after j (λ v. Some (record { start = address_farther x (pos n *ℤ u); length = pos n *ℤ (v -ℤ u +ℤ pos 1) })))))
          ≡ ((is_some o && is_some i) && is_some j)
      by None i j = refl
      by (Some x) None j = refl
      by (Some x) (Some u) None = refl
      by (Some x) (Some u) (Some v) = refl

  extent_parts : (z : Extent) → extent ≡ Some z → (p : Address) × (u : ℤ) × (v : ℤ) × (o ≡ Some p) × (i ≡ Some u) × (j ≡ Some v) × (record { start = address_farther p (pos n *ℤ u); length = pos n *ℤ (v -ℤ u +ℤ pos 1) } ≡ z)
  extent_parts z q = by o i j q
    where
      by : (o : Option Address) (i j : Option ℤ) → after o (λ x. after i (λ u. after j (λ v. Some (record { start = address_farther x (pos n *ℤ u); length = pos n *ℤ (v -ℤ u +ℤ pos 1) })))) ≡ Some z
          → (p : Address) × (u : ℤ) × (v : ℤ) × (o ≡ Some p) × (i ≡ Some u) × (j ≡ Some v) × (record { start = address_farther p (pos n *ℤ u); length = pos n *ℤ (v -ℤ u +ℤ pos 1) } ≡ z)
      by None i j q = absurd cc
      by (Some p) None j q = absurd cc
      by (Some p) (Some u) None q = absurd cc
      by (Some p) (Some u) (Some v) q = let same_extent : record { start = address_farther p (pos n *ℤ u); length = pos n *ℤ (v -ℤ u +ℤ pos 1) } ≡ z = cc in (p, u, v, refl, refl, refl, same_extent)

  abbrev low : MonExpression
  low = in_type k I128 x.value

  abbrev high : MonExpression
  high = in_type l I128 y.value

  -- where they begin
  begin_has : (later : List Value) (d u : ℤ) → LiesIn a d → LiesIn lo u → HasNumber w c.offset later d → HasNumber w low later u
      → HasNumber w (Binary Add I128 c.offset (elements_of n low)) later (d +ℤ (pos n *ℤ u))
  begin_has later d u da ul hd hu =
      let r = some_range (begin_range n a lo) (and_parts (has_range (begin_range n a lo)) (has_range (end_range n a lo hi)) e).0 in
      let t = then_some (scaled_range n lo) (sum_range a) r.0 r.1 in
      let within : IsWithin128 r.0 = (bounded_some (from_to (a.lo +ℤ t.0.lo) (a.hi +ℤ t.0.hi)) r.0 t.2).within in
      let lies : LiesIn r.0 (d +ℤ (pos n *ℤ u)) = begins_lie n a lo r.0 (alone d) u r.1 da ul in
      operation w Add I128 c.offset (elements_of n low) later d (pos n *ℤ u) (d +ℤ (pos n *ℤ u)) refl hd (scaled_has w n lo t.0 low later u t.1 ul hu)
      (ap Some (in_128_bits r.0 (d +ℤ (pos n *ℤ u)) within lies))

  -- how many bytes they are
  span_has : (later : List Value) (u v : ℤ) → LiesIn lo u → LiesIn hi v → HasNumber w low later u → HasNumber w high later v
      → HasNumber w (elements_code n c k l x y).length later (pos n *ℤ (v -ℤ u +ℤ pos 1))
  span_has later u v ul vh hu hv =
      let r = some_range (end_range n a lo hi) (and_parts (has_range (begin_range n a lo)) (has_range (end_range n a lo hi)) e).1 in
      let s = then_some (span_range n lo hi) (sum_range a) r.0 r.1 in
      let d = then_some (difference_range hi lo) (λ d. then_range (sum_range d (from_to (pos 1) (pos 1))) (scaled_range n)) s.0 s.1 in
      let q = then_some (sum_range d.0 (from_to (pos 1) (pos 1))) (scaled_range n) s.0 d.2 in
      let d_within : IsWithin128 d.0 = (bounded_some (from_to (hi.lo -ℤ lo.hi) (hi.hi -ℤ lo.lo)) d.0 d.1).within in
      let q_within : IsWithin128 q.0 = (bounded_some (from_to (d.0.lo +ℤ pos 1) (d.0.hi +ℤ pos 1)) q.0 q.1).within in
      let d_lies : LiesIn d.0 (v -ℤ u) = differences_lie hi lo d.0 v u d.1 vh ul in
      let q_lies : LiesIn q.0 (v -ℤ u +ℤ pos 1) = sums_lie d.0 (from_to (pos 1) (pos 1)) q.0 (v -ℤ u) (pos 1) q.1 d_lies (one_lies (pos 1)) in
      let minus = operation w Sub I128 high low later v u (v -ℤ u) refl hv hu (ap Some (in_128_bits d.0 (v -ℤ u) d_within d_lies)) in
      let plus = operation w Add I128 (Binary Sub I128 high low) (Constant I128 (pos 1)) later (v -ℤ u) (pos 1) (v -ℤ u +ℤ pos 1) refl minus (constant_has w I128 (pos 1) later refl) (ap Some (in_128_bits q.0 (v -ℤ u +ℤ pos 1) q_within q_lies)) in
      scaled_has w n q.0 s.0 (Binary Add I128 (Binary Sub I128 high low) (Constant I128 (pos 1))) later (v -ℤ u +ℤ pos 1) q.2 q_lies plus

  pub elements_codes : ZoneCodes w (elements_code n c k l x y) extent rs regs
  elements_codes = record {
    end = f.end;
    same = same_trans (length rs) (length c.used) regs h.end f.end l1 h.same (same_trans (length c.used) (length x.used) h.end g.end f.end l2 g.same f.same);
    is = after_runs w (before c.stmts x.stmts) y.stmts regs g.end (after_runs w c.stmts x.stmts regs h.end h.is ∙ g.is) ∙ f.is;
    holds = λ later s.
        let hx = g.holds later (same_trans (length x.used) (length y.used) g.end f.end later l3 f.same s) in
        let hy = f.holds later s in
        let to_end : Same (length c.used) h.end later = same_trans (length c.used) (length x.used) h.end g.end later l2 g.same (same_trans (length x.used) (length y.used) g.end f.end later l3 f.same s) in
        let hp = holds_in w c o a rs regs h later to_end in record {
          flag_is = subst (λ t. FlagIs w (conjunction (conjunction c.flag x.flag) y.flag) t later) (sym extent_there)
              (flag_both w (conjunction c.flag x.flag) y.flag (is_some o && is_some i) (is_some j) later (flag_both w c.flag x.flag (is_some o) (is_some i) later hp.flag_is hx.flag_is) hy.flag_is);
          zoned = λ z q.
              let t = extent_parts z q in
              let m = hp.based t.0 t.3 in
              let hu = in_type_has w k I128 x.value later t.1 (lo_fits t.1 t.4) (hx.value_is t.1 t.4) in
              let hv = in_type_has w l I128 y.value later t.2 (hi_fits t.2 t.5) (hy.value_is t.2 t.5) in
              subst (λ z. ZoneIs w (elements_code n c k l x y) z later) t.6 (record {
                pointer = m.pointer;
                distance = m.distance +ℤ (pos n *ℤ t.1);
                base_is = m.base_is;
                offset_is = begin_has later m.distance t.1 m.lies (lo_lies t.1 t.4) m.offset_is hu;
                length_is = span_has later t.1 t.2 (lo_lies t.1 t.4) (hi_lies t.2 t.5) hu hv;
                is = farther_twice (address_of m.pointer) m.distance (pos n *ℤ t.1) ∙ ap (λ y. address_farther y (pos n *ℤ t.1)) m.is;
              });
        };
  }

-- ---- zones that share no byte

and_assoc : (a b c : Bool) → ((a && b) && c) ≡ (a && (b && c))
and_assoc true b c = refl
and_assoc false b c = refl

module _ (w : Setting) where
  -- codes of zones, and their bytes
  abbrev pub AreZones : List ZoneCode → List Extent → List Value → Type 0
  AreZones [] [] regs = Unit {0}
  AreZones [] (e ∷ es) regs = ⊥
  AreZones (z ∷ zs) [] regs = ⊥
  AreZones (z ∷ zs) (e ∷ es) regs = ZoneIs w z e regs × AreZones zs es regs

  pub record HoldsZones (c : ZonesCode) (o : Option (List Extent)) (regs : List Value) : Type 0 where
    pub flag_is : FlagIs w c.flag (is_some o) regs
    pub zoned : (es : List Extent) → o ≡ Some es → AreZones c.zones es regs

  pub record ZonesCodes (c : ZonesCode) (o : Option (List Extent)) (rs : List MonType) (regs : List Value) : Type 0 where
    pub end : List Value
    pub same : Same (length rs) regs end
    pub is : runs w c.stmts regs ≡ Done (Next end) w.target []
    pub holds : (later : List Value) → Same (length c.used) end later → HoldsZones c o later

  pub no_zones_codes : (rs : List MonType) (regs : List Value) → ZonesCodes (no_zones rs) (Some []) rs regs
  no_zones_codes rs regs = record {
    end = regs;
    same = same_all (length rs) regs;
    is = refl;
    holds = λ later s. record { flag_is = refl; zoned = λ es e. let none : [] ≡ es = some_list [] es e in subst (λ es. AreZones [] es later) none tt };
  }
    where
      some_list : (x y : List Extent) → Some x ≡ Some y → x ≡ y
      some_list x y e = cc

  bare_is : (z : ZoneCode) (e : Extent) (regs : List Value) → ZoneIs w z e regs → ZoneIs w (bare_zone z) e regs
  bare_is z e regs i = record {
    pointer = i.pointer;
    distance = i.distance;
    base_is = i.base_is;
    offset_is = i.offset_is;
    length_is = i.length_is;
    is = i.is;
  }

  pub another_codes : (z : ZoneCode) (zs : ZonesCode) (o : Option Extent) (os : Option (List Extent)) (rs : List MonType) (regs : List Value) → length rs ≤ length z.pointer.used → length z.pointer.used ≤ length zs.used → (h : ZoneCodes w z o rs regs)
      → ZonesCodes zs os z.pointer.used h.end → ZonesCodes (another_zone z zs) (with_extent o os) rs regs
  another_codes z zs o os rs regs le more h g = record {
    end = g.end;
    same = same_trans (length rs) (length z.pointer.used) regs h.end g.end le h.same g.same;
    is = after_runs w z.pointer.stmts zs.stmts regs h.end h.is ∙ g.is;
    holds = λ later s.
        let hz = h.holds later (same_trans (length z.pointer.used) (length zs.used) h.end g.end later more g.same s) in
        let hs = g.holds later s in record {
          flag_is = subst (λ t. FlagIs w (conjunction z.pointer.flag zs.flag) t later) (sym (there o os)) (flag_both w z.pointer.flag zs.flag (is_some o) (is_some os) later hz.flag_is hs.flag_is);
          zoned = λ es e. by later o os es e hz.zoned hs.zoned;
        };
  }
    where
      there : (o : Option Extent) (os : Option (List Extent)) → is_some (with_extent o os) ≡ (is_some o && is_some os)
      there None os = refl
      there (Some e) None = refl
      there (Some e) (Some es) = refl

      by : (later : List Value) (o : Option Extent) (os : Option (List Extent)) (es : List Extent) → with_extent o os ≡ Some es → ((e : Extent) → o ≡ Some e → ZoneIs w z e later) → ((es : List Extent) → os ≡ Some es → AreZones zs.zones es later)
          → AreZones (bare_zone z ∷ zs.zones) es later
      by later None os es e p q = absurd cc
      by later (Some x) None es e p q = absurd cc
      by later (Some x) (Some xs) es e p q = let whole : x ∷ xs ≡ es = cc in subst (λ es. AreZones (bare_zone z ∷ zs.zones) es later) whole (bare_is z x later (p x refl), q xs refl)

  pair_asked : (z d : ZoneCode) (e f : Extent) (r : ℕ) (regs : List Value) → ZoneIs w z e regs → ZoneIs w d f regs
      → exec over_blocks w.globals (zones_parted z d r) w.calls w.turns regs w.target ≡ Done (Next (slice_set regs r (Integer (truth (are_separated e.start e.length f.start f.length))))) w.target []
  pair_asked z d e f r regs h g =
      parts_are_answered z.pointer.base z.pointer.offset z.length d.pointer.base d.pointer.offset d.length r w.globals w.calls w.turns regs w.target h.pointer g.pointer h.distance e.length g.distance f.length
      h.base_is h.offset_is h.length_is g.base_is g.offset_is g.length_is
      ∙ (λ i. Done (Next (slice_set regs r (Integer (truth (are_separated (h.is i) e.length (g.is i) f.length))))) w.target [])

  -- the register t holds a truth, and all below it is as before
  record Counted (t : ℕ) (a : MonStatements) (b : Bool) (regs : List Value) : Type 0 where
    after_all : List Value
    same : Same t regs after_all
    is : runs w a regs ≡ Done (Next after_all) w.target []
    truth_is : slice_get after_all t ≡ Some (Integer (truth b))

  one_pair : (t : ℕ) (z d : ZoneCode) (e f : Extent) (b : Bool) (rest : MonStatements) (regs : List Value) → suc t < length regs → ((later : List Value) → Same t regs later → ZoneIs w z e later × ZoneIs w d f later)
      → slice_get regs t ≡ Some (Integer (truth b))
      → (mid : List Value) × (Same t regs mid) × (runs w (Then (zones_parted z d (suc t)) (Then (Set t (Binary And I32 (Register t) (Register (suc t)))) rest)) regs ≡ runs w rest mid)
      × (slice_get mid t ≡ Some (Integer (truth (b && are_separated e.start e.length f.start f.length))))
  one_pair t z d e f b rest regs room zones at =
      let k = zones regs (same_all t regs) in
      let answer = are_separated e.start e.length f.start f.length in
      let first = slice_set regs (suc t) (Integer (truth answer)) in
      let first_same : Same (suc t) regs first = same_set (suc t) (suc t) regs (Integer (truth answer)) (omega arith) in
      let mid = slice_set first t (Integer (truth (b && answer))) in
      let mid_same : Same t first mid = same_set t t first (Integer (truth (b && answer))) (omega arith) in
      let second : HasNumber w (Register (suc t)) first (truth answer) = get-set_same regs (suc t) (Integer (truth answer)) room in
      let both = operation w And I32 (Register t) (Register (suc t)) first (truth b) (truth answer) (truth (b && answer)) refl (first_same.below t (omega arith) ∙ at) second (both_are b answer) in (
        mid,
        same_trans t t regs first mid (omega arith) (same_less t (suc t) regs first (omega arith) first_same) mid_same,
        ask_first w (zones_parted z d (suc t)) (Then (Set t (Binary And I32 (Register t) (Register (suc t)))) rest) regs first (pair_asked z d e f (suc t) regs k.0 k.1)
            ∙ set_first w t (Binary And I32 (Register t) (Register (suc t))) rest first (truth (b && answer)) both,
        get-set_same first t (Integer (truth (b && answer))) (omega (arith, room, first_same.long)),
      )

  each_does : (t : ℕ) (z : ZoneCode) (ds : List ZoneCode) (e : Extent) (fs : List Extent) (b : Bool) (regs : List Value) → suc t < length regs → ((later : List Value) → Same t regs later → ZoneIs w z e later × AreZones ds fs later)
      → slice_get regs t ≡ Some (Integer (truth b))
      → Counted t (apart_from_each t z ds) (b && is_apart_from e fs) regs
  each_does t z [] e [] b regs room zones at = record { after_all = regs; same = same_all t regs; is = refl; truth_is = at ∙ ap (λ x. Some (Integer (truth x))) (sym (and_true b)) }
  each_does t z [] e (f ∷ fs) b regs room zones at = absurd (zones regs (same_all t regs)).1
  each_does t z (d ∷ ds) e [] b regs room zones at = absurd (zones regs (same_all t regs)).1
  each_does t z (d ∷ ds) e (f ∷ fs) b regs room zones at =
      let one = one_pair t z d e f b (apart_from_each t z ds) regs room (λ later s. ((zones later s).0, (zones later s).1.0)) at in
      let rest = each_does t z ds e fs (b && are_separated e.start e.length f.start f.length) one.0 (omega (arith, room, one.1.long))
      (λ later s. let k = zones later (same_trans t t regs one.0 later (omega arith) one.1 s) in (k.0, k.1.1)) one.3 in record {
        after_all = rest.after_all;
        same = same_trans t t regs one.0 rest.after_all (omega arith) one.1 rest.same;
        is = one.2 ∙ rest.is;
        truth_is = rest.truth_is ∙ ap (λ x. Some (Integer (truth x))) (and_assoc b (are_separated e.start e.length f.start f.length) (is_apart_from e fs));
      }

  pairs_do : (t : ℕ) (zs : List ZoneCode) (es : List Extent) (b : Bool) (regs : List Value) → suc t < length regs → ((later : List Value) → Same t regs later → AreZones zs es later) → slice_get regs t ≡ Some (Integer (truth b))
      → Counted t (each_pair t zs) (b && all_apart es) regs
  pairs_do t [] [] b regs room zones at = record { after_all = regs; same = same_all t regs; is = refl; truth_is = at ∙ ap (λ x. Some (Integer (truth x))) (sym (and_true b)) }
  pairs_do t [] (e ∷ es) b regs room zones at = absurd (zones regs (same_all t regs))
  pairs_do t (z ∷ zs) [] b regs room zones at = absurd (zones regs (same_all t regs))
  pairs_do t (z ∷ zs) (e ∷ es) b regs room zones at =
      let one = each_does t z zs e es b regs room zones at in
      let rest = pairs_do t zs es (b && is_apart_from e es) one.after_all (omega (arith, room, one.same.long)) (λ later s. (zones later (same_trans t t regs one.after_all later (omega arith) one.same s)).1) one.truth_is in record {
        after_all = rest.after_all;
        same = same_trans t t regs one.after_all rest.after_all (omega arith) one.same rest.same;
        is = after_runs w (apart_from_each t z zs) (each_pair t zs) regs one.after_all one.is ∙ rest.is;
        truth_is = rest.truth_is ∙ ap (λ x. Some (Integer (truth x))) (and_assoc b (is_apart_from e es) (all_apart es));
      }

  module _ (zs : ZonesCode) (rs : List MonType) (regs : List Value) (le : length rs ≤ length zs.used) (room : length (zs.used ++ I32 ∷ I32 ∷ []) ≤ length regs) where
    abbrev top : ℕ
    top = length zs.used

    long_pair : length (zs.used ++ I32 ∷ I32 ∷ []) ≡ suc (suc top)
    long_pair = omega (arith, length-append zs.used (I32 ∷ I32 ∷ []))

    abbrev asking_all : MonStatements
    asking_all = Then (Set top (Constant I32 (pos 1))) (each_pair top zs.zones)

    pub separated_codes : (o : Option (List Extent)) → ZonesCodes zs o rs regs → Codes w (separated_code zs) (truths (option_map all_apart o)) rs regs
    separated_codes None h = record {
      end = h.end;
      same = h.same;
      is = after_runs w zs.stmts (guarded zs.flag asking_all NoStatement) regs h.end h.is ∙ guarded_false w zs.flag asking_all NoStatement h.end (h.holds h.end (same_all top h.end)).flag_is;
      holds = λ later s. record { flag_is = (h.holds later (same_less top (length (zs.used ++ I32 ∷ I32 ∷ [])) h.end later (omega (arith, long_pair)) s)).flag_is; value_is = λ y e. absurd cc };
    }
    separated_codes (Some es) h = record {
      end = count.after_all;
      same = same_trans (length rs) top regs h.end count.after_all le h.same to_end;
      is =
          after_runs w zs.stmts (guarded zs.flag asking_all NoStatement) regs h.end h.is
          ∙ guarded_true w zs.flag asking_all NoStatement h.end (h.holds h.end (same_all top h.end)).flag_is
          ∙ set_first w top (Constant I32 (pos 1)) (each_pair top zs.zones) h.end (pos 1) refl
          ∙ count.is;
      holds = λ later s. record {
        flag_is = (h.holds later (same_trans top top h.end count.after_all later (omega arith) to_end (same_less top (length (zs.used ++ I32 ∷ I32 ∷ [])) count.after_all later (omega (arith, long_pair)) s))).flag_is;
        value_is = λ y q. let number_is : truth (all_apart es) ≡ y = cc in s.below top (omega (arith, long_pair)) ∙ count.truth_is ∙ ap (λ y. Some (Integer y)) number_is;
      };
    }
      where
        begun : List Value
        begun = slice_set h.end top (Integer (pos 1))

        begun_same : Same top h.end begun
        begun_same = same_set top top h.end (Integer (pos 1)) (omega arith)

        count : Counted top (each_pair top zs.zones) (all_apart es) begun
        count =
            pairs_do top zs.zones es true begun (omega (arith, room, long_pair, h.same.long, begun_same.long)) (λ later s. (h.holds later (same_trans top top h.end begun later (omega arith) begun_same s)).zoned es refl)
            (get-set_same h.end top (Integer (pos 1)) (omega (arith, room, long_pair, h.same.long)))

        to_end : Same top h.end count.after_all
        to_end = same_trans top top h.end begun count.after_all (omega arith) begun_same count.same
