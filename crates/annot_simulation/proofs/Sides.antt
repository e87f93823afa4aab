-- The two sides of a relation: numbers, pointers, or a pointer and 0.
use Rattle.std.proofs.Common.{◌≡◌, suc, ◌≤◌, ℤ, pos, [], Bool, true, false, not, ◌&&◌, List, length, Option, Some, None, refl, sym, ap, ◌∙◌, subst, arith}
use Rattle.c_syntax.specs.declared.annotation.Range.{Range}
use Rattle.c_syntax.specs.declared.annotation.Relation.{Relation}
use Rattle.c_syntax.specs.declared.annotation.Relation.TheVariants as relation
use Rattle.c_syntax.specs.Logic.{LogicTerm, range_of}
use Rattle.c_syntax.specs.Logic as logic
use Rattle.c_model.specs.Integers.{truth}
use Rattle.c_model.specs.Logic.{Environment, TermValue, Mathematical, Addressed, as_address, related, relates, related_addresses, same_address}
use Rattle.c_model.specs.Memory.{Value, Integer}
use Rattle.c_model.specs.MemoryQuestions.{Address, null_address}
use Rattle.c_model.specs.Predicates.{term}
use Rattle.c_model.specs.State.{State, Scope}
use Rattle.c_model.specs.TermRanges.{TermRanged, start_range}
use Rattle.mon_syntax.specs.declared.tree.MonOp.TheVariants as mon
use Rattle.mon_syntax.specs.declared.tree.MonType.{MonType}
use Rattle.mon_syntax.specs.declared.tree.MonType.TheVariants.{I32}
use Rattle.mon_syntax.specs.BlockMemory.{is_some}
use Rattle.mon_syntax.specs.Meaning.{Done, Next}
use Rattle.mon_syntax.specs.Trees.{Register, Constant, Binary}
use Rattle.c_effects.specs.Expressions.{before}
use Rattle.c_simulation.specs.SameRegisters.{Same}
use Rattle.c_simulation.specs.Keeping.{Kept}
use Rattle.annot_simulation.specs.Held.{Sorted, sorts_held}
use Rattle.annot_simulation.specs.Pieces.{Code, type_of_width, type_of, width_of, wider, relation_value}
use Rattle.annot_simulation.specs.Pointers.{PointerCode, null_code, addresses_code}
use Rattle.annot_simulation.specs.Code.{Side, OfNumber, OfPointer, used_by, stmts_of, side_by, again, related_code, is_pointer_term, is_null_term}
use Rattle.annot_simulation.specs.Does.{Setting, runs, Stands, RangesHold, IsZero, AreSides, found_by, TermFound, PointerFound, SideFound}
use Rattle.annot_simulation.proofs.Held.{number_in, pointer_in}
use Rattle.annot_simulation.proofs.Steps.{same_all, same_less, same_trans, after_runs, constant_has, operation}
use Rattle.annot_simulation.proofs.Parts.{after, truths, FlagIs, Holds, Codes, Both, Two, two_runs}
use Rattle.annot_simulation.proofs.Exact.{value_of, relation_has}
use Rattle.annot_simulation.proofs.Quiet.{said_by, relation_says, addresses_say, zero_last_says, zero_first_says}
use Rattle.annot_simulation.proofs.Variables.{some_same}
use Rattle.annot_simulation.proofs.Grows.{addresses_grows}
use Rattle.annot_simulation.proofs.Addresses.{null_based, Based, HoldsPointer, PointerCodes, holds_in}
use Rattle.annot_simulation.proofs.Compared.{is_not, BothPointers, of_both, AskedOfBoth, equality_codes}
use Rattle.annot_simulation.proofs.Distances.{order_codes}
use Rattle.annot_simulation.proofs.Terms.{value, term_fits}

-- ---- truths of relations

pub relation_there : (a b : Option ℤ) (f : ℤ → ℤ → Bool) → is_some (truths (after a (λ x. after b (λ y. Some (f x y))))) ≡ (is_some a && is_some b)
relation_there None b f = refl
relation_there (Some x) None f = refl
relation_there (Some x) (Some y) f = refl

pub relation_truth : (a b : Option ℤ) (f : ℤ → ℤ → Bool) (z : ℤ) → truths (after a (λ x. after b (λ y. Some (f x y)))) ≡ Some z → (x : ℤ) × (y : ℤ) × (a ≡ Some x) × (b ≡ Some y) × (truth (f x y) ≡ z)
relation_truth None b f z e = absurd cc
relation_truth (Some x) None f z e = absurd cc
relation_truth (Some x) (Some y) f z e = (x, y, refl, refl, some_same (truth (f x y)) z e)

truths_after : (o p : Option Address) (f : Address → Address → Option Bool) → after o (λ x. after p (λ y. truths (f x y))) ≡ truths (after o (λ x. after p (λ y. f x y)))
truths_after None p f = refl
truths_after (Some x) None f = refl
truths_after (Some x) (Some y) f = refl

-- ---- null

zero_is : (t : LogicTerm) (s : State) (e : Environment) → IsZero t → term t s e ≡ Some (Mathematical (pos 0))
zero_is (logic.Number at t r n) s e z = ap (λ n. Some (Mathematical n)) z
zero_is _ s e z = absurd z

null_is : (ks : List Kept) (ns : Sorted) (t : LogicTerm) (s : State) (e : Environment) (scope : Scope) → PointerFound ks scope ns t → is_null_term t ≡ true → as_address (term t s e) ≡ Some null_address
null_is ks ns (logic.Null at t r) s e scope f q = refl
null_is ks ns (logic.Number at t r n) s e scope f q = absurd f
null_is ks ns _ s e scope f q = absurd cc

module _ (w : Setting) where
  -- ---- a relation of two pointers

  pub addresses_codes : (same_store : w.target.mem.store ≡ w.now.store) → (stands : Stands w) → (r : Relation) (m n : Bool) (c d : PointerCode) (o p : Option Address) (a b : Range) (rs : List MonType) (regs : List Value)
      → length rs ≤ length d.used → length (addresses_code r m n c d).used ≤ length regs → (m ≡ true → o ≡ Some null_address) → (n ≡ true → p ≡ Some null_address) → (h : BothPointers w c d o p a b rs regs)
      → AskedOfBoth w (addresses_code r m n c d) d.used (of_both w o p (λ x y. truths (related_addresses w.now.store r x y))) rs regs h.end
  addresses_codes same stands relation.Eq m n c d o p a b rs regs le room null_o null_p h =
      equality_codes w same relation.Eq refl (Binary mon.Eq I32 (Register (suc (length d.used))) (Constant I32 (pos 0))) m n c d o p a b rs regs le room null_o null_p h
      (λ x y later has.
      operation w mon.Eq I32 (Register (suc (length d.used))) (Constant I32 (pos 0)) later (truth (not (same_address x y))) (pos 0) (truth (same_address x y)) refl has (constant_has w I32 (pos 0) later refl) (is_not (same_address x y)))
  addresses_codes same stands relation.Ne m n c d o p a b rs regs le room null_o null_p h =
      equality_codes w same relation.Ne refl (Register (suc (length d.used))) m n c d o p a b rs regs le room null_o null_p h (λ x y later has. has)
  addresses_codes same stands relation.Lt m n c d o p a b rs regs le room null_o null_p h = order_codes w same stands.sound relation.Lt refl c d o p a b rs regs le room h
  addresses_codes same stands relation.Le m n c d o p a b rs regs le room null_o null_p h = order_codes w same stands.sound relation.Le refl c d o p a b rs regs le room h
  addresses_codes same stands relation.Gt m n c d o p a b rs regs le room null_o null_p h = order_codes w same stands.sound relation.Gt refl c d o p a b rs regs le room h
  addresses_codes same stands relation.Ge m n c d o p a b rs regs le room null_o null_p h = order_codes w same stands.sound relation.Ge refl c d o p a b rs regs le room h

  -- ---- sides

  abbrev pub SideHolds : Side → LogicTerm → List Value → Type 0
  SideHolds (OfNumber c) t later = Holds w c.flag c.value (value_of (term t w.now w.names)) later
  SideHolds (OfPointer c) t later = HoldsPointer w c.flag c.base c.offset (as_address (term t w.now w.names)) (range_of t) later

  pub record SideCodes (x : Side) (t : LogicTerm) (rs : List MonType) (regs : List Value) : Type 0 where
    pub end : List Value
    pub same : Same (length rs) regs end
    pub is : runs w (stmts_of x) regs ≡ Done (Next end) w.target []
    pub holds : (later : List Value) → Same (length (used_by x)) end later → SideHolds x t later

  abbrev pub IsSide : Side → LogicTerm → Type 0
  IsSide (OfNumber c) t = (is_pointer_term t ≡ false) × TermFound w.plan w.now.scope (sorts_held w.held) t
  IsSide (OfPointer c) t = (is_pointer_term t ≡ true) × PointerFound w.plan w.now.scope (sorts_held w.held) t

  pub record Sided (x : Side) (t : LogicTerm) (rs : List MonType) (regs : List Value) : Type 0 where
    pub codes : SideCodes x t rs regs
    pub sort : IsSide x t

  -- by the sort of the side
  pub side_made : (t : LogicTerm) (c : PointerCode) (d : Code) (js : List MonType) (mid : List Value) → SideFound w.plan w.now.scope (sorts_held w.held) t
      → (PointerFound w.plan w.now.scope (sorts_held w.held) t → length c.used ≤ length mid → PointerCodes w c (as_address (term t w.now w.names)) (range_of t) js mid)
      → (TermFound w.plan w.now.scope (sorts_held w.held) t → length d.used ≤ length mid → Codes w d (value_of (term t w.now w.names)) js mid)
      → length (used_by (side_by (is_pointer_term t) c d)) ≤ length mid → Sided (side_by (is_pointer_term t) c d) t js mid
  side_made t c d js mid f as_pointer as_number room = by (is_pointer_term t) refl f room
    where
      by : (m : Bool) → is_pointer_term t ≡ m → found_by m (PointerFound w.plan w.now.scope (sorts_held w.held) t) (TermFound w.plan w.now.scope (sorts_held w.held) t) → length (used_by (side_by m c d)) ≤ length mid → Sided (side_by m c d) t js mid
      by true q f room = let h = as_pointer f room in record { codes = record { end = h.end; same = h.same; is = h.is; holds = λ later s. holds_in w c (as_address (term t w.now w.names)) (range_of t) js mid h later s }; sort = (q, f) }
      by false q f room = let h = as_number f room in record { codes = record { end = h.end; same = h.same; is = h.is; holds = h.holds }; sort = (q, f) }

  -- a side that was computed already
  pub again_side : Stands w → (u : LogicTerm) (y : Side) (js : List MonType) (end : List Value) → ((later : List Value) → Same (length js) end later → SideHolds y u later) → (v : TermValue) → term u w.now w.names ≡ Some v → IsSide y u
      → Sided (again y js) u js end
  again_side stands u (OfNumber c) js end holds v e sort =
      let there : is_some (value_of (term u w.now w.names)) ≡ true = number_there (term u w.now w.names) v (number_in w stands u sort.1) e in record {
        codes = record {
          end = end;
          same = same_all (length js) end;
          is = refl;
          holds = λ later s. record { flag_is = there; value_is = (holds later s).value_is };
        };
        sort = sort;
      }
    where
      number_there : (o : Option TermValue) (v : TermValue) → ((y : Address) → o ≡ Some (Addressed y) → ⊥) → o ≡ Some v → is_some (value_of o) ≡ true
      number_there None v n e = absurd cc
      number_there (Some (Mathematical z)) v n e = refl
      number_there (Some (Addressed x)) v n e = absurd (n x refl)
  again_side stands u (OfPointer c) js end holds v e sort =
      let there : is_some (as_address (term u w.now w.names)) ≡ true = pointer_there (term u w.now w.names) v (pointer_in w stands u sort.1) e in record {
        codes = record {
          end = end;
          same = same_all (length js) end;
          is = refl;
          holds = λ later s. record { flag_is = there; based = (holds later s).based };
        };
        sort = sort;
      }
    where
      pointer_there : (o : Option TermValue) (v : TermValue) → ((z : ℤ) → o ≡ Some (Mathematical z) → ⊥) → o ≡ Some v → is_some (as_address o) ≡ true
      pointer_there None v n e = absurd cc
      pointer_there (Some (Mathematical z)) v n e = absurd (n z refl)
      pointer_there (Some (Addressed x)) v n e = refl

  -- one side and then the other
  pub record BothSides (x y : Side) (t u : LogicTerm) (rs : List MonType) (regs : List Value) : Type 0 where
    pub end : List Value
    pub same : Same (length rs) regs end
    pub is : runs w (before (stmts_of x) (stmts_of y)) regs ≡ Done (Next end) w.target []
    pub first : (later : List Value) → Same (length (used_by y)) end later → SideHolds x t later
    pub second : (later : List Value) → Same (length (used_by y)) end later → SideHolds y u later

  pub both_sides : (x y : Side) (t u : LogicTerm) (rs : List MonType) (regs : List Value) → length rs ≤ length (used_by x) → length (used_by x) ≤ length (used_by y)
      → (h : SideCodes x t rs regs) → SideCodes y u (used_by x) h.end → BothSides x y t u rs regs
  both_sides x y t u rs regs le more h g = record {
    end = g.end;
    same = same_trans (length rs) (length (used_by x)) regs h.end g.end le h.same g.same;
    is = after_runs w (stmts_of x) (stmts_of y) regs h.end h.is ∙ g.is;
    first = λ later s. h.holds later (same_trans (length (used_by x)) (length (used_by y)) h.end g.end later more g.same s);
    second = g.holds;
  }

  -- a literal 0 beside a pointer
  null_held : (x : Code) (t : LogicTerm) (later : List Value) → IsZero t → SideHolds (OfNumber x) t later → HoldsPointer w (null_code x).flag (null_code x).base (null_code x).offset (Some null_address) start_range later
  null_held x t later z h = record {
    flag_is = flag (term t w.now w.names) (zero_is t w.now w.names z) h;
    based = λ y e. let same : null_address ≡ y = some_same null_address y e in subst (λ y. Based w (null_code x).base (null_code x).offset y start_range later) same (null_based w later);
  }
    where
      flag : (o : Option TermValue) → o ≡ Some (Mathematical (pos 0)) → Holds w x.flag x.value (value_of o) later → FlagIs w x.flag true later
      flag o e g = subst (λ b. FlagIs w x.flag b later) (ap (λ o. is_some (value_of o)) e) g.flag_is

  -- a relation, and what the second side holds behind it
  pub record Related (c : Code) (o : Option ℤ) (y : Side) (u : LogicTerm) (rs : List MonType) (regs : List Value) : Type 0 where
    pub codes : Codes w c o rs regs
    pub second : (later : List Value) → Same (length c.used) codes.end later → SideHolds y u later

  module _ (stands : Stands w) (ranges : RangesHold w.seen w.now w.names) (r : Relation) (t u : LogicTerm) (rs : List MonType) (regs : List Value) where
    abbrev says : Option Bool
    says = said_by (related w.now.store r (term t w.now w.names) (term u w.now w.names) 0)

    pub numbers_related : TermRanged w.seen t → TermRanged w.seen u → TermFound w.plan w.now.scope (sorts_held w.held) t → TermFound w.plan w.now.scope (sorts_held w.held) u → (x y : Code)
        → Both w x y (value w stands ranges t) (value w stands ranges u) rs regs
        → Two w x y (relation_value r (type_of_width (wider (width_of t) (width_of u))) (type_of t) (type_of u) x.value y.value) (value w stands ranges t) (value w stands ranges u) (truths says) rs regs
    numbers_related q h f g x y both =
        two_runs w x y (relation_value r (type_of_width (wider (width_of t) (width_of u))) (type_of t) (type_of u) x.value y.value) (value w stands ranges t) (value w stands ranges u) (truths says) rs regs both
        (ap (λ o. is_some (truths o)) is ∙ relation_there (value w stands ranges t) (value w stands ranges u) (relates r))
        (λ later ha hb z e.
        let i = relation_truth (value w stands ranges t) (value w stands ranges u) (relates r) z (sym (ap truths is) ∙ e) in
        relation_has w later r x.value y.value i.0 i.1 (width_of t) (width_of u) (term_fits w stands ranges t f q i.0 i.2) (term_fits w stands ranges u g h i.1 i.3) (ha i.0 i.2) (hb i.1 i.3)
        ∙ ap (λ z. Some (Integer z)) i.4)
      where
        is : says ≡ after (value w stands ranges t) (λ x. after (value w stands ranges u) (λ y. Some (relates r x y)))
        is = relation_says w.now.store r (term t w.now w.names) (term u w.now w.names) (number_in w stands t f) (number_in w stands u g)

    -- behind what was asked of both
    finished : (c : Code) (x y : Side) (o : Option ℤ) (b : BothSides x y t u rs regs) → length (used_by y) ≤ length c.used → AskedOfBoth w c (used_by y) o rs regs b.end → o ≡ truths says → Related c (truths says) y u rs regs
    finished c x y o b more h e =
        subst (λ o. Related c o y u rs regs) e (record {
          codes = h.codes;
          second = λ later s.
              b.second later (same_trans (length (used_by y)) (length (used_by y)) b.end h.codes.end later (omega arith) h.behind (same_less (length (used_by y)) (length c.used) h.codes.end later more s));
        })

    pub related_codes : TermRanged w.seen t → TermRanged w.seen u → (x y : Side) → IsSide x t → IsSide y u → AreSides (is_pointer_term t) (is_pointer_term u) t u → length rs ≤ length (used_by y)
        → length (related_code r t u x y).used ≤ length regs → BothSides x y t u rs regs → Related (related_code r t u x y) (truths says) y u rs regs
    related_codes q h (OfNumber x) (OfNumber y) sx sy sides le room b =
        let two = numbers_related q h sx.1 sy.1 x y (record { end = b.end; same = b.same; is = b.is; first = b.first; second = b.second }) in record { codes = two.codes; second = two.second }
    related_codes q h (OfNumber x) (OfPointer d) sx sy sides le room b =
        let zero : IsZero t = subst (λ m. AreSides false m t u) sy.0 (subst (λ m. AreSides m (is_pointer_term u) t u) sx.0 sides) in
        let both : BothPointers w (null_code x) d (Some null_address) (as_address (term u w.now w.names)) start_range (range_of u) rs regs =
        record { end = b.end; same = b.same; is = b.is; first = λ later s. null_held x t later zero (b.first later s); second = b.second } in
        finished (addresses_code r (is_null_term t) (is_null_term u) (null_code x) d) (OfNumber x) (OfPointer d) (after (as_address (term u w.now w.names)) (λ y. truths (related_addresses w.now.store r null_address y))) b
        (addresses_grows r (is_null_term t) (is_null_term u) (null_code x) d)
        (addresses_codes stands.store_is stands r (is_null_term t) (is_null_term u) (null_code x) d (Some null_address) (as_address (term u w.now w.names)) start_range (range_of u) rs regs le room (λ i. refl)
        (null_is w.plan (sorts_held w.held) u w.now w.names w.now.scope sy.1) both)
        (truths_after (Some null_address) (as_address (term u w.now w.names)) (related_addresses w.now.store r)
        ∙ ap truths (sym (ap (λ o. said_by (related w.now.store r o (term u w.now w.names) 0)) (zero_is t w.now w.names zero)
        ∙ zero_first_says w.now.store r (term u w.now w.names) (pointer_in w stands u sy.1))))
    related_codes q h (OfPointer c) (OfNumber y) sx sy sides le room b =
        let zero : IsZero u = subst (λ m. AreSides true m t u) sy.0 (subst (λ m. AreSides m (is_pointer_term u) t u) sx.0 sides) in
        let both : BothPointers w c (null_code y) (as_address (term t w.now w.names)) (Some null_address) (range_of t) start_range rs regs =
        record { end = b.end; same = b.same; is = b.is; first = b.first; second = λ later s. null_held y u later zero (b.second later s) } in
        finished (addresses_code r (is_null_term t) (is_null_term u) c (null_code y)) (OfPointer c) (OfNumber y) (after (as_address (term t w.now w.names)) (λ x. truths (related_addresses w.now.store r x null_address))) b
        (addresses_grows r (is_null_term t) (is_null_term u) c (null_code y))
        (addresses_codes stands.store_is stands r (is_null_term t) (is_null_term u) c (null_code y) (as_address (term t w.now w.names)) (Some null_address) (range_of t) start_range rs regs le room
        (null_is w.plan (sorts_held w.held) t w.now w.names w.now.scope sx.1) (λ i. refl) both)
        (truths_after (as_address (term t w.now w.names)) (Some null_address) (related_addresses w.now.store r)
        ∙ ap truths (sym (ap (λ o. said_by (related w.now.store r (term t w.now w.names) o 0)) (zero_is u w.now w.names zero)
        ∙ zero_last_says w.now.store r (term t w.now w.names) (pointer_in w stands t sx.1))))
    related_codes q h (OfPointer c) (OfPointer d) sx sy sides le room b =
        finished (addresses_code r (is_null_term t) (is_null_term u) c d) (OfPointer c) (OfPointer d)
        (of_both w (as_address (term t w.now w.names)) (as_address (term u w.now w.names)) (λ x y. truths (related_addresses w.now.store r x y))) b
        (addresses_grows r (is_null_term t) (is_null_term u) c d)
        (addresses_codes stands.store_is stands r (is_null_term t) (is_null_term u) c d (as_address (term t w.now w.names)) (as_address (term u w.now w.names)) (range_of t) (range_of u) rs regs le room
        (null_is w.plan (sorts_held w.held) t w.now w.names w.now.scope sx.1) (null_is w.plan (sorts_held w.held) u w.now w.names w.now.scope sy.1)
        (record { end = b.end; same = b.same; is = b.is; first = b.first; second = b.second }))
        (truths_after (as_address (term t w.now w.names)) (as_address (term u w.now w.names)) (related_addresses w.now.store r)
        ∙ ap truths (sym (addresses_say w.now.store r (term t w.now w.names) (term u w.now w.names) (pointer_in w stands t sx.1) (pointer_in w stands u sy.1))))
