-- What stands in registers: values that have names in annotations, and terms that are kept at labels.
use Rattle.std.proofs.Common.{◌≡◌, ℕ, suc, ◌+◌, ◌≤◌, ℤ, Bool, true, false, cond, nat_eq, List, [], ◌∷◌, length, Option, Some, None, refl, sym, ap, ◌∙◌, subst, arith}
use Rattle.c_syntax.specs.declared.annotation.Range.{Range}
use Rattle.c_syntax.specs.Logic.{LogicTerm, range_of}
use Rattle.c_model.specs.Integers.{truth}
use Rattle.c_model.specs.Logic.{TermValue, Mathematical, Addressed, Meant, Environment, at_mark, of_value, as_address, look, meant, valued_at}
use Rattle.c_model.specs.Memory.{Value, Integer, Points}
use Rattle.c_model.specs.MemoryQuestions.{Address, address_of}
use Rattle.c_model.specs.Predicates.{term}
use Rattle.c_model.specs.Ranges.{LiesIn}
use Rattle.c_model.specs.PredicateTyping.{place_of_term}
use Rattle.c_model.specs.State.{State, Scope, Mark, mark_of}
use Rattle.c_model.specs.TermRanges.{range_seen}
use Rattle.mon_syntax.specs.Arithmetic.{wrap}
use Rattle.mon_syntax.specs.BlockMemory.{is_some}
use Rattle.mon_syntax.specs.Trees.{Register}
use Rattle.c_effects.specs.Expressions.{in_type}
use Rattle.mon_syntax.specs.declared.tree.MonType.{MonType}
use Rattle.mon_syntax.specs.declared.tree.MonType.TheVariants.{Ptr}
use Rattle.mon_syntax.specs.Checking.{same_type}
use Rattle.c_simulation.specs.Keeping.{Kept, GivesTerm, is_pointer_term, kept_value, registers_by}
use Rattle.c_simulation.specs.SameRegisters.{Same}
use Rattle.c_simulation.proofs.Registers.{gives_same}
use Rattle.annot_simulation.specs.Held.{Held, held_by, held_code, held_pointer, kept_at, kept_code, kept_pointer, sort_held, sorts_held}
use Rattle.annot_simulation.specs.Does.{Setting, Stands, HasKept, IsHeld, IsSorted, Planned, TermFound, PointerFound}
use Rattle.annot_simulation.proofs.Addresses.{PointerCodes, start_codes}
use Rattle.annot_simulation.proofs.Alone.{pointer_named, term_named}
use Rattle.annot_simulation.proofs.Exact.{value_of}
use Rattle.annot_simulation.proofs.Parts.{Codes, sure_codes}
use Rattle.annot_simulation.proofs.Quiet.{AreSorted, IsNoPointer, IsNoNumber, none_sorted}
use Rattle.annot_simulation.proofs.Steps.{in_type_has, same_all, same_trans}
use Rattle.annot_simulation.proofs.Variables.{no_past, number_found, past_pointer, pointer_found, some_same}

-- ---- names

-- a name of a sort is held
pub record Entry (hs : List Held) (x : ℕ) (pointer : Bool) : Type 0 where
  pub held : Held
  pub is : held_by x hs ≡ Some held
  pub sorted : same_type held.kind Ptr ≡ pointer

pub entry_of : (x : ℕ) (hs : List Held) (b : Bool) → sort_held x (sorts_held hs) ≡ Some b → Entry hs x b
entry_of x [] b e = absurd cc
entry_of x (h ∷ hs) b e = by (nat_eq h.number x) refl e (λ f. entry_of x hs b f)
  where
    by : (t : Bool) → nat_eq h.number x ≡ t → cond t (Some (same_type h.kind Ptr)) (sort_held x (sorts_held hs)) ≡ Some b → (sort_held x (sorts_held hs) ≡ Some b → Entry hs x b) → Entry (h ∷ hs) x b
    by true q e go = record { held = h; is = ap (λ t. cond t (Some h) (held_by x hs)) q; sorted = let same : same_type h.kind Ptr ≡ b = cc in same }
    by false q e go =
        let i = go e in record { held = i.held; is = ap (λ t. cond t (Some h) (held_by x hs)) q ∙ i.is; sorted = i.sorted }

integer_value : (v : Value) → IsSorted false v → IsNoPointer (of_value (Some v))
integer_value v s y e = let no : of_value (Some (Integer s.0)) ≡ Some (Addressed y) = sym (ap (λ u. of_value (Some u)) s.1) ∙ e in absurd cc

pointer_value : (v : Value) → IsSorted true v → IsNoNumber (of_value (Some v))
pointer_value v s z e = let no : of_value (Some (Points s.0)) ≡ Some (Mathematical z) = sym (ap (λ u. of_value (Some u)) s.1) ∙ e in absurd cc

pub stands_sorted : (w : Setting) → Stands w → AreSorted (sorts_held w.held) w.now w.names
stands_sorted w stands = record {
  numbers = λ x q y e.
      let i = entry_of x w.held false q in
      let h = stands.held x i.held i.is in
      integer_value h.value (subst (λ b. IsSorted b h.value) i.sorted h.sorted) y (sym h.is ∙ e);
  pointers = λ x q z e.
      let i = entry_of x w.held true q in
      let h = stands.held x i.held i.is in
      pointer_value h.value (subst (λ b. IsSorted b h.value) i.sorted h.sorted) z (sym h.is ∙ e);
}

pub number_in : (w : Setting) → Stands w → (t : LogicTerm) → TermFound w.plan w.now.scope (sorts_held w.held) t → IsNoPointer (term t w.now w.names)
number_in w stands t f = number_found w.plan (sorts_held w.held) t w.now w.names w.now.scope (stands_sorted w stands) f

pub pointer_in : (w : Setting) → Stands w → (t : LogicTerm) → PointerFound w.plan w.now.scope (sorts_held w.held) t → IsNoNumber (term t w.now w.names)
pointer_in w stands t f = pointer_found w.plan (sorts_held w.held) t w.now w.names w.now.scope (stands_sorted w stands) f

-- ---- values of names

module _ (w : Setting) (stands : Stands w) (x : ℕ) where
  name : Option TermValue
  name = meant w.now (look x w.names)

  pub held_codes : (k : MonType) → sort_held x (sorts_held w.held) ≡ Some false → ((z : ℤ) → value_of (meant w.now (look x w.names)) ≡ Some z → wrap k z ≡ z) → (rs : List MonType) (regs : List Value) → w.low ≤ length rs → Same w.low w.regs regs
      → Codes w (held_code k (held_by x w.held) rs) (value_of (meant w.now (look x w.names))) rs regs
  held_codes k q fits rs regs le near =
      subst (λ o. Codes w (held_code k o rs) (value_of (meant w.now (look x w.names))) rs regs) (sym i.is)
      (sure_codes w (in_type i.held.kind k (Register i.held.register)) (value_of (meant w.now (look x w.names))) s.0 rs regs means
      (λ later same. in_type_has w i.held.kind k (Register i.held.register) later s.0 (fits s.0 means) (h.holds later (same_trans w.low (length rs) w.regs regs later le near same) ∙ ap Some s.1)))
    where
      i : Entry w.held x false
      i = entry_of x w.held false q

      h : IsHeld w x i.held
      h = stands.held x i.held i.is

      s : IsSorted false h.value
      s = subst (λ b. IsSorted b h.value) i.sorted h.sorted

      means : value_of (meant w.now (look x w.names)) ≡ Some s.0
      means = ap value_of h.is ∙ ap (λ v. value_of (of_value (Some v))) s.1

  pub held_pointer_codes : (r : Range) → sort_held x (sorts_held w.held) ≡ Some true → range_seen x w.seen ≡ Some r → (rs : List MonType) (regs : List Value) → w.low ≤ length rs → Same w.low w.regs regs
      → PointerCodes w (held_pointer (held_by x w.held) rs) (as_address (meant w.now (look x w.names))) r rs regs
  held_pointer_codes r q seen rs regs le near =
      subst (λ o. PointerCodes w (held_pointer o rs) (as_address (meant w.now (look x w.names))) r rs regs) (sym i.is)
      (start_codes w (Register i.held.register) s.0 (as_address (meant w.now (look x w.names))) r rs regs means s.2 (h.starts i.sorted r seen)
      (λ later same. h.holds later (same_trans w.low (length rs) w.regs regs later le near same) ∙ ap Some s.1))
    where
      i : Entry w.held x true
      i = entry_of x w.held true q

      h : IsHeld w x i.held
      h = stands.held x i.held i.is

      s : IsSorted true h.value
      s = subst (λ b. IsSorted b h.value) i.sorted h.sorted

      means : as_address (meant w.now (look x w.names)) ≡ Some (address_of s.0)
      means = ap as_address h.is ∙ ap (λ v. as_address (of_value (Some v))) s.1

-- ---- terms that are kept

-- the value at the last passage of a label
abbrev pub past : Option ℕ → List Mark → Meant → Option TermValue
past l marks f = valued_at (at_mark (mark_of l marks)) f

past_same : (o : Option State) (f g : Meant) → ((u : State) → f u ≡ g u) → valued_at o f ≡ valued_at o g
past_same None f g h = refl
past_same (Some u) f g h = h u

kept_is : (k : Kept) (l : Option ℕ) (a : LogicTerm) (marks : List Mark) (e : Environment) → k.label ≡ l → k.term ≡ a → ((u : State) → term a u e ≡ term a u []) → past l marks (λ u. term a u e) ≡ kept_value k marks
kept_is k l a marks e label_is term_is alone =
    past_same (at_mark (mark_of l marks)) (λ u. term a u e) (λ u. term a u []) alone
    ∙ (λ i. past (sym label_is i) marks (λ u. term (sym term_is i) u []))

number_there : (o : Option TermValue) → IsNoPointer o → is_some (value_of o) ≡ is_some o
number_there None n = refl
number_there (Some (Mathematical z)) n = refl
number_there (Some (Addressed x)) n = absurd (n x refl)

number_of : (o : Option TermValue) (z : ℤ) → value_of o ≡ Some z → o ≡ Some (Mathematical z)
number_of None z e = absurd cc
number_of (Some (Mathematical y)) z e = ap (λ y. Some (Mathematical y)) (some_same y z e)
number_of (Some (Addressed y)) z e = absurd cc

pointer_there : (o : Option TermValue) → IsNoNumber o → is_some (as_address o) ≡ is_some o
pointer_there None n = refl
pointer_there (Some (Mathematical z)) n = absurd (n z refl)
pointer_there (Some (Addressed x)) n = refl

pointer_of : (o : Option TermValue) (x : Address) → as_address o ≡ Some x → o ≡ Some (Addressed x)
pointer_of None x e = absurd cc
pointer_of (Some (Mathematical z)) x e = absurd cc
pointer_of (Some (Addressed y)) x e = ap (λ y. Some (Addressed y)) (some_same y x e)

module _ (w : Setting) (stands : Stands w) (l : Option ℕ) (a : LogicTerm) (p : Planned w.plan l a) (rs : List MonType) (regs : List Value) (le : w.low ≤ length rs) (near : Same w.low w.regs regs) where
  abbrev there : Option TermValue
  there = past l w.now.marks (λ u. term a u w.names)

  kept : HasKept w p.entry
  kept = stands.keeps (place_of_term a).offset p.entry p.is

  gives : (later : List Value) → Same (length rs) regs later → GivesTerm p.entry.term (kept_value p.entry w.now.marks) p.entry.register later
  gives later s =
      gives_same w.low p.entry.term (kept_value p.entry w.now.marks) p.entry.register w.regs later (is_pointer_term p.entry.term) refl kept.below (same_trans w.low (length rs) w.regs regs later le near s) kept.gives

  pub kept_codes : (scope : Scope) → TermFound [] scope [] a → Codes w (kept_code (kept_at (place_of_term a).offset w.plan) rs) (value_of there) rs regs
  kept_codes scope f =
      subst (λ o. Codes w (kept_code o rs) (value_of there) rs regs) (sym p.is)
      (record {
        end = regs;
        same = same_all (length rs) regs;
        is = refl;
        holds = λ later s. record {
          flag_is = (gives later s).flag_is ∙ ap (λ b. Some (Integer (truth b))) (sym (number_there there numeric ∙ ap is_some is));
          value_is = λ z e. (gives later s).value_is z (sym is ∙ number_of there z e);
        };
      })
    where
      is : there ≡ kept_value p.entry w.now.marks
      is = kept_is p.entry l a w.now.marks w.names p.label_is p.term_is (λ u. term_named a u w.names scope f)

      numeric : IsNoPointer there
      numeric = no_past (at_mark (mark_of l w.now.marks)) (λ u. term a u w.names) (λ u. number_found [] [] a u w.names scope (none_sorted u w.names) f)

  pub kept_pointer_codes : (scope : Scope) (r : Range) → PointerFound [] scope [] a → is_pointer_term a ≡ true → range_of a ≡ r
      → PointerCodes w (kept_pointer (kept_at (place_of_term a).offset w.plan) rs) (as_address there) r rs regs
  kept_pointer_codes scope r f sort range =
      subst (λ o. PointerCodes w (kept_pointer o rs) (as_address there) r rs regs) (sym p.is)
      (record {
        end = regs;
        same = same_all (length rs) regs;
        is = refl;
        flag_is = λ later s. (gives later s).flag_is ∙ ap (λ b. Some (Integer (truth b))) (sym (pointer_there there pointing ∙ ap is_some is));
        placed = λ x e.
            let g = kept.gives.pointer_is sorted x (sym is ∙ pointer_of there x e) in record {
              pointer = g.pointer;
              distance = g.distance;
              base_is = λ later s. (on later s).below (suc p.entry.register) (omega (arith, room)) ∙ g.base_is;
              offset_is = λ later s. (on later s).below (suc (suc p.entry.register)) (omega (arith, room)) ∙ g.offset_is;
              is = g.is;
              small = g.small;
              lies = subst (λ r. LiesIn r g.distance) (ap range_of p.term_is ∙ range) g.lies;
            };
      })
    where
      is : there ≡ kept_value p.entry w.now.marks
      is = kept_is p.entry l a w.now.marks w.names p.label_is p.term_is (λ u. pointer_named a u w.names scope f)

      pointing : IsNoNumber there
      pointing = past_pointer (at_mark (mark_of l w.now.marks)) (λ u. term a u w.names) (λ u. pointer_found [] [] a u w.names scope (none_sorted u w.names) f)

      sorted : is_pointer_term p.entry.term ≡ true
      sorted = ap is_pointer_term p.term_is ∙ sort

      room : p.entry.register + 3 ≤ w.low
      room = subst (λ b. p.entry.register + registers_by b ≤ w.low) sorted kept.below

      on : (later : List Value) → Same (length rs) regs later → Same w.low w.regs later
      on later s = same_trans w.low (length rs) w.regs regs later le near s
