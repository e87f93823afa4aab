-- After the death of a heap block no unit has its record.
use Rattle.std.proofs.Common.{◌≡◌, ℕ, ◌+◌, ◌/◌, ◌<◌, ◌≤◌, ◌⊎◌, inl, inr, Bool, true, false, nat_eq, if◌then◌else◌, Option, Some, None, get_or, refl, sym, ap, ◌∙◌, arith}
use Rattle.std.proofs.lemmas.Bool.{cases_lt, eqb-true, ne_eqb}
use Rattle.std.proofs.lemmas.Option.{none-some, same_Some}
use Rattle.shadow_segments.specs.declared.BlockNote.{BlockNote}
use Rattle.shadow_segments.specs.Shadow.{AreWhole, IsWhole, units, first_unit}
use Rattle.shadow_segments.proofs.Lists.{filled_inside, filled_outside}
use Rattle.mon_syntax.specs.declared.spot.RegionName.TheVariants.{Globals, Stack, Heap}
use Rattle.mon_syntax.specs.declared.spot.Spot.{Spot}
use Rattle.mon_syntax.specs.declared.spot.Spot.TheVariants.{Nowhere, In}
use Rattle.mon_syntax.specs.Questions.{if_numbered}
use Rattle.mon_syntax.specs.Flat.{Flat, number_in, spot_of, dead, free_by, free_spot, flat_free}
use Rattle.mon_syntax.specs.Laws.{IsFreed}

-- units without the record of a block
module _ (f : Flat) (u : ℕ) (n : BlockNote) (whole : AreWhole f.heap.shadow.notes) (there : get_or f.heap.shadow.notes u None ≡ Some n) where
  its_units : IsWhole f.heap.shadow.notes u n
  its_units = whole u n there

  in_none : (v : ℕ) → (v < first_unit n) ⊎ (first_unit n ≤ v) → (v < first_unit n + units n.length) ⊎ (first_unit n + units n.length ≤ v)
      → get_or (dead f Heap n).heap.shadow.notes v None ≡ Some n → ⊥
  in_none v (inl before) o e =
      let same = sym (filled_outside f.heap.shadow.notes (first_unit n) (units n.length) None v None (inl before)) ∙ e in
      let is = (whole v n same).from in
      omega (arith, before, is)
  in_none v (inr from) (inr behind) e =
      let same = sym (filled_outside f.heap.shadow.notes (first_unit n) (units n.length) None v None (inr behind)) ∙ e in
      let is = (whole v n same).below in
      omega (arith, behind, is)
  in_none v (inr from) (inl below) e =
      none-some n (sym (filled_inside f.heap.shadow.notes (first_unit n) (units n.length) None v None its_units.inside from below) ∙ e)

  pub no_unit : (v : ℕ) → get_or (dead f Heap n).heap.shadow.notes v None ≡ Some n → ⊥
  no_unit v e = in_none v (cases_lt v (first_unit n)) (cases_lt v (first_unit n + units n.length)) e

module _ (f g : Flat) (p : ℕ) (whole : AreWhole f.heap.shadow.notes) where
  by_base : (at : ℕ) → spot_of p ≡ In Heap at → (n : BlockNote) → get_or f.heap.shadow.notes (at / 16) None ≡ Some n → n.number ≡ number_in p → (t : Bool) → nat_eq n.base at ≡ t
      → (if t then Some (dead f Heap n) else None) ≡ Some g → IsFreed f g p
  by_base at spot n there number false is e = absurd (none-some g e)
  by_base at spot n there number true is e =
      let base : n.base ≡ at = eqb-true _ _ is in
      record {
        note = n;
        number = number;
        start = spot ∙ ap (In Heap) (sym base);
        there = ap (λ z. get_or f.heap.shadow.notes (z / 16) None) base ∙ there;
        gone = λ v at_v. no_unit f (at / 16) n whole there v (ap (λ (z : Flat). get_or z.heap.shadow.notes v None) (same_Some (dead f Heap n) g e) ∙ at_v);
      }

  by_number : (at : ℕ) → spot_of p ≡ In Heap at → (n : BlockNote) → get_or f.heap.shadow.notes (at / 16) None ≡ Some n → (t : Bool) → nat_eq n.number (number_in p) ≡ t
      → free_by f at (if t then Some n else None) ≡ Some g → IsFreed f g p
  by_number at spot n there false is e = absurd (none-some g e)
  by_number at spot n there true is e = by_base at spot n there (eqb-true _ _ is) (nat_eq n.base at) refl e

  by_note : (at : ℕ) → spot_of p ≡ In Heap at → (o : Option BlockNote) → get_or f.heap.shadow.notes (at / 16) None ≡ o → free_by f at (if_numbered (number_in p) o) ≡ Some g → IsFreed f g p
  by_note at spot None there e = absurd (none-some g e)
  by_note at spot (Some n) there e = by_number at spot n there (nat_eq n.number (number_in p)) refl e

  by_spot : (s : Spot) → spot_of p ≡ s → free_spot f (number_in p) s ≡ Some g → IsFreed f g p
  by_spot Nowhere is e = absurd (none-some g e)
  by_spot (In Globals at) is e = absurd (none-some g e)
  by_spot (In Stack at) is e = absurd (none-some g e)
  by_spot (In Heap at) is e = by_note at is (get_or f.heap.shadow.notes (at / 16) None) refl e

pub freed_has_no_record : (f g : Flat) (p : ℕ) → AreWhole f.heap.shadow.notes → (p ≡ 0 → ⊥) → flat_free f p ≡ Some g → IsFreed f g p
freed_has_no_record f g p whole some e =
    by_spot f g p whole (spot_of p) refl (sym (ap (λ t. if t then Some f else free_spot f (number_in p) (spot_of p)) (ne_eqb p 0 some)) ∙ e)
