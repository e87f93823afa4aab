-- What the birth of a block does to its region, and so to flat memory.
use Rattle.std.proofs.Common.{◌≡◌, ◌≢◌, ℕ, ◌+◌, ◌*◌, ◌<◌, ◌≤◌, ◌⊎◌, ⊎_elim, if◌then◌else◌, length, Some, None, get_or, refl, ap, ◌∙◌, arith}
use Rattle.c_syntax.specs.declared.types.BlockKind.{BlockKind}
use Rattle.c_model.specs.Memory.{is_stack, rounded}
use Rattle.shadow_segments.specs.declared.BlockNote.{BlockNote}
use Rattle.shadow_segments.specs.Shadow.{Unwritten, units, first_unit, filled}
use Rattle.shadow_segments.proofs.Lists.{length-filled, filled_inside, filled_outside}
use Rattle.mon_syntax.specs.declared.spot.RegionName.{RegionName}
use Rattle.mon_syntax.specs.Regions.{Region, with_birth, with_death}
use Rattle.mon_syntax.specs.Flat.{Flat, region}
use Rattle.mon_syntax.specs.FlatRelation.{region_of}
use Rattle.mon_syntax.proofs.FlatLists.{at_region}
use Rattle.mon_syntax.proofs.FlatBirths.{IsBorn}

-- the record of a new block
abbrev pub new_note : Flat → BlockKind → ℕ → ℕ → BlockNote
new_note f k u n = record { base = 16 * u; length = n; number = f.births + 1; kind = k }

-- a region in which a block with this record was born at a unit
pub record BornIn (r s : Region) (note : BlockNote) (u : ℕ) : Type 0 where
  pub notes : s.shadow.notes ≡ filled r.shadow.notes u (units note.length) (Some note)
  pub bytes_long : length s.bytes ≡ length r.bytes
  pub marks_long : length s.shadow.marks ≡ length r.shadow.marks
  pub bytes : (i : ℕ) → (i < 16 * u) ⊎ (16 * u + 16 * units note.length ≤ i) → get_or s.bytes i 0 ≡ get_or r.bytes i 0
  pub marks : (i : ℕ) → (i < 16 * u) ⊎ (16 * u + 16 * units note.length ≤ i) → get_or s.shadow.marks i Unwritten ≡ get_or r.shadow.marks i Unwritten

pub is_born : (f g : Flat) (k : BlockKind) (u n : ℕ) → g.frames ≡ f.frames → g.most_frames ≡ f.most_frames → g.births ≡ f.births + 1
    → g.top ≡ f.top + (if is_stack k then rounded n else 0) → BornIn (region f (region_of k)) (region g (region_of k)) (new_note f k u n) u
    → ((name : RegionName) → region_of k ≢ name → region g name ≡ region f name) → IsBorn f g k u n
is_born f g k u n frames most births top here others = record {
  frames = frames;
  most_frames = most;
  births = births;
  top = top;
  notes = here.notes;
  other_notes = λ name ne. ap (λ r. r.shadow.notes) (others name ne);
  bytes_long = λ name. at_region (λ z. length (region g z).bytes ≡ length (region f z).bytes) (region_of k) name here.bytes_long (λ ne. ap (λ r. length r.bytes) (others name ne));
  marks_long = λ name.
      at_region (λ z. length (region g z).shadow.marks ≡ length (region f z).shadow.marks) (region_of k) name here.marks_long (λ ne. ap (λ r. length r.shadow.marks) (others name ne));
  bytes = λ name i out. ⊎_elim (λ ne. old_byte name i ne) (λ away. at_region (λ z. get_or (region g z).bytes i 0 ≡ get_or (region f z).bytes i 0) (region_of k) name (here.bytes i away) (old_byte name i)) out;
  marks = λ name i out.
      ⊎_elim (λ ne. old_mark name i ne)
      (λ away. at_region (λ z. get_or (region g z).shadow.marks i Unwritten ≡ get_or (region f z).shadow.marks i Unwritten) (region_of k) name (here.marks i away) (old_mark name i)) out;
}
  where
    old_byte : (name : RegionName) (i : ℕ) → region_of k ≢ name → get_or (region g name).bytes i 0 ≡ get_or (region f name).bytes i 0
    old_byte name i ne = ap (λ r. get_or r.bytes i 0) (others name ne)

    old_mark : (name : RegionName) (i : ℕ) → region_of k ≢ name → get_or (region g name).shadow.marks i Unwritten ≡ get_or (region f name).shadow.marks i Unwritten
    old_mark name i ne = ap (λ r. get_or r.shadow.marks i Unwritten) (others name ne)

-- ---- a region with the record of a block at a unit

module _ (r : Region) (note : BlockNote) (u : ℕ) (base : note.base ≡ 16 * u) where
  unit_is : first_unit note ≡ u
  unit_is = omega (arith, base)

  pub notes_born : (with_birth r note).shadow.notes ≡ filled r.shadow.notes u (units note.length) (Some note)
  notes_born = ap (λ v. filled r.shadow.notes v (units note.length) (Some note)) unit_is

  pub marks_born : (with_birth r note).shadow.marks ≡ filled r.shadow.marks (16 * u) (16 * units note.length) Unwritten
  marks_born = ap (λ v. filled r.shadow.marks (16 * v) (16 * units note.length) Unwritten) unit_is

  pub unwritten_born : (i : ℕ) → 16 * u + 16 * units note.length ≤ length r.shadow.marks → i < 16 * units note.length → get_or (with_birth r note).shadow.marks (16 * u + i) Unwritten ≡ Unwritten
  unwritten_born i room lt =
      ap (λ z. get_or z (16 * u + i) Unwritten) marks_born ∙ filled_inside r.shadow.marks (16 * u) (16 * units note.length) Unwritten (16 * u + i) Unwritten room (omega arith) (omega (arith, lt))

  pub born_in : BornIn r (with_birth r note) note u
  born_in = record {
    notes = notes_born;
    bytes_long = refl;
    marks_long = ap length marks_born ∙ length-filled r.shadow.marks (16 * u) (16 * units note.length) Unwritten;
    bytes = λ i out. refl;
    marks = λ i out. ap (λ z. get_or z i Unwritten) marks_born ∙ filled_outside r.shadow.marks (16 * u) (16 * units note.length) Unwritten i Unwritten out;
  }

  pub notes_died : (with_death r note).shadow.notes ≡ filled r.shadow.notes u (units note.length) None
  notes_died = ap (λ v. filled r.shadow.notes v (units note.length) None) unit_is
