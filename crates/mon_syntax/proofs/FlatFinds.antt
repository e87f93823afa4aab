-- The record that a pointer's number finds: that of its block while it lives, and none when it is dead, though its units may have another block's.
use Rattle.std.proofs.Common.{◌≡◌, ◌≢◌, ℕ, suc, ◌+◌, ◌*◌, ◌/◌, Bool, true, false, if◌then◌else◌, List, Option, Some, None, get_or, slice_get, refl, sym, ap, ◌∙◌, arith}
use Rattle.std.proofs.lemmas.Bool.{ne_eqb}
use Rattle.std.proofs.lemmas.Option.{same_Some, slice_get_within}
use Rattle.c_model.specs.Memory.{Block}
use Rattle.shadow_segments.specs.declared.BlockNote.{BlockNote}
use Rattle.mon_syntax.specs.declared.spot.RegionName.{RegionName}
use Rattle.mon_syntax.specs.Questions.{if_numbered, live_at}
use Rattle.mon_syntax.specs.Flat.{Flat, region}
use Rattle.mon_syntax.specs.BlockMemory.{Blocks}
use Rattle.mon_syntax.specs.FlatRelation.{region_of, Place, World, PointsTo, Head, head_of, heads, note_of, notes_in, Laid, Holds}
use Rattle.mon_syntax.proofs.FlatLists.{head_at, length-heads}
use Rattle.mon_syntax.proofs.FlatEntries.{missing}
use Rattle.mon_syntax.proofs.FlatPointers.{note_live}
use Rattle.mon_syntax.proofs.FlatAddresses.{index_is, lies}

-- no unit has the record of a dead block
no_record : (w : World) (hs : List Head) (f : Flat) (name : RegionName) (u index : ℕ) (h : Head) → Laid w hs f → slice_get hs index ≡ Some h → h.live ≡ false
    → (o : Option BlockNote) → get_or (notes_in f name) u None ≡ o → if_numbered (suc index) o ≡ None
no_record w hs f name u index h l at dead None e = refl
no_record w hs f name u index h l at dead (Some n) e =
    let o = l.only name u n e in
    let other : n.number ≢ suc index = λ z.
    let number = ap (λ (q : BlockNote). q.number) o.note in
    let same : o.index ≡ index = omega (arith, z, number) in
    let head : o.head ≡ h = same_Some o.head h (sym o.there ∙ ap (slice_get hs) same ∙ at) in
    let both : true ≡ false = sym o.live ∙ ap (λ (q : Head). q.live) head ∙ dead in
    absurd (cc both) in
    ap (λ t. if t then Some n else None) (ne_eqb n.number (suc index) other)

-- what stands for a pointer into a block: a dead one, or a live one with its record
pub data Found (w : World) (m : Blocks) (f : Flat) (index off : ℕ) (p : Place) : Type 0 where
  Gone : (b : Block) → slice_get m.store index ≡ Some b → b.live ≡ false → live_at (region f p.name) (16 * p.unit + off) (suc index) ≡ None → Found w m f index off p
  There : (b : Block) → slice_get m.store index ≡ Some b → b.live ≡ true → p.size ≡ b.size → p.name ≡ region_of b.kind
      → live_at (region f p.name) (16 * p.unit + off) (suc index) ≡ Some (note_of index (head_of b) p) → Found w m f index off p

pub found : (w : World) (m : Blocks) (f : Flat) (index off x : ℕ) → Holds w m f → (q : PointsTo w (suc index) off x) → Found w m f index off q.place
found w m f index off x h q = by_block (slice_get m.store index) refl
  where
    pl : slice_get w index ≡ Some q.place
    pl = lies w index off x q

    by_live : (b : Block) → slice_get m.store index ≡ Some b → (t : Bool) → b.live ≡ t → Found w m f index off q.place
    by_live b at true live =
        let head = head_at m.store index b at in
        let o = h.laid.lain index (head_of b) q.place head pl live in
        let same = index_is w index off x q in
        let note = note_live w (suc index) off x q (heads m.store) f h.laid (head_of b) (ap (slice_get (heads m.store)) same ∙ head) live in
        There b at live o.size o.name (note ∙ ap (λ i. Some (note_of i (head_of b) q.place)) same)
    by_live b at false dead =
        let u : ℕ = (16 * q.place.unit + off) / 16 in
        Gone b at dead (no_record w (heads m.store) f q.place.name u index (head_of b) h.laid (head_at m.store index b at) dead (get_or (notes_in f q.place.name) u None) refl)

    by_block : (o : Option Block) → slice_get m.store index ≡ o → Found w m f index off q.place
    by_block None at =
        let count = h.laid.count in
        absurd (missing m.store index at (omega (arith, count, length-heads m.store, slice_get_within w index q.place pl)))
    by_block (Some b) at = by_live b at b.live refl
