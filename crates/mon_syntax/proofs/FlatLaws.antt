-- The laws of the relation between blocks and flat memory.
use Rattle.std.proofs.Common.{◌≡◌, suc, ◌+◌, ◌*◌, get_or, slice_get, sym, ap, ◌∙◌, subst, arith}
use Rattle.std.proofs.lemmas.Bool.{false≢true}
use Rattle.std.proofs.lemmas.Option.{same_Some}
use Rattle.c_model.specs.Memory.{Piece}
use Rattle.shadow_segments.specs.declared.BlockNote.{BlockNote}
use Rattle.shadow_segments.specs.Shadow as shadow
use Rattle.mon_syntax.specs.FlatRelation.{SameByte, Head, head_of, heads, marks_in, bytes_in}
use Rattle.mon_syntax.specs.FlatLaws.{PlacesStay, DeadHaveNoRecord, PointersLieInUnits, PiecesHaveTheirBytes, PiecesAreOfOne}
use Rattle.mon_syntax.proofs.FlatLists.{get_front, head_at}
use Rattle.mon_syntax.proofs.FlatPointers.{number_is, spot_of_pointer}

pub places_stay : PlacesStay
places_stay u v b p le at = ap (λ l. slice_get l b) le.is ∙ get_front u le.more b p at

pub dead_have_no_record : DeadHaveNoRecord
dead_have_no_record w m f h b k at dead name u n e same =
    let o = h.laid.only name u n e in
    let number : suc o.index ≡ suc b = sym (ap (λ (z : BlockNote). z.number) o.note) ∙ same in
    let index : b ≡ o.index = omega (arith, number) in
    let head : head_of k ≡ o.head = same_Some (head_of k) o.head (sym (head_at m.store b k at) ∙ ap (slice_get (heads m.store)) index ∙ o.there) in
    false≢true (sym dead ∙ ap (λ (z : Head). z.live) head ∙ o.live)

pub pointers_lie_in_units : PointersLieInUnits
pointers_lie_in_units w number offset x q =
    let inside = q.inside in
    record { number_is = number_is w number offset x q; spot_is = spot_of_pointer w number offset x q; below = omega (arith, inside) }

pub pieces_have_their_bytes : PiecesHaveTheirBytes
pieces_have_their_bytes w m f h b c p at pl live i k q lt e =
    let mark = get_or (marks_in f p.name) (16 * p.unit + i) shadow.Unwritten in
    let byte = get_or (bytes_in f p.name) (16 * p.unit + i) 0 in
    let s : SameByte w (Piece q k) mark byte = subst (λ z. SameByte w z mark byte) e ((h.held b c p at pl live).bytes i lt) in
    record { mark_is = s.0; own = (h.together b c at).1.own i k q e; value = s.1; same = s.2; byte_is = s.3 }

pub pieces_are_of_one : PiecesAreOfOne
pieces_are_of_one w m f h b c at i j k l p q group e d = (h.together b c at).1.one i j k l p q group e d
