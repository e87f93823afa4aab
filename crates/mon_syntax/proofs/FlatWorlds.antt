-- Worlds grow, and what one value or byte stands for stays as they do.
use Rattle.std.proofs.Common.{◌≡◌, ℕ, ℤ, pos, [], ◌++◌, Some, slice_get, refl, sym, ap, ◌∙◌}
use Rattle.std.proofs.lemmas.List.{append-nil, append_assoc}
use Rattle.c_model.specs.Memory.{Pointer, Null, Into, Value, Integer, Points, NoValue, Byte, Unwritten, Number, Piece, LoosePiece}
use Rattle.shadow_segments.specs.Shadow.{Mark}
use Rattle.mon_syntax.specs.BlockMemory.{integer_of}
use Rattle.mon_syntax.specs.Following.{Kept}
use Rattle.mon_syntax.specs.FlatRelation.{World, Later, SamePointer, Same, SameByte}
use Rattle.mon_syntax.proofs.FlatLists.{get_front}

pub later_refl : (w : World) → Later w w
later_refl w = record { more = []; is = sym (append-nil w) }

pub later_trans : (u v w : World) → Later u v → Later v w → Later u w
later_trans u v w h g = record { more = h.more ++ g.more; is = g.is ∙ ap (λ l. l ++ g.more) h.is ∙ append_assoc u h.more g.more }

pub pointer_later : (u v : World) (p : Pointer) (x : ℕ) → Later u v → SamePointer u p x → SamePointer v p x
pointer_later u v Null x le h = h
pointer_later u v (Into number offset) x le h = record {
  index = h.index;
  place = h.place;
  is_number = h.is_number;
  there = ap (λ l. slice_get l h.index) le.is ∙ get_front u le.more h.index h.place h.there;
  small = h.small;
  inside = h.inside;
  within = h.within;
  is = h.is;
}

pub same_later : (u v : World) (a : Value) (b : ℤ) → Later u v → Same u a b → Same v a b
same_later u v (Integer z) b le h = h
same_later u v (Points p) b le h = (h.0, h.1, pointer_later u v p h.0 le h.2)
same_later u v NoValue b le h = h

pub byte_later : (u v : World) (y : Byte) (m : Mark) (x : ℕ) → Later u v → SameByte u y m x → SameByte v y m x
byte_later u v Unwritten m x le h = h
byte_later u v (Number n) m x le h = h
byte_later u v (Piece p k) m x le h = (h.0, h.1, pointer_later u v p h.1 le h.2, h.3)
byte_later u v LoosePiece m x le h = h

pub same_number : (w : World) (a : Value) (b : ℤ) → Same w a b → Kept (λ i j. i ≡ j) (integer_of a) (Some b)
same_number w (Integer z) b h = h
same_number w (Points p) b h = tt
same_number w NoValue b h = tt

pub same_null : (w : World) → Same w (Points Null) (pos 0)
same_null w = (0, refl, refl)
