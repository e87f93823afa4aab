-- The frames of calls: flat memory goes on to stand for the blocks.
use Rattle.std.proofs.Common.{◌≡◌, ℕ, ◌+◌, ◌-◌, ◌*◌, ◌≤◌, ℤ, pos, Bool, true, false, nat_lt, if◌then◌else◌, length}
use Rattle.std.proofs.Common.{Some, None, get_or, slice_get, refl, sym, ap, ap₂, ◌∙◌, subst}
use Rattle.c_syntax.specs.declared.types.Segment.TheVariants as segment
use Rattle.c_model.specs.Limits.{most_frames}
use Rattle.c_model.specs.Memory.{Value, Integer, Unwritten, Block}
use Rattle.shadow_segments.specs.Shadow as shadow
use Rattle.shadow_segments.specs.Shadow.{units}
use Rattle.mon_syntax.specs.declared.spot.RegionName.{RegionName}
use Rattle.mon_syntax.specs.declared.spot.RegionName.TheVariants.{Globals, Stack, Heap}
use Rattle.mon_syntax.specs.Memory.{Reply, Gives, IsFull}
use Rattle.mon_syntax.specs.Flat.{Flat, region, flat_enter, flat_leave}
use Rattle.mon_syntax.specs.BlockMemory.{Blocks, enter_blocks}
use Rattle.mon_syntax.specs.FlatMemory.{valued}
use Rattle.mon_syntax.specs.Following.{Replied}
use Rattle.mon_syntax.specs.FlatRelation.{most_bytes, Place, World, Later, Same, SameByte, heads, Laid, Held, Holds}
use Rattle.mon_syntax.proofs.FlatWorlds.{later_refl}

abbrev pub Answers : World → Reply Blocks Value → Reply Flat ℤ → Type 0
Answers = Replied World Later Same Holds

-- ---- frames

-- a memory with the same regions, births and top
module _ (w : World) (m : Blocks) (f g : Flat) (regions : (name : RegionName) → region g name ≡ region f name) (births : g.births ≡ f.births) (top : g.top ≡ f.top)
    (h : Holds w m f) where
  laid_same : Laid w (heads m.store) g
  laid_same = let l = h.laid in record {
    count = l.count;
    births = births ∙ l.births;
    numbers = l.numbers;
    top = top ∙ l.top;
    sized = λ name. subst (λ r. length r.bytes ≡ 16 * length r.shadow.notes) (sym (regions name)) (l.sized name);
    marked = λ name. subst (λ r. length r.shadow.marks ≡ 16 * length r.shadow.notes) (sym (regions name)) (l.marked name);
    small = λ name. subst (λ r. 16 * length r.shadow.notes ≤ most_bytes name) (sym (regions name)) (l.small name);
    lain = λ b i p at pl live.
        let o = l.lain b i p at pl live in
        record { size = o.size; name = o.name; inside = subst (λ r. p.unit + units p.size ≤ length r.shadow.notes) (sym (regions p.name)) o.inside; placed = o.placed };
    tight = l.tight;
    noted = λ b i p at pl live j lt. ap (λ r. get_or r.shadow.notes (p.unit + j) None) (regions p.name) ∙ l.noted b i p at pl live j lt;
    only = λ name u n e. l.only name u n (ap (λ r. get_or r.shadow.notes u None) (sym (regions name)) ∙ e);
    apart = l.apart;
  }

  held_same : (b : ℕ) (c : Block) (p : Place) → slice_get m.store b ≡ Some c → slice_get w b ≡ Some p → c.live ≡ true → Held w p c g
  held_same b c p at pl live = let o = h.held b c p at pl live in record {
    size = o.size;
    bytes = λ i lt.
        subst (λ r. SameByte w (get_or c.bytes i Unwritten) (get_or r.shadow.marks (16 * p.unit + i) shadow.Unwritten) (get_or r.bytes (16 * p.unit + i) 0)) (sym (regions p.name)) (o.bytes i lt);
  }

with_frames : (w : World) (m : Blocks) (f : Flat) (j k : ℕ) → j ≡ k → Holds w m f → Holds w (record m { frames = j }) (record f { frames = k })
with_frames w m f j k e h = record {
  frames = e;
  most = h.most;
  globals = h.globals;
  stack = h.stack;
  heap = h.heap;
  laid = laid_same w m f (record f { frames = k }) same refl refl h;
  held = held_same w m f (record f { frames = k }) same refl refl h;
  together = h.together;
}
  where
    same : (name : RegionName) → region (record f { frames = k }) name ≡ region f name
    same Globals = refl
    same Stack = refl
    same Heap = refl

pub enter_alike : (w : World) (m : Blocks) (f : Flat) → Holds w m f → Answers w (enter_blocks m) (valued (flat_enter f))
enter_alike w m f h =
    subst (λ z. Answers w (enter_blocks m) (valued (if z then Gives 0 (record f { frames = f.frames + 1 }) else IsFull segment.Frames))) (ap₂ nat_lt h.frames (sym h.most)) (by (nat_lt m.frames most_frames))
  where
    by : (t : Bool)
        → Answers w (if t then Gives (Integer (pos 0)) (record m { frames = m.frames + 1 }) else IsFull segment.Frames) (valued (if t then Gives 0 (record f { frames = f.frames + 1 }) else IsFull segment.Frames))
    by true = (w, later_refl w, refl, with_frames w m f (m.frames + 1) (f.frames + 1) (ap (λ k. k + 1) h.frames) h)
    by false = refl

pub leave_alike : (w : World) (m : Blocks) (f : Flat) → Holds w m f → Holds w (record m { frames = m.frames - 1 }) (flat_leave f)
leave_alike w m f h = with_frames w m f (m.frames - 1) (f.frames - 1) (ap (λ k. k - 1) h.frames) h
