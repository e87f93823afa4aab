-- The records of units, of which some in a row of one region are replaced; and what lies elsewhere.
use Rattle.std.proofs.Common.{◌≡◌, ◌≢◌, ℕ, ◌+◌, ◌*◌, ◌<◌, ◌≤◌, ◌⊎◌, inl, inr, ⊎_elim, length, Option, None, get_or, sym, ap, ◌∙◌, arith}
use Rattle.std.proofs.lemmas.Bool.{cases_lt}
use Rattle.shadow_segments.specs.declared.BlockNote.{BlockNote}
use Rattle.shadow_segments.specs.Shadow.{units, filled}
use Rattle.shadow_segments.proofs.Lists.{length-filled, filled_inside, filled_outside}
use Rattle.mon_syntax.specs.declared.spot.RegionName.{RegionName}
use Rattle.mon_syntax.specs.Flat.{Flat}
use Rattle.mon_syntax.specs.FlatRelation.{Place, Apart, notes_in}
use Rattle.mon_syntax.proofs.FlatLists.{same_region, at_region}

-- another region, or a place before or after so many
abbrev pub Elsewhere : RegionName → ℕ → ℕ → RegionName → ℕ → Type 0
Elsewhere name from count other i = (name ≢ other) ⊎ ((i < from) ⊎ (from + count ≤ i))

-- elsewhere, or here
pub where_is : (name other : RegionName) (u k v : ℕ) → Elsewhere name u k other v ⊎ ((name ≡ other) × ((u ≤ v) × (v < u + k)))
where_is name other u k v = ⊎_elim (λ e. by e (cases_lt v u) (cases_lt v (u + k))) (λ ne. inl (inl ne)) (same_region name other)
  where
    by : name ≡ other → (v < u) ⊎ (u ≤ v) → (v < u + k) ⊎ (u + k ≤ v) → Elsewhere name u k other v ⊎ ((name ≡ other) × ((u ≤ v) × (v < u + k)))
    by e (inl before) o = inl (inr (inl before))
    by e (inr from) (inl below) = inr (e, (from, below))
    by e (inr from) (inr behind) = inl (inr (inr behind))

-- units and bytes of a block that lies apart are elsewhere
pub apart_units : (p q : Place) (i : ℕ) → Apart p q → i < units p.size → Elsewhere q.name q.unit (units q.size) p.name (p.unit + i)
apart_units p q i (inl ne) lt = inl (λ e. ne (sym e))
apart_units p q i (inr (inl a)) lt = inr (inl (omega (arith, a, lt)))
apart_units p q i (inr (inr a)) lt = inr (inr (omega (arith, a, lt)))

pub apart_bytes : (p q : Place) (i : ℕ) → Apart p q → i < p.size → Elsewhere q.name (16 * q.unit) (16 * units q.size) p.name (16 * p.unit + i)
apart_bytes p q i (inl ne) lt = inl (λ e. ne (sym e))
apart_bytes p q i (inr (inl a)) lt = inr (inl (omega (arith, a, lt)))
apart_bytes p q i (inr (inr a)) lt = inr (inr (omega (arith, a, lt)))

-- so many records of a region are replaced by one
module _ (f g : Flat) (name : RegionName) (u k : ℕ) (note : Option BlockNote) (here : notes_in g name ≡ filled (notes_in f name) u k note)
    (others : (other : RegionName) → name ≢ other → notes_in g other ≡ notes_in f other) where
  pub units_stay : (other : RegionName) → length (notes_in g other) ≡ length (notes_in f other)
  units_stay other =
      at_region (λ z. length (notes_in g z) ≡ length (notes_in f z)) name other (ap length here ∙ length-filled (notes_in f name) u k note) (λ ne. ap length (others other ne))

  -- records of other units stay
  pub note_elsewhere : (other : RegionName) (v : ℕ) → Elsewhere name u k other v → get_or (notes_in g other) v None ≡ get_or (notes_in f other) v None
  note_elsewhere other v (inl ne) = ap (λ z. get_or z v None) (others other ne)
  note_elsewhere other v (inr out) =
      at_region (λ z. get_or (notes_in g z) v None ≡ get_or (notes_in f z) v None) name other (ap (λ z. get_or z v None) here ∙ filled_outside (notes_in f name) u k note v None out)
      (λ ne. ap (λ z. get_or z v None) (others other ne))

  -- and this one is at these
  pub note_here : (v : ℕ) → u + k ≤ length (notes_in f name) → u ≤ v → v < u + k → get_or (notes_in g name) v None ≡ note
  note_here v room from below = ap (λ z. get_or z v None) here ∙ filled_inside (notes_in f name) u k note v None room from below
