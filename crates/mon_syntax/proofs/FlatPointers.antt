-- The two halves of a pointer's number: the number of its block, and the place that its address is.
use Rattle.std.proofs.Common.{◌≡◌, ℕ, suc, ◌+◌, ◌-◌, ◌*◌, ◌/◌, ◌%◌, ◌^◌, ◌<◌, List, get_or, slice_get, Some, None, true, false, nat_lt, if◌then◌else◌, sym, ap, ◌∙◌, arith}
use Rattle.std.proofs.lemmas.Bool.{eq-eqb, lt-ltb, le-ltb}
use Rattle.mon_syntax.specs.declared.spot.RegionName.{RegionName}
use Rattle.mon_syntax.specs.declared.spot.RegionName.TheVariants.{Globals, Stack, Heap}
use Rattle.mon_syntax.specs.declared.spot.Spot.TheVariants.{In}
use Rattle.mon_syntax.specs.Questions.{if_numbered, live_at}
use Rattle.mon_syntax.specs.Flat.{Flat, region, start_of, spot_at, spot_of, number_in}
use Rattle.mon_syntax.specs.FlatRelation.{World, PointsTo, Head, Laid, note_of, notes_in, most_bytes}

-- an address of a region is one of 32 bits
pub address_fits : (name : RegionName) (i : ℕ) → i < most_bytes name → start_of name + i < 2 ^ 32
address_fits Globals i lt = omega (arith, lt)
address_fits Stack i lt = omega (arith, lt)
address_fits Heap i lt = omega (arith, lt)

-- and lies in it
pub spot_is : (name : RegionName) (i a : ℕ) → i < most_bytes name → a ≡ start_of name + i → spot_at a ≡ In name i
spot_is Globals i a lt e =
    let no : nat_lt a 268435456 ≡ false = le-ltb _ _ (omega (arith, e)) in
    let here : nat_lt a 1073741824 ≡ true = lt-ltb _ _ (omega (arith, e, lt)) in
    let rest : a - 268435456 ≡ i = omega (arith, e) in
    rw (no, here) (ap (In Globals) rest)
spot_is Stack i a lt e =
    let no : nat_lt a 268435456 ≡ false = le-ltb _ _ (omega (arith, e)) in
    let not_first : nat_lt a 1073741824 ≡ false = le-ltb _ _ (omega (arith, e)) in
    let here : nat_lt a 2147483648 ≡ true = lt-ltb _ _ (omega (arith, e, lt)) in
    let rest : a - 1073741824 ≡ i = omega (arith, e) in
    rw (no, not_first, here) (ap (In Stack) rest)
spot_is Heap i a lt e =
    let no : nat_lt a 268435456 ≡ false = le-ltb _ _ (omega (arith, e)) in
    let not_first : nat_lt a 1073741824 ≡ false = le-ltb _ _ (omega (arith, e)) in
    let not_second : nat_lt a 2147483648 ≡ false = le-ltb _ _ (omega (arith, e)) in
    let rest : a - 2147483648 ≡ i = omega (arith, e) in
    rw (no, not_first, not_second) (ap (In Heap) rest)

module _ (w : World) (number offset x : ℕ) (q : PointsTo w number offset x) where
  abbrev at : ℕ
  at = 16 * q.place.unit + offset

  inside_region : at < most_bytes q.place.name
  inside_region = omega (arith, q.inside, q.within)

  small_address : start_of q.place.name + at < 2 ^ 32
  small_address = address_fits q.place.name at inside_region

  pub number_is : number_in x ≡ number
  number_is = let is = q.is in let lt = small_address in omega (arith, is, lt)

  pub address_is : x % 2 ^ 32 ≡ start_of q.place.name + (16 * q.place.unit + offset)
  address_is = let is = q.is in let lt = small_address in omega (arith, is, lt)

  pub spot_of_pointer : spot_of x ≡ In q.place.name (16 * q.place.unit + offset)
  spot_of_pointer = spot_is q.place.name at (x % 2 ^ 32) inside_region address_is

  -- the record that a pointer to a live block leads to
  pub note_live : (hs : List Head) (f : Flat) → Laid w hs f → (h : Head) → slice_get hs q.index ≡ Some h → h.live ≡ true
      → live_at (region f q.place.name) (16 * q.place.unit + offset) number ≡ Some (note_of q.index h q.place)
  note_live hs f l h there live =
      let unit : at / 16 ≡ q.place.unit + offset / 16 = omega arith in
      let note = l.noted q.index h q.place there q.there live (offset / 16) (omega (arith, q.inside)) in
      ap (λ u. if_numbered number (get_or (notes_in f q.place.name) u None)) unit ∙ ap (if_numbered number) note
      ∙ ap (λ t. if t then Some (note_of q.index h q.place) else None) (eq-eqb (suc q.index) number (sym q.is_number))
