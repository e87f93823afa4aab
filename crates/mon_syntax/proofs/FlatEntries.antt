-- Entries of a list of which some in a row are replaced.
use Rattle.std.proofs.Common.{◌≡◌, ℕ, zero, suc, ◌+◌, ◌-◌, ◌<◌, ◌≤◌, ◌⊎◌, ⊎_elim, List, [], ◌∷◌, ◌++◌, length, None, take, drop, get_or, slice_get}
use Rattle.std.proofs.Common.{refl, ap, ◌∙◌, arith}
use Rattle.std.proofs.lemmas.List.{length-append, length-take-le, length-drop, get_or-take, get_or-drop, get_or_append_left, get_or-append_right}

pub missing : {A : Type 0} (s : List A) (b : ℕ) → slice_get s b ≡ None → b < length s → ⊥
missing [] b e lt = absurd (omega (arith, lt))
missing (y ∷ s) zero e lt = absurd cc
missing (y ∷ s) (suc b) e lt = missing s b e (omega (arith, lt))

-- ---- a list with other entries from a place on

module _ {A : Type 0} (xs : List A) (at : ℕ) (new : List A) (room : at + length new ≤ length xs) where
  abbrev pub replaced : List A
  replaced = take at xs ++ (new ++ drop (at + length new) xs)

  front : length (take at xs) ≡ at
  front = length-take-le at xs (omega (arith, room))

  pub length-replaced : length replaced ≡ length xs
  length-replaced = omega (arith, length-append (take at xs) (new ++ drop (at + length new) xs), front, length-append new (drop (at + length new) xs), length-drop (at + length new) xs, room)

  pub replaced_before : (i : ℕ) (d : A) → i < at → get_or replaced i d ≡ get_or xs i d
  replaced_before i d lt = get_or_append_left (take at xs) (new ++ drop (at + length new) xs) d i (omega (arith, lt, front)) ∙ get_or-take at xs i d lt

  pub replaced_inside : (i : ℕ) (d : A) → i < length new → get_or replaced (at + i) d ≡ get_or new i d
  replaced_inside i d lt =
      let off : at + i - at ≡ i = omega arith in
      get_or-append_right (take at xs) (new ++ drop (at + length new) xs) at (at + i) d front (omega arith) ∙ ap (λ j. get_or (new ++ drop (at + length new) xs) j d) off ∙ get_or_append_left new (drop (at + length new) xs) d i lt

  pub replaced_behind : (i : ℕ) (d : A) → at + length new ≤ i → get_or replaced i d ≡ get_or xs i d
  replaced_behind i d le =
      let off : at + length new + (i - at - length new) ≡ i = omega (arith, le) in
      get_or-append_right (take at xs) (new ++ drop (at + length new) xs) at i d front (omega (arith, le))
      ∙ get_or-append_right new (drop (at + length new) xs) (length new) (i - at) d refl (omega (arith, le))
      ∙ get_or-drop (at + length new) xs (i - at - length new) d
      ∙ ap (λ j. get_or xs j d) off

  pub replaced_outside : (i : ℕ) (d : A) → (i < at) ⊎ (at + length new ≤ i) → get_or replaced i d ≡ get_or xs i d
  replaced_outside i d out = ⊎_elim (λ b. replaced_before i d b) (λ a. replaced_behind i d a) out
