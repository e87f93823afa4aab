-- Strings: what a bound on the bytes that are looked for does, and two strings of which one has the bytes of the other.
use Rattle.std.proofs.Common.{◌≡◌, ℕ, zero, suc, ◌+◌, ◌<◌, ◌≤◌, Bool, true, false, if◌then◌else◌, List, [], ◌∷◌, length, get_or, Option, Some, None, refl, sym, ap, ◌∙◌, subst, arith}
use Rattle.mon_syntax.specs.Strings.{byte_before, string_from, IsString, GoesWith}
use Rattle.mon_syntax.specs.Following.{Kept}

-- a byte that is no 0, and those after it
pub string_more : (byte : ℕ → Option ℕ) (n at b : ℕ) → byte at ≡ Some b → 0 < b → string_from byte (suc n) at ≡ (b ∷ (string_from byte n (at + 1)).0, (string_from byte n (at + 1)).1)
string_more byte n at zero e lt = absurd (omega (arith, lt))
string_more byte n at (suc b) e lt = ap (λ o. byte_before o (string_from byte n (at + 1))) e

pub string_end : (byte : ℕ → Option ℕ) (n at : ℕ) → byte at ≡ Some 0 → string_from byte (suc n) at ≡ ([], true)
string_end byte n at e = ap (λ o. byte_before o (string_from byte n (at + 1))) e

pub string_none : (byte : ℕ → Option ℕ) (n at : ℕ) → byte at ≡ None → string_from byte n at ≡ ([], false)
string_none byte zero at e = refl
string_none byte (suc n) at e = ap (λ o. byte_before o (string_from byte n (at + 1))) e

-- the string from a place on
record IsFrom (byte : ℕ → Option ℕ) (at : ℕ) (string : List ℕ × Bool) : Type 0 where
  bytes : (i : ℕ) → i < length string.0 → (byte (at + i) ≡ Some (get_or string.0 i 0)) × (0 < get_or string.0 i 0)
  end : byte (at + length string.0) ≡ (if string.1 then Some 0 else None)

module _ (byte : ℕ → Option ℕ) where
  none_from : (at : ℕ) → byte at ≡ None → IsFrom byte at ([], false)
  none_from at e = let here : at + 0 ≡ at = omega arith in record { bytes = λ i lt. absurd (omega (arith, lt)); end = ap byte here ∙ e }

  end_from : (at : ℕ) → byte at ≡ Some 0 → IsFrom byte at ([], true)
  end_from at e = let here : at + 0 ≡ at = omega arith in record { bytes = λ i lt. absurd (omega (arith, lt)); end = ap byte here ∙ e }

  more_from : (at b : ℕ) (string : List ℕ × Bool) → byte at ≡ Some b → 0 < b → IsFrom byte (at + 1) string → IsFrom byte at (b ∷ string.0, string.1)
  more_from at b string e lt s = record {
    bytes = bytes;
    end = let there : at + suc (length string.0) ≡ at + 1 + length string.0 = omega arith in ap byte there ∙ s.end;
  }
    where
      bytes : (i : ℕ) → i < suc (length string.0) → (byte (at + i) ≡ Some (get_or (b ∷ string.0) i 0)) × (0 < get_or (b ∷ string.0) i 0)
      bytes zero g = let here : at + 0 ≡ at = omega arith in (ap byte here ∙ e, lt)
      bytes (suc i) g =
          let there : at + suc i ≡ at + 1 + i = omega arith in
          let k = s.bytes i (omega (arith, g)) in
          (ap byte there ∙ k.0, k.1)

  -- where no byte lies from the bound on
  module _ (bound : ℕ) (none : (i : ℕ) → bound ≤ i → byte i ≡ None) where
    from_is : (n at : ℕ) → at + n ≡ bound → IsFrom byte at (string_from byte n at)
    from_is zero at e = none_from at (none at (omega (arith, e)))
    from_is (suc n) at e = by (byte at) refl (from_is n (at + 1) (omega (arith, e)))
      where
        by : (o : Option ℕ) → byte at ≡ o → IsFrom byte (at + 1) (string_from byte n (at + 1)) → IsFrom byte at (byte_before o (string_from byte n (at + 1)))
        by None h rest = none_from at h
        by (Some zero) h rest = end_from at h
        by (Some (suc b)) h rest = more_from at (suc b) (string_from byte n (at + 1)) h (omega arith) rest

    pub is_string : IsString byte (string_from byte bound 0)
    is_string =
        let s = from_is bound 0 (omega arith) in
        let long : length (string_from byte bound 0).0 ≡ 0 + length (string_from byte bound 0).0 = omega arith in
        record {
          bytes = λ i lt.
              let same : i ≡ 0 + i = omega arith in
              let k = s.bytes i lt in
              (ap byte same ∙ k.0, k.1);
          end = ap byte long ∙ s.end;
        }

-- two strings of which the second has each byte that the first has, and none from its bound on
module _ (byte other : ℕ → Option ℕ) (kept : (i : ℕ) → Kept (λ a b. a ≡ b) (byte i) (other i)) (bound : ℕ) (none : (i : ℕ) → bound ≤ i → other i ≡ None) where
  other_has : (i b : ℕ) → byte i ≡ Some b → other i ≡ Some b
  other_has i b e = by (other i) refl (subst (λ o. Kept (λ a c. a ≡ c) o (other i)) e (kept i))
    where
      by : (o : Option ℕ) → other i ≡ o → Kept (λ a c. a ≡ c) (Some b) o → o ≡ Some b
      by None h k = absurd k
      by (Some c) h k = ap Some (sym k)

  inside : (at k b : ℕ) → at + k ≡ bound → other at ≡ Some b → (j : ℕ) × (k ≡ suc j)
  inside at zero b e h = absurd (cc (none at (omega (arith, e)), h))
  inside at (suc k) b e h = (k, refl)

  goes_more : (b : ℕ) (s t : List ℕ × Bool) → GoesWith s.1 s.0 t → GoesWith s.1 (b ∷ s.0) (b ∷ t.0, t.1)
  goes_more b s t h = by s.1 h
    where
      by : (e : Bool) → GoesWith e s.0 t → GoesWith e (b ∷ s.0) (b ∷ t.0, t.1)
      by true g = ap (λ (u : List ℕ × Bool). (b ∷ u.0, u.1)) g
      by false g = record { rest = g.rest; is = ap (λ l. b ∷ l) g.is }

  pub goes_with : (n k at : ℕ) → at + k ≡ bound → GoesWith (string_from byte n at).1 (string_from byte n at).0 (string_from other k at)
  goes_with zero k at e = record { rest = (string_from other k at).0; is = refl }
  goes_with (suc n) k at e = by (byte at) refl (λ j is. goes_with n j (at + 1) (omega (arith, e, is)))
    where
      by : (o : Option ℕ) → byte at ≡ o
          → ((j : ℕ) → k ≡ suc j → GoesWith (string_from byte n (at + 1)).1 (string_from byte n (at + 1)).0 (string_from other j (at + 1)))
          → GoesWith (byte_before o (string_from byte n (at + 1))).1 (byte_before o (string_from byte n (at + 1))).0 (string_from other k at)
      by None h rest = record { rest = (string_from other k at).0; is = refl }
      by (Some zero) h rest =
          let there = other_has at 0 h in
          let j = inside at k 0 e there in
          ap (λ z. string_from other z at) j.1 ∙ string_end other j.0 at there
      by (Some (suc b)) h rest =
          let there = other_has at (suc b) h in
          let j = inside at k (suc b) e there in
          let more = string_more other j.0 at (suc b) there (omega arith) in
          let mine = string_from byte n (at + 1) in
          subst (GoesWith mine.1 (suc b ∷ mine.0)) (sym (ap (λ z. string_from other z at) j.1 ∙ more))
          (goes_more (suc b) mine (string_from other j.0 (at + 1)) (rest j.0 j.1))
