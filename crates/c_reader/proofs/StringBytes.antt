-- The bytes that a string literal or a character constant of a text of bytes stands for are bytes.
use Rattle.std.proofs.Common.{◌≡◌, ℕ, zero, suc, ◌+◌, ◌<◌, Bool, true, false, if◌then◌else◌, nat_eq, List, [], ◌∷◌, ◌++◌, take, drop, Option, Some, None, option_map, ◌||◌, refl, subst, arith}
use Rattle.std.specs.Prelude.{nat_le, nat_lt}
use Rattle.std.specs.Str.Parse.{digits_value}
use Rattle.std.proofs.lemmas.Bool.{leb-true}
use Rattle.c_model.specs.MonitoredTokens.{is_octal}
use Rattle.c_model.specs.Literals.{digits_len, value_within, digits_at, simple_escape, escape_at, unit_at, string_bytes}
use Rattle.c_model.specs.CTokenLaws.{IsLetter}
use Rattle.c_model.specs.ReadTree.{AreBytes}

pub bytes_joined : (cs bs : List ℕ) → AreBytes cs → AreBytes bs → AreBytes (cs ++ bs)
bytes_joined [] bs h g = g
bytes_joined (c ∷ cs) bs h g = (h.0, bytes_joined cs bs h.1 g)

pub bytes_before : (cs bs : List ℕ) → AreBytes (cs ++ bs) → AreBytes cs
bytes_before [] bs h = tt
bytes_before (c ∷ cs) bs h = (h.0, bytes_before cs bs h.1)

pub bytes_behind : (cs bs : List ℕ) → AreBytes (cs ++ bs) → AreBytes bs
bytes_behind [] bs h = h
bytes_behind (c ∷ cs) bs h = bytes_behind cs bs h.1

pub bytes_dropped : (n : ℕ) (bs : List ℕ) → AreBytes bs → AreBytes (drop n bs)
bytes_dropped zero bs h = h
bytes_dropped (suc n) [] h = tt
bytes_dropped (suc n) (b ∷ bs) h = bytes_dropped n bs h.1

-- a byte, where there is one
abbrev IsByteIn : Option ℕ → Type 0
IsByteIn None = Unit {0}
IsByteIn (Some v) = v < 256

abbrev IsByteAt : Option (ℕ × ℕ) → Type 0
IsByteAt None = Unit {0}
IsByteAt (Some u) = u.0 < 256

byte_in_either : (b : Bool) (x y : Option ℕ) → IsByteIn x → IsByteIn y → IsByteIn (if b then x else y)
byte_in_either true x y h g = h
byte_in_either false x y h g = g

byte_at_either : (b : Bool) (x y : Option (ℕ × ℕ)) → IsByteAt x → IsByteAt y → IsByteAt (if b then x else y)
byte_at_either true x y h g = h
byte_at_either false x y h g = g

with_length : (n : ℕ) (o : Option ℕ) → IsByteIn o → IsByteAt (option_map (λ v. (v, n)) o)
with_length n None h = tt
with_length n (Some v) h = h

one_more : (o : Option (ℕ × ℕ)) → IsByteAt o → IsByteAt (option_map (λ d. (d.0, d.1 + 1)) o)
one_more None h = tt
one_more (Some d) h = h

value_is_byte : (base most : ℕ) (ds : List ℕ) → most < 256 → IsByteIn (value_within base most ds)
value_is_byte base most ds lt = by (nat_le (digits_value base ds) most) refl
  where
    by : (b : Bool) → nat_le (digits_value base ds) most ≡ b → IsByteIn (if b then Some (digits_value base ds) else None)
    by true e = let le = leb-true (digits_value base ds) most e in omega (arith, lt, le)
    by false e = tt

digits_are_byte : (base most : ℕ) (bs : List ℕ) → most < 256 → IsByteAt (digits_at base most bs)
unfolding digits_at
digits_are_byte base most bs lt =
    let value = value_within base most (take (digits_len base bs) bs) in
    byte_at_either (nat_lt 0 (digits_len base bs)) (option_map (λ v. (v, digits_len base bs)) value) None
    (with_length (digits_len base bs) value (value_is_byte base most (take (digits_len base bs) bs) lt)) tt

simple_is_byte : (c : ℕ) → c < 256 → IsByteIn (simple_escape c)
simple_is_byte c lt =
    byte_in_either (nat_eq c 110) (Some 10) _ (omega arith)
    (byte_in_either (nat_eq c 116) (Some 9) _ (omega arith)
    (byte_in_either (nat_eq c 114) (Some 13) _ (omega arith)
    (byte_in_either (nat_eq c 97) (Some 7) _ (omega arith)
    (byte_in_either (nat_eq c 98) (Some 8) _ (omega arith)
    (byte_in_either (nat_eq c 102) (Some 12) _ (omega arith)
    (byte_in_either (nat_eq c 118) (Some 11) _ (omega arith)
    (byte_in_either (nat_eq c 92 || nat_eq c 39 || nat_eq c 34 || nat_eq c 63) (Some c) None lt tt)))))))

escape_is_byte : (bs : List ℕ) → AreBytes bs → IsByteAt (escape_at bs)
unfolding escape_at
escape_is_byte [] h = tt
escape_is_byte (c ∷ cs) h =
    byte_at_either (is_octal c) (digits_at 8 255 (take 3 (c ∷ cs))) _ (digits_are_byte 8 255 (take 3 (c ∷ cs)) (omega arith))
    (byte_at_either (nat_eq c 120) (option_map (λ d. (d.0, d.1 + 1)) (digits_at 16 255 cs)) (option_map (λ v. (v, 1)) (simple_escape c))
    (one_more (digits_at 16 255 cs) (digits_are_byte 16 255 cs (omega arith)))
    (with_length 1 (simple_escape c) (simple_is_byte c h.0)))

unit_is_byte : (b : ℕ) (bs : List ℕ) → AreBytes (b ∷ bs) → IsByteAt (unit_at (b ∷ bs))
unfolding unit_at
unit_is_byte b bs h = byte_at_either (nat_eq b 10) None _ tt (byte_at_either (nat_eq b 92) (escape_at bs) (Some (b, 0)) (escape_is_byte bs h.1) h.0)

first_is_byte : (bs : List ℕ) → AreBytes bs → IsByteAt (unit_at bs)
unfolding unit_at
first_is_byte [] h = tt
first_is_byte (b ∷ bs) h = unit_is_byte b bs h

-- so is a character constant (C99 6.4.4.4)
pub letter_is_byte : (c : ℕ) (bytes behind : List ℕ) → IsLetter c bytes behind → AreBytes bytes → AreBytes behind → c < 256
letter_is_byte c bytes behind x h g =
    let quoted : AreBytes (39 ∷ x.unit ++ 39 ∷ []) = subst AreBytes x.quoted h in
    subst IsByteAt x.one (first_is_byte (x.unit ++ 39 ∷ behind) (bytes_joined x.unit (39 ∷ behind) (bytes_before x.unit (39 ∷ []) quoted.1) (omega arith, g)))

string_from : (bs : List ℕ) (t : Bool) (o : Option (ℕ × ℕ)) → IsByteAt o → ((k : ℕ) → AreBytes (string_bytes k bs)) → AreBytes (if t then [] else elim o [ None ↦ [] | Some u ↦ u.0 ∷ string_bytes u.1 bs ])
string_from bs true o h rest = tt
string_from bs false None h rest = tt
string_from bs false (Some u) h rest = (h, rest u.1)

pub string_is_bytes : (bs : List ℕ) (k : ℕ) → AreBytes bs → AreBytes (string_bytes k bs)
string_is_bytes [] k h = tt
string_is_bytes (b ∷ bs) (suc k) h = string_is_bytes bs k h.1
string_is_bytes (b ∷ bs) zero h = string_from bs (nat_eq b 34) (unit_at (b ∷ bs)) (unit_is_byte b bs h) (λ k. string_is_bytes bs k h.1)
