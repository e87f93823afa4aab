-- What is known at the places of a file where globals stand: its structs and literals, and the types of each global's initialiser.
use Rattle.std.proofs.Common.{◌≡◌, ℕ, zero, suc, ◌+◌, ◌^◌, ◌≤◌, pos, Bool, true, false, if◌then◌else◌, nat_lt, List, [], ◌∷◌, ◌++◌, length, map, replicate, Some, None, slice_get, refl, sym, ap, ◌∙◌, subst, arith}
use Rattle.std.proofs.lemmas.Bool.{lt-ltb, leb-true, ltb-false}
use Rattle.std.proofs.lemmas.List.{length-replicate}
use Rattle.c_syntax.specs.RefusalCodes.{globals_code}
use Rattle.c_syntax.specs.declared.types.CInt.TheVariants.{U64}
use Rattle.c_syntax.specs.Programs.{StructType, StringLiteral, TranslationUnit}
use Rattle.c_syntax.specs.Layouts.{size_of}
use Rattle.c_model.specs.Integers.{fits}
use Rattle.c_model.specs.Limits.{globals_bytes}
use Rattle.c_model.specs.Memory.{Number as NumberByte}
use Rattle.c_model.specs.StaticObjects.{StaticObject, OfGlobal, OfLiteral, static_objects, place_of_object, size_of_object}
use Rattle.c_model.specs.Meaning.{text_at, block_of_object}
use Rattle.c_model.proofs.StaticObjects.{literals_of, literals_are}
use Rattle.c_model.specs.ExpressionTyping.{Sight}
use Rattle.c_model.specs.UnitTyping.{room_fault, room_fault_from, room_with}
use Rattle.mon_syntax.specs.BlockMemory.{pointers_from}
use Rattle.c_effects.specs.Expressions.{object_of_literal}
use Rattle.instrument.specs.Translation.{monitored_globals}
use Rattle.c_model.proofs.SoundStores.{none_together}
use Rattle.c_simulation.proofs.Bounds.{HaveNone, replicated_none}
use Rattle.c_simulation.specs.Standing.{Setting, AreOctets, AreBytes, Bounded, Knows}
use Rattle.instrument.proofs.Starts.{literal_points}

-- ---- literals

-- the bytes of literals
abbrev pub AreTexts : List StringLiteral → Type 0
AreTexts [] = Unit {0}
AreTexts (x ∷ xs) = AreOctets x.bytes × AreTexts xs

pub text_octets : (xs : List StringLiteral) (n : ℕ) → AreTexts xs → AreOctets (text_at (map (λ (l : StringLiteral). l.bytes) xs) n)
text_octets [] n h = tt
text_octets (x ∷ xs) zero h = h.0
text_octets (x ∷ xs) (suc n) h = text_octets xs n h.1

-- ---- sizes

size_fits : (n : ℕ) → n ≤ 2147483647 → fits U64 (pos n) ≡ true
size_fits n le = lt-ltb n (2 ^ 64) (omega (arith, le))

-- at a place of the file
pub knows_at : (w : Setting) (s : Sight) → s.structs ≡ w.unit.structs → s.texts ≡ w.unit.texts → w.globals ≡ pointers_from 1 (monitored_globals w.unit) → AreTexts w.unit.texts → Knows w s
knows_at w s structs texts pointers bytes = record {
  literals = λ n x found. ap (λ l. slice_get l (object_of_literal n (static_objects w.unit))) pointers ∙ literal_points w.unit n x (sym (ap (λ l. slice_get l n) texts) ∙ found);
  octets = λ n. text_octets w.unit.texts n bytes;
  sizes = λ t known. subst (λ l. fits U64 (pos (size_of l t)) ≡ true) structs (size_fits (size_of s.structs t) (leb-true (size_of s.structs t) 2147483647 known.small));
  structs = structs;
}

-- ---- the blocks with which a run begins

record HasRoom (size : ℕ) (rest : Type 0) : Type 0 where
  pub small : size ≤ 2 ^ 32
  pub others : rest

room_first : (structs : List StructType) (taken : ℕ) (o : StaticObject) (os : List StaticObject) → room_fault_from structs taken (o ∷ os) ≡ None
    → HasRoom (size_of_object structs o) (room_fault_from structs (room_with structs taken o) os ≡ None)
room_first structs taken o os e = by (nat_lt globals_bytes (room_with structs taken o)) refl e
  where
    by : (b : Bool) → nat_lt globals_bytes (room_with structs taken o) ≡ b
        → (if b then Some (record { code = globals_code; place = place_of_object o }) else room_fault_from structs (room_with structs taken o) os) ≡ None
        → HasRoom (size_of_object structs o) (room_fault_from structs (room_with structs taken o) os ≡ None)
    by true less f = absurd cc
    by false less f =
        let le : room_with structs taken o ≤ 1048576 = ltb-false 1048576 (room_with structs taken o) less in
        record { small = omega (arith, le); others = f }

zero_bytes : (n : ℕ) → AreBytes (replicate n (NumberByte 0))
zero_bytes zero = tt
zero_bytes (suc n) = (omega arith, zero_bytes n)

literal_bytes : (bs : List ℕ) → AreOctets bs → AreBytes (map NumberByte bs ++ NumberByte 0 ∷ [])
literal_bytes [] h = (omega arith, tt)
literal_bytes (b ∷ bs) h = (h.0, literal_bytes bs h.1)

literal_long : (bs : List ℕ) → length (map NumberByte bs ++ NumberByte 0 ∷ []) ≡ length bs + 1
literal_long [] = refl
literal_long (b ∷ bs) = let h = literal_long bs in omega (arith, h)

literal_none : (bs : List ℕ) → HaveNone (map NumberByte bs ++ NumberByte 0 ∷ [])
literal_none [] zero k p e = absurd cc
literal_none [] (suc i) k p e = absurd cc
literal_none (b ∷ bs) zero k p e = absurd cc
literal_none (b ∷ bs) (suc i) k p e = literal_none bs i k p e

bounded_objects : (structs : List StructType) (taken : ℕ) (os : List StaticObject) → room_fault_from structs taken os ≡ None → AreTexts (literals_of os) → Bounded (map (block_of_object structs) os)
bounded_objects structs taken [] e h = tt
bounded_objects structs taken (OfGlobal d ∷ os) e h =
    let size = size_of structs d.ctype in
    let r = room_first structs taken (OfGlobal d) os e in
    let small : length (replicate size (NumberByte 0)) ≤ 2 ^ 32 = omega (arith, length-replicate size (NumberByte 0), r.small) in (
      record { small = small; long = refl; bytes = zero_bytes size; together = none_together (replicate size (NumberByte 0)) (replicated_none size (NumberByte 0) (λ k p f. absurd cc)) },
      bounded_objects structs (room_with structs taken (OfGlobal d)) os r.others h,
    )
bounded_objects structs taken (OfLiteral x ∷ os) e h =
    let r = room_first structs taken (OfLiteral x) os e in
    let small : length (map NumberByte x.bytes ++ NumberByte 0 ∷ []) ≤ 2 ^ 32 = omega (arith, literal_long x.bytes, r.small) in (
      record { small = small; long = refl; bytes = literal_bytes x.bytes h.0; together = none_together (map NumberByte x.bytes ++ NumberByte 0 ∷ []) (literal_none x.bytes) },
      bounded_objects structs (room_with structs taken (OfLiteral x)) os r.others h.1,
    )

-- globals and literals have room
pub bounded_at_start : (p : TranslationUnit) → room_fault p ≡ None → AreTexts p.texts → Bounded (map (block_of_object p.structs) (static_objects p))
bounded_at_start p room h = bounded_objects p.structs 0 (static_objects p) room (subst AreTexts (sym (literals_are p)) h)
