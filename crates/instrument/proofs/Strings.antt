-- A string literal that initialises an array of characters: its bytes, one by one on both sides, and then zeros.
use Rattle.std.proofs.Common.{◌≡◌, ℕ, zero, suc, ◌+◌, ◌%◌, ◌^◌, ◌<◌, pos, true, if◌then◌else◌, List, [], ◌∷◌, length, Some, slice_get, refl, sym, ap, ◌∙◌, subst, arith}
use Rattle.std.proofs.lemmas.Bool.{eq-eqb, lt-ltb}
use Rattle.c_syntax.specs.declared.place.Place.{Place}
use Rattle.c_syntax.specs.declared.types.CInt.TheVariants.{U8}
use Rattle.c_syntax.specs.Layouts.{Scalar, IntegerType}
use Rattle.c_model.specs.Integers.{fits}
use Rattle.c_model.specs.Memory.{Pointer, Null, Into, Value, Integer, Points, shifted}
use Rattle.c_model.specs.Memory.{Number as NumberByte}
use Rattle.c_model.specs.State.{State, on_outcome, write, write_bytes}
use Rattle.c_model.specs.Meaning.{write_each, padded, zero_scalars}
use Rattle.mon_syntax.specs.declared.tree.MonType.TheVariants as kind
use Rattle.mon_syntax.specs.Trees.{Constant}
use Rattle.c_effects.specs.Expressions.{before}
use Rattle.c_initialisers.specs.Translation.{bytes_at}
use Rattle.c_effects.specs.Effects.{stored_at, zeros_at, zeros_from}
use Rattle.c_simulation.proofs.Results.{before_is}
use Rattle.c_simulation.specs.Standing.{Setting, Target, runs, AreOctets, Bounded, Beside}
use Rattle.c_simulation.specs.Reaching.{Reaches, Anything}
use Rattle.c_simulation.proofs.Reaching.{reached_here, reaches_then}
use Rattle.c_simulation.proofs.Values.{constant_has}
use Rattle.instrument.proofs.ZeroBytes.{IsAligned}
use Rattle.instrument.proofs.Zeros.{stored_at_reaches, zeros_begin}

one_farther : (p : Pointer) (d : ℕ) → shifted (shifted p d) 1 ≡ shifted p (suc d)
one_farther Null d = refl
one_farther (Into m i) d = let same : (i + d) + 1 ≡ i + suc d = omega arith in ap (Into m) same

octet_stays : (b : ℕ) → b < 256 → b ≡ b % 256 ^ 1 % 256
octet_stays b lt = omega (arith, lt)

byte_written : (at : Place) (q : Pointer) (b : ℕ) (s : State) → b < 256 → write_bytes at q (NumberByte b ∷ []) s ≡ write at q (IntegerType U8) (Integer (pos b)) s
byte_written at q b s lt = ap (λ y. write_bytes at q (NumberByte y ∷ []) s) (octet_stays b lt)

octet_fits : (b : ℕ) → b < 256 → fits U8 (pos b) ≡ true
octet_fits b lt = lt-ltb b (2 ^ 8) (omega (arith, lt))

-- ---- zeros in the bytes behind a literal

-- so many bytes in a row
abbrev row_of_bytes : ℕ → ℕ → List (ℕ × Scalar)
row_of_bytes d zero = []
row_of_bytes d (suc n) = (d, IntegerType U8) ∷ row_of_bytes (suc d) n

padding_is : (n : ℕ) (at : Place) (p : Pointer) (d : ℕ) (s : State) → write_each at (shifted p d) (padded n []) s ≡ zero_scalars at p (row_of_bytes d n) s
padding_is zero at p d s = refl
padding_is (suc n) at p d s =
    let first = write_bytes at (shifted p d) (NumberByte 0 ∷ []) s in
    λ i. on_outcome first (λ _ t. ((ap (λ q. write_each at q (padded n []) t) (one_farther p d)) ∙ padding_is n at p (suc d) t) i)

row_is : (r k d m e n : ℕ) → e ≡ d + m → zeros_at r k d m (row_of_bytes e n) ≡ zeros_from r k d 0 (m + n)
row_is r k d m e zero on = let all : m ≡ m + 0 = omega arith in ap (zeros_from r k d 0) all
row_is r k d m e (suc n) on =
    let more : (m + 1) + n ≡ m + suc n = omega arith in
    ap (λ t. if t then zeros_at r k d (m + 1) (row_of_bytes (suc e) n) else before (zeros_from r k d 0 m) (zeros_at r k e 1 (row_of_bytes (suc e) n))) (eq-eqb e (d + m) on)
    ∙ row_is r k d (m + 1) (suc e) n (omega (arith, on)) ∙ ap (zeros_from r k d 0) more

module _ (w : Setting) (n : ℕ) (low : ℕ) where
  byte_reaches : (at : Place) (p : Pointer) (r d byte : ℕ) (s : State) (t : Target) (regs : List Value) → byte < 256 → Bounded s.store → Beside w s.store s t → slice_get regs r ≡ Some (Points p) → low < length regs
      → Reaches w Anything low regs s (write_bytes at (shifted p d) (NumberByte byte ∷ []) s) (runs w n t (stored_at r low d kind.U8 (Constant kind.U8 (pos byte))) regs)
  byte_reaches at p r d byte s t regs lt bounded b points room =
      subst (λ q. Reaches w Anything low regs s q (runs w n t (stored_at r low d kind.U8 (Constant kind.U8 (pos byte))) regs)) (sym (byte_written at (shifted p d) byte s lt))
      (stored_at_reaches w n low at (IntegerType U8) p r low d (Integer (pos byte)) s t regs (Constant kind.U8 (pos byte)) bounded b points (omega arith) room (pos byte, refl, octet_fits byte lt)
      (λ after same. constant_has w after t.mem kind.U8 (pos byte) refl))

  pub bytes_reach : (size : ℕ) (bytes : List ℕ) (at : Place) (p : Pointer) (r d : ℕ) (s : State) (t : Target) (regs : List Value) → AreOctets bytes → IsAligned p → Bounded s.store → Beside w s.store s t → slice_get regs r ≡ Some (Points p) → r < low
      → low < length regs → Reaches w Anything low regs s (write_each at (shifted p d) (padded size bytes) s) (runs w n t (bytes_at r low d size bytes) regs)
  bytes_reach zero bytes at p r d s t regs octets aligned bounded b points below room = reached_here w low regs s t bounded b
  bytes_reach (suc size) [] at p r d s t regs octets aligned bounded b points below room =
      let all : 0 + suc size ≡ suc size = omega arith in
      subst (λ x. Reaches w Anything low regs s x (runs w n t (zeros_from r low d 0 (suc size)) regs)) (sym (padding_is (suc size) at p d s))
      (subst (λ code. Reaches w Anything low regs s (zero_scalars at p (row_of_bytes d (suc size)) s) (runs w n t code regs)) (row_is r low d 0 d (suc size) (omega arith) ∙ ap (zeros_from r low d 0) all)
      (zeros_begin w n low (row_of_bytes d (suc size)) at p r d s t regs aligned bounded b points below room))
  bytes_reach (suc size) (c ∷ cs) at p r d s t regs octets aligned bounded b points below room =
      let first = stored_at r low d kind.U8 (Constant kind.U8 (pos c)) in
      let others = bytes_at r low (suc d) size cs in
      subst (λ q. Reaches w Anything low regs s (write_each at (shifted p d) (padded (suc size) (c ∷ cs)) s) q) (sym (before_is w.globals first others w.calls n regs t))
      (reaches_then w Anything Anything low regs s (write_bytes at (shifted p d) (NumberByte c ∷ []) s) (runs w n t first regs) (λ _. write_each at (shifted (shifted p d) 1) (padded size cs)) (λ r u. runs w n u others r)
      (byte_reaches at p r d c s t regs octets.0 bounded b points room)
      (λ _ to after u o same la be _. subst (λ q. Reaches w Anything low after to (write_each at q (padded size cs) to) (runs w n u others after)) (sym (one_farther p d))
      (bytes_reach size cs at p r (suc d) to u after octets.1 aligned la.bounded be (same.below r below ∙ points) below (omega (arith, room, same.long)))))
