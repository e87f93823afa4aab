-- Structs that stand as their layout says have their members in them (C99 6.7.2.1 p13, p15).
use Rattle.std.proofs.Common.{◌≡◌, ℕ, ◌+◌, ◌≤◌, true, nat_le, List, [], ◌∷◌, sym, subst, arith}
use Rattle.std.proofs.lemmas.Bool.Decides.{nat_tests}
use Rattle.c_syntax.specs.Programs.{StructMember, StructType}
use Rattle.c_syntax.specs.Layouts.{aligned, size_of, align_of}
use Rattle.c_model.specs.DeclarationTyping.{placed_from, end_of, widest, laid_out}
use Rattle.c_model.specs.TypedPrograms.{IsLaidOut, AreLaidOut}
use Rattle.c_model.proofs.ScalarOrder.{aligned_above, widest_some, laid_at, align_some}
use Rattle.instrument.proofs.Parts.{MembersInside, StructFits, StructsFit}

module _ (structs : List StructType) (laid : AreLaidOut structs structs) where
  -- the members end no earlier than they begin
  end_above : (m : StructMember) (ms : List StructMember) (end : ℕ) → end ≤ end_of structs (placed_from structs end (m ∷ ms))
  end_above m [] end = let a = aligned_above (align_of structs m.ctype) end (align_some structs laid m.ctype) in omega (arith, a)
  end_above m (n ∷ ms) end =
      let a = aligned_above (align_of structs m.ctype) end (align_some structs laid m.ctype) in
      let r = end_above n ms (aligned (align_of structs m.ctype) end + size_of structs m.ctype) in
      omega (arith, a, r)

  placed_inside : (ms : List StructMember) (end most : ℕ) → end_of structs (placed_from structs end ms) ≤ most → MembersInside structs most (placed_from structs end ms)
  placed_inside [] end most h = tt
  placed_inside (m ∷ []) end most h = (h, tt)
  placed_inside (m ∷ n ∷ ms) end most h =
      let r = end_above n ms (aligned (align_of structs m.ctype) end + size_of structs m.ctype) in
      (omega (arith, h, r), placed_inside (n ∷ ms) (aligned (align_of structs m.ctype) end + size_of structs m.ctype) most h)

  struct_fits : (s : StructType) → IsLaidOut structs s → StructFits structs s
  struct_fits s h =
      let ms = placed_from structs 0 s.members in
      let small : nat_le (laid_out structs s).size 2147483647 ≡ true = subst (λ (x : StructType). nat_le x.size 2147483647 ≡ true) h.is h.small in
      subst (StructFits structs) (sym h.is) (record {
        inside = placed_inside s.members 0 (aligned (widest structs ms) (end_of structs ms)) (aligned_above (widest structs ms) (end_of structs ms) (widest_some structs ms));
        small = grind (arith, nat_tests);
      })

  pub structs_fit : StructsFit structs
  structs_fit n s e = struct_fits s (laid_at structs structs n s laid e)
