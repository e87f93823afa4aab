-- A struct that is laid out stays so where more structs are known, and laying it out again changes nothing.
use Rattle.std.proofs.Common.{◌≡◌, ℕ, ◌+◌, refl, sym, ap, ◌∙◌, List, [], ◌∷◌}
use Rattle.c_syntax.specs.Ctypes.{PlainType, Int, Ptr, Array, Struct, Count}
use Rattle.c_syntax.specs.Programs.{StructMember, StructType}
use Rattle.c_syntax.specs.Layouts.{size_of, align_of, align_of_struct, aligned}
use Rattle.c_model.specs.ExpressionTyping.{HasSize, sized}
use Rattle.c_model.specs.DeclarationTyping.{greater, placed_from, end_of, widest, laid_out}
use Rattle.c_model.specs.TypedPrograms.{IsLaidOut}
use Rattle.c_model.proofs.StableConstants.{Grows, size_kept}
use Rattle.c_model.proofs.StableTrees.{struct_kept}
use Rattle.c_model.proofs.StableStatements.{AreSized}
use Rattle.c_model.proofs.GrownStructs.{placed_sized}

-- ---- laid out again

placed_again : (ss : List StructType) (end : ℕ) (ms : List StructMember) → placed_from ss end (placed_from ss end ms) ≡ placed_from ss end ms
placed_again ss end [] = refl
placed_again ss end (m ∷ ms) =
    ap (λ l. record m { offset = aligned (align_of ss m.ctype) end } ∷ l) (placed_again ss (aligned (align_of ss m.ctype) end + size_of ss m.ctype) ms)

abbrev with_members : List StructType → StructType → List StructMember → StructType
with_members ss s ms = record s { members = ms; align = widest ss ms; size = aligned (widest ss ms) (end_of ss ms) }

pub laid_again : (ss : List StructType) (s : StructType) → laid_out ss s ≡ laid_out ss (laid_out ss s)
laid_again ss s = ap (with_members ss s) (sym (placed_again ss 0 s.members))

-- ---- laid out among more

align_kept : (old new : List StructType) → Grows old new → (t : PlainType) → sized old t ≡ HasSize → align_of old t ≡ align_of new t
align_kept old new g (Int k) e = refl
align_kept old new g (Ptr t) e = refl
align_kept old new g (Array t (Count n)) e = align_kept old new g t e
align_kept old new g (Struct n) e = ap align_of_struct (sym (struct_kept old new g n e))
align_kept old new g _ e = absurd cc

module _ (old new : List StructType) (g : Grows old new)
  where
    placed_same : (end : ℕ) (ms : List StructMember) → AreSized old ms → placed_from old end ms ≡ placed_from new end ms
    placed_same end [] h = refl
    placed_same end (m ∷ ms) h =
        let a = align_kept old new g m.ctype h.0 in
        let z = (size_kept old new g m.ctype h.0).size in
        ap (λ x. record m { offset = aligned x end } ∷ placed_from old (aligned x end + size_of old m.ctype) ms) a
        ∙ ap (λ y. record m { offset = aligned (align_of new m.ctype) end } ∷ placed_from old (aligned (align_of new m.ctype) end + y) ms) z
        ∙ ap (λ l. record m { offset = aligned (align_of new m.ctype) end } ∷ l) (placed_same (aligned (align_of new m.ctype) end + size_of new m.ctype) ms h.1)

    widest_same : (ms : List StructMember) → AreSized old ms → widest old ms ≡ widest new ms
    widest_same [] h = refl
    widest_same (m ∷ ms) h = ap (λ x. greater x (widest old ms)) (align_kept old new g m.ctype h.0) ∙ ap (greater (align_of new m.ctype)) (widest_same ms h.1)

    end_same : (ms : List StructMember) → AreSized old ms → end_of old ms ≡ end_of new ms
    end_same [] h = refl
    end_same (m ∷ []) h = ap (λ x. m.offset + x) (size_kept old new g m.ctype h.0).size
    end_same (m ∷ n ∷ ms) h = end_same (n ∷ ms) h.1

    with_members_same : (s : StructType) (ms : List StructMember) → AreSized old ms → with_members old s ms ≡ with_members new s ms
    with_members_same s ms h =
        ap (λ w. record s { members = ms; align = w; size = aligned w (end_of old ms) }) (widest_same ms h)
        ∙ ap (λ e. record s { members = ms; align = widest new ms; size = aligned (widest new ms) e }) (end_same ms h)

    pub laid_same : (s : StructType) → AreSized old s.members → laid_out old s ≡ laid_out new s
    laid_same s h = with_members_same s (placed_from old 0 s.members) (placed_sized old old 0 s.members h) ∙ ap (with_members new s) (placed_same 0 s.members h)

    -- a struct that is laid out stays so
    pub laid_out_kept : (s : StructType) → AreSized old s.members → IsLaidOut old s → IsLaidOut new s
    laid_out_kept s h i = record { is = i.is ∙ laid_same s h; small = i.small }
