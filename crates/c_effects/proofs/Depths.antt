-- How deep the types of members are.
use Rattle.std.proofs.Common.{◌≡◌, ℕ, zero, suc, ◌+◌, ◌-◌, ◌*◌, ◌<◌, ◌≤◌, List, [], ◌∷◌, length, get_or, slice_get, Some, ap, sym, ◌∙◌, arith}
use Rattle.std.proofs.Math.Nat.{suc-mul}
use Rattle.std.specs.Prelude.{max}
use Rattle.c_syntax.specs.declared.program.Layout.{Layout}
use Rattle.c_syntax.specs.declared.program.Member.{Member}
use Rattle.c_syntax.specs.declared.types.CType.{size-CType}

abbrev pub deepest_member : List Member → ℕ
deepest_member [] = 0
deepest_member (m ∷ ms) = max (size-CType m.ctype) (deepest_member ms)

-- more than of any member of these structs
abbrev pub deepest : List Layout → ℕ
deepest [] = 0
deepest (l ∷ ls) = max (suc (deepest_member l.members.items)) (deepest ls)

pub member_depth : (ms : List Member) (i : ℕ) (m : Member) → i < length ms → m ≡ get_or ms i m → size-CType m.ctype ≤ deepest_member ms
member_depth [] i m lt is = absurd (omega arith)
member_depth (x ∷ ms) zero m lt is = let e = ap (λ (y : Member). size-CType y.ctype) is in omega arith
member_depth (x ∷ ms) (suc i) m lt is = let e = member_depth ms i m (omega arith) is in omega arith

pub layout_depth : (ls : List Layout) (n : ℕ) (l : Layout) → slice_get ls n ≡ Some l → deepest_member l.members.items < deepest ls
layout_depth [] n l is = absurd cc
layout_depth (x ∷ ls) zero l is = let same : x ≡ l = cc in let e = ap (λ (y : Layout). deepest_member y.members.items) same in omega arith
layout_depth (x ∷ ls) (suc n) l is = let e = layout_depth ls n l is in omega arith

-- one struct less deep
pub less_deep : (deep w : ℕ) → 0 < deep → (deep - 1) * w + w ≡ deep * w
less_deep zero w lt = absurd (omega arith)
less_deep (suc deep) w lt =
    let less : suc deep - 1 ≡ deep = omega arith in
    ap (λ n. n * w + w) less ∙ sym (suc-mul deep w)
