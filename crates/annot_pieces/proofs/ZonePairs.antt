-- What is asked about each pair of zones, from the first zone and the others.
use Rattle.std.proofs.Common.{◌≡◌, ℕ, suc, ◌+◌, ◌≤◌, ◌<◌, List, [], ◌∷◌, length, get_or, sym, ap, ◌∙◌, arith}
use Rattle.mon_syntax.specs.declared.tree.MonOp.TheVariants.{And}
use Rattle.mon_syntax.specs.declared.tree.MonType.TheVariants.{I32}
use Rattle.mon_syntax.specs.Trees.{MonExpression, Register, Binary, Set, MonStatement, MonStatements, Then}
use Rattle.c_effects.specs.Expressions.{before, one}
use Rattle.c_effects.proofs.Sequences.{before_assoc, before_none}
use Rattle.mem_preds.specs.declared.ranges.Bytes.{Bytes}
use Rattle.annot_simulation.specs.Pointers.{ZoneCode, apart_from_each, each_pair, zones_parted}
use Rattle.annot_pieces.specs.Plain.{all_bytes, bytes_of}
use Rattle.annot_pieces.proofs.Others.{others, others_is}
use Rattle.annot_pieces.proofs.Rust.{next_is, two_more}

pub apart_none : (l : List Bytes) (n : ℕ) (z : ZoneCode) (a : MonStatements) → length l < 1 → a ≡ before a (apart_from_each n z (all_bytes l))
apart_none [] n z a none = sym (before_none a)
apart_none (x ∷ l) n z a none = absurd (omega (arith, none))

apart_first : (l : List Bytes) (first : Bytes) (n : ℕ) (z : ZoneCode) → 1 ≤ length l → first ≡ get_or l 0 first
    → Then (zones_parted z (bytes_of first) (suc n)) (Then (Set n (Binary And I32 (Register n) (Register (suc n)))) (apart_from_each n z (all_bytes (others l)))) ≡ apart_from_each n z (all_bytes l)
apart_first [] first n z some same = absurd (omega (arith, some))
apart_first (x ∷ l) first n z some same =
    λ i. Then (zones_parted z (bytes_of (same i)) (suc n)) (Then (Set n (Binary And I32 (Register n) (Register (suc n)))) (apart_from_each n z (all_bytes (others_is x l i))))

pub apart_more :
    (l : List Bytes) (first z : Bytes) (n : ℕ) (a a1 a2 a3 : MonStatements) (s : MonStatement) (both x y : MonExpression) → 1 ≤ length l → first ≡ get_or l 0 first
    → s ≡ zones_parted (bytes_of z) (bytes_of first) (n + 1) → a1 ≡ before a (one s) → x ≡ Register n → y ≡ Register (n + 1) → both ≡ Binary And I32 x y → a2 ≡ before a1 (one (Set n both))
    → a3 ≡ before a2 (apart_from_each n (bytes_of z) (all_bytes (others l))) → a3 ≡ before a (apart_from_each n (bytes_of z) (all_bytes l))
apart_more l first z n a a1 a2 a3 s both x y some same s_is a1_is x_is y_is both_is a2_is last =
    let next = sym (next_is n) in
    let truth = both_is ∙ (λ i. Binary And I32 (x_is i) (y_is i)) ∙ ap (λ k. Binary And I32 (Register n) (Register k)) next in
    let parted = s_is ∙ ap (λ k. zones_parted (bytes_of z) (bytes_of first) k) next in
    let rest = apart_from_each n (bytes_of z) (all_bytes (others l)) in
    let set = Set n (Binary And I32 (Register n) (Register (suc n))) in
    last
    ∙ ap (λ b. before b rest) (a2_is ∙ ap (λ b. before b (one (Set n both))) a1_is)
    ∙ (λ i. before (before (before a (one (parted i))) (one (Set n (truth i)))) rest)
    ∙ two_more a (zones_parted (bytes_of z) (bytes_of first) (suc n)) set rest
    ∙ ap (before a) (apart_first l first n (bytes_of z) some same)

pub pairs_none : (l : List Bytes) (n : ℕ) (a : MonStatements) → length l < 1 → a ≡ before a (each_pair n (all_bytes l))
pairs_none [] n a none = sym (before_none a)
pairs_none (x ∷ l) n a none = absurd (omega (arith, none))

pairs_first : (l : List Bytes) (first : Bytes) (n : ℕ) → 1 ≤ length l → first ≡ get_or l 0 first
    → before (apart_from_each n (bytes_of first) (all_bytes (others l))) (each_pair n (all_bytes (others l))) ≡ each_pair n (all_bytes l)
pairs_first [] first n some same = absurd (omega (arith, some))
pairs_first (x ∷ l) first n some same =
    λ i. before (apart_from_each n (bytes_of (same i)) (all_bytes (others_is x l i))) (each_pair n (all_bytes (others_is x l i)))

pub pairs_more :
    (l : List Bytes) (first : Bytes) (n : ℕ) (a a1 a2 : MonStatements) → 1 ≤ length l → first ≡ get_or l 0 first
    → a1 ≡ before a (apart_from_each n (bytes_of first) (all_bytes (others l))) → a2 ≡ before a1 (each_pair n (all_bytes (others l))) → a2 ≡ before a (each_pair n (all_bytes l))
pairs_more l first n a a1 a2 some same a1_is last =
    last ∙ ap (λ b. before b (each_pair n (all_bytes (others l)))) a1_is
    ∙ before_assoc a (apart_from_each n (bytes_of first) (all_bytes (others l))) (each_pair n (all_bytes (others l))) ∙ ap (before a) (pairs_first l first n some same)
