-- One turn of the loop over the pieces of a C text.
use Rattle.std.proofs.lemmas.List.{drop-drop}
use Rattle.std.proofs.Common.{◌≡◌, ℕ, zero, suc, ◌+◌, ◌<◌, Bool, true, false, ltb, List, [], ◌∷◌, ◌++◌, length, take, drop, Result, Ok, Err, refl, sym, ap, ◌∙◌, arith, add-one}
use Rattle.c_syntax.specs.declared.place.Place.{Place}
use Rattle.c_syntax.specs.Tokens.{PlainToken, PlainTokens}
use Rattle.c_syntax.specs.Programs.{PlainRefusal}
use Rattle.c_model.specs.declared.c_tokens.Mode.{Mode}
use Rattle.c_model.specs.declared.c_tokens.Piece.{Piece}
use Rattle.c_model.specs.declared.c_tokens.Fault.{Fault}
use Rattle.c_model.specs.declared.c_tokens.Fault.TheVariants as fault
use Rattle.c_model.specs.Places.{next, walk}
use Rattle.c_model.specs.MonitoredTokens.{Read, fresh_behind, fresh_after}
use Rattle.c_model.specs.Pieces.{Ended, Broken, Cut, cut, piece_at, mode_after}
use Rattle.c_model.specs.CTokens.{joined_string, with_string, add, refused, most_tokens, build}

pub cut_skip : (k : ℕ) (at : Place) (fresh : Bool) (m : Mode) (bs : List ℕ) → cut k at fresh m bs ≡ cut 0 (walk at (take k bs)) (fresh_after fresh (take k bs)) m (drop k bs)
unfolding cut
cut_skip zero at fresh m bs = refl
cut_skip (suc k) at fresh m [] = refl
cut_skip (suc k) at fresh m (b ∷ bs) = cut_skip k (next at b) (fresh_behind fresh b) m bs

-- the piece at the front, and then those of what is left
pub cut_one : (at : Place) (fresh : Bool) (m : Mode) (bs : List ℕ) (p : Piece) (n : ℕ) → n < length bs → piece_at m fresh bs ≡ Ok (record { piece = p; more = n })
    → cut 0 at fresh m bs ≡ Cut at p (take (n + 1) bs) (cut 0 (walk at (take (n + 1) bs)) (fresh_after fresh (take (n + 1) bs)) (mode_after m p) (drop (n + 1) bs))
unfolding cut
cut_one at fresh m [] p n lt e = absurd (omega arith)
cut_one at fresh m (b ∷ bs) p n lt e =
    let one : cut 0 at fresh m (b ∷ bs) ≡ Cut at p (take (suc n) (b ∷ bs)) (cut n (next at b) (fresh_behind fresh b) (mode_after m p) bs) = rw (e, cut) refl in
    let two : cut 0 at fresh m (b ∷ bs) ≡ Cut at p (take (suc n) (b ∷ bs)) (cut 0 (walk at (take (suc n) (b ∷ bs))) (fresh_after fresh (take (suc n) (b ∷ bs))) (mode_after m p) (drop (suc n) (b ∷ bs))) = one ∙ ap (Cut at p (take (suc n) (b ∷ bs)))
    (cut_skip n (next at b) (fresh_behind fresh b) (mode_after m p) bs) in
    rw add-one two

pub cut_broken : (at : Place) (fresh : Bool) (m : Mode) (bs : List ℕ) (f : Fault) → 0 < length bs → piece_at m fresh bs ≡ Err f → cut 0 at fresh m bs ≡ Broken at f bs
unfolding cut
cut_broken at fresh m [] f lt e = absurd (omega arith)
cut_broken at fresh m (b ∷ bs) f lt e = rw (e, cut) refl

pub cut_ended : (at : Place) (fresh : Bool) (m : Mode) (bs : List ℕ) → length bs ≡ 0 → cut 0 at fresh m bs ≡ Ended at m
unfolding cut
cut_ended at fresh m [] e = refl
cut_ended at fresh m (b ∷ bs) e = absurd (omega arith)

pub with_string_last : (ts : List PlainToken) (t : PlainToken) (at : Place) (bs : List ℕ) → with_string (ts ++ t ∷ []) at bs ≡ ts ++ joined_string t at bs
with_string_last [] t at bs = refl
with_string_last (x ∷ []) t at bs = refl
with_string_last (x ∷ y ∷ ts) t at bs = ap (λ (r : List PlainToken). x ∷ r) (with_string_last (y ∷ ts) t at bs)

-- one turn of the loop
pub goes_on : (r r2 : Read) (at : Place) (fresh : Bool) (m : Mode) (bs rest bytes : List ℕ) (pos n : ℕ) (p : Piece) (total : Result PlainTokens PlainRefusal) → rest ≡ drop pos bs → n < length rest
    → piece_at m fresh rest ≡ Ok (record { piece = p; more = n })
    → bytes ≡ take (n + 1) rest → r2 ≡ add r at p bytes → ltb most_tokens (length r2.list) ≡ false
    → build r (cut 0 at fresh m (drop pos bs)) ≡ total → build r2 (cut 0 (walk at bytes) (fresh_after fresh bytes) (mode_after m p) (drop (pos + (n + 1)) bs)) ≡ total
unfolding build
goes_on r r2 at fresh m bs rest bytes pos n p total e lt q b a within so_far =
    let left : drop (n + 1) rest ≡ drop (pos + (n + 1)) bs = ap (drop (n + 1)) e ∙ drop-drop (n + 1) pos bs in
    let one : build r (cut 0 at fresh m rest) ≡ build r2 (cut 0 (walk at bytes) (fresh_after fresh bytes) (mode_after m p) (drop (n + 1) rest)) = rw (cut_one at fresh m rest p n lt q, ← b, ← a, within) refl in
    ap (λ (l : List ℕ). build r2 (cut 0 (walk at bytes) (fresh_after fresh bytes) (mode_after m p) l)) (sym left) ∙ sym one ∙ ap (λ (l : List ℕ). build r (cut 0 at fresh m l)) e ∙ so_far

pub too_many : (r r2 : Read) (at : Place) (fresh : Bool) (m : Mode) (bs rest bytes : List ℕ) (pos n : ℕ) (p : Piece) (total : Result PlainTokens PlainRefusal) → rest ≡ drop pos bs → n < length rest
    → piece_at m fresh rest ≡ Ok (record { piece = p; more = n })
    → bytes ≡ take (n + 1) rest → r2 ≡ add r at p bytes → ltb most_tokens (length r2.list) ≡ true
    → build r (cut 0 at fresh m (drop pos bs)) ≡ total → total ≡ Err (refused at fault.Limit [])
unfolding build
too_many r r2 at fresh m bs rest bytes pos n p total e lt q b a past so_far =
    let one : build r (cut 0 at fresh m rest) ≡ Err (refused at fault.Limit []) = rw (cut_one at fresh m rest p n lt q, ← b, ← a, past) refl in
    sym so_far ∙ sym (ap (λ (l : List ℕ). build r (cut 0 at fresh m l)) e) ∙ one

pub breaks : (r : Read) (at : Place) (fresh : Bool) (m : Mode) (bs rest : List ℕ) (pos : ℕ) (f : Fault) (total : Result PlainTokens PlainRefusal) → rest ≡ drop pos bs → 0 < length rest → piece_at m fresh rest ≡ Err f
    → build r (cut 0 at fresh m (drop pos bs)) ≡ total → total ≡ Err (refused at f rest)
unfolding build
breaks r at fresh m bs rest pos f total e lt q so_far =
    let one : build r (cut 0 at fresh m rest) ≡ Err (refused at f rest) = rw (cut_broken at fresh m rest f lt q) refl in
    sym so_far ∙ sym (ap (λ (l : List ℕ). build r (cut 0 at fresh m l)) e) ∙ one

pub ends : (r : Read) (at : Place) (fresh : Bool) (m : Mode) (bs : List ℕ) (pos : ℕ) (total : Result PlainTokens PlainRefusal) → length (drop pos bs) ≡ 0
    → build r (cut 0 at fresh m (drop pos bs)) ≡ total → build r (Ended at m) ≡ total
ends r at fresh m bs pos total z so_far = sym (ap (build r) (cut_ended at fresh m (drop pos bs) z)) ∙ so_far
