-- One turn of the loop over the pieces of a text.
use Rattle.std.proofs.lemmas.List.{drop-drop}
use Rattle.std.proofs.Common.{◌≡◌, ℕ, zero, suc, ◌+◌, ◌<◌, Bool, List, [], ◌∷◌, length, take, drop, Result, Ok, Err, refl, sym, ap, subst, ◌∙◌, arith, add-one}
use Rattle.c_syntax.specs.declared.place.Place.{Place}
use Rattle.c_syntax.specs.declared.refusal.FrontFault.{FrontFault}
use Rattle.c_syntax.specs.declared.refusal.FrontFault.TheVariants.{Refused, Memory}
use Rattle.c_syntax.specs.declared.token.Tokens.{Tokens}
use Rattle.c_syntax.specs.Tokens.{PlainTokens}
use Rattle.c_syntax.specs.Programs.{PlainRefusal}
use Rattle.c_model.specs.declared.monitored_tokens.Piece.{Piece}
use Rattle.c_model.specs.declared.monitored_tokens.Fault.{Fault}
use Rattle.c_model.specs.Places.{next, walk}
use Rattle.c_model.specs.MonitoredTokens.{Ended, Broken, Cut, fresh_behind, fresh_after, cut, piece_at, Read, add, refused, build}
use Rattle.c_lexer.specs.Reading.{IsRefusal, Refuses, Gives}

pub cut_skip : (k : ℕ) (at : Place) (fresh : Bool) (bs : List ℕ) → cut k at fresh bs ≡ cut 0 (walk at (take k bs)) (fresh_after fresh (take k bs)) (drop k bs)
unfolding cut
cut_skip zero at fresh bs = refl
cut_skip (suc k) at fresh [] = refl
cut_skip (suc k) at fresh (b ∷ bs) = cut_skip k (next at b) (fresh_behind fresh b) bs

-- the piece at the front, and then those of what is left
pub cut_one : (at : Place) (fresh : Bool) (bs : List ℕ) (p : Piece) (n : ℕ) → n < length bs → piece_at fresh bs ≡ Ok (record { piece = p; more = n })
    → cut 0 at fresh bs ≡ Cut at p (take (n + 1) bs) (cut 0 (walk at (take (n + 1) bs)) (fresh_after fresh (take (n + 1) bs)) (drop (n + 1) bs))
unfolding cut
cut_one at fresh [] p n lt e = absurd (omega arith)
cut_one at fresh (b ∷ bs) p n lt e =
    let one : cut 0 at fresh (b ∷ bs) ≡ Cut at p (take (suc n) (b ∷ bs)) (cut n (next at b) (fresh_behind fresh b) bs) = rw (e, cut) refl in
    let two : cut 0 at fresh (b ∷ bs) ≡ Cut at p (take (suc n) (b ∷ bs)) (cut 0 (walk at (take (suc n) (b ∷ bs))) (fresh_after fresh (take (suc n) (b ∷ bs))) (drop (suc n) (b ∷ bs))) = one ∙ ap (Cut at p (take (suc n) (b ∷ bs)))
    (cut_skip n (next at b) (fresh_behind fresh b) bs) in
    rw add-one two

pub cut_broken : (at : Place) (fresh : Bool) (bs : List ℕ) (f : Fault) → 0 < length bs → piece_at fresh bs ≡ Err f → cut 0 at fresh bs ≡ Broken at f bs
unfolding cut
cut_broken at fresh [] f lt e = absurd (omega arith)
cut_broken at fresh (b ∷ bs) f lt e = rw (e, cut) refl

pub cut_ended : (at : Place) (fresh : Bool) (bs : List ℕ) → length bs ≡ 0 → cut 0 at fresh bs ≡ Ended at
unfolding cut
cut_ended at fresh [] e = refl
cut_ended at fresh (b ∷ bs) e = absurd (omega arith)

-- one turn of the loop
pub goes_on : (r r2 : Read) (at : Place) (fresh : Bool) (bs rest bytes : List ℕ) (pos n : ℕ) (p : Piece) (total : Result PlainTokens PlainRefusal) → rest ≡ drop pos bs → n < length rest → piece_at fresh rest ≡ Ok (record { piece = p; more = n })
    → bytes ≡ take (n + 1) rest → r2 ≡ add r at p bytes
    → build r (cut 0 at fresh (drop pos bs)) ≡ total → build r2 (cut 0 (walk at bytes) (fresh_after fresh bytes) (drop (pos + (n + 1)) bs)) ≡ total
unfolding build
goes_on r r2 at fresh bs rest bytes pos n p total e lt q b a so_far =
    let left : drop (n + 1) rest ≡ drop (pos + (n + 1)) bs = ap (drop (n + 1)) e ∙ drop-drop (n + 1) pos bs in
    let behind = cut 0 (walk at bytes) (fresh_after fresh bytes) (drop (n + 1) rest) in
    let one : build r (cut 0 at fresh rest) ≡ build (add r at p bytes) behind = rw (cut_one at fresh rest p n lt q, ← b) refl in
    (λ i. build (a i) (cut 0 (walk at bytes) (fresh_after fresh bytes) (sym left i))) ∙ sym one ∙ ap (λ (l : List ℕ). build r (cut 0 at fresh l)) e ∙ so_far

pub breaks : (r : Read) (at : Place) (fresh : Bool) (bs rest : List ℕ) (pos : ℕ) (f : Fault) (total : Result PlainTokens PlainRefusal) → rest ≡ drop pos bs → 0 < length rest → piece_at fresh rest ≡ Err f
    → build r (cut 0 at fresh (drop pos bs)) ≡ total → total ≡ Err (refused at f rest)
unfolding build
breaks r at fresh bs rest pos f total e lt q so_far =
    let one : build r (cut 0 at fresh rest) ≡ Err (refused at f rest) = rw (cut_broken at fresh rest f lt q) refl in
    sym so_far ∙ sym (ap (λ (l : List ℕ). build r (cut 0 at fresh l)) e) ∙ one

pub ends : (r : Read) (at : Place) (fresh : Bool) (bs : List ℕ) (pos : ℕ) (total : Result PlainTokens PlainRefusal) → length (drop pos bs) ≡ 0
    → build r (cut 0 at fresh (drop pos bs)) ≡ total → build r (Ended at) ≡ total
ends r at fresh bs pos total z so_far = sym (ap (build r) (cut_ended at fresh (drop pos bs) z)) ∙ so_far

pub gives : (a b : Result PlainTokens PlainRefusal) (r : Result Tokens FrontFault) → a ≡ b → Gives r a → Gives r b
gives a b r e h = subst (Gives r) e h

pub refuses : (fault : FrontFault) (x : PlainRefusal) (read : Result PlainTokens PlainRefusal) → IsRefusal fault x → read ≡ Err x → Refuses fault read
refuses (Refused r) x read is e = e ∙ ap (λ (y : PlainRefusal). Err y) (sym is)
refuses Memory x read is e = tt
