-- The pieces of a C text joined are the text, and each is at its place and spelled as its kind is.
use Rattle.std.proofs.Common.{◌≡◌, ℕ, zero, suc, Bool, true, List, [], ◌∷◌, ◌++◌, take, drop, Result, Ok, Err, refl, sym, ap, subst, ◌∙◌, append_assoc}
use Rattle.std.proofs.lemmas.List.{take-append-drop, append-nil}
use Rattle.c_syntax.specs.declared.place.Place.{Place}
use Rattle.c_model.specs.declared.c_tokens.Mode.{Mode}
use Rattle.c_model.specs.declared.c_tokens.Mode.TheVariants.{Code}
use Rattle.c_model.specs.declared.c_tokens.Found.{Found}
use Rattle.c_model.specs.declared.c_tokens.Fault.{Fault}
use Rattle.c_model.specs.Places.{next, walk, first_place}
use Rattle.c_model.specs.MonitoredTokens.{fresh_behind, fresh_after}
use Rattle.c_model.specs.MonitoredTokenLaws.{place_of}
use Rattle.c_model.specs.Pieces.{Pieces, Ended, Broken, Cut, piece_at, mode_after, cut, pieces_of}
use Rattle.c_model.specs.CTokenLaws.{bytes_of, ArePlaced, Spells, AreSpelled, Breaks, AreBroken}
use Rattle.c_model.proofs.PieceLaws.{drop_nil, take_nil, walk-append, walk_place, fresh-append, fresh_starts}
use Rattle.c_model.proofs.CSpelling.{piece_spells}
use Rattle.c_model.proofs.CBroken.{piece_breaks}

cut_joined : (k : ℕ) (at : Place) (fresh : Bool) (m : Mode) (bs : List ℕ) → bytes_of (cut k at fresh m bs) ≡ drop k bs
unfolding cut
cut_joined k at fresh m [] = drop_nil k
cut_joined (suc k) at fresh m (b ∷ bs) = cut_joined k (next at b) (fresh_behind fresh b) m bs
cut_joined zero at fresh m (b ∷ bs) = by (piece_at m fresh (b ∷ bs)) refl (λ n m2. cut_joined n (next at b) (fresh_behind fresh b) m2 bs)
  where
    by : (r : Result Found Fault) → piece_at m fresh (b ∷ bs) ≡ r → ((n : ℕ) (m2 : Mode) → bytes_of (cut n (next at b) (fresh_behind fresh b) m2 bs) ≡ drop n bs) → bytes_of (cut 0 at fresh m (b ∷ bs)) ≡ b ∷ bs
    by (Err f) e rest = rw (e, cut) refl
    by (Ok x) e rest =
        let one : bytes_of (cut 0 at fresh m (b ∷ bs)) ≡ (b ∷ take x.more bs) ++ bytes_of (cut x.more (next at b) (fresh_behind fresh b) (mode_after m x.piece) bs) = rw (e, cut) refl in
        one ∙ ap (λ (t : List ℕ). (b ∷ take x.more bs) ++ t) (rest x.more (mode_after m x.piece)) ∙ ap (λ (t : List ℕ). b ∷ t) (take-append-drop x.more bs)

pub pieces_joined : (text : List ℕ) → bytes_of (pieces_of text) ≡ text
pieces_joined text = cut_joined 0 first_place true Code text

-- each piece is at its place and spelled as its kind is, and what is broken is broken as its fault says
abbrev AreSound : List ℕ → Mode → Pieces → Type 0
AreSound before m (Ended at n) = (at ≡ place_of before) × (n ≡ m)
AreSound before m (Broken at f rest) = (at ≡ place_of before) × Breaks before m f rest
AreSound before m (Cut at p bytes more) = (at ≡ place_of before) × Spells before m p bytes (bytes_of more) × AreSound (before ++ bytes) (mode_after m p) more

cut_sound : (k : ℕ) (before : List ℕ) (m : Mode) (bs : List ℕ) → AreSound (before ++ take k bs) m (cut k (walk first_place before) (fresh_after true before) m bs)
unfolding cut
cut_sound k before m [] = rw (take_nil k, append-nil) (walk_place before, refl)
cut_sound (suc k) before m (b ∷ bs) =
    let one = cut_sound k (before ++ b ∷ []) m bs in
    let two = subst (λ (at : Place). AreSound ((before ++ b ∷ []) ++ take k bs) m (cut k at (fresh_after true (before ++ b ∷ [])) m bs)) (walk-append first_place before (b ∷ [])) one in
    let three = subst (λ (fresh : Bool). AreSound ((before ++ b ∷ []) ++ take k bs) m (cut k (next (walk first_place before) b) fresh m bs)) (fresh-append true before (b ∷ [])) two in
    subst (λ (l : List ℕ). AreSound l m (cut k (next (walk first_place before) b) (fresh_behind (fresh_after true before) b) m bs)) (append_assoc before (b ∷ []) (take k bs)) three
cut_sound zero before m (b ∷ bs) = subst (λ (l : List ℕ). AreSound l m (cut 0 (walk first_place before) (fresh_after true before) m (b ∷ bs))) (sym (append-nil before))
    (by (piece_at m (fresh_after true before) (b ∷ bs)) refl (λ n m2. cut_sound n (before ++ b ∷ []) m2 bs))
  where
    by : (r : Result Found Fault) → piece_at m (fresh_after true before) (b ∷ bs) ≡ r
        → ((n : ℕ) (m2 : Mode) → AreSound ((before ++ b ∷ []) ++ take n bs) m2 (cut n (walk first_place (before ++ b ∷ [])) (fresh_after true (before ++ b ∷ [])) m2 bs))
        → AreSound before m (cut 0 (walk first_place before) (fresh_after true before) m (b ∷ bs))
    by (Err f) e rest = rw (e, cut) (walk_place before, piece_breaks before m b bs f (ap (λ (fresh : Bool). piece_at m fresh (b ∷ bs)) (sym (fresh_starts before)) ∙ e))
    by (Ok x) e rest =
        let m2 = mode_after m x.piece in
        let one = rest x.more m2 in
        let two = subst (λ (at : Place). AreSound ((before ++ b ∷ []) ++ take x.more bs) m2 (cut x.more at (fresh_after true (before ++ b ∷ [])) m2 bs)) (walk-append first_place before (b ∷ [])) one in
        let three = subst (λ (fresh : Bool). AreSound ((before ++ b ∷ []) ++ take x.more bs) m2 (cut x.more (next (walk first_place before) b) fresh m2 bs)) (fresh-append true before (b ∷ [])) two in
        let four = subst (λ (l : List ℕ). AreSound l m2 (cut x.more (next (walk first_place before) b) (fresh_behind (fresh_after true before) b) m2 bs)) (append_assoc before (b ∷ []) (take x.more bs)) three in
        let behind : bytes_of (cut x.more (next (walk first_place before) b) (fresh_behind (fresh_after true before) b) m2 bs) ≡ drop x.more bs = cut_joined x.more (next (walk first_place before) b) (fresh_behind (fresh_after true before) b) m2 bs in
        let spelled = subst (λ (l : List ℕ). Spells before m x.piece (b ∷ take x.more bs) l) (sym behind) (piece_spells before m (b ∷ bs) x (ap (λ (fresh : Bool). piece_at m fresh (b ∷ bs)) (sym (fresh_starts before)) ∙ e)) in
        rw (e, cut) (walk_place before, spelled, four)

pieces_sound : (text : List ℕ) → AreSound [] Code (pieces_of text)
pieces_sound text = cut_sound 0 [] Code text

sound_placed : (before : List ℕ) (m : Mode) (ps : Pieces) → AreSound before m ps → ArePlaced before ps
sound_placed before m (Ended at n) h = h.0
sound_placed before m (Broken at f rest) h = h.0
sound_placed before m (Cut at p bytes more) h = (h.0, sound_placed (before ++ bytes) (mode_after m p) more h.2)

pub pieces_placed : (text : List ℕ) → ArePlaced [] (pieces_of text)
pieces_placed text = sound_placed [] Code (pieces_of text) (pieces_sound text)

sound_spelled : (before : List ℕ) (m : Mode) (ps : Pieces) → AreSound before m ps → AreSpelled before m ps
sound_spelled before m (Ended at n) h = h.1
sound_spelled before m (Broken at f rest) h = tt
sound_spelled before m (Cut at p bytes more) h = (h.1, sound_spelled (before ++ bytes) (mode_after m p) more h.2)

pub pieces_spelled : (text : List ℕ) → AreSpelled [] Code (pieces_of text)
pieces_spelled text = sound_spelled [] Code (pieces_of text) (pieces_sound text)

sound_broken : (before : List ℕ) (m : Mode) (ps : Pieces) → AreSound before m ps → AreBroken before m ps
sound_broken before m (Ended at n) h = tt
sound_broken before m (Broken at f rest) h = h.1
sound_broken before m (Cut at p bytes more) h = sound_broken (before ++ bytes) (mode_after m p) more h.2

pub pieces_broken : (text : List ℕ) → AreBroken [] Code (pieces_of text)
pieces_broken text = sound_broken [] Code (pieces_of text) (pieces_sound text)
